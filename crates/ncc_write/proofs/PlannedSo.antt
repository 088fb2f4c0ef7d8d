-- A schema with these versions and counts is planned.
use Rattle.std.proofs.Common.{◌≡◌, sym, ap, ◌∙◌}
use Rattle.ncc_values.specs.declared.version.Version.{Version}
use Rattle.ncc_schema.specs.declared.schema.Schema.{Schema}
use Rattle.ncc_schema.specs.Schema.{with_count}
use Rattle.ncc_layout.specs.declared.placed_file.Placed.{Placed}
use Rattle.ncc_layout.specs.Placed.{records_of_file}
use Rattle.ncc_build.specs.Dataset.{with_version}
use Rattle.ncc_write.specs.Planned.{IsPlanned, found_schema}

pub planned_so : (s : Schema) (p : Placed) (v : Version) (t : Schema) → t ≡ with_count (with_version s v) (records_of_file p)
    → IsPlanned s p t
planned_so s p v t is = is ∙ ap (with_version (found_schema s p)) (sym (ap (λ (u : Schema). u.version) is))
