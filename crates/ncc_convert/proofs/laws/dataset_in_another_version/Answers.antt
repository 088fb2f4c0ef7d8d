use Rattle.std.proofs.Common.{sym, subst}
use Rattle.ncc_schema.specs.declared.schema.Schema.{Schema}
use Rattle.ncc_schema.specs.Schema.{Sound}
use Rattle.ncc_build.specs.Dataset.{with_version}
use Rattle.ncc_write.specs.Planned.{found_schema}
use Rattle.ncc_convert.proofs.FoundData.{is_version, of_version}
use Rattle.ncc_convert.proofs.laws.dataset_in_another_version.Goals as goal

pub returns : goal.returns
returns c = λ bytes s p v d is of sound. (
  is_version d v is (subst (λ (u : Schema). Sound (with_version u v)) (sym of.schema_is) sound),
  of_version bytes p (found_schema s p) v d of,
)
