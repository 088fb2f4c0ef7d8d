use Rattle.std.proofs.Common.{◌≡◌, List, map, ap, ◌∙◌}
use Rattle.ncc_layout.specs.declared.placed_var.PlacedVar.{PlacedVar}
use Rattle.ncc_layout.specs.Extents.{records_of}
use Rattle.ncc_layout.specs.Bounds.{first_begin}
use Rattle.ncc_layout.specs.Placed.{extents_of_file}
use Rattle.ncc_layout.proofs.LeastBegins.{is_least, first_begin_is}
use Rattle.ncc_layout.proofs.placed_file.Placed.records_begin.Goals as goal

pub returns : goal.returns
returns c =
    let records = records_of (extents_of_file c.args.self.now) in
    let same : c.first_begin_of.result ≡ first_begin records =
    c.first_begin_of.ensures ∙ ap (λ (vars : List PlacedVar). first_begin (records_of (map (λ x. x.extent) vars))) c.as_slice.ensures.value in
    record { value = same ∙ first_begin_is records; least = is_least records c.first_begin_of.result same }
