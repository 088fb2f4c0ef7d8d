use Rattle.std.proofs.Common.{◌+◌, sym, subst}
use Rattle.std.proofs.Math.Logic.{∥∥₁_elim, ∥∥₁_map}
use Rattle.std.proofs.Props.{props}
use Rattle.std.specs.List.{AllByRecursion-prop}
use Rattle.ncc_layout.specs.Elements.{AreLaid, AreSized, HasLengths}
use Rattle.ncc_layout.proofs.Lengthening.{all_have_lengths, laid_with_more, sized_with_more}
use Rattle.ncc_layout.proofs.placed_file.Placed.one_more.Goals as goal

pub lengthen-requires : goal.lengthen-requires
lengthen-requires c =
    let p = c.args.self.now in
    ∥∥₁_elim p.laid (AllByRecursion-prop HasLengths (λ x. search props) p.vars.items) (λ laid. all_have_lengths p.records p.vars.items laid.shaped)

pub invariant_of-self : goal.invariant_of-self
invariant_of-self c =
    let p = c.args.self.now in
    record {
      fits = c.ranges.file_length.fits;
      laid = ∥∥₁_map p.laid (λ laid. subst (AreLaid p.header_length c.args.file_length p.record_size (p.records + 1)) (sym c.lengthen.ensures)
          (laid_with_more p.header_length p.file_length c.args.file_length p.record_size p.records (p.records + 1) p.vars.items laid c.requires.rules));
      sized = ∥∥₁_map p.sized (λ sized. subst (AreSized p.record_size) (sym c.lengthen.ensures) (sized_with_more p.record_size (p.records + 1) p.vars.items sized));
    }
