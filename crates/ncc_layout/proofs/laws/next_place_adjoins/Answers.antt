use Rattle.std.proofs.Common.{◌+◌, subst, Bool, sym, arith, ◌≡◌}
use Rattle.ncc_values.specs.XType.{size_of}
use Rattle.ncc_layout.specs.Elements.{offset_in, next_index}
use Rattle.ncc_layout.proofs.NextPlaces.{next_offset, next_record}
use Rattle.ncc_layout.proofs.laws.next_place_adjoins.Goals as goal

pub returns-clause-element : goal.returns-clause-element
returns-clause-element c = λ record_size x index same some. omega (arith, next_offset record_size (size_of x.xtype) x.extent.is_record x.shape index same some)

pub returns-clause-record : goal.returns-clause-record
returns-clause-record c = λ record_size x index same is one.
    let next = next_record record_size (size_of x.xtype) x.shape index same one in
    omega (
      arith,
      subst (λ (b : Bool). offset_in record_size (size_of x.xtype) b x.shape (next_index index) ≡ offset_in record_size (size_of x.xtype) b x.shape index + record_size) (sym is) next,
    )
