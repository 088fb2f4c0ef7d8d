use Rattle.std.proofs.Common.{◌≡◌, ℕ, None, refl, sym, ap₂, subst, arith}
use Rattle.ncc_values.specs.declared.xtype.XType.{XType}
use Rattle.ncc_header.specs.Fields.{nelems_wrong}
use Rattle.ncc_header.specs.Left.{in_attr, from_values}
use Rattle.ncc_header.proofs.rules.attr.after_attr_count.Goals as goal

pub returns : goal.returns
returns c =
    let b = c.args.partial.now in
    record {
      advances = (
        subst (λ (n : ℕ). nelems_wrong b.lists.parts.version n ≡ None) c.number-n.ensures c.in_ok-judge_nelems.ensures,
        ap₂ (λ (t : XType) (n : ℕ). in_attr c.args.owner b.lists (from_values b.name t n)) (sym c.no_body.ensures.xtype) (sym c.number-n.ensures),
      );
      begins = refl;
      fresh = c.no_body.ensures.none;
      first = omega (arith, c.requires);
    }
