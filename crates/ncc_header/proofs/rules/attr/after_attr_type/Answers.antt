use Rattle.std.proofs.Common.{◌≡◌, ℕ, None, Option, refl, ap, subst, arith}
use Rattle.ncc_values.specs.declared.xtype.XType.{XType}
use Rattle.ncc_values.specs.declared.xtype.XType.TheVariants.{Byte}
use Rattle.std.specs.Prelude.{unwrap_or}
use Rattle.ncc_header.specs.Fields.{nc_type_wrong}
use Rattle.ncc_header.specs.Left.{in_attr, from_attr_count}
use Rattle.ncc_header.proofs.rules.attr.after_attr_type.Goals as goal

pub returns : goal.returns
returns c =
    let b = c.args.partial.now in
    let v = b.lists.parts.version in
    record {
      advances = (
        subst (λ (n : ℕ). nc_type_wrong v n ≡ None) c.number.ensures c.in_ok-xtype.ensures.judged,
        ap (λ (o : Option XType). in_attr c.args.owner b.lists (from_attr_count v b.name (unwrap_or o Byte))) (rw c.number.ensures at c.in_ok-xtype.ensures.value),
      );
      begins = refl;
      fresh = refl;
      first = omega (arith, c.requires);
    }
