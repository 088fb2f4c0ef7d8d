use Rattle.std.proofs.Common.{◌≡◌, ℕ, None, refl, ap, subst, arith}
use Rattle.std.specs.Prelude.{unwrap_or}
use Rattle.ncc_values.specs.Version.{version_of}
use Rattle.ncc_values.specs.declared.version.Version.TheVariants.{V1}
use Rattle.ncc_header.specs.Fields.{version_wrong}
use Rattle.ncc_header.specs.Left.{from_version}
use Rattle.ncc_header.proofs.rules.magic.after_version.Goals as goal

pub returns : goal.returns
returns c =
    let v = c.in_ok-partial.field-0 in
    record {
      advances = (
        subst (λ (n : ℕ). version_wrong n ≡ None) c.number.ensures c.in_ok-partial.ensures.judged,
        subst (λ (n : ℕ). from_version (unwrap_or (version_of n) V1) ≡ from_version v) c.number.ensures (ap from_version c.in_ok-partial.ensures.value),
      );
      begins = refl;
      fresh = refl;
      first = omega (arith, c.requires);
    }
