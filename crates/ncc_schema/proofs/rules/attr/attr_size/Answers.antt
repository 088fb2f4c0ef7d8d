use Rattle.std.proofs.Common.{◌≡◌, ℕ, ◌+◌, ◌*◌, length, ap, ap₂, ◌∙◌, arith}
use Rattle.ncc_values.specs.Padding.{padding_of}
use Rattle.ncc_values.specs.Values.{type_of, count_of}
use Rattle.ncc_values.specs.XType.{size_of}
use Rattle.ncc_schema.specs.Header.{canon_name}
use Rattle.ncc_schema.specs.Names.{capped}
use Rattle.ncc_schema.proofs.Sizes.{length-canon_attr}
use Rattle.ncc_schema.proofs.rules.attr.attr_size.Goals as goal

-- the padding of a length past the cap doesn't matter
capped_padded : (name fixed values : ℕ) → capped (capped (capped name + capped values) + (fixed + padding_of (capped values))) ≡ capped (name + fixed + values + padding_of values)
capped_padded name fixed values = omega arith

pub returns : goal.returns
returns c =
    let values = c.args.attr.now.values in
    let product : c.len-number.result * c.size.result ≡ count_of values * size_of (type_of values) = ap₂ (λ m n. m * n) c.len-number.ensures (c.size.ensures ∙ ap size_of c.xtype.ensures) in
    let bytes : c.saturating_mul-values.result ≡ capped (count_of values * size_of (type_of values)) = c.saturating_mul-values.ensures ∙ ap capped product in
    let name = ap (λ n. length (canon_name c.args.version n)) c.as_slice.ensures in
    omega (
      arith,
      bytes,
      ap padding_of bytes,
      capped_padded (length (canon_name c.args.version c.args.attr.now.name)) (4 + c.count_width.result) (count_of values * size_of (type_of values)),
      length-canon_attr c.args.version c.args.attr.now,
      c.name_size-name.ensures,
      name,
      c.count_width.ensures,
      c.pad.ensures.padding,
    )
