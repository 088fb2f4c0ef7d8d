use Rattle.std.proofs.Common.{◌≡◌, ℕ, ◌+◌, ◌*◌, length, ap, ap₂, sym, ◌∙◌, arith}
use Rattle.ncc_values.specs.Version.{count_width_of}
use Rattle.ncc_values.specs.declared.version.Version.{Version}
use Rattle.ncc_values.specs.declared.version.Version.TheVariants.{V1, V2, V5}
use Rattle.ncc_schema.specs.Names.{capped}
use Rattle.ncc_schema.proofs.Sizes.{length-canon_dimids}
use Rattle.ncc_schema.proofs.rules.var.dimids_size.Goals as goal

capped_words : (v : Version) (n : ℕ) → capped (capped (n + 1) * count_width_of v) ≡ capped (count_width_of v * (1 + n))
capped_words V1 n = omega arith
capped_words V2 n = omega arith
capped_words V5 n = omega arith

pub returns : goal.returns
returns c =
    let v = c.args.version in
    let number = length c.args.ids.now in
    c.saturating_mul.ensures ∙ ap₂ (λ m w. capped (m * w)) c.saturating_add-number.ensures c.count_width.ensures ∙ capped_words v number ∙ ap capped (sym (length-canon_dimids v c.args.ids.now))
