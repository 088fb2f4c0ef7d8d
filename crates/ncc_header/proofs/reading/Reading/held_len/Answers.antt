use Rattle.std.proofs.Common.{◌≡◌, ℕ, ◌+◌, ◌*◌, ◌++◌, length, sym, ap, ap₂, subst, ◌∙◌}
use Rattle.std.proofs.lemmas.List.{length-append}
use Rattle.ncc_values.specs.Values.{bytes_of}
use Rattle.ncc_values.specs.XType.{size_of}
use Rattle.ncc_values.proofs.ValuesLemmas.{length-bytes_of}
use Rattle.ncc_header.specs.declared.partial.Next.{Next}
use Rattle.ncc_header.specs.Left.{front_of}
use Rattle.ncc_header.proofs.reading.Reading.held_len.Goals as goal

pub returns-in-AttrValues : goal.returns-in-AttrValues
returns-in-AttrValues c =
    let r = c.args.self.now in
    let values = r.partial.body.values in
    let whole : c.len-in-AttrValues.result * c.size.result ≡ length (bytes_of values) =
    ap₂ (λ (n s : ℕ). n * s) c.len-in-AttrValues.ensures (c.size.ensures ∙ ap size_of c.xtype.ensures) ∙ sym (length-bytes_of values) in
    let both : c.len-in-AttrValues.result * c.size.result + c.len-held.result ≡ length (bytes_of values ++ r.held.items) =
    ap₂ (λ (a b : ℕ). a + b) whole c.len-held.ensures.value ∙ sym (length-append (bytes_of values) r.held.items) in
    subst (λ (n : Next). c.len-in-AttrValues.result * c.size.result + c.len-held.result ≡ length (front_of n r.partial r.held.items)) (sym c.in-AttrValues.is) both
