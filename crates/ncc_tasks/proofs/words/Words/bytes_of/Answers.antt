use Rattle.std.proofs.Common.{◌≡◌, List, ap, nat_eq, sym, ◌∙◌}
use Rattle.std.specs.Prelude.{string_bytes}
use Rattle.std.specs.Cmp.Lexicographic.{pointwise}
use Rattle.ncc_tasks.specs.Words.{bytes_among}
use Rattle.ncc_tasks.specs.declared.words.Alias.{Alias}
use Rattle.ncc_tasks.proofs.Named.{named_here, named_later, named_nowhere}
use Rattle.ncc_tasks.proofs.words.Words.bytes_of.Goals as goal

pub returns-then-eq : goal.returns-then-eq
returns-then-eq c =
    let text = c.args.text.now in
    let eq : c.eq.result ≡ pointwise nat_eq (string_bytes c.alias-item.result.text) text = c.eq.ensures ∙ ap (λ b. pointwise nat_eq b text) c.as_str.ensures.value in
    let here = named_here c.deref-alias-items.result.now c.loop-alias.alias-index c.alias-item.result c.alias-item.result text c.loop-alias-test.true c.alias-item.is c.eq.result eq c.if-eq.true in
    c.deref.ensures.value ∙ sym here ∙ c.loop-alias.invariant
    ∙ ap (λ (l : List Alias). bytes_among l text) c.deref-alias-items.ensures.value

pub loop-alias-preserved : goal.loop-alias-preserved
loop-alias-preserved c =
    let text = c.args.text.now in
    let eq : c.eq.result ≡ pointwise nat_eq (string_bytes c.alias-item.result.text) text = c.eq.ensures ∙ ap (λ b. pointwise nat_eq b text) c.as_str.ensures.value in
    sym (named_later c.deref-alias-items.result.now c.loop-alias.alias-index c.alias-item.result c.alias-item.result text c.loop-alias-test.true c.alias-item.is c.eq.result eq c.if-eq.false) ∙ c.loop-alias.invariant

pub returns : goal.returns
returns c =
    let text = c.args.text.now in
    c.as_bytes.ensures.value
    ∙ sym (named_nowhere c.deref-alias-items.result.now c.loop-alias.alias-index text c.loop-alias-test.false)
    ∙ c.loop-alias.invariant ∙ ap (λ (l : List Alias). bytes_among l text) c.deref-alias-items.ensures.value
