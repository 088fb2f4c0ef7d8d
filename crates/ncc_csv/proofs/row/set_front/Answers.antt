use Rattle.std.proofs.Common.{◌≡◌, ◌<◌, ◌∷◌, ◌++◌, ◌∙◌, [], ℕ, List, append_assoc, ap, sym, arith, length, map, take, get_or}
use Rattle.std.proofs.lemmas.List.{get_or-map, length-map, take_more}
use Rattle.ncc_csv.specs.Plain.{with_commas}
use Rattle.ncc_csv.specs.Word.{word_text}
use Rattle.ncc_csv.proofs.Plain.{one_comma, words_before}
use Rattle.ncc_csv.proofs.Runs.{on_err}
use Rattle.ncc_csv.proofs.row.set_front.Goals as goal

pub loop-k-preserved : goal.loop-k-preserved
loop-k-preserved c =
    let k = c.loop-k.k in
    let texts = map word_text c.args.heads.now in
    let done = with_commas (take k texts) in
    let word = c.index-heads-k.result in
    let inside : k < length texts = omega (arith, length-map c.args.heads.now word_text, c.loop-k-test.true) in
    let text : word_text word ≡ get_or texts k [] =
    ap word_text c.index-heads-k.is ∙ sym (get_or-map word_text c.args.heads.now k word [] c.loop-k-test.true) in
    record {
      front = c.in_ok-push.ensures.items
          ∙ ap (λ (t : List ℕ). t ++ 44 ∷ []) (c.in_ok-extend_from_slice.ensures.items ∙ ap (λ (t : List ℕ). t ++ c.as_slice.result.now) c.loop-k.invariant.front ∙ ap (λ (t : List ℕ). done ++ t) (c.as_slice.ensures ∙ text))
          ∙ append_assoc done (get_or texts k []) (44 ∷ [])
          ∙ sym (one_comma (take k texts) (get_or texts k []))
          ∙ ap (λ (l : List (List ℕ)). with_commas l) (sym (take_more texts k [] inside));
      room = omega (arith, c.loop-k.invariant.room, c.in_ok-extend_from_slice.ensures.capacity, c.in_ok-push.ensures.capacity);
    }

pub returns-in_err-extend_from_slice-clause-full : goal.returns-in_err-extend_from_slice-clause-full
returns-in_err-extend_from_slice-clause-full c =
    let k = c.loop-k.k in
    let texts = map word_text c.args.heads.now in
    let word = c.index-heads-k.result in
    let inside : k < length texts = omega (arith, length-map c.args.heads.now word_text, c.loop-k-test.true) in
    let text : c.as_slice.result.now ≡ get_or texts k [] =
    c.as_slice.ensures ∙ ap word_text c.index-heads-k.is ∙ sym (get_or-map word_text c.args.heads.now k word [] c.loop-k-test.true) in
    on_err c.from_residual.result _
    (omega (arith, c.in_err-extend_from_slice.ensures.full, c.loop-k.invariant.room, ap length c.loop-k.invariant.front, ap length text, words_before texts k inside))

pub returns-in_err-push-clause-full : goal.returns-in_err-push-clause-full
returns-in_err-push-clause-full c =
    let k = c.loop-k.k in
    let texts = map word_text c.args.heads.now in
    let word = c.index-heads-k.result in
    let inside : k < length texts = omega (arith, length-map c.args.heads.now word_text, c.loop-k-test.true) in
    let text : c.as_slice.result.now ≡ get_or texts k [] =
    c.as_slice.ensures ∙ ap word_text c.index-heads-k.is ∙ sym (get_or-map word_text c.args.heads.now k word [] c.loop-k-test.true) in
    on_err c.from_residual-in_err-push.result _
    (omega (arith, c.in_err-push.ensures.full, c.in_ok-extend_from_slice.ensures.capacity, c.in_ok-extend_from_slice.ensures.len, c.loop-k.invariant.room, ap length c.loop-k.invariant.front, ap length text, words_before texts k inside))
