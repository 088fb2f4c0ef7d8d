use Rattle.std.proofs.Common.{◌≡◌, ◌+◌, ◌-◌, ◌∷◌, ◌++◌, [], ℕ, List, length, drop, decimal, ap, sym, ◌∙◌, arith, append_assoc}
use Rattle.std.proofs.lemmas.List.{drop-set, length-set, length-take, length-drop}
use Rattle.std.proofs.Math.ListN.{set}
use borrow.Rule.Slice.PartMut.{put_mid}
use Rattle.ncc_decimal.proofs.Overlaid.{drop_into}
use Rattle.ncc_csv.proofs.row.lay_row.Goals as goal

-- what stands behind a row may be taken for its end
joined : (front index text behind : List ℕ) → front ++ (index ++ 44 ∷ (text ++ 10 ∷ behind)) ≡ (front ++ (index ++ 44 ∷ (text ++ 10 ∷ []))) ++ behind
joined front index text behind =
    sym (append_assoc front (index ++ 44 ∷ (text ++ 10 ∷ [])) behind
    ∙ ap (λ (l : List ℕ). front ++ l) (append_assoc index (44 ∷ (text ++ 10 ∷ [])) behind
    ∙ ap (λ (l : List ℕ). index ++ 44 ∷ l) (append_assoc text (10 ∷ []) behind)))

pub returns-clause-row : goal.returns-clause-row
returns-clause-row g c =
    let v = c.write-end in
    let w = c.write_unsigned-start in
    let room = c.args.room.now in
    let end = v.result - 1 in
    let s = w.result in
    let a = s - 64 in
    let n = c.args.size in
    let text = g.T.Cell.text c.args.style c.args.value in
    let last : c.args.at - 1 + 1 ≡ c.args.at = omega arith in
    let one : end + 1 ≡ v.result = omega (arith, v.ensures.start, v.ensures.short) in
    let first : s - n ≡ a + (64 - n) = omega (arith, v.ensures.start, v.ensures.short, w.ensures.start, w.ensures.short, c.requires.short) in
    let whole : a + (s - a) ≡ s = omega arith in
    let feed : drop (c.args.at - 1) (set room (c.args.at - 1) 10) ≡ 10 ∷ drop c.args.at room =
    drop-set room (c.args.at - 1) 10 (omega (arith, c.requires.there)) ∙ ap (λ (m : ℕ). 10 ∷ drop m room) last in
    let there : length v.new.room ≡ length room = v.auto.room ∙ length-set room (c.args.at - 1) 10 in
    let lens : length w.new.room ≡ length room = w.auto.room ∙ length-set v.new.room end 44 ∙ there in
    let rest : drop s w.new.room ≡ decimal c.args.index ++ 44 ∷ (text ++ 10 ∷ drop c.args.at room) =
    w.ensures.written
    ∙ ap (λ (l : List ℕ). decimal c.args.index ++ l) (drop-set v.new.room end 44 (omega (arith, v.ensures.start, v.ensures.short, there, c.requires.there))
    ∙ ap (λ (m : ℕ). 44 ∷ drop m v.new.room) one ∙ ap (λ (l : List ℕ). 44 ∷ l) (v.ensures.written ∙ ap (λ (l : List ℕ). text ++ l) feed)) in
    let long : length c.copy_from_slice.new.self ≡ s - a =
    c.copy_from_slice.ensures.len ∙ length-take (s - a) (drop a w.new.room) ∙ omega (arith, length-drop a w.new.room, lens, w.ensures.start, v.ensures.start, c.requires.there) in
    ap (λ (m : ℕ). drop m (put_mid a (s - a) w.new.room c.copy_from_slice.new.self)) first
    ∙ drop_into a (s - a) (64 - n) w.new.room c.copy_from_slice.new.self (omega (arith, lens, w.ensures.start, v.ensures.start, c.requires.there)) long (omega (arith, v.ensures.start, v.ensures.short, w.ensures.start, w.ensures.short))
    ∙ ap (λ (l : List ℕ). drop (64 - n) l ++ drop (a + (s - a)) w.new.room) c.copy_from_slice.ensures.after
    ∙ ap (λ (m : ℕ). drop (64 - n) c.args.front.now ++ drop m w.new.room) whole
    ∙ ap (λ (l : List ℕ). drop (64 - n) c.args.front.now ++ l) rest
    ∙ joined (drop (64 - n) c.args.front.now) (decimal c.args.index) text (drop c.args.at room)
