-- Putting out a text by turns.
use Rattle.std.proofs.Common.{◌≡◌, ℕ, List, [], ◌++◌, Option, Some, None, Ok, Err, refl, sym, ap, subst, ◌∙◌, append_assoc}
use Rattle.std.proofs.lemmas.List.{append-nil}
use Rattle.std.specs.Prelude.{Result}
use Rattle.std.specs.Result.{IsErrAnd}
use Rattle.std.proofs.lemmas.Result.{err_from_is_err_and}
use Rattle.ncc_values.specs.declared.failures.Device.{Device}
use Rattle.ncc_schema.specs.Device.{Puts, WritesAll}

-- told bytes that grow twice grow by both
pub puts_both : (old mid new : Option (List ℕ)) (a b : List ℕ) → Puts old mid a → Puts mid new b → Puts old new (a ++ b)
puts_both None mid new a b p q = tt
puts_both (Some xs) mid new a b p q =
    let r : Puts (Some (xs ++ a)) new b = subst (λ (m : Option (List ℕ)). Puts m new b) p q in
    r ∙ ap (λ (z : List ℕ). Some z) (append_assoc xs a b)

pub puts_none : (old : Option (List ℕ)) → Puts old old []
puts_none None = tt
puts_none (Some xs) = ap (λ (z : List ℕ). Some z) (sym (append-nil xs))

-- a front of the text went out, and the rest is to be put out
pub record SoFar (old now : Option (List ℕ)) (text rest : List ℕ) : Type 0 where
  pub front : List ℕ
  pub joined : text ≡ front ++ rest
  pub puts : Puts old now front

pub so_far_at_first : (old : Option (List ℕ)) (text : List ℕ) → SoFar old old text text
so_far_at_first old text = record { front = []; joined = refl; puts = puts_none old }

pub so_far_more : (old now new : Option (List ℕ)) (text rest piece after : List ℕ) → SoFar old now text rest → rest ≡ piece ++ after → Puts now new piece → SoFar old new text after
so_far_more old now new text rest piece after s e p = record {
  front = s.front ++ piece;
  joined = s.joined ∙ ap (λ (z : List ℕ). s.front ++ z) e ∙ sym (append_assoc s.front piece after);
  puts = puts_both old now new s.front piece s.puts p;
}

-- a text of two parts goes out where the first part went out and the second does, or a front of it
pub writes_both : (old mid new : Option (List ℕ)) (a b : List ℕ) (r : Result (Unit {0}) Device) → Puts old mid a → WritesAll mid new r b → WritesAll old new r (a ++ b)
writes_both old mid new a b (Ok x) p w = puts_both old mid new a b p w
writes_both old mid new a b (Err e) p w = (a ++ w.0, w.1, ap (λ (z : List ℕ). a ++ z) w.2 ∙ sym (append_assoc a w.0 w.1), puts_both old mid new a w.0 p w.3)

-- a front of it, where the first part didn't go out
pub writes_front : (old new : Option (List ℕ)) (a b : List ℕ) (e : Device) → WritesAll old new (Err e) a → WritesAll old new (Err e) (a ++ b)
writes_front old new a b e w = (w.0, w.1 ++ b, ap (λ (z : List ℕ). z ++ b) w.2 ∙ append_assoc w.0 w.1 b, w.3)

-- the same, behind a front that went out
pub writes_front_so_far : (old now new : Option (List ℕ)) (text rest piece after : List ℕ) (e : Device) → SoFar old now text rest → rest ≡ piece ++ after → WritesAll now new (Err e) piece → WritesAll old new (Err e) text
writes_front_so_far old now new text rest piece after e s split w =
    subst (λ (t : List ℕ). WritesAll old new (Err e) t) (sym (s.joined ∙ ap (λ (z : List ℕ). s.front ++ z) split))
    (writes_both old now new s.front (piece ++ after) (Err e) s.puts (writes_front now new piece after e w))

-- all of it went out
pub so_far_all : (old now : Option (List ℕ)) (text rest : List ℕ) → SoFar old now text rest → rest ≡ [] → Puts old now text
so_far_all old now text rest s none = subst (λ (t : List ℕ). Puts old now t) (sym (s.joined ∙ ap (λ (z : List ℕ). s.front ++ z) none ∙ append-nil s.front)) s.puts

-- ---- exits

-- behind the exit of a `?`, where a part didn't go out
pub fails_at : (Q : Device → Type 0) (old new : Option (List ℕ)) (a b : List ℕ) (r : Result (Unit {0}) Device) (e : Device) → IsErrAnd r Q → WritesAll old new (Err e) a → WritesAll old new r (a ++ b)
fails_at Q old new a b r e exit w =
    let p = err_from_is_err_and r exit in
    subst (λ (q : Result (Unit {0}) Device). WritesAll old new q (a ++ b)) (sym p.1) (writes_front old new a b p.0 w)
