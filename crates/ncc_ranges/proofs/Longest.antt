-- One more stretch after those that were put.
use Rattle.std.proofs.Common.{◌≡◌, ℕ, ◌+◌, ◌<◌, List, [], ◌∷◌, ◌++◌, length, take, set, sym, ap, subst, ◌∙◌}
use Rattle.std.proofs.lemmas.Grind.{flat_map-append}
use Rattle.std.proofs.lemmas.List.{append-nil, append_assoc, take_more_set}
use Rattle.ncc_ranges.specs.declared.runs.Stretch.{Stretch}
use Rattle.ncc_ranges.specs.Runs.{LeavesBehind, StopsBefore, AreLongest, AreSome, places_in, places_of_stretch}

places_more : (size : ℕ) (old new : List ℕ) (s : Stretch) (ss : List Stretch) → LeavesBehind size old new s
    → places_in size ss ++ old ≡ places_in size (ss ++ s ∷ []) ++ new
places_more size old new s ss left =
    ap (λ (l : List ℕ). places_in size ss ++ l) left
    ∙ sym (append_assoc (places_in size ss) (places_of_stretch size s) new)
    ∙ ap (λ (l : List ℕ). (places_in size ss ++ l) ++ new) (sym (append-nil (places_of_stretch size s)))
    ∙ ap (λ (l : List ℕ). l ++ new) (sym (flat_map-append (places_of_stretch size) ss (s ∷ [])))

longest_more : (size : ℕ) (old new : List ℕ) (s : Stretch) (ss : List Stretch) → LeavesBehind size old new s → StopsBefore size new s
    → AreLongest size old ss → AreLongest size new (ss ++ s ∷ [])
longest_more size old new s [] left stops are = (stops, tt)
longest_more size old new s (t ∷ ss) left stops are =
    (subst (λ (l : List ℕ). StopsBefore size l t) (places_more size old new s ss left) are.0, longest_more size old new s ss left stops are.1)

some_more : (s : Stretch) (ss : List Stretch) → 0 < s.count → AreSome ss → AreSome (ss ++ s ∷ [])
some_more s [] some are = (some, tt)
some_more s (t ∷ ss) some are = (are.0, some_more s ss some are.1)

-- what holds of the stretches that were put, where this many places are left of all
pub record Put (size : ℕ) (all left : List ℕ) (ss : List Stretch) : Type 0 where
  pub some : AreSome ss
  pub longest : AreLongest size left ss
  pub places : all ≡ places_in size ss ++ left

-- and of one more, after the first ones
pub one_more : (size : ℕ) (all old new : List ℕ) (s : Stretch) (out : List Stretch) (k : ℕ) → k < length out
    → LeavesBehind size old new s → StopsBefore size new s → 0 < s.count
    → Put size all old (take k out) → Put size all new (take (k + 1) (set out k s))
one_more size all old new s out k there left stops some put =
    subst (Put size all new) (sym (take_more_set out k s there)) record {
      some = some_more s (take k out) some put.some;
      longest = longest_more size old new s (take k out) left stops put.longest;
      places = put.places ∙ places_more size old new s (take k out) left;
    }
