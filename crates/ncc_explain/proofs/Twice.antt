-- The calls where a header is read twice.
use Rattle.std.proofs.Common.{◌≡◌, ap, ℕ, List, Result, ◌+◌, ◌≤◌, max, subst, arith}
use Rattle.ncc_store.specs.declared.store.Store.{Ghosts}
use Rattle.ncc_header.specs.declared.fault.Fault.{Fault}
use Rattle.ncc_header.specs.Answers.{Stops}
use Rattle.ncc_check.specs.declared.examining.Unsound.{Unsound}
use Rattle.ncc_check.specs.declared.examining.Unsound.TheVariants as unsound
use Rattle.ncc_check.specs.Checks.{RefusalCounts}
use Rattle.ncc_check.specs.Examining.{refusal_from}
use Rattle.ncc_check.specs.FromStore.{ReadsFew, reads_for}
use Rattle.ncc_check.proofs.FromStore.{Apart, OneStop, StopStays}
use Rattle.ncc_lines.specs.declared.send_error.SendError.{SendError}
use Rattle.ncc_explain.specs.Explaining.{SendErrorCounts, ReadsTwice}
use Rattle.ncc_explain.proofs.Fronts.{fault_in_settled}

-- where the header was read once
pub once_is_twice : {S : Type 0} (g : Ghosts S) (old new : S) (bytes : List ℕ) (limit : ℕ) → ReadsFew g old new bytes limit 1 → ReadsTwice g old new bytes limit
once_is_twice g old new bytes limit few = record {
  calls = λ n f settled stop. omega (arith, few.calls n settled);
  sound = λ n settled none. omega (arith, few.calls n settled);
  reach = λ n settled. omega (arith, few.reach n settled);
}

-- where it has a fault, and was read once more
pub twice : StopStays → Apart → OneStop → {S : Type 0} (g : Ghosts S) (old mid new : S) (bytes : List ℕ) (limit : ℕ) (f : Fault) → Stops bytes limit f → ReadsFew g old mid bytes limit 1
    → g.calls new ≤ g.calls mid + (2 + reads_for f.offset) → g.reach new ≤ max (g.reach mid) (f.offset + 8) → ReadsTwice g old new bytes limit
twice stays apart one g old mid new bytes limit f stop few more near = record {
  calls = λ n k settled stop_k. omega (arith, few.calls n settled, more, ap (λ (x : Fault). x.offset) (one bytes limit f k stop stop_k));
  sound = λ n settled none. absurd (none (f, stop));
  reach = λ n settled. omega (arith, few.reach n settled, near, fault_in_settled stays apart one bytes limit n f stop settled);
}

-- a failure of the second reading is the only one
pub then_counts : {T : Type 0} (r : Result T SendError) (e : Unsound) (f : Fault) (old mid new : ℕ) → e ≡ unsound.Header f → RefusalCounts old mid (refusal_from e) → SendErrorCounts mid new r → SendErrorCounts old new r
then_counts r e f old mid new is first second =
    let same : mid ≡ old = subst (λ (u : Unsound). RefusalCounts old mid (refusal_from u)) is first in
    subst (λ (n : ℕ). SendErrorCounts n new r) same second
