-- Calls that only read, one after another.
use Rattle.std.proofs.Common.{◌≡◌, ℕ, ◌+◌, ◌≤◌, ◌∙◌, refl, subst, arith}
use Rattle.std.specs.Prelude.{Bool, true, false}
use Rattle.ncc_store.specs.declared.store.Store.{Ghosts}
use Rattle.ncc_store.specs.Reading.{ReadsOnly}
use Rattle.ncc_store.specs.StoreLaws.{untold}

-- calls that succeeded, and then one more
pub reads_join : {S : Type 0} (g : Ghosts S) (a b c : S) (answered : ℕ → ℕ → Type 0) (bounded : Bool) (m n k near far : ℕ)
    → ReadsOnly g a b (λ x y. y ≡ x) bounded m far → ReadsOnly g b c answered bounded n near → m + n ≤ k → near ≤ far
    → ReadsOnly g a c answered bounded k far
reads_join g a b c answered bounded m n k near far first second most before = record {
  unmoved = record {
    same = second.unmoved.same ∙ first.unmoved.same;
    within = λ i here. first.unmoved.within i (second.unmoved.within i here);
    later = omega (arith, first.unmoved.later, second.unmoved.later);
    nothing_else = λ t i le left. first.unmoved.nothing_else t i le (second.unmoved.nothing_else t i (omega (arith, le, first.unmoved.later)) left);
    keeps = λ t i le was. second.unmoved.keeps t i (omega (arith, le, first.unmoved.later)) (first.unmoved.keeps t i le was);
  };
  kept = λ i was. second.kept i (first.kept i was);
  counted = subst (λ (x : ℕ). answered x (g.failures c)) first.counted second.counted;
  calls = λ told. omega (arith, first.calls told, second.calls told, most);
  reach = omega (arith, first.reach, second.reach, before);
}

-- the same calls, counted otherwise
pub reads_bounded : {S : Type 0} (g : Ghosts S) (a c : S) (answered : ℕ → ℕ → Type 0) (bounded : Bool) (m k far : ℕ)
    → ReadsOnly g a c answered bounded m far → g.calls c ≤ g.calls a + k → ReadsOnly g a c answered true k far
reads_bounded g a c answered bounded m k far reads most = record {
  unmoved = reads.unmoved;
  kept = reads.kept;
  counted = reads.counted;
  calls = λ told. most;
  reach = reads.reach;
}

-- the same calls, their failures told by another answer
pub reads_answered : {S : Type 0} (g : Ghosts S) (a c : S) (answered told : ℕ → ℕ → Type 0) (bounded : Bool) (m far : ℕ)
    → ReadsOnly g a c answered bounded m far → told (g.failures a) (g.failures c) → ReadsOnly g a c told bounded m far
reads_answered g a c answered told bounded m far reads counted = record {
  unmoved = reads.unmoved;
  kept = reads.kept;
  counted = counted;
  calls = reads.calls;
  reach = reads.reach;
}

-- the same calls, not counted
pub reads_loose : {S : Type 0} (g : Ghosts S) (a c : S) (answered : ℕ → ℕ → Type 0) (m far : ℕ)
    → ReadsOnly g a c answered true m far → ReadsOnly g a c answered false 0 far
reads_loose g a c answered m far reads = record {
  unmoved = reads.unmoved;
  kept = reads.kept;
  counted = reads.counted;
  calls = λ told. untold told;
  reach = reads.reach;
}

-- the same calls, which ended before
pub reads_within : {S : Type 0} (g : Ghosts S) (a c : S) (answered : ℕ → ℕ → Type 0) (bounded : Bool) (m near far : ℕ)
    → ReadsOnly g a c answered bounded m near → near ≤ far → ReadsOnly g a c answered bounded m far
reads_within g a c answered bounded m near far reads before = record {
  unmoved = reads.unmoved;
  kept = reads.kept;
  counted = reads.counted;
  calls = reads.calls;
  reach = omega (arith, reads.reach, before);
}

-- no calls
pub reads_none : {S : Type 0} (g : Ghosts S) (a : S) (m far : ℕ) → ReadsOnly g a a (λ x y. y ≡ x) true m far
reads_none g a m far = record {
  unmoved = record {
    same = refl;
    within = λ i here. here;
    later = omega arith;
    nothing_else = λ t i le left. left;
    keeps = λ t i le was. was;
  };
  kept = λ i was. was;
  counted = refl;
  calls = λ told. omega arith;
  reach = omega arith;
}
