-- Why a file doesn't pass, without its header.
use Rattle.std.proofs.Common.{◌≡◌, ℕ, List, None, sym, subst, refl}
use Rattle.ncc_schema.specs.declared.schema.Header.{Header}
use Rattle.ncc_check.specs.declared.fault.FileFault.TheVariants.{Header as OfHeader, Layout as OfLayout}
use Rattle.ncc_check.specs.declared.examining.Unsound.{Unsound}
use Rattle.ncc_check.specs.declared.examining.Unsound.TheVariants as of
use Rattle.ncc_check.specs.declared.fault.Refusal.{Refusal}
use Rattle.ncc_check.specs.declared.fault.Refusal.TheVariants.{Fault, Device, Memory}
use Rattle.ncc_check.specs.Checks.{Refuses}
use Rattle.ncc_check.specs.Examining.{IsUnsound, KnowsSizes, refusal_from}
use Rattle.ncc_check.specs.Judging.{RefusedLayout, RefusesSizes}

-- it is the same fault
same_fault : (bytes : List ℕ) (limit : ℕ) (e : Unsound) → IsUnsound bytes limit e → Refuses bytes limit (refusal_from e)
same_fault bytes limit (of.Header f) is = is
same_fault bytes limit (of.Layout x) is = record { header = x.header; begins = is.0; fault = is.1.fault }
same_fault bytes limit of.Device is = tt
same_fault bytes limit of.Memory is = tt

pub refused : (bytes : List ℕ) (limit : ℕ) (e : Unsound) (r : Refusal) → r ≡ refusal_from e → IsUnsound bytes limit e → Refuses bytes limit r
refused bytes limit e r is unsound = subst (Refuses bytes limit) (sym is) (same_fault bytes limit e unsound)

-- nothing else is want of memory
pub memory : (e : Unsound) (r : Refusal) → r ≡ refusal_from e → r ≡ Memory → e ≡ of.Memory
memory (of.Header f) r is wants = absurd cc
memory (of.Layout x) r is wants = absurd cc
memory of.Device r is wants = absurd cc
memory of.Memory r is wants = refl

-- ---- with which sizes

-- that a variable is too large is a layout fault
pub refused_sizes : (h : Header) (file : ℕ) (r : Refusal) → RefusesSizes h file r → RefusedLayout h file r
refused_sizes h file (Fault (OfHeader f)) refused = absurd refused
refused_sizes h file (Fault (OfLayout f)) refused = refused.0
refused_sizes h file Device refused = absurd refused
refused_sizes h file Memory refused = tt

-- then no sizes are known
pub no_sizes : (h : Header) (file : ℕ) (r : Refusal) → RefusesSizes h file r → KnowsSizes h r None
no_sizes h file (Fault (OfHeader f)) refused = absurd refused
no_sizes h file (Fault (OfLayout f)) refused = refused.1
no_sizes h file Device refused = absurd refused
no_sizes h file Memory refused = tt
