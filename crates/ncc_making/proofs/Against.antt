-- What is against the conversion of a store's bytes is against that of the file that was opened.
use Rattle.std.proofs.Common.{◌≡◌, inl, inr, ℕ, List, sym, subst}
use Rattle.ncc_values.specs.declared.version.Version.{Version}
use Rattle.ncc_schema.specs.declared.schema.Schema.{Schema}
use Rattle.ncc_layout.specs.declared.placed_file.Placed.{Placed}
use Rattle.ncc_layout.specs.Placed.{file_length_of, records_of_file}
use Rattle.ncc_check.specs.AppendLaws.{ShowsSame}
use Rattle.ncc_check.specs.Checks.{Opens}
use Rattle.ncc_check.specs.Faults.{Fails}
use Rattle.ncc_check.specs.Passes.{Passes}
use Rattle.ncc_check.specs.declared.fault.FileFault.{FileFault}
use Rattle.ncc_build.specs.declared.fault.WriteFault.{WriteFault}
use Rattle.ncc_engines.specs.Converting.{IsRefusalLine}
use Rattle.ncc_engines.specs.Planning.{IsAgainst}

pub against_opened : ((bytes : List ℕ) (limit : ℕ) (f : FileFault) → Passes bytes limit → Fails bytes limit f → ⊥)
    → ((bytes : List ℕ) (limit : ℕ) (s : Schema) (p : Placed) (t : Schema) (q : Placed) → Opens bytes limit s p
    → Opens bytes limit t q → (s ≡ t) × ShowsSame p (file_length_of p) q)
    → (b : List ℕ) (limit : ℕ) (v : Version) (s : Schema) (p : Placed) → Opens b limit s p → (text : List ℕ)
    → IsRefusalLine b limit v text → (f : WriteFault) × IsAgainst v s (records_of_file p) f
against_opened apart one b limit v s p o text (inl (f, fails, is)) = absurd (apart b limit f (o.header, o.passes) fails)
against_opened apart one b limit v s p o text (inr (t, q, f, opens, against, is)) =
    let same = one b limit s p t q o opens in (
      f,
      subst (λ (u : Schema). IsAgainst v u (records_of_file p) f) (sym same.0)
          (subst (λ (n : ℕ). IsAgainst v t n f) same.1.records_are against),
    )
