-- What is written of bytes is one text.
use Rattle.std.proofs.Common.{◌≡◌, ℕ, zero, suc, ◌+◌, ◌≤◌, List, [], ◌∷◌, length, take, refl, sym, ap, subst, ◌∙◌, arith}
use Rattle.std.specs.List.{AllByRecursion}
use Rattle.ncc_schema.specs.declared.schema.Dim.{Dim}
use Rattle.ncc_schema.specs.declared.schema.Var.{Var}
use Rattle.ncc_schema.specs.declared.schema.Schema.{Schema}
use Rattle.ncc_schema.specs.declared.schema.Header.{Header}
use Rattle.ncc_schema.specs.Schema.{places_of}
use Rattle.ncc_header.specs.declared.fault.Fault.{Fault}
use Rattle.ncc_header.specs.Answers.{Begins, Stops}
use Rattle.ncc_layout.specs.declared.fault.LayoutFaultKind.{LayoutFaultKind}
use Rattle.ncc_layout.specs.declared.fault.LayoutFaultKind.TheVariants.{TooLarge}
use Rattle.ncc_layout.specs.Faults.{FirstFault}
use Rattle.ncc_layout.specs.Sizes.{NoneTooLarge, FirstTooLarge, room, rounded}
use Rattle.ncc_layout.proofs.StandardPlaces.{record_sum_first}
use Rattle.ncc_check.specs.declared.fault.FileFault.{FileFault}
use Rattle.ncc_check.specs.declared.fault.FileFault.TheVariants as of
use Rattle.ncc_check.specs.Faults.{Fails}
use Rattle.ncc_answers.specs.declared.answer.Answer.TheVariants.{Passed, Refused, Device, Memory}
use Rattle.ncc_answers.proofs.Sent.{OneText}
use Rattle.ncc_places.specs.Layouts.{IsToldFaultOf, IsToldOf, IsToldText}
use Rattle.ncc_places.specs.Measuring.{Finds, HidesPlaces}
use Rattle.ncc_places.specs.declared.measuring.Measured.{Measured}

-- the laws of headers and faults that make it one
pub record Laws : Type 0 where
  pub begun_or_stopped : (input : List ℕ) (limit : ℕ) (h : Header) (f : Fault) → Begins input limit h → Stops input limit f → ⊥
  pub one_header : (input : List ℕ) (limit : ℕ) (h k : Header) → Begins input limit h → Begins input limit k → h ≡ k
  pub one_fault : (bytes : List ℕ) (limit : ℕ) (f g : FileFault) → Fails bytes limit f → Fails bytes limit g → f ≡ g

-- ---- what fits has no variable that is too large

all_take : {A : Type 0} (P : A → Type 0) (n : ℕ) (xs : List A) → AllByRecursion P xs → AllByRecursion P (take n xs)
all_take P zero xs all = tt
all_take P (suc n) [] all = tt
all_take P (suc n) (x ∷ xs) all = (all.0, all_take P n xs all.1)

fit_take : (dims : List Dim) (vars : List Var) (n : ℕ) → NoneTooLarge dims vars → NoneTooLarge dims (take n vars)
fit_take dims vars n fit = record {
  each = all_take (λ x. rounded dims x ≤ room) n vars fit.each;
  together = omega (arith, record_sum_first dims n vars, fit.together);
}

fits_all : (s : Schema) (n : ℕ) → NoneTooLarge s.dims s.vars → FirstTooLarge s n → ⊥
fits_all s n fit first = first.here (fit_take s.dims s.vars (n + 1) fit)

module _ (laws : Laws) (told : Header → ℕ → List ℕ) (of_fault : FileFault → List ℕ) (bytes : List ℕ) (limit : ℕ) where
  same_layout : (t u : List ℕ) → IsToldOf told bytes limit t → IsToldOf told bytes limit u → t ≡ u
  same_layout t u x y =
      let header = laws.one_header bytes limit x.header y.header x.begins y.begins in
      x.text_is ∙ ap (λ (h : Header). told h (length bytes)) header ∙ sym y.text_is

  same_fault : (t u : List ℕ) → IsToldFaultOf of_fault bytes limit t → IsToldFaultOf of_fault bytes limit u → t ≡ u
  same_fault t u x y = x.3 ∙ ap of_fault (laws.one_fault bytes limit x.0 y.0 x.1 y.1) ∙ sym y.3

  too_large : (h : Header) (kind : LayoutFaultKind) (n : ℕ) → kind ≡ TooLarge → FirstFault h.schema (places_of h.places) h.length (length bytes) kind n → FirstTooLarge h.schema n
  too_large h kind n is first = subst (λ (k : LayoutFaultKind). FirstFault h.schema (places_of h.places) h.length (length bytes) k n) is first

  not_both : (t : List ℕ) (f : FileFault) → IsToldOf told bytes limit t → Fails bytes limit f → HidesPlaces f → ⊥
  not_both t (of.Header f) x fails hides = laws.begun_or_stopped bytes limit x.header f x.begins fails
  not_both t (of.Layout f) x fails hides =
      let header = laws.one_header bytes limit x.header fails.header x.begins fails.begins in
      let fit : NoneTooLarge fails.header.schema.dims fails.header.schema.vars = subst (λ (h : Header). NoneTooLarge h.schema.dims h.schema.vars) header x.none_too_large in
      fits_all fails.header.schema fails.fault.number fit (too_large fails.header f.kind fails.fault.number hides fails.fault.first)

  pub one_text : OneText (IsToldText told of_fault bytes limit)
  one_text Passed Passed t u x y = same_layout t u x y
  one_text Passed Refused t u x y = absurd (not_both t y.0 x y.1 y.2)
  one_text Refused Passed t u x y = absurd (not_both u x.0 y x.1 x.2)
  one_text Refused Refused t u x y = same_fault t u x y
  one_text Device b t u x y = absurd x
  one_text Memory b t u x y = absurd x
  one_text a Device t u x y = absurd y
  one_text a Memory t u x y = absurd y

-- ---- what is found is such a text

pub laid : (told : Header → ℕ → List ℕ) (bytes : List ℕ) (limit : ℕ) (x : Measured) (text : List ℕ) → Finds bytes limit x → text ≡ told x.header x.file_length → IsToldOf told bytes limit text
laid told bytes limit x text finds is = record {
  header = x.header;
  begins = finds.begins;
  none_too_large = finds.sizes.none_too_large;
  text_is = is ∙ ap (told x.header) finds.length_is;
}

pub faulty : (of_fault : FileFault → List ℕ) (bytes : List ℕ) (limit : ℕ) (f : FileFault) → Fails bytes limit f × HidesPlaces f → IsToldFaultOf of_fault bytes limit (of_fault f)
faulty of_fault bytes limit f x = (f, x.0, x.1, refl)
