-- The file that went out into a new target.
use Rattle.std.proofs.Common.{true, false, refl, ◌≡◌, ◌≤◌, Bool, ℕ, List, [], length, Option, Some, None, sym, ap, subst, ◌∙◌}
use Rattle.ncc_schema.specs.Device.{Puts}
use Rattle.ncc_schema.specs.declared.schema.Schema.{Schema}
use Rattle.ncc_layout.specs.declared.placed_file.Placed.{Placed}
use Rattle.ncc_build.specs.File.{file_of, header_of}
use Rattle.ncc_write.specs.Writing.{Went}
use Rattle.ncc_convert.specs.Converting.{HasFile, IsSomeFile, ReadsAs}
use Rattle.ncc_answers.specs.declared.answer.Answer.{Answer}
use Rattle.ncc_answers.specs.declared.answer.Answer.TheVariants.{Passed}
use Rattle.ncc_engines.specs.Converting.{ConvertsInto}
use Rattle.std.proofs.Math.Logic.{∥∥₁_map}
use Rattle.std.specs.Prelude.{IsTrue}
use Rattle.ncc_values.specs.Numbers.{IsBytes}
use Rattle.ncc_values.specs.declared.version.Version.{Version}
use Rattle.ncc_schema.specs.Schema.{Sound}
use Rattle.ncc_check.specs.Checks.{Opens}
use Rattle.ncc_build.specs.Dataset.{Dataset, IsDataset}
use Rattle.ncc_write.specs.Planned.{IsPlanned}
use Rattle.ncc_convert.specs.Found.{IsOf}
use Rattle.ncc_making.specs.Making.{HasDataset, IsConverted, IsFileOf, in_version}

abbrev bytes_in : Option (List ℕ) → List ℕ
bytes_in (Some b) = b
bytes_in None = []

module _ (told : Bool) (file : List ℕ) (p : Placed) (t : Schema) (start put made : Option (List ℕ))
    (empty : start ≡ Some []) (closed : made ≡ put) where
  pub whole : (answer : Answer) → answer ≡ Passed → ConvertsInto told file p t start put answer
      → Went start put (λ out. ∥ IsSomeFile t out ∥₁)
      → ((limit : ℕ) → length (header_of t) ≤ limit → Went start put (ReadsAs told file p t limit))
      → IsFileOf told file p t made
  whole answer passed converts some reads =
      let has : HasFile told file p t start put = subst (ConvertsInto told file p t start put) passed converts in
      let out = subst (λ (s : Option (List ℕ)). Went s put (λ out. ∥ IsSomeFile t out ∥₁)) empty some in
      record {
        bytes = out.0;
        is = closed ∙ out.1;
        some = out.2;
        exactly = λ tells d is of. ap bytes_in
            (sym out.1 ∙ subst (λ (s : Option (List ℕ)). Puts s put (file_of d)) empty (has.is tells d is of));
        reads = λ limit fits.
            let read = subst (λ (s : Option (List ℕ)). Went s put (ReadsAs told file p t limit)) empty (reads limit fits) in
            subst (ReadsAs told file p t limit) (ap bytes_in (sym read.1 ∙ out.1)) read.2;
      }

-- ---- the dataset of bytes that are told

abbrev pub HoldsDataset : Type 0
HoldsDataset = (bytes : List ℕ) (limit : ℕ) (s : Schema) (p : Placed) (t : Schema) → Opens bytes limit s p
    → IsBytes bytes → IsPlanned s p t → Sound t → (d : Dataset) × IsDataset d × IsOf bytes p t d

has_dataset : HoldsDataset → (bytes : List ℕ) (limit : ℕ) (v : Version) (s : Schema) (p : Placed) (made : Option (List ℕ))
    → IsBytes bytes → Opens bytes limit s p → (f : IsFileOf true bytes p (in_version v s p) made)
    → ∥ HasDataset bytes p (in_version v s p) made ∥₁
has_dataset law bytes limit v s p made are opens f = ∥∥₁_map f.some (λ some.
    let x = law bytes limit s p (in_version v s p) opens are refl some.completed.dataset.sound in
    record { dataset = x.0; is = x.1; of = x.2; made_is = f.is ∙ ap (λ (b : List ℕ). Some b) (f.exactly refl x.0 x.1 x.2) })

-- a file that was made of an open one, by its own schema
pub converted_is : HoldsDataset → (told : Bool) (bytes same : List ℕ) (limit : ℕ) (v : Version) (s : Schema) (p : Placed)
    (made : Option (List ℕ)) → (IsTrue told → IsBytes bytes) → same ≡ bytes → Opens bytes limit s p
    → IsFileOf told same p (in_version v s p) made → IsConverted told bytes limit v made
converted_is law true bytes same limit v s p made are is opens f =
    let g = subst (λ (b : List ℕ). IsFileOf true b p (in_version v s p) made) is f in
    (s, p, opens, g, λ told. has_dataset law bytes limit v s p made (are told) opens g)
converted_is law false bytes same limit v s p made are is opens f =
    (s, p, opens, subst (λ (b : List ℕ). IsFileOf false b p (in_version v s p) made) is f, λ told. absurd (cc told))
