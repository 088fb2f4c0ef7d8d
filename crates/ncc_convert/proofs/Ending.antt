-- A copy that has taken all values, and what went out of it.
use Rattle.std.proofs.Common.{◌≡◌, inr, ℕ, ◌+◌, ◌*◌, Bool, false, IsTrue, List, [], ◌∷◌, ◌++◌, Option, Some, None, Result, Ok, Err, length, refl, sym, ap, ap₂, subst, ◌∙◌, arith, append_assoc, length-append}
use Rattle.std.specs.Prelude.{sum_by, zip, if◌then◌else◌}
use Rattle.std.specs.List.{AllZip, flat_map}
use Rattle.std.proofs.Math.Logic.{∥∥₁_elim}
use Rattle.std.proofs.Props.{props}
use Rattle.std.proofs.lemmas.List.{append-nil, nil_from_length}
use Rattle.std.proofs.lemmas.List.Sums.{sum_by-cons}
use Rattle.ncc_values.specs.Values.{bytes_of}
use Rattle.ncc_values.specs.XType.{size_of}
use Rattle.ncc_values.specs.declared.values.Values.{Values}
use Rattle.ncc_values.specs.declared.xtype.XType.{XType}
use Rattle.ncc_values.proofs.ValuesLemmas.{length-bytes_of}
use Rattle.ncc_schema.specs.declared.schema.Schema.{Schema}
use Rattle.ncc_schema.proofs.Writing.{puts_none}
use Rattle.ncc_layout.specs.Sizes.{slab}
use Rattle.ncc_layout.specs.declared.placed_file.Placed.{Placed}
use Rattle.ncc_build.specs.Dataset.{Dataset, IsDataset, Slab, data_of, in_order, slabs_of}
use Rattle.ncc_build.specs.File.{file_of, header_of, padded}
use Rattle.ncc_build.specs.declared.fault.WriteFault.{WriteFault}
use Rattle.ncc_build.specs.declared.fault.WriteFault.TheVariants as fault
use Rattle.ncc_write.specs.Headline.{PassesAndReads}
use Rattle.ncc_write.specs.Laws.{CompleteWhenTaken, DatasetTold, IsCompleted}
use Rattle.ncc_write.specs.Writing.{IsExactly, IsFront, Next, StartFails, WriterState, Went, data_length, dataset_of, expected, next_of, refuses_finish, refuses_unfinished, told}
use Rattle.ncc_write.proofs.SlabsAt.{HasValues, all_have_values}
use Rattle.ncc_convert.specs.Copying.{HasFront}
use Rattle.ncc_convert.specs.Converting.{ConvertCounts, ConvertsAs, ReadsAs, send_error_of}
use Rattle.ncc_lines.specs.declared.send_error.SendError.{SendError}
use Rattle.ncc_lines.specs.declared.send_error.SendError.TheVariants.{Memory}
use Rattle.ncc_convert.specs.Found.{IsOf}

-- ---- all values

long_by : (d : Dataset) (slabs : List Slab) (values : List Values) → AllZip (HasValues d) slabs values
    → length (flat_map bytes_of values) ≡ sum_by (λ b. slab d.schema.dims b.var) slabs
long_by d [] [] all = refl
long_by d [] (v ∷ values) all = absurd all
long_by d (b ∷ slabs) [] all = absurd all
long_by d (b ∷ slabs) (v ∷ values) all =
    let one : length (bytes_of v) ≡ slab d.schema.dims b.var =
    length-bytes_of v ∙ ap₂ (λ (n : ℕ) (t : XType). n * size_of t) all.0.slab_is.number all.0.slab_is.xtype in
    length-append (bytes_of v) (flat_map bytes_of values)
    ∙ ap₂ (λ (m n : ℕ). m + n) one (long_by d slabs values all.1)
    ∙ sym (sum_by-cons (λ (c : Slab). slab d.schema.dims c.var) b slabs)

data_long : (d : Dataset) → IsDataset d → length (data_of d) ≡ data_length d.schema
data_long d is = long_by d (slabs_of d.schema) (in_order d) (all_have_values d is)

pub nothing_next : (w : WriterState) → w.failed ≡ false → None ≡ expected w → next_of w.schema w.taken ≡ None
nothing_next w goes none = by (next_of w.schema w.taken) refl
  where
    by : (o : Option Next) → next_of w.schema w.taken ≡ o → next_of w.schema w.taken ≡ None
    by None is = is
    by (Some n) is = absurd (cc (none
        ∙ ap (λ (failed : Bool). if failed then None else told (next_of w.schema w.taken)) goes ∙ ap told is))

pub all_taken : (e : Dataset) → IsDataset e → (w : WriterState) → e.schema ≡ w.schema → IsFront w.taken (data_of e)
    → CompleteWhenTaken → next_of w.schema w.taken ≡ None → data_of e ≡ w.taken
all_taken e is w same (rest, joined) complete none =
    let filled = (complete w.schema w.taken).0 none in
    let long : length (data_of e) ≡ data_length w.schema = data_long e is ∙ ap data_length same in
    let no_rest : rest ≡ [] = nil_from_length rest (omega (arith, filled, long, ap (λ (l : List ℕ). length l) joined, length-append w.taken rest)) in
    joined ∙ ap (λ (l : List ℕ). w.taken ++ l) no_rest ∙ append-nil w.taken

pub is_the_file : (e : Dataset) → IsDataset e → (w : WriterState) → e.schema ≡ w.schema → data_of e ≡ w.taken → DatasetTold
    → (out : List ℕ) → ∥ IsCompleted w.schema w.taken out ∥₁ → out ≡ file_of e
is_the_file e is w same taken law out completed =
    let dataset : dataset_of w.schema w.taken ≡ e = ap₂ dataset_of (sym same) (sym taken) ∙ law e is in
    ∥∥₁_elim completed (hlevel props) (λ (c : IsCompleted w.schema w.taken out). c.file_is ∙ ap file_of dataset)

pub not_unfinished : (T : Type 0) {E : Type 0} (w : WriterState) (why : E → WriteFault) (e : E) → w.failed ≡ false
    → next_of w.schema w.taken ≡ None → IsExactly {T = T} why (refuses_finish w) (Err e) → ⊥
not_unfinished T w why e goes none answer =
    subst (λ (o : Option WriteFault). IsExactly {T = T} why o (Err e))
    (ap (λ (b : Bool). if b then Some fault.Failed else refuses_unfinished (next_of w.schema w.taken)) goes
    ∙ ap refuses_unfinished none) answer

-- ---- before anything is taken

-- a start fails for want of memory, or by the sink
by_fault : (old new : Option (List ℕ)) (m n : ℕ) (header : List ℕ) (P : WriteFault → Type 0) (e : WriteFault)
    → StartFails old new m n header e → (StartFails old new m n header fault.Memory → P fault.Memory)
    → (StartFails old new m n header fault.Device → P fault.Device) → P e
by_fault old new m n header P fault.Memory fails memory device = memory fails
by_fault old new m n header P fault.Device fails memory device = device fails
by_fault old new m n header P fault.BadName fails memory device = absurd fails
by_fault old new m n header P fault.DuplicateName fails memory device = absurd fails
by_fault old new m n header P fault.TwoRecordDims fails memory device = absurd fails
by_fault old new m n header P fault.BadDimId fails memory device = absurd fails
by_fault old new m n header P fault.RecordDimNotFirst fails memory device = absurd fails
by_fault old new m n header P fault.TypeForVersion fails memory device = absurd fails
by_fault old new m n header P fault.CountForVersion fails memory device = absurd fails
by_fault old new m n header P fault.OffsetForVersion fails memory device = absurd fails
by_fault old new m n header P fault.SizeForVersion fails memory device = absurd fails
by_fault old new m n header P fault.WrongType fails memory device = absurd fails
by_fault old new m n header P fault.TooManyValues fails memory device = absurd fails
by_fault old new m n header P fault.Unfinished fails memory device = absurd fails
by_fault old new m n header P fault.Failed fails memory device = absurd fails
by_fault old new m n header P fault.Complete fails memory device = absurd fails

pub start_counts : (old new : Option (List ℕ)) (k m n : ℕ) (header : List ℕ) (e : WriteFault)
    → StartFails old new m n header e → ConvertCounts k k m n (Err (send_error_of e))
start_counts old new k m n header e fails = by_fault old new m n header (λ f. ConvertCounts k k m n (Err (send_error_of f))) e fails
    (λ memory. (refl, memory.1)) (λ device. inr (refl, device.1))

pub start_memory : (old new : Option (List ℕ)) (m n : ℕ) (header : List ℕ) (e : WriteFault)
    → StartFails old new m n header e → send_error_of e ≡ Memory → e ≡ fault.Memory
start_memory old new m n header e fails = by_fault old new m n header (λ f. send_error_of f ≡ Memory → f ≡ fault.Memory) e fails
    (λ memory is. refl) (λ device is. absurd (cc is))

pub nothing_went : (tells : Bool) (file : List ℕ) (p : Placed) (t : Schema) (put : Option (List ℕ))
    → HasFront tells file p t put put
nothing_went tells file p t put = record { is = λ told d is of. ([], puts_none put, (file_of d, refl)) }

module _ (tells : Bool) (file : List ℕ) (p : Placed) (t : Schema) (old new : Option (List ℕ)) where
  header_went : Went old new (λ out. IsFront out (header_of t)) → HasFront tells file p t old new
  header_went (out, puts, (rest, joined)) = record {
    is = λ told d is of. (out, puts, front_of_file d out rest (ap header_of of.schema_is ∙ joined));
  }
    where
      front_of_file : (e : Dataset) (out rest : List ℕ) → header_of e.schema ≡ out ++ rest → IsFront out (file_of e)
      front_of_file e out rest header =
          let rows = flat_map (padded e.schema) (zip (slabs_of e.schema) (in_order e)) in
          (rest ++ rows, ap (λ (l : List ℕ). l ++ rows) header ∙ append_assoc out rest rows)

  pub start_failed : (m n : ℕ) (e : WriteFault) → StartFails old new m n (header_of t) e
      → ConvertsAs tells file p t old new (Err (send_error_of e))
  start_failed m n e fails = by_fault old new m n (header_of t) (λ f. ConvertsAs tells file p t old new (Err (send_error_of f))) e
      fails (λ memory. subst (HasFront tells file p t old) (sym memory.0) (nothing_went tells file p t old))
      (λ device. header_went device.0)

-- ---- the whole file

abbrev error_or : SendError → Result (Unit {0}) SendError → SendError
error_or f (Ok x) = f
error_or f (Err h) = h

pub error_is : (f h : SendError) → ◌≡◌ {A = Result (Unit {0}) SendError} (Err f) (Err h) → f ≡ h
error_is f h e = ap (error_or f) e

-- what was taken is the dataset of the open file, so that is what is read
pub reads_as : (tells : Bool) (file : List ℕ) (p : Placed) (t : Schema) (limit : ℕ) (taken out : List ℕ)
    → ∥ PassesAndReads (dataset_of t taken) t out limit ∥₁
    → (IsTrue tells → (d : Dataset) → IsDataset d → IsOf file p t d → data_of d ≡ taken) → DatasetTold
    → ReadsAs tells file p t limit out
reads_as tells file p t limit taken out passes all law = record {
  is = λ told d is of.
      let same : dataset_of t taken ≡ d = ap₂ dataset_of (sym of.schema_is) (sym (all told d is of)) ∙ law d is in
      subst (λ (e : Dataset). ∥ PassesAndReads e t out limit ∥₁) same passes;
}
