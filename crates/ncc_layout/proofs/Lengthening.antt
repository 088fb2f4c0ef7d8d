-- Placed variables with another number of records.
use Rattle.std.proofs.Common.{◌≡◌, ℕ, zero, suc, ◌+◌, ◌<◌, ◌≤◌, Bool, true, false, List, [], ◌∷◌, ◌++◌, map, length, get_or, set, take, drop, refl, sym, ap, subst, ◌∙◌, arith}
use Rattle.std.specs.Prelude.{sum_by, if◌then◌else◌}
use Rattle.std.specs.List.{AllByRecursion}
use Rattle.ncc_values.specs.XType.{size_of}
use Rattle.ncc_layout.specs.declared.extent.Extent.{Extent}
use Rattle.ncc_layout.specs.declared.placed_var.PlacedVar.{PlacedVar}
use Rattle.ncc_layout.specs.Sizes.{up, record_bytes, room}
use Rattle.ncc_layout.specs.Extents.{NumberedFrom, slabs_of_records}
use Rattle.ncc_layout.specs.Rules.{Rules}
use Rattle.ncc_layout.specs.Elements.{IsShaped, HasShape, AreLaid, AreSized, HasLengths, lengthened, with_records}

-- ---- a loop over the variables

mapped_at : {A : Type 0} (f : A → A) (xs : List A) (i : ℕ) (d : A) → i < length xs
    → set (map f (take i xs) ++ drop i xs) i (f (get_or (map f (take i xs) ++ drop i xs) i d)) ≡ map f (take (suc i) xs) ++ drop (suc i) xs
mapped_at f [] i d below = absurd (omega (arith, below))
mapped_at f (x ∷ xs) zero d below = refl
mapped_at f (x ∷ xs) (suc i) d below = ap (λ (l : List _). f x ∷ l) (mapped_at f xs i d (omega (arith, below)))

pub mapped_more : {A : Type 0} (f : A → A) (xs ys : List A) (i : ℕ) (d y : A) → i < length xs → ys ≡ map f (take i xs) ++ drop i xs → y ≡ f (get_or ys i d) → set ys i y ≡ map f (take (i + 1) xs) ++ drop (i + 1) xs
mapped_more f xs ys i d y below is item =
    let next : suc i ≡ i + 1 = omega arith in
    ap (set ys i) item ∙ ap (λ (l : List _). set l i (f (get_or l i d))) is ∙ mapped_at f xs i d below ∙ ap (λ (n : ℕ). map f (take n xs) ++ drop n xs) next

pub all_further : {A : Type 0} (P : A → Type 0) (xs : List A) (i : ℕ) → AllByRecursion P (drop i xs) → AllByRecursion P (drop (i + 1) xs)
all_further P xs i all = subst (λ (n : ℕ). AllByRecursion P (drop n xs)) next (further P xs i all)
  where
    next : suc i ≡ i + 1
    next = omega arith

    further : {A : Type 0} (P : A → Type 0) (xs : List A) (i : ℕ) → AllByRecursion P (drop i xs) → AllByRecursion P (drop (suc i) xs)
    further P [] i all = all_nil i
      where
        all_nil : (i : ℕ) → AllByRecursion P (drop (suc i) [])
        all_nil i = tt
    further P (x ∷ xs) zero all = all.1
    further P (x ∷ xs) (suc i) all = further P xs i all

-- ---- shapes

has_lengths : (b : Bool) (records size slab : ℕ) (ls : List ℕ) → IsShaped records size slab b ls → (if b then 1 else 0) ≤ length ls
has_lengths true records size slab [] h = absurd h
has_lengths true records size slab (n ∷ ls) h = omega arith
has_lengths false records size slab ls h = omega arith

pub all_have_lengths : (records : ℕ) (vars : List PlacedVar) → AllByRecursion (HasShape records) vars → AllByRecursion HasLengths vars
all_have_lengths records [] all = tt
all_have_lengths records (x ∷ vars) all = (has_lengths x.extent.is_record records (size_of x.xtype) x.extent.slab x.shape all.0, all_have_lengths records vars all.1)

reshaped : (b : Bool) (records more size slab : ℕ) (ls : List ℕ) → IsShaped records size slab b ls → IsShaped more size slab b (lengthened more b ls)
reshaped true records more size slab [] h = absurd h
reshaped true records more size slab (n ∷ ls) h = (refl, h.1)
reshaped false records more size slab ls h = h

all_reshaped : (records more : ℕ) (vars : List PlacedVar) → AllByRecursion (HasShape records) vars → AllByRecursion (HasShape more) (map (with_records more) vars)
all_reshaped records more [] all = tt
all_reshaped records more (x ∷ vars) all = (reshaped x.extent.is_record records more (size_of x.xtype) x.extent.slab x.shape all.0, all_reshaped records more vars all.1)

pub extents_stay : (more : ℕ) (vars : List PlacedVar) → map (λ x. x.extent) (map (with_records more) vars) ≡ map (λ x. x.extent) vars
extents_stay more [] = refl
extents_stay more (x ∷ vars) = ap (λ (l : List Extent). x.extent ∷ l) (extents_stay more vars)

pub laid_with_more : (header length file record_size records more : ℕ) (vars : List PlacedVar) → AreLaid header length record_size records vars
    → Rules header file record_size more (map (λ x. x.extent) vars) → AreLaid header file record_size more (map (with_records more) vars)
laid_with_more header length file record_size records more vars laid rules =
    let same = sym (extents_stay more vars) in
    record {
      shaped = all_reshaped records more vars laid.shaped;
      numbered = subst (NumberedFrom 0) same laid.numbered;
      rules = subst (Rules header file record_size more) same rules;
    }

all_sized : (more : ℕ) (vars : List PlacedVar) → AllByRecursion (λ x. up x.extent.slab ≤ room) vars → AllByRecursion (λ x. up x.extent.slab ≤ room) (map (with_records more) vars)
all_sized more [] all = tt
all_sized more (x ∷ vars) all = (all.0, all_sized more vars all.1)

pub sized_with_more : (record_size more : ℕ) (vars : List PlacedVar) → AreSized record_size vars → AreSized record_size (map (with_records more) vars)
sized_with_more record_size more vars sized =
    let same = sym (extents_stay more vars) in
    record {
      each = all_sized more vars sized.each;
      together = subst (λ (es : List Extent). sum_by up (slabs_of_records es) ≤ room) same sized.together;
      record_size_is = subst (λ (es : List Extent). record_size ≡ record_bytes (slabs_of_records es)) same sized.record_size_is;
    }
