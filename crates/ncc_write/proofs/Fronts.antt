-- What is written for a front of the bytes is a front of what is written for all.
use Rattle.std.proofs.Common.{◌≡◌, ℕ, ◌+◌, ◌-◌, ◌<◌, ◌≤◌, Bool, true, false, List, [], ◌∷◌, ◌++◌, length, take, drop, refl, sym, ap, ap₂, subst, ◌∙◌, arith, length-append}
use Rattle.std.specs.Prelude.{ltb, if◌then◌else◌}
use Rattle.std.proofs.Math.Seq.{take-append-add}
use Rattle.std.proofs.lemmas.Bool.{ltb-true, ltb-false, le-ltb}
use Rattle.std.proofs.lemmas.List.{append_assoc, take-append-le, drop-append-le}
use Rattle.ncc_schema.specs.declared.schema.Schema.{Schema}
use Rattle.ncc_layout.specs.Sizes.{slab}
use Rattle.ncc_build.specs.Dataset.{Slab, slabs_of, Dataset, IsDataset, data_of}
use Rattle.ncc_build.specs.File.{padding_bytes, header_of, file_of}
use Rattle.ncc_write.specs.Writing.{laid_in, written, IsFront, IsFrontOfFiles}
use Rattle.ncc_write.proofs.Laying.{written_all}

pub front_behind : (head a whole : List ℕ) → IsFront a whole → IsFront (head ++ a) (head ++ whole)
front_behind head a whole f = (f.0, ap (λ (l : List ℕ). head ++ l) f.1 ∙ sym (append_assoc head a f.0))

pub front_of_front : (a b c : List ℕ) → IsFront a b → IsFront b c → IsFront a c
front_of_front a b c f g = (f.0 ++ g.0, g.1 ∙ ap (λ (l : List ℕ). l ++ g.0) f.1 ∙ append_assoc a f.0 g.0)

-- ---- one slab

-- what is laid, by whether there are fewer bytes than the slab has
abbrev pub laid_by : Schema → Slab → List Slab → List ℕ → Bool → List ℕ
laid_by s b slabs taken few =
    let size = slab s.dims b.var in
    if few then taken else take size taken ++ padding_bytes s b.var ++ laid_in s slabs (drop size taken)

pub laid_few : (s : Schema) (b : Slab) (slabs : List Slab) (taken : List ℕ) (few : Bool)
    → ltb (length taken) (slab s.dims b.var) ≡ few → laid_in s (b ∷ slabs) taken ≡ laid_by s b slabs taken few
laid_few s b slabs taken few is = ap (laid_by s b slabs taken) is

-- a slab whose bytes are there, with more bytes
pub laid_more : (s : Schema) (b : Slab) (slabs : List Slab) (a more : List ℕ) → slab s.dims b.var ≤ length a
    → laid_in s (b ∷ slabs) (a ++ more) ≡ take (slab s.dims b.var) a ++ padding_bytes s b.var ++ laid_in s slabs
    (drop (slab s.dims b.var) a ++ more)
laid_more s b slabs a more enough =
    let size = slab s.dims b.var in
    laid_few s b slabs (a ++ more) false (le-ltb (length (a ++ more)) size
    (omega (arith, enough, length-append a more)))
    ∙ ap₂ (λ (x y : List ℕ). x ++ padding_bytes s b.var ++ laid_in s slabs y) (take-append-le size a more enough)
    (drop-append-le size a more enough)

-- the bytes before a slab's end, whatever follows
few_front : (s : Schema) (b : Slab) (slabs : List Slab) (a more : List ℕ) (few : Bool)
    → ltb (length (a ++ more)) (slab s.dims b.var) ≡ few → length a < slab s.dims b.var
    → IsFront a (laid_by s b slabs (a ++ more) few)
few_front s b slabs a more true is less = (more, refl)
few_front s b slabs a more false is less =
    let size = slab s.dims b.var in
    let size_is : size ≡ length a + (size - length a) = omega (arith, less) in
    let rest = padding_bytes s b.var ++ laid_in s slabs (drop size (a ++ more)) in
    let cut : take size (a ++ more) ≡ a ++ take (size - length a) more = ap (λ (n : ℕ). take n (a ++ more)) size_is
    ∙ take-append-add a more (size - length a) in (
      take (size - length a) more ++ rest,
      append_assoc (take size (a ++ more)) (padding_bytes s b.var) (laid_in s slabs (drop size (a ++ more)))
          ∙ ap (λ (l : List ℕ). l ++ rest) cut ∙ append_assoc a (take (size - length a) more) rest,
    )

front_step : (s : Schema) (b : Slab) (slabs : List Slab) (a more : List ℕ) (few : Bool)
    → ltb (length a) (slab s.dims b.var) ≡ few → IsFront (laid_in s slabs (drop (slab s.dims b.var) a))
    (laid_in s slabs (drop (slab s.dims b.var) a ++ more))
    → IsFront (laid_by s b slabs a few) (laid_in s (b ∷ slabs) (a ++ more))
front_step s b slabs a more true is rest = few_front s b slabs a more
    (ltb (length (a ++ more)) (slab s.dims b.var)) refl (ltb-true (length a) (slab s.dims b.var) is)
front_step s b slabs a more false is rest =
    let size = slab s.dims b.var in
    let enough : size ≤ length a = ltb-false (length a) size is in
    subst (IsFront (laid_by s b slabs a false)) (sym (laid_more s b slabs a more enough))
    (front_behind (take size a ++ padding_bytes s b.var) (laid_in s slabs (drop size a))
    (laid_in s slabs (drop size a ++ more)) rest)

-- ---- all slabs

laid_front : (s : Schema) (slabs : List Slab) (a more : List ℕ)
    → IsFront (laid_in s slabs a) (laid_in s slabs (a ++ more))
laid_front s [] a more = ([], refl)
laid_front s (b ∷ slabs) a more = front_step s b slabs a more (ltb (length a) (slab s.dims b.var)) refl
    (laid_front s slabs (drop (slab s.dims b.var) a) more)

pub written_front : (s : Schema) (a more : List ℕ) → IsFront (written s a) (written s (a ++ more))
written_front s a more = front_behind (header_of s) (laid_in s (slabs_of s) a) (laid_in s (slabs_of s) (a ++ more))
    (laid_front s (slabs_of s) a more)

-- what is written for a front of a dataset's bytes is a front of its file
pub written_in_file : (d : Dataset) (taken : List ℕ) → IsDataset d → IsFront taken (data_of d)
    → IsFront (written d.schema taken) (file_of d)
written_in_file d taken is f =
    subst (IsFront (written d.schema taken)) (ap (written d.schema) (sym f.1) ∙ written_all d is)
    (written_front d.schema taken f.0)

-- what went out of what is written is a front of the file of each dataset that begins so
pub out_in_files : (s : Schema) (taken out : List ℕ) → IsFront out (written s taken) → IsFrontOfFiles s taken out
out_in_files s taken out f d is same begins =
    front_of_front out (written s taken) (file_of d) f (subst
    (λ (t : Schema). IsFront (written t taken) (file_of d)) same (written_in_file d taken is begins))
