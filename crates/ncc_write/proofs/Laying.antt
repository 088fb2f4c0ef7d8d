-- What a writer puts out for the bytes of a dataset's values.
use Rattle.std.proofs.Common.{◌≡◌, ℕ, Bool, List, [], ◌∷◌, ◌++◌, length, take, drop, refl, ap, ap₂, ◌∙◌, arith, length-append}
use Rattle.std.specs.Prelude.{ltb, zip, if◌then◌else◌}
use Rattle.std.specs.List.{flat_map}
use Rattle.std.proofs.lemmas.Bool.{le-ltb}
use Rattle.std.proofs.lemmas.List.{take_at, drop_at}
use Rattle.ncc_values.specs.Values.{bytes_of}
use Rattle.ncc_values.specs.declared.values.Values.{Values}
use Rattle.ncc_schema.specs.declared.schema.Schema.{Schema}
use Rattle.ncc_layout.specs.Sizes.{slab}
use Rattle.ncc_build.specs.Dataset.{Slab, slabs_of, Dataset, IsDataset, in_order, data_of}
use Rattle.ncc_build.specs.File.{padding_bytes, padded, header_of, file_of}
use Rattle.ncc_write.specs.Writing.{laid_in, written}
use Rattle.ncc_write.proofs.Slabs.{AreValuesOf, values_in_order, length_slab}

-- a slab whose bytes are there is laid with its padding
pub laid_whole : (s : Schema) (b : Slab) (slabs : List Slab) (bytes rest : List ℕ) → length bytes ≡ slab s.dims b.var
    → laid_in s (b ∷ slabs) (bytes ++ rest) ≡ bytes ++ padding_bytes s b.var ++ laid_in s slabs rest
laid_whole s b slabs bytes rest long =
    let size = slab s.dims b.var in
    let within : ltb (length (bytes ++ rest)) size ≡ Bool.false =
    le-ltb (length (bytes ++ rest)) size (omega (arith, long, length-append bytes rest)) in
    ap (λ (t : Bool). if t then bytes ++ rest else take size
    (bytes ++ rest) ++ padding_bytes s b.var ++ laid_in s slabs (drop size (bytes ++ rest))) within
    ∙ ap₂ (λ (x y : List ℕ). x ++ padding_bytes s b.var ++ laid_in s slabs y) (take_at bytes rest size long)
    (drop_at bytes rest size long)

laid_values : (s : Schema) (slabs : List Slab) (values : List Values) → AreValuesOf s.dims slabs values
    → laid_in s slabs (flat_map bytes_of values) ≡ flat_map (padded s) (zip slabs values)
laid_values s [] [] h = refl
laid_values s [] (v ∷ values) h = absurd h
laid_values s (b ∷ slabs) [] h = absurd h
laid_values s (b ∷ slabs) (v ∷ values) h =
    laid_whole s b slabs (bytes_of v) (flat_map bytes_of values) (length_slab s.dims b.var v h.0)
    ∙ ap (λ (l : List ℕ). bytes_of v ++ padding_bytes s b.var ++ l) (laid_values s slabs values h.1)

-- what is written for all values is the file
pub written_all : (d : Dataset) → IsDataset d → written d.schema (data_of d) ≡ file_of d
written_all d is = ap (λ (l : List ℕ). header_of d.schema ++ l)
    (laid_values d.schema (slabs_of d.schema) (in_order d) (values_in_order d is))
