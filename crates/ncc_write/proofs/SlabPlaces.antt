-- Where each slab of a dataset stands in its file.
use Rattle.std.proofs.Common.{◌≡◌, ℕ, zero, suc, ◌+◌, ◌*◌, ◌<◌, Bool, true, false, not, List, [], ◌∷◌, ◌++◌, length, get_or, refl, sym, ap, subst, ◌∙◌, arith}
use Rattle.std.specs.Prelude.{filter, sum_by}
use Rattle.std.specs.List.{AllByRecursion, flat_map}
use Rattle.std.proofs.lemmas.Bool.{cond-true, not_from_false}
use Rattle.std.proofs.lemmas.List.Elements.{filter-append}
use Rattle.std.proofs.lemmas.List.Sums.{sum_by-cons}
use Rattle.ncc_values.specs.Values.{bytes_of}
use Rattle.ncc_values.specs.declared.values.Values.{Values}
use Rattle.ncc_schema.specs.declared.schema.Schema.{Schema}
use Rattle.ncc_schema.specs.declared.schema.Var.{Var}
use Rattle.ncc_schema.specs.Names.{StandsAt, header_length}
use Rattle.ncc_schema.specs.Schema.{is_record_var}
use Rattle.ncc_layout.specs.Sizes.{record_vars, record_sum, record_size_of}
use Rattle.ncc_layout.specs.Standard.{fixed_sum}
use Rattle.ncc_build.specs.Dataset.{fixed_vars, Dataset, IsSlabOf, AreSlabsOf, IsDataset}
use Rattle.ncc_build.specs.File.{padding_bytes, header_of, file_of}
use Rattle.ncc_write.specs.Holds.{no_slab}
use Rattle.ncc_write.proofs.Slabs.{length_slab}
use Rattle.ncc_write.specs.Records.{with_padding, in_turn, bytes_of_record, whole_size}
use Rattle.ncc_write.proofs.Parts.{fixed_part, records_part, file_parts}
use Rattle.ncc_write.proofs.FileLengths.{length_header, length_whole, length_in_turn, fixed_whole, one_record_is, records_before}
use Rattle.ncc_write.proofs.Pieces.{stands_same, stands_first, stands_before, stands_behind, stands_in}

-- ---- among slabs of one kind

-- the slab of this variable stands there, and is one of it
pub record Placed (s : Schema) (bytes : List ℕ) (x : Var) (values : Values) (at : ℕ) : Type 0 where
  pub stands : StandsAt bytes (bytes_of values) at
  pub slab_is : IsSlabOf s.dims x values

pub in_turn_at : (s : Schema) (front : List Var) (x : Var) (after : List Var) (values : List Values)
    → AreSlabsOf s.dims (front ++ x ∷ after) values
    → Placed s (in_turn s (front ++ x ∷ after) values) x (get_or values (length front) no_slab)
    (sum_by (whole_size s) front)
in_turn_at s [] x after [] are = absurd are
in_turn_at s [] x after (v ∷ values) are = record {
  stands = stands_before (with_padding s (x, v)) (in_turn s after values) (bytes_of v) 0
      (stands_first (bytes_of v) (padding_bytes s x));
  slab_is = are.0;
}
in_turn_at s (y ∷ front) x after [] are = absurd are
in_turn_at s (y ∷ front) x after (v ∷ values) are =
    let rest = in_turn_at s front x after values are.1 in
    let piece = bytes_of (get_or values (length front) no_slab) in
    let all = in_turn s (front ++ x ∷ after) values in
    record {
      stands = stands_same (with_padding s (y, v) ++ all) piece (whole_size s y + sum_by (whole_size s) front)
          (sum_by (whole_size s) (y ∷ front)) (sym (sum_by-cons (whole_size s) y front))
          (stands_behind (with_padding s (y, v)) all piece (whole_size s y) (sum_by (whole_size s) front)
          (length_whole s y v (length_slab s.dims y v are.0)) rest.stands);
      slab_is = rest.slab_is;
    }

-- ---- records

pub record_size_is : (s : Schema) (values : List Values) → AreSlabsOf s.dims (record_vars s.dims s.vars) values
    → length (bytes_of_record s values) ≡ record_size_of s
record_size_is s values are = length_in_turn s (record_vars s.dims s.vars) values are ∙ one_record_is s

pub record_at : (s : Schema) (records : List (List Values)) (r : ℕ)
    → AllByRecursion (AreSlabsOf s.dims (record_vars s.dims s.vars)) records → r < length records
    → StandsAt (flat_map (bytes_of_record s) records) (bytes_of_record s (get_or records r [])) (r * record_size_of s)
    × AreSlabsOf s.dims (record_vars s.dims s.vars) (get_or records r [])
record_at s [] r all below = absurd (omega (arith, below))
record_at s (values ∷ records) zero all below =
    let rest = flat_map (bytes_of_record s) records in (
      stands_same (bytes_of_record s values ++ rest) (bytes_of_record s values) 0 (0 * record_size_of s) (omega arith)
          (stands_first (bytes_of_record s values) rest),
      all.0,
    )
record_at s (values ∷ records) (suc r) all below =
    let rest = record_at s records r all.1 (omega (arith, below)) in
    let piece = bytes_of_record s (get_or records r []) in
    let later = flat_map (bytes_of_record s) records in (
      stands_same (bytes_of_record s values ++ later) piece (record_size_of s + r * record_size_of s)
          (suc r * record_size_of s) (omega arith)
          (stands_behind (bytes_of_record s values) later piece (record_size_of s) (r * record_size_of s)
          (record_size_is s values all.0) rest.0),
      rest.1,
    )

-- ---- of one kind

pub filter_at : (p : Var → Bool) (front : List Var) (x : Var) (after : List Var) → p x ≡ true
    → filter p (front ++ x ∷ after) ≡ filter p front ++ x ∷ filter p after
filter_at p front x after h = filter-append p front (x ∷ after)
    ∙ ap (λ (l : List Var). filter p front ++ l) (cond-true (p x) (x ∷ filter p after) (filter p after) h)

-- of the variables front, x, after the slab of x
module _ (d : Dataset) (is : IsDataset d) (front : List Var) (x : Var) (after : List Var)
    (joined : d.schema.vars ≡ front ++ x ∷ after) where
  abbrev s : Schema
  s = d.schema

  abbrev of_kind : (Var → Bool) → List Var
  of_kind p = filter p front ++ x ∷ filter p after

  kind_is : (p : Var → Bool) → p x ≡ true → filter p s.vars ≡ of_kind p
  kind_is p h = ap (filter p) joined ∙ filter_at p front x after h

  placed_in : (p : Var → Bool) → p x ≡ true → (values : List Values) → AreSlabsOf s.dims (filter p s.vars) values
      → Placed s (in_turn s (filter p s.vars) values) x (get_or values (length (filter p front)) no_slab)
      (sum_by (whole_size s) (filter p front))
  placed_in p h values are =
      let vars = kind_is p h in
      subst (λ (l : List Var). Placed s (in_turn s l values) x (get_or values (length (filter p front)) no_slab)
      (sum_by (whole_size s) (filter p front))) (sym vars)
      (in_turn_at s (filter p front) x (filter p after) values
      (subst (λ (l : List Var). AreSlabsOf s.dims l values) vars are))

  in_file : (bytes piece : List ℕ) (at : ℕ) → bytes ≡ fixed_part d ++ records_part d → StandsAt bytes piece at
      → StandsAt (file_of d) piece (header_length s + at)
  in_file bytes piece at is_it st =
      subst (λ (l : List ℕ). StandsAt l piece (header_length s + at)) (sym (file_parts d is))
      (stands_behind (header_of s) (fixed_part d ++ records_part d) piece (header_length s) at (length_header s)
      (subst (λ (l : List ℕ). StandsAt l piece at) is_it st))

  pub fixed_placed : is_record_var s.dims x ≡ false → Placed s (file_of d) x
      (get_or d.fixed (length (fixed_vars s.dims front)) no_slab) (header_length s + fixed_sum s.dims front)
  fixed_placed kind =
      let here = placed_in (λ y. not (is_record_var s.dims y))
      (not_from_false (is_record_var s.dims x) kind) d.fixed is.fixed in
      let piece = bytes_of (get_or d.fixed (length (fixed_vars s.dims front)) no_slab) in
      record {
        stands = in_file (fixed_part d ++ records_part d) piece (fixed_sum s.dims front) refl
            (stands_same (fixed_part d ++ records_part d) piece (sum_by (whole_size s) (fixed_vars s.dims front))
            (fixed_sum s.dims front) (fixed_whole s front)
            (stands_before (fixed_part d) (records_part d) piece
            (sum_by (whole_size s) (fixed_vars s.dims front)) here.stands));
        slab_is = here.slab_is;
      }

  pub record_placed : is_record_var s.dims x ≡ true → (r : ℕ) → r < length d.records
      → Placed s (file_of d) x (get_or (get_or d.records r []) (length (record_vars s.dims front)) no_slab)
      (header_length s + (fixed_sum s.dims s.vars + (r * record_size_of s + record_sum s.dims front)))
  record_placed kind r below =
      let one = record_at s d.records r is.records below in
      let here = placed_in (is_record_var s.dims) kind (get_or d.records r []) one.1 in
      let piece = bytes_of (get_or (get_or d.records r []) (length (record_vars s.dims front)) no_slab) in
      let sum_is : sum_by (whole_size s) (record_vars s.dims front) ≡ record_sum s.dims front =
      records_before s front x (record_vars s.dims after) (kind_is (is_record_var s.dims) kind) in
      let stands = stands_in (records_part d) (bytes_of_record s (get_or d.records r [])) piece (r * record_size_of s)
      (sum_by (whole_size s) (record_vars s.dims front)) one.0 here.stands in
      let long : length (fixed_part d) ≡ fixed_sum s.dims s.vars =
      length_in_turn s (fixed_vars s.dims s.vars) d.fixed is.fixed ∙ fixed_whole s s.vars in
      record {
        stands = in_file (fixed_part d ++ records_part d) piece
            (fixed_sum s.dims s.vars + (r * record_size_of s + record_sum s.dims front)) refl
            (stands_behind (fixed_part d) (records_part d) piece (fixed_sum s.dims s.vars)
            (r * record_size_of s + record_sum s.dims front) long
            (stands_same (records_part d) piece (r * record_size_of s + sum_by (whole_size s)
            (record_vars s.dims front)) (r * record_size_of s + record_sum s.dims front)
            (ap (λ (n : ℕ). r * record_size_of s + n) sum_is) stands));
        slab_is = here.slab_is;
      }
