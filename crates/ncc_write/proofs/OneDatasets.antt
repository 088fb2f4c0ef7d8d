-- A file holds one dataset of a schema at most.
use Rattle.std.proofs.Common.{◌≡◌, ℕ, ◌+◌, ◌*◌, ◌<◌, Bool, true, false, not, List, [], ◌∷◌, ◌++◌, length, take, get_or, refl, sym, ap, ap₂, subst, ◌∙◌, arith, length-append}
use Rattle.std.specs.Prelude.{if◌then◌else◌}
use Rattle.std.proofs.lemmas.Bool.{not-true}
use Rattle.std.proofs.lemmas.List.{take_at, ext_get_or}
use Rattle.ncc_values.specs.Values.{bytes_of}
use Rattle.ncc_values.specs.XType.{size_of}
use Rattle.ncc_values.specs.declared.values.Values.{Values}
use Rattle.ncc_schema.specs.declared.schema.Schema.{Schema}
use Rattle.ncc_schema.specs.declared.schema.Var.{Var}
use Rattle.ncc_schema.specs.Schema.{Place, is_record_var}
use Rattle.ncc_layout.specs.declared.placed_var.PlacedVar.{PlacedVar}
use Rattle.ncc_layout.specs.Sizes.{inner, slab, record_vars}
use Rattle.ncc_layout.specs.Elements.{placed_var, placed_from, var_at, row_major, Inside}
use Rattle.ncc_layout.specs.Plans.{known}
use Rattle.ncc_build.specs.Dataset.{fixed_vars, Dataset, IsDataset}
use Rattle.ncc_write.specs.Holds.{bytes_at, no_slab, before, vars_of, value_at, HoldsValues}
use Rattle.ncc_write.proofs.Parts.{as_many}
use Rattle.ncc_write.proofs.Pieces.{Split, split_at}
use Rattle.ncc_write.proofs.SlabPlaces.{record_at, fixed_placed, record_placed}
use Rattle.ncc_write.proofs.Indices.{var_placed}
use Rattle.ncc_write.proofs.Same.{index_of, same_slabs, kept_at}

abbrev of_schema : Schema → List Values → List (List Values) → Dataset
of_schema s fixed records = record { schema = s; fixed = fixed; records = records }

-- ---- two datasets of one schema

module _ (file : List ℕ) (places : List Place) (s : Schema) (cf df : List Values) (cr dr : List (List Values))
    (long : length places ≡ length s.vars)
    (c_is : IsDataset (of_schema s cf cr)) (d_is : IsDataset (of_schema s df dr))
    (c_holds : HoldsValues file places (of_schema s cf cr))
    (d_holds : HoldsValues file places (of_schema s df dr)) where
  abbrev c : Dataset
  c = of_schema s cf cr

  abbrev d : Dataset
  d = of_schema s df dr

  abbrev vars : List PlacedVar
  vars = vars_of c places

  -- their values are the same in the file
  both_hold : (n : ℕ) (index : List ℕ) → n < length s.vars → Inside (var_at vars n).shape index
      → value_at c (var_at vars n) n index ≡ value_at d (var_at vars n) n index
  both_hold n index below inside = sym (c_holds n index below inside) ∙ d_holds n index below inside

  -- of the variable x after those of front
  module _ (front : List Var) (x : Var) (after : List Var) (joined : s.vars ≡ front ++ x ∷ after) where
    abbrev n : ℕ
    n = length front

    below : n < length s.vars
    below = omega (arith, ap (λ (l : List Var). length l) joined, length-append front (x ∷ after))

    front_is : take n s.vars ≡ front
    front_is = ap (take n) joined ∙ take_at front (x ∷ after) n refl

    abbrev placed_by : Place → Bool → PlacedVar
    placed_by p b = record {
      xtype = x.xtype;
      shape = if b then known s.count ∷ inner s.dims x else inner s.dims x;
      extent = record { begin = p.begin; slab = slab s.dims x; variable = n; is_record = b };
    }

    var_is : (at : Split places n) → var_at vars n ≡ placed_by at.item (is_record_var s.dims x)
    var_is at =
        let none : 0 + n ≡ n = omega arith in
        ap₂ (λ (xs : List Var) (l : List Place). var_at (placed_from s.dims (known s.count) 0 xs l) n) joined at.joined
        ∙ var_placed s.dims (known s.count) 0 front x after at.front at.item at.after (sym at.long)
        ∙ ap (λ (m : ℕ). placed_var s.dims (known s.count) m x at.item) none

    abbrev Agree : PlacedVar → Type 0
    Agree y = (index : List ℕ) → Inside y.shape index → value_at c y n index ≡ value_at d y n index

    agree : (b : Bool) → is_record_var s.dims x ≡ b → (p : Place) × Agree (placed_by p b)
    agree b kind =
        let at = split_at places n (omega (arith, below, long)) in (
          at.item,
          subst Agree (var_is at ∙ ap (placed_by at.item) kind)
              (λ index inside. both_hold n index below inside),
        )

    pub same_fixed : is_record_var s.dims x ≡ false → get_or cf
        (length (fixed_vars s.dims front)) no_slab ≡ get_or df (length (fixed_vars s.dims front)) no_slab
    same_fixed kind =
        let i = length (fixed_vars s.dims front) in
        let w = size_of x.xtype in
        let number : before s false n ≡ i = ap (λ (l : List Var). length (fixed_vars s.dims l)) front_is in
        same_slabs s.dims x (get_or cf i no_slab) (get_or df i no_slab)
        (fixed_placed c c_is front x after joined kind).slab_is
        (fixed_placed d d_is front x after joined kind).slab_is (λ k less.
        let index = index_of (inner s.dims x) k less in
        subst (λ (m : ℕ). bytes_at (bytes_of (get_or cf i no_slab)) (m * w) w ≡ bytes_at
        (bytes_of (get_or df i no_slab)) (m * w) w) index.2
        (subst (λ (j : ℕ). bytes_at (bytes_of (get_or cf j no_slab))
        (row_major (inner s.dims x) index.0 * w) w ≡ bytes_at (bytes_of (get_or df j no_slab))
        (row_major (inner s.dims x) index.0 * w) w) number
        ((agree false kind).1 index.0 index.1)))

    pub same_record : is_record_var s.dims x ≡ true → (r : ℕ) → r < known s.count
        → get_or (get_or cr r []) (length (record_vars s.dims front)) no_slab ≡ get_or (get_or dr r [])
        (length (record_vars s.dims front)) no_slab
    same_record kind r within =
        let i = length (record_vars s.dims front) in
        let w = size_of x.xtype in
        let number : before s true n ≡ i = ap (λ (l : List Var). length (record_vars s.dims l)) front_is in
        same_slabs s.dims x (get_or (get_or cr r []) i no_slab) (get_or (get_or dr r []) i no_slab)
        (record_placed c c_is front x after joined kind r (omega (arith, within, c_is.records_number))).slab_is
        (record_placed d d_is front x after joined kind r (omega (arith, within, d_is.records_number))).slab_is
        (λ k less.
        let index = index_of (inner s.dims x) k less in
        subst (λ (m : ℕ). bytes_at (bytes_of (get_or (get_or cr r []) i no_slab)) (m * w) w ≡ bytes_at
        (bytes_of (get_or (get_or dr r []) i no_slab)) (m * w) w) index.2
        (subst (λ (j : ℕ). bytes_at (bytes_of (get_or (get_or cr r []) j no_slab))
        (row_major (inner s.dims x) index.0 * w) w ≡ bytes_at (bytes_of (get_or (get_or dr r []) j no_slab))
        (row_major (inner s.dims x) index.0 * w) w) number
        ((agree true kind).1 (r ∷ index.0) (within, index.1))))

  -- ---- all of them

  fixed_same : cf ≡ df
  fixed_same =
      let c_long = as_many s.dims (fixed_vars s.dims s.vars) cf c_is.fixed in
      ext_get_or no_slab cf df (sym c_long ∙ as_many s.dims (fixed_vars s.dims s.vars) df d_is.fixed) (λ i less.
      let k = kept_at (λ x. not (is_record_var s.dims x)) s.vars i (omega (arith, less, c_long)) in
      subst (λ (j : ℕ). get_or cf j no_slab ≡ get_or df j no_slab) k.number
      (same_fixed k.front k.item k.after k.joined (not-true (is_record_var s.dims k.item) k.passes)))

  one_record_same : (r : ℕ) → r < known s.count → get_or cr r [] ≡ get_or dr r []
  one_record_same r within =
      let a = get_or cr r [] in
      let b = get_or dr r [] in
      let all = record_vars s.dims s.vars in
      let a_long = as_many s.dims all a (record_at s cr r c_is.records
      (omega (arith, within, c_is.records_number))).1 in
      let b_long = as_many s.dims all b (record_at s dr r d_is.records
      (omega (arith, within, d_is.records_number))).1 in
      ext_get_or no_slab a b (sym a_long ∙ b_long) (λ i less.
      let k = kept_at (is_record_var s.dims) s.vars i (omega (arith, less, a_long)) in
      subst (λ (j : ℕ). get_or a j no_slab ≡ get_or b j no_slab) k.number
      (same_record k.front k.item k.after k.joined k.passes r within))

  pub datasets_same : c ≡ d
  datasets_same = ap₂ (of_schema s) fixed_same (ext_get_or [] cr dr (c_is.records_number ∙ sym d_is.records_number)
      (λ r less. one_record_same r (omega (arith, less, c_is.records_number))))

-- ---- datasets whose schema is the same

pub one_dataset : (file : List ℕ) (places : List Place) (c d : Dataset) → IsDataset c → IsDataset d
    → c.schema ≡ d.schema → length places ≡ length d.schema.vars → HoldsValues file places c
    → HoldsValues file places d → c ≡ d
one_dataset file places c d c_is d_is same long c_holds d_holds =
    let moved : c ≡ of_schema d.schema c.fixed c.records = ap (λ (s : Schema). of_schema s c.fixed c.records) same in
    moved ∙ datasets_same file places d.schema c.fixed d.fixed c.records d.records long
    (subst IsDataset moved c_is) d_is (subst (HoldsValues file places) moved c_holds) d_holds
