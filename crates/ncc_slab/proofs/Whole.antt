-- A file in which every element has its bytes has those of a selection.
use Rattle.std.proofs.Common.{◌≡◌, ℕ, zero, suc, ◌+◌, ◌-◌, ◌<◌, ◌≤◌, List, [], ◌∷◌, length, take, drop, None, ltb, refl, arith, get_or}
use Rattle.std.specs.List.{AllByRecursion}
use Rattle.std.proofs.lemmas.List.{length-take, length-drop}
use Rattle.std.proofs.lemmas.Bool.{ltb-true}
use Rattle.ncc_values.specs.XType.{size_of}
use Rattle.ncc_values.proofs.ElementsLemmas.{size_of-some}
use Rattle.ncc_layout.specs.declared.placed_var.PlacedVar.{PlacedVar}
use Rattle.ncc_layout.specs.Elements.{var_at, no_var, place_of, Inside, Element, Own}
use Rattle.ncc_slab.specs.declared.slab.Slab.{Slab}
use Rattle.ncc_slab.specs.declared.fault.SlabFault.TheVariants.{NoVariable}
use Rattle.ncc_slab.specs.Selection.{indices_of}
use Rattle.ncc_slab.specs.Selected.{element_bytes, places_of}
use Rattle.ncc_slab.proofs.Lists.{all_map}
use Rattle.ncc_slab.specs.Refusals.{shape_fault, slab_fault}
use Rattle.ncc_slab.specs.Laws.{AreWhole}
use Rattle.ncc_slab.proofs.Fitting.{fits_from, fitting_inside, if_none, pick}

length_at : (file : List ℕ) (place n : ℕ) → place + n ≤ length file → length (take n (drop place file)) ≡ n
length_at file place n le = omega (arith, length-take n (drop place file), length-drop place file, le)

pub element_ends : (header file record_size : ℕ) (vars : List PlacedVar) → Own header file record_size vars → (e : Element vars) → place_of record_size e.var e.index + size_of e.var.xtype ≤ file
element_ends header file record_size vars own e =
    let place = place_of record_size e.var e.index in
    let last = own.inside e (place + (size_of e.var.xtype - 1)) (omega (arith, size_of-some e.var.xtype), omega (arith, size_of-some e.var.xtype)) in
    omega (arith, last.1, size_of-some e.var.xtype)

pub any_default : {A : Type 0} (xs : List A) (n : ℕ) (d e : A) → n < length xs → get_or xs n d ≡ get_or xs n e
any_default [] n d e lt = absurd (omega (arith, lt))
any_default (x ∷ xs) zero d e lt = refl
any_default (x ∷ xs) (suc n) d e lt = any_default xs n d e (omega (arith, lt))

selected_ends : (header file record_size : ℕ) (vars : List PlacedVar) (n : ℕ) (s : Slab) → Own header file record_size vars → slab_fault vars n s ≡ None
    → AllByRecursion (λ i. place_of record_size (var_at vars n) i + size_of (var_at vars n).xtype ≤ file) (indices_of s)
selected_ends header file record_size vars n s own none =
    let x = var_at vars n in
    let parts = if_none (ltb n (length vars)) (shape_fault x.shape s) NoVariable none in
    let there = ltb-true n (length vars) parts.0 in
    pick (Inside x.shape) (λ (i : List ℕ). place_of record_size x i + size_of x.xtype ≤ file)
    (λ i inside. element_ends header file record_size vars own (record { var = x; there = (n, there, any_default vars n x no_var there); index = i; inside = inside }))
    (indices_of s) (fitting_inside x.shape s (fits_from x.shape s parts.1))

pub selected_is_in_file : (header file record_size : ℕ) (vars : List PlacedVar) (n : ℕ) (s : Slab) → Own header file record_size vars → slab_fault vars n s ≡ None
    → AllByRecursion (λ place. place + size_of (var_at vars n).xtype ≤ file) (places_of record_size (var_at vars n) s)
selected_is_in_file header file record_size vars n s own none =
    all_map (place_of record_size (var_at vars n)) (λ (place : ℕ). place + size_of (var_at vars n).xtype ≤ file) (λ (i : List ℕ). place_of record_size (var_at vars n) i + size_of (var_at vars n).xtype ≤ file)
    (λ i ends. ends) (indices_of s) (selected_ends header file record_size vars n s own none)

pub selected_is_whole : (file : List ℕ) (header most record_size : ℕ) (vars : List PlacedVar) (n : ℕ) (s : Slab) → Own header most record_size vars
    → most ≤ length file → slab_fault vars n s ≡ None → AreWhole file record_size (var_at vars n) (indices_of s)
selected_is_whole file header most record_size vars n s own long none =
    let x = var_at vars n in
    pick (λ (i : List ℕ). place_of record_size x i + size_of x.xtype ≤ most) (λ (i : List ℕ). length (element_bytes file record_size x i) ≡ size_of x.xtype)
    (λ i ends. length_at file (place_of record_size x i) (size_of x.xtype) (omega (arith, ends, long)))
    (indices_of s) (selected_ends header most record_size vars n s own none)
