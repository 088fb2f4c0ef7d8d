-- All parts of a selection, one after the other.
use Rattle.std.proofs.Common.{◌≡◌, ℕ, List, [], ◌∷◌, take, drop, sym, ap, subst, ◌∙◌}
use Rattle.std.proofs.lemmas.List.{take-append-drop}
use Rattle.ncc_values.proofs.ValuesLemmas.{type_of-no_values, type_of-with_bytes}
use Rattle.ncc_values.specs.Values.{type_of, no_values}
use Rattle.ncc_values.specs.XType.{size_of}
use Rattle.ncc_values.specs.declared.values.Values.{Values}
use Rattle.ncc_layout.specs.declared.placed_var.PlacedVar.{PlacedVar}
use Rattle.ncc_slab.specs.declared.slab.Slab.{Slab}
use Rattle.ncc_slab.specs.Laws.{TakesAll}
use Rattle.ncc_slab.specs.Selected.{AddsPlaces, Selected, places_of}
use Rattle.ncc_slab.proofs.Joined.{all_selected, no_part, places_join}

pub parts_add_all : (file : List ℕ) (size : ℕ) (counts left : List ℕ) (old new : Values) → size_of (type_of old) ≡ size → TakesAll file size counts left old new → AddsPlaces file size left old new
parts_add_all file size [] left old new sized all =
    subst (λ (v : Values). AddsPlaces file size left old v) (sym all.1)
    (subst (λ (places : List ℕ). AddsPlaces file size places old old) (sym all.0) (no_part file size old))
parts_add_all file size (n ∷ counts) left old new sized all =
    let rest = all.0 in
    let mid = all.1 in
    let part : AddsPlaces file size (take n left) old mid = all.3 in
    let same : type_of mid ≡ type_of old = ap type_of part.is ∙ type_of-with_bytes old _ in
    let others = parts_add_all file size counts rest mid new (ap size_of same ∙ sized) all.4 in
    let behind : rest ≡ drop n left = all.2.1 in
    subst (λ (places : List ℕ). AddsPlaces file size places old new) (take-append-drop n left)
    (places_join file size (take n left) (drop n left) old mid new sized part (subst (λ (places : List ℕ). AddsPlaces file size places mid new) behind others))

pub parts_are_selected : (file : List ℕ) (record_size : ℕ) (x : PlacedVar) (s : Slab) (counts : List ℕ) (values : Values)
    → TakesAll file (size_of x.xtype) counts (places_of record_size x s) (no_values x.xtype) values → Selected file record_size x s values
parts_are_selected file record_size x s counts values all =
    all_selected file record_size x s values
    (parts_add_all file (size_of x.xtype) counts (places_of record_size x s) (no_values x.xtype) values (ap size_of (type_of-no_values x.xtype)) all)
