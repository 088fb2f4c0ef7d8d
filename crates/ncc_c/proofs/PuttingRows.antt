-- Rows that are put one after another.
use Rattle.std.proofs.Common.{◌≡◌, ℕ, ◌+◌, ◌<◌, ◌≤◌, List, [], ◌∷◌, ◌++◌, length, get_or, map, take, drop, set, refl, sym, ap, ap₂, ◌∙◌, append_assoc, arith}
use Rattle.std.proofs.lemmas.List.{drop_more, get_or-map, length-append, length-map, take_all, take_more, take_more_set}
use Rattle.std.proofs.lemmas.Slice.{take-put_mid}
use borrow.Rule.Slice.PartMut.{put_mid}
use Rattle.ncc_values.specs.declared.version.Version.{Version}
use Rattle.ncc_schema.specs.declared.schema.Attr.{Attr}
use Rattle.ncc_schema.specs.declared.schema.Dim.{Dim}
use Rattle.ncc_schema.specs.declared.schema.Var.{Var}
use Rattle.ncc_schema.specs.Header.{canon_attr, canon_dim}
use Rattle.ncc_schema.specs.Names.{attrs_in, canon_unplaced}
use Rattle.ncc_layout.specs.declared.placed_var.PlacedVar.{PlacedVar}
use Rattle.ncc_c.specs.declared.rows.VarRow.{VarRow}
use Rattle.ncc_c.specs.Rows.{attr_count, attr_rows, attrs_of_vars, dim_rows, id_count, ids_of_vars, var_row, var_rows}

-- one more of a list that was mapped
pub mapped_step : {A R : Type 0} (f : A → R) (items : List A) (rows : List R) (k : ℕ) (d : A) (r : R) → k < length rows → k < length items → r ≡ f (get_or items k d) → take k rows ≡ take k (map f items)
    → take (k + 1) (set rows k r) ≡ take (k + 1) (map f items)
mapped_step f items rows k d r lt there is e =
    take_more_set rows k r lt
    ∙ ap (λ xs. xs ++ r ∷ []) e
    ∙ ap (λ x. take k (map f items) ++ x ∷ []) (is ∙ sym (get_or-map f items k d (f d) there))
    ∙ sym (take_more (map f items) k (f d) (omega (arith, length-map items f, there)))

-- the pieces of one item more
pub piece_step : {A R : Type 0} (piece : A → List R) (old next : List A → List R) (items : List A) (k : ℕ) (d : A) (out new : List R) (first n m : ℕ) → k < length items
    → ((xs : List A) → old (get_or items k d ∷ xs) ≡ piece (get_or items k d) ++ next xs) → new ≡ piece (get_or items k d) → n ≡ length new → first ≤ length out
    → take (first + n) (put_mid first m out new) ++ next (drop (k + 1) items) ≡ take first out ++ old (drop k items)
piece_step piece old next items k d out new first n m lt joins is long le =
    let there : first + n ≡ first + length new = ap (λ (j : ℕ). first + j) long in
    ap (λ xs. xs ++ next (drop (k + 1) items)) (take-put_mid first m out new (first + n) there le)
    ∙ append_assoc (take first out) new (next (drop (k + 1) items))
    ∙ ap (λ xs. take first out ++ xs) (ap (λ xs. xs ++ next (drop (k + 1) items)) is ∙ sym (joins (drop (k + 1) items)) ∙ ap old (sym (drop_more items k d lt)))

-- the row of one variable more
pub var_step : (v : Version) (at next : ℕ) (vars : List Var) (placed : List PlacedVar) (rows : List VarRow) (k : ℕ) (d : Var) (e : PlacedVar) (r : VarRow) → k < length rows → k < length vars → k < length placed
    → r ≡ var_row v at (get_or vars k d) (get_or placed k e) → next ≡ at + length (canon_unplaced v (get_or vars k d))
    → take (k + 1) (set rows k r) ++ var_rows v next (drop (k + 1) vars) (drop (k + 1) placed) ≡ take k rows ++ var_rows v at (drop k vars) (drop k placed)
var_step v at next vars placed rows k d e r in_rows in_vars in_placed is after =
    ap (λ xs. xs ++ var_rows v next (drop (k + 1) vars) (drop (k + 1) placed)) (take_more_set rows k r in_rows)
    ∙ append_assoc (take k rows) (r ∷ []) (var_rows v next (drop (k + 1) vars) (drop (k + 1) placed))
    ∙ ap (λ xs. take k rows ++ xs)
    (ap₂ (λ (q : VarRow) (n : ℕ). q ∷ var_rows v n (drop (k + 1) vars) (drop (k + 1) placed)) is after
    ∙ sym (ap₂ (λ (xs : List Var) (ps : List PlacedVar). var_rows v at xs ps) (drop_more vars k d in_vars) (drop_more placed k e in_placed)))

-- ---- how many rows

pub length-dim_rows : (v : Version) (at : ℕ) (dims : List Dim) → length (dim_rows v at dims) ≡ length dims
length-dim_rows v at [] = refl
length-dim_rows v at (d ∷ dims) = omega (arith, length-dim_rows v (at + length (canon_dim v d)) dims)

pub length-attr_rows : (v : Version) (at : ℕ) (attrs : List Attr) → length (attr_rows v at attrs) ≡ length attrs
length-attr_rows v at [] = refl
length-attr_rows v at (a ∷ attrs) = omega (arith, length-attr_rows v (at + length (canon_attr v a)) attrs)

pub length-attrs_of_vars : (v : Version) (at : ℕ) (vars : List Var) → length (attrs_of_vars v at vars) ≡ attr_count vars
length-attrs_of_vars v at [] = refl
length-attrs_of_vars v at (x ∷ vars) =
    omega (
      arith,
      length-append (attr_rows v (at + attrs_in v x) x.attrs) (attrs_of_vars v (at + length (canon_unplaced v x)) vars),
      length-attr_rows v (at + attrs_in v x) x.attrs,
      length-attrs_of_vars v (at + length (canon_unplaced v x)) vars,
    )

pub length-ids_of_vars : (vars : List Var) → length (ids_of_vars vars) ≡ id_count vars
length-ids_of_vars [] = refl
length-ids_of_vars (x ∷ vars) = omega (arith, length-append x.dims (ids_of_vars vars), length-ids_of_vars vars)

pub length-var_rows : (v : Version) (at : ℕ) (vars : List Var) (placed : List PlacedVar) → length placed ≡ length vars → length (var_rows v at vars placed) ≡ length vars
length-var_rows v at [] placed e = refl
length-var_rows v at (x ∷ vars) [] e = absurd (omega (arith, e))
length-var_rows v at (x ∷ vars) (p ∷ placed) e = omega (arith, length-var_rows v (at + length (canon_unplaced v x)) vars placed (omega (arith, e)))

-- all of an array that is these rows
pub take_these : {R : Type 0} (n : ℕ) (rows these : List R) → rows ≡ these → length these ≡ n → take n rows ≡ these
take_these n rows these is long = ap (take n) is ∙ take_all n these (omega (arith, long))
