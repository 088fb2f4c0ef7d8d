-- The notes of lists of names.
use Rattle.std.proofs.Common.{◌≡◌, ℕ, ◌+◌, ◌*◌, ◌<◌, ◌≤◌, true, List, [], length, get_or, refl, sym, ap, subst, ◌∙◌, arith, leb}
use Rattle.std.specs.Prelude.{IsTrue, slice_get, Some}
use Rattle.std.proofs.lemmas.Bool.{leb-true, le-leb}
use Rattle.std.proofs.lemmas.List.{get_or-map}
use Rattle.std.proofs.lemmas.Option.{get_or_from_slice_get, slice_get-get_or}
use Rattle.ncc_values.specs.declared.version.Version.{Version}
use Rattle.ncc_values.specs.declared.version.Version.TheVariants.{V1, V2, V5}
use Rattle.ncc_schema.specs.declared.schema.Dim.{Dim}
use Rattle.ncc_schema.specs.declared.schema.Mark.{Mark}
use Rattle.ncc_schema.specs.declared.schema.Var.{Var}
use Rattle.ncc_schema.specs.Header.{canon_name}
use Rattle.ncc_schema.specs.Names.{capped, head_size, list_size}
use Rattle.ncc_schema.specs.Schema.{count_limit, lengths}
use Rattle.ncc_check.specs.declared.note.Note.{Note}
use Rattle.ncc_check.specs.declared.note.NoteKind.TheVariants.{LargeCount}
use Rattle.ncc_check.specs.Noting.{Adds, NoteIf, Below, VarAttrNotes, AttrNotesAt, LargeLengthNote, MarkNote, dim_names, note_of_mark}
use Rattle.ncc_check.proofs.Joining.{as_well, note_as, one_more}
use Rattle.ncc_check.proofs.Repeats.{name_at}

pub dims_start : (v : Version) → 2 * list_size v ≡ capped (head_size v + list_size v)
dims_start V1 = refl
dims_start V2 = refl
dims_start V5 = refl

pub capped_left : (a b : ℕ) → capped (capped a + b) ≡ capped (a + b)
capped_left a b = omega arith

pub capped_right : (a b : ℕ) → capped (a + capped b) ≡ capped (a + b)
capped_right a b = omega arith

pub one_list : (v : Version) (vars : List Var) (offsets : List ℕ) (i at : ℕ) (x : Var) (xs ys zs : List Note) → i < length vars → x ≡ get_or vars i x → get_or offsets i 0 ≡ at
    → Adds (Below (AttrNotesAt v vars offsets) i) xs ys → Adds (VarAttrNotes v at x) ys zs → Adds (Below (AttrNotesAt v vars offsets) (i + 1)) xs zs
one_list v vars offsets i at x xs ys zs below is stands a b =
    let there : slice_get vars i ≡ Some x = slice_get-get_or vars i x below ∙ ap (λ (y : Var). Some y) (sym is) in
    one_more (AttrNotesAt v vars offsets) i xs ys zs a
    (as_well (VarAttrNotes v at x) (AttrNotesAt v vars offsets i) ys zs
    (λ n p. (x, there, subst (λ o. VarAttrNotes v o x n) (sym stands) p))
    (λ n q. subst (λ o. VarAttrNotes v o x n) stands (subst (λ y. VarAttrNotes v (get_or offsets i 0) y n) (sym (get_or_from_slice_get vars i q.0 x q.1) ∙ sym is) q.2))
    b)

pub one_length : (v : Version) (dims : List Dim) (offsets : List ℕ) (i at : ℕ) (x : Dim) (limit size : ℕ) (xs ys zs : List Note) → i < length dims → x ≡ get_or dims i x → get_or offsets i 0 ≡ at
    → limit ≡ count_limit v → size ≡ capped (length (canon_name v x.name))
    → Adds (Below (LargeLengthNote v dims (dim_names dims) offsets) i) xs ys → Adds (NoteIf (IsTrue (leb limit x.length)) LargeCount (capped (at + size))) ys zs
    → Adds (Below (LargeLengthNote v dims (dim_names dims) offsets) (i + 1)) xs zs
one_length v dims offsets i at x limit size xs ys zs below is stands bound sized a b =
    let long : get_or (lengths dims) i 0 ≡ x.length = get_or-map (λ (y : Dim). y.length) dims i x 0 below ∙ ap (λ (y : Dim). y.length) (sym is) in
    let name : get_or (dim_names dims) i [] ≡ x.name = name_at (λ (y : Dim). y.name) dims i x below is in
    let offset : capped (at + size) ≡ capped (get_or offsets i 0 + length (canon_name v (get_or (dim_names dims) i []))) =
    ap (λ n. capped (at + n)) sized ∙ capped_right at (length (canon_name v x.name))
    ∙ ap (λ o. capped (o + length (canon_name v x.name))) (sym stands)
    ∙ ap (λ name. capped (get_or offsets i 0 + length (canon_name v name))) (sym name) in
    one_more (LargeLengthNote v dims (dim_names dims) offsets) i xs ys zs a
    (note_as (IsTrue (leb limit x.length)) (count_limit v ≤ get_or (lengths dims) i 0) LargeCount LargeCount (capped (at + size)) (capped (get_or offsets i 0 + length (canon_name v (get_or (dim_names dims) i [])))) ys zs
    (λ t. omega (arith, leb-true limit x.length t, bound, long))
    (λ h. le-leb limit x.length (omega (arith, h, bound, long)))
    refl offset b)

pub one_mark : (ms : List Mark) (i : ℕ) (m : Mark) (note : Note) (xs ys zs : List Note) → i < length ms → note ≡ note_of_mark (get_or ms i m)
    → Adds (Below (MarkNote ms) i) xs ys → Adds (NoteIf (IsTrue true) note.kind note.offset) ys zs → Adds (Below (MarkNote ms) (i + 1)) xs zs
one_mark ms i m note xs ys zs below is a b =
    let there = λ (n : Note). get_or-map note_of_mark ms i m n below ∙ sym is in
    one_more (MarkNote ms) i xs ys zs a
    (as_well (NoteIf (IsTrue true) note.kind note.offset) (MarkNote ms i) ys zs
    (λ n p. there n ∙ sym p.is)
    (λ n q. record { is_due = refl; is = sym q ∙ there n })
    b)
