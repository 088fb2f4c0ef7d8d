-- The notes of a header list by list, as they are found.
use Rattle.std.specs.Prelude.{◌≡◌, ℕ, IsAscii, IsTrue, not, ◌+◌, ◌<◌, ◌-◌, ◌*◌, ◌%◌, ◌≢◌, ◌≤◌, ◌⊎◌, Bool, true, false, List, [], ◌∷◌, length, map, drop, get_or, slice_get, Some, Contains, if◌then◌else◌}
use Rattle.std.specs.Borrow.{Bor}
use Rattle.ncc_values.specs.Name.{FitsAsName}
use Rattle.ncc_values.specs.Numbers.{number_of}
use Rattle.ncc_values.specs.Version.{count_width_of}
use Rattle.ncc_values.specs.declared.version.Version.{Version}
use Rattle.ncc_schema.specs.declared.schema.Attr.{Attr}
use Rattle.ncc_schema.specs.declared.schema.Dim.{Dim}
use Rattle.ncc_schema.specs.declared.schema.Header.{Header}
use Rattle.ncc_schema.specs.declared.schema.Mark.{Mark}
use Rattle.ncc_schema.specs.declared.schema.Mark.TheVariants as marks
use Rattle.ncc_schema.specs.declared.schema.Schema.{Schema}
use Rattle.ncc_schema.specs.declared.schema.Var.{Var}
use Rattle.ncc_schema.specs.declared.schema.VarPlace.{VarPlace}
use Rattle.ncc_schema.specs.Header.{canon_name, canon_dim, canon_attr}
use Rattle.ncc_schema.specs.Names.{before, capped, attrs_in, canon_unplaced, gatts_at, head_size, list_size, vars_at}
use Rattle.ncc_schema.specs.Schema.{count_limit, lengths, is_record_var}
use Rattle.ncc_layout.specs.Standard.{vsize_word}
use Rattle.ncc_check.specs.declared.note.Note.{Note}
use Rattle.ncc_check.specs.declared.note.NoteKind.{NoteKind}
use Rattle.ncc_check.specs.declared.note.NoteKind.TheVariants.{VsizeField, HeaderPadding, TaggedEmpty, NameRule, DuplicateName, UnalignedBegin, Order, LargeCount}
use Rattle.ncc_check.specs.declared.notes.names.ItemOffset.{ItemOffset}
use Rattle.ncc_check.specs.declared.notes.placing.Greatest.{Greatest}
use Rattle.ncc_check.specs.Notes.{HasLargeCount, numrecs_at, rank, AreInOrder, vsizes}
use Rattle.ncc_layout.specs.Placed.{begin_field}

-- ---- notes that join others

-- these notes join the old ones, and no others
pub record Adds (P : Note → Type 0) (old new : List Note) : Type 0 where
  pub kept : (n : Note) → Contains old n → Contains new n
  pub due : (n : Note) → Contains new n → Contains old n ⊎ P n
  pub all : (n : Note) → P n → Contains new n

-- this note, where it is due
pub record NoteIf (due : Type 0) (kind : NoteKind) (offset : ℕ) (n : Note) : Type 0 where
  pub is_due : due
  pub is : n ≡ record { kind = kind; offset = offset }

-- those of the items with a number below this one
abbrev pub Below : (ℕ → Note → Type 0) → ℕ → Note → Type 0
Below P i n = (k : ℕ) × (k < i) × P k n

-- ---- a list of names

-- where the items of a list stand, from the first one's offset on
abbrev pub offsets_from : {A : Type 0} → (A → List ℕ) → (at : ℕ) → List A → List ℕ
offsets_from item at [] = []
offsets_from item at (x ∷ xs) = at ∷ offsets_from item (capped (at + length (item x))) xs

-- this is the offset of the item with this number, in a list whose first item stands at `start`
abbrev pub IsItemOffset : {A : Type 0} → (item : A → List ℕ) (start : ℕ) (items : List A) → ItemOffset → Type 0
IsItemOffset item start items o = o.offset ≡ capped (start + before item o.number items)

-- wherever the list starts, what is the offset of an item is one after the step too
abbrev pub StepsOn : {A : Type 0} → (item : A → List ℕ) (items : List A) (old new : ItemOffset) → Type 0
StepsOn item items old new = (start : ℕ) → IsItemOffset item start items old → IsItemOffset item start items new

abbrev pub NameRuleNote : (names : List (List ℕ)) (offsets : List ℕ) → ℕ → Note → Type 0
NameRuleNote names offsets k n = NoteIf (¬ FitsAsName (get_or names k [])) NameRule (get_or offsets k 0) n

abbrev pub IsDuplicate : (names : List (List ℕ)) → ℕ → List ℕ → Type 0
IsDuplicate names k name = (j : ℕ) × (j < k) × (get_or names j [] ≡ name)

-- the last bytes of a name as a number, 8 of them at most
abbrev pub key_of_name : List ℕ → ℕ
key_of_name name = number_of (drop (length name - 8) name)

-- the keys of the first n names
abbrev pub AreKeys : (names : List (List ℕ)) (n : ℕ) (keys : List ℕ) → Type 0
AreKeys names n keys = (j : ℕ) → j < n → get_or keys j 0 ≡ key_of_name (get_or names j [])

-- the keys of the first n names have taken their slots, of 61
abbrev pub AreTaken : (names : List (List ℕ)) (n : ℕ) (taken : List Bool) → Type 0
AreTaken names n taken = (j : ℕ) → j < n → get_or taken (key_of_name (get_or names j []) % 61) false ≡ true

-- the notes at this offset on a name that fits or not, and that an earlier one is the same as or not
abbrev pub ToldNotes : (fits repeated : Bool) (offset : ℕ) → Note → Type 0
ToldNotes fits repeated offset n = NoteIf (IsTrue (not fits)) NameRule offset n ⊎ NoteIf (IsTrue repeated) DuplicateName offset n

-- the notes on the name with this number, for which it is known whether an earlier one is the same
abbrev pub NameNotesAt : (names : List (List ℕ)) (offsets : List ℕ) (k : ℕ) (repeated : Type 0) → Note → Type 0
NameNotesAt names offsets k repeated n = NameRuleNote names offsets k n ⊎ NoteIf repeated DuplicateName (get_or offsets k 0) n

-- the notes on the first names of a list, so many
abbrev pub FirstNameNotes : (names : List (List ℕ)) (offsets : List ℕ) → ℕ → Note → Type 0
FirstNameNotes names offsets count n = Below (λ k. NameNotesAt names offsets k (IsDuplicate names k (get_or names k []))) count n

-- the notes on the names of a list
abbrev pub NameNotes : (names : List (List ℕ)) (offsets : List ℕ) → Note → Type 0
NameNotes names offsets n = FirstNameNotes names offsets (length names) n

-- a name of ASCII that fits
pub record IsPlain (name : List ℕ) : Type 0 where
  pub ascii : IsAscii name
  pub fits : FitsAsName name

-- each name is one of ASCII that fits, and none is the same as an earlier one
pub record ArePlain (names : List (List ℕ)) : Type 0 where
  pub each : (k : ℕ) → k < length names → IsPlain (get_or names k [])
  pub new : (k : ℕ) → k < length names → IsDuplicate names k (get_or names k []) → ⊥

-- ---- the lists of names of a header

-- the names of attributes from this offset on
abbrev pub AttrNotes : Version → (at : ℕ) → List Attr → Note → Type 0
AttrNotes v at attrs n = NameNotes (map (λ a. a.name) attrs) (offsets_from (canon_attr v) at attrs) n

abbrev pub GlobalNotes : Schema → Note → Type 0
GlobalNotes s n = AttrNotes s.version (capped (gatts_at s + list_size s.version)) s.gatts n

-- where the variables stand
abbrev pub var_offsets : Schema → List ℕ
var_offsets s = offsets_from (canon_unplaced s.version) (capped (vars_at s + list_size s.version)) s.vars

abbrev pub VarNotes : Schema → Note → Type 0
VarNotes s n = NameNotes (map (λ x. x.name) s.vars) (var_offsets s) n

-- the attributes of a variable that stands at this offset
abbrev pub VarAttrNotes : Version → (offset : ℕ) → Var → Note → Type 0
VarAttrNotes v offset x n = AttrNotes v (capped (offset + attrs_in v x)) x.attrs n

-- the attributes of the variable of this number
abbrev pub AttrNotesAt : Version → List Var → (offsets : List ℕ) → (number : ℕ) → Note → Type 0
AttrNotesAt v vars offsets k n = (x : Var) × (slice_get vars k ≡ Some x) × VarAttrNotes v (get_or offsets k 0) x n

-- ---- numbers

abbrev pub LargeLengthNote : Version → List Dim → (names : List (List ℕ)) (offsets : List ℕ) → ℕ → Note → Type 0
LargeLengthNote v dims names offsets k n =
    NoteIf (count_limit v ≤ get_or (lengths dims) k 0) LargeCount (capped (get_or offsets k 0 + length (canon_name v (get_or names k [])))) n

abbrev pub dim_names : List Dim → List (List ℕ)
dim_names dims = map (λ d. d.name) dims

abbrev pub dim_offsets : Schema → List ℕ
dim_offsets s = offsets_from (canon_dim s.version) (capped (head_size s.version + list_size s.version)) s.dims

-- the notes on dimensions
abbrev pub DimNotes : Schema → Note → Type 0
DimNotes s n =
    NameNotes (dim_names s.dims) (dim_offsets s) n
    ⊎ Below (LargeLengthNote s.version s.dims (dim_names s.dims) (dim_offsets s)) (length s.dims) n

abbrev pub LargeCountNote : Schema → Note → Type 0
LargeCountNote s n = NoteIf (HasLargeCount s s.count) LargeCount numrecs_at n

-- ---- marks

abbrev pub note_of_mark : Mark → Note
note_of_mark (marks.Padding offset) = record { kind = HeaderPadding; offset = offset }
note_of_mark (marks.TaggedEmpty offset) = record { kind = TaggedEmpty; offset = offset }

abbrev pub MarkNote : List Mark → ℕ → Note → Type 0
MarkNote ms k n = get_or (map note_of_mark ms) k n ≡ n

-- ---- places

abbrev pub begins_of : List VarPlace → List ℕ
begins_of places = map (λ p. p.begin) places

-- is each variable a record variable
abbrev pub kinds_of : Schema → List Bool
kinds_of s = map (is_record_var s.dims) s.vars

-- an earlier one of the same kind begins later
abbrev pub IsSwapped : (kinds : List Bool) → List VarPlace → ℕ → Type 0
IsSwapped kinds places k =
    (j : ℕ) × (j < k) × (slice_get kinds j ≡ slice_get kinds k) × (get_or (begins_of places) k 0 < get_or (begins_of places) j 0)

abbrev pub PlaceNotes : Version → VarPlace → (rounded greatest : ℕ) → Note → Type 0
PlaceNotes v p r g n =
    NoteIf (p.vsize ≢ vsize_word v r) VsizeField (p.begin_at - count_width_of v) n
    ⊎ (NoteIf (p.begin % 4 ≢ 0) UnalignedBegin p.begin_at n ⊎ NoteIf (p.begin < g) Order p.begin_at n)

-- the notes on the place of this variable
abbrev pub PlaceNotesAt : Version → (kinds : List Bool) → (sizes : List ℕ) → List VarPlace → (number : ℕ) → Note → Type 0
PlaceNotesAt v kinds sizes places k n =
    NoteIf (get_or (vsizes places) k 0 ≢ vsize_word v (get_or sizes k 0)) VsizeField (begin_field places k - count_width_of v) n
    ⊎ (NoteIf (get_or (begins_of places) k 0 % 4 ≢ 0) UnalignedBegin (begin_field places k) n
    ⊎ NoteIf (IsSwapped kinds places k) Order (begin_field places k) n)

abbrev pub greatest_of : Greatest → Bool → ℕ
greatest_of g is_record = if is_record then g.records else g.fixed

-- the greatest begin of a kind among the first variables, 0 where there is none
pub record IsGreatest (kinds : List Bool) (places : List VarPlace) (i : ℕ) (kind : Bool) (greatest : ℕ) : Type 0 where
  pub bound : (k : ℕ) → k < i → slice_get kinds k ≡ Some kind → get_or (begins_of places) k 0 ≤ greatest
  pub met : (greatest ≡ 0) ⊎ ((k : ℕ) × (k < i) × (slice_get kinds k ≡ Some kind) × (get_or (begins_of places) k 0 ≡ greatest))

-- ---- all notes of a header

abbrev pub Found : Header → (sizes : List ℕ) → Note → Type 0
Found h sizes n =
    (Below (MarkNote h.marks) (length h.marks) n ⊎ LargeCountNote h.schema n)
    ⊎ ((DimNotes h.schema n ⊎ GlobalNotes h.schema n)
    ⊎ ((VarNotes h.schema n ⊎ Below (AttrNotesAt h.schema.version h.schema.vars (var_offsets h.schema)) (length h.schema.vars) n)
    ⊎ Below (PlaceNotesAt h.schema.version (kinds_of h.schema) sizes h.places) (length h.places) n))

-- ---- order

-- a number that orders notes
abbrev pub key_of : Note → ℕ
key_of n = n.offset * 16 + rank n.kind

-- the same notes, each once, in their order
pub record SameInOrder (notes ordered : List Note) : Type 0 where
  pub from : (n : Note) → Contains ordered n → Contains notes n
  pub all : (n : Note) → Contains notes n → Contains ordered n
  pub in_order : AreInOrder ordered

-- ---- a table of names

abbrev pub texts_of : List (Bor (List ℕ)) → List (List ℕ)
texts_of keys = map (λ k. k.now) keys
