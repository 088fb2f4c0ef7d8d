-- What is unusual in a header, each with the offset of the field that shows it.
use Rattle.std.specs.Prelude.{◌≡◌, ◌≢◌, ℕ, ◌+◌, ◌-◌, ◌%◌, ◌<◌, ◌≤◌, ◌⊎◌, List, [], ◌∷◌, length, map, get_or, Contains}
use Rattle.std.specs.List.{AllByRecursion}
use Rattle.ncc_values.specs.Name.{FitsAsName}
use Rattle.ncc_values.specs.Version.{count_width_of}
use Rattle.ncc_schema.specs.declared.names.NameOf.{NameOf}
use Rattle.ncc_schema.specs.declared.names.NameOf.TheVariants as of
use Rattle.ncc_schema.specs.declared.schema.Count.{Count}
use Rattle.ncc_schema.specs.declared.schema.Count.TheVariants.{Known, Streaming}
use Rattle.ncc_schema.specs.declared.schema.Header.{Header}
use Rattle.ncc_schema.specs.declared.schema.Mark.TheVariants as marks
use Rattle.ncc_schema.specs.declared.schema.Schema.{Schema}
use Rattle.ncc_schema.specs.declared.schema.VarPlace.{VarPlace}
use Rattle.ncc_schema.specs.Header.{canon_name}
use Rattle.ncc_schema.specs.Names.{HasName, name_of, name_at}
use Rattle.ncc_schema.specs.Schema.{count_limit, lengths, Place, places_of}
use Rattle.ncc_layout.specs.declared.extent.Extent.{Extent}
use Rattle.ncc_layout.specs.Extents.{extents_of}
use Rattle.ncc_layout.specs.Placed.{begin_field}
use Rattle.ncc_layout.specs.Sizes.{rounded}
use Rattle.ncc_layout.specs.Standard.{vsize_word}
use Rattle.ncc_check.specs.declared.note.Note.{Note}
use Rattle.ncc_check.specs.declared.note.NoteKind.{NoteKind}
use Rattle.ncc_check.specs.declared.note.NoteKind.TheVariants.{VsizeField, HeaderPadding, TaggedEmpty, NameRule, DuplicateName, UnalignedBegin, Order, LargeCount}

-- ---- where fields stand

-- numrecs, after the letters and the version
abbrev pub numrecs_at : ℕ
numrecs_at = 4

-- the length field of a name
abbrev pub name_field : Header → NameOf → ℕ
name_field h x = name_at h.schema (places_of h.places) x

-- dim_length, after the dimension's name
abbrev pub dim_length_field : Header → (number : ℕ) → ℕ
dim_length_field h n = name_field h (of.Dim n) + length (canon_name h.schema.version (name_of h.schema (of.Dim n)))

-- vsize, right before the begin field
abbrev pub vsize_field : Header → (number : ℕ) → ℕ
vsize_field h n = begin_field h.places n - count_width_of h.schema.version

-- ---- sizes

-- the word for the size of each variable, and the word that stands there
abbrev pub vsize_words : Schema → List ℕ
vsize_words s = map (λ x. vsize_word s.version (rounded s.dims x)) s.vars

abbrev pub vsizes : List VarPlace → List ℕ
vsizes places = map (λ p. p.vsize) places

-- the same begins, with these words
abbrev pub with_words : (words : List ℕ) → List Place → List Place
with_words (w ∷ words) (p ∷ places) = record { vsize = w; begin = p.begin } ∷ with_words words places
with_words _ _ = []

pub record HasVsizeFieldNote (h : Header) (offset : ℕ) : Type 0 where
  pub number : ℕ
  pub there : number < length h.schema.vars
  pub other : get_or (vsizes h.places) number 0 ≢ get_or (vsize_words h.schema) number 0
  pub at : offset ≡ vsize_field h number

-- ---- names

pub record HasNameRuleNote (h : Header) (offset : ℕ) : Type 0 where
  pub named : NameOf
  pub there : HasName h.schema named
  pub bad : ¬ FitsAsName (name_of h.schema named)
  pub at : offset ≡ name_field h named

-- two names of one list: of the dimensions, the global attributes, the variables, or the attributes of a variable
abbrev pub IsEarlier : (earlier later : NameOf) → Type 0
IsEarlier (of.Dim i) (of.Dim j) = i < j
IsEarlier (of.Global i) (of.Global j) = i < j
IsEarlier (of.Var i) (of.Var j) = i < j
IsEarlier (of.Attr v i) (of.Attr w j) = (v ≡ w) × (i < j)
IsEarlier _ _ = ⊥

pub record HasDuplicateNameNote (h : Header) (offset : ℕ) : Type 0 where
  pub earlier : NameOf
  pub later : NameOf
  pub earlier_there : HasName h.schema earlier
  pub later_there : HasName h.schema later
  pub ordered : IsEarlier earlier later
  pub same : name_of h.schema earlier ≡ name_of h.schema later
  pub at : offset ≡ name_field h later

-- ---- begins

abbrev pub extents_in : Header → List Extent
extents_in h = extents_of h.schema (places_of h.places)

pub record HasUnalignedBeginNote (h : Header) (offset : ℕ) : Type 0 where
  pub extent : Extent
  pub there : Contains (extents_in h) extent
  pub unaligned : extent.begin % 4 ≢ 0
  pub at : offset ≡ begin_field h.places extent.variable

-- a variable begins before an earlier one of its kind, fixed or record
pub record HasOrderNote (h : Header) (offset : ℕ) : Type 0 where
  pub earlier : Extent
  pub later : Extent
  pub earlier_there : Contains (extents_in h) earlier
  pub later_there : Contains (extents_in h) later
  pub ordered : earlier.variable < later.variable
  pub kind : earlier.is_record ≡ later.is_record
  pub swapped : later.begin < earlier.begin
  pub at : offset ≡ begin_field h.places later.variable

-- ---- counts

-- a known number of records with its top bit set
abbrev pub HasLargeCount : Schema → Count → Type 0
HasLargeCount s (Known n) = count_limit s.version ≤ n
HasLargeCount s Streaming = ⊥

-- a length with its top bit set; a legal one has none in CDF-5
pub record HasLargeLength (h : Header) (offset : ℕ) : Type 0 where
  pub number : ℕ
  pub there : number < length h.schema.dims
  pub large : count_limit h.schema.version ≤ get_or (lengths h.schema.dims) number 0
  pub at : offset ≡ dim_length_field h number

-- ---- notes

-- a note of this kind is due at this offset
abbrev pub IsDue : Header → NoteKind → (offset : ℕ) → Type 0
IsDue h VsizeField offset = HasVsizeFieldNote h offset
IsDue h HeaderPadding offset = Contains h.marks (marks.Padding offset)
IsDue h TaggedEmpty offset = Contains h.marks (marks.TaggedEmpty offset)
IsDue h NameRule offset = HasNameRuleNote h offset
IsDue h DuplicateName offset = HasDuplicateNameNote h offset
IsDue h UnalignedBegin offset = HasUnalignedBeginNote h offset
IsDue h Order offset = HasOrderNote h offset
IsDue h LargeCount offset = (HasLargeCount h.schema h.schema.count × (offset ≡ numrecs_at)) ⊎ HasLargeLength h offset

abbrev pub rank : NoteKind → ℕ
rank VsizeField = 1
rank HeaderPadding = 2
rank TaggedEmpty = 3
rank NameRule = 4
rank DuplicateName = 5
rank UnalignedBegin = 6
rank Order = 7
rank LargeCount = 8

-- by offset, and at one offset in the order of the kinds
abbrev pub Precedes : Note → Note → Type 0
Precedes a b = (a.offset < b.offset) ⊎ ((a.offset ≡ b.offset) × (rank a.kind < rank b.kind))

-- each precedes all after it, so that none is there twice
abbrev pub AreInOrder : List Note → Type 0
AreInOrder [] = Unit {0}
AreInOrder (n ∷ ns) = AllByRecursion (Precedes n) ns × AreInOrder ns

-- exactly the notes that are due, each once, in their order
pub record AreNotes (h : Header) (notes : List Note) : Type 0 where
  pub due : (n : Note) → Contains notes n → IsDue h n.kind n.offset
  pub all : (kind : NoteKind) (offset : ℕ) → IsDue h kind offset → Contains notes (record { kind = kind; offset = offset })
  pub ordered : AreInOrder notes
