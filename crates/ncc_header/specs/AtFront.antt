-- What stands whole at the front of a piece.
use Rattle.std.specs.Prelude.{◌≡◌, ◌⊎◌, ℕ, ◌+◌, ◌-◌, ◌<◌, ◌≤◌, List, [], ◌∷◌, ◌++◌, length, None}
use Rattle.ncc_schema.specs.declared.schema.Mark.{Mark}
use Rattle.ncc_values.specs.Numbers.{number_of}
use Rattle.ncc_values.specs.Version.{offset_width_of}
use Rattle.ncc_values.specs.declared.version.Version.{Version}
use Rattle.ncc_values.specs.declared.xtype.XType.{XType}
use Rattle.ncc_schema.specs.declared.schema.Attr.{Attr}
use Rattle.ncc_schema.specs.declared.schema.Dim.{Dim}
use Rattle.ncc_schema.specs.declared.schema.Var.{Var}
use Rattle.ncc_schema.specs.Header.{nc_attribute}
use Rattle.ncc_schema.specs.Schema.{Place}
use Rattle.ncc_header.specs.declared.partial.Partial.{Partial}
use Rattle.ncc_header.specs.declared.partial.Named.TheVariants as named
use Rattle.ncc_header.specs.declared.partial.Next.{Next}
use Rattle.ncc_header.specs.declared.partial.Next.TheVariants as nexts
use Rattle.ncc_header.specs.Fields.{bytes, padding, begin_wrong, name, nelems, attr, dim, dimid, dimids, list_head}
use Rattle.ncc_header.specs.Grammar.{Grammar, done, ◌>>=◌}
use Rattle.ncc_header.specs.Left.{Given, from_type}
use Rattle.ncc_header.specs.Reading.{course}

-- so many bytes stand at the front of a piece, and the others after them
abbrev pub StartsWith : (piece front : List ℕ) (size : ℕ) (after : List ℕ) → Type 0
StartsWith piece front size after = (piece ≡ front ++ after) × (length front ≡ size)

-- The piece begins with an item of the grammar, and goes on with the bytes of after: what is to be read after the
-- item, within whatever limit, is read after its bytes, which show no mark and have no begin field.
pub record AtFront {A : Type 0} (g : Grammar A) (item : A) (piece after : List ℕ) : Type 0 where
  pub front : List ℕ
  pub joined : piece ≡ front ++ after
  pub goes_on : (next : A → Grammar Given) (limit at : ℕ) (shown : List Mark) (begun more : List ℕ) → at + length front ≤ limit
      → course (g >>= next) limit at shown begun (front ++ more) ≡ course (next item) limit (at + length front) shown begun more

-- so many bytes, and their padding
abbrev pub padded : ℕ → Grammar (List ℕ)
padded n = bytes n >>= λ text. padding n >>= λ zeros. done text

-- a variable's name, the numbers of its dimensions, and how many attributes it has
abbrev pub var_head : Version → List Dim → Grammar (List ℕ × List ℕ × ℕ)
var_head v dims = name v >>= λ text. dimids v dims >>= λ ids. list_head v nc_attribute >>= λ n. done (text, ids, n)

-- a variable of these parts, and its place
abbrev pub placed : (name ids : List ℕ) → List Attr → XType → (size at : ℕ) → Var × Place
placed name ids notes t size at = (record { name = name; dims = ids; attrs = notes; xtype = t }, record { vsize = size; begin = at })

-- The same of an item whose last field is a begin field, of this size in bytes.
pub record AtFrontWithBegin {A : Type 0} (g : Grammar A) (item : A) (piece after : List ℕ) (size : ℕ) : Type 0 where
  pub front : List ℕ
  pub joined : piece ≡ front ++ after
  pub long : size ≤ length front
  pub goes_on : (next : A → Grammar Given) (limit at : ℕ) (shown : List Mark) (begun more : List ℕ) → at + length front ≤ limit
      → course (g >>= next) limit at shown begun (front ++ more) ≡ course (next item) limit (at + length front) shown (begun ++ (at + length front - size) ∷ []) more

-- the bytes of a begin field stand at the front of a piece, with nothing to refuse
pub record StartsWithBegin (v : Version) (n : ℕ) (piece after : List ℕ) : Type 0 where
  pub front : List ℕ
  pub starts : StartsWith piece front (offset_width_of v) after
  pub is : n ≡ number_of front
  pub right : begin_wrong v n ≡ None

-- ---- what is there before memory is needed

-- the piece begins with an item of the grammar
abbrev pub HasWhole : {A : Type 0} → Grammar A → (piece : List ℕ) → Type 0
HasWhole {A = A} g piece = (item : A) × (after : List ℕ) × AtFront g item piece after

-- or with one whose last field is a begin field
abbrev pub HasWholeTail : {A : Type 0} → Grammar A → Version → (piece : List ℕ) → Type 0
HasWholeTail {A = A} g v piece = (item : A) × (after : List ℕ) × AtFrontWithBegin g item piece after (offset_width_of v)

-- how many dimensions a variable has, at least one, and the number of the first of them
abbrev pub HasFirstId : Version → List Dim → (piece : List ℕ) → Type 0
HasFirstId v dims piece =
    (rank : ℕ) × (id : ℕ) × (mid : List ℕ) × (after : List ℕ)
    × (0 < rank) × AtFront (nelems v) rank piece mid × AtFront (dimid v dims []) id mid after

-- a variable's name and such a front of the numbers of its dimensions
abbrev pub HasFrontOfVar : Version → List Dim → (piece : List ℕ) → Type 0
HasFrontOfVar v dims piece = (text : List ℕ) × (mid : List ℕ) × AtFront (name v) text piece mid × HasFirstId v dims mid

-- the item that comes next stands whole at the front of the piece, or so much of it as needs memory
abbrev pub NeedsMemory : Next → Partial → (piece : List ℕ) → Type 0
NeedsMemory (nexts.NameLength (named.Attr o)) b piece = HasWhole (attr b.lists.parts.version) piece
NeedsMemory (nexts.NameLength named.Dim) b piece = HasWhole (dim b.lists.parts.version b.lists.parts.dims.items) piece
NeedsMemory (nexts.NameLength named.Var) b piece =
    HasWhole (var_head b.lists.parts.version b.lists.parts.dims.items) piece
    ⊎ HasFrontOfVar b.lists.parts.version b.lists.parts.dims.items piece
NeedsMemory nexts.VarType b piece =
    HasWholeTail (from_type b.lists.parts.version b.lists.var.name b.lists.var.dims.items b.lists.attrs.items) b.lists.parts.version piece
NeedsMemory _ b piece = ⊥
