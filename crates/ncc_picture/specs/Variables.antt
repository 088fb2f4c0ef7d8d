-- Variables in a bar.
use Rattle.std.specs.Prelude.{ℕ, ◌-◌, ◌&&◌, ltb, min, Bool, true, List, [], ◌++◌, if◌then◌else◌, codes}
use Rattle.std.specs.List.{flat_map}
use Rattle.ncc_schema.specs.declared.schema.Schema.{Schema}
use Rattle.ncc_layout.specs.declared.extent.Extent.{Extent}
use Rattle.ncc_layout.specs.Extents.{end}
use Rattle.ncc_picture.specs.declared.parts.Part.{Part}
use Rattle.ncc_picture.specs.Spans.{span}
use Rattle.ncc_picture.specs.Words.{class_of, part_words}

-- all its bytes, of places from here on
abbrev pub own_bytes : (far y from : ℕ) → Part → (title : List ℕ) → List ℕ
own_bytes far y from p title = span far y (class_of p.line) (p.extent.begin - from) (end p.extent - from) title

-- those that it shares: the first ones, where it begins before all above it end
abbrev pub shared_bytes : (far y from : ℕ) → Part → (title : List ℕ) → List ℕ
shared_bytes far y from p title =
    if ltb p.extent.begin p.past
    then span far y (codes "bad") (p.extent.begin - from) (min p.past (end p.extent) - from) title
    else []

-- there are bytes of it: of a record variable only with records
abbrev pub is_there : (has_records : Bool) → Extent → Bool
is_there has_records e = if e.is_record then has_records else true

-- the gap before it
abbrev pub gap : Schema → (far : ℕ) → (has_records : Bool) → Part → List ℕ
gap s far has_records p =
    if is_there has_records p.extent && ltb p.past p.extent.begin
    then span far 30 (codes "gap") p.past p.extent.begin (part_words s p)
    else []

abbrev pub gaps : Schema → (far : ℕ) → (has_records : Bool) → List Part → List ℕ
gaps s far has_records parts = flat_map (gap s far has_records) parts

-- a fixed variable
abbrev pub own_in_file : Schema → (far : ℕ) → Part → List ℕ
own_in_file s far p = if p.extent.is_record then [] else own_bytes far 30 0 p (part_words s p)

-- what is shared, of a record variable too
abbrev pub shared_in_file : Schema → (far : ℕ) → (has_records : Bool) → Part → List ℕ
shared_in_file s far has_records p =
    if is_there has_records p.extent then shared_bytes far 30 0 p (part_words s p) else []

-- what is shared is drawn over all variables
abbrev pub file_parts : Schema → (far : ℕ) → (has_records : Bool) → List Part → List ℕ
file_parts s far has_records parts = flat_map (own_in_file s far) parts ++ flat_map (shared_in_file s far has_records) parts
