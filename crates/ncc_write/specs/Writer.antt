-- What a writer's fields say of where it stands.
use Rattle.std.specs.Prelude.{◌≡◌, ℕ, ◌+◌, ◌-◌, ◌*◌, ◌<◌, ltb, if◌then◌else◌, false, List, ◌++◌, Option, length, Result, Ok, Err}
use Rattle.ncc_values.specs.Numbers.{IsBytes}
use Rattle.ncc_values.specs.XType.{size_of}
use Rattle.ncc_values.specs.declared.failures.Device.{Device}
use Rattle.ncc_schema.specs.declared.schema.Schema.{Schema}
use Rattle.ncc_build.specs.Builds.{schema_of}
use Rattle.ncc_build.specs.Dataset.{slabs_of}
use Rattle.ncc_build.specs.File.{header_of}
use Rattle.ncc_write.specs.declared.writer.FileWriter.{FileWriter}
use Rattle.ncc_write.specs.PagedSink.{Paged, sink_of, waiting}
use Rattle.ncc_write.specs.Positions.{IsAt, end_of, slab_at}
use Rattle.ncc_write.specs.Writing.{WriterState, Went, IsOut, IsFrontOfFiles, IsWhole, written}

abbrev pub sink_in : {W : Type 0} → FileWriter W → W
sink_in x = sink_of x.paged_sink

abbrev pub schema_in : {W : Type 0} → FileWriter W → Schema
schema_in x = schema_of x.built

-- so many bytes are written, and whole pages of them are out
abbrev pub PagesAreOut : {W : Type 0} → FileWriter W → Schema → (given : ℕ) → Type 0
PagesAreOut x s given = Paged (length (header_of s)) given x.paged_sink

-- The writer stands there: it has this schema; the bytes taken end where its next value goes; what went out since the
-- start, of which the sink had these bytes then and has those now, shows which were taken; and while a value is
-- expected, whole pages are out.
pub record Stands {W : Type 0} (start put : Option (List ℕ)) (x : FileWriter W) (w : WriterState) : Type 0 where
  pub schema : schema_in x ≡ w.schema
  pub failed : x.failed ≡ w.failed
  pub bytes : IsBytes w.taken
  pub at : w.failed ≡ false → IsAt w.schema (length w.taken) x.slab x.left
  pub whole : w.failed ≡ false → IsWhole w.schema w.taken
  pub out : Went start put (IsOut w (waiting x.paged_sink))
  pub pages : w.failed ≡ false → x.slab < x.slab_order.slabs → PagesAreOut x w.schema (length (written w.schema w.taken))

-- ---- on the way

-- its sink failed in a call that takes these: what went out begins each file whose values begin so
pub record Stops {W : Type 0} (start put : Option (List ℕ)) (x : FileWriter W) (w : WriterState) : Type 0 where
  pub schema : schema_in x ≡ w.schema
  pub bytes : IsBytes w.taken
  pub out : Went start put (IsFrontOfFiles w.schema w.taken)

abbrev pub StandsOrStops : {W : Type 0} → (start put : Option (List ℕ)) → FileWriter W → WriterState
    → Result (Unit {0}) Device → Type 0
StandsOrStops start put x w (Ok u) = Stands start put x w
StandsOrStops start put x w (Err e) = Stops start put x w

-- the slab has all its elements, and these bytes of its padding aren't put yet
pub record Ends {W : Type 0} (missing : List ℕ) (start put : Option (List ℕ)) (x : FileWriter W)
    (w : WriterState) : Type 0 where
  pub schema : schema_in x ≡ w.schema
  pub failed : x.failed ≡ false
  pub stands : w.failed ≡ false
  pub bytes : IsBytes w.taken
  pub end : length w.taken ≡ end_of w.schema (x.slab + 1)
  pub whole : IsWhole w.schema w.taken
  pub out : Went start put (λ out. out ++ waiting x.paged_sink ++ missing ≡ written w.schema w.taken)
  pub pages : (given : ℕ) → given + length missing ≡ length (written w.schema w.taken) → PagesAreOut x w.schema given

-- so many elements of the slab that stand after those that were taken: these bytes of theirs are put
pub record Gives {W : Type 0} (bytes : List ℕ) (count : ℕ) (start put : Option (List ℕ)) (x : FileWriter W)
    (w : WriterState) : Type 0 where
  pub schema : schema_in x ≡ w.schema
  pub failed : x.failed ≡ false
  pub stands : w.failed ≡ false
  pub taken : IsBytes w.taken
  pub bytes_are : IsBytes bytes
  pub long : length bytes ≡ count * size_of (slab_at w.schema x.slab).var.xtype
  pub at : IsAt w.schema (length w.taken) x.slab x.left
  pub whole : IsWhole w.schema w.taken
  pub out : Went start put (λ out. out ++ waiting x.paged_sink ≡ written w.schema w.taken ++ bytes)
  pub pages : PagesAreOut x w.schema (length (written w.schema w.taken) + length bytes)

-- ---- how far it is

-- how many bytes of values were taken where so many elements of the slab are left
abbrev pub taken_at : Schema → (number left : ℕ) → ℕ
taken_at s k left =
    if ltb k (length (slabs_of s)) then end_of s (k + 1) - left * size_of (slab_at s k).var.xtype else end_of s k

abbrev pub taken_in : {W : Type 0} → FileWriter W → ℕ
taken_in x = taken_at (schema_in x) x.slab x.left
