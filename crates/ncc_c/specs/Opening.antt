-- What one reading of a header tells a C program.
use Rattle.std.specs.Prelude.{◌≡◌, ◌⊎◌, ℕ, List, length, Result, Ok, Err}
use Rattle.ncc_values.specs.Version.{byte_of}
use Rattle.ncc_layout.specs.Placed.{record_size_of_file, records_of_file}
use Rattle.ncc_front.specs.declared.judging.Found.{Found}
use Rattle.ncc_front.specs.declared.judging.FrontRefusal.{FrontRefusal}
use Rattle.ncc_c.specs.declared.index.Indexed.{Indexed}
use Rattle.ncc_c.specs.declared.opening.Opened.{Opened}
use Rattle.ncc_c.specs.declared.rows.AttrRow.{AttrRow}
use Rattle.ncc_c.specs.declared.rows.DimRow.{DimRow}
use Rattle.ncc_c.specs.declared.rows.VarRow.{VarRow}
use Rattle.ncc_c.specs.declared.verdict.Verdict.{Verdict}
use Rattle.ncc_c.specs.Outcomes.{no_room, passes}
use Rattle.ncc_c.specs.Rows.{TellsIndex}

-- an answer with nothing but an index
abbrev pub without_numbers : Indexed → Opened
without_numbers x = record { rows = x; version = 0; header_length = 0; records = 0; record_size = 0; global_attrs = 0 }

-- the numbers of a file that passes
abbrev pub with_numbers_of : Found → Indexed → Opened
with_numbers_of f x = record {
  rows = x;
  version = byte_of f.header.schema.version;
  header_length = f.header.length;
  records = records_of_file f.placed;
  record_size = record_size_of_file f.placed;
  global_attrs = length f.header.schema.gatts;
}

-- the numbers of what was found
abbrev pub opened_by : Result Found FrontRefusal → Indexed → Opened
opened_by (Ok f) x = with_numbers_of f x
opened_by (Err e) x = without_numbers x

-- the rows are those of what is found, and so are the numbers
pub record TellsFile (front : List ℕ) (file limit : ℕ) (dims : List DimRow) (attrs : List AttrRow) (vars : List VarRow) (ids : List ℕ) (x : Opened) : Type 0 where
  pub index : TellsIndex front file limit dims attrs vars ids x.rows
  pub numbers : x ≡ opened_by index.answer x.rows

-- the file passes, whether there is room for its rows or not
abbrev pub Opens : Opened → Type 0
Opens x = (x.rows.outcome ≡ passes) ⊎ (x.rows.outcome ≡ no_room)

-- its numbers are those of a verdict
pub record HasNumbersOf (v : Verdict) (x : Opened) : Type 0 where
  pub version : x.version ≡ v.version
  pub header_length : x.header_length ≡ v.header_length
  pub records : x.records ≡ v.records
  pub record_size : x.record_size ≡ v.record_size
  pub dims : x.rows.dims ≡ v.dims
  pub global_attrs : x.global_attrs ≡ v.global_attrs
  pub vars : x.rows.vars ≡ v.vars
