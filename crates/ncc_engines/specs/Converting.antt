-- What the convert engine leaves, and what is printed of a conversion that is refused.
use Rattle.std.specs.Prelude.{◌≡◌, ◌⊎◌, ℕ, Bool, List, Option}
use Rattle.ncc_values.specs.Failures.{Rose}
use Rattle.ncc_values.specs.declared.version.Version.{Version}
use Rattle.ncc_schema.specs.declared.schema.Schema.{Schema}
use Rattle.ncc_layout.specs.Placed.{records_of_file}
use Rattle.ncc_layout.specs.declared.placed_file.Placed.{Placed}
use Rattle.ncc_check.specs.Checks.{Opens}
use Rattle.ncc_lines.specs.Sends.{PutsFront}
use Rattle.ncc_build.specs.declared.fault.WriteFault.{WriteFault}
use Rattle.ncc_convert.specs.Copying.{HasFront}
use Rattle.ncc_convert.specs.Converting.{HasFile}
use Rattle.ncc_convert.specs.Lines.{converted_line, plan_line}
use Rattle.ncc_engines.specs.Checking.{IsFaultOf}
use Rattle.ncc_engines.specs.Planning.{IsAgainst, IsConvertible}
use Rattle.ncc_answers.specs.declared.answer.Answer.{Answer}
use Rattle.ncc_answers.specs.declared.answer.Answer.TheVariants.{Passed, Refused, Device, Memory}

-- exactly the file of the dataset, or a beginning of it; it is never refused
abbrev pub ConvertsInto : (told : Bool) → (file : List ℕ) → Placed → (planned : Schema)
    → (start put : Option (List ℕ)) → Answer → Type 0
ConvertsInto told file p t start put Passed = HasFile told file p t start put
ConvertsInto told file p t start put Refused = ⊥
ConvertsInto told file p t start put Device = HasFront told file p t start put
ConvertsInto told file p t start put Memory = HasFront told file p t start put

-- a failure of the device is counted, of the store or of the sink, and nothing else
abbrev pub ConversionCounts : (old_store new_store old_sink new_sink : ℕ) → Answer → Type 0
ConversionCounts m n i j Device = (Rose m n × (j ≡ i)) ⊎ ((n ≡ m) × Rose i j)
ConversionCounts m n i j answer = (n ≡ m) × (j ≡ i)

-- the line of what is against a file that passes, in this version
abbrev pub IsPlanLine : (bytes : List ℕ) (limit : ℕ) → Version → (text : List ℕ) → Type 0
IsPlanLine b limit v text = (s : Schema) × (p : Placed) × (f : WriteFault) × Opens b limit s p
    × IsAgainst v s (records_of_file p) f × (text ≡ plan_line f)

-- the line of why a file isn't converted
abbrev pub IsRefusalLine : (bytes : List ℕ) (limit : ℕ) → Version → (text : List ℕ) → Type 0
IsRefusalLine b limit v text = IsFaultOf b limit text ⊎ IsPlanLine b limit v text

-- a front of that line went out
abbrev pub HasRefusalFront : (bytes : List ℕ) (limit : ℕ) → Version → (old new : Option (List ℕ)) → Type 0
HasRefusalFront b limit v old new = (text : List ℕ) × IsRefusalLine b limit v text × PutsFront old new text

-- a front of the line that a file was converted, where it passes and nothing is against it
abbrev pub HasConvertedFront : (bytes : List ℕ) (limit : ℕ) → Version → (old new : Option (List ℕ)) → Type 0
HasConvertedFront b limit v old new = (s : Schema) × (p : Placed) × Opens b limit s p
    × IsConvertible v s (records_of_file p) × PutsFront old new (converted_line v)
