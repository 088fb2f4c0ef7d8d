-- What is printed of the plan of a conversion.
use Rattle.std.specs.Prelude.{◌≡◌, ◌≢◌, ◌⊎◌, ℕ, List, Option, Result, Ok, Err}
use Rattle.ncc_values.specs.declared.version.Version.{Version}
use Rattle.ncc_schema.specs.Device.{Puts}
use Rattle.ncc_schema.specs.declared.schema.Schema.{Schema}
use Rattle.ncc_lines.specs.Sends.{PutsFront}
use Rattle.ncc_build.specs.Building.{RebuildsAs}
use Rattle.ncc_build.specs.declared.fault.WriteFault.{WriteFault}
use Rattle.ncc_build.specs.declared.fault.WriteFault.TheVariants as faults
use Rattle.ncc_convert.specs.Lines.{converted_line, plan_line}
use Rattle.ncc_answers.specs.declared.answer.Answer.{Answer}
use Rattle.ncc_answers.specs.declared.answer.Answer.TheVariants.{Passed, Refused, Device, Memory}

-- what is against the schema, with so many records, in this version
abbrev pub IsAgainst : Version → Schema → (records : ℕ) → WriteFault → Type 0
IsAgainst v s n f = (f ≢ faults.Memory) × RebuildsAs {T = Unit {0}} v s n (Err f)

-- nothing is against it
abbrev pub IsConvertible : Version → Schema → (records : ℕ) → Type 0
IsConvertible v s n = RebuildsAs {T = Unit {0}} v s n (Ok tt)

-- a front of the line of what is against it, or where nothing is of the line that it was converted
abbrev pub SendErrorLine : Version → Schema → (records : ℕ) → (old new : Option (List ℕ)) → Type 0
SendErrorLine v s n old new = ((f : WriteFault) × IsAgainst v s n f × PutsFront old new (plan_line f))
    ⊎ (IsConvertible v s n × PutsFront old new (converted_line v))

-- nothing is printed of a plan, and its line of what is against it
abbrev pub PlansInto : {T : Type 0} → Version → Schema → (records : ℕ) → (old new : Option (List ℕ))
    → Result T Answer → Type 0
PlansInto {T = T} v s n old new (Ok b) = (new ≡ old) × RebuildsAs {T = T} v s n (Ok b)
PlansInto v s n old new (Err Passed) = ⊥
PlansInto v s n old new (Err Refused) = (f : WriteFault) × IsAgainst v s n f × Puts old new (plan_line f)
PlansInto v s n old new (Err Device) = (f : WriteFault) × IsAgainst v s n f × PutsFront old new (plan_line f)
PlansInto v s n old new (Err Memory) = new ≡ old
