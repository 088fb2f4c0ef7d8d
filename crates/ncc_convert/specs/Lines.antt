-- The lines of a conversion.
use Rattle.std.specs.Prelude.{ℕ, List, ◌++◌, codes}
use Rattle.ncc_values.specs.declared.version.Version.{Version}
use Rattle.ncc_values.specs.declared.version.Version.TheVariants.{V1, V2, V5}
use Rattle.ncc_build.specs.declared.fault.WriteFault.{WriteFault}
use Rattle.ncc_build.specs.declared.fault.WriteFault.TheVariants as fault

-- the name of a refusal
abbrev pub plan_word : WriteFault → List ℕ
plan_word fault.BadName = codes "BadName"
plan_word fault.DuplicateName = codes "DuplicateName"
plan_word fault.TwoRecordDims = codes "TwoRecordDims"
plan_word fault.BadDimId = codes "BadDimId"
plan_word fault.RecordDimNotFirst = codes "RecordDimNotFirst"
plan_word fault.TypeForVersion = codes "TypeForVersion"
plan_word fault.CountForVersion = codes "CountForVersion"
plan_word fault.OffsetForVersion = codes "OffsetForVersion"
plan_word fault.SizeForVersion = codes "SizeForVersion"
plan_word fault.WrongType = codes "WrongType"
plan_word fault.TooManyValues = codes "TooManyValues"
plan_word fault.Unfinished = codes "Unfinished"
plan_word fault.Failed = codes "Failed"
plan_word fault.Complete = codes "Complete"
plan_word fault.Device = codes "Device"
plan_word fault.Memory = codes "Memory"

-- of a file that can't be planned
abbrev pub plan_line : WriteFault → List ℕ
plan_line f = codes "refused " ++ plan_word f ++ codes "\n"

-- of one that was written
abbrev pub converted_line : Version → List ℕ
converted_line V1 = codes "ok CDF-1\n"
converted_line V2 = codes "ok CDF-2\n"
converted_line V5 = codes "ok CDF-5\n"
