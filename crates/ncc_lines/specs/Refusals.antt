-- The line of a record that isn't added.
use Rattle.std.specs.Prelude.{◌≡◌, ℕ, List, ◌++◌, codes, decimal}
use Rattle.ncc_check.specs.declared.append_error.AppendError.{AppendError}
use Rattle.ncc_check.specs.declared.append_error.AppendError.TheVariants as errors

-- its name, and the record variable's number where it has one
abbrev pub append_words : AppendError → List ℕ
append_words errors.Reopen = codes "Reopen"
append_words errors.NoRecordVariable = codes "NoRecordVariable"
append_words errors.NotPacked = codes "NotPacked"
append_words errors.Streaming = codes "Streaming"
append_words errors.CountFull = codes "CountFull"
append_words (errors.WrongValues k) = codes "WrongValues " ++ decimal k
append_words errors.Device = codes "Device"
append_words errors.Memory = codes "Memory"

abbrev pub append_line : AppendError → List ℕ
append_line e = codes "refused " ++ append_words e ++ codes "\n"

-- this is the line, but for WrongValues, of which it is what stands before the number
abbrev pub IsLineOf : AppendError → (text : List ℕ) → Type 0
IsLineOf (errors.WrongValues k) text = text ≡ codes "refused WrongValues "
IsLineOf e text = text ≡ append_line e
