-- Parts of the judging of a call, each a run of refusals in their order.
use Rattle.std.specs.Prelude.{ℕ, ◌+◌, ◌||◌, Bool, List, [], ◌∷◌, length}
use Rattle.std.specs.List.{list_any}
use Rattle.ncc_values.specs.declared.version.Version.{Version}
use Rattle.ncc_values.specs.declared.xtype.XType.{XType}
use Rattle.ncc_schema.specs.declared.schema.Dim.{Dim}
use Rattle.ncc_build.specs.declared.fault.WriteFault.{WriteFault}
use Rattle.ncc_layout.specs.declared.plan_fault.PlanFault.{PlanFault}
use Rattle.ncc_layout.specs.declared.plan_fault.PlanFault.TheVariants as plan
use Rattle.ncc_build.specs.declared.fault.WriteFault.TheVariants.{BadName, DuplicateName, TwoRecordDims, BadDimId, RecordDimNotFirst, TypeForVersion, CountForVersion, OffsetForVersion, SizeForVersion, Memory}
use Rattle.ncc_build.specs.Building.{is_bad_name, is_duplicate_name, makes_two_record_dims, is_past, lacks_type_for_version, has_bad_dim_id, has_record_dim_not_first}

-- of a name beside these
abbrev pub name_refusals : (fits : Bool) → (names : List (List ℕ)) → (name : List ℕ) → List (Bool × WriteFault)
name_refusals fits names name = (is_bad_name fits name, BadName) ∷ (is_duplicate_name name names, DuplicateName) ∷ []

-- of the dimensions of a variable
abbrev pub dims_refusals : List Dim → (ids : List ℕ) → List (Bool × WriteFault)
dims_refusals dims ids = (has_bad_dim_id dims ids, BadDimId) ∷ (has_record_dim_not_first dims ids, RecordDimNotFirst) ∷ []

-- one more item than so many, or this number, can't be told
abbrev pub exceeds_count_for_version : Version → (items number : ℕ) → Bool
exceeds_count_for_version v items number = is_past v (items + 1) || list_any (is_past v) (number ∷ [])

-- of a type, and of the numbers
abbrev pub kind_refusals : Version → XType → (items number : ℕ) → List (Bool × WriteFault)
kind_refusals v t items number = (lacks_type_for_version v t, TypeForVersion) ∷ (exceeds_count_for_version v items number, CountForVersion) ∷ []

-- of the length of a dimension after these
abbrev pub dim_refusals : Version → List Dim → (length : ℕ) → List (Bool × WriteFault)
dim_refusals v dims n = (makes_two_record_dims dims n, TwoRecordDims) ∷ (exceeds_count_for_version v (length dims) n, CountForVersion) ∷ []

-- the refusal for want of a plan
abbrev pub refusal_of : PlanFault → WriteFault
refusal_of plan.SizeForVersion = SizeForVersion
refusal_of plan.OffsetForVersion = OffsetForVersion
refusal_of plan.Memory = Memory
