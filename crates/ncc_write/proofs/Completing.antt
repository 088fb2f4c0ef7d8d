-- What is written once all values were taken is a completed file.
use Rattle.std.proofs.Common.{◌≡◌, ℕ, ◌<◌, List, length, sym, ap, subst, ◌∙◌}
use Rattle.ncc_values.specs.Numbers.{IsBytes}
use Rattle.ncc_schema.specs.declared.schema.Schema.{Schema}
use Rattle.ncc_schema.specs.Schema.{count_limit}
use Rattle.ncc_layout.specs.Plans.{IsKnown, known}
use Rattle.ncc_layout.specs.Standard.{standard_places}
use Rattle.ncc_build.specs.Building.{IsBuilt}
use Rattle.ncc_build.specs.File.{file_of, IsWritable}
use Rattle.ncc_write.specs.Holds.{HoldsValues}
use Rattle.ncc_write.specs.Laws.{FilePasses, PassesUnnoted, IsCompleted}
use Rattle.ncc_write.specs.Writing.{data_length, written, dataset_of}
use Rattle.ncc_write.proofs.Holding.{file_holds}
use Rattle.ncc_write.proofs.Laying.{written_all}
use Rattle.ncc_write.proofs.Taking.{taken_is_dataset, taken_is_data}

pub completes : FilePasses → (s : Schema) (taken : List ℕ) → IsBuilt s → IsKnown s.count
    → known s.count < count_limit s.version → IsWritable s → IsBytes taken → length taken ≡ data_length s
    → IsCompleted s taken (written s taken)
completes passes s taken built counted small writable are long =
    let d = dataset_of s taken in
    let is = taken_is_dataset s taken are long built.sound built.typed counted in
    let file_is : written s taken ≡ file_of d = ap (written s) (sym (taken_is_data s taken are long))
    ∙ written_all d is in
    record {
      dataset = is;
      values = taken_is_data s taken are long;
      file_is = file_is;
      passes = λ limit within. subst (λ (file : List ℕ). PassesUnnoted file limit s) (sym file_is)
          (passes d limit (record { dataset = is; built = built; count = small; writable = writable })
          within);
      holds = subst (λ (file : List ℕ). HoldsValues file (standard_places s) d) (sym file_is) (file_holds d is);
    }
