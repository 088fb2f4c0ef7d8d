-- The line of a selection that is refused.
use Rattle.std.specs.Prelude.{ℕ, List, ◌++◌, codes, decimal}
use Rattle.ncc_slab.specs.declared.fault.SlabFault.{SlabFault}
use Rattle.ncc_slab.specs.declared.fault.SlabFault.TheVariants as faults

-- its name, and the dimension's number where it has one
abbrev pub refused_words : SlabFault → List ℕ
refused_words faults.NoVariable = codes "NoVariable"
refused_words faults.RankMismatch = codes "RankMismatch"
refused_words (faults.ZeroStride k) = codes "ZeroStride " ++ decimal k
refused_words (faults.Outside k) = codes "Outside " ++ decimal k
refused_words faults.Device = codes "Device"
refused_words faults.Memory = codes "Memory"

abbrev pub refused_line : SlabFault → List ℕ
refused_line f = codes "refused " ++ refused_words f ++ codes "\n"
