-- What a command line selects: what it gives, and else every index from the start on.
use Rattle.std.specs.Prelude.{◌≡◌, ℕ, Bool, true, ◌==◌, ◌&&◌, if◌then◌else◌, Option, Some, None, option_map, unwrap_or, Result, Ok, Err, List, [], ◌∷◌, length, replicate}
use Rattle.std.specs.List.{position_from}
use Rattle.ncc_slab.specs.Selection.{fitting_count}
use Rattle.ncc_slab.specs.declared.fault.SlabFault.{SlabFault}
use Rattle.ncc_slab.specs.declared.fault.SlabFault.TheVariants as faults
use Rattle.ncc_slab.specs.declared.slab.Slab.{Slab}
use Rattle.ncc_csv.specs.declared.pick.Pick.{Pick}

-- ---- what is selected

-- along each dimension as many indices as fit
abbrev pub fitting_counts : (lengths start stride : List ℕ) → List ℕ
fitting_counts (l ∷ lengths) (s ∷ start) (d ∷ stride) = fitting_count l s d ∷ fitting_counts lengths start stride
fitting_counts _ _ _ = []

abbrev pub picked_start : (lengths : List ℕ) → Pick → List ℕ
picked_start lengths p = unwrap_or p.start (replicate (length lengths) 0)

abbrev pub picked_stride : (lengths : List ℕ) → Pick → List ℕ
picked_stride lengths p = unwrap_or p.stride (replicate (length lengths) 1)

abbrev pub picked_count : (lengths : List ℕ) → Pick → List ℕ
picked_count lengths p = unwrap_or p.count (fitting_counts lengths (picked_start lengths p) (picked_stride lengths p))

abbrev pub picked : (lengths : List ℕ) → Pick → Slab
picked lengths p = record { start = picked_start lengths p; count = picked_count lengths p; stride = picked_stride lengths p }

-- ---- what is refused before a count is sought

-- what is given is given for each dimension, and for no more
abbrev pub suits : (rank : ℕ) → Option (List ℕ) → Bool
suits rank None = true
suits rank (Some numbers) = length numbers == rank

abbrev pub is_zero : ℕ → Bool
is_zero n = n == 0

-- a wrong number of starts, counts or strides, or else the first stride that is 0
abbrev pub pick_fault : (rank : ℕ) → Pick → Option SlabFault
pick_fault rank p =
    if suits rank p.start && suits rank p.count && suits rank p.stride then option_map faults.ZeroStride (position_from is_zero 0 (unwrap_or p.stride []))
    else Some faults.RankMismatch

-- exactly that fault; and only where there is none the selection, or want of memory
abbrev pub PicksAs : (lengths : List ℕ) → Pick → Result Slab SlabFault → Type 0
PicksAs lengths p (Ok s) = (pick_fault (length lengths) p ≡ None) × (s ≡ picked lengths p)
PicksAs lengths p (Err faults.Memory) = pick_fault (length lengths) p ≡ None
PicksAs lengths p (Err f) = pick_fault (length lengths) p ≡ Some f
