-- What is found of a file, before its places are told.
use Rattle.std.specs.Prelude.{◌≡◌, ℕ, List, length, Result, Ok, Err}
use Rattle.ncc_header.specs.Answers.{Begins}
use Rattle.ncc_layout.specs.declared.fault.LayoutFaultKind.TheVariants.{TooLarge}
use Rattle.ncc_layout.specs.Sizes.{AreSizes}
use Rattle.ncc_check.specs.declared.fault.FileFault.{FileFault}
use Rattle.ncc_check.specs.declared.fault.FileFault.TheVariants as of
use Rattle.ncc_check.specs.declared.fault.Refusal.{Refusal}
use Rattle.ncc_check.specs.declared.fault.Refusal.TheVariants as refusals
use Rattle.ncc_check.specs.Faults.{Fails}
use Rattle.ncc_check.specs.FromStore.{IsBegun}
use Rattle.ncc_places.specs.declared.measuring.Measured.{Measured}

-- a fault with which nothing has a place: of the header, or that a variable is too large
abbrev pub HidesPlaces : FileFault → Type 0
HidesPlaces (of.Header f) = Unit {0}
HidesPlaces (of.Layout f) = f.kind ≡ TooLarge

-- the bytes begin with this header, and the sizes are those of its variables
pub record Finds (bytes : List ℕ) (limit : ℕ) (x : Measured) : Type 0 where
  pub begins : Begins bytes limit x.header
  pub sizes : AreSizes x.header.schema x.sizes
  pub length_is : x.file_length ≡ length bytes

-- what was found of the bytes: that, or their first fault, unless the device failed or memory was refused
abbrev pub Measures : (bytes : List ℕ) (limit : ℕ) → Result Measured Refusal → Type 0
Measures bytes limit (Ok x) = Finds bytes limit x
Measures bytes limit (Err (refusals.Fault f)) = Fails bytes limit f × HidesPlaces f
Measures bytes limit (Err refusals.Device) = Unit {0}
Measures bytes limit (Err refusals.Memory) = Unit {0}

-- the header was read, and the sizes are those of its variables
abbrev pub AreBegun : Result Measured Refusal → Type 0
AreBegun (Ok x) = IsBegun x.header × AreSizes x.header.schema x.sizes
AreBegun (Err e) = Unit {0}
