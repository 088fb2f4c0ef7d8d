-- How errors of the crates below become refusals.
use Rattle.ncc_header.specs.declared.fault.HeaderError.{HeaderError}
use Rattle.ncc_header.specs.declared.fault.HeaderError.TheVariants as errors
use Rattle.ncc_check.specs.declared.fault.FileFault.TheVariants.{Header}
use Rattle.ncc_check.specs.declared.fault.Refusal.{Refusal}
use Rattle.ncc_check.specs.declared.fault.Refusal.TheVariants.{Fault, Device, Memory}

abbrev pub refusal_of : HeaderError → Refusal
refusal_of (errors.Fault f) = Fault (Header f)
refusal_of errors.Device = Device
refusal_of errors.Memory = Memory
