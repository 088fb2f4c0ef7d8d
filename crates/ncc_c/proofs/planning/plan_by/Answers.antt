use Rattle.std.proofs.Common.{inl, inr, refl}
use Rattle.ncc_build.specs.declared.fault.WriteFault.TheVariants.{Memory}
use Rattle.ncc_c.proofs.planning.plan_by.Goals as goal

pub returns-in_default-schema_by : goal.returns-in_default-schema_by
returns-in_default-schema_by c =
    inr (c.in-Some.version, record { number = c.in-Some.ensures; fit = c.if-not-rows_fit.ensures.0 refl }, Memory, tt, c.of_write_fault.ensures, inl refl)
