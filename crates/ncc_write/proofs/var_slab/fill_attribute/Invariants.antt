use Rattle.std.proofs.Common.{◌≡◌, drop}
use Rattle.ncc_build.specs.Fill.{fill_name, named}
use Rattle.ncc_write.proofs.var_slab.fill_attribute.Given as goal

abbrev pub invariant-loop-attr : goal.invariant-loop-attr
invariant-loop-attr l = named fill_name (drop l.attr-index l.attrs) ≡ named fill_name l.attrs
