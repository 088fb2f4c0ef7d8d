use Rattle.std.proofs.Common.{◌+◌}
use Rattle.ncc_schema.specs.Names.{list_size, vars_at}
use Rattle.ncc_layout.specs.Extents.{record_count}
use Rattle.ncc_c.proofs.Codes.{rows_are}
use Rattle.ncc_c.proofs.laws.rows_are_variables.Goals as goal

pub returns : goal.returns
returns c = λ s places file e. rows_are s.version s.dims (record_count s places file) 0 (vars_at s + list_size s.version) s.vars places e
