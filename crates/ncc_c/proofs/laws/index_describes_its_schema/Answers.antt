use Rattle.ncc_layout.specs.Placed.{vars_of}
use Rattle.ncc_c.proofs.Described.{described_again, described_fit}
use Rattle.ncc_c.proofs.Indexing.{found_stand, placed_long}
use Rattle.ncc_c.proofs.laws.index_describes_its_schema.Goals as goal

pub returns-clause-fit : goal.returns-clause-fit
returns-clause-fit c = λ front file limit h p finds.
    described_fit front h.schema (vars_of p) (placed_long front file limit h p finds) (found_stand front file limit h p finds) finds.begins.is_header.typed

pub returns-clause-schema : goal.returns-clause-schema
returns-clause-schema c = λ front file limit h p v finds.
    described_again front h.schema (vars_of p) (placed_long front file limit h p finds) (found_stand front file limit h p finds) finds.begins.is_header.typed v
