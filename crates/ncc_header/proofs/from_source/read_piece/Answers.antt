use Rattle.std.proofs.Common.{ℕ, ◌++◌}
use Rattle.ncc_header.proofs.FromSource.{counts_failed}
use Rattle.ncc_header.specs.Decoder.{limit_of}
use Rattle.ncc_header.proofs.from_source.read_piece.Goals as goal

pub returns-in-Err-clause-count : goal.returns-in-Err-clause-count
returns-in-Err-clause-count g c =
    counts_failed ℕ (g.R.Source.failures c.args.source.now) (g.R.Source.failures c.read.new.self) (c.requires.took.0 ++ c.split_at.result.0.now) (limit_of c.args.decoder.now) c.in-Err.error (c.in-Err.ensures.answers c.requires.took.0 c.requires.took.1) c.in_ok-n.ensures.count
