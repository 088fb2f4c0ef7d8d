use Rattle.std.proofs.Common.{Bool, ◌++◌, subst}
use Rattle.ncc_schema.specs.Device.{WritesAll}
use Rattle.ncc_answers.specs.Shown.{closing, opening, pieces}
use Rattle.ncc_answers.proofs.objects.send_path_value.Goals as goal

pub returns-clause-bytes : goal.returns-clause-bytes
returns-clause-bytes g c =
    subst (λ (t : Bool). WritesAll (g.W.Sink.put c.args.sink.now) (g.W.Sink.put c.send_as.new.sink) c.send_as.result (opening t ++ (pieces t c.args.path.now ++ closing t))) c.is_text.ensures c.send_as.ensures.bytes
