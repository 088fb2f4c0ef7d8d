use Rattle.std.proofs.Common.{ap, ◌∙◌}
use Rattle.ncc_schema.specs.declared.schema.Header.{Header}
use Rattle.ncc_write.proofs.laws.adding.opens_with_its_schema.Goals as goal

pub returns : goal.returns
returns c = λ bytes limit places d s p all opens. opens.schema_is
    ∙ ap (λ (h : Header). h.schema) (c.header_or_stop.ensures.one_header bytes limit opens.header all.header
    opens.passes.begins all.passes.begins) ∙ all.schema_is
