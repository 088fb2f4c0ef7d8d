use Rattle.std.proofs.Common.{◌≡◌, ℕ, [], ◌*◌, ◌∙◌, take, ap, arith, length-set}
use Rattle.std.proofs.lemmas.List.{take_more_set}
use Rattle.ncc_values.specs.XType.{size_of}
use Rattle.ncc_values.proofs.ElementsLemmas.{read_more}
use Rattle.ncc_values.proofs.elements.read_elements.Goals as goal

pub elements-preserved : goal.elements-preserved
elements-preserved g c =
    let e : c.SIZE.result ≡ size_of g.T.External.TYPE = c.SIZE.ensures ∙ g.met.T.External.has_size in
    let width = c.SIZE-in-elements.ensures ∙ g.met.T.External.has_size in
    record {
      read = take_more_set c.elements.items c.elements.i c.get.result (omega arith)
          ∙ read_more g.T.External.element g.T.External.number g.T.External.TYPE [] (take c.elements.i c.elements.items) c.get.result c.elements.i _ _ c.args.bytes.now g.met.T.External.element_of_number c.elements.invariant.read c.get.ensures (omega (arith, width)) (ap (λ (n : ℕ). c.elements.i * n) e);
      same = length-set c.elements.items c.elements.i c.get.result ∙ c.elements.invariant.same;
    }
