use Rattle.std.proofs.Common.{◌≡◌, ◌++◌, length, take, sym, ap, ◌∙◌, arith, rules}
use Rattle.std.proofs.lemmas.List.{length-drop, take-append-drop}
use Rattle.ncc_schema.proofs.Writing.{so_far_more}
use Rattle.ncc_schema.proofs.sink.write_all.Goals as goal

pub loop-rest-preserved : goal.loop-rest-preserved
loop-rest-preserved g c =
    let rest = c.loop-rest.rest.now in
    let n = c.in_ok-n.n in
    let parts : rest ≡ take n rest ++ c.split_at.result.1.now = sym (take-append-drop n rest) ∙ ap (λ z. take n rest ++ z) (sym c.split_at.ensures.back) in
    record {
      so_far = so_far_more _ (g.W.Sink.put c.loop-rest.sink) _ c.args.bytes.now rest (take n rest) _ c.loop-rest.invariant.so_far parts c.in_ok-n.ensures.bytes.2;
      counts = c.in_ok-n.ensures.count ∙ c.loop-rest.invariant.counts;
      called = omega (
        arith,
        c.write.ensures.calls,
        c.loop-rest.invariant.called,
        c.in_ok-n.ensures.bytes.0,
        c.in_ok-n.ensures.bytes.1 (search rules),
        ap length c.split_at.ensures.back,
        length-drop n rest,
      );
    }
