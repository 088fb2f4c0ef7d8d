use Rattle.std.proofs.Common.{◌≡◌, ◌<◌, None, Err, length, drop, sym, subst, ◌∙◌, arith, rules}
use Rattle.std.proofs.lemmas.List.{nil_from_length}
use Rattle.ncc_write.specs.Trips.{PutsAll}
use Rattle.ncc_write.specs.Writer.{sink_in}
use Rattle.ncc_write.specs.Writing.{with_more}
use Rattle.ncc_write.proofs.TripPuts.{PutSoFar, all_put, at_first, goes_on, stops, too_many}
use Rattle.ncc_write.proofs.trip_putting.put_all.Goals as goal

pub loop-var-init : goal.loop-var-init
loop-var-init g c = λ start w at goes. at_first start (g.W.Sink.put (sink_in c.args.writer.now)) c.args.writer.now w c.args.bytes.now at

pub put_slab-requires-clause-stood : goal.put_slab-requires-clause-stood
put_slab-requires-clause-stood g c =
    let stood = c.requires.stood in
    let so = c.loop-var.invariant stood.0 stood.1 stood.2 stood.3 in
    (stood.0, with_more stood.1 so.front, so.stands, stood.3)

pub returns-in_err-count : goal.returns-in_err-count
returns-in_err-count g c = record {
  puts = λ start w at goes.
      let x = c.loop-var.writer in
      let new = c.put_slab.new.writer in
      let so = c.loop-var.invariant start w at goes in
      let is : c.from_residual.result ≡ Err c.in_err-count.field-0.0 = search rules in
      subst (PutsAll start (g.W.Sink.put (sink_in new)) new w c.args.bytes.now) (sym is)
      (stops start (g.W.Sink.put (sink_in x)) (g.W.Sink.put (sink_in new)) x new w c.args.bytes.now c.loop-var.rest.now so
      c.in_err-count.field-0.0 (c.in_err-count.ensures.puts start (with_more w so.front) so.stands goes));
}

pub split_at-requires : goal.split_at-requires
split_at-requires g c =
    let stood = c.requires.stood in
    let so = c.loop-var.invariant stood.0 stood.1 stood.2 stood.3 in
    (c.in_ok-count.ensures.puts stood.0 (with_more stood.1 so.front) so.stands stood.3).1

pub loop-var-smaller : goal.loop-var-smaller
loop-var-smaller g c =
    let stood = c.requires.stood in
    let so = c.loop-var.invariant stood.0 stood.1 stood.2 stood.3 in
    let puts = c.in_ok-count.ensures.puts stood.0 (with_more stood.1 so.front) so.stands stood.3 in
    omega (arith, puts.0, puts.1, c.split_at.ensures.back_len)

pub loop-var-preserved : goal.loop-var-preserved
loop-var-preserved g c = λ start w at goes.
    let x = c.loop-var.writer in
    let new = c.put_slab.new.writer in
    let rest = c.loop-var.rest.now in
    let so = c.loop-var.invariant start w at goes in
    let puts = c.in_ok-count.ensures.puts start (with_more w so.front) so.stands goes in
    let after : c.split_at.result.1.now ≡ drop c.in_ok-count.count rest = search rules in
    subst (PutSoFar start (g.W.Sink.put (sink_in new)) new w c.args.bytes.now) (sym after)
    (goes_on start (g.W.Sink.put (sink_in x)) (g.W.Sink.put (sink_in new)) x new w c.args.bytes.now rest c.in_ok-count.count
    so puts)

pub returns-then-not-is_empty : goal.returns-then-not-is_empty
returns-then-not-is_empty g c = record {
  puts = λ start w at goes.
      let x = c.loop-var.writer in
      let rest = c.loop-var.rest.now in
      let none : c.expects.result ≡ None = search rules in
      let more : 0 < length rest = search rules in
      too_many start (g.W.Sink.put (sink_in x)) x w c.args.bytes.now rest (c.loop-var.invariant start w at goes) goes
      (λ v there. sym none ∙ c.expects.ensures start v there) c.complete_when_taken.ensures more;
}

pub returns : goal.returns
returns g c = record {
  puts = λ start w at goes.
      let x = c.loop-var.writer in
      let rest = c.loop-var.rest.now in
      let none : c.expects.result ≡ None = search rules in
      let zero : length rest ≡ 0 = search rules in
      all_put start (g.W.Sink.put (sink_in x)) x w c.args.bytes.now rest (c.loop-var.invariant start w at goes) goes
      (λ v there. sym none ∙ c.expects.ensures start v there) (nil_from_length rest zero);
}
