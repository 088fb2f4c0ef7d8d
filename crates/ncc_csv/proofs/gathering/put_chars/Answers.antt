use Rattle.std.proofs.Common.{◌++◌, ℕ, List, take, ap, subst, arith}
use Rattle.std.proofs.lemmas.List.{take_all}
use Rattle.ncc_csv.specs.Rows.{Adds}
use Rattle.ncc_csv.specs.TextRuns.{bytes_of, Gathers}
use Rattle.ncc_csv.proofs.Adding.{adds_none, adds_both}
use Rattle.ncc_csv.proofs.Filling.{gathers_none, gathers_more, chars_done, next_char}
use Rattle.ncc_csv.proofs.gathering.put_chars.Goals as goal

pub loop-k-init : goal.loop-k-init
loop-k-init g c = record {
  between = c.requires.between;
  gathers = gathers_none c.args.slab.now c.args.gathered.now (Adds g.W.Write.contents c.args.w.now c.args.w.now) c.requires.short (adds_none g.W.Write.contents c.args.w.now c.requires.between);
}

pub put_char-requires-clause-there : goal.put_char-requires-clause-there
put_char-requires-clause-there g c =
    let old = c.args.gathered.now in
    omega (
      arith,
      c.requires.there,
      chars_done c.args.slab.now old.number old.text.items c.args.values.now c.loop-k.k c.loop-k.gathered (Adds g.W.Write.contents c.args.w.now c.loop-k.w) (omega arith) c.loop-k.invariant.gathers,
    )

pub loop-k-preserved : goal.loop-k-preserved
loop-k-preserved g c =
    let s = c.args.slab.now in
    let old = c.args.gathered.now in
    let contents = g.W.Write.contents in
    record {
      between = c.in_ok-put_char.ensures.fills.filled.between;
      gathers = subst (λ (l : List ℕ). Gathers s old.number l c.put_char.new.gathered (Adds contents c.args.w.now c.put_char.new.w)) (next_char old.text.items c.args.values.now c.loop-k.k _ c.loop-k-test.true)
          (gathers_more s old.number (old.text.items ++ bytes_of (take c.loop-k.k c.args.values.now)) _ c.loop-k.gathered c.put_char.new.gathered (Adds contents c.args.w.now c.loop-k.w) (Adds contents c.loop-k.w c.put_char.new.w) (Adds contents c.args.w.now c.put_char.new.w)
          (λ t u a b. adds_both contents c.args.w.now c.loop-k.w c.put_char.new.w t u a b) c.loop-k.invariant.gathers c.in_ok-put_char.ensures);
    }

pub returns : goal.returns
returns g c =
    let old = c.args.gathered.now in
    let values = c.args.values.now in
    subst (λ (l : List ℕ). Gathers c.args.slab.now old.number (old.text.items ++ l) c.loop-k.gathered (Adds g.W.Write.contents c.args.w.now c.loop-k.w))
    (ap (λ l. bytes_of l) (take_all c.loop-k.k values (omega arith))) c.loop-k.invariant.gathers
