use Rattle.std.proofs.Common.{◌++◌, ℕ, List, Ok, Err, drop, length, take, subst, sym, ap, ◌∙◌, arith}
use Rattle.std.proofs.lemmas.List.{length-map}
use Rattle.ncc_layout.specs.Elements.{place_of}
use Rattle.ncc_slab.specs.Selected.{places_of}
use Rattle.ncc_slab.specs.Selection.{indices_of}
use Rattle.ncc_ranges.specs.declared.runs.SlabRuns.{SlabRuns}
use Rattle.ncc_ranges.specs.Runs.{AreLongest, BeginsRuns, places_in, runs_left}
use Rattle.ncc_c.specs.Selecting.{HasStretches, no_stretches}
use Rattle.ncc_c.proofs.Ranging.{err_ranges}
use Rattle.ncc_c.proofs.stretching.put.Goals as goal

pub returns-in-Err : goal.returns-in-Err
returns-in-Err c = record {
  answer = Err c.in-Err.fault;
  ranges = err_ranges {A = SlabRuns} {B = Unit {0}} c.args.record_size c.args.file_length c.args.var.now c.args.slab.now (BeginsRuns c.args.record_size c.args.file_length c.args.var.now c.args.slab.now c.args.first) (λ u. HasStretches c.args.record_size c.args.file_length c.args.var.now c.args.slab.now c.args.first c.args.out.now c.without_stretches.result) c.in-Err.fault c.in-Err.ensures;
  told = c.without_stretches.ensures ∙ ap no_stretches c.of_range.ensures;
}

pub returns : goal.returns
returns c =
    let x = c.args.var.now in
    let s = c.args.slab.now in
    let all = places_of c.args.record_size x s in
    let begins = c.in-Ok.ensures.1 in
    let same = c.put-written.ensures.all ∙ begins.all in
    let size = c.size.ensures in
    let written = take c.put-written.result c.put-written.new.out in
    let left = c.at.ensures.left ∙ ap (drop c.at.result) same in
    record {
      answer = Ok tt;
      ranges = (
        c.in-Ok.ensures.0,
        record {
          outcome_is = c.outcome_of.ensures;
          size_is = size;
          total_is = c.count.ensures ∙ ap length same ∙ length-map (indices_of s) (place_of c.args.record_size x);
          places = sym begins.left ∙ c.put-written.ensures.left
              ∙ ap (λ (n : ℕ). places_in n written ++ runs_left c.put-written.new.self) (begins.size ∙ sym size)
              ∙ ap (λ (l : List ℕ). places_in c.size.result written ++ l) left;
          most = c.put-written.ensures.most;
          longest = subst (λ (l : List ℕ). AreLongest c.size.result l written) left
              (subst (λ (n : ℕ). AreLongest n (runs_left c.put-written.new.self) written) (begins.size ∙ sym size) c.put-written.ensures.longest);
          some = c.put-written.ensures.some;
          within = omega (arith, c.at.ensures.most, c.count.ensures);
          ends = begins.ends;
          fits = begins.fits;
          whole = λ lt. sym left ∙ c.put-written.ensures.whole lt;
        },
      );
      told = tt;
    }
