use Rattle.std.proofs.Common.{◌≡◌, ◌+◌, ◌*◌, ◌/◌, ◌%◌, ◌-◌, ◌++◌, ℕ, List, map, length, drop, get_or, set, decimal, sym, ap, ◌∙◌, arith}
use Rattle.std.proofs.lemmas.List.{length-map, map-set}
use Rattle.ncc_csv.specs.Word.{word_text}
use Rattle.ncc_csv.specs.Runs.{leading_texts}
use Rattle.ncc_csv.proofs.Order.{last_of, one_text, no_texts, all_texts}
use Rattle.ncc_csv.proofs.heads.set_heads.Goals as goal

pub loop-dim-init : goal.loop-dim-init
loop-dim-init c = record {
  within = omega arith;
  there = c.requires.there;
  so_far = no_texts c.args.slab.now (length c.args.heads.now) c.args.number (map word_text c.args.heads.now) (length-map c.args.heads.now word_text);
}

pub nonzero_rem-rest : goal.nonzero_rem-rest
nonzero_rem-rest c =
    let last = last_of c.args.slab.now.count (c.loop-dim.dim - 1) c.loop-dim.dim c.loop-dim.rest (omega arith) (omega arith) c.loop-dim.invariant.there in
    rw c.count_along-count.ensures last.some

pub index_along-requires-clause-there : goal.index_along-requires-clause-there
index_along-requires-clause-there c =
    let last = last_of c.args.slab.now.count (c.loop-dim.dim - 1) c.loop-dim.dim c.loop-dim.rest (omega arith) (omega arith) c.loop-dim.invariant.there in
    omega (arith, last.some, c.count_along-count.ensures)

pub nonzero_div-rest : goal.nonzero_div-rest
nonzero_div-rest c =
    let last = last_of c.args.slab.now.count (c.loop-dim.dim - 1) c.loop-dim.dim c.loop-dim.rest (omega arith) (omega arith) c.loop-dim.invariant.there in
    rw c.count_along-count.ensures last.some

pub loop-dim-preserved : goal.loop-dim-preserved
loop-dim-preserved c =
    let s = c.args.slab.now in
    let i = c.loop-dim.dim - 1 in
    let count = get_or s.count i 0 in
    let texts = map word_text c.loop-dim.heads in
    let last = last_of s.count i c.loop-dim.dim c.loop-dim.rest (omega arith) (omega arith) c.loop-dim.invariant.there in
    let index : c.index_along.result ≡ get_or s.start i 0 + c.loop-dim.rest % count * get_or s.stride i 0 =
    c.index_along.ensures ∙ ap (λ (n : ℕ). get_or s.start i 0 + c.loop-dim.rest % n * get_or s.stride i 0) c.count_along-count.ensures in
    let text : word_text c.unsigned.result ≡ decimal (get_or s.start i 0 + c.loop-dim.rest % count * get_or s.stride i 0) =
    c.unsigned.ensures ∙ ap decimal index in
    record {
      within = omega arith;
      there = rw c.count_along-count.ensures last.there;
      so_far =
          ap (λ (n : ℕ). leading_texts s i (c.loop-dim.rest / n) ++ drop i (map word_text (set c.loop-dim.heads i c.unsigned.result))) c.count_along-count.ensures
          ∙ ap (λ (l : List (List ℕ)). leading_texts s i (c.loop-dim.rest / count) ++ drop i l) (map-set word_text c.loop-dim.heads i c.unsigned.result)
          ∙ one_text s i c.loop-dim.dim c.loop-dim.rest texts (word_text c.unsigned.result) c.requires.fits (omega arith) (omega arith) (omega (arith, length-map c.loop-dim.heads word_text)) c.loop-dim.invariant.there text
          ∙ c.loop-dim.invariant.so_far;
    }

pub returns : goal.returns
returns c =
    sym (all_texts c.args.slab.now c.loop-dim.rest c.loop-dim.dim (map word_text c.loop-dim.heads) (omega arith) c.loop-dim.invariant.there) ∙ c.loop-dim.invariant.so_far
