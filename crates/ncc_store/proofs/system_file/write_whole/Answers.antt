use Rattle.std.proofs.Common.{◌≡◌, ◌+◌, ◌++◌, length, length-append, take, sym, ap, ◌∙◌, rules, arith}
use Rattle.std.proofs.lemmas.List.{take-append-drop, length-take-le}
use Rattle.ncc_store.proofs.WholePieces.{written_more, runs_on, failed_so_far, on_err, one_call}
use Rattle.ncc_store.proofs.system_file.write_whole.Goals as goal

pub returns-in_err-n-clause-err : goal.returns-in_err-n-clause-err
returns-in_err-n-clause-err g c = λ told. on_err _ (failed_so_far _ _ _ _ _ _ _ _ _ _ _ _ c.loop-rest.invariant.0 (search rules) told c.requires.begin (c.in_err-n.ensures.err told))

pub returns-in_err-n-clause-images : goal.returns-in_err-n-clause-images
returns-in_err-n-clause-images g c = runs_on _ _ _ _ _ _ _ _ _ _ _ _ c.loop-rest.invariant.0 (search rules) c.in_err-n.ensures.images

pub loop-rest-preserved : goal.loop-rest-preserved
loop-rest-preserved g c =
    let rest = c.loop-rest.rest.now in
    let n = c.in_ok-n.n in
    let parts : rest ≡ take n rest ++ c.split_at.result.1.now = sym (take-append-drop n rest) ∙ ap (λ z. take n rest ++ z) (sym c.split_at.ensures.back) in
    let size : length (take n rest) ≡ n = length-take-le n rest c.in_ok-n.ensures.some.0 in
    let next : c.loop-rest.at + n ≡ c.loop-rest.at + length (take n rest) = omega (arith, size) in (
      written_more _ _ _ _ _ _ _ _ _ _ _ _ rest (take n rest) _ c.loop-rest.invariant.0 (search rules) c.requires.begin parts next (λ short. size ∙ c.in_ok-n.ensures.short short) c.in_ok-n.ensures.ok c.in_ok-n.ensures.images,
      c.in_ok-n.ensures.once ∙ c.loop-rest.invariant.1,
      c.in_ok-n.ensures.sound,
      λ short. one_call _ _ _ g.F.SystemFile.calls _ _ _ _ _ _ _ _ _ c.loop-rest.invariant.0 (search rules) c.in_ok-n.ensures.calls short,
      omega (arith, c.loop-rest.invariant.4, c.in_ok-n.ensures.calls, c.in_ok-n.ensures.some.0, c.in_ok-n.ensures.some.1 (search rules), ap length parts, length-append (take n rest) c.split_at.result.1.now, size),
    )

pub returns-in_err-n-clause-one_call : goal.returns-in_err-n-clause-one_call
returns-in_err-n-clause-one_call g c = λ short.
    one_call _ _ _ g.F.SystemFile.calls _ _ _ _ _ _ _ _ _ c.loop-rest.invariant.0 (search rules) c.in_err-n.ensures.calls short
