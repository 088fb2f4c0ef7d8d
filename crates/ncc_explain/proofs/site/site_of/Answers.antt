use Rattle.std.proofs.Common.{◌≡◌, ℕ, List, length, min, take, ap, subst, ◌∙◌, arith}
use Rattle.ncc_header.specs.Fields.{header}
use Rattle.ncc_header.specs.Grammar.{lacking}
use Rattle.ncc_explain.specs.Sites.{GoesOnIn, IsFront, field_after, number_at}
use Rattle.ncc_explain.proofs.Fronts.{front_is_all, goes_on_in, stops_within}
use Rattle.ncc_explain.proofs.site.site_of.Goals as goal

pub returns-clause-site : goal.returns-clause-site
returns-clause-site g c = λ told stops.
    let bytes = g.S.Store.bytes c.args.store.now in
    let limit = c.args.limit in
    let f = c.args.fault in
    let end = c.min-end.result in
    let within = stops_within bytes limit f stops in
    let file : c.in-Ok.file_length ≡ length bytes = c.in-Ok.ensures.told told in
    let d = c.in_ok-decoder.decoder in
    let fed = c.in_ok-decoder.ensures in
    let taken = fed.ok.0 in
    let at_fault : c.min.result ≡ f.offset = omega (arith, c.min.ensures, c.min-end.ensures, file, within.0, within.1) in
    let front = subst (λ (b : List ℕ). IsFront b c.min.result taken) c.in-Ok.ensures.unmoved.same (fed.ok.2 told) in
    let all = front_is_all c.header_is_begun.ensures c.header_or_stop.ensures.apart bytes taken limit c.min.result f (omega arith) stops at_fault front in
    let found = c.unfinished.ensures in
    let size : c.wants.result ≡ field_after (take f.offset bytes) =
    c.wants.ensures.lacks taken fed.ok.1 fed.fresh ∙ ap (λ (l : ℕ). lacking header l 0 taken) fed.limit ∙ ap field_after all in
    let same = fed.store.unmoved.same ∙ c.in-Ok.ensures.unmoved.same in
    record {
      place = subst (λ (t : List ℕ). GoesOnIn t c.unfinished.result) all (goes_on_in d taken c.unfinished.result fed.ok.1 fed.limit fed.fresh found.part found.names found.exact found.settled);
      value = c.in-Ok-number_at.ensures.value told
          ∙ ap (λ (b : List ℕ). number_at b f.offset c.wants.result end) same
          ∙ ap (λ (n : ℕ). number_at bytes f.offset n end) size
          ∙ ap (λ (n : ℕ). number_at bytes f.offset (field_after (take f.offset bytes)) n) (c.min-end.ensures ∙ ap (λ (n : ℕ). min n limit) file);
      file = file;
    }
