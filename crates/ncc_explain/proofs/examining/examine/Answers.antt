use Rattle.std.proofs.Common.{ℕ, List, subst, sym, refl, arith}
use Rattle.std.specs.Prelude.{IfOk}
use Rattle.ncc_header.specs.Answers.{Stops}
use Rattle.ncc_check.specs.Examining.{IsUnsound}
use Rattle.ncc_explain.specs.Explaining.{AreExamined}
use Rattle.ncc_explain.proofs.Fronts.{stops_within}
use Rattle.ncc_explain.proofs.Twice.{once_is_twice, then_counts, twice}
use Rattle.ncc_explain.proofs.examining.examine.Goals as goal

pub returns-in-Ok-clause-settled : goal.returns-in-Ok-clause-settled
returns-in-Ok-clause-settled g c = λ told. once_is_twice g.S.Store _ _ _ _ (c.check_with_header.ensures.settled told)

pub returns-in-Err-Layout-clause-settled : goal.returns-in-Err-Layout-clause-settled
returns-in-Err-Layout-clause-settled g c = λ told. once_is_twice g.S.Store _ _ _ _ (c.check_with_header.ensures.settled told)

pub returns-in-Err-Device-clause-settled : goal.returns-in-Err-Device-clause-settled
returns-in-Err-Device-clause-settled g c = λ told. once_is_twice g.S.Store _ _ _ _ (c.check_with_header.ensures.settled told)

pub returns-in-Err-Memory-clause-settled : goal.returns-in-Err-Memory-clause-settled
returns-in-Err-Memory-clause-settled g c = λ told. once_is_twice g.S.Store _ _ _ _ (c.check_with_header.ensures.settled told)

pub returns-in-Err-Header-clause-examines : goal.returns-in-Err-Header-clause-examines
returns-in-Err-Header-clause-examines g c = λ told.
    let bytes = g.S.Store.bytes c.args.store.now in
    let at = c.in-Err-Header in
    let same = at.ensures.store.unmoved.same in
    let stop = subst (IsUnsound bytes c.args.limit) at.field-0-is (at.ensures.examines told) in
    subst (λ (b : List ℕ). IfOk c.headless.result (AreExamined b c.args.limit)) same
    (c.headless.ensures.examines told (subst (λ (b : List ℕ). Stops b c.args.limit at.fault) (sym same) stop))

pub returns-in-Err-Header-clause-store : goal.returns-in-Err-Header-clause-store
returns-in-Err-Header-clause-store g c =
    let bytes = g.S.Store.bytes c.args.store.now in
    let at = c.in-Err-Header in
    let first = at.ensures.store in
    let second = c.headless.ensures.store in
    record {
      unmoved = c.unmoved_calls_join.ensures c.args.store.now c.check_with_header.new.store c.headless.new.store first.unmoved second.unmoved;
      kept = λ image was. second.kept image (first.kept image was);
      counted = then_counts c.headless.result at.field-0 at.fault _ _ _ at.field-0-is first.counted second.counted;
      calls = λ told.
          let within = stops_within bytes c.args.limit at.fault (subst (IsUnsound bytes c.args.limit) at.field-0-is (at.ensures.examines told)) in
          omega (arith, first.calls told, second.calls refl, within.0, within.1);
      reach = omega (arith, first.reach, second.reach);
    }

pub returns-in-Err-Header-clause-calls : goal.returns-in-Err-Header-clause-calls
returns-in-Err-Header-clause-calls g c = λ told none.
    let bytes = g.S.Store.bytes c.args.store.now in
    let at = c.in-Err-Header in
    absurd (none (at.fault, subst (IsUnsound bytes c.args.limit) at.field-0-is (at.ensures.examines told)))

pub returns-in-Err-Header-clause-once : goal.returns-in-Err-Header-clause-once
returns-in-Err-Header-clause-once g c = λ told none.
    let bytes = g.S.Store.bytes c.args.store.now in
    let at = c.in-Err-Header in
    absurd (none (at.fault, subst (IsUnsound bytes c.args.limit) at.field-0-is (at.ensures.examines told)))

pub returns-in-Err-Header-clause-settled : goal.returns-in-Err-Header-clause-settled
returns-in-Err-Header-clause-settled g c = λ told.
    let bytes = g.S.Store.bytes c.args.store.now in
    let at = c.in-Err-Header in
    let stop = subst (IsUnsound bytes c.args.limit) at.field-0-is (at.ensures.examines told) in
    twice c.stop_stays.ensures c.header_or_stop.ensures.apart c.header_or_stop.ensures.one_stop g.S.Store c.args.store.now c.check_with_header.new.store c.headless.new.store bytes c.args.limit at.fault stop
    (at.ensures.settled told) (c.headless.ensures.store.calls refl) c.headless.ensures.near
