use Rattle.std.proofs.Common.{◌≡◌, ◌⊎◌, ◌+◌, refl, inr, ⊎_elim, ℕ, List, Bool, false, Err, length, ap, sym, subst, ◌∙◌, arith, add-one, rules}
use Rattle.ncc_store.specs.Store.{LeavesOnly, Only}
use Rattle.ncc_store.proofs.Moments.{joined, stays}
use Rattle.ncc_check.specs.Appending.{CountsDevice, HasRecordOrNot, IsAppendable, IsFull, TakesRecord}
use Rattle.ncc_check.specs.Files.{store_of, schema_of, placed_of, must_reopen}
use Rattle.ncc_check.specs.declared.append_error.AppendError.{AppendError}
use Rattle.ncc_check.specs.declared.append_error.AppendError.TheVariants as error
use Rattle.ncc_schema.specs.Schema.{Place}
use Rattle.ncc_build.specs.Dataset.{Dataset}
use Rattle.ncc_layout.specs.Placed.{record_size_of_file, records_of_file}
use Rattle.ncc_write.specs.Additions.{HoldsAll}
use Rattle.ncc_write.specs.Extends.{AddsAs, Contains, HasRecords, HoldsSome, LeavesFills, TakesRecords, filled_bytes, with_fills}
use Rattle.ncc_write.specs.Records.{bytes_of_record, fill_values}
use Rattle.ncc_write.proofs.MoreFills.{Laws, at_start, from_what_was, only_what_follows, held_first, some_held, one_fill, fill_or_not}
use Rattle.ncc_write.proofs.MoreRecords.{bytes_more, calls_so, fills_or_not, is_reached, no_records, none_left_out, as_first, one_record_more, room_more, refused_so, extended_so}
use Rattle.ncc_write.proofs.extending.extend.Goals as goal

pub returns-then-more-eq0-clause-leaves : goal.returns-then-more-eq0-clause-leaves
returns-then-more-eq0-clause-leaves g c =
    let f = c.args.file.now in
    record {
      added = subst (λ (k : ℕ). HasRecords (schema_of f) (placed_of f) k (schema_of f) (placed_of f)) (sym c.if-more-eq0.true) (no_records (schema_of f) (placed_of f));
      partly = tt;
      full = tt;
      none = λ zero. refl;
      unchanged = tt;
      full_at_once = λ full. tt;
      fresh = refl;
      reopen = tt;
      still = tt;
    }

pub returns-then-more-eq0-clause-bytes : goal.returns-then-more-eq0-clause-bytes
returns-then-more-eq0-clause-bytes g c = λ told. record {
  bytes = sym (ap (filled_bytes (g.S.Store.bytes (store_of c.args.file.now)) (schema_of c.args.file.now) (placed_of c.args.file.now)) c.if-more-eq0.true);
  holds = λ limit places d start.
      let laws : Laws = record {
        grows = c.append_holds.ensures.grows;
        dataset = c.append_holds.ensures.dataset;
        stands = c.append_holds.ensures.stands;
        opens = c.bytes_with_a_record_pass_on.ensures.opens;
        schema = c.opens_with_its_schema.ensures;
        fills = c.fills_are_a_record.ensures;
        none = c.followed_twice.ensures.none;
        more = c.followed_twice.ensures.fills;
      } in
      ∣ subst (λ (k : ℕ). HoldsAll (g.S.Store.bytes (store_of c.args.file.now)) limit places (with_fills d k)) (sym c.if-more-eq0.true)
      (held_first laws _ limit places d _ _ start).all ∣₁;
  holds_some = λ limit places d start.
      let laws : Laws = record {
        grows = c.append_holds.ensures.grows;
        dataset = c.append_holds.ensures.dataset;
        stands = c.append_holds.ensures.stands;
        opens = c.bytes_with_a_record_pass_on.ensures.opens;
        schema = c.opens_with_its_schema.ensures;
        fills = c.fills_are_a_record.ensures;
        none = c.followed_twice.ensures.none;
        more = c.followed_twice.ensures.fills;
      } in
      some_held laws _ limit places d _ _ start c.args.more;
}

pub returns-then-more-eq0-clause-stop : goal.returns-then-more-eq0-clause-stop
returns-then-more-eq0-clause-stop g c = λ told. record {
  any_moment = λ only limit places d start.
      let laws : Laws = record {
        grows = c.append_holds.ensures.grows;
        dataset = c.append_holds.ensures.dataset;
        stands = c.append_holds.ensures.stands;
        opens = c.bytes_with_a_record_pass_on.ensures.opens;
        schema = c.opens_with_its_schema.ensures;
        fills = c.fills_are_a_record.ensures;
        none = c.followed_twice.ensures.none;
        more = c.followed_twice.ensures.fills;
      } in
      at_start g.S.Store.bytes g.S.Store.images g.S.Store.moment g.S.Store.images_since (store_of c.args.file.now)
      (λ i. ∥ HoldsSome i limit places d c.args.more ∥₁) (λ i left. g.met.S.Store.only_now (store_of c.args.file.now) i left)
      only (some_held laws _ limit places d _ _ start c.args.more);
  whatever_was_pending = λ limit places d start.
      from_what_was g.S.Store.images g.S.Store.moment g.S.Store.images_since (store_of c.args.file.now)
      (λ i. ∥ HoldsSome i limit places d c.args.more ∥₁) (λ i left. g.met.S.Store.only_now (store_of c.args.file.now) i left);
}

pub returns-in_err-appendable-clause-leaves : goal.returns-in_err-appendable-clause-leaves
returns-in_err-appendable-clause-leaves g c =
    let e = c.in_err-appendable.field-0.0 in
    let f = c.args.file.now in
    let is : c.from_residual.result ≡ Err e = search rules in
    let why : (x : AppendError) → e ≡ x → IsAppendable (must_reopen f) (schema_of f) (placed_of f) (Err x) =
    λ x same. subst (λ (y : AppendError). IsAppendable (must_reopen f) (schema_of f) (placed_of f) (Err y)) same c.in_err-appendable.ensures in
    record {
      added = rw is tt;
      partly = rw is (∣ none_left_out (g.S.Store.bytes (store_of f)) (schema_of f) (placed_of f) g.S.Store.tells_bytes c.args.more e
          (omega (arith, c.if-more-eq0.false)) ∣₁);
      full = rw is (λ full. (why error.CountFull full).4);
      none = λ zero. refl;
      unchanged = rw is (λ device full. refl);
      full_at_once = λ full. rw is refl;
      fresh = rw is tt;
      reopen = rw is (λ device. absurd (why error.Device device));
      still = rw is (λ other. refl);
    }

pub returns-in_err-appendable-clause-bytes : goal.returns-in_err-appendable-clause-bytes
returns-in_err-appendable-clause-bytes g c =
    let e = c.in_err-appendable.field-0.0 in
    let is : c.from_residual.result ≡ Err e = search rules in
    λ told. record {
      bytes = rw is tt;
      holds = rw is tt;
      holds_some = λ limit places d start.
          let laws : Laws = record {
            grows = c.append_holds.ensures.grows;
            dataset = c.append_holds.ensures.dataset;
            stands = c.append_holds.ensures.stands;
            opens = c.bytes_with_a_record_pass_on.ensures.opens;
            schema = c.opens_with_its_schema.ensures;
            fills = c.fills_are_a_record.ensures;
            none = c.followed_twice.ensures.none;
            more = c.followed_twice.ensures.fills;
          } in
          some_held laws _ limit places d _ _ start c.args.more;
    }

pub returns-in_err-appendable-clause-stop : goal.returns-in_err-appendable-clause-stop
returns-in_err-appendable-clause-stop g c = λ told. record {
  any_moment = λ only limit places d start.
      let laws : Laws = record {
        grows = c.append_holds.ensures.grows;
        dataset = c.append_holds.ensures.dataset;
        stands = c.append_holds.ensures.stands;
        opens = c.bytes_with_a_record_pass_on.ensures.opens;
        schema = c.opens_with_its_schema.ensures;
        fills = c.fills_are_a_record.ensures;
        none = c.followed_twice.ensures.none;
        more = c.followed_twice.ensures.fills;
      } in
      at_start g.S.Store.bytes g.S.Store.images g.S.Store.moment g.S.Store.images_since (store_of c.args.file.now)
      (λ i. ∥ HoldsSome i limit places d c.args.more ∥₁) (λ i left. g.met.S.Store.only_now (store_of c.args.file.now) i left)
      only (some_held laws _ limit places d _ _ start c.args.more);
  whatever_was_pending = λ limit places d start.
      from_what_was g.S.Store.images g.S.Store.moment g.S.Store.images_since (store_of c.args.file.now)
      (λ i. ∥ HoldsSome i limit places d c.args.more ∥₁) (λ i left. g.met.S.Store.only_now (store_of c.args.file.now) i left);
}

pub returns-in-Err-clause-leaves : goal.returns-in-Err-clause-leaves
returns-in-Err-clause-leaves g c = record {
  added = tt;
  partly = ∣ none_left_out (g.S.Store.bytes (store_of c.args.file.now)) (schema_of c.args.file.now) (placed_of c.args.file.now) g.S.Store.tells_bytes c.args.more error.Memory
      (omega (arith, c.if-more-eq0.false)) ∣₁;
  full = λ full. absurd (cc full);
  none = λ zero. refl;
  unchanged = λ device full. refl;
  full_at_once = λ full. refl;
  fresh = tt;
  reopen = λ device. absurd (cc device);
  still = λ other. refl;
}

pub returns-in-Err-clause-bytes : goal.returns-in-Err-clause-bytes
returns-in-Err-clause-bytes g c = λ told. record {
  bytes = tt;
  holds = tt;
  holds_some = λ limit places d start.
      let laws : Laws = record {
        grows = c.append_holds.ensures.grows;
        dataset = c.append_holds.ensures.dataset;
        stands = c.append_holds.ensures.stands;
        opens = c.bytes_with_a_record_pass_on.ensures.opens;
        schema = c.opens_with_its_schema.ensures;
        fills = c.fills_are_a_record.ensures;
        none = c.followed_twice.ensures.none;
        more = c.followed_twice.ensures.fills;
      } in
      some_held laws _ limit places d _ _ start c.args.more;
}

pub returns-in-Err-clause-stop : goal.returns-in-Err-clause-stop
returns-in-Err-clause-stop g c = λ told. record {
  any_moment = λ only limit places d start.
      let laws : Laws = record {
        grows = c.append_holds.ensures.grows;
        dataset = c.append_holds.ensures.dataset;
        stands = c.append_holds.ensures.stands;
        opens = c.bytes_with_a_record_pass_on.ensures.opens;
        schema = c.opens_with_its_schema.ensures;
        fills = c.fills_are_a_record.ensures;
        none = c.followed_twice.ensures.none;
        more = c.followed_twice.ensures.fills;
      } in
      at_start g.S.Store.bytes g.S.Store.images g.S.Store.moment g.S.Store.images_since (store_of c.args.file.now)
      (λ i. ∥ HoldsSome i limit places d c.args.more ∥₁) (λ i left. g.met.S.Store.only_now (store_of c.args.file.now) i left)
      only (some_held laws _ limit places d _ _ start c.args.more);
  whatever_was_pending = λ limit places d start.
      from_what_was g.S.Store.images g.S.Store.moment g.S.Store.images_since (store_of c.args.file.now)
      (λ i. ∥ HoldsSome i limit places d c.args.more ∥₁) (λ i left. g.met.S.Store.only_now (store_of c.args.file.now) i left);
}

pub returns-in_err-settle-clause-leaves : goal.returns-in_err-settle-clause-leaves
returns-in_err-settle-clause-leaves g c =
    let e = c.in_err-settle.field-0.0 in
    let is : c.from_residual-in_err-settle.result ≡ Err e = search rules in
    let device : e ≡ error.Device = c.in_err-settle.ensures.answer c.in_ok-appendable.ensures.0 in
    let old = g.S.Store.bytes (store_of c.args.file.now) in
    let s = schema_of c.args.file.now in
    let p = placed_of c.args.file.now in
    let now = c.settle.new.self in
    let told = g.S.Store.tells_bytes in
    let still = c.settle.ensures.settles in
    record {
      added = rw is tt;
      partly = rw is (∣ subst (λ b. LeavesFills old s p (schema_of now) (placed_of now) told c.args.more e b) (sym still.unmoved.same)
          (subst (λ t. LeavesFills old s p t (placed_of now) told c.args.more e old) (sym still.schema)
          (subst (λ q. LeavesFills old s p s q told c.args.more e old) (sym still.placed)
          (none_left_out old s p told c.args.more e (omega (arith, c.if-more-eq0.false))))) ∣₁);
      full = rw is (λ full. absurd (cc (sym full ∙ device)));
      none = λ zero. absurd (omega (arith, zero, c.if-more-eq0.false));
      unchanged = rw is (λ other full. absurd (other device));
      full_at_once = λ full. absurd (c.in_ok-appendable.ensures.1.room full);
      fresh = rw is tt;
      reopen = rw is (λ same. c.in_err-settle.ensures.settles.err);
      still = rw is (λ other. absurd (other device));
    }

pub returns-in_err-settle-clause-bytes : goal.returns-in_err-settle-clause-bytes
returns-in_err-settle-clause-bytes g c =
    let e = c.in_err-settle.field-0.0 in
    let is : c.from_residual-in_err-settle.result ≡ Err e = search rules in
    λ told. record {
      bytes = rw is tt;
      holds = rw is tt;
      holds_some = λ limit places d start.
          let laws : Laws = record {
            grows = c.append_holds.ensures.grows;
            dataset = c.append_holds.ensures.dataset;
            stands = c.append_holds.ensures.stands;
            opens = c.bytes_with_a_record_pass_on.ensures.opens;
            schema = c.opens_with_its_schema.ensures;
            fills = c.fills_are_a_record.ensures;
            none = c.followed_twice.ensures.none;
            more = c.followed_twice.ensures.fills;
          } in
          subst (λ b. ∥ HoldsSome b limit places d c.args.more ∥₁) (sym c.settle.ensures.settles.unmoved.same)
          (some_held laws _ limit places d _ _ start c.args.more);
    }

pub returns-in_err-settle-clause-stop : goal.returns-in_err-settle-clause-stop
returns-in_err-settle-clause-stop g c = λ told.
    let pending : (limit : ℕ) (places : List Place) (d : Dataset)
    → LeavesOnly g.S.Store.moment g.S.Store.images_since (store_of c.args.file.now) (store_of c.settle.new.self)
    (λ i. g.S.Store.images (store_of c.args.file.now) i ⊎ (∥ HoldsSome i limit places d c.args.more ∥₁)) =
    λ limit places d. stays g.S.Store.moment g.S.Store.images_since g.S.Store.bytes g.S.Store.images (store_of c.args.file.now) (store_of c.args.file.now)
    (store_of c.settle.new.self) (λ i. g.S.Store.images (store_of c.args.file.now) i ⊎ (∥ HoldsSome i limit places d c.args.more ∥₁))
    (from_what_was g.S.Store.images g.S.Store.moment g.S.Store.images_since (store_of c.args.file.now)
    (λ i. ∥ HoldsSome i limit places d c.args.more ∥₁) (λ i left. g.met.S.Store.only_now (store_of c.args.file.now) i left)) c.settle.ensures.settles.unmoved in
    record {
      any_moment = λ only limit places d start.
          let laws : Laws = record {
            grows = c.append_holds.ensures.grows;
            dataset = c.append_holds.ensures.dataset;
            stands = c.append_holds.ensures.stands;
            opens = c.bytes_with_a_record_pass_on.ensures.opens;
            schema = c.opens_with_its_schema.ensures;
            fills = c.fills_are_a_record.ensures;
            none = c.followed_twice.ensures.none;
            more = c.followed_twice.ensures.fills;
          } in
          only_what_follows g.S.Store.bytes g.S.Store.images g.S.Store.moment g.S.Store.images_since (store_of c.args.file.now) (store_of c.settle.new.self)
          (λ i. ∥ HoldsSome i limit places d c.args.more ∥₁) only (some_held laws _ limit places d _ _ start c.args.more)
          (pending limit places d);
      whatever_was_pending = λ limit places d start. pending limit places d;
    }

pub loop-done-init : goal.loop-done-init
loop-done-init g c =
    let takes : (must_reopen c.args.file.now ≡ false) × TakesRecord (schema_of c.args.file.now) (placed_of c.args.file.now) = c.in_ok-appendable.ensures in
    let schema : schema_of c.settle.new.self ≡ schema_of c.args.file.now = c.settle.ensures.settles.schema in
    let placed : placed_of c.settle.new.self ≡ placed_of c.args.file.now = c.settle.ensures.settles.placed in
    let still = c.settle.ensures.settles.unmoved in
    record {
      fresh = c.in_ok-settle.ensures.settles.fresh;
      has = subst (λ q. HasRecords (schema_of c.args.file.now) (placed_of c.args.file.now) 0 (schema_of c.settle.new.self) q) (sym placed)
          (subst (λ t. HasRecords (schema_of c.args.file.now) (placed_of c.args.file.now) 0 t (placed_of c.args.file.now)) (sym schema)
          (no_records (schema_of c.args.file.now) (placed_of c.args.file.now)));
      room = tt;
      bytes = λ told. still.same;
      few = omega arith;
      takes = takes.1;
      was_fresh = takes.0;
      image_is = c.in-Ok.ensures;
      holds = λ told limit places d start.
          let laws : Laws = record {
            grows = c.append_holds.ensures.grows;
            dataset = c.append_holds.ensures.dataset;
            stands = c.append_holds.ensures.stands;
            opens = c.bytes_with_a_record_pass_on.ensures.opens;
            schema = c.opens_with_its_schema.ensures;
            fills = c.fills_are_a_record.ensures;
            none = c.followed_twice.ensures.none;
            more = c.followed_twice.ensures.fills;
          } in
          let first = held_first laws _ limit places d _ _ start in
          subst (λ b. Contains b limit places (with_fills d 0) (schema_of c.settle.new.self) (placed_of c.settle.new.self)) (sym still.same)
          (subst (λ t. Contains (g.S.Store.bytes (store_of c.args.file.now)) limit places (with_fills d 0) t (placed_of c.settle.new.self)) (sym schema)
          (subst (λ q. Contains (g.S.Store.bytes (store_of c.args.file.now)) limit places (with_fills d 0) (schema_of c.args.file.now) q) (sym placed) first));
      only = c.in_ok-settle.ensures.settles.durable;
      moments = λ told limit places d start.
          stays g.S.Store.moment g.S.Store.images_since g.S.Store.bytes g.S.Store.images (store_of c.args.file.now) (store_of c.args.file.now)
          (store_of c.settle.new.self) (λ i. g.S.Store.images (store_of c.args.file.now) i ⊎ (∥ HoldsSome i limit places d c.args.more ∥₁))
          (from_what_was g.S.Store.images g.S.Store.moment g.S.Store.images_since (store_of c.args.file.now)
          (λ i. ∥ HoldsSome i limit places d c.args.more ∥₁) (λ i left. g.met.S.Store.only_now (store_of c.args.file.now) i left)) still;
      failures = c.in_ok-settle.ensures.calls.count;
      no_calls = λ none. c.settle.ensures.calls.calls;
      calls = omega (arith, c.settle.ensures.calls.calls);
      reach = c.settle.ensures.calls.reach;
    }

pub returns-in_err-add_one-clause-answer : goal.returns-in_err-add_one-clause-answer
returns-in_err-add_one-clause-answer g c =
    let e = c.in_err-add_one.field-0.0 in
    let at = c.loop-done.invariant in
    let is : c.from_residual-in_err-add_one.result ≡ Err e = search rules in
    let adds : AddsAs false (schema_of c.loop-done.file) (placed_of c.loop-done.file) (Err e) =
    subst (λ (b : Bool). AddsAs b (schema_of c.loop-done.file) (placed_of c.loop-done.file) (Err e)) at.fresh c.in_err-add_one.ensures.answer in
    let why = refused_so (schema_of c.args.file.now) (placed_of c.args.file.now) c.loop-done._done c.args.more
    (schema_of c.loop-done.file) (placed_of c.loop-done.file) (must_reopen c.args.file.now) e at.has at.was_fresh at.takes
    (omega (arith, c.loop-done-test.true)) adds in
    rw is (extended_so (must_reopen c.args.file.now) (schema_of c.args.file.now) (placed_of c.args.file.now) c.args.more e
    (omega (arith, c.loop-done-test.true)) why.0)

pub returns-in_err-add_one-clause-leaves : goal.returns-in_err-add_one-clause-leaves
returns-in_err-add_one-clause-leaves g c =
    let at = c.loop-done.invariant in
    let s = schema_of c.args.file.now in
    let p = placed_of c.args.file.now in
    let t = schema_of c.loop-done.file in
    let q = placed_of c.loop-done.file in
    let k = c.loop-done._done in
    let e = c.in_err-add_one.field-0.0 in
    let is : c.from_residual-in_err-add_one.result ≡ Err e = search rules in
    let adds : AddsAs false t q (Err e) =
    subst (λ (b : Bool). AddsAs b t q (Err e)) at.fresh c.in_err-add_one.ensures.answer in
    let why = refused_so s p k c.args.more t q (must_reopen c.args.file.now) e at.has at.was_fresh at.takes
    (omega (arith, c.loop-done-test.true)) adds in
    let image : c.as_slice.result.now ≡ bytes_of_record s (fill_values s) = c.as_slice.ensures.value ∙ at.image_is in
    let same : e ≡ error.CountFull → c.add_one.new.file ≡ c.loop-done.file =
    λ full. c.in_err-add_one.ensures.adds.unchanged (λ device. cc (sym full ∙ device)) in
    record {
      added = rw is tt;
      partly = rw is (∣ record {
        more = k;
        fewer = c.loop-done-test.true;
        room = at.room;
        has = subst (λ r. HasRecords s p k (schema_of c.add_one.new.file) r) (sym c.in_err-add_one.ensures.adds.err.1)
            (subst (λ u. HasRecords s p k u q) (sym c.in_err-add_one.ensures.adds.err.0) at.has);
        stands = λ told no_device. ap (λ f. g.S.Store.bytes (store_of f)) (c.in_err-add_one.ensures.adds.unchanged no_device) ∙ at.bytes told;
        failed = λ told. fills_or_not s p k t q at.has (g.S.Store.bytes (store_of c.args.file.now)) (g.S.Store.bytes (store_of c.loop-done.file))
            (g.S.Store.bytes (store_of c.add_one.new.file)) c.as_slice.result.now (at.bytes told) image (c.in_err-add_one.ensures.adds.front told);
      } ∣₁);
      full = rw is (λ full. subst (λ f. IsFull (schema_of f).version (placed_of f)) (sym (same full))
          (subst (λ (x : AppendError). AddsAs false t q (Err x)) full adds).4);
      none = λ zero. absurd (omega (arith, zero, c.if-more-eq0.false));
      unchanged = rw is (λ no_device no_room. absurd (⊎_elim no_device no_room why.1));
      full_at_once = λ full. absurd (at.takes.room full);
      fresh = rw is tt;
      reopen = rw is c.in_err-add_one.ensures.adds.reopen;
      still = rw is (λ other. ap (λ f. must_reopen f) (c.in_err-add_one.ensures.adds.unchanged other) ∙ at.fresh ∙ sym at.was_fresh);
    }

pub returns-in_err-add_one-clause-bytes : goal.returns-in_err-add_one-clause-bytes
returns-in_err-add_one-clause-bytes g c =
    let at = c.loop-done.invariant in
    let s = schema_of c.args.file.now in
    let p = placed_of c.args.file.now in
    let t = schema_of c.loop-done.file in
    let q = placed_of c.loop-done.file in
    let k = c.loop-done._done in
    let e = c.in_err-add_one.field-0.0 in
    let is : c.from_residual-in_err-add_one.result ≡ Err e = search rules in
    let adds : AddsAs false t q (Err e) =
    subst (λ (b : Bool). AddsAs b t q (Err e)) at.fresh c.in_err-add_one.ensures.answer in
    let why = refused_so s p k c.args.more t q (must_reopen c.args.file.now) e at.has at.was_fresh at.takes
    (omega (arith, c.loop-done-test.true)) adds in
    let image : c.as_slice.result.now ≡ bytes_of_record s (fill_values s) = c.as_slice.ensures.value ∙ at.image_is in
    let same : e ≡ error.CountFull → c.add_one.new.file ≡ c.loop-done.file =
    λ full. c.in_err-add_one.ensures.adds.unchanged (λ device. cc (sym full ∙ device)) in
    λ told. record {
      bytes = rw is tt;
      holds = rw is tt;
      holds_some = λ limit places d start.
          let laws : Laws = record {
            grows = c.append_holds.ensures.grows;
            dataset = c.append_holds.ensures.dataset;
            stands = c.append_holds.ensures.stands;
            opens = c.bytes_with_a_record_pass_on.ensures.opens;
            schema = c.opens_with_its_schema.ensures;
            fills = c.fills_are_a_record.ensures;
            none = c.followed_twice.ensures.none;
            more = c.followed_twice.ensures.fills;
          } in
          let either : (i : List ℕ) → e ≡ error.Device → HasRecordOrNot (g.S.Store.bytes (store_of c.loop-done.file)) t q c.as_slice.result.now i
          → ∥ HoldsSome i limit places d c.args.more ∥₁ =
          λ i device or_not. fill_or_not laws _ limit places d s p start k _ t q at.has (at.holds told limit places d start)
          (subst (λ (x : AppendError). AddsAs false t q (Err x)) device adds).1
          c.as_slice.result.now image c.args.more i c.loop-done-test.true or_not in
          ⊎_elim
          (λ device. either (g.S.Store.bytes (store_of c.add_one.new.file)) device (c.in_err-add_one.ensures.adds.front told))
          (λ full. subst (λ f. ∥ HoldsSome (g.S.Store.bytes (store_of f)) limit places d c.args.more ∥₁) (sym (same full))
          ∣ record { more = k; few = at.few; holds = (at.holds told limit places d start).all } ∣₁)
          why.1;
    }

pub returns-in_err-add_one-clause-stop : goal.returns-in_err-add_one-clause-stop
returns-in_err-add_one-clause-stop g c = λ told.
    let at = c.loop-done.invariant in
    let s = schema_of c.args.file.now in
    let p = placed_of c.args.file.now in
    let t = schema_of c.loop-done.file in
    let q = placed_of c.loop-done.file in
    let k = c.loop-done._done in
    let e = c.in_err-add_one.field-0.0 in
    let adds : AddsAs false t q (Err e) =
    subst (λ (b : Bool). AddsAs b t q (Err e)) at.fresh c.in_err-add_one.ensures.answer in
    let why = refused_so s p k c.args.more t q (must_reopen c.args.file.now) e at.has at.was_fresh at.takes
    (omega (arith, c.loop-done-test.true)) adds in
    let image : c.as_slice.result.now ≡ bytes_of_record s (fill_values s) = c.as_slice.ensures.value ∙ at.image_is in
    let same : e ≡ error.CountFull → c.add_one.new.file ≡ c.loop-done.file =
    λ full. c.in_err-add_one.ensures.adds.unchanged (λ device. cc (sym full ∙ device)) in
    let laws : Laws = record {
      grows = c.append_holds.ensures.grows;
      dataset = c.append_holds.ensures.dataset;
      stands = c.append_holds.ensures.stands;
      opens = c.bytes_with_a_record_pass_on.ensures.opens;
      schema = c.opens_with_its_schema.ensures;
      fills = c.fills_are_a_record.ensures;
      none = c.followed_twice.ensures.none;
      more = c.followed_twice.ensures.fills;
    } in
    let pending : (limit : ℕ) (places : List Place) (d : Dataset)
    → Contains (g.S.Store.bytes (store_of c.args.file.now)) limit places d s p
    → LeavesOnly g.S.Store.moment g.S.Store.images_since (store_of c.args.file.now) (store_of c.add_one.new.file)
    (λ i. g.S.Store.images (store_of c.args.file.now) i ⊎ (∥ HoldsSome i limit places d c.args.more ∥₁)) =
    λ limit places d start.
    let either : (i : List ℕ) → e ≡ error.Device → HasRecordOrNot (g.S.Store.bytes (store_of c.loop-done.file)) t q c.as_slice.result.now i
    → ∥ HoldsSome i limit places d c.args.more ∥₁ =
    λ i device or_not. fill_or_not laws _ limit places d s p start k _ t q at.has (at.holds told limit places d start)
    (subst (λ (x : AppendError). AddsAs false t q (Err x)) device adds).1
    c.as_slice.result.now image c.args.more i c.loop-done-test.true or_not in
    ⊎_elim
    (λ device. joined g.S.Store.moment g.S.Store.images_since (store_of c.args.file.now) (store_of c.loop-done.file) (store_of c.add_one.new.file)
    _ _ _ (at.moments told limit places d start) (c.add_one.ensures.adds.any_moment told at.only) (λ i h. h) (λ i or_not. inr (either i device or_not)))
    (λ full. subst (λ f. LeavesOnly g.S.Store.moment g.S.Store.images_since (store_of c.args.file.now) (store_of f)
    (λ i. g.S.Store.images (store_of c.args.file.now) i ⊎ (∥ HoldsSome i limit places d c.args.more ∥₁)))
    (sym (same full)) (at.moments told limit places d start))
    why.1 in
    record {
      any_moment = λ only limit places d start.
          only_what_follows g.S.Store.bytes g.S.Store.images g.S.Store.moment g.S.Store.images_since (store_of c.args.file.now) (store_of c.add_one.new.file)
          (λ i. ∥ HoldsSome i limit places d c.args.more ∥₁) only (some_held laws _ limit places d _ _ start c.args.more)
          (pending limit places d start);
      whatever_was_pending = pending;
    }

pub returns-in_err-add_one-clause-settles : goal.returns-in_err-add_one-clause-settles
returns-in_err-add_one-clause-settles g c =
    let e = c.in_err-add_one.field-0.0 in
    let is : c.from_residual-in_err-add_one.result ≡ Err e = search rules in
    record {
      durable = λ only. rw is tt;
      settled = λ some. rw is tt;
      rest = λ other.
          let same = c.in_err-add_one.ensures.adds.unchanged (λ device. other (is ∙ ap (λ (x : AppendError). Err x) device)) in
          inr (subst (λ f. Only (g.S.Store.bytes (store_of f)) (g.S.Store.images (store_of f))) (sym same) c.loop-done.invariant.only);
    }

pub returns-in_err-add_one-clause-calls : goal.returns-in_err-add_one-clause-calls
returns-in_err-add_one-clause-calls g c =
    let e = c.in_err-add_one.field-0.0 in
    let at = c.loop-done.invariant in
    let is : c.from_residual-in_err-add_one.result ≡ Err e = search rules in
    let so = calls_so c.loop-done._done (g.S.Store.calls (store_of c.args.file.now) + 1) (g.S.Store.calls (store_of c.loop-done.file))
    (g.S.Store.calls (store_of c.add_one.new.file)) at.no_calls at.calls c.add_one.ensures.calls.most.calls
    (λ some. c.add_one.ensures.calls.whole (is_reached (schema_of c.args.file.now) (placed_of c.args.file.now)
    c.loop-done._done (schema_of c.loop-done.file) (placed_of c.loop-done.file) at.has some)) in
    record {
      most = record {
        count = rw is (subst (λ (n : ℕ). CountsDevice n (g.S.Store.failures (store_of c.add_one.new.file)) (Err e)) at.failures
            c.in_err-add_one.ensures.calls.most.count);
        calls = omega (arith, so, c.loop-done-test.true);
        reach = omega (arith, at.reach, c.add_one.ensures.calls.most.reach);
      };
      each = omega (arith, so, at.has.records_are, ap (λ q. records_of_file q) c.in_err-add_one.ensures.adds.err.1);
      added = λ other.
          let same = c.in_err-add_one.ensures.adds.unchanged (λ device. other (is ∙ ap (λ (x : AppendError). Err x) device)) in
          omega (
            arith,
            at.calls,
            at.has.records_are,
            ap (λ f. g.S.Store.calls (store_of f)) same,
            ap (λ f. records_of_file (placed_of f)) same,
          );
    }

pub returns-clause-leaves : goal.returns-clause-leaves
returns-clause-leaves g c =
    let at = c.loop-done.invariant in
    let all : c.loop-done._done ≡ c.args.more = omega (arith, at.few, c.loop-done-test.false) in
    record {
      added = subst (λ (k : ℕ). HasRecords (schema_of c.args.file.now) (placed_of c.args.file.now) k (schema_of c.loop-done.file) (placed_of c.loop-done.file)) all at.has;
      partly = tt;
      full = tt;
      none = λ zero. absurd (omega (arith, zero, c.if-more-eq0.false));
      unchanged = tt;
      full_at_once = λ full. tt;
      fresh = at.fresh ∙ sym at.was_fresh;
      reopen = tt;
      still = tt;
    }

pub returns-clause-bytes : goal.returns-clause-bytes
returns-clause-bytes g c = λ told.
    let at = c.loop-done.invariant in
    let all : c.loop-done._done ≡ c.args.more = omega (arith, at.few, c.loop-done-test.false) in
    record {
      bytes = at.bytes told ∙ ap (filled_bytes (g.S.Store.bytes (store_of c.args.file.now)) (schema_of c.args.file.now) (placed_of c.args.file.now)) all;
      holds = λ limit places d start.
          ∣ subst (λ (k : ℕ). HoldsAll (g.S.Store.bytes (store_of c.loop-done.file)) limit places (with_fills d k)) all (at.holds told limit places d start).all ∣₁;
      holds_some = λ limit places d start.
          ∣ record { more = c.loop-done._done; few = at.few; holds = (at.holds told limit places d start).all } ∣₁;
    }

pub returns-clause-stop : goal.returns-clause-stop
returns-clause-stop g c = λ told. record {
  any_moment = λ only limit places d start.
      let laws : Laws = record {
        grows = c.append_holds.ensures.grows;
        dataset = c.append_holds.ensures.dataset;
        stands = c.append_holds.ensures.stands;
        opens = c.bytes_with_a_record_pass_on.ensures.opens;
        schema = c.opens_with_its_schema.ensures;
        fills = c.fills_are_a_record.ensures;
        none = c.followed_twice.ensures.none;
        more = c.followed_twice.ensures.fills;
      } in
      only_what_follows g.S.Store.bytes g.S.Store.images g.S.Store.moment g.S.Store.images_since (store_of c.args.file.now) (store_of c.loop-done.file)
      (λ i. ∥ HoldsSome i limit places d c.args.more ∥₁) only (some_held laws _ limit places d _ _ start c.args.more)
      (c.loop-done.invariant.moments told limit places d start);
  whatever_was_pending = c.loop-done.invariant.moments told;
}

pub loop-done-preserved : goal.loop-done-preserved
loop-done-preserved g c =
    let at = c.loop-done.invariant in
    let s = schema_of c.args.file.now in
    let p = placed_of c.args.file.now in
    let t = schema_of c.loop-done.file in
    let q = placed_of c.loop-done.file in
    let u = schema_of c.add_one.new.file in
    let r = placed_of c.add_one.new.file in
    let k = c.loop-done._done in
    let next = add-one k in
    let takes : (must_reopen c.loop-done.file ≡ false) × TakesRecord t q = c.in_ok-add_one.ensures.answer in
    let image : c.as_slice.result.now ≡ bytes_of_record s (fill_values s) = c.as_slice.ensures.value ∙ at.image_is in
    let long : length c.as_slice.result.now ≡ record_size_of_file q = ap length image
    ∙ c.record_is_long.ensures s (fill_values s) (c.fills_are_a_record.ensures s c.open_file_has_sizes.ensures.sound)
    ∙ sym c.open_file_has_sizes.ensures.record_size ∙ sym at.has.size_is in
    record {
      fresh = c.in_ok-add_one.ensures.adds.added.1;
      has = subst (λ (n : ℕ). HasRecords s p n u r) (sym next) (one_record_more s p k t q at.has u r c.in_ok-add_one.ensures.adds.added.0);
      room = subst (λ (n : ℕ). TakesRecords s p n) (sym next) (room_more s p k t q at.has (as_first s p at.takes) takes.1);
      bytes = λ told. c.in_ok-add_one.ensures.adds.bytes told
          ∙ bytes_more s p k t q at.has (g.S.Store.bytes (store_of c.args.file.now)) (g.S.Store.bytes (store_of c.loop-done.file))
          c.as_slice.result.now (at.bytes told) image
          ∙ ap (filled_bytes (g.S.Store.bytes (store_of c.args.file.now)) s p) (sym next);
      few = omega (arith, c.loop-done-test.true);
      takes = at.takes;
      was_fresh = at.was_fresh;
      image_is = at.image_is;
      holds = λ told limit places d start.
          let laws : Laws = record {
            grows = c.append_holds.ensures.grows;
            dataset = c.append_holds.ensures.dataset;
            stands = c.append_holds.ensures.stands;
            opens = c.bytes_with_a_record_pass_on.ensures.opens;
            schema = c.opens_with_its_schema.ensures;
            fills = c.fills_are_a_record.ensures;
            none = c.followed_twice.ensures.none;
            more = c.followed_twice.ensures.fills;
          } in
          subst (λ (l : List ℕ). Contains l limit places (with_fills d (k + 1)) u r) (sym (c.in_ok-add_one.ensures.adds.bytes told))
          (one_fill laws _ limit places d s p start k _ t q at.has (at.holds told limit places d start) takes.1
          c.as_slice.result.now image u r long c.in_ok-add_one.ensures.adds.added.0);
      only = c.in_ok-add_one.ensures.adds.durable;
      moments = λ told limit places d start.
          let laws : Laws = record {
            grows = c.append_holds.ensures.grows;
            dataset = c.append_holds.ensures.dataset;
            stands = c.append_holds.ensures.stands;
            opens = c.bytes_with_a_record_pass_on.ensures.opens;
            schema = c.opens_with_its_schema.ensures;
            fills = c.fills_are_a_record.ensures;
            none = c.followed_twice.ensures.none;
            more = c.followed_twice.ensures.fills;
          } in
          joined g.S.Store.moment g.S.Store.images_since (store_of c.args.file.now) (store_of c.loop-done.file) (store_of c.add_one.new.file)
          _ _ _ (at.moments told limit places d start) (c.add_one.ensures.adds.any_moment told at.only) (λ i h. h)
          (λ i or_not. inr (fill_or_not laws _ limit places d s p start k _ t q at.has (at.holds told limit places d start) takes.1
          c.as_slice.result.now image c.args.more i c.loop-done-test.true or_not));
      failures = c.in_ok-add_one.ensures.calls.most.count ∙ at.failures;
      no_calls = λ none. absurd (omega (arith, none));
      calls = omega (
        arith,
        calls_so k (g.S.Store.calls (store_of c.args.file.now) + 1) (g.S.Store.calls (store_of c.loop-done.file))
            (g.S.Store.calls (store_of c.add_one.new.file)) at.no_calls at.calls c.add_one.ensures.calls.most.calls
            (λ some. c.add_one.ensures.calls.whole (is_reached s p k t q at.has some)),
      );
      reach = omega (arith, at.reach, c.add_one.ensures.calls.most.reach);
    }
