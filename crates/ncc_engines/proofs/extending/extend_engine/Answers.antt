use Rattle.std.proofs.Math.Logic.{∥∥₁_map}
use Rattle.std.proofs.Common.{rules, ◌≡◌, ◌≢◌, ◌⊎◌, ◌+◌, inl, inr, ⊎_elim, false, ℕ, List, [], Bool, Ok, Err, refl, ap, sym, subst, ◌∙◌, arith}
use Rattle.std.specs.Prelude.{OnOk}
use Rattle.ncc_values.specs.Failures.{Rose}
use Rattle.ncc_layout.specs.Placed.{records_of_file}
use Rattle.ncc_store.specs.Store.{LeavesOnly, Only, Unmoved}
use Rattle.ncc_check.specs.Appending.{IsFull}
use Rattle.ncc_check.specs.declared.append_error.AppendError.{AppendError}
use Rattle.ncc_check.specs.declared.append_error.AppendError.TheVariants as errors
use Rattle.ncc_engines.specs.Extending.{FillsUp, IsFilled, IsFilledSome, IsFilledWhole}
use Rattle.ncc_store.proofs.Moments.{joined, stays}
use Rattle.ncc_check.specs.Checks.{Opens, Refuses}
use Rattle.ncc_check.specs.Files.{store_of, schema_of, placed_of}
use Rattle.ncc_check.specs.declared.fault.Refusal.{Refusal}
use Rattle.ncc_write.specs.Additions.{HoldsAll}
use Rattle.ncc_write.specs.Extends.{Contains, ExtendsAs, HoldsSome, LeavesFills, filled_bytes, with_fills}
use Rattle.ncc_schema.specs.Schema.{places_of}
use Rattle.ncc_write.proofs.MoreFills.{at_start, from_what_was}
use Rattle.ncc_answers.specs.declared.answer.Answer.{Answer}
use Rattle.ncc_engines.proofs.Extended.{Told, fault_went, filled_up, is_full, nothing_added, some_filled, refused_for, none_more, takes_none, takes_none_too, whole_filled, passed_ok, went, nothing_put, refused_or_filled, fault_front}
use Rattle.ncc_answers.proofs.Checked.{checked_by}
use Rattle.ncc_engines.proofs.extending.extend_engine.Goals as goal

pub returns-in-Ok-clause-extends : goal.returns-in-Ok-clause-extends
returns-in-Ok-clause-extends g c = λ told.
    let f = c.in-Ok.opened in
    let answer = subst (λ (b : Bool). ExtendsAs b (schema_of f) (placed_of f) c.args.more c.extend-extended.result) c.in-Ok.ensures.fresh c.extend-extended.ensures.answer in
    let many : (x : Unit {0}) → c.extend-extended.result ≡ Ok x → c.records.result ≡ records_of_file (placed_of f) + c.args.more =
    λ x is. c.records.ensures ∙ (rw is at c.extend-extended.ensures.leaves.added).records_are in
    went (g.S.Store.bytes c.args.store) c.args.limit c.args.more (schema_of f) (placed_of f) (c.in-Ok.ensures.passes told)
    c.extend-extended.result c.records.result answer many (g.W.Sink.put c.args.sink.now) (g.W.Sink.put c.tell-answer.new.sink)
    c.tell-answer.result c.tell-answer.ensures.tells

pub returns-in-Ok-clause-dataset : goal.returns-in-Ok-clause-dataset
returns-in-Ok-clause-dataset g c = λ told s p o counted.
    let x = c.passing_file_holds_a_dataset.ensures (g.S.Store.bytes c.args.store) c.args.limit s p o (g.met.S.Store.are_bytes c.args.store told) counted in
    (places_of o.header.places, x.0, x.1, x.2)

pub returns-in-Ok-clause-fails : goal.returns-in-Ok-clause-fails
returns-in-Ok-clause-fails g c =
    let new = c.extend-extended.new.file in
    record {
      quiet = search rules;
      device = λ is.
          ⊎_elim
          (λ device.
          let rose : Rose (g.S.Store.failures (store_of c.in-Ok.opened)) (g.S.Store.failures (store_of new)) =
          rw device at c.extend-extended.ensures.calls.most.count in
          inl (subst (λ x. Rose (g.S.Store.failures c.args.store) (g.S.Store.failures x)) (sym c.into_store.ensures)
          (subst (λ (m : ℕ). Rose m (g.S.Store.failures (store_of new))) c.in-Ok.ensures.store.counted rose)))
          (λ sink. inr sink) (c.tell-answer.ensures.device is);
      still = search rules;
    }

pub returns-in-Ok-clause-counted : goal.returns-in-Ok-clause-counted
returns-in-Ok-clause-counted g c = λ told.
    let f = c.in-Ok.opened in
    let s = schema_of f in
    let p = placed_of f in
    let new = g.S.Store.bytes (store_of c.extend-extended.new.file) in
    let same = c.in-Ok.ensures.store.unmoved.same in
    let answer = subst (λ (b : Bool). ExtendsAs b s p c.args.more c.extend-extended.result) c.in-Ok.ensures.fresh c.extend-extended.ensures.answer in
    let tells = c.tell-answer.ensures.tells in (
      tells.0,
      tells.1,
      ⊎_elim (λ front. inl front)
          (λ filled. inr (subst (λ x. ∥ IsFilled (g.S.Store.bytes c.args.store) c.args.limit c.args.more (g.S.Store.bytes x) ∥₁)
          (sym c.into_store.ensures) filled))
          (refused_or_filled (g.S.Store.bytes c.args.store) c.args.limit c.args.more s p (c.in-Ok.ensures.passes told)
          c.extend-extended.result c.records.result answer c.tell-answer.result tells.0 tells.2 new
          (subst (λ (b : List ℕ). OnOk c.extend-extended.result (new ≡ filled_bytes b s p c.args.more)) same
          ((c.extend-extended.ensures.bytes told).bytes))),
    )

pub returns-in-Ok-clause-bytes : goal.returns-in-Ok-clause-bytes
returns-in-Ok-clause-bytes g c = λ told. record {
  bytes = λ passed.
      let f = c.in-Ok.opened in
      let tells = subst (λ (a : Answer). Told c.extend-extended.result c.records.result (g.W.Sink.put c.args.sink.now) (g.W.Sink.put c.tell-answer.new.sink) a) passed c.tell-answer.ensures.tells in
      ∣ record {
        schema = schema_of f;
        placed = placed_of f;
        opens = c.in-Ok.ensures.passes told;
        bytes = ap g.S.Store.bytes c.into_store.ensures
            ∙ passed_ok c.extend-extended.result c.records.result _ _ tells ((c.extend-extended.ensures.bytes told).bytes)
            ∙ ap (λ (b : List ℕ). filled_bytes b (schema_of f) (placed_of f) c.args.more) c.in-Ok.ensures.store.unmoved.same;
      } ∣₁;
  holds = λ passed places d is all.
      let f = c.in-Ok.opened in
      let same = c.in-Ok.ensures.store.unmoved.same in
      let start : Contains (g.S.Store.bytes (store_of f)) c.args.limit places d (schema_of f) (placed_of f) =
      subst (λ (b : List ℕ). Contains b c.args.limit places d (schema_of f) (placed_of f)) (sym same)
      (record { dataset = is; all = all; opens = c.in-Ok.ensures.passes told }) in
      let tells = subst (λ (a : Answer). Told c.extend-extended.result c.records.result (g.W.Sink.put c.args.sink.now) (g.W.Sink.put c.tell-answer.new.sink) a) passed c.tell-answer.ensures.tells in
      subst (λ s. ∥ HoldsAll (g.S.Store.bytes s) c.args.limit places (with_fills d c.args.more) ∥₁) (sym c.into_store.ensures)
      (passed_ok c.extend-extended.result c.records.result _ _ tells ((c.extend-extended.ensures.bytes told).holds) c.args.limit places d start);
  leaves = let f = c.in-Ok.opened in
      let s = schema_of f in
      let p = placed_of f in
      let new = c.extend-extended.new.file in
      let same = c.in-Ok.ensures.store.unmoved.same in
      let stays : new ≡ f → Unmoved g.S.Store.bytes g.S.Store.images g.S.Store.moment g.S.Store.images_since c.args.store c.into_store.result =
      λ is. subst (λ x. Unmoved g.S.Store.bytes g.S.Store.images g.S.Store.moment g.S.Store.images_since c.args.store x)
      (sym (c.into_store.ensures ∙ ap (λ x. store_of x) is)) c.in-Ok.ensures.store.unmoved in
      let filled = subst (λ (b : List ℕ). (new ≡ f) ⊎ (∥ IsFilledSome b c.args.limit c.args.more (g.S.Store.bytes (store_of new)) ∥₁)) same
      (some_filled (g.S.Store.bytes (store_of f)) c.args.limit s p
      (subst (λ (b : List ℕ). Opens b c.args.limit s p) (sym same) (c.in-Ok.ensures.passes told)) c.args.more
      c.extend-extended.result
      (subst (λ (b : Bool). ExtendsAs b s p c.args.more c.extend-extended.result) c.in-Ok.ensures.fresh c.extend-extended.ensures.answer)
      (schema_of new) (placed_of new) g.S.Store.tells_bytes (g.S.Store.bytes (store_of new)) told
      ((c.extend-extended.ensures.bytes told).bytes) c.extend-extended.ensures.leaves.partly (new ≡ f)
      c.extend-extended.ensures.leaves.none c.extend-extended.ensures.leaves.unchanged) in
      ⊎_elim (λ is. inl (stays is))
      (λ some. inr (subst (λ x. ∥ IsFilledSome (g.S.Store.bytes c.args.store) c.args.limit c.args.more (g.S.Store.bytes x) ∥₁)
      (sym c.into_store.ensures) some)) filled;
  whole = λ other.
      let f = c.in-Ok.opened in
      let s = schema_of f in
      let p = placed_of f in
      let new = c.extend-extended.new.file in
      let same = c.in-Ok.ensures.store.unmoved.same in
      let filled = subst (λ (b : List ℕ). ∥ IsFilledWhole b c.args.limit c.args.more (g.S.Store.bytes (store_of new)) ∥₁) same
      (whole_filled (g.S.Store.bytes (store_of f)) c.args.limit s p
      (subst (λ (b : List ℕ). Opens b c.args.limit s p) (sym same) (c.in-Ok.ensures.passes told)) c.args.more
      c.extend-extended.result (schema_of new) (placed_of new) g.S.Store.tells_bytes (g.S.Store.bytes (store_of new)) told
      (λ device. other (c.tell-answer.ensures.told device))
      ((c.extend-extended.ensures.bytes told).bytes) c.extend-extended.ensures.leaves.partly) in
      inr (subst (λ x. ∥ IsFilledWhole (g.S.Store.bytes c.args.store) c.args.limit c.args.more (g.S.Store.bytes x) ∥₁)
      (sym c.into_store.ensures) filled);
  unprinted = λ sound.
      let f = c.in-Ok.opened in
      let s = schema_of f in
      let p = placed_of f in
      let new = c.extend-extended.new.file in
      let same = c.in-Ok.ensures.store.unmoved.same in
      let no_device : c.extend-extended.result ≡ Err errors.Device → ⊥ = λ device.
      let rose : Rose (g.S.Store.failures (store_of f)) (g.S.Store.failures (store_of new)) =
      rw device at c.extend-extended.ensures.calls.most.count in
      sound (subst (λ x. Rose (g.S.Store.failures c.args.store) (g.S.Store.failures x)) (sym c.into_store.ensures)
      (subst (λ (m : ℕ). Rose m (g.S.Store.failures (store_of new))) c.in-Ok.ensures.store.counted rose)) in
      let filled = subst (λ (b : List ℕ). ∥ IsFilledWhole b c.args.limit c.args.more (g.S.Store.bytes (store_of new)) ∥₁) same
      (whole_filled (g.S.Store.bytes (store_of f)) c.args.limit s p
      (subst (λ (b : List ℕ). Opens b c.args.limit s p) (sym same) (c.in-Ok.ensures.passes told)) c.args.more
      c.extend-extended.result (schema_of new) (placed_of new) g.S.Store.tells_bytes (g.S.Store.bytes (store_of new)) told
      no_device ((c.extend-extended.ensures.bytes told).bytes) c.extend-extended.ensures.leaves.partly) in
      inr (subst (λ x. ∥ IsFilledWhole (g.S.Store.bytes c.args.store) c.args.limit c.args.more (g.S.Store.bytes x) ∥₁)
      (sym c.into_store.ensures) filled);
  holds_some = λ places d is all.
      let f = c.in-Ok.opened in
      let same = c.in-Ok.ensures.store.unmoved.same in
      let start : Contains (g.S.Store.bytes (store_of f)) c.args.limit places d (schema_of f) (placed_of f) =
      subst (λ (b : List ℕ). Contains b c.args.limit places d (schema_of f) (placed_of f)) (sym same)
      (record { dataset = is; all = all; opens = c.in-Ok.ensures.passes told }) in
      subst (λ s. ∥ HoldsSome (g.S.Store.bytes s) c.args.limit places d c.args.more ∥₁) (sym c.into_store.ensures)
      ((c.extend-extended.ensures.bytes told).holds_some c.args.limit places d start);
  refused = λ fails.
      let o = c.in-Ok.ensures.passes told in
      absurd (fails (o.header, o.passes));
}

pub returns-in-Ok-clause-stop : goal.returns-in-Ok-clause-stop
returns-in-Ok-clause-stop g c = λ told. record {
  any_moment = λ only places d is all.
      let f = c.in-Ok.opened in
      let still = c.in-Ok.ensures.store.unmoved in
      let start : Contains (g.S.Store.bytes (store_of f)) c.args.limit places d (schema_of f) (placed_of f) =
      subst (λ (b : List ℕ). Contains b c.args.limit places d (schema_of f) (placed_of f)) (sym still.same)
      (record { dataset = is; all = all; opens = c.in-Ok.ensures.passes told }) in
      let first = at_start g.S.Store.bytes g.S.Store.images g.S.Store.moment g.S.Store.images_since c.args.store
      (λ i. ∥ HoldsSome i c.args.limit places d c.args.more ∥₁) (λ i left. g.met.S.Store.only_now c.args.store i left)
      only (none_more c.followed_twice.ensures.none (g.S.Store.bytes c.args.store) c.args.limit places d c.args.more is all) in
      let pending : Only (g.S.Store.bytes (store_of f)) (g.S.Store.images (store_of f)) = λ i im. only i (still.within i im) ∙ sym still.same in
      subst (λ s. LeavesOnly g.S.Store.moment g.S.Store.images_since c.args.store s (λ i. ∥ HoldsSome i c.args.limit places d c.args.more ∥₁)) (sym c.into_store.ensures)
      (joined g.S.Store.moment g.S.Store.images_since c.args.store (store_of f) (store_of c.extend-extended.new.file) _ _ _
      (stays g.S.Store.moment g.S.Store.images_since g.S.Store.bytes g.S.Store.images c.args.store c.args.store (store_of f) _ first still)
      ((c.extend-extended.ensures.stop told).any_moment pending c.args.limit places d start) (λ i h. h) (λ i h. h));
  whatever_was_pending = λ places d is all.
      let f = c.in-Ok.opened in
      let still = c.in-Ok.ensures.store.unmoved in
      let X = λ (i : List ℕ). ∥ HoldsSome i c.args.limit places d c.args.more ∥₁ in
      let start : Contains (g.S.Store.bytes (store_of f)) c.args.limit places d (schema_of f) (placed_of f) =
      subst (λ (b : List ℕ). Contains b c.args.limit places d (schema_of f) (placed_of f)) (sym still.same)
      (record { dataset = is; all = all; opens = c.in-Ok.ensures.passes told }) in
      let first = from_what_was g.S.Store.images g.S.Store.moment g.S.Store.images_since c.args.store
      X (λ i left. g.met.S.Store.only_now c.args.store i left) in
      subst (λ s. LeavesOnly g.S.Store.moment g.S.Store.images_since c.args.store s (λ i. g.S.Store.images c.args.store i ⊎ X i)) (sym c.into_store.ensures)
      (joined g.S.Store.moment g.S.Store.images_since c.args.store (store_of f) (store_of c.extend-extended.new.file) _ _ _
      (stays g.S.Store.moment g.S.Store.images_since g.S.Store.bytes g.S.Store.images c.args.store c.args.store (store_of f) _ first still)
      ((c.extend-extended.ensures.stop told).whatever_was_pending c.args.limit places d start) (λ i h. h)
      (λ i either. ⊎_elim (λ was. inl (still.within i was)) (λ some. inr some) either));
}

pub returns-in-Ok-clause-settles : goal.returns-in-Ok-clause-settles
returns-in-Ok-clause-settles g c = record {
  durable = λ only passed.
      let f = c.in-Ok.opened in
      let still = c.in-Ok.ensures.store.unmoved in
      let pending : Only (g.S.Store.bytes (store_of f)) (g.S.Store.images (store_of f)) = λ i im. only i (still.within i im) ∙ sym still.same in
      let tells = subst (λ (a : Answer). Told c.extend-extended.result c.records.result (g.W.Sink.put c.args.sink.now) (g.W.Sink.put c.tell-answer.new.sink) a) passed c.tell-answer.ensures.tells in
      subst (λ s. Only (g.S.Store.bytes s) (g.S.Store.images s)) (sym c.into_store.ensures)
      (passed_ok c.extend-extended.result c.records.result _ _ tells (c.extend-extended.ensures.settles.durable pending));
  settled = λ some passed.
      let tells = subst (λ (a : Answer). Told c.extend-extended.result c.records.result (g.W.Sink.put c.args.sink.now) (g.W.Sink.put c.tell-answer.new.sink) a) passed c.tell-answer.ensures.tells in
      subst (λ s. Only (g.S.Store.bytes s) (g.S.Store.images s)) (sym c.into_store.ensures)
      (passed_ok c.extend-extended.result c.records.result _ _ tells (c.extend-extended.ensures.settles.settled some));
  rest = λ other.
      let new = c.extend-extended.new.file in
      ⊎_elim
      (λ is. inl (subst (λ x. Unmoved g.S.Store.bytes g.S.Store.images g.S.Store.moment g.S.Store.images_since c.args.store x)
      (sym (c.into_store.ensures ∙ ap (λ x. store_of x) is)) c.in-Ok.ensures.store.unmoved))
      (λ only. inr (subst (λ x. Only (g.S.Store.bytes x) (g.S.Store.images x)) (sym c.into_store.ensures) only))
      (c.extend-extended.ensures.settles.rest (λ device. other (c.tell-answer.ensures.told device)));
  none = λ zero. subst (λ x. Unmoved g.S.Store.bytes g.S.Store.images g.S.Store.moment g.S.Store.images_since c.args.store x)
      (sym (c.into_store.ensures ∙ ap (λ x. store_of x) (c.extend-extended.ensures.leaves.none zero))) c.in-Ok.ensures.store.unmoved;
  memory = λ is.
      let memory = c.tell-answer.ensures.memory is in
      let same = (rw memory at c.extend-extended.ensures.leaves.unchanged) (λ device. cc device) (λ full. cc full) in
      subst (λ x. Unmoved g.S.Store.bytes g.S.Store.images g.S.Store.moment g.S.Store.images_since c.args.store x)
      (sym (c.into_store.ensures ∙ ap (λ x. store_of x) same)) c.in-Ok.ensures.store.unmoved;
}

pub returns-in-Ok-clause-calls : goal.returns-in-Ok-clause-calls
returns-in-Ok-clause-calls g c = λ told checked by.
    let enough = checked_by _ _ (g.S.Store.bytes c.args.store) c.args.limit checked (c.in-Ok.ensures.store.calls told) (c.in-Ok.ensures.settled told).calls by in
    record {
      most = omega (arith, enough, c.extend-extended.ensures.calls.most.calls, ap g.S.Store.calls c.into_store.ensures);
      none = λ either.
          let f = c.in-Ok.opened in
          let s = schema_of f in
          let p = placed_of f in
          let new = c.extend-extended.new.file in
          let o = c.in-Ok.ensures.passes told in
          let answer = subst (λ (b : Bool). ExtendsAs b s p c.args.more c.extend-extended.result) c.in-Ok.ensures.fresh c.extend-extended.ensures.answer in
          let same : new ≡ f = ⊎_elim
          (λ zero. c.extend-extended.ensures.leaves.none zero)
          (λ takes_none. ⊎_elim
          (λ fails. absurd (fails (o.header, o.passes)))
          (λ other.
          let as_one = c.opens_as_one.ensures (g.S.Store.bytes c.args.store) c.args.limit s p other.0 other.1 o other.2 in
          nothing_added s p c.args.more c.extend-extended.result answer
          (λ grows. other.3 (takes_none_too s p other.0 other.1 as_one.0 as_one.1 grows)) (new ≡ f)
          c.extend-extended.ensures.leaves.none c.extend-extended.ensures.leaves.unchanged)
          takes_none)
          either in
          omega (
            arith,
            enough,
            ap (λ x. g.S.Store.calls (store_of x)) same,
            ap g.S.Store.calls c.into_store.ensures,
          );
      untouched = λ refused.
          let f = c.in-Ok.opened in
          let s = schema_of f in
          let p = placed_of f in
          let new = c.extend-extended.new.file in
          let same = c.in-Ok.ensures.store.unmoved.same in
          let tells = subst (λ (a : Answer). Told c.extend-extended.result c.records.result (g.W.Sink.put c.args.sink.now) (g.W.Sink.put c.tell-answer.new.sink) a) refused c.tell-answer.ensures.tells in
          let why = refused_for c.extend-extended.result c.records.result (g.W.Sink.put c.args.sink.now) (g.W.Sink.put c.tell-answer.new.sink) tells in
          let e = why.0 in
          let answer : ExtendsAs false s p c.args.more c.extend-extended.result =
          subst (λ (b : Bool). ExtendsAs b s p c.args.more c.extend-extended.result) c.in-Ok.ensures.fresh c.extend-extended.ensures.answer in
          let unchanged : e ≢ errors.Device → e ≢ errors.CountFull → new ≡ f = rw why.1 at c.extend-extended.ensures.leaves.unchanged in
          ⊎_elim
          (λ full.
          let is : c.extend-extended.result ≡ Err errors.CountFull = why.1 ∙ ap (λ (x : AppendError). Err x) full in
          let partly : ∥ LeavesFills (g.S.Store.bytes (store_of f)) s p (schema_of new) (placed_of new) g.S.Store.tells_bytes c.args.more errors.CountFull (g.S.Store.bytes (store_of new)) ∥₁ =
          rw is at c.extend-extended.ensures.leaves.partly in
          let room : IsFull (schema_of new).version (placed_of new) = (rw is at c.extend-extended.ensures.leaves.full) refl in
          let how : ExtendsAs false s p c.args.more (Err errors.CountFull) = rw is at answer in
          let unmoved : IsFull s.version p → Unmoved g.S.Store.bytes g.S.Store.images g.S.Store.moment g.S.Store.images_since c.args.store (store_of new) =
          λ at_once. subst (λ f. Unmoved g.S.Store.bytes g.S.Store.images g.S.Store.moment g.S.Store.images_since c.args.store (store_of f))
          (sym ((rw is at c.extend-extended.ensures.leaves.full_at_once) at_once)) c.in-Ok.ensures.store.unmoved in
          let few = c.extend-extended.ensures.calls.added (λ device. cc (sym is ∙ device)) in
          let before = g.S.Store.calls c.args.store + checked in
          inr (subst (λ x. ∥ FillsUp (g.S.Store.bytes c.args.store) c.args.limit c.args.more (g.S.Store.bytes x)
          (Unmoved g.S.Store.bytes g.S.Store.images g.S.Store.moment g.S.Store.images_since c.args.store x) before (g.S.Store.calls x) ∥₁)
          (sym c.into_store.ensures)
          (∥∥₁_map partly (λ leaves.
          let up = filled_up (g.S.Store.bytes c.args.store) c.args.limit s p (c.in-Ok.ensures.passes told) c.args.more how
          (schema_of new) (placed_of new) g.S.Store.tells_bytes (g.S.Store.bytes (store_of new)) told
          (subst (λ (b : List ℕ). LeavesFills b s p (schema_of new) (placed_of new) g.S.Store.tells_bytes c.args.more errors.CountFull (g.S.Store.bytes (store_of new))) same leaves) room in (
            up.0,
            λ none. (
              unmoved (up.2 none),
              omega (arith, enough, ap (λ f. g.S.Store.calls (store_of f)) ((rw is at c.extend-extended.ensures.leaves.full_at_once) (up.2 none))),
            ),
            omega (arith, few, up.1, leaves.has.records_are, enough),
          )))))
          (λ other. inl (
            subst (λ x. Unmoved g.S.Store.bytes g.S.Store.images g.S.Store.moment g.S.Store.images_since c.args.store x)
                (sym (c.into_store.ensures ∙ ap (λ x. store_of x) (unchanged why.2 other))) c.in-Ok.ensures.store.unmoved,
            inr (
              s,
              p,
              c.in-Ok.ensures.passes told,
              takes_none s p c.args.more e (subst (λ r. ExtendsAs false s p c.args.more r) why.1 answer) other why.2 why.3,
            ),
          ))
          (is_full e);
      reach = λ reads settles.
          omega (
            arith,
            (c.in-Ok.ensures.settled told).reach reads settles,
            c.extend-extended.ensures.calls.most.reach,
            ap g.S.Store.reach c.into_store.ensures,
          );
    }

pub returns-in-Fault-clause-dataset : goal.returns-in-Fault-clause-dataset
returns-in-Fault-clause-dataset g c = λ told s p o counted.
    let x = c.passing_file_holds_a_dataset.ensures (g.S.Store.bytes c.args.store) c.args.limit s p o (g.met.S.Store.are_bytes c.args.store told) counted in
    (places_of o.header.places, x.0, x.1, x.2)

pub returns-in-Fault-clause-extends : goal.returns-in-Fault-clause-extends
returns-in-Fault-clause-extends g c = λ told.
    let fails = subst (λ (r : Refusal). Refuses (g.S.Store.bytes c.args.store) c.args.limit r) c.in-Fault.is (c.in-Err.ensures.refused told) in
    fault_went (g.S.Store.bytes c.args.store) c.args.limit c.args.more (g.W.Sink.put c.args.sink.now) (g.W.Sink.put c.send_file_fault.new.sink)
    c.in-Fault.fault c.answer_of_sent.result c.send_file_fault.result fails c.send_file_fault.ensures.sent c.answer_of_sent.ensures

pub returns-in-Fault-clause-counted : goal.returns-in-Fault-clause-counted
returns-in-Fault-clause-counted g c = λ told.
    let fails = subst (λ (r : Refusal). Refuses (g.S.Store.bytes c.args.store) c.args.limit r) c.in-Fault.is (c.in-Err.ensures.refused told) in
    let front = fault_front (g.S.Store.bytes c.args.store) c.args.limit c.args.more (g.W.Sink.put c.args.sink.now)
    (g.W.Sink.put c.send_file_fault.new.sink) c.in-Fault.fault c.send_file_fault.result fails c.send_file_fault.ensures.sent in
    (front.0, front.1, inl front.2)

pub returns-in-Fault-clause-bytes : goal.returns-in-Fault-clause-bytes
returns-in-Fault-clause-bytes g c = λ told. record {
  bytes = search (told, rules);
  holds = search (told, rules);
  leaves = search (told, rules);
  whole = search (told, rules);
  unprinted = search (told, rules);
  holds_some = search (told, rules);
  refused = search (told, rules);
}

pub returns-in-Device-clause-dataset : goal.returns-in-Device-clause-dataset
returns-in-Device-clause-dataset g c = λ told s p o counted.
    let x = c.passing_file_holds_a_dataset.ensures (g.S.Store.bytes c.args.store) c.args.limit s p o (g.met.S.Store.are_bytes c.args.store told) counted in
    (places_of o.header.places, x.0, x.1, x.2)

pub returns-in-Device-clause-counted : goal.returns-in-Device-clause-counted
returns-in-Device-clause-counted g c = λ told. ([], nothing_put (g.W.Sink.put c.args.sink.now), inl (inl refl))

pub returns-in-Device-clause-bytes : goal.returns-in-Device-clause-bytes
returns-in-Device-clause-bytes g c = λ told. record {
  bytes = search (told, rules);
  holds = search (told, rules);
  leaves = search (told, rules);
  whole = search (told, rules);
  unprinted = search (told, rules);
  holds_some = λ places d is all.
      subst (λ (b : List ℕ). ∥ HoldsSome b c.args.limit places d c.args.more ∥₁) (sym c.in-Err.ensures.store.unmoved.same)
      (none_more c.followed_twice.ensures.none (g.S.Store.bytes c.args.store) c.args.limit places d c.args.more is all);
  refused = search (told, rules);
}

pub returns-in-Device-clause-stop : goal.returns-in-Device-clause-stop
returns-in-Device-clause-stop g c = λ told. record {
  any_moment = λ only places d is all.
      stays g.S.Store.moment g.S.Store.images_since g.S.Store.bytes g.S.Store.images c.args.store c.args.store c.in-Err.store _
      (at_start g.S.Store.bytes g.S.Store.images g.S.Store.moment g.S.Store.images_since c.args.store
      (λ i. ∥ HoldsSome i c.args.limit places d c.args.more ∥₁) (λ i left. g.met.S.Store.only_now c.args.store i left)
      only (none_more c.followed_twice.ensures.none (g.S.Store.bytes c.args.store) c.args.limit places d c.args.more is all)) c.in-Err.ensures.store.unmoved;
  whatever_was_pending = λ places d is all.
      stays g.S.Store.moment g.S.Store.images_since g.S.Store.bytes g.S.Store.images c.args.store c.args.store c.in-Err.store _
      (from_what_was g.S.Store.images g.S.Store.moment g.S.Store.images_since c.args.store
      (λ i. ∥ HoldsSome i c.args.limit places d c.args.more ∥₁) (λ i left. g.met.S.Store.only_now c.args.store i left)) c.in-Err.ensures.store.unmoved;
}

pub returns-in-Memory-clause-dataset : goal.returns-in-Memory-clause-dataset
returns-in-Memory-clause-dataset g c = λ told s p o counted.
    let x = c.passing_file_holds_a_dataset.ensures (g.S.Store.bytes c.args.store) c.args.limit s p o (g.met.S.Store.are_bytes c.args.store told) counted in
    (places_of o.header.places, x.0, x.1, x.2)

pub returns-in-Memory-clause-counted : goal.returns-in-Memory-clause-counted
returns-in-Memory-clause-counted g c = λ told. ([], nothing_put (g.W.Sink.put c.args.sink.now), inl (inl refl))

pub returns-in-Memory-clause-bytes : goal.returns-in-Memory-clause-bytes
returns-in-Memory-clause-bytes g c = λ told. record {
  bytes = search (told, rules);
  holds = search (told, rules);
  leaves = search (told, rules);
  whole = search (told, rules);
  unprinted = search (told, rules);
  holds_some = λ places d is all.
      subst (λ (b : List ℕ). ∥ HoldsSome b c.args.limit places d c.args.more ∥₁) (sym c.in-Err.ensures.store.unmoved.same)
      (none_more c.followed_twice.ensures.none (g.S.Store.bytes c.args.store) c.args.limit places d c.args.more is all);
  refused = search (told, rules);
}

pub returns-in-Memory-clause-stop : goal.returns-in-Memory-clause-stop
returns-in-Memory-clause-stop g c = λ told. record {
  any_moment = λ only places d is all.
      stays g.S.Store.moment g.S.Store.images_since g.S.Store.bytes g.S.Store.images c.args.store c.args.store c.in-Err.store _
      (at_start g.S.Store.bytes g.S.Store.images g.S.Store.moment g.S.Store.images_since c.args.store
      (λ i. ∥ HoldsSome i c.args.limit places d c.args.more ∥₁) (λ i left. g.met.S.Store.only_now c.args.store i left)
      only (none_more c.followed_twice.ensures.none (g.S.Store.bytes c.args.store) c.args.limit places d c.args.more is all)) c.in-Err.ensures.store.unmoved;
  whatever_was_pending = λ places d is all.
      stays g.S.Store.moment g.S.Store.images_since g.S.Store.bytes g.S.Store.images c.args.store c.args.store c.in-Err.store _
      (from_what_was g.S.Store.images g.S.Store.moment g.S.Store.images_since c.args.store
      (λ i. ∥ HoldsSome i c.args.limit places d c.args.more ∥₁) (λ i left. g.met.S.Store.only_now c.args.store i left)) c.in-Err.ensures.store.unmoved;
}

pub returns-in-Fault-clause-calls : goal.returns-in-Fault-clause-calls
returns-in-Fault-clause-calls g c = λ told checked by.
    let enough = checked_by _ _ (g.S.Store.bytes c.args.store) c.args.limit checked (c.in-Err.ensures.store.calls told) (c.in-Err.ensures.settled told).calls by in
    record {
      most = omega (arith, enough);
      none = λ either. enough;
      untouched = λ refused.
          let fails = subst (λ (r : Refusal). Refuses (g.S.Store.bytes c.args.store) c.args.limit r) c.in-Fault.is (c.in-Err.ensures.refused told) in
          inl (
            c.in-Err.ensures.store.unmoved,
            inl (λ passes. c.passing_has_no_fault.ensures.apart (g.S.Store.bytes c.args.store) c.args.limit c.in-Fault.fault passes fails),
          );
      reach = (c.in-Err.ensures.settled told).reach;
    }

pub returns-in-Device-clause-calls : goal.returns-in-Device-clause-calls
returns-in-Device-clause-calls g c = λ told checked by.
    let enough = checked_by _ _ (g.S.Store.bytes c.args.store) c.args.limit checked (c.in-Err.ensures.store.calls told) (c.in-Err.ensures.settled told).calls by in
    record {
      most = omega (arith, enough);
      none = λ either. enough;
      untouched = search (told, rules);
      reach = (c.in-Err.ensures.settled told).reach;
    }

pub returns-in-Memory-clause-calls : goal.returns-in-Memory-clause-calls
returns-in-Memory-clause-calls g c = λ told checked by.
    let enough = checked_by _ _ (g.S.Store.bytes c.args.store) c.args.limit checked (c.in-Err.ensures.store.calls told) (c.in-Err.ensures.settled told).calls by in
    record {
      most = omega (arith, enough);
      none = λ either. enough;
      untouched = search (told, rules);
      reach = (c.in-Err.ensures.settled told).reach;
    }
