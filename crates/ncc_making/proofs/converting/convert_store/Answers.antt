use Rattle.std.proofs.Common.{◌≡◌, inl, inr, ⊎_elim, ℕ, List, Option, refl, ap, subst, sym, ◌∙◌, arith, rules}
use Rattle.ncc_check.specs.Files.{store_of, schema_of, placed_of}
use Rattle.ncc_check.specs.Checks.{Refuses}
use Rattle.ncc_check.specs.declared.fault.FileFault.{FileFault}
use Rattle.ncc_check.specs.declared.fault.Refusal.{Refusal}
use Rattle.ncc_check.specs.declared.fault.Refusal.TheVariants as refusals
use Rattle.ncc_convert.specs.Lines.{plan_line}
use Rattle.ncc_lines.specs.Verdicts.{file_fault_line}
use Rattle.ncc_making.specs.Making.{in_version, IsFileOf, IsConverted}
use Rattle.ncc_answers.proofs.Checked.{checked_by}
use Rattle.ncc_making.proofs.Against.{against_opened}
use Rattle.ncc_making.proofs.Made.{converted_is}
use Rattle.ncc_target.proofs.Naming.{none_or_whole, none_or_whole_else, unnamed_as}
use Rattle.ncc_making.proofs.converting.convert_store.Goals as goal

-- a refusal is of one of three kinds
refusal_is : (r : Refusal) (Q : Type 0) → ((f : FileFault) → r ≡ refusals.Fault f → Q) → (r ≡ refusals.Device → Q) → (r ≡ refusals.Memory → Q) → Q
refusal_is (refusals.Fault f) Q fault device memory = fault f refl
refusal_is refusals.Device Q fault device memory = device refl
refusal_is refusals.Memory Q fault device memory = memory refl

pub returns-in-Ok-clause-named : goal.returns-in-Ok-clause-named
returns-in-Ok-clause-named g c = λ told tells.
    let s = schema_of c.in-Ok.opened in
    let p = placed_of c.in-Ok.opened in
    let converted : (made : Option (List ℕ))
    → IsFileOf g.S.Store.tells_bytes (g.S.Store.bytes (store_of c.in-Ok.opened)) p (in_version c.args.version s p) made
    → IsConverted g.S.Store.tells_bytes (g.S.Store.bytes c.args.store) c.args.limit c.args.version made =
    λ made whole. converted_is c.open_file_holds_a_dataset.ensures g.S.Store.tells_bytes (g.S.Store.bytes c.args.store) _ c.args.limit
    c.args.version s p made (g.met.S.Store.are_bytes c.args.store) c.in-Ok.ensures.store.unmoved.same (c.in-Ok.ensures.passes told) whole in
    let named = c.convert_file-answer.ensures.named tells in
    record {
      made = λ is. converted _ (named.made is);
      unnamed = λ failed. ⊎_elim
          (λ unnamed. inl (unnamed_as _ _ _ _ (g.T.Target.entries c.convert_file-answer.new.target) converted unnamed))
          (λ untold. inr (untold.0, converted _ untold.1))
          (named.unnamed failed);
      unprinted = λ is unrefused store target. converted _ (named.unprinted is
          (λ against. unrefused (plan_line against.0, inr (s, p, against.0, c.in-Ok.ensures.passes told, against.1, refl)))
          (λ rose. store (rw (sym c.into_store.ensures, c.in-Ok.ensures.store.counted) at rose))
          target);
    }

pub returns-in-Ok-clause-lasts : goal.returns-in-Ok-clause-lasts
returns-in-Ok-clause-lasts g c =
    let s = schema_of c.in-Ok.opened in
    let p = placed_of c.in-Ok.opened in
    let lasts = c.convert_file-answer.ensures.lasts in
    record {
      durable = lasts.durable;
      settled = lasts.settled;
      published = λ told is unrefused store target. lasts.published refl is
          (λ against. unrefused (plan_line against.0, inr (s, p, against.0, c.in-Ok.ensures.passes told, against.1, refl)))
          (λ rose. store (rw (sym c.into_store.ensures, c.in-Ok.ensures.store.counted) at rose))
          target;
    }

pub returns-in-Ok-clause-stops : goal.returns-in-Ok-clause-stops
returns-in-Ok-clause-stops g c = λ told tells.
    let s = schema_of c.in-Ok.opened in
    let p = placed_of c.in-Ok.opened in
    let file = IsFileOf g.S.Store.tells_bytes (g.S.Store.bytes (store_of c.in-Ok.opened)) p (in_version c.args.version s p) in
    let whole = IsConverted g.S.Store.tells_bytes (g.S.Store.bytes c.args.store) c.args.limit c.args.version in
    let converted : (made : Option (List ℕ)) → file made → whole made =
    λ made is. converted_is c.open_file_holds_a_dataset.ensures g.S.Store.tells_bytes (g.S.Store.bytes c.args.store) _ c.args.limit
    c.args.version s p made (g.met.S.Store.are_bytes c.args.store) c.in-Ok.ensures.store.unmoved.same (c.in-Ok.ensures.passes told) is in
    record {
      any_moment = λ none.
          none_or_whole g.T.Target.names g.T.Target.moment g.T.Target.names_since c.args.target.now c.convert_file-answer.new.target
          file whole (g.T.Target.entries c.convert_file-answer.new.target) (g.met.T.Target.only_now c.args.target.now)
          (c.convert_file-answer.ensures.names tells) converted none;
      whatever_was_pending =
          none_or_whole_else g.T.Target.names g.T.Target.moment g.T.Target.names_since c.args.target.now c.convert_file-answer.new.target
          file whole (g.T.Target.entries c.convert_file-answer.new.target) (g.met.T.Target.only_now c.args.target.now)
          (c.convert_file-answer.ensures.names tells) converted;
    }

pub returns-in-Ok-clause-unmade : goal.returns-in-Ok-clause-unmade
returns-in-Ok-clause-unmade g c = λ is.
    let because = c.convert_file-answer.ensures.prints.refused is in
    (c.convert_file-answer.ensures.unmade (because.0, because.1)).0

pub returns-in-Ok-clause-unmade_where_refused : goal.returns-in-Ok-clause-unmade_where_refused
returns-in-Ok-clause-unmade_where_refused g c = λ told line.
    let file = c.in-Ok.opened in
    let because = against_opened c.passing_has_no_fault.ensures.apart c.opens_as_one.ensures (g.S.Store.bytes c.args.store)
    c.args.limit c.args.version (schema_of file) (placed_of file) (c.in-Ok.ensures.passes told) line.0 line.1 in
    (c.convert_file-answer.ensures.unmade because).0

pub returns-in-Ok-clause-convertible : goal.returns-in-Ok-clause-convertible
returns-in-Ok-clause-convertible g c = λ told is.
    let file = c.in-Ok.opened in
    (schema_of file, placed_of file, c.in-Ok.ensures.passes told, c.convert_file-answer.ensures.convertible is)

pub returns-in-Ok-clause-prints : goal.returns-in-Ok-clause-prints
returns-in-Ok-clause-prints g c =
    let s = schema_of c.in-Ok.opened in
    let p = placed_of c.in-Ok.opened in
    let prints = c.convert_file-answer.ensures.prints in
    record {
      passed = prints.passed;
      printed = prints.printed;
      refused = λ told is.
          let because = prints.refused is in (
            plan_line because.0,
            because.2,
            inr (s, p, because.0, c.in-Ok.ensures.passes told, because.1, refl),
          );
      memory = prints.memory;
      halted = λ told is.
          ⊎_elim (λ none. inl none)
          (λ some. ⊎_elim
          (λ line. inr (inl (plan_line line.0, inr (s, p, line.0, c.in-Ok.ensures.passes told, line.1, refl), line.2)))
          (λ converted. inr (inr (s, p, c.in-Ok.ensures.passes told, converted.0, converted.1))) some)
          (prints.halted is);
    }

pub returns-in-Ok-clause-calls : goal.returns-in-Ok-clause-calls
returns-in-Ok-clause-calls g c = λ told checked by.
    let file = c.in-Ok.opened in
    let few = checked_by _ _ (g.S.Store.bytes c.args.store) c.args.limit checked (c.in-Ok.ensures.store.calls told) (c.in-Ok.ensures.settled told).calls by in
    let store_is = ap g.S.Store.calls c.into_store.ensures in
    record {
      most = inr (
        schema_of file,
        placed_of file,
        c.in-Ok.ensures.passes told,
        omega (arith, few, c.convert_file-answer.ensures.store.calls refl, store_is),
      );
      refused = λ line.
          let because = against_opened c.passing_has_no_fault.ensures.apart c.opens_as_one.ensures (g.S.Store.bytes c.args.store)
          c.args.limit c.args.version (schema_of file) (placed_of file) (c.in-Ok.ensures.passes told) line.0 line.1 in
          omega (arith, few, ap (λ f. g.S.Store.calls (store_of f)) (c.convert_file-answer.ensures.unmade because).1, store_is);
      occupied = λ taken.
          omega (arith, few, ap (λ f. g.S.Store.calls (store_of f)) (c.convert_file-answer.ensures.occupied taken).1, store_is);
      reach = λ either reads settles.
          let same = ⊎_elim
          (λ line.
          let because = against_opened c.passing_has_no_fault.ensures.apart c.opens_as_one.ensures (g.S.Store.bytes c.args.store)
          c.args.limit c.args.version (schema_of file) (placed_of file) (c.in-Ok.ensures.passes told) line.0 line.1 in
          (c.convert_file-answer.ensures.unmade because).1)
          (λ taken. (c.convert_file-answer.ensures.occupied taken).1) either in
          omega (
            arith,
            (c.in-Ok.ensures.settled told).reach reads settles,
            ap (λ f. g.S.Store.reach (store_of f)) same,
            ap g.S.Store.reach c.into_store.ensures,
          );
    }

pub returns-in-Err-clause-named : goal.returns-in-Err-clause-named
returns-in-Err-clause-named g c = λ told tells. record {
  made = search (told, tells, rules);
  unnamed = search (told, tells, rules);
  unprinted = λ is unrefused store target.
      refusal_is c.in-Err.refusal _
      (λ f e. absurd (unrefused (file_fault_line f, inl (f, subst (λ (r : Refusal). Refuses (g.S.Store.bytes c.args.store) c.args.limit r) e (c.in-Err.ensures.refused told), refl))))
      (λ e. absurd (store (rw e at c.in-Err.ensures.store.counted)))
      (λ e. absurd (cc (sym is ∙ (c.print_refusal-answer.ensures.memory e).0)));
}

pub returns-in-Err-clause-lasts : goal.returns-in-Err-clause-lasts
returns-in-Err-clause-lasts g c = record {
  durable = search rules;
  settled = search rules;
  published = λ told is unrefused store target.
      refusal_is c.in-Err.refusal _
      (λ f e. absurd (unrefused (file_fault_line f, inl (f, subst (λ (r : Refusal). Refuses (g.S.Store.bytes c.args.store) c.args.limit r) e (c.in-Err.ensures.refused told), refl))))
      (λ e. absurd (store (rw e at c.in-Err.ensures.store.counted)))
      (λ e. absurd (cc (sym is ∙ (c.print_refusal-answer.ensures.memory e).0)));
}

pub returns-in-Err-clause-prints : goal.returns-in-Err-clause-prints
returns-in-Err-clause-prints g c = record {
  passed = search rules;
  printed = search rules;
  refused = search rules;
  memory = c.print_refusal-answer.ensures.still;
  halted = λ told is.
      ⊎_elim (λ none. inl none)
      (λ line. inr (inl (
        file_fault_line line.0,
        inl (line.0, subst (λ (r : Refusal). Refuses (g.S.Store.bytes c.args.store) c.args.limit r) line.1 (c.in-Err.ensures.refused told), refl),
        line.2,
      )))
      (c.print_refusal-answer.ensures.halted (λ refused. cc (sym is ∙ refused)));
}

pub returns-in-Err-clause-calls : goal.returns-in-Err-clause-calls
returns-in-Err-clause-calls g c = λ told checked by.
    let few = checked_by _ _ (g.S.Store.bytes c.args.store) c.args.limit checked (c.in-Err.ensures.store.calls told) (c.in-Err.ensures.settled told).calls by in
    record {
      most = inl few;
      refused = λ line. few;
      occupied = λ taken. few;
      reach = λ either. (c.in-Err.ensures.settled told).reach;
    }
