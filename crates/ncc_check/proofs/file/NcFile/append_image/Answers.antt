use Rattle.std.proofs.Common.{◌≡◌, ◌≤◌, ◌+◌, ℕ, Bool, List, length, take, drop, ◌++◌, replicate, refl, ap, ap₂, sym, subst, ◌∙◌, length-take, arith}
use Rattle.std.proofs.Math.Logic.{∥∥₁_elim, ∥∥₁_map}
use Rattle.std.proofs.Props.{props}
use Rattle.std.proofs.lemmas.List.{take_at}
use Rattle.std.specs.Prelude.{IsTrue}
use Rattle.ncc_store.specs.Store.{LeavesOnly}
use Rattle.ncc_schema.specs.Schema.{with_count}
use Rattle.ncc_check.specs.Appending.{IsBeforeOrAfter, appended, count_field, with_record}
use Rattle.ncc_check.specs.Checks.{StandsIn}
use Rattle.ncc_layout.specs.Placed.{HasOneMore, file_length_of, records_of_file}
use Rattle.ncc_check.proofs.Appended.{field_long, no_shorter}
use Rattle.ncc_check.proofs.Growing.{Laws, long_enough, stands_with, told_by}
use Rattle.ncc_values.specs.Version.{count_width_of}
use Rattle.ncc_check.specs.Told.{tells_header}
use Rattle.ncc_store.specs.StoreLaws.{untold}
use Rattle.ncc_check.proofs.Appendable.{field_fits, has_room}
use Rattle.ncc_check.proofs.file.NcFile.append_image.Goals as goal

pub add_image-requires-clause-header : goal.add_image-requires-clause-header
add_image-requires-clause-header g c =
    let x = c.args.self.now in
    let fits = field_fits (tells_header g.S.Store.tells_bytes x.must_reopen) (g.S.Store.bytes x.store) x.schema x.placed x.stands (c.placed_file_keeps_all_rules.ensures x.placed) c.requires.takes in
    let field = c.put_count.new.out ++ drop {A = ℕ} c.count_width-width.result (replicate 8 0) in
    omega (arith, fits.0, fits.1, length-take c.count_width-width.result field, c.count_width-width.ensures, c.in-Some.ensures.place_is, c.file_length-size.ensures)

pub one_more-requires-clause-rules : goal.one_more-requires-clause-rules
one_more-requires-clause-rules g c =
    has_room c.args.self.now.placed c.in-Some.next.length (c.placed_file_keeps_all_rules.ensures c.args.self.now.placed) c.requires.takes.some (omega (arith, c.in-Some.ensures.length_is))

pub invariant_of-self-in-Err : goal.invariant_of-self-in-Err
invariant_of-self-in-Err g c =
    let x = c.args.self.now in
    let s = x.schema in
    let p = x.placed in
    let old = g.S.Store.bytes x.store in
    let new = g.S.Store.bytes c.add_image.new.store in
    let fits = field_fits (tells_header g.S.Store.tells_bytes x.must_reopen) old s p x.stands (c.placed_file_keeps_all_rules.ensures p) c.requires.takes in
    let field = c.put_count.new.out ++ drop {A = ℕ} c.count_width-width.result (replicate 8 0) in
    let narrow : length (take c.count_width-width.result field) ≤ count_width_of s.version = omega (arith, length-take c.count_width-width.result field, c.count_width-width.ensures) in
    record {
      stands = ∥∥₁_map x.stands (λ (st : StandsIn (tells_header g.S.Store.tells_bytes x.must_reopen) old s p). record {
        header = st.header;
        begun = st.begun;
        schema_is = st.schema_is;
        placed_is = st.placed_is;
        begins = λ told. untold told;
        length_is = λ told. untold told;
      });
      long = λ told. omega (arith, x.long told, no_shorter old _ _ 4 _ new (omega (arith, fits.1, x.long told, narrow)) (c.in-Err.ensures.err told));
    }

pub invariant_of-self : goal.invariant_of-self
invariant_of-self g c =
    let x = c.args.self.now in
    let s = x.schema in
    let p = x.placed in
    let old = g.S.Store.bytes x.store in
    let new = g.S.Store.bytes c.add_image.new.store in
    let next = c.in-Some.next in
    let keeps = c.placed_file_keeps_all_rules.ensures p in
    let fits = field_fits (tells_header g.S.Store.tells_bytes x.must_reopen) old s p x.stands keeps c.requires.takes in
    let laws : Laws = record { begun = c.rewritten_count_is_begun.ensures.begun; placed = c.one_more_is_placed.ensures } in
    let wide : length c.put_count.new.out ≡ c.count_width-width.result = ap length c.put_count.ensures ∙ field_long s.version next.count ∙ sym c.count_width-width.ensures in
    let field : take c.count_width-width.result (c.put_count.new.out ++ drop {A = ℕ} c.count_width-width.result (replicate 8 0)) ≡ count_field s.version (records_of_file p + 1) =
    take_at c.put_count.new.out (drop {A = ℕ} c.count_width-width.result (replicate 8 0)) c.count_width-width.result wide
    ∙ c.put_count.ensures ∙ ap (count_field s.version) c.in-Some.ensures.count_is in
    let is : IsTrue g.S.Store.tells_bytes → new ≡ with_record old s p c.args.image.now =
    λ told. c.in-Ok.ensures.ok told ∙ ap₂ (λ (at : ℕ) (l : List ℕ). appended old at c.args.image.now 4 l) c.in-Some.ensures.place_is field in
    let told = told_by g.S.Store.tells_bytes x.must_reopen c.if-self.false in
    record {
      stands = ∥∥₁_map x.stands (λ (st : StandsIn (tells_header g.S.Store.tells_bytes x.must_reopen) old s p).
          stands_with laws s p c.one_more.new.self c.args.image.now next.count next.place next.length c.in-Some.ensures c.requires.takes keeps c.requires.image c.one_more.ensures
          (tells_header g.S.Store.tells_bytes x.must_reopen) old new fits.1 (λ yes. is (told yes)) st);
      long = λ yes.
          let back : IsTrue (tells_header g.S.Store.tells_bytes x.must_reopen) = subst (λ (b : Bool). IsTrue (tells_header g.S.Store.tells_bytes b)) (sym c.if-self.false) yes in
          let same : file_length_of p ≡ length old = ∥∥₁_elim x.stands (hlevel props) (λ (st : StandsIn (tells_header g.S.Store.tells_bytes x.must_reopen) old s p). st.length_is back) in
          let whole = long_enough laws s p c.one_more.new.self c.args.image.now next.count next.place next.length c.in-Some.ensures c.requires.takes keeps c.requires.image c.one_more.ensures old new same (omega (arith, fits.1, same)) (is yes) in
          omega (arith, whole);
    }

pub add_image-requires-clause-size : goal.add_image-requires-clause-size
add_image-requires-clause-size g c = λ yes.
    let x = c.args.self.now in
    let told = tells_header g.S.Store.tells_bytes x.must_reopen in
    let old = g.S.Store.bytes x.store in
    let back : IsTrue told = subst (λ (b : Bool). IsTrue (tells_header g.S.Store.tells_bytes b)) (sym c.if-self.false) yes in
    let same : file_length_of x.placed ≡ length old = ∥∥₁_elim x.stands (hlevel props) (λ (st : StandsIn told old x.schema x.placed). st.length_is back) in
    c.file_length-size.ensures ∙ same

-- what is told of a place and a count, told of those of the next record
moved : (P : ℕ → List ℕ → Type 0) (a b : ℕ) (c d : List ℕ) → a ≡ b → c ≡ d → P a c → P b d
moved P a b c d place count h = subst (λ (l : List ℕ). P b l) count (subst (λ (at : ℕ). P at c) place h)

pub returns-in-Ok-clause-adds : goal.returns-in-Ok-clause-adds
returns-in-Ok-clause-adds g c =
    let x = c.args.self.now in
    let s = x.schema in
    let p = x.placed in
    let old = g.S.Store.bytes x.store in
    let image = c.args.image.now in
    let next = c.in-Some.next in
    let wide : length c.put_count.new.out ≡ c.count_width-width.result = ap length c.put_count.ensures ∙ field_long s.version next.count ∙ sym c.count_width-width.ensures in
    let field : take c.count_width-width.result (c.put_count.new.out ++ drop {A = ℕ} c.count_width-width.result (replicate 8 0)) ≡ count_field s.version (records_of_file p + 1) =
    take_at c.put_count.new.out (drop {A = ℕ} c.count_width-width.result (replicate 8 0)) c.count_width-width.result wide
    ∙ c.put_count.ensures ∙ ap (count_field s.version) c.in-Some.ensures.count_is in
    record {
      unchanged = tt;
      added = (
        record {
          schema = ap (with_count s) c.in-Some.ensures.count_is;
          placed = subst (λ (n : ℕ). HasOneMore p n c.one_more.new.self) c.in-Some.ensures.length_is c.one_more.ensures;
        },
        c.if-self.false,
      );
      bytes = λ told. c.in-Ok.ensures.ok told ∙ ap₂ (λ (at : ℕ) (l : List ℕ). appended old at image 4 l) c.in-Some.ensures.place_is field;
      durable = c.in-Ok.ensures.durable;
      err = tt;
      reopen = tt;
      front = λ told. tt;
      any_moment = λ told only.
          moved (λ at l. LeavesOnly g.S.Store.moment g.S.Store.images_since x.store c.add_image.new.store (λ i. IsBeforeOrAfter old at image 4 l i))
          _ _ _ _ c.in-Some.ensures.place_is field (c.add_image.ensures.any_moment told only);
    }

pub returns-in-Err-clause-adds : goal.returns-in-Err-clause-adds
returns-in-Err-clause-adds g c =
    let x = c.args.self.now in
    let s = x.schema in
    let p = x.placed in
    let old = g.S.Store.bytes x.store in
    let new = g.S.Store.bytes c.add_image.new.store in
    let image = c.args.image.now in
    let next = c.in-Some.next in
    let wide : length c.put_count.new.out ≡ c.count_width-width.result = ap length c.put_count.ensures ∙ field_long s.version next.count ∙ sym c.count_width-width.ensures in
    let field : take c.count_width-width.result (c.put_count.new.out ++ drop {A = ℕ} c.count_width-width.result (replicate 8 0)) ≡ count_field s.version (records_of_file p + 1) =
    take_at c.put_count.new.out (drop {A = ℕ} c.count_width-width.result (replicate 8 0)) c.count_width-width.result wide
    ∙ c.put_count.ensures ∙ ap (count_field s.version) c.in-Some.ensures.count_is in
    record {
      unchanged = λ other. absurd (other refl);
      added = tt;
      bytes = λ told. tt;
      durable = tt;
      err = (refl, refl);
      reopen = λ device. refl;
      front = λ told. moved (λ at l. IsBeforeOrAfter old at image 4 l new) _ _ _ _ c.in-Some.ensures.place_is field (c.in-Err.ensures.err told);
      any_moment = λ told only.
          moved (λ at l. LeavesOnly g.S.Store.moment g.S.Store.images_since x.store c.add_image.new.store (λ i. IsBeforeOrAfter old at image 4 l i))
          _ _ _ _ c.in-Some.ensures.place_is field (c.add_image.ensures.any_moment told only);
    }
