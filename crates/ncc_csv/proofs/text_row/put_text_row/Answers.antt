use Rattle.std.proofs.Common.{◌≡◌, [], ◌∷◌, ◌≢◌, ◌∙◌, ◌≤◌, ◌+◌, ◌^◌, ◌-◌, ◌<◌, ◌++◌, ℕ, List, map, length, Result, Ok, Err, sym, refl, subst, arith, rules, false}
use Rattle.std.specs.Prelude.{OnOk}
use Rattle.std.specs.Io.KnownBytes.{Appends}
use Rattle.std.proofs.lemmas.List.{length-map, length-append, take_all}
use Rattle.csv.specs.declared.writer.QuoteStyle.TheVariants as style
use Rattle.csv.specs.Writing.{text_written, is_blank, tail_text, default_writer}
use Rattle.csv.proofs.WriteFacts.{appends-more, appends-none, blank-step, row-final, row-step}
use Rattle.ncc_csv.specs.Word.{word_text}
use Rattle.ncc_csv.proofs.text_row.put_text_row.Goals as goal

plain : default_writer.style ≢ style.NonNumeric
plain e = cc e

pub loop-k-init : goal.loop-k-init
unfolding is_blank
loop-k-init g c = record {
  setup = c.requires.setup;
  text = appends-none _;
  count = c.requires.fields;
  blank = rw c.requires.clean refl;
}

pub loop-k-preserved : goal.loop-k-preserved
loop-k-preserved g c =
    let inv = c.loop-k.invariant in
    let e = c.in_ok-write_field.ensures in
    let row = map word_text c.args.heads.now ++ c.args.text.now ∷ [] in
    let st : c.loop-k.w.cfg.style ≢ style.NonNumeric = rw inv.setup plain in
    let lt : c.loop-k.k < length row = omega (arith, length-map c.args.heads.now word_text, length-append (map word_text c.args.heads.now) (c.args.text.now ∷ []), c.loop-k-test.true) in
    let text = rw (inv.setup, inv.count, c.field.ensures) at (e.text st) in
    let both = appends-more _ _ _ _ _ inv.text text in
    let body = row-step default_writer row c.loop-k.k lt in
    let fits : c.loop-k.k + 1 ≤ 2 ^ 64 - 1 = search rules in
    record {
      setup = e.same ∙ inv.setup;
      text = subst (λ (x : List ℕ). Appends (text_written g.W.Write.contents c.args.w.now) (text_written g.W.Write.contents c.write_field.new.self) x) (sym body) both;
      count = e.count ∙ rw inv.count (omega (arith, fits));
      blank = blank-step default_writer row c.loop-k.k c.loop-k.w.wrote c.write_field.new.self.wrote lt inv.blank
          (λ w. rw (inv.setup, c.field.ensures) at (e.wrote w st)) e.stays;
    }

-- what follows from four facts of a call that went well
on_ok_of_four : {T E : Type 0} {A B C D F : Type 0} (r : Result T E) → (A → B → C → D → F) → OnOk r A → OnOk r B → OnOk r C → OnOk r D → OnOk r F
on_ok_of_four (Ok x) step a b c d = step a b c d
on_ok_of_four (Err e) step a b c d = tt

pub returns : goal.returns
returns g c =
    let inv = c.loop-k.invariant in
    let row = map word_text c.args.heads.now ++ c.args.text.now ∷ [] in
    let ge : length row ≤ c.loop-k.k = omega (arith, length-map c.args.heads.now word_text, length-append (map word_text c.args.heads.now) (c.args.text.now ∷ []), c.loop-k-test.false) in
    let all = take_all c.loop-k.k row ge in
    on_ok_of_four c.end_record.result
    (λ (same : c.end_record.new.self.cfg ≡ c.loop-k.w.cfg) (fields : c.end_record.new.self.fields ≡ 0) (clean : c.end_record.new.self.wrote ≡ false)
    (tail : Appends (text_written g.W.Write.contents c.loop-k.w) (text_written g.W.Write.contents c.end_record.new.self) (tail_text c.loop-k.w.cfg c.loop-k.w.wrote c.loop-k.w.fields)).
    record {
      between = record { setup = same ∙ inv.setup; fields = fields; clean = clean };
      text = row-final _ _ _ default_writer row c.loop-k.w.wrote c.loop-k.w.fields (rw all at inv.text) (rw (all, ← inv.count) at inv.blank) (rw inv.setup at tail);
    })
    c.end_record.ensures.same c.end_record.ensures.fields c.end_record.ensures.wrote c.end_record.ensures.bytes
