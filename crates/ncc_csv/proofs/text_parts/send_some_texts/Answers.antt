use Rattle.std.proofs.Common.{true, false, ◌≡◌, ◌+◌, ◌-◌, ◌++◌, ℕ, List, rules, length, drop, refl, sym, ap, subst, ◌∙◌, arith}
use Rattle.std.proofs.lemmas.List.{length-drop, drop-drop}
use Rattle.ncc_schema.specs.Device.{Puts}
use Rattle.ncc_schema.proofs.Writing.{puts_both, puts_none}
use Rattle.ncc_layout.specs.Elements.{var_at}
use Rattle.ncc_layout.specs.Placed.{file_length_of, record_size_of_file, vars_of}
use Rattle.ncc_check.specs.Files.{store_of, placed_of}
use Rattle.ncc_check.proofs.ReadFiles.{files_join, files_bounded, files_answered, files_loose}
use Rattle.ncc_lines.specs.Sends.{PutsFront}
use Rattle.ncc_slab.specs.Selection.{selected_count}
use Rattle.ncc_values.specs.XType.{size_of}
use Rattle.ncc_slab.specs.Answers.{part_count}
use Rattle.ncc_slab.specs.Selected.{places_of}
use Rattle.ncc_slab.specs.Stretches.{part_stretches, all_stretches}
use Rattle.ncc_slab.specs.SlabParts.{parts_left, parts_type}
use Rattle.ncc_csv.specs.TextRuns.{done_in, part_bytes, Fills, Gathers}
use Rattle.ncc_csv.proofs.Filling.{gathers_more, fills_behind}
use Rattle.ncc_csv.proofs.PartRows.{front_behind}
use Rattle.ncc_csv.proofs.PartCalls.{first_and_rest, room_some}
use Rattle.ncc_csv.proofs.PartTexts.{fails}
use Rattle.ncc_csv.proofs.TextParts.{bytes_so_far, gathers_begin}
use Rattle.ncc_csv.proofs.TextRows.{all_full, counts_some, some_full}
use Rattle.ncc_csv.proofs.text_parts.send_some_texts.Goals as goal

pub loop-done-init : goal.loop-done-init
loop-done-init g c = record {
  within = omega arith;
  left = refl;
  type_is = refl;
  long = refl;
  short = omega (arith, c.requires.some, ap (λ (l : List ℕ). length l) c.new.ensures.items);
  done_is = omega (arith, ap (λ (l : List ℕ). length l) c.new.ensures.items);
  sent = λ told number begins. gathers_begin c.args.slab.now _ (Puts (g.W.Sink.put c.args.sink.now) (g.W.Sink.put c.args.sink.now)) refl c.new.ensures.items c.requires.some (puts_none (g.W.Sink.put c.args.sink.now));
  file = search rules;
  calls = omega arith;
  sink_count = refl;
}

pub returns-in_err-done-clause-sent : goal.returns-in_err-done-clause-sent
returns-in_err-done-clause-sent g c = λ told number begins.
    let at = c.loop-done.invariant in
    let s = c.args.slab.now in
    let done = c.loop-done.done in
    let file = g.S.Store.bytes (store_of c.args.file.now) in
    let record_size = record_size_of_file (placed_of c.args.file.now) in
    let x = var_at (vars_of (placed_of c.args.file.now)) number in
    let all = parts_left c.args.parts.now in
    let left = length (parts_left c.loop-done.parts) in
    let first = g.W.Sink.put c.args.sink.now in
    let mid = g.W.Sink.put c.loop-done.sink in
    let new = g.W.Sink.put c.send_next_texts.new.sink in
    let whole : done + left ≡ selected_count s =
    omega (arith, at.within, c.left-all.ensures, ap length at.left, length-drop done all, ap length begins.left_is, c.places_are_counted.ensures record_size x s) in
    let place = at.left ∙ ap (λ (l : List ℕ). drop done l) begins.left_is ∙ ap (λ (n : ℕ). drop n (places_of record_size x s)) (sym at.done_is) in
    let next = c.in_err-done.ensures.sent told record_size x (at.type_is ∙ begins.type_is) place in
    let here = subst (λ (b : List ℕ). Fills s c.loop-done.gathered.number (c.loop-done.gathered.text.items ++ part_bytes b record_size x s (done_in s c.loop-done.gathered) left) (PutsFront mid new)) at.file.reads.unmoved.same next in
    let now = subst (λ (n : ℕ). Fills s c.loop-done.gathered.number (c.loop-done.gathered.text.items ++ part_bytes file record_size x s n left) (PutsFront mid new)) at.done_is here in
    let front = fills_behind s 0 (part_bytes file record_size x s 0 done) (part_bytes file record_size x s done left) c.loop-done.gathered (Puts first mid) (PutsFront mid new) (PutsFront first new)
    (λ t u a b. front_behind first mid new (t ++ u) t u refl a b) (at.sent told number begins) now in
    let total = subst (λ (l : List ℕ). Fills s 0 l (PutsFront first new)) (bytes_so_far file record_size x s done left ∙ ap (part_bytes file record_size x s 0) whole) front in
    fails _ _ _ _ c.from_residual.ensures.0
    (some_full s (length s.count - 1) c.requires.fits (omega (arith, counts_some s c.requires.some)) c.requires.some file record_size x first new total)

pub returns-in_err-done-clause-file : goal.returns-in_err-done-clause-file
returns-in_err-done-clause-file g c =
    let at = c.loop-done.invariant in
    let next = c.in_err-done.ensures.file in
    let t = parts_type c.args.parts.now in
    let left = parts_left c.loop-done.parts in
    let step = first_and_rest (size_of t) (room_some t) left in
    let joined = files_join c.args.file.now c.loop-done.file c.send_next_texts.new.file _ false 0 0 0 _ _ at.file (files_loose c.loop-done.file c.send_next_texts.new.file _ _ _ next) (omega arith) (omega (arith, ap file_length_of at.file.placed)) in
    files_bounded c.args.file.now c.send_next_texts.new.file _ false 0 _ _ (files_answered c.args.file.now c.send_next_texts.new.file _ _ false 0 _ joined (search rules))
    (omega (arith, at.calls, next.reads.calls refl, ap (λ (m : ℕ). part_stretches m left) (ap size_of at.type_is), step))

pub loop-done-preserved : goal.loop-done-preserved
loop-done-preserved g c =
    let at = c.loop-done.invariant in
    let part = c.in_ok-done.ensures in
    let s = c.args.slab.now in
    let done = c.loop-done.done in
    let n = c.in_ok-done.field-0 in
    let all = parts_left c.args.parts.now in
    let first = g.W.Sink.put c.args.sink.now in
    let mid = g.W.Sink.put c.loop-done.sink in
    let new = g.W.Sink.put c.send_next_texts.new.sink in
    record {
      within = omega (arith, at.within, c.left-all.ensures, ap length at.left, length-drop done all, part.took.0);
      left = part.took.1 ∙ ap (λ (l : List ℕ). drop n l) at.left ∙ drop-drop n done all;
      type_is = part.type_is ∙ at.type_is;
      long = part.long ∙ at.long;
      short = part.short;
      done_is = part.done ∙ ap (λ (k : ℕ). k + n) at.done_is;
      sent = λ told number begins.
          let file = g.S.Store.bytes (store_of c.args.file.now) in
          let record_size = record_size_of_file (placed_of c.args.file.now) in
          let x = var_at (vars_of (placed_of c.args.file.now)) number in
          let place = at.left ∙ ap (λ (l : List ℕ). drop done l) begins.left_is ∙ ap (λ (k : ℕ). drop k (places_of record_size x s)) (sym at.done_is) in
          let next = part.sent told record_size x (at.type_is ∙ begins.type_is) place in
          let here = subst (λ (b : List ℕ). Gathers s c.loop-done.gathered.number (c.loop-done.gathered.text.items ++ part_bytes b record_size x s (done_in s c.loop-done.gathered) n) c.send_next_texts.new.gathered (Puts mid new)) at.file.reads.unmoved.same next in
          let now = subst (λ (k : ℕ). Gathers s c.loop-done.gathered.number (c.loop-done.gathered.text.items ++ part_bytes file record_size x s k n) c.send_next_texts.new.gathered (Puts mid new)) at.done_is here in
          subst (λ (l : List ℕ). Gathers s 0 l c.send_next_texts.new.gathered (Puts first new)) (bytes_so_far file record_size x s done n)
          (gathers_more s 0 (part_bytes file record_size x s 0 done) (part_bytes file record_size x s done n) c.loop-done.gathered c.send_next_texts.new.gathered (Puts first mid) (Puts mid new) (Puts first new)
          (λ t u a b. puts_both first mid new t u a b) (at.sent told number begins) now);
      file = files_join c.args.file.now c.loop-done.file c.send_next_texts.new.file _ false 0 0 0 _ _ at.file
          (files_loose c.loop-done.file c.send_next_texts.new.file _ _ _ (files_answered c.loop-done.file c.send_next_texts.new.file _ (λ before after. after ≡ before) true _ _ part.file part.file.reads.counted.0))
          (omega arith) (omega (arith, ap file_length_of at.file.placed));
      calls =
          let t = parts_type c.args.parts.now in
          let left = parts_left c.loop-done.parts in
          let same = ap size_of at.type_is in
          let step = first_and_rest (size_of t) (room_some t) left in
          let behind = part.took.1 ∙ ap (λ (k : ℕ). drop k left) (part.took.0 ∙ ap (λ (m : ℕ). part_count m left) same) in
          omega (
            arith,
            at.calls,
            part.file.reads.calls refl,
            ap (λ (m : ℕ). part_stretches m left) same,
            step,
            ap (all_stretches (size_of t)) behind,
          );
      sink_count = part.file.reads.counted.1 ∙ at.sink_count;
    }

pub returns-clause-sent : goal.returns-clause-sent
returns-clause-sent g c = λ told number begins.
    let at = c.loop-done.invariant in
    let s = c.args.slab.now in
    let file = g.S.Store.bytes (store_of c.args.file.now) in
    let record_size = record_size_of_file (placed_of c.args.file.now) in
    let x = var_at (vars_of (placed_of c.args.file.now)) number in
    let whole : c.loop-done.done ≡ selected_count s =
    omega (arith, at.within, c.loop-done-test.false, c.left-all.ensures, ap length begins.left_is, c.places_are_counted.ensures record_size x s) in
    all_full s (length s.count - 1) c.requires.fits (omega (arith, counts_some s c.requires.some)) c.requires.some file record_size x c.loop-done.gathered (Puts (g.W.Sink.put c.args.sink.now) (g.W.Sink.put c.loop-done.sink))
    (subst (λ (n : ℕ). Gathers s 0 (part_bytes file record_size x s 0 n) c.loop-done.gathered (Puts (g.W.Sink.put c.args.sink.now) (g.W.Sink.put c.loop-done.sink))) whole (at.sent told number begins))

pub returns-clause-file : goal.returns-clause-file
returns-clause-file g c =
    let at = c.loop-done.invariant in
    files_bounded c.args.file.now c.loop-done.file _ false 0 _ _ (files_answered c.args.file.now c.loop-done.file _ _ false 0 _ at.file (at.file.reads.counted, at.sink_count))
    (omega (arith, at.calls))
