use Rattle.std.proofs.Common.{refl, true, false, rules, ◌≡◌, ◌+◌, ℕ, List, length, drop, sym, ap, subst, ◌∙◌, arith}
use Rattle.std.proofs.lemmas.List.{length-drop, drop-drop}
use Rattle.ncc_schema.specs.Device.{Puts}
use Rattle.ncc_schema.proofs.Writing.{puts_both}
use Rattle.ncc_layout.specs.Elements.{var_at}
use Rattle.ncc_layout.specs.Placed.{file_length_of, record_size_of_file, vars_of}
use Rattle.ncc_check.specs.Files.{store_of, placed_of}
use Rattle.ncc_check.proofs.ReadFiles.{files_join, files_bounded, files_answered, files_loose}
use Rattle.ncc_lines.specs.Sends.{PutsFront}
use Rattle.ncc_slab.specs.Selection.{selected_count}
use Rattle.ncc_values.specs.XType.{size_of}
use Rattle.ncc_slab.specs.Answers.{part_count}
use Rattle.ncc_slab.specs.Stretches.{part_stretches, all_stretches}
use Rattle.ncc_slab.specs.SlabParts.{parts_left, parts_type}
use Rattle.ncc_csv.specs.Sheets.{part_rows}
use Rattle.ncc_csv.proofs.PartRows.{front_behind, rows_so_far, rows_in_all}
use Rattle.ncc_csv.proofs.PartCalls.{first_and_rest, room_some}
use Rattle.ncc_csv.proofs.PartTexts.{fails}
use Rattle.ncc_csv.proofs.parts.send_rows.Goals as goal

pub returns-in_err-done-clause-sent : goal.returns-in_err-done-clause-sent
returns-in_err-done-clause-sent g c = λ told number begins.
    let at = c.loop-done.invariant in
    let s = c.args.slab.now in
    let done = c.loop-done.done in
    let file = g.S.Store.bytes (store_of c.args.file.now) in
    let record_size = record_size_of_file (placed_of c.args.file.now) in
    let x = var_at (vars_of (placed_of c.args.file.now)) number in
    let all = parts_left c.args.parts.now in
    let left = length (parts_left c.loop-done.parts) in
    let whole : done + left ≡ selected_count s =
    omega (arith, at.within, c.left-all.ensures, ap length at.left, length-drop done all, ap length begins.left_is, c.places_are_counted.ensures record_size x s) in
    let next = c.in_err-done.ensures.sent told record_size x (at.type_is ∙ begins.type_is) (at.left ∙ ap (λ (l : List ℕ). drop done l) begins.left_is) in
    fails _ _ _ _ c.from_residual.ensures.0 (front_behind _ _ _ _ _ _ (rows_in_all c.args.style file record_size x s done left whole) (at.sent told number begins)
    (subst (λ (b : List ℕ). PutsFront (g.W.Sink.put c.loop-done.sink) (g.W.Sink.put c.send_next.new.sink) (part_rows c.args.style b record_size x s done left)) at.file.reads.unmoved.same next))

pub loop-done-preserved : goal.loop-done-preserved
loop-done-preserved g c =
    let at = c.loop-done.invariant in
    let part = c.in_ok-done.ensures in
    let s = c.args.slab.now in
    let done = c.loop-done.done in
    let n = c.in_ok-done.field-0 in
    let all = parts_left c.args.parts.now in
    record {
      within = omega (arith, at.within, c.left-all.ensures, ap length at.left, length-drop done all, part.took.0);
      left = part.took.1 ∙ ap (λ (l : List ℕ). drop n l) at.left ∙ drop-drop n done all;
      type_is = part.type_is ∙ at.type_is;
      long = part.long ∙ at.long;
      sent = λ told number begins.
          let file = g.S.Store.bytes (store_of c.args.file.now) in
          let record_size = record_size_of_file (placed_of c.args.file.now) in
          let x = var_at (vars_of (placed_of c.args.file.now)) number in
          let next = part.sent told record_size x (at.type_is ∙ begins.type_is) (at.left ∙ ap (λ (l : List ℕ). drop done l) begins.left_is) in
          subst (λ (t : List ℕ). Puts (g.W.Sink.put c.args.sink.now) (g.W.Sink.put c.send_next.new.sink) t) (sym (rows_so_far c.args.style file record_size x s done n))
          (puts_both _ _ _ (part_rows c.args.style file record_size x s 0 done) (part_rows c.args.style file record_size x s done n) (at.sent told number begins)
          (subst (λ (b : List ℕ). Puts (g.W.Sink.put c.loop-done.sink) (g.W.Sink.put c.send_next.new.sink) (part_rows c.args.style b record_size x s done n)) at.file.reads.unmoved.same next));
      file = files_join c.args.file.now c.loop-done.file c.send_next.new.file _ false 0 0 0 _ _ at.file
          (files_loose c.loop-done.file c.send_next.new.file _ _ _ (files_answered c.loop-done.file c.send_next.new.file _ (λ before after. after ≡ before) true _ _ part.file part.file.reads.counted.0))
          (omega arith) (omega (arith, ap file_length_of at.file.placed));
      calls =
          let t = parts_type c.args.parts.now in
          let left = parts_left c.loop-done.parts in
          let same = ap size_of at.type_is in
          let step = first_and_rest (size_of t) (room_some t) left in
          let behind = part.took.1 ∙ ap (λ (k : ℕ). drop k left) (part.took.0 ∙ ap (λ (m : ℕ). part_count m left) same) in
          omega (
            arith,
            at.calls,
            part.file.reads.calls refl,
            ap (λ (m : ℕ). part_stretches m left) same,
            step,
            ap (all_stretches (size_of t)) behind,
          );
      sink_count = part.file.reads.counted.1 ∙ at.sink_count;
    }

pub returns-in_err-done-clause-file : goal.returns-in_err-done-clause-file
returns-in_err-done-clause-file g c =
    let at = c.loop-done.invariant in
    let next = c.in_err-done.ensures.file in
    let t = parts_type c.args.parts.now in
    let left = parts_left c.loop-done.parts in
    let step = first_and_rest (size_of t) (room_some t) left in
    let joined = files_join c.args.file.now c.loop-done.file c.send_next.new.file _ false 0 0 0 _ _ at.file (files_loose c.loop-done.file c.send_next.new.file _ _ _ next) (omega arith) (omega (arith, ap file_length_of at.file.placed)) in
    files_bounded c.args.file.now c.send_next.new.file _ false 0 _ _ (files_answered c.args.file.now c.send_next.new.file _ _ false 0 _ joined (search rules))
    (omega (arith, at.calls, next.reads.calls refl, ap (λ (m : ℕ). part_stretches m left) (ap size_of at.type_is), step))

pub returns-clause-file : goal.returns-clause-file
returns-clause-file g c =
    let at = c.loop-done.invariant in
    files_bounded c.args.file.now c.loop-done.file _ false 0 _ _ (files_answered c.args.file.now c.loop-done.file _ _ false 0 _ at.file (at.file.reads.counted, at.sink_count))
    (omega (arith, at.calls))
