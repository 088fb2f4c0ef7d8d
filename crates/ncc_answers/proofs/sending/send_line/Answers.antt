use Rattle.std.proofs.Common.{◌≡◌, ℕ, List, Err, ◌++◌, take, drop, sym, ap, ◌∙◌, append_assoc, arith}
use Rattle.std.specs.Prelude.{codes}
use Rattle.ncc_schema.proofs.Writing.{puts_both, writes_both}
use Rattle.ncc_answers.specs.Shown.{labelled}
use Rattle.ncc_answers.proofs.Fronts.{front_of}
use Rattle.ncc_answers.proofs.Lines.{first_labelled, within, some_line}
use Rattle.ncc_answers.proofs.sending.send_line.Goals as goal

pub split_at-requires : goal.split_at-requires
split_at-requires g c = omega (arith, c.line_length.ensures, within c.args.text.now)

pub returns-in_err-send_label-clause-front : goal.returns-in_err-send_label-clause-front
returns-in_err-send_label-clause-front g c =
    let label = c.args.path.now ++ codes ": " in
    let text = c.args.text.now in
    let n = c.line_length.result in
    let parts : labelled label text ≡ label ++ (take n text ++ labelled label (drop n text)) =
    first_labelled label text c.requires
    ∙ ap (λ (k : ℕ). (label ++ take k text) ++ labelled label (drop k text)) (sym c.line_length.ensures)
    ∙ append_assoc label (take n text) (labelled label (drop n text)) in
    front_of _ _ (labelled label text) label (take n text ++ labelled label (drop n text)) _ c.in_err-send_label.field-0.0 parts c.in_err-send_label.ensures.bytes

pub returns-in_err-write_all-clause-front : goal.returns-in_err-write_all-clause-front
returns-in_err-write_all-clause-front g c =
    let label = c.args.path.now ++ codes ": " in
    let text = c.args.text.now in
    let n = c.line_length.result in
    let line = c.split_at.result.0.now in
    let parts : labelled label text ≡ (label ++ line) ++ labelled label (drop n text) =
    first_labelled label text c.requires
    ∙ ap (λ (k : ℕ). (label ++ take k text) ++ labelled label (drop k text)) (sym c.line_length.ensures)
    ∙ ap (λ (l : List ℕ). (label ++ l) ++ labelled label (drop n text)) (sym c.split_at.ensures.front) in
    front_of _ _ (labelled label text) (label ++ line) (labelled label (drop n text)) _ c.in_err-write_all.field-0.0 parts
    (writes_both (g.W.Sink.put c.args.sink.now) (g.W.Sink.put c.send_label.new.sink) (g.W.Sink.put c.write_all.new.sink) label line (Err c.in_err-write_all.field-0.0) c.in_ok-send_label.ensures.bytes c.in_err-write_all.ensures.bytes)

pub returns-clause-shorter : goal.returns-clause-shorter
returns-clause-shorter g c =
    omega (arith, c.split_at.ensures.back_len, c.line_length.ensures, some_line c.args.text.now c.requires, within c.args.text.now)

pub returns-clause-sent : goal.returns-clause-sent
returns-clause-sent g c =
    let label = c.args.path.now ++ codes ": " in
    let text = c.args.text.now in
    let n = c.line_length.result in
    let line = c.split_at.result.0.now in
    let parts : labelled label text ≡ (label ++ line) ++ labelled label c.split_at.result.1.now =
    first_labelled label text c.requires
    ∙ ap (λ (k : ℕ). (label ++ take k text) ++ labelled label (drop k text)) (sym c.line_length.ensures)
    ∙ ap (λ (l : List ℕ). (label ++ l) ++ labelled label (drop n text)) (sym c.split_at.ensures.front)
    ∙ ap (λ (l : List ℕ). (label ++ line) ++ labelled label l) (sym c.split_at.ensures.back) in
    (label ++ line, puts_both _ _ _ label line c.in_ok-send_label.ensures.bytes c.in_ok-write_all.ensures.bytes, parts)
