use Rattle.std.proofs.Common.{◌≡◌, ℕ, List, ◌++◌, decimal, append_assoc, sym, subst, ◌∙◌}
use Rattle.std.specs.Prelude.{codes}
use Rattle.ncc_schema.specs.Device.{WritesAll}
use Rattle.ncc_schema.proofs.Writing.{writes_both, fails_at}
use Rattle.ncc_lines.specs.Texts.{at_line}
use Rattle.ncc_lines.proofs.putting.put_at.Goals as goal

-- what stands behind the head of the line
found : (word : List ℕ) (offset : ℕ) → List ℕ
found word offset = word ++ (codes " at " ++ (decimal offset ++ codes "\n"))

in_two : (head word : List ℕ) (offset : ℕ) → at_line head word offset ≡ head ++ found word offset
unfolding at_line found
in_two head word offset =
    append_assoc (head ++ word ++ codes " at ") (decimal offset) (codes "\n")
    ∙ append_assoc (head ++ word) (codes " at ") (decimal offset ++ codes "\n")
    ∙ append_assoc head word (codes " at " ++ (decimal offset ++ codes "\n"))

pub returns-in_err-write_all-clause-bytes : goal.returns-in_err-write_all-clause-bytes
returns-in_err-write_all-clause-bytes g c =
    subst (λ (text : List ℕ). WritesAll (g.W.Sink.put c.args.sink.now) (g.W.Sink.put c.write_all.new.sink) c.from_residual.result text)
    (sym (in_two c.args.head.now c.args.word.now c.args.offset))
    (fails_at _ _ _ c.args.head.now (found c.args.word.now c.args.offset) _ c.in_err-write_all.field-0.0 c.from_residual.ensures.1 c.in_err-write_all.ensures.bytes)

pub returns-clause-bytes : goal.returns-clause-bytes
unfolding found
returns-clause-bytes g c =
    subst (λ (text : List ℕ). WritesAll (g.W.Sink.put c.args.sink.now) (g.W.Sink.put c.put_found.new.sink) c.put_found.result text)
    (sym (in_two c.args.head.now c.args.word.now c.args.offset))
    (writes_both _ _ _ c.args.head.now (found c.args.word.now c.args.offset) _ c.in_ok-write_all.ensures.bytes c.put_found.ensures.bytes)
