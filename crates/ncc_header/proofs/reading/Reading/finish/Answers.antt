use Rattle.std.proofs.Common.{List, map, sym, ap, subst, ◌∙◌}
use Rattle.ncc_header.specs.declared.fault.Fault.{Fault}
use Rattle.ncc_schema.specs.declared.schema.Mark.{Mark}
use Rattle.ncc_schema.specs.declared.schema.Schema.{Schema}
use Rattle.ncc_schema.specs.declared.schema.VarPlace.{VarPlace}
use Rattle.ncc_header.specs.Answers.{Begins, Stops}
use Rattle.ncc_header.specs.Grammar.{done}
use Rattle.ncc_header.specs.Left.{left_of, begins_of}
use Rattle.ncc_schema.specs.Schema.{places_of}
use Rattle.ncc_header.proofs.Ends.{is_whole}
use Rattle.ncc_header.proofs.Feeding.{cut_stops, finishes}
use Rattle.ncc_header.proofs.reading.Reading.finish.Goals as goal

pub returns-in-Some-clause-answers : goal.returns-in-Some-clause-answers
returns-in-Some-clause-answers c = λ taken t.
    subst (λ (f : Fault). Stops taken c.args.self.limit f) (sym c.fault_at_end.ensures) (cut_stops c.args.self taken c.in-Some.size t (sym c.size.ensures ∙ c.in-Some.is))

pub returns-clause-answers : goal.returns-clause-answers
returns-clause-answers c = λ taken t.
    let r = c.args.self in
    let l = r.partial.lists in
    let s : Schema = record { version = l.parts.version; count = l.parts.count; dims = c.from_vec.result; gatts = c.from_vec-2.result; vars = c.from_vec-3.result } in
    let whole = is_whole r.next r.partial (sym c.size.ensures ∙ c.in_default.is) in
    let left = ap (λ n. left_of n r.partial) whole
    ∙ (λ i. done (record { version = l.parts.version; count = l.parts.count; dims = sym c.from_vec.ensures i; gatts = sym c.from_vec-2.ensures i; vars = sym c.from_vec-3.ensures i }, places_of (sym c.from_vec-4.ensures i))) in
    subst (λ (m : List Mark). Begins taken r.limit (record { schema = s; places = c.from_vec-4.result; length = r.at; marks = m })) (sym c.from_vec-5.ensures)
    (finishes r taken s c.from_vec-4.result t left
    (ap (λ (ps : List VarPlace). map (λ p. p.begin_at) ps) c.from_vec-4.ensures ∙ sym (ap (λ n. begins_of n l.vars) whole)))
