use Rattle.std.proofs.Common.{◌≡◌, ℕ, ◌++◌, List, [], false, length, refl, ap, sym, subst, ◌∙◌, arith}
use Rattle.std.proofs.lemmas.List.{append-nil}
use Rattle.ncc_schema.specs.Device.{Puts}
use Rattle.ncc_build.specs.Dataset.{slabs_of}
use Rattle.ncc_write.specs.Laws.{IsCompleted}
use Rattle.ncc_schema.specs.declared.schema.Schema.{Schema}
use Rattle.ncc_build.specs.declared.fault.WriteFault.TheVariants.{Unfinished}
use Rattle.ncc_write.specs.PagedSink.{waiting}
use Rattle.ncc_write.specs.Positions.{slab_at}
use Rattle.ncc_write.specs.VarSlabs.{IsSlabOrder}
use Rattle.ncc_write.specs.Writer.{schema_in}
use Rattle.ncc_write.specs.Writing.{Next, written}
use Rattle.ncc_write.proofs.Ends.{completed, all_taken}
use Rattle.ncc_write.proofs.Going.{out_is}
use Rattle.ncc_write.proofs.Positions.{next_done, next_open}
use Rattle.ncc_write.proofs.Refusing.{unfinished, finished}
use Rattle.ncc_write.proofs.writer.FileWriter.finish.Goals as goal

pub returns-then-self-slabs-clause-answer : goal.returns-then-self-slabs-clause-answer
returns-then-self-slabs-clause-answer g c = λ start w at.
    let x = c.args.self in
    let stands : w.failed ≡ false = sym at.failed ∙ c.if-self.false in
    let planned : IsSlabOrder w.schema x.slab_order = subst (λ (u : Schema). IsSlabOrder u x.slab_order) at.schema x.planned in
    let n : Next = record { slab = slab_at w.schema x.slab; left = x.left } in
    let next = next_open w.schema w.taken x.slab x.left (at.at stands) (omega (arith, c.if-self-slabs.true, c.slabs.ensures, planned.slabs)) in
    unfinished _ w n (λ e. e.1) (c.args.self, Unfinished) stands next refl

pub returns-clause-answer : goal.returns-clause-answer
returns-clause-answer g c = λ start w at.
    let x = c.args.self in
    let stands : w.failed ≡ false = sym at.failed ∙ c.if-self.false in
    let planned : IsSlabOrder w.schema x.slab_order = subst (λ (u : Schema). IsSlabOrder u x.slab_order) at.schema x.planned in
    let all : x.slab ≡ length (slabs_of w.schema) = omega (arith, c.if-self-slabs.false, c.slabs.ensures, planned.slabs, x.within) in
    finished w (λ e. e.1) c.into_sink.result stands (next_done w.schema w.taken x.slab x.left (at.at stands) all)

pub returns-clause-file : goal.returns-clause-file
returns-clause-file g c = λ start w at.
    let x = c.args.self in
    let stands : w.failed ≡ false = sym at.failed ∙ c.if-self.false in
    let planned : IsSlabOrder w.schema x.slab_order = subst (λ (u : Schema). IsSlabOrder u x.slab_order) at.schema x.planned in
    let all : x.slab ≡ length (slabs_of w.schema) = omega (arith, c.if-self-slabs.false, c.slabs.ensures, planned.slabs, x.within) in
    let none : waiting x.paged_sink ≡ [] = x.flushed (omega (arith, c.if-self-slabs.false, c.slabs.ensures, x.within)) c.if-self.false in
    let built = c.built_is_writable.ensures in
    let done = completed (schema_in x) w.schema w.taken at.schema c.taking_all_completes.ensures built.built built.counted built.writable at.bytes (all_taken w.schema w.taken x.slab x.left (at.at stands) all) in
    let out = out_is w start _ (waiting x.paged_sink) stands at.out in
    let whole : out.0 ≡ written w.schema w.taken = sym (append-nil out.0) ∙ ap (λ (l : List ℕ). out.0 ++ l) (sym none) ∙ out.2 in
    (out.0, subst (λ (k : g.row.W.Denot). Puts start (g.W.Sink.put k) out.0) (sym c.into_sink.ensures) out.1, subst (λ (l : List ℕ). ∥ IsCompleted w.schema w.taken l ∥₁) (sym whole) done)
