use Rattle.ncc_store.specs.File.{file_of}
use Rattle.ncc_schema.specs.Device.{Puts}
use Rattle.ncc_schema.specs.Schema.{places_of}
use Rattle.ncc_engines.specs.Extending.{ExtendsInto, IsFilled, IsFrontOfRefusal}
use Rattle.ncc_write.specs.Extends.{HoldsSome, with_fills}
use Rattle.std.proofs.Common.{◌≡◌, ◌⊎◌, ℕ, List, subst, sym}
use Rattle.ncc_store.specs.Store.{LeavesOnly, Only, Unmoved}
use Rattle.ncc_write.specs.Additions.{HoldsAll}
use Rattle.ncc_engines.proofs.extending.extend_file.Goals as goal

-- a run of a store over a file is a run of the file
moved : {S F : Type 0} (below : S → F) (moment : F → ℕ) (images_since : F → ℕ → List ℕ → Type 0) (old new : S) (a b : F) (P : List ℕ → Type 0) → below old ≡ a → b ≡ below new
    → LeavesOnly {S = S} (λ s. moment (below s)) (λ s. images_since (below s)) old new P → LeavesOnly {S = F} moment images_since a b P
moved {S = S} {F = F} below moment images_since old new a b P at_old at_new left =
    subst (λ (x : F). LeavesOnly moment images_since x b P) at_old
    (subst (λ (y : F). LeavesOnly moment images_since (below old) y P) (sym at_new) (record { later = left.later; each = left.each; before = left.before }))

-- what is told of the store over a file, of the file
abbrev unmoved_below : {S F : Type 0} (below : S → F) (bytes : F → List ℕ) (images : F → List ℕ → Type 0) (moment : F → ℕ) (images_since : F → ℕ → List ℕ → Type 0) (old new : S) (a b : F)
    → below old ≡ a → b ≡ below new
    → Unmoved {S = S} (λ s. bytes (below s)) (λ s. images (below s)) (λ s. moment (below s)) (λ s. images_since (below s)) old new
    → Unmoved {S = F} bytes images moment images_since a b
unmoved_below {S = S} {F = F} below bytes images moment images_since old new a b at_old at_new u =
    subst (λ (x : F). Unmoved bytes images moment images_since x b) at_old
    (subst (λ (y : F). Unmoved bytes images moment images_since (below old) y) (sym at_new)
    (record { same = u.same; within = u.within; later = u.later; nothing_else = u.nothing_else; keeps = u.keeps }))

pub returns-clause-memory : goal.returns-clause-memory
returns-clause-memory g c is =
    unmoved_below _ _ _ _ _ _ _ _ _ c.over.ensures.file c.into_file.ensures (c.extend_engine-store.ensures.settles.memory is)

pub returns-clause-none : goal.returns-clause-none
returns-clause-none g c is =
    unmoved_below _ _ _ _ _ _ _ _ _ c.over.ensures.file c.into_file.ensures (c.extend_engine-store.ensures.settles.none is)

pub returns-clause-dataset : goal.returns-clause-dataset
returns-clause-dataset g c = λ told s p o counted.
    let x = c.passing_file_holds_a_dataset.ensures (g.F.SystemFile.bytes c.args.file) c.args.limit s p o (g.met.F.SystemFile.are_bytes c.args.file told) counted in
    (places_of o.header.places, x.0, x.1, x.2)

pub returns-clause-extends : goal.returns-clause-extends
returns-clause-extends g c = λ told.
    subst (λ (f : g.row.F.Denot). (out : List ℕ) × Puts (g.W.Sink.put c.args.sink.now) (g.W.Sink.put c.extend_engine-store.new.sink) out
    × ExtendsInto (g.F.SystemFile.bytes f) c.args.limit c.args.more c.extend_engine-store.result.1 out)
    c.over.ensures.file (c.extend_engine-store.ensures.extends told)

pub returns-clause-counted : goal.returns-clause-counted
returns-clause-counted g c = λ told.
    subst (λ (n : g.row.F.Denot). (out : List ℕ) × Puts (g.W.Sink.put c.args.sink.now) (g.W.Sink.put c.extend_engine-store.new.sink) out
    × (IsFrontOfRefusal (g.F.SystemFile.bytes c.args.file) c.args.limit c.args.more out
    ⊎ (∥ IsFilled (g.F.SystemFile.bytes c.args.file) c.args.limit c.args.more (g.F.SystemFile.bytes n) ∥₁)))
    (sym c.into_file.ensures)
    (subst (λ (f : g.row.F.Denot). (out : List ℕ) × Puts (g.W.Sink.put c.args.sink.now) (g.W.Sink.put c.extend_engine-store.new.sink) out
    × (IsFrontOfRefusal (g.F.SystemFile.bytes f) c.args.limit c.args.more out
    ⊎ (∥ IsFilled (g.F.SystemFile.bytes f) c.args.limit c.args.more (g.F.SystemFile.bytes (file_of c.extend_engine-store.result.0)) ∥₁)))
    c.over.ensures.file (c.extend_engine-store.ensures.counted told))

pub returns-clause-stop : goal.returns-clause-stop
returns-clause-stop g c told places d is holds =
    let same = sym c.over.ensures.file in
    let held = subst (λ (f : g.row.F.Denot). HoldsAll (g.F.SystemFile.bytes f) c.args.limit places d) same holds in
    let left = c.extend_engine-store.ensures.stop told in (
      λ only. moved _ _ _ _ _ _ _ _ c.over.ensures.file c.into_file.ensures
          (left.any_moment (subst (λ (f : g.row.F.Denot). Only (g.F.SystemFile.bytes f) (g.F.SystemFile.images f)) same only) places d is held),
      subst (λ (f : g.row.F.Denot). LeavesOnly g.F.SystemFile.moment g.F.SystemFile.images_since c.args.file c.into_file.result
          (λ i. g.F.SystemFile.images f i ⊎ (∥ HoldsSome i c.args.limit places d c.args.more ∥₁))) c.over.ensures.file
          (moved _ _ _ _ _ _ _ _ c.over.ensures.file c.into_file.ensures (left.whatever_was_pending places d is held)),
    )

pub returns-clause-holds : goal.returns-clause-holds
returns-clause-holds g c = λ told passed places d is holds.
    subst (λ (n : g.row.F.Denot). ∥ HoldsAll (g.F.SystemFile.bytes n) c.args.limit places (with_fills d c.args.more) ∥₁) (sym c.into_file.ensures)
    ((c.extend_engine-store.ensures.bytes told).holds passed places d is
    (subst (λ (f : g.row.F.Denot). HoldsAll (g.F.SystemFile.bytes f) c.args.limit places d) (sym c.over.ensures.file) holds))
