use Rattle.std.proofs.Common.{◌≡◌, ℕ, ◌≤◌, List, length, refl, sym, ap, subst, ◌∙◌, arith}
use Rattle.ncc_build.specs.Builds.{schema_of}
use Rattle.ncc_build.specs.File.{header_of}
use Rattle.ncc_check.specs.Checks.{Opens, Refuses}
use Rattle.ncc_check.specs.Files.{store_of, placed_of, schema_of as opened_schema}
use Rattle.ncc_check.specs.declared.fault.Refusal.{Refusal}
use Rattle.ncc_write.specs.Laws.{IsCompleted}
use Rattle.ncc_write.specs.Trips.{AllRead}
use Rattle.ncc_write.proofs.TripEnds.{no_fault, said}
use Rattle.ncc_write.proofs.TripSlabs.{reads_there}
use Rattle.ncc_write.proofs.trip.round_trip.Goals as goal

pub passes-requires-clause-said : goal.passes-requires-clause-said
passes-requires-clause-said c =
    let s = schema_of c.args.built in
    let bytes = c.args.bytes.now in
    let file = c.new-store.result.bytes.items in
    let done : ∥ IsCompleted s bytes file ∥₁ =
    subst (λ (l : List ℕ). ∥ IsCompleted s bytes l ∥₁) (sym c.new-store.ensures.bytes) c.in_ok-written.ensures.1 in
    let within : length (header_of s) ≤ c.args.limit =
    omega (arith, c.if-len.false, c.len.ensures, ap (λ (l : List ℕ). length l) c.in_ok-header_bytes.ensures) in
    said s bytes file c.args.limit (c.headline.ensures.completed s bytes file c.args.limit done within)
    c.schema.result.now c.due_by-due.result c.schema.ensures c.due_by-due.ensures

pub passes-requires-clause-no_fault : goal.passes-requires-clause-no_fault
passes-requires-clause-no_fault c =
    let s = schema_of c.args.built in
    let bytes = c.args.bytes.now in
    let file = c.new-store.result.bytes.items in
    let done : ∥ IsCompleted s bytes file ∥₁ =
    subst (λ (l : List ℕ). ∥ IsCompleted s bytes l ∥₁) (sym c.new-store.ensures.bytes) c.in_ok-written.ensures.1 in
    let within : length (header_of s) ≤ c.args.limit =
    omega (arith, c.if-len.false, c.len.ensures, ap (λ (l : List ℕ). length l) c.in_ok-header_bytes.ensures) in
    no_fault s bytes file c.args.limit (c.headline.ensures.completed s bytes file c.args.limit done within)

pub all_same-requires-clause-reads : goal.all_same-requires-clause-reads
all_same-requires-clause-reads c =
    let s = schema_of c.args.built in
    let bytes = c.args.bytes.now in
    let file = c.new-store.result.bytes.items in
    let p = placed_of c.in-Ok.file in
    let t = opened_schema c.in-Ok.file in
    let done : ∥ IsCompleted s bytes file ∥₁ =
    subst (λ (l : List ℕ). ∥ IsCompleted s bytes l ∥₁) (sym c.new-store.ensures.bytes) c.in_ok-written.ensures.1 in
    let within : length (header_of s) ≤ c.args.limit =
    omega (arith, c.if-len.false, c.len.ensures, ap (λ (l : List ℕ). length l) c.in_ok-header_bytes.ensures) in
    let opens : Opens file c.args.limit t p =
    subst (λ (l : List ℕ). Opens l c.args.limit t p) c.passes.ensures.bytes (c.in-Ok.ensures.passes refl) in
    let same : (store_of c.in-Ok.file).bytes.items ≡ file = c.in-Ok.ensures.store.unmoved.same ∙ c.passes.ensures.bytes in
    subst (λ (l : List ℕ). AllRead l p c.in_ok-slab_order.slab_order bytes) (sym same) (record {
      schema = s;
      slab_order = c.in_ok-slab_order.ensures;
      each = λ k less. reads_there c.header_or_stop.ensures.one_header s bytes file c.args.limit p
          (c.placed_file_keeps_all_rules.ensures p) done within t opens k less;
    })

pub returns-in-Err-default-Fault : goal.returns-in-Err-default-Fault
returns-in-Err-default-Fault c =
    let s = schema_of c.args.built in
    let bytes = c.args.bytes.now in
    let file = c.new-store.result.bytes.items in
    let done : ∥ IsCompleted s bytes file ∥₁ =
    subst (λ (l : List ℕ). ∥ IsCompleted s bytes l ∥₁) (sym c.new-store.ensures.bytes) c.in_ok-written.ensures.1 in
    let within : length (header_of s) ≤ c.args.limit =
    omega (arith, c.if-len.false, c.len.ensures, ap (λ (l : List ℕ). length l) c.in_ok-header_bytes.ensures) in
    let refuses : Refuses file c.args.limit c.in-Err-default-Fault.field-0-1 =
    subst (λ (l : List ℕ). Refuses l c.args.limit c.in-Err-default-Fault.field-0-1) c.passes.ensures.bytes
    (c.in-Err-default-Fault.ensures.refused refl) in
    no_fault s bytes file c.args.limit (c.headline.ensures.completed s bytes file c.args.limit done within)
    c.in-Err-default-Fault.field-0-1-0
    (subst (λ (e : Refusal). Refuses file c.args.limit e) c.in-Err-default-Fault.field-0-1-is refuses)
