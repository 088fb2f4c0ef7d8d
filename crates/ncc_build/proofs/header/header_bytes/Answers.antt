use Rattle.std.proofs.Common.{◌≡◌, ◌++◌, ℕ, List, [], Some, ap, ap₂, ◌∙◌}
use Rattle.ncc_schema.specs.Header.{canon}
use Rattle.ncc_schema.specs.Schema.{places_of}
use Rattle.ncc_schema.specs.declared.schema.Schema.{Schema}
use Rattle.ncc_schema.specs.declared.schema.VarPlace.{VarPlace}
use Rattle.ncc_build.specs.Builds.{schema_of, places_of_built}
use Rattle.ncc_build.proofs.SoundProps.{legal_of}
use Rattle.ncc_build.proofs.BuiltFacts.{header_is}
use Rattle.ncc_build.proofs.header.header_bytes.Goals as goal

some_is : {A : Type 0} (a b : A) → Some a ≡ Some b → a ≡ b
some_is a b e = cc

pub encode-requires : goal.encode-requires
encode-requires c =
    let s = schema_of c.args.built.now in
    rw (c.schema.ensures, c.places.ensures) (legal_of s (places_of (places_of_built c.args.built.now)) c.built_is_writable.ensures.legal)

pub returns-in-Ok : goal.returns-in-Ok
returns-in-Ok c =
    let s = schema_of c.args.built.now in
    let text = canon c.schema.result.now (places_of c.places.result.now) in
    let sent : Some c.encode.new.sink.inner.items ≡ Some (c.new-sink.result.inner.items ++ text) = c.in-Ok.ensures.bytes in
    let first : c.new-sink.result.inner.items ≡ [] = ap (λ v. v.items) c.new-sink.ensures.writer ∙ c.new.ensures.items in
    let same : text ≡ canon s (places_of (places_of_built c.args.built.now)) = ap₂ (λ (t : Schema) (p : List VarPlace). canon t (places_of p)) c.schema.ensures c.places.ensures in
    ap (λ v. v.items) c.into_inner.ensures
    ∙ some_is _ _ sent
    ∙ ap (λ (l : List ℕ). l ++ text) first
    ∙ same
    ∙ header_is s (places_of_built c.args.built.now) c.built_is_writable.ensures.standard
