-- The header's rule is exact.
use Rattle.std.proofs.Common.{◌≡◌, ℕ, ◌^◌, ◌<◌, Bool, true, false, List, [], ◌∷◌, length, map, Option, Some, None, refl, sym, ap, ◌∙◌, arith}
use Rattle.std.specs.List.{AllByRecursion}
use Rattle.std.specs.Prelude.{◌==◌, if◌then◌else◌, is_some, unwrap_or, zip}
use Rattle.std.proofs.lemmas.Bool.{false≢true, eqb-true, eq-eqb, ne_eqb}
use Rattle.std.proofs.lemmas.List.{length-map}
use Rattle.std.proofs.lemmas.Slice.Zip.{firsts-zip, seconds-zip}
use mathlib.Core.Path.{fun_ext}
use Rattle.ncc_values.specs.Numbers.{IsBytes, big_endian}
use Rattle.ncc_values.specs.Version.{byte_of, version_of, count_width_of}
use Rattle.ncc_values.specs.declared.version.Version.{Version}
use Rattle.ncc_values.specs.declared.version.Version.TheVariants.{V1, V2, V5}
use Rattle.ncc_header.specs.declared.fault.FaultKind.TheVariants.{BadMagic, BadVersion}
use Rattle.ncc_header.specs.declared.fault.Wrong.{Wrong}
use Rattle.ncc_schema.specs.declared.schema.Count.{Count}
use Rattle.ncc_schema.specs.declared.schema.Count.TheVariants.{Known, Streaming}
use Rattle.ncc_schema.specs.declared.schema.Dim.{Dim}
use Rattle.ncc_schema.specs.declared.schema.Attr.{Attr}
use Rattle.ncc_schema.specs.declared.schema.Var.{Var}
use Rattle.ncc_schema.specs.declared.schema.Schema.{Schema}
use Rattle.ncc_header.specs.Grammar.{Plain, Grammar, done, ◌>>=◌, ◌into◌}
use Rattle.ncc_schema.specs.Schema.{streaming_mark, Place, LegalDim, LegalVar, LegalPlace, LegalCount, Legal, IsTypedVar, IsTyped}
use Rattle.ncc_schema.specs.Header.{exactly}
use Rattle.ncc_schema.specs.Header as spelled
use Rattle.ncc_header.specs.Fields.{magic_wrong, version_wrong, list, dim, attrs, var, magic, version, numrecs, numrecs_of, header}
use Rattle.ncc_header.proofs.Exact.{Exact, exact_then, exact_into, exact_fits, ◌then◌, flat, exact_as, exact_number}
use Rattle.ncc_header.proofs.Judgements.{unless-none, streaming_mark-last}
use Rattle.ncc_header.proofs.ExactLists.{exact_list, all_after, after_all, all_both, both_all}
use Rattle.ncc_header.proofs.ExactDims.{exact_dim, dims_to, dims_from}
use Rattle.ncc_header.proofs.ExactVars.{exact_attrs, exact_var}

-- ---- magic, version and count

pub exact_magic : Exact magic (λ n. n ≡ 0x434446) (λ _. exactly (0x43 ∷ 0x44 ∷ 0x46 ∷ []))
exact_magic = record {
  takes = λ n b sp.
      let one = (exact_number Plain 3 magic_wrong).takes n b sp in
      let is : n ≡ 0x434446 = eqb-true n 0x434446 (unless-none _ BadMagic one.0.1) in
      (is, one.1 ∙ ap (big_endian 3) is);
  gives = λ n b is s.
      (exact_number Plain 3 magic_wrong).gives n b (rw is (omega arith), rw is refl) (s ∙ ap (big_endian 3) (sym is));
}

pub exact_version : Exact version (λ _. Unit {0}) (λ v. spelled.number 1 (byte_of v))
exact_version = exact_fits (exact_into (λ n. unwrap_or (version_of n) V1) byte_of (exact_number Plain 1 version_wrong)
    (λ n f. back n (n == 1) (n == 2) (n == 5) refl refl refl (unless-none _ BadVersion f.1)))
    (λ v f. tt)
    (λ v f. there v)
  where
    back : (n : ℕ) (a b c : Bool) → (n == 1) ≡ a → (n == 2) ≡ b → (n == 5) ≡ c → is_some (if a then Some V1 else if b then Some V2 else if c then Some V5 else None) ≡ true → byte_of (unwrap_or (if a then Some V1 else if b then Some V2 else if c then Some V5 else None) V1) ≡ n
    back n true b c x y z h = sym (eqb-true n 1 x)
    back n false true c x y z h = sym (eqb-true n 2 y)
    back n false false true x y z h = sym (eqb-true n 5 z)
    back n false false false x y z h = absurd cc

    there : (v : Version) → ((byte_of v < 256 ^ 1) × (version_wrong (byte_of v) ≡ None)) × (unwrap_or (version_of (byte_of v)) V1 ≡ v)
    there V1 = ((omega arith, refl), refl)
    there V2 = ((omega arith, refl), refl)
    there V5 = ((omega arith, refl), refl)

abbrev fine : Option Wrong
fine = None

pub exact_numrecs : (v : Version) → Exact (numrecs v) (LegalCount v) (λ c. spelled.non_neg v (spelled.numrecs_word v c))
exact_numrecs v = exact_fits (exact_into (numrecs_of v) (spelled.numrecs_word v) (exact_number Plain (count_width_of v) (λ n. None)) (λ n f. back n (n == streaming_mark v) refl)) to from
  where
    back : (n : ℕ) (b : Bool) → (n == streaming_mark v) ≡ b → spelled.numrecs_word v (if b then Streaming else Known n) ≡ n
    back n true e = sym (eqb-true n (streaming_mark v) e)
    back n false e = refl

    known_other : (b : Bool) (n : ℕ) → (if b then Streaming else Known n) ≡ Known n → b ≡ false
    known_other true n h = absurd cc
    known_other false n h = refl

    to : (c : Count) → ((spelled.numrecs_word v c < 256 ^ count_width_of v) × (fine ≡ None)) × (numrecs_of v (spelled.numrecs_word v c) ≡ c) → LegalCount v c
    to (Known n) f =
        let other : (n == streaming_mark v) ≡ false = known_other (n == streaming_mark v) n f.1 in
        omega (arith, f.0.0, streaming_mark-last v, λ (e : n ≡ streaming_mark v). false≢true (sym other ∙ eq-eqb n (streaming_mark v) e))
    to Streaming f = tt

    from : (c : Count) → LegalCount v c → ((spelled.numrecs_word v c < 256 ^ count_width_of v) × (fine ≡ None)) × (numrecs_of v (spelled.numrecs_word v c) ≡ c)
    from (Known n) f = ((omega (arith, f, streaming_mark-last v), refl), rw (ne_eqb n (streaming_mark v) (omega (arith, f))) refl)
    from Streaming f = ((omega (arith, streaming_mark-last v), refl), rw (eq-eqb (streaming_mark v) (streaming_mark v) refl) refl)

-- ---- variables and their places, apart and together

pub zip_maps : (xs : List (Var × Place)) → zip (map (λ x. x.0) xs) (map (λ x. x.1) xs) ≡ xs
zip_maps [] = refl
zip_maps (x ∷ xs) = ap (λ (rest : List (Var × Place)). x ∷ rest) (zip_maps xs)

apart : (P : Var → Type 0) (Q : Place → Type 0) (vars : List Var) (places : List Place) → length places ≡ length vars → AllByRecursion (λ x. P x.0 × Q x.1) (zip vars places) → AllByRecursion P vars × AllByRecursion Q places
apart P Q [] [] e h = (tt, tt)
apart P Q [] (p ∷ places) e h = absurd (omega (arith, e))
apart P Q (x ∷ vars) [] e h = absurd (omega (arith, e))
apart P Q (x ∷ vars) (p ∷ places) e h = let rest = apart P Q vars places (omega (arith, e)) h.1 in ((h.0.0, rest.0), (h.0.1, rest.1))

together : (P : Var → Type 0) (Q : Place → Type 0) (vars : List Var) (places : List Place) → AllByRecursion P vars → AllByRecursion Q places → AllByRecursion (λ x. P x.0 × Q x.1) (zip vars places)
together P Q [] places h k = tt
together P Q (x ∷ vars) [] h k = tt
together P Q (x ∷ vars) (p ∷ places) h k = ((h.0, k.0), together P Q vars places h.1 k.1)

-- ---- the header

abbrev pub Whole : Type 0
Whole = Schema × List Place

abbrev pub Parts : Type 0
Parts = ℕ × (Version × (Count × (List Dim × (List Attr × List (Var × Place)))))

abbrev pub whole : Parts → Whole
whole x = (record { version = x.1.0; count = x.1.1.0; dims = x.1.1.1.0; gatts = x.1.1.1.1.0; vars = map (λ y. y.0) x.1.1.1.1.1 }, map (λ y. y.1) x.1.1.1.1.1)

abbrev pub parts : Whole → Parts
parts x = (0x434446, (x.0.version, (x.0.count, (x.0.dims, (x.0.gatts, zip x.0.vars x.1)))))

abbrev pub lists : Version → Grammar (List Dim × (List Attr × List (Var × Place)))
lists v = list v 10 (dim v) then λ dims. attrs v then λ _. list v 11 (λ _. var v dims)

pub header_flat : ((magic then λ _. version then λ v. numrecs v then λ _. lists v) into whole) ≡ header
header_flat = flat magic (λ _. version then λ v. numrecs v then λ _. lists v) (λ x. done (whole x))
    ∙ ap (λ q. magic >>= q) (fun_ext (λ m. flat version (λ v. numrecs v then λ _. lists v) (λ x. done (whole (m, x)))
    ∙ ap (λ q. version >>= q) (fun_ext (λ v. flat (numrecs v) (λ _. lists v) (λ x. done (whole (m, (v, x))))
    ∙ ap (λ q. numrecs v >>= q) (fun_ext (λ c. flat (list v 10 (dim v)) (λ dims. attrs v then λ _. list v 11 (λ _. var v dims)) (λ x. done (whole (m, (v, (c, x)))))
    ∙ ap (λ q. list v 10 (dim v) >>= q) (fun_ext (λ dims. flat (attrs v) (λ _. list v 11 (λ _. var v dims)) (λ x. done (whole (m, (v, (c, (dims, x))))))))))))))

abbrev LegalAt : Version → List Dim → Var × Place → Type 0
LegalAt v dims x = (LegalVar v dims x.0 × IsTypedVar x.0) × LegalPlace v x.1

pub exact_header : Exact header (λ x. Legal x.0 x.1 × IsTyped x.0) (λ x. spelled.header x.0 x.1)
exact_header = exact_fits (exact_as header_flat (exact_into whole parts
    (exact_then exact_magic (λ _ _. exact_then exact_version (λ v _. exact_then (exact_numrecs v) (λ _ _.
    exact_then (exact_list v 10 (omega arith) (omega arith) (exact_dim v)) (λ dims f. exact_then (exact_attrs v) (λ _ _.
    exact_list v 11 (omega arith) (omega arith) (λ _. exact_var v dims f.0)))))))
    (λ a f i. (sym f.0 i, (a.1.0, (a.1.1.0, (a.1.1.1.0, (a.1.1.1.1.0, zip_maps a.1.1.1.1.1 i))))))))
    (λ x f.
    let vars : map (λ y. y.0) (zip x.0.vars x.1) ≡ x.0.vars = ap (λ (y : Whole). y.0.vars) f.1 in
    let places : map (λ y. y.1) (zip x.0.vars x.1) ≡ x.1 = ap (λ (y : Whole). y.1) f.1 in
    let number : length (zip x.0.vars x.1) ≡ length x.0.vars = sym (length-map (zip x.0.vars x.1) (λ y. y.0)) ∙ ap length vars in
    let equal : length x.1 ≡ length x.0.vars = ap length (sym places) ∙ length-map (zip x.0.vars x.1) (λ y. y.1) ∙ number in
    let d = dims_to x.0.version [] x.0.dims (omega arith) f.0.1.1.1.0.1 in
    let both = apart (λ y. LegalVar x.0.version x.0.dims y × IsTypedVar y) (LegalPlace x.0.version) x.0.vars x.1 equal (all_after (LegalAt x.0.version x.0.dims) [] (zip x.0.vars x.1) f.0.1.1.1.1.1.1) in
    let dims = all_both (LegalDim x.0.version) (λ y. IsBytes y.name) x.0.dims d.0 in
    let var_facts = all_both (LegalVar x.0.version x.0.dims) IsTypedVar x.0.vars both.0 in (
      record {
        sound = record {
          count = f.0.1.1.0;
          dims_number = f.0.1.1.1.0.0;
          dims = dims.0;
          one_record_dim = omega (arith, d.1);
          gatts_number = f.0.1.1.1.1.0.0;
          gatts = f.0.1.1.1.1.0.1;
          vars_number = omega (arith, number, f.0.1.1.1.1.1.0);
          vars = var_facts.0;
        };
        number = equal;
        placed = both.1;
      },
      record { dims = dims.1; gatts = f.0.1.1.1.1.0.2; vars = var_facts.1 },
    ))
    (λ x f.
    let v = x.0.version in
    let sound = f.0.sound in
    let typed = f.1 in
    let vars = firsts-zip x.0.vars x.1 f.0.number in
    let places = seconds-zip x.0.vars x.1 f.0.number in
    let number : length (zip x.0.vars x.1) ≡ length x.0.vars = sym (length-map (zip x.0.vars x.1) (λ y. y.0)) ∙ ap length vars in
    let dims = dims_from v [] x.0.dims (both_all (LegalDim v) (λ y. IsBytes y.name) x.0.dims sound.dims typed.dims) (omega (arith, sound.one_record_dim)) in
    let var_facts = both_all (LegalVar v x.0.dims) IsTypedVar x.0.vars sound.vars typed.vars in
    let placed = together (λ y. LegalVar v x.0.dims y × IsTypedVar y) (LegalPlace v) x.0.vars x.1 var_facts f.0.placed in (
      (
        refl,
        (
          tt,
          (
            sound.count,
            (
              (sound.dims_number, dims),
              (
                (sound.gatts_number, sound.gatts, typed.gatts),
                (omega (arith, number, sound.vars_number), after_all (LegalAt v x.0.dims) [] (zip x.0.vars x.1) placed),
              ),
            ),
          ),
        ),
      ),
      λ i. (record { version = v; count = x.0.count; dims = x.0.dims; gatts = x.0.gatts; vars = vars i }, places i),
    ))
