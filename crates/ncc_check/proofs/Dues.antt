-- What is found is what is due: names.
use Rattle.std.proofs.Common.{◌≡◌, ℕ, ◌+◌, ◌<◌, ◌^◌, List, [], ◌∷◌, length, map, drop, get_or, refl, sym, ap, subst, ◌∙◌, inl, inr, arith}
use Rattle.std.specs.Prelude.{slice_get, Some}
use Rattle.std.proofs.lemmas.List.{length-map}
use Rattle.ncc_values.specs.Name.{FitsAsName}
use Rattle.ncc_schema.specs.declared.names.NameOf.{NameOf}
use Rattle.ncc_schema.specs.declared.names.NameOf.TheVariants as of
use Rattle.ncc_schema.specs.declared.schema.Attr.{Attr}
use Rattle.ncc_schema.specs.declared.schema.Dim.{Dim}
use Rattle.ncc_schema.specs.declared.schema.Header.{Header}
use Rattle.ncc_schema.specs.declared.schema.Schema.{Schema}
use Rattle.ncc_schema.specs.declared.schema.Var.{Var}
use Rattle.ncc_schema.specs.Header.{canon, canon_attr, canon_name}
use Rattle.ncc_schema.specs.Names.{HasName, StandsAt, attr_in, attrs_in, before, capped, first_attr, first_attrs, gatts_at, list_size, name_at, name_of}
use Rattle.ncc_schema.specs.Schema.{Legal, Place, places_of}
use Rattle.ncc_check.specs.declared.note.Note.{Note}
use Rattle.ncc_check.specs.declared.note.NoteKind.{NoteKind}
use Rattle.ncc_check.specs.declared.note.NoteKind.TheVariants.{NameRule, DuplicateName}
use Rattle.ncc_check.specs.Notes.{IsDue, IsEarlier, name_field}
use Rattle.ncc_check.specs.Noting.{NameNotes, dim_names, dim_offsets, offsets_from, var_offsets}
use Rattle.ncc_check.proofs.Lists.{at_var, attr_name, dim_name, dim_offset, global_offset, offset_of, uncapped, var_name, var_offset}

-- these are the names of one list, and where they stand
pub record Listed (h : Header) (names : List (List ℕ)) (offsets : List ℕ) (o : ℕ → NameOf) : Type 0 where
  pub there : (k : ℕ) → k < length names → HasName h.schema (o k)
  pub named : (k : ℕ) → get_or names k [] ≡ name_of h.schema (o k)
  pub stands : (k : ℕ) → k < length names → get_or offsets k 0 ≡ name_field h (o k)
  pub ordered : (j k : ℕ) → j < k → IsEarlier (o j) (o k)

pub due_at : (h : Header) (kind : NoteKind) (offset : ℕ) (n : Note) → n ≡ record { kind = kind; offset = offset } → IsDue h kind offset → IsDue h n.kind n.offset
due_at h kind offset n is d = subst (λ (m : Note). IsDue h m.kind m.offset) (sym is) d

pub names_due : (h : Header) (names : List (List ℕ)) (offsets : List ℕ) (o : ℕ → NameOf) → Listed h names offsets o → (n : Note) → NameNotes names offsets n → IsDue h n.kind n.offset
names_due h names offsets o t n (k, below, inl p) =
    due_at h NameRule (get_or offsets k 0) n p.is
    (record { named = o k; there = t.there k below; bad = λ f. p.is_due (subst FitsAsName (sym (t.named k)) f); at = t.stands k below })
names_due h names offsets o t n (k, below, inr p) =
    let less = p.is_due.1 in
    due_at h DuplicateName (get_or offsets k 0) n p.is
    (record {
      earlier = o p.is_due.0;
      later = o k;
      earlier_there = t.there p.is_due.0 (omega (arith, less, below));
      later_there = t.there k below;
      ordered = t.ordered p.is_due.0 k less;
      same = sym (t.named p.is_due.0) ∙ p.is_due.2 ∙ t.named k;
      at = t.stands k below;
    })

pub name_rule_found : (h : Header) (names : List (List ℕ)) (offsets : List ℕ) (o : ℕ → NameOf) → Listed h names offsets o → (k offset : ℕ) → k < length names → ¬ FitsAsName (name_of h.schema (o k)) → offset ≡ name_field h (o k)
    → NameNotes names offsets (record { kind = NameRule; offset = offset })
name_rule_found h names offsets o t k offset below bad at =
    (k, below, inl (record { is_due = λ f. bad (subst FitsAsName (t.named k) f); is = λ i. record { kind = NameRule; offset = (at ∙ sym (t.stands k below)) i } }))

pub duplicate_name_found : (h : Header) (names : List (List ℕ)) (offsets : List ℕ) (o : ℕ → NameOf) → Listed h names offsets o → (j k offset : ℕ) → j < k → k < length names → name_of h.schema (o j) ≡ name_of h.schema (o k) → offset ≡ name_field h (o k)
    → NameNotes names offsets (record { kind = DuplicateName; offset = offset })
duplicate_name_found h names offsets o t j k offset less below same at =
    (k, below, inr (record { is_due = (j, less, t.named j ∙ same ∙ sym (t.named k)); is = λ i. record { kind = DuplicateName; offset = (at ∙ sym (t.stands k below)) i } }))

module _ (h : Header) (legal : Legal h.schema (places_of h.places)) (long : h.length ≡ length (canon h.schema (places_of h.places))) (small : h.length < 2 ^ 64)
    (law : (s : Schema) (places : List Place) (o : NameOf) → Legal s places → HasName s o → StandsAt (canon s places) (canon_name s.version (name_of s o)) (name_at s places o)) where
  pub dims_listed : Listed h (dim_names h.schema.dims) (dim_offsets h.schema) of.Dim
  dims_listed =
      let same = length-map h.schema.dims (λ (d : Dim). d.name) in
      record {
        there = λ k below. omega (arith, below, same);
        named = dim_name h.schema.dims;
        stands = λ k below. dim_offset h legal long small law k (omega (arith, below, same));
        ordered = λ j k less. less;
      }

  pub globals_listed : Listed h (map (λ a. a.name) h.schema.gatts) (offsets_from (canon_attr h.schema.version) (capped (gatts_at h.schema + list_size h.schema.version)) h.schema.gatts) of.Global
  globals_listed =
      let same = length-map h.schema.gatts (λ (a : Attr). a.name) in
      record {
        there = λ k below. omega (arith, below, same);
        named = attr_name h.schema.gatts;
        stands = λ k below. global_offset h legal long small law k (omega (arith, below, same));
        ordered = λ j k less. less;
      }

  pub vars_listed : Listed h (map (λ x. x.name) h.schema.vars) (var_offsets h.schema) of.Var
  vars_listed =
      let same = length-map h.schema.vars (λ (x : Var). x.name) in
      record {
        there = λ k below. omega (arith, below, same);
        named = var_name h.schema.vars;
        stands = λ k below. var_offset h legal long small law k (omega (arith, below, same));
        ordered = λ j k less. less;
      }

  pub attrs_listed : (i : ℕ) (x : Var) → i < length h.schema.vars → slice_get h.schema.vars i ≡ Some x
      → Listed h (map (λ a. a.name) x.attrs) (offsets_from (canon_attr h.schema.version) (capped (get_or (var_offsets h.schema) i 0 + attrs_in h.schema.version x)) x.attrs) (of.Attr i)
  attrs_listed i x below e =
      let v = h.schema.version in
      let same = length-map x.attrs (λ (a : Attr). a.name) in
      let t = at_var h.schema.vars i x e in
      let own : x.attrs ≡ first_attrs (drop i h.schema.vars) = ap first_attrs (sym t.1) in
      let l = ap length own in
      let there : (k : ℕ) → k < length (map (λ (a : Attr). a.name) x.attrs) → HasName h.schema (of.Attr i k) = λ k less. (below, omega (arith, less, same, l)) in
      record {
        there = there;
        named = λ k. attr_name x.attrs k ∙ ap (λ (xs : List Attr). first_attr (drop k xs)) own;
        stands = λ k less.
            offset_of (canon_attr v) (get_or (var_offsets h.schema) i 0 + attrs_in v x) x.attrs k (omega (arith, less, same))
            ∙ ap (λ o. capped (o + attrs_in v x + before (canon_attr v) k x.attrs)) (var_offset h legal long small law i below)
            ∙ ap capped (moved i k x t.0 t.1)
            ∙ uncapped h legal long small law (of.Attr i k) (there k less);
        ordered = λ j k less. (refl, less);
      }
    where
      moved : (i k : ℕ) (x : Var) (more : List Var) → drop i h.schema.vars ≡ x ∷ more → name_field h (of.Var i) + attrs_in h.schema.version x + before (canon_attr h.schema.version) k x.attrs ≡ name_field h (of.Attr i k)
      moved i k x more e =
          let inside = ap (attr_in h.schema.version k) e in
          omega (arith, inside)
