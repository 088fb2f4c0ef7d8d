-- What is found of a header is what is due.
use Rattle.std.proofs.Common.{◌≡◌, ℕ, zero, suc, ◌+◌, ◌%◌, ◌<◌, ◌^◌, Bool, List, [], ◌∷◌, length, map, get_or, refl, sym, ap, subst, ◌∙◌, ◌⊎◌, inl, inr, arith}
use Rattle.std.specs.Prelude.{slice_get, Some, Contains}
use Rattle.std.proofs.lemmas.List.{length-map, get_or-map}
use Rattle.ncc_values.specs.Name.{FitsAsName}
use Rattle.ncc_schema.specs.declared.names.NameOf.{NameOf}
use Rattle.ncc_schema.specs.declared.names.NameOf.TheVariants as of
use Rattle.ncc_schema.specs.declared.schema.Attr.{Attr}
use Rattle.ncc_schema.specs.declared.schema.Dim.{Dim}
use Rattle.ncc_schema.specs.declared.schema.Header.{Header}
use Rattle.ncc_schema.specs.declared.schema.Mark.{Mark}
use Rattle.ncc_schema.specs.declared.schema.Mark.TheVariants as marks
use Rattle.ncc_schema.specs.declared.schema.Schema.{Schema}
use Rattle.ncc_schema.specs.declared.schema.Var.{Var}
use Rattle.ncc_schema.specs.Header.{canon, canon_name}
use Rattle.ncc_schema.specs.Names.{HasName, StandsAt, capped, first_attrs, name_at, name_of}
use Rattle.ncc_schema.specs.Schema.{Legal, Place, place_of, places_of}
use Rattle.ncc_layout.specs.declared.extent.Extent.{Extent}
use Rattle.ncc_layout.specs.Placed.{begin_field}
use Rattle.ncc_layout.specs.Sizes.{rounded}
use Rattle.ncc_layout.specs.Standard.{vsize_word}
use Rattle.ncc_check.specs.declared.note.Note.{Note}
use Rattle.ncc_check.specs.declared.note.NoteKind.{NoteKind}
use Rattle.ncc_check.specs.declared.note.NoteKind.TheVariants.{VsizeField, HeaderPadding, TaggedEmpty, NameRule, DuplicateName, UnalignedBegin, Order, LargeCount}
use Rattle.ncc_check.specs.Notes.{AreNotes, HasNameRuleNote, IsDue, IsEarlier, dim_length_field, extents_in, name_field, numrecs_at, vsize_words}
use Rattle.ncc_check.specs.Noting.{Adds, Below, Found, MarkNote, PlaceNotesAt, SameInOrder, dim_names, dim_offsets, kinds_of, note_of_mark}
use Rattle.ncc_check.proofs.Dues.{attrs_listed, name_rule_found, dims_listed, due_at, globals_listed, names_due, duplicate_name_found, vars_listed}
use Rattle.ncc_check.proofs.Extents.{IsExtent, extent_number, extent_there}
use Rattle.ncc_check.proofs.Lists.{at_var, uncapped_end}

-- ---- marks

which_mark : (ms : List Mark) (n : Note) (k : ℕ) → k < length ms → get_or (map note_of_mark ms) k n ≡ n → (m : Mark) × Contains ms m × (note_of_mark m ≡ n)
which_mark [] n k below is = absurd (omega (arith, below))
which_mark (m ∷ ms) n zero below is = (m, (0, omega arith, refl), is)
which_mark (m ∷ ms) n (suc k) below is =
    let t = which_mark ms n k (omega (arith, below)) is in
    let c = t.1 in
    (t.0, (suc c.0, omega (arith, c.1), c.2), t.2)

mark_due : (h : Header) (n : Note) (m : Mark) → Contains h.marks m → note_of_mark m ≡ n → IsDue h n.kind n.offset
mark_due h n (marks.Padding o) c is = due_at h HeaderPadding o n (sym is) c
mark_due h n (marks.TaggedEmpty o) c is = due_at h TaggedEmpty o n (sym is) c

mark_found : (ms : List Mark) (m : Mark) → Contains ms m → Below (MarkNote ms) (length ms) (note_of_mark m)
mark_found ms m (k, below, is) = (k, below, get_or-map note_of_mark ms k m (note_of_mark m) below ∙ ap note_of_mark is)

module _ (h : Header) (sizes : List ℕ) (legal : Legal h.schema (places_of h.places)) (long : h.length ≡ length (canon h.schema (places_of h.places))) (small : h.length < 2 ^ 64) (are_sizes : sizes ≡ map (rounded h.schema.dims) h.schema.vars)
    (law : (s : Schema) (places : List Place) (o : NameOf) → Legal s places → HasName s o → StandsAt (canon s places) (canon_name s.version (name_of s o)) (name_at s places o)) where
  number : length h.places ≡ length h.schema.vars
  number = sym (length-map h.places place_of) ∙ legal.number

  -- ---- lengths of dimensions

  length_at : (k : ℕ) → k < length h.schema.dims → capped (get_or (dim_offsets h.schema) k 0 + length (canon_name h.schema.version (get_or (dim_names h.schema.dims) k []))) ≡ dim_length_field h k
  length_at k below =
      let t = dims_listed h legal long small law in
      let there : k < length (dim_names h.schema.dims) = omega (arith, below, length-map h.schema.dims (λ (d : Dim). d.name)) in
      ap (λ o. capped (o + length (canon_name h.schema.version (get_or (dim_names h.schema.dims) k [])))) (t.stands k there)
      ∙ ap (λ name. capped (name_field h (of.Dim k) + length (canon_name h.schema.version name))) (t.named k)
      ∙ uncapped_end h legal long small law (of.Dim k) below

  -- ---- places

  word_at : (k : ℕ) → k < length h.schema.vars → vsize_word h.schema.version (get_or sizes k 0) ≡ get_or (vsize_words h.schema) k 0
  word_at k below =
      ap (λ zs. vsize_word h.schema.version (get_or zs k 0)) are_sizes ∙ words h.schema.vars k below
    where
      words : (vars : List Var) (k : ℕ) → k < length vars → vsize_word h.schema.version (get_or (map (rounded h.schema.dims) vars) k 0) ≡ get_or (map (λ x. vsize_word h.schema.version (rounded h.schema.dims x)) vars) k 0
      words [] k below = absurd (omega (arith, below))
      words (x ∷ vars) zero below = refl
      words (x ∷ vars) (suc k) below = words vars k (omega (arith, below))

  extent_of_number : (k : ℕ) → k < length h.places → (e : Extent) × Contains (extents_in h) e × IsExtent h.schema.dims 0 h.schema.vars h.places k e
  extent_of_number k below = extent_there h.schema.dims 0 h.schema.vars h.places k number below

  at_extent : (k : ℕ) (e : Extent) → IsExtent h.schema.dims 0 h.schema.vars h.places k e → e.variable ≡ k
  at_extent k e t = let n = t.number in omega (arith, n)

  same_kind : (b c : Bool) → Some b ≡ Some c → b ≡ c
  same_kind b c e = cc

  place_due : (n : Note) (k : ℕ) → k < length h.places → PlaceNotesAt h.schema.version (kinds_of h.schema) sizes h.places k n → IsDue h n.kind n.offset
  place_due n k below (inl p) =
      let there : k < length h.schema.vars = omega (arith, below, number) in
      due_at h VsizeField _ n p.is (record { number = k; there = there; other = λ e. p.is_due (e ∙ sym (word_at k there)); at = refl })
  place_due n k below (inr (inl p)) =
      let t = extent_of_number k below in
      let begin = t.2.begin in
      due_at h UnalignedBegin _ n p.is (record { extent = t.0; there = t.1; unaligned = λ e. p.is_due (ap (λ b. b % 4) (sym begin) ∙ e); at = ap (begin_field h.places) (sym (at_extent k t.0 t.2)) })
  place_due n k below (inr (inr p)) =
      let j = p.is_due.0 in
      let less = p.is_due.1 in
      let swapped = p.is_due.3 in
      let t = extent_of_number j (omega (arith, less, below)) in
      let u = extent_of_number k below in
      let first = at_extent j t.0 t.2 in
      let second = at_extent k u.0 u.2 in
      let begin = t.2.begin in
      let later = u.2.begin in
      due_at h Order _ n p.is
      (record {
        earlier = t.0;
        later = u.0;
        earlier_there = t.1;
        later_there = u.1;
        ordered = omega (arith, less, first, second);
        kind = same_kind t.0.is_record u.0.is_record (sym t.2.kind ∙ p.is_due.2 ∙ u.2.kind);
        swapped = omega (arith, swapped, begin, later);
        at = ap (begin_field h.places) (sym second);
      })

  -- ---- all

  pub due : (n : Note) → Found h sizes n → IsDue h n.kind n.offset
  due n (inl (inl (k, below, is))) = let t = which_mark h.marks n k below is in mark_due h n t.0 t.1 t.2
  due n (inl (inr p)) = due_at h LargeCount numrecs_at n p.is (inl (p.is_due, refl))
  due n (inr (inl (inl (inl p)))) = names_due h (dim_names h.schema.dims) (dim_offsets h.schema) of.Dim (dims_listed h legal long small law) n p
  due n (inr (inl (inl (inr (k, below, p))))) = due_at h LargeCount _ n p.is (inr (record { number = k; there = below; large = p.is_due; at = length_at k below }))
  due n (inr (inl (inr p))) = names_due h _ _ of.Global (globals_listed h legal long small law) n p
  due n (inr (inr (inl (inl p)))) = names_due h _ _ of.Var (vars_listed h legal long small law) n p
  due n (inr (inr (inl (inr (i, below, (x, there, p)))))) = names_due h _ _ (of.Attr i) (attrs_listed h legal long small law i x below there) n p
  due n (inr (inr (inr (k, below, p)))) = place_due n k below p

  -- ---- and back

  var_there : (i : ℕ) → i < length h.schema.vars → (x : Var) × (slice_get h.schema.vars i ≡ Some x)
  var_there i below = there h.schema.vars i below
    where
      there : (vars : List Var) (i : ℕ) → i < length vars → (x : Var) × (slice_get vars i ≡ Some x)
      there [] i below = absurd (omega (arith, below))
      there (x ∷ vars) zero below = (x, refl)
      there (x ∷ vars) (suc i) below = there vars i (omega (arith, below))

  bad : (offset : ℕ) (o : NameOf) → HasName h.schema o → (b : HasNameRuleNote h offset) → b.named ≡ o → Found h sizes (record { kind = NameRule; offset = offset })
  bad offset (of.Dim k) there b is = inr (inl (inl (inl (name_rule_found h _ _ of.Dim (dims_listed h legal long small law) k offset (omega (arith, there, length-map h.schema.dims (λ (d : Dim). d.name))) (subst (λ x. ¬ FitsAsName (name_of h.schema x)) is b.bad) (b.at ∙ ap (name_field h) is)))))
  bad offset (of.Global k) there b is = inr (inl (inr (name_rule_found h _ _ of.Global (globals_listed h legal long small law) k offset (omega (arith, there, length-map h.schema.gatts (λ (d : Attr). d.name))) (subst (λ x. ¬ FitsAsName (name_of h.schema x)) is b.bad) (b.at ∙ ap (name_field h) is))))
  bad offset (of.Var k) there b is = inr (inr (inl (inl (name_rule_found h _ _ of.Var (vars_listed h legal long small law) k offset (omega (arith, there, length-map h.schema.vars (λ (d : Var). d.name))) (subst (λ x. ¬ FitsAsName (name_of h.schema x)) is b.bad) (b.at ∙ ap (name_field h) is)))))
  bad offset (of.Attr i k) there b is =
      let t = var_there i there.0 in
      let e = ap (λ xs. length (first_attrs xs)) (at_var h.schema.vars i t.0 t.1).1 in
      inr (inr (inl (inr (i, there.0, (t.0, t.1, name_rule_found h _ _ (of.Attr i) (attrs_listed h legal long small law i t.0 there.0 t.1) k offset (omega (arith, there.1, e, length-map t.0.attrs (λ (d : Attr). d.name))) (subst (λ x. ¬ FitsAsName (name_of h.schema x)) is b.bad) (b.at ∙ ap (name_field h) is))))))

  repeated : (offset : ℕ) (o p : NameOf) → HasName h.schema p → IsEarlier o p → name_of h.schema o ≡ name_of h.schema p → offset ≡ name_field h p → Found h sizes (record { kind = DuplicateName; offset = offset })
  repeated offset (of.Dim j) (of.Dim k) there less same at = inr (inl (inl (inl (duplicate_name_found h _ _ of.Dim (dims_listed h legal long small law) j k offset less (omega (arith, there, length-map h.schema.dims (λ (d : Dim). d.name))) same at))))
  repeated offset (of.Global j) (of.Global k) there less same at = inr (inl (inr (duplicate_name_found h _ _ of.Global (globals_listed h legal long small law) j k offset less (omega (arith, there, length-map h.schema.gatts (λ (d : Attr). d.name))) same at)))
  repeated offset (of.Var j) (of.Var k) there less same at = inr (inr (inl (inl (duplicate_name_found h _ _ of.Var (vars_listed h legal long small law) j k offset less (omega (arith, there, length-map h.schema.vars (λ (d : Var). d.name))) same at))))
  repeated offset (of.Attr w j) (of.Attr i k) there less same at =
      let t = var_there i there.0 in
      let e = ap (λ xs. length (first_attrs xs)) (at_var h.schema.vars i t.0 t.1).1 in
      let own : name_of h.schema (of.Attr i j) ≡ name_of h.schema (of.Attr i k) = ap (λ n. name_of h.schema (of.Attr n j)) (sym less.0) ∙ same in
      inr (inr (inl (inr (i, there.0, (t.0, t.1, duplicate_name_found h _ _ (of.Attr i) (attrs_listed h legal long small law i t.0 there.0 t.1) j k offset less.1 (omega (arith, there.1, e, length-map t.0.attrs (λ (d : Attr). d.name))) own at)))))
  repeated offset (of.Dim j) (of.Global k) there less same at = absurd less
  repeated offset (of.Dim j) (of.Var k) there less same at = absurd less
  repeated offset (of.Dim j) (of.Attr i k) there less same at = absurd less
  repeated offset (of.Global j) (of.Dim k) there less same at = absurd less
  repeated offset (of.Global j) (of.Var k) there less same at = absurd less
  repeated offset (of.Global j) (of.Attr i k) there less same at = absurd less
  repeated offset (of.Var j) (of.Dim k) there less same at = absurd less
  repeated offset (of.Var j) (of.Global k) there less same at = absurd less
  repeated offset (of.Var j) (of.Attr i k) there less same at = absurd less
  repeated offset (of.Attr w j) (of.Dim k) there less same at = absurd less
  repeated offset (of.Attr w j) (of.Global k) there less same at = absurd less
  repeated offset (of.Attr w j) (of.Var k) there less same at = absurd less

  pub found : (kind : NoteKind) (offset : ℕ) → IsDue h kind offset → Found h sizes (record { kind = kind; offset = offset })
  found VsizeField offset d =
      let there = d.there in
      inr (inr (inr (d.number, omega (arith, there, number), inl (record { is_due = λ e. d.other (e ∙ word_at d.number there); is = λ i. record { kind = VsizeField; offset = d.at i } }))))
  found HeaderPadding offset d = inl (inl (mark_found h.marks (marks.Padding offset) d))
  found TaggedEmpty offset d = inl (inl (mark_found h.marks (marks.TaggedEmpty offset) d))
  found NameRule offset d = bad offset d.named d.there d refl
  found DuplicateName offset d = repeated offset d.earlier d.later d.later_there d.ordered d.same d.at
  found UnalignedBegin offset d =
      let t = extent_number h.schema.dims 0 h.schema.vars h.places d.extent d.there in
      let begin = t.2.begin in
      inr (inr (inr (t.0, t.1, inr (inl (record { is_due = λ e. d.unaligned (ap (λ b. b % 4) begin ∙ e); is = λ i. record { kind = UnalignedBegin; offset = (d.at ∙ ap (begin_field h.places) (at_extent t.0 d.extent t.2)) i } })))))
  found Order offset d =
      let t = extent_number h.schema.dims 0 h.schema.vars h.places d.earlier d.earlier_there in
      let u = extent_number h.schema.dims 0 h.schema.vars h.places d.later d.later_there in
      let first = at_extent t.0 d.earlier t.2 in
      let second = at_extent u.0 d.later u.2 in
      let order = d.ordered in
      let swap = d.swapped in
      let begin = t.2.begin in
      let later = u.2.begin in
      inr (inr (inr (u.0, u.1, inr (inr (record { is_due = (t.0, omega (arith, first, second, order), t.2.kind ∙ ap (λ (b : Bool). Some b) d.kind ∙ sym u.2.kind, omega (arith, swap, begin, later)); is = λ i. record { kind = Order; offset = (d.at ∙ ap (begin_field h.places) second) i } })))))
  found LargeCount offset (inl d) = inl (inr (record { is_due = d.0; is = λ i. record { kind = LargeCount; offset = d.1 i } }))
  found LargeCount offset (inr d) =
      inr (inl (inl (inr (d.number, d.there, record { is_due = d.large; is = λ i. record { kind = LargeCount; offset = (d.at ∙ sym (length_at d.number d.there)) i } }))))

  pub are_notes : (notes ordered : List Note) → Adds (Found h sizes) [] notes → SameInOrder notes ordered → AreNotes h ordered
  are_notes notes ordered a t = record {
    due = λ n c. due n (of_none n (a.due n (t.from n c)));
    all = λ kind offset d. t.all _ (a.all _ (found kind offset d));
    ordered = t.in_order;
  }
    where
      of_none : (n : Note) → Contains [] n ⊎ Found h sizes n → Found h sizes n
      of_none n (inl c) = absurd (omega (arith, c.1))
      of_none n (inr f) = f
