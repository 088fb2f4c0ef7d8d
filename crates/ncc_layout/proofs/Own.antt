-- Each element of variables that keep the rules has bytes of its own.
use Rattle.std.proofs.Common.{◌≡◌, ℕ, zero, suc, ◌+◌, ◌-◌, ◌*◌, ◌<◌, ◌≤◌, Bool, true, false, not, List, [], ◌∷◌, map, refl, sym, ap, subst, ◌∙◌, arith, ◌⊎◌, inl, inr}
use Rattle.std.specs.Prelude.{Contains}
use Rattle.std.proofs.lemmas.Bool.{cases_lt}
use Rattle.std.proofs.lemmas.Nat.{mul-le, row_fits, same_from_place}
use Rattle.ncc_values.proofs.ElementsLemmas.{size_of-some}
use Rattle.ncc_values.specs.XType.{size_of}
use Rattle.ncc_layout.specs.declared.extent.Extent.{Extent}
use Rattle.ncc_layout.specs.declared.placed_var.PlacedVar.{PlacedVar}
use Rattle.ncc_layout.specs.Sizes.{product}
use Rattle.ncc_layout.specs.Extents.{NumberedFrom, end, fixed_of, records_of}
use Rattle.ncc_layout.specs.Rules.ByKind.{ByKind, EndsBy}
use Rattle.ncc_layout.specs.Rules.InHeader.{NotInHeader}
use Rattle.ncc_layout.specs.Rules.RecordWindow.{InRecordWindow}
use Rattle.ncc_layout.specs.Rules.FixedAfterRecords.{NotFixedAfterRecords}
use Rattle.ncc_layout.specs.Rules.Truncated.{LastNotTruncated, NotTruncated}
use Rattle.ncc_layout.specs.Rules.Overlap.{Apart}
use Rattle.ncc_layout.specs.Elements.{row_major, offset_in, place_of, record_in, record_of, Inside, Element, Owns, LiesInFile, LiesInSlab, IsShaped, HasShape, AreLaid, Own}
use Rattle.ncc_layout.proofs.Membership.{In, in_from_contains, contains_from_in, in_map, in_filter, all_in}
use Rattle.ncc_layout.proofs.RowMajor.{row_major_below, one_index}

-- ---- an element in its slab

-- its number in the slab
abbrev number_in : Bool → (lengths index : List ℕ) → ℕ
number_in true (l ∷ ls) (i ∷ is) = row_major ls is
number_in true _ _ = 0
number_in false ls is = row_major ls is

record Lies (record_size records size slab : ℕ) (is_record : Bool) (lengths index : List ℕ) : Type 0 where
  offset : offset_in record_size size is_record lengths index ≡ record_in is_record index * record_size + number_in is_record lengths index * size
  fits : number_in is_record lengths index * size + size ≤ slab
  below : is_record ≡ true → record_in is_record index < records
  none : is_record ≡ false → record_in is_record index ≡ 0

lies : (record_size records size slab : ℕ) (is_record : Bool) (lengths index : List ℕ) → IsShaped records size slab is_record lengths → Inside lengths index → Lies record_size records size slab is_record lengths index
lies record_size records size slab true [] is h k = absurd h
lies record_size records size slab true (l ∷ ls) [] h k = absurd k
lies record_size records size slab true (l ∷ ls) (i ∷ is) h k = record {
  offset = refl;
  fits = omega (arith, h.1, row_fits (row_major ls is) size (product ls) size (row_major_below ls is k.1) (omega arith));
  below = λ e. omega (arith, h.0, k.0);
  none = λ e. absurd cc;
}
lies record_size records size slab false ls is h k = record {
  offset = omega arith;
  fits = omega (arith, h, row_fits (row_major ls is) size (product ls) size (row_major_below ls is k) (omega arith));
  below = λ e. absurd cc;
  none = λ e. refl;
}

-- one record and one number in the slab are one index list
one_element : (is_record : Bool) (lengths is js : List ℕ) → Inside lengths is → Inside lengths js → record_in is_record is ≡ record_in is_record js → number_in is_record lengths is ≡ number_in is_record lengths js → is ≡ js
one_element true [] [] [] h k r n = refl
one_element true [] [] (j ∷ js) h k r n = absurd k
one_element true [] (i ∷ is) js h k r n = absurd h
one_element true (l ∷ ls) [] js h k r n = absurd h
one_element true (l ∷ ls) (i ∷ is) [] h k r n = absurd k
one_element true (l ∷ ls) (i ∷ is) (j ∷ js) h k r n = ap (λ (m : ℕ). m ∷ is) r ∙ ap (λ (m : List ℕ). j ∷ m) (one_index ls is js h.1 k.1 n)
one_element false ls is js h k r n = one_index ls is js h k n

-- two items of one size that share a byte are one
one_number : (size base a b byte : ℕ) → base + a * size ≤ byte → byte < base + a * size + size → base + b * size ≤ byte → byte < base + b * size + size → a ≡ b
one_number size base a b byte h k m n =
    let p = byte - (base + a * size) in
    let q = byte - (base + b * size) in
    let both : a * size + p ≡ b * size + q = omega arith in
    (same_from_place a p b q size (omega arith) (omega arith) both).0

-- ---- records apart

-- a slab of an earlier record ends before a later one begins
apart_records : (record_size first_end begin i j byte : ℕ) → i < j → first_end ≤ begin + record_size → byte < first_end + i * record_size → begin + j * record_size ≤ byte → ⊥
apart_records r first_end begin i j byte less window low high =
    let step : (i + 1) * r ≤ j * r = mul-le (i + 1) r j r (omega arith) (omega arith) in
    let next : (i + 1) * r ≡ i * r + r = omega arith in
    omega arith

-- ---- a byte of an element

record Has (record_size records : ℕ) (x : PlacedVar) (index : List ℕ) (byte : ℕ) : Type 0 where
  shaped : HasShape records x
  inside : Inside x.shape index
  low : place_of record_size x index ≤ byte
  high : byte < place_of record_size x index + size_of x.xtype

abbrev number_of : PlacedVar → List ℕ → ℕ
number_of x index = number_in x.extent.is_record x.shape index

-- it lies in the slab of its record
record InSlab (record_size records : ℕ) (x : PlacedVar) (index : List ℕ) (byte : ℕ) : Type 0 where
  begin : x.extent.begin + record_of x index * record_size ≤ byte
  end : byte < end x.extent + record_of x index * record_size
  low : x.extent.begin + record_of x index * record_size + number_of x index * size_of x.xtype ≤ byte
  high : byte < x.extent.begin + record_of x index * record_size + number_of x index * size_of x.xtype + size_of x.xtype
  below : x.extent.is_record ≡ true → record_of x index < records
  none : x.extent.is_record ≡ false → record_of x index ≡ 0

in_slab : (record_size records : ℕ) (x : PlacedVar) (index : List ℕ) (byte : ℕ) → Has record_size records x index byte → InSlab record_size records x index byte
in_slab record_size records x index byte h =
    let l = lies record_size records (size_of x.xtype) x.extent.slab x.extent.is_record x.shape index h.shaped h.inside in
    record {
      begin = omega (arith, l.offset, h.low);
      end = omega (arith, l.offset, l.fits, h.high);
      low = omega (arith, l.offset, h.low);
      high = omega (arith, l.offset, h.high);
      below = l.below;
      none = l.none;
    }

pub lies_in_slab : (record_size records : ℕ) (x : PlacedVar) (index : List ℕ) → HasShape records x → Inside x.shape index → LiesInSlab record_size x index
lies_in_slab record_size records x index shaped inside =
    let l = lies record_size records (size_of x.xtype) x.extent.slab x.extent.is_record x.shape index shaped inside in
    record {
      begins = omega (arith, l.offset);
      ends = omega (arith, l.offset, l.fits);
    }

-- a byte in the same record of two slabs
share : (d e : Extent) (further byte : ℕ) → d.begin + further ≤ byte → byte < end d + further → e.begin + further ≤ byte → byte < end e + further → Apart d e → ⊥
share d e further byte h k m n apart = apart (byte - further) (omega arith) (omega arith) (omega arith) (omega arith)

same_index : (record_size records : ℕ) (x : PlacedVar) (is js : List ℕ) (byte : ℕ) → Has record_size records x is byte → Has record_size records x js byte → record_of x is ≡ record_of x js → is ≡ js
same_index record_size records x is js byte h k same =
    let p = in_slab record_size records x is byte h in
    let q = in_slab record_size records x js byte k in
    let equal : record_of x is * record_size ≡ record_of x js * record_size = ap (λ (i : ℕ). i * record_size) same in
    one_element x.extent.is_record x.shape is js h.inside k.inside same
    (one_number (size_of x.xtype) (x.extent.begin + record_of x is * record_size) (number_of x is) (number_of x js) byte p.low p.high (omega (arith, equal, q.low)) (omega (arith, equal, q.high)))

-- the same where two variables are known to be one
same_var : (record_size records : ℕ) (x y : PlacedVar) → x ≡ y → (is js : List ℕ) (byte : ℕ) → Has record_size records x is byte → Has record_size records y js byte → record_of x is ≡ record_of y js → is ≡ js
same_var record_size records x y e =
    subst (λ (z : PlacedVar). (is js : List ℕ) (byte : ℕ) → Has record_size records x is byte → Has record_size records z js byte → record_of x is ≡ record_of z js → is ≡ js) e (same_index record_size records x)

-- ---- variables by their numbers

module _ {A : Type 0} (extent : A → Extent) where
  not_below : (n : ℕ) (xs : List A) (x : A) → NumberedFrom n (map extent xs) → In xs x → n ≤ (extent x).variable
  not_below n [] x h k = absurd k
  not_below n (y ∷ xs) x h (inl e) = omega (arith, h.0, ap (λ (z : A). (extent z).variable) e)
  not_below n (y ∷ xs) x h (inr k) = omega (arith, not_below (suc n) xs x h.1 k)

  pub one_numbered : (n : ℕ) (xs : List A) (x y : A) → NumberedFrom n (map extent xs) → In xs x → In xs y → (extent x).variable ≡ (extent y).variable → x ≡ y
  one_numbered n [] x y h k m e = absurd k
  one_numbered n (z ∷ xs) x y h (inl k) (inl m) e = sym k ∙ m
  one_numbered n (z ∷ xs) x y h (inl k) (inr m) e = absurd (omega (arith, h.0, ap (λ (w : A). (extent w).variable) k, not_below (suc n) xs y h.1 m, e))
  one_numbered n (z ∷ xs) x y h (inr k) (inl m) e = absurd (omega (arith, h.0, ap (λ (w : A). (extent w).variable) m, not_below (suc n) xs x h.1 k, e))
  one_numbered n (z ∷ xs) x y h (inr k) (inr m) e = one_numbered (suc n) xs x y h.1 k m e

same_number : (m n : ℕ) → ((m ≡ n → ⊥) → ⊥) → m ≡ n
same_number zero zero h = refl
same_number zero (suc n) h = absurd (h (λ e. omega (arith, e)))
same_number (suc m) zero h = absurd (h (λ e. omega (arith, e)))
same_number (suc m) (suc n) h = ap suc (same_number m n (λ differ. h (λ e. differ (omega (arith, e)))))

-- ---- rules at one extent

module _ (header length record_size records : ℕ) (vars : List PlacedVar) (laid : AreLaid header length record_size records vars) where
  abbrev extents : List Extent
  extents = map (λ x. x.extent) vars

  there : (x : PlacedVar) → In vars x → In extents x.extent
  there x h = in_map (λ (y : PlacedVar). y.extent) vars x h

  among_records : (x : PlacedVar) → In vars x → x.extent.is_record ≡ true → In (records_of extents) x.extent
  among_records x h is = in_filter (λ (e : Extent). e.is_record) extents x.extent is (there x h)

  among_fixed : (x : PlacedVar) → In vars x → x.extent.is_record ≡ false → In (fixed_of extents) x.extent
  among_fixed x h is = in_filter (λ (e : Extent). not e.is_record) extents x.extent (ap not is) (there x h)

  -- a record's slab ends by the end of the record
  window : (x y : PlacedVar) → In vars x → In vars y → x.extent.is_record ≡ true → y.extent.is_record ≡ true → end x.extent ≤ y.extent.begin + record_size
  window x y h k is also =
      let rule : InRecordWindow record_size extents x.extent = all_in (InRecordWindow record_size extents) extents x.extent laid.rules.in_record_window (there x h) in
      let ends : EndsBy record_size (records_of extents) x.extent = subst (λ (b : Bool). ByKind b (EndsBy record_size (records_of extents) x.extent) (Unit {0})) is rule in
      all_in (λ (r : Extent). end x.extent ≤ r.begin + record_size) (records_of extents) y.extent ends (among_records y k also)

  not_fixed_after_records : (x y : PlacedVar) → In vars x → In vars y → x.extent.is_record ≡ false → y.extent.is_record ≡ true → end x.extent ≤ y.extent.begin
  not_fixed_after_records x y h k is also =
      let rule : NotFixedAfterRecords extents x.extent = all_in (NotFixedAfterRecords extents) extents x.extent laid.rules.not_fixed_after_records (there x h) in
      let ends : EndsBy 0 (records_of extents) x.extent = subst (λ (b : Bool). ByKind b (Unit {0}) (EndsBy 0 (records_of extents) x.extent)) is rule in
      omega (arith, all_in (λ (r : Extent). end x.extent ≤ r.begin + 0) (records_of extents) y.extent ends (among_records y k also))

  -- ---- two elements that share a byte

  -- of variables of one kind, in the same record
  one_of_kind : (x y : PlacedVar) → In vars x → In vars y → x.extent.is_record ≡ y.extent.is_record → (Apart x.extent y.extent → ⊥) → x.extent.variable ≡ y.extent.variable
  one_of_kind x y h k same shared = by_kind x.extent.is_record refl
    where
      by_kind : (b : Bool) → x.extent.is_record ≡ b → x.extent.variable ≡ y.extent.variable
      by_kind true is = same_number x.extent.variable y.extent.variable (λ differ. shared (laid.rules.no_record_overlap x.extent y.extent
          (contains_from_in (records_of extents) x.extent (among_records x h is)) (contains_from_in (records_of extents) y.extent (among_records y k (sym same ∙ is))) differ))
      by_kind false is = same_number x.extent.variable y.extent.variable (λ differ. shared (laid.rules.no_fixed_overlap x.extent y.extent
          (contains_from_in (fixed_of extents) x.extent (among_fixed x h is)) (contains_from_in (fixed_of extents) y.extent (among_fixed y k (sym same ∙ is))) differ))

  in_one_record : (x y : PlacedVar) (is js : List ℕ) (byte : ℕ) → In vars x → In vars y → Has record_size records x is byte → Has record_size records y js byte
      → x.extent.is_record ≡ y.extent.is_record → record_of x is ≡ record_of y js → (x ≡ y) × (is ≡ js)
  in_one_record x y is js byte h k p q kind same =
      let a = in_slab record_size records x is byte p in
      let b = in_slab record_size records y js byte q in
      let equal : record_of x is * record_size ≡ record_of y js * record_size = ap (λ (i : ℕ). i * record_size) same in
      let shared : Apart x.extent y.extent → ⊥ = share x.extent y.extent (record_of x is * record_size) byte a.begin a.end (omega (arith, equal, b.begin)) (omega (arith, equal, b.end)) in
      let one = one_numbered (λ (z : PlacedVar). z.extent) 0 vars x y laid.numbered h k (one_of_kind x y h k kind shared) in
      (one, same_var record_size records x y one is js byte p q same)

  -- of record variables
  one_record : (x y : PlacedVar) (is js : List ℕ) (byte : ℕ) → In vars x → In vars y → Has record_size records x is byte → Has record_size records y js byte
      → x.extent.is_record ≡ true → y.extent.is_record ≡ true → record_of x is ≡ record_of y js
  one_record x y is js byte h k p q kind also =
      let a = in_slab record_size records x is byte p in
      let b = in_slab record_size records y js byte q in
      let no_less : record_of x is < record_of y js → ⊥ = λ less. apart_records record_size (end x.extent) y.extent.begin (record_of x is) (record_of y js) byte less (window x y h k kind also) a.end b.begin in
      let no_more : record_of y js < record_of x is → ⊥ = λ less. apart_records record_size (end y.extent) x.extent.begin (record_of y js) (record_of x is) byte less (window y x k h also kind) b.end a.begin in
      same_number (record_of x is) (record_of y js) (λ differ. no_less (either (record_of x is) (record_of y js) differ no_more))
    where
      either : (m n : ℕ) → (m ≡ n → ⊥) → (n < m → ⊥) → m < n
      either m n differ less = by_order (cases_lt m n)
        where
          by_order : (m < n) ⊎ (n ≤ m) → m < n
          by_order (inl l) = l
          by_order (inr l) = absurd (differ (same_number m n (λ other. less (omega (arith, l, other)))))

  -- a fixed variable and a record variable
  of_two_kinds : (x y : PlacedVar) (is js : List ℕ) (byte : ℕ) → In vars x → In vars y → Has record_size records x is byte → Has record_size records y js byte
      → x.extent.is_record ≡ false → y.extent.is_record ≡ true → ⊥
  of_two_kinds x y is js byte h k p q kind also =
      let a = in_slab record_size records x is byte p in
      let b = in_slab record_size records y js byte q in
      let none : record_of x is * record_size ≡ 0 * record_size = ap (λ (i : ℕ). i * record_size) (a.none kind) in
      omega (arith, none, a.end, b.begin, not_fixed_after_records x y h k kind also)

  one_owner : (x y : PlacedVar) (is js : List ℕ) (byte : ℕ) → In vars x → In vars y → Has record_size records x is byte → Has record_size records y js byte → (x ≡ y) × (is ≡ js)
  one_owner x y is js byte h k p q = by_kinds x.extent.is_record y.extent.is_record refl refl
    where
      a : InSlab record_size records x is byte
      a = in_slab record_size records x is byte p

      b : InSlab record_size records y js byte
      b = in_slab record_size records y js byte q

      by_kinds : (c d : Bool) → x.extent.is_record ≡ c → y.extent.is_record ≡ d → (x ≡ y) × (is ≡ js)
      by_kinds true true e f = in_one_record x y is js byte h k p q (e ∙ sym f) (one_record x y is js byte h k p q e f)
      by_kinds false false e f = in_one_record x y is js byte h k p q (e ∙ sym f) (a.none e ∙ sym (b.none f))
      by_kinds false true e f = absurd (of_two_kinds x y is js byte h k p q e f)
      by_kinds true false e f = absurd (of_two_kinds y x js is byte k h q p f e)

  -- ---- past the header and inside the file

  last_within : (n i : ℕ) (e : Extent) (byte : ℕ) → LastNotTruncated length record_size n e → i < n → byte < end e + i * record_size → byte < length
  last_within zero i e byte rule less high = absurd (omega (arith, less))
  last_within (suc n) i e byte rule less high = omega (arith, rule, high, mul-le i record_size n record_size (omega (arith, less)) (omega arith))

  in_file : (x : PlacedVar) (is : List ℕ) (byte : ℕ) → In vars x → Has record_size records x is byte → (header ≤ byte) × (byte < length)
  in_file x is byte h p = (omega (arith, past, a.begin), by_kind x.extent.is_record refl)
    where
      a : InSlab record_size records x is byte
      a = in_slab record_size records x is byte p

      past : header ≤ x.extent.begin
      past = all_in (NotInHeader header) extents x.extent laid.rules.not_in_header (there x h)

      rule : NotTruncated length record_size records x.extent
      rule = all_in (NotTruncated length record_size records) extents x.extent laid.rules.not_truncated (there x h)

      as_kind : (b : Bool) → x.extent.is_record ≡ b → ByKind b (LastNotTruncated length record_size records x.extent) (end x.extent ≤ length)
      as_kind b e = subst (λ (c : Bool). ByKind c (LastNotTruncated length record_size records x.extent) (end x.extent ≤ length)) e rule

      by_kind : (b : Bool) → x.extent.is_record ≡ b → byte < length
      by_kind true e = last_within records (record_of x is) x.extent byte (as_kind true e) (a.below e) a.end
      by_kind false e = omega (arith, as_kind false e, ap (λ (i : ℕ). i * record_size) (a.none e), a.end)

  -- ---- all elements

  has : (e : Element vars) (byte : ℕ) → Owns record_size e byte → Has record_size records e.var e.index byte
  has e byte owns = record {
    shaped = all_in (HasShape records) vars e.var laid.shaped (in_from_contains vars e.var e.there);
    inside = e.inside;
    low = owns.0;
    high = owns.1;
  }

  pub own : Own header length record_size vars
  own = record {
    inside = λ e byte owns. in_file e.var e.index byte (in_from_contains vars e.var e.there) (has e byte owns);
    apart = λ d e byte first second. one_owner d.var e.var d.index e.index byte (in_from_contains vars d.var d.there) (in_from_contains vars e.var e.there) (has d byte first) (has e byte second);
  }

  pub element_in_file : (x : PlacedVar) (is : List ℕ) → Contains vars x → Inside x.shape is → LiesInFile header length x (place_of record_size x is)
  element_in_file x is h inside = (omega (arith, first.0), omega (arith, last.1, size_of-some x.xtype))
    where
      byte_in_file : (byte : ℕ) → place_of record_size x is ≤ byte → byte < place_of record_size x is + size_of x.xtype → (header ≤ byte) × (byte < length)
      byte_in_file byte low high =
          in_file x is byte (in_from_contains vars x h) (record {
            shaped = all_in (HasShape records) vars x laid.shaped (in_from_contains vars x h);
            inside = inside;
            low = low;
            high = high;
          })

      first : (header ≤ place_of record_size x is) × (place_of record_size x is < length)
      first = byte_in_file (place_of record_size x is) (omega arith) (omega (arith, size_of-some x.xtype))

      last : (header ≤ place_of record_size x is + (size_of x.xtype - 1)) × (place_of record_size x is + (size_of x.xtype - 1) < length)
      last = byte_in_file (place_of record_size x is + (size_of x.xtype - 1)) (omega arith) (omega (arith, size_of-some x.xtype))
