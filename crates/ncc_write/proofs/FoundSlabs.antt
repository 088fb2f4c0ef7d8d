-- The slabs that bytes have at the places of variables.
use Rattle.std.proofs.Common.{◌≡◌, ℕ, zero, suc, ◌+◌, ◌*◌, ◌<◌, ◌≤◌, Bool, true, false, cond, not, List, [], ◌∷◌, ◌++◌, length, take, drop, get_or, refl, sym, ap, ◌∙◌, arith, length-drop}
use Rattle.std.specs.Prelude.{filter}
use Rattle.std.specs.List.{AllByRecursion}
use Rattle.std.proofs.lemmas.Bool.{cond-true}
use Rattle.std.proofs.lemmas.List.{length-take-le, take-append-drop}
use Rattle.std.proofs.lemmas.Nat.{mul-le}
use Rattle.ncc_values.specs.Numbers.{IsBytes}
use Rattle.ncc_values.specs.Values.{bytes_of, values_of}
use Rattle.ncc_values.specs.declared.values.Values.{Values}
use Rattle.ncc_values.proofs.ValuesLemmas.{bytes_of-values_of}
use Rattle.ncc_schema.specs.declared.schema.Dim.{Dim}
use Rattle.ncc_schema.specs.declared.schema.Schema.{Schema}
use Rattle.ncc_schema.specs.declared.schema.Var.{Var}
use Rattle.ncc_schema.specs.Schema.{Place, is_record_var}
use Rattle.ncc_layout.specs.declared.extent.Extent.{Extent}
use Rattle.ncc_layout.specs.Extents.{end, extent_of, extents_from}
use Rattle.ncc_layout.specs.Rules.ByKind.{ByKind}
use Rattle.ncc_layout.specs.Rules.Truncated.{LastNotTruncated, NotTruncated}
use Rattle.ncc_layout.specs.Sizes.{slab}
use Rattle.ncc_build.specs.Dataset.{AreSlabsOf, IsSlabOf, elements}
use Rattle.ncc_write.specs.Holds.{bytes_at, no_slab}
use Rattle.ncc_write.proofs.SlabPlaces.{Placed}
use Rattle.ncc_write.proofs.Taking.{bytes_behind, bytes_first, slab_taken}

-- ---- one

abbrev pub slab_at : List Dim → (bytes : List ℕ) → Var → (at : ℕ) → Values
slab_at dims bytes x at = values_of x.xtype (bytes_at bytes at (slab dims x))

pub slab_stands : (s : Schema) (bytes : List ℕ) (x : Var) (at : ℕ) → IsBytes bytes
    → at + slab s.dims x ≤ length bytes → Placed s bytes x (slab_at s.dims bytes x at) at
slab_stands s bytes x at are room =
    let size = slab s.dims x in
    let piece = bytes_at bytes at size in
    let long : length piece ≡ size = length-take-le size (drop at bytes) (omega (arith, room, length-drop at bytes)) in
    let part : IsBytes piece = bytes_first size (drop at bytes) (bytes_behind at bytes are) in
    let same : bytes_of (values_of x.xtype piece) ≡ piece =
    bytes_of-values_of x.xtype (elements s.dims x) piece part long in
    record {
      stands = record {
        front = take at bytes;
        rest = drop size (drop at bytes);
        joined = sym (take-append-drop at bytes) ∙ ap (λ (l : List ℕ). take at bytes ++ l)
            (sym (take-append-drop size (drop at bytes))
            ∙ ap (λ (l : List ℕ). l ++ drop size (drop at bytes)) (sym same));
        long = length-take-le at bytes (omega (arith, room));
      };
      slab_is = slab_taken s.dims x piece part long;
    }

-- ---- those of one kind

-- each so many bytes after its variable's begin
abbrev pub slabs_at : (kind : Var → Bool) → List Dim → (bytes : List ℕ) → (further : ℕ) → List Var → List Place
    → List Values
slabs_at kind dims bytes further (x ∷ vars) (p ∷ places) =
    cond (kind x) (slab_at dims bytes x (p.begin + further) ∷ slabs_at kind dims bytes further vars places)
    (slabs_at kind dims bytes further vars places)
slabs_at kind dims bytes further _ _ = []

-- each ends in bytes of this length
abbrev pub HaveRoom : (kind : Var → Bool) → List Dim → (long further : ℕ) → List Var → List Place → Type 0
HaveRoom kind dims long further (x ∷ vars) (p ∷ places) =
    (kind x ≡ true → p.begin + further + slab dims x ≤ long) × HaveRoom kind dims long further vars places
HaveRoom kind dims long further _ _ = Unit {0}

kept : (dims : List Dim) (x : Var) (v : Values) (vars : List Var) (values : List Values) (t : Bool)
    → (t ≡ true → IsSlabOf dims x v) → AreSlabsOf dims vars values
    → AreSlabsOf dims (cond t (x ∷ vars) vars) (cond t (v ∷ values) values)
kept dims x v vars values true here rest = (here refl, rest)
kept dims x v vars values false here rest = rest

pub are_slabs : (s : Schema) (kind : Var → Bool) (bytes : List ℕ) (further : ℕ) (vars : List Var)
    (places : List Place) → IsBytes bytes → length places ≡ length vars
    → HaveRoom kind s.dims (length bytes) further vars places
    → AreSlabsOf s.dims (filter kind vars) (slabs_at kind s.dims bytes further vars places)
are_slabs s kind bytes further [] places are many room = tt
are_slabs s kind bytes further (x ∷ vars) [] are many room = absurd (omega (arith, many))
are_slabs s kind bytes further (x ∷ vars) (p ∷ places) are many room =
    kept s.dims x (slab_at s.dims bytes x (p.begin + further)) (filter kind vars)
    (slabs_at kind s.dims bytes further vars places) (kind x)
    (λ is. (slab_stands s bytes x (p.begin + further) are (room.0 is)).slab_is)
    (are_slabs s kind bytes further vars places are (omega (arith, many)) room.1)

-- ---- the one of this variable

passed : (t : Bool) (v : Values) (y : Var) (vars : List Var) (values : List Values)
    → get_or (cond t (v ∷ values) values) (length (cond t (y ∷ vars) vars)) no_slab
    ≡ get_or values (length vars) no_slab
passed true v y vars values = refl
passed false v y vars values = refl

pub slab_found : (kind : Var → Bool) (dims : List Dim) (bytes : List ℕ) (further : ℕ) (front : List Var) (x : Var)
    (after : List Var) (qs : List Place) (q : Place) (later : List Place) → length front ≡ length qs → kind x ≡ true
    → get_or (slabs_at kind dims bytes further (front ++ x ∷ after) (qs ++ q ∷ later)) (length (filter kind front))
    no_slab ≡ slab_at dims bytes x (q.begin + further)
slab_found kind dims bytes further [] x after [] q later long is =
    let rest = slabs_at kind dims bytes further after later in
    ap (λ (l : List Values). get_or l 0 no_slab) (cond-true (kind x) (slab_at dims bytes x _ ∷ rest) rest is)
slab_found kind dims bytes further [] x after (p ∷ qs) q later long is = absurd (omega (arith, long))
slab_found kind dims bytes further (y ∷ front) x after [] q later long is = absurd (omega (arith, long))
slab_found kind dims bytes further (y ∷ front) x after (p ∷ qs) q later long is =
    passed (kind y) (slab_at dims bytes y (p.begin + further)) y (filter kind front)
    (slabs_at kind dims bytes further (front ++ x ∷ after) (qs ++ q ∷ later))
    ∙ slab_found kind dims bytes further front x after qs q later (omega (arith, long)) is

pub room_found : (kind : Var → Bool) (dims : List Dim) (size further : ℕ) (front : List Var) (x : Var)
    (after : List Var) (qs : List Place) (q : Place) (later : List Place) → length front ≡ length qs → kind x ≡ true
    → HaveRoom kind dims size further (front ++ x ∷ after) (qs ++ q ∷ later) → q.begin + further + slab dims x ≤ size
room_found kind dims size further [] x after [] q later long is room = room.0 is
room_found kind dims size further [] x after (p ∷ qs) q later long is room = absurd (omega (arith, long))
room_found kind dims size further (y ∷ front) x after [] q later long is room = absurd (omega (arith, long))
room_found kind dims size further (y ∷ front) x after (p ∷ qs) q later long is room =
    room_found kind dims size further front x after qs q later (omega (arith, long)) is room.1

-- ---- where the rules hold

fixed_ends : (t : Bool) (A : Type 0) (begin size long : ℕ) → not t ≡ true → ByKind t A (begin + size ≤ long)
    → begin + 0 + size ≤ long
fixed_ends true A begin size long is ends = absurd cc
fixed_ends false A begin size long is ends = omega (arith, ends)

pub fixed_room : (dims : List Dim) (long size records n : ℕ) (vars : List Var) (places : List Place)
    → AllByRecursion (NotTruncated long size records) (extents_from dims n vars places)
    → HaveRoom (λ x. not (is_record_var dims x)) dims long 0 vars places
fixed_room dims long size records n [] places all = tt
fixed_room dims long size records n (x ∷ vars) [] all = tt
fixed_room dims long size records n (x ∷ vars) (p ∷ places) all = (
  λ is. fixed_ends (is_record_var dims x) (LastNotTruncated long size records (extent_of dims n x p)) p.begin
      (slab dims x) long is all.0,
  fixed_room dims long size records (suc n) vars places all.1,
)

record_ends : (t : Bool) (A : Type 0) (e : Extent) (long size records r : ℕ) → r < records → t ≡ true
    → ByKind t (LastNotTruncated long size records e) A → e.begin + r * size + e.slab ≤ long
record_ends true A e long size zero r below is ends = absurd (omega (arith, below))
record_ends true A e long size (suc n) r below is ends =
    omega (arith, ends, mul-le r size n size (omega (arith, below)) (omega arith))
record_ends false A e long size records r below is ends = absurd cc

pub record_room : (dims : List Dim) (long size records n r : ℕ) (vars : List Var) (places : List Place) → r < records
    → AllByRecursion (NotTruncated long size records) (extents_from dims n vars places)
    → HaveRoom (is_record_var dims) dims long (r * size) vars places
record_room dims long size records n r [] places below all = tt
record_room dims long size records n r (x ∷ vars) [] below all = tt
record_room dims long size records n r (x ∷ vars) (p ∷ places) below all = (
  λ is. record_ends (is_record_var dims x) (end (extent_of dims n x p) ≤ long) (extent_of dims n x p) long size
      records r below is all.0,
  record_room dims long size records (suc n) r vars places below all.1,
)
