-- Bytes put into a file slab by slab.
use Rattle.std.proofs.Common.{◌≡◌, ℕ, ◌*◌, ◌/◌, ◌<◌, ◌≤◌, Bool, true, false, List, [], ◌∷◌, ◌++◌, length, take, drop, get_or, replicate, Option, Some, None, Result, Ok, Err, refl, sym, ap, subst, ◌∙◌, arith, append_assoc, length-append}
use Rattle.std.specs.Prelude.{ltb}
use Rattle.std.proofs.Math.Seq.{get_or-append_seam}
use Rattle.std.proofs.lemmas.Bool.{ltb-true, ltb-false}
use Rattle.std.proofs.lemmas.List.{append-nil, length-replicate, take-append-drop}
use Rattle.ncc_values.specs.Numbers.{IsBytes}
use Rattle.ncc_values.specs.Values.{count_of, values_of}
use Rattle.ncc_values.specs.XType.{size_of}
use Rattle.ncc_values.specs.declared.xtype.XType.{XType}
use Rattle.ncc_values.proofs.ValuesLemmas.{bytes_of-values_of, count_of-values_of, type_of-values_of}
use Rattle.ncc_schema.specs.declared.schema.Schema.{Schema}
use Rattle.ncc_schema.specs.declared.schema.Var.{Var}
use Rattle.ncc_build.specs.Dataset.{slabs_of}
use Rattle.ncc_build.specs.declared.fault.WriteFault.{WriteFault}
use Rattle.ncc_build.specs.declared.fault.WriteFault.TheVariants as write
use Rattle.ncc_write.specs.declared.trip_fault.TripFault.{TripFault}
use Rattle.ncc_write.specs.declared.trip_fault.TripFault.TheVariants as fault
use Rattle.ncc_write.specs.declared.writer.FileWriter.{FileWriter}
use Rattle.ncc_write.specs.Laws.{CompleteWhenTaken, TakingGrows}
use Rattle.ncc_write.specs.Positions.{IsAt}
use Rattle.ncc_write.specs.Trips.{PutsAll, PutsSlab, WritesAs, of_write}
use Rattle.ncc_write.specs.Writer.{Stands, schema_in}
use Rattle.ncc_write.specs.Writing.{IsAnswer, IsExactly, Next, WriterState, StartFails, Went, data_length, expected, next_of, refuses_finish, refuses_put, starting, told, with_more, with_taken, with_values}
use Rattle.ncc_write.proofs.Ends.{all_taken}
use Rattle.ncc_write.proofs.Growing.{by_size}
use Rattle.ncc_write.proofs.NextSlabs.{IsNext, is_next}
use Rattle.ncc_write.proofs.Paddings.{some_is}
use Rattle.ncc_write.proofs.Positions.{next_open}
use Rattle.ncc_write.proofs.Refusing.{expected_by, finish_by, taken}

-- ---- sizes

abbrev InlineList : ℕ → Type 0
InlineList w = (n left : ℕ) → n / w < left → n < left * w

pub too_few : (t : XType) → InlineList (size_of t)
too_few t = by_size InlineList (λ n left h. omega (arith, h)) (λ n left h. omega (arith, h)) (λ n left h. omega (arith, h))
    (λ n left h. omega (arith, h)) t

abbrev Enough : ℕ → Type 0
Enough w = (n left : ℕ) → left ≤ n / w → left * w ≤ n

pub enough : (t : XType) → Enough (size_of t)
enough t = by_size Enough (λ n left h. omega (arith, h)) (λ n left h. omega (arith, h)) (λ n left h. omega (arith, h))
    (λ n left h. omega (arith, h)) t

abbrev HasSome : ℕ → Type 0
HasSome w = (left : ℕ) → 0 < left → 0 < left * w

has_some : (t : XType) → HasSome (size_of t)
has_some t = by_size HasSome (λ left h. omega (arith, h)) (λ left h. omega (arith, h)) (λ left h. omega (arith, h))
    (λ left h. omega (arith, h)) t

-- ---- what comes next

-- the slab that is awaited
pub record Comes (w : WriterState) (var left : ℕ) : Type 0 where
  pub n : Next
  pub next_is : next_of w.schema w.taken ≡ Some n
  pub left_is : left ≡ n.left
  pub some : 0 < left
  pub there : var < length w.schema.vars
  pub var_is : (x : Var) → get_or w.schema.vars var x ≡ n.slab.var

abbrev number_or : Option (ℕ × ℕ × ℕ) → ℕ
number_or None = 0
number_or (Some x) = x.0

abbrev left_or : Option (ℕ × ℕ × ℕ) → ℕ
left_or None = 0
left_or (Some x) = x.2

module _ {W : Type 0} (start put : Option (List ℕ)) (x : FileWriter W) (w : WriterState) (at : Stands start put x w)
    (goes : w.failed ≡ false) where
  module _ (var number left : ℕ) (next : Some (var, number, left) ≡ expected w) where
    by : (o : Option Next) → next_of w.schema w.taken ≡ o → Comes w var left
    by None none = absurd (cc (next ∙ expected_by w None goes none))
    by (Some n) is =
        let told_is : Some (var, number, left) ≡ told (Some n) = next ∙ expected_by w (Some n) goes is in
        let var_is : var ≡ n.slab.number = ap number_or told_is in
        let left_is : left ≡ n.left = ap left_or told_is in
        let comes : IsNext w.schema n = is_next w.schema w.taken n is (at.whole goes) in
        let front = comes.among.front in
        let at_front : var ≡ length front = var_is ∙ comes.among.number_is in
        let vars = comes.among.joined in
        record {
          n = n;
          next_is = is;
          left_is = left_is;
          some = omega (arith, left_is, comes.some);
          there = omega (
            arith,
            at_front,
            ap (λ (l : List Var). length l) vars,
            length-append front (n.slab.var ∷ comes.among.after),
          );
          var_is = λ y. ap (λ (l : List Var). get_or l var y) vars
              ∙ ap (λ (m : ℕ). get_or (front ++ n.slab.var ∷ comes.among.after) m y) at_front
              ∙ get_or-append_seam front n.slab.var comes.among.after y;
        }

    pub comes_next : Comes w var left
    comes_next = by (next_of w.schema w.taken) refl

    -- the variable is there
    pub var_there : (vars : List Var) → vars ≡ (schema_in x).vars → var < length vars
    var_there vars is =
        subst (λ (l : List Var). var < length l) (sym (is ∙ ap (λ (u : Schema). u.vars) at.schema)) comes_next.there

  -- ---- one slab

  module _ (var left : ℕ) (c : Comes w var left) (t : XType) (typed : t ≡ c.n.slab.var.xtype) where
    pub none_left : TakingGrows → (bytes : List ℕ) → length bytes / size_of t < left
        → length (w.taken ++ bytes) < data_length w.schema
    none_left law bytes few =
        let m : ℕ = left * size_of c.n.slab.var.xtype in
        let zeros : List ℕ = replicate m 0 in
        let long : length zeros ≡ left * size_of c.n.slab.var.xtype = length-replicate {A = ℕ} m 0 in
        let few_left : left ≤ c.n.left = omega (arith, c.left_is) in
        let within = (law w.schema w.taken zeros left c.n (at.whole goes) c.next_is long few_left).within in
        let less : length bytes < left * size_of t = too_few t (length bytes) left few in
        omega (
          arith,
          within,
          less,
          long,
          ap (λ (u : XType). left * size_of u) typed,
          length-append w.taken zeros,
          length-append w.taken bytes,
        )

    pub some_put : 0 < left * size_of t
    some_put = has_some t left c.some

    -- a piece of so many elements isn't refused, so that an error is the sink's
    pub only_device : (piece : List ℕ) → length piece ≡ left * size_of t → (e : WriteFault)
        → IsAnswer {T = Unit {0}} (λ (f : WriteFault). f) (refuses_put w (values_of t piece)) (Err e)
        → e ≡ write.Device
    only_device piece long e answer =
        let v = values_of t piece in
        let count : count_of v ≡ left = count_of-values_of t left piece long in
        subst (λ (o : Option WriteFault). IsAnswer {T = Unit {0}} (λ (f : WriteFault). f) o (Err e))
        (taken w v goes c.n c.next_is (type_of-values_of t piece ∙ typed) (omega (arith, count, c.left_is))) answer

-- where the piece was taken
pub stands_there : {W : Type 0} (start put : Option (List ℕ)) (x : FileWriter W) (w new : WriterState) (t : XType) (k : ℕ)
    (piece : List ℕ) → IsBytes piece → length piece ≡ k * size_of t → Stands start put x new
    → new ≡ with_values w (values_of t piece) → Stands start put x (with_more w piece)
stands_there start put x w new t k piece are long at is =
    subst (Stands start put x)
    (is ∙ ap (with_more w) (bytes_of-values_of t k piece are long)) at

-- a sink's failure is want of memory
pub failed_so : {W : Type 0} (start put : Option (List ℕ)) (x : FileWriter W) (w : WriterState) (bytes : List ℕ)
    (e : WriteFault) → e ≡ write.Device → PutsSlab start put x w bytes (Err (of_write e))
failed_so start put x w bytes e is = subst (λ (f : WriteFault). PutsSlab start put x w bytes (Err (of_write f))) (sym is) tt

-- ---- slab after slab

-- a front of the bytes was taken, and this is the rest
pub record PutSoFar {W : Type 0} (start put : Option (List ℕ)) (x : FileWriter W) (w : WriterState) (bytes rest : List ℕ)
    : Type 0 where
  pub front : List ℕ
  pub joined : bytes ≡ front ++ rest
  pub stands : Stands start put x (with_more w front)

pub at_first : {W : Type 0} (start put : Option (List ℕ)) (x : FileWriter W) (w : WriterState) (bytes : List ℕ)
    → Stands start put x w → PutSoFar start put x w bytes bytes
at_first start put x w bytes at = record {
  front = [];
  joined = refl;
  stands = subst (λ (l : List ℕ). Stands start put x (with_taken w l)) (sym (append-nil w.taken)) at;
}

pub goes_on : {W : Type 0} (start put new : Option (List ℕ)) (x y : FileWriter W) (w : WriterState)
    (bytes rest : List ℕ) (n : ℕ) (s : PutSoFar start put x w bytes rest)
    → PutsSlab start new y (with_more w s.front) rest (Ok n) → PutSoFar start new y w bytes (drop n rest)
goes_on start put new x y w bytes rest n s puts = record {
  front = s.front ++ take n rest;
  joined = s.joined ∙ ap (λ (l : List ℕ). s.front ++ l) (sym (take-append-drop n rest))
      ∙ sym (append_assoc s.front (take n rest) (drop n rest));
  stands = subst (λ (l : List ℕ). Stands start new y (with_taken w l)) (append_assoc w.taken s.front (take n rest))
      puts.2;
}

pub stops : {W : Type 0} (start put new : Option (List ℕ)) (x y : FileWriter W) (w : WriterState) (bytes rest : List ℕ)
    (s : PutSoFar start put x w bytes rest) (e : TripFault)
    → PutsSlab start new y (with_more w s.front) rest (Err e) → PutsAll start new y w bytes (Err e)
stops start put new x y w bytes rest s fault.HeaderTooLong puts = absurd puts
stops start put new x y w bytes rest s fault.WrongLength puts =
    λ all. omega (
      arith,
      puts,
      all,
      ap (λ (l : List ℕ). length (w.taken ++ l)) s.joined,
      ap (λ (l : List ℕ). length l) (append_assoc w.taken s.front rest),
    )
stops start put new x y w bytes rest s fault.Differs puts = absurd puts
stops start put new x y w bytes rest s fault.Memory puts = tt

-- ---- all slabs

module _ {W : Type 0} (start put : Option (List ℕ)) (x : FileWriter W) (w : WriterState) (bytes rest : List ℕ)
    (s : PutSoFar start put x w bytes rest) (goes : w.failed ≡ false)
    (none : (v : WriterState) → Stands start put x v → None ≡ expected v) where
  by_next : (o : Option Next) → next_of w.schema (w.taken ++ s.front) ≡ o → None ≡ told o
      → next_of w.schema (w.taken ++ s.front) ≡ None
  by_next None is told_none = is
  by_next (Some n) is told_none = absurd (cc told_none)

  none_next : next_of w.schema (w.taken ++ s.front) ≡ None
  none_next =
      by_next (next_of w.schema (w.taken ++ s.front)) refl
      (none (with_more w s.front) s.stands
      ∙ expected_by (with_more w s.front) (next_of w.schema (w.taken ++ s.front)) goes refl)

  pub too_many : CompleteWhenTaken → 0 < length rest → PutsAll start put x w bytes (Err fault.WrongLength)
  too_many law more =
      λ all. omega (
        arith,
        all,
        more,
        (law w.schema (w.taken ++ s.front)).0 none_next,
        ap (λ (l : List ℕ). length (w.taken ++ l)) s.joined,
        ap (λ (l : List ℕ). length l) (sym (append_assoc w.taken s.front rest)),
        length-append (w.taken ++ s.front) rest,
      )

  pub all_put : rest ≡ [] → PutsAll start put x w bytes (Ok tt)
  all_put no_rest =
      let all : s.front ≡ bytes = sym (append-nil s.front) ∙ ap (λ (l : List ℕ). s.front ++ l) (sym no_rest) ∙ sym s.joined in (
        subst (λ (l : List ℕ). Stands start put x (with_more w l)) all s.stands,
        ap (λ (l : List ℕ). next_of w.schema (w.taken ++ l)) (sym all) ∙ none_next,
      )

-- ---- the end

-- where no value comes next all are taken
pub as_many : (s : Schema) (bytes : List ℕ) (k left : ℕ) → IsAt s (length bytes) k left → next_of s bytes ≡ None
    → length bytes ≡ data_length s
as_many s bytes k left at none = by (ltb k (length (slabs_of s))) refl
  where
    by : (t : Bool) → ltb k (length (slabs_of s)) ≡ t → length bytes ≡ data_length s
    by true is = absurd (cc (sym none ∙ next_open s bytes k left at (ltb-true k (length (slabs_of s)) is)))
    by false is =
        let e : k ≡ length (slabs_of s) = omega (arith, at.within, ltb-false k (length (slabs_of s)) is) in
        all_taken s bytes k left at e

-- a writer that expects nothing isn't refused
pub not_refused : (T : Type 0) {E : Type 0} (w : WriterState) (why : E → WriteFault) (e : E) → w.failed ≡ false
    → next_of w.schema w.taken ≡ None → IsExactly {T = T} why (refuses_finish w) (Err e) → ⊥
not_refused T w why e goes none answer =
    subst (λ (o : Option WriteFault). IsExactly {T = T} why o (Err e)) (finish_by w None goes none) answer

-- a start fails for want of memory alone, where the sink is in memory
pub start_fails : (old new : Option (List ℕ)) (m n : ℕ) (header : List ℕ) (e : WriteFault)
    → StartFails old new m n header e → of_write e ≡ fault.Memory
start_fails old new m n header write.Memory fails = refl
start_fails old new m n header write.Device fails = refl
start_fails old new m n header write.BadName fails = absurd fails
start_fails old new m n header write.DuplicateName fails = absurd fails
start_fails old new m n header write.TwoRecordDims fails = absurd fails
start_fails old new m n header write.BadDimId fails = absurd fails
start_fails old new m n header write.RecordDimNotFirst fails = absurd fails
start_fails old new m n header write.TypeForVersion fails = absurd fails
start_fails old new m n header write.CountForVersion fails = absurd fails
start_fails old new m n header write.OffsetForVersion fails = absurd fails
start_fails old new m n header write.SizeForVersion fails = absurd fails
start_fails old new m n header write.WrongType fails = absurd fails
start_fails old new m n header write.TooManyValues fails = absurd fails
start_fails old new m n header write.Unfinished fails = absurd fails
start_fails old new m n header write.Failed fails = absurd fails
start_fails old new m n header write.Complete fails = absurd fails

-- why not all was put is why nothing is written
pub not_put : {W T : Type 0} (items : T → List ℕ) (start put : Option (List ℕ)) (x : FileWriter W) (s : Schema)
    (bytes : List ℕ) (e : TripFault) (r : Result T TripFault) → r ≡ Err e
    → PutsAll start put x (starting s) bytes (Err e) → WritesAs items s bytes r
not_put items start put x s bytes e r is puts = subst (WritesAs items s bytes) (sym is) (by e puts)
  where
    by : (f : TripFault) → PutsAll start put x (starting s) bytes (Err f) → WritesAs items s bytes (Err f)
    by fault.HeaderTooLong no_put = absurd no_put
    by fault.WrongLength no_put = no_put
    by fault.Differs no_put = absurd no_put
    by fault.Memory no_put = tt

-- a sink that was empty has what went out
pub went_all : (old new : List ℕ) (P : List ℕ → Type 0) → old ≡ [] → Went (Some old) (Some new) P → P new
went_all old new P none (out, puts, p) =
    subst P (ap (λ (l : List ℕ). l ++ out) (sym none) ∙ sym (some_is new (old ++ out) puts)) p
