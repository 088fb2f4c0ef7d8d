-- Items that stand whole at the front of a piece, one after another.
use Rattle.std.proofs.Common.{◌≡◌, ◌⊎◌, ℕ, suc, ◌+◌, ◌-◌, ◌<◌, ◌*◌, ◌≤◌, Bool, true, List, [], ◌∷◌, ◌++◌, length, take, Option, Some, None, Ok, Err, inl, inr, refl, sym, ap, subst, ◌∙◌, append_assoc, append-nil, arith, not, false, ◌&&◌, true≢false}
use Rattle.std.proofs.lemmas.List.{length-append, length-take-le, take_at}
use Rattle.std.specs.Prelude.{Result, IfErr, unwrap_or, if◌then◌else◌, ◌==◌}
use Rattle.ncc_values.specs.Numbers.{number_of}
use Rattle.ncc_values.specs.Padding.{padding_of}
use Rattle.ncc_values.specs.Values.{values_of}
use Rattle.ncc_values.specs.Version.{count_width_of, offset_width_of}
use Rattle.ncc_values.specs.XType.{size_of as bytes_each, type_of_code}
use Rattle.ncc_values.specs.declared.version.Version.{Version}
use Rattle.ncc_values.specs.declared.xtype.XType.{XType}
use Rattle.ncc_values.specs.declared.xtype.XType.TheVariants.{Byte}
use Rattle.ncc_schema.specs.declared.schema.Attr.{Attr}
use Rattle.ncc_schema.specs.declared.schema.Dim.{Dim}
use Rattle.ncc_schema.specs.declared.schema.Var.{Var}
use Rattle.ncc_schema.specs.Schema.{Place}
use Rattle.ncc_schema.specs.Header.{nc_attribute}
use Rattle.ncc_schema.specs.declared.schema.Mark.{Mark}
use Rattle.ncc_schema.specs.declared.schema.Mark.TheVariants as of
use Rattle.ncc_header.specs.declared.partial.Named.TheVariants as named
use Rattle.ncc_header.specs.declared.partial.Next.{Next}
use Rattle.ncc_header.specs.declared.partial.Next.TheVariants as nexts
use Rattle.ncc_header.specs.declared.partial.Owner.{Owner}
use Rattle.ncc_header.specs.declared.fault.Wrong.{Wrong}
use Rattle.ncc_header.specs.declared.reading.Reading.{Reading}
use Rattle.std.proofs.lemmas.Bool.{false_from_ne_true}
use Rattle.ncc_header.specs.declared.partial.Parts.{Parts}
use Rattle.ncc_header.specs.declared.partial.Vars.{Vars}
use Rattle.ncc_header.proofs.CanonicalMarks.{zero_number}
use Rattle.ncc_header.specs.Fields.{attr, attrs, name, nc_type, nelems, bytes, padding, number, dimid, dimids, vsize, begin, var, list_head, list_tag, list_nelems, nelems_wrong, nc_type_wrong, dimid_wrong, begin_wrong, tag_wrong, list_nelems_wrong, number_field, dim, dim_length, label_of_count}
use Rattle.ncc_header.specs.Grammar.{Label, Plain, Padding, Begin, Grammar, done, field, ◌>>=◌, repeat, CountOfTagged}
use Rattle.ncc_header.specs.Left.{Given, left_of, come_of, from_attrs, with_attrs, from_vars, before_of, from_rank, ended, from_type, after_dim, from_length, with_dims, in_var}
use Rattle.ncc_header.specs.Marks.{all_zero, mark_of}
use Rattle.ncc_header.specs.AtFront.{StartsWith, StartsWithBegin, AtFront, AtFrontWithBegin, NeedsMemory, padded, var_head, placed}
use Rattle.ncc_header.specs.Reading.{course, next_of, held_of, begun_of, onward, Went}
use Rattle.ncc_header.specs.Steps.{with_begin}
use mathlib.Core.Path.{fun_ext}
use Rattle.ncc_header.proofs.Exact.{join_assoc}
use Rattle.ncc_header.proofs.TakeField.{course_goes_on}

-- ---- one item behind another

pub nothing_at_front : {A : Type 0} (item : A) (piece : List ℕ) → AtFront (done item) item piece piece
nothing_at_front item piece = record {
  front = [];
  joined = refl;
  goes_on = λ next limit at shown begun more within. ap (λ (n : ℕ). course (next item) limit n shown begun more) (omega arith);
}

pub both_at_front : {A B : Type 0} (g : Grammar A) (h : A → Grammar B) (a : A) (b : B) (piece mid after : List ℕ) → AtFront g a piece mid → AtFront (h a) b mid after → AtFront (g >>= h) b piece after
both_at_front {A = A} {B = B} g h a b piece mid after p q = record {
  front = p.front ++ q.front;
  joined = p.joined ∙ ap (λ (x : List ℕ). p.front ++ x) q.joined ∙ sym (append_assoc p.front q.front after);
  goes_on = λ next limit at shown begun more within.
      let both : length (p.front ++ q.front) ≡ length p.front + length q.front = length-append p.front q.front in
      ap (λ (x : Grammar Given). course x limit at shown begun ((p.front ++ q.front) ++ more)) (join_assoc g h next)
      ∙ ap (course (g >>= λ x. h x >>= next) limit at shown begun) (append_assoc p.front q.front more)
      ∙ p.goes_on (λ x. h x >>= next) limit at shown begun (q.front ++ more) (omega (arith, both, within))
      ∙ q.goes_on next limit (at + length p.front) shown begun more (omega (arith, both, within))
      ∙ ap (λ (n : ℕ). course (next b) limit n shown begun more) (omega (arith, both));
}

-- ---- one field

-- it shows no mark, and is no begin field
record IsPlain (label : Label) (front : List ℕ) : Type 0 where
  pub unmarked : (at : ℕ) → mark_of label at front ≡ []
  pub unbegun : (at : ℕ) (ats : List ℕ) → with_begin label at ats ≡ ats

field_at_front : {A : Type 0} (label : Label) (size : ℕ) (wrong : List ℕ → Option Wrong) (value : List ℕ → A) (piece front after : List ℕ) → StartsWith piece front size after → wrong front ≡ None → IsPlain label front
    → AtFront (field label size wrong (λ b. done (value b))) (value front) piece after
field_at_front label size wrong value piece front after starts right plain = record {
  front = front;
  joined = starts.0;
  goes_on = λ next limit at shown begun more within.
      course_goes_on (field label size wrong (λ b. next (value b))) (next (value front)) limit at (length front) shown begun [] front more (ap Some (sym starts.1)) within refl (right, refl)
      ∙ ap (λ (marks : List Mark). course (next (value front)) limit (at + length front) (shown ++ marks) (with_begin label at begun) more) (plain.unmarked at)
      ∙ ap (λ (marks : List Mark). course (next (value front)) limit (at + length front) marks (with_begin label at begun) more) (append-nil shown)
      ∙ ap (λ (ats : List ℕ). course (next (value front)) limit (at + length front) shown ats more) (plain.unbegun at begun);
}

plainly : (front : List ℕ) → IsPlain Plain front
plainly front = record { unmarked = λ at. refl; unbegun = λ at ats. refl }

zero_padding : (front : List ℕ) → all_zero front ≡ true → IsPlain Padding front
zero_padding front zeros = record {
  unmarked = λ at. ap (λ (z : Bool). if z then [] else of.Padding at ∷ []) zeros;
  unbegun = λ at ats. refl;
}

-- ---- the fields of an attribute

pub nelems_at_front : (v : Version) (n : ℕ) (piece front after : List ℕ) → StartsWith piece front (count_width_of v) after → n ≡ number_of front → nelems_wrong v n ≡ None → AtFront (nelems v) n piece after
nelems_at_front v n piece front after starts is right =
    subst (λ (m : ℕ). AtFront (nelems v) m piece after) (sym is)
    (field_at_front Plain (count_width_of v) (λ b. nelems_wrong v (number_of b)) number_of piece front after starts (subst (λ (m : ℕ). nelems_wrong v m ≡ None) is right) (plainly front))

pub nc_type_at_front : (v : Version) (t : XType) (code : ℕ) (piece front after : List ℕ) → StartsWith piece front 4 after → code ≡ number_of front → nc_type_wrong v code ≡ None → type_of_code v code ≡ Some t → AtFront (nc_type v) t piece after
nc_type_at_front v t code piece front after starts is right coded =
    subst (λ (x : XType). AtFront (nc_type v) x piece after) (ap (λ (n : ℕ). unwrap_or (type_of_code v n) Byte) (sym is) ∙ ap (λ (o : Option XType). unwrap_or o Byte) coded)
    (field_at_front Plain 4 (λ b. nc_type_wrong v (number_of b)) (λ b. unwrap_or (type_of_code v (number_of b)) Byte) piece front after starts (subst (λ (m : ℕ). nc_type_wrong v m ≡ None) is right) (plainly front))

pub padded_at_front : (n : ℕ) (piece text rest zeros after : List ℕ) → StartsWith piece text n rest → StartsWith rest zeros (padding_of n) after → all_zero zeros ≡ true → AtFront (padded n) text piece after
padded_at_front n piece text rest zeros after first second zero =
    both_at_front (bytes n) (λ b. padding n >>= λ z. done b) text text piece rest after
    (field_at_front Plain n (λ b. None) (λ b. b) piece text rest first refl (plainly text))
    (both_at_front (padding n) (λ z. done text) tt text rest after after
    (field_at_front Padding (padding_of n) (λ b. None) (λ b. tt) rest zeros after second refl (zero_padding zeros zero))
    (nothing_at_front text after))

pub name_at_front : (v : Version) (n : ℕ) (piece text rest after : List ℕ) → AtFront (nelems v) n piece rest → AtFront (padded n) text rest after → AtFront (name v) text piece after
name_at_front v n piece text rest after p q = both_at_front (nelems v) padded n text piece rest after p q

pub attr_at_front : (v : Version) (text : List ℕ) (t : XType) (k : ℕ) (values piece a b c after : List ℕ) → AtFront (name v) text piece a → AtFront (nc_type v) t a b → AtFront (nelems v) k b c → AtFront (padded (k * bytes_each t)) values c after
    → AtFront (attr v) (record { name = text; values = values_of t values }) piece after
attr_at_front v text t k values piece a b c after p q r s =
    let x : Attr = record { name = text; values = values_of t values } in
    both_at_front (name v) (λ text'. nc_type v >>= λ t'. nelems v >>= λ k'. padded (k' * bytes_each t') >>= λ vs. done (record { name = text'; values = values_of t' vs })) text x piece a after p
    (both_at_front (nc_type v) (λ t'. nelems v >>= λ k'. padded (k' * bytes_each t') >>= λ vs. done (record { name = text; values = values_of t' vs })) t x a b after q
    (both_at_front (nelems v) (λ k'. padded (k' * bytes_each t) >>= λ vs. done (record { name = text; values = values_of t vs })) k x b c after r
    (both_at_front (padded (k * bytes_each t)) (λ vs. done (record { name = text; values = values_of t vs })) values x c after after s (nothing_at_front x after))))

-- ---- the fields of a variable

labelled_at_front : (label : Label) (w : ℕ) (wrong : ℕ → Option Wrong) (n : ℕ) (piece front after : List ℕ) → StartsWith piece front w after → n ≡ number_of front → wrong n ≡ None → IsPlain label front → AtFront (number_field label w wrong) n piece after
labelled_at_front label w wrong n piece front after starts is right plain =
    subst (λ (m : ℕ). AtFront (number_field label w wrong) m piece after) (sym is)
    (field_at_front label w (λ b. wrong (number_of b)) number_of piece front after starts (subst (λ (m : ℕ). wrong m ≡ None) is right) plain)

pub number_at_front : (w : ℕ) (wrong : ℕ → Option Wrong) (n : ℕ) (piece front after : List ℕ) → StartsWith piece front w after → n ≡ number_of front → wrong n ≡ None → AtFront (number w wrong) n piece after
number_at_front w wrong n piece front after starts is right = labelled_at_front Plain w wrong n piece front after starts is right (plainly front)

-- one dimension's number more
pub dimid_at_front : (v : Version) (dims : List Dim) (ids final : List ℕ) (n rank i : ℕ) (piece front mid after : List ℕ) → i < rank → StartsWith piece front (count_width_of v) mid → n ≡ number_of front → dimid_wrong dims ids n ≡ None
    → AtFront (repeat (dimid v dims) (ids ++ n ∷ []) (rank - (i + 1))) final mid after → AtFront (repeat (dimid v dims) ids (rank - i)) final piece after
dimid_at_front v dims ids final n rank i piece front mid after below starts is right p =
    let e : rank - i ≡ suc (rank - (i + 1)) = omega (arith, below) in
    subst (λ (k : ℕ). AtFront (repeat (dimid v dims) ids k) final piece after) (sym e)
    (both_at_front (dimid v dims ids) (λ a. repeat (dimid v dims) (ids ++ a ∷ []) (rank - (i + 1))) n final piece mid after
    (number_at_front (count_width_of v) (dimid_wrong dims ids) n piece front mid starts is right) p)

pub dimids_at_front : (v : Version) (dims : List Dim) (ids : List ℕ) (rank : ℕ) (piece start after : List ℕ) → AtFront (nelems v) rank piece start → AtFront (repeat (dimid v dims) [] rank) ids start after → AtFront (dimids v dims) ids piece after
dimids_at_front v dims ids rank piece start after p q = both_at_front (nelems v) (repeat (dimid v dims) []) rank ids piece start after p q

some_byte_of : (n : ℕ) (front : List ℕ) → (n == 0) ≡ false → n ≡ number_of front → all_zero front ≡ false
some_byte_of n front some is = false_from_ne_true (all_zero front) (λ h. true≢false (sym (ap (λ (m : ℕ). m == 0) (is ∙ zero_number front 0 h refl)) ∙ some))

-- a number of items shows no mark but where it is zero and its tag isn't
head_plain : (untagged : Bool) (n : ℕ) (front : List ℕ) → (not untagged && (n == 0)) ≡ false → n ≡ number_of front → IsPlain (if untagged then Plain else CountOfTagged) front
head_plain true n front h is = plainly front
head_plain false n front h is = record {
  unmarked = λ at. ap (λ (z : Bool). if z then of.TaggedEmpty (at - 4) ∷ [] else []) (some_byte_of n front h is);
  unbegun = λ at ats. refl;
}

pub list_head_at_front : (v : Version) (own tag n : ℕ) (piece front mid front' after : List ℕ) → StartsWith piece front 4 mid → tag ≡ number_of front → StartsWith mid front' (count_width_of v) after → n ≡ number_of front'
    → tag_wrong own tag ≡ None → list_nelems_wrong v tag n ≡ None → (not (tag == 0) && (n == 0)) ≡ false → AtFront (list_head v own) n piece after
list_head_at_front v own tag n piece front mid front' after starts is starts' is' right right' unmarked =
    both_at_front (list_tag own) (list_nelems v) tag n piece mid after
    (number_at_front 4 (tag_wrong own) tag piece front mid starts is right)
    (labelled_at_front (label_of_count tag) (count_width_of v) (list_nelems_wrong v tag) n mid front' after starts' is' right' (head_plain (tag == 0) n front' unmarked is'))

pub var_head_at_front : (v : Version) (dims : List Dim) (text ids : List ℕ) (n : ℕ) (piece a b after : List ℕ) → AtFront (name v) text piece a → AtFront (dimids v dims) ids a b → AtFront (list_head v nc_attribute) n b after → AtFront (var_head v dims) (text, ids, n) piece after
var_head_at_front v dims text ids n piece a b after p q r =
    let x : List ℕ × List ℕ × ℕ = (text, ids, n) in
    both_at_front (name v) (λ text'. dimids v dims >>= λ ids'. list_head v nc_attribute >>= λ n'. done (text', ids', n')) text x piece a after p
    (both_at_front (dimids v dims) (λ ids'. list_head v nc_attribute >>= λ n'. done (text, ids', n')) ids x a b after q
    (both_at_front (list_head v nc_attribute) (λ n'. done (text, ids, n')) n x b after after r (nothing_at_front x after)))

-- ---- the fields of a dimension

pub dim_at_front : (v : Version) (before : List Dim) (text : List ℕ) (n : ℕ) (piece a after : List ℕ) → AtFront (name v) text piece a → AtFront (dim_length v before) n a after → AtFront (dim v before) (record { name = text; length = n }) piece after
dim_at_front v before text n piece a after p q =
    let x : Dim = record { name = text; length = n } in
    both_at_front (name v) (λ text'. dim_length v before >>= λ n'. done (record { name = text'; length = n' })) text x piece a after p
    (both_at_front (dim_length v before) (λ n'. done (record { name = text; length = n' })) n x a after after q (nothing_at_front x after))

-- ---- the fields after the attributes of a variable

pub begin_at_front : {A : Type 0} (v : Version) (n : ℕ) (x : ℕ → A) (piece after : List ℕ) → StartsWithBegin v n piece after → AtFrontWithBegin (begin v >>= λ at. done (x at)) (x n) piece after (offset_width_of v)
begin_at_front {A = A} v n x piece after s =
    subst (λ (m : ℕ). AtFrontWithBegin (begin v >>= λ at. done (x at)) (x m) piece after (offset_width_of v)) (sym s.is)
    (record {
      front = s.front;
      joined = s.starts.0;
      long = omega (arith, s.starts.1);
      goes_on = λ next limit at shown begun more within.
          course_goes_on (field Begin (offset_width_of v) (λ b. begin_wrong v (number_of b)) (λ b. next (x (number_of b)))) (next (x (number_of s.front))) limit at (length s.front) shown begun [] s.front more (ap Some (sym s.starts.1)) within refl (subst (λ (m : ℕ). begin_wrong v m ≡ None) s.is s.right, refl)
          ∙ ap (λ (marks : List Mark). course (next (x (number_of s.front))) limit (at + length s.front) marks (begun ++ at ∷ []) more) (append-nil shown)
          ∙ ap (λ (a : ℕ). course (next (x (number_of s.front))) limit (at + length s.front) shown (begun ++ a ∷ []) more) (omega (arith, s.starts.1));
    })

front_goes_on : {A B : Type 0} (g : Grammar A) (h : A → Grammar B) (a : A) (b : B) (piece mid after : List ℕ) (size : ℕ) → AtFront g a piece mid → AtFrontWithBegin (h a) b mid after size → AtFrontWithBegin (g >>= h) b piece after size
front_goes_on {A = A} {B = B} g h a b piece mid after size p q = record {
  front = p.front ++ q.front;
  joined = p.joined ∙ ap (λ (x : List ℕ). p.front ++ x) q.joined ∙ sym (append_assoc p.front q.front after);
  long = let both : length (p.front ++ q.front) ≡ length p.front + length q.front = length-append p.front q.front in omega (arith, both, q.long);
  goes_on = λ next limit at shown begun more within.
      let both : length (p.front ++ q.front) ≡ length p.front + length q.front = length-append p.front q.front in
      ap (λ (x : Grammar Given). course x limit at shown begun ((p.front ++ q.front) ++ more)) (join_assoc g h next)
      ∙ ap (course (g >>= λ x. h x >>= next) limit at shown begun) (append_assoc p.front q.front more)
      ∙ p.goes_on (λ x. h x >>= next) limit at shown begun (q.front ++ more) (omega (arith, both, within))
      ∙ q.goes_on next limit (at + length p.front) shown begun more (omega (arith, both, within))
      ∙ ap (λ (n : ℕ). course (next b) limit n shown (begun ++ (n - size) ∷ []) more) (omega (arith, both));
}

pub var_tail_at_front : (v : Version) (text ids : List ℕ) (notes : List Attr) (t : XType) (size at : ℕ) (piece d e after : List ℕ)
    → AtFront (nc_type v) t piece d → AtFront (vsize v) size d e → StartsWithBegin v at e after
    → AtFrontWithBegin (from_type v text ids notes) (placed text ids notes t size at) piece after (offset_width_of v)
var_tail_at_front v text ids notes t size at piece d e after s u w =
    let last : Var × Place = placed text ids notes t size at in
    let o = offset_width_of v in
    front_goes_on (nc_type v) (λ y. vsize v >>= λ z. begin v >>= λ n. done (placed text ids notes y z n)) t last piece d after o s
    (front_goes_on (vsize v) (λ z. begin v >>= λ n. done (placed text ids notes t z n)) size last d e after o u
    (begin_at_front v at (placed text ids notes t size) e after w))

-- ---- want of memory

pub if_err : {T E : Type 0} (r : Result T E) (P : Type 0) → P → IfErr r (λ e. P)
if_err (Ok x) P p = tt
if_err (Err e) P p = p

-- what comes next is an item of this kind
pub needed : (r : Reading) (n : Next) (piece : List ℕ) → r.next ≡ n → NeedsMemory n r.partial piece → NeedsMemory r.next r.partial piece
needed r n piece is p = subst (λ (m : Next). NeedsMemory m r.partial piece) (sym is) p

-- a front of the numbers of a variable's dimensions, with one number more
pub first_id : (v : Version) (dims : List Dim) (ids start rest front after : List ℕ) (n i : ℕ) → (i ≡ 0) × (ids ≡ []) × (rest ≡ start) ⊎ ((id : ℕ) × (mid : List ℕ) × AtFront (dimid v dims []) id start mid)
    → StartsWith rest front (count_width_of v) after → n ≡ number_of front → dimid_wrong dims ids n ≡ None
    → (id : ℕ) × (mid : List ℕ) × AtFront (dimid v dims []) id start mid
first_id v dims ids start rest front after n i (inl none) starts is right = (
  n,
  after,
  subst (λ (piece : List ℕ). AtFront (dimid v dims []) n piece after) none.2 (number_at_front (count_width_of v) (dimid_wrong dims []) n rest front after starts is (subst (λ (before : List ℕ). dimid_wrong dims before n ≡ None) none.1 right)),
)
first_id v dims ids start rest front after n i (inr some) starts is right = some

-- ---- readings

module _ (old new : Reading) (piece after : List ℕ) (used : ℕ) (fresh : come_of old.next old.partial ≡ []) (none : old.held.items ≡ []) (long : used + length after ≡ length piece) (within : old.at + used ≤ old.limit)
    (fresh' : come_of new.next new.partial ≡ []) (none' : new.held.items ≡ []) (marks : new.marks.items ≡ old.marks.items) (limit : new.limit ≡ old.limit) (at : new.at ≡ old.at + used) where
  used_of : (front : List ℕ) → piece ≡ front ++ after → length front ≡ used
  used_of front joined = omega (arith, long, ap length joined, length-append front after)

  taken_of : (front : List ℕ) → piece ≡ front ++ after → take used piece ≡ front
  taken_of front joined = ap (λ (b : List ℕ). take used b) joined ∙ take_at front after used (used_of front joined)

  held : held_of old ≡ []
  held = ap (λ (h : List ℕ). come_of old.next old.partial ++ h) none ∙ append-nil (come_of old.next old.partial) ∙ fresh

  held' : held_of new ≡ []
  held' = ap (λ (h : List ℕ). come_of new.next new.partial ++ h) none' ∙ append-nil (come_of new.next new.partial) ∙ fresh'

  end_of : (front : List ℕ) → piece ≡ front ++ after → old.at + length front ≡ new.at
  end_of front joined = ap (λ (n : ℕ). old.at + n) (used_of front joined) ∙ sym at

  all_of : new.at + length (held_of new) ≡ old.at + length (held_of old) + length (take used piece)
  all_of = let empty : length (held_of new) ≡ 0 = ap length held' in
      let empty' : length (held_of old) ≡ 0 = ap length held in
      omega (arith, empty, empty', at, length-take-le used piece (omega (arith, long)))

  -- what is next stands whole at the front of the piece
  pub went : {A : Type 0} (g : Grammar A) (f : A → Grammar Given) (x : A) → next_of old ≡ (g >>= f) → AtFront g x piece after → next_of new ≡ f x → begun_of new ≡ begun_of old → Went old new piece used
  went g f x starts p left begins = record {
    within = omega (arith, long);
    takes = record {
      limit = limit;
      goes_on = λ more.
          ap (λ (b : List ℕ). onward old (b ++ more)) (taken_of p.front p.joined)
          ∙ (λ i. course (starts i) old.limit old.at old.marks.items (begun_of old) (held i ++ (p.front ++ more)))
          ∙ p.goes_on f old.limit old.at old.marks.items (begun_of old) more (omega (arith, used_of p.front p.joined, within))
          ∙ (λ i. course (sym left i) (sym limit i) (end_of p.front p.joined i) (sym marks i) (sym begins i) (sym held' i ++ more));
      long = all_of;
    };
  }

  -- the same where its last field is a begin field, of this size in bytes
  pub went_begin : {A : Type 0} (g : Grammar A) (f : A → Grammar Given) (x : A) (size : ℕ) → next_of old ≡ (g >>= f) → AtFrontWithBegin g x piece after size → next_of new ≡ f x → begun_of new ≡ begun_of old ++ (old.at + used - size) ∷ [] → Went old new piece used
  went_begin g f x size starts p left begins = record {
    within = omega (arith, long);
    takes = record {
      limit = limit;
      goes_on = λ more.
          ap (λ (b : List ℕ). onward old (b ++ more)) (taken_of p.front p.joined)
          ∙ (λ i. course (starts i) old.limit old.at old.marks.items (begun_of old) (held i ++ (p.front ++ more)))
          ∙ p.goes_on f old.limit old.at old.marks.items (begun_of old) more (omega (arith, used_of p.front p.joined, within))
          ∙ (λ i. course (sym left i) (sym limit i) (end_of p.front p.joined i) (sym marks i) (begins' p i) (sym held' i ++ more));
      long = all_of;
    };
  }
    where
      begins' : (q : AtFrontWithBegin g x piece after size) → (begun_of old ++ (old.at + length q.front - size) ∷ []) ≡ begun_of new
      begins' q = ap (λ (n : ℕ). begun_of old ++ (old.at + n - size) ∷ []) (used_of q.front q.joined) ∙ sym begins

-- ---- what is left of an item and what comes after it

join3 : {A B C D : Type 0} (g : Grammar A) (f : A → Grammar B) (h : B → Grammar C) (k : C → Grammar D) → (((g >>= f) >>= h) >>= k) ≡ (g >>= λ a. (f a >>= h) >>= k)
join3 g f h k = ap (λ q. q >>= k) (join_assoc g f h) ∙ join_assoc g (λ a. f a >>= h) k

pub starts_attr : (r : Reading) (o : Owner) → r.next ≡ nexts.NameLength (named.Attr o) → next_of r ≡ (attr r.partial.lists.parts.version >>= λ y. from_attrs o r.partial.lists (r.partial.lists.attrs.items ++ y ∷ []) r.partial.lists.attrs_left)
starts_attr r o next =
    let l = r.partial.lists in
    ap (λ n. left_of n r.partial) next ∙ join_assoc (attr l.parts.version) (λ y. repeat (λ before. attr l.parts.version) (l.attrs.items ++ y ∷ []) l.attrs_left) (with_attrs o l.parts l.vars l.var)

pub starts_dim : (r : Reading) → r.next ≡ nexts.NameLength named.Dim → next_of r ≡ (dim r.partial.lists.parts.version r.partial.lists.parts.dims.items >>= after_dim r.partial.lists.parts r.partial.lists.dims_left)
starts_dim r next =
    let l = r.partial.lists in
    let p = l.parts in
    ap (λ n. left_of n r.partial) next
    ∙ ap (λ q. name p.version >>= q) (fun_ext (λ text. join_assoc (from_length p text) (λ y. repeat (dim p.version) (p.dims.items ++ y ∷ []) l.dims_left) (with_dims p.version p.count)))
    ∙ sym (join_assoc (name p.version) (from_length p) (after_dim p l.dims_left))

-- the attributes of a variable of which the head was read, and then the rest
abbrev pub after_head : Parts → Vars → List ℕ × List ℕ × ℕ → Grammar Given
after_head p v y = repeat (λ before. attr p.version) [] y.2 >>= λ notes. in_var p v (from_type p.version y.0 y.1 notes)

pub starts_head : (r : Reading) → r.next ≡ nexts.NameLength named.Var → next_of r ≡ (var_head r.partial.lists.parts.version r.partial.lists.parts.dims.items >>= after_head r.partial.lists.parts r.partial.lists.vars)
starts_head r next = ap (λ n. left_of n r.partial) next ∙ ap (λ q. name version >>= q) (fun_ext by_text)
    ∙ sym (join_assoc (name version) (λ text. dimids version dims >>= λ ids. list_head version nc_attribute >>= λ n. done (text, ids, n)) rest)
  where
    p : Parts
    p = r.partial.lists.parts

    version : Version
    version = p.version

    dims : List Dim
    dims = p.dims.items

    vars : List (Var × Place) → Grammar (List (Var × Place))
    vars before = repeat (λ b. var version dims) before r.partial.lists.vars.left

    more : Var × Place → Grammar (List (Var × Place))
    more x = vars (before_of r.partial.lists.vars ++ x ∷ [])

    end : List (Var × Place) → Grammar Given
    end = ended p p.gatts.items

    rest : List ℕ × List ℕ × ℕ → Grammar Given
    rest = after_head p r.partial.lists.vars

    notes : ℕ → Grammar (List Attr)
    notes n = repeat (λ before. attr version) [] n

    by_ids : (text ids : List ℕ) → (((attrs version >>= from_type version text ids) >>= more) >>= end) ≡ ((list_head version nc_attribute >>= λ n. done (text, ids, n)) >>= rest)
    by_ids text ids =
        ap (λ q. (q >>= more) >>= end) (join_assoc (list_head version nc_attribute) notes (from_type version text ids))
        ∙ join3 (list_head version nc_attribute) (λ n. notes n >>= from_type version text ids) more end
        ∙ ap (λ q. list_head version nc_attribute >>= q) (fun_ext (λ n. join3 (notes n) (from_type version text ids) more end))
        ∙ sym (join_assoc (list_head version nc_attribute) (λ n. done (text, ids, n)) rest)

    by_text : (text : List ℕ) → ((from_rank p text >>= more) >>= end) ≡ ((dimids version dims >>= λ ids. list_head version nc_attribute >>= λ n. done (text, ids, n)) >>= rest)
    by_text text =
        join3 (dimids version dims) (λ ids. attrs version >>= from_type version text ids) more end
        ∙ ap (λ q. dimids version dims >>= q) (fun_ext (by_ids text))
        ∙ sym (join_assoc (dimids version dims) (λ ids. list_head version nc_attribute >>= λ n. done (text, ids, n)) rest)

pub starts_tail : (r : Reading) → r.next ≡ nexts.VarType → next_of r ≡ (from_type r.partial.lists.parts.version r.partial.lists.var.name r.partial.lists.var.dims.items r.partial.lists.attrs.items >>= λ y. from_vars r.partial.lists.parts (before_of r.partial.lists.vars ++ y ∷ []) r.partial.lists.vars.left)
starts_tail r next =
    let l = r.partial.lists in
    ap (λ n. left_of n r.partial) next
    ∙ join_assoc (from_type l.parts.version l.var.name l.var.dims.items l.attrs.items) (λ x. repeat (λ before. var l.parts.version l.parts.dims.items) (before_of l.vars ++ x ∷ []) l.vars.left) (ended l.parts l.parts.gatts.items)
