-- What a writer that copies an open file faces.
use Rattle.std.proofs.Common.{◌≡◌, ◌⊎◌, inl, inr, ℕ, ◌+◌, ◌*◌, ◌<◌, ◌≤◌, Bool, true, false, List, Option, Some, None, length, refl, sym, ap, subst, ◌∙◌, arith}
use Rattle.std.specs.Prelude.{ltb, if◌then◌else◌}
use Rattle.std.proofs.lemmas.Bool.{ltb-true, ltb-false}
use Rattle.ncc_values.specs.XType.{size_of}
use Rattle.ncc_values.specs.declared.xtype.XType.{XType}
use Rattle.ncc_schema.specs.declared.schema.Schema.{Schema}
use Rattle.ncc_schema.specs.Schema.{is_record_var}
use Rattle.ncc_layout.specs.declared.placed_file.Placed.{Placed}
use Rattle.ncc_layout.specs.Elements.{var_at}
use Rattle.ncc_layout.specs.Placed.{records_of_file, vars_of}
use Rattle.ncc_layout.specs.Plans.{known}
use Rattle.ncc_layout.specs.Sizes.{slab}
use Rattle.ncc_check.specs.Checks.{StandsIn}
use Rattle.ncc_slab.specs.SlabPlaces.{HasSlab}
use Rattle.ncc_build.specs.Dataset.{Slab}
use Rattle.ncc_write.specs.declared.writer.FileWriter.{FileWriter}
use Rattle.ncc_write.specs.Laws.{CompleteWhenTaken}
use Rattle.ncc_write.specs.Writer.{schema_in, taken_in}
use Rattle.ncc_write.specs.Writing.{Next, WriterState, data_length, expected, next_of, told}
use Rattle.ncc_write.proofs.NextSlabs.{IsNext, is_next}
use Rattle.ncc_write.proofs.SlabsAt.{IsAmong}
use Rattle.ncc_write.proofs.TakenIn.{taken_is}
use Rattle.ncc_convert.specs.Copying.{Copies, Expects}
use Rattle.ncc_write.specs.Planned.{IsPlanned}
use Rattle.ncc_convert.proofs.Planned.{var_record, var_slab, var_there, var_xtype}

-- ---- the slab that comes next

pub record IsTold (o : Option Next) (var number left : ℕ) : Type 0 where
  pub n : Next
  pub is : o ≡ Some n
  pub var_is : var ≡ n.slab.number
  pub number_is : number ≡ n.slab.in_record
  pub left_is : left ≡ n.left

abbrev numbers : Option (ℕ × ℕ × ℕ) → ℕ × ℕ × ℕ
numbers None = (0, 0, 0)
numbers (Some x) = x

told_some : (o : Option Next) (var number left : ℕ) → Some (var, number, left) ≡ told o → IsTold o var number left
told_some None var number left e = absurd (cc e)
told_some (Some n) var number left e = record {
  n = n;
  is = refl;
  var_is = ap (λ (x : Option (ℕ × ℕ × ℕ)). (numbers x).0) e;
  number_is = ap (λ (x : Option (ℕ × ℕ × ℕ)). (numbers x).1) e;
  left_is = ap (λ (x : Option (ℕ × ℕ × ℕ)). (numbers x).2) e;
}

-- where it is, and how far the next element is in it
pub record Faces (p : Placed) (w : WriterState) (var number left : ℕ) : Type 0 where
  pub n : Next
  pub next_is : next_of w.schema w.taken ≡ Some n
  pub among : IsAmong w.schema n.slab
  pub var_is : var ≡ n.slab.number
  pub number_is : number ≡ n.slab.in_record
  pub left_is : left ≡ n.left
  pub has : HasSlab p var number
  pub xtype_is : (var_at (vars_of p) var).xtype ≡ n.slab.var.xtype
  pub slab_is : (var_at (vars_of p) var).extent.slab ≡ slab w.schema.dims n.slab.var
  pub offset : ℕ
  pub left_are : offset + left * size_of (var_at (vars_of p) var).xtype ≡ (var_at (vars_of p) var).extent.slab
  pub some : 0 < left

below_by : (a b : ℕ) → (b ≤ a → ⊥) → a < b
below_by a b not_most = by (ltb a b) refl
  where
    by : (t : Bool) → ltb a b ≡ t → a < b
    by true is = ltb-true a b is
    by false is = absurd (not_most (ltb-false a b is))

module _ {W : Type 0} (b tells : Bool) (file : List ℕ) (s : Schema) (p : Placed) (start put : Option (List ℕ))
    (x : FileWriter W) (stands : ∥ StandsIn b file s p ∥₁) (planned : IsPlanned s p (schema_in x))
    (copies : Copies tells file p start put x) where
  abbrev w : WriterState
  w = copies.state

  pub planned_is : IsPlanned s p w.schema
  planned_is = subst (IsPlanned s p) copies.stands.schema planned

  expected_is : expected w ≡ told (next_of w.schema w.taken)
  expected_is = ap (λ (failed : Bool). if failed then None else told (next_of w.schema w.taken)) copies.goes

  module _ (var number left : ℕ) (next : Expects put x var number left) where
    is_told : IsTold (next_of w.schema w.taken) var number left
    is_told = told_some (next_of w.schema w.taken) var number left (next start w copies.stands ∙ expected_is)

    comes : IsNext w.schema is_told.n
    comes = is_next w.schema w.taken is_told.n is_told.is (copies.stands.whole copies.goes)

    abbrev c : Slab
    c = is_told.n.slab

    there : var < length (vars_of p)
    there = subst (λ (k : ℕ). k < length (vars_of p)) (sym is_told.var_is)
        (var_there b file s p w.schema planned_is stands c comes.among)

    xtype : (var_at (vars_of p) var).xtype ≡ c.var.xtype
    xtype = ap (λ (k : ℕ). (var_at (vars_of p) k).xtype) is_told.var_is
        ∙ var_xtype b file s p w.schema planned_is stands c comes.among

    size : (var_at (vars_of p) var).extent.slab ≡ slab w.schema.dims c.var
    size = ap (λ (k : ℕ). (var_at (vars_of p) k).extent.slab) is_told.var_is
        ∙ var_slab b file s p w.schema planned_is stands c comes.among

    kind : (var_at (vars_of p) var).extent.is_record ≡ is_record_var w.schema.dims c.var
    kind = ap (λ (k : ℕ). (var_at (vars_of p) k).extent.is_record) is_told.var_is
        ∙ var_record b file s p w.schema planned_is stands c comes.among

    count : known w.schema.count ≡ records_of_file p
    count = ap (λ (u : Schema). known u.count) planned_is

    in_records : (var_at (vars_of p) var).extent.is_record ≡ true → number < records_of_file p
    in_records is = by comes.among.kind
      where
        by : ((is_record_var w.schema.dims c.var ≡ false) × (c.in_record ≡ 0))
            ⊎ ((is_record_var w.schema.dims c.var ≡ true) × (c.in_record < known w.schema.count)) → number < records_of_file p
        by (inl fixed) = absurd (cc (sym is ∙ kind ∙ fixed.0))
        by (inr records) = omega (arith, records.1, count, is_told.number_is)

    pub faces : Faces p w var number left
    faces = record {
      n = is_told.n;
      next_is = is_told.is;
      among = comes.among;
      var_is = is_told.var_is;
      number_is = is_told.number_is;
      left_is = is_told.left_is;
      has = record { there = there; in_records = in_records };
      xtype_is = xtype;
      slab_is = size;
      offset = comes.offset;
      left_are = ap (λ (k : ℕ). comes.offset + k * size_of (var_at (vars_of p) var).xtype) is_told.left_is
          ∙ ap (λ (t : XType). comes.offset + is_told.n.left * size_of t) xtype ∙ comes.left_are ∙ sym size;
      some = subst (λ (k : ℕ). 0 < k) (sym is_told.left_is) comes.some;
    }

    -- some bytes of values are still to come
    pub before : CompleteWhenTaken → taken_in x < data_length (schema_in x)
    before complete =
        let taken : taken_in x ≡ length w.taken = taken_is start put x w copies.stands copies.goes in
        let all : data_length (schema_in x) ≡ data_length w.schema = ap data_length copies.stands.schema in
        let less : length w.taken < data_length w.schema = below_by (length w.taken) (data_length w.schema)
        (λ filled. cc (sym is_told.is ∙ (complete w.schema w.taken).1 filled)) in
        omega (arith, taken, all, less)
