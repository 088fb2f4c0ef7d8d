-- How many bytes of values a writer has taken, by its fields.
use Rattle.std.proofs.Common.{◌≡◌, ℕ, ◌+◌, ◌-◌, ◌*◌, Bool, true, false, List, Option, length, refl, sym, ap, ◌∙◌, arith}
use Rattle.std.specs.Prelude.{ltb, if◌then◌else◌}
use Rattle.std.proofs.lemmas.Bool.{ltb-true, ltb-false}
use Rattle.ncc_values.specs.XType.{size_of}
use Rattle.ncc_schema.specs.declared.schema.Schema.{Schema}
use Rattle.ncc_build.specs.Dataset.{slabs_of}
use Rattle.ncc_write.specs.declared.writer.FileWriter.{FileWriter}
use Rattle.ncc_write.specs.Positions.{IsAt, end_of, slab_at}
use Rattle.ncc_write.specs.Writer.{Stands, taken_at, taken_in}
use Rattle.ncc_write.specs.Writing.{WriterState}

abbrev taken_by : Schema → (number left : ℕ) → Bool → ℕ
taken_by s k left open_slab =
    if open_slab then end_of s (k + 1) - left * size_of (slab_at s k).var.xtype else end_of s k

by_slab : (s : Schema) (taken k left : ℕ) → IsAt s taken k left → (b : Bool) → ltb k (length (slabs_of s)) ≡ b
    → taken_by s k left b ≡ taken
by_slab s taken k left at true is =
    let ends = at.ends (ltb-true k (length (slabs_of s)) is) in
    omega (arith, ends)
by_slab s taken k left at false is =
    let all : k ≡ length (slabs_of s) = omega (arith, ltb-false k (length (slabs_of s)) is, at.within) in
    sym (at.done all)

pub taken_is : {W : Type 0} (start put : Option (List ℕ)) (x : FileWriter W) (w : WriterState) → Stands start put x w
    → w.failed ≡ false → taken_in x ≡ length w.taken
taken_is start put x w at goes =
    ap (λ (s : Schema). taken_at s x.slab x.left) at.schema
    ∙ by_slab w.schema (length w.taken) x.slab x.left (at.at goes) (ltb x.slab (length (slabs_of w.schema))) refl
