-- The pieces that a writer which copies still expects.
use Rattle.std.proofs.Common.{◌≡◌, ◌⊎◌, inl, inr, min, ℕ, ◌+◌, ◌*◌, ◌≤◌, ◌/◌, Bool, true, false, List, Option, Some, length, refl, ap, ◌∙◌, arith}
use Rattle.std.specs.Prelude.{ltb}
use Rattle.std.proofs.lemmas.Bool.{ltb-true, ltb-false}
use Rattle.ncc_values.specs.XType.{size_of}
use Rattle.ncc_values.specs.declared.xtype.XType.{XType}
use Rattle.ncc_schema.specs.declared.schema.Schema.{Schema}
use Rattle.ncc_build.specs.Dataset.{slabs_of}
use Rattle.ncc_write.specs.declared.writer.FileWriter.{FileWriter}
use Rattle.ncc_write.specs.Writer.{Stands, schema_in}
use Rattle.ncc_write.specs.Writing.{Next, WriterState, next_of, starting}
use Rattle.ncc_write.proofs.TakenIn.{taken_is}
use Rattle.ncc_convert.specs.Copying.{pieces_behind, pieces_left, pieces_of}
use Rattle.ncc_convert.proofs.PieceCounts.{Ends, at_first, falls, whole_buffer}

pub pieces_are : {W : Type 0} (start put : Option (List ℕ)) (x : FileWriter W) (w : WriterState)
    → Stands start put x w → w.failed ≡ false
    → pieces_left x ≡ pieces_behind w.schema (slabs_of w.schema) (length w.taken)
pieces_are start put x w stands goes =
    ap (λ (n : ℕ). pieces_behind (schema_in x) (slabs_of (schema_in x)) n) (taken_is start put x w stands goes)
    ∙ ap (λ (u : Schema). pieces_behind u (slabs_of u) (length w.taken)) stands.schema

-- of a writer that has taken nothing
pub at_start : {W : Type 0} (start put : Option (List ℕ)) (x : FileWriter W) (t : Schema)
    → Stands start put x (starting t) → pieces_left x ≤ pieces_of t (slabs_of t)
at_start start put x t stands = omega (arith, pieces_are start put x (starting t) stands refl, at_first t (slabs_of t))

module _ {W : Type 0} (start put : Option (List ℕ)) (x : FileWriter W) (w : WriterState) (stands : Stands start put x w)
    (goes : w.failed ≡ false) where
  module _ (n : Next) (next : next_of w.schema w.taken ≡ Some n) where
    pub one_left : 1 ≤ pieces_left x
    one_left = omega (
      arith,
      pieces_are start put x w stands goes,
      falls w.schema (slabs_of w.schema) (length w.taken) n.left n next (stands.whole goes) (omega arith) (inl refl),
    )

    -- with a piece of so many elements, one less
    pub fewer : {W : Type 0} (k : ℕ) (put_then : Option (List ℕ)) (y : FileWriter W) (v : WriterState)
        → Stands start put_then y v → v.failed ≡ false → v.schema ≡ w.schema
        → length v.taken ≡ length w.taken + k * size_of n.slab.var.xtype → k ≤ n.left → Ends w.schema n k
        → pieces_left y + 1 ≤ pieces_left x
    fewer k put_then y v after goes_on same taken few ends = omega (
      arith,
      pieces_are start put x w stands goes,
      ap (λ (u : Schema). pieces_behind u (slabs_of u) (length v.taken)) same,
      ap (λ (m : ℕ). pieces_behind w.schema (slabs_of w.schema) m) taken,
      pieces_are start put_then y v after goes_on,
      falls w.schema (slabs_of w.schema) (length w.taken) k n next (stands.whole goes) few ends,
    )

-- the least of what is left and what the buffer holds ends the slab or fills the buffer
pub least_ends : (t : XType) (k left room : ℕ) → k ≡ min left room → room ≡ 65536 / size_of t
    → (k ≡ left) ⊎ (k * size_of t ≡ 65536)
least_ends t k left room least is = by (ltb room left) refl
  where
    by : (less : Bool) → ltb room left ≡ less → (k ≡ left) ⊎ (k * size_of t ≡ 65536)
    by true some =
        let all : k ≡ 65536 / size_of t = omega (arith, least, is, ltb-true room left some) in
        inr (ap (λ (j : ℕ). j * size_of t) all ∙ whole_buffer t)
    by false some = inl (omega (arith, least, ltb-false room left some))
