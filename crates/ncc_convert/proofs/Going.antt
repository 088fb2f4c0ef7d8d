-- A writer takes the piece of a copy; and what went out where a call failed.
use Rattle.std.proofs.Common.{◌≡◌, ℕ, ◌*◌, ◌<◌, ◌≤◌, ◌++◌, ◌/◌, Bool, true, false, List, Option, Some, Err, length, sym, ap, subst, ◌∙◌, arith}
use Rattle.ncc_values.specs.Values.{bytes_of, count_of, type_of, values_of}
use Rattle.ncc_values.specs.XType.{size_of}
use Rattle.ncc_values.specs.declared.xtype.XType.{XType}
use Rattle.ncc_values.specs.declared.xtype.XType.TheVariants.{Byte, Char, Short, Int, Float, Double, UByte, UShort, UInt, Int64, UInt64}
use Rattle.ncc_values.proofs.ValuesLemmas.{count_of-values_of, length-bytes_of, type_of-values_of}
use Rattle.ncc_build.specs.Dataset.{Dataset, IsDataset, data_of}
use Rattle.ncc_build.specs.File.{file_of}
use Rattle.ncc_build.specs.declared.fault.WriteFault.{WriteFault}
use Rattle.ncc_build.specs.declared.fault.WriteFault.TheVariants.{Device}
use Rattle.ncc_write.specs.Laws.{OutIsInFiles}
use Rattle.ncc_write.specs.PagedSink.{waiting}
use Rattle.ncc_write.specs.Writer.{Stands}
use Rattle.ncc_write.specs.Writing.{IsAnswer, IsFront, IsFrontOfFiles, IsOutBy, Next, WriterState, Went, next_of, refuses_put}
use Rattle.ncc_write.specs.declared.writer.FileWriter.{FileWriter}
use Rattle.ncc_write.proofs.Refusing.{taken}

-- ---- a piece isn't refused

-- so an error is the sink's
pub device_is : (w : WriterState) (t : XType) (k : ℕ) (piece : List ℕ) (n : Next) → w.failed ≡ false
    → next_of w.schema w.taken ≡ Some n → t ≡ n.slab.var.xtype → length piece ≡ k * size_of t → k ≤ n.left
    → (e : WriteFault) → IsAnswer {T = Unit {0}} (λ (f : WriteFault). f) (refuses_put w (values_of t piece)) (Err e)
    → e ≡ Device
device_is w t k piece n goes next typed long few e answer =
    let v = values_of t piece in
    let count : count_of v ≡ k = count_of-values_of t k piece long in
    subst (λ (o : Option WriteFault). IsAnswer {T = Unit {0}} (λ (f : WriteFault). f) o (Err e))
    (taken w v goes n next (type_of-values_of t piece ∙ typed) (omega (arith, count, few))) answer

-- ---- how many bytes

pub room_for : (t : XType) → 0 < 65536 / size_of t
room_for Byte = omega arith
room_for Char = omega arith
room_for Short = omega arith
room_for Int = omega arith
room_for Float = omega arith
room_for Double = omega arith
room_for UByte = omega arith
room_for UShort = omega arith
room_for UInt = omega arith
room_for Int64 = omega arith
room_for UInt64 = omega arith

pub positive : (t : XType) → 0 < size_of t
positive Byte = omega arith
positive Char = omega arith
positive Short = omega arith
positive Int = omega arith
positive Float = omega arith
positive Double = omega arith
positive UByte = omega arith
positive UShort = omega arith
positive UInt = omega arith
positive Int64 = omega arith
positive UInt64 = omega arith

pub piece_long : (t : XType) (k : ℕ) (piece : List ℕ) → length piece ≡ k * size_of t
    → length (bytes_of (values_of t piece)) ≡ length piece
piece_long t k piece long =
    length-bytes_of (values_of t piece)
    ∙ ap (λ (n : ℕ). n * size_of (type_of (values_of t piece))) (count_of-values_of t k piece long)
    ∙ ap (λ (u : XType). k * size_of u) (type_of-values_of t piece) ∙ sym long

-- ---- what went out

module _ {W : Type 0} (start put : Option (List ℕ)) (x : FileWriter W) (w : WriterState) (at : Stands start put x w)
    (e : Dataset) (is : IsDataset e) (same : e.schema ≡ w.schema) (front : IsFront w.taken (data_of e)) where
  -- of a writer whose sink didn't fail
  pub went_so_far : w.failed ≡ false → OutIsInFiles → Went start put (λ out. IsFront out (file_of e))
  went_so_far goes law =
      let out = at.out in
      let joined : out.0 ++ waiting x.paged_sink ≡ _ = subst (λ (b : Bool). IsOutBy b w (waiting x.paged_sink) out.0) goes out.2 in
      (out.0, out.1, law w.schema w.taken out.0 (waiting x.paged_sink, sym joined) e is same front)

  -- of one whose sink failed
  pub went_failed : w.failed ≡ true → Went start put (λ out. IsFront out (file_of e))
  went_failed failed =
      let out = at.out in
      let fronts : IsFrontOfFiles w.schema w.taken out.0 =
      subst (λ (b : Bool). IsOutBy b w (waiting x.paged_sink) out.0) failed out.2 in
      (out.0, out.1, fronts e is same front)
