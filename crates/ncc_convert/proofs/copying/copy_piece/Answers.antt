use Rattle.std.proofs.Common.{true, rules, ◌≡◌, inr, ◌+◌, ◌-◌, ◌*◌, ◌++◌, ◌<◌, ◌≤◌, ◌/◌, min, false, ℕ, Err, length, length-append, take, drop, sym, ap, ap₂, subst, ◌∙◌, arith}
use Rattle.std.proofs.lemmas.List.{length-take}
use Rattle.std.proofs.lemmas.Nat.{mul-le}
use Rattle.ncc_values.specs.XType.{size_of}
use Rattle.ncc_values.specs.Values.{bytes_of, values_of}
use Rattle.ncc_values.specs.declared.xtype.XType.{XType}
use Rattle.ncc_schema.specs.declared.schema.Schema.{Schema}
use Rattle.ncc_layout.specs.Elements.{var_at}
use Rattle.ncc_layout.specs.Placed.{file_length_of, record_size_of_file, vars_of}
use Rattle.ncc_check.proofs.ReadFiles.{files_answered, files_within}
use Rattle.ncc_check.specs.Files.{store_of, schema_of, placed_of, must_reopen}
use Rattle.ncc_check.specs.Told.{tells_header}
use Rattle.ncc_slab.specs.SlabPlaces.{HasSlab, slab_begin}
use Rattle.ncc_build.specs.Dataset.{data_of}
use Rattle.ncc_build.specs.declared.fault.WriteFault.{WriteFault}
use Rattle.ncc_build.specs.declared.fault.WriteFault.TheVariants.{Device}
use Rattle.ncc_write.specs.Holds.{bytes_at}
use Rattle.ncc_write.specs.Writer.{sink_in, taken_in}
use Rattle.ncc_write.specs.Writing.{CountsFailure, IsFront, WriterState, StandsAfter, as_failed, with_values}
use Rattle.ncc_write.proofs.TakenIn.{taken_is}
use Rattle.ncc_convert.specs.Found.{IsOf}
use Rattle.ncc_convert.proofs.Facing.{before, faces}
use Rattle.ncc_convert.proofs.Going.{device_is, piece_long, positive, room_for, went_failed, went_so_far}
use Rattle.ncc_convert.proofs.Pieces.{next_front}
use Rattle.ncc_convert.proofs.PiecesLeft.{fewer, least_ends, one_left}
use Rattle.ncc_convert.proofs.copying.copy_piece.Goals as goal
use Rattle.ncc_convert.proofs.copying.copy_piece.Given as given

pub unreachable-requires : goal.unreachable-requires
unreachable-requires g c =
    let file = c.args.file.now in
    let x = c.args.writer.now in
    let s = schema_of file in
    let p = placed_of file in
    let bytes = g.S.Store.bytes (store_of file) in
    let tells = g.S.Store.tells_bytes in
    let at = faces (tells_header tells (must_reopen file)) tells bytes s p c.requires.copies.0 (g.W.Sink.put (sink_in x)) x c.open_file_stands.ensures c.requires.planned c.requires.copies.1 c.args.var c.args.number c.args.left c.requires.next in
    c.in-None.ensures.place (subst (λ q. HasSlab q c.args.var c.args.number) (sym c.placed-placed.ensures) at.has)

pub overflow_mul-from : goal.overflow_mul-from
overflow_mul-from g c =
    let file = c.args.file.now in
    let x = c.args.writer.now in
    let s = schema_of file in
    let p = placed_of file in
    let bytes = g.S.Store.bytes (store_of file) in
    let tells = g.S.Store.tells_bytes in
    let at = faces (tells_header tells (must_reopen file)) tells bytes s p c.requires.copies.0 (g.W.Sink.put (sink_in x)) x c.open_file_stands.ensures c.requires.planned c.requires.copies.1 c.args.var c.args.number c.args.left c.requires.next in
    let size_is : c.size-size.result ≡ size_of (var_at (vars_of p) c.args.var).xtype = search rules in
    let slab_is : c.slab.result ≡ (var_at (vars_of p) c.args.var).extent.slab = search rules in
    let left_are : at.offset + c.args.left * c.size-size.result ≡ c.slab.result = ap (λ (k : ℕ). at.offset + c.args.left * k) size_is ∙ at.left_are ∙ sym slab_is in
    let most : c.args.left * c.size-size.result ≤ c.slab.result = omega (arith, left_are) in
    omega (arith, most, c.slab.type_inv)

pub overflow_sub-from : goal.overflow_sub-from
overflow_sub-from g c =
    let file = c.args.file.now in
    let x = c.args.writer.now in
    let s = schema_of file in
    let p = placed_of file in
    let bytes = g.S.Store.bytes (store_of file) in
    let tells = g.S.Store.tells_bytes in
    let at = faces (tells_header tells (must_reopen file)) tells bytes s p c.requires.copies.0 (g.W.Sink.put (sink_in x)) x c.open_file_stands.ensures c.requires.planned c.requires.copies.1 c.args.var c.args.number c.args.left c.requires.next in
    let size_is : c.size-size.result ≡ size_of (var_at (vars_of p) c.args.var).xtype = search rules in
    let slab_is : c.slab.result ≡ (var_at (vars_of p) c.args.var).extent.slab = search rules in
    let left_are : at.offset + c.args.left * c.size-size.result ≡ c.slab.result = ap (λ (k : ℕ). at.offset + c.args.left * k) size_is ∙ at.left_are ∙ sym slab_is in
    omega (arith, left_are)

pub fetch-requires : goal.fetch-requires
fetch-requires g c =
    let file = c.args.file.now in
    let x = c.args.writer.now in
    let s = schema_of file in
    let p = placed_of file in
    let bytes = g.S.Store.bytes (store_of file) in
    let tells = g.S.Store.tells_bytes in
    let at = faces (tells_header tells (must_reopen file)) tells bytes s p c.requires.copies.0 (g.W.Sink.put (sink_in x)) x c.open_file_stands.ensures c.requires.planned c.requires.copies.1 c.args.var c.args.number c.args.left c.requires.next in
    let size_is : c.size-size.result ≡ size_of (var_at (vars_of p) c.args.var).xtype = search rules in
    let slab_is : c.slab.result ≡ (var_at (vars_of p) c.args.var).extent.slab = search rules in
    let left_are : at.offset + c.args.left * c.size-size.result ≡ c.slab.result = ap (λ (k : ℕ). at.offset + c.args.left * k) size_is ∙ at.left_are ∙ sym slab_is in
    let count : c.min-count.result ≤ c.args.left = omega (arith, c.min-count.ensures) in
    let few_bytes : length (take (c.min-count.result * c.size-size.result) c.args.buffer.now) ≤ c.min-count.result * c.size-size.result = omega (arith, length-take (c.min-count.result * c.size-size.result) c.args.buffer.now) in
    let inside : c.in-Some.place + c.slab.result ≤ file_length_of p = search rules in
    omega (arith, left_are, count, few_bytes, inside, mul-le c.min-count.result c.size-size.result c.args.left c.size-size.result count (omega arith))

pub returns-in-Err-clause-before : goal.returns-in-Err-clause-before
returns-in-Err-clause-before g c =
    let file = c.args.file.now in
    let x = c.args.writer.now in
    before (tells_header g.S.Store.tells_bytes (must_reopen file)) g.S.Store.tells_bytes (g.S.Store.bytes (store_of file)) (schema_of file) (placed_of file) c.requires.copies.0 (g.W.Sink.put (sink_in x)) x c.open_file_stands.ensures c.requires.planned c.requires.copies.1 c.args.var c.args.number c.args.left c.requires.next c.complete_when_taken.ensures

pub returns-in-Ok-put_bytes-clause-before : goal.returns-in-Ok-put_bytes-clause-before
returns-in-Ok-put_bytes-clause-before g c =
    let file = c.args.file.now in
    let x = c.args.writer.now in
    before (tells_header g.S.Store.tells_bytes (must_reopen file)) g.S.Store.tells_bytes (g.S.Store.bytes (store_of file)) (schema_of file) (placed_of file) c.requires.copies.0 (g.W.Sink.put (sink_in x)) x c.open_file_stands.ensures c.requires.planned c.requires.copies.1 c.args.var c.args.number c.args.left c.requires.next c.complete_when_taken.ensures

pub returns-in-Err-put_bytes-clause-before : goal.returns-in-Err-put_bytes-clause-before
returns-in-Err-put_bytes-clause-before g c =
    let file = c.args.file.now in
    let x = c.args.writer.now in
    before (tells_header g.S.Store.tells_bytes (must_reopen file)) g.S.Store.tells_bytes (g.S.Store.bytes (store_of file)) (schema_of file) (placed_of file) c.requires.copies.0 (g.W.Sink.put (sink_in x)) x c.open_file_stands.ensures c.requires.planned c.requires.copies.1 c.args.var c.args.number c.args.left c.requires.next c.complete_when_taken.ensures

pub returns-in-Err-clause-some : goal.returns-in-Err-clause-some
returns-in-Err-clause-some g c =
    let file = c.args.file.now in
    let x = c.args.writer.now in
    let start = c.requires.copies.0 in
    let copies = c.requires.copies.1 in
    let put = g.W.Sink.put (sink_in x) in
    let at = faces (tells_header g.S.Store.tells_bytes (must_reopen file)) g.S.Store.tells_bytes (g.S.Store.bytes (store_of file)) (schema_of file) (placed_of file) start put x c.open_file_stands.ensures c.requires.planned copies c.args.var c.args.number c.args.left c.requires.next in
    one_left start put x copies.state copies.stands copies.goes at.n at.next_is

pub returns-in-Ok-put_bytes-clause-some : goal.returns-in-Ok-put_bytes-clause-some
returns-in-Ok-put_bytes-clause-some g c =
    let file = c.args.file.now in
    let x = c.args.writer.now in
    let start = c.requires.copies.0 in
    let copies = c.requires.copies.1 in
    let put = g.W.Sink.put (sink_in x) in
    let at = faces (tells_header g.S.Store.tells_bytes (must_reopen file)) g.S.Store.tells_bytes (g.S.Store.bytes (store_of file)) (schema_of file) (placed_of file) start put x c.open_file_stands.ensures c.requires.planned copies c.args.var c.args.number c.args.left c.requires.next in
    one_left start put x copies.state copies.stands copies.goes at.n at.next_is

pub returns-in-Err-put_bytes-clause-some : goal.returns-in-Err-put_bytes-clause-some
returns-in-Err-put_bytes-clause-some g c =
    let file = c.args.file.now in
    let x = c.args.writer.now in
    let start = c.requires.copies.0 in
    let copies = c.requires.copies.1 in
    let put = g.W.Sink.put (sink_in x) in
    let at = faces (tells_header g.S.Store.tells_bytes (must_reopen file)) g.S.Store.tells_bytes (g.S.Store.bytes (store_of file)) (schema_of file) (placed_of file) start put x c.open_file_stands.ensures c.requires.planned copies c.args.var c.args.number c.args.left c.requires.next in
    one_left start put x copies.state copies.stands copies.goes at.n at.next_is

-- the piece that was read is as long as was asked for
piece_is_long : (g : given.Over) (c : goal.In-Ok-put_bytes g) → length c.fetch.new.out ≡ c.min-count.result * size_of c.xtype-xtype.result
piece_is_long g c = search rules

pub returns-in-Ok-put_bytes-clause-copies : goal.returns-in-Ok-put_bytes-clause-copies
returns-in-Ok-put_bytes-clause-copies g c =
    λ start copies.
    let file = c.args.file.now in
    let x = c.args.writer.now in
    let s = schema_of file in
    let p = placed_of file in
    let bytes = g.S.Store.bytes (store_of file) in
    let tells = g.S.Store.tells_bytes in
    let b = tells_header tells (must_reopen file) in
    let put = g.W.Sink.put (sink_in x) in
    let w = copies.state in
    let at = faces b tells bytes s p start put x c.open_file_stands.ensures c.requires.planned copies c.args.var c.args.number c.args.left c.requires.next in
    let y = var_at (vars_of p) c.args.var in
    let t = c.xtype-xtype.result in
    let k = c.min-count.result in
    let piece = c.fetch.new.out in
    let v = values_of t piece in
    let type_is : t ≡ y.xtype = search rules in
    let size_is : c.size-size.result ≡ size_of t = search rules in
    let slab_is : c.slab.result ≡ y.extent.slab = search rules in
    let few : k ≤ c.args.left = omega (arith, c.min-count.ensures) in
    let long : length piece ≡ k * size_of t = piece_is_long g c in
    let left_are : at.offset + c.args.left * size_of t ≡ y.extent.slab = ap (λ (u : XType). at.offset + c.args.left * size_of u) type_is ∙ at.left_are in
    let fits : at.offset + length piece ≤ y.extent.slab = omega (arith, left_are, long, mul-le k (size_of t) c.args.left (size_of t) few (omega arith)) in
    let after = c.in-Ok-put_bytes.ensures.stands start w copies.stands in
    record {
      state = after.0;
      stands = after.1;
      goes = ap (λ (u : WriterState). u.failed) after.2 ∙ copies.goes;
      front = λ told d is of.
          let of_w = subst (λ (u : WriterState). IsOf bytes p u.schema d) after.2 of in
          let place_is : c.in-Some.place ≡ slab_begin (record_size_of_file p) y c.args.number = search rules in
          let inside : c.in-Some.place + y.extent.slab ≤ file_length_of p = search rules in
          let room : slab_begin (record_size_of_file p) y c.args.number + y.extent.slab ≤ length bytes = omega (arith, place_is, inside, c.open_file_is_long.ensures told) in
          let from_is : c.in-Some.place + c.slab.result - c.args.left * c.size-size.result ≡ slab_begin (record_size_of_file p) y c.args.number + at.offset =
          omega (arith, place_is, slab_is, left_are, ap (λ (n : ℕ). c.args.left * n) size_is) in
          let taken : length (take (k * c.size-size.result) c.args.buffer.now) ≡ length piece = search rules in
          let told_is : piece ≡ take (length (take (k * c.size-size.result) c.args.buffer.now)) (drop (c.in-Some.place + c.slab.result - c.args.left * c.size-size.result) bytes) = c.in-Ok.ensures.told told in
          let piece_at : piece ≡ bytes_at bytes (slab_begin (record_size_of_file p) y c.args.number + at.offset) (length piece) =
          told_is ∙ ap₂ (λ (m n : ℕ). take m (drop n bytes)) taken from_is in
          let front : IsFront (w.taken ++ bytes_of v) (data_of d) = next_front b tells bytes s p start put x c.open_file_stands.ensures c.requires.planned copies c.args.var c.args.number c.args.left c.requires.next d is of_w room told t k piece long fits piece_at in
          subst (λ (u : WriterState). IsFront u.taken (data_of d)) (sym after.2) front;
    }

pub returns-in-Ok-put_bytes-clause-more : goal.returns-in-Ok-put_bytes-clause-more
returns-in-Ok-put_bytes-clause-more g c =
    let file = c.args.file.now in
    let x = c.args.writer.now in
    let s = schema_of file in
    let p = placed_of file in
    let bytes = g.S.Store.bytes (store_of file) in
    let tells = g.S.Store.tells_bytes in
    let b = tells_header tells (must_reopen file) in
    let put = g.W.Sink.put (sink_in x) in
    let start = c.requires.copies.0 in
    let copies = c.requires.copies.1 in
    let w = copies.state in
    let at = faces b tells bytes s p start put x c.open_file_stands.ensures c.requires.planned copies c.args.var c.args.number c.args.left c.requires.next in
    let y = var_at (vars_of p) c.args.var in
    let t = c.xtype-xtype.result in
    let k = c.min-count.result in
    let piece = c.fetch.new.out in
    let v = values_of t piece in
    let type_is : t ≡ y.xtype = search rules in
    let size_is : c.size-size.result ≡ size_of t = search rules in
    let slab_is : c.slab.result ≡ y.extent.slab = search rules in
    let few : k ≤ c.args.left = omega (arith, c.min-count.ensures) in
    let long : length piece ≡ k * size_of t = search rules in
    let left_are : at.offset + c.args.left * size_of t ≡ y.extent.slab = ap (λ (u : XType). at.offset + c.args.left * size_of u) type_is ∙ at.left_are in
    let fits : at.offset + length piece ≤ y.extent.slab = omega (arith, left_are, long, mul-le k (size_of t) c.args.left (size_of t) few (omega arith)) in
    let after = c.in-Ok-put_bytes.ensures.stands start w copies.stands in
    let x' = c.put_bytes.new.self in
    let goes : after.0.failed ≡ false = ap (λ (u : WriterState). u.failed) after.2 ∙ copies.goes in
    let old : taken_in x ≡ length w.taken = taken_is start put x w copies.stands copies.goes in
    let new : taken_in x' ≡ length after.0.taken = taken_is start (g.W.Sink.put (sink_in x')) x' after.0 after.1 goes in
    let grown : length after.0.taken ≡ length w.taken + length piece = ap (λ (u : WriterState). length u.taken) after.2 ∙ length-append w.taken (bytes_of v)
    ∙ ap (λ (n : ℕ). length w.taken + n) (piece_long t k piece long) in
    let one : 1 ≤ k = omega (arith, c.min-count.ensures, at.some, room_for t, ap (λ (n : ℕ). 65536 / n) size_is, ap (λ (n : ℕ). n / c.size-size.result) c.requires.room) in
    let some : 0 < length piece = omega (arith, long, mul-le 1 (size_of t) k (size_of t) one (omega arith), positive t) in
    omega (arith, old, new, grown, some)

pub returns-in-Ok-put_bytes-clause-fewer : goal.returns-in-Ok-put_bytes-clause-fewer
returns-in-Ok-put_bytes-clause-fewer g c =
    let file = c.args.file.now in
    let x = c.args.writer.now in
    let s = schema_of file in
    let p = placed_of file in
    let bytes = g.S.Store.bytes (store_of file) in
    let tells = g.S.Store.tells_bytes in
    let b = tells_header tells (must_reopen file) in
    let put = g.W.Sink.put (sink_in x) in
    let start = c.requires.copies.0 in
    let copies = c.requires.copies.1 in
    let w = copies.state in
    let at = faces b tells bytes s p start put x c.open_file_stands.ensures c.requires.planned copies c.args.var c.args.number c.args.left c.requires.next in
    let y = var_at (vars_of p) c.args.var in
    let t = c.xtype-xtype.result in
    let k = c.min-count.result in
    let piece = c.fetch.new.out in
    let v = values_of t piece in
    let type_is : t ≡ y.xtype = search rules in
    let size_is : c.size-size.result ≡ size_of t = search rules in
    let slab_is : c.slab.result ≡ y.extent.slab = search rules in
    let few : k ≤ c.args.left = omega (arith, c.min-count.ensures) in
    let long : length piece ≡ k * size_of t = search rules in
    let left_are : at.offset + c.args.left * size_of t ≡ y.extent.slab = ap (λ (u : XType). at.offset + c.args.left * size_of u) type_is ∙ at.left_are in
    let fits : at.offset + length piece ≤ y.extent.slab = omega (arith, left_are, long, mul-le k (size_of t) c.args.left (size_of t) few (omega arith)) in
    let after = c.in-Ok-put_bytes.ensures.stands start w copies.stands in
    let x' = c.put_bytes.new.self in
    let goes : after.0.failed ≡ false = ap (λ (u : WriterState). u.failed) after.2 ∙ copies.goes in
    let grown : length after.0.taken ≡ length w.taken + length piece = ap (λ (u : WriterState). length u.taken) after.2 ∙ length-append w.taken (bytes_of v)
    ∙ ap (λ (n : ℕ). length w.taken + n) (piece_long t k piece long) in
    let by : XType → ℕ = λ u. k * size_of u in
    let typed : t ≡ at.n.slab.var.xtype = type_is ∙ at.xtype_is in
    let taken : length after.0.taken ≡ length w.taken + k * size_of at.n.slab.var.xtype = grown ∙ ap (λ (n : ℕ). length w.taken + n) (long ∙ ap by typed) in
    let room = length c.args.buffer.now / c.size-size.result in
    let room_is : room ≡ 65536 / size_of at.n.slab.var.xtype = ap (λ (n : ℕ). n / c.size-size.result) c.requires.room
    ∙ ap (λ (n : ℕ). 65536 / n) size_is ∙ ap (λ (u : XType). 65536 / size_of u) typed in
    let ends = least_ends at.n.slab.var.xtype k at.n.left room (c.min-count.ensures ∙ ap (λ (n : ℕ). min n room) at.left_is) room_is in
    fewer start put x w copies.stands copies.goes at.n at.next_is k (g.W.Sink.put (sink_in x')) x' after.0 after.1 goes (ap (λ (u : WriterState). u.schema) after.2) taken (omega (arith, few, at.left_is)) ends

pub returns-in-Ok-put_bytes-clause-planned : goal.returns-in-Ok-put_bytes-clause-planned
returns-in-Ok-put_bytes-clause-planned g c =
    let file = c.args.file.now in
    let x = c.args.writer.now in
    let s = schema_of file in
    let p = placed_of file in
    let bytes = g.S.Store.bytes (store_of file) in
    let tells = g.S.Store.tells_bytes in
    let b = tells_header tells (must_reopen file) in
    let put = g.W.Sink.put (sink_in x) in
    let start = c.requires.copies.0 in
    let copies = c.requires.copies.1 in
    let w = copies.state in
    let after = c.in-Ok-put_bytes.ensures.stands start w copies.stands in
    after.1.schema ∙ ap (λ (u : WriterState). u.schema) after.2 ∙ sym copies.stands.schema

pub returns-in-Err-clause-stops : goal.returns-in-Err-clause-stops
returns-in-Err-clause-stops g c =
    λ start copies. record {
      is = λ told d is of.
          let file = c.args.file.now in
          let x = c.args.writer.now in
          let s = schema_of file in
          let p = placed_of file in
          let bytes = g.S.Store.bytes (store_of file) in
          let tells = g.S.Store.tells_bytes in
          let b = tells_header tells (must_reopen file) in
          let put = g.W.Sink.put (sink_in x) in
          let w = copies.state in
          let of_w = subst (λ (u : Schema). IsOf bytes p u d) copies.stands.schema of in
          went_so_far start put x w copies.stands d is of_w.schema_is (copies.front told d is of_w) copies.goes c.out_is_in_files.ensures;
    }

pub returns-in-Err-put_bytes-clause-stops : goal.returns-in-Err-put_bytes-clause-stops
returns-in-Err-put_bytes-clause-stops g c =
    let file = c.args.file.now in
    let x = c.args.writer.now in
    let s = schema_of file in
    let p = placed_of file in
    let bytes = g.S.Store.bytes (store_of file) in
    let tells = g.S.Store.tells_bytes in
    let b = tells_header tells (must_reopen file) in
    let put = g.W.Sink.put (sink_in x) in
    let y = var_at (vars_of p) c.args.var in
    let t = c.xtype-xtype.result in
    let k = c.min-count.result in
    let piece = c.fetch.new.out in
    let v = values_of t piece in
    let type_is : t ≡ y.xtype = search rules in
    let size_is : c.size-size.result ≡ size_of t = search rules in
    let slab_is : c.slab.result ≡ y.extent.slab = search rules in
    let few : k ≤ c.args.left = omega (arith, c.min-count.ensures) in
    let long : length piece ≡ k * size_of t = search rules in
    let place_is : c.in-Some.place ≡ slab_begin (record_size_of_file p) y c.args.number = search rules in
    let inside : c.in-Some.place + y.extent.slab ≤ file_length_of p = search rules in
    let taken : length (take (k * c.size-size.result) c.args.buffer.now) ≡ length piece = search rules in
    λ start copies. record {
      is = λ told d is of.
          let w = copies.state in
          let of_w = subst (λ (u : Schema). IsOf bytes p u d) copies.stands.schema of in
          let at = faces b tells bytes s p start put x c.open_file_stands.ensures c.requires.planned copies c.args.var c.args.number c.args.left c.requires.next in
          let left_are : at.offset + c.args.left * size_of t ≡ y.extent.slab = ap (λ (u : XType). at.offset + c.args.left * size_of u) type_is ∙ at.left_are in
          let fits : at.offset + length piece ≤ y.extent.slab = omega (arith, left_are, long, mul-le k (size_of t) c.args.left (size_of t) few (omega arith)) in
          let room : slab_begin (record_size_of_file p) y c.args.number + y.extent.slab ≤ length bytes = omega (arith, place_is, inside, c.open_file_is_long.ensures told) in
          let from_is : c.in-Some.place + c.slab.result - c.args.left * c.size-size.result ≡ slab_begin (record_size_of_file p) y c.args.number + at.offset =
          omega (arith, place_is, slab_is, left_are, ap (λ (n : ℕ). c.args.left * n) size_is) in
          let told_is : piece ≡ take (length (take (k * c.size-size.result) c.args.buffer.now)) (drop (c.in-Some.place + c.slab.result - c.args.left * c.size-size.result) bytes) = c.in-Ok.ensures.told told in
          let piece_at : piece ≡ bytes_at bytes (slab_begin (record_size_of_file p) y c.args.number + at.offset) (length piece) =
          told_is ∙ ap₂ (λ (m n : ℕ). take m (drop n bytes)) taken from_is in
          let front : IsFront (w.taken ++ bytes_of v) (data_of d) = next_front b tells bytes s p start put x c.open_file_stands.ensures c.requires.planned copies c.args.var c.args.number c.args.left c.requires.next d is of_w room told t k piece long fits piece_at in
          let after = c.in-Err-put_bytes.ensures.stands start w copies.stands in
          let e = c.in-Err-put_bytes.field-0 in
          let device : e ≡ Device = device_is w t k piece at.n copies.goes at.next_is (type_is ∙ at.xtype_is) long (omega (arith, few, at.left_is)) e (c.in-Err-put_bytes.ensures.answer start w copies.stands) in
          let failed : after.0 ≡ as_failed (with_values w v) = subst (λ (f : WriteFault). StandsAfter w (with_values w v) after.0 (Err f)) device after.2 in
          let x' = c.put_bytes.new.self in
          let schema_is : after.0.schema ≡ w.schema = ap (λ (u : WriterState). u.schema) failed in
          went_failed start (g.W.Sink.put (sink_in x')) x' after.0 after.1 d is (of_w.schema_is ∙ sym schema_is)
          (subst (λ (u : WriterState). IsFront u.taken (data_of d)) (sym failed) front) (ap (λ (u : WriterState). u.failed) failed);
    }

pub returns-in-Err-put_bytes-clause-planned : goal.returns-in-Err-put_bytes-clause-planned
returns-in-Err-put_bytes-clause-planned g c =
    let file = c.args.file.now in
    let x = c.args.writer.now in
    let s = schema_of file in
    let p = placed_of file in
    let bytes = g.S.Store.bytes (store_of file) in
    let tells = g.S.Store.tells_bytes in
    let b = tells_header tells (must_reopen file) in
    let put = g.W.Sink.put (sink_in x) in
    let start = c.requires.copies.0 in
    let copies = c.requires.copies.1 in
    let w = copies.state in
    let at = faces b tells bytes s p start put x c.open_file_stands.ensures c.requires.planned copies c.args.var c.args.number c.args.left c.requires.next in
    let y = var_at (vars_of p) c.args.var in
    let t = c.xtype-xtype.result in
    let k = c.min-count.result in
    let piece = c.fetch.new.out in
    let v = values_of t piece in
    let type_is : t ≡ y.xtype = search rules in
    let size_is : c.size-size.result ≡ size_of t = search rules in
    let slab_is : c.slab.result ≡ y.extent.slab = search rules in
    let few : k ≤ c.args.left = omega (arith, c.min-count.ensures) in
    let long : length piece ≡ k * size_of t = search rules in
    let left_are : at.offset + c.args.left * size_of t ≡ y.extent.slab = ap (λ (u : XType). at.offset + c.args.left * size_of u) type_is ∙ at.left_are in
    let fits : at.offset + length piece ≤ y.extent.slab = omega (arith, left_are, long, mul-le k (size_of t) c.args.left (size_of t) few (omega arith)) in
    let after = c.in-Err-put_bytes.ensures.stands start w copies.stands in
    let e = c.in-Err-put_bytes.field-0 in
    let device : e ≡ Device = device_is w t k piece at.n copies.goes at.next_is (type_is ∙ at.xtype_is) long (omega (arith, few, at.left_is)) e (c.in-Err-put_bytes.ensures.answer start w copies.stands) in
    let failed : after.0 ≡ as_failed (with_values w v) = subst (λ (f : WriteFault). StandsAfter w (with_values w v) after.0 (Err f)) device after.2 in
    after.1.schema ∙ ap (λ (u : WriterState). u.schema) failed ∙ sym copies.stands.schema

pub returns-in-Err-clause-file : goal.returns-in-Err-clause-file
returns-in-Err-clause-file g c =
    let file = c.args.file.now in
    let x = c.args.writer.now in
    let s = schema_of file in
    let p = placed_of file in
    let bytes = g.S.Store.bytes (store_of file) in
    let tells = g.S.Store.tells_bytes in
    let b = tells_header tells (must_reopen file) in
    let put = g.W.Sink.put (sink_in x) in
    let start = c.requires.copies.0 in
    let copies = c.requires.copies.1 in
    let w = copies.state in
    let at = faces b tells bytes s p start put x c.open_file_stands.ensures c.requires.planned copies c.args.var c.args.number c.args.left c.requires.next in
    let y = var_at (vars_of p) c.args.var in
    let size_is : c.size-size.result ≡ size_of y.xtype = search rules in
    let slab_is : c.slab.result ≡ y.extent.slab = search rules in
    let inside : c.in-Some.place + y.extent.slab ≤ file_length_of p = search rules in
    let few : c.min-count.result ≤ c.args.left = omega (arith, c.min-count.ensures) in
    let left_are : at.offset + c.args.left * c.size-size.result ≡ y.extent.slab = ap (λ (n : ℕ). at.offset + c.args.left * n) size_is ∙ at.left_are in
    let few_bytes : length (take (c.min-count.result * c.size-size.result) c.args.buffer.now) ≤ c.min-count.result * c.size-size.result = omega (arith, length-take (c.min-count.result * c.size-size.result) c.args.buffer.now) in
    files_answered file c.fetch.new.self _ _ true 1 _
    (files_within file c.fetch.new.self _ true 1 _ (file_length_of p) c.in-Err.ensures.file (omega (arith, slab_is, inside, left_are, few_bytes, mul-le c.min-count.result c.size-size.result c.args.left c.size-size.result few (omega arith))))
    (search rules)

pub returns-in-Ok-put_bytes-clause-file : goal.returns-in-Ok-put_bytes-clause-file
returns-in-Ok-put_bytes-clause-file g c =
    let file = c.args.file.now in
    let x = c.args.writer.now in
    let s = schema_of file in
    let p = placed_of file in
    let bytes = g.S.Store.bytes (store_of file) in
    let tells = g.S.Store.tells_bytes in
    let b = tells_header tells (must_reopen file) in
    let put = g.W.Sink.put (sink_in x) in
    let start = c.requires.copies.0 in
    let copies = c.requires.copies.1 in
    let w = copies.state in
    let at = faces b tells bytes s p start put x c.open_file_stands.ensures c.requires.planned copies c.args.var c.args.number c.args.left c.requires.next in
    let y = var_at (vars_of p) c.args.var in
    let size_is : c.size-size.result ≡ size_of y.xtype = search rules in
    let slab_is : c.slab.result ≡ y.extent.slab = search rules in
    let inside : c.in-Some.place + y.extent.slab ≤ file_length_of p = search rules in
    let few : c.min-count.result ≤ c.args.left = omega (arith, c.min-count.ensures) in
    let left_are : at.offset + c.args.left * c.size-size.result ≡ y.extent.slab = ap (λ (n : ℕ). at.offset + c.args.left * n) size_is ∙ at.left_are in
    let few_bytes : length (take (c.min-count.result * c.size-size.result) c.args.buffer.now) ≤ c.min-count.result * c.size-size.result = omega (arith, length-take (c.min-count.result * c.size-size.result) c.args.buffer.now) in
    files_answered file c.fetch.new.self _ _ true 1 _
    (files_within file c.fetch.new.self _ true 1 _ (file_length_of p) c.in-Ok.ensures.file (omega (arith, slab_is, inside, left_are, few_bytes, mul-le c.min-count.result c.size-size.result c.args.left c.size-size.result few (omega arith))))
    (search rules)

pub returns-in-Err-put_bytes-clause-file : goal.returns-in-Err-put_bytes-clause-file
returns-in-Err-put_bytes-clause-file g c =
    let file = c.args.file.now in
    let x = c.args.writer.now in
    let s = schema_of file in
    let p = placed_of file in
    let bytes = g.S.Store.bytes (store_of file) in
    let tells = g.S.Store.tells_bytes in
    let b = tells_header tells (must_reopen file) in
    let put = g.W.Sink.put (sink_in x) in
    let start = c.requires.copies.0 in
    let copies = c.requires.copies.1 in
    let w = copies.state in
    let at = faces b tells bytes s p start put x c.open_file_stands.ensures c.requires.planned copies c.args.var c.args.number c.args.left c.requires.next in
    let y = var_at (vars_of p) c.args.var in
    let size_is : c.size-size.result ≡ size_of y.xtype = search rules in
    let slab_is : c.slab.result ≡ y.extent.slab = search rules in
    let inside : c.in-Some.place + y.extent.slab ≤ file_length_of p = search rules in
    let few : c.min-count.result ≤ c.args.left = omega (arith, c.min-count.ensures) in
    let left_are : at.offset + c.args.left * c.size-size.result ≡ y.extent.slab = ap (λ (n : ℕ). at.offset + c.args.left * n) size_is ∙ at.left_are in
    let few_bytes : length (take (c.min-count.result * c.size-size.result) c.args.buffer.now) ≤ c.min-count.result * c.size-size.result = omega (arith, length-take (c.min-count.result * c.size-size.result) c.args.buffer.now) in
    let t = c.xtype-xtype.result in
    let k = c.min-count.result in
    let piece = c.fetch.new.out in
    let type_is : t ≡ y.xtype = search rules in
    let long : length piece ≡ k * size_of t = search rules in
    let after = c.in-Err-put_bytes.ensures.stands start w copies.stands in
    let e = c.in-Err-put_bytes.field-0 in
    let device : e ≡ Device = device_is w t k piece at.n copies.goes at.next_is (type_is ∙ at.xtype_is) long (omega (arith, few, at.left_is)) e (c.in-Err-put_bytes.ensures.answer start w copies.stands) in
    files_answered file c.fetch.new.self _ _ true 1 _
    (files_within file c.fetch.new.self _ true 1 _ (file_length_of p) c.in-Ok.ensures.file (omega (arith, slab_is, inside, left_are, few_bytes, mul-le c.min-count.result c.size-size.result c.args.left c.size-size.result few (omega arith))))
    (inr (c.in-Ok.ensures.file.reads.counted, subst (λ (f : WriteFault). CountsFailure (g.W.Sink.failures (sink_in x)) (g.W.Sink.failures (sink_in c.put_bytes.new.self)) (Err f)) device c.in-Err-put_bytes.ensures.count))
