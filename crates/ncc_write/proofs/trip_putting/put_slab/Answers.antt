use Rattle.std.proofs.Common.{◌≡◌, ℕ, ◌*◌, ◌/◌, ◌<◌, ◌≤◌, List, Err, length, take, get_or, sym, ap, subst, ◌∙◌, rules}
use Rattle.std.proofs.lemmas.List.{length-take-le}
use Rattle.ncc_values.specs.XType.{size_of}
use Rattle.ncc_schema.specs.declared.schema.Schema.{Schema}
use Rattle.ncc_schema.specs.declared.schema.Var.{Var}
use Rattle.ncc_write.specs.Trips.{PutsSlab}
use Rattle.ncc_write.specs.Writer.{schema_in, sink_in}
use Rattle.ncc_write.specs.declared.trip_fault.TripFault.{TripFault}
use Rattle.ncc_write.proofs.Taking.{bytes_first}
use Rattle.ncc_write.proofs.TripPuts.{comes_next, enough, failed_so, none_left, only_device, some_put, stands_there, var_there}
use Rattle.ncc_write.proofs.trip_putting.put_slab.Goals as goal

pub bounds-as_slice-var : goal.bounds-as_slice-var
bounds-as_slice-var g c =
    let x = c.args.writer.now in
    let stood = c.requires.stood in
    let vars : c.as_slice.result.now ≡ (schema_in x).vars = search rules in
    var_there stood.0 (g.W.Sink.put (sink_in x)) x stood.1 stood.2 stood.3 c.args.var c.requires.awaits.0 c.args.left
    (c.requires.awaits.1 stood.0 stood.1 stood.2) c.as_slice.result.now vars

pub bounds-as_slice-var-2 : goal.bounds-as_slice-var-2
bounds-as_slice-var-2 g c =
    let x = c.args.writer.now in
    let stood = c.requires.stood in
    let vars : c.as_slice.result.now ≡ (schema_in x).vars = search rules in
    var_there stood.0 (g.W.Sink.put (sink_in x)) x stood.1 stood.2 stood.3 c.args.var c.requires.awaits.0 c.args.left
    (c.requires.awaits.1 stood.0 stood.1 stood.2) c.as_slice.result.now vars

pub offset_bounds-as_slice-var : goal.offset_bounds-as_slice-var
offset_bounds-as_slice-var g c =
    let x = c.args.writer.now in
    let stood = c.requires.stood in
    let vars : c.as_slice.result.now ≡ (schema_in x).vars = search rules in
    let less : c.args.var < length c.as_slice.result.now =
    var_there stood.0 (g.W.Sink.put (sink_in x)) x stood.1 stood.2 stood.3 c.args.var c.requires.awaits.0 c.args.left
    (c.requires.awaits.1 stood.0 stood.1 stood.2) c.as_slice.result.now vars in
    search (rules, less)

pub returns-then-bytes-size : goal.returns-then-bytes-size
returns-then-bytes-size g c = record {
  puts = λ start w at goes.
      let x = c.args.writer.now in
      let put = g.W.Sink.put (sink_in x) in
      let vars : c.as_slice.result.now ≡ (schema_in x).vars = search rules in
      let comes = comes_next start put x w at goes c.args.var c.requires.awaits.0 c.args.left (c.requires.awaits.1 start w at) in
      let t = (get_or c.as_slice.result.now c.args.var c.index-as_slice-var.result).xtype in
      let typed : t ≡ comes.n.slab.var.xtype =
      ap (λ (y : Var). y.xtype)
      (ap (λ (l : List Var). get_or l c.args.var c.index-as_slice-var.result) (vars ∙ ap (λ (u : Schema). u.vars) at.schema)
      ∙ comes.var_is c.index-as_slice-var.result) in
      let size_is : c.size-size.result ≡ size_of t = c.size-size.ensures in
      none_left start put x w at goes c.args.var c.args.left comes t typed c.taking_grows.ensures c.args.bytes.now
      (subst (λ (n : ℕ). length c.args.bytes.now / n < c.args.left) size_is c.if-bytes-size.true);
}

pub returns-in-Ok : goal.returns-in-Ok
returns-in-Ok g c = record {
  puts = λ start w at goes.
      let x = c.args.writer.now in
      let put = g.W.Sink.put (sink_in x) in
      let bytes = c.args.bytes.now in
      let vars : c.as_slice.result.now ≡ (schema_in x).vars = search rules in
      let comes = comes_next start put x w at goes c.args.var c.requires.awaits.0 c.args.left (c.requires.awaits.1 start w at) in
      let t = (get_or c.as_slice.result.now c.args.var c.index-as_slice-var.result).xtype in
      let typed : t ≡ comes.n.slab.var.xtype =
      ap (λ (y : Var). y.xtype)
      (ap (λ (l : List Var). get_or l c.args.var c.index-as_slice-var.result) (vars ∙ ap (λ (u : Schema). u.vars) at.schema)
      ∙ comes.var_is c.index-as_slice-var.result) in
      let size_is : c.size-size.result ≡ size_of t = c.size-size.ensures in
      let count = c.args.left * c.size-size.result in
      let count_is : count ≡ c.args.left * size_of t = ap (λ (n : ℕ). c.args.left * n) size_is in
      let fits : count ≤ length bytes =
      subst (λ (n : ℕ). n ≤ length bytes) (sym count_is)
      (enough t (length bytes) c.args.left (subst (λ (n : ℕ). c.args.left ≤ length bytes / n) size_is c.if-bytes-size.false)) in
      let after = c.in-Ok.ensures.stands start w at in (
        subst (λ (n : ℕ). 0 < n) (sym count_is) (some_put start put x w at goes c.args.var c.args.left comes t typed),
        fits,
        stands_there start (g.W.Sink.put (sink_in c.put_bytes.new.self)) c.put_bytes.new.self w after.0 t c.args.left
            (take count bytes) (bytes_first count bytes c.are_bytes.ensures) (length-take-le count bytes fits ∙ count_is) after.1
            after.2,
      );
}

pub returns-in-Err : goal.returns-in-Err
returns-in-Err g c = record {
  puts = λ start w at goes.
      let x = c.args.writer.now in
      let put = g.W.Sink.put (sink_in x) in
      let bytes = c.args.bytes.now in
      let vars : c.as_slice.result.now ≡ (schema_in x).vars = search rules in
      let comes = comes_next start put x w at goes c.args.var c.requires.awaits.0 c.args.left (c.requires.awaits.1 start w at) in
      let t = (get_or c.as_slice.result.now c.args.var c.index-as_slice-var.result).xtype in
      let typed : t ≡ comes.n.slab.var.xtype =
      ap (λ (y : Var). y.xtype)
      (ap (λ (l : List Var). get_or l c.args.var c.index-as_slice-var.result) (vars ∙ ap (λ (u : Schema). u.vars) at.schema)
      ∙ comes.var_is c.index-as_slice-var.result) in
      let size_is : c.size-size.result ≡ size_of t = c.size-size.ensures in
      let count = c.args.left * c.size-size.result in
      let count_is : count ≡ c.args.left * size_of t = ap (λ (n : ℕ). c.args.left * n) size_is in
      let fits : count ≤ length bytes =
      subst (λ (n : ℕ). n ≤ length bytes) (sym count_is)
      (enough t (length bytes) c.args.left (subst (λ (n : ℕ). c.args.left ≤ length bytes / n) size_is c.if-bytes-size.false)) in
      let device = only_device start put x w at goes c.args.var c.args.left comes t typed (take count bytes)
      (length-take-le count bytes fits ∙ count_is) c.in-Err.fault (c.in-Err.ensures.answer start w at) in
      let new = c.put_bytes.new.self in
      subst (λ (f : TripFault). PutsSlab start (g.W.Sink.put (sink_in new)) new w bytes (Err f)) (sym c.of_write.ensures)
      (failed_so start (g.W.Sink.put (sink_in new)) new w bytes c.in-Err.fault device);
}
