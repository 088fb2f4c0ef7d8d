-- What went out, and what waits, while a writer goes on.
use Rattle.std.proofs.Common.{◌≡◌, ℕ, ◌+◌, ◌*◌, ◌<◌, ◌≤◌, ◌-◌, replicate, Bool, true, false, List, [], ◌∷◌, ◌++◌, length, Option, Some, Result, Ok, Err, refl, sym, ap, subst, ◌∙◌, append_assoc, length-append, arith}
use Rattle.std.proofs.Math.Logic.{∥∥₁_elim}
use Rattle.std.proofs.Props.{props}
use Rattle.std.proofs.lemmas.List.{append-nil, take_all, take-append-le}
use Rattle.std.proofs.lemmas.Result.{err_from_is_err_and}
use Rattle.std.specs.Result.{IsErrAnd}
use Rattle.ncc_values.specs.declared.failures.Device.{Device}
use Rattle.ncc_schema.specs.declared.schema.Schema.{Schema}
use Rattle.ncc_schema.proofs.Writing.{puts_both}
use Rattle.ncc_write.specs.Streams.{Streams}
use Rattle.std.specs.Prelude.{◌/◌, ltb, if◌then◌else◌}
use Rattle.std.proofs.lemmas.Bool.{le-ltb, lt-ltb}
use Rattle.std.specs.List.{concat}
use Rattle.ncc_values.specs.Numbers.{IsBytes}
use Rattle.ncc_values.specs.Values.{type_of, count_of, bytes_of}
use Rattle.ncc_values.specs.XType.{size_of}
use Rattle.ncc_values.specs.declared.values.Values.{Values}
use Rattle.ncc_values.specs.declared.xtype.XType.{XType}
use Rattle.ncc_values.proofs.ValuesLemmas.{length-bytes_of}
use Rattle.ncc_build.specs.Building.{IsBuilt}
use Rattle.ncc_build.specs.Dataset.{Slab, slabs_of}
use Rattle.ncc_build.specs.File.{padding_in, padding_bytes}
use Rattle.ncc_build.specs.Fill.{fill_bytes, fills}
use Rattle.ncc_write.specs.declared.slab_order.SlabOrder.{SlabOrder}
use Rattle.ncc_write.specs.declared.var_slab.VarSlab.{VarSlab}
use Rattle.ncc_write.specs.declared.writer.FileWriter.{FileWriter}
use Rattle.ncc_write.specs.Positions.{IsAt, slab_at, end_of}
use Rattle.ncc_write.specs.VarSlabs.{IsSlabOrder, var_slab_at, var_slab_fill, var_slab_for}
use Rattle.ncc_write.specs.Writer.{Stops, StandsOrStops}
use Rattle.ncc_write.specs.Writing.{WriterState, Went, Next, next_of, IsWhole, Grows, grown, IsFront, IsFrontOfFiles, IsOut, IsOutBy, written}
use Rattle.ncc_write.proofs.SlabOrders.{var_slab_is}
use Rattle.ncc_write.proofs.Growing.{grows}
use Rattle.ncc_write.proofs.Fronts.{front_of_front, out_in_files}
use Rattle.ncc_write.proofs.Paddings.{length_fill}
use Rattle.ncc_write.proofs.Positions.{HaveElements, has_elements, moves_on, next_open}

-- what went out and what waits are these bytes
abbrev pub Holds : (start put : Option (List ℕ)) → (waits bytes : List ℕ) → Type 0
Holds start put waits bytes = Went start put (λ out. out ++ waits ≡ bytes)

-- more bytes go after them
pub holds_more : (start old new : Option (List ℕ)) (waits waiting bytes more : List ℕ) → Holds start old waits bytes → Streams old new waits waiting more (Ok tt) → Holds start new waiting (bytes ++ more)
holds_more start old new waits waiting bytes more h s = (
  h.0 ++ s.0,
  puts_both start old new h.0 s.0 h.1 s.1,
  append_assoc h.0 s.0 waiting ∙ ap (λ (l : List ℕ). h.0 ++ l) (sym s.2) ∙ sym (append_assoc h.0 waits more) ∙ ap (λ (l : List ℕ). l ++ more) h.2,
)

-- a front of them went out
pub front_went : (start old new : Option (List ℕ)) (waits waiting bytes more : List ℕ) (e : Device) → Holds start old waits bytes → Streams old new waits waiting more (Err e) → Went start new (λ out. IsFront out (bytes ++ more))
front_went start old new waits waiting bytes more e h s = (
  h.0 ++ s.0,
  puts_both start old new h.0 s.0 h.1 s.2,
  (s.1, ap (λ (l : List ℕ). l ++ more) (sym h.2) ∙ append_assoc h.0 waits more ∙ ap (λ (l : List ℕ). h.0 ++ l) s.3 ∙ sym (append_assoc h.0 s.0 s.1)),
)

-- and so a front of the file of each dataset whose values begin so
pub front_in_files : (s : Schema) (start put : Option (List ℕ)) (taken bytes rest : List ℕ) → written s taken ≡ bytes ++ rest → Went start put (λ out. IsFront out bytes) → Went start put (IsFrontOfFiles s taken)
front_in_files s start put taken bytes rest is w =
    (w.0, w.1, out_in_files s taken w.0 (front_of_front w.0 bytes (written s taken) w.2 (rest, is)))

-- ---- states

pub is_out : (w : WriterState) (start put : Option (List ℕ)) (waits : List ℕ) → w.failed ≡ false → Holds start put waits (written w.schema w.taken) → Went start put (IsOut w waits)
is_out w start put waits stands h = (h.0, h.1, subst (λ (b : Bool). IsOutBy b w waits h.0) (sym stands) h.2)

pub out_is : (w : WriterState) (start put : Option (List ℕ)) (waits : List ℕ) → w.failed ≡ false → Went start put (IsOut w waits) → Holds start put waits (written w.schema w.taken)
out_is w start put waits stands h = (h.0, h.1, subst (λ (b : Bool). IsOutBy b w waits h.0) stands h.2)

pub none_missing : (start put : Option (List ℕ)) (waits bytes : List ℕ) → Went start put (λ out. out ++ waits ++ [] ≡ bytes) → Holds start put waits bytes
none_missing start put waits bytes h = (h.0, h.1, sym (append-nil (h.0 ++ waits)) ∙ h.2)

pub as_bytes : (start put : Option (List ℕ)) (waits a b : List ℕ) → a ≡ b → Holds start put waits a → Holds start put waits b
as_bytes start put waits a b e h = (h.0, h.1, h.2 ∙ e)

-- ---- the next slab

pub have_elements : (s t : Schema) → s ≡ t → ∥ IsBuilt s ∥₁ → HaveElements t
have_elements s t same built = subst HaveElements same (λ k less. ∥∥₁_elim built (hlevel props) (λ (b : IsBuilt s). has_elements s b.sound k less))

pub at_next : (s t : Schema) (c : SlabOrder) (taken k next : ℕ) → s ≡ t → ∥ IsBuilt s ∥₁ → IsSlabOrder s c → k < c.slabs → taken ≡ end_of t (k + 1) → (k + 1 < c.slabs → next ≡ (var_slab_at c (k + 1)).elements) → IsAt t taken (k + 1) next
at_next s t c taken k next same built slab_order less end is =
    let planned : IsSlabOrder t c = subst (λ (u : Schema). IsSlabOrder u c) same slab_order in
    moves_on t taken k next (have_elements s t same built) (omega (arith, less, planned.slabs)) end
    (λ h.
    let there : k + 1 < c.slabs = omega (arith, h, planned.slabs) in
    is there ∙ ap (λ (u : VarSlab). u.elements) (var_slab_is t c planned (k + 1) there))

-- ---- after the exit of a `?`

pub stops_at : {W : Type 0} (Q : Device → Type 0) (start put : Option (List ℕ)) (x : FileWriter W) (w : WriterState) (r : Result (Unit {0}) Device) → IsErrAnd r Q → Stops start put x w → StandsOrStops start put x w r
stops_at Q start put x w r exit stops =
    let p = err_from_is_err_and r exit in
    subst (λ (q : Result (Unit {0}) Device). StandsOrStops start put x w q) (sym p.1) stops

-- ---- a slab that is closed

-- the bytes that are there, before those that are missing
pub missing_there : (start put : Option (List ℕ)) (waits missing bytes : List ℕ) → Went start put (λ out. out ++ waits ++ missing ≡ bytes) → (there : List ℕ) × Holds start put waits there × (bytes ≡ there ++ missing)
missing_there start put waits missing bytes h = (h.0 ++ waits, (h.0, h.1, refl), sym h.2)

-- the fill value of a variable's slabs
pub fill_of_var_slab : (s : Schema) (b : Slab) → var_slab_fill (var_slab_for s b) ≡ fill_bytes b.var
fill_of_var_slab s b = take-append-le (size_of b.var.xtype) (fill_bytes b.var) (replicate (8 - size_of b.var.xtype) 0) (omega (arith, length_fill b.var)) ∙ take_all (size_of b.var.xtype) (fill_bytes b.var) (omega (arith, length_fill b.var))

-- the padding is a number of fill values
pub padding_is : (s : Schema) (b : Slab) (t : VarSlab) → t ≡ var_slab_for s b → concat (replicate t.padding (var_slab_fill t)) ≡ padding_bytes s b.var
padding_is s b t is = ap (λ (u : VarSlab). concat (replicate u.padding (var_slab_fill u))) is ∙ ap (λ (f : List ℕ). concat (replicate (padding_in s b.var / size_of b.var.xtype) f)) (fill_of_var_slab s b)

-- nothing is missing any more
pub some_missing : (start put : Option (List ℕ)) (waits bytes there : List ℕ) → bytes ≡ there → Holds start put waits there → Went start put (λ out. out ++ waits ++ [] ≡ bytes)
some_missing start put waits bytes there is h = (h.0, h.1, append-nil (h.0 ++ waits) ∙ h.2 ∙ sym is)

-- ---- values

-- so many elements with these bytes are taken, where the writer stands in a slab
pub record Taking (s : Schema) (taken : List ℕ) (k left : ℕ) (bytes : List ℕ) (count : ℕ) : Type 0 where
  pub there : k < length (slabs_of s)
  pub next : next_of s taken ≡ Some (record { slab = slab_at s k; left = left })
  pub grows : Grows s taken bytes count (record { slab = slab_at s k; left = left })
  pub total : length (taken ++ bytes) ≡ length taken + count * size_of (slab_at s k).var.xtype

pub taking : (s : Schema) (c : SlabOrder) (taken : List ℕ) (k left : ℕ) (bytes : List ℕ) (count : ℕ) → IsSlabOrder s c → IsAt s (length taken) k left → IsWhole s taken → k < c.slabs
    → length bytes ≡ count * size_of (slab_at s k).var.xtype → count ≤ left → Taking s taken k left bytes count
taking s c taken k left bytes count slab_order at whole less long room =
    let there : k < length (slabs_of s) = omega (arith, less, slab_order.slabs) in
    let next = next_open s taken k left at there in
    record {
      there = there;
      next = next;
      grows = grows s taken bytes count (record { slab = slab_at s k; left = left }) whole next long room;
      total = length-append taken bytes ∙ ap (λ (n : ℕ). length taken + n) long;
    }

-- values of the slab's type have as many bytes
pub values_long : (s : Schema) (c : SlabOrder) (k : ℕ) (values : Values) → IsSlabOrder s c → k < c.slabs → type_of values ≡ (var_slab_at c k).xtype → length (bytes_of values) ≡ count_of values * size_of (slab_at s k).var.xtype
values_long s c k values slab_order less typed =
    length-bytes_of values ∙ ap (λ (t : XType). count_of values * size_of t) (typed ∙ ap (λ (t : VarSlab). t.xtype) (var_slab_is s c slab_order k less))

pub grown_open : (s : Schema) (n : Next) (old bytes : List ℕ) (k : ℕ) → k < n.left → grown s n old bytes k ≡ old ++ bytes
grown_open s n old bytes k few = ap (λ (b : Bool). if b then old ++ bytes else old ++ bytes ++ padding_bytes s n.slab.var) (lt-ltb k n.left few)

pub grown_full : (s : Schema) (n : Next) (old bytes : List ℕ) (k : ℕ) → n.left ≤ k → grown s n old bytes k ≡ old ++ bytes ++ padding_bytes s n.slab.var
grown_full s n old bytes k all = ap (λ (b : Bool). if b then old ++ bytes else old ++ bytes ++ padding_bytes s n.slab.var) (le-ltb k n.left all)

-- a front of what is written goes out, whether the slab is padded or not
pub grown_front : (s : Schema) (n : Next) (old bytes : List ℕ) (k : ℕ) → (rest : List ℕ) × (grown s n old bytes k ≡ old ++ bytes ++ rest)
grown_front s n old bytes k = by (ltb k n.left) refl
  where
    by : (b : Bool) → ltb k n.left ≡ b → (rest : List ℕ) × (grown s n old bytes k ≡ old ++ bytes ++ rest)
    by true is = ([], ap (λ (b : Bool). if b then old ++ bytes else old ++ bytes ++ padding_bytes s n.slab.var) is ∙ sym (append-nil (old ++ bytes)))
    by false is = (padding_bytes s n.slab.var, ap (λ (b : Bool). if b then old ++ bytes else old ++ bytes ++ padding_bytes s n.slab.var) is)

pub bytes_both : (a b : List ℕ) → IsBytes a → IsBytes b → IsBytes (a ++ b)
bytes_both [] b x y = y
bytes_both (n ∷ a) b x y = (x.0, bytes_both a b x.1 y)

pub missing_is : (start put : Option (List ℕ)) (waits there missing bytes : List ℕ) → there ++ missing ≡ bytes → Holds start put waits there → Went start put (λ out. out ++ waits ++ missing ≡ bytes)
missing_is start put waits there missing bytes e h = (h.0, h.1, ap (λ (l : List ℕ). l ++ missing) h.2 ∙ e)

-- so many fill values of a variable's slabs are those of the variable
pub fills_are : (s : Schema) (b : Slab) (t : VarSlab) (n : ℕ) → t ≡ var_slab_for s b → concat (replicate n (var_slab_fill t)) ≡ fills n b.var
fills_are s b t n is = ap (λ (u : VarSlab). concat (replicate n (var_slab_fill u))) is ∙ ap (λ (f : List ℕ). concat (replicate n f)) (fill_of_var_slab s b)

-- where these elements were not all put, what went out begins each file whose values begin so
pub given_stops : (s : Schema) (c : SlabOrder) (taken : List ℕ) (k left : ℕ) (bytes : List ℕ) (count : ℕ) → IsSlabOrder s c
    → IsAt s (length taken) k left → IsWhole s taken → k < c.slabs
    → length bytes ≡ count * size_of (slab_at s k).var.xtype → count ≤ left
    → (start old new : Option (List ℕ)) (waits waiting : List ℕ) (e : Device) → Holds start old waits (written s taken)
    → Streams old new waits waiting bytes (Err e) → Went start new (IsFrontOfFiles s (taken ++ bytes))
given_stops s c taken k left bytes count planned at whole there long room start old new waits waiting e holds streams =
    let t = taking s c taken k left bytes count planned at whole there long room in
    let rest = grown_front s (record { slab = slab_at s k; left = left }) (written s taken) bytes count in
    front_in_files s start new (taken ++ bytes) (written s taken ++ bytes) rest.0 (t.grows.written_is ∙ rest.1)
    (front_went start old new waits waiting (written s taken) bytes e holds streams)
