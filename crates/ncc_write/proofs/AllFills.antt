-- Filling slab after slab.
use Rattle.std.proofs.Common.{◌≡◌, ℕ, ◌-◌, ◌<◌, ◌≤◌, Bool, true, false, List, [], ◌∷◌, ◌++◌, length, take, drop, Option, Some, refl, sym, ap, subst, ◌∙◌, append_assoc, arith, length-drop}
use Rattle.std.specs.Prelude.{◌/◌, ltb, sum_by}
use Rattle.std.proofs.lemmas.Bool.{ltb-true, ltb-false}
use Rattle.std.proofs.lemmas.List.{append-nil, take_all, take-append-drop}
use Rattle.std.proofs.lemmas.List.Sums.{sum_by-cons}
use Rattle.ncc_values.specs.Numbers.{IsBytes}
use Rattle.ncc_values.specs.XType.{size_of}
use Rattle.ncc_values.specs.declared.xtype.XType.{XType}
use Rattle.ncc_schema.specs.declared.schema.Schema.{Schema}
use Rattle.ncc_layout.specs.Sizes.{slab}
use Rattle.ncc_build.specs.Dataset.{Slab, slabs_of}
use Rattle.ncc_build.specs.Fill.{fills}
use Rattle.ncc_write.specs.Positions.{slab_at}
use Rattle.ncc_write.specs.Writer.{Stands, Stops}
use Rattle.ncc_write.specs.Writing.{WriterState, Next, IsFront, IsFrontOfFiles, IsWhole, data_length, filled_in, next_of, with_fills, with_more}
use Rattle.ncc_write.specs.declared.writer.FileWriter.{FileWriter}
use Rattle.ncc_write.proofs.Filling.{fills_bytes, filled_at_end, filling_goes_on}
use Rattle.ncc_write.proofs.Fronts.{front_behind, front_of_front}
use Rattle.ncc_write.specs.VarSlabs.{IsSlabOrder}
use Rattle.ncc_write.proofs.Going.{bytes_both, Taking, taking}
use Rattle.ncc_write.proofs.Paddings.{length_fills}
use Rattle.ncc_write.proofs.Positions.{next_done}
use Rattle.ncc_write.proofs.Growing.{by_size}
use Rattle.ncc_write.proofs.Taking.{bytes_first, bytes_behind}

-- ---- bytes

pub filled_bytes : (s : Schema) (slabs : List Slab) (taken : List ℕ) → IsBytes taken → IsBytes (filled_in s slabs taken)
filled_bytes s [] taken are = tt
filled_bytes s (b ∷ slabs) taken are =
    let size = slab s.dims b.var in
    bytes_both (take size taken ++ fills ((size - length taken) / size_of b.var.xtype) b.var) (filled_in s slabs (drop size taken))
    (bytes_both (take size taken) (fills ((size - length taken) / size_of b.var.xtype) b.var) (bytes_first size taken are) (fills_bytes ((size - length taken) / size_of b.var.xtype) b.var))
    (filled_bytes s slabs (drop size taken) (bytes_behind size taken are))

-- ---- what was taken stands first

nothing : (t : XType) → 0 / size_of t ≡ 0
nothing t = by_size (λ w. 0 / w ≡ 0) refl refl refl refl t

none : (xs : List ℕ) → length xs ≡ 0 → xs ≡ []
none [] is = refl
none (x ∷ xs) is = absurd (omega (arith, is))

front_by : (s : Schema) (b : Slab) (slabs : List Slab) (taken : List ℕ) (few : Bool) → ltb (length taken) (slab s.dims b.var) ≡ few
    → IsFront (drop (slab s.dims b.var) taken) (filled_in s slabs (drop (slab s.dims b.var) taken)) → IsFront taken (filled_in s (b ∷ slabs) taken)
front_by s b slabs taken true is later =
    let size = slab s.dims b.var in
    let more = fills ((size - length taken) / size_of b.var.xtype) b.var in
    let rest = filled_in s slabs (drop size taken) in
    let all : take size taken ≡ taken = take_all size taken (omega (arith, ltb-true (length taken) size is)) in
    (more ++ rest, ap (λ (l : List ℕ). l ++ more ++ rest) all ∙ append_assoc taken more rest)
front_by s b slabs taken false is later =
    let size = slab s.dims b.var in
    let none : (size - length taken) / size_of b.var.xtype ≡ 0 = ap (λ (n : ℕ). n / size_of b.var.xtype) (let zeroed : size - length taken ≡ 0 = omega (arith, ltb-false (length taken) size is) in zeroed) ∙ nothing b.var.xtype in
    let front = front_behind (take size taken) (drop size taken) (filled_in s slabs (drop size taken)) later in (
      front.0,
      ap (λ (n : ℕ). take size taken ++ fills n b.var ++ filled_in s slabs (drop size taken)) none
          ∙ ap (λ (l : List ℕ). l ++ filled_in s slabs (drop size taken)) (append-nil (take size taken))
          ∙ front.1 ∙ ap (λ (l : List ℕ). l ++ front.0) (take-append-drop size taken),
    )

pub filled_front : (s : Schema) (slabs : List Slab) (taken : List ℕ) → length taken ≤ sum_by (λ b. slab s.dims b.var) slabs → IsFront taken (filled_in s slabs taken)
filled_front s [] taken room = ([], sym (append-nil taken ∙ none taken (omega (arith, room))))
filled_front s (b ∷ slabs) taken room =
    let size = slab s.dims b.var in
    front_by s b slabs taken (ltb (length taken) size) refl
    (filled_front s slabs (drop size taken) (omega (arith, room, sum_by-cons (λ (c : Slab). slab s.dims c.var) b slabs, length-drop size taken)))

pub more_begins : (s : Schema) (less more out : List ℕ) → IsFront less more → IsFrontOfFiles s less out → IsFrontOfFiles s more out
more_begins s less more out front f d is same begins = f d is same (front_of_front less more _ front begins)

-- ---- on the way

-- where a writer that fills in stands, for where it began
pub record FillsOn {W : Type 0} (start put : Option (List ℕ)) (x : FileWriter W) (w : WriterState) : Type 0 where
  pub now : WriterState
  pub at : Stands start put x now
  pub stands : now.failed ≡ false
  pub filling : with_fills now ≡ with_fills w
  pub schema : now.schema ≡ w.schema

pub fills_from : {W : Type 0} (start put : Option (List ℕ)) (x : FileWriter W) (w : WriterState) → Stands start put x w → w.failed ≡ false → FillsOn start put x w
fills_from start put x w at stands = record { now = w; at = at; stands = stands; filling = refl; schema = refl }

-- one slab more is filled
pub goes_on : (w : WriterState) (n : Next) → IsWhole w.schema w.taken → next_of w.schema w.taken ≡ Some n → with_fills (with_more w (fills n.left n.slab.var)) ≡ with_fills w
goes_on w n whole next = ap (λ (bytes : List ℕ). record { schema = w.schema; taken = bytes; failed = w.failed }) (sym (filling_goes_on w.schema w.taken n whole next))

module _ {W : Type 0} (start put : Option (List ℕ)) (x : FileWriter W) (w : WriterState) (f : FillsOn start put x w) where
  abbrev s : Schema
  s = f.now.schema

  planned : IsSlabOrder s x.slab_order
  planned = subst (λ (u : Schema). IsSlabOrder u x.slab_order) f.at.schema x.planned

  abbrev filling : List ℕ
  filling = fills x.left (slab_at s x.slab).var

  module _ (less : x.slab < x.slab_order.slabs) where
    taken : Taking s f.now.taken x.slab x.left filling x.left
    taken = taking s x.slab_order f.now.taken x.slab x.left filling x.left planned (f.at.at f.stands) (f.at.whole f.stands) less (length_fills x.left (slab_at s x.slab).var) (omega arith)

    same : with_fills (with_more f.now filling) ≡ with_fills f.now
    same = goes_on f.now (record { slab = slab_at s x.slab; left = x.left }) (f.at.whole f.stands) taken.next

    module _ (new : Option (List ℕ)) (y : FileWriter W) where
      -- the next slab is filled
      pub fills_more : Stands start new y (with_more f.now filling) → FillsOn start new y w
      fills_more at = record { now = with_more f.now filling; at = at; stands = f.stands; filling = same ∙ f.filling; schema = f.schema }

      -- or the sink failed in it
      pub fills_stop : Stops start new y (with_more f.now filling) → Stops start new y (with_fills w)
      fills_stop stops =
          let more = f.now.taken ++ filling in
          let whole : with_fills (with_more f.now filling) ≡ with_fills w = same ∙ f.filling in
          subst (λ (v : WriterState). Stops start new y v) whole (record {
            schema = stops.schema;
            bytes = filled_bytes s (slabs_of s) more stops.bytes;
            out = (stops.out.0, stops.out.1, more_begins s more (filled_in s (slabs_of s) more) stops.out.0 (filled_front s (slabs_of s) more taken.grows.within) stops.out.2);
          })

  -- nothing is left
  pub fills_end : x.slab_order.slabs ≤ x.slab → Stands start put x (with_fills w)
  fills_end enough =
      let at = f.at.at f.stands in
      let all : x.slab ≡ length (slabs_of s) = omega (arith, enough, planned.slabs, x.within) in
      let total : length f.now.taken ≡ data_length s = at.done all ∙ ap (sum_by (λ b. slab s.dims b.var)) (take_all x.slab (slabs_of s) (omega (arith, all))) in
      let none = filled_at_end s f.now.taken (next_done s f.now.taken x.slab x.left at all) (omega (arith, total)) in
      let whole : f.now ≡ with_fills f.now = ap (λ (bytes : List ℕ). record { schema = s; taken = bytes; failed = f.now.failed }) (sym none) in
      subst (λ (v : WriterState). Stands start put x v) (whole ∙ f.filling) f.at
