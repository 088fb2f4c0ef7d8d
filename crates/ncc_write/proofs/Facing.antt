-- The slab that a writer faces.
use Rattle.std.proofs.Common.{◌≡◌, ◌<◌, ◌≤◌, false, ℕ, List, Option, Some, Ok, Err, sym, ap, subst, ◌∙◌, arith}
use Rattle.ncc_schema.specs.declared.schema.Schema.{Schema}
use Rattle.ncc_values.specs.Values.{count_of, type_of}
use Rattle.ncc_values.specs.declared.values.Values.{Values}
use Rattle.ncc_build.specs.declared.fault.WriteFault.TheVariants.{WrongType, TooManyValues, Device}
use Rattle.ncc_build.specs.declared.fault.WriteFault.{WriteFault}
use Rattle.ncc_write.specs.declared.var_slab.VarSlab.{VarSlab}
use Rattle.ncc_write.specs.declared.writer.FileWriter.{FileWriter}
use Rattle.ncc_write.specs.Positions.{slab_at}
use Rattle.ncc_write.specs.VarSlabs.{IsSlabOrder, var_slab_at}
use Rattle.ncc_write.specs.Writer.{Stands}
use Rattle.ncc_write.specs.Writing.{IsAnswer, Next, WriterState, next_of, refuses_put}
use Rattle.ncc_write.proofs.SlabOrders.{var_slab_is}
use Rattle.ncc_write.proofs.Positions.{next_open}
use Rattle.ncc_write.proofs.Refusing.{wrong_type, too_many, takes, fails}

module _ {W : Type 0} (start put : Option (List ℕ)) (x : FileWriter W) (w : WriterState) (at : Stands start put x w)
    (stands : w.failed ≡ false) (less : x.slab < x.slab_order.slabs) (values : Values) where
  planned : IsSlabOrder w.schema x.slab_order
  planned = subst (λ (u : Schema). IsSlabOrder u x.slab_order) at.schema x.planned

  abbrev n : Next
  n = record { slab = slab_at w.schema x.slab; left = x.left }

  next : next_of w.schema w.taken ≡ Some n
  next = next_open w.schema w.taken x.slab x.left (at.at stands) (omega (arith, less, planned.slabs))

  xtype : (var_slab_at x.slab_order x.slab).xtype ≡ n.slab.var.xtype
  xtype = ap (λ (t : VarSlab). t.xtype) (var_slab_is w.schema x.slab_order planned x.slab less)

  pub faces_other : (type_of values ≡ (var_slab_at x.slab_order x.slab).xtype → ⊥)
      → IsAnswer {T = Unit {0}} (λ (e : WriteFault). e) (refuses_put w values) (Err WrongType)
  faces_other other = wrong_type w values stands n next (λ e. other (e ∙ sym xtype))

  module _ (same : type_of values ≡ (var_slab_at x.slab_order x.slab).xtype) where
    pub faces_fewer : x.left < count_of values
        → IsAnswer {T = Unit {0}} (λ (e : WriteFault). e) (refuses_put w values) (Err TooManyValues)
    faces_fewer many = too_many w values stands n next (same ∙ xtype) many

    pub faces_room : count_of values ≤ x.left → (u : Unit {0})
        → IsAnswer (λ (e : WriteFault). e) (refuses_put w values) (Ok u)
    faces_room room u = takes w values stands n next (same ∙ xtype) room u

    pub faces_failure : count_of values ≤ x.left
        → IsAnswer {T = Unit {0}} (λ (e : WriteFault). e) (refuses_put w values) (Err Device)
    faces_failure room = fails w values stands n next (same ∙ xtype) room
