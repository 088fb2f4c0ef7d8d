use Rattle.std.proofs.Common.{◌≡◌, ◌+◌, ◌-◌, ◌*◌, ◌++◌, ℕ, List, length, map, ap, ◌∙◌, sym, arith}
use Rattle.std.proofs.lemmas.List.{length-append, length-map, map-append}
use Rattle.ncc_build.specs.Dataset.{fixed_slabs, record_slabs}
use Rattle.ncc_write.specs.declared.var_slab.VarSlab.{VarSlab}
use Rattle.ncc_write.specs.VarSlabs.{var_slab_for}
use Rattle.ncc_write.proofs.Rounds.{number_of_slabs, slabs_fit}
use Rattle.ncc_write.proofs.slab_order.SlabOrder.new.Goals as goal

pub overflow_mul-result : goal.overflow_mul-result
overflow_mul-result c =
    let s = c.args.schema.now in
    let fixed : c.len-fixed.result ≡ length c.add_var_slabs.new.var_slabs.items = c.len-fixed.ensures ∙ c.add_var_slabs.new.var_slabs.ok.0 in
    let all : c.len.result ≡ length c.add_var_slabs-2.new.var_slabs.items = c.len.ensures ∙ c.add_var_slabs-2.new.var_slabs.ok.0 in
    let more = ap length c.in_ok-add_var_slabs-2.ensures ∙ length-append c.add_var_slabs.new.var_slabs.items (map (var_slab_for s) (record_slabs s 0)) in
    let in_record : c.len.result - c.len-fixed.result ≡ length (record_slabs s 0) = omega (arith, fixed, all, more, length-map (record_slabs s 0) (var_slab_for s)) in
    rw in_record (omega (arith, slabs_fit s c.args.records c.requires.sound c.requires.fits))

pub overflow_add-result : goal.overflow_add-result
overflow_add-result c =
    let s = c.args.schema.now in
    let fixed : c.len-fixed.result ≡ length c.add_var_slabs.new.var_slabs.items = c.len-fixed.ensures ∙ c.add_var_slabs.new.var_slabs.ok.0 in
    let all : c.len.result ≡ length c.add_var_slabs-2.new.var_slabs.items = c.len.ensures ∙ c.add_var_slabs-2.new.var_slabs.ok.0 in
    let first_items : c.add_var_slabs.new.var_slabs.items ≡ map (var_slab_for s) (fixed_slabs s) = c.in_ok-add_var_slabs.ensures ∙ ap (λ (l : List VarSlab). l ++ map (var_slab_for s) (fixed_slabs s)) c.new-var_slabs.ensures.items in
    let first : length c.add_var_slabs.new.var_slabs.items ≡ length (fixed_slabs s) = ap length first_items ∙ length-map (fixed_slabs s) (var_slab_for s) in
    let more = ap length c.in_ok-add_var_slabs-2.ensures ∙ length-append c.add_var_slabs.new.var_slabs.items (map (var_slab_for s) (record_slabs s 0)) in
    let in_record : c.len.result - c.len-fixed.result ≡ length (record_slabs s 0) = omega (arith, fixed, all, more, length-map (record_slabs s 0) (var_slab_for s)) in
    rw in_record (omega (arith, fixed, first, slabs_fit s c.args.records c.requires.sound c.requires.fits))

pub returns : goal.returns
returns c =
    let s = c.args.schema.now in
    let fixed : c.len-fixed.result ≡ length c.add_var_slabs.new.var_slabs.items = c.len-fixed.ensures ∙ c.add_var_slabs.new.var_slabs.ok.0 in
    let all : c.len.result ≡ length c.add_var_slabs-2.new.var_slabs.items = c.len.ensures ∙ c.add_var_slabs-2.new.var_slabs.ok.0 in
    let first_items : c.add_var_slabs.new.var_slabs.items ≡ map (var_slab_for s) (fixed_slabs s) = c.in_ok-add_var_slabs.ensures ∙ ap (λ (l : List VarSlab). l ++ map (var_slab_for s) (fixed_slabs s)) c.new-var_slabs.ensures.items in
    let first : length c.add_var_slabs.new.var_slabs.items ≡ length (fixed_slabs s) = ap length first_items ∙ length-map (fixed_slabs s) (var_slab_for s) in
    let more = ap length c.in_ok-add_var_slabs-2.ensures ∙ length-append c.add_var_slabs.new.var_slabs.items (map (var_slab_for s) (record_slabs s 0)) in
    let in_record : c.len.result - c.len-fixed.result ≡ length (record_slabs s 0) = omega (arith, fixed, all, more, length-map (record_slabs s 0) (var_slab_for s)) in
    record {
      var_slabs = c.in_ok-add_var_slabs-2.ensures ∙ ap (λ (l : List VarSlab). l ++ map (var_slab_for s) (record_slabs s 0)) first_items ∙ sym (map-append (var_slab_for s) (fixed_slabs s) (record_slabs s 0));
      fixed = fixed ∙ first;
      slabs = ap (λ (n : ℕ). c.len-fixed.result + c.args.records * n) in_record ∙ ap (λ (n : ℕ). n + c.args.records * length (record_slabs s 0)) (fixed ∙ first)
          ∙ ap (λ (n : ℕ). length (fixed_slabs s) + n * length (record_slabs s 0)) c.requires.records ∙ sym (number_of_slabs s);
    }
