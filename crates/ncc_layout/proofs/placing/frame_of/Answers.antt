use Rattle.std.proofs.Common.{ℕ, ◌<◌, List, sym, subst}
use Rattle.std.specs.List.{AllByRecursion}
use Rattle.ncc_schema.specs.Schema.{places_of}
use Rattle.ncc_layout.specs.declared.extent.Extent.{Extent}
use Rattle.ncc_layout.specs.Extents.{extents_of, records_of}
use Rattle.ncc_layout.specs.Bounds.{HasBytes}
use Rattle.ncc_layout.proofs.Laying.{extents_have_bytes, records_have_bytes}
use Rattle.ncc_layout.proofs.placing.frame_of.Goals as goal

pub record_count-requires : goal.record_count-requires
record_count-requires c =
    let s = c.args.header.now.schema in
    let places = places_of c.args.header.now.places in
    record {
      bytes = subst (AllByRecursion HasBytes) (sym c.requires.extents) (extents_have_bytes s places c.requires.legal.sound);
      stride = subst (λ (es : List Extent). AllByRecursion (λ e. 0 < c.args.sizes.now.record_size) (records_of es)) (sym c.requires.extents)
          (subst (λ (n : ℕ). AllByRecursion (λ e. 0 < n) (records_of (extents_of s places))) (sym c.requires.sizes.record_size) (records_have_bytes s places c.requires.legal.sound));
    }
