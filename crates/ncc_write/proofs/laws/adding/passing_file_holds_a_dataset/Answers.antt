use Rattle.std.proofs.Common.{ℕ, length, refl, subst}
use Rattle.std.specs.List.{AllByRecursion}
use Rattle.ncc_schema.specs.declared.schema.Schema.{Schema}
use Rattle.ncc_schema.specs.Schema.{places_of}
use Rattle.ncc_layout.specs.Extents.{extents_of}
use Rattle.ncc_layout.specs.Plans.{IsKnown}
use Rattle.ncc_layout.specs.Rules.Truncated.{NotTruncated}
use Rattle.ncc_layout.specs.Sizes.{record_size_of}
use Rattle.ncc_write.proofs.FoundDatasets.{HasRoom, count_is, dataset_in, is_dataset}
use Rattle.ncc_write.proofs.FoundValues.{values_held}
use Rattle.ncc_write.proofs.laws.adding.passing_file_holds_a_dataset.Goals as goal

pub returns : goal.returns
returns c = λ bytes limit s p opens are known_count.
    let h = opens.header in
    let places = places_of h.places in
    let begun = opens.passes.begins.is_header in
    let counted : IsKnown h.schema.count = subst (λ (t : Schema). IsKnown t.count) opens.schema_is known_count in
    let room : HasRoom h.schema places bytes = record {
      are = are;
      sound = begun.legal.sound;
      typed = begun.typed;
      counted = counted;
      many = begun.legal.number;
      within = subst (λ (n : ℕ). AllByRecursion (NotTruncated (length bytes) (record_size_of h.schema) n)
          (extents_of h.schema places)) (count_is (record_size_of h.schema) (length bytes)
          (extents_of h.schema places) h.schema.count counted)
          opens.passes.placed.rules.not_truncated;
    } in (
      dataset_in h.schema places bytes,
      is_dataset h.schema places bytes room,
      record {
        header = h;
        passes = opens.passes;
        schema_is = refl;
        places_are = refl;
        holds = values_held h.schema places bytes room;
      },
    )
