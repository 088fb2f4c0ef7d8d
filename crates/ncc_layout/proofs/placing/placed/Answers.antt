use Rattle.std.proofs.Common.{length, ap, ◌∙◌}
use Rattle.ncc_schema.specs.Schema.{places_of}
use Rattle.ncc_layout.proofs.Laying.{extents_long, laid_so, sized_so, holds}
use Rattle.ncc_layout.proofs.placing.placed.Goals as goal

pub lay-requires : goal.lay-requires
lay-requires c =
    let header = c.args.header.now in
    let judged = c.in_ok-frame.ensures.judged in
    let f = c.in_ok-frame.frame in
    let is = c.deref.ensures.value ∙ c.in_ok-extents.ensures.extents in
    record {
      sound = c.requires.legal.sound;
      long = ap length is ∙ extents_long header.schema (places_of header.places) c.requires.legal.number;
      laid = laid_so header.schema (places_of header.places) header.length c.args.file_length c.deref.result.now f judged.1 is judged.0.rules;
      sized = sized_so header.schema (places_of header.places) header.length c.args.file_length c.deref.result.now f judged.1 is c.requires.legal.number c.requires.sizes.none_too_large;
    }

pub returns-clause-placed : goal.returns-clause-placed
returns-clause-placed c =
    let header = c.args.header.now in
    let judged = c.in_ok-frame.ensures.judged in (
      judged.0,
      holds header.schema (places_of header.places) header.length c.args.file_length c.deref.result.now c.in_ok-frame.frame judged.1
          (c.deref.ensures.value ∙ c.in_ok-extents.ensures.extents) c.in_ok-lay.field-0 c.in_ok-lay.ensures.laid,
    )
