use Rattle.ncc_front.proofs.Completing.{refused_as, refused_sizes, said_as}
use Rattle.ncc_front.proofs.judging.examine_front.Goals as goal

pub returns-in-Err-sizes_of-clause-refuses : goal.returns-in-Err-sizes_of-clause-refuses
returns-in-Err-sizes_of-clause-refuses c =
    refused_as c.header_or_stop.ensures.apart c.args.front.now c.args.file_length c.args.limit c.in-Ok.header c.in-Err-sizes_of.refusal c.of_layout.result c.of_layout.ensures c.in-Ok.ensures (refused_sizes c.in-Ok.header c.args.file_length c.in-Err-sizes_of.refusal (c.in-Err-sizes_of.ensures.refuses c.args.file_length))

pub returns-in-Err-placed_of-clause-refuses : goal.returns-in-Err-placed_of-clause-refuses
returns-in-Err-placed_of-clause-refuses c =
    refused_as c.header_or_stop.ensures.apart c.args.front.now c.args.file_length c.args.limit c.in-Ok.header c.in-Err-placed_of.refusal c.of_layout-in-Err-placed_of.result c.of_layout-in-Err-placed_of.ensures c.in-Ok.ensures c.in-Err-placed_of.ensures

pub returns-in-Err-clause-refuses : goal.returns-in-Err-clause-refuses
returns-in-Err-clause-refuses c =
    said_as c.args.front.now c.args.file_length c.args.limit c.in-Err.error c.of_front.result c.of_front.ensures c.in-Err.ensures
