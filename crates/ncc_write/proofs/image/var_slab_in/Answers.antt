use Rattle.std.proofs.Common.{◌∙◌}
use Rattle.ncc_write.proofs.RecordParts.{slab_of_sizes}
use Rattle.ncc_write.proofs.image.var_slab_in.Goals as goal

pub var_slab_of-requires-clause-bytes : goal.var_slab_of-requires-clause-bytes
var_slab_of-requires-clause-bytes c =
    c.slab.ensures ∙ slab_of_sizes c.args.schema.now c.args.placed.now c.requires.sizes c.args.number c.requires.there
