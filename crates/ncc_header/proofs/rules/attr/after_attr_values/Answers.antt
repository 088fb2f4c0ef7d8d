use Rattle.ncc_header.proofs.ValuesGathered.{rest_whole}
use Rattle.ncc_header.proofs.rules.attr.after_attr_values.Goals as goal

pub add_values-requires : goal.add_values-requires
add_values-requires c = rest_whole c.args.partial.now.body.values c.args.front.now c.args.n c.requires.whole
