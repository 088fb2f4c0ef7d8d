use Rattle.std.proofs.Common.{◌-◌, ℕ, List, drop, ap, ◌∙◌}
use Rattle.std.proofs.Math.ListN.{set}
use Rattle.ncc_decimal.proofs.Pointing.{point_stands}
use Rattle.ncc_decimal.proofs.written.point_ahead.Goals as goal

pub returns-clause-text : goal.returns-clause-text
returns-clause-text c =
    let old = c.args.room.now in
    let start = c.args.start in
    ap (λ (l : List ℕ). drop (c.args.first - 1) (set l (start - c.args.count - 1) 46)) c.copy_within.ensures.after
    ∙ point_stands old (drop start old) c.args.n c.args.first c.args.count start c.ranges.n.fits c.requires.room.0 c.requires.whole c.requires.digits c.requires.room.1 c.requires.ahead
