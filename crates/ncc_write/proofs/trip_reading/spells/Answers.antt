use Rattle.std.proofs.Common.{rules}
use Rattle.ncc_write.proofs.TripValues.{is_counted, is_whole}
use Rattle.ncc_write.proofs.trip_reading.spells.Goals as goal

pub returns-then-bytes-size-ne0 : goal.returns-then-bytes-size-ne0
returns-then-bytes-size-ne0 c = (
  λ no. absurd (cc no),
  λ same.
      let whole = is_whole c.args.values.now c.args.bytes.now same in
      search (rules, whole),
)

pub returns-then-bytes-size : goal.returns-then-bytes-size
returns-then-bytes-size c = (
  λ no. absurd (cc no),
  λ same.
      let counted = is_counted c.args.values.now c.args.bytes.now same in
      search (rules, counted),
)
