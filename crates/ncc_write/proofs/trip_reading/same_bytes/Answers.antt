use Rattle.std.proofs.Common.{◌≡◌, ◌*◌, length, take, drop, sym, ◌∙◌, rules}
use Rattle.ncc_values.specs.Values.{bytes_of, type_of}
use Rattle.ncc_values.specs.XType.{size_of}
use Rattle.ncc_write.proofs.TripValues.{all_spelled}
use Rattle.ncc_write.proofs.trip_reading.same_bytes.Goals as goal

pub returns : goal.returns
returns c =
    let v = c.args.values.now in
    let bytes = c.args.bytes.now in
    let put : c.put_from.new.out ≡ take (length bytes) (drop (0 * size_of (type_of v)) (bytes_of v)) = search rules in
    let spelled : c.put_from.new.out ≡ bytes_of v = put ∙ all_spelled v bytes c.requires.whole c.requires.counted in (
      λ is.
          let same : c.put_from.new.out ≡ bytes = search rules in
          sym spelled ∙ same,
      λ same.
          let e : c.put_from.new.out ≡ bytes = spelled ∙ same in
          search rules,
    )
