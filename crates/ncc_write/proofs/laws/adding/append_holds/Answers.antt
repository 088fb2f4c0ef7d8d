use Rattle.std.proofs.Common.{inl, inr, refl}
use Rattle.ncc_check.specs.Appending.{with_record}
use Rattle.ncc_write.specs.Records.{bytes_of_record}
use Rattle.ncc_write.proofs.HeldRecords.{image_long, stood, grown}
use Rattle.ncc_write.proofs.laws.adding.append_holds.Goals as goal

pub returns-clause-grows : goal.returns-clause-grows
returns-clause-grows c = λ bytes limit places d s p slabs a.
    let one = c.header_or_stop.ensures.one_header in
    let image = bytes_of_record s slabs in
    let long = image_long one bytes limit places d s p slabs a in
    grown one bytes limit places d s p slabs a
    (c.bytes_with_a_record_pass_on.ensures.long bytes image limit s p a.opens a.takes long)
    (c.old_elements_stay.ensures.added bytes image limit s p a.opens a.takes)
    (c.bytes_with_a_record_pass_on.ensures.passes bytes image limit s p a.opens a.takes long)
    (λ n place index is. c.old_elements_stay.ensures.elements bytes image (with_record bytes s p image) limit s p n
    place index a.opens a.takes (inr refl) is)

pub returns-clause-stands : goal.returns-clause-stands
returns-clause-stands c = λ bytes new limit places d s p slabs a keeps.
    stood c.header_or_stop.ensures.one_header bytes limit places d s p slabs a new
    (c.kept_bytes_pass_on.ensures.passes bytes new limit s p a.opens a.takes keeps)
    (λ n place index is. c.old_elements_stay.ensures.elements bytes (bytes_of_record s slabs) new limit s p n place
    index a.opens a.takes (inl keeps) is)
