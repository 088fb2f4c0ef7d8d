use Rattle.std.proofs.Common.{inr, arith}
use Rattle.ncc_schema.specs.Schema.{places_of}
use Rattle.ncc_c.proofs.CountsFit.{fits}
use Rattle.ncc_c.proofs.Indexing.{short_as}
use Rattle.ncc_c.proofs.index.put_found.Goals as goal

pub counts_of-counts-requires-clause-attrs : goal.counts_of-counts-requires-clause-attrs
counts_of-counts-requires-clause-attrs c =
    let b = c.requires.begun in
    let h = c.args.found.now.header in
    let same = c.length_is_canonical.ensures b.0 b.1 h b.2 in
    (fits h.schema (places_of h.places) b.2.is_header.legal.number (omega (arith, same))).attr_count

pub counts_of-counts-requires-clause-ids : goal.counts_of-counts-requires-clause-ids
counts_of-counts-requires-clause-ids c =
    let b = c.requires.begun in
    let h = c.args.found.now.header in
    let same = c.length_is_canonical.ensures b.0 b.1 h b.2 in
    (fits h.schema (places_of h.places) b.2.is_header.legal.number (omega (arith, same))).id_count

pub returns-then-is_short-clause-puts : goal.returns-then-is_short-clause-puts
returns-then-is_short-clause-puts c =
    inr (c.counts_of-counts.ensures.outcome, short_as c.args.found.now.header.schema c.counts_of-counts.result _ _ _ _ c.counts_of-counts.ensures.counts c.if-is_short.ensures)

pub put_rows-requires-clause-fits : goal.put_rows-requires-clause-fits
put_rows-requires-clause-fits c =
    let b = c.requires.begun in
    let h = c.args.found.now.header in
    let same = c.length_is_canonical.ensures b.0 b.1 h b.2 in
    (places_of h.places, b.2.is_header.legal.number, omega (arith, same))
