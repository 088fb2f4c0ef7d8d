use Rattle.std.proofs.Common.{◌≡◌, ℕ, List, Result, Ok, Err, OnOk, OnErr, ap, subst, sym, ◌∙◌, arith}
use Rattle.ncc_values.specs.BigEndian.{bytes-by_index}
use Rattle.ncc_values.specs.declared.values.Values.{Values}
use Rattle.ncc_values.specs.Values.{type_of, bytes_of, with_bytes}
use Rattle.ncc_values.proofs.ValuesLemmas.{type_of-with_bytes}
use Rattle.ncc_header.proofs.ValuesGathered.{AreFromBytes, added_bytes, added_from_bytes}
use Rattle.ncc_header.proofs.rules.attr.add_values.Goals as goal

-- the values that were added, or where there was no memory those of before
added_or_not : {T E : Type 0} (r : Result T E) (old new : Values) (bytes : List ℕ) → OnOk r (new ≡ with_bytes old bytes) → OnErr r (new ≡ old) → AreFromBytes (with_bytes old bytes) → AreFromBytes old → AreFromBytes new
added_or_not (Ok x) old new bytes ok err from before = subst AreFromBytes (sym ok) from
added_or_not (Err e) old new bytes ok err from before = subst AreFromBytes (sym err) before

pub invariant_of-body : goal.invariant_of-body
invariant_of-body c =
    let body = c.args.body.now in
    record {
      from_bytes = added_or_not c.push_from.result body.values _ c.args.bytes.now c.push_from.ensures.ok c.push_from.ensures.err
          (added_from_bytes body.values c.args.bytes.now (bytes-by_index c.args.bytes.now (λ i. omega (arith, c.type_inv.bytes i))) c.requires body.from_bytes) body.from_bytes;
    }

pub returns-clause-xtype : goal.returns-clause-xtype
returns-clause-xtype c = ap type_of c.in_ok-push_from.ensures.ok ∙ type_of-with_bytes c.args.body.now.values c.args.bytes.now

pub returns-clause-bytes : goal.returns-clause-bytes
returns-clause-bytes c =
    ap bytes_of c.in_ok-push_from.ensures.ok
    ∙ added_bytes c.args.body.now.values c.args.bytes.now (bytes-by_index c.args.bytes.now (λ i. omega (arith, c.type_inv.bytes i))) c.requires
