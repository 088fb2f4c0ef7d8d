use Rattle.std.proofs.Common.{◌≡◌, ℕ, ◌+◌, ◌-◌, ◌*◌, ◌/◌, ◌∙◌, length, ap, arith}
use Rattle.std.proofs.lemmas.Nat.{div-add-mod'}
use Rattle.ncc_values.proofs.ElementsLemmas.{bytes_by-between}
use Rattle.ncc_values.proofs.inline_list.InlineList.put_from.Goals as goal

pub returns : goal.returns
returns g c =
    let width = g.T.External.SIZE in
    let room = length c.args.out.now in
    let count = room / width in
    let counted : room / c.SIZE.result ≡ count = ap (λ (n : ℕ). room / n) c.SIZE.ensures in
    let whole : room ≡ count * width = omega (arith, div-add-mod' room width, c.requires.whole) in
    c.put_elements.ensures
    ∙ rw c.as_slice-items.ensures (bytes_by-between g.T.External.number g.T.External.TYPE c.args.self.now c.args.first count (c.args.first + room / c.SIZE.result - c.args.first) width room g.met.T.External.has_size whole (omega (arith, counted)) c.requires.there)
