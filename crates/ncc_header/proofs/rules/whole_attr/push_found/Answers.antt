use Rattle.std.proofs.Common.{◌≡◌, ◌++◌, ◌∷◌, ℕ, List, [], length, slice_set, ap, ◌∙◌, arith}
use Rattle.std.specs.Vec.{vec_len}
use Rattle.std.proofs.Math.Seq.{set-append_seam}
use Rattle.std.proofs.lemmas.Result.{on_ok_weaker}
use Rattle.ncc_values.specs.Values.{no_values, values_of}
use Rattle.ncc_schema.specs.declared.schema.Attr.{Attr}
use Rattle.ncc_header.proofs.rules.whole_attr.push_found.Goals as goal

pub returns : goal.returns
returns c =
    let old : List Attr = c.args.attrs.now.items in
    let made = c.fill.new.attr in
    let same : vec_len c.args.attrs.now ≡ length old = omega arith in
    let x : Attr = record { name = c.args.found.name.now; values = values_of c.args.found.xtype c.args.found.values.now } in
    on_ok_weaker c.fill.result
    (λ (is : made ≡ x).
    ap (λ (n : ℕ). slice_set c.push_empty.new.attrs.items n made) (c.len-number.ensures ∙ same)
    ∙ ap (λ (items : List Attr). slice_set items (length old) made) (c.push_empty.ensures ∙ ap (λ (items : List Attr). items ++ record { name = []; values = no_values c.args.found.xtype } ∷ []) c.make_room.ensures.same)
    ∙ set-append_seam old _ [] made
    ∙ ap (λ (a : Attr). old ++ a ∷ []) is)
    c.fill.ensures
