use Rattle.std.proofs.Common.{◌++◌, List, ℕ, take, replicate, ap, ◌∙◌, append_assoc}
use Rattle.std.specs.List.{concat}
use Rattle.ncc_values.specs.Values.{bytes_of}
use Rattle.ncc_write.proofs.RecordParts.{all_values}
use Rattle.ncc_write.proofs.image.put_slab.Goals as goal

pub returns-clause-bytes : goal.returns-clause-bytes
returns-clause-bytes c =
    let fills = concat (replicate c.args.var_slab.padding c.fill.result.now) in
    c.fill_at.ensures.bytes
    ∙ ap (λ (l : List ℕ). l ++ fills) (c.put_at-end.ensures.bytes
    ∙ ap (λ (l : List ℕ). take c.args.place c.args.image.now ++ l) (all_values c.args.values.now _ c.len.ensures))
    ∙ append_assoc (take c.args.place c.args.image.now) (bytes_of c.args.values.now) fills
    ∙ ap (λ (l : List ℕ). take c.args.place c.args.image.now ++ (bytes_of c.args.values.now ++ concat (replicate c.args.var_slab.padding l))) c.fill.ensures.fill
