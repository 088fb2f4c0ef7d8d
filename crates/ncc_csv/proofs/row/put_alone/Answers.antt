use Rattle.std.proofs.Common.{◌∙◌, [], sym}
use Rattle.ncc_csv.proofs.Plain.{plain_row}
use Rattle.ncc_csv.proofs.Runs.{added_line}
use Rattle.ncc_csv.proofs.row.put_alone.Goals as goal

pub returns : goal.returns
returns g c =
    let text = g.T.Cell.text c.args.style c.args.value in
    added_line c.extend_from_slice.result c.args.page.now.items c.extend_from_slice.new.self.items _ _ c.extend_from_slice.ensures.items
    (c.split_at.ensures.back ∙ c.write_value-start.ensures.written ∙ sym (plain_row [] text tt c.write_value-start.ensures.plain))
