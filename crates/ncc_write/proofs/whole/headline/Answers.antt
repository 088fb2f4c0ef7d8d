use Rattle.std.proofs.Common.{◌≤◌, length, ap, ◌∙◌, arith}
use Rattle.std.proofs.Math.Logic.{∥∥₁_map}
use Rattle.ncc_layout.specs.Elements.{var_at}
use Rattle.ncc_layout.specs.Placed.{header_length_of, file_length_of, record_size_of_file, vars_of}
use Rattle.ncc_slab.specs.Selected.{numbers_of}
use Rattle.ncc_slab.specs.Selection.{indices_of}
use Rattle.ncc_write.specs.Laws.{IsCompleted}
use Rattle.ncc_write.proofs.ReadBack.{Laws, not_refused, passes_and_reads, refused_unless}
use Rattle.ncc_write.proofs.whole.headline.Goals as goal

pub returns-clause-reads : goal.returns-clause-reads
returns-clause-reads c = λ bytes limit s p opened n slab.
    let vars = vars_of p in
    let x = var_at vars n in
    let size = record_size_of_file p in
    let long : file_length_of p ≤ length bytes = omega (arith, opened.placed_is.length_is) in
    record {
      refused = refused_unless c.refused_unless_it_fits.ensures vars n slab;
      inside = λ none. c.selected_is_inside.ensures x.shape slab (not_refused vars n slab none).1;
      values = λ values none selected.
          ap numbers_of selected
          ∙ c.numbers_are_there.ensures bytes size x (indices_of slab)
          (c.selected_is_whole.ensures bytes (header_length_of p) (file_length_of p) size vars n slab (c.placed_file_keeps_elements_apart.ensures p) long none);
      parts = λ counts values taken. c.parts_are_selected.ensures bytes size x slab counts values taken;
    }

pub returns-clause-completed : goal.returns-clause-completed
returns-clause-completed c = λ s taken file limit done within.
    let laws : Laws = record {
      one_header = c.header_or_stop.ensures.one_header;
      no_fault = c.passing_has_no_fault.ensures.apart;
      one_report = c.one_report.ensures;
      inside = c.selected_is_inside.ensures;
    } in
    ∥∥₁_map done (λ (d : IsCompleted s taken file). passes_and_reads laws s taken file limit d (d.passes limit within))
