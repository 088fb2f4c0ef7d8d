use Rattle.std.proofs.Common.{◌≡◌, Some, sym, subst}
use Rattle.ncc_tasks.specs.Given.{given}
use Rattle.ncc_tasks.specs.Options.{option_text}
use Rattle.ncc_tasks.specs.declared.picking.ListOption.{ListOption}
use Rattle.ncc_tasks.proofs.picking.list_given.Goals as goal

pub returns-in-None-clause-refused : goal.returns-in-None-clause-refused
returns-in-None-clause-refused c = λ o e.
    let same : o ≡ c.args.option = cc e in
    let word = sym (rw (c.option_name.ensures, c.in-Some.is) at c.get_str.ensures) in (
      same,
      (
        c.in-Some.text.now,
        subst (λ (x : ListOption). given c.args.words.now (option_text x) ≡ Some c.in-Some.text.now) (sym same) word,
        rw c.in-None.is at c.in_ok-numbers.ensures,
      ),
    )
