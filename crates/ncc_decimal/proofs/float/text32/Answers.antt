use Rattle.std.proofs.Common.{◌≡◌, ◌∙◌, append-nil}
use Rattle.std.specs.Float.Ieee.{binary32}
use Rattle.ncc_decimal.specs.Printed.{float_text}
use Rattle.ncc_decimal.specs.Texts.{text_of}
use Rattle.ncc_decimal.proofs.OneText.{float_text_is}
use Rattle.ncc_decimal.proofs.float.text32.Goals as goal

pub returns-clause-shortest : goal.returns-clause-shortest
returns-clause-shortest c =
    let text = float_text binary32 c.args.bits in
    let is : text_of c.new.result ≡ text = c.new.ensures ∙ c.write32-start.ensures.written ∙ append-nil text in
    rw is (float_text_is binary32 c.args.bits)
