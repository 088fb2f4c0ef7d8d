use Rattle.std.proofs.Common.{◌≡◌, List, ℕ, [], ◌∷◌, ◌++◌, ap, subst, ◌∙◌}
use Rattle.std.specs.Prelude.{OnOk}
use Rattle.json.specs.Token.{Token, string}
use Rattle.ncc_json.proofs.Texts.{digits_value, text_value}
use Rattle.ncc_json.proofs.values.put_bytes.Goals as goal

pub returns-in-Ok-clause-tokens : goal.returns-in-Ok-clause-tokens
returns-in-Ok-clause-tokens c =
    subst (λ (t : List Token). OnOk c.string.result (c.string.new.self.tokens ≡ c.args.out.now.tokens ++ t))
    (ap (λ (b : List ℕ). string b ∷ []) c.in-Ok.ensures.cases.0 ∙ text_value c.args.bytes.now c.in-Ok.ensures.cases.1)
    c.string.ensures.ok

pub returns-in-Err-clause-tokens : goal.returns-in-Err-clause-tokens
returns-in-Err-clause-tokens c =
    subst (λ (t : List Token). OnOk c.put_hex.result (c.put_hex.new.out.tokens ≡ c.args.out.now.tokens ++ t))
    (digits_value c.args.bytes.now c.in-Err.ensures.cases.0)
    c.put_hex.ensures.tokens
