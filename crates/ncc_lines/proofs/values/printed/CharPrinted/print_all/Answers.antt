use Rattle.std.proofs.Common.{◌≡◌, ◌++◌, ℕ, List, [], ◌∷◌, refl, ap, subst, ◌∙◌}
use Rattle.std.specs.Prelude.{map, OnOk}
use Rattle.std.specs.List.{flat_map}
use Rattle.ncc_values.specs.declared.raw.Char.{Char}
use Rattle.ncc_lines.specs.Words.{name_text, escaped, char_text}
use Rattle.ncc_lines.proofs.values.printed.CharPrinted.print_all.Goals as goal

-- characters print as a name of their bytes
text_of_bytes : (chars : List Char) → name_text (map (λ x. x.0) chars) ≡ flat_map char_text chars
text_of_bytes [] = refl
text_of_bytes (c ∷ chars) = ap (λ (z : List ℕ). escaped c.0 ++ z) (text_of_bytes chars)

pub returns : goal.returns
returns c =
    subst (λ (z : List ℕ). OnOk c.push_name.result (c.push_name.new.out.items ≡ c.args.out.now.items ++ z))
    (ap name_text c.copy_chars.ensures ∙ text_of_bytes c.args.values.now) c.push_name.ensures
