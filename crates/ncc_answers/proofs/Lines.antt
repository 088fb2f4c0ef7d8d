-- Lines of a text.
use Rattle.std.proofs.Common.{◌≡◌, ℕ, suc, ◌+◌, ◌<◌, ◌≤◌, Bool, true, false, List, [], ◌∷◌, ◌++◌, take, drop, length, get_or, refl, sym, ap, ◌∙◌, append_assoc, arith}
use Rattle.std.specs.Prelude.{◌==◌}
use Rattle.std.proofs.lemmas.List.{drop_more}
use Rattle.ncc_answers.specs.Shown.{labelled, labelled_from, line_length, first_line}

-- ---- labels

by_end : (label : List ℕ) (b : ℕ) (text : List ℕ) (ends : Bool) → (b == 10) ≡ ends → labelled_from label false text ≡ take (line_length text) text ++ labelled label (drop (line_length text) text)
    → labelled_from label false (b ∷ text) ≡ take (line_length (b ∷ text)) (b ∷ text) ++ labelled label (drop (line_length (b ∷ text)) (b ∷ text))
by_end label b text true e rest = rw e refl
by_end label b text false e rest = rw e (ap (λ (l : List ℕ). b ∷ l) rest)

-- within a line: its rest, and then the other lines
continued : (label text : List ℕ) → labelled_from label false text ≡ take (line_length text) text ++ labelled label (drop (line_length text) text)
continued label [] = refl
continued label (b ∷ text) = by_end label b text (b == 10) refl (continued label text)

-- the first line of a text, with its label, and then the other lines
pub first_labelled : (label text : List ℕ) → 0 < length text → labelled label text ≡ (label ++ take (line_length text) text) ++ labelled label (drop (line_length text) text)
first_labelled label [] some = absurd (omega (arith, some))
first_labelled label (b ∷ text) some =
    ap (λ (l : List ℕ). label ++ l) (continued label (b ∷ text))
    ∙ sym (append_assoc label (take (line_length (b ∷ text)) (b ∷ text)) (labelled label (drop (line_length (b ∷ text)) (b ∷ text))))

-- ---- the first line, byte by byte

pub length_at_end : (text : List ℕ) (i b : ℕ) → i < length text → b ≡ get_or text i b → b ≡ 10 → line_length (drop i text) ≡ 1
length_at_end text i b inside is ends = ap line_length (drop_more text i b inside) ∙ ap (λ (x : ℕ). line_length (x ∷ drop (i + 1) text)) (sym is) ∙ (rw ends refl)

pub length_goes_on : (text : List ℕ) (i b : ℕ) → i < length text → b ≡ get_or text i b → (b == 10) ≡ false → line_length (drop i text) ≡ suc (line_length (drop (i + 1) text))
length_goes_on text i b inside is on = ap line_length (drop_more text i b inside) ∙ ap (λ (x : ℕ). line_length (x ∷ drop (i + 1) text)) (sym is) ∙ (rw on refl)

pub line_at_end : (text : List ℕ) (i b : ℕ) → i < length text → b ≡ get_or text i b → b ≡ 10 → first_line (drop i text) ≡ []
line_at_end text i b inside is ends = ap first_line (drop_more text i b inside) ∙ ap (λ (x : ℕ). first_line (x ∷ drop (i + 1) text)) (sym is) ∙ (rw ends refl)

pub line_goes_on : (text : List ℕ) (i b : ℕ) → i < length text → b ≡ get_or text i b → (b == 10) ≡ false → first_line (drop i text) ≡ b ∷ first_line (drop (i + 1) text)
line_goes_on text i b inside is on = ap first_line (drop_more text i b inside) ∙ ap (λ (x : ℕ). first_line (x ∷ drop (i + 1) text)) (sym is) ∙ (rw on refl)

-- ---- lengths

more_by_end : (b : ℕ) (text : List ℕ) (ends : Bool) → (b == 10) ≡ ends → line_length text ≤ length text → (line_length (b ∷ text) ≤ length (b ∷ text)) × (0 < line_length (b ∷ text))
more_by_end b text true e le = (rw e (omega arith), rw e (omega arith))
more_by_end b text false e le = (rw e (omega (arith, le)), rw e (omega arith))

pub within : (text : List ℕ) → line_length text ≤ length text
within [] = omega arith
within (b ∷ text) = (more_by_end b text (b == 10) refl (within text)).0

pub some_line : (text : List ℕ) → 0 < length text → 0 < line_length text
some_line [] some = absurd (omega (arith, some))
some_line (b ∷ text) some = (more_by_end b text (b == 10) refl (within text)).1
