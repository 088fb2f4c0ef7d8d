-- A file whose front was examined is opened.
use Rattle.std.proofs.Common.{◌≡◌, ℕ, List, length, refl, sym, ap, subst, ◌∙◌}
use Rattle.std.proofs.lemmas.List.{length-append}
use Rattle.ncc_schema.specs.declared.schema.Header.{Header}
use Rattle.ncc_schema.specs.Schema.{places_of}
use Rattle.ncc_layout.specs.declared.placed_file.Placed.{Placed}
use Rattle.ncc_layout.specs.Placed.{Holds}
use Rattle.ncc_check.specs.Checks.{Opens}
use Rattle.ncc_front.specs.Fronts.{IsFile}
use Rattle.ncc_front.specs.Judging.{FindsOf}

abbrev pub opens : (front : List ℕ) (file limit : ℕ) (h : Header) (p : Placed) (bytes : List ℕ) → FindsOf front file limit h p → IsFile front file bytes → Opens bytes limit h.schema p
opens front file limit h p bytes finds is =
    let same : length bytes ≡ file = ap (λ (x : List ℕ). length x) is.joined ∙ length-append front is.rest ∙ is.long in
    record {
      header = h;
      passes = finds.passes bytes is;
      schema_is = refl;
      placed_is = subst (λ (n : ℕ). Holds h.schema (places_of h.places) h.length n p) (sym same) finds.holds;
    }
