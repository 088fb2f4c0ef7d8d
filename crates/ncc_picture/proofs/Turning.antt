-- Extents that are ordered by their slabs keep their numbers.
use Rattle.std.proofs.Common.{ℕ, suc, List, [], ◌∷◌, map}
use Rattle.ncc_layout.specs.declared.extent.Extent.{Extent}
use Rattle.ncc_layout.specs.Extents.{NumberedFrom}
use Rattle.ncc_picture.specs.Parts.{turned}

pub turned_numbered : (n : ℕ) (es : List Extent) → NumberedFrom n es → NumberedFrom n (map turned es)
turned_numbered n [] h = tt
turned_numbered n (e ∷ es) h = (h.0, turned_numbered (suc n) es h.1)
