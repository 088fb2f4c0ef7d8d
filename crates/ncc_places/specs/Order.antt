-- The order in which variables lie in a file.
use Rattle.std.specs.Prelude.{◌==◌, ◌&&◌, ◌||◌, ltb, Bool, List, [], ◌∷◌, if◌then◌else◌}
use Rattle.ncc_layout.specs.declared.extent.Extent.{Extent}

-- by begin, and of equal begins by number
abbrev pub comes_before : Extent → Extent → Bool
comes_before d e = ltb d.begin e.begin || ((d.begin == e.begin) && ltb d.variable e.variable)

-- with one more, before the first that it comes before
abbrev pub placed_among : Extent → List Extent → List Extent
placed_among e [] = e ∷ []
placed_among e (d ∷ es) = if comes_before e d then e ∷ d ∷ es else d ∷ placed_among e es

-- all of them, in that order
abbrev pub by_begin : List Extent → List Extent
by_begin [] = []
by_begin (e ∷ es) = placed_among e (by_begin es)
