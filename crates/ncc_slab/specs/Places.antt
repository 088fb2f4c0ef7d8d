-- The places of a selection that are left.
use Rattle.std.specs.Prelude.{ℕ, List}
use Rattle.ncc_slab.specs.declared.places.Places.{Places}
use Rattle.ncc_slab.specs.Grids.{grid_rest}

abbrev pub places_left : Places → List ℕ
places_left p = grid_rest p.grid p.next
