-- The column, computed by the definition, of a map with 0 and 4 set: at 0; at 1, where no byte of the line ran; a jump to the second byte, and to the
-- third; a line that ends before it; one byte before it. Assumes nothing.
use mathlib.Core.List.{[], ◌∷◌}
use mathlib.Core.Path.{◌≡◌, refl}
use Rattle.characters.specs.Characters.{ascii}
use Rattle.execution_map.specs.Map.{has_run}
use Rattle.listing_marks.specs.Marks.{mark_of}

marks : mark_of (17 ∷ []) 0 3 ∷ mark_of (17 ∷ []) 1 3 ∷ mark_of (17 ∷ []) 3 2 ∷ mark_of (17 ∷ []) 2 3 ∷ mark_of (17 ∷ []) 2 2 ∷ mark_of (17 ∷ []) 3 1 ∷ []
    ≡ ascii "* ++  "
unfolding mark_of has_run
marks = refl
