-- The densities of kept roots. Assumes nothing.
use mathlib.Core.List.{List, [], ◌∷◌}
use lib.Ieee.{Float, nan}
use lib.ListN.{get_or}
use Rattle.gerg_root_list.specs.declared.Root.{Root}

-- of each root the density, its first number
unfoldable pub root_list : List Root → List Float
root_list [] = []
root_list (root ∷ roots) = get_or root.head 0 nan ∷ root_list roots
