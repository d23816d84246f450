-- The middle of two doubles, as every search here takes it.
use Rattle.std.specs.Prelude.{Float}
use Rattle.numerics.specs.Double.{◌⊕◌, ◌⊖◌, ◌⊗◌}
pub use Rattle.numerics.specs.Double.{half}

-- the low end and half of the width
unfoldable pub middle : Float → Float → Float
middle lo hi = lo ⊕ half ⊗ (hi ⊖ lo)
