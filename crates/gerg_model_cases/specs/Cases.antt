-- The tables of document 01's cases on reducing values.
use Rattle.std.specs.Prelude.{List, [], ◌∷◌, ◌++◌, ℕ, zero, suc, Float, replicate}
use Rattle.numerics.specs.Double.{bits, one, +0}

-- the numbers of n pairs: bt and bv 1, gt 200, gv 0.125, f 0
unfoldable pub equal_pairs : ℕ → List Float
equal_pairs zero = []
equal_pairs (suc n) = one ∷ one ∷ bits 0x4069_0000_0000_0000 ∷ bits 0x3fc0_0000_0000_0000 ∷ +0 ∷ equal_pairs n

-- tables of equal pairs, all else 0
unfoldable pub equal_tables : List Float
equal_tables = replicate 1281 +0 ++ equal_pairs 441 ++ replicate 600 +0
