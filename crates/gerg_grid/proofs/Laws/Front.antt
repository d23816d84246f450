-- The front of an array as a list that grows at its end. Assumes nothing.
use mathlib.Core.List.{List, [], ◌∷◌, ◌++◌}
use mathlib.Core.Path.{◌≡◌}
use Prim.Native.Nat.{ℕ, ◌+◌, ◌-◌, ◌<◌, ◌≤◌}
use native.Mathlib.Numerals.{add-one}
use native.Mathlib.Omega.{arith}
use lib.ListN.{get_or, set, length, take}
use lib.Seq.{take-suc-set, get_or-take, length-take-le}

-- one more is written behind the first n
pub front_more : {A : Type 0} (l : List A) (n : ℕ) (x : A) → n < length l → take (n + 1) (set l n x) ≡ take n l ++ (x ∷ [])
front_more l n x h = rw add-one (take-suc-set l n x h)

-- the last of the first n
pub front_last : {A : Type 0} (l : List A) (n : ℕ) (d : A) → 0 < n → n ≤ length l → get_or (take n l) (length (take n l) - 1) d ≡ get_or l (n - 1) d
front_last l n d p h = rw (length-take-le n l h) (get_or-take n l (n - 1) d (omega arith))
