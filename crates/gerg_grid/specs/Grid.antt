-- The densities at which an isotherm is sampled.
use Rattle.std.specs.Prelude.{Bool, List, [], ◌∷◌, ◌++◌, ℕ, ◌-◌, ltb, pos, Float, length, get_or}
use Rattle.std.specs.Float.{nan, binary64}
use Rattle.std.specs.Float.Ieee.{lt, le, eq, of_int}
use Rattle.numerics.specs.Double.{◌⊕◌, ◌⊖◌, ◌⊗◌, ◌⊘◌, bits, pick}
use Rattle.numerics.specs.Iterate.{iter}
use Rattle.elementary_exp.specs.Exp.{exp_of}
use Rattle.elementary_ln.specs.Ln.{ln_of}

-- 0.001 and 30000 mol/m³
abbrev pub lowest : Float
lowest = bits 0x3f50_624d_d2f1_a9fc

abbrev pub highest : Float
highest = bits 0x40dd_4c00_0000_0000

-- "129 logarithmic .. points": 0.001 × exp(i/128 × ln(30000/0.001))
unfoldable pub logarithmic_point : ℕ → Float
logarithmic_point i = lowest ⊗ exp_of (of_int binary64 (pos i) ⊘ bits 0x4060_0000_0000_0000 ⊗ ln_of (highest ⊘ lowest))

-- "257 even points": 0.001 + i/256 × (30000 − 0.001)
unfoldable pub even_point : ℕ → Float
even_point i = lowest ⊕ of_int binary64 (pos i) ⊘ bits 0x4070_0000_0000_0000 ⊗ (highest ⊖ lowest)

-- "clamped": what f64::clamp gives for every number. No point is a NaN; one would go to the low end
unfoldable pub clamped : Float → Float
clamped x = pick (le lowest x) (pick (le x highest) x highest) lowest

-- the 386 points: the logarithmic ones, then the even ones
unfoldable pub point_at : ℕ → Float
point_at k = clamped (pick (ltb k 129) (logarithmic_point k) (even_point (k - 129)))

-- v goes into a list that has the greatest first, past those that are above it
unfoldable pub inserted : Float → List Float → List Float
inserted v [] = v ∷ []
inserted v (x ∷ xs) = pick (lt v x) (x ∷ inserted v xs) (v ∷ x ∷ xs)

-- xs turned round, before ys
unfoldable pub turned : List Float → List Float → List Float
turned [] ys = ys
turned (x ∷ xs) ys = turned xs (x ∷ ys)

-- the first n points with the greatest first
unfoldable pub greatest_first : ℕ → List Float
greatest_first n = iter (λ k. inserted (point_at k)) n []

-- "sorted"
unfoldable pub sorted_points : List Float
sorted_points = turned (greatest_first 386) []

-- whether x equals the last of xs (where there is none a NaN is read, which equals nothing)
unfoldable pub same_as_last : Float → List Float → Bool
same_as_last x xs = eq (get_or xs (length xs - 1) nan) x

-- "equals dropped": x is kept unless it equals the last one kept
unfoldable pub kept : Float → List Float → List Float
kept x xs = pick (same_as_last x xs) xs (xs ++ (x ∷ []))

unfoldable pub grid_of : List Float
grid_of = iter (λ k. kept (get_or sorted_points k nan)) 386 []
