-- The reducing volume and temperature of a mixture, and their gradients. Row 0 is the volume, row 1 the temperature.
use Rattle.std.specs.Prelude.{◌||◌, List, [], ◌∷◌, ℕ, eqb, Float, get_or, set, replicate}
use Rattle.std.specs.Float.{nan}
use Rattle.std.specs.Float.Ieee.{eq}
use Rattle.numerics.specs.Double.{◌⊕◌, ◌⊖◌, ◌⊗◌, ◌⊘◌, +0, one, two, pick}
use Rattle.numerics.specs.Iterate.{iter, range}
use Rattle.gerg_reducing.specs.declared.Reduced.{Reduced}
use Rattle.gerg_reducing.specs.declared.Reduced.TheVariants.{Volume, Temperature}
use Rattle.gerg_tables.specs.Tables.{bvij, btij, gvij, gtij}

abbrev pub row_of : Reduced → ℕ
row_of Volume = 0
row_of Temperature = 1

-- "(bvij, gvij) or temperature (btij, gtij)"
unfoldable pub bij : List Float → ℕ → ℕ → ℕ → Float
bij doubles row i j = pick (eqb row 0) (bvij doubles i j) (btij doubles i j)

unfoldable pub gij : List Float → ℕ → ℕ → ℕ → Float
gij doubles row i j = pick (eqb row 0) (gvij doubles i j) (gtij doubles i j)

-- "g .., doubled for i ≠ j"
unfoldable pub weight : List Float → ℕ → ℕ → ℕ → Float
weight doubles row i j = pick (eqb i j) one two ⊗ gij doubles row i j

-- b x_i + x_j
abbrev pub denominator : Float → Float → Float → Float
denominator b xi xj = b ⊗ xi ⊕ xj

-- "q = x_i x_j (x_i + x_j) / (b x_i + x_j)"
abbrev pub quotient : Float → Float → Float → Float
quotient b xi xj = xi ⊗ xj ⊗ (xi ⊕ xj) ⊘ denominator b xi xj

-- "a pair with x_i + x_j = 0 is passed over. Otherwise .. g q, doubled for i ≠ j, is added"; with exactly one fraction zero q vanishes and nothing is divided
unfoldable pub reducing_pair : List Float → List Float → ℕ → ℕ → ℕ → Float → Float
reducing_pair doubles x row i j value =
    let xi = get_or x i nan in
    let xj = get_or x j nan in
    pick ((eq (xi ⊕ xj) +0 || eq xi +0) || eq xj +0) value (value ⊕ weight doubles row i j ⊗ quotient (bij doubles row i j) xi xj)

-- "For 1 ≤ i ≤ j ≤ 21": the pairs i, j for each j from i on,
unfoldable pub reducing_row : List Float → List Float → ℕ → ℕ → Float → Float
reducing_row doubles x row i value = range (reducing_pair doubles x row i) i 21 value

-- and all of them: the reducing volume (row 0) or temperature (row 1)
unfoldable pub reducing : List Float → List Float → ℕ → Float
reducing doubles x row = iter (reducing_row doubles x row) 21 +0

-- v added to element i
unfoldable pub bumped : ℕ → Float → List Float → List Float
bumped i v gradient = set gradient i (get_or gradient i nan ⊕ v)

-- g times the derivative of q by x_i: (x_j (2 x_i + x_j) − b q) / (b x_i + x_j)
unfoldable pub first_part : Float → Float → Float → Float → Float
first_part w b xi xj = w ⊗ (xj ⊗ (two ⊗ xi ⊕ xj) ⊖ b ⊗ quotient b xi xj) ⊘ denominator b xi xj

-- and by x_j: (x_i (x_i + 2 x_j) − q) / (b x_i + x_j)
unfoldable pub second_part : Float → Float → Float → Float → Float
second_part w b xi xj = w ⊗ (xi ⊗ (xi ⊕ two ⊗ xj) ⊖ quotient b xi xj) ⊘ denominator b xi xj

-- "for i = j both parts are added. With exactly one fraction zero the Rust's analytic limits hold": x_j = 0 gives x_i / b by x_j, x_i = 0 gives x_j by x_i
unfoldable pub gradient_pair : List Float → List Float → ℕ → ℕ → ℕ → List Float → List Float
gradient_pair doubles x row i j gradient =
    let xi = get_or x i nan in
    let xj = get_or x j nan in
    let b = bij doubles row i j in
    let w = weight doubles row i j in
    pick (eq (xi ⊕ xj) +0) gradient
    (pick (eq xj +0) (bumped j (w ⊗ xi ⊘ b) gradient)
    (pick (eq xi +0) (bumped i (w ⊗ xj) gradient)
    (bumped j (second_part w b xi xj) (bumped i (first_part w b xi xj) gradient))))

unfoldable pub gradient_row : List Float → List Float → ℕ → ℕ → List Float → List Float
gradient_row doubles x row i gradient = range (gradient_pair doubles x row i) i 21 gradient

unfoldable pub gradient_of : List Float → List Float → ℕ → List Float
gradient_of doubles x row = iter (gradient_row doubles x row) 21 (replicate 21 +0)

-- "The gradients are two rows of 21 numbers"
unfoldable pub gradients_of : List Float → List Float → List (List Float)
gradients_of doubles x = gradient_of doubles x 0 ∷ gradient_of doubles x 1 ∷ []
