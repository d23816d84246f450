-- How long lines are at most.
use mathlib.Core.Bool.{Bool, true, false, cond}
use Rattle.std.proofs.Common.{arith, ℕ, zero, suc, ◌+◌, ◌*◌, ◌/◌, ◌%◌, ◌≤◌, List, [], ◌∷◌, ◌++◌}
use lib.Dec.{ltb, eqb}
use lib.ListN.{length, length-append}
use Rattle.decimal_lines.specs.Line.{decimal, line_from, count_line, count_lines}

either_length : (b : Bool) (d e k : ℕ) (a : List ℕ) → length a ≤ k → length (cond b (d ∷ []) (a ++ (e ∷ []))) ≤ suc k
either_length true d e k a h = omega arith
either_length false d e k a h = omega (arith, length-append a (e ∷ []))

pub length_decimal : (k n : ℕ) → length (decimal k n) ≤ k
unfolding decimal
length_decimal zero n = omega arith
length_decimal (suc k) n = either_length (ltb n 10) (48 + n) (48 + n % 10) k (decimal k (n / 10)) (length_decimal k (n / 10))

pub line_length : (number value : ℕ) → length (line_from number value) ≤ 42
unfolding line_from
line_length number value =
    let a = decimal 20 number in
    let b = decimal 20 value in
    omega (arith, length-append (a ++ (32 ∷ [])) (b ++ (10 ∷ [])), length-append a (32 ∷ []), length-append b (10 ∷ []), length_decimal 20 number, length_decimal 20 value)

count_length : (number count : ℕ) → length (count_line number count) ≤ 42
unfolding count_line
count_length number count = go (eqb count 0)
  where
    go : (b : Bool) → length (cond b [] (line_from number count)) ≤ 42
    go true = omega arith
    go false = line_length number count

pub count_lines_length : (counts : ℕ → ℕ) (n : ℕ) → length (count_lines counts n) ≤ 42 * n
unfolding count_lines
count_lines_length counts zero = omega arith
count_lines_length counts (suc n) =
    omega (arith, length-append (count_lines counts n) (count_line (suc n) (counts (suc n))), count_lines_length counts n, count_length (suc n) (counts (suc n)))
