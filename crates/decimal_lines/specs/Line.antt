-- Lines of two decimal numbers, in ASCII.
use Rattle.std.specs.Prelude.{cond, List, [], ◌∷◌, ◌++◌, ℕ, zero, suc, ◌+◌, ◌-◌, ◌/◌, ◌%◌, eqb, ltb, length, get_or}
use Rattle.decimal_lines.specs.declared.Line.{Line}

-- the decimal digits of a number below 10^k, the highest first
unfoldable pub decimal : ℕ → ℕ → List ℕ
decimal zero n = []
decimal (suc k) n = cond (ltb n 10) ((48 + n) ∷ []) (decimal k (n / 10) ++ ((48 + n % 10) ∷ []))

-- a number, a space, another number and a line's end; numbers of 64 bits have at most 20 digits
unfoldable pub line_from : ℕ → ℕ → List ℕ
line_from number value = (decimal 20 number ++ (32 ∷ [])) ++ (decimal 20 value ++ (10 ∷ []))

-- a number and its count, no line where the count is 0
unfoldable pub count_line : ℕ → ℕ → List ℕ
count_line number count = cond (eqb count 0) [] (line_from number count)

-- the numbers 1 to n with their counts, a line each, in number order
unfoldable pub count_lines : (ℕ → ℕ) → ℕ → List ℕ
count_lines counts zero = []
count_lines counts (suc n) = count_lines counts n ++ count_line (suc n) (counts (suc n))

-- the bytes that the code's line is printed as
abbrev pub line_text : Line → List ℕ
line_text line = line_from line.number line.value

-- and the counts of the numbers from 0 on
abbrev pub count_lines_text : List ℕ → List ℕ
count_lines_text counts = count_lines (λ k. get_or counts k 0) (length counts - 1)
