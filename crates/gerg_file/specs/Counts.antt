-- How many terms there are, and where the record of a component begins.
use Rattle.std.specs.Prelude.{cond, List, ℕ, zero, suc, ◌+◌, ◌*◌, ltb}
use Rattle.gerg_file.specs.Kinds as Kinds
use Rattle.gerg_file.specs.Bytes.{term_count}

-- f 0 + f 1 + .. + f (n - 1)
unfoldable pub sum : (ℕ → ℕ) → ℕ → ℕ
sum f zero = 0
sum f (suc n) = sum f n + f n

-- kpol + kexp of component i, counted from 0
unfoldable pub terms_of : List ℕ → ℕ → ℕ
terms_of s i = term_count s ((Kinds.revision).size + ((Kinds.component).counts + (Kinds.component).size * i))

-- kpolij + kexpij of departure function m of `count`, whose records begin at `functions`
unfoldable pub departures_of : List ℕ → ℕ → ℕ → ℕ → ℕ
departures_of s functions count m = cond (ltb m count) (term_count s (functions + ((Kinds.function).counts + (Kinds.function).size * m))) 0

-- where record (2, i + 1) begins
abbrev pub component_record : ℕ → ℕ
component_record i = (Kinds.revision).size + (Kinds.component).size * i
