-- The departure function of a pair.
use Rattle.std.specs.Prelude.{List, ℕ, ◌-◌, ltb, Option, Some, None}
use Rattle.numerics.specs.Double.{pick}
use Rattle.gerg_tables.specs.Tables.{m_numb}

-- "mNumb s": its number less 1 for a pair i < j that has one, none where the signed number is negative
abbrev pub departure_function : List ℕ → ℕ → ℕ → Option ℕ
departure_function integers i j = pick (ltb (m_numb integers i j) 128) (Some (m_numb integers i j - 1)) None
