-- Where the records of a well-formed file begin, and what stands there.
use mathlib.Core.Path.{◌≡◌}
use mathlib.Core.List.{List}
use Prim.Native.Nat.{ℕ, ◌+◌, ◌-◌, ◌*◌}
use Rattle.gerg_file.specs.Kinds as Kinds
use Rattle.gerg_file.specs.Bytes.{byte}
use Rattle.gerg_file.specs.Counts.{sum, terms_of, departures_of}
use Rattle.gerg_file.specs.declared.Layout.{Layout}

-- Record (3, i + 1, k + 1), (4, i + 1, j + 1), (5, m + 1), (6, m + 1, k + 1). The pairs before row i are 21 + 20 + .., of which i stand for the j below i.
abbrev pub term_record : List ℕ → Layout → ℕ → ℕ → ℕ
term_record s l i k = l.terms + (Kinds.term).size * (sum (terms_of s) i + k)

abbrev pub pair_record : Layout → ℕ → ℕ → ℕ
pair_record l i j = l.pairs + (Kinds.pair).size * (sum (λ h. 20 - h) i + j)

abbrev pub function_record : Layout → ℕ → ℕ
function_record l m = l.functions + (Kinds.function).size * m

abbrev pub departure_record : List ℕ → Layout → ℕ → ℕ → ℕ
departure_record s l m k = l.departures + (Kinds.departure).size * (sum (departures_of s l.functions l.count) m + k)

-- "Records stand by kind, then by their leading numbers": a record of this kind and with these numbers begins at `at`
pub record Stands (s : List ℕ) (kind lead number at : ℕ) : Type 0 where
  pub kind_is : byte s at ≡ kind
  pub lead_is : byte s (at + 1) ≡ lead
  pub number_is : byte s (at + 2) ≡ number
