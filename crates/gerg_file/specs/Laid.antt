-- How many terms there are, and what a well-formed file has: the limits of its counts, and its sections, each from where the one before ends.
use Rattle.std.specs.Prelude.{◌≡◌, List, ℕ, ◌+◌, ◌*◌, ◌≤◌, ◌<◌, length}
use Rattle.gerg_file.specs.Kinds as Kinds
use Rattle.gerg_file.specs.declared.Layout.{Layout}
use Rattle.gerg_file.specs.Counts.{sum, terms_of, departures_of}

-- what the bytes s have where row 1 finds the layout l
pub record Laid (s : List ℕ) (l : Layout) : Type 0 where
  -- "all kpol + kexp terms (at most 24) of each component"
  pub terms_limit : (i : ℕ) → i < 21 → terms_of s i ≤ 24
  -- "0 to 10 departure functions"
  pub count_limit : l.count ≤ 10
  -- "all their terms (at most 12 each)"
  pub departures_limit : (m : ℕ) → departures_of s l.functions l.count m ≤ 12
  -- "Records stand by kind": each section follows the one before
  pub terms_at : l.terms ≡ (Kinds.revision).size + (Kinds.component).size * 21
  pub pairs_at : l.pairs ≡ l.terms + (Kinds.term).size * sum (terms_of s) 21
  pub functions_at : l.functions ≡ l.pairs + (Kinds.pair).size * 231
  pub departures_at : l.departures ≡ l.functions + (Kinds.function).size * l.count
  pub length_at : l.length ≡ l.departures + (Kinds.departure).size * sum (departures_of s l.functions l.count) 10
  pub length_is : l.length ≡ length s
