-- One record of a chromatograph's list: "kind byte 0x10 and a 5-byte body: component number, then eight decimal digits, two to a byte, high digit first, in parts per million". A record is told by the offset `at` of its first byte.
use Rattle.std.specs.Prelude.{Bool, false, not, ◌||◌, List, [], ◌∷◌, ℕ, ◌+◌, ◌*◌, ◌/◌, ◌%◌, eqb, ltb, Float, length, get_or}
use Rattle.std.proofs.Common.{lit≤}
use Rattle.std.specs.Float.{binary64}
use Rattle.std.specs.Float.Ieee.{round}
use Rattle.numerics.specs.Fraction.{Frac}

-- bytes of a record, kind byte and body
abbrev pub record_bytes : ℕ
record_bytes = 6

-- "kind byte 0x10"
abbrev pub record_kind : ℕ
record_kind = 0x10

-- "two to a byte, high digit first": the number that the two digits of a byte make
unfoldable pub two_digits : ℕ → ℕ
two_digits byte = byte / 16 * 10 + byte % 16

-- "a digit above 9", in either half of a byte
unfoldable pub wrong_digits : ℕ → Bool
wrong_digits byte = ltb 9 (byte / 16) || ltb 9 (byte % 16)

-- the component number of the record
unfoldable pub component_at : List ℕ → ℕ → ℕ
component_at bytes at = get_or bytes (at + 1) 0

-- its eight digits
unfoldable pub parts_at : List ℕ → ℕ → ℕ
parts_at bytes at =
    ((two_digits (get_or bytes (at + 2) 0) * 100 + two_digits (get_or bytes (at + 3) 0)) * 100 + two_digits (get_or bytes (at + 4) 0)) * 100
    + two_digits (get_or bytes (at + 5) 0)

-- "a wrong kind, a cut record or a digit above 9": a record is cut where the bytes end before its sixth
unfoldable pub wrong_record : List ℕ → ℕ → Bool
wrong_record bytes at =
    ltb (length bytes) (at + record_bytes)
    || (not (eqb (get_or bytes at 0) record_kind)
    || (wrong_digits (get_or bytes (at + 2) 0) || (wrong_digits (get_or bytes (at + 3) 0) || (wrong_digits (get_or bytes (at + 4) 0) || wrong_digits (get_or bytes (at + 5) 0)))))

-- the byte of two digits
unfoldable pub packed : ℕ → ℕ
packed digits = digits / 10 * 16 + digits % 10

-- the record of a component and its parts, of which it has the last eight digits
unfoldable pub record_of : ℕ → ℕ → List ℕ
record_of component parts =
    record_kind ∷ component ∷ packed (parts / 1_000_000 % 100) ∷ packed (parts / 10_000 % 100) ∷ packed (parts / 100 % 100) ∷ packed (parts % 100) ∷ []

-- parts / 1,000,000
abbrev pub millionths : ℕ → Frac
millionths parts = record { top = parts; bot = 1_000_000; good = lit≤ tt }

-- "each fraction the double nearest to its parts over 1,000,000": that fraction of whole numbers, rounded once
unfoldable pub fraction_of : ℕ → Float
fraction_of parts = round binary64 false (millionths parts).top (millionths parts).bot
