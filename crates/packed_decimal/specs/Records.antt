-- The records of a chromatograph's list: where each begins, the first wrong one, what they hold, the bytes that they are written as.
use Rattle.std.specs.Prelude.{Bool, not, List, [], ◌++◌, ℕ, zero, suc, ◌+◌, ◌*◌, ◌/◌, eqb, length, get_or}
use Rattle.numerics.specs.Loop.{iter, tabulate}
use Rattle.gerg_model.specs.MixtureCheck.{first_place}
use Rattle.packed_decimal.specs.Record.{record_bytes, component_at, parts_at, wrong_record, record_of}

-- record k begins at byte 6 k, whatever the bytes before it hold
abbrev pub offset_of : ℕ → ℕ
offset_of k = record_bytes * k

-- how many records begin in the bytes, a cut last one too
abbrev pub begun : List ℕ → ℕ
begun bytes = (length bytes + 5) / record_bytes

-- "the offset of the first such record"; where no record is wrong, one that is not before the end of the bytes
unfoldable pub wrong_offset : List ℕ → ℕ
wrong_offset bytes = offset_of (first_place (λ k. wrong_record bytes (offset_of k)) (begun bytes) 0)

-- how many whole records there are, and what they hold
abbrev pub records : List ℕ → ℕ
records bytes = length bytes / record_bytes

unfoldable pub components_of : List ℕ → List ℕ
components_of bytes = tabulate (λ k. component_at bytes (offset_of k)) (records bytes)

unfoldable pub parts_of : List ℕ → List ℕ
parts_of bytes = tabulate (λ k. parts_at bytes (offset_of k)) (records bytes)

-- the total of parts, a whole number without bound
unfoldable pub total_of : List ℕ → ℕ
total_of parts = iter (λ k total. total + get_or parts k 0) (length parts) 0

-- the first n records of components and parts
unfoldable pub records_of : List ℕ → List ℕ → ℕ → List ℕ
records_of list parts zero = []
records_of list parts (suc n) = records_of list parts n ++ record_of (get_or list n 0) (get_or parts n 0)

-- 29: "parts not totalling 1,000,000"
unfoldable pub bad_total : List ℕ → Bool
bad_total parts = not (eqb (total_of parts) 1_000_000)
