-- Row 1: which files are accepted, and the offset of the first bad record of one that is not.
use Rattle.std.specs.Prelude.{Bool, true, ◌&&◌, cond, List, [], ◌∷◌, ℕ, zero, suc, ◌+◌, ◌-◌, ◌*◌, leb, eqb, length, Result, Ok, Err}
use Rattle.numerics.specs.Double.{pick}
use Rattle.gerg_file.specs.Kinds as Kinds
use Rattle.gerg_file.specs.Bytes.{byte, term_count}
use Rattle.gerg_file.specs.declared.Layout.{Layout}
use Rattle.gerg_refusals.specs.declared.Refusal.{Refusal}
use Rattle.gerg_refusals.specs.declared.Refusal.TheVariants.{File}
use Rattle.gerg_refusals.specs.Refusal.{value_of}
use Rattle.gerg_refusals.specs.Answer.{and_then}

-- where a walk over records has come: past the last, or to the start of the first bad one
abbrev pub Walk : Type 0
Walk = Result ℕ Refusal

-- where a walk has come
abbrev pub place : Walk → ℕ
place (Ok at) = at
place (Err r) = value_of r

-- n things in a row, numbered from i, of which each begins where the one before ended, up to the first bad record
unfoldable pub chain : (ℕ → ℕ → Walk) → ℕ → ℕ → ℕ → Walk
chain step zero i at = Ok at
chain step (suc n) i at = and_then (step i at) (chain step n (i + 1))

-- a good record is passed, and a bad one refused at its start
abbrev pub passed : Bool → ℕ → ℕ → Walk
passed good size at = pick good (Ok (at + size)) (Err (File at))

-- "Each record is one kind byte and a body whose length the kind fixes": a record of `size` bytes, that begins with its kind and its leading number and has two counts `counts` bytes past its start, together at most `limit`
abbrev pub counted : List ℕ → ℕ → ℕ → ℕ → ℕ → ℕ → ℕ → Walk
counted s kind size counts limit lead at =
    passed
    (leb (at + size) (length s) && eqb (byte s at) kind && eqb (byte s (at + 1)) lead && leb (term_count s (at + counts)) limit)
    size
    at

-- a record of `size` bytes that begins with its kind and two leading numbers
abbrev pub numbered : List ℕ → ℕ → ℕ → ℕ → ℕ → ℕ → Walk
numbered s kind size lead number at =
    passed (leb (at + size) (length s) && eqb (byte s at) kind && eqb (byte s (at + 1)) lead && eqb (byte s (at + 2)) number) size at

-- "all kpol + kexp terms of each component", or of each departure function: for number i as many as the two counts of its own record say. Those records begin at `base`, have `stride` bytes each and their counts `counts` bytes past their start
abbrev pub group : List ℕ → ℕ → ℕ → ℕ → ℕ → ℕ → ℕ → ℕ → Walk
group s kind size base counts stride i at = chain (numbered s kind size i) (term_count s (base + (counts + stride * (i - 1)))) 1 at

-- a record of kind 2, with "at most 24" terms
abbrev pub component_step : List ℕ → ℕ → ℕ → Walk
component_step s = counted s (Kinds.component).kind (Kinds.component).size (Kinds.component).counts 24

-- the records of kind 3 of one component
abbrev pub term_row : List ℕ → ℕ → ℕ → Walk
term_row s = group s (Kinds.term).kind (Kinds.term).size (Kinds.revision).size (Kinds.component).counts (Kinds.component).size

-- "the 231 pairs i ≤ j": those of one i
abbrev pub pair_row : List ℕ → ℕ → ℕ → Walk
pair_row s i at = chain (numbered s (Kinds.pair).kind (Kinds.pair).size i) (22 - i) i at

-- a record of kind 5, with "at most 12" terms
abbrev pub function_step : List ℕ → ℕ → ℕ → Walk
function_step s = counted s (Kinds.function).kind (Kinds.function).size (Kinds.function).counts 12

-- the records of kind 6 of one departure function, where the functions begin at `functions`
abbrev pub departure_row : List ℕ → ℕ → ℕ → ℕ → Walk
departure_row s functions = group s (Kinds.departure).kind (Kinds.departure).size functions (Kinds.function).counts (Kinds.function).size

-- whether the bytes bs stand at a place
unfoldable pub same_at : List ℕ → ℕ → List ℕ → Bool
same_at s at [] = true
same_at s at (b ∷ bs) = eqb (byte s at) b && same_at s (at + 1) bs

-- "the 40 ASCII characters of `GERG_DATA_REVISION`", 3bdb9ab8ff317c618b0b59d1b704c2c86ddc5fce
abbrev pub revision : List ℕ
revision = 51 ∷ 98 ∷ 100 ∷ 98 ∷ 57 ∷ 97 ∷ 98 ∷ 56 ∷ 102 ∷ 102 ∷ 51 ∷ 49 ∷ 55 ∷ 99 ∷ 54 ∷ 49 ∷ 56 ∷ 98 ∷ 48 ∷ 98 ∷ 53 ∷ 57 ∷ 100 ∷ 49 ∷ 98 ∷ 55 ∷ 48 ∷ 52 ∷ 99 ∷ 50 ∷ 99 ∷ 56 ∷ 54 ∷ 100 ∷ 100 ∷ 99 ∷ 53 ∷ 102 ∷ 99 ∷ 101 ∷ []

-- how many records that begin with kind 5 follow each other from `at` on, n at most
unfoldable pub functions : List ℕ → ℕ → ℕ → ℕ
functions s zero at = 0
functions s (suc n) at = cond (eqb (byte s at) (Kinds.function).kind) (suc (functions s n (at + (Kinds.function).size))) 0

-- The file, section by section: "one kind 1,
unfoldable pub after_revision : List ℕ → Walk
after_revision s = pick (eqb (byte s 0) (Kinds.revision).kind && same_at s 1 revision) (Ok (Kinds.revision).size) (Err (File 0))

-- 21 of kind 2,
unfoldable pub after_components : List ℕ → Walk
after_components s = and_then (after_revision s) (chain (component_step s) 21 1)

-- all kpol + kexp terms (at most 24) of each component,
unfoldable pub after_terms : List ℕ → Walk
after_terms s = and_then (after_components s) (chain (term_row s) 21 1)

-- the 231 pairs i ≤ j,
unfoldable pub after_pairs : List ℕ → Walk
after_pairs s = and_then (after_terms s) (chain (pair_row s) 21 1)

-- 0 to 10 departure functions, (an eleventh is refused by the next section, at the same offset)
unfoldable pub function_count : List ℕ → ℕ
function_count s = functions s 10 (place (after_pairs s))

unfoldable pub after_functions : List ℕ → Walk
after_functions s = and_then (after_pairs s) (chain (function_step s) (function_count s) 1)

-- all their terms (at most 12 each)"
unfoldable pub after_departures : List ℕ → Walk
after_departures s = and_then (after_functions s) (chain (departure_row s (place (after_pairs s))) (function_count s) 1)

-- no "bytes over"
abbrev pub at_end : List ℕ → ℕ → Walk
at_end s at = pick (eqb at (length s)) (Ok at) (Err (File at))

-- "offset of that record, or of the first byte over", or where the sections begin
unfoldable pub verdict : List ℕ → Walk → Result Layout Refusal
verdict s walk =
    and_then walk
    (λ at.
    Ok
    (record {
      terms = place (after_components s);
      pairs = place (after_terms s);
      functions = place (after_pairs s);
      count = function_count s;
      departures = place (after_functions s);
      length = at;
    }))

unfoldable pub file_of : List ℕ → Result Layout Refusal
file_of s = verdict s (and_then (after_departures s) (at_end s))
