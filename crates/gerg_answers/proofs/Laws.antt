-- What a code tells of an answer, and what an answer leaves in lent memory. Assumes nothing.
use Rattle.std.proofs.Common.{◌≡◌, ℕ, ◌+◌, ◌*◌, ◌/◌, ◌^◌, ◌<◌, List, refl, ap, mod-eq_of_lt, arith}
use Rattle.std.specs.Prelude.{Result, Ok, Err, Option, Some, None}
use lib.Ieee.{Float}
use Rattle.gerg_refusals.specs.Answer.{number_of, value_of}
use Rattle.gerg_refusals.specs.Code.{code_of, code}
use Rattle.gerg_refusals.specs.declared.Refusal.{Refusal}
use Rattle.gerg.specs.declared.GergState.{GergState}
use Rattle.gerg_density.specs.declared.DensityResult.{DensityResult}
use Rattle.gerg_saturation.specs.declared.PureSaturation.{PureSaturation}
use Rattle.gerg_answers.specs.Answers as is

-- ---- codes: `% 2^32` loses nothing of a value below 2^32
pub code_whole : (number value : ℕ) → value < 2 ^ 32 → code_of number value ≡ number * 2 ^ 32 + value
unfolding code_of
code_whole number value h = ap (λ (v : ℕ). number * 2 ^ 32 + v) (mod-eq_of_lt h)

pub accepted_code_lem : {A : Type 0} (a : Result A Refusal) → value_of a < 2 ^ 32 → is.accepted_code a ≡ number_of a * 2 ^ 32 + value_of a
unfolding is.accepted_code
accepted_code_lem a h = code_whole (number_of a) (value_of a) h

-- of a number of roots, of records or of bytes
code_is : (a : Result ℕ Refusal) → code a ≡ code_of (number_of a) (is.reported a)
unfolding code
code_is (Ok n) = refl
code_is (Err r) = refl

pub code_lem : (a : Result ℕ Refusal) → is.reported a < 2 ^ 32 → code a ≡ number_of a * 2 ^ 32 + is.reported a
code_lem a h = rw (code_is a) (code_whole (number_of a) (is.reported a) h)

pub saturation_code_lem : (a : Result (Option PureSaturation) Refusal) → is.saturation_reported a < 2 ^ 32 → is.saturation_code a ≡ number_of a * 2 ^ 32 + is.saturation_reported a
unfolding is.saturation_code
saturation_code_lem a h = code_whole (number_of a) (is.saturation_reported a) h

-- the number is told whatever the value is
of_code : (n v : ℕ) → code_of n v / 2 ^ 32 ≡ n
unfolding code_of
of_code n v = omega arith

pub code_number : (a : Result ℕ Refusal) → code a / 2 ^ 32 ≡ number_of a
code_number a = rw (code_is a) (of_code (number_of a) (is.reported a))

-- what stands beside the number is below 2^32 where values and numbers of roots, of records or of bytes are
pub reported_below : (a : Result ℕ Refusal) → ((n : ℕ) → a ≡ Ok n → n < 2 ^ 32) → value_of a < 2 ^ 32 → is.reported a < 2 ^ 32
reported_below (Ok n) few h = few n refl
reported_below (Err r) few h = h

pub saturation_below : (a : Result (Option PureSaturation) Refusal) → value_of a < 2 ^ 32 → is.saturation_reported a < 2 ^ 32
saturation_below (Ok (Some s)) h = omega arith
saturation_below (Ok None) h = h
saturation_below (Err r) h = h

-- beside a refusal's number stands its value
pub reported_value : (a : Result ℕ Refusal) → (number_of a ≡ 0 → ⊥) → is.reported a ≡ value_of a
reported_value (Ok n) h = absurd (h refl)
reported_value (Err r) h = refl

pub saturation_value : (a : Result (Option PureSaturation) Refusal) → (number_of a ≡ 0 → ⊥) → is.saturation_reported a ≡ value_of a
saturation_value (Ok s) h = absurd (h refl)
saturation_value (Err r) h = refl

-- ---- lent memory: a refusal leaves it,
pub properties_leaves : (a : Result GergState Refusal) (out : List Float) → (number_of a ≡ 0 → ⊥) → is.properties_written a out ≡ out
unfolding is.properties_written
properties_leaves (Ok s) out h = absurd (h refl)
properties_leaves (Err r) out h = refl

pub density_leaves : (a : Result DensityResult Refusal) (out : List Float) → (number_of a ≡ 0 → ⊥) → is.density_written a out ≡ out
unfolding is.density_written
density_leaves (Ok r) out h = absurd (h refl)
density_leaves (Err r) out h = refl

pub saturation_leaves : (a : Result (Option PureSaturation) Refusal) (out : List Float) → (number_of a ≡ 0 → ⊥) → is.saturation_written a out ≡ out
unfolding is.saturation_written
saturation_leaves (Ok s) out h = absurd (h refl)
saturation_leaves (Err r) out h = refl

-- an accepted answer writes its numbers
pub properties_writes : (a : Result GergState Refusal) (s : GergState) (out : List Float) → a ≡ Ok s → is.properties_written a out ≡ is.numbers_of s
unfolding is.properties_written
properties_writes a s out e = rw e

pub density_writes : (a : Result DensityResult Refusal) (r : DensityResult) (out : List Float) → a ≡ Ok r → is.density_written a out ≡ is.density_numbers r
unfolding is.density_written
density_writes a r out e = rw e

pub saturation_writes : (a : Result (Option PureSaturation) Refusal) (s : PureSaturation) (out : List Float) → a ≡ Ok (Some s) → is.saturation_written a out ≡ is.saturation_numbers s
unfolding is.saturation_written
saturation_writes a s out e = rw e

-- "not enclosed" writes nothing
pub not_enclosed_leaves : (a : Result (Option PureSaturation) Refusal) (out : List Float) → a ≡ Ok None → is.saturation_written a out ≡ out
unfolding is.saturation_written
not_enclosed_leaves a out e = rw e
