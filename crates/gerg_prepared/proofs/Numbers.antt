-- Rows 1 to 5 refuse by a number at most 5 and a value below 2^32, and by 3 and 4 no sound mixture. Assumes nothing.
use mathlib.Core.Path.{◌≡◌, subst}
use mathlib.Core.Bool.{Bool, true, false}
use mathlib.Core.List.{List}
use Prim.Native.Nat.{ℕ, ◌^◌, ◌≤◌, ◌<◌}
use native.Mathlib.Nat.{le_trans}
use native.Mathlib.Omega.{arith}
use lib.Dec.{lit≤}
use lib.Ieee.{Float}
use Rattle.std.specs.Prelude.{Result, Ok, Err}
use Rattle.numerics.specs.Double.{pick}
use Rattle.gerg_refusals.specs.Answer.{number_of, value_of, passed}
use Rattle.gerg_refusals.specs.Refusal as of_refusal
use Rattle.gerg_refusals.specs.declared.Refusal.{Refusal}
use Rattle.gerg_refusals.specs.declared.Refusal.TheVariants as refusal
use Rattle.gerg_refusals.proofs.Then.{then_holds}
use Rattle.gerg_coefficients.specs.Answer as File
use Rattle.gerg_coefficients.specs.Answer.{answer_of, tables_of}
use Rattle.gerg_coefficients.proofs.Bounds.{file_at_most_2, file_value_at_most}
use Rattle.gerg_model.specs.MixtureCheck.{check_of}
use Rattle.gerg_model.specs.Mixture.{model_of, reducing_sound}
use Rattle.gerg_reducing.specs.Reducing.{gradients_of}
use Rattle.gerg_model.proofs.Laws.Numbers.{mixture_at_most_4, mixture_value_at_most_21}
use Rattle.gerg_prepared.specs.Mixed.{sound_mixture, reduced_mixture, checked_from, mixed_from, mixed_of, PassesRows3And4}
use Rattle.gerg_prepared.specs.declared.Mixed.{Mixed}

-- the limits of a number and a value: those of row 5, and of row 1's offset
record Limited (x : Result Mixed Refusal) : Type 0 where
  number : number_of x ≤ 5
  value : value_of x ≤ 28377

sound_limited : (b : Bool) (m : Mixed) → Limited (pick b (Ok m) (Err refusal.Reducing))
sound_limited true m = record { number = omega arith; value = omega arith }
sound_limited false m = record { number = omega arith; value = omega arith }

-- a file's refusal is of row 1 or 2
file_number : (bytes : List ℕ) (r : Refusal) → answer_of bytes ≡ Err r → of_refusal.number_of r ≤ 2
file_number bytes r e = subst (λ x. File.number_of x ≤ 2) e (file_at_most_2 bytes)

file_limited : (bytes : List ℕ) (r : Refusal) → answer_of bytes ≡ Err r → Limited (Err r)
file_limited bytes r e = record { number = le_trans (file_number bytes r e) (lit≤ tt); value = subst (λ x. File.value_of x ≤ 28377) e (file_value_at_most bytes) }

check_limited : (list : List ℕ) (fractions : List Float) (r : Refusal) → check_of list fractions ≡ Err r → Limited (Err r)
check_limited list fractions r e = record {
  number = le_trans (subst (λ x. number_of x ≤ 4) e (mixture_at_most_4 list fractions)) (lit≤ tt);
  value = le_trans (subst (λ x. value_of x ≤ 21) e (mixture_value_at_most_21 list fractions)) (lit≤ tt);
}

mixed_limited : (bytes list : List ℕ) (fractions : List Float) → Limited (mixed_of bytes list fractions)
unfolding mixed_of mixed_from checked_from reduced_mixture sound_mixture
mixed_limited bytes list fractions =
    let doubles = (tables_of bytes).doubles in
    let model = model_of doubles list fractions in
    let gradients = gradients_of doubles model.fractions in
    then_holds Limited (answer_of bytes) (λ length. checked_from doubles list fractions) (file_limited bytes)
    (λ length e.
    then_holds Limited (check_of list fractions) (λ u. reduced_mixture doubles list fractions) (check_limited list fractions)
    (λ u q. sound_limited (reducing_sound model gradients) (record { model = model; gradients = gradients })))

pub rows_at_most_5 : (bytes list : List ℕ) (fractions : List Float) → number_of (mixed_of bytes list fractions) ≤ 5
rows_at_most_5 bytes list fractions = (mixed_limited bytes list fractions).number

pub rows_value_at_most : (bytes list : List ℕ) (fractions : List Float) → value_of (mixed_of bytes list fractions) ≤ 28377
rows_value_at_most bytes list fractions = (mixed_limited bytes list fractions).value

pub rows_value : (bytes list : List ℕ) (fractions : List Float) → value_of (mixed_of bytes list fractions) < 2 ^ 32
rows_value bytes list fractions = let h = rows_value_at_most bytes list fractions in omega arith

-- ---- a number that is neither row 3's nor row 4's
pub before_row_3 : (n : ℕ) → n < 3 → PassesRows3And4 n
before_row_3 n h = (λ e. omega arith, λ e. omega arith)

pub after_row_4 : (n : ℕ) → 4 < n → PassesRows3And4 n
after_row_4 n h = (λ e. omega arith, λ e. omega arith)

either_passes : (b : Bool) (x y : Result Mixed Refusal) → PassesRows3And4 (number_of x) → PassesRows3And4 (number_of y) → PassesRows3And4 (number_of (pick b x y))
either_passes true x y h g = h
either_passes false x y h g = g

-- components and fractions that rows 3 and 4 pass are refused by rows 1, 2 and 5 alone, whatever the file
module _ (bytes list : List ℕ) (fractions : List Float) (sound : check_of list fractions ≡ passed) where
  checked_passes : PassesRows3And4 (number_of (checked_from (tables_of bytes).doubles list fractions))
  unfolding checked_from reduced_mixture sound_mixture
  checked_passes = rw sound (either_passes _ (Ok _) (Err refusal.Reducing) (before_row_3 0 (omega arith)) (after_row_4 5 (omega arith)))

  pub sound_rows : PassesRows3And4 (number_of (mixed_of bytes list fractions))
  unfolding mixed_of mixed_from
  sound_rows =
      then_holds (λ (x : Result Mixed Refusal). PassesRows3And4 (number_of x)) (answer_of bytes) (λ length. checked_from (tables_of bytes).doubles list fractions)
      (λ r e. let most = file_number bytes r e in before_row_3 _ (omega arith)) (λ length e. checked_passes)

-- a row from 6 on is none of rows 1 to 5
pub late : {A : Type 0} (bytes list : List ℕ) (fractions : List Float) (n : ℕ) → 5 < n → number_of (mixed_of bytes list fractions) ≡ n → A
late bytes list fractions n h e = let most = rows_at_most_5 bytes list fractions in absurd (omega arith)
