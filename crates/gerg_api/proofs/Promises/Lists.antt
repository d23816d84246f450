-- Request 05, said of the public calls: the codes of the two exports, and that rows 3 and 4 of every call pass what `read_list` gives. Assumes nothing.
use mathlib.Core.Path.{◌≡◌, sym, ap, subst}
use mathlib.Core.List.{List}
use Prim.Native.Nat.{ℕ, zero, suc, ◌+◌, ◌*◌, ◌/◌, ◌^◌, ◌<◌}
use native.Mathlib.Omega.{arith}
use lib.Ieee.{Float}
use lib.ListN.{length, take}
use Rattle.packed_decimal.specs.Records.{records}
use Rattle.chromatograph.specs.Lists.{read_of, components_read, fractions_read, write_answer}
use Rattle.chromatograph.proofs.Laws.Known.{known}
use Rattle.chromatograph.proofs.Promises.Reading.{read_accepted, read_value}
use Rattle.chromatograph.proofs.Promises.Writing.{write_accepted, write_value}
use Rattle.chromatograph.proofs.Promises.Back.{read_mixture}
use Rattle.gerg_tables.specs.declared.Tables.{Tables}
use Rattle.gerg_coefficients.specs.Answer.{tables_of}
use Rattle.gerg.specs.Helmholtz.{normal_range}
use Rattle.gerg.specs.declared.Range.{Range}
use Rattle.gerg.proofs.Laws.Numbers.{evaluate_numbers}
use Rattle.gerg_search.specs.declared.Options.{Options}
use Rattle.gerg_density.proofs.Laws.Numbers.{density_numbers}
use Rattle.gerg_flash.proofs.Laws.Numbers.{roots_numbers}
use Rattle.gerg_ph.proofs.Promises as halving
use Rattle.gerg_prepared.specs.Mixed.{mixed_of, PassesRows3And4}
use Rattle.gerg_prepared.specs.declared.Mixed.{Mixed}
use Rattle.gerg_prepared.proofs.Numbers.{before_row_3, after_row_4, sound_rows}
use Rattle.gerg_refusals.proofs.Then.{then_holds}
use Rattle.gerg_answers.specs.Answers.{reported}
use Rattle.gerg_refusals.specs.Code.{code}
use Rattle.gerg_refusals.specs.Answer.{number_of, passed}
use Rattle.gerg_refusals.specs.Refusal as of_refusal
use Rattle.gerg_answers.proofs.Laws.{code_lem, code_number, reported_below}
use Rattle.gerg_calls.specs.Calls.{properties_in, fugacity_in, density_in}
use Rattle.gerg_calls.proofs.Laws.After.{fugacity_numbers}
use Rattle.gerg_calls.proofs.Laws.Carried.{properties_through, fugacity_through, density_through}
use Rattle.gerg_equilibrium.specs.Equilibrium.{roots_call, saturation_call}
use Rattle.gerg_equilibrium.proofs.Laws.Carried.{roots_through, saturation_through}
use Rattle.gerg_states.specs.States.{run_refusal}
use Rattle.gerg_states.proofs.Promises.{zero_seed_first, then_rows}
use Rattle.std.specs.Prelude.{Result, Ok, Err}
use Rattle.gerg_refusals.specs.declared.Refusal.{Refusal}

-- ---- the codes: number × 2^32 + value; of a list read or written, beside number 0, its records or bytes
module _ (bytes list parts : List ℕ) (fractions : List Float) where
  -- the number is told whatever the length of the bytes is,
  pub read_number : code (read_of bytes list parts fractions) / 2 ^ 32 ≡ number_of (read_of bytes list parts fractions)
  read_number = code_number (read_of bytes list parts fractions)

  -- and the value where they are fewer than 2^32
  pub read_code : length bytes < 2 ^ 32 → code (read_of bytes list parts fractions) ≡ number_of (read_of bytes list parts fractions) * 2 ^ 32 + reported (read_of bytes list parts fractions)
  read_code h = code_lem (read_of bytes list parts fractions) (reported_below (read_of bytes list parts fractions) few (read_value bytes list parts fractions h))
    where
      few : (n : ℕ) → read_of bytes list parts fractions ≡ Ok n → n < 2 ^ 32
      few n e =
          let a = (read_accepted bytes list parts fractions (ap number_of e)).0 in
          let k : n ≡ records bytes = cc in
          omega arith

pub write_code : (list parts out : List ℕ) → code (write_answer list parts (length out)) ≡ number_of (write_answer list parts (length out)) * 2 ^ 32 + reported (write_answer list parts (length out))
write_code list parts out = code_lem (write_answer list parts (length out)) (reported_below (write_answer list parts (length out)) few (write_value list parts out))
  where
    few : (n : ℕ) → write_answer list parts (length out) ≡ Ok n → n < 2 ^ 32
    few n e =
        let a = write_accepted list parts out (ap number_of e) in
        let same = a.0 in
        let k : n ≡ 6 * length list = cc in
        omega (arith, (known list a.1.0.known).few)

-- ---- rows 3 and 4
-- every row of a call after rows 1 to 5 is 6 or later
later_rows : (n : ℕ) → ((n ≡ 0 → ⊥) → 5 < n) → PassesRows3And4 n
later_rows n h = (λ e. let k = h (λ z. omega arith) in omega arith, λ e. let k = h (λ z. omega arith) in omega arith)

above_zero : (n : ℕ) → suc n ≡ 0 → ⊥
above_zero n e = omega arith

-- "the fractions of an accepted list pass rows 3 and 4 of every public call": `bytes` are the list's, `file` any coefficient file's; the components and the fractions stand in the first places of the lent lists
module _ (bytes lentList lentParts : List ℕ) (lentFractions : List Float) (accepted : number_of (read_of bytes lentList lentParts lentFractions) ≡ 0) (file : List ℕ) where
  abbrev list : List ℕ
  list = take (records bytes) (components_read bytes lentList lentParts lentFractions)

  abbrev fractions : List Float
  fractions = take (records bytes) (fractions_read bytes lentList lentParts lentFractions)

  abbrev t : Tables
  t = tables_of file

  abbrev mixed : Result Mixed Refusal
  mixed = mixed_of file list fractions

  rows : PassesRows3And4 (number_of mixed)
  rows = sound_rows file list fractions (read_mixture bytes lentList lentParts lentFractions accepted)

  -- so does a refusal of rows 1 to 5
  rows_refusal : (r : Refusal) → mixed ≡ Err r → PassesRows3And4 (of_refusal.number_of r)
  rows_refusal r e = subst (λ (x : Result Mixed Refusal). PassesRows3And4 (number_of x)) e rows

  module _ (range : Range) (temperature rho : Float) where
    pub properties_passes : PassesRows3And4 (number_of (properties_in file list fractions range temperature rho))
    properties_passes =
        properties_through file list fractions (λ a. PassesRows3And4 (number_of a)) range temperature rho rows_refusal
        (λ m e. later_rows _ (evaluate_numbers t m.model range temperature rho).late)

    pub fugacity_passes : (out : List Float) → PassesRows3And4 (number_of (fugacity_in file list fractions range temperature rho out))
    fugacity_passes out =
        fugacity_through file list fractions (λ a l. PassesRows3And4 (number_of a)) range temperature rho out rows_refusal (λ m e. after_row_4 24 (omega arith))
        (λ m e. later_rows _ (fugacity_numbers t m.model m.gradients range temperature rho).late)

  pub density_passes : (range : Range) (temperature target : Float) (o : Options) → PassesRows3And4 (number_of (density_in file list fractions range temperature target o))
  density_passes range temperature target o =
      density_through file list fractions (λ a l. PassesRows3And4 (number_of a)) range temperature target o rows_refusal
      (λ m e. later_rows _ (density_numbers t m.model range temperature target o).late)

  pub roots_passes : (temperature pressure : Float) (out : List Float) → PassesRows3And4 (number_of (roots_call file list fractions temperature pressure out))
  roots_passes temperature pressure out =
      roots_through file list fractions (λ a l. PassesRows3And4 (number_of a)) temperature pressure out rows_refusal
      (λ m e. later_rows _ (roots_numbers t m.model m.gradients normal_range temperature pressure (length out)).late)

  pub saturation_passes : (pressure lo hi : Float) (limit : ℕ) → PassesRows3And4 (number_of (saturation_call file list fractions pressure lo hi limit))
  saturation_passes pressure lo hi limit =
      saturation_through file list fractions (λ a l. PassesRows3And4 (number_of a)) pressure lo hi limit rows_refusal
      (λ m e. later_rows _ (halving.number_late t m.model m.gradients normal_range pressure lo hi limit))

  -- `count_refusals`: row 27 comes first
  pub run_passes : (seed : ℕ) → PassesRows3And4 (number_of (run_refusal file list fractions seed))
  run_passes zero = subst (λ (x : Result (Unit {0}) Refusal). PassesRows3And4 (number_of x)) (sym (zero_seed_first file list fractions)) (after_row_4 27 (omega arith))
  run_passes (suc seed) =
      subst (λ (x : Result (Unit {0}) Refusal). PassesRows3And4 (number_of x)) (sym (then_rows file list fractions (suc seed) (above_zero seed)))
      (then_holds (λ (x : Result (Unit {0}) Refusal). PassesRows3And4 (number_of x)) mixed (λ m. passed) rows_refusal (λ m e. before_row_3 0 (omega arith)))
