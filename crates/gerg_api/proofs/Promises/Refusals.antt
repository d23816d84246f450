-- Demand 1, said of the public calls: the numbers and values of their refusals, that number 0 means accepted, and the codes of the C exports. Assumes nothing.
use mathlib.Core.Path.{◌≡◌, ap, ◌∙◌, subst}
use mathlib.Core.Logic.{◌⊎◌}
use mathlib.Core.List.{List}
use Prim.Native.Nat.{ℕ, ◌+◌, ◌*◌, ◌^◌, ◌≤◌, ◌<◌}
use native.Mathlib.Omega.{arith}
use lib.Dec.{T}
use lib.Ieee.{Float, binary64, fits}
use lib.ListN.{length}
use Rattle.gerg_tables.specs.declared.Tables.{Tables}
use Rattle.gerg_coefficients.specs.Answer.{tables_of}
use Rattle.gerg.specs.Helmholtz.{normal_range}
use Rattle.gerg.specs.declared.Range.{Range}
use Rattle.gerg.specs.declared.GergState.{GergState}
use Rattle.gerg_search.specs.States.{Doubles}
use Rattle.gerg_search.specs.declared.Options.{Options}
use Rattle.gerg_density.specs.declared.DensityResult.{DensityResult}
use Rattle.gerg_density.proofs.Laws.Numbers as numbers
use Rattle.gerg_density.proofs.Promises as search
use Rattle.gerg_flash.specs.Roots.{roots_of}
use Rattle.gerg_flash.proofs.Laws.Numbers.{roots_numbers}
use Rattle.gerg_flash.proofs.Promises as scan
use Rattle.gerg_saturation.specs.declared.PureSaturation.{PureSaturation}
use Rattle.gerg_ph.proofs.Promises as halving
use Rattle.gerg_prepared.specs.Mixed.{mixed_of}
use Rattle.gerg_prepared.specs.declared.Mixed.{Mixed}
use Rattle.gerg_prepared.proofs.Laws.{ready}
use Rattle.gerg_prepared.proofs.Numbers.{rows_at_most_5, rows_value, late}
use Rattle.gerg_answers.specs.Answers.{accepted_code, saturation_code, reported, saturation_reported}
use Rattle.gerg_refusals.specs.Code.{code}
use Rattle.gerg_refusals.specs.Answer.{number_of, value_of}
use Rattle.gerg_refusals.specs.Refusal as of_refusal
use Rattle.gerg_refusals.specs.declared.Refusal.{Refusal}
use Rattle.gerg_refusals.proofs.Told.{never_0}
use Rattle.gerg_refusals.proofs.Then.{accepted}
use Rattle.gerg.proofs.Laws.Numbers.{evaluate_at_most_12, evaluate_no_value}
use Rattle.gerg_answers.proofs.Laws as export
use Rattle.gerg_calls.specs.Calls.{properties_in, fugacity_in, density_in}
use Rattle.gerg_equilibrium.specs.Equilibrium.{roots_call, saturation_call}
use Rattle.gerg_calls.proofs.Laws.After as laws
use Rattle.gerg_calls.proofs.Laws.Carried.{properties_through, fugacity_through, density_through}
use Rattle.gerg_equilibrium.proofs.Laws.Carried.{roots_through, saturation_through}
use Rattle.gerg_flash.proofs.Laws.Accepted.{roots_few}
use Rattle.std.specs.Prelude.{Result, Ok, Err, Some, None}

module _ (bytes list : List ℕ) (fractions : List Float) where
  abbrev t : Tables
  t = tables_of bytes

  abbrev mixed : Result Mixed Refusal
  mixed = mixed_of bytes list fractions

  -- ---- a file, list or fractions that rows 1 to 5 refuse: every call answers that refusal, its number and its value, before all else
  module _ (r : Refusal) (bad : mixed ≡ Err r) where
    elsewhere : {A : Type 0} (m : Mixed) → mixed ≡ Ok m → A
    elsewhere m e = cc

    same : {A : Type 0} (q : Refusal) → mixed ≡ Err q → ◌≡◌ {A = Result A Refusal} (Err q) (Err r)
    same q e = let z : q ≡ r = cc in ap Err z

    pub properties_rows : (range : Range) (temperature rho : Float) → properties_in bytes list fractions range temperature rho ≡ Err r
    properties_rows range temperature rho = properties_through bytes list fractions (λ a. a ≡ Err r) range temperature rho same (λ m e. elsewhere m e)

    pub fugacity_rows : (range : Range) (temperature rho : Float) (out : List Float) → fugacity_in bytes list fractions range temperature rho out ≡ Err r
    fugacity_rows range temperature rho out = fugacity_through bytes list fractions (λ a l. a ≡ Err r) range temperature rho out same (λ m e. elsewhere m e) (λ m e. elsewhere m e)

    pub density_rows : (range : Range) (temperature target : Float) (o : Options) → density_in bytes list fractions range temperature target o ≡ Err r
    density_rows range temperature target o = density_through bytes list fractions (λ a l. a ≡ Err r) range temperature target o same (λ m e. elsewhere m e)

    pub roots_rows : (temperature pressure : Float) (out : List Float) → roots_call bytes list fractions temperature pressure out ≡ Err r
    roots_rows temperature pressure out = roots_through bytes list fractions (λ a l. a ≡ Err r) temperature pressure out same (λ m e. elsewhere m e)

    pub saturation_rows : (pressure lo hi : Float) (limit : ℕ) → saturation_call bytes list fractions pressure lo hi limit ≡ Err r
    saturation_rows pressure lo hi limit = saturation_through bytes list fractions (λ a l. a ≡ Err r) pressure lo hi limit same (λ m e. elsewhere m e)

  few : (m : Mixed) → mixed ≡ Ok m → m.model.components ≤ 21
  few m e = (ready bytes list fractions m e).known.few

  -- the limits of a refusal of rows 1 to 5
  early : (n : ℕ) → 5 ≤ n → (r : Refusal) → mixed ≡ Err r → of_refusal.number_of r ≤ n
  early n h r e = let k = subst (λ (x : Result Mixed Refusal). number_of x ≤ 5) e (rows_at_most_5 bytes list fractions) in omega arith

  row_value : (r : Refusal) → mixed ≡ Err r → of_refusal.value_of r < 2 ^ 32
  row_value r e = subst (λ (x : Result Mixed Refusal). value_of x < 2 ^ 32) e (rows_value bytes list fractions)

  row_late : {A : Type 0} (n : ℕ) → 5 < n → (r : Refusal) → mixed ≡ Err r → of_refusal.number_of r ≡ n → A
  row_late n h r e q = late bytes list fractions n h (ap number_of e ∙ q)

  -- ---- of each call: its number is one of the table up to the last row that it can meet; its value is below 2^32; so its code is number × 2^32 + value
  module _ (range : Range) (temperature rho : Float) where
    pub properties_number : number_of (properties_in bytes list fractions range temperature rho) ≤ 12
    properties_number =
        properties_through bytes list fractions (λ a. number_of a ≤ 12) range temperature rho (λ r e. early 12 (omega arith) r e)
        (λ m e. evaluate_at_most_12 t m.model range temperature rho)

    pub properties_value : value_of (properties_in bytes list fractions range temperature rho) < 2 ^ 32
    properties_value =
        properties_through bytes list fractions (λ a. value_of a < 2 ^ 32) range temperature rho row_value
        (λ m e. omega (arith, evaluate_no_value t m.model range temperature rho))

    pub properties_code_lem :
        accepted_code (properties_in bytes list fractions range temperature rho) ≡
        number_of (properties_in bytes list fractions range temperature rho) * 2 ^ 32 + value_of (properties_in bytes list fractions range temperature rho)
    properties_code_lem = export.accepted_code_lem (properties_in bytes list fractions range temperature rho) properties_value

    -- "Every bad input is refused under a number of its own": 0 is no refusal's, it means a state
    pub properties_accepted : number_of (properties_in bytes list fractions range temperature rho) ≡ 0 → (s : GergState) × (properties_in bytes list fractions range temperature rho ≡ Ok s)
    properties_accepted = accepted (properties_in bytes list fractions range temperature rho)

    module _ (out : List Float) where
      pub fugacity_number : number_of (fugacity_in bytes list fractions range temperature rho out) ≤ 24
      fugacity_number =
          fugacity_through bytes list fractions (λ a l. number_of a ≤ 24) range temperature rho out (λ r e. early 24 (omega arith) r e) (λ m e. omega arith)
          (λ m e. omega (arith, (laws.fugacity_numbers t m.model m.gradients range temperature rho).most))

      pub fugacity_value : value_of (fugacity_in bytes list fractions range temperature rho out) < 2 ^ 32
      fugacity_value =
          fugacity_through bytes list fractions (λ a l. value_of a < 2 ^ 32) range temperature rho out row_value
          (λ m e. omega (arith, few m e)) (λ m e. omega (arith, laws.fugacity_no_value t m.model m.gradients range temperature rho))

      -- row 24: "Needed here: as many doubles as the list is long"
      pub fugacity_needed :
          number_of (fugacity_in bytes list fractions range temperature rho out) ≡ 24 → value_of (fugacity_in bytes list fractions range temperature rho out) ≡ length list
      fugacity_needed =
          fugacity_through bytes list fractions (λ a l. number_of a ≡ 24 → value_of a ≡ length list) range temperature rho out
          (λ r e. row_late 24 (omega arith) r e) (λ m e h. (ready bytes list fractions m e).components)
          (λ m e h. absurd (twelve ((laws.fugacity_numbers t m.model m.gradients range temperature rho).most) h))
        where
          twelve : {n : ℕ} → n ≤ 12 → n ≡ 24 → ⊥
          twelve a b = omega arith

      pub fugacity_code :
          accepted_code (fugacity_in bytes list fractions range temperature rho out) ≡
          number_of (fugacity_in bytes list fractions range temperature rho out) * 2 ^ 32 + value_of (fugacity_in bytes list fractions range temperature rho out)
      fugacity_code = export.accepted_code_lem (fugacity_in bytes list fractions range temperature rho out) fugacity_value

      -- "Every bad input is refused under a number of its own": 0 is no refusal's, it means a state; its coefficients are written (`Memory.fugacity_writes`)
      pub fugacity_accepted :
          number_of (fugacity_in bytes list fractions range temperature rho out) ≡ 0 → (s : GergState) × (fugacity_in bytes list fractions range temperature rho out ≡ Ok s)
      fugacity_accepted = accepted (fugacity_in bytes list fractions range temperature rho out)

  module _ (range : Range) (temperature target : Float) (o : Options) where
    pub density_number : number_of (density_in bytes list fractions range temperature target o) ≤ 19
    density_number =
        density_through bytes list fractions (λ a l. number_of a ≤ 19) range temperature target o (λ r e. early 19 (omega arith) r e) (λ m e. (numbers.density_numbers t m.model range temperature target o).most)

    pub density_value : Doubles o → value_of (density_in bytes list fractions range temperature target o) < 2 ^ 32
    density_value doubles =
        density_through bytes list fractions (λ a l. value_of a < 2 ^ 32) range temperature target o row_value
        (λ m e. search.value_below t m.model range temperature target o doubles)

    pub density_code_lem :
        Doubles o → accepted_code (density_in bytes list fractions range temperature target o) ≡
        number_of (density_in bytes list fractions range temperature target o) * 2 ^ 32 + value_of (density_in bytes list fractions range temperature target o)
    density_code_lem doubles = export.accepted_code_lem (density_in bytes list fractions range temperature target o) (density_value doubles)

    -- "Every bad input is refused under a number of its own": 0 is no refusal's, it means an accepted density
    pub density_accepted : number_of (density_in bytes list fractions range temperature target o) ≡ 0 → (r : DensityResult) × (density_in bytes list fractions range temperature target o ≡ Ok r)
    density_accepted = accepted (density_in bytes list fractions range temperature target o)

  module _ (temperature pressure : Float) (out : List Float) where
    pub roots_number : number_of (roots_call bytes list fractions temperature pressure out) ≤ 24
    roots_number =
        roots_through bytes list fractions (λ a l. number_of a ≤ 24) temperature pressure out (λ r e. early 24 (omega arith) r e)
        (λ m e. (roots_numbers t m.model m.gradients normal_range temperature pressure (length out)).most)

    pub roots_value : value_of (roots_call bytes list fractions temperature pressure out) < 2 ^ 32
    roots_value =
        roots_through bytes list fractions (λ a l. value_of a < 2 ^ 32) temperature pressure out row_value
        (λ m e. scan.value_below t m.model m.gradients normal_range temperature pressure (length out) (few m e))

    -- "the answer is the number of roots", beside number 0
    pub roots_reported_lem : reported (roots_call bytes list fractions temperature pressure out) < 2 ^ 32
    roots_reported_lem =
        roots_through bytes list fractions (λ a l. reported a < 2 ^ 32) temperature pressure out row_value
        (λ m e. export.reported_below (roots_of t m.model m.gradients normal_range temperature pressure (length out))
        (λ n k. omega (arith, roots_few t m.model m.gradients normal_range temperature pressure (length out) n k))
        (scan.value_below t m.model m.gradients normal_range temperature pressure (length out) (few m e)))

    pub roots_code_lem :
        code (roots_call bytes list fractions temperature pressure out) ≡
        number_of (roots_call bytes list fractions temperature pressure out) * 2 ^ 32 + reported (roots_call bytes list fractions temperature pressure out)
    roots_code_lem = export.code_lem (roots_call bytes list fractions temperature pressure out) roots_reported_lem

    -- "Every bad input is refused under a number of its own": 0 is no refusal's, it means roots
    pub roots_accepted : number_of (roots_call bytes list fractions temperature pressure out) ≡ 0 → (n : ℕ) × (roots_call bytes list fractions temperature pressure out ≡ Ok n)
    roots_accepted = accepted (roots_call bytes list fractions temperature pressure out)

  module _ (pressure lo hi : Float) (limit : ℕ) where
    pub saturation_number : number_of (saturation_call bytes list fractions pressure lo hi limit) ≤ 26
    saturation_number =
        saturation_through bytes list fractions (λ a l. number_of a ≤ 26) pressure lo hi limit (λ r e. early 26 (omega arith) r e)
        (λ m e. halving.number_at_most t m.model m.gradients normal_range pressure lo hi limit)

    pub saturation_value : T (fits binary64 lo) → T (fits binary64 hi) → value_of (saturation_call bytes list fractions pressure lo hi limit) < 2 ^ 32
    saturation_value f g =
        saturation_through bytes list fractions (λ a l. value_of a < 2 ^ 32) pressure lo hi limit row_value
        (λ m e. halving.value_below t m.model m.gradients normal_range pressure lo hi limit f g)

    pub saturation_code_lem :
        T (fits binary64 lo) → T (fits binary64 hi) → saturation_code (saturation_call bytes list fractions pressure lo hi limit) ≡
        number_of (saturation_call bytes list fractions pressure lo hi limit) * 2 ^ 32 + saturation_reported (saturation_call bytes list fractions pressure lo hi limit)
    saturation_code_lem f g =
        let a = saturation_call bytes list fractions pressure lo hi limit in
        export.saturation_code_lem a (export.saturation_below a (saturation_value f g))

    -- "Every bad input is refused under a number of its own": 0 is no refusal's, it means a saturation found, or "not enclosed"
    pub saturation_accepted :
        number_of (saturation_call bytes list fractions pressure lo hi limit) ≡ 0 →
        ((s : PureSaturation) × (saturation_call bytes list fractions pressure lo hi limit ≡ Ok (Some s))) ⊎ (saturation_call bytes list fractions pressure lo hi limit ≡ Ok None)
    saturation_accepted =
        saturation_through bytes list fractions (λ a l. number_of a ≡ 0 → ((s : PureSaturation) × (a ≡ Ok (Some s))) ⊎ (a ≡ Ok None)) pressure lo hi limit
        (λ r e z. absurd (never_0 r z)) (λ m e. halving.accepted t m.model m.gradients normal_range pressure lo hi limit)
