-- The words of demand 3 about a density search: what its promises (proofs/Promises) say of an accepted density and of rows 18 and 19.
use Rattle.std.specs.Prelude.{◌≡◌, ◌⊎◌, Bool, false, ◌||◌, ℕ, T, Float, length, Ok}
use mathlib.Core.List.{Memᴰ}
use Rattle.std.specs.Float.{binary64}
use Rattle.std.specs.Float.Ieee.{fits, lt}
use Rattle.numerics.specs.Double.{◌⊖◌, ◌⊘◌}
use Rattle.gerg_tables.specs.declared.Tables.{Tables}
use Rattle.gerg_reducing.specs.declared.GergModel.{GergModel}
use Rattle.gerg_derivatives.specs.declared.derivatives.GergDerivatives.{GergDerivatives}
use Rattle.gerg.specs.declared.Range.{Range}
use Rattle.gerg.specs.Helmholtz.{helmholtz_of}
use Rattle.gerg.specs.Evaluate.{trial_pressure_of}
use Rattle.gerg_search.specs.States.{NoneBetween, state_after, left_by}
use Rattle.gerg_search.specs.Checks.{options_refused, target_refused}
use Rattle.gerg_search.specs.Point.{within_of}
use Rattle.gerg_density.specs.Trial.{scale_of}
use Rattle.gerg_search.specs.Run.{last_of}
use Rattle.gerg_density.specs.Density.{verdict_of, density_trials}
use Rattle.gerg_search.specs.declared.Options.{Options}
use Rattle.gerg_search.specs.declared.Stage.TheVariants.{Interior}
use Rattle.gerg_search.specs.declared.Search.{Search}

-- "The computed pressure of a tried double, an end too, is by the trial's formula": p is that of the density x
pub record Computed (t : Tables) (m : GergModel) (range : Range) (temperature x p : Float) : Type 0 where
  pub derivatives : GergDerivatives
  pub answered : helmholtz_of t m range temperature x ≡ Ok derivatives
  pub formula : p ≡ trial_pressure_of derivatives temperature x

-- "the double is within the tolerance when the Rust's test at a trial says so of that pressure"
abbrev pub within_tolerance : Float → Options → Float → Bool
within_tolerance target o p = within_of o.tolerance ((p ⊖ target) ⊘ scale_of target)

module _ (t : Tables) (m : GergModel) (range : Range) (temperature target : Float) (o : Options) where
  -- "an end at which the search worked out a pressure": past rows 13 and 14 the low end, and the high one where the trial at the low end did not refuse
  pub record WorkedOut (x : Float) : Type 0 where
    pub begun : (options_refused o || target_refused range.pressure_high target) ≡ false
    pub end : (x ≡ o.bracket.lo) ⊎ ((x ≡ o.bracket.hi) × ((f : Float) × (d : Float) × (verdict_of t m range temperature target o.bracket.lo ≡ Ok (f, d))))
    pub pressure : Float
    pub computed : Computed t m range temperature x pressure

  -- "A double was tried when it is an end at which the search worked out a pressure, or is in the list"
  abbrev pub Tried : Float → Type 0
  Tried x = WorkedOut x ⊎ Memᴰ x (density_trials t m range temperature target o)

  -- a double that was tried, p its computed pressure, not "within the tolerance"
  pub record TriedOutside (x p : Float) : Type 0 where
    pub double : T (fits binary64 x)
    pub tried : Tried x
    pub computed : Computed t m range temperature x p
    pub outside : within_tolerance target o p ≡ false

  -- row 18: "two neighbouring doubles were both tried in that search, neither within the tolerance, the computed pressure of one below the target and of the other above it"
  pub record Collapsed : Type 0 where
    pub low : Float
    pub high : Float
    pub order : T (lt low high)
    pub neighbours : NoneBetween low high
    pub low_pressure : Float
    pub at_low : TriedOutside low low_pressure
    pub below : T (lt low_pressure target)
    pub high_pressure : Float
    pub at_high : TriedOutside high high_pressure
    pub above : T (lt target high_pressure)

  -- in the state s the search makes an interior trial that "neither accepts nor refuses"; f is its residual
  pub record Undecided (s : Search) (f : Float) : Type 0 where
    pub begun : (options_refused o || target_refused range.pressure_high target) ≡ false
    pub interior : s.stage ≡ Interior
    pub derivative : Float
    pub verdict : verdict_of t m range temperature target s.density ≡ Ok (f, derivative)
    pub outside : within_of o.tolerance f ≡ false

  -- such a trial, after so many steps, and "no double is then left between the ends"
  pub record Exhausted : Type 0 where
    pub steps : ℕ
    pub residual : Float
    pub trial : Undecided (state_after o (verdict_of t m range temperature target) steps) residual
    pub none : NoneBetween (left_by (state_after o (verdict_of t m range temperature target) steps) residual).lo (left_by (state_after o (verdict_of t m range temperature target) steps) residual).hi

  -- row 19: "that many trials made, a double still between the ends", which are as the last trial leaves them
  pub record Limited : Type 0 where
    pub trials : length (density_trials t m range temperature target o) ≡ o.limit
    pub residual : Float
    pub last : Undecided (last_of o (verdict_of t m range temperature target)) residual
    pub between : Float
    pub double : T (fits binary64 between)
    pub above : T (lt (left_by (last_of o (verdict_of t m range temperature target)) residual).lo between)
    pub below : T (lt between (left_by (last_of o (verdict_of t m range temperature target)) residual).hi)
