-- A search for roots refuses by rows 6 to 12 and 22, which have no value. Assumes nothing.
use mathlib.Core.Path.{◌≡◌, refl}
use mathlib.Core.List.{List}
use Prim.Native.Nat.{ℕ, ◌≤◌}
use native.Mathlib.Nat.{le_trans}
use lib.Dec.{lit≤}
use lib.Ieee.{Float}
use Rattle.std.specs.Prelude.{Result, Ok, Err, IfErr}
use Rattle.std.proofs.lemmas.Result.{IfErr-weaker}
use Rattle.gerg_refusals.proofs.Told.{never_0}
use Rattle.gerg_refusals.specs.Answer as of_answer
use Rattle.gerg_refusals.specs.declared.Refusal.{Refusal}
use Rattle.gerg_tables.specs.declared.Tables.{Tables}
use Rattle.gerg_reducing.specs.declared.GergModel.{GergModel}
use Rattle.gerg.specs.declared.GergState.{GergState}
use Rattle.gerg.specs.declared.Range.{Range}
use Rattle.gerg.specs.Evaluate.{evaluate_of}
use Rattle.gerg.proofs.Laws.Numbers as late
use Rattle.gerg.proofs.Laws.Numbers.{Row}
use Rattle.gerg_fugacity.specs.Fugacity.{fugacity_of}
use Rattle.gerg_fugacity.proofs.Laws.Numbers.{fugacity_numbers, fugacity_value_0}
use Rattle.gerg_grid.specs.Grid.{grid_of}
use Rattle.gerg_scan_steps.specs.Scan.{scan_of}
use Rattle.gerg_scan.specs.Sampling.{sample_of}
use Rattle.gerg_scan.proofs.Laws.SampleRows as sample
use Rattle.gerg_root_list.proofs.Laws.KeptRefusals.{found_refusal}
use Rattle.gerg_flash.specs.Roots.{checked_of, state_of, root_at, searched_of}

-- ---- a root
module _ (t : Tables) (m : GergModel) (gradients : List (List Float)) (temperature rho : Float) where
  by_check : (s : GergState) (c : Result (Unit {0}) Refusal) → late.Late 12 (of_answer.number_of c) → of_answer.value_of c ≡ 0 → IfErr (checked_of t m gradients temperature rho s c) (Row 12)
  unfolding checked_of
  by_check s (Ok passed) l v = tt
  by_check s (Err r) l v = (l.late (never_0 r), l.most, v)

  by_state : (e : Result GergState Refusal) → IfErr e (Row 12) → IfErr (state_of t m gradients temperature rho e) (Row 12)
  unfolding state_of
  by_state (Ok s) l = by_check s (fugacity_of t m gradients s temperature rho) (fugacity_numbers t m gradients s temperature rho) (fugacity_value_0 t m gradients s temperature rho)
  by_state (Err r) l = l

  pub root_rows : (range : Range) → IfErr (root_at t m gradients range temperature rho) (Row 12)
  unfolding root_at
  root_rows range = by_state (evaluate_of t m range temperature rho) (late.evaluate_rows t m range temperature rho)

wider : (less : ℕ) → less ≤ 22 → (r : Refusal) → Row less r → Row 22 r
wider less h r row = (row.0, le_trans row.1 h, row.2)

-- ---- the search
module _ (t : Tables) (m : GergModel) (gradients : List (List Float)) (range : Range) (temperature target : Float) where
  pub searched_rows : IfErr (searched_of t m gradients range temperature target) (Row 22)
  unfolding searched_of
  searched_rows =
      found_refusal (Row 22) (lit≤ tt, lit≤ tt, refl) (root_at t m gradients range temperature) (λ x. IfErr-weaker _ (Row 12) (Row 22) (wider 12 (lit≤ tt)) (root_rows t m gradients temperature x range)) target
      (scan_of (sample_of t m range temperature target) target grid_of) (IfErr-weaker _ (Row 9) (Row 22) (wider 9 (lit≤ tt)) (sample.scan_rows t m range temperature target grid_of))
