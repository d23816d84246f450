-- The densities of the roots that a search keeps rise. Assumes nothing.
use mathlib.Core.Path.{◌≡◌}
use mathlib.Core.List.{List}
use lib.Ieee.{Float, nan}
use lib.ListN.{get_or}
use Rattle.std.specs.Prelude.{Result, Ok, Err, IfOk}
use Rattle.gerg_refusals.specs.declared.Refusal.{Refusal}
use Rattle.gerg_tables.specs.declared.Tables.{Tables}
use Rattle.gerg_reducing.specs.declared.GergModel.{GergModel}
use Rattle.gerg.specs.declared.GergState.{GergState}
use Rattle.gerg.specs.declared.Range.{Range}
use Rattle.gerg.specs.Evaluate.{evaluate_of}
use Rattle.gerg_fugacity.specs.Fugacity.{fugacity_of}
use Rattle.gerg_grid.specs.Grid.{grid_of}
use Rattle.gerg_grid.proofs.Laws.Rising.{Rising, rising_none}
use Rattle.gerg_grid.proofs.Laws.GridRises.{grid_rises, grid_some}
use Rattle.gerg_scan_steps.specs.Scan.{scan_of}
use Rattle.gerg_scan_steps.proofs.Laws.ScanRises.{scan_rises}
use Rattle.gerg_scan.specs.Sampling.{sample_of}
use Rattle.gerg_root_list.specs.RootList.{Kept, roots_in}
use Rattle.gerg_root_list.specs.declared.Root.{Root}
use Rattle.gerg_root_list.proofs.Laws.RootList.{root_list}
use Rattle.gerg_root_list.proofs.Laws.KeptRises.{Headed, found_rises, found_left_rises}
use Rattle.gerg_flash.specs.Roots.{head_of, checked_of, state_of, root_at, searched_of}
use Rattle.gerg_flash.specs.Left.{searched_left}

-- ---- a root's first number is its density
module _ (t : Tables) (m : GergModel) (gradients : List (List Float)) (temperature x : Float) (root : Root) where
  headed_check : (s : GergState) (f : Result (Unit {0}) Refusal) → checked_of t m gradients temperature x s f ≡ Ok root → get_or root.head 0 nan ≡ x
  unfolding checked_of head_of
  headed_check s (Ok passed) e = let i : root.head ≡ head_of x s = cc in rw i
  headed_check s (Err r) e = cc

  headed_state : (a : Result GergState Refusal) → state_of t m gradients temperature x a ≡ Ok root → get_or root.head 0 nan ≡ x
  unfolding state_of
  headed_state (Ok s) e = headed_check s (fugacity_of t m gradients s temperature x) e
  headed_state (Err r) e = cc

headed : (t : Tables) (m : GergModel) (gradients : List (List Float)) (range : Range) (temperature : Float) → Headed (root_at t m gradients range temperature)
unfolding root_at
headed t m gradients range temperature x root e = headed_state t m gradients temperature x root (evaluate_of t m range temperature x) e

pub searched_rises : (t : Tables) (m : GergModel) (gradients : List (List Float)) (range : Range) (temperature target : Float) → Rising (root_list (roots_in (searched_of t m gradients range temperature target)))
unfolding searched_of root_list
searched_rises t m gradients range temperature target =
    go _
    (found_rises (root_at t m gradients range temperature) (headed t m gradients range temperature) target (scan_of (sample_of t m range temperature target) target grid_of)
    (scan_rises (sample_of t m range temperature target) target grid_of grid_rises grid_some))
  where
    go : (k : Kept) → IfOk k (λ r. Rising (root_list r)) → Rising (root_list (roots_in k))
    go (Ok k) h = h
    go (Err r) h = rising_none

-- and of those that a refused search leaves
pub left_rises : (t : Tables) (m : GergModel) (gradients : List (List Float)) (range : Range) (temperature target : Float) → Rising (root_list (searched_left t m gradients range temperature target))
unfolding searched_left
left_rises t m gradients range temperature target =
    found_left_rises (root_at t m gradients range temperature) (headed t m gradients range temperature) target (scan_of (sample_of t m range temperature target) target grid_of)
    (scan_rises (sample_of t m range temperature target) target grid_of grid_rises grid_some)
