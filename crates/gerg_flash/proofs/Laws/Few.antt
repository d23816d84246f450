-- At most 386 roots are kept, whatever the samples are. Assumes nothing.
use mathlib.Core.List.{List}
use Prim.Native.Nat.{◌≤◌, zero-le}
use native.Mathlib.Nat.{le_trans}
use lib.Ieee.{Float}
use lib.ListN.{length}
use Rattle.std.specs.Prelude.{Result, Ok, Err, IfOk}
use Rattle.gerg_refusals.specs.declared.Refusal.{Refusal}
use Rattle.gerg_tables.specs.declared.Tables.{Tables}
use Rattle.gerg_reducing.specs.declared.GergModel.{GergModel}
use Rattle.gerg.specs.declared.Range.{Range}
use Rattle.gerg_grid.specs.Grid.{grid_of}
use Rattle.gerg_grid.proofs.Laws.GridFew.{grid_few}
use Rattle.gerg_scan_steps.specs.Scan.{scan_of}
use Rattle.gerg_scan_steps.specs.declared.Scanned.{Scanned}
use Rattle.gerg_scan_steps.proofs.Laws.ScanFew.{scan_few}
use Rattle.gerg_scan.specs.Sampling.{sample_of}
use Rattle.gerg_root_list.specs.RootList.{Kept, roots_in}
use Rattle.gerg_root_list.proofs.Laws.KeptFew.{found_few, found_left_few}
use Rattle.gerg_flash.specs.Roots.{root_at, searched_of}
use Rattle.gerg_flash.specs.Left.{searched_left}

-- as many as a grid has points
of_scan : (s : Result Scanned Refusal) → IfOk s (λ r. length r.roots.items ≤ length grid_of) → IfOk s (λ r. length r.roots.items ≤ 386)
of_scan (Ok r) h = le_trans h grid_few
of_scan (Err r) h = tt

module _ (t : Tables) (m : GergModel) (gradients : List (List Float)) (range : Range) (temperature target : Float) where
  pub searched_few : length (roots_in (searched_of t m gradients range temperature target)) ≤ 386
  unfolding searched_of
  searched_few =
      of_kept _
      (found_few (root_at t m gradients range temperature) target 386 (scan_of (sample_of t m range temperature target) target grid_of)
      (of_scan _ (scan_few (sample_of t m range temperature target) target grid_of)))
    where
      of_kept : (k : Kept) → IfOk k (λ r. length r ≤ 386) → length (roots_in k) ≤ 386
      of_kept (Ok k) h = h
      of_kept (Err r) h = zero-le

  -- and of a refused search
  pub left_few : length (searched_left t m gradients range temperature target) ≤ 386
  unfolding searched_left
  left_few =
      found_left_few (root_at t m gradients range temperature) target 386 (scan_of (sample_of t m range temperature target) target grid_of)
      (of_scan _ (scan_few (sample_of t m range temperature target) target grid_of))
