-- A scan of the equation refuses by rows 6 to 9, which have no value. Assumes nothing.
use mathlib.Core.List.{List}
use lib.Ieee.{Float}
use Rattle.std.specs.Prelude.{Result, Ok, Err, IfErr}
use Rattle.gerg_refusals.specs.declared.Refusal.{Refusal}
use Rattle.gerg_tables.specs.declared.Tables.{Tables}
use Rattle.gerg_reducing.specs.declared.GergModel.{GergModel}
use Rattle.gerg.specs.declared.Range.{Range}
use Rattle.gerg_derivatives.specs.declared.derivatives.GergDerivatives.{GergDerivatives}
use Rattle.gerg.specs.Helmholtz.{helmholtz_of}
use Rattle.gerg.proofs.Laws.Numbers.{Row, Derived, helmholtz_rows}
use Rattle.gerg_scan_steps.specs.Scan.{scan_of}
use Rattle.gerg_scan_steps.proofs.Laws.ScanRefusals.{scan_refusal}
use Rattle.gerg_scan.specs.Sampling.{sample_by, sample_of}

module _ (t : Tables) (m : GergModel) (range : Range) (temperature target : Float) where
  pub sample_rows : (rho : Float) → IfErr (sample_of t m range temperature target rho) (Row 9)
  unfolding sample_of sample_by
  sample_rows rho = go (helmholtz_of t m range temperature rho) (helmholtz_rows t m range temperature rho)
    where
      go : (h : Result GergDerivatives Refusal) → Derived h → IfErr (sample_by temperature target rho h) (Row 9)
      go (Ok a) d = tt
      go (Err r) d = d

  pub scan_rows : (grid : List Float) → IfErr (scan_of (sample_of t m range temperature target) target grid) (Row 9)
  scan_rows grid = scan_refusal (sample_of t m range temperature target) (Row 9) sample_rows target grid
