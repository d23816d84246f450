-- The scan of an isotherm over the grid. `v` gives the sample at each density.
use Rattle.std.specs.Prelude.{Bool, ◌&&◌, ◌||◌, List, [], ◌∷◌, ◌++◌, ◌-◌, eqb, Float, length, get_or, map, Result, Ok}
use Rattle.std.specs.Float.{nan}
use Rattle.std.specs.Float.Ieee.{lt, le, neg}
use Rattle.numerics.specs.Double.{◌⊖◌, ◌⊗◌, bits, +0, pick}
use Rattle.numerics.specs.Iterate.{range}
use Rattle.gerg_refusals.specs.Answer.{and_then}
use Rattle.gerg_refusals.specs.declared.Refusal.{Refusal}
use Rattle.gerg_scan_steps.specs.Answers.{mapped}
use Rattle.gerg_scan_steps.specs.Halving.{infinity, size_of, tolerance_of, crossing_of}
use Rattle.gerg_scan_steps.specs.Sample.{Sample}
use Rattle.gerg_scan_steps.specs.declared.Halving.{Halving}
use Rattle.gerg_scan_steps.specs.declared.Point.{Point}
use Rattle.gerg_scan_steps.specs.declared.Scan.{Scan}
use Rattle.gerg_scan_steps.specs.declared.Scanned.{Scanned}

-- "Stiffness at the first grid point is not looked at"
unfoldable pub begun_at : Float → Sample → Result Scan Refusal
begun_at first sample = mapped (λ p. record { previous = first; left = p.0; first_negative = infinity; last_negative = neg infinity }) sample

-- a point with stiffness ≤ 0: the least of them and the last
unfoldable pub noted_of : Float → Float → Scan → Scan
noted_of current stiffness s = record {
  previous = s.previous;
  left = s.left;
  first_negative = pick (le stiffness +0) (pick (lt current s.first_negative) current s.first_negative) s.first_negative;
  last_negative = pick (le stiffness +0) current s.last_negative;
}

unfoldable pub moved_of : Float → Float → Scan → Scan
moved_of current right s = record { previous = current; left = right; first_negative = s.first_negative; last_negative = s.last_negative }

-- with no root yet
abbrev pub rootless : Scan → Scanned
rootless s = record { scan = s; roots = record { items = [] } }

-- the scan changed, the roots as they are
abbrev pub changed : (Scan → Scan) → Scanned → Scanned
changed change s = record { scan = change s.scan; roots = s.roots }

abbrev pub densities : List Point → List Float
densities roots = map (λ root. root.density) roots

-- no root yet, or farther from the last than 1e-8 of itself
unfoldable pub apart : Float → List Float → Bool
apart density roots = eqb (length roots) 0 || lt (bits 0x3e45_798e_e230_8c3a ⊗ density) (size_of (density ⊖ get_or roots (length roots - 1) nan))

-- with one root more
abbrev pub grown : Point → Scanned → Scanned
grown root s = record { scan = s.scan; roots = record { items = s.roots.items ++ (root ∷ []) } }

-- the best point of a crossing joins the roots
unfoldable pub rooted_of : Halving → Scanned → Scanned
rooted_of h s = pick (apart h.best.density (densities s.roots.items)) (grown h.best s) s

-- a crossing from the previous point to the current one is halved
unfoldable pub crossed_of : (Float → Sample) → Float → Float → Float → Scanned → Result Scanned Refusal
crossed_of v target current right s =
    pick (le s.scan.left +0 && le +0 right) (mapped (λ h. rooted_of h s) (crossing_of v (tolerance_of target) s.scan.previous current)) (Ok s)

unfoldable pub seen_of : (Float → Sample) → Float → Float → Scanned → Sample → Result Scanned Refusal
seen_of v target current s sample = and_then sample (λ p. mapped (changed (moved_of current p.0)) (crossed_of v target current p.0 (changed (noted_of current p.1) s)))

-- one grid point more
unfoldable pub scan_step : (Float → Sample) → Float → Float → Scanned → Result Scanned Refusal
scan_step v target current s = seen_of v target current s (v current)

-- a refusal ends the scan
unfoldable pub scan_of : (Float → Sample) → Float → List Float → Result Scanned Refusal
scan_of v target grid =
    range (λ i s. and_then s (scan_step v target (get_or grid i nan))) 1 (length grid) (mapped rootless (begun_at (get_or grid 0 nan) (v (get_or grid 0 nan))))
