-- What is left of the roots that are kept where one of them, or the scan, is refused.
use Rattle.std.specs.Prelude.{List, [], Float, length, get_or, Result, Ok, Err}
use Rattle.gerg_refusals.specs.declared.Refusal.{Refusal}
use Rattle.gerg_scan_steps.specs.Left.{left_by}
use Rattle.gerg_scan_steps.specs.declared.Scanned.{Scanned}
use Rattle.gerg_root_list.specs.RootList.{Outcome, no_point, keep_step}
use Rattle.gerg_root_list.specs.declared.Root.{Root}

-- the roots that are kept, those before a refusal too
unfoldable pub left_of : (Float → Outcome) → Float → Scanned → List Root
left_of root target s =
    left_by (λ i. keep_step root target s.scan.first_negative s.scan.last_negative (get_or s.roots.items i no_point)) (λ i k. k) 0 (length s.roots.items) []

-- a refused scan leaves none
abbrev pub found_left : (Float → Outcome) → Float → Result Scanned Refusal → List Root
found_left root target (Ok s) = left_of root target s
found_left root target (Err r) = []
