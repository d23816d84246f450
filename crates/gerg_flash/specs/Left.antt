-- What is left of the roots that a search keeps where it is refused.
use Rattle.std.specs.Prelude.{List, Float}
use Rattle.gerg_tables.specs.declared.Tables.{Tables}
use Rattle.gerg_reducing.specs.declared.GergModel.{GergModel}
use Rattle.gerg.specs.declared.Range.{Range}
use Rattle.gerg_grid.specs.Grid.{grid_of}
use Rattle.gerg_scan_steps.specs.Scan.{scan_of}
use Rattle.gerg_scan.specs.Sampling.{sample_of}
use Rattle.gerg_root_list.specs.Left.{found_left}
use Rattle.gerg_root_list.specs.declared.Root.{Root}
use Rattle.gerg_flash.specs.Roots.{root_at}

-- the roots that are kept, those before a refusal too
unfoldable pub searched_left : Tables → GergModel → List (List Float) → Range → Float → Float → List Root
searched_left t m gradients range temperature target =
    found_left (root_at t m gradients range temperature) target (scan_of (sample_of t m range temperature target) target grid_of)
