use mathlib.Core.Path.{◌≡◌}
use lib.ListN.{length}
use Rattle.std.proofs.Common.{rules}
use Rattle.gerg_grid.proofs.Laws.GridFew.{none_last}
use Rattle.gerg_grid.proofs.grid.is_last.Goals as goal

pub returns-in-None : goal.returns-in-None
returns-in-None c =
    let none : length c.args.points.now ≡ 0 = search rules in
    none_last _ _ none
