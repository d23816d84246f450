use mathlib.Core.Path.{sym, ap, ◌∙◌}
use Rattle.gerg_tables.specs.Lent.{lent}
use Rattle.gerg_grid.proofs.Laws.GridFew.{grid_few}
use Rattle.gerg_grid.proofs.Laws.GridRises.{grid_some}
use Rattle.gerg_scan_steps.specs.Answers.{leaves}
use Rattle.gerg_root_list.specs.Left.{found_left}
use Rattle.gerg_flash.specs.Roots.{root_at}
use Rattle.gerg_flash.specs.Left.{searched_left}
use Rattle.gerg_flash.proofs.roots.exterior_roots.Goals as goal

pub scan-requires : goal.scan-requires
scan-requires c = rw c.requires (grid_some, grid_few)

pub returns-in_err-scan-clause-left : goal.returns-in_err-scan-clause-left
unfolding searched_left
returns-in_err-scan-clause-left c =
    let of = c.of-isotherm.ensures in
    let e = ap (λ z. leaves z c.scan.new.scanned) (sym c.in_err-scan.was) ∙ c.scan.ensures.accepted in
    let root = root_at (lent c.args.mixture.coefficients) c.args.mixture.model.now c.args.mixture.gradients.now c.args.range c.args.temperature in
    c.clear.ensures ∙ ap (found_left root c.args.pressure) (rw (c.requires, of.coefficients, of.model, of.temperature) at e)

pub returns-clause-left : goal.returns-clause-left
unfolding searched_left
returns-clause-left c =
    let of = c.of-isotherm.ensures in
    let e = ap (λ z. leaves z c.scan.new.scanned) (sym c.in_ok-scan.was) ∙ c.scan.ensures.accepted in
    let root = root_at (lent c.args.mixture.coefficients) c.args.mixture.model.now c.args.mixture.gradients.now c.args.range c.args.temperature in
    (rw of.temperature at c.settle.ensures.left) ∙ ap (found_left root c.args.pressure) (rw (c.requires, of.coefficients, of.model, of.temperature) at e)
