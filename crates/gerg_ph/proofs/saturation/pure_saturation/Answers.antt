-- `pure_saturation` meets its contract: the rows that need no root, then the search. Assumes nothing.
use mathlib.Core.Path.{sym, ◌∙◌}
use Rattle.std.proofs.lemmas.Result.{err_from_is_err_and}
use Rattle.gerg_ph.proofs.Laws.Saturation.{first_row, no_row, searched}
use Rattle.gerg_ph.proofs.saturation.pure_saturation.Goals as goal

pub returns-in_err-first_row : goal.returns-in_err-first_row
returns-in_err-first_row c =
    let p = err_from_is_err_and c.from_residual.result c.from_residual.ensures.1 in
    rw (p.1, p.2) (first_row _ _ _ _ _ _ _ _ _ c.positive-p.ensures.0 _ (sym c.in_err-first_row.was ∙ (rw (c.refused-unfit.ensures, c.beyond_five-beyond.ensures, c.within_envelope-within.ensures) at c.first_row.ensures)))

pub returns : goal.returns
returns c =
    let none = no_row _ _ _ _ (sym c.in_ok-first_row.was ∙ c.first_row.ensures) in
    c.search.ensures ∙ searched _ _ _ _ _ _ _ _ _ c.positive-p.ensures.0 (sym c.refused-unfit.ensures ∙ none.0)
