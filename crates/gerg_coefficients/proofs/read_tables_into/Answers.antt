use mathlib.Core.Path.{sym, ◌∙◌}
use Rattle.std.proofs.lemmas.Result.{err_from_is_err_and}
use Rattle.gerg_coefficients.proofs.Cases.{malformed, well_formed, loaded_is}
use Rattle.gerg_file.proofs.Laws.Laid.{laid_out}
use Rattle.gerg_coefficients.proofs.read_tables_into.Goals as goal

pub returns-in_err-layout : goal.returns-in_err-layout
returns-in_err-layout c =
    let p = err_from_is_err_and c.from_residual.result c.from_residual.ensures.1 in
    rw (p.1, p.2, c.requires.0, c.requires.1) (malformed _ c.read_layout.ensures c.in_err-layout.was)

pub put_tables-finite-requires : goal.put_tables-finite-requires
put_tables-finite-requires c = (laid_out _ _ (sym c.read_layout.ensures ∙ c.in_ok-layout.was), c.requires)

pub returns-in_err-fault : goal.returns-in_err-fault
returns-in_err-fault c =
    let stored = c.put_tables-finite.ensures in
    let p = err_from_is_err_and c.from_residual-in_err-fault.result c.from_residual-in_err-fault.ensures.1 in
    rw (p.1, p.2) (well_formed _ c.read_layout.ensures c.in_ok-layout.was (loaded_is _ _ stored.0 stored.1.0) c.fault.ensures (rw c.in_err-fault.was))

pub returns : goal.returns
returns c =
    let stored = c.put_tables-finite.ensures in
    well_formed _ c.read_layout.ensures c.in_ok-layout.was (loaded_is _ _ stored.0 stored.1.0) c.fault.ensures (rw c.in_ok-fault.was)
