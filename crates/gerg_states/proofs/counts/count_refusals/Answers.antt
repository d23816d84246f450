-- `gerg_states::counts::count_refusals` meets its contract. Assumes nothing.
use mathlib.Core.Path.{sym, ap, ◌∙◌}
use Rattle.gerg_tables.specs.declared.Tables.{Tables}
use Rattle.gerg_states.specs.Prepared.{counts_from}
use Rattle.gerg_states.proofs.Laws.Numbers.{prepared_counts, after_rows, written_counts}
use Rattle.gerg_states.proofs.counts.count_refusals.Goals as goal

pub returns-clause-memory : goal.returns-clause-memory
returns-clause-memory c =
    let seed = sym c.seed_refusal.ensures ∙ c.in_ok-seed_refusal.was in
    let mixed = sym c.prepare.ensures.answer ∙ c.in_ok-mixed.was in
    c.count_states.ensures ∙ ap (λ (t : Tables). counts_from t c.in_ok-mixed.mixed.model c.args.run) c.prepare.ensures.tables ∙ prepared_counts _ _ _ _ mixed _
    ∙ sym (written_counts _ _ _ _ _ (after_rows _ _ _ _ _ seed mixed))
