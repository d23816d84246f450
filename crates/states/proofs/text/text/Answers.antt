-- The report on an input that is cut before its file begins, or on its parts.
use Rattle.std.proofs.Common.{ap, ◌∙◌, arith, length-take-le}
use Rattle.std.proofs.lemmas.List.{length-replicate}
use Rattle.gerg_coefficients.specs.Load.{doubles_at}
use Rattle.states.proofs.Input.{cut_head, whole_report}
use Rattle.states.proofs.text.text.Goals as goal

pub returns-then-input-file_start : goal.returns-then-input-file_start
returns-then-input-file_start c = rw (cut_head c.args.input.now (omega (arith, c.byte_at-components.ensures.0))) c.of_run.ensures

pub returns : goal.returns
returns c =
    let components = c.byte_at-components.ensures in
    c.of_run-2.ensures
    ∙ whole_report c.args.input.now _ _ _ _ components.0 c.word_inside-seed.ensures c.states_of-states.ensures (c.read_doubles.ensures ∙ ap (doubles_at _ _) (length-take-le _ _ (simp length-replicate (omega (arith, components.1.0))))) (omega arith)
