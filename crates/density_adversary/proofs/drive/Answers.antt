-- No more trials than steps.
use Rattle.std.proofs.Common.{ap, ◌∙◌, arith}
use Rattle.gerg_search.specs.declared.Search.{Search}
use Rattle.density_adversary.proofs.Trials.{none_begun, one_more}
use Rattle.density_adversary.proofs.drive.Goals as goal

pub loop-step-init : goal.loop-step-init
loop-step-init c = omega (arith, ap (λ (s : Search). s.trials) c.begin-search.ensures ∙ none_begun c.args.options)

pub loop-step-preserved : goal.loop-step-preserved
loop-step-preserved c =
    omega (arith, c.loop-step.invariant, ap (λ (s : Search). s.trials) c.moved-search.ensures, one_more c.loop-step.search c.verdict-sample.result c.in-Try.density)
