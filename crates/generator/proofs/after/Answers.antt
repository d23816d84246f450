use Rattle.std.proofs.Common.{sym, refl, ap, ◌∙◌, add-one}
use Rattle.generator.specs.Generator.{next_of, after_of, start_of}
use Rattle.generator.proofs.after.Goals as goal

pub loop-init : goal.loop-init
unfolding after_of
loop-init c = refl

pub loop-preserved : goal.loop-preserved
unfolding after_of
loop-preserved c = c.next-g.ensures ∙ ap next_of c.loop.invariant ∙ ap (after_of (start_of c.args.seed)) (sym (add-one c.loop.counter))
