use mathlib.Core.Path.{◌∙◌}
use Rattle.gerg_file.specs.File.{after_revision}
use Rattle.gerg_file.proofs.Prefix.{revision_is}
use Rattle.gerg_file.proofs.walk.revision.Goals as goal

pub returns-then-starts_with : goal.returns-then-starts_with
unfolding after_revision
returns-then-starts_with c = simp (revision_is c.args.s.now c.starts_with.ensures.value ∙ c.if-starts_with.true)

pub returns : goal.returns
unfolding after_revision
returns c = simp (revision_is c.args.s.now c.starts_with.ensures.value ∙ c.if-starts_with.false)
