-- `elementary_ln::ln::ln_parts` meets its contract. Assumes nothing.
use Rattle.elementary_ln.specs.Ln.{ln_parts}
use Rattle.elementary_ln.proofs.ln.ln_parts.Goals as goal

pub returns : goal.returns
unfolding ln_parts
returns c = cc
