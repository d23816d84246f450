-- `generator::state_at` meets its contract. Assumes nothing.
use Rattle.std.proofs.Common.{ap, ◌∙◌}
use Rattle.generator.specs.declared.DrawnState.{DrawnState}
use Rattle.generator.specs.Generator.{drawn_state_of}
use Rattle.generator.proofs.Laws.Alone.{drawn_state}
use Rattle.generator.proofs.state_at.Goals as goal

pub returns : goal.returns
returns c =
    ap (λ (d : DrawnState). d.state) (c.draw_state-drawn.ensures ∙ ap drawn_state_of c.after-g.ensures) ∙ rw c.from.ensures (drawn_state _ _)
