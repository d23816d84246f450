use mathlib.Core.Path.{◌≡◌, ap, ◌∙◌}
use Prim.Native.Nat.{ℕ, ◌+◌, ◌*◌}
use native.Mathlib.Omega.{arith}
use Rattle.generator.specs.declared.DrawnState.{DrawnState}
use Rattle.generator.specs.Generator.{after_of, start_of, drawn_state_of}
use Rattle.generator.proofs.Laws.Alone.{drawn_state, drawn_generator}
use Rattle.gerg_states.specs.States.{counts_by}
use Rattle.gerg_states.specs.Prepared.{number_from, counts_from}
use Rattle.gerg_states.proofs.Laws.Counts.{counts_begin, counts_turn, counts_at_most, counts_done}
use Rattle.gerg_states.proofs.counts.count_states.Goals as goal

pub loop-init : goal.loop-init
loop-init c = (c.after-g.ensures ∙ ap (after_of _) (omega (arith, c.from.ensures)), counts_begin _ _ 38)

pub overflow_add-out : goal.overflow_add-out
overflow_add-out c =
    let h = counts_at_most _ _ _ 38 _ _ c.loop.invariant.1 c.number_of-number.ensures.1 in
    omega arith

pub loop-preserved : goal.loop-preserved
loop-preserved c =
    let t = c.loop in
    let run = c.args.run in
    let d = c.draw_state-drawn.ensures ∙ ap drawn_state_of t.invariant.0 in
    let n = c.number_of-number.ensures in (
      ap (λ (x : DrawnState). x.generator) d ∙ drawn_generator run.seed (run.first + t.counter)
          ∙ ap (λ (m : ℕ). after_of (start_of run.seed) (2 * m)) (let e : run.first + t.counter + 1 ≡ run.first + (t.counter + 1) = omega arith in e),
      counts_turn _ _ _ 38 _ _ t.invariant.1 (n.0 ∙ ap (number_from _ _) (ap (λ (x : DrawnState). x.state) d ∙ drawn_state run.seed (run.first + t.counter))) n.1,
    )

pub returns : goal.returns
unfolding counts_from counts_by
returns c = counts_done _ _ c.loop.counter _ 38 _ c.loop.invariant.1 (omega arith)
