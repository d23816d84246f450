-- "State n .. has to be the same whether reached alone or in a run". Assumes nothing.
use Rattle.std.proofs.Common.{◌≡◌, ℕ, zero, suc, ◌+◌, ◌*◌, ◌<◌, get_or, ap, ◌∙◌, arith}
use Rattle.generator.specs.declared.Generator.{Generator}
use Rattle.generator.specs.declared.State.{State}
use Rattle.generator.specs.Generator.{after_of, start_of, draw_of, state_of, drawn_state_of, states_from}

-- ---- the two draws of state n, made where 2n draws have been made
pub drawn_state : (seed n : ℕ) → (drawn_state_of (after_of (start_of seed) (2 * n))).state ≡ state_of seed n
unfolding drawn_state_of state_of draw_of after_of
drawn_state seed n =
    let a : 2 * n + 1 ≡ suc (2 * n) = omega arith in
    let b : 2 * n + 2 ≡ suc (suc (2 * n)) = omega arith in
    rw (a, b)

pub drawn_generator : (seed n : ℕ) → (drawn_state_of (after_of (start_of seed) (2 * n))).generator ≡ after_of (start_of seed) (2 * (n + 1))
unfolding drawn_state_of after_of
drawn_generator seed n =
    let a : 2 * (n + 1) ≡ suc (suc (2 * n)) = omega arith in
    rw a

-- the states that a run draws one after the other, from state `first` on, are the states reached alone
pub alone_or_in_a_run : (seed first count i : ℕ) (d : State) → i < count → get_or (states_from (after_of (start_of seed) (2 * first)) count) i d ≡ state_of seed (first + i)
unfolding states_from
alone_or_in_a_run seed first zero i d h = absurd (omega arith)
alone_or_in_a_run seed first (suc count) zero d h = drawn_state seed first ∙ ap (state_of seed) (let e : first ≡ first + 0 = omega arith in e)
alone_or_in_a_run seed first (suc count) (suc i) d h =
    ap (λ (g : Generator). get_or (states_from g count) i d) (drawn_generator seed first) ∙ alone_or_in_a_run seed (first + 1) count i d (omega arith)
    ∙ ap (state_of seed) (let e : first + 1 + i ≡ first + suc i = omega arith in e)
