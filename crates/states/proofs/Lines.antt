-- The text of a report on a run that wrote its counts. Assumes nothing.
use mathlib.Core.Path.{◌≡◌, refl, sym, ap, ◌∙◌}
use mathlib.Core.List.{List, ◌++◌}
use Prim.Native.Nat.{ℕ, zero, suc, ◌-◌, ◌≤◌}
use native.Mathlib.Omega.{arith}
use lib.Ieee.{Float}
use lib.ListN.{length, get_or}
use Rattle.numerics.specs.Fill.{tabulate, length_tabulate, get_d_tabulate}
use Rattle.decimal_lines.specs.Line.{line_from, count_lines, count_lines_text}
use Rattle.std.specs.Prelude.{Result}
use Rattle.gerg_refusals.specs.Answer.{passed}
use Rattle.gerg_refusals.specs.declared.Refusal.{Refusal}
use Rattle.gerg_states.specs.States.{number_at, count_of, run_of, run_refusal, counts_written}
use Rattle.gerg_states.proofs.Laws.Numbers.{accepted_counts}
use Rattle.states.specs.Text.{lines_of, told, report_of}

-- the same counts, the same lines
counts_same : (f g : ℕ → ℕ) (n : ℕ) → ((k : ℕ) → k ≤ n → f k ≡ g k) → count_lines f n ≡ count_lines g n
unfolding count_lines
counts_same f g zero e = refl
counts_same f g (suc n) e = let a = counts_same f g n (λ k h. e k (omega arith)) in let b = e (suc n) (omega arith) in cc

-- of 38 counts
lines_same : (counts : List ℕ) (f : ℕ → ℕ) → counts ≡ tabulate f 38 → count_lines_text counts ≡ count_lines f 37
lines_same counts f c =
    let last : length counts - 1 ≡ 37 = omega (arith, ap length c ∙ length_tabulate f 38) in
    ap (count_lines (λ k. get_or counts k 0)) last
    ∙ counts_same (λ k. get_or counts k 0) f 37 (λ k h. ap (λ (x : List ℕ). get_or x k 0) c ∙ get_d_tabulate f 38 k 0 (omega arith))

module _ (seed states : ℕ) (list : List ℕ) (fractions : List Float) (file : List ℕ) where
  pub counted_is : {a : Result (Unit {0}) Refusal} {counts : List ℕ} (out : List ℕ) → a ≡ passed → a ≡ run_refusal file list fractions seed
      → counts ≡ counts_written file list fractions (run_of seed 0 states) out
      → line_from seed states ++ count_lines_text counts ≡ report_of seed states list fractions file
  unfolding report_of lines_of
  counted_is {a} {counts} out n e w =
      let f = count_of (number_at file list fractions seed) 0 states in
      let c = w ∙ accepted_counts file list fractions (run_of seed 0 states) out (sym e ∙ n) in
      ap (λ l. line_from seed states ++ l) (lines_same counts f c)
      ∙ sym (ap (λ (x : Result (Unit {0}) Refusal). told (λ passed. lines_of seed states f) x) (sym e ∙ n))
