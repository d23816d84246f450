-- What the program prints has at most 1596 bytes: 38 lines of at most 42.
use mathlib.Core.Bool.{Bool, true, false}
use Rattle.std.proofs.Common.{arith, ℕ, ◌≤◌, List, [], ◌++◌, Result, Ok, Err}
use lib.Ieee.{Float}
use lib.Dec.{leb}
use lib.ListN.{length, length-append}
use Rattle.numerics.specs.Double.{pick}
use Rattle.gerg_refusals.specs.Refusal.{number_of, value_of}
use Rattle.gerg_refusals.specs.declared.Refusal.{Refusal}
use Rattle.gerg_states.specs.States.{number_at, count_of, run_refusal}
use Rattle.decimal_lines.specs.Line.{line_from, count_lines}
use Rattle.decimal_lines.proofs.Lengths.{line_length, count_lines_length}
use Rattle.states.specs.Text.{seed_of, states_of, list_of, fractions_of, file_of, file_start, told, lines_of, report_of, text_of}

told_length : {A : Type 0} (lines : A → List ℕ) (a : Result A Refusal) → ((u : A) → length (lines u) ≤ 1596) → length (told lines a) ≤ 1596
told_length lines (Ok u) h = h u
told_length lines (Err r) h = omega (arith, line_length (number_of r) (value_of r))

pub report_length : (seed states : ℕ) (list : List ℕ) (fractions : List Float) (file : List ℕ) → length (report_of seed states list fractions file) ≤ 1596
unfolding report_of lines_of
report_length seed states list fractions file =
    let counts : ℕ → ℕ = count_of (number_at file list fractions seed) 0 states in
    told_length (λ u. line_from seed states ++ count_lines counts 37) (run_refusal file list fractions seed)
    (λ u. omega (arith, length-append (line_from seed states) (count_lines counts 37), line_length seed states, count_lines_length counts 37))

pub text_length : (s : List ℕ) → length (text_of s) ≤ 1596
unfolding text_of
text_length s = go (leb (file_start s) (length s))
  where
    go : (b : Bool) → length (pick b (report_of (seed_of s) (states_of s) (list_of s) (fractions_of s) (file_of s)) (report_of 1 0 [] [] [])) ≤ 1596
    go true = report_length (seed_of s) (states_of s) (list_of s) (fractions_of s) (file_of s)
    go false = report_length 1 0 [] [] []
