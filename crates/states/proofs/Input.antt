-- What the parts of an input are, and which report it has. Assumes nothing.
use mathlib.Core.Path.{◌≡◌}
use mathlib.Core.List.{List, []}
use Prim.Native.Nat.{ℕ, ◌+◌, ◌-◌, ◌*◌, ◌≤◌, ◌<◌}
use native.Mathlib.Omega.{arith}
use borrow.Author.Tests.{le-leb, lt-leb}
use lib.Ieee.{Float}
use lib.ListN.{length, take, drop, length-drop}
use lib.Seq.{take_all}
use Rattle.gerg_coefficients.specs.Load.{doubles_at}
use Rattle.states.specs.Text.{components_of, seed_of, states_of, list_of, fractions_of, file_start, file_of, report_of, text_of}

pub cut_head : (s : List ℕ) → length s < file_start s → text_of s ≡ report_of 1 0 [] [] []
unfolding text_of
cut_head s h = rw (lt-leb (file_start s) (length s) h)

pub whole_head : (s : List ℕ) → file_start s ≤ length s → text_of s ≡ report_of (seed_of s) (states_of s) (list_of s) (fractions_of s) (file_of s)
unfolding text_of
whole_head s h = rw (le-leb (file_start s) (length s) h)

-- the report on the parts that were read: the components between two places, the file up to the input's end
pub whole_report : (s : List ℕ) (components seed states : ℕ) (fractions : List Float) → components ≡ components_of s → seed ≡ seed_of s → states ≡ states_of s
    → fractions ≡ doubles_at s (13 + components) components → 13 + 9 * components ≤ length s
    → report_of seed states (take (13 + components - 13) (drop 13 s)) fractions
    (take (length s - (13 + 9 * components)) (drop (13 + 9 * components) s))
    ≡ text_of s
whole_report s components seed states fractions c a b e h =
    let at = 13 + 9 * components in
    let i : 13 + components - 13 ≡ components = omega arith in
    let p : take (length s - at) (drop at s) ≡ drop at s = take_all (length s - at) (drop at s) (omega (arith, length-drop at s)) in
    let w = whole_head s (omega arith) in
    cc
