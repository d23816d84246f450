-- The five numbers of a pair, by the places of their readers.
use Rattle.std.proofs.Common.{rules, arith, ◌≡◌, ℕ, ◌+◌, ◌*◌, List, Float, Bool, get_or, refl, sym, ap, ◌∙◌, Result, Ok, Err}
use Rattle.std.proofs.lemmas.Result.{err_from_is_err_and}
use lib.Ieee.{nan}
use Rattle.gerg_refusals.specs.declared.Fault.{Fault}
use Rattle.gerg_tables.specs.Tables.{btij, bvij, gtij, gvij, fij}
use Rattle.gerg_tables.specs.Check.{pair_number, some_nonfinite, fault_if, first_of, of_number, number_fault, first}
use Rattle.gerg_tables.proofs.check.first_nonfinite.Goals as goal

at_place : (d : List Float) (q i j n : ℕ) {r : Float} → r ≡ get_or d n nan → n ≡ 1281 + 105 * i + 5 * j + q → r ≡ pair_number d q i j
at_place d q i j n e p = e ∙ ap (λ (m : ℕ). get_or d m nan) p

judged : (d : List Float) (q : ℕ) {test : Bool} {f : Result (Unit {0}) Fault} → test ≡ some_nonfinite d q → f ≡ fault_if test (of_number q) → f ≡ number_fault d q
judged d q e g = g ∙ ap (λ (b : Bool). fault_if b (of_number q)) e

-- what is left after the first three and after the first four
after_three : (d : List Float) {u v w : Unit {0}} → number_fault d 0 ≡ Ok u → number_fault d 1 ≡ Ok v → number_fault d 2 ≡ Ok w
    → first (number_fault d) 5 0 ≡ first_of (number_fault d 3) (first_of (number_fault d 4) (Ok tt))
unfolding first
after_three d e f g = rw (e, f, g)

last : (f : Result (Unit {0}) Fault) → f ≡ first_of f (Ok tt)
last (Ok u) = refl
last (Err e) = refl

pub returns-in_err-fault_if-4 : goal.returns-in_err-fault_if-4
returns-in_err-fault_if-4 c =
    let d = c.args.doubles.now in
    let f0 = judged d 0 (c.some_nonfinite.ensures d 0 (λ i j r p. at_place d 0 i j _ (let e : r ≡ btij d i j = search rules in e) (omega arith))) c.fault_if.ensures in
    let f1 = judged d 1 (c.some_nonfinite-2.ensures d 1 (λ i j r p. at_place d 1 i j _ (let e : r ≡ bvij d i j = search rules in e) (omega arith))) c.fault_if-2.ensures in
    let f2 = judged d 2 (c.some_nonfinite-3.ensures d 2 (λ i j r p. at_place d 2 i j _ (let e : r ≡ gtij d i j = search rules in e) (omega arith))) c.fault_if-3.ensures in
    let f3 = judged d 3 (c.some_nonfinite-4.ensures d 3 (λ i j r p. at_place d 3 i j _ (let e : r ≡ gvij d i j = search rules in e) (omega arith))) c.fault_if-4.ensures in
    let p = err_from_is_err_and c.from_residual-in_err-fault_if-4.result c.from_residual-in_err-fault_if-4.ensures.1 in
    rw (p.1, p.2, after_three d (sym f0 ∙ c.in_ok-fault_if.was) (sym f1 ∙ c.in_ok-fault_if-2.was) (sym f2 ∙ c.in_ok-fault_if-3.was), sym f3 ∙ c.in_err-fault_if-4.was)

pub returns : goal.returns
returns c =
    let d = c.args.doubles.now in
    let f0 = judged d 0 (c.some_nonfinite.ensures d 0 (λ i j r p. at_place d 0 i j _ (let e : r ≡ btij d i j = search rules in e) (omega arith))) c.fault_if.ensures in
    let f1 = judged d 1 (c.some_nonfinite-2.ensures d 1 (λ i j r p. at_place d 1 i j _ (let e : r ≡ bvij d i j = search rules in e) (omega arith))) c.fault_if-2.ensures in
    let f2 = judged d 2 (c.some_nonfinite-3.ensures d 2 (λ i j r p. at_place d 2 i j _ (let e : r ≡ gtij d i j = search rules in e) (omega arith))) c.fault_if-3.ensures in
    let f3 = judged d 3 (c.some_nonfinite-4.ensures d 3 (λ i j r p. at_place d 3 i j _ (let e : r ≡ gvij d i j = search rules in e) (omega arith))) c.fault_if-4.ensures in
    let f4 = judged d 4 (c.some_nonfinite-5.ensures d 4 (λ i j r p. at_place d 4 i j _ (let e : r ≡ fij d i j = search rules in e) (omega arith))) c.fault_if-5.ensures in
    rw (after_three d (sym f0 ∙ c.in_ok-fault_if.was) (sym f1 ∙ c.in_ok-fault_if-2.was) (sym f2 ∙ c.in_ok-fault_if-3.was), sym f3 ∙ c.in_ok-fault_if-4.was) (f4 ∙ last (number_fault d 4))
