-- What is made of what a step accepts; a refusal stays.
use Rattle.std.specs.Prelude.{Result, Ok, Err}

-- a change of what is accepted
abbrev pub mapped : {A B E : Type 0} → (A → B) → Result A E → Result B E
mapped change (Ok a) = Ok (change a)
mapped change (Err r) = Err r

-- what a call leaves of lent memory where it passes, or its refusal
abbrev pub leaves : {A E : Type 0} → Result (Unit {0}) E → A → Result A E
leaves passed a = mapped (λ u. a) passed
