-- Document 01's number and value of an answer: those of its refusal, and 0 where it is accepted.
use Rattle.std.specs.Prelude.{ℕ, Result, Ok, Err}
use Rattle.gerg_refusals.specs.declared.Refusal.{Refusal}
use Rattle.gerg_refusals.specs.Refusal as of_refusal

abbrev pub number_of : {A : Type 0} → Result A Refusal → ℕ
number_of (Ok a) = 0
number_of (Err r) = of_refusal.number_of r

abbrev pub value_of : {A : Type 0} → Result A Refusal → ℕ
value_of (Ok a) = 0
value_of (Err r) = of_refusal.value_of r

-- nothing refused, and nothing else to tell
abbrev pub passed : {E : Type 0} → Result (Unit {0}) E
passed = Ok tt

-- what follows where nothing is refused
abbrev pub and_then : {A B E : Type 0} → Result A E → (A → Result B E) → Result B E
and_then (Ok a) later = later a
and_then (Err e) later = Err e

-- "Every row leaves all lent memory as it was": memory as lent, and as an accepted call leaves it
abbrev pub memory_of : {A B : Type 0} → Result A Refusal → B → (A → B) → B
memory_of (Ok a) out later = later a
memory_of (Err r) out later = out
