-- What a refusal is printed as, in ASCII.
use Rattle.std.specs.Prelude.{List, ◌∷◌, ◌++◌, ℕ}
use Rattle.std.specs.Fmt.{decimal}
use Rattle.gerg_refusals.specs.declared.Refusal.{Refusal}
use Rattle.gerg_refusals.specs.Refusal.{number_of, value_of}

-- its number, a space and its value, as the programs print them
abbrev pub text_of : Refusal → List ℕ
text_of r = decimal (number_of r) ++ (32 ∷ decimal (value_of r))
