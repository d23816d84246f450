-- Cases of document 01, worked out by the definitions.
use mathlib.Core.Path.{◌≡◌, refl, ap}
use mathlib.Core.List.{[], ◌∷◌}
use Rattle.std.specs.Prelude.{Err}
use Rattle.gerg_refusals.specs.declared.Refusal.TheVariants.{File}
use Rattle.gerg_file.specs.Kinds as Kinds
use Rattle.gerg_file.specs.File.{revision, chain, same_at, after_revision, after_components, after_terms, after_pairs, after_functions, after_departures, verdict, file_of}
use Rattle.gerg_coefficients.specs.Answer.{number_of, value_of, answer_as, answer_of}

-- "empty file: 1 at 0"
pub empty_file : answer_of [] ≡ Err (File 0)
unfolding answer_of answer_as file_of verdict after_departures after_functions after_pairs after_terms after_components after_revision same_at
empty_file = refl

pub empty_file_number : number_of (answer_of []) ≡ 1
empty_file_number = ap number_of empty_file

pub empty_file_value : value_of (answer_of []) ≡ 0
empty_file_value = ap value_of empty_file

-- the first record alone is refused where the second would begin
pub first_record_alone : answer_of ((Kinds.revision).kind ∷ revision) ≡ Err (File (Kinds.revision).size)
unfolding answer_of answer_as file_of verdict after_departures after_functions after_pairs after_terms after_components after_revision same_at chain
first_record_alone = refl
