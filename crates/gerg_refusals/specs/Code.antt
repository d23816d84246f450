-- The codes of the C exports.
use Rattle.std.specs.Prelude.{ℕ, ◌+◌, ◌*◌, ◌%◌, ◌^◌, Result, Ok, Err}
use Rattle.gerg_refusals.specs.Refusal.{number_of, value_of}
use Rattle.gerg_refusals.specs.declared.Refusal.{Refusal}

-- number × 2^32 + value; every value of document 01's table is below 2^32, and of an offset past 2^32 (number 28) the last 32 digits are given
unfoldable pub code_of : ℕ → ℕ → ℕ
code_of number value = number * 2 ^ 32 + value % 2 ^ 32

-- beside number 0 what an accepted answer reports, beside a refusal's number its value
unfoldable pub code : Result ℕ Refusal → ℕ
code (Ok reported) = code_of 0 reported
code (Err r) = code_of (number_of r) (value_of r)
