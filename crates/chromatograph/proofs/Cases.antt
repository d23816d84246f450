-- Cases of the definitions: the digits' order inside a byte, wrong records behind one another, the order of the refusals. Each is proved by computation. Assumes nothing.
use mathlib.Core.Path.{◌≡◌, refl}
use mathlib.Core.List.{List, [], ◌∷◌, ◌++◌}
use Prim.Native.Nat.{ℕ}
use lib.Ieee.{of_bits, round, units, odd, size, span, climb}
use lib.Count.{count_trailing_zeros}
use Rattle.numerics.specs.Double.{one, half, bits}
use Rattle.numerics.specs.Loop.{iter, tabulate}
use Rattle.gerg_model.specs.MixtureCheck.{first_place, bad_number}
use Rattle.packed_decimal.specs.Record.{two_digits, wrong_digits, component_at, parts_at, wrong_record, packed, record_of, fraction_of}
use Rattle.packed_decimal.specs.Records.{wrong_offset, components_of, parts_of, total_of, bad_total}
use Rattle.chromatograph.specs.Lists.{bad_place, bad_list, read_answer, write_answer}
use Rattle.std.specs.Prelude.{Ok, Err}
use Rattle.gerg_refusals.specs.declared.Refusal.TheVariants as refusal

-- methane, 1,000,000 parts
abbrev methane : List ℕ
methane = 0x10 ∷ 1 ∷ 0x01 ∷ 0x00 ∷ 0x00 ∷ 0x00 ∷ []

-- "two to a byte, high digit first"
pub high_digit_first : parts_at (0x10 ∷ 1 ∷ 0x12 ∷ 0x34 ∷ 0x56 ∷ 0x78 ∷ []) 0 ≡ 12_345_678
unfolding parts_at two_digits
high_digit_first = refl

pub record_of_lem : record_of 21 12_345_678 ≡ 0x10 ∷ 21 ∷ 0x12 ∷ 0x34 ∷ 0x56 ∷ 0x78 ∷ []
unfolding record_of packed
record_of_lem = refl

-- one component
pub one_record : read_answer methane 1 1 1 ≡ Ok 1
unfolding read_answer wrong_offset first_place wrong_record wrong_digits bad_list bad_place bad_number bad_total total_of iter components_of parts_of tabulate component_at parts_at two_digits
one_record = refl

-- no byte at all: an empty list
pub no_record : read_answer [] 0 0 0 ≡ Err (refusal.Components 0)
unfolding read_answer wrong_offset first_place bad_list bad_place components_of tabulate
no_record = refl

-- a cut last record behind a good one, cut anywhere
pub cut_last : read_answer (methane ++ (0x10 ∷ [])) 9 9 9 ≡ Err (refusal.Record 6)
unfolding read_answer wrong_offset first_place wrong_record wrong_digits
cut_last = refl

pub cut_by_one : read_answer (methane ++ (0x10 ∷ 2 ∷ 0x00 ∷ 0x00 ∷ 0x00 ∷ [])) 9 9 9 ≡ Err (refusal.Record 6)
unfolding read_answer wrong_offset first_place wrong_record wrong_digits
cut_by_one = refl

-- a record that is a byte short in the middle: its sixth byte is the next one's kind, which reads as two digits, and the record behind it begins with a wrong kind
pub short_in_the_middle : read_answer (0x10 ∷ 1 ∷ 0x01 ∷ 0x00 ∷ 0x00 ∷ methane) 9 9 9 ≡ Err (refusal.Record 6)
unfolding read_answer wrong_offset first_place wrong_record wrong_digits
short_in_the_middle = refl

-- of a wrong kind and a cut record behind it the first tells the offset, and of a digit above 9 and an unknown component the digit
pub first_of_two : read_answer (0x11 ∷ 1 ∷ 0x01 ∷ 0x00 ∷ 0x00 ∷ 0x00 ∷ 0x10 ∷ []) 9 9 9 ≡ Err (refusal.Record 0)
unfolding read_answer wrong_offset first_place wrong_record wrong_digits
first_of_two = refl

pub digit_before_component : read_answer (0x10 ∷ 22 ∷ 0x01 ∷ 0x00 ∷ 0x00 ∷ 0x0a ∷ []) 9 9 9 ≡ Err (refusal.Record 0)
unfolding read_answer wrong_offset first_place wrong_record wrong_digits
digit_before_component = refl

-- a repeated component comes before a wrong total, a wrong total before short lists
pub repeated_before_total : read_answer (methane ++ methane) 0 0 0 ≡ Err (refusal.Components 1)
unfolding read_answer wrong_offset first_place wrong_record wrong_digits bad_list bad_place bad_number components_of tabulate component_at
repeated_before_total = refl

pub total_before_short : read_answer (0x10 ∷ 1 ∷ 0x00 ∷ 0x99 ∷ 0x99 ∷ 0x99 ∷ []) 0 0 0 ≡ Err refusal.Total
unfolding read_answer wrong_offset first_place wrong_record wrong_digits bad_list bad_place bad_number bad_total total_of iter components_of parts_of tabulate component_at parts_at two_digits
total_before_short = refl

pub short_last : read_answer methane 1 1 0 ≡ Err (refusal.TooShort 1)
unfolding read_answer wrong_offset first_place wrong_record wrong_digits bad_list bad_place bad_number bad_total total_of iter components_of parts_of tabulate component_at parts_at two_digits
short_last = refl

-- writing: "an empty list beside parts is row 3"; lengths before the total; a total past 2^32 is 29
pub empty_beside_parts : write_answer [] (1_000_000 ∷ []) 9 ≡ Err (refusal.Components 0)
unfolding write_answer bad_list bad_place first_place
empty_beside_parts = refl

pub lengths_before_total : write_answer (1 ∷ 2 ∷ []) (1 ∷ []) 0 ≡ Err (refusal.Fractions 2)
unfolding write_answer bad_list bad_place bad_number first_place
lengths_before_total = refl

pub total_past_2^32 : write_answer (1 ∷ 2 ∷ []) (0xffff_ffff ∷ 1_000_001 ∷ []) 99 ≡ Err refusal.Total
unfolding write_answer bad_list bad_place bad_number first_place bad_total total_of iter
total_past_2^32 = refl

pub bytes_needed : write_answer (1 ∷ 2 ∷ []) (0 ∷ 1_000_000 ∷ []) 11 ≡ Err (refusal.TooShort 12)
unfolding write_answer bad_list bad_place bad_number first_place bad_total total_of iter
bytes_needed = refl

-- parts of 1,000,000, 500,000 and 1: 1, 1/2 and the double nearest to 0.000001
pub whole_fraction : fraction_of 1_000_000 ≡ one
unfolding fraction_of round units odd size span climb count_trailing_zeros of_bits
whole_fraction = refl

pub half_fraction : fraction_of 500_000 ≡ half
unfolding fraction_of round units odd size span climb count_trailing_zeros of_bits
half_fraction = refl

pub least_fraction : fraction_of 1 ≡ bits 0x3eb0_c6f7_a0b5_ed8d
unfolding fraction_of round units odd size span climb count_trailing_zeros of_bits
least_fraction = refl
