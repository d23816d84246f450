-- The table's entries as doubles: each pattern is that of a number from 1 to 2, by one computed test over the table (`entry_pattern_lem`), so the pattern that n is added to is
-- that of 2 ^ (n - 2048) times the entry, which is finite (`scaled_number`, `scaled_value`). Assumes nothing.
use Rattle.std.proofs.Common.{◌≡◌, ℕ, ◌+◌, ◌-◌, ◌*◌, ◌/◌, ◌%◌, ◌^◌, ◌<◌, ◌≤◌, Bool, false, ◌&&◌, T, ltb, leb, length, get_or, sym, refl, ap, ◌∙◌, subst, arith, ltb→lt, leb→le, pow_pos, pow-add}
use lib.Ieee.{Float}
use lib.Ieee.Fits.{and_l, and_r}
use lib.Ieee.Exact.{HasValue}
use Rattle.numerics.specs.Double.{bits}
use Rattle.numerics.specs.Patterns.{normal_value, rescale}
use Rattle.numerics.specs.Table.{each, each_entry}
use Rattle.elementary_exp.specs.Exp.{scaled_entry}
use Rattle.elementary_exp.specs.ExpTable.{two_to_sixty_fourths, field_constant, entry_pattern}

-- the double nearest 2 ^ (j / 64)
unfoldable pub table_entry : ℕ → Float
unfolding two_to_sixty_fourths
table_entry j = bits (get_or two_to_sixty_fourths j 0)

-- ---- the field of each entry's exponent is 1023
pub record OneToTwo (p : ℕ) : Type 0 where
  pub least : 0x3ff0_0000_0000_0000 ≤ p
  pub most : p < 0x4000_0000_0000_0000

one_to_two : ℕ → ℕ → Bool
one_to_two j p = leb 0x3ff0_0000_0000_0000 p && ltb p 0x4000_0000_0000_0000

passes : T (each one_to_two 0 two_to_sixty_fourths)
unfolding each one_to_two two_to_sixty_fourths
passes = tt

pub entries : length two_to_sixty_fourths ≡ 64
unfolding two_to_sixty_fourths
entries = refl

entry_pattern_lem : (j : ℕ) → j < 64 → OneToTwo (get_or two_to_sixty_fourths j 0)
unfolding one_to_two
entry_pattern_lem j h =
    let p = get_or two_to_sixty_fourths j 0 in
    let t = each_entry one_to_two two_to_sixty_fourths j passes (rw entries h) in
    record { least = leb→le 0x3ff0_0000_0000_0000 p (and_l (leb 0x3ff0_0000_0000_0000 p) (ltb p 0x4000_0000_0000_0000) t); most = ltb→lt p 0x4000_0000_0000_0000 (and_r (leb 0x3ff0_0000_0000_0000 p) (ltb p 0x4000_0000_0000_0000) t) }

-- ---- n is added to the field, and 4096 falls off
abbrev sum : ℕ → ℕ → ℕ
sum p n = (p + field_constant * 0x10_0000_0000_0000 + n * 0x10_0000_0000_0000) % 0x1_0000_0000_0000_0000

record Added (p n : ℕ) : Type 0 where
  finite : sum p n < 0x7ff0_0000_0000_0000
  normal : 2 ^ 52 ≤ sum p n
  field : sum p n / 2 ^ 52 ≡ n - 1025
  digits : sum p n % 2 ^ 52 ≡ p % 2 ^ 52

added : (p n : ℕ) → OneToTwo p → 1025 < n → n < 3072 → Added p n
added p n o h k =
    let l = o.least in
    let m = o.most in
    record { finite = omega arith; normal = omega arith; field = omega arith; digits = omega arith }

pub scaled_number : (j n : ℕ) → j < 64 → 1025 < n → n < 3072 → (entry_pattern j + n * 0x10_0000_0000_0000) % 0x1_0000_0000_0000_0000 < 0x7ff0_0000_0000_0000
unfolding entry_pattern
scaled_number j n g h k = (added (get_or two_to_sixty_fourths j 0) n (entry_pattern_lem j g) h k).finite

abbrev pub significand : ℕ → ℕ
significand j = 2 ^ 52 + get_or two_to_sixty_fourths j 0 % 2 ^ 52

pub entry_value : (j : ℕ) → j < 64 → HasValue (table_entry j) false (significand j) (2 ^ 52)
unfolding table_entry
entry_value j g =
    let p = get_or two_to_sixty_fourths j 0 in
    let o = entry_pattern_lem j g in
    let l = o.least in
    let m = o.most in
    let f : p / 2 ^ 52 ≡ 1023 = omega arith in
    rescale (bits p) (significand j * 2 ^ 1022) (2 ^ 1074) (significand j) (2 ^ 52) (pow_pos 1074) (level (significand j) (2 ^ 1022) (2 ^ 52) (2 ^ 1074) refl)
    (subst (λ (k : ℕ). HasValue (bits p) false (significand j * 2 ^ (k - 1)) (2 ^ 1074)) f (normal_value p (omega arith) (omega arith)))
  where
    level : (s a b c : ℕ) → c ≡ a * b → s * c ≡ s * a * b
    level s a b c e = rw e (omega arith)

pub scaled_value : (j n : ℕ) → j < 64 → 1025 < n → n < 3072 → HasValue (scaled_entry j n) false (significand j * 2 ^ n) (2 ^ 52 * 2 ^ 2048)
unfolding scaled_entry entry_pattern
scaled_value j n g h k =
    let p = get_or two_to_sixty_fourths j 0 in
    let a = added p n (entry_pattern_lem j g) h k in
    let b = sum p n in
    let e : n - 1025 - 1 + 1026 ≡ n = omega arith in
    rescale (bits b) (significand j * 2 ^ (n - 1025 - 1)) (2 ^ 1074) (significand j * 2 ^ n) (2 ^ 52 * 2 ^ 2048) (pow_pos 1074)
    (level (significand j) (2 ^ n) (2 ^ (n - 1025 - 1)) (2 ^ 1074) (2 ^ 1026) (2 ^ 52 * 2 ^ 2048) refl (ap (λ (z : ℕ). 2 ^ z) (sym e) ∙ pow-add 2 (n - 1025 - 1) 1026))
    (subst (λ (z : ℕ). HasValue (bits b) false (significand j * 2 ^ (z - 1)) (2 ^ 1074)) a.field
    (subst (λ (z : ℕ). HasValue (bits b) false ((2 ^ 52 + z) * 2 ^ (b / 2 ^ 52 - 1)) (2 ^ 1074)) a.digits (normal_value b a.normal a.finite)))
  where
    level : (s N M A B C : ℕ) → C ≡ A * B → N ≡ M * B → s * N * A ≡ s * M * C
    level s N M A B C e f = rw (e, f) (omega arith)
