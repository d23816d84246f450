-- Every T lies in 200..450 and every density in 1e-3..30000, whatever was drawn. Assumes nothing.
use Rattle.std.proofs.Common.{◌≡◌, ℕ, ◌+◌, ◌*◌, ◌/◌, ◌^◌, ◌<◌, false, T, pos, refl, ⊎_elim, le_refl, mod-lt, eq-zero-or-pos, arith, pow_pos}
use lib.Ieee.{Float, binary64, of_int, of_bits, add, mul, div, le}
use lib.Ieee.Exact.{HasValue}
use lib.Ieee.Order.{le_of_values}
use lib.Ieee.Positive.{num, den, positive, cross→le, positive_of_value, le_trans_positive, between, mul_mono}
use Rattle.numerics.specs.Double.{◌⊕◌, ◌⊗◌, ◌⊘◌, bits, one}
use Rattle.numerics.specs.Nonneg.{add_grows}
use Rattle.generator.specs.Generator.{unit_of, temperature_of, density_of, drawn_of, draw_of, state_of}
use Rattle.generator.proofs.Laws.Unit.{unit_below, unit_exact}

-- 2^-53, the least u above 0
abbrev least : Float
least = bits 0x3ca0_0000_0000_0000

least_value : HasValue least false 1 (2 ^ 53)
unfolding of_bits
least_value = (refl, refl)

one_value : HasValue one false 1 1
unfolding of_bits
one_value = (refl, refl)

-- a + b × u for the three u that bound it: 0, 2^-53 and 1
abbrev affine : Float → Float → Float → Float
affine a b u = a ⊕ b ⊗ u

abbrev nothing : Float
nothing = of_int binary64 (pos 0) ⊘ bits 0x4340_0000_0000_0000

-- from lo to hi, ends allowed
abbrev pub Inside : Float → Float → Float → Type 0
Inside lo hi x = T (le lo x) × T (le x hi)

pub record Bounded (a b lo hi : Float) : Type 0 where
  pub first : T (positive a)
  pub factor : T (positive b)
  pub low : T (positive lo)
  pub high : T (positive hi)
  pub product_least : T (positive (b ⊗ least))
  pub product_one : T (positive (b ⊗ one))
  pub at_least : T (positive (affine a b least))
  pub at_one : T (positive (affine a b one))
  pub from_nothing : T (le lo (affine a b nothing))
  pub to_nothing : T (le (affine a b nothing) hi)
  pub from_least : T (le lo (affine a b least))
  pub to_one : T (le (affine a b one) hi)

itself : (x : Float) → T (positive x) → T (le x x)
itself x p = cross→le x x p p (le_refl (num x * den x))

module _ (a b lo hi : Float) (B : Bounded a b lo hi) where
  above : (u : Float) → T (positive u) → T (le least u) → T (le u one) → Inside lo hi (affine a b u)
  above u U f g =
      let s = positive_of_value least 1 (2 ^ 53) least_value (omega arith) in
      let w = positive_of_value one 1 1 one_value (omega arith) in
      let i = itself b B.factor in
      let m = mul_mono binary64 b b least u B.factor B.factor s U i f in
      let n = mul_mono binary64 b b u one B.factor B.factor U w i g in
      let R = between (b ⊗ least) (b ⊗ u) (b ⊗ one) B.product_least B.product_one m n in
      let l = add_grows binary64 a (b ⊗ least) (b ⊗ u) B.first B.product_least R m in
      let h = add_grows binary64 a (b ⊗ u) (b ⊗ one) B.first R B.product_one n in
      let S = between (affine a b least) (affine a b u) (affine a b one) B.at_least B.at_one l h in (
        le_trans_positive lo (affine a b least) (affine a b u) B.low B.at_least S B.from_least l,
        le_trans_positive (affine a b u) (affine a b one) hi S B.at_one B.high h B.to_one,
      )

  inside : (word : ℕ) → word < 2 ^ 64 → Inside lo hi (affine a b (unit_of word))
  unfolding unit_of
  inside word h = ⊎_elim none some (eq-zero-or-pos (word / 2 ^ 11))
    where
      none : word / 2 ^ 11 ≡ 0 → Inside lo hi (affine a b (unit_of word))
      none e = rw e (B.from_nothing, B.to_nothing)

      some : 0 < word / 2 ^ 11 → Inside lo hi (affine a b (unit_of word))
      some p =
          let n = word / 2 ^ 11 in
          let v = unit_exact word h in
          let q = unit_below word h in
          above (unit_of word) (positive_of_value (unit_of word) n (2 ^ 53) v p)
          (le_of_values least (unit_of word) 1 (2 ^ 53) n (2 ^ 53) (pow_pos 53) (pow_pos 53) least_value v (omega arith))
          (le_of_values (unit_of word) one n (2 ^ 53) 1 1 (pow_pos 53) (omega arith) v one_value (omega arith))

-- the ends: 200 and 450 K, 1e-3 and 30000 mol/m³
abbrev 200_K : Float
200_K = bits 0x4069_0000_0000_0000

abbrev 450_K : Float
450_K = bits 0x407c_2000_0000_0000

abbrev lightest : Float
lightest = bits 0x3f50_624d_d2f1_a9fc

abbrev densest : Float
densest = bits 0x40dd_4c00_0000_0000

temperature_bounded : Bounded 200_K (bits 0x406f_4000_0000_0000) 200_K 450_K
unfolding add mul div le of_int of_bits
temperature_bounded = record { first = tt; factor = tt; low = tt; high = tt; product_least = tt; product_one = tt; at_least = tt; at_one = tt; from_nothing = tt; to_nothing = tt; from_least = tt; to_one = tt }

density_bounded : Bounded lightest (bits 0x40dd_4bc0_0000_0000) lightest densest
unfolding add mul div le of_int of_bits
density_bounded = record { first = tt; factor = tt; low = tt; high = tt; product_least = tt; product_one = tt; at_least = tt; at_one = tt; from_nothing = tt; to_nothing = tt; from_least = tt; to_one = tt }

-- "every T is in 200..450
pub temperature_inside : (word : ℕ) → word < 2 ^ 64 → Inside 200_K 450_K (temperature_of word)
unfolding temperature_of
temperature_inside word h = inside _ _ _ _ temperature_bounded word h

-- and every density in 1e-3..30000"
pub density_inside : (word : ℕ) → word < 2 ^ 64 → Inside lightest densest (density_of word)
unfolding density_of
density_inside word h = inside _ _ _ _ density_bounded word h

-- ---- of every seed and every n
drawn_below : (seed k : ℕ) → draw_of seed k < 2 ^ 64
unfolding draw_of drawn_of
drawn_below seed k = mod-lt _ (pow_pos 64)

pub temperature_at : (seed n : ℕ) → Inside 200_K 450_K (state_of seed n).temperature
unfolding state_of
temperature_at seed n = temperature_inside (draw_of seed (2 * n + 1)) (drawn_below seed (2 * n + 1))

pub density_at : (seed n : ℕ) → Inside lightest densest (state_of seed n).density
unfolding state_of
density_at seed n = density_inside (draw_of seed (2 * n + 2)) (drawn_below seed (2 * n + 2))
