-- The generator of request 01: "a generator on 64 bits with a nonzero seed s, a counter c starting at 0", and the states that its draws give.
use Rattle.std.specs.Prelude.{ℕ, zero, suc, ◌+◌, ◌*◌, ◌/◌, ◌%◌, ◌^◌, List, [], ◌∷◌, pos, bit_xor, Float}
use Rattle.std.specs.Float.{binary64}
use Rattle.std.specs.Float.Ieee.{of_int}
use Rattle.numerics.specs.Double.{◌⊕◌, ◌⊗◌, ◌⊘◌, bits}
use Rattle.generator.specs.declared.Generator.{Generator}
use Rattle.generator.specs.declared.State.{State}
use Rattle.generator.specs.declared.DrawnState.{DrawnState}

-- "s xor (s << k)": what passes bit 63 is lost
abbrev pub xor_left : ℕ → ℕ → ℕ
xor_left k s = bit_xor s (s * 2 ^ k % 2 ^ 64)

-- "s xor (s >> k)"
abbrev pub xor_right : ℕ → ℕ → ℕ
xor_right k s = bit_xor s (s / 2 ^ k)

-- "s xor (s << 13), then s xor (s >> 7), then s xor (s << 17)"
unfoldable pub xorshift : ℕ → ℕ
xorshift s = xor_left 17 (xor_right 7 (xor_left 13 s))

-- "Each draw changes s ..; c grows by 0x9E3779B97F4A7C15, and both sums wrap around at 2^64: c itself
unfoldable pub next_of : Generator → Generator
next_of g = record { word = xorshift g.word; counter = (g.counter + 0x9E37_79B9_7F4A_7C15) % 2 ^ 64 }

-- and the drawn word s + c"
unfoldable pub drawn_of : Generator → ℕ
drawn_of g = (g.word + g.counter) % 2 ^ 64

-- a generator after k draws
unfoldable pub after_of : Generator → ℕ → Generator
after_of g zero = g
after_of g (suc k) = next_of (after_of g k)

-- a seed's generator before its first draw
abbrev pub start_of : ℕ → Generator
start_of seed = record { word = seed; counter = 0 }

-- the word of draw number k of a seed, the first draw being 1
unfoldable pub draw_of : ℕ → ℕ → ℕ
draw_of seed k = drawn_of (after_of (start_of seed) k)

-- "A draw's top 53 bits over 2^53 give a number u in [0, 1)"
unfoldable pub unit_of : ℕ → Float
unit_of word = of_int binary64 (pos (word / 2 ^ 11)) ⊘ bits 0x4340_0000_0000_0000

-- "T = 200 + 250 × u": the product is rounded, then the sum
unfoldable pub temperature_of : ℕ → Float
temperature_of word = bits 0x4069_0000_0000_0000 ⊕ bits 0x406f_4000_0000_0000 ⊗ unit_of word

-- "density = 0.001 + 29999 × u"
unfoldable pub density_of : ℕ → Float
density_of word = bits 0x3f50_624d_d2f1_a9fc ⊕ bits 0x40dd_4bc0_0000_0000 ⊗ unit_of word

-- "A state takes two draws": state n, "the first being 0", takes draws 2n + 1 and 2n + 2
unfoldable pub state_of : ℕ → ℕ → State
state_of seed n = record { temperature = temperature_of (draw_of seed (2 * n + 1)); density = density_of (draw_of seed (2 * n + 2)) }

-- the state of a generator's next two draws, and the generator after them
unfoldable pub drawn_state_of : Generator → DrawnState
drawn_state_of g = record {
  state = record { temperature = temperature_of (drawn_of (next_of g)); density = density_of (drawn_of (next_of (next_of g))) };
  generator = next_of (next_of g);
}

-- "in a run": states one after the other, each drawn where the one before left the generator
unfoldable pub states_from : Generator → ℕ → List State
states_from g zero = []
states_from g (suc count) = (drawn_state_of g).state ∷ states_from (drawn_state_of g).generator count
