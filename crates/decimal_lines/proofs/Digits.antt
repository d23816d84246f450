-- Decimal digits, and a line of two numbers, are what std writes of them, and are stored byte by byte.
use Rattle.std.proofs.Common.{◌≡◌, refl, sym, ap, ◌∙◌, arith, ℕ, zero, suc, ◌+◌, ◌-◌, ◌/◌, ◌%◌, ◌^◌, ◌<◌, ◌≤◌, List, [], ◌∷◌, ◌++◌, length, set, length-append}
use mathlib.Core.List.{append_assoc}
use borrow.Author.Tests.{lt-ltb, le-ltb}
use Rattle.std.specs.Fmt as std
use Rattle.std.proofs.lemmas.Fmt.{AppendsLastDigit, decimal_from_appends, length-decimal-le}
use Rattle.std.proofs.lemmas.List.Edits.{sets}
use Rattle.numerics.specs.Fill.{sets_append}
use Rattle.decimal_lines.specs.Line.{decimal, line_from}
pub use Rattle.decimal_lines.proofs.Lengths.{length_decimal}

appends : AppendsLastDigit decimal
unfolding decimal
appends = record {
  one = λ k n h. rw (lt-ltb n 10 h);
  more = λ k n h. rw (le-ltb n 10 h);
}

pub decimal_is : (n : ℕ) → n < 2 ^ 64 → std.decimal n ≡ decimal 20 n
decimal_is n h = sym (decimal_from_appends decimal appends 20 n h (length-decimal-le 20 n (omega arith) (omega arith) h))

pub line_is : (number value : ℕ) → number < 2 ^ 64 → value < 2 ^ 64
    → std.decimal number ++ (32 ∷ (std.decimal value ++ (10 ∷ []))) ≡ line_from number value
unfolding line_from
line_is number value h i =
    rw (decimal_is number h, decimal_is value i) (sym (append_assoc (decimal 20 number) (32 ∷ []) (decimal 20 value ++ (10 ∷ []))))

-- ---- stored from `at` on
pub positive : (n : ℕ) → (n ≡ 0 → ⊥) → 0 < n
positive zero h = absurd (h refl)
positive (suc n) h = omega arith

-- no digit, the last one, and one after those of a tenth
no_digits : (k n : ℕ) → k ≡ 0 → decimal k n ≡ []
unfolding decimal
no_digits k n e = rw e

last_digit : (k n : ℕ) → 0 < k → n < 10 → decimal k n ≡ (48 + n) ∷ []
unfolding decimal
last_digit zero n l h = absurd (omega arith)
last_digit (suc k) n l h = rw (lt-ltb n 10 h)

next_digit : (k n : ℕ) → 0 < k → 10 ≤ n → decimal k n ≡ decimal (k - 1) (n / 10) ++ ((48 + n % 10) ∷ [])
unfolding decimal
next_digit zero n l h = absurd (omega arith)
next_digit (suc k) n l h =
    let e : suc k - 1 ≡ k = omega arith in
    rw (le-ltb n 10 h, e)

-- a byte stored past a list
stored_after : (a l o : List ℕ) (at next v : ℕ) → o ≡ sets l at a → next ≡ at + length a → set o next v ≡ sets l at (a ++ (v ∷ []))
stored_after a l o at next v e n =
    ap (λ (x : List ℕ). set x next v) e ∙ ap (λ (p : ℕ). set (sets l at a) p v) n ∙ sets_append a (v ∷ []) l at

one_more : (a : List ℕ) (v : ℕ) → length (a ++ (v ∷ [])) ≡ length a + 1
one_more a v = length-append a (v ∷ [])

-- the digits stored from `at` on, and the place past them
module _ (k n at : ℕ) (l : List ℕ) where
  abbrev Stored : List ℕ → ℕ → Type 0
  Stored o next = (o ≡ sets l at (decimal k n)) × ((next ≡ at + length (decimal k n)) × (next ≤ at + k))

  pub stored_none : k ≡ 0 → Stored l at
  stored_none e = let d = no_digits k n e in (rw d, (rw d (omega arith), omega arith))

  pub stored_last : 0 < k → n < 10 → Stored (set l at (48 + n)) (at + 1)
  stored_last p h = let d = last_digit k n p h in (rw d, (rw d, omega arith))

  pub stored_next : (o : List ℕ) (next : ℕ) → 0 < k → 10 ≤ n → o ≡ sets l at (decimal (k - 1) (n / 10)) → next ≡ at + length (decimal (k - 1) (n / 10))
      → Stored (set o next (48 + n % 10)) (next + 1)
  stored_next o next p h e m =
      let d = next_digit k n p h in
      let a = decimal (k - 1) (n / 10) in
      let w = length_decimal (k - 1) (n / 10) in
      (stored_after a l o at next (48 + n % 10) e m ∙ ap (sets l at) (sym d), (rw d (omega (arith, one_more a (48 + n % 10))), omega arith))

-- number, space, value and the line's end
pub line_stored : (number value at space end : ℕ) (l o o' : List ℕ) → o ≡ sets l at (decimal 20 number) → space ≡ at + length (decimal 20 number)
    → o' ≡ sets (set o space 32) (space + 1) (decimal 20 value) → end ≡ space + 1 + length (decimal 20 value)
    → (set o' end 10 ≡ sets l at (line_from number value)) × ((end + 1 ≡ at + length (line_from number value)) × (end + 1 ≤ at + 42))
unfolding line_from
line_stored number value at space end l o o' e m e' m' =
    let a = decimal 20 number in
    let b = decimal 20 value in
    let p = stored_after a l o at space 32 e m in
    let q = stored_after b (set o space 32) o' (space + 1) end 10 e' m' in
    let x = one_more a 32 in
    let y = one_more b 10 in
    let w : space + 1 ≡ at + length (a ++ (32 ∷ [])) = omega arith in
    let z = length-append (a ++ (32 ∷ [])) (b ++ (10 ∷ [])) in
    let i = length_decimal 20 number in
    let j = length_decimal 20 value in (
      q ∙ ap (λ (r : List ℕ). sets r (space + 1) (b ++ (10 ∷ []))) p ∙ ap (λ (k : ℕ). sets (sets l at (a ++ (32 ∷ []))) k (b ++ (10 ∷ []))) w
          ∙ sets_append (a ++ (32 ∷ [])) (b ++ (10 ∷ [])) l at,
      (omega arith, omega arith),
    )
