-- Xor with the same number twice changes nothing, so what a word is xored with can be taken off again. Assumes nothing.
use Rattle.std.proofs.Common.{◌≡◌, ℕ, zero, suc, ◌+◌, ◌*◌, ◌/◌, ◌%◌, ◌<◌, sym, refl, ap, ◌∙◌, ap₂, mod-lt, div-add-mod', arith}
use lib.Arith.{bin_ind}
use lib.Bits.{bit_xor, differ, xor_step, xor_shr, xor_mod, xor_comm}

two : 0 < 2
two = omega arith

-- on single digits
differ_twice : (x y : ℕ) → x < 2 → y < 2 → differ x (differ x y) ≡ y
differ_twice zero y h k = refl
differ_twice (suc zero) zero h k = refl
differ_twice (suc zero) (suc zero) h k = refl
differ_twice (suc zero) (suc (suc y)) h k = absurd (omega arith)
differ_twice (suc (suc x)) y h k = absurd (omega arith)

digit : (x y : ℕ) → x < 2 → y < 2 → bit_xor x y ≡ differ x y
digit zero y h k = refl
digit (suc zero) zero h k = refl
digit (suc zero) (suc zero) h k = refl
digit (suc zero) (suc (suc y)) h k = absurd (omega arith)
digit (suc (suc x)) y h k = absurd (omega arith)

lowest : (a b : ℕ) → bit_xor a b % 2 ≡ differ (a % 2) (b % 2)
lowest a b = xor_mod a b 1 ∙ digit (a % 2) (b % 2) (mod-lt a two) (mod-lt b two)

pub xor_twice : (a b : ℕ) → bit_xor a (bit_xor a b) ≡ b
xor_twice =
    bin_ind (λ (a : ℕ). (b : ℕ) → bit_xor a (bit_xor a b) ≡ b) (λ b. refl)
    (λ a ih b.
    xor_step a (bit_xor a b) ∙ ap₂ (λ (x y : ℕ). bit_xor (a / 2) x * 2 + differ (a % 2) y) (xor_shr a b 1) (lowest a b)
    ∙ ap₂ (λ (x y : ℕ). x * 2 + y) (ih (b / 2)) (differ_twice (a % 2) (b % 2) (mod-lt a two) (mod-lt b two)) ∙ div-add-mod' b 2)

-- equal after an xor with the same number, equal before it
pub xor_cancel : (a b c d : ℕ) → c ≡ d → bit_xor a c ≡ bit_xor b d → a ≡ b
xor_cancel a b c d e h =
    sym (xor_twice c a) ∙ ap (bit_xor c) (xor_comm c a ∙ h ∙ xor_comm b d ∙ ap (λ (x : ℕ). bit_xor x b) (sym e)) ∙ xor_twice c b
