-- An array that holds a list and then zeros: what is stored right after the list lengthens it.
use mathlib.Core.Path.{◌≡◌, sym, ap, ◌∙◌}
use mathlib.Core.List.{List, [], ◌++◌, append-nil, append_assoc}
use Prim.Native.Nat.{ℕ, ◌+◌, ◌-◌, ◌≤◌}
use native.Mathlib.Omega.{arith}
use lib.ListN.{length, drop, replicate, length-append, length-replicate, replicate-append-replicate}
use lib.Seq.{sets, sets-eq, take-append_seam, drop-append-add, drop_at}
use Rattle.gerg_coefficients.specs.Filling.{padded}

module _ {A : Type 0} (n : ℕ) (z : A) where
  pub padded_none : replicate n z ≡ padded n z []
  unfolding padded
  padded_none = ap (λ (m : ℕ). replicate m z) (let q : n ≡ n - 0 = omega arith in q)

  pub padded_all : (a : List A) → length a ≡ n → padded n z a ≡ a
  unfolding padded
  padded_all a e = ap (λ (m : ℕ). a ++ replicate m z) (let q : n - length a ≡ 0 = omega arith in q) ∙ append-nil a

  split : (a : List A) (k : ℕ) → length a + k ≤ n → replicate (n - length a) z ≡ replicate k z ++ replicate (n - (length a + k)) z
  split a k h =
      ap (λ (m : ℕ). replicate m z) (let q : n - length a ≡ k + (n - (length a + k)) = omega arith in q)
      ∙ sym (replicate-append-replicate k (n - (length a + k)) z)

  pub padded_zeros : (a : List A) (k : ℕ) → length a + k ≤ n → padded n z a ≡ padded n z (a ++ replicate k z)
  unfolding padded
  padded_zeros a k h =
      ap (λ (r : List A). a ++ r) (split a k h)
      ∙ sym (append_assoc a (replicate k z) (replicate (n - (length a + k)) z))
      ∙ ap (λ (m : ℕ). a ++ replicate k z ++ replicate (n - m) z)
      (sym (length-append a (replicate k z) ∙ ap (λ (m : ℕ). length a + m) (length-replicate k z)))

  pub padded_sets : (a b : List A) → length a + length b ≤ n → sets (padded n z a) (length a) b ≡ padded n z (a ++ b)
  unfolding padded
  padded_sets a b h =
      let rest = replicate (n - (length a + length b)) z in
      let r = replicate (length b) z ++ rest in
      let room : length a + length b ≤ length (a ++ r) =
      omega (arith, length-append a r, length-append (replicate (length b) z) rest, length-replicate (length b) z) in
      ap (λ (q : List A). sets (a ++ q) (length a) b) (split a (length b) h)
      ∙ sets-eq b (a ++ r) (length a) room
      ∙ ap (λ (t : List A). t ++ b ++ drop (length a + length b) (a ++ r)) (take-append_seam a r)
      ∙ ap (λ (d : List A). a ++ b ++ d)
      (drop-append-add a r (length b) ∙ drop_at (replicate (length b) z) rest (length b) (length-replicate (length b) z))
      ∙ ap (λ (m : ℕ). a ++ b ++ replicate (n - m) z) (sym (length-append a b))

  -- the same with the length of the list by itself
  pub stored_on : (a b : List A) (to : ℕ) {o o' : List A} → length a ≡ to → to + length b ≤ n → o ≡ padded n z a → o' ≡ sets o to b → o' ≡ padded n z (a ++ b)
  stored_on a b to e h i t =
      t ∙ ap (λ (o : List A). sets o to b) i ∙ ap (λ (m : ℕ). sets (padded n z a) m b) (sym e) ∙ padded_sets a b (omega arith)
