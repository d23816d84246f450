-- Numbers stored into an array one after the other.
use mathlib.Core.Path.{◌≡◌, refl, sym, ap, ◌∙◌}
use mathlib.Core.List.{List, [], ◌∷◌, ◌++◌, append-nil, append_assoc}
use Prim.Native.Nat.{ℕ, zero, suc, ◌+◌, ◌-◌, ◌*◌, ◌≤◌}
use native.Mathlib.Numerals.{add-one}
use native.Mathlib.Nat.{mul-suc, mul-zero}
use native.Mathlib.Omega.{arith}
use lib.ListN.{length, set, length-append}
use lib.Seq.{sets}
use lib.Ieee.{Float}
use Rattle.numerics.specs.Fill.{tabulate, length_tabulate, sets_append}
use Rattle.gerg_file.specs.Bytes.{byte, double_at}
use Rattle.gerg_coefficients.specs.Load.{flat, doubles_at, bytes_at, run_of, critical_of, critical}

-- a list stored piece by piece
sets_on : {A : Type 0} (b c l : List A) (to n : ℕ) {o o' : List A} → length b ≡ n → o ≡ sets l to b → o' ≡ sets o (to + n) c → o' ≡ sets l to (b ++ c)
sets_on b c l to n {o} e i t =
    t ∙ ap (λ (k : ℕ). sets o (to + k) c) (sym e) ∙ ap (λ (o : List _). sets o (to + length b) c) i ∙ sets_append b c l to

module _ {A : Type 0} (f : ℕ → List A) (w : ℕ) (all : (k : ℕ) → length (f k) ≡ w) where
  pub length_flat : (n : ℕ) → length (flat f n) ≡ w * n
  unfolding flat
  length_flat zero = sym (mul-zero w)
  length_flat (suc n) = length-append (flat f n) (f n) ∙ (let e = length_flat n in let d = all n in let g = mul-suc w n in omega arith)

  pub flat_on : (n : ℕ) (l : List A) (to : ℕ) {o o' : List A} → o ≡ sets l to (flat f n) → o' ≡ sets o (to + w * n) (f n) → o' ≡ sets l to (flat f (n + 1))
  unfolding flat
  flat_on n l to i t = rw (add-one n) (sets_on (flat f n) (f n) l to (w * n) (length_flat n) i t)

flat_none : {A : Type 0} (f : ℕ → List A) (l : List A) (to : ℕ) → l ≡ sets l to (flat f 0)
unfolding flat
flat_none f l to = refl

tabulate_on : {A : Type 0} (f : ℕ → A) (n : ℕ) (l : List A) (to : ℕ) {o : List A} {v : A} → o ≡ sets l to (tabulate f n) → v ≡ f n
    → set o (to + n) v ≡ sets l to (tabulate f (n + 1))
unfolding tabulate
tabulate_on f n l to {o} i e =
    rw (add-one n) (sets_on (tabulate f n) (f n ∷ []) l to n (length_tabulate f n) i (ap (λ (v : _). set o (to + n) v) e))

-- numbers in a row, one by one
module _ (s : List ℕ) (at to : ℕ) where
  pub no_doubles : (l : List Float) → l ≡ sets l to (doubles_at s at 0)
  unfolding doubles_at tabulate
  no_doubles l = refl

  pub double_on : (k : ℕ) (l : List Float) {o : List Float} {v : Float} → o ≡ sets l to (doubles_at s at k) → v ≡ double_at s (at + 8 * k)
      → set o (to + k) v ≡ sets l to (doubles_at s at (k + 1))
  unfolding doubles_at
  double_on k l i e = tabulate_on (λ k. double_at s (at + 8 * k)) k l to i e

  pub no_bytes : (l : List ℕ) → l ≡ sets l to (bytes_at s at 0)
  unfolding bytes_at tabulate
  no_bytes l = refl

  pub byte_on : (k : ℕ) (l : List ℕ) {o : List ℕ} {v : ℕ} → o ≡ sets l to (bytes_at s at k) → v ≡ byte s (at + k)
      → set o (to + k) v ≡ sets l to (bytes_at s at (k + 1))
  unfolding bytes_at
  byte_on k l i e = tabulate_on (λ k. byte s (at + k)) k l to i e

pub length_doubles_at : (s : List ℕ) (at n : ℕ) → length (doubles_at s at n) ≡ n
unfolding doubles_at
length_doubles_at s at n = length_tabulate _ n

pub length_bytes_at : (s : List ℕ) (at n : ℕ) → length (bytes_at s at n) ≡ n
unfolding bytes_at
length_bytes_at s at n = length_tabulate _ n

-- the numbers past the first k, stored after those
tabulate_add : {A : Type 0} (f g : ℕ → A) (k m : ℕ) → ((j : ℕ) → f (k + j) ≡ g j) → tabulate f (k + m) ≡ tabulate f k ++ tabulate g m
unfolding tabulate
tabulate_add f g k zero e = ap (tabulate f) (let q : k + 0 ≡ k = omega arith in q) ∙ sym (append-nil (tabulate f k))
tabulate_add f g k (suc m) e =
    ap (tabulate f) (let q : k + suc m ≡ suc (k + m) = omega arith in q)
    ∙ ap (λ (a : List _). a ++ (f (k + m) ∷ [])) (tabulate_add f g k m e)
    ∙ ap (λ (v : _). (tabulate f k ++ tabulate g m) ++ (v ∷ [])) (e m)
    ∙ append_assoc (tabulate f k) (tabulate g m) (g m ∷ [])

pub doubles_rest : (s : List ℕ) (at to k n : ℕ) (l : List Float) {o o' : List Float} → k ≤ n → o ≡ sets l to (doubles_at s at k)
    → o' ≡ sets o (to + k) (doubles_at s (at + 8 * k) (n - k)) → o' ≡ sets l to (doubles_at s at n)
unfolding doubles_at
doubles_rest s at to k n l h i t =
    sets_on (doubles_at s at k) (doubles_at s (at + 8 * k) (n - k)) l to k (length_doubles_at s at k) i t
    ∙ ap (sets l to)
    (sym (tabulate_add (λ j. double_at s (at + 8 * j)) (λ j. double_at s (at + 8 * k + 8 * j)) k (n - k)
    (λ j. ap (double_at s) (let q : at + 8 * (k + j) ≡ at + 8 * k + 8 * j = omega arith in q))))
    ∙ ap (λ (m : ℕ). sets l to (doubles_at s at m)) (let q : k + (n - k) ≡ n = omega arith in q)

-- record by record
module _ {A : Type 0} (numbers : ℕ → ℕ → List A) (sized : (at n : ℕ) → length (numbers at n) ≡ n) (at size per to : ℕ) where
  pub no_records : (l : List A) → l ≡ sets l to (run_of numbers at size 0 per)
  unfolding run_of
  no_records l = flat_none _ l to

  pub record_on : (k : ℕ) (l : List A) {o o' : List A} → o ≡ sets l to (run_of numbers at size k per)
      → o' ≡ sets o (to + per * k) (numbers (at + size * k) per) → o' ≡ sets l to (run_of numbers at size (k + 1) per)
  unfolding run_of
  record_on k l i t = flat_on (λ k. numbers (at + size * k) per) per (λ k. sized (at + size * k) per) k l to i t

  pub length_run : (count : ℕ) → length (run_of numbers at size count per) ≡ per * count
  unfolding run_of
  length_run count = length_flat (λ k. numbers (at + size * k) per) per (λ k. sized (at + size * k) per) count

-- Tc and MMiGERG of component i
pub no_critical : (s : List ℕ) (l : List Float) → l ≡ sets l 0 (flat (critical_of s) 0)
no_critical s l = flat_none (critical_of s) l 0

pub critical_on : (s : List ℕ) (i : ℕ) (l : List Float) {o : List Float} {v w : Float} → o ≡ sets l 0 (flat (critical_of s) i) → v ∷ w ∷ [] ≡ critical_of s i
    → set (set o (2 * i) v) (2 * i + 1) w ≡ sets l 0 (flat (critical_of s) (i + 1))
critical_on s i l {o} {v} {w} h e =
    flat_on (critical_of s) 2 (λ k. refl) i l 0 h
    (ap (λ (p : ℕ). set (set o (2 * i) v) p w) (let q : 2 * i + 1 ≡ suc (2 * i) = omega arith in q)
    ∙ ap (λ (p : ℕ). sets o p (v ∷ w ∷ [])) (let q : 2 * i ≡ 0 + 2 * i = omega arith in q)
    ∙ ap (λ (b : List Float). sets o (0 + 2 * i) b) e)

pub critical_is : (s : List ℕ) → flat (critical_of s) 21 ≡ critical s
unfolding critical
critical_is s = refl

pub length_critical : (s : List ℕ) → length (critical s) ≡ 42
unfolding critical
length_critical s = length_flat (critical_of s) 2 (λ k. refl) 21
