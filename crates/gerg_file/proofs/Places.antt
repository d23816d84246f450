-- In a well-formed file the records stand where the tables are read from, and the file is no longer than the longest one.
use mathlib.Core.Path.{◌≡◌, refl, sym, ap, ◌∙◌}
use mathlib.Core.Bool.{Bool, ◌&&◌}
use mathlib.Core.List.{List}
use mathlib.Core.Logic.{◌⊎◌, inl, inr}
use Prim.Native.Nat.{ℕ, zero, suc, ◌+◌, ◌-◌, ◌*◌, ◌≤◌, ◌<◌}
use native.Mathlib.Nat.{mul-suc, mul-zero, mul-add, eq-or-lt_of_le}
use native.Mathlib.Omega.{arith}
use borrow.Author.Tests.{eqb-true}
use lib.Dec.{leb, eqb}
use lib.ListN.{length}
use Rattle.numerics.specs.Tests.{and_true}
use Rattle.gerg_file.specs.File.{Walk}
use Rattle.std.specs.Prelude.{Ok}
use Rattle.gerg_file.specs.Bytes.{byte, term_count}
use Rattle.gerg_file.specs.File.{place, chain, counted, numbered, group}
use Rattle.gerg_file.specs.Counts.{sum}
use Rattle.gerg_file.proofs.Begins.{Stands}
use Rattle.gerg_file.proofs.WellFormed.{follow_to, pick_to, chain_step, counted_size}

-- sums
pub sum_same : (f g : ℕ → ℕ) → ((h : ℕ) → f h ≡ g h) → (n : ℕ) → sum f n ≡ sum g n
unfolding sum
sum_same f g e zero = refl
sum_same f g e (suc n) = let a = sum_same f g e n in let b = e n in omega arith

pub sum_scale : (c : ℕ) (f g : ℕ → ℕ) → ((h : ℕ) → f h ≡ c * g h) → (n : ℕ) → sum f n ≡ c * sum g n
unfolding sum
sum_scale c f g e zero = sym (mul-zero c)
sum_scale c f g e (suc n) = let a = sum_scale c f g e n in let b = e n in omega (arith, mul-add c (sum g n) (g n))

pub sum_shift : (f : ℕ → ℕ) (n : ℕ) → sum f (suc n) ≡ f 0 + sum (λ h. f (suc h)) n
unfolding sum
sum_shift f zero = omega arith
sum_shift f (suc n) = let a = sum_shift f n in omega arith

-- steps of several sizes
module _ (step : ℕ → ℕ → Walk) (size : ℕ → ℕ) (sized : (i at p : ℕ) → step i at ≡ Ok p → p ≡ at + size i) where
  shifted : (i n : ℕ) → sum (λ h. size (i + h)) (suc n) ≡ size i + sum (λ h. size (i + 1 + h)) n
  shifted i n =
      sum_shift (λ h. size (i + h)) n
      ∙ ap (λ (m : ℕ). m + sum (λ h. size (i + suc h)) n) (ap size (let e : i + 0 ≡ i = omega arith in e))
      ∙ ap (λ (m : ℕ). size i + m) (sum_same (λ h. size (i + suc h)) (λ h. size (i + 1 + h)) (λ h. ap size (omega arith)) n)

  pub chain_end : (n i at p : ℕ) → chain step n i at ≡ Ok p → p ≡ at + sum (λ h. size (i + h)) n
  unfolding chain sum
  chain_end zero i at p e = let q : at ≡ p = cc in omega arith
  chain_end (suc n) i at p e =
      let q = follow_to (step i at) (chain step n (i + 1)) p e in
      let g = sized i at (place (step i at)) q.0 in
      let r = chain_end n (i + 1) (place (step i at)) p q.1 in
      let t = shifted i n in
      omega arith

  pub chain_at : (n i at p : ℕ) → chain step n i at ≡ Ok p → (k : ℕ) → k < n
      → step (i + k) (at + sum (λ h. size (i + h)) k) ≡ Ok (place (step (i + k) (at + sum (λ h. size (i + h)) k)))
  unfolding chain sum
  chain_at zero i at p e k h = absurd (omega arith)
  chain_at (suc n) i at p e zero h =
      let q = follow_to (step i at) (chain step n (i + 1)) p e in
      let b : i + 0 ≡ i = omega arith in
      let a : at + 0 ≡ at = omega arith in
      rw (a, b) q.0
  chain_at (suc n) i at p e (suc k) h =
      let q = follow_to (step i at) (chain step n (i + 1)) p e in
      let g = sized i at (place (step i at)) q.0 in
      let t = shifted i k in
      let b : i + suc k ≡ i + 1 + k = omega arith in
      let a : at + sum (λ h. size (i + h)) (suc k) ≡ place (step i at) + sum (λ h. size (i + 1 + h)) k = omega arith in
      rw (a, b) (chain_at n (i + 1) (place (step i at)) p q.1 k (omega arith))

-- a record with two leading numbers that was passed
abbrev numbered_test : List ℕ → ℕ → ℕ → ℕ → ℕ → ℕ → Bool
numbered_test s kind size lead number at =
    leb (at + size) (length s) && eqb (byte s at) kind && eqb (byte s (at + 1)) lead && eqb (byte s (at + 2)) number

pub numbered_size : (s : List ℕ) (kind size lead number at p : ℕ) → numbered s kind size lead number at ≡ Ok p → p ≡ at + size
numbered_size s kind size lead number at p e = (pick_to (numbered_test s kind size lead number at) (at + size) at p e).1

pub numbered_stands : (s : List ℕ) (kind size lead number at p : ℕ) → numbered s kind size lead number at ≡ Ok p → Stands s kind lead number at
numbered_stands s kind size lead number at p e =
    let a = leb (at + size) (length s) in
    let b = eqb (byte s at) kind in
    let c = eqb (byte s (at + 1)) lead in
    let d = eqb (byte s (at + 2)) number in
    let t = (pick_to (a && b && c && d) (at + size) at p e).0 in
    record {
      kind_is = eqb-true _ _ (and_true a b (and_true (a && b) c (and_true (a && b && c) d t).0).0).1;
      lead_is = eqb-true _ _ (and_true (a && b) c (and_true (a && b && c) d t).0).1;
      number_is = eqb-true _ _ (and_true (a && b && c) d t).1;
    }

-- .. that agree, and that are 0 from number n on
pub sum_below : (f g : ℕ → ℕ) (n : ℕ) → ((h : ℕ) → h < n → f h ≡ g h) → sum f n ≡ sum g n
unfolding sum
sum_below f g zero e = refl
sum_below f g (suc n) e = let a = sum_below f g n (λ h l. e h (omega arith)) in let b = e n (omega arith) in omega arith

pub sum_tail : (f : ℕ → ℕ) (n k : ℕ) → ((h : ℕ) → n ≤ h → f h ≡ 0) → sum f (n + k) ≡ sum f n
unfolding sum
sum_tail f n zero e = ap (sum f) (let q : n + 0 ≡ n = omega arith in q)
sum_tail f n (suc k) e =
    let a = sum_tail f n k e in
    let b = e (n + k) (omega arith) in
    ap (sum f) (let q : n + suc k ≡ suc (n + k) = omega arith in q) ∙ (let r : sum f (n + k) + f (n + k) ≡ sum f n = omega arith in r)

pub sum_limit : (f : ℕ → ℕ) (c n : ℕ) → ((h : ℕ) → h < n → f h ≤ c) → sum f n ≤ c * n
unfolding sum
sum_limit f c zero e = omega arith
sum_limit f c (suc n) e =
    let a = sum_limit f c n (λ h l. e h (omega arith)) in let b = e n (omega arith) in omega (arith, mul-suc c n)

sum_grown : (f : ℕ → ℕ) (n m : ℕ) → (n ≤ m → sum f n ≤ sum f m) → (n ≡ suc m) ⊎ (n < suc m) → sum f n ≤ sum f (suc m)
unfolding sum
sum_grown f n m before (inl q) = rw q (omega arith)
sum_grown f n m before (inr l) = let a = before (omega arith) in omega arith

pub sum_grows : (f : ℕ → ℕ) (n m : ℕ) → n ≤ m → sum f n ≤ sum f m
sum_grows f n zero h = let q : n ≡ 0 = omega arith in rw q (omega arith)
sum_grows f n (suc m) h = sum_grown f n m (λ l. sum_grows f n m l) (eq-or-lt_of_le h)

sum_one : (c n : ℕ) → sum (λ h. c) n ≡ c * n
unfolding sum
sum_one c zero = sym (mul-zero c)
sum_one c (suc n) = let a = sum_one c n in omega (arith, mul-suc c n)

pub run_end : (s : List ℕ) (kind size lead n first at p : ℕ) → chain (numbered s kind size lead) n first at ≡ Ok p → p ≡ at + size * n
run_end s kind size lead n first at p e =
    chain_end (numbered s kind size lead) (λ h. size) (λ i at p g. numbered_size s kind size lead i at p g) n first at p e
    ∙ ap (λ (m : ℕ). at + m) (sum_one size n)

pub counted_end : (s : List ℕ) (kind size counts limit n first at p : ℕ) → chain (counted s kind size counts limit) n first at ≡ Ok p → p ≡ at + size * n
counted_end s kind size counts limit n first at p e =
    chain_end (counted s kind size counts limit) (λ h. size) (counted_size s kind size counts limit) n first at p e
    ∙ ap (λ (m : ℕ). at + m) (sum_one size n)

-- the terms of several components or departure functions
module _ (s : List ℕ) (kind size base counts stride : ℕ) where
  abbrev of_number : ℕ → ℕ
  of_number h = term_count s (base + (counts + stride * h))

  group_size : (i at p : ℕ) → group s kind size base counts stride i at ≡ Ok p → p ≡ at + size * of_number (i - 1)
  group_size i at p e = run_end s kind size i (of_number (i - 1)) 1 at p e

  before : (n : ℕ) → sum (λ h. size * of_number (1 + h - 1)) n ≡ size * sum of_number n
  before n =
      sum_scale size (λ h. size * of_number (1 + h - 1)) of_number
      (λ h. ap (λ (j : ℕ). size * of_number j) (let q : 1 + h - 1 ≡ h = omega arith in q)) n

  pub groups_end : (n at p : ℕ) → chain (group s kind size base counts stride) n 1 at ≡ Ok p → p ≡ at + size * sum of_number n
  groups_end n at p e =
      chain_end (group s kind size base counts stride) (λ i. size * of_number (i - 1)) group_size n 1 at p e
      ∙ ap (λ (m : ℕ). at + m) (before n)

  pub groups_stand : (n at p : ℕ) → chain (group s kind size base counts stride) n 1 at ≡ Ok p → (i k : ℕ) → i < n → k < of_number i
      → Stands s kind (1 + i) (1 + k) (at + size * sum of_number i + size * k)
  groups_stand n at p e i k h g =
      let row = chain_at (group s kind size base counts stride) (λ i. size * of_number (i - 1)) group_size n 1 at p e i h in
      let q : 1 + i - 1 ≡ i = omega arith in
      let here : at + sum (λ h. size * of_number (1 + h - 1)) i ≡ at + size * sum of_number i = ap (λ (m : ℕ). at + m) (before i) in
      let w : (m : ℕ) → m ≡ at + size * sum of_number i → (j : ℕ) → j ≡ i → (p : ℕ)
      → chain (numbered s kind size (1 + i)) (of_number j) 1 m ≡ Ok p → chain (numbered s kind size (1 + i)) (of_number i) 1 (at + size * sum of_number i) ≡ Ok p
      = λ m x j y p c. rw (x, y) at c in
      numbered_stands s kind size (1 + i) (1 + k) (at + size * sum of_number i + size * k) _
      (chain_step (numbered s kind size (1 + i)) size (λ i at p g. numbered_size s kind size _ i at p g) (of_number i) 1 (at + size * sum of_number i) _
      (w (at + sum (λ h. size * of_number (1 + h - 1)) i) here (1 + i - 1) q _ row) k g)
