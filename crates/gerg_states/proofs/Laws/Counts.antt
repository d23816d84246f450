-- The counts of a run: one state more, two parts of a run together, and all places together. Assumes nothing.
use mathlib.Core.Path.{◌≡◌, refl, sym, ap, ap₂, ◌∙◌, subst}
use mathlib.Core.Bool.{Bool, true, false}
use mathlib.Core.List.{List}
use Prim.Native.Nat.{ℕ, zero, suc, ◌+◌, ◌≤◌, ◌<◌}
use native.Mathlib.Numerals.{add-one}
use native.Mathlib.Omega.{arith}
use borrow.Author.Tests.{ne_eqb, eqb-true, eqb-false, ltb-true, ltb-false, lt-ltb, le-ltb}
use lib.Arith.{lt_of_le-ne}
use lib.Dec.{eqb, ltb}
use lib.ListN.{get_or, set, replicate, length-set, length-replicate, get_or-replicate}
use lib.Seq.{ext_get_or, get_or-set_same, get_or-set_other}
use Rattle.numerics.specs.Double.{pick}
use Rattle.numerics.specs.Fill.{tabulate, length_tabulate, get_d_tabulate, tabulate_same}
use Rattle.gerg_file.specs.Counts.{sum}
use Rattle.gerg_states.specs.declared.Run.{Run}
use Rattle.gerg_states.specs.States.{count_of, counts_by}

-- 1 for the number itself, 0 for any other
abbrev met : ℕ → ℕ → ℕ
met x number = pick (eqb x number) 1 0

module _ (f : ℕ → ℕ) where
  -- no number has more states than the run
  pub count_at_most : (first states number : ℕ) → count_of f first states number ≤ states
  unfolding count_of
  count_at_most first zero number = omega arith
  count_at_most first (suc states) number =
      let h = count_at_most first states number in
      go (eqb (f (first + states)) number) h
    where
      go : (b : Bool) → count_of f first states number ≤ states → count_of f first states number + pick b 1 0 ≤ suc states
      go true h = omega arith
      go false h = omega arith

  -- "a run's counts are the sums of its two parts' wherever it is split"
  pub count_split : (first a b number : ℕ) → count_of f first (a + b) number ≡ count_of f first a number + count_of f (first + a) b number
  unfolding count_of
  count_split first a zero number =
      ap (λ (n : ℕ). count_of f first n number) (let e : a + 0 ≡ a = omega arith in e) ∙ (let e : count_of f first a number ≡ count_of f first a number + 0 = omega arith in e)
  count_split first a (suc b) number =
      ap (λ (n : ℕ). count_of f first n number) (let e : a + suc b ≡ suc (a + b) = omega arith in e)
      ∙ ap₂ (λ (x y : ℕ). x + met (f y) number) (count_split first a b number) (let e : first + (a + b) ≡ first + a + b = omega arith in e)
      ∙ (let x = count_of f first a number in let y = count_of f (first + a) b number in let z = met (f (first + a + b)) number in let e : x + y + z ≡ x + (y + z) = omega arith in e)

  pub count_one : (first number : ℕ) → count_of f first 1 number ≡ pick (eqb (f first) number) 1 0
  unfolding count_of
  count_one first number =
      ap (λ (x : ℕ). 0 + met (f x) number) (let e : first + 0 ≡ first = omega arith in e) ∙ (let n = met (f first) number in let e : 0 + n ≡ n = omega arith in e)

  -- a number that no state has
  pub count_none : (first states number : ℕ) → ((n : ℕ) → f n ≡ number → ⊥) → count_of f first states number ≡ 0
  unfolding count_of
  count_none first zero number h = refl
  count_none first (suc states) number h = rw (ne_eqb (f (first + states)) number (h (first + states)), count_none first states number h)

  -- ---- all places together
  sum_zero : (n : ℕ) → sum (λ k. 0) n ≡ 0
  unfolding sum
  sum_zero zero = refl
  sum_zero (suc n) = rw (sum_zero n)

  sum_add : (g h : ℕ → ℕ) (n : ℕ) → sum (λ k. g k + h k) n ≡ sum g n + sum h n
  unfolding sum
  sum_add g h zero = refl
  sum_add g h (suc n) = let e = sum_add g h n in omega arith

  sum_met : (x n : ℕ) → sum (met x) n ≡ pick (ltb x n) 1 0
  unfolding sum
  sum_met x zero = rw (le-ltb x 0 (omega arith))
  sum_met x (suc n) = rw (sum_met x n) (go (ltb x n) (eqb x n) refl refl)
    where
      go : (b c : Bool) → ltb x n ≡ b → eqb x n ≡ c → pick b 1 0 + pick c 1 0 ≡ pick (ltb x (suc n)) 1 0
      go true true p q = absurd (let h = ltb-true x n p in let e = eqb-true x n q in omega arith)
      go true false p q = rw (lt-ltb x (suc n) (let h = ltb-true x n p in omega arith))
      go false true p q = rw (lt-ltb x (suc n) (let e = eqb-true x n q in omega arith))
      go false false p q = rw (le-ltb x (suc n) (lt_of_le-ne (ltb-false x n p) (λ e. eqb-false x n q (sym e))))

  -- "the counts and the accepted add up to N"
  pub count_total : (first states places : ℕ) → ((n : ℕ) → f n < places) → sum (count_of f first states) places ≡ states
  unfolding count_of
  count_total first zero places h = sum_zero places
  count_total first (suc states) places h =
      sum_add (count_of f first states) (met (f (first + states))) places
      ∙ ap₂ (λ (x y : ℕ). x + y) (count_total first states places h) (sum_met (f (first + states)) places ∙ ap (λ (b : Bool). pick b 1 0) (lt-ltb _ _ (h (first + states)))) ∙ add-one states

pub sum_same : (c d : ℕ → ℕ) (places : ℕ) → ((k : ℕ) → k < places → c k ≡ d k) → sum c places ≡ sum d places
unfolding sum
sum_same c d zero e = refl
sum_same c d (suc places) e = ap₂ (λ (x y : ℕ). x + y) (sum_same c d places (λ k h. e k (omega arith))) (e places (omega arith))

-- ---- one state more in the array
pub one_more : (c : ℕ → ℕ) (places x : ℕ) → x < places → set (tabulate c places) x (get_or (tabulate c places) x 0 + 1) ≡ tabulate (λ k. c k + met x k) places
one_more c places x h =
    let v = get_or (tabulate c places) x 0 + 1 in
    let n = length-set (tabulate c places) x v ∙ length_tabulate c places in
    ext_get_or 0 (set (tabulate c places) x v) (tabulate (λ k. c k + met x k) places) (n ∙ sym (length_tabulate (λ k. c k + met x k) places))
    (λ i l. at i (eqb x i) refl (subst (λ (m : ℕ). i < m) n l) ∙ sym (get_d_tabulate (λ k. c k + met x k) places i 0 (subst (λ (m : ℕ). i < m) n l)))
  where
    at : (i : ℕ) (b : Bool) → eqb x i ≡ b → i < places → get_or (set (tabulate c places) x (get_or (tabulate c places) x 0 + 1)) i 0 ≡ c i + pick b 1 0
    at i true q l =
        let v = get_or (tabulate c places) x 0 + 1 in
        let e = eqb-true x i q in
        ap (λ (j : ℕ). get_or (set (tabulate c places) x v) j 0) (sym e) ∙ get_or-set_same (tabulate c places) x v 0 (rw (length_tabulate c places) h)
        ∙ ap (λ (n : ℕ). n + 1) (get_d_tabulate c places x 0 h ∙ ap c e)
    at i false q l =
        get_or-set_other (tabulate c places) x i (get_or (tabulate c places) x 0 + 1) 0 (λ e. eqb-false x i q (sym e)) ∙ get_d_tabulate c places i 0 l ∙ (let n = c i in let e : n ≡ n + 0 = omega arith in e)

-- ---- the same numbers, the same counts
count_same : (f g : ℕ → ℕ) → ((n : ℕ) → f n ≡ g n) → (first states number : ℕ) → count_of f first states number ≡ count_of g first states number
unfolding count_of
count_same f g e first zero number = refl
count_same f g e first (suc states) number = ap₂ (λ (x y : ℕ). x + met y number) (count_same f g e first states number) (e (first + states))

pub counts_same : (f g : ℕ → ℕ) → ((n : ℕ) → f n ≡ g n) → (run : Run) → counts_by f run ≡ counts_by g run
unfolding counts_by
counts_same f g e run = tabulate_same (count_of f run.first run.states) (count_of g run.first run.states) 38 (λ k h. count_same f g e run.first run.states k)

-- ---- the array before the first state, and after one state more
pub counts_begin : (f : ℕ → ℕ) (first places : ℕ) → replicate places 0 ≡ tabulate (count_of f first 0) places
unfolding count_of
counts_begin f first places = ext_get_or 0 (replicate places 0) (tabulate (count_of f first 0) places) (length-replicate {A = ℕ} places 0 ∙ sym (length_tabulate (count_of f first 0) places))
    (λ i h. let l = rw (length-replicate {A = ℕ} places 0) at h in get_or-replicate {A = ℕ} places i 0 0 l ∙ sym (get_d_tabulate (count_of f first 0) places i 0 l))

pub counts_turn : (f : ℕ → ℕ) (first states places x : ℕ) (l : List ℕ) → l ≡ tabulate (count_of f first states) places → x ≡ f (first + states) → x < places
    → set l x (get_or l x 0 + 1) ≡ tabulate (count_of f first (states + 1)) places
unfolding count_of
counts_turn f first states places x l e q h =
    ap (λ (l : List ℕ). set l x (get_or l x 0 + 1)) e ∙ one_more (count_of f first states) places x h
    ∙ rw (add-one states, q)

-- what stands at a place has room for one more
pub counts_at_most : (f : ℕ → ℕ) (first states places x : ℕ) (l : List ℕ) → l ≡ tabulate (count_of f first states) places → x < places → get_or l x 0 ≤ states
counts_at_most f first states places x l e h =
    subst (λ (n : ℕ). n ≤ states) (sym (ap (λ (l : List ℕ). get_or l x 0) e ∙ get_d_tabulate (count_of f first states) places x 0 h)) (count_at_most f first states x)

-- and where the run ends
pub counts_done : (f : ℕ → ℕ) (first i states places : ℕ) (l : List ℕ) → l ≡ tabulate (count_of f first i) places → i ≡ states → l ≡ tabulate (count_of f first states) places
counts_done f first i states places l e q = e ∙ ap (λ (n : ℕ). tabulate (count_of f first n) places) q
