-- What row 1 finds of a file that it accepts.
use mathlib.Core.Path.{◌≡◌, refl, sym, ap, ◌∙◌}
use mathlib.Core.Bool.{Bool, true, false}
use mathlib.Core.List.{List}
use Prim.Native.Nat.{ℕ, suc, ◌+◌, ◌-◌, ◌*◌, ◌≤◌, ◌<◌}
use native.Mathlib.Omega.{arith}
use borrow.Author.Tests.{ltb-true, ltb-false, lt-ltb, le-ltb}
use lib.Dec.{ltb}
use Rattle.std.specs.Prelude.{Ok}
use Rattle.gerg_file.specs.declared.Layout.{Layout}
use Rattle.gerg_file.specs.Kinds as Kinds
use Rattle.gerg_file.specs.Bytes.{term_count}
use Rattle.gerg_file.specs.File.{pair_row, file_of}
use Rattle.gerg_file.specs.Laid.{Laid}
use Rattle.gerg_file.specs.Counts.{sum, terms_of, departures_of}
use Rattle.gerg_file.proofs.WellFormed.{components_walk, terms_walk, pairs_walk, functions_walk, departures_walk, terms_limit, count_limit, departures_limit, length_is}
use Rattle.gerg_file.proofs.Places.{sum_below, sum_tail, sum_grows, chain_end, run_end, counted_end, groups_end}

pub pair_size : (s : List ℕ) (i at p : ℕ) → pair_row s i at ≡ Ok p → p ≡ at + (Kinds.pair).size * (22 - i)
pair_size s i at p e = run_end s _ _ i (22 - i) i at p e

all_pairs : sum (λ h. (Kinds.pair).size * (22 - (1 + h))) 21 ≡ (Kinds.pair).size * 231
unfolding sum
all_pairs = refl

module _ (s : List ℕ) (l : Layout) (e : file_of s ≡ Ok l) where
  within : (a b c : ℕ) → a ≡ b → term_count s b ≤ c → term_count s a ≤ c
  within a b c q h = rw q h

  terms_limited : (i : ℕ) → i < 21 → terms_of s i ≤ 24
  unfolding terms_of
  terms_limited i h =
      within ((Kinds.revision).size + ((Kinds.component).counts + (Kinds.component).size * i)) ((Kinds.revision).size + (Kinds.component).size * i + (Kinds.component).counts) 24
      (omega arith) (terms_limit s l e i h)

  -- kpolij + kexpij of a function that the file has, and that it has not
  pub counts_are : (m : ℕ) → m < l.count
      → departures_of s l.functions l.count m ≡ term_count s (l.functions + ((Kinds.function).counts + (Kinds.function).size * m))
  unfolding departures_of
  counts_are m h = rw (lt-ltb m l.count h)

  no_counts : (m : ℕ) → l.count ≤ m → departures_of s l.functions l.count m ≡ 0
  unfolding departures_of
  no_counts m h = rw (le-ltb m l.count h)

  departures_as : (m : ℕ) (b : Bool) → ltb m l.count ≡ b → departures_of s l.functions l.count m ≤ 12
  departures_as m true t =
      let h = ltb-true m l.count t in
      rw (counts_are m h)
      (within (l.functions + ((Kinds.function).counts + (Kinds.function).size * m)) (l.functions + (Kinds.function).size * m + (Kinds.function).counts) 12 (omega arith)
      (departures_limit s l e m h))
  departures_as m false t = rw (no_counts m (ltb-false m l.count t)) (omega arith)

  all_departures : sum (departures_of s l.functions l.count) 10
      ≡ sum (λ h. term_count s (l.functions + ((Kinds.function).counts + (Kinds.function).size * h))) l.count
  all_departures =
      let n = count_limit s l e in
      ap (sum (departures_of s l.functions l.count)) (let q : 10 ≡ l.count + (10 - l.count) = omega arith in q)
      ∙ sum_tail (departures_of s l.functions l.count) l.count (10 - l.count) (λ h x. no_counts h x)
      ∙ sum_below (departures_of s l.functions l.count) (λ h. term_count s (l.functions + ((Kinds.function).counts + (Kinds.function).size * h))) l.count
      (λ h x. counts_are h x)

  all_terms : sum (terms_of s) 21 ≡ sum (λ h. term_count s ((Kinds.revision).size + ((Kinds.component).counts + (Kinds.component).size * h))) 21
  unfolding terms_of
  all_terms = refl

  pub laid_out : Laid s l
  laid_out =
      record {
        terms_limit = terms_limited;
        count_limit = count_limit s l e;
        departures_limit = λ m. departures_as m (ltb m l.count) refl;
        terms_at = counted_end s _ _ _ _ 21 1 (Kinds.revision).size l.terms (components_walk s l e);
        pairs_at = groups_end s _ _ _ _ _ 21 l.terms l.pairs (terms_walk s l e) ∙ ap (λ (n : ℕ). l.terms + (Kinds.term).size * n) (sym all_terms);
        functions_at =
            chain_end (pair_row s) (λ i. (Kinds.pair).size * (22 - i)) (pair_size s) 21 1 l.pairs l.functions (pairs_walk s l e)
            ∙ ap (λ (n : ℕ). l.pairs + n) all_pairs;
        departures_at = counted_end s _ _ _ _ l.count 1 l.functions l.departures (functions_walk s l e);
        length_at =
            groups_end s _ _ _ _ _ l.count l.departures l.length (departures_walk s l e)
            ∙ ap (λ (n : ℕ). l.departures + (Kinds.departure).size * n) (sym all_departures);
        length_is = length_is s l e;
      }

-- what stands before row n of m and in it
pub sum_within : (f : ℕ → ℕ) (n m : ℕ) → n < m → sum f n + f n ≤ sum f m
unfolding sum
sum_within f n m h = let l : suc n ≤ m = omega arith in let a : sum f (suc n) ≤ sum f m = sum_grows f (suc n) m l in omega arith
