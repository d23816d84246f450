-- The records of a well-formed file stand where their definitions say, and it has at most 28,377 bytes.
use mathlib.Core.Path.{◌≡◌, refl}
use mathlib.Core.List.{List}
use Prim.Native.Nat.{ℕ, zero, suc, ◌+◌, ◌-◌, ◌*◌, ◌≤◌, ◌<◌}
use native.Mathlib.Omega.{arith}
use Rattle.std.specs.Prelude.{Ok}
use Rattle.gerg_file.specs.declared.Layout.{Layout}
use Rattle.gerg_file.specs.Kinds as Kinds
use Rattle.gerg_file.specs.Bytes.{term_count}
use Rattle.gerg_file.specs.File.{numbered, pair_row, file_of}
use Rattle.gerg_file.specs.Laid.{Laid}
use Rattle.gerg_file.specs.Counts.{sum, terms_of, departures_of}
use Rattle.gerg_file.proofs.Begins.{term_record, pair_record, departure_record, Stands}
use Rattle.gerg_file.proofs.WellFormed.{chain_step, terms_walk, pairs_walk, departures_walk}
use Rattle.gerg_file.proofs.Places.{sum_same, sum_below, sum_limit, chain_at, numbered_size, numbered_stands, groups_stand}
use Rattle.gerg_file.proofs.Laws.Laid.{pair_size, counts_are}

-- the records before row i of the pairs
rows : (i : ℕ) → i ≤ 21 → sum (λ h. (Kinds.pair).size * (22 - (1 + h))) i ≡ (Kinds.pair).size * (sum (λ h. 20 - h) i + i)
unfolding sum
rows zero h = refl
rows (suc i) h = let a = rows i (omega arith) in omega arith

moved : (s : List ℕ) (kind lead : ℕ) {n m a b : ℕ} → n ≡ m → a ≡ b → Stands s kind lead n a → Stands s kind lead m b
moved s kind lead x y r = rw (x, y) at r

module _ (s : List ℕ) (l : Layout) (e : file_of s ≡ Ok l) where
  -- record (3, i + 1, k + 1)
  pub term_stands : (i k : ℕ) → i < 21 → k < terms_of s i → Stands s (Kinds.term).kind (1 + i) (1 + k) (term_record s l i k)
  unfolding terms_of
  term_stands i k h g =
      let q = sum_same (terms_of s) (λ h. term_count s ((Kinds.revision).size + ((Kinds.component).counts + (Kinds.component).size * h))) (λ h. refl) i in
      moved s (Kinds.term).kind (1 + i) refl (omega arith) (groups_stand s _ _ _ _ _ 21 l.terms l.pairs (terms_walk s l e) i k h g)

  -- record (4, i + 1, j + 1)
  pub pair_stands : (i j : ℕ) → i ≤ j → j < 21 → Stands s (Kinds.pair).kind (1 + i) (1 + j) (pair_record l i j)
  pair_stands i j h g =
      let row = chain_at (pair_row s) (λ i. (Kinds.pair).size * (22 - i)) (pair_size s) 21 1 l.pairs l.functions (pairs_walk s l e) i (omega arith) in
      let q = rows i (omega arith) in
      let at = l.pairs + sum (λ h. (Kinds.pair).size * (22 - (1 + h))) i in
      moved s (Kinds.pair).kind (1 + i) (let x : 1 + i + (j - i) ≡ 1 + j = omega arith in x)
      (let y : at + (Kinds.pair).size * (j - i) ≡ pair_record l i j = omega arith in y)
      (numbered_stands s _ _ (1 + i) (1 + i + (j - i)) (at + (Kinds.pair).size * (j - i)) _
      (chain_step (numbered s (Kinds.pair).kind (Kinds.pair).size (1 + i)) (Kinds.pair).size (λ n at p g. numbered_size s _ _ (1 + i) n at p g) (22 - (1 + i)) (1 + i)
      at _ row (j - i) (omega arith)))

  -- record (6, m + 1, k + 1)
  pub departure_stands : (m k : ℕ) → m < l.count → k < departures_of s l.functions l.count m
      → Stands s (Kinds.departure).kind (1 + m) (1 + k) (departure_record s l m k)
  departure_stands m k h g =
      let q = sum_below (departures_of s l.functions l.count) (λ h. term_count s (l.functions + ((Kinds.function).counts + (Kinds.function).size * h))) m
      (λ n x. counts_are s l e n (omega arith)) in
      let c = counts_are s l e m h in
      moved s (Kinds.departure).kind (1 + m) refl (omega arith)
      (groups_stand s _ _ _ _ _ l.count l.departures l.length (departures_walk s l e) m k h (omega arith))

-- "So the longest file has 28,377 bytes"
pub longest : (s : List ℕ) (l : Layout) → Laid s l → l.length ≤ 28377
longest s l f =
    let t = sum_limit (terms_of s) 24 21 f.terms_limit in
    let d = sum_limit (departures_of s l.functions l.count) 12 10 (λ m h. f.departures_limit m) in
    omega arith
