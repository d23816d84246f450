-- Each row that the sums read is in the isotherm: its step writes it, and no later step writes another number there. Assumes nothing.
use mathlib.Core.Bool.{Bool, true, false, ◌||◌}
use mathlib.Core.List.{List}
use mathlib.Core.Path.{◌≡◌, refl}
use Prim.Native.Nat.{ℕ, ◌+◌, ◌-◌, ◌*◌, ◌<◌, ◌≤◌}
use native.Mathlib.Nat.{not-suc-le-zero}
use native.Mathlib.Omega.{arith}
use borrow.Author.Tests.{eqb-true, eqb-false, ltb-true, ltb-false}
use lib.Dec.{eqb, leb, ltb}
use lib.Ieee.{Float, nan}
use lib.ListN.{get_or, length-replicate}
use Rattle.numerics.specs.Double.{+0}
use Rattle.numerics.specs.Iterate.{range}
use Rattle.gerg_tables.specs.declared.Tables.{Tables}
use Rattle.gerg_tables.specs.Tables.{Shaped, kpol, kexp, m_numb, kpolij, kexpij}
use Rattle.gerg_reducing.specs.declared.GergModel.{GergModel}
use Rattle.gerg_reducing.specs.Reduced.{absent, tau_of}
use Rattle.gerg_isotherm.specs.Isotherm.{pure_cell, departure_cell, ideal_row, pure_row, departure_row, pair_row, component_rows, all_rows, zero_cells, isotherm_of}
use Rattle.gerg_isotherm.specs.Rows.{Rows}
use Rattle.gerg_isotherm.proofs.Laws.Rows.{number_in}
use Rattle.gerg_isotherm.proofs.Laws.Written.{Apart, below, above, Holds, Sized, sized, written_keeps, written_makes}
use Rattle.gerg_isotherm.proofs.Laws.Kept.{iter_reaches, range_keeps, range_reaches, pick_either}
use Rattle.gerg_isotherm.proofs.Laws.Ideal.{ideal_keeps, base_in, sinh₀_in, cosh₁_in, sinh₂_in, cosh₃_in}

module _ (t : Tables) (x : List Float) (temperature tau : Float) (shaped : Shaped t) where
  -- the cells of the terms of departure function m
  abbrev departed : ℕ → List Float → Type 0
  departed m = Holds (departure_cell t.doubles tau m) (504 + 12 * m) (kpolij t.integers m + kexpij t.integers m)

  pure_keeps : (f : ℕ → Float) (at n i : ℕ) (l : List Float) → i < 21 → Apart at n (24 * i) (24 * i + 24) → Holds f at n l → Holds f at n (pure_row t tau i l)
  unfolding pure_row
  pure_keeps f at n i l h a there =
      let few = shaped.terms i h in
      written_keeps f _ at n _ _ (24 * i) l a (omega arith) there _ (omega arith)

  pair_keeps : (f : ℕ → Float) (at n i j : ℕ) (l : List Float) → i < j → j < 21 → Apart at n 504 624 → Holds f at n l → Holds f at n (pair_row t x tau i j l)
  unfolding pair_row departure_row
  pair_keeps f at n i j l h g a there = pick_either (Holds f at n) _ l _ there (λ e. used e)
    where
      used : (absent (get_or x j nan) || leb 128 (m_numb t.integers i j)) ≡ false →
          Holds f at n (departure_row t tau (m_numb t.integers i j - 1) l)
      used e =
          let number = number_in t x i j shaped h g e in
          let m = m_numb t.integers i j - 1 in
          let few = shaped.departures m (omega arith) in
          written_keeps f _ at n 504 624 (504 + 12 * m) l a (omega arith) there _ (omega arith)

  pairs_keep : (f : ℕ → Float) (at n i : ℕ) (l : List Float) → Apart at n 504 624 → Holds f at n l → Holds f at n (range (pair_row t x tau i) (i + 1) 21 l)
  pairs_keep f at n i l a there = range_keeps (pair_row t x tau i) (Holds f at n) (i + 1) 21 (λ j from to l. pair_keeps f at n i j l (omega arith) to a) l there

  departure_makes : (m : ℕ) (l : List Float) → m < 10 → Sized l → departed m (departure_row t tau m l)
  unfolding departure_row
  departure_makes m l h size = let few = shaped.departures m h in written_makes _ (504 + 12 * m) l size _ (omega arith)

  rows_apart : (m m₀ : ℕ) → m₀ < 10 → (m ≡ m₀ → ⊥) → Apart (504 + 12 * m₀) (kpolij t.integers m₀ + kexpij t.integers m₀) (504 + 12 * m) (516 + 12 * m)
  rows_apart m m₀ h other = go (ltb m m₀) refl
    where
      go : (b : Bool) → ltb m m₀ ≡ b → Apart (504 + 12 * m₀) (kpolij t.integers m₀ + kexpij t.integers m₀) (504 + 12 * m) (516 + 12 * m)
      go true e =
          let fewer = ltb-true m m₀ e in
          let gap : 516 + 12 * m ≤ 504 + 12 * m₀ = omega arith in
          above gap
      go false e =
          let more = ltb-false m m₀ e in
          let few = shaped.departures m₀ h in
          let past : m₀ < m = omega (arith, other) in
          let gap : 504 + 12 * m₀ + (kpolij t.integers m₀ + kexpij t.integers m₀) ≤ 504 + 12 * m = omega arith in
          below gap

  -- another row of departure powers writes elsewhere, or the same numbers
  departure_keeps : (m m₀ : ℕ) (l : List Float) → m < 10 → m₀ < 10 → departed m₀ l → departed m₀ (departure_row t tau m l)
  unfolding departure_row
  departure_keeps m m₀ l h h₀ there = go (eqb m m₀) refl
    where
      go : (b : Bool) → eqb m m₀ ≡ b → departed m₀ (departure_row t tau m l)
      go true e = let same = eqb-true m m₀ e in rw same (departure_makes m₀ l h₀ (sized there))
      go false e =
          let few = shaped.departures m h in
          written_keeps _ _ _ _ (504 + 12 * m) (516 + 12 * m) (504 + 12 * m) l (rows_apart m m₀ h₀ (eqb-false m m₀ e)) (omega arith) there _ (omega arith)

  pair_keeps_departed : (m i j : ℕ) (l : List Float) → m < 10 → i < j → j < 21 → departed m l → departed m (pair_row t x tau i j l)
  unfolding pair_row
  pair_keeps_departed m i j l small h g there = pick_either (departed m) _ l _ there (λ e. used e)
    where
      used : (absent (get_or x j nan) || leb 128 (m_numb t.integers i j)) ≡ false → departed m (departure_row t tau (m_numb t.integers i j - 1) l)
      used e = let number = number_in t x i j shaped h g e in departure_keeps (m_numb t.integers i j - 1) m l (omega arith) small there

  component_keeps : (f : ℕ → Float) (at n i : ℕ) (l : List Float) → i < 21 → Apart at n (24 * i) (24 * i + 24) → Apart at n (624 + 15 * i) (639 + 15 * i) → Apart at n 504 624 →
      Holds f at n l → Holds f at n (component_rows t x temperature tau i l)
  unfolding component_rows
  component_keeps f at n i l h pure ideal pairs there =
      pick_either (Holds f at n) (absent (get_or x i nan)) l _ there
      (λ e. pairs_keep f at n i _ pairs (ideal_keeps f at n t.doubles (get_or x i nan) temperature i _ ideal (pure_keeps f at n i l h pure there)))

  component_sized : (i : ℕ) → i < 21 → (l : List Float) → Sized l → Sized (component_rows t x temperature tau i l)
  component_sized i h l = component_keeps _ 0 0 i l h (below (omega arith)) (below (omega arith)) (below (omega arith))

  component_keeps_departed : (m i : ℕ) (l : List Float) → m < 10 → i < 21 → departed m l → departed m (component_rows t x temperature tau i l)
  unfolding component_rows
  component_keeps_departed m i l g h there =
      let few = shaped.departures m g in
      pick_either (departed m) (absent (get_or x i nan)) l _ there
      (λ e.
      range_keeps (pair_row t x tau i) (departed m) (i + 1) 21 (λ j from to l. pair_keeps_departed m i j l g (omega arith) to) _
      (ideal_keeps _ _ _ t.doubles (get_or x i nan) temperature i _ (below (omega arith)) (pure_keeps _ _ _ i l h (above (omega arith)) there)))

  -- a component that is there writes its rows
  abbrev rows_from : ℕ → List Float → List Float
  rows_from i l = range (pair_row t x tau i) (i + 1) 21 (ideal_row t.doubles (get_or x i nan) temperature i (pure_row t tau i l))

  component_there : (i : ℕ) (l : List Float) → absent (get_or x i nan) ≡ false → component_rows t x temperature tau i l ≡ rows_from i l
  unfolding component_rows
  component_there i l e = rw e

  -- a row that component i writes is there at the end, if what the component writes after it and the later components do not touch it
  reaches : (P : List Float → Type 0) (i : ℕ) → i < 21 → absent (get_or x i nan) ≡ false → ((l : List Float) → Sized l → P (rows_from i l)) →
      ((k : ℕ) → i < k → k < 21 → (l : List Float) → P l → P (component_rows t x temperature tau k l)) → (l : List Float) → Sized l → P (all_rows t x temperature tau l)
  unfolding all_rows
  reaches P i h e make keep l size =
      iter_reaches (component_rows t x temperature tau) P Sized 21 i component_sized (λ l q. rw (component_there i l e) (make l q)) keep 21 h (omega arith) l size

  pure_there : (i : ℕ) → i < 21 → absent (get_or x i nan) ≡ false → (l : List Float) → Sized l →
      Holds (pure_cell t.doubles tau i) (24 * i) (kpol t.integers i + kexp t.integers i) (all_rows t x temperature tau l)
  unfolding pure_row
  pure_there i h e =
      let few = shaped.terms i h in
      let f = pure_cell t.doubles tau i in
      let n = kpol t.integers i + kexp t.integers i in
      reaches (Holds f (24 * i) n) i h e
      (λ l q.
      pairs_keep f (24 * i) n i _ (below (omega arith))
      (ideal_keeps f (24 * i) n t.doubles (get_or x i nan) temperature i _ (below (omega arith)) (written_makes f (24 * i) l q n (omega arith))))
      (λ k later le l. component_keeps f (24 * i) n k l le (below (omega arith)) (below (omega arith)) (below (omega arith)))

  -- a row of component i's ideal part, three cells from 624 + 15 × i on
  ideal_there : (f : ℕ → Float) (at i : ℕ) → i < 21 → 624 + 15 * i ≤ at → at + 3 ≤ 639 + 15 * i → absent (get_or x i nan) ≡ false →
      ((l : List Float) → Sized l → Holds f at 3 (ideal_row t.doubles (get_or x i nan) temperature i l)) → (l : List Float) → Sized l → Holds f at 3 (all_rows t x temperature tau l)
  ideal_there f at i h from to e make =
      reaches (Holds f at 3) i h e
      (λ l q. pairs_keep f at 3 i _ (above (omega arith)) (make _ (pure_keeps _ 0 0 i l h (below (omega arith)) q)))
      (λ k later le l. component_keeps f at 3 k l le (above (omega arith)) (below (omega arith)) (above (omega arith)))

  pair_there : (i j : ℕ) (l : List Float) → (absent (get_or x j nan) || leb 128 (m_numb t.integers i j)) ≡ false →
      departed (m_numb t.integers i j - 1) (departure_row t tau (m_numb t.integers i j - 1) l) → departed (m_numb t.integers i j - 1) (pair_row t x tau i j l)
  unfolding pair_row
  pair_there i j l used p = rw used p

  departure_there : (i j : ℕ) → i < j → j < 21 → absent (get_or x i nan) ≡ false → (absent (get_or x j nan) || leb 128 (m_numb t.integers i j)) ≡ false →
      (l : List Float) → Sized l → departed (m_numb t.integers i j - 1) (all_rows t x temperature tau l)
  departure_there i j h g e used =
      let number = number_in t x i j shaped h g used in
      let m = m_numb t.integers i j - 1 in
      reaches (departed m) i (omega arith) e
      (λ l q.
      range_reaches (pair_row t x tau i) (departed m) Sized (i + 1) 21 j (omega arith) g
      (λ k from to l. pair_keeps _ 0 0 i k l (omega arith) to (below (omega arith)))
      (λ l q. pair_there i j l used (departure_makes m l (omega arith) q))
      (λ k from to l. pair_keeps_departed m i k l (omega arith) (omega arith) to)
      _
      (ideal_keeps _ 0 0 t.doubles (get_or x i nan) temperature i _ (below (omega arith)) (pure_keeps _ 0 0 i l (omega arith) (below (omega arith)) q)))
      (λ k later le l. component_keeps_departed m k l (omega arith) le)

zeros_sized : Sized zero_cells
unfolding zero_cells
zeros_sized = record { size = length-replicate 939 +0; row = λ k e. absurd (not-suc-le-zero e) }

-- the isotherm holds all that the sums read
pub isotherm_rows : (t : Tables) (m : GergModel) (temperature : Float) → Shaped t → Rows t m.fractions temperature (tau_of m temperature) (isotherm_of t m temperature)
unfolding isotherm_of
isotherm_rows t m temperature shaped =
    let x = m.fractions in
    let tau = tau_of m temperature in
    let ideal = ideal_there t x temperature tau shaped in
    record {
      pure = λ i h e. (pure_there t x temperature tau shaped i h e zero_cells zeros_sized).row;
      ideal = λ i h e. record {
        base = (ideal _ (624 + 15 * i) i h (omega arith) (omega arith) e (base_in t.doubles (get_or x i nan) temperature i h) zero_cells zeros_sized).row;
        sinh₀ = λ z. (ideal _ (627 + 15 * i) i h (omega arith) (omega arith) e (sinh₀_in t.doubles (get_or x i nan) temperature i h z) zero_cells zeros_sized).row;
        cosh₁ = λ z. (ideal _ (630 + 15 * i) i h (omega arith) (omega arith) e (cosh₁_in t.doubles (get_or x i nan) temperature i h z) zero_cells zeros_sized).row;
        sinh₂ = λ z. (ideal _ (633 + 15 * i) i h (omega arith) (omega arith) e (sinh₂_in t.doubles (get_or x i nan) temperature i h z) zero_cells zeros_sized).row;
        cosh₃ = λ z. (ideal _ (636 + 15 * i) i h (omega arith) (omega arith) e (cosh₃_in t.doubles (get_or x i nan) temperature i h z) zero_cells zeros_sized).row;
      };
      departure = λ i j h g e used. (departure_there t x temperature tau shaped i j h g e used zero_cells zeros_sized).row;
    }
