-- What the departure function of a pair tells of its number. Assumes nothing.
use mathlib.Core.Bool.{Bool, true, false}
use mathlib.Core.List.{List}
use mathlib.Core.Path.{◌≡◌, refl, sym}
use Prim.Native.Nat.{ℕ, ◌-◌}
use lib.Dec.{leb, ltb}
use Rattle.std.specs.Prelude.{Some, None}
use Rattle.std.proofs.lemmas.Bool.{lt-leb, le-leb, ltb-true, ltb-false}
use Rattle.std.proofs.lemmas.Option.{none-some, same_Some}
use Rattle.numerics.specs.Double.{pick}
use Rattle.gerg_tables.specs.Tables.{m_numb}
use Rattle.gerg_tables.specs.Departure.{departure_function}

pub has_function : (integers : List ℕ) (i j m : ℕ) → Some m ≡ departure_function integers i j → (leb 128 (m_numb integers i j) ≡ false) × (m ≡ m_numb integers i j - 1)
has_function integers i j m e = go (ltb (m_numb integers i j) 128) refl e
  where
    go : (b : Bool) → ltb (m_numb integers i j) 128 ≡ b → Some m ≡ pick b (Some (m_numb integers i j - 1)) None → (leb 128 (m_numb integers i j) ≡ false) × (m ≡ m_numb integers i j - 1)
    go true q e = (lt-leb 128 (m_numb integers i j) (ltb-true (m_numb integers i j) 128 q), same_Some _ _ e)
    go false q e = absurd (none-some m (sym e))

pub has_none : (integers : List ℕ) (i j : ℕ) → None ≡ departure_function integers i j → leb 128 (m_numb integers i j) ≡ true
has_none integers i j e = go (ltb (m_numb integers i j) 128) refl e
  where
    go : (b : Bool) → ltb (m_numb integers i j) 128 ≡ b → None ≡ pick b (Some (m_numb integers i j - 1)) None → leb 128 (m_numb integers i j) ≡ true
    go true q e = absurd (none-some _ e)
    go false q e = le-leb 128 (m_numb integers i j) (ltb-false (m_numb integers i j) 128 q)
