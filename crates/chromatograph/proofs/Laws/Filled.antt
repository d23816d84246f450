-- The written front of a list: what stands at its places, and the part that is lent on. Assumes nothing.
use mathlib.Core.Path.{◌≡◌, ap, ◌∙◌}
use mathlib.Core.List.{List, ◌++◌}
use Prim.Native.Nat.{ℕ, ◌≤◌, ◌<◌}
use lib.ListN.{length, get_or, take, drop, get_or-append}
use lib.Seq.{take_at, length-take-le}
use Rattle.numerics.specs.Fill.{tabulate, filled, length_tabulate, get_d_tabulate}

pub get_d_filled : {A : Type 0} (f : ℕ → A) (n k : ℕ) (l : List A) (d : A) → k < n → get_or (filled f n l) k d ≡ f k
get_d_filled f n k l d h = get_or-append (tabulate f n) (drop n l) d k (rw length_tabulate h) ∙ get_d_tabulate f n k d h

pub take_filled : {A : Type 0} (f : ℕ → A) (n : ℕ) (l : List A) → take n (filled f n l) ≡ tabulate f n
take_filled f n l = take_at (tabulate f n) (drop n l) n (length_tabulate f n)

-- the front that is lent on: its elements, and a list that it is copied to
module _ {A : Type 0} (f : ℕ → A) (n : ℕ) (all rest : List A) where
  pub front_at : (k : ℕ) (d : A) → all ≡ filled f n rest → k < n → get_or (take n all) k d ≡ f k
  front_at k d e h = ap (λ (a : List A). get_or (take n a) k d) e ∙ ap (λ (a : List A). get_or a k d) (take_filled f n rest) ∙ get_d_tabulate f n k d h

  pub copied_front : (l front : List A) → all ≡ filled f n rest → front ≡ take n all → front ++ drop n l ≡ filled f n l
  copied_front l front e c = ap (λ (a : List A). a ++ drop n l) (c ∙ ap (take n) e ∙ take_filled f n rest)

-- a list whose front was lent and written
pub written_front : {A : Type 0} (f : ℕ → A) (n : ℕ) (l : List A) {front : List A} → n ≤ length l → front ≡ tabulate f (length (take n l)) → front ++ drop n l ≡ filled f n l
written_front {A = A} f n l h e = ap (λ (a : List A). a ++ drop n l) (e ∙ ap (tabulate f) (length-take-le n l h))
