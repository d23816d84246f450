-- What is written, and what a refusal leaves. Assumes nothing.
use mathlib.Core.List.{List}
use mathlib.Core.Path.{◌≡◌, refl, ◌∙◌}
use Prim.Native.Nat.{ℕ, zero, suc, ◌+◌, ◌*◌}
use lib.Ieee.{Float}
use lib.ListN.{length, get_or, length-set}
use Rattle.std.specs.Prelude.{Result, Err}
use Rattle.numerics.specs.Iterate.{iter}
use Rattle.gerg_refusals.specs.declared.Refusal.{Refusal}
use Rattle.gerg_reducing.specs.declared.GergModel.{GergModel}
use Rattle.gerg_root_list.specs.RootList as is
use Rattle.gerg_root_list.specs.declared.Root.{Root}

pub length_root : (root : Root) (m at : ℕ) (l : List Float) → length (is.root_written root m at l) ≡ length l
unfolding is.root_written iter
length_root root zero at l = refl
length_root root (suc m) at l = length-set (is.root_written root m at l) (at + m) (is.number_at root m) ∙ length_root root m at l

pub length_roots : (roots : List Root) (m n : ℕ) (l : List Float) → length (is.roots_written roots m n l) ≡ length l
unfolding is.roots_written iter
length_roots roots m zero l = refl
length_roots roots m (suc n) l = length_root (get_or roots n is.no_root) m (n * m) (is.roots_written roots m n l) ∙ length_roots roots m n l

-- a refusal leaves the lent answer as it was
pub refused_memory : (m : GergModel) (k : is.Kept) (a : Result ℕ Refusal) (r : Refusal) (out : List Float) → a ≡ Err r → out ≡ is.memory_by m k a out
unfolding is.memory_by
refused_memory m k a r out e = rw e
