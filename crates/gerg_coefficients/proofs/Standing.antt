-- An accepted file has at most 28,377 bytes.
use mathlib.Core.Path.{◌≡◌, refl}
use mathlib.Core.List.{List}
use Prim.Native.Nat.{ℕ, ◌≤◌}
use native.Mathlib.Omega.{arith}
use Rattle.gerg_file.specs.File.{file_of}
use Rattle.gerg_file.specs.declared.Layout.{Layout}
use Rattle.std.specs.Prelude.{Result, Ok, Err}
use Rattle.gerg_refusals.specs.declared.Refusal.{Refusal}
use Rattle.gerg_file.proofs.Laws.Laid.{laid_out}
use Rattle.gerg_file.proofs.Laws.Standing.{longest}
use Rattle.gerg_coefficients.specs.Answer.{answer_as, answer_of}
use Rattle.gerg_coefficients.proofs.Shaped.{accepted_length}

longest_as : (s : List ℕ) (w : Result Layout Refusal) → file_of s ≡ w → (n : ℕ) → answer_as s w ≡ Ok n → answer_of s ≡ Ok n → n ≤ 28377
unfolding answer_as
longest_as s (Err r) e n a b = let z : ◌≡◌ {A = ℕ} 0 1 = cc in absurd (omega arith)
longest_as s (Ok l) e n a b =
    let f = laid_out s l e in let x = longest s l f in let y = f.length_is in let z = accepted_length s n b in omega arith

opened : (s : List ℕ) (n : ℕ) → answer_of s ≡ Ok n → answer_as s (file_of s) ≡ Ok n
unfolding answer_of
opened s n a = a

pub accepted_longest : (s : List ℕ) (n : ℕ) → answer_of s ≡ Ok n → n ≤ 28377
accepted_longest s n a = longest_as s (file_of s) refl n (opened s n a) a
