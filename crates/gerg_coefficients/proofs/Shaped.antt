-- The tables of an accepted file have the shape that the layers above require, and each of their numbers is the file's.
use mathlib.Core.Path.{◌≡◌, refl, ap, ◌∙◌}
use mathlib.Core.Bool.{Bool, true, false}
use mathlib.Core.List.{List}
use Prim.Native.Nat.{ℕ, ◌+◌, ◌*◌, ◌≤◌, ◌<◌}
use native.Mathlib.Omega.{arith}
use borrow.Author.Tests.{lt-ltb, le-ltb, le-leb, ltb-true, ltb-false}
use lib.Dec.{ltb}
use lib.ListN.{length, get_or}
use Rattle.gerg_file.specs.Kinds as Kinds
use Rattle.gerg_file.specs.Bytes.{byte, term_count}
use Rattle.gerg_file.specs.File.{file_of}
use Rattle.gerg_file.specs.Counts.{terms_of}
use Rattle.std.specs.Prelude.{Result, Ok, Err}
use Rattle.gerg_refusals.specs.declared.Fault.{Fault}
use Rattle.gerg_refusals.specs.declared.Refusal.{Refusal}
use Rattle.gerg_file.specs.declared.Layout.{Layout}
use Rattle.gerg_file.proofs.Laws.Laid.{laid_out, counts_are}
use Rattle.gerg_tables.specs.Tables.{Shaped, kpol, kexp, m_numb, kpolij, kexpij}
use Rattle.gerg_coefficients.specs.Load.{functions, doubles, integers, loaded}
use Rattle.gerg_tables.specs.Check.{fault_of}
use Rattle.gerg_tables.proofs.Faults.{sound_numbers}
use Rattle.gerg_coefficients.specs.Answer.{judged, answer_as, answer_of, tables_as, tables_of}
use Rattle.gerg_coefficients.proofs.Numbers.{count_number, function_byte}

judged_accepted : (checked : Result (Unit {0}) Fault) (length n : ℕ) → judged checked length ≡ Ok n → (checked ≡ Ok tt) × (n ≡ length)
judged_accepted (Ok u) length n e = (refl, cc)
judged_accepted (Err fault) length n e = cc

module _ (s : List ℕ) (l : Layout) (e : file_of s ≡ Ok l) where
  -- the counts of a component are those of its record
  terms_shaped : (i : ℕ) → i < 21 → kpol (integers s l) i + kexp (integers s l) i ≤ 24
  unfolding terms_of
  terms_shaped i h =
      let a = count_number s l i 0 h (omega arith) in
      let b = count_number s l i 1 h (omega arith) in
      let t : term_count s ((Kinds.revision).size + ((Kinds.component).counts + (Kinds.component).size * i)) ≤ 24 = (laid_out s l e).terms_limit i h in
      let u : get_or (integers s l) (2 * i) 0 ≡ byte s ((Kinds.revision).size + ((Kinds.component).counts + (Kinds.component).size * i)) =
      ap (λ (p : ℕ). get_or (integers s l) p 0) (let q : 2 * i ≡ 2 * i + 0 = omega arith in q) ∙ a
      ∙ ap (byte s)
      (let q : (Kinds.revision).size + (Kinds.component).counts + (Kinds.component).size * i + 0 ≡ (Kinds.revision).size + ((Kinds.component).counts + (Kinds.component).size * i) =
      omega arith in q) in
      let v : get_or (integers s l) (2 * i + 1) 0 ≡ byte s ((Kinds.revision).size + ((Kinds.component).counts + (Kinds.component).size * i) + 1) =
      b ∙ ap (byte s)
      (let q : (Kinds.revision).size + (Kinds.component).counts + (Kinds.component).size * i + 1
      ≡ (Kinds.revision).size + ((Kinds.component).counts + (Kinds.component).size * i) + 1 =
      omega arith in q) in
      omega arith

  -- those of a departure function too, where the file has it
  function_count : (m c : ℕ) → m < 10 → c < 2 → m < l.count
      → get_or (integers s l) (1491 + (2 * m + c)) 0 ≡ byte s (l.functions + ((Kinds.function).counts + (Kinds.function).size * m) + c)
  unfolding functions
  function_count m c h g k =
      function_byte s l m c h g
      ∙ rw (le-leb 0 m (omega arith), lt-ltb m l.count k)
      (ap (byte s)
      (let q : l.functions + ((Kinds.function).counts + (Kinds.function).size * (0 + m)) + c
      ≡ l.functions + ((Kinds.function).counts + (Kinds.function).size * m) + c =
      omega arith in q))

  no_function : (m c : ℕ) → m < 10 → c < 2 → l.count ≤ m → get_or (integers s l) (1491 + (2 * m + c)) 0 ≡ 0
  unfolding functions
  no_function m c h g k = function_byte s l m c h g ∙ rw (le-leb 0 m (omega arith), le-ltb m l.count k)

  first_count : (m : ℕ) → kpolij (integers s l) m ≡ get_or (integers s l) (1491 + (2 * m + 0)) 0
  first_count m = ap (λ (p : ℕ). get_or (integers s l) p 0) (let q : 1491 + 2 * m ≡ 1491 + (2 * m + 0) = omega arith in q)

  second_count : (m : ℕ) → kexpij (integers s l) m ≡ get_or (integers s l) (1491 + (2 * m + 1)) 0
  second_count m = ap (λ (p : ℕ). get_or (integers s l) p 0) (let q : 1492 + 2 * m ≡ 1491 + (2 * m + 1) = omega arith in q)

  departures_as : (m : ℕ) → m < 10 → (b : Bool) → ltb m l.count ≡ b → kpolij (integers s l) m + kexpij (integers s l) m ≤ 12
  departures_as m h true t =
      let k = ltb-true m l.count t in
      let a = function_count m 0 h (omega arith) k in
      let b = function_count m 1 h (omega arith) k in
      let d : term_count s (l.functions + ((Kinds.function).counts + (Kinds.function).size * m)) ≤ 12 = rw (counts_are s l e m k) at ((laid_out s l e).departures_limit m) in
      let v : byte s (l.functions + ((Kinds.function).counts + (Kinds.function).size * m) + 0) ≡ byte s (l.functions + ((Kinds.function).counts + (Kinds.function).size * m)) =
      ap (byte s) (omega arith) in
      omega (arith, first_count m, second_count m)
  departures_as m h false t =
      let k = ltb-false m l.count t in
      let a = no_function m 0 h (omega arith) k in
      let b = no_function m 1 h (omega arith) k in
      omega (arith, first_count m, second_count m)

  departures_shaped : (m : ℕ) → m < 10 → kpolij (integers s l) m + kexpij (integers s l) m ≤ 12
  departures_shaped m h = departures_as m h (ltb m l.count) refl

  numbers_shaped : fault_of (doubles s l) (integers s l) l.count ≡ Ok tt → (i j : ℕ) → i < j → j < 21 → m_numb (integers s l) i j < 128
      → (0 < m_numb (integers s l) i j) × (m_numb (integers s l) i j ≤ 10)
  numbers_shaped f i j h g k =
      let r = sound_numbers (doubles s l) (integers s l) l.count f i j h g k in
      let t = (laid_out s l e).count_limit in
      (r.0, omega (arith, r.1, t))

  pub well_formed_shaped : fault_of (doubles s l) (integers s l) l.count ≡ Ok tt → Shaped (loaded s l)
  unfolding loaded
  well_formed_shaped f = record { terms = terms_shaped; departures = departures_shaped; numbers = numbers_shaped f }

shaped_as : (s : List ℕ) (w : Result Layout Refusal) (n : ℕ) → file_of s ≡ w → answer_as s w ≡ Ok n → Shaped (tables_as s w) × (n ≡ length s)
unfolding answer_as tables_as
shaped_as s (Err r) n e a = let z : ◌≡◌ {A = ℕ} 0 1 = cc in absurd (omega arith)
shaped_as s (Ok l) n e a =
    let j = judged_accepted (fault_of (doubles s l) (integers s l) l.count) l.length n a in
    (well_formed_shaped s l e j.0, j.1 ∙ (laid_out s l e).length_is)

-- an accepted file's tables are shaped, and its value is the file's length
pub accepted_shaped : (s : List ℕ) (n : ℕ) → answer_of s ≡ Ok n → Shaped (tables_of s)
unfolding answer_of tables_of
accepted_shaped s n a = (shaped_as s (file_of s) n refl a).0

pub accepted_length : (s : List ℕ) (n : ℕ) → answer_of s ≡ Ok n → n ≡ length s
unfolding answer_of tables_of
accepted_length s n a = (shaped_as s (file_of s) n refl a).1
