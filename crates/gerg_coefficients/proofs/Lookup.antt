-- What stands at a place of the two arrays.
use mathlib.Core.Path.{◌≡◌, sym, ap, ◌∙◌}
use mathlib.Core.Bool.{Bool, true, false, cond}
use mathlib.Core.List.{List, ◌++◌}
use Prim.Native.Nat.{ℕ, zero, suc, ◌+◌, ◌*◌, ◌<◌}
use native.Mathlib.Omega.{arith}
use borrow.Author.Count.{below_more}
use lib.ListN.{length, get_or, replicate, get_or-replicate, get_or-append}
use lib.Seq.{get_or-append-add}
use lib.Ieee.{nan}
use Rattle.numerics.specs.Double.{+0}
use Rattle.numerics.specs.Fill.{get_d_tabulate}
use Rattle.gerg_file.specs.Bytes.{byte, double_at}
use Rattle.gerg_file.proofs.Heads.{room}
use Rattle.gerg_coefficients.specs.Load.{flat, doubles_at, bytes_at, run_of, Records, present, place, row_of}
use Rattle.gerg_coefficients.proofs.Put.{length_flat, length_doubles_at, length_bytes_at}
use Rattle.gerg_coefficients.proofs.Rows.{length_part, length_row}

module _ {A : Type 0} (d : A) where
  -- in the first of two lists, and in the second
  pub in_first : (a b : List A) (n p : ℕ) → length a ≡ n → p < n → get_or (a ++ b) p d ≡ get_or a p d
  in_first a b n p e h = get_or-append a b d p (omega arith)

  pub in_second : (a b : List A) (n p : ℕ) → length a ≡ n → get_or (a ++ b) (n + p) d ≡ get_or b p d
  in_second a b n p e = ap (λ (m : ℕ). get_or (a ++ b) (m + p) d) (sym e) ∙ get_or-append-add a b p d

  -- entry q of part i of parts of one length w
  module _ (f : ℕ → List A) (w : ℕ) (all : (k : ℕ) → length (f k) ≡ w) where
    pub get_flat : (n i q : ℕ) → i < n → q < w → get_or (flat f n) (w * i + q) d ≡ get_or (f i) q d
    unfolding flat
    get_flat zero i q h g = absurd (omega arith)
    get_flat (suc n) i q h g =
        below_more (λ (i : ℕ). get_or (flat f n ++ f n) (w * i + q) d ≡ get_or (f i) q d) n
        (λ i l. in_first (flat f n) (f n) (w * n) (w * i + q) (length_flat f w all n) (omega (arith, room 0 w i n (w * n) l (omega arith))) ∙ get_flat n i q l g)
        (in_second (flat f n) (f n) (w * n) q (length_flat f w all n))
        i (omega arith)

-- number c of those in a row from `at` on
pub get_double : (s : List ℕ) (at n c : ℕ) → c < n → get_or (doubles_at s at n) c nan ≡ double_at s (at + 8 * c)
unfolding doubles_at
get_double s at n c h = get_d_tabulate (λ k. double_at s (at + 8 * k)) n c nan h

pub get_byte : (s : List ℕ) (at n c : ℕ) → c < n → get_or (bytes_at s at n) c 0 ≡ byte s (at + c)
unfolding bytes_at
get_byte s at n c h = get_d_tabulate (λ k. byte s (at + k)) n c 0 h

-- the same where the file may have no record
double_or_zero : (b : Bool) (s : List ℕ) (at n c : ℕ) → c < n → get_or (cond b (doubles_at s at n) (replicate n +0)) c nan ≡ cond b (double_at s (at + 8 * c)) +0
double_or_zero true s at n c h = get_double s at n c h
double_or_zero false s at n c h = get_or-replicate n c +0 nan h

byte_or_zero : (b : Bool) (s : List ℕ) (at n c : ℕ) → c < n → get_or (cond b (bytes_at s at n) (replicate n 0)) c 0 ≡ cond b (byte s (at + c)) 0
byte_or_zero true s at n c h = get_byte s at n c h
byte_or_zero false s at n c h = get_or-replicate n c 0 0 h

-- number c of record k of a run
module _ (s : List ℕ) (at size count per k c : ℕ) (h : k < count) (g : c < per) where
  pub get_run_double : get_or (run_of (doubles_at s) at size count per) (per * k + c) nan ≡ double_at s (at + size * k + 8 * c)
  unfolding run_of
  get_run_double =
      get_flat nan (λ k. doubles_at s (at + size * k) per) per (λ k. length_doubles_at s (at + size * k) per) count k c h g
      ∙ get_double s (at + size * k) per c g

  pub get_run_byte : get_or (run_of (bytes_at s) at size count per) (per * k + c) 0 ≡ byte s (at + size * k + c)
  unfolding run_of
  get_run_byte =
      get_flat 0 (λ k. bytes_at s (at + size * k) per) per (λ k. length_bytes_at s (at + size * k) per) count k c h g
      ∙ get_byte s (at + size * k) per c g

-- number c of record k of a row
module _ (s : List ℕ) (r : Records) (offset count per k c : ℕ) (h : k < count) (g : c < per) where
  pub get_row_double : get_or (row_of +0 (doubles_at s) r offset count per) (per * k + c) nan ≡ cond (present r k) (double_at s (place r offset k + 8 * c)) +0
  unfolding row_of
  get_row_double =
      get_flat nan (λ k. cond (present r k) (doubles_at s (place r offset k) per) (replicate per +0)) per
      (length_part +0 (doubles_at s) (length_doubles_at s) r offset count per) count k c h g
      ∙ double_or_zero (present r k) s (place r offset k) per c g

  pub get_row_byte : get_or (row_of 0 (bytes_at s) r offset count per) (per * k + c) 0 ≡ cond (present r k) (byte s (place r offset k + c)) 0
  unfolding row_of
  get_row_byte =
      get_flat 0 (λ k. cond (present r k) (bytes_at s (place r offset k) per) (replicate per 0)) per
      (length_part 0 (bytes_at s) (length_bytes_at s) r offset count per) count k c h g
      ∙ byte_or_zero (present r k) s (place r offset k) per c g

-- number c of record k of row i
module _ (s : List ℕ) (f : ℕ → Records) (offset count per n i k c : ℕ) (l : i < n) (h : k < count) (g : c < per) where
  pub get_rows : get_or (flat (λ i. row_of +0 (doubles_at s) (f i) offset count per) n) (per * count * i + (per * k + c)) nan
      ≡ cond (present (f i) k) (double_at s (place (f i) offset k + 8 * c)) +0
  get_rows =
      get_flat nan (λ i. row_of +0 (doubles_at s) (f i) offset count per) (per * count)
      (λ k. length_row +0 (doubles_at s) (length_doubles_at s) (f k) offset count per) n i (per * k + c) l (omega (arith, room 0 per k count (per * count) h (omega arith)))
      ∙ get_row_double s (f i) offset count per k c h g

  pub get_byte_rows : get_or (flat (λ i. row_of 0 (bytes_at s) (f i) offset count per) n) (per * count * i + (per * k + c)) 0
      ≡ cond (present (f i) k) (byte s (place (f i) offset k + c)) 0
  get_byte_rows =
      get_flat 0 (λ i. row_of 0 (bytes_at s) (f i) offset count per) (per * count)
      (λ k. length_row 0 (bytes_at s) (length_bytes_at s) (f k) offset count per) n i (per * k + c) l (omega (arith, room 0 per k count (per * count) h (omega arith)))
      ∙ get_row_byte s (f i) offset count per k c h g
