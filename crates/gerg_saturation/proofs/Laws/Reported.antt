-- What a search's answer reports. A refusal is a temperature's, or row 26 with the length of the list of trials. Where the temperatures are refused by rows 6 to 23 with no value, it is one of the rows 6 to 26, and every row but 26 has the value 0. Assumes nothing.
use mathlib.Core.Path.{◌≡◌, refl, sym, ap, ◌∙◌}
use mathlib.Core.Logic.{◌⊎◌, inl, inr}
use mathlib.Core.Bool.{Bool, true, false, not, ◌||◌}
use mathlib.Core.List.{[]}
use Prim.Native.Nat.{ℕ, zero, suc, ◌≤◌, ◌<◌, zero-le}
use native.Mathlib.Nat.{le_refl}
use native.Mathlib.Omega.{arith}
use lib.Ieee.{Float, lt}
use lib.ListN.{length}
use Rattle.std.specs.Prelude.{Some, None, Ok, Err, IfErr}
use Rattle.std.proofs.lemmas.Result.{IfErr-weaker, IfErr-at_err}
use Rattle.numerics.specs.Double.{+0, pick}
use Rattle.gerg_refusals.specs.Refusal as of_refusal
use Rattle.gerg_refusals.specs.Answer.{number_of, value_of}
use Rattle.gerg_refusals.specs.declared.Refusal.{Refusal}
use Rattle.gerg_refusals.specs.declared.Refusal.TheVariants as refusal
use Rattle.gerg_refusals.proofs.Told.{never_0}
use Rattle.gerg_saturation.specs.Answer.{Tried, Answer}
use Rattle.interval.specs.Interval.{middle_of, narrowed_of, on_end}
use Rattle.gerg_saturation.specs.Halvings.{onward, trials_from, answered_of, halvings_from, halvings_of, encloses, ends_of, search_of, trials_of}
use Rattle.interval.specs.declared.Interval.{Interval}
use Rattle.gerg_saturation.specs.declared.PureSaturation.{PureSaturation}
use Rattle.gerg_saturation.specs.declared.Verdict.TheVariants.{Accepted, Apart}

-- ---- what holds of the temperatures' refusals and of row 26 holds of the search's
module _ (P : Refusal → Type 0) (v : Float → Tried) (tried : (x : Float) → IfErr (v x) P) where
  halvings_refusal : (trials n k : ℕ) (b : Interval) → P (refusal.SaturationNotConverged trials) → IfErr (halvings_from v trials n k b) P
  unfolding halvings_from answered_of onward
  halvings_refusal trials zero k b own = own
  halvings_refusal trials (suc n) k b own = go (v (middle_of b)) (tried (middle_of b)) (λ c. halvings_refusal trials n (suc k) c own)
    where
      either : (q : Bool) (a : Answer) → IfErr a P → IfErr (pick q (Err (refusal.SaturationNotConverged trials)) a) P
      either true a p = own
      either false a p = p

      go :
          (w : Tried) → IfErr w P → ((c : Interval) → IfErr (halvings_from v trials n (suc k) c) P) →
          IfErr (answered_of (suc k) w (onward b (middle_of b) w (λ c. halvings_from v trials n (suc k) c) (Err (refusal.SaturationNotConverged trials)))) P
      go (Ok (Accepted s)) p again = tt
      go (Ok (Apart d)) p again = either (on_end b (middle_of b)) (halvings_from v trials n (suc k) (narrowed_of b (middle_of b) d)) (again (narrowed_of b (middle_of b) d))
      go (Err r) p again = p

  pub search_refusal : (limit : ℕ) (b : Interval) → P (refusal.SaturationNotConverged (length (trials_of v limit b))) → IfErr (search_of v limit b) P
  unfolding search_of trials_of ends_of encloses halvings_of
  search_refusal limit b own = go (v b.lo) (v b.hi) (tried b.lo) (tried b.hi) own
    where
      inner : (q : Bool) → P (refusal.SaturationNotConverged (length (pick (not q) (trials_from v limit b) []))) → IfErr (pick q (Ok None) (halvings_from v (length (trials_from v limit b)) limit 0 b)) P
      inner true own = tt
      inner false own = halvings_refusal (length (trials_from v limit b)) limit 0 b own

      go :
          (a c : Tried) → IfErr a P → IfErr c P → P (refusal.SaturationNotConverged (length (pick (encloses a c) (trials_from v limit b) []))) →
          IfErr (ends_of a c (halvings_from v (length (trials_from v limit b)) limit 0 b)) P
      go (Err r) c p q own = p
      go (Ok (Accepted s)) (Err r) p q own = q
      go (Ok (Accepted s)) (Ok (Accepted u)) p q own = tt
      go (Ok (Accepted s)) (Ok (Apart right)) p q own = tt
      go (Ok (Apart left)) (Err r) p q own = q
      go (Ok (Apart left)) (Ok (Accepted u)) p q own = tt
      go (Ok (Apart left)) (Ok (Apart right)) p q own = inner (lt +0 left || lt right +0) own

-- a refusal of a search is one that a temperature gave, as it is, or row 26 with the length of the list of trials
abbrev pub Cause : (Float → Tried) → ℕ → Refusal → Type 0
Cause v trials r = ((x : Float) × (v x ≡ Err r)) ⊎ (r ≡ refusal.SaturationNotConverged trials)

pub search_cause : (v : Float → Tried) (limit : ℕ) (b : Interval) → IfErr (search_of v limit b) (Cause v (length (trials_of v limit b)))
search_cause v limit b = search_refusal (Cause v n) v (λ x. gives x (v x) refl) limit b (inr refl)
  where
    n : ℕ
    n = length (trials_of v limit b)

    gives : (x : Float) (w : Tried) → v x ≡ w → IfErr w (Cause v n)
    gives x (Ok w) e = tt
    gives x (Err r) e = inl (x, e)

-- ---- what an answer reports, where no temperature is refused by row 24 or later: `trials` is the length of the list
-- the answer is a refusal that a temperature gave, with its value
pub record Given (v : Float → Tried) (a : Answer) : Type 0 where
  pub temperature : Float
  pub cause : Refusal
  pub given : v temperature ≡ Err cause
  pub handed_on : a ≡ Err cause

-- so where no temperature's refusal has a value, `others` is `value_of a ≡ 0` and `most` is `value_of a ≤ trials` (`no_value`)
pub record Reports (v : Float → Tried) (a : Answer) (trials : ℕ) : Type 0 where
  pub number : number_of a ≤ 26
  pub row_26 : number_of a ≡ 26 → value_of a ≡ trials
  pub others : (number_of a ≡ 26 → ⊥) → (value_of a ≡ 0) ⊎ Given v a
  pub most : (value_of a ≤ trials) ⊎ Given v a
  pub accepted : number_of a ≡ 0 → ((s : PureSaturation) × (a ≡ Ok (Some s))) ⊎ (a ≡ Ok None)

-- a row up to 25 with no value, whatever the temperatures say
pub refused : (v : Float → Tried) (trials : ℕ) (r : Refusal) → of_refusal.number_of r ≤ 25 → of_refusal.value_of r ≡ 0 → Reports v (Err r) trials
refused v trials r h e = record { number = omega arith; row_26 = λ i. omega arith; others = λ i. inl e; most = inl (omega arith); accepted = λ i. absurd (never_0 r i) }

pub search_reports : (v : Float → Tried) → ((x : Float) → IfErr (v x) (λ r. of_refusal.number_of r ≤ 23)) → (limit : ℕ) (b : Interval) → Reports v (search_of v limit b) (length (trials_of v limit b))
search_reports v few limit b = go (search_of v limit b) (search_cause v limit b)
  where
    n : ℕ
    n = length (trials_of v limit b)

    go : (a : Answer) → IfErr a (Cause v n) → Reports v a n
    go (Ok (Some s)) c = record { number = zero-le; row_26 = λ e. omega arith; others = λ e. inl refl; most = inl zero-le; accepted = λ e. inl (s, refl) }
    go (Ok None) c = record { number = zero-le; row_26 = λ e. omega arith; others = λ e. inl refl; most = inl zero-le; accepted = λ e. inr refl }
    go (Err r) (inl (x, e)) =
        let h : of_refusal.number_of r ≤ 23 = IfErr-at_err (λ r. of_refusal.number_of r ≤ 23) e (few x) in
        let g : Given v (Err r) = record { temperature = x; cause = r; given = e; handed_on = refl } in
        record { number = omega arith; row_26 = λ e. omega arith; others = λ n. inr g; most = inr g; accepted = λ e. absurd (never_0 r e) }
    go (Err r) (inr e) =
        rw e
        (record { number = omega arith; row_26 = λ e. refl; others = λ e. absurd (e refl); most = inl (le_refl n); accepted = λ e. absurd (never_0 (refusal.SaturationNotConverged n) e) })

pub no_value : (v : Float → Tried) (a : Answer) (trials : ℕ) → ((x : Float) → value_of (v x) ≡ 0) → Reports v a trials → ((number_of a ≡ 26 → ⊥) → value_of a ≡ 0) × (value_of a ≤ trials)
no_value v a trials none h = (λ e. plain (h.others e), bounded h.most)
  where
    given : Given v a → value_of a ≡ 0
    given g = ap value_of g.handed_on ∙ sym (ap value_of g.given) ∙ none g.temperature

    plain : (value_of a ≡ 0) ⊎ Given v a → value_of a ≡ 0
    plain (inl e) = e
    plain (inr g) = given g

    bounded : (value_of a ≤ trials) ⊎ Given v a → value_of a ≤ trials
    bounded (inl e) = e
    bounded (inr g) = omega (arith, given g)

-- ---- the rows: of a temperature one of the rows 6 to 23, with no value
pub record Early (r : Refusal) : Type 0 where
  pub late : 5 < of_refusal.number_of r
  pub most : of_refusal.number_of r ≤ 23
  pub plain : of_refusal.value_of r ≡ 0

-- of a search with so many trials
pub record Row (trials : ℕ) (r : Refusal) : Type 0 where
  pub late : 5 < of_refusal.number_of r
  pub most : of_refusal.number_of r ≤ 26
  pub row_26 : of_refusal.number_of r ≡ 26 → of_refusal.value_of r ≡ trials
  pub others : (of_refusal.number_of r ≡ 26 → ⊥) → of_refusal.value_of r ≡ 0
  pub value : of_refusal.value_of r ≤ trials

pub early_row : (trials : ℕ) (r : Refusal) → Early r → Row trials r
early_row trials r h = let number = h.most in let plain = h.plain in record { late = h.late; most = omega arith; row_26 = λ e. omega arith; others = λ n. plain; value = omega arith }

own_row : (trials : ℕ) → Row trials (refusal.SaturationNotConverged trials)
own_row trials = record { late = omega arith; most = omega arith; row_26 = λ e. refl; others = λ n. absurd (n refl); value = le_refl trials }

pub search_row : (v : Float → Tried) → ((x : Float) → IfErr (v x) Early) → (limit : ℕ) (b : Interval) → IfErr (search_of v limit b) (Row (length (trials_of v limit b)))
search_row v early limit b = let n = length (trials_of v limit b) in search_refusal (Row n) v (λ x. IfErr-weaker (v x) Early (Row n) (early_row n) (early x)) limit b (own_row n)

-- ---- what an answer reports of such rows
pub record LateReports (a : Answer) (trials : ℕ) : Type 0 where
  pub number : number_of a ≤ 26
  pub late : (number_of a ≡ 0 → ⊥) → 5 < number_of a
  pub row_26 : number_of a ≡ 26 → value_of a ≡ trials
  pub others : (number_of a ≡ 26 → ⊥) → value_of a ≡ 0
  pub most : value_of a ≤ trials
  pub accepted : number_of a ≡ 0 → ((s : PureSaturation) × (a ≡ Ok (Some s))) ⊎ (a ≡ Ok None)

pub late_reports : (a : Answer) (trials : ℕ) → IfErr a (Row trials) → LateReports a trials
late_reports (Ok (Some s)) trials row = record { number = zero-le; late = λ n. absurd (n refl); row_26 = λ e. omega arith; others = λ n. refl; most = zero-le; accepted = λ e. inl (s, refl) }
late_reports (Ok None) trials row = record { number = zero-le; late = λ n. absurd (n refl); row_26 = λ e. omega arith; others = λ n. refl; most = zero-le; accepted = λ e. inr refl }
late_reports (Err r) trials row = record { number = row.most; late = λ n. row.late; row_26 = row.row_26; others = row.others; most = row.value; accepted = λ e. absurd (never_0 r e) }

-- of temperatures that are refused by rows 6 to 23 with no value, or not at all
pub late_search_reports : (v : Float → Tried) → ((x : Float) → IfErr (v x) Early) → (limit : ℕ) (b : Interval) → LateReports (search_of v limit b) (length (trials_of v limit b))
late_search_reports v early limit b = late_reports _ _ (search_row v early limit b)
