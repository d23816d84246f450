-- The ends of a search that tries a temperature between them: two doubles between 230 and 350 K that rise. Assumes nothing.
use mathlib.Core.Path.{◌≡◌, refl, sym, ap, ◌∙◌, subst}
use mathlib.Core.Bool.{Bool, true, false}
use mathlib.Core.List.{List}
use Prim.Native.Nat.{ℕ, ◌*◌, ◌^◌, ◌≤◌}
use native.Mathlib.Nat.{mul-one}
use lib.IntN.{pos}
use lib.Dec.{T}
use lib.Ieee.{Float, fin, binary64, fits, of_bits, le}
use lib.Ieee.Bits.{of_bits-fits}
use lib.Ieee.Positive.{positive, between}
use Rattle.std.specs.Prelude.{Err}
use Rattle.numerics.specs.Double.{bits, pick}
use Rattle.numerics.specs.Spacing.{unit, count, counted, Good, lt→count, le→count}
use Rattle.gerg_tables.specs.declared.Tables.{Tables}
use Rattle.gerg_reducing.specs.declared.GergModel.{GergModel}
use Rattle.gerg.specs.declared.Range.{Range}
use Rattle.gerg_refusals.specs.declared.Refusal.{Refusal}
use Rattle.gerg_refusals.specs.declared.Refusal.TheVariants as refusal
use Rattle.gerg_root_list.specs.RootList.{beyond_five, within_envelope}
use Rattle.gerg_flash.specs.Roots.{searched_of}
use Rattle.gerg_root_list.proofs.Laws.Envelope.{envelope_low, envelope_high}
use Rattle.gerg_saturation.specs.Checks.{positive_place, refused_by}
use Rattle.gerg_saturation.specs.Answer.{Sample}
use Rattle.gerg_saturation.specs.Coexistence.{tried_of}
use Rattle.gerg_ph.specs.Sampling.{roots_sample, sample_of}
use Rattle.gerg_saturation.specs.Halvings.{encloses}
use Rattle.gerg_ph.specs.Saturation.{verdict_at}
use Rattle.gerg_saturation.proofs.Laws.Halved.{Within}
use Rattle.gerg_saturation.proofs.Laws.Verdicts.{is_apart, enclosing, rising, refused_tried}

-- a temperature that is not refused has passed row 21
inside_envelope : (t : Tables) (m : GergModel) (gradients : List (List Float)) (range : Range) (pressure x : Float) → is_apart (verdict_at t m gradients range pressure x) ≡ true → within_envelope x pressure ≡ true
unfolding verdict_at sample_of
inside_envelope t m gradients range pressure x = go (beyond_five m) (within_envelope x pressure) (roots_sample m.reducing_density (positive_place m) x pressure (searched_of t m gradients range x pressure))
  where
    refused : (r : Refusal) (b : Bool) → is_apart (tried_of (Err r)) ≡ true → b ≡ true
    refused r b e = let f : is_apart (tried_of (Err r)) ≡ false = ap is_apart (refused_tried r) in cc

    go : (a b : Bool) (s : Sample) → is_apart (tried_of (pick a (Err refusal.BeyondFive) (pick b s (Err refusal.OutsideEnvelope)))) ≡ true → b ≡ true
    go true b s e = refused refusal.BeyondFive b e
    go false true s e = refl
    go false false s e = refused refusal.OutsideEnvelope false e

-- ---- 230 and 350 K
low_is : bits 0x406c_c000_0000_0000 ≡ fin false 115 (pos 1)
unfolding of_bits
low_is = refl

high_is : bits 0x4075_e000_0000_0000 ≡ fin false 175 (pos 1)
unfolding of_bits
high_is = refl

good : (n m : ℕ) → bits n ≡ fin false m (pos 1) → T (positive (fin false m (pos 1))) → Good (bits n)
good n m e p = record { above = subst (λ (z : Float). T (positive z)) (sym e) p; held = of_bits-fits binary64 n }

count_is : (n m : ℕ) → bits n ≡ fin false m (pos 1) → T (positive (fin false m (pos 1))) → count (bits n) ≡ m * 2 ^ 1 * unit
count_is n m e p =
    let f = subst (λ (z : Float). T (fits binary64 z)) e (of_bits-fits binary64 n) in
    ap count e ∙ sym (counted (fin false m (pos 1)) p f ∙ mul-one (count (fin false m (pos 1))))

-- a double that has passed row 21
module _ (x pressure : Float) (f : T (fits binary64 x)) (e : within_envelope x pressure ≡ true) where
  over : T (le (bits 0x406c_c000_0000_0000) x)
  over = envelope_low x pressure e

  under : T (le x (bits 0x4075_e000_0000_0000))
  under = envelope_high x pressure e

  low_good : Good (bits 0x406c_c000_0000_0000)
  low_good = good 0x406c_c000_0000_0000 115 low_is tt

  high_good : Good (bits 0x4075_e000_0000_0000)
  high_good = good 0x4075_e000_0000_0000 175 high_is tt

  is_good : Good x
  is_good = record { above = between (bits 0x406c_c000_0000_0000) x (bits 0x4075_e000_0000_0000) low_good.above high_good.above over under; held = f }

  at_least : 230 * unit ≤ count x
  at_least = subst (λ (z : ℕ). z ≤ count x) (count_is 0x406c_c000_0000_0000 115 low_is tt) (le→count (bits 0x406c_c000_0000_0000) x low_good is_good over)

  at_most : count x ≤ 350 * unit
  at_most = subst (λ (z : ℕ). count x ≤ z) (count_is 0x4075_e000_0000_0000 175 high_is tt) (le→count x (bits 0x4075_e000_0000_0000) is_good high_good under)

-- ---- rows 25 and 21 leave an interval between 230 and 350 K
pub ends_within :
    (t : Tables) (m : GergModel) (gradients : List (List Float)) (range : Range) (pressure lo hi : Float) (n : ℕ) →
    T (fits binary64 lo) → T (fits binary64 hi) → refused_by n lo hi ≡ false →
    encloses (verdict_at t m gradients range pressure lo) (verdict_at t m gradients range pressure hi) ≡ true →
    Within lo hi
ends_within t m gradients range pressure lo hi n f g p q =
    let e = enclosing (verdict_at t m gradients range pressure lo) (verdict_at t m gradients range pressure hi) q in
    let a : within_envelope lo pressure ≡ true = inside_envelope t m gradients range pressure lo e.0 in
    let b : within_envelope hi pressure ≡ true = inside_envelope t m gradients range pressure hi e.1 in
    let low = is_good lo pressure f a in
    let high = is_good hi pressure g b in
    record {
      low = low;
      high = high;
      rises = lt→count lo hi low high (rising n lo hi p);
      least = at_least lo pressure f a;
      most = at_most hi pressure g b;
    }
