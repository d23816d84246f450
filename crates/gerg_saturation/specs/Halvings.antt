-- The halvings of an interval of temperatures, their trials, and the answer. `v` gives the verdict at each temperature.
use Rattle.std.specs.Prelude.{Bool, false, not, ◌&&◌, ◌||◌, List, [], ◌∷◌, ℕ, zero, suc, Float, Some, None, Ok, Err, length}
use Rattle.std.specs.Float.Ieee.{lt}
use Rattle.numerics.specs.Double.{+0, pick}
use Rattle.interval.specs.Interval.{middle_of, narrowed_of, on_end}
use Rattle.gerg_refusals.specs.declared.Refusal.TheVariants as refusal
use Rattle.gerg_saturation.specs.Answer.{Tried, Answer}
use Rattle.gerg_saturation.specs.declared.PureSaturation.{PureSaturation}
use Rattle.interval.specs.declared.Interval.{Interval}
use Rattle.gerg_saturation.specs.declared.Verdict.TheVariants.{Accepted, Apart}

-- "strictly between the two ends that stand before it"
unfoldable pub between_of : Interval → Float → Bool
between_of b x = lt b.lo x && lt x b.hi

-- what follows a middle that is neither accepted nor refused and no end; else what stands where the halvings end
unfoldable pub onward : {A : Type 0} → Interval → Float → Tried → (Interval → A) → A → A
onward b x (Ok (Apart difference)) go end = pick (on_end b x) end (go (narrowed_of b x difference))
onward b x (Ok (Accepted s)) go end = end
onward b x (Err r) go end = end

-- "A saturation trial is a point tried strictly between the two ends that stand before it; the trials are the list of these, .. one that ends it with a refusal included": of the interval b, n halvings at most
unfoldable pub trials_from : (Float → Tried) → ℕ → Interval → List Float
trials_from v zero b = []
trials_from v (suc n) b =
    let rest = onward b (middle_of b) (v (middle_of b)) (λ c. trials_from v n c) [] in
    pick (between_of b (middle_of b)) (middle_of b ∷ rest) rest

-- a saturation with the number of its iteration
unfoldable pub numbered : ℕ → PureSaturation → PureSaturation
numbered k s = record {
  temperature_k = s.temperature_k;
  pressure_pa = s.pressure_pa;
  liquid_compressibility = s.liquid_compressibility;
  vapor_compressibility = s.vapor_compressibility;
  liquid_molar_volume = s.liquid_molar_volume;
  vapor_molar_volume = s.vapor_molar_volume;
  ln_fugacity_coefficient = s.ln_fugacity_coefficient;
  fugacity_residual = s.fugacity_residual;
  iterations = k;
}

-- what the middle of iteration k answers, or the rest
unfoldable pub answered_of : ℕ → Tried → Answer → Answer
answered_of k (Ok (Accepted s)) rest = Ok (Some (numbered k s))
answered_of k (Ok (Apart difference)) rest = rest
answered_of k (Err r) rest = Err r

-- "limit made, or the middle falls on an end, none accepted": 26. k halvings are made and n are left; `trials` is what row 26 returns
unfoldable pub halvings_from : (Float → Tried) → ℕ → ℕ → ℕ → Interval → Answer
halvings_from v trials zero k b = Err (refusal.SaturationNotConverged trials)
halvings_from v trials (suc n) k b = answered_of (suc k) (v (middle_of b)) (onward b (middle_of b) (v (middle_of b)) (λ c. halvings_from v trials n (suc k) c) (Err (refusal.SaturationNotConverged trials)))

-- "the value of row 26 is the list's length"
unfoldable pub halvings_of : (Float → Tried) → ℕ → Interval → Answer
halvings_of v limit b = halvings_from v (length (trials_from v limit b)) limit 0 b

-- neither end is refused or accepted, and the difference changes its sign from the low end to the high one
unfoldable pub encloses : Tried → Tried → Bool
encloses (Ok (Apart left)) (Ok (Apart right)) = not (lt +0 left || lt right +0)
encloses (Ok (Apart left)) (Ok (Accepted s)) = false
encloses (Ok (Apart left)) (Err r) = false
encloses (Ok (Accepted s)) right = false
encloses (Err r) right = false

-- the ends: a refusal, the low end's first; an accepted end, the low one first; "not enclosed"; else the halvings
unfoldable pub ends_of : Tried → Tried → Answer → Answer
ends_of (Err r) right inner = Err r
ends_of (Ok (Accepted s)) (Err r) inner = Err r
ends_of (Ok (Accepted s)) (Ok (Accepted u)) inner = Ok (Some s)
ends_of (Ok (Accepted s)) (Ok (Apart right)) inner = Ok (Some s)
ends_of (Ok (Apart left)) (Err r) inner = Err r
ends_of (Ok (Apart left)) (Ok (Accepted u)) inner = Ok (Some u)
ends_of (Ok (Apart left)) (Ok (Apart right)) inner = pick (lt +0 left || lt right +0) (Ok None) inner

unfoldable pub search_of : (Float → Tried) → ℕ → Interval → Answer
search_of v limit b = ends_of (v b.lo) (v b.hi) (halvings_of v limit b)

-- the trials of a search: none where the halvings are not begun
unfoldable pub trials_of : (Float → Tried) → ℕ → Interval → List Float
trials_of v limit b = pick (encloses (v b.lo) (v b.hi)) (trials_from v limit b) []
