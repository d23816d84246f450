-- The invariant of the loop over a search's steps: what is left to do from here ends where the whole search ends. Assumes nothing.
use mathlib.Core.Path.{◌≡◌, refl, sym, ap, ◌∙◌, subst}
use mathlib.Core.Bool.{Bool, not}
use Prim.Native.Nat.{ℕ, suc, ◌+◌, ◌-◌, ◌≤◌, ◌<◌}
use native.Mathlib.Omega.{arith}
use lib.Dec.{T, nleb→lt}
use lib.Ieee.{Float}
use lib.ListN.{length}
use Rattle.gerg_search.specs.Stop.{refusal_of}
use Rattle.gerg_search.specs.Steps.{begin_of, stage_of, step_of, moved_by, moved_of}
use Rattle.gerg_search.specs.Run.{on_try, last_from, searched, last_of, answer_of, reported}
use Rattle.gerg_search.proofs.Laws.Verdicts.{Fair}
use Rattle.gerg_search.specs.declared.Options.{Options}
use Rattle.gerg_search.specs.Sample.{Sample}
use Rattle.gerg_search.specs.declared.Stage.{Stage}
use Rattle.gerg_search.specs.declared.Stage.TheVariants.{Low, High, Interior}
use Rattle.gerg_search.specs.declared.Search.{Search}
use Rattle.gerg_search.specs.declared.Step.{Step}
use Rattle.gerg_search.specs.declared.Step.TheVariants.{Try, Accepted, Refused}
use Rattle.gerg_search.proofs.Laws.Inner.{interior_try}
use Rattle.gerg_search.proofs.Laws.Start.{Begun}
use Rattle.gerg_search.proofs.Laws.Whole.{whole}
use Rattle.std.specs.Prelude.{Ok, Err}
use Rattle.gerg_search.specs.declared.Stop.{Stop}

-- the most steps that follow the present one
abbrev steps_left_at : ℕ → ℕ → Stage → ℕ
steps_left_at limit trials Low = suc limit
steps_left_at limit trials High = limit
steps_left_at limit trials Interior = limit - trials

abbrev pub steps_left : Options → Search → ℕ
steps_left o s = steps_left_at o.limit s.trials s.stage

-- no trial is made before the first interior density
abbrev Fresh : ℕ → Stage → Type 0
Fresh trials Low = trials ≡ 0
Fresh trials High = trials ≡ 0
Fresh trials Interior = Unit {0}

pub record Ahead (o : Options) (v : Float → Sample) (s : Search) : Type 0 where
  pub fresh : Fresh s.trials s.stage
  pub last : last_from o v (suc (steps_left o s)) s ≡ last_of o v

pub begins : (o : Options) (v : Float → Sample) → Ahead o v (begin_of o)
unfolding begin_of last_of
begins o v = record { fresh = refl; last = refl }

-- ---- a step that goes on: there is room for one more trial, and one step less is left
pub record On (o : Options) (v : Float → Sample) (s : Search) (x : Float) : Type 0 where
  pub room : s.trials < o.limit
  pub less : steps_left o s ≡ suc (steps_left o (moved_of s (v s.density) x))
  pub ahead : Ahead o v (moved_of s (v s.density) x)

goes_by : (o : Options) (v : Float → Sample) (s : Search) (x : Float) (g : Stage) (y : Sample) → 1 ≤ o.limit → s.stage ≡ g → v s.density ≡ y → Fresh s.trials g → step_of o s y ≡ Try x
    → (s.trials < o.limit) × (steps_left_at o.limit s.trials g ≡ suc (steps_left o (moved_of s y x))) × Fresh (moved_of s y x).trials (moved_of s y x).stage
unfolding step_of stage_of moved_of moved_by
goes_by o v s x g (Err n) h e p z q = cc
goes_by o v s x Low (Ok (f, d)) h e p z q =
    subst (λ (w : Search). (s.trials < o.limit) × (steps_left_at o.limit s.trials Low ≡ suc (steps_left o w)) × Fresh w.trials w.stage) (sym (ap (moved_by s f x) e)) (fresh s.trials o.limit z h, refl, z)
  where
    fresh : (t l : ℕ) → t ≡ 0 → 1 ≤ l → t < l
    fresh t l z h = omega arith
goes_by o v s x High (Ok (f, d)) h e p z q =
    subst (λ (w : Search). (s.trials < o.limit) × (steps_left_at o.limit s.trials High ≡ suc (steps_left o w)) × Fresh w.trials w.stage) (sym (ap (moved_by s f x) e)) (fresh s.trials o.limit z h, one s.trials o.limit z h, tt)
  where
    fresh : (t l : ℕ) → t ≡ 0 → 1 ≤ l → t < l
    fresh t l z h = omega arith

    one : (t l : ℕ) → t ≡ 0 → 1 ≤ l → l ≡ suc (l - (t + 1))
    one t l z h = omega arith
goes_by o v s x Interior (Ok (f, d)) h e p z q =
    let g = interior_try o s f d x (sym (ap (stage_of o s f d) e) ∙ q) in
    let k : s.trials < o.limit = nleb→lt o.limit s.trials (subst (λ (z : Bool). T (not z)) (sym g.more) tt) in
    subst (λ (w : Search). (s.trials < o.limit) × (steps_left_at o.limit s.trials Interior ≡ suc (steps_left o w)) × Fresh w.trials w.stage) (sym (ap (moved_by s f x) e)) (k, more s.trials o.limit k, tt)
  where
    more : (t l : ℕ) → t < l → l - t ≡ suc (l - (t + 1))
    more t l h = omega arith

pub goes_on : (o : Options) (v : Float → Sample) (s : Search) (x : Float) → 1 ≤ o.limit → Ahead o v s → step_of o s (v s.density) ≡ Try x → On o v s x
unfolding last_from
goes_on o v s x h a q =
    let r = goes_by o v s x s.stage (v s.density) h refl refl a.fresh q in
    let m = moved_of s (v s.density) x in
    let e : last_from o v (suc (steps_left o s)) s ≡ last_from o v (steps_left o s) m = ap (λ (z : Step). on_try z (λ y. last_from o v (steps_left o s) (moved_of s (v s.density) y)) s) q in
    record {
      room = r.0;
      less = r.1;
      ahead = record { fresh = r.2; last = ap (λ (n : ℕ). last_from o v n m) (sym r.1) ∙ sym e ∙ a.last };
    }

-- ---- a step that ends the search: the state is the last one
pub is_last : (o : Options) (v : Float → Sample) (s : Search) → Ahead o v s → ((x : Float) → step_of o s (v s.density) ≡ Try x → ⊥) → s ≡ last_of o v
unfolding last_from
is_last o v s a n = go (step_of o s (v s.density)) refl
  where
    go : (z : Step) → step_of o s (v s.density) ≡ z → s ≡ last_of o v
    go (Try x) q = absurd (n x q)
    go (Accepted x) q = sym (ap (λ (z : Step). on_try z (λ y. last_from o v (steps_left o s) (moved_of s (v s.density) y)) s) q) ∙ a.last
    go (Refused k) q = sym (ap (λ (z : Step). on_try z (λ y. last_from o v (steps_left o s) (moved_of s (v s.density) y)) s) q) ∙ a.last

-- ---- what the loop returns is what the definition reports
module _ (o : Options) (v : Float → Sample) (b : Begun o) (fair : Fair v) (s : Search) (a : Ahead o v s) where
  reports : (z : Step) → step_of o s (v s.density) ≡ z → ((x : Float) → z ≡ Try x → ⊥) → reported z s.trials s.bracket ≡ reported (answer_of o v) (length (searched o v)) (last_of o v).bracket
  unfolding answer_of
  reports z q n =
      let e : s ≡ last_of o v = is_last o v s a (λ x p. n x (sym q ∙ p)) in
      ap (λ (y : Step). reported y s.trials s.bracket) (sym q)
      ∙ ap (λ (w : Search). reported (step_of o w (v w.density)) w.trials w.bracket) e
      ∙ ap (λ (k : ℕ). reported (step_of o (last_of o v) (v (last_of o v).density)) k (last_of o v).bracket) (whole o v b fair).known.counts

  pub accepts : {x : Float} → step_of o s (v s.density) ≡ Accepted x → Ok (record { density = x; trials = s.trials; bracket = s.bracket }) ≡ reported (answer_of o v) (length (searched o v)) (last_of o v).bracket
  unfolding reported
  accepts {x} q = reports (Accepted x) q (λ y p. cc)

  pub refuses : {c : Stop} → step_of o s (v s.density) ≡ Refused c → Err (refusal_of c s.trials) ≡ reported (answer_of o v) (length (searched o v)) (last_of o v).bracket
  unfolding reported
  refuses {c} q = reports (Refused c) q (λ y p. cc)
