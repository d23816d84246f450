-- One turn of the loop over a search's steps, over plain values: y is the verdict at the state's density, z the step's answer. Assumes nothing.
use mathlib.Core.Path.{◌≡◌, sym, ap, ◌∙◌, subst}
use Prim.Native.Nat.{ℕ, suc, ◌+◌, ◌^◌, ◌<◌}
use native.Mathlib.Nat.{le_of_eq}
use native.Mathlib.Omega.{arith}
use lib.Ieee.{Float}
use Rattle.gerg_tables.specs.declared.Tables.{Tables}
use Rattle.gerg_reducing.specs.declared.GergModel.{GergModel}
use Rattle.gerg.specs.declared.Range.{Range}
use Rattle.gerg_search.specs.Stop.{refusal_of}
use Rattle.gerg_search.specs.Steps.{step_of, moved_of}
use Rattle.gerg_density.specs.Density.{verdict_of}
use Rattle.gerg_density.specs.Running.{Ready, run_of}
use Rattle.gerg_search.proofs.Laws.Verdicts.{Fair}
use Rattle.gerg_search.specs.declared.Options.{Options}
use Rattle.gerg_search.specs.Sample.{Sample}
use Rattle.gerg_search.specs.declared.Search.{Search}
use Rattle.gerg_search.specs.declared.Step.{Step}
use Rattle.gerg_search.specs.declared.Step.TheVariants.{Try, Accepted, Refused}
use Rattle.gerg_search.proofs.Laws.Ahead.{Ahead, On, steps_left, goes_on, accepts, refuses}
use Rattle.gerg_search.proofs.Laws.Start.{Begun, begun, target_positive, some_limit}
use Rattle.gerg_density.proofs.Laws.Verdict.{fair}
use Rattle.std.specs.Prelude.{Ok, Err}
use Rattle.gerg_search.specs.declared.Stop.{Stop}

module _ (t : Tables) (m : GergModel) (range : Range) (temperature target : Float) (o : Options) (r : Ready range.pressure_high target o) (s : Search) (a : Ahead o (verdict_of t m range temperature target) s) (y : Sample) (ey : y ≡ verdict_of t m range temperature target s.density) (z : Step) (ez : z ≡ step_of o s y) where
  start : Begun o
  start = begun o r.doubles r.bracketed

  is_fair : Fair (verdict_of t m range temperature target)
  is_fair = fair t m range temperature target (target_positive range.pressure_high target r.reachable)

  answers : {w : Step} → z ≡ w → step_of o s (verdict_of t m range temperature target s.density) ≡ w
  answers e = ap (step_of o s) (sym ey) ∙ sym ez ∙ e

  on : {x : Float} → z ≡ Try x → On o (verdict_of t m range temperature target) s x
  on {x} e = goes_on o (verdict_of t m range temperature target) s x (some_limit o start) a (answers e)

  moves : (x : Float) {w : Search} → w ≡ moved_of s y x → w ≡ moved_of s (verdict_of t m range temperature target s.density) x
  moves x e = e ∙ ap (λ (u : Sample). moved_of s u x) ey

  -- the count fits
  pub room : {x : Float} → z ≡ Try x → s.trials + 1 < 2 ^ 64
  room {x} e = below s.trials o.limit (on e).room r.fits
    where
      below : (n l : ℕ) → n < l → l < 2 ^ 64 → n + 1 < 2 ^ 64
      below n l h k = omega arith

  pub fewer : {x : Float} {w : Search} → z ≡ Try x → w ≡ moved_of s y x → steps_left o w < steps_left o s
  fewer {x} {w} e q = le_of_eq (ap (λ (u : Search). suc (steps_left o u)) (moves x q) ∙ sym (on e).less)

  pub again : {x : Float} {w : Search} → z ≡ Try x → w ≡ moved_of s y x → Ahead o (verdict_of t m range temperature target) w
  again {x} {w} e q = subst (λ (u : Search). Ahead o (verdict_of t m range temperature target) u) (sym (moves x q)) (on e).ahead

  pub found : {x : Float} → z ≡ Accepted x → Ok (record { density = x; trials = s.trials; bracket = s.bracket }) ≡ run_of t m range temperature target o
  unfolding run_of
  found e = accepts o (verdict_of t m range temperature target) start is_fair s a (answers e)

  pub failed : {c : Stop} → z ≡ Refused c → Err (refusal_of c s.trials) ≡ run_of t m range temperature target o
  unfolding run_of
  failed e = refuses o (verdict_of t m range temperature target) start is_fair s a (answers e)
