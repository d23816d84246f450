-- What holds of its own rows and of the refusals below holds of a refusal of the roots that are kept, and of the answer's. Assumes nothing.
use mathlib.Core.Bool.{Bool, true, false, ◌&&◌}
use mathlib.Core.List.{List, []}
use Prim.Native.Nat.{ℕ}
use lib.Dec.{eqb, ltb}
use lib.Ieee.{Float, lt}
use lib.ListN.{length, get_or}
use Rattle.std.specs.Prelude.{Result, Ok, Err, IfErr}
use Rattle.numerics.specs.Double.{pick}
use Rattle.gerg_refusals.specs.declared.Refusal.{Refusal}
use Rattle.gerg_refusals.specs.declared.Refusal.TheVariants as refusal
use Rattle.gerg_reducing.specs.declared.GergModel.{GergModel}
use Rattle.gerg_scan_steps.proofs.Laws.Answers.{steps_keep}
use Rattle.gerg_scan_steps.specs.declared.Point.{Point}
use Rattle.gerg_scan_steps.specs.declared.Scanned.{Scanned}
use Rattle.gerg_root_list.specs.RootList as is
use Rattle.gerg_root_list.specs.declared.Root.{Root}

-- ---- the roots that are kept: row 22 besides
module _ (Q : Refusal → Type 0) (row-22 : Q refusal.RootNotConverged) (root : Float → is.Outcome) (each : (x : Float) → IfErr (root x) Q) where
  joined_refusal : (o : is.Outcome) (k : List Root) → IfErr o Q → IfErr (is.joined_by o k) Q
  unfolding is.joined_by
  joined_refusal (Ok g) k p = tt
  joined_refusal (Err r) k p = p

  kept_step_refusal : (target first last : Float) (p : Point) (k : List Root) → IfErr (is.keep_step root target first last p k) Q
  unfolding is.keep_step
  kept_step_refusal target first last p k = go (lt first p.density && lt p.density last) (lt (is.limit_of target) p.residual)
    where
      go : (a b : Bool) → IfErr (pick a (Ok k) (pick b (Err refusal.RootNotConverged) (is.joined_by (root p.density) k))) Q
      go true b = tt
      go false true = row-22
      go false false = joined_refusal (root p.density) k (each p.density)

  kept_refusal : (target : Float) (s : Scanned) → IfErr (is.kept_of root target s) Q
  unfolding is.kept_of
  kept_refusal target s =
      steps_keep (λ i k. Unit {0}) Q (λ i. is.keep_step root target s.scan.first_negative s.scan.last_negative (get_or s.roots.items i is.no_point)) (length s.roots.items) (Ok []) tt
      (λ i k l p. kept_step_refusal target s.scan.first_negative s.scan.last_negative (get_or s.roots.items i is.no_point) k)

  pub found_refusal : (target : Float) (s : Result Scanned Refusal) → IfErr s Q → IfErr (is.found_of root target s) Q
  unfolding is.found_of
  found_refusal target (Ok s) p = kept_refusal target s
  found_refusal target (Err r) p = p

-- ---- and the answer: rows 23 and 24 besides
pub answer_refusal : (Q : Refusal → Type 0) → Q refusal.NoRoot → (m : GergModel) (lent : ℕ) (k : is.Kept) → Q (refusal.TooShort (is.needed m (is.roots_in k))) → IfErr k Q → IfErr (is.answer_of m lent k) Q
unfolding is.answer_of
answer_refusal Q row-23 m lent (Ok k) row-24 p = go (eqb (length k) 0) (ltb lent (is.needed m k))
  where
    go : (a b : Bool) → IfErr (pick a (Err refusal.NoRoot) (pick b (Err (refusal.TooShort (is.needed m k))) (Ok (length k)))) Q
    go true b = row-23
    go false true = row-24
    go false false = tt
answer_refusal Q row-23 m lent (Err r) row-24 p = p
