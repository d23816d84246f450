-- What `any` finds among the components from one on, and a search for the first fault that goes on. Assumes nothing.
use denote.Param.Members.{Mut}
use mathlib.Core.Bool.{Bool, true, false, not, ◌&&◌, ◌||◌}
use mathlib.Core.Path.{◌≡◌, refl, sym, ap, ◌∙◌}
use Prim.Native.Nat.{ℕ, zero, suc, ◌+◌, ◌-◌, ◌≤◌, ◌<◌}
use native.Mathlib.Omega.{arith}
use Rattle.std.proofs.Common.{Result, Ok, Err}
use Rattle.std.proofs.iter.Yields.{nat_range_steps}
use Rattle.std.proofs.lemmas.Iterator.{YieldsList-from_range}
use Rattle.std.proofs.lemmas.Iterator.Search.{any_from_yields_List}
use Rattle.std.specs.Fn.{Called}
use Rattle.std.specs.Iterator.{ChecksAny}
use Rattle.std.specs.List.{list_any, range_with_len}
use Rattle.std.specs.declared.ops.Range.{Range}
use Rattle.gerg_refusals.specs.declared.Fault.{Fault}
use Rattle.gerg_tables.specs.Check.{some, some_from, fault_if, first_of, first}

any_some : (f : ℕ → Bool) (n a : ℕ) → list_any f (range_with_len a n) ≡ some f n a
unfolding some
any_some f zero a = refl
any_some f (suc n) a = ap (λ (b : Bool). f a || b) (any_some f n (a + 1))

-- `(a..21).any(f)`, where f computes a test
pub any_from : {F : Type 0} {g : Mut F (ℕ × Unit {0}) Bool} (test : ℕ → Bool) (a : ℕ) {u : Range ℕ} {f : F} {r : Bool} →
    ChecksAny nat_range_steps g (record { start = a; end = 21 }) f r u →
    ((x : ℕ) (b : Bool) (q : F) → Called g f (x, tt) b q → (q ≡ f) × (b ≡ test x)) → r ≡ some_from test a
any_from test a {u} {f} {r} ran computes = any_from_yields_List test u f r ran (YieldsList-from_range a 21 _ refl refl) computes ∙ any_some test (21 - a) a

-- the first fault: from number i on, what is left gives what the whole gives
module _ (f : ℕ → Result (Unit {0}) Fault) (n i : ℕ) {v : Result (Unit {0}) Fault} (r : v ≡ first f (n - i) i) where
  tried : i < n → v ≡ first_of (f i) (first f (n - (i + 1)) (i + 1))
  unfolding first
  tried h = r ∙ ap (λ (m : ℕ). first f m i) (let g : n - i ≡ suc (n - (i + 1)) = omega arith in g)

  pub fault_found : {e : Fault} → i < n → f i ≡ Err e → v ≡ Err e
  fault_found h e = tried h ∙ rw e

  pub no_fault_yet : {u : Unit {0}} → i < n → f i ≡ Ok u → v ≡ first f (n - (i + 1)) (i + 1)
  no_fault_yet h e = tried h ∙ rw e

  pub no_fault : n ≤ i → v ≡ Ok tt
  unfolding first
  no_fault h = r ∙ ap (λ (m : ℕ). first f m i) (let g : n - i ≡ 0 = omega arith in g)

-- a test of two parts that a call has made
pub first_holds : {a : Bool} (b : Bool) → a ≡ true → not b ≡ not (a && b)
first_holds b e = ap (λ (a : Bool). not (a && b)) (sym e)

pub first_fails : {a : Bool} (b : Bool) → a ≡ false → true ≡ not (a && b)
first_fails b e = ap (λ (a : Bool). not (a && b)) (sym e)

-- a fault by its name, where a test holds
pub numbered_fault : {b t : Bool} (fault : Fault) → b ≡ t → b ≡ true → Err fault ≡ fault_if t fault
numbered_fault fault e q = ap (λ (b : Bool). fault_if b fault) (sym q ∙ e)

pub no_numbered_fault : {b t : Bool} (fault : Fault) → b ≡ t → b ≡ false → Ok tt ≡ fault_if t fault
no_numbered_fault fault e q = ap (λ (b : Bool). fault_if b fault) (sym q ∙ e)
