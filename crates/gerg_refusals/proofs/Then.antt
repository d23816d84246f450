-- What holds of a refusal, and of what follows where nothing is refused, holds of both in a row. Assumes nothing.
use mathlib.Core.Path.{◌≡◌, refl, ap}
use Rattle.std.specs.Prelude.{Result, Ok, Err}
use Rattle.gerg_refusals.specs.Answer.{number_of, and_then, memory_of}
use Rattle.gerg_refusals.specs.declared.Refusal.{Refusal}
use Rattle.gerg_refusals.proofs.Told.{never_0}

-- `out` stands where x refuses, `after` where it does not
pub through :
    {A B C : Type 0} (P : Result B Refusal → C → Type 0) (x : Result A Refusal) (later : A → Result B Refusal) (out : C) (after : A → C) →
    ((r : Refusal) → x ≡ Err r → P (Err r) out) → ((a : A) → x ≡ Ok a → P (later a) (after a)) → P (and_then x later) (memory_of x out after)
through P (Ok a) later out after f g = g a refl
through P (Err r) later out after f g = f r refl

pub then_holds :
    {A B : Type 0} (P : Result B Refusal → Type 0) (x : Result A Refusal) (later : A → Result B Refusal) →
    ((r : Refusal) → x ≡ Err r → P (Err r)) → ((a : A) → x ≡ Ok a → P (later a)) → P (and_then x later)
then_holds P (Ok a) later f g = g a refl
then_holds P (Err r) later f g = f r refl

pub then_ok : {A B : Type 0} (x : Result A Refusal) (later : A → Result B Refusal) (a : A) → x ≡ Ok a → and_then x later ≡ later a
then_ok x later a e = ap (λ (y : Result _ Refusal). and_then y later) e

pub then_err : {A B : Type 0} (x : Result A Refusal) (later : A → Result B Refusal) (r : Refusal) → x ≡ Err r → and_then x later ≡ Err r
then_err x later r e = ap (λ (y : Result _ Refusal). and_then y later) e

pub memory_ok : {A C : Type 0} (x : Result A Refusal) (out : C) (later : A → C) (a : A) → x ≡ Ok a → memory_of x out later ≡ later a
memory_ok x out later a e = ap (λ (y : Result _ Refusal). memory_of y out later) e

pub memory_err : {A C : Type 0} (x : Result A Refusal) (out : C) (later : A → C) (r : Refusal) → x ≡ Err r → memory_of x out later ≡ out
memory_err x out later r e = ap (λ (y : Result _ Refusal). memory_of y out later) e

-- number 0 is no refusal's
pub accepted : {A : Type 0} (x : Result A Refusal) → number_of x ≡ 0 → (a : A) × (x ≡ Ok a)
accepted (Ok a) e = (a, refl)
accepted (Err r) e = absurd (never_0 r e)
