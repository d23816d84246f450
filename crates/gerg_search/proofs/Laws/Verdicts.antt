-- What the laws of a search speak of, v being any verdicts: fair ones, and what was found at a density that was tried. Assumes nothing.
use mathlib.Core.Path.{◌≡◌}
use mathlib.Core.Logic.{◌⊎◌}
use mathlib.Core.Bool.{Bool, true, false}
use mathlib.Core.List.{List, Memᴰ}
use Prim.Native.Nat.{◌<◌}
use lib.Dec.{T}
use lib.Ieee.{Float, binary64, fits, is_nan, lt}
use lib.ListN.{length}
use Rattle.numerics.specs.Double.{+0}
use Rattle.gerg_search.specs.Point.{within_of}
use Rattle.gerg_search.specs.States.{NoneBetween, left_by}
use Rattle.gerg_search.specs.declared.Options.{Options}
use Rattle.gerg_search.specs.declared.Search.{Search}
use Rattle.gerg_search.specs.declared.Stage.TheVariants.{Interior}
use Rattle.gerg_refusals.specs.Refusal.{number_of}
use Rattle.gerg_search.specs.Sample.{Sample}
use Rattle.std.specs.Prelude.{Ok, Err}
use Rattle.gerg_refusals.specs.declared.Refusal.{Refusal}

-- a trial refuses by a row before 16 (8, 9, 12 or 15), and a residual that it gives is a number
pub record Fair (v : Float → Sample) : Type 0 where
  pub number : (x f d : Float) → v x ≡ Ok (f, d) → is_nan f ≡ false
  pub before : (x : Float) (r : Refusal) → v x ≡ Err r → number_of r < 16

-- at x the residual is outside the tolerance; it is below zero where `side` is true
pub record Outside (o : Options) (v : Float → Sample) (side : Bool) (x : Float) : Type 0 where
  pub f : Float
  pub derivative : Float
  pub is : v x ≡ Ok (f, derivative)
  pub outside : within_of o.tolerance f ≡ false
  pub sign : lt f +0 ≡ side

-- x is an end or in the list
abbrev pub Seen : Options → List Float → Float → Type 0
Seen o l x = (x ≡ o.bracket.lo) ⊎ (x ≡ o.bracket.hi) ⊎ Memᴰ x l

-- row 18: two neighbouring doubles, both seen, neither within the tolerance, the residual of one below zero and of the other above
pub record Neighbours (o : Options) (v : Float → Sample) (l : List Float) : Type 0 where
  pub low : Float
  pub high : Float
  pub low_double : T (fits binary64 low)
  pub high_double : T (fits binary64 high)
  pub order : T (lt low high)
  pub none : NoneBetween low high
  pub low_seen : Seen o l low
  pub high_seen : Seen o l high
  pub below : Outside o v true low
  pub above : Outside o v false high
  pub over : T (lt +0 above.f)

-- row 19: as many trials as the limit, and a double still between the ends as the last trial leaves them; s is the state of that trial
pub record Full (o : Options) (v : Float → Sample) (s : Search) (l : List Float) : Type 0 where
  pub trials : length l ≡ o.limit
  pub interior : s.stage ≡ Interior
  pub f : Float
  pub derivative : Float
  pub is : v s.density ≡ Ok (f, derivative)
  pub outside : within_of o.tolerance f ≡ false
  pub between : Float
  pub held : T (fits binary64 between)
  pub over : T (lt (left_by s f).lo between)
  pub under : T (lt between (left_by s f).hi)
