-- Document 01's table of refusals, and that of the requests: the number of each cause, and the value beside it.
use Rattle.std.specs.Prelude.{ℕ}
use Rattle.gerg_refusals.specs.declared.Fault.{Fault}
use Rattle.gerg_refusals.specs.declared.Fault.TheVariants as fault
use Rattle.gerg_refusals.specs.declared.Refusal.{Refusal}
use Rattle.gerg_refusals.specs.declared.Refusal.TheVariants as refusal

-- row 2's value: "nonfinite bt, bv, gt, gv, f (1 to 5); .. Tc nonfinite or mass not finite and positive (6), bt or bv not positive (7); .. mNumb .. 0 or above the functions (8)"
abbrev pub cause_of : Fault → ℕ
cause_of fault.Btij = 1
cause_of fault.Bvij = 2
cause_of fault.Gtij = 3
cause_of fault.Gvij = 4
cause_of fault.Fij = 5
cause_of fault.Critical = 6
cause_of fault.NotPositive = 7
cause_of fault.Departure = 8

abbrev pub number_of : Refusal → ℕ
-- "file: record cut, missing, out of turn, with a count over its limit, wrong revision, bytes over"; "table", of which `cause_of` tells more; "component list empty, over 21, number unknown or repeated"; "fractions: length differs .., then nonfinite or negative .., then bad sum"
number_of (refusal.File offset) = 1
number_of (refusal.Tables f) = 2
number_of (refusal.Components place) = 3
number_of (refusal.Fractions place) = 4
-- "reducing values not finite and positive, or gradient nonfinite"; "density nonfinite"; "density ≤ 0"; "T not in 200..450 or density not in 1e-3..30000, ends allowed"
number_of refusal.Reducing = 5
number_of refusal.DensityNotFinite = 6
number_of refusal.DensityNotPositive = 7
number_of refusal.OutsideRange = 8
-- "a derivative nonfinite"; "stiffness or cv ≤ 0"; "pressure not in (0, 35e6]"; "cp, internal or Helmholtz energy, speed of sound, stiffness or dp/dT of a state, a fugacity coefficient, or a density trial's pressure or stiffness nonfinite"
number_of refusal.Derivative = 9
number_of refusal.Unstable = 10
number_of refusal.Pressure = 11
number_of refusal.NotFinite = 12
-- "bracket, limit or tolerance (as the Rust's first test)"; "target nonfinite, ≤ 0 or > 35e6"; "trial stiffness ≤ 0"; "target not bracketed"; "final pressure check"; "collapsed"; "limit reached"
number_of refusal.Options = 13
number_of refusal.Target = 14
number_of refusal.TrialUnstable = 15
number_of refusal.NotBracketed = 16
number_of refusal.PressureCheck = 17
number_of (refusal.Collapsed trials) = 18
number_of (refusal.LimitReached trials) = 19
-- "listed component not 1 to 5"; "T not in 230..350 or p not in 1e5..1e7"; "root not converged"; "no exterior root"
number_of refusal.BeyondFive = 20
number_of refusal.OutsideEnvelope = 21
number_of refusal.RootNotConverged = 22
number_of refusal.NoRoot = 23
-- "lent answer too short"; "saturation: not one positive fraction, or ends nonfinite or not rising"; "saturation: limit made, or the middle falls on an end, none accepted"
number_of (refusal.TooShort needed) = 24
number_of refusal.NotPure = 25
number_of (refusal.SaturationNotConverged trials) = 26
-- of the requests: "a zero seed"; "a wrong kind, a cut record or a digit above 9"; "parts not totalling 1,000,000"
number_of refusal.ZeroSeed = 27
number_of (refusal.Record offset) = 28
number_of refusal.Total = 29

-- "The value is 0 unless given"
abbrev pub value_of : Refusal → ℕ
value_of (refusal.File offset) = offset
value_of (refusal.Tables f) = cause_of f
value_of (refusal.Components place) = place
value_of (refusal.Fractions place) = place
value_of (refusal.Collapsed trials) = trials
value_of (refusal.LimitReached trials) = trials
value_of (refusal.TooShort needed) = needed
value_of (refusal.SaturationNotConverged trials) = trials
value_of (refusal.Record offset) = offset
value_of _ = 0
