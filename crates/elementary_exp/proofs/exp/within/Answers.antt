-- `elementary_exp::exp::within` meets its contract: the count of steps is a number, and in the range that the power of two asks for.
use Rattle.std.proofs.Common.{arith}
use Rattle.elementary_exp.specs.Exp.{counted_of, steps_of, within_of}
use Rattle.elementary_exp.proofs.ExpConstants.{powers}
use Rattle.elementary_exp.proofs.ExpSteps.{counted_number, steps_reach}
use Rattle.elementary_exp.proofs.exp.within.Goals as goal

pub float_to_bits-u : goal.float_to_bits-u
unfolding counted_of
float_to_bits-u c = counted_number c.args.x c.requires

pub scaled_entry-t-requires : goal.scaled_entry-t-requires
unfolding counted_of steps_of
scaled_entry-t-requires c =
    let t = steps_reach c.args.x c.requires in
    let p = powers (steps_of (counted_of c.args.x)) t.some t.few in
    record { j_bound = omega arith; lt_n = omega arith; n_bound = omega arith }

pub returns : goal.returns
unfolding within_of counted_of steps_of
returns c = cc
