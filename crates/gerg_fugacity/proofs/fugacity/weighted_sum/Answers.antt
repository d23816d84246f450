use native.Mathlib.Omega.{arith}
use lib.Ieee.{nan}
use Rattle.std.proofs.lemmas.List.{length_push}
use Rattle.std.proofs.lemmas.Slice.Zip.{zip_turn, zip_end}
use Rattle.numerics.specs.Iterate.{iter_begins, iter_turn, iter_done}
use Rattle.gerg_fugacity.specs.Fugacity.{weighted_sum}
use Rattle.gerg_fugacity.proofs.fugacity.weighted_sum.Goals as goal

pub loop-fraction-init : goal.loop-fraction-init
loop-fraction-init c = iter_begins _ _

pub loop-fraction-preserved : goal.loop-fraction-preserved
loop-fraction-preserved c =
    let n = length_push c.loop-fraction.yielded (c.in-Some.fraction, c.in-Some.derivative) in
    let t = zip_turn c.args.x.now c.args.g.now c.loop-fraction.yielded c.into_iter-fraction-iterator.result c.loop-fraction.fraction-iterator c.next.new.self c.next.result (cc) (cc) c.loop-fraction.yielded_by _ c.in-Some.is c.next.ensures.steps in
    rw n (iter_turn _ _ _ c.loop-fraction.invariant (cc (t.2 nan, t.3 nan)))

pub returns : goal.returns
unfolding weighted_sum
returns c =
    let e = zip_end c.args.x.now c.args.g.now c.loop-fraction.yielded c.into_iter-fraction-iterator.result c.loop-fraction.fraction-iterator c.next.new.self c.next.result (cc) (cc) c.loop-fraction.yielded_by c.in-None.is c.next.ensures.steps in
    iter_done _ _ _ _ c.loop-fraction.invariant (omega arith)
