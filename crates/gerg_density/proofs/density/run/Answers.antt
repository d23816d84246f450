use mathlib.Core.Path.{ap, ◌∙◌}
use Rattle.std.specs.Prelude.{Err}
use Rattle.gerg_search.proofs.Laws.Ahead.{begins}
use Rattle.gerg_density.proofs.Laws.Turn.{room, fewer, again, found, failed}
use Rattle.gerg_density.proofs.density.run.Goals as goal

pub loop-x-init : goal.loop-x-init
loop-x-init c = rw c.begin-s.ensures (begins _ _)

pub moved-s-requires : goal.moved-s-requires
moved-s-requires c = room _ _ _ _ _ _ c.requires _ c.loop-x.invariant _ c.verdict-sample.ensures _ c.advance.ensures c.in-Try.is

pub loop-x-smaller : goal.loop-x-smaller
loop-x-smaller c = fewer _ _ _ _ _ _ c.requires _ c.loop-x.invariant _ c.verdict-sample.ensures _ c.advance.ensures c.in-Try.is c.moved-s.ensures

pub loop-x-preserved : goal.loop-x-preserved
loop-x-preserved c = again _ _ _ _ _ _ c.requires _ c.loop-x.invariant _ c.verdict-sample.ensures _ c.advance.ensures c.in-Try.is c.moved-s.ensures

pub returns-in-Accepted : goal.returns-in-Accepted
returns-in-Accepted c = found _ _ _ _ _ _ c.requires _ c.loop-x.invariant _ c.verdict-sample.ensures _ c.advance.ensures c.in-Accepted.is

pub returns-in-Refused : goal.returns-in-Refused
returns-in-Refused c = ap Err c.refusal.ensures ∙ failed _ _ _ _ _ _ c.requires _ c.loop-x.invariant _ c.verdict-sample.ensures _ c.advance.ensures c.in-Refused.is
