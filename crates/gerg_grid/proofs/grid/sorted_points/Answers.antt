use lib.Dec.{lit<}
use lib.ListN.{length}
use Prim.Native.Nat.{ℕ}
use native.Mathlib.Omega.{arith}
use mathlib.Core.Path.{ap, ◌∙◌}
use Rattle.gerg_grid.specs.GridArray.{insert_from}
use Rattle.gerg_grid.proofs.Laws.Insertion.{sorts_begin, sorts_length, sorts_turn, sorts_done, refilled}
use Rattle.gerg_grid.proofs.grid.sorted_points.Goals as goal

pub loop-k-init : goal.loop-k-init
loop-k-init c = (c.new-sorted.ensures ∙ sorts_begin, c.ln-span.ensures)

pub push-requires : goal.push-requires
push-requires c = (lit< tt, omega (arith, sorts_length _ _ c.loop-k.invariant.0, c.loop-k-test.true))

pub insert-requires : goal.insert-requires
insert-requires c = omega (arith, c.len-n.ensures.value, ap length c.deref_mut.ensures.value, c.push.ensures.len)

pub loop-k-preserved : goal.loop-k-preserved
loop-k-preserved c =
    let t = c.loop-k in
    let v = c.point-v.result in
    let n = c.len-n.ensures.value ∙ sorts_length _ _ t.invariant.0 in
    let behind = c.deref_mut.ensures.value ∙ c.push.ensures.items in
    let length_is = c.insert.auto.points ∙ ap length c.deref_mut.ensures.value in
    (refilled _ c.push.new.self.items c.insert.new.points length_is ∙ sorts_turn t.k v _ _ c.point-v.ensures t.invariant.0 (c.insert.ensures ∙ ap (λ (k : ℕ). insert_from k v c.deref_mut.result.now) n ∙ ap (insert_from t.k v) behind), c.ln-span.ensures)

pub returns : goal.returns
returns c = sorts_done c.loop-k.k _ (omega arith) c.loop-k.invariant.0
