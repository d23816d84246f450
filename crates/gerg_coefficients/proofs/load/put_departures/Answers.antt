use mathlib.Core.Path.{◌≡◌}
use Prim.Native.Nat.{◌<◌}
use native.Mathlib.Omega.{arith}
use Rattle.numerics.specs.Double.{+0}
use lib.ListN.{length}
use Rattle.gerg_file.specs.Kinds as Kinds
use Rattle.gerg_file.specs.Counts.{departures_of}
use Rattle.gerg_coefficients.specs.Load.{departure_doubles, departure_integers}
use Rattle.gerg_coefficients.proofs.Rows.{sum_none, sum_on, rows_none, row_room}
use Rattle.gerg_coefficients.proofs.Steps.{departures_on, departure_bytes_on}
use Rattle.gerg_coefficients.proofs.load.put_departures.Goals as goal

pub loop-m-init : goal.loop-m-init
loop-m-init c = let a = c.args in (omega (arith, sum_none (departures_of a.s.now a.functions a.count)), ((λ a la e. rows_none 4086 +0 _ a e), (λ a la e. rows_none 1631 0 _ a e)))

pub put_records-requires : goal.put_records-requires
put_records-requires c =
    let a = c.args in
    let s = a.s.now in
    let m = c.requires.0 c.loop-m.m in
    let e = c.departures_of-terms.ensures.0 in
    let r = row_room (departures_of s a.functions a.count) (Kinds.departure).size a.from c.loop-m.at c.loop-m.m 10 (length s) c.loop-m-test.true e c.loop-m.invariant.0 c.requires.1 in
    (omega arith, (omega arith, omega arith))

pub put_byte_records-requires : goal.put_byte_records-requires
put_byte_records-requires c =
    let a = c.args in
    let s = a.s.now in
    let m = c.requires.0 c.loop-m.m in
    let e = c.departures_of-terms.ensures.0 in
    let r = row_room (departures_of s a.functions a.count) (Kinds.departure).size a.from c.loop-m.at c.loop-m.m 10 (length s) c.loop-m-test.true e c.loop-m.invariant.0 c.requires.1 in
    (omega arith, (omega arith, omega arith))

pub overflow_add-at : goal.overflow_add-at
overflow_add-at c =
    let a = c.args in
    let s = a.s.now in
    let m = c.requires.0 c.loop-m.m in
    let e = c.departures_of-terms.ensures.0 in
    let r = row_room (departures_of s a.functions a.count) (Kinds.departure).size a.from c.loop-m.at c.loop-m.m 10 (length s) c.loop-m-test.true e c.loop-m.invariant.0 c.requires.1 in
    omega arith

pub loop-m-preserved : goal.loop-m-preserved
loop-m-preserved c =
    let a = c.args in
    let s = a.s.now in
    let i = c.loop-m.m in
    let h : i < 10 = c.loop-m-test.true in
    let e = c.departures_of-terms.ensures.0 in
    let p = c.loop-m.invariant.0 in
    let pre = c.requires in
    let m = pre.0 i in
    let inv = c.loop-m.invariant.1 in
    let terms = c.departures_of-terms.result in (
      omega (arith, sum_on (departures_of s a.functions a.count) i),
      (
        (λ l la z. departures_on s a.functions a.count a.from i c.loop-m.at terms h m e p l la (inv.0 l la z) c.put_records.ensures.0),
        (λ l la z. departure_bytes_on s a.functions a.count a.from i c.loop-m.at terms h m e p l la (inv.1 l la z) c.put_byte_records.ensures),
      ),
    )

pub returns : goal.returns
unfolding departure_doubles departure_integers
returns c =
    let e : c.loop-m.m ≡ 10 = omega arith in
    let inv = c.loop-m.invariant.1 in
    ((λ a la z. rw e at (inv.0 a la z)), (λ a la z. rw e at (inv.1 a la z)))
