use mathlib.Core.Path.{◌≡◌}
use Prim.Native.Nat.{◌<◌, ◌≤◌}
use native.Mathlib.Omega.{arith}
use Rattle.numerics.specs.Double.{+0}
use lib.ListN.{length}
use Rattle.gerg_file.specs.Kinds as Kinds
use Rattle.gerg_file.specs.Counts.{terms_of}
use Rattle.gerg_coefficients.specs.Load.{term_doubles, term_integers}
use Rattle.gerg_coefficients.proofs.Rows.{sum_none, sum_on, rows_none, row_room}
use Rattle.gerg_coefficients.proofs.Steps.{terms_on, term_bytes_on}
use Rattle.gerg_coefficients.proofs.load.put_terms.Goals as goal

pub loop-i-init : goal.loop-i-init
loop-i-init c = (omega (arith, sum_none (terms_of c.args.s.now)), ((λ a la e. rows_none 4086 +0 _ a e), (λ a la e. rows_none 1631 0 _ a e)))

pub put_records-requires : goal.put_records-requires
unfolding terms_of
put_records-requires c =
    let s = c.args.s.now in
    let i = c.loop-i.i in
    let m : terms_of s i ≤ 24 = c.requires.0 i c.loop-i-test.true in
    let e : c.term_count-count.result ≡ terms_of s i = c.term_count-count.ensures.0 in
    let r = row_room (terms_of s) (Kinds.term).size c.args.from c.loop-i.at i 21 (length s) c.loop-i-test.true e c.loop-i.invariant.0 c.requires.1 in
    (omega arith, (omega arith, omega arith))

pub put_byte_records-requires : goal.put_byte_records-requires
unfolding terms_of
put_byte_records-requires c =
    let s = c.args.s.now in
    let i = c.loop-i.i in
    let m : terms_of s i ≤ 24 = c.requires.0 i c.loop-i-test.true in
    let e : c.term_count-count.result ≡ terms_of s i = c.term_count-count.ensures.0 in
    let r = row_room (terms_of s) (Kinds.term).size c.args.from c.loop-i.at i 21 (length s) c.loop-i-test.true e c.loop-i.invariant.0 c.requires.1 in
    (omega arith, (omega arith, omega arith))

pub overflow_add-at : goal.overflow_add-at
unfolding terms_of
overflow_add-at c =
    let s = c.args.s.now in
    let i = c.loop-i.i in
    let m : terms_of s i ≤ 24 = c.requires.0 i c.loop-i-test.true in
    let e : c.term_count-count.result ≡ terms_of s i = c.term_count-count.ensures.0 in
    let r = row_room (terms_of s) (Kinds.term).size c.args.from c.loop-i.at i 21 (length s) c.loop-i-test.true e c.loop-i.invariant.0 c.requires.1 in
    omega arith

pub loop-i-preserved : goal.loop-i-preserved
unfolding terms_of
loop-i-preserved c =
    let s = c.args.s.now in
    let i = c.loop-i.i in
    let h : i < 21 = c.loop-i-test.true in
    let e : c.term_count-count.result ≡ terms_of s i = c.term_count-count.ensures.0 in
    let p = c.loop-i.invariant.0 in
    let pre = c.requires in
    let m = pre.0 i h in
    let inv = c.loop-i.invariant.1 in (
      omega (arith, sum_on (terms_of s) i),
      (
        (λ a la z. terms_on s c.args.from i c.loop-i.at c.term_count-count.result h m e p a la (inv.0 a la z) c.put_records.ensures.0),
        (λ a la z. term_bytes_on s c.args.from i c.loop-i.at c.term_count-count.result h m e p a la (inv.1 a la z) c.put_byte_records.ensures),
      ),
    )

pub returns : goal.returns
unfolding term_doubles term_integers
returns c = let e : c.loop-i.i ≡ 21 = omega arith in
    let inv = c.loop-i.invariant.1 in
    ((λ a la z. rw e at (inv.0 a la z)), (λ a la z. rw e at (inv.1 a la z)))
