-- `chromatograph::reader::write_each` meets its contract. The invariant: the first k places are written. Assumes nothing.
use Rattle.std.proofs.Common.{◌≡◌, ℕ, ◌<◌, length}
use Rattle.numerics.specs.Fill.{filled}
use Rattle.chromatograph.proofs.reader.write_each.Given as goal

abbrev pub invariant-loop-k : goal.invariant-loop-k
invariant-loop-k g l = (h : ℕ → g.row.T.Denot) → ((k : ℕ) (x : g.row.T.Denot) → k < length l.initial.places → goal.F-post g l.f k x → x ≡ h k) → l.places ≡ filled h l.k l.initial.places
