use mathlib.Core.Path.{◌≡◌}
use Rattle.gerg_coefficients.specs.Load.{bytes_at}
use Rattle.gerg_coefficients.proofs.Put.{no_records, record_on, length_bytes_at}
use native.Mathlib.Omega.{arith}
use Rattle.gerg_coefficients.proofs.store.put_byte_records.Goals as goal

pub loop-k-init : goal.loop-k-init
loop-k-init c = no_records (bytes_at _) (length_bytes_at _) _ _ _ _ _

pub loop-k-preserved : goal.loop-k-preserved
loop-k-preserved c = record_on (bytes_at _) (length_bytes_at _) _ _ _ _ _ _ c.loop-k.invariant c.put_bytes.ensures

pub returns : goal.returns
returns c = let e : c.loop-k.k ≡ c.args.count = omega arith in rw e at c.loop-k.invariant
