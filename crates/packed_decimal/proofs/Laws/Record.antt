-- Laws of one record: whether it is cut, and its bytes stored one by one. Assumes nothing.
use mathlib.Core.Path.{◌≡◌, refl, sym, ◌∙◌}
use mathlib.Core.Bool.{false}
use mathlib.Core.List.{List, [], ◌∷◌}
use Prim.Native.Nat.{ℕ, ◌+◌, ◌-◌, ◌/◌, ◌%◌, ◌≤◌}
use native.Mathlib.Omega.{arith}
use borrow.Author.Tests.{ltb-false}
use lib.Dec.{ltb}
use lib.ListN.{length}
use lib.Seq.{sets}
use borrow.Rule.Slice.PartMut.{put_mid}
use Rattle.std.proofs.lemmas.List.Edits.{sets-eq}
use Rattle.std.proofs.lemmas.Slice.{put_mid-paste}
use Rattle.numerics.specs.Tests.{or_false}
use Rattle.packed_decimal.specs.Record.{wrong_record, packed, record_of}

-- one that is not wrong is whole
pub not_cut : (bytes : List ℕ) (at : ℕ) → wrong_record bytes at ≡ false → at + 6 ≤ length bytes
unfolding wrong_record
not_cut bytes at e = ltb-false (length bytes) (at + 6) (or_false (ltb (length bytes) (at + 6)) _ e).0

-- six bytes copied are the record stored
pub stored : (out : List ℕ) (at component parts : ℕ) {a b c d : ℕ} {bytes : List ℕ} → at + 6 ≤ length out → bytes ≡ 16 ∷ component ∷ a ∷ b ∷ c ∷ d ∷ [] →
    a ≡ packed (parts / 1_000_000 % 100) → b ≡ packed (parts / 10_000 % 100) → c ≡ packed (parts / 100 % 100) → d ≡ packed (parts % 100) → put_mid at (at + 6 - at) out bytes ≡ sets out at (record_of component parts)
unfolding record_of
stored out at component parts h e p q r s =
    put_mid-paste at (at + 6 - at) out _ (record_of component parts) 6 (e ∙ rw (p, q, r, s)) (omega arith) refl ∙ sym (sets-eq (record_of component parts) out at h)
