-- The words of request 05's promises.
use Rattle.std.specs.Prelude.{true, false, List, ◌≡◌, ℕ, ◌<◌, length}
use Rattle.packed_decimal.specs.Record.{wrong_record}
use Rattle.packed_decimal.specs.Records.{offset_of, records, components_of, parts_of, total_of}
use Rattle.chromatograph.specs.Lists.{bad_list}

-- record k is "the first such record": wrong, and none before it is
pub record FirstWrong (bytes : List ℕ) (k : ℕ) : Type 0 where
  pub begins : offset_of k < length bytes
  pub wrong : wrong_record bytes (offset_of k) ≡ true
  pub before : (j : ℕ) → j < k → wrong_record bytes (offset_of j) ≡ false

-- bytes that only row 24 can still refuse: whole records, none of them wrong, components that row 3 passes, parts that total 1,000,000
pub record SoundList (bytes : List ℕ) : Type 0 where
  pub whole : length bytes ≡ offset_of (records bytes)
  pub right : (k : ℕ) → k < records bytes → wrong_record bytes (offset_of k) ≡ false
  pub known : bad_list (components_of bytes) ≡ false
  pub million : total_of (parts_of bytes) ≡ 1_000_000

-- and components with their parts
pub record SoundParts (list parts : List ℕ) : Type 0 where
  pub known : bad_list list ≡ false
  pub like : length parts ≡ length list
  pub million : total_of parts ≡ 1_000_000
