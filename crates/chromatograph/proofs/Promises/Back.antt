-- What is promised of a list written and read back, read and written again, and of its fractions. Assumes nothing.
use mathlib.Core.Path.{◌≡◌, sym, ap, ◌∙◌, subst}
use mathlib.Core.List.{List, ◌++◌}
use Prim.Native.Nat.{ℕ, ◌^◌, ◌≤◌, ◌<◌}
use native.Mathlib.Omega.{arith}
use lib.Ieee.{Float, nan}
use lib.ListN.{length, get_or, take, drop}
use lib.Seq.{take_at}
use Rattle.numerics.specs.Nearest.{Nearest}
use Rattle.numerics.specs.Fill.{tabulate, length_tabulate, get_d_tabulate, tabulate_same}
use Rattle.gerg_model.specs.MixtureCheck.{check_of}
use Rattle.std.proofs.Common.{Ok}
use Rattle.packed_decimal.specs.Record.{component_at, parts_at, millionths, fraction_of}
use Rattle.packed_decimal.specs.Records.{offset_of, records, records_of, components_of, parts_of, total_of}
use Rattle.chromatograph.specs.Lists.{bad_list, read_of, components_read, parts_read, fractions_read, write_answer, bytes_written}
use Rattle.gerg_refusals.specs.Answer.{number_of}
use Rattle.chromatograph.specs.Promised.{SoundList, SoundParts}
use Rattle.chromatograph.proofs.Laws.Back.{component_back, parts_back, record_right, bytes_again, by_places}
use Rattle.chromatograph.proofs.Laws.Filled.{get_d_filled, take_filled}
use Rattle.chromatograph.proofs.Laws.Nearest.{fraction_nearest}
use Rattle.chromatograph.proofs.Laws.Reading.{components_length}
use Rattle.chromatograph.proofs.Laws.Sum.{mixture_sound}
use Rattle.packed_decimal.proofs.Laws.Total.{part_at_most}
use Rattle.chromatograph.proofs.Laws.Writing.{records_bytes}
use Rattle.chromatograph.proofs.Promises.Reading.{read_accepted, read_accepts, read_writes}
use Rattle.chromatograph.proofs.Promises.Writing.{write_accepted, write_accepts, write_writes}

-- ---- the bytes that sound parts are written as
module _ (list parts : List ℕ) (s : SoundParts list parts) where
  abbrev n : ℕ
  n = length list

  abbrev written : List ℕ
  written = records_of list parts n

  as_many : records written ≡ n
  as_many = let l = records_bytes list parts n in omega arith

  small : (k : ℕ) → k < n → get_or parts k 0 < 100_000_000
  small k h = let m = s.million in omega (arith, part_at_most parts k (rw s.like h))

  same_components : components_of written ≡ list
  unfolding components_of
  same_components = rw as_many (tabulate_same (λ k. component_at written (offset_of k)) (λ k. get_or list k 0) n (λ k h. component_back list parts n k h) ∙ by_places list 0)

  same_parts : parts_of written ≡ parts
  unfolding parts_of
  same_parts =
      rw as_many
      (tabulate_same (λ k. parts_at written (offset_of k)) (λ k. get_or parts k 0) n (λ k h. parts_back list parts n k h (small k h)) ∙ subst (λ (m : ℕ). tabulate (λ k. get_or parts k 0) m ≡ parts) s.like (by_places parts 0))

  sound : SoundList written
  sound = record {
    whole = records_bytes list parts n ∙ ap offset_of (sym as_many);
    right = λ k h. record_right list parts n k (subst (λ (m : ℕ). k < m) as_many h);
    known = ap bad_list same_components ∙ s.known;
    million = ap total_of same_parts ∙ s.million;
  }

-- "A list written and read back has the same components and parts", and it is accepted
module _ (list parts out : List ℕ) (accepted : number_of (write_answer list parts (length out)) ≡ 0) where
  -- the bytes that were written
  abbrev bytes : List ℕ
  bytes = take (offset_of (length list)) (bytes_written list parts out)

  bytes_are : bytes ≡ records_of list parts (length list)
  bytes_are =
      ap (take (offset_of (length list))) (write_writes list parts out accepted)
      ∙ take_at (records_of list parts (length list)) (drop (offset_of (length list)) out) (offset_of (length list)) (records_bytes list parts (length list))

  parts_sound : SoundParts list parts
  parts_sound = (write_accepted list parts out accepted).1.0

  module _ (components read_parts : List ℕ) (fractions : List Float) (l : length list ≤ length components) (p : length list ≤ length read_parts) (f : length list ≤ length fractions) where
    back : (b : List ℕ) → b ≡ records_of list parts (length list)
        → (read_of b components read_parts fractions ≡ Ok (length list)) × ((components_read b components read_parts fractions ≡ list ++ drop (length list) components) × (parts_read b components read_parts fractions ≡ parts ++ drop (length list) read_parts))
    unfolding components_of parts_of
    back b e =
        let s = parts_sound in
        let r : records b ≡ length list = ap records e ∙ as_many list parts s in
        let k : SoundList b = subst SoundList (sym e) (sound list parts s) in
        let a = read_accepts b components read_parts fractions k (omega arith) (omega arith) (omega arith) in
        let w = read_writes b components read_parts fractions (ap number_of a) in
        let c : components_of b ≡ list = ap components_of e ∙ same_components list parts s in
        let q : parts_of b ≡ parts = ap parts_of e ∙ same_parts list parts s in (
          a ∙ ap Ok r,
          (w.0 ∙ ap (λ (x : List ℕ). x ++ drop (records b) components) c ∙ ap (λ (m : ℕ). list ++ drop m components) r, w.1.0 ∙ ap (λ (x : List ℕ). x ++ drop (records b) read_parts) q ∙ ap (λ (m : ℕ). parts ++ drop m read_parts) r),
        )

    pub written_read_back :
        (read_of bytes components read_parts fractions ≡ Ok (length list))
        × ((components_read bytes components read_parts fractions ≡ list ++ drop (length list) components) × (parts_read bytes components read_parts fractions ≡ parts ++ drop (length list) read_parts))
    written_read_back = back bytes bytes_are

-- ---- a list that is accepted
module _ (bytes list parts : List ℕ) (fractions : List Float) (accepted : number_of (read_of bytes list parts fractions) ≡ 0) where
  -- what was read: the first places of each list
  abbrev read_components : List ℕ
  read_components = take (records bytes) (components_read bytes list parts fractions)

  abbrev read_parts : List ℕ
  read_parts = take (records bytes) (parts_read bytes list parts fractions)

  abbrev read_fractions : List Float
  read_fractions = take (records bytes) (fractions_read bytes list parts fractions)

  list_sound : SoundList bytes
  list_sound = (read_accepted bytes list parts fractions accepted).1.0

  components_are : read_components ≡ components_of bytes
  unfolding components_of
  components_are = ap (take (records bytes)) (read_writes bytes list parts fractions accepted).0 ∙ take_filled (λ k. component_at bytes (offset_of k)) (records bytes) list

  parts_are : read_parts ≡ parts_of bytes
  unfolding parts_of
  parts_are = ap (take (records bytes)) (read_writes bytes list parts fractions accepted).1.0 ∙ take_filled (λ k. parts_at bytes (offset_of k)) (records bytes) parts

  fractions_are : read_fractions ≡ tabulate (λ k. fraction_of (parts_at bytes (offset_of k))) (records bytes)
  fractions_are = ap (take (records bytes)) (read_writes bytes list parts fractions accepted).1.1 ∙ take_filled (λ k. fraction_of (parts_at bytes (offset_of k))) (records bytes) fractions

  parts_length : length (parts_of bytes) ≡ records bytes
  unfolding parts_of
  parts_length = length_tabulate (λ k. parts_at bytes (offset_of k)) (records bytes)

  both_sound : SoundParts (components_of bytes) (parts_of bytes)
  both_sound = record { known = list_sound.known; like = parts_length ∙ sym (components_length bytes); million = list_sound.million }

  -- "a list accepted and written again has the same bytes"
  pub read_written_again : (out : List ℕ) → length bytes ≤ length out
      → (write_answer read_components read_parts (length out) ≡ Ok (length bytes)) × (bytes_written read_components read_parts out ≡ bytes ++ drop (length bytes) out)
  unfolding components_of parts_of
  read_written_again out h =
      let c = components_of bytes in
      let p = parts_of bytes in
      let m : offset_of (length c) ≡ length bytes = ap offset_of (components_length bytes) ∙ sym list_sound.whole in
      let a = write_accepts c p out both_sound (omega arith) in
      let w = write_writes c p out (ap number_of a) in
      let r : records_of c p (length c) ≡ bytes = ap (records_of c p) (components_length bytes) ∙ bytes_again bytes c p (records bytes) list_sound.whole list_sound.right
      (λ k l. get_d_tabulate (λ k. component_at bytes (offset_of k)) (records bytes) k 0 l) (λ k l. get_d_tabulate (λ k. parts_at bytes (offset_of k)) (records bytes) k 0 l) in
      rw (components_are, parts_are) (a ∙ ap Ok m, w ∙ ap (λ (b : List ℕ). b ++ drop (offset_of (length c)) out) r ∙ ap (λ (k : ℕ). bytes ++ drop k out) m)

  part_small : (k : ℕ) → k < records bytes → parts_at bytes (offset_of k) < 2 ^ 32
  unfolding parts_of
  part_small k h =
      let m = list_sound.million in
      let g = part_at_most (parts_of bytes) k (rw parts_length h) in
      let e = get_d_tabulate (λ k. parts_at bytes (offset_of k)) (records bytes) k 0 h in
      omega arith

  -- "each fraction the double nearest to its parts over 1,000,000"
  pub read_nearest : (k : ℕ) → k < records bytes → Nearest (millionths (get_or (parts_read bytes list parts fractions) k 0)) (get_or (fractions_read bytes list parts fractions) k nan)
  read_nearest k h =
      let w = read_writes bytes list parts fractions accepted in
      let p = ap (λ (l : List ℕ). get_or l k 0) w.1.0 ∙ get_d_filled (λ k. parts_at bytes (offset_of k)) (records bytes) k parts 0 h in
      let f = ap (λ (l : List Float). get_or l k nan) w.1.1 ∙ get_d_filled (λ k. fraction_of (parts_at bytes (offset_of k))) (records bytes) k fractions nan h in
      subst (λ (x : Float). Nearest (millionths (get_or (parts_read bytes list parts fractions) k 0)) x) (sym f) (subst (λ (x : ℕ). Nearest (millionths x) (fraction_of (parts_at bytes (offset_of k)))) (sym p) (fraction_nearest (parts_at bytes (offset_of k)) (part_small k h)))

  -- rows 3 and 4 pass the components and the fractions that were read
  pub read_mixture : check_of read_components read_fractions ≡ Ok tt
  unfolding parts_of
  read_mixture =
      let e : tabulate (λ k. fraction_of (get_or (parts_of bytes) k 0)) (length (parts_of bytes)) ≡ tabulate (λ k. fraction_of (parts_at bytes (offset_of k))) (records bytes) =
      ap (λ (m : ℕ). tabulate (λ k. fraction_of (get_or (parts_of bytes) k 0)) m) parts_length
      ∙ tabulate_same (λ k. fraction_of (get_or (parts_of bytes) k 0)) (λ k. fraction_of (parts_at bytes (offset_of k))) (records bytes) (λ k h. ap fraction_of (get_d_tabulate (λ k. parts_at bytes (offset_of k)) (records bytes) k 0 h)) in
      rw (components_are, fractions_are, ← e) (mixture_sound (components_of bytes) (parts_of bytes) both_sound.like both_sound.known both_sound.million)
