-- The first wrong record is the first chunk of six bytes that is told wrong. Assumes nothing.
use Rattle.std.proofs.Common.{◌≡◌, refl, sym, ap, ◌∙◌, Bool, true, false, List, [], ◌∷◌, ℕ, ◌+◌, ◌-◌, ◌*◌, ◌<◌, min, length, get_or, take, drop, Option, Some, None, arith, ltb, length-take, length-drop, get_or-take, get_or-drop, option_map, is_some}
use Rattle.std.proofs.lemmas.Bool.{lt-ltb, le-ltb, ltb-true, ltb-false}
use denote.Ref.{Bor}
use denote.Param.Members.{Mut, Called}
use Rattle.std.specs.Bool.{then_some}
use Rattle.std.specs.Option.{IfSome, IsSomeAnd, MatchOption}
use Rattle.std.specs.List.{IsSubsliceAt}
use Rattle.std.specs.Iterator.Runs.{Run, CallKeepsClosure, AllItemsGive, IsFirstToGive, ItemsMapToChunks}
use Rattle.gerg_model.proofs.Laws.First.{first_is}
use Rattle.packed_decimal.specs.Record.{wrong_record}
use Rattle.packed_decimal.specs.Records.{offset_of, begun, wrong_offset}

-- the bytes of record k alone
abbrev record_alone : List ℕ → ℕ → List ℕ
record_alone bytes k = take 6 (drop (k * 6) bytes)

byte_alone : (bytes : List ℕ) (k i : ℕ) → i < 6 → get_or (record_alone bytes k) i 0 ≡ get_or bytes (6 * k + i) 0
byte_alone bytes k i h = get_or-take 6 (drop (k * 6) bytes) i 0 h ∙ get_or-drop (k * 6) bytes i 0 ∙ ap (λ (at : ℕ). get_or bytes (at + i) 0) (let e : k * 6 ≡ 6 * k = omega arith in e)

cut_alone : (m n at : ℕ) → m ≡ min 6 (n - at) → at < n → ltb m 6 ≡ ltb n (at + 6)
cut_alone m n at e h = decided (ltb n (at + 6)) refl
  where
    decided : (b : Bool) → ltb n (at + 6) ≡ b → ltb m 6 ≡ b
    decided true p = let l = ltb-true n (at + 6) p in lt-ltb m 6 (omega arith)
    decided false p = let l = ltb-false n (at + 6) p in le-ltb m 6 (omega arith)

-- a record is as wrong alone as among the others
wrong_alone : (bytes : List ℕ) (k : ℕ) → k * 6 < length bytes → wrong_record (record_alone bytes k) 0 ≡ wrong_record bytes (6 * k)
unfolding wrong_record
wrong_alone bytes k h =
    let cut = cut_alone (length (record_alone bytes k)) (length bytes) (6 * k) (omega (arith, length-take 6 (drop (k * 6) bytes), length-drop (k * 6) bytes)) (omega arith) in
    let first : get_or (record_alone bytes k) 0 0 ≡ get_or bytes (6 * k) 0 = byte_alone bytes k 0 (omega arith) ∙ ap (λ (at : ℕ). get_or bytes at 0) (omega arith) in
    rw (cut, first, byte_alone bytes k 2 (omega arith), byte_alone bytes k 3 (omega arith), byte_alone bytes k 4 (omega arith), byte_alone bytes k 5 (omega arith))

-- there is an item below the length of a run
item : {A : Type 0} (xs : List A) (j : ℕ) → j < length xs → A
item [] j h = absurd (omega arith)
item (x ∷ xs) j h = x

there : {A : Type 0} (P : A → Type 0) (o : Option A) → is_some (option_map (λ y. y) o) ≡ true → IfSome o P → IsSomeAnd o P
there P None e i = absurd (cc)
there P (Some y) e i = i

module _ {S F : Type 0} {steps : S → Option (Bor (List ℕ)) → S → Type 0} (p : Run steps) (g : Mut F (Bor (List ℕ) × Unit {0}) Bool) (f : F) (bytes : List ℕ)
    (tells : (x : Bor (List ℕ)) (b : Bool) → Called g f (x, tt) b f → b ≡ wrong_record x.now 0) (keeps : CallKeepsClosure g f) (chunks : ItemsMapToChunks p (λ x. x.now) 6 bytes) where
  abbrev bad : ℕ → Bool
  bad k = wrong_record bytes (offset_of k)

  told : (b : Bool) (k : ℕ) (o : Option (Bor (List ℕ))) → IfSome o (λ x. (0 < length x.now) × (k * 6 < length bytes) × IsSubsliceAt 6 bytes (k * 6) x.now) → IsSomeAnd o (λ x. Called g f (x, tt) b f)
      → (k * 6 < length bytes) × (wrong_record bytes (6 * k) ≡ b)
  told b k None i s = absurd s
  told b k (Some x) i s = (i.1, sym (tells x b s ∙ ap (λ (l : List ℕ). wrong_record l 0) i.2.0 ∙ wrong_alone bytes k i.1))

  some_told : (b : Bool) (k : ℕ) → IsSomeAnd (p.at k) (λ x. Called g f (x, tt) b f) → (k * 6 < length bytes) × (wrong_record bytes (6 * k) ≡ b)
  some_told b k s = told b k (p.at k) (chunks.2 k) s

  -- the answer of `wrong_offset`
  abbrev pub Told : Option ℕ → Type 0
  Told o = o ≡ then_some (ltb (wrong_offset bytes) (length bytes)) (wrong_offset bytes)

  pub first_wrong : (k : ℕ) → IsFirstToGive p g f true false k → Told (Some (6 * k))
  unfolding wrong_offset
  first_wrong k h =
      let i = h keeps in
      let here = some_told true k i.0 in
      let e = first_is bad (begun bytes) k (omega arith) (λ j l. (some_told false j (i.1 j l)).1) (λ l. here.1) in
      rw (e, lt-ltb (6 * k) (length bytes) (omega arith)) refl

  at_each : (j : ℕ) → j < p.len → is_some (option_map (λ y. y) (p.at j)) ≡ true
  at_each j h = ap is_some (p.reads j (item p.items j (omega (arith, p.long))) h)

  pub none_wrong : p.whole ≡ true → AllItemsGive p g f false → Told None
  unfolding wrong_offset
  none_wrong w h =
      let n : p.len ≡ begun bytes = let e = chunks.1 w in omega arith in
      let none : (j : ℕ) → j < begun bytes → wrong_record bytes (6 * j) ≡ false = λ j l. (some_told false j (there (λ x. Called g f (x, tt) false f) (p.at j) (at_each j (omega arith)) (h keeps j))).1 in
      let e = first_is bad (begun bytes) (begun bytes) (omega arith) none (λ l. absurd (omega arith)) in
      rw (e, le-ltb (6 * begun bytes) (length bytes) (omega arith)) refl

  -- `position`, and then `map` to the offset
  pub offset_told : {Post : ℕ → ℕ → Type 0} (o r : Option ℕ) → MatchOption o ((p.whole ≡ true) × AllItemsGive p g f false) (λ k. (p.len ≡ k + 1) × IsFirstToGive p g f true false k) →
      MatchOption o (r ≡ None) (λ k. IsSomeAnd r (Post k)) → ((k at : ℕ) → Post k at → at ≡ 6 * k) → Told r
  offset_told None r h m six = rw m (none_wrong h.0 h.1)
  offset_told (Some k) None h m six = absurd m
  offset_told (Some k) (Some at) h m six = rw (six k at m) (first_wrong k h.1)
