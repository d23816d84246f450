-- Each named reader on the tables of a file gives the file's number, where the file has the record: one law a record kind, over its fields.
use mathlib.Core.Path.{◌≡◌, refl, ap, ◌∙◌}
use mathlib.Core.Bool.{Bool, true, ◌&&◌, cond}
use mathlib.Core.List.{List}
use Prim.Native.Nat.{ℕ, ◌+◌, ◌*◌, ◌≤◌, ◌<◌}
use native.Mathlib.Omega.{arith}
use borrow.Author.Tests.{lt-ltb, le-leb}
use lib.Dec.{leb, ltb}
use lib.ListN.{get_or}
use lib.Ieee.{Float, nan}
use Rattle.numerics.specs.Double.{+0}
use Rattle.gerg_file.specs.Kinds as Kinds
use Rattle.gerg_file.specs.Bytes.{byte, double_at}
use Rattle.gerg_file.specs.File.{file_of}
use Rattle.gerg_file.specs.Counts.{terms_of, departures_of, component_record}
use Rattle.gerg_file.proofs.Begins.{term_record, pair_record, function_record, departure_record}
use Rattle.std.specs.Prelude.{Ok}
use Rattle.gerg_file.specs.declared.Layout.{Layout}
use Rattle.gerg_tables.specs.declared.Tables.{Tables}
use Rattle.gerg_tables.specs.Tables.{tc, mmi_gerg, n0i, th0i, noik, toik, btij, bvij, gtij, gvij, fij, cijk, eijk, gijk, nijk, tijk, kpol, kexp, coik, doik, m_numb, kpolij, kexpij, dijk}
use Rattle.gerg_coefficients.specs.Load.{Records, present, place, critical_of, terms, pairs, functions, departures, doubles, integers, loaded}
use Rattle.gerg_coefficients.specs.Answer.{tables_as, tables_of}
use Rattle.gerg_coefficients.proofs.Numbers.{file_double, file_byte, critical_number, ideal_number, term_number, pair_number, departure_number, count_number, term_byte, pair_byte, function_byte, departure_byte}

-- the tables of a well-formed file
tables_are : (s : List ℕ) (l : Layout) → file_of s ≡ Ok l → tables_of s ≡ loaded s l
unfolding tables_of tables_as
tables_are s l e = ap (tables_as s) e

module _ (s : List ℕ) (l : Layout) (e : file_of s ≡ Ok l) where
  pub doubles_are : (tables_of s).doubles ≡ doubles s l
  unfolding loaded
  doubles_are = ap (λ (t : Tables). t.doubles) (tables_are s l e)

  pub integers_are : (tables_of s).integers ≡ integers s l
  unfolding loaded
  integers_are = ap (λ (t : Tables). t.integers) (tables_are s l e)

  -- a number that the file has, at place p of the array
  double_at_lem : (r : Records) (offset k c p q : ℕ) → present r k ≡ true → get_or (doubles s l) p nan ≡ file_double s r offset k c → place r offset k + 8 * c ≡ q
      → get_or (tables_of s).doubles p nan ≡ double_at s q
  double_at_lem r offset k c p q t n g =
      ap (λ (d : List Float). get_or d p nan) doubles_are ∙ n ∙ ap (λ (b : Bool). cond b (double_at s (place r offset k + 8 * c)) +0) t ∙ ap (double_at s) g

  byte_at : (r : Records) (offset k c p q : ℕ) → present r k ≡ true → get_or (integers s l) p 0 ≡ file_byte s r offset k c → place r offset k + c ≡ q
      → get_or (tables_of s).integers p 0 ≡ byte s q
  byte_at r offset k c p q t n g =
      ap (λ (d : List ℕ). get_or d p 0) integers_are ∙ n ∙ ap (λ (b : Bool). cond b (byte s (place r offset k + c)) 0) t ∙ ap (byte s) g

  there : (first end k : ℕ) → first ≤ k → k < end → (leb first k && ltb k end) ≡ true
  there first end k h g = rw (le-leb first k h, lt-ltb k end g)

  -- kind 2: Tc, MMiGERG for c = 0, 1
  critical_at : (i c : ℕ) → i < 21 → c < 2 → get_or (tables_of s).doubles (2 * i + c) nan ≡ get_or (critical_of s i) c nan
  critical_at i c h g = ap (λ (d : List Float). get_or d (2 * i + c) nan) doubles_are ∙ critical_number s l i c h g

  -- n0i 1 to 7, th0i 4 to 7 for c = 0 to 10
  ideal_at : (i c : ℕ) → i < 21 → c < 11 → get_or (tables_of s).doubles (42 + (11 * i + c)) nan ≡ double_at s (component_record i + (Kinds.component).ideal + 8 * c)
  ideal_at i c h g =
      ap (λ (d : List Float). get_or d (42 + (11 * i + c)) nan) doubles_are ∙ ideal_number s l i c h g
      ∙ ap (double_at s)
      (let q : (Kinds.revision).size + (Kinds.component).ideal + (Kinds.component).size * i + 8 * c ≡ component_record i + (Kinds.component).ideal + 8 * c = omega arith in q)

  -- kpol, kexp for c = 0, 1
  count_at : (i c : ℕ) → i < 21 → c < 2 → get_or (tables_of s).integers (2 * i + c) 0 ≡ byte s (component_record i + (Kinds.component).counts + c)
  count_at i c h g =
      ap (λ (d : List ℕ). get_or d (2 * i + c) 0) integers_are ∙ count_number s l i c h g
      ∙ ap (byte s)
      (let q : (Kinds.revision).size + (Kinds.component).counts + (Kinds.component).size * i + c ≡ component_record i + (Kinds.component).counts + c = omega arith in q)

  -- kind 3, for a term that the component has: noik, toik; coik, doik for c = 0, 1
  term_at : (i k c : ℕ) → i < 21 → k < 24 → c < 2 → k < terms_of s i
      → get_or (tables_of s).doubles (273 + (48 * i + (2 * k + c))) nan ≡ double_at s (term_record s l i k + (Kinds.term).doubles + 8 * c)
  unfolding terms
  term_at i k c h g b t =
      double_at_lem (terms s l.terms i) _ k c (273 + (48 * i + (2 * k + c))) (term_record s l i k + (Kinds.term).doubles + 8 * c) (there 0 (terms_of s i) k (omega arith) t)
      (term_number s l i k c h g b) (omega arith)

  term_byte_at : (i k c : ℕ) → i < 21 → k < 24 → c < 2 → k < terms_of s i
      → get_or (tables_of s).integers (42 + (48 * i + (2 * k + c))) 0 ≡ byte s (term_record s l i k + (Kinds.term).exponents + c)
  unfolding terms
  term_byte_at i k c h g b t =
      byte_at (terms s l.terms i) _ k c (42 + (48 * i + (2 * k + c))) (term_record s l i k + (Kinds.term).exponents + c) (there 0 (terms_of s i) k (omega arith) t)
      (term_byte s l i k c h g b) (omega arith)

  -- kind 4, i ≤ j: btij, bvij, gtij, gvij, fij for c = 0 to 4; mNumb
  pair_at : (i j c : ℕ) → i ≤ j → j < 21 → c < 5
      → get_or (tables_of s).doubles (1281 + (105 * i + (5 * j + c))) nan ≡ double_at s (pair_record l i j + (Kinds.pair).doubles + 8 * c)
  unfolding pairs
  pair_at i j c h g b =
      double_at_lem (pairs l.pairs i) _ j c (1281 + (105 * i + (5 * j + c))) (pair_record l i j + (Kinds.pair).doubles + 8 * c) (there i 21 j h g)
      (pair_number s l i j c (omega arith) g b) (omega arith)

  pair_byte_at : (i j : ℕ) → i ≤ j → j < 21 → get_or (tables_of s).integers (1050 + (21 * i + (1 * j + 0))) 0 ≡ byte s (pair_record l i j + (Kinds.pair).number)
  unfolding pairs
  pair_byte_at i j h g =
      byte_at (pairs l.pairs i) _ j 0 (1050 + (21 * i + (1 * j + 0))) (pair_record l i j + (Kinds.pair).number) (there i 21 j h g)
      (pair_byte s l i j 0 (omega arith) g (omega arith)) (omega arith)

  -- kind 5, for a function that the file has: kpolij, kexpij for c = 0, 1
  function_at : (m c : ℕ) → m < 10 → c < 2 → m < l.count → get_or (tables_of s).integers (1491 + (2 * m + c)) 0 ≡ byte s (function_record l m + (Kinds.function).counts + c)
  unfolding functions
  function_at m c h g t =
      byte_at (functions l.functions l.count) _ m c (1491 + (2 * m + c)) (function_record l m + (Kinds.function).counts + c) (there 0 l.count m (omega arith) t)
      (function_byte s l m c h g) (omega arith)

  -- kind 6, for a term that the function has: cijk, eijk, gijk, nijk, tijk for c = 0 to 4; dijk
  departure_at : (m k c : ℕ) → m < 10 → k < 12 → c < 5 → k < departures_of s l.functions l.count m
      → get_or (tables_of s).doubles (3486 + (60 * m + (5 * k + c))) nan ≡ double_at s (departure_record s l m k + (Kinds.departure).doubles + 8 * c)
  unfolding departures
  departure_at m k c h g b t =
      double_at_lem (departures s l.functions l.count l.departures m) _ k c (3486 + (60 * m + (5 * k + c))) (departure_record s l m k + (Kinds.departure).doubles + 8 * c)
      (there 0 (departures_of s l.functions l.count m) k (omega arith) t) (departure_number s l m k c h g b) (omega arith)

  departure_byte_at : (m k : ℕ) → m < 10 → k < 12 → k < departures_of s l.functions l.count m
      → get_or (tables_of s).integers (1511 + (12 * m + (1 * k + 0))) 0 ≡ byte s (departure_record s l m k + (Kinds.departure).exponent)
  unfolding departures
  departure_byte_at m k h g t =
      byte_at (departures s l.functions l.count l.departures m) _ k 0 (1511 + (12 * m + (1 * k + 0))) (departure_record s l m k + (Kinds.departure).exponent)
      (there 0 (departures_of s l.functions l.count m) k (omega arith) t) (departure_byte s l m k 0 h g (omega arith)) (omega arith)

  -- by name
  double_named : {p p' q q' : ℕ} → p ≡ p' → q' ≡ q → get_or (tables_of s).doubles p' nan ≡ double_at s q' → get_or (tables_of s).doubles p nan ≡ double_at s q
  double_named a b n = ap (λ (p : ℕ). get_or (tables_of s).doubles p nan) a ∙ n ∙ ap (double_at s) b

  byte_named : {p p' q q' : ℕ} → p ≡ p' → q' ≡ q → get_or (tables_of s).integers p' 0 ≡ byte s q' → get_or (tables_of s).integers p 0 ≡ byte s q
  byte_named a b n = ap (λ (p : ℕ). get_or (tables_of s).integers p 0) a ∙ n ∙ ap (byte s) b

  pub tc_is : (i : ℕ) → i < 21 → tc (tables_of s).doubles i ≡ double_at s (component_record i + (Kinds.component).tc)
  tc_is i h = ap (λ (p : ℕ). get_or (tables_of s).doubles p nan) (let a : 2 * i ≡ 2 * i + 0 = omega arith in a) ∙ critical_at i 0 h (omega arith)

  pub mmi_gerg_is : (i : ℕ) → i < 21 → mmi_gerg (tables_of s).doubles i ≡ double_at s (component_record i + (Kinds.component).mass)
  mmi_gerg_is i h = critical_at i 1 h (omega arith)

  pub n0i_is : (i j : ℕ) → i < 21 → j < 7 → n0i (tables_of s).doubles i j ≡ double_at s (component_record i + (Kinds.component).ideal + 8 * j)
  n0i_is i j h g =
      double_named (let a : 42 + 11 * i + j ≡ 42 + (11 * i + j) = omega arith in a) refl (ideal_at i j h (omega arith))

  pub th0i_is : (i j : ℕ) → i < 21 → j < 4 → th0i (tables_of s).doubles i j ≡ double_at s (component_record i + (Kinds.component).ideal + 8 * (7 + j))
  th0i_is i j h g =
      double_named (let a : 49 + 11 * i + j ≡ 42 + (11 * i + (7 + j)) = omega arith in a) refl (ideal_at i (7 + j) h (omega arith))

  pub kpol_is : (i : ℕ) → i < 21 → kpol (tables_of s).integers i ≡ byte s (component_record i + (Kinds.component).counts)
  kpol_is i h =
      byte_named (let a : 2 * i ≡ 2 * i + 0 = omega arith in a)
      (let b : component_record i + (Kinds.component).counts + 0 ≡ component_record i + (Kinds.component).counts = omega arith in b) (count_at i 0 h (omega arith))

  pub kexp_is : (i : ℕ) → i < 21 → kexp (tables_of s).integers i ≡ byte s (component_record i + (Kinds.component).counts + 1)
  kexp_is i h = count_at i 1 h (omega arith)

  pub noik_is : (i k : ℕ) → i < 21 → k < 24 → k < terms_of s i → noik (tables_of s).doubles i k ≡ double_at s (term_record s l i k + (Kinds.term).doubles)
  noik_is i k h g t =
      double_named (let a : 273 + 48 * i + 2 * k ≡ 273 + (48 * i + (2 * k + 0)) = omega arith in a) (let b : term_record s l i k + (Kinds.term).doubles + 8 * 0 ≡ term_record s l i k + (Kinds.term).doubles = omega arith in b) (term_at i k 0 h g (omega arith) t)

  pub toik_is : (i k : ℕ) → i < 21 → k < 24 → k < terms_of s i → toik (tables_of s).doubles i k ≡ double_at s (term_record s l i k + (Kinds.term).doubles + 8)
  toik_is i k h g t =
      double_named (let a : 274 + 48 * i + 2 * k ≡ 273 + (48 * i + (2 * k + 1)) = omega arith in a) (let b : term_record s l i k + (Kinds.term).doubles + 8 * 1 ≡ term_record s l i k + (Kinds.term).doubles + 8 = omega arith in b) (term_at i k 1 h g (omega arith) t)

  pub coik_is : (i k : ℕ) → i < 21 → k < 24 → k < terms_of s i → coik (tables_of s).integers i k ≡ byte s (term_record s l i k + (Kinds.term).exponents)
  coik_is i k h g t =
      byte_named (let a : 42 + 48 * i + 2 * k ≡ 42 + (48 * i + (2 * k + 0)) = omega arith in a) (let b : term_record s l i k + (Kinds.term).exponents + 0 ≡ term_record s l i k + (Kinds.term).exponents = omega arith in b) (term_byte_at i k 0 h g (omega arith) t)

  pub doik_is : (i k : ℕ) → i < 21 → k < 24 → k < terms_of s i → doik (tables_of s).integers i k ≡ byte s (term_record s l i k + (Kinds.term).exponents + 1)
  doik_is i k h g t =
      byte_named (let a : 43 + 48 * i + 2 * k ≡ 42 + (48 * i + (2 * k + 1)) = omega arith in a) (let b : term_record s l i k + (Kinds.term).exponents + 1 ≡ term_record s l i k + (Kinds.term).exponents + 1 = omega arith in b) (term_byte_at i k 1 h g (omega arith) t)

  pub btij_is : (i j : ℕ) → i ≤ j → j < 21 → btij (tables_of s).doubles i j ≡ double_at s (pair_record l i j + (Kinds.pair).doubles)
  btij_is i j h g =
      double_named (let a : 1281 + 105 * i + 5 * j ≡ 1281 + (105 * i + (5 * j + 0)) = omega arith in a) (let b : pair_record l i j + (Kinds.pair).doubles + 8 * 0 ≡ pair_record l i j + (Kinds.pair).doubles = omega arith in b) (pair_at i j 0 h g (omega arith))

  pub bvij_is : (i j : ℕ) → i ≤ j → j < 21 → bvij (tables_of s).doubles i j ≡ double_at s (pair_record l i j + (Kinds.pair).doubles + 8)
  bvij_is i j h g =
      double_named (let a : 1282 + 105 * i + 5 * j ≡ 1281 + (105 * i + (5 * j + 1)) = omega arith in a) (let b : pair_record l i j + (Kinds.pair).doubles + 8 * 1 ≡ pair_record l i j + (Kinds.pair).doubles + 8 = omega arith in b) (pair_at i j 1 h g (omega arith))

  pub gtij_is : (i j : ℕ) → i ≤ j → j < 21 → gtij (tables_of s).doubles i j ≡ double_at s (pair_record l i j + (Kinds.pair).doubles + 16)
  gtij_is i j h g =
      double_named (let a : 1283 + 105 * i + 5 * j ≡ 1281 + (105 * i + (5 * j + 2)) = omega arith in a) (let b : pair_record l i j + (Kinds.pair).doubles + 8 * 2 ≡ pair_record l i j + (Kinds.pair).doubles + 16 = omega arith in b) (pair_at i j 2 h g (omega arith))

  pub gvij_is : (i j : ℕ) → i ≤ j → j < 21 → gvij (tables_of s).doubles i j ≡ double_at s (pair_record l i j + (Kinds.pair).doubles + 24)
  gvij_is i j h g =
      double_named (let a : 1284 + 105 * i + 5 * j ≡ 1281 + (105 * i + (5 * j + 3)) = omega arith in a) (let b : pair_record l i j + (Kinds.pair).doubles + 8 * 3 ≡ pair_record l i j + (Kinds.pair).doubles + 24 = omega arith in b) (pair_at i j 3 h g (omega arith))

  pub fij_is : (i j : ℕ) → i ≤ j → j < 21 → fij (tables_of s).doubles i j ≡ double_at s (pair_record l i j + (Kinds.pair).doubles + 32)
  fij_is i j h g =
      double_named (let a : 1285 + 105 * i + 5 * j ≡ 1281 + (105 * i + (5 * j + 4)) = omega arith in a) (let b : pair_record l i j + (Kinds.pair).doubles + 8 * 4 ≡ pair_record l i j + (Kinds.pair).doubles + 32 = omega arith in b) (pair_at i j 4 h g (omega arith))

  pub m_numb_is : (i j : ℕ) → i ≤ j → j < 21 → m_numb (tables_of s).integers i j ≡ byte s (pair_record l i j + (Kinds.pair).number)
  m_numb_is i j h g = byte_named (let a : 1050 + 21 * i + j ≡ 1050 + (21 * i + (1 * j + 0)) = omega arith in a) refl (pair_byte_at i j h g)

  pub kpolij_is : (m : ℕ) → m < 10 → m < l.count → kpolij (tables_of s).integers m ≡ byte s (function_record l m + (Kinds.function).counts)
  kpolij_is m h t =
      byte_named (let a : 1491 + 2 * m ≡ 1491 + (2 * m + 0) = omega arith in a) (let b : function_record l m + (Kinds.function).counts + 0 ≡ function_record l m + (Kinds.function).counts = omega arith in b) (function_at m 0 h (omega arith) t)

  pub kexpij_is : (m : ℕ) → m < 10 → m < l.count → kexpij (tables_of s).integers m ≡ byte s (function_record l m + (Kinds.function).counts + 1)
  kexpij_is m h t =
      byte_named (let a : 1492 + 2 * m ≡ 1491 + (2 * m + 1) = omega arith in a) (let b : function_record l m + (Kinds.function).counts + 1 ≡ function_record l m + (Kinds.function).counts + 1 = omega arith in b) (function_at m 1 h (omega arith) t)

  pub cijk_is : (m k : ℕ) → m < 10 → k < 12 → k < departures_of s l.functions l.count m → cijk (tables_of s).doubles m k ≡ double_at s (departure_record s l m k + (Kinds.departure).doubles)
  cijk_is m k h g t =
      double_named (let a : 3486 + 60 * m + 5 * k ≡ 3486 + (60 * m + (5 * k + 0)) = omega arith in a) (let b : departure_record s l m k + (Kinds.departure).doubles + 8 * 0 ≡ departure_record s l m k + (Kinds.departure).doubles = omega arith in b) (departure_at m k 0 h g (omega arith) t)

  pub eijk_is : (m k : ℕ) → m < 10 → k < 12 → k < departures_of s l.functions l.count m → eijk (tables_of s).doubles m k ≡ double_at s (departure_record s l m k + (Kinds.departure).doubles + 8)
  eijk_is m k h g t =
      double_named (let a : 3487 + 60 * m + 5 * k ≡ 3486 + (60 * m + (5 * k + 1)) = omega arith in a) (let b : departure_record s l m k + (Kinds.departure).doubles + 8 * 1 ≡ departure_record s l m k + (Kinds.departure).doubles + 8 = omega arith in b) (departure_at m k 1 h g (omega arith) t)

  pub gijk_is : (m k : ℕ) → m < 10 → k < 12 → k < departures_of s l.functions l.count m → gijk (tables_of s).doubles m k ≡ double_at s (departure_record s l m k + (Kinds.departure).doubles + 16)
  gijk_is m k h g t =
      double_named (let a : 3488 + 60 * m + 5 * k ≡ 3486 + (60 * m + (5 * k + 2)) = omega arith in a) (let b : departure_record s l m k + (Kinds.departure).doubles + 8 * 2 ≡ departure_record s l m k + (Kinds.departure).doubles + 16 = omega arith in b) (departure_at m k 2 h g (omega arith) t)

  pub nijk_is : (m k : ℕ) → m < 10 → k < 12 → k < departures_of s l.functions l.count m → nijk (tables_of s).doubles m k ≡ double_at s (departure_record s l m k + (Kinds.departure).doubles + 24)
  nijk_is m k h g t =
      double_named (let a : 3489 + 60 * m + 5 * k ≡ 3486 + (60 * m + (5 * k + 3)) = omega arith in a) (let b : departure_record s l m k + (Kinds.departure).doubles + 8 * 3 ≡ departure_record s l m k + (Kinds.departure).doubles + 24 = omega arith in b) (departure_at m k 3 h g (omega arith) t)

  pub tijk_is : (m k : ℕ) → m < 10 → k < 12 → k < departures_of s l.functions l.count m → tijk (tables_of s).doubles m k ≡ double_at s (departure_record s l m k + (Kinds.departure).doubles + 32)
  tijk_is m k h g t =
      double_named (let a : 3490 + 60 * m + 5 * k ≡ 3486 + (60 * m + (5 * k + 4)) = omega arith in a) (let b : departure_record s l m k + (Kinds.departure).doubles + 8 * 4 ≡ departure_record s l m k + (Kinds.departure).doubles + 32 = omega arith in b) (departure_at m k 4 h g (omega arith) t)

  pub dijk_is : (m k : ℕ) → m < 10 → k < 12 → k < departures_of s l.functions l.count m
      → dijk (tables_of s).integers m k ≡ byte s (departure_record s l m k + (Kinds.departure).exponent)
  dijk_is m k h g t = byte_named (let a : 1511 + 12 * m + k ≡ 1511 + (12 * m + (1 * k + 0)) = omega arith in a) refl (departure_byte_at m k h g t)
