-- "Each record is one kind byte and a body whose length the kind fixes": the kind, the bytes of the whole record, kind byte included, and where its numbers begin, counted from the kind byte.
use Rattle.std.specs.Prelude.{ℕ}

-- "1, revision: the 40 ASCII characters": the first record, past which the components begin
pub record Revision : Type 0 where
  pub kind : ℕ
  pub size : ℕ

abbrev pub revision : Revision
revision = record { kind = 1; size = 41 }

-- "2, component, Tc, MMiGERG, kpol, kexp, n0i 1 to 7, th0i 4 to 7, 107"
pub record Component : Type 0 where
  pub kind : ℕ
  pub size : ℕ
  pub tc : ℕ
  pub mass : ℕ
  pub counts : ℕ
  pub ideal : ℕ

abbrev pub component : Component
component = record { kind = 2; size = 108; tc = 2; mass = 10; counts = 18; ideal = 20 }

-- "3, component, term, coik s, doik s, noik, toik, 20"
pub record Term : Type 0 where
  pub kind : ℕ
  pub size : ℕ
  pub exponents : ℕ
  pub doubles : ℕ

abbrev pub term : Term
term = record { kind = 3; size = 21; exponents = 3; doubles = 5 }

-- "4, i, j, btij, bvij, gtij, gvij, fij, mNumb s, 43"
pub record Pair : Type 0 where
  pub kind : ℕ
  pub size : ℕ
  pub doubles : ℕ
  pub number : ℕ

abbrev pub pair : Pair
pair = record { kind = 4; size = 44; doubles = 3; number = 43 }

-- "5, departure function, kpolij, kexpij, 3"
pub record Function : Type 0 where
  pub kind : ℕ
  pub size : ℕ
  pub counts : ℕ

abbrev pub function : Function
function = record { kind = 5; size = 4; counts = 2 }

-- "6, departure function, term, dijk s, cijk, eijk, gijk, nijk, tijk, 43"
pub record Departure : Type 0 where
  pub kind : ℕ
  pub size : ℕ
  pub exponent : ℕ
  pub doubles : ℕ

abbrev pub departure : Departure
departure = record { kind = 6; size = 44; exponent = 3; doubles = 4 }
