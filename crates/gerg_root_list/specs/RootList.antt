-- The root list: what is tested first, the roots of a scan that are kept, and the answer, whatever a root gives.
use Rattle.std.specs.Prelude.{Bool, false, ◌&&◌, ◌||◌, List, [], ◌∷◌, ◌++◌, ℕ, ◌+◌, ◌-◌, ◌*◌, eqb, ltb, leb, Float, length, get_or, set, Result, Ok, Err}
use Rattle.std.specs.Float.{nan}
use Rattle.std.specs.Float.Ieee.{lt, le}
use Rattle.numerics.specs.Double.{◌⊗◌, bits, pick}
use Rattle.numerics.specs.Iterate.{iter}
use Rattle.gerg_refusals.specs.Answer.{and_then}
use Rattle.gerg_refusals.specs.declared.Refusal.{Refusal}
use Rattle.gerg_refusals.specs.declared.Refusal.TheVariants as refusal
use Rattle.gerg_reducing.specs.declared.GergModel.{GergModel}
use Rattle.gerg_scan_steps.specs.Answers.{mapped}
use Rattle.gerg_scan_steps.specs.Halving.{larger_of}
use Rattle.gerg_scan_steps.specs.declared.Point.{Point}
use Rattle.gerg_scan_steps.specs.declared.Scanned.{Scanned}
use Rattle.gerg_root_list.specs.declared.Root.{Root}

-- "listed component not 1 to 5": row 20
unfoldable pub beyond_five : GergModel → Bool
beyond_five m = iter (λ k b. b || leb 5 (get_or m.component_indices k 0)) m.components false

-- "T not in 230..350 or p not in 1e5..1e7": row 21
unfoldable pub within_envelope : Float → Float → Bool
within_envelope temperature target =
    le (bits 0x406c_c000_0000_0000) temperature && le temperature (bits 0x4075_e000_0000_0000)
    && (le (bits 0x40f8_6a00_0000_0000) target && le target (bits 0x4163_12d0_0000_0000))

-- what a root gives: itself, or a refusal
abbrev pub Outcome : Type 0
Outcome = Result Root Refusal

-- the roots that are kept, or a refusal
abbrev pub Kept : Type 0
Kept = Result (List Root) Refusal

-- the largest residual of a root: max(5e-12 × target, 2e-7)
unfoldable pub limit_of : Float → Float
limit_of target = larger_of (bits 0x3d95_fd7f_e179_6495 ⊗ target) (bits 0x3e8a_d7f2_9abc_af48)

unfoldable pub joined_by : Outcome → List Root → Kept
joined_by outcome k = mapped (λ root. k ++ (root ∷ [])) outcome

-- a root between the points of negative stiffness is dropped; row 22; then what it gives. `root` gives it at each density
unfoldable pub keep_step : (Float → Outcome) → Float → Float → Float → Point → List Root → Kept
keep_step root target first last p k =
    pick (lt first p.density && lt p.density last) (Ok k)
    (pick (lt (limit_of target) p.residual) (Err refusal.RootNotConverged) (joined_by (root p.density) k))

-- what stands past the end of a list of points, and of roots
abbrev pub no_point : Point
no_point = record { density = nan; residual = nan }

abbrev pub no_root : Root
no_root = record { head = []; coefficients = [] }

-- "Dropping interior roots before the whole grid is seen" would be wrong: the whole scan is given
unfoldable pub kept_of : (Float → Outcome) → Float → Scanned → Kept
kept_of root target s =
    iter (λ i k. and_then k (keep_step root target s.scan.first_negative s.scan.last_negative (get_or s.roots.items i no_point))) (length s.roots.items) (Ok [])

-- a refusal of the scan comes before any root is looked at
unfoldable pub found_of : (Float → Outcome) → Float → Result Scanned Refusal → Kept
found_of root target s = and_then s (kept_of root target)

-- doubles needed
abbrev pub needed : GergModel → List Root → ℕ
needed m k = length k * (4 + m.components)

-- "no exterior root": 23; "lent answer too short": 24, last. `lent` is the length of the lent answer
unfoldable pub answer_of : GergModel → ℕ → Kept → Result ℕ Refusal
answer_of m lent kept = and_then kept (λ k. pick (eqb (length k) 0) (Err refusal.NoRoot) (pick (ltb lent (needed m k)) (Err (refusal.TooShort (needed m k))) (Ok (length k))))

-- number j of a root, and the root's m numbers from a place on
unfoldable pub number_at : Root → ℕ → Float
number_at root j = pick (ltb j 4) (get_or root.head j nan) (get_or root.coefficients (j - 4) nan)

unfoldable pub root_written : Root → ℕ → ℕ → List Float → List Float
root_written root m at l = iter (λ j out. set out (at + j) (number_at root j)) m l

unfoldable pub roots_written : List Root → ℕ → ℕ → List Float → List Float
roots_written roots m n l = iter (λ k. root_written (get_or roots k no_root) m (k * m)) n l

-- the roots, none where they are refused
abbrev pub roots_in : Kept → List Root
roots_in (Ok k) = k
roots_in (Err r) = []

-- "Every row leaves all lent memory as it was"
unfoldable pub memory_by : GergModel → Kept → Result ℕ Refusal → List Float → List Float
memory_by m k (Ok n) out = roots_written (roots_in k) (4 + m.components) n out
memory_by m k (Err r) out = out
