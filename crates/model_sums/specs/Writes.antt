-- What is known for sums after bytes were written, popped or loaded: origins go with bytes, a block that is written as
-- a whole moves, and every other write ends what it touches.
use Rattle.std.specs.Prelude.{ℕ, ◌+◌, Bool, true, false, cond, not, ◌&&◌, ◌||◌, nat_le, ◌==◌, List, [], ◌∷◌, length, flat_map, filter, Option, Some, None}
use Rattle.model_prove.specs.model_machine.specs.Frame.{public_base}
use Rattle.model_prove.specs.model_rules.specs.Rules.{Total}
use Rattle.model_prove.specs.Compares.{meet}
use Rattle.model_sums.specs.Forms.{Form, number, plus, negative}
use Rattle.model_sums.specs.Origins.{Origin, unknowns, with_origins, origins_below, without_public}
use Rattle.model_sums.specs.Sums.{More, Sums, evens}

-- ---- a write

-- the sum of two forms, if both are known
abbrev pub plus_if : Option Form → Option Form → Option Form
plus_if (Some f) (Some g) = Some (plus f g)
plus_if f g = None

-- minus a form, if it is known
abbrev pub negative_if : ℕ → Option Form → Option Form
negative_if n (Some f) = Some (negative n f)
negative_if n None = None

-- whether n bytes at one address are just the m at another
abbrev pub is_block : ℕ → ℕ → ℕ → ℕ → Bool
is_block a n b m = a == b && n == m

-- By how much a total is off after n bytes at an address were written, by which their number became more by a form, if
-- that is known. It is if they are its whole block, or none of it.
abbrev pub off_after : ℕ → ℕ → Option Form → Total → Option Form → Option Form
off_after a n by t off = cond (meet a n t.at t.n) (cond (is_block a n t.at t.n) (plus_if off by) None) off

-- by how much each is
abbrev pub offs_after : ℕ → ℕ → Option Form → List Total → List (Option Form) → List (Option Form)
offs_after a n by [] os = []
offs_after a n by (t ∷ ts) [] = []
offs_after a n by (t ∷ ts) (o ∷ os) = off_after a n by t o ∷ offs_after a n by ts os

-- a loaded block with another form, if it is known
abbrev pub with_form : More → Option Form → List More
with_form r None = []
with_form r (Some f) = record r { form = f } ∷ []

-- A loaded block after that write: it is more by the form where it is written as a whole, less where that is the block
-- that it was loaded from, and not known where one of them is written in part.
abbrev pub more_after : ℕ → ℕ → Option Form → More → List More
more_after a n by r =
    cond (meet a n r.from r.n) (cond (is_block a n r.from r.n && not (meet a n r.at r.n)) (with_form r (plus_if (Some r.form) (negative_if n by))) []) (
    cond (meet a n r.at r.n) (cond (is_block a n r.at r.n) (with_form r (plus_if (Some r.form) by)) []) (r ∷ [])
    )

-- What is known after bytes that come from these origins were written at an address, by which their number became more
-- by a form, if that is known.
abbrev pub wrote : List Total → ℕ → List Origin → Option Form → Sums → Sums
wrote ts a gs by u =
    record {
      origins = with_origins a gs u.origins;
      mores = flat_map (more_after a (length gs) by) u.mores;
      offs = offs_after a (length gs) by ts u.offs;
    }

-- after n bytes were written that are not known
abbrev pub wrote_any : List Total → ℕ → ℕ → Sums → Sums
wrote_any ts a n u = wrote ts a (unknowns n) None u

-- ---- the stack

-- DT is at most this: what lies above it is forgotten
abbrev pub popped : ℕ → Sums → Sums
popped dt u = record u { origins = origins_below dt u.origins; mores = filter (λ r. nat_le (r.at + r.n) dt) u.mores }

-- whether n bytes at an address are the block of a total
abbrev pub is_total_block : List Total → ℕ → ℕ → Bool
is_total_block [] a n = false
is_total_block (t ∷ ts) a n = is_block a n t.at t.n || is_total_block ts a n

-- with a block of a total that was loaded
abbrev pub loaded : Bool → ℕ → ℕ → ℕ → Sums → Sums
loaded true to from n u = record u { mores = record { at = to; from = from; n = n; form = number 0 } ∷ u.mores }
loaded false to from n u = u

-- how much more the n bytes at an address are than those at another, if that is known
abbrev pub more_of : List More → ℕ → ℕ → ℕ → Option Form
more_of [] a b n = None
more_of (r ∷ rs) a b n = cond (r.at == a && r.from == b && r.n == n) (Some r.form) (more_of rs a b n)

-- ---- what is lost

-- what waits is dropped: each total that power would leave holds, and blocks that were loaded are gone
abbrev pub dropped : Bool → List Total → Sums → Sums
dropped true ts u = record u { mores = []; offs = evens ts }
dropped false ts u = u

-- public bytes are any
abbrev pub delegated : Sums → Sums
delegated u =
    record u {
      origins = without_public u.origins;
      mores = filter (λ r. nat_le (r.at + r.n) public_base && nat_le (r.from + r.n) public_base) u.mores;
    }
