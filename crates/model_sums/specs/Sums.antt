-- What is known for sums at a place: origins of bytes, loaded blocks, and by how much the block of each total is off.
-- It stands beside the facts of the place and is in no key; moments have none, as each total holds between commands.
use Rattle.std.specs.Prelude.{ℕ, Bool, true, false, cond, ◌&&◌, ◌||◌, ◌==◌, List, [], ◌∷◌, map, Option, Some, None}
use Rattle.model_prove.specs.model_rules.specs.Rules.{Total}
use Rattle.model_prove.specs.Keys.{PlaceKey, same_places}
use Rattle.model_sums.specs.Forms.{Form, number, is_zero, same_forms}
use Rattle.model_sums.specs.Origins.{Origins, origins_follow}

-- the n bytes at an address are those at another, as the application reads them, and a form more, modulo 256 ^ n
pub record More : Type 0 where
  pub at : ℕ
  pub from : ℕ
  pub n : ℕ
  pub form : Form

-- What is known: `offs` has for each total, in their order, by how much its block is more than what it is to be, as the
-- application reads block and sums.
pub record Sums : Type 0 where
  pub origins : Origins
  pub mores : List More
  pub offs : List (Option Form)

-- what is known at each place
abbrev pub SumsTable : Type 0
SumsTable = List (PlaceKey × Sums)

-- what is known at a place, if the table has it
abbrev pub sums_at : SumsTable → PlaceKey → Option Sums
sums_at [] k = None
sums_at (e ∷ u) k = cond (same_places e.0 k) (Some e.1) (sums_at u k)

-- that no total is off
abbrev pub evens : List Total → List (Option Form)
evens [] = []
evens (t ∷ ts) = Some (number 0) ∷ evens ts

-- what is known as a frame begins
abbrev pub first_known : List Total → Sums
first_known ts = record { origins = record { own = true; listed = [] }; mores = []; offs = evens ts }

-- whether a total is not off
abbrev pub is_even : Total → Option Form → Bool
is_even t None = false
is_even t (Some f) = is_zero t.n f

-- whether no total is
abbrev pub are_even : List Total → List (Option Form) → Bool
are_even [] os = true
are_even (t ∷ ts) [] = false
are_even (t ∷ ts) (o ∷ os) = is_even t o && are_even ts os

-- ---- what follows

-- whether one of some loaded blocks is this one
abbrev pub has_more : List More → More → Bool
has_more [] q = false
has_more (r ∷ rs) q = (r.at == q.at && r.from == q.from && r.n == q.n && same_forms q.n r.form q.form) || has_more rs q

-- whether each of the second list is in the first
abbrev pub mores_follow : List More → List More → Bool
mores_follow rs [] = true
mores_follow rs (q ∷ qs) = has_more rs q && mores_follow rs qs

-- whether by how much a total is off follows
abbrev pub off_follows : Total → Option Form → Option Form → Bool
off_follows t off None = true
off_follows t None (Some g) = false
off_follows t (Some f) (Some g) = same_forms t.n f g

-- whether it does for each total
abbrev pub offs_follow : List Total → List (Option Form) → List (Option Form) → Bool
offs_follow [] os ps = true
offs_follow (t ∷ ts) os [] = true
offs_follow (t ∷ ts) [] (p ∷ ps) = off_follows t None p && offs_follow ts [] ps
offs_follow (t ∷ ts) (o ∷ os) (p ∷ ps) = off_follows t o p && offs_follow ts os ps

-- whether what is known second follows from what is known first
abbrev pub sums_follow : List Total → Sums → Sums → Bool
sums_follow ts u v = origins_follow u.origins v.origins && mores_follow u.mores v.mores && offs_follow ts u.offs v.offs
