-- The keys of the two tables, what is known at each, and the tables: moments between commands at which power may go, and
-- places of the code. No key depends on how much is known.
use Rattle.std.specs.Prelude.{ℕ, ◌+◌, ◌-◌, Bool, true, false, cond, not, ◌&&◌, ◌||◌, nat_lt, nat_le, ◌==◌, List, [], ◌∷◌, ◌++◌, length, filter, bytes_eq, Option, Some, None}
use Rattle.model_rules.specs.model_machine.specs.Frame.{dynamic_base}
use Rattle.model_rules.specs.Keeping.{Amounts}
use Rattle.model_prove.specs.Facts.{Facts, within, join, follow}
use Rattle.model_prove.specs.Compares.{Compare, NoCompare, Bounds, Ordered, Orders, join_compare, meet, touched}
use Rattle.model_prove.specs.Digits.{same}

-- how a frame began: by a delegation, or by a command of a class, which states of each `command` and `answer` line, in
-- their order, whether the bytes of the command match
pub data Start : Type 0 where
  Delegated : Start
  OfClass : (class : List Bool) → Start

-- An open call: DT right above its four saved bytes, the saved LB, and the saved place.
pub record Call : Type 0 where
  pub dt : ℕ
  pub lb : ℕ
  pub at : ℕ

-- the key of a place of the code; the newest open call comes first
pub record PlaceKey : Type 0 where
  pub at : ℕ
  pub start : Start
  pub allowances : Amounts
  pub c : Bool
  pub z : Bool
  pub dt : ℕ
  pub lb : ℕ
  pub protected : Bool
  pub calls : List Call

-- the key of a moment between commands: whether the application is selected
pub record MomentKey : Type 0 where
  pub selected : Bool
  pub allowances : Amounts

-- What is known at a place: of all bytes as the application reads them, of the static bytes as power would leave them,
-- and the last compare.
pub record Known : Type 0 where
  pub bytes : Facts
  pub kept : Facts
  pub compare : Compare

-- both tables, each key once
pub record Tables : Type 0 where
  pub moments : List (MomentKey × Facts)
  pub places : List (PlaceKey × Known)

-- ---- which keys are the same

-- whether two lists are the same by a test of their elements
abbrev pub same_lists : {A : Type 0} → (A → A → Bool) → List A → List A → Bool
same_lists test [] [] = true
same_lists test [] (y ∷ ys) = false
same_lists test (x ∷ xs) [] = false
same_lists test (x ∷ xs) (y ∷ ys) = test x y && same_lists test xs ys

-- whether two allowances are the same
abbrev pub same_amounts : Amounts → Amounts → Bool
same_amounts a b = same_lists (λ x y. bytes_eq x.0 y.0 && x.1 == y.1) a b

-- whether two frames began alike
abbrev pub same_starts : Start → Start → Bool
same_starts Delegated Delegated = true
same_starts (OfClass a) (OfClass b) = same_lists same a b
same_starts s t = false

-- whether two calls are the same
abbrev pub same_calls : Call → Call → Bool
same_calls c d = c.dt == d.dt && c.lb == d.lb && c.at == d.at

-- whether two places are the same
abbrev pub same_places : PlaceKey → PlaceKey → Bool
same_places k l =
    k.at == l.at
    && k.dt == l.dt
    && k.lb == l.lb
    && same k.c l.c
    && same k.z l.z
    && same k.protected l.protected
    && same_starts k.start l.start
    && same_amounts k.allowances l.allowances
    && same_lists same_calls k.calls l.calls

-- whether two moments are the same
abbrev pub same_moments : MomentKey → MomentKey → Bool
same_moments k l = same k.selected l.selected && same_amounts k.allowances l.allowances

-- ---- joining

-- what holds whichever of two states it is
abbrev pub join_known : Known → Known → Known
join_known k l = record { bytes = join k.bytes l.bytes; kept = join k.kept l.kept; compare = join_compare k.compare l.compare }

-- whether one compare says what another does, or less
abbrev pub compare_follows : Compare → Compare → Bool
compare_follows c NoCompare = true
compare_follows (Bounds a n l h) (Bounds b m k i) = a == b && n == m && nat_le k l && nat_le h i
compare_follows (Ordered a n c o) (Ordered b m d p) =
    a == b && n == m && c == d && (not o.less || p.less) && (not o.equal || p.equal) && (not o.greater || p.greater)
compare_follows c d = false

-- whether what is known second follows from what is known first
abbrev pub known_follows : Known → Known → Bool
known_follows k l = follow k.bytes l.bytes && follow k.kept l.kept && compare_follows k.compare l.compare

-- ---- what stays known where bytes are lost

-- calls up to the newest that a test says is lost; those before it are lost too
abbrev pub calls_before : (Call → Bool) → List Call → List Call
calls_before lost [] = []
calls_before lost (c ∷ cs) = cond (lost c) [] (c ∷ calls_before lost cs)

-- the open calls after n bytes at an address were written
abbrev pub calls_after_write : ℕ → ℕ → List Call → List Call
calls_after_write a n cs = calls_before (λ c. meet (c.dt - 4) 4 a n) cs

-- the open calls that end at or below DT
abbrev pub calls_below : ℕ → List Call → List Call
calls_below dt cs = calls_before (λ c. nat_lt dt c.dt) cs

-- the greatest number of an address, plus one
abbrev pub addresses : ℕ
addresses = 65536
