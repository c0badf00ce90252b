-- What is known of a frame, and what of it stays if less is known: static bytes without protection, open calls.
use Rattle.std.proofs.Common.{◌≡◌, ℕ, None, ◌-◌, ◌<◌, Bool, true, false, cond, List, [], ◌∷◌, length, refl, arith}
use Rattle.std.specs.Prelude.{nat_lt, filter, flat_map}
use Rattle.std.proofs.lemmas.Bool.{ltb-false, lt-ltb}
use Rattle.model_prove.specs.model_machine.specs.Frame.{Frame, floor}
use Rattle.model_prove.specs.model_machine.specs.Primitives.{Around}
use Rattle.model_prove.specs.Sets.{Set, is_in}
use Rattle.model_prove.specs.Facts.{Facts, Memory, Holds}
use Rattle.model_prove.specs.Keys.{Start, Delegated, OfClass, Call, Tables, calls_before, calls_below}
use Rattle.model_prove.specs.Arrivals.{Arrival}
use Rattle.model_prove.specs.Steps.{arounds}
use Rattle.model_prove.specs.Tables.{includes_all}
use Rattle.law_prove.specs.Coverings.{moment_memory, frame_memory, AreOpen}
use Rattle.law_prove.proofs.Closed.{included_first}
use Rattle.law_prove.proofs.Parts.{memory_static}

-- ---- what is known of a frame

-- where nothing waits a static byte is read as power would leave it
pub static_read : (f : Frame) (public session : List ℕ) (a : ℕ) → f.pieces ≡ [] → a < length f.fixed → frame_memory f public a ≡ moment_memory f.fixed session a
static_read f public session a none low = grind (arith, lt-ltb, memory_static)

kept_by : (b : Bool) (e : ℕ × Set) (rest : Facts) (m : Memory) → is_in (m e.0) e.1 ≡ true → Holds rest m → Holds (cond b (e ∷ rest) rest) m
kept_by true e rest m is h = (is, h)
kept_by false e rest m is h = h

-- facts hold with some left out
pub filter_holds : (test : ℕ × Set → Bool) (f : Facts) (m : Memory) → Holds f m → Holds (filter test f) m
filter_holds test [] m h = tt
filter_holds test (e ∷ f) m h = kept_by (test e) e (filter test f) m h.0 (filter_holds test f m h.1)

-- ---- open calls

open_if : (b : Bool) (floor top lb : ℕ) (dyn : List ℕ) (c : Call) (cs rest : List Call) → AreOpen floor top lb dyn (c ∷ cs) → AreOpen floor (c.dt - 4) c.lb dyn rest → AreOpen floor top lb dyn (cond b [] (c ∷ rest))
open_if true floor top lb dyn c cs rest o more = tt
open_if false floor top lb dyn c cs rest o more = (o.0, o.1, o.2, o.3, o.4, more)

-- calls that are open stay so without some of the oldest
pub open_before : (lost : Call → Bool) (floor top lb : ℕ) (dyn : List ℕ) (cs : List Call) → AreOpen floor top lb dyn cs → AreOpen floor top lb dyn (calls_before lost cs)
open_before lost floor top lb dyn [] o = tt
open_before lost floor top lb dyn (c ∷ cs) o = open_if (lost c) floor top lb dyn c cs (calls_before lost cs) o (open_before lost floor (c.dt - 4) c.lb dyn cs o.5)

below_if : (b : Bool) (floor top dt lb : ℕ) (dyn : List ℕ) (c : Call) (cs rest : List Call) → nat_lt dt c.dt ≡ b → AreOpen floor top lb dyn (c ∷ cs) → AreOpen floor (c.dt - 4) c.lb dyn rest → AreOpen floor dt lb dyn (cond b [] (c ∷ rest))
below_if true floor top dt lb dyn c cs rest e o more = tt
below_if false floor top dt lb dyn c cs rest e o more = (ltb-false dt c.dt e, o.1, o.2, o.3, o.4, more)

-- those that end at or below DT are open below it
pub open_below : (floor top dt lb : ℕ) (dyn : List ℕ) (cs : List Call) → AreOpen floor top lb dyn cs → AreOpen floor dt lb dyn (calls_below dt cs)
open_below floor top dt lb dyn [] o = tt
open_below floor top dt lb dyn (c ∷ cs) o =
    below_if (nat_lt dt c.dt) floor top dt lb dyn c cs (calls_below dt cs) refl o (open_before (λ (c : Call). nat_lt dt c.dt) floor (c.dt - 4) c.lb dyn cs o.5)

-- ---- one outcome

-- who delegated to a frame does not matter to a row that does not ask
pub around_none : (t : Tables) (f : Around → List Arrival) (start : Start) → includes_all t (flat_map f (arounds start None)) ≡ true → includes_all t (f (record { case = 1; delegator = None })) ≡ true
around_none t f Delegated e = included_first t (f (record { case = 1; delegator = None })) [] e
around_none t f (OfClass class) e = included_first t (f (record { case = 1; delegator = None })) [] e
