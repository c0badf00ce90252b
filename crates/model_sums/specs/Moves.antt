-- Where what is known for sums goes with a row, by its act and by what it works on.
use Rattle.std.specs.Prelude.{ℕ, suc, ◌+◌, ◌-◌, ◌*◌, Bool, true, false, cond, not, ◌&&◌, ◌||◌, nat_lt, nat_le, ◌==◌, List, [], ◌∷◌, ◌++◌, length, map, flat_map, filter, Option, Some, None}
use Rattle.model_prove.specs.model_machine.specs.declared.instruction.Ins.{Ins}
use Rattle.model_prove.specs.model_machine.specs.declared.instruction.Ins.TheVariants as ins
use Rattle.model_prove.specs.model_device.specs.Bytes.{num}
use Rattle.model_prove.specs.model_machine.specs.Frame.{Frame, dynamic_base, dynamic_end, public_base, public_end}
use Rattle.model_prove.specs.model_machine.specs.Primitives.{Then, Goes, Exits, Delegates}
use Rattle.model_prove.specs.model_machine.specs.Shapes.{Act, Stays, Answers, Jumps, Calls, Returns, Pushes, Replaces, Writes, Protects, Shape}
use Rattle.model_prove.specs.model_rules.specs.Rules.{Total}
use Rattle.model_prove.specs.Sets.{numbers_from}
use Rattle.model_prove.specs.Digits.{Operation, Plus, Minus, And, Or, Xor}
use Rattle.model_prove.specs.Keys.{PlaceKey}
use Rattle.model_prove.specs.Reach.{Reach, is_reached, some_reached, Coarse, PushesAny, Shifts, Compares, Searches, WritesWithin, Leads}
use Rattle.model_prove.specs.Work.{Operand, AtAddress, These, Digitwise, Work, AsShaped, Copies, Works, AnyZ, Counted, NoFact}
use Rattle.model_prove.specs.Work as work
use Rattle.model_prove.specs.Arrivals.{la_at}
use Rattle.model_sums.specs.Forms.{Form, number}
use Rattle.model_sums.specs.Origins.{Origin, Unknown, ConstantByte, Origins, origins_from, unknowns}
use Rattle.model_sums.specs.Sums.{Sums}
use Rattle.model_sums.specs.Operations.{form_of_operand, moved_by}
use Rattle.model_sums.specs.Writes.{wrote, wrote_any, popped, is_total_block, loaded, more_of, dropped, delegated}

-- ---- acts

-- two bytes of the reply, if they are set
abbrev pub answer_wrote : List Total → ℕ → Option ℕ → Sums → Sums
answer_wrote ts a None u = u
answer_wrote ts a (Some v) u = wrote_any ts a 2 u

-- What is known after an act, where bytes that it writes or pushes come from these origins, and their number becomes
-- more by a form, if that is known; DT is already lowered.
abbrev pub acted : List Total → PlaceKey → Act → List Origin → Option Form → Sums → Sums
acted ts k Stays gs by u = u
acted ts k (Answers sw la) gs by u = answer_wrote ts la_at la (answer_wrote ts (la_at + 2) sw u)
acted ts k (Jumps taken to) gs by u = u
acted ts k (Calls taken to) gs by u = cond taken (wrote_any ts k.dt 4 u) u
acted ts k (Returns less more) gs by u = let to = k.lb - 4 - less in popped (to + length gs) (wrote ts to gs by u)
acted ts k (Pushes b) gs by u = wrote ts k.dt gs by u
acted ts k (Replaces b) gs by u = wrote ts (k.dt - length gs) gs by u
acted ts k (Writes a n b) gs by u = wrote ts a gs by u
acted ts k (Protects mode) gs by u = dropped (k.protected && not (mode == 1 || mode == 3)) ts u

-- the number of bytes that an act writes or pushes
abbrev pub size_of : Act → ℕ
size_of (Pushes b) = length b
size_of (Replaces b) = length b
size_of (Writes a n b) = length b
size_of act = 0

-- ---- rows

-- the origins of pushed numbers
abbrev pub constants : List ℕ → List Origin
constants b = map (λ v. ConstantByte v) b

-- whether an instruction pushes a number
abbrev pub pushes_number : Ins → Bool
pushes_number (ins.Pushz n) = true
pushes_number (ins.Pushb b) = true
pushes_number (ins.Pushw w) = true
pushes_number i = false

-- the origins of pushed bytes
abbrev pub pushed_origins : Bool → List ℕ → List Origin
pushed_origins true b = constants b
pushed_origins false b = unknowns (length b)

-- The origins of the bytes that an act moves or pushes by itself: those on top that a return leaves, and pushed
-- numbers.
abbrev pub own_origins : Ins → Act → Origins → ℕ → List Origin
own_origins i (Returns less more) o dt = origins_from o (dt - more) more
own_origins i (Pushes b) o dt = pushed_origins (pushes_number i) b
own_origins i act o dt = unknowns (size_of act)

-- what is known after an operation, if it is written
abbrev pub operated : Bool → List Total → Digitwise → Sums → Sums
operated true ts d u = wrote ts d.at (unknowns d.n) (moved_by d.op d.n (form_of_operand u.origins d.n d.operand)) u
operated false ts d u = u

-- what is known after bytes were copied: a block of a total that is pushed is loaded, and a loaded block that is
-- written over its own moves that
abbrev pub copied : List Total → PlaceKey → Shape → Act → ℕ → Sums → Sums
copied ts k h (Pushes b) from u =
    let n = length b in
    loaded (is_total_block ts from n) h.dt from n (wrote ts h.dt (origins_from u.origins from n) None (popped h.dt u))
copied ts k h (Writes a n b) from u =
    wrote ts a (origins_from u.origins from (length b)) (more_of u.mores from a (length b)) (popped h.dt u)
copied ts k h act from u = acted ts (record k { dt = h.dt }) act (unknowns (size_of act)) None (popped h.dt u)

-- What is known after a row's act, by what it works on. Origins and loaded blocks are taken from what is known
-- before, and bytes that are popped go before bytes are pushed.
abbrev pub moved : List Total → PlaceKey → Ins → Shape → Work → Sums → Sums
moved ts k i h AsShaped u = acted ts (record k { dt = h.dt }) h.act (own_origins i h.act u.origins k.dt) None (popped h.dt u)
moved ts k i h (Copies from) u = copied ts k h h.act from u
moved ts k i h (Works d) u = popped h.dt (operated d.written ts d u)
moved ts k i h (work.Searches v t n) u = wrote_any ts h.dt 1 (popped h.dt u)
moved ts k i h AnyZ u = popped h.dt u
moved ts k i h Counted u = acted ts (record k { dt = h.dt }) h.act (unknowns (size_of h.act)) None (popped h.dt u)
moved ts k i h NoFact u = acted ts (record k { dt = h.dt }) h.act (unknowns (size_of h.act)) None (popped h.dt u)

-- ---- too many combinations

-- the dynamic and public bytes that an access may reach
abbrev pub reached_places : Frame → Reach → List ℕ
reached_places f r =
    filter (is_reached f r) (numbers_from dynamic_base (dynamic_end - dynamic_base) ++ numbers_from public_base (public_end - public_base))

-- by how much totals are off whose blocks are not reached
abbrev pub offs_not_reached : Frame → Reach → List Total → List (Option Form) → List (Option Form)
offs_not_reached f r [] os = []
offs_not_reached f r (t ∷ ts) [] = []
offs_not_reached f r (t ∷ ts) (o ∷ os) = cond (some_reached f r t.at t.n) None o ∷ offs_not_reached f r ts os

-- what is known after a write within a reach
abbrev pub reached : List Total → Frame → Reach → Sums → Sums
reached ts f r u =
    record {
      origins = record u.origins { listed = map (λ a. (a, Unknown)) (reached_places f r) ++ u.origins.listed };
      mores = filter (λ q. not (some_reached f r q.at q.n || some_reached f r q.from q.n)) u.mores;
      offs = offs_not_reached f r ts u.offs;
    }

-- what is known after a row of too many combinations, of a frame whose DT is lowered
abbrev pub moved_coarsely : List Total → Frame → Coarse → Sums → Sums
moved_coarsely ts f (PushesAny n) u = wrote_any ts f.dt n (popped f.dt u)
moved_coarsely ts f (Shifts n) u = wrote_any ts (f.dt - n) n (popped f.dt u)
moved_coarsely ts f Compares u = popped f.dt u
moved_coarsely ts f Searches u = wrote_any ts f.dt 1 (popped f.dt u)
moved_coarsely ts f (WritesWithin r) u = reached ts f r (popped f.dt u)
moved_coarsely ts f Leads u = popped f.dt u

-- ---- delegations

-- what is known where the frame goes on: after a delegation public bytes are any
abbrev pub after_next : Then → Sums → Sums
after_next (Delegates n) u = delegated u
after_next next u = u
