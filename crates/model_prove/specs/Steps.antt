-- The outcomes of the instruction at a place: by its row's causes and shape for each combination of the bytes that decide
-- it, with the facts of the bytes that it moves, and the digits rule for those that it works on.
use Rattle.std.specs.Prelude.{ℕ, suc, ◌+◌, ◌-◌, Bool, true, false, cond, not, ◌&&◌, ◌||◌, nat_lt, nat_le, ◌==◌, List, [], ◌∷◌, ◌++◌, length, map, flat_map, filter, reverse, replicate, Option, Some, None, Result, Ok, Err}
use Rattle.model_rules.specs.model_machine.specs.declared.instruction.Ins.{Ins}
use Rattle.model_rules.specs.model_machine.specs.declared.instruction.DecodeFault.{DecodeFault}
use Rattle.model_rules.specs.model_machine.specs.declared.instruction.DecodeFault.TheVariants.{Undefined, Past}
use Rattle.model_rules.specs.model_machine.specs.declared.machine.Abend.{Abend}
use Rattle.model_rules.specs.model_machine.specs.declared.machine.Abend.TheVariants.{A01, A02, A03, A04, A05, A06, A07, A08, A09, A0A}
use Rattle.model_rules.specs.model_device.specs.Bytes.{num, bytes2, zeros}
use Rattle.model_rules.specs.model_machine.specs.Code.{instruction_at}
use Rattle.model_rules.specs.model_machine.specs.Frame.{Frame, dynamic_base, public_base, is_outside, no_return}
use Rattle.model_rules.specs.model_machine.specs.Primitives.{Around, Then, Goes, Exits, Delegates, Primitive, DelegatorAid, primitive}
use Rattle.model_rules.specs.model_machine.specs.Row.{causes, first_cause}
use Rattle.model_rules.specs.model_machine.specs.Chain.{frame_at}
use Rattle.model_rules.specs.model_machine.specs.declared.instruction.Ins.TheVariants as ins
use Rattle.model_rules.specs.model_machine.specs.Shapes.{Act, Stays, Answers, Jumps, Calls, Returns, Pushes, Replaces, Writes, Protects, Shape, shape}
use Rattle.model_rules.specs.Keeping.{Amounts}
use Rattle.model_prove.specs.Sets.{Set, is_in, all_bytes, common, is_empty, union, numbers_from}
use Rattle.model_prove.specs.Facts.{Facts, values_at, values_from, know, know_all, know_bytes, within, without_bytes, narrow, narrow_all}
use Rattle.model_prove.specs.Compares.{Compare, NoCompare, Bounds, Ordered, Orders, Span, touched, compare_below, greatest, orders_of, span_added, span_subtracted, allows_span, allows_orders}
use Rattle.model_prove.specs.Digits.{Operation, Plus, Minus, And, Or, Xor, Flags, Digits, arcs, digits_to}
use Rattle.model_prove.specs.Keys.{Start, Delegated, OfClass, Call, PlaceKey, Known, calls_after_write, calls_below}
use Rattle.model_prove.specs.Splits.{Scene, stand_in, with_values, deciders, later_deciders, Choice, combinations, few_combinations}
use Rattle.model_prove.specs.Reach.{Reach, Coarse, PushesAny, Shifts, Compares, WritesWithin, Leads, coarse, some_reached, facts_not_reached, compare_not_reached, calls_hit, may_have_bad_length, may_miss, known_causes, target_choices, takes_target}
use Rattle.model_prove.specs.Reach as reach
use Rattle.model_prove.specs.Work.{Operand, AtAddress, These, Digitwise, Work, AsShaped, Copies, Works, Searches, AnyZ, Counted, NoFact, work}
use Rattle.model_prove.specs.Arrivals.{Setting, Arrival, AtPlace, AtMoment, Breaks, Lost, arrive, static_size, settled, idle, stopped, abended, fails, after_turn, Lengths, lengths_of, la_at, some_value, exited}

-- ---- a place and what is known there

-- a place with what is known there
pub record Spot : Type 0 where
  pub key : PlaceKey
  pub known : Known

-- with these facts of bytes
abbrev pub with_facts : Spot → Facts → Spot
with_facts p f = record p { known = record p.known { bytes = f } }

-- after n bytes at an address were written, whose values are of these sets
abbrev pub written : ℕ → List Set → Spot → Spot
written a ss p =
    record {
      key = record p.key { calls = calls_after_write a (length ss) p.key.calls };
      known = record p.known { bytes = know_all a ss p.known.bytes; compare = touched a (length ss) p.known.compare };
    }

-- DT is at most this: the dynamic bytes above it are lost
abbrev pub lowered : ℕ → Spot → Spot
lowered dt p =
    record {
      key = record p.key { dt = dt; calls = calls_below dt p.key.calls };
      known = record p.known {
        bytes = without_bytes dt (public_base - dt) p.known.bytes;
        compare = touched dt (public_base - dt) p.known.compare;
      };
    }

-- after these bytes were pushed
abbrev pub pushed : List Set → Spot → Spot
pushed ss p = let q = written p.key.dt ss p in record q { key = record q.key { dt = p.key.dt + length ss } }

-- the sets of known bytes
abbrev pub sets : List ℕ → List Set
sets b = map (λ v. v ∷ []) b

-- n bytes without a fact
abbrev pub any_bytes : ℕ → List Set
any_bytes n = replicate n all_bytes

-- bytes behind their number: the number is known, and each of them has no fact
abbrev pub counted_sets : List ℕ → List Set
counted_sets [] = []
counted_sets (n ∷ b) = (n ∷ []) ∷ any_bytes (length b)

-- ---- acts

-- status and length of the reply, if they are set
abbrev pub answer_set : ℕ → Option ℕ → Spot → Spot
answer_set a None p = p
answer_set a (Some v) p = written a (sets (bytes2 v)) p

-- the code goes on at a place, if a jump is taken
abbrev pub jumped : Bool → ℕ → Spot → Spot
jumped true to p = record p { key = record p.key { at = to } }
jumped false to p = p

-- a call: its four bytes are pushed, and it is open
abbrev pub called : ℕ → Spot → Spot
called to p =
    let k = p.key in
    let q = pushed (sets (bytes2 k.lb ++ bytes2 k.at)) p in
    record q { key = record q.key { lb = k.dt + 4; at = to; calls = record { dt = k.dt + 4; lb = k.lb; at = k.at } ∷ q.key.calls } }

-- a call, if it is taken
abbrev pub called_if : Bool → ℕ → Spot → Spot
called_if true to p = called to p
called_if false to p = p

-- a return through the newest call, which leaves those before it open, with these values of the bytes that move over it
-- and the bytes below it
abbrev pub returned : Call → List Call → ℕ → List Set → Spot → Spot
returned c cs to ss p =
    let q = record p { key = record p.key { lb = c.lb; at = c.at; calls = cs } } in
    lowered (to + length ss) (written to ss q)

-- a return, if a call is open
abbrev pub returned_by : List Call → ℕ → List Set → Spot → Spot
returned_by [] to ss p = p
returned_by (c ∷ cs) to ss p = returned c cs to ss p

-- a commit (1, 3) keeps what is read, and 0 and 2 read what is kept; the protection is on after 2 and 3
abbrev pub protection_set : Setting → ℕ → Spot → Spot
protection_set s mode p =
    let static = within 0 (static_size s) p.known.bytes in
    let key = record p.key { protected = nat_le 2 mode } in
    cond (mode == 1 || mode == 3) (record { key = key; known = record p.known { kept = static } }) (record {
      key = key;
      known = record p.known {
        bytes = p.known.kept ++ within (static_size s) 65536 p.known.bytes;
        compare = cond p.key.protected (touched 0 (static_size s) p.known.compare) p.known.compare;
      };
    })

-- what an act does to a place, with these values of the bytes that it writes or pushes; DT is already lowered
abbrev pub acted : Setting → Act → List Set → Spot → Spot
acted s Stays ss p = p
acted s (Answers sw la) ss p = answer_set la_at la (answer_set (la_at + 2) sw p)
acted s (Jumps taken to) ss p = jumped taken to p
acted s (Calls taken to) ss p = called_if taken to p
acted s (Returns less more) ss p = returned_by p.key.calls (p.key.lb - 4 - less) ss p
acted s (Pushes b) ss p = pushed ss p
acted s (Replaces b) ss p = written (p.key.dt - length ss) ss p
acted s (Writes a n b) ss p = written a ss p
acted s (Protects mode) ss p = protection_set s mode p

-- the bytes of an act that its shape says
abbrev pub shaped_bytes : Act → List ℕ
shaped_bytes (Pushes b) = b
shaped_bytes (Replaces b) = b
shaped_bytes (Writes a n b) = b
shaped_bytes act = []

-- the values of the bytes that an act moves by itself: those on top that a return leaves
abbrev pub returned_sets : Act → Facts → ℕ → List Set
returned_sets (Returns less more) f dt = values_from f (dt - more) more
returned_sets act f dt = sets (shaped_bytes act)

-- ---- digits

-- the sets of n bytes of an operand
abbrev pub operand_sets : Facts → Operand → ℕ → List Set
operand_sets f (AtAddress a) n = values_from f a n
operand_sets f (These b) n = sets b

-- two lists as pairs
abbrev pub pairs_of : List Set → List Set → List (Set × Set)
pairs_of [] ts = []
pairs_of (s ∷ ss) [] = []
pairs_of (s ∷ ss) (t ∷ ts) = (s, t) ∷ pairs_of ss ts

-- the facts with an operand narrowed
abbrev pub operand_narrowed : Operand → List Set → Option Facts → Option Facts
operand_narrowed (AtAddress a) ss f = narrow_all a ss f
operand_narrowed (These b) ss f = f

-- the constant that an operand is
abbrev pub constant_of : Operand → Option ℕ
constant_of (AtAddress a) = None
constant_of (These b) = Some (num b)

-- the numbers that lead to these flags, when a constant is added or subtracted, or a number tested
abbrev pub span_of : Operation → ℕ → ℕ → Flags → Span
span_of Plus n k f = span_added n k f.c f.z
span_of Minus n k f = span_subtracted n k f.c f.z
span_of op n k f = cond f.z (0, 0) (1, greatest n)

-- whether an operation is that of a test
abbrev pub is_or : Operation → Bool
is_or Or = true
is_or op = false

-- whether the operation is one that the last compare speaks of: an addition, a subtraction, or the test of TESTN
abbrev pub is_ordered : Digitwise → Bool
is_ordered d = d.carries || (not d.written && is_or d.op)

-- whether the last compare allows the flags of a subtraction of two blocks
abbrev pub allows_subtraction : Compare → Digitwise → ℕ → Flags → Operation → Bool
allows_subtraction c d a f Minus = allows_orders c d.at d.n a (orders_of f.c f.z)
allows_subtraction c d a f op = true

-- whether the last compare allows these flags
abbrev pub allows : Compare → Digitwise → Operand → Flags → Bool
allows c d (These b) f = not (is_ordered d) || allows_span c d.at d.n (span_of d.op d.n (num b) f)
allows c d (AtAddress a) f = allows_subtraction c d a f d.op

-- the compare that the flags of a comparison leave
abbrev pub compare_left : Digitwise → Operand → Flags → Compare
compare_left d (These b) f = let s = span_of d.op d.n (num b) f in Bounds d.at d.n s.0 s.1
compare_left d (AtAddress a) f = Ordered d.at d.n a (orders_of f.c f.z)

-- the last compare after an operation that writes nothing: that of a comparison or a test, else the one before
abbrev pub compare_after : Digitwise → Flags → Compare → Compare
compare_after d f c = cond (is_ordered d) (compare_left d d.operand f) c

-- the place after an operation whose digits are these, highest first: the result is written over the first operand, or
-- both are narrowed
abbrev pub worked_at : Digitwise → Flags → List Digits → Option Facts → Spot → List Spot
worked_at d f ds None p = []
worked_at d f ds (Some facts) p =
    cond d.written (written d.at (map (λ e. e.r) ds) (with_facts p facts) ∷ [])
    (record p { known = record p.known { bytes = facts; compare = compare_after d f p.known.compare } } ∷ [])

-- the facts of the operands on the digits
abbrev pub narrowed_operands : Digitwise → List Digits → Facts → Option Facts
narrowed_operands d ds f =
    let second = operand_narrowed d.operand (map (λ e. e.b) ds) (Some f) in
    cond d.written second (narrow_all d.at (map (λ e. e.a) ds) second)

-- the places after an operation that ends with these flags, if some way leads to them
abbrev pub worked : Digitwise → Flags → Option (List Digits) → Spot → List Spot
worked d f None p = []
worked d f (Some ds) p = worked_at d f (reverse ds) (narrowed_operands d (reverse ds) p.known.bytes) p

-- a place with these flags; rows without a carry leave C
abbrev pub flagged : Bool → Flags → Spot → Spot
flagged true f p = record p { key = record p.key { c = f.c; z = f.z } }
flagged false f p = record p { key = record p.key { z = f.z } }

-- the final flags of an operation: rows without a carry end with none
abbrev pub final_flags : Bool → List Flags
final_flags true = record { c = false; z = false } ∷ record { c = false; z = true } ∷ record { c = true; z = false } ∷ record { c = true; z = true } ∷ []
final_flags false = record { c = false; z = false } ∷ record { c = false; z = true } ∷ []

-- the places after an operation, by its final flags
abbrev pub works_to : Digitwise → Spot → List Spot
works_to d p =
    let lists = map (arcs d.op) (reverse (pairs_of (values_from p.known.bytes d.at d.n) (operand_sets p.known.bytes d.operand d.n))) in
    flat_map (λ f. cond (allows p.known.compare d d.operand f) (map (flagged d.carries f) (worked d f (digits_to f lists) p)) []) (final_flags d.carries)

-- ---- searches

-- whether a value is the only one of a set
abbrev pub is_only : ℕ → Set → Bool
is_only v s = nat_le (length s) 1 && is_in v s

-- whether a value may be none of a table's bytes
abbrev pub may_pass : ℕ → List Set → Bool
may_pass v [] = true
may_pass v (s ∷ ss) = not (is_only v s) && may_pass v ss

-- the indices at which a value may be found first
abbrev pub found_at : ℕ → ℕ → List Set → List ℕ
found_at v i [] = []
found_at v i (s ∷ ss) =
    let rest = found_at v (suc i) ss in
    (cond (is_in v s) (i ∷ []) []) ++ (cond (is_only v s) [] rest)

-- the places after an index was pushed
abbrev pub found : Bool → ℕ → Spot → Spot
found z i p = let q = pushed ((i ∷ []) ∷ []) p in record q { key = record q.key { z = z } }

-- each index once
abbrev pub each_index : Set → List Set → Set
each_index [] table = []
each_index (v ∷ vs) table = union (found_at v 0 table) (each_index vs table)

-- the places after a search of a table for a byte of this set: found at each index that the sets allow, or not found
abbrev pub searched : Set → List Set → Spot → List Spot
searched vs table p =
    map (λ i. found true i p) (each_index vs table) ++ (cond (some_value (λ v. may_pass v table) vs) (found false 0 p ∷ []) [])

-- ---- what follows a row

-- the place with the flags of a shape
abbrev pub with_flags : Option (Bool × Bool) → Spot → Spot
with_flags None p = p
with_flags (Some cz) p = record p { key = record p.key { c = cz.0; z = cz.1 } }

-- the places after a row's act, by what it works on. Facts are taken from the place before, and bytes that are popped go
-- before bytes are pushed.
abbrev pub spots : Setting → Shape → Work → Spot → List Spot
spots s h AsShaped p = with_flags h.flags (acted s h.act (returned_sets h.act p.known.bytes p.key.dt) (lowered h.dt p)) ∷ []
spots s h (Copies from) p =
    with_flags h.flags (acted s h.act (values_from p.known.bytes from (length (shaped_bytes h.act))) (lowered h.dt p)) ∷ []
spots s h (Works d) p = map (lowered h.dt) (works_to d p)
spots s h (Searches value table n) p = searched (values_at p.known.bytes value) (values_from p.known.bytes table n) (lowered h.dt p)
spots s h AnyZ p = flagged false (record { c = false; z = true }) (lowered h.dt p) ∷ flagged false (record { c = false; z = false }) (lowered h.dt p) ∷ []
spots s h Counted p = with_flags h.flags (acted s h.act (counted_sets (shaped_bytes h.act)) (lowered h.dt p)) ∷ []
spots s h NoFact p = with_flags h.flags (acted s h.act (any_bytes (length (shaped_bytes h.act))) (lowered h.dt p)) ∷ []

-- whether a row changes what power leaves: a write of static bytes that does not wait, or a commit under protection
abbrev pub makes_write : Setting → Bool → Act → Bool
makes_write s protected (Writes a n b) = not protected && nat_lt a (static_size s)
makes_write s protected (Protects mode) = protected && (mode == 1 || mode == 3)
makes_write s protected act = false

-- whether more than 64 words may wait: a write of static bytes under protection, of more than 512
abbrev pub may_wait_too_long : Setting → Bool → Act → Bool
may_wait_too_long s protected (Writes a n b) = protected && nat_lt a (static_size s) && nat_lt 512 (static_size s)
may_wait_too_long s protected act = false

-- the stops of a write, which leave the bytes before it, or after it with its event
abbrev pub stops : Bool → Setting → Spot → Spot → Amounts → List Arrival
stops true s p q a = stopped s p.key.start a q.known.kept
stops false s p q a = []

-- a stop that leaves the bytes before a write
abbrev pub stop_before : Bool → Setting → Spot → List Arrival
stop_before true s p = stopped s p.key.start p.key.allowances p.known.kept
stop_before false s p = []

-- a spot with these allowances
abbrev pub arrived : Spot → Amounts → Arrival
arrived p a = AtPlace (record p.key { allowances = a }) p.known

-- the abends of a delegate: each but 09
abbrev pub delegate_abends : List Abend
delegate_abends = A01 ∷ A02 ∷ A03 ∷ A04 ∷ A05 ∷ A06 ∷ A07 ∷ A08 ∷ A0A ∷ []

-- what a delegation leaves: nothing of public bytes, nor of what lies above them
abbrev pub after_delegation : Spot → Spot
after_delegation p =
    record p {
      known = record p.known {
        bytes = within 0 public_base p.known.bytes;
        compare = compare_below public_base p.known.compare;
      };
    }

-- the exit of a frame: abend 09 where a reply may be too long, and the exit where one may not
abbrev pub exits_from : Setting → Ins → Start → Lengths → Spot → Spot → List Arrival
exits_from s i Delegated la p q = after_turn s p.key i q.key.dt q.key.c q.key.z (exited s Delegated q.known)
exits_from s i (OfClass class) la p q =
    (cond la.too_long (fails s p.key p.known A09) [])
    ++ (cond la.fitting (after_turn s p.key i q.key.dt q.key.c q.key.z (exited s (OfClass class) q.known)) [])

-- what follows a row that leads from a place to another, by what comes next
abbrev pub follows : Setting → Ins → Bool → Then → Spot → Spot → List Arrival
follows s i writes Goes p q = stop_before writes s p ++ after_turn s p.key i q.key.dt q.key.c q.key.z (λ a. arrived q a ∷ stops writes s p q a)
follows s i writes Exits p q =
    exits_from s i p.key.start (lengths_of (values_at q.known.bytes la_at) (values_at q.known.bytes (la_at + 1))) p q
follows s i writes (Delegates n) p q =
    after_turn s p.key i q.key.dt q.key.c q.key.z (λ a.
    arrived (after_delegation q) a ∷ (flat_map (abended s p.key.start a q.known) delegate_abends ++ stopped s p.key.start a q.known.kept))

-- a place whose statics are what power leaves, where nothing waits
abbrev pub settled_spot : Setting → Spot → Spot
settled_spot s p = record p { known = settled s p.key.protected p.known }

-- ---- returns without an open call

-- whether an act is a return
abbrev pub is_return : Act → Bool
is_return (Returns less more) = true
is_return act = false

-- whether no call is open
abbrev pub no_calls : List Call → Bool
no_calls [] = true
no_calls (c ∷ cs) = false

-- ---- an instruction

-- a row that is done: of a return without an open call control is not known
abbrev pub row_arrivals : Bool → Setting → Ins → Shape → Work → Spot → Spot → List Arrival
row_arrivals true s i h w p q = Lost p.key.at ∷ []
row_arrivals false s i h w p q =
    (cond (may_wait_too_long s p.key.protected h.act) (fails s p.key p.known A08) [])
    ++ flat_map (λ r. follows s i (makes_write s p.key.protected h.act) h.next p (settled_spot s r)) (spots s h w q)

-- a row by its first cause
abbrev pub caused : Option Abend → Setting → Ins → Shape → Work → Spot → Spot → List Arrival
caused (Some cause) s i h w p q = fails s p.key p.known cause
caused None s i h w p q = row_arrivals (is_return h.act && no_calls p.key.calls) s i h w p q

-- an instruction by itself, in a scene that stands for the place: before it the place p, and after its fetch q
abbrev pub instruction : Setting → Ins → Scene → Spot → Spot → Around → List Arrival
instruction s i e p q x =
    caused (first_cause (causes i e.frame e.public x)) s i (shape i e.frame e.public x) (work i e.frame e.public) p q

-- what a frame may know of who delegated to it: nobody, or a name of 5 to 16 bytes
abbrev pub arounds : Start → Option Primitive → List Around
arounds Delegated (Some DelegatorAid) = map (λ n. record { case = 1; delegator = Some (zeros n) }) (numbers_from 5 12)
arounds start p = record { case = 1; delegator = None } ∷ []

-- the primitive of an instruction
abbrev pub primitive_of : Ins → Option Primitive
primitive_of (ins.Prim set number args) = primitive set number
primitive_of i = None

-- with this choice of the bytes that decide
abbrev pub chosen : Choice → Spot → Spot
chosen [] p = p
chosen (e ∷ es) p = chosen es (with_facts p (know e.0 (e.1 ∷ []) p.known.bytes))

-- an instruction with one combination of the bytes that decide it
abbrev pub with_choice : Setting → Ins → Scene → Spot → Spot → Choice → List Arrival
with_choice s i e p q c =
    flat_map (instruction s i (with_values e c) p (chosen c q)) (arounds p.key.start (primitive_of i))

-- the bytes of a list that lie in a segment
abbrev pub inside : Scene → List ℕ → List ℕ
inside e places = filter (λ a. not (is_outside e.frame a 1)) places

-- an instruction after its first choice, with the bytes that then decide
abbrev pub with_first_choice : Setting → Ins → Scene → Spot → Spot → Choice → List Arrival
with_first_choice s i e p q c =
    let f = with_values e c in
    flat_map (λ d. with_choice s i e p q (c ++ d)) (combinations p.known.bytes (inside f (later_deciders i f.frame)))

-- ---- too many combinations

-- the flags of a comparison of bytes that are not known
abbrev pub order_flags : List Flags
order_flags = record { c = true; z = false } ∷ record { c = false; z = true } ∷ record { c = false; z = false } ∷ []

-- a place without a last compare
abbrev pub uncompared : Spot → Spot
uncompared p = record p { known = record p.known { compare = NoCompare } }

-- a place after a write within a reach that hit or spared these calls
abbrev pub reached_spot : Frame → Reach → Spot → List Call → Spot
reached_spot f r p calls =
    record {
      key = record p.key { calls = calls };
      known = record p.known { bytes = facts_not_reached f r p.known.bytes; compare = compare_not_reached f r p.known.compare };
    }

-- the places after a row of too many combinations; DT is already lowered
abbrev pub coarse_spots : Frame → Option (Bool × Bool) → Coarse → Spot → List Spot
coarse_spots f flags (PushesAny n) p = pushed (any_bytes n) p ∷ []
coarse_spots f flags (Shifts n) p = map (λ g. flagged true g (written (p.key.dt - n) (any_bytes n) p)) (final_flags true)
coarse_spots f flags Compares p = map (λ g. uncompared (flagged true g p)) order_flags
coarse_spots f flags reach.Searches p = map (λ g. flagged false g (pushed (any_bytes 1) p)) (final_flags false)
coarse_spots f flags (WritesWithin r) p = map (λ cs. with_flags flags (reached_spot f r p cs)) (calls_hit f r p.key.calls)
coarse_spots f flags Leads p = with_flags flags p ∷ []

-- a row that writes nothing after all
abbrev pub coarse_for : Act → Coarse → Coarse
coarse_for Stays (WritesWithin r) = Leads
coarse_for act c = c

-- whether a row may reach static bytes
abbrev pub reaches_static : Setting → Frame → Coarse → Bool
reaches_static s f (WritesWithin r) = some_reached f r 0 (static_size s)
reaches_static s f c = false

-- what follows a row of too many combinations, unless the key decides an abend
abbrev pub coarse_done : Option Abend → Setting → Ins → Frame → Shape → Coarse → Spot → Spot → List Arrival
coarse_done (Some cause) s i f h c p q = fails s p.key p.known cause
coarse_done None s i f h c p q =
    let static = reaches_static s f c in
    (cond (static && p.key.protected && nat_lt 512 (static_size s)) (fails s p.key p.known A08) [])
    ++ flat_map (λ r. follows s i (static && not p.key.protected) h.next p (settled_spot s r)) (coarse_spots f h.flags c (lowered h.dt q))

-- the outcomes of a row of too many combinations
abbrev pub coarse_arrivals : Setting → Ins → Scene → Spot → Spot → Around → List Arrival
coarse_arrivals s i e p q x =
    let h = shape i e.frame e.public x in
    let prim = primitive_of i in
    let bad = may_have_bad_length prim in
    let c = coarse_for h.act (coarse i e.frame p.known.bytes) in
    (cond (may_miss prim c) (fails s p.key p.known A03) [])
    ++ (cond bad (fails s p.key p.known A06) [])
    ++ coarse_done (first_cause (known_causes bad (causes i e.frame e.public x))) s i (record e.frame { dt = h.dt }) h c p q

-- what a row of too many combinations knows around it
abbrev pub coarse_around : Start → Around
coarse_around Delegated = record { case = 1; delegator = Some (zeros 5) }
coarse_around (OfClass class) = record { case = 1; delegator = None }

-- the outcomes of an instruction by the combinations of the bytes that decide it: each by itself, if they are few; of a
-- jump from the stack each place; else coarsely
abbrev pub by_choices : Option (List Choice) → Bool → Setting → Ins → Scene → Spot → Spot → List Arrival
by_choices (Some cs) jump s i e p q = flat_map (with_first_choice s i e p q) cs
by_choices None true s i e p q = flat_map (with_choice s i e p q) (target_choices p.known.bytes (p.key.dt - 2) (length s.app.code))
by_choices None false s i e p q = coarse_arrivals s i e p q (coarse_around p.key.start)

-- the outcomes of what was fetched
abbrev pub fetched : Setting → Spot → Result (Ins × ℕ) DecodeFault → List Arrival
fetched s p (Err Undefined) = fails s p.key p.known A01
fetched s p (Err Past) = fails s p.key p.known A02
fetched s p (Ok i) =
    let e = stand_in s.app p.key in
    let g = record e { frame = frame_at e.frame i.1 } in
    let q = record p { key = record p.key { at = i.1 } } in
    by_choices (few_combinations p.known.bytes (inside g (deciders i.0 g.frame))) (takes_target i.0) s i.0 g p q

-- The outcomes of a place: the budget may end there, and its instruction is done or abends.
abbrev pub place_arrivals : Setting → PlaceKey → Known → List Arrival
place_arrivals s key k =
    abended s key.start key.allowances k A07 ++ fetched s (record { key = key; known = k }) (instruction_at s.app.code key.at)
