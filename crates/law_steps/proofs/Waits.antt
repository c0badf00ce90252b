-- The words that wait, computed turn by turn, are those of the frames of each chain.
use Rattle.std.proofs.Common.{◌≡◌, ℕ, zero, suc, ◌+◌, ◌<◌, ◌≤◌, Bool, true, false, cond, ◌||◌, List, [], ◌∷◌, Option, Some, None, Result, Ok, Err, refl, arith, sym, ap, subst, ◌∙◌}
use Rattle.std.specs.Prelude.{get_or, length, nat_le, nat_lt, slice_set}
use Rattle.std.proofs.lemmas.Bool.{or_parts}
use Rattle.std.proofs.lemmas.Bool.Decides.{nat_tests}
use Rattle.std.proofs.lemmas.List.{get_or-set_same, get_or-set_other}
use Rattle.law_family.specs.model_device.specs.Bytes.{lookup, zeros}
use Rattle.law_family.specs.model_device.specs.Card.{App}
use Rattle.law_family.specs.model_device.specs.Pieces.{touched_words}
use Rattle.law_family.specs.model_machine.specs.declared.instruction.Ins.{Ins}
use Rattle.law_family.specs.model_machine.specs.declared.instruction.DecodeFault.{DecodeFault}
use Rattle.law_family.specs.model_machine.specs.declared.instruction.DecodeFault.TheVariants.{Undefined, Past}
use Rattle.law_family.specs.model_machine.specs.Code.{instruction_at}
use Rattle.law_family.specs.model_machine.specs.Frame.{Frame, la_of, new_frame}
use Rattle.law_family.specs.model_machine.specs.Primitives.{Then, Goes, Exits, Delegates}
use Rattle.law_family.specs.model_machine.specs.Row.{RowEnd, Abends, Does, row}
use Rattle.law_family.specs.model_machine.specs.Chain.{Abended, Chain, Follows, Continues, Ends, after_exit, around, called_app, chain_after_call, chain_after_effect, code_in, depth_of, end_of, follows, frame_at, is_active, reply_of, row_turn, turn_of, turn_of_chain, turn_of_fetch}
use Rattle.law_family.specs.model_machine.specs.declared.machine.Abend.TheVariants.{A09}
use Rattle.law_family.specs.law_rows.specs.Keeping.{OnDone}
use Rattle.law_steps.specs.Nexts.{OpensOf}
use Rattle.law_steps.specs.Registers.{mode_of}
use Rattle.law_steps.specs.Replays.{OnNext}
use Rattle.law_steps.specs.Writes.{AllWait, IsRoomy, WaitIn, WaitsOf, WritesLaw, called_waits, chain_span, ins_span, moves_in, now_of, turn_moves, waits_after, waits_by, waits_of, writes_of_words}
use Rattle.law_steps.proofs.TurnWrites.{TurnPays, moves_are, turn_pays}

-- ---- by depth

set_length : (ws : List (List ℕ)) (i : ℕ) (w : List ℕ) → length (slice_set ws i w) ≡ length ws
set_length [] i w = refl
set_length (v ∷ ws) zero w = refl
set_length (v ∷ ws) (suc i) w = ap (λ (n : ℕ). suc n) (set_length ws i w)

set_there : (ws : List (List ℕ)) (i : ℕ) (w : List ℕ) → i < length ws → get_or (slice_set ws i w) i [] ≡ w
set_there ws i w h = get_or-set_same ws i w [] h

set_below : (ws : List (List ℕ)) (i j : ℕ) (w : List ℕ) → j < i → get_or (slice_set ws i w) j [] ≡ get_or ws j []
set_below ws i j w h = get_or-set_other ws i j w [] (λ e. omega (arith, e, h))

wait_as : (v w : List ℕ) (f : Frame) → v ≡ w → WaitIn w f → WaitIn v f
wait_as v w f e h = subst (λ (u : List ℕ). WaitIn u f) (sym e) h

-- frames below a depth keep what waits
all_below : (ws : List (List ℕ)) (fs : List Frame) (i : ℕ) (w : List ℕ) → length fs ≤ i → AllWait ws fs → AllWait (slice_set ws i w) fs
all_below ws [] i w h all = tt
all_below ws (f ∷ fs) i w h all =
    let less : length fs < i = omega (arith, h) in
    (wait_as (get_or (slice_set ws i w) (length fs) []) (get_or ws (length fs) []) f (set_below ws i (length fs) w less) all.0, all_below ws fs i w (omega (arith, h)) all.1)

not_deeper : (d : ℕ) (c : Chain) (ws : List (List ℕ)) → depth_of c ≤ d → called_waits d (Continues c) ws ≡ ws
not_deeper d c ws h =
    let less : nat_lt d (length c.below + 1) ≡ false = grind (arith, nat_tests, h) in
    ap (λ (b : Bool). cond b (slice_set ws d []) ws) less

deeper : (d : ℕ) (c : Chain) (ws : List (List ℕ)) → d < depth_of c → called_waits d (Continues c) ws ≡ slice_set ws d []
deeper d c ws h =
    let more : nat_lt d (length c.below + 1) ≡ true = grind (arith, nat_tests, h) in
    ap (λ (b : Bool). cond b (slice_set ws d []) ws) more

-- ---- what follows

-- the words that wait are those of the chain that follows one at a depth
abbrev NextWaits : ℕ → List (List ℕ) → Follows → Type 0
NextWaits d own f = OnNext (λ c. WaitsOf (called_waits d (Continues c) own) c) f

-- the chain goes on at its depth or above
stays_waits : (d : ℕ) (own : List (List ℕ)) (c : Chain) → depth_of c ≤ d → WaitsOf own c → WaitsOf (called_waits d (Continues c) own) c
stays_waits d own c h w = subst (λ (xs : List (List ℕ)). WaitsOf xs c) (sym (not_deeper d c own h)) w

new_wait : (n : List ℕ) (code deny : ℕ) (fixed session : List ℕ) → WaitIn [] (new_frame n code deny fixed session)
unfolding touched_words
new_wait n code deny fixed session = record { words = refl; few = omega arith; none = λ h. refl }

app_waits : (ch : Chain) (n : List ℕ) (a : App) (b : Bool) (own : List (List ℕ)) → (b ≡ false → nat_le 4 (depth_of ch) ≡ false) → WaitsOf own ch → NextWaits (depth_of ch) own (Continues (called_app b ch n a))
app_waits ch n a true own low w = stays_waits (depth_of ch) own (called_app true ch n a) (omega arith) (record { size = w.size; few = w.few; all = w.all })
app_waits ch n a false own low w =
    let d : ℕ = length ch.below in
    let shallow : nat_le 4 (d + 1) ≡ false = low refl in
    let few : d + 1 ≤ 3 = grind (arith, nat_tests, shallow) in
    let c : Chain = called_app false ch n a in
    let size = w.size in
    let there : get_or (slice_set own (d + 1) []) (suc d) [] ≡ [] = ap (λ (k : ℕ). get_or (slice_set own (d + 1) []) k []) (omega arith) ∙ set_there own (d + 1) [] (omega (arith, few, size)) in
    subst (λ (xs : List (List ℕ)). WaitsOf xs c) (sym (deeper (d + 1) c own (omega arith)))
    (record {
      size = set_length own (d + 1) [] ∙ size;
      few = omega (arith, few);
      all = (wait_as (get_or (slice_set own (d + 1) []) (suc d) []) [] c.frame there (new_wait n (length a.code) a.deny a.fixed (zeros a.session)), all_below own (ch.frame ∷ ch.below) (d + 1) [] (omega arith) w.all);
    })

call_waits : (ch : Chain) (n : List ℕ) (o : Option App) (own : List (List ℕ)) → WaitsOf own ch → NextWaits (depth_of ch) own (Continues (chain_after_call ch n o))
call_waits ch n None own w = stays_waits (depth_of ch) own (chain_after_call ch n None) (omega arith) (record { size = w.size; few = w.few; all = w.all })
call_waits ch n (Some a) own w =
    let active = is_active n ch.frame ch.below in
    app_waits ch n a (active || nat_le 4 (depth_of ch)) own (λ e. (or_parts active (nat_le 4 (depth_of ch)) e).1) w

last_waits : (ch : Chain) (d : ℕ) (own : List (List ℕ)) (b : Bool) → NextWaits d own (cond b (Ends (Abended A09)) (Ends (reply_of ch)))
last_waits ch d own true = tt
last_waits ch d own false = tt

exit_waits : (ch : Chain) (fs : List Frame) (d : ℕ) (own : List (List ℕ)) → length fs ≤ d → length own ≡ 4 → length fs ≤ 3 → AllWait own fs → NextWaits d own (after_exit ch fs)
exit_waits ch [] d own low size few all = last_waits ch d own (nat_lt 1024 (la_of ch.public))
exit_waits ch (f ∷ fs) d own low size few all = stays_waits d own (record ch { frame = f; below = fs }) (omega (arith, low)) (record { size = size; few = omega (arith, few); all = all })

follows_waits : (ch : Chain) (t : Then) (own : List (List ℕ)) → WaitsOf own ch → NextWaits (depth_of ch) own (follows ch t)
follows_waits ch Goes own w = stays_waits (depth_of ch) own ch (omega arith) w
follows_waits ch Exits own w = let few = w.few in exit_waits ch ch.below (depth_of ch) own (omega arith) w.size few w.all.1
follows_waits ch (Delegates n) own w = call_waits ch n (lookup ch.map n) own w

-- ---- turns

-- the words that wait by depth, with those of the frame that ran a turn after it
abbrev own_after : List (List ℕ) → Chain → Ins → Follows → List (List ℕ)
own_after ws ch i f = slice_set ws (length ch.below) (waits_of (end_of f) (Some i) (chain_span ch) ch.frame.protected (get_or ws (length ch.below) []))

row_waits : (ch c : Chain) (i : Ins) (r : RowEnd) (ws : List (List ℕ)) → WaitsOf ws ch → OnDone r (λ d. TurnPays i ch (get_or ws (length ch.below) []) d) → (row_turn ch i r).follows ≡ Continues c
    → (let t = row_turn ch i r in WaitsOf (called_waits (depth_of ch) t.follows (slice_set ws (length ch.below) (waits_of t.turn.end t.turn.ins (chain_span ch) ch.frame.protected (get_or ws (length ch.below) [])))) c)
row_waits ch c i (Abends a) ws w pays h = absurd (cc h)
row_waits ch c i (Does d) ws w pays h =
    let k : ℕ = length ch.below in
    let mine : List ℕ = get_or ws k [] in
    let next : List ℕ = waits_by (mode_of i) ch.frame.protected (ins_span i ch.frame ch.public (around ch)) mine in
    let own : List (List ℕ) = slice_set ws k next in
    let after : Chain = chain_after_effect ch d.effect in
    let few = w.few in
    let size = w.size in
    let there : get_or own k [] ≡ next = set_there ws k next (omega (arith, few, size)) in
    let here : WaitsOf own after =
    record { size = set_length ws k next ∙ size; few = few; all = (wait_as (get_or own k []) next d.effect.frame there pays.waits, all_below ws ch.below k next (omega arith) w.all.1) }
    in
    let all : NextWaits (depth_of ch) own (follows after d.next) = follows_waits after d.next own here in
    let one : WaitsOf (called_waits (depth_of ch) (Continues c) own) c = subst (λ (f : Follows). NextWaits (depth_of ch) own f) h all in
    subst (λ (f : Follows). WaitsOf (called_waits (depth_of ch) f (own_after ws ch i f)) c) (sym h) one

fetch_waits : (ch c : Chain) (r : Result (Ins × ℕ) DecodeFault) (ws : List (List ℕ)) → WaitsOf ws ch → IsRoomy ch.frame ch.public → (turn_of_fetch ch r).follows ≡ Continues c
    → (let t = turn_of_fetch ch r in WaitsOf (called_waits (depth_of ch) t.follows (slice_set ws (length ch.below) (waits_of t.turn.end t.turn.ins (chain_span ch) ch.frame.protected (get_or ws (length ch.below) [])))) c)
fetch_waits ch c (Err Undefined) ws w room h = absurd (cc h)
fetch_waits ch c (Err Past) ws w room h = absurd (cc h)
fetch_waits ch c (Ok i) ws w room h = row_waits ch c i.0 (row i.0 (frame_at ch.frame i.1) ch.public (around ch)) ws w (turn_pays i.0 ch i.1 (get_or ws (length ch.below) []) room w.all.0) h

turn_waits : (n : ℕ) (ch c : Chain) (ws : List (List ℕ)) → WaitsOf ws ch → IsRoomy ch.frame ch.public → (turn_of n ch).follows ≡ Continues c
    → (let t = turn_of n ch in WaitsOf (called_waits (depth_of ch) t.follows (slice_set ws (length ch.below) (waits_of t.turn.end t.turn.ins (chain_span ch) ch.frame.protected (get_or ws (length ch.below) [])))) c)
unfolding turn_of_chain
turn_waits zero ch c ws w room h = absurd (cc h)
turn_waits (suc n) ch c ws w room h = fetch_waits ch c (instruction_at (code_in (lookup ch.map ch.frame.name)) ch.frame.at) ws w room h

-- ---- the law

waits : (n : ℕ) (ch c : Chain) (os : List Bool) (ws : List (List ℕ)) → OpensOf os ch → WaitsOf ws ch → IsRoomy ch.frame ch.public → (turn_of n ch).follows ≡ Continues c → WaitsOf (waits_after n ch os ws) c
waits n ch c os ws o w room h =
    let t = (turn_of n ch).turn in
    subst (λ (on : Bool). WaitsOf (called_waits (depth_of ch) (turn_of n ch).follows (slice_set ws (length ch.below) (waits_of t.end t.ins (chain_span ch) on (get_or ws (length ch.below) [])))) c) (sym o.all.0)
    (turn_waits n ch c ws w room h)

device_writes : (n : ℕ) (ch : Chain) (os : List Bool) (ws : List (List ℕ)) → OpensOf os ch → WaitsOf ws ch → IsRoomy ch.frame ch.public → moves_in os ws n ch ≡ turn_moves n ch
device_writes n ch os ws o w room =
    let t = (turn_of n ch).turn in
    ap (λ (on : Bool). writes_of_words (now_of t.end t.ins (chain_span ch) on (get_or ws (length ch.below) []))) o.all.0 ∙ moves_are n ch (get_or ws (length ch.below) []) room w.all.0

-- the words that wait, computed turn by turn, are those of each frame
pub writes_law : WritesLaw
writes_law = record { moves = device_writes; waits = waits }
