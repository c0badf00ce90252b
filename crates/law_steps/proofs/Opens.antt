-- Protection that is computed turn by turn is that of each frame.
use Rattle.std.proofs.Common.{◌≡◌, ◌≢◌, inl, inr, ℕ, zero, suc, ◌+◌, ◌<◌, ◌≤◌, Bool, true, false, cond, List, [], ◌∷◌, Option, Some, None, Result, Ok, Err, refl, arith, sym, ap, subst, ◌∙◌}
use Rattle.std.proofs.lemmas.Bool.Decides.{nat_tests}
use Rattle.std.proofs.lemmas.List.{get_or-set_same, get_or-set_other}
use Rattle.std.specs.Prelude.{get_or, length, nat_lt, slice_set}
use Rattle.law_family.specs.model_device.specs.Bytes.{lookup}
use Rattle.law_family.specs.model_machine.specs.declared.instruction.Ins.{Ins}
use Rattle.law_family.specs.model_machine.specs.declared.instruction.DecodeFault.{DecodeFault}
use Rattle.law_family.specs.model_machine.specs.declared.instruction.DecodeFault.TheVariants.{Undefined, Past}
use Rattle.law_family.specs.model_machine.specs.declared.machine.Abend.{Abend}
use Rattle.law_family.specs.model_machine.specs.Code.{instruction_at}
use Rattle.law_family.specs.model_machine.specs.Frame.{Frame}
use Rattle.law_family.specs.model_machine.specs.Row.{RowEnd, Abends, Does, row}
use Rattle.law_family.specs.model_machine.specs.Chain.{Chain, Follows, Continues, Outcome, Reply, Abended, around, code_in, depth_of, end_of, frame_at, row_turn, turn_of, turn_of_chain, turn_of_fetch}
use Rattle.law_steps.specs.Registers.{frame_after, mode_of, protection_after_mode}
use Rattle.law_steps.specs.Shown.{is_exit_of}
use Rattle.law_steps.specs.Nexts.{AllOpen, CallsFrame, LeavesFrame, Nexts, OpensLaw, OpensOf, RanOn, StaysOn, called_opens, open_after, open_by, open_on, opens_after}
use Rattle.law_steps.proofs.NextFrames.{next_law}
use Rattle.law_steps.proofs.RegistersAfter.{registers_law}

-- ---- a turn after which a frame runs

row_end : (ch c : Chain) (i : Ins) (r : RowEnd) → (row_turn ch i r).follows ≡ Continues c → (row_turn ch i r).turn.end ≡ None
row_end ch c i (Abends a) h = absurd (cc h)
row_end ch c i (Does d) h = ap (λ (f : Follows). end_of f) h

fetch_end : (ch c : Chain) (r : Result (Ins × ℕ) DecodeFault) → (turn_of_fetch ch r).follows ≡ Continues c → (turn_of_fetch ch r).turn.end ≡ None
fetch_end ch c (Err Undefined) h = absurd (cc h)
fetch_end ch c (Err Past) h = absurd (cc h)
fetch_end ch c (Ok i) h = row_end ch c i.0 (row i.0 (frame_at ch.frame i.1) ch.public (around ch)) h

-- a turn after which a frame runs has no end
pub next_end : (n : ℕ) (ch c : Chain) → (turn_of n ch).follows ≡ Continues c → (turn_of n ch).turn.end ≡ None
unfolding turn_of_chain
next_end zero ch c h = absurd (cc h)
next_end (suc n) ch c h = fetch_end ch c (instruction_at (code_in (lookup ch.map ch.frame.name)) ch.frame.at) h

no_abend : (o : Option Outcome) (c : Abend) → o ≡ None → o ≢ Some (Abended c)
no_abend o c e h = absurd (cc (sym e ∙ h))

-- ---- the frame that ran a turn

open_ran : (o : Option Outcome) (ins : Option Ins) (i : Ins) (on : Bool) → o ≡ None → ins ≡ Some i → is_exit_of i ≡ false → open_by o ins on ≡ protection_after_mode (mode_of i) on
open_ran o ins i on end is stays =
    ap (λ (x : Option Outcome). open_by x ins on) end ∙ ap (λ (x : Option Ins). open_on x on) is ∙ ap (λ (b : Bool). cond b false (protection_after_mode (mode_of i) on)) stays

ran_open : (n : ℕ) (ch c : Chain) → (turn_of n ch).follows ≡ Continues c → RanOn (turn_of n ch).turn.ins → open_after n ch ≡ (frame_after n ch).protected
ran_open n ch c next ran =
    let end = next_end n ch c next in
    let t = (turn_of n ch).turn in
    open_ran t.end t.ins ran.0 ch.frame.protected end ran.1 ran.2 ∙ sym (registers_law.protects n ch ran.0 ran.1 (λ a h. no_abend t.end a end h))

kept_by : (n : ℕ) (ch : Chain) (o : Option Outcome) (ins : Option Ins) → (turn_of n ch).turn.end ≡ o → (turn_of n ch).turn.ins ≡ ins → ((i : Ins) → ins ≡ Some i → is_exit_of i ≡ false) → (ins ≡ None → (c : Abend) × (o ≡ Some (Abended c))) → open_by o ins ch.frame.protected ≡ (frame_after n ch).protected
kept_by n ch (Some (Abended c)) ins end is stays none = sym (ap (λ (f : Frame). f.protected) (registers_law.abends n ch c end))
kept_by n ch None None end is stays none = absurd (cc ((none refl).1))
kept_by n ch (Some (Reply body sw)) None end is stays none = absurd (cc ((none refl).1))
kept_by n ch None (Some i) end is stays none =
    open_ran None (Some i) i ch.frame.protected refl refl (stays i refl) ∙ sym (registers_law.protects n ch i is (λ c h. absurd (cc (sym end ∙ h))))
kept_by n ch (Some (Reply body sw)) (Some i) end is stays none =
    ap (λ (b : Bool). cond b false (protection_after_mode (mode_of i) ch.frame.protected)) (stays i refl) ∙ sym (registers_law.protects n ch i is (λ c h. absurd (cc (sym end ∙ h))))

-- a turn without an instruction abends
row_decoded : (ch : Chain) (i : Ins) (r : RowEnd) → (row_turn ch i r).turn.ins ≡ Some i
row_decoded ch i (Abends a) = refl
row_decoded ch i (Does d) = refl

fetch_none : (ch : Chain) (r : Result (Ins × ℕ) DecodeFault) → (turn_of_fetch ch r).turn.ins ≡ None → (c : Abend) × ((turn_of_fetch ch r).turn.end ≡ Some (Abended c))
fetch_none ch (Err Undefined) h = (_, refl)
fetch_none ch (Err Past) h = (_, refl)
fetch_none ch (Ok i) h = absurd (cc (sym (row_decoded ch i.0 (row i.0 (frame_at ch.frame i.1) ch.public (around ch))) ∙ h))

turn_none : (n : ℕ) (ch : Chain) → (turn_of n ch).turn.ins ≡ None → (c : Abend) × ((turn_of n ch).turn.end ≡ Some (Abended c))
unfolding turn_of_chain
turn_none zero ch h = (_, refl)
turn_none (suc n) ch h = fetch_none ch (instruction_at (code_in (lookup ch.map ch.frame.name)) ch.frame.at) h

kept : (n : ℕ) (ch : Chain) → ((i : Ins) → (turn_of n ch).turn.ins ≡ Some i → is_exit_of i ≡ false) → open_after n ch ≡ (frame_after n ch).protected
kept n ch stays = kept_by n ch (turn_of n ch).turn.end (turn_of n ch).turn.ins refl refl stays (λ h. turn_none n ch h)

-- ---- by depth

set_length : (os : List Bool) (i : ℕ) (b : Bool) → length (slice_set os i b) ≡ length os
set_length [] i b = refl
set_length (o ∷ os) zero b = refl
set_length (o ∷ os) (suc i) b = ap (λ (n : ℕ). suc n) (set_length os i b)

set_there : (os : List Bool) (i : ℕ) (b : Bool) → i < length os → get_or (slice_set os i b) i false ≡ b
set_there os i b h = get_or-set_same os i b false h

set_below : (os : List Bool) (i j : ℕ) (b : Bool) → j < i → get_or (slice_set os i b) j false ≡ get_or os j false
set_below os i j b h = get_or-set_other os i j b false (λ e. omega (arith, e, h))

-- frames below a depth keep their protection
all_below : (os : List Bool) (fs : List Frame) (i : ℕ) (b : Bool) → length fs ≤ i → AllOpen os fs → AllOpen (slice_set os i b) fs
all_below os [] i b h all = tt
all_below os (f ∷ fs) i b h all =
    let less : length fs < i = omega (arith, h) in
    (set_below os i (length fs) b less ∙ all.0, all_below os fs i b (omega (arith, h)) all.1)

not_deeper : (d : ℕ) (c : Chain) (os : List Bool) → depth_of c ≤ d → called_opens d (Continues c) os ≡ os
not_deeper d c os h =
    let less : nat_lt d (length c.below + 1) ≡ false = grind (arith, nat_tests, h) in
    ap (λ (b : Bool). cond b (slice_set os d false) os) less

deeper : (d : ℕ) (c : Chain) (os : List Bool) → d < depth_of c → called_opens d (Continues c) os ≡ slice_set os d false
deeper d c os h =
    let more : nat_lt d (length c.below + 1) ≡ true = grind (arith, nat_tests, h) in
    ap (λ (b : Bool). cond b (slice_set os d false) os) more

abbrev after_own : ℕ → Chain → List Bool → List Bool
after_own n ch os = let t = (turn_of n ch).turn in slice_set os (length ch.below) (open_by t.end t.ins (get_or os (length ch.below) false))

after_follows : (n : ℕ) (ch c : Chain) (os : List Bool) → (turn_of n ch).follows ≡ Continues c → opens_after n ch os ≡ called_opens (depth_of ch) (Continues c) (after_own n ch os)
after_follows n ch c os next = ap (λ (f : Follows). called_opens (depth_of ch) f (after_own n ch os)) next

own_there : (n : ℕ) (ch : Chain) (os : List Bool) → OpensOf os ch → get_or (after_own n ch os) (length ch.below) false ≡ open_after n ch
own_there n ch os h =
    let few = h.few in
    let size = h.size in
    let t = (turn_of n ch).turn in
    set_there os (length ch.below) (open_by t.end t.ins (get_or os (length ch.below) false)) (omega (arith, few, size)) ∙ ap (λ (b : Bool). open_by t.end t.ins b) h.all.0

own_below : (n : ℕ) (ch : Chain) (os : List Bool) → OpensOf os ch → AllOpen (after_own n ch os) ch.below
own_below n ch os h = let t = (turn_of n ch).turn in all_below os ch.below (length ch.below) (open_by t.end t.ins (get_or os (length ch.below) false)) (omega arith) h.all.1

own_size : (n : ℕ) (ch : Chain) (os : List Bool) → OpensOf os ch → length (after_own n ch os) ≡ 4
own_size n ch os h = let t = (turn_of n ch).turn in set_length os (length ch.below) (open_by t.end t.ins (get_or os (length ch.below) false)) ∙ h.size

stays_opens : (n : ℕ) (ch c : Chain) (os : List Bool) → OpensOf os ch → (turn_of n ch).follows ≡ Continues c → StaysOn ch (frame_after n ch) (turn_of n ch).turn.ins c → OpensOf (opens_after n ch os) c
stays_opens n ch c os h next s =
    let same : length c.below ≡ length ch.below = ap (λ (fs : List Frame). length fs) s.below in
    let is : opens_after n ch os ≡ after_own n ch os = after_follows n ch c os next ∙ not_deeper (depth_of ch) c (after_own n ch os) (omega (arith, same)) in
    let on : open_after n ch ≡ c.frame.protected = ran_open n ch c next s.ran ∙ sym (ap (λ (r : ℕ × Bool). r.1) s.registers) in
    let few = h.few in
    subst (λ (xs : List Bool). OpensOf xs c) (sym is)
    (record {
      size = own_size n ch os h;
      few = omega (arith, few, same);
      all = (ap (λ (k : ℕ). get_or (after_own n ch os) k false) same ∙ own_there n ch os h ∙ on, subst (λ (fs : List Frame). AllOpen (after_own n ch os) fs) (sym s.below) (own_below n ch os h));
    })

calls_opens : (n : ℕ) (ch c : Chain) (os : List Bool) → OpensOf os ch → (turn_of n ch).follows ≡ Continues c → CallsFrame ch (frame_after n ch) (turn_of n ch).turn.ins c → OpensOf (opens_after n ch os) c
calls_opens n ch c os h next s =
    let xs : List Bool = after_own n ch os in
    let d : ℕ = length ch.below in
    let one : length c.below ≡ length ch.below + 1 = ap (λ (fs : List Frame). length fs) s.below ∙ omega arith in
    let few = s.few in
    let size : length xs ≡ 4 = own_size n ch os h in
    let is : opens_after n ch os ≡ slice_set xs (d + 1) false = after_follows n ch c os next ∙ deeper (depth_of ch) c xs (omega (arith, one)) in
    let there : get_or (slice_set xs (d + 1) false) (length c.below) false ≡ c.frame.protected = ap (λ (k : ℕ). get_or (slice_set xs (d + 1) false) k false) one ∙ set_there xs (d + 1) false (omega (arith, few, size)) ∙ sym s.off in
    let caller : get_or (slice_set xs (d + 1) false) d false ≡ (frame_after n ch).protected = set_below xs (d + 1) d false (omega arith) ∙ own_there n ch os h ∙ ran_open n ch c next s.ran in
    let waits : AllOpen (slice_set xs (d + 1) false) (frame_after n ch ∷ ch.below) = (caller, all_below xs ch.below (d + 1) false (omega arith) (own_below n ch os h)) in
    subst (λ (ys : List Bool). OpensOf ys c) (sym is)
    (record { size = set_length xs (d + 1) false ∙ size; few = omega (arith, few, one); all = (there, subst (λ (fs : List Frame). AllOpen (slice_set xs (d + 1) false) fs) (sym s.below) waits) })

leaves_opens : (n : ℕ) (ch c : Chain) (os : List Bool) → OpensOf os ch → (turn_of n ch).follows ≡ Continues c → LeavesFrame ch (turn_of n ch).turn.ins c → OpensOf (opens_after n ch os) c
leaves_opens n ch c os h next s =
    let one : length ch.below ≡ length c.below + 1 = ap (λ (fs : List Frame). length fs) s.below ∙ omega arith in
    let few = h.few in
    let is : opens_after n ch os ≡ after_own n ch os = after_follows n ch c os next ∙ not_deeper (depth_of ch) c (after_own n ch os) (omega (arith, one)) in
    subst (λ (xs : List Bool). OpensOf xs c) (sym is)
    (record { size = own_size n ch os h; few = omega (arith, few, one); all = subst (λ (fs : List Frame). AllOpen (after_own n ch os) fs) s.below (own_below n ch os h) })

onward : (n : ℕ) (ch c : Chain) (os : List Bool) → OpensOf os ch → (turn_of n ch).follows ≡ Continues c → OpensOf (opens_after n ch os) c
onward n ch c os h next = by (next_law n ch c next)
  where
    by : Nexts ch (frame_after n ch) (turn_of n ch).turn.ins c → OpensOf (opens_after n ch os) c
    by (inl s) = stays_opens n ch c os h next s
    by (inr (inl s)) = calls_opens n ch c os h next s
    by (inr (inr s)) = leaves_opens n ch c os h next s

-- protection that is computed turn by turn is that of each frame
pub opens_law : OpensLaw
opens_law = record { onward = onward; kept = kept }
