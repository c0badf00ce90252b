-- LB and the protection of the frame that ran a turn, after an abend, after an exit, and else.
use Rattle.std.proofs.Common.{◌≡◌, ◌≢◌, ℕ, zero, suc, Bool, true, false, cond, ◌||◌, List, [], Option, Some, None, Result, Ok, Err, refl, sym, ap, subst, ◌∙◌}
use Rattle.std.specs.Prelude.{◌==◌, bytes_eq, length, nat_le}
use Rattle.law_family.specs.model_device.specs.Bytes.{lookup}
use Rattle.law_family.specs.model_device.specs.Card.{App}
use Rattle.law_family.specs.model_device.proofs.MapLemmas.{other_way}
use Rattle.law_family.specs.model_machine.specs.declared.instruction.Ins.{Ins}
use Rattle.law_family.specs.model_machine.specs.declared.instruction.Ins.TheVariants as ins
use Rattle.law_family.specs.model_machine.specs.declared.instruction.DecodeFault.{DecodeFault}
use Rattle.law_family.specs.model_machine.specs.declared.instruction.DecodeFault.TheVariants.{Undefined, Past}
use Rattle.law_family.specs.model_machine.specs.declared.machine.Abend.{Abend}
use Rattle.law_family.specs.model_machine.specs.Code.{instruction_at}
use Rattle.law_family.specs.model_machine.specs.Frame.{Frame, Effect, Place, Static, Dynamic, Public, pending_change, protect, static_bytes, static_written, where_is, write_effect, write_effect_at}
use Rattle.law_family.specs.model_machine.specs.Primitives.{Around, Delegates, Done, Exits, Goes, Then, Primitive, DelegateTo, DelegatorAid, primitive}
use Rattle.law_family.specs.model_machine.specs.Row.{RowEnd, Abends, Does, causes, effect, first_cause, row}
use Rattle.law_family.specs.model_machine.specs.Chain.{Chain, Follows, Continues, Ends, Reply, Abended, around, called_app, chain_after_call, chain_after_effect, code_in, depth_of, end_of, follows, frame_at, is_active, reported_frame, row_turn, turn_of, turn_of_chain, turn_of_fetch}
use Rattle.law_family.specs.model_machine.specs.Shapes.{Act, Stays, Answers, Jumps, Calls, Returns, Pushes, Replaces, Writes, Protects, act_effect, delegator_shape, meaning, pair_shape, prim_shape, shape, with_flags}
use Rattle.law_family.specs.law_rows.specs.Keeping.{Keeps, OnDone, OnLeave}
use Rattle.law_family.specs.law_rows.proofs.Keeping.{on_done, row_keeps}
use Rattle.law_family.specs.law_rows.proofs.RowShapes.{shapes}
use Rattle.law_steps.specs.Registers.{RegistersLaw, fetch_frame, frame_after, mode_of, pair_mode, primitive_mode, protection_after_mode, registers_of, registers_shown, row_frame}
use Rattle.law_steps.specs.Shown.{is_exit_of}
use Rattle.law_steps.proofs.AfterTurns.{OnCall, StaysIn, first_other, or_first, row_stays, same_name}

-- ---- rows that exit or delegate

-- the registers stay, if a row exits or delegates
abbrev Stay : Frame → Done → Type 0
Stay f d = OnLeave d.next (registers_of d.effect.frame ≡ registers_of f)

delegator_stay : (f : Frame) (public : List ℕ) (o : Option (List ℕ)) → Stay f (meaning (delegator_shape f o) f public)
delegator_stay f public None = tt
delegator_stay f public (Some name) = tt

prim_stay : (p : Primitive) (args : List ℕ) (f : Frame) (public : List ℕ) (x : Around) → Stay f (meaning (prim_shape p args f public x) f public)
unfolding prim_shape
prim_stay DelegateTo args f public x = refl
prim_stay DelegatorAid args f public x = delegator_stay f public x.delegator
prim_stay _ args f public x = tt

pair_stay : (o : Option Primitive) (args : List ℕ) (f : Frame) (public : List ℕ) (x : Around) → Stay f (meaning (pair_shape o args f public x) f public)
pair_stay None args f public x = tt
pair_stay (Some p) args f public x = prim_stay p args f public x

shape_stay : (i : Ins) (f : Frame) (public : List ℕ) (x : Around) → Stay f (meaning (shape i f public x) f public)
unfolding shape
shape_stay ins.Exit f public x = refl
shape_stay (ins.Exitsw sw) f public x = refl
shape_stay (ins.Exitla la) f public x = refl
shape_stay (ins.Exitswla sw la) f public x = refl
shape_stay (ins.Prim set number args) f public x = pair_stay (primitive set number) args f public x
shape_stay _ f public x = tt

row_stay : (i : Ins) (f : Frame) (public : List ℕ) (x : Around) → OnDone (row i f public x) (λ d. Stay f d)
unfolding row
row_stay i f public x =
    on_done (λ d. Stay f d) (first_cause (causes i f public x)) (effect i f public x) (subst (λ (d : Done). Stay f d) (sym (shapes i f public x)) (shape_stay i f public x))

-- an instruction that exits leaves the registers
exit_effect : (i : Ins) (f : Frame) (public : List ℕ) (x : Around) → is_exit_of i ≡ true → registers_of (meaning (shape i f public x) f public).effect.frame ≡ registers_of f
unfolding shape
exit_effect ins.Exit f public x e = refl
exit_effect (ins.Exitsw sw) f public x e = refl
exit_effect (ins.Exitla la) f public x e = refl
exit_effect (ins.Exitswla sw la) f public x e = refl
exit_effect _ f public x e = absurd (cc e)

row_exit : (i : Ins) (f : Frame) (public : List ℕ) (x : Around) → is_exit_of i ≡ true → OnDone (row i f public x) (λ d. registers_of d.effect.frame ≡ registers_of f)
unfolding row
row_exit i f public x e =
    on_done (λ d. registers_of d.effect.frame ≡ registers_of f) (first_cause (causes i f public x)) (effect i f public x)
    (subst (λ (d : Done). registers_of d.effect.frame ≡ registers_of f) (sym (shapes i f public x)) (exit_effect i f public x e))

-- ---- protection

-- the protection after an act
abbrev act_protection : Act → Bool → Bool
act_protection (Protects mode) on = nat_le 2 mode
act_protection _ on = on

written_protection : (f : Frame) (public bytes : List ℕ) (o : Option Place) → (write_effect_at f public bytes o).frame.protected ≡ f.protected
written_protection f public bytes None = refl
written_protection f public bytes (Some (Static i)) = by f.protected
  where
    by : (b : Bool) → (static_written b f public i bytes).frame.protected ≡ f.protected
    by true = refl
    by false = refl
written_protection f public bytes (Some (Dynamic i)) = refl
written_protection f public bytes (Some (Public i)) = refl

write_protection : (f : Frame) (public : List ℕ) (a : ℕ) (bytes : List ℕ) → (write_effect f public a bytes).frame.protected ≡ f.protected
unfolding write_effect
write_protection f public a bytes = written_protection f public bytes (where_is f a (length bytes))

mode_protection : (f : Frame) (public : List ℕ) (mode : ℕ) → (protect f public mode).frame.protected ≡ nat_le 2 mode
mode_protection f public mode = by (mode == 1 || mode == 3)
  where
    by : (b : Bool) → (cond {A = Effect} b (record { frame = record f { fixed = static_bytes f; pieces = []; protected = nat_le 2 mode }; public = public; changes = pending_change f f.pieces }) (record { frame = record f { pieces = []; protected = nat_le 2 mode }; public = public; changes = None })).frame.protected ≡ nat_le 2 mode
    by true = refl
    by false = refl

act_protects : (act : Act) (f : Frame) (public : List ℕ) → (act_effect act f public).frame.protected ≡ act_protection act f.protected
act_protects Stays f public = refl
act_protects (Answers sw la) f public = refl
act_protects (Jumps true to) f public = refl
act_protects (Jumps false to) f public = refl
act_protects (Calls true to) f public = refl
act_protects (Calls false to) f public = refl
act_protects (Returns less more) f public = refl
act_protects (Pushes b) f public = refl
act_protects (Replaces b) f public = refl
act_protects (Writes a n b) f public = write_protection f public a b
act_protects (Protects mode) f public = mode_protection f public mode

flags_protect : (o : Option (Bool × Bool)) (e : Effect) → (with_flags o e).frame.protected ≡ e.frame.protected
flags_protect None e = refl
flags_protect (Some cz) e = refl

delegator_protection : (f : Frame) (o : Option (List ℕ)) (on : Bool) → act_protection (delegator_shape f o).act on ≡ on
delegator_protection f None on = refl
delegator_protection f (Some name) on = refl

prim_protection : (p : Primitive) (args : List ℕ) (f : Frame) (public : List ℕ) (x : Around) (on : Bool) → act_protection (prim_shape p args f public x).act on ≡ protection_after_mode (primitive_mode p args) on
unfolding prim_shape
prim_protection DelegatorAid args f public x on = delegator_protection f x.delegator on
prim_protection _ args f public x on = refl

pair_protection : (o : Option Primitive) (args : List ℕ) (f : Frame) (public : List ℕ) (x : Around) (on : Bool) → act_protection (pair_shape o args f public x).act on ≡ protection_after_mode (pair_mode o args) on
pair_protection None args f public x on = refl
pair_protection (Some p) args f public x on = prim_protection p args f public x on

shape_protection : (i : Ins) (f : Frame) (public : List ℕ) (x : Around) (on : Bool) → act_protection (shape i f public x).act on ≡ protection_after_mode (mode_of i) on
unfolding shape
shape_protection (ins.Prim set number args) f public x on = pair_protection (primitive set number) args f public x on
shape_protection _ f public x on = refl

meaning_protects : (i : Ins) (f : Frame) (public : List ℕ) (x : Around) → (meaning (shape i f public x) f public).effect.frame.protected ≡ protection_after_mode (mode_of i) f.protected
meaning_protects i f public x =
    let s = shape i f public x in
    flags_protect s.flags (act_effect s.act (record f { dt = s.dt }) public) ∙ act_protects s.act (record f { dt = s.dt }) public ∙ shape_protection i f public x f.protected

row_protects : (i : Ins) (f : Frame) (public : List ℕ) (x : Around) → OnDone (row i f public x) (λ d. d.effect.frame.protected ≡ protection_after_mode (mode_of i) f.protected)
unfolding row
row_protects i f public x =
    on_done (λ d. d.effect.frame.protected ≡ protection_after_mode (mode_of i) f.protected) (first_cause (causes i f public x)) (effect i f public x)
    (subst (λ (d : Done). d.effect.frame.protected ≡ protection_after_mode (mode_of i) f.protected) (sym (shapes i f public x)) (meaning_protects i f public x))

-- ---- after an abend

row_abended : (ch : Chain) (i : Ins) (r : RowEnd) (c : Abend) → (row_turn ch i r).turn.end ≡ Some (Abended c) → row_frame ch r ≡ ch.frame
row_abended ch i (Abends a) c e = refl
row_abended ch i (Does d) c e = by (follows (chain_after_effect ch d.effect) d.next) e
  where
    by : (f : Follows) → end_of f ≡ Some (Abended c) → reported_frame ch.frame d.effect.frame f ≡ ch.frame
    by (Continues next) e = absurd (cc e)
    by (Ends (Reply body sw)) e = absurd (cc e)
    by (Ends (Abended a)) e = refl

fetch_abended : (ch : Chain) (r : Result (Ins × ℕ) DecodeFault) (c : Abend) → (turn_of_fetch ch r).turn.end ≡ Some (Abended c) → fetch_frame ch r ≡ ch.frame
fetch_abended ch (Err Undefined) c e = refl
fetch_abended ch (Err Past) c e = refl
fetch_abended ch (Ok i) c e = row_abended ch i.0 (row i.0 (frame_at ch.frame i.1) ch.public (around ch)) c e

abended : (n : ℕ) (ch : Chain) (c : Abend) → (turn_of n ch).turn.end ≡ Some (Abended c) → frame_after n ch ≡ ch.frame
unfolding frame_after turn_of_chain
abended zero ch c e = refl
abended (suc n) ch c e = fetch_abended ch (instruction_at (code_in (lookup ch.map ch.frame.name)) ch.frame.at) c e

-- ---- after an exit

reported_registers : (f g : Frame) (next : Follows) → registers_of g ≡ registers_of f → registers_of (reported_frame f g next) ≡ registers_of f
reported_registers f g (Continues ch) e = e
reported_registers f g (Ends (Reply body sw)) e = e
reported_registers f g (Ends (Abended c)) e = refl

row_exited : (ch : Chain) (i j : Ins) (r : RowEnd) → (row_turn ch i r).turn.ins ≡ Some j → is_exit_of j ≡ true → (is_exit_of i ≡ true → OnDone r (λ d. registers_of d.effect.frame ≡ registers_of ch.frame)) → registers_of (row_frame ch r) ≡ registers_of ch.frame
row_exited ch i j (Abends a) e exits stays = refl
row_exited ch i j (Does d) e exits stays =
    let same : i ≡ j = cc e in
    reported_registers ch.frame d.effect.frame (follows (chain_after_effect ch d.effect) d.next) (stays (ap (λ (k : Ins). is_exit_of k) same ∙ exits))

fetch_exited : (ch : Chain) (r : Result (Ins × ℕ) DecodeFault) (j : Ins) → (turn_of_fetch ch r).turn.ins ≡ Some j → is_exit_of j ≡ true → registers_of (fetch_frame ch r) ≡ registers_of ch.frame
fetch_exited ch (Err Undefined) j e exits = refl
fetch_exited ch (Err Past) j e exits = refl
fetch_exited ch (Ok i) j e exits =
    let f = frame_at ch.frame i.1 in
    row_exited ch i.0 j (row i.0 f ch.public (around ch)) e exits (λ h. row_exit i.0 f ch.public (around ch) h)

exited : (n : ℕ) (ch : Chain) (j : Ins) → (turn_of n ch).turn.ins ≡ Some j → is_exit_of j ≡ true → registers_of (frame_after n ch) ≡ registers_of ch.frame
unfolding frame_after turn_of_chain
exited zero ch j e exits = refl
exited (suc n) ch j e exits = fetch_exited ch (instruction_at (code_in (lookup ch.map ch.frame.name)) ch.frame.at) j e exits

-- ---- else

shown_same : (f : Frame) (c : Chain) (r : ℕ × Bool) → registers_of c.frame ≡ r → bytes_eq c.frame.name f.name ≡ true → r ≡ registers_shown (Continues c) f.name (registers_of f)
shown_same f c r e t = sym e ∙ sym (ap (λ (b : Bool). cond b (registers_of c.frame) (registers_of f)) t)

shown_other : (f : Frame) (c : Chain) (r : ℕ × Bool) → r ≡ registers_of f → bytes_eq c.frame.name f.name ≡ false → r ≡ registers_shown (Continues c) f.name (registers_of f)
shown_other f c r e t = e ∙ sym (ap (λ (b : Bool). cond b (registers_of c.frame) (registers_of f)) t)

app_shown : (f : Frame) (ch : Chain) (n : List ℕ) (a : App) (b : Bool) → ch.frame.name ≡ f.name → (b ≡ false → bytes_eq n f.name ≡ false) → registers_of ch.frame ≡ registers_of f → registers_of ch.frame ≡ registers_shown (Continues (called_app b ch n a)) f.name (registers_of f)
app_shown f ch n a true name other e = shown_same f (called_app true ch n a) (registers_of ch.frame) refl (same_name f ch.frame name)
app_shown f ch n a false name other e = shown_other f (called_app false ch n a) (registers_of ch.frame) e (other refl)

call_shown : (f : Frame) (ch : Chain) (n : List ℕ) (o : Option App) → ch.frame.name ≡ f.name → registers_of ch.frame ≡ registers_of f → registers_of ch.frame ≡ registers_shown (Continues (chain_after_call ch n o)) f.name (registers_of f)
call_shown f ch n None name e = shown_same f (chain_after_call ch n None) (registers_of ch.frame) refl (same_name f ch.frame name)
call_shown f ch n (Some a) name e =
    let active = is_active n ch.frame ch.below in
    let deep = nat_le 4 (depth_of ch) in
    app_shown f ch n a (active || deep) name
    (λ h. other_way f.name n (subst (λ (m : List ℕ). bytes_eq m n ≡ false) name (first_other n ch.frame ch.below (or_first active deep h)))) e

done_shown : (ch : Chain) (e : Effect) (t : Then) → e.frame.name ≡ ch.frame.name → OnLeave t (registers_of e.frame ≡ registers_of ch.frame) → OnCall t (e.public ≡ ch.public)
    → (let f = follows (chain_after_effect ch e) t in registers_of (reported_frame ch.frame e.frame f) ≡ registers_shown f ch.frame.name (registers_of ch.frame))
done_shown ch e Goes name stays call = shown_same ch.frame (chain_after_effect ch e) (registers_of e.frame) refl (same_name ch.frame e.frame name)
done_shown ch e Exits name stays call = absurd call
done_shown ch e (Delegates n) name stays call = call_shown ch.frame (chain_after_effect ch e) n (lookup (chain_after_effect ch e).map n) name stays

row_going : (ch : Chain) (i : Ins) (r : RowEnd) → ((c : Abend) → (row_turn ch i r).turn.end ≢ Some (Abended c)) → OnDone r (λ d. Keeps ch.frame ch.public d.effect) → OnDone r (λ d. Stay ch.frame d) → OnDone r (λ d. StaysIn ch.public d)
    → registers_of (row_frame ch r) ≡ registers_shown (row_turn ch i r).follows ch.frame.name (registers_of ch.frame)
row_going ch i (Abends a) goes keeps stays call = absurd (goes a refl)
row_going ch i (Does d) goes keeps stays call = done_shown ch d.effect d.next keeps.name stays call

fetch_going : (ch : Chain) (r : Result (Ins × ℕ) DecodeFault) → ((j : Ins) → (turn_of_fetch ch r).turn.ins ≡ Some j → is_exit_of j ≡ false) → ((c : Abend) → (turn_of_fetch ch r).turn.end ≢ Some (Abended c))
    → registers_of (fetch_frame ch r) ≡ registers_shown (turn_of_fetch ch r).follows ch.frame.name (registers_of ch.frame)
fetch_going ch (Err Undefined) stays goes = absurd (goes _ refl)
fetch_going ch (Err Past) stays goes = absurd (goes _ refl)
fetch_going ch (Ok i) stays goes =
    let f = frame_at ch.frame i.1 in
    by (row i.0 f ch.public (around ch)) stays goes (row_keeps i.0 f ch.public (around ch)) (row_stay i.0 f ch.public (around ch)) (λ h. row_stays i.0 f ch.public (around ch) h)
  where
    by : (r : RowEnd) → ((j : Ins) → (row_turn ch i.0 r).turn.ins ≡ Some j → is_exit_of j ≡ false) → ((c : Abend) → (row_turn ch i.0 r).turn.end ≢ Some (Abended c)) → OnDone r (λ d. Keeps ch.frame ch.public d.effect) → OnDone r (λ d. Stay ch.frame d)
        → (is_exit_of i.0 ≡ false → OnDone r (λ d. StaysIn ch.public d)) → registers_of (row_frame ch r) ≡ registers_shown (row_turn ch i.0 r).follows ch.frame.name (registers_of ch.frame)
    by (Abends a) stays goes keeps left call = absurd (goes a refl)
    by (Does d) stays goes keeps left call = row_going ch i.0 (Does d) goes keeps left (call (stays i.0 refl))

going : (n : ℕ) (ch : Chain) → ((j : Ins) → (turn_of n ch).turn.ins ≡ Some j → is_exit_of j ≡ false) → ((c : Abend) → (turn_of n ch).turn.end ≢ Some (Abended c)) → registers_of (frame_after n ch) ≡ registers_shown (turn_of n ch).follows ch.frame.name (registers_of ch.frame)
unfolding frame_after turn_of_chain
going zero ch stays goes = absurd (goes _ refl)
going (suc n) ch stays goes = fetch_going ch (instruction_at (code_in (lookup ch.map ch.frame.name)) ch.frame.at) stays goes

-- ---- protection after a turn

reported_protection : (f g : Frame) (next : Follows) (on : Bool) → ((c : Abend) → end_of next ≢ Some (Abended c)) → g.protected ≡ on → (reported_frame f g next).protected ≡ on
reported_protection f g (Continues ch) on goes e = e
reported_protection f g (Ends (Reply body sw)) on goes e = e
reported_protection f g (Ends (Abended c)) on goes e = absurd (goes c refl)

row_protected : (ch : Chain) (i j : Ins) (r : RowEnd) → (row_turn ch i r).turn.ins ≡ Some j → ((c : Abend) → (row_turn ch i r).turn.end ≢ Some (Abended c)) → OnDone r (λ d. d.effect.frame.protected ≡ protection_after_mode (mode_of i) ch.frame.protected)
    → (row_frame ch r).protected ≡ protection_after_mode (mode_of j) ch.frame.protected
row_protected ch i j (Abends a) e goes h = absurd (goes a refl)
row_protected ch i j (Does d) e goes h =
    let same : i ≡ j = cc e in
    reported_protection ch.frame d.effect.frame (follows (chain_after_effect ch d.effect) d.next) (protection_after_mode (mode_of j) ch.frame.protected) goes
    (h ∙ ap (λ (k : Ins). protection_after_mode (mode_of k) ch.frame.protected) same)

fetch_protected : (ch : Chain) (r : Result (Ins × ℕ) DecodeFault) (j : Ins) → (turn_of_fetch ch r).turn.ins ≡ Some j → ((c : Abend) → (turn_of_fetch ch r).turn.end ≢ Some (Abended c)) → (fetch_frame ch r).protected ≡ protection_after_mode (mode_of j) ch.frame.protected
fetch_protected ch (Err Undefined) j e goes = absurd (goes _ refl)
fetch_protected ch (Err Past) j e goes = absurd (goes _ refl)
fetch_protected ch (Ok i) j e goes =
    let f = frame_at ch.frame i.1 in
    row_protected ch i.0 j (row i.0 f ch.public (around ch)) e goes (row_protects i.0 f ch.public (around ch))

protected_after : (n : ℕ) (ch : Chain) (j : Ins) → (turn_of n ch).turn.ins ≡ Some j → ((c : Abend) → (turn_of n ch).turn.end ≢ Some (Abended c)) → (frame_after n ch).protected ≡ protection_after_mode (mode_of j) ch.frame.protected
unfolding frame_after turn_of_chain
protected_after zero ch j e goes = absurd (goes _ refl)
protected_after (suc n) ch j e goes = fetch_protected ch (instruction_at (code_in (lookup ch.map ch.frame.name)) ch.frame.at) j e goes

-- LB and the protection of the frame that ran a turn are found in the turn and in the chain after it
pub registers_law : RegistersLaw
registers_law = record { abends = abended; exits = exited; goes = going; protects = protected_after }
