-- What the frame that ran a turn reads after it: after an abend, after an exit, and else.
use Rattle.std.proofs.Common.{◌≡◌, ◌≢◌, inl, inr, ℕ, zero, suc, ◌-◌, ◌≤◌, Bool, true, false, cond, ◌||◌, List, [], ◌∷◌, Option, Some, None, Result, Ok, Err, refl, arith, sym, ap, subst, ◌∙◌}
use Rattle.std.specs.Prelude.{bytes_eq, length, nat_le, take, ⊤}
use Rattle.law_family.specs.model_device.specs.Bytes.{lookup}
use Rattle.law_family.specs.model_device.specs.Card.{App}
use Rattle.law_family.specs.model_device.specs.Pieces.{laid_pieces}
use Rattle.law_family.specs.model_device.proofs.MapLemmas.{name_is_itself, other_way}
use Rattle.law_family.specs.model_machine.specs.declared.instruction.Ins.{Ins}
use Rattle.law_family.specs.model_machine.specs.declared.instruction.Ins.TheVariants as ins
use Rattle.law_family.specs.model_machine.specs.declared.instruction.DecodeFault.{DecodeFault}
use Rattle.law_family.specs.model_machine.specs.declared.instruction.DecodeFault.TheVariants.{Undefined, Past}
use Rattle.law_family.specs.model_machine.specs.declared.machine.Abend.{Abend}
use Rattle.law_family.specs.model_machine.specs.Code.{instruction_at}
use Rattle.law_family.specs.model_machine.specs.Frame.{Frame, Effect, dynamic_base}
use Rattle.law_family.specs.model_machine.specs.Primitives.{Around, Delegates, Done, Exits, Goes, Then, Primitive, DelegateTo, DelegatorAid, primitive}
use Rattle.law_family.specs.model_machine.specs.Row.{RowEnd, Abends, Does, causes, effect, first_cause, row}
use Rattle.law_family.specs.model_machine.specs.Chain.{Chain, Follows, Continues, Ends, Reply, Abended, after_exit, around, called_app, chain_after_call, chain_after_effect, code_in, depth_of, end_of, follows, frame_at, is_active, row_turn, turn_of, turn_of_chain, turn_of_fetch, write_of}
use Rattle.law_family.specs.model_machine.specs.Shapes.{delegator_shape, meaning, pair_shape, prim_shape, shape}
use Rattle.law_family.specs.law_rows.specs.Keeping.{Keeps, Leaves, OnDone, OnLeave}
use Rattle.law_family.specs.law_rows.proofs.Keeping.{on_done, row_keeps, row_leaves}
use Rattle.law_family.specs.law_rows.proofs.RowShapes.{shapes}
use Rattle.law_steps.specs.Readings.{Reading, done_reading, exit_reading, fetch_reading, last_reading, reading_after, reading_of, row_reading}
use Rattle.law_steps.specs.Shown.{EndsFrame, exit_public, is_exit_of, shown_reading}

-- ---- after an abend

exit_abended : (ch : Chain) (e : Effect) (f : Follows) (c : Abend) → end_of f ≡ Some (Abended c) → exit_reading ch e f ≡ last_reading ch.frame ch.public
exit_abended ch e (Continues next) c h = absurd (cc h)
exit_abended ch e (Ends (Reply body sw)) c h = absurd (cc h)
exit_abended ch e (Ends (Abended a)) c h = refl

done_abended : (ch : Chain) (e : Effect) (t : Then) (c : Abend) → end_of (follows (chain_after_effect ch e) t) ≡ Some (Abended c) → done_reading ch e t (follows (chain_after_effect ch e) t) ≡ last_reading ch.frame ch.public
done_abended ch e Goes c h = absurd (cc h)
done_abended ch e (Delegates n) c h = absurd (cc h)
done_abended ch e Exits c h = exit_abended ch e (after_exit (chain_after_effect ch e) ch.below) c h

row_abended : (ch : Chain) (i : Ins) (r : RowEnd) (c : Abend) → (row_turn ch i r).turn.end ≡ Some (Abended c) → row_reading ch r ≡ last_reading ch.frame ch.public
row_abended ch i (Abends a) c h = refl
row_abended ch i (Does d) c h = done_abended ch d.effect d.next c h

fetch_abended : (ch : Chain) (r : Result (Ins × ℕ) DecodeFault) (c : Abend) → (turn_of_fetch ch r).turn.end ≡ Some (Abended c) → fetch_reading ch r ≡ last_reading ch.frame ch.public
fetch_abended ch (Err Undefined) c h = refl
fetch_abended ch (Err Past) c h = refl
fetch_abended ch (Ok i) c h = row_abended ch i.0 (row i.0 (frame_at ch.frame i.1) ch.public (around ch)) c h

-- after an abend the frame last read the bytes that it had, without what waited
pub abended_reading : (n : ℕ) (ch : Chain) (c : Abend) → (turn_of n ch).turn.end ≡ Some (Abended c) → reading_after n ch ≡ last_reading ch.frame ch.public
unfolding reading_after turn_of_chain
abended_reading zero ch c h = refl
abended_reading (suc n) ch c h = fetch_abended ch (instruction_at (code_in (lookup ch.map ch.frame.name)) ch.frame.at) c h

-- ---- after an exit

-- what an instruction that exits does
record ExitsParts (i : Ins) (static stack : List ℕ) (top : ℕ) (bytes : List ℕ) (d : Done) : Type 0 where
  next : d.next ≡ Exits
  fixed : d.effect.frame.fixed ≡ static
  dyn : d.effect.frame.dyn ≡ stack
  dt : d.effect.frame.dt ≡ top
  public : d.effect.public ≡ exit_public i bytes

abbrev ExitsAs : Ins → Frame → List ℕ → Done → Type 0
ExitsAs i f bytes d = ExitsParts i f.fixed f.dyn f.dt bytes d

shape_exits : (i : Ins) (f : Frame) (public : List ℕ) (x : Around) → is_exit_of i ≡ true → ExitsAs i f public (meaning (shape i f public x) f public)
unfolding shape
shape_exits ins.Exit f public x h = record { next = refl; fixed = refl; dyn = refl; dt = refl; public = refl }
shape_exits (ins.Exitsw sw) f public x h = record { next = refl; fixed = refl; dyn = refl; dt = refl; public = refl }
shape_exits (ins.Exitla la) f public x h = record { next = refl; fixed = refl; dyn = refl; dt = refl; public = refl }
shape_exits (ins.Exitswla sw la) f public x h = record { next = refl; fixed = refl; dyn = refl; dt = refl; public = refl }
shape_exits _ f public x h = absurd (cc h)

row_exits : (i : Ins) (f : Frame) (public : List ℕ) (x : Around) → is_exit_of i ≡ true → OnDone (row i f public x) (λ d. ExitsAs i f public d)
unfolding row
row_exits i f public x h =
    on_done (λ d. ExitsAs i f public d) (first_cause (causes i f public x)) (effect i f public x)
    (subst (λ (d : Done). ExitsAs i f public d) (sym (shapes i f public x)) (shape_exits i f public x h))

-- the bytes of a frame by its parts
abbrev parts_reading : List ℕ → List ℕ → ℕ → List ℕ → Reading
parts_reading fixed dyn dt public = record { fixed = fixed; dynamic = take (dt - dynamic_base) dyn; public = public }

last_parts : (f : Frame) (e : Effect) (public : List ℕ) → e.frame.fixed ≡ f.fixed → e.frame.dyn ≡ f.dyn → e.frame.dt ≡ f.dt → e.public ≡ public → last_reading e.frame e.public ≡ last_reading f public
last_parts f e public fixed dyn dt is =
    ap (λ (l : List ℕ). parts_reading l e.frame.dyn e.frame.dt e.public) fixed ∙ ap (λ (l : List ℕ). parts_reading f.fixed l e.frame.dt e.public) dyn
    ∙ ap (λ (n : ℕ). parts_reading f.fixed f.dyn n e.public) dt ∙ ap (λ (l : List ℕ). parts_reading f.fixed f.dyn f.dt l) is

exit_last : (ch : Chain) (e : Effect) (f : Follows) → ((c : Abend) → end_of f ≢ Some (Abended c)) → exit_reading ch e f ≡ last_reading e.frame e.public
exit_last ch e (Continues next) h = refl
exit_last ch e (Ends (Reply body sw)) h = refl
exit_last ch e (Ends (Abended a)) h = absurd (h a refl)

row_exited : (ch : Chain) (i j : Ins) (r : RowEnd) → (row_turn ch i r).turn.ins ≡ Some j → ((c : Abend) → (row_turn ch i r).turn.end ≢ Some (Abended c)) → OnDone r (λ d. ExitsAs i ch.frame ch.public d) → row_reading ch r ≡ last_reading ch.frame (exit_public j ch.public)
row_exited ch i j (Abends a) e goes x = absurd (goes a refl)
row_exited ch i j (Does d) e goes x =
    let c : Chain = chain_after_effect ch d.effect in
    let same : i ≡ j = cc e in
    let ends : (a : Abend) → end_of (follows c d.next) ≢ Some (Abended a) = goes in
    let exits : (a : Abend) → end_of (follows c Exits) ≢ Some (Abended a) = subst (λ (t : Then). (a : Abend) → end_of (follows c t) ≢ Some (Abended a)) x.next ends in
    ap (λ (t : Then). done_reading ch d.effect t (follows c t)) x.next ∙ exit_last ch d.effect (after_exit c ch.below) exits
    ∙ last_parts ch.frame d.effect (exit_public i ch.public) x.fixed x.dyn x.dt x.public ∙ ap (λ (k : Ins). last_reading ch.frame (exit_public k ch.public)) same

fetch_exited : (ch : Chain) (r : Result (Ins × ℕ) DecodeFault) (j : Ins) → (turn_of_fetch ch r).turn.ins ≡ Some j → is_exit_of j ≡ true → ((c : Abend) → (turn_of_fetch ch r).turn.end ≢ Some (Abended c)) → fetch_reading ch r ≡ last_reading ch.frame (exit_public j ch.public)
fetch_exited ch (Err Undefined) j e exits goes = absurd (goes _ refl)
fetch_exited ch (Err Past) j e exits goes = absurd (goes _ refl)
fetch_exited ch (Ok i) j e exits goes = by (row i.0 (frame_at ch.frame i.1) ch.public (around ch)) e goes (λ h. row_exits i.0 (frame_at ch.frame i.1) ch.public (around ch) h)
  where
    by : (r : RowEnd) → (row_turn ch i.0 r).turn.ins ≡ Some j → ((c : Abend) → (row_turn ch i.0 r).turn.end ≢ Some (Abended c)) → (is_exit_of i.0 ≡ true → OnDone r (λ d. ExitsAs i.0 ch.frame ch.public d)) → row_reading ch r ≡ last_reading ch.frame (exit_public j ch.public)
    by (Abends a) e goes x = absurd (goes a refl)
    by (Does d) e goes x = let same : i.0 ≡ j = cc e in row_exited ch i.0 j (Does d) e goes (x (ap (λ (k : Ins). is_exit_of k) same ∙ exits))

-- after an exit it last read the same, with the public bytes that the exit left
pub exited_reading : (n : ℕ) (ch : Chain) (j : Ins) → (turn_of n ch).turn.ins ≡ Some j → is_exit_of j ≡ true → ((c : Abend) → (turn_of n ch).turn.end ≢ Some (Abended c)) → reading_after n ch ≡ last_reading ch.frame (exit_public j ch.public)
unfolding reading_after turn_of_chain
exited_reading zero ch j e exits goes = absurd (cc e)
exited_reading (suc n) ch j e exits goes = fetch_exited ch (instruction_at (code_in (lookup ch.map ch.frame.name)) ch.frame.at) j e exits goes

-- ---- else

-- an instruction that is no exit does not exit, and one that delegates leaves the public bytes
abbrev pub OnCall : Then → Type 0 → Type 0
OnCall Goes P = ⊤
OnCall Exits P = ⊥
OnCall (Delegates n) P = P

-- a row does not exit, and leaves the public bytes if it delegates
abbrev pub StaysIn : List ℕ → Done → Type 0
StaysIn public d = OnCall d.next (d.effect.public ≡ public)

delegator_stays : (f : Frame) (public : List ℕ) (o : Option (List ℕ)) → StaysIn public (meaning (delegator_shape f o) f public)
delegator_stays f public None = tt
delegator_stays f public (Some name) = tt

prim_stays : (p : Primitive) (args : List ℕ) (f : Frame) (public : List ℕ) (x : Around) → StaysIn public (meaning (prim_shape p args f public x) f public)
unfolding prim_shape
prim_stays DelegateTo args f public x = refl
prim_stays DelegatorAid args f public x = delegator_stays f public x.delegator
prim_stays _ args f public x = tt

pair_stays : (o : Option Primitive) (args : List ℕ) (f : Frame) (public : List ℕ) (x : Around) → StaysIn public (meaning (pair_shape o args f public x) f public)
pair_stays None args f public x = tt
pair_stays (Some p) args f public x = prim_stays p args f public x

shape_stays : (i : Ins) (f : Frame) (public : List ℕ) (x : Around) → is_exit_of i ≡ false → StaysIn public (meaning (shape i f public x) f public)
unfolding shape
shape_stays ins.Exit f public x h = absurd (cc h)
shape_stays (ins.Exitsw sw) f public x h = absurd (cc h)
shape_stays (ins.Exitla la) f public x h = absurd (cc h)
shape_stays (ins.Exitswla sw la) f public x h = absurd (cc h)
shape_stays (ins.Prim set number args) f public x h = pair_stays (primitive set number) args f public x
shape_stays _ f public x h = tt

-- an instruction that is no exit stays so
pub row_stays : (i : Ins) (f : Frame) (public : List ℕ) (x : Around) → is_exit_of i ≡ false → OnDone (row i f public x) (λ d. StaysIn public d)
unfolding row
row_stays i f public x h =
    on_done (λ d. StaysIn public d) (first_cause (causes i f public x)) (effect i f public x)
    (subst (λ (d : Done). StaysIn public d) (sym (shapes i f public x)) (shape_stays i f public x h))

take_less : (xs : List ℕ) (i k : ℕ) → i ≤ k → take i xs ≡ take i (take k xs)
take_less xs zero k h = refl
take_less [] (suc i) zero h = refl
take_less [] (suc i) (suc k) h = refl
take_less (x ∷ xs) (suc i) zero h = absurd (omega (arith, h))
take_less (x ∷ xs) (suc i) (suc k) h = ap (λ (ys : List ℕ). x ∷ ys) (take_less xs i k (omega (arith, h)))

-- what a frame reads that called another one
abbrev whole_reading : List ℕ → List (ℕ × List ℕ) → List ℕ → ℕ → List ℕ → Reading
whole_reading fixed pieces dyn dt public = record { fixed = take (length fixed) (laid_pieces fixed pieces); dynamic = take (dt - dynamic_base) dyn; public = public }

caller_reading : (f : Frame) (e : Effect) (public : List ℕ) → Leaves f e → e.public ≡ public → reading_of e.frame e.public ≡ record (reading_of f public) { dynamic = take (e.frame.dt - dynamic_base) (reading_of f public).dynamic }
caller_reading f e public leaves is =
    let g = e.frame in
    let least : g.dt - dynamic_base ≤ f.dt - dynamic_base = let h = leaves.dt in omega (arith, h) in
    ap (λ (l : List ℕ). whole_reading l g.pieces g.dyn g.dt e.public) leaves.fixed ∙ ap (λ (ps : List (ℕ × List ℕ)). whole_reading f.fixed ps g.dyn g.dt e.public) leaves.pieces
    ∙ ap (λ (l : List ℕ). whole_reading f.fixed f.pieces l g.dt e.public) leaves.dyn ∙ ap (λ (l : List ℕ). whole_reading f.fixed f.pieces f.dyn g.dt l) is
    ∙ ap (λ (l : List ℕ). record (reading_of f public) { dynamic = l }) (take_less f.dyn (g.dt - dynamic_base) (f.dt - dynamic_base) least)

shown_same : (c : Chain) (name : List ℕ) (r s : Reading) (dt : ℕ) → bytes_eq c.frame.name name ≡ true → reading_of c.frame c.public ≡ s → s ≡ shown_reading (Continues c) name r dt
shown_same c name r s dt t e = sym e ∙ sym (ap (λ (b : Bool). cond b (reading_of c.frame c.public) (record r { dynamic = take (dt - dynamic_base) r.dynamic })) t)

shown_other : (c : Chain) (name : List ℕ) (r s : Reading) (dt : ℕ) → bytes_eq c.frame.name name ≡ false → s ≡ record r { dynamic = take (dt - dynamic_base) r.dynamic } → s ≡ shown_reading (Continues c) name r dt
shown_other c name r s dt t e = e ∙ sym (ap (λ (b : Bool). cond b (reading_of c.frame c.public) (record r { dynamic = take (dt - dynamic_base) r.dynamic })) t)

-- if a disjunction fails, so does its first part
pub or_first : (b c : Bool) → (b || c) ≡ false → b ≡ false
or_first true c e = absurd (cc e)
or_first false c e = refl

-- a frame over one whose name is not active has another name
pub first_other : (n : List ℕ) (f : Frame) (fs : List Frame) → is_active n f fs ≡ false → bytes_eq f.name n ≡ false
first_other n f [] h = h
first_other n f (g ∷ gs) h = or_first (bytes_eq f.name n) (is_active n g gs) h

-- frames of equal names have the same name by the test
pub same_name : (f g : Frame) → g.name ≡ f.name → bytes_eq g.name f.name ≡ true
same_name f g e = ap (λ (n : List ℕ). bytes_eq n f.name) e ∙ name_is_itself f.name

-- what is shown after a row that is done
abbrev IsShown : Chain → Effect → Then → Type 0
IsShown ch e t = let f = follows (chain_after_effect ch e) t in done_reading ch e t f ≡ shown_reading f ch.frame.name (reading_of ch.frame ch.public) e.frame.dt

app_shown : (ch : Chain) (e : Effect) (n : List ℕ) (a : App) (b : Bool) → e.frame.name ≡ ch.frame.name → (b ≡ false → bytes_eq n ch.frame.name ≡ false) → Leaves ch.frame e → e.public ≡ ch.public
    → (let c = called_app b (chain_after_effect ch e) n a in reading_of e.frame c.public ≡ shown_reading (Continues c) ch.frame.name (reading_of ch.frame ch.public) e.frame.dt)
app_shown ch e n a true name other leaves is = shown_same (called_app true (chain_after_effect ch e) n a) ch.frame.name _ _ e.frame.dt (same_name ch.frame e.frame name) refl
app_shown ch e n a false name other leaves is = shown_other (called_app false (chain_after_effect ch e) n a) ch.frame.name (reading_of ch.frame ch.public) _ e.frame.dt (other refl) (caller_reading ch.frame e ch.public leaves is)

call_shown : (ch : Chain) (e : Effect) (n : List ℕ) (o : Option App) → e.frame.name ≡ ch.frame.name → Leaves ch.frame e → e.public ≡ ch.public
    → (let c = chain_after_call (chain_after_effect ch e) n o in reading_of e.frame c.public ≡ shown_reading (Continues c) ch.frame.name (reading_of ch.frame ch.public) e.frame.dt)
call_shown ch e n None name leaves is = shown_same (chain_after_call (chain_after_effect ch e) n None) ch.frame.name _ _ e.frame.dt (same_name ch.frame e.frame name) refl
call_shown ch e n (Some a) name leaves is =
    let c : Chain = chain_after_effect ch e in
    let active = is_active n e.frame ch.below in
    let deep = nat_le 4 (depth_of c) in
    app_shown ch e n a (active || deep) name
    (λ h. other_way ch.frame.name n (subst (λ (m : List ℕ). bytes_eq m n ≡ false) name (first_other n e.frame ch.below (or_first active deep h)))) leaves is

done_shown : (ch : Chain) (e : Effect) (t : Then) → e.frame.name ≡ ch.frame.name → OnLeave t (Leaves ch.frame e) → OnCall t (e.public ≡ ch.public) → IsShown ch e t
done_shown ch e Goes name leaves call = shown_same (chain_after_effect ch e) ch.frame.name _ _ e.frame.dt (same_name ch.frame e.frame name) refl
done_shown ch e Exits name leaves call = absurd call
done_shown ch e (Delegates n) name leaves call = call_shown ch e n (lookup (chain_after_effect ch e).map n) name leaves call

row_shown : (ch : Chain) (i : Ins) (r : RowEnd) → ((c : Abend) → (row_turn ch i r).turn.end ≢ Some (Abended c)) → OnDone r (λ d. Keeps ch.frame ch.public d.effect) → OnDone r (λ d. OnLeave d.next (Leaves ch.frame d.effect)) → OnDone r (λ d. StaysIn ch.public d)
    → row_reading ch r ≡ shown_reading (row_turn ch i r).follows ch.frame.name (reading_of ch.frame ch.public) (row_turn ch i r).turn.dt
row_shown ch i (Abends a) goes keeps leaves stays = absurd (goes a refl)
row_shown ch i (Does d) goes keeps leaves stays = by d.next leaves stays
  where
    by : (t : Then) → OnLeave t (Leaves ch.frame d.effect) → OnCall t (d.effect.public ≡ ch.public) → (let u = row_turn ch i (Does (record d { next = t })) in done_reading ch d.effect t u.follows ≡ shown_reading u.follows ch.frame.name (reading_of ch.frame ch.public) u.turn.dt)
    by Goes leaves call = done_shown ch d.effect Goes keeps.name leaves call
    by Exits leaves call = absurd call
    by (Delegates n) leaves call = done_shown ch d.effect (Delegates n) keeps.name leaves call

fetch_shown : (ch : Chain) (r : Result (Ins × ℕ) DecodeFault) → ((j : Ins) → (turn_of_fetch ch r).turn.ins ≡ Some j → is_exit_of j ≡ false) → ((c : Abend) → (turn_of_fetch ch r).turn.end ≢ Some (Abended c))
    → fetch_reading ch r ≡ shown_reading (turn_of_fetch ch r).follows ch.frame.name (reading_of ch.frame ch.public) (turn_of_fetch ch r).turn.dt
fetch_shown ch (Err Undefined) stays goes = absurd (goes _ refl)
fetch_shown ch (Err Past) stays goes = absurd (goes _ refl)
fetch_shown ch (Ok i) stays goes =
    let f = frame_at ch.frame i.1 in
    by (row i.0 f ch.public (around ch)) stays goes (row_keeps i.0 f ch.public (around ch)) (row_leaves i.0 f ch.public (around ch)) (λ h. row_stays i.0 f ch.public (around ch) h)
  where
    by : (r : RowEnd) → ((j : Ins) → (row_turn ch i.0 r).turn.ins ≡ Some j → is_exit_of j ≡ false) → ((c : Abend) → (row_turn ch i.0 r).turn.end ≢ Some (Abended c)) → OnDone r (λ d. Keeps ch.frame ch.public d.effect) → OnDone r (λ d. OnLeave d.next (Leaves ch.frame d.effect)) → (is_exit_of i.0 ≡ false → OnDone r (λ d. StaysIn ch.public d))
        → row_reading ch r ≡ shown_reading (row_turn ch i.0 r).follows ch.frame.name (reading_of ch.frame ch.public) (row_turn ch i.0 r).turn.dt
    by (Abends a) stays goes keeps leaves call = absurd (goes a refl)
    by (Does d) stays goes keeps leaves call = row_shown ch i.0 (Does d) goes keeps leaves (call (stays i.0 refl))

-- if a frame neither exits nor abends, it reads what is shown after its turn
pub going_reading : (n : ℕ) (ch : Chain) → ((j : Ins) → (turn_of n ch).turn.ins ≡ Some j → is_exit_of j ≡ false) → ((c : Abend) → (turn_of n ch).turn.end ≢ Some (Abended c))
    → reading_after n ch ≡ shown_reading (turn_of n ch).follows ch.frame.name (reading_of ch.frame ch.public) (turn_of n ch).turn.dt
unfolding reading_after turn_of_chain
going_reading zero ch stays goes = absurd (goes _ refl)
going_reading (suc n) ch stays goes = fetch_shown ch (instruction_at (code_in (lookup ch.map ch.frame.name)) ch.frame.at) stays goes

-- ---- a turn that ends its frame

then_exits : (ch : Chain) (t : Then) (c : Abend) → end_of (follows ch t) ≡ Some (Abended c) → t ≡ Exits
then_exits ch Goes c h = absurd (cc h)
then_exits ch (Delegates n) c h = absurd (cc h)
then_exits ch Exits c h = refl

row_ends : (ch : Chain) (i : Ins) (d : Done) → EndsFrame (row_turn ch i (Does d)).turn → (is_exit_of i ≡ true → ExitsAs i ch.frame ch.public d) → d.next ≡ Exits
row_ends ch i d (inl a) exits = then_exits (chain_after_effect ch d.effect) d.next a.0 a.1
row_ends ch i d (inr x) exits = let same : i ≡ x.0 = cc x.1 in (exits (ap (λ (k : Ins). is_exit_of k) same ∙ x.2)).next

row_quiet : (ch : Chain) (i : Ins) (r : RowEnd) → EndsFrame (row_turn ch i r).turn → (is_exit_of i ≡ true → OnDone r (λ d. ExitsAs i ch.frame ch.public d)) → OnDone r (λ d. OnLeave d.next (Leaves ch.frame d.effect)) → (row_turn ch i r).writes ≡ []
row_quiet ch i (Abends a) ends exits leaves = refl
row_quiet ch i (Does d) ends exits leaves =
    let left : Leaves ch.frame d.effect = subst (λ (t : Then). OnLeave t (Leaves ch.frame d.effect)) (row_ends ch i d ends exits) leaves in
    ap (λ (o : Option (List (ℕ × List ℕ))). write_of ch.frame.name o) left.changes

fetch_quiet : (ch : Chain) (r : Result (Ins × ℕ) DecodeFault) → EndsFrame (turn_of_fetch ch r).turn → (turn_of_fetch ch r).writes ≡ []
fetch_quiet ch (Err Undefined) ends = refl
fetch_quiet ch (Err Past) ends = refl
fetch_quiet ch (Ok i) ends =
    let f = frame_at ch.frame i.1 in
    row_quiet ch i.0 (row i.0 f ch.public (around ch)) ends (λ h. row_exits i.0 f ch.public (around ch) h) (row_leaves i.0 f ch.public (around ch))

-- a turn that ends its frame writes nothing
pub ended_writes : (n : ℕ) (ch : Chain) → EndsFrame (turn_of n ch).turn → (turn_of n ch).writes ≡ []
unfolding turn_of_chain
ended_writes zero ch ends = refl
ended_writes (suc n) ch ends = fetch_quiet ch (instruction_at (code_in (lookup ch.map ch.frame.name)) ch.frame.at) ends
