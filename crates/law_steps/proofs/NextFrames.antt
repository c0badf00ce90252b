-- The frame that runs after a turn: the one that ran it, one that it called, or the one that had called it.
use Rattle.std.proofs.Common.{◌≡◌, inl, inr, ℕ, zero, suc, ◌+◌, ◌<◌, Bool, true, false, cond, ◌||◌, List, [], ◌∷◌, Option, Some, None, Result, Ok, Err, refl, arith, sym, ap, subst, ◌∙◌}
use Rattle.std.proofs.lemmas.Bool.Decides.{nat_tests}
use Rattle.std.specs.Prelude.{bytes_eq, length, nat_le, nat_lt}
use Rattle.law_family.specs.model_device.specs.Bytes.{lookup}
use Rattle.law_family.specs.model_device.specs.Card.{App}
use Rattle.law_family.specs.model_device.proofs.MapLemmas.{other_way}
use Rattle.law_family.specs.model_machine.specs.declared.instruction.Ins.{Ins}
use Rattle.law_family.specs.model_machine.specs.declared.instruction.Ins.TheVariants as ins
use Rattle.law_family.specs.model_machine.specs.declared.instruction.DecodeFault.{DecodeFault}
use Rattle.law_family.specs.model_machine.specs.declared.instruction.DecodeFault.TheVariants.{Undefined, Past}
use Rattle.law_family.specs.model_machine.specs.declared.machine.Abend.TheVariants.{A09}
use Rattle.law_family.specs.model_machine.specs.Code.{instruction_at}
use Rattle.law_family.specs.model_machine.specs.Frame.{Frame, Effect, la_of}
use Rattle.law_family.specs.model_machine.specs.Primitives.{Around, Delegates, Done, Exits, Goes, Then}
use Rattle.law_family.specs.model_machine.specs.Row.{RowEnd, Abends, Does, causes, effect, first_cause, row}
use Rattle.law_family.specs.model_machine.specs.Chain.{Chain, Continues, Ends, Abended, after_exit, around, called_app, chain_after_call, chain_after_effect, code_in, depth_of, follows, frame_at, is_active, reply_of, reported_frame, row_turn, turn_of_chain, turn_of_fetch}
use Rattle.law_family.specs.model_machine.specs.Shapes.{meaning, shape}
use Rattle.law_family.specs.law_rows.specs.Keeping.{Keeps, OnDone}
use Rattle.law_family.specs.law_rows.proofs.Keeping.{on_done, row_keeps}
use Rattle.law_family.specs.law_rows.proofs.RowShapes.{shapes}
use Rattle.law_steps.specs.Registers.{fetch_frame, frame_after, row_frame}
use Rattle.law_steps.specs.Shown.{is_exit_of}
use Rattle.law_steps.specs.Nexts.{NextLaw, Nexts}
use Rattle.law_steps.proofs.AfterTurns.{OnCall, StaysIn, first_other, or_first, row_stays, same_name}

-- ---- exits

shape_next : (i : Ins) (f : Frame) (public : List ℕ) (x : Around) → is_exit_of i ≡ true → (meaning (shape i f public x) f public).next ≡ Exits
unfolding shape
shape_next ins.Exit f public x h = refl
shape_next (ins.Exitsw sw) f public x h = refl
shape_next (ins.Exitla la) f public x h = refl
shape_next (ins.Exitswla sw la) f public x h = refl
shape_next _ f public x h = absurd (cc h)

row_next : (i : Ins) (f : Frame) (public : List ℕ) (x : Around) → is_exit_of i ≡ true → OnDone (row i f public x) (λ d. d.next ≡ Exits)
unfolding row
row_next i f public x h =
    on_done (λ d. d.next ≡ Exits) (first_cause (causes i f public x)) (effect i f public x)
    (subst (λ (d : Done). d.next ≡ Exits) (sym (shapes i f public x)) (shape_next i f public x h))

-- an instruction that goes on is no exit
no_exit : (i : Ins) (t : Then) → (is_exit_of i ≡ true → t ≡ Exits) → (t ≡ Exits → ⊥) → is_exit_of i ≡ false
no_exit i t h other = by (is_exit_of i) refl
  where
    by : (b : Bool) → is_exit_of i ≡ b → is_exit_of i ≡ false
    by true e = absurd (other (h e))
    by false e = e

-- an instruction whose frame exits is an exit
an_exit : (i : Ins) → (is_exit_of i ≡ false → ⊥) → is_exit_of i ≡ true
an_exit i h = by (is_exit_of i) refl
  where
    by : (b : Bool) → is_exit_of i ≡ b → is_exit_of i ≡ true
    by true e = e
    by false e = absurd (h e)

-- ---- what follows a row that is done

last_next : (ch c : Chain) (b : Bool) → cond b (Ends (Abended A09)) (Ends (reply_of ch)) ≡ Continues c → ⊥
last_next ch c true h = absurd (cc h)
last_next ch c false h = absurd (cc h)

exit_next : (ch k c : Chain) (i : Ins) (f : Frame) (fs : List Frame) → ch.below ≡ fs → is_exit_of i ≡ true → after_exit k fs ≡ Continues c → Nexts ch f (Some i) c
exit_next ch k c i f [] is exits h = absurd (last_next k c (nat_lt 1024 (la_of k.public)) h)
exit_next ch k c i f (g ∷ gs) is exits h =
    let same : record k { frame = g; below = gs } ≡ c = cc h in
    inr (inr (record { exits = (i, refl, exits); below = is ∙ ap (λ (d : Chain). d.frame ∷ d.below) same }))

stays_next : (ch k : Chain) (i : Ins) → is_exit_of i ≡ false → k.below ≡ ch.below → k.frame.name ≡ ch.frame.name → Nexts ch k.frame (Some i) k
stays_next ch k i stays below name = inl (record { ran = (i, refl, stays); below = below; name = same_name ch.frame k.frame name; registers = refl })

or_second : (b c : Bool) → (b || c) ≡ false → c ≡ false
or_second true c e = absurd (cc e)
or_second false c e = e

app_next : (ch k : Chain) (i : Ins) (n : List ℕ) (a : App) (b : Bool) → is_exit_of i ≡ false → k.below ≡ ch.below → k.frame.name ≡ ch.frame.name → (b ≡ false → (bytes_eq n ch.frame.name ≡ false) × (length ch.below < 3)) → Nexts ch k.frame (Some i) (called_app b k n a)
app_next ch k i n a true stays below name other = inl (record { ran = (i, refl, stays); below = below; name = same_name ch.frame k.frame name; registers = refl })
app_next ch k i n a false stays below name other =
    inr (inl (record { ran = (i, refl, stays); below = ap (λ (fs : List Frame). k.frame ∷ fs) below; name = (other refl).0; off = refl; few = (other refl).1 }))

call_next : (ch k : Chain) (i : Ins) (n : List ℕ) (o : Option App) → is_exit_of i ≡ false → k.below ≡ ch.below → k.frame.name ≡ ch.frame.name → Nexts ch k.frame (Some i) (chain_after_call k n o)
call_next ch k i n None stays below name = inl (record { ran = (i, refl, stays); below = below; name = same_name ch.frame k.frame name; registers = refl })
call_next ch k i n (Some a) stays below name =
    let active = is_active n k.frame k.below in
    let deep = nat_le 4 (depth_of k) in
    app_next ch k i n a (active || deep) stays below name (λ h.
    let other : bytes_eq ch.frame.name n ≡ false = subst (λ (m : List ℕ). bytes_eq m n ≡ false) name (first_other n k.frame k.below (or_first active deep h)) in
    let size : length k.below ≡ length ch.below = ap (λ (fs : List Frame). length fs) below in
    let few : nat_le 4 (length k.below + 1) ≡ false = or_second active deep h in
    (other_way ch.frame.name n other, grind (arith, nat_tests, size, few)))

done_next : (ch c : Chain) (i : Ins) (e : Effect) (t : Then) → e.frame.name ≡ ch.frame.name → (is_exit_of i ≡ true → t ≡ Exits) → (is_exit_of i ≡ false → OnCall t (e.public ≡ ch.public)) → follows (chain_after_effect ch e) t ≡ Continues c
    → Nexts ch (reported_frame ch.frame e.frame (follows (chain_after_effect ch e) t)) (Some i) c
done_next ch c i e Goes name exits call h =
    let k : Chain = chain_after_effect ch e in
    let same : k ≡ c = cc h in
    subst (λ (d : Chain). Nexts ch e.frame (Some i) d) same (stays_next ch k i (no_exit i Goes exits (λ x. absurd (cc x))) refl name)
done_next ch c i e Exits name exits call h =
    let k : Chain = chain_after_effect ch e in
    exit_next ch k c i (reported_frame ch.frame e.frame (after_exit k ch.below)) ch.below refl (an_exit i (λ x. call x)) h
done_next ch c i e (Delegates n) name exits call h =
    let k : Chain = chain_after_effect ch e in
    let o = lookup k.map n in
    let same : chain_after_call k n o ≡ c = cc h in
    subst (λ (d : Chain). Nexts ch e.frame (Some i) d) same (call_next ch k i n o (no_exit i (Delegates n) exits (λ x. absurd (cc x))) refl name)

row_nexts : (ch c : Chain) (i : Ins) (r : RowEnd) → OnDone r (λ d. Keeps ch.frame ch.public d.effect) → (is_exit_of i ≡ true → OnDone r (λ d. d.next ≡ Exits)) → (is_exit_of i ≡ false → OnDone r (λ d. StaysIn ch.public d)) → (row_turn ch i r).follows ≡ Continues c → Nexts ch (row_frame ch r) (row_turn ch i r).turn.ins c
row_nexts ch c i (Abends a) keeps exits call h = absurd (cc h)
row_nexts ch c i (Does d) keeps exits call h = done_next ch c i d.effect d.next keeps.name exits call h

fetch_nexts : (ch c : Chain) (r : Result (Ins × ℕ) DecodeFault) → (turn_of_fetch ch r).follows ≡ Continues c → Nexts ch (fetch_frame ch r) (turn_of_fetch ch r).turn.ins c
fetch_nexts ch c (Err Undefined) h = absurd (cc h)
fetch_nexts ch c (Err Past) h = absurd (cc h)
fetch_nexts ch c (Ok i) h =
    let f = frame_at ch.frame i.1 in
    row_nexts ch c i.0 (row i.0 f ch.public (around ch)) (row_keeps i.0 f ch.public (around ch)) (λ x. row_next i.0 f ch.public (around ch) x) (λ x. row_stays i.0 f ch.public (around ch) x) h

-- the frame that runs after a turn
pub next_law : NextLaw
unfolding frame_after turn_of_chain
next_law zero ch c h = absurd (cc h)
next_law (suc n) ch c h = fetch_nexts ch c (instruction_at (code_in (lookup ch.map ch.frame.name)) ch.frame.at) h
