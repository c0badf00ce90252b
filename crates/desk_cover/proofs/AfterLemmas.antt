-- The operand and the stack of a full turn are those that the frames after the turn show.
use Rattle.std.proofs.Common.{◌≡◌, ℕ, zero, suc, ◌+◌, ◌-◌, ◌≤◌, Bool, true, false, cond, ◌||◌, List, [], ◌∷◌, take, drop, Option, Some, None, Result, Ok, Err, refl, arith, sym, ap, subst, ◌∙◌}
use Rattle.std.specs.Prelude.{bytes_eq, nat_le, nat_lt, option_map, option_and_then}
use Rattle.mc_words.specs.model_device.specs.Bytes.{lookup}
use Rattle.mc_words.specs.model_device.specs.Card.{App}
use Rattle.mc_words.specs.model_device.proofs.MapLemmas.{name_is_itself, other_way}
use Rattle.mc_arith.specs.model_machine.specs.declared.instruction.Ins.{Ins}
use Rattle.mc_arith.specs.model_machine.specs.declared.instruction.DecodeFault.{DecodeFault}
use Rattle.mc_arith.specs.model_machine.specs.declared.instruction.DecodeFault.TheVariants.{Undefined, Past}
use Rattle.mc_arith.specs.model_machine.specs.declared.machine.Abend.TheVariants.{A09}
use Rattle.mc_arith.specs.model_machine.specs.Code.{instruction_at}
use Rattle.mc_arith.specs.model_machine.specs.Frame.{Effect, Frame, Place, bytes_in, floor, la_of, resolve, where_is}
use Rattle.mc_arith.specs.model_machine.specs.Primitives.{Delegates, Done, Exits, Goes, Then}
use Rattle.mc_arith.specs.model_machine.specs.Row.{RowEnd, Abends, Does, row}
use Rattle.mc_arith.specs.model_machine.specs.Chain.{Chain, Follows, Continues, Ends, Reply, Abended, after_exit, around, called_app, chain_after_call, chain_after_effect, depth_of, follows, frame_at, is_active, reply_of, reported_frame, row_turn, turn_of, turn_of_chain, turn_of_fetch}
use Rattle.mc_deck.specs.law_rows.specs.Keeping.{Keeps, Leaves, OnDone, OnLeave}
use Rattle.mc_deck.specs.law_rows.proofs.Keeping.{row_keeps, row_leaves}
use Rattle.mc_machine.specs.Chains.{NamesApart}
use Rattle.desk_draft.specs.FullTurns as desk
use Rattle.desk_draft.specs.FullTurns.{Span, after_fetch, after_row, full_turn, running_code, span_of, stack_of}
use Rattle.desk_cover.specs.Looking.{bytes_there, cut_stack, operand_after, place_in, span_decoded, span_in, stack_after}
use Rattle.desk_cover.specs.Watching.{full_turn_of}
use Rattle.desk_cover.proofs.RowLemmas.{OnSpan, SpanGoes, row_goes}

-- ---- stacks

take_less : (xs : List ℕ) (i k : ℕ) → i ≤ k → take i xs ≡ take i (take k xs)
take_less xs zero k h = refl
take_less [] (suc i) zero h = refl
take_less [] (suc i) (suc k) h = refl
take_less (x ∷ xs) (suc i) zero h = absurd (omega (arith, h))
take_less (x ∷ xs) (suc i) (suc k) h = ap (λ ys. x ∷ ys) (take_less xs i k (omega (arith, h)))

-- the stack of a frame as it is
uncut : (f : Frame) → stack_of f ≡ cut_stack f f.dt
uncut f = take_less (drop f.session f.dyn) (f.dt - floor f) (f.dt - floor f) (omega arith)

-- the stack of a frame that a row cut
cut_is : (f g : Frame) → g.dyn ≡ f.dyn → g.session ≡ f.session → g.dt ≤ f.dt → stack_of g ≡ cut_stack f g.dt
cut_is f g dyn session dt =
    let less : g.dt - floor f ≤ f.dt - floor f = omega (arith, dt) in
    ap (λ (n : ℕ). take (g.dt - (0x8000 + n)) (drop n g.dyn)) session ∙ ap (λ (l : List ℕ). take (g.dt - floor f) (drop f.session l)) dyn
    ∙ take_less (drop f.session f.dyn) (g.dt - floor f) (f.dt - floor f) less

-- ---- operands

there_is : (f : Frame) (public : List ℕ) (n : ℕ) (o : Option Place) → bytes_in f public n o ≡ bytes_there f public (option_map (λ p. (p, n)) o)
there_is f public n None = refl
there_is f public n (Some p) = refl

operand_is : (f : Frame) (e : Effect) (s : Option Span) → desk.operand_after f e s ≡ bytes_there e.frame e.public (place_in f s)
operand_is f e None = refl
operand_is f e (Some s) = there_is e.frame e.public s.size (option_and_then (λ a. where_is f a s.size) (resolve f s.tag s.offset))

-- an operand is only of a row whose frame goes on
no_span : (t : Then) (s : Option Span) → OnSpan s (t ≡ Goes) → (t ≡ Goes → ⊥) → s ≡ None
no_span t None h stays = refl
no_span t (Some s) h stays = absurd (stays h)

none_there : (f g : Frame) (public : List ℕ) (s : Option Span) → s ≡ None → bytes_there g public (place_in f s) ≡ []
none_there f g public s e = ap (λ (s : Option Span). bytes_there g public (place_in f s)) e

-- ---- a row that is done

-- what a turn shows, by what follows it
record Shows (f : Frame) (s : Option Span) (g : Frame) (bytes : List ℕ) (next : Follows) : Type 0 where
  operand : bytes ≡ operand_after f (place_in f s) next
  stack : stack_of (reported_frame f g next) ≡ stack_after f (reported_frame f g next).dt next

-- the frame goes on
shows_same : (f : Frame) (s : Option Span) (e : Effect) (ch : Chain) → ch.frame ≡ e.frame → bytes_there ch.frame ch.public (place_in f s) ≡ desk.operand_after f e s → e.frame.name ≡ f.name → Shows f s e.frame (desk.operand_after f e s) (Continues ch)
shows_same f s e ch same operand name =
    let here : bytes_eq ch.frame.name f.name ≡ true = ap (λ (g : Frame). bytes_eq g.name f.name) same ∙ ap (λ (n : List ℕ). bytes_eq n f.name) name ∙ name_is_itself f.name in
    record {
      operand = sym operand ∙ sym (ap (λ (b : Bool). cond b (bytes_there ch.frame ch.public (place_in f s)) []) here);
      stack = ap stack_of (sym same) ∙ sym (ap (λ (b : Bool). cond b (stack_of ch.frame) (cut_stack f e.frame.dt)) here);
    }

-- another frame runs
shows_other : (f : Frame) (s : Option Span) (e : Effect) (ch : Chain) → bytes_eq ch.frame.name f.name ≡ false → s ≡ None → Leaves f e → Shows f s e.frame (desk.operand_after f e s) (Continues ch)
shows_other f s e ch other none cuts =
    record {
      operand = ap (λ (s : Option Span). desk.operand_after f e s) none ∙ sym (ap (λ (b : Bool). cond b (bytes_there ch.frame ch.public (place_in f s)) []) other);
      stack = cut_is f e.frame cuts.dyn cuts.session cuts.dt ∙ sym (ap (λ (b : Bool). cond b (stack_of ch.frame) (cut_stack f e.frame.dt)) other);
    }

-- the chain ends with a reply
shows_reply : (f : Frame) (s : Option Span) (d : Done) (b : List ℕ) (sw : ℕ) → s ≡ None → Leaves f d.effect → Shows f s d.effect.frame (desk.operand_after f d.effect s) (Ends (Reply b sw))
shows_reply f s d b sw none cuts = record { operand = ap (λ (s : Option Span). desk.operand_after f d.effect s) none; stack = cut_is f d.effect.frame cuts.dyn cuts.session cuts.dt }

-- the chain ends with an abend
shows_abend : (f g : Frame) (s : Option Span) (e : Effect) (c : _) → s ≡ None → Shows f s g (desk.operand_after f e s) (Ends (Abended c))
shows_abend f g s e c none = record { operand = ap (λ (s : Option Span). desk.operand_after f e s) none; stack = uncut f }

-- an exit
shows_last : (ch : Chain) (f : Frame) (s : Option Span) (d : Done) (b : Bool) → s ≡ None → Leaves f d.effect → Shows f s d.effect.frame (desk.operand_after f d.effect s) (cond b (Ends (Abended A09)) (Ends (reply_of ch)))
shows_last ch f s d true none cuts = shows_abend f d.effect.frame s d.effect A09 none
shows_last ch f s d false none cuts = shows_reply f s d _ _ none cuts

shows_exit : (ch : Chain) (f : Frame) (s : Option Span) (d : Done) (fs : List Frame) → NamesApart (f ∷ fs) → s ≡ None → Leaves f d.effect → Shows f s d.effect.frame (desk.operand_after f d.effect s) (after_exit ch fs)
shows_exit ch f s d [] apart none cuts = shows_last ch f s d (nat_lt 1024 (la_of ch.public)) none cuts
shows_exit ch f s d (g ∷ gs) apart none cuts = shows_other f s d.effect (record ch { frame = g; below = gs }) (other_way f.name g.name apart.0.0) none cuts

-- a delegation
first_other : (n : List ℕ) (f : Frame) (fs : List Frame) → is_active n f fs ≡ false → bytes_eq f.name n ≡ false
first_other n f [] h = h
first_other n f (g ∷ gs) h = or_first (bytes_eq f.name n) (is_active n g gs) h
  where
    or_first : (b c : Bool) → (b || c) ≡ false → b ≡ false
    or_first true c e = absurd (cc e)
    or_first false c e = refl

or_none : (b c : Bool) → (b || c) ≡ false → b ≡ false
or_none true c e = absurd (cc e)
or_none false c e = refl

shows_called : (ch : Chain) (f : Frame) (s : Option Span) (d : Done) (n : List ℕ) (a : App) (b : Bool) → ch.frame ≡ d.effect.frame → d.effect.frame.name ≡ f.name → (b ≡ false → bytes_eq n f.name ≡ false) → s ≡ None → Leaves f d.effect → Shows f s d.effect.frame (desk.operand_after f d.effect s) (Continues (called_app b ch n a))
shows_called ch f s d n a true same name apart none cuts = shows_same f s d.effect (called_app true ch n a) same (none_there f ch.frame _ s none ∙ sym (ap (λ (s : Option Span). desk.operand_after f d.effect s) none)) name
shows_called ch f s d n a false same name apart none cuts = shows_other f s d.effect (called_app false ch n a) (apart refl) none cuts

shows_call : (ch : Chain) (f : Frame) (s : Option Span) (d : Done) (n : List ℕ) (o : Option App) → ch.frame ≡ d.effect.frame → d.effect.frame.name ≡ f.name → s ≡ None → Leaves f d.effect → Shows f s d.effect.frame (desk.operand_after f d.effect s) (Continues (chain_after_call ch n o))
shows_call ch f s d n None same name none cuts = shows_same f s d.effect (chain_after_call ch n None) same (none_there f ch.frame _ s none ∙ sym (ap (λ (s : Option Span). desk.operand_after f d.effect s) none)) name
shows_call ch f s d n (Some a) same name none cuts =
    let apart : (is_active n ch.frame ch.below || nat_le 4 (depth_of ch)) ≡ false → bytes_eq n f.name ≡ false = λ e.
    let one = first_other n ch.frame ch.below (or_none (is_active n ch.frame ch.below) (nat_le 4 (depth_of ch)) e) in
    other_way f.name n (subst (λ (m : List ℕ). bytes_eq m n ≡ false) (ap (λ (g : Frame). g.name) same ∙ name) one)
    in
    shows_called ch f s d n a (is_active n ch.frame ch.below || nat_le 4 (depth_of ch)) same name apart none cuts

-- a row that is done
shows_done : (ch : Chain) (s : Option Span) (d : Done) (t : Then) → NamesApart (ch.frame ∷ ch.below) → d.effect.frame.name ≡ ch.frame.name → OnSpan s (t ≡ Goes) → OnLeave t (Leaves ch.frame d.effect)
    → Shows ch.frame s d.effect.frame (desk.operand_after ch.frame d.effect s) (follows (chain_after_effect ch d.effect) t)
shows_done ch s d Goes apart name goes leaves = shows_same ch.frame s d.effect (chain_after_effect ch d.effect) refl (sym (operand_is ch.frame d.effect s)) name
shows_done ch s d Exits apart name goes leaves = shows_exit (chain_after_effect ch d.effect) ch.frame s d ch.below apart (no_span Exits s goes (λ e. absurd (cc e))) leaves
shows_done ch s d (Delegates n) apart name goes leaves =
    shows_call (chain_after_effect ch d.effect) ch.frame s d n (lookup (chain_after_effect ch d.effect).map n) refl name (no_span (Delegates n) s goes (λ e. absurd (cc e))) leaves

-- ---- turns

-- the operand and the stack of a turn
pub record TurnShows (f : Frame) (s : Option Span) (after : Frame × List ℕ) (dt : ℕ) (next : Follows) : Type 0 where
  pub operand : after.1 ≡ operand_after f (place_in f s) next
  pub stack : stack_of after.0 ≡ stack_after f dt next

row_shows : (ch : Chain) (i : Ins) (r : RowEnd) → NamesApart (ch.frame ∷ ch.below) → OnDone r (λ d. Keeps ch.frame ch.public d.effect) → OnDone r (λ d. SpanGoes i d) → OnDone r (λ d. OnLeave d.next (Leaves ch.frame d.effect)) → TurnShows ch.frame (span_of i) (after_row ch i r) (row_turn ch i r).turn.dt (row_turn ch i r).follows
row_shows ch i (Abends c) apart keeps goes leaves = record { operand = refl; stack = uncut ch.frame }
row_shows ch i (Does d) apart keeps goes leaves = let h = shows_done ch (span_of i) d d.next apart keeps.name goes leaves in record { operand = h.operand; stack = h.stack }

fetch_shows : (ch : Chain) (r : Result (Ins × ℕ) DecodeFault) → NamesApart (ch.frame ∷ ch.below) → TurnShows ch.frame (span_decoded r) (after_fetch ch r) (turn_of_fetch ch r).turn.dt (turn_of_fetch ch r).follows
fetch_shows ch (Err Undefined) apart = record { operand = refl; stack = uncut ch.frame }
fetch_shows ch (Err Past) apart = record { operand = refl; stack = uncut ch.frame }
fetch_shows ch (Ok i) apart =
    let f = frame_at ch.frame i.1 in
    let r = row i.0 f ch.public (around ch) in
    row_shows ch i.0 r apart (row_keeps i.0 f ch.public (around ch)) (row_goes i.0 f ch.public (around ch)) (row_leaves i.0 f ch.public (around ch))

-- the operand and the stack of a full turn
pub turn_shows : (n : ℕ) (ch : Chain) → NamesApart (ch.frame ∷ ch.below) → TurnShows ch.frame (span_in ch.frame (running_code ch)) ((full_turn_of n ch).frame, (full_turn_of n ch).operand) (turn_of n ch).turn.dt (turn_of n ch).follows
unfolding full_turn turn_of_chain
turn_shows zero ch apart = record { operand = refl; stack = uncut ch.frame }
turn_shows (suc n) ch apart = fetch_shows ch (instruction_at (running_code ch) ch.frame.at) apart
