-- The device writes of a turn follow from its instruction, from protection and from the words that wait.
use Rattle.std.proofs.Common.{◌≡◌, inl, ℕ, zero, suc, ◌+◌, ◌-◌, ◌/◌, ◌≤◌, ◌<◌, Bool, true, false, cond, ◌||◌, ◌&&◌, List, [], ◌∷◌, ◌++◌, length, Option, Some, None, Result, Ok, Err, refl, sym, ap, subst, ◌∙◌, arith}
use Rattle.std.specs.Prelude.{◌==◌, nat_le, nat_lt}
use Rattle.std.proofs.lemmas.Bool.{ltb-false}
use Rattle.std.proofs.lemmas.Bool.Decides.{nat_tests}
use Rattle.std.proofs.lemmas.List.{length-replicate}
use Rattle.law_family.specs.model_device.specs.Bytes.{lookup, zeros}
use Rattle.law_family.specs.model_device.specs.Image.{Two}
use Rattle.law_family.specs.model_device.specs.Pieces.{touched_words}
use Rattle.law_family.specs.model_device.specs.Stopped.{cost}
use Rattle.law_family.specs.model_card.specs.Items.{moves, write_items}
use Rattle.law_family.specs.model_machine.specs.declared.instruction.Ins.{Ins}
use Rattle.law_family.specs.model_machine.specs.declared.instruction.Ins.TheVariants as ins
use Rattle.law_family.specs.model_machine.specs.declared.instruction.DecodeFault.{DecodeFault}
use Rattle.law_family.specs.model_machine.specs.declared.instruction.DecodeFault.TheVariants.{Undefined, Past}
use Rattle.law_family.specs.model_machine.specs.declared.machine.Abend.{Abend}
use Rattle.law_family.specs.model_machine.specs.Code.{instruction_at}
use Rattle.law_family.specs.model_machine.specs.Frame.{Frame, Effect, Place, Static, Dynamic, Public, bytes_at, dynamic_base, passes_limit, pending_change, protect, public_base, public_end, static_bytes, static_written, too_many, where_is, write_effect, write_effect_at}
use Rattle.law_family.specs.model_machine.specs.Primitives.{Around, Done, Primitive, DelegatorAid, primitive}
use Rattle.law_family.specs.model_machine.specs.Row.{RowEnd, Abends, Does, causes, effect, first_cause, row, row_end}
use Rattle.law_family.specs.model_machine.specs.Chain.{Abended, Chain, Follows, Continues, Ends, Reply, Write, around, chain_after_effect, code_in, end_of, follows, frame_at, row_turn, turn_of, turn_of_chain, turn_of_fetch, write_of}
use Rattle.law_family.specs.law_rows.specs.Keeping.{OnDone}
use Rattle.law_family.specs.model_machine.specs.Shapes.{Act, Stays, Answers, Jumps, Calls, Returns, Pushes, Replaces, Writes, Protects, act_effect, delegator_shape, meaning, pair_shape, prim_shape, shape, with_flags}
use Rattle.law_family.specs.law_rows.proofs.RowShapes.{shapes}
use Rattle.law_family.specs.law_machine.proofs.RowWords.{none_holds}
use Rattle.law_steps.specs.Registers.{mode_of, pair_mode, primitive_mode}
use Rattle.law_steps.specs.Shown.{EndsFrame}
use Rattle.law_steps.specs.Writes.{IsRoomy, WaitIn, act_span, chain_span, ins_span, now_by, now_of, span_now, span_waits, turn_moves, waits_by, with_waits, words_under, writes_of_words}
use Rattle.law_steps.proofs.AfterTurns.{ended_writes}
use Rattle.law_steps.proofs.WaitingWords.{as_many, some_touched, words_kept, words_of_bytes}
use Rattle.law_steps.proofs.WrittenBytes.{Exact, IsExact, shape_exact}

-- ---- changes

-- the number of device writes of a static change
abbrev pub change_moves : Option (List (ℕ × List ℕ)) → ℕ
change_moves None = 0
change_moves (Some ps) = cost Two (length (touched_words ps))

change_is : (name : List ℕ) (o : Option (List (ℕ × List ℕ))) → change_moves o ≡ moves (write_items (write_of name o))
change_is name None = refl
change_is name (Some ps) = omega arith

some_cost : (w : ℕ) → 0 < w → writes_of_words w ≡ cost Two w
some_cost w some =
    let is : (w == 0) ≡ false = grind (arith, nat_tests, some) in
    ap (λ (b : Bool). cond b 0 (cost Two w)) is

-- an effect makes as many device writes as words that are written at once cost, and these words wait after it
pub record Pays (now : ℕ) (next : List ℕ) (e : Effect) : Type 0 where
  pub moves : writes_of_words now ≡ change_moves e.changes
  pub waits : WaitIn next e.frame

none_wait : (f : Frame) → f.pieces ≡ [] → WaitIn [] f
unfolding touched_words
none_wait f e = record { words = sym (ap (λ (ps : List (ℕ × List ℕ)). touched_words ps) e); few = omega arith; none = λ h. e }

-- ---- the protection

-- what is pending is committed
committed : (f : Frame) (ws : List ℕ) (ps : List (ℕ × List ℕ)) → f.pieces ≡ ps → WaitIn ws f → writes_of_words (length ws) ≡ change_moves (pending_change f ps)
unfolding touched_words
committed f ws [] e w = ap (λ (ks : List ℕ). writes_of_words (length ks)) (w.words ∙ ap (λ (ps : List (ℕ × List ℕ)). touched_words ps) e)
committed f ws (p ∷ ps) e w =
    some_cost (length ws) (some ws w.none) ∙ ap (λ (ks : List ℕ). cost Two (length ks)) (w.words ∙ ap (λ (qs : List (ℕ × List ℕ)). touched_words qs) e)
  where
    some : (ks : List ℕ) → (ks ≡ [] → f.pieces ≡ []) → 0 < length ks
    some [] h = absurd (cc (sym (h refl) ∙ e))
    some (k ∷ ks) h = omega arith

protect_pays : (f : Frame) (public : List ℕ) (mode : ℕ) (ws : List ℕ) → WaitIn ws f → Pays (cond (mode == 1 || mode == 3) (length ws) 0) [] (protect f public mode)
protect_pays f public mode ws w = by (mode == 1 || mode == 3)
  where
    by : (b : Bool) → Pays (cond b (length ws) 0) [] (cond {A = Effect} b (record { frame = record f { fixed = static_bytes f; pieces = []; protected = nat_le 2 mode }; public = public; changes = pending_change f f.pieces }) (record { frame = record f { pieces = []; protected = nat_le 2 mode }; public = public; changes = None }))
    by true = record { moves = committed f ws f.pieces refl w; waits = none_wait (record f { fixed = static_bytes f; pieces = []; protected = nat_le 2 mode }) refl }
    by false = record { moves = refl; waits = none_wait (record f { pieces = []; protected = nat_le 2 mode }) refl }

-- ---- a write

room_is : (f : Frame) (a n : ℕ) → f.protected ≡ true → where_is f a n ≡ Some (Static a) → too_many f a n ≡ false → length (touched_words (f.pieces ++ (a, zeros n) ∷ [])) ≤ 64
unfolding too_many
room_is f a n on there room =
    let one : passes_limit true f (where_is f a n) n ≡ false = subst (λ (b : Bool). passes_limit b f (where_is f a n) n ≡ false) on room in
    let two : nat_lt 64 (length (touched_words (f.pieces ++ (a, zeros n) ∷ []))) ≡ false = subst (λ (o : Option Place). passes_limit true f o n ≡ false) there one in
    ltb-false 64 (length (touched_words (f.pieces ++ (a, zeros n) ∷ []))) two

zeros_whole : (n : ℕ) → length (zeros n) ≡ n
zeros_whole n = length-replicate {A = ℕ} n 0

-- a static write, by protection
static_pays : (on : Bool) (f : Frame) (public : List ℕ) (a n : ℕ) (b ws : List ℕ) → f.protected ≡ on → where_is f a n ≡ Some (Static a) → WaitIn ws f → Exact f a n b → Pays (span_now on (Some (a, n))) (span_waits on (Some (a, n)) ws) (static_written on f public a b)
static_pays false f public a n b ws is there w x =
    let words = words_of_bytes a n b x.size x.some in
    let some : 0 < words_under (a, n) = let h = x.some in omega (arith, h) in
    record { moves = some_cost (words_under (a, n)) some ∙ ap (λ (k : ℕ). cost Two k) words; waits = record { words = w.words; few = w.few; none = w.none } }
static_pays true f public a n b ws is there w x =
    let same = as_many f.pieces a n (zeros n) b (zeros_whole n) x.size x.some in
    let few : length (touched_words (f.pieces ++ (a, b) ∷ [])) ≤ 64 = subst (λ (ns : List ℕ). length ns ≤ 64) same (room_is f a n is there x.room) in
    let all : with_waits (a / 8) (words_under (a, n)) ws ≡ touched_words (f.pieces ++ (a, b) ∷ []) =
    ap (λ (ns : List ℕ). with_waits (a / 8) (words_under (a, n)) ns) w.words ∙ words_kept f.pieces a n b x.size x.some few
    in
    let some = some_touched f.pieces a n b x.size x.some in
    record {
      moves = refl;
      waits = record { words = all; few = subst (λ (ns : List ℕ). length ns ≤ 64) (sym all) few; none = λ h. absurd (omega (arith, some, ap (λ (ns : List ℕ). length ns) (sym all ∙ h))) };
    }

-- the place of a write
abbrev place_by : Bool → Bool → Bool → ℕ → Option Place
place_by s d p a = cond s (Some (Static a)) (cond d (Some (Dynamic (a - dynamic_base))) (cond p (Some (Public (a - public_base))) None))

placed_pays : (s d p : Bool) (f : Frame) (public : List ℕ) (a n : ℕ) (b ws : List ℕ) → where_is f a n ≡ place_by s d p a → WaitIn ws f → Exact f a n b
    → (let span = cond {A = Option (ℕ × ℕ)} s (Some (a, n)) None in Pays (span_now f.protected span) (span_waits f.protected span ws) (write_effect_at f public b (place_by s d p a)))
placed_pays true d p f public a n b ws there w x = static_pays f.protected f public a n b ws refl there w x
placed_pays false true p f public a n b ws there w x = record { moves = refl; waits = record { words = w.words; few = w.few; none = w.none } }
placed_pays false false true f public a n b ws there w x = record { moves = refl; waits = w }
placed_pays false false false f public a n b ws there w x = record { moves = refl; waits = w }

write_pays : (f : Frame) (public : List ℕ) (a n : ℕ) (b ws : List ℕ) → WaitIn ws f → Exact f a n b
    → (let span = act_span (Writes a n b) (length f.fixed) in Pays (span_now f.protected span) (span_waits f.protected span ws) (write_effect f public a b))
unfolding write_effect
write_pays f public a n b ws w x =
    let span : Option (ℕ × ℕ) = act_span (Writes a n b) (length f.fixed) in
    subst (λ (k : ℕ). Pays (span_now f.protected span) (span_waits f.protected span ws) (write_effect_at f public b (where_is f a k))) (sym x.size)
    (placed_pays (nat_le (a + n) (length f.fixed)) (nat_le dynamic_base a && nat_le (a + n) f.dt) (nat_le public_base a && nat_le (a + n) public_end) f public a n b ws refl w x)

-- ---- acts

-- the mode that an act sets, if it sets the protection
abbrev act_mode : Act → Option ℕ
act_mode (Protects mode) = Some mode
act_mode _ = None

abbrev ActPays : Act → Frame → List ℕ → Effect → Type 0
ActPays act f ws e = Pays (now_by (act_mode act) f.protected (act_span act (length f.fixed)) ws) (waits_by (act_mode act) f.protected (act_span act (length f.fixed)) ws) e

-- the pieces wait as before
same_wait : (f g : Frame) (ws : List ℕ) → g.pieces ≡ f.pieces → WaitIn ws f → WaitIn ws g
same_wait f g ws e w = record { words = w.words ∙ sym (ap (λ (ps : List (ℕ × List ℕ)). touched_words ps) e); few = w.few; none = λ h. e ∙ w.none h }

act_pays : (act : Act) (f : Frame) (public ws : List ℕ) → WaitIn ws f → IsExact act f → ActPays act f ws (act_effect act f public)
act_pays Stays f public ws w x = record { moves = refl; waits = w }
act_pays (Answers sw la) f public ws w x = record { moves = refl; waits = w }
act_pays (Jumps true to) f public ws w x = record { moves = refl; waits = same_wait f _ ws refl w }
act_pays (Jumps false to) f public ws w x = record { moves = refl; waits = w }
act_pays (Calls true to) f public ws w x = record { moves = refl; waits = same_wait f _ ws refl w }
act_pays (Calls false to) f public ws w x = record { moves = refl; waits = w }
act_pays (Returns less more) f public ws w x = record { moves = refl; waits = same_wait f _ ws refl w }
act_pays (Pushes b) f public ws w x = record { moves = refl; waits = same_wait f _ ws refl w }
act_pays (Replaces b) f public ws w x = record { moves = refl; waits = same_wait f _ ws refl w }
act_pays (Writes a n b) f public ws w x = write_pays f public a n b ws w x
act_pays (Protects mode) f public ws w x = protect_pays f public mode ws w

flags_pay : (now : ℕ) (next : List ℕ) (o : Option (Bool × Bool)) (e : Effect) → Pays now next e → Pays now next (with_flags o e)
flags_pay now next None e h = h
flags_pay now next (Some cz) e h = record { moves = h.moves; waits = same_wait e.frame (with_flags (Some cz) e).frame next refl h.waits }

-- ---- rows

delegator_mode : (f : Frame) (o : Option (List ℕ)) → act_mode (delegator_shape f o).act ≡ None
delegator_mode f None = refl
delegator_mode f (Some name) = refl

prim_act_mode : (p : Primitive) (args : List ℕ) (f : Frame) (public : List ℕ) (x : Around) → act_mode (prim_shape p args f public x).act ≡ primitive_mode p args
unfolding prim_shape
prim_act_mode DelegatorAid args f public x = delegator_mode f x.delegator
prim_act_mode _ args f public x = refl

pair_act_mode : (o : Option Primitive) (args : List ℕ) (f : Frame) (public : List ℕ) (x : Around) → act_mode (pair_shape o args f public x).act ≡ pair_mode o args
pair_act_mode None args f public x = refl
pair_act_mode (Some p) args f public x = prim_act_mode p args f public x

shape_mode : (i : Ins) (f : Frame) (public : List ℕ) (x : Around) → act_mode (shape i f public x).act ≡ mode_of i
unfolding shape
shape_mode (ins.Prim set number args) f public x = pair_act_mode (primitive set number) args f public x
shape_mode _ f public x = refl

-- what an instruction does in a frame
abbrev InsPays : Ins → Frame → List ℕ → Around → List ℕ → Effect → Type 0
InsPays i f public x ws e = Pays (now_by (mode_of i) f.protected (ins_span i f public x) ws) (waits_by (mode_of i) f.protected (ins_span i f public x) ws) e

meaning_pays : (i : Ins) (f : Frame) (public : List ℕ) (x : Around) (ws : List ℕ) → WaitIn ws f → IsExact (shape i f public x).act (record f { dt = (shape i f public x).dt }) → InsPays i f public x ws (meaning (shape i f public x) f public).effect
meaning_pays i f public x ws w exact =
    let s = shape i f public x in
    let g : Frame = record f { dt = s.dt } in
    let span : Option (ℕ × ℕ) = ins_span i f public x in
    let here : ActPays s.act g ws (act_effect s.act g public) = act_pays s.act g public ws (same_wait f g ws refl w) exact in
    subst (λ (m : Option ℕ). Pays (now_by m f.protected span ws) (waits_by m f.protected span ws) (meaning s f public).effect) (shape_mode i f public x)
    (flags_pay (now_by (act_mode s.act) f.protected span ws) (waits_by (act_mode s.act) f.protected span ws) s.flags (act_effect s.act g public) here)

judged_pays : (i : Ins) (f : Frame) (public : List ℕ) (x : Around) (ws : List ℕ) → IsRoomy f public → WaitIn ws f → (o : Option Abend) → first_cause (causes i f public x) ≡ o → OnDone (row_end o (effect i f public x)) (λ d. InsPays i f public x ws d.effect)
judged_pays i f public x ws r w (Some a) e = tt
judged_pays i f public x ws r w None e =
    subst (λ (d : Done). InsPays i f public x ws d.effect) (sym (shapes i f public x)) (meaning_pays i f public x ws w (shape_exact i f public x r (none_holds (causes i f public x) e)))

row_pays : (i : Ins) (f : Frame) (public : List ℕ) (x : Around) (ws : List ℕ) → IsRoomy f public → WaitIn ws f → OnDone (row i f public x) (λ d. InsPays i f public x ws d.effect)
unfolding row
row_pays i f public x ws r w = judged_pays i f public x ws r w (first_cause (causes i f public x)) refl

-- ---- the place of the code does not matter

delegator_at : (f : Frame) (k : ℕ) (o : Option (List ℕ)) → act_span (delegator_shape (frame_at f k) o).act (length f.fixed) ≡ act_span (delegator_shape f o).act (length f.fixed)
delegator_at f k None = refl
delegator_at f k (Some name) = refl

prim_at : (p : Primitive) (args : List ℕ) (f : Frame) (k : ℕ) (public : List ℕ) (x : Around) → act_span (prim_shape p args (frame_at f k) public x).act (length f.fixed) ≡ act_span (prim_shape p args f public x).act (length f.fixed)
unfolding prim_shape bytes_at
prim_at DelegatorAid args f k public x = delegator_at f k x.delegator
prim_at _ args f k public x = refl

pair_at : (o : Option Primitive) (args : List ℕ) (f : Frame) (k : ℕ) (public : List ℕ) (x : Around) → act_span (pair_shape o args (frame_at f k) public x).act (length f.fixed) ≡ act_span (pair_shape o args f public x).act (length f.fixed)
pair_at None args f k public x = refl
pair_at (Some p) args f k public x = prim_at p args f k public x

-- the static bytes that an instruction writes do not depend on where the code goes on
pub span_at : (i : Ins) (f : Frame) (k : ℕ) (public : List ℕ) (x : Around) → ins_span i (frame_at f k) public x ≡ ins_span i f public x
unfolding shape bytes_at
span_at (ins.Prim set number args) f k public x = pair_at (primitive set number) args f k public x
span_at _ f k public x = refl

-- what an instruction of a chain does
abbrev pub TurnPays : Ins → Chain → List ℕ → Done → Type 0
TurnPays i ch ws d = InsPays i ch.frame ch.public (around ch) ws d.effect

-- an instruction makes the device writes that follow from it, from protection and from what waits
pub turn_pays : (i : Ins) (ch : Chain) (k : ℕ) (ws : List ℕ) → IsRoomy ch.frame ch.public → WaitIn ws ch.frame → OnDone (row i (frame_at ch.frame k) ch.public (around ch)) (λ d. TurnPays i ch ws d)
turn_pays i ch k ws r w =
    let f : Frame = frame_at ch.frame k in
    subst (λ (s : Option (ℕ × ℕ)). OnDone (row i f ch.public (around ch)) (λ d. Pays (now_by (mode_of i) f.protected s ws) (waits_by (mode_of i) f.protected s ws) d.effect)) (span_at i ch.frame k ch.public (around ch))
    (row_pays i f ch.public (around ch) ws (record { fixed = r.fixed; dyn = r.dyn; high = r.high; whole = r.whole }) (same_wait ch.frame f ws refl w))

-- ---- turns

row_moves : (ch : Chain) (i : Ins) (r : RowEnd) (ws : List ℕ) → OnDone r (λ d. TurnPays i ch ws d) → (EndsFrame (row_turn ch i r).turn → (row_turn ch i r).writes ≡ [])
    → (let t = row_turn ch i r in writes_of_words (now_of t.turn.end t.turn.ins (chain_span ch) ch.frame.protected ws) ≡ moves (write_items t.writes))
row_moves ch i (Abends c) ws pays quiet = refl
row_moves ch i (Does d) ws pays quiet = by (follows (chain_after_effect ch d.effect) d.next) (λ c e. quiet (inl (c, e)))
  where
    all : List Write
    all = write_of ch.frame.name d.effect.changes

    by : (f : Follows) → ((c : Abend) → end_of f ≡ Some (Abended c) → all ≡ []) → writes_of_words (now_of (end_of f) (Some i) (chain_span ch) ch.frame.protected ws) ≡ moves (write_items all)
    by (Continues next) none = pays.moves ∙ change_is ch.frame.name d.effect.changes
    by (Ends (Reply body sw)) none = pays.moves ∙ change_is ch.frame.name d.effect.changes
    by (Ends (Abended c)) none = sym (ap (λ (w : List Write). moves (write_items w)) (none c refl))

fetch_moves : (ch : Chain) (r : Result (Ins × ℕ) DecodeFault) (ws : List ℕ) → IsRoomy ch.frame ch.public → WaitIn ws ch.frame → (EndsFrame (turn_of_fetch ch r).turn → (turn_of_fetch ch r).writes ≡ [])
    → (let t = turn_of_fetch ch r in writes_of_words (now_of t.turn.end t.turn.ins (chain_span ch) ch.frame.protected ws) ≡ moves (write_items t.writes))
fetch_moves ch (Err Undefined) ws room w quiet = refl
fetch_moves ch (Err Past) ws room w quiet = refl
fetch_moves ch (Ok i) ws room w quiet = row_moves ch i.0 (row i.0 (frame_at ch.frame i.1) ch.public (around ch)) ws (turn_pays i.0 ch i.1 ws room w) quiet

-- the device writes of a turn
pub moves_are : (n : ℕ) (ch : Chain) (ws : List ℕ) → IsRoomy ch.frame ch.public → WaitIn ws ch.frame
    → (let t = (turn_of n ch).turn in writes_of_words (now_of t.end t.ins (chain_span ch) ch.frame.protected ws) ≡ turn_moves n ch)
unfolding turn_of_chain
moves_are zero ch ws room w = refl
moves_are (suc n) ch ws room w = fetch_moves ch (instruction_at (code_in (lookup ch.map ch.frame.name)) ch.frame.at) ws room w (λ ends. ended_writes (suc n) ch ends)
