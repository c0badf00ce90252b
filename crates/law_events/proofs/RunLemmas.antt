-- The history of a run from its turns, whole and up to a stop.
use Rattle.std.proofs.Common.{◌≡◌, ℕ, zero, suc, ◌-◌, Bool, true, false, cond, List, [], ◌∷◌, length, take, Option, Some, None, Result, Ok, Err, refl, sym, ap, subst, ◌∙◌}
use Rattle.std.specs.Prelude.{nat_le, ⊤}
use Rattle.law_promise.specs.model_events.specs.model_machine.specs.declared.instruction.Ins.{Ins}
use Rattle.law_promise.specs.model_events.specs.model_machine.specs.declared.instruction.DecodeFault.{DecodeFault}
use Rattle.law_promise.specs.model_events.specs.model_machine.specs.declared.instruction.DecodeFault.TheVariants.{Undefined, Past}
use Rattle.law_promise.specs.model_events.specs.model_device.specs.Bytes.{lookup}
use Rattle.law_promise.specs.model_events.specs.model_device.specs.Image.{Two}
use Rattle.law_promise.specs.model_events.specs.model_device.specs.Stopped.{cost, stands}
use Rattle.law_promise.specs.model_events.specs.model_machine.specs.Code.{instruction_at}
use Rattle.law_promise.specs.model_events.specs.model_machine.specs.Row.{RowEnd, Abends, Does, row}
use Rattle.law_promise.specs.model_events.specs.model_machine.specs.Chain.{Acted, Chain, Follows, Continues, Ends, Ran, Turn, Write, around, code_in, frame_at, row_turn, run_after_turn, run_of_chain, turn_of_chain, turn_of_fetch, words_of_write, write_of}
use Rattle.law_promise.specs.model_events.specs.Deeds.{Watch}
use Rattle.law_promise.specs.model_play.specs.TraceText.{before_stop, turns_to}
use Rattle.law_promise.specs.History.{CutAt, after_follows, after_run, after_writes, cut_after, cut_turn, last_turn, turn_event, with_event}
use Rattle.law_events.specs.Events.{count_with, is_durable_at, rest_events, run_events, stands_at, with_events}

-- ---- a run without a stop

none_writes : {E : Type 0} (ws : List Write) (e : Option E) (h : List E) (rest : Option CutAt → List E → List E) → after_writes ws None e h rest ≡ rest None (with_event e h)
none_writes [] e h rest = refl
none_writes (w ∷ ws) e h rest = refl

whole_follows : {E : Type 0} (f : Follows) (rest : Chain → Option CutAt → List E → List E) (events : Chain → List (Option E)) (h : List E) → ((c : Chain) (k : List E) → rest c None k ≡ with_events (events c) k)
    → after_follows f rest None h ≡ with_events (rest_events f events) h
whole_follows (Ends o) rest events h is = refl
whole_follows (Continues c) rest events h is = is c h

-- a history after a run has the events of its turns
pub whole_run : {E : Type 0} (w : Watch E) (n : ℕ) (ch : Chain) (h : List E) → after_run w n ch None h ≡ with_events (run_events w n ch) h
unfolding after_run run_events
whole_run w zero ch h = refl
whole_run w (suc n) ch h =
    let t = turn_of_chain ch in
    none_writes t.writes (turn_event w ch) h (λ c k. after_follows t.follows (λ d i k. after_run w n d i k) c k)
    ∙ whole_follows t.follows (λ d i k. after_run w n d i k) (λ d. run_events w n d) (with_event (turn_event w ch) h) (λ d k. whole_run w n d k)

-- ---- a run up to a stop

-- an atomic write, if there is one, has this number of words
abbrev OneWrite : List Write → Option ℕ → Type 0
OneWrite [] None = ⊤
OneWrite [] (Some k) = ⊥
OneWrite (w ∷ []) None = ⊥
OneWrite (w ∷ []) (Some k) = w.words ≡ k
OneWrite (w ∷ v ∷ ws) o = ⊥

one_write : (n : List ℕ) (c : Option (List (ℕ × List ℕ))) → OneWrite (write_of n c) (words_of_write c)
one_write n None = tt
one_write n (Some ps) = refl

row_one : (ch : Chain) (i : Ins) (r : RowEnd) → OneWrite (row_turn ch i r).writes (row_turn ch i r).turn.wrote
row_one ch i (Abends a) = tt
row_one ch i (Does d) = one_write ch.frame.name d.effect.changes

fetch_one : (ch : Chain) (r : Result (Ins × ℕ) DecodeFault) → OneWrite (turn_of_fetch ch r).writes (turn_of_fetch ch r).turn.wrote
fetch_one ch (Err Undefined) = tt
fetch_one ch (Err Past) = tt
fetch_one ch (Ok i) = row_one ch i.0 (row i.0 (frame_at ch.frame i.1) ch.public (around ch))

turn_one : (ch : Chain) → OneWrite (turn_of_chain ch).writes (turn_of_chain ch).turn.wrote
unfolding turn_of_chain
turn_one ch = fetch_one ch (instruction_at (code_in (lookup ch.map ch.frame.name)) ch.frame.at)

-- the events of a turn and of those after it, up to a stop
abbrev cut_by : {E : Type 0} → Option ℕ → Option E → CutAt → (CutAt → List (Option E)) → List (Option E)
cut_by None e c rest = e ∷ rest c
cut_by (Some w) e c rest = cond (nat_le c.at (cost Two w)) (cond (stands Two w c.at c.left) (e ∷ []) []) (e ∷ rest (cut_after w c))

-- the events of turns up to a stop
abbrev cut_events : {E : Type 0} → List Turn → List (Option E) → CutAt → List (Option E)
cut_events [] es c = []
cut_events (t ∷ ts) [] c = []
cut_events (t ∷ ts) (e ∷ es) c = cut_by t.wrote e c (λ d. cut_events ts es d)

cut_last : {E : Type 0} (b : Bool) (e : Option E) (h : List E) → last_turn b e h ≡ with_events (cond b (e ∷ []) []) h
cut_last true e h = refl
cut_last false e h = refl

cut_at : {E : Type 0} (b : Bool) (w : Write) (e : Option E) (c : CutAt) (h : List E) (rest : Option CutAt → List E → List E) (more : CutAt → List (Option E)) → ((d : CutAt) (k : List E) → rest (Some d) k ≡ with_events (more d) k)
    → cut_turn b w c e h rest ≡ with_events (cond b (cond (stands Two w.words c.at c.left) (e ∷ []) []) (e ∷ more (cut_after w.words c))) h
cut_at true w e c h rest more is = cut_last (stands Two w.words c.at c.left) e h
cut_at false w e c h rest more is = is (cut_after w.words c) (with_event e h)

cut_writes : {E : Type 0} (ws : List Write) (o : Option ℕ) (e : Option E) (c : CutAt) (h : List E) (rest : Option CutAt → List E → List E) (more : CutAt → List (Option E)) → OneWrite ws o → ((d : CutAt) (k : List E) → rest (Some d) k ≡ with_events (more d) k)
    → after_writes ws (Some c) e h rest ≡ with_events (cut_by o e c more) h
cut_writes [] None e c h rest more one is = is c (with_event e h)
cut_writes [] (Some k) e c h rest more one is = absurd one
cut_writes (w ∷ []) None e c h rest more one is = absurd one
cut_writes (w ∷ []) (Some k) e c h rest more one is =
    subst (λ (k : ℕ). after_writes (w ∷ []) (Some c) e h rest ≡ with_events (cut_by (Some k) e c more) h) one (cut_at (nat_le c.at (cost Two w.words)) w e c h rest more is)
cut_writes (w ∷ v ∷ ws) o e c h rest more one is = absurd one

-- the turns of the rest of a run, if the chain goes on
abbrev rest_turns : Follows → (Chain → Ran) → List Turn
rest_turns (Ends o) rest = []
rest_turns (Continues ch) rest = (rest ch).turns

turns_are : (t : Acted) (session : List ℕ) (f : Follows) (rest : Chain → Ran) → (run_after_turn t session f rest).turns ≡ t.turn ∷ rest_turns f rest
turns_are t session (Ends o) rest = refl
turns_are t session (Continues c) rest = refl

cut_follows : {E : Type 0} (f : Follows) (rest : Chain → Option CutAt → List E → List E) (runs : Chain → Ran) (events : Chain → List (Option E)) → ((c : Chain) (d : CutAt) (k : List E) → rest c (Some d) k ≡ with_events (cut_events (runs c).turns (events c) d) k)
    → (d : CutAt) (k : List E) → after_follows f rest (Some d) k ≡ with_events (cut_events (rest_turns f runs) (rest_events f events) d) k
cut_follows (Ends o) rest runs events is d k = refl
cut_follows (Continues c) rest runs events is d k = is c d k

cut_run : {E : Type 0} (w : Watch E) (n : ℕ) (ch : Chain) (c : CutAt) (h : List E) → after_run w n ch (Some c) h ≡ with_events (cut_events (run_of_chain n ch).turns (run_events w n ch) c) h
unfolding after_run run_events run_of_chain
cut_run w zero ch c h = refl
cut_run w (suc n) ch c h =
    let t = turn_of_chain ch in
    let runs : Chain → Ran = λ d. run_of_chain n d in
    cut_writes t.writes t.turn.wrote (turn_event w ch) c h (λ d k. after_follows t.follows (λ x i k. after_run w n x i k) d k)
    (λ d. cut_events (rest_turns t.follows runs) (rest_events t.follows (λ x. run_events w n x)) d) (turn_one ch)
    (cut_follows t.follows (λ x i k. after_run w n x i k) runs (λ x. run_events w n x) (λ x d k. cut_run w n x d k))
    ∙ ap (λ (ts : List Turn). with_events (cut_events ts (turn_event w ch ∷ rest_events t.follows (λ x. run_events w n x)) c) h) (sym (turns_are t _ t.follows runs))

-- ---- the number of turns that count

step_take : {A : Type 0} (b : Bool) (n : ℕ) (e : A) (es xs : List A) → xs ≡ take (count_with b n) es → e ∷ xs ≡ take (count_with b (suc n)) (e ∷ es)
step_take true n e es xs h = ap (λ (l : _). e ∷ l) h
step_take false n e es xs h = ap (λ (l : _). e ∷ l) h

take_last : {A : Type 0} (b : Bool) (e : A) (es : List A) → cond b (e ∷ []) [] ≡ take (count_with b 0) (e ∷ es)
take_last true e es = refl
take_last false e es = refl

take_at : {E : Type 0} (b : Bool) (t : Turn) (ts : List Turn) (w : ℕ) (e : Option E) (es : List (Option E)) (c : CutAt)
    → ((d : CutAt) → cut_events ts es d ≡ take (count_with (is_durable_at ts d.at d.left) (length (before_stop ts d.at))) es)
    → cond b (cond (stands Two w c.at c.left) (e ∷ []) []) (e ∷ cut_events ts es (cut_after w c))
    ≡ take (count_with (cond b (stands Two w c.at c.left) (is_durable_at ts (c.at - cost Two w) c.left)) (length (cond b [] (t ∷ before_stop ts (c.at - cost Two w))))) (e ∷ es)
take_at true t ts w e es c is = take_last (stands Two w c.at c.left) e es
take_at false t ts w e es c is =
    step_take (is_durable_at ts (c.at - cost Two w) c.left) (length (before_stop ts (c.at - cost Two w))) e es (cut_events ts es (cut_after w c)) (is (cut_after w c))

take_by : {E : Type 0} (o : Option ℕ) (t : Turn) (ts : List Turn) (e : Option E) (es : List (Option E)) (c : CutAt)
    → ((d : CutAt) → cut_events ts es d ≡ take (count_with (is_durable_at ts d.at d.left) (length (before_stop ts d.at))) es)
    → cut_by o e c (λ d. cut_events ts es d) ≡ take (count_with (stands_at o c.at c.left (λ j. is_durable_at ts j c.left)) (length (turns_to o t c.at (λ j. before_stop ts j)))) (e ∷ es)
take_by None t ts e es c is = step_take (is_durable_at ts c.at c.left) (length (before_stop ts c.at)) e es (cut_events ts es c) (is c)
take_by (Some w) t ts e es c is = take_at (nat_le c.at (cost Two w)) t ts w e es c is

cut_taken : {E : Type 0} (ts : List Turn) (es : List (Option E)) (c : CutAt) → length es ≡ length ts → cut_events ts es c ≡ take (count_with (is_durable_at ts c.at c.left) (length (before_stop ts c.at))) es
cut_taken [] es c h = refl
cut_taken (t ∷ ts) [] c h = absurd (cc h)
cut_taken (t ∷ ts) (e ∷ es) c h = let less : length es ≡ length ts = cc h in take_by t.wrote t ts e es c (λ d. cut_taken ts es d less)

-- a run has an event, if it is one, for each turn
rest_size : {E : Type 0} (f : Follows) (runs : Chain → Ran) (events : Chain → List (Option E)) → ((c : Chain) → length (events c) ≡ length (runs c).turns) → length (rest_events f events) ≡ length (rest_turns f runs)
rest_size (Ends o) runs events is = refl
rest_size (Continues c) runs events is = is c

pub run_size : {E : Type 0} (w : Watch E) (n : ℕ) (ch : Chain) → length (run_events w n ch) ≡ length (run_of_chain n ch).turns
unfolding run_events run_of_chain
run_size w zero ch = refl
run_size w (suc n) ch =
    let t = turn_of_chain ch in
    let runs : Chain → Ran = λ d. run_of_chain n d in
    ap (λ (k : ℕ). suc k) (rest_size t.follows runs (λ x. run_events w n x) (λ x. run_size w n x)) ∙ ap (λ (ts : List Turn). length ts) (sym (turns_are t _ t.follows runs))

-- a history after a run that a stop hits has the events of the turns that count
pub stopped_run : {E : Type 0} (w : Watch E) (n : ℕ) (ch : Chain) (c : CutAt) (h : List E)
    → (let ts = (run_of_chain n ch).turns in after_run w n ch (Some c) h ≡ with_events (take (count_with (is_durable_at ts c.at c.left) (length (before_stop ts c.at))) (run_events w n ch)) h)
stopped_run w n ch c h =
    cut_run w n ch c h ∙ ap (λ (es : List (Option _)). with_events es h) (cut_taken (run_of_chain n ch).turns (run_events w n ch) c (run_size w n ch))
