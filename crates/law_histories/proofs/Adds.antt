-- What a line adds to a history does not depend on it, if the line does not create the application; and what stands after
-- the longer history is what stands after those events, from what stood before them.
use Rattle.std.proofs.Common.{arith, ◌≡◌, ℕ, zero, suc, Bool, true, false, List, [], ◌∷◌, ◌++◌, Option, Some, None, Result, Ok, Err, refl, sym, ap, ◌∙◌}
use Rattle.std.specs.Prelude.{nat_le, bytes_eq}
use Rattle.std.proofs.lemmas.List.{append_assoc}
use Rattle.law_histories.specs.model_text.specs.Text.{◌>>=◌}
use Rattle.law_histories.specs.model_device.specs.Image.{Two}
use Rattle.law_histories.specs.model_device.specs.Stopped.{cost, stands}
use Rattle.law_histories.specs.model_device.specs.Card.{Card}
use Rattle.law_histories.specs.model_device.specs.PowerUp.{Base, OnCard, AtFault}
use Rattle.law_histories.specs.model_machine.specs.Apdu.{ApduParts}
use Rattle.law_histories.specs.model_machine.specs.Chain.{Chain, Write, Follows, Continues, Ends, turn_of_chain}
use Rattle.law_histories.specs.model_card.specs.Items.{StopAt}
use Rattle.law_histories.specs.model_card.specs.Manager.{Selected, SessionState, Route, Managed, Declines, Accepts, is_selected}
use Rattle.law_histories.specs.model_play.specs.DeckGrammar.{DeckLine}
use Rattle.law_histories.specs.model_play.specs.Play.{Live, Running, Unpowered, Muted, State, LineResult, Answered, Step}
use Rattle.law_histories.specs.model_rules.specs.model_events.specs.Deeds.{Watch}
use Rattle.law_histories.specs.law_promise.specs.History.{CutAt, cut_after, with_event, turn_event, last_turn, cut_turn, after_writes, after_follows, after_run, selection_event, after_select, after_passed, after_route, with_answer, after_items, after_stop, after_command, after_taken, after_line, after_step}
use Rattle.law_histories.specs.model_rules.specs.Rules.{AppRules}
use Rattle.law_histories.specs.model_rules.specs.Happenings.{History}
use Rattle.law_histories.specs.model_rules.specs.Keeping.{Standing, Break, after_event, standing_after}
use Rattle.law_histories.specs.Histories.{standing_from}

-- ---- what is added

-- it puts the same events before every history
abbrev pub Adds : {E : Type 0} → (List E → List E) → Type 0
Adds {E} f = (h : List E) → f h ≡ f [] ++ h

-- at most one event before a history is added to it
pub event_adds : {E : Type 0} (e : Option E) → Adds (λ (h : List E). with_event e h)
event_adds None h = refl
event_adds (Some e) h = refl

-- two additions in a row add to the history
pub both_add : {E : Type 0} (f g : List E → List E) → Adds f → Adds g → Adds (λ (h : List E). g (f h))
both_add {E} f g a b h = ap g (a h) ∙ (b (f [] ++ h) ∙ (sym (append_assoc (g []) (f []) h) ∙ ap (λ (z : List E). z ++ h) (sym (b (f [])))))

-- ---- a run

last_adds : {E : Type 0} (b : Bool) (e : Option E) → Adds (λ (h : List E). last_turn b e h)
last_adds true e h = event_adds e h
last_adds false e h = refl

cut_adds : {E : Type 0} (b : Bool) (w : Write) (c : CutAt) (e : Option E) (rest : Option CutAt → List E → List E) → ((x : Option CutAt) → Adds (rest x)) → Adds (λ (h : List E). cut_turn b w c e h rest)
cut_adds true w c e rest a h = last_adds (stands Two w.words c.at c.left) e h
cut_adds {E} false w c e rest a h = both_add (λ (h : List E). with_event e h) (rest (Some (cut_after w.words c))) (event_adds e) (a (Some (cut_after w.words c))) h

writes_add : {E : Type 0} (ws : List Write) (c : Option CutAt) (e : Option E) (rest : Option CutAt → List E → List E) → ((x : Option CutAt) → Adds (rest x)) → Adds (λ (h : List E). after_writes ws c e h rest)
writes_add {E} [] c e rest a h = both_add (λ (h : List E). with_event e h) (rest c) (event_adds e) (a c) h
writes_add {E} (w ∷ ws) None e rest a h = both_add (λ (h : List E). with_event e h) (rest None) (event_adds e) (a None) h
writes_add (w ∷ ws) (Some c) e rest a h = cut_adds (nat_le c.at (cost Two w.words)) w c e rest a h

follows_add : {E : Type 0} (f : Follows) (rest : Chain → Option CutAt → List E → List E) → ((z : Chain) (x : Option CutAt) → Adds (rest z x)) → (c : Option CutAt) → Adds (λ (h : List E). after_follows f rest c h)
follows_add (Ends o) rest a c h = refl
follows_add (Continues z) rest a c h = a z c h

run_adds : {E : Type 0} (w : Watch E) (n : ℕ) (ch : Chain) (c : Option CutAt) → Adds (λ (h : List E). after_run w n ch c h)
unfolding after_run
run_adds w zero ch c h = refl
run_adds {E} w (suc n) ch c h =
    let t = turn_of_chain ch in
    let rest : Chain → Option CutAt → List E → List E = λ z x p. after_run w n z x p in
    writes_add t.writes c (turn_event w ch) (λ x p. after_follows t.follows rest x p) (λ x. follows_add t.follows rest (λ z y. run_adds w n z y) x) h

-- ---- a command

select_adds : {E : Type 0} (w : Watch E) (old : Option Selected) (n : List ℕ) (m : Managed) → Adds (λ (h : List E). after_select w old n m h)
select_adds w old n (Declines sw) h = refl
select_adds w old n (Accepts a) h = event_adds (selection_event w (bytes_eq n w.name) (is_selected old w.name)) h

passed_adds : {E : Type 0} (w : Watch E) (c : Card) (found : Option Selected) (bytes : List ℕ) (a : ApduParts) (budget : ℕ) (cut : Option CutAt) → Adds (λ (h : List E). after_passed w c found bytes a budget cut h)
passed_adds w c None bytes a budget cut h = refl
passed_adds {E} w c (Some s) bytes a budget cut h = grind (arith, both_add, event_adds, run_adds)

route_adds : {E : Type 0} (w : Watch E) (c : Card) (session_state : SessionState) (bytes : List ℕ) (budget : ℕ) (r : Route) (cut : Option CutAt) → Adds (λ (h : List E). after_route w c session_state bytes budget r cut h)
route_adds w c session_state bytes budget r cut h = grind (arith, select_adds, passed_adds)

answer_adds : {E : Type 0} (w : Watch E) (own : Bool) (bytes : List ℕ) (result : Option LineResult) → Adds (λ (h : List E). with_answer w own bytes result h)
answer_adds w true bytes (Some (Answered o)) h = event_adds (w.of_answer bytes o) h
answer_adds w own bytes result h = refl

-- ---- a line

stop_adds : {E : Type 0} (w : Watch E) (selected : Bool) (s : Option StopAt) → Adds (λ (h : List E). after_stop w selected s h)
stop_adds w selected None h = refl
stop_adds w selected (Some s) h = event_adds (w.of_end selected) h

command_adds : {E : Type 0} (w : Watch E) (c : Card) (session_state : SessionState) (budget : ℕ) (b : Option (List ℕ)) (result : Option LineResult) (cut : Option CutAt) → Adds (λ (h : List E). after_command w c session_state budget b result cut h)
command_adds w c session_state budget None result cut h = refl
command_adds {E} w c session_state budget (Some b) result cut h = grind (arith, both_add, route_adds, answer_adds)

-- items that create no application of the name
abbrev pub LeavesHistory : {E : Type 0} → Watch E → Step → Type 0
LeavesHistory {E} w t = (h : List E) → after_items w.name t.whole h ≡ h

items_add : {E : Type 0} (w : Watch E) (t : Step) → LeavesHistory w t → Adds (λ (h : List E). after_items w.name t.whole h)
items_add {E} w t same h = same h ∙ ap (λ (z : List E). z ++ h) (sym (same []))

taken_adds : {E : Type 0} (w : Watch E) (v : Live) (b : Base) (budget : ℕ) (t : Step) → LeavesHistory w t → Adds (λ (h : List E). after_taken w v b budget t h)
taken_adds {E} w (Running session_state) (OnCard c) budget t same h = grind (arith, both_add, items_add, command_adds, stop_adds)
taken_adds w (Running session_state) (AtFault cause p) budget t same h = refl
taken_adds w Unpowered b budget t same h = refl
taken_adds w Muted b budget t same h = refl

line_adds : {E : Type 0} (w : Watch E) (z : State) (t : Step) (l : DeckLine) → LeavesHistory w t → Adds (λ (h : List E). after_line w z t l h)
line_adds w z t l same h = grind (arith, event_adds, taken_adds)

-- a line that creates nothing under the name adds to the history
pub step_adds : {E : Type 0} (w : Watch E) (t : Step) → LeavesHistory w t → Adds (λ (h : List E). after_step w t h)
step_adds w t same h = line_adds w t.before t t.line same h

-- ---- what stands

all_same : {A E : Type 0} (x : Result A E) → x ≡ (x >>= λ a. Ok a)
all_same (Ok a) = refl
all_same (Err e) = refl

in_turn : {A B C E : Type 0} (x : Result A E) (f : A → Result B E) (g : B → Result C E) → (x >>= f >>= g) ≡ (x >>= λ a. f a >>= g)
in_turn (Ok a) f g = refl
in_turn (Err e) f g = refl

standing_append : (r : AppRules) (h k : History) → standing_after r (h ++ k) ≡ (standing_after r k >>= λ s. standing_from r h s)
standing_append r [] k = all_same (standing_after r k)
standing_append r (e ∷ h) k =
    ap (λ (z : Result Standing Break). z >>= after_event r e) (standing_append r h k) ∙ in_turn (standing_after r k) (λ s. standing_from r h s) (after_event r e)

-- the standing after added events is that from the one before them
pub standing_on : (r : AppRules) (h k : History) (s : Standing) → standing_after r k ≡ Ok s → standing_after r (h ++ k) ≡ standing_from r h s
standing_on r h k s e = standing_append r h k ∙ ap (λ (z : Result Standing Break). z >>= λ s. standing_from r h s) e
