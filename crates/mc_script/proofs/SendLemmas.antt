-- Commands for the card manager, one after the other.
use Rattle.std.proofs.Common.{◌≡◌, ℕ, zero, suc, ◌+◌, Bool, true, false, cond, ◌==◌, List, [], ◌∷◌, ◌++◌, length, take, drop, Option, Some, None, Result, Ok, Err, refl, arith, sym, ap, subst, ◌∙◌}
use Rattle.std.specs.Prelude.{option_map}
use Rattle.std.specs.List.{AllByRecursion}
use Rattle.model_play.specs.model_device.specs.declared.device.Stop.{Stop}
use Rattle.model_play.specs.model_device.specs.Orders.{Answer, answer_of}
use Rattle.model_play.specs.model_device.specs.Device.{DeviceState, Wrote, Makes}
use Rattle.model_play.specs.model_device.specs.Bytes.{bytes2}
use Rattle.model_play.specs.model_machine.specs.Apdu.{apdu_read, rest_read, Rest}
use Rattle.model_play.specs.model_card.specs.Units.{UnitParts}
use Rattle.model_play.specs.model_device.specs.Card as model
use Rattle.model_play.specs.model_card.specs.Items.{card_done}
use Rattle.model_play.specs.model_machine.specs.Chain.{Turn}
use Rattle.model_play.specs.model_card.specs.Manager.{SessionState, route, route_of_parts}
use Rattle.model_play.specs.model_card.specs.Commands.{Command, command, refusal, status}
use Rattle.model_play.specs.Play.{is_done, with_items, command_with_rest, send, piece_commands, load_commands}
use Rattle.model_play.specs.TraceText.{before_stop}
use Rattle.mc_machine.specs.declared.outcome.Outcome.{Outcome}
use Rattle.mc_machine.specs.Turns.{outcome_value}
use Rattle.mc_card.specs.declared.card.Card.{Card}
use Rattle.mc_card.specs.Parts.{device_in, card_in, session_state_in, due, IsReadyCard}
use Rattle.mc_card.specs.Ends.{is_passed}
use Rattle.mc_card.proofs.MadeLemmas.{card_found, MadeBy, by_made, made_on, made_before}
use Rattle.mc_script.specs.Classes.{IsManaged}
use Rattle.mc_script.specs.Runs.{ReportsTurns, RanAndReported}
use Rattle.mc_script.proofs.StopLemmas.{number_done}
use Rattle.mc_script.proofs.CommandLemmas.{command_turns}
use Rattle.mc_script.proofs.UpLemmas.{up_on, up_base}

-- ---- commands of class BE have no turns

read_by : (ins p1 p2 : ℕ) (r : Option Rest) (session_state : SessionState) → is_passed (route_of_parts (option_map (λ r. record { cla = 0xBE; ins = ins; p1 = p1; p2 = p2; p3 = r.p3; body = r.body; le = r.le }) r)) session_state.selected ≡ false
read_by ins p1 p2 None session_state = refl
read_by ins p1 p2 (Some r) session_state = refl

pub not_passed : (b : List ℕ) (session_state : SessionState) → IsManaged b → is_passed (route b) session_state.selected ≡ false
unfolding apdu_read
not_passed [] session_state h = refl
not_passed (c ∷ []) session_state h = refl
not_passed (c ∷ i ∷ []) session_state h = refl
not_passed (c ∷ i ∷ p ∷ []) session_state h = refl
not_passed (c ∷ i ∷ p ∷ q ∷ b) session_state h = subst (λ (k : ℕ). is_passed (route (k ∷ i ∷ p ∷ q ∷ b)) session_state.selected ≡ false) (sym h) (read_by i p q (rest_read b) session_state)

pub managed_turns : (c : model.Card) (session_state : SessionState) (b : List ℕ) (budget : ℕ) → IsManaged b → (command c session_state b budget).turns ≡ []
managed_turns c session_state b budget h = command_turns c session_state b budget (not_passed b session_state h)

sent_turns : (k : Bool) (first rest : Command) → first.turns ≡ [] → rest.turns ≡ [] → (command_with_rest k first rest).turns ≡ []
sent_turns true first rest e f = ap (λ ts. ts ++ rest.turns) e ∙ f
sent_turns false first rest e f = e

pub send_turns : (c : model.Card) (session_state : SessionState) (budget : ℕ) (bs : List (List ℕ)) → AllByRecursion IsManaged bs → (send c session_state budget bs).turns ≡ []
unfolding send
send_turns c session_state budget [] all = refl
send_turns c session_state budget (b ∷ bs) all =
    let r = command c session_state b budget in
    sent_turns (is_done r.outcome) r (send (card_done c r.items) r.session_state budget bs) (managed_turns c session_state b budget all.0) (send_turns (card_done c r.items) r.session_state budget bs all.1)

-- ---- one command, and those after it

pub send_first : (c : model.Card) (session_state : SessionState) (budget : ℕ) (b : List ℕ) (bs : List (List ℕ)) → send c session_state budget (b ∷ bs) ≡ command_with_rest (is_done (command c session_state b budget).outcome) (command c session_state b budget) (send (card_done c (command c session_state b budget).items) (command c session_state b budget).session_state budget bs)
unfolding send
send_first c session_state budget b bs = refl

pub send_none : (c : model.Card) (session_state : SessionState) (budget : ℕ) → send c session_state budget [] ≡ refusal session_state 0x9000
unfolding send
send_none c session_state budget = refl

module _ {N R : Type 0} (state : N → DeviceState) (wrote : N → ℕ → List ℕ → Answer → N → Type 0)
    (obeys : (d : N) (at : ℕ) (w : List ℕ) (a : Answer) (e : N) → (state d).on ≡ true → wrote d at w a e → Wrote (state d) at w a (state e))
    (reported : R → List Turn → R → Type 0) (silent : (r : R) → reported r [] r)
    (onward : (q r s : R) → reported q [] r → reported r [] s → reported q [] s) where
  -- nothing is recorded of commands without turns
  untold : (result : Result Outcome Stop) (c d : Card N) (ws : List (ℕ × List ℕ)) (ts : List Turn) (q r : R) → ts ≡ [] → ReportsTurns state wrote reported c ws ts result d q r → reported q [] r
  untold (Ok o) c d ws ts q r none h = subst (λ (us : List Turn). reported q us r) none h
  untold (Err s) c d ws ts q r none h = subst (λ (us : List Turn). reported q (before_stop us h.0) r) none h.2

  -- what is recorded of commands without turns after such a command
  reports_behind : (result : Result Outcome Stop) (c m d : Card N) (ws vs : List (ℕ × List ℕ)) (ts us : List Turn) (p q r : R) → Makes wrote (device_in c) ws (Ok tt) (device_in m) → ts ≡ [] → us ≡ [] → reported p [] q
      → ReportsTurns state wrote reported m vs us result d q r → ReportsTurns state wrote reported c (ws ++ vs) ts result d p r
  reports_behind (Ok o) c m d ws vs ts us p q r makes none also first rest =
      subst (λ (ts : List Turn). reported p ts r) (sym none) (onward p q r first (subst (λ (us : List Turn). reported q us r) also rest))
  reports_behind (Err s) c m d ws vs ts us p q r makes none also first rest = (
    length ws + rest.0,
    number_done wrote ws vs (device_in c) (device_in m) (device_in d) rest.0 s makes rest.1,
    subst (λ (ts : List Turn). reported p (before_stop ts (length ws + rest.0)) r) (sym none) (onward p q r first (subst (λ (us : List Turn). reported q (before_stop us rest.0) r) also rest.2)),
  )

  -- a command that was done, and those after it
  both_ran : (c m d : Card N) (k l : Command) (o : Outcome) (result : Result Outcome Stop) (p q r : R) → (state (device_in c)).on ≡ true → k.turns ≡ [] → l.turns ≡ []
      → RanAndReported state wrote reported c k (Ok o) m p q → RanAndReported state wrote reported m l result d q r → RanAndReported state wrote reported c (with_items k l) result d p r
  both_ran c m d k l o result p q r on none also first rest =
      let ws = first.commanded.made.writes in
      let vs = rest.commanded.made.writes in
      let one = by_made state wrote obeys (card_in state c) k.items (device_in c) (device_in m) (Ok tt) first.commanded.made in
      let now : card_done (card_in state c) k.items ≡ card_in state m = card_found (card_done (card_in state c) k.items) 0 (state (device_in m)).words one.done in
      let two = subst (λ (x : model.Card). MadeBy state wrote obeys x l.items (device_in m) (answer_of result) (device_in d) vs) (sym now) (by_made state wrote obeys (card_in state m) l.items (device_in m) (device_in d) (answer_of result) rest.commanded.made) in
      let made = made_on state wrote obeys (card_in state c) k.items l.items (device_in c) (device_in m) (device_in d) (answer_of result) ws vs on one two in
      record {
        commanded = grind arith;
        reports = reports_behind result c m d ws vs (k.turns ++ l.turns) l.turns p q r one.makes (ap (λ ts. ts ++ l.turns) none ∙ also) also (untold (Ok o) c m ws k.turns p q none first.reports) rest.reports;
      }

  -- a command that was stopped, whatever was to come after it
  first_ran : (b : Bool) (c d : Card N) (k l : Command) (s : Stop) (p r : R) → k.turns ≡ [] → l.turns ≡ [] → RanAndReported state wrote reported c k (Err s) d p r → RanAndReported state wrote reported c (command_with_rest b k l) (Err s) d p r
  first_ran false c d k l s p r none also h = h
  first_ran true c d k l s p r none also h =
      let ws = h.commanded.made.writes in
      let made = made_before state wrote obeys (card_in state c) k.items l.items (device_in c) (device_in d) s ws (by_made state wrote obeys (card_in state c) k.items (device_in c) (device_in d) (Err s) h.commanded.made) in
      let turns : k.turns ≡ k.turns ++ l.turns = none ∙ sym (ap (λ ts. ts ++ l.turns) none ∙ also) in
      record {
        commanded = record { made = record { writes = ws; makes = made.makes; number = made.number; stops = made.stops; done = made.done }; outcome = tt; session_state = tt; ready = tt };
        reports = (h.reports.0, h.reports.1, subst (λ (ts : List Turn). reported p (before_stop ts h.reports.0) r) turns h.reports.2);
      }

  -- commands that are still to be sent: their writes and recorded turns from here make up those of all commands from
  -- the start
  pub record Sends (c : Card N) (budget : ℕ) (all : List (List ℕ)) (q : R) (left : List (List ℕ)) (m : Card N) (p : R) : Type 0 where
    pub ready : IsReadyCard state m
    pub managed : AllByRecursion IsManaged left
    pub rest : (result : Result Outcome Stop) (d : Card N) (r : R) → RanAndReported state wrote reported m (send (card_in state m) (session_state_in state m) budget left) result d p r → RanAndReported state wrote reported c (send (card_in state c) (session_state_in state c) budget all) result d q r

  -- a command that was answered by 9000 alone
  pub sends_on : (c m d : Card N) (budget : ℕ) (all : List (List ℕ)) (q p r : R) (b : List ℕ) (left : List (List ℕ)) (o : Outcome) → Sends c budget all q (b ∷ left) m p → RanAndReported state wrote reported m (due state m b budget) (Ok o) d p r → is_done (outcome_value o) ≡ true → Sends c budget all q left d r
  sends_on c m d budget all q p r b left o h ran done =
      let k = command (card_in state m) (session_state_in state m) b budget in
      let one = by_made state wrote obeys (card_in state m) k.items (device_in m) (device_in d) (Ok tt) ran.commanded.made in
      let now : card_in state d ≡ card_done (card_in state m) k.items = sym (card_found (card_done (card_in state m) k.items) 0 (state (device_in d)).words one.done) in
      let behind = send (card_done (card_in state m) k.items) k.session_state budget left in
      let same : send (card_in state d) (session_state_in state d) budget left ≡ behind = ap (λ (x : model.Card). send x (session_state_in state d) budget left) now ∙ ap (λ (x : SessionState). send (card_done (card_in state m) k.items) x budget left) ran.commanded.session_state in
      let good : is_done k.outcome ≡ true = ap is_done (sym ran.commanded.outcome) ∙ done in
      let all-of : with_items k behind ≡ send (card_in state m) (session_state_in state m) budget (b ∷ left) = sym (send_first (card_in state m) (session_state_in state m) budget b left ∙ ap (λ (x : Bool). command_with_rest x k behind) good) in
      record {
        ready = ran.commanded.ready;
        managed = h.managed.1;
        rest = λ result e s rest.
            h.rest result e s
            (subst (λ (x : Command). RanAndReported state wrote reported m x result e p s) all-of
            (both_ran m d e k behind o result p r s (up_on state m h.ready.up) (managed_turns (card_in state m) (session_state_in state m) b budget h.managed.0) (send_turns (card_done (card_in state m) k.items) k.session_state budget left h.managed.1) ran
            (subst (λ (x : Command). RanAndReported state wrote reported d x result e r s) same rest)));
      }

  -- a command that was answered otherwise
  pub sends_end : (c m d : Card N) (budget : ℕ) (all : List (List ℕ)) (q p r : R) (b : List ℕ) (left : List (List ℕ)) (o : Outcome) → Sends c budget all q (b ∷ left) m p → RanAndReported state wrote reported m (due state m b budget) (Ok o) d p r → is_done (outcome_value o) ≡ false
      → RanAndReported state wrote reported c (send (card_in state c) (session_state_in state c) budget all) (Ok o) d q r
  sends_end c m d budget all q p r b left o h ran done = grind (arith, send_first)

  -- a command that was stopped
  pub sends_stop : (c m d : Card N) (budget : ℕ) (all : List (List ℕ)) (q p r : R) (b : List ℕ) (left : List (List ℕ)) (s : Stop) → Sends c budget all q (b ∷ left) m p → RanAndReported state wrote reported m (due state m b budget) (Err s) d p r
      → RanAndReported state wrote reported c (send (card_in state c) (session_state_in state c) budget all) (Err s) d q r
  sends_stop c m d budget all q p r b left s h ran = grind (arith, send_first, first_ran, managed_turns, send_turns)

  -- no command is left
  pub sends_none : (c m : Card N) (budget : ℕ) (all : List (List ℕ)) (q p : R) (o : Outcome) → Sends c budget all q [] m p → outcome_value o ≡ status 0x9000 → RanAndReported state wrote reported c (send (card_in state c) (session_state_in state c) budget all) (Ok o) m q p
  sends_none c m budget all q p o h is =
      h.rest (Ok o) m p
      (subst (λ (x : Command). RanAndReported state wrote reported m x (Ok o) m p p) (sym (send_none (card_in state m) (session_state_in state m) budget))
      (record {
        commanded =
            record {
              made = record { writes = []; makes = refl; number = refl; stops = λ k x low high size. absurd (omega (arith, low, high)); done = up_base state m h.ready.up };
              outcome = is;
              session_state = refl;
              ready = h.ready;
            };
        reports = silent p;
      }))

-- ---- commands without turns, whatever they are sent to

module _ {N R : Type 0} (state : N → DeviceState) (wrote : N → ℕ → List ℕ → Answer → N → Type 0) (one other : R → List Turn → R → Type 0) (moves : (q r : R) → one q [] r → other q [] r) where
  reports_elsewhere : (result : Result Outcome Stop) (c d : Card N) (ws : List (ℕ × List ℕ)) (ts : List Turn) (q r : R) → ts ≡ [] → ReportsTurns state wrote one c ws ts result d q r → ReportsTurns state wrote other c ws ts result d q r
  reports_elsewhere (Ok o) c d ws ts q r none h = subst (λ (us : List Turn). other q us r) (sym none) (moves q r (subst (λ (us : List Turn). one q us r) none h))
  reports_elsewhere (Err s) c d ws ts q r none h = (h.0, h.1, subst (λ (us : List Turn). other q (before_stop us h.0) r) (sym none) (moves q r (subst (λ (us : List Turn). one q (before_stop us h.0) r) none h.2)))

  pub elsewhere : (result : Result Outcome Stop) (c d : Card N) (k : Command) (q r : R) → k.turns ≡ [] → RanAndReported state wrote one c k result d q r → RanAndReported state wrote other c k result d q r
  elsewhere result c d k q r none h = record { commanded = h.commanded; reports = reports_elsewhere result c d h.commanded.made.writes k.turns q r none h.reports }

-- ---- the commands of a load

both_managed : (xs ys : List (List ℕ)) → AllByRecursion IsManaged xs → AllByRecursion IsManaged ys → AllByRecursion IsManaged (xs ++ ys)
both_managed [] ys h k = k
both_managed (x ∷ xs) ys h k = (h.0, both_managed xs ys h.1 k)

chosen_managed : (b : Bool) (xs : List (List ℕ)) → AllByRecursion IsManaged xs → AllByRecursion IsManaged (cond b [] xs)
chosen_managed true xs h = tt
chosen_managed false xs h = h

pieces_managed : (n ins at : ℕ) (b : List ℕ) → AllByRecursion IsManaged (piece_commands n ins at b)
pieces_managed zero ins at b = tt
pieces_managed (suc n) ins at b =
    chosen_managed (length b == 0) ((0xBE ∷ ins ∷ (bytes2 at ++ length (take 248 b) ∷ take 248 b)) ∷ piece_commands n ins (at + 248) (drop 248 b)) (refl, pieces_managed n ins (at + 248) (drop 248 b))

pub load_managed : (u : UnitParts) (fixed session : ℕ) → AllByRecursion IsManaged (load_commands u fixed session)
load_managed u fixed session = grind (arith, pieces_managed, both_managed)
