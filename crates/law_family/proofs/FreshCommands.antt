-- What a command creates is what the commands of its load have sent.
use Rattle.std.specs.Prelude.{◌≡◌, ℕ, zero, suc, Bool, true, false, List, [], ◌∷◌, ◌++◌, length, Option, Some, None, Result}
use Rattle.std.proofs.Common.{arith, refl, ap, sym, subst, ◌∙◌}
use Rattle.std.proofs.lemmas.Bool.{eqb-true, and_parts}
use Rattle.std.proofs.lemmas.List.{append_assoc, append-nil}
use Rattle.model_play.specs.model_card.specs.declared.card.Part.{Part}
use Rattle.model_play.specs.model_card.specs.declared.unit.AidFault.{AidFault}
use Rattle.model_play.specs.model_machine.specs.Apdu.{ApduParts}
use Rattle.model_play.specs.model_device.specs.Card.{App, Card, app_at_place}
use Rattle.model_play.specs.model_machine.specs.Chain.{Write, run}
use Rattle.model_play.specs.model_card.specs.Items.{Created, Deleted, Item, Plain, Atomic, Site, BankItem, Piece, Blank, Note, Commit, Enter, Remove, write_items}
use Rattle.model_play.specs.model_card.specs.Items as items
use Rattle.model_play.specs.model_card.specs.Manager.{Selected, Open, SessionState, Route, WrongLength, WrongClass, ToSelect, ToManager, ToApplication, route, p1p2, with_got, select, word_parts, is_complete, fresh, manage, room_on}
use Rattle.model_play.specs.model_card.specs.Commands.{Command, atomic_of, manager_command, application_command, by_route, command, refusal}
use Rattle.law_manager.specs.Orders.{Order, order_of, HasIns, ins_of_part}
use Rattle.law_manager.specs.Answers.{opened_load}
use Rattle.law_manager.specs.Answers as quiet
use Rattle.law_manager.specs.OnCard.{IsCommand, IsSelect, plains, done, blank_words}
use Rattle.law_manager.specs.OnCard as made
use Rattle.law_manager.proofs.Orders.{order_law}
use Rattle.law_manager.proofs.OnCard.{command_made, selects_law}
use Rattle.model_play.specs.Play.{is_done, send, command_with_rest}
use Rattle.model_play.specs.Laws.{Sent, sent_app, with_sent, sections_after_parts, sections_after_command, named_app, made_of, creation_of_command, sections_after_commands, creations_of_commands, commands_with, accepted_commands, creation_of_item, creations_among, without_places}

-- ---- lists

pub created_append : (is js : List Item) → creations_among (is ++ js) ≡ creations_among is ++ creations_among js
created_append [] js = refl
created_append (i ∷ is) js = ap (λ (z : List (List ℕ × App)). creation_of_item i ++ z) (created_append is js) ∙ sym (append_assoc (creation_of_item i) (creations_among is) (creations_among js))

pub without_places_append : (es fs : List (List ℕ × App)) → without_places (es ++ fs) ≡ without_places es ++ without_places fs
without_places_append [] fs = refl
without_places_append (e ∷ es) fs = ap (λ (z : List (List ℕ × App)). (e.0, app_at_place 0 e.1) ∷ z) (without_places_append es fs)

writes_created : (ws : List Write) → creations_among (write_items ws) ≡ []
writes_created [] = refl
writes_created (w ∷ ws) = writes_created ws

plains_created : (n : ℕ) (is : List Item) → creations_among (plains n is) ≡ creations_among is
plains_created zero is = refl
plains_created (suc n) is = plains_created n is

-- ---- what a command has made and sent

-- what was sent of an open load
abbrev pub load_sent : Option Open → Option Sent
load_sent None = None
load_sent (Some o) = Some (record { sizes = o.site.sizes; got = o.got })

-- a done command's, else none, and else what was there before
abbrev pub made_at : Bool → List (List ℕ × App) → List (List ℕ × App)
made_at true es = es
made_at false es = []

abbrev pub sent_at : Bool → Option Sent → Option Sent → Option Sent
sent_at true old new = new
sent_at false old new = old

pub record Fresh (session_state : SessionState) (r : Command) (es : List (List ℕ × App)) (s : Option Sent) : Type 0 where
  pub made : without_places (creations_among r.items) ≡ made_at (is_done r.outcome) es
  pub sent : load_sent r.session_state.load ≡ sent_at (is_done r.outcome) (load_sent session_state.load) s

made_at_none : (b : Bool) (es : List (List ℕ × App)) → es ≡ [] → [] ≡ made_at b es
made_at_none true es h = sym h
made_at_none false es h = refl

sent_at_same : (b : Bool) (s : Option Sent) → s ≡ sent_at b s s
sent_at_same true s = refl
sent_at_same false s = refl

-- ---- the manager

-- of a complete load: the data, followed by zeros
complete_app : (o : Open) → is_complete o ≡ true → app_at_place 0 (fresh o) ≡ sent_app (record { sizes = o.site.sizes; got = o.got })
complete_app o h = grind (arith, eqb-true, and_parts)

-- what the definitions of the law say of a LOAD for a section
part_sent : (p : Part) (s : Option Sent) (a : ApduParts) → let x = record a { ins = ins_of_part p } in (creation_of_command s (ToManager x) ≡ []) × (sections_after_parts s x ≡ with_sent p a.body s)
part_sent p s a = grind arith

module _ (c : Card) (session_state : SessionState) (a : ApduParts) where
  -- with what the definitions of the law say of this INS
  abbrev IsFresh : ℕ → Command → Type 0
  IsFresh ins r = let s = load_sent session_state.load in let x = record a { ins = ins } in Fresh session_state r (creation_of_command s (ToManager x)) (sections_after_parts s x)

  made_fresh : (o : Order) (r : Command) → HasIns o a.ins → IsCommand c session_state a o r → IsFresh a.ins r
  made_fresh _ _ ins (made.refused o sw h) =
      record { made = ap (λ (b : Bool). made_at b (creation_of_command (load_sent session_state.load) (ToManager a))) (sym h); sent = ap (λ (b : Bool). sent_at b (load_sent session_state.load) (sections_after_parts (load_sent session_state.load) a)) (sym h) }
  made_fresh _ _ ins (made.quiet _ _ _ (quiet.answers o first rest)) = record { made = refl; sent = refl }
  made_fresh _ _ ins (made.quiet _ _ _ (quiet.opens h)) = subst (λ (i : ℕ). IsFresh i (done [] (record session_state { load = Some (opened_load (room_on c) a) }) [])) (sym ins) (record { made = refl; sent = refl })
  made_fresh _ _ ins (made.loaded p l h) =
      let says = part_sent p (load_sent session_state.load) a in
      let r = done [] (record session_state { load = Some (record l { got = with_got p a.body l.got }) }) (plains (length (word_parts (p1p2 a) a.body)) []) in
      subst (λ (i : ℕ). IsFresh i r) (sym ins) (record {
        made = ap without_places (plains_created (length (word_parts (p1p2 a) a.body)) []) ∙ sym says.0;
        sent = ap (λ (o : Option Open). with_sent p a.body (load_sent o)) (sym h.is) ∙ sym says.1;
      })
  made_fresh _ _ ins (made.created l n h) =
      let items = plains 4 (atomic_of c (Some (Created n (fresh l))) ∷ []) in
      subst (λ (i : ℕ). IsFresh i (done [] (record session_state { load = None }) (plains (blank_words l.site) items))) (sym ins) (record {
        made = ap without_places (plains_created (blank_words l.site) items)
            ∙ (ap (λ (z : App). (n, z) ∷ []) (complete_app l h.complete) ∙ (ap (λ (k : Result (List ℕ) AidFault). named_app k (record { sizes = l.site.sizes; got = l.got })) (sym h.name) ∙ ap (λ (o : Option Open). made_of (load_sent o)) (sym h.is)));
        sent = refl;
      })
  made_fresh _ _ ins (made.deleted h) = subst (λ (i : ℕ). IsFresh i (done [] (record session_state { load = None }) (atomic_of c (Some (Deleted a.body)) ∷ []))) (sym ins) (record { made = refl; sent = refl })

  managed_fresh : IsFresh a.ins (manager_command c session_state (manage (room_on c) c.apps session_state a))
  managed_fresh =
      made_fresh (order_of a.ins) (manager_command c session_state (manage (room_on c) c.apps session_state a)) (order_law (room_on c) c.apps session_state a).ins (command_made c session_state a)

-- ---- all routes

-- a command without creations that leaves the load
still_fresh : (session_state : SessionState) (r : Command) → creations_among r.items ≡ [] → r.session_state.load ≡ session_state.load → Fresh session_state r [] (load_sent session_state.load)
still_fresh session_state r h e =
    record {
      made = ap without_places h ∙ made_at_none (is_done r.outcome) [] refl;
      sent = ap load_sent e ∙ sent_at_same (is_done r.outcome) (load_sent session_state.load);
    }

select_still : (c : Card) (session_state : SessionState) (a : ApduParts) (r : Command) → IsSelect c session_state a r → (creations_among r.items ≡ []) × (r.session_state.load ≡ session_state.load)
select_still c session_state a _ (made.unselected sw h) = (refl, refl)
select_still c session_state a _ (made.selected app h) = (refl, refl)

passed_still : (c : Card) (session_state : SessionState) (o : Option Selected) (a : ApduParts) (budget : ℕ) → let r = application_command c session_state o a budget in (creations_among r.items ≡ []) × (r.session_state.load ≡ session_state.load)
passed_still c session_state None a budget = (refl, refl)
passed_still c session_state (Some s) a budget = (writes_created (run c.apps s.name s.session a budget).writes, refl)

routed_fresh : (c : Card) (session_state : SessionState) (budget : ℕ) (r : Route) → Fresh session_state (by_route c session_state budget r) (creation_of_command (load_sent session_state.load) r) (sections_after_command (load_sent session_state.load) r)
routed_fresh c session_state budget WrongLength = still_fresh session_state (refusal session_state 0x6700) refl refl
routed_fresh c session_state budget WrongClass = still_fresh session_state (refusal session_state 0x6E00) refl refl
routed_fresh c session_state budget (ToSelect a) =
    let h = select_still c session_state a (manager_command c session_state (select c.apps session_state a)) (selects_law c session_state a) in
    still_fresh session_state (manager_command c session_state (select c.apps session_state a)) h.0 h.1
routed_fresh c session_state budget (ToManager a) = managed_fresh c session_state a
routed_fresh c session_state budget (ToApplication a) =
    let h = passed_still c session_state session_state.selected a budget in
    still_fresh session_state (application_command c session_state session_state.selected a budget) h.0 h.1

pub command_fresh : (c : Card) (session_state : SessionState) (b : List ℕ) (budget : ℕ) → Fresh session_state (command c session_state b budget) (creation_of_command (load_sent session_state.load) (route b)) (sections_after_command (load_sent session_state.load) (route b))
unfolding command
command_fresh c session_state b budget = routed_fresh c session_state budget (route b)

-- ---- the commands of a line

-- what some commands have made and sent, in order
pub record AllFresh (session_state : SessionState) (r : Command) (bs : List (List ℕ)) : Type 0 where
  pub made : without_places (creations_among r.items) ≡ creations_of_commands (load_sent session_state.load) bs
  pub sent : load_sent r.session_state.load ≡ sections_after_commands (load_sent session_state.load) bs

then_fresh : (session_state : SessionState) (x : Bool) (b : List ℕ) (r rest : Command) (bs : List (List ℕ)) → is_done r.outcome ≡ x → Fresh session_state r (creation_of_command (load_sent session_state.load) (route b)) (sections_after_command (load_sent session_state.load) (route b)) → AllFresh r.session_state rest bs
    → AllFresh session_state (command_with_rest x r rest) (commands_with x b bs)
then_fresh session_state true b r rest bs e h g =
    let s = load_sent session_state.load in
    let made : without_places (creations_among r.items) ≡ creation_of_command s (route b) = h.made ∙ ap (λ (x : Bool). made_at x (creation_of_command s (route b))) e in
    let sent : load_sent r.session_state.load ≡ sections_after_command s (route b) = h.sent ∙ ap (λ (x : Bool). sent_at x s (sections_after_command s (route b))) e in
    record {
      made = grind (arith, made, created_append, without_places_append, sent);
      sent = g.sent ∙ ap (λ (z : Option Sent). sections_after_commands z bs) sent;
    }
then_fresh session_state false b r rest bs e h g =
    let s = load_sent session_state.load in
    record {
      made = h.made ∙ ap (λ (x : Bool). made_at x (creation_of_command s (route b))) e;
      sent = h.sent ∙ ap (λ (x : Bool). sent_at x s (sections_after_command s (route b))) e;
    }

pub send_fresh : (c : Card) (session_state : SessionState) (budget : ℕ) (bs : List (List ℕ)) → AllFresh session_state (send c session_state budget bs) (accepted_commands c session_state budget bs)
unfolding send accepted_commands
send_fresh c session_state budget [] = record { made = refl; sent = refl }
send_fresh c session_state budget (b ∷ bs) =
    let r = command c session_state b budget in
    let d = items.card_done c r.items in
    then_fresh session_state (is_done r.outcome) b r (send d r.session_state budget bs) (accepted_commands d r.session_state budget bs) refl (command_fresh c session_state b budget) (send_fresh d r.session_state budget bs)

one_fresh : (session_state : SessionState) (x : Bool) (b : List ℕ) (r : Command) → is_done r.outcome ≡ x → Fresh session_state r (creation_of_command (load_sent session_state.load) (route b)) (sections_after_command (load_sent session_state.load) (route b)) → AllFresh session_state r (commands_with x b [])
one_fresh session_state true b r e h =
    let s = load_sent session_state.load in
    record {
      made = h.made ∙ (ap (λ (x : Bool). made_at x (creation_of_command s (route b))) e ∙ sym (append-nil (creation_of_command s (route b))));
      sent = h.sent ∙ ap (λ (x : Bool). sent_at x s (sections_after_command s (route b))) e;
    }
one_fresh session_state false b r e h =
    let s = load_sent session_state.load in
    record { made = h.made ∙ ap (λ (x : Bool). made_at x (creation_of_command s (route b))) e; sent = h.sent ∙ ap (λ (x : Bool). sent_at x s (sections_after_command s (route b))) e }

-- a line of one command
pub command_all_fresh : (c : Card) (session_state : SessionState) (b : List ℕ) (budget : ℕ) → AllFresh session_state (command c session_state b budget) (accepted_commands c session_state budget (b ∷ []))
unfolding accepted_commands
command_all_fresh c session_state b budget = one_fresh session_state (is_done (command c session_state b budget).outcome) b (command c session_state b budget) refl (command_fresh c session_state b budget)
