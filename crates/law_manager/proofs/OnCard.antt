-- What each command of the manager, and a SELECT, makes of a card.
use Rattle.std.proofs.Common.{◌≡◌, ℕ, ◌-◌, Bool, true, false, not, List, [], ◌∷◌, ◌++◌, length, map, Option, Some, None, refl, sym, ap, subst, ◌∙◌}
use Rattle.std.specs.Prelude.{◌==◌, ◌||◌, is_none}
use Rattle.model_card.specs.declared.card.Part.{Part}
use Rattle.model_card.specs.model_device.specs.Bytes.{lookup, zeros}
use Rattle.model_card.specs.model_machine.specs.Apdu.{ApduParts}
use Rattle.model_card.specs.model_device.specs.Card.{App, Card}
use Rattle.model_card.specs.Items.{Created, Item, Plain, Site, BankItem, Piece, Blank, Note, Enter}
use Rattle.model_card.specs.Manager.{SessionState, Managed, answer_unless, first_status, is_empty, select_done, got_of, with_got, word_parts, fresh, manage, room_on}
use Rattle.model_card.specs.Commands.{item_of, atomic_of, manager_command}
use Rattle.law_manager.specs.Orders.{Order, Loads, Creates, order_of, managed}
use Rattle.law_manager.specs.Answers.{IsAnswer}
use Rattle.law_manager.specs.Answers as of
use Rattle.law_manager.specs.OnCard.{IsCommand, IsSelect, plains, done}
use Rattle.law_manager.specs.OnCard as on
use Rattle.law_manager.specs.Laws.{CommandsLaw, SelectsLaw}
use Rattle.law_manager.proofs.Orders.{order_law, answers_law}

-- ---- commands on a card

pieces_plain : (w : Item) (s : Site) (p : Part) (cs : List (ℕ × List ℕ)) → map (item_of w) (map (λ c. Piece s p c.0 c.1) cs) ≡ plains (length cs) []
pieces_plain w s p [] = refl
pieces_plain w s p (c ∷ cs) = ap (λ (is : List Item). Plain ∷ is) (pieces_plain w s p cs)

blanks_plain : (w : Item) (s : Site) (bs : List BankItem) (cs : List (ℕ × List ℕ)) → map (item_of w) (map (λ c. Blank s c.0 (length c.1)) cs ++ bs) ≡ plains (length cs) (map (item_of w) bs)
blanks_plain w s bs [] = refl
blanks_plain w s bs (c ∷ cs) = ap (λ (is : List Item). Plain ∷ is) (blanks_plain w s bs cs)

module _ (c : Card) (session_state : SessionState) (a : ApduParts) where
  on_card : (o : Order) (m : Managed) → IsAnswer (room_on c) c.apps session_state a o m → IsCommand c session_state a o (manager_command c session_state m)
  on_card _ _ (of.refused o sw h) = on.refused o sw h
  on_card _ _ (of.quiet o body load h) = on.quiet o body load h
  on_card _ _ (of.loaded p l h) =
      let pieces = pieces_plain Plain l.site p (word_parts (length (got_of p l.got)) a.body) ∙ ap (λ (k : ℕ). plains (length (word_parts k a.body)) []) (sym h.at) in
      subst (λ (is : List Item). IsCommand c session_state a (Loads p) (done [] (record session_state { load = Some (record l { got = with_got p a.body l.got }) }) is)) (sym pieces) (on.loaded p l h)
  on_card _ _ (of.created l n h) =
      let whole = atomic_of c (Some (Created n (fresh l))) in
      let items = blanks_plain whole l.site (Note l.site n 0 ∷ Note l.site n 1 ∷ Note l.site n 2 ∷ Note l.site n 3 ∷ Enter l.site n ∷ []) (word_parts l.site.sizes.init (zeros (l.site.sizes.fixed - l.site.sizes.init))) in
      subst (λ (is : List Item). IsCommand c session_state a Creates (done [] (record session_state { load = None }) is)) (sym items) (on.created l n h)
  on_card _ _ (of.deleted h) = on.deleted h

-- each command makes plain items alone, except for the atomic write of a creation or a deletion
pub commands_law : CommandsLaw
commands_law o c session_state a = on_card c session_state a o (managed o (room_on c) c.apps session_state a) (answers_law o (room_on c) c.apps session_state a)

-- a command that the manager's table names
pub command_made : (c : Card) (session_state : SessionState) (a : ApduParts) → IsCommand c session_state a (order_of a.ins) (manager_command c session_state (manage (room_on c) c.apps session_state a))
command_made c session_state a =
    subst (λ (m : Managed). IsCommand c session_state a (order_of a.ins) (manager_command c session_state m)) (sym (order_law (room_on c) c.apps session_state a).is) (commands_law (order_of a.ins) c session_state a)

-- ---- SELECT

select_found : (c : Card) (session_state : SessionState) (a : ApduParts) (o : Option App) → lookup c.apps a.body ≡ o → (x y : Bool)
    → IsSelect c session_state a (manager_command c session_state (answer_unless (first_status ((0x6A86, x) ∷ (0x6700, y) ∷ (0x6A82, is_none o) ∷ [])) (select_done session_state a o)))
select_found c session_state a o is true y = on.unselected 0x6A86 refl
select_found c session_state a o is false true = on.unselected 0x6700 refl
select_found c session_state a None is false false = on.unselected 0x6A82 refl
select_found c session_state a (Some app) is false false = on.selected app is

-- a SELECT is refused, or selects an application on the card with zeros as its session bytes
pub selects_law : SelectsLaw
selects_law c session_state a = select_found c session_state a (lookup c.apps a.body) refl (not (a.p2 == 0 || a.p2 == 0x0C)) (is_empty a.body)
