-- The card in the words of a device after the items of a manager's command.
use Rattle.std.proofs.Common.{arith, ◌≡◌, ◌⊎◌, ℕ, true, List, [], ◌∷◌, ◌++◌, length, map, Option, Some, None, Ok, Err, refl, sym, ◌∙◌, ap, subst, inl, inr}
use Rattle.std.specs.Prelude.{option_map}
use Rattle.std.specs.List.{AllByRecursion}
use Rattle.std.proofs.lemmas.List.{map-append}
use Rattle.mc_bank.specs.model_card.specs.declared.card.Part.{Part}
use Rattle.mc_bank.specs.model_card.specs.declared.card.Sizes.{Sizes}
use Rattle.mc_words.specs.model_device.specs.declared.device.Stop.{Stop}
use Rattle.mc_words.specs.model_device.specs.Orders.{Answer, InOrder}
use Rattle.mc_apdu.specs.model_machine.specs.Apdu.{ApduParts}
use Rattle.mc_words.specs.model_device.specs.Bytes.{lookup}
use Rattle.mc_words.specs.model_device.specs.Image.{Two}
use Rattle.mc_words.specs.model_device.specs.Device.{DeviceState, Wrote}
use Rattle.mc_words.specs.model_device.specs.Card.{App, Card, means}
use Rattle.mc_bank.specs.model_card.specs.Items.{Created, Deleted, Item, Plain, card_done, Site, BankItem, Piece, Enter, Remove}
use Rattle.mc_bank.specs.model_card.specs.Manager.{SessionState, Open, got_of, select_body, Managed, Declines, Accepts, Route, WrongLength, WrongClass, ToSelect, ToManager, ToApplication, is_complete, first_status, answer_unless, select_refusals, select_done, select, create_done, create_items, fresh, manage, word_parts, room_on}
use Rattle.mc_words.specs.model_device.specs.PowerUp.{OnCard}
use Rattle.mc_bank.specs.model_card.specs.Commands.{item_of, atomic_of, manager_command, application_command, by_route}
use Rattle.mc_manager.specs.law_manager.specs.Orders.{Order, order_of}
use Rattle.mc_manager.specs.law_manager.specs.Answers.{IsAnswer}
use Rattle.mc_manager.specs.law_manager.specs.Answers as answer
use Rattle.mc_manager.specs.law_manager.proofs.Orders.{answer_made}
use Rattle.mc_bank.specs.Bank.{app_of_site}
use Rattle.mc_manager.specs.ManagerState.{BankView, Loaded, ManagerState, open_of, session_state_of, ManagerFits, FitsLoad}
use Rattle.mc_manager.specs.declared.selection.Selection.{Selection}
use Rattle.mc_manager.specs.Load.{is_full}
use Rattle.mc_manager.specs.CommandDue.{Passes, due_select, due_manager, due_application, due_on, items_of}
use Rattle.mc_manager.proofs.LoadLemmas.{complete_full, fresh_entered}
use Rattle.mc_store.specs.declared.store.Store.{Store}
use Rattle.mc_store.specs.Store.{part_in, is_going, store_state, store_named, store_room, store_site_bytes}
use Rattle.mc_store.specs.Power.{HoldsBase, device_of, count_of}
use Rattle.mc_store.specs.GoingLaws.{Going, going_is}
use Rattle.mc_store.specs.StoreItems.{store_did}
use Rattle.mc_store.proofs.FoldLemmas.{IsQuiet, CardKept, all_kept, all_stand, stands_now, before_enter, creation_is, creation_quiet, quiet_plain as quiet-plain, same_entered as entered-same}
use Rattle.mc_store.proofs.ItemLemmas.{IsPlain}
use Rattle.mc_card.specs.ItemWrites.{ItemsMade}
use Rattle.mc_card.proofs.StaticLemmas.{going_apps}
use Rattle.mc_card.proofs.MadeLemmas.{IsAs, card_found, closed_base, made_stopped, made_append, made_fold, made_one}
use Rattle.mc_words.specs.model_device.proofs.LayoutLemmas.{closed_means}

-- ---- lists of steps that are done in order

module _ {D I : Type 0} (one : D → I → Answer → D → Type 0) where
  -- a list that stopped in its first part, or reached its second part
  pub in_order_parts : (xs ys : List I) (d e : D) (a : Answer) → InOrder one d (xs ++ ys) a e
      → ((m : D) × InOrder one d xs (Ok tt) m × InOrder one m ys a e) ⊎ ((s : Stop) × InOrder one d xs (Err s) e × (a ≡ Err s))
  in_order_parts [] ys d e a h = inl (d, refl, h)
  in_order_parts (x ∷ xs) ys d e a h =
      elim h [
        | inl done ↦ elim (in_order_parts xs ys done.0 e a done.2) [
          | inl all ↦ inl (all.0, inl (done.0, done.1, all.1), all.2)
          | inr stop ↦ inr (stop.0, inl (done.0, done.1, stop.1), stop.2)
        ]
        | inr stop ↦ inr (stop.0, inr (stop.0, stop.1, refl), stop.2)
      ]

  last_done : (x : I) (d m e : D) (a : Answer) → one d x (Ok tt) m → InOrder one m [] a e → one d x a e
  last_done x d m e (Ok u) did h = subst (λ (t : D). one d x (Ok tt) t) (sym h) did
  last_done x d m e (Err s) did h = absurd h

  -- a list of one step
  pub in_order_one : (x : I) (d e : D) (a : Answer) → InOrder one d (x ∷ []) a e → one d x a e
  in_order_one x d e a h = grind (arith, last_done)

-- ---- items that leave the card

plain_as : (m : List (List ℕ)) (i : BankItem) (whole : Item) → IsPlain i → IsAs m i (item_of whole i)
plain_as m i whole h = grind arith

all_plain : (t : Site) (is : List BankItem) → AllByRecursion (IsQuiet t) is → AllByRecursion IsPlain is
all_plain t [] h = tt
all_plain t (i ∷ is) h = (quiet-plain t i h.0, all_plain t is h.1)

pieces_plain : (t : Site) (p : Part) (cs : List (ℕ × List ℕ)) → AllByRecursion IsPlain (map (λ c. Piece t p c.0 c.1) cs)
pieces_plain t p [] = tt
pieces_plain t p (c ∷ cs) = (tt, pieces_plain t p cs)

pub going_base : (d : DeviceState) (c : ℕ) → is_going d c ≡ true → HoldsBase (OnCard (means d.words)) 0 Two d.words
going_base d c h = let g : Going d c = going_is d c h in closed_base d.words (means d.words) g.closed g.laid (sym (closed_means d.words g.closed))

-- the items of a command that the manager answers
abbrev pub items_in : Managed → List BankItem
items_in (Declines sw) = []
items_in (Accepts d) = d.items

module _ {N : Type 0} (state : N → DeviceState) (wrote : N → ℕ → List ℕ → Answer → N → Type 0)
    (obeys : (d : N) (at : ℕ) (w : List ℕ) (a : Answer) (e : N) → (state d).on ≡ true → wrote d at w a e → Wrote (state d) at w a (state e)) where
  -- the card of a store
  abbrev card_of_store : Store N → Card
  card_of_store s = means (state (device_of s)).words

  -- the bank that a manager sees
  abbrev pub view : Store N → BankView
  view s =
      let d = state (device_of s) in
      record { state = store_state d (count_of s); named = store_named d; room = store_room d; site_bytes = store_site_bytes d }

  -- items that leave the card unchanged
  pub plain_made : (whole : Item) (is : List BankItem) (s e : Store N) (a : Answer) → is_going (state s.device) s.count ≡ true → AllByRecursion IsPlain is → InOrder (store_did state wrote) s is a e
      → ItemsMade state wrote (card_of_store s) (map (item_of whole) is) s.device a e.device
  plain_made whole is s e a going plain h =
      made_fold state wrote obeys (λ (t : Store N). t.device) (store_did state wrote) (item_of whole) IsPlain (λ s x a e did. (going_is (state s.device) s.count did.going).on)
      (λ s x a e plain did. made_one state wrote obeys s.device e.device s.count e.count x (item_of whole x) a (plain_as (state s.device).words x whole plain) did)
      is s e a (going_base (state s.device) s.count going) plain h

  -- the creation of an application from the bytes at a site, as an item of the definition
  enter_as : (s m : Store N) (t : Site) (n : List ℕ) (o : Open) → means (state m.device).words ≡ means (state s.device).words → app_of_site t (part_in (state m.device).words t) ≡ fresh o
      → IsAs (state m.device).words (Enter t n) (atomic_of (card_of_store s) (Some (Created n (fresh o))))
  enter_as s m t n o card app = grind arith

  pub create_made : (s e : Store N) (a : Answer) (t : Site) (n : List ℕ) (o : Open) → is_going (state s.device) s.count ≡ true → app_of_site t (store_site_bytes (state s.device) t) ≡ fresh o → InOrder (store_did state wrote) s (create_items t n) a e
      → ItemsMade state wrote (card_of_store s) (map (item_of (atomic_of (card_of_store s) (Some (Created n (fresh o))))) (create_items t n)) s.device a e.device
  create_made s e a t n o going app h =
      let c = card_of_store s in
      let whole = atomic_of c (Some (Created n (fresh o))) in
      let is = before_enter t n in
      let quiet = creation_quiet t n in
      let plain = all_plain t is quiet in
      let parts : InOrder (store_did state wrote) s (is ++ Enter t n ∷ []) a e = subst (λ (l : List BankItem). InOrder (store_did state wrote) s l a e) (creation_is t n) h in
      subst (λ (l : List Item). ItemsMade state wrote c l s.device a e.device) (sym (ap (map (item_of whole)) (creation_is t n) ∙ map-append (item_of whole) is (Enter t n ∷ [])))
      (elim (in_order_parts (store_did state wrote) is (Enter t n ∷ []) s e a parts) [
        | inl all ↦
            let m = all.0 in
            let first : ItemsMade state wrote c (map (item_of whole) is) s.device (Ok tt) m.device = plain_made whole is s m (Ok tt) going plain all.1 in
            let kept : CardKept state wrote obeys s m = all_kept state wrote obeys is s m (Ok tt) plain all.1 in
            let did : store_did state wrote m (Enter t n) a e = in_order_one (store_did state wrote) (Enter t n) m e a all.2 in
            let site_bytes : (p : Part) → part_in (state m.device).words t p ≡ store_site_bytes (state s.device) t p =
            λ p. sym (stands_now state wrote obeys m t p did.going) ∙ all_stand state wrote obeys is s m t p quiet all.1 in
            let same : app_of_site t (part_in (state m.device).words t) ≡ fresh o = entered-same t (part_in (state m.device).words t) (store_site_bytes (state s.device) t) site_bytes ∙ app in
            let now : card_done c (map (item_of whole) is) ≡ means (state m.device).words = card_found (card_done c (map (item_of whole) is)) 0 (state m.device).words first.done in
            let last : ItemsMade state wrote (means (state m.device).words) (whole ∷ []) m.device a e.device =
            made_one state wrote obeys m.device e.device m.count e.count (Enter t n) whole a (enter_as s m t n o kept.card same) did in
            made_append state wrote obeys c (map (item_of whole) is) (whole ∷ []) s.device m.device e.device a (going_is (state s.device) s.count going).on first
            (subst (λ (k : Card). ItemsMade state wrote k (whole ∷ []) m.device a e.device) (sym now) last)
        | inr stop ↦ subst (λ (b : Answer). ItemsMade state wrote c (map (item_of whole) is ++ whole ∷ []) s.device b e.device) (sym stop.2)
            (made_stopped state wrote obeys c (map (item_of whole) is) (whole ∷ []) s.device e.device stop.0 (plain_made whole is s e (Err stop.0) going plain stop.1))
      ])

  pub delete_made : (s e : Store N) (a : Answer) (n : List ℕ) → InOrder (store_did state wrote) s (Remove n ∷ []) a e
      → ItemsMade state wrote (card_of_store s) (atomic_of (card_of_store s) (Some (Deleted n)) ∷ []) s.device a e.device
  delete_made s e a n h =
      made_one state wrote obeys s.device e.device s.count e.count (Remove n) (atomic_of (card_of_store s) (Some (Deleted n))) a
      (record { change = Deleted n; is = refl; apps = refl }) (in_order_one (store_did state wrote) (Remove n) s e a h)

  -- ---- a command by its answer

  -- the bank's items of an answer make its items of the definition
  abbrev MakesAll : Store N → SessionState → Managed → Type 0
  MakesAll s session_state x = (e : Store N) (a : Answer) → InOrder (store_did state wrote) s (items_in x) a e → ItemsMade state wrote (card_of_store s) (manager_command (card_of_store s) session_state x).items s.device a e.device

  module _ (s : Store N) (session_state : SessionState) (going : is_going (state s.device) s.count ≡ true) where
    no_items : (sw : ℕ) → MakesAll s session_state (Declines sw)
    no_items sw e a h = plain_made Plain [] s e a going tt h

    quiet_items : (body : List ℕ) (next : SessionState) → MakesAll s session_state (Accepts (record { body = body; session_state = next; items = []; change = None }))
    quiet_items body next e a h = plain_made Plain [] s e a going tt h

    select_made : (apps : List (List ℕ × App)) (a : ApduParts) → MakesAll s session_state (select apps session_state a)
    select_made apps a = by_refusal (first_status (select_refusals apps a)) (lookup apps a.body)
      where
        by_refusal : (o : Option ℕ) (x : Option App) → MakesAll s session_state (answer_unless o (select_done session_state a x))
        by_refusal (Some sw) x = no_items sw
        by_refusal None None = quiet_items [] session_state
        by_refusal None (Some app) = quiet_items (select_body a app) (select_done session_state a (Some app)).session_state

  module _ (s : Store N) (session : List ℕ) (m : ManagerState) (going : is_going (state s.device) s.count ≡ true) (fits : ManagerFits (view s) m) where
    -- the session state of a manager over a store
    abbrev session_state_on : SessionState
    session_state_on = session_state_of (view s).site_bytes session m

    create_makes : (l : Option Loaded) (o : Open) (n : List ℕ) → m.load ≡ l → option_map (open_of (view s).site_bytes) l ≡ Some o → is_complete o ≡ true → MakesAll s session_state_on (Accepts (create_done session_state_on (Some o) (Ok n)))
    create_makes None o n is here complete = absurd (cc here)
    create_makes (Some l) o n is here complete =
        let same : open_of (view s).site_bytes l ≡ o = cc here in
        let good : FitsLoad (view s) l = fits.load l is in
        let full : is_full l ≡ true = sym (complete_full (view s) l good) ∙ (ap is_complete same ∙ complete) in
        subst (λ (x : Open). MakesAll s session_state_on (Accepts (create_done session_state_on (Some x) (Ok n)))) same
        (λ e b h. create_made s e b l.site n (open_of (view s).site_bytes l) going (sym (fresh_entered (view s) l good full)) h)

    made_by : (room : Sizes → Option ℕ) (apps : List (List ℕ × App)) (a : ApduParts) (o : Order) (x : Managed) → IsAnswer room apps session_state_on a o x → MakesAll s session_state_on x
    made_by room apps a _ _ (answer.refused o sw h) = no_items s session_state_on going sw
    made_by room apps a _ _ (answer.quiet o body load h) = quiet_items s session_state_on going body (record session_state_on { load = load })
    made_by room apps a _ _ (answer.loaded p l h) =
        let cs = word_parts (length (got_of p l.got)) a.body in
        λ e b k. plain_made Plain (map (λ c. Piece l.site p c.0 c.1) cs) s e b going (pieces_plain l.site p cs) k
    made_by room apps a _ _ (answer.created l n h) = create_makes m.load l n refl h.is h.complete
    made_by room apps a _ _ (answer.deleted h) = λ e b k. delete_made s e b a.body k

    manage_made : (room : Sizes → Option ℕ) (apps : List (List ℕ × App)) (a : ApduParts) → MakesAll s session_state_on (manage room apps session_state_on a)
    manage_made room apps a = made_by room apps a (order_of a.ins) (manage room apps session_state_on a) (answer_made room apps session_state_on a)

    -- ---- a command by its route

    select_items : (x : Managed) → items_of (due_select x) ≡ items_in x
    select_items (Declines sw) = refl
    select_items (Accepts d) = refl

    manager_items : (x : Managed) → items_of (due_manager x) ≡ items_in x
    manager_items (Declines sw) = refl
    manager_items (Accepts d) = refl

    -- the items of a command that is not passed to the application
    pub due_made : (budget : ℕ) (r : Route) (e : Store N) (b : Answer) → (due_on (view s) session_state_on r ≡ Passes → ⊥) → InOrder (store_did state wrote) s (items_of (due_on (view s) session_state_on r)) b e
        → ItemsMade state wrote (card_of_store s) (by_route (card_of_store s) session_state_on budget r).items s.device b e.device
    due_made budget WrongLength e b other h = no_items s session_state_on going 0x6700 e b h
    due_made budget WrongClass e b other h = no_items s session_state_on going 0x6E00 e b h
    due_made budget (ToSelect a) e b other h =
        select_made s session_state_on going (card_of_store s).apps a e b
        (subst (λ (is : List BankItem). InOrder (store_did state wrote) s is b e) (select_items (select (card_of_store s).apps session_state_on a))
        (subst (λ (apps : List (List ℕ × App)). InOrder (store_did state wrote) s (items_of (due_select (select apps session_state_on a))) b e) (going_apps (state s.device) s.count going) h))
    due_made budget (ToManager a) e b other h =
        manage_made (room_on (card_of_store s)) (card_of_store s).apps a e b
        (subst (λ (is : List BankItem). InOrder (store_did state wrote) s is b e) (manager_items (manage (room_on (card_of_store s)) (card_of_store s).apps session_state_on a))
        (subst (λ (apps : List (List ℕ × App)). InOrder (store_did state wrote) s (items_of (due_manager (manage (room_on (card_of_store s)) apps session_state_on a))) b e) (going_apps (state s.device) s.count going) h))
    due_made budget (ToApplication a) e b other h = by_selected m.selected other h
      where
        by_selected : (x : Option Selection) → (due_application (option_map (λ s. record { name = s.aid; session = session }) x) ≡ Passes → ⊥)
            → InOrder (store_did state wrote) s (items_of (due_application (option_map (λ s. record { name = s.aid; session = session }) x))) b e
            → ItemsMade state wrote (card_of_store s) (application_command (card_of_store s) session_state_on (option_map (λ s. record { name = s.aid; session = session }) x) a budget).items s.device b e.device
        by_selected None other h = no_items s session_state_on going 0x6985 e b h
        by_selected (Some x) other h = absurd (other refl)
