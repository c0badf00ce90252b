-- The number of device writes of each item that a command began.
use Rattle.std.proofs.Common.{◌≡◌, ℕ, zero, suc, ◌+◌, ◌-◌, ◌≤◌, true, false, not, List, [], ◌∷◌, ◌++◌, length, Option, Some, None, Ok, Err, refl, sym, ap, subst, inl, inr, arith, length-append}
use Rattle.std.specs.List.{AllByRecursion}
use Rattle.mc_words.specs.model_device.specs.declared.device.Stop.{Stop}
use Rattle.mc_words.specs.model_device.specs.Orders.{Answer, InOrder}
use Rattle.mc_words.specs.model_device.specs.Image.{Two}
use Rattle.mc_words.specs.model_device.specs.Stopped.{cost}
use Rattle.mc_apdu.specs.model_machine.specs.Apdu.{ApduParts}
use Rattle.mc_words.specs.model_device.specs.Device.{DeviceState, IsSized, Wrote as DeviceWrote}
use Rattle.mc_words.specs.model_device.specs.Card.{App, Card, means}
use Rattle.mc_apdu.specs.model_machine.specs.Chain.{Write, no_app}
use Rattle.mc_bank.specs.model_card.specs.Items.{Fixed, Created, Item, Plain, Atomic, weight, moves, card_done, BankItem, write_items}
use Rattle.mc_bank.specs.model_card.specs.Manager.{SessionState, Selected, Route, WrongLength, WrongClass, ToSelect, ToManager, ToApplication, p1p2, word_parts, fresh, select, manage, room_on}
use Rattle.mc_bank.specs.model_card.specs.Commands.{Command, atomic_of, manager_command, by_route}
use Rattle.mc_words.specs.model_device.proofs.OrdersLemmas.{in_order_append}
use Rattle.mc_machine.specs.law_machine.proofs.FewHeaders.{few_headers_law}
use Rattle.mc_machine.specs.law_machine.proofs.RowWords.{few_writes_law}
use Rattle.mc_manager.specs.law_manager.specs.Orders.{Order, order_of}
use Rattle.mc_manager.specs.law_manager.specs.OnCard.{IsCommand, IsSelect, plains, blank_words}
use Rattle.mc_manager.specs.law_manager.specs.OnCard as made
use Rattle.mc_manager.specs.law_manager.proofs.OnCard.{command_made, selects_law}
use Rattle.mc_manager.specs.law_manager.proofs.Plains.{plains_are}
use Rattle.mc_bank.specs.Bank.{BankState, AreApps}
use Rattle.mc_store.specs.declared.store.Store.{Store}
use Rattle.mc_store.specs.Store.{apps_in, is_going, store_state}
use Rattle.mc_store.specs.StoreItems.{store_did}
use Rattle.mc_store.specs.GoingLaws.{Going}
use Rattle.mc_store.proofs.ReadLemmas.{all_apps}
use Rattle.mc_machine.specs.Chains.{ChainWrote}
use Rattle.mc_machine.proofs.SoundChains.{AreSound}
use Rattle.mc_card.specs.ItemWrites.{CountsWrites, ItemsMade, begun, MadeWithin}
use Rattle.mc_card.specs.Ends.{is_passed, most_weight}
use Rattle.mc_card.proofs.StaticLemmas.{going_apps}
use Rattle.mc_card.proofs.MadeLemmas.{card_found}
use Rattle.mc_card.proofs.WriteLemmas.{write_made, goes_on}
use Rattle.mc_bank.specs.model_card.proofs.ItemLemmas.{moves_append}
use Rattle.mc_card.proofs.StoreBank.{store_bank}

-- ---- items that were begun

abbrev pub AllWithin : ℕ → List Item → Type 0
AllWithin most is = AllByRecursion (λ i. weight i ≤ most) is

all_begun : (most n : ℕ) (is : List Item) → AllWithin most is → AllWithin most (begun n is)
all_begun most zero is h = tt
all_begun most (suc n) [] h = tt
all_begun most (suc n) (i ∷ is) h = (h.0, all_begun most (suc n - weight i) is h.1)

begun_front : (n : ℕ) (is js : List Item) → n ≤ moves is → begun n (is ++ js) ≡ begun n is
begun_front zero is js h = refl
begun_front (suc n) [] js h = absurd (omega (arith, h))
begun_front (suc n) (i ∷ is) js h = ap (λ (l : List Item). i ∷ l) (begun_front (suc n - weight i) is js (omega (arith, h)))

some_weight : (i : Item) → 1 ≤ weight i
some_weight Plain = omega arith
some_weight (Atomic w c) = omega arith

begun_past : (most n m k : ℕ) (is js : List Item) → m ≡ moves is → n ≡ m + k → AllWithin most (begun m is) → AllWithin most (begun k js) → AllWithin most (begun n (is ++ js))
begun_past most n m k [] js all e first second = subst (λ (t : ℕ). AllWithin most (begun t js)) (omega (arith, all, e)) second
begun_past most n zero k (i ∷ is) js all e first second = absurd (omega (arith, all, some_weight i))
begun_past most zero (suc m) k (i ∷ is) js all e first second = absurd (omega (arith, e))
begun_past most (suc n) (suc m) k (i ∷ is) js all e first second = (
  first.0,
  begun_past most (suc n - weight i) (suc m - weight i) k is js (omega (arith, all)) (omega (arith, all, e)) first.1 second,
)

module _ {D : Type 0} (state : D → DeviceState) (wrote : D → ℕ → List ℕ → Answer → D → Type 0) where
  -- items that make at most `most` writes each
  pub within_made : (most : ℕ) (c : Card) (is : List Item) (d : D) (a : Answer) (e : D) → ItemsMade state wrote c is d a e → AllWithin most is → MadeWithin wrote most is d a e
  within_made most c is d a e m all = record { writes = m.writes; makes = m.makes; number = m.number; few = all_begun most (length m.writes) is all }

  -- items that stopped, before other items
  within_stopped : (most : ℕ) (is js : List Item) (d e : D) (s : Stop) → MadeWithin wrote most is d (Err s) e → MadeWithin wrote most (is ++ js) d (Err s) e
  within_stopped most is js d e s m = grind (arith, moves_append, begun_front)

  all_append : (is js : List Item) (n k : ℕ) (a : Answer) → n ≡ moves is → CountsWrites js a k → CountsWrites (is ++ js) a (n + k)
  all_append is js n k (Ok u) first second = let all = moves_append is js in omega (arith, first, second, all)
  all_append is js n k (Err s) first second = let all = moves_append is js in omega (arith, first, second, all)

  -- items that were done, before other items
  within_append : (most : ℕ) (is js : List Item) (d m e : D) (a : Answer) → MadeWithin wrote most is d (Ok tt) m → MadeWithin wrote most js m a e → MadeWithin wrote most (is ++ js) d a e
  within_append most is js d m e a first second =
      let ws = first.writes in
      let vs = second.writes in
      let count : length ws ≡ moves is = first.number in
      let size : length (ws ++ vs) ≡ length ws + length vs = length-append ws vs in
      record {
        writes = ws ++ vs;
        makes = in_order_append (λ d p a e. wrote d p.0 p.1 a e) ws vs d m e a first.makes second.makes;
        number = subst (λ (n : ℕ). CountsWrites (is ++ js) a n) (sym size) (all_append is js (length ws) (length vs) a count second.number);
        few = begun_past most (length (ws ++ vs)) (length ws) (length vs) is js count size first.few second.few;
      }

-- ---- the atomic writes of an application

abbrev item : Write → Item
item w = Atomic w.words (Fixed w.name w.pieces)

module _ {N : Type 0} (state : N → DeviceState) (wrote : N → ℕ → List ℕ → Answer → N → Type 0)
    (obeys : (d : N) (at : ℕ) (w : List ℕ) (a : Answer) (e : N) → (state d).on ≡ true → wrote d at w a e → DeviceWrote (state d) at w a (state e)) where
  abbrev bank_state : Store N → BankState
  bank_state s = store_state (state s.device) s.count

  abbrev did : Store N → BankItem → Answer → Store N → Type 0
  did s i a e = store_did state wrote s i a e

  abbrev words_of : Store N → List (List ℕ)
  words_of s = (state s.device).words

  -- one atomic write
  one_within : (s e : Store N) (w : Write) (a : Answer) → ItemsMade state wrote (means (words_of s)) (item w ∷ []) s.device a e.device → ChainWrote (store_bank state wrote) s w a e → MadeWithin wrote 147 (item w ∷ []) s.device a e.device
  one_within s e w a made h = within_made state wrote 147 (means (words_of s)) (item w ∷ []) s.device a e.device made (((few_writes_law w.words).1 h.3).two, tt)

  -- all atomic writes that were begun
  pub writes_within : (ws : List Write) (s e : Store N) (a : Answer) → Going (state s.device) s.count → AreSound (means (words_of s)).apps ws → InOrder (ChainWrote (store_bank state wrote)) s ws a e → MadeWithin wrote 147 (write_items ws) s.device a e.device
  writes_within [] s e (Ok u) g sound h = record { writes = []; makes = ap (λ (t : Store N). t.device) h; number = refl; few = tt }
  writes_within [] s e (Err x) g sound h = absurd h
  writes_within (w ∷ ws) s e a g sound h =
      let c = means (words_of s) in
      let i = item w ∷ [] in
      elim h [
        | inl done ↦
            let m = done.0 in
            let first : ItemsMade state wrote c i s.device (Ok tt) m.device = write_made state wrote obeys s m w (Ok tt) sound.0 done.1 in
            let now : card_done c i ≡ means (words_of m) = card_found (card_done c i) 0 (words_of m) first.done in
            within_append state wrote 147 i (write_items ws) s.device m.device e.device a (one_within s m w (Ok tt) first done.1)
            (writes_within ws m e a (goes_on state wrote obeys s m w done.1) (subst (λ (k : Card). AreSound k.apps ws) now sound.1) done.2)
        | inr stop ↦ subst (λ (b : Answer). MadeWithin wrote 147 (write_items (w ∷ ws)) s.device b e.device) (sym stop.2)
            (within_stopped state wrote 147 i (write_items ws) s.device e.device stop.0 (one_within s e w (Err stop.0) (write_made state wrote obeys s e w (Err stop.0) sound.0 stop.1) stop.1))
      ]

-- ---- the items of the manager

-- the device writes of a change of headers
header_cost : (w n : ℕ) → n ≤ 32 → w ≤ n + 4 → cost Two w ≤ 84
header_cost w n few h = omega (arith, few, h)

plain_within : (n : ℕ) (is : List Item) → AllWithin 84 is → AllWithin 84 (plains n is)
plain_within = plains_are (AllWithin 84) (λ is h. (omega arith, h))

made_within : (c : Card) (session_state : SessionState) (a : ApduParts) (o : Order) (r : Command) → length c.apps ≤ 32 → IsCommand c session_state a o r → AllWithin 84 r.items
made_within c session_state a _ _ few (made.refused o sw h) = tt
made_within c session_state a _ _ few (made.quiet o body load h) = tt
made_within c session_state a _ _ few (made.loaded p l h) = plain_within (length (word_parts (p1p2 a) a.body)) [] tt
made_within c session_state a _ _ few (made.created l n h) =
    let whole = atomic_of c (Some (Created n (fresh l))) in
    plain_within (blank_words l.site) (plains 4 (whole ∷ [])) (plain_within 4 (whole ∷ []) (header_cost _ (length c.apps) few (few_headers_law c n (fresh l)).created, tt))
made_within c session_state a _ _ few (made.deleted h) = (header_cost _ (length c.apps) few (few_headers_law c a.body no_app).deleted, tt)

select_within : (c : Card) (session_state : SessionState) (a : ApduParts) (r : Command) → IsSelect c session_state a r → AllWithin 84 r.items
select_within c session_state a _ (made.unselected sw h) = tt
select_within c session_state a _ (made.selected app h) = tt

no_application : (c : Card) (session_state : SessionState) (budget : ℕ) (a : ApduParts) (o : Option Selected) → session_state.selected ≡ o → is_passed (ToApplication a) o ≡ false → AllWithin 147 (by_route c session_state budget (ToApplication a)).items
no_application c session_state budget a None is stays = rw is tt
no_application c session_state budget a (Some s) is stays = absurd (cc stays)

-- a command that is not passed to the application
pub route_within : (c : Card) (session_state : SessionState) (budget : ℕ) (r : Route) → length c.apps ≤ 32 → is_passed r session_state.selected ≡ false → AllWithin (most_weight r) (by_route c session_state budget r).items
route_within c session_state budget WrongLength few stays = tt
route_within c session_state budget WrongClass few stays = tt
route_within c session_state budget (ToSelect a) few stays = select_within c session_state a (manager_command c session_state (select c.apps session_state a)) (selects_law c session_state a)
route_within c session_state budget (ToManager a) few stays = made_within c session_state a (order_of a.ins) (manager_command c session_state (manage (room_on c) c.apps session_state a)) few (command_made c session_state a)
route_within c session_state budget (ToApplication a) few stays = no_application c session_state budget a session_state.selected refl stays

-- a card that runs has at most 32 applications
pub going_entries : (d : DeviceState) (count : ℕ) → IsSized d.words → is_going d count ≡ true → AreApps (apps_in d.words)
going_entries d count image going = all_apps d count image (ap not going)

pub going_few : (d : DeviceState) (count : ℕ) → IsSized d.words → is_going d count ≡ true → length (means d.words).apps ≤ 32
going_few d count image going = subst (λ (es : List (List ℕ × App)). length es ≤ 32) (going_apps d count going) (going_entries d count image going).few
