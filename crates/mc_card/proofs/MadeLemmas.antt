-- Items of a store as items of the definition: one of them, and lists of them in sequence, done or stopped.
use Rattle.std.proofs.Common.{◌≡◌, ℕ, ◌+◌, ◌-◌, ◌≤◌, Bool, true, false, cond, List, [], ◌∷◌, ◌++◌, length, map, Option, Some, None, Ok, Err, refl, sym, ◌∙◌, ap, subst, inl, inr, arith, length-append}
use Rattle.std.specs.Prelude.{nat_le, unwrap_or}
use Rattle.std.specs.List.{AllByRecursion}
use Rattle.std.proofs.lemmas.List.{length-map}
use Rattle.std.proofs.lemmas.Bool.{cases_lt, le-leb}
use Rattle.mc_words.specs.model_device.specs.declared.device.Stop.{Stop}
use Rattle.mc_words.specs.model_device.specs.Orders.{Answer, InOrder}
use Rattle.mc_words.specs.model_device.specs.Bytes.{lookup}
use Rattle.mc_words.specs.model_device.specs.Image.{Two, look, Closed}
use Rattle.mc_words.specs.model_device.specs.Device.{DeviceState, IsSized, Wrote, Makes}
use Rattle.mc_words.specs.model_device.specs.Stopped.{cost, stands, owes, image_after_stop, writes, IsAtomic}
use Rattle.mc_words.specs.model_device.specs.Card.{App, Card, card_of, means}
use Rattle.mc_words.specs.model_device.specs.Layout.{words_fault, step_of, IsWellLaid}
use Rattle.mc_bank.specs.model_card.specs.Items.{Change, Item, Plain, Atomic, Stopped, with_item, in_flight, weight, moves, apps_after_change, card_done, at_stop, BankItem, Piece, Blank, Note, Commit, Enter, Remove}
use Rattle.mc_words.specs.model_device.specs.PowerUp.{OnCard}
use Rattle.mc_words.specs.model_device.proofs.OrdersLemmas.{in_order_append}
use Rattle.mc_words.specs.model_device.proofs.DeviceLemmas.{DoneAll, makes_done}
use Rattle.mc_words.specs.model_device.proofs.StoppedLemmas.{torn_within, torn_past}
use Rattle.mc_words.specs.model_device.proofs.CallLemmas.{length_writes}
use Rattle.mc_bank.specs.Bank.{no_app, app_of, CanCommit, item_done}
use Rattle.mc_store.specs.Store.{apps_in, part_in, static_writes, card_with, card_without, item_writes, store_site_bytes, Allows, StoreDid}
use Rattle.mc_store.specs.Power.{HoldsBase}
use Rattle.mc_store.specs.GoingLaws.{Going, going_is}
use Rattle.mc_store.specs.Stops.{card_after, IsStoppedAt}
use Rattle.mc_store.specs.CommitLaws.{CommittedCard, commits}
use Rattle.mc_store.specs.CreationLaws.{creates_plan}
use Rattle.mc_store.specs.DeletionLaws.{deletes_plan}
use Rattle.mc_store.specs.TurnLaws.{CardChanged, SiteBytes, site_bytes_of, turns}
use Rattle.mc_store.proofs.StopLemmas.{item_stops}
use Rattle.mc_card.specs.ItemWrites.{IsCardAfterStop, CountsWrites, IsCardAfter, ItemsMade, StopsAtEach}
use Rattle.mc_words.specs.model_device.proofs.LayoutLemmas.{closed_fault, closed_means}
use Rattle.mc_bank.specs.model_card.proofs.ItemLemmas.{moves_append, card_append, behind, stop_within, stop_past}
use Rattle.mc_words.specs.model_device.proofs.BoolLemmas.{some_is}

-- ---- words that are a card

pub card_found : (c : Card) (n : ℕ) (m : List (List ℕ)) → HoldsBase (OnCard c) n Two m → c ≡ means m
card_found c n m b = grind arith

pub closed_base : (m : List (List ℕ)) (c : Card) → look m ≡ Closed → words_fault m ≡ None → card_of m ≡ c → HoldsBase (OnCard c) 0 Two m
closed_base m c closed good is = grind (arith, closed_fault, closed_means)

-- ---- items in sequence

module _ {D : Type 0} (state : D → DeviceState) (wrote : D → ℕ → List ℕ → Answer → D → Type 0)
    (obeys : (d : D) (at : ℕ) (w : List ℕ) (a : Answer) (e : D) → (state d).on ≡ true → wrote d at w a e → Wrote (state d) at w a (state e)) where
  -- no items
  pub made_none : (c : Card) (d : D) → HoldsBase (OnCard c) 0 Two (state d).words → ItemsMade state wrote c [] d (Ok tt) d
  made_none c d base =
      record { writes = []; makes = refl; number = refl; stops = λ k x low high size. absurd (omega (arith, low, high)); done = base }

  -- items done by these device writes
  pub record MadeBy (c : Card) (is : List Item) (d : D) (a : Answer) (e : D) (ws : List (ℕ × List ℕ)) : Type 0 where
    pub makes : Makes wrote d ws a e
    pub number : CountsWrites is a (length ws)
    pub stops : StopsAtEach c is (state d).words ws
    pub done : IsCardAfter c is a (state e).words

  pub by_made : (c : Card) (is : List Item) (d e : D) (a : Answer) (m : ItemsMade state wrote c is d a e) → MadeBy c is d a e m.writes
  by_made c is d e a m = record { makes = m.makes; number = m.number; stops = m.stops; done = m.done }

  -- items that stopped, before other items
  pub made_before : (c : Card) (is js : List Item) (d e : D) (s : Stop) (ws : List (ℕ × List ℕ)) → MadeBy c is d (Err s) e ws → MadeBy c (is ++ js) d (Err s) e ws
  made_before c is js d e s ws m =
      let few : length ws ≤ moves is = m.number in
      let all : moves (is ++ js) ≡ moves is + moves js = moves_append is js in
      record {
        makes = m.makes;
        number = omega (arith, few, all);
        stops = λ k x low high size.
            subst (λ (t : Stopped). IsCardAfterStop c t (image_after_stop (state d).words ws k x)) (sym (stop_within is js k x low (omega (arith, few, high)))) (m.stops k x low high size);
        done = tt;
      }

  number_on : (is js : List Item) (n k : ℕ) (a : Answer) → n ≡ moves is → CountsWrites js a k → CountsWrites (is ++ js) a (n + k)
  number_on is js n k (Ok u) first second = let all = moves_append is js in omega (arith, first, second, all)
  number_on is js n k (Err s) first second = let all = moves_append is js in omega (arith, first, second, all)

  done_on : (c : Card) (is js : List Item) (a : Answer) (m : List (List ℕ)) → IsCardAfter (card_done c is) js a m → IsCardAfter c (is ++ js) a m
  done_on c is js (Ok u) m h = subst (λ (k : Card). HoldsBase (OnCard k) 0 Two m) (sym (card_append is js c)) h
  done_on c is js (Err s) m h = tt

  -- items after items that were done
  pub made_on : (c : Card) (is js : List Item) (d m e : D) (a : Answer) (ws vs : List (ℕ × List ℕ)) → (state d).on ≡ true → MadeBy c is d (Ok tt) m ws → MadeBy (card_done c is) js m a e vs → MadeBy c (is ++ js) d a e (ws ++ vs)
  made_on c is js d m e a ws vs on first second =
      let all : DoneAll (state d) ws (state m) = makes_done state wrote obeys ws d m on first.makes in
      let count : length ws ≡ moves is = first.number in
      let size : length (ws ++ vs) ≡ length ws + length vs = length-append ws vs in
      record {
        makes = in_order_append (λ d p a e. wrote d p.0 p.1 a e) ws vs d m e a first.makes second.makes;
        number = subst (λ (n : ℕ). CountsWrites (is ++ js) a n) (sym size) (number_on is js (length ws) (length vs) a count second.number);
        stops = λ k x low high long. elim (cases_lt (length ws) k) [
          | inr in-first ↦ subst (λ (t : Stopped). IsCardAfterStop c t (image_after_stop (state d).words (ws ++ vs) k x)) (sym (stop_within is js k x low (omega (arith, in-first, count))))
              (subst (λ (w : List (List ℕ)). IsCardAfterStop c (at_stop is k x) w) (sym (torn_within (state d).words ws vs k x low in-first)) (first.stops k x low in-first long))
          | inl past ↦
              let j = k - length ws in
              let is-k : k ≡ length ws + j = omega (arith, past) in
              let some : 1 ≤ j = omega (arith, past) in
              let words : image_after_stop (state d).words (ws ++ vs) k x ≡ image_after_stop (state m).words vs j x =
              torn_past (state d).words ws vs k j x some is-k ∙ ap (λ (w : List (List ℕ)). image_after_stop w vs j x) (sym all.words) in
              let stop : at_stop (is ++ js) k x ≡ behind is (at_stop js j x) = stop_past is js k j x some (is-k ∙ ap (λ (n : ℕ). n + j) count) in
              let there : IsCardAfterStop (card_done c is) (at_stop js j x) (image_after_stop (state m).words vs j x) = second.stops j x some (omega (arith, high, size, is-k)) long in
              subst (λ (t : Stopped). IsCardAfterStop c t (image_after_stop (state d).words (ws ++ vs) k x)) (sym stop)
              (subst (λ (w : List (List ℕ)). IsCardAfterStop c (behind is (at_stop js j x)) w) (sym words)
              (subst (λ (b : Card). HoldsBase (OnCard b) (at_stop js j x).owed Two (image_after_stop (state m).words vs j x)) (sym (card_append is (at_stop js j x).whole c)) there))
        ];
        done = done_on c is js a (state e).words second.done;
      }

  pub of_made : (c : Card) (is : List Item) (d e : D) (a : Answer) (ws : List (ℕ × List ℕ)) → MadeBy c is d a e ws → ItemsMade state wrote c is d a e
  of_made c is d e a ws m = record { writes = ws; makes = m.makes; number = m.number; stops = m.stops; done = m.done }

  pub made_stopped : (c : Card) (is js : List Item) (d e : D) (s : Stop) → ItemsMade state wrote c is d (Err s) e → ItemsMade state wrote c (is ++ js) d (Err s) e
  made_stopped c is js d e s m = of_made c (is ++ js) d e (Err s) m.writes (made_before c is js d e s m.writes (by_made c is d e (Err s) m))

  pub made_append : (c : Card) (is js : List Item) (d m e : D) (a : Answer) → (state d).on ≡ true → ItemsMade state wrote c is d (Ok tt) m → ItemsMade state wrote (card_done c is) js m a e → ItemsMade state wrote c (is ++ js) d a e
  made_append c is js d m e a on first second =
      of_made c (is ++ js) d e a (first.writes ++ second.writes) (made_on c is js d m e a first.writes second.writes on (by_made c is d m (Ok tt) first) (by_made (card_done c is) js m e a second))

  -- steps of any kind that each make one item
  module _ {S X : Type 0} (device : S → D) (one : S → X → Answer → S → Type 0) (item : X → Item) (P : X → Type 0)
      (power : (s : S) (x : X) (a : Answer) (e : S) → one s x a e → (state (device s)).on ≡ true)
      (step : (s : S) (x : X) (a : Answer) (e : S) → P x → one s x a e → ItemsMade state wrote (means (state (device s)).words) (item x ∷ []) (device s) a (device e)) where
    pub made_fold : (xs : List X) (s e : S) (a : Answer) → HoldsBase (OnCard (means (state (device s)).words)) 0 Two (state (device s)).words → AllByRecursion P xs → InOrder one s xs a e
        → ItemsMade state wrote (means (state (device s)).words) (map item xs) (device s) a (device e)
    made_fold [] s e (Ok u) base all h =
        subst (λ (t : S). ItemsMade state wrote (means (state (device s)).words) [] (device s) (Ok tt) (device t)) (sym h) (made_none (means (state (device s)).words) (device s) base)
    made_fold [] s e (Err t) base all h = absurd h
    made_fold (x ∷ xs) s e a base all h =
        let c = means (state (device s)).words in
        elim h [
          | inl done ↦
              let m = done.0 in
              let first : ItemsMade state wrote c (item x ∷ []) (device s) (Ok tt) (device m) = step s x (Ok tt) m all.0 done.1 in
              let now : card_done c (item x ∷ []) ≡ means (state (device m)).words = card_found (card_done c (item x ∷ [])) 0 (state (device m)).words first.done in
              let here : HoldsBase (OnCard (means (state (device m)).words)) 0 Two (state (device m)).words =
              subst (λ (k : Card). HoldsBase (OnCard k) 0 Two (state (device m)).words) now first.done in
              made_append c (item x ∷ []) (map item xs) (device s) (device m) (device e) a (power s x (Ok tt) m done.1) first
              (subst (λ (k : Card). ItemsMade state wrote k (map item xs) (device m) a (device e)) (sym now) (made_fold xs m e a here all.1 done.2))
          | inr stop ↦ subst (λ (b : Answer). ItemsMade state wrote c (map item (x ∷ xs)) (device s) b (device e)) (sym stop.2)
              (made_stopped c (item x ∷ []) (map item xs) (device s) (device e) stop.0 (step s x (Err stop.0) e all.0 stop.1))
        ]

-- ---- one item of a store

-- an atomic write of `w` words, which changes the applications as an item of the store does
pub record IsAtomicAs (m : List (List ℕ)) (i : BankItem) (w : ℕ) (j : Item) : Type 0 where
  pub change : Change
  pub is : j ≡ Atomic w change
  pub apps : apps_after_change change (means m).apps ≡ item_done (part_in m) i (means m).apps

-- an item of the store, on words without an open journal, as an item of the definition
abbrev pub IsAs : List (List ℕ) → BankItem → Item → Type 0
IsAs m (Piece s p at b) j = j ≡ Plain
IsAs m (Blank s at n) j = j ≡ Plain
IsAs m (Note s n i) j = j ≡ Plain
IsAs m (Commit n ws) j = IsAtomicAs m (Commit n ws) (length ws) j
IsAs m (Enter s n) j = IsAtomicAs m (Enter s n) (length (step_of (means m) (card_with m s n))) j
IsAs m (Remove n) j = IsAtomicAs m (Remove n) (length (step_of (means m) (card_without m n))) j

-- one item: the number of its writes, the card after it, and the card after a stop in it
record OneIs (m : List (List ℕ)) (i : BankItem) (j : Item) : Type 0 where
  count : length (item_writes m i) ≡ weight j
  card : card_done (means m) (j ∷ []) ≡ card_after m i
  stops : (k : ℕ) (x : List ℕ) (n : List (List ℕ)) → 1 ≤ k → k ≤ length (item_writes m i) → IsStoppedAt m i k x n → IsCardAfterStop (means m) (at_stop (j ∷ []) k x) n

plain_one : (m : List (List ℕ)) (i : BankItem) (j : Item) (n : List (List ℕ)) (k : ℕ) (x : List ℕ) → j ≡ Plain → 1 ≤ k → k ≤ 1 → HoldsBase (OnCard (means m)) 0 Two n → IsCardAfterStop (means m) (at_stop (j ∷ []) k x) n
plain_one m i j n k x is low high h = grind arith

card_chosen : (b : Bool) (c : Card) (w : ℕ) (ch : Change) → card_done c (cond b (Atomic w ch ∷ []) []) ≡ cond b (card_done c (Atomic w ch ∷ [])) c
card_chosen true c w ch = refl
card_chosen false c w ch = refl

module _ (m : List (List ℕ)) (image : IsSized m) (closed : look m ≡ Closed) (good : words_fault m ≡ None) where
  well : IsWellLaid m
  well = closed_fault m closed ∙ good

  -- an atomic write of a list
  atomic_one : (i : BankItem) (j : Item) (list : List (ℕ × List ℕ)) (w : ℕ) → IsAtomic (length m) list → length list ≡ w → IsAtomicAs m i w j → item_writes m i ≡ writes Two list
      → ((k : ℕ) (x : List ℕ) (n : List (List ℕ)) → IsStoppedAt m i k x n → HoldsBase (OnCard (cond (stands Two w k x) (card_after m i) (means m))) (owes Two w k x) Two n) → OneIs m i j
  atomic_one i j list w atomic size a is torn-at =
      let count : length (item_writes m i) ≡ cost Two w = ap (λ (l : List (ℕ × List ℕ)). length l) is ∙ length_writes Two (length m) list image.high atomic ∙ ap (λ (n : ℕ). cost Two n) size in
      let card : card_done (means m) (Atomic w a.change ∷ []) ≡ card_after m i = ap (λ (apps : List (List ℕ × App)). record (means m) { apps = apps }) a.apps in
      let at : weight (Atomic w a.change) ≡ cost Two w = refl in
      subst (λ (t : Item). OneIs m i t) (sym a.is)
      (record {
        count = count;
        card = card;
        stops = λ k x n low high h.
            let first : nat_le k (cost Two w) ≡ true = le-leb k (cost Two w) (omega (arith, high, count)) in
            let b = stands Two w k x in
            let same : card_done (means m) (cond b (Atomic w a.change ∷ []) []) ≡ cond b (card_after m i) (means m) =
            card_chosen b (means m) w a.change ∙ ap (λ (c : Card). cond b c (means m)) card in
            subst (λ (t : Bool). IsCardAfterStop (means m) (cond t (in_flight w a.change k x) (with_item (Atomic w a.change) (at_stop [] (k - cost Two w) x))) n) (sym first)
            (subst (λ (c : Card). HoldsBase (OnCard c) (owes Two w k x) Two n) (sym same) (torn-at k x n h));
      })

  one_is : (i : BankItem) (j : Item) → Allows m i → IsAs m i j → OneIs m i j
  one_is (Piece s p at b) j allowed is =
      record {
        count = subst (λ (t : Item). 1 ≡ weight t) (sym is) refl;
        card = subst (λ (t : Item). card_done (means m) (t ∷ []) ≡ means m) (sym is) refl;
        stops = λ k x n low high h. plain_one m (Piece s p at b) j n k x is low high h;
      }
  one_is (Blank s at c) j allowed is =
      record {
        count = subst (λ (t : Item). 1 ≡ weight t) (sym is) refl;
        card = subst (λ (t : Item). card_done (means m) (t ∷ []) ≡ means m) (sym is) refl;
        stops = λ k x n low high h. plain_one m (Blank s at c) j n k x is low high h;
      }
  one_is (Note s c q) j allowed is =
      record {
        count = subst (λ (t : Item). 1 ≡ weight t) (sym is) refl;
        card = subst (λ (t : Item). card_done (means m) (t ∷ []) ≡ means m) (sym is) refl;
        stops = λ k x n low high h. plain_one m (Note s c q) j n k x is low high h;
      }
  one_is (Commit n ws) j allowed is =
      let found = some_is (lookup (means m).apps n) allowed.0 in
      let a = found.0 in
      let app : app_of (means m).apps (Some n) ≡ a = ap (λ (o : Option App). unwrap_or o no_app) found.1 in
      let there : lookup (card_of m).apps n ≡ Some a = ap (λ (c : Card). lookup c.apps n) (sym (closed_means m closed)) ∙ found.1 in
      let t : CommittedCard m n a ws = commits m n a ws image good there (subst (λ (y : App). CanCommit y.fixed ws) app allowed.1) in
      let atomic : IsAtomic (length m) (static_writes (app_of (means m).apps (Some n)) ws) = subst (λ (y : App). IsAtomic (length m) (static_writes y ws)) (sym app) t.atomic in
      atomic_one (Commit n ws) j (static_writes (app_of (means m).apps (Some n)) ws) (length ws) atomic (length-map ws _) is refl (λ k x e h. h)
  one_is (Enter s n) j ready is =
      atomic_one (Enter s n) j (step_of (means m) (card_with m s n)) (length (step_of (means m) (card_with m s n))) (creates_plan m s n image closed well ready.good ready.fresh).atomic refl is refl (λ k x e h. h)
  one_is (Remove n) j there is =
      let found = some_is (lookup (means m).apps n) there in
      atomic_one (Remove n) j (step_of (means m) (card_without m n)) (length (step_of (means m) (card_without m n))) (deletes_plan m n found.0 image closed well found.1).atomic refl is refl (λ k x e h. h)

module _ {D : Type 0} (state : D → DeviceState) (wrote : D → ℕ → List ℕ → Answer → D → Type 0)
    (obeys : (d : D) (at : ℕ) (w : List ℕ) (a : Answer) (e : D) → (state d).on ≡ true → wrote d at w a e → Wrote (state d) at w a (state e)) where
  count_is : (j : Item) (n : ℕ) (a : Answer) → n ≡ weight j → CountsWrites (j ∷ []) a n
  count_is j n (Ok u) is = omega (arith, is)
  count_is j n (Err s) is = omega (arith, is)

  done_is : (d e : D) (c k : ℕ) (i : BankItem) (j : Item) (a : Answer) → card_done (means (state d).words) (j ∷ []) ≡ card_after (state d).words i → StoreDid state wrote d c i a e k → IsCardAfter (means (state d).words) (j ∷ []) a (state e).words
  done_is d e c k i j (Err s) card did = tt
  done_is d e c k i j (Ok tt) card did =
      let m = (state d).words in
      let g : Going (state d) c = going_is (state d) c did.going in
      let s : SiteBytes m = site_bytes_of (state d) c g in
      let t : CardChanged (state d) (item_done (store_site_bytes (state d)) i (apps_in m)) (state e) k = turns state wrote obeys i d e c k (Ok tt) did in
      let own : item_done (store_site_bytes (state d)) i (apps_in m) ≡ item_done (part_in m) i (means m).apps =
      ap (λ (w : List (List ℕ)). item_done (part_in w) i (apps_in m)) s.self ∙ ap (λ (apps : List (List ℕ × App)). item_done (part_in m) i apps) (s.map ∙ sym s.apps) in
      closed_base (state e).words (card_done (means m) (j ∷ [])) t.closed t.good
      (t.card ∙ ap (λ (apps : List (List ℕ × App)). record (card_of m) { apps = apps }) own
      ∙ ap (λ (x : Card). record x { apps = item_done (part_in m) i (means m).apps }) (sym (closed_means m g.closed)) ∙ sym card)

  -- one item
  pub made_one : (d e : D) (c k : ℕ) (i : BankItem) (j : Item) (a : Answer) → IsAs (state d).words i j → StoreDid state wrote d c i a e k → ItemsMade state wrote (means (state d).words) (j ∷ []) d a e
  made_one d e c k i j a is did =
      let m = (state d).words in
      let g : Going (state d) c = going_is (state d) c did.going in
      let one : OneIs m i j = one_is m did.image g.closed g.laid i j did.allowed is in
      record {
        writes = item_writes m i;
        makes = did.makes;
        number = count_is j (length (item_writes m i)) a one.count;
        stops = λ n x low high size. one.stops n x (image_after_stop m (item_writes m i) n x) low high (item_stops m did.image g.closed g.laid i n x did.allowed low high);
        done = done_is d e c k i j a one.card did;
      }
