-- A store is ready for the last item of a creation after those before it.
use Rattle.std.proofs.Common.{◌≡◌, ℕ, ◌-◌, ◌≤◌, true, List, [], ◌∷◌, length, map, None, Ok, sym, ◌∙◌, ap, subst}
use Rattle.std.specs.List.{AllByRecursion}
use Rattle.mc_words.specs.model_device.specs.Orders.{Answer, InOrder}
use Rattle.mc_words.specs.model_device.specs.Bytes.{zeros, lookup}
use Rattle.mc_words.specs.model_device.specs.Device.{DeviceState, IsSized, Wrote}
use Rattle.mc_words.specs.model_device.specs.Card.{Card, means}
use Rattle.mc_bank.specs.model_card.specs.Items.{Site, Blank, Note}
use Rattle.mc_words.specs.Name.{IsName}
use Rattle.mc_store.specs.declared.store.Store.{Store}
use Rattle.mc_store.specs.Store.{is_going, IsGoodIn, IsReadySite}
use Rattle.mc_store.specs.GoingLaws.{going_is}
use Rattle.mc_store.specs.StoreItems.{store_did, blank_items}
use Rattle.mc_store.proofs.FillLemmas.{PlainOn}
use Rattle.mc_store.proofs.ItemLemmas.{IsPlain, items_on}
use Rattle.mc_store.proofs.ReadyLemmas.{ready}
use Rattle.mc_words.specs.model_device.proofs.LayoutLemmas.{closed_means}

plain_blanks : (s : Site) (cs : List (ℕ × List ℕ)) → AllByRecursion IsPlain (map (λ c. Blank s c.0 (length c.1)) cs)
plain_blanks s [] = tt
plain_blanks s (c ∷ cs) = (tt, plain_blanks s cs)

-- a card that stays has as many words as before
same_size : (d e : DeviceState) (c : ℕ) → is_going d c ≡ true → PlainOn d e c → length e.words ≡ length d.words
same_size d e c going on =
    ap (λ (k : Card). k.size) (sym (closed_means e.words (going_is e c on.going).closed) ∙ on.means ∙ closed_means d.words (going_is d c going).closed)

module _ {N : Type 0} (state : N → DeviceState) (wrote : N → ℕ → List ℕ → Answer → N → Type 0)
    (obeys : (d : N) (at : ℕ) (w : List ℕ) (a : Answer) (e : N) → (state d).on ≡ true → wrote d at w a e → Wrote (state d) at w a (state e)) where
  pub create_ready : (x y z : Store N) (s : Site) (k : List ℕ) → IsSized (state x.device).words → is_going (state x.device) x.count ≡ true → IsGoodIn (state x.device).words s → IsName k → lookup (means (state x.device).words).apps k ≡ None
      → InOrder (store_did state wrote) x (blank_items s s.sizes.init (zeros (s.sizes.fixed - s.sizes.init))) (Ok tt) y → InOrder (store_did state wrote) y (Note s k 0 ∷ Note s k 1 ∷ Note s k 2 ∷ Note s k 3 ∷ []) (Ok tt) z → IsGoodIn (state z.device).words s → IsReadySite (state z.device).words s k
  create_ready x y z s k image going good name fresh blanks notes good-z =
      let one = items_on (λ (t : Store N). t.device) (λ (t : Store N). t.count) state wrote obeys (blank_items s s.sizes.init (zeros (s.sizes.fixed - s.sizes.init))) x y (plain_blanks s _) going blanks in
      let on : is_going (state y.device) y.count ≡ true = subst (λ (c : ℕ). is_going (state y.device) c ≡ true) (sym one.1) one.0.going in
      let two = items_on (λ (t : Store N). t.device) (λ (t : Store N). t.count) state wrote obeys (Note s k 0 ∷ Note s k 1 ∷ Note s k 2 ∷ Note s k 3 ∷ []) y z (tt, (tt, (tt, (tt, tt)))) on notes in
      ready (λ (t : Store N). t.device) (λ (t : Store N). t.count) state wrote obeys x y z s k image going good name fresh blanks notes one.0 two.0 good-z (same_size (state x.device) (state y.device) x.count going one.0)

pub name_of : (n b : List ℕ) → b ≡ n → 5 ≤ length b → length b ≤ 16 → IsName n
name_of n b e low high = subst (λ (l : List ℕ). (5 ≤ length l) × (length l ≤ 16)) e (low, high)
