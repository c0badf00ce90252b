-- Lists of items of a store that leave the card: pieces, zeros and words of a record, done or stopped.
use Rattle.std.proofs.Common.{arith, ◌≡◌, ℕ, true, List, [], ◌∷◌, Ok, refl, sym, ◌∙◌, subst, inl, inr}
use Rattle.std.specs.List.{AllByRecursion}
use Rattle.mc_words.specs.model_device.specs.Orders.{Answer, InOrder}
use Rattle.mc_words.specs.model_device.specs.Device.{DeviceState, Wrote}
use Rattle.mc_bank.specs.model_card.specs.Items.{BankItem, Piece, Blank, Note, Commit, Enter, Remove}
use Rattle.mc_store.specs.Store.{is_going, StoreDid}
use Rattle.mc_store.proofs.FillLemmas.{PlainOn, piece_on, blank_on, note_on}

-- an item that leaves the card
abbrev pub IsPlain : BankItem → Type 0
IsPlain (Piece s p at b) = Unit {0}
IsPlain (Blank s at n) = Unit {0}
IsPlain (Note s n i) = Unit {0}
IsPlain (Commit n ws) = ⊥
IsPlain (Enter s n) = ⊥
IsPlain (Remove n) = ⊥

pub on_self : (d : DeviceState) (c : ℕ) → is_going d c ≡ true → PlainOn d d c
on_self d c going = record { going = going; means = refl; cuts = refl; faults = refl }

pub on_then : (d e f : DeviceState) (c : ℕ) → PlainOn d e c → PlainOn e f c → PlainOn d f c
on_then d e f c x y = record { going = y.going; means = y.means ∙ x.means; cuts = y.cuts ∙ x.cuts; faults = y.faults ∙ x.faults }

module _ {D S : Type 0} (dev : S → D) (cnt : S → ℕ) (state : D → DeviceState) (wrote : D → ℕ → List ℕ → Answer → D → Type 0)
    (obeys : (d : D) (at : ℕ) (w : List ℕ) (a : Answer) (e : D) → (state d).on ≡ true → wrote d at w a e → Wrote (state d) at w a (state e)) where
  abbrev ItemDid : S → BankItem → Answer → S → Type 0
  ItemDid x i a y = StoreDid state wrote (dev x) (cnt x) i a (dev y) (cnt y)

  plain_count : (x y : S) (i : BankItem) (a : Answer) → IsPlain i → ItemDid x i a y → cnt y ≡ cnt x
  plain_count x y i a h did = grind arith

  -- with the count that stays
  held : (x y : S) (i : BankItem) (a : Answer) → cnt y ≡ cnt x → ItemDid x i a y → StoreDid state wrote (dev x) (cnt x) i a (dev y) (cnt x)
  held x y i a e did = subst (λ (k : ℕ). StoreDid state wrote (dev x) (cnt x) i a (dev y) k) e did

  pub item_on : (x y : S) (i : BankItem) → IsPlain i → ItemDid x i (Ok tt) y → PlainOn (state (dev x)) (state (dev y)) (cnt x)
  item_on x y (Piece s p at b) h did = piece_on state wrote obeys (dev x) (dev y) (cnt x) s p at b (held x y (Piece s p at b) (Ok tt) did.count did)
  item_on x y (Blank s at n) h did = blank_on state wrote obeys (dev x) (dev y) (cnt x) s at n (held x y (Blank s at n) (Ok tt) did.count did)
  item_on x y (Note s n i) h did = note_on state wrote obeys (dev x) (dev y) (cnt x) s n i (held x y (Note s n i) (Ok tt) did.count did)
  item_on x y (Commit n ws) h did = absurd h
  item_on x y (Enter s n) h did = absurd h
  item_on x y (Remove n) h did = absurd h

  -- items that were done leave the card
  pub items_on : (is : List BankItem) (x y : S) → AllByRecursion IsPlain is → is_going (state (dev x)) (cnt x) ≡ true → InOrder ItemDid x is (Ok tt) y → PlainOn (state (dev x)) (state (dev y)) (cnt x) × (cnt y ≡ cnt x)
  items_on [] x y all going h = subst (λ (z : S). PlainOn (state (dev x)) (state (dev z)) (cnt x) × (cnt z ≡ cnt x)) (sym h) (on_self (state (dev x)) (cnt x) going, refl)
  items_on (i ∷ is) x y all going h =
      elim h [
        | inl done ↦
            let z = done.0 in
            let one : PlainOn (state (dev x)) (state (dev z)) (cnt x) = item_on x z i all.0 done.1 in
            let count : cnt z ≡ cnt x = plain_count x z i (Ok tt) all.0 done.1 in
            let rest = items_on is z y all.1 (subst (λ (k : ℕ). is_going (state (dev z)) k ≡ true) (sym count) one.going) done.2 in
            (on_then (state (dev x)) (state (dev z)) (state (dev y)) (cnt x) one (subst (λ (k : ℕ). PlainOn (state (dev z)) (state (dev y)) k) count rest.0), rest.1 ∙ count)
        | inr stop ↦ absurd (cc stop.2)
      ]
