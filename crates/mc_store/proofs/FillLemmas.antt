-- Bytes of a section set word by word: the parts of a piece, and what each write requires and leaves.
use Rattle.std.proofs.Common.{◌≡◌, ◌⊎◌, ℕ, zero, suc, ◌+◌, ◌-◌, ◌%◌, ◌/◌, ◌<◌, ◌≤◌, true, List, [], ◌∷◌, length, take, drop, map, Ok, Err, refl, sym, ◌∙◌, ap, subst, inl, inr, arith}
use Rattle.std.specs.Prelude.{OnOk}
use Rattle.std.proofs.lemmas.List.{length-drop, drop-drop, take_all, drop_all}
use Rattle.mc_bank.specs.model_card.specs.declared.card.Part.{Part}
use Rattle.mc_words.specs.model_device.specs.declared.device.Stop.{Stop}
use Rattle.mc_words.specs.model_device.specs.Orders.{Answer, InOrder}
use Rattle.mc_words.specs.model_device.specs.Bytes.{splice}
use Rattle.mc_words.specs.model_device.specs.Device.{DeviceState, IsSized, Wrote, Makes}
use Rattle.mc_words.specs.model_device.specs.Card.{App, Card, card_of, means, word}
use Rattle.mc_bank.specs.model_card.specs.Items.{Site, BankItem, Piece, Blank, Note}
use Rattle.mc_bank.specs.model_card.specs.Manager.{in_words, word_parts}
use Rattle.mc_bank.specs.Bank.{part_len}
use Rattle.mc_store.specs.Store.{apps_in, is_going, part_from, IsGoodIn, IsInWord, StoreDid}
use Rattle.mc_store.specs.GoingLaws.{Going, going_is, is_going_of}
use Rattle.mc_store.specs.CreationLaws.{at_site}
use Rattle.mc_store.specs.TurnLaws.{CardChanged, SiteBytes, site_bytes_of, turns, parted}
use Rattle.mc_words.specs.model_device.proofs.LayoutLemmas.{closed_means}
use Rattle.mc_store.proofs.SiteLemmas.{no_words}

-- ---- the parts of a piece

words_fuel : (n k at : ℕ) (b : List ℕ) → length b ≤ n → length b ≤ k → in_words n at b ≡ in_words k at b
words_fuel n k at [] hn hk = no_words n at ∙ sym (no_words k at)
words_fuel zero k at (y ∷ b) hn hk = absurd (omega arith)
words_fuel (suc n) zero at (y ∷ b) hn hk = absurd (omega arith)
words_fuel (suc n) (suc k) at (y ∷ b) hn hk =
    let j = 8 - at % 8 in
    let left = length-drop j (y ∷ b) in
    ap (λ (l : List (ℕ × List ℕ)). (at, take j (y ∷ b)) ∷ l) (words_fuel n k (at + j) (drop j (y ∷ b)) (omega (arith, left)) (omega (arith, left)))

-- the first part of some bytes, and those after it
pub parts_step : (at j : ℕ) (b : List ℕ) → 1 ≤ j → j ≤ length b → at % 8 + j ≤ 8 → (j ≡ length b) ⊎ (at % 8 + j ≡ 8) → word_parts at b ≡ (at, take j b) ∷ word_parts (at + j) (drop j b)
parts_step at j [] some few fits least = absurd (omega arith)
parts_step at j (y ∷ ys) some few fits least = grind (arith, length-drop, drop_all, take_all, no_words, words_fuel)

-- the items of a piece
abbrev pub piece_items : Site → Part → ℕ → List ℕ → List BankItem
piece_items s p at b = map (λ c. Piece s p c.0 c.1) (word_parts at b)

pub piece_step : (s : Site) (p : Part) (at j : ℕ) (b : List ℕ) → 1 ≤ j → j ≤ length b → at % 8 + j ≤ 8 → (j ≡ length b) ⊎ (at % 8 + j ≡ 8) → piece_items s p at b ≡ Piece s p at (take j b) ∷ piece_items s p (at + j) (drop j b)
piece_step s p at j b some few fits least = ap (λ (l : List (ℕ × List ℕ)). map (λ (c : ℕ × List ℕ). Piece s p c.0 c.1) l) (parts_step at j b some few fits least)

-- the parts from one on, as a loop has them
pub piece_next : (s : Site) (p : Part) (at done j : ℕ) (b : List ℕ) → done < length b → 1 ≤ j → j ≤ length b - done → (at + done) % 8 + j ≤ 8 → (j ≡ length b - done) ⊎ ((at + done) % 8 + j ≡ 8)
    → piece_items s p (at + done) (drop done b) ≡ Piece s p (at + done) (take (done + j - done) (drop done b)) ∷ piece_items s p (at + (done + j)) (drop (done + j) b)
piece_next s p at done j b lt some few fits least =
    let left = length-drop done b in
    let same : j ≡ done + j - done = omega arith in
    piece_step s p (at + done) j (drop done b) some (omega (arith, few, left)) fits (elim least [ inl all ↦ inl (all ∙ sym left) | inr full ↦ inr full ])
    ∙ ap (λ (n : ℕ). Piece s p (at + done) (take n (drop done b)) ∷ piece_items s p (at + done + j) (drop j (drop done b))) same
    ∙ ap (λ (n : ℕ). Piece s p (at + done) (take (done + j - done) (drop done b)) ∷ piece_items s p n (drop j (drop done b))) (let e : at + done + j ≡ at + (done + j) = omega arith in e)
    ∙ ap (λ (l : List ℕ). Piece s p (at + done) (take (done + j - done) (drop done b)) ∷ piece_items s p (at + (done + j)) l) (drop-drop j done b)

-- ---- items in order

-- what is left of some items leads where all of them lead
pub record ItemsLead {S : Type 0} (one : S → BankItem → Answer → S → Type 0) (start : S) (all : List BankItem) (now : S) (left : List BankItem) : Type 0 where
  pub rest : (a : Answer) (e : S) → InOrder one now left a e → InOrder one start all a e

module _ {S : Type 0} (one : S → BankItem → Answer → S → Type 0) where
  pub leads_on : (start now next : S) (all left rest : List BankItem) (i : BankItem) → ItemsLead one start all now left → left ≡ i ∷ rest → one now i (Ok tt) next → ItemsLead one start all next rest
  leads_on start now next all left rest i leads is did =
      record { rest = λ a e h. leads.rest a e (subst (λ (l : List BankItem). InOrder one now l a e) (sym is) (inl (next, did, h))) }

  pub leads_stop : (start now e : S) (all left rest : List BankItem) (i : BankItem) (s : Stop) → ItemsLead one start all now left → left ≡ i ∷ rest → one now i (Err s) e → InOrder one start all (Err s) e
  leads_stop start now e all left rest i s leads is did = leads.rest (Err s) e (subst (λ (l : List BankItem). InOrder one now l (Err s) e) (sym is) (inr (s, did, refl)))

-- ---- one write

pub site_word : (d : DeviceState) (c : ℕ) (s : Site) (p : Part) (at n : ℕ) → IsSized d.words → is_going d c ≡ true → IsGoodIn d.words s → IsInWord (part_len p s.sizes) at n → part_from p s.sizes s.place + at / 8 < length d.words
site_word d c s p at n image going good i =
    grind (arith, going_is d c going, at_site d.words s image (going_is d c going).closed (site_bytes_of d c (going_is d c going)).well good, parted p s.sizes s.place at n good.limits i)

pub power_on : (d : DeviceState) (c : ℕ) → is_going d c ≡ true → d.on ≡ true
power_on d c going = (going_is d c going).on

-- a card that stays, on a store that goes on
pub record PlainOn (d e : DeviceState) (c : ℕ) : Type 0 where
  pub going : is_going e c ≡ true
  pub means : means e.words ≡ means d.words
  pub cuts : e.cuts ≡ d.cuts
  pub faults : e.faults ≡ d.faults

pub plain_on : (d e : DeviceState) (c : ℕ) → is_going d c ≡ true → CardChanged d (apps_in d.words) e c → PlainOn d e c
plain_on d e c going t =
    let g : Going d c = going_is d c going in
    let s : SiteBytes d.words = site_bytes_of d c g in
    let same : card_of e.words ≡ card_of d.words = t.card ∙ ap (λ (es : List (List ℕ × App)). record (card_of d.words) { apps = es }) s.map in
    record {
      going = is_going_of e c (record { on = t.ended.0; closed = t.closed; laid = t.good; layout = ap (λ (x : Card). x.layout) same ∙ g.layout; count = g.count ∙ sym (ap (λ (x : Card). length x.apps) same) });
      means = closed_means e.words t.closed ∙ same ∙ sym (closed_means d.words g.closed);
      cuts = t.ended.1;
      faults = t.ended.2;
    }

pub good_on : (d e : DeviceState) (c : ℕ) (s : Site) → PlainOn d e c → IsGoodIn d.words s → IsGoodIn e.words s
good_on d e c s on good = grind arith

module _ {D : Type 0} (state : D → DeviceState) (wrote : D → ℕ → List ℕ → Answer → D → Type 0)
    (obeys : (d : D) (at : ℕ) (w : List ℕ) (a : Answer) (e : D) → (state d).on ≡ true → wrote d at w a e → Wrote (state d) at w a (state e)) where
  one_write : (d e : D) (at : ℕ) (w : List ℕ) (a : Answer) → wrote d at w a e → Makes wrote d ((at, w) ∷ []) a e
  one_write d e at w (Ok u) h = inl (e, h, refl)
  one_write d e at w (Err s) h = inr (s, h, refl)

  pub piece_did : (d e : D) (c : ℕ) (s : Site) (p : Part) (at from : ℕ) (b : List ℕ) (a : Answer) → IsSized (state d).words → is_going (state d) c ≡ true → IsGoodIn (state d).words s → IsInWord (part_len p s.sizes) at (length b) → from ≡ part_from p s.sizes s.place
      → wrote d (from + at / 8) (splice (word (state d).words (from + at / 8)) (at % 8) b) a e → StoreDid state wrote d c (Piece s p at b) a e c
  piece_did d e c s p at from b a image going good i is made = grind (arith, one_write)

  -- a piece that was done leaves the card
  pub piece_on : (d e : D) (c : ℕ) (s : Site) (p : Part) (at : ℕ) (b : List ℕ) → StoreDid state wrote d c (Piece s p at b) (Ok tt) e c → PlainOn (state d) (state e) c
  piece_on d e c s p at b did = plain_on (state d) (state e) c did.going (turns state wrote obeys (Piece s p at b) d e c c (Ok tt) did)

  pub blank_on : (d e : D) (c : ℕ) (s : Site) (at n : ℕ) → StoreDid state wrote d c (Blank s at n) (Ok tt) e c → PlainOn (state d) (state e) c
  blank_on d e c s at n did = plain_on (state d) (state e) c did.going (turns state wrote obeys (Blank s at n) d e c c (Ok tt) did)

  pub note_on : (d e : D) (c : ℕ) (s : Site) (n : List ℕ) (i : ℕ) → StoreDid state wrote d c (Note s n i) (Ok tt) e c → PlainOn (state d) (state e) c
  note_on d e c s n i did = plain_on (state d) (state e) c did.going (turns state wrote obeys (Note s n i) d e c c (Ok tt) did)

  piece_going_by : (d e : D) (c : ℕ) (s : Site) (p : Part) (at : ℕ) (b : List ℕ) (a : Answer) → StoreDid state wrote d c (Piece s p at b) a e c → OnOk a (is_going (state e) c ≡ true)
  piece_going_by d e c s p at b (Ok tt) did = (piece_on d e c s p at b did).going
  piece_going_by d e c s p at b (Err t) did = tt

  pub piece_going : (d e : D) (c : ℕ) (s : Site) (p : Part) (at : ℕ) (b : List ℕ) (a : Answer) → StoreDid state wrote d c (Piece s p at b) a e c → OnOk a (is_going (state e) c ≡ true)
  piece_going d e c s p at b a did = piece_going_by d e c s p at b a did

  pub piece_good : (d e : D) (c : ℕ) (s : Site) (p : Part) (at : ℕ) (b : List ℕ) (a : Answer) → IsGoodIn (state d).words s → StoreDid state wrote d c (Piece s p at b) a e c → OnOk a (IsGoodIn (state e).words s)
  piece_good d e c s p at b (Ok tt) good did = good_on (state d) (state e) c s (piece_on d e c s p at b did) good
  piece_good d e c s p at b (Err t) good did = tt
