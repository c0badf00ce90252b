-- Setting words of a used block after its record.
use Rattle.std.proofs.Common.{◌≡◌, ◌≢◌, ℕ, ◌+◌, ◌<◌, ◌≤◌, Bool, true, false, ◌||◌, List, [], ◌∷◌, length, None, refl, sym, ◌∙◌, ap, subst, inl, inr, arith, cond, not}
use Rattle.std.specs.Prelude.{slice_index}
use Rattle.std.proofs.lemmas.Bool.{cases_eq, ne_eqb}
use Rattle.mc_words.specs.model_device.specs.Bytes.{be2, insert, has_name}
use Rattle.mc_words.specs.model_device.specs.Image.{Closed, look}
use Rattle.mc_words.specs.model_device.specs.Device.{IsSized}
use Rattle.mc_words.specs.model_device.specs.Card.{App, Card, Block, word, blocks, means, record_at, name_in, name_at, app_at, apps_of, card_of}
use Rattle.mc_words.specs.model_device.specs.Layout.{spans, IsWellLaid, words_fault}
use Rattle.mc_blocks.specs.Blocks.{used_spans}
use Rattle.mc_blocks.specs.Outcomes.{HoldsApplications, AgreeBut}
use Rattle.mc_blocks.specs.Plans.{has_span}
use Rattle.mc_blocks.proofs.Tiles.{Tiled}
use Rattle.mc_blocks.proofs.Maps.{has_self}
use Rattle.mc_blocks.proofs.Bridge.{WellLaid, AreNamed, named, used_above, Faultless, faultless, recorded, laid}
use Rattle.mc_blocks.proofs.Plans.{spans_are}
use Rattle.mc_blocks.proofs.Freeing.{span_from}
use Rattle.mc_blocks.proofs.Built.{HoldsBlocks, root_kept, card_parts, kept_blocks}
use Rattle.mc_blocks.proofs.Cards.{name_behind, first_name}
use Rattle.mc_words.specs.model_device.proofs.MapLemmas.{other_way, insert_twice}
use Rattle.mc_words.specs.model_device.proofs.LayoutLemmas.{closed_fault, closed_means}
use Rattle.mc_blocks.proofs.Same.{SameUsed, SameApplications, same_named, ApplicationInserted, inserted_kind, named_as, agree_read, agree_used}

-- the block whose words are set
set_here : (m n : List (List ℕ)) (p q : ℕ) (a : Bool) (names : List (List ℕ)) (b : Block) (bs : List Block) (end : ℕ) (u : Bool) → b.place ≡ p → p < q → Tiled q a bs end → SameUsed m n p bs → record_at n p ≡ record_at m p
    → has_span p (used_spans (record b { used = u } ∷ bs)) ≡ true → AreNamed m names (record b { used = u } ∷ bs) → ApplicationInserted m n names (name_at m p) (app_at n p) (record b { used = u } ∷ bs) (record b { used = u } ∷ bs)
unfolding apps_of
set_here m n p q a names b bs end false place lt t s e span nm = let far : q ≤ p = span_from q p (used_spans bs) (used_above q a bs end t) span in absurd (omega arith)
set_here m n p q a names b bs end true place lt t s e span nm =
    let x = name_at m b.place in
    let entry : record_at n b.place ≡ record_at m b.place = ap (λ (r : ℕ). record_at n r) place ∙ e ∙ ap (λ (r : ℕ). record_at m r) (sym place) in
    let same : SameApplications m n (x ∷ names) bs = same_named m n p q a (x ∷ names) bs end lt t s nm.2 in
    record {
      named = named_as m n names b bs entry nm.0 nm.1 same.named;
      apps = ap (λ (r : List ℕ). insert (apps_of n bs) (name_in r) (app_at n b.place)) entry
          ∙ ap (λ (es : List (List ℕ × App)). insert es x (app_at n b.place)) same.apps
          ∙ sym (insert_twice (apps_of m bs) x (app_at m b.place) (app_at n b.place))
          ∙ ap (λ (r : ℕ). insert (insert (apps_of m bs) x (app_at m b.place)) (name_at m r) (app_at n r)) place;
    }

pub later_span : (p : ℕ) (b : Block) (us : List (ℕ × ℕ)) (u : Bool) → b.place ≢ p → has_span p (cond u ((b.place, b.words) ∷ us) us) ≡ true → has_span p us ≡ true
later_span p b us true ne h = sym (ap (λ (t : Bool). t || has_span p us) (ne_eqb b.place p ne)) ∙ h
later_span p b us false ne h = h

pub set_all : (m n : List (List ℕ)) (p q : ℕ) (a : Bool) (names : List (List ℕ)) (bs : List Block) (end : ℕ) → Tiled q a bs end → AreNamed m names bs → SameUsed m n p bs → has_span p (used_spans bs) ≡ true → record_at n p ≡ record_at m p
    → has_name (name_at m p) names ≡ false → ApplicationInserted m n names (name_at m p) (app_at n p) bs bs
set_all m n p q a names [] end t nm s span e fresh = absurd (cc span)
set_all m n p q a names (b ∷ bs) end t nm s span e fresh =
    let place : b.place ≡ q = t.0 in
    let long : 1 ≤ b.words = t.1 in
    let x = name_at m b.place in
    elim (cases_eq b.place p) [
      | inl here ↦ set_here m n p (q + b.words) (not b.used) names b bs end b.used here (omega (arith, here, place)) t.3 s.1 e span nm
      | inr ne ↦
          let later : has_span p (used_spans bs) ≡ true = later_span p b (used_spans bs) b.used ne span in
          inserted_kind m n names (name_at m p) (app_at n p) b bs bs b.used fresh (λ u. other_way (name_at m p) x (name_behind m p x (x ∷ names) bs (has_self x names) (first_name m names b bs b.used nm u) later)) (λ u. s.0 u ne) nm
          (λ ns no ok. set_all m n p (q + b.words) (not b.used) ns bs end t.3 ok s.1 later e no)
    ]

-- words n have no fault, and hold the card of m but for the application of the block at p
pub record BlockSet (m n : List (List ℕ)) (p : ℕ) : Type 0 where
  pub good : words_fault n ≡ None
  pub blocks : blocks n ≡ blocks m
  pub card : card_of n ≡ record (card_of m) { apps = insert (card_of m).apps (name_at m p) (app_at n p) }

pub set_block : (m n : List (List ℕ)) (p : ℕ) → IsSized m → words_fault m ≡ None → has_span p (used_spans (blocks m)) ≡ true → length n ≡ length m → word n 0 ≡ word m 0 → AgreeBut m n p (blocks m) → record_at n p ≡ record_at m p → BlockSet m n p
set_block m n p image h span size same agree entry =
    let f : Faultless m = faultless m h in
    let l : WellLaid m = laid m image h in
    let bs = blocks m in
    let names : AreNamed m [] bs = named m bs [] 0 f.records in
    let c : ApplicationInserted m n [] (name_at m p) (app_at n p) bs bs = set_all m n p 131 false [] bs (length m) l.tiled names (agree_used m n p bs size l.read (recorded m [] bs names) agree) span entry refl in
    let s : HoldsBlocks n bs = kept_blocks m n image h size (root_kept m n f.root size same) (ap (λ (x : List ℕ). be2 x 6) same) (agree_read m n p bs size l.read agree) c.named in
    record {
      good = s.good;
      blocks = s.blocks;
      card = card_parts n m (insert (apps_of m bs) (name_at m p) (app_at n p)) size (ap (λ (x : List ℕ). slice_index x 3) same) (ap (λ (x : List Block). apps_of n x) s.blocks ∙ c.apps);
    }

-- after words of one used block are set after its record, the card has the application that the block then holds
pub sets : (m n : List (List ℕ)) (p : ℕ) → IsSized m → look m ≡ Closed → IsWellLaid m → has_span p (spans (means m)) ≡ true → length n ≡ length m → word n 0 ≡ word m 0 → AgreeBut m n p (blocks m) → record_at n p ≡ record_at m p
    → HoldsApplications m n (insert (means m).apps (name_at m p) (app_at n p))
sets m n p image closed h span size same agree entry =
    let there : has_span p (used_spans (blocks m)) ≡ true = subst (λ (x : List (ℕ × ℕ)). has_span p x ≡ true) (spans_are m image closed h) span in
    let s : BlockSet m n p = set_block m n p image (sym (closed_fault m closed) ∙ h) there size same agree entry in
    record { laid = s.good; card = subst (λ (c : Card). card_of n ≡ record c { apps = insert c.apps (name_at m p) (app_at n p) }) (sym (closed_means m closed)) s.card }
