-- What a commit of static words makes of a card, and of its holes.
use Rattle.std.proofs.Common.{◌≡◌, ◌≢◌, ◌⊎◌, ℕ, ◌+◌, ◌<◌, ◌≤◌, true, List, [], ◌∷◌, length, map, Some, None, refl, sym, ◌∙◌, ap, subst, inl, inr, arith}
use Rattle.std.specs.Prelude.{nat_le, nat_lt, ◌==◌, ◌&&◌}
use Rattle.std.specs.List.{AllByRecursion}
use Rattle.std.proofs.lemmas.List.{length-map}
use Rattle.std.proofs.lemmas.Bool.{le-leb, lt-ltb, and_from, or_right}
use Rattle.mc_words.specs.model_device.specs.Bytes.{up, lookup, insert}
use Rattle.mc_words.specs.model_device.specs.Device.{IsSized}
use Rattle.mc_words.specs.model_device.specs.Image.{within, ascend, image_with}
use Rattle.mc_words.specs.model_device.specs.Stopped.{IsAtomic}
use Rattle.mc_words.specs.model_device.specs.Pieces.{Ascend, numbers, laid_words}
use Rattle.mc_words.specs.model_device.specs.Card.{App, Card, Block, word, card_of}
use Rattle.mc_words.specs.model_device.specs.Layout.{gaps, words_fault}
use Rattle.mc_words.specs.model_device.proofs.ImageLemmas.{laid_other, length_laid}
use Rattle.mc_bank.specs.Bank.{CanCommit, with_words}
use Rattle.mc_blocks.specs.Blocks.{hole_spans, used_spans}
use Rattle.mc_blocks.specs.Plans.{has_room}
use Rattle.mc_blocks.proofs.Bridge.{WellLaid, laid as laid-blocks}
use Rattle.mc_store.specs.Store.{static_writes}
use Rattle.mc_blocks.proofs.Splices.{SectionLaid, section_laid}
use Rattle.mc_blocks.proofs.Statics.{static_from, Restated, Restates, restates, StaticIn, static_in}

-- pairs of a word's number from q on and a word
abbrev pub placed_words : ℕ → List (ℕ × List ℕ) → List (ℕ × List ℕ)
placed_words q ws = map (λ w. (q + w.0, w.1)) ws

-- no word of the list is at a place before or after its range
apart_words : (q n i : ℕ) (ws : List (ℕ × List ℕ)) → AllByRecursion (λ w. w.0 < n) ws → (i < q) ⊎ (q + n ≤ i) → AllByRecursion (λ p. p.0 ≢ i) (placed_words q ws)
apart_words q n i [] a out = tt
apart_words q n i (w ∷ ws) a out = let lt : w.0 < n = a.0 in ((λ e. absurd (omega (arith, e, out))), apart_words q n i ws a.1 out)

static_ascend : (size q n least k : ℕ) (ws : List (ℕ × List ℕ)) → 131 ≤ q → q + n ≤ size → least ≤ q + k → Ascend k (numbers ws) → AllByRecursion (λ w. w.0 < n) ws → ascend size least (map (λ p. p.0) (placed_words q ws)) ≡ true
static_ascend size q n least k [] heap ends low up all = refl
static_ascend size q n least k (w ∷ ws) heap ends low up all =
    let lt : w.0 < n = all.0 in
    let first : k ≤ w.0 = up.0 in
    let t = q + w.0 in
    and_from (nat_le least t) (within size t && ascend size (t + 1) (map (λ p. p.0) (placed_words q ws))) (le-leb least t (omega arith))
    (and_from (within size t) (ascend size (t + 1) (map (λ p. p.0) (placed_words q ws)))
    (or_right (t == 0) (nat_le 131 t && nat_lt t size) (and_from (nat_le 131 t) (nat_lt t size) (le-leb 131 t (omega arith)) (lt-ltb t size (omega arith))))
    (static_ascend size q n (t + 1) (w.0 + 1) ws heap ends (omega arith) up.1 all.1))

-- the words with the commit, as a card
pub record CommittedCard (m : List (List ℕ)) (k : List ℕ) (a : App) (ws : List (ℕ × List ℕ)) : Type 0 where
  pub atomic : IsAtomic (length m) (static_writes a ws)
  pub image : IsSized (image_with m (static_writes a ws))
  pub good : words_fault (image_with m (static_writes a ws)) ≡ None
  pub card : card_of (image_with m (static_writes a ws)) ≡ record (card_of m) { apps = insert (card_of m).apps k (with_words ws a) }
  pub left : gaps (card_of (image_with m (static_writes a ws))) ≡ gaps (card_of m)
  pub count : length (insert (card_of m).apps k (with_words ws a)) ≡ length (card_of m).apps
  pub holes : (p need i : ℕ) → has_room p need (gaps (card_of m)) ≡ true → p ≤ i → i < p + need → word (image_with m (static_writes a ws)) i ≡ word m i

pub commits : (m : List (List ℕ)) (k : List ℕ) (a : App) (ws : List (ℕ × List ℕ)) → IsSized m → words_fault m ≡ None → lookup (card_of m).apps k ≡ Some a → CanCommit a.fixed ws → CommittedCard m k a ws
commits m k a ws image good there can =
    let list = static_writes a ws in
    let t = image_with m list in
    let q = static_from a in
    let n = up (length a.fixed) 8 in
    let s : StaticIn m k a = static_in m k a image good there in
    let low : 131 ≤ a.place = s.low in
    let l : SectionLaid m q (length a.fixed) ws = section_laid m q (length a.fixed) ws image s.ends (ap length s.bytes) can.within can.pending.whole in
    let other = λ (i : ℕ) (out : (i < q) ⊎ (q + n ≤ i)). laid_other m list i (apart_words q n i ws l.numbers out) in
    let r : Restated m t a (with_words ws a).fixed = record { size = length_laid m list; words = λ i heap out. other i out; bytes = l.bytes ∙ ap (λ (f : List ℕ). laid_words f ws) s.bytes } in
    let c : Restates m t k a (with_words ws a).fixed = restates m t k a (with_words ws a).fixed image good there (other 0 (inl (omega arith))) r in
    let before : WellLaid m = laid-blocks m image good in
    let after : WellLaid t = laid-blocks t l.image c.good in
    let same : gaps (card_of t) ≡ gaps (card_of m) = after.gaps ∙ ap hole_spans c.blocks ∙ sym before.gaps in
    let size : length list ≡ length ws = length-map {A = ℕ × List ℕ} {B = ℕ × List ℕ} ws (λ w. (q + w.0, w.1)) in
    let some : 1 ≤ length ws = can.some in
    let few : length ws ≤ 64 = can.few in
    record {
      atomic = record { low = omega (arith, size); high = omega (arith, size); targets = static_ascend (length m) q n 0 0 ws (omega arith) s.ends (omega arith) can.pending.ascending l.numbers };
      image = l.image;
      good = c.good;
      card = c.card;
      left = same;
      count = sym (ap (λ (x : Card). length x.apps) c.card) ∙ after.apps ∙ ap (λ (bs : List Block). length (used_spans bs)) c.blocks ∙ sym before.apps;
      holes = λ p need i room from below.
          other i (elim (s.apart p need (subst (λ (x : List (ℕ × ℕ)). has_room p need x ≡ true) before.gaps room)) [ inl ahead ↦ inl (omega (arith, ahead)) | inr past ↦ inr (omega (arith, past)) ]);
    }
