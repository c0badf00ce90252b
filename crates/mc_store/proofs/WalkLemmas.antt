-- A walk over the blocks of words without a fault, one header after another.
use Rattle.std.proofs.Common.{◌≡◌, ℕ, ◌+◌, ◌<◌, ◌≤◌, Bool, true, false, ◌&&◌, List, [], ◌∷◌, length, Option, Some, None, refl, sym, ◌∙◌, ap, subst, arith, cond, not}
use Rattle.std.specs.Prelude.{◌==◌, slice_index, bytes_eq}
use Rattle.std.proofs.lemmas.Bool.{le-leb}
use Rattle.mc_words.specs.model_device.specs.Bytes.{be2}
use Rattle.mc_words.specs.model_device.specs.Device.{IsSized}
use Rattle.mc_words.specs.model_device.specs.Card.{Block, word, header, blocks, name_at, used_tag}
use Rattle.mc_words.specs.model_device.specs.Layout.{words_fault}
use Rattle.mc_blocks.specs.Blocks.{block_within, blocks_at}
use Rattle.mc_blocks.proofs.Steps.{HeaderIs, header_is, blocks_step, blocks_all}
use Rattle.mc_blocks.proofs.Tiles.{Tiled, HeadersRead}
use Rattle.mc_blocks.proofs.Bridge.{WellLaid, laid, AreRecorded, recorded, named, faultless}
use Rattle.mc_store.specs.Slots.{first_named, IsUsedBlock}

-- the rest of the walk from place p on
pub record Walk (m : List (List ℕ)) (p : ℕ) (bs : List Block) : Type 0 where
  pub after : Bool
  pub tiled : Tiled p after bs (length m)
  pub read : HeadersRead m bs
  pub records : AreRecorded m bs

pub walk_begins : (m : List (List ℕ)) → IsSized m → words_fault m ≡ None → Walk m 131 (blocks_at m 131)
walk_begins m image h =
    let l : WellLaid m = laid m image h in
    subst (λ (bs : List Block). Walk m 131 bs) (blocks_all m)
    (record { after = false; tiled = l.tiled; read = l.read; records = recorded m [] (blocks m) (named m (blocks m) [] 0 (faultless m h).records) })

-- the block at place p: its header, and the walk after it
pub record BlockStands (m : List (List ℕ)) (p : ℕ) (used : Bool) (words : ℕ) : Type 0 where
  pub low : 1 ≤ words
  pub high : p + words ≤ length m
  pub block : used ≡ true → IsUsedBlock m p
  pub next : Walk m (p + words) (blocks_at m (p + words))
  pub first : (n : List ℕ) → first_named m (blocks_at m p) n ≡ cond (used && bytes_eq (name_at m p) n) (Some p) (first_named m (blocks_at m (p + words)) n)

module _ (m : List (List ℕ)) where
  first_is : (b : Block) (bs : List Block) (n : List ℕ) → first_named m (b ∷ bs) n ≡ cond (b.used && bytes_eq (name_at m b.place) n) (Some b.place) (first_named m bs n)
  unfolding first_named
  first_is b bs n = refl

  fits_here : (b : Block) → header b.place (word m b.place) ≡ Some b → b.place + b.words ≤ length m → Some b ≡ block_within (length m) (header b.place (word m b.place))
  fits_here b e h = sym (ap (λ (o : Option Block). block_within (length m) o) e ∙ ap (λ (t : Bool). cond t (Some b) None) (le-leb (b.place + b.words) (length m) h))

  stands : (b : Block) (bs : List Block) → blocks_at m b.place ≡ b ∷ bs → Walk m b.place (b ∷ bs) → BlockStands m b.place b.used b.words
  stands b bs e w =
      let step : blocks_at m b.place ≡ b ∷ blocks_at m (b.place + b.words) = blocks_step m b.place b (fits_here b w.read.0 w.read.1) in
      let both : b ∷ bs ≡ b ∷ blocks_at m (b.place + b.words) = sym e ∙ step in
      let rest : bs ≡ blocks_at m (b.place + b.words) = cc in
      let tail : Walk m (b.place + b.words) bs = record { after = not b.used; tiled = w.tiled.3; read = w.read.2; records = w.records.1 } in
      record {
        low = w.tiled.1;
        high = w.read.1;
        block = λ h. record { words = b.words; good = w.records.0 h; end = w.read.1 };
        next = subst (λ (l : List Block). Walk m (b.place + b.words) l) rest tail;
        first = λ n. ap (λ (l : List Block). first_named m l n) step ∙ first_is b (blocks_at m (b.place + b.words)) n;
      }

  stands_at : (p : ℕ) (b : Block) (bs : List Block) → b.place ≡ p → blocks_at m p ≡ b ∷ bs → Walk m p (b ∷ bs) → BlockStands m p b.used b.words
  stands_at p b bs place e w =
      subst (λ (q : ℕ). BlockStands m q b.used b.words) place
      (stands b bs (ap (λ (q : ℕ). blocks_at m q) place ∙ e) (subst (λ (q : ℕ). Walk m q (b ∷ bs)) (sym place) w))

  stands_by : (p : ℕ) (bs : List Block) → p < length m → blocks_at m p ≡ bs → Walk m p bs → BlockStands m p (slice_index (word m p) 0 == used_tag) (be2 (word m p) 2)
  stands_by p [] lt e w = let end : p ≡ length m = w.tiled in absurd (omega (arith, end))
  stands_by p (b ∷ bs) lt e w =
      let place : b.place ≡ p = w.tiled.0 in
      let read : header p (word m p) ≡ Some b = subst (λ (q : ℕ). header q (word m q) ≡ Some b) place w.read.0 in
      let h : HeaderIs p (word m p) b = header_is p (word m p) b read in
      subst (λ (u : Bool). BlockStands m p u (be2 (word m p) 2)) h.used (subst (λ (k : ℕ). BlockStands m p b.used k) h.words (stands_at p b bs place e w))

  block_stands : (p : ℕ) → p < length m → Walk m p (blocks_at m p) → BlockStands m p (slice_index (word m p) 0 == used_tag) (be2 (word m p) 2)
  block_stands p lt w = stands_by p (blocks_at m p) lt refl w

  -- that, of the header that was read
  pub header_stands : (p : ℕ) (used : Bool) (words : ℕ) → p < length m → Walk m p (blocks_at m p) → used ≡ (slice_index (word m p) 0 == used_tag) → words ≡ be2 (word m p) 2 → BlockStands m p used words
  header_stands p used words lt w u k =
      subst (λ (t : Bool). BlockStands m p t words) (sym u) (subst (λ (n : ℕ). BlockStands m p (slice_index (word m p) 0 == used_tag) n) (sym k) (block_stands p lt w))

  -- past the end no block has the name
  none_left : (p : ℕ) (bs : List Block) (n : List ℕ) → Walk m p bs → length m ≤ p → first_named m bs n ≡ None
  unfolding first_named
  none_left p [] n w h = refl
  none_left p (b ∷ bs) n w h =
      let place : b.place ≡ p = w.tiled.0 in
      let long : 1 ≤ b.words = w.tiled.1 in
      let end : b.place + b.words ≤ length m = w.read.1 in
      absurd (omega arith)

  pub walk_ends : (p : ℕ) (n : List ℕ) → Walk m p (blocks_at m p) → length m ≤ p → first_named m (blocks_at m p) n ≡ None
  walk_ends p n w h = none_left p (blocks_at m p) n w h
