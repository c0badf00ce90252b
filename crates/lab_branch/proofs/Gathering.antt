-- A walk over the blocks of a card without a fault, which gathers the applications of its used blocks.
use Rattle.std.proofs.Common.{◌≡◌, ℕ, ◌+◌, ◌<◌, ◌≤◌, Bool, true, false, cond, ◌||◌, List, [], ◌∷◌, length, Option, Some, None, refl, sym, ◌∙◌, ap, subst, arith}
use Rattle.std.specs.Prelude.{◌==◌, slice_index, bytes_eq}
use Rattle.std.proofs.lemmas.Bool.{le-leb}
use Rattle.mc_words.specs.model_device.specs.Bytes.{be2, has_name, lookup, insert}
use Rattle.mc_words.specs.model_device.specs.Device.{IsSized}
use Rattle.mc_words.specs.model_device.specs.Card.{App, Block, word, header, blocks, name_at, app_at, apps_of, card_of, used_tag}
use Rattle.mc_words.specs.model_device.specs.Layout.{words_fault}
use Rattle.mc_words.specs.model_device.proofs.MapLemmas.{apart, insert_swap, lookup_beside}
use Rattle.mc_blocks.specs.Blocks.{block_within, blocks_at}
use Rattle.mc_blocks.proofs.Steps.{HeaderIs, header_is, blocks_step, blocks_all}
use Rattle.mc_blocks.proofs.Bridge.{AreNamed, named, faultless}
use Rattle.mc_blocks.proofs.Maps.{has_self, has_more}
use Rattle.mc_store.specs.Slots.{IsUsedBlock}
use Rattle.mc_store.proofs.WalkLemmas.{Walk, BlockStands, walk_begins, header_stands}
use Rattle.lab_branch.specs.Applications.{with_block}

-- entries with the applications of these blocks, one after the other
abbrev pub joined : List (List ℕ) → List Block → List (List ℕ × App) → List (List ℕ × App)
joined m [] es = es
joined m (b ∷ bs) es = joined m bs (with_block m b.used b.place es)

module _ (m : List (List ℕ)) where
  -- an insertion under a name that no block has may come first or last
  insert_joined : (bs : List Block) (names : List (List ℕ)) (es : List (List ℕ × App)) (n : List ℕ) (a : App) → has_name n names ≡ true → AreNamed m names bs → joined m bs (insert es n a) ≡ insert (joined m bs es) n a
  insert_joined [] names es n a there h = refl
  insert_joined (b ∷ bs) names es n a there h =
      let k = name_at m b.place in
      (elim b.used as (λ u. AreNamed m names (record b { used = u } ∷ bs) → joined m (record b { used = u } ∷ bs) (insert es n a) ≡ insert (joined m (record b { used = u } ∷ bs) es) n a) [
        | true ↦ λ h. ap (λ (fs : List (List ℕ × App)). joined m bs fs) (insert_swap es n a k (app_at m b.place) (apart names n k true there h.1))
            ∙ insert_joined bs (k ∷ names) (insert es k (app_at m b.place)) n a (has_more n k names there) h.2
        | false ↦ λ h. insert_joined bs names es n a there h
      ]) h

  -- the applications of all blocks, from none on
  joined_apps : (bs : List Block) (names : List (List ℕ)) → AreNamed m names bs → joined m bs [] ≡ apps_of m bs
  unfolding apps_of
  joined_apps [] names h = refl
  joined_apps (b ∷ bs) names h =
      let k = name_at m b.place in
      (elim b.used as (λ u. AreNamed m names (record b { used = u } ∷ bs) → joined m (record b { used = u } ∷ bs) [] ≡ apps_of m (record b { used = u } ∷ bs)) [
        | true ↦ λ h. insert_joined bs (k ∷ names) [] k (app_at m b.place) (has_self k names) h.2 ∙ ap (λ (es : List (List ℕ × App)). insert es k (app_at m b.place)) (joined_apps bs (k ∷ names) h.2)
        | false ↦ λ h. joined_apps bs names h
      ]) h

-- A walk has come to place p with these entries: those of the blocks that are left make them the applications of the
-- card, and no block that is left has a name of theirs.
pub record Gathers (m : List (List ℕ)) (p : ℕ) (es : List (List ℕ × App)) : Type 0 where
  pub walk : Walk m p (blocks_at m p)
  pub names : List (List ℕ)
  pub named : AreNamed m names (blocks_at m p)
  pub fresh : (n : List ℕ) → has_name n names ≡ false → lookup es n ≡ None
  pub rest : joined m (blocks_at m p) es ≡ (card_of m).apps

pub gathers_none : (m : List (List ℕ)) → IsSized m → words_fault m ≡ None → Gathers m 131 []
gathers_none m image good =
    let all : AreNamed m [] (blocks m) = named m (blocks m) [] 0 (faultless m good).records in
    record {
      walk = walk_begins m image good;
      names = [];
      named = subst (λ (bs : List Block). AreNamed m [] bs) (blocks_all m) all;
      fresh = λ n h. refl;
      rest = ap (λ (bs : List Block). joined m bs []) (sym (blocks_all m)) ∙ joined_apps m (blocks m) [] all;
    }

-- the block at a place, and those after it
record HereIs (m : List (List ℕ)) (p : ℕ) (used : Bool) (words : ℕ) : Type 0 where
  block : Block
  place : block.place ≡ p
  used_is : block.used ≡ used
  blocks_are : blocks_at m p ≡ block ∷ blocks_at m (p + words)

module _ (m : List (List ℕ)) where
  here_is : (p : ℕ) (bs : List Block) → p < length m → blocks_at m p ≡ bs → Walk m p bs → HereIs m p (slice_index (word m p) 0 == used_tag) (be2 (word m p) 2)
  here_is p [] lt e w = let end : p ≡ length m = w.tiled in absurd (omega (arith, end))
  here_is p (b ∷ bs) lt e w =
      let place : b.place ≡ p = w.tiled.0 in
      let read : header p (word m p) ≡ Some b = subst (λ (q : ℕ). header q (word m q) ≡ Some b) place w.read.0 in
      let h : HeaderIs p (word m p) b = header_is p (word m p) b read in
      let within : Some b ≡ block_within (length m) (header p (word m p)) =
      sym (ap (λ (o : Option Block). block_within (length m) o) read ∙ ap (λ (t : Bool). cond t (Some b) None) (le-leb (b.place + b.words) (length m) w.read.1)) in
      record {
        block = b;
        place = place;
        used_is = h.used;
        blocks_are = blocks_step m p b within ∙ ap (λ (q : ℕ). b ∷ blocks_at m (q + b.words)) place ∙ ap (λ (k : ℕ). b ∷ blocks_at m (p + k)) h.words;
      }

  -- what the rest is after a block
  record After (p : ℕ) (b : Block) (bs : List Block) (t : Bool) (es : List (List ℕ × App)) : Type 0 where
    names : List (List ℕ)
    named_after : AreNamed m names bs
    fresh_here : t ≡ true → lookup es (name_at m b.place) ≡ None
    fresh : (n : List ℕ) → has_name n names ≡ false → lookup (with_block m t b.place es) n ≡ None

  neither : (x y : Bool) → (x || y) ≡ false → (x ≡ false) × (y ≡ false)
  neither false false h = (refl, refl)
  neither false true h = absurd (cc h)
  neither true y h = absurd (cc h)

  after : (p : ℕ) (b : Block) (bs : List Block) (names : List (List ℕ)) (t : Bool) (es : List (List ℕ × App)) → AreNamed m names (record b { used = t } ∷ bs) → ((n : List ℕ) → has_name n names ≡ false → lookup es n ≡ None) → After p b bs t es
  after p b bs names false es h fresh = record { names = names; named_after = h; fresh_here = λ e. absurd (cc e); fresh = fresh }
  after p b bs names true es h fresh =
      let k = name_at m b.place in
      record {
        names = k ∷ names;
        named_after = h.2;
        fresh_here = λ e. fresh k h.1;
        fresh = λ n is. let both = neither (bytes_eq k n) (has_name n names) is in lookup_beside es k (app_at m b.place) n both.0 ∙ fresh n both.1;
      }

  -- the block at a place, and the walk after it
  pub record GathersNext (p : ℕ) (used : Bool) (words : ℕ) (es : List (List ℕ × App)) : Type 0 where
    pub low : 1 ≤ words
    pub high : p + words ≤ length m
    pub block : used ≡ true → IsUsedBlock m p
    pub fresh : used ≡ true → lookup es (name_at m p) ≡ None
    pub next : Gathers m (p + words) (with_block m used p es)

  next_of : (p : ℕ) (used : Bool) (words : ℕ) (es : List (List ℕ × App)) → Gathers m p es → BlockStands m p used words → HereIs m p used words → GathersNext p used words es
  next_of p used words es g s h =
      let rest = blocks_at m (p + words) in
      let here : AreNamed m g.names (h.block ∷ rest) = subst (λ (bs : List Block). AreNamed m g.names bs) h.blocks_are g.named in
      let a : After p h.block rest h.block.used es = after p h.block rest g.names h.block.used es here g.fresh in
      let is : with_block m h.block.used h.block.place es ≡ with_block m used p es = ap (λ (q : ℕ). with_block m h.block.used q es) h.place ∙ ap (λ (t : Bool). with_block m t p es) h.used_is in
      record {
        low = s.low;
        high = s.high;
        block = s.block;
        fresh = λ e. subst (λ (q : ℕ). lookup es (name_at m q) ≡ None) h.place (a.fresh_here (h.used_is ∙ e));
        next = record {
          walk = s.next;
          names = a.names;
          named = a.named_after;
          fresh = λ n k. ap (λ (fs : List (List ℕ × App)). lookup fs n) (sym is) ∙ a.fresh n k;
          rest = ap (λ (fs : List (List ℕ × App)). joined m rest fs) (sym is) ∙ ap (λ (bs : List Block). joined m bs es) (sym h.blocks_are) ∙ g.rest;
        };
      }

  -- that, of the header that was read
  pub gathers_next : (p : ℕ) (used : Bool) (words : ℕ) (es : List (List ℕ × App)) → p < length m → Gathers m p es → used ≡ (slice_index (word m p) 0 == used_tag) → words ≡ be2 (word m p) 2 → GathersNext p used words es
  gathers_next p used words es lt g u k =
      let h : HereIs m p used words = subst (λ (t : Bool). HereIs m p t words) (sym u) (subst (λ (n : ℕ). HereIs m p (slice_index (word m p) 0 == used_tag) n) (sym k) (here_is p (blocks_at m p) lt refl g.walk)) in
      next_of p used words es g (header_stands m p used words lt g.walk u k) h

  -- past the end no block is left
  none_left : (p : ℕ) (bs : List Block) → Walk m p bs → length m ≤ p → bs ≡ []
  none_left p [] w h = refl
  none_left p (b ∷ bs) w h =
      let place : b.place ≡ p = w.tiled.0 in
      let long : 1 ≤ b.words = w.tiled.1 in
      let end : b.place + b.words ≤ length m = w.read.1 in
      absurd (omega arith)

  pub gathers_all : (p : ℕ) (es : List (List ℕ × App)) → length m ≤ p → Gathers m p es → es ≡ (card_of m).apps
  gathers_all p es past g = ap (λ (bs : List Block). joined m bs es) (sym (none_left p (blocks_at m p) g.walk past)) ∙ g.rest
