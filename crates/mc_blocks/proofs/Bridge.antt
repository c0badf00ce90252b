-- On a well laid image the holes of the walk are the gaps of the card, and its used blocks are the card's spans.
use Rattle.std.proofs.Common.{◌≡◌, ℕ, ◌+◌, ◌<◌, ◌≤◌, Bool, true, false, List, [], ◌∷◌, length, Option, Some, None, refl, sym, ◌∙◌, ap, subst, arith, cond, not}
use Rattle.std.specs.Prelude.{MatchBool}
use Rattle.std.proofs.lemmas.Bool.{and_parts, eqb-true, not-true, ltb-true}
use Rattle.mc_words.specs.model_device.specs.Bytes.{has_name, insert}
use Rattle.mc_words.specs.model_device.specs.Image.{Closed, look}
use Rattle.mc_words.specs.model_device.specs.Device.{IsSized}
use Rattle.mc_words.specs.model_device.specs.Card.{App, Block, blocks, record_at, name_at, app_at, apps_of, card_of, words_of_app, heap_start}
use Rattle.mc_words.specs.model_device.specs.Layout.{spans, spans_of, gaps, gaps_from, put_at, no_root, is_record, bad_block, bad_record, bad_chain, words_fault, IsWellLaid}
use Rattle.mc_blocks.specs.Chains.{SpansAbove}
use Rattle.mc_blocks.specs.Blocks.{used_spans, hole_spans, is_admissible}
use Rattle.mc_blocks.proofs.Sections.{length_section}
use Rattle.mc_blocks.proofs.Steps.{blocks_all}
use Rattle.mc_blocks.proofs.Headers.{bad_all}
use Rattle.mc_blocks.proofs.Tiles.{Tiled, HeadersRead, BlocksWalked, all_walked, gaps_are_holes}
use Rattle.mc_blocks.proofs.Maps.{put_front, above_weaker, Free, spans_insert, free_insert, names_apart, has_self, has_more}
use Rattle.mc_words.specs.model_device.proofs.BoolLemmas.{or_else_none}
use Rattle.mc_words.specs.model_device.proofs.LayoutLemmas.{cause_none, closed_fault, length_spans}

-- ---- the parts of a fault

-- words without a fault
pub record Faultless (m : List (List ℕ)) : Type 0 where
  pub root : no_root m ≡ None
  pub headers : bad_block (length m) m heap_start false ≡ None
  pub records : bad_record m (blocks m) [] 0 ≡ None
  pub chain : bad_chain m (blocks m) ≡ None

pub faultless : (m : List (List ℕ)) → words_fault m ≡ None → Faultless m
faultless m h =
    let first = or_else_none _ _ h in
    let second = or_else_none _ _ first.1 in
    let third = or_else_none _ _ second.1 in
    record { root = cause_none _ _ first.0; headers = cause_none _ _ second.0; records = cause_none _ _ third.0; chain = cause_none _ _ third.1 }

-- a block whose record is good takes the words that its application needs
needed_is : (m : List (List ℕ)) (p words : ℕ) → IsSized m → is_record (record_at m p) words ≡ true → p + words ≤ length m → words_of_app (app_at m p) ≡ words
needed_is m p words image good h = grind (arith, eqb-true, and_parts, length_section)

-- ---- the records of a walk

-- each record is good, and its name is none of these and none of a record before it
abbrev pub AreNamed : List (List ℕ) → List (List ℕ) → List Block → Type 0
AreNamed m names [] = Unit {0}
AreNamed m names (b ∷ bs) = MatchBool b.used
    ((is_record (record_at m b.place) b.words ≡ true) × (has_name (name_at m b.place) names ≡ false) × AreNamed m (name_at m b.place ∷ names) bs)
    (AreNamed m names bs)

-- a condition that lets a search pass holds, and the rest of the search finds nothing
pub passed : (t : Bool) (x : Option ℕ) (p : ℕ) → cond t x (Some p) ≡ None → (t ≡ true) × (x ≡ None)
passed true x p h = (refl, h)
passed false x p h = absurd (cc h)

-- a block that is admitted among the records has a good record and a new name
pub admitted : (m : List (List ℕ)) (b : Block) (names : List (List ℕ)) (used : ℕ) → is_admissible m b names used ≡ true → (is_record (record_at m b.place) b.words ≡ true) × (has_name (name_at m b.place) names ≡ false) × (used < 32)
admitted m b names used h = grind (arith, and_parts, not-true, ltb-true)

pub named : (m : List (List ℕ)) (bs : List Block) (names : List (List ℕ)) (used : ℕ) → bad_record m bs names used ≡ None → AreNamed m names bs
unfolding bad_record
named m [] names used h = tt
named m (b ∷ bs) names used h =
    (elim b.used as (λ u. bad_record m (record b { used = u } ∷ bs) names used ≡ None → AreNamed m names (record b { used = u } ∷ bs)) [
      | true ↦ λ none.
          let rest = passed (is_admissible m b names used) (bad_record m bs (name_at m b.place ∷ names) (used + 1)) b.place none in
          let good = admitted m b names used rest.0 in
          (good.0, good.1, named m bs (name_at m b.place ∷ names) (used + 1) rest.1)
      | false ↦ λ none. named m bs names used none
    ]) h

-- each used block has a good record
abbrev pub AreRecorded : List (List ℕ) → List Block → Type 0
AreRecorded m [] = Unit {0}
AreRecorded m (b ∷ bs) = (b.used ≡ true → is_record (record_at m b.place) b.words ≡ true) × AreRecorded m bs

pub recorded : (m : List (List ℕ)) (names : List (List ℕ)) (bs : List Block) → AreNamed m names bs → AreRecorded m bs
recorded m names [] n = tt
recorded m names (b ∷ bs) n =
    (elim b.used as (λ u. AreNamed m names (record b { used = u } ∷ bs) → (u ≡ true → is_record (record_at m b.place) b.words ≡ true) × AreRecorded m bs) [
      | true ↦ λ n. ((λ _. n.0), recorded m (name_at m b.place ∷ names) bs n.2)
      | false ↦ λ n. ((λ e. absurd (cc e)), recorded m names bs n)
    ]) n

-- ---- the map of a walk

abbrev pub with_block : List (List ℕ) → Block → List Block → List (List ℕ × App)
with_block m b bs = insert (apps_of m bs) (name_at m b.place) (app_at m b.place)

pub some_apps : (m : List (List ℕ)) (b : Block) (bs : List Block) → apps_of m (b ∷ bs) ≡ cond b.used (with_block m b bs) (apps_of m bs)
unfolding apps_of
some_apps m b bs = refl

pub no_apps : (m : List (List ℕ)) → apps_of m [] ≡ []
unfolding apps_of
no_apps m = refl

-- a name of the list has no entry in the map, and no entry lies at a place below
pub free_all : (m : List (List ℕ)) (bs : List Block) (p : ℕ) (a : Bool) (end : ℕ) (names : List (List ℕ)) (k : List ℕ) (q : ℕ) → Tiled p a bs end → q < p → has_name k names ≡ true → AreNamed m names bs → Free k q (apps_of m bs)
unfolding apps_of
free_all m [] p a end names k q t low there n = tt
free_all m (b ∷ bs) p a end names k q t low there n =
    let place : b.place ≡ p = t.0 in
    let long : 1 ≤ b.words = t.1 in
    let x = name_at m b.place in
    (elim b.used as (λ u. AreNamed m names (record b { used = u } ∷ bs) → Free k q (apps_of m (record b { used = u } ∷ bs))) [
      | true ↦ λ n. free_insert (apps_of m bs) x k q (app_at m b.place) (names_apart names k x there n.1) (λ e. absurd (omega (arith, e)))
          (free_all m bs (p + b.words) (not b.used) end (x ∷ names) k q t.3 (omega arith) (has_more k x names there) n.2)
      | false ↦ λ n. free_all m bs (p + b.words) (not b.used) end names k q t.3 (omega arith) there n
    ]) n

pub used_above : (p : ℕ) (a : Bool) (bs : List Block) (end : ℕ) → Tiled p a bs end → SpansAbove p (used_spans bs)
used_above p a [] end t = tt
used_above p a (b ∷ bs) end t =
    let place : b.place ≡ p = t.0 in
    let rest : SpansAbove p (used_spans bs) = above_weaker (p + b.words) p (used_spans bs) (omega arith) (used_above (p + b.words) (not b.used) bs end t.3) in
    elim b.used as (λ u. SpansAbove p (used_spans (record b { used = u } ∷ bs))) [ true ↦ (omega arith, rest) | false ↦ rest ]

spans_all : (m : List (List ℕ)) (bs : List Block) (p : ℕ) (a : Bool) (names : List (List ℕ)) → IsSized m → Tiled p a bs (length m) → HeadersRead m bs → AreNamed m names bs → spans_of (apps_of m bs) ≡ used_spans bs
unfolding apps_of
spans_all m [] p a names image t r n = refl
spans_all m (b ∷ bs) p a names image t r n =
    let place : b.place ≡ p = t.0 in
    let long : 1 ≤ b.words = t.1 in
    let x = name_at m b.place in
    let above = above_weaker (p + b.words) (b.place + 1) (used_spans bs) (omega arith) (used_above (p + b.words) (not b.used) bs (length m) t.3) in
    (elim b.used as (λ u. AreNamed m names (record b { used = u } ∷ bs) → spans_of (apps_of m (record b { used = u } ∷ bs)) ≡ used_spans (record b { used = u } ∷ bs)) [
      | true ↦ λ n.
          spans_insert (apps_of m bs) x (app_at m b.place) (free_all m bs (p + b.words) (not b.used) (length m) (x ∷ names) x b.place t.3 (omega arith) (has_self x names) n.2)
          ∙ ap (λ (l : List (ℕ × ℕ)). put_at b.place (words_of_app (app_at m b.place)) l) (spans_all m bs (p + b.words) (not b.used) (x ∷ names) image t.3 r.2 n.2)
          ∙ ap (λ (w : ℕ). put_at b.place w (used_spans bs)) (needed_is m b.place b.words image n.0 r.1)
          ∙ put_front b.place b.words (used_spans bs) above
      | false ↦ λ n. spans_all m bs (p + b.words) (not b.used) names image t.3 r.2 n
    ]) n

-- ---- the bridge

-- the facts of well laid words
pub record WellLaid (m : List (List ℕ)) : Type 0 where
  pub root : no_root m ≡ None
  pub tiled : Tiled 131 false (blocks m) (length m)
  pub read : HeadersRead m (blocks m)
  pub chain : bad_chain m (blocks m) ≡ None
  pub spans : spans (card_of m) ≡ used_spans (blocks m)
  pub gaps : gaps (card_of m) ≡ hole_spans (blocks m)
  pub apps : length (apps_of m (blocks m)) ≡ length (used_spans (blocks m))

pub laid : (m : List (List ℕ)) → IsSized m → words_fault m ≡ None → WellLaid m
laid m image h =
    let f : Faultless m = faultless m h in
    let low : 256 ≤ length m = image.low in
    let bs = blocks m in
    let w : BlocksWalked m 131 false bs = subst (λ (l : List Block). BlocksWalked m 131 false l) (sym (blocks_all m)) (all_walked m (omega arith) (sym (bad_all m (omega arith)) ∙ f.headers)) in
    let same : spans_of (apps_of m bs) ≡ used_spans bs = spans_all m bs 131 false [] image w.tiled w.read (named m bs [] 0 f.records) in
    record {
      root = f.root;
      tiled = w.tiled;
      read = w.read;
      chain = f.chain;
      spans = same;
      gaps = ap (λ (l : List (ℕ × ℕ)). gaps_from heap_start l (length m)) same ∙ gaps_are_holes 131 bs (length m) w.tiled;
      apps = sym (length_spans (apps_of m bs)) ∙ ap (λ (l : List (ℕ × ℕ)). length l) same;
    }

-- a well laid image with a closed journal has well laid words
pub well_laid : (m : List (List ℕ)) → IsSized m → look m ≡ Closed → IsWellLaid m → WellLaid m
well_laid m image closed h = laid m image (sym (closed_fault m closed) ∙ h)
