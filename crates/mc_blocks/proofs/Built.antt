-- Words that hold the headers and records of adjacent blocks are well laid, and words that agree in all that is read
-- hold the same card.
use Rattle.std.proofs.Common.{◌≡◌, ℕ, ◌+◌, ◌<◌, ◌≤◌, Bool, true, false, ◌&&◌, ◌||◌, List, [], ◌∷◌, length, Option, Some, None, refl, sym, ◌∙◌, ap, subst, arith, cond, not}
use Rattle.std.specs.Prelude.{◌==◌, slice_index}
use Rattle.std.proofs.lemmas.Bool.{le-ltb, lt-ltb, le-leb, eq-eqb, and_from}
use Rattle.std.proofs.lemmas.List.{get_or_past}
use Rattle.mc_words.specs.model_device.specs.Bytes.{be2, or_else, has_name}
use Rattle.mc_words.specs.model_device.specs.Device.{IsSized}
use Rattle.mc_words.specs.model_device.specs.Card.{App, Block, word, header, blocks, heap_start, record_at, name_at, apps_of, card_of}
use Rattle.mc_words.specs.model_device.specs.Layout.{no_root, is_record, bad_header, bad_block, bad_record, bad_link, bad_chain, first_hole, by_cause, words_fault}
use Rattle.mc_words.specs.model_device.specs.declared.cause.Cause.TheVariants.{NoRoot, BadBlock, BadRecord, BadChain}
use Rattle.mc_blocks.specs.Blocks.{block_within, blocks_at, bad_from, is_admissible, used_spans, is_root_word, FollowsBlock, WordsAgree}
use Rattle.mc_blocks.proofs.Steps.{blocks_step, blocks_stop, blocks_all}
use Rattle.mc_blocks.proofs.Headers.{bad_all, bad_behind, bad_end}
use Rattle.mc_blocks.proofs.Tiles.{Tiled, HeadersRead}
use Rattle.mc_blocks.proofs.Taking.{tiled_end}
use Rattle.mc_blocks.proofs.Applications.{few_blocks}
use Rattle.mc_blocks.proofs.Bridge.{AreNamed, Faultless, faultless, WellLaid, laid, named, passed, recorded}
use Rattle.mc_blocks.proofs.Search.{chain_parts}
use Rattle.mc_blocks.proofs.Same.{same_named, agree_read, SameApplications, agree_used}
use Rattle.mc_blocks.specs.Outcomes.{AgreeBut}

-- ---- the walk finds the blocks

-- the walk from p on finds these adjacent blocks, and no bad header
record Walks (m : List (List ℕ)) (p : ℕ) (a : Bool) (bs : List Block) : Type 0 where
  good : bad_from m p a ≡ None
  blocks : blocks_at m p ≡ bs

follows : (size : ℕ) (a : Bool) (o : Option Block) (b : Block) → o ≡ Some b → b.place + b.words ≤ size → (a && not b.used) ≡ false → FollowsBlock size a o b
follows size a o b is ends flag = (is, ap (λ (q : Option Block). bad_header size a q) is ∙ ap (λ (t : Bool). t || (a && not b.used)) (le-ltb size (b.place + b.words) ends) ∙ flag)

fitting_some : (size : ℕ) (o : Option Block) (b : Block) → o ≡ Some b → b.place + b.words ≤ size → Some b ≡ block_within size o
fitting_some size o b is ends = sym (ap (λ (q : Option Block). block_within size q) is ∙ ap (λ (t : Bool). cond t (Some b) None) (le-leb (b.place + b.words) size ends))

walks : (m : List (List ℕ)) (p : ℕ) (a : Bool) (bs : List Block) → Tiled p a bs (length m) → HeadersRead m bs → Walks m p a bs
walks m p a [] t r =
    record { good = bad_end m p a (omega (arith, t)); blocks = blocks_stop m p (sym (ap (λ (x : List ℕ). block_within (length m) (header p x)) (get_or_past m p [] (omega (arith, t))))) }
walks m p a (b ∷ bs) t r =
    let place : b.place ≡ p = t.0 in
    let long : 1 ≤ b.words = t.1 in
    let is : header p (word m p) ≡ Some b = subst (λ (q : ℕ). header q (word m q) ≡ Some b) place r.0 in
    let w : Walks m (p + b.words) (not b.used) bs = walks m (p + b.words) (not b.used) bs t.3 r.2 in
    let on : FollowsBlock (length m) a (header p (word m p)) b = follows (length m) a (header p (word m p)) b is r.1 t.2 in
    let within : p < length m = omega (arith, r.1) in
    record {
      good = bad_behind m p a b within on ∙ ap (λ (q : ℕ). bad_from m (q + b.words) (not b.used)) place ∙ w.good;
      blocks = blocks_step m p b (fitting_some (length m) (header p (word m p)) b is r.1) ∙ ap (λ (q : ℕ). b ∷ blocks_at m (q + b.words)) place ∙ ap (λ (l : List Block). b ∷ l) w.blocks;
    }

-- ---- the records are good

admitted_from : (m : List (List ℕ)) (b : Block) (names : List (List ℕ)) (used : ℕ) → is_record (record_at m b.place) b.words ≡ true → has_name (name_at m b.place) names ≡ false → used < 32 → is_admissible m b names used ≡ true
admitted_from m b names used good new few = grind (arith, and_from, lt-ltb)

records_good : (m : List (List ℕ)) (bs : List Block) (names : List (List ℕ)) (used : ℕ) → AreNamed m names bs → used + length (used_spans bs) ≤ 32 → bad_record m bs names used ≡ None
unfolding bad_record
records_good m [] names used n few = refl
records_good m (b ∷ bs) names used n few =
    (elim b.used as (λ u. AreNamed m names (record b { used = u } ∷ bs) → used + length (used_spans (record b { used = u } ∷ bs)) ≤ 32 → bad_record m (record b { used = u } ∷ bs) names used ≡ None) [
      | true ↦ λ n few. ap (λ (t : Bool). cond t (bad_record m bs (name_at m b.place ∷ names) (used + 1)) (Some b.place)) (admitted_from m b names used n.0 n.1 (omega arith))
          ∙ records_good m bs (name_at m b.place ∷ names) (used + 1) n.2 (omega arith)
      | false ↦ λ n few. records_good m bs names used n few
    ]) n few

-- ---- words that hold given blocks

-- words hold the root, the headers, the records and the links of these adjacent blocks
pub record Built (m : List (List ℕ)) (bs : List Block) : Type 0 where
  pub root : is_root_word (word m 0) (length m) ≡ true
  pub first : be2 (word m 0) 6 ≡ first_hole bs
  pub tiled : Tiled 131 false bs (length m)
  pub read : HeadersRead m bs
  pub links : bad_link bs ≡ None
  pub named : AreNamed m [] bs
  pub few : length (used_spans bs) ≤ 32

-- such words are well laid, and the walk finds the blocks
pub record HoldsBlocks (m : List (List ℕ)) (bs : List Block) : Type 0 where
  pub good : words_fault m ≡ None
  pub blocks : blocks m ≡ bs

pub built : (m : List (List ℕ)) (bs : List Block) → Built m bs → HoldsBlocks m bs
built m bs b =
    let w : Walks m 131 false bs = walks m 131 false bs b.tiled b.read in
    let found : blocks m ≡ bs = blocks_all m ∙ w.blocks in
    let low : 131 ≤ length m = tiled_end 131 false bs (length m) b.tiled in
    let root : no_root m ≡ None = ap (λ (t : Bool). cond t None (Some 0)) b.root in
    let headers : bad_block (length m) m heap_start false ≡ None = bad_all m low ∙ w.good in
    let records : bad_record m (blocks m) [] 0 ≡ None = ap (λ (l : List Block). bad_record m l [] 0) found ∙ records_good m bs [] 0 b.named (omega (arith, b.few)) in
    let chain : bad_chain m (blocks m) ≡ None =
    ap (λ (l : List Block). bad_chain m l) found
    ∙ ap (λ (t : Bool). or_else (cond t None (Some 0)) (bad_link bs)) (eq-eqb (be2 (word m 0) 6) (first_hole bs) b.first)
    ∙ b.links in
    record {
      good =
          ap (λ (o : Option ℕ). or_else (by_cause NoRoot o) (or_else (by_cause BadBlock (bad_block (length m) m heap_start false)) (or_else (by_cause BadRecord (bad_record m (blocks m) [] 0)) (by_cause BadChain (bad_chain m (blocks m)))))) root
          ∙ ap (λ (o : Option ℕ). or_else (by_cause BadBlock o) (or_else (by_cause BadRecord (bad_record m (blocks m) [] 0)) (by_cause BadChain (bad_chain m (blocks m))))) headers
          ∙ ap (λ (o : Option ℕ). or_else (by_cause BadRecord o) (by_cause BadChain (bad_chain m (blocks m)))) records
          ∙ ap (λ (o : Option ℕ). by_cause BadChain o) chain;
      blocks = found;
    }

-- ---- words that agree in all that is read

kept_but : (m n : List (List ℕ)) (p : ℕ) (bs : List Block) → WordsAgree m n bs → AgreeBut m n p bs
kept_but m n p [] a = tt
kept_but m n p (b ∷ bs) a = (a.0, (λ u _. a.1 u), kept_but m n p bs a.2)

-- the card of words with the size, the version and these applications
pub card_parts : (n m : List (List ℕ)) (es : List (List ℕ × App)) → length n ≡ length m → slice_index (word n 0) 3 ≡ slice_index (word m 0) 3 → apps_of n (blocks n) ≡ es → card_of n ≡ record (card_of m) { apps = es }
card_parts n m es size version apps = grind arith

-- words n are well laid and have the blocks and the card of m
pub record SameCard (m n : List (List ℕ)) : Type 0 where
  pub good : words_fault n ≡ None
  pub blocks : blocks n ≡ blocks m
  pub card : card_of n ≡ card_of m

-- words n with the blocks of m, the hole that its root names, and good records are well laid
pub kept_blocks : (m n : List (List ℕ)) → IsSized m → words_fault m ≡ None → length n ≡ length m → is_root_word (word n 0) (length n) ≡ true → be2 (word n 0) 6 ≡ be2 (word m 0) 6 → HeadersRead n (blocks m) → AreNamed n [] (blocks m) → HoldsBlocks n (blocks m)
kept_blocks m n image h size root first read names =
    let f : Faultless m = faultless m h in
    let l : WellLaid m = laid m image h in
    let bs = blocks m in
    let links = chain_parts (be2 (word m 0) 6) (first_hole bs) (bad_link bs) (be2 (word m 0) 6 == first_hole bs) refl f.chain in
    built n bs (record { root = root; first = first ∙ links.0; tiled = subst (λ (e : ℕ). Tiled 131 false bs e) (sym size) l.tiled; read = read; links = links.1; named = names; few = few_blocks m f })

-- the root of words without a fault
pub root_of : (m : List (List ℕ)) → no_root m ≡ None → is_root_word (word m 0) (length m) ≡ true
root_of m h = (passed (is_root_word (word m 0) (length m)) None 0 h).0

pub root_kept : (m n : List (List ℕ)) → no_root m ≡ None → length n ≡ length m → word n 0 ≡ word m 0 → is_root_word (word n 0) (length n) ≡ true
root_kept m n h size same = ap (λ (x : List ℕ). is_root_word x (length n)) same ∙ ap (λ (x : ℕ). is_root_word (word m 0) x) size ∙ root_of m h

-- words n are well laid and hold the applications of m, if both agree in all that is read of the blocks and the roots
-- name the same hole
pub record SameBlocks (m n : List (List ℕ)) : Type 0 where
  pub good : words_fault n ≡ None
  pub apps : apps_of n (blocks n) ≡ apps_of m (blocks m)
  pub blocks : blocks n ≡ blocks m

pub same_blocks : (m n : List (List ℕ)) → IsSized m → words_fault m ≡ None → length n ≡ length m → is_root_word (word n 0) (length n) ≡ true → be2 (word n 0) 6 ≡ be2 (word m 0) 6 → WordsAgree m n (blocks m) → SameBlocks m n
same_blocks m n image h size root first agree =
    let l : WellLaid m = laid m image h in
    let bs = blocks m in
    let names = named m bs [] 0 (faultless m h).records in
    let but : AgreeBut m n 0 bs = kept_but m n 0 bs agree in
    let s : SameApplications m n [] bs = same_named m n 0 131 false [] bs (length m) (omega arith) l.tiled (agree_used m n 0 bs size l.read (recorded m [] bs names) but) names in
    let stands : HoldsBlocks n bs = kept_blocks m n image h size root first (agree_read m n 0 bs size l.read but) s.named in
    record { good = stands.good; blocks = stands.blocks; apps = ap (λ (l : List Block). apps_of n l) stands.blocks ∙ s.apps }

-- words that agree in word 0 and in the blocks hold the same card
pub same_card : (m n : List (List ℕ)) → IsSized m → words_fault m ≡ None → length n ≡ length m → word n 0 ≡ word m 0 → WordsAgree m n (blocks m) → SameCard m n
same_card m n image h size same agree =
    let b : SameBlocks m n = same_blocks m n image h size (root_kept m n (faultless m h).root size same) (ap (λ (x : List ℕ). be2 x 6) same) agree in
    record { good = b.good; blocks = b.blocks; card = card_parts n m (apps_of m (blocks m)) size (ap (λ (x : List ℕ). slice_index x 3) same) b.apps }

-- words with another version in the root hold the same card in that layout
pub other_layout : (m n : List (List ℕ)) → IsSized m → words_fault m ≡ None → length n ≡ length m → is_root_word (word n 0) (length n) ≡ true → be2 (word n 0) 6 ≡ be2 (word m 0) 6 → WordsAgree m n (blocks m)
    → (words_fault n ≡ None) × (card_of n ≡ record (card_of m) { layout = slice_index (word n 0) 3 })
other_layout m n image h size root first agree =
    let b : SameBlocks m n = same_blocks m n image h size root first agree in (
      b.good,
      ap (λ (x : ℕ). record { size = x; layout = slice_index (word n 0) 3; apps = apps_of n (blocks n) }) size
          ∙ ap (λ (x : List (List ℕ × App)). record { size = length m; layout = slice_index (word n 0) 3; apps = x }) b.apps,
    )
