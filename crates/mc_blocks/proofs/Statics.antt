-- The card after words of a static segment are written: the application has them over its static bytes, and all else is
-- kept.
use Rattle.std.proofs.Common.{◌≡◌, ◌⊎◌, ℕ, ◌+◌, ◌<◌, ◌≤◌, Bool, true, false, ◌&&◌, ◌||◌, List, [], ◌∷◌, length, Some, None, not, refl, sym, ◌∙◌, ap, subst, inl, inr, arith}
use Rattle.std.specs.Prelude.{◌==◌, nat_le, slice_index}
use Rattle.std.proofs.lemmas.Bool.{eqb-true, leb-true, and_parts, or_cases, cases_eq}
use Rattle.mc_words.specs.model_device.specs.Bytes.{up, be2, lookup, insert}
use Rattle.mc_words.specs.model_device.specs.Device.{IsSized}
use Rattle.mc_words.specs.model_device.specs.Card.{App, Block, word, blocks, section, record_at, name_at, app_of, app_at, card_of, words_of_lengths}
use Rattle.mc_words.specs.model_device.specs.Layout.{is_record, words_fault}
use Rattle.mc_blocks.specs.Blocks.{hole_spans, used_spans}
use Rattle.mc_blocks.specs.Plans.{has_room, has_span}
use Rattle.mc_blocks.proofs.Search.{holes_above}
use Rattle.mc_blocks.proofs.Taking.{room_from}
use Rattle.mc_blocks.proofs.Tiles.{Tiled, HeadersRead}
use Rattle.mc_blocks.proofs.Bridge.{WellLaid, laid, named, Faultless, faultless, recorded, used_above, AreRecorded}
use Rattle.mc_blocks.proofs.Applications.{found_all, ApplicationFound}
use Rattle.mc_blocks.proofs.Sections.{length_section, same_cells, same_section}
use Rattle.mc_blocks.proofs.Setting.{set_block, later_span, BlockSet}
use Rattle.mc_blocks.proofs.Freeing.{span_from}
use Rattle.mc_blocks.specs.Outcomes.{AgreeBut}

-- ---- blocks that are kept

-- the blocks from q on are kept if all words from there on are
pub agree_from : (m n : List (List ℕ)) (p q : ℕ) (a : Bool) (bs : List Block) (end : ℕ) → Tiled q a bs end → ((i : ℕ) → q ≤ i → word n i ≡ word m i) → AgreeBut m n p bs
agree_from m n p q a [] end t same = tt
agree_from m n p q a (b ∷ bs) end t same =
    let place : b.place ≡ q = t.0 in
    (same b.place (omega (arith, place)), (λ _ _ i low high. same i (omega (arith, place))), agree_from m n p (q + b.words) (not b.used) bs end t.3 (λ i low. same i (omega arith)))

-- ---- a block with other static bytes

-- the first word of the static bytes of an application
abbrev pub static_from : App → ℕ
static_from a = a.place + 5 + up (length a.code) 8

-- words n agree with m except in the static bytes of an application, which are `fixed`
pub record Restated (m n : List (List ℕ)) (a : App) (fixed : List ℕ) : Type 0 where
  pub size : length n ≡ length m
  pub words : (i : ℕ) → 131 ≤ i → (i < static_from a) ⊎ (static_from a + up (length a.fixed) 8 ≤ i) → word n i ≡ word m i
  pub bytes : section n (static_from a) (length a.fixed) ≡ fixed

recorded_app : ℕ → List ℕ → List ℕ → List ℕ → List ℕ → List ℕ → App
recorded_app p r code fixed dir fci = record { code = code; fixed = fixed; session = be2 r 24; deny = be2 r 26; dir = dir; fci = fci; place = p }

record OnlyStaticChanged (m n : List (List ℕ)) (p : ℕ) (fixed : List ℕ) : Type 0 where
  entry : record_at n p ≡ record_at m p
  app : app_at n p ≡ record (app_at m p) { fixed = fixed }
  ends : static_from (app_at m p) + up (length (app_at m p).fixed) 8 ≤ p + words_of_lengths (be2 (record_at m p) 20) (be2 (record_at m p) 22) (slice_index (record_at m p) 17) (slice_index (record_at m p) 18)

-- the block of the application
here_is : (m n : List (List ℕ)) (p words : ℕ) (fixed : List ℕ) → IsSized m → 131 ≤ p → p + words ≤ length m → is_record (record_at m p) words ≡ true → Restated m n (app_at m p) fixed → OnlyStaticChanged m n p fixed
unfolding recorded_app
here_is m n p words fixed image low h good s =
    let r = record_at m p in
    let code = be2 r 20 in
    let static = be2 r 22 in
    let dir = slice_index r 17 in
    let fci = slice_index r 18 in
    let size : length n ≡ length m = s.size in
    let is : words ≡ words_of_lengths code static dir fci = eqb-true words (words_of_lengths code static dir fci) (and_parts _ (words == words_of_lengths code static dir fci) good).1 in
    let long : length (app_at m p).code ≡ code = length_section m (p + 5) code image (omega (arith, is)) in
    let wide : length (app_at m p).fixed ≡ static = length_section m (p + 5 + up code 8) static image (omega (arith, is)) in
    let from : static_from (app_at m p) ≡ p + 5 + up code 8 = ap (λ (k : ℕ). p + 5 + up k 8) long in
    let before = λ (i : ℕ) (lo : p ≤ i) (hi : i < p + 5 + up code 8). s.words i (omega arith) (inl (omega (arith, from))) in
    let to : static_from (app_at m p) + up (length (app_at m p).fixed) 8 ≡ p + 5 + up code 8 + up static 8 = ap (λ (k : ℕ). k + up (length (app_at m p).fixed) 8) from ∙ ap (λ (k : ℕ). p + 5 + up code 8 + up k 8) wide in
    let behind = λ (i : ℕ) (lo : p + 5 + up code 8 + up static 8 ≤ i). s.words i (omega arith) (inr (omega (arith, to))) in
    let entry : record_at n p ≡ r = same_cells m n 4 (p + 1) size (omega (arith, is)) (λ i above below. before i (omega arith) (omega arith)) in
    let a : section n (p + 5) code ≡ section m (p + 5) code = same_section m n (p + 5) code size (omega (arith, is)) (λ i above below. before i (omega arith) (omega arith)) in
    let b : section n (p + 5 + up code 8) static ≡ fixed = ap (λ (k : ℕ). section n k static) (sym from) ∙ ap (λ (k : ℕ). section n (static_from (app_at m p)) k) (sym wide) ∙ s.bytes in
    let c : section n (p + 5 + up code 8 + up static 8) dir ≡ section m (p + 5 + up code 8 + up static 8) dir = same_section m n (p + 5 + up code 8 + up static 8) dir size (omega (arith, is)) (λ i above below. behind i (omega arith)) in
    let d : section n (p + 5 + up code 8 + up static 8 + up dir 8) fci ≡ section m (p + 5 + up code 8 + up static 8 + up dir 8) fci = same_section m n (p + 5 + up code 8 + up static 8 + up dir 8) fci size (omega (arith, is)) (λ i above below. behind i (omega arith)) in
    record {
      entry = entry;
      app = ap (λ (t : List ℕ). app_of n p t) entry
          ∙ ap (λ (w : List ℕ). recorded_app p r w (section n (p + 5 + up code 8) static) (section n (p + 5 + up code 8 + up static 8) dir) (section n (p + 5 + up code 8 + up static 8 + up dir 8) fci)) a
          ∙ ap (λ (w : List ℕ). recorded_app p r (section m (p + 5) code) w (section n (p + 5 + up code 8 + up static 8) dir) (section n (p + 5 + up code 8 + up static 8 + up dir 8) fci)) b
          ∙ ap (λ (w : List ℕ). recorded_app p r (section m (p + 5) code) fixed w (section n (p + 5 + up code 8 + up static 8 + up dir 8) fci)) c
          ∙ ap (λ (w : List ℕ). recorded_app p r (section m (p + 5) code) fixed (section m (p + 5 + up code 8 + up static 8) dir) w) d;
      ends = omega (arith, to);
    }

-- ---- the walk

-- the used block at p among the blocks from q on: its record, its end, the holes beside it, and that the blocks are kept
-- if only its words after the header change
record UsedAt (m : List (List ℕ)) (p q : ℕ) (bs : List Block) : Type 0 where
  words : ℕ
  good : is_record (record_at m p) words ≡ true
  end : p + words ≤ length m
  apart : (r need : ℕ) → has_room r need (hole_spans bs) ≡ true → (r + need ≤ p) ⊎ (p + words ≤ r)
  agree : (n : List (List ℕ)) → ((i : ℕ) → q ≤ i → (i ≤ p) ⊎ (p + words ≤ i) → word n i ≡ word m i) → AgreeBut m n p bs

hole_apart : (p need q words at end : ℕ) (hs : List (ℕ × ℕ)) → q + words ≤ at → ((q == p && nat_le need words) || has_room p need hs) ≡ true → (has_room p need hs ≡ true → (p + need ≤ at) ⊎ (end ≤ p)) → (p + need ≤ at) ⊎ (end ≤ p)
hole_apart p need q words at end hs low room rest = grind (arith, or_cases, and_parts, eqb-true, leb-true)

used_at : (m : List (List ℕ)) (p q : ℕ) (a : Bool) (bs : List Block) (end : ℕ) → Tiled q a bs end → HeadersRead m bs → AreRecorded m bs → has_span p (used_spans bs) ≡ true → UsedAt m p q bs
used_at m p q a [] end t r g span = absurd (cc span)
used_at m p q a (b ∷ bs) end t r g span =
    let place : b.place ≡ q = t.0 in
    let long : 1 ≤ b.words = t.1 in
    let ends : b.place + b.words ≤ length m = r.1 in
    let above = used_above (q + b.words) (not b.used) bs end t.3 in
    elim (cases_eq b.place p) [
      | inl here ↦
          (elim b.used as (λ u. (u ≡ true → is_record (record_at m b.place) b.words ≡ true) → has_span p (used_spans (record b { used = u } ∷ bs)) ≡ true → UsedAt m p q (record b { used = u } ∷ bs)) [
            | true ↦ λ good span. record {
              words = b.words;
              good = subst (λ (x : ℕ). is_record (record_at m x) b.words ≡ true) here (good refl);
              end = omega (arith, here);
              apart = λ s need room. let far : q + b.words ≤ s = room_from (q + b.words) s need (hole_spans bs) (holes_above (q + b.words) (not b.used) bs end t.3) room in inr (omega (arith, here));
              agree = λ n same. (same b.place (omega arith) (inl (omega (arith, here))), (λ _ ne. absurd (ne here)), agree_from m n p (q + b.words) (not b.used) bs end t.3 (λ i low. same i (omega arith) (inr (omega (arith, here)))));
            }
            | false ↦ λ good span. let far : q + b.words ≤ p = span_from (q + b.words) p (used_spans bs) above span in absurd (omega (arith, here))
          ]) g.0 span
      | inr ne ↦
          let later : has_span p (used_spans bs) ≡ true = later_span p b (used_spans bs) b.used ne span in
          let rest = used_at m p (q + b.words) (not b.used) bs end t.3 r.2 g.1 later in
          let far : q + b.words ≤ p = span_from (q + b.words) p (used_spans bs) above later in
          record {
            words = rest.words;
            good = rest.good;
            end = rest.end;
            apart = λ s need room.
                (elim b.used as (λ u. has_room s need (hole_spans (record b { used = u } ∷ bs)) ≡ true → (s + need ≤ p) ⊎ (p + rest.words ≤ s)) [
                  | true ↦ λ room. rest.apart s need room
                  | false ↦ λ room. hole_apart s need b.place b.words p (p + rest.words) (hole_spans bs) (omega arith) room (rest.apart s need)
                ]) room;
            agree = λ n same. (same b.place (omega arith) (inl (omega arith)), (λ _ _ i low high. same i (omega arith) (inl (omega arith))), rest.agree n (λ i low out. same i (omega arith) out));
          }
    ]

-- ---- the card

-- an application is the one that its block holds, and its static bytes lie in the heap and in no hole; the blocks are
-- kept if only these bytes change
pub record StaticIn (m : List (List ℕ)) (k : List ℕ) (a : App) : Type 0 where
  pub low : 131 ≤ a.place
  pub self : app_at m a.place ≡ a
  pub name : name_at m a.place ≡ k
  pub span : has_span a.place (used_spans (blocks m)) ≡ true
  pub words : ℕ
  pub good : is_record (record_at m a.place) words ≡ true
  pub end : a.place + words ≤ length m
  pub ends : static_from a + up (length a.fixed) 8 ≤ length m
  pub bytes : section m (static_from a) (length a.fixed) ≡ a.fixed
  pub apart : (p need : ℕ) → has_room p need (hole_spans (blocks m)) ≡ true → (p + need ≤ a.place) ⊎ (static_from a + up (length a.fixed) 8 ≤ p)
  pub agree : (n : List (List ℕ)) (fixed : List ℕ) → Restated m n a fixed → AgreeBut m n a.place (blocks m)

pub static_in : (m : List (List ℕ)) (k : List ℕ) (a : App) → IsSized m → words_fault m ≡ None → lookup (card_of m).apps k ≡ Some a → StaticIn m k a
static_in m k a image h there =
    let f : Faultless m = faultless m h in
    let l : WellLaid m = laid m image h in
    let bs = blocks m in
    let p = a.place in
    let names = named m bs [] 0 f.records in
    let found : ApplicationFound m k bs 131 a = found_all m k a bs 131 false (length m) [] l.tiled names there in
    let u : UsedAt m p 131 bs = used_at m p 131 false bs (length m) l.tiled l.read (recorded m [] bs names) found.span in
    let now = section m (static_from (app_at m p)) (length (app_at m p).fixed) in
    let here : OnlyStaticChanged m m p now = here_is m m p u.words now image found.low u.end u.good (record { size = refl; words = λ i low out. refl; bytes = refl }) in
    let r = record_at m p in
    let need : u.words ≡ words_of_lengths (be2 r 20) (be2 r 22) (slice_index r 17) (slice_index r 18) = eqb-true u.words _ (and_parts _ (u.words == words_of_lengths (be2 r 20) (be2 r 22) (slice_index r 17) (slice_index r 18)) u.good).1 in
    let ends : static_from a + up (length a.fixed) 8 ≤ p + u.words = subst (λ (x : App). static_from x + up (length x.fixed) 8 ≤ p + u.words) found.self (subst (λ (x : ℕ). static_from (app_at m p) + up (length (app_at m p).fixed) 8 ≤ p + x) (sym need) here.ends) in
    let end : p + u.words ≤ length m = u.end in
    record {
      low = found.low;
      self = found.self;
      name = found.name;
      span = found.span;
      words = u.words;
      good = u.good;
      end = end;
      ends = omega (arith, ends);
      bytes = subst (λ (x : App). section m (static_from x) (length x.fixed) ≡ x.fixed) found.self (sym (ap (λ (x : App). x.fixed) here.app));
      apart = λ s room-need room. elim (u.apart s room-need room) [ inl before ↦ inl before | inr behind ↦ inr (omega (arith, ends, behind)) ];
      agree = λ n fixed s. u.agree n (λ i low out. s.words i low (elim out [ inl before ↦ inl (omega (arith, before)) | inr behind ↦ inr (omega (arith, ends, behind)) ]));
    }

-- words n have no fault, and hold the card of m with these static bytes of an application
pub record Restates (m n : List (List ℕ)) (k : List ℕ) (a : App) (fixed : List ℕ) : Type 0 where
  pub good : words_fault n ≡ None
  pub blocks : blocks n ≡ blocks m
  pub card : card_of n ≡ record (card_of m) { apps = insert (card_of m).apps k (record a { fixed = fixed }) }

pub restates : (m n : List (List ℕ)) (k : List ℕ) (a : App) (fixed : List ℕ) → IsSized m → words_fault m ≡ None → lookup (card_of m).apps k ≡ Some a → word n 0 ≡ word m 0 → Restated m n a fixed → Restates m n k a fixed
restates m n k a fixed image h there root s =
    let p = a.place in
    let i : StaticIn m k a = static_in m k a image h there in
    let here : OnlyStaticChanged m n p fixed = here_is m n p i.words fixed image i.low i.end i.good (subst (λ (x : App). Restated m n x fixed) (sym i.self) s) in
    let b : BlockSet m n p = set_block m n p image h i.span s.size root (i.agree n fixed s) here.entry in
    let apps : insert (card_of m).apps (name_at m p) (app_at n p) ≡ insert (card_of m).apps k (record a { fixed = fixed }) =
    ap (λ (x : List ℕ). insert (card_of m).apps x (app_at n p)) i.name ∙ ap (λ (x : App). insert (card_of m).apps k x) (here.app ∙ ap (λ (x : App). record x { fixed = fixed }) i.self) in
    record { good = b.good; blocks = b.blocks; card = b.card ∙ ap (λ (es : List (List ℕ × App)). record (card_of m) { apps = es }) apps }
