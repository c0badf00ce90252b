-- Words without a fault hold the layout of their card: the root, and the header of each block and each gap.
use Rattle.std.proofs.Common.{◌≡◌, ℕ, zero, suc, ◌+◌, ◌<◌, ◌≤◌, Bool, true, false, cond, ◌&&◌, ◌||◌, List, [], ◌∷◌, ◌++◌, length, take, Option, Some, None, refl, sym, ◌∙◌, ap, subst, arith}
use Rattle.std.specs.Prelude.{nat_le, nat_lt, ◌==◌, slice_index}
use Rattle.std.specs.List.{AllByRecursion}
use Rattle.std.proofs.lemmas.Bool.{and_parts, eqb-true}
use Rattle.std.proofs.lemmas.Slice.Eq.{bytes_eq-Decides}
use Rattle.mc_words.specs.model_device.specs.Bytes.{AreBytes, be2, bytes2}
use Rattle.mc_words.specs.model_device.specs.Device.{IsImage, sized}
use Rattle.mc_words.specs.model_device.specs.Image.{look, after}
use Rattle.mc_words.specs.model_device.specs.Card.{Block, used_tag, hole_tag, word, is_header, header, blocks, card_of, words_after, means}
use Rattle.mc_words.specs.model_device.specs.Layout.{put_at, spans, gaps, first_place, first_hole, used_header, root, gap_headers, with_used, layout, no_root, bad_link, words_fault, IsWellLaid}
use Rattle.mc_words.specs.model_device.proofs.LookLemmas.{IsFull}
use Rattle.mc_words.specs.model_device.proofs.ImageBytes.{image_settled}
use Rattle.mc_blocks.specs.Blocks.{used_spans, hole_spans}
use Rattle.mc_blocks.proofs.Steps.{header_is}
use Rattle.mc_blocks.proofs.Tiles.{HeadersRead, first_is}
use Rattle.mc_blocks.proofs.Bridge.{WellLaid, laid}
use Rattle.mc_words.specs.model_device.proofs.LayoutLemmas.{sound_after}
use Rattle.mc_blocks.proofs.Search.{link_none, chain_parts}

-- ---- words of eight bytes

-- a word is its eight bytes
eight : (x : List ℕ) → length x ≡ 8 → x ≡ slice_index x 0 ∷ slice_index x 1 ∷ slice_index x 2 ∷ slice_index x 3 ∷ slice_index x 4 ∷ slice_index x 5 ∷ slice_index x 6 ∷ slice_index x 7 ∷ []
eight [] h = absurd (cc h)
eight (a ∷ []) h = absurd (cc h)
eight (a ∷ b ∷ []) h = absurd (cc h)
eight (a ∷ b ∷ c ∷ []) h = absurd (cc h)
eight (a ∷ b ∷ c ∷ d ∷ []) h = absurd (cc h)
eight (a ∷ b ∷ c ∷ d ∷ e ∷ []) h = absurd (cc h)
eight (a ∷ b ∷ c ∷ d ∷ e ∷ f ∷ []) h = absurd (cc h)
eight (a ∷ b ∷ c ∷ d ∷ e ∷ f ∷ g ∷ []) h = absurd (cc h)
eight (a ∷ b ∷ c ∷ d ∷ e ∷ f ∷ g ∷ i ∷ []) h = refl
eight (a ∷ b ∷ c ∷ d ∷ e ∷ f ∷ g ∷ i ∷ j ∷ r) h = absurd (omega (arith, h))

byte_at : (x : List ℕ) (i : ℕ) → AreBytes x → slice_index x i < 256
byte_at [] i h = omega arith
byte_at (b ∷ x) zero h = h.0
byte_at (b ∷ x) (suc i) h = byte_at x i h.1

-- two bytes are the big-endian bytes of their number
two : (x : List ℕ) (i n : ℕ) → AreBytes x → be2 x i ≡ n → bytes2 n ≡ slice_index x i ∷ slice_index x (i + 1) ∷ []
two x i n h e = grind (arith, byte_at)

-- ---- headers

-- the tag of a block
abbrev tag_of : Bool → ℕ
tag_of used = cond used used_tag hole_tag

tag_is : (a : ℕ) (t : Bool) → (a == used_tag) ≡ t → (t || a == hole_tag) ≡ true → a ≡ tag_of t
tag_is a true e h = eqb-true a used_tag e
tag_is a false e h = eqb-true a hole_tag h

abbrev the_block : ℕ → List ℕ → Block
the_block p x = record { place = p; used = slice_index x 0 == used_tag; words = be2 x 2; link = be2 x 4 }

-- a header is that of its block
header_by : (p : ℕ) (x : List ℕ) (b : Block) (t : Bool) → IsFull x → is_header x ≡ t → cond t (Some (the_block p x)) None ≡ Some b → x ≡ tag_of b.used ∷ 0 ∷ (bytes2 b.words ++ bytes2 b.link ++ 0 ∷ 0 ∷ [])
header_by p x b false full h e = absurd (cc e)
header_by p x b true full h e =
    let is : the_block p x ≡ b = cc in
    let tag = slice_index x 0 == used_tag || slice_index x 0 == hole_tag in
    let a = tag && slice_index x 1 == 0 in
    let long = a && nat_le 1 (be2 x 2) in
    let seventh = and_parts (long && slice_index x 6 == 0) (slice_index x 7 == 0) h in
    let sixth = and_parts long (slice_index x 6 == 0) seventh.0 in
    let first = and_parts a (nat_le 1 (be2 x 2)) sixth.0 in
    let second = and_parts tag (slice_index x 1 == 0) first.0 in
    let used : Bool = slice_index x 0 == used_tag in
    let t0 : slice_index x 0 ≡ tag_of used = tag_is (slice_index x 0) used refl second.0 in
    let t1 : slice_index x 1 ≡ 0 = eqb-true (slice_index x 1) 0 second.1 in
    let t6 : slice_index x 6 ≡ 0 = eqb-true (slice_index x 6) 0 sixth.1 in
    let t7 : slice_index x 7 ≡ 0 = eqb-true (slice_index x 7) 0 seventh.1 in
    let words = sym (two x 2 (be2 x 2) full.1 refl) in
    let link = sym (two x 4 (be2 x 4) full.1 refl) in
    subst (λ (c : Block). x ≡ tag_of c.used ∷ 0 ∷ (bytes2 c.words ++ bytes2 c.link ++ 0 ∷ 0 ∷ [])) is (
    eight x full.0
    ∙ ap (λ (k : ℕ). k ∷ slice_index x 1 ∷ slice_index x 2 ∷ slice_index x 3 ∷ slice_index x 4 ∷ slice_index x 5 ∷ slice_index x 6 ∷ slice_index x 7 ∷ []) t0
    ∙ ap (λ (k : ℕ). tag_of used ∷ k ∷ slice_index x 2 ∷ slice_index x 3 ∷ slice_index x 4 ∷ slice_index x 5 ∷ slice_index x 6 ∷ slice_index x 7 ∷ []) t1
    ∙ ap (λ (k : ℕ). tag_of used ∷ 0 ∷ slice_index x 2 ∷ slice_index x 3 ∷ slice_index x 4 ∷ slice_index x 5 ∷ k ∷ slice_index x 7 ∷ []) t6
    ∙ ap (λ (k : ℕ). tag_of used ∷ 0 ∷ slice_index x 2 ∷ slice_index x 3 ∷ slice_index x 4 ∷ slice_index x 5 ∷ 0 ∷ k ∷ []) t7
    ∙ ap (λ (l : List ℕ). tag_of used ∷ 0 ∷ (l ++ slice_index x 4 ∷ slice_index x 5 ∷ 0 ∷ 0 ∷ [])) words
    ∙ ap (λ (l : List ℕ). tag_of used ∷ 0 ∷ (bytes2 (be2 x 2) ++ (l ++ 0 ∷ 0 ∷ []))) link)

header_form : (p : ℕ) (x : List ℕ) (b : Block) → IsFull x → header p x ≡ Some b → x ≡ tag_of b.used ∷ 0 ∷ (bytes2 b.words ++ bytes2 b.link ++ 0 ∷ 0 ∷ [])
header_form p x b full h = header_by p x b (is_header x) full refl h

-- ---- pairs at their places

abbrev pub Stand : List (List ℕ) → List (ℕ × List ℕ) → Type 0
Stand m ps = AllByRecursion (λ p. word m p.0 ≡ p.1) ps

put_stands : (m : List (List ℕ)) (p : ℕ) (x : List ℕ) (es : List (ℕ × List ℕ)) → word m p ≡ x → Stand m es → Stand m (put_at p x es)
put_stands m p x [] h a = (h, tt)
put_stands m p x (e ∷ es) h a = by (nat_lt p e.0) (put_stands m p x es h a.1)
  where
    by : (t : Bool) → Stand m (put_at p x es) → Stand m (cond t ((p, x) ∷ e ∷ es) (e ∷ put_at p x es))
    by true r = (h, a)
    by false r = (a.0, r)

abbrev Used : List (List ℕ) → List (ℕ × ℕ) → Type 0
Used m ss = AllByRecursion (λ s. word m s.0 ≡ used_header s.1) ss

with_stands : (m : List (List ℕ)) (ss : List (ℕ × ℕ)) (hs : List (ℕ × List ℕ)) → Used m ss → Stand m hs → Stand m (with_used ss hs)
with_stands m [] hs u h = h
with_stands m (s ∷ ss) hs u h = put_stands m s.0 (used_header s.1) (with_used ss hs) u.0 (with_stands m ss hs u.1 h)

-- ---- blocks

full_at : (m : List (List ℕ)) (b : Block) → header b.place (word m b.place) ≡ Some b → b.place + b.words ≤ length m → IsImage m → IsFull (word m b.place)
full_at m b is ends image = grind (arith, header_is)

blocks_stand : (m : List (List ℕ)) (bs : List Block) → IsImage m → HeadersRead m bs → bad_link bs ≡ None → Used m (used_spans bs) × Stand m (gap_headers (hole_spans bs))
blocks_stand m [] image r h = (tt, tt)
blocks_stand m (b ∷ bs) image r h =
    let link = link_none b (cond b.used 0 (first_hole bs)) (bad_link bs) (b.link == cond b.used 0 (first_hole bs)) refl h in
    let rest = blocks_stand m bs image r.2 link.1 in
    let form = λ (tag link : ℕ). tag ∷ 0 ∷ (bytes2 b.words ++ bytes2 link ++ 0 ∷ 0 ∷ []) in
    (elim b.used as (λ u. word m b.place ≡ form (tag_of u) b.link → b.link ≡ cond u 0 (first_hole bs) → Used m (used_spans (record b { used = u } ∷ bs)) × Stand m (gap_headers (hole_spans (record b { used = u } ∷ bs)))) [
      | true ↦ λ is due. ((is ∙ ap (form used_tag) due, rest.0), rest.1)
      | false ↦ λ is due. (rest.0, (is ∙ ap (form hole_tag) (due ∙ first_is bs), rest.1))
    ]) (header_form b.place (word m b.place) b (full_at m b r.0 r.1 image) r.0) link.0

-- ---- the root

root_form : (x : List ℕ) (v size first : ℕ) → IsFull x → take 6 x ≡ take 6 (root v size 0) → be2 x 6 ≡ first → x ≡ root v size first
root_form x v size first full front last =
    let e = eight x full.0 in
    let end : List ℕ = slice_index x 6 ∷ slice_index x 7 ∷ [] in
    e ∙ ap (λ (l : List ℕ). take 6 l ++ end) (sym e) ∙ ap (λ (l : List ℕ). l ++ end) front ∙ ap (λ (l : List ℕ). take 6 (root v size 0) ++ l) (sym (two x 6 first full.1 last))

rooted : (t : Bool) → cond {A = Option ℕ} t None (Some 0) ≡ None → t ≡ true
rooted true h = refl
rooted false h = absurd (cc h)

root_stands : (m : List (List ℕ)) (first : ℕ) → IsImage m → no_root m ≡ None → be2 (word m 0) 6 ≡ first → word m 0 ≡ root (slice_index (word m 0) 3) (length m) first
root_stands m first image h last = grind (arith, and_parts, rooted, root_form, bytes_eq-Decides)

-- ---- the layout

layout_stands : (m : List (List ℕ)) → IsImage m → words_fault m ≡ None → Stand m (layout (card_of m))
unfolding layout
layout_stands m image good =
    let l : WellLaid m = laid m (sized image) good in
    let bs = blocks m in
    let chain = chain_parts (be2 (word m 0) 6) (first_hole bs) (bad_link bs) (be2 (word m 0) 6 == first_hole bs) refl l.chain in
    let all = blocks_stand m bs image l.read chain.1 in
    let holes : Stand m (gap_headers (gaps (card_of m))) = subst (λ (g : List (ℕ × ℕ)). Stand m (gap_headers g)) (sym l.gaps) all.1 in
    let used : Used m (spans (card_of m)) = subst (λ (s : List (ℕ × ℕ)). Used m s) (sym l.spans) all.0 in
    let first : be2 (word m 0) 6 ≡ first_place (gaps (card_of m)) = chain.0 ∙ first_is bs ∙ ap first_place (sym l.gaps) in
    (root_stands m (first_place (gaps (card_of m))) image l.root first, with_stands m (spans (card_of m)) (gap_headers (gaps (card_of m))) used holes)

-- an image without a fault, once its journal is replayed
pub layout_law : (m : List (List ℕ)) → IsImage m → IsWellLaid m → Stand (words_after (after m) m) (layout (means m))
layout_law m image h = layout_stands (words_after (after m) m) (image_settled m image) (sound_after m (look m) refl h)
