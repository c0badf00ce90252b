-- The headers of adjacent blocks are the layout of their spans.
use Rattle.std.proofs.Common.{◌≡◌, ℕ, ◌+◌, ◌≤◌, Bool, true, false, List, [], ◌∷◌, refl, sym, ◌∙◌, ap, arith, cond, not}
use Rattle.std.proofs.lemmas.Bool.{lt-ltb, le-ltb}
use Rattle.mc_words.specs.model_device.specs.Card.{Card, Block, heap_start}
use Rattle.mc_words.specs.model_device.specs.Layout.{first_hole, first_place, hole_header, used_header, root, gap_headers, with_used, put_at, spans, layout}
use Rattle.mc_blocks.specs.Chains.{SpansAbove}
use Rattle.mc_blocks.specs.Blocks.{used_spans, hole_spans}
use Rattle.mc_blocks.specs.Plans.{changes, layout_of, link_word}
use Rattle.mc_blocks.proofs.Tiles.{Tiled, gaps_are_holes, first_is}
use Rattle.mc_blocks.proofs.Maps.{above_weaker}
use Rattle.mc_blocks.proofs.Bridge.{used_above}
use Rattle.mc_blocks.proofs.Changes.{From, from_weaker, under_same}

-- the headers of blocks
abbrev pub heads : List Block → List (ℕ × List ℕ)
heads [] = []
heads (b ∷ bs) = (b.place, cond b.used (used_header b.words) (hole_header b.words (first_hole bs))) ∷ heads bs

pub heads_from : (p : ℕ) (a : Bool) (bs : List Block) (end : ℕ) → Tiled p a bs end → From p (heads bs)
heads_from p a [] end t = tt
heads_from p a (b ∷ bs) end t =
    let place : b.place ≡ p = t.0 in
    (omega arith, from_weaker (p + b.words) p (heads bs) (omega arith) (heads_from (p + b.words) (not b.used) bs end t.3))

-- the headers after a block are at places after its own
pub heads_behind : (p : ℕ) (b : Block) (a : Bool) (bs : List Block) (end : ℕ) → b.place ≡ p → 1 ≤ b.words → Tiled (p + b.words) a bs end → From (b.place + 1) (heads bs)
heads_behind p b a bs end place low t = from_weaker (p + b.words) (b.place + 1) (heads bs) (omega arith) (heads_from (p + b.words) a bs end t)

-- equal headers have no changes
pub heads_same : (p : ℕ) (a : Bool) (bs : List Block) (end : ℕ) → Tiled p a bs end → changes (heads bs) (heads bs) ≡ []
heads_same p a [] end t = refl
heads_same p a (b ∷ bs) end t =
    let f = heads_behind p b (not b.used) bs end t.0 t.1 t.3 in
    under_same (b.place, cond b.used (used_header b.words) (hole_header b.words (first_hole bs))) (heads bs) (heads bs) f f
    ∙ heads_same (p + b.words) (not b.used) bs end t.3

-- ---- the layout

put_first : (p : ℕ) (x : List ℕ) (l : List (ℕ × List ℕ)) → From (p + 1) l → put_at p x l ≡ (p, x) ∷ l
put_first p x [] f = refl
put_first p x (e ∷ es) f = let low : p + 1 ≤ e.0 = f.0 in ap (λ (t : Bool). cond t ((p, x) ∷ e ∷ es) (e ∷ put_at p x es)) (lt-ltb p e.0 (omega arith))

-- adding spans after a header leaves it in front
used_behind : (e : ℕ × List ℕ) (us : List (ℕ × ℕ)) (l : List (ℕ × List ℕ)) → SpansAbove (e.0 + 1) us → with_used us (e ∷ l) ≡ e ∷ with_used us l
used_behind e [] l a = refl
used_behind e (s ∷ ss) l a =
    let low : e.0 + 1 ≤ s.0 = a.0 in
    ap (λ (k : List (ℕ × List ℕ)). put_at s.0 (used_header s.1) k) (used_behind e ss l a.1)
    ∙ ap (λ (t : Bool). cond t ((s.0, used_header s.1) ∷ e ∷ with_used ss l) (e ∷ put_at s.0 (used_header s.1) (with_used ss l))) (le-ltb s.0 e.0 (omega arith))

layout_heads : (p : ℕ) (a : Bool) (bs : List Block) (end : ℕ) → Tiled p a bs end → with_used (used_spans bs) (gap_headers (hole_spans bs)) ≡ heads bs
layout_heads p a [] end t = refl
layout_heads p a (b ∷ bs) end t =
    let place : b.place ≡ p = t.0 in
    let low : 1 ≤ b.words = t.1 in
    let rest = layout_heads (p + b.words) (not b.used) bs end t.3 in
    elim b.used as (λ u. with_used (used_spans (record b { used = u } ∷ bs)) (gap_headers (hole_spans (record b { used = u } ∷ bs))) ≡ heads (record b { used = u } ∷ bs)) [
      | true ↦ ap (λ (l : List (ℕ × List ℕ)). put_at b.place (used_header b.words) l) rest ∙ put_first b.place (used_header b.words) (heads bs) (heads_behind p b (not b.used) bs end t.0 t.1 t.3)
      | false ↦
          used_behind (b.place, hole_header b.words (first_place (hole_spans bs))) (used_spans bs) (gap_headers (hole_spans bs)) (above_weaker (p + b.words) (b.place + 1) (used_spans bs) (omega arith) (used_above (p + b.words) (not b.used) bs end t.3))
          ∙ ap (λ (l : List (ℕ × List ℕ)). (b.place, hole_header b.words (first_place (hole_spans bs))) ∷ l) rest
          ∙ ap (λ (f : ℕ). (b.place, hole_header b.words f) ∷ heads bs) (sym (first_is bs))
    ]

-- the layout of the spans of adjacent blocks is the root and their headers
pub layout_is : (v size : ℕ) (bs : List Block) (ss : List (ℕ × ℕ)) → Tiled heap_start false bs size → ss ≡ used_spans bs → layout_of v size ss ≡ link_word v size (0, 0) (first_hole bs) ∷ heads bs
unfolding layout_of
layout_is v size bs ss t e =
    ap (λ (l : List (ℕ × ℕ)). layout_of v size l) e
    ∙ ap (λ (gs : List (ℕ × ℕ)). (0, root v size (first_place gs)) ∷ with_used (used_spans bs) (gap_headers gs)) (gaps_are_holes heap_start bs size t)
    ∙ ap (λ (l : List (ℕ × List ℕ)). (0, root v size (first_place (hole_spans bs))) ∷ l) (layout_heads heap_start false bs size t)
    ∙ ap (λ (f : ℕ). (0, root v size f) ∷ heads bs) (sym (first_is bs))

-- the layout of a card is that of its spans
pub layout_spans : (card : Card) → layout card ≡ layout_of card.layout card.size (spans card)
unfolding layout layout_of
layout_spans card = refl
