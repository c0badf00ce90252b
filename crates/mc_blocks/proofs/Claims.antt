-- The changes from a link of the chain on, if they lie after further blocks.
use Rattle.std.proofs.Common.{◌≡◌, ◌≢◌, ℕ, ◌+◌, ◌<◌, ◌≤◌, Bool, true, false, List, ◌∷◌, refl, sym, ◌∙◌, ap, arith, cond}
use Rattle.std.specs.Prelude.{nat_lt}
use Rattle.std.proofs.lemmas.Bool.{lt-ltb, le-ltb, ne_eqb}
use Rattle.mc_words.specs.model_device.specs.Card.{Block}
use Rattle.mc_words.specs.model_device.specs.Layout.{first_hole, hole_header, used_header, root}
use Rattle.mc_blocks.specs.Blocks.{hole_spans}
use Rattle.mc_blocks.specs.Plans.{changes, link_word, gap_before, gaps_behind}
use Rattle.mc_blocks.proofs.Tiles.{Tiled}
use Rattle.mc_blocks.proofs.Changes.{from_weaker, under_same, second_same}
use Rattle.mc_blocks.proofs.Heads.{heads, heads_behind}

-- the changes from a link g on are `due` of the gap before p and the gaps from p on
unfoldable pub Claim : ℕ → ℕ → ℕ → (ℕ × ℕ → List (ℕ × ℕ) → List (ℕ × List ℕ)) → ℕ × ℕ → List Block → List Block → Type 0
Claim v s p due g bs new =
    changes (link_word v s g (first_hole bs) ∷ heads bs) (link_word v s g (first_hole new) ∷ heads new) ≡ due (gap_before p g (hole_spans bs)) (gaps_behind p (hole_spans bs))

pub not_before : (p : ℕ) → nat_lt p p ≡ false
not_before p = le-ltb p p (omega arith)

later_used : (v s p end : ℕ) (due : ℕ × ℕ → List (ℕ × ℕ) → List (ℕ × List ℕ)) (g : ℕ × ℕ) (b : Block) (a : Bool) (bs new : List Block) → g.0 < b.place → 1 ≤ b.words → Tiled (b.place + b.words) a bs end → Tiled (b.place + b.words) a new end
    → Claim v s p due g bs new → Claim v s p due g (record b { used = true } ∷ bs) (record b { used = true } ∷ new)
unfolding Claim
later_used v s p end due g b a bs new gap long t u rest =
    second_same (link_word v s g (first_hole bs)) (link_word v s g (first_hole new)) (b.place, used_header b.words) (heads bs) (heads new) refl gap (heads_behind b.place b a bs end refl long t) (heads_behind b.place b a new end refl long u) ∙ rest

later_free : (v s p end : ℕ) (due : ℕ × ℕ → List (ℕ × ℕ) → List (ℕ × List ℕ)) (g : ℕ × ℕ) (b : Block) (a : Bool) (bs new : List Block) → g.0 < b.place → b.place < p → 1 ≤ b.words → Tiled (b.place + b.words) a bs end → Tiled (b.place + b.words) a new end
    → Claim v s p due (b.place, b.words) bs new → Claim v s p due g (record b { used = false } ∷ bs) (record b { used = false } ∷ new)
unfolding Claim
later_free v s p end due g b a bs new gap before long t u rest =
    let ne : b.place ≢ 0 = λ e. absurd (omega (arith, e)) in
    let f = heads_behind b.place b a bs end refl long t in
    let h = heads_behind b.place b a new end refl long u in
    let word : (f : ℕ) → link_word v s (b.place, b.words) f ≡ (b.place, hole_header b.words f) = λ f. ap (λ (x : Bool). (b.place, cond x (root v s f) (hole_header b.words f))) (ne_eqb b.place 0 ne) in
    under_same (link_word v s g b.place) ((b.place, hole_header b.words (first_hole bs)) ∷ heads bs) ((b.place, hole_header b.words (first_hole new)) ∷ heads new)
    (omega arith, from_weaker (b.place + 1) (g.0 + 1) (heads bs) (omega arith) f) (omega arith, from_weaker (b.place + 1) (g.0 + 1) (heads new) (omega arith) h)
    ∙ sym (ap (λ (e : ℕ × List ℕ). changes (e ∷ heads bs) ((b.place, hole_header b.words (first_hole new)) ∷ heads new)) (word (first_hole bs)))
    ∙ sym (ap (λ (e : ℕ × List ℕ). changes (link_word v s (b.place, b.words) (first_hole bs) ∷ heads bs) (e ∷ heads new)) (word (first_hole new)))
    ∙ rest
    ∙ sym (ap (λ (x : Bool). due (cond x (gap_before p (b.place, b.words) (hole_spans bs)) g) (cond x (gaps_behind p (hole_spans bs)) ((b.place, b.words) ∷ hole_spans bs))) (lt-ltb b.place p before))

-- a block before the changes is kept
pub later_either : (v s p end : ℕ) (due : ℕ × ℕ → List (ℕ × ℕ) → List (ℕ × List ℕ)) (g : ℕ × ℕ) (b : Block) (a : Bool) (bs new : List Block) (u : Bool) → g.0 < b.place → b.place < p → 1 ≤ b.words → Tiled (b.place + b.words) a bs end → Tiled (b.place + b.words) a new end
    → (u ≡ true → Claim v s p due g bs new) → (u ≡ false → Claim v s p due (b.place, b.words) bs new) → Claim v s p due g (record b { used = u } ∷ bs) (record b { used = u } ∷ new)
later_either v s p end due g b a bs new true gap before long t n behind-used behind-hole = later_used v s p end due g b a bs new gap long t n (behind-used refl)
later_either v s p end due g b a bs new false gap before long t n behind-used behind-hole = later_free v s p end due g b a bs new gap before long t n (behind-hole refl)
