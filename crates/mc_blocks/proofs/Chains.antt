-- Holes and links along a walk by lengths.
use Rattle.std.proofs.Common.{◌≡◌, ◌≢◌, ℕ, ◌+◌, Bool, true, false, List, length, Some, None, ◌∙◌, ap, arith, cond}
use Rattle.std.specs.Prelude.{◌==◌}
use Rattle.std.proofs.lemmas.Bool.{eq-eqb, ne_eqb}
use Rattle.mc_words.specs.model_device.specs.Bytes.{or_else, be2}
use Rattle.mc_words.specs.model_device.specs.Card.{Block, word, header, blocks}
use Rattle.mc_words.specs.model_device.specs.Layout.{first_hole, bad_link, bad_chain}
use Rattle.mc_blocks.specs.Blocks.{block_within, blocks_at, used_spans, hole_spans}
use Rattle.mc_blocks.proofs.Steps.{blocks_step, blocks_all}

-- the first hole from a place on is the block there if that is a hole, and else the first after it
pub hole_here : (m : List (List ℕ)) (p : ℕ) (b : Block) → Some b ≡ block_within (length m) (header p (word m p)) → b.used ≡ false → first_hole (blocks_at m p) ≡ b.place
hole_here m p b h e = ap first_hole (blocks_step m p b h) ∙ ap (λ (t : Bool). cond t (first_hole (blocks_at m (b.place + b.words))) b.place) e

pub hole_behind : (m : List (List ℕ)) (p : ℕ) (b : Block) → Some b ≡ block_within (length m) (header p (word m p)) → b.used ≡ true → first_hole (blocks_at m p) ≡ first_hole (blocks_at m (b.place + b.words))
hole_behind m p b h e = ap first_hole (blocks_step m p b h) ∙ ap (λ (t : Bool). cond t (first_hole (blocks_at m (b.place + b.words))) b.place) e

-- the first wrong link from a place on is that of the block there if it is wrong, and else the first after it
pub link_wrong : (m : List (List ℕ)) (p due : ℕ) (b : Block) → Some b ≡ block_within (length m) (header p (word m p)) → due ≡ cond b.used 0 (first_hole (blocks_at m (b.place + b.words)))
    → b.link ≢ due → bad_link (blocks_at m p) ≡ Some b.place
link_wrong m p due b h e ne = grind (arith, blocks_step, ne_eqb)

pub link_right : (m : List (List ℕ)) (p due : ℕ) (b : Block) → Some b ≡ block_within (length m) (header p (word m p)) → due ≡ cond b.used 0 (first_hole (blocks_at m (b.place + b.words)))
    → b.link ≡ due → bad_link (blocks_at m p) ≡ bad_link (blocks_at m (b.place + b.words))
link_right m p due b h e is = grind (arith, blocks_step, eq-eqb)

-- the first wrong link is that of the root if it is wrong, and else the first of the blocks
root_read : (m : List (List ℕ)) (link first : ℕ) → link ≡ be2 (word m 0) 6 → first ≡ first_hole (blocks_at m 131)
    → bad_chain m (blocks m) ≡ or_else (cond (link == first) None (Some 0)) (bad_link (blocks m))
root_read m link first e f = grind (arith, blocks_all)

pub root_wrong : (m : List (List ℕ)) (link first : ℕ) → link ≡ be2 (word m 0) 6 → first ≡ first_hole (blocks_at m 131) → link ≢ first → bad_chain m (blocks m) ≡ Some 0
root_wrong m link first e f ne =
    root_read m link first e f ∙ ap (λ (t : Bool). or_else (cond t None (Some 0)) (bad_link (blocks m))) (ne_eqb link first ne)

pub root_right : (m : List (List ℕ)) (link first : ℕ) → link ≡ be2 (word m 0) 6 → first ≡ first_hole (blocks_at m 131) → link ≡ first → bad_chain m (blocks m) ≡ bad_link (blocks m)
root_right m link first e f is =
    root_read m link first e f ∙ ap (λ (t : Bool). or_else (cond t None (Some 0)) (bad_link (blocks m))) (eq-eqb link first is)

-- a block counts as used or as a hole
pub used_more : (m : List (List ℕ)) (p : ℕ) (b : Block) → Some b ≡ block_within (length m) (header p (word m p)) → b.used ≡ true
    → (length (used_spans (blocks_at m p)) ≡ length (used_spans (blocks_at m (b.place + b.words))) + 1) × (length (hole_spans (blocks_at m p)) ≡ length (hole_spans (blocks_at m (b.place + b.words))))
used_more m p b h e = grind (arith, blocks_step)

pub hole_more : (m : List (List ℕ)) (p : ℕ) (b : Block) → Some b ≡ block_within (length m) (header p (word m p)) → b.used ≡ false
    → (length (used_spans (blocks_at m p)) ≡ length (used_spans (blocks_at m (b.place + b.words)))) × (length (hole_spans (blocks_at m p)) ≡ length (hole_spans (blocks_at m (b.place + b.words))) + 1)
hole_more m p b h e = grind (arith, blocks_step)
