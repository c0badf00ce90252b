-- The chain of holes, and a search along it.
use Rattle.std.proofs.Common.{◌≡◌, ◌≢◌, ℕ, suc, ◌+◌, ◌-◌, ◌<◌, ◌≤◌, Bool, true, false, List, [], ◌∷◌, length, Option, Some, None, refl, sym, ◌∙◌, ap, subst, arith, cond, not}
use Rattle.std.specs.Prelude.{nat_le, ◌==◌}
use Rattle.std.proofs.lemmas.Bool.{leb-true, leb-false, le-leb, lt-leb, ne_eqb, eqb-true}
use Rattle.mc_words.specs.model_device.specs.Bytes.{be2, or_else}
use Rattle.mc_words.specs.model_device.specs.Image.{Closed, look}
use Rattle.mc_words.specs.model_device.specs.Device.{IsSized}
use Rattle.mc_words.specs.model_device.specs.Card.{Card, Block, word, blocks, means}
use Rattle.mc_words.specs.model_device.specs.Layout.{first_hole, first_place, first_fitting, gaps, bad_link, IsWellLaid}
use Rattle.mc_blocks.specs.Chains.{SpansAbove, IsChain, count_of_searched_gaps}
use Rattle.mc_blocks.specs.Blocks.{hole_spans}
use Rattle.mc_blocks.proofs.Steps.{HeaderIs, header_is}
use Rattle.mc_blocks.proofs.Tiles.{Tiled, HeadersRead, first_is}
use Rattle.mc_blocks.proofs.Maps.{above_weaker}
use Rattle.mc_blocks.proofs.Bridge.{WellLaid, well_laid}
use Rattle.mc_words.specs.model_device.proofs.LayoutLemmas.{closed_means}

-- ---- the chain of a well laid image

pub link_none : (b : Block) (due : ℕ) (rest : Option ℕ) (t : Bool) → (b.link == due) ≡ t → cond t rest (Some b.place) ≡ None → (b.link ≡ due) × (rest ≡ None)
link_none b due rest true e h = (eqb-true b.link due e, h)
link_none b due rest false e h = absurd (cc h)

pub holes_above : (p : ℕ) (a : Bool) (bs : List Block) (end : ℕ) → Tiled p a bs end → SpansAbove p (hole_spans bs)
holes_above p a [] end t = tt
holes_above p a (b ∷ bs) end t =
    let place : b.place ≡ p = t.0 in
    let rest : SpansAbove p (hole_spans bs) = above_weaker (p + b.words) p (hole_spans bs) (omega arith) (holes_above (p + b.words) (not b.used) bs end t.3) in
    elim b.used as (λ u. SpansAbove p (hole_spans (record b { used = u } ∷ bs))) [ true ↦ rest | false ↦ (omega arith, rest) ]

pub chain_all : (m : List (List ℕ)) (bs : List Block) (p : ℕ) (a : Bool) (end : ℕ) → 1 ≤ p → Tiled p a bs end → HeadersRead m bs → bad_link bs ≡ None → IsChain m (hole_spans bs)
chain_all m [] p a end low t r h = tt
chain_all m (b ∷ bs) p a end low t r h =
    let place : b.place ≡ p = t.0 in
    let long : 1 ≤ b.words = t.1 in
    let known : HeaderIs b.place (word m b.place) b = header_is b.place (word m b.place) b r.0 in
    let links = link_none b (cond b.used 0 (first_hole bs)) (bad_link bs) (b.link == cond b.used 0 (first_hole bs)) refl h in
    let above = above_weaker (p + b.words) (b.place + 1) (hole_spans bs) (omega arith) (holes_above (p + b.words) (not b.used) bs end t.3) in
    let rest = chain_all m bs (p + b.words) (not b.used) end (omega arith) t.3 r.2 links.1 in
    (elim b.used as (λ u. b.link ≡ cond u 0 (first_hole bs) → IsChain m (hole_spans (record b { used = u } ∷ bs))) [
      | true ↦ λ link. rest
      | false ↦ λ link. (omega arith, r.1, long, sym known.words, sym known.link ∙ link ∙ first_is bs, above, rest)
    ]) links.0

pub chain_parts : (x first : ℕ) (rest : Option ℕ) (t : Bool) → (x == first) ≡ t → or_else (cond t None (Some 0)) rest ≡ None → (x ≡ first) × (rest ≡ None)
chain_parts x first rest true e h = (eqb-true x first e, h)
chain_parts x first rest false e h = absurd (cc h)

-- the gaps of the card of an image are its holes and its chain
pub record GapChain (m : List (List ℕ)) : Type 0 where
  pub gaps : gaps (means m) ≡ hole_spans (blocks m)
  pub chain : IsChain m (hole_spans (blocks m))
  pub first : be2 (word m 0) 6 ≡ first_place (hole_spans (blocks m))

pub chain_of : (m : List (List ℕ)) → IsSized m → look m ≡ Closed → IsWellLaid m → GapChain m
chain_of m image closed h =
    let l : WellLaid m = well_laid m image closed h in
    let root = chain_parts (be2 (word m 0) 6) (first_hole (blocks m)) (bad_link (blocks m)) (be2 (word m 0) 6 == first_hole (blocks m)) refl l.chain in
    record {
      gaps = ap (λ (k : Card). gaps k) (closed_means m closed) ∙ l.gaps;
      chain = chain_all m (blocks m) 131 false (length m) (omega arith) l.tiled l.read root.1;
      first = root.0 ∙ first_is (blocks m);
    }

-- ---- a search

-- the number of words from a place to the end; place 0 is the end of a chain
abbrev pub left_of : ℕ → ℕ → ℕ
left_of size place = cond (place == 0) 0 (size - place)

-- the state of a search: the gaps that are left, from a place on, and the steps so far
pub record Search (m : List (List ℕ)) (need : ℕ) (whole : List (ℕ × ℕ)) (place start steps : ℕ) : Type 0 where
  pub rest : List (ℕ × ℕ)
  pub chain : IsChain m rest
  pub here : place ≡ first_place rest
  pub same : first_fitting need whole ≡ first_fitting need rest
  pub ticks : steps + count_of_searched_gaps need rest ≡ start + (1 + count_of_searched_gaps need whole)

-- the facts of a hole that the search reads
pub record OnTheWay (m : List (List ℕ)) (need : ℕ) (whole : List (ℕ × ℕ)) (place start steps : ℕ) : Type 0 where
  pub within : place < length m
  pub found : need ≤ be2 (word m place) 2 → (first_fitting need whole ≡ Some place) × (steps + 1 ≡ start + (1 + count_of_searched_gaps need whole))
  pub next : be2 (word m place) 2 < need → Search m need whole (be2 (word m place) 4) start (steps + 1)
  pub nearer : left_of (length m) (be2 (word m place) 4) < left_of (length m) place

pub next_nearer : (size place : ℕ) (gs : List (ℕ × ℕ)) → 1 ≤ place → place < size → SpansAbove (place + 1) gs → left_of size (first_place gs) < left_of size place
next_nearer size place gs low high a = grind (arith, ne_eqb)

way : (m : List (List ℕ)) (need : ℕ) (whole rest : List (ℕ × ℕ)) (place start steps : ℕ) → IsChain m rest → place ≡ first_place rest → first_fitting need whole ≡ first_fitting need rest
    → steps + count_of_searched_gaps need rest ≡ start + (1 + count_of_searched_gaps need whole) → place ≢ 0 → OnTheWay m need whole place start steps
way m need whole [] place start steps chain here same ticks ne = absurd (ne here)
way m need whole (g ∷ gs) place start steps chain here same ticks ne =
    let low : 1 ≤ g.0 = chain.0 in
    let high : g.0 + g.1 ≤ length m = chain.1 in
    let long : 1 ≤ g.1 = chain.2 in
    subst (λ (p : ℕ). OnTheWay m need whole p start steps) (sym here)
    (record {
      within = omega arith;
      found = λ h.
          let yes : nat_le need g.1 ≡ true = le-leb need g.1 (subst (λ (n : ℕ). need ≤ n) chain.3 h) in
          let one : count_of_searched_gaps need (g ∷ gs) ≡ 1 = ap (λ (t : Bool). suc (cond t 0 (count_of_searched_gaps need gs))) yes in
          (same ∙ ap (λ (t : Bool). cond t (Some g.0) (first_fitting need gs)) yes, ap (λ (n : ℕ). steps + n) (sym one) ∙ ticks);
      next = λ h.
          let no : nat_le need g.1 ≡ false = lt-leb need g.1 (subst (λ (n : ℕ). n < need) chain.3 h) in
          let more : count_of_searched_gaps need (g ∷ gs) ≡ suc (count_of_searched_gaps need gs) = ap (λ (t : Bool). suc (cond t 0 (count_of_searched_gaps need gs))) no in
          record {
            rest = gs;
            chain = chain.6;
            here = chain.4;
            same = same ∙ ap (λ (t : Bool). cond t (Some g.0) (first_fitting need gs)) no;
            ticks = omega (arith, ticks, more);
          };
      nearer = subst (λ (p : ℕ). left_of (length m) p < left_of (length m) g.0) (sym chain.4) (next_nearer (length m) g.0 gs low (omega arith) chain.5);
    })

pub on_the_way : (m : List (List ℕ)) (need : ℕ) (whole : List (ℕ × ℕ)) (place start steps : ℕ) → Search m need whole place start steps → place ≢ 0 → OnTheWay m need whole place start steps
on_the_way m need whole place start steps s ne = way m need whole s.rest place start steps s.chain s.here s.same s.ticks ne

none_left : (m : List (List ℕ)) (need : ℕ) (rest : List (ℕ × ℕ)) → IsChain m rest → first_place rest ≡ 0 → first_fitting need rest ≡ None
none_left m need [] chain h = refl
none_left m need (g ∷ gs) chain h = let low : 1 ≤ g.0 = chain.0 in absurd (omega (arith, h))

all_looked : (m : List (List ℕ)) (need : ℕ) (rest : List (ℕ × ℕ)) → IsChain m rest → first_place rest ≡ 0 → count_of_searched_gaps need rest ≡ 0
all_looked m need [] chain h = refl
all_looked m need (g ∷ gs) chain h = let low : 1 ≤ g.0 = chain.0 in absurd (omega (arith, h))

-- if the search reaches the end of the chain, no hole is long enough
pub search_ends : (m : List (List ℕ)) (need : ℕ) (whole : List (ℕ × ℕ)) (place start steps : ℕ) → Search m need whole place start steps → place ≡ 0
    → (first_fitting need whole ≡ None) × (steps ≡ start + (1 + count_of_searched_gaps need whole))
search_ends m need whole place start steps s h =
    let end : first_place s.rest ≡ 0 = sym s.here ∙ h in
    let none = all_looked m need s.rest s.chain end in
    let ticks = s.ticks in
    (s.same ∙ none_left m need s.rest s.chain end, omega (arith, none, ticks))

pub search_begins : (m : List (List ℕ)) (need place start steps : ℕ) (x : List ℕ) → IsSized m → look m ≡ Closed → IsWellLaid m → x ≡ word m 0 → place ≡ be2 x 6 → steps ≡ start + 1 → Search m need (gaps (means m)) place start steps
search_begins m need place start steps x image closed h is here one =
    let c : GapChain m = chain_of m image closed h in
    let count : count_of_searched_gaps need (gaps (means m)) ≡ count_of_searched_gaps need (hole_spans (blocks m)) = ap (λ (l : List (ℕ × ℕ)). count_of_searched_gaps need l) c.gaps in
    record {
      rest = hole_spans (blocks m);
      chain = c.chain;
      here = here ∙ ap (λ (w : List ℕ). be2 w 6) is ∙ c.first;
      same = ap (λ (l : List (ℕ × ℕ)). first_fitting need l) c.gaps;
      ticks = omega (arith, count, one);
    }

-- after a hole that is too short the search goes on
pub search_on : (m : List (List ℕ)) (need : ℕ) (whole : List (ℕ × ℕ)) (place start steps : ℕ) (x : List ℕ) (words next after : ℕ) → Search m need whole place start steps → place ≢ 0 → x ≡ word m place
    → words ≡ be2 x 2 → nat_le need words ≡ false → next ≡ be2 x 4 → after ≡ steps + 1 → Search m need whole next start after
search_on m need whole place start steps x words next after s ne is e less f one = grind (arith, leb-false, way, on_the_way)

-- a hole that is long enough is the result
pub search_found : (m : List (List ℕ)) (need : ℕ) (whole : List (ℕ × ℕ)) (place start steps : ℕ) (x : List ℕ) (words after : ℕ) → Search m need whole place start steps → place ≢ 0 → x ≡ word m place
    → words ≡ be2 x 2 → nat_le need words ≡ true → after ≡ steps + 1 → (Some place ≡ first_fitting need whole) × (after ≡ start + (1 + count_of_searched_gaps need whole))
search_found m need whole place start steps x words after s ne is e enough one = grind (arith, leb-true, way, on_the_way)
