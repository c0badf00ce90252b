-- Links of the chain before and after a place.
use Rattle.std.proofs.Common.{◌≡◌, ◌≢◌, ◌⊎◌, ℕ, ◌+◌, ◌<◌, ◌≤◌, Bool, true, false, ◌&&◌, List, [], ◌∷◌, length, refl, sym, ◌∙◌, ap, subst, inl, inr, arith, cond}
use Rattle.std.specs.Prelude.{nat_lt, nat_le, ◌==◌}
use Rattle.std.proofs.lemmas.Bool.{lt-ltb, le-ltb, ltb-true, eq-eqb, ne_eqb, eqb-true, and_parts, leb-true, or_cases, not-true, eqb-false}
use Rattle.mc_words.specs.model_device.specs.Bytes.{be2}
use Rattle.mc_words.specs.model_device.specs.Image.{Closed, look}
use Rattle.mc_words.specs.model_device.specs.Device.{IsSized}
use Rattle.mc_words.specs.model_device.specs.Card.{means, word, blocks}
use Rattle.mc_words.specs.model_device.specs.Layout.{first_place, gaps, IsWellLaid}
use Rattle.mc_blocks.specs.Chains.{SpansAbove, IsChain}
use Rattle.mc_blocks.specs.Blocks.{hole_spans}
use Rattle.mc_blocks.specs.Plans.{names_before, gap_before, gaps_behind, joined_words, joined_next, has_room}
use Rattle.mc_blocks.proofs.Search.{GapChain, chain_of, left_of, next_nearer}
use Rattle.mc_blocks.proofs.Taking.{room_from}

chain_cut : (m : List (List ℕ)) (p : ℕ) (g : ℕ × ℕ) (gs : List (ℕ × ℕ)) (t : Bool) → IsChain m (g ∷ gs) → IsChain m (gaps_behind p gs) → IsChain m (cond t (gaps_behind p gs) (g ∷ gs))
chain_cut m p g gs true c rest = rest
chain_cut m p g gs false c rest = c

-- the gaps from a place on are a chain
pub chain_behind : (m : List (List ℕ)) (p : ℕ) (gs : List (ℕ × ℕ)) → IsChain m gs → IsChain m (gaps_behind p gs)
chain_behind m p [] c = tt
chain_behind m p (g ∷ gs) c = chain_cut m p g gs (nat_lt g.0 p) c (chain_behind m p gs c.6)

pub gaps_chain : (m : List (List ℕ)) → IsSized m → look m ≡ Closed → IsWellLaid m → IsChain m (gaps (means m))
gaps_chain m image closed h = let c : GapChain m = chain_of m image closed h in subst (λ (l : List (ℕ × ℕ)). IsChain m l) (sym c.gaps) c.chain

-- ---- towards a place

-- the state of the walk towards p: a link, and the gaps that are left after it
pub record Trail (m : List (List ℕ)) (p : ℕ) (whole : List (ℕ × ℕ)) (place words next : ℕ) : Type 0 where
  pub rest : List (ℕ × ℕ)
  pub chain : IsChain m rest
  pub here : next ≡ first_place rest
  pub before : gap_before p (0, 0) whole ≡ gap_before p (place, words) rest
  pub behind : gaps_behind p whole ≡ gaps_behind p rest

pub trail_begins : (m : List (List ℕ)) (p next : ℕ) (x : List ℕ) → IsSized m → look m ≡ Closed → IsWellLaid m → x ≡ word m 0 → next ≡ be2 x 6 → Trail m p (gaps (means m)) 0 0 next
trail_begins m p next x image closed h is here =
    let c : GapChain m = chain_of m image closed h in
    record {
      rest = hole_spans (blocks m);
      chain = c.chain;
      here = here ∙ ap (λ (w : List ℕ). be2 w 6) is ∙ c.first;
      before = ap (λ (l : List (ℕ × ℕ)). gap_before p (0, 0) l) c.gaps;
      behind = ap (λ (l : List (ℕ × ℕ)). gaps_behind p l) c.gaps;
    }

-- the facts of the next hole if it is before p
pub record Ahead (m : List (List ℕ)) (p : ℕ) (whole : List (ℕ × ℕ)) (next : ℕ) : Type 0 where
  pub within : next < length m
  pub on : Trail m p whole next (be2 (word m next) 2) (be2 (word m next) 4)
  pub nearer : left_of (length m) (be2 (word m next) 4) < left_of (length m) next

go : (m : List (List ℕ)) (p place words next : ℕ) (whole rest : List (ℕ × ℕ)) → IsChain m rest → next ≡ first_place rest → gap_before p (0, 0) whole ≡ gap_before p (place, words) rest → gaps_behind p whole ≡ gaps_behind p rest → next ≢ 0 → next < p → Ahead m p whole next
go m p place words next whole [] c here before behind ne lt = absurd (ne here)
go m p place words next whole (g ∷ gs) c here before behind ne lt =
    let low : 1 ≤ g.0 = c.0 in
    let high : g.0 + g.1 ≤ length m = c.1 in
    let long : 1 ≤ g.1 = c.2 in
    let less : nat_lt g.0 p ≡ true = lt-ltb g.0 p (subst (λ (n : ℕ). n < p) here lt) in
    subst (λ (n : ℕ). Ahead m p whole n) (sym here)
    (record {
      within = omega arith;
      on = record {
        rest = gs;
        chain = c.6;
        here = c.4;
        before = before ∙ ap (λ (t : Bool). cond t (gap_before p g gs) (place, words)) less ∙ ap (λ (n : ℕ). gap_before p (g.0, n) gs) (sym c.3);
        behind = behind ∙ ap (λ (t : Bool). cond t (gaps_behind p gs) (g ∷ gs)) less;
      };
      nearer = subst (λ (n : ℕ). left_of (length m) n < left_of (length m) g.0) (sym c.4) (next_nearer (length m) g.0 gs low (omega arith) c.5);
    })

before_parts : (next p : ℕ) → names_before next p ≡ true → (next ≢ 0) × (next < p)
before_parts next p h = grind (arith, and_parts, eqb-false, not-true, ltb-true)

pub ahead : (m : List (List ℕ)) (p : ℕ) (whole : List (ℕ × ℕ)) (place words next : ℕ) → Trail m p whole place words next → names_before next p ≡ true → Ahead m p whole next
ahead m p whole place words next t h = let parts = before_parts next p h in go m p place words next whole t.rest t.chain t.here t.before t.behind parts.0 parts.1

pub trail_on : (m : List (List ℕ)) (p : ℕ) (whole : List (ℕ × ℕ)) (place words next place' words' next' : ℕ) → Trail m p whole place words next → names_before next p ≡ true
    → place' ≡ next → words' ≡ be2 (word m next) 2 → next' ≡ be2 (word m next) 4 → Trail m p whole place' words' next'
trail_on m p whole place words next place' words' next' t h a b c = grind (arith, ahead)

-- the walk ends at a link that names no hole before p
stop : (m : List (List ℕ)) (p : ℕ) (g : ℕ × ℕ) (rest : List (ℕ × ℕ)) → IsChain m rest → names_before (first_place rest) p ≡ false → (gap_before p g rest ≡ g) × (gaps_behind p rest ≡ rest)
stop m p g rest c h = grind (arith, ne_eqb)

-- ---- the gap after a hole

-- the facts of the next gap if a hole at p touches it
pub record Meets (m : List (List ℕ)) (p n next : ℕ) (hs : List (ℕ × ℕ)) : Type 0 where
  pub within : next < length m
  pub ends : next + be2 (word m next) 2 ≤ length m
  pub words : n + be2 (word m next) 2 ≡ joined_words p n hs
  pub names : be2 (word m next) 4 ≡ joined_next p n hs

meet : (m : List (List ℕ)) (p n next : ℕ) (hs : List (ℕ × ℕ)) → IsChain m hs → 1 ≤ p → next ≡ first_place hs → next ≡ p + n → Meets m p n next hs
meet m p n next [] c low here same = absurd (omega (arith, here, same))
meet m p n next (g ∷ gs) c low here same =
    let is : (g.0 == p + n) ≡ true = eq-eqb g.0 (p + n) (sym here ∙ same) in
    let high : g.0 + g.1 ≤ length m = c.1 in
    let long : 1 ≤ g.1 = c.2 in
    subst (λ (q : ℕ). Meets m p n q (g ∷ gs)) (sym here)
    (record {
      within = omega arith;
      ends = omega (arith, c.3);
      words = ap (λ (k : ℕ). n + k) c.3 ∙ sym (ap (λ (t : Bool). cond t (n + g.1) n) is);
      names = c.4 ∙ sym (ap (λ (t : Bool). cond t (first_place gs) g.0) is);
    })

pub gap_meets : (m : List (List ℕ)) (p n next : ℕ) → IsSized m → look m ≡ Closed → IsWellLaid m → 1 ≤ p → next ≡ first_place (gaps_behind p (gaps (means m))) → next ≡ p + n → Meets m p n next (gaps_behind p (gaps (means m)))
gap_meets m p n next image closed h low here same = meet m p n next (gaps_behind p (gaps (means m))) (chain_behind m p (gaps (means m)) (gaps_chain m image closed h)) low here same

joined_test : (m : List (List ℕ)) (p n : ℕ) (g : ℕ × ℕ) (t : Bool) → (g.0 == p + n) ≡ t → g.0 + g.1 ≤ length m → p + n ≤ length m → p + cond t (n + g.1) n ≤ length m
joined_test m p n g true e high h = let is : g.0 ≡ p + n = eqb-true g.0 (p + n) e in omega arith
joined_test m p n g false e high h = h

-- a hole that is joined with the next if they touch ends within the device
pub joined_within : (m : List (List ℕ)) (p n : ℕ) (hs : List (ℕ × ℕ)) → IsChain m hs → p + n ≤ length m → p + joined_words p n hs ≤ length m
joined_within m p n [] c h = h
joined_within m p n (g ∷ gs) c h = joined_test m p n g (g.0 == p + n) refl c.1 h

-- ---- the hole at a place

pub record HoleAt (m : List (List ℕ)) (p need : ℕ) (gs : List (ℕ × ℕ)) : Type 0 where
  pub long : need ≤ be2 (word m p) 2
  pub ends : p + be2 (word m p) 2 ≤ length m
  pub some : 1 ≤ be2 (word m p) 2
  pub rest : List (ℕ × ℕ)
  pub behind : gaps_behind p gs ≡ (p, be2 (word m p) 2) ∷ rest
  pub next : be2 (word m p) 4 ≡ first_place rest

hole_first : (m : List (List ℕ)) (need : ℕ) (g : ℕ × ℕ) (gs : List (ℕ × ℕ)) → IsChain m (g ∷ gs) → need ≤ g.1 → HoleAt m g.0 need (g ∷ gs)
hole_first m need g gs c fits =
    record {
      long = omega (arith, c.3);
      ends = omega (arith, c.3, c.1);
      some = omega (arith, c.3, c.2);
      rest = gs;
      behind = ap (λ (t : Bool). cond t (gaps_behind g.0 gs) (g ∷ gs)) (le-ltb g.0 g.0 (omega arith)) ∙ ap (λ (n : ℕ). (g.0, n) ∷ gs) (sym c.3);
      next = c.4;
    }

pub hole_at : (m : List (List ℕ)) (p need : ℕ) (gs : List (ℕ × ℕ)) → IsChain m gs → has_room p need gs ≡ true → HoleAt m p need gs
hole_at m p need [] c h = absurd (cc h)
hole_at m p need (g ∷ gs) c h =
    elim (or_cases (g.0 == p && nat_le need g.1) (has_room p need gs) h) [
      | inl here ↦
          let parts = and_parts (g.0 == p) (nat_le need g.1) here in
          subst (λ (q : ℕ). HoleAt m q need (g ∷ gs)) (eqb-true g.0 p parts.0) (hole_first m need g gs c (leb-true need g.1 parts.1))
      | inr later ↦
          let far : g.0 + 1 ≤ p = room_from (g.0 + 1) p need gs c.5 later in
          let there : HoleAt m p need gs = hole_at m p need gs c.6 later in
          record { long = there.long; ends = there.ends; some = there.some; rest = there.rest; behind = ap (λ (t : Bool). cond t (gaps_behind p gs) (g ∷ gs)) (lt-ltb g.0 p (omega arith)) ∙ there.behind; next = there.next }
    ]

-- ---- the gap before a place

-- the gap before a place is the root, or a hole that ends within the device and begins before the place
pub BeforeAt : List (List ℕ) → ℕ → ℕ × ℕ → Type 0
BeforeAt m p g = ((g.0 ≡ 0) × (g.1 ≡ 0)) ⊎ ((131 ≤ g.0) × (g.0 + g.1 ≤ length m) × (g.0 < p))

before_kind : (m : List (List ℕ)) (p : ℕ) (g h : ℕ × ℕ) (more : ℕ × ℕ) (t : Bool) → nat_lt h.0 p ≡ t → BeforeAt m p g → 131 ≤ h.0 → h.0 + h.1 ≤ length m → (BeforeAt m p h → BeforeAt m p more) → BeforeAt m p (cond t more g)
unfolding BeforeAt
before_kind m p g h more true e at low high rest = rest (inr (low, high, ltb-true h.0 p e))
before_kind m p g h more false e at low high rest = at

before_all : (m : List (List ℕ)) (p : ℕ) (g : ℕ × ℕ) (gs : List (ℕ × ℕ)) → BeforeAt m p g → SpansAbove 131 gs → IsChain m gs → BeforeAt m p (gap_before p g gs)
before_all m p g [] at a c = at
before_all m p g (h ∷ hs) at a c = before_kind m p g h (gap_before p h hs) (nat_lt h.0 p) refl at a.0 c.1 (λ b. before_all m p h hs b a.1 c.6)

pub before_at : (m : List (List ℕ)) (p : ℕ) (gs : List (ℕ × ℕ)) → SpansAbove 131 gs → IsChain m gs → BeforeAt m p (gap_before p (0, 0) gs)
unfolding BeforeAt
before_at m p gs a c = before_all m p (0, 0) gs (inl (refl, refl)) a c

pub before_cases : (m : List (List ℕ)) (p : ℕ) (g : ℕ × ℕ) → BeforeAt m p g → ((g.0 ≡ 0) × (g.1 ≡ 0)) ⊎ ((131 ≤ g.0) × (g.0 + g.1 ≤ length m) × (g.0 < p))
unfolding BeforeAt
before_cases m p g at = at
