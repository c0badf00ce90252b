-- Freeing a used block: the blocks after it, and the headers that change.
use Rattle.std.proofs.Common.{◌≡◌, ◌≢◌, ◌⊎◌, ℕ, ◌+◌, ◌<◌, ◌≤◌, Bool, true, false, ◌&&◌, ◌||◌, List, [], ◌∷◌, refl, sym, ◌∙◌, ap, subst, inl, inr, arith, cond, not}
use Rattle.std.specs.Prelude.{◌==◌}
use Rattle.std.proofs.lemmas.Bool.{lt-ltb, le-ltb, eq-eqb, ne_eqb, eqb-true, eqb-false, or_cases, and_from, and_right, not-false, not-true, cases_eq, false_from_ne_true}
use Rattle.mc_words.specs.model_device.specs.Card.{Block, heap_start}
use Rattle.mc_words.specs.model_device.specs.Layout.{first_hole, first_place, hole_header, used_header}
use Rattle.mc_blocks.specs.Chains.{SpansAbove}
use Rattle.mc_blocks.specs.Blocks.{used_spans, hole_spans}
use Rattle.mc_blocks.specs.Plans.{changes, layout_of, link_word, has_span, without, gap_before, gaps_behind, joined_words, joined_next, touches, free_list}
use Rattle.mc_blocks.proofs.Tiles.{Tiled, first_is}
use Rattle.mc_blocks.proofs.Maps.{above_weaker}
use Rattle.mc_blocks.proofs.Bridge.{used_above}
use Rattle.mc_blocks.proofs.Search.{holes_above}
use Rattle.mc_blocks.proofs.Changes.{From, from_weaker, under_same, under_other, links_differ, lengths_differ, back}
use Rattle.mc_blocks.proofs.Heads.{heads, heads_from, heads_behind, heads_same, layout_is}
use Rattle.mc_blocks.proofs.Claims.{Claim, later_either}
use Rattle.mc_blocks.proofs.Taking.{free_block, tiled_end, first_range}
use Rattle.mc_words.specs.model_device.proofs.BoolLemmas.{and_false}

-- a hole of k words at q and the blocks after it, of which the first joins it if it is a hole
abbrev pub with_hole : ℕ → ℕ → List Block → List Block
with_hole q k [] = free_block q k ∷ []
with_hole q k (c ∷ cs) = cond c.used (free_block q k ∷ c ∷ cs) (free_block q (k + c.words) ∷ cs)

-- the blocks after such a hole
abbrev rest_after : List Block → List Block
rest_after [] = []
rest_after (c ∷ cs) = cond c.used (c ∷ cs) cs

-- whether b is a hole and the next block is at p
abbrev touched : ℕ → Block → List Block → Bool
touched p b [] = false
touched p b (c ∷ cs) = not b.used && c.place == p

abbrev head_words : List Block → ℕ
head_words [] = 0
head_words (c ∷ cs) = c.words

abbrev tail_blocks : List Block → List Block
tail_blocks [] = []
tail_blocks (c ∷ cs) = cs

-- the blocks after the one at p is freed
abbrev pub free_in : ℕ → List Block → List Block
free_in p [] = []
free_in p (b ∷ bs) =
    cond (b.place == p) (with_hole p b.words bs) (
    cond (touched p b bs) (with_hole b.place (b.words + head_words bs) (tail_blocks bs)) (b ∷ free_in p bs)
    )

-- the number of words of the span at p
abbrev pub words_at : ℕ → List (ℕ × ℕ) → ℕ
words_at p [] = 0
words_at p (s ∷ ss) = cond (s.0 == p) s.1 (words_at p ss)

-- ---- a hole that may join the next

with_first : (q k : ℕ) (bs : List Block) → first_hole (with_hole q k bs) ≡ q
with_first q k [] = refl
with_first q k (c ∷ cs) = elim c.used as (λ u. first_hole (with_hole q k (record c { used = u } ∷ cs)) ≡ q) [ true ↦ refl | false ↦ refl ]

not_joined : (q k r : ℕ) (hs : List (ℕ × ℕ)) → r ≡ q + k → SpansAbove (r + 1) hs → (joined_words q k hs ≡ k) × (joined_next q k hs ≡ first_place hs)
not_joined q k r hs e a = grind (arith, ne_eqb)

-- the headers of a hole and the blocks after it
with_heads : (q k : ℕ) (a : Bool) (bs : List Block) (end : ℕ) → Tiled (q + k) a bs end
    → heads (with_hole q k bs) ≡ (q, hole_header (joined_words q k (hole_spans bs)) (joined_next q k (hole_spans bs))) ∷ heads (rest_after bs)
with_heads q k a bs end t = grind (arith, not_joined, above_weaker, holes_above, heads, first_is, eq-eqb)

-- a header in front that the new list lacks adds no change
dropped : (e : ℕ × List ℕ) (old new : List (ℕ × List ℕ)) → From (e.0 + 1) new → changes (e ∷ old) new ≡ changes old new
dropped e old new f = let lt : e.0 < e.0 + 1 = omega arith in back (e.0 + 1) (e ∷ []) old new (lt, tt) f

rest_none : (r : ℕ) (a : Bool) (bs : List Block) (end : ℕ) → Tiled r a bs end → changes (heads bs) (heads (rest_after bs)) ≡ []
rest_none r a bs end t = grind (arith, heads, heads_same, dropped, heads_behind)

rest_from : (r : ℕ) (a : Bool) (bs : List Block) (end : ℕ) → Tiled r a bs end → From r (heads (rest_after bs))
rest_from r a bs end t = grind (arith, heads_from, From, heads)

with_tiled : (q k : ℕ) (a : Bool) (bs : List Block) (end : ℕ) → 1 ≤ k → Tiled (q + k) a bs end → Tiled q false (with_hole q k bs) end
with_tiled q k a bs end low t = grind (arith, Tiled)

with_spans : (q k : ℕ) (bs : List Block) → used_spans (with_hole q k bs) ≡ used_spans bs
with_spans q k [] = refl
with_spans q k (c ∷ cs) = elim c.used as (λ u. used_spans (with_hole q k (record c { used = u } ∷ cs)) ≡ used_spans (record c { used = u } ∷ cs)) [ true ↦ refl | false ↦ refl ]

shift_kind : (k n m : ℕ) (t : Bool) → cond t (k + n + m) (k + n) ≡ k + cond t (n + m) n
shift_kind k n m true = omega arith
shift_kind k n m false = refl

joined_shift : (q k n : ℕ) (hs : List (ℕ × ℕ)) → (joined_words q (k + n) hs ≡ k + joined_words (q + k) n hs) × (joined_next q (k + n) hs ≡ joined_next (q + k) n hs)
joined_shift q k n hs = grind (arith, shift_kind)

-- ---- where the block is

not_before_hole : (a u : Bool) → u ≡ false → (a && not u) ≡ false → a ≡ false
not_before_hole false u e h = refl
not_before_hole true u e h = absurd (cc (sym (ap not e) ∙ h))

used_apart : (p : ℕ) (b : Block) (bs : List Block) → b.used ≡ true → touched p b bs ≡ false
used_apart p b [] e = refl
used_apart p b (c ∷ cs) e = ap (λ (u : Bool). not u && c.place == p) e

pub span_from : (q p : ℕ) (ss : List (ℕ × ℕ)) → SpansAbove q ss → has_span p ss ≡ true → q ≤ p
span_from q p [] a h = absurd (cc h)
span_from q p (s ∷ ss) a h =
    let low : q ≤ s.0 = a.0 in
    elim (or_cases (s.0 == p) (has_span p ss) h) [
      | inl here ↦ let is : s.0 ≡ p = eqb-true s.0 p here in omega arith
      | inr later ↦ span_from q p ss a.1 later
    ]

-- b is a hole that ends at p, and the next block, at p, is used
pub record Touches (p : ℕ) (b : Block) (bs : List Block) : Type 0 where
  pub hole : b.used ≡ false
  pub other : (b.place == p) ≡ false
  pub next : Block
  pub rest : List Block
  pub is : bs ≡ next ∷ rest
  pub used : next.used ≡ true
  pub place : next.place ≡ p

pub record Later (p : ℕ) (b : Block) (bs : List Block) : Type 0 where
  pub other : (b.place == p) ≡ false
  pub apart : touched p b bs ≡ false
  pub span : has_span p (used_spans bs) ≡ true
  pub before : b.place < p
  pub ends : b.used ≡ false → b.place + b.words ≢ p

unfoldable pub SpanAt : ℕ → Block → List Block → Type 0
SpanAt p b bs = ((b.used ≡ true) × (b.place ≡ p)) ⊎ (Touches p b bs ⊎ Later p b bs)

after_hole : (p r : ℕ) (b c : Block) (cs : List Block) (end : ℕ) (t : Bool) → (c.place == p) ≡ t → b.used ≡ false → b.place < p → (b.place == p) ≡ false → b.place + b.words ≡ r → Tiled r (not b.used) (c ∷ cs) end → has_span p (used_spans (c ∷ cs)) ≡ true → SpanAt p b (c ∷ cs)
unfolding SpanAt
after_hole p r b c cs end true e used before other ends t span =
    let both : (true && not c.used) ≡ false = subst (λ (u : Bool). (not u && not c.used) ≡ false) used t.2 in
    inr (inl (record { hole = used; other = other; next = c; rest = cs; is = refl; used = not-false c.used both; place = eqb-true c.place p e }))
after_hole p r b c cs end false e used before other ends t span =
    inr (inr (record {
      other = other;
      apart = ap (λ (u : Bool). not b.used && u) e ∙ and_false (not b.used);
      span = span;
      before = before;
      ends = λ _ same. eqb-false c.place p e (t.0 ∙ sym ends ∙ same);
    }))

span_kind : (p q : ℕ) (b : Block) (bs : List Block) (end : ℕ) (u : Bool) → b.used ≡ u → b.place ≡ q → 1 ≤ b.words → Tiled (q + b.words) (not b.used) bs end → has_span p (cond u ((b.place, b.words) ∷ used_spans bs) (used_spans bs)) ≡ true → SpanAt p b bs
unfolding SpanAt
span_kind p q b bs end true used place low t span =
    elim (cases_eq b.place p) [
      | inl here ↦ inl (used, here)
      | inr apart ↦
          let other : (b.place == p) ≡ false = ne_eqb b.place p apart in
          let later : has_span p (used_spans bs) ≡ true = sym (ap (λ (x : Bool). x || has_span p (used_spans bs)) other) ∙ span in
          let far : q + b.words ≤ p = span_from (q + b.words) p (used_spans bs) (used_above (q + b.words) (not b.used) bs end t) later in
          inr (inr (record { other = other; apart = used_apart p b bs used; span = later; before = omega arith; ends = λ free. absurd (cc (sym used ∙ free)) }))
    ]
span_kind p q b [] end false used place low t span = absurd (cc span)
span_kind p q b (c ∷ cs) end false used place low t span =
    let far : q + b.words ≤ p = span_from (q + b.words) p (used_spans (c ∷ cs)) (used_above (q + b.words) (not b.used) (c ∷ cs) end t) span in
    let ne : b.place ≢ p = λ e. absurd (omega (arith, e)) in
    after_hole p (q + b.words) b c cs end (c.place == p) refl used (omega arith) (ne_eqb b.place p ne) (omega arith) t span

pub span_at : (p q : ℕ) (a : Bool) (b : Block) (bs : List Block) (end : ℕ) → Tiled q a (b ∷ bs) end → has_span p (used_spans (b ∷ bs)) ≡ true → SpanAt p b bs
span_at p q a b bs end t span = span_kind p q b bs end b.used refl t.0 t.1 t.3 span

pub freed_here : (p : ℕ) (b : Block) (bs : List Block) → b.place ≡ p → free_in p (b ∷ bs) ≡ with_hole p b.words bs
freed_here p b bs here = ap (λ (t : Bool). cond t (with_hole p b.words bs) (cond (touched p b bs) (with_hole b.place (b.words + head_words bs) (tail_blocks bs)) (b ∷ free_in p bs))) (eq-eqb b.place p here)

pub freed_touching : (p : ℕ) (b c : Block) (cs : List Block) → b.used ≡ false → (b.place == p) ≡ false → c.place ≡ p → free_in p (b ∷ c ∷ cs) ≡ with_hole b.place (b.words + c.words) cs
freed_touching p b c cs free other here = grind (arith, and_from, eq-eqb)

pub freed_later : (p : ℕ) (b : Block) (bs : List Block) → (b.place == p) ≡ false → touched p b bs ≡ false → free_in p (b ∷ bs) ≡ b ∷ free_in p bs
freed_later p b bs other apart = grind arith

-- ---- the blocks after the change

free_touching_tiled : (p q : ℕ) (a : Bool) (b c : Block) (cs bs : List Block) (end : ℕ) → bs ≡ c ∷ cs → Tiled q a (b ∷ bs) end → b.used ≡ false → (b.place == p) ≡ false → c.place ≡ p → Tiled q a (free_in p (b ∷ bs)) end
free_touching_tiled p q a b c cs bs end is t free other here =
    let tail : Tiled (q + b.words) (not b.used) (c ∷ cs) end = subst (λ (l : List Block). Tiled (q + b.words) (not b.used) l end) is t.3 in
    let place : b.place ≡ q = t.0 in
    let long : 1 ≤ b.words = t.1 in
    let none : a ≡ false = not_before_hole a b.used free t.2 in
    let same : q + b.words + c.words ≡ q + (b.words + c.words) = omega arith in
    subst (λ (l : List Block). Tiled q a (free_in p (b ∷ l)) end) (sym is)
    (subst (λ (l : List Block). Tiled q a l end) (sym (freed_touching p b c cs free other here))
    (subst (λ (r : ℕ). Tiled q a (with_hole r (b.words + c.words) cs) end) (sym place)
    (subst (λ (x : Bool). Tiled q x (with_hole q (b.words + c.words) cs) end) (sym none)
    (with_tiled q (b.words + c.words) (not c.used) cs end (omega arith) (subst (λ (r : ℕ). Tiled r (not c.used) cs end) same tail.3)))))

-- if a hole precedes the blocks from q on, the first of them is not at p
abbrev HoleApart : Bool → ℕ → ℕ → Type 0
HoleApart a q p = a ≡ true → q ≢ p

apart_false : (a : Bool) (q p : ℕ) → HoleApart a q p → q ≡ p → a ≡ false
apart_false a q p h e = false_from_ne_true a (λ t. h t e)

later_apart : (p q : ℕ) (b : Block) → b.place ≡ q → (b.used ≡ false → b.place + b.words ≢ p) → HoleApart (not b.used) (q + b.words) p
later_apart p q b place h free same = h (not-true b.used free) (omega (arith, place, same))

pub free_tiled : (p q : ℕ) (a : Bool) (bs : List Block) (end : ℕ) → HoleApart a q p → Tiled q a bs end → has_span p (used_spans bs) ≡ true → Tiled q a (free_in p bs) end
unfolding SpanAt
free_tiled p q a [] end h t span = absurd (cc span)
free_tiled p q a (b ∷ bs) end h t span =
    let place : b.place ≡ q = t.0 in
    elim (span_at p q a b bs end t span) [
      | inl here ↦
          let same : q ≡ p = sym place ∙ here.1 in
          subst (λ (l : List Block). Tiled q a l end) (sym (freed_here p b bs here.1))
          (subst (λ (r : ℕ). Tiled q a (with_hole r b.words bs) end) same
          (subst (λ (x : Bool). Tiled q x (with_hole q b.words bs) end) (sym (apart_false a q p h same)) (with_tiled q b.words (not b.used) bs end t.1 t.3)))
      | inr (inl touch) ↦ free_touching_tiled p q a b touch.next touch.rest bs end touch.is t touch.hole touch.other touch.place
      | inr (inr later) ↦
          subst (λ (l : List Block). Tiled q a l end) (sym (freed_later p b bs later.other later.apart))
          (t.0, t.1, t.2, free_tiled p (q + b.words) (not b.used) bs end (later_apart p q b place later.ends) t.3 later.span)
    ]

-- ---- their spans

without_above : (p : ℕ) (ss : List (ℕ × ℕ)) → SpansAbove (p + 1) ss → without p ss ≡ ss
without_above p [] a = refl
without_above p (s ∷ ss) a =
    let low : p + 1 ≤ s.0 = a.0 in
    let ne : s.0 ≢ p = λ e. absurd (omega (arith, e)) in
    ap (λ (t : Bool). cond t (without p ss) (s ∷ without p ss)) (ne_eqb s.0 p ne) ∙ ap (λ (l : List (ℕ × ℕ)). s ∷ l) (without_above p ss a.1)

without_first : (p n : ℕ) (ss : List (ℕ × ℕ)) (r : ℕ) → r ≡ p → SpansAbove (p + 1) ss → without p ((r, n) ∷ ss) ≡ ss
without_first p n ss r e a = ap (λ (t : Bool). cond t (without p ss) ((r, n) ∷ without p ss)) (eq-eqb r p e) ∙ without_above p ss a

later_without : (p : ℕ) (b : Block) (us vs : List (ℕ × ℕ)) (u : Bool) → (b.place == p) ≡ false → vs ≡ without p us → cond u ((b.place, b.words) ∷ vs) vs ≡ without p (cond u ((b.place, b.words) ∷ us) us)
later_without p b us vs true other e = ap (λ (l : List (ℕ × ℕ)). (b.place, b.words) ∷ l) e ∙ sym (ap (λ (t : Bool). cond t (without p us) ((b.place, b.words) ∷ without p us)) other)
later_without p b us vs false other e = e

-- the spans of a used block in front of others
pub used_first : (b : Block) (us : List (ℕ × ℕ)) → b.used ≡ true → cond b.used ((b.place, b.words) ∷ us) us ≡ (b.place, b.words) ∷ us
used_first b us e = ap (λ (u : Bool). cond u ((b.place, b.words) ∷ us) us) e

pub used_not : (b : Block) (us : List (ℕ × ℕ)) → b.used ≡ false → cond b.used ((b.place, b.words) ∷ us) us ≡ us
used_not b us e = ap (λ (u : Bool). cond u ((b.place, b.words) ∷ us) us) e

free_touching_spans : (p q : ℕ) (a : Bool) (b c : Block) (cs bs : List Block) (end : ℕ) → bs ≡ c ∷ cs → Tiled q a (b ∷ bs) end → b.used ≡ false → (b.place == p) ≡ false → c.used ≡ true → c.place ≡ p
    → used_spans (free_in p (b ∷ bs)) ≡ without p (used_spans (b ∷ bs))
free_touching_spans p q a b c cs bs end is t free other used here =
    let tail : Tiled (q + b.words) (not b.used) (c ∷ cs) end = subst (λ (l : List Block). Tiled (q + b.words) (not b.used) l end) is t.3 in
    let at : c.place ≡ q + b.words = tail.0 in
    let long : 1 ≤ c.words = tail.1 in
    ap (λ (l : List Block). used_spans (free_in p (b ∷ l))) is
    ∙ ap used_spans (freed_touching p b c cs free other here)
    ∙ with_spans b.place (b.words + c.words) cs
    ∙ sym (without_first p c.words (used_spans cs) c.place here (above_weaker (q + b.words + c.words) (p + 1) (used_spans cs) (omega arith) (used_above (q + b.words + c.words) (not c.used) cs end tail.3)))
    ∙ sym (ap (λ (l : List (ℕ × ℕ)). without p l) (used_not b (used_spans bs) free ∙ ap used_spans is ∙ used_first c (used_spans cs) used))

pub free_spans : (p q : ℕ) (a : Bool) (bs : List Block) (end : ℕ) → Tiled q a bs end → has_span p (used_spans bs) ≡ true → used_spans (free_in p bs) ≡ without p (used_spans bs)
unfolding SpanAt
free_spans p q a [] end t span = absurd (cc span)
free_spans p q a (b ∷ bs) end t span =
    let place : b.place ≡ q = t.0 in
    let low : 1 ≤ b.words = t.1 in
    elim (span_at p q a b bs end t span) [
      | inl here ↦
          let at : b.place ≡ p = here.1 in
          ap used_spans (freed_here p b bs here.1)
          ∙ with_spans p b.words bs
          ∙ sym (without_first p b.words (used_spans bs) b.place here.1 (above_weaker (q + b.words) (p + 1) (used_spans bs) (omega arith) (used_above (q + b.words) (not b.used) bs end t.3)))
          ∙ sym (ap (λ (l : List (ℕ × ℕ)). without p l) (used_first b (used_spans bs) here.0))
      | inr (inl touch) ↦ free_touching_spans p q a b touch.next touch.rest bs end touch.is t touch.hole touch.other touch.used touch.place
      | inr (inr later) ↦
          ap used_spans (freed_later p b bs later.other later.apart)
          ∙ later_without p b (used_spans bs) (used_spans (free_in p bs)) b.used later.other (free_spans p (q + b.words) (not b.used) bs end t.3 later.span)
    ]

-- ---- the headers that change

abbrev freed_at : ℕ → ℕ → ℕ → ℕ → ℕ × ℕ → List (ℕ × ℕ) → List (ℕ × List ℕ)
freed_at v s p n g gs = free_list v s g gs p n

-- gaps that all begin at p or after it have none before p
gap_none : (p : ℕ) (g : ℕ × ℕ) (gs : List (ℕ × ℕ)) → SpansAbove p gs → gap_before p g gs ≡ g
gap_none p g [] a = refl
gap_none p g (h ∷ hs) a = let low : p ≤ h.0 = a.0 in ap (λ (t : Bool). cond t (gap_before p h hs) g) (le-ltb h.0 p low)

behind_all : (p : ℕ) (gs : List (ℕ × ℕ)) → SpansAbove p gs → gaps_behind p gs ≡ gs
behind_all p [] a = refl
behind_all p (h ∷ hs) a = let low : p ≤ h.0 = a.0 in ap (λ (t : Bool). cond t (gaps_behind p hs) (h ∷ hs)) (le-ltb h.0 p low)

-- the changes of freeing a block after a link that does not touch it
free_here : (v s n p end : ℕ) (g : ℕ × ℕ) (a : Bool) (bs : List Block) → 1 ≤ p → 1 ≤ n → end < 65536 → g.0 < p → touches g p ≡ false → Tiled (p + n) a bs end
    → changes (link_word v s g (first_hole bs) ∷ (p, used_header n) ∷ heads bs) (link_word v s g (first_hole (with_hole p n bs)) ∷ heads (with_hole p n bs)) ≡ free_list v s g (hole_spans bs) p n
free_here v s n p end g a bs low some few gap apart t =
    let ends : p + n ≤ end = tiled_end (p + n) a bs end t in
    let behind : From (p + n) (heads bs) = heads_from (p + n) a bs end t in
    let rest : From (p + n) (heads (rest_after bs)) = rest_from (p + n) a bs end t in
    let hole : ℕ × List ℕ = (p, hole_header (joined_words p n (hole_spans bs)) (joined_next p n (hole_spans bs))) in
    let ne : p ≢ first_hole bs = λ h. elim (first_range (p + n) a bs end t) [ inl none ↦ absurd (omega (arith, h, none)) | inr some-hole ↦ absurd (omega (arith, h, some-hole.0)) ] in
    let within : first_hole bs < 65536 = elim (first_range (p + n) a bs end t) [ inl none ↦ omega (arith, none) | inr some-hole ↦ omega (arith, some-hole.1) ] in
    ap (λ (f : ℕ). changes (link_word v s g (first_hole bs) ∷ (p, used_header n) ∷ heads bs) (link_word v s g f ∷ heads (with_hole p n bs))) (with_first p n bs)
    ∙ ap (λ (l : List (ℕ × List ℕ)). changes (link_word v s g (first_hole bs) ∷ (p, used_header n) ∷ heads bs) (link_word v s g p ∷ l)) (with_heads p n a bs end t)
    ∙ under_other (link_word v s g (first_hole bs)) (link_word v s g p) ((p, used_header n) ∷ heads bs) (hole ∷ heads (rest_after bs)) refl (links_differ v s g p (first_hole bs) (omega arith) within ne)
    (omega arith, from_weaker (p + n) (g.0 + 1) (heads bs) (omega arith) behind) (omega arith, from_weaker (p + n) (g.0 + 1) (heads (rest_after bs)) (omega arith) rest)
    ∙ ap (λ (l : List (ℕ × List ℕ)). link_word v s g p ∷ l)
    (under_other (p, used_header n) hole (heads bs) (heads (rest_after bs)) refl refl (from_weaker (p + n) (p + 1) (heads bs) (omega arith) behind) (from_weaker (p + n) (p + 1) (heads (rest_after bs)) (omega arith) rest)
    ∙ ap (λ (l : List (ℕ × List ℕ)). hole ∷ l) (rest_none (p + n) a bs end t))
    ∙ sym (ap (λ (x : Bool). cond x ((g.0, hole_header (g.1 + joined_words p n (hole_spans bs)) (joined_next p n (hole_spans bs))) ∷ []) (link_word v s g p ∷ hole ∷ [])) apart)

claim_here : (v s end : ℕ) (g : ℕ × ℕ) (a : Bool) (b : Block) (bs : List Block) → 1 ≤ b.place → 1 ≤ b.words → end < 65536 → g.0 < b.place → touches g b.place ≡ false → Tiled (b.place + b.words) a bs end
    → Claim v s b.place (freed_at v s b.place b.words) g (record b { used = true } ∷ bs) (with_hole b.place b.words bs)
unfolding Claim
claim_here v s end g a b bs low some few gap apart t =
    let above : SpansAbove b.place (hole_spans bs) = above_weaker (b.place + b.words) b.place (hole_spans bs) (omega arith) (holes_above (b.place + b.words) a bs end t) in
    free_here v s b.words b.place end g a bs low some few gap apart t
    ∙ sym (ap (λ (h : ℕ × ℕ). free_list v s h (gaps_behind b.place (hole_spans bs)) b.place b.words) (gap_none b.place g (hole_spans bs) above) ∙ ap (λ (l : List (ℕ × ℕ)). free_list v s g l b.place b.words) (behind_all b.place (hole_spans bs) above))

-- a hole that is joined with the next is no shorter, and ends within the device
joined_range : (q k : ℕ) (a : Bool) (bs : List Block) (end : ℕ) → Tiled (q + k) a bs end → (k ≤ joined_words q k (hole_spans bs)) × (q + joined_words q k (hole_spans bs) ≤ end)
joined_range q k a [] end t = (omega arith, omega (arith, t))
joined_range q k a (c ∷ cs) end t =
    let low : 1 ≤ c.words = t.1 in
    let ends : q + k + c.words ≤ end = tiled_end (q + k + c.words) (not c.used) cs end t.3 in
    let above = above_weaker (q + k + c.words) (q + k + 1) (hole_spans cs) (omega arith) (holes_above (q + k + c.words) (not c.used) cs end t.3) in
    elim c.used as (λ u. (k ≤ joined_words q k (hole_spans (record c { used = u } ∷ cs))) × (q + joined_words q k (hole_spans (record c { used = u } ∷ cs)) ≤ end)) [
      | true ↦ let is = (not_joined q k (q + k) (hole_spans cs) refl above).0 in (omega (arith, is), omega (arith, is))
      | false ↦ let is = ap (λ (t : Bool). cond t (k + c.words) k) (eq-eqb c.place (q + k) t.0) in (omega (arith, is), omega (arith, is))
    ]

-- the changes of freeing a block after a hole that ends at it
touch_list : (v s h k n end : ℕ) (g : ℕ × ℕ) (a : Bool) (cs : List Block) → g.0 < h → 1 ≤ k → 1 ≤ n → end < 65536 → Tiled (h + k + n) a cs end
    → changes (link_word v s g h ∷ (h, hole_header k (first_hole cs)) ∷ (h + k, used_header n) ∷ heads cs) (link_word v s g (first_hole (with_hole h (k + n) cs)) ∷ heads (with_hole h (k + n) cs))
    ≡ (h, hole_header (k + joined_words (h + k) n (hole_spans cs)) (joined_next (h + k) n (hole_spans cs))) ∷ []
touch_list v s h k n end g a cs gap long some few t =
    let same : h + k + n ≡ h + (k + n) = omega arith in
    let u : Tiled (h + (k + n)) a cs end = subst (λ (r : ℕ). Tiled r a cs end) same t in
    let range = joined_range h (k + n) a cs end u in
    let longer : k + n ≤ joined_words h (k + n) (hole_spans cs) = range.0 in
    let ends : h + joined_words h (k + n) (hole_spans cs) ≤ end = range.1 in
    let ne : joined_words h (k + n) (hole_spans cs) ≢ k = λ e. absurd (omega (arith, e)) in
    let rest : From (h + k + n) (heads (rest_after cs)) = rest_from (h + k + n) a cs end t in
    let behind : From (h + k + n) (heads cs) = heads_from (h + k + n) a cs end t in
    let joined : ℕ × List ℕ = (h, hole_header (joined_words h (k + n) (hole_spans cs)) (joined_next h (k + n) (hole_spans cs))) in
    let old : List (ℕ × List ℕ) = (h + k, used_header n) ∷ heads cs in
    let old-from : From (h + 1) old = (omega arith, from_weaker (h + k + n) (h + 1) (heads cs) (omega arith) behind) in
    let new-from : From (h + 1) (heads (rest_after cs)) = from_weaker (h + k + n) (h + 1) (heads (rest_after cs)) (omega arith) rest in
    let shifted = joined_shift h k n (hole_spans cs) in
    ap (λ (f : ℕ). changes (link_word v s g h ∷ (h, hole_header k (first_hole cs)) ∷ old) (link_word v s g f ∷ heads (with_hole h (k + n) cs))) (with_first h (k + n) cs)
    ∙ ap (λ (l : List (ℕ × List ℕ)). changes (link_word v s g h ∷ (h, hole_header k (first_hole cs)) ∷ old) (link_word v s g h ∷ l)) (with_heads h (k + n) a cs end u)
    ∙ under_same (link_word v s g h) ((h, hole_header k (first_hole cs)) ∷ old) (joined ∷ heads (rest_after cs)) (omega arith, from_weaker (h + 1) (g.0 + 1) old (omega arith) old-from) (omega arith, from_weaker (h + 1) (g.0 + 1) (heads (rest_after cs)) (omega arith) new-from)
    ∙ under_other (h, hole_header k (first_hole cs)) joined old (heads (rest_after cs)) refl
    (lengths_differ (joined_words h (k + n) (hole_spans cs)) k (joined_next h (k + n) (hole_spans cs)) (first_hole cs) (omega arith) (omega (arith, tiled_end (h + k + n) a cs end t)) ne) old-from new-from
    ∙ ap (λ (l : List (ℕ × List ℕ)). joined ∷ l) (dropped (h + k, used_header n) (heads cs) (heads (rest_after cs)) (from_weaker (h + k + n) (h + k + 1) (heads (rest_after cs)) (omega arith) rest) ∙ rest_none (h + k + n) a cs end t)
    ∙ ap (λ (w : ℕ). (h, hole_header w (joined_next h (k + n) (hole_spans cs))) ∷ []) shifted.0
    ∙ ap (λ (x : ℕ). (h, hole_header (k + joined_words (h + k) n (hole_spans cs)) x) ∷ []) shifted.1

touch_due : (v s h k n : ℕ) (g : ℕ × ℕ) (hs : List (ℕ × ℕ)) → 1 ≤ h → 1 ≤ k → SpansAbove (h + k) hs
    → freed_at v s (h + k) n (gap_before (h + k) g ((h, k) ∷ hs)) (gaps_behind (h + k) ((h, k) ∷ hs)) ≡ (h, hole_header (k + joined_words (h + k) n hs) (joined_next (h + k) n hs)) ∷ []
touch_due v s h k n g hs low long above = grind (arith, and_from, ne_eqb, eq-eqb, lt-ltb, gap_none, behind_all)

claim_touch : (v s end : ℕ) (g : ℕ × ℕ) (a : Bool) (b c : Block) (cs : List Block) → 1 ≤ b.place → g.0 < b.place → 1 ≤ b.words → 1 ≤ c.words → end < 65536 → Tiled (b.place + b.words + c.words) a cs end
    → Claim v s (b.place + b.words) (freed_at v s (b.place + b.words) c.words) g (record b { used = false } ∷ record c { used = true; place = b.place + b.words } ∷ cs) (with_hole b.place (b.words + c.words) cs)
unfolding Claim
claim_touch v s end g a b c cs low gap long some few t =
    touch_list v s b.place b.words c.words end g a cs gap long some few t
    ∙ sym (touch_due v s b.place b.words c.words g (hole_spans cs) low long
    (above_weaker (b.place + b.words + c.words) (b.place + b.words) (hole_spans cs) (omega arith) (holes_above (b.place + b.words + c.words) a cs end t)))

-- ---- the words of the block

words_here : (p n r : ℕ) (ss : List (ℕ × ℕ)) → r ≡ p → words_at p ((r, n) ∷ ss) ≡ n
words_here p n r ss e = ap (λ (t : Bool). cond t n (words_at p ss)) (eq-eqb r p e)

words_later : (p : ℕ) (b : Block) (us : List (ℕ × ℕ)) (u : Bool) → (b.place == p) ≡ false → words_at p (cond u ((b.place, b.words) ∷ us) us) ≡ words_at p us
words_later p b us true e = ap (λ (t : Bool). cond t b.words (words_at p us)) e
words_later p b us false e = refl

-- ---- all blocks

whole_touch : (v s p q n : ℕ) (g : ℕ × ℕ) (a : Bool) (b c : Block) (cs bs : List Block) (end : ℕ) → bs ≡ c ∷ cs → 1 ≤ q → end < 65536 → g.0 < q → Tiled q a (b ∷ bs) end → b.used ≡ false → (b.place == p) ≡ false → c.used ≡ true → c.place ≡ p
    → words_at p (used_spans (b ∷ bs)) ≡ n → Claim v s p (freed_at v s p n) g (b ∷ bs) (free_in p (b ∷ bs))
whole_touch v s p q n g a b c cs bs end is low few gap t free other used here words =
    let tail : Tiled (q + b.words) (not b.used) (c ∷ cs) end = subst (λ (l : List Block). Tiled (q + b.words) (not b.used) l end) is t.3 in
    let place : b.place ≡ q = t.0 in
    let long : 1 ≤ b.words = t.1 in
    let some : 1 ≤ c.words = tail.1 in
    let at : b.place + b.words ≡ p = omega (arith, tail.0, here, place) in
    let count : c.words ≡ n = sym (ap (λ (l : List (ℕ × ℕ)). words_at p l) (used_not b (used_spans bs) free ∙ ap used_spans is ∙ used_first c (used_spans cs) used) ∙ words_here p c.words c.place (used_spans cs) here) ∙ words in
    let behind : Tiled (b.place + b.words + c.words) (not c.used) cs end = subst (λ (r : ℕ). Tiled (r + b.words + c.words) (not c.used) cs end) (sym place) tail.3 in
    let first : Claim v s (b.place + b.words) (freed_at v s (b.place + b.words) c.words) g (record b { used = false } ∷ record c { used = true; place = b.place + b.words } ∷ cs) (with_hole b.place (b.words + c.words) cs) =
    claim_touch v s end g (not c.used) b c cs (omega arith) (omega arith) long some few behind in
    let second : Claim v s p (freed_at v s p c.words) g (record b { used = false } ∷ record c { used = true; place = p } ∷ cs) (with_hole b.place (b.words + c.words) cs) =
    subst (λ (x : ℕ). Claim v s x (freed_at v s x c.words) g (record b { used = false } ∷ record c { used = true; place = x } ∷ cs) (with_hole b.place (b.words + c.words) cs)) at first in
    let third : Claim v s p (freed_at v s p c.words) g (record b { used = false } ∷ record c { used = true } ∷ cs) (with_hole b.place (b.words + c.words) cs) =
    subst (λ (x : ℕ). Claim v s p (freed_at v s p c.words) g (record b { used = false } ∷ record c { used = true; place = x } ∷ cs) (with_hole b.place (b.words + c.words) cs)) (sym here) second in
    let fourth : Claim v s p (freed_at v s p c.words) g (record b { used = false } ∷ c ∷ cs) (with_hole b.place (b.words + c.words) cs) =
    subst (λ (x : Bool). Claim v s p (freed_at v s p c.words) g (record b { used = false } ∷ record c { used = x } ∷ cs) (with_hole b.place (b.words + c.words) cs)) (sym used) third in
    let fifth : Claim v s p (freed_at v s p c.words) g (b ∷ c ∷ cs) (with_hole b.place (b.words + c.words) cs) =
    subst (λ (x : Bool). Claim v s p (freed_at v s p c.words) g (record b { used = x } ∷ c ∷ cs) (with_hole b.place (b.words + c.words) cs)) (sym free) fourth in
    subst (λ (l : List Block). Claim v s p (freed_at v s p n) g (b ∷ l) (free_in p (b ∷ l))) (sym is)
    (subst (λ (m : ℕ). Claim v s p (freed_at v s p m) g (b ∷ c ∷ cs) (free_in p (b ∷ c ∷ cs))) count
    (subst (λ (l : List Block). Claim v s p (freed_at v s p c.words) g (b ∷ c ∷ cs) l) (sym (freed_touching p b c cs free other here)) fifth))

-- a hole that does not end at p does not touch p
no_touch : (p : ℕ) (b : Block) → b.place + b.words ≢ p → touches (b.place, b.words) p ≡ false
no_touch p b ne = and_right (not (b.place == 0)) (b.place + b.words == p) (ne_eqb (b.place + b.words) p ne)

free_all : (v s p n q : ℕ) (g : ℕ × ℕ) (a : Bool) (bs : List Block) (end : ℕ) → 1 ≤ q → end < 65536 → g.0 < q → touches g p ≡ false → Tiled q a bs end → has_span p (used_spans bs) ≡ true → words_at p (used_spans bs) ≡ n
    → Claim v s p (freed_at v s p n) g bs (free_in p bs)
unfolding SpanAt
free_all v s p n q g a [] end low few gap apart t span words = absurd (cc span)
free_all v s p n q g a (b ∷ bs) end low few gap apart t span words =
    let place : b.place ≡ q = t.0 in
    let long : 1 ≤ b.words = t.1 in
    let tail : Tiled (b.place + b.words) (not b.used) bs end = subst (λ (r : ℕ). Tiled (r + b.words) (not b.used) bs end) (sym place) t.3 in
    elim (span_at p q a b bs end t span) [
      | inl here ↦
          let count : b.words ≡ n = sym (ap (λ (l : List (ℕ × ℕ)). words_at p l) (used_first b (used_spans bs) here.0) ∙ words_here p b.words b.place (used_spans bs) here.1) ∙ words in
          subst (λ (l : List Block). Claim v s p (freed_at v s p n) g (b ∷ bs) l) (sym (freed_here p b bs here.1))
          (subst (λ (m : ℕ). Claim v s p (freed_at v s p m) g (b ∷ bs) (with_hole p b.words bs)) count
          (subst (λ (r : ℕ). Claim v s r (freed_at v s r b.words) g (b ∷ bs) (with_hole r b.words bs)) here.1
          (subst (λ (u : Bool). Claim v s b.place (freed_at v s b.place b.words) g (record b { used = u } ∷ bs) (with_hole b.place b.words bs)) (sym here.0)
          (claim_here v s end g (not b.used) b bs (omega arith) long few (omega arith) (subst (λ (r : ℕ). touches g r ≡ false) (sym here.1) apart) tail))))
      | inr (inl touch) ↦ whole_touch v s p q n g a b touch.next touch.rest bs end touch.is low few gap t touch.hole touch.other touch.used touch.place words
      | inr (inr later) ↦
          let still : words_at p (used_spans bs) ≡ n = sym (words_later p b (used_spans bs) b.used later.other) ∙ words in
          subst (λ (l : List Block). Claim v s p (freed_at v s p n) g (b ∷ bs) l) (sym (freed_later p b bs later.other later.apart))
          (later_either v s p end (freed_at v s p n) g b (not b.used) bs (free_in p bs) b.used (omega arith) later.before long tail
          (free_tiled p (b.place + b.words) (not b.used) bs end (later_apart p b.place b refl later.ends) tail later.span)
          (λ _. free_all v s p n (q + b.words) g (not b.used) bs end (omega arith) few (omega arith) apart t.3 later.span still)
          (λ free. free_all v s p n (q + b.words) (b.place, b.words) (not b.used) bs end (omega arith) few (omega arith) (no_touch p b (later.ends free)) t.3 later.span still))
    ]

-- the changes of freeing a block are those of `free_list`
pub free_plan : (v size p : ℕ) (bs : List Block) → size < 65536 → Tiled heap_start false bs size → has_span p (used_spans bs) ≡ true
    → changes (layout_of v size (used_spans bs)) (layout_of v size (without p (used_spans bs))) ≡ free_list v size (gap_before p (0, 0) (hole_spans bs)) (gaps_behind p (hole_spans bs)) p (words_at p (used_spans bs))
unfolding Claim
free_plan v size p bs few t span =
    ap (λ (l : List (ℕ × List ℕ)). changes l (layout_of v size (without p (used_spans bs)))) (layout_is v size bs (used_spans bs) t refl)
    ∙ ap (λ (l : List (ℕ × List ℕ)). changes (link_word v size (0, 0) (first_hole bs) ∷ heads bs) l) (layout_is v size (free_in p bs) (without p (used_spans bs)) (free_tiled p heap_start false bs size (λ e. absurd (cc e)) t span) (sym (free_spans p heap_start false bs size t span)))
    ∙ free_all v size p (words_at p (used_spans bs)) heap_start (0, 0) false bs size (omega arith) few (omega arith) refl t span refl
