-- The plans of a well laid image: the code's list is the list of changes.
use Rattle.std.proofs.Common.{◌≡◌, ◌≢◌, ◌⊎◌, ℕ, ◌+◌, ◌-◌, ◌<◌, ◌≤◌, Bool, true, false, ◌&&◌, List, [], ◌∷◌, length, not, Some, refl, sym, ◌∙◌, ap, subst, inl, inr, arith, cond}
use Rattle.std.specs.Prelude.{nat_lt, nat_le, ◌==◌, slice_index}
use Rattle.std.proofs.lemmas.Bool.{lt-ltb, le-leb, ltb-true, eq-eqb, ne_eqb, eqb-true, or_cases, and_from, or_left, or_right}
use Rattle.mc_words.specs.model_device.specs.Bytes.{be2}
use Rattle.mc_words.specs.model_device.specs.Image.{Closed, look, within, ascend}
use Rattle.mc_words.specs.model_device.specs.Device.{IsSized}
use Rattle.mc_words.specs.model_device.specs.Stopped.{IsAtomic}
use Rattle.mc_words.specs.model_device.specs.Card.{Card, Block, means, word, blocks}
use Rattle.mc_words.specs.model_device.specs.Layout.{first_fitting, layout, step_of, gaps, spans, put_at, hole_header, used_header, IsWellLaid}
use Rattle.mc_blocks.specs.Chains.{SpansAbove}
use Rattle.mc_blocks.specs.Blocks.{used_spans, hole_spans}
use Rattle.mc_blocks.specs.Plans.{changes, layout_of, plan, without, has_room, has_span, link_word, gap_before, gaps_behind, touches, take_front, take_list, joined_words, joined_next, put_hole, free_list}
use Rattle.mc_blocks.proofs.Steps.{header_is}
use Rattle.mc_blocks.proofs.Tiles.{Tiled, HeadersRead}
use Rattle.mc_blocks.proofs.Bridge.{WellLaid, well_laid, used_above}
use Rattle.mc_blocks.proofs.Search.{holes_above}
use Rattle.mc_blocks.proofs.Heads.{layout_spans}
use Rattle.mc_blocks.proofs.Links.{chain_behind, gaps_chain, joined_within, HoleAt, hole_at, BeforeAt, before_at, before_cases}
use Rattle.mc_words.specs.model_device.proofs.LayoutLemmas.{closed_means}
use Rattle.mc_blocks.proofs.Taking as taking
use Rattle.mc_blocks.proofs.Freeing as freeing

-- a plan for a function of the card's spans
pub plan_is : (m : List (List ℕ)) (f : List (ℕ × ℕ) → List (ℕ × ℕ)) → IsSized m → look m ≡ Closed → IsWellLaid m
    → plan (means m) (f (spans (means m))) ≡ changes (layout_of (slice_index (word m 0) 3) (length m) (used_spans (blocks m))) (layout_of (slice_index (word m 0) 3) (length m) (f (used_spans (blocks m))))
plan_is m f image closed h = grind (arith, WellLaid, well_laid, closed_means, layout_spans)

pub gaps_are : (m : List (List ℕ)) → IsSized m → look m ≡ Closed → IsWellLaid m → gaps (means m) ≡ hole_spans (blocks m)
gaps_are m image closed h = ap (λ (k : Card). gaps k) (closed_means m closed) ∙ (well_laid m image closed h).gaps

pub spans_are : (m : List (List ℕ)) → IsSized m → look m ≡ Closed → IsWellLaid m → spans (means m) ≡ used_spans (blocks m)
spans_are m image closed h = ap (λ (k : Card). spans k) (closed_means m closed) ∙ (well_laid m image closed h).spans

gaps_above : (m : List (List ℕ)) → IsSized m → look m ≡ Closed → IsWellLaid m → SpansAbove 131 (gaps (means m))
gaps_above m image closed h = subst (λ (l : List (ℕ × ℕ)). SpansAbove 131 l) (sym (gaps_are m image closed h)) (holes_above 131 false (blocks m) (length m) (well_laid m image closed h).tiled)

-- ---- places for an atomic write

-- word 0 or a word of the heap
IsRootOrHeap : ℕ → ℕ → Type 0
IsRootOrHeap size t = (t ≡ 0) ⊎ ((131 ≤ t) × (t < size))

is_within : (size t : ℕ) → IsRootOrHeap size t → within size t ≡ true
unfolding IsRootOrHeap
is_within size t (inl z) = or_left (t == 0) (nat_le 131 t && nat_lt t size) (eq-eqb t 0 z)
is_within size t (inr h) = or_right (t == 0) (nat_le 131 t && nat_lt t size) (and_from (nat_le 131 t) (nat_lt t size) (le-leb 131 t h.0) (lt-ltb t size h.1))

one_target : (size least t : ℕ) (ts : List ℕ) → least ≤ t → IsRootOrHeap size t → ascend size (t + 1) ts ≡ true → ascend size least (t ∷ ts) ≡ true
one_target size least t ts low is rest = and_from (nat_le least t) (within size t && ascend size (t + 1) ts) (le-leb least t low) (and_from (within size t) (ascend size (t + 1) ts) (is_within size t is) rest)

-- a list of one to three pairs at such places
pub record FewPairs (size : ℕ) (list : List (ℕ × List ℕ)) : Type 0 where
  pub atomic : IsAtomic size list
  pub few : length list ≤ 3

one : (size : ℕ) (a : ℕ × List ℕ) → IsRootOrHeap size a.0 → FewPairs size (a ∷ [])
one size a ta = record { atomic = record { low = omega arith; high = omega arith; targets = one_target size 0 a.0 [] (omega arith) ta refl }; few = omega arith }

two : (size : ℕ) (a b : ℕ × List ℕ) → IsRootOrHeap size a.0 → IsRootOrHeap size b.0 → a.0 < b.0 → FewPairs size (a ∷ b ∷ [])
two size a b ta tb lt =
    record {
      atomic = record { low = omega arith; high = omega arith; targets = one_target size 0 a.0 (b.0 ∷ []) (omega arith) ta (one_target size (a.0 + 1) b.0 [] (omega arith) tb refl) };
      few = omega arith;
    }

three : (size : ℕ) (a b c : ℕ × List ℕ) → IsRootOrHeap size a.0 → IsRootOrHeap size b.0 → IsRootOrHeap size c.0 → a.0 < b.0 → b.0 < c.0 → FewPairs size (a ∷ b ∷ c ∷ [])
three size a b c ta tb tc lt less =
    record {
      atomic = record {
        low = omega arith;
        high = omega arith;
        targets = one_target size 0 a.0 (b.0 ∷ c.0 ∷ []) (omega arith) ta (one_target size (a.0 + 1) b.0 (c.0 ∷ []) (omega arith) tb (one_target size (b.0 + 1) c.0 [] (omega arith) tc refl));
      };
      few = omega arith;
    }

-- the gap before a place as a target
gap_target : (m : List (List ℕ)) (p : ℕ) (g : ℕ × ℕ) → 131 ≤ p → p ≤ length m → BeforeAt m p g → IsRootOrHeap (length m) g.0 × (g.0 < p)
unfolding IsRootOrHeap
gap_target m p g low high at = elim (before_cases m p g at) [ inl root ↦ (inl root.0, omega (arith, root.0)) | inr hole ↦ (inr (hole.0, omega (arith, hole.2)), hole.2) ]

take_few : (m : List (List ℕ)) (v p words next need : ℕ) (g : ℕ × ℕ) (t : Bool) → nat_lt need words ≡ t → 131 ≤ p → 1 ≤ need → need ≤ words → p + words ≤ length m → BeforeAt m p g
    → FewPairs (length m) (cond t (link_word v (length m) g (p + need) ∷ (p, used_header need) ∷ (p + need, hole_header (words - need) next) ∷ []) (link_word v (length m) g next ∷ (p, used_header need) ∷ []))
unfolding IsRootOrHeap
take_few m v p words next need g true e low some fits ends at =
    let less : need < words = ltb-true need words e in
    let target = gap_target m p g low (omega arith) at in
    three (length m) (link_word v (length m) g (p + need)) (p, used_header need) (p + need, hole_header (words - need) next) target.0 (inr (low, omega arith)) (inr (omega arith, omega arith)) target.1 (omega arith)
take_few m v p words next need g false e low some fits ends at =
    let target = gap_target m p g low (omega arith) at in
    two (length m) (link_word v (length m) g next) (p, used_header need) target.0 (inr (low, omega arith)) target.1

put_few : (m : List (List ℕ)) (v p words next : ℕ) (g : ℕ × ℕ) (t : Bool) → 131 ≤ p → p < length m → BeforeAt m p g
    → FewPairs (length m) (cond t ((g.0, hole_header (g.1 + words) next) ∷ []) (link_word v (length m) g p ∷ (p, hole_header words next) ∷ []))
unfolding IsRootOrHeap
put_few m v p words next g true low high at = one (length m) (g.0, hole_header (g.1 + words) next) (gap_target m p g low (omega arith) at).0
put_few m v p words next g false low high at =
    let target = gap_target m p g low (omega arith) at in
    two (length m) (link_word v (length m) g p) (p, hole_header words next) target.0 (inr (low, high)) target.1

-- ---- taking

pub record TakeIs (m : List (List ℕ)) (p need : ℕ) : Type 0 where
  pub within : p < length m
  pub ends : p + be2 (word m p) 2 ≤ length m
  pub long : need ≤ be2 (word m p) 2
  pub list : List (ℕ × List ℕ)
  pub is : list ≡ take_front (slice_index (word m 0) 3) (length m) (gap_before p (0, 0) (gaps (means m))) p (be2 (word m p) 2) (be2 (word m p) 4) need
  pub plan : list ≡ plan (means m) (put_at p need (spans (means m)))
  pub few : FewPairs (length m) list

room_low : (p need : ℕ) (gs : List (ℕ × ℕ)) → SpansAbove 131 gs → has_room p need gs ≡ true → 131 ≤ p
room_low p need gs a h = taking.room_from 131 p need gs a h

pub take_is : (m : List (List ℕ)) (p need : ℕ) → IsSized m → look m ≡ Closed → IsWellLaid m → 1 ≤ need → has_room p need (gaps (means m)) ≡ true → TakeIs m p need
take_is m p need image closed h some room =
    let l : WellLaid m = well_laid m image closed h in
    let gs = gaps (means m) in
    let v = slice_index (word m 0) 3 in
    let hole : HoleAt m p need gs = hole_at m p need gs (gaps_chain m image closed h) room in
    let low : 131 ≤ p = room_low p need gs (gaps_above m image closed h) room in
    let high : length m ≤ 16384 = image.high in
    let first : 1 ≤ be2 (word m p) 2 = hole.some in
    let ends : p + be2 (word m p) 2 ≤ length m = hole.ends in
    let front = take_front v (length m) (gap_before p (0, 0) gs) p (be2 (word m p) 2) (be2 (word m p) 4) need in
    let listed : plan (means m) (put_at p need (spans (means m))) ≡ take_list v (length m) (gap_before p (0, 0) gs) (gaps_behind p gs) p need =
    plan_is m (put_at p need) image closed h
    ∙ taking.take_plan v (length m) p need (blocks m) some (omega arith) l.tiled (subst (λ (x : List (ℕ × ℕ)). has_room p need x ≡ true) (gaps_are m image closed h) room)
    ∙ ap (λ (x : List (ℕ × ℕ)). take_list v (length m) (gap_before p (0, 0) x) (gaps_behind p x) p need) (sym (gaps_are m image closed h)) in
    record {
      within = omega arith;
      ends = ends;
      long = hole.long;
      list = front;
      is = refl;
      plan = sym (listed ∙ ap (λ (x : List (ℕ × ℕ)). take_list v (length m) (gap_before p (0, 0) gs) x p need) hole.behind ∙ ap (λ (n : ℕ). take_front v (length m) (gap_before p (0, 0) gs) p (be2 (word m p) 2) n need) (sym hole.next));
      few = take_few m v p (be2 (word m p) 2) (be2 (word m p) 4) need (gap_before p (0, 0) gs) (nat_lt need (be2 (word m p) 2)) refl low some hole.long ends (before_at m p gs (gaps_above m image closed h) (gaps_chain m image closed h));
    }

-- the code's list, from the links that it read, is the plan
pub take_listed : (m : List (List ℕ)) (p need : ℕ) (before : ℕ × ℕ) (at words next : ℕ) (items : List (ℕ × List ℕ)) → TakeIs m p need → before ≡ gap_before p (0, 0) (gaps (means m)) → at ≡ p → words ≡ be2 (word m p) 2 → next ≡ be2 (word m p) 4
    → items ≡ take_front (slice_index (word m 0) 3) (length m) before at words next need → (items ≡ plan (means m) (put_at p need (spans (means m)))) × FewPairs (length m) items
take_listed m p need before at words next items t a b c d e = grind arith

-- ---- freeing

-- the header and the place of a used block
pub record BlockAt (m : List (List ℕ)) (p : ℕ) (bs : List Block) : Type 0 where
  pub low : 131 ≤ p
  pub some : 1 ≤ be2 (word m p) 2
  pub ends : p + be2 (word m p) 2 ≤ length m
  pub words : be2 (word m p) 2 ≡ freeing.words_at p (used_spans bs)

block_at : (m : List (List ℕ)) (p q : ℕ) (a : Bool) (bs : List Block) (end : ℕ) → 131 ≤ q → Tiled q a bs end → HeadersRead m bs → has_span p (used_spans bs) ≡ true → BlockAt m p bs
block_at m p q a [] end low t r h = absurd (cc h)
block_at m p q a (b ∷ bs) end low t r h =
    let place : b.place ≡ q = t.0 in
    let long : 1 ≤ b.words = t.1 in
    let ends : b.place + b.words ≤ length m = r.1 in
    let rest = λ (later : has_span p (used_spans bs) ≡ true). block_at m p (q + b.words) (not b.used) bs end (omega arith) t.3 r.2 later in
    (elim b.used as (λ u. has_span p (used_spans (record b { used = u } ∷ bs)) ≡ true → BlockAt m p (record b { used = u } ∷ bs)) [
      | true ↦ λ h. elim (or_cases (b.place == p) (has_span p (used_spans bs)) h) [
        | inl here ↦
            let at : b.place ≡ p = eqb-true b.place p here in
            let same : be2 (word m p) 2 ≡ b.words = ap (λ (x : ℕ). be2 (word m x) 2) (sym at) ∙ sym (header_is b.place (word m b.place) b r.0).words in
            record { low = omega arith; some = omega (arith, same); ends = omega (arith, same); words = same ∙ sym (ap (λ (t : Bool). cond t b.words (freeing.words_at p (used_spans bs))) here) }
        | inr later ↦
            let there = rest later in
            let far : q + b.words ≤ p = freeing.span_from (q + b.words) p (used_spans bs) (used_above (q + b.words) (not b.used) bs end t.3) later in
            let ne : b.place ≢ p = λ e. absurd (omega (arith, e)) in
            record { low = there.low; some = there.some; ends = there.ends; words = there.words ∙ sym (ap (λ (t : Bool). cond t b.words (freeing.words_at p (used_spans bs))) (ne_eqb b.place p ne)) }
      ]
      | false ↦ λ h. let there = rest h in record { low = there.low; some = there.some; ends = there.ends; words = there.words }
    ]) h

pub record FreeIs (m : List (List ℕ)) (p : ℕ) : Type 0 where
  pub low : 131 ≤ p
  pub within : p < length m
  pub ends : p + be2 (word m p) 2 ≤ length m
  pub joined : p + joined_words p (be2 (word m p) 2) (gaps_behind p (gaps (means m))) ≤ length m
  pub list : List (ℕ × List ℕ)
  pub is : list ≡ put_hole (slice_index (word m 0) 3) (length m) (gap_before p (0, 0) (gaps (means m))) p (joined_words p (be2 (word m p) 2) (gaps_behind p (gaps (means m)))) (joined_next p (be2 (word m p) 2) (gaps_behind p (gaps (means m))))
  pub plan : list ≡ plan (means m) (without p (spans (means m)))
  pub few : FewPairs (length m) list

pub free_is : (m : List (List ℕ)) (p : ℕ) → IsSized m → look m ≡ Closed → IsWellLaid m → has_span p (spans (means m)) ≡ true → FreeIs m p
free_is m p image closed h span =
    let l : WellLaid m = well_laid m image closed h in
    let gs = gaps (means m) in
    let v = slice_index (word m 0) 3 in
    let n = be2 (word m p) 2 in
    let there : has_span p (used_spans (blocks m)) ≡ true = subst (λ (x : List (ℕ × ℕ)). has_span p x ≡ true) (spans_are m image closed h) span in
    let block : BlockAt m p (blocks m) = block_at m p 131 false (blocks m) (length m) (omega arith) l.tiled l.read there in
    let low : 131 ≤ p = block.low in
    let some : 1 ≤ n = block.some in
    let ends : p + n ≤ length m = block.ends in
    let high : length m ≤ 16384 = image.high in
    let listed : plan (means m) (without p (spans (means m))) ≡ free_list v (length m) (gap_before p (0, 0) gs) (gaps_behind p gs) p n =
    plan_is m (without p) image closed h
    ∙ freeing.free_plan v (length m) p (blocks m) (omega arith) l.tiled there
    ∙ ap (λ (x : List (ℕ × ℕ)). free_list v (length m) (gap_before p (0, 0) x) (gaps_behind p x) p (freeing.words_at p (used_spans (blocks m)))) (sym (gaps_are m image closed h))
    ∙ ap (λ (w : ℕ). free_list v (length m) (gap_before p (0, 0) gs) (gaps_behind p gs) p w) (sym block.words) in
    record {
      low = low;
      within = omega arith;
      ends = ends;
      joined = joined_within m p n (gaps_behind p gs) (chain_behind m p gs (gaps_chain m image closed h)) ends;
      list = free_list v (length m) (gap_before p (0, 0) gs) (gaps_behind p gs) p n;
      is = refl;
      plan = sym listed;
      few = put_few m v p (joined_words p n (gaps_behind p gs)) (joined_next p n (gaps_behind p gs)) (gap_before p (0, 0) gs) (touches (gap_before p (0, 0) gs) p) low (omega arith) (before_at m p gs (gaps_above m image closed h) (gaps_chain m image closed h));
    }

-- the gap before a place ends within the device
pub before_ends : (m : List (List ℕ)) (p : ℕ) → IsSized m → look m ≡ Closed → IsWellLaid m → (gap_before p (0, 0) (gaps (means m))).0 + (gap_before p (0, 0) (gaps (means m))).1 ≤ length m
before_ends m p image closed h =
    let g = gap_before p (0, 0) (gaps (means m)) in
    elim (before_cases m p g (before_at m p (gaps (means m)) (gaps_above m image closed h) (gaps_chain m image closed h))) [ inl root ↦ omega (arith, root.0, root.1) | inr hole ↦ hole.1 ]

-- the code's list, from the links that it read, is the plan
pub free_listed : (m : List (List ℕ)) (p : ℕ) (before : ℕ × ℕ) (at words next n : ℕ) (items : List (ℕ × List ℕ)) → FreeIs m p → before ≡ gap_before p (0, 0) (gaps (means m)) → at ≡ p → n ≡ be2 (word m p) 2
    → words ≡ joined_words p n (gaps_behind p (gaps (means m))) → next ≡ joined_next p n (gaps_behind p (gaps (means m)))
    → items ≡ put_hole (slice_index (word m 0) 3) (length m) before at words next → (items ≡ plan (means m) (without p (spans (means m)))) × FewPairs (length m) items
free_listed m p before at words next n items f a b k c d e = grind arith

-- ---- the atomic write between two cards

step_changes : (a b : Card) → step_of a b ≡ changes (layout a) (layout b)
unfolding step_of
step_changes a b = refl

-- it is the plan for the spans of the second
pub step_plan : (a b : Card) (ss : List (ℕ × ℕ)) → b.layout ≡ a.layout → b.size ≡ a.size → spans b ≡ ss → step_of a b ≡ plan a ss
step_plan a b ss version size same = grind (arith, step_changes, layout_spans)

room_test : (need p : ℕ) (g : ℕ × ℕ) (gs : List (ℕ × ℕ)) (t : Bool) → nat_le need g.1 ≡ t → cond t (Some g.0) (first_fitting need gs) ≡ Some p → (first_fitting need gs ≡ Some p → has_room p need gs ≡ true) → has_room p need (g ∷ gs) ≡ true
room_test need p g gs true e h rest = let is : g.0 ≡ p = cc in or_left (g.0 == p && nat_le need g.1) (has_room p need gs) (and_from (g.0 == p) (nat_le need g.1) (eq-eqb g.0 p is) e)
room_test need p g gs false e h rest = or_right (g.0 == p && nat_le need g.1) (has_room p need gs) (rest h)

-- where the first gap that is long enough is, there is room
pub first_room : (need p : ℕ) (gs : List (ℕ × ℕ)) → first_fitting need gs ≡ Some p → has_room p need gs ≡ true
first_room need p [] h = absurd (cc h)
first_room need p (g ∷ gs) h = room_test need p g gs (nat_le need g.1) refl h (first_room need p gs)
