-- Taking words from the front of a hole: the blocks after it, and the headers that change.
use Rattle.std.proofs.Common.{◌≡◌, ◌≢◌, ◌⊎◌, ℕ, ◌+◌, ◌-◌, ◌<◌, ◌≤◌, Bool, true, false, ◌&&◌, List, [], ◌∷◌, refl, sym, ◌∙◌, ap, subst, inl, inr, arith, cond, not}
use Rattle.std.specs.Prelude.{nat_lt, nat_le, ◌==◌}
use Rattle.std.proofs.lemmas.Bool.{le-ltb, ltb-true, ltb-false, eq-eqb, ne_eqb, eqb-true, and_parts, leb-true, or_cases}
use Rattle.mc_words.specs.model_device.specs.Card.{Block, heap_start}
use Rattle.mc_words.specs.model_device.specs.Layout.{first_hole, first_place, hole_header, used_header, put_at}
use Rattle.mc_blocks.specs.Chains.{SpansAbove}
use Rattle.mc_blocks.specs.Blocks.{used_spans, hole_spans}
use Rattle.mc_blocks.specs.Plans.{changes, layout_of, link_word, has_room, gap_before, gaps_behind, take_list}
use Rattle.mc_blocks.proofs.Tiles.{Tiled, first_is}
use Rattle.mc_blocks.proofs.Maps.{above_weaker, put_front}
use Rattle.mc_blocks.proofs.Bridge.{used_above}
use Rattle.mc_blocks.proofs.Search.{holes_above}
use Rattle.mc_blocks.proofs.Changes.{From, from_weaker, under_other, links_differ, none_from}
use Rattle.mc_blocks.proofs.Heads.{heads, heads_from, heads_same, layout_is}
use Rattle.mc_blocks.proofs.Claims.{Claim, not_before, later_either}
use Rattle.mc_words.specs.model_device.proofs.BoolLemmas.{and_false}

-- the used block at p with n words
abbrev pub used_block : ℕ → ℕ → Block
used_block p n = record { place = p; used = true; words = n; link = 0 }

abbrev pub free_block : ℕ → ℕ → Block
free_block p n = record { place = p; used = false; words = n; link = 0 }

-- the rest of a hole, if there is one, and the blocks after it
abbrev pub rest_of : ℕ → ℕ → Block → List Block → List Block
rest_of p need b bs = cond (nat_lt need b.words) (free_block (p + need) (b.words - need) ∷ bs) bs

-- the blocks after words are taken from the front of the hole at p
abbrev pub take_in : ℕ → ℕ → List Block → List Block
take_in p need [] = []
take_in p need (b ∷ bs) = cond (b.place == p) (used_block p need ∷ rest_of p need b bs) (b ∷ take_in p need bs)

-- ---- the place of the room

-- room is at no place before the gaps
pub room_from : (q p need : ℕ) (gs : List (ℕ × ℕ)) → SpansAbove q gs → has_room p need gs ≡ true → q ≤ p
room_from q p need [] a h = absurd (cc h)
room_from q p need (g ∷ gs) a h =
    let low : q ≤ g.0 = a.0 in
    elim (or_cases (g.0 == p && nat_le need g.1) (has_room p need gs) h) [
      | inl here ↦ let is : g.0 ≡ p = eqb-true g.0 p (and_parts (g.0 == p) (nat_le need g.1) here).0 in omega arith
      | inr later ↦ room_from q p need gs a.1 later
    ]

-- a block is the hole with the room, or the room is after it
unfoldable pub RoomAt : ℕ → ℕ → Block → List Block → Type 0
RoomAt p need b bs = ((b.used ≡ false) × (b.place ≡ p) × (need ≤ b.words)) ⊎ (((b.place == p) ≡ false) × (has_room p need (hole_spans bs) ≡ true) × (b.place < p))

pub room_at : (p need q : ℕ) (a : Bool) (b : Block) (bs : List Block) (end : ℕ) → Tiled q a (b ∷ bs) end → has_room p need (hole_spans (b ∷ bs)) ≡ true → RoomAt p need b bs
unfolding RoomAt
room_at p need q a b bs end t room =
    let place : b.place ≡ q = t.0 in
    let low : 1 ≤ b.words = t.1 in
    let later : has_room p need (hole_spans bs) ≡ true → ((b.place == p) ≡ false) × (has_room p need (hole_spans bs) ≡ true) × (b.place < p) = λ room.
    let far : q + b.words ≤ p = room_from (q + b.words) p need (hole_spans bs) (holes_above (q + b.words) (not b.used) bs end t.3) room in
    let ne : b.place ≢ p = λ e. absurd (omega (arith, e)) in
    (ne_eqb b.place p ne, room, omega arith) in
    (elim b.used as (λ u. has_room p need (hole_spans (record b { used = u } ∷ bs)) ≡ true → RoomAt p need (record b { used = u }) bs) [
      | true ↦ λ room. inr (later room)
      | false ↦ λ room. elim (or_cases (b.place == p && nat_le need b.words) (has_room p need (hole_spans bs)) room) [
        | inl here ↦ let parts = and_parts (b.place == p) (nat_le need b.words) here in inl (refl, eqb-true b.place p parts.0, leb-true need b.words parts.1)
        | inr behind ↦ inr (later behind)
      ]
    ]) room

-- ---- the blocks after the change

-- blocks that may follow a hole may also follow a used block
loosen : (p : ℕ) (bs : List Block) (end : ℕ) → Tiled p true bs end → Tiled p false bs end
loosen p [] end t = t
loosen p (b ∷ bs) end t = (t.0, t.1, refl, t.3)

rest_tiled : (p need end : ℕ) (b : Block) (bs : List Block) (t : Bool) → nat_lt need b.words ≡ t → need ≤ b.words → Tiled (p + b.words) true bs end
    → Tiled (p + need) false (cond t (free_block (p + need) (b.words - need) ∷ bs) bs) end
rest_tiled p need end b bs t lt fits rest = grind (arith, ltb-true, Tiled, ltb-false, loosen)

pub taken_here : (p need : ℕ) (b : Block) (bs : List Block) → b.place ≡ p → take_in p need (b ∷ bs) ≡ used_block p need ∷ rest_of p need b bs
taken_here p need b bs here = ap (λ (t : Bool). cond t (used_block p need ∷ rest_of p need b bs) (b ∷ take_in p need bs)) (eq-eqb b.place p here)

pub taken_later : (p need : ℕ) (b : Block) (bs : List Block) → (b.place == p) ≡ false → take_in p need (b ∷ bs) ≡ b ∷ take_in p need bs
taken_later p need b bs other = ap (λ (t : Bool). cond t (used_block p need ∷ rest_of p need b bs) (b ∷ take_in p need bs)) other

pub take_tiled : (p need q : ℕ) (a : Bool) (bs : List Block) (end : ℕ) → 1 ≤ need → Tiled q a bs end → has_room p need (hole_spans bs) ≡ true → Tiled q a (take_in p need bs) end
unfolding RoomAt
take_tiled p need q a [] end some t room = absurd (cc room)
take_tiled p need q a (b ∷ bs) end some t room =
    let place : b.place ≡ q = t.0 in
    elim (room_at p need q a b bs end t room) [
      | inl here ↦
          let same : p ≡ q = sym here.1 ∙ place in
          let behind : Tiled (p + b.words) true bs end = subst (λ (r : ℕ). Tiled (r + b.words) true bs end) (sym same) (subst (λ (v : Bool). Tiled (q + b.words) (not v) bs end) here.0 t.3) in
          subst (λ (l : List Block). Tiled q a l end) (sym (taken_here p need b bs here.1))
          (same, some, and_false a, subst (λ (r : ℕ). Tiled (r + need) false (rest_of p need b bs) end) same (rest_tiled p need end b bs (nat_lt need b.words) refl here.2 behind))
      | inr later ↦ subst (λ (l : List Block). Tiled q a l end) (sym (taken_later p need b bs later.0)) (t.0, t.1, t.2, take_tiled p need (q + b.words) (not b.used) bs end some t.3 later.1)
    ]

-- ---- their spans

rest_spans : (p need : ℕ) (b : Block) (bs : List Block) → used_spans (rest_of p need b bs) ≡ used_spans bs
rest_spans p need b bs = elim (nat_lt need b.words) as (λ t. used_spans (cond t (free_block (p + need) (b.words - need) ∷ bs) bs) ≡ used_spans bs) [ true ↦ refl | false ↦ refl ]

pub take_spans : (p need q : ℕ) (a : Bool) (bs : List Block) (end : ℕ) → Tiled q a bs end → has_room p need (hole_spans bs) ≡ true → used_spans (take_in p need bs) ≡ put_at p need (used_spans bs)
unfolding RoomAt
take_spans p need q a [] end t room = absurd (cc room)
take_spans p need q a (b ∷ bs) end t room =
    let place : b.place ≡ q = t.0 in
    let low : 1 ≤ b.words = t.1 in
    elim (room_at p need q a b bs end t room) [
      | inl here ↦
          let same : p ≡ q = sym here.1 ∙ place in
          ap used_spans (taken_here p need b bs here.1)
          ∙ ap (λ (l : List (ℕ × ℕ)). (p, need) ∷ l) (rest_spans p need b bs)
          ∙ sym (put_front p need (used_spans bs) (above_weaker (q + b.words) (p + 1) (used_spans bs) (omega arith) (used_above (q + b.words) (not b.used) bs end t.3)))
          ∙ sym (ap (λ (u : Bool). put_at p need (cond u ((b.place, b.words) ∷ used_spans bs) (used_spans bs))) here.0)
      | inr later ↦
          ap used_spans (taken_later p need b bs later.0)
          ∙ (let rest = take_spans p need (q + b.words) (not b.used) bs end t.3 later.1 in
          elim b.used as (λ u. used_spans (record b { used = u } ∷ take_in p need bs) ≡ put_at p need (used_spans (record b { used = u } ∷ bs))) [
            | true ↦ ap (λ (l : List (ℕ × ℕ)). (b.place, b.words) ∷ l) rest
                ∙ sym (ap (λ (t : Bool). cond t ((p, need) ∷ (b.place, b.words) ∷ used_spans bs) ((b.place, b.words) ∷ put_at p need (used_spans bs))) (le-ltb p b.place (let lt : b.place < p = later.2 in omega arith)))
            | false ↦ rest
          ])
    ]

-- ---- the headers that change

-- blocks end at their start or after it
pub tiled_end : (q : ℕ) (a : Bool) (bs : List Block) (end : ℕ) → Tiled q a bs end → q ≤ end
tiled_end q a [] end t = omega (arith, t)
tiled_end q a (b ∷ bs) end t = let later : q + b.words ≤ end = tiled_end (q + b.words) (not b.used) bs end t.3 in omega arith

-- the place of the first hole is within the blocks, or 0
pub first_range : (q : ℕ) (a : Bool) (bs : List Block) (end : ℕ) → Tiled q a bs end → (first_hole bs ≡ 0) ⊎ ((q ≤ first_hole bs) × (first_hole bs < end))
first_range q a [] end t = inl refl
first_range q a (b ∷ bs) end t =
    let place : b.place ≡ q = t.0 in
    let low : 1 ≤ b.words = t.1 in
    let ends : q + b.words ≤ end = tiled_end (q + b.words) (not b.used) bs end t.3 in
    elim b.used as (λ u. (first_hole (record b { used = u } ∷ bs) ≡ 0) ⊎ ((q ≤ first_hole (record b { used = u } ∷ bs)) × (first_hole (record b { used = u } ∷ bs) < end))) [
      | true ↦ elim (first_range (q + b.words) (not b.used) bs end t.3) [ inl none ↦ inl none | inr some ↦ inr (omega (arith, some.0), some.1) ]
      | false ↦ inr (omega arith, omega arith)
    ]

pub added : (e : ℕ × List ℕ) (l : List (ℕ × List ℕ)) → From (e.0 + 1) l → changes l l ≡ [] → changes l (e ∷ l) ≡ e ∷ []
added e l f same =
    ap (λ (t : Bool). cond (not t) (e ∷ changes l l) (changes l l)) (none_from e (e.0 + 1) l (omega arith) f) ∙ ap (λ (k : List (ℕ × List ℕ)). e ∷ k) same

here_list : (v s p need n end : ℕ) (g : ℕ × ℕ) (bs : List Block) (t : Bool) → nat_lt need n ≡ t → 1 ≤ need → 1 ≤ p → end < 65536 → g.0 < p → 1 ≤ n → Tiled (p + n) true bs end
    → changes (link_word v s g p ∷ (p, hole_header n (first_hole bs)) ∷ heads bs)
    (link_word v s g (first_hole (cond t (free_block (p + need) (n - need) ∷ bs) bs)) ∷ (p, used_header need) ∷ heads (cond t (free_block (p + need) (n - need) ∷ bs) bs))
    ≡ cond t (link_word v s g (p + need) ∷ (p, used_header need) ∷ (p + need, hole_header (n - need) (first_place (hole_spans bs))) ∷ []) (link_word v s g (first_place (hole_spans bs)) ∷ (p, used_header need) ∷ [])
here_list v s p need n end g bs true e some low few gap long t =
    let less : need < n = ltb-true need n e in
    let ends : p + n ≤ end = tiled_end (p + n) true bs end t in
    let behind : From (p + n) (heads bs) = heads_from (p + n) true bs end t in
    let ne : p + need ≢ p = λ h. absurd (omega (arith, h)) in
    let left : ℕ × List ℕ = (p + need, hole_header (n - need) (first_hole bs)) in
    let new-from : From (p + 1) (left ∷ heads bs) = (omega arith, from_weaker (p + n) (p + 1) (heads bs) (omega arith) behind) in
    under_other (link_word v s g p) (link_word v s g (p + need)) ((p, hole_header n (first_hole bs)) ∷ heads bs) ((p, used_header need) ∷ left ∷ heads bs) refl (links_differ v s g (p + need) p (omega arith) (omega arith) ne)
    (omega arith, from_weaker (p + n) (g.0 + 1) (heads bs) (omega arith) behind) (omega arith, from_weaker (p + 1) (g.0 + 1) (left ∷ heads bs) (omega arith) new-from)
    ∙ ap (λ (l : List (ℕ × List ℕ)). link_word v s g (p + need) ∷ l)
    (under_other (p, hole_header n (first_hole bs)) (p, used_header need) (heads bs) (left ∷ heads bs) refl refl (from_weaker (p + n) (p + 1) (heads bs) (omega arith) behind) new-from
    ∙ ap (λ (l : List (ℕ × List ℕ)). (p, used_header need) ∷ l)
    (added left (heads bs) (from_weaker (p + n) (p + need + 1) (heads bs) (omega arith) behind) (heads_same (p + n) true bs end t)
    ∙ ap (λ (f : ℕ). (p + need, hole_header (n - need) f) ∷ []) (first_is bs)))
here_list v s p need n end g bs false e some low few gap long t =
    let ends : p + n ≤ end = tiled_end (p + n) true bs end t in
    let behind : From (p + n) (heads bs) = heads_from (p + n) true bs end t in
    let ne : first_hole bs ≢ p = λ h. elim (first_range (p + n) true bs end t) [ inl none ↦ absurd (omega (arith, h, none)) | inr some ↦ absurd (omega (arith, h, some.0)) ] in
    let within : first_hole bs < 65536 = elim (first_range (p + n) true bs end t) [ inl none ↦ omega (arith, none) | inr some ↦ omega (arith, some.1) ] in
    under_other (link_word v s g p) (link_word v s g (first_hole bs)) ((p, hole_header n (first_hole bs)) ∷ heads bs) ((p, used_header need) ∷ heads bs) refl (links_differ v s g (first_hole bs) p within (omega arith) ne)
    (omega arith, from_weaker (p + n) (g.0 + 1) (heads bs) (omega arith) behind) (omega arith, from_weaker (p + n) (g.0 + 1) (heads bs) (omega arith) behind)
    ∙ ap (λ (l : List (ℕ × List ℕ)). link_word v s g (first_hole bs) ∷ l)
    (under_other (p, hole_header n (first_hole bs)) (p, used_header need) (heads bs) (heads bs) refl refl (from_weaker (p + n) (p + 1) (heads bs) (omega arith) behind) (from_weaker (p + n) (p + 1) (heads bs) (omega arith) behind)
    ∙ ap (λ (l : List (ℕ × List ℕ)). (p, used_header need) ∷ l) (heads_same (p + n) true bs end t))
    ∙ ap (λ (f : ℕ). link_word v s g f ∷ (p, used_header need) ∷ []) (first_is bs)

abbrev taken_at : ℕ → ℕ → ℕ → ℕ → ℕ × ℕ → List (ℕ × ℕ) → List (ℕ × List ℕ)
taken_at v s p need g gs = take_list v s g gs p need

take_here : (v s need end : ℕ) (g : ℕ × ℕ) (b : Block) (bs : List Block) → 1 ≤ need → 1 ≤ b.place → end < 65536 → g.0 < b.place → 1 ≤ b.words → Tiled (b.place + b.words) true bs end
    → Claim v s b.place (taken_at v s b.place need) g (record b { used = false } ∷ bs) (used_block b.place need ∷ rest_of b.place need b bs)
unfolding Claim
take_here v s need end g b bs some low few gap long t =
    here_list v s b.place need b.words end g bs (nat_lt need b.words) refl some low few gap long t
    ∙ sym (ap (λ (x : Bool). take_list v s (cond x (gap_before b.place (b.place, b.words) (hole_spans bs)) g) (cond x (gaps_behind b.place (hole_spans bs)) ((b.place, b.words) ∷ hole_spans bs)) b.place need) (not_before b.place))

take_all : (v s p need q : ℕ) (g : ℕ × ℕ) (a : Bool) (bs : List Block) (end : ℕ) → 1 ≤ need → 1 ≤ q → end < 65536 → g.0 < q → Tiled q a bs end → has_room p need (hole_spans bs) ≡ true → Claim v s p (taken_at v s p need) g bs (take_in p need bs)
unfolding RoomAt
take_all v s p need q g a [] end some low few gap t room = absurd (cc room)
take_all v s p need q g a (b ∷ bs) end some low few gap t room =
    let place : b.place ≡ q = t.0 in
    let long : 1 ≤ b.words = t.1 in
    let tail : Tiled (b.place + b.words) (not b.used) bs end = subst (λ (r : ℕ). Tiled (r + b.words) (not b.used) bs end) (sym place) t.3 in
    elim (room_at p need q a b bs end t room) [
      | inl here ↦
          subst (λ (l : List Block). Claim v s p (taken_at v s p need) g (b ∷ bs) l) (sym (taken_here p need b bs here.1))
          (subst (λ (r : ℕ). Claim v s r (taken_at v s r need) g (b ∷ bs) (used_block r need ∷ rest_of r need b bs)) here.1
          (subst (λ (u : Bool). Claim v s b.place (taken_at v s b.place need) g (record b { used = u } ∷ bs) (used_block b.place need ∷ rest_of b.place need b bs)) (sym here.0)
          (take_here v s need end g b bs some (omega arith) few (omega arith) long (subst (λ (u : Bool). Tiled (b.place + b.words) (not u) bs end) here.0 tail))))
      | inr later ↦
          subst (λ (l : List Block). Claim v s p (taken_at v s p need) g (b ∷ bs) l) (sym (taken_later p need b bs later.0))
          (later_either v s p end (taken_at v s p need) g b (not b.used) bs (take_in p need bs) b.used (omega arith) later.2 long tail (take_tiled p need (b.place + b.words) (not b.used) bs end some tail later.1)
          (λ _. take_all v s p need (q + b.words) g (not b.used) bs end some (omega arith) few (omega arith) t.3 later.1)
          (λ _. take_all v s p need (q + b.words) (b.place, b.words) (not b.used) bs end some (omega arith) few (omega arith) t.3 later.1))
    ]

-- the changes of taking words are those of `take_list`
pub take_plan : (v size p need : ℕ) (bs : List Block) → 1 ≤ need → size < 65536 → Tiled heap_start false bs size → has_room p need (hole_spans bs) ≡ true
    → changes (layout_of v size (used_spans bs)) (layout_of v size (put_at p need (used_spans bs))) ≡ take_list v size (gap_before p (0, 0) (hole_spans bs)) (gaps_behind p (hole_spans bs)) p need
unfolding Claim
take_plan v size p need bs some few t room =
    ap (λ (l : List (ℕ × List ℕ)). changes l (layout_of v size (put_at p need (used_spans bs)))) (layout_is v size bs (used_spans bs) t refl)
    ∙ ap (λ (l : List (ℕ × List ℕ)). changes (link_word v size (0, 0) (first_hole bs) ∷ heads bs) l) (layout_is v size (take_in p need bs) (put_at p need (used_spans bs)) (take_tiled p need heap_start false bs size some t room) (sym (take_spans p need heap_start false bs size t room)))
    ∙ take_all v size p need heap_start (0, 0) false bs size some (omega arith) few (omega arith) t room
