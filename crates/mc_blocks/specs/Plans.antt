-- The header words that change when words of a hole are taken or a used block is freed.
use Rattle.std.specs.Prelude.{ℕ, ◌+◌, ◌-◌, Bool, false, cond, not, ◌&&◌, ◌||◌, nat_lt, nat_le, ◌==◌, List, [], ◌∷◌, filter}
use Rattle.std.specs.List.{list_any}
use Rattle.mc_words.specs.model_device.specs.Card.{Card, heap_start}
use Rattle.mc_words.specs.model_device.specs.Layout.{gaps_from, first_place, root, hole_header, used_header, gap_headers, with_used, layout, same_pair}

-- the pairs of a layout that are not in another
abbrev pub changes : List (ℕ × List ℕ) → List (ℕ × List ℕ) → List (ℕ × List ℕ)
changes old new = filter (λ e. not (list_any (same_pair e) old)) new

-- the layout of a card of this version and size whose applications have these spans: the root, and the headers of used
-- blocks and gaps
unfoldable pub layout_of : ℕ → ℕ → List (ℕ × ℕ) → List (ℕ × List ℕ)
layout_of version size ss =
    (0, root version size (first_place (gaps_from heap_start ss size))) ∷ with_used ss (gap_headers (gaps_from heap_start ss size))

-- the atomic write that changes the layout of a card into that with these spans of applications
abbrev pub plan : Card → List (ℕ × ℕ) → List (ℕ × List ℕ)
plan card ss = changes (layout card) (layout_of card.layout card.size ss)

-- whether one of these gaps begins at p and has at least `need` words
abbrev pub has_room : ℕ → ℕ → List (ℕ × ℕ) → Bool
has_room p need [] = false
has_room p need (g ∷ gs) = (g.0 == p && nat_le need g.1) || has_room p need gs

-- whether one of these spans begins at p
abbrev pub has_span : ℕ → List (ℕ × ℕ) → Bool
has_span p [] = false
has_span p (s ∷ ss) = s.0 == p || has_span p ss

-- the spans that do not begin at p
abbrev pub without : ℕ → List (ℕ × ℕ) → List (ℕ × ℕ)
without p [] = []
without p (s ∷ ss) = cond (s.0 == p) (without p ss) (s ∷ without p ss)

-- the last gap that begins before p, or else g
abbrev pub gap_before : ℕ → ℕ × ℕ → List (ℕ × ℕ) → ℕ × ℕ
gap_before p g [] = g
gap_before p g (h ∷ hs) = cond (nat_lt h.0 p) (gap_before p h hs) g

-- the gaps from p on
abbrev pub gaps_behind : ℕ → List (ℕ × ℕ) → List (ℕ × ℕ)
gaps_behind p [] = []
gaps_behind p (h ∷ hs) = cond (nat_lt h.0 p) (gaps_behind p hs) (h ∷ hs)

-- whether a link names a gap before p
abbrev pub names_before : ℕ → ℕ → Bool
names_before next p = not (next == 0) && nat_lt next p

-- the write by which the link g of the chain names `next`: of the root if g is at 0, else of the hole at g
abbrev pub link_word : ℕ → ℕ → ℕ × ℕ → ℕ → ℕ × List ℕ
link_word version size g next = (g.0, cond (g.0 == 0) (root version size next) (hole_header g.1 next))

-- the writes by which `need` words are taken from the front of the hole at p, which names `next`: the link before it,
-- the used header, and the rest of the hole if there is one
abbrev pub take_front : ℕ → ℕ → ℕ × ℕ → ℕ → ℕ → ℕ → ℕ → List (ℕ × List ℕ)
take_front version size before p words next need =
    cond (nat_lt need words)
    (link_word version size before (p + need) ∷ (p, used_header need) ∷ (p + need, hole_header (words - need) next) ∷ [])
    (link_word version size before next ∷ (p, used_header need) ∷ [])

-- the writes by which words are taken from the front of the first of these gaps
abbrev pub take_list : ℕ → ℕ → ℕ × ℕ → List (ℕ × ℕ) → ℕ → ℕ → List (ℕ × List ℕ)
take_list version size before [] p need = []
take_list version size before (g ∷ gs) p need = take_front version size before p g.1 (first_place gs) need

-- the number of words of a hole of n words at p, joined with the first of these gaps if they touch
abbrev pub joined_words : ℕ → ℕ → List (ℕ × ℕ) → ℕ
joined_words p n [] = n
joined_words p n (g ∷ gs) = cond (g.0 == p + n) (n + g.1) n

-- the place of the first of these gaps that does not touch a hole of n words at p, or 0 if there is none
abbrev pub joined_next : ℕ → ℕ → List (ℕ × ℕ) → ℕ
joined_next p n [] = 0
joined_next p n (g ∷ gs) = cond (g.0 == p + n) (first_place gs) g.0

-- whether a gap ends at p
abbrev pub touches : ℕ × ℕ → ℕ → Bool
touches g p = not (g.0 == 0) && g.0 + g.1 == p

-- the writes by which a hole at p that names `next` is added: it is joined with the gap before it if they touch, else
-- the link before it names it
abbrev pub put_hole : ℕ → ℕ → ℕ × ℕ → ℕ → ℕ → ℕ → List (ℕ × List ℕ)
put_hole version size before p words next =
    cond (touches before p)
    ((before.0, hole_header (before.1 + words) next) ∷ [])
    (link_word version size before p ∷ (p, hole_header words next) ∷ [])

-- the writes by which a block of n words at p is freed, before these gaps
abbrev pub free_list : ℕ → ℕ → ℕ × ℕ → List (ℕ × ℕ) → ℕ → ℕ → List (ℕ × List ℕ)
free_list version size before gs p n = put_hole version size before p (joined_words p n gs) (joined_next p n gs)
