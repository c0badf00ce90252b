-- Adjacent blocks: their gaps are their holes.
use Rattle.std.proofs.Common.{◌≡◌, ℕ, zero, suc, ◌+◌, ◌-◌, ◌<◌, ◌≤◌, Bool, true, false, ◌&&◌, List, [], ◌∷◌, ◌++◌, length, Option, Some, None, refl, sym, ◌∙◌, ap, subst, inl, inr, arith, cond, not, append-nil}
use Rattle.std.specs.Prelude.{nat_lt}
use Rattle.std.proofs.lemmas.Bool.{lt-ltb, le-ltb, le-leb, cases_lt, or_parts}
use Rattle.std.proofs.lemmas.List.{get_or_past}
use Rattle.mc_words.specs.model_device.specs.Card.{Block, word, header}
use Rattle.mc_words.specs.model_device.specs.Layout.{gap, gaps_from, first_place, first_hole, bad_header}
use Rattle.mc_blocks.specs.Blocks.{block_within, blocks_at, bad_from, used_spans, hole_spans}
use Rattle.mc_blocks.proofs.Steps.{HeaderIs, header_is, blocks_step, blocks_stop}
use Rattle.mc_blocks.proofs.Headers.{bad_here, bad_behind, good_end}

-- adjacent blocks from p up to the end, with no hole after a hole; after_hole is whether a hole ends at p
abbrev pub Tiled : ℕ → Bool → List Block → ℕ → Type 0
Tiled p after_hole [] end = p ≡ end
Tiled p after_hole (b ∷ bs) end = (b.place ≡ p) × (1 ≤ b.words) × ((after_hole && not b.used) ≡ false) × Tiled (p + b.words) (not b.used) bs end

-- the headers of these blocks are at their places
abbrev pub HeadersRead : List (List ℕ) → List Block → Type 0
HeadersRead m [] = Unit {0}
HeadersRead m (b ∷ bs) = (header b.place (word m b.place) ≡ Some b) × (b.place + b.words ≤ length m) × HeadersRead m bs

-- ---- a walk without a bad header

nothing_past : (m : List (List ℕ)) (p : ℕ) → length m ≤ p → blocks_at m p ≡ []
nothing_past m p h = blocks_stop m p (sym (ap (λ (x : List ℕ). block_within (length m) (header p x)) (get_or_past m p [] h)))

fits_back : (size : ℕ) (b : Block) (o : Option Block) → o ≡ Some b → b.place + b.words ≤ size → Some b ≡ block_within size o
fits_back size b o e h = sym (ap (λ (q : Option Block). block_within size q) e ∙ ap (λ (t : Bool). cond t (Some b) None) (le-leb (b.place + b.words) size h))

-- the blocks of a walk without a bad header
pub record BlocksWalked (m : List (List ℕ)) (p : ℕ) (after_hole : Bool) (bs : List Block) : Type 0 where
  pub tiled : Tiled p after_hole bs (length m)
  pub read : HeadersRead m bs

after_is : (size : ℕ) (after_hole : Bool) (b : Block) → bad_header size after_hole (Some b) ≡ false → (after_hole && not b.used) ≡ false
after_is size after_hole b h = (or_parts (nat_lt size (b.place + b.words)) (after_hole && not b.used) h).1

module _ (m : List (List ℕ)) where
  one_more : (p : ℕ) (after_hole : Bool) (b : Block) → p < length m → header p (word m p) ≡ Some b → bad_header (length m) after_hole (header p (word m p)) ≡ false
      → (bad_from m (b.place + b.words) (not b.used) ≡ None → BlocksWalked m (b.place + b.words) (not b.used) (blocks_at m (b.place + b.words))) → bad_from m p after_hole ≡ None → BlocksWalked m p after_hole (blocks_at m p)
  one_more p after_hole b lt is good rest none =
      let known : HeaderIs p (word m p) b = header_is p (word m p) b is in
      let place : b.place ≡ p = known.place in
      let ends = good_end m p after_hole b (is, good) in
      let w : BlocksWalked m (b.place + b.words) (not b.used) (blocks_at m (b.place + b.words)) = rest (sym (bad_behind m p after_hole b lt (is, good)) ∙ none) in
      subst (λ (l : List Block). BlocksWalked m p after_hole l) (sym (blocks_step m p b (fits_back (length m) b (header p (word m p)) is ends.0)))
      (record {
        tiled = (place, known.low, after_is (length m) after_hole b (subst (λ (o : Option Block). bad_header (length m) after_hole o ≡ false) is good), subst (λ (q : ℕ). Tiled (q + b.words) (not b.used) (blocks_at m (b.place + b.words)) (length m)) place w.tiled);
        read = (subst (λ (q : ℕ). header q (word m q) ≡ Some b) (sym place) is, ends.0, w.read);
      })

  by_header : (p : ℕ) (after_hole : Bool) (o : Option Block) (t : Bool) → p < length m → header p (word m p) ≡ o → bad_header (length m) after_hole (header p (word m p)) ≡ t
      → ((b : Block) → p < b.place + b.words → b.place + b.words ≤ length m → bad_from m (b.place + b.words) (not b.used) ≡ None → BlocksWalked m (b.place + b.words) (not b.used) (blocks_at m (b.place + b.words))) → bad_from m p after_hole ≡ None → BlocksWalked m p after_hole (blocks_at m p)
  by_header p after_hole o true lt is bad rest none = absurd (cc (sym (bad_here m p after_hole lt bad) ∙ none))
  by_header p after_hole None false lt is bad rest none = absurd (cc (sym (ap (λ (o : Option Block). bad_header (length m) after_hole o) is) ∙ bad))
  by_header p after_hole (Some b) false lt is bad rest none =
      let ends = good_end m p after_hole b (is, bad) in
      one_more p after_hole b lt is bad (rest b ends.1 ends.0) none

  walked : (n p : ℕ) (after_hole : Bool) → length m - p ≤ n → p ≤ length m → bad_from m p after_hole ≡ None → BlocksWalked m p after_hole (blocks_at m p)
  walked zero p after_hole few h none =
      let end : p ≡ length m = omega arith in
      subst (λ (l : List Block). BlocksWalked m p after_hole l) (sym (nothing_past m p (omega arith))) (record { tiled = end; read = tt })
  walked (suc n) p after_hole few h none =
      elim (cases_lt p (length m)) [
        | inl lt ↦ by_header p after_hole (header p (word m p)) (bad_header (length m) after_hole (header p (word m p))) lt refl refl (λ b later ends good. walked n (b.place + b.words) (not b.used) (omega arith) ends good) none
        | inr past ↦ let end : p ≡ length m = omega arith in subst (λ (l : List Block). BlocksWalked m p after_hole l) (sym (nothing_past m p past)) (record { tiled = end; read = tt })
      ]

pub all_walked : (m : List (List ℕ)) → 131 ≤ length m → bad_from m 131 false ≡ None → BlocksWalked m 131 false (blocks_at m 131)
all_walked m h none = walked m (length m) 131 false (omega arith) h none

-- ---- gaps are holes

pub no_gap : (p : ℕ) → gap p p ≡ []
no_gap p = ap (λ (t : Bool). cond t ((p, p - p) ∷ []) []) (le-ltb p p (omega arith))

pub one_gap : (p n : ℕ) → 1 ≤ n → gap p (p + n) ≡ (p, n) ∷ []
one_gap p n h =
    ap (λ (t : Bool). cond t ((p, p + n - p) ∷ []) []) (lt-ltb p (p + n) (omega arith)) ∙ ap (λ (k : ℕ). (p, k) ∷ []) (let e : p + n - p ≡ n = omega arith in e)

-- the beginning of the gap before p: p itself, or the place of the hole that ends at p
abbrev GapBegins : Bool → ℕ → ℕ → Type 0
GapBegins true start p = start < p
GapBegins false start p = start ≡ p

gaps_go : (start p : ℕ) (after_hole u : Bool) (b : Block) (bs : List Block) (end : ℕ) → b.place ≡ p → 1 ≤ b.words → (after_hole && not u) ≡ false → GapBegins after_hole start p
    → ((s : ℕ) → GapBegins (not u) s (p + b.words) → gaps_from s (used_spans bs) end ≡ gap s (p + b.words) ++ hole_spans bs)
    → gaps_from start (used_spans (record b { used = u } ∷ bs)) end ≡ gap start p ++ hole_spans (record b { used = u } ∷ bs)
gaps_go start p after_hole u b bs end place low apart begins rest = grind (arith, no_gap, one_gap)

gaps_all : (start p : ℕ) (after_hole : Bool) (bs : List Block) (end : ℕ) → Tiled p after_hole bs end → GapBegins after_hole start p → gaps_from start (used_spans bs) end ≡ gap start p ++ hole_spans bs
gaps_all start p after_hole [] end t begins = ap (λ (e : ℕ). gap start e) (sym t) ∙ sym (append-nil (gap start p))
gaps_all start p after_hole (b ∷ bs) end t begins =
    gaps_go start p after_hole b.used b bs end t.0 t.1 t.2 begins (λ s begun. gaps_all s (p + b.words) (not b.used) bs end t.3 begun)

-- the gaps between used blocks are the holes
pub gaps_are_holes : (p : ℕ) (bs : List Block) (end : ℕ) → Tiled p false bs end → gaps_from p (used_spans bs) end ≡ hole_spans bs
gaps_are_holes p bs end t = gaps_all p p false bs end t refl ∙ ap (λ (l : List (ℕ × ℕ)). l ++ hole_spans bs) (no_gap p)

-- the first hole is the first gap
pub first_is : (bs : List Block) → first_hole bs ≡ first_place (hole_spans bs)
first_is [] = refl
first_is (b ∷ bs) =
    elim b.used as (λ u. first_hole (record b { used = u } ∷ bs) ≡ first_place (hole_spans (record b { used = u } ∷ bs))) [ true ↦ first_is bs | false ↦ refl ]
