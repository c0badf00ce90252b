-- A plan that is written to the words makes the blocks afterwards stand: their headers are read, and root and holes
-- name each other.
use Rattle.std.proofs.Common.{◌≡◌, ◌≢◌, ℕ, ◌+◌, ◌<◌, ◌≤◌, Bool, true, false, ◌||◌, List, [], ◌∷◌, ◌++◌, length, take, Some, None, refl, sym, ◌∙◌, ap, subst, inl, inr, arith, cond, not}
use Rattle.std.specs.Prelude.{◌==◌, slice_index, bytes_eq}
use Rattle.std.specs.List.{AllByRecursion, list_any}
use Rattle.std.proofs.lemmas.Bool.{le-leb, eq-eqb, eqb-true, and_parts, and_from, or_cases, cases_eq}
use Rattle.std.proofs.lemmas.Slice.Eq.{bytes_eq-Decides}
use Rattle.mc_words.specs.model_device.specs.Bytes.{be2}
use Rattle.mc_words.specs.model_device.specs.Card.{Block, word, header}
use Rattle.mc_words.specs.model_device.specs.Layout.{first_hole, hole_header, used_header, root, same_pair, bad_link}
use Rattle.mc_words.specs.model_device.proofs.ImageLemmas.{HoldsWords, all_append}
use Rattle.mc_words.specs.model_device.proofs.ListLemmas.{two_bytes}
use Rattle.mc_blocks.specs.Blocks.{used_spans, is_root_word}
use Rattle.mc_blocks.specs.Outcomes.{OthersKept}
use Rattle.mc_blocks.specs.Plans.{changes, link_word}
use Rattle.mc_blocks.proofs.Tiles.{Tiled, HeadersRead}
use Rattle.mc_blocks.proofs.Taking.{tiled_end, first_range}
use Rattle.mc_blocks.proofs.Changes.{From, from_weaker, split, one_other, one_same, links_differ}
use Rattle.mc_blocks.proofs.Heads.{heads, heads_from, heads_behind}
use Rattle.mc_blocks.proofs.Search.{link_none}

-- ---- blocks with the links that are due

abbrev pub relink : List Block → List Block
relink [] = []
relink (b ∷ bs) = record b { link = cond b.used 0 (first_hole bs) } ∷ relink bs

pub relink_first : (bs : List Block) → first_hole (relink bs) ≡ first_hole bs
relink_first [] = refl
relink_first (b ∷ bs) = ap (λ (f : ℕ). cond b.used f b.place) (relink_first bs)

pub relink_used : (bs : List Block) → used_spans (relink bs) ≡ used_spans bs
relink_used [] = refl
relink_used (b ∷ bs) = ap (λ (l : List (ℕ × ℕ)). cond b.used ((b.place, b.words) ∷ l) l) (relink_used bs)

pub relink_tiled : (p : ℕ) (a : Bool) (bs : List Block) (end : ℕ) → Tiled p a bs end → Tiled p a (relink bs) end
relink_tiled p a [] end t = t
relink_tiled p a (b ∷ bs) end t = (t.0, t.1, t.2, relink_tiled (p + b.words) (not b.used) bs end t.3)

pub relink_links : (bs : List Block) → bad_link (relink bs) ≡ None
relink_links [] = refl
relink_links (b ∷ bs) =
    let due : cond b.used 0 (first_hole bs) ≡ cond b.used 0 (first_hole (relink bs)) = ap (λ (f : ℕ). cond b.used 0 f) (sym (relink_first bs)) in
    ap (λ (t : Bool). cond t (bad_link (relink bs)) (Some b.place)) (eq-eqb (cond b.used 0 (first_hole bs)) (cond b.used 0 (first_hole (relink bs))) due) ∙ relink_links bs

-- ---- words that read as the due ones

header_used : (p n : ℕ) → 1 ≤ n → n < 65536 → header p (used_header n) ≡ Some (record { place = p; used = true; words = n; link = 0 })
header_used p n low high = grind (arith, two_bytes, le-leb)

header_hole : (p n l : ℕ) → 1 ≤ n → n < 65536 → l < 65536 → header p (hole_header n l) ≡ Some (record { place = p; used = false; words = n; link = l })
header_hole p n l low high few = grind (arith, two_bytes, le-leb)

formal_kind : (b : Block) (f : ℕ) (u : Bool) → 1 ≤ b.words → b.words < 65536 → f < 65536
    → header b.place (cond u (used_header b.words) (hole_header b.words f)) ≡ Some (record b { used = u; link = cond u 0 f })
formal_kind b f true low high few = header_used b.place b.words low high
formal_kind b f false low high few = header_hole b.place b.words f low high few

first_small : (p : ℕ) (a : Bool) (bs : List Block) (end : ℕ) → Tiled p a bs end → end < 65536 → first_hole bs < 65536
first_small p a bs end t h = elim (first_range p a bs end t) [ inl none ↦ omega (arith, none) | inr some ↦ omega (arith, some.1) ]

-- a word reads as the one that is due
abbrev ReadsAsDue : List (List ℕ) → ℕ × List ℕ → Type 0
ReadsAsDue m e = header e.0 (word m e.0) ≡ header e.0 e.1

abbrev AllRead : List (List ℕ) → List (ℕ × List ℕ) → Type 0
AllRead m [] = Unit {0}
AllRead m (e ∷ es) = ReadsAsDue m e × AllRead m es

old_read : (m : List (List ℕ)) (p : ℕ) (a : Bool) (bs : List Block) (end : ℕ) → end < 65536 → Tiled p a bs end → HeadersRead m bs → bad_link bs ≡ None → AllRead m (heads bs)
old_read m p a [] end few t r l = tt
old_read m p a (b ∷ bs) end few t r l =
    let due = cond b.used 0 (first_hole bs) in
    let links = link_none b due (bad_link bs) (b.link == due) refl l in
    let low : 1 ≤ b.words = t.1 in
    let ends : p + b.words ≤ end = tiled_end (p + b.words) (not b.used) bs end t.3 in
    let same : Some (record b { link = due }) ≡ Some b = ap (λ (k : ℕ). Some (record b { link = k })) (sym links.0) in (
      r.0 ∙ sym (formal_kind b (first_hole bs) b.used low (omega arith) (first_small (p + b.words) (not b.used) bs end t.3 few) ∙ same),
      old_read m (p + b.words) (not b.used) bs end few t.3 r.2 links.1,
    )

new_read : (n : List (List ℕ)) (p : ℕ) (a : Bool) (bs : List Block) (end : ℕ) → end < 65536 → end ≡ length n → Tiled p a bs end → AllRead n (heads bs) → HeadersRead n (relink bs)
new_read n p a [] end few size t r = tt
new_read n p a (b ∷ bs) end few size t r =
    let place : b.place ≡ p = t.0 in
    let low : 1 ≤ b.words = t.1 in
    let ends : p + b.words ≤ end = tiled_end (p + b.words) (not b.used) bs end t.3 in
    (r.0 ∙ formal_kind b (first_hole bs) b.used low (omega arith) (first_small (p + b.words) (not b.used) bs end t.3 few), omega (arith, size), new_read n (p + b.words) (not b.used) bs end few size t.3 r.1)

-- ---- the words that are written, and those that are kept

pub from_apart : (q : ℕ) (l : List (ℕ × List ℕ)) (p : ℕ) → q < p → From p l → AllByRecursion (λ e. e.0 ≢ q) l
from_apart q [] p lt f = tt
from_apart q (e ∷ es) p lt f = let low : p ≤ e.0 = f.0 in ((λ h. absurd (omega (arith, h))), from_apart q es p lt f.1)

changes_kind : (p : ℕ) (e : ℕ × List ℕ) (l : List (ℕ × List ℕ)) (t : Bool) → p ≤ e.0 → From p l → From p (cond t (e ∷ l) l)
changes_kind p e l true h f = (h, f)
changes_kind p e l false h f = f

pub changes_from : (p : ℕ) (old new : List (ℕ × List ℕ)) → From p new → From p (changes old new)
changes_from p old [] f = tt
changes_from p old (e ∷ es) f = changes_kind p e (changes old es) (not (list_any (same_pair e) old)) f.0 (changes_from p old es f.1)

any_read : (m : List (List ℕ)) (e : ℕ × List ℕ) (old : List (ℕ × List ℕ)) → AllRead m old → list_any (same_pair e) old ≡ true → ReadsAsDue m e
any_read m e [] r h = absurd (cc h)
any_read m e (x ∷ xs) r h =
    elim (or_cases (same_pair e x) (list_any (same_pair e) xs) h) [
      | inl here ↦
          let parts = and_parts (e.0 == x.0) (bytes_eq e.1 x.1) here in
          let place : x.0 ≡ e.0 = sym (eqb-true e.0 x.0 parts.0) in
          let bytes : x.1 ≡ e.1 = sym ((bytes_eq-Decides e.1 x.1).0 parts.1) in
          subst (λ (q : ℕ). header q (word m q) ≡ header q e.1) place (subst (λ (w : List ℕ). header x.0 (word m x.0) ≡ header x.0 w) bytes r.0)
      | inr later ↦ any_read m e xs r.1 later
    ]

head_kind : (m n : List (List ℕ)) (low : ℕ) (e : ℕ × List ℕ) (old es : List (ℕ × List ℕ)) (t : Bool) → list_any (same_pair e) old ≡ t → AllRead m old → low ≤ e.0 → From (e.0 + 1) es
    → HoldsWords n (cond (not t) (e ∷ changes old es) (changes old es)) → OthersKept m n low (cond (not t) (e ∷ changes old es) (changes old es))
    → ReadsAsDue n e × HoldsWords n (changes old es) × OthersKept m n (e.0 + 1) (changes old es)
head_kind m n low e old es t h r le f holds kept = grind (arith, from_apart, changes_from, any_read)

heads_read : (m n : List (List ℕ)) (low : ℕ) (old : List (ℕ × List ℕ)) (p : ℕ) (a : Bool) (bs : List Block) (end : ℕ) → AllRead m old → low ≤ p → Tiled p a bs end → HoldsWords n (changes old (heads bs)) → OthersKept m n low (changes old (heads bs)) → AllRead n (heads bs)
heads_read m n low old p a [] end r le t holds kept = tt
heads_read m n low old p a (b ∷ bs) end r le t holds kept =
    let place : b.place ≡ p = t.0 in
    let long : 1 ≤ b.words = t.1 in
    let e : ℕ × List ℕ = (b.place, cond b.used (used_header b.words) (hole_header b.words (first_hole bs))) in
    let h = head_kind m n low e old (heads bs) (list_any (same_pair e) old) refl r (omega arith) (heads_behind p b (not b.used) bs end t.0 t.1 t.3) holds kept in
    (h.0, heads_read m n (b.place + 1) old (p + b.words) (not b.used) bs end r (omega arith) t.3 h.1 h.2)

-- ---- the root

root_word : (v s f : ℕ) → (v == 1 || v == 2) ≡ true → is_root_word (root v s f) s ≡ true
root_word v s f h = and_from (v == 1 || v == 2) (bytes_eq (take 6 (root v s 0)) (take 6 (root v s 0))) h ((bytes_eq-Decides (take 6 (root v s 0)) (take 6 (root v s 0))).1 refl)

-- word 0 after the plan: the root that names the first hole
record RootIs (m n : List (List ℕ)) (s place : ℕ) : Type 0 where
  root : is_root_word (word n 0) s ≡ true
  first : be2 (word n 0) 6 ≡ place
  version : slice_index (word n 0) 3 ≡ slice_index (word m 0) 3

root_is : (m n : List (List ℕ)) (v s f g : ℕ) (rest : List (ℕ × List ℕ)) → v ≡ slice_index (word m 0) 3 → f < 65536 → g < 65536 → is_root_word (word m 0) s ≡ true → be2 (word m 0) 6 ≡ f → From 131 rest
    → HoldsWords n (changes ((0, root v s f) ∷ []) ((0, root v s g) ∷ []) ++ rest) → (AllByRecursion (λ p. p.0 ≢ 0) (changes ((0, root v s f) ∷ []) ((0, root v s g) ∷ []) ++ rest) → word n 0 ≡ word m 0) → RootIs m n s g
root_is m n v s f g rest version low high good first far holds kept =
    elim (cases_eq f g) [
      | inl same ↦
          let none : changes ((0, root v s f) ∷ []) ((0, root v s g) ∷ []) ≡ [] = ap (λ (x : ℕ). changes ((0, root v s f) ∷ []) ((0, root v s x) ∷ [])) (sym same) ∙ one_same (0, root v s f) in
          let free : AllByRecursion (λ p. p.0 ≢ 0) (changes ((0, root v s f) ∷ []) ((0, root v s g) ∷ []) ++ rest) = subst (λ (l : List (ℕ × List ℕ)). AllByRecursion (λ (p : ℕ × List ℕ). p.0 ≢ 0) (l ++ rest)) (sym none) (from_apart 0 rest 131 (omega arith) far) in
          let stays : word n 0 ≡ word m 0 = kept free in
          record { root = ap (λ (w : List ℕ). is_root_word w s) stays ∙ good; first = ap (λ (w : List ℕ). be2 w 6) stays ∙ first ∙ same; version = ap (λ (w : List ℕ). slice_index w 3) stays }
      | inr apart ↦
          let other : changes ((0, root v s f) ∷ []) ((0, root v s g) ∷ []) ≡ (0, root v s g) ∷ [] = one_other (0, root v s f) (0, root v s g) (links_differ v s (0, 0) g f high low (λ e. apart (sym e))) in
          let all : HoldsWords n ((0, root v s g) ∷ rest) = subst (λ (l : List (ℕ × List ℕ)). HoldsWords n (l ++ rest)) other holds in
          let versions : (v == 1 || v == 2) ≡ true = subst (λ (x : ℕ). (x == 1 || x == 2) ≡ true) (sym version) (and_parts (slice_index (word m 0) 3 == 1 || slice_index (word m 0) 3 == 2) (bytes_eq (take 6 (word m 0)) (take 6 (root (slice_index (word m 0) 3) s 0))) good).0 in
          record { root = ap (λ (w : List ℕ). is_root_word w s) all.0 ∙ root_word v s g versions; first = ap (λ (w : List ℕ). be2 w 6) all.0 ∙ two_bytes g high; version = ap (λ (w : List ℕ). slice_index w 3) all.0 ∙ version }
    ]

-- ---- the blocks after the plan

-- words n hold these blocks after a plan: the root, the headers and the links, without the records
pub record Relaid (m n : List (List ℕ)) (bs : List Block) : Type 0 where
  pub version : slice_index (word n 0) 3 ≡ slice_index (word m 0) 3
  pub root : is_root_word (word n 0) (length n) ≡ true
  pub first : be2 (word n 0) 6 ≡ first_hole (relink bs)
  pub tiled : Tiled 131 false (relink bs) (length n)
  pub read : HeadersRead n (relink bs)
  pub links : bad_link (relink bs) ≡ None

pub second_part : (n : List (List ℕ)) (xs ys : List (ℕ × List ℕ)) → HoldsWords n (xs ++ ys) → HoldsWords n ys
second_part n [] ys h = h
second_part n (x ∷ xs) ys h = second_part n xs ys h.1

pub root_apart : (v s f g q : ℕ) → 131 ≤ q → (t : Bool) → AllByRecursion {X = ℕ × List ℕ} (λ p. p.0 ≢ q) (cond (not t) ((0, root v s g) ∷ []) [])
root_apart v s f g q low true = tt
root_apart v s f g q low false = ((λ e. absurd (omega (arith, e))), tt)

pub written : (m n : List (List ℕ)) (bs new : List Block) → length m < 65536 → length n ≡ length m → is_root_word (word m 0) (length m) ≡ true → be2 (word m 0) 6 ≡ first_hole bs
    → Tiled 131 false bs (length m) → HeadersRead m bs → bad_link bs ≡ None → Tiled 131 false new (length m)
    → HoldsWords n (changes (link_word (slice_index (word m 0) 3) (length m) (0, 0) (first_hole bs) ∷ heads bs) (link_word (slice_index (word m 0) 3) (length m) (0, 0) (first_hole new) ∷ heads new))
    → (AllByRecursion (λ p. p.0 ≢ 0) (changes (link_word (slice_index (word m 0) 3) (length m) (0, 0) (first_hole bs) ∷ heads bs) (link_word (slice_index (word m 0) 3) (length m) (0, 0) (first_hole new) ∷ heads new)) → word n 0 ≡ word m 0)
    → OthersKept m n 131 (changes (link_word (slice_index (word m 0) 3) (length m) (0, 0) (first_hole bs) ∷ heads bs) (link_word (slice_index (word m 0) 3) (length m) (0, 0) (first_hole new) ∷ heads new))
    → Relaid m n new
written m n bs new few size good first tiled read links later holds zero-kept kept =
    let v = slice_index (word m 0) 3 in
    let s = length m in
    let old-root : ℕ × List ℕ = (0, root v s (first_hole bs)) in
    let new-root : ℕ × List ℕ = (0, root v s (first_hole new)) in
    let one : 0 < 1 = omega arith in
    let parts : changes (old-root ∷ heads bs) (new-root ∷ heads new) ≡ changes (old-root ∷ []) (new-root ∷ []) ++ changes (heads bs) (heads new) =
    split 1 (old-root ∷ []) (heads bs) (new-root ∷ []) (heads new) (one, tt) (from_weaker 131 1 (heads bs) (omega arith) (heads_from 131 false bs s tiled)) (one, tt) (from_weaker 131 1 (heads new) (omega arith) (heads_from 131 false new s later)) in
    let split-holds : HoldsWords n (changes (old-root ∷ []) (new-root ∷ []) ++ changes (heads bs) (heads new)) = subst (λ (l : List (ℕ × List ℕ)). HoldsWords n l) parts holds in
    let split-zero : AllByRecursion (λ (p : ℕ × List ℕ). p.0 ≢ 0) (changes (old-root ∷ []) (new-root ∷ []) ++ changes (heads bs) (heads new)) → word n 0 ≡ word m 0 =
    subst (λ (l : List (ℕ × List ℕ)). AllByRecursion (λ (p : ℕ × List ℕ). p.0 ≢ 0) l → word n 0 ≡ word m 0) parts zero-kept in
    let split-kept : OthersKept m n 131 (changes (old-root ∷ []) (new-root ∷ []) ++ changes (heads bs) (heads new)) = subst (λ (l : List (ℕ × List ℕ)). OthersKept m n 131 l) parts kept in
    let heads-kept : OthersKept m n 131 (changes (heads bs) (heads new)) = λ q low apart. split-kept q low (all_append (λ (p : ℕ × List ℕ). p.0 ≢ q) (changes (old-root ∷ []) (new-root ∷ [])) (changes (heads bs) (heads new)) (root_apart v s (first_hole bs) (first_hole new) q low (list_any (same_pair new-root) (old-root ∷ []))) apart) in
    let r : RootIs m n s (first_hole new) = root_is m n v s (first_hole bs) (first_hole new) (changes (heads bs) (heads new)) refl (first_small 131 false bs s tiled few) (first_small 131 false new s later few) good first (changes_from 131 (heads bs) (heads new) (heads_from 131 false new s later)) split-holds split-zero in
    let all : AllRead n (heads new) = heads_read m n 131 (heads bs) 131 false new s (old_read m 131 false bs s few tiled read links) (omega arith) later (second_part n (changes (old-root ∷ []) (new-root ∷ [])) (changes (heads bs) (heads new)) split-holds) heads-kept in
    record {
      version = r.version;
      root = subst (λ (x : ℕ). is_root_word (word n 0) x ≡ true) (sym size) r.root;
      first = r.first ∙ sym (relink_first new);
      tiled = subst (λ (x : ℕ). Tiled 131 false (relink new) x) (sym size) (relink_tiled 131 false new s later);
      read = new_read n 131 false new s few (sym size) later all;
      links = relink_links new;
    }
