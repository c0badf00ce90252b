-- A creation or a deletion changes few header words: those of the other applications stay.
use Rattle.std.proofs.Common.{◌≡◌, ℕ, suc, ◌+◌, ◌≤◌, Bool, true, false, cond, ◌||◌, not, List, [], ◌∷◌, ◌++◌, length, refl, ap, ◌∙◌, arith}
use Rattle.std.specs.Prelude.{◌==◌, nat_lt, bytes_eq, filter}
use Rattle.std.specs.List.{list_any}
use Rattle.std.proofs.lemmas.Bool.{and_from, eq-eqb, or_left, or_right}
use Rattle.std.proofs.lemmas.List.{length-append}
use Rattle.std.proofs.lemmas.Slice.Eq.{bytes_eq-Decides}
use Rattle.model_card.specs.model_device.specs.Bytes.{insert, remove, name_before}
use Rattle.model_card.specs.model_device.specs.Card.{App, Card, words_of_app, heap_start}
use Rattle.model_card.specs.model_device.specs.Layout.{put_at, spans_of, spans, gap, gaps_from, gaps, first_place, used_header, root, gap_headers, with_used, layout, same_pair, step_of}
use Rattle.law_machine.specs.FewHeaders.{FewHeadersLaw}
use Rattle.model_card.specs.model_device.proofs.BoolLemmas.{or_swap}
use Rattle.model_card.specs.model_device.proofs.LayoutLemmas.{length_spans}

-- a header word: its place and its bytes
abbrev pub Pair : Type 0
Pair = ℕ × List ℕ

-- 1 if a test passes, else 0
abbrev pub one_if : Bool → ℕ
one_if true = 1
one_if false = 0

-- ---- filters over insertions

-- the number of header words that pass a test
abbrev pub count : (Pair → Bool) → List Pair → ℕ
count t es = length (filter t es)

-- a word in front counts one if it passes
pub count_first : (t : Pair → Bool) (e : Pair) (es : List Pair) → count t (e ∷ es) ≡ one_if (t e) + count t es
count_first t e es = grind arith

-- a word put at its place counts one if it passes
pub count_put : (t : Pair → Bool) (p : ℕ) (x : List ℕ) (es : List Pair) → count t (put_at p x es) ≡ one_if (t (p, x)) + count t es
count_put t p x [] = count_first t (p, x) []
count_put t p x (e ∷ es) = by (nat_lt p e.0) (count_put t p x es)
  where
    by : (b : Bool) → count t (put_at p x es) ≡ one_if (t (p, x)) + count t es → count t (cond b ((p, x) ∷ e ∷ es) (e ∷ put_at p x es)) ≡ one_if (t (p, x)) + count t (e ∷ es)
    by true r = count_first t (p, x) (e ∷ es)
    by false r = let a = count_first t e (put_at p x es) in let b = count_first t e es in omega (arith, a, b, r)

-- a test counts at most one
pub one_most : (b : Bool) → one_if b ≤ 1
one_most true = omega arith
one_most false = omega arith

count_most : (t : Pair → Bool) (es : List Pair) → count t es ≤ length es
count_most t [] = omega arith
count_most t (e ∷ es) =
    let a : count t (e ∷ es) ≡ one_if (t e) + count t es = count_first t e es in
    let r : count t es ≤ length es = count_most t es in
    let o : one_if (t e) ≤ 1 = one_most (t e) in
    omega arith

-- some word passes a test if the one that was put does, or another
pub any_put : (q : Pair → Bool) (p : ℕ) (x : List ℕ) (es : List Pair) → list_any q (put_at p x es) ≡ (q (p, x) || list_any q es)
any_put q p x [] = refl
any_put q p x (e ∷ es) = by (nat_lt p e.0) (any_put q p x es)
  where
    by : (b : Bool) → list_any q (put_at p x es) ≡ (q (p, x) || list_any q es) → list_any q (cond b ((p, x) ∷ e ∷ es) (e ∷ put_at p x es)) ≡ (q (p, x) || (q e || list_any q es))
    by true r = refl
    by false r = ap (λ (b : Bool). q e || b) r ∙ or_swap (q e) (q (p, x)) (list_any q es)

-- ---- the headers of applications

-- the header of an application in its place
abbrev header_of : List ℕ × App → Pair
header_of e = ((e.1).place, used_header (words_of_app e.1))

abbrev span_header : ℕ × ℕ → Pair
span_header s = (s.0, used_header s.1)

abbrev count_spans : (Pair → Bool) → List (ℕ × ℕ) → ℕ
count_spans t [] = 0
count_spans t (s ∷ ss) = one_if (t (span_header s)) + count_spans t ss

abbrev count_apps : (Pair → Bool) → List (List ℕ × App) → ℕ
count_apps t [] = 0
count_apps t (e ∷ es) = one_if (t (header_of e)) + count_apps t es

abbrev any_span : (Pair → Bool) → List (ℕ × ℕ) → Bool
any_span q [] = false
any_span q (s ∷ ss) = q (span_header s) || any_span q ss

abbrev any_app : (Pair → Bool) → List (List ℕ × App) → Bool
any_app q [] = false
any_app q (e ∷ es) = q (header_of e) || any_app q es

spans_put : (t : Pair → Bool) (p x : ℕ) (ss : List (ℕ × ℕ)) → count_spans t (put_at p x ss) ≡ one_if (t (p, used_header x)) + count_spans t ss
spans_put t p x [] = refl
spans_put t p x (s ∷ ss) = by (nat_lt p s.0) (spans_put t p x ss)
  where
    by : (b : Bool) → count_spans t (put_at p x ss) ≡ one_if (t (p, used_header x)) + count_spans t ss → count_spans t (cond b ((p, x) ∷ s ∷ ss) (s ∷ put_at p x ss)) ≡ one_if (t (p, used_header x)) + (one_if (t (span_header s)) + count_spans t ss)
    by true r = refl
    by false r = omega (arith, r)

any_span_put : (q : Pair → Bool) (p x : ℕ) (ss : List (ℕ × ℕ)) → any_span q (put_at p x ss) ≡ (q (p, used_header x) || any_span q ss)
any_span_put q p x [] = refl
any_span_put q p x (s ∷ ss) = by (nat_lt p s.0) (any_span_put q p x ss)
  where
    by : (b : Bool) → any_span q (put_at p x ss) ≡ (q (p, used_header x) || any_span q ss) → any_span q (cond b ((p, x) ∷ s ∷ ss) (s ∷ put_at p x ss)) ≡ (q (p, used_header x) || (q (span_header s) || any_span q ss))
    by true r = refl
    by false r = ap (λ (b : Bool). q (span_header s) || b) r ∙ or_swap (q (span_header s)) (q (p, used_header x)) (any_span q ss)

count_of_spans : (t : Pair → Bool) (m : List (List ℕ × App)) → count_spans t (spans_of m) ≡ count_apps t m
count_of_spans t [] = refl
count_of_spans t (e ∷ es) = spans_put t (e.1).place (words_of_app e.1) (spans_of es) ∙ ap (λ (n : ℕ). one_if (t (header_of e)) + n) (count_of_spans t es)

any_spans : (q : Pair → Bool) (m : List (List ℕ × App)) → any_span q (spans_of m) ≡ any_app q m
any_spans q [] = refl
any_spans q (e ∷ es) = any_span_put q (e.1).place (words_of_app e.1) (spans_of es) ∙ ap (λ (b : Bool). q (header_of e) || b) (any_spans q es)

used_count : (t : Pair → Bool) (ss : List (ℕ × ℕ)) (hs : List Pair) → count t (with_used ss hs) ≡ count_spans t ss + count t hs
used_count t [] hs = omega arith
used_count t (s ∷ ss) hs =
    let one : count t (put_at s.0 (used_header s.1) (with_used ss hs)) ≡ one_if (t (span_header s)) + count t (with_used ss hs) = count_put t s.0 (used_header s.1) (with_used ss hs) in
    let rest : count t (with_used ss hs) ≡ count_spans t ss + count t hs = used_count t ss hs in
    omega arith

used_any : (q : Pair → Bool) (ss : List (ℕ × ℕ)) (hs : List Pair) → any_span q ss ≡ true → list_any q (with_used ss hs) ≡ true
used_any q [] hs h = absurd (cc h)
used_any q (s ∷ ss) hs h = any_put q s.0 (used_header s.1) (with_used ss hs) ∙ by (q (span_header s)) h (λ e. used_any q ss hs e)
  where
    by : (b : Bool) → (b || any_span q ss) ≡ true → (any_span q ss ≡ true → list_any q (with_used ss hs) ≡ true) → (b || list_any q (with_used ss hs)) ≡ true
    by true e r = refl
    by false e r = r e

-- ---- gaps

gap_most : (p q : ℕ) → length (gap p q) ≤ 1
gap_most p q = grind arith

gaps_most : (p : ℕ) (ss : List (ℕ × ℕ)) (last : ℕ) → length (gaps_from p ss last) ≤ length ss + 1
gaps_most p [] last = let one : length (gap p last) ≤ 1 = gap_most p last in omega arith
gaps_most p (s ∷ ss) last =
    let one : length (gap p s.0) ≤ 1 = gap_most p s.0 in
    let rest : length (gaps_from (s.0 + s.1) ss last) ≤ length ss + 1 = gaps_most (s.0 + s.1) ss last in
    let all : length (gap p s.0 ++ gaps_from (s.0 + s.1) ss last) ≡ length (gap p s.0) + length (gaps_from (s.0 + s.1) ss last) = length-append (gap p s.0) (gaps_from (s.0 + s.1) ss last) in
    omega arith

chained_length : (gs : List (ℕ × ℕ)) → length (gap_headers gs) ≡ length gs
chained_length [] = refl
chained_length (g ∷ gs) = ap suc (chained_length gs)

-- ---- the headers that stay

-- a header word is the same as itself
pub self_pair : (e : Pair) → same_pair e e ≡ true
self_pair e = and_from (e.0 == e.0) (bytes_eq e.1 e.1) (eq-eqb e.0 e.0 refl) ((bytes_eq-Decides e.1 e.1).1 refl)

-- a test that fails of each application's header counts none
none_new : (t : Pair → Bool) (m es : List (List ℕ × App)) → ((q : Pair → Bool) → any_app q es ≡ true → any_app q m ≡ true) → ((e : Pair) → any_app (same_pair e) m ≡ true → t e ≡ false) → count_apps t es ≡ 0
none_new t m [] into old = refl
none_new t m (e ∷ es) into old =
    let first : t (header_of e) ≡ false = old (header_of e) (into (same_pair (header_of e)) (or_left (same_pair (header_of e) (header_of e)) (any_app (same_pair (header_of e)) es) (self_pair (header_of e)))) in
    let rest : count_apps t es ≡ 0 = none_new t m es (λ q h. into q (or_right (q (header_of e)) (any_app q es) h)) old in
    let zero-first : one_if (t (header_of e)) ≡ 0 = ap one_if first in
    omega arith

insert_count : (t : Pair → Bool) (m : List (List ℕ × App)) (n : List ℕ) (a : App) → count_apps t (insert m n a) ≤ count_apps t m + 1
insert_count t [] n a = let o : one_if (t (header_of (n, a))) ≤ 1 = one_most (t (header_of (n, a))) in omega arith
insert_count t (e ∷ es) n a = by (bytes_eq e.0 n) (name_before n e.0) (insert_count t es n a) (one_most (t (header_of (n, a))))
  where
    by : (b c : Bool) → count_apps t (insert es n a) ≤ count_apps t es + 1 → one_if (t (header_of (n, a))) ≤ 1
        → count_apps t (cond b ((n, a) ∷ es) (cond c ((n, a) ∷ e ∷ es) (e ∷ insert es n a))) ≤ one_if (t (header_of e)) + count_apps t es + 1
    by true c r o = omega (arith, r, o)
    by false true r o = omega (arith, r, o)
    by false false r o = omega (arith, r, o)

-- an insertion adds at most one application
pub insert_length : (m : List (List ℕ × App)) (n : List ℕ) (a : App) → length (insert m n a) ≤ length m + 1
insert_length [] n a = omega arith
insert_length (e ∷ es) n a = by (bytes_eq e.0 n) (name_before n e.0) (insert_length es n a)
  where
    by : (b c : Bool) → length (insert es n a) ≤ length es + 1 → length (cond b ((n, a) ∷ es) (cond c ((n, a) ∷ e ∷ es) (e ∷ insert es n a))) ≤ suc (length es) + 1
    by true c r = omega arith
    by false true r = omega arith
    by false false r = omega (arith, r)

remove_count : (t : Pair → Bool) (m : List (List ℕ × App)) (n : List ℕ) → count_apps t (remove m n) ≤ count_apps t m
remove_count t [] n = omega arith
remove_count t (e ∷ es) n = by (bytes_eq e.0 n) (remove_count t es n)
  where
    by : (b : Bool) → count_apps t (remove es n) ≤ count_apps t es → count_apps t (cond b (remove es n) (e ∷ remove es n)) ≤ one_if (t (header_of e)) + count_apps t es
    by true r = omega (arith, r)
    by false r = omega (arith, r)

-- a removal adds none
pub remove_length : (m : List (List ℕ × App)) (n : List ℕ) → length (remove m n) ≤ length m
remove_length [] n = omega arith
remove_length (e ∷ es) n = by (bytes_eq e.0 n) (remove_length es n)
  where
    by : (b : Bool) → length (remove es n) ≤ length es → length (cond b (remove es n) (e ∷ remove es n)) ≤ suc (length es)
    by true r = omega (arith, r)
    by false r = omega (arith, r)

-- ---- the law

module _ (c d : Card) where
  -- what the layout of c has not
  fresh : Pair → Bool
  fresh e = not (list_any (same_pair e) (layout c))

  old_header : (e : Pair) → any_app (same_pair e) c.apps ≡ true → fresh e ≡ false
  unfolding fresh layout
  old_header e h =
      let used : list_any (same_pair e) (with_used (spans c) (gap_headers (gaps c))) ≡ true = used_any (same_pair e) (spans c) (gap_headers (gaps c)) (any_spans (same_pair e) c.apps ∙ h) in
      ap not (or_right (same_pair e (0, root c.layout c.size (first_place (gaps c)))) (list_any (same_pair e) (with_used (spans c) (gap_headers (gaps c)))) used)

  few_changes : (k : ℕ) → count_apps fresh d.apps ≤ count_apps fresh c.apps + k → length (step_of c d) ≤ length d.apps + k + 2
  unfolding fresh layout step_of
  few_changes k h =
      let none : count_apps fresh c.apps ≡ 0 = none_new fresh c.apps c.apps (λ q e. e) old_header in
      let hs : List Pair = gap_headers (gaps d) in
      let head : Pair = (0, root d.layout d.size (first_place (gaps d))) in
      let all : count fresh (head ∷ with_used (spans d) hs) ≡ one_if (fresh head) + count fresh (with_used (spans d) hs) = count_first fresh head (with_used (spans d) hs) in
      let used : count fresh (with_used (spans d) hs) ≡ count_spans fresh (spans d) + count fresh hs = used_count fresh (spans d) hs in
      let apps : count_spans fresh (spans d) ≡ count_apps fresh d.apps = count_of_spans fresh d.apps in
      let rest : count fresh hs ≤ length hs = count_most fresh hs in
      let chain : length hs ≡ length (gaps d) = chained_length (gaps d) in
      let free : length (gaps d) ≤ length (spans d) + 1 = gaps_most heap_start (spans d) d.size in
      let each : length (spans d) ≡ length d.apps = length_spans d.apps in
      let one : one_if (fresh head) ≤ 1 = one_most (fresh head) in
      let most : count fresh (head ∷ with_used (spans d) hs) ≤ length d.apps + k + 2 = omega arith in
      most

-- a creation or a deletion changes at most four header words more than there are applications
pub few_headers_law : FewHeadersLaw
few_headers_law c n a =
    let made : Card = record c { apps = insert c.apps n a } in
    let left : Card = record c { apps = remove c.apps n } in
    let more : length (insert c.apps n a) ≤ length c.apps + 1 = insert_length c.apps n a in
    let less : length (remove c.apps n) ≤ length c.apps = remove_length c.apps n in
    let created : length (step_of c made) ≤ length (insert c.apps n a) + 1 + 2 = few_changes c made 1 (insert_count (fresh c made) c.apps n a) in
    let none : count_apps (fresh c left) (remove c.apps n) ≤ count_apps (fresh c left) c.apps + 0 = let r = remove_count (fresh c left) c.apps n in omega (arith, r) in
    let deleted : length (step_of c left) ≤ length (remove c.apps n) + 0 + 2 = few_changes c left 0 none in
    record { created = omega arith; deleted = omega arith }
