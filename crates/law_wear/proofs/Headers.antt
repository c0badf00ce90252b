-- A creation writes at most three header words, and a deletion at most two: those of the other applications and of
-- the other gaps stay.
use Rattle.std.proofs.Common.{◌≡◌, ℕ, ◌+◌, ◌-◌, ◌<◌, ◌≤◌, Bool, true, false, cond, ◌||◌, not, List, [], ◌∷◌, ◌++◌, length, None, refl, sym, ◌∙◌, ap, subst, inl, inr, arith, ◌⊎◌}
use Rattle.std.specs.Prelude.{◌==◌, nat_lt}
use Rattle.std.specs.List.{list_any, AllByRecursion}
use Rattle.std.proofs.lemmas.Bool.{eq-eqb, or_left, or_right, ltb-true}
use Rattle.std.proofs.lemmas.Bool.Decides.{eqb_tells}
use Rattle.law_family.specs.model_device.specs.Bytes.{lookup, insert, remove, AscendByName}
use Rattle.law_family.specs.model_device.specs.Card.{App, Card, heap_start}
use Rattle.law_family.specs.model_device.specs.Layout.{spans, gap, gaps_from, gaps, first_place, hole_header, used_header, root, gap_headers, with_used, layout, same_pair, step_of}
use Rattle.law_family.specs.model_device.proofs.BoolLemmas.{cond_most}
use Rattle.law_wear.proofs.Spans.{Span, Without, inserted, Removed, removed}
use Rattle.law_family.specs.law_machine.proofs.FewHeaders.{Pair, one_if, one_most, count, count_first, count_put, any_put, self_pair}

-- ---- the headers of spans among others

abbrev span_header : Span → Pair
span_header s = (s.0, used_header s.1)

abbrev span_headers : List Span → List Pair
span_headers [] = []
span_headers (s ∷ ss) = span_header s ∷ span_headers ss

used_count : (t : Pair → Bool) (ss : List Span) (hs : List Pair) → count t (with_used ss hs) ≡ count t (span_headers ss) + count t hs
used_count t [] hs = omega arith
used_count t (s ∷ ss) hs = grind (arith, count, one_if, count_put, count_first, used_count t ss hs)

or_true : (a b : Bool) → (a || b) ≡ true → (a ≡ true) ⊎ (b ≡ true)
or_true true b h = inl refl
or_true false b h = inr h

used_has : (q : Pair → Bool) (ss : List Span) (hs : List Pair) → (list_any q (span_headers ss) ≡ true) ⊎ (list_any q hs ≡ true) → list_any q (with_used ss hs) ≡ true
used_has q [] hs (inl h) = absurd (cc h)
used_has q [] hs (inr h) = h
used_has q (s ∷ ss) hs (inl h) =
    any_put q s.0 (used_header s.1) (with_used ss hs)
    ∙ elim (or_true (q (span_header s)) (list_any q (span_headers ss)) h) [
      | inl own ↦ or_left (q (span_header s)) (list_any q (with_used ss hs)) own
      | inr rest ↦ or_right (q (span_header s)) (list_any q (with_used ss hs)) (used_has q ss hs (inl rest))
    ]
used_has q (s ∷ ss) hs (inr h) =
    any_put q s.0 (used_header s.1) (with_used ss hs) ∙ or_right (q (span_header s)) (list_any q (with_used ss hs)) (used_has q ss hs (inr h))

-- ---- what a layout has is not new to it

-- no pair of a list passes a test
abbrev NonePass : (Pair → Bool) → List Pair → Type 0
NonePass t es = AllByRecursion (λ e. t e ≡ false) es

abbrev is_new : List Pair → Pair → Bool
is_new all e = not (list_any (same_pair e) all)

none_new : (all es : List Pair) → ((q : Pair → Bool) → list_any q es ≡ true → list_any q all ≡ true) → NonePass (is_new all) es
none_new all [] into = tt
none_new all (e ∷ es) into = (
  ap not (into (same_pair e) (or_left (same_pair e e) (list_any (same_pair e) es) (self_pair e))),
  none_new all es (λ q h. into q (or_right (q e) (list_any q es) h)),
)

none_counted : (t : Pair → Bool) (es : List Pair) → NonePass t es → count t es ≡ 0
none_counted t [] h = refl
none_counted t (e ∷ es) h = grind (arith, one_if, count, count_first, none_counted t es h.1)

-- ---- gaps

-- 1 if two numbers differ
abbrev differs : ℕ → ℕ → ℕ
differs a b = cond (a == b) 0 1

differs_most : (a b : ℕ) → differs a b ≤ 1
differs_most a b = cond_most (a == b) 0 1 1 (omega arith) (omega arith)

differs_self : (a : ℕ) → differs a a ≡ 0
differs_self a = ap (λ (b : Bool). cond b 0 1) (eq-eqb a a refl)

-- a header whose number is as before, or differs
same_or_counts : (t : Pair → Bool) (f : ℕ → Pair) (a b : ℕ) → t (f a) ≡ false → one_if (t (f b)) ≤ differs a b
same_or_counts t f a b old = grind (arith, eqb_tells, one_if, one_most)

module _ (t : Pair → Bool) (last : ℕ) where
  -- the headers of gaps
  heads : ℕ → List Span → List Pair
  heads p ss = gap_headers (gaps_from p ss last)

  first : ℕ → List Span → ℕ
  first p ss = first_place (gaps_from p ss last)

  none_behind : (xs ys : List Span) → NonePass t (gap_headers (xs ++ ys)) → NonePass t (gap_headers ys)
  none_behind [] ys h = h
  none_behind (x ∷ xs) ys h = none_behind xs ys h.1

  -- the headers of one gap, and of gaps that are old
  gap_and_old : (p q : ℕ) (gs : List Span) → NonePass t (gap_headers gs) → count t (gap_headers (gap p q ++ gs)) ≤ 1
  gap_and_old p q gs old = by (nat_lt p q)
    where
      none : count t (gap_headers gs) ≡ 0
      none = none_counted t (gap_headers gs) old

      by : (b : Bool) → count t (gap_headers (cond b ((p, q - p) ∷ []) [] ++ gs)) ≤ 1
      by true =
          let e : Pair = (p, hole_header (q - p) (first_place gs)) in
          let all : count t (e ∷ gap_headers gs) ≡ one_if (t e) + count t (gap_headers gs) = count_first t e (gap_headers gs) in
          let one : one_if (t e) ≤ 1 = one_most (t e) in
          omega (arith, all, one, none)
      by false = omega (arith, none)

  -- gaps between the same spans from another place on: the first alone may be new
  moved : (p e : ℕ) (ss : List Span) → NonePass t (gap_headers (gaps_from e ss last)) → count t (gap_headers (gaps_from p ss last)) ≤ 1
  moved p e [] old = omega (arith, gap_alone p last)
    where
      gap_alone : (p q : ℕ) → count t (gap_headers (gap p q)) ≤ 1
      gap_alone p q = by (nat_lt p q)
        where
          by : (b : Bool) → count t (gap_headers (cond b ((p, q - p) ∷ []) [])) ≤ 1
          by true =
              let h : Pair = (p, hole_header (q - p) 0) in
              let all : count t (h ∷ []) ≡ one_if (t h) + 0 = count_first t h [] in
              let one : one_if (t h) ≤ 1 = one_most (t h) in
              omega (arith, all, one)
          by false = omega arith
  moved p e (s ∷ ss) old = gap_and_old p s.0 (gaps_from (s.0 + s.1) ss last) (none_behind (gap e s.0) (gaps_from (s.0 + s.1) ss last) old)

  -- after a gap from p on that is none there is none from a later place on
  closed_gap : (p e q : ℕ) (gs : List Span) → p ≤ e → NonePass t (gap_headers gs)
      → (first_place (gap p q ++ gs) ≡ p) ⊎ (count t (gap_headers (gap e q ++ gs)) ≡ 0)
  closed_gap p e q gs later old = by (nat_lt p q) (nat_lt e q) refl refl
    where
      by : (b c : Bool) → nat_lt p q ≡ b → nat_lt e q ≡ c
          → (first_place (cond b ((p, q - p) ∷ []) [] ++ gs) ≡ p) ⊎ (count t (gap_headers (cond c ((e, q - e) ∷ []) [] ++ gs)) ≡ 0)
      by true c eb ec = inl refl
      by false true eb ec = absurd (let low : e < q = ltb-true e q ec in let high : q ≤ p = grind (arith, eb) in omega (arith, low, high, later))
      by false false eb ec = inr (none_counted t (gap_headers gs) old)

  none_moved : (p e : ℕ) (ss : List Span) → p ≤ e → NonePass t (gap_headers (gaps_from p ss last))
      → (first_place (gaps_from p ss last) ≡ p) ⊎ (count t (gap_headers (gaps_from e ss last)) ≡ 0)
  none_moved p e [] later old = by (nat_lt p last) (nat_lt e last) refl refl
    where
      by : (b c : Bool) → nat_lt p last ≡ b → nat_lt e last ≡ c
          → (first_place (cond b ((p, last - p) ∷ []) []) ≡ p) ⊎ (count t (gap_headers (cond c ((e, last - e) ∷ []) [])) ≡ 0)
      by true c eb ec = inl refl
      by false true eb ec = absurd (let low : e < last = ltb-true e last ec in let high : last ≤ p = grind (arith, eb) in omega (arith, low, high, later))
      by false false eb ec = inr refl
  none_moved p e (s ∷ ss) later old =
      closed_gap p e s.0 (gaps_from (s.0 + s.1) ss last) later (none_behind (gap p s.0) (gaps_from (s.0 + s.1) ss last) old)

  -- new gaps, and whether the first of them begins elsewhere
  FewNew : List Span → List Span → Type 0
  FewNew old now = count t (gap_headers now) + differs (first_place old) (first_place now) ≤ 2

  -- after the same gap
  same_gap : (p q : ℕ) (old now : List Span) → NonePass t (gap_headers (gap p q ++ old)) → (NonePass t (gap_headers old) → FewNew old now) → FewNew (gap p q ++ old) (gap p q ++ now)
  unfolding FewNew
  same_gap p q old now h rest = by (nat_lt p q) h
    where
      by : (b : Bool) → NonePass t (gap_headers (cond b ((p, q - p) ∷ []) [] ++ old)) → FewNew (cond b ((p, q - p) ∷ []) [] ++ old) (cond b ((p, q - p) ∷ []) [] ++ now)
      by true k = grind (arith, Pair, one_if, same_or_counts, count, count_first, differs_self)
      by false k = rest k

  -- a span fewer
  deleted : (s : Span) (p : ℕ) (ss less : List Span) → Without s ss less → NonePass t (gap_headers (gaps_from p ss last)) → FewNew (gaps_from p ss last) (gaps_from p less last)
  unfolding FewNew
  deleted s p [] less h old = absurd h
  deleted s p (x ∷ xs) less (inl own) old =
      let behind : NonePass t (gap_headers (gaps_from (x.0 + x.1) xs last)) = none_behind (gap p x.0) (gaps_from (x.0 + x.1) xs last) old in
      let few : count t (gap_headers (gaps_from p xs last)) ≤ 1 = moved p (x.0 + x.1) xs behind in
      let one = differs_most (first_place (gaps_from p (x ∷ xs) last)) (first_place (gaps_from p xs last)) in
      subst (λ (l : List Span). FewNew (gaps_from p (x ∷ xs) last) (gaps_from p l last)) own.1 (omega (arith, few, one))
  deleted s p (x ∷ xs) less (inr later) old =
      subst (λ (l : List Span). FewNew (gaps_from p (x ∷ xs) last) (gaps_from p l last)) (sym later.1)
      (same_gap p x.0 (gaps_from (x.0 + x.1) xs last) (gaps_from (x.0 + x.1) later.0 last) old (λ k. deleted s (x.0 + x.1) xs later.0 later.2 k))

  -- one span more: it begins where a gap does, or the gap before it is new
  entered : (x : Span) (p : ℕ) (ss : List Span) → NonePass t (gap_headers (gaps_from p ss last)) → FewNew (gaps_from p ss last) (gaps_from p (x ∷ ss) last)
  unfolding FewNew
  entered x p ss old = by (nat_lt p x.0) refl
    where
      e : ℕ
      e = x.0 + x.1

      after : List Span
      after = gaps_from (x.0 + x.1) ss last

      few : count t (gap_headers (gaps_from (x.0 + x.1) ss last)) ≤ 1
      few = moved (x.0 + x.1) p ss old

      by : (b : Bool) → nat_lt p x.0 ≡ b → FewNew (gaps_from p ss last) (cond b ((p, x.0 - p) ∷ []) [] ++ gaps_from (x.0 + x.1) ss last)
      by false is = grind (arith, differs_most, few)
      by true is =
          let now = gaps_from (x.0 + x.1) ss last in
          let h : Pair = (p, hole_header (x.0 - p) (first_place now)) in
          let all : count t (h ∷ gap_headers now) ≡ one_if (t h) + count t (gap_headers now) = count_first t h (gap_headers now) in
          let most : one_if (t h) ≤ 1 = one_most (t h) in
          let low : p < x.0 = ltb-true p x.0 is in
          elim (none_moved p (x.0 + x.1) ss (omega (arith, low)) old) [
            | inl same ↦ grind (arith, differs_self, few)
            | inr gone ↦ grind (arith, differs_most)
          ]

  created : (s : Span) (p : ℕ) (more ss : List Span) → Without s more ss → NonePass t (gap_headers (gaps_from p ss last)) → FewNew (gaps_from p ss last) (gaps_from p more last)
  created s p [] ss h old = absurd h
  created s p (x ∷ xs) ss (inl own) old =
      subst (λ (l : List Span). FewNew (gaps_from p ss last) (gaps_from p (x ∷ l) last)) (sym own.1) (entered x p ss old)
  created s p (x ∷ xs) ss (inr later) old =
      subst (λ (l : List Span). FewNew (gaps_from p l last) (gaps_from p (x ∷ xs) last)) (sym later.1)
      (same_gap p x.0 (gaps_from (x.0 + x.1) later.0 last) (gaps_from (x.0 + x.1) xs last) (subst (λ (l : List Span). NonePass t (gap_headers (gaps_from p l last))) later.1 old) (λ k. created s (x.0 + x.1) xs later.0 later.2 k))

  -- ---- the headers of spans

  fewer_spans : (s : Span) (ss less : List Span) → Without s ss less → NonePass t (span_headers ss) → count t (span_headers less) ≡ 0
  fewer_spans s [] less h old = absurd h
  fewer_spans s (x ∷ xs) less (inl own) old = subst (λ (l : List Span). count t (span_headers l) ≡ 0) own.1 (none_counted t (span_headers xs) old.1)
  fewer_spans s (x ∷ xs) less (inr later) old = grind (arith, one_if, count, count_first, Span, fewer_spans s xs later.0 later.2 old.1)

  one_span : (s : Span) (more ss : List Span) → Without s more ss → NonePass t (span_headers ss) → count t (span_headers more) ≤ 1
  one_span s [] ss h old = absurd h
  one_span s (x ∷ xs) ss (inl own) old = grind (arith, one_if, one_most, count, none_counted, Span, count_first)
  one_span s (x ∷ xs) ss (inr later) old =
      let o : NonePass t (span_headers (x ∷ later.0)) = subst (λ (l : List Span). NonePass t (span_headers l)) later.1 old in
      let one : one_if (t (span_header x)) ≡ 0 = ap one_if o.0 in
      let rest : count t (span_headers xs) ≤ 1 = one_span s xs later.0 later.2 o.1 in
      let all : count t (span_headers (x ∷ xs)) ≡ one_if (t (span_header x)) + count t (span_headers xs) = count_first t (span_header x) (span_headers xs) in
      omega (arith, one, rest, all)

-- ---- layouts

module _ (c : Card) where
  -- what the layout of the card has not
  fresh : Pair → Bool
  fresh e = not (list_any (same_pair e) (layout c))

  root_of : ℕ → Pair
  root_of n = (0, root c.layout c.size n)

  all_old : NonePass fresh (layout c)
  unfolding fresh
  all_old = none_new (layout c) (layout c) (λ q h. h)

  root_old : fresh (root_of (first_place (gaps c))) ≡ false
  unfolding fresh layout root_of
  root_old =
      ap not (or_left (same_pair (0, root c.layout c.size (first_place (gaps c))) (0, root c.layout c.size (first_place (gaps c)))) (list_any (same_pair (0, root c.layout c.size (first_place (gaps c)))) (with_used (spans c) (gap_headers (gaps c)))) (self_pair (0, root c.layout c.size (first_place (gaps c)))))

  in_layout : (q : Pair → Bool) → (list_any q (span_headers (spans c)) ≡ true) ⊎ (list_any q (gap_headers (gaps c)) ≡ true) → list_any q (layout c) ≡ true
  unfolding layout
  in_layout q h = or_right (q (0, root c.layout c.size (first_place (gaps c)))) (list_any q (with_used (spans c) (gap_headers (gaps c)))) (used_has q (spans c) (gap_headers (gaps c)) h)

  spans_old : NonePass fresh (span_headers (spans c))
  unfolding fresh
  spans_old = none_new (layout c) (span_headers (spans c)) (λ q h. in_layout q (inl h))

  gaps_old : NonePass fresh (gap_headers (gaps c))
  unfolding fresh
  gaps_old = none_new (layout c) (gap_headers (gaps c)) (λ q h. in_layout q (inr h))

  -- the new headers of a card with other applications
  counted : (apps : List (List ℕ × App)) → let d = record c { apps = apps } in
      length (step_of c d) ≤ count fresh (span_headers (spans d)) + (count fresh (gap_headers (gaps d)) + differs (first_place (gaps c)) (first_place (gaps d)))
  unfolding fresh layout step_of root_of
  counted apps =
      let d : Card = record c { apps = apps } in
      let head : Pair = (0, root c.layout c.size (first_place (gaps d))) in
      let hs : List Pair = gap_headers (gaps d) in
      let all : count fresh (head ∷ with_used (spans d) hs) ≡ one_if (fresh head) + count fresh (with_used (spans d) hs) = count_first fresh head (with_used (spans d) hs) in
      let used : count fresh (with_used (spans d) hs) ≡ count fresh (span_headers (spans d)) + count fresh hs = used_count fresh (spans d) hs in
      let one : one_if (fresh head) ≤ differs (first_place (gaps c)) (first_place (gaps d)) = same_or_counts fresh root_of (first_place (gaps c)) (first_place (gaps d)) root_old in
      let most : count fresh (head ∷ with_used (spans d) hs) ≤ count fresh (span_headers (spans d)) + (count fresh hs + differs (first_place (gaps c)) (first_place (gaps d))) = omega (arith, all, used, one) in
      most

  -- a creation writes at most three header words
  pub created_headers : (n : List ℕ) (a : App) → lookup c.apps n ≡ None → length (step_of c (record c { apps = insert c.apps n a })) ≤ 3
  unfolding FewNew
  created_headers n a none =
      let d : Card = record c { apps = insert c.apps n a } in
      let more = inserted c.apps n a none in
      let used : count fresh (span_headers (spans d)) ≤ 1 = one_span fresh c.size _ (spans d) (spans c) more spans_old in
      let few : count fresh (gap_headers (gaps d)) + differs (first_place (gaps c)) (first_place (gaps d)) ≤ 2 = created fresh c.size _ heap_start (spans d) (spans c) more gaps_old in
      let all = counted (insert c.apps n a) in
      omega (arith, used, few, all)

  deleted_by : (apps : List (List ℕ × App)) → Removed c.apps apps → length (step_of c (record c { apps = apps })) ≤ 2
  unfolding FewNew step_of fresh
  deleted_by apps (inl same) =
      subst (λ (m : List (List ℕ × App)). length (step_of c (record c { apps = m })) ≤ 2) (sym same) (let none : count fresh (layout c) ≡ 0 = none_counted fresh (layout c) all_old in omega (arith, none))
  deleted_by apps (inr less) =
      let d : Card = record c { apps = apps } in
      let used : count fresh (span_headers (spans d)) ≡ 0 = fewer_spans fresh c.size less.0 (spans c) (spans d) less.1 spans_old in
      let few : count fresh (gap_headers (gaps d)) + differs (first_place (gaps c)) (first_place (gaps d)) ≤ 2 = deleted fresh c.size less.0 heap_start (spans c) (spans d) less.1 gaps_old in
      let all = counted apps in
      omega (arith, used, few, all)

  -- a deletion writes at most two header words
  pub deleted_headers : (n : List ℕ) → AscendByName c.apps → length (step_of c (record c { apps = remove c.apps n })) ≤ 2
  deleted_headers n ascending = deleted_by (remove c.apps n) (removed c.apps n ascending)
