-- A creation adds one span to those of a card, and a deletion takes one away.
use Rattle.std.proofs.Common.{◌≡◌, ℕ, ◌<◌, ◌≤◌, Bool, true, false, cond, List, [], ◌∷◌, Some, None, refl, sym, ◌∙◌, ap, subst, inl, inr, arith, ◌⊎◌}
use Rattle.std.specs.Prelude.{⊤, nat_lt, bytes_eq}
use Rattle.std.specs.List.{AllByRecursion}
use Rattle.std.proofs.lemmas.Bool.{ltb-true}
use Rattle.law_family.specs.model_device.specs.Bytes.{lookup, insert, remove, name_before, AscendByName}
use Rattle.law_family.specs.model_device.specs.Card.{App, words_of_app}
use Rattle.law_family.specs.model_device.specs.Layout.{put_at, spans_of}
use Rattle.law_family.specs.model_device.proofs.MapLemmas.{same_name, not_after}

-- the place and the number of words of an application's block
abbrev pub Span : Type 0
Span = ℕ × ℕ

-- the second list is the first without this span
abbrev pub Without : Span → List Span → List Span → Type 0
Without s [] less = ⊥
Without s (x ∷ xs) less = ((x ≡ s) × (xs ≡ less)) ⊎ ((ys : List Span) × (less ≡ x ∷ ys) × Without s xs ys)

-- ---- spans ascend by their places

abbrev FirstFrom : ℕ → List Span → Type 0
FirstFrom k [] = ⊤
FirstFrom k (x ∷ xs) = k ≤ x.0

-- spans ascend by their places
abbrev pub Sorted : List Span → Type 0
Sorted [] = ⊤
Sorted (x ∷ xs) = FirstFrom x.0 xs × Sorted xs

first_put : (k p w : ℕ) (ss : List Span) → k ≤ p → FirstFrom k ss → FirstFrom k (put_at p w ss)
first_put k p w [] low h = low
first_put k p w (x ∷ xs) low h = by (nat_lt p x.0)
  where
    by : (b : Bool) → FirstFrom k (cond b ((p, w) ∷ x ∷ xs) (x ∷ put_at p w xs))
    by true = low
    by false = h

sorted_put : (p w : ℕ) (ss : List Span) → Sorted ss → Sorted (put_at p w ss)
sorted_put p w [] h = (tt, tt)
sorted_put p w (x ∷ xs) h = by (nat_lt p x.0) refl (sorted_put p w xs h.1)
  where
    by : (b : Bool) → nat_lt p x.0 ≡ b → Sorted (put_at p w xs) → Sorted (cond b ((p, w) ∷ x ∷ xs) (x ∷ put_at p w xs))
    by true e r = (let low : p < x.0 = ltb-true p x.0 e in omega (arith, low), h)
    by false e r = (first_put x.0 p w xs (grind (arith, e)) h.0, r)

-- the spans of a map are sorted
pub sorted_spans : (m : List (List ℕ × App)) → Sorted (spans_of m)
sorted_spans [] = tt
sorted_spans (e ∷ es) = sorted_put (e.1).place (words_of_app e.1) (spans_of es) (sorted_spans es)

-- ---- one more span

put_without : (p w : ℕ) (ss : List Span) → Without (p, w) (put_at p w ss) ss
put_without p w [] = inl (refl, refl)
put_without p w (x ∷ xs) = by (nat_lt p x.0) (put_without p w xs)
  where
    by : (b : Bool) → Without (p, w) (put_at p w xs) xs → Without (p, w) (cond b ((p, w) ∷ x ∷ xs) (x ∷ put_at p w xs)) (x ∷ xs)
    by true r = inl (refl, refl)
    by false r = inr (xs, refl, r)

-- a place before a sorted list
put_first : (p w k : ℕ) (ss : List Span) → p < k → FirstFrom k ss → put_at p w ss ≡ (p, w) ∷ ss
put_first p w k [] low h = refl
put_first p w k (x ∷ xs) low h = by (nat_lt p x.0) refl
  where
    by : (b : Bool) → nat_lt p x.0 ≡ b → cond b ((p, w) ∷ x ∷ xs) (x ∷ put_at p w xs) ≡ (p, w) ∷ x ∷ xs
    by true e = refl
    by false e = absurd (let high : x.0 ≤ p = grind (arith, e) in omega (arith, high, low, h))

put_both : (s : Span) (p w : ℕ) (ss less : List Span) → Sorted ss → Without s ss less → Without s (put_at p w ss) (put_at p w less)
put_both s p w [] less sorted h = absurd h
put_both s p w (x ∷ xs) less sorted (inl own) = by (nat_lt p x.0) refl
  where
    same : (put_at p w xs) ≡ put_at p w less
    same = ap (put_at p w) own.1

    by : (b : Bool) → nat_lt p x.0 ≡ b → Without s (cond b ((p, w) ∷ x ∷ xs) (x ∷ put_at p w xs)) (put_at p w less)
    by true e = grind (arith, put_first, ltb-true)
    by false e = inl (own.0, same)
put_both s p w (x ∷ xs) less sorted (inr later) =
    subst (λ (l : List Span). Without s (put_at p w (x ∷ xs)) (put_at p w l)) (sym later.1) (by (nat_lt p x.0) (put_both s p w xs later.0 sorted.1 later.2))
  where
    by : (b : Bool) → Without s (put_at p w xs) (put_at p w later.0) → Without s (cond b ((p, w) ∷ x ∷ xs) (x ∷ put_at p w xs)) (cond b ((p, w) ∷ x ∷ later.0) (x ∷ put_at p w later.0))
    by true r = inr (x ∷ later.0, refl, inr (later.0, refl, later.2))
    by false r = inr (put_at p w later.0, refl, r)

-- ---- creations and deletions

abbrev span_of : App → Span
span_of a = (a.place, words_of_app a)

-- a creation adds the span of its application
pub inserted : (m : List (List ℕ × App)) (n : List ℕ) (a : App) → lookup m n ≡ None → Without (span_of a) (spans_of (insert m n a)) (spans_of m)
inserted [] n a none = put_without a.place (words_of_app a) []
inserted (e ∷ es) n a none = by (bytes_eq e.0 n) (name_before n e.0) none (λ h. inserted es n a h)
  where
    by : (b c : Bool) → cond b (Some e.1) (lookup es n) ≡ None → (lookup es n ≡ None → Without (span_of a) (spans_of (insert es n a)) (spans_of es))
        → Without (span_of a) (spans_of (cond b ((n, a) ∷ es) (cond c ((n, a) ∷ e ∷ es) (e ∷ insert es n a)))) (spans_of (e ∷ es))
    by true c h r = absurd (cc h)
    by false true h r = put_without a.place (words_of_app a) (spans_of (e ∷ es))
    by false false h r = put_both (span_of a) (e.1).place (words_of_app e.1) (spans_of (insert es n a)) (spans_of es) (sorted_spans (insert es n a)) (r h)

-- no name after this one is it
rest_kept : (m : List (List ℕ × App)) (n : List ℕ) → AllByRecursion (λ f. name_before n f.0 ≡ true) m → remove m n ≡ m
rest_kept [] n h = refl
rest_kept (e ∷ es) n h = by (bytes_eq e.0 n) refl (rest_kept es n h.1)
  where
    by : (b : Bool) → bytes_eq e.0 n ≡ b → remove es n ≡ es → cond b (remove es n) (e ∷ remove es n) ≡ e ∷ es
    by true is r =
        let own : name_before n n ≡ true = subst (λ (k : List ℕ). name_before n k ≡ true) (same_name e.0 n is) h.0 in
        absurd (cc (sym own ∙ not_after n n own))
    by false is r = ap (λ (l : List (List ℕ × App)). e ∷ l) r

-- the map is as it was, or has one span less
abbrev pub Removed : List (List ℕ × App) → List (List ℕ × App) → Type 0
Removed m d = (d ≡ m) ⊎ ((s : Span) × Without s (spans_of m) (spans_of d))

-- a deletion takes one span away at most
pub removed : (m : List (List ℕ × App)) (n : List ℕ) → AscendByName m → Removed m (remove m n)
removed [] n h = inl refl
removed (e ∷ es) n h = by (bytes_eq e.0 n) refl (removed es n h.1)
  where
    later : Removed es (remove es n) → Removed (e ∷ es) (e ∷ remove es n)
    later (inl same) = inl (ap (λ (l : List (List ℕ × App)). e ∷ l) same)
    later (inr one) = inr (one.0, put_both one.0 (e.1).place (words_of_app e.1) (spans_of es) (spans_of (remove es n)) (sorted_spans es) one.1)

    by : (b : Bool) → bytes_eq e.0 n ≡ b → Removed es (remove es n) → Removed (e ∷ es) (cond b (remove es n) (e ∷ remove es n))
    by true is r =
        let after : AllByRecursion (λ f. name_before n f.0 ≡ true) es = subst (λ (k : List ℕ). AllByRecursion (λ f. name_before k f.0 ≡ true) es) (same_name e.0 n is) h.0 in
        let kept : remove es n ≡ es = rest_kept es n after in
        inr (span_of e.1, subst (λ (l : List (List ℕ × App)). Without (span_of e.1) (spans_of (e ∷ es)) (spans_of l)) (sym kept) (put_without (e.1).place (words_of_app e.1) (spans_of es)))
    by false is r = later r
