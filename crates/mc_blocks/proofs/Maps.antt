-- Spans in the order of their places, whatever the order of the names.
use Rattle.std.proofs.Common.{◌≡◌, ◌≢◌, ℕ, ◌+◌, ◌<◌, ◌≤◌, Bool, true, false, ◌||◌, List, [], ◌∷◌, Some, None, refl, sym, ◌∙◌, ap, inl, inr, arith, cond}
use Rattle.std.specs.Prelude.{nat_lt, ◌==◌, bytes_eq}
use Rattle.std.proofs.lemmas.Bool.{lt-ltb, le-ltb, ltb-true, ltb-false, eq-eqb, eqb-true, eqb-false, cases_lt, or_cases, or_parts, cases_Bool, false_from_ne_true}
use Rattle.std.proofs.lemmas.Bool.Decides.{nat_tests}
use Rattle.std.proofs.lemmas.Slice.Eq.{bytes_eq-Decides}
use Rattle.mc_words.specs.model_device.specs.Bytes.{insert, remove, lookup, name_before, has_name}
use Rattle.mc_words.specs.model_device.specs.Card.{App, words_of_app}
use Rattle.mc_words.specs.model_device.specs.Layout.{put_at, spans_of}
use Rattle.mc_blocks.specs.Chains.{SpansAbove}
use Rattle.mc_blocks.specs.Plans.{has_span, without}
use Rattle.mc_words.specs.model_device.proofs.BoolLemmas.{or_swap}
use Rattle.mc_words.specs.model_device.proofs.MapLemmas.{name_is_itself}

-- ---- spans put in order

swap_cons : {A : Type 0} (p q : ℕ) (x y : A) (e : ℕ × A) (es : List (ℕ × A)) (a b : Bool) → nat_lt p e.0 ≡ a → nat_lt q e.0 ≡ b → p ≢ q → put_at p x (put_at q y es) ≡ put_at q y (put_at p x es)
    → put_at p x (cond b ((q, y) ∷ e ∷ es) (e ∷ put_at q y es)) ≡ put_at q y (cond a ((p, x) ∷ e ∷ es) (e ∷ put_at p x es))
swap_cons {A} p q x y e es true true ha hb ne rest =
    elim (cases_lt p q) [
      | inl lt ↦ ap (λ (t : Bool). cond t ((p, x) ∷ (q, y) ∷ e ∷ es) ((q, y) ∷ put_at p x (e ∷ es))) (lt-ltb p q lt)
          ∙ sym (ap (λ (t : Bool). cond t ((q, y) ∷ (p, x) ∷ e ∷ es) ((p, x) ∷ put_at q y (e ∷ es))) (le-ltb q p (omega arith)) ∙ ap (λ (t : Bool). (p, x) ∷ cond t ((q, y) ∷ e ∷ es) (e ∷ put_at q y es)) hb)
      | inr le ↦ let lt : q < p = omega (arith, ne) in
          ap (λ (t : Bool). cond t ((p, x) ∷ (q, y) ∷ e ∷ es) ((q, y) ∷ put_at p x (e ∷ es))) (le-ltb p q le) ∙ ap (λ (t : Bool). (q, y) ∷ cond t ((p, x) ∷ e ∷ es) (e ∷ put_at p x es)) ha
          ∙ sym (ap (λ (t : Bool). cond t ((q, y) ∷ (p, x) ∷ e ∷ es) ((p, x) ∷ put_at q y (e ∷ es))) (lt-ltb q p lt))
    ]
swap_cons {A} p q x y e es true false ha hb ne rest =
    let past : nat_lt q p ≡ false = grind (arith, nat_tests, ha, hb) in
    ap (λ (t : Bool). cond t ((p, x) ∷ e ∷ put_at q y es) (e ∷ put_at p x (put_at q y es))) ha
    ∙ sym (ap (λ (t : Bool). cond t ((q, y) ∷ (p, x) ∷ e ∷ es) ((p, x) ∷ put_at q y (e ∷ es))) past ∙ ap (λ (t : Bool). (p, x) ∷ cond t ((q, y) ∷ e ∷ es) (e ∷ put_at q y es)) hb)
swap_cons {A} p q x y e es false true ha hb ne rest =
    let past : nat_lt p q ≡ false = grind (arith, nat_tests, ha, hb) in
    ap (λ (t : Bool). cond t ((p, x) ∷ (q, y) ∷ e ∷ es) ((q, y) ∷ put_at p x (e ∷ es))) past ∙ ap (λ (t : Bool). (q, y) ∷ cond t ((p, x) ∷ e ∷ es) (e ∷ put_at p x es)) ha
    ∙ sym (ap (λ (t : Bool). cond t ((q, y) ∷ e ∷ put_at p x es) (e ∷ put_at q y (put_at p x es))) hb)
swap_cons {A} p q x y e es false false ha hb ne rest =
    ap (λ (t : Bool). cond t ((p, x) ∷ e ∷ put_at q y es) (e ∷ put_at p x (put_at q y es))) ha
    ∙ ap (λ (l : List (ℕ × A)). e ∷ l) rest
    ∙ sym (ap (λ (t : Bool). cond t ((q, y) ∷ e ∷ put_at p x es) (e ∷ put_at q y (put_at p x es))) hb)

swap_one : {A : Type 0} (p q : ℕ) (x y : A) (t s : Bool) → nat_lt p q ≡ t → nat_lt q p ≡ s → p ≢ q → cond {A = List (ℕ × A)} t ((p, x) ∷ (q, y) ∷ []) ((q, y) ∷ (p, x) ∷ []) ≡ cond s ((q, y) ∷ (p, x) ∷ []) ((p, x) ∷ (q, y) ∷ [])
swap_one p q x y t s a b ne = grind (arith, nat_tests)

-- two spans at different places can be put in either order
pub put_put : {A : Type 0} (p q : ℕ) (x y : A) (l : List (ℕ × A)) → p ≢ q → put_at p x (put_at q y l) ≡ put_at q y (put_at p x l)
put_put p q x y [] ne = swap_one p q x y (nat_lt p q) (nat_lt q p) refl refl ne
put_put p q x y (e ∷ es) ne = swap_cons p q x y e es (nat_lt p e.0) (nat_lt q e.0) refl refl ne (put_put p q x y es ne)

-- before all others
pub put_front : (p n : ℕ) (l : List (ℕ × ℕ)) → SpansAbove (p + 1) l → put_at p n l ≡ (p, n) ∷ l
put_front p n [] a = refl
put_front p n (e ∷ es) a = let low : p + 1 ≤ e.0 = a.0 in ap (λ (t : Bool). cond t ((p, n) ∷ e ∷ es) (e ∷ put_at p n es)) (lt-ltb p e.0 (omega arith))

pub above_weaker : (p q : ℕ) (l : List (ℕ × ℕ)) → q ≤ p → SpansAbove p l → SpansAbove q l
above_weaker p q [] h a = tt
above_weaker p q (e ∷ es) h a = let low : p ≤ e.0 = a.0 in (omega arith, above_weaker p q es h a.1)

-- ---- a name that is put into a map

-- no entry has this name, and none lies at this place
abbrev pub Free : List ℕ → ℕ → List (List ℕ × App) → Type 0
Free n p [] = Unit {0}
Free n p (e ∷ es) = (bytes_eq e.0 n ≡ false) × ((e.1).place ≢ p) × Free n p es

put_entry : (n : List ℕ) (a : App) (e : List ℕ × App) (es : List (List ℕ × App)) (t : Bool) → bytes_eq e.0 n ≡ false → (e.1).place ≢ a.place → spans_of (insert es n a) ≡ put_at a.place (words_of_app a) (spans_of es)
    → spans_of (cond t ((n, a) ∷ e ∷ es) (e ∷ insert es n a)) ≡ put_at a.place (words_of_app a) (spans_of (e ∷ es))
put_entry n a e es t h ne rest = grind (arith, put_put)

-- a new application adds its span
pub spans_insert : (es : List (List ℕ × App)) (n : List ℕ) (a : App) → Free n a.place es → spans_of (insert es n a) ≡ put_at a.place (words_of_app a) (spans_of es)
spans_insert [] n a f = refl
spans_insert (e ∷ es) n a f =
    ap (λ (t : Bool). spans_of (cond t ((n, a) ∷ es) (cond (name_before n e.0) ((n, a) ∷ e ∷ es) (e ∷ insert es n a)))) f.0
    ∙ put_entry n a e es (name_before n e.0) f.0 f.1 (spans_insert es n a f.2)

free_entry : (n k : List ℕ) (p : ℕ) (a : App) (e : List ℕ × App) (es : List (List ℕ × App)) (t s : Bool) → bytes_eq n k ≡ false → a.place ≢ p → Free k p (e ∷ es) → Free k p (insert es n a)
    → Free k p (cond t ((n, a) ∷ es) (cond s ((n, a) ∷ e ∷ es) (e ∷ insert es n a)))
free_entry n k p a e es t s h ne f rest = grind arith

-- another name is still free after an insertion
pub free_insert : (es : List (List ℕ × App)) (n k : List ℕ) (p : ℕ) (a : App) → bytes_eq n k ≡ false → a.place ≢ p → Free k p es → Free k p (insert es n a)
free_insert [] n k p a h ne f = (h, ne, tt)
free_insert (e ∷ es) n k p a h ne f = free_entry n k p a e es (bytes_eq e.0 n) (name_before n e.0) h ne f (free_insert es n k p a h ne f.2)

-- ---- names

-- a name that is in a list, and one that is not, differ
pub names_apart : (names : List (List ℕ)) (k n : List ℕ) → has_name k names ≡ true → has_name n names ≡ false → bytes_eq n k ≡ false
names_apart [] k n yes-in not-in = absurd (cc yes-in)
names_apart (x ∷ xs) k n there absent =
    let parts = or_parts (bytes_eq x n) (has_name n xs) absent in
    elim (or_cases (bytes_eq x k) (has_name k xs) there) [
      | inl here ↦ false_from_ne_true (bytes_eq n k) (λ e.
          let x-is : x ≡ k = (bytes_eq-Decides x k).0 here in
          let n-is : n ≡ k = (bytes_eq-Decides n k).0 e in
          absurd (cc (sym (ap (λ (y : List ℕ). bytes_eq y n) (x-is ∙ sym n-is) ∙ name_is_itself n) ∙ parts.0)))
      | inr behind ↦ names_apart xs k n behind parts.1
    ]

pub has_self : (k : List ℕ) (names : List (List ℕ)) → has_name k (k ∷ names) ≡ true
has_self k names = ap (λ (t : Bool). t || has_name k names) (name_is_itself k)

pub has_more : (k x : List ℕ) (names : List (List ℕ)) → has_name k names ≡ true → has_name k (x ∷ names) ≡ true
has_more k x names h = elim (cases_Bool (bytes_eq x k)) [ inl t ↦ ap (λ (s : Bool). s || has_name k names) t | inr f ↦ ap (λ (s : Bool). s || has_name k names) f ∙ h ]

-- ---- spans of maps

has_test : (p q n : ℕ) (e : ℕ × ℕ) (es more : List (ℕ × ℕ)) (t : Bool) → has_span p more ≡ (q == p || has_span p es) → has_span p (cond t ((q, n) ∷ e ∷ es) (e ∷ more)) ≡ (q == p || has_span p (e ∷ es))
has_test p q n e es more true h = refl
has_test p q n e es more false h = ap (λ (b : Bool). e.0 == p || b) h ∙ or_swap (e.0 == p) (q == p) (has_span p es)

-- after a put a span begins at p exactly if the put one does or one did before
pub has_put : (p q n : ℕ) (l : List (ℕ × ℕ)) → has_span p (put_at q n l) ≡ (q == p || has_span p l)
has_put p q n [] = refl
has_put p q n (e ∷ es) = has_test p q n e es (put_at q n es) (nat_lt q e.0) (has_put p q n es)

free_kind : (n : List ℕ) (p : ℕ) (e : List ℕ × App) (es : List (List ℕ × App)) (t : Bool) → bytes_eq e.0 n ≡ t → cond t (Some e.1) (lookup es n) ≡ None → has_span p (put_at (e.1).place (words_of_app e.1) (spans_of es)) ≡ false
    → (lookup es n ≡ None → has_span p (spans_of es) ≡ false → Free n p es) → Free n p (e ∷ es)
free_kind n p e es t h l s rest = grind (arith, or_parts, has_put, eqb-false)

-- a name without an entry is free at a place where no span begins
pub free_from : (n : List ℕ) (p : ℕ) (es : List (List ℕ × App)) → lookup es n ≡ None → has_span p (spans_of es) ≡ false → Free n p es
free_from n p [] l s = tt
free_from n p (e ∷ es) l s = free_kind n p e es (bytes_eq e.0 n) refl l s (free_from n p es)

-- spans ascend by their places
abbrev pub Sorted : List (ℕ × ℕ) → Type 0
Sorted [] = Unit {0}
Sorted (e ∷ es) = SpansAbove e.0 es × Sorted es

above_test : (r p n : ℕ) (e : ℕ × ℕ) (es more : List (ℕ × ℕ)) (t : Bool) → r ≤ p → SpansAbove r (e ∷ es) → SpansAbove r more → SpansAbove r (cond t ((p, n) ∷ e ∷ es) (e ∷ more))
above_test r p n e es more true h a rest = (h, a)
above_test r p n e es more false h a rest = (a.0, rest)

above_put : (r p n : ℕ) (l : List (ℕ × ℕ)) → r ≤ p → SpansAbove r l → SpansAbove r (put_at p n l)
above_put r p n [] h a = (h, tt)
above_put r p n (e ∷ es) h a = above_test r p n e es (put_at p n es) (nat_lt p e.0) h a (above_put r p n es h a.1)

sorted_test : (p n : ℕ) (e : ℕ × ℕ) (es : List (ℕ × ℕ)) (t : Bool) → nat_lt p e.0 ≡ t → Sorted (e ∷ es) → Sorted (put_at p n es) → Sorted (cond t ((p, n) ∷ e ∷ es) (e ∷ put_at p n es))
sorted_test p n e es true h s rest = let lt : p < e.0 = ltb-true p e.0 h in ((omega arith, above_weaker e.0 p es (omega arith) s.0), s)
sorted_test p n e es false h s rest = (above_put e.0 p n es (ltb-false p e.0 h) s.0, rest)

sorted_put : (p n : ℕ) (l : List (ℕ × ℕ)) → Sorted l → Sorted (put_at p n l)
sorted_put p n [] s = (tt, tt)
sorted_put p n (e ∷ es) s = sorted_test p n e es (nat_lt p e.0) refl s (sorted_put p n es s.1)

sorted_spans : (es : List (List ℕ × App)) → Sorted (spans_of es)
sorted_spans [] = tt
sorted_spans (e ∷ es) = sorted_put (e.1).place (words_of_app e.1) (spans_of es) (sorted_spans es)

above_kept : (r p : ℕ) (e : ℕ × ℕ) (es : List (ℕ × ℕ)) (t : Bool) → r ≤ e.0 → SpansAbove r (without p es) → SpansAbove r (cond t (without p es) (e ∷ without p es))
above_kept r p e es true h a = a
above_kept r p e es false h a = (h, a)

above_without : (r p : ℕ) (l : List (ℕ × ℕ)) → SpansAbove r l → SpansAbove r (without p l)
above_without r p [] a = tt
above_without r p (e ∷ es) a = above_kept r p e es (e.0 == p) a.0 (above_without r p es a.1)

kept_test : (p q n : ℕ) (e : ℕ × ℕ) (es : List (ℕ × ℕ)) (t : Bool) → nat_lt q e.0 ≡ false → without p (put_at q n es) ≡ put_at q n (without p es)
    → cond t (without p (put_at q n es)) (e ∷ without p (put_at q n es)) ≡ put_at q n (cond t (without p es) (e ∷ without p es))
kept_test p q n e es true past h = h
kept_test p q n e es false past h = ap (λ (l : List (ℕ × ℕ)). e ∷ l) h ∙ sym (ap (λ (b : Bool). cond b ((q, n) ∷ e ∷ without p es) (e ∷ put_at q n (without p es))) past)

without_test : (p q n : ℕ) (e : ℕ × ℕ) (es : List (ℕ × ℕ)) (t : Bool) → nat_lt q e.0 ≡ t → (q == p) ≡ false → SpansAbove e.0 es → without p (put_at q n es) ≡ put_at q n (without p es)
    → without p (cond t ((q, n) ∷ e ∷ es) (e ∷ put_at q n es)) ≡ put_at q n (without p (e ∷ es))
without_test p q n e es t lt ne a h = grind (arith, ltb-true, above_weaker, put_front, above_without, kept_test)

-- removing the span at a place commutes with putting one at another place
without_put : (p q n : ℕ) (l : List (ℕ × ℕ)) → Sorted l → (q == p) ≡ false → without p (put_at q n l) ≡ put_at q n (without p l)
without_put p q n [] s ne = ap (λ (b : Bool). cond b [] ((q, n) ∷ [])) ne
without_put p q n (e ∷ es) s ne = without_test p q n e es (nat_lt q e.0) refl ne s.0 (without_put p q n es s.1 ne)

gone_kept : (p : ℕ) (e : ℕ × ℕ) (es more : List (ℕ × ℕ)) (t : Bool) → more ≡ without p es → cond t more (e ∷ more) ≡ cond t (without p es) (e ∷ without p es)
gone_kept p e es more true h = h
gone_kept p e es more false h = ap (λ (l : List (ℕ × ℕ)). e ∷ l) h

gone_test : (p n : ℕ) (e : ℕ × ℕ) (es : List (ℕ × ℕ)) (t : Bool) → without p (put_at p n es) ≡ without p es → without p (cond t ((p, n) ∷ e ∷ es) (e ∷ put_at p n es)) ≡ without p (e ∷ es)
gone_test p n e es true h = ap (λ (b : Bool). cond b (without p (e ∷ es)) ((p, n) ∷ without p (e ∷ es))) (eq-eqb p p refl)
gone_test p n e es false h = gone_kept p e es (without p (put_at p n es)) (e.0 == p) h

-- removing the span at a place also removes one that was put there
without_gone : (p n : ℕ) (l : List (ℕ × ℕ)) → without p (put_at p n l) ≡ without p l
without_gone p n [] = ap (λ (b : Bool). cond b [] ((p, n) ∷ [])) (eq-eqb p p refl)
without_gone p n (e ∷ es) = gone_test p n e es (nat_lt p e.0) (without_gone p n es)

-- an entry has this name exactly if its application lies at this place
abbrev pub OneAt : List ℕ → ℕ → List (List ℕ × App) → Type 0
OneAt n p [] = Unit {0}
OneAt n p (e ∷ es) = (bytes_eq e.0 n ≡ ((e.1).place == p)) × OneAt n p es

remove_test : (n : List ℕ) (p : ℕ) (e : List ℕ × App) (es : List (List ℕ × App)) (t : Bool) → bytes_eq e.0 n ≡ t → bytes_eq e.0 n ≡ ((e.1).place == p) → spans_of (remove es n) ≡ without p (spans_of es)
    → spans_of (cond t (remove es n) (e ∷ remove es n)) ≡ without p (put_at (e.1).place (words_of_app e.1) (spans_of es))
remove_test n p e es t h same rest = grind (arith, eqb-true, without_gone, without_put, sorted_spans)

-- removing an application removes its span
pub spans_remove : (es : List (List ℕ × App)) (n : List ℕ) (p : ℕ) → OneAt n p es → spans_of (remove es n) ≡ without p (spans_of es)
spans_remove [] n p o = refl
spans_remove (e ∷ es) n p o = remove_test n p e es (bytes_eq e.0 n) refl o.0 (spans_remove es n p o.1)

one_test : (n k : List ℕ) (p : ℕ) (a : App) (e : List ℕ × App) (es : List (List ℕ × App)) (t s : Bool) → bytes_eq k n ≡ (a.place == p) → OneAt n p (e ∷ es) → OneAt n p (insert es k a)
    → OneAt n p (cond t ((k, a) ∷ es) (cond s ((k, a) ∷ e ∷ es) (e ∷ insert es k a)))
one_test n k p a e es t s h o rest = grind arith

pub one_insert : (es : List (List ℕ × App)) (n k : List ℕ) (p : ℕ) (a : App) → bytes_eq k n ≡ (a.place == p) → OneAt n p es → OneAt n p (insert es k a)
one_insert [] n k p a h o = (h, tt)
one_insert (e ∷ es) n k p a h o = one_test n k p a e es (bytes_eq e.0 k) (name_before k e.0) h o (one_insert es n k p a h o.1)
