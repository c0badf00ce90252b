-- Possibilities that are put together, and rounds that find no more of them.
use Rattle.std.proofs.Common.{◌≡◌, ◌∙◌, ℕ, suc, ◌+◌, ◌-◌, ◌<◌, ◌≤◌, Bool, true, false, cond, List, [], ◌∷◌, ◌++◌, Option, Some, Bor, Vec, Global, vec_len, length, get_or, drop, ap, sym, subst, refl, arith, drop-cons}
use Rattle.std.specs.Prelude.{◌==◌, IfSome}
use Rattle.std.proofs.lemmas.List.{length-map}
use Rattle.std.proofs.lemmas.Bool.{eq-eqb, ne_eqb}
use Rattle.prove_facts.specs.model_prove.specs.Texts.{Opens, is_among, with_opens, both_opens, after_digit, any_unless, after_any}
use Rattle.prove_patterns.specs.Opens.{opens_of, many_of}

both_last : (ps : List Opens) (o : Opens) (qs : List Opens) → both_opens (ps ++ o ∷ []) qs ≡ both_opens ps (with_opens o qs)
both_last [] o qs = refl
both_last (p ∷ ps) o qs = ap (λ (os : List Opens). with_opens p os) (both_last ps o qs)

-- the last of some is put to others
pub both_turn : (ps rest qs next whole : List Opens) (o : Opens) → ps ≡ rest ++ o ∷ [] → next ≡ with_opens o qs → both_opens ps qs ≡ whole → both_opens rest next ≡ whole
both_turn ps rest qs next whole o e n w =
    ap (λ (os : List Opens). both_opens rest os) n ∙ sym (both_last rest o qs) ∙ sym (ap (λ (os : List Opens). both_opens os qs) e) ∙ w

with_longer : (b : Bool) (o : Opens) (os : List Opens) → length os ≤ length (cond b os (o ∷ os))
with_longer true o os = omega arith
with_longer false o os = omega arith

both_longer : (ps qs : List Opens) → length qs ≤ length (both_opens ps qs)
both_longer [] qs = omega arith
both_longer (p ∷ ps) qs =
    let h = both_longer ps qs in
    let i = with_longer (is_among p (both_opens ps qs)) p (both_opens ps qs) in
    omega (arith, h, i)

with_same : (b : Bool) (o : Opens) (os qs : List Opens) → length qs ≤ length os → length (cond b os (o ∷ os)) ≡ length qs → (length os ≡ length qs → os ≡ qs) → cond b os (o ∷ os) ≡ qs
with_same true o os qs l e f = f e
with_same false o os qs l e f = absurd (omega (arith, l, e))

both_same : (ps qs : List Opens) → length (both_opens ps qs) ≡ length qs → both_opens ps qs ≡ qs
both_same [] qs h = refl
both_same (p ∷ ps) qs h = with_same (is_among p (both_opens ps qs)) p (both_opens ps qs) qs (both_longer ps qs) h (both_same ps qs)

any_step : (k : ℕ) (os all : List Opens) → all ≡ both_opens (after_digit (after_digit os)) os → after_any (suc k) os ≡ any_unless (length all == length os) os (after_any k all)
any_step k os all e = ap (λ (a : List Opens). any_unless (length a == length os) os (after_any k a)) (sym e)

-- a round that finds more
pub any_turn : (n r : ℕ) (os all whole : List Opens) → r < n → all ≡ both_opens (after_digit (after_digit os)) os → (length all ≡ length os → ⊥)
    → after_any (n - r) os ≡ whole → after_any (n - (r + 1)) all ≡ whole
any_turn n r os all whole l e more w =
    let back : n - r ≡ suc (n - (r + 1)) = omega arith in
    sym (ap (λ (b : Bool). any_unless b os (after_any (n - (r + 1)) all)) (ne_eqb (length all) (length os) more))
    ∙ sym (any_step (n - (r + 1)) os all e) ∙ sym (ap (λ (k : ℕ). after_any k os) back) ∙ w

-- a round that finds no more
pub any_end : (n r : ℕ) (os all whole : List Opens) → r < n → all ≡ both_opens (after_digit (after_digit os)) os → length all ≡ length os
    → after_any (n - r) os ≡ whole → all ≡ whole
any_end n r os all whole l e same w =
    let back : n - r ≡ suc (n - (r + 1)) = omega arith in
    e ∙ both_same (after_digit (after_digit os)) os (sym (ap (λ (a : List Opens). length a) e) ∙ same)
    ∙ sym (ap (λ (b : Bool). any_unless b os (after_any (n - (r + 1)) all)) (eq-eqb (length all) (length os) same))
    ∙ sym (any_step (n - (r + 1)) os all e) ∙ sym (ap (λ (k : ℕ). after_any k os) back) ∙ w

-- ---- lists of the code

abbrev Several : Type 0
Several = Vec (Vec (Bor (List ℕ)) Global) Global

pub many_length : (l : List Several) → length (many_of l) ≡ length l
many_length l = length-map l (λ (o : Several). opens_of o.items)

pub same_size : (l m : Vec Several Global) (j k : ℕ) → j ≡ vec_len l → k ≡ vec_len m → j ≡ k → length (many_of l.items) ≡ length (many_of m.items)
same_size l m j k e f s = omega (arith, many_length l.items, many_length m.items, l.ok.0, m.ok.0, e, f, s)

pub other_size : (l m : Vec Several Global) (j k : ℕ) → j ≡ vec_len l → k ≡ vec_len m → length (many_of l.items) ≡ length (many_of m.items) → j ≡ k
other_size l m j k e f s = omega (arith, many_length l.items, many_length m.items, l.ok.0, m.ok.0, e, f, s)

-- what a search found
pub any_found : (r : Option (Vec Several Global)) (m : Vec Several Global) (w : List Opens) → r ≡ Some m → IfSome r (λ x. many_of x.items ≡ w) → many_of m.items ≡ w
any_found r m w e h = subst (λ (o : Option (Vec Several Global)). IfSome o (λ x. many_of x.items ≡ w)) e h

-- one place back in a list
pub back_turn : {A : Type 0} (l : List A) (i : ℕ) (x : A) → 0 < i → i ≤ length l → x ≡ get_or l (i - 1) x → drop (i - 1) l ≡ x ∷ drop i l
back_turn {A} l i x some within e =
    let forth : suc (i - 1) ≡ i = omega arith in
    drop-cons l (i - 1) x (omega arith) ∙ ap (λ (y : A). y ∷ drop (suc (i - 1)) l) (sym e) ∙ ap (λ (k : ℕ). x ∷ drop k l) forth
