-- Amounts under names, and patterns without blanks and capital letters.
use Rattle.std.proofs.Common.{◌≡◌, ℕ, zero, suc, ◌+◌, List, [], ◌∷◌, Bool, true, false, cond, not, ◌&&◌, ◌||◌, Some, refl, sym, ap, subst, ◌∙◌, arith}
use Rattle.std.specs.Prelude.{bytes_eq, slice_get, slice_set}
use Rattle.std.proofs.lemmas.Slice.Eq.{bytes_eq-Decides}
use Rattle.std.proofs.lemmas.Option.{same_Some}
use Rattle.model_text.specs.model_device.specs.Bytes.{lookup}
use Rattle.model_text.specs.Text.{is_blank, is_empty, is_within}
use Rattle.lab_app_rules.specs.model_events.specs.Matching.{fits, matches, plain, small}
use Rattle.lab_app_rules.specs.model_events.specs.Amounts.{with_amount}
use Rattle.prove_facts.specs.model_rules.specs.Keeping.{Amounts}
use Rattle.lab_match.proofs.MatchingLemmas.{plain_blank, plain_kept}
use Rattle.lab_app_rules.specs.Rules.{AreDistinct, is_named}
use Rattle.prove_keys.specs.Keys.{amounts_of}

-- ---- names

apart_by : (m n : List ℕ) (b : Bool) → bytes_eq n m ≡ b → bytes_eq m n ≡ false → b ≡ false
apart_by m n false e h = refl
apart_by m n true e h =
    let q : bytes_eq m n ≡ true = (bytes_eq-Decides m n).1 (sym ((bytes_eq-Decides n m).0 e)) in
    absurd (cc (h, q))

-- names that differ, in the other order
apart : (m n : List ℕ) → bytes_eq m n ≡ false → bytes_eq n m ≡ false
apart m n h = apart_by m n (bytes_eq n m) refl h

none_of : (a b : Bool) → (a || b) ≡ false → (a ≡ false) × (b ≡ false)
none_of true b h = absurd (cc h)
none_of false b h = (refl, h)

-- a name that is not among some differs from each of them
apart_at : (name other : List ℕ) (names : List (List ℕ)) (n : ℕ) → is_named name names ≡ false → slice_get names n ≡ Some other → bytes_eq name other ≡ false
apart_at name other [] n h e = absurd (cc e)
apart_at name other (m ∷ names) zero h e =
    apart other name (subst (λ (t : List ℕ). bytes_eq t name ≡ false) (same_Some m other e) (none_of (bytes_eq m name) (is_named name names) h).0)
apart_at name other (m ∷ names) (suc n) h e = apart_at name other names n (none_of (bytes_eq m name) (is_named name names) h).1 e

-- ---- amounts

-- the amount under a name is the one at its place
pub lookup_at : (names : List (List ℕ)) (a : List ℕ) (n : ℕ) (name : List ℕ) (k : ℕ) → AreDistinct names → slice_get names n ≡ Some name → slice_get a n ≡ Some k
    → lookup (amounts_of names a) name ≡ Some k
lookup_at [] a n name k d e g = absurd (cc e)
lookup_at (m ∷ names) [] n name k d e g = absurd (cc g)
lookup_at (m ∷ names) (x ∷ a) zero name k d e g =
    ap (λ (b : Bool). cond b (Some x) (lookup (amounts_of names a) name)) ((bytes_eq-Decides m name).1 (same_Some m name e)) ∙ g
lookup_at (m ∷ names) (x ∷ a) (suc n) name k d e g =
    ap (λ (b : Bool). cond b (Some x) (lookup (amounts_of names a) name)) (apart_at m name names n d.0 e) ∙ lookup_at names a n name k d.1 e g

-- a name that is not among the names
with_unnamed : (names : List (List ℕ)) (a : List ℕ) (name : List ℕ) (k : ℕ) → is_named name names ≡ false → with_amount name k (amounts_of names a) ≡ amounts_of names a
with_unnamed [] a name k h = refl
with_unnamed (m ∷ names) [] name k h = refl
with_unnamed (m ∷ names) (x ∷ a) name k h =
    let parts = none_of (bytes_eq m name) (is_named name names) h in
    ap (λ (b : Bool). cond b (m, k) (m, x) ∷ with_amount name k (amounts_of names a)) parts.0
    ∙ ap (λ (l : Amounts). (m, x) ∷ l) (with_unnamed names a name k parts.1)

-- another amount under a name is another one at its place
pub with_at : (names : List (List ℕ)) (a : List ℕ) (n : ℕ) (name : List ℕ) (k : ℕ) → AreDistinct names → slice_get names n ≡ Some name
    → with_amount name k (amounts_of names a) ≡ amounts_of names (slice_set a n k)
with_at [] a n name k d e = absurd (cc e)
with_at (m ∷ names) [] n name k d e = refl
with_at (m ∷ names) (x ∷ a) zero name k d e =
    ap (λ (b : Bool). cond b (m, k) (m, x) ∷ with_amount name k (amounts_of names a)) ((bytes_eq-Decides m name).1 (same_Some m name e))
    ∙ ap (λ (l : Amounts). (m, k) ∷ l) (with_unnamed names a name k (subst (λ (t : List ℕ). is_named t names ≡ false) (same_Some m name e) d.0))
with_at (m ∷ names) (x ∷ a) (suc n) name k d e =
    ap (λ (b : Bool). cond b (m, k) (m, x) ∷ with_amount name k (amounts_of names a)) (apart_at m name names n d.0 e)
    ∙ ap (λ (l : Amounts). (m, x) ∷ l) (with_at names a n name k d.1 e)

-- the amount that is there already
pub set_same : (a : List ℕ) (n k : ℕ) → slice_get a n ≡ Some k → slice_set a n k ≡ a
set_same [] n k h = absurd (cc h)
set_same (x ∷ a) zero k h = ap (λ (y : ℕ). y ∷ a) (sym (same_Some x k h))
set_same (x ∷ a) (suc n) k h = ap (λ (l : List ℕ). x ∷ l) (set_same a n k h)

-- ---- patterns

small_by : (c : ℕ) (b : Bool) → is_within 65 90 c ≡ b → small (cond b (c + 32) c) ≡ cond b (c + 32) c
small_by c true e = grind (arith, e)
small_by c false e = rw e refl

small_again : (c : ℕ) → small (small c) ≡ small c
small_again c = small_by c (is_within 65 90 c) refl

blank_by : (c : ℕ) (b : Bool) → is_within 65 90 c ≡ b → is_blank c ≡ false → is_blank (cond b (c + 32) c) ≡ false
blank_by c true e h = grind (arith, e, h)
blank_by c false e h = h

again_by : (b : Bool) (c : ℕ) (t : List ℕ) → is_blank c ≡ b → plain (plain t) ≡ plain t → plain (plain (c ∷ t)) ≡ plain (c ∷ t)
again_by true c t e h = subst (λ (x : List ℕ). plain x ≡ x) (sym (plain_blank c t e)) h
again_by false c t e h =
    subst (λ (x : List ℕ). plain x ≡ x) (sym (plain_kept c t e))
    (plain_kept (small c) (plain t) (blank_by c (is_within 65 90 c) refl e) ∙ ap (λ (x : ℕ). x ∷ plain (plain t)) (small_again c) ∙ ap (λ (x : List ℕ). small c ∷ x) h)

plain_again : (t : List ℕ) → plain (plain t) ≡ plain t
plain_again [] = refl
plain_again (c ∷ t) = again_by (is_blank c) c t refl (plain_again t)

-- a pattern without blanks and capital letters fits what the pattern fits
pub fits_plain : (p t : List ℕ) → fits (plain p) t ≡ fits p t
unfolding fits
fits_plain p t = ap (λ (x : List ℕ). not (is_empty x) && matches x (plain t)) (plain_again p)
