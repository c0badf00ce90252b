-- Slots of applications by the places of their blocks, as the map of applications changes.
use Rattle.std.proofs.Common.{◌≡◌, ◌≢◌, ℕ, Bool, true, false, List, [], ◌∷◌, Option, Some, None, cond, refl, sym, ◌∙◌, ap}
use Rattle.std.specs.Prelude.{◌==◌, bytes_eq}
use Rattle.std.proofs.lemmas.Bool.{eqb-true, eq-eqb, ne_eqb}
use Rattle.mc_words.specs.model_device.specs.Bytes.{lookup, insert, remove, name_before}
use Rattle.mc_words.specs.model_device.specs.Card.{App}
use Rattle.mc_blocks.proofs.Maps.{OneAt, Free}
use Rattle.mc_store.specs.Store.{name_of_place}
use Rattle.mc_words.specs.model_device.proofs.MapLemmas.{same_name}
use Rattle.mc_blocks.proofs.Applications.{free_one}

-- ---- an insertion

-- the result of two tests that cannot both be true
two_tests : (s t : Bool) (x y : Option (List ℕ)) (z : Option (List ℕ)) → (s ≡ true → t ≡ true → x ≡ y) → cond s x (cond t y z) ≡ cond t y (cond s x z)
two_tests true true x y z same = same refl refl
two_tests true false x y z same = refl
two_tests false t x y z same = refl

place_kind : (n : List ℕ) (p k : ℕ) (a : App) (e : List ℕ × App) (es : List (List ℕ × App)) (t s : Bool) → a.place ≡ p → bytes_eq e.0 n ≡ t → bytes_eq e.0 n ≡ ((e.1).place == p)
    → name_of_place (insert es n a) k ≡ cond (p == k) (Some n) (name_of_place es k)
    → name_of_place (cond t ((n, a) ∷ es) (cond s ((n, a) ∷ e ∷ es) (e ∷ insert es n a))) k ≡ cond (p == k) (Some n) (cond ((e.1).place == k) (Some e.0) (name_of_place es k))
place_kind n p k a e es true s at h one rest =
    let here : (e.1).place ≡ p = eqb-true (e.1).place p (sym one ∙ h) in
    ap (λ (q : ℕ). cond (q == k) (Some n) (name_of_place es k)) at
    ∙ both_same (p == k) (Some n) (Some e.0) (name_of_place es k)
    ∙ sym (ap (λ (q : ℕ). cond (p == k) (Some n) (cond (q == k) (Some e.0) (name_of_place es k))) here)
  where
    both_same : (t : Bool) (x y z : Option (List ℕ)) → cond t x z ≡ cond t x (cond t y z)
    both_same true x y z = refl
    both_same false x y z = refl
place_kind n p k a e es false true at h one rest = ap (λ (q : ℕ). cond (q == k) (Some n) (cond ((e.1).place == k) (Some e.0) (name_of_place es k))) at
place_kind n p k a e es false false at h one rest =
    ap (λ (o : Option (List ℕ)). cond ((e.1).place == k) (Some e.0) o) rest
    ∙ two_tests ((e.1).place == k) (p == k) (Some e.0) (Some n) (name_of_place es k)
    (λ ek pk. absurd (cc (sym (sym one ∙ h) ∙ eq-eqb (e.1).place p (eqb-true (e.1).place k ek ∙ sym (eqb-true p k pk)))))

-- an application that is put into a map in which it, and it alone, lies at its place
pub place_inserted : (es : List (List ℕ × App)) (n : List ℕ) (p k : ℕ) (a : App) → a.place ≡ p → OneAt n p es → name_of_place (insert es n a) k ≡ cond (p == k) (Some n) (name_of_place es k)
place_inserted [] n p k a at one = ap (λ (q : ℕ). cond (q == k) (Some n) None) at
place_inserted (e ∷ es) n p k a at one = place_kind n p k a e es (bytes_eq e.0 n) (name_before n e.0) at refl one.0 (place_inserted es n p k a at one.1)

found_kind : (n : List ℕ) (p : ℕ) (a : App) (e : List ℕ × App) (es : List (List ℕ × App)) (t : Bool) → bytes_eq e.0 n ≡ t → bytes_eq e.0 n ≡ ((e.1).place == p) → cond t (Some e.1) (lookup es n) ≡ Some a
    → (lookup es n ≡ Some a → name_of_place es p ≡ Some n) → cond ((e.1).place == p) (Some e.0) (name_of_place es p) ≡ Some n
found_kind n p a e es true h one l rest = ap (λ (t : Bool). cond t (Some e.0) (name_of_place es p)) (sym one ∙ h) ∙ ap (λ (x : List ℕ). Some x) (same_name e.0 n h)
found_kind n p a e es false h one l rest = ap (λ (t : Bool). cond t (Some e.0) (name_of_place es p)) (sym one ∙ h) ∙ rest l

-- the name of an application that is there
pub place_found : (es : List (List ℕ × App)) (n : List ℕ) (p : ℕ) (a : App) → OneAt n p es → lookup es n ≡ Some a → name_of_place es p ≡ Some n
place_found [] n p a one l = absurd (cc l)
place_found (e ∷ es) n p a one l = found_kind n p a e es (bytes_eq e.0 n) refl one.0 l (place_found es n p a one.1)

at_place : (n : List ℕ) (p k : ℕ) (o : Option (List ℕ)) (t : Bool) → (p == k) ≡ t → (p ≡ k → o ≡ Some n) → cond t (Some n) o ≡ o
at_place n p k o true h is = sym (is (eqb-true p k h))
at_place n p k o false h is = refl

-- an application that changes in its place keeps all slots
pub place_changed : (es : List (List ℕ × App)) (n : List ℕ) (p k : ℕ) (a b : App) → b.place ≡ p → OneAt n p es → lookup es n ≡ Some a → name_of_place (insert es n b) k ≡ name_of_place es k
place_changed es n p k a b at one l =
    place_inserted es n p k b at one ∙ at_place n p k (name_of_place es k) (p == k) refl (λ e. ap (λ (q : ℕ). name_of_place es q) (sym e) ∙ place_found es n p a one l)

free_place : (n : List ℕ) (p : ℕ) (es : List (List ℕ × App)) → Free n p es → name_of_place es p ≡ None
free_place n p [] f = refl
free_place n p (e ∷ es) f = ap (λ (t : Bool). cond t (Some e.0) (name_of_place es p)) (ne_eqb (e.1).place p f.1) ∙ free_place n p es f.2

new_kind : (n x : List ℕ) (p k : ℕ) (o : Option (List ℕ)) (t : Bool) → (p == k) ≡ t → (p ≡ k → o ≡ None) → o ≡ Some x → cond t (Some n) o ≡ Some x
new_kind n x p k o true h none some = absurd (cc (sym (none (eqb-true p k h)) ∙ some))
new_kind n x p k o false h none some = some

-- a new application keeps the slots that there are
pub place_new : (es : List (List ℕ × App)) (n x : List ℕ) (p k : ℕ) (a : App) → a.place ≡ p → Free n p es → name_of_place es k ≡ Some x → name_of_place (insert es n a) k ≡ Some x
place_new es n x p k a at free is =
    place_inserted es n p k a at (free_one n p es free) ∙ new_kind n x p k (name_of_place es k) (p == k) refl (λ e. ap (λ (q : ℕ). name_of_place es q) (sym e) ∙ free_place n p es free) is

-- ---- a removal

gone_kind : (n x : List ℕ) (k : ℕ) (e : List ℕ × App) (es : List (List ℕ × App)) (t s : Bool) → bytes_eq e.0 n ≡ t → ((e.1).place == k) ≡ s → x ≢ n → cond s (Some e.0) (name_of_place es k) ≡ Some x
    → (name_of_place es k ≡ Some x → name_of_place (remove es n) k ≡ Some x) → name_of_place (cond t (remove es n) (e ∷ remove es n)) k ≡ Some x
gone_kind n x k e es true true h hs ne is rest = let same : e.0 ≡ x = cc in absurd (ne (sym same ∙ same_name e.0 n h))
gone_kind n x k e es true false h hs ne is rest = rest is
gone_kind n x k e es false true h hs ne is rest = ap (λ (t : Bool). cond t (Some e.0) (name_of_place (remove es n) k)) hs ∙ is
gone_kind n x k e es false false h hs ne is rest = ap (λ (t : Bool). cond t (Some e.0) (name_of_place (remove es n) k)) hs ∙ rest is

-- a removal keeps the slots of all others
pub place_removed : (es : List (List ℕ × App)) (n x : List ℕ) (k : ℕ) → x ≢ n → name_of_place es k ≡ Some x → name_of_place (remove es n) k ≡ Some x
place_removed [] n x k ne is = absurd (cc is)
place_removed (e ∷ es) n x k ne is = gone_kind n x k e es (bytes_eq e.0 n) ((e.1).place == k) refl refl ne is (place_removed es n x k ne)
