-- Results that are no refusals, and what a list has under a name.
use Rattle.std.proofs.Common.{arith, ◌≡◌, ℕ, suc, Bool, true, false, cond, List, [], ◌∷◌, Option, Some, None, Result, Ok, Err, refl, subst}
use Rattle.std.specs.Prelude.{◌&&◌, bytes_eq, ok_or, ⊤}
use Rattle.mc_text.specs.model_device.specs.Bytes.{lookup}
use Rattle.mc_text.specs.model_device.proofs.BoolLemmas.{and_first, and_second}
use Rattle.mc_text.specs.model_device.proofs.MapLemmas.{same_name}
use Rattle.mc_text.specs.model_text.specs.Text.{◌>>=◌, err_as, ok_as, only_if}
use Rattle.mc_text.specs.model_text.specs.Assembly.{both, place_among}
use Rattle.mc_text.specs.model_text.specs.declared.assembler.AsmCause.{AsmCause}

-- ---- results

-- a result that is no refusal
abbrev pub Fine : {A E : Type 0} → Result A E → Type 0
Fine (Ok a) = ⊤
Fine (Err e) = ⊥

-- if a result in two steps is no refusal, neither step is one
pub fine_then : {A B E : Type 0} (r : Result A E) (f : A → Result B E) → Fine (r >>= f) → (a : A) × (r ≡ Ok a) × Fine (f a)
fine_then (Ok a) f h = (a, refl, h)
fine_then (Err e) f h = absurd h

-- if a result whose value was mapped is no refusal, neither is the result
pub fine_as : {A B E : Type 0} (f : A → B) (r : Result A E) → Fine (ok_as f r) → Fine r
fine_as f (Ok a) h = tt
fine_as f (Err e) h = absurd h

-- if a result whose refusal was mapped is no refusal, neither is the result
pub fine_err : {A E F : Type 0} (f : E → F) (r : Result A E) → Fine (err_as f r) → Fine r
fine_err f (Ok a) h = tt
fine_err f (Err e) h = absurd h

-- if a result by a test is no refusal, the test passes
pub fine_if : {A E : Type 0} (b : Bool) (e : E) (a : A) → Fine (only_if b e a) → b ≡ true
fine_if true e a h = refl
fine_if false e a h = absurd h

-- if a value that is asked for is no refusal, it is there
pub fine_or : {A E : Type 0} (o : Option A) (e : E) → Fine (ok_or o e) → (a : A) × (o ≡ Some a)
fine_or (Some a) e h = (a, refl)
fine_or None e h = absurd h

-- an answer is no refusal
pub fine_ok : {A E : Type 0} (r : Result A E) (a : A) → r ≡ Ok a → Fine r
fine_ok (Ok b) a h = tt
fine_ok (Err e) a h = absurd (cc h)

-- if two results together are no refusal, neither is one
pub fine_both : {A B : Type 0} (r : Result A AsmCause) (s : Result B AsmCause) → Fine (both r s) → Fine r × Fine s
fine_both r s h = grind arith

-- ---- names

-- whether each name of a list passes a test with its value
abbrev pub each_name : {A : Type 0} → (List ℕ → A → Bool) → List (List ℕ × A) → Bool
each_name test [] = true
each_name test (e ∷ es) = test e.0 e.1 && each_name test es

looked_by : {A : Type 0} (test : List ℕ → A → Bool) (b : Bool) (e : List ℕ × A) (n : List ℕ) (a : A) (o : Option A) → bytes_eq e.0 n ≡ b → test e.0 e.1 ≡ true → (o ≡ Some a → test n a ≡ true) → cond b (Some e.1) o ≡ Some a → test n a ≡ true
looked_by test true e n a o p h f k =
    let i : e.1 ≡ a = cc k in
    subst (λ x. test x a ≡ true) (same_name e.0 n p) (subst (λ x. test e.0 x ≡ true) i h)
looked_by test false e n a o p h f k = f k

-- what a list has under a name passes a test that all that it has pass
pub looked : {A : Type 0} (test : List ℕ → A → Bool) (es : List (List ℕ × A)) (n : List ℕ) (a : A) → each_name test es ≡ true → lookup es n ≡ Some a → test n a ≡ true
looked test [] n a h e = absurd (cc e)
looked test (x ∷ xs) n a h e =
    looked_by test (bytes_eq x.0 n) x n a (lookup xs n) refl (and_first (test x.0 x.1) (each_name test xs) h) (looked test xs n a (and_second (test x.0 x.1) (each_name test xs) h)) e

unknown_by : {A : Type 0} (o : Option A) (P : A → Type 0) → ((a : A) → o ≡ Some a → P a) → ((a : A) → P a → ⊥) → o ≡ None
unknown_by None P f g = refl
unknown_by (Some a) P f g = absurd (g a (f a refl))

-- a list has nothing under a name that does not pass
pub unknown : {A : Type 0} (test : List ℕ → Bool) (es : List (List ℕ × A)) (n : List ℕ) → each_name (λ m a. test m) es ≡ true → test n ≡ false → lookup es n ≡ None
unknown test es n h e = unknown_by (lookup es n) (λ a. test n ≡ true) (λ a k. looked (λ m a. test m) es n a h k) (λ a k. cc (e, k))

-- whether each text of a list passes a test
abbrev pub each_text : (List ℕ → Bool) → List (List ℕ) → Bool
each_text test [] = true
each_text test (t ∷ ts) = test t && each_text test ts

among_by : (test : List ℕ → Bool) (b : Bool) (w t : List ℕ) (n k : ℕ) (o : Option ℕ) → bytes_eq w t ≡ b → test w ≡ true → (o ≡ Some k → test t ≡ true) → cond b (Some n) o ≡ Some k → test t ≡ true
among_by test true w t n k o p h f e = subst (λ x. test x ≡ true) (same_name w t p) h
among_by test false w t n k o p h f e = f e

-- a text among others passes a test that all of them pass
pub among : (test : List ℕ → Bool) (n : ℕ) (ws : List (List ℕ)) (t : List ℕ) (k : ℕ) → each_text test ws ≡ true → place_among n ws t ≡ Some k → test t ≡ true
among test n [] t k h e = absurd (cc e)
among test n (w ∷ ws) t k h e =
    among_by test (bytes_eq w t) w t n k (place_among (suc n) ws t) refl (and_first (test w) (each_text test ws) h) (among test (suc n) ws t k (and_second (test w) (each_text test ws) h)) e
