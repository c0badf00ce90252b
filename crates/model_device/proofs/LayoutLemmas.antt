-- Spans by place, the fault of an image without an open journal, and what such an image means.
use Rattle.std.proofs.Common.{◌≡◌, ℕ, ◌+◌, Bool, true, false, cond, List, [], ◌∷◌, length, Option, Some, None, refl, ap, arith}
use Rattle.std.specs.Prelude.{nat_lt}
use Rattle.model_device.specs.declared.cause.Cause.{Cause}
use Rattle.model_device.specs.Image.{Look, Closed, look, after, image_after_replay}
use Rattle.model_device.specs.Card.{App, words_of_app, card_of, words_after, means}
use Rattle.model_device.specs.Layout.{put_at, spans_of, by_cause, words_fault, fault_of, fault}

-- ---- spans

length_test : {A : Type 0} (b : Bool) (p : ℕ) (x : A) (e : ℕ × A) (es rest : List (ℕ × A)) → length rest ≡ length es + 1 → length (cond b ((p, x) ∷ e ∷ es) (e ∷ rest)) ≡ length es + 2
length_test true p x e es rest h = omega arith
length_test false p x e es rest h = omega (arith, h)

pub length_put : {A : Type 0} (p : ℕ) (x : A) (l : List (ℕ × A)) → length (put_at p x l) ≡ length l + 1
length_put p x [] = refl
length_put p x (e ∷ es) = let h = length_test (nat_lt p e.0) p x e es (put_at p x es) (length_put p x es) in omega (arith, h)

pub length_spans : (es : List (List ℕ × App)) → length (spans_of es) ≡ length es
length_spans [] = refl
length_spans (e ∷ es) = let more = length_put (e.1).place (words_of_app e.1) (spans_of es) in let rest = length_spans es in omega (arith, more, rest)

-- ---- faults

-- a fault that has no place is none
pub cause_none : (c : Cause) (o : Option ℕ) → by_cause c o ≡ None → o ≡ None
cause_none c None h = refl
cause_none c (Some p) h = absurd (cc h)

pub closed_fault : (m : List (List ℕ)) → look m ≡ Closed → fault m ≡ words_fault m
closed_fault m h = ap (λ (l : Look). fault_of l m) h

pub closed_means : (m : List (List ℕ)) → look m ≡ Closed → means m ≡ card_of m
closed_means m h = ap (λ (l : Look). card_of (words_after (image_after_replay m l) m)) h

-- an image without a fault has none once its journal is replayed
pub sound_after : (m : List (List ℕ)) (l : Look) → look m ≡ l → fault_of l m ≡ None → words_fault (words_after (after m) m) ≡ None
sound_after m l e h = grind arith
