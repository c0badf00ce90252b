-- The open calls of a frame: they depend on the bytes below LB alone, and they are calls of the code. And lists that
-- have bytes spliced in.
use Rattle.std.proofs.Common.{◌≡◌, ℕ, ◌+◌, ◌≤◌, ◌<◌, true, List, ◌++◌, length, take, drop, Some, refl, sym, ap, ◌∙◌, arith}
use Rattle.std.proofs.lemmas.List.{length-take-le, take-take, drop-take, drop-drop, take_at, drop_at, append_assoc}
use Rattle.law_family.specs.model_machine.specs.declared.instruction.Ins.{Ins}
use Rattle.law_family.specs.model_machine.specs.declared.instruction.Ins.TheVariants as ins
use Rattle.law_family.specs.model_device.specs.Bytes.{bytes2, num, splice}
use Rattle.law_family.specs.model_machine.specs.Frame.{Frame}
use Rattle.model_stack.specs.StackRows.{call_target, is_call}
use Rattle.model_stack.specs.StackShape.{Routine, fact, Reached, Depth, main, called}
use Rattle.mc_check.proofs.FactLooks.{fine}
use Rattle.mc_check.specs.Standing.{StandsAt, OpenCalls, none, call, calls_of}

-- ---- lists

-- two bytes below a bound are those of the bytes below it
two_of : (k b : ℕ) (xs : List ℕ) → k + 2 ≤ b → take 2 (drop k xs) ≡ drop k (take (k + 2) (take b xs))
two_of k b xs fits = sym (drop-take k 2 xs) ∙ ap (λ (l : List ℕ). drop k l) (sym (take-take (k + 2) b xs fits))

same_two : (k b : ℕ) (xs ys : List ℕ) → k + 2 ≤ b → take b xs ≡ take b ys → take 2 (drop k xs) ≡ take 2 (drop k ys)
same_two k b xs ys fits same = two_of k b xs fits ∙ ap (λ (l : List ℕ). drop k (take (k + 2) l)) same ∙ sym (two_of k b ys fits)

-- lists that agree in b bytes agree in fewer
same_fewer : (a b : ℕ) (xs ys : List ℕ) → a ≤ b → take b xs ≡ take b ys → take a xs ≡ take a ys
same_fewer a b xs ys fewer same = sym (take-take a b xs fewer) ∙ ap (λ (l : List ℕ). take a l) same ∙ take-take a b ys fewer

-- the bytes that were spliced in are at their place
spliced_at : (l : List ℕ) (at : ℕ) (c : List ℕ) → at ≤ length l → drop at (splice l at c) ≡ c ++ drop (at + length c) l
spliced_at l at c fits = grind (arith, append_assoc, drop_at, length-take-le)

-- b bytes from s on, all below the place
pub spliced_above : (s b : ℕ) (l : List ℕ) (at : ℕ) (c : List ℕ) → s + b ≤ at → at ≤ length l → take b (drop s (splice l at c)) ≡ take b (drop s l)
spliced_above s b l at c below fits =
    let rest = drop (at + length c) l in
    let front : take at (splice l at c) ≡ take at l = ap (λ (m : List ℕ). take at m) (append_assoc (take at l) c rest) ∙ take_at (take at l) (c ++ rest) at (length-take-le at l fits) in
    sym (drop-take s b (splice l at c)) ∙ ap (λ (m : List ℕ). drop s m) (same_fewer (s + b) at (splice l at c) l below front) ∙ drop-take s b l

-- two numbers of two bytes, spliced in k bytes after s
pub spliced_words : (s k : ℕ) (l : List ℕ) (at x y : ℕ) → at ≡ s + k → at ≤ length l
    → (take 2 (drop k (drop s (splice l at (bytes2 x ++ bytes2 y)))) ≡ bytes2 x) × (take 2 (drop (k + 2) (drop s (splice l at (bytes2 x ++ bytes2 y)))) ≡ bytes2 y)
spliced_words s k l at x y is fits =
    let four : List ℕ = bytes2 x ++ bytes2 y in
    let from : drop k (drop s (splice l at four)) ≡ four ++ drop (at + length four) l =
    drop-drop k s (splice l at four) ∙ ap (λ (n : ℕ). drop n (splice l at four)) (sym is) ∙ spliced_at l at four fits in (
      ap (λ (m : List ℕ). take 2 m) from,
      ap (λ (m : List ℕ). take 2 m) (sym (drop-drop 2 k (drop s (splice l at four)))) ∙ ap (λ (m : List ℕ). take 2 (drop 2 m)) from,
    )

-- the two bytes of a number
pub num_bytes2 : (n : ℕ) → n < 65536 → num (bytes2 n) ≡ n
num_bytes2 n small = omega arith

-- ---- open calls

-- the open calls depend on the bytes below LB alone
pub open_front : {code : List ℕ} {session : ℕ} {xs : List ℕ} (ys : List ℕ) {r : Routine} {b : ℕ} → OpenCalls code session xs r b → take b xs ≡ take b ys → OpenCalls code session ys r b
open_front ys none same = none
open_front {xs = xs} ys (call {p = p} {h = h} {b = b} i next opened reached gives target lb at) same =
    let below = same_fewer b (b + h + 4) xs ys (omega arith) same in
    call i next (open_front ys opened below) reached gives target
    (sym (same_two (b + h) (b + h + 4) xs ys (omega arith) same) ∙ lb)
    (sym (same_two (b + h + 2) (b + h + 4) xs ys (omega arith) same) ∙ at)

-- LB lies as far above the floor as some calls of the code bring it
pub open_depth : {code : List ℕ} {session : ℕ} {bytes : List ℕ} {r : Routine} {b : ℕ} → OpenCalls code session bytes r b → Depth code r b
open_depth none = main
open_depth {code = code} (call {r = r} {p = p} {h = h} i next opened reached gives target lb at) =
    called (open_depth opened) (record { place = p; reached = reached; call = i; stands = (next, (fine code (fact r p h) i next gives.stands).there); target = target })

pub target_of_call : (i : Ins) (q : ℕ) → call_target i ≡ Some q → is_call i ≡ true
target_of_call (ins.Call k to) q e = refl
target_of_call i q e = absurd (cc e)

-- ---- frames at facts

-- a frame at a fact of its code, with the open calls of its routine
pub record IsAtFact (code : List ℕ) (session : ℕ) (r : Routine) (base height : ℕ) (f : Frame) : Type 0 where
  pub stands : StandsAt (length code) session base height f
  pub opened : OpenCalls code session (drop session f.dyn) r base
  pub reached : Reached code (fact r f.at height)

-- a frame at some fact
pub record IsStanding (code : List ℕ) (session : ℕ) (f : Frame) : Type 0 where
  pub routine : Routine
  pub base : ℕ
  pub height : ℕ
  pub here : IsAtFact code session routine base height f

-- the bytes below LB are those of the base
pub calls_below : (len session base height : ℕ) (f : Frame) → StandsAt len session base height f → calls_of f ≡ take base (drop session f.dyn)
calls_below len session base height f s = grind arith
