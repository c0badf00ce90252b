-- Scenes with values: registers stay, and the top two bytes of the stack are those of a choice.
use Rattle.std.proofs.Common.{◌≡◌, ◌⊎◌, inl, inr, ℕ, suc, ◌+◌, ◌-◌, ◌*◌, ◌/◌, ◌%◌, ◌<◌, ◌≤◌, Bool, true, false, cond, List, [], ◌∷◌, ◌++◌, length, take, drop, Option, Some, None, refl, sym, ap, ◌∙◌, arith}
use Rattle.std.specs.Prelude.{◌&&◌, ◌==◌, not, is_none, nat_lt, nat_le, filter, map, slice_index}
use Rattle.std.proofs.lemmas.Bool.{or_cases, eqb-true, le-leb, lt-ltb, ltb-true, ltb-false, and_from}
use Rattle.law_prove.specs.model_device.specs.Bytes.{num, splice}
use Rattle.law_prove.specs.model_device.proofs.ListLemmas.{length_splice}
use Rattle.law_prove.specs.model_machine.specs.Frame.{Frame, Place, Static, Dynamic, Public, is_outside, dynamic_base, public_base, public_end, top}
use Rattle.law_prove.specs.model_prove.specs.Sets.{Set, is_in, numbers_from}
use Rattle.law_prove.specs.model_prove.specs.Facts.{Facts, values_at}
use Rattle.law_prove.specs.model_prove.specs.Laws.{Among}
use Rattle.law_prove.specs.model_prove.specs.Splits.{Scene, Choice, with_byte, with_values}
use Rattle.law_prove.specs.model_prove.specs.Reach.{greatest_value, address_choice, target_choices}
use Rattle.law_prove.specs.model_prove.proofs.SetLemmas.{is_kept, is_between}
use Rattle.law_prove.proofs.Parts.{not_lt}
use Rattle.law_prove.proofs.Windows.{taken_is, index_within, index_before}
use Rattle.law_prove.proofs.Blocks.{among_left, among_right}

-- ---- registers

-- two frames agree in what decides a target's causes
pub record SameRegisters (e f : Frame) : Type 0 where
  pub dt : e.dt ≡ f.dt
  pub session : e.session ≡ f.session
  pub code : e.code_len ≡ f.code_len

byte_same : (x y : Bool) (z : Scene) (a v : ℕ)
    → SameRegisters (cond {A = Scene} x (record z { frame = record z.frame { fixed = splice z.frame.fixed a (v ∷ []) } }) (cond y (record z { frame = record z.frame { dyn = splice z.frame.dyn (a - dynamic_base) (v ∷ []) } }) (record z { public = splice z.public (a - public_base) (v ∷ []) }))).frame z.frame
byte_same true y z a v = record { dt = refl; session = refl; code = refl }
byte_same false true z a v = record { dt = refl; session = refl; code = refl }
byte_same false false z a v = record { dt = refl; session = refl; code = refl }

-- values in a scene leave its registers
pub values_same : (c : Choice) (z : Scene) → SameRegisters (with_values z c).frame z.frame
values_same [] z = record { dt = refl; session = refl; code = refl }
values_same (e ∷ es) z =
    let one : SameRegisters (with_byte z e).frame z.frame = byte_same (nat_lt e.0 (length z.frame.fixed)) (nat_lt e.0 public_base) z e.0 e.1 in
    let more : SameRegisters (with_values (with_byte z e) es).frame (with_byte z e).frame = values_same es (with_byte z e) in
    record { dt = more.dt ∙ one.dt; session = more.session ∙ one.session; code = more.code ∙ one.code }

-- ---- the top two bytes

-- a byte of the stack
stack_byte : (z : Scene) (a v : ℕ) → length z.frame.fixed ≤ dynamic_base → dynamic_base ≤ a → a < public_base → with_byte z (a, v) ≡ record z { frame = record z.frame { dyn = splice z.frame.dyn (a - dynamic_base) (v ∷ []) } }
stack_byte z a v small low high =
    let one : Scene = record z { frame = record z.frame { fixed = splice z.frame.fixed a (v ∷ []) } } in
    let two : Scene = record z { frame = record z.frame { dyn = splice z.frame.dyn (a - dynamic_base) (v ∷ []) } } in
    let three : Scene = record z { public = splice z.public (a - public_base) (v ∷ []) } in
    ap (λ (b : Bool). cond {A = Scene} b one (cond {A = Scene} (nat_lt a public_base) two three)) (not_lt a (length z.frame.fixed) (omega (arith, small, low)))
    ∙ ap (λ (b : Bool). cond {A = Scene} b two three) (lt-ltb a public_base high)

-- both bytes, from the place a on
abbrev pub two_values : Scene → ℕ → ℕ → ℕ → Scene
two_values z a x y = record z { frame = record z.frame { dyn = splice (splice z.frame.dyn (a - dynamic_base) (x ∷ [])) (suc a - dynamic_base) (y ∷ []) } }

-- a scene with two values on top of the stack is one whose dynamic bytes are spliced
pub two_bytes : (z : Scene) (a x y : ℕ) → length z.frame.fixed ≤ dynamic_base → dynamic_base ≤ a → suc a < public_base → with_values z ((a, x) ∷ (suc a, y) ∷ []) ≡ two_values z a x y
two_bytes z a x y small low high =
    let one : Scene = record z { frame = record z.frame { dyn = splice z.frame.dyn (a - dynamic_base) (x ∷ []) } } in
    ap (λ (w : Scene). with_byte w (suc a, y)) (stack_byte z a x small low (omega (arith, high))) ∙ stack_byte one (suc a) y small (omega (arith, low)) high

pair_number : (x y : ℕ) → num (x ∷ y ∷ []) ≡ x * 256 + y
pair_number x y = omega arith

-- the number in two bytes of a list
number_at : (l : List ℕ) (j : ℕ) → j + 2 ≤ length l → num (take 2 (drop j l)) ≡ slice_index l j * 256 + slice_index l (suc j)
number_at l j fits = ap num (taken_is l j 2 fits) ∙ pair_number (slice_index l j) (slice_index l (suc j))

-- the number on top of the stack
pub top_number : (f : Frame) → dynamic_base + 2 ≤ f.dt → f.dt ≤ dynamic_base + length f.dyn → num (top f 2) ≡ slice_index f.dyn (f.dt - 2 - dynamic_base) * 256 + slice_index f.dyn (suc (f.dt - 2 - dynamic_base))
top_number f low high = number_at f.dyn (f.dt - 2 - dynamic_base) (omega (arith, low, high))

spliced_two : (l : List ℕ) (j x y : ℕ) → j + 2 ≤ length l → num (take 2 (drop j (splice (splice l j (x ∷ [])) (suc j) (y ∷ [])))) ≡ x * 256 + y
spliced_two l j x y fits =
    let m : List ℕ = splice l j (x ∷ []) in
    let n : List ℕ = splice m (suc j) (y ∷ []) in
    let size : length m ≡ length l = length_splice l j (x ∷ []) (omega (arith, fits)) in
    let whole : length n ≡ length m = length_splice m (suc j) (y ∷ []) (omega (arith, fits, size)) in
    let here : j + 0 ≡ j = omega arith in
    let after : suc j + 0 ≡ suc j = omega arith in
    let first : slice_index n j ≡ x = index_before m (suc j) (y ∷ []) j (omega (arith, fits, size)) (omega arith) ∙ (ap (λ (k : ℕ). slice_index m k) (sym here) ∙ index_within l j (x ∷ []) 0 (omega (arith, fits)) (omega arith)) in
    let second : slice_index n (suc j) ≡ y = ap (λ (k : ℕ). slice_index n k) (sym after) ∙ index_within m (suc j) (y ∷ []) 0 (omega (arith, fits, size)) (omega arith) in
    number_at n j (omega (arith, fits, size, whole)) ∙ (ap (λ (v : ℕ). v * 256 + slice_index n (suc j)) first ∙ ap (λ (v : ℕ). x * 256 + v) second)

-- the number on top of a scene with two values
pub scene_number : (z : Scene) (a x y : ℕ) → a ≡ z.frame.dt - 2 → dynamic_base + 2 ≤ z.frame.dt → z.frame.dt ≤ dynamic_base + length z.frame.dyn → num (top (two_values z a x y).frame 2) ≡ x * 256 + y
scene_number z a x y is low high =
    let j = a - dynamic_base in
    let next : suc a - dynamic_base ≡ suc j = omega (arith, is, low) in
    let place : z.frame.dt - 2 - dynamic_base ≡ j = omega (arith, is) in
    ap (λ (k : ℕ). num (take 2 (drop k (splice (splice z.frame.dyn j (x ∷ [])) (suc a - dynamic_base) (y ∷ []))))) place
    ∙ (ap (λ (k : ℕ). num (take 2 (drop j (splice (splice z.frame.dyn j (x ∷ [])) k (y ∷ []))))) next ∙ spliced_two z.frame.dyn j x y (omega (arith, is, low, high)))

-- ---- bytes inside

place_by : (x y : Bool) (p q : Place) (rest : Option Place) → y ≡ true → is_none (cond x (Some p) (cond y (Some q) rest)) ≡ false
place_by true y p q rest e = refl
place_by false true p q rest e = refl
place_by false false p q rest e = absurd (cc e)

-- a byte of the stack below DT is inside
pub stack_inside : (f : Frame) (a : ℕ) → dynamic_base ≤ a → a < f.dt → is_outside f a 1 ≡ false
stack_inside f a low high =
    place_by (nat_le (a + 1) (length f.fixed)) (nat_le dynamic_base a && nat_le (a + 1) f.dt) (Static a) (Dynamic (a - dynamic_base))
    (cond (nat_le public_base a && nat_le (a + 1) public_end) (Some (Public (a - public_base))) None)
    (and_from (nat_le dynamic_base a) (nat_le (a + 1) f.dt) (le-leb dynamic_base a low) (le-leb (a + 1) f.dt (omega (arith, high))))

-- so both of the top two are
kept_two : (x y : Bool) (a b : ℕ) → x ≡ false → y ≡ false → cond (not x) (a ∷ cond (not y) (b ∷ []) []) (cond (not y) (b ∷ []) []) ≡ a ∷ b ∷ []
kept_two false false a b e f = refl
kept_two true y a b e f = absurd (cc e)
kept_two false true a b e f = absurd (cc f)

-- the top two bytes of the stack are inside the segments
pub both_inside : (f : Frame) (a : ℕ) → dynamic_base ≤ a → suc a < f.dt → filter (λ b. not (is_outside f b 1)) (a ∷ suc a ∷ []) ≡ a ∷ suc a ∷ []
both_inside f a low high = kept_two (is_outside f a 1) (is_outside f (suc a) 1) a (suc a) (stack_inside f a low (omega (arith, high))) (stack_inside f (suc a) (omega (arith, low)) high)

-- ---- targets

greatest_by : (b : Bool) (v w rest : ℕ) → nat_lt rest w ≡ b → (w ≡ v) ⊎ (v ≤ rest) → v ≤ cond b w rest
greatest_by true v w rest e h =
    let more = ltb-true rest w e in
    elim h [
      | inl is ↦ omega (arith, is)
      | inr low ↦ omega (arith, low, more)
    ]
greatest_by false v w rest e h =
    let less = ltb-false rest w e in
    elim h [
      | inl is ↦ omega (arith, is, less)
      | inr low ↦ low
    ]

-- no value of a set is greater than the greatest one
pub at_most : (v : ℕ) (s : Set) → is_in v s ≡ true → v ≤ greatest_value s
at_most v [] h = absurd (cc h)
at_most v (w ∷ s) h =
    greatest_by (nat_lt (greatest_value s) w) v w (greatest_value s) refl (elim (or_cases (w == v) (is_in v s) h) [
      | inl e ↦ inl (eqb-true w v e)
      | inr more ↦ inr (at_most v s more)
    ])

among_map : (a v : ℕ) (vs : List ℕ) → is_in v vs ≡ true → Among (address_choice a v) (map (address_choice a) vs)
among_map a v [] h = absurd (cc h)
among_map a v (w ∷ vs) h =
    elim (or_cases (w == v) (is_in v vs) h) [
      | inl e ↦ inl (ap (address_choice a) (eqb-true w v e))
      | inr more ↦ inr (among_map a v vs more)
    ]

-- the address of two bytes, if it is a place of the code, is one that is followed
pub target_inside : (f : Facts) (a limit x y : ℕ) → x < 256 → y < 256 → is_in x (values_at f a) ≡ true → is_in y (values_at f (suc a)) ≡ true → x * 256 + y < limit → Among ((a, x) ∷ (suc a, y) ∷ []) (target_choices f a limit)
target_inside f a limit x y small below first second less =
    let v = x * 256 + y in
    let high : v / 256 ≡ x = omega (arith, small, below) in
    let low : v % 256 ≡ y = omega (arith, small, below) in
    let test : ℕ → Bool = λ v. is_in (v / 256) (values_at f a) && is_in (v % 256) (values_at f (suc a)) in
    let passes : test v ≡ true = and_from (is_in (v / 256) (values_at f a)) (is_in (v % 256) (values_at f (suc a))) (rw high first) (rw low second) in
    let there : is_in v (filter test (numbers_from 0 limit)) ≡ true = is_kept test v (numbers_from 0 limit) (is_between v 0 limit (omega arith) (omega (arith, less))) passes in
    let is : address_choice a v ≡ (a, x) ∷ (suc a, y) ∷ [] = ap (λ (z : ℕ). (a, z) ∷ (suc a, v % 256) ∷ []) high ∙ ap (λ (z : ℕ). (a, x) ∷ (suc a, z) ∷ []) low in
    let most = greatest_value (values_at f a) * 256 + greatest_value (values_at f (suc a)) in
    rw (← is)
    (among_left (address_choice a v) (map (address_choice a) (filter test (numbers_from 0 limit))) (cond (nat_le limit most) (address_choice a most ∷ []) []) (among_map a v (filter test (numbers_from 0 limit)) there))

-- if it is none, one that is not in the code is followed
pub target_outside : (f : Facts) (a limit x y : ℕ) → is_in x (values_at f a) ≡ true → is_in y (values_at f (suc a)) ≡ true → limit ≤ x * 256 + y
    → let most = greatest_value (values_at f a) * 256 + greatest_value (values_at f (suc a)) in (limit ≤ most) × Among (address_choice a most) (target_choices f a limit)
target_outside f a limit x y first second more =
    let high = at_most x (values_at f a) first in
    let low = at_most y (values_at f (suc a)) second in
    let most = greatest_value (values_at f a) * 256 + greatest_value (values_at f (suc a)) in
    let reach : limit ≤ most = omega (arith, high, low, more) in
    let e : nat_le limit most ≡ true = le-leb limit most reach in
    let front = map (address_choice a) (filter (λ v. is_in (v / 256) (values_at f a) && is_in (v % 256) (values_at f (suc a))) (numbers_from 0 limit)) in
    (reach, rw e (among_right (address_choice a most) front (address_choice a most ∷ []) (inl refl)))
