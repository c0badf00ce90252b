-- The lines of frames of bytes, with their numbers in the ranges of the grammar.
use Rattle.std.proofs.Common.{◌≡◌, ℕ, zero, suc, ◌+◌, ◌-◌, ◌<◌, ◌≤◌, Bool, true, false, cond, List, [], ◌∷◌, ◌++◌, length, take, drop, Option, Some, None, Result, Ok, Err, refl, arith, length-drop, length-take}
use Rattle.std.specs.Prelude.{◌==◌, ◌&&◌, nat_le, IfOk, IfSome}
use Rattle.std.specs.List.{AllByRecursion}
use Rattle.mc_words.specs.model_device.specs.Bytes.{num, AreBytes}
use Rattle.mc_words.specs.model_device.proofs.BoolLemmas.{and_first, and_second}
use Rattle.mc_words.specs.model_device.proofs.ListLemmas.{bytes_from}
use Rattle.mc_deck.specs.model_play.specs.DeckGrammar.{DeckLine}
use Rattle.mc_deck.specs.model_play.specs.DeckGrammar as line
use Rattle.mc_reader.specs.Meanings.{budget_order, by_order, by_power, cut_order, fail_order, in_range, meaning, order, order_by, plain_order, power_after, wrong_instruction, wrong_length, wrong_parameters, Meaning, Nothing, PowerOff, PowerOn, WantsAtr}
use Rattle.mc_reader.specs.Lines.{line_in}
use Rattle.mc_reader.proofs.ReadBackLemmas.{IsFrameLine}

-- ---- orders

when_ok : (b : Bool) (r q : Result DeckLine ℕ) → (b ≡ true → IfOk r IsFrameLine) → IfOk q IsFrameLine → IfOk (cond b r q) IsFrameLine
when_ok true r q h k = h refl
when_ok false r q h k = k

ranged : (b : Bool) (l : DeckLine) → (b ≡ true → IsFrameLine l) → IfOk (in_range b l) IsFrameLine
ranged true l h = h refl
ranged false l h = tt

sized : (size p1 p2 : ℕ) (body : List ℕ) (r : Result DeckLine ℕ) → (length body ≡ size → IfOk r IsFrameLine) → IfOk (plain_order size p1 p2 body r) IsFrameLine
sized size p1 p2 body r h =
    when_ok (length body == size) (cond ((p1 == 0) && (p2 == 0)) r (Err wrong_parameters)) (Err wrong_length)
    (λ e. when_ok ((p1 == 0) && (p2 == 0)) r (Err wrong_parameters) (λ _. h (grind (arith, e))) tt) tt

-- the greatest number of four bytes
four : (bs : List ℕ) → AreBytes bs → length bs ≡ 4 → num bs ≤ 4294967295
four [] h e = absurd (cc e)
four (a ∷ []) h e = absurd (cc e)
four (a ∷ b ∷ []) h e = absurd (cc e)
four (a ∷ b ∷ c ∷ []) h e = absurd (cc e)
four (a ∷ b ∷ c ∷ d ∷ []) h e = omega (arith, h.0, h.1.0, h.1.1.0, h.1.1.1.0)
four (a ∷ b ∷ c ∷ d ∷ x ∷ xs) h e = absurd (cc e)

bytes_take : (n : ℕ) (bs : List ℕ) → AreBytes bs → AreBytes (take n bs)
bytes_take zero bs h = tt
bytes_take (suc n) [] h = tt
bytes_take (suc n) (b ∷ bs) h = (h.0, bytes_take n bs h.1)

at_least : (k n : ℕ) → nat_le k n ≡ true → k ≤ n
at_least k n h = grind (arith, h)

cut_ranged : (body : List ℕ) → AreBytes body → length body ≡ 12 → IfOk (cut_order body) IsFrameLine
cut_ranged body bytes e =
    let k = num (take 4 body) in
    let size : length (take 4 body) ≡ 4 = rw (length-take 4 body) (omega (arith, e)) in
    let rest : length (drop 4 body) ≡ 8 = rw (length-drop 4 body) (omega (arith, e)) in
    ranged (nat_le 1 k) (line.Cut k (drop 4 body)) (λ b. (at_least 1 k b, four (take 4 body) (bytes_take 4 body bytes) size, rest, bytes_from body 4 bytes))

fail_ranged : (body : List ℕ) → AreBytes body → length body ≡ 4 → IfOk (fail_order body) IsFrameLine
fail_ranged body bytes e = let k = num body in ranged (nat_le 1 k) (line.Fail k) (λ b. (at_least 1 k b, four body bytes e))

budget_ranged : (body : List ℕ) → IfOk (budget_order body) IsFrameLine
budget_ranged body =
    let n = num body in
    ranged (nat_le 1 n && nat_le n 65536) (line.Budget n)
    (λ b. (at_least 1 n (and_first (nat_le 1 n) (nat_le n 65536) b), at_least n 65536 (and_second (nat_le 1 n) (nat_le n 65536) b)))

order_ranged : (ins p1 p2 : ℕ) (body : List ℕ) → AreBytes body → IfOk (order_by ins p1 p2 body) IsFrameLine
order_ranged ins p1 p2 body bytes =
    when_ok (ins == 0xC0) (plain_order 12 p1 p2 body (cut_order body)) _ (λ _. sized 12 p1 p2 body (cut_order body) (cut_ranged body bytes))
    (when_ok (ins == 0xC1) (plain_order 4 p1 p2 body (fail_order body)) _ (λ _. sized 4 p1 p2 body (fail_order body) (fail_ranged body bytes))
    (when_ok (ins == 0xC2) (plain_order 4 p1 p2 body (budget_order body)) (Err wrong_instruction) (λ _. sized 4 p1 p2 body (budget_order body) (λ _. budget_ranged body)) tt))

order_good : (f : List ℕ) → AreBytes f → IfOk (order f) IsFrameLine
order_good [] bytes = tt
order_good (cla ∷ []) bytes = tt
order_good (cla ∷ ins ∷ []) bytes = tt
order_good (cla ∷ ins ∷ p1 ∷ []) bytes = tt
order_good (cla ∷ ins ∷ p1 ∷ p2 ∷ []) bytes = tt
order_good (cla ∷ ins ∷ p1 ∷ p2 ∷ lc ∷ body) bytes =
    when_ok (length body == lc) (order_by ins p1 p2 body) (Err wrong_length) (λ _. order_ranged ins p1 p2 body bytes.1.1.1.1.1) tt

-- ---- frames

-- the line of a meaning, if it has one, is one that a frame can represent
abbrev pub IsGood : Meaning → Type 0
IsGood m = IfSome (line_in m) IsFrameLine

good_cond : (b : Bool) (m k : Meaning) → IsGood m → IsGood k → IsGood (cond b m k)
good_cond true m k h i = h
good_cond false m k h i = i

good_order : (r : Result DeckLine ℕ) → IfOk r IsFrameLine → IsGood (by_order r)
good_order (Ok l) h = h
good_order (Err status) h = tt

good_power : (powered : Bool) (f : List ℕ) → 0 < length f → AreBytes f → IsGood (by_power powered f)
good_power true f some bytes = (some, bytes)
good_power false f some bytes = tt

-- the meaning of a frame of bytes has no other line
pub good : (powered : Bool) (f : List ℕ) → AreBytes f → IsGood (meaning powered f)
good powered [] bytes = tt
good powered (b ∷ []) bytes =
    good_cond (b == 0) PowerOff _ tt (good_cond (b == 1) PowerOn _ tt (good_cond (b == 2) PowerOn _ tt (good_cond (b == 4) WantsAtr Nothing tt tt)))
good powered (b ∷ c ∷ bs) bytes =
    let f = b ∷ c ∷ bs in
    good_cond (b == 0xFF) (by_order (order f)) (by_power powered f) (good_order (order f) (order_good f bytes)) (good_power powered f (omega arith) bytes)

-- ---- the lines of frames, without their numbers

-- a line that may be missing
abbrev pub one_line : Option DeckLine → List DeckLine
one_line None = []
one_line (Some l) = l ∷ []

-- the lines of frames
abbrev pub bare_lines : Bool → List (List ℕ) → List DeckLine
bare_lines powered [] = []
bare_lines powered (f ∷ fs) = let m = meaning powered f in one_line (line_in m) ++ bare_lines (power_after powered m) fs

-- the lines of frames of bytes
pub bare_good : (powered : Bool) (fs : List (List ℕ)) → AllByRecursion AreBytes fs → AllByRecursion IsFrameLine (bare_lines powered fs)
bare_good powered [] h = tt
bare_good powered (f ∷ fs) h =
    let m = meaning powered f in
    by (line_in m) (good powered f h.0) (bare_good (power_after powered m) fs h.1)
  where
    by : (o : Option DeckLine) → IfSome o IsFrameLine → AllByRecursion IsFrameLine (bare_lines (power_after powered (meaning powered f)) fs) → AllByRecursion IsFrameLine (one_line o ++ bare_lines (power_after powered (meaning powered f)) fs)
    by None g rest = rest
    by (Some l) g rest = (g, rest)
