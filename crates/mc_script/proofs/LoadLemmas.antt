-- A section's pieces, one at a time.
use Rattle.std.proofs.Common.{◌≡◌, ◌≢◌, ℕ, zero, suc, ◌+◌, ◌≤◌, false, ◌==◌, min, List, [], ◌∷◌, ◌++◌, length, take, drop, refl, arith, sym, ap, ◌∙◌, ◌⊎◌, inl, inr, length-drop, length-take-le}
use Rattle.std.proofs.lemmas.Bool.Decides.{nat_tests, leb_tells}
use Rattle.std.proofs.lemmas.List.{take_all}
use Rattle.std.proofs.Math.ListN.{drop_of_length-le}
use Rattle.std.proofs.Math.Seq.{drop-length}
use Rattle.model_play.specs.model_device.specs.Bytes.{bytes2}
use Rattle.model_play.specs.Play.{piece_commands}

-- no command is sent for an empty section
pub pieces_none : (n ins at : ℕ) → piece_commands n ins at [] ≡ []
pieces_none zero ins at = refl
pieces_none (suc n) ins at = refl

-- a list with a first byte is not empty
some_bytes : (x : ℕ) (b : List ℕ) → (length (x ∷ b) == 0) ≡ false
some_bytes x b = grind (arith, nat_tests)

-- the first piece of some bytes
piece_first : (n ins at x : ℕ) (b : List ℕ) → piece_commands (suc n) ins at (x ∷ b) ≡ (0xBE ∷ ins ∷ (bytes2 at ++ length (take 248 (x ∷ b)) ∷ take 248 (x ∷ b))) ∷ piece_commands n ins (at + 248) (drop 248 (x ∷ b))
piece_first n ins at x b = grind (arith, some_bytes)

-- more fuel makes no more commands
pub pieces_fuel : (n m ins at : ℕ) (b : List ℕ) → length b ≤ n → length b ≤ m → piece_commands n ins at b ≡ piece_commands m ins at b
pieces_fuel n m ins at [] hn hm = pieces_none n ins at ∙ sym (pieces_none m ins at)
pieces_fuel zero m ins at (x ∷ b) hn hm = absurd (omega (arith, hn))
pieces_fuel (suc n) zero ins at (x ∷ b) hn hm = absurd (omega (arith, hm))
pieces_fuel (suc n) (suc m) ins at (x ∷ b) hn hm =
    let left : length (drop 248 (x ∷ b)) ≤ length b = simp length-drop (omega arith) in
    piece_first n ins at x b
    ∙ ap (λ (cs : List (List ℕ)). (0xBE ∷ ins ∷ (bytes2 at ++ length (take 248 (x ∷ b)) ∷ take 248 (x ∷ b))) ∷ cs) (pieces_fuel n m ins (at + 248) (drop 248 (x ∷ b)) (omega (arith, left, hn)) (omega (arith, left, hm)))
    ∙ sym (piece_first m ins at x b)

-- one piece of a section, and the pieces after it, by its size
piece_by : (ins at m : ℕ) (b p q : List ℕ) → length b ≢ 0 → (248 ≤ length b) ⊎ (length b ≤ 248) → m ≡ min (length b) 248 → p ≡ take m b → q ≡ drop m b
    → piece_commands (length b) ins at b ≡ (0xBE ∷ ins ∷ (bytes2 at ++ length p ∷ p)) ∷ piece_commands (length q) ins (at + length p) q
piece_by ins at m [] p q some h size front back = absurd (some refl)
piece_by ins at m (x ∷ xs) p q some (inl long) size front back =
    let b = x ∷ xs in
    let is : m ≡ 248 = omega (arith, size, long) in
    let whole : p ≡ take 248 b = front ∙ ap (λ k. take k b) is in
    let rest : q ≡ drop 248 b = back ∙ ap (λ k. drop k b) is in
    let len : length (take 248 b) ≡ 248 = length-take-le 248 b long in
    let less : length (drop 248 b) ≤ length xs = simp length-drop (omega arith) in
    let more : piece_commands (length xs) ins (at + 248) (drop 248 b) ≡ piece_commands (length (drop 248 b)) ins (at + length (take 248 b)) (drop 248 b) = grind (arith, pieces_fuel) in
    rw (whole, rest) (piece_first (length xs) ins at x xs ∙ ap (λ (cs : List (List ℕ)). (0xBE ∷ ins ∷ (bytes2 at ++ length (take 248 b) ∷ take 248 b)) ∷ cs) more)
piece_by ins at m (x ∷ xs) p q some (inr short) size front back =
    let b = x ∷ xs in
    let is : m ≡ length b = omega (arith, size, short) in
    let whole : p ≡ b = front ∙ ap (λ k. take k b) is ∙ take_all (length b) b (omega arith) in
    let all : take 248 b ≡ b = take_all 248 b short in
    let gone : drop 248 b ≡ [] = drop_of_length-le b short in
    let rest : q ≡ [] = back ∙ ap (λ k. drop k b) is ∙ drop-length b in
    let head : (0xBE ∷ ins ∷ (bytes2 at ++ length (take 248 b) ∷ take 248 b)) ≡ (0xBE ∷ ins ∷ (bytes2 at ++ length b ∷ b)) = ap (λ (c : List ℕ). 0xBE ∷ ins ∷ (bytes2 at ++ length c ∷ c)) all in
    let more : piece_commands (length xs) ins (at + 248) (drop 248 b) ≡ [] = ap (λ (c : List ℕ). piece_commands (length xs) ins (at + 248) c) gone ∙ pieces_none (length xs) ins (at + 248) in
    rw (whole, rest) (piece_first (length xs) ins at x xs ∙ ap (λ (c : List ℕ). c ∷ piece_commands (length xs) ins (at + 248) (drop 248 b)) head ∙ ap (λ (cs : List (List ℕ)). (0xBE ∷ ins ∷ (bytes2 at ++ length b ∷ b)) ∷ cs) more)

-- one piece of a section, and the pieces after it
pub pieces_next : (ins at m : ℕ) (b p q command : List ℕ) → length b ≢ 0 → m ≡ min (length b) 248 → p ≡ take m b → q ≡ drop m b → command ≡ 0xBE ∷ ins ∷ (bytes2 at ++ length p ∷ p)
    → piece_commands (length b) ins at b ≡ command ∷ piece_commands (length q) ins (at + length p) q
pieces_next ins at m b p q command some size front back is = grind (arith, leb_tells, piece_by)
