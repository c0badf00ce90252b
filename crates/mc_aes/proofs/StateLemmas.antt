-- Words and their bytes: sums, and the bytes of a word.
use Rattle.std.proofs.Common.{◌≡◌, ℕ, ◌*◌, ◌/◌, ◌%◌, ◌^◌, ◌<◌, List, [], ◌∷◌, ◌++◌, length, get_or, refl, sym, ap, ◌∙◌, arith}
use Rattle.std.specs.Int.{w32, from_be_bytes, to_be_bytes}
use Rattle.std.specs.Int.Bits.{bit_xor, xor_zero_r}
use Rattle.std.proofs.lemmas.Nat.{xor_mod}
use Rattle.model_machine.proofs.ModesLemmas.{listed_from, listed}
use Rattle.model_machine.specs.Modes.{bit_sum}
use Rattle.model_machine.specs.Aes.{mul, times_matrix}
use Rattle.mc_aes.specs.State.{word, state_bytes}
use Rattle.mc_aes.specs.declared.state.State.{State}
use Rattle.model_machine.specs.model_device.proofs.ListLemmas.{byte_xor}

pub word_xor : (a b : ℕ) → word (bit_xor a b) ≡ bit_sum (word a) (word b)
unfolding word
word_xor a b = rw (byte_xor a b 24, byte_xor a b 16, byte_xor a b 8, xor_mod a b 8) refl

-- ---- states

word_parts : (w a b c d : ℕ) → w / 2 ^ 24 % 256 ≡ a → w / 2 ^ 16 % 256 ≡ b → w / 2 ^ 8 % 256 ≡ c → w % 256 ≡ d → word w ≡ a ∷ b ∷ c ∷ d ∷ []
unfolding word
word_parts w a b c d ea eb ec ed = rw (ea, eb, ec, ed) refl

-- the bytes of the word of four bytes
pub word_from : (w a b c d : ℕ) → a < 256 → b < 256 → c < 256 → d < 256 → w ≡ from_be_bytes w32 (a ∷ b ∷ c ∷ d ∷ []) → word w ≡ a ∷ b ∷ c ∷ d ∷ []
word_from w a b c d ha hb hc hd e = word_parts w a b c d (omega arith) (omega arith) (omega arith) (omega arith)

-- the bytes of the sum of a word of known bytes and a word
pub word_xor_of : (a k : ℕ) (xs : List ℕ) → word a ≡ xs → word (bit_xor a k) ≡ bit_sum xs (word k)
word_xor_of a k xs e = word_xor a k ∙ ap (λ (l : List ℕ). bit_sum l (word k)) e

-- the bytes of a sum of four columns and a word
columns_sum : (a b c d k : ℕ) (xa xb xc xd : List ℕ) → word a ≡ xa → word b ≡ xb → word c ≡ xc → word d ≡ xd
    → word (bit_xor (bit_xor (bit_xor (bit_xor a b) c) d) k) ≡ bit_sum (bit_sum (bit_sum (bit_sum xa xb) xc) xd) (word k)
columns_sum a b c d k xa xb xc xd ea eb ec ed = rw (word_xor, word_xor, word_xor, word_xor, ea, eb, ec, ed) refl

columns_sum_alone : (a b c d : ℕ) (xa xb xc xd : List ℕ) → word a ≡ xa → word b ≡ xb → word c ≡ xc → word d ≡ xd
    → word (bit_xor (bit_xor (bit_xor a b) c) d) ≡ bit_sum (bit_sum (bit_sum xa xb) xc) xd
columns_sum_alone a b c d xa xb xc xd ea eb ec ed = rw (word_xor, word_xor, word_xor, ea, eb, ec, ed) refl

-- the bytes of the word of four bytes that are joined by shifts
pub joined_is : (a b c d : ℕ) → a < 256 → b < 256 → c < 256 → d < 256
    → word (bit_xor (bit_xor (bit_xor (a * 2 ^ 24 % 2 ^ 32) (b * 2 ^ 16 % 2 ^ 32)) (c * 2 ^ 8 % 2 ^ 32)) d) ≡ a ∷ b ∷ c ∷ d ∷ []
joined_is a b c d ha hb hc hd =
    columns_sum_alone (a * 2 ^ 24 % 2 ^ 32) (b * 2 ^ 16 % 2 ^ 32) (c * 2 ^ 8 % 2 ^ 32) d (a ∷ 0 ∷ 0 ∷ 0 ∷ []) (0 ∷ b ∷ 0 ∷ 0 ∷ []) (0 ∷ 0 ∷ c ∷ 0 ∷ []) (0 ∷ 0 ∷ 0 ∷ d ∷ [])
    (word_parts _ _ _ _ _ (omega arith) (omega arith) (omega arith) (omega arith))
    (word_parts _ _ _ _ _ (omega arith) (omega arith) (omega arith) (omega arith))
    (word_parts _ _ _ _ _ (omega arith) (omega arith) (omega arith) (omega arith))
    (word_parts _ _ _ _ _ (omega arith) (omega arith) (omega arith) (omega arith))
    ∙ simp (xor_zero_r)

-- the product of a matrix and a column, plus a word, as the sum of the tables' columns of its four bytes
pub matrix_column : (p q r s : ℕ) (x0 x1 x2 x3 y0 y1 y2 y3 : ℕ) (a b c d k : ℕ)
    → word a ≡ mul p x0 ∷ mul s x0 ∷ mul r x0 ∷ mul q x0 ∷ []
    → word b ≡ mul q x1 ∷ mul p x1 ∷ mul s x1 ∷ mul r x1 ∷ []
    → word c ≡ mul r x2 ∷ mul q x2 ∷ mul p x2 ∷ mul s x2 ∷ []
    → word d ≡ mul s x3 ∷ mul r x3 ∷ mul q x3 ∷ mul p x3 ∷ []
    → x0 ≡ y0 → x1 ≡ y1 → x2 ≡ y2 → x3 ≡ y3
    → word (bit_xor (bit_xor (bit_xor (bit_xor a b) c) d) k) ≡ bit_sum (times_matrix p q r s (y0 ∷ y1 ∷ y2 ∷ y3 ∷ [])) (word k)
matrix_column p q r s x0 x1 x2 x3 y0 y1 y2 y3 a b c d k ea eb ec ed e0 e1 e2 e3 =
    rw (← e0, ← e1, ← e2, ← e3) (columns_sum a b c d k _ _ _ _ ea eb ec ed)

-- the product of a matrix and a column, as the sum of the tables' columns of its four bytes
pub matrix_column_alone : (p q r s : ℕ) (x0 x1 x2 x3 y0 y1 y2 y3 : ℕ) (a b c d : ℕ)
    → word a ≡ mul p x0 ∷ mul s x0 ∷ mul r x0 ∷ mul q x0 ∷ []
    → word b ≡ mul q x1 ∷ mul p x1 ∷ mul s x1 ∷ mul r x1 ∷ []
    → word c ≡ mul r x2 ∷ mul q x2 ∷ mul p x2 ∷ mul s x2 ∷ []
    → word d ≡ mul s x3 ∷ mul r x3 ∷ mul q x3 ∷ mul p x3 ∷ []
    → x0 ≡ y0 → x1 ≡ y1 → x2 ≡ y2 → x3 ≡ y3
    → word (bit_xor (bit_xor (bit_xor a b) c) d) ≡ times_matrix p q r s (y0 ∷ y1 ∷ y2 ∷ y3 ∷ [])
matrix_column_alone p q r s x0 x1 x2 x3 y0 y1 y2 y3 a b c d ea eb ec ed e0 e1 e2 e3 =
    rw (← e0, ← e1, ← e2, ← e3) (columns_sum_alone a b c d _ _ _ _ ea eb ec ed)

-- a list of sixteen entries is the list of its entries
pub sixteen : (l : List ℕ) → length l ≡ 16 → l ≡ get_or l 0 0 ∷ get_or l 1 0 ∷ get_or l 2 0 ∷ get_or l 3 0 ∷ get_or l 4 0 ∷ get_or l 5 0 ∷ get_or l 6 0 ∷ get_or l 7 0
    ∷ get_or l 8 0 ∷ get_or l 9 0 ∷ get_or l 10 0 ∷ get_or l 11 0 ∷ get_or l 12 0 ∷ get_or l 13 0 ∷ get_or l 14 0 ∷ get_or l 15 0 ∷ []
unfolding listed_from
sixteen l h = listed 16 l h

parts_added : (s k : State) → bit_sum (word s.first) (word k.first) ++ bit_sum (word s.second) (word k.second) ++ bit_sum (word s.third) (word k.third) ++ bit_sum (word s.fourth) (word k.fourth)
    ≡ bit_sum (word s.first ++ word s.second ++ word s.third ++ word s.fourth) (word k.first ++ word k.second ++ word k.third ++ word k.fourth)
unfolding word
parts_added s k = refl

-- the sum of two states, word by word, is the sum of their bytes
pub state_added : (s k : State) → state_bytes (record { first = bit_xor s.first k.first; second = bit_xor s.second k.second; third = bit_xor s.third k.third; fourth = bit_xor s.fourth k.fourth })
    ≡ bit_sum (state_bytes s) (state_bytes k)
unfolding state_bytes
state_added s k = rw (word_xor, word_xor, word_xor, word_xor) (parts_added s k)

-- the bytes of a state that was read from a block, and of one that is written
pub loaded : (b : List ℕ) (w0 w1 w2 w3 : ℕ) → length b ≡ 16 → ((k : ℕ) → k < length b → get_or b k 0 < 256)
    → w0 ≡ from_be_bytes w32 (get_or b 0 0 ∷ get_or b 1 0 ∷ get_or b 2 0 ∷ get_or b 3 0 ∷ [])
    → w1 ≡ from_be_bytes w32 (get_or b 4 0 ∷ get_or b 5 0 ∷ get_or b 6 0 ∷ get_or b 7 0 ∷ [])
    → w2 ≡ from_be_bytes w32 (get_or b 8 0 ∷ get_or b 9 0 ∷ get_or b 10 0 ∷ get_or b 11 0 ∷ [])
    → w3 ≡ from_be_bytes w32 (get_or b 12 0 ∷ get_or b 13 0 ∷ get_or b 14 0 ∷ get_or b 15 0 ∷ [])
    → state_bytes (record { first = w0; second = w1; third = w2; fourth = w3 }) ≡ b
unfolding state_bytes
loaded b w0 w1 w2 w3 len low e0 e1 e2 e3 =
    let at : (k : ℕ) → k < 16 → get_or b k 0 < 256 = λ k h. low k (omega arith) in
    rw (
      word_from w0 _ _ _ _ (at 0 (omega arith)) (at 1 (omega arith)) (at 2 (omega arith)) (at 3 (omega arith)) e0,
      word_from w1 _ _ _ _ (at 4 (omega arith)) (at 5 (omega arith)) (at 6 (omega arith)) (at 7 (omega arith)) e1,
      word_from w2 _ _ _ _ (at 8 (omega arith)) (at 9 (omega arith)) (at 10 (omega arith)) (at 11 (omega arith)) e2,
      word_from w3 _ _ _ _ (at 12 (omega arith)) (at 13 (omega arith)) (at 14 (omega arith)) (at 15 (omega arith)) e3,
    )
    (sym (sixteen b len))

pub stored : (s : State) (a b c d : List ℕ) → a ≡ to_be_bytes w32 s.first → b ≡ to_be_bytes w32 s.second → c ≡ to_be_bytes w32 s.third → d ≡ to_be_bytes w32 s.fourth
    → get_or a 0 0 ∷ get_or a 1 0 ∷ get_or a 2 0 ∷ get_or a 3 0 ∷ get_or b 0 0 ∷ get_or b 1 0 ∷ get_or b 2 0 ∷ get_or b 3 0
    ∷ get_or c 0 0 ∷ get_or c 1 0 ∷ get_or c 2 0 ∷ get_or c 3 0 ∷ get_or d 0 0 ∷ get_or d 1 0 ∷ get_or d 2 0 ∷ get_or d 3 0 ∷ [] ≡ state_bytes s
unfolding word state_bytes
stored s a b c d ea eb ec ed = rw (ea, eb, ec, ed) refl
