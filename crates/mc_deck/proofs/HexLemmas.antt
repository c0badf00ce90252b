-- Hexadecimal digits as the crate `hex` decodes them, and as the definition does.
use Rattle.std.proofs.Common.{◌≡◌, ℕ, ◌+◌, ◌*◌, ◌/◌, ◌%◌, ◌<◌, List, [], ◌∷◌, length, Option, Some, None, Result, Ok, Err, inl, inr, arith, refl, sym, ap, ◌∙◌}
use Rattle.std.specs.Prelude.{option_and_then, MatchResult}
use Rattle.std.proofs.lemmas.Bool.{cases_eq}
use Rattle.hex.specs.Hex
use Rattle.hex.specs.Hex.{decode_of, decode_pairs, decode_sized, digit_or_error, hex_digit_value}
use Rattle.hex.specs.declared.error.FromHexError.{FromHexError}
use Rattle.hex.proofs.HexLemmas.{decode_of-even, decode_of-odd, decode_of-ok, decode_pairs-ok}
use Rattle.model_play.specs.model_text.specs.Text.{hex_value, hex_values, before_values, bytes_of_digits, hex_bytes}
use Rattle.model_play.specs.DeckGrammar.{hex_field}
use Rattle.model_play.specs.declared.deck.DeckCause.TheVariants.{BadHex}

-- the decoded bytes, if the digits were accepted
abbrev read_bytes : Result (List ℕ) FromHexError → Option (List ℕ)
read_bytes (Ok bs) = Some bs
read_bytes (Err e) = None

digit_same : (c : ℕ) → hex_digit_value c ≡ hex_value c
digit_same c = grind arith

-- a byte before others, as the crate reads it
abbrev pair_read : ℕ → ℕ → ℕ → Option ℕ → Option ℕ → Result (List ℕ) FromHexError → Result (List ℕ) FromHexError
pair_read a b i oa ob d = Hex.◌>>=◌ (Hex.◌>>=◌ (digit_or_error a i oa) (λ h. Hex.◌>>=◌ (digit_or_error b (i + 1) ob) (λ l. Ok (h * 16 + l)))) (λ byte. Hex.◌>>=◌ d (λ bytes. Ok (byte ∷ bytes)))

pair_spelled : (a b i : ℕ) (oa ob : Option ℕ) (vs : Option (List ℕ)) (d : Result (List ℕ) FromHexError) → option_and_then bytes_of_digits vs ≡ read_bytes d
    → option_and_then bytes_of_digits (before_values oa (before_values ob vs)) ≡ read_bytes (pair_read a b i oa ob d)
pair_spelled a b i None ob vs d h = refl
pair_spelled a b i (Some x) None vs d h = refl
pair_spelled a b i (Some x) (Some y) None (Ok bs) h = absurd (cc h)
pair_spelled a b i (Some x) (Some y) None (Err e) h = refl
pair_spelled a b i (Some x) (Some y) (Some vs) (Ok bs) h = rw h refl
pair_spelled a b i (Some x) (Some y) (Some vs) (Err e) h = rw h refl

spelled_pairs : (i : ℕ) (t : List ℕ) → hex_bytes t ≡ read_bytes (decode_pairs i t)
unfolding decode_pairs
spelled_pairs i [] = refl
spelled_pairs i (a ∷ []) = one_digit (hex_value a)
  where
    one_digit : (o : Option ℕ) → option_and_then bytes_of_digits (before_values o (Some [])) ≡ None
    one_digit None = refl
    one_digit (Some x) = refl
spelled_pairs i (a ∷ b ∷ t) = rw (digit_same a, digit_same b) (pair_spelled a b i (hex_value a) (hex_value b) (hex_values t) (decode_pairs (i + 2) t) (spelled_pairs (i + 2) t))

odd_spelled : (t : List ℕ) (d : Result (List ℕ) FromHexError) → length t % 2 ≡ 1 → decode_pairs 0 t ≡ d → read_bytes d ≡ None
odd_spelled t (Err e) odd h = refl
odd_spelled t (Ok bs) odd h = let p = decode_pairs-ok 0 t bs h in absurd (omega (arith, odd, p.1))

all_spelled : (t : List ℕ) → hex_bytes t ≡ read_bytes (decode_of t)
all_spelled t =
    elim (cases_eq (length t % 2) 1) [
      | inl odd ↦ spelled_pairs 0 t ∙ odd_spelled t (decode_pairs 0 t) odd refl ∙ sym (ap read_bytes (decode_of-odd t odd))
      | inr even ↦ let e : length t % 2 ≡ 0 = omega arith in spelled_pairs 0 t ∙ sym (ap read_bytes (decode_of-even t e))
    ]

-- digits that the crate accepts, and others
pub bytes_spelled : (t bs : List ℕ) → decode_of t ≡ Ok bs → hex_bytes t ≡ Some bs
bytes_spelled t bs h = all_spelled t ∙ ap read_bytes h

pub bytes_misspelled : (t : List ℕ) (e : FromHexError) → decode_of t ≡ Err e → hex_bytes t ≡ None
bytes_misspelled t e h = all_spelled t ∙ ap read_bytes h

pub spelled : (t bs : List ℕ) → decode_of t ≡ Ok bs → hex_field t ≡ Ok bs
spelled t bs h = rw (bytes_spelled t bs h) refl

pub misspelled : (t : List ℕ) (e : FromHexError) → decode_of t ≡ Err e → hex_field t ≡ Err BadHex
misspelled t e h = rw (bytes_misspelled t e h) refl

-- a digit is a digit of some byte
pub some_bytes : (t bs : List ℕ) → decode_of t ≡ Ok bs → 0 < length t → 0 < length bs
some_bytes t bs h l = let p = decode_of-ok t bs h in omega (arith, p.2, l)

-- ---- digits that are decoded into one byte for every two of them

sized_half : (t : List ℕ) (n : ℕ) → n ≡ length t / 2 → decode_sized t n ≡ decode_of t
sized_half t n h = grind (arith, h)

spelled_by : (t out : List ℕ) (u : Unit {0}) (d : Result (List ℕ) FromHexError) (r : Result (Unit {0}) FromHexError) → decode_of t ≡ d → MatchResult d (λ bs. (r ≡ Ok tt) × (out ≡ bs)) (λ e. r ≡ Err e) → r ≡ Ok u → decode_of t ≡ Ok out
spelled_by t out u (Ok bs) r e m h = e ∙ ap Ok (sym m.1)
spelled_by t out u (Err x) r e m h = absurd (cc (m, h))

misspelled_by : (t out : List ℕ) (x : FromHexError) (d : Result (List ℕ) FromHexError) (r : Result (Unit {0}) FromHexError) → decode_of t ≡ d → MatchResult d (λ bs. (r ≡ Ok tt) × (out ≡ bs)) (λ e. r ≡ Err e) → r ≡ Err x → hex_field t ≡ Err BadHex
misspelled_by t out x (Ok bs) r e m h = absurd (cc (m.0, h))
misspelled_by t out x (Err y) r e m h = misspelled t y e

pub sized_spelled : (t out : List ℕ) (n : ℕ) (u : Unit {0}) (r : Result (Unit {0}) FromHexError) → n ≡ length t / 2 → MatchResult (decode_sized t n) (λ bs. (r ≡ Ok tt) × (out ≡ bs)) (λ e. r ≡ Err e) → r ≡ Ok u → decode_of t ≡ Ok out
sized_spelled t out n u r s m h = spelled_by t out u (decode_sized t n) r (sym (sized_half t n s)) m h

pub sized_misspelled : (t out : List ℕ) (n : ℕ) (x : FromHexError) (r : Result (Unit {0}) FromHexError) → n ≡ length t / 2 → MatchResult (decode_sized t n) (λ bs. (r ≡ Ok tt) × (out ≡ bs)) (λ e. r ≡ Err e) → r ≡ Err x → hex_field t ≡ Err BadHex
sized_misspelled t out n x r s m h = misspelled_by t out x (decode_sized t n) r (sym (sized_half t n s)) m h
