-- A line that is `apdu`, one blank and digits.
use Rattle.std.proofs.Common.{◌≡◌, ℕ, ◌<◌, true, List, [], ◌∷◌, length, Option, Some, None, Ok, arith, refl, ap, ◌∙◌}
use Rattle.std.specs.Prelude.{not, option_and_then, ok_or}
use Rattle.model_play.specs.model_text.specs.Text.{hex_value, hex_values, before_values, bytes_of_digits, every, is_blank, fields}
use Rattle.model_play.specs.declared.deck.DeckCause.TheVariants.{BadHex}
use Rattle.model_play.specs.DeckGrammar.{Context, Says, Sent, Apdu, hex_field, statement_of}
use Rattle.mc_asm.proofs.CleanLemmas.{pieces_none}
use Rattle.mc_deck.specs.Readers.{line_stated}

digit_solid : (c v : ℕ) → hex_value c ≡ Some v → not (is_blank c) ≡ true
digit_solid c v h = grind (arith, h)

solid_more : (c : ℕ) (t : List ℕ) → not (is_blank c) ≡ true → every (λ c. not (is_blank c)) t ≡ true → every (λ c. not (is_blank c)) (c ∷ t) ≡ true
solid_more c t h k = rw (h, k) refl

-- there is no blank among digits
solid_by : (c : ℕ) (t vs : List ℕ) (o : Option ℕ) (os : Option (List ℕ)) → hex_value c ≡ o → hex_values t ≡ os → before_values o os ≡ Some vs
    → ((ws : List ℕ) → hex_values t ≡ Some ws → every (λ c. not (is_blank c)) t ≡ true) → every (λ c. not (is_blank c)) (c ∷ t) ≡ true
solid_by c t vs None os e f h k = absurd (cc h)
solid_by c t vs (Some v) None e f h k = absurd (cc h)
solid_by c t vs (Some v) (Some ws) e f h k = solid_more c t (digit_solid c v e) (k ws f)

digits_solid : (t vs : List ℕ) → hex_values t ≡ Some vs → every (λ c. not (is_blank c)) t ≡ true
digits_solid [] vs h = refl
digits_solid (c ∷ t) vs h = solid_by c t vs (hex_value c) (hex_values t) refl refl h (λ ws e. digits_solid t ws e)

field_solid : (t bs : List ℕ) (o : Option (List ℕ)) → hex_values t ≡ o → ok_or (option_and_then bytes_of_digits o) BadHex ≡ Ok bs → every (λ c. not (is_blank c)) t ≡ true
field_solid t bs (Some vs) e h = digits_solid t vs e
field_solid t bs None e h = absurd (cc h)

-- `apdu`, a blank and digits are two fields
plain_fields : (t : List ℕ) → 0 < length t → every (λ c. not (is_blank c)) t ≡ true → fields (97 ∷ 112 ∷ 100 ∷ 117 ∷ 32 ∷ t) ≡ (97 ∷ 112 ∷ 100 ∷ 117 ∷ []) ∷ t ∷ []
plain_fields [] l e = absurd (omega (arith, l))
plain_fields (c ∷ t) l e = rw (pieces_none is_blank (c ∷ t) e) refl

plain_word : (c : Context) (n : ℕ) (t bs : List ℕ) → hex_field t ≡ Ok bs → line_stated c n ((97 ∷ 112 ∷ 100 ∷ 117 ∷ []) ∷ t ∷ []) ≡ Ok (Some (Says (Sent (Apdu bs)) c))
unfolding statement_of
plain_word c n t bs h = rw h refl

-- such a line is a command
pub plain_stated : (c : Context) (n : ℕ) (l t bs : List ℕ) → l ≡ 97 ∷ 112 ∷ 100 ∷ 117 ∷ 32 ∷ t → hex_field t ≡ Ok bs → 0 < length t → line_stated c n (fields l) ≡ Ok (Some (Says (Sent (Apdu bs)) c))
plain_stated c n l t bs e h s = ap (λ l. line_stated c n (fields l)) e ∙ ap (line_stated c n) (plain_fields t s (field_solid t bs (hex_values t) refl h)) ∙ plain_word c n t bs h
