-- Statements by their words and fields.
use Rattle.std.proofs.Common.{◌≡◌, ℕ, Bool, true, false, cond, List, [], ◌∷◌, ◌++◌, Option, Some, None, Ok, Err, refl, sym, ap, ◌∙◌}
use Rattle.std.specs.Prelude.{bytes_eq, option_map}
use Rattle.model_play.specs.model_device.specs.Bytes.{lookup, or_else}
use Rattle.model_play.specs.model_text.specs.Text.{◌>>=◌, err_as}
use Rattle.model_play.specs.model_card.specs.Units.{unit_read}
use Rattle.model_play.specs.declared.deck.DeckCause.TheVariants as causes
use Rattle.model_play.specs.declared.deck.DeckCause.TheVariants.{BadLine}
use Rattle.mc_asm.specs.Parts.{pair_of}
use Rattle.model_play.specs.DeckGrammar.{deck_words, Word, UnitWord, Context, Says, Named, with_unit, statement_of, name_field, hex_field, new_name}
use Rattle.mc_deck.specs.declared.statement.Keyword.{Keyword}
use Rattle.mc_deck.specs.Statements.{first_words, second_words, keyword_of}

cond_or : (b : Bool) (w : Word) (x y : Option Word) → cond b (Some w) (or_else x y) ≡ or_else (cond b (Some w) x) y
cond_or true w x y = refl
cond_or false w x y = refl

lookup_both : (ws vs : List (List ℕ × Word)) (n : List ℕ) → lookup (ws ++ vs) n ≡ or_else (lookup ws n) (lookup vs n)
lookup_both [] vs n = refl
lookup_both (w ∷ ws) vs n = ap (cond (bytes_eq w.0 n) (Some w.1)) (lookup_both ws vs n) ∙ cond_or (bytes_eq w.0 n) w.1 (lookup ws n) (lookup vs n)

halves : (n : List ℕ) → lookup deck_words n ≡ or_else (lookup first_words n) (lookup second_words n)
halves n = lookup_both first_words second_words n

pub by_first : (n : List ℕ) (k : Keyword) → Some (keyword_of k) ≡ lookup first_words n → Some (keyword_of k) ≡ lookup deck_words n
by_first n k h = sym (halves n ∙ ap (λ o. or_else o (lookup second_words n)) (sym h))

pub by_second : (n : List ℕ) (o : Option Keyword) → None ≡ lookup first_words n → option_map keyword_of o ≡ lookup second_words n → option_map keyword_of o ≡ lookup deck_words n
by_second n o h e = e ∙ sym (halves n ∙ ap (λ o. or_else o (lookup second_words n)) (sym h))

-- a unit in hexadecimal, step by step
pub unit_stated : (c : Context) (n : ℕ) (name hex : List ℕ) → statement_of c n UnitWord (name ∷ hex ∷ [])
    ≡ (name_field name >>= λ name. hex_field hex >>= λ bytes. new_name c name >>= λ name. err_as causes.Unit (unit_read bytes) >>= λ u. Ok (Says Named (with_unit c name u)))
unfolding statement_of
unit_stated c n name hex = refl

-- two fields, and another number of them
pub unit_some : (c : Context) (n : ℕ) (ts : List (List ℕ)) (a b : List ℕ) → Some (a, b) ≡ pair_of ts → statement_of c n UnitWord ts ≡ statement_of c n UnitWord (a ∷ b ∷ [])
unit_some c n [] a b h = absurd (cc h)
unit_some c n (x ∷ []) a b h = absurd (cc h)
unit_some c n (x ∷ y ∷ []) a b h = let e : (a, b) ≡ (x, y) = cc h in ap (λ (p : List ℕ × List ℕ). statement_of c n UnitWord (p.0 ∷ p.1 ∷ [])) (sym e)
unit_some c n (x ∷ y ∷ z ∷ ts) a b h = absurd (cc h)

pub unit_none : (c : Context) (n : ℕ) (ts : List (List ℕ)) → None ≡ pair_of ts → statement_of c n UnitWord ts ≡ Err BadLine
unfolding statement_of
unit_none c n [] h = refl
unit_none c n (x ∷ []) h = refl
unit_none c n (x ∷ y ∷ []) h = absurd (cc h)
unit_none c n (x ∷ y ∷ z ∷ ts) h = refl
