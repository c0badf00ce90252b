-- The statements of frames' lines, read back.
use Rattle.std.proofs.Common.{◌≡◌, ℕ, ◌+◌, ◌-◌, ◌*◌, ◌/◌, ◌%◌, ◌^◌, ◌<◌, ◌≤◌, Bool, true, false, cond, List, [], ◌∷◌, ◌++◌, length, Some, Ok, refl, arith, sym, ap, subst, ◌∙◌, append-nil}
use Rattle.std.specs.Prelude.{◌==◌, ◌&&◌, not, filter, codes, decimal, ⊤}
use Rattle.mc_words.specs.model_device.specs.Bytes.{AreBytes}
use Rattle.mc_words.specs.model_device.proofs.BoolLemmas.{and_first, and_second}
use Rattle.mc_text.specs.model_text.specs.Text.{begins, bytes_of_digits, decimal_number, every, fields, hex_bytes, hex_value, hex_values, is_blank, is_digit, is_empty, is_within, lines, no_last_empty, pieces, pieces_with_character, without_returns}
use Rattle.mc_text.specs.model_text.specs.Listing.{hex_digit, hex_text}
use Rattle.mc_text.specs.model_text.proofs.TextLemmas.{every_append}
use Rattle.mc_deck.specs.model_play.specs.DeckGrammar.{statement_of, turn_in, Between, Context, DeckLine}
use Rattle.mc_deck.specs.model_play.specs.DeckGrammar as line
use Rattle.mc_asm.proofs.CleanLemmas.{every_as, pieces_none, pieces_there}
use Rattle.mc_asm.proofs.NumeralLemmas.{decimal_is, Numeral}
use Rattle.mc_reader.specs.SessionDeck.{statement_text}

-- ---- characters

-- a printed character other than the blank
abbrev solid : ℕ → Bool
solid c = is_within 33 126 c

-- a printed character
abbrev printed : ℕ → Bool
printed c = is_within 32 126 c

solid_printed : (c : ℕ) → solid c ≡ true → printed c ≡ true
solid_printed c h = grind (arith, h)

solid_no_blank : (c : ℕ) → solid c ≡ true → not (is_blank c) ≡ true
solid_no_blank c h = grind (arith, h)

digit_solid : (c : ℕ) → is_digit c ≡ true → solid c ≡ true
digit_solid c h = grind (arith, h)

printed_no_feed : (c : ℕ) → printed c ≡ true → not (c == 10) ≡ true
printed_no_feed c h = grind (arith, h)

printed_no_return : (c : ℕ) → printed c ≡ true → (c == 13) ≡ false
printed_no_return c h = grind (arith, h)

-- ---- lines

abbrev is_feed : ℕ → Bool
is_feed = λ c. c == 10

-- a text that a line feed follows, without its returns
abbrev shorn : List ℕ → List ℕ
shorn [] = []
shorn (c ∷ t) = cond ((c == 13) && begins 10 (t ++ 10 ∷ [])) (shorn t) (c ∷ shorn t)

begins_same : (t u : List ℕ) → begins 10 (t ++ 10 ∷ u) ≡ begins 10 (t ++ 10 ∷ [])
begins_same [] u = refl
begins_same (c ∷ t) u = refl

cond_put : (b : Bool) (c : ℕ) (xs ys : List ℕ) → cond b (xs ++ ys) (c ∷ (xs ++ ys)) ≡ cond b xs (c ∷ xs) ++ ys
cond_put true c xs ys = refl
cond_put false c xs ys = refl

shorn_at : (t u : List ℕ) → without_returns (t ++ 10 ∷ u) ≡ shorn t ++ 10 ∷ without_returns u
shorn_at [] u = refl
shorn_at (c ∷ t) u = rw (begins_same t u, shorn_at t u) (cond_put ((c == 13) && begins 10 (t ++ 10 ∷ [])) c (shorn t) (10 ∷ without_returns u))

shorn_printed : (t : List ℕ) → every printed t ≡ true → shorn t ≡ t
shorn_printed [] h = refl
shorn_printed (c ∷ t) h =
    rw (printed_no_return c (and_first (printed c) (every printed t) h), shorn_printed t (and_second (printed c) (every printed t) h)) refl

-- pieces are at least one
record Pieces (ps : List (List ℕ)) : Type 0 where
  first : List ℕ
  rest : List (List ℕ)
  are : ps ≡ first ∷ rest

some_put : (b : Bool) (c : ℕ) (p : List ℕ) (ps : List (List ℕ)) → Pieces (pieces_with_character b c (p ∷ ps))
some_put true c p ps = record { first = []; rest = p ∷ ps; are = refl }
some_put false c p ps = record { first = c ∷ p; rest = ps; are = refl }

some_pieces : (t : List ℕ) → Pieces (pieces is_feed t)
some_pieces [] = record { first = []; rest = []; are = refl }
some_pieces (c ∷ t) =
    let k = some_pieces t in
    subst (λ (ps : List (List ℕ)). Pieces (pieces_with_character (c == 10) c ps)) (sym k.are) (some_put (c == 10) c k.first k.rest)

pieces_put : (b : Bool) (c : ℕ) (p : List ℕ) (ps qs : List (List ℕ)) → pieces_with_character b c (p ∷ (ps ++ qs)) ≡ pieces_with_character b c (p ∷ ps) ++ qs
pieces_put true c p ps qs = refl
pieces_put false c p ps qs = refl

pieces_split : (t u : List ℕ) → pieces is_feed (t ++ 10 ∷ u) ≡ pieces is_feed t ++ pieces is_feed u
pieces_split [] u = refl
pieces_split (c ∷ t) u =
    let k = some_pieces t in
    let put = λ (ps : List (List ℕ)). pieces_with_character (c == 10) c ps in
    ap (λ (ps : List (List ℕ)). pieces_with_character (c == 10) c ps) (pieces_split t u ∙ ap (λ (ps : List (List ℕ)). ps ++ pieces is_feed u) k.are)
    ∙ pieces_put (c == 10) c k.first k.rest (pieces is_feed u)
    ∙ ap (λ (ps : List (List ℕ)). pieces_with_character (c == 10) c ps ++ pieces is_feed u) (sym k.are)

no_last_put : (p q : List ℕ) (qs : List (List ℕ)) → no_last_empty (p ∷ q ∷ qs) ≡ p ∷ no_last_empty (q ∷ qs)
no_last_put [] q qs = refl
no_last_put (c ∷ p) q qs = refl

no_last_all : (ps : List (List ℕ)) (q : List ℕ) (qs : List (List ℕ)) → no_last_empty (ps ++ q ∷ qs) ≡ ps ++ no_last_empty (q ∷ qs)
no_last_all [] q qs = refl
no_last_all (p ∷ []) q qs = no_last_put p q qs
no_last_all (p ∷ r ∷ ps) q qs = no_last_put p r (ps ++ q ∷ qs) ∙ ap (λ (xs : List (List ℕ)). p ∷ xs) (no_last_all (r ∷ ps) q qs)

pub lines_at_feed : (t u : List ℕ) → lines (t ++ 10 ∷ u) ≡ pieces is_feed (shorn t) ++ lines u
lines_at_feed t u =
    let k = some_pieces (without_returns u) in
    ap (λ (x : List ℕ). no_last_empty (pieces is_feed x)) (shorn_at t u)
    ∙ ap no_last_empty (pieces_split (shorn t) (without_returns u) ∙ ap (λ (ps : List (List ℕ)). pieces is_feed (shorn t) ++ ps) k.are)
    ∙ no_last_all (pieces is_feed (shorn t)) k.first k.rest
    ∙ ap (λ (ps : List (List ℕ)). pieces is_feed (shorn t) ++ no_last_empty ps) (sym k.are)

-- the lines of a text before those after it
pub lines_append : (t u : List ℕ) → lines (t ++ 10 ∷ u) ≡ lines (t ++ 10 ∷ []) ++ lines u
lines_append t u =
    lines_at_feed t u ∙ ap (λ (ps : List (List ℕ)). ps ++ lines u) (sym (lines_at_feed t [] ∙ append-nil (pieces is_feed (shorn t))))

-- a printed line before others
pub line_first : (t u : List ℕ) → every printed t ≡ true → lines (t ++ 10 ∷ u) ≡ t ∷ lines u
line_first t u h =
    lines_at_feed t u
    ∙ ap (λ (x : List ℕ). pieces is_feed x ++ lines u) (shorn_printed t h)
    ∙ ap (λ (ps : List (List ℕ)). ps ++ lines u) (pieces_none is_feed t (every_as printed (λ c. not (c == 10)) t printed_no_feed h))

-- ---- fields

-- a text of one field
pub record Field (t : List ℕ) : Type 0 where
  pub some : is_empty t ≡ false
  pub all : every solid t ≡ true

one_field : (t : List ℕ) → Field t → fields t ≡ t ∷ []
one_field t k =
    let one = pieces_none is_blank t (every_as solid (λ c. not (is_blank c)) t solid_no_blank k.all) in
    ap (λ (ps : List (List ℕ)). filter (λ p. not (is_empty p)) ps) one ∙ rw k.some refl

two_fields : (s t : List ℕ) → Field s → Field t → fields (s ++ 32 ∷ t) ≡ s ∷ t ∷ []
two_fields s t k h =
    let first = pieces_there is_blank s 32 t (every_as solid (λ c. not (is_blank c)) s solid_no_blank k.all) refl in
    ap (λ (ps : List (List ℕ)). filter (λ p. not (is_empty p)) ps) first ∙ rw k.some (ap (λ (ps : List (List ℕ)). s ∷ ps) (one_field t h))

-- ---- decimal numbers

number_of : (n : ℕ) (ds : List ℕ) → Numeral n ds → decimal_number ds ≡ Some n
number_of n ds k = rw (k.some, k.digits, k.value) refl

numeral_field : (n : ℕ) (ds : List ℕ) → Numeral n ds → Field ds
numeral_field n ds k = record { some = k.some; all = every_as is_digit solid ds digit_solid k.digits }

-- ---- hexadecimal

-- the values of the digits of bytes
abbrev nibbles : List ℕ → List ℕ
nibbles [] = []
nibbles (b ∷ bs) = (b / 16 % 16) ∷ (b % 16) ∷ nibbles bs

hex_digit_is : (d : ℕ) → d < 16 → hex_value (hex_digit d) ≡ Some d
hex_digit_is d h = grind (arith, h)

hex_solid : (d : ℕ) → d < 16 → solid (hex_digit d) ≡ true
hex_solid d h = grind (arith, h)

hex_values_are : (bs : List ℕ) → hex_values (hex_text bs) ≡ Some (nibbles bs)
hex_values_are [] = refl
hex_values_are (b ∷ bs) = rw (hex_digit_is (b / 16 % 16) (omega arith), hex_digit_is (b % 16) (omega arith), hex_values_are bs) refl

digits_are : (bs : List ℕ) → AreBytes bs → bytes_of_digits (nibbles bs) ≡ Some bs
digits_are [] h = refl
digits_are (b ∷ bs) h =
    let e : (b / 16 % 16) * 16 + b % 16 ≡ b = omega (arith, h.0) in
    rw (digits_are bs h.1, e) refl

hex_read : (bs : List ℕ) → AreBytes bs → hex_bytes (hex_text bs) ≡ Some bs
hex_read bs h = rw (hex_values_are bs) (digits_are bs h)

hex_all : (bs : List ℕ) → every solid (hex_text bs) ≡ true
hex_all [] = refl
hex_all (b ∷ bs) = rw (hex_solid (b / 16 % 16) (omega arith), hex_solid (b % 16) (omega arith), hex_all bs) refl

hex_field_is : (bs : List ℕ) → 0 < length bs → Field (hex_text bs)
hex_field_is [] h = absurd (omega (arith, h))
hex_field_is (b ∷ bs) h = record { some = refl; all = hex_all (b ∷ bs) }

-- ---- statements

-- a line that a frame of bytes can represent
abbrev pub IsFrameLine : DeckLine → Type 0
IsFrameLine line.Power = ⊤
IsFrameLine (line.Sent (line.Apdu bytes)) = (0 < length bytes) × AreBytes bytes
IsFrameLine (line.Cut k fill) = (1 ≤ k) × (k ≤ 4294967295) × (length fill ≡ 8) × AreBytes fill
IsFrameLine (line.Fail k) = (1 ≤ k) × (k ≤ 4294967295)
IsFrameLine (line.Budget n) = (1 ≤ n) × (n ≤ 65536)
IsFrameLine _ = ⊥

-- the context after such a line
abbrev pub context_after : DeckLine → Context → Context
context_after line.Power c = record c { powered = true }
context_after _ c = c

in_range : (low high n : ℕ) → low ≤ n → n ≤ high → is_within low high n ≡ true
in_range low high n h k = grind (arith, h, k)

wide : (k : ℕ) → k ≤ 4294967295 → k < 2 ^ 64
wide k h = omega (arith, h)

printed_all : (t : List ℕ) → every solid t ≡ true → every printed t ≡ true
printed_all t h = every_as solid printed t solid_printed h

pub statement_printed : (l : DeckLine) → IsFrameLine l → every printed (statement_text l) ≡ true
statement_printed line.Power h = refl
statement_printed (line.Sent (line.Apdu bytes)) h = every_append printed (codes "apdu ") (hex_text bytes) refl (printed_all (hex_text bytes) (hex_all bytes))
statement_printed (line.Cut k fill) h =
    let digits = numeral_field k (decimal k) (decimal_is k (wide k h.1)) in
    every_append printed (codes "cut ") (decimal k ++ (codes " " ++ hex_text fill)) refl
    (every_append printed (decimal k) (codes " " ++ hex_text fill) (printed_all (decimal k) digits.all) (printed_all (hex_text fill) (hex_all fill)))
statement_printed (line.Fail k) h =
    every_append printed (codes "fail ") (decimal k) refl (printed_all (decimal k) (numeral_field k (decimal k) (decimal_is k (wide k h.1))).all)
statement_printed (line.Budget n) h =
    every_append printed (codes "budget ") (decimal n) refl (printed_all (decimal n) (numeral_field n (decimal n) (decimal_is n (wide n (omega (arith, h.1))))).all)
statement_printed _ h = absurd h

-- a statement of a frame's line is this line
pub statement_read : (l : DeckLine) → IsFrameLine l → (c : Context) (n : ℕ) → turn_in (Between c) (n, statement_text l) ≡ Ok (record { lines = (n, l) ∷ []; mode = Between (context_after l c) })
unfolding statement_of
statement_read line.Power h c n = refl
statement_read (line.Sent (line.Apdu bytes)) h c n = rw (one_field (hex_text bytes) (hex_field_is bytes h.0), hex_read bytes h.1) refl
statement_read (line.Cut k fill) h c n =
    let number = decimal_is k (wide k h.1) in
    let some : 0 < length fill = omega (arith, h.2) in
    rw (two_fields (decimal k) (hex_text fill) (numeral_field k (decimal k) number) (hex_field_is fill some), number_of k (decimal k) number, in_range 1 4294967295 k h.0 h.1, hex_read fill h.3, h.2) refl
statement_read (line.Fail k) h c n =
    let number = decimal_is k (wide k h.1) in
    rw (one_field (decimal k) (numeral_field k (decimal k) number), number_of k (decimal k) number, in_range 1 4294967295 k h.0 h.1) refl
statement_read (line.Budget b) h c n =
    let number = decimal_is b (wide b (omega (arith, h.1))) in
    rw (one_field (decimal b) (numeral_field b (decimal b) number), number_of b (decimal b) number, in_range 1 65536 b h.0 h.1) refl
statement_read _ h c n = absurd h
