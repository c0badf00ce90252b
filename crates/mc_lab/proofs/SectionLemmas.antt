-- The pass of the laboratory over a deck's text is in a section exactly if the deck's reader is.
use Rattle.std.proofs.Common.{◌≡◌, ℕ, Bool, true, false, not, List, [], ◌∷◌, ◌++◌, Option, Some, None, Result, Ok, Err, refl, sym, ap, ◌∙◌, arith}
use Rattle.std.specs.Prelude.{◌==◌, ⊤, bytes_eq, codes, ok_or, IfOk, OnOk}
use Rattle.std.proofs.lemmas.Bool.{eqb-true}
use Rattle.law_explore.specs.model_device.specs.Bytes.{lookup}
use Rattle.law_explore.specs.model_device.proofs.MapLemmas.{each_found}
use Rattle.law_explore.specs.model_text.specs.Text.{ok_as, err_as, ◌>>=◌, begins, fields, lines, with_numbers}
use Rattle.law_explore.specs.model_card.specs.Units.{unit_read}
use Rattle.law_explore.specs.model_play.specs.declared.deck.DeckCause.{DeckCause}
use Rattle.law_explore.specs.model_play.specs.declared.deck.DeckCause.TheVariants.{BadLine, LateLine, UnknownName}
use Rattle.law_explore.specs.model_play.specs.declared.deck.DeckCause.TheVariants as causes
use Rattle.law_explore.specs.model_play.specs.DeckGrammar.{hex_field, aid_field, fill_field, name_field, number_field, Context, Section, Stated, Says, Opens, Word, FormatWord, PowerWord, UnitWord, AppWord, LoadWord, SelectWord, DeleteWord, DumpWord, ApduWord, BudgetWord, CutWord, FailWord, PokeWord, deck_words, new_name, early, with_unit, statement_of, section_unit, Mode, Between, Within, LineTurn, turn_of, between, within, turn_at, deck_lines, deck_read}
use Rattle.model_events.specs.model_text.specs.Text.{is_end}
use Rattle.law_explore.specs.model_play.specs.DeckGrammar as line
use Rattle.mc_deck.specs.law_family.proofs.AssembledBytes.{as_ok, err_ok, only_ok, cond_ok, any_ok}
use Rattle.mc_lab.specs.declared.remark.Mark.{Mark}
use Rattle.mc_lab.specs.Remarks.{Remark, above_after, after_line, in_section, just, remark_at, remarks, remarks_from, text_in}
use Rattle.model_events.specs.model_text.specs.Text.{stays_inside}
use Rattle.mc_lab.specs.Scanning.{scanned_from, scanned}

-- ---- statements

-- whether a statement opens a section
abbrev opens : Stated → Bool
opens (Says l c) = false
opens (Opens s c) = true

abbrev is_app : Word → Bool
is_app AppWord = true
is_app w = false

abbrev OpensAs : Bool → Stated → Type 0
OpensAs b s = opens s ≡ b

-- any first part of a statement
then_any : {A E : Type 0} (b : Bool) (r : Result A E) (f : A → Result Stated E) → ((a : A) → IfOk (f a) (OpensAs b)) → IfOk (r >>= f) (OpensAs b)
then_any b (Ok a) f h = h a
then_any b (Err e) f h = tt

-- `app` opens a section, and no other word does
stated_opens : (c : Context) (n : ℕ) (w : Word) (fs : List (List ℕ)) → IfOk (statement_of c n w fs) (OpensAs (is_app w))
unfolding statement_of
stated_opens c n FormatWord [] = only_ok (not c.powered) LateLine (Says line.Format c) (OpensAs false) (λ e. refl)
stated_opens c n PowerWord [] = refl
stated_opens c n UnitWord (name ∷ hex ∷ []) =
    then_any false (name_field name) (λ name. hex_field hex >>= λ bytes. new_name c name >>= λ name. err_as causes.Unit (unit_read bytes) >>= λ u. Ok (Says line.Named (with_unit c name u)))
    (λ name. then_any false (hex_field hex) (λ bytes. new_name c name >>= λ name. err_as causes.Unit (unit_read bytes) >>= λ u. Ok (Says line.Named (with_unit c name u)))
    (λ bytes. then_any false (new_name c name) (λ name. err_as causes.Unit (unit_read bytes) >>= λ u. Ok (Says line.Named (with_unit c name u)))
    (λ name. then_any false (err_as causes.Unit (unit_read bytes)) (λ u. Ok (Says line.Named (with_unit c name u))) (λ u. refl))))
stated_opens c n AppWord (name ∷ aid ∷ []) =
    then_any true (name_field name) (λ name. aid_field aid >>= λ aid. new_name c name >>= λ name. Ok (Opens (record { first = n; name = name; aid = aid; lines = [] }) c))
    (λ name. then_any true (aid_field aid) (λ aid. new_name c name >>= λ name. Ok (Opens (record { first = n; name = name; aid = aid; lines = [] }) c))
    (λ aid. then_any true (new_name c name) (λ name. Ok (Opens (record { first = n; name = name; aid = aid; lines = [] }) c)) (λ name. refl)))
stated_opens c n LoadWord (name ∷ fixed ∷ session ∷ []) =
    then_any false (name_field name) (λ name. number_field 0 65535 fixed >>= λ fixed. number_field 0 65535 session >>= λ session. ok_or (lookup c.units name) UnknownName >>= λ u. Ok (Says (line.Sent (line.Load u fixed session)) c))
    (λ name. then_any false (number_field 0 65535 fixed) (λ fixed. number_field 0 65535 session >>= λ session. ok_or (lookup c.units name) UnknownName >>= λ u. Ok (Says (line.Sent (line.Load u fixed session)) c))
    (λ fixed. then_any false (number_field 0 65535 session) (λ session. ok_or (lookup c.units name) UnknownName >>= λ u. Ok (Says (line.Sent (line.Load u fixed session)) c))
    (λ session. then_any false (ok_or (lookup c.units name) UnknownName) (λ u. Ok (Says (line.Sent (line.Load u fixed session)) c)) (λ u. refl))))
stated_opens c n SelectWord (aid ∷ []) = as_ok (λ a. Says (line.Sent (line.Select a)) c) (aid_field aid) (λ x. ⊤) (OpensAs false) (any_ok (aid_field aid)) (λ a k. refl)
stated_opens c n DeleteWord (aid ∷ []) = as_ok (λ a. Says (line.Sent (line.Delete a)) c) (aid_field aid) (λ x. ⊤) (OpensAs false) (any_ok (aid_field aid)) (λ a k. refl)
stated_opens c n DumpWord (aid ∷ []) = as_ok (λ a. Says (line.Dump a) c) (aid_field aid) (λ x. ⊤) (OpensAs false) (any_ok (aid_field aid)) (λ a k. refl)
stated_opens c n ApduWord (hex ∷ []) = as_ok (λ b. Says (line.Sent (line.Apdu b)) c) (hex_field hex) (λ x. ⊤) (OpensAs false) (any_ok (hex_field hex)) (λ b k. refl)
stated_opens c n BudgetWord (b ∷ []) = as_ok (λ b. Says (line.Budget b) c) (number_field 1 65536 b) (λ x. ⊤) (OpensAs false) (any_ok (number_field 1 65536 b)) (λ b k. refl)
stated_opens c n CutWord (k ∷ fill ∷ []) =
    then_any false (number_field 1 4294967295 k) (λ k. fill_field fill >>= λ fill. Ok (Says (line.Cut k fill) c))
    (λ k. then_any false (fill_field fill) (λ fill. Ok (Says (line.Cut k fill) c)) (λ fill. refl))
stated_opens c n FailWord (k ∷ []) = as_ok (λ k. Says (line.Fail k) c) (number_field 1 4294967295 k) (λ x. ⊤) (OpensAs false) (any_ok (number_field 1 4294967295 k)) (λ k j. refl)
stated_opens c n PokeWord (at ∷ fill ∷ []) =
    then_any false (number_field 0 16383 at) (λ at. fill_field fill >>= λ fill. early c (line.Poke at fill))
    (λ at. then_any false (fill_field fill) (λ fill. early c (line.Poke at fill)) (λ fill. only_ok (not c.powered) LateLine (Says (line.Poke at fill) c) (OpensAs false) (λ e. refl)))
stated_opens c n _ _ = tt

-- ---- lines

-- a comment does not begin with `app`
not_app : (word : List ℕ) → begins 35 word ≡ true → false ≡ bytes_eq word (codes "app")
not_app [] h = refl
not_app (x ∷ xs) h = sym (ap (λ (y : ℕ). bytes_eq (y ∷ xs) (codes "app")) (eqb-true x 35 h))

-- the word of a statement is `app` if its text is
app_word : (word : List ℕ) (w : Word) → lookup deck_words word ≡ Some w → bytes_eq word (codes "app") ≡ is_app w
app_word word w e =
    each_found (λ k. bytes_eq k.0 (codes "app") ≡ is_app k.1) deck_words word w
    (refl, (refl, (refl, (refl, (refl, (refl, (refl, (refl, (refl, (refl, (refl, (refl, (refl, tt))))))))))))) e

turned : (n : ℕ) (s : Stated) → in_section (turn_of n s).mode ≡ opens s
turned n (Says l c) = refl
turned n (Opens s c) = refl

-- whether the line after a turn is in a section
abbrev LeavesIn : Bool → LineTurn → Type 0
LeavesIn b t = in_section t.mode ≡ b

by_word : (c : Context) (n : ℕ) (word : List ℕ) (rest : List (List ℕ)) (o : Option Word) → lookup deck_words word ≡ o
    → IfOk (ok_or o BadLine >>= λ w. ok_as (turn_of n) (statement_of c n w rest)) (LeavesIn (bytes_eq word (codes "app")))
by_word c n word rest None e = tt
by_word c n word rest (Some w) e =
    as_ok (turn_of n) (statement_of c n w rest) (OpensAs (is_app w)) (LeavesIn (bytes_eq word (codes "app"))) (stated_opens c n w rest) (λ s k. turned n s ∙ k ∙ sym (app_word word w e))

between_leaves : (c : Context) (n : ℕ) (fs : List (List ℕ)) → IfOk (between c n fs) (LeavesIn (stays_inside false fs))
between_leaves c n fs = grind (arith, cond_ok, not_app, err_ok, by_word)

within_leaves : (b : Bool) (s : Section) (c : Context) (l : ℕ × List ℕ) → IfOk (within b s c l) (LeavesIn (not b))
unfolding within
within_leaves true s c l =
    as_ok (λ u. record { lines = (s.first, line.Named) ∷ []; mode = Between (with_unit c s.name u) }) (section_unit s l.0) (λ u. ⊤) (LeavesIn false) (any_ok (section_unit s l.0)) (λ u k. refl)
within_leaves false s c l = refl

turn_leaves : (b : Bool) (m : Mode) (l : ℕ × List ℕ) → IfOk (turn_at b m l) (LeavesIn (stays_inside (in_section m) (fields l.1)))
turn_leaves b m l = grind (arith, between_leaves, within_leaves)

-- ---- texts

by_turn : (k : Mark) (above : ℕ × List ℕ) (here : List Remark) (ls : List (ℕ × List ℕ)) (b : Bool) (r : Result LineTurn (ℕ × DeckCause)) → IfOk r (LeavesIn b)
    → ((m : Mode) → OnOk (deck_lines m ls) (scanned_from k (in_section m) above ls ≡ remarks_from k m above ls))
    → OnOk (r >>= λ t. ok_as (λ rest. t.lines ++ rest) (deck_lines t.mode ls)) (here ++ scanned_from k b above ls ≡ here ++ after_line r (λ m. remarks_from k m above ls))
by_turn k above here ls b r leaves rest = grind (arith, as_ok)

-- line by line, from any mode of the reader
scanned_from_lem : (k : Mark) (m : Mode) (above : ℕ × List ℕ) (ls : List (ℕ × List ℕ)) → OnOk (deck_lines m ls) (scanned_from k (in_section m) above ls ≡ remarks_from k m above ls)
unfolding deck_lines scanned_from remarks_from
scanned_from_lem k (Between c) above [] = refl
scanned_from_lem k (Within s c) above [] = tt
scanned_from_lem k m above (l ∷ ls) =
    by_turn k (above_after l above) (just (remark_at (in_section m) (text_in k l.1) l.0 above)) ls (stays_inside (in_section m) (fields l.1)) (turn_at (l.0 == 20001) m l) (turn_leaves (l.0 == 20001) m l)
    (λ i. scanned_from_lem k i (above_after l above) ls)

-- if a text is a deck, the pass finds its remarks
pub scanned_is : (k : Mark) (text : List ℕ) → OnOk (deck_read text) (scanned k text ≡ remarks k text)
unfolding deck_read scanned remarks
scanned_is k text = scanned_from_lem k (Between (record { units = []; powered = false })) (0, []) (with_numbers 1 (lines text))
