-- The stops of a deck that was read are counted from 1.
use Rattle.std.proofs.Common.{arith, ◌≡◌, ℕ, ◌≤◌, Bool, true, false, not, List, [], ◌∷◌, ◌++◌, Result, Ok, subst}
use Rattle.std.specs.Prelude.{⊤, ◌==◌, ok_or, IfOk}
use Rattle.std.specs.List.{AllByRecursion}
use Rattle.std.proofs.lemmas.Bool.{and_parts, leb-true}
use Rattle.law_histories.specs.model_device.specs.Bytes.{lookup}
use Rattle.law_histories.specs.model_device.proofs.ImageLemmas.{all_append}
use Rattle.law_histories.specs.model_text.specs.Text.{◌>>=◌, ok_as, err_as, begins, lines, with_numbers}
use Rattle.law_histories.specs.model_card.specs.Units.{unit_read}
use Rattle.law_histories.specs.model_play.specs.declared.deck.DeckCause.{DeckCause}
use Rattle.law_histories.specs.model_play.specs.declared.deck.DeckCause.TheVariants.{BadLine, BadNumber, OutOfRange, LateLine, UnknownName}
use Rattle.law_histories.specs.model_play.specs.declared.deck.DeckCause.TheVariants as causes
use Rattle.law_histories.specs.model_play.specs.DeckGrammar.{DeckLine, Context, Section, Stated, Says, Opens, Word, FormatWord, PowerWord, UnitWord, AppWord, LoadWord, SelectWord, DeleteWord, DumpWord, ApduWord, BudgetWord, CutWord, FailWord, PokeWord, statement_of, aid_field, hex_field, name_field, number_field, fill_field, new_name, with_unit, early, deck_words, Mode, Between, Within, LineTurn, turn_of, between, within, turn_at, lines_at_end, deck_lines, deck_read, section_unit}
use Rattle.law_histories.specs.model_text.specs.Text.{is_end}
use Rattle.law_histories.specs.model_play.specs.DeckGrammar as line
use Rattle.law_histories.specs.law_family.proofs.AssembledBytes.{bind_ok, as_ok, err_ok, only_ok, cond_ok, any_ok}

-- ---- stops

-- a stop that a line arms is counted from 1
abbrev pub Counts : DeckLine → Type 0
Counts (line.Cut k x) = 1 ≤ k
Counts (line.Fail k) = 1 ≤ k
Counts _ = ⊤

abbrev StatedCounts : Stated → Type 0
StatedCounts (Says l c) = Counts l
StatedCounts (Opens s c) = ⊤

number_from : (high : ℕ) (t : List ℕ) → IfOk (number_field 1 high t) (λ n. 1 ≤ n)
number_from high t = grind (arith, bind_ok, any_ok, only_ok, leb-true, and_parts)

early_counts : (c : Context) (l : DeckLine) → Counts l → IfOk (early c l) StatedCounts
early_counts c l is = only_ok (not c.powered) LateLine (Says l c) StatedCounts (λ e. is)

stated_counts : (c : Context) (n : ℕ) (w : Word) (fs : List (List ℕ)) → IfOk (statement_of c n w fs) StatedCounts
unfolding statement_of
stated_counts c n FormatWord [] = early_counts c line.Format tt
stated_counts c n PowerWord [] = tt
stated_counts c n UnitWord (name ∷ hex ∷ []) =
    bind_ok (name_field name) (λ name. hex_field hex >>= λ bytes. new_name c name >>= λ name. err_as causes.Unit (unit_read bytes) >>= λ u. Ok (Says line.Named (with_unit c name u))) (λ x. ⊤) StatedCounts (any_ok (name_field name))
    (λ name i. bind_ok (hex_field hex) (λ bytes. new_name c name >>= λ name. err_as causes.Unit (unit_read bytes) >>= λ u. Ok (Says line.Named (with_unit c name u))) (λ x. ⊤) StatedCounts (any_ok (hex_field hex))
    (λ bytes j. bind_ok (new_name c name) (λ name. err_as causes.Unit (unit_read bytes) >>= λ u. Ok (Says line.Named (with_unit c name u))) (λ x. ⊤) StatedCounts (any_ok (new_name c name))
    (λ name k. bind_ok (err_as causes.Unit (unit_read bytes)) (λ u. Ok (Says line.Named (with_unit c name u))) (λ x. ⊤) StatedCounts (any_ok (err_as causes.Unit (unit_read bytes))) (λ u l. tt))))
stated_counts c n AppWord (name ∷ aid ∷ []) =
    bind_ok (name_field name) (λ name. aid_field aid >>= λ aid. new_name c name >>= λ name. Ok (Opens (record { first = n; name = name; aid = aid; lines = [] }) c)) (λ x. ⊤) StatedCounts (any_ok (name_field name))
    (λ name i. bind_ok (aid_field aid) (λ aid. new_name c name >>= λ name. Ok (Opens (record { first = n; name = name; aid = aid; lines = [] }) c)) (λ x. ⊤) StatedCounts (any_ok (aid_field aid))
    (λ aid j. bind_ok (new_name c name) (λ name. Ok (Opens (record { first = n; name = name; aid = aid; lines = [] }) c)) (λ x. ⊤) StatedCounts (any_ok (new_name c name)) (λ name k. tt)))
stated_counts c n LoadWord (name ∷ fixed ∷ session ∷ []) =
    bind_ok (name_field name) (λ name. number_field 0 65535 fixed >>= λ fixed. number_field 0 65535 session >>= λ session. ok_or (lookup c.units name) UnknownName >>= λ u. Ok (Says (line.Sent (line.Load u fixed session)) c)) (λ x. ⊤) StatedCounts (any_ok (name_field name))
    (λ name i. bind_ok (number_field 0 65535 fixed) (λ fixed. number_field 0 65535 session >>= λ session. ok_or (lookup c.units name) UnknownName >>= λ u. Ok (Says (line.Sent (line.Load u fixed session)) c)) (λ x. ⊤) StatedCounts (any_ok (number_field 0 65535 fixed))
    (λ fixed j. bind_ok (number_field 0 65535 session) (λ session. ok_or (lookup c.units name) UnknownName >>= λ u. Ok (Says (line.Sent (line.Load u fixed session)) c)) (λ x. ⊤) StatedCounts (any_ok (number_field 0 65535 session))
    (λ session k. bind_ok (ok_or (lookup c.units name) UnknownName) (λ u. Ok (Says (line.Sent (line.Load u fixed session)) c)) (λ x. ⊤) StatedCounts (any_ok (ok_or (lookup c.units name) UnknownName)) (λ u l. tt))))
stated_counts c n SelectWord (aid ∷ []) = as_ok (λ a. Says (line.Sent (line.Select a)) c) (aid_field aid) (λ x. ⊤) StatedCounts (any_ok (aid_field aid)) (λ a k. tt)
stated_counts c n DeleteWord (aid ∷ []) = as_ok (λ a. Says (line.Sent (line.Delete a)) c) (aid_field aid) (λ x. ⊤) StatedCounts (any_ok (aid_field aid)) (λ a k. tt)
stated_counts c n DumpWord (aid ∷ []) = as_ok (λ a. Says (line.Dump a) c) (aid_field aid) (λ x. ⊤) StatedCounts (any_ok (aid_field aid)) (λ a k. tt)
stated_counts c n ApduWord (hex ∷ []) = as_ok (λ b. Says (line.Sent (line.Apdu b)) c) (hex_field hex) (λ x. ⊤) StatedCounts (any_ok (hex_field hex)) (λ b k. tt)
stated_counts c n BudgetWord (b ∷ []) = as_ok (λ b. Says (line.Budget b) c) (number_field 1 65536 b) (λ x. ⊤) StatedCounts (any_ok (number_field 1 65536 b)) (λ b k. tt)
stated_counts c n CutWord (k ∷ fill ∷ []) =
    bind_ok (number_field 1 4294967295 k) (λ k. fill_field fill >>= λ fill. Ok (Says (line.Cut k fill) c)) (λ k. 1 ≤ k) StatedCounts (number_from 4294967295 k)
    (λ k i. bind_ok (fill_field fill) (λ fill. Ok (Says (line.Cut k fill) c)) (λ x. ⊤) StatedCounts (any_ok (fill_field fill)) (λ fill j. i))
stated_counts c n FailWord (k ∷ []) = as_ok (λ k. Says (line.Fail k) c) (number_field 1 4294967295 k) (λ k. 1 ≤ k) StatedCounts (number_from 4294967295 k) (λ k j. j)
stated_counts c n PokeWord (at ∷ fill ∷ []) =
    bind_ok (number_field 0 16383 at) (λ at. fill_field fill >>= λ fill. early c (line.Poke at fill)) (λ x. ⊤) StatedCounts (any_ok (number_field 0 16383 at))
    (λ at i. bind_ok (fill_field fill) (λ fill. early c (line.Poke at fill)) (λ x. ⊤) StatedCounts (any_ok (fill_field fill)) (λ fill j. early_counts c (line.Poke at fill) tt))
stated_counts c n _ _ = tt

-- ---- line by line

abbrev LinesCount : List (ℕ × DeckLine) → Type 0
LinesCount ls = AllByRecursion (λ l. Counts l.1) ls

abbrev TurnCounts : LineTurn → Type 0
TurnCounts t = LinesCount t.lines

turned : (n : ℕ) (s : Stated) → StatedCounts s → TurnCounts (turn_of n s)
turned n (Says l c) h = (h, tt)
turned n (Opens s c) h = tt

between_counts : (c : Context) (n : ℕ) (fs : List (List ℕ)) → IfOk (between c n fs) TurnCounts
between_counts c n [] = tt
between_counts c n (word ∷ rest) =
    cond_ok (begins 35 word) (Ok (record { lines = []; mode = Between c })) (err_as (λ e. (n, e)) (ok_or (lookup deck_words word) BadLine >>= λ w. ok_as (turn_of n) (statement_of c n w rest))) TurnCounts
    (λ e. tt)
    (λ e. err_ok (λ e. (n, e)) (ok_or (lookup deck_words word) BadLine >>= λ w. ok_as (turn_of n) (statement_of c n w rest)) TurnCounts
    (bind_ok (ok_or (lookup deck_words word) BadLine) (λ w. ok_as (turn_of n) (statement_of c n w rest)) (λ w. ⊤) TurnCounts (any_ok (ok_or (lookup deck_words word) BadLine))
    (λ w i. as_ok (turn_of n) (statement_of c n w rest) StatedCounts TurnCounts (stated_counts c n w rest) (λ s h. turned n s h))))

within_counts : (b : Bool) (s : Section) (c : Context) (l : ℕ × List ℕ) → IfOk (within b s c l) TurnCounts
unfolding within
within_counts true s c l = as_ok (λ u. record { lines = (s.first, line.Named) ∷ []; mode = Between (with_unit c s.name u) }) (section_unit s l.0) (λ u. ⊤) TurnCounts (any_ok (section_unit s l.0)) (λ u i. (tt, tt))
within_counts false s c l = tt

at_counts : (b : Bool) (m : Mode) (l : ℕ × List ℕ) → IfOk (turn_at b m l) TurnCounts
at_counts b m l = grind (arith, between_counts, within_counts)

ended_counts : (m : Mode) → IfOk (lines_at_end m) LinesCount
ended_counts (Between c) = tt
ended_counts (Within s c) = tt

lines_count : (m : Mode) (ls : List (ℕ × List ℕ)) → IfOk (deck_lines m ls) LinesCount
unfolding deck_lines
lines_count m [] = ended_counts m
lines_count m (l ∷ ls) =
    bind_ok (turn_at (l.0 == 20001) m l) (λ t. ok_as (λ rest. t.lines ++ rest) (deck_lines t.mode ls)) TurnCounts LinesCount (at_counts (l.0 == 20001) m l)
    (λ t k. as_ok (λ rest. t.lines ++ rest) (deck_lines t.mode ls) LinesCount LinesCount (lines_count t.mode ls) (λ rest j. all_append (λ l. Counts l.1) t.lines rest k j))

read_counts : (text : List ℕ) → IfOk (deck_read text) LinesCount
unfolding deck_read
read_counts text = lines_count (Between (record { units = []; powered = false })) (with_numbers 1 (lines text))

-- the stops of a deck that was read are counted from 1
pub deck_counts : (text : List ℕ) (ls : List (ℕ × DeckLine)) → deck_read text ≡ Ok ls → AllByRecursion (λ l. Counts l.1) ls
deck_counts text ls e = subst (λ (r : Result (List (ℕ × DeckLine)) (ℕ × DeckCause)). IfOk r LinesCount) e (read_counts text)
