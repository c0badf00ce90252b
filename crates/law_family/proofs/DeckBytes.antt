-- What the lines of a deck that was read carry is bytes.
use Rattle.std.proofs.Common.{◌≡◌, ℕ, zero, suc, ◌+◌, ◌*◌, ◌-◌, ◌≤◌, ◌<◌, Bool, true, false, cond, not, List, [], ◌∷◌, ◌++◌, take, drop, length, Option, Some, None, Result, Ok, Err, refl, sym, subst, arith}
use Rattle.std.specs.Prelude.{⊤, ◌==◌, nat_le, ok_or, option_map, option_and_then, IfOk, IfSome}
use Rattle.std.specs.List.{AllByRecursion}
use Rattle.std.proofs.lemmas.Bool.{and_parts, leb-true}
use Rattle.std.proofs.Math.Seq.{take-length}
use Rattle.model_play.specs.declared.deck.DeckCause.{DeckCause}
use Rattle.model_play.specs.declared.deck.DeckCause.TheVariants.{BadLine, BadHex, OutOfRange, UnknownName, LateLine}
use Rattle.model_play.specs.declared.deck.DeckCause.TheVariants as causes
use Rattle.model_play.specs.model_device.specs.Bytes.{AreBytes, lookup}
use Rattle.model_play.specs.model_text.specs.Text.{◌>>=◌, ok_as, err_as, begins, lines, with_numbers, fields, is_within, is_digit, hex_value, before_values, hex_values, bytes_of_digits, hex_bytes}
use Rattle.model_play.specs.model_card.specs.Units.{UnitParts, unit_read}
use Rattle.model_play.specs.model_text.specs.Assembly.{assembled_lines}
use Rattle.model_play.specs.DeckGrammar.{DeckLine, hex_field, bytes_field, aid_field, fill_field, name_field, number_field, Context, Section, Stated, Says, Opens, Word, FormatWord, PowerWord, UnitWord, AppWord, LoadWord, SelectWord, DeleteWord, DumpWord, ApduWord, BudgetWord, CutWord, FailWord, PokeWord, deck_words, new_name, early, with_unit, statement_of, made_unit, unit_within, is_data, data_hex, data_of_line, section_data, section_program, section_unit, Mode, Between, Within, LineTurn, turn_of, between, within, turn_in, turn_at, lines_at_end, deck_lines, deck_read}
use Rattle.model_play.specs.model_text.specs.Text.{is_end}
use Rattle.model_play.specs.DeckGrammar as line
use Rattle.model_play.specs.Play.{FailedWrite, State, step, plays, first_failure}
use Rattle.model_play.specs.ReadyAgain.{IsLine, AreLines}
use Rattle.model_play.specs.model_device.proofs.ImageLemmas.{all_append}
use Rattle.law_family.specs.ReadDecks.{ReadLinesLaw, ReadDecksLaw}
use Rattle.law_family.proofs.AssembledBytes.{bind_ok, as_ok, err_ok, only_ok, cond_ok, any_ok, assembled_ok}
use Rattle.law_family.proofs.UnitBytes.{UnitBytes, unit_ok}
use Rattle.model_play.proofs.PlayLemmas.{step_is}
use Rattle.law_family.proofs.FewLines.{few_words}
use Rattle.law_family.proofs.ReadyLines.{ready_again}
use Rattle.model_play.specs.model_device.proofs.MapLemmas.{each_found}

-- ---- fields

cond_some : {A : Type 0} (b : Bool) (o p : Option A) (P : A → Type 0) → (b ≡ true → IfSome o P) → (b ≡ false → IfSome p P) → IfSome (cond b o p) P
cond_some true o p P h k = h refl
cond_some false o p P h k = k refl

Digit : ℕ → Type 0
Digit v = v < 16

at_most : (low high c : ℕ) → is_within low high c ≡ true → c ≤ high
at_most low high c h = leb-true c high (and_parts (nat_le low c) (nat_le c high) h).1

value_low : (c : ℕ) → IfSome (hex_value c) Digit
unfolding Digit
value_low c =
    cond_some (is_digit c) (Some (c - 48)) (cond (is_within 65 70 c) (Some (c - 55)) (cond (is_within 97 102 c) (Some (c - 87)) None)) Digit (λ e. let most : c ≤ 57 = at_most 48 57 c e in omega arith)
    (λ n. cond_some (is_within 65 70 c) (Some (c - 55)) (cond (is_within 97 102 c) (Some (c - 87)) None) Digit (λ e. let most : c ≤ 70 = at_most 65 70 c e in omega arith)
    (λ n. cond_some (is_within 97 102 c) (Some (c - 87)) None Digit (λ e. let most : c ≤ 102 = at_most 97 102 c e in omega arith) (λ n. tt)))

before_low : (o : Option ℕ) (p : Option (List ℕ)) → IfSome o Digit → IfSome p (λ vs. AllByRecursion Digit vs) → IfSome (before_values o p) (λ vs. AllByRecursion Digit vs)
before_low o p h k = grind arith

values_low : (t : List ℕ) → IfSome (hex_values t) (λ vs. AllByRecursion Digit vs)
values_low [] = tt
values_low (c ∷ t) = before_low (hex_value c) (hex_values t) (value_low c) (values_low t)

more_bytes : (n : ℕ) (o : Option (List ℕ)) → n < 256 → IfSome o AreBytes → IfSome (option_map (λ bs. n ∷ bs) o) AreBytes
more_bytes n None h k = tt
more_bytes n (Some bs) h k = (h, k)

paired_bytes : (vs : List ℕ) → AllByRecursion Digit vs → IfSome (bytes_of_digits vs) AreBytes
unfolding Digit
paired_bytes [] h = tt
paired_bytes (a ∷ []) h = tt
paired_bytes (a ∷ b ∷ vs) h = let x : a < 16 = h.0 in let y : b < 16 = h.1.0 in more_bytes (a * 16 + b) (bytes_of_digits vs) (omega arith) (paired_bytes vs h.1.1)

some_paired : (o : Option (List ℕ)) → IfSome o (λ vs. AllByRecursion Digit vs) → IfSome (option_and_then bytes_of_digits o) AreBytes
some_paired None h = tt
some_paired (Some vs) h = paired_bytes vs h

some_ok : {A E : Type 0} (o : Option A) (e : E) (P : A → Type 0) → IfSome o P → IfOk (ok_or o e) P
some_ok None e P h = tt
some_ok (Some a) e P h = h

hex_ok : (t : List ℕ) → IfOk (hex_field t) AreBytes
hex_ok t = some_ok (hex_bytes t) BadHex AreBytes (some_paired (hex_values t) (values_low t))

bytes_ok : (low high : ℕ) (t : List ℕ) → IfOk (bytes_field low high t) (λ b. AreBytes b × (is_within low high (length b) ≡ true))
bytes_ok low high t = grind (arith, bind_ok, hex_ok, only_ok)

Fill : List ℕ → Type 0
Fill b = AreBytes b × (length b ≡ 8)

map_ok : {A E : Type 0} (r : Result A E) (P Q : A → Type 0) → IfOk r P → ((a : A) → P a → Q a) → IfOk r Q
map_ok (Ok a) P Q h k = k a h
map_ok (Err e) P Q h k = tt

exactly : (n : ℕ) → is_within 8 8 n ≡ true → n ≡ 8
exactly n h = grind (arith, and_parts, leb-true)

fill_ok : (t : List ℕ) → IfOk (fill_field t) Fill
unfolding Fill
fill_ok t = map_ok (fill_field t) (λ b. AreBytes b × (is_within 8 8 (length b) ≡ true)) Fill (bytes_ok 8 8 t) (λ b h. (h.0, exactly (length b) h.1))

Aid : List ℕ → Type 0
Aid b = AreBytes b × (length b ≤ 16)

aid_ok : (t : List ℕ) → IfOk (aid_field t) Aid
unfolding Aid
aid_ok t = map_ok (aid_field t) (λ b. AreBytes b × (is_within 5 16 (length b) ≡ true)) Aid (bytes_ok 5 16 t) (λ b h. (h.0, at_most 5 16 (length b) h.1))

-- ---- statements

abbrev ContextBytes : Context → Type 0
ContextBytes c = AllByRecursion {X = List ℕ × UnitParts} (λ e. UnitBytes e.1) c.units

abbrev SectionBytes : Section → Type 0
SectionBytes s = AreBytes s.aid × (length s.aid ≤ 16)

abbrev StatedBytes : Stated → Type 0
StatedBytes (Says l c) = IsLine l × ContextBytes c
StatedBytes (Opens s c) = SectionBytes s × ContextBytes c

early_ok : (c : Context) (l : DeckLine) → ContextBytes c → IsLine l → IfOk (early c l) StatedBytes
early_ok c l h is = only_ok (not c.powered) LateLine (Says l c) StatedBytes (λ e. (is, h))

found_unit : (us : List (List ℕ × UnitParts)) (name : List ℕ) (o : Option UnitParts) → lookup us name ≡ o → AllByRecursion {X = List ℕ × UnitParts} (λ e. UnitBytes e.1) us → IfOk (ok_or o UnknownName) UnitBytes
found_unit us name None e h = tt
found_unit us name (Some u) e h = each_found (λ x. UnitBytes x.1) us name u h e

stated_ok : (c : Context) (n : ℕ) (w : Word) (fs : List (List ℕ)) → ContextBytes c → IfOk (statement_of c n w fs) StatedBytes
unfolding statement_of Fill Aid
stated_ok c n FormatWord [] h = early_ok c line.Format h tt
stated_ok c n PowerWord [] h = (tt, h)
stated_ok c n UnitWord (name ∷ hex ∷ []) h =
    bind_ok (name_field name) (λ name. hex_field hex >>= λ bytes. new_name c name >>= λ name. err_as causes.Unit (unit_read bytes) >>= λ u. Ok (Says line.Named (with_unit c name u))) (λ x. ⊤) StatedBytes (any_ok (name_field name))
    (λ name i. bind_ok (hex_field hex) (λ bytes. new_name c name >>= λ name. err_as causes.Unit (unit_read bytes) >>= λ u. Ok (Says line.Named (with_unit c name u))) AreBytes StatedBytes (hex_ok hex)
    (λ bytes j. bind_ok (new_name c name) (λ name. err_as causes.Unit (unit_read bytes) >>= λ u. Ok (Says line.Named (with_unit c name u))) (λ x. ⊤) StatedBytes (any_ok (new_name c name))
    (λ name k. bind_ok (err_as causes.Unit (unit_read bytes)) (λ u. Ok (Says line.Named (with_unit c name u))) UnitBytes StatedBytes (err_ok causes.Unit (unit_read bytes) UnitBytes (unit_ok bytes j)) (λ u l. (tt, (l, h))))))
stated_ok c n AppWord (name ∷ aid ∷ []) h =
    bind_ok (name_field name) (λ name. aid_field aid >>= λ aid. new_name c name >>= λ name. Ok (Opens (record { first = n; name = name; aid = aid; lines = [] }) c)) (λ x. ⊤) StatedBytes (any_ok (name_field name))
    (λ name i. bind_ok (aid_field aid) (λ aid. new_name c name >>= λ name. Ok (Opens (record { first = n; name = name; aid = aid; lines = [] }) c)) Aid StatedBytes (aid_ok aid)
    (λ aid j. bind_ok (new_name c name) (λ name. Ok (Opens (record { first = n; name = name; aid = aid; lines = [] }) c)) (λ x. ⊤) StatedBytes (any_ok (new_name c name)) (λ name k. (j, h))))
stated_ok c n LoadWord (name ∷ fixed ∷ session ∷ []) h =
    bind_ok (name_field name) (λ name. number_field 0 65535 fixed >>= λ fixed. number_field 0 65535 session >>= λ session. ok_or (lookup c.units name) UnknownName >>= λ u. Ok (Says (line.Sent (line.Load u fixed session)) c)) (λ x. ⊤) StatedBytes (any_ok (name_field name))
    (λ name i. bind_ok (number_field 0 65535 fixed) (λ fixed. number_field 0 65535 session >>= λ session. ok_or (lookup c.units name) UnknownName >>= λ u. Ok (Says (line.Sent (line.Load u fixed session)) c)) (λ x. ⊤) StatedBytes (any_ok (number_field 0 65535 fixed))
    (λ fixed j. bind_ok (number_field 0 65535 session) (λ session. ok_or (lookup c.units name) UnknownName >>= λ u. Ok (Says (line.Sent (line.Load u fixed session)) c)) (λ x. ⊤) StatedBytes (any_ok (number_field 0 65535 session))
    (λ session k. bind_ok (ok_or (lookup c.units name) UnknownName) (λ u. Ok (Says (line.Sent (line.Load u fixed session)) c)) UnitBytes StatedBytes (found_unit c.units name (lookup c.units name) refl h) (λ u l. (l, h)))))
stated_ok c n SelectWord (aid ∷ []) h = as_ok (λ a. Says (line.Sent (line.Select a)) c) (aid_field aid) Aid StatedBytes (aid_ok aid) (λ a k. (k.0, h))
stated_ok c n DeleteWord (aid ∷ []) h = as_ok (λ a. Says (line.Sent (line.Delete a)) c) (aid_field aid) Aid StatedBytes (aid_ok aid) (λ a k. (k.0, h))
stated_ok c n DumpWord (aid ∷ []) h = as_ok (λ a. Says (line.Dump a) c) (aid_field aid) Aid StatedBytes (aid_ok aid) (λ a k. (tt, h))
stated_ok c n ApduWord (hex ∷ []) h = as_ok (λ b. Says (line.Sent (line.Apdu b)) c) (hex_field hex) AreBytes StatedBytes (hex_ok hex) (λ b k. (k, h))
stated_ok c n BudgetWord (b ∷ []) h = as_ok (λ b. Says (line.Budget b) c) (number_field 1 65536 b) (λ x. ⊤) StatedBytes (any_ok (number_field 1 65536 b)) (λ b k. (tt, h))
stated_ok c n CutWord (k ∷ fill ∷ []) h =
    bind_ok (number_field 1 4294967295 k) (λ k. fill_field fill >>= λ fill. Ok (Says (line.Cut k fill) c)) (λ x. ⊤) StatedBytes (any_ok (number_field 1 4294967295 k))
    (λ k i. bind_ok (fill_field fill) (λ fill. Ok (Says (line.Cut k fill) c)) Fill StatedBytes (fill_ok fill) (λ fill j. (tt, h)))
stated_ok c n FailWord (k ∷ []) h = as_ok (λ k. Says (line.Fail k) c) (number_field 1 4294967295 k) (λ x. ⊤) StatedBytes (any_ok (number_field 1 4294967295 k)) (λ k j. (tt, h))
stated_ok c n PokeWord (at ∷ fill ∷ []) h =
    bind_ok (number_field 0 16383 at) (λ at. fill_field fill >>= λ fill. early c (line.Poke at fill)) (λ x. ⊤) StatedBytes (any_ok (number_field 0 16383 at))
    (λ at i. bind_ok (fill_field fill) (λ fill. early c (line.Poke at fill)) Fill StatedBytes (fill_ok fill) (λ fill j. early_ok c (line.Poke at fill) h j))
stated_ok c n _ _ h = tt

-- ---- sections

hex_of : (l : List (List ℕ)) → IfOk (data_hex l) AreBytes
hex_of l = grind (arith, hex_ok)

data_ok : (ls : List (ℕ × List ℕ)) → IfOk (section_data ls) AreBytes
data_ok [] = tt
data_ok (l ∷ ls) =
    bind_ok (err_as (λ e. (l.0, e)) (data_of_line (fields l.1))) (λ bytes. ok_as (λ rest. bytes ++ rest) (section_data ls)) AreBytes AreBytes
    (err_ok (λ e. (l.0, e)) (data_of_line (fields l.1)) AreBytes (cond_ok (is_data (fields l.1)) (data_hex (fields l.1)) (Ok []) AreBytes (λ e. hex_of (fields l.1)) (λ e. tt)))
    (λ bytes h. as_ok (λ rest. bytes ++ rest) (section_data ls) AreBytes AreBytes (data_ok ls) (λ rest k. all_append (λ b. b < 256) bytes rest h k))

made_bytes : (aid code init : List ℕ) → AreBytes aid → length aid ≤ 16 → AreBytes code → AreBytes init → UnitBytes (made_unit aid code init)
made_bytes aid code init a few c i =
    (c, i, (omega arith, (omega (arith, few), (omega arith, (omega (arith, few), a)))), (omega arith, (omega (arith, few), (omega arith, (omega (arith, few), a)))))

unit_within_bytes : (u : UnitParts) → UnitBytes u → IfOk (unit_within u) UnitBytes
unit_within_bytes u h = grind (arith, bind_ok, UnitBytes, only_ok)

section_ok : (s : Section) (n : ℕ) → SectionBytes s → IfOk (section_unit s n) UnitBytes
unfolding section_unit
section_ok s n h =
    bind_ok (section_data s.lines) (λ init. err_as (λ e. (e.0, causes.Asm e.1)) (assembled_lines (section_program s.lines)) >>= λ code. err_as (λ e. (n, causes.Unit e)) (unit_within (made_unit s.aid code init))) AreBytes UnitBytes (data_ok s.lines)
    (λ init i. bind_ok (err_as (λ e. (e.0, causes.Asm e.1)) (assembled_lines (section_program s.lines))) (λ code. err_as (λ e. (n, causes.Unit e)) (unit_within (made_unit s.aid code init))) AreBytes UnitBytes
    (err_ok (λ e. (e.0, causes.Asm e.1)) (assembled_lines (section_program s.lines)) AreBytes (assembled_ok (section_program s.lines)))
    (λ code c. err_ok (λ e. (n, causes.Unit e)) (unit_within (made_unit s.aid code init)) UnitBytes (unit_within_bytes (made_unit s.aid code init) (made_bytes s.aid code init h.0 h.1 c i))))

-- ---- line by line

abbrev LinesBytes : List (ℕ × DeckLine) → Type 0
LinesBytes ls = AllByRecursion (λ l. IsLine l.1) ls

abbrev ModeBytes : Mode → Type 0
ModeBytes (Between c) = ContextBytes c
ModeBytes (Within s c) = SectionBytes s × ContextBytes c

record TurnBytes (t : LineTurn) : Type 0 where
  lines : LinesBytes t.lines
  mode : ModeBytes t.mode

turned : (n : ℕ) (s : Stated) → StatedBytes s → TurnBytes (turn_of n s)
turned n (Says l c) h = record { lines = (h.0, tt); mode = h.1 }
turned n (Opens s c) h = record { lines = tt; mode = h }

between_ok : (c : Context) (n : ℕ) (fs : List (List ℕ)) → ContextBytes c → IfOk (between c n fs) TurnBytes
between_ok c n [] h = record { lines = tt; mode = h }
between_ok c n (word ∷ rest) h =
    cond_ok (begins 35 word) (Ok (record { lines = []; mode = Between c })) (err_as (λ e. (n, e)) (ok_or (lookup deck_words word) BadLine >>= λ w. ok_as (turn_of n) (statement_of c n w rest))) TurnBytes
    (λ e. record { lines = tt; mode = h })
    (λ e. err_ok (λ e. (n, e)) (ok_or (lookup deck_words word) BadLine >>= λ w. ok_as (turn_of n) (statement_of c n w rest)) TurnBytes
    (bind_ok (ok_or (lookup deck_words word) BadLine) (λ w. ok_as (turn_of n) (statement_of c n w rest)) (λ w. ⊤) TurnBytes (any_ok (ok_or (lookup deck_words word) BadLine))
    (λ w k. as_ok (turn_of n) (statement_of c n w rest) StatedBytes TurnBytes (stated_ok c n w rest h) (λ s j. turned n s j))))

within_ok : (b : Bool) (s : Section) (c : Context) (l : ℕ × List ℕ) → SectionBytes s → ContextBytes c → IfOk (within b s c l) TurnBytes
unfolding within
within_ok true s c l h k =
    as_ok (λ u. record { lines = (s.first, line.Named) ∷ []; mode = Between (with_unit c s.name u) }) (section_unit s l.0) UnitBytes TurnBytes (section_ok s l.0 h) (λ u j. record { lines = (tt, tt); mode = (j, k) })
within_ok false s c l h k = record { lines = tt; mode = (h, k) }

turn_ok : (m : Mode) (l : ℕ × List ℕ) → ModeBytes m → IfOk (turn_in m l) TurnBytes
turn_ok (Between c) l h = between_ok c l.0 (fields l.1) h
turn_ok (Within s c) l h = within_ok (is_end (fields l.1)) s c l h.0 h.1

at_ok : (b : Bool) (m : Mode) (l : ℕ × List ℕ) → ModeBytes m → IfOk (turn_at b m l) TurnBytes
at_ok true m l h = tt
at_ok false m l h = turn_ok m l h

ended_ok : (m : Mode) → IfOk (lines_at_end m) LinesBytes
ended_ok (Between c) = tt
ended_ok (Within s c) = tt

lines_ok : (m : Mode) (ls : List (ℕ × List ℕ)) → ModeBytes m → IfOk (deck_lines m ls) LinesBytes
unfolding deck_lines
lines_ok m [] h = ended_ok m
lines_ok m (l ∷ ls) h =
    bind_ok (turn_at (l.0 == 20001) m l) (λ t. ok_as (λ rest. t.lines ++ rest) (deck_lines t.mode ls)) TurnBytes LinesBytes (at_ok (l.0 == 20001) m l h)
    (λ t k. as_ok (λ rest. t.lines ++ rest) (deck_lines t.mode ls) LinesBytes LinesBytes (lines_ok t.mode ls k.mode) (λ rest j. all_append (λ l. IsLine l.1) t.lines rest k.lines j))

read_ok : (text : List ℕ) → IfOk (deck_read text) LinesBytes
unfolding deck_read
read_ok text = lines_ok (Between (record { units = []; powered = false })) (with_numbers 1 (lines text)) tt

-- the law of every deck that was read
pub read_lines_law : ReadLinesLaw
read_lines_law text ls e = subst (λ (r : Result (List (ℕ × DeckLine)) (ℕ × DeckCause)). IfOk r LinesBytes) e (read_ok text)

-- ---- its plays

played_lines : (n : ℕ) (z : State) (ls : List (ℕ × DeckLine)) (ws : List (Option FailedWrite)) → LinesBytes ls → AreLines (take n (plays z ls ws))
unfolding plays
played_lines zero z ls ws h = tt
played_lines (suc n) z [] ws h = tt
played_lines (suc n) z (l ∷ ls) ws h = (subst IsLine (sym (step_is z l (first_failure ws)).line) h.0, played_lines n (step z l (first_failure ws)).after ls (drop 1 ws) h.1)

-- the law of plays of lines that are bytes, whether they were read or not
pub played_bytes : (z : State) (ls : List (ℕ × DeckLine)) (ws : List (Option FailedWrite)) → AllByRecursion (λ l. IsLine l.1) ls → AreLines (plays z ls ws)
played_bytes z ls ws h = let steps = plays z ls ws in subst AreLines (take-length steps) (played_lines (length steps) z ls ws h)

pub read_decks_law : ReadDecksLaw
read_decks_law text ls m ws e image n = grind (arith, played_lines, read_lines_law, few_words, ready_again)
