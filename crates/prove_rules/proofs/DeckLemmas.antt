-- Each `load` line of a text that is a deck is a line of the deck.
use Rattle.std.proofs.Common.{◌≡◌, ◌<◌, ℕ, suc, Bool, true, false, not, cond, List, [], ◌∷◌, ◌++◌, Option, Some, None, Result, Ok, Err, arith, refl, sym, ap, ◌∙◌}
use Rattle.std.specs.Prelude.{◌==◌, ◌&&◌, ◌||◌, ⊤, bytes_eq, codes, is_some, nat_lt, ok_or, IfOk}
use Rattle.std.proofs.lemmas.Bool.{eqb-true}
use Rattle.mc_words.specs.model_device.specs.Bytes.{lookup}
use Rattle.mc_words.specs.model_device.proofs.MapLemmas.{each_found}
use Rattle.mc_text.specs.model_text.specs.Text.{ok_as, err_as, only_if, ◌>>=◌, begins, fields, lines, with_numbers}
use Rattle.mc_unit.specs.model_card.specs.Units.{unit_read}
use Rattle.model_rule_text.specs.model_play.specs.declared.deck.DeckCause.{DeckCause}
use Rattle.model_rule_text.specs.model_play.specs.declared.deck.DeckCause.TheVariants.{BadLine, LateLine, UnknownName}
use Rattle.model_rule_text.specs.model_play.specs.declared.deck.DeckCause.TheVariants as causes
use Rattle.model_rule_text.specs.model_play.specs.DeckGrammar.{hex_field, aid_field, fill_field, name_field, number_field, Context, DeckLine, Section, Stated, Says, Opens, Word, FormatWord, PowerWord, UnitWord, AppWord, LoadWord, SelectWord, DeleteWord, DumpWord, ApduWord, BudgetWord, CutWord, FailWord, PokeWord, deck_words, new_name, early, with_unit, statement_of, LineTurn, Mode, Between, Within, between, within, turn_at, turn_in, turn_of, section_unit, deck_lines, deck_read}
use Rattle.model_rule_text.specs.model_text.specs.Text.{is_end}
use Rattle.model_rule_text.specs.model_play.specs.DeckGrammar as line
use Rattle.model_rule_text.specs.model_text.specs.Text.{begins_with, stays_inside}
use Rattle.model_rule_text.specs.Reading.{load_names}
use Rattle.prove_rules.specs.Loads.{first_named, loaded, loaded_at}
use Rattle.prove_rules.proofs.LoadLemmas.{alike, first_above, named_by, names_rise, not_lower, unlike}

abbrev Lines : Type 0
Lines = List (ℕ × DeckLine)

-- ---- results of parts

then_each : {A E : Type 0} (P : Stated → Type 0) (r : Result A E) (f : A → Result Stated E) → ((a : A) → IfOk (f a) P) → IfOk (r >>= f) P
then_each P (Ok a) f h = h a
then_each P (Err e) f h = tt

as_each : {A E : Type 0} (P : Stated → Type 0) (f : A → Stated) (r : Result A E) → ((a : A) → P (f a)) → IfOk (ok_as f r) P
as_each P f (Ok a) h = h a
as_each P f (Err e) h = tt

only_each : {E : Type 0} (P : Stated → Type 0) (b : Bool) (e : E) (s : Stated) → P s → IfOk (only_if b e s) P
only_each P true e s h = h
only_each P false e s h = tt

turned_as : {A E : Type 0} (f : A → LineTurn) (r : Result A E) (P : A → Type 0) (Q : LineTurn → Type 0) → IfOk r P → ((a : A) → P a → Q (f a)) → IfOk (ok_as f r) Q
turned_as f (Ok a) P Q h k = k a h
turned_as f (Err e) P Q h k = tt

turned_err : {E F : Type 0} (f : E → F) (r : Result LineTurn E) (Q : LineTurn → Type 0) → IfOk r Q → IfOk (err_as f r) Q
turned_err f (Ok t) Q h = h
turned_err f (Err e) Q h = tt

turned_any : {A E : Type 0} (r : Result A E) → IfOk r (λ a. ⊤)
turned_any (Ok a) = tt
turned_any (Err e) = tt

turned_if : {E : Type 0} (b : Bool) (r s : Result LineTurn E) (Q : LineTurn → Type 0) → (b ≡ true → IfOk r Q) → (b ≡ false → IfOk s Q) → IfOk (cond b r s) Q
turned_if true r s Q h k = h refl
turned_if false r s Q h k = k refl

-- ---- statements

abbrev is_app : Word → Bool
is_app AppWord = true
is_app w = false

abbrev is_load : Word → Bool
is_load LoadWord = true
is_load w = false

-- a statement by its word, at a line: `app` opens a section there, and `load` loads
abbrev StatesAs : Word → ℕ → Stated → Type 0
StatesAs w n (Says l c) = (is_app w ≡ false) × ((not (is_load w) || is_some (loaded l)) ≡ true)
StatesAs w n (Opens s c) = (is_app w ≡ true) × (s.first ≡ n)

stated : (c : Context) (n : ℕ) (w : Word) (fs : List (List ℕ)) → IfOk (statement_of c n w fs) (StatesAs w n)
unfolding statement_of
stated c n FormatWord [] = only_each (StatesAs FormatWord n) (not c.powered) LateLine (Says line.Format c) (refl, refl)
stated c n PowerWord [] = (refl, refl)
stated c n UnitWord (name ∷ hex ∷ []) =
    then_each (StatesAs UnitWord n) (name_field name) (λ name. hex_field hex >>= λ bytes. new_name c name >>= λ name. err_as causes.Unit (unit_read bytes) >>= λ u. Ok (Says line.Named (with_unit c name u)))
    (λ name. then_each (StatesAs UnitWord n) (hex_field hex) (λ bytes. new_name c name >>= λ name. err_as causes.Unit (unit_read bytes) >>= λ u. Ok (Says line.Named (with_unit c name u)))
    (λ bytes. then_each (StatesAs UnitWord n) (new_name c name) (λ name. err_as causes.Unit (unit_read bytes) >>= λ u. Ok (Says line.Named (with_unit c name u)))
    (λ name. then_each (StatesAs UnitWord n) (err_as causes.Unit (unit_read bytes)) (λ u. Ok (Says line.Named (with_unit c name u))) (λ u. (refl, refl)))))
stated c n AppWord (name ∷ aid ∷ []) =
    then_each (StatesAs AppWord n) (name_field name) (λ name. aid_field aid >>= λ aid. new_name c name >>= λ name. Ok (Opens (record { first = n; name = name; aid = aid; lines = [] }) c))
    (λ name. then_each (StatesAs AppWord n) (aid_field aid) (λ aid. new_name c name >>= λ name. Ok (Opens (record { first = n; name = name; aid = aid; lines = [] }) c))
    (λ aid. then_each (StatesAs AppWord n) (new_name c name) (λ name. Ok (Opens (record { first = n; name = name; aid = aid; lines = [] }) c)) (λ name. (refl, refl))))
stated c n LoadWord (name ∷ fixed ∷ session ∷ []) =
    then_each (StatesAs LoadWord n) (name_field name) (λ name. number_field 0 65535 fixed >>= λ fixed. number_field 0 65535 session >>= λ session. ok_or (lookup c.units name) UnknownName >>= λ u. Ok (Says (line.Sent (line.Load u fixed session)) c))
    (λ name. then_each (StatesAs LoadWord n) (number_field 0 65535 fixed) (λ fixed. number_field 0 65535 session >>= λ session. ok_or (lookup c.units name) UnknownName >>= λ u. Ok (Says (line.Sent (line.Load u fixed session)) c))
    (λ fixed. then_each (StatesAs LoadWord n) (number_field 0 65535 session) (λ session. ok_or (lookup c.units name) UnknownName >>= λ u. Ok (Says (line.Sent (line.Load u fixed session)) c))
    (λ session. then_each (StatesAs LoadWord n) (ok_or (lookup c.units name) UnknownName) (λ u. Ok (Says (line.Sent (line.Load u fixed session)) c)) (λ u. (refl, refl)))))
stated c n SelectWord (aid ∷ []) = as_each (StatesAs SelectWord n) (λ a. Says (line.Sent (line.Select a)) c) (aid_field aid) (λ a. (refl, refl))
stated c n DeleteWord (aid ∷ []) = as_each (StatesAs DeleteWord n) (λ a. Says (line.Sent (line.Delete a)) c) (aid_field aid) (λ a. (refl, refl))
stated c n DumpWord (aid ∷ []) = as_each (StatesAs DumpWord n) (λ a. Says (line.Dump a) c) (aid_field aid) (λ a. (refl, refl))
stated c n ApduWord (hex ∷ []) = as_each (StatesAs ApduWord n) (λ b. Says (line.Sent (line.Apdu b)) c) (hex_field hex) (λ b. (refl, refl))
stated c n BudgetWord (b ∷ []) = as_each (StatesAs BudgetWord n) (λ b. Says (line.Budget b) c) (number_field 1 65536 b) (λ b. (refl, refl))
stated c n CutWord (k ∷ fill ∷ []) =
    then_each (StatesAs CutWord n) (number_field 1 4294967295 k) (λ k. fill_field fill >>= λ fill. Ok (Says (line.Cut k fill) c))
    (λ k. then_each (StatesAs CutWord n) (fill_field fill) (λ fill. Ok (Says (line.Cut k fill) c)) (λ fill. (refl, refl)))
stated c n FailWord (k ∷ []) = as_each (StatesAs FailWord n) (λ k. Says (line.Fail k) c) (number_field 1 4294967295 k) (λ k. (refl, refl))
stated c n PokeWord (at ∷ fill ∷ []) =
    then_each (StatesAs PokeWord n) (number_field 0 16383 at) (λ at. fill_field fill >>= λ fill. early c (line.Poke at fill))
    (λ at. then_each (StatesAs PokeWord n) (fill_field fill) (λ fill. early c (line.Poke at fill)) (λ fill. only_each (StatesAs PokeWord n) (not c.powered) LateLine (Says (line.Poke at fill) c) (refl, refl)))
stated c n _ _ = tt

-- ---- lines

abbrev in_section : Mode → Bool
in_section (Between c) = false
in_section (Within s c) = true

-- a section that is open began before a line
abbrev Before : ℕ → Mode → Type 0
Before n (Between c) = ⊤
Before n (Within s c) = s.first < n

-- what a line of a number makes: it says nothing of later lines, and a `load` line loads
record Turned (k : ℕ) (inside : Bool) (fs : List (List ℕ)) (t : LineTurn) : Type 0 where
  leaves : in_section t.mode ≡ stays_inside inside fs
  before : Before (suc k) t.mode
  later : (n : ℕ) (rest : Lines) → k < n → loaded_at n (t.lines ++ rest) ≡ loaded_at n rest
  loads : (rest : Lines) → (not inside && begins_with (codes "load") fs) ≡ true → is_some (loaded_at k (t.lines ++ rest)) ≡ true

skip_line : (n m : ℕ) (x : DeckLine) (rest : Lines) → m < n → loaded_at n ((m, x) ∷ rest) ≡ loaded_at n rest
skip_line n m x rest h =
    ap (λ b. cond b (loaded x) (cond (nat_lt n m) None (loaded_at n rest))) (unlike m n h) ∙ ap (λ b. cond b None (loaded_at n rest)) (not_lower n m h)

hit_line : (n : ℕ) (x : DeckLine) (rest : Lines) → loaded_at n ((n, x) ∷ rest) ≡ loaded x
hit_line n x rest = ap (λ b. cond b (loaded x) (cond (nat_lt n n) None (loaded_at n rest))) (alike n n refl)

no_mark : (word : List ℕ) (other : List ℕ) → begins 35 word ≡ true → ((xs : List ℕ) → bytes_eq (35 ∷ xs) other ≡ false) → bytes_eq [] other ≡ false → bytes_eq word other ≡ false
no_mark [] other h f g = g
no_mark (x ∷ xs) other h f g = ap (λ (y : ℕ). bytes_eq (y ∷ xs) other) (eqb-true x 35 h) ∙ f xs

app_word : (word : List ℕ) (w : Word) → lookup deck_words word ≡ Some w → bytes_eq word (codes "app") ≡ is_app w
app_word word w e =
    each_found (λ k. bytes_eq k.0 (codes "app") ≡ is_app k.1) deck_words word w
    (refl, (refl, (refl, (refl, (refl, (refl, (refl, (refl, (refl, (refl, (refl, (refl, (refl, tt))))))))))))) e

load_word : (word : List ℕ) (w : Word) → lookup deck_words word ≡ Some w → bytes_eq word (codes "load") ≡ is_load w
load_word word w e =
    each_found (λ k. bytes_eq k.0 (codes "load") ≡ is_load k.1) deck_words word w
    (refl, (refl, (refl, (refl, (refl, (refl, (refl, (refl, (refl, (refl, (refl, (refl, (refl, tt))))))))))))) e

shown_by : (a b : Bool) → (not a || b) ≡ true → a ≡ true → b ≡ true
shown_by true b h e = h
shown_by false b h e = absurd (cc e)

clash : (w : Word) → is_app w ≡ true → is_load w ≡ true → ⊥
clash w e h = grind arith

made : (k : ℕ) (word : List ℕ) (rest : List (List ℕ)) (w : Word) → lookup deck_words word ≡ Some w → (s : Stated) → StatesAs w k s → Turned k false (word ∷ rest) (turn_of k s)
made k word rest w e (Says l c) h = record {
  leaves = sym (app_word word w e ∙ h.0);
  before = tt;
  later = λ n more i. skip_line n k l more i;
  loads = λ more i. ap is_some (hit_line k l more) ∙ shown_by (is_load w) (is_some (loaded l)) h.1 (sym (load_word word w e) ∙ i);
}
made k word rest w e (Opens s c) h = record {
  leaves = sym (app_word word w e ∙ h.0);
  before = (let f = h.1 in omega (arith, f));
  later = λ n more i. refl;
  loads = λ more i. absurd (clash w h.0 (sym (load_word word w e) ∙ i));
}

by_word : (c : Context) (k : ℕ) (word : List ℕ) (rest : List (List ℕ)) (o : Option Word) → lookup deck_words word ≡ o
    → IfOk (ok_or o BadLine >>= λ w. ok_as (turn_of k) (statement_of c k w rest)) (Turned k false (word ∷ rest))
by_word c k word rest None e = tt
by_word c k word rest (Some w) e = turned_as (turn_of k) (statement_of c k w rest) (StatesAs w k) (Turned k false (word ∷ rest)) (stated c k w rest) (made k word rest w e)

comment : (c : Context) (k : ℕ) (word : List ℕ) (rest : List (List ℕ)) → begins 35 word ≡ true → Turned k false (word ∷ rest) (record { lines = []; mode = Between c })
comment c k word rest h = record {
  leaves = sym (no_mark word (codes "app") h (λ xs. refl) refl);
  before = tt;
  later = λ n more i. refl;
  loads = λ more i. absurd (cc (sym i ∙ no_mark word (codes "load") h (λ xs. refl) refl));
}

between_turns : (c : Context) (k : ℕ) (fs : List (List ℕ)) → IfOk (between c k fs) (Turned k false fs)
between_turns c k [] = record { leaves = refl; before = tt; later = λ n more i. refl; loads = λ more i. absurd (cc i) }
between_turns c k (word ∷ rest) = grind (arith, turned_if, comment, turned_err, by_word)

within_turns : (b : Bool) (s : Section) (c : Context) (k : ℕ) (l : List ℕ) → is_end (fields l) ≡ b → s.first < k → IfOk (within b s c (k, l)) (Turned k true (fields l))
unfolding within
within_turns true s c k l e h =
    turned_as (λ u. record { lines = (s.first, line.Named) ∷ []; mode = Between (with_unit c s.name u) }) (section_unit s k) (λ u. ⊤) (Turned k true (fields l)) (turned_any (section_unit s k)) (λ u i. record {
      leaves = sym (ap not e);
      before = tt;
      later = λ n more j. skip_line n s.first line.Named more (omega (arith, h, j));
      loads = λ more j. absurd (cc j);
    })
within_turns false s c k l e h = record {
  leaves = sym (ap not e);
  before = omega (arith, h);
  later = λ n more j. refl;
  loads = λ more j. absurd (cc j);
}

turns : (b : Bool) (m : Mode) (k : ℕ) (l : List ℕ) → Before k m → IfOk (turn_at b m (k, l)) (Turned k (in_section m) (fields l))
turns b m k l h = grind (arith, between_turns, within_turns)

-- ---- texts

abbrev Read : Type 0
Read = Result Lines (ℕ × DeckCause)

-- the lines that are left are read, and the first `load` line of a name is among them
abbrev Found : List ℕ → Mode → ℕ → List (List ℕ) → Type 0
Found name m k ls = (d : Lines) (n : ℕ) → Before k m → deck_lines m (with_numbers k ls) ≡ Ok d → first_named (load_names (in_section m) (with_numbers k ls)) name ≡ Some n → is_some (loaded_at n d) ≡ true

found_later : (name : List ℕ) (k : ℕ) (inside : Bool) (fs : List (List ℕ)) (t : LineTurn) (ls : List (List ℕ)) (e d : Lines) (n : ℕ) → Turned k inside fs t → deck_lines t.mode (with_numbers (suc k) ls) ≡ Ok e → t.lines ++ e ≡ d
    → first_named (load_names (stays_inside inside fs) (with_numbers (suc k) ls)) name ≡ Some n → Found name t.mode (suc k) ls → is_some (loaded_at n d) ≡ true
found_later name k inside fs t ls e d n h read whole first again =
    grind (arith, first_above name (suc k) n (load_names (stays_inside inside fs) (with_numbers (suc k) ls)) (names_rise (stays_inside inside fs) (suc k) ls) first)

found_by : (name : List ℕ) (k : ℕ) (inside p q : Bool) (fs : List (List ℕ)) (t : LineTurn) (ls : List (List ℕ)) (e d : Lines) (n : ℕ) → Turned k inside fs t → (not inside && begins_with (codes "load") fs) ≡ p
    → deck_lines t.mode (with_numbers (suc k) ls) ≡ Ok e → t.lines ++ e ≡ d → cond (p && q) (Some k) (first_named (load_names (stays_inside inside fs) (with_numbers (suc k) ls)) name) ≡ Some n
    → Found name t.mode (suc k) ls → is_some (loaded_at n d) ≡ true
found_by name k inside p q fs t ls e d n h p12 read whole first again = grind (arith, found_later)

rest_by : (name : List ℕ) (k : ℕ) (inside : Bool) (l : List ℕ) (t : LineTurn) (ls : List (List ℕ)) (x : Read) (d : Lines) (n : ℕ) → Turned k inside (fields l) t → deck_lines t.mode (with_numbers (suc k) ls) ≡ x
    → ok_as (λ rest. t.lines ++ rest) x ≡ Ok d → first_named (load_names inside ((k, l) ∷ with_numbers (suc k) ls)) name ≡ Some n → Found name t.mode (suc k) ls → is_some (loaded_at n d) ≡ true
rest_by name k inside l t ls x d n h read e first again = grind (arith, found_by, named_by)

turn_by : (name : List ℕ) (k : ℕ) (inside : Bool) (l : List ℕ) (r : Result LineTurn (ℕ × DeckCause)) (ls : List (List ℕ)) (d : Lines) (n : ℕ) → IfOk r (Turned k inside (fields l))
    → (r >>= λ t. ok_as (λ rest. t.lines ++ rest) (deck_lines t.mode (with_numbers (suc k) ls))) ≡ Ok d → first_named (load_names inside ((k, l) ∷ with_numbers (suc k) ls)) name ≡ Some n
    → ((m : Mode) → Found name m (suc k) ls) → is_some (loaded_at n d) ≡ true
turn_by name k inside l (Err c) ls d n h e first again = absurd (cc e)
turn_by name k inside l (Ok t) ls d n h e first again = rest_by name k inside l t ls (deck_lines t.mode (with_numbers (suc k) ls)) d n h refl e first (again t.mode)

found : (name : List ℕ) (m : Mode) (k : ℕ) (ls : List (List ℕ)) → Found name m k ls
unfolding deck_lines
found name m k [] d n b e first = absurd (cc first)
found name m k (l ∷ ls) d n b e first =
    turn_by name k (in_section m) l (turn_at (k == 20001) m (k, l)) ls d n (turns (k == 20001) m k l b) e first (λ o. found name o (suc k) ls)

-- the first `load` line of a name is a line of the deck that loads
pub line_loads : (text name : List ℕ) (d : Lines) (n : ℕ) → deck_read text ≡ Ok d → Some n ≡ first_named (load_names false (with_numbers 1 (lines text))) name → is_some (loaded_at n d) ≡ true
unfolding deck_read
line_loads text name d n e first = found name (Between (record { units = []; powered = false })) 1 (lines text) d n tt e (sym first)
