-- Turns: a line between statements, and a line of a section.
use Rattle.std.proofs.Common.{◌≡◌, ◌≢◌, ◌≤◌, Bor, arith, ℕ, ◌+◌, append_assoc, Bool, true, false, List, [], ◌∷◌, ◌++◌, Option, Some, None, Result, Ok, Err, append-nil, refl, sym, ap, subst, ◌∙◌}
use Rattle.std.specs.Prelude.{⊤, ◌==◌, option_map, MatchOption, MatchResult, IfOk, IfErr}
use Rattle.model_play.specs.model_text.specs.Text.{◌>>=◌, ok_as, fields, lines, with_numbers}
use Rattle.model_play.specs.model_card.specs.Units.{UnitParts}
use Rattle.std.specs.BTreeMap.{BTreeMap}
use Rattle.model_play.specs.declared.deck.DeckCause.{DeckCause}
use Rattle.model_play.specs.declared.deck.DeckCause.TheVariants.{NoEnd}
use Rattle.model_play.specs.DeckGrammar
use Rattle.model_play.specs.DeckGrammar.{DeckLine, Context, LineTurn, Mode, deck_lines, lines_at_end, turn_at, Between, Within, between, within, turn_in, turn_of, section_unit, with_unit, Named}
use Rattle.model_play.specs.model_text.specs.Text.{is_end}
use Rattle.mc_deck.specs.declared.refusal.DeckRefusal.{DeckRefusal}
use Rattle.mc_deck.specs.declared.refusal.DeckRefusal.TheVariants.{At, NoMemory}
use Rattle.mc_deck.specs.declared.statement.Statement.{Statement}
use Rattle.mc_deck.specs.declared.unit.OwnedUnit.{OwnedUnit}
use Rattle.mc_deck.specs.declared.line.OwnedLine.{OwnedLine}
use Rattle.mc_deck.specs.declared.section.Section.{Section}
use Rattle.mc_deck.specs.declared.reading.Reader.{Reader}
use Rattle.mc_text.specs.Reading.{next_line}
use Rattle.mc_asm.proofs.PassLemmas.{numbered_some, numbered_none}
use Rattle.mc_deck.specs.Refused.{DeckRefuses}
use Rattle.mc_deck.specs.Statements.{grammar_statement, StatementFits, InContext}
use Rattle.mc_deck.specs.Readers.{line_stated, lines_of, mode_of, StandsForContext, StandsBy, TurnTaken, LineTurned}
use Rattle.mc_deck.specs.Contexts.{AreNames}
use Rattle.mc_deck.specs.Lines.{said_lines}
use Rattle.mc_deck.proofs.ReaderLemmas.{between_skipped, between_says, between_refused}

-- the context of a reader, as the statement reader has it
pub in_context : (r : Reader) (c : Context) → StandsForContext r c → InContext r.names r.powered c
in_context r c s = record { named = s.named; power = s.power }

-- the result of reading a line: its statement, or the refusal
abbrev pub ReadsStatement : Reader → Context → ℕ → List (List ℕ) → Result (Option Statement) DeckRefusal → Type 0
ReadsStatement old c n ts r = MatchResult r (λ o. line_stated c n ts ≡ Ok (option_map (grammar_statement old.names.units.items c n) o)) (λ e. DeckRefuses (line_stated c n ts) e)

pub fits_some : (n : ℕ) (p : Bool) (s : Statement) (r : Result (Option Statement) DeckRefusal) → r ≡ Ok (Some s) → IfOk r (λ o. MatchOption o ⊤ (StatementFits n p)) → StatementFits n p s
fits_some n p s (Err e) h f = absurd (cc h)
fits_some n p s (Ok None) h f = absurd (cc h)
fits_some n p s (Ok (Some t)) h f = let e : t ≡ s = cc h in subst (StatementFits n p) e f

pub between_none : (old : Reader) (c : Context) (n : ℕ) (ts : List (List ℕ)) (r : Result (Option Statement) DeckRefusal) → r ≡ Ok None → ReadsStatement old c n ts r → StandsForContext old c → LineTurned old old None (between c n ts)
between_none old c n ts (Err e) h m s = absurd (cc h)
between_none old c n ts (Ok (Some t)) h m s = absurd (cc h)
between_none old c n ts (Ok None) h m s = record {
  turn = record { lines = []; mode = Between c };
  is = between_skipped c n ts m;
  took = record { context = c; stands = s; lines = sym (append-nil (lines_of old)); mode = refl };
}

some_took : (old new : Reader) (c : Context) (n : ℕ) (ts : List (List ℕ)) (t : Statement) (q : Result (Option Section) DeckRefusal) → between c n ts ≡ Ok (turn_of n (grammar_statement old.names.units.items c n t))
    → IfOk q (λ s. (c : Context) → StandsForContext old c → TurnTaken old new s (turn_of n (grammar_statement old.names.units.items c n t))) → IfErr q (λ e. e ≡ NoMemory) → StandsForContext old c
    → MatchResult q (λ s. LineTurned old new s (between c n ts)) (λ e. DeckRefuses (between c n ts) e)
some_took old new c n ts t (Ok s) e f g h = record { turn = turn_of n (grammar_statement old.names.units.items c n t); is = e; took = f c h }
some_took old new c n ts t (Err x) e f g h = subst (λ (x : DeckRefusal). DeckRefuses (between c n ts) x) (sym g) tt

pub between_some : (old new : Reader) (c : Context) (n : ℕ) (ts : List (List ℕ)) (t : Statement) (r : Result (Option Statement) DeckRefusal) (q : Result (Option Section) DeckRefusal) → r ≡ Ok (Some t) → ReadsStatement old c n ts r
    → IfOk q (λ s. (c : Context) → StandsForContext old c → TurnTaken old new s (turn_of n (grammar_statement old.names.units.items c n t))) → IfErr q (λ e. e ≡ NoMemory) → StandsForContext old c
    → MatchResult q (λ s. LineTurned old new s (between c n ts)) (λ e. DeckRefuses (between c n ts) e)
between_some old new c n ts t (Err e) q h m f g s = absurd (cc h)
between_some old new c n ts t (Ok None) q h m f g s = absurd (cc h)
between_some old new c n ts t (Ok (Some u)) q h m f g s =
    let e : u ≡ t = cc h in
    some_took old new c n ts t q (between_says c n ts (grammar_statement old.names.units.items c n t) (m ∙ ap (λ (u : Statement). Ok (Some (grammar_statement old.names.units.items c n u))) e)) f g s

refused_line : (c : Context) (n : ℕ) (ts : List (List ℕ)) (x : DeckRefusal) → DeckRefuses (line_stated c n ts) x → DeckRefuses (between c n ts) x
refused_line c n ts (At m e) h = between_refused c n ts (m, e) h
refused_line c n ts NoMemory h = tt

pub between_err : (old : Reader) (c : Context) (n : ℕ) (ts : List (List ℕ)) (x : DeckRefusal) (r : Result (Option Statement) DeckRefusal) → r ≡ Err x → ReadsStatement old c n ts r → DeckRefuses (between c n ts) x
between_err old c n ts x (Ok o) h m = absurd (cc h)
between_err old c n ts x (Err y) h m = let e : y ≡ x = cc h in subst (λ (x : DeckRefusal). DeckRefuses (between c n ts) x) e (refused_line c n ts y m)

-- ---- a line of a section

ends_step : (s : DeckGrammar.Section) (c : Context) (l : ℕ × List ℕ) → within true s c l ≡ ok_as (λ u. record { lines = (s.first, Named) ∷ []; mode = Between (with_unit c s.name u) }) (section_unit s l.0)
unfolding within
ends_step s c l = refl

goes_step : (s : DeckGrammar.Section) (c : Context) (l : ℕ × List ℕ) → within false s c l ≡ Ok (record { lines = []; mode = Within (record s { lines = s.lines ++ (l ∷ []) }) c })
unfolding within
goes_step s c l = refl

-- the end of a section, refused or not, and a line that goes on
pub section_ended : (s : DeckGrammar.Section) (c : Context) (n : ℕ) (t : List ℕ) (u : UnitParts) → is_end (fields t) ≡ true → section_unit s n ≡ Ok u
    → turn_in (Within s c) (n, t) ≡ Ok (record { lines = (s.first, Named) ∷ []; mode = Between (with_unit c s.name u) })
section_ended s c n t u e h = ap (λ b. within b s c (n, t)) e ∙ ends_step s c (n, t) ∙ ap (ok_as (λ u. record { lines = (s.first, Named) ∷ []; mode = Between (with_unit c s.name u) })) h

unit_refused : (s : DeckGrammar.Section) (c : Context) (n : ℕ) (t : List ℕ) (x : DeckRefusal) → is_end (fields t) ≡ true → DeckRefuses (section_unit s n) x → DeckRefuses (turn_in (Within s c) (n, t)) x
unit_refused s c n t (At m k) e h = ap (λ b. within b s c (n, t)) e ∙ ends_step s c (n, t) ∙ ap (ok_as (λ u. record { lines = (s.first, Named) ∷ []; mode = Between (with_unit c s.name u) })) h
unit_refused s c n t NoMemory e h = tt

pub section_refused : (s : DeckGrammar.Section) (c : Context) (n : ℕ) (t : List ℕ) (x : DeckRefusal) → is_end (fields t) ≡ true → DeckRefuses (section_unit s n) x → DeckRefuses (turn_in (Within s c) (n, t)) x
section_refused s c n t x e h = unit_refused s c n t x e h

pub section_goes : (s : DeckGrammar.Section) (c : Context) (n : ℕ) (t : List ℕ) → is_end (fields t) ≡ false → turn_in (Within s c) (n, t) ≡ Ok (record { lines = []; mode = Within (record s { lines = s.lines ++ ((n, t) ∷ []) }) c })
section_goes s c n t e = ap (λ b. within b s c (n, t)) e ∙ goes_step s c (n, t)

-- ---- all lines

lines_step : (m : Mode) (n : ℕ) (l : List ℕ) (ls : List (ℕ × List ℕ)) → deck_lines m ((n, l) ∷ ls) ≡ (turn_at (n == 20001) m (n, l) >>= λ t. ok_as (λ rest. t.lines ++ rest) (deck_lines t.mode ls))
unfolding deck_lines
lines_step m n l ls = refl

lines_end : (m : Mode) → deck_lines m [] ≡ lines_at_end m
unfolding deck_lines
lines_end m = refl

-- the lines so far with those of the text that is left, or the refusal of one of these
abbrev pub left_lines : List (ℕ × DeckLine) → Mode → ℕ → List ℕ → Result (List (ℕ × DeckLine)) (ℕ × DeckCause)
left_lines so m n t = ok_as (λ rest. so ++ rest) (deck_lines m (with_numbers n (lines t)))

lines_behind : (so more : List (ℕ × DeckLine)) (r : Result (List (ℕ × DeckLine)) (ℕ × DeckCause)) → ok_as (λ rest. (so ++ more) ++ rest) r ≡ ok_as (λ rest. so ++ rest) (ok_as (λ rest. more ++ rest) r)
lines_behind so more (Ok rest) = ap Ok (append_assoc so more rest)
lines_behind so more (Err e) = refl

-- one more line, a line that is refused, and the end
pub line_read : (so now : List (ℕ × DeckLine)) (m : Mode) (turn : LineTurn) (n : ℕ) (t l b : List ℕ) (whole : Result (List (ℕ × DeckLine)) (ℕ × DeckCause)) → Some (l, b) ≡ next_line t → turn_at (n == 20001) m (n, l) ≡ Ok turn
    → now ≡ so ++ turn.lines → left_lines so m n t ≡ whole → left_lines now turn.mode (n + 1) b ≡ whole
line_read so now m turn n t l b whole h e g w =
    ap (λ x. ok_as (λ rest. x ++ rest) (deck_lines turn.mode (with_numbers (n + 1) (lines b)))) g
    ∙ lines_behind so turn.lines (deck_lines turn.mode (with_numbers (n + 1) (lines b)))
    ∙ ap (ok_as (λ rest. so ++ rest)) (sym (ap (deck_lines m) (numbered_some n t l b h) ∙ lines_step m n l (with_numbers (n + 1) (lines b)) ∙ ap (λ r. r >>= λ (t : LineTurn). ok_as (λ rest. t.lines ++ rest) (deck_lines t.mode (with_numbers (n + 1) (lines b)))) e))
    ∙ w

line_stops : (so : List (ℕ × DeckLine)) (m : Mode) (n : ℕ) (t l b : List ℕ) (whole : Result (List (ℕ × DeckLine)) (ℕ × DeckCause)) (x : ℕ × DeckCause) → Some (l, b) ≡ next_line t → turn_at (n == 20001) m (n, l) ≡ Err x
    → left_lines so m n t ≡ whole → whole ≡ Err x
line_stops so m n t l b whole x h e w =
    sym w ∙ ap (ok_as (λ rest. so ++ rest)) (ap (deck_lines m) (numbered_some n t l b h) ∙ lines_step m n l (with_numbers (n + 1) (lines b)) ∙ ap (λ r. r >>= λ (t : LineTurn). ok_as (λ rest. t.lines ++ rest) (deck_lines t.mode (with_numbers (n + 1) (lines b)))) e)

pub line_refused : (so : List (ℕ × DeckLine)) (m : Mode) (n : ℕ) (t l b : List ℕ) (whole : Result (List (ℕ × DeckLine)) (ℕ × DeckCause)) (x : DeckRefusal) → Some (l, b) ≡ next_line t → DeckRefuses (turn_at (n == 20001) m (n, l)) x
    → left_lines so m n t ≡ whole → DeckRefuses whole x
line_refused so m n t l b whole (At k c) h e w = line_stops so m n t l b whole (k, c) h e w
line_refused so m n t l b whole NoMemory h e w = tt

pub lines_done : (so : List (ℕ × DeckLine)) (m : Mode) (n : ℕ) (t : List ℕ) (whole : Result (List (ℕ × DeckLine)) (ℕ × DeckCause)) → None ≡ next_line t → left_lines so m n t ≡ whole → whole ≡ ok_as (λ rest. so ++ rest) (lines_at_end m)
lines_done so m n t whole h w = sym w ∙ ap (ok_as (λ rest. so ++ rest)) (ap (deck_lines m) (numbered_none n t h) ∙ lines_end m)

-- before the first line
nothing_before : (r : Result (List (ℕ × DeckLine)) (ℕ × DeckCause)) → ok_as (λ rest. [] ++ rest) r ≡ r
nothing_before (Ok rest) = refl
nothing_before (Err e) = refl

pub first_stands : (m : BTreeMap (Bor (List ℕ)) ℕ) (us : List OwnedUnit) (ls : List (ℕ × OwnedLine)) → AreNames m us [] → us ≡ [] → ls ≡ [] → StandsBy m us false ls (record { units = []; powered = false })
first_stands m us ls a u l = record {
  named = a;
  power = refl;
  good = rw u tt;
  inside = rw l tt;
  deck = rw l (record { ranges = tt; times = tt });
  last = rw l refl;
}

pub first_lines : (us : List OwnedUnit) (ls : List (ℕ × OwnedLine)) (m : Mode) (n : ℕ) (t : List ℕ) → ls ≡ [] → left_lines (said_lines us ls) m n t ≡ deck_lines m (with_numbers n (lines t))
first_lines us ls m n t l = rw l (nothing_before (deck_lines m (with_numbers n (lines t))))

-- the end of a text between statements, and in a section
pub ended_none : (so : List (ℕ × DeckLine)) (c : Context) (s : Option Section) → s ≡ None → ok_as (λ rest. so ++ rest) (lines_at_end (mode_of s c)) ≡ Ok so
ended_none so c s h = rw h (ap Ok (append-nil so))

pub ended_some : (so : List (ℕ × DeckLine)) (c : Context) (s : Option Section) (t : Section) → s ≡ Some t → ok_as (λ rest. so ++ rest) (lines_at_end (mode_of s c)) ≡ Err (t.first, NoEnd)
ended_some so c s t h = rw h refl

pub still_few : (n : ℕ) → n ≤ 20000 → n + 1 ≢ 20001 → n + 1 ≤ 20000
still_few n h e = grind (arith, h, e)
