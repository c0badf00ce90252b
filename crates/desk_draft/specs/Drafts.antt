-- Drafts line by line: the deck of a draft, and its sections, or the first refusal.
use Rattle.std.specs.Prelude.{ℕ, ◌-◌, Bool, true, false, cond, not, ◌&&◌, ◌||◌, nat_lt, List, [], ◌∷◌, ◌++◌, map, bytes_eq, codes, unwrap_or, Option, Some, None, Result, Ok}
use Rattle.mc_text.specs.model_device.specs.Bytes.{lookup}
use Rattle.mc_text.specs.model_text.specs.Text.{◌>>=◌, ok_as, err_as, with_numbers, fields}
use Rattle.mc_deck.specs.model_play.specs.DeckGrammar.{is_data}
use Rattle.mc_text.specs.model_text.specs.Text.{is_end}
use Rattle.mc_deck.specs.model_play.specs.declared.deck.DeckCause.{DeckCause}
use Rattle.desk_draft.specs.Parts.{EndedLine, ended_lines, first_word}
use Rattle.desk_draft.specs.Declarations.{NameMeaning, Scope, DeclarationWord, empty_scope, header_names, scope_after, data_scope, declaration_in, declaration_text, gives_later}
use Rattle.desk_draft.specs.Operands.{instruction_text}
use Rattle.desk_draft.specs.Statements.{Loadable, statement_text}
use Rattle.desk_draft.specs.Rules.{after_two, has_second, is_rule, rule_text}

-- a line of a section: its number, its text in the draft, and its text in the deck
pub record SourceLine : Type 0 where
  pub number : ℕ
  pub draft : List ℕ
  pub deck : List ℕ

-- a section: its name, what a `load` of it stands for, and its lines between the first and its `end`
pub record Section : Type 0 where
  pub name : List ℕ
  pub sizes : Loadable
  pub lines : List SourceLine

-- a section that is open: its name, its AID as it was written, what it declares, and its lines so far
pub record OpenSection : Type 0 where
  pub name : List ℕ
  pub aid : List ℕ
  pub scope : Scope
  pub lines : List SourceLine

-- between statements, or in a section that is open
pub data Mode : Type 0 where
  Between : Mode
  Within : OpenSection → Mode

-- what rules may name: what the sections that have ended declare, by the sections' names, the last first; the
-- application of which the rules speak; and whether a line became another one, which no line of a deck does
pub record Rules : Type 0 where
  pub scopes : List (List ℕ × List (List ℕ × NameMeaning))
  pub app : List ℕ
  pub is_draft : Bool

-- what stands before a line: the sections that have ended, in order, what rules may name, and whether a section is open
pub record Before : Type 0 where
  pub sections : List Section
  pub rules : Rules
  pub mode : Mode

-- after a line: its text in the deck, and what stands before the next one
pub record DraftTurn : Type 0 where
  pub text : List ℕ
  pub before : Before

-- the deck of a draft, and its sections in order
pub record Draft : Type 0 where
  pub deck : List ℕ
  pub sections : List Section

-- ---- sizes

-- the static bytes of a section: those of its STATIC lines, and of its DATA lines where it has none
abbrev pub static_size : Scope → ℕ
static_size d = cond (nat_lt 0 d.fixed) d.fixed (unwrap_or d.data_bytes 0)

-- what a `load` of a section's name stands for
abbrev pub sizes_of : OpenSection → Loadable
sizes_of s = record { aid = s.aid; fixed = static_size s.scope; session = s.scope.session }

-- a section at its end
abbrev pub closed_section : OpenSection → Section
closed_section s = record { name = s.name; sizes = sizes_of s; lines = s.lines }

-- the sections by their names
abbrev pub by_name : List Section → List (List ℕ × Loadable)
by_name ss = map (λ s. (s.name, s.sizes)) ss

-- ---- a line of a section

-- after a line of a section: its text in the deck, and what the section declares then
pub record ScopeTurn : Type 0 where
  pub text : List ℕ
  pub scope : Scope

-- a line that is no DATA line and no end: a declaration or an instruction
abbrev pub coded_turn : Scope → List ℕ → Bool → Option (DeclarationWord × List (List ℕ)) → Result ScopeTurn DeckCause
coded_turn d l later None = ok_as (λ t. record { text = t; scope = d }) (instruction_text d.names l)
coded_turn d l later (Some p) =
    ok_as (λ e. record { text = declaration_text later (e.fixed - d.fixed) p.0 p.1; scope = e }) (scope_after d p.0 p.1)

-- a line of a section that does not end it, which is a DATA line or none
abbrev pub scope_turn : Bool → Scope → List ℕ → Bool → Result ScopeTurn DeckCause
scope_turn true d l later = ok_as (λ e. record { text = l; scope = e }) (data_scope d (fields l))
scope_turn false d l later = coded_turn d l later (declaration_in l)

-- a line that a section keeps
abbrev pub kept_line : Before → OpenSection → ℕ → List ℕ → ScopeTurn → DraftTurn
kept_line b s n l t =
    record {
      text = t.text;
      before = record b {
        mode = Within (record s {
          scope = t.scope;
          lines = s.lines ++ record { number = n; draft = l; deck = t.text } ∷ [];
        });
      };
    }

-- what rules may name after the end of a section
abbrev pub ended_rules : OpenSection → Rules → Rules
ended_rules s r = record r { scopes = (s.name, s.scope.names) ∷ r.scopes }

-- what stands before the line after the end of a section
abbrev pub ended_before : OpenSection → Before → Before
ended_before s b =
    record { sections = b.sections ++ closed_section s ∷ []; rules = ended_rules s b.rules; mode = Between }

-- a line of a section, which ends it or goes on
abbrev pub section_line : Bool → Before → OpenSection → ℕ → List ℕ → Bool → Result DraftTurn DeckCause
section_line true b s n l later = Ok (record { text = l; before = ended_before s b })
section_line false b s n l later = ok_as (kept_line b s n l) (scope_turn (is_data (fields l)) s.scope l later)

-- ---- a line between sections

-- the section that a line with these fields opens
abbrev pub new_section : List (List ℕ) → Option OpenSection
new_section (word ∷ name ∷ aid ∷ []) =
    cond (bytes_eq word (codes "app")) (Some (record { name = name; aid = aid; scope = empty_scope; lines = [] })) None
new_section fields = None

-- the names in the braces of rules: those of the section of which they speak, or of the command's header if none is
-- there
abbrev pub rule_names : Rules → List (List ℕ × NameMeaning)
rule_names r = unwrap_or (lookup r.scopes r.app) header_names

-- the application of which rules speak after a line
abbrev pub app_after : List ℕ → List ℕ → List ℕ
app_after app l = cond (is_rule l && has_second l (codes "app")) (first_word (after_two l)) app

-- what rules may name after a line
abbrev pub rules_after : Rules → List ℕ → Rules
rules_after r l = record r { app = app_after r.app l }

-- the deck's line of a rule of a draft, or of a statement; the rules of a deck stay, as its other comments
abbrev pub spoken_text : Before → List ℕ → Result (List ℕ) DeckCause
spoken_text b l =
    cond (b.rules.is_draft && is_rule l)
    (rule_text (by_name b.sections) (rule_names b.rules) l)
    (statement_text (by_name b.sections) l)

-- after a line that opens no section
abbrev pub spoken_turn : Before → List ℕ → List ℕ → DraftTurn
spoken_turn b l deck = record { text = deck; before = record b { rules = rules_after b.rules l } }

-- a line that opens a section, or a statement
abbrev pub opening_line : Option OpenSection → Before → List ℕ → Result DraftTurn DeckCause
opening_line (Some s) b l = Ok (record { text = l; before = record b { mode = Within s } })
opening_line None b l = ok_as (spoken_turn b l) (spoken_text b l)

-- ---- line by line

-- a line; `later` is whether a STATIC line after it gives bytes before the section's end
abbrev pub draft_turn : Mode → Before → ℕ → List ℕ → Bool → Result DraftTurn DeckCause
draft_turn Between b n l later = opening_line (new_section (fields l)) b l
draft_turn (Within s) b n l later = section_line (is_end (fields l)) b s n l later

-- what rules may name, once a line became another one or not
abbrev pub marked_rules : Rules → Bool → Rules
marked_rules r differs = record r { is_draft = r.is_draft || differs }

-- after a line, by whether it became another one
abbrev pub marked : List ℕ → DraftTurn → DraftTurn
marked l t = record t { before = record t.before { rules = marked_rules t.before.rules (not (bytes_eq t.text l)) } }

-- a line, after which it is known whether it became another one
abbrev pub marked_turn : Before → ℕ → List ℕ → Bool → Result DraftTurn DeckCause
marked_turn b n l later = ok_as (marked l) (draft_turn b.mode b n l later)

-- a line of the deck before the others
abbrev pub with_line : List ℕ → List ℕ → Draft → Draft
with_line text ending d = record d { deck = text ++ ending ++ d.deck }

-- numbered lines, or the first refusal
unfoldable pub draft_of_lines : Before → List (ℕ × EndedLine) → Result Draft (ℕ × DeckCause)
unfolding instruction_text statement_text
draft_of_lines b [] = Ok (record { deck = []; sections = b.sections })
draft_of_lines b (l ∷ ls) = do
  t ← err_as (λ c. (l.0, c)) (marked_turn b l.0 (l.1).text (gives_later (map (λ m. (m.1).text) ls)))
  ok_as (with_line t.text (l.1).ending) (draft_of_lines t.before ls)

-- a draft before its first line
abbrev pub nothing_before : Before
nothing_before = record { sections = []; rules = record { scopes = []; app = []; is_draft = false }; mode = Between }

-- a draft that is read: its deck and its sections, or its first refused line and the cause
unfoldable pub draft_read : List ℕ → Result Draft (ℕ × DeckCause)
unfolding draft_of_lines
draft_read t = draft_of_lines nothing_before (with_numbers 1 (ended_lines t))

-- the deck of a draft, or the first refusal
unfoldable pub deck_of : List ℕ → Result (List ℕ) (ℕ × DeckCause)
unfolding draft_read
deck_of t = ok_as (λ d. d.deck) (draft_read t)
