-- A draft that is read: the line at an index and those after it, and the whole.
use Rattle.std.proofs.Common.{◌≡◌, ℕ, zero, suc, ◌+◌, ◌≤◌, Bool, List, [], ◌∷◌, length, drop, Option, Some, None, Result, Ok, Err, refl, sym, ap, subst, ◌∙◌, arith}
use Rattle.std.specs.Prelude.{map, slice_get, MatchResult, IfOk}
use Rattle.mc_text.specs.model_text.specs.Text.{fields, ok_as, with_numbers}
use Rattle.mc_text.specs.model_text.specs.Text.{is_end}
use Rattle.mc_deck.specs.model_play.specs.declared.deck.DeckCause.{DeckCause}
use Rattle.mc_deck.specs.declared.refusal.Fault.{Fault}
use Rattle.mc_deck.specs.declared.refusal.Fault.TheVariants as fault
use Rattle.mc_deck.specs.declared.refusal.DeckRefusal.{DeckRefusal}
use Rattle.mc_deck.specs.declared.refusal.DeckRefusal.TheVariants as refusal
use Rattle.mc_deck.specs.Refused.{DeckRefuses, Faulty}
use Rattle.desk_draft.specs.Declarations.{gives_later}
use Rattle.desk_draft.specs.Parts.{EndedLine, ended_lines}
use Rattle.desk_draft.specs.Drafts
use Rattle.desk_draft.specs.Drafts.{Before, Draft, DraftTurn, Mode, deck_of, draft_of_lines, draft_read, draft_turn, marked_turn, new_section, nothing_before, opening_line, section_line}
use Rattle.desk_draft.specs.declared.draft.OpenSection.{OpenSection}
use Rattle.desk_draft.specs.declared.draft.Section.{Section}
use Rattle.desk_draft.specs.declared.line.EndedLine.{EndedLine as CodeLine}
use Rattle.desk_draft.specs.declared.known.Known.{Known}
use Rattle.desk_draft.specs.Views.{EndedLineTurned, Knows, LineTurned, Stands, StandsSection, ended_line_of, gives_later_each, line_texts, refusal_at}
use Rattle.desk_draft.specs.Written.{KeepsSections}
use Rattle.desk_draft.proofs.LineLemmas.{later_at, numbered_at, texts_from}
use Rattle.desk_draft.proofs.DraftLemmas.{left_draft, line_refused, line_taken, lines_done, mode_between, mode_within, with_front}

-- the lines with their numbers
abbrev pub numbered : List CodeLine → List (ℕ × EndedLine)
numbered ls = with_numbers 1 (map ended_line_of ls)

-- the whole draft, or its refusal
abbrev Whole : Type 0
Whole = Result Draft (ℕ × DeckCause)

-- something stands before the lines that are left, the sections that have ended are kept, and the lines that are left
-- make the rest of the whole
pub record Leads (deck : List ℕ) (m : Known) (ss : List Section) (s : Option OpenSection) (rest : List (ℕ × EndedLine)) (whole : Whole) : Type 0 where
  pub before : Before
  pub stands : Stands m s before
  pub keeps : KeepsSections deck ss s before
  pub left : left_draft deck before rest ≡ whole

-- a line that is taken keeps the sections
abbrev pub Keeps : List ℕ → List Section → Option OpenSection → Result DraftTurn DeckCause → Type 0
Keeps deck ss s r = (t : DraftTurn) → r ≡ Ok t → KeepsSections deck ss s t.before

line_there : (ls : List CodeLine) (i : ℕ) (l : CodeLine) → slice_get ls i ≡ Some l → slice_get (map ended_line_of ls) i ≡ Some (ended_line_of l)
line_there [] i l h = absurd (cc h)
line_there (x ∷ ls) zero l h = let e : x ≡ l = cc h in ap (λ y. Some (ended_line_of y)) e
line_there (x ∷ ls) (suc i) l h = line_there ls i l h

texts_same : (ls : List CodeLine) → map (λ l. l.text) (map ended_line_of ls) ≡ line_texts ls
texts_same [] = refl
texts_same (l ∷ ls) = ap (λ ts. l.text.now ∷ ts) (texts_same ls)

-- the line at an index, and those after it
here_is : (ls : List CodeLine) (i n : ℕ) (l : CodeLine) → slice_get ls i ≡ Some l → n ≡ i + 1 → drop i (numbered ls) ≡ (n, ended_line_of l) ∷ drop (i + 1) (numbered ls)
here_is ls i n l h e = numbered_at (map ended_line_of ls) i n (ended_line_of l) (line_there ls i l h) e

-- whether a STATIC line after it gives bytes
judged_is : (ls : List CodeLine) (later : List Bool) (i : ℕ) (g : Bool) → later ≡ gives_later_each (line_texts ls) → slice_get later i ≡ Some g → g ≡ gives_later (map (λ (m : ℕ × EndedLine). (m.1).text) (drop (i + 1) (numbered ls)))
judged_is ls later i g e h =
    let ts = line_texts ls in
    let one : suc i ≡ i + 1 = omega arith in
    later_at ts i g (subst (λ (bs : List Bool). slice_get bs i ≡ Some g) e h)
    ∙ ap (λ k. gives_later (drop k ts)) one
    ∙ sym (ap gives_later (texts_from (map ended_line_of ls) 1 (i + 1) ∙ ap (drop (i + 1)) (texts_same ls)))

-- the line at an index is taken
pub turn_taken : (so new : List ℕ) (ls : List CodeLine) (later : List Bool) (i n : ℕ) (l : CodeLine) (g : Bool) (m : Known) (ss : List Section) (s : Option OpenSection) (b : Before) (whole : Whole)
    → later ≡ gives_later_each (line_texts ls) → slice_get ls i ≡ Some l → slice_get later i ≡ Some g → n ≡ i + 1 → EndedLineTurned so new l.ending.now m s (marked_turn b n l.text.now g) → Keeps new ss s (marked_turn b n l.text.now g)
    → left_draft so b (drop i (numbered ls)) ≡ whole → Leads new m ss s (drop (i + 1) (numbered ls)) whole
turn_taken so new ls later i n l g m ss s b whole e h j k t f w = record {
  before = t.turn.before;
  stands = t.stands;
  keeps = f t.turn t.is;
  left = line_taken so new b n (ended_line_of l) g (drop (i + 1) (numbered ls)) t.turn whole (judged_is ls later i g e j) t.is t.text (ap (left_draft so b) (sym (here_is ls i n l h k)) ∙ w);
}

-- the line at an index is refused
pub turn_refused : (so : List ℕ) (ls : List CodeLine) (later : List Bool) (i n : ℕ) (l : CodeLine) (g : Bool) (b : Before) (whole : Whole) (x : Fault) → later ≡ gives_later_each (line_texts ls) → slice_get ls i ≡ Some l → slice_get later i ≡ Some g → n ≡ i + 1
    → Faulty (marked_turn b n l.text.now g) x → left_draft so b (drop i (numbered ls)) ≡ whole → DeckRefuses whole (refusal_at n x)
turn_refused so ls later i n l g b whole (fault.Cause c) e h j k t w =
    line_refused so b n (ended_line_of l) g (drop (i + 1) (numbered ls)) c whole (judged_is ls later i g e j) t (ap (left_draft so b) (sym (here_is ls i n l h k)) ∙ w)
turn_refused so ls later i n l g b whole fault.NoMemory e h j k t w = tt

-- the answer to the line at an index
abbrev pub Ends : List ℕ → List ℕ → CodeLine → Known → Result (Option OpenSection) Fault → Before → ℕ → Bool → Type 0
Ends old new l m r b n g = MatchResult r (λ s. EndedLineTurned old new l.ending.now m s (marked_turn b n l.text.now g)) (λ e. Faulty (marked_turn b n l.text.now g) e)

-- the sections after the line at an index
abbrev pub KeepsAfter : List ℕ → List Section → CodeLine → Result (Option OpenSection) Fault → Before → ℕ → Bool → Type 0
KeepsAfter new ss l r b n g = IfOk r (λ s. Keeps new ss s (marked_turn b n l.text.now g))

pub draft_taken : (so new : List ℕ) (ls : List CodeLine) (later : List Bool) (i n : ℕ) (l : CodeLine) (g : Bool) (m : Known) (ss : List Section) (s : Option OpenSection) (b : Before) (whole : Whole) (r : Result (Option OpenSection) Fault)
    → later ≡ gives_later_each (line_texts ls) → slice_get ls i ≡ Some l → slice_get later i ≡ Some g → n ≡ i + 1 → r ≡ Ok s → Ends so new l m r b n g → KeepsAfter new ss l r b n g → left_draft so b (drop i (numbered ls)) ≡ whole
    → Leads new m ss s (drop (i + 1) (numbered ls)) whole
draft_taken so new ls later i n l g m ss s b whole r j here judged k is t f w =
    turn_taken so new ls later i n l g m ss s b whole j here judged k (subst (λ (r : Result (Option OpenSection) Fault). Ends so new l m r b n g) is t)
    (subst (λ (r : Result (Option OpenSection) Fault). KeepsAfter new ss l r b n g) is f) w

pub draft_refused : (so new : List ℕ) (ls : List CodeLine) (later : List Bool) (i n : ℕ) (l : CodeLine) (g : Bool) (m : Known) (b : Before) (whole : Whole) (r : Result (Option OpenSection) Fault) (x : Fault)
    → later ≡ gives_later_each (line_texts ls) → slice_get ls i ≡ Some l → slice_get later i ≡ Some g → n ≡ i + 1 → r ≡ Err x → Ends so new l m r b n g → left_draft so b (drop i (numbered ls)) ≡ whole → DeckRefuses whole (refusal_at n x)
draft_refused so new ls later i n l g m b whole r x j here judged k is t w =
    turn_refused so ls later i n l g b whole x j here judged k (subst (λ (r : Result (Option OpenSection) Fault). Ends so new l m r b n g) is t) w

each_length : (ts : List (List ℕ)) → length (gives_later_each ts) ≡ length ts
each_length [] = refl
each_length (t ∷ ts) = ap suc (each_length ts)

texts_length : (ls : List CodeLine) → length (line_texts ls) ≡ length ls
texts_length [] = refl
texts_length (l ∷ ls) = ap suc (texts_length ls)

-- as many lines are judged as there are
pub judged_length : (ls : List CodeLine) (later : List Bool) → later ≡ gives_later_each (line_texts ls) → length later ≡ length ls
judged_length ls later e = ap length e ∙ each_length (line_texts ls) ∙ texts_length ls

none_left : (ls : List CodeLine) (n i : ℕ) → length ls ≤ i → drop i (with_numbers n (map ended_line_of ls)) ≡ []
none_left [] n zero h = refl
none_left [] n (suc i) h = refl
none_left (l ∷ ls) n zero h = absurd (omega (arith, h))
none_left (l ∷ ls) n (suc i) h = none_left ls (suc n) i (omega (arith, h))

-- all lines were taken
pub draft_done : (so : List ℕ) (ls : List CodeLine) (i : ℕ) (b : Before) (whole : Whole) → length ls ≤ i → left_draft so b (drop i (numbered ls)) ≡ whole → whole ≡ Ok (record { deck = so; sections = b.sections })
draft_done so ls i b whole h w = lines_done so b whole (ap (left_draft so b) (sym (none_left ls 1 i h)) ∙ w)

nothing_in_front : (r : Whole) → r ≡ ok_as (with_front []) r
nothing_in_front (Ok d) = refl
nothing_in_front (Err e) = refl

-- a draft is that of its lines
pub draft_is : (t : List ℕ) (ls : List CodeLine) → map ended_line_of ls ≡ ended_lines t → draft_read t ≡ left_draft [] nothing_before (numbered ls)
unfolding draft_read
draft_is t ls e = ap (λ xs. draft_of_lines nothing_before (with_numbers 1 xs)) (sym e) ∙ nothing_in_front (draft_of_lines nothing_before (numbered ls))

-- the deck of a draft that was read
pub deck_made : (t : List ℕ) (d : Draft) → draft_read t ≡ Ok d → deck_of t ≡ Ok d.deck
unfolding deck_of
deck_made t d h = ap (ok_as (λ d. d.deck)) h

-- the refusal of a draft is that of its deck
pub deck_refused : (t : List ℕ) (e : DeckRefusal) → DeckRefuses (draft_read t) e → DeckRefuses (deck_of t) e
unfolding deck_of
deck_refused t (refusal.At n c) h = ap (ok_as (λ (d : Draft). d.deck)) h
deck_refused t refusal.NoMemory h = tt

-- ---- a line, by the section that is open

-- a line was taken, or refused
abbrev pub Turns : List ℕ → List ℕ → Known → Result (Option OpenSection) Fault → Result DraftTurn DeckCause → Type 0
Turns old new m r t = MatchResult r (λ s. LineTurned old new m s t) (λ e. Faulty t e)

-- a line between sections
pub turned_between : (old new : List ℕ) (m n : Known) (s : Option OpenSection) (b : Before) (k : ℕ) (l : List ℕ) (later : Bool) (r : Result (Option OpenSection) Fault) → s ≡ None → Stands m s b
    → (Stands m None b → Turns old new n r (opening_line (new_section (fields l)) b l)) → Turns old new n r (draft_turn b.mode b k l later)
turned_between old new m n s b k l later r e h f =
    let at = subst (λ (s : Option OpenSection). Stands m s b) e h in
    subst (λ (d : Mode). Turns old new n r (draft_turn d b k l later)) (sym (mode_between m b at)) (f at)

-- a line of a section
pub turned_within : (old new : List ℕ) (m n : Known) (s : Option OpenSection) (b : Before) (k : ℕ) (l : List ℕ) (later : Bool) (r : Result (Option OpenSection) Fault) (x : OpenSection) → s ≡ Some x → Stands m s b
    → ((t : Drafts.OpenSection) → Knows m b.sections b.rules → StandsSection x t → Turns old new n r (section_line (is_end (fields l)) b t k l later)) → Turns old new n r (draft_turn b.mode b k l later)
turned_within old new m n s b k l later r x e h f =
    let at = subst (λ (s : Option OpenSection). Stands m s b) e h in
    let t = mode_within m b x at in
    subst (λ (d : Mode). Turns old new n r (draft_turn d b k l later)) (sym t.1) (f t.0 h.knows t.2)
