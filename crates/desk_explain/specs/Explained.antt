-- What is explained of a draft, line by line.
use Rattle.std.specs.Prelude.{◌≡◌, ℕ, ◌==◌, Bool, true, false, cond, not, ◌&&◌, ◌||◌, List, [], ◌∷◌, ◌++◌, map, flat_map, filter, bytes_eq, codes, decimal, unwrap_or, Option, option_map, Result, Ok, Err}
use Rattle.std.specs.List.Sorted.{IsNonDecreasingBy, IsPermutation}
use Rattle.mc_deck.specs.model_play.specs.DeckGrammar.{DeckLine}
use Rattle.mc_deck.specs.model_play.specs.DeckGrammar as line
use Rattle.mc_deck.specs.model_play.specs.declared.deck.DeckCause.{DeckCause}
use Rattle.mc_deck.specs.model_play.specs.Words.{deck_word}
use Rattle.mc_text.specs.model_text.specs.CheckWords.{check_word}
use Rattle.mc_check.specs.declared.verdict.Verdict.{Verdict}
use Rattle.mc_check.specs.declared.verdict.Verdict.TheVariants.{Accept, Refuse}
use Rattle.mc_check.specs.Verdicts.{IsVerdictOf}
use Rattle.desk_draft.specs.Listings.{CodeLine, Desk, Source}
use Rattle.desk_draft.specs.Verdicts.{loaded_source, source_line}
use Rattle.desk_explain.specs.declared.entry.Entry.{Entry}

-- a line as editors read it: the name of the file, the number of the line, the column, the word of the cause, and a
-- text
abbrev pub explained_line : List ℕ → ℕ → ℕ → List ℕ → List ℕ → List ℕ
explained_line name number column word said =
    name ++ codes ":" ++ decimal number ++ codes ":" ++ decimal column ++ codes ": " ++ word ++ codes ": " ++ said
    ++ codes "\n"

-- ---- lines

-- the lines of entries
abbrev pub entry_lines : List ℕ → List Entry → List ℕ
entry_lines name es = flat_map (λ e. explained_line name e.number e.column e.word.now e.text.items) es

-- whether an entry has this number and this word
abbrev pub has_entry : ℕ → List ℕ → List Entry → Bool
has_entry number word [] = false
has_entry number word (e ∷ es) = (e.number == number && bytes_eq e.word.now word) || has_entry number word es

-- whether an entry is of a cause that refuses, which a warning is not
abbrev pub is_cause : Entry → Bool
is_cause e = not (bytes_eq e.word.now (codes "warning"))

-- the numbers and words of the entries of causes
abbrev pub causes : List Entry → List (ℕ × List ℕ)
causes es = map (λ e. (e.number, e.word.now)) (filter is_cause es)

-- a text has the lines of entries, in the order of their numbers
pub record ShowsEntries (name : List ℕ) (es : List Entry) (text : List ℕ) : Type 0 where
  pub shown : List Entry
  pub same : IsPermutation es shown
  pub order : IsNonDecreasingBy (λ (e : Entry). e.number) shown
  pub lines : text ≡ entry_lines name shown

-- ---- verdicts

-- whether a number and a word are among some
abbrev pub has_cause : List (ℕ × List ℕ) → ℕ × List ℕ → Bool
has_cause [] c = false
has_cause (k ∷ ks) c = (k.0 == c.0 && bytes_eq k.1 c.1) || has_cause ks c

-- causes with one more, which is said once
abbrev pub with_cause : List (ℕ × List ℕ) → ℕ × List ℕ → List (ℕ × List ℕ)
with_cause ks c = cond (has_cause ks c) ks (ks ++ c ∷ [])

-- the number of the line of a place of code: of the draft, if the code is of a section, or else of the line that loads
-- it
abbrev pub place_number : Option Source → ℕ → ℕ → ℕ
place_number s load place = unwrap_or (option_map (λ (l : CodeLine). l.number) (source_line s place)) load

-- whether all code is accepted, and the causes, after a verdict on the code of the `load` line with a number
abbrev pub after_verdict : Desk → ℕ → Verdict → Bool × List (ℕ × List ℕ) → Bool × List (ℕ × List ℕ)
after_verdict d load (Accept deepest) judged = judged
after_verdict d load (Refuse place cause) judged =
    (false, with_cause judged.1 (place_number (loaded_source d load) load place, check_word cause))

-- a verdict on the code of the `load` line with a number: whether it is accepted, and the causes before it and after it
pub record JudgesCode (d : Desk) (load : ℕ) (code : List ℕ) (session : ℕ) (accepted : Bool)
    (before after : List (ℕ × List ℕ)) : Type 0 where
  pub verdict : Verdict
  pub holds : IsVerdictOf code session verdict
  pub is : (passes : Bool) → (passes && accepted, after) ≡ after_verdict d load verdict (passes, before)

-- from the first of these lines of the deck to the last, the stack checker judges the code of each `load` line: whether
-- all code is accepted, and the causes, before them and after them
unfoldable pub JudgesCodes :
    Desk → List (ℕ × DeckLine) → Bool × List (ℕ × List ℕ) → Bool × List (ℕ × List ℕ) → Type 0
JudgesCodes d [] before after = after ≡ before
JudgesCodes d ((n, line.Sent (line.Load u fixed session)) ∷ ls) before after =
    (v : Verdict) × IsVerdictOf u.code session v × JudgesCodes d ls (after_verdict d n v before) after
JudgesCodes d ((n, _) ∷ ls) before after = JudgesCodes d ls before after

-- ---- drafts

-- what is explained of a draft that is read: the lines of entries, in the order of their numbers. Those of a cause are
-- those of the code that the stack checker refuses, at the line of its place, each once; all others are warnings. And
-- whether all code is accepted
pub record ExplainsRead (name : List ℕ) (d : Desk) (passes : Bool) (text : List ℕ) : Type 0 where
  pub found : List Entry
  pub judged : JudgesCodes d d.lines (true, []) (passes, causes found)
  pub shown : ShowsEntries name found text

-- what is explained of a draft that is refused: the line of its first refusal, with the number and the cause that the
-- other jobs write, and then those of other entries, in the order of their numbers
pub record ExplainsRefused (name : List ℕ) (e : ℕ × DeckCause) (text : List ℕ) : Type 0 where
  pub column : ℕ
  pub said : List ℕ
  pub found : List Entry
  pub rest : List ℕ
  pub shown : ShowsEntries name found rest
  pub parts : text ≡ explained_line name e.0 column (deck_word e.1) said ++ rest

-- what is explained of a draft by its reading, and whether the draft passes, which one that is refused does not
abbrev pub Explains : List ℕ → Result Desk (ℕ × DeckCause) → Bool → List ℕ → Type 0
Explains name (Err e) passes text = (passes ≡ false) × ExplainsRefused name e text
Explains name (Ok d) passes text = ExplainsRead name d passes text
