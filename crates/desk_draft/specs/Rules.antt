-- A rule of a draft, which is a comment of the deck, and what it becomes: names in braces, and the statement of a move.
use Rattle.std.specs.Prelude.{ℕ, Bool, false, cond, not, ◌&&◌, ◌==◌, List, [], ◌∷◌, ◌++◌, bytes_eq, codes, is_none, Option, Some, None, Result, Ok, Err}
use Rattle.mc_text.specs.model_device.specs.Bytes.{lookup, has_name}
use Rattle.mc_text.specs.model_text.specs.Text.{◌>>=◌, ok_as, only_if, fields, first_cut, pieces}
use Rattle.mc_deck.specs.model_play.specs.declared.deck.DeckCause.{DeckCause}
use Rattle.mc_deck.specs.model_play.specs.declared.deck.DeckCause.TheVariants.{BadHex, BadLine, UnknownName}
use Rattle.desk_draft.specs.Parts.{after_word, before_rest, first_word}
use Rattle.desk_draft.specs.Declarations.{NameMeaning}
use Rattle.desk_draft.specs.Operands.{operand_text}
use Rattle.desk_draft.specs.Statements.{Loadable, is_aid, naming_words, statement_text}

-- whether a line is a rule
abbrev pub is_rule : List ℕ → Bool
is_rule l = bytes_eq (first_word l) (codes "#@")

-- what stands after the first two words of a line
abbrev pub after_two : List ℕ → List ℕ
after_two l = after_word (after_word l)

-- whether the second word of a line is this one
abbrev pub has_second : List ℕ → List ℕ → Bool
has_second l word = bytes_eq (first_word (after_word l)) word

-- ---- names in braces

-- what a text in braces becomes: the operand that a name makes, without its size
abbrev pub brace_text : List (List ℕ × NameMeaning) → List ℕ → Result (List ℕ) DeckCause
brace_text names t = operand_text names false t >>= λ made. only_if (not (bytes_eq made t)) UnknownName made

-- what stands after an opening brace becomes, by what stands before its first closing brace, and after it
abbrev pub opened_text : List (List ℕ × NameMeaning) → List ℕ × Option (List ℕ) → Result (List ℕ) DeckCause
opened_text names (t, None) = Err BadLine
opened_text names (t, Some rest) = ok_as (λ made. made ++ rest) (brace_text names t)

-- what the texts after opening braces become
abbrev pub opened_texts : List (List ℕ × NameMeaning) → List (List ℕ) → Result (List ℕ) DeckCause
opened_texts names [] = Ok []
opened_texts names (p ∷ ps) =
    opened_text names (first_cut (λ c. c == 125) p) >>= λ t. ok_as (λ rest. t ++ rest) (opened_texts names ps)

-- what the pieces of a text between its opening braces become
abbrev pub braces_of : List (List ℕ × NameMeaning) → List (List ℕ) → Result (List ℕ) DeckCause
braces_of names [] = Ok []
braces_of names (p ∷ ps) = ok_as (λ rest. p ++ rest) (opened_texts names ps)

-- what a text becomes that has names in braces
abbrev pub braces_text : List (List ℕ × NameMeaning) → List ℕ → Result (List ℕ) DeckCause
braces_text names t = braces_of names (pieces (λ c. c == 123) t)

-- ---- moves

-- the two fields of a list that has two
abbrev pub two_of : List (List ℕ) → Option (List ℕ × List ℕ)
two_of (word ∷ t ∷ []) = Some (word, t)
two_of fields = None

-- whether a word and its one field select or delete by a name that no section has
abbrev pub is_unnamed : List (List ℕ × Loadable) → Option (List ℕ × List ℕ) → Bool
is_unnamed sections None = false
is_unnamed sections (Some p) = has_name p.0 naming_words && (not (is_aid p.1) && is_none (lookup sections p.1))

-- whether a statement with these fields selects or deletes by a name that no section has
abbrev pub is_unknown : List (List ℕ × Loadable) → List (List ℕ) → Bool
is_unknown sections fields = is_unnamed sections (two_of fields)

-- what the statement of a move becomes
abbrev pub moved_text : List (List ℕ × Loadable) → List ℕ → Result (List ℕ) DeckCause
moved_text sections s = cond (is_unknown sections (fields s)) (Err BadHex) (statement_text sections s)

-- the deck's line of a rule, where these sections and names stand before it
abbrev pub rule_text : List (List ℕ × Loadable) → List (List ℕ × NameMeaning) → List ℕ → Result (List ℕ) DeckCause
rule_text sections names l =
    cond (has_second l (codes "move"))
    (ok_as (λ t. before_rest l (after_two l) ++ t) (moved_text sections (after_two l)))
    (braces_text names l)
