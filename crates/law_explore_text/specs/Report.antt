-- The text that the search through all states writes.
use Rattle.std.specs.Prelude.{ℕ, ◌+◌, Bool, true, false, List, [], ◌∷◌, ◌++◌, length, reverse, codes, decimal}
use Rattle.law_explore.specs.model_play.specs.Play.{State}
use Rattle.law_explore.specs.Rules.{OnRule, Exploration}
use Rattle.law_explore.specs.States.{play_of_deck}
use Rattle.law_explore.specs.Search.{Ending, All, AtDepth, TooMany, Broken, Search, Tally, Statement, statements_to, most_states, search_of}

-- the lines of the depths from depth d on
abbrev pub depth_lines : ℕ → List ℕ → List ℕ
depth_lines d [] = []
depth_lines d (n ∷ ns) = codes "depth " ++ decimal d ++ codes " states " ++ decimal n ++ codes "\n" ++ depth_lines (d + 1) ns

-- the text of statements, a line each
abbrev pub statements_text : List Statement → List ℕ
statements_text [] = []
statements_text (l ∷ ls) = l.0 ++ codes "\n" ++ statements_text ls

-- the line of a broken rule, and the statements that lead there
abbrev pub broken_text : List ℕ → List Statement → List ℕ
broken_text name ls = codes "broken " ++ name ++ codes " after " ++ decimal (length ls) ++ codes " lines\n" ++ statements_text ls

-- the line of the sums
abbrev pub sums_text : ℕ → ℕ → List ℕ → List ℕ
sums_text states tries how = codes "explored states " ++ decimal states ++ codes " tries " ++ decimal tries ++ how ++ codes "\n"

-- the numbers of the `on` lines that applied to no try, by whether each did
abbrev pub silent_numbers : List OnRule → List Bool → List ℕ
silent_numbers [] hs = []
silent_numbers (r ∷ rs) [] = []
silent_numbers (r ∷ rs) (true ∷ hs) = silent_numbers rs hs
silent_numbers (r ∷ rs) (false ∷ hs) = r.number ∷ silent_numbers rs hs

-- the lines of rules that applied to no try, by their numbers
abbrev pub silent_lines : List ℕ → List ℕ
silent_lines [] = []
silent_lines (n ∷ ns) = codes "silent line " ++ decimal n ++ codes "\n" ++ silent_lines ns

-- the end of a search that broke no rule: the `on` lines that applied to no try, and the sums
abbrev pub kept_text : List OnRule → ℕ → Tally → List ℕ → List ℕ
kept_text ons states a how = silent_lines (silent_numbers ons a.heard) ++ sums_text states a.tries how

-- how a search ends, from the end of a deck, by its `on` lines
abbrev pub ending_text : List OnRule → State → Search → Ending → List ℕ
ending_text ons s e All = kept_text ons e.states e.tally (codes " all")
ending_text ons s e (AtDepth d) = kept_text ons e.states e.tally (codes " depth " ++ decimal d)
ending_text ons s e (TooMany d) = kept_text ons e.states e.tally (codes " depth " ++ decimal d)
ending_text ons s e (Broken name path) = broken_text name (statements_to s (reverse path))

-- the text of a search, from the end of a deck, by its `on` lines
abbrev pub text_of : List OnRule → State → Search → List ℕ
text_of ons s e = depth_lines 1 e.news ++ ending_text ons s e e.ending

-- its text
unfoldable pub text_within : ℕ → ℕ → Exploration → List ℕ
unfolding search_of statements_to play_of_deck
text_within limit n x = text_of x.rules.ons (play_of_deck x.lines) (search_of limit n x)

-- the text of the exploration of a deck with its rules, n depths deep
unfoldable pub explore_text : ℕ → Exploration → List ℕ
unfolding text_within
explore_text n x = text_within most_states n x
