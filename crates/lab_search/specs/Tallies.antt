-- What tries came to, as the code counts it, and the `on` lines that applied to none.
use Rattle.std.specs.Prelude.{◌≡◌, ℕ, suc, Bool, true, false, nat_lt, List, [], ◌∷◌, ◌++◌, codes, decimal, map, slice_index_or, slice_set}
use Rattle.law_explore_text.specs.law_explore.specs.Search as found
use Rattle.law_explore_text.specs.law_explore.specs.Rules as rule
use Rattle.law_explore_text.specs.law_explore.specs.States as model
use Rattle.law_explore_text.specs.law_explore.specs.States.{play_of}
use Rattle.law_explore_text.specs.law_explore.specs.Tries.{step_of, times}
use Rattle.lab_rules.specs.Occasions.{capped}
use Rattle.lab_rules.specs.declared.rules.OnRule.{OnRule}
use Rattle.lab_search.specs.declared.journey.Manner.{Manner}
use Rattle.lab_search.specs.declared.tally.Tally.{Tally}
use Rattle.lab_search.specs.declared.trying.Laboratory.{Laboratory}
use Rattle.lab_search.specs.declared.trying.Tried.{Tried}
use Rattle.lab_search.specs.declared.trying.Tried.TheVariants as tried
use Rattle.lab_search.specs.Reports.{manner_value}

-- what tries came to, as the definition has it
abbrev pub tally_value : Tally → found.Tally
tally_value a = record { tries = a.tries; heard = a.heard.items }

-- ---- `on` lines that applied

-- whether a line applied, by whether it applies now and whether it applied before
abbrev pub heard_or : Bool → Bool → Bool
heard_or true h = true
heard_or false h = h

-- whether each `on` line applied so far, by whether the line with an index applies now
abbrev pub heard_at : Bool → ℕ → List Bool → List Bool
heard_at applies i hs = slice_set hs i (heard_or applies (slice_index_or hs i false))

-- the same with the counts of all lines from an index on
abbrev pub heard_from : ℕ → List ℕ → List Bool → List Bool
heard_from i [] hs = hs
heard_from i (n ∷ ns) hs = heard_from (suc i) ns (heard_at (nat_lt 0 n) i hs)

-- how many times each `on` line applies to a move that is made from a state
abbrev pub counts_of : List rule.OnRule → model.CardState → rule.Move → Manner → List ℕ
counts_of rs c m w = map (λ r. capped (times r m (step_of (play_of c) m (manner_value w)))) rs

-- the counts of a try that was made
abbrev pub CountsTry : Laboratory → List rule.OnRule → model.CardState → rule.Move → Manner → Tried → Type 0
CountsTry lab rs c m w tried.NotHit = Unit {0}
CountsTry lab rs c m w (tried.Reached s) = lab.counts.items ≡ counts_of rs c m w
CountsTry lab rs c m w (tried.Broken i) = lab.counts.items ≡ counts_of rs c m w

-- ---- their text

-- the line of a rule that applied to no try
abbrev pub silent_line : ℕ → List ℕ
silent_line n = codes "silent line " ++ decimal n ++ codes "\n"

-- that line, unless the rule applied
abbrev pub silent_if : Bool → ℕ → List ℕ
silent_if true n = []
silent_if false n = silent_line n

-- the lines of the rules from an index on that applied to no try
abbrev pub silent_from : ℕ → List OnRule → List Bool → List ℕ
silent_from i [] hs = []
silent_from i (r ∷ rs) hs = silent_if (slice_index_or hs i true) r.line ++ silent_from (suc i) rs hs
