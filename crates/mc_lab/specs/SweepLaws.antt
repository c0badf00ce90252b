-- The laws of sweeps: no line is torn, a card is between two states only if two items change it, and one change splits
-- its line where its gate opens.
use Rattle.std.specs.Prelude.{◌≡◌, ◌≢◌, ℕ, ◌+◌, ◌≤◌, Bool, true, cond, not, nat_le, List, [], ◌∷◌, ◌++◌, None, ⊤}
use Rattle.std.specs.List.{AllByRecursion}
use Rattle.law_explore.specs.model_device.specs.Image.{Two}
use Rattle.law_explore.specs.model_device.specs.Stopped.{opens_at}
use Rattle.law_explore.specs.model_device.specs.Card.{App}
use Rattle.law_explore.specs.model_card.specs.Items.{Item, Plain, Atomic, weight, apps_after_items}
use Rattle.law_explore.specs.model_play.specs.Given.{apps_in}
use Rattle.mc_script.specs.Cuts.{is_off}
use Rattle.law_explore.specs.model_play.specs.Play.{Unarmed, step, armed_stop_in, is_card_line}
use Rattle.law_explore.specs.model_play.specs.DeckGrammar.{DeckLine}
use Rattle.mc_lab.specs.Sweeps.{steady_step, state_on_blank, cut_statement, static_bytes_under, are_same_held, Swept, line_sweep, is_swept, writes_behind, names_from, Run, runs, sweep}
use Rattle.mc_lab.specs.declared.sweep_word.SweepWord.{SweepWord}
use Rattle.mc_lab.specs.declared.sweep_word.SweepWord.TheVariants.{Before, After, Same, Between, Torn}

-- ---- changes

-- whether an item changes the static bytes under some names
abbrev pub changes : List (List ℕ) → List (List ℕ × App) → Item → Bool
changes names apps i = not (are_same_held (static_bytes_under names apps) (static_bytes_under names (apps_after_items apps (i ∷ []))))

-- the number of items that do, each on the applications that those before it leave
abbrev pub count_of_changes : List (List ℕ) → List (List ℕ × App) → List Item → ℕ
count_of_changes names apps [] = 0
count_of_changes names apps (i ∷ is) = cond (changes names apps i) 1 0 + count_of_changes names (apps_after_items apps (i ∷ [])) is

-- the number of the device write of an item that opens its gate; a write into a hole opens none
abbrev pub opens : Item → ℕ
opens Plain = 0
opens (Atomic w c) = opens_at Two w

-- the number of the device write that opens the gate of the first item that changes the observed state
abbrev pub opening_write : List (List ℕ) → List (List ℕ × App) → List Item → ℕ
opening_write names apps [] = 0
opening_write names apps (i ∷ is) = cond (changes names apps i) (opens i) (weight i + opening_write names (apps_after_items apps (i ∷ [])) is)

-- ---- a line after others

-- the items of a line after others
abbrev pub items_behind : List (ℕ × DeckLine) → ℕ × DeckLine → List Item
items_behind front l = (step (state_on_blank front) l None).items

-- the number of its items that change the observed state
abbrev pub changing_behind : List (List ℕ) → List (ℕ × DeckLine) → ℕ × DeckLine → ℕ
changing_behind names front l = count_of_changes names (apps_in (state_on_blank front)) (items_behind front l)

-- the number of the device write that opens the gate of the first of them
abbrev pub opening_behind : List (List ℕ) → List (ℕ × DeckLine) → ℕ × DeckLine → ℕ
opening_behind names front l = opening_write names (apps_in (state_on_blank front)) (items_behind front l)

-- the runs of `n` writes of this word
abbrev pub all_of : SweepWord → ℕ → List Run
all_of w n = record { first = 1; last = n; word = w } ∷ []

-- the runs of `n` writes that are `before` up to and with write `g`, and `after` from the next one on
abbrev pub split_at : ℕ → ℕ → List Run
split_at g n = record { first = 1; last = g; word = Before } ∷ record { first = g + 1; last = n; word = After } ∷ []

-- ---- laws of a swept line

-- none of its runs is torn
abbrev pub NotTorn : Swept → Type 0
NotTorn s = AllByRecursion (λ r. r.word ≢ Torn) (runs 1 s.words)

-- a line with at most one item that changes the observed state has no run `between`
abbrev pub BetweenChanges : List (List ℕ) → List (ℕ × DeckLine) → ℕ × DeckLine → Type 0
BetweenChanges names front l = changing_behind names front l ≤ 1 → AllByRecursion (λ r. r.word ≢ Between) (runs 1 (line_sweep names front l).words)

-- a line with exactly one item that changes the observed state is split at the write that opens the gate of that item
abbrev pub SplitsAtGate : List (List ℕ) → List (ℕ × DeckLine) → ℕ × DeckLine → Type 0
SplitsAtGate names front l = changing_behind names front l ≡ 1 → runs 1 (line_sweep names front l).words ≡ split_at (opening_behind names front l) (writes_behind front l)

-- in a line without an item that changes the observed state, every cut leaves the state that holds both before and
-- after
abbrev pub StaysSame : List (List ℕ) → List (ℕ × DeckLine) → ℕ × DeckLine → Type 0
StaysSame names front l = changing_behind names front l ≡ 0 → runs 1 (line_sweep names front l).words ≡ all_of Same (writes_behind front l)

-- each swept line of the rest of a deck
abbrev pub EachSwept : (List (ℕ × DeckLine) → ℕ × DeckLine → Type 0) → List (ℕ × DeckLine) → List (ℕ × DeckLine) → Type 0
EachSwept P front [] = ⊤
EachSwept P front (l ∷ ls) = (is_swept front l ≡ true → P front l) × EachSwept P (front ++ l ∷ []) ls

-- ---- the lines that a cut hits

-- a cut at write `k` hits a line to the card exactly if the line makes at least `k` writes, so that trial plays
-- determine the numbers of a sweep
abbrev pub HitsWithin : Type 0
HitsWithin =
    (front : List (ℕ × DeckLine)) (l : ℕ × DeckLine) (k : ℕ) (x : List ℕ) → is_card_line l.1 ≡ true → armed_stop_in (state_on_blank front) ≡ Unarmed → 1 ≤ k
    → is_off (steady_step (state_on_blank (front ++ cut_statement l.0 k x ∷ [])) l).result ≡ nat_le k (writes_behind front l)

-- ---- laws of a deck

-- no line of a sweep has a run `torn`
abbrev pub NeverTorn : Type 0
NeverTorn = (ls : List (ℕ × DeckLine)) → AllByRecursion NotTorn (sweep ls)

-- each swept line of a deck
abbrev pub OfEach : (List (List ℕ) → List (ℕ × DeckLine) → ℕ × DeckLine → Type 0) → Type 0
OfEach P = (ls : List (ℕ × DeckLine)) → EachSwept (P (names_from [] ls)) [] ls
