-- Words after a plan, and the card that they hold.
use Rattle.std.specs.Prelude.{◌≡◌, ◌≢◌, ℕ, ◌+◌, ◌<◌, ◌≤◌, true, List, [], ◌∷◌, length, None}
use Rattle.std.specs.List.{AllByRecursion}
use Rattle.mc_words.specs.model_device.specs.Card.{App, Block, word, means, card_of}
use Rattle.mc_words.specs.model_device.specs.Layout.{words_fault}
use Rattle.mc_blocks.specs.Plans.{plan}

-- from word `low` on, each word that the list does not name is kept
abbrev pub OthersKept : List (List ℕ) → List (List ℕ) → ℕ → List (ℕ × List ℕ) → Type 0
OthersKept m n low list = (q : ℕ) → low ≤ q → AllByRecursion (λ e. e.0 ≢ q) list → word n q ≡ word m q

-- words n are words m after the plan for these spans: its words are written, and word 0 and the heap keep all others
pub record Planned (m n : List (List ℕ)) (ss : List (ℕ × ℕ)) : Type 0 where
  pub size : length n ≡ length m
  pub stand : AllByRecursion (λ e. word n e.0 ≡ e.1) (plan (means m) ss)
  pub root : AllByRecursion (λ e. e.0 ≢ 0) (plan (means m) ss) → word n 0 ≡ word m 0
  pub heap : OthersKept m n 131 (plan (means m) ss)

-- words n agree with m in the header of each of these blocks and in all words of those that are used, except the one at
-- p
abbrev pub AgreeBut : List (List ℕ) → List (List ℕ) → ℕ → List Block → Type 0
AgreeBut m n p [] = Unit {0}
AgreeBut m n p (b ∷ bs) =
    (word n b.place ≡ word m b.place) × (b.used ≡ true → b.place ≢ p → (i : ℕ) → b.place ≤ i → i < b.place + b.words → word n i ≡ word m i) × AgreeBut m n p bs

-- words n have no fault and hold the card of m with these applications
pub record HoldsApplications (m n : List (List ℕ)) (apps : List (List ℕ × App)) : Type 0 where
  pub laid : words_fault n ≡ None
  pub card : card_of n ≡ record (means m) { apps = apps }
