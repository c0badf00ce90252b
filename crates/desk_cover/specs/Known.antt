-- What is known of the application that runs a command, from turn to turn.
use Rattle.std.specs.Prelude.{◌≡◌, ℕ, ◌≤◌, Bool, true, false, List, length, bytes_eq, IfSome}
use Rattle.mc_words.specs.model_device.specs.Device.{DeviceState}
use Rattle.mc_words.specs.model_device.specs.Limits.{most_code}
use Rattle.mc_arith.specs.model_machine.specs.Chain.{Chain}
use Rattle.desk_draft.specs.FullTurns.{running_code}
use Rattle.desk_draft.specs.Listings.{Source}
use Rattle.mc_card.specs.declared.card.Card.{Card}
use Rattle.mc_card.specs.Parts.{RunsChain}
use Rattle.desk_cover.specs.declared.known.Known.{Known}
use Rattle.desk_cover.specs.Looking.{section_at}
use Rattle.desk_cover.specs.Sections.{index_of}

-- what is known is the name of an application and the index of the first section that it runs, by its name and its code
pub record FitsKnown (ss : List Source) (n code : List ℕ) (k : Known) : Type 0 where
  pub name : k.name.items ≡ n
  pub section : k.section ≡ index_of 0 ss n code
  pub short : IfSome (section_at ss k.section) (λ s. length s.code ≤ most_code)

-- the same is known
pub record IsSameKnown (j k : Known) : Type 0 where
  pub name : k.name.items ≡ j.name.items
  pub section : k.section ≡ j.section

-- what is known of an application after a turn, by whether it has the name that was known: the same, or what fits it
abbrev pub KnownBy : Bool → List Source → List ℕ → List ℕ → Known → Known → Type 0
KnownBy true ss n code j k = IsSameKnown j k
KnownBy false ss n code j k = FitsKnown ss n code k

-- what is known of an application after a turn
abbrev pub IsKnownAfter : List Source → List ℕ → List ℕ → Known → Known → Type 0
IsKnownAfter ss n code j k = KnownBy (bytes_eq n j.name.items) ss n code j k

-- what is known fits the application that runs on a card
abbrev pub Knows : {N : Type 0} → (N → DeviceState) → Card N → List Source → Known → Type 0
Knows state c ss k = (ch : Chain) (left : ℕ) → RunsChain state c ch left → FitsKnown ss ch.frame.name (running_code ch) k
