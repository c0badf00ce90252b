-- The laws of recovery: every chain of stops leads to one card, and a sweep shows every card that a chain leads to.
use Rattle.std.specs.Prelude.{◌≡◌, ◌⊎◌, ℕ, ◌+◌, ◌-◌, ◌<◌, ◌≤◌, true, false, cond, List, [], ◌∷◌, ◌++◌, bytes_eq}
use Rattle.model_play.specs.model_device.specs.declared.device.Stop.TheVariants as stop
use Rattle.model_play.specs.model_device.specs.Image.{Two, opening}
use Rattle.model_play.specs.model_device.specs.Stopped.{stands}
use Rattle.model_play.specs.model_device.specs.PowerUp.{Base, base_after_migration}
use Rattle.model_play.specs.model_card.specs.Items.{Item, Plain, Atomic, weight, moves, apps_after_items, StopAt, at_stop}
use Rattle.model_play.specs.DeckGrammar.{DeckLine}
use Rattle.model_play.specs.Given.{apps_on, apps_in}
use Rattle.model_play.specs.Play.{Unarmed, Warm, State, AfterPower, power_live, is_card_line, moves_of}
use Rattle.law_recovery.specs.Chains.{after_chain, base_in, base_with, whole_items_in}

-- ---- the rule of stops

-- the item in flight, if it is whole: an atomic write whose commit record was written, before its write k or by what
-- that write left
abbrev pub in_flight_whole : Item → ℕ → List ℕ → List Item
in_flight_whole Plain k x = []
in_flight_whole (Atomic w c) k x = cond (stands Two w k x) (Atomic w c ∷ []) []

-- these items are whole after a stop at write k that left x: those before the item in flight, and this one by the
-- rule
pub record AreWhole (is : List Item) (k : ℕ) (x : List ℕ) (whole : List Item) : Type 0 where
  pub before : List Item
  pub flight : Item
  pub rest : List Item
  pub all : is ≡ before ++ flight ∷ rest
  pub first : moves before < k
  pub last : k ≤ moves before + weight flight
  pub are : whole ≡ before ++ in_flight_whole flight (k - moves before) x

-- The rule of stops: of items that a stop hits, those before the one in flight are whole, and this one if its commit
-- record was written.
abbrev pub RuleLaw : Type 0
RuleLaw = (is : List Item) (k : ℕ) (x : List ℕ) → 1 ≤ k → k ≤ moves is → AreWhole is k x (at_stop is k x).whole

-- ---- chains

-- a play that a whole power line left, of this card or fault before the migration
pub record IsPowered (b : Base) (s : Warm) : Type 0 where
  pub base : s.base ≡ base_after_migration b
  pub owed : s.owed ≡ 0
  pub live : s.live ≡ power_live b
  pub armed : s.armed ≡ Unarmed

-- what a chain leads to
pub record IsRecovered (n : ℕ) (z : State) (l : ℕ × DeckLine) (t : StopAt) (ts : List StopAt) : Type 0 where
  -- the applications are those before the line, with the items that are whole
  pub apps : apps_in (after_chain n z l t ts) ≡ apps_after_items (apps_on (base_in z)) (whole_items_in z l t)
  -- and the play is that of a whole power line on this card: nothing is owed, no stop is armed, and the card runs
  pub warm : Warm
  pub is : after_chain n z l t ts ≡ AfterPower warm
  pub powered : IsPowered (base_with (base_in z) (whole_items_in z l t)) warm

-- Whatever line to the card a stop hits, in whatever state, at whatever write and whatever it leaves there, and
-- whatever stops hit the power lines after it: after the next whole power line the applications are those before the
-- line with the items that the rule of stops calls whole.
abbrev pub ChainLaw : Type 0
ChainLaw =
    (n : ℕ) (z : State) (l : ℕ × DeckLine) (t : StopAt) (ts : List StopAt) → is_card_line l.1 ≡ true
    → IsRecovered n z l t ts

-- ---- sweeps

-- the stop of a cut
abbrev pub cut_at : ℕ → List ℕ → StopAt
cut_at k x = record { kind = stop.Off; at = k; left = x }

-- a write of the line whose cut, with this word left and no other stop, leads to the card of a chain
pub record IsShown (n : ℕ) (z : State) (l : ℕ × DeckLine) (t : StopAt) (ts : List StopAt) (fill : List ℕ) : Type 0 where
  pub write : ℕ
  pub low : 1 ≤ write
  pub high : write ≤ moves_of z l
  -- that write or the next one
  pub near : (write ≡ t.at) ⊎ (write ≡ t.at + 1)
  pub same : base_in (after_chain n z l t ts) ≡ base_in (after_chain n z l (cut_at write fill) [])

-- Whatever word does not open the journal, cuts that leave it in each write of a line, with no cut in the recovery,
-- lead to every card that any chain of stops leads to: with the same applications, byte for byte, or the same fault.
abbrev pub SweepLaw : Type 0
SweepLaw =
    (n : ℕ) (z : State) (l : ℕ × DeckLine) (t : StopAt) (ts : List StopAt) (fill : List ℕ)
    → is_card_line l.1 ≡ true → bytes_eq fill (opening Two) ≡ false → 1 ≤ t.at → t.at ≤ moves_of z l
    → IsShown n z l t ts fill
