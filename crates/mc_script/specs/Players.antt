-- The values of a player between two lines, and when it is at a state of a play.
use Rattle.std.specs.Prelude.{◌≡◌, ℕ, ◌≤◌, List, length, Option, None, option_map}
use Rattle.model_play.specs.model_device.specs.Device.{DeviceState, BenchState}
use Rattle.model_play.specs.Play as play
use Rattle.model_play.specs.Play.{LineResult, Unarmed, ArmedCut, ArmedFail, Live, Running, Unpowered, Muted, State, BeforePower, AfterPower, Formatted, Ready, Unusable, OffAt, FailureStop, NoCard, Silenced, Answered, static_of}
use Rattle.model_play.specs.model_device.specs.PowerUp.{Base, OnCard}
use Rattle.model_play.specs.Given.{budget_in}
use Rattle.mc_store.specs.Power.{HoldsBase}
use Rattle.mc_machine.specs.Turns.{outcome_value}
use Rattle.mc_card.specs.declared.card.Card.{Card}
use Rattle.mc_card.specs.Parts.{device_in, with_device, card_in, session_state_in, IsReadyCard}
use Rattle.mc_script.specs.declared.armed.Armed.{Armed}
use Rattle.mc_script.specs.declared.armed.Armed.TheVariants as armed
use Rattle.mc_script.specs.declared.answer.Answer.{Answer}
use Rattle.mc_script.specs.declared.answer.Answer.TheVariants as answer
use Rattle.mc_script.specs.declared.player.Power.{Power}
use Rattle.mc_script.specs.declared.player.Power.TheVariants as power
use Rattle.mc_script.specs.declared.player.Player.{Player}
use Rattle.model_play.specs.model_device.specs.Bytes.{lookup}

-- ---- values

-- the armed stop of the play that an armed stop of the code is
abbrev pub armed_value : Armed → play.Armed
armed_value armed.Not = Unarmed
armed_value (armed.Cut k fill) = ArmedCut k fill
armed_value (armed.Fail k) = ArmedFail k

-- the number of the write at which power is cut, and 0 if no cut is armed
abbrev pub cut_place : Armed → ℕ
cut_place armed.Not = 0
cut_place (armed.Cut k fill) = k
cut_place (armed.Fail k) = 0

-- the device below a player
abbrev pub device_of : {N : Type 0} → Player N → N
device_of p = device_in p.card

-- the player over another device
abbrev pub on_device : {N : Type 0} → Player N → N → Player N
on_device p d = record p { card = with_device p.card d }

-- a stop can be armed: its write is counted from 1
abbrev pub CanArm : Armed → Type 0
CanArm armed.Not = Unit {0}
CanArm (armed.Cut k fill) = (1 ≤ k) × (length fill ≡ 8)
CanArm (armed.Fail k) = 1 ≤ k

-- the device has no fuse
pub record IsUnfused (b : BenchState) : Type 0 where
  pub cut : b.cut ≡ None
  pub worn : b.worn ≡ None

module _ {N : Type 0} (state : N → DeviceState) where
  -- ---- results

  -- the result of a `dump` line for a name, by the power of a card
  abbrev pub dump_value : Power → Card N → List ℕ → LineResult
  dump_value power.BeforePower c aid = NoCard
  dump_value power.Off c aid = NoCard
  dump_value power.Mute c aid = Silenced
  dump_value power.On c aid = static_of (lookup (card_in state c).apps aid)

  -- the static bytes of an application on a card with this power, if the card runs and has the application
  abbrev pub statics_by : Power → Card N → List ℕ → Option (List ℕ)
  statics_by power.BeforePower c aid = None
  statics_by power.Off c aid = None
  statics_by power.Mute c aid = None
  statics_by power.On c aid = option_map (λ a. a.fixed) (lookup (card_in state c).apps aid)

  -- the static bytes of an application on a player's card, if it runs and has the application
  abbrev pub statics_in : Player N → List ℕ → Option (List ℕ)
  statics_in p aid = statics_by p.power p.card aid

  -- the result of the play that an answer is, for the player that returned it
  abbrev pub answer_value : Player N → Answer → LineResult
  answer_value p answer.Formatted = Formatted
  answer_value p (answer.Ready n) = Ready n
  answer_value p (answer.Unusable u) = Unusable u.cause u.place
  answer_value p (answer.OffAt k) = OffAt k
  answer_value p answer.Worn = FailureStop
  answer_value p answer.NoCard = NoCard
  answer_value p answer.Mute = Silenced
  answer_value p answer.Outcome = Answered (outcome_value p.outcome)
  answer_value p (answer.Dump aid) = dump_value p.power p.card aid

  -- ---- states

  -- a card that runs is that of the play
  pub record IsCardOfPlay (c : Card N) (b : Base) (l : Live) : Type 0 where
    pub ready : IsReadyCard state c
    pub base : b ≡ OnCard (card_in state c)
    pub live : l ≡ Running (session_state_in state c)

  -- the power is that of the play, from the first power line on
  abbrev pub LiveIs : Power → Card N → Base → Live → Type 0
  LiveIs power.BeforePower c base live = ⊥
  LiveIs power.Off c base live = live ≡ Unpowered
  LiveIs power.Mute c base live = live ≡ Muted
  LiveIs power.On c base live = IsCardOfPlay c base live

  -- the words and the power of a player are those of a state of a play
  abbrev pub StateIs : Power → Card N → State → Type 0
  StateIs p c (BeforePower m b a) = (p ≡ power.BeforePower) × ((state (device_in c)).words ≡ m)
  StateIs p c (AfterPower w) = LiveIs p c w.base w.live × HoldsBase w.base w.owed w.by (state (device_in c)).words

module _ {N : Type 0} (state : N → DeviceState) (bench : N → BenchState) where
  -- A player is at a state of a play: its power, words, budget and armed stop are those of the state. Between two lines
  -- its device has no fuse.
  pub record IsPlayerAt (p : Player N) (s : State) : Type 0 where
    pub stands : StateIs state p.power p.card s
    pub budget : p.budget ≡ budget_in s
    pub armed : armed_value p.armed ≡ play.armed_stop_in s
    pub some : 1 ≤ p.budget
    pub most : p.budget ≤ 65536
    pub can_arm : CanArm p.armed
    pub unfused : IsUnfused (bench (device_of p))

  -- a player is at some state of a play
  abbrev pub IsPlaying : Player N → Type 0
  IsPlaying p = (s : State) × IsPlayerAt p s
