-- The states of an exploration: a card, what it holds besides its applications, and the allowances.
use Rattle.std.specs.Prelude.{ℕ, Bool, true, false, ◌&&◌, ◌||◌, ◌==◌, List, [], ◌∷◌, bytes_eq, Option, Some, None}
use Rattle.model_play.specs.model_device.specs.Image.{Two}
use Rattle.model_play.specs.model_device.specs.Device.{blank_words, device_words}
use Rattle.model_play.specs.model_device.specs.Card.{App}
use Rattle.model_play.specs.model_device.specs.PowerUp.{Base, OnCard, AtFault}
use Rattle.model_play.specs.model_device.specs.Words.{cause_text}
use Rattle.model_play.specs.model_card.specs.declared.card.Sizes.{Sizes}
use Rattle.model_play.specs.model_card.specs.Manager.{Selected, Got, Open}
use Rattle.model_play.specs.DeckGrammar.{DeckLine}
use Rattle.model_play.specs.Play.{Unarmed, Live, Running, Unpowered, Muted, Warm, State, BeforePower, AfterPower, start, plays, steady_failures, last_state, play_at_power, power_after}

-- ---- states

-- A card with the allowances: its applications with all their bytes and places, whether it runs, its selection with the
-- session bytes, its open load, and each allowance. The budget is the one of the deck's last `budget` line.
pub record CardState : Type 0 where
  pub base : Base
  pub live : Live
  pub budget : ℕ
  pub allowances : List (List ℕ × ℕ)

-- the play that goes on from a state: nothing is armed, and no write is owed
abbrev pub play_of : CardState → State
play_of c = AfterPower (record { base = c.base; owed = 0; by = Two; live = c.live; budget = c.budget; armed = Unarmed })

-- the state of a play with allowances
abbrev pub warm_state : Warm → List (List ℕ × ℕ) → CardState
warm_state s a = record { base = s.base; live = s.live; budget = s.budget; allowances = a }

-- a play from its first power line on; before it, the one that this line would find
abbrev pub warm_in : State → Warm
warm_in (BeforePower m b a) = play_at_power m b a
warm_in (AfterPower s) = s

-- the state of a play with allowances
abbrev pub state_in : State → List (List ℕ × ℕ) → CardState
state_in s a = warm_state (warm_in s) a

-- ---- the first state

-- the play after a deck's lines, on a blank device that refuses just the writes of `fail` lines
unfoldable pub play_of_deck : List (ℕ × DeckLine) → State
play_of_deck ls =
    let s = start (blank_words device_words) in
    last_state s (plays s ls (steady_failures s ls))

-- a play with a card that runs: after one more power line if none does and that line is ready
abbrev pub running_or_powered : Live → Base → Warm → Warm
running_or_powered (Running session_state) b s = s
running_or_powered v (OnCard c) s = power_after s None
running_or_powered v (AtFault cause place) s = s

-- a play with no stop armed and a card that runs, if there is one
abbrev pub first_warm : Warm → Warm
first_warm s = running_or_powered s.live s.base (record s { armed = Unarmed })

-- the play from which a deck is explored
unfoldable pub first_play : List (ℕ × DeckLine) → Warm
unfolding play_of_deck
first_play ls = first_warm (warm_in (play_of_deck ls))

-- ---- which states are one

-- the same applications of a card, one by one
abbrev pub is_same_app : App → App → Bool
is_same_app a b =
    let rest = bytes_eq a.code b.code && bytes_eq a.dir b.dir && bytes_eq a.fci b.fci in
    (bytes_eq a.fixed b.fixed && (a.place == b.place) && (a.session == b.session) && (a.deny == b.deny)) && rest

-- the same names with the same applications
abbrev pub are_same_apps : List (List ℕ × App) → List (List ℕ × App) → Bool
are_same_apps [] [] = true
are_same_apps (x ∷ xs) (y ∷ ys) =
    let rest = are_same_apps xs ys in
    (bytes_eq x.0 y.0 && is_same_app x.1 y.1) && rest
are_same_apps [] (y ∷ ys) = false
are_same_apps (x ∷ xs) [] = false

-- the same base
abbrev pub is_same_base : Base → Base → Bool
is_same_base (OnCard c) (OnCard d) = (c.size == d.size) && (c.layout == d.layout) && are_same_apps c.apps d.apps
is_same_base (AtFault c p) (AtFault d q) = bytes_eq (cause_text c) (cause_text d) && (p == q)
is_same_base (OnCard c) (AtFault d q) = false
is_same_base (AtFault c p) (OnCard d) = false

-- the same selection
abbrev pub is_same_selection : Option Selected → Option Selected → Bool
is_same_selection None None = true
is_same_selection (Some s) (Some t) = bytes_eq s.name t.name && bytes_eq s.session t.session
is_same_selection None (Some t) = false
is_same_selection (Some s) None = false

-- the same sizes of a load
abbrev pub are_same_sizes : Sizes → Sizes → Bool
are_same_sizes s t =
    (s.code == t.code) && (s.fixed == t.fixed) && (s.init == t.init) && (s.session == t.session) && (s.dir == t.dir) && (s.fci == t.fci) && (s.deny == t.deny)

-- the same sections of a load
abbrev pub is_same_got : Got → Got → Bool
is_same_got g h = bytes_eq g.code h.code && bytes_eq g.init h.init && bytes_eq g.dir h.dir && bytes_eq g.fci h.fci

-- the same open load
abbrev pub is_same_load : Option Open → Option Open → Bool
is_same_load None None = true
is_same_load (Some o) (Some p) = are_same_sizes o.site.sizes p.site.sizes && (o.site.place == p.site.place) && is_same_got o.got p.got
is_same_load None (Some p) = false
is_same_load (Some o) None = false

-- both run with the same session state, or both run not for the same reason
abbrev pub is_same_live : Live → Live → Bool
is_same_live (Running s) (Running t) = is_same_selection s.selected t.selected && is_same_load s.load t.load
is_same_live Unpowered Unpowered = true
is_same_live Muted Muted = true
is_same_live (Running s) Unpowered = false
is_same_live (Running s) Muted = false
is_same_live Unpowered (Running t) = false
is_same_live Unpowered Muted = false
is_same_live Muted (Running t) = false
is_same_live Muted Unpowered = false

-- the same allowances
abbrev pub are_same_allowances : List (List ℕ × ℕ) → List (List ℕ × ℕ) → Bool
are_same_allowances [] [] = true
are_same_allowances (x ∷ xs) (y ∷ ys) = bytes_eq x.0 y.0 && (x.1 == y.1) && are_same_allowances xs ys
are_same_allowances [] (y ∷ ys) = false
are_same_allowances (x ∷ xs) [] = false

-- whether two states are one, however they were reached
unfoldable pub is_same_state : CardState → CardState → Bool
is_same_state c d =
    let rest = is_same_base c.base d.base in
    (are_same_allowances c.allowances d.allowances && is_same_live c.live d.live && (c.budget == d.budget)) && rest

-- whether a state is among those that were found
unfoldable pub is_known : CardState → List CardState → Bool
unfolding is_same_state
is_known c [] = false
is_known c (d ∷ ds) =
    let rest = is_known c ds in
    is_same_state c d || rest
