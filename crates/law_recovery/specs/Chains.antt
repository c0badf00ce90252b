-- A line that a stop hits, the power lines after it that stops hit too, and the whole power line after them.
use Rattle.std.specs.Prelude.{ℕ, List, [], ◌∷◌, Some, None}
use Rattle.model_play.specs.model_device.specs.declared.device.Stop.{Stop}
use Rattle.model_play.specs.model_device.specs.declared.device.Stop.TheVariants as stop
use Rattle.model_play.specs.model_device.specs.Layout.{fault}
use Rattle.model_play.specs.model_device.specs.PowerUp.{Base, OnCard, AtFault, base_of}
use Rattle.model_play.specs.model_card.specs.Items.{Item, card_done, StopAt, at_stop}
use Rattle.model_play.specs.DeckGrammar.{DeckLine}
use Rattle.model_play.specs.DeckGrammar as line
use Rattle.model_play.specs.Play.{State, BeforePower, AfterPower, Step, step}

-- the play after a line of which no write fails
abbrev pub after_line : State → ℕ × DeckLine → State
after_line z l = (step z l None).after

-- a line that a stop of this kind hits: power is cut in one of its device writes, or that write fails; one that makes
-- fewer writes is not cut
abbrev pub stopped_by : Stop → State → ℕ × DeckLine → StopAt → Step
stopped_by stop.Off z l t = step (after_line z (l.0, line.Cut t.at t.left)) l None
stopped_by stop.Worn z l t = step z l (Some (record { at = t.at; left = t.left }))

-- a line with a stop
abbrev pub stopped_line : State → ℕ × DeckLine → StopAt → Step
stopped_line z l t = stopped_by t.kind z l t

-- the play after power lines of which each has a stop
unfoldable pub after_stops : ℕ → List StopAt → State → State
after_stops n [] z = z
after_stops n (t ∷ ts) z = after_stops n ts (stopped_line z (n, line.Power) t).after

-- the play after a line with a stop, power lines with stops, and a whole power line
abbrev pub after_chain : ℕ → State → ℕ × DeckLine → StopAt → List StopAt → State
after_chain n z l t ts = after_line (after_stops n ts (stopped_line z l t).after) (n, line.Power)

-- ---- what a chain is to lead to

-- the card of a state, or its fault: before the first power line the one that this line finds
abbrev pub base_in : State → Base
base_in (BeforePower m b a) = base_of (fault m) m
base_in (AfterPower s) = s.base

-- a card with whole items; a fault stays
abbrev pub base_with : Base → List Item → Base
base_with (OnCard c) is = OnCard (card_done c is)
base_with (AtFault cause p) is = AtFault cause p

-- the items of a line
abbrev pub items_in : State → ℕ × DeckLine → List Item
items_in z l = (step z l None).items

-- those that the rule of stops calls whole
abbrev pub whole_items_in : State → ℕ × DeckLine → StopAt → List Item
whole_items_in z l t = (at_stop (items_in z l) t.at t.left).whole
