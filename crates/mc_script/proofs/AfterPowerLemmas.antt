-- From the first power line on no word is poked.
use Rattle.std.proofs.Common.{◌≡◌, ◌⊎◌, ℕ, false, List, [], ◌∷◌, drop, Option, refl, arith, inl, inr}
use Rattle.model_play.specs.DeckGrammar.{DeckLine}
use Rattle.model_play.specs.DeckGrammar as line
use Rattle.model_play.specs.Play.{Live, Running, Unpowered, Muted, Warm, State, BeforePower, AfterPower, FailedWrite, Step, step, plays, card_line, first_failure}
use Rattle.model_play.specs.model_device.specs.PowerUp.{Base, OnCard, AtFault}
use Rattle.model_play.specs.ReadyAgain.{is_before_power}
use Rattle.mc_script.specs.Counting.{line_powers, line_pokes, total}

-- a line pokes no word, and the play after it is past the first power line
record PlayBegun (t : Step) : Type 0 where
  pokes : line_pokes t.before t.line ≡ 0
  after : is_before_power t.after ≡ false

card_begun : (n : ℕ) (l : DeckLine) (s : Warm) (live : Live) (base : Base) (w : Option FailedWrite) → PlayBegun (card_line n l s live base w)
card_begun n l s (Running session_state) (OnCard c) w = record { pokes = refl; after = refl }
card_begun n l s (Running session_state) (AtFault cause p) w = record { pokes = refl; after = refl }
card_begun n l s Unpowered base w = record { pokes = refl; after = refl }
card_begun n l s Muted base w = record { pokes = refl; after = refl }

-- every line from the first power line on pokes no word
begun : (s : State) (l : ℕ × DeckLine) (w : Option FailedWrite) → is_before_power s ≡ false → PlayBegun (step s l w)
unfolding step
begun (BeforePower m b a) l w past_power = absurd (cc past_power)
begun (AfterPower s) (n, line.Sent sent) w past_power = card_begun n (line.Sent sent) s s.live s.base w
begun (AfterPower s) (n, _) w past_power = record { pokes = refl; after = refl }

-- every play from the first power line on pokes no word
none_poked : (s : State) (ls : List (ℕ × DeckLine)) (ws : List (Option FailedWrite)) → is_before_power s ≡ false → total (λ t. line_pokes t.before t.line) (plays s ls ws) ≡ 0
unfolding plays
none_poked s [] ws past_power = refl
none_poked s (l ∷ ls) ws past_power =
    let first : PlayBegun (step s l (first_failure ws)) = begun s l (first_failure ws) past_power in
    let rest = none_poked (step s l (first_failure ws)).after ls (drop 1 ws) first.after in
    let one = first.pokes in
    omega (arith, one, rest)

-- either power does not come in a line, or the play after it is past the first power line
powers_first : (s : State) (l : ℕ × DeckLine) (w : Option FailedWrite) → (line_powers (step s l w).line ≡ 0) ⊎ (is_before_power (step s l w).after ≡ false)
unfolding step
powers_first (BeforePower m b a) (n, line.Power) w = inr refl
powers_first (BeforePower m b a) (n, _) w = inl refl
powers_first (AfterPower s) l w = inr (begun (AfterPower s) l w refl).after

-- either power does not come in a line, or no word is poked after it
abbrev pub PokesFirst : Step → List Step → Type 0
PokesFirst t ts = (line_powers t.line ≡ 0) ⊎ (total (λ u. line_pokes u.before u.line) ts ≡ 0)

-- in every play no word is poked after power came
pub pokes_first : (s : State) (l : ℕ × DeckLine) (w : Option FailedWrite) (ls : List (ℕ × DeckLine)) (ws : List (Option FailedWrite)) → PokesFirst (step s l w) (plays (step s l w).after ls ws)
pokes_first s l w ls ws = grind (arith, powers_first, none_poked)
