-- Cards between the turns of a command: what a watcher may look at.
use Rattle.std.proofs.Common.{◌≡◌, ℕ, List, Option, Some, Ok, sym, ap, subst}
use Rattle.std.specs.Prelude.{not, IfSome}
use Rattle.mc_words.specs.model_device.specs.Orders.{Answer}
use Rattle.mc_words.specs.model_device.specs.Device.{DeviceState}
use Rattle.mc_arith.specs.model_machine.specs.Chain.{Chain, Continues, Ends, Follows, turn_of}
use Rattle.mc_machine.specs.declared.outcome.Turn.{Turn}
use Rattle.mc_machine.specs.Chains.{Chained}
use Rattle.mc_card.specs.declared.card.Card.{Card}
use Rattle.mc_card.specs.Parts.{IsReadyCard, IsRunning, RunsChain}
use Rattle.mc_card.specs.Ends.{ChainTurned, TurnGoesOn}
use Rattle.desk_cover.specs.Watching.{FrameRuns, IsWatched}

module _ {N : Type 0} (state : N → DeviceState) where
  chain_watched : (c : Card N) (ch : Chain) (left : ℕ) → RunsChain state c ch left → IsWatched state c
  chain_watched c ch left r =
      subst (λ (o : Option Chained). IfSome o (λ h. FrameRuns state c h.running)) (sym r.is) (record { going = ap not r.up.going; fits = r.runs.running.fits })

  idle_watched : (c : Card N) → IsReadyCard state c → IsWatched state c
  idle_watched c h = subst (λ (o : Option Chained). IfSome o (λ h. FrameRuns state c h.running)) (sym h.idle) tt

  -- a card before a turn
  pub running_watched : (c : Card N) → IsRunning state c → IsWatched state c
  running_watched c h = chain_watched c h.0 h.1 h.2

  -- the chain of a card that may be looked at runs its frame
  pub watched_chain : (c : Card N) (h : Chained) → IsWatched state c → Some h ≡ c.chain → FrameRuns state c h.running
  watched_chain c h w e = subst (λ (o : Option Chained). IfSome o (λ h. FrameRuns state c h.running)) (sym e) w

  module _ (wrote : N → ℕ → List ℕ → Answer → N → Type 0) where
    goes_watched : (c d : Card N) (ch : Chain) (left : ℕ) (f : Follows) → TurnGoesOn state wrote c ch left f d → IsWatched state d
    goes_watched c d ch left (Continues next) h = chain_watched d next left h.0
    goes_watched c d ch left (Ends o) h = idle_watched d h.0

    -- a card after a turn
    pub turned_watched : (c d : Card N) (turn : Turn) → IsRunning state c → ((ch : Chain) (left : ℕ) → RunsChain state c ch left → ChainTurned state wrote c ch left (turn_of left ch) (Ok turn) d) → IsWatched state d
    turned_watched c d turn r h =
        let t = turn_of r.1 r.0 in
        goes_watched c d r.0 _ t.follows (h r.0 r.1 r.2).follows
