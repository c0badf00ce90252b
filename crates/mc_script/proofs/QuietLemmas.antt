-- Lines that make no device write.
use Rattle.std.proofs.Common.{◌≡◌, ℕ, ◌≤◌, Bool, false, List, [], Option, Some, None, refl, sym, ◌∙◌, ap, subst, arith, append-nil}
use Rattle.std.specs.Prelude.{option_map, length}
use Rattle.model_play.specs.model_device.specs.Device.{DeviceState, BenchState, Entry, GrowsBy}
use Rattle.model_play.specs.DeckGrammar.{DeckLine}
use Rattle.model_play.specs.DeckGrammar as line
use Rattle.model_play.specs.model_card.specs.Items.{moves}
use Rattle.model_play.specs.Play as play
use Rattle.model_play.specs.Play.{FailedWrite, Unarmed, ArmedCut, ArmedFail, Live, Running, Unpowered, Muted, LineResult, NoCard, Silenced, Warm, State, BeforePower, AfterPower, Step, step, quiet, card_line, dump_result, is_card_line, armed_stop_in, moves_of, steady_at, words_left}
use Rattle.model_play.specs.TraceText.{shown_turns}
use Rattle.mc_card.specs.declared.card.Card.{Card}
use Rattle.mc_script.specs.declared.answer.Answer.{Answer}
use Rattle.mc_script.specs.declared.answer.Answer.TheVariants as answer
use Rattle.mc_script.specs.declared.armed.Armed.{Armed}
use Rattle.mc_script.specs.declared.armed.Armed.TheVariants as armed
use Rattle.mc_script.specs.declared.commands.CardLine.{CardLine}
use Rattle.mc_script.specs.declared.player.Power.{Power}
use Rattle.mc_script.specs.declared.player.Power.TheVariants as power
use Rattle.mc_script.specs.declared.player.Player.{Player}
use Rattle.mc_script.specs.Players.{answer_value, armed_value, dump_value, device_of, CanArm, LiveIs, IsPlayerAt}
use Rattle.mc_script.specs.Counting.{line_powers, line_pokes, line_cuts, line_fails, on_unstopped, Arms, LineCounts}
use Rattle.mc_script.specs.Commands.{deck_line_of}
use Rattle.mc_script.specs.Lines.{Stepped, SilentLine, SilentDone}
use Rattle.mc_script.proofs.FuseLemmas.{past_none}
use Rattle.mc_script.proofs.HitLemmas.{NotHit, not_hit}
use Rattle.mc_script.proofs.CommandStepLemmas.{after_power_is, before_power_is, no_powers, no_pokes, no_cuts, no_fails, moves_after_power, moves_before_power}

-- ---- stops that are passed to no device

pub arms_same : (b : BenchState) (a : play.Armed) → Arms b a 0 0 b a
arms_same b a = record { arms = omega arith; wears = omega arith }

arms_cut : (b : BenchState) (a : play.Armed) (k : ℕ) (x : List ℕ) → Arms b a 1 0 b (ArmedCut k x)
arms_cut b a k x = record { arms = omega arith; wears = omega arith }

arms_fail : (b : BenchState) (a : play.Armed) (k : ℕ) → Arms b a 0 1 b (ArmedFail k)
arms_fail b a k = record { arms = omega arith; wears = omega arith }

pub arms_dropped : (b : BenchState) (a : play.Armed) → Arms b a 0 0 b Unarmed
arms_dropped b a = record { arms = omega arith; wears = omega arith }

pub steady_none : (a : play.Armed) (l : DeckLine) (m : ℕ) → is_card_line l ≡ false → None ≡ steady_at a l m
steady_none a l m h = grind arith

-- a line that is no power line leaves the power as it is
pub same_power : (l : DeckLine) (on : Bool) → line_powers l ≡ 0 → on ≡ on_unstopped on l
same_power line.Power on h = absurd (cc h)
same_power _ on h = refl

pub grows_none : (t : Option (List Entry)) → GrowsBy t [] t
grows_none None = tt
grows_none (Some t) = simp append-nil refl

module _ {N : Type 0} (state : N → DeviceState) (bench : N → BenchState) where
  -- ---- any line that makes no write

  -- the counts of a line that calls nothing
  counts_same : (b : BenchState) (d : DeviceState) (s : State) (n : ℕ) (l : DeckLine) (result : Option LineResult) (after : State) → line_powers l ≡ 0 → line_pokes s l ≡ 0
      → Arms b (armed_stop_in s) (line_cuts l) (line_fails l) b (armed_stop_in after) → LineCounts b d (quiet n l s result after) b d
  counts_same b d s n l result after powers pokes arms = grind arith

  -- a line that leaves its device as it is
  pub quietly : (p q : Player N) (s : State) (n : ℕ) (l : DeckLine) (result : Option LineResult) (after : State) (r : Option Answer) → device_of q ≡ device_of p → IsPlayerAt state bench q after
      → option_map (answer_value state q) r ≡ result → line_powers l ≡ 0 → line_pokes s l ≡ 0 → Arms (bench (device_of p)) (armed_stop_in s) (line_cuts l) (line_fails l) (bench (device_of p)) (armed_stop_in after)
      → None ≡ steady_at (armed_stop_in s) l (moves_of s (n, l)) → (state (device_of p)).words ≡ words_left (state (device_of p)).words [] after
      → Stepped state bench p s (n, l) None (quiet n l s result after) r q
  quietly p q s n l result after r same at answers powers pokes arms steady words = grind (arith, counts_same, same_power, grows_none)

  -- ---- lines of a play's own state

  pub budget_done : (p : Player N) (k : ℕ) → 1 ≤ k → k ≤ 65536 → SilentDone state bench p (line.Budget k) None (record p { budget = k })
  unfolding step
  budget_done p k some most (BeforePower m b a) n at =
      let q : Player N = record p { budget = k } in
      let then : IsPlayerAt state bench q (BeforePower m k a) = record { stands = at.stands; budget = refl; armed = at.armed; some = some; most = most; can_arm = at.can_arm; unfused = at.unfused } in (
        None,
        record {
          stepped = quietly p q (BeforePower m b a) n (line.Budget k) None (BeforePower m k a) None refl then refl refl refl (arms_same (bench (device_of p)) a) (steady_none a (line.Budget k) (moves_of (BeforePower m b a) (n, line.Budget k)) refl) at.stands.1;
          silent = refl;
        },
      )
  budget_done p k some most (AfterPower w) n at =
      let q : Player N = record p { budget = k } in
      let then : IsPlayerAt state bench q (AfterPower (record w { budget = k })) = record { stands = at.stands; budget = refl; armed = at.armed; some = some; most = most; can_arm = at.can_arm; unfused = at.unfused } in (
        None,
        record {
          stepped = quietly p q (AfterPower w) n (line.Budget k) None (AfterPower (record w { budget = k })) None refl then refl refl refl (arms_same (bench (device_of p)) w.armed) (steady_none w.armed (line.Budget k) (moves_of (AfterPower w) (n, line.Budget k)) refl) refl;
          silent = refl;
        },
      )

  pub cut_done : (p : Player N) (k : ℕ) (x : List ℕ) → 1 ≤ k → length x ≡ 8 → SilentDone state bench p (line.Cut k x) None (record p { armed = armed.Cut k x })
  unfolding step
  cut_done p k x some size (BeforePower m b a) n at =
      let q : Player N = record p { armed = armed.Cut k x } in
      let then : IsPlayerAt state bench q (BeforePower m b (ArmedCut k x)) = record { stands = at.stands; budget = at.budget; armed = refl; some = at.some; most = at.most; can_arm = (some, size); unfused = at.unfused } in (
        None,
        record {
          stepped = quietly p q (BeforePower m b a) n (line.Cut k x) None (BeforePower m b (ArmedCut k x)) None refl then refl refl refl (arms_cut (bench (device_of p)) a k x) (steady_none a (line.Cut k x) (moves_of (BeforePower m b a) (n, line.Cut k x)) refl) at.stands.1;
          silent = refl;
        },
      )
  cut_done p k x some size (AfterPower w) n at =
      let q : Player N = record p { armed = armed.Cut k x } in
      let then : IsPlayerAt state bench q (AfterPower (record w { armed = ArmedCut k x })) = record { stands = at.stands; budget = at.budget; armed = refl; some = at.some; most = at.most; can_arm = (some, size); unfused = at.unfused } in (
        None,
        record {
          stepped = quietly p q (AfterPower w) n (line.Cut k x) None (AfterPower (record w { armed = ArmedCut k x })) None refl then refl refl refl (arms_cut (bench (device_of p)) w.armed k x) (steady_none w.armed (line.Cut k x) (moves_of (AfterPower w) (n, line.Cut k x)) refl) refl;
          silent = refl;
        },
      )

  pub fail_done : (p : Player N) (k : ℕ) → 1 ≤ k → SilentDone state bench p (line.Fail k) None (record p { armed = armed.Fail k })
  unfolding step
  fail_done p k some (BeforePower m b a) n at =
      let q : Player N = record p { armed = armed.Fail k } in
      let then : IsPlayerAt state bench q (BeforePower m b (ArmedFail k)) = record { stands = at.stands; budget = at.budget; armed = refl; some = at.some; most = at.most; can_arm = some; unfused = at.unfused } in (
        None,
        record {
          stepped = quietly p q (BeforePower m b a) n (line.Fail k) None (BeforePower m b (ArmedFail k)) None refl then refl refl refl (arms_fail (bench (device_of p)) a k) (steady_none a (line.Fail k) (moves_of (BeforePower m b a) (n, line.Fail k)) refl) at.stands.1;
          silent = refl;
        },
      )
  fail_done p k some (AfterPower w) n at =
      let q : Player N = record p { armed = armed.Fail k } in
      let then : IsPlayerAt state bench q (AfterPower (record w { armed = ArmedFail k })) = record { stands = at.stands; budget = at.budget; armed = refl; some = at.some; most = at.most; can_arm = some; unfused = at.unfused } in (
        None,
        record {
          stepped = quietly p q (AfterPower w) n (line.Fail k) None (AfterPower (record w { armed = ArmedFail k })) None refl then refl refl refl (arms_fail (bench (device_of p)) w.armed k) (steady_none w.armed (line.Fail k) (moves_of (AfterPower w) (n, line.Fail k)) refl) refl;
          silent = refl;
        },
      )

  pub named_done : (p : Player N) → SilentDone state bench p line.Named None p
  unfolding step
  named_done p (BeforePower m b a) n at =
      (None, record { stepped = quietly p p (BeforePower m b a) n line.Named None (BeforePower m b a) None refl at refl refl refl (arms_same (bench (device_of p)) a) (steady_none a line.Named (moves_of (BeforePower m b a) (n, line.Named)) refl) at.stands.1; silent = refl })
  named_done p (AfterPower w) n at =
      (None, record { stepped = quietly p p (AfterPower w) n line.Named None (AfterPower w) None refl at refl refl refl (arms_same (bench (device_of p)) w.armed) (steady_none w.armed line.Named (moves_of (AfterPower w) (n, line.Named)) refl) refl; silent = refl })

  -- ---- lines from the first power line on, which leave their player as it is

  -- a line that changes nothing in a play past its first power line
  pub still : (p : Player N) (w : Warm) (n : ℕ) (l : DeckLine) (result : Option LineResult) (r : Option Answer) → IsPlayerAt state bench p (AfterPower w) → option_map (answer_value state p) r ≡ result → line_powers l ≡ 0
      → line_pokes (AfterPower w) l ≡ 0 → line_cuts l ≡ 0 → line_fails l ≡ 0 → is_card_line l ≡ false → Stepped state bench p (AfterPower w) (n, l) None (quiet n l (AfterPower w) result (AfterPower w)) r p
  still p w n l result r at answers powers pokes cuts fails card =
      let b = bench (device_of p) in
      quietly p p (AfterPower w) n l result (AfterPower w) r refl at answers powers pokes
      (subst (λ (i : ℕ). Arms b w.armed i (line_fails l) b w.armed) (sym cuts) (subst (λ (i : ℕ). Arms b w.armed 0 i b w.armed) (sym fails) (arms_same b w.armed)))
      (steady_none w.armed l (moves_of (AfterPower w) (n, l)) card) refl

  -- ---- dumps

  -- the result of a `dump` line of a player is that of the play, from the first power line on
  dump_live : (pw : Power) (c : Card N) (w : Warm) (aid : List ℕ) → LiveIs state pw c w.base w.live → dump_value state pw c aid ≡ dump_result w.live w.base aid
  dump_live pw c w aid h = grind arith

  pub dump_done : (p : Player N) (aid : List ℕ) → SilentDone state bench p (line.Dump aid) (Some (answer.Dump aid)) p
  unfolding step
  dump_done p aid (BeforePower m b r) n at =
      let is : dump_value state p.power p.card aid ≡ NoCard = ap (λ (x : Power). dump_value state x p.card aid) at.stands.0 in (
        None,
        record {
          stepped = quietly p p (BeforePower m b r) n (line.Dump aid) (Some NoCard) (BeforePower m b r) (Some (answer.Dump aid)) refl at (ap (λ (x : LineResult). Some x) is) refl refl (arms_same (bench (device_of p)) r)
              (steady_none r (line.Dump aid) (moves_of (BeforePower m b r) (n, line.Dump aid)) refl) at.stands.1;
          silent = refl;
        },
      )
  dump_done p aid (AfterPower w) n at =
      let is : dump_value state p.power p.card aid ≡ dump_result w.live w.base aid = dump_live p.power p.card w aid at.stands.0 in
      (None, record { stepped = still p w n (line.Dump aid) (Some (dump_result w.live w.base aid)) (Some (answer.Dump aid)) at (ap (λ (x : LineResult). Some x) is) refl refl refl refl refl; silent = refl })

  -- the result of a `dump` line, whatever failed write the play is given
  same_dump : (s : State) (n : ℕ) (aid : List ℕ) (w : Option FailedWrite) → (step s (n, line.Dump aid) None).result ≡ (step s (n, line.Dump aid) w).result
  unfolding step
  same_dump (BeforePower m b r) n aid w = refl
  same_dump (AfterPower v) n aid w = refl

  pub dump_answer : (p : Player N) (aid : List ℕ) (s : State) (n : ℕ) → IsPlayerAt state bench p s → (step s (n, line.Dump aid) None).result ≡ Some (answer_value state p (answer.Dump aid))
  dump_answer p aid s n at = let h = dump_done p aid s n at in same_dump s n aid h.0 ∙ sym (h.1).stepped.answers

  -- ---- lines of commands without a card

  no_arms : (c : CardLine) (b : BenchState) (a : play.Armed) → Arms b a (line_cuts (deck_line_of c)) (line_fails (deck_line_of c)) b Unarmed
  no_arms c b a = subst (λ (i : ℕ). Arms b a i (line_fails (deck_line_of c)) b Unarmed) (sym (no_cuts c)) (subst (λ (i : ℕ). Arms b a 0 i b Unarmed) (sym (no_fails c)) (arms_dropped b a))

  no_steady : (a : Armed) (b : BenchState) (v : play.Armed) (l : DeckLine) (m : ℕ) → CanArm a → armed_value a ≡ v → m ≡ 0 → None ≡ steady_at v l m
  no_steady a b v l m can is none = grind (arith, NotHit, not_hit, past_none)

  -- a quiet step is silent
  quiet_silent : (p q : Player N) (s : State) (n : ℕ) (l : DeckLine) (result : Option LineResult) (after : State) (r : Option Answer) → step s (n, l) None ≡ quiet n l s result after
      → Stepped state bench p s (n, l) None (quiet n l s result after) r q → SilentLine state bench p s (n, l) None r q
  quiet_silent p q s n l result after r is stepped =
      record { stepped = subst (λ (t : Step). Stepped state bench p s (n, l) None t r q) (sym is) stepped; silent = subst (λ (t : Step). shown_turns t.turns t.stop ≡ []) (sym is) refl }

  pub none_before_power : (p : Player N) (c : CardLine) → p.power ≡ power.BeforePower → SilentDone state bench p (deck_line_of c) (Some answer.NoCard) (record p { armed = armed.Not })
  none_before_power p c before_power (AfterPower w) n at = absurd (subst (λ (x : Power). LiveIs state x p.card w.base w.live) before_power at.stands.0)
  none_before_power p c before_power (BeforePower m b r) n at =
      let q : Player N = record p { armed = armed.Not } in
      let d = device_of p in
      let l = deck_line_of c in
      let then : IsPlayerAt state bench q (BeforePower m b Unarmed) = record { stands = at.stands; budget = at.budget; armed = refl; some = at.some; most = at.most; can_arm = tt; unfused = at.unfused } in (
        None,
        quiet_silent p q (BeforePower m b r) n l (Some NoCard) (BeforePower m b Unarmed) (Some answer.NoCard) (before_power_is c m b r n None)
            (quietly p q (BeforePower m b r) n l (Some NoCard) (BeforePower m b Unarmed) (Some answer.NoCard) refl then refl (no_powers c) (no_pokes c (BeforePower m b r)) (no_arms c (bench d) r)
            (no_steady p.armed (bench d) r l (moves_of (BeforePower m b r) (n, l)) at.can_arm at.armed (moves_before_power c m b r n)) at.stands.1),
      )

  -- a line of commands in a play past its first power line, if no card runs
  none_after_power : (p q : Player N) (w : Warm) (n : ℕ) (c : CardLine) (v : Live) (result : LineResult) (r : Answer) → device_of q ≡ device_of p → IsPlayerAt state bench p (AfterPower w) → IsPlayerAt state bench q (AfterPower (record w { armed = Unarmed }))
      → w.live ≡ v → card_line n (deck_line_of c) w v w.base None ≡ quiet n (deck_line_of c) (AfterPower w) (Some result) (AfterPower (record w { armed = Unarmed })) → answer_value state q r ≡ result
      → SilentLine state bench p (AfterPower w) (n, deck_line_of c) None (Some r) q
  none_after_power p q w n c v result r same at then live quiet_is answers =
      let l = deck_line_of c in
      let line_is : card_line n l w w.live w.base None ≡ quiet n l (AfterPower w) (Some result) (AfterPower (record w { armed = Unarmed })) = ap (λ (x : Live). card_line n l w x w.base None) live ∙ quiet_is in
      let none : moves_of (AfterPower w) (n, l) ≡ 0 = moves_after_power c w n ∙ ap (λ (t : Step). moves t.items) line_is in
      quiet_silent p q (AfterPower w) n l (Some result) (AfterPower (record w { armed = Unarmed })) (Some r) (after_power_is c w n None ∙ line_is)
      (quietly p q (AfterPower w) n l (Some result) (AfterPower (record w { armed = Unarmed })) (Some r) same then (ap (λ (x : LineResult). Some x) answers) (no_powers c) (no_pokes c (AfterPower w)) (no_arms c (bench (device_of p)) w.armed)
      (no_steady p.armed (bench (device_of p)) w.armed l (moves_of (AfterPower w) (n, l)) at.can_arm at.armed none) refl)

  pub none_off : (p : Player N) (c : CardLine) → p.power ≡ power.Off → SilentDone state bench p (deck_line_of c) (Some answer.NoCard) (record p { armed = armed.Not })
  none_off p c off (BeforePower m b r) n at = absurd (cc (sym at.stands.0 ∙ off))
  none_off p c off (AfterPower w) n at =
      let q : Player N = record p { armed = armed.Not } in
      let live : w.live ≡ Unpowered = subst (λ (x : Power). LiveIs state x p.card w.base w.live) off at.stands.0 in
      let then : IsPlayerAt state bench q (AfterPower (record w { armed = Unarmed })) = record { stands = at.stands; budget = at.budget; armed = refl; some = at.some; most = at.most; can_arm = tt; unfused = at.unfused } in
      (None, none_after_power p q w n c Unpowered NoCard answer.NoCard refl at then live refl refl)

  pub none_mute : (p : Player N) (c : CardLine) → p.power ≡ power.Mute → SilentDone state bench p (deck_line_of c) (Some answer.Mute) (record p { armed = armed.Not })
  none_mute p c mute (BeforePower m b r) n at = absurd (cc (sym at.stands.0 ∙ mute))
  none_mute p c mute (AfterPower w) n at =
      let q : Player N = record p { armed = armed.Not } in
      let live : w.live ≡ Muted = subst (λ (x : Power). LiveIs state x p.card w.base w.live) mute at.stands.0 in
      let then : IsPlayerAt state bench q (AfterPower (record w { armed = Unarmed })) = record { stands = at.stands; budget = at.budget; armed = refl; some = at.some; most = at.most; can_arm = tt; unfused = at.unfused } in
      (None, none_after_power p q w n c Muted Silenced answer.Mute refl at then live refl refl)
