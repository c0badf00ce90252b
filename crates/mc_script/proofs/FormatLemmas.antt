-- The lines that poke words before the first power line.
use Rattle.std.proofs.Common.{◌≡◌, ℕ, List, Option, Some, None, refl, ◌∙◌, ap, subst, arith}
use Rattle.std.specs.Prelude.{slice_set, option_map, cond, nat_lt, length, false}
use Rattle.model_play.specs.model_device.specs.Device.{DeviceState, BenchState, bench_after_pokes}
use Rattle.model_play.specs.DeckGrammar.{DeckLine}
use Rattle.model_play.specs.DeckGrammar as line
use Rattle.model_play.specs.Play as play
use Rattle.model_play.specs.Play.{LineResult, Formatted, Warm, BeforePower, AfterPower, step, quiet, is_card_line, moves_of, formatted_image}
use Rattle.mc_script.specs.declared.answer.Answer.{Answer}
use Rattle.mc_script.specs.declared.answer.Answer.TheVariants as answer
use Rattle.mc_script.specs.declared.player.Power.{Power}
use Rattle.mc_script.specs.declared.player.Power.TheVariants as power
use Rattle.mc_script.specs.declared.player.Player.{Player}
use Rattle.mc_card.specs.declared.card.Card.{Card}
use Rattle.mc_card.specs.Parts.{device_in}
use Rattle.mc_script.specs.Players.{answer_value, device_of, IsUnfused, LiveIs, IsPlayerAt}
use Rattle.mc_script.specs.Counting.{count_after_rises, when_poked, line_pokes, line_powers, line_cuts, line_fails}
use Rattle.mc_script.specs.Lines.{Stepped, SilentDone, IsFormatted, IsPoked}
use Rattle.mc_script.proofs.PokeLemmas.{poked_are}
use Rattle.mc_script.proofs.QuietLemmas.{steady_none, same_power, grows_none, still}

module _ {N : Type 0} (state : N → DeviceState) (bench : N → BenchState) where
  -- words that were poked before the first power line
  record Poked (d : N) (m : List (List ℕ)) (k : ℕ) (e : N) : Type 0 where
    device : state e ≡ record (state d) { words = m }
    calls : bench e ≡ record (bench d) { pokes = count_after_rises (bench d).pokes k; poked = when_poked (bench d) k }

  unfused : (d e : N) (m : List (List ℕ)) (k : ℕ) → Poked d m k e → IsUnfused (bench d) → IsUnfused (bench e)
  unfused d e m k r h = record { cut = ap (λ (b : BenchState). b.cut) r.calls ∙ h.cut; worn = ap (λ (b : BenchState). b.worn) r.calls ∙ h.worn }

  -- a line that pokes words
  poked : (p : Player N) (e : Card N) (m : List (List ℕ)) (b : ℕ) (r : play.Armed) (n : ℕ) (l : DeckLine) (result : Option LineResult) (x : Option Answer) (new : List (List ℕ)) (j : ℕ)
      → Poked (device_of p) new j (device_in e) → line_pokes (BeforePower m b r) l ≡ j → line_powers l ≡ 0 → line_cuts l ≡ 0 → line_fails l ≡ 0 → is_card_line l ≡ false
      → option_map (answer_value state (record p { card = e })) x ≡ result → IsPlayerAt state bench p (BeforePower m b r)
      → Stepped state bench p (BeforePower m b r) (n, l) None (quiet n l (BeforePower m b r) result (BeforePower new b r)) x (record p { card = e })
  poked p e m b r n l result x new j did pokes powers cuts fails card answers at = grind (arith, unfused, same_power, steady_none, grows_none)

  -- a player before its first power line is at no state of a play after it
  begun : (p : Player N) (w : Warm) → p.power ≡ power.BeforePower → IsPlayerAt state bench p (AfterPower w) → ⊥
  begun p w before_power at = subst (λ (x : Power). LiveIs state x p.card w.base w.live) before_power at.stands.0

  -- ---- format

  pub format_before_power : (p : Player N) (e : Card N) → p.power ≡ power.BeforePower → IsFormatted state bench (device_of p) (device_in e) → SilentDone state bench p line.Format (Some answer.Formatted) (record p { card = e })
  unfolding step
  format_before_power p e before_power did (AfterPower w) n at = absurd (begun p w before_power at)
  format_before_power p e before_power did (BeforePower m b r) n at =
      let d = device_of p in
      let h : Poked d (formatted_image m) 5 (device_in e) = record { device = did.device ∙ ap (λ (y : List (List ℕ)). record (state d) { words = formatted_image y }) at.stands.1; calls = did.calls ∙ poked_are 5 (bench d) } in
      (None, record { stepped = poked p e m b r n line.Format (Some Formatted) (Some answer.Formatted) (formatted_image m) 5 h refl refl refl refl refl refl at; silent = refl })

  -- a `format` line of a play that has begun
  pub format_after_power : (p : Player N) → (p.power ≡ power.BeforePower → ⊥) → SilentDone state bench p line.Format None p
  unfolding step
  format_after_power p past_power (BeforePower m b r) n at = absurd (past_power at.stands.0)
  format_after_power p past_power (AfterPower w) n at = (None, record { stepped = still state bench p w n line.Format None None at refl refl refl refl refl refl; silent = refl })

  -- ---- poke

  pub poke_before_power : (p : Player N) (e : Card N) (at : ℕ) (fill : List ℕ) → p.power ≡ power.BeforePower → IsPoked state bench (device_of p) at fill (device_in e)
      → SilentDone state bench p (line.Poke at fill) None (record p { card = e })
  unfolding step
  poke_before_power p e at fill before_power did (AfterPower w) n here = absurd (begun p w before_power here)
  poke_before_power p e at fill before_power did (BeforePower m b r) n here =
      let d = device_of p in
      let new : (state d).words ≡ m = here.stands.1 in
      let j = cond (nat_lt at (length m)) 1 0 in
      let h : Poked d (slice_set m at fill) j (device_in e) = record {
        device = did.device ∙ ap (λ (y : List (List ℕ)). record (state d) { words = slice_set y at fill }) new;
        calls = did.calls ∙ ap (λ (y : List (List ℕ)). bench_after_pokes (cond (nat_lt at (length y)) 1 0) (bench d)) new ∙ poked_are j (bench d);
      } in
      (None, record { stepped = poked p e m b r n (line.Poke at fill) None None (slice_set m at fill) j h refl refl refl refl refl refl here; silent = refl })

  pub poke_after_power : (p : Player N) (at : ℕ) (fill : List ℕ) → (p.power ≡ power.BeforePower → ⊥) → SilentDone state bench p (line.Poke at fill) None p
  unfolding step
  poke_after_power p at fill past_power (BeforePower m b r) n here = absurd (past_power here.stands.0)
  poke_after_power p at fill past_power (AfterPower w) n here = (None, record { stepped = still state bench p w n (line.Poke at fill) None None here refl refl refl refl refl refl; silent = refl })
