-- A line whose device writes were tried under an armed stop: they were all made, or one of them stopped.
use Rattle.std.proofs.Common.{◌≡◌, ℕ, zero, suc, ◌<◌, ◌≤◌, true, List, length, Option, Some, None, Ok, refl, sym, ◌∙◌, ap, subst, arith}
use Rattle.std.specs.List.{AllByRecursion}
use Rattle.model_play.specs.model_device.specs.declared.device.Stop.{Stop}
use Rattle.model_play.specs.model_device.specs.declared.device.Stop.TheVariants.{Off, Worn}
use Rattle.model_play.specs.model_device.specs.Orders.{Answer as Ended}
use Rattle.model_play.specs.model_device.specs.Device.{DeviceState, BenchState, Entry, Wrote, BenchWrote, Makes, GrowsBy, done_entries, torn_entries, next_count}
use Rattle.model_play.specs.DeckGrammar.{DeckLine}
use Rattle.model_play.specs.model_device.specs.Image.{image_with}
use Rattle.model_play.specs.model_device.specs.Stopped.{image_after_stop}
use Rattle.model_play.specs.model_card.specs.Items.{Item, StopAt}
use Rattle.model_play.specs.model_machine.specs.Chain.{Turn}
use Rattle.model_play.specs.Play as play
use Rattle.model_play.specs.Play.{Unarmed, LineResult, State, AfterPower, Warm, Step, is_card_line, armed_stop_in, moves_of, failure_entry, MayHit, EndsAs, failures_in, StandsAtEach}
use Rattle.model_play.specs.model_device.proofs.DeviceLemmas.{DoneAll, makes_done}
use Rattle.mc_script.specs.declared.answer.Answer.{Answer}
use Rattle.mc_script.specs.declared.armed.Armed.{Armed}
use Rattle.mc_script.specs.declared.player.Player.{Player}
use Rattle.mc_script.specs.Players.{answer_value, armed_value, cut_place, device_of, CanArm, IsUnfused, IsPlayerAt}
use Rattle.mc_script.specs.Counting.{count_after_rises, when_poked, line_powers, line_pokes, line_cuts, line_fails, count_of_cuts, failure_by, on_after_stop, on_unstopped, LineCounts}
use Rattle.mc_script.specs.Arming.{armed_bench}
use Rattle.mc_script.specs.Lines.{Stepped}
use Rattle.mc_script.specs.Runs.{StoppedAtWrite}
use Rattle.mc_script.proofs.FuseLemmas.{Past}
use Rattle.mc_script.proofs.EntryLemmas.{length_done, length_torn, ends_done, ends_torn, failure_done, failure_torn, laid_done, laid_torn}
use Rattle.mc_script.proofs.AccountLemmas.{StopsStand, SizesTo, each_done, each_torn}
use Rattle.mc_script.proofs.BenchLemmas.{Burnt, SameCalls, Raises, FusedAt, HaltedList, burnt_calls, burnt, halted, words_written, sizes_before}
use Rattle.mc_script.proofs.HitLemmas.{NotHit, not_hit, HitBy, hit_by, place_is, CallsOf, armed_calls}

-- ---- a line

-- a bench on which `power` was called n times
abbrev pub called : ℕ → BenchState → BenchState
called n b = record b { powers = count_after_rises b.powers n }

-- the armed stop of a line was passed to its device, on which `power` was called n times
pub record Handed (d : DeviceState) (b : BenchState) (n : ℕ) (a : Armed) (e : DeviceState) (c : BenchState) : Type 0 where
  pub words : e.words ≡ d.words
  pub tape : e.tape ≡ d.tape
  pub cuts : e.cuts ≡ d.cuts
  pub faults : e.faults ≡ d.faults
  pub on : e.on ≡ true
  pub bench : c ≡ armed_bench a (called n b)

-- the fuses were taken away
pub record Freed (d : DeviceState) (b : BenchState) (e : DeviceState) (c : BenchState) : Type 0 where
  pub state : e ≡ d
  pub bench : c ≡ record b { cut = None; worn = None }

-- a card line that makes n calls of `power`
pub record Worth (s : State) (l : DeckLine) (n : ℕ) : Type 0 where
  pub card : is_card_line l ≡ true
  pub powers : line_powers l ≡ n
  pub pokes : line_pokes s l ≡ 0
  pub cuts : line_cuts l ≡ 0
  pub fails : line_fails l ≡ 0

-- the step of a line from the first power line on, with a stop if one hit it
abbrev pub stopped_step : ℕ → DeckLine → State → LineResult → List Item → List Item → Option StopAt → ℕ → List (List ℕ × List ℕ) → List Turn → Warm → Step
stopped_step n l s result items whole stop m pairs turns w =
    record { number = n; line = l; before = s; result = Some result; items = items; whole = whole; stop = stop; moves = m; pairs = pairs; turns = turns; after = AfterPower w }

-- ---- counts

calls_are : (b c e : BenchState) (n : ℕ) (a : Armed) → SameCalls (armed_bench a (called n b)) c → e ≡ record c { cut = None; worn = None } → CallsOf (called n b) 0 (armed_value a) e
calls_are b c e n a same is = armed_calls a (called n b) c e same is

-- the counts of a line under an armed stop
line_counts : (n : ℕ) (l : DeckLine) (s : State) (result : LineResult) (items whole : List Item) (stop : Option StopAt) (m : ℕ) (pairs : List (List ℕ × List ℕ)) (turns : List Turn) (w : Warm)
    (np : ℕ) (a : Armed) (b c : BenchState) (d e : DeviceState) → Worth s l np → armed_value a ≡ armed_stop_in s → w.armed ≡ Unarmed → CallsOf (called np b) 0 (armed_value a) c
    → e.cuts ≡ count_after_rises d.cuts (count_of_cuts stop) → e.faults ≡ count_after_rises d.faults (failure_by stop) → LineCounts b d (stopped_step n l s result items whole stop m pairs turns w) c e
line_counts n l s result items whole stop m pairs turns w np a b c d e worth armed free calls cuts faults =
    record {
      counts = record {
        powers = calls.powers ∙ ap (λ (k : ℕ). count_after_rises b.powers k) (sym worth.powers);
        pokes = calls.pokes ∙ ap (λ (k : ℕ). count_after_rises b.pokes k) (sym worth.pokes);
        poked = calls.poked ∙ ap (λ (k : ℕ). when_poked b k) (sym worth.pokes);
        cuts = cuts;
        faults = faults;
        steady = calls.steady;
      };
      arms = grind arith;
    }

raised_cut : (s : Stop) (d e : DeviceState) (k : ℕ) (x : List ℕ) → Raises s d e → let t : StopAt = record { kind = s; at = k; left = x } in (e.cuts ≡ count_after_rises d.cuts (count_of_cuts (Some t))) × (e.faults ≡ count_after_rises d.faults (failure_by (Some t)))
raised_cut Off d e k x r = r
raised_cut Worn d e k x r = r

raises_from : (s : Stop) (d u e : DeviceState) → u.cuts ≡ d.cuts → u.faults ≡ d.faults → Raises s u e → Raises s d e
raises_from Off d u e cuts faults r = (r.0 ∙ ap next_count cuts, r.1 ∙ faults)
raises_from Worn d u e cuts faults r = (r.0 ∙ cuts, r.1 ∙ ap next_count faults)

-- ---- entries of a list that stopped

record HitEntries (p : DeviceState) (s : State) (l : ℕ × DeckLine) (ws : List (ℕ × List ℕ)) (k : ℕ) (how : Stop) (x : List ℕ) : Type 0 where
  count : length (torn_entries ws k x how) ≡ k
  each : StandsAtEach p.words s l 0 (torn_entries ws k x how)
  ends : EndsAs (Some how) (torn_entries ws k x how)
  worn : failures_in 0 (torn_entries ws k x how) ≡ failure_entry k x (Some how)
  left : play.laid_entries p.words (torn_entries ws k x how) ≡ image_after_stop p.words ws k x

-- ---- the failed write of a line

may_hit : (s : Stop) (state : State) (n : ℕ) (l : DeckLine) (k : ℕ) (x : List ℕ) → is_card_line l ≡ true → 1 ≤ k → k ≤ moves_of state (n, l) → (s ≡ Worn → play.IsBeforeCut (armed_stop_in state) k)
    → MayHit state (n, l) (failure_entry k x (Some s))
may_hit Off state n l k x card low high first = tt
may_hit Worn state n l k x card low high first = record { card_line = card; low = low; high = high; first = first refl }

module _ {N : Type 0} (state : N → DeviceState) (bench : N → BenchState) (wrote : N → ℕ → List ℕ → Ended → N → Type 0)
    (obeys : (d : N) (at : ℕ) (w : List ℕ) (a : Ended) (e : N) → (state d).on ≡ true → wrote d at w a e → Wrote (state d) at w a (state e))
    (burns : (d : N) (at : ℕ) (w : List ℕ) (a : Ended) (e : N) → (state d).on ≡ true → wrote d at w a e → BenchWrote (state d) (bench d) at a (state e) (bench e))
    (fits : (d : N) (at : ℕ) (w : List ℕ) (a : Ended) (e : N) → wrote d at w a e → (at < length (state d).words) × (length w ≡ 8)) where
  -- ---- all writes were made

  -- the result of writes that were all made: no stop hits the line
  pub record Went (d f : N) (a : Armed) (n : ℕ) (ws : List (ℕ × List ℕ)) : Type 0 where
    pub words : (state f).words ≡ image_with (state d).words ws
    pub on : (state f).on ≡ true
    pub tape : GrowsBy (state d).tape (done_entries ws) (state f).tape
    pub cuts : (state f).cuts ≡ (state d).cuts
    pub faults : (state f).faults ≡ (state d).faults
    pub calls : CallsOf (called n (bench d)) 0 (armed_value a) (bench f)
    pub unfused : IsUnfused (bench f)
    pub missed : NotHit (armed_value a) (length ws)
    pub sizes : AllByRecursion (λ p. length p.1 ≡ 8) ws

  freed_unfused : (b c : BenchState) → c ≡ record b { cut = None; worn = None } → IsUnfused c
  freed_unfused b c h = record { cut = ap (λ (x : BenchState). x.cut) h; worn = ap (λ (x : BenchState). x.worn) h }

  pub went : (d u e f : N) (a : Armed) (n : ℕ) (ws : List (ℕ × List ℕ)) → CanArm a → Handed (state d) (bench d) n a (state u) (bench u) → Makes wrote u ws (Ok tt) e
      → Freed (state e) (bench e) (state f) (bench f) → Went d f a n ws
  went d u e f a n ws can handed made freed =
      let done : DoneAll (state u) ws (state e) = makes_done state wrote obeys ws u e handed.on made in
      let near : Burnt (bench u) (length ws) (bench e) = burnt state bench wrote obeys burns fits ws u e handed.on made in
      let b : BenchState = called n (bench d) in
      let same : SameCalls (armed_bench a b) (bench e) = subst (λ (x : BenchState). SameCalls x (bench e)) handed.bench (burnt_calls (bench u) (bench e) (length ws) near) in
      record {
        words = ap (λ (x : DeviceState). x.words) freed.state ∙ done.words ∙ ap (λ (x : List (List ℕ)). image_with x ws) handed.words;
        on = ap (λ (x : DeviceState). x.on) freed.state ∙ done.power;
        tape = subst (λ (x : DeviceState). GrowsBy (state d).tape (done_entries ws) x.tape) (sym freed.state) (subst (λ (x : Option (List Entry)). GrowsBy x (done_entries ws) (state e).tape) handed.tape done.tape);
        cuts = ap (λ (x : DeviceState). x.cuts) freed.state ∙ done.cuts ∙ handed.cuts;
        faults = ap (λ (x : DeviceState). x.faults) freed.state ∙ done.faults ∙ handed.faults;
        calls = calls_are (bench d) (bench e) (bench f) n a same freed.bench;
        unfused = freed_unfused (bench e) (bench f) freed.bench;
        missed = not_hit a b (length ws) can (subst (λ (x : BenchState). Past (length ws) x.cut) handed.bench near.cut) (subst (λ (x : BenchState). Past (length ws) x.worn) handed.bench near.worn);
        sizes = words_written state bench wrote obeys burns fits ws u e made;
      }

  -- the line that made them, with the step that its play takes
  pub went_stepped : (p q : Player N) (s : State) (n np : ℕ) (l : DeckLine) (result : LineResult) (items whole : List Item) (pairs : List (List ℕ × List ℕ)) (turns : List Turn) (w : Warm) (r : Answer)
      (ws : List (ℕ × List ℕ)) (m : ℕ) → IsPlayerAt state bench p s → Worth s l np → on_unstopped (state (device_of p)).on l ≡ true → w.armed ≡ Unarmed → Went (device_of p) (device_of q) p.armed np ws → length ws ≡ m → moves_of s (n, l) ≡ m → IsPlayerAt state bench q (AfterPower w)
      → answer_value state q r ≡ result → StopsStand (state (device_of p)).words s (n, l) 0 ws
      → Stepped state bench p s (n, l) None (stopped_step n l s result items whole None m pairs turns w) (Some r) q
  went_stepped p q s n np l result items whole pairs turns w r ws m at worth powered free did number moves then answers stands =
      let d = device_of p in
      let f = device_of q in
      record {
        at = then;
        answers = ap (λ (x : LineResult). Some x) answers;
        played = record {
          may = tt;
          counts = line_counts n l s result items whole None m pairs turns w np p.armed (bench d) (bench f) (state d) (state f) worth at.armed free did.calls did.cuts did.faults;
          power = did.on ∙ sym powered;
          steady = λ h. subst (λ (i : ℕ). None ≡ play.steady_at (armed_stop_in s) l i) (number ∙ sym moves) (subst (λ (x : play.Armed). None ≡ play.steady_at x l (length ws)) at.armed (did.missed.steady l));
          tape = record {
            entries = done_entries ws;
            grows = did.tape;
            accounts = record { count = length_done ws ∙ number; each = each_done (state d).words s (n, l) 0 ws stands did.sizes; ends = ends_done ws };
            worn = failure_done 0 ws;
            left = laid_done (state d).words ws ∙ sym did.words;
          };
        };
      }

  -- ---- one of the writes stopped

  -- the result of writes of which write k stopped and left x: the stop that hits the line
  pub record Hit (d f : N) (a : Armed) (n : ℕ) (ws : List (ℕ × List ℕ)) (k : ℕ) (s : Stop) (x : List ℕ) : Type 0 where
    pub low : 1 ≤ k
    pub high : k ≤ length ws
    pub size : length x ≡ 8
    pub words : (state f).words ≡ image_after_stop (state d).words ws k x
    pub on : (state f).on ≡ on_after_stop s
    pub tape : GrowsBy (state d).tape (torn_entries ws k x s) (state f).tape
    pub raises : Raises s (state d) (state f)
    pub calls : CallsOf (called n (bench d)) 0 (armed_value a) (bench f)
    pub unfused : IsUnfused (bench f)
    pub by : (m : ℕ) → k ≤ m → HitBy (armed_value a) m (bench d).steady s k x (failure_entry k x (Some s))
    pub place : s ≡ Off → cut_place a ≡ k
    pub sizes : (j : ℕ) → k ≡ suc j → SizesTo j ws

  raises_over : (s : Stop) (d u e f : DeviceState) → u.cuts ≡ d.cuts → u.faults ≡ d.faults → f ≡ e → Raises s u e → Raises s d f
  raises_over s d u e f cuts faults same r = subst (λ (y : DeviceState). Raises s d y) (sym same) (raises_from s d u e cuts faults r)

  pub hit : (d u e f : N) (a : Armed) (n : ℕ) (ws : List (ℕ × List ℕ)) (k : ℕ) (s : Stop) → CanArm a → IsUnfused (bench d) → Handed (state d) (bench d) n a (state u) (bench u) → StoppedAtWrite wrote u ws k s e
      → Freed (state e) (bench e) (state f) (bench f) → (x : List ℕ) × Hit d f a n ws k s x
  hit d u e f a n ws k s can unfused handed stop freed =
      let r = halted state bench wrote obeys burns fits ws u e k s handed.on stop in
      let x : List ℕ = r.0 in
      let h : HaltedList (state u) (bench u) ws k s x (state e) (bench e) = r.1 in
      let b : BenchState = called n (bench d) in
      let free : IsUnfused b = record { cut = unfused.cut; worn = unfused.worn } in
      let fused : FusedAt s (armed_bench a b) k x = subst (λ (y : BenchState). FusedAt s y k x) handed.bench h.fused in
      let same : SameCalls (armed_bench a b) (bench e) = subst (λ (y : BenchState). SameCalls y (bench e)) handed.bench h.calls in (
        x,
        record {
          low = stop.low;
          high = stop.high;
          size = h.size;
          words = ap (λ (y : DeviceState). y.words) freed.state ∙ h.words ∙ ap (λ (y : List (List ℕ)). image_after_stop y ws k x) handed.words;
          on = ap (λ (y : DeviceState). y.on) freed.state ∙ h.on;
          tape = subst (λ (y : DeviceState). GrowsBy (state d).tape (torn_entries ws k x s) y.tape) (sym freed.state) (subst (λ (y : Option (List Entry)). GrowsBy y (torn_entries ws k x s) (state e).tape) handed.tape h.tape);
          raises = raises_over s (state d) (state u) (state e) (state f) handed.cuts handed.faults freed.state h.raises;
          calls = calls_are (bench d) (bench e) (bench f) n a same freed.bench;
          unfused = freed_unfused (bench e) (bench f) freed.bench;
          by = λ m high. hit_by a b m s k x can free fused high;
          place = λ off. place_is a b k x free (subst (λ (y : Stop). FusedAt y (armed_bench a b) k x) off fused);
          sizes = λ j is. sizes_before state bench wrote obeys burns fits ws u e j s (subst (λ (y : ℕ). StoppedAtWrite wrote u ws y s e) is stop);
        },
      )

  hit_entries : (p : DeviceState) (s : State) (l : ℕ × DeckLine) (ws : List (ℕ × List ℕ)) (k : ℕ) (how : Stop) (x : List ℕ) → 1 ≤ k → k ≤ length ws → length x ≡ 8 → ((j : ℕ) → k ≡ suc j → SizesTo j ws)
      → StopsStand p.words s l 0 ws → HitEntries p s l ws k how x
  hit_entries p s l ws zero how x low high size sizes stands = absurd (omega (arith, low))
  hit_entries p s l ws (suc j) how x low high size sizes stands =
      let below : j < length ws = omega (arith, high) in
      record {
        count = length_torn ws j x how below;
        each = each_torn p.words s l 0 ws j x how stands (sizes j refl) size;
        ends = ends_torn ws j x how below;
        worn = failure_torn 0 ws j x how below ∙ ap (λ (i : ℕ). failure_entry i x (Some how)) (omega arith);
        left = laid_torn p.words ws j x how below;
      }

  -- the line that a stop hit, with the step that its play takes
  pub hit_stepped : (p q : Player N) (s : State) (n np : ℕ) (l : DeckLine) (result : LineResult) (items whole : List Item) (pairs : List (List ℕ × List ℕ)) (turns : List Turn) (w : Warm) (r : Answer)
      (ws : List (ℕ × List ℕ)) (m k : ℕ) (how : Stop) (x : List ℕ) → IsPlayerAt state bench p s → Worth s l np → w.armed ≡ Unarmed → Hit (device_of p) (device_of q) p.armed np ws k how x → length ws ≤ m → moves_of s (n, l) ≡ m
      → IsPlayerAt state bench q (AfterPower w) → answer_value state q r ≡ result → StopsStand (state (device_of p)).words s (n, l) 0 ws
      → Stepped state bench p s (n, l) (failure_entry k x (Some how)) (stopped_step n l s result items whole (Some (record { kind = how; at = k; left = x })) k pairs turns w) (Some r) q
  hit_stepped p q s n np l result items whole pairs turns w r ws m k how x at worth free did number moves then answers stands =
      let d = device_of p in
      let f = device_of q in
      let t : StopAt = record { kind = how; at = k; left = x } in
      let high : k ≤ m = let h = did.high in omega (arith, h, number) in
      let by : HitBy (armed_stop_in s) m (bench d).steady how k x (failure_entry k x (Some how)) = subst (λ (y : play.Armed). HitBy y m (bench d).steady how k x (failure_entry k x (Some how))) at.armed (did.by m high) in
      let rose = raised_cut how (state d) (state f) k x did.raises in
      let entries : HitEntries (state d) s (n, l) ws k how x = hit_entries (state d) s (n, l) ws k how x did.low did.high did.size did.sizes stands in
      record {
        at = then;
        answers = ap (λ (y : LineResult). Some y) answers;
        played = record {
          may = may_hit how s n l k x worth.card did.low (subst (λ (i : ℕ). k ≤ i) (sym moves) high) by.first;
          counts = line_counts n l s result items whole (Some t) k pairs turns w np p.armed (bench d) (bench f) (state d) (state f) worth at.armed free did.calls rose.0 rose.1;
          power = did.on;
          steady = λ h. subst (λ (i : ℕ). failure_entry k x (Some how) ≡ play.steady_at (armed_stop_in s) l i) (sym moves) (by.steady l worth.card h);
          tape = record {
            entries = torn_entries ws k x how;
            grows = did.tape;
            accounts = record { count = entries.count; each = entries.each; ends = entries.ends };
            worn = entries.worn;
            left = entries.left ∙ sym did.words;
          };
        };
      }
