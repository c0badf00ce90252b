use Rattle.std.proofs.Common.{◌≡◌, ◌-◌, ◌*◌, true, length, drop, map}
use Rattle.mc_words.specs.model_device.specs.Bytes.{up}
use Rattle.mc_words.specs.model_device.specs.Stopped.{target_words}
use Rattle.mc_words.specs.model_device.proofs.LoopLemmas.{Leads}
use Rattle.mc_packed.proofs.put.put_targets.Given as goal

-- the target words that are left lead where all of them lead
abbrev pub invariant-loop-i : goal.invariant-loop-i
invariant-loop-i g l =
    let state = g.N.Nvm.state in
    record {
      on : (state l.device).on ≡ true;
      size : length (state l.device).words ≡ length (state l.fn.device).words;
      leads : Leads g.N.Nvm.wrote l.fn.device (target_words 0 (up (length l.list) 4) (map (λ p. p.0) l.list)) l.device
          (target_words l.i (up (length l.list) 4 - l.i) (drop (4 * l.i) (map (λ p. p.0) l.list)));
    }
