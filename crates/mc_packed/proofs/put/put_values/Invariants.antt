use Rattle.std.proofs.Common.{◌≡◌, true, length, drop}
use Rattle.mc_words.specs.model_device.specs.Stopped.{values_2}
use Rattle.mc_words.specs.model_device.proofs.LoopLemmas.{Leads}
use Rattle.mc_packed.proofs.put.put_values.Given as goal

-- the values that are left lead where all of them lead
abbrev pub invariant-loop-i : goal.invariant-loop-i
invariant-loop-i g l =
    let state = g.N.Nvm.state in
    record {
      on : (state l.device).on ≡ true;
      size : length (state l.device).words ≡ length (state l.fn.device).words;
      leads : Leads g.N.Nvm.wrote l.fn.device (values_2 0 l.list) l.device (values_2 l.i (drop l.i l.list));
    }
