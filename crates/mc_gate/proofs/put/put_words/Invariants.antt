use Rattle.std.proofs.Common.{◌≡◌, true, length, drop}
use Rattle.std.specs.List.{AllByRecursion}
use Rattle.mc_words.specs.model_device.specs.Image.{within}
use Rattle.mc_words.specs.model_device.proofs.LoopLemmas.{Leads}
use Rattle.mc_gate.proofs.put.put_words.Given as goal

-- the words that are left lead where all of them lead
abbrev pub invariant-loop-target : goal.invariant-loop-target
invariant-loop-target g l =
    let state = g.N.Nvm.state in
    record {
      on : (state l.device).on ≡ true;
      size : length (state l.device).words ≡ length (state l.fn.device).words;
      targets : AllByRecursion (λ p. within (length (state l.fn.device).words) p.0 ≡ true) (drop l.target-index l.list);
      leads : Leads g.N.Nvm.wrote l.fn.device l.list l.device (drop l.target-index l.list);
    }
