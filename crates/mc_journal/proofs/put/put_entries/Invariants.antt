use Rattle.std.proofs.Common.{◌≡◌, true, length, drop}
use Rattle.mc_words.specs.model_device.specs.Image.{One}
use Rattle.mc_words.specs.model_device.specs.Stopped.{entries, entries_1}
use Rattle.mc_words.specs.model_device.proofs.LoopLemmas.{Leads}
use Rattle.mc_journal.proofs.put.put_entries.Given as goal

-- the entries that are left lead where all of them lead
abbrev pub invariant-loop-i : goal.invariant-loop-i
invariant-loop-i g l =
    let state = g.N.Nvm.state in
    record {
      on : (state l.device).on ≡ true;
      size : length (state l.device).words ≡ length (state l.fn.device).words;
      leads : Leads g.N.Nvm.wrote l.fn.device (entries One l.list) l.device (entries_1 l.i (drop l.i l.list));
    }
