use Rattle.std.proofs.Common.{◌≡◌, ◌++◌, length, drop}
use Rattle.mc_words.specs.model_device.specs.Image.{pairs}
use Rattle.mc_gate.specs.Layouts.{journal_of}
use Rattle.mc_gate.proofs.look.read_pairs.Given as goal

-- the pairs so far, and those of the targets that are left
abbrev pub invariant-loop-i : goal.invariant-loop-i
invariant-loop-i g l =
    let m = (g.N.Nvm.state l.device).words in
    record {
      room : length l.list.items ≡ l.i;
      all : pairs (journal_of l.layout) m 0 l.targets ≡ l.list.items ++ pairs (journal_of l.layout) m l.i (drop l.i l.targets);
    }
