use Rattle.std.proofs.Common.{◌≡◌, drop}
use Rattle.mc_words.specs.model_device.specs.Image.{image_with}
use Rattle.lab_branch.proofs.branch.BranchNvm.put_words.Given as goal

-- the words that are left lead where all of them do
abbrev pub invariant-loop-place : goal.invariant-loop-place
invariant-loop-place l =
    record {
      words : image_with l.self.device.words (drop l.place-index l.words) ≡ image_with l.fn.self.device.words l.words;
      root : l.self.root ≡ l.fn.self.root;
      cut : l.self.device.cut ≡ l.fn.self.device.cut;
      worn : l.self.device.worn ≡ l.fn.self.device.worn;
    }
