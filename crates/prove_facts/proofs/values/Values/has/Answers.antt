use Rattle.prove_facts.proofs.BitLemmas.{tested_word}
use Rattle.std.proofs.Common.{arith}
use Rattle.prove_facts.proofs.values.Values.has.Goals.{in-0, in-1, in-2, in_default}
use Rattle.prove_facts.proofs.values.Values.has.Goals as goal

pub returns : goal.returns
returns c =
    let v = c.args.value in
    let ws = c.args.self.now.words in
    elim c.match-value-div64.branch [
      | in-0 w ↦ tested_word ws v 0 _ (omega (arith, w.in-0.is)) w.word-is
      | in-1 w ↦ tested_word ws v 1 _ (omega (arith, w.in-1.is)) w.word-is
      | in-2 w ↦ tested_word ws v 2 _ (omega (arith, w.in-2.is)) w.word-is
      | in_default w ↦ tested_word ws v 3 _ (omega arith) w.word-is
    ]
