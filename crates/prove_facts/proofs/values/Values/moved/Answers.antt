use Rattle.std.proofs.Common.{◌∙◌, ◌<◌, ◌%◌, arith}
use Rattle.prove_facts.proofs.MoveLemmas.{moved_one, moved_two, moved_three}
use Rattle.prove_facts.proofs.values.Values.moved.Goals as goal

pub returns-in-1 : goal.returns-in-1
returns-in-1 c v h =
    let l : c.args.by % 64 < 64 = omega arith in
    c.moved_words-in-1.ensures l v h ∙ moved_one c.args.self.now.words v c.args.by (omega (arith, c.in-1.is)) (omega arith) h

pub returns-in-2 : goal.returns-in-2
returns-in-2 c v h =
    let l : c.args.by % 64 < 64 = omega arith in
    c.moved_words-in-2.ensures l v h ∙ moved_two c.args.self.now.words v c.args.by (omega (arith, c.in-2.is)) (omega arith) h

pub returns-in_default : goal.returns-in_default
returns-in_default c v h =
    let l : c.args.by % 64 < 64 = omega arith in
    c.moved_words-in_default.ensures l v h ∙ moved_three c.args.self.now.words v c.args.by (omega arith) (omega arith) h
