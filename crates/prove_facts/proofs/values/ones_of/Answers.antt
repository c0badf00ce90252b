use Rattle.std.proofs.Common.{arith}
use Rattle.std.proofs.lemmas.Nat.{ones-le}
use Rattle.prove_facts.proofs.values.ones_of.Goals as goal

pub returns-clause-ones : goal.returns-clause-ones
returns-clause-ones c =
    let p = ones-le 64 c.args.a (omega arith) in
    let q = ones-le 64 c.args.b (omega arith) in
    let r = ones-le 64 c.args.c (omega arith) in
    let s = ones-le 64 c.args.d (omega arith) in
    omega (arith, p, q, r, s)

pub returns-clause-fit : goal.returns-clause-fit
returns-clause-fit c = (omega arith, omega arith, omega arith, omega arith)
