use Rattle.prove_facts.proofs.BitLemmas.{one_first, one_second, one_third, one_fourth}
use Rattle.prove_facts.proofs.SetLemmas.{one_is}
use Rattle.std.proofs.Common.{arith, ℕ, ◌<◌}
use Rattle.prove_facts.proofs.values.Values.one.Goals as goal

pub returns-in-0 : goal.returns-in-0
returns-in-0 c =
    let h = λ (v : ℕ) (l : v < 256). one_first c.args.value v (omega (arith, c.in-0.is)) l in
    record { values = h; set = one_is _ c.args.value (omega arith) h }

pub returns-in-1 : goal.returns-in-1
returns-in-1 c =
    let h = λ (v : ℕ) (l : v < 256). one_second c.args.value v (omega (arith, c.in-1.is)) l in
    record { values = h; set = one_is _ c.args.value (omega arith) h }

pub returns-in-2 : goal.returns-in-2
returns-in-2 c =
    let h = λ (v : ℕ) (l : v < 256). one_third c.args.value v (omega (arith, c.in-2.is)) l in
    record { values = h; set = one_is _ c.args.value (omega arith) h }

pub returns-in_default : goal.returns-in_default
returns-in_default c =
    let h = λ (v : ℕ) (l : v < 256). one_fourth c.args.value v (omega arith) l in
    record { values = h; set = one_is _ c.args.value (omega arith) h }
