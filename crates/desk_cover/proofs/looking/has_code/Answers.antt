use Rattle.std.proofs.Common.{◌≡◌, ◌≤◌, length, take, drop, sym, arith, rules}
use Rattle.mc_bank.specs.Bank.{app_of}
use Rattle.desk_cover.proofs.ListLemmas.{alike_more, alike_whole}
use Rattle.desk_cover.proofs.looking.has_code.Goals as goal

pub loop-at-preserved : goal.loop-at-preserved
loop-at-preserved g c =
    let app = (app_of (g.B.Bank.state c.args.bank.now).apps (g.B.Bank.named c.args.bank.now c.args.slot)).code in
    let piece : take c.min-count.result (drop c.loop-at.at app) ≡ take c.min-count.result (drop c.loop-at.at c.args.code.now) = search (rules, arith) in
    record {
      at = search (rules, arith);
      alike = alike_more app c.args.code.now c.loop-at.at c.min-count.result c.loop-at.invariant.alike piece;
    }

pub returns : goal.returns
returns g c =
    let app = (app_of (g.B.Bank.state c.args.bank.now).apps (g.B.Bank.named c.args.bank.now c.args.slot)).code in
    let all : length c.args.code.now ≤ c.loop-at.at = search (rules, arith) in
    let same = c.requires.size in
    sym (alike_whole app c.args.code.now c.loop-at.at c.loop-at.invariant.alike (omega (arith, all, same)) all)
