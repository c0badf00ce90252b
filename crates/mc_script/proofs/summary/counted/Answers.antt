use Rattle.std.proofs.Common.{◌++◌, arith, subst, sym}
use Rattle.std.specs.Prelude.{option_map}
use Rattle.model_play.specs.Generator.{is_reply, is_abend, is_cut, is_off, is_ready}
use Rattle.mc_script.specs.Players.{answer_value}
use Rattle.mc_script.specs.Sums.{Counted, result_list}
use Rattle.mc_script.proofs.SumLemmas.{count_most, counted_on}
use Rattle.mc_script.proofs.summary.counted.Goals as goal

pub with-requires-clause-replies : goal.with-requires-clause-replies
with-requires-clause-replies g c =
    let are = c.requires.1.replies in
    let most = count_most is_reply c.requires.0 in
    let few = c.requires.2 in
    omega (arith, are, most, few)

pub with-requires-clause-abends : goal.with-requires-clause-abends
with-requires-clause-abends g c =
    let are = c.requires.1.abends in
    let most = count_most is_abend c.requires.0 in
    let few = c.requires.2 in
    omega (arith, are, most, few)

pub with-requires-clause-cuts : goal.with-requires-clause-cuts
with-requires-clause-cuts g c =
    let are = c.requires.1.cuts in
    let most = count_most is_cut c.requires.0 in
    let few = c.requires.2 in
    omega (arith, are, most, few)

pub with-requires-clause-offs : goal.with-requires-clause-offs
with-requires-clause-offs g c =
    let are = c.requires.1.offs in
    let most = count_most is_off c.requires.0 in
    let few = c.requires.2 in
    omega (arith, are, most, few)

pub with-requires-clause-readies : goal.with-requires-clause-readies
with-requires-clause-readies g c =
    let are = c.requires.1.readies in
    let most = count_most is_ready c.requires.0 in
    let few = c.requires.2 in
    omega (arith, are, most, few)

pub returns-in-Some : goal.returns-in-Some
returns-in-Some g c rs are =
    let value = answer_value g.N.Nvm.state c.args.player.now in
    let w = c.with.ensures in
    let one = counted_on c.args.counts c.with.result rs (value c.in-Some.answer) are w.lines w.replies w.abends w.cuts w.offs w.readies in
    subst (λ o. Counted c.with.result (rs ++ result_list (option_map value o))) (sym c.in-Some.is) one
