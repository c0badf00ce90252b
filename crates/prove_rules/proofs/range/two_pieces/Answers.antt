use Rattle.std.proofs.Common.{◌≡◌, arith, sym, true, false}
use Rattle.std.specs.Prelude.{◌==◌, is_some}
use Rattle.prove_rules.proofs.FieldLemmas.{cut_once, cut_twice}
use Rattle.prove_rules.proofs.range.two_pieces.Goals as goal

pub returns-then-is_some : goal.returns-then-is_some
returns-then-is_some c =
    let second : is_some c.cut-2.result.1 ≡ true = grind (arith, c.is_some.ensures, c.if-is_some.true, c.if-is_some.ensures) in
    cut_twice (λ k. k == c.args.character) c.args.text.now c.in_ok-second.second c.cut.result.1 c.cut-2.result.1 (sym c.in_ok-second.was) c.cut.ensures.behind c.cut-2.ensures.behind second

pub returns : goal.returns
returns c =
    let second : is_some c.cut-2.result.1 ≡ false = grind (arith, c.is_some.ensures, c.if-is_some.false, c.if-is_some.ensures) in
    cut_once (λ k. k == c.args.character) c.args.text.now c.cut.result.0.now c.in_ok-second.second c.cut.result.1 c.cut-2.result.1 (sym c.in_ok-second.was) c.cut.ensures.front c.cut.ensures.behind c.cut-2.ensures.behind second
