use Rattle.std.proofs.Common.{◌≡◌, ◌∙◌, ap, false, true, rules, sym}
use Rattle.std.specs.Prelude.{bytes_eq, Ok}
use Rattle.desk_draft.proofs.RuleLemmas.{made_other, made_same}
use Rattle.desk_draft.proofs.rule.push_made.Goals as goal

pub returns-then-eq : goal.returns-then-eq
returns-then-eq c =
    let is : bytes_eq c.args.made.now c.args.text.now ≡ true = search rules in
    made_same c.args.made.now c.args.text.now is

pub returns : goal.returns
returns c =
    let is : bytes_eq c.args.made.now c.args.text.now ≡ false = search rules in
    made_other c.args.made.now c.args.text.now c.args.deck.now.items is ∙ ap Ok (sym c.in_ok-push.ensures)
