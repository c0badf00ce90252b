use Rattle.std.proofs.Common.{◌≡◌, ℕ, List, Option, Bor, subst}
use Rattle.std.specs.Prelude.{option_map}
use Rattle.mc_asm.specs.Items.{texts}
use Rattle.desk_draft.specs.Statements.{only_of}
use Rattle.desk_draft.proofs.StatementLemmas.{named_one}
use Rattle.desk_draft.proofs.statement.push_named.Goals as goal

pub returns-in-Some : goal.returns-in-Some
returns-in-Some c = λ l h.
    let e = subst (λ (o : Option (Bor (List ℕ))). option_map (λ t. t.now) o ≡ only_of (texts c.args.fields.now)) c.in-Some.is c.only.ensures in
    named_one l c.args.word.now c.args.text.now c.in-Some.field.now c.args.deck.now.items c.push_one_field.new.deck.items (texts c.args.fields.now) c.push_one_field.result e (c.push_one_field.ensures l h)
