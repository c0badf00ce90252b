use Rattle.std.proofs.Common.{◌≡◌, ◌++◌, ℕ, List, Option, Bor, subst}
use Rattle.std.specs.Prelude.{option_map}
use Rattle.std.proofs.lemmas.Result.{err_from_is_err_and}
use Rattle.mc_text.specs.model_text.specs.Text.{ok_as, fields}
use Rattle.mc_deck.proofs.FieldLemmas.{fields_left}
use Rattle.desk_draft.specs.Statements.{command_text}
use Rattle.desk_draft.proofs.StatementLemmas.{part_faulty, part_pushed}
use Rattle.desk_draft.proofs.statement.push_command.Goals as goal

pub returns-in_err-push_part : goal.returns-in_err-push_part
returns-in_err-push_part c =
    let whole = command_text (fields c.args.text.now) in
    let so_far = subst (λ (r : Option (Bor (List ℕ))). ok_as (λ t. c.loop-rest.deck.items ++ t) (command_text (fields_left (option_map (λ t. t.now) r))) ≡ ok_as (λ t. c.args.deck.now.items ++ t) whole) c.in-Some.is c.loop-rest.invariant in
    let p = err_from_is_err_and c.from_residual.result c.from_residual.ensures.1 in
    rw (p.1, p.2) (part_faulty c.cut_blank.result.0 c.in-Some.left.now (option_map (λ t. t.now) c.cut_blank.result.1) c.loop-rest.deck.items c.args.deck.now.items whole c.in_err-push_part.field-0.0 c.cut_blank.ensures.front c.cut_blank.ensures.behind so_far c.in_err-push_part.ensures)

pub loop-rest-preserved : goal.loop-rest-preserved
loop-rest-preserved c =
    let whole = command_text (fields c.args.text.now) in
    let so_far = subst (λ (r : Option (Bor (List ℕ))). ok_as (λ t. c.loop-rest.deck.items ++ t) (command_text (fields_left (option_map (λ t. t.now) r))) ≡ ok_as (λ t. c.args.deck.now.items ++ t) whole) c.in-Some.is c.loop-rest.invariant in
    part_pushed c.cut_blank.result.0 c.in-Some.left.now (option_map (λ t. t.now) c.cut_blank.result.1) c.loop-rest.deck.items c.push_part.new.deck.items c.args.deck.now.items whole c.cut_blank.ensures.front c.cut_blank.ensures.behind so_far c.in_ok-push_part.ensures
