use Rattle.std.proofs.Common.{◌≡◌, ◌++◌, ℕ, List, Option, Bor, subst}
use Rattle.std.specs.Prelude.{option_map}
use Rattle.std.proofs.lemmas.Result.{err_from_is_err_and}
use Rattle.mc_text.specs.model_text.specs.Text.{ok_as}
use Rattle.desk_draft.specs.Rules.{braces_text}
use Rattle.desk_draft.proofs.RuleLemmas.{first_added, left_braces, piece_added, piece_refused}
use Rattle.desk_draft.proofs.rule.push_braces.Goals as goal

pub loop-rest-init : goal.loop-rest-init
loop-rest-init c = λ l h. first_added l c.args.text.now c.cut.result.0.now (option_map (λ t. t.now) c.cut.result.1) c.args.deck.now.items c.push.new.text.items c.cut.ensures.front c.cut.ensures.behind c.in_ok-push.ensures

pub returns-in_err-push_opened : goal.returns-in_err-push_opened
returns-in_err-push_opened c = λ l h.
    let whole = braces_text l c.args.text.now in
    let so_far = subst (λ (r : Option (Bor (List ℕ))). ok_as (λ t. c.loop-rest.deck.items ++ t) (left_braces l (option_map (λ t. t.now) r)) ≡ ok_as (λ t. c.args.deck.now.items ++ t) whole) c.in-Some.is (c.loop-rest.invariant l h) in
    let p = err_from_is_err_and c.from_residual-in_err-push_opened.result c.from_residual-in_err-push_opened.ensures.1 in
    rw (p.1, p.2) (piece_refused l c.in-Some.left.now c.cut-in-Some.result.0.now (option_map (λ t. t.now) c.cut-in-Some.result.1) c.loop-rest.deck.items c.args.deck.now.items whole c.in_err-push_opened.field-0.0 c.cut-in-Some.ensures.front c.cut-in-Some.ensures.behind so_far (c.in_err-push_opened.ensures l h))

pub loop-rest-preserved : goal.loop-rest-preserved
loop-rest-preserved c = λ l h.
    let whole = braces_text l c.args.text.now in
    let so_far = subst (λ (r : Option (Bor (List ℕ))). ok_as (λ t. c.loop-rest.deck.items ++ t) (left_braces l (option_map (λ t. t.now) r)) ≡ ok_as (λ t. c.args.deck.now.items ++ t) whole) c.in-Some.is (c.loop-rest.invariant l h) in
    piece_added l c.in-Some.left.now c.cut-in-Some.result.0.now (option_map (λ t. t.now) c.cut-in-Some.result.1) c.loop-rest.deck.items c.push_opened.new.deck.items c.args.deck.now.items whole c.cut-in-Some.ensures.front c.cut-in-Some.ensures.behind so_far (c.in_ok-push_opened.ensures l h)
