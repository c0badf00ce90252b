use Rattle.std.proofs.Common.{◌≡◌, ℕ, List, Option, Bor, subst}
use Rattle.std.specs.Prelude.{◌==◌, option_map}
use Rattle.std.proofs.lemmas.Result.{err_from_is_err_and}
use Rattle.mc_text.specs.model_text.specs.Text.{first_cut}
use Rattle.desk_draft.proofs.RuleLemmas.{opened_faulty, opened_pushed, unclosed}
use Rattle.desk_draft.proofs.rule.push_opened.Goals as goal

pub returns-in-None : goal.returns-in-None
returns-in-None c = λ l h.
    let e = subst (λ (o : Option (Bor (List ℕ))). option_map (λ t. t.now) o ≡ (first_cut (λ c. c == 125) c.args.piece.now).1) c.in-None.is c.cut.ensures.behind in
    unclosed l c.args.piece.now e

pub returns-in_err-push_brace-in-Some : goal.returns-in_err-push_brace-in-Some
returns-in_err-push_brace-in-Some c = λ l h.
    let e = subst (λ (o : Option (Bor (List ℕ))). option_map (λ t. t.now) o ≡ (first_cut (λ c. c == 125) c.args.piece.now).1) c.in-Some.is c.cut.ensures.behind in
    let p = err_from_is_err_and c.from_residual.result c.from_residual.ensures.1 in
    rw (p.1, p.2) (opened_faulty l c.args.piece.now c.cut.result.0.now c.in-Some.rest.now c.in_err-push_brace-in-Some.field-0.0 c.cut.ensures.front e (c.in_err-push_brace-in-Some.ensures l h))

pub returns-in_ok-push-in-Some : goal.returns-in_ok-push-in-Some
returns-in_ok-push-in-Some c = λ l h.
    let e = subst (λ (o : Option (Bor (List ℕ))). option_map (λ t. t.now) o ≡ (first_cut (λ c. c == 125) c.args.piece.now).1) c.in-Some.is c.cut.ensures.behind in
    opened_pushed l c.args.piece.now c.cut.result.0.now c.in-Some.rest.now c.args.deck.now.items c.push_brace.new.deck.items c.push.new.text.items c.cut.ensures.front e (c.in_ok-push_brace-in-Some.ensures l h) c.in_ok-push-in-Some.ensures
