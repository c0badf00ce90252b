use Rattle.std.proofs.Common.{◌≡◌, ℕ, List, Option, Bor, subst}
use Rattle.std.specs.Prelude.{◌==◌, option_map}
use Rattle.mc_text.specs.model_text.specs.Text.{first_cut}
use Rattle.desk_draft.proofs.PushLemmas.{unlabelled, labelled}
use Rattle.desk_draft.proofs.instruction.push_labelled.Goals as goal

pub returns-in-None : goal.returns-in-None
returns-in-None c = λ l h.
    let e = subst (λ (o : Option (Bor (List ℕ))). option_map (λ t. t.now) o ≡ (first_cut (λ c. c == 58) c.args.code.now).1) c.in-None.is c.cut.ensures.behind in
    unlabelled l c.args.code.now c.cut.result.0.now c.args.deck.now.items c.push_body.new.deck.items c.push_body.result c.cut.ensures.front e (c.push_body.ensures l h)

pub returns-in_ok-push-in-Some-2 : goal.returns-in_ok-push-in-Some-2
returns-in_ok-push-in-Some-2 c = λ l h.
    let e = subst (λ (o : Option (Bor (List ℕ))). option_map (λ t. t.now) o ≡ (first_cut (λ c. c == 58) c.args.code.now).1) c.in-Some.is c.cut.ensures.behind in
    labelled l c.args.code.now c.cut.result.0.now c.in-Some.body.now c.args.deck.now.items c.push.new.text.items c.push-in-Some.new.text.items c.push_body-in-Some.new.deck.items c.push_body-in-Some.result c.cut.ensures.front e c.in_ok-push-in-Some.ensures c.in_ok-push-in-Some-2.ensures (c.push_body-in-Some.ensures l h)
