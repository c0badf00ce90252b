use Rattle.std.proofs.Common.{◌≡◌, ℕ, true, List, IfOk, sym, ap, subst}
use Rattle.mc_arith.specs.model_machine.specs.Primitives as model
use Rattle.prove_facts.specs.model_prove.specs.Arrivals.{Setting}
use Rattle.prove_keys.specs.Keys.{amounts_of}
use Rattle.prove_scenes.specs.ShapeValues.{next_value}
use Rattle.prove_arrivals.specs.Following.{after_event, spot_after, spot_before}
use Rattle.prove_arrivals.specs.Subjects.{Accepts, IsOver}
use Rattle.prove_arrivals.proofs.turns.included_after.Goals as goal

pub returns-in-Delegates : goal.returns-in-Delegates
returns-in-Delegates c =
    let u = c.args.subject.now in
    let r = c.args.row.now in
    let g = c.args.after.now in
    let amounts = c.args.amounts.now in
    subst (λ (n : model.Then). IfOk c.delegates.result (λ holds. holds ≡ true → (names : List (List ℕ)) (s : Setting) (old : List ℕ) → IsOver names s u amounts
    → Accepts names u (after_event s r.writes n (spot_before names u r old) (spot_after names u r old g) (amounts_of names amounts))))
    (ap next_value (sym c.in-Delegates.is)) c.delegates.ensures
