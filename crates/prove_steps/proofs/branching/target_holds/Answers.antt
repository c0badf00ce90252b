use Rattle.std.proofs.Common.{ℕ, ◌/◌, ◌%◌, ◌∷◌, [], subst}
use Rattle.std.proofs.Math.Numerals.{add-one}
use Rattle.prove_arrivals.specs.Subjects.{Accepts}
use Rattle.prove_steps.specs.Steps.{by_choice}
use Rattle.prove_steps.proofs.branching.target_holds.Goals as goal

pub returns : goal.returns
returns c h names s o =
    let u = c.args.subject.now in
    let f = c.args.fetched.now in
    let v = c.args.target in
    subst (λ (a : ℕ). Accepts names u (by_choice names s u f ((c.args.at, v / 256) ∷ (a, v % 256) ∷ []))) (add-one c.args.at) (c.in_ok-holds.ensures h names s o)
