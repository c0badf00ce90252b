use Rattle.std.proofs.Common.{◌≡◌, ◌∙◌, ℕ, Result, true, subst, sym}
use Rattle.mc_isa.specs.model_machine.specs.declared.instruction.DecodeFault.{DecodeFault}
use Rattle.mc_isa.specs.model_machine.specs.declared.instruction.Ins.{Ins}
use Rattle.prove_sums.specs.model_sums.specs.Closed.{fetched_closed}
use Rattle.prove_sums.specs.Values.{sums_value}
use Rattle.prove_sum_steps.specs.Places.{spot_with}
use Rattle.prove_sum_steps.proofs.places.fetched_holds.Goals as goal

pub returns-in_ok-holds-in-Ok : goal.returns-in_ok-holds-in-Ok
returns-in_ok-holds-in-Ok c h names s u is size goals =
    let p = spot_with names c.args.stand.now.subject.now c.args.key.now c.args.packed.now in
    subst (λ (z : Result (Ins × ℕ) DecodeFault). fetched_closed s u p (sums_value c.args.sums.now) z ≡ true) (sym c.in-Ok.is ∙ c.decode.ensures.exact)
    (c.in_ok-holds-in-Ok.ensures h names s u is size goals)
