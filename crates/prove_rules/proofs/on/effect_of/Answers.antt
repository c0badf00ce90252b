use Rattle.std.proofs.Common.{sym, subst}
use Rattle.std.specs.Prelude.{IfErr}
use Rattle.std.proofs.lemmas.Result.{IfErr-weaker}
use Rattle.mc_text.specs.model_text.specs.Text.{fields}
use Rattle.prove_rules.specs.declared.parts.Deeds.{Deeds}
use Rattle.prove_rules.specs.declared.parts.Deeds.TheVariants as deeds
use Rattle.prove_rules.specs.Parts.{action_value}
use Rattle.prove_rules.proofs.OnLemmas.{sum_timely, AllowanceFault, EffectFault, SumFault}
use Rattle.prove_rules.proofs.on.effect_of.Goals as goal

pub returns-in-OnAllowance-clause-refused : goal.returns-in-OnAllowance-clause-refused
returns-in-OnAllowance-clause-refused c =
    let fs = fields c.args.text.now in
    subst (λ (d : Deeds). IfErr c.allowance_effect.result (EffectFault c.args.rules.now d fs)) (sym c.in-OnAllowance.is)
    (IfErr-weaker c.allowance_effect.result (AllowanceFault c.args.rules.now (action_value c.in-OnAllowance.action) fs) (EffectFault c.args.rules.now (deeds.OnAllowance c.in-OnAllowance.action) fs) (λ e h a n t are timely. h a n t are) c.allowance_effect.ensures.refused)

pub returns-in-OnSum-clause-refused : goal.returns-in-OnSum-clause-refused
returns-in-OnSum-clause-refused c =
    let fs = fields c.args.text.now in
    subst (λ (d : Deeds). IfErr c.sum_effect.result (EffectFault c.args.rules.now d fs)) (sym c.in-OnSum.is)
    (IfErr-weaker c.sum_effect.result (SumFault c.args.rules.now c.in-OnSum.adds fs) (EffectFault c.args.rules.now (deeds.OnSum c.in-OnSum.adds) fs) (λ e h. sum_timely c.args.rules.now c.in-OnSum.adds fs e h) c.sum_effect.ensures.refused)
