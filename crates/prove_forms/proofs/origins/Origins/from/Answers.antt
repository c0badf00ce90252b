use Rattle.std.proofs.Common.{◌∙◌, ◌+◌, ◌-◌, ◌++◌, List, ap, arith}
use Rattle.model_sums.specs.Origins as origins
use Rattle.prove_forms.specs.declared.origins.Origin.{Origin}
use Rattle.prove_forms.specs.Origins.{origin_values, origins_value}
use Rattle.prove_forms.proofs.OriginLemmas.{read_next}
use Rattle.prove_forms.proofs.origins.Origins.from.Goals as goal

pub loop-i-preserved : goal.loop-i-preserved
loop-i-preserved c =
    let o = origins_value c.args.self.now in
    let i = c.loop-i.i in
    ap (λ (l : List Origin). origin_values l ++ origins.origins_from o (c.args.at + (i + 1)) (c.args.n - (i + 1))) c.in_ok-push.ensures
    ∙ read_next c.loop-i.bytes.items c.at.result o c.args.at i c.args.n (omega arith) c.at.ensures ∙ c.loop-i.invariant
