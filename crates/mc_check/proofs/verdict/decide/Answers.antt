use Rattle.mc_check.proofs.VerdictKept.{keeps}
use Rattle.law_family.specs.model_device.proofs.ListLemmas.{all_bytes}
use Rattle.mc_check.proofs.verdict.decide.Goals as goal

pub returns-clause-runs : goal.returns-clause-runs
returns-clause-runs c =
    keeps c.args.code.now (all_bytes c.args.code.now c.type_inv.code) c.requires.high c.args.session c.in_ok-bases.bases.items c.in_ok-bases.ensures.bases c.judge.result c.judge.ensures
