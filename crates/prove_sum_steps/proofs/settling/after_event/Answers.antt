use Rattle.prove_facts.specs.model_rules.specs.Keeping.{mode_of}
use Rattle.prove_sums.specs.Values.{sums_value}
use Rattle.prove_sum_steps.proofs.EventLemmas.{counted_is}
use Rattle.prove_keys.proofs.TableLemmas.{if_ok}
use Rattle.prove_sum_steps.proofs.settling.after_event.Goals as goal

pub returns : goal.returns
returns c =
    let t = c.args.turn.now in
    if_ok _ _ c.counted.result c.counted.ensures
    (λ after h names s u e v is are.
    counted_is s.rules _ t.spot.now.protected _ (mode_of t.ins.now) c.drops-dropped.result c.args.line.now (sums_value t.sums.now).origins v after c.drops-dropped.ensures
    c.protected.ensures c.mode_of.ensures (h s.rules v is.sums are))
