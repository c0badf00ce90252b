use Rattle.std.proofs.Common.{◌∙◌, drop, take, ap, sym}
use Rattle.std.specs.Prelude.{bytes_eq}
use Rattle.prove_sum_steps.proofs.TotalLemmas.{total_holds}
use Rattle.prove_sum_steps.proofs.totals.is_total.Goals as goal

pub returns : goal.returns
returns c h distinct t is =
    let b = c.args.balance.now in
    total_holds c.args.sums.now distinct t b c.args.bytes.now c.in_ok-block.block.items is c.in_ok-block.ensures.number
    (ap (bytes_eq (take b.n (drop b.at c.args.bytes.now))) (sym c.as_slice.ensures.value) ∙ sym c.is_block.ensures ∙ h)
