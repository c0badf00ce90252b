use Rattle.std.proofs.Common.{arith, rules}
use Rattle.std.specs.Prelude.{map}
use Rattle.lab_app_rules.specs.Rules.{name_of}
use Rattle.prove_sums.proofs.LineLemmas.{fold_end, fold_next}
use Rattle.prove_sums.proofs.events.off_after_terms.Goals as goal

pub loop-term-preserved : goal.loop-term-preserved
loop-term-preserved c ts k f g are move off =
    fold_next (map name_of c.args.named.now) c.args.n k g ts f c.args.terms.now c.loop-term.term-index _ c.loop-term.after c.in_ok-after-2.after (search rules) (omega arith)
    (λ s o i p. c.in_ok-after-2.ensures s k o g i move p) (c.loop-term.invariant ts k f g are move off)

pub returns : goal.returns
returns c ts k f g are move off =
    fold_end (map name_of c.args.named.now) c.args.n k g ts f c.args.terms.now c.loop-term.term-index c.loop-term.after (omega arith)
    (c.loop-term.invariant ts k f g are move off)
