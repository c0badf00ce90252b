use Rattle.std.proofs.Common.{arith, rules, ◌<◌, length}
use Rattle.mc_lab.proofs.SweepDecks.{most_more}
use Rattle.mc_lab.proofs.SweepLoops.{if_none}
use Rattle.mc_lab.proofs.sweeping.most_writes.Goals as goal

pub loop-at-init : goal.loop-at-init
loop-at-init g c = record { most = λ i lt is_open. absurd (omega (arith, lt)); small = omega arith; room = c.requires.room; played = c.requires.played }

pub loop-at-preserved : goal.loop-at-preserved
loop-at-preserved g c =
    record {
      most = most_more c.args.deck.now c.loop-at.at c.loop-at.most c.in_ok-bound.bound c.in_ok-bound.bound c.loop-at.invariant.most c.in_ok-bound.ensures.writes c.in_ok-bound.ensures.grows (search rules);
      small = c.in_ok-bound.ensures.small;
      room = c.advance.ensures.room;
      played = c.advance.ensures.played;
    }

pub returns-in_err-bound-clause-many : goal.returns-in_err-bound-clause-many
returns-in_err-bound-clause-many g c =
    let below : c.loop-at.at < length c.args.deck.now = search rules in
    if_none c.from_residual.result (c.loop-at.at, below, c.in_err-bound.ensures.many)
