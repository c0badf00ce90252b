use Rattle.std.proofs.Common.{◌≡◌, ◌+◌, false, arith, rules, ◌≤◌, true}
use Rattle.law_explore.specs.model_device.specs.Bytes.{zeros}
use Rattle.mc_lab.proofs.SweepLoops.{missed_past, hit_within, if_none}
use Rattle.mc_lab.specs.SweepBodies.{writes_in}
use Rattle.mc_lab.proofs.sweep_line.LineSweeper.bound.Goals as goal

pub returns-then-not-reaches-clause-writes : goal.returns-then-not-reaches-clause-writes
returns-then-not-reaches-clause-writes g c =
    let missed : c.reaches.result ≡ false = search rules in
    let past = missed_past c.args.place.now (c.loop-most.bound + 1) c.reaches.result c.requires.open (omega arith) (zeros 8) c.reaches.ensures.hit missed in
    omega (arith, past)

pub loop-most-init : goal.loop-most-init
loop-most-init g c =
    record {
      low = omega arith;
      small = c.requires.small;
      room = c.requires.room;
      played = c.requires.played;
    }

pub returns-in_err-bound-clause-many : goal.returns-in_err-bound-clause-many
returns-in_err-bound-clause-many g c =
    let hit : c.reaches.result ≡ true = search rules in
    let within = hit_within c.args.place.now (c.loop-most.bound + 1) c.reaches.result c.requires.open (omega arith) (zeros 8) c.reaches.ensures.hit hit in
    let last = c.in_err-bound.ensures.none in
    let many : 4294967295 ≤ writes_in c.args.place.now = omega (arith, within, last) in
    if_none c.from_residual.result many

pub loop-most-preserved : goal.loop-most-preserved
loop-most-preserved g c =
    let grows = c.in_ok-bound.ensures.grows in
    let low = c.loop-most.invariant.low in
    record {
      low = omega (arith, grows, low);
      small = c.in_ok-bound.ensures.small;
      room = c.loop-most.invariant.room;
      played = c.reaches.ensures.played;
    }
