use Rattle.std.proofs.Common.{◌≡◌, ◌<◌, false, length, arith, rules, ◌∙◌}
use Rattle.std.proofs.lemmas.List.{length-set}
use Rattle.law_explore.specs.model_device.specs.Bytes.{zeros}
use Rattle.mc_lab.specs.SweepBodies.{writes_in}
use Rattle.mc_lab.proofs.SweepLoops.{missed_past, swept_none, sweeping_more, sweeping_none}
use Rattle.mc_lab.proofs.sweep_line.LineSweeper.sweep_line.Goals as goal

pub returns-then-not-reaches-clause-writes : goal.returns-then-not-reaches-clause-writes
returns-then-not-reaches-clause-writes g c =
    let missed : c.reaches.result ≡ false = search rules in
    let past = missed_past c.args.place.now 1 c.reaches.result c.requires.open (omega arith) (zeros 8) c.reaches.ensures.hit missed in
    omega (arith, past)

pub returns-then-not-reaches-clause-words : goal.returns-then-not-reaches-clause-words
returns-then-not-reaches-clause-words g c =
    let missed : c.reaches.result ≡ false = search rules in
    let past = missed_past c.args.place.now 1 c.reaches.result c.requires.open (omega arith) (zeros 8) c.reaches.ensures.hit missed in
    let none : writes_in c.args.place.now ≡ 0 = omega (arith, past) in
    (swept_none c.args.place.now c.args.words.now none).words_are

pub returns-then-not-reaches-clause-plays : goal.returns-then-not-reaches-clause-plays
returns-then-not-reaches-clause-plays g c =
    let missed : c.reaches.result ≡ false = search rules in
    let past = missed_past c.args.place.now 1 c.reaches.result c.requires.open (omega arith) (zeros 8) c.reaches.ensures.hit missed in
    let none : writes_in c.args.place.now ≡ 0 = omega (arith, past) in
    (swept_none c.args.place.now c.args.words.now none).plays_are

pub loop-writes-preserved : goal.loop-writes-preserved
loop-writes-preserved g c =
    let i = c.loop-writes.invariant in
    let writes = c.loop-writes.writes in
    let words = c.loop-writes.words in
    let t = c.in-Some.ensures.tried in
    let below : writes < length words = omega arith in
    record {
      sweeping = sweeping_more c.args.place.now writes words c.loop-writes.plays c.in-Some.tried.word c.in-Some.tried.plays i.sweeping below t.0 t.1 t.2 c.in-Some.ensures.few_plays;
      before = i.before;
      after = i.after;
      room = record { before = i.room.before; after = i.room.after; first = c.try_write.ensures.first; now = c.try_write.ensures.now };
      size = length-set words writes c.in-Some.tried.word ∙ i.size;
      played = c.try_write.ensures.played;
    }

pub loop-writes-init : goal.loop-writes-init
loop-writes-init g c =
    record {
      sweeping = sweeping_none c.args.place.now c.args.words.now;
      before = c.report-played.ensures.reported;
      after = c.report-played-2.ensures.reported;
      room = record { before = c.report-played.ensures.room; after = c.report-played-2.ensures.room; first = c.requires.room.first; now = c.requires.room.now };
      size = search rules;
      played = c.report-played-2.ensures.played;
    }
