use Rattle.std.proofs.Common.{◌≡◌, ◌+◌, Bool, true, false, arith, rules, refl, sym, ap, subst, ◌∙◌}
use Rattle.mc_lab.specs.Sweeps.{is_same}
use Rattle.mc_lab.specs.SweepBodies.{account_value}
use Rattle.mc_lab.specs.declared.sweep_account.Account.{Account}
use Rattle.mc_lab.proofs.SweepLoops.{hit_again, Recovering, recovering_none, recovering_more, recovered_missed, recovered_last}
use Rattle.mc_lab.proofs.sweep_line.recoveries.Goals as goal

pub loop-made-init : goal.loop-made-init
loop-made-init g c = record { recovering = recovering_none c.args.place.now c.args.k c.args.fill (account_value c.args.pair.now.first); first = refl; room = c.requires.room; played = c.requires.played }

pub returns-then-not-played-clause-same : goal.returns-then-not-played-clause-same
returns-then-not-played-clause-same g c =
    let made = c.loop-made.made in
    let r = c.requires in
    let test = c.report-played.ensures.hit ∙ hit_again c.args.place.now r.open c.args.k c.args.fill (made + 1) r.low r.high r.shuts (omega arith) in
    let missed : c.report-played.result.hit ≡ false = search rules in
    (recovered_missed c.args.place.now c.args.k c.args.fill (account_value c.args.pair.now.first) made c.loop-made.same c.report-played.result.hit c.loop-made.invariant.recovering test missed).same_as

pub returns-then-not-played-clause-count : goal.returns-then-not-played-clause-count
returns-then-not-played-clause-count g c =
    let made = c.loop-made.made in
    let r = c.requires in
    let test = c.report-played.ensures.hit ∙ hit_again c.args.place.now r.open c.args.k c.args.fill (made + 1) r.low r.high r.shuts (omega arith) in
    let missed : c.report-played.result.hit ≡ false = search rules in
    (recovered_missed c.args.place.now c.args.k c.args.fill (account_value c.args.pair.now.first) made c.loop-made.same c.report-played.result.hit c.loop-made.invariant.recovering test missed).count

pub loop-made-preserved : goal.loop-made-preserved
loop-made-preserved g c =
    let made = c.loop-made.made in
    let r = c.requires in
    let first = account_value c.args.pair.now.first in
    let test = c.report-played.ensures.hit ∙ hit_again c.args.place.now r.open c.args.k c.args.fill (made + 1) r.low r.high r.shuts (omega arith) in
    let hit : c.report-played.result.hit ≡ true = search rules in
    let same = c.is_same.ensures ∙ ap (λ (a : Account). is_same (account_value c.report-played.new.into) (account_value a)) c.loop-made.invariant.first in
    record {
      recovering =
          subst (λ (b : Bool). Recovering c.args.place.now c.args.k c.args.fill first (made + 1) b) (sym c.both-same.ensures)
          (recovering_more c.args.place.now c.args.k c.args.fill first (account_value c.report-played.new.into) made c.loop-made.same c.is_same.result c.report-played.result.hit c.loop-made.invariant.recovering test hit c.report-played.ensures.reported same);
      first = c.loop-made.invariant.first;
      room = c.report-played.ensures.room;
      played = c.report-played.ensures.played;
    }

pub returns-clause-same : goal.returns-clause-same
returns-clause-same g c =
    let last : c.loop-made.made ≡ c.args.most = omega arith in
    (recovered_last c.args.place.now c.args.k c.args.fill (account_value c.args.pair.now.first) c.loop-made.made c.args.most c.loop-made.same c.loop-made.invariant.recovering last c.requires.few).same_as

pub returns-clause-count : goal.returns-clause-count
returns-clause-count g c =
    let last : c.loop-made.made ≡ c.args.most = omega arith in
    sym last ∙ (recovered_last c.args.place.now c.args.k c.args.fill (account_value c.args.pair.now.first) c.loop-made.made c.args.most c.loop-made.same c.loop-made.invariant.recovering last c.requires.few).count
