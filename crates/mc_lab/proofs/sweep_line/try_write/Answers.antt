use Rattle.std.proofs.Common.{◌≡◌, ◌&&◌, Bool, true, false, replicate, rules, ap, ◌∙◌}
use Rattle.mc_lab.specs.Sweeps.{all_same, is_same, ones}
use Rattle.mc_lab.specs.SweepBodies.{account_value, recovery_states_at, word_with}
use Rattle.mc_lab.specs.declared.sweep_account.Account.{Account}
use Rattle.mc_lab.proofs.SweepLoops.{hit_within, missed_past, tried_as}
use Rattle.mc_lab.proofs.sweep_line.try_write.Goals as goal

pub returns-then-not-first-clause-tried : goal.returns-then-not-first-clause-tried
returns-then-not-first-clause-tried g c =
    let missed : c.report-first.result.hit ≡ false = search rules in
    missed_past c.args.place.now c.args.k c.report-first.result.hit c.requires.open c.requires.low (replicate 8 0) c.report-first.ensures.hit missed

pub recoveries-zeros_same-requires-clause-high : goal.recoveries-zeros_same-requires-clause-high
recoveries-zeros_same-requires-clause-high g c =
    let hit : c.report-first.result.hit ≡ true = search rules in
    hit_within c.args.place.now c.args.k c.report-first.result.hit c.requires.open c.requires.low (replicate 8 0) c.report-first.ensures.hit hit

pub recoveries-ones_same-requires-clause-high : goal.recoveries-ones_same-requires-clause-high
recoveries-ones_same-requires-clause-high g c =
    let hit : c.report-first.result.hit ≡ true = search rules in
    hit_within c.args.place.now c.args.k c.report-first.result.hit c.requires.open c.requires.low (replicate 8 0) c.report-first.ensures.hit hit

pub returns-clause-tried : goal.returns-clause-tried
returns-clause-tried g c =
    let p = c.args.place.now in
    let k = c.args.k in
    let hit : c.report-first.result.hit ≡ true = search rules in
    let zs = c.recoveries-zeros_same in
    let os = c.recoveries-ones_same in
    let first = account_value c.report-first.new.into in
    let now = account_value c.report-second.new.into in
    let before = account_value c.args.ends.now.before in
    let after = account_value c.args.ends.now.after in
    let one_first = c.is_same-ones_first.ensures ∙ ap (λ (a : Account). is_same now (account_value a)) zs.ensures.first in
    let ones_as = os.ensures.same ∙ ap (λ (a : Account). all_same (account_value a) (recovery_states_at p k ones)) zs.ensures.first in
    let tried = tried_as p k first before after now zs.result.0 c.is_same-ones_first.result os.result.0 zs.result.1 os.result.1 c.report-first.ensures.reported c.requires.before c.requires.after c.report-second.ensures.reported zs.ensures.same one_first ones_as zs.ensures.count os.ensures.count in
    let kept = os.ensures.first ∙ zs.ensures.first in
    let is_one = c.both-is_one.ensures ∙ ap (λ (b : Bool). zs.result.0 && b) c.both.ensures in
    let word =
    c.word_of.ensures
    ∙ ap (λ (b : Bool). word_with b c.is_same.result c.is_same-2.result) is_one
    ∙ ap (λ (b : Bool). word_with (zs.result.0 && (c.is_same-ones_first.result && os.result.0)) b c.is_same-2.result) (c.is_same.ensures ∙ ap (λ (a : Account). is_same (account_value a) before) kept)
    ∙ ap (λ (b : Bool). word_with (zs.result.0 && (c.is_same-ones_first.result && os.result.0)) (is_same first before) b) (c.is_same-2.ensures ∙ ap (λ (a : Account). is_same (account_value a) after) kept)
    ∙ tried.word in
    (hit_within p k c.report-first.result.hit c.requires.open c.requires.low (replicate 8 0) c.report-first.ensures.hit hit, word, tried.plays)
