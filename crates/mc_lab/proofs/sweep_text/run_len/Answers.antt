use Rattle.std.proofs.Common.{◌≡◌, ◌≤◌, false, true, length, get_or, arith, rules, sym, ◌∙◌, inl, inr}
use Rattle.mc_lab.specs.declared.sweep_word.SweepWord.TheVariants.{Before}
use Rattle.mc_lab.proofs.SweepTexts.{fronts_one, fronts_more, runs_len}
use Rattle.mc_lab.proofs.sweep_text.run_len.Goals as goal

pub loop-len-init : goal.loop-len-init
loop-len-init c = record { low = omega arith; high = omega arith; same = fronts_one c.args.words.now }

pub loop-len-preserved : goal.loop-len-preserved
loop-len-preserved c =
    let i = c.loop-len.invariant in
    let same : c.is_word.result ≡ true = search rules in
    record { low = omega arith; high = omega arith; same = fronts_more c.args.words.now c.loop-len.len (get_or c.args.words.now 0 Before) i.same (sym c.is_word.ensures ∙ same) }

pub returns-then-not-is_word-clause-run : goal.returns-then-not-is_word-clause-run
returns-then-not-is_word-clause-run c k =
    let i = c.loop-len.invariant in
    let other : c.is_word.result ≡ false = search rules in
    runs_len c.loop-len.len k c.args.words.now i.low i.high i.same (inr (sym c.is_word.ensures ∙ other))

pub returns-clause-run : goal.returns-clause-run
returns-clause-run c k =
    let i = c.loop-len.invariant in
    let short : length c.args.words.now ≤ c.loop-len.len = omega arith in
    runs_len c.loop-len.len k c.args.words.now i.low i.high i.same (inl short)
