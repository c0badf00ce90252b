use Rattle.std.proofs.Common.{Ok, refl, reverse}
use Rattle.law_explore_text.specs.law_explore.specs.States.{play_of_deck}
use Rattle.lab_search.specs.declared.endings.Explored.TheVariants as explored
use Rattle.lab_search.proofs.EndingLemmas.{put_stopped}
use Rattle.lab_search.proofs.HaltLemmas.{err_ending, halt_broken, nothing_yet, path_tries, put_err, reports_broken, reports_full, steps_as}
use Rattle.lab_search.proofs.rounds.Search.report_halt.Goals as goal

pub returns-in_err-path-in-Broken : goal.returns-in_err-path-in-Broken
returns-in_err-path-in-Broken g c =
    λ x most from ns e h s k.
    let b = halt_broken x.rules k.all c.args.halt e.halt c.in-Broken.allowance c.in-Broken.step k.halt c.in-Broken.is in
    reports_broken x.rules.ons c.args.depth (play_of_deck x.lines) e b.name b.path _ _ c.from_residual.result b.is
    (put_stopped _ _ _ c.from_residual.result c.from_residual.ensures.0 c.from_residual.ensures.1 (nothing_yet _ _)) (err_ending c.from_residual.result _ c.from_residual.ensures.0)

pub returns-in_err-report_broken-in-Broken : goal.returns-in_err-report_broken-in-Broken
returns-in_err-report_broken-in-Broken g c =
    λ x most from ns e h s k.
    let b = halt_broken x.rules k.all c.args.halt e.halt c.in-Broken.allowance c.in-Broken.step k.halt c.in-Broken.is in
    let tries = path_tries (record { rules = x.rules; most = most; from = from }) ns e c.args.halt c.args.self.now c.in-Broken.allowance c.in-Broken.step c.in_ok-path-in-Broken.path.items k b c.in_ok-path-in-Broken.ensures in
    reports_broken x.rules.ons c.args.depth (play_of_deck x.lines) e b.name b.path _ _ c.from_residual-in_err-report_broken-in-Broken.result b.is
    (put_err _ _ _ c.from_residual-in_err-report_broken-in-Broken.result c.in_err-report_broken-in-Broken.field-0.0 c.from_residual-in_err-report_broken-in-Broken.ensures.0 c.from_residual-in_err-report_broken-in-Broken.ensures.1
    (c.in_err-report_broken-in-Broken.ensures x b.name (reverse b.path) h s b.breaks.named (steps_as x.rules.moves (reverse b.path) c.as_slice.ensures.value tries)))
    (err_ending c.from_residual-in_err-report_broken-in-Broken.result _ c.from_residual-in_err-report_broken-in-Broken.ensures.0)

pub returns-in-Full : goal.returns-in-Full
returns-in-Full g c =
    λ x most from ns e h s k. reports_full (record { rules = x.rules; most = most; from = from }) ns c.args.depth (play_of_deck x.lines) e c.args.halt c.args.self.now _ _ c.report_kept.result k c.in-Full.is (c.report_kept.ensures x h)

pub returns-in_ok-report_broken-in-Broken : goal.returns-in_ok-report_broken-in-Broken
returns-in_ok-report_broken-in-Broken g c =
    λ x most from ns e h s k.
    let b = halt_broken x.rules k.all c.args.halt e.halt c.in-Broken.allowance c.in-Broken.step k.halt c.in-Broken.is in
    let tries = path_tries (record { rules = x.rules; most = most; from = from }) ns e c.args.halt c.args.self.now c.in-Broken.allowance c.in-Broken.step c.in_ok-path-in-Broken.path.items k b c.in_ok-path-in-Broken.ensures in
    reports_broken x.rules.ons c.args.depth (play_of_deck x.lines) e b.name b.path _ _ (Ok explored.Broken) b.is
    (c.in_ok-report_broken-in-Broken.ensures x b.name (reverse b.path) h s b.breaks.named (steps_as x.rules.moves (reverse b.path) c.as_slice.ensures.value tries)) refl
