use Rattle.lab_search.specs.Reports.{how_text}
use Rattle.lab_search.proofs.EndingLemmas.{put_failed}
use Rattle.lab_application.proofs.WordLemmas.{kept_written, silent_fails, sums_fail}
use Rattle.lab_application.proofs.ending.report_kept.Goals as goal

pub returns-in_err-put_silent-clause-put : goal.returns-in_err-put_silent-clause-put
returns-in_err-put_silent-clause-put g c =
    put_failed _ _ _ c.from_residual.result c.from_residual.ensures.0 c.from_residual.ensures.1
    (silent_fails c.args.rules.now c.args.search.now c.as_slice.result.now c.as_slice-2.result.now (how_text c.args.depth) c.as_slice.ensures.value c.as_slice-2.ensures.value _ _ c.in_err-put_silent.ensures)

pub returns-in_err-put_sums-clause-put : goal.returns-in_err-put_sums-clause-put
returns-in_err-put_sums-clause-put g c =
    put_failed _ _ _ c.from_residual-in_err-put_sums.result c.from_residual-in_err-put_sums.ensures.0 c.from_residual-in_err-put_sums.ensures.1
    (sums_fail c.args.rules.now c.args.search.now c.as_slice.result.now c.as_slice-2.result.now c.len.result (how_text c.args.depth) c.len.ensures.len c.as_slice.ensures.value c.as_slice-2.ensures.value _ _ _ c.in_ok-put_silent.ensures c.in_err-put_sums.ensures)

pub returns-clause-put : goal.returns-clause-put
returns-clause-put g c =
    kept_written c.args.rules.now c.args.search.now c.as_slice.result.now c.as_slice-2.result.now c.len.result (how_text c.args.depth) c.len.ensures.len c.as_slice.ensures.value c.as_slice-2.ensures.value _ _ _ c.in_ok-put_silent.ensures c.in_ok-put_sums.ensures
