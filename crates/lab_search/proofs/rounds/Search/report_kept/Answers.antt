use Rattle.std.proofs.Common.{length, refl, sym, ◌∙◌}
use Rattle.mc_script.specs.declared.job.JobFault.TheVariants as fault
use Rattle.lab_search.specs.Reports.{how_text}
use Rattle.lab_search.specs.Rounds.{tally_of}
use Rattle.lab_search.proofs.HaltLemmas.{explored_err}
use Rattle.lab_search.proofs.KeptLemmas.{kept_written, silent_fails, sums_fail}
use Rattle.lab_search.proofs.rounds.Search.report_kept.Goals as goal

pub returns-in_err-put_silent : goal.returns-in_err-put_silent
returns-in_err-put_silent g c =
    λ x h end e.
    let s = c.args.self.now in
    explored_err _ _ _ end c.from_residual.result fault.WriteFault c.from_residual.ensures.0 c.from_residual.ensures.1
    (silent_fails x.rules c.args.exploration.now.rules.ons.items c.as_slice.result.now (tally_of s) c.as_slice-2.result.now (length s.states.keys) (length s.states.keys) (how_text c.args.depth) refl c.as_slice.ensures.value c.as_slice-2.ensures.value h.rules.ons _ _ c.in_err-put_silent.ensures)

pub returns-in_err-put_sums : goal.returns-in_err-put_sums
returns-in_err-put_sums g c =
    λ x h end e.
    let s = c.args.self.now in
    explored_err _ _ _ end c.from_residual-in_err-put_sums.result fault.WriteFault c.from_residual-in_err-put_sums.ensures.0 c.from_residual-in_err-put_sums.ensures.1
    (sums_fail x.rules c.args.exploration.now.rules.ons.items c.as_slice.result.now (tally_of s) c.as_slice-2.result.now c.len.result (length s.states.keys) (how_text c.args.depth) c.len.ensures.len c.as_slice.ensures.value c.as_slice-2.ensures.value h.rules.ons _ _ _ c.in_ok-put_silent.ensures c.in_err-put_sums.ensures)

pub returns : goal.returns
returns g c =
    λ x h end e.
    let s = c.args.self.now in
    record {
      text = kept_written x.rules c.args.exploration.now.rules.ons.items c.as_slice.result.now (tally_of s) c.as_slice-2.result.now c.len.result (length s.states.keys) (how_text c.args.depth) c.len.ensures.len c.as_slice.ensures.value c.as_slice-2.ensures.value h.rules.ons _ _ _ c.in_ok-put_silent.ensures c.in_ok-put_sums.ensures;
      ending = c.kept_as.ensures ∙ sym e;
    }
