use Rattle.std.proofs.Common.{codes, decimal, ◌+◌}
use Rattle.law_explore_text.specs.model_text.specs.Listing.{hex_text}
use Rattle.mc_text.proofs.TextLemmas.{puts_then, puts_failed, fails_then, fails_before, writes_then}
use Rattle.lab_search.proofs.report.put_cut.Goals as goal

pub returns-in_err-put : goal.returns-in_err-put
returns-in_err-put g c = puts_failed c.from_residual.result c.from_residual.ensures.0 (fails_before (codes "\n") (fails_before (hex_text c.args.fill.now) (fails_before (codes " ") (fails_before (decimal (c.args.made + 1)) c.in_err-put.ensures))))

pub returns-in_err-put_count : goal.returns-in_err-put_count
returns-in_err-put_count g c = puts_failed c.from_residual-in_err-put_count.result c.from_residual-in_err-put_count.ensures.0 (fails_before (codes "\n") (fails_before (hex_text c.args.fill.now) (fails_before (codes " ") (fails_then c.in_ok-put.ensures c.in_err-put_count.ensures))))

pub returns-in_err-put-2 : goal.returns-in_err-put-2
returns-in_err-put-2 g c = puts_failed c.from_residual-in_err-put-2.result c.from_residual-in_err-put-2.ensures.0 (fails_before (codes "\n") (fails_before (hex_text c.args.fill.now) (fails_then (writes_then c.in_ok-put.ensures c.in_ok-put_count.ensures) c.in_err-put-2.ensures)))

pub returns-in_err-put_hex : goal.returns-in_err-put_hex
returns-in_err-put_hex g c = puts_failed c.from_residual-in_err-put_hex.result c.from_residual-in_err-put_hex.ensures.0 (fails_before (codes "\n") (fails_then (writes_then (writes_then c.in_ok-put.ensures c.in_ok-put_count.ensures) c.in_ok-put-2.ensures) c.in_err-put_hex.ensures))

pub returns : goal.returns
returns g c = puts_then _ (codes "\n") c.put-3.result (writes_then (writes_then (writes_then c.in_ok-put.ensures c.in_ok-put_count.ensures) c.in_ok-put-2.ensures) c.in_ok-put_hex.ensures) c.put-3.ensures
