use Rattle.std.proofs.Common.{ℕ, List, codes, decimal, subst, ◌∙◌}
use Rattle.mc_text.specs.Texts.{sunk_in, Writes, Fails}
use Rattle.mc_text.proofs.TextLemmas.{puts_then, puts_failed, fails_then, fails_before, writes_then}
use Rattle.mc_lab.specs.Sweeps.{word_text}
use Rattle.mc_lab.proofs.sweep_text.put_run.Goals as goal

pub returns-in_err-put : goal.returns-in_err-put
returns-in_err-put g c = puts_failed c.from_residual.result c.from_residual.ensures.0 (fails_before (decimal c.args.last) (fails_before (codes "-") (fails_before (decimal c.args.first) (fails_before (codes " ") (fails_before (word_text c.args.word) c.in_err-put.ensures)))))

pub returns-in_err-put-2 : goal.returns-in_err-put-2
returns-in_err-put-2 g c = puts_failed c.from_residual-in_err-put-2.result c.from_residual-in_err-put-2.ensures.0 (fails_before (decimal c.args.last) (fails_before (codes "-") (fails_before (decimal c.args.first) (fails_before (codes " ") (fails_then c.in_ok-put.ensures (subst (λ (t : List ℕ). Fails (sunk_in g.T.Sink.taken g.T.Sink.faults c.put.new.out) t (sunk_in g.T.Sink.taken g.T.Sink.faults c.put-2.new.out)) (c.as_bytes.ensures.value ∙ c.text.ensures) c.in_err-put-2.ensures))))))

pub returns-in_err-put-3 : goal.returns-in_err-put-3
returns-in_err-put-3 g c = puts_failed c.from_residual-in_err-put-3.result c.from_residual-in_err-put-3.ensures.0 (fails_before (decimal c.args.last) (fails_before (codes "-") (fails_before (decimal c.args.first) (fails_then (writes_then c.in_ok-put.ensures (subst (λ (t : List ℕ). Writes (sunk_in g.T.Sink.taken g.T.Sink.faults c.put.new.out) t (sunk_in g.T.Sink.taken g.T.Sink.faults c.put-2.new.out)) (c.as_bytes.ensures.value ∙ c.text.ensures) c.in_ok-put-2.ensures)) c.in_err-put-3.ensures))))

pub returns-in_err-put_decimal : goal.returns-in_err-put_decimal
returns-in_err-put_decimal g c = puts_failed c.from_residual-in_err-put_decimal.result c.from_residual-in_err-put_decimal.ensures.0 (fails_before (decimal c.args.last) (fails_before (codes "-") (fails_then (writes_then (writes_then c.in_ok-put.ensures (subst (λ (t : List ℕ). Writes (sunk_in g.T.Sink.taken g.T.Sink.faults c.put.new.out) t (sunk_in g.T.Sink.taken g.T.Sink.faults c.put-2.new.out)) (c.as_bytes.ensures.value ∙ c.text.ensures) c.in_ok-put-2.ensures)) c.in_ok-put-3.ensures) c.in_err-put_decimal.ensures)))

pub returns-in_err-put-4 : goal.returns-in_err-put-4
returns-in_err-put-4 g c = puts_failed c.from_residual-in_err-put-4.result c.from_residual-in_err-put-4.ensures.0 (fails_before (decimal c.args.last) (fails_then (writes_then (writes_then (writes_then c.in_ok-put.ensures (subst (λ (t : List ℕ). Writes (sunk_in g.T.Sink.taken g.T.Sink.faults c.put.new.out) t (sunk_in g.T.Sink.taken g.T.Sink.faults c.put-2.new.out)) (c.as_bytes.ensures.value ∙ c.text.ensures) c.in_ok-put-2.ensures)) c.in_ok-put-3.ensures) c.in_ok-put_decimal.ensures) c.in_err-put-4.ensures))

pub returns : goal.returns
returns g c = puts_then _ (decimal c.args.last) c.put_decimal-2.result (writes_then (writes_then (writes_then (writes_then c.in_ok-put.ensures (subst (λ (t : List ℕ). Writes (sunk_in g.T.Sink.taken g.T.Sink.faults c.put.new.out) t (sunk_in g.T.Sink.taken g.T.Sink.faults c.put-2.new.out)) (c.as_bytes.ensures.value ∙ c.text.ensures) c.in_ok-put-2.ensures)) c.in_ok-put-3.ensures) c.in_ok-put_decimal.ensures) c.in_ok-put-4.ensures) c.put_decimal-2.ensures
