use Rattle.std.proofs.Common.{sym, ◌∙◌}
use Rattle.lab_search.proofs.BeginLemmas.{fails_not, powered_fault, powered_ready, powered_running}
use Rattle.lab_search.proofs.beginning.power_up.Goals as goal

pub returns-then-runs-clause-powered : goal.returns-then-runs-clause-powered
returns-then-runs-clause-powered g c =
    λ s at steady u settled.
    powered_running g.N.Nvm.state g.N.Bench.bench c.args.player.now c.in_ok-before.before s at (c.in_ok-before.ensures.shows s at) (sym c.runs.ensures ∙ c.if-runs.true) u settled

pub returns-then-not-is_ready-clause-powered : goal.returns-then-not-is_ready-clause-powered
returns-then-not-is_ready-clause-powered g c =
    λ s at steady u settled.
    powered_fault g.N.Nvm.state g.N.Bench.bench c.args.player.now c.play-answer.new.player c.in_ok-before.before s c.play-answer.result (c.in_ok-before.ensures.shows s at) (sym c.runs.ensures ∙ c.if-runs.false) u
    (c.play-answer.ensures.plays s 0 at steady (fails_not s u)) (sym c.is_ready.ensures ∙ c.if-not-is_ready.true)

pub returns-clause-powered : goal.returns-clause-powered
returns-clause-powered g c =
    λ s at steady u settled.
    powered_ready g.N.Nvm.state g.N.Bench.bench c.args.player.now c.play-answer.new.player c.in_ok-before.before c.in_ok-live.field-0 s c.play-answer.result (c.in_ok-before.ensures.shows s at) (sym c.runs.ensures ∙ c.if-runs.false) u
    (c.play-answer.ensures.plays s 0 at steady (fails_not s u)) (sym c.is_ready.ensures ∙ c.if-not-is_ready.false) c.in_ok-live.ensures.shows
