use Rattle.std.proofs.Common.{◌≡◌, ℕ, List, true, length, Ok, Err, subst, sym, ◌∙◌}
use Rattle.std.specs.List.{AllByRecursion}
use Rattle.std.proofs.lemmas.Result.{err_from_is_err_and}
use Rattle.mc_words.specs.model_device.specs.Device.{Makes}
use Rattle.mc_words.specs.model_device.specs.Image.{within}
use Rattle.mc_words.specs.model_device.specs.Stopped.{replay}
use Rattle.mc_words.specs.model_device.proofs.GeometryLemmas.{targets_within}
use Rattle.mc_gate.specs.Layouts.{journal_of}
use Rattle.mc_gate.specs.declared.layouts.Layout.{Layout}
use Rattle.mc_gate.proofs.WriteLemmas.{opening_writes, stops_in_entries, stops_at_gate, replays}
use Rattle.mc_gate.proofs.write.make_writes.Goals as goal

pub returns-in_err-put_entries-clause-makes : goal.returns-in_err-put_entries-clause-makes
returns-in_err-put_entries-clause-makes g c =
    let j = journal_of g.J.Journal.LAYOUT in
    let p = err_from_is_err_and c.from_residual.result c.from_residual.ensures.1 in
    rw (p.1, p.2) (stops_in_entries g.N.Nvm.wrote j c.args.list.now c.args.device.now c.put_entries.new.device c.in_err-put_entries.field-0.0 c.in_err-put_entries.ensures.makes)

pub returns-in_err-open_gate-clause-makes : goal.returns-in_err-open_gate-clause-makes
returns-in_err-open_gate-clause-makes g c =
    let j = journal_of g.J.Journal.LAYOUT in
    let p = err_from_is_err_and c.from_residual-in_err-open_gate.result c.from_residual-in_err-open_gate.ensures.1 in
    rw (p.1, p.2) (stops_at_gate g.N.Nvm.wrote j c.args.list.now c.args.device.now c.put_entries.new.device c.open_gate.new.device c.in_err-open_gate.field-0.0 c.in_ok-put_entries.ensures.makes
    (subst (λ (l : Layout). Makes g.N.Nvm.wrote c.put_entries.new.device (opening_writes (journal_of l) c.args.list.now) (Err c.in_err-open_gate.field-0.0) c.open_gate.new.device) c.LAYOUT.ensures c.in_err-open_gate.ensures.makes))

pub replay_all-requires-clause-targets : goal.replay_all-requires-clause-targets
replay_all-requires-clause-targets g c =
    let same : length (g.N.Nvm.state c.open_gate.new.device).words ≡ length (g.N.Nvm.state c.args.device.now).words =
    c.in_ok-open_gate.ensures.size ∙ c.in_ok-put_entries.ensures.size in
    subst (λ (n : ℕ). AllByRecursion {X = ℕ × List ℕ} (λ p. within n p.0 ≡ true) c.args.list.now) (sym same)
    (targets_within (length (g.N.Nvm.state c.args.device.now).words) c.args.list.now c.requires.list)

pub returns-clause-makes : goal.returns-clause-makes
returns-clause-makes g c =
    let j = journal_of g.J.Journal.LAYOUT in
    replays g.N.Nvm.wrote j c.args.list.now c.args.device.now c.put_entries.new.device c.open_gate.new.device c.replay_all.new.device c.replay_all.result c.in_ok-put_entries.ensures.makes
    (subst (λ (l : Layout). Makes g.N.Nvm.wrote c.put_entries.new.device (opening_writes (journal_of l) c.args.list.now) (Ok tt) c.open_gate.new.device) c.LAYOUT.ensures c.in_ok-open_gate.ensures.makes)
    (subst (λ (l : Layout). Makes g.N.Nvm.wrote c.open_gate.new.device (replay (journal_of l) c.args.list.now) c.replay_all.result c.replay_all.new.device) c.LAYOUT-2.ensures c.replay_all.ensures.makes)
