use Rattle.std.proofs.Common.{Ok, ◌∙◌}
use Rattle.std.proofs.lemmas.Result.{err_from_is_err_and}
use Rattle.mc_store.proofs.ChangeLemmas.{delete_at, delete_done}
use Rattle.mc_words.specs.model_device.specs.Device.{sized}
use Rattle.mc_store.proofs.changes.delete.Goals as goal

pub free_plan-plan-requires-clause-closed : goal.free_plan-plan-requires-clause-closed
free_plan-plan-requires-clause-closed g c = (delete_at (g.N.Nvm.state c.args.store.now.device) c.args.store.now.count c.args.slot c.index.result c.index.ensures (sized c.len-size.ensures.image) c.requires.going c.requires.there).closed

pub free_plan-plan-requires-clause-laid : goal.free_plan-plan-requires-clause-laid
free_plan-plan-requires-clause-laid g c = (delete_at (g.N.Nvm.state c.args.store.now.device) c.args.store.now.count c.args.slot c.index.result c.index.ensures (sized c.len-size.ensures.image) c.requires.going c.requires.there).well

pub free_plan-plan-requires-clause-block : goal.free_plan-plan-requires-clause-block
free_plan-plan-requires-clause-block g c = (delete_at (g.N.Nvm.state c.args.store.now.device) c.args.store.now.count c.args.slot c.index.result c.index.ensures (sized c.len-size.ensures.image) c.requires.going c.requires.there).span

pub write_words-requires-clause-power : goal.write_words-requires-clause-power
write_words-requires-clause-power g c = (delete_at (g.N.Nvm.state c.args.store.now.device) c.args.store.now.count c.args.slot c.index.result c.index.ensures (sized c.len-size.ensures.image) c.requires.going c.requires.there).on

pub write_words-requires-clause-gate : goal.write_words-requires-clause-gate
write_words-requires-clause-gate g c = (delete_at (g.N.Nvm.state c.args.store.now.device) c.args.store.now.count c.args.slot c.index.result c.index.ensures (sized c.len-size.ensures.image) c.requires.going c.requires.there).gate

pub overflow_sub-store : goal.overflow_sub-store
overflow_sub-store g c = (delete_at (g.N.Nvm.state c.args.store.now.device) c.args.store.now.count c.args.slot c.index.result c.index.ensures (sized c.len-size.ensures.image) c.requires.going c.requires.there).some

pub returns-in_err-write_words : goal.returns-in_err-write_words
returns-in_err-write_words g c =
    let p = err_from_is_err_and c.from_residual.result c.from_residual.ensures.1 in
    record {
      did = rw (p.1, p.2) (delete_done g.N.Nvm.state g.N.Nvm.wrote c.args.store.now.device c.write_words.new.device c.args.store.now.count c.args.slot c.index.result c.as_slice.result.now _ c.index.ensures (sized c.len-size.ensures.image) c.requires.going c.requires.there
          (c.as_slice.ensures.value ∙ c.free_plan-plan.ensures.plan) c.in_err-write_words.ensures.makes);
    }

pub returns : goal.returns
returns g c =
    record {
      did = delete_done g.N.Nvm.state g.N.Nvm.wrote c.args.store.now.device c.write_words.new.device c.args.store.now.count c.args.slot c.index.result c.as_slice.result.now (Ok tt) c.index.ensures (sized c.len-size.ensures.image) c.requires.going c.requires.there
          (c.as_slice.ensures.value ∙ c.free_plan-plan.ensures.plan) c.in_ok-write_words.ensures.makes;
    }
