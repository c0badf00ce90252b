use Rattle.std.proofs.Common.{◌≡◌, ap}
use Rattle.mc_nvm.specs.Sim.{sim_state}
use Rattle.mc_store.specs.Power.{device_of, count_of}
use Rattle.mc_card_tests.proofs.PlanLemmas.{given_back}
use Rattle.mc_card_tests.proofs.stores.reads.count_plans.Goals as goal

pub plans_of-requires-clause-closed : goal.plans_of-requires-clause-closed
plans_of-requires-clause-closed g c =
    (given_back (sim_state (device_of c.args.store).device) (sim_state c.into_dev-device.result.device) (count_of c.args.store) c.args.slot c.index.result (ap (λ x. sim_state x.device) c.into_dev-device.ensures) c.index.ensures c.len-size.ensures.image c.requires.going c.requires.there).closed

pub plans_of-requires-clause-laid : goal.plans_of-requires-clause-laid
plans_of-requires-clause-laid g c =
    (given_back (sim_state (device_of c.args.store).device) (sim_state c.into_dev-device.result.device) (count_of c.args.store) c.args.slot c.index.result (ap (λ x. sim_state x.device) c.into_dev-device.ensures) c.index.ensures c.len-size.ensures.image c.requires.going c.requires.there).well

pub plans_of-requires-clause-used : goal.plans_of-requires-clause-used
plans_of-requires-clause-used g c =
    (given_back (sim_state (device_of c.args.store).device) (sim_state c.into_dev-device.result.device) (count_of c.args.store) c.args.slot c.index.result (ap (λ x. sim_state x.device) c.into_dev-device.ensures) c.index.ensures c.len-size.ensures.image c.requires.going c.requires.there).span
