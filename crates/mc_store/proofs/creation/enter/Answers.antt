use Rattle.std.proofs.Common.{◌≡◌, true, ℕ, Ok, ap, sym, subst, ◌∙◌, arith}
use Rattle.std.proofs.lemmas.Result.{err_from_is_err_and}
use Rattle.mc_bank.specs.model_card.specs.declared.card.Sizes.{Sizes}
use Rattle.mc_words.specs.model_device.specs.Card.{means}
use Rattle.mc_words.specs.model_device.specs.Layout.{gaps}
use Rattle.mc_blocks.specs.Plans.{has_room}
use Rattle.mc_store.specs.Store.{words_of_sizes}
use Rattle.mc_store.proofs.CreateLemmas.{enter_is, enter_did}
use Rattle.mc_words.specs.model_device.specs.Device.{sized}
use Rattle.mc_store.proofs.creation.enter.Goals as goal

pub take_plan-plan-requires-clause-closed : goal.take_plan-plan-requires-clause-closed
take_plan-plan-requires-clause-closed g c = (enter_is (g.N.Nvm.state c.args.store.now.device) c.args.store.now.count c.args.site.now c.args.aid.now (sized c.len-size.ensures.image) c.requires.going c.requires.ready).closed

pub take_plan-plan-requires-clause-laid : goal.take_plan-plan-requires-clause-laid
take_plan-plan-requires-clause-laid g c = (enter_is (g.N.Nvm.state c.args.store.now.device) c.args.store.now.count c.args.site.now c.args.aid.now (sized c.len-size.ensures.image) c.requires.going c.requires.ready).well

pub take_plan-plan-requires-clause-hole : goal.take_plan-plan-requires-clause-hole
take_plan-plan-requires-clause-hole g c =
    subst (λ (q : ℕ). has_room q c.needed_words.result (gaps (means (g.N.Nvm.state c.args.store.now.device).words)) ≡ true) (sym c.place.ensures)
    (subst (λ (q : ℕ). has_room c.args.site.now.place q (gaps (means (g.N.Nvm.state c.args.store.now.device).words)) ≡ true) (sym (c.needed_words.ensures ∙ ap (λ (z : Sizes). words_of_sizes z) c.sizes.ensures))
    (enter_is (g.N.Nvm.state c.args.store.now.device) c.args.store.now.count c.args.site.now c.args.aid.now (sized c.len-size.ensures.image) c.requires.going c.requires.ready).room)

pub write_words-requires-clause-power : goal.write_words-requires-clause-power
write_words-requires-clause-power g c = (enter_is (g.N.Nvm.state c.args.store.now.device) c.args.store.now.count c.args.site.now c.args.aid.now (sized c.len-size.ensures.image) c.requires.going c.requires.ready).on

pub write_words-requires-clause-gate : goal.write_words-requires-clause-gate
write_words-requires-clause-gate g c = (enter_is (g.N.Nvm.state c.args.store.now.device) c.args.store.now.count c.args.site.now c.args.aid.now (sized c.len-size.ensures.image) c.requires.going c.requires.ready).gate

pub overflow_add-store : goal.overflow_add-store
overflow_add-store g c = let few = (enter_is (g.N.Nvm.state c.args.store.now.device) c.args.store.now.count c.args.site.now c.args.aid.now (sized c.len-size.ensures.image) c.requires.going c.requires.ready).few in omega (arith, few)

pub returns-in_err-write_words : goal.returns-in_err-write_words
returns-in_err-write_words g c =
    let p = err_from_is_err_and c.from_residual.result c.from_residual.ensures.1 in
    record {
      did = rw (p.1, p.2) (enter_did g.N.Nvm.state g.N.Nvm.wrote c.args.store.now.device c.write_words.new.device c.args.store.now.count c.place.result c.needed_words.result c.args.site.now c.args.aid.now c.as_slice.result.now _ (sized c.len-size.ensures.image) c.requires.going c.requires.ready
          c.place.ensures (c.needed_words.ensures ∙ ap (λ (z : Sizes). words_of_sizes z) c.sizes.ensures) (c.as_slice.ensures.value ∙ c.take_plan-plan.ensures.plan) c.in_err-write_words.ensures.makes);
    }

pub returns : goal.returns
returns g c =
    record {
      did = enter_did g.N.Nvm.state g.N.Nvm.wrote c.args.store.now.device c.write_words.new.device c.args.store.now.count c.place.result c.needed_words.result c.args.site.now c.args.aid.now c.as_slice.result.now (Ok tt) (sized c.len-size.ensures.image) c.requires.going c.requires.ready
          c.place.ensures (c.needed_words.ensures ∙ ap (λ (z : Sizes). words_of_sizes z) c.sizes.ensures) (c.as_slice.ensures.value ∙ c.take_plan-plan.ensures.plan) c.in_ok-write_words.ensures.makes;
    }
