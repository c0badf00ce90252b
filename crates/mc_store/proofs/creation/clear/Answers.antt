use Rattle.std.proofs.Common.{◌-◌, Err, subst, arith}
use Rattle.std.proofs.lemmas.Result.{err_from_is_err_and}
use Rattle.mc_bank.specs.model_card.specs.declared.card.Sizes.{Sizes}
use Rattle.mc_words.specs.model_device.specs.Orders.{InOrder}
use Rattle.mc_words.specs.model_device.specs.Bytes.{zeros}
use Rattle.mc_store.specs.StoreItems.{store_did, blank_items}
use Rattle.mc_store.proofs.FillLemmas.{leads_on, leads_stop}
use Rattle.mc_store.proofs.CreateLemmas.{blank_next}
use Rattle.mc_store.proofs.creation.clear.Goals as goal

pub returns-in_err-put_zeros-clause-items : goal.returns-in_err-put_zeros-clause-items
returns-in_err-put_zeros-clause-items g c =
    let p = err_from_is_err_and c.from_residual.result c.from_residual.ensures.1 in
    let z = c.sizes-sizes.result in
    rw (p.1, p.2) (subst (λ (y : Sizes). InOrder (store_did g.N.Nvm.state g.N.Nvm.wrote) c.args.store.now (blank_items c.args.site.now y.init (zeros (y.fixed - y.init))) (Err c.in_err-put_zeros.field-0.0) c.put_zeros.new.store) c.sizes-sizes.ensures
    (leads_stop (store_did g.N.Nvm.state g.N.Nvm.wrote) c.args.store.now c.loop-at.store c.put_zeros.new.store (blank_items c.args.site.now z.init (zeros (z.fixed - z.init))) (blank_items c.args.site.now c.loop-at.at (zeros (z.fixed - c.loop-at.at))) _ _
    c.in_err-put_zeros.field-0.0 c.loop-at.invariant.leads (blank_next c.args.site.now c.loop-at.at c.room_in_word-count.result z.fixed c.loop-at-test.true c.room_in_word-count.ensures.low c.room_in_word-count.ensures.high c.room_in_word-count.ensures.word c.room_in_word-count.ensures.least) c.in_err-put_zeros.ensures.did))

pub loop-at-preserved : goal.loop-at-preserved
loop-at-preserved g c =
    let z = c.sizes-sizes.result in
    record {
      few = omega (arith, c.loop-at-test.true, c.room_in_word-count.ensures.high);
      going = c.in_ok-put_zeros.ensures.going;
      good = c.in_ok-put_zeros.ensures.good;
      leads = leads_on (store_did g.N.Nvm.state g.N.Nvm.wrote) c.args.store.now c.loop-at.store c.put_zeros.new.store (blank_items c.args.site.now z.init (zeros (z.fixed - z.init))) (blank_items c.args.site.now c.loop-at.at (zeros (z.fixed - c.loop-at.at))) _ _
          c.loop-at.invariant.leads (blank_next c.args.site.now c.loop-at.at c.room_in_word-count.result z.fixed c.loop-at-test.true c.room_in_word-count.ensures.low c.room_in_word-count.ensures.high c.room_in_word-count.ensures.word c.room_in_word-count.ensures.least) c.in_ok-put_zeros.ensures.did;
    }
