use Rattle.std.proofs.Common.{◌+◌, drop, arith}
use Rattle.std.proofs.lemmas.Result.{err_from_is_err_and}
use Rattle.mc_store.specs.StoreItems.{store_did}
use Rattle.mc_store.proofs.FillLemmas.{piece_items, piece_next, leads_on, leads_stop}
use Rattle.mc_store.proofs.filling.fill.Goals as goal

pub returns-in_err-put_part : goal.returns-in_err-put_part
returns-in_err-put_part g c =
    let p = err_from_is_err_and c.from_residual.result c.from_residual.ensures.1 in
    let at = c.args.at + c.loop-done.done in
    let rest = drop c.loop-done.done c.args.piece.now in
    record {
      items = rw (p.1, p.2) (leads_stop (store_did g.N.Nvm.state g.N.Nvm.wrote) c.args.store.now c.loop-done.store c.put_part.new.store (piece_items c.args.site.now c.args.part c.args.at c.args.piece.now) (piece_items c.args.site.now c.args.part at rest) _ _
          c.in_err-put_part.field-0.0 c.loop-done.invariant.leads (piece_next c.args.site.now c.args.part c.args.at c.loop-done.done c.room_in_word-count.result c.args.piece.now c.loop-done-test.true c.room_in_word-count.ensures.low c.room_in_word-count.ensures.high c.room_in_word-count.ensures.word c.room_in_word-count.ensures.least) c.in_err-put_part.ensures.did);
    }

pub loop-done-preserved : goal.loop-done-preserved
loop-done-preserved g c =
    let at = c.args.at + c.loop-done.done in
    let rest = drop c.loop-done.done c.args.piece.now in
    record {
      few = omega (arith, c.loop-done-test.true, c.room_in_word-count.ensures.high);
      going = c.in_ok-put_part.ensures.going;
      good = c.in_ok-put_part.ensures.good;
      leads = leads_on (store_did g.N.Nvm.state g.N.Nvm.wrote) c.args.store.now c.loop-done.store c.put_part.new.store (piece_items c.args.site.now c.args.part c.args.at c.args.piece.now) (piece_items c.args.site.now c.args.part at rest) _ _
          c.loop-done.invariant.leads (piece_next c.args.site.now c.args.part c.args.at c.loop-done.done c.room_in_word-count.result c.args.piece.now c.loop-done-test.true c.room_in_word-count.ensures.low c.room_in_word-count.ensures.high c.room_in_word-count.ensures.word c.room_in_word-count.ensures.least) c.in_ok-put_part.ensures.did;
    }
