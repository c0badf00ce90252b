use Rattle.std.proofs.Common.{◌≡◌, ◌+◌, ◌-◌, ◌≤◌, true, length, drop}
use Rattle.mc_store.specs.Store.{is_going, IsGoodIn}
use Rattle.mc_store.specs.StoreItems.{store_did}
use Rattle.mc_store.proofs.FillLemmas.{ItemsLead, piece_items}
use Rattle.mc_store.proofs.filling.fill.Given as goal

-- the parts that are left lead where all of them lead
abbrev pub invariant-loop-done : goal.invariant-loop-done
invariant-loop-done g l =
    record {
      few : l.done ≤ length l.piece;
      going : is_going (g.N.Nvm.state l.store.device) l.store.count ≡ true;
      good : IsGoodIn (g.N.Nvm.state l.store.device).words l.site;
      leads : ItemsLead (store_did g.N.Nvm.state g.N.Nvm.wrote) l.fn.store (piece_items l.site l.part l.at l.piece) l.store (piece_items l.site l.part (l.at + l.done) (drop l.done l.piece));
    }

abbrev pub decreases-loop-done : goal.decreases-loop-done
decreases-loop-done g l = length l.piece - l.done
