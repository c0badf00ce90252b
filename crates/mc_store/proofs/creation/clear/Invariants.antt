use Rattle.std.proofs.Common.{◌≡◌, ◌-◌, ◌≤◌, true}
use Rattle.mc_words.specs.model_device.specs.Bytes.{zeros}
use Rattle.mc_store.specs.Store.{is_going, IsGoodIn}
use Rattle.mc_store.specs.StoreItems.{store_did, blank_items}
use Rattle.mc_store.proofs.FillLemmas.{ItemsLead}
use Rattle.mc_store.proofs.creation.clear.Given as goal

-- the zeros that are left lead where all of them lead
abbrev pub invariant-loop-at : goal.invariant-loop-at
invariant-loop-at g l =
    record {
      few : l.at ≤ l.sizes.fixed;
      going : is_going (g.N.Nvm.state l.store.device) l.store.count ≡ true;
      good : IsGoodIn (g.N.Nvm.state l.store.device).words l.site;
      leads : ItemsLead (store_did g.N.Nvm.state g.N.Nvm.wrote) l.fn.store (blank_items l.site l.sizes.init (zeros (l.sizes.fixed - l.sizes.init))) l.store (blank_items l.site l.at (zeros (l.sizes.fixed - l.at)));
    }

abbrev pub decreases-loop-at : goal.decreases-loop-at
decreases-loop-at g l = l.sizes.fixed - l.at
