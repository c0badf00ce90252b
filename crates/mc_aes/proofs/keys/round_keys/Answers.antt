use Rattle.mc_aes.proofs.KeysLemmas.{round_keys_are}
use Rattle.mc_aes.proofs.keys.round_keys.Goals as goal

pub returns : goal.returns
returns c =
    round_keys_are c.args.key.now _ _ _ _ _ _ _ _ _ _ _ c.load-k0.ensures c.next_key-k1.ensures c.next_key-k2.ensures c.next_key-k3.ensures c.next_key-k4.ensures
    c.next_key-k5.ensures c.next_key-k6.ensures c.next_key-k7.ensures c.next_key-k8.ensures c.next_key-k9.ensures c.next_key-k10.ensures
