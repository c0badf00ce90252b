use Rattle.std.proofs.Common.{◌≡◌, rules, length}
use Rattle.mc_aes.proofs.StateLemmas.{loaded}
use Rattle.mc_aes.proofs.state.load.Goals as goal

pub returns : goal.returns
returns c =
    let len : length c.args.b.now ≡ 16 = search rules in
    loaded c.args.b.now _ _ _ _ len (search rules) c.from_be_bytes.ensures c.from_be_bytes-2.ensures c.from_be_bytes-3.ensures c.from_be_bytes-4.ensures
