use Rattle.std.proofs.Common.{ℕ, ◌<◌, get_or}
use Rattle.std.proofs.lemmas.Nat.{be_bytes_8}
use Rattle.mc_des.proofs.block.word.Goals as goal

pub returns : goal.returns
returns c =
    let low : (i : ℕ) → get_or c.args.bytes.now i 0 < 256 = λ i. (c.type_inv.bytes i).fits in
    be_bytes_8 c.args.bytes.now _ c.requires low c.from_be_bytes.ensures
