use Rattle.std.proofs.Common.{◌≡◌, ◌+◌, ◌<◌, ◌-◌, ℕ, List, [], ◌++◌, length, take, drop, ap, sym, ◌∙◌, arith}
use Rattle.mc_store.proofs.FlatLemmas.{in_pair}
use Rattle.mc_words.specs.model_device.specs.Card.{word}
use Rattle.mc_words.specs.model_device.specs.Device.{sized}
use Rattle.mc_words.specs.model_device.proofs.ListLemmas.{some_bytes}
use Rattle.mc_store.proofs.section.read_few.Goals as goal

pub returns : goal.returns
returns g c =
    let m = (g.N.Nvm.state c.args.device.now).words in
    let q = c.args.place in
    let skip = c.args.skip in
    let n = length c.args.into.now in
    let room = c.requires.range in
    let some : 0 < n = some_bytes c.args.into.now (sym c.is_empty.ensures ∙ c.if-is_empty.false) in
    let lt : q < length m = omega (arith, room, some) in
    let asked : 8 < skip + n → c.word_where.result ≡ word m (q + 1) = λ far. c.word_where.ensures (grind (arith, far)) in
    let count : (skip + n) - skip ≡ n = omega arith in
    c.copy_few.ensures
    ∙ ap (λ (l : List ℕ). take ((skip + n) - skip) (drop skip l)) c.as_flattened.ensures.value
    ∙ ap (λ (k : ℕ). take k (drop skip (c.read.result ++ (c.word_where.result ++ [])))) count
    ∙ ap (λ (w : List ℕ). take n (drop skip (w ++ (c.word_where.result ++ [])))) c.read.ensures
    ∙ in_pair m (sized c.len-size.ensures.image) q skip n c.word_where.result lt c.requires.skip c.requires.few room asked
