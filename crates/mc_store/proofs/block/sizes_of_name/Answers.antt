use Rattle.std.proofs.Common.{◌≡◌, ◌+◌, ◌≤◌, length, take, ap, ◌∙◌, sym, arith}
use Rattle.std.specs.Prelude.{bytes_eq}
use Rattle.mc_words.specs.model_device.specs.Card.{name_at}
use Rattle.mc_store.proofs.RecordLemmas.{other_name, neither}
use Rattle.mc_store.proofs.block.sizes_of_name.Goals as goal

pub returns-then-not-begins-clause-name : goal.returns-then-not-begins-clause-name
returns-then-not-begins-clause-name g c =
    let m = (g.N.Nvm.state c.args.device.now).words in
    let fits : c.args.place + 5 ≤ length m = c.requires.fits c.if-not-header.false in
    let eight : length c.read-first.result ≡ 8 = ap length c.read-first.ensures ∙ c.len-size.ensures.image.words (c.args.place + 1) (omega (arith, fits)) in
    neither c.args.header.now.used (bytes_eq (name_at m c.args.place) c.args.aid.now)
    (other_name m c.args.place c.read-first.result c.args.aid.now fits eight c.read-first.ensures c.requires.name (sym (c.begins.ensures ∙ ap (bytes_eq (take 5 c.read-first.result)) c.requires.head) ∙ c.if-not-begins.true))
