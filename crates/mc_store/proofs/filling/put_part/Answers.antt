use Rattle.std.proofs.Common.{◌+◌, ◌/◌, ◌<◌, ℕ, length, sym, subst}
use Rattle.mc_store.proofs.FillLemmas.{site_word, power_on, piece_did, piece_going, piece_good}
use Rattle.mc_words.specs.model_device.specs.Device.{sized}
use Rattle.mc_store.proofs.filling.put_part.Goals as goal

pub write_part-requires-clause-power : goal.write_part-requires-clause-power
write_part-requires-clause-power g c = power_on (g.N.Nvm.state c.args.store.now.device) c.args.store.now.count c.requires.going

pub write_part-requires-clause-place : goal.write_part-requires-clause-place
write_part-requires-clause-place g c =
    subst (λ (q : ℕ). q + c.args.at / 8 < length (g.N.Nvm.state c.args.store.now.device).words)
    (sym c.requires.place)
    (site_word (g.N.Nvm.state c.args.store.now.device) c.args.store.now.count c.args.site.now c.args.part c.args.at (length c.args.bytes.now) (sized c.len-size.ensures.image) c.requires.going c.requires.good c.requires.word)

pub returns-clause-did : goal.returns-clause-did
returns-clause-did g c =
    piece_did g.N.Nvm.state g.N.Nvm.wrote g.met.N.Nvm.obeys c.args.store.now.device c.write_part.new.device c.args.store.now.count c.args.site.now c.args.part c.args.at c.args.place c.args.bytes.now c.write_part.result
    (sized c.len-size.ensures.image) c.requires.going c.requires.good c.requires.word
    c.requires.place c.write_part.ensures.wrote

pub returns-clause-going : goal.returns-clause-going
returns-clause-going g c =
    piece_going g.N.Nvm.state g.N.Nvm.wrote g.met.N.Nvm.obeys c.args.store.now.device c.write_part.new.device c.args.store.now.count c.args.site.now c.args.part c.args.at c.args.bytes.now c.write_part.result (returns-clause-did g c)

pub returns-clause-good : goal.returns-clause-good
returns-clause-good g c =
    piece_good g.N.Nvm.state g.N.Nvm.wrote g.met.N.Nvm.obeys c.args.store.now.device c.write_part.new.device c.args.store.now.count c.args.site.now c.args.part c.args.at c.args.bytes.now c.write_part.result c.requires.good (returns-clause-did g c)
