use Rattle.std.proofs.Common.{◌+◌, ◌/◌, ◌<◌, ℕ, length, sym, subst, arith}
use Rattle.mc_store.proofs.FillLemmas.{power_on}
use Rattle.mc_store.proofs.CreateLemmas.{blank_word, blank_did, blank_going, blank_good, zeros_front}
use Rattle.mc_words.specs.model_device.specs.Device.{sized}
use Rattle.mc_store.proofs.creation.put_zeros.Goals as goal

pub write_part-requires-clause-power : goal.write_part-requires-clause-power
write_part-requires-clause-power g c = power_on (g.N.Nvm.state c.args.store.now.device) c.args.store.now.count c.requires.going

pub write_part-requires-clause-place : goal.write_part-requires-clause-place
write_part-requires-clause-place g c =
    subst (λ (q : ℕ). q + c.args.at / 8 < length (g.N.Nvm.state c.args.store.now.device).words) (sym c.requires.from)
    (blank_word (g.N.Nvm.state c.args.store.now.device) c.args.store.now.count c.args.site.now c.args.at c.args.count (sized c.len-size.ensures.image) c.requires.going c.requires.good c.requires.word)

pub returns-clause-did : goal.returns-clause-did
returns-clause-did g c =
    blank_did g.N.Nvm.state g.N.Nvm.wrote g.met.N.Nvm.obeys c.args.store.now.device c.write_part.new.device c.args.store.now.count c.args.site.now c.args.at c.args.count c.args.from _ c.write_part.result
    (sized c.len-size.ensures.image) c.requires.going c.requires.good c.requires.word c.requires.from (zeros_front c.args.count 8 (let w = c.requires.word.word in omega (arith, w))) c.write_part.ensures.wrote

pub returns-clause-going : goal.returns-clause-going
returns-clause-going g c =
    blank_going g.N.Nvm.state g.N.Nvm.wrote g.met.N.Nvm.obeys c.args.store.now.device c.write_part.new.device c.args.store.now.count c.args.site.now c.args.at c.args.count c.write_part.result (returns-clause-did g c)

pub returns-clause-good : goal.returns-clause-good
returns-clause-good g c =
    blank_good g.N.Nvm.state g.N.Nvm.wrote g.met.N.Nvm.obeys c.args.store.now.device c.write_part.new.device c.args.store.now.count c.args.site.now c.args.at c.args.count c.write_part.result c.requires.good (returns-clause-did g c)
