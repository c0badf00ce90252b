use Rattle.std.proofs.Common.{◌+◌, ◌<◌, ℕ, length, sym, subst, ap, ◌∙◌}
use Rattle.mc_bank.specs.model_card.specs.declared.card.Sizes.{Sizes}
use Rattle.mc_store.specs.Store.{record_word}
use Rattle.mc_store.proofs.FillLemmas.{power_on}
use Rattle.mc_store.proofs.CreateLemmas.{note_word, note_did, note_going, note_good}
use Rattle.mc_words.specs.model_device.specs.Device.{sized}
use Rattle.mc_store.proofs.creation.put_note.Goals as goal

pub write-requires-clause-place : goal.write-requires-clause-place
write-requires-clause-place g c =
    subst (λ (q : ℕ). q + 1 + c.args.number < length (g.N.Nvm.state c.args.store.now.device).words) (sym c.place.ensures)
    (note_word (g.N.Nvm.state c.args.store.now.device) c.args.store.now.count c.args.site.now c.args.number (sized c.len-size.ensures.image) c.requires.going c.requires.good c.requires.number)

pub write-requires-clause-power : goal.write-requires-clause-power
write-requires-clause-power g c = power_on (g.N.Nvm.state c.args.store.now.device) c.args.store.now.count c.requires.going

pub returns-clause-did : goal.returns-clause-did
returns-clause-did g c =
    note_did g.N.Nvm.state g.N.Nvm.wrote g.met.N.Nvm.obeys c.args.store.now.device c.write.new.self c.args.store.now.count c.args.site.now c.args.aid.now c.args.number c.place.result c.entry_word-word.result c.write.result
    (sized c.len-size.ensures.image) c.requires.going c.requires.good c.requires.name c.requires.number c.place.ensures (c.entry_word-word.ensures ∙ ap (λ (z : Sizes). record_word z c.args.aid.now c.args.number) c.sizes.ensures) c.write.ensures.wrote

pub returns-clause-going : goal.returns-clause-going
returns-clause-going g c =
    note_going g.N.Nvm.state g.N.Nvm.wrote g.met.N.Nvm.obeys c.args.store.now.device c.write.new.self c.args.store.now.count c.args.site.now c.args.aid.now c.args.number c.write.result (returns-clause-did g c)

pub returns-clause-good : goal.returns-clause-good
returns-clause-good g c =
    note_good g.N.Nvm.state g.N.Nvm.wrote g.met.N.Nvm.obeys c.args.store.now.device c.write.new.self c.args.store.now.count c.args.site.now c.args.aid.now c.args.number c.write.result c.requires.good (returns-clause-did g c)
