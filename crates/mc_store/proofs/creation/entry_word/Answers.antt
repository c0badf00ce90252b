use Rattle.std.proofs.Common.{arith}
use Rattle.mc_store.proofs.CreateLemmas.{first_word, second_word, last_word}
use Rattle.mc_store.proofs.creation.entry_word.Goals as goal

pub returns-in-0 : goal.returns-in-0
returns-in-0 c = first_word c.args.sizes.now c.args.aid.now c.args.name.now c.args.number c.requires.name c.requires.padded c.in-0.is

pub returns-in-1 : goal.returns-in-1
returns-in-1 c = second_word c.args.sizes.now c.args.aid.now c.args.name.now c.args.number c.requires.name c.requires.padded c.in-1.is

pub returns-in_default : goal.returns-in_default
returns-in_default c = last_word c.args.sizes.now c.args.aid.now c.args.number c.access_word.result c.requires.name (omega (arith, c.in_default, c.requires.number)) c.access_word.ensures
