use Rattle.std.proofs.Common.{[], ◌∷◌, ℕ, List, Ok, subst}
use Rattle.mc_words.specs.model_device.specs.Image.{opening, gate}
use Rattle.mc_words.specs.model_device.specs.Stopped.{word_of_number}
use Rattle.mc_words.specs.model_device.proofs.LoopLemmas.{then, one, one_done}
use Rattle.mc_gate.specs.Layouts.{journal_of}
use Rattle.mc_gate.proofs.put.open_gate.Goals as goal

pub returns-clause-makes : goal.returns-clause-makes
returns-clause-makes g c =
    let j = journal_of c.args.layout in
    then g.N.Nvm.wrote ((2, word_of_number c.args.count) ∷ []) ((gate j, opening j) ∷ []) c.args.device.now c.write.new.self c.write-2.new.self c.write-2.result
    (one_done g.N.Nvm.wrote c.args.device.now c.write.new.self 2 (word_of_number c.args.count) (subst (λ (w : List ℕ). g.N.Nvm.wrote c.args.device.now 2 w (Ok tt) c.write.new.self) c.number_word.ensures c.in_ok-write.ensures.wrote))
    (one g.N.Nvm.wrote c.write.new.self c.write-2.new.self (gate j) (opening j) c.write-2.result
    (subst (λ (w : List ℕ). g.N.Nvm.wrote c.write.new.self (gate j) w c.write-2.result c.write-2.new.self) c.opening.ensures
    (subst (λ (p : ℕ). g.N.Nvm.wrote c.write.new.self p c.opening.result c.write-2.result c.write-2.new.self) c.gate.ensures.place c.write-2.ensures.wrote)))
