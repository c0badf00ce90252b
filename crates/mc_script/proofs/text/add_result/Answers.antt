use Rattle.std.proofs.Common.{◌++◌, ap, codes, decimal, sym, ◌∙◌, append_assoc}
use Rattle.model_play.specs.Transcript.{text_of_result}
use Rattle.mc_script.specs.Players.{answer_value}
use Rattle.mc_script.proofs.text.add_result.Goals as goal

pub returns-in-OffAt-clause-text : goal.returns-in-OffAt-clause-text
returns-in-OffAt-clause-text g c =
    let old = c.args.text.now.items in
    c.add_number-in-OffAt.ensures.text
    ∙ append_assoc old (codes "off at write ") (decimal c.in-OffAt.k)
    ∙ ap (λ a. old ++ text_of_result (answer_value g.N.Nvm.state c.args.player.now a)) (sym c.in-OffAt.is)
