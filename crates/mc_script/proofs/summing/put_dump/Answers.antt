use Rattle.std.proofs.Common.{◌≡◌, ◌++◌, [], rules, ap, sym, ◌∙◌, codes}
use Rattle.model_play.specs.Transcript.{text_of_result}
use Rattle.mc_deck.specs.Lines.{line_of}
use Rattle.mc_text.proofs.TextLemmas.{puts_as}
use Rattle.mc_script.specs.declared.answer.Answer.TheVariants as answer
use Rattle.mc_script.specs.Players.{answer_value}
use Rattle.mc_script.specs.Sums.{result_line, dump_text}
use Rattle.mc_script.proofs.QuietLemmas.{dump_answer}
use Rattle.mc_script.proofs.summing.put_dump.Goals as goal

pub returns : goal.returns
returns g c s at =
    let state = g.N.Nvm.state in
    let p = c.args.player.now in
    let aid = c.in-Dump.aid in
    let is : text_of_result (answer_value state p (answer.Dump aid)) ++ codes "\n" ≡ dump_text s (line_of c.args.line.now) =
    sym (ap (λ l. dump_text s (line_of l)) c.in-Dump.is ∙ ap result_line (dump_answer state g.N.Bench.bench p aid s 0 at)) in
    let empty : c.clear.new.self.items ≡ [] = search rules in
    let slice : c.as_slice.result.now ≡ c.add.new.text.items = search rules in
    let reported = text_of_result (answer_value state p (answer.Dump aid)) in
    puts_as _ _ c.put.result (slice ∙ c.add.ensures.text ∙ ap (λ t. t ++ codes "\n") (c.add_result.ensures.text ∙ ap (λ t. t ++ reported) empty) ∙ is) c.put.ensures
