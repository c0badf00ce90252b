use Rattle.std.proofs.Common.{◌∙◌}
use Rattle.std.specs.Prelude.{option_map}
use Rattle.desk_cover.proofs.LookLemmas.{scene_found}
use Rattle.desk_cover.proofs.looking.Scene.take.Goals as goal

pub returns-in-Some : goal.returns-in-Some
returns-in-Some g c ch left runs =
    let h = c.take_frame.ensures in
    scene_found g.N.Nvm.state c.take_frame.new.self c.args.card.now ch left c.in-Some.chain.now c.running.result.now (option_map (λ b. b.now) c.args.code) runs c.in-Some.ensures c.running.ensures (h.name ∙ c.requires.name ch left runs) h.floor h.stack h.place h.high
