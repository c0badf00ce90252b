use Rattle.std.proofs.Common.{◌≡◌, ◌++◌, ℕ, List, Some, refl, ap, ◌∙◌, rules, take, drop, ◌+◌}
use Rattle.model_play.specs.model_text.specs.Listing.{hex_text}
use Rattle.mc_bank.specs.Bank.{app_of}
use Rattle.mc_card.specs.Parts.{card_in}
use Rattle.mc_script.proofs.TextLemmas.{left_behind, hex_piece_on}
use Rattle.mc_script.proofs.text.add_bytes.Goals as goal

pub loop-at-preserved : goal.loop-at-preserved
loop-at-preserved g c =
    let fixed = (app_of (card_in g.N.Nvm.state c.args.card.now).apps (Some c.args.aid.now)).fixed in
    let at = c.loop-at.at in
    let count = c.min-count.result in
    let behind : drop count (drop at fixed) ≡ drop (at + count) fixed = left_behind at count fixed in
    record {
      reported = ap (λ (t : List ℕ). t ++ hex_text (drop (at + count) fixed)) c.add_piece.ensures.text ∙ hex_piece_on c.loop-at.text.items _ fixed (take count (drop at fixed)) at count refl behind c.loop-at.invariant.reported;
      place = search rules;
      room = search rules;
    }
