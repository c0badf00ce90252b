use Rattle.std.proofs.Common.{◌≡◌, ◌++◌, ap, sym, ◌∙◌, append_assoc, rules}
use Rattle.model_play.specs.model_device.specs.Bytes.{bytes2}
use Rattle.model_play.specs.model_text.specs.Listing.{hex_text}
use Rattle.mc_text.proofs.TextLemmas.{hex_text_append}
use Rattle.mc_script.proofs.text.add_reply.Goals as goal

pub returns-clause-text : goal.returns-clause-text
returns-clause-text c =
    let old = c.args.text.now.items in
    let body = c.args.reply.now.body.items in
    let sw = bytes2 c.args.reply.now.sw in
    let is : c.as_slice.result.now ≡ body = search rules in
    c.add_hex-2.ensures.text
    ∙ ap (λ t. t ++ hex_text sw) (c.add_hex.ensures.text ∙ ap (λ b. old ++ hex_text b) is)
    ∙ append_assoc old (hex_text body) (hex_text sw)
    ∙ ap (λ t. old ++ t) (sym (hex_text_append body sw))
