use Rattle.std.proofs.Common.{◌≡◌, ap, ◌∙◌}
use Rattle.model_machine.specs.Aes.{sub}
use Rattle.mc_aes.proofs.StateLemmas.{word_xor_of}
use Rattle.mc_aes.proofs.rounds.last_column.Goals as goal

pub returns : goal.returns
returns c =
    let e0 : c.substitute.result ≡ sub _ = c.substitute.ensures ∙ ap sub c.byte0.ensures in
    let e1 : c.substitute-2.result ≡ sub _ = c.substitute-2.ensures ∙ ap sub c.byte1.ensures in
    let e2 : c.substitute-3.result ≡ sub _ = c.substitute-3.ensures ∙ ap sub c.byte2.ensures in
    let e3 : c.substitute-4.result ≡ sub _ = c.substitute-4.ensures ∙ ap sub c.byte3.ensures in
    rw (← e0, ← e1, ← e2, ← e3) (word_xor_of c.joined-substitutes.result c.args.key _ c.joined-substitutes.ensures)
