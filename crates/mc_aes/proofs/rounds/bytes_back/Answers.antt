use Rattle.std.proofs.Common.{◌≡◌, ap, ◌∙◌}
use Rattle.model_machine.specs.Aes.{sub_back}
use Rattle.mc_aes.proofs.rounds.bytes_back.Goals as goal

pub returns : goal.returns
returns c =
    let e0 : c.substitute_back.result ≡ sub_back _ = c.substitute_back.ensures ∙ ap sub_back c.byte0.ensures in
    let e1 : c.substitute_back-2.result ≡ sub_back _ = c.substitute_back-2.ensures ∙ ap sub_back c.byte1.ensures in
    let e2 : c.substitute_back-3.result ≡ sub_back _ = c.substitute_back-3.ensures ∙ ap sub_back c.byte2.ensures in
    let e3 : c.substitute_back-4.result ≡ sub_back _ = c.substitute_back-4.ensures ∙ ap sub_back c.byte3.ensures in
    rw (← e0, ← e1, ← e2, ← e3) c.joined.ensures
