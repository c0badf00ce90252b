-- The ruling of a manager with the reply that was written beside it, as the answer to a command.
use Rattle.std.specs.Prelude.{Result, Ok, Err}
use Rattle.model_card.specs.model_device.specs.declared.device.Stop.{Stop}
use Rattle.mc_apdu.specs.declared.reply.Reply.{Reply}
use Rattle.mc_manager.specs.declared.routed.Routed.{Routed}
use Rattle.mc_manager.specs.declared.routed.Routed.TheVariants as routed
use Rattle.mc_manager.specs.declared.routed.Ruling.{Ruling}
use Rattle.mc_manager.specs.declared.routed.Ruling.TheVariants.{Answer, Fresh, Pass}

-- the answer to a command, from its ruling and its reply
abbrev pub ruling_with_reply : Ruling → Reply → Routed
ruling_with_reply Answer r = routed.Answer r
ruling_with_reply (Fresh slot) r = routed.Fresh slot r
ruling_with_reply (Pass slot) r = routed.Pass slot

-- the answer to a command that may have stopped
abbrev pub ruling_or_stop : Result Ruling Stop → Reply → Result Routed Stop
ruling_or_stop (Ok x) r = Ok (ruling_with_reply x r)
ruling_or_stop (Err s) r = Err s
