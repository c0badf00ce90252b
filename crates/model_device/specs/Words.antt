-- The word that is printed for the first fault of an image.
use Rattle.std.specs.Prelude.{ℕ, List, codes}
use Rattle.model_device.specs.declared.cause.Cause.{Cause}
use Rattle.model_device.specs.declared.cause.Cause.TheVariants.{BadJournal, NoRoot, BadBlock, BadRecord, BadChain}

-- the printed word of a cause
abbrev pub cause_text : Cause → List ℕ
cause_text BadJournal = codes "BadJournal"
cause_text NoRoot = codes "NoRoot"
cause_text BadBlock = codes "BadBlock"
cause_text BadRecord = codes "BadRecord"
cause_text BadChain = codes "BadChain"
