-- The answers to frames, by the results that the code has.
use Rattle.std.specs.Prelude.{ℕ, List, [], Option, Some, None}
use Rattle.mc_words.specs.model_device.specs.Bytes.{bytes2}
use Rattle.mc_machine.specs.declared.outcome.Outcome.{Outcome}
use Rattle.mc_machine.specs.Turns.{outcome_value}
use Rattle.mc_script.specs.declared.answer.Answer.{Answer}
use Rattle.mc_script.specs.declared.answer.Answer.TheVariants as answer
use Rattle.mc_reader.specs.Frames.{frame_bytes}
use Rattle.mc_reader.specs.Meanings.{Meaning, ToCard}
use Rattle.mc_reader.specs.Answers.{outcome_bytes, answer_to}

-- the bytes of a result, by the outcome of the last command
abbrev pub answer_bytes : Outcome → Option Answer → List ℕ
answer_bytes last (Some answer.Outcome) = outcome_bytes (outcome_value last)
answer_bytes last (Some answer.Worn) = bytes2 0x6581
answer_bytes last _ = []

-- the answer to a frame, by the result of its line and the outcome of the last command
abbrev pub reply_to_frame : Meaning → Outcome → Option Answer → Option (List ℕ)
reply_to_frame (ToCard f) last o = Some (answer_bytes last o)
reply_to_frame m last o = answer_to m None

-- an answer as it is sent, if there is one
abbrev pub answer_frame : Option (List ℕ) → List ℕ
answer_frame None = []
answer_frame (Some f) = frame_bytes f
