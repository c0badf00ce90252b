-- The answer to one frame, and to the frames after it.
use Rattle.std.proofs.Common.{◌≡◌, ℕ, ◌<◌, List, [], ◌∷◌, ◌++◌, length, Option, Some, None, refl, arith, sym, ◌∙◌, ap, subst, append_assoc, append-nil}
use Rattle.std.specs.Prelude.{option_map}
use Rattle.mc_words.specs.model_device.specs.Device.{DeviceState}
use Rattle.mc_words.specs.model_device.specs.Card.{App}
use Rattle.mc_deck.specs.model_play.specs.Play.{static_of}
use Rattle.mc_streams.specs.Streams.{Grew}
use Rattle.mc_streams.proofs.StreamsLemmas.{grew_append}
use Rattle.mc_text.specs.Texts.{Sunk}
use Rattle.mc_text.specs.Texts as text
use Rattle.mc_streams.proofs.StreamsLemmas.{rose_later}
use Rattle.mc_script.specs.declared.answer.Answer.{Answer}
use Rattle.mc_script.specs.declared.answer.Answer.TheVariants as answer
use Rattle.mc_script.specs.declared.player.Player.{Player}
use Rattle.mc_script.specs.declared.player.Power.TheVariants as power
use Rattle.mc_script.specs.Players.{answer_value, dump_value}
use Rattle.mc_reader.specs.Frames.{frame_bytes, frames_bytes}
use Rattle.mc_reader.specs.Answers.{present, result_bytes}
use Rattle.mc_reader.specs.Results.{answer_bytes, answer_frame}
use Rattle.mc_reader.specs.Sessions.{AnswersWritten, AnswersCut}

-- ---- results

-- no command has static bytes as its result
static_bytes : (o : Option App) → result_bytes (Some (static_of o)) ≡ []
static_bytes None = refl
static_bytes (Some a) = refl

-- the bytes of a result are those of the line's result
pub answer_is : {N : Type 0} (state : N → DeviceState) (p : Player N) (o : Option Answer) → result_bytes (option_map (answer_value state p) o) ≡ answer_bytes p.outcome o
answer_is state p None = refl
answer_is state p (Some answer.Formatted) = refl
answer_is state p (Some (answer.Ready n)) = refl
answer_is state p (Some (answer.Unusable u)) = refl
answer_is state p (Some (answer.OffAt k)) = refl
answer_is state p (Some answer.Worn) = refl
answer_is state p (Some answer.NoCard) = refl
answer_is state p (Some answer.Mute) = refl
answer_is state p (Some answer.Outcome) = refl
answer_is state p (Some (answer.Dump aid)) =
    elim p.power as (λ on. result_bytes (Some (dump_value state on p.card aid)) ≡ []) [
      | power.BeforePower ↦ refl
      | power.Off ↦ refl
      | power.Mute ↦ refl
      | power.On ↦ static_bytes _
    ]

-- ---- what was written

-- one more answer
present_more : (os : List (Option (List ℕ))) (o : Option (List ℕ)) → frames_bytes (present (os ++ o ∷ [])) ≡ frames_bytes (present os) ++ answer_frame o
present_more [] None = refl
present_more [] (Some f) = append-nil (frame_bytes f)
present_more (None ∷ os) o = present_more os o
present_more (Some g ∷ os) o = ap (λ t. frame_bytes g ++ t) (present_more os o) ∙ sym (append_assoc (frame_bytes g) (frames_bytes (present os)) (answer_frame o))

pub written_more : (x y z : Sunk) (os : List (Option (List ℕ))) (o : Option (List ℕ)) → AnswersWritten x os y → text.Writes y (answer_frame o) z → AnswersWritten x (os ++ o ∷ []) z
written_more x y z os o h k =
    record {
      whole = subst (λ (t : List ℕ). Grew x.taken z.taken t) (sym (present_more os o)) (grew_append x.taken y.taken z.taken (frames_bytes (present os)) (answer_frame o) h.whole k.whole);
      counted = k.counted ∙ h.counted;
    }

-- empty bytes have no part that is left
no_part : (front back : List ℕ) → [] ≡ front ++ back → 0 < length back → ⊥
no_part [] [] e some = omega (arith, some)
no_part [] (b ∷ bs) e some = cc e
no_part (x ∷ xs) back e some = cc e

-- nothing is written for a frame without an answer, so that writing it cannot fail
pub written_cut : (x y z : Sunk) (os : List (Option (List ℕ))) (o : Option (List ℕ)) → AnswersWritten x os y → text.Fails y (answer_frame o) z → AnswersCut x (os ++ o ∷ []) z
written_cut x y z os None h k = absurd (no_part k.part.front k.part.rest k.part.parts k.part.some_left)
written_cut x y z os (Some f) h k =
    record {
      before = os;
      last = f;
      are = refl;
      front = k.part.front;
      back = k.part.rest;
      parts = k.part.parts;
      some_left = k.part.some_left;
      written = grew_append x.taken y.taken z.taken (frames_bytes (present os)) k.part.front h.whole k.part.grew;
      cause = rose_later x.faults y.faults z.faults (omega (arith, h.counted)) k.cause;
    }
