-- Accepted code never abends with 01, 02, 04 or 05: in every run on every card, at each turn in a frame of it, and DT
-- never passes the deepest.
use Rattle.std.proofs.Common.{◌≡◌, ℕ, zero, suc, ◌≤◌, ◌<◌, List, length, Option, Some, None, refl, sym, ap, ◌∙◌}
use Rattle.std.specs.Prelude.{unwrap_or}
use Rattle.std.specs.List.{AllByRecursion}
use Rattle.law_family.specs.model_machine.specs.Apdu.{ApduParts}
use Rattle.law_family.specs.model_device.specs.Bytes.{lookup}
use Rattle.law_family.specs.model_device.specs.Card.{App}
use Rattle.law_family.specs.model_machine.specs.Chain.{Chain, Follows, Continues, Ends, turn_of_chain, turn_of, no_app, start, start_app}
use Rattle.model_stack.specs.StackShape.{Accepts}
use Rattle.mc_bank.specs.Bank.{app_of}
use Rattle.mc_check.specs.Checked.{RunsCode, IsCalm, OnFollows, RunsCalmly, IsChecked}
use Rattle.law_family.specs.law_machine.specs.Limited.{session_in, AreLimited}
use Rattle.mc_machine.specs.Sound.{IsSoundChain}
use Rattle.mc_machine.proofs.SoundChains.{FollowsSound, turn_sound}
use Rattle.mc_machine.proofs.SoundRuns.{start_sound}
use Rattle.mc_check.proofs.RowFacts.{RowsAreCalm}
use Rattle.mc_check.proofs.AcceptedFacts.{HasBases}
use Rattle.mc_check.proofs.CalmPublic.{begun_whole}
use Rattle.mc_check.proofs.CalmTurns.{low_at}
use Rattle.mc_check.proofs.CalmChains.{StandsIfRunning, IsHeldChain, new_held, acted_held, acted_calm}
use Rattle.law_family.specs.model_device.specs.Limits.{most_code}

-- what holds of each sound chain whose frames are at facts holds of the one that follows
on_follows : (code : List ℕ) (session : ℕ) (ch : Chain) (apps : List (List ℕ × App)) (f : Follows) (holds : Chain → Type 0) → FollowsSound ch apps f → OnFollows f (IsHeldChain code session)
    → ((next : Chain) → IsSoundChain next → IsHeldChain code session next → holds next) → OnFollows f holds
on_follows code session ch apps (Ends o) holds sound held all = tt
on_follows code session ch apps (Continues next) holds sound held all = all next sound.sound held

module _ (facts : RowsAreCalm) (code : List ℕ) (bytes : AllByRecursion (λ b. b < 256) code) (short : length code ≤ most_code) (session most : ℕ) (accepts : Accepts code session most) (bases : HasBases code) where
  -- the turn of a chain whose budget is spent
  spent_calm : (ch : Chain) → IsHeldChain code session ch → RunsCode code session ch → IsCalm session most (turn_of zero ch).turn
  spent_calm ch held runs =
      record { end = refl; dt = low_at code session most accepts bases ch.frame (held.frame (record { app = runs.app; there = runs.there; code = runs.code; session = runs.session })) }

  runs_calmly : (budget : ℕ) (ch : Chain) → IsSoundChain ch → IsHeldChain code session ch → RunsCalmly code session most budget ch
  unfolding RunsCalmly
  runs_calmly zero ch sound held = λ runs. spent_calm ch held runs
  runs_calmly (suc n) ch sound held =
      let follows = (turn_sound (suc n) ch sound).follows in (
        λ runs. acted_calm code session most accepts bases short bytes facts ch sound held runs,
        on_follows code session ch _ (turn_of_chain ch).follows (λ c. RunsCalmly code session most n c) follows (acted_held code session most accepts bases short bytes facts ch sound held) (λ next s h. runs_calmly n next s h),
      )

  -- the first frame of a chain, by the application of its name
  first_held : (map : List (List ℕ × App)) (first body : List ℕ) (apdu : ApduParts) (o : Option App) → lookup map first ≡ o → length body ≡ session_in o → AreLimited map → StandsIfRunning code session map (start_app map first body apdu (unwrap_or o no_app)).frame
  first_held map first body apdu None is size limited = λ has. let found : None ≡ Some has.app = sym is ∙ has.there in absurd (cc found)
  first_held map first body apdu (Some a) is size limited = new_held code session most accepts bases map first a body is size limited

  start_held : (map : List (List ℕ × App)) (first body : List ℕ) (apdu : ApduParts) → length body ≡ session_in (lookup map first) → AreLimited map → IsHeldChain code session (start map first body apdu)
  start_held map first body apdu size limited = record { limited = limited; whole = begun_whole apdu; frame = first_held map first body apdu (lookup map first) refl size limited; below = tt }

session_there : (map : List (List ℕ × App)) (first : List ℕ) (o : Option App) → lookup map first ≡ o → session_in (lookup map first) ≡ (app_of map (Some first)).session
session_there map first None is = ap session_in is ∙ ap (λ (o : Option App). (unwrap_or o no_app).session) (sym is)
session_there map first (Some a) is = ap session_in is ∙ ap (λ (o : Option App). (unwrap_or o no_app).session) (sym is)

-- accepted code is checked
pub checked : RowsAreCalm → (code : List ℕ) → AllByRecursion (λ b. b < 256) code → length code ≤ most_code → (session most : ℕ) → Accepts code session most → HasBases code → IsChecked code session most
checked facts code bytes short session most accepts bases = λ map first body apdu budget limited size.
    let sound : IsSoundChain (start map first body apdu) = start_sound map first body apdu (size ∙ session_there map first (lookup map first) refl) in
    runs_calmly facts code bytes short session most accepts bases budget (start map first body apdu) sound (start_held facts code bytes short session most accepts bases map first body apdu size limited)
