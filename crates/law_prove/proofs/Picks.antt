-- The lines that a class picks are those that apply to each command of it, and to its answer.
use Rattle.std.proofs.Common.{◌≡◌, ℕ, List, [], ◌∷◌, Result, Ok, Err, refl}
use Rattle.std.specs.Prelude.{◌&&◌, map}
use Rattle.model_prove.specs.model_text.specs.Text.{◌>>=◌}
use Rattle.model_prove.specs.model_text.specs.Listing.{hex_text}
use Rattle.model_prove.specs.model_events.specs.Matching.{fits}
use Rattle.model_prove.specs.model_rules.specs.Rules.{Trigger, AtTurn, AtCommand, AtAnswer, AtSession, Action, OnLine}
use Rattle.model_prove.specs.model_rules.specs.Keeping.{Amounts, Break, OnCommand, OnAnswer, applies, after_line, after_lines}
use Rattle.model_prove.specs.Arrivals.{command_picks, answer_picks, answered_picks, after_pick, after_picks, result_patterns}
use Rattle.law_prove.specs.Coverings.{class_of}

next_is : (r : Result Amounts Break) (f g : Amounts → Result Amounts Break) → ((c : Amounts) → f c ≡ g c) → after_pick r f ≡ (r >>= g)
next_is (Err b) f g e = refl
next_is (Ok a) f g e = e a

module _ (bytes : List ℕ) where
  -- the lines that a class picks for a command leave what all lines that apply to it do
  pub commanded_is : (ls : List OnLine) (a : Amounts) → after_picks (command_picks (class_of bytes ls) ls) ls a ≡ after_lines (λ l. applies l.trigger (OnCommand (hex_text bytes))) ls a
  commanded_is [] a = refl
  commanded_is (l ∷ ls) a = by l.number l.trigger l.action l.name l.amount (λ c. commanded_is ls c)
    where
      by : (n : ℕ) (t : Trigger) (x : Action) (m : List ℕ) (k : ℕ) → ((c : Amounts) → after_picks (command_picks (class_of bytes ls) ls) ls c ≡ after_lines (λ l. applies l.trigger (OnCommand (hex_text bytes))) ls c)
          → let line : OnLine = record { number = n; trigger = t; action = x; name = m; amount = k } in
          after_picks (command_picks (class_of bytes (line ∷ ls)) (line ∷ ls)) (line ∷ ls) a ≡ after_lines (λ l. applies l.trigger (OnCommand (hex_text bytes))) (line ∷ ls) a
      by n (AtTurn p) x m k again = again a
      by n (AtCommand p) x m k again =
          next_is (after_line (fits p (hex_text bytes)) (record { number = n; trigger = AtCommand p; action = x; name = m; amount = k }) a)
          (λ c. after_picks (command_picks (class_of bytes ls) ls) ls c) (λ c. after_lines (λ l. applies l.trigger (OnCommand (hex_text bytes))) ls c) again
      by n (AtAnswer p q) x m k again = again a
      by n AtSession x m k again = again a

  -- the lines that a class picks for an answer leave what all lines that apply to it do
  pub answered_is : (text : List ℕ) (ls : List OnLine) (a : Amounts)
      → after_picks (answered_picks ls (answer_picks (class_of bytes ls) ls) (map (λ q. fits q text) (result_patterns ls))) ls a ≡ after_lines (λ l. applies l.trigger (OnAnswer (hex_text bytes) text)) ls a
  answered_is text [] a = refl
  answered_is text (l ∷ ls) a = by l.number l.trigger l.action l.name l.amount (λ c. answered_is text ls c)
    where
      by : (n : ℕ) (t : Trigger) (x : Action) (m : List ℕ) (k : ℕ)
          → ((c : Amounts) → after_picks (answered_picks ls (answer_picks (class_of bytes ls) ls) (map (λ q. fits q text) (result_patterns ls))) ls c ≡ after_lines (λ l. applies l.trigger (OnAnswer (hex_text bytes) text)) ls c)
          → let line : OnLine = record { number = n; trigger = t; action = x; name = m; amount = k } in
          after_picks (answered_picks (line ∷ ls) (answer_picks (class_of bytes (line ∷ ls)) (line ∷ ls)) (map (λ q. fits q text) (result_patterns (line ∷ ls)))) (line ∷ ls) a
          ≡ after_lines (λ l. applies l.trigger (OnAnswer (hex_text bytes) text)) (line ∷ ls) a
      by n (AtTurn p) x m k again = again a
      by n (AtCommand p) x m k again = again a
      by n (AtAnswer p q) x m k again =
          next_is (after_line (fits p (hex_text bytes) && fits q text) (record { number = n; trigger = AtAnswer p q; action = x; name = m; amount = k }) a)
          (λ c. after_picks (answered_picks ls (answer_picks (class_of bytes ls) ls) (map (λ q. fits q text) (result_patterns ls))) ls c) (λ c. after_lines (λ l. applies l.trigger (OnAnswer (hex_text bytes) text)) ls c) again
      by n AtSession x m k again = again a
