-- The rules of a deck along its own play, for rows that compute them.
use Rattle.std.specs.Prelude.{ℕ, Bool, true, false, cond, List, [], ◌∷◌, Option, Some, None, Result, Ok, Err}
use Rattle.std.specs.Fmt.{digits}
use Rattle.model_rule_text.specs.model_device.specs.Bytes.{lookup}
use Rattle.model_rule_text.specs.model_device.specs.Card.{App, blocks_from, apps_of}
use Rattle.model_rule_text.specs.model_device.specs.Pieces.{touched_words}
use Rattle.model_rule_text.specs.model_device.specs.Image.{targets_1, targets_2, pairs}
use Rattle.model_rule_text.specs.model_device.specs.Layout.{layout, step_of, bad_block, bad_record}
use Rattle.law_promise.specs.model_card.specs.Units.{name_of}
use Rattle.model_rule_text.specs.model_machine.specs.Apdu.{apdu_read}
use Rattle.model_rule_text.specs.model_machine.specs.Frame.{bytes_at, write_effect, too_many}
use Rattle.model_rule_text.specs.model_machine.specs.Primitives.{later_causes, prim_effect}
use Rattle.model_rule_text.specs.model_machine.specs.Row.{causes, effect, row}
use Rattle.model_rule_text.specs.model_machine.specs.Chain.{turn_of_chain, run_of_chain}
use Rattle.model_rule_text.specs.model_text.specs.TurnText.{turn_line}
use Rattle.law_promise.specs.model_card.specs.Manager.{manage}
use Rattle.law_promise.specs.model_card.specs.Commands.{command}
use Rattle.law_promise.specs.model_play.specs.DeckGrammar.{DeckLine, deck_read}
use Rattle.law_promise.specs.model_play.specs.Given.{apps_in}
use Rattle.law_promise.specs.model_play.specs.Play.{Step, send, play_at_power, step, plays, moves_of, steady_failures}
use Rattle.law_promise.specs.model_play.specs.declared.deck.DeckCause.{DeckCause}
use Rattle.law_promise.specs.Computed.{steps_of}
use Rattle.law_promise.specs.model_events.specs.Matching.{fits}
use Rattle.model_rule_text.specs.model_rules.specs.Rules.{AppRules, Target}
use Rattle.model_rule_text.specs.Reading.{RuleCause, app_rules_read}
use Rattle.law_promise.specs.History.{after_run, after_step}
use Rattle.model_rule_text.specs.model_rules.specs.Happenings.{History, rule_watch}
use Rattle.model_rule_text.specs.model_rules.specs.Keeping.{Amounts, Standing, Break, standing_after, keeps_rules, is_broken}

-- what a deck's play shows of its rules: the refusal, the number of the first line that broke one, or the allowances at
-- the end
pub data Shown : Type 0 where
  Refused : (line : ℕ) (cause : RuleCause) → Shown
  Broken : (line : ℕ) → Shown
  Kept : (allowances : Amounts) → Shown

-- what stands at the end
abbrev pub shown_standing : ℕ → Result Standing Break → Shown
shown_standing line (Ok s) = Kept s.allowances
shown_standing line (Err b) = Broken line

-- whether the rules are kept of the application, where it is there
abbrev pub keeps_on : AppRules → History → Option App → Bool
keeps_on r h None = cond (is_broken r h) false true
keeps_on r h (Some a) = keeps_rules r h a.fixed

-- a line after which they are not kept, or what is shown after it
abbrev pub shown_if : Bool → ℕ → Shown → Shown
shown_if true line rest = rest
shown_if false line rest = Broken line

-- the first line of a play after which the rules are not kept, or what stands at its end
abbrev pub shown_along : AppRules → List ℕ → History → List Step → Shown
shown_along r name h [] = shown_standing 0 (standing_after r h)
shown_along r name h (t ∷ ts) =
    let after : History = after_step (rule_watch name) t h in
    let rest = shown_along r name after ts in
    shown_if (keeps_on r after (lookup (apps_in t.after) name)) t.number rest

-- what the play of a deck's lines shows of the rules of an application
abbrev pub shown_for : Result (List (ℕ × DeckLine)) (ℕ × DeckCause) → AppRules → Option Target → Shown
shown_for ls r None = Kept r.allowances
shown_for ls r (Some g) = shown_along r g.name [] (steps_of ls)

-- what a deck that was read shows
abbrev pub shown_of : Result (List (ℕ × DeckLine)) (ℕ × DeckCause) → Result AppRules (ℕ × RuleCause) → Shown
shown_of ls (Err e) = Refused e.0 e.1
shown_of ls (Ok r) = shown_for ls r r.target

-- what the play of a deck shows of its rules
unfoldable pub shown : List ℕ → Shown
unfolding digits name_of apdu_read touched_words targets_1 targets_2 pairs blocks_from apps_of layout step_of bad_block bad_record bytes_at write_effect too_many later_causes prim_effect causes effect row turn_of_chain run_of_chain turn_line manage command send play_at_power step plays moves_of steady_failures fits deck_read app_rules_read after_run
shown deck = shown_of (deck_read deck) (app_rules_read deck)
