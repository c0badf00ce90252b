-- Whether the tables of a deck are closed, for rows that compute it.
use Rattle.std.specs.Prelude.{ℕ, Bool, false, List, ◌++◌, codes, Option, Some, None, Result, Ok, Err}
use Rattle.law_prove.specs.model_rules.specs.Rules.{AppRules, Target}
use Rattle.law_prove.specs.model_prove.specs.Arrivals.{Setting}
use Rattle.std.specs.Fmt.{digits}
use Rattle.law_prove.specs.model_card.specs.Units.{name_of}
use Rattle.law_prove.specs.model_machine.specs.Apdu.{apdu_read}
use Rattle.law_prove.specs.model_device.specs.Pieces.{touched_words}
use Rattle.law_prove.specs.model_machine.specs.Frame.{bytes_at, write_effect, too_many}
use Rattle.law_prove.specs.model_machine.specs.Primitives.{later_causes}
use Rattle.law_prove.specs.model_machine.specs.Row.{causes}
use Rattle.law_prove.specs.model_machine.specs.Shapes.{shape, prim_shape}
use Rattle.law_prove.specs.model_text.specs.TurnText.{turn_line}
use Rattle.law_prove.specs.model_play.specs.DeckGrammar.{deck_read}
use Rattle.law_prove.specs.model_rules.specs.model_events.specs.Matching.{fits}
use Rattle.law_prove.specs.model_rule_text.specs.Reading.{RuleCause, app_rules_read}
use Rattle.law_prove.specs.model_prove.specs.Tables.{is_closed}
use Rattle.law_prove_closed.specs.Search.{tables_after}

-- an application of some lines of assembly with some numbers of static and session bytes, loaded, and some rules
abbrev pub deck_of : List ℕ → List ℕ → List ℕ → List ℕ
deck_of code sizes rules = codes "format\npower\napp a A000000001\n" ++ code ++ codes "end\nload a " ++ sizes ++ codes "\n#@ app a\n" ++ rules

-- a counter with its rules: one step for each command that is answered with 9000
abbrev pub counter_deck : List ℕ
counter_deck =
    codes "format\npower\nunit counter 0000000000000000000FB902000039020000460200000600020000000961074F05A00000000100096F078405A00000000100000000\n"
    ++ codes "load counter 2 0\nselect A000000001\napdu 8001000002\n#@ app counter\n#@ allow step 0\n#@ on command * allow step 1\n"
    ++ codes "#@ on turn 1*INCN SB[0],2* spend step 1\n#@ allow done 0\n#@ on command * allow done 0\n#@ on turn *INCN SB[0],2* allow done 1\n"
    ++ codes "#@ on answer * gives *9000 need done 1\n#@ never abend\n"

-- whether the tables after at most n steps of the search are closed
abbrev pub closed_for : ℕ → AppRules → Option Target → Bool
closed_for n r None = false
closed_for n r (Some g) = let s : Setting = record { rules = r; app = g.app } in is_closed s (tables_after n s)

-- whether those of a deck that was read are
abbrev pub closed_read : ℕ → Result AppRules (ℕ × RuleCause) → Bool
closed_read n (Err e) = false
closed_read n (Ok r) = closed_for n r r.target

-- whether the tables of a deck's text are closed after at most n steps of the search
unfoldable pub closed_after : ℕ → List ℕ → Bool
unfolding digits name_of apdu_read touched_words bytes_at write_effect too_many later_causes causes shape prim_shape turn_line deck_read fits app_rules_read is_closed
closed_after n text = closed_read n (app_rules_read text)
