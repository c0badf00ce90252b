-- The law of rules: along every play, at each moment at which power may go, nothing is broken and what always holds
-- holds. It has the shape of the law of promises, over the history of the rules.
use Rattle.std.specs.Prelude.{◌≡◌, ℕ, true, false, List, [], Option, Some, None, ⊤}
use Rattle.std.specs.List.{AllByRecursion}
use Rattle.model_rule_text.specs.model_device.specs.Device.{IsImage}
use Rattle.model_rule_text.specs.model_machine.specs.Frame.{Frame}
use Rattle.law_promise.specs.model_play.specs.DeckGrammar.{DeckLine}
use Rattle.law_promise.specs.model_play.specs.Play.{FailedWrite, Step, plays, start}
use Rattle.law_promise.specs.model_play.specs.ReadyAgain.{IsLine}
use Rattle.law_promise.specs.Along.{OnFixed}
use Rattle.law_promise.specs.Outline.{Entry}
use Rattle.law_promise.specs.Domain.{Domain, IsSound, AlongWrites}
use Rattle.model_rule_text.specs.model_rules.specs.Rules.{AppRules, Target}
use Rattle.model_rule_text.specs.model_rules.specs.Happenings.{Event, History, rule_watch}
use Rattle.model_rule_text.specs.model_rules.specs.Keeping.{is_broken, keeps_rules}

-- the history after a line breaks nothing, and with the static bytes, if the application is there, it keeps the rules
pub record StepKeeps (r : AppRules) (g : Target) (t : Step) (h : History) : Type 0 where
  pub unbroken : is_broken r h ≡ false
  pub always : OnFixed g.name (λ fixed. keeps_rules r h fixed ≡ true) t.after

-- After each line of a play, and after each device write at which it could be stopped, as long as no other application
-- came under the name and stops come at device writes. (A stop that a list of failed writes puts after the last write
-- of a command is none: no tape has it, and a rule may break there that no card can break.)
abbrev pub KeptAlong : AppRules → Target → History → List Step → Type 0
KeptAlong r g h ts = AlongWrites (rule_watch g.name) g.app ⊥ (λ before t after. StepKeeps r g t after) h ts

-- in every list of lines of bytes, from every image of words of bytes and with every list of failed writes
abbrev pub KeptInAll : AppRules → Target → Type 0
KeptInAll r g =
    (ls : List (ℕ × DeckLine)) (m : List (List ℕ)) (ws : List (Option FailedWrite)) → AllByRecursion (λ l. IsLine l.1) ls → IsImage m → KeptAlong r g [] (plays (start m) ls ws)

-- The rules are kept of the application: in every list of lines of bytes, from every image of words of bytes and with
-- every list of failed writes. (An analysis of bytes says nothing of other numbers.)
abbrev pub AreKeptBy : AppRules → Option Target → Type 0
AreKeptBy r None = ⊤
AreKeptBy r (Some g) =
    (ls : List (ℕ × DeckLine)) (m : List (List ℕ)) (ws : List (Option FailedWrite)) → AllByRecursion (λ l. IsLine l.1) ls → IsImage m → KeptAlong r g [] (plays (start m) ls ws)

-- the rules are kept
abbrev pub AreKept : AppRules → Type 0
AreKept r = AreKeptBy r r.target

-- ---- domains of rules

-- What an analysis covers of a history of the rules: while the application is not on the card; while it is idle; in a
-- session; and before the instruction at the frame's place.
pub record Covering : Type 1 where
  pub gone : History → Type 0
  pub idle : History → List ℕ → Type 0
  pub session : History → List ℕ → List ℕ → Type 0
  pub at : Entry Event → History → Frame → List ℕ → Type 0

-- the domain of a covering: stops come at device writes alone
abbrev pub domain_of_rules : Target → Covering → Domain Event
domain_of_rules g c =
    record {
      watch = rule_watch g.name;
      app = g.app;
      anywhere = ⊥;
      of_bytes = ⊤;
      gone = c.gone;
      idle = c.idle;
      session = c.session;
      at = c.at;
      answers = λ a before after sw. ⊤;
    }

-- A covering is sound, and under it no rule is broken.
pub record CoversRules (r : AppRules) (g : Target) (c : Covering) : Type 0 where
  pub sound : IsSound (domain_of_rules g c)
  pub gone : (h : History) → c.gone h → is_broken r h ≡ false
  pub idle : (h : History) (fixed : List ℕ) → c.idle h fixed → keeps_rules r h fixed ≡ true
  pub session : (h : History) (fixed session : List ℕ) → c.session h fixed session → keeps_rules r h fixed ≡ true
