-- A deck with the rules of one application, as the code has it.
use Rattle.std.specs.Prelude.{◌≡◌, ℕ, cond, nat_lt, ◌==◌, ◌||◌, List, [], ◌∷◌, codes, Option, Some, None, Result, Ok, Err, ⊤}
use Rattle.mc_deck.specs.model_play.specs.declared.deck.DeckCause.{DeckCause}
use Rattle.mc_deck.specs.declared.refusal.DeckRefusal.{DeckRefusal}
use Rattle.mc_deck.specs.declared.refusal.DeckRefusal.TheVariants as refusal
use Rattle.mc_deck.specs.Refused.{DeckRefuses}
use Rattle.law_histories.specs.law_explore.specs.Rules as model
use Rattle.law_histories.specs.Histories.{AppExploration, AppFault, LineFault, NoMove, NoRule}
use Rattle.lab_app_rules.specs.Rules.{AreRules as AreAppRules}
use Rattle.prove_rules.specs.declared.fault.RuleCause.TheVariants as cause
use Rattle.prove_rules.specs.declared.fault.RuleRefusal.{RuleRefusal}
use Rattle.prove_rules.specs.declared.fault.RuleRefusal.TheVariants as rule
use Rattle.prove_rules.specs.Refused.{cause_value}
use Rattle.lab_app_rules.specs.Sums.{AreSums}
use Rattle.lab_rules.specs.Meanings.{AreRules}
use Rattle.lab_deck.specs.declared.reading.Application.{Application}
use Rattle.lab_deck.specs.declared.refusal.ApplicationRefusal.{ApplicationRefusal}
use Rattle.lab_deck.specs.declared.refusal.ApplicationRefusal.TheVariants as refused

-- ---- the rule that counts instructions

-- a line that applies to each instruction of each move, and leaves its allowance 0
abbrev pub counter : model.OnRule
counter = record { number = 0; move = codes "*"; occasion = model.AtTurn; pattern = codes "*"; effect = model.Allows; name = codes "turns"; amount = 0 }

-- the rules with this line alone
abbrev pub counting : model.Rules
counting = record { moves = []; allowances = (codes "turns", 0) ∷ []; ons = counter ∷ [] }

-- ---- a deck that was read

-- a deck with its moves and with the rules of its application is one of the definition
pub record IsApplication (x : Application) (e : AppExploration) : Type 0 where
  pub deck : x.moves.deck ≡ e.lines
  pub moves : AreRules x.moves.rules (record counting { moves = e.moves })
  pub rules : AreAppRules e.rules e.target x.rules
  pub sums : AreSums e.rules x.rules
  pub name : e.target.name ≡ x.aid

-- the same of one that was read
abbrev pub IsApplicationRead : {E : Type 0} → Application → Result AppExploration E → Type 0
IsApplicationRead x (Ok e) = IsApplication x e
IsApplicationRead x (Err e) = ⊥

-- ---- a refusal

-- the refusal of a move
abbrev pub move_refusal : DeckRefusal → ApplicationRefusal
move_refusal (refusal.At n c) = refused.Line n (cause.Deck c)
move_refusal refusal.NoMemory = refused.NoMemory

-- the first refusal among moves that are read alone, or none
abbrev pub AreMovesRefused : Result (List model.Move) (ℕ × DeckCause) → Option DeckRefusal → Type 0
AreMovesRefused y None = (ms : List model.Move) × (y ≡ Ok ms)
AreMovesRefused y (Some e) = DeckRefuses y e

-- The refusal of a rule, or that of a move if its line is before that of the rule; line 0, of rules that name no
-- application, is after all lines.
abbrev pub first_refusal : RuleRefusal → Option DeckRefusal → ApplicationRefusal
first_refusal rule.NoMemory move = refused.NoMemory
first_refusal (rule.At n c) None = refused.Line n c
first_refusal (rule.At n c) (Some (refusal.At m d)) = cond (nat_lt m n || n == 0) (refused.Line m (cause.Deck d)) (refused.Line n c)
first_refusal (rule.At n c) (Some refusal.NoMemory) = refused.NoMemory

-- a deck is refused as the definition refuses it, or memory is out
abbrev pub RefusesApplication : {A : Type 0} → Result A AppFault → ApplicationRefusal → Type 0
RefusesApplication r (refused.Line n c) = r ≡ Err (LineFault n (cause_value c))
RefusesApplication r refused.NoMove = r ≡ Err NoMove
RefusesApplication r refused.NoRule = r ≡ Err NoRule
RefusesApplication r refused.NoMemory = ⊤
