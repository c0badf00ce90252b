use Rattle.std.proofs.Common.{◌≡◌, ◌<◌, ◌-◌, ◌^◌, ◌++◌, List}
use Rattle.std.specs.List.{AllByRecursion}
use Rattle.model_play.specs.model_text.specs.Text.{with_numbers}
use Rattle.model_play.specs.Generator.{turns}
use Rattle.mc_deck.specs.declared.unit.OwnedUnit.{OwnedUnit}
use Rattle.mc_deck.specs.Lines.{said_lines, UnitWithin}
use Rattle.mc_deck.specs.Generated.{AreUnits}
use Rattle.mc_deck.proofs.generator.push_turns.Given as goal

-- the lines so far and the turns that are left are the lines of the whole
abbrev pub invariant-loop-number : goal.invariant-loop-number
invariant-loop-number l = record {
  leads : (us : List OwnedUnit) → AreUnits us → said_lines us l.lines.items ++ with_numbers l.number (turns (4009 - l.number) l.x) ≡ said_lines us l.fn.lines.items ++ with_numbers 9 (turns 4000 l.fn.n);
  inside : AllByRecursion (λ l. UnitWithin 3 l.1) l.lines.items;
  bound : l.x < 2 ^ 31;
}
