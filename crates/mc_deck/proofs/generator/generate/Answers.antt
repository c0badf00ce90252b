use Rattle.std.proofs.Common.{◌++◌, ℕ, List, sym, ap, subst, ◌∙◌}
use Rattle.std.specs.List.{AllByRecursion}
use Rattle.model_play.specs.model_text.specs.Text.{with_numbers}
use Rattle.model_play.specs.DeckGrammar.{DeckLine}
use Rattle.model_play.specs.Generator.{turns, closing_lines}
use Rattle.model_play.specs.ReadyAgain.{IsLine}
use Rattle.mc_deck.specs.declared.line.OwnedLine.{OwnedLine}
use Rattle.mc_deck.specs.Lines.{AreDeck, UnitWithin}
use Rattle.mc_deck.proofs.GeneratorLemmas.{generated_parts, generated_deck}
use Rattle.mc_deck.proofs.GeneratedBytes.{generated_bytes}
use Rattle.mc_deck.proofs.generator.generate.Goals as goal

pub invariant_of-result : goal.invariant_of-result
invariant_of-result c =
    let us = c.in_ok-units.units.items in
    let a = c.in_ok-units.ensures.units in
    let said = c.in_ok-push_closing.ensures.lines us ∙ ap (λ t. t ++ with_numbers 4009 closing_lines) (c.in_ok-push_turns.ensures.lines us a ∙ ap (λ t. t ++ with_numbers 9 (turns 4000 c.args.n)) (c.in_ok-lines.ensures.lines us a)) ∙ sym (generated_parts c.args.n) in
    record {
      inside = subst (λ (k : ℕ). AllByRecursion (λ (l : ℕ × OwnedLine). UnitWithin k l.1) c.push_closing.new.lines.items) (sym c.in_ok-units.ensures.count) c.in_ok-push_closing.ensures.inside;
      deck = subst AreDeck (sym said) (generated_deck c.args.n);
      bytes = subst (λ (ls : List (ℕ × DeckLine)). AllByRecursion (λ l. IsLine l.1) ls) (sym said) (generated_bytes c.args.n);
    }

pub returns : goal.returns
returns c =
    let us = c.in_ok-units.units.items in
    let a = c.in_ok-units.ensures.units in
    c.in_ok-push_closing.ensures.lines us ∙ ap (λ t. t ++ with_numbers 4009 closing_lines) (c.in_ok-push_turns.ensures.lines us a ∙ ap (λ t. t ++ with_numbers 9 (turns 4000 c.args.n)) (c.in_ok-lines.ensures.lines us a)) ∙ sym (generated_parts c.args.n)
