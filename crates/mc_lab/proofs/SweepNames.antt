-- The names of the rest of the lines.
use Rattle.std.specs.Prelude.{◌≡◌, ℕ, ◌+◌, List, drop, slice_get, Some}
use Rattle.std.proofs.Common.{ap, sym, ◌∙◌}
use Rattle.law_explore.specs.model_play.specs.DeckGrammar.{DeckLine}
use Rattle.mc_lab.specs.Sweeps.{names_from, with_names, names_in_line}
use Rattle.mc_lab.proofs.BelowLemmas.{drop_at}

-- the names of one more line
pub names_step : (ls : List (ℕ × DeckLine)) (i : ℕ) (x : ℕ × DeckLine) (names new all : List (List ℕ)) → slice_get ls i ≡ Some x → new ≡ with_names names (names_in_line x.1)
    → names_from names (drop i ls) ≡ all → names_from new (drop (i + 1) ls) ≡ all
names_step ls i x names new all here is h =
    ap (λ (ns : List (List ℕ)). names_from ns (drop (i + 1) ls)) is ∙ sym (ap (λ (l : List (ℕ × DeckLine)). names_from names l) (drop_at ls i x here)) ∙ h
