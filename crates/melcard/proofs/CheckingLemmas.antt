-- Verdicts of the lines of a deck, line by line.
use Rattle.std.proofs.Common.{◌≡◌, ◌≢◌, ℕ, ◌+◌, ◌≤◌, List, [], ◌∷◌, ◌++◌, length, drop, Some, Result, Ok, Err, refl, ap, sym, ◌∙◌, subst, append_assoc}
use Rattle.std.specs.Prelude.{slice_get, OnOk}
use Rattle.std.proofs.lemmas.List.{append-nil}
use Rattle.mc_deck.specs.model_play.specs.DeckGrammar.{DeckLine}
use Rattle.mc_deck.specs.model_play.specs.DeckGrammar as grammar
use Rattle.mc_deck.specs.model_card.specs.Units.{UnitParts}
use Rattle.mc_check.specs.declared.verdict.Verdict.{Verdict as CodeVerdict}
use Rattle.mc_check.specs.Verdicts.{IsVerdictOf, KeepsTo}
use Rattle.mc_deck.specs.declared.line.Line.{Line}
use Rattle.mc_deck.specs.declared.line.Line.TheVariants as line
use Rattle.mc_deck.specs.Lines.{line_of}
use Rattle.mc_script.proofs.DeckLemmas.{next_line, no_line}
use Rattle.melcard.specs.Verdicts.{verdict_line, AreVerdicts}
use Rattle.melcard.specs.Judging.{AddsVerdict}

-- ---- one line

no_verdict : (n : ℕ) (l : Line) → ((u : _) (fixed session : ℕ) → l ≢ line.Load u fixed session) → AreVerdicts ((n, line_of l) ∷ []) []
unfolding AreVerdicts
no_verdict n (line.Load u fixed session) other = absurd (other u fixed session refl)
no_verdict n _ other = refl

-- a line that is not a load line adds nothing
pub nothing_added : (n : ℕ) (l : Line) (old : List ℕ) → ((u : _) (fixed session : ℕ) → l ≢ line.Load u fixed session) → AddsVerdict (n, line_of l) old old
nothing_added n l old other = ([], sym (append-nil old), no_verdict n l other)

one_verdict : (n : ℕ) (u : UnitParts) (fixed session : ℕ) (v : CodeVerdict) → IsVerdictOf u.code session v → KeepsTo u.code session v → AreVerdicts ((n, grammar.Sent (grammar.Load u fixed session)) ∷ []) (verdict_line n v)
unfolding AreVerdicts
one_verdict n u fixed session v holds keeps = record { verdict = v; holds = holds; keeps = keeps; behind = []; rest = refl; parts = sym (append-nil (verdict_line n v)) }

-- a load line adds its verdict
pub verdict_added : {A E : Type 0} (r : Result A E) (n : ℕ) (l : DeckLine) (u : UnitParts) (fixed session : ℕ) (v : CodeVerdict) (old new : List ℕ) → l ≡ grammar.Sent (grammar.Load u fixed session) → IsVerdictOf u.code session v → KeepsTo u.code session v → OnOk r (new ≡ old ++ verdict_line n v) → OnOk r (AddsVerdict (n, l) old new)
verdict_added (Ok a) n l u fixed session v old new is holds keeps grew =
    (verdict_line n v, grew, subst (λ (k : DeckLine). AreVerdicts ((n, k) ∷ []) (verdict_line n v)) (sym is) (one_verdict n u fixed session v holds keeps))
verdict_added (Err e) n l u fixed session v old new is holds keeps grew = tt

-- ---- a line before others

nothing_before : (ls : List (ℕ × DeckLine)) (text behind : List ℕ) → text ≡ [] → AreVerdicts ls behind → AreVerdicts ls (text ++ behind)
nothing_before ls text behind none rest = subst (λ t. AreVerdicts ls (t ++ behind)) (sym none) rest

verdict_before : (n : ℕ) (l : DeckLine) (ls : List (ℕ × DeckLine)) (text behind : List ℕ) → AreVerdicts ((n, l) ∷ []) text → AreVerdicts ls behind → AreVerdicts ((n, l) ∷ ls) (text ++ behind)
unfolding AreVerdicts
verdict_before n (grammar.Sent (grammar.Load u fixed session)) ls text behind one rest =
    let line = verdict_line n one.verdict in
    let whole : text ≡ line = one.parts ∙ ap (λ t. line ++ t) one.rest ∙ append-nil line in
    record { verdict = one.verdict; holds = one.holds; keeps = one.keeps; behind = behind; rest = rest; parts = ap (λ t. t ++ behind) whole }
verdict_before n _ ls text behind one rest = nothing_before ls text behind one rest

-- ---- all lines

-- a text for the lines from a place on, appended to this text, is one for all lines
abbrev pub VerdictsLead : List (ℕ × DeckLine) → ℕ → List ℕ → Type 0
VerdictsLead ls i text = (behind : List ℕ) → AreVerdicts (drop i ls) behind → AreVerdicts ls (text ++ behind)

-- one more line
pub leads_next : (ls : List (ℕ × DeckLine)) (i n : ℕ) (l : DeckLine) (old new : List ℕ) → slice_get ls i ≡ Some (n, l) → AddsVerdict (n, l) old new → VerdictsLead ls i old → VerdictsLead ls (i + 1) new
leads_next ls i n l old new here adds leads behind rest =
    let text = adds.0 in
    let due : AreVerdicts (drop i ls) (text ++ behind) = subst (λ (ks : List (ℕ × DeckLine)). AreVerdicts ks (text ++ behind)) (sym (next_line ls i n l here)) (verdict_before n l (drop (i + 1) ls) text behind adds.2 rest) in
    subst (λ t. AreVerdicts ls t) (sym (ap (λ t. t ++ behind) adds.1 ∙ append_assoc old text behind)) (leads (text ++ behind) due)

-- after the last line
pub leads_last : (ls : List (ℕ × DeckLine)) (i : ℕ) (text : List ℕ) → length ls ≤ i → VerdictsLead ls i text → AreVerdicts ls text
unfolding AreVerdicts
leads_last ls i text end leads =
    let none : AreVerdicts (drop i ls) [] = subst (λ (ks : List (ℕ × DeckLine)). AreVerdicts ks []) (sym (no_line ls i end)) refl in
    subst (λ t. AreVerdicts ls t) (append-nil text) (leads [] none)
