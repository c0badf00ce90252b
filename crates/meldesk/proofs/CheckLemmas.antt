-- Verdicts of the lines of a deck, line by line.
use Rattle.std.proofs.Common.{◌≡◌, ◌≢◌, ℕ, ◌+◌, ◌≤◌, Bool, true, List, [], ◌∷◌, ◌++◌, length, drop, Some, Result, Ok, Err, refl, ap, sym, ◌∙◌, subst, append_assoc, append-nil}
use Rattle.std.specs.Prelude.{slice_get, OnOk}
use Rattle.mc_deck.specs.model_play.specs.DeckGrammar.{DeckLine}
use Rattle.mc_deck.specs.model_play.specs.DeckGrammar as grammar
use Rattle.mc_deck.specs.model_card.specs.Units.{UnitParts}
use Rattle.mc_check.specs.declared.verdict.Verdict.{Verdict}
use Rattle.mc_check.specs.Verdicts.{IsVerdictOf, KeepsTo}
use Rattle.mc_deck.specs.declared.line.Line.{Line}
use Rattle.mc_deck.specs.declared.line.Line.TheVariants as line
use Rattle.mc_deck.specs.Lines.{line_of}
use Rattle.mc_script.proofs.DeckLemmas.{next_line, no_line}
use Rattle.desk_draft.specs.Listings.{Desk}
use Rattle.desk_draft.specs.declared.verdict.Loads.{Loads}
use Rattle.desk_draft.specs.Loads.{AreLoads}
use Rattle.desk_draft.specs.Verdicts.{CodeVerdict, verdict_line, verdict_lines}
use Rattle.meldesk.specs.Checks.{accepts, all_accept, verdict_value, AddsVerdicts, AreVerdicts, ShowsVerdicts}

abbrev Judged : Type 0
Judged = List (ℕ × CodeVerdict)

-- ---- one line

no_verdict : (n : ℕ) (l : Line) → ((u : _) (fixed session : ℕ) → l ≢ line.Load u fixed session) → AreVerdicts ((n, line_of l) ∷ []) []
unfolding AreVerdicts
no_verdict n (line.Load u fixed session) other = absurd (other u fixed session refl)
no_verdict n _ other = refl

-- a line that is not a load line adds nothing
pub nothing_added : (d : Desk) (n : ℕ) (l : Line) (passes : Bool) (old : List ℕ) → ((u : _) (fixed session : ℕ) → l ≢ line.Load u fixed session) → AddsVerdicts d (n, line_of l) passes passes old old
nothing_added d n l passes old other = record { verdicts = []; are = no_verdict n l other; grew = sym (append-nil old); passes = refl }

one_verdict : (n : ℕ) (u : UnitParts) (fixed session : ℕ) (v : Verdict) → IsVerdictOf u.code session v → KeepsTo u.code session v → AreVerdicts ((n, grammar.Sent (grammar.Load u fixed session)) ∷ []) ((n, verdict_value v) ∷ [])
unfolding AreVerdicts
one_verdict n u fixed session v holds keeps = record { verdict = v; holds = holds; keeps = keeps; others = []; rest = refl; parts = refl }

-- a load line adds its verdict
pub verdict_added : (d : Desk) (n : ℕ) (l : DeckLine) (u : UnitParts) (fixed session : ℕ) (v : Verdict) (before after : Bool) (old new : List ℕ) → after ≡ accepts before (verdict_value v) → l ≡ grammar.Sent (grammar.Load u fixed session) → IsVerdictOf u.code session v → KeepsTo u.code session v → new ≡ old ++ verdict_line d (n, verdict_value v)
    → AddsVerdicts d (n, l) before after old new
verdict_added d n l u fixed session v before after old new passes is holds keeps grew = record {
  verdicts = (n, verdict_value v) ∷ [];
  are = subst (λ (k : DeckLine). AreVerdicts ((n, k) ∷ []) ((n, verdict_value v) ∷ [])) (sym is) (one_verdict n u fixed session v holds keeps);
  grew = grew ∙ ap (λ t. old ++ t) (sym (append-nil (verdict_line d (n, verdict_value v))));
  passes = passes;
}

-- a load line adds its verdict, if its line was written
pub verdicts_added : {A E : Type 0} (loads : Loads) (r : Result A E) (n : ℕ) (l : DeckLine) (u : UnitParts) (fixed session : ℕ) (v : Verdict) (before after : Bool) (old new : List ℕ) → after ≡ accepts before (verdict_value v) → l ≡ grammar.Sent (grammar.Load u fixed session) → IsVerdictOf u.code session v → KeepsTo u.code session v
    → OnOk r ((d : Desk) → AreLoads loads d.deck d.sources → new ≡ old ++ verdict_line d (n, verdict_value v))
    → OnOk r ((d : Desk) → AreLoads loads d.deck d.sources → AddsVerdicts d (n, l) before after old new)
verdicts_added loads (Ok a) n l u fixed session v before after old new passes is holds keeps grew = λ d h. verdict_added d n l u fixed session v before after old new passes is holds keeps (grew d h)
verdicts_added loads (Err e) n l u fixed session v before after old new passes is holds keeps grew = tt

-- ---- a line before others

nothing_before : (ls : List (ℕ × DeckLine)) (vs others : Judged) → vs ≡ [] → AreVerdicts ls others → AreVerdicts ls (vs ++ others)
nothing_before ls vs others none rest = subst (λ (t : Judged). AreVerdicts ls (t ++ others)) (sym none) rest

verdict_before : (n : ℕ) (l : DeckLine) (ls : List (ℕ × DeckLine)) (vs others : Judged) → AreVerdicts ((n, l) ∷ []) vs → AreVerdicts ls others → AreVerdicts ((n, l) ∷ ls) (vs ++ others)
unfolding AreVerdicts
verdict_before n (grammar.Sent (grammar.Load u fixed session)) ls vs others one rest =
    let v : ℕ × CodeVerdict = (n, verdict_value one.verdict) in
    let whole : vs ≡ v ∷ [] = one.parts ∙ ap (λ t. v ∷ t) one.rest in
    record { verdict = one.verdict; holds = one.holds; keeps = one.keeps; others = others; rest = rest; parts = ap (λ t. t ++ others) whole }
verdict_before n _ ls vs others one rest = nothing_before ls vs others one rest

lines_append : (d : Desk) (vs ws : Judged) → verdict_lines d (vs ++ ws) ≡ verdict_lines d vs ++ verdict_lines d ws
lines_append d [] ws = refl
lines_append d (v ∷ vs) ws = ap (λ t. verdict_line d v ++ t) (lines_append d vs ws) ∙ sym (append_assoc (verdict_line d v) (verdict_lines d vs) (verdict_lines d ws))

-- whether verdicts accept, in two parts
accept_append : (passes : Bool) (vs ws : Judged) → all_accept passes (vs ++ ws) ≡ all_accept (all_accept passes vs) ws
accept_append passes [] ws = refl
accept_append passes (v ∷ vs) ws = accept_append (accepts passes v.1) vs ws

-- ---- all lines

-- a text has the verdicts on the lines up to a place, and with those on the lines from it on they are all
pub record VerdictsLead (d : Desk) (ls : List (ℕ × DeckLine)) (i : ℕ) (passes : Bool) (shown : List ℕ) : Type 0 where
  pub verdicts : Judged
  pub text : shown ≡ verdict_lines d verdicts
  pub accepted : passes ≡ all_accept true verdicts
  pub lead : (others : Judged) → AreVerdicts (drop i ls) others → AreVerdicts ls (verdicts ++ others)

pub leads_none : (d : Desk) (ls : List (ℕ × DeckLine)) (text : List ℕ) → text ≡ [] → VerdictsLead d ls 0 true text
leads_none d ls text e = record { verdicts = []; text = e; accepted = refl; lead = λ others h. h }

-- one more line
pub leads_next : (d : Desk) (ls : List (ℕ × DeckLine)) (i n : ℕ) (l : DeckLine) (before after : Bool) (old new : List ℕ) → slice_get ls i ≡ Some (n, l) → AddsVerdicts d (n, l) before after old new → VerdictsLead d ls i before old → VerdictsLead d ls (i + 1) after new
leads_next d ls i n l before after old new here adds so = record {
  verdicts = so.verdicts ++ adds.verdicts;
  accepted = adds.passes ∙ ap (λ b. all_accept b adds.verdicts) so.accepted ∙ sym (accept_append true so.verdicts adds.verdicts);
  text = adds.grew ∙ ap (λ t. t ++ verdict_lines d adds.verdicts) so.text ∙ sym (lines_append d so.verdicts adds.verdicts);
  lead = λ others rest.
      let due : AreVerdicts (drop i ls) (adds.verdicts ++ others) = subst (λ (ks : List (ℕ × DeckLine)). AreVerdicts ks (adds.verdicts ++ others)) (sym (next_line ls i n l here)) (verdict_before n l (drop (i + 1) ls) adds.verdicts others adds.are rest) in
      subst (λ (t : Judged). AreVerdicts ls t) (sym (append_assoc so.verdicts adds.verdicts others)) (so.lead (adds.verdicts ++ others) due);
}

-- after the last line
pub leads_last : (d : Desk) (ls : List (ℕ × DeckLine)) (i : ℕ) (passes : Bool) (text : List ℕ) → length ls ≤ i → VerdictsLead d ls i passes text → ShowsVerdicts d ls passes text
unfolding AreVerdicts
leads_last d ls i passes text end so =
    let none : AreVerdicts (drop i ls) [] = subst (λ (ks : List (ℕ × DeckLine)). AreVerdicts ks []) (sym (no_line ls i end)) refl in
    record { verdicts = so.verdicts; are = subst (λ (t : Judged). AreVerdicts ls t) (append-nil so.verdicts) (so.lead [] none); text = so.text; accepted = so.accepted }
