-- What tries came to, as the code counts it, is what they come to by the definition.
use Rattle.std.specs.Prelude.{◌≡◌, ◌+◌, ◌≤◌, ℕ, suc, ◌||◌, drop, slice_get, Some, Bool, true, false, nat_lt, List, [], ◌∷◌, ◌++◌, length, map, replicate, slice_index_or, refl}
use Rattle.std.proofs.Common.{arith, add-one, ap, sym, subst, ◌∙◌}
use Rattle.law_explore_text.specs.model_play.specs.Play.{Step}
use Rattle.law_explore_text.specs.law_explore.specs.Rules as rule
use Rattle.law_explore_text.specs.law_explore.specs.States as model
use Rattle.law_explore_text.specs.law_explore.specs.States.{play_of}
use Rattle.law_explore_text.specs.law_explore.specs.Tries.{heard_after, heard_with, step_of, times}
use Rattle.law_explore_text.specs.law_explore.specs.Search as found
use Rattle.law_explore_text.specs.law_explore.specs.Search.{no_tries, tally_with}
use Rattle.law_explore_text.specs.Report.{silent_lines, silent_numbers}
use Rattle.lab_rules.specs.Meanings.{AlikeLists, AreRules, IsOn}
use Rattle.lab_rules.specs.Occasions.{capped}
use Rattle.lab_rules.specs.declared.rules.OnRule.{OnRule}
use Rattle.lab_rules.specs.declared.rules.Rules.{Rules}
use Rattle.lab_search.specs.declared.journey.Manner.{Manner}
use Rattle.lab_key.specs.declared.state.CardState.{CardState}
use Rattle.lab_search.specs.declared.trying.Laboratory.{Laboratory}
use Rattle.lab_search.specs.declared.trying.Tried.{Tried}
use Rattle.lab_search.specs.declared.trying.Tried.TheVariants as tried
use Rattle.lab_search.specs.Reports.{manner_value}
use Rattle.lab_search.specs.Rounds.{try_value}
use Rattle.lab_search.specs.Tallies.{CountsTry, counts_of, heard_at, heard_from, heard_or, silent_from, silent_if, silent_line}
use Rattle.lab_search.proofs.AlikeLemmas.{alike_length, drop_at, drop_past}

-- ---- `on` lines that applied

heard_none : (i : ℕ) (ns : List ℕ) → heard_from i ns [] ≡ []
heard_none i [] = refl
heard_none i (n ∷ ns) = heard_none (suc i) ns

-- counts from the second on leave the first line
heard_rest : (i : ℕ) (ns : List ℕ) (h : Bool) (hs : List Bool) → heard_from (suc i) ns (h ∷ hs) ≡ h ∷ heard_from i ns hs
heard_rest i [] h hs = refl
heard_rest i (n ∷ ns) h hs = heard_rest (suc i) ns h (heard_at (nat_lt 0 n) i hs)

or_is : (a h : Bool) → heard_or a h ≡ (h || a)
or_is true true = refl
or_is true false = refl
or_is false true = refl
or_is false false = refl

some_capped : (n : ℕ) → nat_lt 0 (capped n) ≡ nat_lt 0 n
some_capped n = grind arith

-- the lines that applied after a move, by how many times each applies to it
heard_counted : (rs : List rule.OnRule) (m : rule.Move) (t : Step) (hs : List Bool) → heard_from 0 (map (λ r. capped (times r m t)) rs) hs ≡ heard_with rs m t hs
unfolding heard_with
heard_counted [] m t hs = refl
heard_counted (r ∷ rs) m t [] = heard_none 1 (map (λ q. capped (times q m t)) rs)
heard_counted (r ∷ rs) m t (h ∷ hs) =
    heard_rest 0 (map (λ q. capped (times q m t)) rs) (heard_or (nat_lt 0 (capped (times r m t))) h) hs
    ∙ ap (λ (b : Bool). b ∷ heard_from 0 (map (λ q. capped (times q m t)) rs) hs) (or_is (nat_lt 0 (capped (times r m t))) h ∙ ap (λ (a : Bool). h || a) (some_capped (times r m t)))
    ∙ ap (λ (bs : List Bool). (h || nat_lt 0 (times r m t)) ∷ bs) (heard_counted rs m t hs)

heard_is : (rs : List rule.OnRule) (c : model.CardState) (m : rule.Move) (w : Manner) (hs : List Bool) → heard_from 0 (counts_of rs c m w) hs ≡ heard_after rs c (try_value m w) hs
unfolding heard_after
heard_is rs c m w hs = heard_counted rs m (step_of (play_of c) m (manner_value w)) hs

-- one try more
pub tally_more : (rs : List rule.OnRule) (c : model.CardState) (m : rule.Move) (w : Manner) (a b : found.Tally) (counts : List ℕ) → counts ≡ counts_of rs c m w
    → b.tries ≡ a.tries + 1 → b.heard ≡ heard_from 0 counts a.heard → b ≡ tally_with rs c (try_value m w) a
tally_more rs c m w a b counts is tries heard =
    ap (λ (n : ℕ). record { tries = n; heard = b.heard }) tries
    ∙ ap (λ (hs : List Bool). record { tries = a.tries + 1; heard = hs }) (heard ∙ ap (λ (ns : List ℕ). heard_from 0 ns a.heard) is ∙ heard_is rs c m w a.heard)

-- the counts of a try by what it came to
pub broken_counts : (lab : Laboratory) (rs : List rule.OnRule) (c : model.CardState) (m : rule.Move) (w : Manner) (t : Tried) (i : ℕ) → t ≡ tried.Broken i → CountsTry lab rs c m w t → lab.counts.items ≡ counts_of rs c m w
broken_counts lab rs c m w t i e h = subst (CountsTry lab rs c m w) e h

-- after a try that reached a state the counts are those of its `on` lines
pub reached_counts : (lab : Laboratory) (rs : List rule.OnRule) (c : model.CardState) (m : rule.Move) (w : Manner) (t : Tried) (s : CardState) → t ≡ tried.Reached s → CountsTry lab rs c m w t → lab.counts.items ≡ counts_of rs c m w
reached_counts lab rs c m w t s e h = subst (CountsTry lab rs c m w) e h

-- no try yet
none_heard : (rs : List rule.OnRule) → replicate (length rs) false ≡ map (λ r. false) rs
none_heard [] = refl
none_heard (r ∷ rs) = ap (λ (hs : List Bool). false ∷ hs) (none_heard rs)

-- the tally at the start has no try and no line that applied
pub start_tally : (x : rule.Rules) (r : Rules) (a : found.Tally) (n : ℕ) → AreRules r x → n ≡ length r.ons.items → a ≡ record { tries = 0; heard = replicate n false } → a ≡ no_tries x.ons
start_tally x r a n h many is =
    let long = many ∙ alike_length (IsOn x.allowances) r.ons.items x.ons h.ons in
    is ∙ ap (λ (k : ℕ). record { tries = 0; heard = replicate k false }) long ∙ ap (λ (hs : List Bool). record { tries = 0; heard = hs }) (none_heard x.ons)

-- ---- their text

silent_none : (i : ℕ) (rs : List OnRule) → silent_from i rs [] ≡ []
silent_none i [] = refl
silent_none i (r ∷ rs) = silent_none (suc i) rs

silent_rest : (i : ℕ) (rs : List OnRule) (h : Bool) (hs : List Bool) → silent_from (suc i) rs (h ∷ hs) ≡ silent_from i rs hs
silent_rest i [] h hs = refl
silent_rest i (r ∷ rs) h hs = ap (λ (t : List ℕ). silent_if (slice_index_or hs i true) r.line ++ t) (silent_rest (suc i) rs h hs)

-- the lines of the rules that applied to no try
pub silent_is : (held : List (List ℕ × ℕ)) (os : List OnRule) (rs : List rule.OnRule) (hs : List Bool) → AlikeLists (IsOn held) os rs → silent_from 0 os hs ≡ silent_lines (silent_numbers rs hs)
silent_is held [] [] hs k = refl
silent_is held (o ∷ os) (r ∷ rs) [] k = silent_none 1 os
silent_is held (o ∷ os) (r ∷ rs) (true ∷ hs) k = silent_rest 0 os true hs ∙ silent_is held os rs hs k.1
silent_is held (o ∷ os) (r ∷ rs) (false ∷ hs) k =
    ap (λ (t : List ℕ). silent_line o.line ++ t) (silent_rest 0 os false hs ∙ silent_is held os rs hs k.1)
    ∙ ap (λ (n : ℕ). silent_line n ++ silent_lines (silent_numbers rs hs)) k.0.line
silent_is held [] (r ∷ rs) hs k = absurd k
silent_is held (o ∷ os) [] hs k = absurd k

-- the lines of the rules from an index on
pub silent_next : (os : List OnRule) (hs : List Bool) (i : ℕ) (o : OnRule) (b : Bool) → slice_get os i ≡ Some o → b ≡ slice_index_or hs i true
    → silent_from i (drop i os) hs ≡ silent_if b o.line ++ silent_from (i + 1) (drop (i + 1) os) hs
silent_next os hs i o b here e =
    ap (λ (l : List OnRule). silent_from i l hs) (drop_at os i o here)
    ∙ ap (λ (c : Bool). silent_if c o.line ++ silent_from (suc i) (drop (i + 1) os) hs) (sym e)
    ∙ ap (λ (k : ℕ). silent_if b o.line ++ silent_from k (drop (i + 1) os) hs) (sym (add-one i))

-- past the last `on` line no text of silent lines is left
pub silent_end : (os : List OnRule) (hs : List Bool) (i : ℕ) → length os ≤ i → [] ≡ silent_from i (drop i os) hs
silent_end os hs i h = sym (ap (λ (l : List OnRule). silent_from i l hs) (drop_past os i h))
