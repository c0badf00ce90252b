-- What is explained of a draft by its reading.
use Rattle.std.proofs.Common.{◌≡◌, ◌≢◌, ℕ, zero, suc, ◌+◌, ◌≤◌, Bool, true, false, cond, List, [], ◌∷◌, ◌++◌, length, drop, map, Some, Ok, Err, refl, sym, ap, ◌∙◌, arith, append-nil}
use Rattle.std.specs.Prelude.{◌==◌, not, ◌&&◌, bytes_eq, codes, filter, slice_get}
use Rattle.std.proofs.lemmas.List.{map-append}
use Rattle.std.proofs.lemmas.List.Elements.{filter-append}
use Rattle.std.proofs.lemmas.Slice.Eq.{bytes_eq-Decides}
use Rattle.std.proofs.Math.ListN.{drop_of_length-le}
use Rattle.mc_text.specs.model_text.specs.declared.checker.CheckCause.{CheckCause}
use Rattle.mc_text.specs.model_text.specs.declared.checker.CheckCause.TheVariants as check
use Rattle.mc_text.specs.model_text.specs.CheckWords.{check_word}
use Rattle.mc_deck.specs.model_play.specs.DeckGrammar.{DeckLine}
use Rattle.mc_deck.specs.model_play.specs.DeckGrammar as grammar
use Rattle.mc_deck.specs.model_play.specs.declared.deck.DeckCause.{DeckCause}
use Rattle.mc_deck.specs.model_card.specs.Units.{UnitParts}
use Rattle.mc_deck.specs.declared.line.Line.{Line}
use Rattle.mc_deck.specs.declared.line.Line.TheVariants as line
use Rattle.mc_deck.specs.Lines.{line_of}
use Rattle.mc_check.specs.Verdicts.{IsVerdictOf}
use Rattle.mc_check.specs.declared.verdict.Verdict.TheVariants.{Accept, Refuse}
use Rattle.desk_draft.specs.Listings.{desk_read, Desk}
use Rattle.desk_draft.specs.Verdicts.{loaded_source}
use Rattle.desk_explain.specs.declared.entry.Entry.{Entry}
use Rattle.desk_explain.specs.Explained.{causes, has_cause, has_entry, is_cause, place_number, with_cause, Explains, ExplainsRead, ExplainsRefused, JudgesCode, JudgesCodes}

-- ---- entries

abbrev Causes : Type 0
Causes = List (ℕ × List ℕ)

causes_of_one : (b : Bool) (e : Entry) → is_cause e ≡ b → causes (e ∷ []) ≡ cond b ((e.number, e.word.now) ∷ []) []
causes_of_one true e h = rw h refl
causes_of_one false e h = rw h refl

causes_append : (xs ys : List Entry) → causes (xs ++ ys) ≡ causes xs ++ causes ys
causes_append xs ys =
    ap (map (λ (e : Entry). (e.number, e.word.now))) (filter-append is_cause xs ys)
    ∙ map-append (λ (e : Entry). (e.number, e.word.now)) (filter is_cause xs) (filter is_cause ys)

-- a warning is no cause
pub warned : (es new : List Entry) (e : Entry) → e.word.now ≡ codes "warning" → new ≡ es ++ e ∷ [] → causes new ≡ causes es
warned es new e word is =
    let other : is_cause e ≡ false = rw word refl in
    ap causes is ∙ causes_append es (e ∷ []) ∙ ap (λ ks. causes es ++ ks) (causes_of_one false e other) ∙ append-nil (causes es)

-- the words of the stack checker's causes are no warning
no_warning : (c : CheckCause) → bytes_eq (check_word c) (codes "warning") ≡ false
no_warning check.Undefined = refl
no_warning check.Past = refl
no_warning check.Indirect = refl
no_warning check.Returns = refl
no_warning check.Under = refl
no_warning check.Target = refl
no_warning check.Recursive = refl
no_warning check.Heights = refl
no_warning check.Wild = refl
no_warning check.Deep = refl

no_and : (b : Bool) → (b && false) ≡ false
no_and true = refl
no_and false = refl

true_by : (b : Bool) → not b ≡ false → b ≡ true
true_by true h = refl
true_by false h = absurd (cc h)

false_by : (b : Bool) → (b ≡ true → ⊥) → b ≡ false
false_by true h = absurd (h refl)
false_by false h = refl

-- a warning has the word of no cause
not_warned : (e : Entry) (w : List ℕ) → bytes_eq w (codes "warning") ≡ false → is_cause e ≡ false → bytes_eq e.word.now w ≡ false
not_warned e w h is =
    let word : e.word.now ≡ codes "warning" = (bytes_eq-Decides e.word.now (codes "warning")).0 (true_by (bytes_eq e.word.now (codes "warning")) is) in
    false_by (bytes_eq e.word.now w)
    (λ same. absurd (cc (sym h ∙ (bytes_eq-Decides w (codes "warning")).1 (sym ((bytes_eq-Decides e.word.now w).0 same) ∙ word))))

known_by : (b : Bool) (n : ℕ) (w : List ℕ) (e : Entry) (es : List Entry) → bytes_eq w (codes "warning") ≡ false → is_cause e ≡ b → has_entry n w es ≡ has_cause (causes es) (n, w)
    → has_entry n w (e ∷ es) ≡ has_cause (causes (e ∷ es)) (n, w)
known_by true n w e es h is rest = rw (is, rest) refl
known_by false n w e es h is rest =
    let other : (e.number == n && bytes_eq e.word.now w) ≡ false = ap (λ b. e.number == n && b) (not_warned e w h is) ∙ no_and (e.number == n) in
    rw (is, other) rest

-- what is said of a cause already is among the causes
known : (n : ℕ) (w : List ℕ) (es : List Entry) → bytes_eq w (codes "warning") ≡ false → has_entry n w es ≡ has_cause (causes es) (n, w)
known n w [] h = refl
known n w (e ∷ es) h = known_by (is_cause e) n w e es h refl (known n w es h)

-- a cause that is said already
pub cause_known : (n : ℕ) (c : CheckCause) (es : List Entry) → has_entry n (check_word c) es ≡ true → causes es ≡ with_cause (causes es) (n, check_word c)
cause_known n c es h = rw (sym (known n (check_word c) es (no_warning c)) ∙ h) refl

causes_with : (n : ℕ) (w : List ℕ) (es new : List Entry) (e : Entry) → bytes_eq w (codes "warning") ≡ false → e.number ≡ n → e.word.now ≡ w → new ≡ es ++ e ∷ [] → causes new ≡ causes es ++ (n, w) ∷ []
causes_with n w es new e other number word is =
    let yes : is_cause e ≡ true = ap (λ (t : List ℕ). not (bytes_eq t (codes "warning"))) word ∙ ap not other in
    ap causes is ∙ causes_append es (e ∷ []) ∙ ap (λ ks. causes es ++ ks) (causes_of_one true e yes) ∙ rw (number, word) refl

-- a cause that is said now
pub cause_added : (n : ℕ) (c : CheckCause) (es new : List Entry) (e : Entry) → has_entry n (check_word c) es ≡ false → e.number ≡ n → e.word.now ≡ check_word c → new ≡ es ++ e ∷ []
    → causes new ≡ with_cause (causes es) (n, check_word c)
cause_added n c es new e h number word is =
    causes_with n (check_word c) es new e (no_warning c) number word is ∙ rw (sym (known n (check_word c) es (no_warning c)) ∙ h) refl

-- ---- verdicts

and_true : (b : Bool) → (b && true) ≡ b
and_true true = refl
and_true false = refl

-- code that is accepted
pub code_accepted : (d : Desk) (load : ℕ) (code : List ℕ) (session deepest : ℕ) (ks : Causes) → IsVerdictOf code session (Accept deepest) → JudgesCode d load code session true ks ks
code_accepted d load code session deepest ks holds = record { verdict = Accept deepest; holds = holds; is = λ passes. ap (λ b. (b, ks)) (and_true passes) }

-- code that is refused
pub code_refused : (d : Desk) (load : ℕ) (code : List ℕ) (session place : ℕ) (cause : CheckCause) (before after : Causes) → IsVerdictOf code session (Refuse place cause)
    → after ≡ with_cause before (place_number (loaded_source d load) load place, check_word cause) → JudgesCode d load code session false before after
code_refused d load code session place cause before after holds grew =
    record { verdict = Refuse place cause; holds = holds; is = λ passes. ap (λ b. (b, after)) (no_and passes) ∙ ap (λ (ks : Causes). (false, ks)) grew }

-- a line that is not a load line
pub nothing_judged : (d : Desk) (n : ℕ) (l : Line) (ks : Causes) → ((u : _) (fixed session : ℕ) → l ≢ line.Load u fixed session) → (passes : Bool)
    → JudgesCodes d ((n, line_of l) ∷ []) (passes, ks) (passes && true, ks)
unfolding JudgesCodes
nothing_judged d n (line.Load u fixed session) ks other passes = absurd (other u fixed session refl)
nothing_judged d n _ ks other passes = ap (λ b. (b, ks)) (and_true passes)

one_judged : (d : Desk) (n : ℕ) (u : UnitParts) (fixed session : ℕ) (accepted : Bool) (before after : Causes) → JudgesCode d n u.code session accepted before after → (passes : Bool)
    → JudgesCodes d ((n, grammar.Sent (grammar.Load u fixed session)) ∷ []) (passes, before) (passes && accepted, after)
unfolding JudgesCodes
one_judged d n u fixed session accepted before after j passes = (j.verdict, j.holds, j.is passes)

-- a load line
pub code_judged : (d : Desk) (n : ℕ) (l : DeckLine) (u : UnitParts) (fixed session : ℕ) (accepted : Bool) (before after : Causes) → l ≡ grammar.Sent (grammar.Load u fixed session)
    → JudgesCode d n u.code session accepted before after → (passes : Bool) → JudgesCodes d ((n, l) ∷ []) (passes, before) (passes && accepted, after)
code_judged d n l u fixed session accepted before after is j passes = rw is (one_judged d n u fixed session accepted before after j passes)

judged_before : (d : Desk) (n : ℕ) (l : DeckLine) (ls : List (ℕ × DeckLine)) (a b c : Bool × Causes) → JudgesCodes d ((n, l) ∷ []) a b → JudgesCodes d ls b c → JudgesCodes d ((n, l) ∷ ls) a c
unfolding JudgesCodes
judged_before d n (grammar.Sent (grammar.Load u fixed session)) ls a b c one rest = (one.0, one.1, rw one.2 at rest)
judged_before d n _ ls a b c one rest = rw one at rest

-- the line at a place, and those after it
next_line : (ls : List (ℕ × DeckLine)) (i : ℕ) (l : ℕ × DeckLine) → slice_get ls i ≡ Some l → drop i ls ≡ l ∷ drop (i + 1) ls
next_line [] i l e = absurd (cc e)
next_line (k ∷ ls) zero l e = let same : k ≡ l = cc e in ap (λ (k : ℕ × DeckLine). k ∷ ls) same
next_line (k ∷ ls) (suc i) l e =
    let one : suc i + 1 ≡ suc (i + 1) = omega arith in
    next_line ls i l e ∙ ap (λ j. l ∷ drop j (k ∷ ls)) (sym one)

-- one more line
pub line_judged : (d : Desk) (ls : List (ℕ × DeckLine)) (i n : ℕ) (l : DeckLine) (a b c : Bool × Causes) → slice_get ls i ≡ Some (n, l) → JudgesCodes d ((n, l) ∷ []) a b
    → JudgesCodes d (drop (i + 1) ls) b c → JudgesCodes d (drop i ls) a c
line_judged d ls i n l a b c here one rest = rw (next_line ls i (n, l) here) (judged_before d n l (drop (i + 1) ls) a b c one rest)

-- after the last line
pub lines_judged : (d : Desk) (ls : List (ℕ × DeckLine)) (i : ℕ) (a : Bool × Causes) → length ls ≤ i → JudgesCodes d (drop i ls) a a
unfolding JudgesCodes
lines_judged d ls i a end = rw (drop_of_length-le ls end) refl

-- ---- the text

-- of a draft that is read
pub explained_read : (name t text : List ℕ) (passes : Bool) (d : Desk) → desk_read t ≡ Ok d → ExplainsRead name d passes text → Explains name (desk_read t) passes text
explained_read name t text passes d is h = rw is h

-- of a draft that is refused
pub explained_refused : (name t text : List ℕ) (e : ℕ × DeckCause) → desk_read t ≡ Err e → ExplainsRefused name e text → Explains name (desk_read t) false text
explained_refused name t text e is begins = rw is (refl, begins)
