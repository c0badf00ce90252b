-- The texts of the statements that lead to a broken rule, and how texts of an exploration compose.
use Rattle.std.specs.Prelude.{option_map}
use Rattle.std.proofs.Common.{◌≡◌, ℕ, zero, suc, ◌+◌, ◌<◌, ◌≤◌, Bool, true, false, not, ◌&&◌, List, [], ◌∷◌, ◌++◌, codes, drop, length, map, Option, Some, None, Result, Ok, Err, IsErr, refl, arith, sym, ap, subst, ◌∙◌, slice_get, get_or, append_assoc, length-append}
use Rattle.std.specs.Result.{IsErrAnd}
use Rattle.std.proofs.lemmas.List.{append-nil}
use Rattle.std.proofs.lemmas.Option.{slice_get-get_or, slice_get_past}
use Rattle.mc_streams.specs.declared.refusals.WriteFault.{WriteFault}
use Rattle.law_explore_text.specs.model_device.specs.PowerUp.{Base, OnCard, AtFault}
use Rattle.law_explore_text.specs.model_play.specs.Play.{Armed, Unarmed, ArmedCut, ArmedFail, Live, Running, Unpowered, Muted, armed_stop_in}
use Rattle.law_explore_text.specs.model_play.specs.Family.{is_running}
use Rattle.law_explore_text.specs.law_explore.specs.Rules as rule
use Rattle.law_explore_text.specs.law_explore.specs.States.{warm_in, play_of_deck}
use Rattle.law_explore_text.specs.law_explore.specs.Tries.{Try}
use Rattle.law_explore_text.specs.law_explore.specs.Search.{Statement, begins_cut, lead_statements, move_statements, path_statements, statements_to}
use Rattle.law_explore_text.specs.Report.{broken_text, statements_text}
use Rattle.lab_rules.specs.Meanings.{allowance_values, AlikeLists, IsMove}
use Rattle.lab_rules.specs.declared.reading.Exploration.{Exploration}
use Rattle.lab_rules.specs.declared.rules.Allowance.{Allowance}
use Rattle.lab_rules.specs.declared.rules.Move.{Move}
use Rattle.mc_text.specs.Texts.{Sunk, Writes, Fails, Puts}
use Rattle.mc_text.proofs.TextLemmas.{fails_before, fails_then, puts_as, puts_failed, puts_then, writes_none, writes_then}
use Rattle.lab_search.specs.declared.beginning.Lead.{Lead}
use Rattle.lab_search.specs.declared.endings.Start.{Start}
use Rattle.mc_script.specs.declared.job.JobFault.{JobFault}
use Rattle.mc_script.specs.declared.job.JobFault.TheVariants as fault
use Rattle.lab_search.specs.declared.journey.Manner.{Manner}
use Rattle.lab_search.specs.declared.journey.Manner.TheVariants as manner
use Rattle.lab_search.specs.declared.journey.Step.{Step}
use Rattle.lab_search.specs.Kept.{is_armed, names_in, needs_power, IsExplorationOf}
use Rattle.lab_search.specs.Reports.{broken_line, count_of_lines, cut_line, fill_value, manner_value, move_lines, statement_line}
use Rattle.lab_search.specs.Rounds.{IsTry}
use Rattle.lab_search.specs.Endings.{drop_if, lead_list, lines_of, one_if, power_if, text_if, IsPut, StartIs, StopsBy, WritesFront}
use Rattle.lab_search.proofs.AlikeLemmas.{alike_get, alike_get_second, alike_length, drop_at, drop_past}

-- ---- statements

some_same : {X : Type 0} (x y : X) → Some x ≡ Some y → x ≡ y
some_same x y e = cc e

-- the text of two lists of statements is that of one after the other
pub statements_append : (xs ys : List Statement) → statements_text (xs ++ ys) ≡ statements_text xs ++ statements_text ys
statements_append [] ys = refl
statements_append (x ∷ xs) ys =
    ap (λ t. x.0 ++ codes "\n" ++ t) (statements_append xs ys) ∙ sym (append_assoc (x.0 ++ codes "\n") (statements_text xs) (statements_text ys))

-- the text of a lead
pub lead_text : (a p : Bool) → text_if a (statement_line (codes "apdu 00")) ++ text_if p (statement_line (codes "power")) ≡ statements_text (drop_if a ++ power_if p)
lead_text false false = refl
lead_text false true = refl
lead_text true false = refl
lead_text true true = refl

-- the text of a move
pub move_text : (w : Manner) (m : rule.Move) → move_lines m.text w ≡ statements_text (move_statements (manner_value w) m)
move_text manner.Whole m = sym (append-nil (statement_line m.text))
move_text (manner.Cut made f) m =
    append_assoc (cut_line made (fill_value f)) (statement_line m.text) (statement_line (codes "power"))
    ∙ ap (λ t. cut_line made (fill_value f) ++ (statement_line m.text ++ t)) (sym (append-nil (statement_line (codes "power"))))

move_count : (w : Manner) (m : rule.Move) → length (move_statements (manner_value w) m) ≡ count_of_lines w
move_count manner.Whole m = refl
move_count (manner.Cut made f) m = refl

-- the statements of a path, by its steps
pub path_lines : (ms : List rule.Move) (ss : List Step) (ts : List Try) → AlikeLists (IsTry ms) ss ts → length (path_statements ts) ≡ lines_of ss
path_lines ms [] [] h = refl
path_lines ms [] (t ∷ ts) h = absurd h
path_lines ms (s ∷ ss) [] h = absurd h
path_lines ms (s ∷ ss) (t ∷ ts) h =
    length-append (move_statements t.manner t.move) (path_statements ts)
    ∙ ap (λ n. length (move_statements t.manner t.move) + n) (path_lines ms ss ts h.1)
    ∙ ap (λ w. length (move_statements w t.move) + lines_of ss) h.0.manner
    ∙ ap (λ n. n + lines_of ss) (move_count s.manner t.move)

lead_count : (a p : Bool) → length (drop_if a ++ power_if p) ≡ one_if a + one_if p
lead_count false false = refl
lead_count false true = refl
lead_count true false = refl
lead_count true true = refl

-- the number of all statements
pub all_lines : (lead : Lead) (ms : List rule.Move) (ss : List Step) (ts : List Try) → AlikeLists (IsTry ms) ss ts → length (lead_list lead ++ path_statements ts) ≡ one_if lead.armed + one_if lead.power + lines_of ss
all_lines lead ms ss ts h =
    length-append (lead_list lead) (path_statements ts) ∙ ap (λ n. n + length (path_statements ts)) (lead_count lead.armed lead.power)
    ∙ ap (λ n. one_if lead.armed + one_if lead.power + n) (path_lines ms ss ts h)

-- ---- the lead

-- the lead of the definition, by what the code knows of it
pub lead_is : (v : Live) (b : Base) (a : Armed) (cut : Bool) → lead_statements v b a cut ≡ drop_if (is_armed a && not (is_running v && cut)) ++ power_if (needs_power v b)
lead_is (Running x) b Unarmed true = refl
lead_is (Running x) b Unarmed false = refl
lead_is (Running x) b (ArmedCut k y) true = refl
lead_is (Running x) b (ArmedCut k y) false = refl
lead_is (Running x) b (ArmedFail k) true = refl
lead_is (Running x) b (ArmedFail k) false = refl
lead_is Unpowered (OnCard c) Unarmed cut = refl
lead_is Unpowered (OnCard c) (ArmedCut k y) cut = refl
lead_is Unpowered (OnCard c) (ArmedFail k) cut = refl
lead_is Unpowered (AtFault c p) Unarmed cut = refl
lead_is Unpowered (AtFault c p) (ArmedCut k y) cut = refl
lead_is Unpowered (AtFault c p) (ArmedFail k) cut = refl
lead_is Muted (OnCard c) Unarmed cut = refl
lead_is Muted (OnCard c) (ArmedCut k y) cut = refl
lead_is Muted (OnCard c) (ArmedFail k) cut = refl
lead_is Muted (AtFault c p) Unarmed cut = refl
lead_is Muted (AtFault c p) (ArmedCut k y) cut = refl
lead_is Muted (AtFault c p) (ArmedFail k) cut = refl

-- the statements to a broken rule
pub statements_are : (start : Start) (x : rule.Exploration) (ts : List Try) (cut : Bool) → StartIs start x → cut ≡ begins_cut ts
    → lead_list (record { armed = start.lead.armed && not (start.ran && cut); power = start.lead.power }) ++ path_statements ts ≡ statements_to (play_of_deck x.lines) ts
unfolding statements_to
statements_are start x ts cut h e =
    let z = play_of_deck x.lines in
    ap (λ ss. ss ++ path_statements ts)
    (ap (λ a. drop_if (a && not (start.ran && cut)) ++ power_if start.lead.power) h.lead.armed
    ∙ ap (λ r. drop_if (is_armed (armed_stop_in z) && not (r && cut)) ++ power_if start.lead.power) h.ran
    ∙ ap (λ p. drop_if (is_armed (armed_stop_in z) && not (is_running (warm_in z).live && cut)) ++ power_if p) h.lead.power
    ∙ ap (λ c. drop_if (is_armed (armed_stop_in z) && not (is_running (warm_in z).live && c)) ++ power_if (needs_power (warm_in z).live (warm_in z).base)) e
    ∙ sym (lead_is (warm_in z).live (warm_in z).base (armed_stop_in z) (begins_cut ts)))

-- the report of a broken rule
pub broken_is : (name : List ℕ) (ls : List Statement) (n : ℕ) → n ≡ length ls → broken_line name n ++ statements_text ls ≡ broken_text name ls
broken_is name ls n h = ap (λ k. broken_line name k ++ statements_text ls) h

-- ---- what is put

-- a text that is not wanted is not put
pub not_put : (a : Sunk) (w : Bool) (t : List ℕ) → w ≡ false → Writes a (text_if w t) a
not_put a true t e = absurd (cc e)
not_put a false t e = writes_none a

-- a text that is wanted is put
pub put_wanted : (a b : Sunk) (w : Bool) (t : List ℕ) (r : Result (Unit {0}) WriteFault) → w ≡ true → Puts a t r b → Puts a (text_if w t) r b
put_wanted a b true t r e h = h
put_wanted a b false t r e h = absurd (cc e)

-- the statements of a step are put
pub puts_step : (moves : List Move) (ms : List rule.Move) (s : Step) (t : Try) (v : Move) (a b : Sunk) (r : Result (Unit {0}) WriteFault) → AlikeLists IsMove moves ms → IsTry ms s t
    → slice_get moves s.chosen ≡ Some v → Puts a (move_lines v.text.now s.manner) r b → Puts a (statements_text (move_statements t.manner t.move)) r b
puts_step moves ms s t v a b r h is found p =
    let k = alike_get IsMove moves ms s.chosen t.move h is.move in
    let same : k.0 ≡ v = some_same k.0 v (sym k.1 ∙ found) in
    let text : v.text.now ≡ t.move.text = sym (ap (λ (x : Move). x.text.now) same) ∙ k.2.text in
    subst (λ (w : List ℕ). Puts a w r b)
    (ap (λ x. move_lines x s.manner) text ∙ move_text s.manner t.move ∙ ap (λ w. statements_text (move_statements w t.move)) (sym is.manner)) p

-- a step has a move
pub has_move : (moves : List Move) (ms : List rule.Move) (s : Step) (t : Try) → AlikeLists IsMove moves ms → IsTry ms s t → slice_get moves s.chosen ≡ None → ⊥
has_move moves ms s t h is none =
    let k = alike_get IsMove moves ms s.chosen t.move h is.move in
    absurd (cc (sym k.1 ∙ none))

-- ---- steps

-- the try of a step of a path
pub step_at : (ms : List rule.Move) (ss : List Step) (ts : List Try) (i : ℕ) (d : Step) → AlikeLists (IsTry ms) ss ts → i < length ss → (t : Try) × (slice_get ts i ≡ Some t) × IsTry ms (get_or ss i d) t
step_at ms ss ts i d h w = alike_get_second (IsTry ms) ss ts i (get_or ss i d) h (slice_get-get_or ss i d w)

-- the statements of a path from a step on
pub path_split : (ts : List Try) (i : ℕ) (t : Try) → slice_get ts i ≡ Some t
    → statements_text (path_statements (drop i ts)) ≡ statements_text (move_statements t.manner t.move) ++ statements_text (path_statements (drop (i + 1) ts))
path_split ts i t h =
    ap (λ (us : List Try). statements_text (path_statements us)) (drop_at ts i t h) ∙ statements_append (move_statements t.manner t.move) (path_statements (drop (i + 1) ts))

-- a step of a path fails
pub step_fails : (a b : Sunk) (ts : List Try) (i : ℕ) (t : Try) (r : Result (Unit {0}) WriteFault) → slice_get ts i ≡ Some t → IsErr r → Fails a (statements_text (move_statements t.manner t.move)) b
    → Puts a (statements_text (path_statements (drop i ts))) r b
step_fails a b ts i t r h e f =
    puts_as a b r (sym (path_split ts i t h)) (puts_failed r e (fails_before (statements_text (path_statements (drop (i + 1) ts))) f))

-- a step of a path is put, and then the later ones
pub step_then : (a b c : Sunk) (ts : List Try) (i : ℕ) (t : Try) (r : Result (Unit {0}) WriteFault) → slice_get ts i ≡ Some t → Writes a (statements_text (move_statements t.manner t.move)) b
    → Puts b (statements_text (path_statements (drop (i + 1) ts))) r c → Puts a (statements_text (path_statements (drop i ts))) r c
step_then a b c ts i t r h w p =
    puts_as a c r (sym (path_split ts i t h)) (puts_then c (statements_text (path_statements (drop (i + 1) ts))) r w p)

-- there is no step left
pub steps_done : (a : Sunk) (ms : List rule.Move) (ss : List Step) (ts : List Try) (i : ℕ) → AlikeLists (IsTry ms) ss ts → length ss ≤ i → Writes a (statements_text (path_statements (drop i ts))) a
steps_done a ms ss ts i h w =
    let count = alike_length (IsTry ms) ss ts h in
    subst (λ (us : List Try). Writes a (statements_text (path_statements us)) a) (sym (drop_past ts i (omega (arith, count, w)))) (writes_none a)

-- ---- names

names_of_values : (held : List Allowance) (i : ℕ) → slice_get (map (λ a. a.0) (allowance_values held)) i ≡ option_map (λ (y : Allowance). y.name.now) (slice_get held i)
names_of_values [] i = refl
names_of_values (a ∷ held) zero = refl
names_of_values (a ∷ held) (suc i) = names_of_values held i

names_get : (e : Exploration) (x : rule.Exploration) (i : ℕ) → IsExplorationOf e x → slice_get (names_in x.rules) i ≡ option_map (λ (y : Allowance). y.name.now) (slice_get e.rules.allowances.items i)
names_get e x i h =
    ap (λ (held : List (List ℕ × ℕ)). slice_get (map (λ a. a.0) held) i) (sym h.rules.allowances) ∙ names_of_values e.rules.allowances.items i

-- the name of an allowance
pub name_at : (e : Exploration) (x : rule.Exploration) (i : ℕ) (name : List ℕ) (a : Allowance) → IsExplorationOf e x → slice_get (names_in x.rules) i ≡ Some name
    → slice_get e.rules.allowances.items i ≡ Some a → a.name.now ≡ name
name_at e x i name a h found at =
    let names = names_get e x i h in
    some_same a.name.now name (sym (ap (λ (o : Option Allowance). option_map (λ (y : Allowance). y.name.now) o) at) ∙ sym names ∙ found)

-- an exploration has an allowance for each of its names
pub has_name : (e : Exploration) (x : rule.Exploration) (i : ℕ) (name : List ℕ) → IsExplorationOf e x → slice_get (names_in x.rules) i ≡ Some name → length e.rules.allowances.items ≤ i → ⊥
has_name e x i name h found past =
    absurd (cc (sym found ∙ names_get e x i h ∙ ap (λ (o : Option Allowance). option_map (λ (y : Allowance). y.name.now) o) (slice_get_past e.rules.allowances.items i past)))

-- ---- faults

-- a text that failed, with the fault that a `?` returns
pub put_failed : {X : Type 0} (a b : Sunk) (t : List ℕ) (r : Result X JobFault) → IsErr r → IsErrAnd r (λ e. e ≡ fault.WriteFault) → Fails a t b → IsPut a t r b
put_failed a b t (Ok x) i e f = absurd (cc i)
put_failed a b t (Err g) i e f = subst (λ (y : JobFault). StopsBy y a t b) (sym e) f

-- a front of a text, with the fault that a `?` returns
pub put_stopped : {X : Type 0} (a b : Sunk) (t : List ℕ) (r : Result X JobFault) → IsErr r → IsErrAnd r (λ e. e ≡ fault.NoMemory) → WritesFront a t b → IsPut a t r b
put_stopped a b t (Ok x) i e f = absurd (cc i)
put_stopped a b t (Err g) i e f = subst (λ (y : JobFault). StopsBy y a t b) (sym e) f

-- the line of a broken rule failed
pub line_fails : (a b : Sunk) (name : List ℕ) (ls : List Statement) (n : ℕ) → n ≡ length ls → Fails a (broken_line name n) b → Fails a (broken_text name ls) b
line_fails a b name ls n e f = subst (λ (t : List ℕ). Fails a t b) (broken_is name ls n e) (fails_before (statements_text ls) f)

-- its statements failed
pub path_fails : (a b c : Sunk) (name : List ℕ) (ls : List Statement) (n : ℕ) → n ≡ length ls → Writes a (broken_line name n) b → Fails b (statements_text ls) c → Fails a (broken_text name ls) c
path_fails a b c name ls n e w f = subst (λ (t : List ℕ). Fails a t c) (broken_is name ls n e) (fails_then w f)

-- all of it is put
pub path_puts : (a b c : Sunk) (name : List ℕ) (ls : List Statement) (n : ℕ) → n ≡ length ls → Writes a (broken_line name n) b → Writes b (statements_text ls) c → Writes a (broken_text name ls) c
path_puts a b c name ls n e w p = subst (λ (t : List ℕ). Writes a t c) (broken_is name ls n e) (writes_then w p)

-- ---- a broken rule

-- the statements that are written are those of the definition
pub written_are : (start : Start) (x : rule.Exploration) (ts : List Try) (cut : Bool) (lead : Lead) → StartIs start x → cut ≡ begins_cut ts
    → lead ≡ record { armed = start.lead.armed && not (start.ran && cut); power = start.lead.power } → lead_list lead ++ path_statements ts ≡ statements_to (play_of_deck x.lines) ts
written_are start x ts cut lead s e l = ap (λ (y : Lead). lead_list y ++ path_statements ts) l ∙ statements_are start x ts cut s e

-- their number is that of the definition
pub count_is : (start : Start) (x : rule.Exploration) (ss : List Step) (ts : List Try) (cut : Bool) (lead : Lead) (n : ℕ) → StartIs start x → AlikeLists (IsTry x.rules.moves) ss ts → cut ≡ begins_cut ts
    → lead ≡ record { armed = start.lead.armed && not (start.ran && cut); power = start.lead.power } → n ≡ one_if lead.armed + one_if lead.power + lines_of ss
    → n ≡ length (statements_to (play_of_deck x.lines) ts)
count_is start x ss ts cut lead n s h e l c = c ∙ sym (all_lines lead x.rules.moves ss ts h) ∙ ap length (written_are start x ts cut lead s e l)

-- the text that failed, by what was written
pub fails_as : (a b : Sunk) {s t : List ℕ} → s ≡ t → Fails a s b → Fails a t b
fails_as a b e f = subst (λ (x : List ℕ). Fails a x b) e f

-- a text that was written is an equal one
pub writes_as : (a b : Sunk) {s t : List ℕ} → s ≡ t → Writes a s b → Writes a t b
writes_as a b e f = subst (λ (x : List ℕ). Writes a x b) e f

-- moves of a list that is another one
pub moves_as : {ms ns : List Move} (rs : List rule.Move) → ms ≡ ns → AlikeLists IsMove ns rs → AlikeLists IsMove ms rs
moves_as rs e h = subst (λ (xs : List Move). AlikeLists IsMove xs rs) (sym e) h
