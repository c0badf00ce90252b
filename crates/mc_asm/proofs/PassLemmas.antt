-- The two passes over a text.
use Rattle.std.proofs.Common.{◌≡◌, ℕ, zero, suc, ◌+◌, ◌<◌, ◌≤◌, Bool, true, false, cond, List, [], ◌∷◌, ◌++◌, length, Option, Some, None, Result, Ok, Err, arith, refl, sym, ap, append_assoc, drop, get_or, add-one, ◌∙◌}
use Rattle.std.specs.Prelude.{bytes_eq, nat_le, MatchResult, IfOk, IfErr}
use Rattle.std.specs.Ordering.{is_eq, nat_cmp}
use Rattle.std.specs.Cmp.Lexicographic.{slice_cmp}
use Rattle.std.proofs.lemmas.Map.Text.{is_eq-slice_cmp}
use Rattle.model_text.specs.model_device.specs.Bytes.{lookup}
use Rattle.model_text.specs.Text.{◌>>=◌, ok_as, err_as, only_if, lines, with_numbers}
use Rattle.model_text.specs.declared.assembler.AsmCause.{AsmCause}
use Rattle.model_text.specs.declared.assembler.AsmCause.TheVariants.{TooLong, LabelTwice}
use Rattle.model_text.specs.Assembly.{Line, Laid, Placed, is_new, with_label, line_read, line_laid, laid_lines, size, bytes_of_item, joined_code, assembled_lines}
use Rattle.mc_text.specs.Reading.{next_line}
use Rattle.mc_asm.specs.Refusals.{AssemblyRefuses}
use Rattle.mc_asm.specs.declared.line.NumberedLine.{NumberedLine}
use Rattle.mc_asm.specs.declared.refusal.AsmRefusal.{AsmRefusal}
use Rattle.mc_asm.specs.declared.refusal.AsmRefusal.TheVariants.{At, NoMemory}
use Rattle.mc_asm.specs.Passes.{label_and_end, places, code_and_end, code_of_lines, numbered_lines}
use Rattle.mc_text.proofs.ReadingLemmas.{lines_at, lines_from}
use Rattle.std.proofs.lemmas.List.{drop_more}

-- the lookup of a label after another was put
pub label_found : (k q : List ℕ) (p : ℕ) (o : Option ℕ) (l : List (List ℕ × ℕ)) → o ≡ lookup l q → cond (is_eq (slice_cmp nat_cmp k q)) (Some p) o ≡ cond (bytes_eq k q) (Some p) (lookup l q)
label_found k q p o l e = rw (is_eq-slice_cmp k q, e) refl

-- ---- a line, and the lines after it

pub places_more : (labels : List (List ℕ × ℕ)) (place n end : ℕ) (l : List ℕ) (ts : List (ℕ × List ℕ)) (label : Option (List ℕ)) → Ok (label, end) ≡ label_and_end labels place l
    → places labels place ((n, l) ∷ ts) ≡ places (with_label labels label place) end ts
unfolding places
places_more labels place n end l ts label h = rw (sym h) refl

pub places_refused : (labels : List (List ℕ × ℕ)) (place n : ℕ) (l : List ℕ) (ts : List (ℕ × List ℕ)) (c : AsmCause) → Err c ≡ label_and_end labels place l → places labels place ((n, l) ∷ ts) ≡ Err (n, c)
unfolding places
places_refused labels place n l ts c h = rw (sym h) refl

pub places_end : (labels : List (List ℕ × ℕ)) (place : ℕ) → places labels place [] ≡ Ok labels
unfolding places
places_end labels place = refl

pub coded_more : (labels : List (List ℕ × ℕ)) (place n end : ℕ) (l bytes : List ℕ) (ts : List (ℕ × List ℕ)) → Ok (bytes, end) ≡ code_and_end labels place l
    → code_of_lines labels place ((n, l) ∷ ts) ≡ ok_as (λ rest. bytes ++ rest) (code_of_lines labels end ts)
unfolding code_of_lines
coded_more labels place n end l bytes ts h = rw (sym h) refl

pub coded_refused : (labels : List (List ℕ × ℕ)) (place n : ℕ) (l : List ℕ) (ts : List (ℕ × List ℕ)) (c : AsmCause) → Err c ≡ code_and_end labels place l → code_of_lines labels place ((n, l) ∷ ts) ≡ Err (n, c)
unfolding code_of_lines
coded_refused labels place n l ts c h = rw (sym h) refl

pub coded_end : (labels : List (List ℕ × ℕ)) (place : ℕ) → code_of_lines labels place [] ≡ Ok []
unfolding code_of_lines
coded_end labels place = refl

-- ---- the two passes are the definition

-- ---- the two passes are the definition

with_placed : (p : Placed) (r : Result Laid (ℕ × AsmCause)) → ok_as (λ laid. laid.labels) r ≡ ok_as (λ laid. laid.labels) (r >>= λ rest. Ok (record rest { placed = p ∷ rest.placed }))
with_placed p (Ok rest) = refl
with_placed p (Err e) = refl

places_laid_by : (labels : List (List ℕ × ℕ)) (place : ℕ) (t : ℕ × List ℕ) (ts : List (ℕ × List ℕ)) (r : Result Line AsmCause) → line_laid labels place t.1 ≡ r
    → ((ls : List (List ℕ × ℕ)) (n : ℕ) → places ls n ts ≡ ok_as (λ laid. laid.labels) (laid_lines ls n ts)) → places labels place (t ∷ ts) ≡ ok_as (λ laid. laid.labels) (laid_lines labels place (t ∷ ts))
unfolding places laid_lines
places_laid_by labels place t ts (Err c) e h = rw e refl
places_laid_by labels place t ts (Ok l) e h =
    let p : Placed = record { number = t.0; place = place; item = l.item } in
    rw e (h (with_label labels l.label place) (place + size l.item) ∙ with_placed p (laid_lines (with_label labels l.label place) (place + size l.item) ts))

nothing_laid : (labels : List (List ℕ × ℕ)) (place : ℕ) → places labels place [] ≡ ok_as (λ laid. laid.labels) (laid_lines labels place [])
unfolding places laid_lines
nothing_laid labels place = refl

-- the first pass yields the labels of the lines that are laid
places_laid : (ts : List (ℕ × List ℕ)) (labels : List (List ℕ × ℕ)) (place : ℕ) → places labels place ts ≡ ok_as (λ laid. laid.labels) (laid_lines labels place ts)
places_laid [] labels place = nothing_laid labels place
places_laid (t ∷ ts) labels place = places_laid_by labels place t ts (line_laid labels place t.1) refl (places_laid ts)

-- a line that was laid was read, and ends within the limit
record LaidLine (text : List ℕ) (place : ℕ) (l : Line) : Type 0 where
  read : line_read text ≡ Ok l
  short : nat_le (place + size l.item) 8192 ≡ true

laid_short : (place : ℕ) (l k : Line) (b : Bool) → nat_le (place + size l.item) 8192 ≡ b → only_if b TooLong l ≡ Ok k → (l ≡ k) × (nat_le (place + size l.item) 8192 ≡ true)
laid_short place l k true e h = (cc h, e)
laid_short place l k false e h = absurd (cc h)

laid_new : (place : ℕ) (l k : Line) (b : Bool) → (only_if b LabelTwice l >>= λ l. only_if (nat_le (place + size l.item) 8192) TooLong l) ≡ Ok k → (l ≡ k) × (nat_le (place + size l.item) 8192 ≡ true)
laid_new place l k true h = laid_short place l k (nat_le (place + size l.item) 8192) refl h
laid_new place l k false h = absurd (cc h)

laid_read : (labels : List (List ℕ × ℕ)) (place : ℕ) (text : List ℕ) (k : Line) (r : Result Line AsmCause) → line_read text ≡ r
    → (r >>= λ l. only_if (is_new labels l.label) LabelTwice l >>= λ l. only_if (nat_le (place + size l.item) 8192) TooLong l) ≡ Ok k → LaidLine text place k
laid_read labels place text k (Err c) e h = absurd (cc h)
laid_read labels place text k (Ok l) e h = grind (arith, laid_new place l k (is_new labels l.label) h)

laid_line : (labels : List (List ℕ × ℕ)) (place : ℕ) (text : List ℕ) (k : Line) → line_laid labels place text ≡ Ok k → LaidLine text place k
unfolding line_laid
laid_line labels place text k e = laid_read labels place text k (line_read text) refl e

-- a cause with the number of its line
abbrev at_line : ℕ → AsmCause → ℕ × AsmCause
at_line n c = (n, c)

-- the code of a line, followed by that of the lines after it
abbrev then_coded : List (List ℕ × ℕ) → List (ℕ × List ℕ) → List ℕ × ℕ → Result (List ℕ) (ℕ × AsmCause)
then_coded L ts p = ok_as (λ rest. p.0 ++ rest) (code_of_lines L p.1 ts)

-- the lines after one that is laid
abbrev then_laid : List (List ℕ × ℕ) → ℕ → ℕ × List ℕ → List (ℕ × List ℕ) → Line → Result Laid (ℕ × AsmCause)
then_laid labels place t ts l = laid_lines (with_label labels l.label place) (place + size l.item) ts >>= λ rest. Ok (record rest { placed = record { number = t.0; place = place; item = l.item } ∷ rest.placed })

joined_one : (L : List (List ℕ × ℕ)) (n place end : ℕ) (ts : List (ℕ × List ℕ)) (ps : List Placed) (r : Result (List ℕ) AsmCause) → code_of_lines L end ts ≡ joined_code L ps
    → (err_as (at_line n) (ok_as (λ bytes. (bytes, end)) r) >>= then_coded L ts) ≡ (err_as (at_line n) r >>= λ bytes. ok_as (λ rest. bytes ++ rest) (joined_code L ps))
joined_one L n place end ts ps (Ok bytes) h = ap (ok_as (λ rest. bytes ++ rest)) h
joined_one L n place end ts ps (Err c) h = refl

coded_line : (L : List (List ℕ × ℕ)) (place : ℕ) (text : List ℕ) (l : Line) → LaidLine text place l → code_and_end L place text ≡ ok_as (λ bytes. (bytes, place + size l.item)) (bytes_of_item L place l.item)
coded_line L place text l h = rw (h.read, h.short) refl

coded_rest : (L : List (List ℕ × ℕ)) (place : ℕ) (t : ℕ × List ℕ) (ts : List (ℕ × List ℕ)) (l : Line) (laid : Laid) (s : Result Laid (ℕ × AsmCause)) → LaidLine t.1 place l
    → (s >>= λ rest. Ok (record rest { placed = record { number = t.0; place = place; item = l.item } ∷ rest.placed })) ≡ Ok laid
    → ((rest : Laid) → s ≡ Ok rest → code_of_lines L (place + size l.item) ts ≡ joined_code L rest.placed)
    → code_of_lines L place (t ∷ ts) ≡ joined_code L laid.placed
unfolding code_of_lines joined_code
coded_rest L place t ts l laid (Err f) k e h = absurd (cc e)
coded_rest L place t ts l laid (Ok rest) k e h =
    let is : record rest { placed = record { number = t.0; place = place; item = l.item } ∷ rest.placed } ≡ laid = cc e in
    rw (coded_line L place t.1 l k) (joined_one L t.0 place (place + size l.item) ts rest.placed (bytes_of_item L place l.item) (h rest refl) ∙ ap (λ (j : Laid). joined_code L j.placed) is)

coded_by : (L labels : List (List ℕ × ℕ)) (place : ℕ) (t : ℕ × List ℕ) (ts : List (ℕ × List ℕ)) (laid : Laid) (r : Result Line AsmCause) → line_laid labels place t.1 ≡ r → laid_lines labels place (t ∷ ts) ≡ Ok laid
    → ((ls : List (List ℕ × ℕ)) (n : ℕ) (rest : Laid) → laid_lines ls n ts ≡ Ok rest → code_of_lines L n ts ≡ joined_code L rest.placed)
    → code_of_lines L place (t ∷ ts) ≡ joined_code L laid.placed
unfolding laid_lines
coded_by L labels place t ts laid (Err c) q e h =
    let f : Err (t.0, c) ≡ Ok laid = sym (ap (λ r. err_as (at_line t.0) r >>= then_laid labels place t ts) q) ∙ e in
    absurd (cc f)
coded_by L labels place t ts laid (Ok l) q e h =
    let f = sym (ap (λ r. err_as (at_line t.0) r >>= then_laid labels place t ts) q) ∙ e in
    coded_rest L place t ts l laid (laid_lines (with_label labels l.label place) (place + size l.item) ts) (laid_line labels place t.1 l q) f (h (with_label labels l.label place) (place + size l.item))

nothing_coded : (L labels : List (List ℕ × ℕ)) (place : ℕ) (laid : Laid) → laid_lines labels place [] ≡ Ok laid → code_of_lines L place [] ≡ joined_code L laid.placed
unfolding laid_lines code_of_lines joined_code
nothing_coded L labels place laid e = ap (λ r. r >>= λ (j : Laid). joined_code L j.placed) e

-- the second pass over lines that are laid
coded_laid : (L : List (List ℕ × ℕ)) (ts : List (ℕ × List ℕ)) (labels : List (List ℕ × ℕ)) (place : ℕ) (laid : Laid) → laid_lines labels place ts ≡ Ok laid → code_of_lines L place ts ≡ joined_code L laid.placed
coded_laid L [] labels place laid e = nothing_coded L labels place laid e
coded_laid L (t ∷ ts) labels place laid e = coded_by L labels place t ts laid (line_laid labels place t.1) refl e (coded_laid L ts)

passes_by : (ts : List (ℕ × List ℕ)) (r : Result Laid (ℕ × AsmCause)) → laid_lines [] 0 ts ≡ r
    → (r >>= λ laid. joined_code laid.labels laid.placed) ≡ (ok_as (λ laid. laid.labels) r >>= λ L. code_of_lines L 0 ts)
passes_by ts (Err f) e = refl
passes_by ts (Ok laid) e = sym (coded_laid laid.labels ts [] 0 laid e)

-- the definition is the first pass and then the second
pub two_passes : (ts : List (ℕ × List ℕ)) → assembled_lines ts ≡ (places [] 0 ts >>= λ L. code_of_lines L 0 ts)
unfolding assembled_lines
two_passes ts = passes_by ts (laid_lines [] 0 ts) refl ∙ ap (λ r. r >>= λ L. code_of_lines L 0 ts) (sym (places_laid ts [] 0))

-- a refusal of the first pass is one of the text
pub refuses_first : (ts : List (ℕ × List ℕ)) (e : AsmRefusal) → AssemblyRefuses (places [] 0 ts) e → AssemblyRefuses (assembled_lines ts) e
refuses_first ts (At n c) h = two_passes ts ∙ ap (λ r. r >>= λ L. code_of_lines L 0 ts) h
refuses_first ts NoMemory h = tt

-- the result of the second pass, with the labels of the first, is that of the text
coded_is : (ts : List (ℕ × List ℕ)) (L : List (List ℕ × ℕ)) → places [] 0 ts ≡ Ok L → assembled_lines ts ≡ code_of_lines L 0 ts
coded_is ts L h = two_passes ts ∙ ap (λ r. r >>= λ L. code_of_lines L 0 ts) h

refuses_second : (ts : List (ℕ × List ℕ)) (L : List (List ℕ × ℕ)) (e : AsmRefusal) → places [] 0 ts ≡ Ok L → AssemblyRefuses (code_of_lines L 0 ts) e → AssemblyRefuses (assembled_lines ts) e
refuses_second ts L (At n c) h k = coded_is ts L h ∙ k
refuses_second ts L NoMemory h k = tt

-- code followed by more code
pub coded_behind : (code more : List ℕ) (r : Result (List ℕ) (ℕ × AsmCause)) → ok_as (λ rest. (code ++ more) ++ rest) r ≡ ok_as (λ rest. code ++ rest) (ok_as (λ rest. more ++ rest) r)
coded_behind code more (Ok rest) = ap Ok (append_assoc code more rest)
coded_behind code more (Err e) = refl

pub code_found : {V : Type 0} (items : V → List ℕ) (ts : List (ℕ × List ℕ)) (L : List (List ℕ × ℕ)) (r : Result V AsmRefusal) → places [] 0 ts ≡ Ok L
    → MatchResult r (λ v. code_of_lines L 0 ts ≡ Ok (items v)) (λ e. AssemblyRefuses (code_of_lines L 0 ts) e) → IfOk r (λ v. assembled_lines ts ≡ Ok (items v))
code_found items ts L (Ok v) h m = coded_is ts L h ∙ m
code_found items ts L (Err e) h m = tt

pub code_refused : {V : Type 0} (items : V → List ℕ) (ts : List (ℕ × List ℕ)) (L : List (List ℕ × ℕ)) (r : Result V AsmRefusal) → places [] 0 ts ≡ Ok L
    → MatchResult r (λ v. code_of_lines L 0 ts ≡ Ok (items v)) (λ e. AssemblyRefuses (code_of_lines L 0 ts) e) → IfErr r (λ e. AssemblyRefuses (assembled_lines ts) e)
code_refused items ts L (Ok v) h m = tt
code_refused items ts L (Err e) h m = refuses_second ts L e h m

-- ---- the lines of a text

-- the numbered lines of a text are the first with its number and those after it
pub numbered_some : (n : ℕ) (t l b : List ℕ) → Some (l, b) ≡ next_line t → with_numbers n (lines t) ≡ (n, l) ∷ with_numbers (n + 1) (lines b)
numbered_some n t l b e = ap (with_numbers n) (lines_at t ∙ ap lines_from (sym e)) ∙ ap (λ k. (n, l) ∷ with_numbers k (lines b)) (sym (add-one n))

pub numbered_none : (n : ℕ) (t : List ℕ) → None ≡ next_line t → with_numbers n (lines t) ≡ []
numbered_none n t e = ap (with_numbers n) (lines_at t ∙ ap lines_from (sym e))

-- the numbered lines after one more line
pub line_more : (ls : List NumberedLine) (l : NumberedLine) → numbered_lines (ls ++ l ∷ []) ≡ numbered_lines ls ++ (l.number, l.text.now) ∷ []
line_more [] l = refl
line_more (k ∷ ls) l = ap (λ x. (k.number, k.text.now) ∷ x) (line_more ls l)

pub lines_more : (ls ks : List (ℕ × List ℕ)) (n m : ℕ) (t l b : List ℕ) → Some (l, b) ≡ next_line t → ks ≡ ls ++ (n, l) ∷ [] → m ≡ n → ks ++ with_numbers (m + 1) (lines b) ≡ ls ++ with_numbers n (lines t)
lines_more ls ks n m t l b e h k = rw (h, k) (append_assoc ls ((n, l) ∷ []) (with_numbers (n + 1) (lines b)) ∙ ap (λ ts. ls ++ ts) (sym (numbered_some n t l b e)))

-- the default line, for an index past the end
abbrev pub no_line : NumberedLine
no_line = record { number = 0; text = record { ref_ptr = (0, 0); now = [] } }

-- the numbered lines from an index on are the line there and those after it
pub line_at : (ls : List NumberedLine) (i : ℕ) → i < length ls → numbered_lines (drop i ls) ≡ ((get_or ls i no_line).number, (get_or ls i no_line).text.now) ∷ numbered_lines (drop (i + 1) ls)
line_at ls i h = ap numbered_lines (drop_more ls i no_line h)

-- no line is left
pub no_line_left : (ls : List NumberedLine) (i : ℕ) → length ls ≤ i → numbered_lines (drop i ls) ≡ []
no_line_left [] zero h = refl
no_line_left [] (suc i) h = refl
no_line_left (l ∷ ls) zero h = absurd (omega (arith, h))
no_line_left (l ∷ ls) (suc i) h = no_line_left ls i (omega (arith, h))
