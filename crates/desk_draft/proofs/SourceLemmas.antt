-- The code of a section and that of its lines, one after the other, each in its place.
use Rattle.std.proofs.Common.{◌≡◌, ℕ, zero, suc, ◌+◌, ◌≤◌, Bool, true, false, cond, List, [], ◌∷◌, ◌++◌, length, take, drop, min, Result, Ok, Err, refl, sym, ap, subst, ◌∙◌, append_assoc, arith}
use native.Mathlib.Numerals.{unary_clauses}
use Rattle.std.specs.Prelude.{filter, flat_map, map, not, nat_le, ◌==◌}
use Rattle.std.proofs.Math.Seq.{take-append_seam, drop-append_seam}
use Rattle.std.proofs.lemmas.List.{length-append, take_min}
use Rattle.mc_text.specs.model_device.specs.Limits.{most_code}
use Rattle.mc_text.specs.model_text.specs.declared.assembler.AsmCause.{AsmCause}
use Rattle.mc_text.specs.model_text.specs.declared.assembler.AsmCause.TheVariants.{LabelTwice, TooLong}
use Rattle.mc_text.specs.model_text.specs.Text.{◌>>=◌, ok_as, err_as, only_if, fields, is_empty, trim}
use Rattle.mc_text.specs.model_text.specs.Assembly.{Laid, Line, Placed, assembled_lines, bytes_of_item, is_new, joined_code, laid_lines, line_laid, line_read, size, with_label}
use Rattle.mc_deck.specs.model_play.specs.DeckGrammar.{is_data, section_program}
use Rattle.desk_draft.specs.Parts.{without_comment}
use Rattle.desk_draft.specs.Drafts.{Section, SourceLine}
use Rattle.desk_draft.specs.Listings.{CodeLine, Source, code_line, laid_code, lines_in_place, program_lines, program_of, source_of, source_with, value_or_nothing}
use Rattle.desk_draft.specs.Sources.{Span, line_size, one_span, place_after, spans_from, spelled}
use Rattle.desk_draft.proofs.SizeLemmas.{line_sized}

-- ---- bytes from a place on

drop_min : (n : ℕ) (l : List ℕ) → drop (min n (length l)) l ≡ drop n l
drop_min zero l = simp unary_clauses refl
drop_min (suc n) [] = simp unary_clauses refl
drop_min (suc n) (x ∷ l) = simp unary_clauses (drop_min n l)

pub bytes_there : (bytes : List ℕ) (place count : ℕ) → take (min count (length (drop (min place (length bytes)) bytes))) (drop (min place (length bytes)) bytes) ≡ take count (drop place bytes)
bytes_there bytes place count =
    subst (λ (l : List ℕ). take (min count (length l)) l ≡ take count (drop place bytes)) (sym (drop_min place bytes)) (take_min count (drop place bytes))

-- ---- the lines that go to the assembler

-- a line as the assembler reads it
abbrev pub numbered : SourceLine → ℕ × List ℕ
numbered l = (l.number, l.deck)

program_by : (b : Bool) (l : SourceLine) (ls : List SourceLine) → is_data (fields l.deck) ≡ b → section_program (map numbered ls) ≡ map numbered (program_lines ls) → section_program (map numbered (l ∷ ls)) ≡ map numbered (program_lines (l ∷ ls))
program_by true l ls e h = rw e h
program_by false l ls e h = rw e (ap (λ x. numbered l ∷ x) h)

program_is : (ls : List SourceLine) → section_program (map numbered ls) ≡ map numbered (program_lines ls)
program_is [] = refl
program_is (l ∷ ls) = program_by (is_data (fields l.deck)) l ls refl (program_is ls)

-- ---- the lines in their places

-- a line at a place, its bytes, and the code after it
record Step (labels : List (List ℕ × ℕ)) (place : ℕ) (l : SourceLine) (p : Placed) (code : List ℕ) (More : ℕ → List ℕ → Type 0) : Type 0 where
  line : Line
  read : line_read l.deck ≡ Ok line
  placed : p ≡ record { number = l.number; place = place; item = line.item }
  bytes : List ℕ
  spells : bytes_of_item labels place line.item ≡ Ok bytes
  sized : length bytes ≡ size line.item
  short : place + size line.item ≤ most_code
  rest : List ℕ
  parts : code ≡ bytes ++ rest
  more : More (place + size line.item) rest

-- lines are in their places from a place on, and their bytes are this code
abbrev Walk : List (List ℕ × ℕ) → ℕ → List SourceLine → List Placed → List ℕ → Type 0
Walk labels place [] [] code = code ≡ []
Walk labels place [] (p ∷ ps) code = ⊥
Walk labels place (l ∷ ls) [] code = ⊥
Walk labels place (l ∷ ls) (p ∷ ps) code = Step labels place l p code (λ n rest. Walk labels n ls ps rest)

-- a line that was laid was read, and ends within the limit
record LaidLine (text : List ℕ) (place : ℕ) (l : Line) : Type 0 where
  read : line_read text ≡ Ok l
  short : place + size l.item ≤ most_code

nat_le_is : (a b : ℕ) → nat_le a b ≡ true → a ≤ b
nat_le_is a b h = grind (arith, h)

laid_if : (b : Bool) (place : ℕ) (l m : Line) (text : List ℕ) → line_read text ≡ Ok l → nat_le (place + size l.item) most_code ≡ b → only_if b TooLong l ≡ Ok m → LaidLine text place m
laid_if true place l m text r e h =
    let i : l ≡ m = cc h in
    subst (λ (x : Line). LaidLine text place x) i (record { read = r; short = nat_le_is (place + size l.item) most_code e })
laid_if false place l m text r e h = absurd (cc h)

laid_new : (b : Bool) (place : ℕ) (l m : Line) (text : List ℕ) → line_read text ≡ Ok l → (only_if b LabelTwice l >>= λ l. only_if (nat_le (place + size l.item) most_code) TooLong l) ≡ Ok m → LaidLine text place m
laid_new true place l m text r h = laid_if (nat_le (place + size l.item) most_code) place l m text r refl h
laid_new false place l m text r h = absurd (cc h)

laid_read : (labels : List (List ℕ × ℕ)) (place : ℕ) (m : Line) (text : List ℕ) (r : Result Line AsmCause) → line_read text ≡ r
    → (r >>= λ l. only_if (is_new labels l.label) LabelTwice l >>= λ l. only_if (nat_le (place + size l.item) most_code) TooLong l) ≡ Ok m → LaidLine text place m
laid_read labels place m text (Err e) i h = absurd (cc h)
laid_read labels place m text (Ok l) i h = laid_new (is_new labels l.label) place l m text i h

laid_line : (labels : List (List ℕ × ℕ)) (place : ℕ) (m : Line) (text : List ℕ) → line_laid labels place text ≡ Ok m → LaidLine text place m
unfolding line_laid
laid_line labels place m text h = laid_read labels place m text (line_read text) refl h

-- the first line and those after it
record LaidFirst (labels : List (List ℕ × ℕ)) (place : ℕ) (t : ℕ × List ℕ) (ts : List (ℕ × List ℕ)) (laid : Laid) : Type 0 where
  line : Line
  here : line_laid labels place t.1 ≡ Ok line
  rest : Laid
  later : laid_lines (with_label labels line.label place) (place + size line.item) ts ≡ Ok rest
  is : record rest { placed = record { number = t.0; place = place; item = line.item } ∷ rest.placed } ≡ laid

first_rest : (labels : List (List ℕ × ℕ)) (place : ℕ) (t : ℕ × List ℕ) (ts : List (ℕ × List ℕ)) (laid : Laid) (l : Line) (r : Result Laid (ℕ × AsmCause)) → line_laid labels place t.1 ≡ Ok l
    → laid_lines (with_label labels l.label place) (place + size l.item) ts ≡ r → (r >>= λ rest. Ok (record rest { placed = record { number = t.0; place = place; item = l.item } ∷ rest.placed })) ≡ Ok laid → LaidFirst labels place t ts laid
first_rest labels place t ts laid l (Err e) i j h = absurd (cc h)
first_rest labels place t ts laid l (Ok rest) i j h = record { line = l; here = i; rest = rest; later = j; is = cc h }

first_by : (labels : List (List ℕ × ℕ)) (place : ℕ) (t : ℕ × List ℕ) (ts : List (ℕ × List ℕ)) (laid : Laid) (r : Result Line AsmCause) → line_laid labels place t.1 ≡ r
    → (err_as {F = ℕ × AsmCause} (λ c. (t.0, c)) r >>= λ l. laid_lines (with_label labels l.label place) (place + size l.item) ts >>= λ rest. Ok (record rest { placed = record { number = t.0; place = place; item = l.item } ∷ rest.placed })) ≡ Ok laid
    → LaidFirst labels place t ts laid
first_by labels place t ts laid (Err e) i h = absurd (cc h)
first_by labels place t ts laid (Ok l) i h = first_rest labels place t ts laid l (laid_lines (with_label labels l.label place) (place + size l.item) ts) i refl h

laid_first : (labels : List (List ℕ × ℕ)) (place : ℕ) (t : ℕ × List ℕ) (ts : List (ℕ × List ℕ)) (laid : Laid) → laid_lines labels place (t ∷ ts) ≡ Ok laid → LaidFirst labels place t ts laid
unfolding laid_lines
laid_first labels place t ts laid h = first_by labels place t ts laid (line_laid labels place t.1) refl h

laid_none : (labels : List (List ℕ × ℕ)) (place : ℕ) (laid : Laid) → laid_lines labels place [] ≡ Ok laid → [] ≡ laid.placed
unfolding laid_lines
laid_none labels place laid h =
    let none : Laid = record { labels = labels; placed = [] } in
    let e : none ≡ laid = cc h in
    ap (λ (x : Laid). x.placed) e

-- the bytes of the first line, and those after it
record JoinedFirst (labels : List (List ℕ × ℕ)) (p : Placed) (ps : List Placed) (code : List ℕ) : Type 0 where
  bytes : List ℕ
  spells : bytes_of_item labels p.place p.item ≡ Ok bytes
  rest : List ℕ
  later : joined_code labels ps ≡ Ok rest
  parts : code ≡ bytes ++ rest

joined_rest : (labels : List (List ℕ × ℕ)) (p : Placed) (ps : List Placed) (code bytes : List ℕ) (r : Result (List ℕ) (ℕ × AsmCause)) → bytes_of_item labels p.place p.item ≡ Ok bytes → joined_code labels ps ≡ r → ok_as (λ rest. bytes ++ rest) r ≡ Ok code
    → JoinedFirst labels p ps code
joined_rest labels p ps code bytes (Err e) i j h = absurd (cc h)
joined_rest labels p ps code bytes (Ok rest) i j h = let k : bytes ++ rest ≡ code = cc h in record { bytes = bytes; spells = i; rest = rest; later = j; parts = sym k }

joined_by : (labels : List (List ℕ × ℕ)) (p : Placed) (ps : List Placed) (code : List ℕ) (r : Result (List ℕ) AsmCause) → bytes_of_item labels p.place p.item ≡ r
    → (err_as {F = ℕ × AsmCause} (λ c. (p.number, c)) r >>= λ bytes. ok_as (λ rest. bytes ++ rest) (joined_code labels ps)) ≡ Ok code → JoinedFirst labels p ps code
joined_by labels p ps code (Err e) i h = absurd (cc h)
joined_by labels p ps code (Ok bytes) i h = joined_rest labels p ps code bytes (joined_code labels ps) i refl h

joined_first : (labels : List (List ℕ × ℕ)) (p : Placed) (ps : List Placed) (code : List ℕ) → joined_code labels (p ∷ ps) ≡ Ok code → JoinedFirst labels p ps code
unfolding joined_code
joined_first labels p ps code h = joined_by labels p ps code (bytes_of_item labels p.place p.item) refl h

joined_none : (labels : List (List ℕ × ℕ)) (code : List ℕ) → joined_code labels [] ≡ Ok code → code ≡ []
unfolding joined_code
joined_none labels code h = let e : [] ≡ code = cc h in sym e

-- lines that were laid, and joined, are in their places
walk_of : (labels before : List (List ℕ × ℕ)) (place : ℕ) (ls : List SourceLine) (laid : Laid) (code : List ℕ) → laid_lines before place (map numbered ls) ≡ Ok laid → joined_code labels laid.placed ≡ Ok code → Walk labels place ls laid.placed code
walk_of labels before place [] laid code h j =
    let none = laid_none before place laid h in
    subst (λ (ps : List Placed). Walk labels place [] ps code) none (joined_none labels code (subst (λ (ps : List Placed). joined_code labels ps ≡ Ok code) (sym none) j))
walk_of labels before place (l ∷ ls) laid code h j =
    let f = laid_first before place (numbered l) (map numbered ls) laid h in
    let p : Placed = record { number = l.number; place = place; item = f.line.item } in
    let placed : p ∷ f.rest.placed ≡ laid.placed = ap (λ (x : Laid). x.placed) f.is in
    let g = joined_first labels p f.rest.placed code (subst (λ (ps : List Placed). joined_code labels ps ≡ Ok code) (sym placed) j) in
    let read = laid_line before place f.line l.deck f.here in
    subst (λ (ps : List Placed). Walk labels place (l ∷ ls) ps code) placed (record {
      line = f.line;
      read = read.read;
      placed = refl;
      bytes = g.bytes;
      spells = g.spells;
      sized = line_sized labels place l.deck f.line g.bytes read.read g.spells;
      short = read.short;
      rest = g.rest;
      parts = g.parts;
      more = walk_of labels (with_label before f.line.label place) (place + size f.line.item) ls f.rest g.rest f.later g.later;
    })

-- ---- the code of lines, one after the other

-- the code of lines
abbrev pub code_of : List CodeLine → List ℕ
code_of ls = flat_map (λ l. l.bytes) ls

-- the lines that have code
abbrev pub with_code : List CodeLine → List CodeLine
with_code ls = filter (λ c. not (is_empty c.bytes)) ls

-- a line without code adds nothing
one_by : (l : CodeLine) (bs : List ℕ) (ls : List CodeLine) (rest : List ℕ) → l.bytes ≡ bs → code_of (with_code ls) ≡ rest → code_of (with_code (l ∷ ls)) ≡ bs ++ rest
one_by l [] ls rest e h = rw e h
one_by l (b ∷ bs) ls rest e h = rw e (ap (λ x. (b ∷ bs) ++ x) h)

-- the bytes of a line in its place
line_bytes : (labels : List (List ℕ × ℕ)) (place : ℕ) (l : SourceLine) (p : Placed) (line : Line) (bytes : List ℕ) → p ≡ record { number = l.number; place = place; item = line.item } → bytes_of_item labels place line.item ≡ Ok bytes
    → code_line labels l p ≡ record { number = l.number; place = place; bytes = bytes; text = trim (without_comment l.draft) }
line_bytes labels place l p line bytes e h =
    ap (code_line labels l) e ∙ ap (λ r. record { number = l.number; place = place; bytes = value_or_nothing r; text = trim (without_comment l.draft) }) h

walked_code : (labels : List (List ℕ × ℕ)) (place : ℕ) (ls : List SourceLine) (ps : List Placed) (code : List ℕ) → Walk labels place ls ps code → code_of (with_code (lines_in_place labels ls ps)) ≡ code
walked_code labels place [] [] code h = sym h
walked_code labels place [] (p ∷ ps) code h = absurd h
walked_code labels place (l ∷ ls) [] code h = absurd h
walked_code labels place (l ∷ ls) (p ∷ ps) code h =
    let bytes = ap (λ (c : CodeLine). c.bytes) (line_bytes labels place l p h.line h.bytes h.placed h.spells) in
    one_by (code_line labels l p) h.bytes (lines_in_place labels ls ps) h.rest bytes (walked_code labels (place + size h.line.item) ls ps h.rest h.more) ∙ sym h.parts

-- ---- the places of the lines

-- where the bytes of lines are that go to the assembler
abbrev walk_spans : ℕ → List SourceLine → List Span
walk_spans place [] = []
walk_spans place (l ∷ ls) = one_span l.number place l.draft (line_size l.deck) ++ walk_spans (place_after place (line_size l.deck)) ls

-- the place of a line of data is that of the next one, as long as it is a place of code
spans_by : (b : Bool) (place : ℕ) (l : SourceLine) (ls : List SourceLine) → is_data (fields l.deck) ≡ b → place ≤ 65535 → ((n : ℕ) → n ≤ 65535 → spans_from n ls ≡ walk_spans n (program_lines ls)) → spans_from place (l ∷ ls) ≡ walk_spans place (program_lines (l ∷ ls))
spans_by true place l ls e h f =
    let same : place_after place 0 ≡ place = grind (arith, h) in
    rw e (ap (λ n. spans_from n ls) same ∙ f place h)
spans_by false place l ls e h f =
    let short : place_after place (line_size l.deck) ≤ 65535 = grind arith in
    rw e (ap (λ x. one_span l.number place l.draft (line_size l.deck) ++ x) (f (place_after place (line_size l.deck)) short))

spans_are : (place : ℕ) (ls : List SourceLine) → place ≤ 65535 → spans_from place ls ≡ walk_spans place (program_lines ls)
spans_are place [] h = refl
spans_are place (l ∷ ls) h = spans_by (is_data (fields l.deck)) place l ls refl h (λ n k. spans_are n ls k)

-- a line with its bytes, or without bytes, before others
spelled_by : (code : List ℕ) (place : ℕ) (l : SourceLine) (bytes rest : List ℕ) (c : CodeLine) (cs : List CodeLine) (ss : List Span) → c ≡ record { number = l.number; place = place; bytes = bytes; text = trim (without_comment l.draft) }
    → take (length bytes) (drop place code) ≡ bytes → map (spelled code) ss ≡ with_code cs → map (spelled code) (one_span l.number place l.draft (length bytes) ++ ss) ≡ with_code (c ∷ cs)
spelled_by code place l [] rest c cs ss e t h = rw e h
spelled_by code place l (b ∷ bs) rest c cs ss e t h =
    let some : (length (b ∷ bs) == 0) ≡ false = grind arith in
    let here : Span = record { number = l.number; place = place; size = length (b ∷ bs); text = trim (without_comment l.draft) } in
    rw e (ap (λ x. map (spelled code) (cond x [] (here ∷ []) ++ ss)) some
    ∙ ap (λ x. record { number = l.number; place = place; bytes = x; text = trim (without_comment l.draft) } ∷ map (spelled code) ss) t
    ∙ ap (λ xs. record { number = l.number; place = place; bytes = b ∷ bs; text = trim (without_comment l.draft) } ∷ xs) h)

-- the bytes of a line are where its place says
bytes_here : (front bytes rest code : List ℕ) (place : ℕ) → length front ≡ place → code ≡ front ++ (bytes ++ rest) → take (length bytes) (drop place code) ≡ bytes
bytes_here front bytes rest code place n e =
    ap (λ c. take (length bytes) (drop place c)) e
    ∙ ap (λ k. take (length bytes) (drop k (front ++ (bytes ++ rest)))) (sym n)
    ∙ ap (take (length bytes)) (drop-append_seam front (bytes ++ rest))
    ∙ take-append_seam bytes rest

line_size_is : (t : List ℕ) (l : Line) → line_read t ≡ Ok l → line_size t ≡ size l.item
line_size_is t l h = rw h refl

walked_spans : (labels : List (List ℕ × ℕ)) (place : ℕ) (ls : List SourceLine) (ps : List Placed) (front rest code : List ℕ) → length front ≡ place → code ≡ front ++ rest → Walk labels place ls ps rest
    → map (spelled code) (walk_spans place ls) ≡ with_code (lines_in_place labels ls ps)
walked_spans labels place [] [] front rest code n e h = refl
walked_spans labels place [] (p ∷ ps) front rest code n e h = absurd h
walked_spans labels place (l ∷ ls) [] front rest code n e h = absurd h
walked_spans labels place (l ∷ ls) (p ∷ ps) front rest code n e h =
    let bytes = h.bytes in
    let whole : code ≡ front ++ (bytes ++ h.rest) = e ∙ ap (λ x. front ++ x) h.parts in
    let read : line_size l.deck ≡ size h.line.item = line_size_is l.deck h.line h.read in
    let many : line_size l.deck ≡ length bytes = read ∙ sym h.sized in
    let after : place_after place (line_size l.deck) ≡ place + size h.line.item = grind (arith, read, h.short) in
    let count : length (front ++ bytes) ≡ place + size h.line.item = length-append front bytes ∙ omega (arith, n, h.sized) in
    let more = walked_spans labels (place + size h.line.item) ls ps (front ++ bytes) h.rest code count (whole ∙ sym (append_assoc front bytes h.rest)) h.more in
    ap (λ k. map (spelled code) (one_span l.number place l.draft (line_size l.deck) ++ walk_spans k ls)) after
    ∙ ap (λ k. map (spelled code) (one_span l.number place l.draft k ++ walk_spans (place + size h.line.item) ls)) many
    ∙ spelled_by code place l bytes h.rest (code_line labels l p) (lines_in_place labels ls ps) (walk_spans (place + size h.line.item) ls) (line_bytes labels place l p h.line bytes h.placed h.spells) (bytes_here front bytes h.rest code place n whole) more

-- ---- a section with its code

-- the assembler's lines in their places, and the code
record Assembled (s : Section) (code : List ℕ) : Type 0 where
  laid : Laid
  is : laid_code (program_of s) ≡ Ok (laid, code)
  walk : Walk laid.labels 0 (program_lines s.lines) laid.placed code

joined_of : (s : Section) (laid : Laid) (code : List ℕ) (r : Result (List ℕ) (ℕ × AsmCause)) → joined_code laid.labels laid.placed ≡ r → laid_lines [] 0 (program_of s) ≡ Ok laid → r ≡ Ok code → laid_code (program_of s) ≡ ok_as (λ c. (laid, c)) r → Assembled s code
joined_of s laid code r j l h i = record {
  laid = laid;
  is = i ∙ ap (ok_as (λ c. (laid, c))) h;
  walk = walk_of laid.labels [] 0 (program_lines s.lines) laid code (ap (laid_lines [] 0) (sym (program_is s.lines)) ∙ l) (j ∙ h);
}

laid_of : (s : Section) (code : List ℕ) (r : Result Laid (ℕ × AsmCause)) → laid_lines [] 0 (program_of s) ≡ r → (r >>= λ laid. joined_code laid.labels laid.placed) ≡ Ok code
    → laid_code (program_of s) ≡ (r >>= λ laid. ok_as (λ c. (laid, c)) (joined_code laid.labels laid.placed)) → Assembled s code
laid_of s code (Err e) l h i = absurd (cc h)
laid_of s code (Ok laid) l h i = joined_of s laid code (joined_code laid.labels laid.placed) refl l h i

assembled : (s : Section) (code : List ℕ) → assembled_lines (program_of s) ≡ Ok code → Assembled s code
unfolding assembled_lines laid_code
assembled s code h = laid_of s code (laid_lines [] 0 (program_of s)) refl h refl

source_is : (s : Section) (r : Result (Laid × List ℕ) (ℕ × AsmCause)) → laid_code (program_of s) ≡ r → source_of s ≡ source_with s r
unfolding source_of
source_is s r h = ap (source_with s) h

-- the code of a section is that of its lines
pub code_is_of_lines : (s : Section) (code : List ℕ) → assembled_lines (program_of s) ≡ Ok code → code_of (source_of s).lines ≡ code
code_is_of_lines s code h =
    let a = assembled s code h in
    ap (λ (x : Source). code_of x.lines) (source_is s (Ok (a.laid, code)) a.is) ∙ walked_code a.laid.labels 0 (program_lines s.lines) a.laid.placed code a.walk

-- a section that is assembled
pub source_coded : (s : Section) (code : List ℕ) → assembled_lines (program_of s) ≡ Ok code → source_of s ≡ record { name = s.name; sizes = s.sizes; code = code; lines = map (spelled code) (spans_from 0 s.lines) }
source_coded s code h =
    let a = assembled s code h in
    let low : 0 ≤ 65535 = omega arith in
    let lines = ap (map (spelled code)) (spans_are 0 s.lines low) ∙ walked_spans a.laid.labels 0 (program_lines s.lines) a.laid.placed [] code code refl refl a.walk in
    source_is s (Ok (a.laid, code)) a.is ∙ ap (λ ls. record { name = s.name; sizes = s.sizes; code = code; lines = ls }) (sym lines)

-- the lines in their places with their code
abbrev paired : Laid → Result (List ℕ) (ℕ × AsmCause) → Result (Laid × List ℕ) (ℕ × AsmCause)
paired laid r = ok_as (λ c. (laid, c)) r

refused_join : (laid : Laid) (e : ℕ × AsmCause) (r : Result (List ℕ) (ℕ × AsmCause)) → r ≡ Err e → paired laid r ≡ Err e
refused_join laid e r h = ap (paired laid) h

abbrev refused_pair : Result Laid (ℕ × AsmCause) → Result (Laid × List ℕ) (ℕ × AsmCause)
refused_pair r = r >>= λ laid. paired laid (joined_code laid.labels laid.placed)

refused_by : (e : ℕ × AsmCause) (r : Result Laid (ℕ × AsmCause)) → (r >>= λ laid. joined_code laid.labels laid.placed) ≡ Err e → refused_pair r ≡ Err e
refused_by e (Err f) h = let i : f ≡ e = cc h in ap Err i
refused_by e (Ok laid) h = refused_join laid e (joined_code laid.labels laid.placed) h

refused_code : (s : Section) (e : ℕ × AsmCause) → assembled_lines (program_of s) ≡ Err e → laid_code (program_of s) ≡ Err e
unfolding assembled_lines laid_code
refused_code s e h = refused_by e (laid_lines [] 0 (program_of s)) h

-- a section that the assembler refuses
pub source_refused : (s : Section) (e : ℕ × AsmCause) → assembled_lines (program_of s) ≡ Err e → source_of s ≡ record { name = s.name; sizes = s.sizes; code = []; lines = [] }
source_refused s e h = source_is s (Err e) (refused_code s e h)
