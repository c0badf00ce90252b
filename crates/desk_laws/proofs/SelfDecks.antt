-- A deck is a draft that makes itself, line by line.
use Rattle.std.proofs.Common.{arith, ◌≡◌, ℕ, suc, ◌+◌, Bool, true, false, cond, List, [], ◌∷◌, ◌++◌, map, Option, Some, None, Result, Ok, Err, refl, sym, ap, subst, ◌∙◌}
use Rattle.std.specs.Prelude.{◌==◌, ◌&&◌, not, ok_or, unwrap_or, ⊤}
use Rattle.mc_text.specs.model_device.specs.Bytes.{lookup}
use Rattle.mc_text.specs.model_device.proofs.MapLemmas.{name_is_itself}
use Rattle.mc_text.specs.model_text.specs.Text.{◌>>=◌, begins, err_as, fields, is_empty, ok_as, only_if, trim, with_numbers}
use Rattle.mc_text.specs.model_text.specs.declared.assembler.AsmCause.{AsmCause}
use Rattle.mc_text.specs.model_text.specs.Assembly.{assembled_lines, joined_code, laid_lines, line_laid, line_read, size, with_label}
use Rattle.desk_draft.specs.model_play.specs.declared.deck.DeckCause.{DeckCause}
use Rattle.desk_draft.specs.model_play.specs.declared.deck.DeckCause.TheVariants.{BadLine}
use Rattle.desk_draft.specs.model_play.specs.declared.deck.DeckCause.TheVariants as causes
use Rattle.desk_draft.specs.model_card.specs.Units.{UnitParts}
use Rattle.desk_draft.specs.model_play.specs.DeckGrammar.{between, lines_at_end, AppWord, Context, DeckLine, LineTurn, Opens, Says, Section, Stated, Word, deck_lines, deck_read, deck_words, is_data, section_data, section_program, section_unit, statement_of, turn_at, turn_in, turn_of, with_unit, within, Named}
use Rattle.mc_text.specs.model_text.specs.Text.{is_end}
use Rattle.desk_draft.specs.model_play.specs.DeckGrammar
use Rattle.desk_draft.specs.Parts.{EndedLine, after_word, ended_lines}
use Rattle.desk_draft.specs.Declarations.{Scope, data_count, data_scope, empty_scope, gives_later, header_names}
use Rattle.desk_draft.specs.Operands.{instruction_text}
use Rattle.desk_draft.specs.Statements.{stated_text, statement_text}
use Rattle.desk_draft.specs.Rules.{is_rule, rule_text}
use Rattle.desk_draft.specs.Drafts.{Before, closed_section, Draft, DraftTurn, OpenSection, by_name, coded_turn, deck_of, draft_of_lines, draft_read, draft_turn, ended_before, kept_line, marked, new_section, nothing_before, opening_line, rule_names, scope_turn, section_line, spoken_text, spoken_turn, with_line}
use Rattle.desk_draft.specs.Drafts
use Rattle.desk_laws.proofs.Results.{Fine, fine_as, fine_err, fine_ok, fine_or, fine_then}
use Rattle.desk_laws.proofs.SelfLines.{joined, lines_joined, lines_read, texts_read}
use Rattle.desk_laws.proofs.StableLines.{line_stays, line_undeclared}
use Rattle.desk_laws.proofs.StableStatements.{IsLine, IsOpening, is_app, opening_kept, skipped_stays, statement_kept, statement_stays, word_known, word_name}
use Rattle.desk_laws.proofs.Words.{one_trimmed, other_fields}
use Rattle.desk_draft.proofs.StayLemmas.{Good}

-- ---- the lines of a section

-- a line of data, or one that the assembler reads
abbrev GoodBy : Bool → List ℕ → Type 0
GoodBy true t = ⊤
GoodBy false t = Fine (line_read t)

abbrev AllGood : List (ℕ × List ℕ) → Type 0
AllGood [] = ⊤
AllGood (l ∷ ls) = GoodBy (is_data (fields l.1)) l.1 × AllGood ls

good_front : (ls : List (ℕ × List ℕ)) (l : ℕ × List ℕ) → AllGood (ls ++ l ∷ []) → AllGood ls
good_front [] l h = tt
good_front (x ∷ ls) l h = (h.0, good_front ls l h.1)

good_last : (ls : List (ℕ × List ℕ)) (l : ℕ × List ℕ) → AllGood (ls ++ l ∷ []) → GoodBy (is_data (fields l.1)) l.1
good_last [] l h = h.0
good_last (x ∷ ls) l h = good_last ls l h.1

abbrev AllRead : List (ℕ × List ℕ) → Type 0
AllRead [] = ⊤
AllRead (l ∷ ls) = Fine (line_read l.1) × AllRead ls

laid_read : (ls : List (ℕ × List ℕ)) (labels : List (List ℕ × ℕ)) (place : ℕ) → Fine (laid_lines labels place ls) → AllRead ls
unfolding laid_lines line_laid
laid_read [] labels place h = tt
laid_read (l ∷ ls) labels place h =
    let a = fine_then (err_as (λ c. (l.0, c)) (line_laid labels place l.1)) _ h in
    let more = laid_lines (with_label labels (a.0).label place) (place + size (a.0).item) ls in
    let b = fine_then more _ a.2 in
    let c = fine_then (line_read l.1) _ (fine_err (λ c. (l.0, c)) (line_laid labels place l.1) (fine_ok (err_as (λ c. (l.0, c)) (line_laid labels place l.1)) a.0 a.1)) in
    (fine_ok (line_read l.1) c.0 c.1, laid_read ls (with_label labels (a.0).label place) (place + size (a.0).item) (fine_ok more b.0 b.1))

good_by : (b : Bool) (l : ℕ × List ℕ) (ls : List (ℕ × List ℕ)) → AllRead (cond (not b) (l ∷ ls) ls) → GoodBy b l.1 × AllRead ls
good_by true l ls h = (tt, h)
good_by false l ls h = h

good_program : (ls : List (ℕ × List ℕ)) → AllRead (section_program ls) → AllGood ls
good_program [] h = tt
good_program (l ∷ ls) h = let k = good_by (is_data (fields l.1)) l (section_program ls) h in (k.0, good_program ls k.1)

-- a cause of the assembler, with its line
abbrev asm_cause : ℕ × AsmCause → ℕ × DeckCause
asm_cause e = (e.0, causes.Asm e.1)

unit_good : (s : Section) (n : ℕ) → Fine (section_unit s n) → AllGood s.lines
unfolding section_unit assembled_lines
unit_good s n h =
    let program = section_program s.lines in
    let code = assembled_lines program in
    let a = fine_then (section_data s.lines) _ h in
    let b = fine_then (err_as asm_cause code) _ a.2 in
    let c = fine_err asm_cause code (fine_ok (err_as asm_cause code) b.0 b.1) in
    let d = fine_then (laid_lines [] 0 program) (λ laid. joined_code laid.labels laid.placed) c in
    good_program s.lines (laid_read program [] 0 (fine_ok (laid_lines [] 0 program) d.0 d.1))

-- ---- a line of a deck

-- the line that comes next, and the lines after it
turn_then_by : (b : Bool) (m : DeckGrammar.Mode) (l : ℕ × List ℕ) (ls : List (ℕ × List ℕ)) → Fine (turn_at b m l >>= λ t. ok_as (λ rest. t.lines ++ rest) (deck_lines t.mode ls)) → (t : LineTurn) × (turn_in m l ≡ Ok t) × Fine (deck_lines t.mode ls)
turn_then_by b m l ls h = grind (arith, fine_then, fine_as)

turn_then : (m : DeckGrammar.Mode) (l : ℕ × List ℕ) (ls : List (ℕ × List ℕ)) → Fine (deck_lines m (l ∷ ls)) → (t : LineTurn) × (turn_in m l ≡ Ok t) × Fine (deck_lines t.mode ls)
unfolding deck_lines
turn_then m l ls h = turn_then_by (l.0 == 20001) m l ls h

as_value : {A B E : Type 0} (f : A → B) (r : Result A E) (b : B) → ok_as f r ≡ Ok b → (a : A) × (r ≡ Ok a) × (f a ≡ b)
as_value f (Ok a) b h = let e : f a ≡ b = cc h in (a, refl, e)
as_value f (Err e) b h = absurd (cc h)

-- the section that goes on with a line
abbrev longer : Section → ℕ × List ℕ → Section
longer s l = record s { lines = s.lines ++ l ∷ [] }

-- a section that is closed by a line
abbrev closed : Section → Context → UnitParts → LineTurn
closed s c u = record { lines = (s.first, Named) ∷ []; mode = DeckGrammar.Between (with_unit c s.name u) }

-- after a line of a section: the unit of it, or the section with one more line
abbrev SectionTurned : Bool → Section → Context → ℕ × List ℕ → LineTurn → Type 0
SectionTurned true s c l t = Fine (section_unit s l.0) × (d : Context) × (t.mode ≡ DeckGrammar.Between d)
SectionTurned false s c l t = t.mode ≡ DeckGrammar.Within (longer s l) c

section_turned : (b : Bool) (s : Section) (c : Context) (l : ℕ × List ℕ) (t : LineTurn) → within b s c l ≡ Ok t → SectionTurned b s c l t
unfolding within
section_turned true s c l t h =
    let a = as_value (closed s c) (section_unit s l.0) t h in
    (fine_ok (section_unit s l.0) a.0 a.1, with_unit c s.name a.0, ap (λ (t : LineTurn). t.mode) (sym a.2))
section_turned false s c l t h = let e : (record { lines = []; mode = DeckGrammar.Within (longer s l) c }) ≡ t = cc h in ap (λ (t : LineTurn). t.mode) (sym e)

goods_by : (b : Bool) (s : Section) (c : Context) (l : ℕ × List ℕ) (ls : List (ℕ × List ℕ)) (t : LineTurn) → SectionTurned b s c l t → Fine (deck_lines t.mode ls) → ((r : Section) → Fine (deck_lines (DeckGrammar.Within r c) ls) → AllGood r.lines) → AllGood s.lines
goods_by true s c l ls t h f g = unit_good s l.0 h.0
goods_by false s c l ls t h f g = good_front s.lines l (g (longer s l) (subst (λ m. Fine (deck_lines m ls)) h f))

-- the lines of a section that ends are good
goods : (ls : List (ℕ × List ℕ)) (s : Section) (c : Context) → Fine (deck_lines (DeckGrammar.Within s c) ls) → AllGood s.lines
unfolding deck_lines
goods [] s c h = absurd h
goods (l ∷ ls) s c h =
    let a = turn_then (DeckGrammar.Within s c) l ls h in
    goods_by (is_end (fields l.1)) s c l ls a.0 (section_turned (is_end (fields l.1)) s c l a.0 a.1) a.2 (λ r f. goods ls r c f)

-- ---- a line of both

-- where the deck's reader is in a section, the draft's is in one that declares nothing
abbrev Agrees : DeckGrammar.Mode → Drafts.Mode → Type 0
Agrees (DeckGrammar.Between c) Drafts.Between = ⊤
Agrees (DeckGrammar.Between c) (Drafts.Within t) = ⊥
Agrees (DeckGrammar.Within s c) Drafts.Between = ⊥
Agrees (DeckGrammar.Within s c) (Drafts.Within t) = (t.scope.names ≡ header_names) × (t.scope.fixed ≡ 0)

-- no line became another one
abbrev Plain : Before → Type 0
Plain b = b.rules.is_draft ≡ false

-- the rules of a deck stay, as its statements do
spoken_stays : (b : Before) (l : List ℕ) → Plain b → spoken_text b l ≡ statement_text (by_name b.sections) l
spoken_stays b l p = ap (λ x. cond (x && is_rule l) (rule_text (by_name b.sections) (rule_names b.rules) l) (statement_text (by_name b.sections) l)) p

-- the draft takes a line as it is, and the lines after it are read from there
record Steps (m : Drafts.Mode) (b : Before) (n : ℕ) (t : List ℕ) (later : Bool) (ls : List (ℕ × List ℕ)) : Type 0 where
  turn : DraftTurn
  is : draft_turn m b n t later ≡ Ok turn
  text : turn.text ≡ t
  plain : Plain turn.before
  mode : DeckGrammar.Mode
  agrees : Agrees mode turn.before.mode
  rest : Fine (deck_lines mode ls)

-- a line between sections that stays
stays_between : (c : Context) (b : Before) (n : ℕ) (t : List ℕ) (later : Bool) (ls : List (ℕ × List ℕ)) → Plain b → Drafts.Between ≡ b.mode → new_section (fields t) ≡ None → stated_text (by_name b.sections) (fields t) (trim (after_word t)) ≡ Ok (trim (after_word t)) → Fine (deck_lines (DeckGrammar.Between c) ls)
    → Steps Drafts.Between b n t later ls
stays_between c b n t later ls p e o k h =
    record {
      turn = spoken_turn b t t;
      is = ap (λ o. opening_line o b t) o ∙ ap (ok_as (spoken_turn b t)) (spoken_stays b t p ∙ statement_stays (by_name b.sections) t k);
      text = refl;
      plain = p;
      mode = DeckGrammar.Between c;
      agrees = subst (Agrees (DeckGrammar.Between c)) e tt;
      rest = h;
    }

-- the one field after a line's word is what follows it
only_other : (t w : List ℕ) (fs : List (List ℕ)) (x : List ℕ) → fields t ≡ w ∷ fs → fs ≡ x ∷ [] → trim (after_word t) ≡ x
only_other t w fs x h e = one_trimmed (after_word t) x (other_fields t w fs h ∙ e)

line_mode : (n : ℕ) (v : Stated) → IsLine v → (c : Context) × ((turn_of n v).mode ≡ DeckGrammar.Between c)
line_mode n (Says l c) h = (c, refl)
line_mode n (Opens s c) h = absurd h

section_mode : (n : ℕ) (v : Stated) → IsOpening v → (s : Section) × (c : Context) × ((turn_of n v).mode ≡ DeckGrammar.Within s c)
section_mode n (Says l c) h = absurd h
section_mode n (Opens s c) h = (s, c, refl)

good_value : {A : Type 0} (P : A → Type 0) (r : Result A DeckCause) (a : A) → Good P r → r ≡ Ok a → P a
good_value P (Ok b) a h e = let k : b ≡ a = cc e in subst P k h
good_value P (Err x) a h e = absurd (cc e)

-- the fields of a line are a statement's word and those after it
word_fields : (t w : List ℕ) (fs : List (List ℕ)) (k : Word) → fields t ≡ w ∷ fs → lookup deck_words w ≡ Some k → fields t ≡ word_name k ∷ fs
word_fields t w fs k h e = h ∙ ap (λ x. x ∷ fs) (word_known w k e)

-- a statement that opens no section
line_steps : (c : Context) (b : Before) (n : ℕ) (t : List ℕ) (later : Bool) (ls : List (ℕ × List ℕ)) (w : Word) (fs : List (List ℕ)) (v : Stated) → Plain b → Drafts.Between ≡ b.mode → fields t ≡ word_name w ∷ fs → is_app w ≡ false → statement_of c n w fs ≡ Ok v
    → Fine (deck_lines (turn_of n v).mode ls) → Steps Drafts.Between b n t later ls
line_steps c b n t later ls w fs v p e h a s r =
    let core = trim (after_word t) in
    let sections = by_name b.sections in
    let k = statement_kept c n w fs sections core (other_fields t (word_name w) fs h) (λ x i. only_other t (word_name w) fs x h i) a (fine_ok (statement_of c n w fs) v s) in
    let m = line_mode n v (good_value IsLine (statement_of c n w fs) v k.says s) in
    stays_between m.0 b n t later ls p e (ap new_section h ∙ k.opens) (ap (λ fs. stated_text sections fs core) h ∙ k.stays) (subst (λ m. Fine (deck_lines m ls)) m.1 r)

-- the section that a line opens
abbrev opened : List ℕ → List ℕ → OpenSection
opened name aid = record { name = name; aid = aid; scope = empty_scope; lines = [] }

-- a statement that opens a section
opening_steps : (c : Context) (b : Before) (n : ℕ) (t : List ℕ) (later : Bool) (ls : List (ℕ × List ℕ)) (fs : List (List ℕ)) (v : Stated) → Plain b → fields t ≡ word_name AppWord ∷ fs → statement_of c n AppWord fs ≡ Ok v → Fine (deck_lines (turn_of n v).mode ls)
    → Steps Drafts.Between b n t later ls
opening_steps c b n t later ls fs v p h s r =
    let k = opening_kept c n fs (fine_ok (statement_of c n AppWord fs) v s) in
    let m = section_mode n v (good_value IsOpening (statement_of c n AppWord fs) v k.3 s) in
    record {
      turn = record { text = t; before = record b { mode = Drafts.Within (opened k.0 k.1) } };
      is = ap (λ fs. opening_line (new_section fs) b t) (h ∙ ap (λ fs. word_name AppWord ∷ fs) k.2);
      text = refl;
      plain = p;
      mode = DeckGrammar.Within m.0 m.1;
      agrees = (refl, refl);
      rest = subst (λ m. Fine (deck_lines m ls)) m.2 r;
    }

statement_steps : (c : Context) (b : Before) (n : ℕ) (t : List ℕ) (later : Bool) (ls : List (ℕ × List ℕ)) (w : Word) (fs : List (List ℕ)) (v : Stated) (a : Bool) → is_app w ≡ a → Plain b → Drafts.Between ≡ b.mode → fields t ≡ word_name w ∷ fs → statement_of c n w fs ≡ Ok v
    → Fine (deck_lines (turn_of n v).mode ls) → Steps Drafts.Between b n t later ls
statement_steps c b n t later ls w fs v a i p e h s r = grind (arith, opening_steps, line_steps)

-- a cause at a line
abbrev line_cause : ℕ → DeckCause → ℕ × DeckCause
line_cause n e = (n, e)

-- a result at a line
abbrev numbered : ℕ → Result LineTurn DeckCause → Result LineTurn (ℕ × DeckCause)
numbered n r = err_as (line_cause n) r

-- a line between sections that begins with a word
word_steps : (x : Bool) (c : Context) (b : Before) (n : ℕ) (t : List ℕ) (later : Bool) (ls : List (ℕ × List ℕ)) (w : List ℕ) (fs : List (List ℕ)) (u : LineTurn) → begins 35 w ≡ x → Plain b → Drafts.Between ≡ b.mode → fields t ≡ w ∷ fs
    → cond x (Ok (record { lines = []; mode = DeckGrammar.Between c })) (numbered n (ok_or (lookup deck_words w) BadLine >>= λ k. ok_as (turn_of n) (statement_of c n k fs))) ≡ Ok u
    → Fine (deck_lines u.mode ls) → Steps Drafts.Between b n t later ls
word_steps true c b n t later ls w fs u i p e h k r =
    let z : (record { lines = []; mode = DeckGrammar.Between c }) ≡ u = cc k in
    let core = trim (after_word t) in
    let a = skipped_stays (by_name b.sections) w fs core i (λ x j. only_other t w fs x h j) in
    stays_between c b n t later ls p e (ap new_section h ∙ a.0) (ap (λ fs. stated_text (by_name b.sections) fs core) h ∙ a.1) (subst (λ (u : LineTurn). Fine (deck_lines u.mode ls)) (sym z) r)
word_steps false c b n t later ls w fs u i p e h k r =
    let made = ok_or (lookup deck_words w) BadLine >>= λ k. ok_as (turn_of n) (statement_of c n k fs) in
    let f = fine_err (line_cause n) made (fine_ok (numbered n made) u k) in
    let a = fine_then (ok_or (lookup deck_words w) BadLine) (λ k. ok_as (turn_of n) (statement_of c n k fs)) f in
    let o = fine_or (lookup deck_words w) BadLine (fine_ok (ok_or (lookup deck_words w) BadLine) a.0 a.1) in
    let g : ok_as (turn_of n) (statement_of c n o.0 fs) ≡ Ok u = known_turn (lookup deck_words w) o.0 u (λ k. ok_as (turn_of n) (statement_of c n k fs)) o.1 k in
    let v = as_value (turn_of n) (statement_of c n o.0 fs) u g in
    statement_steps c b n t later ls o.0 fs v.0 (is_app o.0) refl p e (word_fields t w fs o.0 h o.1) v.1 (subst (λ (u : LineTurn). Fine (deck_lines u.mode ls)) (sym v.2) r)
  where
    known_turn : (o : Option Word) (k : Word) (u : LineTurn) (f : Word → Result LineTurn DeckCause) → o ≡ Some k → numbered n (ok_or o BadLine >>= f) ≡ Ok u → f k ≡ Ok u
    known_turn o k u f e h = no_error (f k) u (sym (ap (λ o. numbered n (ok_or o BadLine >>= f)) e) ∙ h)
      where
        no_error : (r : Result LineTurn DeckCause) (u : LineTurn) → numbered n r ≡ Ok u → r ≡ Ok u
        no_error (Ok a) u h = let e : a ≡ u = cc h in ap Ok e
        no_error (Err x) u h = absurd (cc h)

-- a line between sections
between_steps : (c : Context) (b : Before) (n : ℕ) (t : List ℕ) (later : Bool) (ls : List (ℕ × List ℕ)) (fs : List (List ℕ)) (u : LineTurn) → Plain b → Drafts.Between ≡ b.mode → fields t ≡ fs → between c n fs ≡ Ok u → Fine (deck_lines u.mode ls) → Steps Drafts.Between b n t later ls
between_steps c b n t later ls [] u p e h k r =
    let z : (record { lines = []; mode = DeckGrammar.Between c }) ≡ u = cc k in
    let core = trim (after_word t) in
    stays_between c b n t later ls p e (ap new_section h) (ap (λ fs. stated_text (by_name b.sections) fs core) h) (subst (λ (u : LineTurn). Fine (deck_lines u.mode ls)) (sym z) r)
between_steps c b n t later ls (w ∷ fs) u p e h k r = word_steps (begins 35 w) c b n t later ls w fs u refl p e h k r

-- ---- a line of a section

data_taken : (d : Scope) (fs : List (List ℕ)) → d.fixed ≡ 0 → data_scope d fs ≡ Ok (record d { data_bytes = Some (unwrap_or d.data_bytes 0 + data_count fs) })
data_taken d fs h = ap (λ b. only_if b BadLine (record d { data_bytes = Some (unwrap_or d.data_bytes 0 + data_count fs) })) (ap (λ n. n == 0) h)

-- a line that a section which declares nothing takes as it is
record Takes (x : Bool) (d : Scope) (t : List ℕ) (later : Bool) : Type 0 where
  scope : Scope
  is : scope_turn x d t later ≡ Ok (record { text = t; scope = scope })
  names : scope.names ≡ header_names
  fixed : scope.fixed ≡ 0

takes : (x : Bool) (d : Scope) (t : List ℕ) (later : Bool) → d.names ≡ header_names → d.fixed ≡ 0 → GoodBy x t → Takes x d t later
takes true d t later h k g =
    record {
      scope = record d { data_bytes = Some (unwrap_or d.data_bytes 0 + data_count (fields t)) };
      is = ap (ok_as (λ e. record { text = t; scope = e })) (data_taken d (fields t) k);
      names = h;
      fixed = k;
    }
takes false d t later h k g =
    record {
      scope = d;
      is =
          ap (coded_turn d t later) (line_undeclared t g)
          ∙ ap (λ names. ok_as (λ x. record { text = x; scope = d }) (instruction_text names t)) h
          ∙ ap (ok_as (λ x. record { text = x; scope = d })) (line_stays t g);
      names = h;
      fixed = k;
    }

-- a line in a section, which ends it or goes on
section_steps : (x : Bool) (s : Section) (c : Context) (o : OpenSection) (b : Before) (n : ℕ) (t : List ℕ) (later : Bool) (ls : List (ℕ × List ℕ)) (u : LineTurn) → Plain b → is_end (fields t) ≡ x → o.scope.names ≡ header_names → o.scope.fixed ≡ 0
    → SectionTurned x s c (n, t) u → Fine (deck_lines u.mode ls) → Steps (Drafts.Within o) b n t later ls
section_steps true s c o b n t later ls u p e h k f r =
    record {
      turn = record { text = t; before = ended_before o b };
      is = ap (λ x. section_line x b o n t later) e;
      text = refl;
      plain = p;
      mode = DeckGrammar.Between f.1;
      agrees = tt;
      rest = subst (λ m. Fine (deck_lines m ls)) f.2 r;
    }
section_steps false s c o b n t later ls u p e h k f r =
    let rest : Fine (deck_lines (DeckGrammar.Within (longer s (n, t)) c) ls) = subst (λ m. Fine (deck_lines m ls)) f r in
    let good = good_last s.lines (n, t) (goods ls (longer s (n, t)) c rest) in
    let a = takes (is_data (fields t)) o.scope t later h k good in
    record {
      turn = kept_line b o n t (record { text = t; scope = a.scope });
      is = ap (λ x. section_line x b o n t later) e ∙ ap (ok_as (kept_line b o n t)) a.is;
      text = refl;
      plain = p;
      mode = DeckGrammar.Within (longer s (n, t)) c;
      agrees = (a.names, a.fixed);
      rest = rest;
    }

-- a line that the deck's reader takes is one that the draft takes as it is
steps : (m : DeckGrammar.Mode) (o : Drafts.Mode) (b : Before) (n : ℕ) (t : List ℕ) (later : Bool) (ls : List (ℕ × List ℕ)) → Plain b → o ≡ b.mode → Agrees m o → Fine (deck_lines m ((n, t) ∷ ls)) → Steps o b n t later ls
steps (DeckGrammar.Between c) Drafts.Between b n t later ls p e h f =
    let a = turn_then (DeckGrammar.Between c) (n, t) ls f in
    between_steps c b n t later ls (fields t) a.0 p e refl a.1 a.2
steps (DeckGrammar.Between c) (Drafts.Within o) b n t later ls p e h f = absurd h
steps (DeckGrammar.Within s c) Drafts.Between b n t later ls p e h f = absurd h
steps (DeckGrammar.Within s c) (Drafts.Within o) b n t later ls p e h f =
    let a = turn_then (DeckGrammar.Within s c) (n, t) ls f in
    section_steps (is_end (fields t)) s c o b n t later ls a.0 p refl h.0 h.1 (section_turned (is_end (fields t)) s c (n, t) a.0 a.1) a.2

-- ---- all lines

-- a draft was read, and its deck is this text
record Makes (r : Result Draft (ℕ × DeckCause)) (text : List ℕ) : Type 0 where
  draft : Draft
  is : r ≡ Ok draft
  deck : draft.deck ≡ text

-- whether a STATIC line among those after a line gives bytes
abbrev later_of : List (ℕ × EndedLine) → Bool
later_of ls = gives_later (map (λ m. (m.1).text) ls)

-- a line that stays shows no draft
marked_plain : (t : DraftTurn) (l : List ℕ) → t.text ≡ l → Plain t.before → Plain (marked l t).before
marked_plain t l h p = grind (arith, name_is_itself)

-- one more line before those that make themselves
makes_more : (b : Before) (n : ℕ) (l : EndedLine) (ls : List (ℕ × EndedLine)) (rest : List ℕ) (u : DraftTurn) → draft_turn b.mode b n l.text (later_of ls) ≡ Ok u → u.text ≡ l.text → Makes (draft_of_lines (marked l.text u).before ls) rest
    → Makes (draft_of_lines b ((n, l) ∷ ls)) (l.text ++ l.ending ++ rest)
unfolding draft_of_lines
makes_more b n l ls rest u e h k =
    record {
      draft = with_line u.text l.ending k.draft;
      is =
          ap (λ r. err_as (λ c. (n, c)) (ok_as (marked l.text) r) >>= λ t. ok_as (with_line t.text l.ending) (draft_of_lines t.before ls)) e
          ∙ ap (ok_as (with_line u.text l.ending)) k.is;
      deck = ap (λ x. x ++ l.ending ++ k.draft.deck) h ∙ ap (λ x. l.text ++ l.ending ++ x) k.deck;
    }

makes_none : (b : Before) → Makes (draft_of_lines b []) []
unfolding draft_of_lines
makes_none b = record { draft = record { deck = []; sections = b.sections }; is = refl; deck = refl }

-- the last line, which is empty where the text ends with a line feed
ends_between : (m : DeckGrammar.Mode) (o : Drafts.Mode) → Agrees m o → Fine (lines_at_end m) → o ≡ Drafts.Between
ends_between m o h f = grind arith

empty_stays : (b : Before) (n : ℕ) (later : Bool) → Plain b → b.mode ≡ Drafts.Between → draft_turn b.mode b n [] later ≡ Ok (spoken_turn b [] [])
empty_stays b n later p e = ap (λ m. draft_turn m b n [] later) e ∙ ap (ok_as (spoken_turn b [])) (spoken_stays b [] p ∙ statement_stays (by_name b.sections) [] refl)

last_makes : (x : Bool) (m : DeckGrammar.Mode) (b : Before) (n : ℕ) (l : EndedLine) → is_empty l.text ≡ x → Plain b → Agrees m b.mode → Fine (deck_lines m (with_numbers n (cond x [] (l.text ∷ [])))) → Makes (draft_of_lines b ((n, l) ∷ [])) (l.text ++ l.ending ++ [])
unfolding deck_lines
last_makes true m b n l e p h f =
    let k = no_text l.text e in
    let u : draft_turn b.mode b n l.text (later_of []) ≡ Ok (spoken_turn b [] []) = ap (λ t. draft_turn b.mode b n t (later_of [])) k ∙ empty_stays b n (later_of []) p (ends_between m b.mode h f) in
    makes_more b n l [] [] (spoken_turn b [] []) u (sym k) (makes_none (marked l.text (spoken_turn b [] [])).before)
  where
    no_text : (t : List ℕ) → is_empty t ≡ true → t ≡ []
    no_text [] e = refl
    no_text (c ∷ t) e = absurd (cc e)
last_makes false m b n l e p h f =
    let a = steps m b.mode b n l.text (later_of []) [] p refl h f in
    makes_more b n l [] [] a.turn a.is a.text (makes_none (marked l.text a.turn).before)

makes : (ls : List EndedLine) (n : ℕ) (m : DeckGrammar.Mode) (b : Before) → Plain b → Agrees m b.mode → Fine (deck_lines m (with_numbers n (texts_read ls))) → Makes (draft_of_lines b (with_numbers n ls)) (joined ls)
makes [] n m b p h f = makes_none b
makes (l ∷ []) n m b p h f = last_makes (is_empty l.text) m b n l refl p h f
makes (l ∷ k ∷ ls) n m b p h f =
    let a = steps m b.mode b n l.text (later_of (with_numbers (suc n) (k ∷ ls))) (with_numbers (suc n) (texts_read (k ∷ ls))) p refl h f in
    makes_more b n l (with_numbers (suc n) (k ∷ ls)) (joined (k ∷ ls)) a.turn a.is a.text (makes (k ∷ ls) (suc n) a.mode (marked l.text a.turn).before (marked_plain a.turn l.text a.text a.plain) a.agrees a.rest)

-- no unit was named, and there was no `power` line
abbrev first_context : Context
first_context = record { units = []; powered = false }

-- a deck that the card accepts is a draft, and makes itself
pub deck_makes_itself : (text : List ℕ) (all : List (ℕ × DeckLine)) → deck_read text ≡ Ok all → deck_of text ≡ Ok text
unfolding deck_read deck_of draft_read
deck_makes_itself text all h =
    let f : Fine (deck_lines (DeckGrammar.Between first_context) (with_numbers 1 (texts_read (ended_lines text)))) = subst (λ ls. Fine (deck_lines (DeckGrammar.Between first_context) (with_numbers 1 ls))) (lines_read text) (fine_ok (deck_read text) all h) in
    let a = makes (ended_lines text) 1 (DeckGrammar.Between first_context) nothing_before refl tt f in
    ap (ok_as (λ (d : Draft). d.deck)) a.is ∙ ap Ok (a.deck ∙ lines_joined text)
