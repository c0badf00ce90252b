-- The sections that are kept while the deck grows, and the draft that they are in the end.
use Rattle.std.proofs.Common.{◌≡◌, ℕ, ◌-◌, Bool, true, false, cond, List, [], ◌∷◌, ◌++◌, length, take, drop, Option, Some, None, Result, Ok, Err, refl, sym, ap, subst, ◌∙◌, append_assoc, append-nil, arith}
use Rattle.std.specs.Prelude.{bytes_eq, codes, map, IfOk}
use Rattle.std.proofs.lemmas.List.{length-append, take_at, drop_at}
use Rattle.mc_text.specs.model_text.specs.Text.{ok_as, fields}
use Rattle.mc_deck.specs.model_play.specs.DeckGrammar.{is_data}
use Rattle.mc_text.specs.model_text.specs.Text.{is_end}
use Rattle.mc_deck.specs.model_play.specs.declared.deck.DeckCause.{DeckCause}
use Rattle.mc_deck.specs.declared.refusal.Fault.{Fault}
use Rattle.desk_draft.specs.Declarations.{empty_scope}
use Rattle.desk_draft.specs.Drafts
use Rattle.desk_draft.specs.Drafts.{Before, DraftTurn, Between, Mode, Within, closed_section, draft_turn, ended_before, kept_line, marked, marked_turn, new_section, opening_line, scope_turn, section_line, sizes_of, spoken_text, spoken_turn}
use Rattle.desk_draft.specs.declared.draft.OpenSection.{OpenSection}
use Rattle.desk_draft.specs.declared.draft.Section.{Section}
use Rattle.desk_draft.specs.declared.draft.SourceLine.{SourceLine}
use Rattle.desk_draft.specs.declared.known.Known.{Known}
use Rattle.desk_draft.specs.Views.{OpensSection, ScopeTurned, Stands, StandsSection, loadable_of, scope_of}
use Rattle.desk_draft.specs.Written.{Each, HasLines, IsSection, IsSourceLine, KeepsSections, HasText, line_value, section_value}
use Rattle.desk_draft.proofs.DraftLemmas.{mode_within}

-- ---- lists in step

each_map : {A B : Type 0} (R S : A → B → Type 0) (xs : List A) (bs : List B) → ((a : A) (b : B) → R a b → S a b) → Each R xs bs → Each S xs bs
each_map R S [] [] f h = tt
each_map R S [] (b ∷ bs) f h = absurd h
each_map R S (a ∷ xs) [] f h = absurd h
each_map R S (a ∷ xs) (b ∷ bs) f h = (f a b h.0, each_map R S xs bs f h.1)

each_more : {A B : Type 0} (R : A → B → Type 0) (xs : List A) (bs : List B) (a : A) (b : B) → Each R xs bs → R a b → Each R (xs ++ a ∷ []) (bs ++ b ∷ [])
each_more R [] [] a b h k = (k, tt)
each_more R [] (y ∷ bs) a b h k = absurd h
each_more R (x ∷ xs) [] a b h k = absurd h
each_more R (x ∷ xs) (y ∷ bs) a b h k = (h.0, each_more R xs bs a b h.1 k)

each_is : {A B : Type 0} (R : A → B → Type 0) (f : A → B) (xs : List A) (bs : List B) → ((a : A) (b : B) → R a b → f a ≡ b) → Each R xs bs → map f xs ≡ bs
each_is R f [] [] g h = refl
each_is R f [] (b ∷ bs) g h = absurd h
each_is R f (a ∷ xs) [] g h = absurd h
each_is R f (a ∷ xs) (b ∷ bs) g h = ap (λ x. x ∷ map f xs) (g a b h.0) ∙ ap (λ xs. b ∷ xs) (each_is R f xs bs g h.1)

-- ---- a deck that grows

text_grows : (deck more text : List ℕ) (from to : ℕ) → HasText deck from to text → HasText (deck ++ more) from to text
text_grows deck more text from to h = record {
  before = h.before;
  after = h.after ++ more;
  parts = ap (λ x. x ++ more) h.parts ∙ append_assoc h.before (text ++ h.after) more ∙ ap (λ x. h.before ++ x) (append_assoc text h.after more);
  begins = h.begins;
  ends = h.ends;
}

line_grows : (deck more : List ℕ) (l : SourceLine) (t : Drafts.SourceLine) → IsSourceLine deck l t → IsSourceLine (deck ++ more) l t
line_grows deck more l t h = record { number = h.number; draft = h.draft; text = text_grows deck more t.deck l.start l.end h.text }

pub lines_grow : (deck more : List ℕ) (ls : List SourceLine) (ts : List Drafts.SourceLine) → Each (IsSourceLine deck) ls ts → Each (IsSourceLine (deck ++ more)) ls ts
lines_grow deck more ls ts h = each_map (IsSourceLine deck) (IsSourceLine (deck ++ more)) ls ts (line_grows deck more) h

section_grows : (deck more : List ℕ) (s : Section) (t : Drafts.Section) → IsSection deck s t → IsSection (deck ++ more) s t
section_grows deck more s t h = record { name = h.name; sizes = h.sizes; lines = lines_grow deck more s.lines.items t.lines h.lines }

pub sections_grow : (deck more : List ℕ) (ss : List Section) (ts : List Drafts.Section) → Each (IsSection deck) ss ts → Each (IsSection (deck ++ more)) ss ts
sections_grow deck more ss ts h = each_map (IsSection deck) (IsSection (deck ++ more)) ss ts (section_grows deck more) h

open_grows : (deck more : List ℕ) (s : Option OpenSection) (m : Mode) → HasLines deck s m → HasLines (deck ++ more) s m
open_grows deck more None Between h = tt
open_grows deck more None (Within t) h = absurd h
open_grows deck more (Some s) Between h = absurd h
open_grows deck more (Some s) (Within t) h = lines_grow deck more s.lines.items t.lines h

pub keeps_grows : (deck more new : List ℕ) (ss : List Section) (s : Option OpenSection) (b : Before) → new ≡ deck ++ more → KeepsSections deck ss s b → KeepsSections new ss s b
keeps_grows deck more new ss s b e h =
    subst (λ (d : List ℕ). KeepsSections d ss s b) (sym e) (record { ended = sections_grow deck more ss b.sections h.ended; lines = open_grows deck more s b.mode h.lines })

-- ---- a section that ends

pub sections_more : (deck : List ℕ) (xs : List Section) (ss : List Drafts.Section) (c : Section) (o : OpenSection) (t : Drafts.OpenSection) → c.name ≡ o.name → loadable_of c.sizes ≡ sizes_of t → c.lines.items ≡ o.lines.items → StandsSection o t
    → Each (IsSection deck) xs ss → Each (IsSourceLine deck) o.lines.items t.lines → Each (IsSection deck) (xs ++ c ∷ []) (ss ++ closed_section t ∷ [])
sections_more deck xs ss c o t n z l h e k = each_more (IsSection deck) xs ss c (closed_section t) e (record {
  name = ap (λ x. x.now) n ∙ h.name;
  sizes = z;
  lines = subst (λ (x : List SourceLine). Each (IsSourceLine deck) x t.lines) (sym l) k;
})

-- ---- a line that is kept

pub line_more : (old new text : List ℕ) (ls : List SourceLine) (ts : List Drafts.SourceLine) (c : SourceLine) (n : ℕ) (l : List ℕ) → c.number ≡ n → c.draft.now ≡ l → c.start ≡ length old → c.end ≡ length new → new ≡ old ++ text
    → Each (IsSourceLine old) ls ts → Each (IsSourceLine new) (ls ++ c ∷ []) (ts ++ record { number = n; draft = l; deck = text } ∷ [])
line_more old new text ls ts c n l i j b f e h =
    let t : Drafts.SourceLine = record { number = n; draft = l; deck = text } in
    let has : HasText new c.start c.end text = record {
      before = old;
      after = [];
      parts = e ∙ ap (λ x. old ++ x) (sym (append-nil text));
      begins = b;
      ends = f ∙ ap length e ∙ length-append old text;
    } in
    let grown = subst (λ (d : List ℕ). Each (IsSourceLine d) ls ts) (sym e) (lines_grow old text ls ts h) in
    each_more (IsSourceLine new) ls ts c t grown (record { number = i; draft = j; text = has })

-- ---- lines of an open section

ok_inj : {A : Type 0} (x y : A) (r : Result A DeckCause) → r ≡ Ok x → r ≡ Ok y → x ≡ y
ok_inj x y r e f = let i : Ok x ≡ Ok y = sym e ∙ f in cc i

-- the end of a section
pub end_keeps : (b : Before) (t : Drafts.OpenSection) (n : ℕ) (l old new more : List ℕ) (later e : Bool) (u : DraftTurn) (xs ss : List Section) (ls : List SourceLine) → e ≡ true → new ≡ old ++ more → section_line e b t n l later ≡ Ok u
    → Each (IsSection old) xs b.sections → Each (IsSourceLine old) ls t.lines → (Each (IsSection new) xs b.sections → Each (IsSourceLine new) ls t.lines → Each (IsSection new) ss (b.sections ++ closed_section t ∷ [])) → KeepsSections new ss None u.before
end_keeps b t n l old new more later e u xs ss ls i grew h kept lines f =
    let made : DraftTurn = record { text = l; before = ended_before t b } in
    let is : section_line e b t n l later ≡ Ok made = ap (λ x. section_line x b t n l later) i in
    let ended = f (subst (λ (d : List ℕ). Each (IsSection d) xs b.sections) (sym grew) (sections_grow old more xs b.sections kept)) (subst (λ (d : List ℕ). Each (IsSourceLine d) ls t.lines) (sym grew) (lines_grow old more ls t.lines lines)) in
    subst (λ (v : DraftTurn). KeepsSections new ss None v.before) (ok_inj made u (section_line e b t n l later) is h) (record { ended = ended; lines = tt })

-- a line that the section keeps
pub line_keeps : (b : Before) (t : Drafts.OpenSection) (n : ℕ) (l old new : List ℕ) (later e : Bool) (u : DraftTurn) (ss : List Section) (s z : OpenSection) → e ≡ false → section_line e b t n l later ≡ Ok u → StandsSection s t
    → ScopeTurned old new z.scope (Ok tt) (scope_turn (is_data (fields l)) (scope_of s.scope t.scope.names) l later) → Each (IsSection old) ss b.sections
    → ((text : List ℕ) → new ≡ old ++ text → Each (IsSourceLine new) z.lines.items (t.lines ++ record { number = n; draft = l; deck = text } ∷ [])) → KeepsSections new ss (Some z) u.before
line_keeps b t n l old new later e u ss s z i h st k kept lines =
    let turn : Drafts.ScopeTurn = record { text = k.0; scope = scope_of z.scope k.1 } in
    let r : scope_turn (is_data (fields l)) t.scope l later ≡ Ok turn = ap (λ d. scope_turn (is_data (fields l)) d l later) (sym st.scope) ∙ k.3 in
    let made = kept_line b t n l turn in
    let is : section_line e b t n l later ≡ Ok made = ap (λ x. section_line x b t n l later) i ∙ ap (ok_as (kept_line b t n l)) r in
    let ended = subst (λ (d : List ℕ). Each (IsSection d) ss b.sections) (sym k.4) (sections_grow old k.0 ss b.sections kept) in
    subst (λ (v : DraftTurn). KeepsSections new ss (Some z) v.before) (ok_inj made u (section_line e b t n l later) is h) (record { ended = ended; lines = lines k.0 k.4 })

-- ---- lines between sections

empty_by : (c : Bool) (s t : Drafts.OpenSection) → s.lines ≡ [] → cond c (Some s) None ≡ Some t → t.lines ≡ []
empty_by true s t e h = let i : s ≡ t = cc h in subst (λ (x : Drafts.OpenSection). x.lines ≡ []) i e
empty_by false s t e h = absurd (cc h)

-- a section that opens has no lines
opens_empty : (ts : List (List ℕ)) (t : Drafts.OpenSection) → new_section ts ≡ Some t → t.lines ≡ []
opens_empty [] t h = absurd (cc h)
opens_empty (a ∷ []) t h = absurd (cc h)
opens_empty (a ∷ b ∷ []) t h = absurd (cc h)
opens_empty (a ∷ b ∷ c ∷ []) t h = empty_by (bytes_eq a (codes "app")) (record { name = b; aid = c; scope = empty_scope; lines = [] }) t refl h
opens_empty (a ∷ b ∷ c ∷ d ∷ ts) t h = absurd (cc h)

-- a line that opens a section
pub opening_keeps : (ts : List (List ℕ)) (o : Option Drafts.OpenSection) (b : Before) (l old new : List ℕ) (u : DraftTurn) (ss : List Section) (s : OpenSection) → new_section ts ≡ o → OpensSection (Some s) o → s.lines.items ≡ [] → new ≡ old ++ l
    → KeepsSections old ss None b → opening_line o b l ≡ Ok u → KeepsSections new ss (Some s) u.before
opening_keeps ts None b l old new u ss s is h none e k t = absurd h
opening_keeps ts (Some x) b l old new u ss s is h none e k t =
    let made : DraftTurn = record { text = l; before = record b { mode = Within x } } in
    let ended = subst (λ (d : List ℕ). Each (IsSection d) ss b.sections) (sym e) (sections_grow old l ss b.sections k.ended) in
    let lines : Each (IsSourceLine new) s.lines.items x.lines =
    subst (λ (ls : List SourceLine). Each (IsSourceLine new) ls x.lines) (sym none) (subst (λ (ls : List Drafts.SourceLine). Each (IsSourceLine new) [] ls) (sym (opens_empty ts x is)) tt) in
    subst (λ (v : DraftTurn). KeepsSections new ss (Some s) v.before) (ok_inj made u (Ok made) refl t) (record { ended = ended; lines = lines })

spoken_by : (r : Result (List ℕ) DeckCause) (b : Before) (l old new : List ℕ) (u : DraftTurn) (ss : List Section) → ok_as (λ t. old ++ t) r ≡ Ok new → KeepsSections old ss None b → ok_as (spoken_turn b l) r ≡ Ok u → KeepsSections new ss None u.before
spoken_by (Err e) b l old new u ss h k t = absurd (cc h)
spoken_by (Ok x) b l old new u ss h k t =
    let made : DraftTurn = spoken_turn b l x in
    let kept = keeps_grows old x new ss None b (sym (ok_inj (old ++ x) new (Ok (old ++ x)) refl h)) k in
    subst (λ (v : DraftTurn). KeepsSections new ss None v.before) (ok_inj made u (Ok made) refl t) (record { ended = kept.ended; lines = kept.lines })

-- a rule or a statement
pub spoken_keeps : (o : Option Drafts.OpenSection) (b : Before) (l old new : List ℕ) (u : DraftTurn) (ss : List Section) → OpensSection None o → ok_as (λ t. old ++ t) (spoken_text b l) ≡ Ok new → KeepsSections old ss None b → opening_line o b l ≡ Ok u
    → KeepsSections new ss None u.before
spoken_keeps (Some x) b l old new u ss h e k t = absurd h
spoken_keeps None b l old new u ss h e k t = spoken_by (spoken_text b l) b l old new u ss e k t

marked_by : (r : Result DraftTurn DeckCause) (l new : List ℕ) (u : DraftTurn) (ss : List Section) (s : Option OpenSection) → ((t : DraftTurn) → r ≡ Ok t → KeepsSections new ss s t.before) → ok_as (marked l) r ≡ Ok u → KeepsSections new ss s u.before
marked_by (Err e) l new u ss s f h = absurd (cc h)
marked_by (Ok t) l new u ss s f h =
    let kept = f t refl in
    subst (λ (v : DraftTurn). KeepsSections new ss s v.before) (ok_inj (marked l t) u (Ok (marked l t)) refl h) (record { ended = kept.ended; lines = kept.lines })

-- a line after which it is known whether it became another one
pub marked_keeps : (b : Before) (n : ℕ) (l new : List ℕ) (later : Bool) (u : DraftTurn) (ss : List Section) (s : Option OpenSection) → ((t : DraftTurn) → draft_turn b.mode b n l later ≡ Ok t → KeepsSections new ss s t.before) → marked_turn b n l later ≡ Ok u
    → KeepsSections new ss s u.before
marked_keeps b n l new later u ss s f h = marked_by (draft_turn b.mode b n l later) l new u ss s f h

-- ---- a line, by the section that is open

-- the sections that are kept after a line, if it is taken
abbrev pub KeptBy : List ℕ → List Section → Result (Option OpenSection) Fault → Result DraftTurn DeckCause → Type 0
KeptBy new ss r d = IfOk r (λ z. (u : DraftTurn) → d ≡ Ok u → KeepsSections new ss z u.before)

-- a line of a section
pub within_keeps : (old new l : List ℕ) (m : Known) (xs ss : List Section) (s : Option OpenSection) (r : Result (Option OpenSection) Fault) (b : Before) (k : ℕ) (later : Bool) (x : OpenSection) → s ≡ Some x → Stands m s b → KeepsSections old xs s b
    → ((t : Drafts.OpenSection) → StandsSection x t → Each (IsSection old) xs b.sections → Each (IsSourceLine old) x.lines.items t.lines → KeptBy new ss r (section_line (is_end (fields l)) b t k l later))
    → KeptBy new ss r (draft_turn b.mode b k l later)
within_keeps old new l m xs ss s r b k later x e h w f =
    let at = subst (λ (s : Option OpenSection). Stands m s b) e h in
    let kept = subst (λ (s : Option OpenSection). KeepsSections old xs s b) e w in
    let mode = mode_within m b x at in
    subst (λ (d : Mode). KeptBy new ss r (draft_turn d b k l later)) (sym mode.1) (f mode.0 mode.2 kept.ended (subst (λ (d : Mode). HasLines old (Some x) d) mode.1 kept.lines))

-- ---- the draft that was read

-- the text between two places
pub text_there : (deck text : List ℕ) (from to : ℕ) → HasText deck from to text → take (to - from) (drop from deck) ≡ text
text_there deck text from to h =
    let size : to - from ≡ length text = omega (arith, h.begins, h.ends) in
    let rest : drop from deck ≡ text ++ h.after = ap (λ n. drop n deck) h.begins ∙ ap (drop (length h.before)) h.parts ∙ drop_at h.before (text ++ h.after) (length h.before) refl in
    ap (λ n. take n (drop from deck)) size ∙ ap (take (length text)) rest ∙ take_at text h.after (length text) refl

line_is : (deck : List ℕ) (l : SourceLine) (t : Drafts.SourceLine) → IsSourceLine deck l t → line_value deck l ≡ t
line_is deck l t h =
    ap (λ x. record { number = x; draft = l.draft.now; deck = take (l.end - l.start) (drop l.start deck) }) h.number
    ∙ ap (λ x. record { number = t.number; draft = x; deck = take (l.end - l.start) (drop l.start deck) }) h.draft
    ∙ ap (λ x. record { number = t.number; draft = t.draft; deck = x }) (text_there deck t.deck l.start l.end h.text)

section_is : (deck : List ℕ) (s : Section) (t : Drafts.Section) → IsSection deck s t → section_value deck s ≡ t
section_is deck s t h =
    ap (λ x. record { name = x; sizes = loadable_of s.sizes; lines = map (line_value deck) s.lines.items }) h.name
    ∙ ap (λ x. record { name = t.name; sizes = x; lines = map (line_value deck) s.lines.items }) h.sizes
    ∙ ap (λ x. record { name = t.name; sizes = t.sizes; lines = x }) (each_is (IsSourceLine deck) (line_value deck) s.lines.items t.lines (line_is deck) h.lines)

pub sections_are : (deck : List ℕ) (ss : List Section) (ts : List Drafts.Section) → Each (IsSection deck) ss ts → map (section_value deck) ss ≡ ts
sections_are deck ss ts h = each_is (IsSection deck) (section_value deck) ss ts (section_is deck) h
