-- A draft and its deck have as many lines.
use Rattle.std.proofs.Common.{◌≡◌, ℕ, suc, ◌+◌, ◌-◌, Bool, true, false, cond, List, [], ◌∷◌, ◌++◌, length, take, drop, Option, Some, None, Result, Ok, Err, refl, sym, ap, subst, ◌∙◌, append_assoc, append-nil}
use Rattle.std.specs.Prelude.{pos, ◌==◌, ◌&&◌, bytes_eq, codes, is_none, map, ok_or, option_map, slice_index, unwrap_or, ⊤}
use Rattle.mc_text.specs.model_device.specs.Bytes.{lookup, zeros}
use Rattle.mc_text.specs.model_text.specs.Text.{◌>>=◌, ok_as, err_as, only_if, fields, pieces, pieces_with_character, with_numbers}
use Rattle.mc_text.specs.model_text.specs.Assembly.{signed_number}
use Rattle.mc_text.specs.model_text.specs.Listing.{hex_text}
use Rattle.mc_deck.specs.model_play.specs.DeckGrammar.{is_data, number_field}
use Rattle.mc_text.specs.model_text.specs.Text.{is_end}
use Rattle.mc_deck.specs.model_play.specs.declared.deck.DeckCause.{DeckCause}
use Rattle.mc_deck.specs.model_play.specs.declared.deck.DeckCause.TheVariants.{BadLine, BadNumber, NameTwice, OutOfRange}
use Rattle.mc_text.specs.Reading.{without_return}
use Rattle.mc_deck.specs.law_family.proofs.FlatTexts.{Flat, flat_append, flat_hex}
use Rattle.mc_asm.proofs.CleanLemmas.{pieces_none, pieces_there}
use Rattle.desk_draft.specs.Parts.{EndedLine, ended_lines, ended_pieces, without_comment}
use Rattle.desk_draft.specs.Declarations.{Bytes, NameMeaning, Number, Scope, fits_word, DeclarationWord, StaticWord, SessionWord, PublicWord, ConstWord, const_scope, constant, data_count, data_scope, declaration_in, declaration_of, declaration_text, declaration_words, empty_scope, gives_later, header_names, is_labelled, label_name, most_session, public_scope, public_span, scope_after, session_scope, static_count, static_scope, with_name}
use Rattle.desk_draft.specs.Operands.{instruction_text}
use Rattle.desk_draft.specs.Rules.{is_rule}
use Rattle.desk_draft.specs.Drafts.{Before, Between, Draft, DraftTurn, Mode, OpenSection, ScopeTurn, Section, Within, by_name, closed_section, coded_turn, deck_of, draft_of_lines, draft_read, draft_turn, kept_line, marked, marked_turn, new_section, nothing_before, opening_line, rule_names, scope_turn, section_line, spoken_text, spoken_turn, with_line}
use Rattle.desk_draft.proofs.FlatLemmas.{AllFlat, FlatAids, FlatNames, FlatMeaning, FlatOk, FlatScopes, flat_drop, flat_fields, flat_instruction, flat_scope_of, flat_spoken, flat_take, flat_uncommented}

-- ---- results

-- what holds of a value that was made
abbrev pub Good : {A : Type 0} → (A → Type 0) → Result A DeckCause → Type 0
Good P (Ok a) = P a
Good P (Err e) = ⊤

good_bind : {A B : Type 0} (P : A → Type 0) (Q : B → Type 0) (r : Result A DeckCause) (f : A → Result B DeckCause) → Good P r → ((a : A) → P a → Good Q (f a)) → Good Q (r >>= f)
good_bind P Q (Ok a) f h g = g a h
good_bind P Q (Err e) f h g = tt

good_then : {A B : Type 0} (Q : B → Type 0) (r : Result A DeckCause) (f : A → Result B DeckCause) → ((a : A) → Good Q (f a)) → Good Q (r >>= f)
good_then Q (Ok a) f g = g a
good_then Q (Err e) f g = tt

good_as : {A B : Type 0} (P : A → Type 0) (Q : B → Type 0) (f : A → B) (r : Result A DeckCause) → ((a : A) → P a → Q (f a)) → Good P r → Good Q (ok_as f r)
good_as P Q f (Ok a) g h = g a h
good_as P Q f (Err e) g h = tt

good_if : {A : Type 0} (P : A → Type 0) (b : Bool) (c : DeckCause) (a : A) → P a → Good P (only_if b c a)
good_if P true c a h = h
good_if P false c a h = tt

good_flat : (r : Result (List ℕ) DeckCause) → FlatOk r → Good Flat r
good_flat (Ok t) h = h
good_flat (Err e) h = tt

-- ---- what a section declares

-- the names of a section have no line feed
abbrev FlatScope : Scope → Type 0
FlatScope d = FlatNames d.names

named : (d : Scope) (n : List ℕ) (m : NameMeaning) → FlatScope d → FlatMeaning m → Good FlatScope (with_name d n m)
named d n m h k = good_if FlatScope (is_none (lookup d.names n)) NameTwice (record d { names = (n, m) ∷ d.names }) (k, h)

abbrev static_end : Scope → List ℕ → ℕ → Result Scope DeckCause
static_end d name n = ok_as (λ (e : Scope). record e { fixed = d.fixed + n }) (with_name d name (Bytes 1 (pos d.fixed) n))

abbrev static_named : Scope → List ℕ → Option (List ℕ) → List ℕ → Result Scope DeckCause
static_named d size hex name = static_count d.fixed size hex >>= static_end d name

static_flat : (d : Scope) (name size : List ℕ) (hex : Option (List ℕ)) → FlatScope d → Good FlatScope (static_scope d name size hex)
static_flat d name size hex h =
    good_bind FlatScope FlatScope (only_if (is_none d.data_bytes) BadLine d) (λ e. label_name name >>= static_named e size hex) (good_if FlatScope (is_none d.data_bytes) BadLine d h) (λ e i.
    good_then FlatScope (label_name name) (static_named e size hex) (λ n.
    good_then FlatScope (static_count e.fixed size hex) (static_end e n) (λ k.
    good_as FlatScope FlatScope (λ (x : Scope). record x { fixed = e.fixed + k }) (with_name e n (Bytes 1 (pos e.fixed) k)) (λ x y. y) (named e n (Bytes 1 (pos e.fixed) k) i tt))))

abbrev session_end : Scope → List ℕ → ℕ → Result Scope DeckCause
session_end d name n = ok_as (λ (e : Scope). record e { session = d.session + n }) (with_name d name (Bytes 3 (pos d.session) n))

abbrev session_named : Scope → List ℕ → List ℕ → Result Scope DeckCause
session_named d size name = number_field 1 (most_session - d.session) size >>= session_end d name

session_flat : (d : Scope) (name size : List ℕ) → FlatScope d → Good FlatScope (session_scope d name size)
session_flat d name size h =
    good_then FlatScope (label_name name) (session_named d size) (λ n.
    good_then FlatScope (number_field 1 (most_session - d.session) size) (session_end d n) (λ k.
    good_as FlatScope FlatScope (λ (x : Scope). record x { session = d.session + k }) (with_name d n (Bytes 3 (pos d.session) k)) (λ x y. y) (named d n (Bytes 3 (pos d.session) k) h tt)))

abbrev public_end : Scope → List ℕ → ℕ × ℕ → Result Scope DeckCause
public_end d name p = with_name d name (Bytes 6 (pos p.0) p.1)

public_flat : (d : Scope) (name at size : List ℕ) → FlatScope d → Good FlatScope (public_scope d name at size)
public_flat d name at size h =
    good_then FlatScope (label_name name) (λ n. public_span at size >>= public_end d n) (λ n.
    good_then FlatScope (public_span at size) (public_end d n) (λ p. named d n (Bytes 6 (pos p.0) p.1) h tt))

abbrev const_end : Scope → List ℕ → List ℕ → Result Scope DeckCause
const_end d name number = with_name d name (Number number)

const_flat : (d : Scope) (name number : List ℕ) → FlatScope d → Flat number → Good FlatScope (const_scope d name number)
const_flat d name number h f =
    good_then FlatScope (label_name name) (λ n. constant number >>= const_end d n) (λ n.
    good_bind Flat FlatScope (constant number) (const_end d n)
    (good_then Flat (ok_or (signed_number number) BadNumber) (λ z. only_if (fits_word z) OutOfRange number) (λ z. good_if Flat (fits_word z) OutOfRange number f))
    (λ k i. named d n (Number k) h i))

-- a declaration with fields without a line feed
scope_flat : (d : Scope) (w : DeclarationWord) (fs : List (List ℕ)) → FlatScope d → AllFlat fs → Good FlatScope (scope_after d w fs)
scope_flat d StaticWord (name ∷ size ∷ []) h k = static_flat d name size None h
scope_flat d StaticWord (name ∷ size ∷ hex ∷ []) h k = static_flat d name size (Some hex) h
scope_flat d SessionWord (name ∷ size ∷ []) h k = session_flat d name size h
scope_flat d PublicWord (name ∷ at ∷ size ∷ []) h k = public_flat d name at size h
scope_flat d ConstWord (name ∷ number ∷ []) h k = const_flat d name number h k.1.0
scope_flat d w fs h k = tt

-- the deck's line of a declaration
hex_by : (b : Bool) (t : List ℕ) → Flat t → Flat (cond b t [])
hex_by true t h = h
hex_by false t h = refl

text_flat : (later : Bool) (n : ℕ) (w : DeclarationWord) (fs : List (List ℕ)) → AllFlat fs → Flat (declaration_text later n w fs)
text_flat later n StaticWord (name ∷ size ∷ hex ∷ []) k = flat_append (codes "DATA ") hex refl k.1.1.0
text_flat later n StaticWord (name ∷ size ∷ []) k = hex_by later (codes "DATA " ++ hex_text (zeros n)) (flat_append (codes "DATA ") (hex_text (zeros n)) refl (flat_hex (zeros n)))
text_flat later n w fs k = refl

-- the fields of a declaration
declared_by : (b : Bool) (o : Option DeclarationWord) (ts : List (List ℕ)) (p : DeclarationWord × List (List ℕ)) → AllFlat ts → cond b None (option_map (λ w. (w, ts)) o) ≡ Some p → AllFlat p.1
declared_by true o ts p h e = absurd (cc e)
declared_by false None ts p h e = absurd (cc e)
declared_by false (Some w) ts p h e = let i : (w, ts) ≡ p = cc e in subst (λ (q : DeclarationWord × List (List ℕ)). AllFlat q.1) i h

declared_fields : (ts : List (List ℕ)) (p : DeclarationWord × List (List ℕ)) → AllFlat ts → declaration_of ts ≡ Some p → AllFlat p.1
declared_fields [] p h e = absurd (cc e)
declared_fields (w ∷ ts) p h e = declared_by (is_labelled ts) (lookup declaration_words w) ts p h.1 e

-- ---- a line of a section

-- the text of a line in the deck and the names after it have no line feed
record FlatTurn (t : ScopeTurn) : Type 0 where
  text : Flat t.text
  scope : FlatScope t.scope

coded_flat : (d : Scope) (l : List ℕ) (later : Bool) (o : Option (DeclarationWord × List (List ℕ))) → o ≡ declaration_in l → FlatScope d → Flat l → Good FlatTurn (coded_turn d l later o)
coded_flat d l later None e h k =
    good_as Flat FlatTurn (λ t. record { text = t; scope = d }) (instruction_text d.names l) (λ t f. record { text = f; scope = h }) (good_flat (instruction_text d.names l) (flat_instruction d.names l h k))
coded_flat d l later (Some p) e h k =
    let fs = declared_fields (fields (without_comment l)) p (flat_fields (without_comment l) (flat_uncommented l k)) (sym e) in
    good_as FlatScope FlatTurn (λ e. record { text = declaration_text later (e.fixed - d.fixed) p.0 p.1; scope = e }) (scope_after d p.0 p.1)
    (λ e f. record { text = text_flat later (e.fixed - d.fixed) p.0 p.1 fs; scope = f }) (scope_flat d p.0 p.1 h fs)

turn_flat : (b : Bool) (d : Scope) (l : List ℕ) (later : Bool) → FlatScope d → Flat l → Good FlatTurn (scope_turn b d l later)
turn_flat true d l later h k =
    good_as FlatScope FlatTurn (λ e. record { text = l; scope = e }) (data_scope d (fields l)) (λ e f. record { text = k; scope = f })
    (good_if FlatScope (d.fixed == 0) BadLine (record d { data_bytes = Some (unwrap_or d.data_bytes 0 + data_count (fields l)) }) h)
turn_flat false d l later h k = coded_flat d l later (declaration_in l) refl h k

-- ---- a line

-- what stands before a line has no line feed
abbrev FlatMode : Mode → Type 0
FlatMode Between = ⊤
FlatMode (Within s) = Flat s.aid × FlatScope s.scope

record FlatBefore (b : Before) : Type 0 where
  sections : FlatAids (by_name b.sections)
  scopes : FlatScopes b.rules.scopes
  mode : FlatMode b.mode

record FlatLine (t : DraftTurn) : Type 0 where
  text : Flat t.text
  before : FlatBefore t.before

aids_more : (ss : List Section) (s : Section) → FlatAids (by_name ss) → Flat s.sizes.aid → FlatAids (by_name (ss ++ s ∷ []))
aids_more [] s h k = (k, tt)
aids_more (x ∷ ss) s h k = (h.0, aids_more ss s h.1 k)

section_flat : (e : Bool) (b : Before) (s : OpenSection) (n : ℕ) (l : List ℕ) (later : Bool) → FlatBefore b → Flat s.aid → FlatScope s.scope → Flat l → Good FlatLine (section_line e b s n l later)
section_flat true b s n l later h a d k = record { text = k; before = record { sections = aids_more b.sections (closed_section s) h.sections a; scopes = (d, h.scopes); mode = tt } }
section_flat false b s n l later h a d k =
    good_as FlatTurn FlatLine (kept_line b s n l) (scope_turn (is_data (fields l)) s.scope l later) (λ t f. record { text = f.text; before = record { sections = h.sections; scopes = h.scopes; mode = (a, f.scope) } }) (turn_flat (is_data (fields l)) s.scope l later d k)

header_flat : FlatNames header_names
header_flat = (tt, (tt, (tt, (tt, (tt, (tt, (tt, (tt, (tt, tt)))))))))

-- the section that a line opens
abbrev FlatOpen : Option OpenSection → Type 0
FlatOpen None = ⊤
FlatOpen (Some s) = Flat s.aid × FlatScope s.scope

open_by : (b : Bool) (name aid : List ℕ) → Flat aid → FlatOpen (cond b (Some (record { name = name; aid = aid; scope = empty_scope; lines = [] })) None)
open_by true name aid h = (h, header_flat)
open_by false name aid h = tt

open_flat : (ts : List (List ℕ)) → AllFlat ts → FlatOpen (new_section ts)
open_flat [] h = tt
open_flat (a ∷ []) h = tt
open_flat (a ∷ b ∷ []) h = tt
open_flat (a ∷ b ∷ c ∷ []) h = open_by (bytes_eq a (codes "app")) b c h.1.1.0
open_flat (a ∷ b ∷ c ∷ d ∷ ts) h = tt

opening_flat : (o : Option OpenSection) (b : Before) (l : List ℕ) → FlatOpen o → FlatBefore b → Flat l → Good FlatLine (opening_line o b l)
opening_flat (Some s) b l o h k = record { text = k; before = record { sections = h.sections; scopes = h.scopes; mode = o } }
opening_flat None b l o h k =
    good_as Flat FlatLine (spoken_turn b l) (spoken_text b l) (λ t f. record { text = f; before = record { sections = h.sections; scopes = h.scopes; mode = h.mode } })
    (good_flat (spoken_text b l) (flat_spoken (b.rules.is_draft && is_rule l) (by_name b.sections) (rule_names b.rules) l h.sections (flat_scope_of b.rules.scopes b.rules.app header_names h.scopes header_flat) k))

line_flat : (m : Mode) (b : Before) (n : ℕ) (l : List ℕ) (later : Bool) → m ≡ b.mode → FlatBefore b → Flat l → Good FlatLine (draft_turn m b n l later)
line_flat Between b n l later e h k = opening_flat (new_section (fields l)) b l (open_flat (fields l) (flat_fields l k)) h k
line_flat (Within s) b n l later e h k =
    let m : FlatMode (Within s) = subst FlatMode (sym e) h.mode in
    section_flat (is_end (fields l)) b s n l later h m.0 m.1 k

marked_flat : (b : Before) (n : ℕ) (l : List ℕ) (later : Bool) → FlatBefore b → Flat l → Good FlatLine (marked_turn b n l later)
marked_flat b n l later h k =
    good_as FlatLine FlatLine (marked l) (draft_turn b.mode b n l later) (λ t f. record { text = f.text; before = record { sections = f.before.sections; scopes = f.before.scopes; mode = f.before.mode } }) (line_flat b.mode b n l later refl h k)

-- ---- lines and what ends them

-- texts without a line feed, each ended by one but the last
abbrev Ended : List EndedLine → Type 0
Ended [] = ⊥
Ended (l ∷ []) = Flat l.text × (l.ending ≡ [])
Ended (l ∷ k ∷ ls) = Flat l.text × ((e : List ℕ) × Flat e × (l.ending ≡ e ++ 10 ∷ [])) × Ended (k ∷ ls)

returned_by : (b : Bool) (p q : List ℕ) → Flat p → Flat q → Flat (cond b q p)
returned_by true p q h k = k
returned_by false p q h k = h

unreturned : (p : List ℕ) → Flat p → Flat (without_return p)
unreturned p h = returned_by (slice_index p (length p - 1) == 13) p (take (length p - 1) p) h (flat_take (length p - 1) p h)

ended_all : (p : List ℕ) (ps : List (List ℕ)) → AllFlat (p ∷ ps) → Ended (ended_pieces (p ∷ ps))
ended_all p [] h = (h.0, refl)
ended_all p (q ∷ []) h = (unreturned p h.0, (drop (length (without_return p)) p, flat_drop (length (without_return p)) p h.0, refl), ended_all q [] h.1)
ended_all p (q ∷ r ∷ ps) h = (unreturned p h.0, (drop (length (without_return p)) p, flat_drop (length (without_return p)) p h.0, refl), ended_all q (r ∷ ps) h.1)

pub many_by : (b : Bool) (c : ℕ) (ps : List (List ℕ)) → (p : List ℕ) × (qs : List (List ℕ)) × (ps ≡ p ∷ qs) → (p : List ℕ) × (qs : List (List ℕ)) × (pieces_with_character b c ps ≡ p ∷ qs)
many_by true c ps h = ([], ps, refl)
many_by false c ps h = (c ∷ h.0, h.1, ap (pieces_with_character false c) h.2)

pub some_pieces : (f : ℕ → Bool) (t : List ℕ) → (p : List ℕ) × (qs : List (List ℕ)) × (pieces f t ≡ p ∷ qs)
some_pieces f [] = ([], [], refl)
some_pieces f (c ∷ t) = many_by (f c) c (pieces f t) (some_pieces f t)

-- the pieces between line feeds have none
unfed_by : (b : Bool) (c : ℕ) (ps : List (List ℕ)) → (c == 10) ≡ b → AllFlat ps → AllFlat (pieces_with_character b c ps)
unfed_by true c ps e h = (refl, h)
unfed_by false c [] e h = (rw e refl, tt)
unfed_by false c (p ∷ ps) e h = (rw (e, h.0) refl, h.1)

unfed_pieces : (t : List ℕ) → AllFlat (pieces (λ c. c == 10) t)
unfed_pieces [] = (refl, tt)
unfed_pieces (c ∷ t) = unfed_by (c == 10) c (pieces (λ c. c == 10) t) refl (unfed_pieces t)

ended_is : (t : List ℕ) → Ended (ended_lines t)
ended_is t =
    let s = some_pieces (λ c. c == 10) t in
    subst (λ (ps : List (List ℕ)). Ended (ended_pieces ps)) (sym s.2) (ended_all s.0 s.1 (subst AllFlat s.2 (unfed_pieces t)))

as_many : (ps : List (List ℕ)) → length (ended_pieces ps) ≡ length ps
as_many [] = refl
as_many (p ∷ []) = refl
as_many (p ∷ q ∷ ps) = ap suc (as_many (q ∷ ps))

-- ---- the deck

abbrev lines_in : List ℕ → ℕ
lines_in t = length (pieces (λ c. c == 10) t)

one_line : (t : List ℕ) → Flat t → lines_in t ≡ 1
one_line t h = ap length (pieces_none (λ c. c == 10) t h)

more_lines : (t e rest : List ℕ) → Flat t → Flat e → lines_in (t ++ (e ++ 10 ∷ []) ++ rest) ≡ suc (lines_in rest)
more_lines t e rest h k =
    ap lines_in (append_assoc t (e ++ 10 ∷ []) rest ∙ ap (λ x. t ++ x) (append_assoc e (10 ∷ []) rest) ∙ sym (append_assoc t e (10 ∷ rest)))
    ∙ ap length (pieces_there (λ c. c == 10) (t ++ e) 10 rest (flat_append t e h k) refl)

-- the last line, and a line before others
last_by : (n : ℕ) (l : EndedLine) (d : Draft) (r : Result DraftTurn DeckCause) → Good FlatLine r → l.ending ≡ []
    → (err_as {F = ℕ × DeckCause} (λ c. (n, c)) r >>= λ t. Ok (record { deck = t.text ++ l.ending ++ []; sections = t.before.sections })) ≡ Ok d → lines_in d.deck ≡ 1
last_by n l d (Err e) f k h = absurd (cc h)
last_by n l d (Ok t) f k h =
    let i : record { deck = t.text ++ l.ending ++ []; sections = t.before.sections } ≡ d = cc h in
    subst (λ (y : Draft). lines_in y.deck ≡ 1) i (ap (λ e. lines_in (t.text ++ e ++ [])) k ∙ ap lines_in (append-nil (t.text ++ []) ∙ append-nil t.text) ∙ one_line t.text f.text)

more_by : (t : DraftTurn) (l : EndedLine) (d : Draft) (m : ℕ) (q : Result Draft (ℕ × DeckCause)) → Flat t.text → (e : List ℕ) × Flat e × (l.ending ≡ e ++ 10 ∷ []) → ((x : Draft) → q ≡ Ok x → lines_in x.deck ≡ m)
    → ok_as (with_line t.text l.ending) q ≡ Ok d → lines_in d.deck ≡ suc m
more_by t l d m (Err x) f e g h = absurd (cc h)
more_by t l d m (Ok x) f e g h =
    let i : with_line t.text l.ending x ≡ d = cc h in
    subst (λ (y : Draft). lines_in y.deck ≡ suc m) i (ap (λ z. lines_in (t.text ++ z ++ x.deck)) e.2 ∙ more_lines t.text e.0 x.deck f e.1 ∙ ap suc (g x refl))

step_by : (n : ℕ) (l : EndedLine) (ls : List (ℕ × EndedLine)) (d : Draft) (m : ℕ) (r : Result DraftTurn DeckCause) → Good FlatLine r → (e : List ℕ) × Flat e × (l.ending ≡ e ++ 10 ∷ [])
    → ((t : DraftTurn) (x : Draft) → FlatBefore t.before → draft_of_lines t.before ls ≡ Ok x → lines_in x.deck ≡ m)
    → (err_as {F = ℕ × DeckCause} (λ c. (n, c)) r >>= λ t. ok_as (with_line t.text l.ending) (draft_of_lines t.before ls)) ≡ Ok d → lines_in d.deck ≡ suc m
step_by n l ls d m (Err x) f e g h = absurd (cc h)
step_by n l ls d m (Ok t) f e g h = more_by t l d m (draft_of_lines t.before ls) f.text e (λ x i. g t x f.before i) h

-- the deck has as many lines as those of the draft
drafted_lines : (b : Before) (n : ℕ) (ls : List EndedLine) (d : Draft) → FlatBefore b → Ended ls → draft_of_lines b (with_numbers n ls) ≡ Ok d → lines_in d.deck ≡ length ls
unfolding draft_of_lines
drafted_lines b n [] d h e i = absurd e
drafted_lines b n (l ∷ []) d h e i = last_by n l d (marked_turn b n l.text (gives_later [])) (marked_flat b n l.text (gives_later []) h e.0) e.1 i
drafted_lines b n (l ∷ k ∷ ls) d h e i =
    let later = gives_later (map (λ (m : ℕ × EndedLine). (m.1).text) (with_numbers (suc n) (k ∷ ls))) in
    step_by n l (with_numbers (suc n) (k ∷ ls)) d (length (k ∷ ls)) (marked_turn b n l.text later) (marked_flat b n l.text later h e.0) e.1
    (λ t x f j. drafted_lines t.before (suc n) (k ∷ ls) x f e.2 j) i

deck_by : (r : Result Draft (ℕ × DeckCause)) (deck : List ℕ) (m : ℕ) → ((d : Draft) → r ≡ Ok d → lines_in d.deck ≡ m) → ok_as (λ d. d.deck) r ≡ Ok deck → lines_in deck ≡ m
deck_by (Err e) deck m f h = absurd (cc h)
deck_by (Ok d) deck m f h = let i : d.deck ≡ deck = cc h in subst (λ x. lines_in x ≡ m) i (f d refl)

-- a draft and its deck have as many lines
pub lines_stay : (draft deck : List ℕ) → deck_of draft ≡ Ok deck → length (pieces (λ c. c == 10) deck) ≡ length (pieces (λ c. c == 10) draft)
unfolding deck_of draft_read
lines_stay draft deck h =
    deck_by (draft_of_lines nothing_before (with_numbers 1 (ended_lines draft))) deck (length (ended_lines draft)) (λ d i. drafted_lines nothing_before 1 (ended_lines draft) d (record { sections = tt; scopes = tt; mode = tt }) (ended_is draft) i) h
    ∙ as_many (pieces (λ c. c == 10) draft)
