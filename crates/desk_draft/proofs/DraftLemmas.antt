-- Drafts line by line: sections that open and end, lines that are taken or refused, and the whole draft.
use Rattle.std.proofs.Common.{◌≡◌, ℕ, ◌+◌, ◌-◌, Bool, true, false, cond, List, [], ◌∷◌, ◌++◌, length, take, drop, Bor, Option, Some, None, Result, Ok, Err, refl, sym, ap, subst, ◌∙◌, append_assoc, append-nil}
use Rattle.std.specs.Prelude.{bytes_eq, codes, map, not, unwrap_or, ◌==◌, ◌&&◌}
use Rattle.std.specs.BTreeMap.{BTreeMap}
use Rattle.std.proofs.lemmas.List.{drop_at}
use Rattle.mc_text.specs.model_text.specs.Text.{◌>>=◌, ok_as, err_as, only_if, fields}
use Rattle.mc_deck.specs.model_play.specs.DeckGrammar.{is_data}
use Rattle.mc_deck.specs.model_play.specs.declared.deck.DeckCause.{DeckCause}
use Rattle.mc_deck.specs.model_play.specs.declared.deck.DeckCause.TheVariants.{BadLine}
use Rattle.mc_deck.specs.declared.refusal.Fault.{Fault}
use Rattle.mc_deck.specs.declared.refusal.Fault.TheVariants as fault
use Rattle.mc_deck.specs.Refused.{Faulty}
use Rattle.desk_draft.specs.Declarations
use Rattle.desk_draft.specs.Declarations.{DeclarationWord, NameMeaning, data_count, data_scope, declaration_in, declaration_text, gives_later, scope_after}
use Rattle.desk_draft.specs.Operands.{instruction_text}
use Rattle.desk_draft.specs.Statements.{Loadable, statement_text}
use Rattle.desk_draft.specs.Rules.{is_rule, rule_text}
use Rattle.desk_draft.specs.Parts.{EndedLine}
use Rattle.desk_draft.specs.Drafts
use Rattle.desk_draft.specs.Drafts.{Before, Between, Draft, DraftTurn, Mode, Rules, Within, by_name, closed_section, coded_turn, draft_of_lines, draft_turn, ended_before, ended_rules, kept_line, marked, marked_rules, marked_turn, new_section, opening_line, rule_names, rules_after, scope_turn, section_line, sizes_of, spoken_text, spoken_turn, static_size, with_line}
use Rattle.desk_draft.specs.declared.declaration.Declaration.{Declaration}
use Rattle.desk_draft.specs.declared.draft.OpenSection.{OpenSection}
use Rattle.desk_draft.specs.declared.known.Known.{Known}
use Rattle.desk_draft.specs.declared.scope.Scope.{Scope}
use Rattle.desk_draft.specs.declared.statement.Sizes.{Sizes}
use Rattle.desk_draft.specs.Views.{AreNames, AreScopes, AreSections, Declares, DeclaresMaybe, EndedLineTurned, Knows, LineTurned, OpensSection, Pushes, ScopeTurned, Stands, StandsMode, StandsSection, TakesScope, scope_by, scope_of, text_by}

abbrev Names : Type 0
Names = List (List ℕ × NameMeaning)

-- ---- sections

five_fields : (ts : List (List ℕ)) → new_section (take 5 ts) ≡ new_section ts
five_fields [] = refl
five_fields (a ∷ []) = refl
five_fields (a ∷ b ∷ []) = refl
five_fields (a ∷ b ∷ c ∷ []) = refl
five_fields (a ∷ b ∷ c ∷ d ∷ ts) = refl

-- the first five fields determine what a line opens
pub opens_five : (o : Option OpenSection) (fs ts : List (List ℕ)) → fs ≡ take 5 ts → OpensSection o (new_section fs) → OpensSection o (new_section ts)
opens_five o fs ts e h = subst (λ (x : Option Drafts.OpenSection). OpensSection o x) (ap new_section e ∙ five_fields ts) h

pub opens_app : (s : OpenSection) (word name aid : List ℕ) → bytes_eq word (codes "app") ≡ true → StandsSection s (record { name = name; aid = aid; scope = Declarations.empty_scope; lines = [] })
    → OpensSection (Some s) (new_section (word ∷ name ∷ aid ∷ []))
opens_app s word name aid h e = subst (λ (b : Bool). OpensSection (Some s) (cond b (Some (record { name = name; aid = aid; scope = Declarations.empty_scope; lines = [] })) None)) (sym h) e

pub opens_none : (word name aid : List ℕ) → bytes_eq word (codes "app") ≡ false → OpensSection None (new_section (word ∷ name ∷ aid ∷ []))
opens_none word name aid h = subst (λ (b : Bool). OpensSection None (cond b (Some (record { name = name; aid = aid; scope = Declarations.empty_scope; lines = [] })) None)) (sym h) tt

-- what a `load` of a section's name stands for
pub sizes_stand : (s : OpenSection) (t : Drafts.OpenSection) (n : ℕ) → StandsSection s t → n ≡ static_size (scope_of s.scope t.scope.names) → (record { aid = s.aid.now; fixed = n; session = s.scope.session }) ≡ sizes_of t
sizes_stand s t n h e =
    let f : n ≡ static_size t.scope = e ∙ ap static_size h.scope in
    let g : s.scope.session ≡ t.scope.session = ap (λ (x : Declarations.Scope). x.session) h.scope in
    let a : Loadable = record { aid = s.aid.now; fixed = n; session = s.scope.session } in
    ap (λ x. record a { aid = x }) h.aid ∙ ap (λ x. record { aid = t.aid; fixed = x; session = s.scope.session }) f ∙ ap (λ x. record { aid = t.aid; fixed = static_size t.scope; session = x }) g

by_name_more : (ss : List Drafts.Section) (s : Drafts.Section) → by_name (ss ++ s ∷ []) ≡ by_name ss ++ (s.name, s.sizes) ∷ []
by_name_more [] s = refl
by_name_more (x ∷ ss) s = ap (λ l. (x.name, x.sizes) ∷ l) (by_name_more ss s)

-- a section that has ended is kept by its name
pub section_kept : (m : BTreeMap (Bor (List ℕ)) Sizes) (ss : List Drafts.Section) (n : List ℕ) (t : Drafts.OpenSection) (z : Loadable) → n ≡ t.name → z ≡ sizes_of t → AreSections m (by_name ss ++ (n, z) ∷ []) → AreSections m (by_name (ss ++ closed_section t ∷ []))
section_kept m ss n t z h e a =
    let f : (n, z) ≡ (t.name, sizes_of t) = ap (λ n. (n, z)) h ∙ ap (λ x. (t.name, x)) e in
    subst (λ (l : List (List ℕ × Loadable)). AreSections m l) (ap (λ p. by_name ss ++ p ∷ []) f ∙ sym (by_name_more ss (closed_section t))) a

-- what is known after the end of a section
pub knows_ended : (k m : Known) (ss : List Drafts.Section) (r : Rules) (t : Drafts.OpenSection) (n : List ℕ) (z : Loadable) → Knows k ss r → n ≡ t.name → z ≡ sizes_of t → AreSections m.sections (by_name ss ++ (n, z) ∷ [])
    → AreScopes m.scopes ((n, t.scope.names) ∷ r.scopes) → m.app ≡ k.app → m.is_draft ≡ k.is_draft → Knows m (ss ++ closed_section t ∷ []) (ended_rules t r)
knows_ended k m ss r t n z h e f a b i j = record {
  sections = section_kept m.sections ss n t z e f a;
  scopes = subst (λ (x : List ℕ). AreScopes m.scopes ((x, t.scope.names) ∷ r.scopes)) e b;
  app = ap (λ (x : Bor (List ℕ)). x.now) i ∙ h.app;
  is_draft = j ∙ h.is_draft;
}

-- a rule or a statement, by whether it is a rule of a draft
pub ruled_pushed : (b : Before) (l d n : List ℕ) (x : Bool) (p : Result (Unit {0}) Fault) → x ≡ b.rules.is_draft → (x && is_rule l) ≡ true → Pushes d (rule_text (by_name b.sections) (rule_names b.rules) l) p n → Pushes d (spoken_text b l) p n
ruled_pushed b l d n x p e h k =
    let i : (b.rules.is_draft && is_rule l) ≡ true = ap (λ (y : Bool). y && is_rule l) (sym e) ∙ h in
    let j : rule_text (by_name b.sections) (rule_names b.rules) l ≡ spoken_text b l = rw i refl in
    subst (λ (r : Result (List ℕ) DeckCause). Pushes d r p n) j k

pub statement_pushed : (b : Before) (l d n : List ℕ) (x : Bool) (p : Result (Unit {0}) Fault) → x ≡ b.rules.is_draft → (x && is_rule l) ≡ false → Pushes d (statement_text (by_name b.sections) l) p n → Pushes d (spoken_text b l) p n
statement_pushed b l d n x p e h k =
    let i : (b.rules.is_draft && is_rule l) ≡ false = ap (λ (y : Bool). y && is_rule l) (sym e) ∙ h in
    let j : statement_text (by_name b.sections) l ≡ spoken_text b l = rw i refl in
    subst (λ (r : Result (List ℕ) DeckCause). Pushes d r p n) j k

-- ---- refusals

faulty_ok_as : {A B : Type 0} (f : A → B) (r : Result A DeckCause) (e : Fault) → Faulty r e → Faulty (ok_as f r) e
faulty_ok_as f r (fault.Cause c) h = rw h refl
faulty_ok_as f r fault.NoMemory h = tt

faulty_same : {A : Type 0} (r s : Result A DeckCause) (e : Fault) → r ≡ s → Faulty r e → Faulty s e
faulty_same r s e i h = subst (λ x. Faulty x e) i h

-- ---- lines of a section

-- a DATA line
count_five : (ts : List (List ℕ)) → data_count (take 5 ts) ≡ data_count ts
count_five [] = refl
count_five (a ∷ []) = refl
count_five (a ∷ b ∷ []) = refl
count_five (a ∷ b ∷ c ∷ ts) = refl

data_five : (d : Declarations.Scope) (ts fs : List (List ℕ)) → fs ≡ take 5 ts → data_scope d fs ≡ data_scope d ts
data_five d ts fs e =
    ap (data_scope d) e ∙ ap (λ n. only_if (d.fixed == 0) BadLine (record d { data_bytes = Some (unwrap_or d.data_bytes 0 + n) })) (count_five ts)

pub data_turned : (d : Declarations.Scope) (l old new : List ℕ) (fs : List (List ℕ)) (later : Bool) (s : Scope) → fs ≡ take 5 (fields l) → TakesScope s (Ok tt) (data_scope d fs) → new ≡ old ++ l → ScopeTurned old new s (Ok tt) (scope_turn true d l later)
data_turned d l old new fs later s f h e =
    (l, h.0, h.1, ap (ok_as (λ (e : Declarations.Scope). record { text = l; scope = e })) (sym (data_five d (fields l) fs f) ∙ h.2), e)

pub data_faulty : (d : Declarations.Scope) (l : List ℕ) (fs : List (List ℕ)) (later : Bool) (x : Fault) → fs ≡ take 5 (fields l) → Faulty (data_scope d fs) x → Faulty (scope_turn true d l later) x
data_faulty d l fs later x f h =
    faulty_ok_as (λ (e : Declarations.Scope). record { text = l; scope = e }) (data_scope d (fields l)) x (faulty_same (data_scope d fs) (data_scope d (fields l)) x (data_five d (fields l) fs f) h)

-- a declaration
pub declaration_turned : (d : Declarations.Scope) (l old new : List ℕ) (later : Bool) (s : Scope) (k : Declaration) (w : DeclarationWord) (fs : List (List ℕ)) → Declares k w fs → TakesScope s (Ok tt) (scope_by d k) → new ≡ old ++ text_by later (s.fixed - d.fixed) k
    → ScopeTurned old new s (Ok tt) (coded_turn d l later (Some (w, fs)))
declaration_turned d l old new later s k w fs g h e =
    let n = s.fixed - d.fixed in
    let i : scope_after d w fs ≡ Ok (scope_of s h.0) = sym (g.scope d) ∙ h.2 in (
      text_by later n k,
      h.0,
      h.1,
      ap (ok_as (λ e. record { text = declaration_text later (e.fixed - d.fixed) w fs; scope = e })) i ∙ ap (λ t. Ok (record { text = t; scope = scope_of s h.0 })) (sym (g.text later n)),
      e,
    )

pub declaration_faulty : (d : Declarations.Scope) (l : List ℕ) (later : Bool) (k : Declaration) (w : DeclarationWord) (fs : List (List ℕ)) (x : Fault) → Declares k w fs → Faulty (scope_by d k) x → Faulty (coded_turn d l later (Some (w, fs))) x
declaration_faulty d l later k w fs x g h =
    faulty_ok_as (λ e. record { text = declaration_text later (e.fixed - d.fixed) w fs; scope = e }) (scope_after d w fs) x (faulty_same (scope_by d k) (scope_after d w fs) x (g.scope d) h)

-- an instruction
pub instruction_turned : (n : Names) (l old new : List ℕ) (later : Bool) (s : Scope) (p : Result (Unit {0}) Fault) → AreNames s.names n → Pushes old (instruction_text n l) p new → ScopeTurned old new s p (coded_turn (scope_of s n) l later None)
instruction_turned n l old new later s (Ok u) a h = pushed_by (instruction_text n l) h
  where
    pushed_by : (r : Result (List ℕ) DeckCause) → ok_as (λ t. old ++ t) r ≡ Ok new → ScopeTurned old new s (Ok u) (ok_as (λ t. record { text = t; scope = scope_of s n }) r)
    pushed_by (Ok t) h = let i : old ++ t ≡ new = cc h in (t, n, a, refl, sym i)
    pushed_by (Err c) h = absurd (cc h)
instruction_turned n l old new later s (Err e) a h = faulty_ok_as (λ t. record { text = t; scope = scope_of s n }) (instruction_text n l) e h

-- a line that is no DATA line, by its declaration
pub coded_some : (d : Declarations.Scope) (l old new : List ℕ) (later : Bool) (s : Scope) (p : Result (Unit {0}) Fault) (k : Declaration) (o : Option Declaration) (f : Option (DeclarationWord × List (List ℕ))) → o ≡ Some k → DeclaresMaybe o f
    → ((w : DeclarationWord) (fs : List (List ℕ)) → Declares k w fs → ScopeTurned old new s p (coded_turn d l later (Some (w, fs)))) → ScopeTurned old new s p (coded_turn d l later f)
coded_some d l old new later s p k None f e h g = absurd (cc e)
coded_some d l old new later s p k (Some j) None e h g = absurd h
coded_some d l old new later s p k (Some j) (Some x) e h g =
    let i : j ≡ k = cc e in
    g x.0 x.1 (subst (λ (y : Declaration). Declares y x.0 x.1) i h)

pub coded_none : (d : Declarations.Scope) (l old new : List ℕ) (later : Bool) (s : Scope) (p : Result (Unit {0}) Fault) (o : Option Declaration) (f : Option (DeclarationWord × List (List ℕ))) → o ≡ None → DeclaresMaybe o f
    → ScopeTurned old new s p (coded_turn d l later None) → ScopeTurned old new s p (coded_turn d l later f)
coded_none d l old new later s p (Some j) f e h g = absurd (cc e)
coded_none d l old new later s p None (Some x) e h g = absurd h
coded_none d l old new later s p None None e h g = g

-- a line of a section, by whether it is a DATA line
pub scope_by_data : (d : Declarations.Scope) (l old new : List ℕ) (later b : Bool) (s : Scope) (p : Result (Unit {0}) Fault) → b ≡ true → ScopeTurned old new s p (scope_turn true d l later) → ScopeTurned old new s p (scope_turn b d l later)
scope_by_data d l old new later b s p e h = subst (λ (x : Bool). ScopeTurned old new s p (scope_turn x d l later)) (sym e) h

pub scope_by_code : (d : Declarations.Scope) (l old new : List ℕ) (later b : Bool) (s : Scope) (p : Result (Unit {0}) Fault) → b ≡ false → ScopeTurned old new s p (coded_turn d l later (declaration_in l)) → ScopeTurned old new s p (scope_turn b d l later)
scope_by_code d l old new later b s p e h = subst (λ (x : Bool). ScopeTurned old new s p (scope_turn x d l later)) (sym e) h

-- ---- lines between sections

-- a line that opens a section
pub opening_turned : (o : Option Drafts.OpenSection) (b : Before) (l old new : List ℕ) (m : Known) (s : OpenSection) → OpensSection (Some s) o → new ≡ old ++ l → Knows m b.sections b.rules → LineTurned old new m (Some s) (opening_line o b l)
opening_turned None b l old new m s h e a = absurd h
opening_turned (Some t) b l old new m s h e a = record {
  turn = record { text = l; before = record b { mode = Within t } };
  is = refl;
  text = e;
  stands = record { knows = a; mode = h };
}

-- a rule or a statement
spoken_by : (r : Result (List ℕ) DeckCause) (b : Before) (l old new : List ℕ) (m : Known) → ok_as (λ t. old ++ t) r ≡ Ok new → StandsMode None b.mode → Knows m b.sections (rules_after b.rules l) → LineTurned old new m None (ok_as (spoken_turn b l) r)
spoken_by (Err e) b l old new m h s k = absurd (cc h)
spoken_by (Ok t) b l old new m h s k =
    let i : old ++ t ≡ new = cc h in
    record { turn = spoken_turn b l t; is = refl; text = sym i; stands = record { knows = k; mode = s } }

pub spoken_turned : (o : Option Drafts.OpenSection) (b : Before) (l old new : List ℕ) (m : Known) → OpensSection None o → StandsMode None b.mode → ok_as (λ t. old ++ t) (spoken_text b l) ≡ Ok new → Knows m b.sections (rules_after b.rules l) → LineTurned old new m None (opening_line o b l)
spoken_turned (Some t) b l old new m h s e k = absurd h
spoken_turned None b l old new m h s e k = spoken_by (spoken_text b l) b l old new m e s k

pub spoken_refused : (o : Option Drafts.OpenSection) (b : Before) (l : List ℕ) (x : Fault) → OpensSection None o → Faulty (spoken_text b l) x → Faulty (opening_line o b l) x
spoken_refused (Some t) b l x h e = absurd h
spoken_refused None b l x h e = faulty_ok_as (spoken_turn b l) (spoken_text b l) x e

-- ---- a line of an open section

-- the end of a section
pub end_turned : (b : Before) (t : Drafts.OpenSection) (n : ℕ) (l old new : List ℕ) (later e : Bool) (m : Known) → e ≡ true → new ≡ old ++ l → Knows m (b.sections ++ closed_section t ∷ []) (ended_rules t b.rules) → LineTurned old new m None (section_line e b t n l later)
end_turned b t n l old new later e m i h a = subst (λ (e : Bool). LineTurned old new m None (section_line e b t n l later)) (sym i) (record {
  turn = record { text = l; before = ended_before t b };
  is = refl;
  text = h;
  stands = record { knows = a; mode = tt };
})

-- a line that the section keeps
pub line_kept : (b : Before) (t : Drafts.OpenSection) (n : ℕ) (l old new : List ℕ) (later e : Bool) (m : Known) (s z : OpenSection) → e ≡ false → StandsSection s t → z.name ≡ s.name → z.aid ≡ s.aid → Knows m b.sections b.rules
    → ScopeTurned old new z.scope (Ok tt) (scope_turn (is_data (fields l)) (scope_of s.scope t.scope.names) l later) → LineTurned old new m (Some z) (section_line e b t n l later)
line_kept b t n l old new later e m s z i h f g a k =
    let r : scope_turn (is_data (fields l)) t.scope l later ≡ Ok (record { text = k.0; scope = scope_of z.scope k.1 }) =
    ap (λ d. scope_turn (is_data (fields l)) d l later) (sym h.scope) ∙ k.3 in
    subst (λ (e : Bool). LineTurned old new m (Some z) (section_line e b t n l later)) (sym i) (record {
      turn = kept_line b t n l (record { text = k.0; scope = scope_of z.scope k.1 });
      is = ap (ok_as (kept_line b t n l)) r;
      text = k.4;
      stands = record { knows = a; mode = record { names = k.2; name = ap (λ x. x.now) f ∙ h.name; aid = ap (λ x. x.now) g ∙ h.aid; scope = refl } };
    })

pub line_faulty : (b : Before) (t : Drafts.OpenSection) (n : ℕ) (l : List ℕ) (later e : Bool) (s : OpenSection) (x : Fault) → e ≡ false → StandsSection s t → Faulty (scope_turn (is_data (fields l)) (scope_of s.scope t.scope.names) l later) x
    → Faulty (section_line e b t n l later) x
line_faulty b t n l later e s x i h k =
    subst (λ (e : Bool). Faulty (section_line e b t n l later) x) (sym i) (
    faulty_ok_as (kept_line b t n l) (scope_turn (is_data (fields l)) t.scope l later) x (
    faulty_same (scope_turn (is_data (fields l)) (scope_of s.scope t.scope.names) l later) (scope_turn (is_data (fields l)) t.scope l later) x (ap (λ d. scope_turn (is_data (fields l)) d l later) h.scope) k))

-- ---- a line

pub line_ended : (old mid new ending : List ℕ) (m : Known) (s : Option OpenSection) (r : Result DraftTurn DeckCause) → LineTurned old mid m s r → new ≡ mid ++ ending → EndedLineTurned old new ending m s r
line_ended old mid new ending m s r h e = record {
  turn = h.turn;
  is = h.is;
  text = e ∙ ap (λ x. x ++ ending) h.text;
  stands = h.stands;
}

-- a line after which it is known whether it became another one
pub line_marked : (old new l : List ℕ) (m n : Known) (s : Option OpenSection) (b : Before) (k : ℕ) (later : Bool) → LineTurned old new m s (draft_turn b.mode b k l later)
    → ((ss : List Drafts.Section) (r : Rules) → Knows m ss r → Knows n ss (marked_rules r (not (bytes_eq (drop (length old) new) l)))) → LineTurned old new n s (marked_turn b k l later)
line_marked old new l m n s b k later h f =
    let t = h.turn in
    let same : drop (length old) new ≡ t.text = ap (drop (length old)) h.text ∙ drop_at old t.text (length old) refl in
    let knows = subst (λ (x : List ℕ). Knows n t.before.sections (marked_rules t.before.rules (not (bytes_eq x l)))) same (f t.before.sections t.before.rules h.stands.knows) in
    record {
      turn = marked l t;
      is = ap (ok_as (marked l)) h.is;
      text = h.text;
      stands = record { knows = knows; mode = h.stands.mode };
    }

pub mark_faulty : (l : List ℕ) (b : Before) (k : ℕ) (later : Bool) (x : Fault) → Faulty (draft_turn b.mode b k l later) x → Faulty (marked_turn b k l later) x
mark_faulty l b k later x h = faulty_ok_as (marked l) (draft_turn b.mode b k l later) x h

-- a line between sections, and a line of a section that is open
pub mode_between : (m : Known) (b : Before) → Stands m None b → b.mode ≡ Between
mode_between m b h = between_by b.mode h.mode
  where
    between_by : (d : Mode) → StandsMode None d → d ≡ Between
    between_by Between h = refl
    between_by (Within t) h = absurd h

pub mode_within : (m : Known) (b : Before) (s : OpenSection) → Stands m (Some s) b → (t : Drafts.OpenSection) × (b.mode ≡ Within t) × StandsSection s t
mode_within m b s h = within_by b.mode h.mode
  where
    within_by : (d : Mode) → StandsMode (Some s) d → (t : Drafts.OpenSection) × (d ≡ Within t) × StandsSection s t
    within_by Between h = absurd h
    within_by (Within t) h = (t, refl, h)

-- ---- all lines

-- a draft after a deck
abbrev pub with_front : List ℕ → Draft → Draft
with_front so d = record d { deck = so ++ d.deck }

-- the draft of the deck so far and the lines that are left, or the refusal of one of these
abbrev pub left_draft : List ℕ → Before → List (ℕ × EndedLine) → Result Draft (ℕ × DeckCause)
left_draft so b ls = ok_as (with_front so) (draft_of_lines b ls)

lines_step : (b : Before) (l : ℕ × EndedLine) (ls : List (ℕ × EndedLine))
    → draft_of_lines b (l ∷ ls) ≡ (err_as (λ c. (l.0, c)) (marked_turn b l.0 (l.1).text (gives_later (map (λ m. (m.1).text) ls))) >>= λ t. ok_as (with_line t.text (l.1).ending) (draft_of_lines t.before ls))
unfolding draft_of_lines
lines_step b l ls = refl

lines_end : (b : Before) → draft_of_lines b [] ≡ Ok (record { deck = []; sections = b.sections })
unfolding draft_of_lines
lines_end b = refl

deck_after : (so text ending : List ℕ) (r : Result Draft (ℕ × DeckCause)) → ok_as (with_front (so ++ text ++ ending)) r ≡ ok_as (with_front so) (ok_as (with_line text ending) r)
deck_after so text ending (Ok d) =
    ap (λ x. Ok (record d { deck = x })) (append_assoc (so ++ text) ending d.deck ∙ append_assoc so text (ending ++ d.deck) ∙ ap (λ x. so ++ x) (sym (append_assoc text ending d.deck)))
deck_after so text ending (Err e) = refl

-- one more line
pub line_taken : (so new : List ℕ) (b : Before) (n : ℕ) (l : EndedLine) (later : Bool) (ls : List (ℕ × EndedLine)) (t : DraftTurn) (whole : Result Draft (ℕ × DeckCause)) → later ≡ gives_later (map (λ m. (m.1).text) ls)
    → marked_turn b n l.text later ≡ Ok t → new ≡ so ++ t.text ++ l.ending → left_draft so b ((n, l) ∷ ls) ≡ whole → left_draft new t.before ls ≡ whole
line_taken so new b n l later ls t whole f h e w =
    let i : marked_turn b n l.text (gives_later (map (λ m. (m.1).text) ls)) ≡ Ok t = ap (marked_turn b n l.text) (sym f) ∙ h in
    ap (λ x. left_draft x t.before ls) e
    ∙ deck_after so t.text l.ending (draft_of_lines t.before ls)
    ∙ ap (ok_as (with_front so)) (sym (lines_step b (n, l) ls ∙ ap (λ r. err_as (λ c. (n, c)) r >>= λ (t : DraftTurn). ok_as (with_line t.text l.ending) (draft_of_lines t.before ls)) i))
    ∙ w

-- a line that is refused
pub line_refused : (so : List ℕ) (b : Before) (n : ℕ) (l : EndedLine) (later : Bool) (ls : List (ℕ × EndedLine)) (c : DeckCause) (whole : Result Draft (ℕ × DeckCause)) → later ≡ gives_later (map (λ m. (m.1).text) ls)
    → marked_turn b n l.text later ≡ Err c → left_draft so b ((n, l) ∷ ls) ≡ whole → whole ≡ Err (n, c)
line_refused so b n l later ls c whole f h w =
    let i : marked_turn b n l.text (gives_later (map (λ m. (m.1).text) ls)) ≡ Err c = ap (marked_turn b n l.text) (sym f) ∙ h in
    sym w ∙ ap (ok_as (with_front so)) (lines_step b (n, l) ls ∙ ap (λ r. err_as (λ c. (n, c)) r >>= λ (t : DraftTurn). ok_as (with_line t.text l.ending) (draft_of_lines t.before ls)) i)

-- the end of the draft
pub lines_done : (so : List ℕ) (b : Before) (whole : Result Draft (ℕ × DeckCause)) → left_draft so b [] ≡ whole → whole ≡ Ok (record { deck = so; sections = b.sections })
lines_done so b whole w = sym w ∙ ap (ok_as (with_front so)) (lines_end b) ∙ ap (λ x. Ok (record { deck = x; sections = b.sections })) (append-nil so)
