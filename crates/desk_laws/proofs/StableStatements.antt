-- Statements that a deck's reader accepts stay as they are.
use Rattle.std.proofs.Common.{◌≡◌, ℕ, Bool, true, false, cond, List, [], ◌∷◌, ◌++◌, append-nil, length, Option, Some, None, Result, Ok, Err, refl, sym, ap, ◌∙◌, arith}
use Rattle.std.specs.Prelude.{◌==◌, bytes_eq, codes, ok_or, unwrap_or, ⊤}
use Rattle.std.proofs.lemmas.List.{take-append-drop}
use Rattle.mc_text.specs.model_device.specs.Bytes.{lookup}
use Rattle.mc_text.specs.model_device.proofs.MapLemmas.{same_name}
use Rattle.mc_text.specs.model_text.specs.Text.{◌>>=◌, begins, err_as, fields, hex_bytes, is_within, ok_as, only_if, trim}
use Rattle.desk_draft.specs.model_card.specs.Units.{unit_read}
use Rattle.desk_draft.specs.model_play.specs.declared.deck.DeckCause.{DeckCause}
use Rattle.desk_draft.specs.model_play.specs.declared.deck.DeckCause.TheVariants.{BadHex, OutOfRange, UnknownName}
use Rattle.desk_draft.specs.model_play.specs.declared.deck.DeckCause.TheVariants as causes
use Rattle.desk_draft.specs.model_play.specs.DeckGrammar.{AppWord, ApduWord, BudgetWord, Context, CutWord, DeleteWord, DumpWord, FailWord, FormatWord, LoadWord, Opens, PokeWord, PowerWord, Says, SelectWord, Stated, UnitWord, Word, aid_field, deck_words, fill_field, hex_field, name_field, new_name, number_field, statement_of}
use Rattle.desk_draft.specs.Parts.{after_word, part_in, with_core}
use Rattle.desk_draft.specs.Statements.{Loadable, after_open, aid_text, command_field, command_text, field_by, is_aid, plain_hex, statement_text, stated_text, text_in_brackets}
use Rattle.desk_draft.specs.Drafts.{new_section}
use Rattle.desk_laws.proofs.Results.{Fine, fine_as, fine_if, looked}
use Rattle.desk_laws.proofs.SelfParts.{ends_after, part_joined}
use Rattle.desk_draft.proofs.StayLemmas.{Good}

-- ---- words

-- the word of a statement
abbrev pub word_name : Word → List ℕ
word_name FormatWord = codes "format"
word_name PowerWord = codes "power"
word_name UnitWord = codes "unit"
word_name AppWord = codes "app"
word_name LoadWord = codes "load"
word_name SelectWord = codes "select"
word_name DeleteWord = codes "delete"
word_name DumpWord = codes "dump"
word_name ApduWord = codes "apdu"
word_name BudgetWord = codes "budget"
word_name CutWord = codes "cut"
word_name FailWord = codes "fail"
word_name PokeWord = codes "poke"

-- whether a statement opens a section
abbrev pub is_app : Word → Bool
is_app AppWord = true
is_app w = false

-- a word that the deck's reader knows is its own name
pub word_known : (t : List ℕ) (w : Word) → lookup deck_words t ≡ Some w → t ≡ word_name w
word_known t w h = same_name t (word_name w) (looked (λ n w. bytes_eq n (word_name w)) deck_words t w refl h)

-- ---- fields

aid_by : (o : Option (List ℕ)) → Fine (ok_or o BadHex >>= λ b. only_if (is_within 5 16 (length b)) OutOfRange b) → is_within 5 16 (length (unwrap_or o [])) ≡ true
aid_by None h = absurd h
aid_by (Some b) h = fine_if (is_within 5 16 (length b)) OutOfRange b h

aid_is : (t : List ℕ) → Fine (aid_field t) → is_aid t ≡ true
aid_is t h = aid_by (hex_bytes t) h

aid_stays : (sections : List (List ℕ × Loadable)) (t : List ℕ) → Fine (aid_field t) → cond (is_aid t) t (aid_text t (lookup sections t)) ≡ t
aid_stays sections t h = ap (λ b. cond b t (aid_text t (lookup sections t))) (aid_is t h)

open_by : (b : Bool) (c : ℕ) (s x t : List ℕ) → (c == 40) ≡ b → (c ∷ s) ++ x ≡ t → Fine (ok_or (hex_bytes t) BadHex) → cond b (Some s) None ≡ None
open_by b c s x t e f h = grind (arith, Fine)

open_none : (s x t : List ℕ) → s ++ x ≡ t → Fine (ok_or (hex_bytes t) BadHex) → after_open s ≡ None
open_none [] x t f h = refl
open_none (c ∷ s) x t f h = open_by (c == 40) c s x t refl f h

brackets_by : (b : Bool) (o : Option (List ℕ)) → o ≡ None → cond b o None ≡ None
brackets_by true o e = e
brackets_by false o e = refl

-- hexadecimal digits are in no brackets
no_brackets : (t : List ℕ) → Fine (hex_field t) → text_in_brackets t ≡ None
no_brackets t h = grind (arith, brackets_by, open_none, take-append-drop)

plain_by : (t : List ℕ) (o : Option (List ℕ)) → Fine (ok_or o BadHex) → plain_hex t o ≡ Ok t
plain_by t None h = absurd h
plain_by t (Some b) h = refl

command_stays : (t : List ℕ) → Fine (hex_field t) → command_text (t ∷ []) ≡ Ok t
command_stays t h =
    let e : command_field t ≡ Ok t = ap (field_by t) (no_brackets t h) ∙ plain_by t (hex_bytes t) h in
    ap (λ r. r >>= λ first. ok_as (λ rest. first ++ rest) (Ok [])) e ∙ ap Ok (append-nil t)

-- ---- what an accepted statement is

good_then : {A B : Type 0} (P : B → Type 0) (r : Result A DeckCause) (f : A → Result B DeckCause) → ((a : A) → Good P (f a)) → Good P (r >>= f)
good_then P (Ok a) f g = g a
good_then P (Err e) f g = tt

good_as : {A B : Type 0} (P : B → Type 0) (f : A → B) (r : Result A DeckCause) → ((a : A) → P (f a)) → Good P (ok_as f r)
good_as P f (Ok a) g = g a
good_as P f (Err e) g = tt

good_if : {A : Type 0} (P : A → Type 0) (b : Bool) (e : DeckCause) (a : A) → P a → Good P (only_if b e a)
good_if P true e a h = h
good_if P false e a h = tt

-- a statement that opens no section
abbrev pub IsLine : Stated → Type 0
IsLine (Says l c) = ⊤
IsLine (Opens s c) = ⊥

-- a statement that opens one
abbrev pub IsOpening : Stated → Type 0
IsOpening (Says l c) = ⊥
IsOpening (Opens s c) = ⊤

-- a statement opens no section, and what follows its word stays
pub record Kept (sections : List (List ℕ × Loadable)) (w : Word) (fs : List (List ℕ)) (core : List ℕ) (r : Result Stated DeckCause) : Type 0 where
  pub opens : new_section (word_name w ∷ fs) ≡ None
  pub stays : stated_text sections (word_name w ∷ fs) core ≡ Ok core
  pub says : Good IsLine r

-- an accepted statement that opens no section stays as it is
pub statement_kept : (c : Context) (n : ℕ) (w : Word) (fs : List (List ℕ)) (sections : List (List ℕ × Loadable)) (core : List ℕ) → fields core ≡ fs → ((t : List ℕ) → fs ≡ t ∷ [] → core ≡ t) → is_app w ≡ false → Fine (statement_of c n w fs)
    → Kept sections w fs core (statement_of c n w fs)
unfolding statement_of
statement_kept c n AppWord fs sections core e o a h = absurd (cc a)
statement_kept c n FormatWord [] sections core e o a h = record { opens = refl; stays = refl; says = good_if IsLine _ _ _ tt }
statement_kept c n PowerWord [] sections core e o a h = record { opens = refl; stays = refl; says = tt }
statement_kept c n UnitWord (name ∷ hex ∷ []) sections core e o a h =
    record {
      opens = refl;
      stays = refl;
      says =
          good_then IsLine (name_field name) _ (λ x. good_then IsLine (hex_field hex) _ (λ y. good_then IsLine (new_name c x) _ (λ z. good_then IsLine (err_as causes.Unit (unit_read y)) _ (λ u. tt))));
    }
statement_kept c n LoadWord (name ∷ fixed ∷ session ∷ []) sections core e o a h =
    record {
      opens = refl;
      stays = refl;
      says =
          good_then IsLine (name_field name) _ (λ x. good_then IsLine (number_field 0 65535 fixed) _ (λ y. good_then IsLine (number_field 0 65535 session) _ (λ z. good_then IsLine (ok_or (lookup c.units x) UnknownName) _ (λ u. tt))));
    }
statement_kept c n SelectWord (t ∷ []) sections core e o a h = record { opens = refl; stays = ap Ok (aid_stays sections t (fine_as _ (aid_field t) h) ∙ sym (o t refl)); says = good_as IsLine _ (aid_field t) (λ x. tt) }
statement_kept c n DeleteWord (t ∷ []) sections core e o a h = record { opens = refl; stays = ap Ok (aid_stays sections t (fine_as _ (aid_field t) h) ∙ sym (o t refl)); says = good_as IsLine _ (aid_field t) (λ x. tt) }
statement_kept c n DumpWord (t ∷ []) sections core e o a h = record { opens = refl; stays = ap Ok (aid_stays sections t (fine_as _ (aid_field t) h) ∙ sym (o t refl)); says = good_as IsLine _ (aid_field t) (λ x. tt) }
statement_kept c n ApduWord (t ∷ []) sections core e o a h = record { opens = refl; stays = ap command_text e ∙ command_stays t (fine_as _ (hex_field t) h) ∙ ap Ok (sym (o t refl)); says = good_as IsLine _ (hex_field t) (λ x. tt) }
statement_kept c n BudgetWord (t ∷ []) sections core e o a h = record { opens = refl; stays = ap Ok (sym (o t refl)); says = good_as IsLine _ (number_field 1 65536 t) (λ x. tt) }
statement_kept c n FailWord (t ∷ []) sections core e o a h = record { opens = refl; stays = ap Ok (sym (o t refl)); says = good_as IsLine _ (number_field 1 4294967295 t) (λ x. tt) }
statement_kept c n CutWord (k ∷ fill ∷ []) sections core e o a h =
    record { opens = refl; stays = refl; says = good_then IsLine (number_field 1 4294967295 k) _ (λ x. good_then IsLine (fill_field fill) _ (λ y. tt)) }
statement_kept c n PokeWord (at ∷ fill ∷ []) sections core e o a h =
    record { opens = refl; stays = refl; says = good_then IsLine (number_field 0 16383 at) _ (λ x. good_then IsLine (fill_field fill) _ (λ y. good_if IsLine _ _ _ tt)) }
statement_kept c n w fs sections core e o a h = absurd h

-- the statement that opens a section has a name and an AID
pub opening_kept : (c : Context) (n : ℕ) (fs : List (List ℕ)) → Fine (statement_of c n AppWord fs) → (name : List ℕ) × (aid : List ℕ) × (fs ≡ name ∷ aid ∷ []) × Good IsOpening (statement_of c n AppWord fs)
unfolding statement_of
opening_kept c n (name ∷ aid ∷ []) h =
    (name, aid, refl, good_then IsOpening (name_field name) _ (λ x. good_then IsOpening (aid_field aid) _ (λ y. good_then IsOpening (new_name c x) _ (λ z. tt))))
opening_kept c n fs h = absurd h

-- ---- lines that are skipped

hash_there : (w : List ℕ) → begins 35 w ≡ true → (s : List ℕ) × (w ≡ 35 ∷ s)
hash_there [] h = absurd (cc h)
hash_there (c ∷ s) h = let k : c ≡ 35 = grind (arith, h) in (s, ap (λ c. c ∷ s) k)

hash_stays : (sections : List (List ℕ × Loadable)) (s : List ℕ) (fs : List (List ℕ)) (core : List ℕ) → ((t : List ℕ) → fs ≡ t ∷ [] → core ≡ t) → (new_section ((35 ∷ s) ∷ fs) ≡ None) × (stated_text sections ((35 ∷ s) ∷ fs) core ≡ Ok core)
hash_stays sections s [] core o = (refl, refl)
hash_stays sections s (t ∷ []) core o = (refl, ap Ok (sym (o t refl)))
hash_stays sections s (a ∷ b ∷ []) core o = (refl, refl)
hash_stays sections s (a ∷ b ∷ c ∷ fs) core o = (refl, refl)

-- a line that is skipped opens no section and stays
pub skipped_stays : (sections : List (List ℕ × Loadable)) (w : List ℕ) (fs : List (List ℕ)) (core : List ℕ) → begins 35 w ≡ true → ((t : List ℕ) → fs ≡ t ∷ [] → core ≡ t) → (new_section (w ∷ fs) ≡ None) × (stated_text sections (w ∷ fs) core ≡ Ok core)
skipped_stays sections w fs core h o = grind (arith, hash_there, hash_stays)

-- ---- the line of a statement

-- a line stays where what follows its word does
pub statement_stays : (sections : List (List ℕ × Loadable)) (l : List ℕ) → stated_text sections (fields l) (trim (after_word l)) ≡ Ok (trim (after_word l)) → statement_text sections l ≡ Ok l
unfolding statement_text
statement_stays sections l h = ap (ok_as (with_core (part_in l (after_word l)))) h ∙ ap Ok (part_joined l (after_word l) (ends_after l))
