-- Rules of drafts: texts with names in braces, the statements of moves, and the sections of which rules speak.
use Rattle.std.proofs.Common.{◌≡◌, ◌<◌, ℕ, zero, suc, arith, Bool, true, false, cond, List, [], ◌∷◌, ◌++◌, length, take, drop, Bor, Option, Some, None, Result, Ok, Err, refl, sym, ap, subst, ◌∙◌, append_assoc}
use Rattle.std.specs.Prelude.{◌==◌, bytes_eq, codes, not, unwrap_or}
use Rattle.std.specs.BTreeMap
use Rattle.std.specs.BTreeMap.{BTreeMap}
use Rattle.std.specs.Ordering.{is_eq, nat_cmp}
use Rattle.std.specs.Cmp.Lexicographic.{slice_cmp}
use Rattle.std.proofs.lemmas.Map.Text.{is_eq-slice_cmp}
use Rattle.mc_text.specs.model_device.specs.Bytes.{lookup}
use Rattle.mc_text.specs.model_text.specs.Text.{◌>>=◌, ok_as, only_if, fields, first_cut, pieces}
use Rattle.mc_deck.specs.model_play.specs.declared.deck.DeckCause.{DeckCause}
use Rattle.mc_deck.specs.model_play.specs.declared.deck.DeckCause.TheVariants.{BadHex, BadLine, UnknownName}
use Rattle.mc_deck.specs.declared.refusal.Fault.{Fault}
use Rattle.mc_deck.specs.Refused.{Faulty}
use Rattle.mc_text.proofs.ReadingLemmas.{pieces_at, pieces_cut}
use Rattle.desk_draft.specs.Declarations.{header_names}
use Rattle.desk_draft.specs.Operands.{operand_text}
use Rattle.desk_draft.specs.Parts.{before_rest}
use Rattle.desk_draft.specs.Rules.{after_two, brace_text, braces_of, braces_text, has_second, is_unknown, moved_text, opened_text, opened_texts, rule_text}
use Rattle.desk_draft.specs.Statements.{Loadable, statement_text}
use Rattle.desk_draft.specs.declared.meaning.Meaning.{Meaning}
use Rattle.desk_draft.specs.Views.{AreNames, AreNamesMaybe, Knows, Pushes}
use Rattle.desk_draft.specs.Drafts
use Rattle.desk_draft.specs.Drafts.{Rules, rule_names}
use Rattle.desk_draft.specs.declared.known.Known.{Known}
use Rattle.desk_draft.proofs.PushLemmas.{Names, Text, faulty_as, faulty_of, faulty_then, pushed_before, pushed_then}

faulty_same : (r s : Text) (e : Fault) → r ≡ s → Faulty r e → Faulty s e
faulty_same r s e i h = subst (λ (x : Text). Faulty x e) i h

-- ---- one text in braces

-- an operand that is refused
pub brace_refused : (names : Names) (t : List ℕ) (c : DeckCause) → Err c ≡ operand_text names false t → brace_text names t ≡ Err c
brace_refused names t c h = subst (λ (r : Text). (r >>= λ made. only_if (not (bytes_eq made t)) UnknownName made) ≡ Err c) h refl

-- what an operand becomes was added, or it is no name
pub brace_pushed : (names : Names) (t u d n : List ℕ) (p : Result (Unit {0}) Fault) → Ok u ≡ operand_text names false t → Pushes d (only_if (not (bytes_eq u t)) UnknownName u) p n → Pushes d (brace_text names t) p n
brace_pushed names t u d n p h k = subst (λ (r : Text). Pushes d (r >>= λ made. only_if (not (bytes_eq made t)) UnknownName made) p n) h k

-- a text that stays is no name
pub made_same : (made t : List ℕ) → bytes_eq made t ≡ true → only_if (not (bytes_eq made t)) UnknownName made ≡ Err UnknownName
made_same made t h = rw h refl

pub made_other : (made t d : List ℕ) → bytes_eq made t ≡ false → ok_as (λ x. d ++ x) (only_if (not (bytes_eq made t)) UnknownName made) ≡ Ok (d ++ made)
made_other made t d h = rw h refl

opened_none : (names : Names) (q : List ℕ × Option (List ℕ)) → None ≡ q.1 → opened_text names q ≡ Err BadLine
opened_none names (t, None) h = refl
opened_none names (t, Some rest) h = absurd (cc h)

opened_some : (names : Names) (q : List ℕ × Option (List ℕ)) (t rest : List ℕ) → t ≡ q.0 → Some rest ≡ q.1 → ok_as (λ made. made ++ rest) (brace_text names t) ≡ opened_text names q
opened_some names (a, None) t rest e h = absurd (cc h)
opened_some names (a, Some b) t rest e h =
    let i : rest ≡ b = cc h in
    ap (λ x. ok_as (λ made. made ++ x) (brace_text names t)) i ∙ ap (λ x. ok_as (λ made. made ++ b) (brace_text names x)) e

-- an opening brace without a closing one
pub unclosed : (names : Names) (p : List ℕ) → None ≡ (first_cut (λ c. c == 125) p).1 → opened_text names (first_cut (λ c. c == 125) p) ≡ Err BadLine
unclosed names p h = opened_none names (first_cut (λ c. c == 125) p) h

-- a text in braces was added, and what stands after it
pub opened_pushed : (names : Names) (p t rest d m n : List ℕ) → t ≡ (first_cut (λ c. c == 125) p).0 → Some rest ≡ (first_cut (λ c. c == 125) p).1 → ok_as (λ x. d ++ x) (brace_text names t) ≡ Ok m → n ≡ m ++ rest
    → ok_as (λ x. d ++ x) (opened_text names (first_cut (λ c. c == 125) p)) ≡ Ok n
opened_pushed names p t rest d m n e f h i =
    ap (ok_as (λ x. d ++ x)) (sym (opened_some names (first_cut (λ c. c == 125) p) t rest e f)) ∙ pushed_before d m rest (brace_text names t) h ∙ ap Ok (sym i)

-- a text in braces is refused
pub opened_faulty : (names : Names) (p t rest : List ℕ) (x : Fault) → t ≡ (first_cut (λ c. c == 125) p).0 → Some rest ≡ (first_cut (λ c. c == 125) p).1 → Faulty (brace_text names t) x → Faulty (opened_text names (first_cut (λ c. c == 125) p)) x
opened_faulty names p t rest x e f h =
    faulty_same (ok_as (λ made. made ++ rest) (brace_text names t)) (opened_text names (first_cut (λ c. c == 125) p)) x (opened_some names (first_cut (λ c. c == 125) p) t rest e f) (faulty_as (λ made. made ++ rest) (brace_text names t) x h)

-- ---- all braces of a text

-- what the text that is left becomes, which follows an opening brace
abbrev pub left_braces : Names → Option (List ℕ) → Text
left_braces names None = Ok []
left_braces names (Some t) = opened_texts names (pieces (λ c. c == 123) t)

braces_cut : (names : Names) (p : List ℕ × Option (List ℕ)) → braces_of names (pieces_cut (λ c. c == 123) p) ≡ ok_as (λ rest. p.0 ++ rest) (left_braces names p.1)
braces_cut names (a, None) = refl
braces_cut names (a, Some t) = refl

opened_cut : (names : Names) (p : List ℕ × Option (List ℕ))
    → opened_texts names (pieces_cut (λ c. c == 123) p) ≡ (opened_text names (first_cut (λ c. c == 125) p.0) >>= λ t. ok_as (λ rest. t ++ rest) (left_braces names p.1))
opened_cut names (a, None) = refl
opened_cut names (a, Some t) = refl

-- the text before the first brace, and what is left after it
braces_first : (names : Names) (t a : List ℕ) (b : Option (List ℕ)) → a ≡ (first_cut (λ c. c == 123) t).0 → b ≡ (first_cut (λ c. c == 123) t).1 → braces_text names t ≡ ok_as (λ rest. a ++ rest) (left_braces names b)
braces_first names t a b e f = rw (e, f) (ap (braces_of names) (pieces_at (λ c. c == 123) t) ∙ braces_cut names (first_cut (λ c. c == 123) t))

-- the text after a brace, and what is left after the next one
opened_at : (names : Names) (t a : List ℕ) (b : Option (List ℕ)) → a ≡ (first_cut (λ c. c == 123) t).0 → b ≡ (first_cut (λ c. c == 123) t).1
    → left_braces names (Some t) ≡ (opened_text names (first_cut (λ c. c == 125) a) >>= λ x. ok_as (λ rest. x ++ rest) (left_braces names b))
opened_at names t a b e f = rw (e, f) (ap (opened_texts names) (pieces_at (λ c. c == 123) t) ∙ opened_cut names (first_cut (λ c. c == 123) t))

after_first : (d a : List ℕ) (r : Text) → ok_as (λ t. (d ++ a) ++ t) r ≡ ok_as (λ t. d ++ t) (ok_as (λ rest. a ++ rest) r)
after_first d a (Ok t) = ap Ok (append_assoc d a t)
after_first d a (Err e) = refl

-- the text before the first brace was added
pub first_added : (names : Names) (t a : List ℕ) (b : Option (List ℕ)) (d m : List ℕ) → a ≡ (first_cut (λ c. c == 123) t).0 → b ≡ (first_cut (λ c. c == 123) t).1 → m ≡ d ++ a
    → ok_as (λ t. m ++ t) (left_braces names b) ≡ ok_as (λ t. d ++ t) (braces_text names t)
first_added names t a b d m e f h =
    ap (λ x. ok_as (λ t. x ++ t) (left_braces names b)) h ∙ after_first d a (left_braces names b) ∙ ap (ok_as (λ t. d ++ t)) (sym (braces_first names t a b e f))

-- the text after a brace is refused
pub piece_refused : (names : Names) (t a : List ℕ) (b : Option (List ℕ)) (d o : List ℕ) (whole : Text) (e : Fault) → a ≡ (first_cut (λ c. c == 123) t).0 → b ≡ (first_cut (λ c. c == 123) t).1
    → ok_as (λ t. d ++ t) (left_braces names (Some t)) ≡ ok_as (λ t. o ++ t) whole → Faulty (opened_text names (first_cut (λ c. c == 125) a)) e → Faulty whole e
piece_refused names t a b d o whole e f g inv h =
    faulty_of o whole e (faulty_same (ok_as (λ t. d ++ t) (left_braces names (Some t))) (ok_as (λ t. o ++ t) whole) e inv (
    faulty_as (λ t. d ++ t) (left_braces names (Some t)) e (
    faulty_same (opened_text names (first_cut (λ c. c == 125) a) >>= λ x. ok_as (λ rest. x ++ rest) (left_braces names b)) (left_braces names (Some t)) e (sym (opened_at names t a b f g))
    (faulty_then (opened_text names (first_cut (λ c. c == 125) a)) (λ x. ok_as (λ rest. x ++ rest) (left_braces names b)) e h))))

-- the text after a brace was added
pub piece_added : (names : Names) (t a : List ℕ) (b : Option (List ℕ)) (d n o : List ℕ) (whole : Text) → a ≡ (first_cut (λ c. c == 123) t).0 → b ≡ (first_cut (λ c. c == 123) t).1
    → ok_as (λ t. d ++ t) (left_braces names (Some t)) ≡ ok_as (λ t. o ++ t) whole → ok_as (λ t. d ++ t) (opened_text names (first_cut (λ c. c == 125) a)) ≡ Ok n
    → ok_as (λ t. n ++ t) (left_braces names b) ≡ ok_as (λ t. o ++ t) whole
piece_added names t a b d n o whole f g inv h =
    pushed_then d n (opened_text names (first_cut (λ c. c == 125) a)) (left_braces names b) h ∙ ap (ok_as (λ t. d ++ t)) (sym (opened_at names t a b f g)) ∙ inv

-- ---- moves

-- the first five fields of a statement are enough
pub unknown_five : (l : List (List ℕ × Loadable)) (fs : List (List ℕ)) → is_unknown l (take 5 fs) ≡ is_unknown l fs
unknown_five l [] = refl
unknown_five l (a ∷ []) = refl
unknown_five l (a ∷ b ∷ []) = refl
unknown_five l (a ∷ b ∷ c ∷ fs) = refl

-- a name that no section has
pub moved_unknown : (l : List (List ℕ × Loadable)) (s : List ℕ) → is_unknown l (fields s) ≡ true → moved_text l s ≡ Err BadHex
moved_unknown l s h = rw h refl

pub moved_known : (l : List (List ℕ × Loadable)) (s d n : List ℕ) (p : Result (Unit {0}) Fault) → is_unknown l (fields s) ≡ false → Pushes d (statement_text l s) p n → Pushes d (moved_text l s) p n
moved_known l s d n p h k = let e : statement_text l s ≡ moved_text l s = rw h refl in subst (λ (r : Text). Pushes d r p n) e k

-- ---- the section of which rules speak

abbrev CodeNames : Type 0
CodeNames = BTreeMap (Bor (List ℕ)) Meaning

scope_by : (b : Bool) (m : CodeNames) (n : Names) (o : Option CodeNames) (r : Option Names) → AreNames m n → AreNamesMaybe o r → AreNamesMaybe (cond b (Some m) o) (cond b (Some n) r)
scope_by true m n o r h k = h
scope_by false m n o r h k = k

-- the section that was put, and the others
pub scope_found : (k q : List ℕ) (m : CodeNames) (n : Names) (o p : Option CodeNames) (l : List (List ℕ × Names)) → p ≡ cond (is_eq (slice_cmp nat_cmp k q)) (Some m) o → AreNames m n → AreNamesMaybe o (lookup l q) → AreNamesMaybe p (lookup ((k, n) ∷ l) q)
scope_found k q m n o p l e h f = rw (e, is_eq-slice_cmp k q) (scope_by (bytes_eq k q) m n o (lookup l q) h f)

-- nothing stands after the end of a deck
pub none_after : (deck : List ℕ) (n : ℕ) → length deck < n → [] ≡ drop n deck
none_after [] zero h = refl
none_after [] (suc n) h = refl
none_after (c ∷ deck) zero h = absurd (omega (arith, h))
none_after (c ∷ deck) (suc n) h = none_after deck n (omega (arith, h))

-- the names of a section that is there
names_there : (m : CodeNames) (o : Option CodeNames) (r : Option Names) → o ≡ Some m → AreNamesMaybe o r → AreNames m (unwrap_or r header_names)
names_there m None r e h = absurd (cc e)
names_there m (Some x) None e h = absurd h
names_there m (Some x) (Some n) e h = let i : x ≡ m = cc e in subst (λ (y : CodeNames). AreNames y n) i h

-- the names of one that is not there
names_gone : (o : Option CodeNames) (r : Option Names) → o ≡ None → AreNamesMaybe o r → header_names ≡ unwrap_or r header_names
names_gone (Some x) r e h = absurd (cc e)
names_gone None (Some n) e h = absurd h
names_gone None None e h = refl

-- the names of which rules speak, if the section is there
pub names_known : (k : Known) (ss : List Drafts.Section) (r : Rules) (m : CodeNames) → Knows k ss r → BTreeMap.get (λ x y. slice_cmp nat_cmp x.now y.now) k.scopes k.app ≡ Some m → AreNames m (rule_names r)
names_known k ss r m h e =
    let o : Option CodeNames = BTreeMap.get (λ x y. slice_cmp nat_cmp x.now y.now) k.scopes k.app in
    names_there m o (lookup r.scopes r.app) e (subst (λ (n : List ℕ). AreNamesMaybe o (lookup r.scopes n)) h.app (h.scopes k.app))

-- and if it is not there
pub names_header : (k : Known) (ss : List Drafts.Section) (r : Rules) → Knows k ss r → BTreeMap.get (λ x y. slice_cmp nat_cmp x.now y.now) k.scopes k.app ≡ None → header_names ≡ rule_names r
names_header k ss r h e =
    let o : Option CodeNames = BTreeMap.get (λ x y. slice_cmp nat_cmp x.now y.now) k.scopes k.app in
    names_gone o (lookup r.scopes r.app) e (subst (λ (n : List ℕ). AreNamesMaybe o (lookup r.scopes n)) h.app (h.scopes k.app))

-- ---- a rule

pub move_pushed : (s : List (List ℕ × Loadable)) (names : Names) (l d n : List ℕ) (p : Result (Unit {0}) Fault) → has_second l (codes "move") ≡ true
    → Pushes d (ok_as (λ t. before_rest l (after_two l) ++ t) (moved_text s (after_two l))) p n → Pushes d (rule_text s names l) p n
move_pushed s names l d n p e h = let k : ok_as (λ t. before_rest l (after_two l) ++ t) (moved_text s (after_two l)) ≡ rule_text s names l = rw e refl in subst (λ (r : Text). Pushes d r p n) k h

pub braces_pushed : (s : List (List ℕ × Loadable)) (names : Names) (l d n : List ℕ) (p : Result (Unit {0}) Fault) → has_second l (codes "move") ≡ false → Pushes d (braces_text names l) p n → Pushes d (rule_text s names l) p n
braces_pushed s names l d n p e h = let k : braces_text names l ≡ rule_text s names l = rw e refl in subst (λ (r : Text). Pushes d r p n) k h
