-- What statements become.
use Rattle.std.proofs.Common.{◌≡◌, ℕ, ◌<◌, ◌≤◌, Bool, true, false, List, [], ◌∷◌, ◌++◌, length, take, Bor, Option, Some, None, Result, Ok, Err, refl, sym, ap, subst, ◌∙◌, append_assoc, arith}
use Rattle.std.specs.Prelude.{bytes_eq, codes, nat_eq, nat_le, ok_or, option_map, unwrap_or}
use Rattle.mc_text.specs.model_device.specs.Bytes.{has_name, lookup}
use Rattle.mc_text.specs.model_text.specs.Text.{◌>>=◌, ok_as, fields, first_cut, hex_bytes, is_blank, is_empty, is_within}
use Rattle.mc_text.specs.model_text.specs.Listing.{hex_text}
use Rattle.mc_deck.specs.model_play.specs.declared.deck.DeckCause.TheVariants.{BadHex, OutOfRange, UnknownName}
use Rattle.mc_deck.proofs.FieldLemmas.{fields_left, field_more, field_none}
use Rattle.desk_draft.specs.Parts.{Part, part_in, with_core, after_word}
use Rattle.desk_draft.specs.Statements.{Loadable, aid_or_name, aid_text, command_text, counted_hex, is_aid, load_text, named_text, naming_words, one_field_text, only_of, only_text, plain_hex, stated_text, statement_text}
use Rattle.mc_deck.specs.declared.refusal.Fault.{Fault}
use Rattle.mc_deck.specs.Refused.{Faulty}
use Rattle.desk_draft.specs.Views.{Pushes, part_text}
use Rattle.desk_draft.proofs.PushLemmas.{Text, faulty_as, faulty_of, faulty_then, pushed_then}
use Rattle.mc_deck.proofs.FieldLemmas.{empty_is}

-- ---- fields of a command

-- two pieces, the second of them given
pub two_pushed : (d a t m n : List ℕ) (r : Text) → Ok (a ++ t) ≡ r → m ≡ d ++ a → n ≡ m ++ t → ok_as (λ x. d ++ x) r ≡ Ok n
two_pushed d a t m n r h e f = subst (λ (x : Text). ok_as (λ x. d ++ x) x ≡ Ok n) h (ap Ok (sym (append_assoc d a t) ∙ ap (λ x. x ++ t) (sym e) ∙ sym f))

-- one piece
pub one_pushed : (d t n : List ℕ) (r : Text) → Ok t ≡ r → n ≡ d ++ t → ok_as (λ x. d ++ x) r ≡ Ok n
one_pushed d t n r h e = subst (λ (x : Text). ok_as (λ x. d ++ x) x ≡ Ok n) h (ap Ok (sym e))

pub counted_none : (t : List ℕ) (o : Option (List ℕ)) → None ≡ option_map length o → Err BadHex ≡ counted_hex t o
counted_none t None h = refl
counted_none t (Some bs) h = absurd (cc h)

pub counted_zero : (t : List ℕ) (o : Option (List ℕ)) (n : ℕ) → Some n ≡ option_map length o → n ≡ 0 → Err BadHex ≡ counted_hex t o
counted_zero t None n h e = absurd (cc h)
counted_zero t (Some []) n h e = refl
counted_zero t (Some (b ∷ bs)) n h e = let i : n ≡ length (b ∷ bs) = grind (arith, h) in absurd (omega (arith, i, e))

pub counted_high : (t : List ℕ) (o : Option (List ℕ)) (n : ℕ) → Some n ≡ option_map length o → 255 < n → Err OutOfRange ≡ counted_hex t o
counted_high t None n h e = absurd (cc h)
counted_high t (Some []) n h e = let i : n ≡ 0 = grind (arith, h) in absurd (omega (arith, i, e))
counted_high t (Some (b ∷ bs)) n h e =
    let i : n ≡ length (b ∷ bs) = grind (arith, h) in
    let k : nat_le (length (b ∷ bs)) 255 ≡ false = grind (arith, i, e) in
    rw k refl

pub counted_good : (t : List ℕ) (o : Option (List ℕ)) (n : ℕ) → Some n ≡ option_map length o → 0 < n → n ≤ 255 → Ok (hex_text (n ∷ []) ++ t) ≡ counted_hex t o
counted_good t None n h e f = absurd (cc h)
counted_good t (Some []) n h e f = let i : n ≡ 0 = grind (arith, h) in absurd (omega (arith, i, e))
counted_good t (Some (b ∷ bs)) n h e f =
    let i : n ≡ length (b ∷ bs) = grind (arith, h) in
    let k : nat_le (length (b ∷ bs)) 255 ≡ true = grind (arith, i, f) in
    rw (k, i) refl

-- ---- the fields of a command, one by one

nothing_more : (r : Text) → r ≡ ok_as (λ t. [] ++ t) r
nothing_more (Ok t) = refl
nothing_more (Err e) = refl

command_by : (b : Bool) (p : Bor (List ℕ)) (t : List ℕ) (o : Option (List ℕ)) → nat_eq (length p.now) 0 ≡ b → p.now ≡ (first_cut is_blank t).0 → o ≡ (first_cut is_blank t).1
    → command_text (fields t) ≡ (part_text p.now >>= λ x. ok_as (λ rest. x ++ rest) (command_text (fields_left o)))
command_by true p t o n e f =
    let k : is_empty p.now ≡ true = empty_is p.now true n in
    let j : fields_left o ≡ fields t = field_none [] p.now t o (fields t) e f n refl in
    rw k (ap command_text (sym j) ∙ nothing_more (command_text (fields_left o)))
command_by false p t o n e f =
    let k : is_empty p.now ≡ false = empty_is p.now false n in
    let j : p.now ∷ fields_left o ≡ fields t = field_more [] p t o (fields t) e f n refl in
    rw k (ap command_text (sym j))

command_at : (p : Bor (List ℕ)) (t : List ℕ) (o : Option (List ℕ)) → p.now ≡ (first_cut is_blank t).0 → o ≡ (first_cut is_blank t).1
    → command_text (fields t) ≡ (part_text p.now >>= λ x. ok_as (λ rest. x ++ rest) (command_text (fields_left o)))
command_at p t o e f = command_by (nat_eq (length p.now) 0) p t o refl e f

-- a part was added
pub part_pushed : (p : Bor (List ℕ)) (t : List ℕ) (o : Option (List ℕ)) (d n w : List ℕ) (whole : Text) → p.now ≡ (first_cut is_blank t).0 → o ≡ (first_cut is_blank t).1
    → ok_as (λ t. d ++ t) (command_text (fields t)) ≡ ok_as (λ t. w ++ t) whole → ok_as (λ t. d ++ t) (part_text p.now) ≡ Ok n
    → ok_as (λ t. n ++ t) (command_text (fields_left o)) ≡ ok_as (λ t. w ++ t) whole
part_pushed p t o d n w whole e f inv h =
    pushed_then d n (part_text p.now) (command_text (fields_left o)) h ∙ ap (ok_as (λ t. d ++ t)) (sym (command_at p t o e f)) ∙ inv

-- a part is refused
pub part_faulty : (p : Bor (List ℕ)) (t : List ℕ) (o : Option (List ℕ)) (d w : List ℕ) (whole : Text) (x : Fault) → p.now ≡ (first_cut is_blank t).0 → o ≡ (first_cut is_blank t).1
    → ok_as (λ t. d ++ t) (command_text (fields t)) ≡ ok_as (λ t. w ++ t) whole → Faulty (part_text p.now) x → Faulty whole x
part_faulty p t o d w whole x e f inv h =
    let a : Faulty (part_text p.now >>= λ y. ok_as (λ rest. y ++ rest) (command_text (fields_left o))) x = faulty_then (part_text p.now) (λ y. ok_as (λ rest. y ++ rest) (command_text (fields_left o))) x h in
    let b : Faulty (command_text (fields t)) x = subst (λ (r : Text). Faulty r x) (sym (command_at p t o e f)) a in
    faulty_of w whole x (subst (λ (r : Text). Faulty r x) inv (faulty_as (λ t. d ++ t) (command_text (fields t)) x b))

-- ---- one field

pub load_field : (l : List (List ℕ × Loadable)) (word t d n : List ℕ) (p : Result (Unit {0}) Fault) → bytes_eq word (codes "load") ≡ true
    → Pushes d (ok_as (load_text t) (ok_or (lookup l t) UnknownName)) p n → Pushes d (one_field_text l word t) p n
load_field l word t d n p e h = let k : ok_as (load_text t) (ok_or (lookup l t) UnknownName) ≡ one_field_text l word t = rw e refl in subst (λ (r : Text). Pushes d r p n) k h

pub naming_field : (l : List (List ℕ × Loadable)) (word t d : List ℕ) → bytes_eq word (codes "load") ≡ false → has_name word naming_words ≡ true → ok_as (λ x. d ++ x) (one_field_text l word t) ≡ Ok (d ++ aid_or_name l t)
naming_field l word t d e f = rw (e, f) refl

pub other_field : (l : List (List ℕ × Loadable)) (word t d : List ℕ) → bytes_eq word (codes "load") ≡ false → has_name word naming_words ≡ false → ok_as (λ x. d ++ x) (one_field_text l word t) ≡ Ok (d ++ t)
other_field l word t d e f = rw (e, f) refl

-- the sizes of a section after its name
pub load_pushed : (d n f s a b c e g : List ℕ) → a ≡ d ++ n → b ≡ a ++ 32 ∷ [] → c ≡ b ++ f → e ≡ c ++ 32 ∷ [] → g ≡ e ++ s → d ++ (n ++ codes " " ++ f ++ codes " " ++ s) ≡ g
load_pushed d n f s a b c e g ea eb ec ee eg =
    sym (append_assoc d (n ++ codes " " ++ f ++ codes " ") s)
    ∙ ap (λ x. x ++ s) (sym (append_assoc d (n ++ codes " " ++ f) (codes " ")) ∙ ap (λ x. x ++ codes " ") (sym (append_assoc d (n ++ codes " ") f) ∙ ap (λ x. x ++ f) (sym (append_assoc d n (codes " ")) ∙ ap (λ x. x ++ codes " ") (sym ea) ∙ sym eb) ∙ sym ec) ∙ sym ee)
    ∙ sym eg

-- ---- all fields

pub command_stated : (l : List (List ℕ × Loadable)) (word rest d n : List ℕ) (fs : List (List ℕ)) (p : Result (Unit {0}) Fault) → bytes_eq word (codes "apdu") ≡ true
    → Pushes d (command_text (fields rest)) p n → Pushes d (stated_text l (word ∷ fs) rest) p n
command_stated l word rest d n fs p e h = let k : command_text (fields rest) ≡ stated_text l (word ∷ fs) rest = rw e refl in subst (λ (r : Text). Pushes d r p n) k h

pub named_stated : (l : List (List ℕ × Loadable)) (word rest d n : List ℕ) (fs : List (List ℕ)) (p : Result (Unit {0}) Fault) → bytes_eq word (codes "apdu") ≡ false
    → Pushes d (named_text l word fs rest) p n → Pushes d (stated_text l (word ∷ fs) rest) p n
named_stated l word rest d n fs p e h = let k : named_text l word fs rest ≡ stated_text l (word ∷ fs) rest = rw e refl in subst (λ (r : Text). Pushes d r p n) k h

-- the first five fields of a line are enough
pub stated_five : (l : List (List ℕ × Loadable)) (fs : List (List ℕ)) (rest : List ℕ) → stated_text l (take 5 fs) rest ≡ stated_text l fs rest
stated_five l [] rest = refl
stated_five l (a ∷ []) rest = refl
stated_five l (a ∷ b ∷ []) rest = refl
stated_five l (a ∷ b ∷ c ∷ fs) rest = refl

-- the whole line, by its part between blanks
between_blanks : (d b x n o : List ℕ) (r : Text) → ok_as (λ y. (d ++ b) ++ y) r ≡ Ok n → o ≡ n ++ x → ok_as (λ y. d ++ y) (ok_as (λ y. b ++ y ++ x) r) ≡ Ok o
between_blanks d b x n o (Err e) h i = absurd (cc h)
between_blanks d b x n o (Ok t) h i =
    let k : (d ++ b) ++ t ≡ n = grind (arith, h) in
    ap Ok (sym (append_assoc d (b ++ t) x) ∙ ap (λ y. y ++ x) (sym (append_assoc d b t) ∙ k) ∙ sym i)

pub statement_pushed : (l : List (List ℕ × Loadable)) (line after d m n o : List ℕ) (fr : Part) → after ≡ after_word line → fr ≡ part_in line after
    → m ≡ d ++ fr.before → ok_as (λ x. m ++ x) (stated_text l (fields line) fr.core) ≡ Ok n → o ≡ n ++ fr.after → ok_as (λ x. d ++ x) (statement_text l line) ≡ Ok o
unfolding statement_text
statement_pushed l line after d m n o fr e f g h i =
    let a : ok_as (λ x. d ++ x) (ok_as (with_core fr) (stated_text l (fields line) fr.core)) ≡ Ok o =
    between_blanks d fr.before fr.after n o (stated_text l (fields line) fr.core) (subst (λ (x : List ℕ). ok_as (λ y. x ++ y) (stated_text l (fields line) fr.core) ≡ Ok n) g h) i in
    subst (λ (x : Part). ok_as (λ y. d ++ y) (ok_as (with_core x) (stated_text l (fields line) x.core)) ≡ Ok o) (f ∙ ap (part_in line) e) a

pub statement_faulty : (l : List (List ℕ × Loadable)) (line after : List ℕ) (fr : Part) (x : Fault) → after ≡ after_word line → fr ≡ part_in line after → Faulty (stated_text l (fields line) fr.core) x → Faulty (statement_text l line) x
unfolding statement_text
statement_faulty l line after fr x e f h =
    subst (λ (y : Part). Faulty (ok_as (with_core y) (stated_text l (fields line) y.core)) x) (f ∙ ap (part_in line) e) (faulty_as (with_core fr) (stated_text l (fields line) fr.core) x h)

-- ---- one field

pub aid_some : (t : List ℕ) (n : ℕ) → Some n ≡ option_map length (hex_bytes t) → is_within 5 16 n ≡ is_aid t
aid_some t n h = some_by (hex_bytes t) n h
  where
    some_by : (o : Option (List ℕ)) (n : ℕ) → Some n ≡ option_map length o → is_within 5 16 n ≡ is_within 5 16 (length (unwrap_or o []))
    some_by None n h = absurd (cc h)
    some_by (Some bs) n h = let i : n ≡ length bs = grind (arith, h) in ap (is_within 5 16) i

pub aid_none : (t : List ℕ) → None ≡ option_map length (hex_bytes t) → false ≡ is_aid t
aid_none t h = none_by (hex_bytes t) h
  where
    none_by : (o : Option (List ℕ)) → None ≡ option_map length o → false ≡ is_within 5 16 (length (unwrap_or o []))
    none_by None h = refl
    none_by (Some bs) h = absurd (cc h)

pub plain_some : (t : List ℕ) (o : Option (List ℕ)) (n : ℕ) → Some n ≡ option_map length o → Ok t ≡ plain_hex t o
plain_some t None n h = absurd (cc h)
plain_some t (Some bs) n h = refl

pub plain_none : (t : List ℕ) (o : Option (List ℕ)) → None ≡ option_map length o → Err BadHex ≡ plain_hex t o
plain_none t None h = refl
plain_none t (Some bs) h = absurd (cc h)

pub load_found : (l : List (List ℕ × Loadable)) (t : List ℕ) (s : Loadable) → Some s ≡ lookup l t → ok_as (load_text t) (ok_or (lookup l t) UnknownName) ≡ Ok (load_text t s)
load_found l t s h = subst (λ (o : Option Loadable). ok_as (load_text t) (ok_or o UnknownName) ≡ Ok (load_text t s)) h refl

pub load_unknown : (l : List (List ℕ × Loadable)) (t : List ℕ) → None ≡ lookup l t → ok_as (load_text t) (ok_or (lookup l t) UnknownName) ≡ Err UnknownName
load_unknown l t h = subst (λ (o : Option Loadable). ok_as (load_text t) (ok_or o UnknownName) ≡ Err UnknownName) h refl

pub aid_stays : (l : List (List ℕ × Loadable)) (t : List ℕ) → is_aid t ≡ true → t ≡ aid_or_name l t
aid_stays l t h = rw h refl

pub aid_named : (l : List (List ℕ × Loadable)) (t : List ℕ) (s : Loadable) → is_aid t ≡ false → Some s ≡ lookup l t → s.aid ≡ aid_or_name l t
aid_named l t s h e = rw h (subst (λ (o : Option Loadable). s.aid ≡ aid_text t o) e refl)

pub aid_unnamed : (l : List (List ℕ × Loadable)) (t : List ℕ) → is_aid t ≡ false → None ≡ lookup l t → t ≡ aid_or_name l t
aid_unnamed l t h e = rw h (subst (λ (o : Option Loadable). t ≡ aid_text t o) e refl)

pub named_one : (l : List (List ℕ × Loadable)) (word rest t d n : List ℕ) (fs : List (List ℕ)) (p : Result (Unit {0}) Fault) → Some t ≡ only_of fs → Pushes d (one_field_text l word t) p n → Pushes d (named_text l word fs rest) p n
named_one l word rest t d n fs p e h = subst (λ (o : Option (List ℕ)). Pushes d (only_text l word rest o) p n) e h

pub named_other : (l : List (List ℕ × Loadable)) (word rest d : List ℕ) (fs : List (List ℕ)) → None ≡ only_of fs → ok_as (λ x. d ++ x) (named_text l word fs rest) ≡ Ok (d ++ rest)
named_other l word rest d fs e = subst (λ (o : Option (List ℕ)). ok_as (λ x. d ++ x) (only_text l word rest o) ≡ Ok (d ++ rest)) e refl
