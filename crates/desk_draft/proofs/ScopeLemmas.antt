-- What a section declares: names, sizes, places and numbers, and the section after a declaration.
use Rattle.std.proofs.Common.{◌≡◌, ℕ, zero, suc, ◌+◌, ◌-◌, ◌<◌, ◌≤◌, Bool, true, false, List, ◌∷◌, length, Option, Some, None, Result, Ok, Err, refl, sym, ap, subst, ◌∙◌, arith}
use Rattle.std.specs.Prelude.{pos, nat_le, is_none, ok_or, option_map, unwrap_or, ◌==◌}
use Rattle.mc_text.specs.model_device.specs.Bytes.{has_name, lookup}
use Rattle.mc_text.specs.model_text.specs.Text.{◌>>=◌, ok_as, only_if, begins, decimal_number, hex_bytes}
use Rattle.mc_text.specs.model_text.specs.Listing.{condition_names, register_names}
use Rattle.mc_text.specs.model_text.specs.Assembly.{is_label, minus, natural}
use Rattle.mc_deck.specs.model_play.specs.DeckGrammar.{number_field}
use Rattle.mc_deck.specs.model_play.specs.declared.deck.DeckCause.{DeckCause}
use Rattle.mc_deck.specs.model_play.specs.declared.deck.DeckCause.TheVariants.{BadHex, BadLine, BadName, BadNumber, NameTwice, OutOfRange}
use Rattle.mc_text.specs.Reading.{capped_number}
use Rattle.mc_deck.specs.declared.refusal.Fault.{Fault}
use Rattle.mc_deck.specs.declared.refusal.Fault.TheVariants as fault
use Rattle.mc_deck.specs.Refused.{Faulty}
use Rattle.desk_draft.specs.Declarations.{Bytes, NameMeaning, Number, Scope, const_scope, constant, data_count, data_scope, decimal_field, fits_word, is_size_of, label_name, most_public, most_session, most_static, optional_hex, public_scope, public_span, session_scope, static_count, static_scope, with_name}
use Rattle.desk_draft.specs.declared.scope.Scope.{Scope as CodeScope}
use Rattle.desk_draft.specs.Views.{AreNames, TakesScope, is_count_of, only_within, scope_of}

-- ---- names

pub no_label : (t : List ℕ) → is_label t ≡ false → Err BadName ≡ label_name t
no_label t h = rw h refl

pub a_register : (t : List ℕ) → is_label t ≡ true → has_name t register_names ≡ true → Err BadName ≡ label_name t
a_register t h e = rw (h, e) refl

pub a_condition : (t : List ℕ) → is_label t ≡ true → has_name t register_names ≡ false → has_name t condition_names ≡ true → Err BadName ≡ label_name t
a_condition t h e f = rw (h, e, f) refl

pub a_name : (t : List ℕ) → is_label t ≡ true → has_name t register_names ≡ false → has_name t condition_names ≡ false → Ok t ≡ label_name t
a_name t h e f = rw (h, e, f) refl

pub name_twice : (r : Option NameMeaning) (n : List ℕ) (m : NameMeaning) → Some m ≡ r → only_if (is_none r) NameTwice n ≡ Err NameTwice
name_twice r n m h = subst (λ (x : Option NameMeaning). only_if (is_none x) NameTwice n ≡ Err NameTwice) h refl

pub name_new : (r : Option NameMeaning) → None ≡ r → is_none r ≡ true
name_new r h = subst (λ (x : Option NameMeaning). is_none x ≡ true) h refl

-- ---- static bytes

pub hex_none : Ok None ≡ ok_as (option_map length) (optional_hex None)
hex_none = refl

pub hex_some : (t : List ℕ) (n : ℕ) → Some n ≡ option_map length (hex_bytes t) → Ok (Some n) ≡ ok_as (option_map length) (optional_hex (Some t))
hex_some t n h = some_by (hex_bytes t) n h
  where
    some_by : (o : Option (List ℕ)) (n : ℕ) → Some n ≡ option_map length o → Ok (Some n) ≡ ok_as {E = DeckCause} (option_map length) (ok_as Some (ok_or o BadHex))
    some_by None n h = absurd (cc h)
    some_by (Some bs) n h = ap Ok h

pub hex_bad : (t : List ℕ) → None ≡ option_map length (hex_bytes t) → Err BadHex ≡ ok_as (option_map length) (optional_hex (Some t))
hex_bad t h = none_by (hex_bytes t) h
  where
    none_by : (o : Option (List ℕ)) → None ≡ option_map length o → Err BadHex ≡ ok_as (option_map length) (ok_as Some (ok_or o BadHex))
    none_by None h = refl
    none_by (Some bs) h = absurd (cc h)

-- the part of a count after its HEX
abbrev sized : ℕ → List ℕ → Option (List ℕ) → Result ℕ DeckCause
sized fixed size bytes = number_field 1 (most_static - fixed) size >>= λ n. only_if (is_size_of n bytes) OutOfRange n

sizes_agree : (n : ℕ) (o : Option (List ℕ)) → is_size_of n o ≡ is_count_of n (option_map length o)
sizes_agree n None = refl
sizes_agree n (Some bs) = refl

pub count_bad_hex : (fixed : ℕ) (size : List ℕ) (hex : Option (List ℕ)) (c : DeckCause) → Err c ≡ ok_as (option_map length) (optional_hex hex) → Err c ≡ static_count fixed size hex
count_bad_hex fixed size hex c h = bad_by (optional_hex hex) h
  where
    bad_by : (r : Result (Option (List ℕ)) DeckCause) → Err c ≡ ok_as (option_map length) r → Err c ≡ (r >>= sized fixed size)
    bad_by (Ok o) h = absurd (cc h)
    bad_by (Err e) h = let i : c ≡ e = cc h in ap Err i

pub count_bad_number : (fixed : ℕ) (size : List ℕ) (hex : Option (List ℕ)) (o : Option ℕ) (c : DeckCause) → Ok o ≡ ok_as (option_map length) (optional_hex hex) → Err c ≡ number_field 1 (most_static - fixed) size → Err c ≡ static_count fixed size hex
count_bad_number fixed size hex o c h e = bad_by (optional_hex hex) h
  where
    bad_by : (r : Result (Option (List ℕ)) DeckCause) → Ok o ≡ ok_as (option_map length) r → Err c ≡ (r >>= sized fixed size)
    bad_by (Ok bs) h = subst (λ (r : Result ℕ DeckCause). Err c ≡ (r >>= λ n. only_if (is_size_of n bs) OutOfRange n)) e refl
    bad_by (Err x) h = absurd (cc h)

sized_by : (fixed n : ℕ) (size : List ℕ) (hex : Option (List ℕ)) (o : Option ℕ) (b : Bool) → Ok o ≡ ok_as (option_map length) (optional_hex hex) → Ok n ≡ number_field 1 (most_static - fixed) size → is_count_of n o ≡ b
    → only_if b OutOfRange n ≡ static_count fixed size hex
sized_by fixed n size hex o b h e f = good_by (optional_hex hex) h
  where
    good_by : (r : Result (Option (List ℕ)) DeckCause) → Ok o ≡ ok_as (option_map length) r → only_if b OutOfRange n ≡ (r >>= sized fixed size)
    good_by (Ok bs) h =
        let i : o ≡ option_map length bs = cc h in
        let k : is_size_of n bs ≡ b = sizes_agree n bs ∙ ap (is_count_of n) (sym i) ∙ f in
        subst (λ (r : Result ℕ DeckCause). only_if b OutOfRange n ≡ (r >>= λ n. only_if (is_size_of n bs) OutOfRange n)) e (ap (λ x. only_if x OutOfRange n) (sym k))
    good_by (Err x) h = absurd (cc h)

pub count_bad_size : (fixed n : ℕ) (size : List ℕ) (hex : Option (List ℕ)) (o : Option ℕ) → Ok o ≡ ok_as (option_map length) (optional_hex hex) → Ok n ≡ number_field 1 (most_static - fixed) size → is_count_of n o ≡ false → Err OutOfRange ≡ static_count fixed size hex
count_bad_size fixed n size hex o h e f = sized_by fixed n size hex o false h e f

pub count_good : (fixed n : ℕ) (size : List ℕ) (hex : Option (List ℕ)) (o : Option ℕ) → Ok o ≡ ok_as (option_map length) (optional_hex hex) → Ok n ≡ number_field 1 (most_static - fixed) size → is_count_of n o ≡ true → Ok n ≡ static_count fixed size hex
count_good fixed n size hex o h e f = sized_by fixed n size hex o true h e f

-- ---- public bytes

abbrev Span : Type 0
Span = ℕ × ℕ

abbrev placed : ℕ → ℕ → Result Span DeckCause
placed at n = only_if (nat_le (at + n) most_public) OutOfRange (at, n)

abbrev after_place : List ℕ → ℕ → Result Span DeckCause
after_place size at = number_field 1 most_public size >>= placed at

span_is : (k j n : ℕ) → k ≡ j → ◌≡◌ {A = Result Span DeckCause} (Ok (k, n)) (Ok (j, n))
span_is k j n h = rw h refl

placed_by : (at n : ℕ) (b : Bool) → nat_le (at + n) most_public ≡ b → placed at n ≡ only_if b OutOfRange (at, n)
placed_by at n b h = rw h refl

pub span_bad_place : (at size : List ℕ) (c : DeckCause) → Err c ≡ ok_as capped_number (decimal_field at) → Err c ≡ public_span at size
span_bad_place at size c h = bad_by (decimal_field at) h
  where
    bad_by : (r : Result ℕ DeckCause) → Err c ≡ ok_as capped_number r → Err c ≡ (r >>= after_place size)
    bad_by (Ok k) h = absurd (cc h)
    bad_by (Err e) h = let i : c ≡ e = cc h in ap Err i

pub span_bad_size : (at size : List ℕ) (k : ℕ) (c : DeckCause) → Ok k ≡ ok_as capped_number (decimal_field at) → Err c ≡ number_field 1 most_public size → Err c ≡ public_span at size
span_bad_size at size k c h e = bad_by (decimal_field at) h
  where
    bad_by : (r : Result ℕ DeckCause) → Ok k ≡ ok_as capped_number r → Err c ≡ (r >>= after_place size)
    bad_by (Ok j) h = subst (λ (r : Result ℕ DeckCause). Err c ≡ (r >>= placed j)) e refl
    bad_by (Err x) h = absurd (cc h)

capped_high : (j n : ℕ) → 1041 < capped_number j + n → nat_le (j + n) 1041 ≡ false
capped_high j n h = grind (arith, h)

capped_low : (j n : ℕ) → capped_number j + n ≤ 1041 → (capped_number j ≡ j) × (nat_le (j + n) 1041 ≡ true)
capped_low j n h = (grind (arith, h), grind (arith, h))

pub span_high : (at size : List ℕ) (k n : ℕ) → Ok k ≡ ok_as capped_number (decimal_field at) → Ok n ≡ number_field 1 most_public size → 1041 < k + n → Err OutOfRange ≡ public_span at size
span_high at size k n h e f = high_by (decimal_field at) h
  where
    high_by : (r : Result ℕ DeckCause) → Ok k ≡ ok_as capped_number r → Err OutOfRange ≡ (r >>= after_place size)
    high_by (Ok j) h =
        let i : k ≡ capped_number j = cc h in
        let g : nat_le (j + n) 1041 ≡ false = capped_high j n (subst (λ (x : ℕ). 1041 < x + n) i f) in
        subst (λ (r : Result ℕ DeckCause). Err OutOfRange ≡ (r >>= placed j)) e (sym (placed_by j n false g))
    high_by (Err x) h = absurd (cc h)

pub span_good : (at size : List ℕ) (k n : ℕ) → Ok k ≡ ok_as capped_number (decimal_field at) → Ok n ≡ number_field 1 most_public size → k + n ≤ 1041 → ◌≡◌ {A = Result Span DeckCause} (Ok (k, n)) (public_span at size)
span_good at size k n h e f = good_by (decimal_field at) h
  where
    good_by : (r : Result ℕ DeckCause) → Ok k ≡ ok_as capped_number r → ◌≡◌ {A = Result Span DeckCause} (Ok (k, n)) (r >>= after_place size)
    good_by (Ok j) h =
        let i : k ≡ capped_number j = cc h in
        let g = capped_low j n (subst (λ (x : ℕ). x + n ≤ 1041) i f) in
        let whole : Result Span DeckCause = Ok (k, n) in
        subst (λ (r : Result ℕ DeckCause). whole ≡ (r >>= placed j)) e (span_is k j n (i ∙ g.0) ∙ sym (placed_by j n true g.1))
    good_by (Err x) h = absurd (cc h)

-- ---- numbers

minus_fits : (n : ℕ) → fits_word (minus n) ≡ nat_le n 32768
minus_fits zero = refl
minus_fits (suc n) = grind arith

capped_within : (n high : ℕ) → high < 4294967296 → nat_le (capped_number n) high ≡ nat_le n high
capped_within n high h = grind (arith, h)

within_by : (t : List ℕ) (b c : Bool) → b ≡ c → ok_as (λ u. t) (only_if b OutOfRange (tt {0})) ≡ only_if c OutOfRange t
within_by t true c h = subst (λ (x : Bool). Ok t ≡ only_if x OutOfRange t) h refl
within_by t false c h = subst (λ (x : Bool). Err OutOfRange ≡ only_if x OutOfRange t) h refl

minus_by : (t : List ℕ) (o : Option ℕ) → ok_as (λ u. t) (only_within 32768 (option_map capped_number o)) ≡ (ok_or (option_map minus o) BadNumber >>= λ z. only_if (fits_word z) OutOfRange t)
minus_by t None = refl
minus_by t (Some n) = within_by t (nat_le (capped_number n) 32768) (fits_word (minus n)) (capped_within n 32768 (omega arith) ∙ sym (minus_fits n))

plain_by : (t : List ℕ) (o : Option ℕ) → ok_as (λ u. t) (only_within 65535 (option_map capped_number o)) ≡ (ok_or (option_map pos o) BadNumber >>= λ z. only_if (fits_word z) OutOfRange t)
plain_by t None = refl
plain_by t (Some n) = within_by t (nat_le (capped_number n) 65535) (nat_le n 65535) (capped_within n 65535 (omega arith))

pub constant_minus : (t : List ℕ) (o : Option ℕ) → o ≡ option_map capped_number (decimal_number t) → ok_as (λ u. 45 ∷ t) (only_within 32768 o) ≡ constant (45 ∷ t)
constant_minus t o h = rw h (minus_by (45 ∷ t) (decimal_number t))

pub constant_plain : (t : List ℕ) (o : Option ℕ) → begins 45 t ≡ false → o ≡ option_map capped_number (natural t) → ok_as (λ u. t) (only_within 65535 o) ≡ constant t
constant_plain t o b h = rw (h, b) (plain_by t (natural t))

-- ---- steps of a declaration

bind_ok : {A B : Type 0} (r : Result A DeckCause) (a : A) (f : A → Result B DeckCause) → Ok a ≡ r → (r >>= f) ≡ f a
bind_ok r a f h = subst (λ r. (r >>= f) ≡ f a) h refl

bind_err : {A B : Type 0} (r : Result A DeckCause) (c : DeckCause) (f : A → Result B DeckCause) → Err c ≡ r → (r >>= f) ≡ Err c
bind_err r c f h = subst (λ r. (r >>= f) ≡ Err c) h refl

faulty_is : {A : Type 0} (r s : Result A DeckCause) (e : Fault) → r ≡ s → Faulty s e → Faulty r e
faulty_is r s (fault.Cause c) h k = h ∙ k
faulty_is r s fault.NoMemory h k = tt

faulty_as_scope : (f : Scope → Scope) (r : Result Scope DeckCause) (e : Fault) → Faulty r e → Faulty (ok_as f r) e
faulty_as_scope f r (fault.Cause c) h = rw h refl
faulty_as_scope f r fault.NoMemory h = tt

-- a name that the section has is refused whatever it stands for
twice_faulty : (b : Bool) (n : List ℕ) (s : Scope) (e : Fault) → Faulty (only_if b NameTwice n) e → Faulty (only_if b NameTwice s) e
twice_faulty true n s (fault.Cause c) h = absurd (cc h)
twice_faulty false n s (fault.Cause c) h = let e : NameTwice ≡ c = cc h in ap Err e
twice_faulty b n s fault.NoMemory h = tt

-- the section with a new name
abbrev renamed : Scope → List ℕ → NameMeaning → Scope
renamed d name m = record d { names = (name, m) ∷ d.names }

with_name_ok : (d : Scope) (name : List ℕ) (m : NameMeaning) → is_none (lookup d.names name) ≡ true → with_name d name m ≡ Ok (renamed d name m)
with_name_ok d name m h = ap (λ b. only_if b NameTwice (renamed d name m)) h

-- ---- STATIC

abbrev static_end : Scope → List ℕ → ℕ → Result Scope DeckCause
static_end d name n = ok_as (λ (e : Scope). record e { fixed = d.fixed + n }) (with_name d name (Bytes 1 (pos d.fixed) n))

abbrev static_named : Scope → List ℕ → Option (List ℕ) → List ℕ → Result Scope DeckCause
static_named d size hex name = static_count d.fixed size hex >>= static_end d name

static_at : (d : Scope) (name size : List ℕ) (hex : Option (List ℕ)) → is_none d.data_bytes ≡ true → static_scope d name size hex ≡ (label_name name >>= static_named d size hex)
static_at d name size hex h = ap (λ b. only_if b BadLine d >>= λ e. label_name name >>= static_named e size hex) h

static_counted : (d : Scope) (name size : List ℕ) (hex : Option (List ℕ)) (n : ℕ) → is_none d.data_bytes ≡ true → Ok name ≡ label_name name → Ok n ≡ static_count d.fixed size hex → static_scope d name size hex ≡ static_end d name n
static_counted d name size hex n h e f =
    static_at d name size hex h ∙ bind_ok (label_name name) name (static_named d size hex) e ∙ bind_ok (static_count d.fixed size hex) n (static_end d name) f

pub static_data : (d : Scope) (name size : List ℕ) (hex : Option (List ℕ)) → is_none d.data_bytes ≡ false → static_scope d name size hex ≡ Err BadLine
static_data d name size hex h = ap (λ b. only_if b BadLine d >>= λ e. label_name name >>= static_named e size hex) h

pub static_name : (d : Scope) (name size : List ℕ) (hex : Option (List ℕ)) (c : DeckCause) → is_none d.data_bytes ≡ true → Err c ≡ label_name name → static_scope d name size hex ≡ Err c
static_name d name size hex c h e = static_at d name size hex h ∙ bind_err (label_name name) c (static_named d size hex) e

pub static_refused : (d : Scope) (name size : List ℕ) (hex : Option (List ℕ)) (c : DeckCause) → is_none d.data_bytes ≡ true → Ok name ≡ label_name name → Err c ≡ static_count d.fixed size hex → static_scope d name size hex ≡ Err c
static_refused d name size hex c h e f =
    static_at d name size hex h ∙ bind_ok (label_name name) name (static_named d size hex) e ∙ bind_err (static_count d.fixed size hex) c (static_end d name) f

pub static_twice : (d : Scope) (name size : List ℕ) (hex : Option (List ℕ)) (n : ℕ) (x : Fault) → is_none d.data_bytes ≡ true → Ok name ≡ label_name name → Ok n ≡ static_count d.fixed size hex
    → Faulty (only_if (is_none (lookup d.names name)) NameTwice name) x → Faulty (static_scope d name size hex) x
static_twice d name size hex n x h e f g =
    let m = Bytes 1 (pos d.fixed) n in
    faulty_is (static_scope d name size hex) (static_end d name n) x (static_counted d name size hex n h e f)
    (faulty_as_scope (λ (e : Scope). record e { fixed = d.fixed + n }) (with_name d name m) x (twice_faulty (is_none (lookup d.names name)) name (renamed d name m) x g))

pub static_good : (d : Scope) (name size : List ℕ) (hex : Option (List ℕ)) (n : ℕ) → is_none d.data_bytes ≡ true → Ok name ≡ label_name name → Ok n ≡ static_count d.fixed size hex → is_none (lookup d.names name) ≡ true
    → static_scope d name size hex ≡ Ok (record (renamed d name (Bytes 1 (pos d.fixed) n)) { fixed = d.fixed + n })
static_good d name size hex n h e f g =
    static_counted d name size hex n h e f ∙ ap (ok_as (λ (e : Scope). record e { fixed = d.fixed + n })) (with_name_ok d name (Bytes 1 (pos d.fixed) n) g)

-- ---- SESSION

abbrev session_end : Scope → List ℕ → ℕ → Result Scope DeckCause
session_end d name n = ok_as (λ (e : Scope). record e { session = d.session + n }) (with_name d name (Bytes 3 (pos d.session) n))

abbrev session_named : Scope → List ℕ → List ℕ → Result Scope DeckCause
session_named d size name = number_field 1 (most_session - d.session) size >>= session_end d name

session_counted : (d : Scope) (name size : List ℕ) (n : ℕ) → Ok name ≡ label_name name → Ok n ≡ number_field 1 (most_session - d.session) size → session_scope d name size ≡ session_end d name n
session_counted d name size n e f = bind_ok (label_name name) name (session_named d size) e ∙ bind_ok (number_field 1 (most_session - d.session) size) n (session_end d name) f

pub session_name : (d : Scope) (name size : List ℕ) (c : DeckCause) → Err c ≡ label_name name → session_scope d name size ≡ Err c
session_name d name size c e = bind_err (label_name name) c (session_named d size) e

pub session_refused : (d : Scope) (name size : List ℕ) (c : DeckCause) → Ok name ≡ label_name name → Err c ≡ number_field 1 (most_session - d.session) size → session_scope d name size ≡ Err c
session_refused d name size c e f = bind_ok (label_name name) name (session_named d size) e ∙ bind_err (number_field 1 (most_session - d.session) size) c (session_end d name) f

pub session_twice : (d : Scope) (name size : List ℕ) (n : ℕ) (x : Fault) → Ok name ≡ label_name name → Ok n ≡ number_field 1 (most_session - d.session) size
    → Faulty (only_if (is_none (lookup d.names name)) NameTwice name) x → Faulty (session_scope d name size) x
session_twice d name size n x e f g =
    let m = Bytes 3 (pos d.session) n in
    faulty_is (session_scope d name size) (session_end d name n) x (session_counted d name size n e f)
    (faulty_as_scope (λ (e : Scope). record e { session = d.session + n }) (with_name d name m) x (twice_faulty (is_none (lookup d.names name)) name (renamed d name m) x g))

pub session_good : (d : Scope) (name size : List ℕ) (n : ℕ) → Ok name ≡ label_name name → Ok n ≡ number_field 1 (most_session - d.session) size → is_none (lookup d.names name) ≡ true
    → session_scope d name size ≡ Ok (record (renamed d name (Bytes 3 (pos d.session) n)) { session = d.session + n })
session_good d name size n e f g =
    session_counted d name size n e f ∙ ap (ok_as (λ (e : Scope). record e { session = d.session + n })) (with_name_ok d name (Bytes 3 (pos d.session) n) g)

-- ---- PUBLIC

abbrev public_end : Scope → List ℕ → ℕ × ℕ → Result Scope DeckCause
public_end d name p = with_name d name (Bytes 6 (pos p.0) p.1)

abbrev public_named : Scope → List ℕ → List ℕ → List ℕ → Result Scope DeckCause
public_named d at size name = public_span at size >>= public_end d name

public_placed : (d : Scope) (name at size : List ℕ) (p : ℕ × ℕ) → Ok name ≡ label_name name → Ok p ≡ public_span at size → public_scope d name at size ≡ public_end d name p
public_placed d name at size p e f = bind_ok (label_name name) name (public_named d at size) e ∙ bind_ok (public_span at size) p (public_end d name) f

pub public_name : (d : Scope) (name at size : List ℕ) (c : DeckCause) → Err c ≡ label_name name → public_scope d name at size ≡ Err c
public_name d name at size c e = bind_err (label_name name) c (public_named d at size) e

pub public_refused : (d : Scope) (name at size : List ℕ) (c : DeckCause) → Ok name ≡ label_name name → Err c ≡ public_span at size → public_scope d name at size ≡ Err c
public_refused d name at size c e f = bind_ok (label_name name) name (public_named d at size) e ∙ bind_err (public_span at size) c (public_end d name) f

pub public_twice : (d : Scope) (name at size : List ℕ) (k n : ℕ) (x : Fault) → Ok name ≡ label_name name → Ok (k, n) ≡ public_span at size
    → Faulty (only_if (is_none (lookup d.names name)) NameTwice name) x → Faulty (public_scope d name at size) x
public_twice d name at size k n x e f g =
    faulty_is (public_scope d name at size) (public_end d name (k, n)) x (public_placed d name at size (k, n) e f)
    (twice_faulty (is_none (lookup d.names name)) name (renamed d name (Bytes 6 (pos k) n)) x g)

pub public_good : (d : Scope) (name at size : List ℕ) (k n : ℕ) → Ok name ≡ label_name name → ◌≡◌ {A = Result Span DeckCause} (Ok (k, n)) (public_span at size) → is_none (lookup d.names name) ≡ true
    → public_scope d name at size ≡ Ok (renamed d name (Bytes 6 (pos k) n))
public_good d name at size k n e f g = public_placed d name at size (k, n) e f ∙ with_name_ok d name (Bytes 6 (pos k) n) g

-- ---- CONST

abbrev const_end : Scope → List ℕ → List ℕ → Result Scope DeckCause
const_end d name number = with_name d name (Number number)

abbrev const_named : Scope → List ℕ → List ℕ → Result Scope DeckCause
const_named d number name = constant number >>= const_end d name

const_placed : (d : Scope) (name number : List ℕ) → Ok name ≡ label_name name → Ok number ≡ constant number → const_scope d name number ≡ const_end d name number
const_placed d name number e f = bind_ok (label_name name) name (const_named d number) e ∙ bind_ok (constant number) number (const_end d name) f

pub const_name : (d : Scope) (name number : List ℕ) (c : DeckCause) → Err c ≡ label_name name → const_scope d name number ≡ Err c
const_name d name number c e = bind_err (label_name name) c (const_named d number) e

pub const_refused : (d : Scope) (name number : List ℕ) (c : DeckCause) → Ok name ≡ label_name name → Err c ≡ constant number → const_scope d name number ≡ Err c
const_refused d name number c e f = bind_ok (label_name name) name (const_named d number) e ∙ bind_err (constant number) c (const_end d name) f

pub const_twice : (d : Scope) (name number : List ℕ) (x : Fault) → Ok name ≡ label_name name → Ok number ≡ constant number
    → Faulty (only_if (is_none (lookup d.names name)) NameTwice name) x → Faulty (const_scope d name number) x
const_twice d name number x e f g =
    faulty_is (const_scope d name number) (const_end d name number) x (const_placed d name number e f)
    (twice_faulty (is_none (lookup d.names name)) name (renamed d name (Number number)) x g)

pub const_good : (d : Scope) (name number : List ℕ) → Ok name ≡ label_name name → Ok number ≡ constant number → is_none (lookup d.names name) ≡ true
    → const_scope d name number ≡ Ok (renamed d name (Number number))
const_good d name number e f g = const_placed d name number e f ∙ with_name_ok d name (Number number) g

-- ---- what the code has after a declaration

-- a name was given its meaning
abbrev Given : CodeScope → List (List ℕ × NameMeaning) → List ℕ → NameMeaning → Type 0
Given new l name m = (is_none (lookup l name) ≡ true) × AreNames new.names ((name, m) ∷ l)

pub static_taken : (old new : CodeScope) (l : List (List ℕ × NameMeaning)) (name size : List ℕ) (hex : Option (List ℕ)) (n : ℕ) → is_none old.data_bytes ≡ true → Ok name ≡ label_name name → Ok n ≡ static_count old.fixed size hex
    → Given new l name (Bytes 1 (pos old.fixed) n) → new.fixed ≡ old.fixed + n → new.session ≡ old.session → new.data_bytes ≡ old.data_bytes → TakesScope new (Ok tt) (static_scope (scope_of old l) name size hex)
static_taken old new l name size hex n h e f g i j k =
    ((name, Bytes 1 (pos old.fixed) n) ∷ l, g.1, static_good (scope_of old l) name size hex n h e f g.0 ∙ rw (i, j, k) refl)

pub session_taken : (old new : CodeScope) (l : List (List ℕ × NameMeaning)) (name size : List ℕ) (n : ℕ) → Ok name ≡ label_name name → Ok n ≡ number_field 1 (most_session - old.session) size
    → Given new l name (Bytes 3 (pos old.session) n) → new.session ≡ old.session + n → new.fixed ≡ old.fixed → new.data_bytes ≡ old.data_bytes → TakesScope new (Ok tt) (session_scope (scope_of old l) name size)
session_taken old new l name size n e f g i j k =
    ((name, Bytes 3 (pos old.session) n) ∷ l, g.1, session_good (scope_of old l) name size n e f g.0 ∙ rw (i, j, k) refl)

pub public_taken : (old new : CodeScope) (l : List (List ℕ × NameMeaning)) (name at size : List ℕ) (k n : ℕ) → Ok name ≡ label_name name → ◌≡◌ {A = Result Span DeckCause} (Ok (k, n)) (public_span at size)
    → Given new l name (Bytes 6 (pos k) n) → new.session ≡ old.session → new.fixed ≡ old.fixed → new.data_bytes ≡ old.data_bytes → TakesScope new (Ok tt) (public_scope (scope_of old l) name at size)
public_taken old new l name at size k n e f g i j d =
    ((name, Bytes 6 (pos k) n) ∷ l, g.1, public_good (scope_of old l) name at size k n e f g.0 ∙ rw (i, j, d) refl)

pub const_taken : (old new : CodeScope) (l : List (List ℕ × NameMeaning)) (name number : List ℕ) → Ok name ≡ label_name name → Ok number ≡ constant number
    → Given new l name (Number number) → new.session ≡ old.session → new.fixed ≡ old.fixed → new.data_bytes ≡ old.data_bytes → TakesScope new (Ok tt) (const_scope (scope_of old l) name number)
const_taken old new l name number e f g i j d =
    ((name, Number number) ∷ l, g.1, const_good (scope_of old l) name number e f g.0 ∙ rw (i, j, d) refl)

-- a DATA line is taken
pub data_taken : (s : CodeScope) (l : List (List ℕ × NameMeaning)) (fs : List (List ℕ)) (sum : ℕ) → s.fixed ≡ 0 → sum ≡ unwrap_or s.data_bytes 0 + data_count fs
    → data_scope (scope_of s l) fs ≡ Ok (scope_of (record { names = s.names; fixed = s.fixed; session = s.session; data_bytes = Some sum }) l)
data_taken s l fs sum z g =
    let e : (s.fixed == 0) ≡ true = grind (arith, z) in
    let d : Scope = scope_of s l in
    ap (λ b. only_if b BadLine (record d { data_bytes = Some (unwrap_or s.data_bytes 0 + data_count fs) })) e ∙ ap (λ n. Ok (record d { data_bytes = Some n })) (sym g)
