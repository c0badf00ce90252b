-- The place and the sizes of a slot from its number; a slot keeps its name while its application keeps its sizes.
use Rattle.std.specs.Prelude.{◌≡◌, ◌≢◌, ℕ, suc, ◌+◌, ◌*◌, ◌/◌, ◌%◌, ◌<◌, ◌≤◌, Bool, true, false, cond, List, [], ◌∷◌, length, bytes_eq, unwrap_or, IsSome, Option, Some, None}
use Rattle.std.proofs.Common.{refl, ap, sym, subst, ◌∙◌, arith}
use Rattle.std.proofs.lemmas.List.{length-take-le}
use Rattle.std.proofs.lemmas.Bool.{false_from_ne_true}
use Rattle.model_card.specs.declared.card.Part.{Part}
use Rattle.model_card.specs.declared.card.Sizes.{Sizes}
use Rattle.model_card.specs.model_device.specs.Bytes.{lookup, insert, remove, splice}
use Rattle.model_card.specs.model_device.specs.Pieces.{laid_pieces, laid_words, word_pieces}
use Rattle.model_card.specs.model_device.specs.Card.{App}
use Rattle.model_card.specs.Items.{Site, BankItem, Piece, Blank, Note, Commit, Enter, Remove}
use Rattle.model_card.specs.model_device.proofs.ListLemmas.{splice_longer as splice-long}
use Rattle.mc_bank.specs.Bank.{app_of, no_app, sizes_of, with_words, app_of_site, item_done, Spares}
use Rattle.mc_bank.specs.Slots.{slot_number, digit, slot_place, slot_sizes, list_of_sizes, same_sizes, name_of_slot, AreDigits}
use Rattle.model_card.specs.model_device.proofs.MapLemmas.{same_name, name_is_itself, lookup_inserted_lem, lookup_beside, lookup_left}
use Rattle.model_card.specs.model_device.proofs.BoolLemmas.{some_is}

-- ---- digits

digit_here : (a b : ℕ) → a < 65536 → digit 0 (a + 65536 * b) ≡ a
digit_here a b h = omega arith

digit_next : (i a b : ℕ) → a < 65536 → digit (suc i) (a + 65536 * b) ≡ digit i b
digit_next i a b h = let e : (a + 65536 * b) / 65536 ≡ b = omega arith in ap (λ (n : ℕ). digit i n) e

pub place_back : (p : ℕ) (s : Sizes) → AreDigits p s → slot_place (slot_number p s) ≡ p
place_back p s d = digit_here p (s.code + 65536 * (s.fixed + 65536 * (s.init + 65536 * (s.session + 65536 * (s.dir + 65536 * (s.fci + 65536 * s.deny)))))) d.place

pub sizes_back : (p : ℕ) (s : Sizes) → AreDigits p s → slot_sizes (slot_number p s) ≡ s
sizes_back p s d =
    let f = s.fci + 65536 * s.deny in
    let e = s.dir + 65536 * f in
    let c = s.session + 65536 * e in
    let b = s.init + 65536 * c in
    let a = s.fixed + 65536 * b in
    let t = s.code + 65536 * a in
    let k = p + 65536 * t in
    let code : digit 1 k ≡ s.code = digit_next 0 p t d.place ∙ digit_here s.code a d.code in
    let two : (i : ℕ) → digit (suc (suc i)) k ≡ digit i a = λ i. digit_next (suc i) p t d.place ∙ digit_next i s.code a d.code in
    let four : (i : ℕ) → digit (suc (suc (suc (suc i)))) k ≡ digit i c = λ i. two (suc (suc i)) ∙ digit_next (suc i) s.fixed b d.fixed ∙ digit_next i s.init c d.init in
    let six : (i : ℕ) → digit (suc (suc (suc (suc (suc (suc i)))))) k ≡ digit i f = λ i. four (suc (suc i)) ∙ digit_next (suc i) s.session e d.session ∙ digit_next i s.dir f d.dir in
    let fixed : digit 2 k ≡ s.fixed = two 0 ∙ digit_here s.fixed b d.fixed in
    let init : digit 3 k ≡ s.init = two 1 ∙ digit_next 0 s.fixed b d.fixed ∙ digit_here s.init c d.init in
    let session : digit 4 k ≡ s.session = four 0 ∙ digit_here s.session e d.session in
    let dir : digit 5 k ≡ s.dir = four 1 ∙ digit_next 0 s.session e d.session ∙ digit_here s.dir f d.dir in
    let fci : digit 6 k ≡ s.fci = six 0 ∙ digit_here s.fci s.deny d.fci in
    let last : s.deny % 65536 ≡ s.deny = let low = d.deny in omega (arith, low) in
    let deny : digit 7 k ≡ s.deny = six 1 ∙ digit_next 0 s.fci s.deny d.fci ∙ last in
    rw (code, fixed, init, session, dir, fci, deny) refl

pub slot_back : (p : ℕ) (s : Sizes) → AreDigits p s → ◌≡◌ {A = ℕ × Sizes} (slot_place (slot_number p s), slot_sizes (slot_number p s)) (p, s)
slot_back p s d =
    ap (λ (i : ℕ). (i, slot_sizes (slot_number p s))) (place_back p s d) ∙ ap (λ (z : Sizes). (p, z)) (sizes_back p s d)

-- ---- equal sizes

-- the sizes in a list of seven
abbrev sizes_in : List ℕ → Sizes
sizes_in (a ∷ b ∷ c ∷ d ∷ e ∷ f ∷ g ∷ rest) = record { code = a; fixed = b; init = c; session = d; dir = e; fci = f; deny = g }
sizes_in rest = record { code = 0; fixed = 0; init = 0; session = 0; dir = 0; fci = 0; deny = 0 }

pub same_is : (a b : Sizes) → same_sizes a b ≡ true → a ≡ b
same_is a b h = ap sizes_in (same_name (list_of_sizes a) (list_of_sizes b) h)

pub same_self : (a b : Sizes) → a ≡ b → same_sizes a b ≡ true
same_self a b h = ap (λ (s : Sizes). same_sizes a s) (sym h) ∙ name_is_itself (list_of_sizes a)

-- ---- the name of a slot

-- a name is at the place of a slot, and its application has the slot's sizes
pub record HasSizes (apps : List (List ℕ × App)) (k : ℕ) (o : Option (List ℕ)) (n : List ℕ) : Type 0 where
  pub name : o ≡ Some n
  pub sizes : slot_sizes k ≡ sizes_of (app_of apps (Some n))

has_kind : (apps : List (List ℕ × App)) (k : ℕ) (m n : List ℕ) (t : Bool) → same_sizes (slot_sizes k) (sizes_of (app_of apps (Some m))) ≡ t → cond t (Some m) None ≡ Some n → HasSizes apps k (Some m) n
has_kind apps k m n true same h =
    record {
      name = h;
      sizes = same_is (slot_sizes k) (sizes_of (app_of apps (Some m))) same ∙ ap (λ (o : Option (List ℕ)). sizes_of (app_of apps o)) h;
    }
has_kind apps k m n false same h = absurd (cc h)

pub has_sizes : (apps : List (List ℕ × App)) (k : ℕ) (o : Option (List ℕ)) (n : List ℕ) → name_of_slot apps k o ≡ Some n → HasSizes apps k o n
has_sizes apps k None n h = absurd (cc h)
has_sizes apps k (Some m) n h = has_kind apps k m n (same_sizes (slot_sizes k) (sizes_of (app_of apps (Some m)))) refl h

pub slot_named : (apps : List (List ℕ × App)) (k : ℕ) (o : Option (List ℕ)) (n : List ℕ) → o ≡ Some n → slot_sizes k ≡ sizes_of (app_of apps (Some n)) → name_of_slot apps k o ≡ Some n
slot_named apps k o n name sizes =
    ap (λ (x : Option (List ℕ)). name_of_slot apps k x) name ∙ ap (λ (t : Bool). cond t (Some n) None) (same_self (slot_sizes k) (sizes_of (app_of apps (Some n))) sizes)

-- a slot that has a name has the one at its place
pub name_there : (apps : List (List ℕ × App)) (k : ℕ) (o : Option (List ℕ)) → IsSome (name_of_slot apps k o) → name_of_slot apps k o ≡ o
name_there apps k o h = let n = some_is (name_of_slot apps k o) h in n.1 ∙ sym (has_sizes apps k o n.0 n.1).name

pub some_there : (apps : List (List ℕ × App)) (k : ℕ) (o : Option (List ℕ)) → IsSome (name_of_slot apps k o) → IsSome o
some_there apps k o h = subst (λ (x : Option (List ℕ)). IsSome x) (name_there apps k o h) h

-- a slot that has a name has the sizes of its application
pub slot_sized : (apps : List (List ℕ × App)) (k : ℕ) (o : Option (List ℕ)) → IsSome (name_of_slot apps k o) → slot_sizes k ≡ sizes_of (app_of apps (name_of_slot apps k o))
slot_sized apps k o h =
    let n = some_is (name_of_slot apps k o) h in
    (has_sizes apps k o n.0 n.1).sizes ∙ ap (λ (x : Option (List ℕ)). sizes_of (app_of apps x)) (sym n.1)

-- applications that keep their sizes keep the names of slots
pub slot_stays : (apps apps' : List (List ℕ × App)) (k : ℕ) (o : Option (List ℕ)) → ((n : List ℕ) → sizes_of (app_of apps' (Some n)) ≡ sizes_of (app_of apps (Some n))) → name_of_slot apps' k o ≡ name_of_slot apps k o
slot_stays apps apps' k None same = refl
slot_stays apps apps' k (Some n) same = ap (λ (z : Sizes). cond (same_sizes (slot_sizes k) z) (Some n) None) (same n)

-- ---- the sizes of an application after an item

pub pieces_long : (l : List ℕ) (ws : List (ℕ × List ℕ)) → length l ≤ length (laid_pieces l (word_pieces ws))
pieces_long l [] = omega arith
pieces_long l (w ∷ ws) = omega (arith, splice-long l (8 * w.0) w.1, pieces_long (splice l (8 * w.0) w.1) ws)

pub laid_length : (l : List ℕ) (ws : List (ℕ × List ℕ)) → length (laid_words l ws) ≡ length l
laid_length l ws = length-take-le (length l) (laid_pieces l (word_pieces ws)) (pieces_long l ws)

-- words laid over static bytes keep all sizes
pub words_sized : (ws : List (ℕ × List ℕ)) (a : App) → sizes_of (with_words ws a) ≡ sizes_of a
words_sized ws a = ap (λ (n : ℕ). record (sizes_of a) { fixed = n; init = n }) (laid_length a.fixed ws)

beside : (m n : List ℕ) → m ≢ n → bytes_eq m n ≡ false
beside m n h = false_from_ne_true (bytes_eq m n) (λ e. h (same_name m n e))

app_some : (apps apps' : List (List ℕ × App)) (n : List ℕ) → lookup apps' n ≡ lookup apps n → app_of apps' (Some n) ≡ app_of apps (Some n)
app_some apps apps' n h = ap (λ (o : Option App). unwrap_or o no_app) h

pub beside_sized : (apps : List (List ℕ × App)) (m n : List ℕ) (a : App) → m ≢ n → sizes_of (app_of (insert apps m a) (Some n)) ≡ sizes_of (app_of apps (Some n))
beside_sized apps m n a h = ap sizes_of (app_some apps (insert apps m a) n (lookup_beside apps m a n (beside m n h)))

pub commit_sized : (apps : List (List ℕ × App)) (m : List ℕ) (ws : List (ℕ × List ℕ)) (n : List ℕ) → sizes_of (app_of (insert apps m (with_words ws (app_of apps (Some m)))) (Some n)) ≡ sizes_of (app_of apps (Some n))
commit_sized apps m ws n = by_test (bytes_eq m n) refl
  where
    by_test : (t : Bool) → bytes_eq m n ≡ t → sizes_of (app_of (insert apps m (with_words ws (app_of apps (Some m)))) (Some n)) ≡ sizes_of (app_of apps (Some n))
    by_test true e =
        let same : m ≡ n = same_name m n e in
        subst (λ (x : List ℕ). sizes_of (app_of (insert apps m (with_words ws (app_of apps (Some m)))) (Some x)) ≡ sizes_of (app_of apps (Some x))) same
        (ap (λ (o : Option App). sizes_of (unwrap_or o no_app)) (lookup_inserted_lem apps m (with_words ws (app_of apps (Some m)))) ∙ words_sized ws (app_of apps (Some m)))
    by_test false e = ap sizes_of (app_some apps (insert apps m (with_words ws (app_of apps (Some m)))) n (lookup_beside apps m (with_words ws (app_of apps (Some m))) n e))

pub remove_sized : (apps : List (List ℕ × App)) (m n : List ℕ) → m ≢ n → sizes_of (app_of (remove apps m) (Some n)) ≡ sizes_of (app_of apps (Some n))
remove_sized apps m n h = ap sizes_of (app_some apps (remove apps m) n (lookup_left apps m n (beside m n h)))

-- an item enters no application of this name
abbrev pub EntersNot : List ℕ → BankItem → Type 0
EntersNot n (Enter s m) = m ≢ n
EntersNot n (Piece s p at b) = Unit {0}
EntersNot n (Blank s at c) = Unit {0}
EntersNot n (Note s m i) = Unit {0}
EntersNot n (Commit m ws) = Unit {0}
EntersNot n (Remove m) = Unit {0}

-- an item that neither enters nor removes a name keeps the sizes of its application
pub item_sized : (site_bytes : Site → Part → List ℕ) (i : BankItem) (apps : List (List ℕ × App)) (n : List ℕ) → Spares n i → EntersNot n i → sizes_of (app_of (item_done site_bytes i apps) (Some n)) ≡ sizes_of (app_of apps (Some n))
item_sized site_bytes (Piece s p at b) apps n spares other = refl
item_sized site_bytes (Blank s at c) apps n spares other = refl
item_sized site_bytes (Note s m i) apps n spares other = refl
item_sized site_bytes (Commit m ws) apps n spares other = commit_sized apps m ws n
item_sized site_bytes (Enter s m) apps n spares other = beside_sized apps m n (app_of_site s (site_bytes s)) other
item_sized site_bytes (Remove m) apps n spares other = remove_sized apps m n (λ same. spares (sym same))
