-- What every application of a play is: its name has at most 16 bytes, its code is bytes, and there are at most 32 of
-- them.
use Rattle.std.proofs.Common.{◌≡◌, ℕ, zero, suc, ◌+◌, ◌-◌, ◌<◌, ◌≤◌, Bool, true, false, cond, not, List, [], ◌∷◌, ◌++◌, take, drop, length, Option, Some, None, refl, sym, subst, arith}
use Rattle.std.specs.Prelude.{⊤, ◌==◌, ◌&&◌, nat_lt, nat_le, slice_index_or}
use Rattle.std.specs.List.{AllByRecursion, concat}
use Rattle.std.proofs.lemmas.Bool.{and_parts, leb-true, ltb-true}
use Rattle.std.proofs.lemmas.List.{length-take}
use Rattle.model_play.specs.model_device.specs.Bytes.{AreBytes, lookup, insert, remove, up, be2, has_name, AscendByName}
use Rattle.model_play.specs.model_machine.specs.Code.{DecodesTo}
use Rattle.model_play.specs.model_device.specs.Device.{IsImage}
use Rattle.model_play.specs.model_device.specs.Image.{Two, look, after}
use Rattle.model_play.specs.model_device.specs.Stopped.{cost, stands}
use Rattle.model_play.specs.model_device.specs.Card.{App, Block, record_at, name_in, name_at, app_at, apps_of, blocks, cells, section, words_after, means}
use Rattle.model_play.specs.model_device.specs.Layout.{is_record, bad_record, fault}
use Rattle.model_play.specs.model_machine.specs.Chain.{code_in, with_pieces, changed_app}
use Rattle.model_play.specs.model_card.specs.Items.{Change, Fixed, Created, Deleted, Item, Plain, Atomic, apps_after_change, apps_after_items, Stopped, at_stop, in_flight, with_item}
use Rattle.model_play.specs.model_device.proofs.ImageLemmas.{all_append}
use Rattle.model_play.specs.model_device.proofs.ImageBytes.{image_settled}
use Rattle.law_machine.specs.law_rows.proofs.PlaceLemmas.{decoded_stands}
use Rattle.law_machine.specs.FewRuns.{AreCoded}
use Rattle.law_machine.proofs.AppSizes.{Limited, are_limited}
use Rattle.law_machine.proofs.FewHeaders.{insert_length, remove_length}
use Rattle.law_family.proofs.PlaySizes.{good_records}
use Rattle.model_play.specs.model_device.proofs.MapLemmas.{each_found, each_inserted, each_removed, ascending_inserted, ascending_removed, length_again}
use Rattle.model_play.specs.model_device.proofs.LayoutLemmas.{sound_after}

-- ---- lists of bytes

pub all_take : {A : Type 0} (P : A → Type 0) (n : ℕ) (xs : List A) → AllByRecursion P xs → AllByRecursion P (take n xs)
all_take P zero xs h = tt
all_take P (suc n) [] h = tt
all_take P (suc n) (x ∷ xs) h = (h.0, all_take P n xs h.1)

pub all_drop : {A : Type 0} (P : A → Type 0) (n : ℕ) (xs : List A) → AllByRecursion P xs → AllByRecursion P (drop n xs)
all_drop P zero xs h = h
all_drop P (suc n) [] h = tt
all_drop P (suc n) (x ∷ xs) h = all_drop P n xs h.1

bytes_joined : (ws : List (List ℕ)) → AllByRecursion AreBytes ws → AreBytes (concat ws)
bytes_joined [] h = tt
bytes_joined (w ∷ ws) h = all_append (λ b. b < 256) w (concat ws) h.0 (bytes_joined ws h.1)

all_words : (m : List (List ℕ)) → ((i : ℕ) → AreBytes (slice_index_or m i [])) → AllByRecursion AreBytes m
all_words [] h = tt
all_words (w ∷ m) h = (h 0, all_words m (λ i. h (suc i)))

-- a section of an image is bytes
section_bytes : (m : List (List ℕ)) (p n : ℕ) → IsImage m → AreBytes (section m p n)
section_bytes m p n image =
    all_take (λ b. b < 256) n (cells m p (up n 8)) (bytes_joined (take (up n 8) (drop p m)) (all_take AreBytes (up n 8) (drop p m) (all_drop AreBytes p m (all_words m image.bytes))))

-- ---- applications

-- a name of at most 16 bytes, and code of bytes
pub record IsNamedCode (e : List ℕ × App) : Type 0 where
  pub name : length e.0 ≤ 16
  pub code : AreBytes (e.1).code

-- the applications of a card
pub record AreOnCard (m : List (List ℕ × App)) : Type 0 where
  pub ascending : AscendByName m
  pub entries : AllByRecursion IsNamedCode m
  pub count : length m ≤ 32

pub code_bytes : (m : List (List ℕ × App)) → AreOnCard m → (o : Option App) (n : List ℕ) → lookup m n ≡ o → AreBytes (code_in o)
code_bytes m h None n e = tt
code_bytes m h (Some a) n e = (each_found IsNamedCode m n a h.entries e).code

pub name_short : (m : List (List ℕ × App)) (n : List ℕ) (a : App) → AreOnCard m → lookup m n ≡ Some a → length n ≤ 16
name_short m n a h e = (each_found IsNamedCode m n a h.entries e).name

pub are_coded : (m : List (List ℕ × App)) → Limited m → AreOnCard m → AreCoded m
are_coded m limited h =
    record {
      limited = are_limited m limited;
      shaped = λ name at i next e.
          let code = code_in (lookup m name) in
          let bytes : AreBytes code = code_bytes m h (lookup m name) name refl in
          (subst (λ (r : _). DecodesTo code at r) e (decoded_stands code at bytes)).shaped;
    }

-- ---- changes

-- a change that leaves them so
abbrev pub ChangeStands : List (List ℕ × App) → Change → Type 0
ChangeStands m (Fixed n ps) = ⊤
ChangeStands m (Created n a) = (length m ≤ 31) × IsNamedCode (n, a)
ChangeStands m (Deleted n) = ⊤

abbrev pub ItemsStand : List (List ℕ × App) → List Item → Type 0
ItemsStand m [] = ⊤
ItemsStand m (Plain ∷ is) = ItemsStand m is
ItemsStand m (Atomic w c ∷ is) = ChangeStands m c × ItemsStand (apps_after_change c m) is

-- a change of static bytes
again : (m : List (List ℕ × App)) (n : List ℕ) (ps : List (ℕ × List ℕ)) (o : Option App) → lookup m n ≡ o → AreOnCard m → AreOnCard (changed_app m n ps o) × (length (changed_app m n ps o) ≡ length m)
again m n ps None e h = (h, refl)
again m n ps (Some a) e h =
    let b : App = with_pieces ps a in
    let found : IsNamedCode (n, a) = each_found IsNamedCode m n a h.entries e in
    let same : length (insert m n b) ≡ length m = length_again m n a b h.ascending e in (
      record {
        ascending = ascending_inserted m n b h.ascending;
        entries = each_inserted IsNamedCode m n b (record { name = found.name; code = found.code }) h.entries;
        count = subst (λ (k : ℕ). k ≤ 32) (sym same) h.count;
      },
      same,
    )

pub fixed_again : (m : List (List ℕ × App)) (n : List ℕ) (ps : List (ℕ × List ℕ)) → AreOnCard m → AreOnCard (apps_after_change (Fixed n ps) m) × (length (apps_after_change (Fixed n ps) m) ≡ length m)
fixed_again m n ps h = again m n ps (lookup m n) refl h

pub changed_stands : (m : List (List ℕ × App)) (c : Change) → AreOnCard m → ChangeStands m c → AreOnCard (apps_after_change c m)
changed_stands m (Fixed n ps) h k = (fixed_again m n ps h).0
changed_stands m (Created n a) h k =
    let few : length m ≤ 31 = k.0 in
    let more : length (insert m n a) ≤ length m + 1 = insert_length m n a in
    record { ascending = ascending_inserted m n a h.ascending; entries = each_inserted IsNamedCode m n a k.1 h.entries; count = omega arith }
changed_stands m (Deleted n) h k =
    let few : length m ≤ 32 = h.count in
    let less : length (remove m n) ≤ length m = remove_length m n in
    record { ascending = ascending_removed m n h.ascending; entries = each_removed IsNamedCode m n h.entries; count = omega arith }

pub done_stands : (is : List Item) (m : List (List ℕ × App)) → AreOnCard m → ItemsStand m is → AreOnCard (apps_after_items m is)
done_stands [] m h f = h
done_stands (Plain ∷ is) m h f = done_stands is m h f
done_stands (Atomic w c ∷ is) m h f = done_stands is (apps_after_change c m) (changed_stands m c h f.0) f.1

stands_cond : (m : List (List ℕ × App)) (b : Bool) (s t : Stopped) → ItemsStand m s.whole → ItemsStand m t.whole → ItemsStand m (cond b s t).whole
stands_cond m true s t h k = h
stands_cond m false s t h k = k

stands_flight : (m : List (List ℕ × App)) (w : ℕ) (c : Change) (b : Bool) → ChangeStands m c → ItemsStand m (cond b (Atomic w c ∷ []) [])
stands_flight m w c true h = (h, tt)
stands_flight m w c false h = tt

-- the whole items of a stop
pub whole_stand : (is : List Item) (m : List (List ℕ × App)) (k : ℕ) (x : List ℕ) → ItemsStand m is → ItemsStand m (at_stop is k x).whole
whole_stand [] m k x f = tt
whole_stand (Plain ∷ is) m k x f = stands_cond m (k == 1) (record { whole = []; owed = 0 }) (with_item Plain (at_stop is (k - 1) x)) tt (whole_stand is m (k - 1) x f)
whole_stand (Atomic w c ∷ is) m k x f =
    stands_cond m (nat_le k (cost Two w)) (in_flight w c k x) (with_item (Atomic w c) (at_stop is (k - cost Two w) x)) (stands_flight m w c (stands Two w k x) f.0)
    (f.0, whole_stand is (apps_after_change c m) (k - cost Two w) x f.1)

-- items in order
pub stand_append : (is js : List Item) (m : List (List ℕ × App)) → ItemsStand m is → ItemsStand (apps_after_items m is) js → ItemsStand m (is ++ js)
stand_append [] js m f g = g
stand_append (Plain ∷ is) js m f g = stand_append is js m f g
stand_append (Atomic w c ∷ is) js m f g = (f.0, stand_append is js (apps_after_change c m) f.1 g)

-- ---- the card of an image

name_few : (r : List ℕ) (words : ℕ) → is_record r words ≡ true → length (name_in r) ≤ 16
name_few r words h = grind (arith, and_parts, leb-true, length-take)

-- the applications of blocks whose records are good, after `used` others
record RecordsRead (used : ℕ) (m : List (List ℕ × App)) : Type 0 where
  ascending : AscendByName m
  entries : AllByRecursion IsNamedCode m
  count : length m + used ≤ 32

read_blocks : (m : List (List ℕ)) (bs : List Block) (names : List (List ℕ)) (used : ℕ) → IsImage m → used ≤ 32 → bad_record m bs names used ≡ None → RecordsRead used (apps_of m bs)
unfolding bad_record apps_of
read_blocks m [] names used image few h = record { ascending = tt; entries = tt; count = omega (arith, few) }
read_blocks m (b ∷ bs) names used image few h =
    by b.used (is_record (record_at m b.place) b.words && not (has_name (name_in (record_at m b.place)) names) && nat_lt used 32) refl h
    (λ less e. read_blocks m bs (name_in (record_at m b.place) ∷ names) (used + 1) image less e) (λ e. read_blocks m bs names used image few e)
  where
    by : (u g : Bool) → (is_record (record_at m b.place) b.words && not (has_name (name_in (record_at m b.place)) names) && nat_lt used 32) ≡ g
        → cond u (cond g (bad_record m bs (name_in (record_at m b.place) ∷ names) (used + 1)) (Some b.place)) (bad_record m bs names used) ≡ None
        → (used + 1 ≤ 32 → bad_record m bs (name_in (record_at m b.place) ∷ names) (used + 1) ≡ None → RecordsRead (used + 1) (apps_of m bs)) → (bad_record m bs names used ≡ None → RecordsRead used (apps_of m bs))
        → RecordsRead used (cond u (insert (apps_of m bs) (name_at m b.place) (app_at m b.place)) (apps_of m bs))
    by true true is e next other =
        let r = record_at m b.place in
        let front = and_parts (is_record r b.words && not (has_name (name_in r) names)) (nat_lt used 32) is in
        let good = and_parts (is_record r b.words) (not (has_name (name_in r) names)) front.0 in
        let less : used < 32 = ltb-true used 32 front.1 in
        let rest : RecordsRead (used + 1) (apps_of m bs) = next (omega arith) e in
        let most : length (apps_of m bs) + (used + 1) ≤ 32 = rest.count in
        let more : length (insert (apps_of m bs) (name_at m b.place) (app_at m b.place)) ≤ length (apps_of m bs) + 1 = insert_length (apps_of m bs) (name_at m b.place) (app_at m b.place) in
        record {
          ascending = ascending_inserted (apps_of m bs) (name_at m b.place) (app_at m b.place) rest.ascending;
          entries = each_inserted IsNamedCode (apps_of m bs) (name_at m b.place) (app_at m b.place)
              (record { name = name_few r b.words good.0; code = section_bytes m (b.place + 5) (be2 r 20) image }) rest.entries;
          count = omega arith;
        }
    by true false is e next other = absurd (cc e)
    by false g is e next other = other e

-- an image without a fault holds such applications
pub means_on_card : (m : List (List ℕ)) → IsImage m → fault m ≡ None → AreOnCard (means m).apps
means_on_card m image h =
    let w = words_after (after m) m in
    let r : RecordsRead 0 (apps_of w (blocks w)) = read_blocks w (blocks w) [] 0 (image_settled m image) (omega arith) (good_records w (sound_after m (look m) refl h)) in
    let most : length (apps_of w (blocks w)) + 0 ≤ 32 = r.count in
    record { ascending = r.ascending; entries = r.entries; count = omega arith }
