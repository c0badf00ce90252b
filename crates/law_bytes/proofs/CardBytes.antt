-- The card of an image of bytes is of bytes, and items of bytes leave it so.
use Rattle.std.proofs.Common.{◌≡◌, ℕ, zero, suc, ◌+◌, ◌-◌, ◌<◌, ◌≤◌, Bool, true, false, cond, not, List, [], ◌∷◌, take, drop, length, Some, None, refl, arith}
use Rattle.std.specs.Prelude.{⊤, ◌==◌, ◌&&◌, nat_lt, nat_le, bytes_eq, slice_index, slice_index_or}
use Rattle.std.specs.List.{AllByRecursion, concat}
use Rattle.std.proofs.lemmas.Bool.{and_parts, leb-true}
use Rattle.std.proofs.lemmas.List.{length-take-le}
use Rattle.law_family.specs.model_device.specs.Bytes.{AreBytes, insert, up, be2, zeros, has_name}
use Rattle.law_family.specs.model_device.specs.Device.{IsImage}
use Rattle.law_family.specs.model_device.specs.Image.{Two}
use Rattle.law_family.specs.model_device.specs.Stopped.{cost, stands}
use Rattle.law_family.specs.model_device.specs.Card.{App, Block, words_of_lengths, record_at, name_in, name_at, app_at, apps_of, cells, section, means}
use Rattle.law_family.specs.model_device.specs.Layout.{is_record, bad_record, fault}
use Rattle.law_family.specs.model_machine.specs.Chain.{Write}
use Rattle.law_family.specs.model_card.specs.Items.{Change, Fixed, Created, Deleted, Item, Plain, Atomic, apps_after_change, apps_after_items, write_items, Stopped, at_stop, in_flight, with_item}
use Rattle.law_family.specs.model_device.proofs.ImageBytes.{image_settled}
use Rattle.law_family.specs.model_device.proofs.LayoutLemmas.{sound_after}
use Rattle.law_family.specs.model_device.proofs.MapLemmas.{each_inserted, each_removed}
use Rattle.law_family.proofs.CardFacts.{all_take, all_drop}
use Rattle.law_family.proofs.PlaySizes.{good_records}
use Rattle.law_bytes.specs.OfBytes.{ArePieces}
use Rattle.law_bytes.specs.OfChains.{IsName, IsByteApp, AreByteApps, AreByteWrites}
use Rattle.law_bytes.proofs.ByteLists.{taken, joined}
use Rattle.law_bytes.proofs.ChainBytes.{changed_apps}

-- ---- words of an image

words_joined : (ws : List (List ℕ)) → AllByRecursion AreBytes ws → AreBytes (concat ws)
words_joined [] h = tt
words_joined (w ∷ ws) h = joined w (concat ws) h.0 (words_joined ws h.1)

each_word : (m : List (List ℕ)) → ((i : ℕ) → AreBytes (slice_index_or m i [])) → AllByRecursion AreBytes m
each_word [] h = tt
each_word (w ∷ m) h = (h 0, each_word m (λ i. h (suc i)))

cell_bytes : (m : List (List ℕ)) (p n : ℕ) → IsImage m → AreBytes (cells m p n)
cell_bytes m p n image = words_joined (take n (drop p m)) (all_take AreBytes n (drop p m) (all_drop AreBytes p m (each_word m image.bytes)))

section_bytes : (m : List (List ℕ)) (p n : ℕ) → IsImage m → AreBytes (section m p n)
section_bytes m p n image = taken n (cells m p (up n 8)) (cell_bytes m p (up n 8) image)

-- ---- records

-- the length of the name in a good record, and that the record has it
record NameFits (r : List ℕ) : Type 0 where
  least : 5 ≤ slice_index r 16
  most : slice_index r 16 ≤ 16

name_fits : (r : List ℕ) (words : ℕ) → is_record r words ≡ true → NameFits r
name_fits r words h =
    let n : ℕ = slice_index r 16 in
    let a : Bool = nat_le 5 n && nat_le n 16 in
    let b : Bool = a && bytes_eq (take (16 - n) (drop n r)) (zeros (16 - n)) in
    let c : Bool = b && nat_le (slice_index r 17) 128 in
    let d : Bool = c && nat_le (slice_index r 18) 128 in
    let e : Bool = d && slice_index r 19 == 0 in
    let f : Bool = e && nat_le 1 (be2 r 20) in
    let g : Bool = f && nat_le (be2 r 20) 8192 in
    let i : Bool = g && nat_le (be2 r 22) 4096 in
    let j : Bool = i && nat_le (be2 r 24) 256 in
    let k : Bool = j && nat_le (be2 r 26) 15 in
    let l : Bool = k && bytes_eq (drop 28 r) (zeros 4) in
    let to-l = and_parts l (words == words_of_lengths (be2 r 20) (be2 r 22) (slice_index r 17) (slice_index r 18)) h in
    let to-k = and_parts k (bytes_eq (drop 28 r) (zeros 4)) to-l.0 in
    let to-j = and_parts j (nat_le (be2 r 26) 15) to-k.0 in
    let to-i = and_parts i (nat_le (be2 r 24) 256) to-j.0 in
    let to-g = and_parts g (nat_le (be2 r 22) 4096) to-i.0 in
    let to-f = and_parts f (nat_le (be2 r 20) 8192) to-g.0 in
    let to-e = and_parts e (nat_le 1 (be2 r 20)) to-f.0 in
    let to-d = and_parts d (slice_index r 19 == 0) to-e.0 in
    let to-c = and_parts c (nat_le (slice_index r 18) 128) to-d.0 in
    let to-b = and_parts b (nat_le (slice_index r 17) 128) to-c.0 in
    let to-a = and_parts a (bytes_eq (take (16 - n) (drop n r)) (zeros (16 - n))) to-b.0 in
    let both = and_parts (nat_le 5 n) (nat_le n 16) to-a.0 in
    record { least = leb-true 5 n both.0; most = leb-true n 16 both.1 }

-- a byte that is not 0 lies in the list
within : (r : List ℕ) (i : ℕ) → 1 ≤ slice_index r i → i < length r
within [] i h = absurd (omega (arith, h))
within (b ∷ r) zero h = omega arith
within (b ∷ r) (suc i) h = omega (arith, within r i h)

name_is : (r : List ℕ) (words : ℕ) → is_record r words ≡ true → AreBytes r → IsName (name_in r)
name_is r words h bytes =
    let fits : NameFits r = name_fits r words h in
    let least : 5 ≤ slice_index r 16 = fits.least in
    let most : slice_index r 16 ≤ 16 = fits.most in
    let inside : 16 < length r = within r 16 (omega (arith, least)) in
    let size : length (take (slice_index r 16) r) ≡ slice_index r 16 = length-take-le (slice_index r 16) r (omega (arith, inside, most)) in
    record { bytes = taken (slice_index r 16) r bytes; least = omega (arith, size, least); most = omega (arith, size, most) }

-- the applications of blocks whose records are good
read_blocks : (m : List (List ℕ)) (bs : List Block) (names : List (List ℕ)) (used : ℕ) → IsImage m → bad_record m bs names used ≡ None → AreByteApps (apps_of m bs)
unfolding bad_record apps_of
read_blocks m [] names used image h = tt
read_blocks m (b ∷ bs) names used image h =
    by b.used (is_record (record_at m b.place) b.words && not (has_name (name_in (record_at m b.place)) names) && nat_lt used 32) refl h
    (λ e. read_blocks m bs (name_in (record_at m b.place) ∷ names) (used + 1) image e) (λ e. read_blocks m bs names used image e)
  where
    by : (u g : Bool) → (is_record (record_at m b.place) b.words && not (has_name (name_in (record_at m b.place)) names) && nat_lt used 32) ≡ g
        → cond u (cond g (bad_record m bs (name_in (record_at m b.place) ∷ names) (used + 1)) (Some b.place)) (bad_record m bs names used) ≡ None
        → (bad_record m bs (name_in (record_at m b.place) ∷ names) (used + 1) ≡ None → AreByteApps (apps_of m bs)) → (bad_record m bs names used ≡ None → AreByteApps (apps_of m bs))
        → AreByteApps (cond u (insert (apps_of m bs) (name_at m b.place) (app_at m b.place)) (apps_of m bs))
    by true true is e next other =
        let r = record_at m b.place in
        let front = and_parts (is_record r b.words && not (has_name (name_in r) names)) (nat_lt used 32) is in
        let good = and_parts (is_record r b.words) (not (has_name (name_in r) names)) front.0 in
        let here : IsByteApp (name_at m b.place, app_at m b.place) =
        record {
          name = name_is r b.words good.0 (cell_bytes m (b.place + 1) 4 image);
          code = section_bytes m (b.place + 5) (be2 r 20) image;
          fixed = section_bytes m (b.place + 5 + up (be2 r 20) 8) (be2 r 22) image;
        }
        in
        each_inserted IsByteApp (apps_of m bs) (name_at m b.place) (app_at m b.place) here (next e)
    by true false is e next other = absurd (cc e)
    by false g is e next other = other e

-- an image without a fault holds applications of bytes
pub means_bytes : (m : List (List ℕ)) → IsImage m → fault m ≡ None → AreByteApps (means m).apps
means_bytes m image h = grind (arith, read_blocks, image_settled, good_records, sound_after)

-- ---- items

-- a change of bytes
abbrev pub IsByteChange : Change → Type 0
IsByteChange (Fixed n ps) = ArePieces ps
IsByteChange (Created n a) = IsByteApp (n, a)
IsByteChange (Deleted n) = ⊤

-- an item carries bytes alone
abbrev pub IsByteItem : Item → Type 0
IsByteItem Plain = ⊤
IsByteItem (Atomic w c) = IsByteChange c

-- a change of bytes leaves the applications of bytes
pub changed : (m : List (List ℕ × App)) (c : Change) → AreByteApps m → IsByteChange c → AreByteApps (apps_after_change c m)
changed m (Fixed n ps) h k = changed_apps m n (Some ps) k h
changed m (Created n a) h k = each_inserted IsByteApp m n a k h
changed m (Deleted n) h k = each_removed IsByteApp m n h

-- items of bytes leave the applications of bytes
pub items_bytes : (is : List Item) (m : List (List ℕ × App)) → AreByteApps m → AllByRecursion IsByteItem is → AreByteApps (apps_after_items m is)
items_bytes [] m h k = h
items_bytes (Plain ∷ is) m h k = items_bytes is m h k.1
items_bytes (Atomic w c ∷ is) m h k = items_bytes is (apps_after_change c m) (changed m c h k.0) k.1

either : (b : Bool) (s t : Stopped) → AllByRecursion IsByteItem s.whole → AllByRecursion IsByteItem t.whole → AllByRecursion IsByteItem (cond b s t).whole
either true s t h k = h
either false s t h k = k

flown : (w : ℕ) (c : Change) (b : Bool) → IsByteChange c → AllByRecursion IsByteItem (cond b (Atomic w c ∷ []) [])
flown w c true h = (h, tt)
flown w c false h = tt

-- the whole items of a stop
pub whole_bytes : (is : List Item) (k : ℕ) (x : List ℕ) → AllByRecursion IsByteItem is → AllByRecursion IsByteItem (at_stop is k x).whole
whole_bytes [] k x h = tt
whole_bytes (Plain ∷ is) k x h = either (k == 1) (record { whole = []; owed = 0 }) (with_item Plain (at_stop is (k - 1) x)) tt (tt, whole_bytes is (k - 1) x h.1)
whole_bytes (Atomic w c ∷ is) k x h =
    either (nat_le k (cost Two w)) (in_flight w c k x) (with_item (Atomic w c) (at_stop is (k - cost Two w) x)) (flown w c (stands Two w k x) h.0) (h.0, whole_bytes is (k - cost Two w) x h.1)

-- the atomic writes of a run
pub written_items : (ws : List Write) → AreByteWrites ws → AllByRecursion IsByteItem (write_items ws)
written_items [] h = tt
written_items (w ∷ ws) h = (h.0, written_items ws h.1)
