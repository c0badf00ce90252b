-- The entries of a bank in memory after each call.
use Rattle.std.proofs.Common.{◌≡◌, ℕ, ◌+◌, ◌-◌, ◌*◌, ◌≤◌, ◌<◌, false, List, [], ◌∷◌, ◌++◌, length, take, drop, slice_set, Option, Some, None, Ok, refl, sym, ap, subst, ◌∙◌, inl, arith}
use Rattle.std.specs.Prelude.{map, is_some, IsSome}
use Rattle.std.specs.List.{AllByRecursion}
use Rattle.std.proofs.lemmas.List.{length-take-le, length-append, length-replicate, length-set, take-take, drop-take}
use Rattle.std.proofs.lemmas.List.Edits.{paste-paste}
use Rattle.std.proofs.Math.Seq.{take-length, take-append-add}
use Rattle.model_card.specs.model_device.specs.Orders.{Answer, InOrder}
use Rattle.model_card.specs.model_device.specs.Bytes.{zeros, splice, lookup}
use Rattle.model_card.specs.model_device.specs.Pieces.{laid_pieces, word_pieces}
use Rattle.model_card.specs.model_device.specs.Card.{App}
use Rattle.model_card.specs.Items.{Site, BankItem, Blank, Note, Commit, Enter, Remove}
use Rattle.model_card.specs.Manager.{word_parts}
use Rattle.mc_words.specs.Name.{IsName}
use Rattle.mc_bank.specs.declared.bank.Facts.{Facts}
use Rattle.mc_bank.specs.declared.entries.Entry.{Entry}
use Rattle.mc_bank.specs.Bank.{name_or, app_of, sizes_of, FitsLimits, CanCommit, IsGoodSite}
use Rattle.mc_bank.specs.Memory.{facts_in, name_of_entry, memory_named, first_free, is_named, AreFacts, IsWholeEntry, IsMemory, AreApart, app_in, apps_from, memory_room, entry_at, with_app, with_list, free_entry, new_facts, fixed_len, MemoryDid}
use Rattle.mc_bank.specs.EntryLaws.{facts_set, facts_kept, length_facts, free_has_no_name, free_is_there, no_name, apart_freed, apart_set, lookup_is, whole_set, whole_at, length_apps}
use Rattle.mc_bank.specs.MemoryLaws.{split, app_is, memory_obeys, memory_keeps, memory_spares, memory_leaves}
use Rattle.mc_bank.specs.Shown.{app_at}
use Rattle.mc_bank.specs.Slots.{slot_place, name_of_slot}
use Rattle.mc_bank.specs.SlotLaws.{slot_stays, commit_sized}
use Rattle.mc_bank.specs.Left.{CommitLeft, CreateLeft, DeleteLeft}
use Rattle.mc_bank.proofs.ShownLemmas.{name_at, slot_at, slot_within}
use Rattle.model_card.specs.model_device.proofs.ListLemmas.{length_splice}

-- ---- lists of bytes

pub length_laid : (x : List ℕ) (ws : List (ℕ × List ℕ)) → AllByRecursion (λ w. length w.1 ≡ 8) ws → AllByRecursion (λ w. 8 * w.0 + 8 ≤ length x) ws → length (laid_pieces x (word_pieces ws)) ≡ length x
length_laid x [] h a = refl
length_laid x (w ∷ ws) h a =
    let first = a.0 in
    let eight = h.0 in
    let len = length_splice x (8 * w.0) w.1 (omega (arith, first, eight)) in
    length_laid (splice x (8 * w.0) w.1) ws h.1 (subst (λ (k : ℕ). AllByRecursion (λ (v : ℕ × List ℕ). 8 * v.0 + 8 ≤ k) ws) (sym len) a.1) ∙ len

-- words of a segment end in its memory
pub words_fit : (n k : ℕ) (ws : List (ℕ × List ℕ)) → n ≤ k → k ≡ 4096 → AllByRecursion (λ w. 8 * w.0 < n) ws → AllByRecursion (λ w. 8 * w.0 + 8 ≤ k) ws
words_fit n k [] le is a = tt
words_fit n k (w ∷ ws) le is a = (let lt = a.0 in omega (arith, lt, le, is), words_fit n k ws le is a.1)

pub front_piece : (n : ℕ) (x : List ℕ) (at : ℕ) (b : List ℕ) → at + length b ≤ n → n ≤ length x → take n (splice x at b) ≡ splice (take n x) at b
front_piece n x at b le long =
    let q = take at x ++ b in
    let len : length q ≡ at + length b = length-append (take at x) b ∙ ap (λ (k : ℕ). k + length b) (length-take-le at x (omega (arith, le, long))) in
    let r = n - (at + length b) in
    let all : n ≡ (at + length b) + r = omega (arith, le) in
    ap (λ (k : ℕ). take k (q ++ drop (at + length b) x)) (all ∙ ap (λ (k : ℕ). k + r) (sym len))
    ∙ take-append-add q (drop (at + length b) x) r
    ∙ ap (λ (l : List ℕ). q ++ l) (sym (drop-take (at + length b) r x))
    ∙ ap (λ (k : ℕ). q ++ drop (at + length b) (take k x)) (sym all)
    ∙ ap (λ (l : List ℕ). (l ++ b) ++ drop (at + length b) (take n x)) (sym (take-take at n x (omega (arith, le))))

pub splice_splice : (x : List ℕ) (at : ℕ) (b c : List ℕ) → at ≤ length x → splice (splice x at b) (at + length b) c ≡ splice x at (b ++ c)
splice_splice x at b c le =
    let paste-b : splice x at b ≡ take at x ++ take (length b) b ++ drop (at + length b) x = ap (λ (l : List ℕ). take at x ++ l ++ drop (at + length b) x) (sym (take-length b)) in
    let both : length (b ++ c) ≡ length b + length c = length-append b c in
    ap (λ (l : List ℕ). splice l (at + length b) c) paste-b
    ∙ ap (λ (l : List ℕ). take (at + length b) (take at x ++ take (length b) b ++ drop (at + length b) x) ++ l ++ drop ((at + length b) + length c) (take at x ++ take (length b) b ++ drop (at + length b) x)) (sym (take-length c))
    ∙ paste-paste x at b c (length b) (length c) refl refl le
    ∙ ap (λ (k : ℕ). take at x ++ take k (b ++ c) ++ drop (at + k) x) (sym both)
    ∙ ap (λ (l : List ℕ). take at x ++ l ++ drop (at + length (b ++ c)) x) (take-length (b ++ c))

-- ---- names

pub some_name : (o : Option (List ℕ)) → IsSome o → o ≡ Some (name_or o)
some_name None h = absurd (cc h)
some_name (Some n) h = refl

-- the name of a slot is at its place
place_name : (m : List Entry) (j : ℕ) → IsSome (memory_named m j) → name_of_entry (facts_in m) (slot_place j) ≡ Some (name_or (memory_named m j))
place_name m j there = sym (slot_at m j there) ∙ some_name (memory_named m j) there

-- entries that keep all facts and all sizes keep the names of slots
pub same_named : (m e : List Entry) (j : ℕ) → facts_in e ≡ facts_in m → ((n : List ℕ) → sizes_of (app_of (apps_from 0 e) (Some n)) ≡ sizes_of (app_of (apps_from 0 m) (Some n))) → memory_named e j ≡ memory_named m j
same_named m e j facts sizes =
    slot_stays (apps_from 0 m) (apps_from 0 e) j (name_of_entry (facts_in e) (slot_place j)) sizes ∙ ap (λ (fs : List (Option Facts)). name_of_slot (apps_from 0 m) j (name_of_entry fs (slot_place j))) facts

-- ---- entries

pub memory_kept : (m : List Entry) (k : ℕ) (x : Entry) → IsMemory m → x.facts ≡ (entry_at m k).facts → IsWholeEntry x → IsMemory (slice_set m k x)
memory_kept m k x h same whole =
    record {
      room = sym (length_facts (slice_set m k x)) ∙ ap length (facts_kept m k x same) ∙ length_facts m ∙ h.room;
      whole = whole_set m k x h.whole whole;
      apart = subst AreApart (sym (facts_kept m k x same)) h.apart;
    }

-- ---- a commit

fixed_size : (m : List Entry) (j : ℕ) → IsMemory m → IsSome (memory_named m j)
    → (length (app_at m j).fixed ≡ fixed_len (entry_at m (slot_place j)).facts) × (fixed_len (entry_at m (slot_place j)).facts ≤ length (entry_at m (slot_place j)).fixed)
fixed_size m j h there =
    let k = slot_place j in
    let at = name_at m j there in
    let s = split m k at.0 at.1 h.apart in
    let w = whole_at m k (slot_within m j there) h.whole in
    let facts = subst AreFacts s.stands w.facts in
    let le = facts.1.fixed in
    let long = w.fixed in
    let small : s.facts.sizes.fixed ≤ length (entry_at m k).fixed = omega (arith, le, long) in
    let len : fixed_len (entry_at m k).facts ≡ s.facts.sizes.fixed = ap fixed_len s.stands in
    let app : app_at m j ≡ app_in k (entry_at m k) s.facts.sizes = ap (app_of (apps_from 0 m)) at.2 ∙ app_is m k at.0 s in
    (ap (λ (a : App). length a.fixed) app ∙ length-take-le s.facts.sizes.fixed (entry_at m k).fixed small ∙ sym len, subst (λ (i : ℕ). i ≤ length (entry_at m k).fixed) (sym len) small)

pub commit_fits : (m : List Entry) (j : ℕ) (ws : List (ℕ × List ℕ)) → IsMemory m → IsSome (memory_named m j) → CanCommit (app_at m j).fixed ws → AllByRecursion (λ w. 8 * w.0 + 8 ≤ length (entry_at m (slot_place j)).fixed) ws
commit_fits m j ws h there can =
    let size = fixed_size m j h there in
    let a = size.0 in
    let b = size.1 in
    words_fit (length (app_at m j).fixed) (length (entry_at m (slot_place j)).fixed) ws (omega (arith, a, b)) (whole_at m (slot_place j) (slot_within m j there) h.whole).fixed can.within

pub commit_left : (m : List Entry) (j : ℕ) (ws : List (ℕ × List ℕ)) (x : Entry) → IsMemory m → IsSome (memory_named m j) → CanCommit (app_at m j).fixed ws → x ≡ with_list ws (entry_at m (slot_place j))
    → CommitLeft m j ws (slice_set m (slot_place j) x)
commit_left m j ws x h there can is =
    let k = slot_place j in
    let size = fixed_size m j h there in
    let n = name_or (memory_named m j) in
    let w = whole_at m k (slot_within m j there) h.whole in
    let whole : IsWholeEntry (with_list ws (entry_at m k)) =
    record { facts = w.facts; code = w.code; fixed = length_laid (entry_at m k).fixed ws can.pending.whole (commit_fits m j ws h there can) ∙ w.fixed; dir = w.dir; fci = w.fci } in
    let e = slice_set m k x in
    let did : MemoryDid m (Commit n ws) (Ok tt) e =
    record {
      answer = refl;
      done = record {
        slot = k;
        named = place_name m j there;
        apart = h.apart;
        within = subst (λ (i : ℕ). AllByRecursion (λ (v : ℕ × List ℕ). 8 * v.0 < i) ws) size.0 can.within;
        whole = size.1;
        after = ap (slice_set m k) is;
      };
    } in
    let facts : x.facts ≡ (entry_at m k).facts = ap (λ (y : Entry). y.facts) is in
    record {
      memory = memory_kept m k x h facts (subst IsWholeEntry (sym is) whole);
      items = inl (e, did, refl);
      apps = memory_obeys m (Commit n ws) (Ok tt) e did;
      slots = λ i. same_named m e i (facts_kept m k x facts)
          (λ l. ap (λ (es : List (List ℕ × App)). sizes_of (app_of es (Some l))) (memory_obeys m (Commit n ws) (Ok tt) e did).apps ∙ commit_sized (apps_from 0 m) n ws l);
      good = memory_spares m n ws (Ok tt) e did;
      bytes = memory_leaves m n ws (Ok tt) e did;
    }

-- ---- a deletion

pub delete_left : (m : List Entry) (j : ℕ) (x : Entry) → IsMemory m → IsSome (memory_named m j) → x ≡ free_entry (entry_at m (slot_place j)) → DeleteLeft m j (slice_set m (slot_place j) x)
delete_left m j x h there is =
    let k = slot_place j in
    let n = name_or (memory_named m j) in
    let w = whole_at m k (slot_within m j there) h.whole in
    let whole : IsWholeEntry (free_entry (entry_at m k)) = record { facts = tt; code = w.code; fixed = w.fixed; dir = w.dir; fci = w.fci } in
    let e = slice_set m k x in
    let did : MemoryDid m (Remove n) (Ok tt) e =
    record { answer = refl; done = record { slot = k; named = place_name m j there; apart = h.apart; after = ap (slice_set m k) is } } in
    let facts : facts_in e ≡ slice_set (facts_in m) k None = facts_set m k x ∙ ap (λ (y : Entry). slice_set (facts_in m) k y.facts) is in
    record {
      memory = record {
        room = sym (length_facts e) ∙ ap length facts ∙ length-set (facts_in m) k None ∙ length_facts m ∙ h.room;
        whole = whole_set m k x h.whole (subst IsWholeEntry (sym is) whole);
        apart = subst AreApart (sym facts) (apart_freed (facts_in m) k h.apart);
      };
      items = inl (e, did, refl);
      apps = memory_obeys m (Remove n) (Ok tt) e did;
      slots = λ i l named other. memory_keeps m (Remove n) (Ok tt) e did i l named other;
    }

-- ---- good sites

pub free_place : (m : List Entry) (s : Site) → IsMemory m → IsGoodSite (apps_from 0 m) (memory_room m) s → (s.place < length m) × ((entry_at m s.place).facts ≡ None)
free_place m s h good =
    let place : first_free (facts_in m) ≡ s.place = cc good.place in
    let few = good.few in
    let room = h.room in
    let len = length_facts m in
    let count = length_apps 0 m h.apart in
    let there = free_is_there (facts_in m) (omega (arith, few, room, len, count)) in
    (subst (λ (k : ℕ). k < length m) place (omega (arith, there, len)), subst (λ (k : ℕ). (entry_at m k).facts ≡ None) place (no_name m (first_free (facts_in m)) (free_has_no_name (facts_in m))))

-- ---- a creation

did_blanks : (m : List Entry) (s : Site) (cs : List (ℕ × List ℕ)) (is : List BankItem) (a : Answer) (e : List Entry) → InOrder MemoryDid m is a e → InOrder MemoryDid m (map (λ c. Blank s c.0 (length c.1)) cs ++ is) a e
did_blanks m s [] is a e h = h
did_blanks m s (c ∷ cs) is a e h = inl (m, record { answer = refl; done = refl }, did_blanks m s cs is a e h)

pub create_left : (m : List Entry) (s : Site) (n : List ℕ) (x : Entry) → IsMemory m → IsGoodSite (apps_from 0 m) (memory_room m) s → lookup (apps_from 0 m) n ≡ None → IsName n → x ≡ with_app s.sizes n (entry_at m s.place) → CreateLeft m s n (slice_set m s.place x)
create_left m s n x h good fresh name is =
    let free = free_place m s h good in
    let w = whole_at m s.place free.0 h.whole in
    let limits = good.limits in
    let e = slice_set m s.place x in
    let none : is_named (facts_in m) n ≡ false = sym (lookup_is 0 m n) ∙ ap is_some fresh in
    let fixed = limits.fixed in
    let init = limits.init in
    let long = w.fixed in
    let did : MemoryDid m (Enter s n) (Ok tt) e =
    record { answer = refl; done = record { place = free.0; free = free.1; fresh = none; init = limits.init; whole = omega (arith, fixed, long); after = ap (slice_set m s.place) is } } in
    let note : (i : ℕ) → MemoryDid m (Note s n i) (Ok tt) m = λ i. record { answer = refl; done = refl } in
    let zs = zeros (s.sizes.fixed - s.sizes.init) in
    let len : length zs ≡ s.sizes.fixed - s.sizes.init = length-replicate (s.sizes.fixed - s.sizes.init) 0 in
    let new : FitsLimits (new_facts s.sizes n).sizes =
    record { some_code = limits.some_code; code = limits.code; fixed = limits.fixed; init = omega arith; session = limits.session; dir = limits.dir; fci = limits.fci; deny = limits.deny } in
    let whole : IsWholeEntry (with_app s.sizes n (entry_at m s.place)) =
    record {
      facts = (name, new, refl);
      code = w.code;
      fixed = length_splice (entry_at m s.place).fixed s.sizes.init zs (omega (arith, len, fixed, init, long)) ∙ w.fixed;
      dir = w.dir;
      fci = w.fci;
    } in
    let facts : facts_in e ≡ slice_set (facts_in m) s.place (Some (new_facts s.sizes n)) = facts_set m s.place x ∙ ap (λ (y : Entry). slice_set (facts_in m) s.place y.facts) is in
    record {
      memory = record {
        room = sym (length_facts e) ∙ ap length facts ∙ length-set (facts_in m) s.place (Some (new_facts s.sizes n)) ∙ length_facts m ∙ h.room;
        whole = whole_set m s.place x h.whole (subst IsWholeEntry (sym is) whole);
        apart = subst AreApart (sym facts) (apart_set (facts_in m) s.place (new_facts s.sizes n) none h.apart);
      };
      items = did_blanks m s (word_parts s.sizes.init (zeros (s.sizes.fixed - s.sizes.init))) (Note s n 0 ∷ Note s n 1 ∷ Note s n 2 ∷ Note s n 3 ∷ Enter s n ∷ []) (Ok tt) e
          (inl (m, note 0, inl (m, note 1, inl (m, note 2, inl (m, note 3, inl (e, did, refl))))));
      apps = memory_obeys m (Enter s n) (Ok tt) e did;
      slots = λ j there. memory_keeps m (Enter s n) (Ok tt) e did j (name_or (memory_named m j)) (some_name (memory_named m j) there) tt ∙ sym (some_name (memory_named m j) there);
    }
