-- The entry of a slot shows its application.
use Rattle.std.proofs.Common.{◌≡◌, ℕ, zero, suc, ◌+◌, ◌≤◌, ◌<◌, true, List, [], ◌∷◌, length, take, drop, Option, Some, None, refl, sym, ap, subst, ◌∙◌, arith, slice_index_or}
use Rattle.std.specs.Prelude.{is_some, IsSome}
use Rattle.std.proofs.lemmas.List.{length-take-le, take-take, drop-take}
use Rattle.model_card.specs.model_device.specs.Card.{App}
use Rattle.mc_bank.specs.declared.bank.Facts.{Facts}
use Rattle.mc_bank.specs.declared.entries.Entry.{Entry}
use Rattle.mc_bank.specs.Bank.{app_of, sizes_of}
use Rattle.mc_bank.specs.Memory.{facts_in, name_in, name_of_entry, memory_named, has, app_in, apps_from, entry_at, AreFacts, IsMemory}
use Rattle.mc_bank.specs.EntryLaws.{named_here, named_is, lookup_is, sizes_are, whole_at}
use Rattle.mc_bank.specs.MemoryLaws.{split, app_is}
use Rattle.mc_bank.specs.Slots.{slot_number, slot_place, AreDigits}
use Rattle.mc_bank.specs.SlotLaws.{place_back, sizes_back, slot_named, name_there as slot_name_there}
use Rattle.mc_bank.specs.Shown.{app_at, IsFront, AreFactsOf, EntryShows}
use Rattle.model_card.specs.model_device.proofs.MapLemmas.{same_name}
use Rattle.model_card.specs.model_device.proofs.BoolLemmas.{some_is}

-- an element is what a list has at its place, whatever replaces a missing one
pub entry_is : (m : List Entry) (k : ℕ) (e : Entry) → k < length m → e ≡ slice_index_or m k e → e ≡ entry_at m k
entry_is [] k e lt h = absurd (omega arith)
entry_is (x ∷ m) zero e lt h = h
entry_is (x ∷ m) (suc k) e lt h = entry_is m k e (omega arith) h

has_name : (f : Option Facts) (n : List ℕ) → has f n ≡ true → (x : Facts) × (f ≡ Some x) × (x.aid ≡ n)
has_name None n h = absurd (cc h)
has_name (Some f) n h = (f, refl, same_name f.aid n h)

stands_named : (m : List Entry) (k : ℕ) (f : Facts) → (entry_at m k).facts ≡ Some f → k < length m → name_of_entry (facts_in m) k ≡ Some f.aid
stands_named [] k f h lt = absurd (omega arith)
stands_named (x ∷ m) zero f h lt = ap name_in h
stands_named (x ∷ m) (suc k) f h lt = stands_named m k f h (omega arith)

pub named_of : (m : List Entry) (k : ℕ) (e : Entry) (n : List ℕ) → k < length m → e ≡ slice_index_or m k e → has e.facts n ≡ true → name_of_entry (facts_in m) k ≡ Some n
named_of m k e n lt is h =
    let f = has_name e.facts n h in
    let same = entry_is m k e lt is in
    stands_named m k f.0 (sym (ap (λ (x : Entry). x.facts) same) ∙ f.1) lt ∙ ap (λ (l : List ℕ). Some l) f.2

-- the name of a slot is the one at its place
pub slot_at : (m : List Entry) (j : ℕ) → IsSome (memory_named m j) → memory_named m j ≡ name_of_entry (facts_in m) (slot_place j)
slot_at m j there = slot_name_there (apps_from 0 m) j (name_of_entry (facts_in m) (slot_place j)) there

pub name_at : (m : List Entry) (j : ℕ) → IsSome (memory_named m j) → (n : List ℕ) × (name_of_entry (facts_in m) (slot_place j) ≡ Some n) × (memory_named m j ≡ Some n)
name_at m j there = let n = some_is (memory_named m j) there in (n.0, sym (slot_at m j there) ∙ n.1, n.1)

front : (n : ℕ) (ys : List ℕ) → n ≤ length ys → IsFront (take n ys) ys
front n ys le at k h =
    let len = length-take-le n ys le in
    let fits : at + k ≤ n = omega (arith, len, h) in
    (omega (arith, fits, le), sym (drop-take at k ys) ∙ ap (drop at) (sym (take-take (at + k) n ys fits)) ∙ drop-take at k (take n ys))

reports : (m : List Entry) (j k : ℕ) (f : Facts) → k < length m → IsMemory m → (entry_at m k).facts ≡ Some f → name_of_entry (facts_in m) k ≡ Some f.aid → memory_named m j ≡ Some f.aid → app_at m j ≡ app_in k (entry_at m k) f.sizes → AreFactsOf m j f
reports m j k f lt h stands named own app =
    let w = whole_at m k lt h.whole in
    let facts = subst AreFacts stands w.facts in
    record {
      name = own;
      app = lookup_is 0 m f.aid ∙ named_is (facts_in m) k f.aid named;
      sizes = sym (ap sizes_of app ∙ sizes_are k (entry_at m k) f.sizes facts.1 facts.2 w);
      limits = facts.1;
    }

shows_by : (m : List Entry) (j : ℕ) (n : List ℕ) → IsMemory m → name_of_entry (facts_in m) (slot_place j) ≡ Some n → memory_named m j ≡ Some n → EntryShows m j (entry_at m (slot_place j))
shows_by m j n h named own =
    let k = slot_place j in
    let here = named_here m k n named in
    let s = split m k n named h.apart in
    let x = entry_at m k in
    let w = whole_at m k here.within h.whole in
    let facts = subst AreFacts s.stands w.facts in
    let limits = facts.1 in
    let app : app_at m j ≡ app_in k x s.facts.sizes = ap (app_of (apps_from 0 m)) own ∙ app_is m k n s in
    let one : s.facts ≡ here.facts = cc (sym s.stands ∙ here.stands) in
    let aid : Some n ≡ Some s.facts.aid = ap (λ (l : List ℕ). Some l) (sym here.name ∙ ap (λ (f : Facts). f.aid) (sym one)) in
    record {
      some = ap is_some s.stands;
      facts = λ f e. subst (AreFactsOf m j) (cc (sym s.stands ∙ e)) (reports m j k s.facts here.within h s.stands (named ∙ aid) (own ∙ aid) app);
      code = subst (λ (a : App). IsFront a.code x.code) (sym app) (front s.facts.sizes.code x.code (let c = limits.code in let l = w.code in omega (arith, c, l)));
      fixed = subst (λ (a : App). IsFront a.fixed x.fixed) (sym app) (front s.facts.sizes.fixed x.fixed (let c = limits.fixed in let l = w.fixed in omega (arith, c, l)));
      fci = subst (λ (a : App). IsFront a.fci x.fci) (sym app) (front s.facts.sizes.fci x.fci (let c = limits.fci in let l = w.fci in omega (arith, c, l)));
    }

pub shows : (m : List Entry) (j : ℕ) → IsMemory m → IsSome (memory_named m j) → EntryShows m j (entry_at m (slot_place j))
shows m j h there = let n = name_at m j there in shows_by m j n.0 h n.1 n.2

pub place_within : (m : List Entry) (k : ℕ) → IsSome (name_of_entry (facts_in m) k) → k < length m
place_within m k there = let n = some_is (name_of_entry (facts_in m) k) there in (named_here m k n.0 n.1).within

pub place_used : (m : List Entry) (k : ℕ) (e : Entry) → e ≡ entry_at m k → IsSome (name_of_entry (facts_in m) k) → IsSome e.facts
place_used m k e is there =
    let n = some_is (name_of_entry (facts_in m) k) there in
    ap (λ (x : Entry). is_some x.facts) is ∙ ap is_some (named_here m k n.0 n.1).stands

pub slot_within : (m : List Entry) (j : ℕ) → IsSome (memory_named m j) → slot_place j < length m
slot_within m j there = let n = name_at m j there in (named_here m (slot_place j) n.0 n.1).within

pub place_is_within : (m : List Entry) (j k : ℕ) → IsSome (memory_named m j) → k ≡ slot_place j → k < length m
place_is_within m j k there is = subst (λ (p : ℕ). p < length m) (sym is) (slot_within m j there)

pub slot_entry : (m : List Entry) (j k : ℕ) (e : Entry) → IsSome (memory_named m j) → k ≡ slot_place j → e ≡ slice_index_or m k e → e ≡ entry_at m (slot_place j)
slot_entry m j k e there is at = entry_is m k e (place_is_within m j k there is) at ∙ ap (entry_at m) is

-- the slot of a name at a place
pub slot_of_place : (m : List Entry) (k : ℕ) (f : Facts) → IsMemory m → IsSome (name_of_entry (facts_in m) k) → (entry_at m k).facts ≡ Some f → memory_named m (slot_number k f.sizes) ≡ name_of_entry (facts_in m) k
slot_of_place m k f h there stands =
    let n = some_is (name_of_entry (facts_in m) k) there in
    let here = named_here m k n.0 n.1 in
    let s = split m k n.0 n.1 h.apart in
    let w = whole_at m k here.within h.whole in
    let facts = subst AreFacts stands w.facts in
    let limits = facts.1 in
    let one : s.facts ≡ f = cc (sym s.stands ∙ stands) in
    let low = here.within in
    let room = h.room in
    let digits : AreDigits k f.sizes =
    record {
      place = omega (arith, low, room);
      code = let c = limits.code in omega (arith, c);
      fixed = let c = limits.fixed in omega (arith, c);
      init = let c = limits.fixed in let d = limits.init in omega (arith, c, d);
      session = let c = limits.session in omega (arith, c);
      dir = let c = limits.dir in omega (arith, c);
      fci = let c = limits.fci in omega (arith, c);
      deny = let c = limits.deny in omega (arith, c);
    } in
    let place : slot_place (slot_number k f.sizes) ≡ k = place_back k f.sizes digits in
    let sizes : sizes_of (app_of (apps_from 0 m) (Some n.0)) ≡ f.sizes =
    ap sizes_of (app_is m k n.0 s) ∙ ap (λ (x : Facts). sizes_of (app_in k (entry_at m k) x.sizes)) one ∙ sizes_are k (entry_at m k) f.sizes facts.1 facts.2 w in
    slot_named (apps_from 0 m) (slot_number k f.sizes) (name_of_entry (facts_in m) (slot_place (slot_number k f.sizes))) n.0
    (ap (name_of_entry (facts_in m)) place ∙ n.1)
    (sizes_back k f.sizes digits ∙ sym sizes)
    ∙ sym n.1
