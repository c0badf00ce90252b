-- Laws of the entries of a bank in memory: their names, and the applications in them.
use Rattle.std.specs.Prelude.{◌≡◌, ◌≢◌, ℕ, zero, suc, ◌+◌, ◌<◌, ◌≤◌, Bool, true, false, ◌||◌, List, [], ◌∷◌, length, take, bytes_eq, is_some, slice_set, Option, Some, None}
use Rattle.std.specs.List.{AllByRecursion}
use Rattle.std.proofs.Common.{refl, ap, sym, subst, ◌∙◌, arith}
use Rattle.std.proofs.lemmas.List.{length-take}
use Rattle.std.proofs.Math.Nat.{min-eq_left}
use Rattle.model_card.specs.declared.card.Sizes.{Sizes}
use Rattle.model_card.specs.model_device.specs.Bytes.{lookup, insert, AscendByName}
use Rattle.model_card.specs.model_device.specs.Card.{App}
use Rattle.mc_bank.specs.declared.bank.Facts.{Facts}
use Rattle.mc_bank.specs.declared.entries.Entry.{Entry}
use Rattle.mc_bank.specs.Bank.{IsApplication, AreApps, FitsLimits, sizes_of}
use Rattle.mc_bank.specs.Memory.{facts_in, name_in, name_of_entry, first_free, count_of_used, has, is_named, IsApart, AreApart, app_in, with_entry, apps_from, entry_at, AreFacts, IsWholeEntry, IsMemory}
use Rattle.model_card.specs.model_device.proofs.MapLemmas.{same_name, name_is_itself, other_way, lookup_inserted_lem, lookup_beside, length_inserted, insert_swap, each_inserted, ascending_inserted}
use Rattle.model_card.specs.model_device.proofs.BoolLemmas.{no_value}

-- ---- facts

pub facts_set : (m : List Entry) (k : ℕ) (e : Entry) → facts_in (slice_set m k e) ≡ slice_set (facts_in m) k e.facts
facts_set [] k e = refl
facts_set (x ∷ m) zero e = refl
facts_set (x ∷ m) (suc k) e = ap (λ fs. x.facts ∷ fs) (facts_set m k e)

-- an entry that keeps its facts
pub facts_kept : (m : List Entry) (k : ℕ) (e : Entry) → e.facts ≡ (entry_at m k).facts → facts_in (slice_set m k e) ≡ facts_in m
facts_kept [] k e h = refl
facts_kept (x ∷ m) zero e h = ap (λ f. f ∷ facts_in m) h
facts_kept (x ∷ m) (suc k) e h = ap (λ fs. x.facts ∷ fs) (facts_kept m k e h)

pub length_facts : (m : List Entry) → length (facts_in m) ≡ length m
length_facts [] = refl
length_facts (x ∷ m) = ap suc (length_facts m)

-- ---- names

-- the entry of a name
pub record EntryOfName (m : List Entry) (k : ℕ) (n : List ℕ) : Type 0 where
  pub facts : Facts
  pub stands : (entry_at m k).facts ≡ Some facts
  pub name : facts.aid ≡ n
  pub within : k < length m

here_is : (x : Entry) (m : List Entry) (n : List ℕ) (f : Option Facts) → x.facts ≡ f → name_in f ≡ Some n → EntryOfName (x ∷ m) 0 n
here_is x m n None e h = absurd (cc h)
here_is x m n (Some f) e h = record { facts = f; stands = e; name = cc h; within = omega arith }

pub named_here : (m : List Entry) (k : ℕ) (n : List ℕ) → name_of_entry (facts_in m) k ≡ Some n → EntryOfName m k n
named_here [] k n h = absurd (cc h)
named_here (x ∷ m) zero n h = here_is x m n x.facts refl h
named_here (x ∷ m) (suc k) n h = let r = named_here m k n h in let w = r.within in record { facts = r.facts; stands = r.stands; name = r.name; within = omega arith }

-- a name stays when another entry changes
pub named_other : (fs : List (Option Facts)) (k : ℕ) (f : Option Facts) (j : ℕ) (n : List ℕ) → name_of_entry fs j ≡ Some n → name_of_entry fs k ≢ Some n → name_of_entry (slice_set fs k f) j ≡ Some n
named_other [] k f j n h p = h
named_other (g ∷ fs) zero f zero n h p = absurd (p h)
named_other (g ∷ fs) zero f (suc j) n h p = h
named_other (g ∷ fs) (suc k) f zero n h p = h
named_other (g ∷ fs) (suc k) f (suc j) n h p = named_other fs k f j n h p

has_name_in : (f : Option Facts) (n : List ℕ) → name_in f ≡ Some n → has f n ≡ true
has_name_in None n h = absurd (cc h)
has_name_in (Some f) n h = subst (λ (m : List ℕ). bytes_eq f.aid m ≡ true) (cc h) (name_is_itself f.aid)

pub named_is : (fs : List (Option Facts)) (k : ℕ) (n : List ℕ) → name_of_entry fs k ≡ Some n → is_named fs n ≡ true
named_is [] k n h = absurd (cc h)
named_is (f ∷ fs) zero n h = ap (λ b. b || is_named fs n) (has_name_in f n h)
named_is (f ∷ fs) (suc k) n h = grind (arith, named_is fs k n h)

pub free_has_no_name : (fs : List (Option Facts)) → name_of_entry fs (first_free fs) ≡ None
free_has_no_name [] = refl
free_has_no_name (None ∷ fs) = refl
free_has_no_name (Some f ∷ fs) = free_has_no_name fs

pub free_is_there : (fs : List (Option Facts)) → count_of_used fs < length fs → first_free fs < length fs
free_is_there [] h = h
free_is_there (None ∷ fs) h = omega arith
free_is_there (Some f ∷ fs) h = let r = free_is_there fs (omega arith) in omega (arith, r)

unused : (f : Option Facts) → name_in f ≡ None → f ≡ None
unused None h = refl
unused (Some f) h = absurd (cc h)

pub no_name : (m : List Entry) (k : ℕ) → name_of_entry (facts_in m) k ≡ None → (entry_at m k).facts ≡ None
no_name [] k h = refl
no_name (x ∷ m) zero h = unused x.facts h
no_name (x ∷ m) (suc k) h = no_name m k h

pub free_named : (m : List Entry) (k : ℕ) → (entry_at m k).facts ≡ None → name_of_entry (facts_in m) k ≡ None
free_named [] k h = refl
free_named (x ∷ m) zero h = ap name_in h
free_named (x ∷ m) (suc k) h = free_named m k h

-- ---- names that are apart

pub not_named_freed : (fs : List (Option Facts)) (k : ℕ) (n : List ℕ) → is_named fs n ≡ false → is_named (slice_set fs k None) n ≡ false
not_named_freed [] k n h = refl
not_named_freed (f ∷ fs) zero n h = grind (arith, h)
not_named_freed (f ∷ fs) (suc k) n h = grind (arith, h, not_named_freed fs k n)

pub not_named_set : (fs : List (Option Facts)) (k : ℕ) (f : Facts) (n : List ℕ) → is_named fs n ≡ false → bytes_eq f.aid n ≡ false → is_named (slice_set fs k (Some f)) n ≡ false
not_named_set [] k f n h p = refl
not_named_set (g ∷ fs) zero f n h p = grind (arith, h, p)
not_named_set (g ∷ fs) (suc k) f n h p = grind (arith, h, not_named_set fs k f n)

apart_head : (g : Option Facts) (fs : List (Option Facts)) (k : ℕ) → IsApart g fs → IsApart g (slice_set fs k None)
apart_head None fs k h = tt
apart_head (Some g) fs k h = not_named_freed fs k g.aid h

pub apart_freed : (fs : List (Option Facts)) (k : ℕ) → AreApart fs → AreApart (slice_set fs k None)
apart_freed [] k h = tt
apart_freed (f ∷ fs) zero h = (tt, h.1)
apart_freed (f ∷ fs) (suc k) h = (apart_head f fs k h.0, apart_freed fs k h.1)

apart_first : (g : Option Facts) (fs : List (Option Facts)) (k : ℕ) (f : Facts) → has g f.aid ≡ false → IsApart g fs → IsApart g (slice_set fs k (Some f))
apart_first None fs k f p h = tt
apart_first (Some g) fs k f p h = not_named_set fs k f g.aid h (other_way g.aid f.aid p)

neither : (a b : Bool) → a || b ≡ false → (a ≡ false) × (b ≡ false)
neither false b h = (refl, h)
neither true b h = absurd (cc h)

pub apart_set : (fs : List (Option Facts)) (k : ℕ) (f : Facts) → is_named fs f.aid ≡ false → AreApart fs → AreApart (slice_set fs k (Some f))
apart_set [] k f p h = tt
apart_set (g ∷ fs) zero f p h = ((neither (has g f.aid) (is_named fs f.aid) p).1, h.1)
apart_set (g ∷ fs) (suc k) f p h =
    let q = neither (has g f.aid) (is_named fs f.aid) p in
    (apart_first g fs k f q.0 h.0, apart_set fs k f q.1 h.1)

-- once its entry is free, a name is not there
head_not : (g : Option Facts) (fs : List (Option Facts)) (n : List ℕ) → IsApart g fs → is_named fs n ≡ true → has g n ≡ false
head_not None fs n h p = refl
head_not (Some g) fs n h p = by_test (bytes_eq g.aid n) refl
  where
    by_test : (x : Bool) → bytes_eq g.aid n ≡ x → x ≡ false
    by_test false e = refl
    by_test true e = cc (p, subst (λ (m : List ℕ). is_named fs m ≡ false) (same_name g.aid n e) h)

first_gone : (f : Option Facts) (fs : List (Option Facts)) (n : List ℕ) → name_in f ≡ Some n → IsApart f fs → is_named fs n ≡ false
first_gone None fs n e h = absurd (cc e)
first_gone (Some f) fs n e h = subst (λ (m : List ℕ). is_named fs m ≡ false) (cc e) h

pub name_gone : (fs : List (Option Facts)) (k : ℕ) (n : List ℕ) → AreApart fs → name_of_entry fs k ≡ Some n → is_named (slice_set fs k None) n ≡ false
name_gone [] k n h p = refl
name_gone (f ∷ fs) zero n h p = first_gone f fs n p h.0
name_gone (f ∷ fs) (suc k) n h p =
    ap (λ b. b || is_named (slice_set fs k None) n) (head_not f fs n h.0 (named_is fs k n p)) ∙ name_gone fs k n h.1 p

-- ---- applications

lookup_one : (j : ℕ) (x : Entry) (f : Option Facts) (apps : List (List ℕ × App)) (n : List ℕ) → is_some (lookup (with_entry j x f apps) n) ≡ has f n || is_some (lookup apps n)
lookup_one j x None apps n = refl
lookup_one j x (Some f) apps n = by_test (bytes_eq f.aid n) refl
  where
    by_test : (b : Bool) → bytes_eq f.aid n ≡ b → is_some (lookup (insert apps f.aid (app_in j x f.sizes)) n) ≡ b || is_some (lookup apps n)
    by_test false e = ap is_some (lookup_beside apps f.aid (app_in j x f.sizes) n e)
    by_test true e = ap is_some (subst (λ (k : List ℕ). lookup (insert apps f.aid (app_in j x f.sizes)) k ≡ Some (app_in j x f.sizes)) (same_name f.aid n e) (lookup_inserted_lem apps f.aid (app_in j x f.sizes)))

-- a name is in the map if and only if an entry has it
pub lookup_is : (j : ℕ) (m : List Entry) (n : List ℕ) → is_some (lookup (apps_from j m) n) ≡ is_named (facts_in m) n
lookup_is j [] n = refl
lookup_is j (x ∷ m) n = lookup_one j x x.facts (apps_from (suc j) m) n ∙ ap (λ b. has x.facts n || b) (lookup_is (suc j) m n)

pub lookup_none : (j : ℕ) (m : List Entry) (n : List ℕ) → is_named (facts_in m) n ≡ false → lookup (apps_from j m) n ≡ None
lookup_none j m n h = no_value (lookup (apps_from j m) n) (lookup_is j m n ∙ h)

-- an entry that is free and stays free
pub apps_free : (j : ℕ) (m : List Entry) (k : ℕ) (u : Entry) → (entry_at m k).facts ≡ None → u.facts ≡ None → apps_from j (slice_set m k u) ≡ apps_from j m
apps_free j [] k u h p = refl
apps_free j (x ∷ m) zero u h p = ap (λ f. with_entry j u f (apps_from (suc j) m)) p ∙ sym (ap (λ f. with_entry j x f (apps_from (suc j) m)) h)
apps_free j (x ∷ m) (suc k) u h p = ap (with_entry j x x.facts) (apps_free (suc j) m k u h p)

swapped : (j : ℕ) (x : Entry) (f : Option Facts) (apps : List (List ℕ × App)) (n : List ℕ) (a : App) → has f n ≡ false → with_entry j x f (insert apps n a) ≡ insert (with_entry j x f apps) n a
swapped j x None apps n a h = refl
swapped j x (Some f) apps n a h = insert_swap apps n a f.aid (app_in j x f.sizes) (other_way f.aid n h)

-- an entry that is used is an insertion into what is there without it
pub apps_set : (j : ℕ) (m : List Entry) (k : ℕ) (e u : Entry) (f : Facts) → k < length m → e.facts ≡ Some f → u.facts ≡ None → is_named (slice_set (facts_in m) k None) f.aid ≡ false
    → apps_from j (slice_set m k e) ≡ insert (apps_from j (slice_set m k u)) f.aid (app_in (j + k) e f.sizes)
apps_set j [] k e u f lt h p q = absurd (omega arith)
apps_set j (x ∷ m) zero e u f lt h p q =
    ap (λ g. with_entry j e g (apps_from (suc j) m)) h
    ∙ sym (ap (λ g. insert (with_entry j u g (apps_from (suc j) m)) f.aid (app_in j e f.sizes)) p)
    ∙ ap (λ (i : ℕ). insert (with_entry j u u.facts (apps_from (suc j) m)) f.aid (app_in i e f.sizes)) (omega arith)
apps_set j (x ∷ m) (suc k) e u f lt h p q =
    let r = neither (has x.facts f.aid) (is_named (slice_set (facts_in m) k None) f.aid) q in
    ap (with_entry j x x.facts) (apps_set (suc j) m k e u f (omega arith) h p r.1)
    ∙ swapped j x x.facts (apps_from (suc j) (slice_set m k u)) f.aid (app_in (suc j + k) e f.sizes) r.0
    ∙ ap (λ (i : ℕ). insert (with_entry j x x.facts (apps_from (suc j) (slice_set m k u))) f.aid (app_in i e f.sizes)) (omega arith)

-- ---- the whole map

-- all entries keep what one that changes keeps
pub whole_set : (m : List Entry) (k : ℕ) (e : Entry) → AllByRecursion IsWholeEntry m → IsWholeEntry e → AllByRecursion IsWholeEntry (slice_set m k e)
whole_set [] k e h p = tt
whole_set (x ∷ m) zero e h p = (p, h.1)
whole_set (x ∷ m) (suc k) e h p = (h.0, whole_set m k e h.1 p)

pub whole_at : (m : List Entry) (k : ℕ) → k < length m → AllByRecursion IsWholeEntry m → IsWholeEntry (entry_at m k)
whole_at [] k lt h = absurd (omega arith)
whole_at (x ∷ m) zero lt h = h.0
whole_at (x ∷ m) (suc k) lt h = whole_at m k (omega arith) h.1

one_more : (j : ℕ) (x : Entry) (f : Option Facts) (m : List Entry) → IsApart f (facts_in m) → length (apps_from (suc j) m) ≡ count_of_used (facts_in m) → length (with_entry j x f (apps_from (suc j) m)) ≡ count_of_used (f ∷ facts_in m)
one_more j x None m h r = r
one_more j x (Some f) m h r = length_inserted (apps_from (suc j) m) f.aid (app_in j x f.sizes) (lookup_none (suc j) m f.aid h) ∙ ap suc r

-- there are as many applications as used entries
pub length_apps : (j : ℕ) (m : List Entry) → AreApart (facts_in m) → length (apps_from j m) ≡ count_of_used (facts_in m)
length_apps j [] h = refl
length_apps j (x ∷ m) h = one_more j x x.facts m h.0 (length_apps (suc j) m h.1)

pub used_few : (fs : List (Option Facts)) → count_of_used fs ≤ length fs
used_few [] = omega arith
used_few (None ∷ fs) = let r = used_few fs in omega (arith, r)
used_few (Some f ∷ fs) = let r = used_few fs in omega (arith, r)

in_order : (j : ℕ) (x : Entry) (f : Option Facts) (apps : List (List ℕ × App)) → AscendByName apps → AscendByName (with_entry j x f apps)
in_order j x None apps h = h
in_order j x (Some f) apps h = ascending_inserted apps f.aid (app_in j x f.sizes) h

pub apps_ascend : (j : ℕ) (m : List Entry) → AscendByName (apps_from j m)
apps_ascend j [] = tt
apps_ascend j (x ∷ m) = in_order j x x.facts (apps_from (suc j) m) (apps_ascend (suc j) m)

-- the sizes of an application are those of its facts
pub sizes_are : (j : ℕ) (x : Entry) (s : Sizes) → FitsLimits s → s.init ≡ s.fixed → IsWholeEntry x → sizes_of (app_in j x s) ≡ s
sizes_are j x s h p w =
    let code : length (take s.code x.code) ≡ s.code = length-take s.code x.code ∙ min-eq_left {n = s.code} {m = length x.code} (let c = h.code in let l = w.code in omega (arith, c, l)) in
    let fixed : length (take s.fixed x.fixed) ≡ s.fixed = length-take s.fixed x.fixed ∙ min-eq_left {n = s.fixed} {m = length x.fixed} (let c = h.fixed in let l = w.fixed in omega (arith, c, l)) in
    let dir : length (take s.dir x.dir) ≡ s.dir = length-take s.dir x.dir ∙ min-eq_left {n = s.dir} {m = length x.dir} (let c = h.dir in let l = w.dir in omega (arith, c, l)) in
    let fci : length (take s.fci x.fci) ≡ s.fci = length-take s.fci x.fci ∙ min-eq_left {n = s.fci} {m = length x.fci} (let c = h.fci in let l = w.fci in omega (arith, c, l)) in
    rw (code, fixed, dir, fci) (ap (λ (i : ℕ). record s { init = i }) (sym p))

entry_holds : (j : ℕ) (x : Entry) (f : Option Facts) (apps : List (List ℕ × App)) → AreFacts f → IsWholeEntry x → AllByRecursion IsApplication apps → AllByRecursion IsApplication (with_entry j x f apps)
entry_holds j x None apps h w r = r
entry_holds j x (Some f) apps h w r =
    each_inserted IsApplication apps f.aid (app_in j x f.sizes) (record { name = h.0; limits = subst FitsLimits (sym (sizes_are j x f.sizes h.1 h.2 w)) h.1 }) r

pub each_holds : (j : ℕ) (m : List Entry) → AllByRecursion IsWholeEntry m → AllByRecursion IsApplication (apps_from j m)
each_holds j [] h = tt
each_holds j (x ∷ m) h = entry_holds j x x.facts (apps_from (suc j) m) h.0.facts h.0 (each_holds (suc j) m h.1)

pub are_apps : (m : List Entry) → IsMemory m → AreApps (apps_from 0 m)
are_apps m h =
    let count = length_apps 0 m h.apart in
    let few = used_few (facts_in m) in
    let all = length_facts m in
    let room = h.room in
    record { few = omega (arith, count, few, all, room); each = each_holds 0 m h.whole; ascending = apps_ascend 0 m }
