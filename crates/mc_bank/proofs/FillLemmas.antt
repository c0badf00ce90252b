-- What a piece of a section leaves of the entries of a bank in memory.
use Rattle.std.proofs.Common.{◌≡◌, ◌≢◌, ℕ, zero, suc, ◌+◌, ◌-◌, ◌%◌, ◌≤◌, ◌<◌, List, [], ◌∷◌, ◌++◌, length, take, drop, slice_set, Option, Some, None, Ok, refl, sym, ap, subst, ◌∙◌, inl, inr, arith}
use Rattle.std.specs.Prelude.{map}
use Rattle.std.proofs.lemmas.Bool.{cases_lt}
use Rattle.std.proofs.lemmas.List.{length-take-le, length-drop, length-set, take-append-drop, take_all, drop_all}
use Rattle.model_card.specs.declared.card.Part.{Part}
use Rattle.model_card.specs.declared.card.Part.TheVariants.{Code, Data, Dir, Fci}
use Rattle.model_card.specs.declared.card.Sizes.{Sizes}
use Rattle.model_card.specs.model_device.specs.Orders.{InOrder}
use Rattle.model_card.specs.model_device.specs.Bytes.{splice}
use Rattle.model_card.specs.model_device.specs.Card.{App}
use Rattle.model_card.specs.Items.{Site, Piece}
use Rattle.model_card.specs.Manager.{in_words}
use Rattle.mc_bank.specs.declared.bank.Facts.{Facts}
use Rattle.mc_bank.specs.declared.entries.Entry.{Entry}
use Rattle.mc_bank.specs.Bank.{app_of, sizes_of, part_len, FitsLimits, IsGoodSite}
use Rattle.mc_bank.specs.Memory.{facts_in, first_free, IsWholeEntry, IsMemory, apps_from, memory_room, entry_at, part_of, with_piece, MemoryDid}
use Rattle.mc_bank.specs.EntryLaws.{facts_kept, whole_at, apps_free}
use Rattle.mc_bank.specs.MemoryLaws.{set_self, entry_set, piece_keeps_facts}
use Rattle.mc_bank.specs.Left.{FillLeft}
use Rattle.mc_bank.proofs.LeftLemmas.{front_piece, splice_splice, same_named, memory_kept, free_place}
use Rattle.model_card.specs.model_device.proofs.ListLemmas.{splice_none, length_splice}

-- ---- one entry

part_with : (p : Part) (at : ℕ) (b : List ℕ) (x : Entry) → part_of p (with_piece p at b x) ≡ splice (part_of p x) at b
part_with Code at b x = refl
part_with Data at b x = refl
part_with Dir at b x = refl
part_with Fci at b x = refl

part_beside : (p q : Part) (at : ℕ) (b : List ℕ) (x : Entry) → q ≢ p → part_of q (with_piece p at b x) ≡ part_of q x
part_beside Code Code at b x h = absurd (h refl)
part_beside Code Data at b x h = refl
part_beside Code Dir at b x h = refl
part_beside Code Fci at b x h = refl
part_beside Data Code at b x h = refl
part_beside Data Data at b x h = absurd (h refl)
part_beside Data Dir at b x h = refl
part_beside Data Fci at b x h = refl
part_beside Dir Code at b x h = refl
part_beside Dir Data at b x h = refl
part_beside Dir Dir at b x h = absurd (h refl)
part_beside Dir Fci at b x h = refl
part_beside Fci Code at b x h = refl
part_beside Fci Data at b x h = refl
part_beside Fci Dir at b x h = refl
part_beside Fci Fci at b x h = absurd (h refl)

-- a section of a site has memory
pub part_small : (p : Part) (s : Sizes) (x : Entry) → FitsLimits s → IsWholeEntry x → part_len p s ≤ length (part_of p x)
part_small Code s x h w = let a = h.code in let b = w.code in omega (arith, a, b)
part_small Data s x h w = let a = h.fixed in let c = h.init in let b = w.fixed in omega (arith, a, b, c)
part_small Dir s x h w = let a = h.dir in let b = w.dir in omega (arith, a, b)
part_small Fci s x h w = let a = h.fci in let b = w.fci in omega (arith, a, b)

whole_with : (p : Part) (at : ℕ) (b : List ℕ) (x : Entry) → at + length b ≤ length (part_of p x) → IsWholeEntry x → IsWholeEntry (with_piece p at b x)
whole_with Code at b x le w = record { facts = w.facts; code = length_splice x.code at b le ∙ w.code; fixed = w.fixed; dir = w.dir; fci = w.fci }
whole_with Data at b x le w = record { facts = w.facts; code = w.code; fixed = length_splice x.fixed at b le ∙ w.fixed; dir = w.dir; fci = w.fci }
whole_with Dir at b x le w = record { facts = w.facts; code = w.code; fixed = w.fixed; dir = length_splice x.dir at b le ∙ w.dir; fci = w.fci }
whole_with Fci at b x le w = record { facts = w.facts; code = w.code; fixed = w.fixed; dir = w.dir; fci = length_splice x.fci at b le ∙ w.fci }

piece_none : (p : Part) (at : ℕ) (x : Entry) → with_piece p at [] x ≡ x
piece_none Code at x = ap (λ (l : List ℕ). record x { code = l }) (splice_none x.code at)
piece_none Data at x = ap (λ (l : List ℕ). record x { fixed = l }) (splice_none x.fixed at)
piece_none Dir at x = ap (λ (l : List ℕ). record x { dir = l }) (splice_none x.dir at)
piece_none Fci at x = ap (λ (l : List ℕ). record x { fci = l }) (splice_none x.fci at)

piece_joined : (p : Part) (at : ℕ) (b c : List ℕ) (x : Entry) → at ≤ length (part_of p x) → with_piece p (at + length b) c (with_piece p at b x) ≡ with_piece p at (b ++ c) x
piece_joined Code at b c x le = ap (λ (l : List ℕ). record x { code = l }) (splice_splice x.code at b c le)
piece_joined Data at b c x le = ap (λ (l : List ℕ). record x { fixed = l }) (splice_splice x.fixed at b c le)
piece_joined Dir at b c x le = ap (λ (l : List ℕ). record x { dir = l }) (splice_splice x.dir at b c le)
piece_joined Fci at b c x le = ap (λ (l : List ℕ). record x { fci = l }) (splice_splice x.fci at b c le)

-- a piece in two parts, of which the first has k bytes if there are as many
piece_parts : (p : Part) (at k : ℕ) (b : List ℕ) (x : Entry) → at ≤ length (part_of p x) → with_piece p (at + k) (drop k b) (with_piece p at (take k b) x) ≡ with_piece p at b x
piece_parts p at k b x le =
    elim (cases_lt (length b) k) [
      | inl short ↦
          ap (λ (l : List ℕ). with_piece p (at + k) l (with_piece p at (take k b) x)) (drop_all k b (omega (arith, short)))
          ∙ piece_none p (at + k) (with_piece p at (take k b) x)
          ∙ ap (λ (l : List ℕ). with_piece p at l x) (take_all k b (omega (arith, short)))
      | inr long ↦
          ap (λ (i : ℕ). with_piece p (at + i) (drop k b) (with_piece p at (take k b) x)) (sym (length-take-le k b (omega (arith, long))))
          ∙ piece_joined p at (take k b) (drop k b) x le
          ∙ ap (λ (l : List ℕ). with_piece p at l x) (take-append-drop k b)
    ]

-- ---- words

set_twice : (m : List Entry) (k : ℕ) (x y : Entry) → slice_set (slice_set m k x) k y ≡ slice_set m k y
set_twice [] k x y = refl
set_twice (z ∷ m) zero x y = refl
set_twice (z ∷ m) (suc k) x y = ap (λ (l : List Entry). z ∷ l) (set_twice m k x y)

nothing_done : (m : List Entry) (s : Site) (p : Part) (at : ℕ) → slice_set m s.place (with_piece p at [] (entry_at m s.place)) ≡ m
nothing_done m s p at = ap (slice_set m s.place) (piece_none p at (entry_at m s.place)) ∙ set_self m s.place

pub did_words : (n : ℕ) (m : List Entry) (s : Site) (p : Part) (at : ℕ) (b : List ℕ) → length b ≤ n → s.place < length m → (entry_at m s.place).facts ≡ None
    → (0 < length b → at + length b ≤ length (part_of p (entry_at m s.place)))
    → InOrder MemoryDid m (map (λ c. Piece s p c.0 c.1) (in_words n at b)) (Ok tt) (slice_set m s.place (with_piece p at b (entry_at m s.place)))
did_words zero m s p at [] few lt free room = nothing_done m s p at
did_words zero m s p at (y ∷ b) few lt free room = absurd (omega (arith, few))
did_words (suc n) m s p at [] few lt free room = nothing_done m s p at
did_words (suc n) m s p at (y ∷ b) few lt free room =
    let k = 8 - at % 8 in
    let c = y ∷ b in
    let x = entry_at m s.place in
    let fits : at + length c ≤ length (part_of p x) = room (omega arith) in
    let here : at ≤ length (part_of p x) = omega (arith, fits) in
    let z = with_piece p at (take k c) x in
    let l = slice_set m s.place z in
    let one : MemoryDid m (Piece s p at (take k c)) (Ok tt) l = record { answer = refl; done = record { free = free; after = refl } } in
    let same : entry_at l s.place ≡ z = entry_set m s.place z lt in
    let left : length (drop k c) ≡ length c - k = length-drop k c in
    let few_left : length (drop k c) ≤ n = omega (arith, few, left) in
    let there : s.place < length l = subst (λ (i : ℕ). s.place < i) (sym (length-set m s.place z)) lt in
    let free_left : (entry_at l s.place).facts ≡ None = ap (λ (e : Entry). e.facts) same ∙ piece_keeps_facts p at (take k c) x ∙ free in
    let room_left : 0 < length (drop k c) → (at + k) + length (drop k c) ≤ length (part_of p (entry_at l s.place)) = λ some.
    let whole : length (take k c) ≡ k = length-take-le k c (omega (arith, some, left)) in
    let size : length (part_of p (entry_at l s.place)) ≡ length (part_of p x) =
    ap (λ (e : Entry). length (part_of p e)) same ∙ ap length (part_with p at (take k c) x) ∙ length_splice (part_of p x) at (take k c) (omega (arith, fits, whole, some, left)) in
    omega (arith, some, left, fits, size) in
    let rest = did_words n l s p (at + k) (drop k c) few_left there free_left room_left in
    let end : slice_set l s.place (with_piece p (at + k) (drop k c) (entry_at l s.place)) ≡ slice_set m s.place (with_piece p at c x) =
    set_twice m s.place z (with_piece p (at + k) (drop k c) (entry_at l s.place)) ∙ ap (λ (e : Entry). slice_set m s.place (with_piece p (at + k) (drop k c) e)) same ∙ ap (slice_set m s.place) (piece_parts p at k c x here) in
    inl (l, one, subst (λ (e : List Entry). InOrder MemoryDid l (map (λ c. Piece s p c.0 c.1) (in_words n (at + k) (drop k c))) (Ok tt) e) end rest)

-- ---- the call

pub fill_fits : (m : List Entry) (s : Site) (p : Part) → IsMemory m → IsGoodSite (apps_from 0 m) (memory_room m) s → part_len p s.sizes ≤ length (part_of p (entry_at m s.place))
fill_fits m s p h good = part_small p s.sizes (entry_at m s.place) good.limits (whole_at m s.place (free_place m s h good).0 h.whole)

pub fill_left : (m : List Entry) (s : Site) (p : Part) (at : ℕ) (b : List ℕ) (x : Entry) → IsMemory m → IsGoodSite (apps_from 0 m) (memory_room m) s → at + length b ≤ part_len p s.sizes → x ≡ with_piece p at b (entry_at m s.place) → FillLeft m s p at b (slice_set m s.place x)
fill_left m s p at b x h good range is =
    let free = free_place m s h good in
    let y = entry_at m s.place in
    let small = fill_fits m s p h good in
    let fits : at + length b ≤ length (part_of p y) = omega (arith, range, small) in
    let z = with_piece p at b y in
    let same : z.facts ≡ y.facts = piece_keeps_facts p at b y in
    let here : entry_at (slice_set m s.place z) s.place ≡ z = entry_set m s.place z free.0 in
    let apps : apps_from 0 (slice_set m s.place z) ≡ apps_from 0 m = apps_free 0 m s.place z free.1 (same ∙ free.1) in
    let facts : facts_in (slice_set m s.place z) ≡ facts_in m = facts_kept m s.place z same in
    subst (λ (e : Entry). FillLeft m s p at b (slice_set m s.place e)) (sym is)
    (record {
      memory = memory_kept m s.place z h same (whole_with p at b y fits (whole_at m s.place free.0 h.whole));
      items = did_words (length b) m s p at b (omega arith) free.0 free.1 (λ some. fits);
      apps = record { apps = apps; cuts = refl; faults = refl; going = refl };
      piece = ap (λ (e : Entry). take (part_len p s.sizes) (part_of p e)) here ∙ ap (take (part_len p s.sizes)) (part_with p at b y) ∙ front_piece (part_len p s.sizes) (part_of p y) at b range small;
      others = λ q other. ap (λ (e : Entry). take (part_len q s.sizes) (part_of q e)) here ∙ ap (take (part_len q s.sizes)) (part_beside p q at b y other);
      slots = λ j. same_named m (slice_set m s.place z) j facts (λ n. ap (λ (es : List (List ℕ × App)). sizes_of (app_of es (Some n))) apps);
      good = λ t ok. let few = ok.few in record { limits = ok.limits; few = subst (λ (l : List (List ℕ × App)). length l < 32) (sym apps) few; place = ap (λ (fs : List (Option Facts)). Some (first_free fs)) facts ∙ ok.place };
    })
