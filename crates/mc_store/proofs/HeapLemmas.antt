-- What blocks, records and applications of an image are read from: its heap alone.
use Rattle.std.proofs.Common.{◌≡◌, ℕ, zero, suc, ◌+◌, ◌-◌, ◌≤◌, Bool, true, false, ◌&&◌, ◌||◌, List, [], ◌∷◌, length, take, drop, Option, Some, None, refl, sym, ◌∙◌, ap, arith, cond, not, length-drop}
use Rattle.std.specs.Prelude.{nat_lt, ◌==◌, slice_index, bytes_eq}
use Rattle.std.specs.List.{concat, AllByRecursion}
use Rattle.std.proofs.lemmas.List.{drop-drop, get_or-drop, get_or_default, same_lists}
use Rattle.mc_words.specs.model_device.specs.Bytes.{has_name, insert, up}
use Rattle.mc_words.specs.model_device.specs.Card.{App, Block, word, header, block_and, blocks_from, blocks, heap_start, cells, section, record_at, name_in, name_at, app_at, apps_of, card_of}
use Rattle.mc_words.specs.model_device.specs.Layout.{is_record, bad_header, next_block, is_hole, bad_block, bad_record, words_fault, root}
use Rattle.mc_blocks.proofs.Steps.{HeaderIs, header_is}

-- the test of a root
abbrev pub root_test : List ℕ → ℕ → Option ℕ
root_test x n =
    let v = slice_index x 3 in
    cond ((v == 1 || v == 2) && bytes_eq (take 6 x) (take 6 (root v n 0))) None (Some 0)

-- two images with equal heaps
pub record SameHeap (a b : List (List ℕ)) : Type 0 where
  pub size : length a ≡ length b
  pub low : 131 ≤ length a
  pub heap : drop 131 a ≡ drop 131 b

-- lists with equal words from a place on
pub same_drop : (a b : List (List ℕ)) (p : ℕ) → length a ≡ length b → ((i : ℕ) → p ≤ i → word a i ≡ word b i) → drop p a ≡ drop p b
same_drop a b p size h =
    same_lists (drop p a) (drop p b) (length-drop p a ∙ ap (λ (n : ℕ). n - p) size ∙ sym (length-drop p b))
    (λ k d lt.
    let left : length (drop p a) ≡ length a - p = length-drop p a in
    get_or-drop p a k d
    ∙ get_or_default a (p + k) d [] (omega (arith, left, lt))
    ∙ h (p + k) (omega arith)
    ∙ get_or_default b (p + k) [] d (omega (arith, left, lt, size))
    ∙ sym (get_or-drop p b k d))

module _ (a b : List (List ℕ)) (same : SameHeap a b) where
  from_heap : (p : ℕ) → 131 ≤ p → drop p a ≡ drop p b
  from_heap p low =
      let is : 131 + (p - 131) ≡ p = omega arith in
      ap (λ (n : ℕ). drop n a) (sym is) ∙ sym (drop-drop (p - 131) 131 a) ∙ ap (λ (l : List (List ℕ)). drop (p - 131) l) same.heap ∙ drop-drop (p - 131) 131 b ∙ ap (λ (n : ℕ). drop n b) is

  pub word_heap : (p : ℕ) → 131 ≤ p → word a p ≡ word b p
  word_heap p low =
      let is : 131 + (p - 131) ≡ p = omega arith in
      ap (λ (n : ℕ). word a n) (sym is) ∙ sym (get_or-drop 131 a (p - 131) []) ∙ ap (λ (l : List (List ℕ)). word l (p - 131)) same.heap ∙ get_or-drop 131 b (p - 131) [] ∙ ap (λ (n : ℕ). word b n) is

  cells_heap : (p n : ℕ) → 131 ≤ p → cells a p n ≡ cells b p n
  cells_heap p n low = ap (λ (l : List (List ℕ)). concat (take n l)) (from_heap p low)

  section_heap : (p n : ℕ) → 131 ≤ p → section a p n ≡ section b p n
  section_heap p n low = ap (λ (l : List ℕ). take n l) (cells_heap p (up n 8) low)

  record_heap : (p : ℕ) → 131 ≤ p → record_at a p ≡ record_at b p
  record_heap p low = cells_heap (p + 1) 4 (omega arith)

  app_heap : (p : ℕ) → 131 ≤ p → app_at a p ≡ app_at b p
  app_heap p low = grind (arith, section_heap, record_heap)

  -- ---- blocks

  header_heap : (p : ℕ) → 131 ≤ p → header p (word a p) ≡ header p (word b p)
  header_heap p low = ap (λ (x : List ℕ). header p x) (word_heap p low)

  and_same : (size p : ℕ) (x : List ℕ) (o : Option Block) (f g : ℕ → List Block) → 131 ≤ p → header p x ≡ o → ((q : ℕ) → 131 ≤ q → f q ≡ g q) → block_and size o f ≡ block_and size o g
  and_same size p x o f g low e h = grind (arith, HeaderIs, header_is)

  blocks_heap : (n p : ℕ) → 131 ≤ p → blocks_from n a p ≡ blocks_from n b p
  unfolding blocks_from
  blocks_heap zero p low = refl
  blocks_heap (suc n) p low =
      ap (λ (s : ℕ). block_and s (header p (word a p)) (λ q. blocks_from n a q)) same.size
      ∙ and_same (length b) p (word a p) (header p (word a p)) (λ q. blocks_from n a q) (λ q. blocks_from n b q) low refl (λ q h. blocks_heap n q h)
      ∙ ap (λ (o : Option Block). block_and (length b) o (λ q. blocks_from n b q)) (header_heap p low)

  pub all_blocks : blocks a ≡ blocks b
  all_blocks = ap (λ (n : ℕ). blocks_from n a 131) same.size ∙ blocks_heap (length b) 131 (omega arith)

  -- all blocks begin in the heap
  and_high : (size p : ℕ) (x : List ℕ) (o : Option Block) (f : ℕ → List Block) (t : Bool) → 131 ≤ p → header p x ≡ o → ((q : ℕ) → 131 ≤ q → AllByRecursion (λ k. 131 ≤ k.place) (f q)) → AllByRecursion (λ k. 131 ≤ k.place) (block_and size o f)
  and_high size p x o f t low e h = grind (arith, HeaderIs, header_is)

  high : (n p : ℕ) → 131 ≤ p → AllByRecursion (λ k. 131 ≤ k.place) (blocks_from n b p)
  unfolding blocks_from
  high zero p low = tt
  high (suc n) p low = and_high (length b) p (word b p) (header p (word b p)) (λ q. blocks_from n b q) true low refl (λ q h. high n q h)

  pub high_blocks : AllByRecursion (λ k. 131 ≤ k.place) (blocks b)
  high_blocks = high (length b) 131 (omega arith)

  -- ---- faults

  next_high : (p : ℕ) (x : List ℕ) (o : Option Block) → 131 ≤ p → header p x ≡ o → 131 ≤ next_block (length b) o
  next_high p x None low e = let size : length a ≡ length b = same.size in let l : 131 ≤ length a = same.low in omega arith
  next_high p x (Some k) low e = grind (arith, HeaderIs, header_is)

  bad_heap : (n p : ℕ) (h : Bool) → 131 ≤ p → bad_block n a p h ≡ bad_block n b p h
  unfolding bad_block
  bad_heap zero p h low = refl
  bad_heap (suc n) p h low =
      let o = header p (word b p) in
      ap (λ (x : Option Block). cond (p == length a) None (cond (bad_header (length a) h x) (Some p) (bad_block n a (next_block (length a) x) (is_hole x)))) (header_heap p low)
      ∙ ap (λ (s : ℕ). cond (p == s) None (cond (bad_header s h o) (Some p) (bad_block n a (next_block s o) (is_hole o)))) same.size
      ∙ ap (λ (x : Option ℕ). cond (p == length b) None (cond (bad_header (length b) h o) (Some p) x)) (bad_heap n (next_block (length b) o) (is_hole o) (next_high p (word b p) o low refl))

  records_heap : (bs : List Block) (names : List (List ℕ)) (used : ℕ) → AllByRecursion (λ k. 131 ≤ k.place) bs → bad_record a bs names used ≡ bad_record b bs names used
  unfolding bad_record
  records_heap [] names used h = refl
  records_heap (k ∷ ks) names used h =
      let r = record_at b k.place in
      ap (λ (l : List ℕ). cond k.used (cond (is_record l k.words && not (has_name (name_in l) names) && nat_lt used 32) (bad_record a ks (name_in l ∷ names) (used + 1)) (Some k.place)) (bad_record a ks names used)) (record_heap k.place h.0)
      ∙ ap (λ (x : Option ℕ). cond k.used (cond (is_record r k.words && not (has_name (name_in r) names) && nat_lt used 32) x (Some k.place)) (bad_record a ks names used)) (records_heap ks (name_in r ∷ names) (used + 1) h.1)
      ∙ ap (λ (x : Option ℕ). cond k.used (cond (is_record r k.words && not (has_name (name_in r) names) && nat_lt used 32) (bad_record b ks (name_in r ∷ names) (used + 1)) (Some k.place)) x) (records_heap ks names used h.1)

  pub bad_blocks : bad_block (length a) a heap_start false ≡ bad_block (length b) b heap_start false
  bad_blocks = ap (λ (n : ℕ). bad_block n a heap_start false) same.size ∙ bad_heap (length b) 131 false (omega arith)

  pub bad_records : bad_record a (blocks a) [] 0 ≡ bad_record b (blocks b) [] 0
  bad_records = ap (λ (bs : List Block). bad_record a bs [] 0) all_blocks ∙ records_heap (blocks b) [] 0 high_blocks

  -- ---- applications

  apps_heap : (bs : List Block) → AllByRecursion (λ k. 131 ≤ k.place) bs → apps_of a bs ≡ apps_of b bs
  unfolding apps_of
  apps_heap [] h = refl
  apps_heap (k ∷ ks) h =
      ap (λ (l : List ℕ). cond k.used (insert (apps_of a ks) (name_in l) (app_at a k.place)) (apps_of a ks)) (record_heap k.place h.0)
      ∙ ap (λ (x : App). cond k.used (insert (apps_of a ks) (name_at b k.place) x) (apps_of a ks)) (app_heap k.place h.0)
      ∙ ap (λ (l : List (List ℕ × App)). cond k.used (insert l (name_at b k.place) (app_at b k.place)) l) (apps_heap ks h.1)

  pub all_apps : apps_of a (blocks a) ≡ apps_of b (blocks b)
  all_apps = ap (λ (bs : List Block). apps_of a bs) all_blocks ∙ apps_heap (blocks b) high_blocks

  -- ---- the root besides

  -- with equal roots they have one fault and hold one card
  pub same_fault : word a 0 ≡ word b 0 → words_fault a ≡ words_fault b
  same_fault root = grind (arith, all_blocks, bad_blocks, bad_records)

  pub same_card : word a 0 ≡ word b 0 → card_of a ≡ card_of b
  same_card root =
      ap (λ (n : ℕ). record (card_of a) { size = n }) same.size
      ∙ ap (λ (x : List ℕ). record (card_of a) { size = length b; layout = slice_index x 3 }) root
      ∙ ap (λ (l : List (List ℕ × App)). record (card_of b) { apps = l }) all_apps
