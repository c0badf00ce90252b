-- Images that have a card's words in common mean the same card.
use Rattle.std.proofs.Common.{◌≡◌, ℕ, zero, suc, ◌+◌, ◌-◌, ◌≤◌, Bool, true, false, cond, ◌&&◌, ◌||◌, not, ◌==◌, nat_le, nat_lt, List, [], ◌∷◌, length, take, drop, Option, Some, None, refl, sym, ap, subst, ◌∙◌, arith}
use Rattle.std.specs.Prelude.{bytes_eq, slice_index}
use Rattle.std.specs.List.{AllByRecursion, concat}
use Rattle.std.proofs.lemmas.Bool.Decides.{nat_tests}
use Rattle.model_play.specs.model_device.specs.declared.cause.Cause.{Cause}
use Rattle.model_play.specs.model_device.specs.declared.cause.Cause.TheVariants.{NoRoot, BadBlock, BadRecord, BadChain}
use Rattle.model_play.specs.model_device.specs.Bytes.{be2, insert, or_else, has_name, up}
use Rattle.std.proofs.lemmas.List.{drop-take}
use Rattle.std.proofs.Math.Seq.{drop-nil}
use Rattle.model_play.specs.model_device.specs.Card.{app_at, app_of, apps_of, block_and, blocks, blocks_from, card_of, cells, header, heap_start, is_header, name_at, name_in, record_at, section, word, words_of_lengths, App, Block, Card}
use Rattle.model_play.specs.model_device.specs.Image.{look, look_at, debt, Closed, Which}
use Rattle.model_play.specs.model_device.specs.Layout.{bad_block, bad_chain, bad_header, bad_link, first_hole, bad_record, by_cause, fault, is_hole, is_record, next_block, no_root, root}
use Rattle.model_play.specs.model_device.specs.PowerUp.{base_of, pending_journal, OnCard}
use Rattle.model_play.specs.model_device.proofs.BoolLemmas.{or_else_none}
use Rattle.model_play.specs.model_device.proofs.LayoutLemmas.{cause_none, closed_fault, closed_means}
use Rattle.law_residual.specs.Laws.{HoldOneCard, MeanAlike, SameInBlock}

-- ---- words

word_past : (m : List (List ℕ)) (p : ℕ) → p ≡ length m → word m p ≡ []
word_past [] zero e = refl
word_past [] (suc p) e = absurd (omega (arith, e))
word_past (x ∷ m) zero e = absurd (omega (arith, e))
word_past (x ∷ m) (suc p) e = word_past m p (omega (arith, e))

take_less : (n d : ℕ) (xs : List (List ℕ)) → n ≤ d → take n (take d xs) ≡ take n xs
take_less zero d xs le = refl
take_less (suc n) zero xs le = absurd (omega (arith, le))
take_less (suc n) (suc d) [] le = refl
take_less (suc n) (suc d) (x ∷ xs) le = ap (λ (t : List (List ℕ)). x ∷ t) (take_less n d xs (omega (arith, le)))

drop_both : (p i : ℕ) (l : List (List ℕ)) → drop (p + i) l ≡ drop i (drop p l)
drop_both zero i l = ap (λ (j : ℕ). drop j l) (omega arith)
drop_both (suc p) i [] = drop-nil {A = List ℕ} (suc p + i) ∙ sym (drop-nil {A = List ℕ} i)
drop_both (suc p) i (x ∷ l) =
    let more : suc p + i ≡ suc (p + i) = omega arith in
    ap (λ (j : ℕ). drop j (x ∷ l)) more ∙ drop_both p i l

-- a part of the words from p on
part_of : (l : List (List ℕ)) (p w i n : ℕ) → i + n ≤ w → take n (drop (p + i) l) ≡ take n (drop i (take w (drop p l)))
part_of l p w i n fits =
    let all : i + (w - i) ≡ w = omega (arith, fits) in
    let rest : drop i (take w (drop p l)) ≡ take (w - i) (drop i (drop p l)) = ap (λ (j : ℕ). drop i (take j (drop p l))) (sym all) ∙ drop-take i (w - i) (drop p l) in
    ap (λ (t : List (List ℕ)). take n t) (drop_both p i l)
    ∙ sym (take_less n (w - i) (drop i (drop p l)) (omega (arith, fits)))
    ∙ ap (λ (t : List (List ℕ)). take n t) (sym rest)

-- a part of words that two images have in common
part_same : (m k : List (List ℕ)) (p w i n : ℕ) → take w (drop p m) ≡ take w (drop p k) → i + n ≤ w → take n (drop (p + i) m) ≡ take n (drop (p + i) k)
part_same m k p w i n same fits = part_of m p w i n fits ∙ ap (λ (t : List (List ℕ)). take n (drop i t)) same ∙ sym (part_of k p w i n fits)

-- bytes of words that two images have in common
cells_same : (m k : List (List ℕ)) (p w q n : ℕ) → take w (drop p m) ≡ take w (drop p k) → p ≤ q → q + n ≤ p + w → cells m q n ≡ cells k q n
cells_same m k p w q n same low high =
    let at : p + (q - p) ≡ q = omega (arith, low) in
    ap (λ (t : List (List ℕ)). concat t) (
    ap (λ (j : ℕ). take n (drop j m)) (sym at) ∙ part_same m k p w (q - p) n same (omega (arith, low, high)) ∙ ap (λ (j : ℕ). take n (drop j k)) at
    )

section_same : (m k : List (List ℕ)) (p w q n : ℕ) → take w (drop p m) ≡ take w (drop p k) → p ≤ q → q + up n 8 ≤ p + w → section m q n ≡ section k q n
section_same m k p w q n same low high = ap (λ (t : List ℕ). take n t) (cells_same m k p w q (up n 8) same low high)

-- ---- applications

abbrev app_with : List ℕ → List ℕ → List ℕ → List ℕ → ℕ → ℕ → ℕ → App
app_with code fixed dir fci session deny place = record { code = code; fixed = fixed; session = session; deny = deny; dir = dir; fci = fci; place = place }

app_same : (m k : List (List ℕ)) (b : Block) (r : List ℕ) → take b.words (drop b.place m) ≡ take b.words (drop b.place k) → b.words ≡ words_of_lengths (be2 r 20) (be2 r 22) (slice_index r 17) (slice_index r 18) → app_of m b.place r ≡ app_of k b.place r
app_same m k b r same words = grind (arith, section_same)

-- ---- records

-- what is to be right of a used block's record
abbrev is_good : List ℕ → ℕ → List (List ℕ) → ℕ → Bool
is_good r words names used = is_record r words && not (has_name (name_in r) names) && nat_lt used 32

-- the lengths of a good record make a block of its words
record_lengths : (r : List ℕ) (words : ℕ) → is_record r words ≡ true → words ≡ words_of_lengths (be2 r 20) (be2 r 22) (slice_index r 17) (slice_index r 18)
record_lengths r words e = grind (arith, nat_tests, e)

good_record : (r : List ℕ) (words : ℕ) (names : List (List ℕ)) (used : ℕ) → is_good r words names used ≡ true → is_record r words ≡ true
good_record r words names used e = grind arith

-- the places of the records and the applications of two images with these blocks in common
record RecordsAlike (m k : List (List ℕ)) (bs : List Block) (names : List (List ℕ)) (used : ℕ) : Type 0 where
  sound : bad_record k bs names used ≡ None
  apps : apps_of m bs ≡ apps_of k bs

-- the tests of a used block, and what comes after it
abbrev used_block : Bool → Option ℕ → ℕ → Option ℕ
used_block good rest place = cond good rest (Some place)

used_block_good : (good : Bool) (rest : Option ℕ) (place : ℕ) → used_block good rest place ≡ None → (good ≡ true) × (rest ≡ None)
used_block_good true rest place e = (refl, e)
used_block_good false rest place e = absurd (cc e)

record_same : (m k : List (List ℕ)) (b : Block) → take b.words (drop b.place m) ≡ take b.words (drop b.place k) → 5 ≤ b.words → record_at m b.place ≡ record_at k b.place
record_same m k b same five = cells_same m k b.place b.words (b.place + 1) 4 same (omega arith) (omega (arith, five))

five_words : (words a b c d : ℕ) → words ≡ words_of_lengths a b c d → 5 ≤ words
five_words words a b c d e = omega (arith, e)

records_alike : (m k : List (List ℕ)) (bs : List Block) (names : List (List ℕ)) (used : ℕ) → bad_record m bs names used ≡ None → AllByRecursion (λ b. SameInBlock m k b) bs → RecordsAlike m k bs names used
unfolding bad_record apps_of
records_alike m k [] names used e all = record { sound = refl; apps = refl }
records_alike m k (b ∷ bs) names used e all = by b.used refl (λ names used sound. records_alike m k bs names used sound all.1)
  where
    r : List ℕ
    r = record_at m b.place

    by : (u : Bool) → b.used ≡ u → ((names : List (List ℕ)) (used : ℕ) → bad_record m bs names used ≡ None → RecordsAlike m k bs names used) → RecordsAlike m k (b ∷ bs) names used
    by false none later =
        let now : bad_record m bs names used ≡ None = ap (λ (t : Bool). cond t (used_block (is_good r b.words names used) (bad_record m bs (name_in r ∷ names) (used + 1)) b.place) (bad_record m bs names used)) (sym none) ∙ e in
        let rest = later names used now in
        record {
          sound = ap (λ (t : Bool). cond t (used_block (is_good (record_at k b.place) b.words names used) (bad_record k bs (name_in (record_at k b.place) ∷ names) (used + 1)) b.place) (bad_record k bs names used)) none ∙ rest.sound;
          apps = ap (λ (t : Bool). cond t (insert (apps_of m bs) (name_at m b.place) (app_at m b.place)) (apps_of m bs)) none ∙ rest.apps ∙ ap (λ (t : Bool). cond t (insert (apps_of k bs) (name_at k b.place) (app_at k b.place)) (apps_of k bs)) (sym none);
        }
    by true is later =
        let now : used_block (is_good r b.words names used) (bad_record m bs (name_in r ∷ names) (used + 1)) b.place ≡ None = ap (λ (t : Bool). cond t (used_block (is_good r b.words names used) (bad_record m bs (name_in r ∷ names) (used + 1)) b.place) (bad_record m bs names used)) (sym is) ∙ e in
        let good = used_block_good (is_good r b.words names used) (bad_record m bs (name_in r ∷ names) (used + 1)) b.place now in
        let same = all.0.words is in
        let lengths = record_lengths r b.words (good_record r b.words names used good.0) in
        let record_is : r ≡ record_at k b.place = record_same m k b same (five_words b.words (be2 r 20) (be2 r 22) (slice_index r 17) (slice_index r 18) lengths) in
        let rest = later (name_in r ∷ names) (used + 1) good.1 in
        let sound_k : used_block (is_good r b.words names used) (bad_record k bs (name_in r ∷ names) (used + 1)) b.place ≡ None = ap (λ (t : Bool). used_block t (bad_record k bs (name_in r ∷ names) (used + 1)) b.place) good.0 ∙ rest.sound in
        let moved : used_block (is_good (record_at k b.place) b.words names used) (bad_record k bs (name_in (record_at k b.place) ∷ names) (used + 1)) b.place ≡ None = subst (λ (t : List ℕ). used_block (is_good t b.words names used) (bad_record k bs (name_in t ∷ names) (used + 1)) b.place ≡ None) record_is sound_k in
        let app_is : app_at m b.place ≡ app_at k b.place = app_same m k b r same lengths ∙ ap (λ (t : List ℕ). app_of k b.place t) record_is in
        let inserted : insert (apps_of m bs) (name_in r) (app_at m b.place) ≡ insert (apps_of k bs) (name_in (record_at k b.place)) (app_at k b.place) =
        ap (λ (t : List (List ℕ × App)). insert t (name_in r) (app_at m b.place)) rest.apps
        ∙ ap (λ (t : List ℕ). insert (apps_of k bs) (name_in t) (app_at m b.place)) record_is
        ∙ ap (λ (t : App). insert (apps_of k bs) (name_in (record_at k b.place)) t) app_is in
        record {
          sound = ap (λ (t : Bool). cond t (used_block (is_good (record_at k b.place) b.words names used) (bad_record k bs (name_in (record_at k b.place) ∷ names) (used + 1)) b.place) (bad_record k bs names used)) is ∙ moved;
          apps = ap (λ (t : Bool). cond t (insert (apps_of m bs) (name_at m b.place) (app_at m b.place)) (apps_of m bs)) is ∙ inserted ∙ ap (λ (t : Bool). cond t (insert (apps_of k bs) (name_at k b.place) (app_at k b.place)) (apps_of k bs)) (sym is);
        }

-- ---- blocks

-- the blocks of two images with these in common
record BlocksAlike (n : ℕ) (m k : List (List ℕ)) (p : ℕ) (after_hole : Bool) : Type 0 where
  sound : bad_block n k p after_hole ≡ None
  blocks : blocks_from n m p ≡ blocks_from n k p

-- what is to be right of a header, by the block that it heads
good_header : (size : ℕ) (after_hole : Bool) (o : Option Block) → bad_header size after_hole o ≡ false → (b : Block) → o ≡ Some b → b.place + b.words ≤ size
good_header size after_hole (Some c) good b e = grind (arith, nat_tests, good, e)
good_header size after_hole None good b e = absurd (cc good)

no_block : (size : ℕ) (after_hole : Bool) → bad_header size after_hole None ≡ false → ⊥
no_block size after_hole good = absurd (cc good)

abbrev place_or : ℕ → Option Block → ℕ
place_or p None = p
place_or p (Some b) = b.place

header_place : (p : ℕ) (x : List ℕ) (b : Block) → header p x ≡ Some b → b.place ≡ p
header_place p x b e = by (is_header x) e
  where
    by : (t : Bool) → cond t (Some (record { place = p; used = slice_index x 0 == 0x55; words = be2 x 2; link = be2 x 4 })) None ≡ Some b → b.place ≡ p
    by true h = sym (ap (λ (o : Option Block). place_or p o) h)
    by false h = absurd (cc h)

-- the tests of a header, and what comes after its block
abbrev header_test : Bool → ℕ → Option ℕ → Option ℕ
header_test bad p rest = cond bad (Some p) rest

header_test_good : (bad : Bool) (p : ℕ) (rest : Option ℕ) → header_test bad p rest ≡ None → (bad ≡ false) × (rest ≡ None)
header_test_good true p rest e = absurd (cc e)
header_test_good false p rest e = (refl, e)

fits_test : (place words size : ℕ) → place + words ≤ size → nat_le (place + words) size ≡ true
fits_test place words size le = grind (arith, nat_tests, le)

blocks_alike : (n : ℕ) (m k : List (List ℕ)) (p : ℕ) (after_hole : Bool) → length m ≡ length k → bad_block n m p after_hole ≡ None → AllByRecursion (λ b. SameInBlock m k b) (blocks_from n m p) → BlocksAlike n m k p after_hole
unfolding bad_block blocks_from
blocks_alike zero m k p after_hole size e all = record { sound = refl; blocks = refl }
blocks_alike (suc n) m k p after_hole size e all = by (p == length m) refl (header p (word m p)) refl (λ q after e all. blocks_alike n m k q after size e all)
  where
    -- the rest of the walk after the block that a header heads
    rest : List (List ℕ) → Option Block → Option ℕ
    rest l o = bad_block n l (next_block (length l) o) (is_hole o)

    by : (t : Bool) → (p == length m) ≡ t → (o : Option Block) → header p (word m p) ≡ o
        → ((q : ℕ) (after : Bool) → bad_block n m q after ≡ None → AllByRecursion (λ b. SameInBlock m k b) (blocks_from n m q) → BlocksAlike n m k q after) → BlocksAlike (suc n) m k p after_hole
    by true at o is later =
        let end : p ≡ length m = grind (arith, nat_tests, at) in
        let end_k : p ≡ length k = end ∙ size in
        let test_k : (p == length k) ≡ true = ap (λ (j : ℕ). p == j) (sym size) ∙ at in
        record {
          sound = ap (λ (t : Bool). cond t None (header_test (bad_header (length k) after_hole (header p (word k p))) p (rest k (header p (word k p))))) test_k;
          blocks = ap (λ (x : List ℕ). block_and (length m) (header p x) (λ q. blocks_from n m q)) (word_past m p end) ∙ sym (ap (λ (x : List ℕ). block_and (length k) (header p x) (λ q. blocks_from n k q)) (word_past k p end_k));
        }
    by false at None is later = grind (arith, rest, header_test_good, no_block)
    by false at (Some b) is later =
        let now : header_test (bad_header (length m) after_hole (header p (word m p))) p (rest m (header p (word m p))) ≡ None = ap (λ (t : Bool). cond t None (header_test (bad_header (length m) after_hole (header p (word m p))) p (rest m (header p (word m p))))) (sym at) ∙ e in
        let good = header_test_good (bad_header (length m) after_hole (header p (word m p))) p (rest m (header p (word m p))) now in
        let fits = good_header (length m) after_hole (header p (word m p)) good.0 b is in
        let listed : blocks_from (suc n) m p ≡ b ∷ blocks_from n m (b.place + b.words) =
        ap (λ (o : Option Block). block_and (length m) o (λ q. blocks_from n m q)) is ∙ ap (λ (t : Bool). cond t (b ∷ blocks_from n m (b.place + b.words)) []) (fits_test b.place b.words (length m) fits) in
        let each : AllByRecursion (λ b. SameInBlock m k b) (b ∷ blocks_from n m (b.place + b.words)) = subst (λ (bs : List Block). AllByRecursion (λ b. SameInBlock m k b) bs) listed all in
        let place = header_place p (word m p) b is in
        let word_is : word m p ≡ word k p = ap (λ (j : ℕ). word m j) (sym place) ∙ each.0.header ∙ ap (λ (j : ℕ). word k j) place in
        let is_k : header p (word k p) ≡ Some b = ap (λ (x : List ℕ). header p x) (sym word_is) ∙ is in
        let after_m : bad_block n m (b.place + b.words) (not b.used) ≡ None = ap (λ (o : Option Block). rest m o) (sym is) ∙ good.1 in
        let more = later (b.place + b.words) (not b.used) after_m each.1 in
        let fits_k = subst (λ (j : ℕ). b.place + b.words ≤ j) size fits in
        let test_k : (p == length k) ≡ false = ap (λ (j : ℕ). p == j) (sym size) ∙ at in
        let good_k : bad_header (length k) after_hole (header p (word k p)) ≡ false =
        ap (λ (o : Option Block). bad_header (length k) after_hole o) is_k ∙ ap (λ (j : ℕ). bad_header j after_hole (Some b)) (sym size) ∙ ap (λ (o : Option Block). bad_header (length m) after_hole o) (sym is) ∙ good.0 in
        let rest_k : rest k (header p (word k p)) ≡ None = ap (λ (o : Option Block). rest k o) is_k ∙ more.sound in
        let listed_k : blocks_from (suc n) k p ≡ b ∷ blocks_from n k (b.place + b.words) =
        ap (λ (o : Option Block). block_and (length k) o (λ q. blocks_from n k q)) is_k ∙ ap (λ (t : Bool). cond t (b ∷ blocks_from n k (b.place + b.words)) []) (fits_test b.place b.words (length k) fits_k) in
        record {
          sound = ap (λ (t : Bool). cond t None (header_test (bad_header (length k) after_hole (header p (word k p))) p (rest k (header p (word k p))))) test_k ∙ ap (λ (t : Bool). header_test t p (rest k (header p (word k p)))) good_k ∙ rest_k;
          blocks = listed ∙ ap (λ (bs : List Block). b ∷ bs) more.blocks ∙ sym listed_k;
        }

-- ---- images

-- the first fault, from the places of the four kinds
abbrev first_of : Option ℕ → Option ℕ → Option ℕ → Option ℕ → Option (Cause × ℕ)
first_of bad_root bad_b bad_r bad_c = or_else (by_cause NoRoot bad_root) (or_else (by_cause BadBlock bad_b) (or_else (by_cause BadRecord bad_r) (by_cause BadChain bad_c)))

-- no fault of any kind
record NoneOf (bad_root bad_b bad_r bad_c : Option ℕ) : Type 0 where
  root : bad_root ≡ None
  blocks : bad_b ≡ None
  records : bad_r ≡ None
  chain : bad_c ≡ None

none_of : (bad_root bad_b bad_r bad_c : Option ℕ) → first_of bad_root bad_b bad_r bad_c ≡ None → NoneOf bad_root bad_b bad_r bad_c
none_of bad_root bad_b bad_r bad_c e =
    let one = or_else_none (by_cause NoRoot bad_root) (or_else (by_cause BadBlock bad_b) (or_else (by_cause BadRecord bad_r) (by_cause BadChain bad_c))) e in
    let two = or_else_none (by_cause BadBlock bad_b) (or_else (by_cause BadRecord bad_r) (by_cause BadChain bad_c)) one.1 in
    let three = or_else_none (by_cause BadRecord bad_r) (by_cause BadChain bad_c) two.1 in
    record { root = cause_none NoRoot bad_root one.0; blocks = cause_none BadBlock bad_b two.0; records = cause_none BadRecord bad_r three.0; chain = cause_none BadChain bad_c three.1 }

all_none : (bad_root bad_b bad_r bad_c : Option ℕ) → NoneOf bad_root bad_b bad_r bad_c → first_of bad_root bad_b bad_r bad_c ≡ None
all_none bad_root bad_b bad_r bad_c none = grind arith

-- the tests of a root, by its word
abbrev root_test : ℕ → List ℕ → Option ℕ
root_test size w =
    let v = slice_index w 3 in
    cond ((v == 1 || v == 2) && bytes_eq (take 6 w) (take 6 (root v size 0))) None (Some 0)

-- the tests of the chain of holes, by the root's word
abbrev chain_test : List ℕ → List Block → Option ℕ
chain_test w bs = or_else (cond (be2 w 6 == first_hole bs) None (Some 0)) (bad_link bs)

-- a card from its parts
abbrev card_by : ℕ → List ℕ → List (List ℕ × App) → Card
card_by size w apps = record { size = size; layout = slice_index w 3; apps = apps }

-- the law of free words
pub free_words : (m k : List (List ℕ)) → HoldOneCard m k → MeanAlike m k
free_words m k hold =
    let shut : look m ≡ Closed = ap (λ (w : Which). look_at m w) hold.shut in
    let shut_k : look k ≡ Closed = ap (λ (w : Which). look_at k w) hold.shut_too in
    let sound : first_of (no_root m) (bad_block (length m) m heap_start false) (bad_record m (blocks m) [] 0) (bad_chain m (blocks m)) ≡ None = sym (closed_fault m shut) ∙ hold.sound in
    let none = none_of (no_root m) (bad_block (length m) m heap_start false) (bad_record m (blocks m) [] 0) (bad_chain m (blocks m)) sound in
    let walk = blocks_alike (length m) m k heap_start false hold.size none.blocks hold.blocks in
    let same : blocks m ≡ blocks k = walk.blocks ∙ ap (λ (j : ℕ). blocks_from j k heap_start) hold.size in
    let entries = records_alike m k (blocks m) [] 0 none.records hold.blocks in
    let none_k : NoneOf (no_root k) (bad_block (length k) k heap_start false) (bad_record k (blocks k) [] 0) (bad_chain k (blocks k)) = record {
      root = sym (ap (λ (j : ℕ). root_test j (word m 0)) hold.size ∙ ap (λ (w : List ℕ). root_test (length k) w) hold.root) ∙ none.root;
      blocks = ap (λ (j : ℕ). bad_block j k heap_start false) (sym hold.size) ∙ walk.sound;
      records = ap (λ (bs : List Block). bad_record k bs [] 0) (sym same) ∙ entries.sound;
      chain = sym (ap (λ (w : List ℕ). chain_test w (blocks m)) hold.root ∙ ap (λ (bs : List Block). chain_test (word k 0) bs) same) ∙ none.chain;
    } in
    let sound_k : fault k ≡ None = closed_fault k shut_k ∙ all_none (no_root k) (bad_block (length k) k heap_start false) (bad_record k (blocks k) [] 0) (bad_chain k (blocks k)) none_k in
    let card : card_of m ≡ card_of k =
    ap (λ (j : ℕ). card_by j (word m 0) (apps_of m (blocks m))) hold.size
    ∙ ap (λ (w : List ℕ). card_by (length k) w (apps_of m (blocks m))) hold.root
    ∙ ap (λ (es : List (List ℕ × App)). card_by (length k) (word k 0) es) (entries.apps ∙ ap (λ (bs : List Block). apps_of k bs) same) in
    record {
      base = ap (λ (o : Option (Cause × ℕ)). base_of o m) hold.sound ∙ ap (λ (c : Card). OnCard c) (closed_means m shut ∙ card ∙ sym (closed_means k shut_k)) ∙ ap (λ (o : Option (Cause × ℕ)). base_of o k) (sym sound_k);
      recovery = ap debt shut ∙ sym (ap debt shut_k);
      journal = ap pending_journal hold.shut ∙ sym (ap pending_journal hold.shut_too);
    }
