-- The places at which words differ from a root.
use Rattle.std.proofs.Common.{◌≡◌, ◌≢◌, ◌⊎◌, ℕ, zero, suc, ◌+◌, ◌<◌, ◌≤◌, Bool, true, false, ◌||◌, eqb, List, [], ◌∷◌, ◌++◌, length, get_or, drop, inl, inr, refl, sym, ap, subst, ◌∙◌, arith, append_assoc}
use Rattle.std.specs.Prelude.{slice_index_or, slice_set, replicate, map, Result, Ok, Err, IfOk, OnErr}
use Rattle.std.specs.List.{AllByRecursion, IsDistinct, list_any}
use Rattle.std.proofs.lemmas.List.{get_or-set_same, get_or-set_other, get_or_past, append-nil, drop_all, ext_get_or, length-append, length-replicate, length-set}
use Rattle.std.proofs.Math.Seq.{drop-cons}
use Rattle.std.proofs.lemmas.Bool.{cases_eq, cases_lt, ne_eqb}
use Rattle.std.proofs.lemmas.Map.Steps.{length-le_from_distinct_below}
use Rattle.std.proofs.lemmas.Slice.Eq.{bytes_eq-Decides}
use Rattle.mc_words.specs.model_device.specs.Image.{image_with}
use Rattle.mc_words.specs.model_device.specs.Orders.{Answer}
use Rattle.mc_words.specs.model_device.specs.Device.{Due, DueCut, DueFailure, DueNot, blank_words, device_words}
use Rattle.mc_nvm.specs.Sim.{Sim, after_write, next_due, SimWrote, blank_sim}
use Rattle.lab_branch.specs.Branches.{IsListed, MarksAreListed, HasRoom, BranchState, IsBranch, IsDifference, has_root_word, unless_root, differences_at}

not_marked : (n i : ℕ) → get_or (replicate n false) i false ≡ true → ⊥
not_marked zero i is = absurd (cc is)
not_marked (suc n) zero is = absurd (cc is)
not_marked (suc n) (suc i) is = not_marked n i is

-- ---- listed numbers

pub listed_last : (p : ℕ) (xs : List ℕ) → IsListed p (xs ++ p ∷ [])
listed_last p [] = inl refl
listed_last p (x ∷ xs) = inr (listed_last p xs)

pub listed_front : (p q : ℕ) (xs : List ℕ) → IsListed q xs → IsListed q (xs ++ p ∷ [])
listed_front p q [] h = absurd h
listed_front p q (x ∷ xs) (inl e) = inl e
listed_front p q (x ∷ xs) (inr h) = inr (listed_front p q xs h)

pub listed_before : (p q : ℕ) (xs : List ℕ) → IsListed q (xs ++ p ∷ []) → IsListed q xs ⊎ (q ≡ p)
listed_before p q [] (inl e) = inr e
listed_before p q [] (inr h) = absurd h
listed_before p q (x ∷ xs) (inl e) = inl (inl e)
listed_before p q (x ∷ xs) (inr h) = elim (listed_before p q xs h) [ inl there ↦ inl (inr there) | inr e ↦ inr e ]

listed_if_any : (q : ℕ) (xs : List ℕ) → list_any (eqb q) xs ≡ true → IsListed q xs
listed_if_any q [] h = absurd (cc h)
listed_if_any q (x ∷ xs) h = elim (cases_eq q x) [
  | inl e ↦ inl e
  | inr other ↦ inr (listed_if_any q xs (sym (ap (λ (b : Bool). b || list_any (eqb q) xs) (ne_eqb q x other)) ∙ h))
]

differs_from_last : (p x : ℕ) (xs : List ℕ) → AllByRecursion (λ y. eqb x y ≡ false) xs → eqb x p ≡ false → AllByRecursion (λ y. eqb x y ≡ false) (xs ++ p ∷ [])
differs_from_last p x [] h e = (e, tt)
differs_from_last p x (y ∷ ys) h e = (h.0, differs_from_last p x ys h.1 e)

pub distinct_last : (p : ℕ) (xs : List ℕ) → (IsListed p xs → ⊥) → IsDistinct eqb xs → IsDistinct eqb (xs ++ p ∷ [])
unfolding IsDistinct
distinct_last p [] absent h = (tt, tt)
distinct_last p (x ∷ xs) absent h = (differs_from_last p x xs h.0 (ne_eqb x p (λ e. absent (inl (sym e)))), distinct_last p xs (λ there. absent (inr there)) h.1)

-- ---- places and their marks

unmarked : (n room : ℕ) → n ≡ device_words → device_words ≤ room → HasRoom (replicate n false) [] room
unfolding IsDistinct
unmarked n room is all =
    record {
      listed = λ i h. absurd (not_marked n i h);
      marked = λ i h. absurd h;
      distinct = tt;
      size = length-replicate n false ∙ is;
      all = all;
    }

pub none_marked : (marks : List Bool) (list : List ℕ) (room : ℕ) → marks ≡ replicate device_words false → list ≡ [] → device_words ≤ room → HasRoom marks list room
none_marked marks list room is none all =
    subst (λ (l : List ℕ). HasRoom marks l room) (sym none) (subst (λ (m : List Bool). HasRoom m [] room) (sym is) (unmarked device_words room refl all))

-- a marked place has a mark
marked_below : (marks : List Bool) (i : ℕ) → get_or marks i false ≡ true → i < length marks
marked_below [] i h = absurd (cc h)
marked_below (m ∷ ms) zero h = omega arith
marked_below (m ∷ ms) (suc i) h = let below = marked_below ms i h in omega (arith, below)

-- a list that has not all places has room for one more
pub has_room_for : (marks : List Bool) (list : List ℕ) (room p : ℕ) → HasRoom marks list room → p < device_words → get_or marks p false ≡ false → length list < room
has_room_for marks list room p h below free =
    let fresh : IsListed p list → ⊥ = λ there. absurd (cc (sym free ∙ h.marked p there)) in
    let all : (q : ℕ) → list_any (eqb q) (list ++ p ∷ []) ≡ true → q < device_words = λ q any. elim (listed_before p q list (listed_if_any q (list ++ p ∷ []) any)) [
      | inl there ↦ subst (λ (n : ℕ). q < n) h.size (marked_below marks q (h.marked q there))
      | inr e ↦ subst (λ (n : ℕ). n < device_words) (sym e) below
    ] in
    let most = length-le_from_distinct_below (list ++ p ∷ []) device_words (distinct_last p list fresh h.distinct) all in
    let long = length-append list (p ∷ []) in
    omega (arith, most, long, h.all)

marked_last : (marks : List Bool) (list : List ℕ) (room more p : ℕ) → HasRoom marks list room → p < device_words → get_or marks p false ≡ false → room ≤ more
    → HasRoom (slice_set marks p true) (list ++ p ∷ []) more
marked_last marks list room more p h below free grows =
    record {
      listed = λ i is. elim (cases_eq i p) [
        | inl same ↦ subst (λ (j : ℕ). IsListed j (list ++ p ∷ [])) (sym same) (listed_last p list)
        | inr other ↦ listed_front p i list (h.listed i (sym (get_or-set_other marks p i true false other) ∙ is))
      ];
      marked = λ i there. elim (cases_eq i p) [
        | inl same ↦ subst (λ (j : ℕ). get_or (slice_set marks p true) j false ≡ true) (sym same) (get_or-set_same marks p true false (subst (λ (n : ℕ). p < n) (sym h.size) below))
        | inr other ↦ elim (listed_before p i list there) [
          | inl before ↦ get_or-set_other marks p i true false other ∙ h.marked i before
          | inr e ↦ absurd (other e)
        ]
      ];
      distinct = distinct_last p list (λ there. absurd (cc (sym free ∙ h.marked p there))) h.distinct;
      size = length-set marks p true ∙ h.size;
      all = omega (arith, h.all, grows);
    }

pub place_added : (marks new : List Bool) (list longer : List ℕ) (room more p : ℕ) → HasRoom marks list room → p < device_words → get_or marks p false ≡ false → new ≡ slice_set marks p true
    → longer ≡ list ++ p ∷ [] → room ≤ more → HasRoom new longer more
place_added marks new list longer room more p h below free is long grows =
    subst (λ (l : List ℕ). HasRoom new l more) (sym long) (subst (λ (m : List Bool). HasRoom m (list ++ p ∷ []) more) (sym is) (marked_last marks list room more p h below free grows))

pub added_is_listed : (p : ℕ) (list longer : List ℕ) → longer ≡ list ++ p ∷ [] → IsListed p longer
added_is_listed p list longer long = subst (λ (l : List ℕ). IsListed p l) (sym long) (listed_last p list)

pub others_stay_listed : (p q : ℕ) (list longer : List ℕ) → longer ≡ list ++ p ∷ [] → IsListed q list → IsListed q longer
others_stay_listed p q list longer long h = subst (λ (l : List ℕ). IsListed q l) (sym long) (listed_front p q list h)

pub no_more_listed : (p q : ℕ) (list longer : List ℕ) → longer ≡ list ++ p ∷ [] → IsListed q longer → IsListed q list ⊎ (q ≡ p)
no_more_listed p q list longer long h = listed_before p q list (subst (λ (l : List ℕ). IsListed q l) long h)

pub cleared : (marks new old : List Bool) (was list : List ℕ) (room more : ℕ) → HasRoom old was room → MarksAreListed marks [] → length marks ≡ length old → new ≡ marks → list ≡ [] → more ≡ room
    → HasRoom new list more
unfolding IsDistinct
cleared marks new old was list room more h none len is empty same =
    subst (λ (l : List ℕ). HasRoom new l more) (sym empty)
    (subst (λ (m : List Bool). HasRoom m [] more) (sym is)
    (record { listed = none; marked = λ i there. absurd there; distinct = tt; size = len ∙ h.size; all = subst (λ (n : ℕ). device_words ≤ n) (sym same) h.all }))

-- words that are the same at each place
pub words_same : (m n : List (List ℕ)) → length m ≡ length n → ((i : ℕ) → i < length m → slice_index_or m i [] ≡ slice_index_or n i []) → m ≡ n
words_same m n len h = ext_get_or [] m n len h

pub differs_not : (m : List (List ℕ)) → length m ≡ device_words → IsBranch [] m m
differs_not m size = record { len = refl; size = size; differs = λ i lt. inr refl }

-- a word set at a place that is among them
pub differs_set : (p q : List ℕ) (m root : List (List ℕ)) (at : ℕ) (w : List ℕ) → IsBranch p m root → ((i : ℕ) → IsListed i p → IsListed i q) → IsListed at q → IsBranch q (slice_set m at w) root
differs_set p q m root at w h stays added =
    record {
      len = h.len ∙ sym (length-set m at w);
      size = length-set m at w ∙ h.size;
      differs = λ i lt. elim (cases_eq i at) [
        | inl same ↦ inl (subst (λ (j : ℕ). IsListed j q) (sym same) added)
        | inr other ↦ elim (h.differs i (subst (λ (n : ℕ). i < n) (length-set m at w) lt)) [
          | inl in_p ↦ inl (stays i in_p)
          | inr e ↦ inr (get_or-set_other m at i w [] other ∙ e)
        ]
      ];
    }

-- ---- differences

-- Words over a root are those of the device or of the root at each place, and those of the device at each place that is
-- not left.
record LaidUpTo (words root m : List (List ℕ)) (places : List ℕ) : Type 0 where
  len : length m ≡ length words
  own : (i : ℕ) → has_root_word words root i ≡ true → slice_index_or m i [] ≡ slice_index_or words i []
  left : (i : ℕ) → i < length words → IsListed i places ⊎ (slice_index_or words i [] ≡ slice_index_or m i [])

same_word : (words root : List (List ℕ)) (p : ℕ) → has_root_word words root p ≡ true → slice_index_or root p [] ≡ slice_index_or words p []
same_word words root p h = (bytes_eq-Decides (slice_index_or root p []) (slice_index_or words p [])).0 h

-- a step of laying the differences at the places that are left
laid_step : (b : Bool) (words root m : List (List ℕ)) (p : ℕ) (ps : List ℕ) → has_root_word words root p ≡ b → LaidUpTo words root m (p ∷ ps)
    → ((n : List (List ℕ)) → LaidUpTo words root n ps → image_with n (differences_at words root ps) ≡ words)
    → image_with m (unless_root b (p, slice_index_or words p []) (differences_at words root ps)) ≡ words
laid_step true words root m p ps is h rest =
    rest m (record {
      len = h.len;
      own = h.own;
      left = λ i lt. elim (h.left i lt) [
        | inl there ↦ elim there [
          | inl e ↦ inr (subst (λ (j : ℕ). slice_index_or words j [] ≡ slice_index_or m j []) (sym e) (sym (h.own p is)))
          | inr later ↦ inl later
        ]
        | inr e ↦ inr e
      ];
    })
laid_step false words root m p ps is h rest =
    let w = slice_index_or words p [] in
    rest (slice_set m p w) (record {
      len = length-set m p w ∙ h.len;
      own = λ i own. elim (cases_eq i p) [
        | inl e ↦ absurd (cc (sym own ∙ ap (λ (j : ℕ). has_root_word words root j) e ∙ is))
        | inr other ↦ get_or-set_other m p i w [] other ∙ h.own i own
      ];
      left = λ i lt. elim (cases_eq i p) [
        | inl e ↦ inr (subst (λ (j : ℕ). slice_index_or words j [] ≡ slice_index_or (slice_set m p w) j []) (sym e)
            (sym (get_or-set_same m p w [] (subst (λ (n : ℕ). p < n) (sym h.len) (subst (λ (j : ℕ). j < length words) e lt)))))
        | inr other ↦ elim (h.left i lt) [
          | inl there ↦ elim there [ inl e ↦ absurd (other e) | inr later ↦ inl later ]
          | inr e ↦ inr (e ∙ sym (get_or-set_other m p i w [] other))
        ]
      ];
    })

laid_up : (words root m : List (List ℕ)) (ps : List ℕ) → LaidUpTo words root m ps → image_with m (differences_at words root ps) ≡ words
laid_up words root m [] h =
    words_same m words h.len (λ i lt. elim (h.left i (subst (λ (n : ℕ). i < n) h.len lt)) [ inl there ↦ absurd there | inr e ↦ sym e ])
laid_up words root m (p ∷ ps) h = laid_step (has_root_word words root p) words root m p ps refl h (λ n k. laid_up words root n ps k)

-- the differences at the listed places, laid over the root, are the words
pub laid_differences : (list : List ℕ) (words root : List (List ℕ)) → IsBranch list words root → image_with root (differences_at words root list) ≡ words
laid_differences list words root h = laid_up words root root list (record { len = h.len; own = λ i is. same_word words root i is; left = h.differs })

-- words are not a root if they have another word at a place
pub differs_at_place : (words root : List (List ℕ)) (p : ℕ) → has_root_word words root p ≡ false → words ≢ root
differs_at_place words root p h e =
    absurd (cc (sym h ∙ (bytes_eq-Decides (slice_index_or root p []) (slice_index_or words p [])).1 (ap (λ (m : List (List ℕ)). slice_index_or m p []) (sym e))))

is_difference : (words root : List (List ℕ)) (p : ℕ) → length root ≡ length words → has_root_word words root p ≡ false → IsDifference root (p, slice_index_or words p [])
is_difference words root p len h = (
  elim (cases_lt p (length root)) [
    | inl below ↦ below
    | inr past ↦ absurd (cc (sym h ∙ (bytes_eq-Decides (slice_index_or root p []) (slice_index_or words p [])).1
        (get_or_past root p [] past ∙ sym (get_or_past words p [] (subst (λ (n : ℕ). n ≤ p) len past)))))
  ],
  λ e. absurd (cc (sym h ∙ (bytes_eq-Decides (slice_index_or root p []) (slice_index_or words p [])).1 (sym e))),
)

all_unless : (P : ℕ × List ℕ → Type 0) (b : Bool) (d : ℕ × List ℕ) (ds : List (ℕ × List ℕ)) → (b ≡ false → P d) → AllByRecursion P ds → AllByRecursion P (unless_root b d ds)
all_unless P true d ds h all = all
all_unless P false d ds h all = (h refl, all)

pub all_differ : (words root : List (List ℕ)) (ps : List ℕ) → length root ≡ length words → AllByRecursion (IsDifference root) (differences_at words root ps)
all_differ words root [] len = tt
all_differ words root (p ∷ ps) len =
    all_unless (IsDifference root) (has_root_word words root p) (p, slice_index_or words p []) (differences_at words root ps) (is_difference words root p len) (all_differ words root ps len)

-- the places of differences
abbrev pub places_of : List (ℕ × List ℕ) → List ℕ
places_of ds = map (λ d. d.0) ds

apart_unless : (P : ℕ → Type 0) (b : Bool) (d : ℕ × List ℕ) (ds : List (ℕ × List ℕ)) → P d.0 → AllByRecursion P (places_of ds) → AllByRecursion P (places_of (unless_root b d ds))
apart_unless P true d ds h all = all
apart_unless P false d ds h all = (h, all)

all_places : (P : ℕ → Type 0) (words root : List (List ℕ)) (ps : List ℕ) → AllByRecursion P ps → AllByRecursion P (places_of (differences_at words root ps))
all_places P words root [] h = tt
all_places P words root (p ∷ ps) h =
    apart_unless P (has_root_word words root p) (p, slice_index_or words p []) (differences_at words root ps) h.0 (all_places P words root ps h.1)

distinct_unless : (b : Bool) (d : ℕ × List ℕ) (ds : List (ℕ × List ℕ)) → AllByRecursion (λ y. eqb d.0 y ≡ false) (places_of ds) → IsDistinct eqb (places_of ds)
    → IsDistinct eqb (places_of (unless_root b d ds))
unfolding IsDistinct
distinct_unless true d ds apart h = h
distinct_unless false d ds apart h = (apart, h)

pub distinct_places : (words root : List (List ℕ)) (ps : List ℕ) → IsDistinct eqb ps → IsDistinct eqb (places_of (differences_at words root ps))
unfolding IsDistinct
distinct_places words root [] h = tt
distinct_places words root (p ∷ ps) h =
    distinct_unless (has_root_word words root p) (p, slice_index_or words p []) (differences_at words root ps) (all_places (λ y. eqb p y ≡ false) words root ps h.0) (distinct_places words root ps h.1)

-- one more difference before those that are left
pub one_more : (b : Bool) (d : ℕ × List ℕ) (ds rest all : List (ℕ × List ℕ)) → ds ++ unless_root b d rest ≡ all → (ds ++ unless_root b d []) ++ rest ≡ all
one_more true d ds rest all h = ap (λ (xs : List (ℕ × List ℕ)). xs ++ rest) (append-nil ds) ∙ h
one_more false d ds rest all h = append_assoc ds (d ∷ []) rest ∙ h

-- the differences of one place more
pub differences_on : (words root : List (List ℕ)) (places : List ℕ) (i : ℕ) (ds more all : List (ℕ × List ℕ)) (d : ℕ) → i < length places
    → ds ++ differences_at words root (drop i places) ≡ all
    → more ≡ ds ++ unless_root (has_root_word words root (get_or places i d)) (get_or places i d, slice_index_or words (get_or places i d) []) []
    → more ++ differences_at words root (drop (i + 1) places) ≡ all
differences_on words root places i ds more all d lt before added =
    let p = get_or places i d in
    let rest = differences_at words root (drop (i + 1) places) in
    let one : suc i ≡ i + 1 = omega arith in
    let step = drop-cons places i d lt ∙ ap (λ (k : ℕ). p ∷ drop k places) one in
    ap (λ (xs : List (ℕ × List ℕ)). xs ++ rest) added
    ∙ one_more (has_root_word words root p) (p, slice_index_or words p []) ds rest all (ap (λ (ps : List ℕ). ds ++ differences_at words root ps) (sym step) ∙ before)

-- the differences when no place is left
pub differences_all : (words root : List (List ℕ)) (places : List ℕ) (i : ℕ) (ds all : List (ℕ × List ℕ)) → length places ≤ i → ds ++ differences_at words root (drop i places) ≡ all → ds ≡ all
differences_all words root places i ds all past before =
    sym (append-nil ds) ∙ ap (λ (ps : List ℕ). ds ++ differences_at words root ps) (sym (drop_all i places past)) ∙ before

-- what is promised of the differences of a device from its root
pub record AreDifferences (s : BranchState) (ds : List (ℕ × List ℕ)) : Type 0 where
  pub laid : image_with s.root ds ≡ s.device.words
  pub differ : AllByRecursion (IsDifference s.root) ds
  pub distinct : IsDistinct eqb (places_of ds)

pub are_differences : (s t : BranchState) (list list1 : List ℕ) (root1 : List (List ℕ)) (ds : List (ℕ × List ℕ)) → t ≡ s → IsBranch list t.device.words t.root → root1 ≡ t.root → list1 ≡ list
    → IsDistinct eqb list1 → ds ≡ differences_at t.device.words root1 list1 → AreDifferences s ds
are_differences s t list list1 root1 ds view h er el once is =
    let words = t.device.words in
    let same = is ∙ ap (λ (r : List (List ℕ)). differences_at words r list1) er ∙ ap (λ (l : List ℕ). differences_at words t.root l) el in
    subst (λ (u : BranchState). AreDifferences u ds) view
    (subst (λ (xs : List (ℕ × List ℕ)). AreDifferences t xs) (sym same)
    (record {
      laid = laid_differences list words t.root h;
      differ = all_differ words t.root list h.len;
      distinct = distinct_places words t.root list (subst (λ (l : List ℕ). IsDistinct eqb l) el once);
    }))

pub not_root : (s t : BranchState) (root1 : List (List ℕ)) → t ≡ s → root1 ≡ t.root → t.device.words ≢ root1 → s.device.words ≢ s.root
not_root s t root1 view er differ e = differ (ap (λ (u : BranchState). u.device.words) view ∙ e ∙ sym (ap (λ (u : BranchState). u.root) view) ∙ sym er)

pub if_ok : {T E : Type 0} {P Q : T → Type 0} (r : Result T E) → ((v : T) → P v → Q v) → IfOk r P → IfOk r Q
if_ok (Ok v) f h = f v h
if_ok (Err e) f h = h

pub on_err : {T E : Type 0} {P Q : Type 0} (r : Result T E) → (P → Q) → OnErr r P → OnErr r Q
on_err (Ok v) f h = h
on_err (Err e) f h = f h

pub err_is : {T E : Type 0} {P : Type 0} (r : Result T E) → P → OnErr r P
err_is (Ok v) h = tt
err_is (Err e) h = h

-- ---- a write

-- a write leaves some word in its place, and all others
pub word_left : (s : Sim) (at : ℕ) (w : List ℕ) (d : Due) → (x : List ℕ) × ((after_write s at w d).words ≡ slice_set s.words at x)
word_left s at w (DueCut fill) = (fill, refl)
word_left s at w (DueFailure fill) = (fill, refl)
word_left s at w DueNot = (w, refl)

pub differs_wrote : (p q : List ℕ) (s : Sim) (root : List (List ℕ)) (at : ℕ) (w : List ℕ) (a : Answer) (e : Sim) → IsBranch p s.words root → SimWrote s at w a e
    → ((i : ℕ) → IsListed i p → IsListed i q) → IsListed at q → IsBranch q e.words root
differs_wrote p q s root at w a e h r stays added =
    let left = word_left s at w (next_due false s) in
    subst (λ (n : List (List ℕ)). IsBranch q n root) (sym (ap (λ (t : Sim). t.words) r.after ∙ left.1)) (differs_set p q s.words root at left.0 h stays added)

pub differs_now : (p q : List ℕ) (m n root : List (List ℕ)) (at : ℕ) (w : List ℕ) → IsBranch p m root → ((i : ℕ) → IsListed i p → IsListed i q) → IsListed at q → n ≡ slice_set m at w → IsBranch q n root
differs_now p q m n root at w h stays added is = subst (λ (k : List (List ℕ)). IsBranch q k root) (sym is) (differs_set p q m root at w h stays added)

-- ---- back to the root

-- what is set at places of a list
abbrev SetsAt : List ℕ → List (List ℕ) → List (List ℕ) → List (List ℕ) → Type 0
SetsAt list m root n =
    (i : ℕ) → i < length m → IsListed i list ⊎ (slice_index_or m i [] ≡ slice_index_or root i []) → slice_index_or n i [] ≡ slice_index_or root i []

returned : (p : List ℕ) (m n root : List (List ℕ)) → IsBranch p m root → length n ≡ length m → SetsAt p m root n → n ≡ root
returned p m n root h len set =
    words_same n root (len ∙ sym h.len) (λ i lt.
    let below : i < length m = subst (λ (k : ℕ). i < k) len lt in
    set i below (h.differs i below))

pub returned_by : (p : List ℕ) (m n root m1 root1 : List (List ℕ)) (list1 : List ℕ) → IsBranch p m root → m1 ≡ m → root1 ≡ root → list1 ≡ p → length n ≡ length m1
    → SetsAt list1 m1 root1 n → n ≡ root
returned_by p m n root m1 root1 list1 h em er el len set =
    returned p m n root h (len ∙ ap (λ (k : List (List ℕ)). length k) em)
    (subst (λ (l : List ℕ). SetsAt l m root n) el (subst (λ (r : List (List ℕ)). SetsAt list1 m r n) er (subst (λ (k : List (List ℕ)). SetsAt list1 k root1 n) em set)))

-- ---- the words of the device as the root

pub copied : (p : List ℕ) (m n root : List (List ℕ)) (list1 : List ℕ) → IsBranch p m root → list1 ≡ p → length n ≡ length root
    → ((i : ℕ) → i < length m → IsListed i list1 ⊎ (slice_index_or m i [] ≡ slice_index_or root i []) → slice_index_or m i [] ≡ slice_index_or n i []) → n ≡ m
copied p m n root list1 h el len set =
    words_same n m (len ∙ h.len) (λ i lt.
    let below : i < length m = subst (λ (k : ℕ). i < k) (len ∙ h.len) lt in
    sym (set i below (elim (h.differs i below) [
      | inl there ↦ inl (subst (λ (l : List ℕ). IsListed i l) (sym el) there)
      | inr same ↦ inr same
    ])))

-- the words, which are the root now, differ at no place
pub taken : (p q : List ℕ) (m n root : List (List ℕ)) → IsBranch p m root → q ≡ [] → n ≡ m → IsBranch q m n
taken p q m n root h none same =
    subst (λ (l : List ℕ). IsBranch l m n) (sym none) (subst (λ (r : List (List ℕ)). IsBranch [] m r) (sym same) (differs_not m h.size))

-- ---- a new device

pub blank_not : (p : List ℕ) (s : Sim) (root : List (List ℕ)) → p ≡ [] → s ≡ blank_sim device_words → root ≡ blank_words device_words → IsBranch p s.words root
blank_not p s root none blank same =
    let words = ap (λ (t : Sim). t.words) blank in
    subst (λ (q : List ℕ). IsBranch q s.words root) (sym none)
    (subst (λ (r : List (List ℕ)). IsBranch [] s.words r) (words ∙ sym same)
    (differs_not s.words (ap (λ (m : List (List ℕ)). length m) words ∙ length-replicate device_words (replicate {A = ℕ} 8 0xFF))))
