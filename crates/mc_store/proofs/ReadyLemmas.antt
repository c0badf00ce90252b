-- After the zeros and the words of the record a site is ready to be an application.
use Rattle.std.proofs.Common.{◌≡◌, ◌≢◌, ℕ, zero, suc, ◌+◌, ◌-◌, ◌%◌, ◌<◌, ◌≤◌, true, List, [], ◌∷◌, ◌++◌, length, take, drop, map, None, Ok, refl, sym, ◌∙◌, ap, subst, inl, inr, arith, length-append, append_assoc, append-nil}
use Rattle.std.proofs.lemmas.List.{length-replicate, length-drop, drop-drop, take-append-drop, take_all, drop_all, drop_at, length-take-le, length-set, get_or-set_same, get_or-set_other}
use Rattle.mc_bank.specs.model_card.specs.declared.card.Part.TheVariants.{Data}
use Rattle.mc_words.specs.model_device.specs.Orders.{Answer, InOrder}
use Rattle.mc_words.specs.model_device.specs.Bytes.{zeros, bytes2, lookup, splice}
use Rattle.mc_words.specs.model_device.specs.Device.{DeviceState, IsSized, Wrote, WriteDone}
use Rattle.mc_words.specs.model_device.specs.Card.{Card, means, word, cells, section, record_at}
use Rattle.mc_bank.specs.model_card.specs.Items.{Site, BankItem, Blank, Note}
use Rattle.mc_bank.specs.model_card.specs.Manager.{in_words}
use Rattle.mc_words.specs.Name.{IsName}
use Rattle.mc_store.specs.Store.{is_going, words_of_sizes, part_from, record_bytes, record_word, IsGoodIn, IsInWord, IsReadySite, StoreDid}
use Rattle.mc_store.specs.GoingLaws.{Going, going_is}
use Rattle.mc_store.specs.GapLaws.{just_one}
use Rattle.mc_blocks.proofs.Sections.{length_section, cells_more, same_section}
use Rattle.mc_store.specs.CreationLaws.{AtSite, at_site}
use Rattle.mc_store.specs.TurnLaws.{site_bytes_of}
use Rattle.mc_store.specs.StoreItems.{blank_items}
use Rattle.mc_store.proofs.FillLemmas.{PlainOn, blank_on}
use Rattle.mc_store.proofs.PieceLemmas.{section_write, splice_parts}
use Rattle.mc_words.specs.model_device.proofs.ListLemmas.{splice_none}

-- ---- zeros

zeros_behind : (j k : ℕ) → drop j (zeros k) ≡ zeros (k - j)
zeros_behind zero k = ap zeros (let e : k ≡ k - 0 = omega arith in e)
zeros_behind (suc j) zero = ap zeros (let e : 0 ≡ 0 - suc j = omega arith in e)
zeros_behind (suc j) (suc k) = zeros_behind j k ∙ ap zeros (let e : k - j ≡ suc k - suc j = omega arith in e)

zeros_of : (j k : ℕ) → zeros (length (take j (zeros k))) ≡ take j (zeros k)
zeros_of zero k = refl
zeros_of (suc j) zero = refl
zeros_of (suc j) (suc k) = ap (λ (l : List ℕ). 0 ∷ l) (zeros_of j k)

-- the static bytes with zeros after the data
pub cleared : (l : List ℕ) (i n : ℕ) → length l ≡ n → i ≤ n → drop i (splice l i (zeros (n - i))) ≡ zeros (n - i)
cleared l i n long few =
    let z = zeros (n - i) in
    let size : length z ≡ n - i = length-replicate {A = ℕ} (n - i) 0 in
    ap (λ (x : List ℕ). drop i x) (append_assoc (take i l) z (drop (i + length z) l))
    ∙ drop_at (take i l) (z ++ drop (i + length z) l) i (length-take-le i l (omega (arith, long, few)))
    ∙ ap (λ (x : List ℕ). z ++ x) (drop_all (i + length z) l (omega (arith, long, size, few)))
    ∙ append-nil z

abbrev static_of : List (List ℕ) → Site → List ℕ
static_of m s = section m (part_from Data s.sizes s.place) s.sizes.fixed

-- ---- the words of a record

quarters : (r : List ℕ) → length r ≡ 32 → take 8 (drop 0 r) ++ (take 8 (drop 8 r) ++ (take 8 (drop 16 r) ++ (take 8 (drop 24 r) ++ []))) ≡ r
quarters r long =
    grind (arith, append-nil (take 8 (drop 24 r)) ∙ take_all 8 (drop 24 r) (let e = length-drop 24 r in omega (arith, e, long)), ap (λ (l : List ℕ). take 8 (drop 16 r) ++ l) (sym (drop-drop 8 16 r)) ∙ take-append-drop 8 (drop 16 r), ap (λ (l : List ℕ). take 8 (drop 8 r) ++ l) (sym (drop-drop 8 8 r)) ∙ take-append-drop 8 (drop 8 r))

record_size : (s : Site) (n : List ℕ) → IsName n → length (record_bytes s.sizes n) ≡ 32
record_size s n is =
    grind (arith, length-append n (zeros (16 - length n)), length-replicate {A = ℕ} (16 - length n) 0, length-append (n ++ zeros (16 - length n)) (length n ∷ s.sizes.dir ∷ s.sizes.fci ∷ 0 ∷ (bytes2 s.sizes.code ++ bytes2 s.sizes.fixed ++ bytes2 s.sizes.session ++ bytes2 s.sizes.deny ++ zeros 4)))

four_words : (m : List (List ℕ)) (p : ℕ) (r : List ℕ) → p + 5 ≤ length m → length r ≡ 32 → word m (p + 1 + 0) ≡ take 8 (drop 0 r) → word m (p + 1 + 1) ≡ take 8 (drop 8 r) → word m (p + 1 + 2) ≡ take 8 (drop 16 r) → word m (p + 1 + 3) ≡ take 8 (drop 24 r) → record_at m p ≡ r
four_words m p r h long w0 w1 w2 w3 =
    cells_more m (p + 1) 3 (omega arith)
    ∙ ap (λ (x : ℕ). word m x ++ cells m (p + 1 + 1) 3) (let e : p + 1 ≡ p + 1 + 0 = omega arith in e)
    ∙ ap (λ (l : List ℕ). word m (p + 1 + 0) ++ l) (cells_more m (p + 1 + 1) 2 (omega arith))
    ∙ ap (λ (l : List ℕ). word m (p + 1 + 0) ++ (word m (p + 1 + 1) ++ l)) (cells_more m (p + 1 + 1 + 1) 1 (omega arith))
    ∙ ap (λ (x : ℕ). word m (p + 1 + 0) ++ (word m (p + 1 + 1) ++ (word m x ++ cells m (x + 1) 1))) (let e : p + 1 + 1 + 1 ≡ p + 1 + 2 = omega arith in e)
    ∙ ap (λ (l : List ℕ). word m (p + 1 + 0) ++ (word m (p + 1 + 1) ++ (word m (p + 1 + 2) ++ l))) (cells_more m (p + 1 + 2 + 1) 0 (omega arith))
    ∙ ap (λ (x : ℕ). word m (p + 1 + 0) ++ (word m (p + 1 + 1) ++ (word m (p + 1 + 2) ++ (word m x ++ [])))) (let e : p + 1 + 2 + 1 ≡ p + 1 + 3 = omega arith in e)
    ∙ ap (λ (l : List ℕ). l ++ (word m (p + 1 + 1) ++ (word m (p + 1 + 2) ++ (word m (p + 1 + 3) ++ [])))) w0
    ∙ ap (λ (l : List ℕ). take 8 (drop 0 r) ++ (l ++ (word m (p + 1 + 2) ++ (word m (p + 1 + 3) ++ [])))) w1
    ∙ ap (λ (l : List ℕ). take 8 (drop 0 r) ++ (take 8 (drop 8 r) ++ (l ++ (word m (p + 1 + 3) ++ [])))) w2
    ∙ ap (λ (l : List ℕ). take 8 (drop 0 r) ++ (take 8 (drop 8 r) ++ (take 8 (drop 16 r) ++ (l ++ [])))) w3
    ∙ quarters r long

-- words with one more word of the record
pub record Noted (m n : List (List ℕ)) (s : Site) (k : List ℕ) (i : ℕ) : Type 0 where
  pub size : length n ≡ length m
  pub own : word n (s.place + 1 + i) ≡ record_word s.sizes k i
  pub other : (j : ℕ) → j ≢ s.place + 1 + i → word n j ≡ word m j

module _ {D S : Type 0} (dev : S → D) (cnt : S → ℕ) (state : D → DeviceState) (wrote : D → ℕ → List ℕ → Answer → D → Type 0)
    (obeys : (d : D) (at : ℕ) (w : List ℕ) (a : Answer) (e : D) → (state d).on ≡ true → wrote d at w a e → Wrote (state d) at w a (state e)) where
  abbrev BlanksDid : S → BankItem → Answer → S → Type 0
  BlanksDid x i a y = StoreDid state wrote (dev x) (cnt x) i a (dev y) (cnt y)

  blank_left : (x y : S) (s : Site) (at n : ℕ) → BlanksDid x (Blank s at n) (Ok tt) y → static_of (state (dev y)).words s ≡ splice (static_of (state (dev x)).words s) at (zeros n)
  blank_left x y s at n did =
      let m = (state (dev x)).words in
      let g : Going (state (dev x)) (cnt x) = going_is (state (dev x)) (cnt x) did.going in
      let site : AtSite m s = at_site m s did.image g.closed (site_bytes_of (state (dev x)) (cnt x) g).well did.allowed.0 in
      let done : WriteDone (state (dev x)) _ _ (state (dev y)) = obeys (dev x) _ _ (Ok tt) (dev y) g.on (just_one wrote (dev x) (dev y) _ _ (Ok tt) did.makes) in
      ap (λ (w : List (List ℕ)). static_of w s) done.words
      ∙ section_write m (part_from Data s.sizes s.place) s.sizes.fixed at (zeros n) did.image (omega (arith, site.ends)) (subst (λ (k : ℕ). IsInWord s.sizes.fixed at k) (sym (length-replicate {A = ℕ} n 0)) did.allowed.1)

  on_of : (x y : S) (s : Site) (at n : ℕ) → BlanksDid x (Blank s at n) (Ok tt) y → PlainOn (state (dev x)) (state (dev y)) (cnt x)
  on_of x y s at n did = blank_on state wrote obeys (dev x) (dev y) (cnt x) s at n (subst (λ (k : ℕ). StoreDid state wrote (dev x) (cnt x) (Blank s at n) (Ok tt) (dev y) k) did.count did)

  -- zeros in order
  pub blanks_left : (n : ℕ) (x y : S) (s : Site) (at k : ℕ) → k ≤ n → is_going (state (dev x)) (cnt x) ≡ true → (0 < k → at + k ≤ s.sizes.fixed) → InOrder BlanksDid x (map (λ c. Blank s c.0 (length c.1)) (in_words n at (zeros k))) (Ok tt) y
      → static_of (state (dev y)).words s ≡ splice (static_of (state (dev x)).words s) at (zeros k)
  blanks_left zero x y s at zero few going room h = ap (λ (z : S). static_of (state (dev z)).words s) h ∙ sym (splice_none (static_of (state (dev x)).words s) at)
  blanks_left zero x y s at (suc k) few going room h = absurd (omega (arith, few))
  blanks_left (suc n) x y s at zero few going room h = ap (λ (z : S). static_of (state (dev z)).words s) h ∙ sym (splice_none (static_of (state (dev x)).words s) at)
  blanks_left (suc n) x y s at (suc k) few going room h =
      let j = 8 - at % 8 in
      let c = zeros (suc k) in
      elim h [
        | inl done ↦
            let z = done.0 in
            let did = done.1 in
            let on : PlainOn (state (dev x)) (state (dev z)) (cnt x) = on_of x z s at (length (take j c)) did in
            let one : static_of (state (dev z)).words s ≡ splice (static_of (state (dev x)).words s) at (take j c) = blank_left x z s at (length (take j c)) did ∙ ap (λ (l : List ℕ). splice (static_of (state (dev x)).words s) at l) (zeros_of j (suc k)) in
            let next = subst (λ (l : List ℕ). InOrder BlanksDid z (map (λ (c : ℕ × List ℕ). Blank s c.0 (length c.1)) (in_words n (at + j) l)) (Ok tt) y) (zeros_behind j (suc k)) done.2 in
            let fits : at + suc k ≤ s.sizes.fixed = room (omega arith) in
            let rest : static_of (state (dev y)).words s ≡ splice (static_of (state (dev z)).words s) (at + j) (zeros (suc k - j)) =
            blanks_left n z y s (at + j) (suc k - j) (omega (arith, few)) (subst (λ (q : ℕ). is_going (state (dev z)) q ≡ true) (sym did.count) on.going) (λ some. omega (arith, some, fits)) next in
            let m = (state (dev x)).words in
            let g : Going (state (dev x)) (cnt x) = going_is (state (dev x)) (cnt x) going in
            let site : AtSite m s = at_site m s did.image g.closed (site_bytes_of (state (dev x)) (cnt x) g).well did.allowed.0 in
            let long : length (static_of m s) ≡ s.sizes.fixed = length_section m (part_from Data s.sizes s.place) s.sizes.fixed did.image (omega (arith, site.ends)) in
            rest ∙ ap (λ (l : List ℕ). splice (static_of (state (dev z)).words s) (at + j) l) (sym (zeros_behind j (suc k))) ∙ ap (λ (l : List ℕ). splice l (at + j) (drop j c)) one ∙ splice_parts (static_of m s) at j c (omega (arith, long, fits))
        | inr stop ↦ absurd (cc stop.2)
      ]

  note_left : (x y : S) (s : Site) (k : List ℕ) (i : ℕ) → BlanksDid x (Note s k i) (Ok tt) y → Noted (state (dev x)).words (state (dev y)).words s k i
  note_left x y s k i did =
      let m = (state (dev x)).words in
      let g : Going (state (dev x)) (cnt x) = going_is (state (dev x)) (cnt x) did.going in
      let site : AtSite m s = at_site m s did.image g.closed (site_bytes_of (state (dev x)) (cnt x) g).well did.allowed.0 in
      let few : i < 4 = did.allowed.2 in
      let done : WriteDone (state (dev x)) _ _ (state (dev y)) = obeys (dev x) _ _ (Ok tt) (dev y) g.on (just_one wrote (dev x) (dev y) _ _ (Ok tt) did.makes) in
      subst (λ (w : List (List ℕ)). Noted m w s k i) (sym done.words)
      (record {
        size = length-set m (s.place + 1 + i) (record_word s.sizes k i);
        own = get_or-set_same m (s.place + 1 + i) (record_word s.sizes k i) [] (omega (arith, site.ends));
        other = λ j ne. get_or-set_other m (s.place + 1 + i) j (record_word s.sizes k i) [] ne;
      })

  -- ---- the site afterwards

  record NotesLeft (m n : List (List ℕ)) (s : Site) (k : List ℕ) : Type 0 where
    size : length n ≡ length m
    w0 : word n (s.place + 1 + 0) ≡ record_word s.sizes k 0
    w1 : word n (s.place + 1 + 1) ≡ record_word s.sizes k 1
    w2 : word n (s.place + 1 + 2) ≡ record_word s.sizes k 2
    w3 : word n (s.place + 1 + 3) ≡ record_word s.sizes k 3
    other : (j : ℕ) → s.place + 5 ≤ j → word n j ≡ word m j

  four_notes : (a b c d e : List (List ℕ)) (s : Site) (k : List ℕ) → Noted a b s k 0 → Noted b c s k 1 → Noted c d s k 2 → Noted d e s k 3 → NotesLeft a e s k
  four_notes a b c d e s k n0 n1 n2 n3 =
      record {
        size = n3.size ∙ n2.size ∙ n1.size ∙ n0.size;
        w0 = n3.other (s.place + 1 + 0) (λ e. absurd (omega (arith, e))) ∙ n2.other (s.place + 1 + 0) (λ e. absurd (omega (arith, e))) ∙ n1.other (s.place + 1 + 0) (λ e. absurd (omega (arith, e))) ∙ n0.own;
        w1 = n3.other (s.place + 1 + 1) (λ e. absurd (omega (arith, e))) ∙ n2.other (s.place + 1 + 1) (λ e. absurd (omega (arith, e))) ∙ n1.own;
        w2 = n3.other (s.place + 1 + 2) (λ e. absurd (omega (arith, e))) ∙ n2.own;
        w3 = n3.own;
        other = λ j low. n3.other j (λ e. absurd (omega (arith, e))) ∙ n2.other j (λ e. absurd (omega (arith, e))) ∙ n1.other j (λ e. absurd (omega (arith, e))) ∙ n0.other j (λ e. absurd (omega (arith, e)));
      }

  notes_left : (x y : S) (s : Site) (k : List ℕ) → InOrder BlanksDid x (Note s k 0 ∷ Note s k 1 ∷ Note s k 2 ∷ Note s k 3 ∷ []) (Ok tt) y → NotesLeft (state (dev x)).words (state (dev y)).words s k
  notes_left x y s k h =
      elim h [
        | inl one ↦ elim one.2 [
          | inl two ↦ elim two.2 [
            | inl three ↦ elim three.2 [
              | inl four ↦ subst (λ (z : S). NotesLeft (state (dev x)).words (state (dev z)).words s k) (sym four.2)
                  (four_notes (state (dev x)).words (state (dev one.0)).words (state (dev two.0)).words (state (dev three.0)).words (state (dev four.0)).words s k (note_left x one.0 s k 0 one.1) (note_left one.0 two.0 s k 1 two.1) (note_left two.0 three.0 s k 2 three.1) (note_left three.0 four.0 s k 3 four.1))
              | inr stop ↦ absurd (cc stop.2)
            ]
            | inr stop ↦ absurd (cc stop.2)
          ]
          | inr stop ↦ absurd (cc stop.2)
        ]
        | inr stop ↦ absurd (cc stop.2)
      ]

  pub ready : (x y z : S) (s : Site) (k : List ℕ) → IsSized (state (dev x)).words → is_going (state (dev x)) (cnt x) ≡ true → IsGoodIn (state (dev x)).words s → IsName k → lookup (means (state (dev x)).words).apps k ≡ None
      → InOrder BlanksDid x (blank_items s s.sizes.init (zeros (s.sizes.fixed - s.sizes.init))) (Ok tt) y → InOrder BlanksDid y (Note s k 0 ∷ Note s k 1 ∷ Note s k 2 ∷ Note s k 3 ∷ []) (Ok tt) z
      → PlainOn (state (dev x)) (state (dev y)) (cnt x) → PlainOn (state (dev y)) (state (dev z)) (cnt y) → IsGoodIn (state (dev z)).words s → length (state (dev y)).words ≡ length (state (dev x)).words → IsReadySite (state (dev z)).words s k
  ready x y z s k image going good name fresh blanks notes on-y on-z good-z same =
      let m = (state (dev x)).words in
      let q = part_from Data s.sizes s.place in
      let g : Going (state (dev x)) (cnt x) = going_is (state (dev x)) (cnt x) going in
      let site : AtSite m s = at_site m s image g.closed (site_bytes_of (state (dev x)) (cnt x) g).well good in
      let init : s.sizes.init ≤ s.sizes.fixed = good.limits.init in
      let long : length (static_of m s) ≡ s.sizes.fixed = length_section m q s.sizes.fixed image (omega (arith, site.ends)) in
      let size : length (zeros (s.sizes.fixed - s.sizes.init)) ≡ s.sizes.fixed - s.sizes.init = length-replicate {A = ℕ} (s.sizes.fixed - s.sizes.init) 0 in
      let left : static_of (state (dev y)).words s ≡ splice (static_of m s) s.sizes.init (zeros (s.sizes.fixed - s.sizes.init)) =
      blanks_left (length (zeros (s.sizes.fixed - s.sizes.init))) x y s s.sizes.init (s.sizes.fixed - s.sizes.init) (omega (arith, size)) going (λ some. omega arith) blanks in
      let n : NotesLeft (state (dev y)).words (state (dev z)).words s k = notes_left y z s k notes in
      let end : s.place + words_of_sizes s.sizes ≤ length (state (dev y)).words = omega (arith, site.ends, same) in
      let kept : static_of (state (dev z)).words s ≡ static_of (state (dev y)).words s = same_section (state (dev y)).words (state (dev z)).words q s.sizes.fixed n.size (omega (arith, end)) (λ j low high. n.other j (omega arith)) in
      record {
        good = good-z;
        name = name;
        fresh = ap (λ (c : Card). lookup c.apps k) (on-z.means ∙ on-y.means) ∙ fresh;
        noted = four_words (state (dev z)).words s.place (record_bytes s.sizes k) (omega (arith, end, n.size)) (record_size s k name) n.w0 n.w1 n.w2 n.w3;
        blank = ap (λ (l : List ℕ). drop s.sizes.init l) (kept ∙ left) ∙ cleared (static_of m s) s.sizes.init s.sizes.fixed long init;
      }
