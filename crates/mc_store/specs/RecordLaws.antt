-- The fields of the record of an application of some sizes, once it is written.
use Rattle.std.proofs.Common.{◌≡◌, ℕ, ◌+◌, ◌-◌, ◌*◌, ◌/◌, ◌%◌, ◌<◌, ◌≤◌, Bool, true, ◌&&◌, List, ◌∷◌, ◌++◌, length, take, drop, refl, sym, ◌∙◌, ap, subst, arith, length-append, append_assoc}
use Rattle.std.specs.Prelude.{bytes_eq, slice_index}
use Rattle.std.proofs.lemmas.List.{length-replicate, get_or-append_right, take_at, drop_at}
use Rattle.std.proofs.Math.Seq.{drop-append-add}
use Rattle.std.proofs.lemmas.Bool.{le-leb, eq-eqb}
use Rattle.std.proofs.lemmas.Slice.Eq.{bytes_eq-Decides}
use Rattle.mc_bank.specs.model_card.specs.declared.card.Sizes.{Sizes}
use Rattle.mc_words.specs.model_device.specs.Limits.{most_code}
use Rattle.mc_words.specs.model_device.specs.Bytes.{zeros, be2, bytes2}
use Rattle.mc_words.specs.model_device.specs.Card.{words_of_lengths, name_in}
use Rattle.mc_words.specs.model_device.specs.Layout.{is_record}
use Rattle.mc_words.specs.Name.{IsName}
use Rattle.mc_bank.specs.Bank.{FitsLimits}
use Rattle.mc_words.specs.model_device.proofs.ListLemmas.{two_bytes}
use Rattle.mc_store.specs.Store.{record_bytes, words_of_sizes}

-- the bytes after the name and its zeros
abbrev behind : Sizes → List ℕ → List ℕ
behind s n = length n ∷ s.dir ∷ s.fci ∷ 0 ∷ (bytes2 s.code ++ bytes2 s.fixed ++ bytes2 s.session ++ bytes2 s.deny ++ zeros 4)

abbrev front : List ℕ → List ℕ
front n = n ++ zeros (16 - length n)

length_front : (n : List ℕ) → IsName n → length (front n) ≡ 16
length_front n is = let e = length-append n (zeros (16 - length n)) in let f = length-replicate {A = ℕ} (16 - length n) 0 in omega (arith, e, f, is)

parted : (s : Sizes) (n : List ℕ) → record_bytes s n ≡ front n ++ behind s n
parted s n = refl

index_behind : (s : Sizes) (n : List ℕ) (i : ℕ) → IsName n → 16 ≤ i → slice_index (record_bytes s n) i ≡ slice_index (behind s n) (i - 16)
index_behind s n i is low = ap (λ (r : List ℕ). slice_index r i) (parted s n) ∙ get_or-append_right (front n) (behind s n) 16 i 0 (length_front n is) low

named_first : (s : Sizes) (n : List ℕ) → record_bytes s n ≡ n ++ (zeros (16 - length n) ++ behind s n)
named_first s n = append_assoc n (zeros (16 - length n)) (behind s n)

-- the fields of a record
pub record Fields (s : Sizes) (n r : List ℕ) : Type 0 where
  pub long : slice_index r 16 ≡ length n
  pub dir : slice_index r 17 ≡ s.dir
  pub fci : slice_index r 18 ≡ s.fci
  pub zero : slice_index r 19 ≡ 0
  pub code : be2 r 20 ≡ s.code
  pub fixed : be2 r 22 ≡ s.fixed
  pub session : be2 r 24 ≡ s.session
  pub deny : be2 r 26 ≡ s.deny
  pub rest : drop 28 r ≡ zeros 4
  pub name : name_in r ≡ n
  pub blank : take (16 - length n) (drop (length n) r) ≡ zeros (16 - length n)

be2_at : (r : List ℕ) (i a b v : ℕ) → slice_index r i ≡ a → slice_index r (i + 1) ≡ b → 256 * a + b ≡ v → be2 r i ≡ v
be2_at r i a b v ea eb e = ap (λ (x : ℕ). 256 * x + slice_index r (i + 1)) ea ∙ ap (λ (x : ℕ). 256 * a + x) eb ∙ e

pub fields : (s : Sizes) (n : List ℕ) → FitsLimits s → IsName n → Fields s n (record_bytes s n)
fields s n limits is =
    let code : s.code ≤ most_code = limits.code in
    let fixed : s.fixed ≤ 4096 = limits.fixed in
    let session : s.session ≤ 256 = limits.session in
    let deny : s.deny < 16 = limits.deny in
    let sixteen : length (front n) ≡ 16 = length_front n is in
    record {
      long = index_behind s n 16 is (omega arith);
      dir = index_behind s n 17 is (omega arith);
      fci = index_behind s n 18 is (omega arith);
      zero = index_behind s n 19 is (omega arith);
      code = be2_at (record_bytes s n) 20 (s.code / 256 % 256) (s.code % 256) s.code (index_behind s n 20 is (omega arith)) (index_behind s n 21 is (omega arith)) (two_bytes s.code (omega arith));
      fixed = be2_at (record_bytes s n) 22 (s.fixed / 256 % 256) (s.fixed % 256) s.fixed (index_behind s n 22 is (omega arith)) (index_behind s n 23 is (omega arith)) (two_bytes s.fixed (omega arith));
      session = be2_at (record_bytes s n) 24 (s.session / 256 % 256) (s.session % 256) s.session (index_behind s n 24 is (omega arith)) (index_behind s n 25 is (omega arith)) (two_bytes s.session (omega arith));
      deny = be2_at (record_bytes s n) 26 (s.deny / 256 % 256) (s.deny % 256) s.deny (index_behind s n 26 is (omega arith)) (index_behind s n 27 is (omega arith)) (two_bytes s.deny (omega arith));
      rest = ap (λ (r : List ℕ). drop 28 r) (parted s n) ∙ ap (λ (k : ℕ). drop (k + 12) (front n ++ behind s n)) (sym sixteen) ∙ drop-append-add (front n) (behind s n) 12;
      name = ap (λ (k : ℕ). take k (record_bytes s n)) (index_behind s n 16 is (omega arith)) ∙ ap (λ (r : List ℕ). take (length n) r) (named_first s n) ∙ take_at n (zeros (16 - length n) ++ behind s n) (length n) refl;
      blank = ap (λ (r : List ℕ). take (16 - length n) (drop (length n) r)) (named_first s n)
          ∙ ap (λ (r : List ℕ). take (16 - length n) r) (drop_at n (zeros (16 - length n) ++ behind s n) (length n) refl)
          ∙ take_at (zeros (16 - length n)) (behind s n) (16 - length n) (length-replicate {A = ℕ} (16 - length n) 0);
    }

all_parts : (a b c d e f g h i j k l m : Bool) → a ≡ true → b ≡ true → c ≡ true → d ≡ true → e ≡ true → f ≡ true → g ≡ true → h ≡ true → i ≡ true → j ≡ true → k ≡ true → l ≡ true → m ≡ true
    → (a && b && c && d && e && f && g && h && i && j && k && l && m) ≡ true
all_parts a b c d e f g h i j k l m pa pb pc pd pe pf pg ph pi pj pk pl pm = rw (pa, pb, pc, pd, pe, pf, pg, ph, pi, pj, pk, pl, pm) refl

same_test : (a b : List ℕ) → a ≡ b → bytes_eq a b ≡ true
same_test a b e = (bytes_eq-Decides a b).1 e

-- that record is valid for a block of the words that the sizes need
pub bytes_are_record : (s : Sizes) (n r : List ℕ) → FitsLimits s → IsName n → r ≡ record_bytes s n → is_record r (words_of_sizes s) ≡ true
bytes_are_record s n r limits is same =
    let f : Fields s n r = subst (λ (x : List ℕ). Fields s n x) (sym same) (fields s n limits is) in
    let some : 1 ≤ s.code = limits.some_code in
    let code : s.code ≤ most_code = limits.code in
    let fixed : s.fixed ≤ 4096 = limits.fixed in
    let session : s.session ≤ 256 = limits.session in
    let dir : s.dir ≤ 128 = limits.dir in
    let fci : s.fci ≤ 128 = limits.fci in
    let deny : s.deny < 16 = limits.deny in
    let low : 5 ≤ length n = is.0 in
    let high : length n ≤ 16 = is.1 in
    all_parts _ _ _ _ _ _ _ _ _ _ _ _ _
    (le-leb 5 (slice_index r 16) (omega (arith, f.long)))
    (le-leb (slice_index r 16) 16 (omega (arith, f.long)))
    (ap (λ (k : ℕ). bytes_eq (take (16 - k) (drop k r)) (zeros (16 - k))) f.long ∙ same_test (take (16 - length n) (drop (length n) r)) (zeros (16 - length n)) f.blank)
    (le-leb (slice_index r 17) 128 (omega (arith, f.dir)))
    (le-leb (slice_index r 18) 128 (omega (arith, f.fci)))
    (eq-eqb (slice_index r 19) 0 f.zero)
    (le-leb 1 (be2 r 20) (omega (arith, f.code)))
    (le-leb (be2 r 20) most_code (omega (arith, f.code)))
    (le-leb (be2 r 22) 4096 (omega (arith, f.fixed)))
    (le-leb (be2 r 24) 256 (omega (arith, f.session)))
    (le-leb (be2 r 26) 15 (omega (arith, f.deny)))
    (same_test (drop 28 r) (zeros 4) f.rest)
    (eq-eqb (words_of_sizes s) (words_of_lengths (be2 r 20) (be2 r 22) (slice_index r 17) (slice_index r 18))
    (sym (ap (λ (k : ℕ). words_of_lengths k (be2 r 22) (slice_index r 17) (slice_index r 18)) f.code ∙ ap (λ (k : ℕ). words_of_lengths s.code k (slice_index r 17) (slice_index r 18)) f.fixed
    ∙ ap (λ (k : ℕ). words_of_lengths s.code s.fixed k (slice_index r 18)) f.dir ∙ ap (λ (k : ℕ). words_of_lengths s.code s.fixed s.dir k) f.fci)))
