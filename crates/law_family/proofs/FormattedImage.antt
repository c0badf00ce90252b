-- A formatted image is an empty card without a fault.
use Rattle.std.proofs.Common.{◌≡◌, ◌≢◌, ℕ, zero, suc, ◌+◌, ◌-◌, ◌<◌, ◌≤◌, false, cond, List, [], ◌∷◌, length, Option, Some, None, refl, sym, ◌∙◌, ap, subst, arith}
use Rattle.std.specs.Prelude.{◌==◌, slice_set}
use Rattle.std.proofs.lemmas.Bool.{le-leb, le-ltb, eq-eqb, ne_eqb}
use Rattle.std.proofs.lemmas.List.{length-set, get_or-set_same, get_or-set_other, get_or_past}
use Rattle.std.proofs.lemmas.Slice.Eq.{bytes_eq-Decides}
use Rattle.model_play.specs.model_device.specs.Bytes.{be2, zeros, or_else}
use Rattle.model_play.specs.model_device.specs.Image.{shut_word, Closed, look, image_after_replay}
use Rattle.model_play.specs.model_device.specs.Card.{Block, word, header, heap_start, blocks_from, blocks, block_and, words_after, apps_of, card_of, means}
use Rattle.model_play.specs.model_device.specs.Layout.{root, hole_header, no_root, bad_block, bad_record, bad_chain, by_cause, words_fault, fault, fault_of}
use Rattle.model_play.specs.model_device.specs.declared.cause.Cause.TheVariants.{NoRoot, BadBlock, BadRecord, BadChain}
use Rattle.model_play.specs.Play.{formatted_image}
use Rattle.model_play.specs.model_device.proofs.ListLemmas.{two_bytes}

-- the words of an empty card of layout 2
record IsEmptyCard (n : ℕ) (w : List (List ℕ)) : Type 0 where
  size : length w ≡ n
  first : word w 0 ≡ root 2 n heap_start
  one : word w 1 ≡ shut_word
  two : word w 130 ≡ shut_word
  hole : word w 131 ≡ hole_header (n - 131) 0

-- its one hole
abbrev hole_of : ℕ → Block
hole_of n = record { place = 131; used = false; words = n - 131; link = 0 }

closed : (n : ℕ) (w : List (List ℕ)) → IsEmptyCard n w → look w ≡ Closed
closed n w h = grind arith

rooted : (n : ℕ) (w : List (List ℕ)) → IsEmptyCard n w → no_root w ≡ None
rooted n w h = grind (arith, bytes_eq-Decides)

headed : (n : ℕ) → 256 ≤ n → n ≤ 16384 → header 131 (hole_header (n - 131) 0) ≡ Some (hole_of n)
headed n low high = grind (arith, two_bytes, le-leb)

one_header : (k n : ℕ) (w : List (List ℕ)) → IsEmptyCard n w → 256 ≤ n → n ≤ 16384 → bad_block (suc (suc k)) w 131 false ≡ None
unfolding bad_block
one_header k n w h low high =
    let size : length w ≡ n = h.size in
    let after : 131 + (n - 131) ≡ length w = omega arith in
    rw (h.hole, headed n low high, ne_eqb 131 (length w) (λ e. absurd (omega (arith, e, size))), le-ltb (length w) (131 + (n - 131)) (omega (arith, after)), eq-eqb (131 + (n - 131)) (length w) after) refl

no_header : (k : ℕ) (w : List (List ℕ)) (p : ℕ) → length w ≤ p → blocks_from k w p ≡ []
unfolding blocks_from
no_header zero w p h = refl
no_header (suc k) w p h = ap (λ (x : List ℕ). block_and (length w) (header p x) (λ q. blocks_from k w q)) (get_or_past w p [] h)

one_block : (k n : ℕ) (w : List (List ℕ)) → IsEmptyCard n w → 256 ≤ n → n ≤ 16384 → blocks_from (suc k) w 131 ≡ hole_of n ∷ []
unfolding blocks_from
one_block k n w h low high =
    let size : length w ≡ n = h.size in
    let after : 131 + (n - 131) ≤ length w = omega arith in
    rw (h.hole, headed n low high, le-leb (131 + (n - 131)) (length w) after) (ap (λ (bs : List Block). hole_of n ∷ bs) (no_header k w (131 + (n - 131)) (omega arith)))

record AtLeastTwo (n : ℕ) : Type 0 where
  rest : ℕ
  is : n ≡ suc (suc rest)

two_less : (n : ℕ) → 256 ≤ n → AtLeastTwo n
two_less n h = record { rest = n - 2; is = omega arith }

sound_words : (n : ℕ) (w : List (List ℕ)) → IsEmptyCard n w → 256 ≤ n → n ≤ 16384 → words_fault w ≡ None
unfolding bad_record
sound_words n w h low high =
    let s = two_less (length w) (omega (arith, h.size)) in
    let bad : bad_block (length w) w heap_start false ≡ None = ap (λ (k : ℕ). bad_block k w heap_start false) s.is ∙ one_header s.rest n w h low high in
    let all : blocks w ≡ hole_of n ∷ [] = ap (λ (k : ℕ). blocks_from k w heap_start) s.is ∙ one_block (suc s.rest) n w h low high in
    ap (λ (o : Option ℕ). or_else (by_cause NoRoot o) (or_else (by_cause BadBlock (bad_block (length w) w heap_start false)) (or_else (by_cause BadRecord (bad_record w (blocks w) [] 0)) (by_cause BadChain (bad_chain w (blocks w)))))) (rooted n w h)
    ∙ ap (λ (o : Option ℕ). or_else (by_cause BadBlock o) (or_else (by_cause BadRecord (bad_record w (blocks w) [] 0)) (by_cause BadChain (bad_chain w (blocks w))))) bad
    ∙ ap (λ (bs : List Block). or_else (by_cause BadRecord (bad_record w bs [] 0)) (by_cause BadChain (bad_chain w bs))) all
    ∙ ap (λ (x : List ℕ). by_cause BadChain (or_else (cond (be2 x 6 == 131) None (Some 0)) None)) h.first

empty_sound : (n : ℕ) (w : List (List ℕ)) → IsEmptyCard n w → 256 ≤ n → n ≤ 16384 → fault w ≡ None
empty_sound n w h low high = ap (λ l. fault_of l w) (closed n w h) ∙ sound_words n w h low high

-- it has no application
empty_apps : (n : ℕ) (w : List (List ℕ)) → IsEmptyCard n w → 256 ≤ n → n ≤ 16384 → (means w).apps ≡ []
unfolding apps_of
empty_apps n w h low high =
    let s = two_less (length w) (omega (arith, h.size)) in
    let all : blocks w ≡ hole_of n ∷ [] = ap (λ (k : ℕ). blocks_from k w heap_start) s.is ∙ one_block (suc s.rest) n w h low high in
    ap (λ l. (card_of (words_after (image_after_replay w l) w)).apps) (closed n w h) ∙ ap (λ (bs : List Block). apps_of w bs) all

-- ---- the formatted words

abbrev W : Type 0
W = List (List ℕ)

set_there : (m : W) (i j n : ℕ) (x : List ℕ) → j ≡ i → length m ≡ n → i < n → word (slice_set m i x) j ≡ x
set_there m i j n x e s h = subst (λ (t : ℕ). word (slice_set m i x) t ≡ x) (sym e) (get_or-set_same m i x [] (omega (arith, s, h)))

set_elsewhere : (m : W) (i j : ℕ) (x y : List ℕ) → j ≢ i → word m j ≡ y → word (slice_set m i x) j ≡ y
set_elsewhere m i j x y apart h = get_or-set_other m i j x [] apart ∙ h

-- the words of a formatted image
formatted_card : (m : W) → 256 ≤ length m → IsEmptyCard (length m) (formatted_image m)
formatted_card m low =
    let n : ℕ = length m in
    let r : List ℕ = root 2 n heap_start in
    let hole : List ℕ = hole_header (n - heap_start) 0 in
    let a : W = slice_set m 0 r in
    let b : W = slice_set a 1 shut_word in
    let c : W = slice_set b 2 (zeros 8) in
    let d : W = slice_set c 130 shut_word in
    let la : length a ≡ n = length-set m 0 r in
    let lb : length b ≡ n = length-set a 1 shut_word ∙ la in
    let lc : length c ≡ n = length-set b 2 (zeros 8) ∙ lb in
    let ld : length d ≡ n = length-set c 130 shut_word ∙ lc in
    record {
      size = length-set d 131 hole ∙ ld;
      first = set_elsewhere d 131 0 hole r (λ e. absurd (omega (arith, e))) (set_elsewhere c 130 0 shut_word r (λ e. absurd (omega (arith, e))) (set_elsewhere b 2 0 (zeros 8) r (λ e. absurd (omega (arith, e)))
          (set_elsewhere a 1 0 shut_word r (λ e. absurd (omega (arith, e))) (set_there m 0 0 n r refl refl (omega arith)))));
      one = set_elsewhere d 131 1 hole shut_word (λ e. absurd (omega (arith, e))) (set_elsewhere c 130 1 shut_word shut_word (λ e. absurd (omega (arith, e))) (set_elsewhere b 2 1 (zeros 8) shut_word (λ e. absurd (omega (arith, e)))
          (set_there a 1 1 n shut_word refl la (omega arith))));
      two = set_elsewhere d 131 130 hole shut_word (λ e. absurd (omega (arith, e))) (set_there c 130 130 n shut_word refl lc (omega arith));
      hole = set_there d 131 131 n hole refl ld (omega arith);
    }

-- has no fault
pub formatted_sound : (m : W) → 256 ≤ length m → length m ≤ 16384 → fault (formatted_image m) ≡ None
formatted_sound m low high = empty_sound (length m) (formatted_image m) (formatted_card m low) low high

pub formatted_size : (m : W) → 256 ≤ length m → length (formatted_image m) ≡ length m
formatted_size m low = (formatted_card m low).size

-- and no application
pub formatted_empty : (m : W) → 256 ≤ length m → length m ≤ 16384 → (means (formatted_image m)).apps ≡ []
formatted_empty m low high = empty_apps (length m) (formatted_image m) (formatted_card m low) low high
