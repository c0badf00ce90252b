-- Frames taken from a source.
use Rattle.std.proofs.Common.{◌≡◌, ℕ, ◌+◌, ◌*◌, ◌<◌, ◌≤◌, List, [], ◌∷◌, ◌++◌, length, take, Option, None, refl, arith, sym, ◌∙◌, ap, subst, length-append, length-take}
use Rattle.std.specs.Prelude.{slice_index_or}
use Rattle.std.proofs.lemmas.Bool.{lt-leb}
use Rattle.std.proofs.lemmas.List.{take-append-le, length-take-le, take_all}
use Rattle.std.proofs.Math.Seq.{take-append-add}
use borrow.Rule.Slice.PartMut.{put_mid, post_of}
use Rattle.mc_streams.specs.Streams.{Took, AtEnd}
use Rattle.mc_streams.proofs.StreamsLemmas.{took_append}
use Rattle.mc_reader.specs.Frames.{first_frame}
use Rattle.mc_reader.specs.Readings.{TookPart, TookShort}

-- n more bytes that were written after the first a
pub filled : (a k n : ℕ) (xs ys : List ℕ) → a ≤ length xs → n ≤ length ys → take (a + n) (put_mid a k xs ys) ≡ take a xs ++ take n ys
filled a k n xs ys fit few =
    let size : length (take a xs) ≡ a = length-take-le a xs fit in
    subst (λ (m : ℕ). take (m + n) (put_mid a k xs ys) ≡ take a xs ++ take n ys) size
    (take-append-add (take a xs) (ys ++ post_of a k xs) n ∙ ap (λ t. take a xs ++ t) (take-append-le n ys (post_of a k xs) few))

-- the length of a frame, which is in its first two bytes
abbrev pub size_in : List ℕ → ℕ
size_in head = slice_index_or head 0 0 * 256 + slice_index_or head 1 0

-- the first two bytes of a frame, and fewer bytes than they state
part_less : (head body : List ℕ) → length head ≡ 2 → length body < size_in head → first_frame (head ++ body) ≡ None
part_less [] body two less = absurd (cc two)
part_less (high ∷ []) body two less = absurd (cc two)
part_less (high ∷ low ∷ []) body two less =
    let plain : length body < high * 256 + low = less in
    rw (lt-leb (256 * high + low) (length body) (omega (arith, plain))) refl
part_less (high ∷ low ∷ x ∷ xs) body two less = absurd (cc two)

-- the head of a complete frame that was taken
head_took : (a b : Option (List ℕ)) (head : List ℕ) (n : ℕ) → length head ≡ 2 → n ≡ 2 → Took a b (take n head) → Took a b head
head_took a b head n two is h = subst (λ (t : List ℕ). Took a b t) (take_all n head (omega (arith, two, is))) h

-- a head, and a part of the bytes after it
pub took_part : (a b c : Option (List ℕ)) (head body : List ℕ) (n : ℕ) → length head ≡ 2 → n ≡ 2 → Took a b (take n head) → Took b c body → length body < size_in head → TookPart a c
took_part a b c head body n two is h k less =
    record { part = head ++ body; took = took_append a b c head body (head_took a b head n two is h) k; less = part_less head body two less }

-- one byte of a head
one_byte : (head : List ℕ) → first_frame (take 1 head) ≡ None
one_byte [] = refl
one_byte (high ∷ bs) = refl

-- the input ended after the first byte of a frame
pub short_head : (a b : Option (List ℕ)) (head : List ℕ) (n : ℕ) → length head ≡ 2 → n ≡ 1 → Took a b (take n head) → AtEnd b → TookShort a b
short_head a b head n two is h end =
    record {
      took = record { part = take n head; took = h; less = subst (λ (m : ℕ). first_frame (take m head) ≡ None) (sym is) (one_byte head) };
      some = rw (length-take n head) (omega (arith, two, is));
      end = end;
    }

-- the input ended after the head of a frame
pub short_body : (a b c : Option (List ℕ)) (head body : List ℕ) (n m : ℕ) → length head ≡ 2 → n ≡ 2 → Took a b (take n head) → Took b c (take m body) → m < size_in head → AtEnd c → TookShort a c
short_body a b c head body n m two is h k less end =
    let few : length (take m body) < size_in head = rw (length-take m body) (omega (arith, less)) in
    record {
      took = record { part = head ++ take m body; took = took_append a b c head (take m body) (head_took a b head n two is h) k; less = part_less head (take m body) two few };
      some = rw (length-append head (take m body)) (omega (arith, two));
      end = end;
    }
