-- The fields of a valid record, and its block.
use Rattle.std.proofs.Common.{◌≡◌, ℕ, ◌+◌, ◌≤◌, Bool, true, false, ◌&&◌, List, [], ◌++◌, refl, sym, ap, ◌∙◌, length, take, drop, arith, min, length-take}
use Rattle.std.specs.Prelude.{nat_le, ◌==◌, slice_index, bytes_eq, ◌-◌}
use Rattle.std.proofs.lemmas.Bool.{and_parts, leb-true, eqb-true, false_from_ne_true}
use Rattle.std.proofs.lemmas.List.{take-take, take-append-le}
use Rattle.mc_words.specs.model_device.specs.Bytes.{be2, zeros}
use Rattle.mc_words.specs.model_device.specs.Card.{word, words_of_lengths, record_at, name_in, name_at}
use Rattle.mc_words.specs.model_device.specs.Layout.{is_record}
use Rattle.mc_blocks.proofs.Records.{record_is as record_bytes_are}
use Rattle.mc_store.specs.Slots.{IsUsedBlock}
use Rattle.mc_words.specs.model_device.proofs.MapLemmas.{same_name, name_is_itself}
use Rattle.mc_blocks.proofs.Entries.{long_enough}

-- the limits that a good record keeps, and the words of its block
pub record RecordIs (r : List ℕ) (w : ℕ) : Type 0 where
  pub name_low : 5 ≤ slice_index r 16
  pub name_high : slice_index r 16 ≤ 16
  pub dir : slice_index r 17 ≤ 128
  pub fci : slice_index r 18 ≤ 128
  pub code_low : 1 ≤ be2 r 20
  pub code_high : be2 r 20 ≤ 8192
  pub fixed : be2 r 22 ≤ 4096
  pub session : be2 r 24 ≤ 256
  pub deny : be2 r 26 ≤ 15
  pub words : w ≡ words_of_lengths (be2 r 20) (be2 r 22) (slice_index r 17) (slice_index r 18)

pub record_is : (r : List ℕ) (w : ℕ) → is_record r w ≡ true → RecordIs r w
record_is r w h =
    let n = slice_index r 16 in
    let a1 = nat_le 5 n && nat_le n 16 in
    let a2 = a1 && bytes_eq (take (16 - n) (drop n r)) (zeros (16 - n)) in
    let a3 = a2 && nat_le (slice_index r 17) 128 in
    let a4 = a3 && nat_le (slice_index r 18) 128 in
    let a5 = a4 && slice_index r 19 == 0 in
    let a6 = a5 && nat_le 1 (be2 r 20) in
    let a7 = a6 && nat_le (be2 r 20) 8192 in
    let a8 = a7 && nat_le (be2 r 22) 4096 in
    let a9 = a8 && nat_le (be2 r 24) 256 in
    let a10 = a9 && nat_le (be2 r 26) 15 in
    let a11 = a10 && bytes_eq (drop 28 r) (zeros 4) in
    let fits = w == words_of_lengths (be2 r 20) (be2 r 22) (slice_index r 17) (slice_index r 18) in
    let p11 = and_parts a11 fits h in
    let p10 = and_parts a10 (bytes_eq (drop 28 r) (zeros 4)) p11.0 in
    let p9 = and_parts a9 (nat_le (be2 r 26) 15) p10.0 in
    let p8 = and_parts a8 (nat_le (be2 r 24) 256) p9.0 in
    let p7 = and_parts a7 (nat_le (be2 r 22) 4096) p8.0 in
    let p6 = and_parts a6 (nat_le (be2 r 20) 8192) p7.0 in
    let p5 = and_parts a5 (nat_le 1 (be2 r 20)) p6.0 in
    let p4 = and_parts a4 (slice_index r 19 == 0) p5.0 in
    let p3 = and_parts a3 (nat_le (slice_index r 18) 128) p4.0 in
    let p2 = and_parts a2 (nat_le (slice_index r 17) 128) p3.0 in
    let p1 = and_parts a1 (bytes_eq (take (16 - n) (drop n r)) (zeros (16 - n))) p2.0 in
    let p0 = and_parts (nat_le 5 n) (nat_le n 16) p1.0 in
    record {
      name_low = leb-true 5 n p0.0;
      name_high = leb-true n 16 p0.1;
      dir = leb-true (slice_index r 17) 128 p2.1;
      fci = leb-true (slice_index r 18) 128 p3.1;
      code_low = leb-true 1 (be2 r 20) p5.1;
      code_high = leb-true (be2 r 20) 8192 p6.1;
      fixed = leb-true (be2 r 22) 4096 p7.1;
      session = leb-true (be2 r 24) 256 p8.1;
      deny = leb-true (be2 r 26) 15 p9.1;
      words = eqb-true w (words_of_lengths (be2 r 20) (be2 r 22) (slice_index r 17) (slice_index r 18)) p11.1;
    }

-- the header and the record of a block with a valid record end within the device
pub block_fits : (m : List (List ℕ)) (p : ℕ) → IsUsedBlock m p → p + 5 ≤ length m
block_fits m p b = grind (arith, long_enough)

-- the name in a valid record has 5 to 16 bytes
pub name_size : (r : List ℕ) (w : ℕ) → length r ≡ 32 → is_record r w ≡ true → (5 ≤ length (name_in r)) × (length (name_in r) ≤ 16)
name_size r w size h = grind (arith, record_is r w h, (record_is r w h).name_low, (record_is r w h).name_high, length-take (slice_index r 16) r)

-- a name begins with the bytes of the record's first word
name_front : (m : List (List ℕ)) (p : ℕ) (w n : List ℕ) → p + 5 ≤ length m → length w ≡ 8 → w ≡ word m (p + 1) → 5 ≤ length n → name_at m p ≡ n → take 5 n ≡ take 5 w
name_front m p w n fits eight is long same =
    let r = record_at m p in
    let k = slice_index r 16 in
    let size : length (name_at m p) ≡ min k (length r) = length-take k r in
    let count : length (name_at m p) ≡ length n = ap length same in
    let enough : 5 ≤ k = omega (arith, size, count, long) in
    let rest = word m (p + 2) ++ (word m (p + 3) ++ (word m (p + 4) ++ [])) in
    let bytes : r ≡ w ++ rest = record_bytes_are m p fits ∙ ap (λ (x : List ℕ). x ++ rest) (sym is) in
    ap (λ (x : List ℕ). take 5 x) (sym same)
    ∙ take-take 5 k r enough
    ∙ ap (λ (x : List ℕ). take 5 x) bytes
    ∙ take-append-le 5 w rest (omega (arith, eight))

pub other_name : (m : List (List ℕ)) (p : ℕ) (w n : List ℕ) → p + 5 ≤ length m → length w ≡ 8 → w ≡ word m (p + 1) → 5 ≤ length n → bytes_eq (take 5 w) (take 5 n) ≡ false → bytes_eq (name_at m p) n ≡ false
other_name m p w n fits eight is long differ =
    false_from_ne_true (bytes_eq (name_at m p) n)
    (λ e. cc (sym differ ∙ ap (λ (x : List ℕ). bytes_eq (take 5 w) x) (name_front m p w n fits eight is long (same_name (name_at m p) n e)) ∙ name_is_itself (take 5 w)))

pub neither : (x b : Bool) → b ≡ false → false ≡ x && b
neither true b h = sym h
neither false b h = refl
