-- Listings assemble to the listed code.
use Rattle.std.proofs.Common.{◌≡◌, ℕ, zero, suc, ◌+◌, ◌-◌, ◌<◌, ◌≤◌, true, false, List, [], ◌∷◌, ◌++◌, length, drop, Some, None, Result, Ok, Err, arith, refl, sym, ap, subst, length-drop, append_assoc, ◌∙◌}
use Rattle.std.specs.Prelude.{◌==◌, not, nat_le, codes, slice_index, IfOk}
use Rattle.std.specs.List.{AllByRecursion}
use Rattle.std.proofs.lemmas.List.{take-append-drop}
use Rattle.model_text.specs.Text.{◌>>=◌, ok_as, every, lines, with_numbers}
use Rattle.model_text.specs.model_machine.specs.declared.instruction.DecodeFault.{DecodeFault}
use Rattle.model_text.specs.model_machine.specs.declared.instruction.Ins.{Ins}
use Rattle.model_text.specs.model_machine.specs.Code.{Shaped, DecodesTo, spell, front, from_place}
use Rattle.model_text.specs.Listing.{text_of, line_before, listing_with, length_of, listing_from, listing_of_code}
use Rattle.model_text.specs.Assembly.{assembly_of, line_laid}
use Rattle.model_text.specs.model_device.specs.Bytes.{AreBytes}
use Rattle.mc_isa.specs.law_rows.proofs.PlaceLemmas.{decoded_stands}
use Rattle.mc_text.specs.Reading.{next_line, without_return}
use Rattle.mc_asm.specs.Passes.{places, code_of_lines, label_and_end, code_and_end}
use Rattle.mc_asm.proofs.PassLemmas.{two_passes, numbered_some, places_more, places_end, coded_more, coded_end}
use Rattle.mc_asm.proofs.ListingLemmas.{whole_listed, no_bytes, front_some}
use Rattle.mc_asm.proofs.CleanLemmas.{written, every_as, cut_there}
use Rattle.mc_asm.proofs.InstructionLemmas.{ReadsAs, instruction_read}
use Rattle.model_text.specs.model_device.proofs.BoolLemmas.{and_first, and_second}

-- ---- the first line of a listing

no_feed : (c : ℕ) → written c ≡ true → not (c == 10) ≡ true
no_feed c h = grind (arith, h)

no_return : (c : ℕ) → written c ≡ true → (c == 13) ≡ false
no_return c h = grind (arith, h)

one_less : (n : ℕ) → suc n - 1 ≡ n
one_less n = omega arith

last_written : (l : List ℕ) → every written l ≡ true → (slice_index l (length l - 1) == 13) ≡ false
last_written [] e = refl
last_written (c ∷ []) e = no_return c (and_first (written c) true e)
last_written (c ∷ d ∷ l) e =
    let h = last_written (d ∷ l) (and_second (written c) (every written (d ∷ l)) e) in
    let k : (slice_index (d ∷ l) (length l) == 13) ≡ false = subst (λ (n : ℕ). (slice_index (d ∷ l) n == 13) ≡ false) (one_less (length l)) h in
    rw (one_less (suc (length l))) k

line_kept : (l : List ℕ) → every written l ≡ true → without_return l ≡ l
line_kept l e = rw (last_written l e) refl

first_line : (l rest : List ℕ) → every written l ≡ true → Some (l, rest) ≡ next_line (l ++ codes "\n" ++ rest)
first_line l rest e =
    let cut = cut_there (λ c. c == 10) l 10 rest (every_as written (λ c. not (c == 10)) l no_feed e) refl in
    rw (append_assoc l (codes "\n") rest, cut, line_kept l e) refl

-- ---- a line of a listing, assembled

-- the line t adds the bytes of the instruction i to the code
record AddsCode (place : ℕ) (t : List ℕ) (i : Ins) : Type 0 where
  label : label_and_end [] place t ≡ Ok (None, place + length (spell i))
  code : code_and_end [] place t ≡ Ok (spell i, place + length (spell i))

within_limit : (n : ℕ) → n ≤ 8192 → nat_le n 8192 ≡ true
within_limit n h = grind (arith, h)

adds : (place : ℕ) (t : List ℕ) (i : Ins) → ReadsAs t i → place + length (spell i) ≤ 8192 → AddsCode place t i
unfolding line_laid
adds place t i r h =
    let short : nat_le (place + length (spell i)) 8192 ≡ true = within_limit (place + length (spell i)) h in
    record { label = rw (r.read, short) refl; code = rw (r.read, short) refl }

-- the text t from a place on assembles to these bytes, without labels
record Assembles (place n : ℕ) (t bytes : List ℕ) : Type 0 where
  labels : places [] place (with_numbers n (lines t)) ≡ Ok []
  code : code_of_lines [] place (with_numbers n (lines t)) ≡ Ok bytes

assembles_none : (place n : ℕ) → Assembles place n [] []
assembles_none place n = record { labels = places_end [] place; code = coded_end [] place }

assembles_more : (place n : ℕ) (i : Ins) (rest code : List ℕ) → ReadsAs (text_of i) i → place + length (spell i) ≤ 8192 → Assembles (place + length (spell i)) (n + 1) rest code
    → Assembles place n (text_of i ++ codes "\n" ++ rest) (spell i ++ code)
assembles_more place n i rest code r h a =
    let ls = numbered_some n (text_of i ++ codes "\n" ++ rest) (text_of i) rest (first_line (text_of i) rest r.all) in
    let d = adds place (text_of i) i r h in
    record {
      labels = ap (places [] place) ls ∙ places_more [] place n (place + length (spell i)) (text_of i) (with_numbers (n + 1) (lines rest)) None (sym d.label) ∙ a.labels;
      code = ap (code_of_lines [] place) ls ∙ coded_more [] place n (place + length (spell i)) (text_of i) (spell i) (with_numbers (n + 1) (lines rest)) (sym d.code) ∙ ap (ok_as (λ rest. spell i ++ rest)) a.code;
    }

-- ---- a whole listing

bytes_behind : (n : ℕ) (l : List ℕ) → AreBytes l → AreBytes (drop n l)
bytes_behind zero l all = all
bytes_behind (suc n) [] all = tt
bytes_behind (suc n) (b ∷ l) all = bytes_behind n l all.1

-- the first n bytes are the spelling of an instruction
record Front (l : List ℕ) (i : Ins) (n : ℕ) : Type 0 where
  shaped : Shaped i
  size : n ≡ length (spell i)
  inside : n ≤ length l
  whole : spell i ++ drop n l ≡ l

front_is : (l : List ℕ) (i : Ins) (n : ℕ) → AreBytes l → front l ≡ Ok (i, n) → Front l i n
front_is l i n all e =
    let d : DecodesTo l 0 (Ok (i, 0 + n)) = subst (λ (r : Result (Ins × ℕ) DecodeFault). DecodesTo l 0 (from_place 0 r)) e (decoded_stands l 0 all) in
    let size : n ≡ length (spell i) = omega (arith, d.place) in
    record {
      shaped = d.shaped;
      size = size;
      inside = omega (arith, d.inside);
      whole = ap (λ k. spell i ++ drop k l) size ∙ ap (λ s. s ++ drop (length (spell i)) l) (sym d.bytes) ∙ take-append-drop (length (spell i)) l;
    }

rest_assembled : (fuel at n : ℕ) (l : List ℕ) (i : Ins) (k : ℕ) (text : List ℕ) (s : Result (List ℕ) (ℕ × DecodeFault)) → AreBytes l → at + length l ≤ 8192 → Front l i k
    → line_before (text_of i) s ≡ Ok text → ((rest : List ℕ) → s ≡ Ok rest → Assembles (at + k) (n + 1) rest (drop k l)) → Assembles at n text l
rest_assembled fuel at n l i k text (Err e) all h f q go = absurd (cc q)
rest_assembled fuel at n l i k text (Ok rest) all h f q go =
    let is : text_of i ++ codes "\n" ++ rest ≡ text = cc q in
    let low : at + length (spell i) ≤ 8192 = omega (arith, h, f.size, f.inside) in
    let behind = subst (λ (m : ℕ). Assembles (at + m) (n + 1) rest (drop k l)) f.size (go rest refl) in
    let made = assembles_more at n i rest (drop k l) (instruction_read i f.shaped) low behind in
    subst (λ (t : List ℕ). Assembles at n t l) is (subst (λ (c : List ℕ). Assembles at n (text_of i ++ codes "\n" ++ rest) c) f.whole made)

one_assembled : (fuel at n : ℕ) (b : ℕ) (bs text : List ℕ) (r : Result (Ins × ℕ) DecodeFault) → front (b ∷ bs) ≡ r → AreBytes (b ∷ bs) → at + length (b ∷ bs) ≤ 8192 → length (b ∷ bs) ≤ suc fuel
    → listing_from (suc fuel) (b ∷ bs) at ≡ Ok text
    → ((l : List ℕ) (at n : ℕ) (text : List ℕ) → AreBytes l → length l ≤ fuel → at + length l ≤ 8192 → listing_from fuel l at ≡ Ok text → Assembles at n text l)
    → Assembles at n text (b ∷ bs)
unfolding listing_from
one_assembled fuel at n b bs text (Err e) q all h m k go =
    let f : Err (at, e) ≡ Ok text = sym (ap (λ r. listing_with at r (listing_from fuel (drop (length_of r) (b ∷ bs)) (at + length_of r))) q) ∙ k in
    absurd (cc f)
one_assembled fuel at n b bs text (Ok p) q all h m k go =
    let f : line_before (text_of p.0) (listing_from fuel (drop p.1 (b ∷ bs)) (at + p.1)) ≡ Ok text = sym (ap (λ r. listing_with at r (listing_from fuel (drop (length_of r) (b ∷ bs)) (at + length_of r))) q) ∙ k in
    let fr = front_is (b ∷ bs) p.0 p.1 all q in
    let some = front_some b bs p q in
    let d = length-drop p.1 (b ∷ bs) in
    rest_assembled fuel at n (b ∷ bs) p.0 p.1 text (listing_from fuel (drop p.1 (b ∷ bs)) (at + p.1)) all h fr f
    (λ rest e. go (drop p.1 (b ∷ bs)) (at + p.1) (n + 1) rest (bytes_behind p.1 (b ∷ bs) all) (omega (arith, d, some, m)) (omega (arith, d, h, fr.inside)) e)

bytes_assembled : (fuel : ℕ) (l : List ℕ) (at n : ℕ) (text : List ℕ) → AreBytes l → length l ≤ fuel → at + length l ≤ 8192 → listing_from fuel l at ≡ Ok text → Assembles at n text l
bytes_assembled fuel [] at n text all m h e =
    let is : [] ≡ text = cc (sym (no_bytes fuel at) ∙ e) in
    subst (λ (t : List ℕ). Assembles at n t []) is (assembles_none at n)
bytes_assembled zero (b ∷ bs) at n text all m h e = absurd (omega (arith, m))
bytes_assembled (suc fuel) (b ∷ bs) at n text all m h e = one_assembled fuel at n b bs text (front (b ∷ bs)) refl all h m e (λ l at n text. bytes_assembled fuel l at n text)

pub listing_assembled : (code text : List ℕ) → AllByRecursion (λ b. b < 256) code → length code ≤ 8192 → listing_of_code code ≡ Ok text → assembly_of text ≡ Ok code
unfolding assembly_of
listing_assembled code text all small e =
    let a = bytes_assembled (length code) code 0 1 text all (omega arith) (omega (arith, small)) (sym (whole_listed code) ∙ e) in
    two_passes (with_numbers 1 (lines text)) ∙ ap (λ r. r >>= λ L. code_of_lines L 0 (with_numbers 1 (lines text))) a.labels ∙ a.code

pub listing_again : {V E : Type 0} (items : V → List ℕ) (code : List ℕ) (r : Result V E) → AllByRecursion (λ b. b < 256) code → length code ≤ 8192 → IfOk r (λ v. listing_of_code code ≡ Ok (items v)) → IfOk r (λ v. assembly_of (items v) ≡ Ok code)
listing_again items code (Ok v) all small h = listing_assembled code (items v) all small h
listing_again items code (Err e) all small h = tt
