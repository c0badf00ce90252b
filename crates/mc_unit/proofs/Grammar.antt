-- Every unit that is read is in the grammar, and every unit in the grammar is read.
use Rattle.std.proofs.Common.{◌≡◌, ℕ, zero, suc, ◌+◌, ◌*◌, ◌/◌, ◌%◌, ◌<◌, ◌≤◌, Bool, true, false, cond, List, [], ◌∷◌, ◌++◌, length, get_or, take, drop, Result, Ok, Err, refl, sym, ap, subst, ◌∙◌, append_assoc, arith}
use Rattle.std.specs.Prelude.{nat_lt, nat_eq}
use Rattle.std.proofs.lemmas.Bool.{eqb-true, ltb-false, le-ltb, ne_eqb}
use Rattle.std.proofs.lemmas.List.{take_at, drop_at, take-append-drop, length-append, length-take, get_or-drop, append-nil}
use Rattle.model_card.specs.model_device.specs.Bytes.{bytes2, zeros}
use Rattle.model_card.specs.declared.unit.UnitRefusal.{UnitRefusal}
use Rattle.model_card.specs.declared.unit.UnitRefusal.TheVariants as refusals
use Rattle.model_card.specs.declared.unit.AidFault.{AidFault}
use Rattle.model_card.specs.Units.{◌>>=◌, bytes_at, length_at, field_at, code_at, empty_at, end_at, refused_name, name_of, unit_read, field, unit_text, unit_bytes, UnitParts, FitsUnit, IsUnit}

-- every element is a byte
abbrev pub IsBytes : List ℕ → Type 0
IsBytes b = (i : ℕ) → get_or b i 0 < 256

is_bytes_drop : (n : ℕ) (b : List ℕ) → IsBytes b → IsBytes (drop n b)
is_bytes_drop n b h i = rw get_or-drop (h (n + i))

-- a step that succeeded before a sequence that succeeded
bind_ok : {A B : Type 0} (r : Result A UnitRefusal) (f : A → Result B UnitRefusal) (y : B) → (r >>= f) ≡ Ok y → (x : A) × (r ≡ Ok x) × (f x ≡ Ok y)
bind_ok (Ok x) f y e = (x, refl, e)
bind_ok (Err d) f y e = absurd cc

-- a test that had to be false for a sequence that succeeded
guard_ok : {A : Type 0} (b : Bool) (d : UnitRefusal) (r : Result A UnitRefusal) (y : A) → cond b (Err d) r ≡ Ok y → (b ≡ false) × (r ≡ Ok y)
guard_ok true d r y e = absurd cc
guard_ok false d r y e = (refl, e)

-- a test that had to hold for a sequence that succeeded
test_ok : {A : Type 0} (b : Bool) (d : UnitRefusal) (r : Result A UnitRefusal) (y : A) → cond b r (Err d) ≡ Ok y → (b ≡ true) × (r ≡ Ok y)
test_ok true d r y e = (refl, e)
test_ok false d r y e = absurd cc

abbrev done : {A : Type 0} → A → Result A UnitRefusal
done x = Ok x

ok_is : {A : Type 0} (x y : A) → done x ≡ done y → x ≡ y
ok_is x y e = cc

-- a reader took `text` from the front of `bytes` and left `rest`
record Takes (bytes text rest : List ℕ) : Type 0 where
  parts : bytes ≡ text ++ rest
  rest_fits : IsBytes rest

takes_then : (a x b y c : List ℕ) → Takes a x b → Takes b y c → Takes a (x ++ y) c
takes_then a x b y c p q = record { parts = p.parts ∙ ap (λ (t : List ℕ). x ++ t) q.parts ∙ sym (append_assoc x y c); rest_fits = q.rest_fits }

-- ---- bytes, lengths and fields

bytes_take : (n : ℕ) (b x rest : List ℕ) → IsBytes b → bytes_at n b ≡ Ok (x, rest) → Takes b x rest × (length x ≡ n)
bytes_take n b x rest fits e =
    let g = guard_ok (nat_lt (length b) n) refusals.Short (Ok (take n b, drop n b)) (x, rest) e in
    let long : n ≤ length b = ltb-false _ _ g.0 in
    let same = ok_is (take n b, drop n b) (x, rest) g.1 in
    let taken : Takes b (take n b) (drop n b) × (length (take n b) ≡ n) = (record { parts = sym (take-append-drop n b); rest_fits = is_bytes_drop n b fits }, omega (arith, length-take n b)) in
    subst (λ (p : List ℕ × List ℕ). Takes b p.0 p.1 × (length p.0 ≡ n)) same taken

bytes_again : (n : ℕ) (x rest : List ℕ) → length x ≡ n → bytes_at n (x ++ rest) ≡ Ok (x, rest)
bytes_again n x rest len =
    let long : nat_lt (length (x ++ rest)) n ≡ false = le-ltb _ _ (omega (arith, length-append x rest)) in
    rw (long, take_at x rest n len, drop_at x rest n len) refl

length_take : (b : List ℕ) (n : ℕ) (rest : List ℕ) → IsBytes b → length_at b ≡ Ok (n, rest) → Takes b (bytes2 n) rest × (n < 65536)
length_take [] n rest fits e = absurd cc
length_take (x ∷ []) n rest fits e = absurd cc
length_take (x ∷ y ∷ ys) n rest fits e =
    let high : x < 256 = fits 0 in
    let low : y < 256 = fits 1 in
    let g = guard_ok (nat_lt (length (x ∷ y ∷ ys)) 2) refusals.Short (Ok (256 * x + y, ys)) (n, rest) e in
    let same = ok_is (256 * x + y, ys) (n, rest) g.1 in
    let first : (256 * x + y) / 256 % 256 ≡ x = omega arith in
    let second : (256 * x + y) % 256 ≡ y = omega arith in
    let two : bytes2 (256 * x + y) ≡ x ∷ y ∷ [] = rw (first, second) refl in
    let taken : Takes (x ∷ y ∷ ys) (bytes2 (256 * x + y)) ys × (256 * x + y < 65536) = (record { parts = ap (λ (t : List ℕ). t ++ ys) (sym two); rest_fits = λ i. fits (suc (suc i)) }, omega arith) in
    subst (λ (p : ℕ × List ℕ). Takes (x ∷ y ∷ ys) (bytes2 p.0) p.1 × (p.0 < 65536)) same taken

length_again : (n : ℕ) (rest : List ℕ) → n < 65536 → length_at (bytes2 n ++ rest) ≡ Ok (n, rest)
length_again n rest lt =
    let long : nat_lt (length (bytes2 n ++ rest)) 2 ≡ false = le-ltb _ _ (omega arith) in
    let number : 256 * (n / 256 % 256) + n % 256 ≡ n = omega arith in
    rw (long, number) refl

field_take : (most : ℕ) (b x rest : List ℕ) → IsBytes b → field_at most b ≡ Ok (x, rest) → Takes b (field x) rest × (length x ≤ most)
unfolding field_at
field_take most b x rest fits e =
    let n = bind_ok (length_at b) (λ n. cond (nat_lt most n.0) (Err refusals.TooLarge) (bytes_at n.0 n.1)) (x, rest) e in
    let g = guard_ok (nat_lt most n.0.0) refusals.TooLarge (bytes_at n.0.0 n.0.1) (x, rest) n.2 in
    let small : n.0.0 ≤ most = ltb-false _ _ g.0 in
    let first = length_take b n.0.0 n.0.1 fits n.1 in
    let second = bytes_take n.0.0 n.0.1 x rest first.0.rest_fits g.1 in
    let both = takes_then b (bytes2 n.0.0) n.0.1 x rest first.0 second.0 in
    (subst (λ (k : ℕ). Takes b (bytes2 k ++ x) rest) (sym second.1) both, omega (arith, second.1))

field_again : (most : ℕ) (x rest : List ℕ) → length x ≤ most → most < 65536 → field_at most (field x ++ rest) ≡ Ok (x, rest)
unfolding field_at
field_again most x rest le lt =
    let small : nat_lt most (length x) ≡ false = le-ltb _ _ le in
    rw (length_again (length x) (x ++ rest) (omega arith), small, bytes_again (length x) x rest refl) refl

code_take : (b x rest : List ℕ) → IsBytes b → code_at b ≡ Ok (x, rest) → Takes b (field x) rest × (0 < length x) × (length x ≤ 8192)
unfolding code_at
code_take b x rest fits e =
    let n = bind_ok (length_at b) (λ n. cond (nat_eq n.0 0) (Err refusals.NoCode) (cond (nat_lt 8192 n.0) (Err refusals.TooLarge) (bytes_at n.0 n.1))) (x, rest) e in
    let some = guard_ok (nat_eq n.0.0 0) refusals.NoCode (cond (nat_lt 8192 n.0.0) (Err refusals.TooLarge) (bytes_at n.0.0 n.0.1)) (x, rest) n.2 in
    let g = guard_ok (nat_lt 8192 n.0.0) refusals.TooLarge (bytes_at n.0.0 n.0.1) (x, rest) some.1 in
    let small : n.0.0 ≤ 8192 = ltb-false _ _ g.0 in
    let first = length_take b n.0.0 n.0.1 fits n.1 in
    let second = bytes_take n.0.0 n.0.1 x rest first.0.rest_fits g.1 in
    let both = takes_then b (bytes2 n.0.0) n.0.1 x rest first.0 second.0 in
    (subst (λ (k : ℕ). Takes b (bytes2 k ++ x) rest) (sym second.1) both, some_code n.0.0 (length x) second.1 some.0, omega (arith, second.1))
  where
    some_code : (n k : ℕ) → k ≡ n → nat_eq n 0 ≡ false → 0 < k
    some_code zero k e h = absurd cc
    some_code (suc n) k e h = omega arith

code_again : (x rest : List ℕ) → 0 < length x → length x ≤ 8192 → code_at (field x ++ rest) ≡ Ok (x, rest)
unfolding code_at
code_again x rest some le =
    let full : nat_eq (length x) 0 ≡ false = ne_eqb _ _ (omega arith) in
    let small : nat_lt 8192 (length x) ≡ false = le-ltb _ _ le in
    rw (length_again (length x) (x ++ rest) (omega arith), full, small, bytes_again (length x) x rest refl) refl

empty_take : (d : UnitRefusal) (b rest : List ℕ) → IsBytes b → empty_at d b ≡ Ok rest → Takes b (zeros 2) rest
unfolding empty_at
empty_take d b rest fits e =
    let n = bind_ok (length_at b) (λ n. cond (nat_eq n.0 0) (Ok n.1) (Err d)) rest e in
    let t = test_ok (nat_eq n.0.0 0) d (Ok n.0.1) rest n.2 in
    let none : n.0.0 ≡ 0 = eqb-true _ _ t.0 in
    let first = length_take b n.0.0 n.0.1 fits n.1 in
    let zero_first : Takes b (bytes2 0) n.0.1 = subst (λ (k : ℕ). Takes b (bytes2 k) n.0.1) none first.0 in
    subst (λ (r : List ℕ). Takes b (zeros 2) r) (ok_is n.0.1 rest t.1) zero_first

empty_again : (d : UnitRefusal) (rest : List ℕ) → empty_at d (zeros 2 ++ rest) ≡ Ok rest
unfolding empty_at
empty_again d rest = rw (length_again 0 rest (omega arith)) refl

end_take : (b : List ℕ) (u : Unit {0}) → end_at b ≡ Ok u → b ≡ []
end_take [] u e = refl
end_take (x ∷ xs) u e = absurd cc

name_take : (r : Result (List ℕ) AidFault) (n : List ℕ) → refused_name r ≡ Ok n → r ≡ Ok n
name_take (Ok v) n e = cc
name_take (Err f) n e = absurd cc

-- ---- whole units: what is read after each field

abbrev Field : Type 0
Field = List ℕ × List ℕ

abbrev made : Field → Field → Field → Field → Field → List ℕ → UnitParts
made number code init dir fci aid = record { number = number.0; code = code.0; init = init.0; dir = dir.0; fci = fci.0; aid = aid }

abbrev after_end : Field → Field → Field → Field → Field → Unit {0} → Result UnitParts UnitRefusal
after_end number code init dir fci last = refused_name (name_of dir.0) >>= λ aid. Ok (made number code init dir fci aid)

abbrev after_key : Field → Field → Field → Field → Field → List ℕ → Result UnitParts UnitRefusal
after_key number code init dir fci key = end_at key >>= after_end number code init dir fci

abbrev after_signature : Field → Field → Field → Field → Field → List ℕ → Result UnitParts UnitRefusal
after_signature number code init dir fci signature = empty_at refusals.Enciphered signature >>= after_key number code init dir fci

abbrev after_fci : Field → Field → Field → Field → Field → Result UnitParts UnitRefusal
after_fci number code init dir fci = empty_at refusals.Signed fci.1 >>= after_signature number code init dir fci

abbrev after_dir : Field → Field → Field → Field → Result UnitParts UnitRefusal
after_dir number code init dir = field_at 128 dir.1 >>= after_fci number code init dir

abbrev after_init : Field → Field → Field → Result UnitParts UnitRefusal
after_init number code init = field_at 128 init.1 >>= after_dir number code init

abbrev after_code : Field → Field → Result UnitParts UnitRefusal
after_code number code = field_at 4096 code.1 >>= after_init number code

abbrev after_number : Field → Result UnitParts UnitRefusal
after_number number = code_at number.1 >>= after_code number

read_steps : (b : List ℕ) → unit_read b ≡ (bytes_at 8 b >>= after_number)
unfolding unit_read code_at field_at empty_at name_of
read_steps b = refl

-- a unit that is read is in the grammar
pub unit_takes : (b : List ℕ) (u : UnitParts) → IsBytes b → unit_read b ≡ Ok u → IsUnit b u
unit_takes b u fits e =
    let number = bind_ok (bytes_at 8 b) after_number u (sym (read_steps b) ∙ e) in
    let code = bind_ok (code_at number.0.1) (after_code number.0) u number.2 in
    let init = bind_ok (field_at 4096 code.0.1) (after_init number.0 code.0) u code.2 in
    let dir = bind_ok (field_at 128 init.0.1) (after_dir number.0 code.0 init.0) u init.2 in
    let fci = bind_ok (field_at 128 dir.0.1) (after_fci number.0 code.0 init.0 dir.0) u dir.2 in
    let signature = bind_ok (empty_at refusals.Signed fci.0.1) (after_signature number.0 code.0 init.0 dir.0 fci.0) u fci.2 in
    let key = bind_ok (empty_at refusals.Enciphered signature.0) (after_key number.0 code.0 init.0 dir.0 fci.0) u signature.2 in
    let last = bind_ok (end_at key.0) (after_end number.0 code.0 init.0 dir.0 fci.0) u key.2 in
    let aid = bind_ok (refused_name (name_of dir.0.0)) (λ aid. Ok (made number.0 code.0 init.0 dir.0 fci.0 aid)) u last.2 in
    let t0 = bytes_take 8 b number.0.0 number.0.1 fits number.1 in
    let t1 = code_take number.0.1 code.0.0 code.0.1 t0.0.rest_fits code.1 in
    let t2 = field_take 4096 code.0.1 init.0.0 init.0.1 t1.0.rest_fits init.1 in
    let t3 = field_take 128 init.0.1 dir.0.0 dir.0.1 t2.0.rest_fits dir.1 in
    let t4 = field_take 128 dir.0.1 fci.0.0 fci.0.1 t3.0.rest_fits fci.1 in
    let t5 = empty_take refusals.Signed fci.0.1 signature.0 t4.0.rest_fits signature.1 in
    let t6 = empty_take refusals.Enciphered signature.0 key.0 t5.rest_fits key.1 in
    let none : key.0 ≡ [] = end_take key.0 last.0 last.1 in
    let f1 = number.0.0 ++ field code.0.0 in
    let f2 = f1 ++ field init.0.0 in
    let f3 = f2 ++ field dir.0.0 in
    let f4 = f3 ++ field fci.0.0 in
    let to1 = takes_then b number.0.0 number.0.1 (field code.0.0) code.0.1 t0.0 t1.0 in
    let to2 = takes_then b f1 code.0.1 (field init.0.0) init.0.1 to1 t2.0 in
    let to3 = takes_then b f2 init.0.1 (field dir.0.0) dir.0.1 to2 t3.0 in
    let to4 = takes_then b f3 dir.0.1 (field fci.0.0) fci.0.1 to3 t4.0 in
    let tail = takes_then fci.0.1 (zeros 2) signature.0 (zeros 2) key.0 t5 t6 in
    let all = takes_then b f4 fci.0.1 (zeros 4) key.0 to4 tail in
    let whole : b ≡ f4 ++ zeros 4 = all.parts ∙ ap (λ (r : List ℕ). f4 ++ zeros 4 ++ r) none ∙ append-nil (f4 ++ zeros 4) in
    let is : IsUnit b (made number.0 code.0 init.0 dir.0 fci.0 aid.0) = record {
      number = t0.1;
      limits = record { some_code = t1.1; code_len = t1.2; init_len = t2.1; dir_len = t3.1; fci_len = t4.1 };
      bytes = whole;
      name = name_take (name_of dir.0.0) aid.0 aid.1;
    } in
    subst (IsUnit b) (ok_is (made number.0 code.0 init.0 dir.0 fci.0 aid.0) u aid.2) is

-- the fields of a unit, one after another
regrouped : (number code init dir fci : List ℕ) → unit_text number code init dir fci ≡ number ++ (field code ++ (field init ++ (field dir ++ (field fci ++ (zeros 2 ++ (zeros 2 ++ []))))))
regrouped number code init dir fci = simp append_assoc

-- a unit in the grammar is read, with its fields
pub unit_again : (b : List ℕ) (u : UnitParts) → IsUnit b u → unit_read b ≡ Ok u
unit_again b u is =
    let r6 = zeros 2 ++ [] in
    let r5 = zeros 2 ++ r6 in
    let r4 = field u.fci ++ r5 in
    let r3 = field u.dir ++ r4 in
    let r2 = field u.init ++ r3 in
    let r1 = field u.code ++ r2 in
    let limits = is.limits in
    ap unit_read (is.bytes ∙ regrouped u.number u.code u.init u.dir u.fci) ∙ read_steps (u.number ++ r1) ∙ rw (
      bytes_again 8 u.number r1 is.number,
      code_again u.code r2 limits.some_code limits.code_len,
      field_again 4096 u.init r3 limits.init_len (omega arith),
      field_again 128 u.dir r4 limits.dir_len (omega arith),
      field_again 128 u.fci r5 limits.fci_len (omega arith),
      empty_again refusals.Signed r6,
      empty_again refusals.Enciphered [],
      is.name,
    ) refl

pub unit_is : (b : List ℕ) (u : UnitParts) → IsBytes b → (unit_read b ≡ Ok u → IsUnit b u) × (IsUnit b u → unit_read b ≡ Ok u)
unit_is b u fits = (unit_takes b u fits, unit_again b u)

-- the unit that is written from four fields is read with these fields
pub written_again : (code init dir fci v : List ℕ) → FitsUnit code init dir fci → v ≡ unit_bytes code init dir fci → (aid : List ℕ) → name_of dir ≡ Ok aid
    → unit_read v ≡ Ok (record { number = zeros 8; code = code; init = init; dir = dir; fci = fci; aid = aid })
written_again code init dir fci v fits is aid name =
    unit_again v (record { number = zeros 8; code = code; init = init; dir = dir; fci = fci; aid = aid }) (record { number = refl; limits = fits; bytes = is; name = name })
