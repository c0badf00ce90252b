-- Each row of the table spells the instructions that it makes.
use Rattle.std.proofs.Common.{◌≡◌, ℕ, zero, suc, ◌+◌, ◌*◌, ◌/◌, ◌%◌, ◌<◌, Bool, true, false, cond, List, [], ◌∷◌, ◌++◌, length, take, Option, Some, None, arith, rules, refl, sym, ap, subst, ◌∙◌}
use Rattle.std.specs.Prelude.{nat_le, nat_eq, option_and_then, ℤ, FitsSigned, ⊤}
use Rattle.std.specs.List.{AllByRecursion}
use Rattle.std.specs.Int.{w8, cast_signed, cast_unsigned}
use Rattle.std.proofs.lemmas.Int.{ints}
use Rattle.model_machine.specs.model_device.specs.Bytes.{bytes2, AreBytes}
use Rattle.model_machine.specs.Code.{Form, Plain, OneByte, TwoBytes, Word, TwoWords, Near, Target, Primitive, Offset, ByteOffset, WordOffset, instruction_of_form, operands, total, behind, U16, I16, row_at, rows, form, register_rows, stack_rows, call_rows, Shaped, IsTarget, IsAddress, spell, offset, target, offset_in, target_in}
use Rattle.model_machine.specs.declared.instruction.Ins.TheVariants.{Branch, Prim}
use Rattle.law_rows.proofs.ReadingLemmas.{bytes2_of, unsigned8, unsigned16, fits8, fits16}

-- ---- each row spells what it makes

-- for all operands in their ranges, the row's instruction is shaped and is spelled as its byte and these operands
abbrev pub Good : ℕ → Form → Type 0
Good b (Plain i) = Shaped i × (spell i ≡ b ∷ [])
Good b (OneByte f) = (v : ℕ) → v < 256 → Shaped (f v) × (spell (f v) ≡ b ∷ v ∷ [])
Good b (TwoBytes f) = (v w : ℕ) → v < 256 → w < 256 → Shaped (f v w) × (spell (f v w) ≡ b ∷ v ∷ w ∷ [])
Good b (Word f) = (v : ℕ) → v < 65536 → Shaped (f v) × (spell (f v) ≡ b ∷ bytes2 v)
Good b (TwoWords f) = (v w : ℕ) → v < 65536 → w < 65536 → Shaped (f v w) × (spell (f v w) ≡ b ∷ (bytes2 v ++ bytes2 w))
Good b (Near f) = (d : ℤ) → FitsSigned w8 d → Shaped (f d) × (spell (f d) ≡ b ∷ cast_unsigned w8 d ∷ [])
Good b (Target c f) = (c < 8) × ((to : ℕ) → IsTarget c to → Shaped (f to) × (spell (f to) ≡ b ∷ target c to))
Good b (Primitive set) = (set < 4) × (b ≡ 40 + set)
Good b (Offset tag f) = (tag < 8) × ((off : ℤ) → IsAddress tag off → Shaped (f off) × (spell (f off) ≡ b ∷ offset tag off))
Good b (ByteOffset tag f) = (tag < 8) × ((off : ℤ) (v : ℕ) → IsAddress tag off → v < 256 → Shaped (f off v) × (spell (f off v) ≡ b ∷ v ∷ offset tag off))
Good b (WordOffset tag f) = (tag < 8) × ((off : ℤ) (v : ℕ) → IsAddress tag off → v < 65536 → Shaped (f off v) × (spell (f off v) ≡ b ∷ (bytes2 v ++ offset tag off)))

abbrev pub GoodRow : ℕ → Option Form → Type 0
GoodRow b None = ⊤
GoodRow b (Some f) = Good b f

good_cond : (op tag k : ℕ) (f : Form) (o : Option Form) → Good (op * 8 + k) f → GoodRow (op * 8 + tag) o → (b : Bool) → nat_eq tag k ≡ b → GoodRow (op * 8 + tag) (cond b (Some f) o)
good_cond op tag k f o g h true e = let q : k ≡ tag = grind (arith, e) in subst (λ t. Good (op * 8 + t) f) q g
good_cond op tag k f o g h false e = h

-- the rows by tag of one op
good_tags : (op tag : ℕ) (rs : List (ℕ × Form)) → AllByRecursion {X = ℕ × Form} (λ r. Good (op * 8 + r.0) r.1) rs → GoodRow (op * 8 + tag) (row_at tag rs)
good_tags op tag [] g = tt
good_tags op tag (r ∷ rs) g = good_cond op tag r.0 r.1 (row_at tag rs) g.0 (good_tags op tag rs g.1) (nat_eq tag r.0) refl

good_register : (tag : ℕ) → tag < 8 → GoodRow (0 * 8 + tag) (row_at tag register_rows)
good_register tag h = good_tags 0 tag register_rows ((tt, refl), ((λ v h. (h, refl)), ((λ v h. (h, refl)), ((λ v w h k. ((h, k), refl)), ((tt, refl), ((λ v h. (h, refl)), ((λ v h. (h, refl)), ((λ v w h k. ((h, k), refl)), tt))))))))

good_stack : (tag : ℕ) → tag < 8 → GoodRow (4 * 8 + tag) (row_at tag stack_rows)
good_stack tag h = good_tags 4 tag stack_rows ((λ v h. (h, refl)), ((λ v h. (h, refl)), ((λ v h. (h, refl)), ((λ v h. (h, refl)), ((tt, refl), ((tt, refl), tt))))))

good_call : (tag : ℕ) → tag < 8 → GoodRow (5 * 8 + tag) (row_at tag call_rows)
good_call tag h = good_tags 5 tag call_rows ((omega arith, refl), ((omega arith, refl), ((omega arith, refl), ((omega arith, refl), ((tt, refl), ((λ v h. (h, refl)), ((λ v h. (h, refl)), ((λ v w h k. ((h, k), refl)), tt))))))))

good_near : (c : ℕ) → c < 8 → (b : Bool) → nat_eq c 0 ≡ b → GoodRow (1 * 8 + c) (cond b None (Some (Near (λ d. Branch c d))))
good_near c h true e = tt
good_near c h false e = λ d f. ((grind (arith, e), h, f), refl)

-- a row of an op is good for each tag
abbrev pub GoodOp : ℕ × (ℕ → Option Form) → Type 0
GoodOp r = (tag : ℕ) → tag < 8 → GoodRow (r.0 * 8 + tag) (r.1 tag)

good_op : (op tag k : ℕ) (f : ℕ → Option Form) (o : Option (ℕ → Option Form)) → tag < 8 → GoodOp (k, f) → GoodRow (op * 8 + tag) (option_and_then (λ by_tag. by_tag tag) o) → (b : Bool) → nat_eq op k ≡ b → GoodRow (op * 8 + tag) (option_and_then (λ by_tag. by_tag tag) (cond b (Some f) o))
good_op op tag k f o h g other true e = let q : k ≡ op = grind (arith, e) in subst (λ t. GoodRow (t * 8 + tag) (f tag)) q (g tag h)
good_op op tag k f o h g other false e = other

good_ops : (op tag : ℕ) → tag < 8 → (rs : List (ℕ × (ℕ → Option Form))) → AllByRecursion {X = ℕ × (ℕ → Option Form)} GoodOp rs → GoodRow (op * 8 + tag) (option_and_then (λ by_tag. by_tag tag) (row_at op rs))
good_ops op tag h [] g = tt
good_ops op tag h (r ∷ rs) g = good_op op tag r.0 r.1 (row_at op rs) h g.0 (good_ops op tag h rs g.1) (nat_eq op r.0) refl

good_rows : AllByRecursion {X = ℕ × (ℕ → Option Form)} GoodOp rows
good_rows = (
  good_register,
  (
    (λ c h. good_near c h (nat_eq c 0) refl),
    (
      (λ c h. (h, λ to t. (t, refl))),
      (
        (λ c h. (h, λ to t. (t, refl))),
        (
          good_stack,
          (
            good_call,
            (
              (λ t h. (h, λ off v a k. ((a, k), refl))),
              (
                (λ t h. (h, λ off v a k. ((a, k), refl))),
                (
                  (λ t h. (h, λ off v a k. ((a, k), refl))),
                  (
                    (λ t h. (h, λ off v a k. ((a, k), refl))),
                    (
                      (λ t h. (h, λ off a. (a, refl))),
                      (
                        (λ t h. (h, λ off v a k. ((a, k), refl))),
                        (
                          (λ t h. (h, λ off v a k. ((a, k), refl))),
                          (
                            (λ t h. (h, λ off v a k. ((a, k), refl))),
                            (
                              (λ t h. (h, λ off v a k. ((a, k), refl))),
                              (
                                (λ t h. (h, λ off v a k. ((a, k), refl))),
                                (
                                  (λ t h. (h, λ off v a k. ((a, k), refl))),
                                  (
                                    (λ t h. (h, λ off v a k. ((a, k), refl))),
                                    (
                                      (λ t h. (h, λ off v a k. ((a, k), refl))),
                                      (
                                        (λ t h. (h, λ off v a k. ((a, k), refl))),
                                        (
                                          (λ t h. (h, λ off v a k. ((a, k), refl))),
                                          (
                                            (λ t h. (h, λ off v a k. ((a, k), refl))),
                                            (
                                              (λ t h. (h, λ off v a k. ((a, k), refl))),
                                              (
                                                (λ t h. (h, λ off v a k. ((a, k), refl))),
                                                (
                                                  (λ t h. (h, λ off v a k. ((a, k), refl))),
                                                  ((λ t h. (h, λ off v a k. ((a, k), refl))), ((λ t h. (h, λ off v a k. ((a, k), refl))), ((λ t h. (h, λ off v a k. ((a, k), refl))), ((λ t h. (h, λ off v a k. ((a, k), refl))), ((λ t h. (h, λ off v a k. ((a, k), refl))), ((λ t h. (h, λ off v a k. ((a, k), refl))), tt)))))),
                                                ),
                                              ),
                                            ),
                                          ),
                                        ),
                                      ),
                                    ),
                                  ),
                                ),
                              ),
                            ),
                          ),
                        ),
                      ),
                    ),
                  ),
                ),
              ),
            ),
          ),
        ),
      ),
    ),
  ),
)

pub good_form : (b : ℕ) → GoodRow b (form b)
good_form b =
    let e : b / 8 * 8 + b % 8 ≡ b = omega arith in
    let h : b % 8 < 8 = omega arith in
    subst (λ k. GoodRow k (form b)) e (good_ops (b / 8) (b % 8) h rows good_rows)

-- ---- what a row makes of bytes

-- the offset in bytes is in its range, and is spelled as these bytes
record OffsetIn (tag : ℕ) (bs : List ℕ) : Type 0 where
  range : IsAddress tag (offset_in tag bs 0)
  bytes : offset tag (offset_in tag bs 0) ≡ take (total (behind tag I16)) bs

offset_at : (tag : ℕ) (bs : List ℕ) → tag < 8 → AreBytes bs → nat_le (total (behind tag I16)) (length bs) ≡ true → (b : Bool) → nat_eq tag 0 ≡ b → OffsetIn tag bs
offset_at tag bs h all le true e = record {
  range = record { register = h; offset = rw e (search (rules, ints)); top = λ z. rw e refl };
  bytes = rw e refl;
}
offset_at tag [] h all le false e = absurd (grind (arith, e, le))
offset_at tag (x ∷ []) h all le false e = absurd (grind (arith, e, le))
offset_at tag (x ∷ y ∷ bs) h all le false e =
    let n : 256 * x + y < 65536 = omega (arith, all.0, all.1.0) in
    record {
      range = record { register = h; offset = rw e (fits16 (256 * x + y) n); top = λ z. absurd (grind (arith, e, z)) };
      bytes = rw e (ap bytes2 (unsigned16 (256 * x + y) n) ∙ bytes2_of x y all.0 all.1.0);
    }

record TargetIn (c : ℕ) (bs : List ℕ) : Type 0 where
  range : IsTarget c (target_in c bs)
  bytes : target c (target_in c bs) ≡ take (total (behind c U16)) bs

target_at : (c : ℕ) (bs : List ℕ) → c < 8 → AreBytes bs → nat_le (total (behind c U16)) (length bs) ≡ true → (b : Bool) → nat_eq c 0 ≡ b → TargetIn c bs
target_at c bs h all le true e = record { range = record { condition = h; address = rw e (omega arith); stack = λ z. rw e refl }; bytes = rw e refl }
target_at c [] h all le false e = absurd (grind (arith, e, le))
target_at c (x ∷ []) h all le false e = absurd (grind (arith, e, le))
target_at c (x ∷ y ∷ bs) h all le false e =
    let n : 256 * x + y < 65536 = omega (arith, all.0, all.1.0) in
    record { range = record { condition = h; address = rw e n; stack = λ z. absurd (grind (arith, e, z)) }; bytes = rw e (bytes2_of x y all.0 all.1.0) }

take_one_more : (n x : ℕ) (xs : List ℕ) → take (1 + n) (x ∷ xs) ≡ x ∷ take n xs
take_one_more n x xs = grind arith

take_two_more : (n x y : ℕ) (xs : List ℕ) → take (2 + n) (x ∷ y ∷ xs) ≡ x ∷ y ∷ take n xs
take_two_more n x y xs = grind arith

abbrev pub IsSpelledForm : ℕ → Form → List ℕ → Type 0
IsSpelledForm b f bs = Shaped (instruction_of_form f bs) × (spell (instruction_of_form f bs) ≡ b ∷ take (total (operands f)) bs)

made_primitive : (set : ℕ) (bs : List ℕ) → set < 4 → AreBytes bs → nat_le (total (operands (Primitive set))) (length bs) ≡ true → IsSpelledForm (40 + set) (Primitive set) bs
made_primitive zero [] h all le = absurd (grind (arith, le))
made_primitive zero (x ∷ bs) h all le = (record { sets = h; byte = all.0; three = refl; bytes = (omega arith, (omega arith, (omega arith, tt))); rest = refl }, refl)
made_primitive (suc zero) [] h all le = absurd (grind (arith, le))
made_primitive (suc zero) (x ∷ []) h all le = absurd (grind (arith, le))
made_primitive (suc zero) (x ∷ y ∷ bs) h all le = (record { sets = h; byte = all.0; three = refl; bytes = (all.1.0, (omega arith, (omega arith, tt))); rest = refl }, refl)
made_primitive (suc (suc zero)) [] h all le = absurd (grind (arith, le))
made_primitive (suc (suc zero)) (x ∷ []) h all le = absurd (grind (arith, le))
made_primitive (suc (suc zero)) (x ∷ y ∷ []) h all le = absurd (grind (arith, le))
made_primitive (suc (suc zero)) (x ∷ y ∷ z ∷ bs) h all le = (record { sets = h; byte = all.0; three = refl; bytes = (all.1.0, (all.1.1.0, (omega arith, tt))); rest = refl }, refl)
made_primitive (suc (suc (suc zero))) [] h all le = absurd (grind (arith, le))
made_primitive (suc (suc (suc zero))) (x ∷ []) h all le = absurd (grind (arith, le))
made_primitive (suc (suc (suc zero))) (x ∷ y ∷ []) h all le = absurd (grind (arith, le))
made_primitive (suc (suc (suc zero))) (x ∷ y ∷ z ∷ []) h all le = absurd (grind (arith, le))
made_primitive (suc (suc (suc zero))) (x ∷ y ∷ z ∷ w ∷ bs) h all le = (record { sets = h; byte = all.0; three = refl; bytes = (all.1.0, (all.1.1.0, (all.1.1.1.0, tt))); rest = refl }, refl)
made_primitive (suc (suc (suc (suc n)))) bs h all le = absurd (omega arith)

pub made_good : (b : ℕ) (f : Form) (bs : List ℕ) → Good b f → AreBytes bs → nat_le (total (operands f)) (length bs) ≡ true → IsSpelledForm b f bs
made_good b (Plain i) bs g all le = (g.0, g.1)
made_good b (OneByte f) [] g all le = absurd (grind (arith, le))
made_good b (OneByte f) (x ∷ bs) g all le = g x all.0
made_good b (TwoBytes f) [] g all le = absurd (grind (arith, le))
made_good b (TwoBytes f) (x ∷ []) g all le = absurd (grind (arith, le))
made_good b (TwoBytes f) (x ∷ y ∷ bs) g all le = g x y all.0 all.1.0
made_good b (Word f) [] g all le = absurd (grind (arith, le))
made_good b (Word f) (x ∷ []) g all le = absurd (grind (arith, le))
made_good b (Word f) (x ∷ y ∷ bs) g all le =
    let r = g (256 * x + y) (omega (arith, all.0, all.1.0)) in
    (r.0, r.1 ∙ ap (λ l. b ∷ l) (bytes2_of x y all.0 all.1.0))
made_good b (TwoWords f) [] g all le = absurd (grind (arith, le))
made_good b (TwoWords f) (x ∷ []) g all le = absurd (grind (arith, le))
made_good b (TwoWords f) (x ∷ y ∷ []) g all le = absurd (grind (arith, le))
made_good b (TwoWords f) (x ∷ y ∷ z ∷ []) g all le = absurd (grind (arith, le))
made_good b (TwoWords f) (x ∷ y ∷ z ∷ w ∷ bs) g all le =
    let r = g (256 * x + y) (256 * z + w) (omega (arith, all.0, all.1.0)) (omega (arith, all.1.1.0, all.1.1.1.0)) in
    let v = bytes2_of x y all.0 all.1.0 in
    let u = bytes2_of z w all.1.1.0 all.1.1.1.0 in
    (r.0, r.1 ∙ ap (λ l. b ∷ (l ++ bytes2 (256 * z + w))) v ∙ ap (λ l. b ∷ x ∷ y ∷ l) u)
made_good b (Near f) [] g all le = absurd (grind (arith, le))
made_good b (Near f) (x ∷ bs) g all le =
    let r = g (cast_signed w8 x) (fits8 x all.0) in
    (r.0, r.1 ∙ ap (λ n. b ∷ n ∷ []) (unsigned8 x all.0))
made_good b (Target c f) bs g all le =
    let t = target_at c bs g.0 all le (nat_eq c 0) refl in
    let r = g.1 (target_in c bs) t.range in
    (r.0, r.1 ∙ ap (λ l. b ∷ l) t.bytes)
made_good b (Primitive set) bs g all le = subst (λ k. IsSpelledForm k (Primitive set) bs) (sym g.1) (made_primitive set bs g.0 all le)
made_good b (Offset tag f) bs g all le =
    let t = offset_at tag bs g.0 all le (nat_eq tag 0) refl in
    let r = g.1 (offset_in tag bs 0) t.range in
    (r.0, r.1 ∙ ap (λ l. b ∷ l) t.bytes)
made_good b (ByteOffset tag f) [] g all le = absurd (grind (arith, le))
made_good b (ByteOffset tag f) (x ∷ bs) g all le =
    let le' : nat_le (total (behind tag I16)) (length bs) ≡ true = grind (arith, le) in
    let t = offset_at tag bs g.0 all.1 le' (nat_eq tag 0) refl in
    let r = g.1 (offset_in tag bs 0) x t.range all.0 in
    (r.0, r.1 ∙ ap (λ l. b ∷ x ∷ l) t.bytes ∙ ap (λ l. b ∷ l) (sym (take_one_more (total (behind tag I16)) x bs)))
made_good b (WordOffset tag f) [] g all le = absurd (grind (arith, le))
made_good b (WordOffset tag f) (x ∷ []) g all le = absurd (grind (arith, le))
made_good b (WordOffset tag f) (x ∷ y ∷ bs) g all le =
    let le' : nat_le (total (behind tag I16)) (length bs) ≡ true = grind (arith, le) in
    let t = offset_at tag bs g.0 all.1.1 le' (nat_eq tag 0) refl in
    let r = g.1 (offset_in tag bs 0) (256 * x + y) t.range (omega (arith, all.0, all.1.0)) in
    let v = bytes2_of x y all.0 all.1.0 in
    (r.0, r.1 ∙ ap (λ l. b ∷ (l ++ offset tag (offset_in tag bs 0))) v ∙ ap (λ l. b ∷ x ∷ y ∷ l) t.bytes ∙ ap (λ l. b ∷ l) (sym (take_two_more (total (behind tag I16)) x y bs)))
