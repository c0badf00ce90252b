-- The fields of a line, one by one.
use Rattle.std.proofs.Common.{◌≡◌, ℕ, suc, ◌<◌, Bool, true, false, List, [], ◌∷◌, ◌++◌, length, Bor, Option, Some, None, arith, refl, sym, ap, subst, ◌∙◌}
use Rattle.std.specs.Prelude.{filter, not, nat_eq}
use Rattle.std.specs.List.{AllByRecursion}
use Rattle.model_play.specs.model_text.specs.Text.{first_cut, fields, is_blank, is_empty, pieces}
use Rattle.mc_asm.specs.Items.{texts}
use Rattle.mc_text.proofs.ReadingLemmas.{pieces_at, pieces_cut}
use Rattle.mc_asm.proofs.LineLemmas.{texts_one}

-- the fields of the text that is left
abbrev pub fields_left : Option (List ℕ) → List (List ℕ)
fields_left None = []
fields_left (Some t) = fields t

-- a bound on the turns that are left
abbrev pub left_of : Option (List ℕ) → ℕ
left_of None = 0
left_of (Some t) = suc (length t)

-- the list of fields with a part before it, unless the part is empty
abbrev pub put_field : Bool → List ℕ → List (List ℕ) → List (List ℕ)
put_field true p ps = ps
put_field false p ps = p ∷ ps

pub fields_cut_by : (b : Bool) (p : List ℕ) (ps : List (List ℕ)) → is_empty p ≡ b → filter (λ p. not (is_empty p)) (p ∷ ps) ≡ put_field b p (filter (λ p. not (is_empty p)) ps)
fields_cut_by true p ps e = rw e refl
fields_cut_by false p ps e = rw e refl

fields_cut : (p : List ℕ × Option (List ℕ)) → filter (λ p. not (is_empty p)) (pieces_cut is_blank p) ≡ put_field (is_empty p.0) p.0 (fields_left p.1)
fields_cut (a, None) = fields_cut_by (is_empty a) a [] refl
fields_cut (a, Some rest) = fields_cut_by (is_empty a) a (pieces is_blank rest) refl

fields_at : (t : List ℕ) → fields t ≡ put_field (is_empty (first_cut is_blank t).0) (first_cut is_blank t).0 (fields_left (first_cut is_blank t).1)
fields_at t = ap (filter (λ p. not (is_empty p))) (pieces_at is_blank t) ∙ fields_cut (first_cut is_blank t)

pub empty_is : (t : List ℕ) (b : Bool) → nat_eq (length t) 0 ≡ b → is_empty t ≡ b
empty_is [] true h = refl
empty_is [] false h = absurd (cc h)
empty_is (c ∷ t) true h = absurd (grind (arith, h))
empty_is (c ∷ t) false h = refl

-- one more field
pub field_more : (ps : List (Bor (List ℕ))) (p : Bor (List ℕ)) (t : List ℕ) (b : Option (List ℕ)) (w : List (List ℕ)) → p.now ≡ (first_cut is_blank t).0 → b ≡ (first_cut is_blank t).1
    → nat_eq (length p.now) 0 ≡ false → texts ps ++ fields_left (Some t) ≡ w → texts (ps ++ p ∷ []) ++ fields_left b ≡ w
field_more ps p t b w e g n i =
    let k : is_empty (first_cut is_blank t).0 ≡ false = subst (λ (x : List ℕ). is_empty x ≡ false) e (empty_is p.now false n) in
    let j : fields t ≡ p.now ∷ fields_left b = fields_at t ∙ rw (k, e, g) refl in
    texts_one ps p (fields_left b) ∙ ap (λ l. texts ps ++ l) (sym j) ∙ i

-- an empty part is no field
pub field_none : (ps : List (Bor (List ℕ))) (p t : List ℕ) (b : Option (List ℕ)) (w : List (List ℕ)) → p ≡ (first_cut is_blank t).0 → b ≡ (first_cut is_blank t).1
    → nat_eq (length p) 0 ≡ true → texts ps ++ fields_left (Some t) ≡ w → texts ps ++ fields_left b ≡ w
field_none ps p t b w e g n i =
    let k : is_empty (first_cut is_blank t).0 ≡ true = subst (λ (x : List ℕ). is_empty x ≡ true) e (empty_is p true n) in
    let j : fields t ≡ fields_left b = fields_at t ∙ rw (k, g) refl in
    ap (λ l. texts ps ++ l) (sym j) ∙ i

-- one more field that has a character
pub filled_more : (ps : List (Bor (List ℕ))) (p : Bor (List ℕ)) → nat_eq (length p.now) 0 ≡ false → AllByRecursion (λ t. 0 < length t.now) ps → AllByRecursion (λ (t : Bor (List ℕ)). 0 < length t.now) (ps ++ p ∷ [])
filled_more [] p n h = (grind (arith, n), tt)
filled_more (q ∷ ps) p n h = (h.0, filled_more ps p n h.1)
