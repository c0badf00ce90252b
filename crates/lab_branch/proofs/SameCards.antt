-- A roster and the static bytes beside it are those of one card alone.
use Rattle.std.proofs.Common.{◌≡◌, ℕ, List, [], ◌∷◌, ◌++◌, length, take, drop, refl, sym, ◌∙◌, ap}
use Rattle.std.proofs.Math.Seq.{take-append_seam, drop-append_seam}
use Rattle.mc_words.specs.model_device.specs.Card.{App}
use Rattle.lab_branch.specs.Rosters.{ResidentValue, resident_of, roster_of, statics_of}

split : (a b c d : List ℕ) → length a ≡ length b → a ++ c ≡ b ++ d → (a ≡ b) × (c ≡ d)
split a b c d long h = (
  sym (take-append_seam a c) ∙ ap (λ (n : ℕ). take n (a ++ c)) long ∙ ap (λ (l : List ℕ). take (length b) l) h ∙ take-append_seam b d,
  sym (drop-append_seam a c) ∙ ap (λ (n : ℕ). drop n (a ++ c)) long ∙ ap (λ (l : List ℕ). drop (length b) l) h ∙ drop-append_seam b d,
)

heads : (x y : ResidentValue) (xs ys : List ResidentValue) → x ∷ xs ≡ y ∷ ys → (x ≡ y) × (xs ≡ ys)
heads x y xs ys h = (cc, cc)

pub one_card : (xs ys : List (List ℕ × App)) → roster_of xs ≡ roster_of ys → statics_of xs ≡ statics_of ys → xs ≡ ys
one_card [] [] h k = refl
one_card [] (b ∷ ys) h k = absurd (cc h)
one_card (a ∷ xs) [] h k = absurd (cc h)
one_card (a ∷ xs) (b ∷ ys) h k =
    let p = heads (resident_of a) (resident_of b) (roster_of xs) (roster_of ys) h in
    let s = split (a.1).fixed (b.1).fixed (statics_of xs) (statics_of ys) (ap (λ (r : ResidentValue). r.fixed) p.0) k in
    let rest : xs ≡ ys = one_card xs ys p.1 s.1 in
    let fixed : (a.1).fixed ≡ (b.1).fixed = s.0 in
    let one : resident_of a ≡ resident_of b = p.0 in
    λ i. (
      (one i).name,
      record { code = (one i).code; fixed = fixed i; session = (one i).session; deny = (one i).deny; dir = (one i).dir; fci = (one i).fci; place = (one i).place },
    ) ∷ rest i
