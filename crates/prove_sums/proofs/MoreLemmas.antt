-- Walks along loaded blocks.
use Rattle.std.proofs.Common.{◌≡◌, ◌∙◌, ℕ, ◌+◌, ◌<◌, ◌≤◌, List, [], ◌∷◌, ◌++◌, length, drop, get_or, Bool, true, false, cond, refl, sym, ap, subst, append_assoc}
use Rattle.std.specs.Prelude.{filter, flat_map}
use Rattle.std.proofs.lemmas.List.{append-nil, drop_more, drop_all}
use Rattle.prove_forms.specs.model_sums.specs.Sums as sums
use Rattle.prove_forms.specs.model_sums.specs.Writes.{more_of}
use Rattle.prove_sums.specs.declared.values.More.{More}
use Rattle.prove_sums.specs.Values.{MoreIs, MoresAre}

-- loaded blocks as the definition has them
abbrev pub Mores : Type 0
Mores = List sums.More

-- ---- lists

-- lists one after another
pub mores_append : (ps qs : List More) (rs ss : Mores) → MoresAre ps rs → MoresAre qs ss → MoresAre (ps ++ qs) (rs ++ ss)
mores_append [] qs [] ss a b = b
mores_append [] qs (r ∷ rs) ss a b = absurd a
mores_append (p ∷ ps) qs [] ss a b = absurd a
mores_append (p ∷ ps) qs (r ∷ rs) ss a b = (a.0, mores_append ps qs rs ss a.1 b)

-- each block alone is all
pub alone_all : (rs : Mores) → flat_map (λ r. r ∷ []) rs ≡ rs
alone_all [] = refl
alone_all (r ∷ rs) = ap (λ (x : Mores). r ∷ x) (alone_all rs)

kept_by : (b : Bool) (r : sums.More) (xs ys : Mores) → xs ≡ ys → cond b (r ∷ []) [] ++ xs ≡ cond b (r ∷ ys) ys
kept_by true r xs ys e = ap (λ (x : Mores). r ∷ x) e
kept_by false r xs ys e = e

-- each block that is kept
pub kept_all : (test : sums.More → Bool) (rs : Mores) → flat_map (λ r. cond (test r) (r ∷ []) []) rs ≡ filter test rs
kept_all test [] = refl
kept_all test (r ∷ rs) = kept_by (test r) r _ _ (kept_all test rs)

-- ---- a block at a time

-- the first of the blocks that are left
pub record FirstMore (left : Mores) (p : More) (ps : List More) : Type 0 where
  pub one : sums.More
  pub is : MoreIs p one
  pub more : Mores
  pub are : MoresAre ps more
  pub same : left ≡ one ∷ more

first_by : (left : Mores) (p : More) (ps : List More) → MoresAre (p ∷ ps) left → FirstMore left p ps
first_by [] p ps are = absurd are
first_by (r ∷ rs) p ps are = record { one = r; is = are.0; more = rs; are = are.1; same = refl }

-- the block at a place is the first of those that are left from there
pub first_more : (left : Mores) (ps : List More) (i : ℕ) (p : More) → p ≡ get_or ps i p → i < length ps → MoresAre (drop i ps) left → FirstMore left p (drop (i + 1) ps)
first_more left ps i p e l are =
    first_by left p (drop (i + 1) ps) (subst (λ (x : List More). MoresAre x left) (drop_more ps i p l ∙ ap (λ (x : More). x ∷ drop (i + 1) ps) (sym e)) are)

-- no block is left
pub no_more : (left : Mores) (ps : List More) (i : ℕ) → length ps ≤ i → MoresAre (drop i ps) left → left ≡ []
no_more [] ps i l are = refl
no_more (r ∷ left) ps i l are = absurd (subst (λ (x : List More). MoresAre x (r ∷ left)) (drop_all i ps l) are)

-- ---- flat maps

-- what a function makes of the blocks so far is there
pub record Flat (R : sums.More → Mores) (rs : Mores) (ps mores : List More) : Type 0 where
  pub left : Mores
  pub are : MoresAre ps left
  pub done : Mores
  pub made : MoresAre mores done
  pub same : flat_map R rs ≡ done ++ flat_map R left

-- what a function makes of a block comes after what it made of those before
pub flat_next : (R : sums.More → Mores) (rs : Mores) (ps : List More) (i : ℕ) (p : More) (old new : List More) → p ≡ get_or ps i p → i < length ps
    → ((r : sums.More) (qs : Mores) → MoreIs p r → MoresAre old qs → MoresAre new (qs ++ R r))
    → Flat R rs (drop i ps) old → Flat R rs (drop (i + 1) ps) new
flat_next R rs ps i p old new e l grows w =
    let f = first_more w.left ps i p e l w.are in
    record {
      left = f.more;
      are = f.are;
      done = w.done ++ R f.one;
      made = grows f.one w.done f.is w.made;
      same = w.same ∙ ap (λ (x : Mores). w.done ++ flat_map R x) f.same ∙ sym (append_assoc w.done (R f.one) (flat_map R f.more));
    }

-- if no block is left, what was made is what the function makes of all
pub flat_end : (R : sums.More → Mores) (rs : Mores) (ps : List More) (i : ℕ) (mores : List More) → length ps ≤ i → Flat R rs (drop i ps) mores → MoresAre mores (flat_map R rs)
flat_end R rs ps i mores l w =
    subst (λ (x : Mores). MoresAre mores x)
    (sym (w.same ∙ ap (λ (x : Mores). w.done ++ flat_map R x) (no_more w.left ps i l w.are) ∙ append-nil w.done)) w.made

-- ---- one of some

-- what the blocks that are left say of another is what all say
pub record Of (a b n : ℕ) (rs : Mores) (ps : List More) : Type 0 where
  pub left : Mores
  pub are : MoresAre ps left
  pub same : more_of left a b n ≡ more_of rs a b n
