-- The name in a DIR record that is made from it.
use Rattle.std.proofs.Common.{◌≡◌, ℕ, suc, ◌≤◌, ◌<◌, ◌%◌, List, [], ◌∷◌, length, Some, Ok, true, false, refl, arith, ◌∙◌}
use Rattle.std.specs.Prelude.{nat_lt, nat_le, nat_eq, option_and_then}
use Rattle.std.proofs.lemmas.Bool.{le-ltb, lt-ltb, le-leb}
use Rattle.std.proofs.lemmas.List.{take_all, drop_all}
use Rattle.model_card.specs.Units.{made_dir, name_of, name_among, object, object_at, template_of, checked_name}

-- an object with a tag of one byte and a length of one byte is read, with no bytes after it
object_is : (t : ℕ) (v : List ℕ) → nat_eq (t % 32) 31 ≡ false → length v < 128 → object_at (object t v) ≡ Some (record { tag = t ∷ []; value = v; rest = [] })
unfolding object_at
object_is t v one small =
    let size : nat_lt (length v) 128 ≡ true = lt-ltb _ _ small in
    let whole : nat_lt (length v) (length v) ≡ false = le-ltb _ _ (omega arith) in
    rw (one, size, whole, take_all (length v) v (omega arith), drop_all (length v) v (omega arith)) refl

template_is : (v : List ℕ) → length v < 128 → template_of (object 97 v) ≡ Some v
unfolding template_of
template_is v small = rw (object_is 97 v refl small) refl

name_is : (n : ℕ) (v : List ℕ) → length v < 128 → name_among (suc n) (object 79 v) ≡ Some v
unfolding name_among
name_is n v small = rw (object_is 79 v refl small) refl

name_steps : (d : List ℕ) → name_of d ≡ checked_name (option_and_then (λ t. name_among (length t) t) (template_of d))
unfolding name_of name_among template_of
name_steps d = refl

pub made_name : (name : List ℕ) → 5 ≤ length name → length name ≤ 16 → name_of (made_dir name) ≡ Ok name
made_name name low high =
    let first : nat_le 5 (length name) ≡ true = le-leb _ _ low in
    let last : nat_le (length name) 16 ≡ true = le-leb _ _ high in
    name_steps (made_dir name) ∙ rw (template_is (object 79 name) (omega arith), name_is (suc (length name)) name (omega arith), first, last) refl
