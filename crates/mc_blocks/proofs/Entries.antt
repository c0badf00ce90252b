-- The first bad record, one block at a time.
use Rattle.std.proofs.Common.{◌≡◌, ℕ, ◌+◌, ◌<◌, ◌≤◌, Bool, true, false, ◌||◌, List, [], ◌∷◌, ◌++◌, length, map, Option, Some, None, refl, sym, ◌∙◌, ap, subst, arith, cond, length-append}
use Rattle.std.specs.Prelude.{bytes_eq, MatchBool}
use Rattle.std.proofs.lemmas.Bool.{and_parts, leb-true, eqb-true, false_from_ne_true}
use Rattle.std.proofs.lemmas.List.{map-append}
use Rattle.mc_words.specs.model_device.specs.Bytes.{has_name}
use Rattle.mc_words.specs.model_device.specs.Card.{Block, word, header, blocks, record_at, name_in}
use Rattle.mc_words.specs.model_device.specs.Layout.{is_record, bad_record}
use Rattle.mc_blocks.specs.Blocks.{block_within, blocks_at, is_admissible, Admits}
use Rattle.mc_blocks.proofs.Steps.{blocks_step, blocks_stop, blocks_all}
use Rattle.mc_words.specs.model_device.proofs.BoolLemmas.{or_swap as swapped}

-- a block of fewer than six words has no record
pub long_enough : (r : List ℕ) (w : ℕ) → is_record r w ≡ true → 6 ≤ w
long_enough r w h = grind (arith, and_parts, leb-true, eqb-true)

pub short_is_none : (r : List ℕ) (w : ℕ) → w < 6 → is_record r w ≡ false
short_is_none r w h = false_from_ne_true (is_record r w) (λ e. absurd (omega (arith, long_enough r w e)))

-- a name in a list with one more name at the end
pub name_append : (k x : List ℕ) (ns : List (List ℕ)) → has_name k (ns ++ x ∷ []) ≡ (bytes_eq x k || has_name k ns)
name_append k x [] = refl
name_append k x (n ∷ ns) = ap (λ (t : Bool). bytes_eq n k || t) (name_append k x ns) ∙ swapped (bytes_eq n k) (bytes_eq x k) (has_name k ns)

-- the records so far have these names, and the first bad record of the whole is that of the blocks that are left
pub record RecordsEntered (m : List (List ℕ)) (whole : Option ℕ) (p : ℕ) (seen : List (List ℕ)) : Type 0 where
  pub names : List (List ℕ)
  pub same : (k : List ℕ) → has_name k names ≡ has_name k (map name_in seen)
  pub left : whole ≡ bad_record m (blocks_at m p) names (length seen)

pub begun : (m : List (List ℕ)) → RecordsEntered m (bad_record m (blocks m) [] 0) 131 []
begun m = record { names = []; same = λ k. refl; left = ap (λ (bs : List Block). bad_record m bs [] 0) (blocks_all m) }

none_bad : (m : List (List ℕ)) (names : List (List ℕ)) (used : ℕ) → bad_record m [] names used ≡ None
unfolding bad_record
none_bad m names used = refl

some_bad : (m : List (List ℕ)) (b : Block) (bs : List Block) (names : List (List ℕ)) (used : ℕ)
    → bad_record m (b ∷ bs) names used ≡ cond b.used (cond (is_admissible m b names used) (bad_record m bs (name_in (record_at m b.place) ∷ names) (used + 1)) (Some b.place)) (bad_record m bs names used)
unfolding bad_record
some_bad m b bs names used = refl

pub ended : (m : List (List ℕ)) (whole : Option ℕ) (p : ℕ) (seen : List (List ℕ)) → RecordsEntered m whole p seen → None ≡ block_within (length m) (header p (word m p)) → whole ≡ None
ended m whole p seen e h = e.left ∙ ap (λ (bs : List Block). bad_record m bs e.names (length seen)) (blocks_stop m p h) ∙ none_bad m e.names (length seen)

-- the state of the search after one more block
step : (m : List (List ℕ)) (whole : Option ℕ) (p : ℕ) (seen : List (List ℕ)) (b : Block) (e : RecordsEntered m whole p seen) → Some b ≡ block_within (length m) (header p (word m p))
    → whole ≡ cond b.used (cond (is_admissible m b (map name_in seen) (length seen)) (bad_record m (blocks_at m (b.place + b.words)) (name_in (record_at m b.place) ∷ e.names) (length seen + 1)) (Some b.place)) (bad_record m (blocks_at m (b.place + b.words)) e.names (length seen))
step m whole p seen b e h = grind (arith, blocks_step, some_bad)

pub refused : (m : List (List ℕ)) (whole : Option ℕ) (p : ℕ) (seen new : List (List ℕ)) (b : Block) (r : Bool) → RecordsEntered m whole p seen → Some b ≡ block_within (length m) (header p (word m p)) → r ≡ false → Admits m b seen r new → whole ≡ Some b.place
refused m whole p seen new b true e h failed a = absurd (cc failed)
refused m whole p seen new b false e h failed a =
    let rest = blocks_at m (b.place + b.words) in
    let x = bad_record m rest (name_in (record_at m b.place) ∷ e.names) (length seen + 1) in
    let y = bad_record m rest e.names (length seen) in
    step m whole p seen b e h
    ∙ ap (λ (t : Bool). cond t (cond (is_admissible m b (map name_in seen) (length seen)) x (Some b.place)) y) a.0
    ∙ ap (λ (t : Bool). cond t x (Some b.place)) a.1

taken : (m : List (List ℕ)) (whole : Option ℕ) (p : ℕ) (seen new : List (List ℕ)) (b : Block) (t : Bool) → RecordsEntered m whole p seen → Some b ≡ block_within (length m) (header p (word m p)) → b.used ≡ t
    → MatchBool t ((is_admissible m b (map name_in seen) (length seen) ≡ true) × (new ≡ seen ++ record_at m b.place ∷ [])) (new ≡ seen) → RecordsEntered m whole (b.place + b.words) new
taken m whole p seen new b false e h used a =
    let rest = blocks_at m (b.place + b.words) in
    let x = bad_record m rest (name_in (record_at m b.place) ∷ e.names) (length seen + 1) in
    let y = bad_record m rest e.names (length seen) in
    subst (λ (l : List (List ℕ)). RecordsEntered m whole (b.place + b.words) l) (sym a)
    (record { names = e.names; same = e.same; left = step m whole p seen b e h ∙ ap (λ (t : Bool). cond t (cond (is_admissible m b (map name_in seen) (length seen)) x (Some b.place)) y) used })
taken m whole p seen new b true e h used a =
    let rest = blocks_at m (b.place + b.words) in
    let r = record_at m b.place in
    let x = bad_record m rest (name_in r ∷ e.names) (length seen + 1) in
    let y = bad_record m rest e.names (length seen) in
    let more : length seen + 1 ≡ length (seen ++ r ∷ []) = omega (arith, length-append seen (r ∷ [])) in
    subst (λ (l : List (List ℕ)). RecordsEntered m whole (b.place + b.words) l) (sym a.1)
    (record {
      names = name_in r ∷ e.names;
      same = λ k. ap (λ (t : Bool). bytes_eq (name_in r) k || t) (e.same k) ∙ sym (name_append k (name_in r) (map name_in seen)) ∙ sym (ap (λ (ns : List (List ℕ)). has_name k ns) (map-append name_in seen (r ∷ [])));
      left = step m whole p seen b e h
          ∙ ap (λ (t : Bool). cond t (cond (is_admissible m b (map name_in seen) (length seen)) x (Some b.place)) y) used
          ∙ ap (λ (t : Bool). cond t x (Some b.place)) a.0
          ∙ ap (λ (n : ℕ). bad_record m rest (name_in r ∷ e.names) n) more;
    })

pub admits : (m : List (List ℕ)) (whole : Option ℕ) (p : ℕ) (seen new : List (List ℕ)) (b : Block) (r : Bool) → RecordsEntered m whole p seen → Some b ≡ block_within (length m) (header p (word m p)) → r ≡ true → Admits m b seen r new → RecordsEntered m whole (b.place + b.words) new
admits m whole p seen new b false e h passed a = absurd (cc passed)
admits m whole p seen new b true e h passed a = taken m whole p seen new b b.used e h refl a
