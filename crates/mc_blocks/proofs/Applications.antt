-- The applications of a well laid image: their number, and one of them found by its name.
use Rattle.std.proofs.Common.{◌≡◌, ◌≢◌, ℕ, ◌+◌, ◌<◌, ◌≤◌, Bool, true, false, List, [], ◌∷◌, length, Option, Some, None, refl, sym, ◌∙◌, ap, subst, arith, cond, not}
use Rattle.std.specs.Prelude.{◌==◌, bytes_eq}
use Rattle.std.proofs.lemmas.Bool.{eq-eqb, ne_eqb, or_right, or_left}
use Rattle.std.proofs.lemmas.Slice.Eq.{bytes_eq-Decides}
use Rattle.mc_words.specs.model_device.specs.Bytes.{insert, lookup, name_before, has_name}
use Rattle.mc_words.specs.model_device.specs.Image.{Closed, look}
use Rattle.mc_words.specs.model_device.specs.Device.{IsSized}
use Rattle.mc_words.specs.model_device.specs.Card.{App, Card, Block, means, blocks, name_at, app_at, apps_of}
use Rattle.mc_words.specs.model_device.specs.Layout.{spans, bad_record, IsWellLaid}
use Rattle.mc_blocks.specs.Blocks.{used_spans, is_admissible}
use Rattle.mc_blocks.specs.Plans.{has_span}
use Rattle.mc_blocks.proofs.Tiles.{Tiled}
use Rattle.mc_blocks.proofs.Maps.{Free, OneAt, one_insert, has_self}
use Rattle.mc_blocks.proofs.Bridge.{WellLaid, well_laid, no_apps, AreNamed, named, free_all, Faultless, faultless, passed, admitted}
use Rattle.mc_words.specs.model_device.proofs.MapLemmas.{same_name}
use Rattle.mc_words.specs.model_device.proofs.LayoutLemmas.{closed_fault, closed_means}

-- ---- at most 32

few_all : (m : List (List ℕ)) (bs : List Block) (names : List (List ℕ)) (used : ℕ) → used ≤ 32 → bad_record m bs names used ≡ None → used + length (used_spans bs) ≤ 32
unfolding bad_record
few_all m [] names used low h = omega arith
few_all m (b ∷ bs) names used low h =
    (elim b.used as (λ u. bad_record m (record b { used = u } ∷ bs) names used ≡ None → used + length (used_spans (record b { used = u } ∷ bs)) ≤ 32) [
      | true ↦ λ none.
          let rest = passed (is_admissible m b names used) (bad_record m bs (name_at m b.place ∷ names) (used + 1)) b.place none in
          let lt : used < 32 = (admitted m b names used rest.0).2 in
          let more : used + 1 + length (used_spans bs) ≤ 32 = few_all m bs (name_at m b.place ∷ names) (used + 1) (omega arith) rest.1 in
          omega arith
      | false ↦ λ none. few_all m bs names used low none
    ]) h

pub few_blocks : (m : List (List ℕ)) → Faultless m → length (used_spans (blocks m)) ≤ 32
few_blocks m f = let few : 0 + length (used_spans (blocks m)) ≤ 32 = few_all m (blocks m) [] 0 (omega arith) f.records in omega (arith, few)

pub few_applications : (m : List (List ℕ)) → IsSized m → look m ≡ Closed → IsWellLaid m → length (means m).apps ≤ 32
few_applications m image closed h = grind (arith, Faultless, faultless, closed_fault, WellLaid, well_laid, closed_means, few_blocks)

-- ---- found by its name

found_same : (k n : List ℕ) (a : App) (e : List ℕ × App) (es : List (List ℕ × App)) (t : Bool) → bytes_eq e.0 n ≡ t → cond t (Some a) (lookup es n) ≡ cond t (Some a) (cond (bytes_eq e.0 n) (Some e.1) (lookup es n))
found_same k n a e es true h = refl
found_same k n a e es false h = sym (ap (λ (t : Bool). cond t (Some e.1) (lookup es n)) h)

found_other : (k n : List ℕ) (a : App) (e : List ℕ × App) (o : Option App) (t s : Bool) → bytes_eq e.0 n ≡ t → bytes_eq k n ≡ s → bytes_eq e.0 k ≡ false → cond t (Some e.1) (cond s (Some a) o) ≡ cond s (Some a) (cond t (Some e.1) o)
found_other k n a e o t s h g ne = grind (arith, bytes_eq-Decides, same_name)

found_test : (k n : List ℕ) (a : App) (e : List ℕ × App) (es : List (List ℕ × App)) (t s : Bool) → bytes_eq e.0 k ≡ t → lookup (insert es k a) n ≡ cond (bytes_eq k n) (Some a) (lookup es n)
    → lookup (cond t ((k, a) ∷ es) (cond s ((k, a) ∷ e ∷ es) (e ∷ insert es k a))) n ≡ cond (bytes_eq k n) (Some a) (cond (bytes_eq e.0 n) (Some e.1) (lookup es n))
found_test k n a e es true s h rest = found_same k n a e es (bytes_eq k n) (ap (λ (x : List ℕ). bytes_eq x n) (same_name e.0 k h))
found_test k n a e es false true h rest = refl
found_test k n a e es false false h rest =
    ap (λ (o : Option App). cond (bytes_eq e.0 n) (Some e.1) o) rest ∙ found_other k n a e (lookup es n) (bytes_eq e.0 n) (bytes_eq k n) refl refl h

pub lookup_insert : (es : List (List ℕ × App)) (k n : List ℕ) (a : App) → lookup (insert es k a) n ≡ cond (bytes_eq k n) (Some a) (lookup es n)
lookup_insert [] k n a = refl
lookup_insert (e ∷ es) k n a = found_test k n a e es (bytes_eq e.0 k) (name_before k e.0) refl (lookup_insert es k n a)

pub free_one : (n : List ℕ) (p : ℕ) (es : List (List ℕ × App)) → Free n p es → OneAt n p es
free_one n p [] f = tt
free_one n p (e ∷ es) f = (f.0 ∙ sym (ne_eqb (e.1).place p f.1), free_one n p es f.2)

-- an application that is found: it is at p or after it, a span begins at its place, an application has its name exactly
-- if it lies there, and the block there holds it
pub record ApplicationFound (m : List (List ℕ)) (n : List ℕ) (bs : List Block) (p : ℕ) (a : App) : Type 0 where
  pub low : p ≤ a.place
  pub span : has_span a.place (used_spans bs) ≡ true
  pub one : OneAt n a.place (apps_of m bs)
  pub name : name_at m a.place ≡ n
  pub self : app_at m a.place ≡ a

-- an application that is found is that of a used block of its name, or of a block after it
found_kind : (m : List (List ℕ)) (n : List ℕ) (a : App) (b : Block) (bs : List Block) (names : List (List ℕ)) (u t : Bool) → 1 ≤ b.words → bytes_eq (name_at m b.place) n ≡ t → AreNamed m names (record b { used = u } ∷ bs)
    → ((ns : List (List ℕ)) → AreNamed m ns bs → lookup (apps_of m bs) n ≡ Some a → ApplicationFound m n bs (b.place + b.words) a)
    → ((ns : List (List ℕ)) (k : List ℕ) → has_name k ns ≡ true → AreNamed m ns bs → Free k b.place (apps_of m bs))
    → lookup (apps_of m (record b { used = u } ∷ bs)) n ≡ Some a → ApplicationFound m n (record b { used = u } ∷ bs) b.place a
unfolding apps_of
found_kind m n a b bs names false t long e nm rest free l =
    let f = rest names nm l in
    let low : b.place + b.words ≤ a.place = f.low in
    record { low = omega arith; span = f.span; one = f.one; name = f.name; self = f.self }
found_kind m n a b bs names true true long e nm rest free l =
    let k = name_at m b.place in
    let is : Some (app_at m b.place) ≡ Some a = sym (lookup_insert (apps_of m bs) k n (app_at m b.place) ∙ ap (λ (x : Bool). cond x (Some (app_at m b.place)) (lookup (apps_of m bs) n)) e) ∙ l in
    let same : app_at m b.place ≡ a = cc in
    let place : b.place ≡ a.place = ap (λ (x : App). x.place) same in
    let clear : Free n b.place (apps_of m bs) = subst (λ (x : List ℕ). Free x b.place (apps_of m bs)) (same_name k n e) (free (k ∷ names) k (has_self k names) nm.2) in
    record {
      low = omega (arith, place);
      span = or_left (b.place == a.place) (has_span a.place (used_spans bs)) (eq-eqb b.place a.place place);
      one = one_insert (apps_of m bs) n k a.place (app_at m b.place) (e ∙ sym (eq-eqb b.place a.place place)) (free_one n a.place (apps_of m bs) (subst (λ (q : ℕ). Free n q (apps_of m bs)) place clear));
      name = sym (ap (λ (q : ℕ). name_at m q) place) ∙ same_name k n e;
      self = sym (ap (λ (q : ℕ). app_at m q) place) ∙ same;
    }
found_kind m n a b bs names true false long e nm rest free l =
    let k = name_at m b.place in
    let behind : lookup (apps_of m bs) n ≡ Some a = sym (lookup_insert (apps_of m bs) k n (app_at m b.place) ∙ ap (λ (x : Bool). cond x (Some (app_at m b.place)) (lookup (apps_of m bs) n)) e) ∙ l in
    let f = rest (k ∷ names) nm.2 behind in
    let low : b.place + b.words ≤ a.place = f.low in
    let ne : b.place ≢ a.place = λ h. absurd (omega (arith, h)) in
    record { low = omega arith; span = or_right (b.place == a.place) (has_span a.place (used_spans bs)) f.span; one = one_insert (apps_of m bs) n k a.place (app_at m b.place) (e ∙ sym (ne_eqb b.place a.place ne)) f.one; name = f.name; self = f.self }

pub found_all : (m : List (List ℕ)) (n : List ℕ) (a : App) (bs : List Block) (p : ℕ) (x : Bool) (end : ℕ) (names : List (List ℕ)) → Tiled p x bs end → AreNamed m names bs → lookup (apps_of m bs) n ≡ Some a → ApplicationFound m n bs p a
found_all m n a [] p x end names t nm l = absurd (cc (sym (ap (λ (es : List (List ℕ × App)). lookup es n) (no_apps m)) ∙ l))
found_all m n a (b ∷ bs) p x end names t nm l =
    let place : b.place ≡ p = t.0 in
    let long : 1 ≤ b.words = t.1 in
    subst (λ (q : ℕ). ApplicationFound m n (b ∷ bs) q a) place
    (found_kind m n a b bs names b.used (bytes_eq (name_at m b.place) n) long refl nm
    (λ ns ok h. subst (λ (q : ℕ). ApplicationFound m n bs (q + b.words) a) (sym place) (found_all m n a bs (p + b.words) (not b.used) end ns t.3 ok h))
    (λ ns k is ok. free_all m bs (p + b.words) (not b.used) end ns k b.place t.3 (omega arith) is ok)
    l)

-- an application that is found by its name: its span, its place and its name
pub record FoundIn (m : List (List ℕ)) (n : List ℕ) (a : App) : Type 0 where
  pub span : has_span a.place (spans (means m)) ≡ true
  pub one : OneAt n a.place (means m).apps
  pub name : name_at m a.place ≡ n

pub found_application : (m : List (List ℕ)) (n : List ℕ) (a : App) → IsSized m → look m ≡ Closed → IsWellLaid m → lookup (means m).apps n ≡ Some a → FoundIn m n a
found_application m n a image closed h l =
    let f : Faultless m = faultless m (sym (closed_fault m closed) ∙ h) in
    let laid : WellLaid m = well_laid m image closed h in
    let found : ApplicationFound m n (blocks m) 131 a = found_all m n a (blocks m) 131 false (length m) [] laid.tiled (named m (blocks m) [] 0 f.records) (sym (ap (λ (k : Card). lookup k.apps n) (closed_means m closed)) ∙ l) in
    record {
      span = subst (λ (ss : List (ℕ × ℕ)). has_span a.place ss ≡ true) (sym (ap (λ (k : Card). spans k) (closed_means m closed) ∙ laid.spans)) found.span;
      one = subst (λ (k : Card). OneAt n a.place k.apps) (sym (closed_means m closed)) found.one;
      name = found.name;
    }
