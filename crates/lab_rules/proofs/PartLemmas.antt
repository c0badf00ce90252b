-- The fields of a line up to a word, one after the other.
use Rattle.std.proofs.Common.{◌≡◌, ℕ, List, [], ◌∷◌, ◌++◌, Bool, true, false, not, length, Option, Some, None, Ok, Err, append-nil, append_assoc, arith, refl, sym, ap, subst, ◌∙◌}
use Rattle.std.specs.Prelude.{nat_eq}
use Rattle.model_device.specs.Bytes.{lookup}
use Rattle.mc_text.specs.model_text.specs.Text.{fields, is_blank, is_empty, only_if}
use Rattle.law_explore.specs.model_play.specs.declared.deck.DeckCause.TheVariants.{BadLine}
use Rattle.law_explore.specs.model_events.specs.Matching.{plain, small}
use Rattle.law_explore.specs.model_play.specs.RuleLines.{full_parts, parts_at, parts_of, with_front, Parts}
use Rattle.lab_rules.specs.Parts.{AreFullParts}

-- ---- plain texts

plain_cons : (c : ℕ) (t u : List ℕ) (b : Bool) → is_blank c ≡ b → plain (t ++ u) ≡ plain t ++ plain u → plain (c ∷ (t ++ u)) ≡ plain (c ∷ t) ++ plain u
plain_cons c t u true e h = rw e h
plain_cons c t u false e h = rw e (ap (λ l. small c ∷ l) h)

plain_append : (t u : List ℕ) → plain (t ++ u) ≡ plain t ++ plain u
plain_append [] u = refl
plain_append (c ∷ t) u = plain_cons c t u (is_blank c) refl (plain_append t u)

empty_append : (t u : List ℕ) → is_empty u ≡ false → is_empty (t ++ u) ≡ false
empty_append [] u h = h
empty_append (c ∷ t) u h = refl

not_empty : (t : List ℕ) → is_empty (plain t) ≡ false → is_empty t ≡ false
not_empty [] h = h
not_empty (c ∷ t) h = refl

length_empty : (t : List ℕ) (b : Bool) → nat_eq (length t) 0 ≡ b → is_empty t ≡ b
length_empty [] true h = refl
length_empty [] false h = absurd (cc h)
length_empty (c ∷ t) true h = absurd (grind (arith, h))
length_empty (c ∷ t) false h = refl

-- ---- fields before a word

module _ {W : Type 0} (words : List (List ℕ × W)) where
  -- some fields of a line, plain, and those that are left
  pub record PartsLeft (all left : List (List ℕ)) (pattern : List ℕ) : Type 0 where
    pub front : List ℕ
    pub is : pattern ≡ plain front
    pub empty : is_empty (plain front) ≡ is_empty front
    pub leads : parts_of words all ≡ with_front front (parts_of words left)

  front_none : (o : Option (Parts W)) → o ≡ with_front [] o
  front_none None = refl
  front_none (Some (a, b, c)) = refl

  front_more : (f g : List ℕ) (o : Option (Parts W)) → with_front f (with_front g o) ≡ with_front (f ++ g) o
  front_more f g None = refl
  front_more f g (Some (a, b, c)) = ap (λ t. Some (t, b, c)) (sym (append_assoc f g a))

  -- no field yet
  pub parts_start : (all : List (List ℕ)) (pattern : List ℕ) → pattern ≡ [] → PartsLeft all all pattern
  parts_start all pattern e = record { front = []; is = e; empty = refl; leads = front_none (parts_of words all) }

  -- one more field
  pub parts_step : (all left : List (List ℕ)) (pattern f : List ℕ) (fs : List (List ℕ)) (more : List ℕ) → left ≡ f ∷ fs → None ≡ lookup words f → is_empty (plain f) ≡ false → more ≡ pattern ++ plain f
      → PartsLeft all left pattern → PartsLeft all fs more
  parts_step all left pattern f fs more e n b m h =
      let next : parts_of words left ≡ with_front f (parts_of words fs) = ap (parts_of words) e ∙ ap (λ o. parts_at o f fs (parts_of words fs)) (sym n) in
      record {
        front = h.front ++ f;
        is = m ∙ ap (λ t. t ++ plain f) h.is ∙ sym (plain_append h.front f);
        empty =
            ap is_empty (plain_append h.front f) ∙ empty_append (plain h.front) (plain f) b ∙ sym (empty_append h.front f (not_empty f b));
        leads = h.leads ∙ ap (with_front h.front) next ∙ front_more h.front f (parts_of words fs);
      }

  -- the word
  found : (all left : List (List ℕ)) (pattern f : List ℕ) (fs : List (List ℕ)) (v : W) → left ≡ f ∷ fs → Some v ≡ lookup words f → (h : PartsLeft all left pattern) → parts_of words all ≡ Some (h.front, v, fs)
  found all left pattern f fs v e n h =
      h.leads ∙ ap (λ ls. with_front h.front (parts_of words ls)) e ∙ ap (λ o. with_front h.front (parts_at o f fs (parts_of words fs))) (sym n)
      ∙ ap (λ t. Some (t, v, fs)) (append-nil h.front)

  full_by : (b : Bool) (p : Parts W) → is_empty p.0 ≡ b → full_parts (Some p) ≡ only_if (not b) BadLine p
  full_by b p e = ap (λ b. only_if (not b) BadLine p) e

  -- some fields before a word
  pub parts_found : (all left : List (List ℕ)) (pattern f rest : List ℕ) (v : W) → left ≡ f ∷ fields rest → Some v ≡ lookup words f → nat_eq (length pattern) 0 ≡ false → PartsLeft all left pattern
      → AreFullParts pattern v rest (full_parts (parts_of words all))
  parts_found all left pattern f rest v e n b h =
      let full : is_empty h.front ≡ false = sym h.empty ∙ ap is_empty (sym h.is) ∙ length_empty pattern false b in
      let i : full_parts (parts_of words all) ≡ Ok (h.front, v, fields rest) = ap full_parts (found all left pattern f (fields rest) v e n h) ∙ full_by false (h.front, v, fields rest) full in
      subst (AreFullParts pattern v rest) (sym i) (record { is = h.is; word = refl; behind = refl })

  -- no word
  pub parts_none : (all left : List (List ℕ)) (pattern : List ℕ) → left ≡ [] → PartsLeft all left pattern → full_parts (parts_of words all) ≡ Err BadLine
  parts_none all left pattern e h = ap full_parts (h.leads ∙ ap (λ ls. with_front h.front (parts_of words ls)) e)
