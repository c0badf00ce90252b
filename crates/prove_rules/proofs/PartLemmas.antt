-- The fields of a line up to a word, one after the other.
use Rattle.std.proofs.Common.{◌≡◌, ℕ, List, [], ◌∷◌, ◌++◌, Option, Some, None, Bool, true, false, append-nil, append_assoc, refl, sym, ap, subst, ◌∙◌}
use Rattle.mc_words.specs.model_device.specs.Bytes.{lookup}
use Rattle.mc_text.specs.model_text.specs.Text.{fields, is_blank, is_empty}
use Rattle.model_rule_text.specs.model_events.specs.Matching.{plain, small}
use Rattle.model_rule_text.specs.model_play.specs.RuleLines.{parts_at, parts_of, with_front, Parts}
use Rattle.model_rule_text.specs.model_play.specs.declared.deck.DeckCause.TheVariants.{BadLine}
use Rattle.prove_rules.specs.declared.fault.Fault.{Fault}
use Rattle.prove_rules.specs.declared.fault.Fault.TheVariants as fault
use Rattle.prove_rules.specs.declared.fault.RuleCause.TheVariants as cause
use Rattle.prove_rules.specs.Parts.{HasNoParts, HasParts}

-- ---- plain texts

plain_cons : (c : ℕ) (t u : List ℕ) (b : Bool) → is_blank c ≡ b → plain (t ++ u) ≡ plain t ++ plain u → plain (c ∷ (t ++ u)) ≡ plain (c ∷ t) ++ plain u
plain_cons c t u true e h = rw e h
plain_cons c t u false e h = rw e (ap (λ l. small c ∷ l) h)

plain_append : (t u : List ℕ) → plain (t ++ u) ≡ plain t ++ plain u
plain_append [] u = refl
plain_append (c ∷ t) u = plain_cons c t u (is_blank c) refl (plain_append t u)

empty_append : (t u : List ℕ) → is_empty u ≡ false → is_empty (t ++ u) ≡ false
empty_append [] u h = h
empty_append (c ∷ t) u h = refl

not_empty : (t : List ℕ) → is_empty (plain t) ≡ false → is_empty t ≡ false
not_empty [] h = h
not_empty (c ∷ t) h = refl

-- ---- fields before a word

module _ {W : Type 0} (words : List (List ℕ × W)) where
  -- some fields of a line, plain, and those that are left
  pub record PartsLeft (all left : List (List ℕ)) (text : List ℕ) : Type 0 where
    pub front : List ℕ
    pub pattern : text ≡ plain front
    pub empty : is_empty front ≡ is_empty text
    pub leads : (f : List ℕ) (w : W) (rest : List (List ℕ)) → parts_of words left ≡ Some (f, w, rest) → parts_of words all ≡ Some (front ++ f, w, rest)
    pub none : parts_of words left ≡ None → parts_of words all ≡ None

  -- no field yet
  pub parts_start : (all : List (List ℕ)) (text : List ℕ) → text ≡ [] → PartsLeft all all text
  parts_start all text e = record { front = []; pattern = e; empty = ap is_empty (sym e); leads = λ f w rest h. h; none = λ h. h }

  -- one more field
  pub parts_step : (all left : List (List ℕ)) (text f : List ℕ) (fs : List (List ℕ)) (more : List ℕ) → left ≡ f ∷ fs → None ≡ lookup words f → is_empty (plain f) ≡ false → more ≡ text ++ plain f
      → PartsLeft all left text → PartsLeft all fs more
  parts_step all left text f fs more e n b m h = record {
    front = h.front ++ f;
    pattern = m ∙ ap (λ t. t ++ plain f) h.pattern ∙ sym (plain_append h.front f);
    empty = empty_append h.front f (not_empty f b) ∙ sym (empty_append text (plain f) b) ∙ ap is_empty (sym m);
    leads = λ g w rest i. h.leads (f ++ g) w rest (ap (parts_of words) e ∙ ap (λ o. parts_at o f fs (parts_of words fs)) (sym n) ∙ ap (with_front f) i) ∙ ap (λ t. Some (t, w, rest)) (sym (append_assoc h.front f g));
    none = λ i. h.none (ap (parts_of words) e ∙ ap (λ o. parts_at o f fs (parts_of words fs)) (sym n) ∙ ap (with_front f) i);
  }

  -- the word
  pub parts_found : (all left : List (List ℕ)) (text f rest : List ℕ) (w : W) → left ≡ f ∷ fields rest → Some w ≡ lookup words f → PartsLeft all left text → HasParts (parts_of words all) text w rest
  parts_found all left text f rest w e n h = record {
    front = h.front;
    is = h.leads [] w (fields rest) (ap (parts_of words) e ∙ ap (λ o. parts_at o f (fields rest) (parts_of words (fields rest))) (sym n)) ∙ ap (λ t. Some (t, w, fields rest)) (append-nil h.front);
    pattern = h.pattern;
    empty = h.empty;
  }

  -- no word
  pub parts_none : (all left : List (List ℕ)) (text : List ℕ) → left ≡ [] → PartsLeft all left text → parts_of words all ≡ None
  parts_none all left text e h = h.none (ap (parts_of words) e)

-- ---- no parts

-- a line without a word, or without memory to look for it
pub none_by : {W : Type 0} (o : Option (Parts W)) (e : Fault) → o ≡ None → e ≡ fault.Cause (cause.Deck BadLine) → HasNoParts o e
none_by o e h i = subst (HasNoParts o) (sym i) (refl, h)
