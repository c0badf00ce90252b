-- Two maps that agree on one side of a family, and that changes keep the agreement.
use Rattle.std.specs.Prelude.{◌≡◌, ℕ, Bool, true, false, not, List, [], ◌∷◌, bytes_eq, Option, Some, None}
use Rattle.std.proofs.Common.{arith, refl, ap, sym, subst, ◌∙◌}
use Rattle.model_play.specs.model_device.specs.Bytes.{has_name, lookup, insert, remove}
use Rattle.model_play.specs.model_device.specs.Card.{App, app_at_place}
use Rattle.model_play.specs.model_machine.specs.Chain.{with_pieces, changed_app, map_changed}
use Rattle.model_play.specs.model_card.specs.Items.{Change, Fixed, Created, Deleted, Item, Plain, Atomic, apps_after_change, apps_after_items}
use Rattle.model_play.specs.model_device.proofs.MapLemmas.{same_name, apart, lookup_inserted_lem, lookup_beside, lookup_removed_lem, lookup_left}

-- an application without its place, if there is one
abbrev pub bare : Option App → Option App
bare None = None
bare (Some a) = Some (app_at_place 0 a)

-- the maps have equal applications under all names of one side of K: those in it (true), or all others (false)
abbrev pub MapsAgree : List (List ℕ) → Bool → List (List ℕ × App) → List (List ℕ × App) → Type 0
MapsAgree K x m d = (k : List ℕ) → has_name k K ≡ x → bare (lookup m k) ≡ bare (lookup d k)

module _ (K : List (List ℕ)) (x : Bool) where
  -- ---- one change on both sides

  pub agree_inserted : (m d : List (List ℕ × App)) (n : List ℕ) (a b : App) → app_at_place 0 a ≡ app_at_place 0 b → MapsAgree K x m d → MapsAgree K x (insert m n a) (insert d n b)
  agree_inserted m d n a b e h k on = by_test (bytes_eq n k) refl
    where
      by_test : (y : Bool) → bytes_eq n k ≡ y → bare (lookup (insert m n a) k) ≡ bare (lookup (insert d n b) k)
      by_test true is =
          subst (λ (j : List ℕ). bare (lookup (insert m n a) j) ≡ bare (lookup (insert d n b) j)) (same_name n k is)
          (ap bare (lookup_inserted_lem m n a) ∙ (ap (λ (c : App). Some c) e ∙ sym (ap bare (lookup_inserted_lem d n b))))
      by_test false is = ap bare (lookup_beside m n a k is) ∙ (h k on ∙ sym (ap bare (lookup_beside d n b k is)))

  pub agree_removed : (m d : List (List ℕ × App)) (n : List ℕ) → MapsAgree K x m d → MapsAgree K x (remove m n) (remove d n)
  agree_removed m d n h k on = by_test (bytes_eq n k) refl
    where
      by_test : (y : Bool) → bytes_eq n k ≡ y → bare (lookup (remove m n) k) ≡ bare (lookup (remove d n) k)
      by_test true is =
          subst (λ (j : List ℕ). bare (lookup (remove m n) j) ≡ bare (lookup (remove d n) j)) (same_name n k is)
          (ap bare (lookup_removed_lem m n) ∙ sym (ap bare (lookup_removed_lem d n)))
      by_test false is = ap bare (lookup_left m n k is) ∙ (h k on ∙ sym (ap bare (lookup_left d n k is)))

  -- ---- a change of a name of the other side

  -- a map is as before on this side
  pub agree_beside : (m : List (List ℕ × App)) (n : List ℕ) (a : App) → has_name n K ≡ not x → MapsAgree K x (insert m n a) m
  agree_beside m n a off k on = grind (arith, lookup_beside, apart)

  pub agree_left : (m : List (List ℕ × App)) (n : List ℕ) → has_name n K ≡ not x → MapsAgree K x (remove m n) m
  agree_left m n off k on = grind (arith, lookup_left, apart)

  pub agree_changed_app : (m : List (List ℕ × App)) (n : List ℕ) (ps : List (ℕ × List ℕ)) (o : Option App) → has_name n K ≡ not x → MapsAgree K x (changed_app m n ps o) m
  agree_changed_app m n ps None off k on = refl
  agree_changed_app m n ps (Some a) off k on = agree_beside m n (with_pieces ps a) off k on

  pub agree_joined : (m d e : List (List ℕ × App)) → MapsAgree K x m d → MapsAgree K x d e → MapsAgree K x m e
  agree_joined m d e g h k on = g k on ∙ h k on

  pub agree_back : (m d : List (List ℕ × App)) → MapsAgree K x m d → MapsAgree K x d m
  agree_back m d h k on = sym (h k on)

  -- ---- static changes

  on_both : (m d : List (List ℕ × App)) (n : List ℕ) (ps : List (ℕ × List ℕ)) (o p : Option App) → bare o ≡ bare p → MapsAgree K x m d → MapsAgree K x (changed_app m n ps o) (changed_app d n ps p)
  on_both m d n ps o p e h = grind (arith, agree_inserted)

  by_side : (y z : Bool) (m d : List (List ℕ × App)) (n : List ℕ) (ps : List (ℕ × List ℕ)) → x ≡ z → has_name n K ≡ y → MapsAgree K x m d → MapsAgree K x (map_changed m n (Some ps)) (map_changed d n (Some ps))
  by_side y z m d n ps e is h = grind (arith, on_both, agree_joined, agree_changed_app, agree_back)

  pub agree_map_changed : (m d : List (List ℕ × App)) (n : List ℕ) (o : Option (List (ℕ × List ℕ))) → MapsAgree K x m d → MapsAgree K x (map_changed m n o) (map_changed d n o)
  agree_map_changed m d n None h = h
  agree_map_changed m d n (Some ps) h = by_side (has_name n K) x m d n ps refl refl h

  -- ---- items

  pub agree_changed : (c : Change) (m d : List (List ℕ × App)) → MapsAgree K x m d → MapsAgree K x (apps_after_change c m) (apps_after_change c d)
  agree_changed (Fixed n ps) m d h = agree_map_changed m d n (Some ps) h
  agree_changed (Created n a) m d h = agree_inserted m d n a a refl h
  agree_changed (Deleted n) m d h = agree_removed m d n h

  -- items done to both
  pub agree_done : (is : List Item) (m d : List (List ℕ × App)) → MapsAgree K x m d → MapsAgree K x (apps_after_items m is) (apps_after_items d is)
  agree_done [] m d h = h
  agree_done (Plain ∷ is) m d h = agree_done is m d h
  agree_done (Atomic w c ∷ is) m d h = agree_done is (apps_after_change c m) (apps_after_change c d) (agree_changed c m d h)
