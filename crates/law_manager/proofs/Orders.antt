-- The manager's table by the name of a command, and the answers to each: the one place that takes the tests apart.
use Rattle.std.proofs.Common.{◌≡◌, ℕ, ◌≤◌, Bool, true, false, cond, not, List, [], ◌∷◌, length, map, Option, Some, None, Result, Ok, Err, refl, sym, ap, subst, ◌∙◌, arith}
use Rattle.std.specs.Prelude.{⊤, ◌==◌, ◌||◌, nat_le, is_none, is_ok}
use Rattle.std.proofs.lemmas.Bool.{eqb-true, not-false}
use Rattle.model_card.specs.declared.card.Part.{Part}
use Rattle.model_card.specs.declared.card.Sizes.{Sizes}
use Rattle.model_card.specs.declared.unit.AidFault.{AidFault}
use Rattle.model_card.specs.model_device.specs.Bytes.{lookup}
use Rattle.model_card.specs.model_machine.specs.Apdu.{ApduParts}
use Rattle.model_card.specs.Units.{name_of}
use Rattle.model_card.specs.model_device.specs.Card.{App}
use Rattle.model_card.specs.Manager.{Open, SessionState, Accepted, Managed, Accepts, answer_unless, first_status, is_empty, p1p2, sizes_in, fits_limits, open_refusals, open_done, got_of, load_refusals, load_done, is_complete, dir_in, is_taken, create_refusals, create_done, delete_refusals, delete_done, manage}
use Rattle.model_card.specs.model_device.proofs.BoolLemmas.{no_value}
use Rattle.law_manager.specs.Orders.{Order, Opens, Loads, Creates, Deletes, Unknown, order_of, managed, ins_of_part, HasIns}
use Rattle.law_manager.specs.Answers.{opened_load, IsAnswer}
use Rattle.law_manager.specs.Answers as of
use Rattle.law_manager.specs.Laws.{AnswersLaw, OrderLaw}
use Rattle.model_card.specs.declared.card.Part.TheVariants as part

-- ---- the table

module _ (room : Sizes → Option ℕ) (map : List (List ℕ × App)) (session_state : SessionState) (a : ApduParts) where
  -- an answer is that to a command, which has the INS
  record Is (m : Managed) (o : Order) : Type 0 where
    answer : m ≡ managed o room map session_state a
    ins : HasIns o a.ins

  by_test : (k : ℕ) (o : Order) (n : Managed) (rest : Order) → HasIns o k → Is n rest → Is (cond (a.ins == k) (managed o room map session_state a) n) (cond (a.ins == k) o rest)
  by_test k o n rest own other = by (a.ins == k) refl
    where
      by : (b : Bool) → (a.ins == k) ≡ b → Is (cond b (managed o room map session_state a) n) (cond b o rest)
      by true e = record { answer = refl; ins = subst (HasIns o) (sym (eqb-true a.ins k e)) own }
      by false e = other

  table : Is (manage room map session_state a) (order_of a.ins)
  unfolding manage
  table =
      by_test 0x12 Opens _ _ refl (
      by_test 0x24 (Loads part.Code) _ _ refl (
      by_test 0x26 (Loads part.Data) _ _ refl (
      by_test 0x20 (Loads part.Dir) _ _ refl (
      by_test 0x22 (Loads part.Fci) _ _ refl (by_test 0x16 Creates _ _ refl (by_test 0x18 Deletes _ _ refl (record { answer = refl; ins = tt }))))))
      )

-- the manager takes a command of class BE as the command that its INS names
pub order_law : OrderLaw
order_law room map session_state a = let t = table room map session_state a in record { is = t.answer; ins = t.ins }

-- the table for an INS that is known
pub manage_is : (i : ℕ) (room : Sizes → Option ℕ) (map : List (List ℕ × App)) (session_state : SessionState) (a : ApduParts) → a.ins ≡ i → manage room map session_state a ≡ managed (order_of i) room map session_state a
manage_is i room map session_state a is = (order_law room map session_state a).is ∙ ap (λ (k : ℕ). managed (order_of k) room map session_state a) is

-- the INS of a LOAD for a section names it
pub part_order : (p : Part) → order_of (ins_of_part p) ≡ Loads p
part_order part.Code = refl
part_order part.Data = refl
part_order part.Dir = refl
part_order part.Fci = refl

-- ---- refusals

-- the statuses of refusals are none of a done command
abbrev AreRefusals : List (ℕ × Bool) → Type 0
AreRefusals [] = ⊤
AreRefusals (c ∷ cs) = ((c.0 == 0x9000) ≡ false) × AreRefusals cs

abbrev IsRefusal : Option ℕ → Type 0
IsRefusal None = ⊤
IsRefusal (Some sw) = (sw == 0x9000) ≡ false

status_refusal : (cs : List (ℕ × Bool)) → AreRefusals cs → IsRefusal (first_status cs)
status_refusal [] h = tt
status_refusal (c ∷ cs) h = by_test c.1 (status_refusal cs h.1)
  where
    by_test : (b : Bool) → IsRefusal (first_status cs) → IsRefusal (cond b (Some c.0) (first_status cs))
    by_test true r = h.0
    by_test false r = r

-- if no refusal holds, the first does not
none_of : (b : Bool) (sw : ℕ) (rest : Option ℕ) → cond b (Some sw) rest ≡ None → (b ≡ false) × (rest ≡ None)
none_of true sw rest h = absurd (cc h)
none_of false sw rest h = (refl, h)

no_refusal : {X : Type 0} (sw : ℕ) → Some sw ≡ None → X
no_refusal sw h = absurd (cc h)

or_false : (x y : Bool) → (x || y) ≡ false → x ≡ false
or_false true y e = absurd (cc e)
or_false false y e = refl

at_most : (n : ℕ) → nat_le 32 n ≡ false → n ≤ 31
at_most n h = grind (arith, h)

-- ---- answers

module _ (room : Sizes → Option ℕ) (apps : List (List ℕ × App)) (session_state : SessionState) (a : ApduParts) where
  Answers : Order → Managed → Type 0
  Answers o m = IsAnswer room apps session_state a o m

  unless : (o : Order) (cs : List (ℕ × Bool)) (d : Accepted) → AreRefusals cs → (first_status cs ≡ None → Answers o (Accepts d)) → Answers o (answer_unless (first_status cs) d)
  unfolding Answers
  unless o cs d are h = by (first_status cs) (status_refusal cs are) h
    where
      by : (x : Option ℕ) → IsRefusal x → (x ≡ None → IsAnswer room apps session_state a o (Accepts d)) → IsAnswer room apps session_state a o (answer_unless x d)
      by (Some sw) r g = of.refused o sw r
      by None r g = g refl

  opens : Answers Opens (managed Opens room apps session_state a)
  unfolding Answers
  opens =
      unless Opens (open_refusals room apps a) (open_done room session_state a) (refl, (refl, (refl, (refl, tt)))) (λ e.
      let three = none_of _ 0x6A80 _ (none_of _ 0x6700 _ (none_of _ 0x6A86 _ e).1).1 in
      let below = or_false (nat_le 32 (length apps)) (is_none (room (sizes_in a))) (none_of _ 0x6A84 _ three.1).0 in
      of.quiet Opens [] (Some (opened_load room a)) (of.opens (record { limits = not-false (fits_limits (sizes_in a)) three.0; few = at_most (length apps) below })))

  loads : (p : Part) (load : Option Open) → session_state.load ≡ load → Answers (Loads p) (answer_unless (first_status (load_refusals load p a)) (load_done session_state load p a))
  unfolding Answers
  loads p None is = unless (Loads p) (load_refusals None p a) (load_done session_state None p a) (refl, (refl, tt)) (λ e. no_refusal 0x6985 (none_of _ 0x6700 _ e).1)
  loads p (Some l) is =
      unless (Loads p) (load_refusals (Some l) p a) (load_done session_state (Some l) p a) (refl, (refl, (refl, tt))) (λ e.
      let two = none_of _ 0x6985 _ (none_of _ 0x6700 _ e).1 in
      of.loaded p l (record { is = is; at = eqb-true (p1p2 a) (length (got_of p l.got)) (not-false (p1p2 a == length (got_of p l.got)) two.0) }))

  -- the refusals of a CREATE for an open load, by its name
  abbrev create_causes : Open → Result (List ℕ) AidFault → List (ℕ × Bool)
  create_causes l n =
      (0x6A86, not (p1p2 a == 0)) ∷ (0x6700, not (is_empty a.body)) ∷ (0x6985, not (is_complete l)) ∷ (0x6A80, not (is_ok n)) ∷ (0x6A89, is_taken apps n) ∷ []

  creates_named : (l : Open) (n : Result (List ℕ) AidFault) → session_state.load ≡ Some l → name_of l.got.dir ≡ n
      → Answers Creates (answer_unless (first_status (create_causes l n)) (create_done session_state (Some l) n))
  unfolding Answers
  creates_named l (Err f) is name =
      unless Creates (create_causes l (Err f)) (create_done session_state (Some l) (Err f)) (refl, (refl, (refl, (refl, (refl, tt))))) (λ e.
      no_refusal 0x6A80 (none_of _ 0x6985 _ (none_of _ 0x6700 _ (none_of _ 0x6A86 _ e).1).1).1)
  creates_named l (Ok n) is name =
      unless Creates (create_causes l (Ok n)) (create_done session_state (Some l) (Ok n)) (refl, (refl, (refl, (refl, (refl, tt))))) (λ e.
      let three = none_of _ 0x6985 _ (none_of _ 0x6700 _ (none_of _ 0x6A86 _ e).1).1 in
      let five = none_of (is_taken apps (Ok n)) 0x6A89 None three.1 in
      of.created l n (record { is = is; complete = not-false (is_complete l) three.0; name = name; free = no_value (lookup apps n) five.0 }))

  creates : (load : Option Open) → session_state.load ≡ load → Answers Creates (answer_unless (first_status (create_refusals apps load a)) (create_done session_state load (name_of (dir_in load))))
  unfolding Answers
  creates None is =
      unless Creates (create_refusals apps None a) (create_done session_state None (name_of [])) (refl, (refl, (refl, (refl, (refl, tt))))) (λ e.
      no_refusal 0x6985 (none_of _ 0x6700 _ (none_of _ 0x6A86 _ e).1).1)
  creates (Some l) is = creates_named l (name_of l.got.dir) is refl

  deletes : Answers Deletes (managed Deletes room apps session_state a)
  unfolding Answers
  deletes =
      unless Deletes (delete_refusals apps session_state a) (delete_done session_state a) (refl, (refl, (refl, (refl, tt)))) (λ e.
      of.deleted (record { other = (none_of _ 0x6985 _ (none_of _ 0x6A82 _ (none_of _ 0x6700 _ (none_of _ 0x6A86 _ e).1).1).1).0 }))

-- each answer of the manager is a refusal, or what its command does if no refusal holds
pub answers_law : AnswersLaw
unfolding Answers
answers_law Opens room apps session_state a = opens room apps session_state a
answers_law (Loads p) room apps session_state a = loads room apps session_state a p session_state.load refl
answers_law Creates room apps session_state a = creates room apps session_state a session_state.load refl
answers_law Deletes room apps session_state a = deletes room apps session_state a
answers_law Unknown room apps session_state a = of.refused Unknown 0x6D00 refl

-- of a command that the table names
pub answer_made : (room : Sizes → Option ℕ) (apps : List (List ℕ × App)) (session_state : SessionState) (a : ApduParts) → IsAnswer room apps session_state a (order_of a.ins) (manage room apps session_state a)
answer_made room apps session_state a =
    subst (λ (m : Managed). IsAnswer room apps session_state a (order_of a.ins) m) (sym (order_law room apps session_state a).is) (answers_law (order_of a.ins) room apps session_state a)
