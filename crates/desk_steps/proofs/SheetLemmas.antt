-- How a sheet holds more of a text.
use Rattle.std.proofs.Common.{◌≡◌, ℕ, false, is_none, List, [], ◌∷◌, ◌++◌, Option, Some, None, ◌≤◌, drop, length, ap, sym, subst, ◌∙◌, append_assoc, append-nil}
use Rattle.std.proofs.Math.ListN.{drop_of_length-le}
use Rattle.mc_streams.specs.declared.refusals.WriteFault.{WriteFault}
use Rattle.mc_text.specs.Texts.{sunk, Sunk, Writes, Fails, Puts}
use Rattle.mc_text.proofs.TextLemmas.{writes_none, fails_before}
use Rattle.mc_streams.specs.declared.sink.Sink.{Ghosts}
use Rattle.desk_steps.specs.Json.{character, characters}
use Rattle.desk_steps.specs.declared.sheet.Sheet.{Sheet}
use Rattle.desk_steps.specs.Sheets.{adds_as, adds_none, adds_on, written_by, Adds, HoldsBy, PutsOn}

-- nothing yet
pub holds_none : (f : Option WriteFault) (a b : Sunk) (g : List ℕ) → f ≡ None → g ≡ [] → b ≡ a → HoldsBy f a [] g b
holds_none None a b g none empty same = ([], sym empty, subst (λ (b : Sunk). Writes a [] b) (sym same) (writes_none a))
holds_none (Some f) a b g none empty same = absurd (cc none)

-- a piece more is gathered
pub holds_more : (f : Option WriteFault) (a b : Sunk) (whole g piece : List ℕ) → HoldsBy f a whole g b → HoldsBy f a (whole ++ piece) (g ++ piece) b
holds_more None a b whole g piece h = (h.0, ap (λ (t : List ℕ). t ++ piece) h.1 ∙ append_assoc h.0 g piece, h.2)
holds_more (Some f) a b whole g piece h = fails_before piece h

-- after a fault nothing is written
pub holds_still : (f : Option WriteFault) (a b : Sunk) (whole g k : List ℕ) → is_none f ≡ false → HoldsBy f a whole g b → HoldsBy f a (whole ++ []) k b
holds_still None a b whole g k some h = absurd (cc some)
holds_still (Some f) a b whole g k some h = subst (λ (t : List ℕ). Fails a t b) (sym (append-nil whole)) h

-- a text that is held without anything gathered was put
pub holds_whole : (f : Option WriteFault) (a b : Sunk) (whole : List ℕ) → HoldsBy f a whole [] b → Puts a whole (written_by f) b
holds_whole None a b whole h = subst (λ (t : List ℕ). Writes a t b) (sym (h.1 ∙ append-nil h.0)) h.2
holds_whole (Some w) a b whole h = h

-- what a sink took and its faults are all of its state
holds_same : (f : Option WriteFault) (a : Sunk) (whole : List ℕ) (y z : Sunk) → y.taken ≡ z.taken → y.faults ≡ z.faults → HoldsBy f a whole [] y → HoldsBy f a whole [] z
holds_same f a whole y z taken faults h = rw (← taken, ← faults) h

module _ {T : Type 0} (sink : Ghosts T) where
  -- a text on a sheet that was begun on a sink, and that has nothing gathered at its end
  pub sheet_put : (f g : Option WriteFault) (x y : Sunk) (text : List ℕ) (q r : Sheet T) → q.fault ≡ f → q.text.items ≡ [] → sunk sink q.out.now ≡ x → Adds sink q text r → r.text.items ≡ [] → g ≡ r.fault → (sunk sink r.out.now).taken ≡ y.taken → (sunk sink r.out.now).faults ≡ y.faults → PutsOn f x text g y
  sheet_put f g x y text q r fault empty from adds flushed is taken faults = record {
    on = λ a whole h.
        let now : Sunk = sunk sink r.out.now in
        let one : HoldsBy q.fault a whole [] x = subst (λ (k : Option WriteFault). HoldsBy k a whole [] x) (sym fault) h in
        let two : HoldsBy q.fault a whole [] (sunk sink q.out.now) = subst (λ (k : Sunk). HoldsBy q.fault a whole [] k) (sym from) one in
        let three : HoldsBy q.fault a whole q.text.items (sunk sink q.out.now) = subst (λ (k : List ℕ). HoldsBy q.fault a whole k (sunk sink q.out.now)) (sym empty) two in
        let four : HoldsBy r.fault a (whole ++ text) r.text.items now = adds.holds a whole three in
        let five : HoldsBy r.fault a (whole ++ text) [] now = subst (λ (k : List ℕ). HoldsBy r.fault a (whole ++ text) k now) flushed four in
        let six : HoldsBy g a (whole ++ text) [] now = subst (λ (k : Option WriteFault). HoldsBy k a (whole ++ text) [] now) (sym is) five in
        holds_same g a (whole ++ text) now y taken faults six;
  }

-- ---- loops over bytes

-- the first of some characters
pub one_character : (c : ℕ) (cs : List ℕ) → characters (c ∷ cs) ≡ characters (c ∷ []) ++ characters cs
one_character c cs = ap (λ (t : List ℕ). t ++ characters cs) (sym (append-nil (character c)))

module _ {T : Type 0} (sink : Ghosts T) (text : List ℕ → List ℕ) where
  -- what is added of the bytes that are left, is added of all bytes from the start
  abbrev pub Leads : Sheet T → List ℕ → Sheet T → List ℕ → Type 0
  Leads q all l left = (r : Sheet T) → Adds sink l (text left) r → Adds sink q (text all) r

  -- one byte more
  pub leads_on : (q l m : Sheet T) (all left rest : List ℕ) (b : ℕ) → left ≡ b ∷ rest → text (b ∷ rest) ≡ text (b ∷ []) ++ text rest → Adds sink l (text (b ∷ [])) m → Leads q all l left → Leads q all m rest
  leads_on q l m all left rest b here parts adds so r last =
      so r (adds_as sink l r (text (b ∷ []) ++ text rest) (text left) (sym parts ∙ ap text (sym here)) (adds_on sink l m r (text (b ∷ [])) (text rest) adds last))

  -- after the last byte
  pub leads_end : (q l : Sheet T) (all : List ℕ) (i : ℕ) → length all ≤ i → text [] ≡ [] → Leads q all l (drop i all) → Adds sink q (text all) l
  leads_end q l all i past none so =
      let nothing : text (drop i all) ≡ [] = ap text (drop_of_length-le all past) ∙ none in
      so l (adds_as sink l l [] (text (drop i all)) (sym nothing) (adds_none sink l))
