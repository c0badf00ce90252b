-- The rows of a sweep's text: swept lines, and marks that are of none.
use Rattle.std.specs.Prelude.{◌≡◌, ◌+◌, ◌<◌, ◌≤◌, ℕ, zero, suc, drop, get_or, Bool, true, false, not, ◌&&◌, codes, decimal, length, List, [], ◌∷◌, ◌++◌, Option, Some, None, Result, Ok, refl}
use Rattle.std.proofs.Common.{ap, sym, subst, ◌∙◌, append_assoc, arith}
use Rattle.std.proofs.lemmas.List.{append-nil}
use Rattle.mc_streams.specs.declared.refusals.WriteFault.{WriteFault}
use Rattle.mc_text.specs.Texts.{Sunk, Puts, Fails, Writes}
use Rattle.mc_text.proofs.TextLemmas.{fails_before, fails_then, puts_as, puts_then, writes_none}
use Rattle.mc_lab.specs.Remarks.{Remark}
use Rattle.mc_lab.specs.Remarked.{remark_value, remark_values}
use Rattle.mc_lab.specs.declared.remark.Remark.{Remark as Found}
use Rattle.mc_lab.specs.declared.sweep_word.SweepWord.{SweepWord}
use Rattle.mc_lab.specs.Sweeps.{all_marks, are_fine, is_above, is_broken, is_fine, is_guarded, left_behind, left_if, line_end, mark_text, marks_after, row_text, row_unless, rows_above, rows_if, rows_of, rows_text, rows_to, runs, runs_text, swept_text, MarksLeft, Row, Swept, SweptRow}
use Rattle.mc_lab.specs.SweepEnds.{AddsFine, IsLineOf}

-- ---- rows

-- the text of two lists of rows is one after the other
pub rows_append : (marks : List Remark) (xs ys : List Row) → rows_text marks (xs ++ ys) ≡ rows_text marks xs ++ rows_text marks ys
rows_append marks [] ys = refl
rows_append marks (x ∷ xs) ys = ap (λ (t : List ℕ). row_text marks x ++ t) (rows_append marks xs ys) ∙ sym (append_assoc (row_text marks x) (rows_text marks xs) (rows_text marks ys))

and_assoc : (a b c : Bool) → ((a && b) && c) ≡ (a && (b && c))
and_assoc true b c = refl
and_assoc false b c = refl

-- two lists of rows are fine if each is
pub fine_append : (marks : List Remark) (xs ys : List Row) → are_fine marks (xs ++ ys) ≡ (are_fine marks xs && are_fine marks ys)
fine_append marks [] ys = refl
fine_append marks (x ∷ xs) ys = ap (λ (b : Bool). is_fine marks x && b) (fine_append marks xs ys) ∙ sym (and_assoc (is_fine marks x) (are_fine marks xs) (are_fine marks ys))

-- rows of marks do not depend on which marks there are
unless_text : (marks : List Remark) (b : Bool) (n : ℕ) (rs ss : List Row) → rows_text marks rs ≡ rows_text [] ss → rows_text marks (row_unless b n rs) ≡ rows_text [] (row_unless b n ss)
unless_text marks true n rs ss e = e
unless_text marks false n rs ss e = ap (λ (t : List ℕ). mark_text n ++ t) e

if_text : (marks : List Remark) (b : Bool) (rs ss : List Row) → rows_text marks rs ≡ rows_text [] ss → rows_text marks (rows_if b rs) ≡ rows_text [] (rows_if b ss)
if_text marks true rs ss e = e
if_text marks false rs ss e = refl

-- the text of the marks above a line is that of the marks alone
pub above_text : (marks : List Remark) (number last : Option ℕ) (ms : List Remark) → rows_text marks (rows_above number last ms) ≡ rows_text [] (rows_above number last ms)
above_text marks number last [] = refl
above_text marks number last (m ∷ ms) = grind (arith, if_text, unless_text, above_text marks number last ms)

unless_fine : (marks : List Remark) (b : Bool) (n : ℕ) (rs ss : List Row) → are_fine marks rs ≡ are_fine [] ss → are_fine marks (row_unless b n rs) ≡ are_fine [] (row_unless b n ss)
unless_fine marks true n rs ss e = e
unless_fine marks false n rs ss e = refl

if_fine : (marks : List Remark) (b : Bool) (rs ss : List Row) → are_fine marks rs ≡ are_fine [] ss → are_fine marks (rows_if b rs) ≡ are_fine [] (rows_if b ss)
if_fine marks true rs ss e = e
if_fine marks false rs ss e = refl

-- so is whether they are fine
pub above_fine : (marks : List Remark) (number last : Option ℕ) (ms : List Remark) → are_fine marks (rows_above number last ms) ≡ are_fine [] (rows_above number last ms)
above_fine marks number last [] = refl
above_fine marks number last (m ∷ ms) = grind (arith, if_fine, unless_fine, above_fine marks number last ms)

-- ---- the marks above a line, one after the other

-- a mark above the line
pub above_step : (number last : Option ℕ) (m : Remark) (ms : List Remark) → is_above number m ≡ true → rows_above number last (m ∷ ms) ≡ row_unless (is_guarded last m) m.number (rows_above number last ms)
above_step number last m ms h = ap (λ (b : Bool). rows_if b (row_unless (is_guarded last m) m.number (rows_above number last ms))) h

-- the marks above a line end at the first that is not
pub above_end : (number last : Option ℕ) (m : Remark) (ms : List Remark) → is_above number m ≡ false → rows_above number last (m ∷ ms) ≡ []
above_end number last m ms h = ap (λ (b : Bool). rows_if b (row_unless (is_guarded last m) m.number (rows_above number last ms))) h

-- a mark above a line is left out of those after it
pub behind_step : (number : Option ℕ) (m : Remark) (ms : List Remark) → is_above number m ≡ true → left_behind number (m ∷ ms) ≡ left_behind number ms
behind_step number m ms h = ap (λ (b : Bool). left_if b (left_behind number ms) (m ∷ ms)) h

-- the marks after a line begin with the first that is not above it
pub behind_end : (number : Option ℕ) (m : Remark) (ms : List Remark) → is_above number m ≡ false → left_behind number (m ∷ ms) ≡ m ∷ ms
behind_end number m ms h = ap (λ (b : Bool). left_if b (left_behind number ms) (m ∷ ms)) h

unless_split : (b : Bool) (n : ℕ) (rs : List Row) → rows_text [] (row_unless b n rs) ≡ rows_text [] (row_unless b n []) ++ rows_text [] rs
unless_split true n rs = refl
unless_split false n rs = ap (λ (t : List ℕ). t ++ rows_text [] rs) (sym (append-nil (mark_text n)))

unless_whole : (b : Bool) (n : ℕ) (rs : List Row) → are_fine [] (row_unless b n rs) ≡ (b && are_fine [] rs)
unless_whole true n rs = refl
unless_whole false n rs = refl

-- what is left to do of some marks leads where all of them lead
pub record AboveLeft (number last : Option ℕ) (all ms : List Remark) (whole : Bool) (a b : Sunk) : Type 0 where
  pub reported : (r : Result (Unit {0}) WriteFault) (c : Sunk) → Puts b (rows_text [] (rows_above number last ms)) r c → Puts a (rows_text [] (rows_above number last all)) r c
  pub fine : (whole && are_fine [] (rows_above number last ms)) ≡ are_fine [] (rows_above number last all)
  pub behind : left_behind number ms ≡ left_behind number all

-- before the first mark all of them are left to do
pub above_start : (number last : Option ℕ) (ms : List Remark) (a : Sunk) → AboveLeft number last ms ms true a a
above_start number last ms a = record { reported = λ r c p. p; fine = refl; behind = refl }

module _ (number last : Option ℕ) (all ms : List Remark) (m : Remark) (whole : Bool) (a b : Sunk) (left : AboveLeft number last all (m ∷ ms) whole a b) (above : is_above number m ≡ true) where
  split : rows_text [] (rows_above number last (m ∷ ms)) ≡ rows_text [] (row_unless (is_guarded last m) m.number []) ++ rows_text [] (rows_above number last ms)
  split = ap (rows_text []) (above_step number last m ms above) ∙ unless_split (is_guarded last m) m.number (rows_above number last ms)

  -- the line of the mark fails
  pub above_fails : (c : Sunk) → Fails b (rows_text [] (row_unless (is_guarded last m) m.number [])) c → Fails b (rows_text [] (rows_above number last (m ∷ ms))) c
  above_fails c w = subst (λ (t : List ℕ). Fails b t c) (sym split) (fails_before (rows_text [] (rows_above number last ms)) w)

  -- it is written
  pub above_goes : (c : Sunk) (now : Bool) → now ≡ (whole && is_guarded last m) → Writes b (rows_text [] (row_unless (is_guarded last m) m.number [])) c → AboveLeft number last all ms now a c
  above_goes c now e w =
      record {
        reported = λ r d p. left.reported r d (puts_as b d r (sym split) (puts_then d (rows_text [] (rows_above number last ms)) r w p));
        fine = grind (arith, and_assoc, unless_whole, above_step);
        behind = sym (behind_step number m ms above) ∙ left.behind;
      }

-- no mark is above the line any more
and_true : (b : Bool) → (b && true) ≡ b
and_true true = refl
and_true false = refl

-- the lines of the marks above a line were written, and these are left
pub record AreWritten (number last : Option ℕ) (all ms : List Remark) (whole : Bool) (a b : Sunk) : Type 0 where
  pub reported : Writes a (rows_text [] (rows_above number last all)) b
  pub left : ms ≡ left_behind number all
  pub fine : whole ≡ are_fine [] (rows_above number last all)

above_done : (number last : Option ℕ) (all ms : List Remark) (whole : Bool) (a b : Sunk) → AboveLeft number last all ms whole a b → rows_above number last ms ≡ [] → left_behind number ms ≡ ms
    → AreWritten number last all ms whole a b
above_done number last all ms whole a b inv none same =
    record {
      reported = inv.reported (Ok tt) b (puts_as b b (Ok tt) (ap (rows_text []) (sym none)) (writes_none b));
      left = sym same ∙ inv.behind;
      fine = sym (and_true whole) ∙ ap (λ (rs : List Row). whole && are_fine [] rs) (sym none) ∙ inv.fine;
    }

-- ---- the marks from a place on

-- one more mark
mark_at : (d : Found) (found : List Found) (i : ℕ) → i < length found → drop i (remark_values found) ≡ remark_value (get_or found i d) ∷ drop (i + 1) (remark_values found)
mark_at d [] i lt = absurd (omega (arith, lt))
mark_at d (x ∷ xs) zero lt = refl
mark_at d (x ∷ xs) (suc i) lt =
    let one : suc i + 1 ≡ suc (i + 1) = omega arith in
    mark_at d xs i (omega (arith, lt)) ∙ ap (λ (j : ℕ). remark_value (get_or xs i d) ∷ drop j (remark_values (x ∷ xs))) (sym one)

-- no more mark
none_at : (found : List Found) (i : ℕ) → length found ≤ i → drop i (remark_values found) ≡ []
none_at [] zero lt = refl
none_at [] (suc i) lt = refl
none_at (x ∷ xs) zero lt = absurd (omega (arith, lt))
none_at (x ∷ xs) (suc i) lt = none_at xs i (omega (arith, lt))

module _ (number last : Option ℕ) (found : List Found) (all : List Remark) (i : ℕ) (whole : Bool) (a b : Sunk) (inv : AboveLeft number last all (drop i (remark_values found)) whole a b) where
  -- no mark is left
  pub marks_end : length found ≤ i → AreWritten number last all (drop i (remark_values found)) whole a b
  marks_end lt =
      let e = none_at found i lt in
      above_done number last all (drop i (remark_values found)) whole a b inv (ap (rows_above number last) e) (ap (left_behind number) e ∙ sym e)

  module _ (d : Found) (lt : i < length found) (above : Bool) (is : above ≡ is_above number (remark_value (get_or found i d))) where
    abbrev m : Remark
    m = remark_value (get_or found i d)

    abbrev rest : List Remark
    rest = drop (i + 1) (remark_values found)

    -- a mark that is not above the line
    pub mark_below : above ≡ false → AreWritten number last all (drop i (remark_values found)) whole a b
    mark_below missed =
        let e = mark_at d found i lt in
        let below : is_above number m ≡ false = sym is ∙ missed in
        above_done number last all (drop i (remark_values found)) whole a b inv (ap (rows_above number last) e ∙ above_end number last m rest below) (ap (left_behind number) e ∙ behind_end number m rest below ∙ sym e)

    module _ (met : above ≡ true) (guarded : Bool) (same : guarded ≡ is_guarded last (remark_value (get_or found i d))) where
      left_now : AboveLeft number last all (m ∷ rest) whole a b
      left_now = subst (λ (l : List Remark). AboveLeft number last all l whole a b) (mark_at d found i lt) inv

      -- its line fails
      pub mark_fails : (c : Sunk) → Fails b (rows_text [] (row_unless guarded m.number [])) c → (r : Result (Unit {0}) WriteFault) → ((t : List ℕ) → Fails b t c → Puts b t r c)
          → Puts a (rows_text [] (rows_above number last all)) r c
      mark_fails c f r put =
          let t = rows_text [] (rows_above number last (m ∷ rest)) in
          left_now.reported r c (put t (above_fails number last all rest m whole a b left_now (sym is ∙ met) c (subst (λ (x : Bool). Fails b (rows_text [] (row_unless x m.number [])) c) same f)))

      -- it is written
      pub mark_goes : (c : Sunk) (now : Bool) → now ≡ (whole && guarded) → Writes b (rows_text [] (row_unless guarded m.number [])) c → AboveLeft number last all rest now a c
      mark_goes c now n w =
          above_goes number last all rest m whole a b left_now (sym is ∙ met) c now (n ∙ ap (λ (x : Bool). whole && x) same) (subst (λ (x : Bool). Writes b (rows_text [] (row_unless x m.number [])) c) same w)

-- ---- swept lines, one after the other

-- the rows of two lists of swept lines are one after the other
pub to_append : (q : MarksLeft) (xs ys : List Swept) → rows_to q (xs ++ ys) ≡ rows_to q xs ++ rows_to (marks_after q xs) ys
to_append q [] ys = refl
to_append q (x ∷ xs) ys =
    let n = Some x.number in
    let r : MarksLeft = record { last = n; left = left_behind n q.left } in
    ap (λ (rs : List Row). rows_above n q.last q.left ++ SweptRow x ∷ rs) (to_append r xs ys)
    ∙ sym (append_assoc (rows_above n q.last q.left) (SweptRow x ∷ rows_to r xs) (rows_to (marks_after r xs) ys))

-- the marks left after two lists of swept lines are those after the second
pub after_append : (q : MarksLeft) (xs ys : List Swept) → marks_after q (xs ++ ys) ≡ marks_after (marks_after q xs) ys
after_append q [] ys = refl
after_append q (x ∷ xs) ys = after_append (record { last = Some x.number; left = left_behind (Some x.number) q.left }) xs ys

-- one swept line, with the marks above it
pub one_text : (marks : List Remark) (q : MarksLeft) (s : Swept) → rows_text [] (rows_above (Some s.number) q.last q.left) ++ swept_text marks s ≡ rows_text marks (rows_to q (s ∷ []))
one_text marks q s = grind (arith, above_text, append-nil, rows_append)

-- a swept line is fine if the marks above it are and it is not broken
pub one_fine : (marks : List Remark) (q : MarksLeft) (s : Swept) → (are_fine [] (rows_above (Some s.number) q.last q.left) && not (is_broken marks s)) ≡ are_fine marks (rows_to q (s ∷ []))
one_fine marks q s = grind (arith, above_fine, and_true, fine_append)

-- the text of a line, by its number and its words, and by whether it is broken
abbrev pub text_by : ℕ → List SweepWord → Bool → List ℕ
text_by number words broken = codes "line " ++ decimal number ++ codes " writes " ++ decimal (length words) ++ codes ":" ++ runs_text (runs 1 words) ++ line_end broken

module _ (marks : List Remark) (q : MarksLeft) (s : Swept) (number : ℕ) (words : List SweepWord) (broken : Bool) (of : IsLineOf marks s number words broken) where
  line_is : text_by number words broken ≡ swept_text marks s
  line_is = grind arith

  -- the text of a swept line has the marks above it
  pub place_text : rows_text [] (rows_above (Some number) q.last q.left) ++ text_by number words broken ≡ rows_text marks (rows_to q (s ∷ []))
  place_text = grind (arith, line_is, one_text)

  -- a swept line is fine by the marks above it and by whether it is broken
  pub place_fine : (whole : Bool) → whole ≡ are_fine [] (rows_above (Some number) q.last q.left) → (whole && not broken) ≡ are_fine marks (rows_to q (s ∷ []))
  place_fine whole e = grind (arith, one_fine)

-- the marks after a swept line are those that the next one begins with
pub place_left : (q p : MarksLeft) (s : Swept) (number : ℕ) → s.number ≡ number → p.last ≡ Some number → p.left ≡ left_behind (Some number) q.left → p ≡ marks_after q (s ∷ [])
place_left q p s number e last left = grind arith

-- rows that are added to those before them
pub fine_on : (marks : List Remark) (a b c : Bool) (xs ys : List Row) → AddsFine marks a xs b → AddsFine marks b ys c → AddsFine marks a (xs ++ ys) c
fine_on marks a b c xs ys one rest =
    rest ∙ ap (λ (x : Bool). x && are_fine marks ys) one ∙ and_assoc a (are_fine marks xs) (are_fine marks ys) ∙ ap (λ (x : Bool). a && x) (sym (fine_append marks xs ys))

-- no row leaves whether all are fine
pub fine_none : (marks : List Remark) (a : Bool) (rs : List Row) → [] ≡ rs → AddsFine marks a rs a
fine_none marks a rs e = subst (λ (xs : List Row). AddsFine marks a xs a) e (sym (and_true a))

module _ (marks : List Remark) (q : MarksLeft) (all xs ys : List Swept) (is : all ≡ xs ++ ys) where
  to_split : rows_to q all ≡ rows_to q xs ++ rows_to (marks_after q xs) ys
  to_split = ap (rows_to q) is ∙ to_append q xs ys

  text_split : rows_text marks (rows_to q all) ≡ rows_text marks (rows_to q xs) ++ rows_text marks (rows_to (marks_after q xs) ys)
  text_split = ap (rows_text marks) to_split ∙ rows_append marks (rows_to q xs) (rows_to (marks_after q xs) ys)

  -- rows that were written before others are written with them
  pub rows_on : (p : MarksLeft) (a b c : Sunk) (r : Result (Unit {0}) WriteFault) → p ≡ marks_after q xs → Writes a (rows_text marks (rows_to q xs)) b → Puts b (rows_text marks (rows_to p ys)) r c → Puts a (rows_text marks (rows_to q all)) r c
  rows_on p a b c r e first rest =
      puts_as a c r (sym text_split) (puts_then c (rows_text marks (rows_to (marks_after q xs) ys)) r first (subst (λ (z : MarksLeft). Puts b (rows_text marks (rows_to z ys)) r c) e rest))

  -- rows that failed in their front failed as a whole
  pub rows_fail : (a b : Sunk) → Fails a (rows_text marks (rows_to q xs)) b → Fails a (rows_text marks (rows_to q all)) b
  rows_fail a b f = subst (λ (t : List ℕ). Fails a t b) (sym text_split) (fails_before (rows_text marks (rows_to (marks_after q xs) ys)) f)

  -- two lists of rows are fine together if each is
  pub rows_fine : (p : MarksLeft) (a b c : Bool) → p ≡ marks_after q xs → AddsFine marks a (rows_to q xs) b → AddsFine marks b (rows_to p ys) c → AddsFine marks a (rows_to q all) c
  rows_fine p a b c e one rest = grind (arith, to_split, fine_on)

  -- the marks left after all swept lines are those left after the last
  pub rows_left : (p z : MarksLeft) → p ≡ marks_after q xs → z ≡ marks_after p ys → z ≡ marks_after q all
  rows_left p z e f = f ∙ ap (λ (w : MarksLeft). marks_after w ys) e ∙ sym (ap (marks_after q) is ∙ after_append q xs ys)

-- ---- the whole text

-- the rows of all marks and swept lines are the whole text
pub whole_rows : (marks : List Remark) (ss : List Swept) (p : MarksLeft) → p ≡ marks_after (all_marks marks) ss
    → rows_text marks (rows_to (all_marks marks) ss) ++ rows_text [] (rows_above None p.last p.left) ≡ rows_text marks (rows_of (all_marks marks) ss)
whole_rows marks ss p e = grind (arith, above_text, rows_append)

-- a sweep is fine if its rows and the marks left are
pub whole_fine : (marks : List Remark) (ss : List Swept) (p : MarksLeft) (a b : Bool) → p ≡ marks_after (all_marks marks) ss → AddsFine marks true (rows_to (all_marks marks) ss) a
    → b ≡ are_fine [] (rows_above None p.last p.left) → (a && b) ≡ are_fine marks (rows_of (all_marks marks) ss)
whole_fine marks ss p a b e first rest = grind (arith, above_fine, fine_append)

module _ (marks : List Remark) (ss : List Swept) (sums : List ℕ) where
  abbrev q : MarksLeft
  q = all_marks marks

  rows_parts : rows_text marks (rows_of q ss) ≡ rows_text marks (rows_to q ss) ++ rows_text marks (rows_above None (marks_after q ss).last (marks_after q ss).left)
  rows_parts = rows_append marks (rows_to q ss) (rows_above None (marks_after q ss).last (marks_after q ss).left)

  -- a swept line fails
  pub fails_first : (a b : Sunk) → Fails a (rows_text marks (rows_to q ss)) b → Fails a (rows_text marks (rows_of q ss) ++ sums) b
  fails_first a b f =
      fails_before sums (subst (λ (t : List ℕ). Fails a t b) (sym rows_parts) (fails_before (rows_text marks (rows_above None (marks_after q ss).last (marks_after q ss).left)) f))

  -- the marks that are left fail
  pub fails_rest : (p : MarksLeft) (a b c : Sunk) → p ≡ marks_after q ss → Writes a (rows_text marks (rows_to q ss)) b → Fails b (rows_text [] (rows_above None p.last p.left)) c
      → Fails a (rows_text marks (rows_of q ss) ++ sums) c
  fails_rest p a b c e w f = fails_before sums (subst (λ (t : List ℕ). Fails a t c) (whole_rows marks ss p e) (fails_then w f))
