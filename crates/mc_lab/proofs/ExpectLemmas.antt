-- Expectations compared one by one, and the report of them.
use Rattle.std.proofs.Common.{◌≡◌, ◌+◌, ◌<◌, ◌≤◌, refl, sym, ◌∙◌, ap, ℕ, zero, suc, List, [], ◌∷◌, ◌++◌, length, drop, filter, not, Bool, true, false, cond, Result, Ok, Err, IsErr, arith, append_assoc}
use Rattle.std.specs.Prelude.{slice_index_or}
use Rattle.law_explore.specs.model_play.specs.Play.{Step}
use Rattle.mc_asm.proofs.PassLemmas.{no_line}
use Rattle.mc_streams.specs.declared.refusals.WriteFault.{WriteFault}
use Rattle.mc_text.specs.Texts.{Sunk, Puts, Writes, Fails}
use Rattle.mc_text.proofs.TextLemmas.{fails_before, puts_as, puts_then}
use Rattle.law_explore.specs.model_events.specs.Matching.{fits}
use Rattle.mc_lab.specs.declared.remark.Remark.{Remark as Found}
use Rattle.mc_lab.specs.Remarks.{Remark}
use Rattle.mc_lab.specs.Remarked.{remark_value, remark_values}
use Rattle.mc_lab.specs.Expectations.{count_failed, count_text, expect_text, failed_lines, is_met, result_above, expectation_line}
use Rattle.mc_lab.specs.Judged.{done_of, text_left}

-- ---- expectations one by one

-- a remark in place of one that is not there
abbrev pub no_remark : Found
no_remark = record { number = 0; text = no_line.text; above = no_line }

-- the expectations from one on are it and those after it
pub expectation_at : (es : List Found) (i : ℕ) (d : Found) → i < length es → drop i (remark_values es) ≡ remark_value (slice_index_or es i d) ∷ drop (i + 1) (remark_values es)
expectation_at [] i d h = absurd (omega (arith, h))
expectation_at (e ∷ es) zero d h = refl
expectation_at (e ∷ es) (suc i) d h =
    let one : suc i + 1 ≡ suc (i + 1) = omega arith in
    expectation_at es i d (omega (arith, h)) ∙ ap (λ j. remark_value (slice_index_or es i d) ∷ drop j (remark_value e ∷ remark_values es)) (sym one)

-- no expectation is left past the last one
pub expectation_none : (es : List Found) (i : ℕ) → length es ≤ i → drop i (remark_values es) ≡ []
expectation_none [] zero h = refl
expectation_none [] (suc i) h = refl
expectation_none (e ∷ es) zero h = absurd (omega (arith, h))
expectation_none (e ∷ es) (suc i) h = expectation_none es i (omega (arith, h))

-- ---- counts

count_filter : {A : Type 0} (test : A → Bool) (b : Bool) (x : A) (xs : List A) → test x ≡ b → length (filter test (x ∷ xs)) ≡ cond b (suc (length (filter test xs))) (length (filter test xs))
count_filter test true x xs e = rw e refl
count_filter test false x xs e = rw e refl

-- an expectation that holds does not count as failed, and one that failed does
pub count_met : (ts : List Step) (e : Remark) (es : List Remark) → is_met ts e ≡ true → count_failed ts (e ∷ es) ≡ count_failed ts es
count_met ts e es h = count_filter (λ e. not (is_met ts e)) false e es (ap not h)

-- an expectation that is not met adds one to the count of the failed
pub count_unmet : (ts : List Step) (e : Remark) (es : List Remark) → is_met ts e ≡ false → count_failed ts (e ∷ es) ≡ suc (count_failed ts es)
count_unmet ts e es h = count_filter (λ e. not (is_met ts e)) true e es (ap not h)

-- ---- texts

-- the rest of the report, by the first expectation that is left
left_on : (ts : List Step) (e : Remark) (es all : List Remark) → text_left ts (e ∷ es) all ≡ expectation_line (is_met ts e) e (result_above ts e.number) ++ text_left ts es all
left_on ts e es all = append_assoc (expectation_line (is_met ts e) e (result_above ts e.number)) (failed_lines ts es) (count_text (length all) (count_failed ts all))

-- the line that was written of an expectation is the first part of the rest of the report
pub reported_on : (ts : List Step) (left : List Remark) (e : Remark) (es all : List Remark) (text : List ℕ) (x y : Sunk) (r : Result (Unit {0}) WriteFault) (z : Sunk)
    → left ≡ e ∷ es → text ≡ result_above ts e.number → Writes x (expectation_line (fits e.text text) e text) y → Puts y (text_left ts es all) r z → Puts x (text_left ts left all) r z
reported_on ts left e es all text x y r z i is wrote rest = grind (arith, puts_as, left_on, puts_then)

-- a text that failed at an expectation failed in the report of those that are left
pub reported_fails : (ts : List Step) (left : List Remark) (e : Remark) (es all : List Remark) (text : List ℕ) (x y : Sunk)
    → left ≡ e ∷ es → text ≡ result_above ts e.number → Fails x (expectation_line (fits e.text text) e text) y → Fails x (text_left ts left all) y
reported_fails ts left e es all text x y i is failed = grind (arith, left_on, fails_before)

-- before the first expectation the report of those that are left is the whole
pub reported_start : (ts : List Step) (es : List Remark) → text_left ts es es ≡ expect_text ts es
unfolding expect_text
reported_start ts es = refl

-- if no expectation is left, the report is their count
pub reported_end : (ts : List Step) (left all : List Remark) → left ≡ [] → text_left ts left all ≡ count_text (length all) (count_failed ts all)
reported_end ts left all e = ap (λ l. text_left ts l all) e

-- there are as many remarks as were found
pub numbered_length : (es : List Found) → length (remark_values es) ≡ length es
numbered_length [] = refl
numbered_length (e ∷ es) = ap suc (numbered_length es)

-- ---- ends

-- one expectation that held or failed, and those that are left
pub count_left : (ts : List Step) (left : List Remark) (e : Remark) (es : List Remark) (held : Bool) → left ≡ e ∷ es → held ≡ is_met ts e → count_failed ts left ≡ cond held 0 1 + count_failed ts es
count_left ts left e es held i h = grind (arith, count_met, count_unmet)

-- one more or none after at most i is at most one more than i
pub one_more : (held : Bool) (n i : ℕ) → n ≤ i → n + cond held 0 1 ≤ i + 1
one_more true n i h = omega (arith, h)
one_more false n i h = omega (arith, h)

-- a text that was not completely written, by a call that returns a number
pub fails_done : {A : Type 0} {a b : Sunk} {t : List ℕ} (r : Result A WriteFault) → IsErr r → Fails a t b → Puts a t (done_of r) b
fails_done (Ok x) h f = absurd (cc h)
fails_done (Err e) h f = f

-- all lines were written, and `failed` expectations failed
pub text_done : (ts : List Step) (left all : List Remark) (n failed : ℕ) → left ≡ [] → n ≡ length all → failed + count_failed ts left ≡ count_failed ts all → count_text n failed ≡ text_left ts left all
text_done ts left all n failed i len h = grind (arith, reported_end)
