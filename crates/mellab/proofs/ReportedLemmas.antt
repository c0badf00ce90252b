-- The report of expectations on a blank device.
use Rattle.std.proofs.Common.{◌≡◌, ◌∙◌, ap, refl, sym, subst, ℕ, List, Result, Ok, Err, IfOk, inr}
use Rattle.std.specs.Prelude.{◌==◌}
use Rattle.mc_streams.specs.declared.refusals.WriteFault.{WriteFault as Fault}
use Rattle.mc_text.specs.Texts.{Puts}
use Rattle.mc_deck.specs.model_play.specs.DeckGrammar.{DeckLine, deck_read}
use Rattle.mc_words.specs.model_device.specs.Device.{blank_words, device_words}
use Rattle.mc_lab.specs.Expectations.{ExpectedDeck, count_failed, expect_text, steady_steps, expected_deck_read}
use Rattle.mc_lab.specs.Judged.{done_of}
use Rattle.mc_lab.specs.declared.remark.Mark.TheVariants as mark
use Rattle.mc_lab.specs.Remarks.{Remark, remarks}
use Rattle.mc_lab.specs.Sweeps.{is_whole, sweep_text}
use Rattle.mc_filter.specs.Statuses.{status_after_writing}
use Rattle.mc_filter.specs.Inputs.{ReadWhole}
use Rattle.mellab.specs.declared.job.Job.TheVariants as job
use Rattle.mc_filter.specs.declared.status.Status.{Status}
use Rattle.mellab.specs.Verdicts.{Reports, expectation_verdict, sweep_verdict}
use Rattle.mc_filter.specs.Outside.{Outside}
use Rattle.mellab.specs.Statuses.{status_after, status_by, MellabDone}

reported_status : (r : Result ℕ Fault) (n : ℕ) → ((k : ℕ) → r ≡ Ok k → k ≡ n) → status_after r ≡ status_after_writing (status_by (n == 0)) (done_of r)
reported_status (Ok k) n h = ap (λ m. status_by (m == 0)) (h k refl)
reported_status (Err f) n h = refl

-- the report of a deck's expectations was written
pub says_expected : (a : Outside) (input : List ℕ) (t : ExpectedDeck) (words : List (List ℕ)) (r : Result ℕ Fault) (s : Status) → ReadWhole a.input_old a.input input → expected_deck_read input ≡ Ok t → words ≡ blank_words device_words → s ≡ status_after r
    → ((k : ℕ) → r ≡ Ok k → k ≡ count_failed (steady_steps words t.lines) t.expected) → Puts a.out_old (expect_text (steady_steps words t.lines) t.expected) (done_of r) a.out → MellabDone job.Expect a s
says_expected a input t words r s read is blank status count put =
    let n = count_failed (steady_steps words t.lines) t.expected in
    let text = expect_text (steady_steps words t.lines) t.expected in
    record {
      verdict = Reports text (n == 0);
      due = inr (record { input = input; read = read; is = ap (λ (w : List (List ℕ)). Reports (expect_text (steady_steps w t.lines) t.expected) (count_failed (steady_steps w t.lines) t.expected == 0)) blank ∙ sym (ap expectation_verdict is) });
      done = record { result = done_of r; status = status ∙ reported_status r n count; written = put };
    }

-- a property of a result that is `Ok`
pub if_ok : {X E : Type 0} (r : Result X E) (P : X → Type 0) → IfOk r P → (k : X) → r ≡ Ok k → P k
if_ok r P h k e = subst (λ r. IfOk r P) e h

-- the text of a deck's sweep was written, or the sink failed
pub says_swept : (a : Outside) (input : List ℕ) (marks : List Remark) (ls : List (ℕ × DeckLine)) (r : Result (Unit {0}) Fault) (s : Status) → ReadWhole a.input_old a.input input → deck_read input ≡ Ok ls → marks ≡ remarks mark.Whole input
    → s ≡ status_after_writing (status_by (is_whole marks ls)) r → Puts a.out_old (sweep_text marks ls) r a.out → MellabDone job.Sweep a s
says_swept a input marks ls r s read is marked status put =
    record {
      verdict = Reports (sweep_text marks ls) (is_whole marks ls);
      due = inr (record { input = input; read = read; is = ap (λ (ms : List Remark). Reports (sweep_text ms ls) (is_whole ms ls)) marked ∙ sym (ap (sweep_verdict (remarks mark.Whole input)) is) });
      done = record { result = r; status = status; written = put };
    }
