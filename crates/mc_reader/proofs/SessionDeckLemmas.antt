-- The text of a session is a deck, whose play is the session.
use Rattle.std.proofs.Common.{◌≡◌, ℕ, zero, suc, ◌+◌, ◌-◌, ◌≤◌, Bool, false, List, [], ◌∷◌, ◌++◌, length, map, drop, Option, Some, None, Result, Ok, Err, refl, arith, sym, ap, subst, ◌∙◌, append_assoc}
use Rattle.std.specs.Prelude.{◌==◌, codes}
use Rattle.std.specs.List.{AllByRecursion}
use Rattle.std.proofs.lemmas.List.{drop_at, map-append}
use Rattle.mc_words.specs.model_device.specs.Bytes.{AreBytes}
use Rattle.mc_words.specs.model_device.specs.PowerUp.{AtFault, Base, OnCard}
use Rattle.mc_text.specs.model_text.specs.Text.{◌>>=◌, lines, ok_as, with_numbers}
use Rattle.mc_deck.specs.model_play.specs.declared.deck.DeckCause.{DeckCause}
use Rattle.mc_deck.specs.model_play.specs.DeckGrammar.{deck_lines, deck_read, turn_at, Between, Context, DeckLine, LineTurn, Mode, Within}
use Rattle.mc_deck.specs.model_play.specs.DeckGrammar as line
use Rattle.mc_deck.specs.model_play.specs.Play.{after_power_step, before_power_step, card_line, first_failure, last_state, plays, start, step, AfterPower, Armed, BeforePower, FailedWrite, Live, Muted, Running, State, Step, Unpowered, Warm}
use Rattle.mc_deck.specs.model_play.specs.Transcript.{line_text, plain_text, transcript}
use Rattle.mc_deck.specs.model_play.proofs.PlayLemmas.{step_is}
use Rattle.mc_reader.specs.Meanings.{meaning, power_after}
use Rattle.mc_reader.specs.Lines.{last_number, line_in, line_with_number, lines_of, number_after}
use Rattle.mc_reader.specs.Answers.{answer_each, first_result, session_answers, steps_behind}
use Rattle.mc_reader.specs.SessionDeck.{result_text, result_texts, session_text, statement_text, statements_text, unnumbered, SessionLaw}
use Rattle.mc_reader.proofs.ReadBackLemmas.{context_after, line_first, lines_append, statement_printed, statement_read, IsFrameLine}
use Rattle.mc_reader.proofs.FrameLineLemmas.{bare_good, bare_lines, one_line}

-- ---- the lines of frames are read back

-- numbers of the lines of frames
numbered : (n : ℕ) (powered : Bool) (fs : List (List ℕ)) → lines_of n powered fs ≡ with_numbers (n + 1) (bare_lines powered fs)
numbered n powered [] = refl
numbered n powered (f ∷ fs) = by (line_in (meaning powered f)) (λ k. numbered k (power_after powered (meaning powered f)) fs)
  where
    by : (o : Option DeckLine) → ((k : ℕ) → lines_of k (power_after powered (meaning powered f)) fs ≡ with_numbers (k + 1) (bare_lines (power_after powered (meaning powered f)) fs))
        → line_with_number n o ++ lines_of (number_after n o) (power_after powered (meaning powered f)) fs ≡ with_numbers (n + 1) (one_line o ++ bare_lines (power_after powered (meaning powered f)) fs)
    by None rest = rest n
    by (Some l) rest =
        let next : (n + 1) + 1 ≡ suc (n + 1) = omega arith in
        ap (λ (ls : List (ℕ × DeckLine)). (n + 1, l) ∷ ls) (rest (n + 1) ∙ ap (λ (k : ℕ). with_numbers k (bare_lines (power_after powered (meaning powered f)) fs)) next)

-- statements with numbers
abbrev statements : List DeckLine → List (List ℕ)
statements [] = []
statements (l ∷ ls) = statement_text l ∷ statements ls

text_lines : (n : ℕ) (ls : List DeckLine) → AllByRecursion IsFrameLine ls → lines (statements_text (with_numbers n ls)) ≡ statements ls
text_lines n [] h = refl
text_lines n (l ∷ ls) h =
    line_first (statement_text l) (statements_text (with_numbers (suc n) ls)) (statement_printed l h.0)
    ∙ ap (λ (ts : List (List ℕ)). statement_text l ∷ ts) (text_lines (suc n) ls h.1)

not_last : (n : ℕ) → n ≤ 20000 → (n == 20001) ≡ false
not_last n h = grind (arith, h)

lines_back : (ls : List DeckLine) (n : ℕ) (c : Context) → AllByRecursion IsFrameLine ls → n + length ls ≤ 20001 → deck_lines (Between c) (with_numbers n (statements ls)) ≡ Ok (with_numbers n ls)
unfolding deck_lines
lines_back [] n c h few = refl
lines_back (l ∷ ls) n c h few =
    let first = statement_read l h.0 c n in
    let rest = lines_back ls (suc n) (context_after l c) h.1 (omega (arith, few)) in
    rw (not_last n (omega (arith, few)), first, rest) refl

-- ---- a deck before more lines

ok_as_same : {E : Type 0} (r : Result (List (ℕ × DeckLine)) E) → ok_as (λ rest. [] ++ rest) r ≡ r
ok_as_same (Ok a) = refl
ok_as_same (Err e) = refl

ok_as_twice : {E : Type 0} (xs ys : List (ℕ × DeckLine)) (r : Result (List (ℕ × DeckLine)) E) → ok_as (λ rest. xs ++ rest) (ok_as (λ rest. ys ++ rest) r) ≡ ok_as (λ rest. (xs ++ ys) ++ rest) r
ok_as_twice xs ys (Ok a) = ap Ok (sym (append_assoc xs ys a))
ok_as_twice xs ys (Err e) = refl

ok_inside : {A E : Type 0} (a b : A) (r q : Result A E) → r ≡ Ok a → q ≡ Ok b → r ≡ q → a ≡ b
ok_inside a b r q h k e = cc (sym h ∙ e ∙ k)

-- the context after a deck, in which more lines are read
record ReadOn (m : Mode) (xs ys : List (ℕ × List ℕ)) (deck : List (ℕ × DeckLine)) : Type 0 where
  context : Context
  is : deck_lines m (xs ++ ys) ≡ ok_as (λ rest. deck ++ rest) (deck_lines (Between context) ys)

read_on : (xs ys : List (ℕ × List ℕ)) (m : Mode) (deck : List (ℕ × DeckLine)) → deck_lines m xs ≡ Ok deck → ReadOn m xs ys deck
unfolding deck_lines
read_on [] ys (Between c) deck h =
    subst (λ (ls : List (ℕ × DeckLine)). ReadOn (Between c) [] ys ls) (ok_inside [] deck (Ok []) (Ok deck) refl refl h) (record { context = c; is = sym (ok_as_same (deck_lines (Between c) ys)) })
read_on [] ys (Within s c) deck h = absurd (cc h)
read_on (l ∷ xs) ys m deck h = by (turn_at (l.0 == 20001) m l) refl (λ n ds k. read_on xs ys n ds k)
  where
    turned : Result LineTurn (ℕ × DeckCause) → List (ℕ × List ℕ) → Result (List (ℕ × DeckLine)) (ℕ × DeckCause)
    turned r ls = r >>= λ t. ok_as (λ rest. t.lines ++ rest) (deck_lines t.mode ls)

    by : (r : Result LineTurn (ℕ × DeckCause)) → turn_at (l.0 == 20001) m l ≡ r → ((n : Mode) (ds : List (ℕ × DeckLine)) → deck_lines n xs ≡ Ok ds → ReadOn n xs ys ds) → ReadOn m (l ∷ xs) ys deck
    by (Err e) is later = absurd (cc (sym (ap (λ r. turned r xs) is) ∙ h))
    by (Ok t) is later = rest (deck_lines t.mode xs) refl
      where
        rest : (d : Result (List (ℕ × DeckLine)) (ℕ × DeckCause)) → deck_lines t.mode xs ≡ d → ReadOn m (l ∷ xs) ys deck
        rest (Err e) are = absurd (cc (sym (ap (λ r. turned r xs) is ∙ ap (ok_as (λ rest. t.lines ++ rest)) are) ∙ h))
        rest (Ok ds) are =
            let whole : t.lines ++ ds ≡ deck = ok_inside (t.lines ++ ds) deck (deck_lines m (l ∷ xs)) (Ok deck) (ap (λ r. turned r xs) is ∙ ap (ok_as (λ rest. t.lines ++ rest)) are) refl h in
            let k = later t.mode ds are in
            subst (λ (ls : List (ℕ × DeckLine)). ReadOn m (l ∷ xs) ys ls) whole (record {
              context = k.context;
              is = ap (λ r. turned r (xs ++ ys)) is ∙ ap (ok_as (λ rest. t.lines ++ rest)) k.is ∙ ok_as_twice t.lines ds (deck_lines (Between k.context) ys);
            })

numbers_append : (n : ℕ) (xs ys : List (List ℕ)) → with_numbers n (xs ++ ys) ≡ with_numbers n xs ++ with_numbers (n + length xs) ys
numbers_append n [] ys = let e : n + 0 ≡ n = omega arith in rw e refl
numbers_append n (x ∷ xs) ys =
    let e : suc n + length xs ≡ n + suc (length xs) = omega arith in
    ap (λ (ls : List (ℕ × List ℕ)). (n, x) ∷ ls) (numbers_append (suc n) xs ys ∙ ap (λ (k : ℕ). with_numbers (suc n) xs ++ with_numbers k ys) e)

length_numbers : (n : ℕ) (ls : List DeckLine) → length (with_numbers n ls) ≡ length ls
length_numbers n [] = refl
length_numbers n (l ∷ ls) = ap suc (length_numbers (suc n) ls)

-- the text of a session is read as its deck, and after it the lines of the frames
session_read : (text : List ℕ) (deck : List (ℕ × DeckLine)) (fs : List (List ℕ)) → deck_read (text ++ codes "\n") ≡ Ok deck → AllByRecursion AreBytes fs
    → length (lines (text ++ codes "\n")) + length (lines_of 0 false fs) ≤ 20000 → deck_read (session_text text fs) ≡ Ok (deck ++ lines_of (length (lines (text ++ codes "\n"))) false fs)
unfolding deck_read
session_read text deck fs reads bytes few =
    let own = lines (text ++ codes "\n") in
    let bare = bare_lines false fs in
    let good = bare_good false fs bytes in
    let more = statements_text (lines_of 0 false fs) in
    let behind : lines more ≡ statements bare = ap (λ (ls : List (ℕ × DeckLine)). lines (statements_text ls)) (numbered 0 false fs) ∙ text_lines 1 bare good in
    let all : lines (session_text text fs) ≡ own ++ statements bare = lines_append text more ∙ ap (λ (ts : List (List ℕ)). own ++ ts) behind in
    let k = read_on (with_numbers 1 own) (with_numbers (1 + length own) (statements bare)) (Between (record { units = []; powered = false })) deck reads in
    let many : length (lines_of 0 false fs) ≡ length bare = ap length (numbered 0 false fs) ∙ length_numbers 1 bare in
    let back = lines_back bare (1 + length own) k.context good (omega (arith, few, many)) in
    let add : length own + 1 ≡ 1 + length own = omega arith in
    ap (λ (ts : List (List ℕ)). deck_lines (Between (record { units = []; powered = false })) (with_numbers 1 ts)) all
    ∙ ap (deck_lines (Between (record { units = []; powered = false }))) (numbers_append 1 own (statements bare))
    ∙ k.is
    ∙ ap (ok_as (λ rest. deck ++ rest)) back
    ∙ ap (λ (ls : List (ℕ × DeckLine)). Ok (deck ++ ls)) (sym (numbered (length own) false fs ∙ ap (λ (k : ℕ). with_numbers k bare) add))

-- ---- the numbers of lines mean nothing to a play

card_unnumbered : (n k : ℕ) (l : DeckLine) (s : Warm) (live : Live) (base : Base) (w : Option FailedWrite) → unnumbered (card_line n l s live base w) ≡ unnumbered (card_line k l s live base w)
card_unnumbered n k l s (Running x) (OnCard c) w = refl
card_unnumbered n k l s (Running x) (AtFault cause p) w = refl
card_unnumbered n k l s Unpowered base w = refl
card_unnumbered n k l s Muted base w = refl

before_unnumbered : (n k : ℕ) (l : DeckLine) (m : List (List ℕ)) (b : ℕ) (a : Armed) (w : Option FailedWrite) → unnumbered (before_power_step n l m b a w) ≡ unnumbered (before_power_step k l m b a w)
before_unnumbered n k line.Power m b a w = refl
before_unnumbered n k _ m b a w = refl

after_unnumbered : (n k : ℕ) (l : DeckLine) (s : Warm) (w : Option FailedWrite) → unnumbered (after_power_step n l s w) ≡ unnumbered (after_power_step k l s w)
after_unnumbered n k (line.Sent sent) s w = card_unnumbered n k (line.Sent sent) s s.live s.base w
after_unnumbered n k _ s w = refl

step_unnumbered : (n k : ℕ) (l : DeckLine) (s : State) (w : Option FailedWrite) → unnumbered (step s (n, l) w) ≡ unnumbered (step s (k, l) w)
unfolding step
step_unnumbered n k l (BeforePower m b a) w = before_unnumbered n k l m b a w
step_unnumbered n k l (AfterPower s) w = after_unnumbered n k l s w

plays_unnumbered : (ls : List DeckLine) (n k : ℕ) (s : State) (ws : List (Option FailedWrite)) → map unnumbered (plays s (with_numbers n ls) ws) ≡ map unnumbered (plays s (with_numbers k ls) ws)
unfolding plays
plays_unnumbered [] n k s ws = refl
plays_unnumbered (l ∷ ls) n k s ws =
    let w = first_failure ws in
    let e = step_unnumbered n k l s w in
    let after : (step s (n, l) w).after ≡ (step s (k, l) w).after = ap (λ (t : Step). t.after) e in
    ap (λ (t : Step). t ∷ map unnumbered (plays (step s (n, l) w).after (with_numbers (suc n) ls) (drop 1 ws))) e
    ∙ ap (λ (ts : List Step). unnumbered (step s (k, l) w) ∷ ts) (plays_unnumbered ls (suc n) (suc k) (step s (n, l) w).after (drop 1 ws)
    ∙ ap (λ (u : State). map unnumbered (plays u (with_numbers (suc k) ls) (drop 1 ws))) after)

frames_unnumbered : (n k : ℕ) (powered : Bool) (fs : List (List ℕ)) (s : State) (ws : List (Option FailedWrite)) → map unnumbered (plays s (lines_of n powered fs) ws) ≡ map unnumbered (plays s (lines_of k powered fs) ws)
frames_unnumbered n k powered fs s ws =
    ap (λ (ls : List (ℕ × DeckLine)). map unnumbered (plays s ls ws)) (numbered n powered fs)
    ∙ plays_unnumbered (bare_lines powered fs) (n + 1) (k + 1) s ws
    ∙ ap (λ (ls : List (ℕ × DeckLine)). map unnumbered (plays s ls ws)) (sym (numbered k powered fs))

-- ---- the deck, and then the frames

plays_split : (xs ys : List (ℕ × DeckLine)) (s : State) (ws : List (Option FailedWrite)) → plays s (xs ++ ys) ws ≡ plays s xs ws ++ plays (last_state s (plays s xs ws)) ys (drop (length xs) ws)
unfolding plays
plays_split [] ys s ws = refl
plays_split (x ∷ xs) ys s ws =
    let t = step s x (first_failure ws) in
    ap (λ (ts : List Step). t ∷ ts) (plays_split xs ys t.after (drop 1 ws) ∙ ap (λ (vs : List (Option FailedWrite)). plays t.after xs (drop 1 ws) ++ plays (last_state t.after (plays t.after xs (drop 1 ws))) ys vs) (drop_more (length xs) ws))
  where
    drop_more : (n : ℕ) (vs : List (Option FailedWrite)) → drop n (drop 1 vs) ≡ drop (suc n) vs
    drop_more zero [] = refl
    drop_more (suc n) [] = refl
    drop_more n (v ∷ vs) = refl

pub length_plays : (s : State) (ls : List (ℕ × DeckLine)) (ws : List (Option FailedWrite)) → length (plays s ls ws) ≡ length ls
unfolding plays
length_plays s [] ws = refl
length_plays s (l ∷ ls) ws = ap suc (length_plays (step s l (first_failure ws)).after ls (drop 1 ws))

-- the steps of the lines after a deck
steps_after : (deck ls : List (ℕ × DeckLine)) (s : State) (ws : List (Option FailedWrite)) → drop (length deck) (plays s (deck ++ ls) ws) ≡ plays (last_state s (plays s deck ws)) ls (drop (length deck) ws)
steps_after deck ls s ws =
    ap (λ (ts : List Step). drop (length deck) ts) (plays_split deck ls s ws)
    ∙ drop_at (plays s deck ws) (plays (last_state s (plays s deck ws)) ls (drop (length deck) ws)) (length deck) (length_plays s deck ws)

-- ---- results

first_unnumbered : (ts : List Step) → first_result (map unnumbered ts) ≡ first_result ts
first_unnumbered [] = refl
first_unnumbered (t ∷ ts) = refl

behind_unnumbered : (o : Option DeckLine) (ts : List Step) → steps_behind o (map unnumbered ts) ≡ map unnumbered (steps_behind o ts)
behind_unnumbered None ts = refl
behind_unnumbered (Some l) [] = refl
behind_unnumbered (Some l) (t ∷ ts) = refl

answers_unnumbered : (powered : Bool) (fs : List (List ℕ)) (ts : List Step) → answer_each powered fs (map unnumbered ts) ≡ answer_each powered fs ts
answers_unnumbered powered [] ts = refl
answers_unnumbered powered (f ∷ fs) ts =
    let m = meaning powered f in
    rw (first_unnumbered ts, behind_unnumbered (line_in m) ts, answers_unnumbered (power_after powered m) fs (steps_behind (line_in m) ts)) refl

texts_unnumbered : (n : ℕ) (powered : Bool) (fs : List (List ℕ)) (ts : List Step) → result_texts n powered fs (map unnumbered ts) ≡ result_texts n powered fs ts
texts_unnumbered n powered [] ts = refl
texts_unnumbered n powered (f ∷ fs) ts =
    let m = meaning powered f in
    rw (first_unnumbered ts, behind_unnumbered (line_in m) ts, texts_unnumbered (number_after n (line_in m)) (power_after powered m) fs (steps_behind (line_in m) ts)) refl

-- the transcript of frames' lines is the texts of their results
frames_transcript : (n : ℕ) (powered : Bool) (fs : List (List ℕ)) (s : State) (ws : List (Option FailedWrite)) → transcript (plays s (lines_of n powered fs) ws) ≡ result_texts n powered fs (plays s (lines_of n powered fs) ws)
unfolding plays
frames_transcript n powered [] s ws = refl
frames_transcript n powered (f ∷ fs) s ws = by (line_in (meaning powered f)) (λ k u vs. frames_transcript k (power_after powered (meaning powered f)) fs u vs)
  where
    q : Bool
    q = power_after powered (meaning powered f)

    by : (o : Option DeckLine) → ((k : ℕ) (u : State) (vs : List (Option FailedWrite)) → transcript (plays u (lines_of k (power_after powered (meaning powered f)) fs) vs) ≡ result_texts k (power_after powered (meaning powered f)) fs (plays u (lines_of k (power_after powered (meaning powered f)) fs) vs))
        → transcript (plays s (line_with_number n o ++ lines_of (number_after n o) (power_after powered (meaning powered f)) fs) ws)
        ≡ result_text n o (first_result (plays s (line_with_number n o ++ lines_of (number_after n o) (power_after powered (meaning powered f)) fs) ws)) ++ result_texts (number_after n o) (power_after powered (meaning powered f)) fs (steps_behind o (plays s (line_with_number n o ++ lines_of (number_after n o) (power_after powered (meaning powered f)) fs) ws))
    by None rest = rest n s ws
    by (Some l) rest =
        let t = step s (n + 1, l) (first_failure ws) in
        ap (λ (k : ℕ). line_text k t.result ++ transcript (plays t.after (lines_of (n + 1) (power_after powered (meaning powered f)) fs) (drop 1 ws))) (step_is s (n + 1, l) (first_failure ws)).number
        ∙ ap (λ (x : List ℕ). line_text (n + 1) t.result ++ x) (rest (n + 1) t.after (drop 1 ws))

transcript_append : (ts us : List Step) → transcript (ts ++ us) ≡ transcript ts ++ transcript us
transcript_append [] us = refl
transcript_append (t ∷ ts) us = ap (λ (x : List ℕ). plain_text t ++ x) (transcript_append ts us) ∙ sym (append_assoc (plain_text t) (transcript ts) (transcript us))

-- ---- the law

module _ (deck : List (ℕ × DeckLine)) (fs : List (List ℕ)) (n k : ℕ) (s : State) (ws : List (Option FailedWrite)) where
  abbrev here : State
  here = last_state s (plays s deck ws)

  abbrev of_frames : ℕ → List Step
  of_frames j = plays here (lines_of j false fs) (drop (length deck) ws)

  steps_same : map unnumbered (plays s (deck ++ lines_of n false fs) ws) ≡ map unnumbered (plays s (deck ++ lines_of k false fs) ws)
  steps_same =
      ap (map unnumbered) (plays_split deck (lines_of n false fs) s ws)
      ∙ map-append unnumbered (plays s deck ws) (of_frames n)
      ∙ ap (λ (ts : List Step). map unnumbered (plays s deck ws) ++ ts) (frames_unnumbered n k false fs here (drop (length deck) ws))
      ∙ sym (map-append unnumbered (plays s deck ws) (of_frames k))
      ∙ sym (ap (map unnumbered) (plays_split deck (lines_of k false fs) s ws))

  answers_same : session_answers deck fs (plays s (deck ++ lines_of n false fs) ws) ≡ session_answers deck fs (plays s (deck ++ lines_of k false fs) ws)
  answers_same =
      ap (λ (ts : List Step). answer_each false fs ts) (steps_after deck (lines_of n false fs) s ws)
      ∙ sym (answers_unnumbered false fs (of_frames n))
      ∙ ap (λ (ts : List Step). answer_each false fs ts) (frames_unnumbered n k false fs here (drop (length deck) ws))
      ∙ answers_unnumbered false fs (of_frames k)
      ∙ sym (ap (λ (ts : List Step). answer_each false fs ts) (steps_after deck (lines_of k false fs) s ws))

  transcript_same : transcript (plays s (deck ++ lines_of n false fs) ws) ≡ transcript (plays s deck ws) ++ result_texts n false fs (drop (length deck) (plays s (deck ++ lines_of k false fs) ws))
  transcript_same =
      ap transcript (plays_split deck (lines_of n false fs) s ws)
      ∙ transcript_append (plays s deck ws) (of_frames n)
      ∙ ap (λ (x : List ℕ). transcript (plays s deck ws) ++ x) (frames_transcript n false fs here (drop (length deck) ws)
      ∙ sym (texts_unnumbered n false fs (of_frames n))
      ∙ ap (λ (ts : List Step). result_texts n false fs ts) (frames_unnumbered n k false fs here (drop (length deck) ws))
      ∙ texts_unnumbered n false fs (of_frames k)
      ∙ sym (ap (λ (ts : List Step). result_texts n false fs ts) (steps_after deck (lines_of k false fs) s ws)))

pub session_law : SessionLaw
session_law text deck fs reads bytes few =
    let n = length (lines (text ++ codes "\n")) in
    record {
      read = deck ++ lines_of n false fs;
      reads = session_read text deck fs reads bytes few;
      steps = λ m ws. steps_same deck fs n (last_number deck) (start m) ws;
      transcript_of = λ m ws. transcript_same deck fs n (last_number deck) (start m) ws;
      answers = λ m ws. answers_same deck fs n (last_number deck) (start m) ws;
    }
