-- A text that says `all` is that of a search that ended so.
use Rattle.std.specs.Prelude.{◌≡◌, ℕ, zero, suc, ◌+◌, ◌/◌, ◌%◌, ◌<◌, Bool, true, false, cond, not, ◌==◌, List, [], ◌∷◌, ◌++◌, codes, decimal, refl}
use Rattle.std.specs.Fmt.{digits, digits_onto, digit_glyph}
use Rattle.std.proofs.Common.{arith, ap, sym, ◌∙◌}
use Rattle.std.proofs.lemmas.Bool.{and_from, and_parts, lt-ltb, eq-eqb, ne_eqb, cond_both}
use Rattle.std.proofs.lemmas.List.{append_assoc}
use Rattle.law_explore.specs.model_text.specs.Text.{every}
use Rattle.law_explore.specs.model_play.specs.Play.{State}
use Rattle.law_explore.specs.Rules.{OnRule}
use Rattle.law_explore.specs.States.{play_of_deck}
use Rattle.law_explore.specs.Search.{Ending, All, AtDepth, Broken, TooMany, Search, search_of}
use Rattle.law_explore_text.specs.Report.{depth_lines, silent_lines, silent_numbers, sums_text, ending_text, text_within}
use Rattle.law_explore_text.specs.TextSafety.{TextLaw}
use Rattle.law_explore.proofs.Safety.{all_law}

-- ---- numbers have no blank and no line feed

glyph_digit : (d : ℕ) → d < 10 → digit_glyph false d ≡ 48 + d
glyph_digit d h = ap (λ (b : Bool). cond b (48 + d) (87 + d)) (lt-ltb d 10 h)

digits_every : (test : ℕ → Bool) → ((d : ℕ) → d < 10 → test (48 + d) ≡ true) → (k n : ℕ) (acc : List ℕ) → every test acc ≡ true → every test (digits_onto k 10 false n acc) ≡ true
digits_every test f zero n acc h = h
digits_every test f (suc k) n acc h =
    let d : ℕ = digit_glyph false (n % 10) in
    let small : n % 10 < 10 = omega arith in
    let more : every test (d ∷ acc) ≡ true = and_from (test d) (every test acc) (ap test (glyph_digit (n % 10) small) ∙ f (n % 10) small) h in
    cond_both (n / 10 == 0) (d ∷ acc) (digits_onto k 10 false (n / 10) (d ∷ acc)) (λ (t : List ℕ). every test t ≡ true) (λ e. more) (λ e. digits_every test f k (n / 10) (d ∷ acc) more)

-- a character other than another
abbrev pub other : ℕ → ℕ → Bool
other c d = not (d == c)

-- a decimal number has no character below its digits
pub decimal_every : (c n : ℕ) → c < 48 → every (other c) (decimal n) ≡ true
unfolding digits
decimal_every c n low = digits_every (other c) (λ d h. ap not (ne_eqb (48 + d) c (λ e. absurd (omega (arith, e, low))))) 64 n [] refl

-- what passes for each character of two texts passes for both together
pub every_append : (test : ℕ → Bool) (a b : List ℕ) → every test a ≡ true → every test b ≡ true → every test (a ++ b) ≡ true
every_append test [] b h k = k
every_append test (c ∷ a) b h k =
    let p = and_parts (test c) (every test a) h in
    and_from (test c) (every test (a ++ b)) p.0 (every_append test a b p.1 k)

-- ---- after a character

-- what comes after the first of a character
abbrev pub after : ℕ → List ℕ → List ℕ
after c [] = []
after c (x ∷ xs) = cond (x == c) xs (after c xs)

after_by : (c x : ℕ) (w t : List ℕ) → not (x == c) ≡ true → after c (w ++ c ∷ t) ≡ t → cond (x == c) (w ++ c ∷ t) (after c (w ++ c ∷ t)) ≡ t
after_by c x w t h e = cond_both (x == c) (w ++ c ∷ t) (after c (w ++ c ∷ t)) (λ (l : List ℕ). l ≡ t) (λ same. absurd (cc (h, ap not same))) (λ apart. e)

-- what comes after the first of a character is what follows a word without it
pub after_first : (c : ℕ) (w t : List ℕ) → every (other c) w ≡ true → after c (w ++ c ∷ t) ≡ t
after_first c [] t h = ap (λ (b : Bool). cond b t (after c t)) (eq-eqb c c refl)
after_first c (x ∷ w) t h =
    after_by c x w t (and_parts (other c x) (every (other c) w) h).0 (after_first c w t (and_parts (other c x) (every (other c) w) h).1)

-- the first character
abbrev pub head : List ℕ → ℕ
head [] = 0
head (x ∷ xs) = x

-- ---- lines of depths

-- the front of a line of a depth
abbrev pub depth_front : ℕ → ℕ → List ℕ
depth_front d n = codes "depth " ++ decimal d ++ codes " states " ++ decimal n

front_line : (d n : ℕ) → every (other 10) (depth_front d n) ≡ true
front_line d n = grind (arith, every_append, decimal_every)

unlined : (d n : ℕ) (ns e : List ℕ) → after 10 (depth_lines d (n ∷ ns) ++ e) ≡ depth_lines (d + 1) ns ++ e
unlined d n ns e = grind (arith, append_assoc, after_first, front_line)

-- texts that are equal are so without the lines of depths before them
pub unlines : (xs ys : List ℕ) (d : ℕ) (e s : List ℕ) → (head e ≡ 100 → ⊥) → (head s ≡ 100 → ⊥) → depth_lines d xs ++ e ≡ depth_lines d ys ++ s → e ≡ s
unlines [] [] d e s he hs h = h
unlines [] (y ∷ ys) d e s he hs h = absurd (he (ap (λ (t : List ℕ). head t) h))
unlines (x ∷ xs) [] d e s he hs h = absurd (hs (ap (λ (t : List ℕ). head t) (sym h)))
unlines (x ∷ xs) (y ∷ ys) d e s he hs h =
    unlines xs ys (d + 1) e s he hs (sym (unlined d x xs e) ∙ ap (λ (t : List ℕ). after 10 t) h ∙ unlined d y ys s)

-- ---- lines of rules that applied to no try

-- the front of a line of a rule that applied to no try
abbrev pub silent_front : ℕ → List ℕ
silent_front n = codes "silent line " ++ decimal n

silent_one : (n : ℕ) → every (other 10) (silent_front n) ≡ true
silent_one n = every_append (other 10) (codes "silent line ") (decimal n) refl (decimal_every 10 n (omega arith))

unsilenced : (n : ℕ) (ns e : List ℕ) → after 10 (silent_lines (n ∷ ns) ++ e) ≡ silent_lines ns ++ e
unsilenced n ns e = grind (arith, append_assoc, after_first, silent_one)

-- texts that are equal are so without such lines before them
pub unsilent : (xs ys : List ℕ) (e s : List ℕ) → (head e ≡ 115 → ⊥) → (head s ≡ 115 → ⊥) → silent_lines xs ++ e ≡ silent_lines ys ++ s → e ≡ s
unsilent [] [] e s he hs h = h
unsilent [] (y ∷ ys) e s he hs h = absurd (he (ap (λ (t : List ℕ). head t) h))
unsilent (x ∷ xs) [] e s he hs h = absurd (hs (ap (λ (t : List ℕ). head t) (sym h)))
unsilent (x ∷ xs) (y ∷ ys) e s he hs h = unsilent xs ys e s he hs (sym (unsilenced x xs e) ∙ ap (λ (t : List ℕ). after 10 t) h ∙ unsilenced y ys s)

-- such lines before the sums begin with no `d`
pub silent_no_depth : (ns : List ℕ) (states tries : ℕ) (how : List ℕ) → head (silent_lines ns ++ sums_text states tries how) ≡ 100 → ⊥
silent_no_depth [] states tries how h = let z : 101 ≡ 100 = h in omega (arith, z)
silent_no_depth (n ∷ ns) states tries how h = let z : 115 ≡ 100 = h in omega (arith, z)

-- and the sums with no `s`
pub sums_no_silent : (states tries : ℕ) (how : List ℕ) → head (sums_text states tries how) ≡ 115 → ⊥
sums_no_silent states tries how h = let z : 101 ≡ 115 = h in omega (arith, z)

-- equal ends of searches have equal sums
pub same_sums : (ns ms : List ℕ) (s t n m : ℕ) (how so : List ℕ) → silent_lines ns ++ sums_text s t how ≡ silent_lines ms ++ sums_text n m so → sums_text s t how ≡ sums_text n m so
same_sums ns ms s t n m how so h = unsilent ns ms (sums_text s t how) (sums_text n m so) (sums_no_silent s t how) (sums_no_silent n m so) h

-- the line of a broken rule is not such an end
pub broken_no_sums : (broken ms : List ℕ) (n m : ℕ) (so : List ℕ) → head broken ≡ 98 → broken ≡ silent_lines ms ++ sums_text n m so → ⊥
broken_no_sums broken [] n m so b h = let z : 98 ≡ 101 = sym b ∙ ap (λ (t : List ℕ). head t) h in omega (arith, z)
broken_no_sums broken (x ∷ ms) n m so b h = let z : 98 ≡ 115 = sym b ∙ ap (λ (t : List ℕ). head t) h in omega (arith, z)

-- ---- the line of the sums

-- what comes after the fifth blank
abbrev pub after_five : List ℕ → List ℕ
after_five t = after 32 (after 32 (after 32 (after 32 (after 32 t))))

-- after its fifth blank the line of the sums has how the search ended
pub sums_end : (states tries : ℕ) (how : List ℕ) → after_five (sums_text states tries (32 ∷ how)) ≡ how ++ codes "\n"
sums_end states tries how = grind (arith, append_assoc, after_first, decimal_every)

-- ---- endings

module _ (ons : List OnRule) (s : State) (e : Search) where
  abbrev silent : List ℕ
  silent = silent_numbers ons e.tally.heard

  -- the text of an ending does not begin as the line of a depth
  pub no_depth : (x : Ending) → head (ending_text ons s e x) ≡ 100 → ⊥
  no_depth All h = silent_no_depth silent e.states e.tally.tries (codes " all") h
  no_depth (AtDepth d) h = silent_no_depth silent e.states e.tally.tries (codes " depth " ++ decimal d) h
  no_depth (TooMany d) h = silent_no_depth silent e.states e.tally.tries (codes " depth " ++ decimal d) h
  no_depth (Broken name path) h = let z : 98 ≡ 100 = h in omega (arith, z)

-- sums that end with a depth do not end with `all`
not_all : (states tries d n m : ℕ) → sums_text states tries (codes " depth " ++ decimal d) ≡ sums_text n m (codes " all") → ⊥
not_all states tries d n m h =
    let e = sym (sums_end states tries (codes "depth " ++ decimal d)) ∙ ap (λ (t : List ℕ). after_five t) h ∙ sums_end n m (codes "all") in
    let z : 100 ≡ 97 = ap (λ (t : List ℕ). head t) e in
    omega (arith, z)

module _ (ons : List OnRule) (s : State) (e : Search) (ms : List ℕ) where
  ending_is : (x : Ending) (n m : ℕ) → ending_text ons s e x ≡ silent_lines ms ++ sums_text n m (codes " all") → x ≡ All
  ending_is All n m h = refl
  ending_is (AtDepth d) n m h =
      absurd (not_all e.states e.tally.tries d n m (same_sums (silent_numbers ons e.tally.heard) ms e.states e.tally.tries n m (codes " depth " ++ decimal d) (codes " all") h))
  ending_is (TooMany d) n m h =
      absurd (not_all e.states e.tally.tries d n m (same_sums (silent_numbers ons e.tally.heard) ms e.states e.tally.tries n m (codes " depth " ++ decimal d) (codes " all") h))
  ending_is (Broken name path) n m h = absurd (broken_no_sums (ending_text ons s e (Broken name path)) ms n m (codes " all") refl h)

-- ---- the law

-- a text that says `all` is that of a search that ended so
pub text_law : TextLaw
unfolding text_within
text_law most n text x read says ts =
    let ons = x.rules.ons in
    let s = play_of_deck x.lines in
    let e = search_of most n x in
    let end = silent_lines says.silent ++ sums_text says.states says.tries (codes " all") in
    let ends : ending_text ons s e e.ending ≡ end =
    unlines e.news says.news 1 (ending_text ons s e e.ending) end (no_depth ons s e e.ending) (silent_no_depth says.silent says.states says.tries (codes " all")) says.is in
    all_law most n text x read (ending_is ons s e says.silent e.ending says.states says.tries ends) ts
