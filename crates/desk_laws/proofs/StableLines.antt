-- Lines that the assembler accepts declare nothing and stay as they are where no name is declared.
use Rattle.std.proofs.Common.{◌≡◌, ℕ, Bool, true, false, cond, List, [], ◌∷◌, ◌++◌, append-nil, length, map, drop, Option, Some, None, Ok, Err, refl, sym, ap, subst, ◌∙◌, arith}
use Rattle.std.specs.Prelude.{◌==◌, ◌&&◌, ◌||◌, is_none, not, ok_or, option_map}
use Rattle.std.proofs.Math.Seq.{drop-append_seam, drop-length}
use Rattle.mc_text.specs.model_device.specs.Bytes.{has_name, lookup}
use Rattle.mc_text.specs.model_device.proofs.BoolLemmas.{and_false, and_first, and_second}
use Rattle.mc_text.specs.model_text.specs.Text.{◌>>=◌, before_trimmed, every, fields, first_cut, halves_with_character, is_blank, is_empty, is_name_character, ok_as, pieces, pieces_with_character, trim, trim_end, trim_front}
use Rattle.mc_text.specs.model_text.specs.Assembly.{CodeItem, Line, WordForm, is_label, item_of_word, label_and_rest, line_read, operands, word_and_operands, words}
use Rattle.mc_text.specs.model_text.specs.declared.assembler.AsmCause.TheVariants.{UnknownWord}
use Rattle.desk_draft.specs.Parts.{after_word, before_rest, first_word, without_comment}
use Rattle.desk_draft.specs.Declarations.{declaration_in, declaration_of, declaration_words, header_names, is_labelled}
use Rattle.desk_draft.specs.Operands.{body_text, instruction_text, jump_words, labelled_text, later_text, operands_text, pieces_text, sized_words}
use Rattle.desk_laws.proofs.Results.{Fine, fine_as, fine_or, fine_ok, fine_then, looked, unknown}
use Rattle.desk_laws.proofs.SelfLines.{after_each, pieces_joined, rejoined}
use Rattle.desk_laws.proofs.SelfParts.{ends_after, piece_joined, rest_joined}
use Rattle.desk_laws.proofs.StableOperands.{AllStay, empty_stays, is_jump, item_stays}
use Rattle.desk_laws.proofs.Words.{Cuts, Follows, cut_trimmed, cuts, either_way, fields_blank, fields_by, filled, follows, kept_first, later_fields, no_first_word, some_text, trimmed_cut, with_word}
use Rattle.desk_draft.proofs.StayLemmas.{some_pieces}

-- ---- pieces without blanks at their ends

abbrev trimmed_pieces : List ℕ → List (List ℕ)
trimmed_pieces t = map trim_end (pieces (λ c. c == 44) t)

-- a character before trimmed pieces
abbrev before_pieces : Bool → ℕ → List (List ℕ) → List (List ℕ)
before_pieces true c ps = [] ∷ ps
before_pieces false c [] = before_trimmed c [] ∷ []
before_pieces false c (p ∷ ps) = before_trimmed c p ∷ ps

trimmed_with : (b : Bool) (c : ℕ) (ps : List (List ℕ)) → map trim_end (pieces_with_character b c ps) ≡ before_pieces b c (map trim_end ps)
trimmed_with true c ps = refl
trimmed_with false c [] = refl
trimmed_with false c (p ∷ ps) = refl

no_comma : (c : ℕ) → is_blank c ≡ true → (c == 44) ≡ false
no_comma c e = grind (arith, e)

blank_gone : (c : ℕ) → is_blank c ≡ true → before_trimmed c [] ≡ []
blank_gone c e = rw e refl

ends_by : (b : Bool) (c : ℕ) (s t : List ℕ) → is_blank c ≡ b → trimmed_pieces s ≡ trimmed_pieces t → trimmed_pieces (before_trimmed c s) ≡ before_pieces (c == 44) c (trimmed_pieces t)
ends_by b c (d ∷ s) t e h = trimmed_with (c == 44) c (pieces (λ c. c == 44) (d ∷ s)) ∙ ap (before_pieces (c == 44) c) h
ends_by false c [] t e h = ap trimmed_pieces (kept_first c [] e) ∙ trimmed_with (c == 44) c ([] ∷ []) ∙ ap (before_pieces (c == 44) c) h
ends_by true c [] t e h = grind (arith, blank_gone, no_comma)

ends_trimmed : (t : List ℕ) → trimmed_pieces (trim_end t) ≡ trimmed_pieces t
ends_trimmed [] = refl
ends_trimmed (c ∷ t) = ends_by (is_blank c) c (trim_end t) t refl (ends_trimmed t) ∙ sym (trimmed_with (c == 44) c (pieces (λ c. c == 44) t))

front_each : (ps : List (List ℕ)) → map trim ps ≡ map trim_front (map trim_end ps)
front_each [] = refl
front_each (p ∷ ps) = ap (λ x. x ∷ map trim ps) (either_way p) ∙ ap (λ xs. trim_front (trim_end p) ∷ xs) (front_each ps)

-- the blanks at the end of a text change no operand
operands_trimmed : (t : List ℕ) → operands (Some (trim_end t)) ≡ operands (Some t)
operands_trimmed t =
    front_each (pieces (λ c. c == 44) (trim_end t)) ∙ ap (map trim_front) (ends_trimmed t) ∙ sym (front_each (pieces (λ c. c == 44) t))

blank_trimmed : (c : ℕ) (p : List ℕ) → is_blank c ≡ true → trim (c ∷ p) ≡ trim p
blank_trimmed c p e = rw e refl

blank_operands : (c : ℕ) (ps : List (List ℕ)) → is_blank c ≡ true → (p : List ℕ) × (qs : List (List ℕ)) × (ps ≡ p ∷ qs) → map trim (pieces_with_character false c ps) ≡ map trim ps
blank_operands c ps e h = ap (λ ps. map trim (pieces_with_character false c ps)) h.2 ∙ ap (λ x. x ∷ map trim h.1) (blank_trimmed c h.0 e) ∙ ap (map trim) (sym h.2)

-- nor does a blank at its front
operands_after : (c : ℕ) (t : List ℕ) → is_blank c ≡ true → operands (Some (c ∷ t)) ≡ operands (Some t)
operands_after c t e =
    ap (λ b. map trim (pieces_with_character b c (pieces (λ c. c == 44) t))) (no_comma c e) ∙ blank_operands c (pieces (λ c. c == 44) t) e (some_pieces (λ c. c == 44) t)

-- ---- what follows a word

later_stays : (sized : Bool) (ps : List (List ℕ)) → AllStay (map trim ps) → later_text header_names sized ps ≡ Ok (after_each 44 ps)
later_stays sized [] h = refl
later_stays sized (p ∷ ps) h = grind (arith, piece_joined, later_stays sized ps h.1)

pieces_stay : (sized : Bool) (ps : List (List ℕ)) → AllStay (map trim ps) → pieces_text header_names sized ps ≡ Ok (rejoined 44 ps)
pieces_stay sized [] h = refl
pieces_stay sized (p ∷ ps) h = grind (arith, piece_joined, later_stays)

-- operands that stay, with the commas between them
operands_stay : (word t : List ℕ) → AllStay (operands (Some t)) → operands_text header_names word (pieces (λ c. c == 44) t) ≡ Ok t
operands_stay word t h = pieces_stay (has_name word sized_words && (length (pieces (λ c. c == 44) t) == 1)) (pieces (λ c. c == 44) t) h ∙ ap Ok (pieces_joined 44 t)

after_by : (b : Bool) (word after : List ℕ) → has_name word jump_words ≡ b → (b ≡ false → AllStay (operands (Some after))) → cond b (Ok after) (operands_text header_names word (pieces (λ c. c == 44) after)) ≡ Ok after
after_by true word after e f = refl
after_by false word after e f = operands_stay word after (f refl)

-- a part of a line whose operands stay, unless they may be conditions and labels
body_stays : (body : List ℕ) → (has_name (first_word body) jump_words ≡ false → AllStay (operands (Some (after_word body)))) → body_text header_names body ≡ Ok body
body_stays body f =
    let after = after_word body in
    ap (ok_as (λ t. before_rest body after ++ t)) (after_by (has_name (first_word body) jump_words) (first_word body) after refl f) ∙ ap Ok (rest_joined after body (ends_after body))

-- ---- the word of a line

some_stay : (s : List ℕ) → AllStay (operands (some_text s)) → AllStay (operands (Some s))
some_stay [] h = (empty_stays, tt)
some_stay (c ∷ s) h = h

jump_by : (b : Bool) (f : WordForm) → (not (is_jump f) || b) ≡ true → b ≡ false → is_jump f ≡ false
jump_by b f h e = grind (arith, h, e)

form_stays : (w r : List ℕ) (b : Bool) → is_empty w ≡ b → b ≡ false → Fine (word_and_operands (w, some_text (trim_end r))) → has_name w jump_words ≡ false → AllStay (operands (Some r))
form_stays [] r b i e h n = absurd (cc (i, e))
form_stays (c ∷ w) r b i e h n =
    let a = fine_then (ok_or (lookup words (c ∷ w)) UnknownWord) (λ form. item_of_word form (operands (some_text (trim_end r)))) h in
    let k = fine_or (lookup words (c ∷ w)) UnknownWord (fine_ok (ok_or (lookup words (c ∷ w)) UnknownWord) a.0 a.1) in
    let same : ok_or (lookup words (c ∷ w)) UnknownWord ≡ Ok k.0 = ap (λ o. ok_or o UnknownWord) k.1 in
    let j = looked (λ m f. not (is_jump f) || has_name m jump_words) words (c ∷ w) k.0 refl k.1 in
    let f : Fine (item_of_word k.0 (operands (some_text (trim_end r)))) = subst (λ x. Fine (x >>= λ form. item_of_word form (operands (some_text (trim_end r))))) same h in
    subst AllStay (operands_trimmed r) (some_stay (trim_end r) (item_stays k.0 (operands (some_text (trim_end r))) (jump_by (has_name (c ∷ w) jump_words) k.0 j n) f))

word_stays : (p : List ℕ × Option (List ℕ)) (after : List ℕ) → Follows after p.1 → (is_empty p.0 ≡ true → p ≡ ([], None)) → Fine (word_and_operands (trimmed_cut p)) → has_name p.0 jump_words ≡ false → AllStay (operands (Some after))
word_stays (w, None) after f g h n = subst (λ x. AllStay (operands (Some x))) (sym f) (empty_stays, tt)
word_stays ([], Some r) after f g h n = let e : Some r ≡ None = ap (λ (p : List ℕ × Option (List ℕ)). p.1) (g refl) in absurd (cc e)
word_stays (c ∷ w, Some r) after f g h n =
    let e : operands (Some r) ≡ operands (Some after) = sym (ap (λ x. operands (Some x)) f.2 ∙ operands_after f.0 r f.1) in
    subst AllStay e (form_stays (c ∷ w) r false refl refl h n)

-- the part of a line after its label
part_stays : (body : List ℕ) → Fine (word_and_operands (first_cut is_blank (trim body))) → body_text header_names body ≡ Ok body
part_stays body h =
    body_stays body (λ n. word_stays (first_cut is_blank (trim_front body)) (after_word body) (follows body) (λ e. (no_first_word body e).0) (subst (λ p. Fine (word_and_operands p)) (cut_trimmed (trim_front body)) h) n)

-- ---- a line

is_colon : (b : ℕ) → (b == 58) ≡ true → b ≡ 58
is_colon b e = grind (arith, e)

-- a line with this label, if any
abbrev line_with : Option (List ℕ) → CodeItem → Line
line_with label i = record { label = label; item = i }

-- the part of a line after a label that is one
label_by : (b : Bool) (label body : List ℕ) → Fine (cond b (ok_as (line_with (Some (trim label))) (word_and_operands (first_cut is_blank (trim body)))) (Err UnknownWord)) → (b ≡ true) × Fine (word_and_operands (first_cut is_blank (trim body)))
label_by true label body h = (refl, fine_as (line_with (Some (trim label))) (word_and_operands (first_cut is_blank (trim body))) h)
label_by false label body h = absurd h

labelled_stays : (code : List ℕ) (p : List ℕ × Option (List ℕ)) → Cuts (λ c. c == 58) code p → Fine (label_and_rest p.0 p.1) → labelled_text header_names p ≡ Ok code
labelled_stays code (body, None) e h =
    part_stays body (fine_as (line_with None) (word_and_operands (first_cut is_blank (trim body))) h) ∙ ap Ok (sym e)
labelled_stays code (label, Some body) e h =
    ap (ok_as (λ t. label ++ 58 ∷ t)) (part_stays body (label_by (is_label (trim label)) label body h).1) ∙ ap Ok (ap (λ c. label ++ c ∷ body) (sym (is_colon e.0 e.1)) ∙ sym e.2)

comment_by : (l : List ℕ) (p : List ℕ × Option (List ℕ)) → Cuts (λ c. c == 59) l p → p.0 ++ drop (length p.0) l ≡ l
comment_by l (w, None) e = ap (λ x. w ++ drop (length w) x) e ∙ ap (λ x. w ++ x) (drop-length w) ∙ append-nil w ∙ sym e
comment_by l (w, Some r) e = ap (λ x. w ++ drop (length w) x) e.2 ∙ ap (λ x. w ++ x) (drop-append_seam w (e.0 ∷ r)) ∙ sym e.2

-- a line that the assembler reads stays as it is
pub line_stays : (l : List ℕ) → Fine (line_read l) → instruction_text header_names l ≡ Ok l
unfolding line_read instruction_text
line_stays l h =
    let code = without_comment l in
    ap (ok_as (λ t. t ++ drop (length code) l)) (labelled_stays code (first_cut (λ c. c == 58) code) (cuts (λ c. c == 58) code) h) ∙ ap Ok (comment_by l (first_cut (λ c. c == 59) l) (cuts (λ c. c == 59) l))

-- ---- no declaration

none_either : {A : Type 0} (b : Bool) (o : Option A) → o ≡ None → cond b None o ≡ None
none_either true o e = refl
none_either false o e = e

-- fields whose first is no word of declarations
other_word : (w : List ℕ) (ts : List (List ℕ)) → lookup declaration_words w ≡ None → declaration_of (w ∷ ts) ≡ None
other_word w ts e = none_either (is_labelled ts) (option_map (λ k. (k, ts)) (lookup declaration_words w)) (ap (option_map (λ k. (k, ts))) e)

-- fields whose first is a label
label_first : (w : List ℕ) (ts : List (List ℕ)) → is_labelled ts ≡ true → declaration_of (w ∷ ts) ≡ None
label_first w ts e = ap (λ b. cond b None (option_map (λ k. (k, ts)) (lookup declaration_words w))) e

undeclared_by : (p : List ℕ × Option (List ℕ)) → (is_empty p.0 ≡ true → p ≡ ([], None)) → Fine (word_and_operands (trimmed_cut p)) → declaration_of (with_word p.0 (later_fields p.1)) ≡ None
undeclared_by ([], o) g h = ap (λ (p : List ℕ × Option (List ℕ)). declaration_of (with_word p.0 (later_fields p.1))) (g refl)
undeclared_by (c ∷ w, o) g h =
    let k = word_known (c ∷ w) o refl h in
    other_word (c ∷ w) (later_fields o) (none_is (lookup declaration_words (c ∷ w)) (looked (λ n f. is_none (lookup declaration_words n)) words (c ∷ w) k.0 refl k.1))
  where
    none_is : {A : Type 0} (o : Option A) → is_none o ≡ true → o ≡ None
    none_is None e = refl
    none_is (Some a) e = absurd (cc e)

    word_of_form : (w : List ℕ) (o : Option (List ℕ)) → is_empty w ≡ false → Fine (word_and_operands (w, o)) → (f : WordForm) × (lookup words w ≡ Some f)
    word_of_form [] o e h = absurd (cc e)
    word_of_form (c ∷ w) o e h = grind (arith, fine_then, fine_or, fine_ok)

    word_known : (w : List ℕ) (o : Option (List ℕ)) → is_empty w ≡ false → Fine (word_and_operands (trimmed_cut (w, o))) → (f : WordForm) × (lookup words w ≡ Some f)
    word_known w None e h = word_of_form w None e h
    word_known w (Some r) e h = word_of_form w (some_text (trim_end r)) e h

-- a line without a label
plain_undeclared : (t : List ℕ) → Fine (word_and_operands (first_cut is_blank (trim t))) → declaration_of (fields t) ≡ None
plain_undeclared t h =
    ap declaration_of (fields_by t) ∙ undeclared_by (first_cut is_blank (trim_front t)) (λ e. (no_first_word t e).0) (subst (λ p. Fine (word_and_operands p)) (cut_trimmed (trim_front t)) h)

-- ---- a line with a label

-- what a text that was cut is with another text after it
abbrev cut_on : List ℕ × Option (List ℕ) → List ℕ → List ℕ × Option (List ℕ) → List ℕ × Option (List ℕ)
cut_on (w, None) x q = (w ++ q.0, q.1)
cut_on (w, Some r) x q = (w, Some (r ++ x))

cut_on_more : (c : ℕ) (p : List ℕ × Option (List ℕ)) (x : List ℕ) (q : List ℕ × Option (List ℕ)) → (c ∷ (cut_on p x q).0, (cut_on p x q).1) ≡ cut_on (c ∷ p.0, p.1) x q
cut_on_more c (w, None) x q = refl
cut_on_more c (w, Some r) x q = refl

cut_on_by : (b : Bool) (f : ℕ → Bool) (c : ℕ) (s x : List ℕ) → first_cut f (s ++ x) ≡ cut_on (first_cut f s) x (first_cut f x) → halves_with_character b c (s ++ x) (first_cut f (s ++ x)) ≡ cut_on (halves_with_character b c s (first_cut f s)) x (first_cut f x)
cut_on_by true f c s x h = refl
cut_on_by false f c s x h = ap (λ (p : List ℕ × Option (List ℕ)). (c ∷ p.0, p.1)) h ∙ cut_on_more c (first_cut f s) x (first_cut f x)

cut_append : (f : ℕ → Bool) (s x : List ℕ) → first_cut f (s ++ x) ≡ cut_on (first_cut f s) x (first_cut f x)
cut_append f [] x = refl
cut_append f (c ∷ s) x = cut_on_by (f c) f c s x (cut_append f s x)

front_on_by : (b : Bool) (c : ℕ) (t r : List ℕ) → trim_front (t ++ 58 ∷ r) ≡ trim_front t ++ 58 ∷ r → cond b (trim_front (t ++ 58 ∷ r)) (c ∷ (t ++ 58 ∷ r)) ≡ cond b (trim_front t) (c ∷ t) ++ 58 ∷ r
front_on_by true c t r h = h
front_on_by false c t r h = refl

-- the blanks at the front of a text that a colon follows
front_on : (t r : List ℕ) → trim_front (t ++ 58 ∷ r) ≡ trim_front t ++ 58 ∷ r
front_on [] r = refl
front_on (c ∷ t) r = front_on_by (is_blank c) c t r (front_on t r)

colon_there : (w x : List ℕ) → every (λ c. not (c == 58)) (w ++ 58 ∷ x) ≡ false
colon_there [] x = refl
colon_there (c ∷ w) x = ap (λ b. not (c == 58) && b) (colon_there w x) ∙ and_false (not (c == 58))

colon_word : (w x : List ℕ) (ts : List (List ℕ)) → with_word (w ++ 58 ∷ x) ts ≡ (w ++ 58 ∷ x) ∷ ts
colon_word [] x ts = refl
colon_word (c ∷ w) x ts = refl

name_no_blank : (c : ℕ) → is_name_character c ≡ true → is_blank c ≡ false
name_no_blank c e = grind (arith, e)

uncut : (t : List ℕ) → every is_name_character t ≡ true → first_cut is_blank t ≡ (t, None)
uncut [] e = refl
uncut (c ∷ t) e =
    ap (λ b. halves_with_character b c t (first_cut is_blank t)) (name_no_blank c (and_first (is_name_character c) (every is_name_character t) e))
    ∙ ap (λ (p : List ℕ × Option (List ℕ)). (c ∷ p.0, p.1)) (uncut t (and_second (is_name_character c) (every is_name_character t) e))

label_uncut : (t : List ℕ) → is_label t ≡ true → first_cut is_blank t ≡ (t, None)
label_uncut [] e = absurd (cc e)
label_uncut (c ∷ t) e = grind (arith, and_second, uncut)

no_text : (s : List ℕ) → some_text s ≡ None → s ≡ []
no_text [] e = refl
no_text (c ∷ s) e = absurd (cc e)

blank_by : (b : Bool) (c : ℕ) (s : List ℕ) → is_blank c ≡ b → before_trimmed c s ≡ [] → (is_blank c ≡ true) × (s ≡ [])
blank_by b c (d ∷ s) e h = absurd (cc h)
blank_by true c [] e h = (e, refl)
blank_by false c [] e h = let k : c ∷ [] ≡ [] = sym (kept_first c [] e) ∙ h in absurd (cc k)

colon_fields : (x : List ℕ) (ps : List (List ℕ)) → (p : List ℕ) × (qs : List (List ℕ)) × (ps ≡ p ∷ qs) → is_labelled (filled (pieces_with_character false 58 ps)) ≡ true
colon_fields x ps h = ap (λ ps. is_labelled (filled (pieces_with_character false 58 ps))) h.2

-- a colon after blanks begins a field
blank_colon : (r x : List ℕ) → trim_end r ≡ [] → is_labelled (fields (r ++ 58 ∷ x)) ≡ true
blank_colon [] x e = colon_fields x (pieces is_blank x) (some_pieces is_blank x)
blank_colon (c ∷ r) x e =
    let b = blank_by (is_blank c) c (trim_end r) refl e in
    ap is_labelled (fields_blank c (r ++ 58 ∷ x) b.0) ∙ blank_colon r x b.1

-- the first word of a label and what follows it, and a colon after them
label_undeclared_by : (p : List ℕ × Option (List ℕ)) (r : List ℕ) (q : List ℕ × Option (List ℕ)) → (is_empty p.0 ≡ true → p ≡ ([], None)) → ((s : List ℕ) → p.1 ≡ Some s → trim_end s ≡ []) → q ≡ (58 ∷ (first_cut is_blank r).0, (first_cut is_blank r).1)
    → declaration_of (with_word (cut_on p (58 ∷ r) q).0 (later_fields (cut_on p (58 ∷ r) q).1)) ≡ None
label_undeclared_by (w, None) r q g f e =
    let y = first_cut is_blank r in
    ap (λ (q : List ℕ × Option (List ℕ)). declaration_of (with_word (w ++ q.0) (later_fields q.1))) e
    ∙ ap declaration_of (colon_word w y.0 (later_fields y.1))
    ∙ other_word (w ++ 58 ∷ y.0) (later_fields y.1) (unknown (λ n. every (λ c. not (c == 58)) n) declaration_words (w ++ 58 ∷ y.0) refl (colon_there w y.0))
label_undeclared_by ([], Some s) r q g f e = let z : Some s ≡ None = ap (λ (p : List ℕ × Option (List ℕ)). p.1) (g refl) in absurd (cc z)
label_undeclared_by (c ∷ w, Some s) r q g f e = label_first (c ∷ w) (fields (s ++ 58 ∷ r)) (blank_colon s r (f s refl))

cut_blanks : (p : List ℕ × Option (List ℕ)) (s : List ℕ) → (trimmed_cut p).1 ≡ None → p.1 ≡ Some s → trim_end s ≡ []
cut_blanks (w, None) s e h = absurd (cc h)
cut_blanks (w, Some r) s e h = let k : r ≡ s = cc h in ap trim_end (sym k) ∙ no_text (trim_end r) e

-- a label and its colon are no declaration
label_undeclared : (t r : List ℕ) → is_label (trim t) ≡ true → declaration_of (fields (t ++ 58 ∷ r)) ≡ None
label_undeclared t r h =
    let u = trim_front t in
    let p = first_cut is_blank u in
    let whole : trimmed_cut p ≡ (trim t, None) = sym (cut_trimmed u) ∙ label_uncut (trim t) h in
    let none : (trimmed_cut p).1 ≡ None = ap (λ (p : List ℕ × Option (List ℕ)). p.1) whole in
    let e : first_cut is_blank (trim_front (t ++ 58 ∷ r)) ≡ cut_on p (58 ∷ r) (first_cut is_blank (58 ∷ r)) = ap (first_cut is_blank) (front_on t r) ∙ cut_append is_blank u (58 ∷ r) in
    ap declaration_of (fields_by (t ++ 58 ∷ r))
    ∙ ap (λ (p : List ℕ × Option (List ℕ)). declaration_of (with_word p.0 (later_fields p.1))) e
    ∙ label_undeclared_by p r (first_cut is_blank (58 ∷ r)) (λ i. (no_first_word t i).0) (λ s i. cut_blanks p s none i) refl

undeclared_code : (code : List ℕ) (p : List ℕ × Option (List ℕ)) → Cuts (λ c. c == 58) code p → Fine (label_and_rest p.0 p.1) → declaration_of (fields code) ≡ None
undeclared_code code (t, None) e h = ap (λ x. declaration_of (fields x)) e ∙ plain_undeclared t (fine_as (line_with None) (word_and_operands (first_cut is_blank (trim t))) h)
undeclared_code code (t, Some r) e h =
    ap (λ x. declaration_of (fields x)) (e.2 ∙ ap (λ c. t ++ c ∷ r) (is_colon e.0 e.1)) ∙ label_undeclared t r (label_by (is_label (trim t)) t r h).0

-- a line that the assembler reads declares nothing
pub line_undeclared : (l : List ℕ) → Fine (line_read l) → declaration_in l ≡ None
unfolding line_read
line_undeclared l h = let code = without_comment l in undeclared_code code (first_cut (λ c. c == 58) code) (cuts (λ c. c == 58) code) h
