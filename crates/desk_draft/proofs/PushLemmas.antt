-- A deck that grows by texts that may be refused.
use Rattle.std.proofs.Common.{◌≡◌, ℕ, Bool, true, false, List, [], ◌∷◌, ◌++◌, length, drop, Option, Some, None, Result, Ok, Err, refl, sym, ap, subst, ◌∙◌, append_assoc, arith}
use Rattle.std.specs.Prelude.{◌==◌, ◌&&◌}
use Rattle.mc_text.specs.model_device.specs.Bytes.{has_name}
use Rattle.mc_text.specs.model_text.specs.Text.{◌>>=◌, ok_as, first_cut, pieces}
use Rattle.mc_deck.specs.model_play.specs.declared.deck.DeckCause.{DeckCause}
use Rattle.mc_text.proofs.ReadingLemmas.{pieces_at, pieces_cut}
use Rattle.desk_draft.specs.Declarations.{NameMeaning}
use Rattle.desk_draft.specs.Operands.{operand_text, piece_text, later_text, pieces_text, operands_text, after_text, body_text, labelled_text, instruction_text, jump_words, sized_words}
use Rattle.desk_draft.specs.Parts.{part_of, with_core, before_rest, first_word, after_word, without_comment}
use Rattle.mc_deck.specs.declared.refusal.Fault.{Fault}
use Rattle.mc_deck.specs.declared.refusal.Fault.TheVariants as fault
use Rattle.mc_deck.specs.Refused.{Faulty}
use Rattle.desk_draft.specs.Views.{Pushes}

abbrev pub Text : Type 0
Text = Result (List ℕ) DeckCause

abbrev pub Names : Type 0
Names = List (List ℕ × NameMeaning)

-- ---- refusals

-- a text that is refused is refused whatever is made of it
pub faulty_as : (f : List ℕ → List ℕ) (r : Text) (e : Fault) → Faulty r e → Faulty (ok_as f r) e
faulty_as f r (fault.Cause c) h = rw h refl
faulty_as f r fault.NoMemory h = tt

-- and refused where what is made of it is
pub faulty_of : (d : List ℕ) (r : Text) (e : Fault) → Faulty (ok_as (λ t. d ++ t) r) e → Faulty r e
faulty_of d (Ok t) (fault.Cause c) h = absurd (cc h)
faulty_of d (Err x) (fault.Cause c) h = h
faulty_of d (Ok t) fault.NoMemory h = tt
faulty_of d (Err x) fault.NoMemory h = tt

-- a text whose first part is refused
pub faulty_then : (r : Text) (f : List ℕ → Text) (e : Fault) → Faulty r e → Faulty (r >>= f) e
faulty_then r f (fault.Cause c) h = rw h refl
faulty_then r f fault.NoMemory h = tt

faulty_same : (r s : Text) (e : Fault) → r ≡ s → Faulty r e → Faulty s e
faulty_same r s e i h = subst (λ (x : Text). Faulty x e) i h

-- ---- texts after texts

ok_is : (x y : List ℕ) (r : Text) → r ≡ Ok x → r ≡ Ok y → x ≡ y
ok_is x y r e h = grind (arith, e, h)

-- a text after another one that is kept
pushed_after : (d b n : List ℕ) (r : Text) → ok_as (λ t. (d ++ b) ++ t) r ≡ Ok n → ok_as (λ t. d ++ t) (ok_as (λ t. b ++ t) r) ≡ Ok n
pushed_after d b n (Ok t) h = ap Ok (sym (append_assoc d b t)) ∙ h
pushed_after d b n (Err e) h = absurd (cc h)

pub pushes_after : (d b m n : List ℕ) (r : Text) (p : Result (Unit {0}) Fault) → m ≡ d ++ b → Pushes m r p n → Pushes d (ok_as (λ t. b ++ t) r) p n
pushes_after d b m n r (Ok u) e h = pushed_after d b n r (subst (λ (x : List ℕ). ok_as (λ t. x ++ t) r ≡ Ok n) e h)
pushes_after d b m n r (Err f) e h = faulty_as (λ t. b ++ t) r f h

-- a text before another one that is kept
pub pushed_before : (d m a : List ℕ) (r : Text) → ok_as (λ t. d ++ t) r ≡ Ok m → ok_as (λ t. d ++ t) (ok_as (λ t. t ++ a) r) ≡ Ok (m ++ a)
pushed_before d m a (Ok t) h = ap Ok (sym (append_assoc d t a) ∙ ap (λ x. x ++ a) (ok_is (d ++ t) m (Ok (d ++ t)) refl h))
pushed_before d m a (Err e) h = absurd (cc h)

-- ---- one operand

-- a part with the blanks around it
pub piece_pushed : (names : Names) (sized : Bool) (p t d m n o : List ℕ) → Ok t ≡ operand_text names sized (part_of p).core → m ≡ d ++ (part_of p).before → n ≡ m ++ t → o ≡ n ++ (part_of p).after
    → ok_as (λ x. d ++ x) (piece_text names sized p) ≡ Ok o
piece_pushed names sized p t d m n o h i j k =
    let f = part_of p in
    let e : ((d ++ f.before) ++ t) ++ f.after ≡ o = ap (λ x. (x ++ t) ++ f.after) (sym i) ∙ ap (λ x. x ++ f.after) (sym j) ∙ sym k in
    subst (λ (r : Text). ok_as (λ x. d ++ x) (ok_as (with_core f) r) ≡ Ok o) h
    (ap Ok (sym (append_assoc d (f.before ++ t) f.after) ∙ ap (λ x. x ++ f.after) (sym (append_assoc d f.before t)) ∙ e))

pub piece_faulty : (names : Names) (sized : Bool) (p : List ℕ) (c : DeckCause) → Err c ≡ operand_text names sized (part_of p).core → piece_text names sized p ≡ Err c
piece_faulty names sized p c h = subst (λ (r : Text). ok_as (with_core (part_of p)) r ≡ Err c) h refl

-- ---- pieces

-- what the text that is left becomes
abbrev pub left_text : Names → Bool → Option (List ℕ) → Text
left_text names sized None = Ok []
left_text names sized (Some t) = later_text names sized (pieces (λ c. c == 44) t)

later_cut : (names : Names) (sized : Bool) (p : List ℕ × Option (List ℕ))
    → later_text names sized (pieces_cut (λ c. c == 44) p) ≡ (piece_text names sized p.0 >>= λ t. ok_as (λ rest. 44 ∷ (t ++ rest)) (left_text names sized p.1))
later_cut names sized (a, None) = refl
later_cut names sized (a, Some t) = refl

-- a piece after a comma, and what is left after it
later_at : (names : Names) (sized : Bool) (t a : List ℕ) (b : Option (List ℕ)) → a ≡ (first_cut (λ c. c == 44) t).0 → b ≡ (first_cut (λ c. c == 44) t).1
    → left_text names sized (Some t) ≡ (piece_text names sized a >>= λ x. ok_as (λ rest. 44 ∷ (x ++ rest)) (left_text names sized b))
later_at names sized t a b e f = rw (e, f) (ap (later_text names sized) (pieces_at (λ c. c == 44) t) ∙ later_cut names sized (first_cut (λ c. c == 44) t))

pieces_of_cut : (names : Names) (sized : Bool) (p : List ℕ × Option (List ℕ))
    → pieces_text names sized (pieces_cut (λ c. c == 44) p) ≡ (piece_text names sized p.0 >>= λ t. ok_as (λ rest. t ++ rest) (left_text names sized p.1))
pieces_of_cut names sized (a, None) = refl
pieces_of_cut names sized (a, Some t) = refl

-- the first piece, and what is left after it
pieces_first : (names : Names) (sized : Bool) (t a : List ℕ) (b : Option (List ℕ)) → a ≡ (first_cut (λ c. c == 44) t).0 → b ≡ (first_cut (λ c. c == 44) t).1
    → pieces_text names sized (pieces (λ c. c == 44) t) ≡ (piece_text names sized a >>= λ x. ok_as (λ rest. x ++ rest) (left_text names sized b))
pieces_first names sized t a b e f = rw (e, f) (ap (pieces_text names sized) (pieces_at (λ c. c == 44) t) ∙ pieces_of_cut names sized (first_cut (λ c. c == 44) t))

joined : (d n x : List ℕ) (r : Text) → d ++ x ≡ n → ok_as (λ t. n ++ t) r ≡ ok_as (λ t. d ++ t) (ok_as (λ rest. x ++ rest) r)
joined d n x (Err e) h = refl
joined d n x (Ok y) h = ap Ok (ap (λ m. m ++ y) (sym h) ∙ append_assoc d x y)

-- a text was added, and its rest is left
pub pushed_then : (d n : List ℕ) (p r : Text) → ok_as (λ t. d ++ t) p ≡ Ok n → ok_as (λ t. n ++ t) r ≡ ok_as (λ t. d ++ t) (p >>= λ x. ok_as (λ rest. x ++ rest) r)
pushed_then d n (Ok x) r h = joined d n x r (ok_is (d ++ x) n (Ok (d ++ x)) refl h)
pushed_then d n (Err e) r h = absurd (cc h)

comma_by : (d n x : List ℕ) (r : Text) → (d ++ 44 ∷ []) ++ x ≡ n → ok_as (λ t. n ++ t) r ≡ ok_as (λ t. d ++ t) (ok_as (λ rest. 44 ∷ (x ++ rest)) r)
comma_by d n x (Err e) h = refl
comma_by d n x (Ok y) h = ap Ok (ap (λ m. m ++ y) (sym h) ∙ append_assoc (d ++ 44 ∷ []) x y ∙ append_assoc d (44 ∷ []) (x ++ y))

-- a comma and a text were added, and the rest is left
comma_then : (d n : List ℕ) (p r : Text) → ok_as (λ t. (d ++ 44 ∷ []) ++ t) p ≡ Ok n → ok_as (λ t. n ++ t) r ≡ ok_as (λ t. d ++ t) (p >>= λ x. ok_as (λ rest. 44 ∷ (x ++ rest)) r)
comma_then d n (Ok x) r h = comma_by d n x r (ok_is ((d ++ 44 ∷ []) ++ x) n (Ok ((d ++ 44 ∷ []) ++ x)) refl h)
comma_then d n (Err e) r h = absurd (cc h)

-- the first piece is refused
pub first_faulty : (names : Names) (sized : Bool) (t a : List ℕ) (b : Option (List ℕ)) (e : Fault) → a ≡ (first_cut (λ c. c == 44) t).0 → b ≡ (first_cut (λ c. c == 44) t).1
    → Faulty (piece_text names sized a) e → Faulty (pieces_text names sized (pieces (λ c. c == 44) t)) e
first_faulty names sized t a b e f g h =
    faulty_same (piece_text names sized a >>= λ x. ok_as (λ rest. x ++ rest) (left_text names sized b)) (pieces_text names sized (pieces (λ c. c == 44) t)) e (sym (pieces_first names sized t a b f g))
    (faulty_then (piece_text names sized a) (λ x. ok_as (λ rest. x ++ rest) (left_text names sized b)) e h)

-- the first piece was added
pub first_pushed : (names : Names) (sized : Bool) (t a : List ℕ) (b : Option (List ℕ)) (d n : List ℕ) → a ≡ (first_cut (λ c. c == 44) t).0 → b ≡ (first_cut (λ c. c == 44) t).1
    → ok_as (λ t. d ++ t) (piece_text names sized a) ≡ Ok n → ok_as (λ t. n ++ t) (left_text names sized b) ≡ ok_as (λ t. d ++ t) (pieces_text names sized (pieces (λ c. c == 44) t))
first_pushed names sized t a b d n f g h = pushed_then d n (piece_text names sized a) (left_text names sized b) h ∙ ap (ok_as (λ t. d ++ t)) (sym (pieces_first names sized t a b f g))

-- a later piece is refused
pub later_faulty : (names : Names) (sized : Bool) (t a : List ℕ) (b : Option (List ℕ)) (d o : List ℕ) (whole : Text) (e : Fault) → a ≡ (first_cut (λ c. c == 44) t).0 → b ≡ (first_cut (λ c. c == 44) t).1
    → ok_as (λ t. d ++ t) (left_text names sized (Some t)) ≡ ok_as (λ t. o ++ t) whole → Faulty (piece_text names sized a) e → Faulty whole e
later_faulty names sized t a b d o whole e f g inv h =
    faulty_of o whole e (faulty_same (ok_as (λ t. d ++ t) (left_text names sized (Some t))) (ok_as (λ t. o ++ t) whole) e inv (
    faulty_as (λ t. d ++ t) (left_text names sized (Some t)) e (
    faulty_same (piece_text names sized a >>= λ x. ok_as (λ rest. 44 ∷ (x ++ rest)) (left_text names sized b)) (left_text names sized (Some t)) e (sym (later_at names sized t a b f g))
    (faulty_then (piece_text names sized a) (λ x. ok_as (λ rest. 44 ∷ (x ++ rest)) (left_text names sized b)) e h))))

-- a comma and a later piece were added
pub later_pushed : (names : Names) (sized : Bool) (t a : List ℕ) (b : Option (List ℕ)) (d m n o : List ℕ) (whole : Text) → a ≡ (first_cut (λ c. c == 44) t).0 → b ≡ (first_cut (λ c. c == 44) t).1
    → ok_as (λ t. d ++ t) (left_text names sized (Some t)) ≡ ok_as (λ t. o ++ t) whole → m ≡ d ++ 44 ∷ [] → ok_as (λ t. m ++ t) (piece_text names sized a) ≡ Ok n
    → ok_as (λ t. n ++ t) (left_text names sized b) ≡ ok_as (λ t. o ++ t) whole
later_pushed names sized t a b d m n o whole f g inv i h =
    comma_then d n (piece_text names sized a) (left_text names sized b) (subst (λ (x : List ℕ). ok_as (λ t. x ++ t) (piece_text names sized a) ≡ Ok n) i h)
    ∙ ap (ok_as (λ t. d ++ t)) (sym (later_at names sized t a b f g)) ∙ inv

-- ---- a word and what stands after it

-- a jump's operands stay
pub jump_pushed : (names : Names) (word after d : List ℕ) → has_name word jump_words ≡ true → ok_as (λ t. d ++ t) (after_text names word after) ≡ Ok (d ++ after)
jump_pushed names word after d h = rw h refl

-- another word's operands become what they name
pub operands_pushed : (names : Names) (word after d n : List ℕ) (sized : Bool) (p : Result (Unit {0}) Fault) → has_name word jump_words ≡ false → sized ≡ (has_name word sized_words && (length (pieces (λ c. c == 44) after) == 1))
    → Pushes d (pieces_text names sized (pieces (λ c. c == 44) after)) p n → Pushes d (after_text names word after) p n
operands_pushed names word after d n sized p h e k =
    let t : after_text names word after ≡ operands_text names word (pieces (λ c. c == 44) after) = rw h refl in
    subst (λ (r : Text). Pushes d r p n) (sym t) (subst (λ (s : Bool). Pushes d (pieces_text names s (pieces (λ c. c == 44) after)) p n) e k)

-- a body
pub body_pushed : (names : Names) (body after word before d m n : List ℕ) (p : Result (Unit {0}) Fault) → after ≡ after_word body → word ≡ first_word body → before ≡ before_rest body after → m ≡ d ++ before
    → Pushes m (after_text names word after) p n → Pushes d (body_text names body) p n
body_pushed names body after word before d m n p e f g i h =
    let k : Pushes d (ok_as (λ t. before ++ t) (after_text names word after)) p n = pushes_after d before m n (after_text names word after) p i h in
    let a : Pushes d (ok_as (λ t. before_rest body after ++ t) (after_text names word after)) p n = subst (λ (x : List ℕ). Pushes d (ok_as (λ t. x ++ t) (after_text names word after)) p n) g k in
    let b : Pushes d (ok_as (λ t. before_rest body after ++ t) (after_text names (first_word body) after)) p n =
    subst (λ (x : List ℕ). Pushes d (ok_as (λ t. before_rest body after ++ t) (after_text names x after)) p n) f a in
    subst (λ (x : List ℕ). Pushes d (ok_as (λ t. before_rest body x ++ t) (after_text names (first_word body) x)) p n) e b

-- ---- labels

labelled_cut : (names : Names) (q : List ℕ × Option (List ℕ)) (front : List ℕ) → front ≡ q.0 → None ≡ q.1 → body_text names front ≡ labelled_text names q
labelled_cut names (a, None) front e f = ap (body_text names) e
labelled_cut names (a, Some t) front e f = absurd (cc f)

-- a line without a label
pub unlabelled : (names : Names) (code front d n : List ℕ) (p : Result (Unit {0}) Fault) → front ≡ (first_cut (λ c. c == 58) code).0 → None ≡ (first_cut (λ c. c == 58) code).1
    → Pushes d (body_text names front) p n → Pushes d (labelled_text names (first_cut (λ c. c == 58) code)) p n
unlabelled names code front d n p e f h = subst (λ (r : Text). Pushes d r p n) (labelled_cut names (first_cut (λ c. c == 58) code) front e f) h

colon_cut : (names : Names) (q : List ℕ × Option (List ℕ)) (front body : List ℕ) → front ≡ q.0 → Some body ≡ q.1 → ok_as (λ t. front ++ 58 ∷ t) (body_text names body) ≡ labelled_text names q
colon_cut names (a, None) front body e f = absurd (cc f)
colon_cut names (a, Some t) front body e f =
    let g : body ≡ t = grind (arith, f) in
    rw (e, g) refl

colon_kept : (f : List ℕ) (r : Text) → ok_as (λ t. (f ++ 58 ∷ []) ++ t) r ≡ ok_as (λ t. f ++ 58 ∷ t) r
colon_kept f (Ok t) = ap Ok (append_assoc f (58 ∷ []) t)
colon_kept f (Err e) = refl

-- a line with a label
pub labelled : (names : Names) (code front body d m o n : List ℕ) (p : Result (Unit {0}) Fault) → front ≡ (first_cut (λ c. c == 58) code).0 → Some body ≡ (first_cut (λ c. c == 58) code).1
    → m ≡ d ++ front → o ≡ m ++ 58 ∷ [] → Pushes o (body_text names body) p n → Pushes d (labelled_text names (first_cut (λ c. c == 58) code)) p n
labelled names code front body d m o n p e f i j h =
    let k : o ≡ d ++ (front ++ 58 ∷ []) = j ∙ ap (λ x. x ++ 58 ∷ []) i ∙ append_assoc d front (58 ∷ []) in
    let a : Pushes d (ok_as (λ t. (front ++ 58 ∷ []) ++ t) (body_text names body)) p n = pushes_after d (front ++ 58 ∷ []) o n (body_text names body) p k h in
    subst (λ (r : Text). Pushes d r p n) (colon_kept front (body_text names body) ∙ colon_cut names (first_cut (λ c. c == 58) code) front body e f) a

-- ---- the whole line

pub line_pushed : (names : Names) (line code rest d m n : List ℕ) → code ≡ without_comment line → rest ≡ drop (length code) line → ok_as (λ t. d ++ t) (labelled_text names (first_cut (λ c. c == 58) code)) ≡ Ok m → n ≡ m ++ rest
    → ok_as (λ t. d ++ t) (instruction_text names line) ≡ Ok n
unfolding instruction_text
line_pushed names line code rest d m n e f h i =
    let a : ok_as (λ t. d ++ t) (ok_as (λ t. t ++ rest) (labelled_text names (first_cut (λ c. c == 58) code))) ≡ Ok n = pushed_before d m rest (labelled_text names (first_cut (λ c. c == 58) code)) h ∙ ap Ok (sym i) in
    let b : ok_as (λ t. d ++ t) (ok_as (λ t. t ++ drop (length code) line) (labelled_text names (first_cut (λ c. c == 58) code))) ≡ Ok n =
    subst (λ (x : List ℕ). ok_as (λ t. d ++ t) (ok_as (λ t. t ++ x) (labelled_text names (first_cut (λ c. c == 58) code))) ≡ Ok n) f a in
    subst (λ (x : List ℕ). ok_as (λ t. d ++ t) (ok_as (λ t. t ++ drop (length x) line) (labelled_text names (first_cut (λ c. c == 58) x))) ≡ Ok n) e b

pub line_faulty : (names : Names) (line code : List ℕ) (e : Fault) → code ≡ without_comment line → Faulty (labelled_text names (first_cut (λ c. c == 58) code)) e → Faulty (instruction_text names line) e
unfolding instruction_text
line_faulty names line code e i h =
    let k : Faulty (labelled_text names (first_cut (λ c. c == 58) (without_comment line))) e = subst (λ (x : List ℕ). Faulty (labelled_text names (first_cut (λ c. c == 58) x)) e) i h in
    faulty_as (λ t. t ++ drop (length (without_comment line)) line) (labelled_text names (first_cut (λ c. c == 58) (without_comment line))) e k
