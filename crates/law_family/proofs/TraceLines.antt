-- A trace without the lines that begin with `>` is the transcript.
use Rattle.std.proofs.Common.{◌≡◌, ℕ, ◌+◌, Bool, true, false, cond, not, List, [], ◌∷◌, ◌++◌, Option, Some, None, refl, sym, ◌∙◌, ap, subst, arith, append_assoc}
use Rattle.std.specs.Prelude.{◌==◌, codes, decimal, filter}
use Rattle.std.proofs.lemmas.Bool.{and_from, and_parts, ne_eqb, not-true}
use Rattle.model_play.specs.model_device.specs.Bytes.{bytes2}
use Rattle.model_play.specs.model_text.specs.Text.{begins, pieces, pieces_with_character, every}
use Rattle.model_play.specs.model_machine.specs.Chain.{Turn}
use Rattle.model_play.specs.model_text.specs.Listing.{hex_text}
use Rattle.model_play.specs.Transcript.{text_of_result, line_text, transcript}
use Rattle.model_play.specs.model_text.specs.TurnText.{ins_text, bit_text, turn_line, turn_lines}
use Rattle.model_play.specs.TraceText.{shown_turns, trace_text, is_turn_line, joined_lines, TraceLaw}
use Rattle.model_play.specs.Play.{LineResult, Step}
use Rattle.law_family.proofs.FlatTexts.{unfed, unmarked, Flat, flat_append, flat_decimal, unmarked_decimal, flat_hex, flat_ins, flat_bit, flat_shown}

-- a line with its line feed, and whether it begins with `>`
record Marked (mark : Bool) (x : List ℕ) : Type 0 where
  body : List ℕ
  is : x ≡ body ++ 10 ∷ []
  flat : Flat body
  first : begins 62 body ≡ mark

unmarked_append : (a b : List ℕ) → every unmarked a ≡ true → begins 62 b ≡ false → begins 62 (a ++ b) ≡ false
unmarked_append [] b h k = k
unmarked_append (c ∷ a) b h k = not-true (c == 62) (and_parts (unmarked c) (every unmarked a) h).0

-- ---- the lines of a trace

turn_marked : (t : Turn) → Marked true (turn_line t)
unfolding turn_line
turn_marked t =
    let at : List ℕ = codes " " ++ hex_text (bytes2 t.at) in
    let ins : List ℕ = at ++ codes " " ++ ins_text t.ins in
    let dt : List ℕ = ins ++ codes " " ++ hex_text (bytes2 t.dt) in
    let flags : List ℕ = dt ++ codes " " ++ bit_text t.c ++ bit_text t.z in
    let flat-at : Flat at = flat_append (codes " ") (hex_text (bytes2 t.at)) refl (flat_hex (bytes2 t.at)) in
    let flat-i : Flat ins = flat_append (at ++ codes " ") (ins_text t.ins) (flat_append at (codes " ") flat-at refl) (flat_ins t.ins) in
    let flat-dt : Flat dt = flat_append (ins ++ codes " ") (hex_text (bytes2 t.dt)) (flat_append ins (codes " ") flat-i refl) (flat_hex (bytes2 t.dt)) in
    let flat-flags : Flat flags =
    flat_append (dt ++ codes " " ++ bit_text t.c) (bit_text t.z) (flat_append (dt ++ codes " ") (bit_text t.c) (flat_append dt (codes " ") flat-dt refl) (flat_bit t.c)) (flat_bit t.z) in
    let depth : unfed (48 + t.depth) ≡ true = ap not (ne_eqb (48 + t.depth) 10 (λ e. absurd (omega (arith, e)))) in
    record { body = 62 ∷ 32 ∷ (48 + t.depth) ∷ flags; is = refl; flat = and_from (unfed (48 + t.depth)) (every unfed flags) depth flat-flags; first = refl }

result_marked : (n : ℕ) (r : LineResult) → Marked false (line_text n (Some r))
result_marked n r =
    let number : List ℕ = decimal n ++ codes " " in
    record {
      body = number ++ text_of_result r;
      is = refl;
      flat = flat_append number (text_of_result r) (flat_append (decimal n) (codes " ") (flat_decimal n) refl) (flat_shown r);
      first = ap (begins 62) (append_assoc (decimal n) (codes " ") (text_of_result r)) ∙ unmarked_append (decimal n) (codes " " ++ text_of_result r) (unmarked_decimal n) refl;
    }

-- ---- pieces

abbrev feeds : ℕ → Bool
feeds c = c == 10

abbrev stays : List ℕ → Bool
stays l = not (is_turn_line l)

pieces_line : (body rest : List ℕ) → Flat body → pieces feeds (body ++ 10 ∷ rest) ≡ body ∷ pieces feeds rest
pieces_line [] rest h = refl
pieces_line (c ∷ body) rest h =
    let p = and_parts (unfed c) (every unfed body) h in
    ap (λ (b : Bool). pieces_with_character b c (pieces feeds (body ++ 10 ∷ rest))) (not-true (c == 10) p.0)
    ∙ ap (λ (ps : List (List ℕ)). pieces_with_character false c ps) (pieces_line body rest p.1)

-- the pieces of a that do not begin with `>` are some, and joined they are b
record Sifted (a b : List ℕ) : Type 0 where
  first : List ℕ
  others : List (List ℕ)
  kept : filter stays (pieces feeds a) ≡ first ∷ others
  text : joined_lines (first ∷ others) ≡ b

pieces_marked : (mark : Bool) (x a : List ℕ) (l : Marked mark x) → pieces feeds (x ++ a) ≡ l.body ∷ pieces feeds a
pieces_marked mark x a l = ap (λ (t : List ℕ). pieces feeds (t ++ a)) l.is ∙ ap (pieces feeds) (append_assoc l.body (10 ∷ []) a) ∙ pieces_line l.body a l.flat

-- a piece before those that are kept
abbrev kept_by : Bool → List ℕ → List (List ℕ) → List (List ℕ)
kept_by b p ps = cond b (p ∷ ps) ps

kept_next : (mark : Bool) (x a : List ℕ) (l : Marked mark x) → filter stays (pieces feeds (x ++ a)) ≡ kept_by (not mark) l.body (filter stays (pieces feeds a))
kept_next mark x a l = ap (filter stays) (pieces_marked mark x a l) ∙ ap (λ (m : Bool). kept_by (not m) l.body (filter stays (pieces feeds a))) l.first

sifted_none : Sifted [] []
sifted_none = record { first = []; others = []; kept = refl; text = refl }

sifted_turn : (x a b : List ℕ) → Marked true x → Sifted a b → Sifted (x ++ a) b
sifted_turn x a b l s =
    record {
      first = s.first;
      others = s.others;
      kept = kept_next true x a l ∙ s.kept;
      text = s.text;
    }

sifted_line : (x a b : List ℕ) → Marked false x → Sifted a b → Sifted (x ++ a) (x ++ b)
sifted_line x a b l s =
    record {
      first = l.body;
      others = s.first ∷ s.others;
      kept = kept_next false x a l ∙ ap (λ (ps : List (List ℕ)). l.body ∷ ps) s.kept;
      text = ap (λ (t : List ℕ). l.body ++ 10 ∷ t) s.text ∙ sym (append_assoc l.body (10 ∷ []) b) ∙ ap (λ (t : List ℕ). t ++ b) (sym l.is);
    }

sifted_turns : (ts : List Turn) (a b : List ℕ) → Sifted a b → Sifted (turn_lines ts ++ a) b
sifted_turns [] a b s = s
sifted_turns (t ∷ ts) a b s =
    subst (λ (x : List ℕ). Sifted x b) (sym (append_assoc (turn_line t) (turn_lines ts) a)) (sifted_turn (turn_line t) (turn_lines ts ++ a) b (turn_marked t) (sifted_turns ts a b s))

sifted_result : (n : ℕ) (r : Option LineResult) (a b : List ℕ) → Sifted a b → Sifted (line_text n r ++ a) (line_text n r ++ b)
sifted_result n None a b s = s
sifted_result n (Some r) a b s = sifted_line (line_text n (Some r)) a b (result_marked n r) s

sifted_play : (ts : List Step) → Sifted (trace_text ts) (transcript ts)
sifted_play [] = sifted_none
sifted_play (t ∷ ts) =
    let turns = shown_turns t.turns t.stop in
    let text = line_text t.number t.result in
    subst (λ (x : List ℕ). Sifted x (text ++ transcript ts)) (sym (append_assoc (turn_lines turns) text (trace_text ts)))
    (sifted_turns turns (text ++ trace_text ts) (text ++ transcript ts) (sifted_result t.number t.result (trace_text ts) (transcript ts) (sifted_play ts)))

pub trace_law : TraceLaw
trace_law ts = let s = sifted_play ts in ap joined_lines s.kept ∙ s.text
