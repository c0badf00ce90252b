-- The line that a tracer writes of a turn is the line of the turn's full turn.
use Rattle.std.proofs.Common.{◌≡◌, ℕ, zero, suc, ◌+◌, ◌-◌, ◌≤◌, Bool, true, false, cond, ◌&&◌, List, [], ◌∷◌, ◌++◌, codes, length, take, Option, Some, None, Result, Ok, Err, refl, arith, sym, ap, subst, ◌∙◌, add-one, append_assoc, length-append}
use Rattle.std.proofs.lemmas.Bool.Decides.{nat_tests}
use Rattle.std.specs.Prelude.{bytes_eq, nat_le, option_and_then, option_map, slice_get, IfSome}
use Rattle.std.proofs.Math.Seq.{take-append_seam}
use Rattle.std.proofs.lemmas.List.{append-nil}
use denote.Ref.{Bor}
use Rattle.mc_words.specs.model_device.specs.Bytes.{bytes2}
use Rattle.mc_words.specs.model_device.specs.Device.{DeviceState}
use Rattle.mc_words.specs.model_device.specs.Limits.{most_code}
use Rattle.mc_words.specs.model_device.specs.Orders.{Answer}
use Rattle.mc_words.specs.model_device.proofs.MapLemmas.{same_name}
use Rattle.mc_arith.specs.model_machine.specs.declared.instruction.Ins.{Ins}
use Rattle.mc_arith.specs.model_machine.specs.declared.instruction.DecodeFault.{DecodeFault}
use Rattle.mc_arith.specs.model_machine.specs.declared.instruction.DecodeFault.TheVariants.{Undefined, Past}
use Rattle.mc_arith.specs.model_machine.specs.Code.{instruction_at}
use Rattle.mc_arith.specs.model_machine.specs.Frame.{Frame, Place, Static, Dynamic, Public, dynamic_base, dynamic_end, public_base, public_end, resolve, where_is}
use Rattle.mc_isa.specs.model_text.specs.Listing.{hex_text}
use Rattle.mc_arith.specs.model_machine.specs.Primitives.{Goes, Done, Then}
use Rattle.mc_arith.specs.model_machine.specs.Row.{RowEnd, Abends, Does, row}
use Rattle.mc_isa.specs.model_text.specs.TurnText.{bit_text, ins_text, turn_line}
use Rattle.mc_arith.specs.model_machine.specs.Chain.{Chain, Turn as ModelTurn, Follows, Continues, Ends, around, chain_after_effect, follows, frame_at, row_turn, turn_of, turn_of_chain, turn_of_fetch}
use Rattle.mc_streams.specs.declared.sink.Sink.{Ghosts}
use Rattle.desk_draft.specs.FullTurns.{FullTurn, Span, running_code, span_of, stack_of}
use Rattle.desk_draft.specs.Listings.{CodeLine, Source}
use Rattle.desk_draft.specs.Traces.{is_turn_of, line_of_turn, section_of_turn, trace_line, trace_lines, turn_part, with_part}
use Rattle.desk_draft.specs.Verdicts.{source_line}
use Rattle.mc_machine.specs.declared.outcome.Turn.{Turn}
use Rattle.mc_machine.specs.Chains.{NamesApart}
use Rattle.mc_machine.specs.Turns.{turn_value}
use Rattle.mc_card.specs.declared.card.Card.{Card}
use Rattle.mc_card.specs.Ends.{ChainTurned, TurnGoesOn}
use Rattle.mc_script.specs.Watching.{IsWide}
use Rattle.desk_cover.specs.declared.looking.Scene.{Scene}
use Rattle.desk_cover.specs.declared.tracing.Tracer.{Tracer}
use Rattle.desk_cover.specs.Looking.{IsScene, Lies, LiesAfter, Shows, operand_after, place_in, section_at, span_decoded, span_in, stack_after}
use Rattle.desk_cover.specs.Sections.{index_of, is_of}
use Rattle.desk_cover.specs.Tracing.{line_pair, source_part_of, state_part_of, turn_text, Adds, Traced}
use Rattle.desk_cover.specs.Watching.{full_turn_of}
use Rattle.desk_cover.proofs.AfterLemmas.{turn_shows}
use Rattle.desk_cover.proofs.FullTurnLemmas.{code_is, frame_name, turn_is}
use Rattle.mc_deck.specs.law_rows.specs.Keeping.{Keeps, OnDone}
use Rattle.mc_deck.specs.law_rows.proofs.Keeping.{fixed_longer, row_keeps}
use Rattle.desk_cover.proofs.RowLemmas.{OnSpan, SpanGoes, row_goes}

-- ---- the section of a turn

-- an index among sections of which the first has a higher one
index_moved : (i : ℕ) (ss : List Source) (n k : List ℕ) → index_of (i + 1) ss n k ≡ option_map (λ j. j + 1) (index_of i ss n k)
index_moved i [] n k = refl
index_moved i (s ∷ ss) n k = by_first (is_of n k s) (index_moved (i + 1) ss n k)
  where
    by_first : (b : Bool) → index_of (i + 1 + 1) ss n k ≡ option_map (λ j. j + 1) (index_of (i + 1) ss n k) → cond b (Some (i + 1)) (index_of (i + 1 + 1) ss n k) ≡ option_map (λ j. j + 1) (cond b (Some i) (index_of (i + 1) ss n k))
    by_first true h = refl
    by_first false h = h

later_section : (s : Source) (ss : List Source) (o : Option ℕ) → section_at (s ∷ ss) (option_map (λ j. j + 1) o) ≡ section_at ss o
later_section s ss None = refl
later_section s ss (Some i) = ap (λ (k : ℕ). slice_get (s ∷ ss) k) (add-one i)

-- the section with the index is the one that the turn runs
pub section_found : (ss : List Source) (t : FullTurn) → section_at ss (index_of 0 ss t.frame.name t.code) ≡ section_of_turn ss t
section_found [] t = refl
section_found (s ∷ ss) t = by_first (is_turn_of t s) (ap (section_at (s ∷ ss)) (index_moved 0 ss t.frame.name t.code) ∙ later_section s ss (index_of 0 ss t.frame.name t.code) ∙ section_found ss t)
  where
    by_first : (b : Bool) → section_at (s ∷ ss) (index_of (0 + 1) ss t.frame.name t.code) ≡ section_of_turn ss t → section_at (s ∷ ss) (cond b (Some 0) (index_of (0 + 1) ss t.frame.name t.code)) ≡ cond b (Some s) (section_of_turn ss t)
    by_first true h = refl
    by_first false h = h

both_true : (b c : Bool) → (b && c) ≡ true → c ≡ true
both_true true c e = e
both_true false c e = absurd (cc e)

-- the section that a turn runs has its code
pub section_code : (ss : List Source) (t : FullTurn) (s : Source) → section_of_turn ss t ≡ Some s → s.code ≡ t.code
section_code [] t s e = absurd (cc e)
section_code (r ∷ ss) t s e = by_first (is_turn_of t r) refl e (λ f. section_code ss t s f)
  where
    by_first : (b : Bool) → is_turn_of t r ≡ b → cond b (Some r) (section_of_turn ss t) ≡ Some s → (section_of_turn ss t ≡ Some s → s.code ≡ t.code) → s.code ≡ t.code
    by_first true is e rest =
        let here : r ≡ s = cc e in
        subst (λ (x : Source). x.code ≡ t.code) here (sym (same_name t.code r.code (both_true _ (bytes_eq t.code r.code) is)))
    by_first false is e rest = rest e

-- the section with the index of the running application
pub section_is : (n : ℕ) (ch : Chain) (ss : List Source) (o : Option ℕ) → o ≡ index_of 0 ss ch.frame.name (running_code ch) → section_at ss o ≡ section_of_turn ss (full_turn_of n ch)
section_is n ch ss o e =
    let t = full_turn_of n ch in
    ap (section_at ss) (e ∙ ap (λ (m : List ℕ). index_of 0 ss m (running_code ch)) (sym (frame_name n ch)) ∙ ap (λ (k : List ℕ). index_of 0 ss t.frame.name k) (sym (code_is n ch)))
    ∙ section_found ss t

-- the code that a scene was made with is that of the running application, if there is a section
scene_code : (n : ℕ) (ch : Chain) (ss : List Source) (s : Source) → section_of_turn ss (full_turn_of n ch) ≡ Some s → s.code ≡ running_code ch
scene_code n ch ss s e = section_code ss (full_turn_of n ch) s e ∙ code_is n ch

-- the code of a section is short
pub code_few : (c : Option (Bor (List ℕ))) (o : Option Source) → option_map (λ c. c.now) c ≡ option_map (λ s. s.code) o → IfSome o (λ s. length s.code ≤ most_code) → IfSome c (λ c. length c.now ≤ most_code)
code_few None o e h = tt
code_few (Some c) None e h = absurd (cc e)
code_few (Some c) (Some s) e h = let same : c.now ≡ s.code = cc e in subst (λ (k : List ℕ). length k ≤ most_code) (sym same) h

-- ---- the place of an operand after a turn

-- a place lies in its segment as long as no segment is shorter
lies_by : (f g : Frame) (p : List ℕ) (a n : ℕ) (o : Option Place) → o ≡ where_is f a n → length f.fixed ≤ length g.fixed → f.dt ≤ dynamic_end → 512 ≤ length g.dyn → 1041 ≤ length p → IfSome o (λ x. Lies g p x n)
lies_by f g p a n o is fixed dt dyn public = by_fixed (nat_le (a + n) (length f.fixed)) (nat_le dynamic_base a && nat_le (a + n) f.dt) (nat_le public_base a && nat_le (a + n) public_end) refl refl refl is
  where
    by_fixed : (b c d : Bool) → nat_le (a + n) (length f.fixed) ≡ b → (nat_le dynamic_base a && nat_le (a + n) f.dt) ≡ c → (nat_le public_base a && nat_le (a + n) public_end) ≡ d
        → o ≡ cond b (Some (Static a)) (cond c (Some (Dynamic (a - dynamic_base))) (cond d (Some (Public (a - public_base))) None)) → IfSome o (λ x. Lies g p x n)
    by_fixed true c d x y z is = subst (λ (o : Option Place). IfSome o (λ x. Lies g p x n)) (sym is) (let h : a + n ≤ length f.fixed = grind (arith, nat_tests, x) in omega (arith, h, fixed))
    by_fixed false true d x y z is = subst (λ (o : Option Place). IfSome o (λ x. Lies g p x n)) (sym is) (let h : (a - dynamic_base) + n ≤ 512 = grind (arith, nat_tests, y, dt) in omega (arith, h, dyn))
    by_fixed false false true x y z is = subst (λ (o : Option Place). IfSome o (λ x. Lies g p x n)) (sym is) (let h : (a - public_base) + n ≤ 1041 = grind (arith, nat_tests, z) in omega (arith, h, public))
    by_fixed false false false x y z is = subst (λ (o : Option Place). IfSome o (λ x. Lies g p x n)) (sym is) tt

lies_sized : (g : Frame) (p : List ℕ) (n : ℕ) (o : Option Place) → IfSome o (λ x. Lies g p x n) → IfSome {T = Place × ℕ} (option_map (λ x. (x, n)) o) (λ x. Lies g p x.0 x.1)
lies_sized g p n None h = tt
lies_sized g p n (Some x) h = h

lies_at : (f g : Frame) (p : List ℕ) (n : ℕ) (a : Option ℕ) → length f.fixed ≤ length g.fixed → f.dt ≤ dynamic_end → 512 ≤ length g.dyn → 1041 ≤ length p → IfSome {T = Place × ℕ} (option_map (λ x. (x, n)) (option_and_then (λ x. where_is f x n) a)) (λ x. Lies g p x.0 x.1)
lies_at f g p n None fixed dt dyn public = tt
lies_at f g p n (Some a) fixed dt dyn public = lies_sized g p n (where_is f a n) (lies_by f g p a n (where_is f a n) refl fixed dt dyn public)

lies_span : (f g : Frame) (p : List ℕ) (s : Span) → length f.fixed ≤ length g.fixed → f.dt ≤ dynamic_end → 512 ≤ length g.dyn → 1041 ≤ length p → IfSome (place_in f (Some s)) (λ x. Lies g p x.0 x.1)
lies_span f g p s fixed dt dyn public = lies_at f g p s.size (resolve f s.tag s.offset) fixed dt dyn public

-- after a row: only a row whose frame goes on has an operand
lies_done : (ch : Chain) (o : Option Span) (d : Done) (t : Then) → IsWide ch → ch.frame.dt ≤ dynamic_end → Keeps ch.frame ch.public d.effect → OnSpan o (t ≡ Goes) → LiesAfter (place_in ch.frame o) (follows (chain_after_effect ch d.effect) t)
lies_done ch None d t wide dt keeps goes = by_follows (follows (chain_after_effect ch d.effect) t)
  where
    by_follows : (f : Follows) → LiesAfter None f
    by_follows (Continues c) = tt
    by_follows (Ends o) = tt
lies_done ch (Some s) d t wide dt keeps goes =
    let dyn : 512 ≤ length d.effect.frame.dyn = let a = wide.frames.0 in let b = keeps.dyn in omega (arith, a, b) in
    let public : 1041 ≤ length d.effect.public = let a = wide.public in let b = keeps.public in omega (arith, a, b) in
    subst (λ (x : Then). LiesAfter (place_in ch.frame (Some s)) (follows (chain_after_effect ch d.effect) x)) (sym goes) (lies_span ch.frame d.effect.frame d.effect.public s (fixed_longer ch.frame ch.public d.effect keeps) dt dyn public)

lies_row : (ch : Chain) (i : Ins) (r : RowEnd) → IsWide ch → ch.frame.dt ≤ dynamic_end → OnDone r (λ d. Keeps ch.frame ch.public d.effect) → OnDone r (λ d. SpanGoes i d) → LiesAfter (place_in ch.frame (span_of i)) (row_turn ch i r).follows
lies_row ch i (Abends c) wide dt keeps goes = tt
lies_row ch i (Does d) wide dt keeps goes = lies_done ch (span_of i) d d.next wide dt keeps goes

lies_fetch : (ch : Chain) (r : Result (Ins × ℕ) DecodeFault) → IsWide ch → ch.frame.dt ≤ dynamic_end → LiesAfter (place_in ch.frame (span_decoded r)) (turn_of_fetch ch r).follows
lies_fetch ch (Err Undefined) wide dt = tt
lies_fetch ch (Err Past) wide dt = tt
lies_fetch ch (Ok i) wide dt =
    let f = frame_at ch.frame i.1 in
    let r = row i.0 f ch.public (around ch) in
    lies_row ch i.0 r wide dt (row_keeps i.0 f ch.public (around ch)) (row_goes i.0 f ch.public (around ch))

-- the place of the operand of a turn has its bytes after the turn
pub lies_after : (n : ℕ) (ch : Chain) → IsWide ch → ch.frame.dt ≤ dynamic_end → LiesAfter (place_in ch.frame (span_in ch.frame (running_code ch))) (turn_of n ch).follows
unfolding turn_of_chain
lies_after zero ch wide dt = tt
lies_after (suc n) ch wide dt = lies_fetch ch (instruction_at (running_code ch) ch.frame.at) wide dt

-- ---- what follows a turn on a card

module _ {N : Type 0} (state : N → DeviceState) (wrote : N → ℕ → List ℕ → Answer → N → Type 0) where
  goes_shown : (c d : Card N) (ch : Chain) (left : ℕ) (f : Follows) → TurnGoesOn state wrote c ch left f d → Shows state d f
  goes_shown c d ch left (Continues next) h = (left, h.0)
  goes_shown c d ch left (Ends o) h = h.0.idle

  -- what follows a turn is what the card runs after it
  pub turn_shown : (c d : Card N) (ch : Chain) (left : ℕ) (turn : Turn) → ChainTurned state wrote c ch left (turn_of left ch) (Ok turn) d → Shows state d (turn_of left ch).follows
  turn_shown c d ch left turn h = goes_shown c d ch _ (turn_of left ch).follows h.follows

-- ---- the line of a turn

-- a text that ends with a line feed
record EndsLine (l : List ℕ) : Type 0 where
  before : List ℕ
  are : l ≡ before ++ codes "\n"

ends_more : (x l : List ℕ) → EndsLine l → EndsLine (x ++ l)
ends_more x l h = record { before = x ++ h.before; are = ap (λ (y : List ℕ). x ++ y) h.are ∙ sym (append_assoc x h.before (codes "\n")) }

ends_first : (c : ℕ) (l : List ℕ) → EndsLine l → EndsLine (c ∷ l)
ends_first c l h = record { before = c ∷ h.before; are = ap (λ (y : List ℕ). c ∷ y) h.are }

line_ends : (t : ModelTurn) → EndsLine (turn_line t)
unfolding turn_line
line_ends t =
    let before : List ℕ = codes " " ++ hex_text (bytes2 t.at) ++ codes " " ++ ins_text t.ins ++ codes " " ++ hex_text (bytes2 t.dt) ++ codes " " ++ bit_text t.c ++ bit_text t.z in
    ends_more (codes "> ") ((48 + t.depth) ∷ (before ++ codes "\n")) (ends_first (48 + t.depth) (before ++ codes "\n") (record { before = before; are = refl }))

without_end : (l : List ℕ) → take (length (l ++ codes "\n") - 1) (l ++ codes "\n") ≡ l
without_end l =
    let n : length (l ++ codes "\n") - 1 ≡ length l = let h : length (l ++ codes "\n") ≡ length l + 1 = length-append l (codes "\n") in omega (arith, h) in
    ap (λ (k : ℕ). take k (l ++ codes "\n")) n ∙ take-append_seam l (codes "\n")

whole_line : (l : List ℕ) → EndsLine l → l ≡ with_part l []
whole_line l h =
    let x : List ℕ = h.before ++ codes "\n" in
    h.are ∙ ap (λ (y : List ℕ). y ++ codes "\n") (sym (without_end h.before) ∙ sym (append-nil (take (length x - 1) x))) ∙ sym (ap (λ (y : List ℕ). with_part y []) h.are)

-- the parts in which a line with a source line is written
pub line_parts : (a b c d e : List ℕ) → (a ++ b) ++ c ++ (d ++ e) ≡ (a ++ ((b ++ c) ++ d)) ++ e
line_parts a b c d e =
    sym (append_assoc ((a ++ b) ++ c) d e) ∙ ap (λ (x : List ℕ). x ++ e) (ap (λ (x : List ℕ). x ++ d) (append_assoc a b c) ∙ append_assoc a (b ++ c) d)

-- the line of a turn that runs no section
pub plain_line : (t : ModelTurn) → turn_line t ≡ with_part (turn_line t) []
plain_line t = whole_line (turn_line t) (line_ends t)

-- ---- the turns of a tracer

-- the part of a line by the number and the text of its source line
part_is : (t : FullTurn) (o : Option CodeLine) (l : ℕ × List ℕ) → Some l ≡ option_map line_pair o → turn_part t o ≡ source_part_of l ++ state_part_of t.operand (stack_of t.frame)
part_is t None l e = absurd (cc e)
part_is t (Some k) l e = let same : line_pair k ≡ l = cc (sym e) in ap (λ (x : ℕ × List ℕ). source_part_of x ++ state_part_of t.operand (stack_of t.frame)) same

no_part : (t : FullTurn) (o : Option CodeLine) → None ≡ option_map line_pair o → turn_part t o ≡ []
no_part t None e = refl
no_part t (Some k) e = absurd (cc e)

-- a turn of a full turn, and the section that it runs
pub record IsTurnOf (turn : Turn) (ss : List Source) (o : Option ℕ) (t : FullTurn) : Type 0 where
  pub wrote : Option ℕ
  pub same : t.turn ≡ turn_value turn wrote
  pub section : section_at ss o ≡ section_of_turn ss t

-- the turn that a card shows is that of its full turn, with its section
pub is_turn : (n : ℕ) (ch : Chain) (turn : Turn) (ss : List Source) (o : Option ℕ) → (turn_of n ch).turn ≡ turn_value turn (turn_of n ch).turn.wrote → o ≡ index_of 0 ss ch.frame.name (running_code ch) → IsTurnOf turn ss o (full_turn_of n ch)
is_turn n ch turn ss o turned e = record { wrote = (turn_of n ch).turn.wrote; same = turn_is n ch ∙ turned; section = section_is n ch ss o e }

line_found : (turn : Turn) (ss : List Source) (o : Option ℕ) (t : FullTurn) (l : Option (ℕ × List ℕ)) (h : IsTurnOf turn ss o t) → l ≡ option_map line_pair (source_line (section_at ss o) turn.at) → l ≡ option_map line_pair (line_of_turn ss t)
line_found turn ss o t l h e =
    e ∙ ap (λ (s : Option Source). option_map line_pair (source_line s turn.at)) h.section ∙ ap (λ (u : ModelTurn). option_map line_pair (source_line (section_of_turn ss t) u.at)) (sym h.same)

one_line : (ss : List Source) (t : FullTurn) (l : List ℕ) → l ≡ trace_line ss t → l ≡ trace_lines ss (t ∷ [])
one_line ss t l e = e ∙ sym (append-nil (trace_line ss t))

module _ {T : Type 0} (sink : Ghosts T) where
  -- the line of a turn that runs no line of a section
  pub traced_plain : (q r : Tracer T) (turn : Turn) (o : Option ℕ) (t : FullTurn) (text : List ℕ) (h : IsTurnOf turn q.sections.now o t) → None ≡ option_map line_pair (source_line (section_at q.sections.now o) turn.at) → text ≡ turn_line (turn_value turn h.wrote) → Adds sink q text r
      → Traced sink q (t ∷ []) r
  traced_plain q r turn o t text h none is adds =
      let ss : List Source = q.sections.now in
      let part : turn_part t (line_of_turn ss t) ≡ [] = no_part t (line_of_turn ss t) (line_found turn ss o t None h none) in
      let line : text ≡ trace_line ss t =
      is ∙ ap turn_line (sym h.same) ∙ plain_line t.turn ∙ ap (λ (p : List ℕ). with_part (turn_line t.turn) p) (sym part)
      in
      subst (λ (l : List ℕ). Adds sink q l r) (one_line ss t text line) adds

  -- the line of a turn with its source line
  pub traced_turn : (q r : Tracer T) (turn : Turn) (o : Option ℕ) (t : FullTurn) (l : ℕ × List ℕ) (operand stack : List ℕ) (h : IsTurnOf turn q.sections.now o t) → Some l ≡ option_map line_pair (source_line (section_at q.sections.now o) turn.at)
      → operand ≡ t.operand → stack ≡ stack_of t.frame → Adds sink q (turn_text (turn_value turn h.wrote) l operand stack) r → Traced sink q (t ∷ []) r
  traced_turn q r turn o t l operand stack h some by_operand by_stack adds =
      let ss : List Source = q.sections.now in
      let part : turn_part t (line_of_turn ss t) ≡ source_part_of l ++ state_part_of t.operand (stack_of t.frame) = part_is t (line_of_turn ss t) l (line_found turn ss o t (Some l) h some) in
      let line : turn_text (turn_value turn h.wrote) l operand stack ≡ trace_line ss t =
      ap (λ (x : List ℕ). turn_text (turn_value turn h.wrote) l x stack) by_operand ∙ ap (λ (x : List ℕ). turn_text (turn_value turn h.wrote) l t.operand x) by_stack
      ∙ ap (λ (u : ModelTurn). with_part (turn_line u) (source_part_of l ++ state_part_of t.operand (stack_of t.frame))) (sym h.same)
      ∙ ap (λ (p : List ℕ). with_part (turn_line t.turn) p) (sym part)
      in
      subst (λ (x : List ℕ). Adds sink q x r) (one_line ss t (turn_text (turn_value turn h.wrote) l operand stack) line) adds

-- ---- the operand and the stack

-- if a turn has a source line, its section is that of the scene
has_section : (ss : List Source) (o : Option ℕ) (at : ℕ) (l : ℕ × List ℕ) → Some l ≡ option_map line_pair (source_line (section_at ss o) at) → (s : Source) × (section_at ss o ≡ Some s)
has_section ss o at l e = by_section (section_at ss o) refl e
  where
    by_section : (p : Option Source) → section_at ss o ≡ p → Some l ≡ option_map line_pair (source_line p at) → (s : Source) × (section_at ss o ≡ Some s)
    by_section None is e = absurd (cc e)
    by_section (Some s) is e = (s, is)

-- the scene of a turn with a source line, by the code of the running application
pub scene_of_turn : (n : ℕ) (ch : Chain) (ss : List Source) (o : Option ℕ) (at : ℕ) (l : ℕ × List ℕ) (s : Scene) (code : Option (List ℕ)) → o ≡ index_of 0 ss ch.frame.name (running_code ch) → Some l ≡ option_map line_pair (source_line (section_at ss o) at)
    → code ≡ option_map (λ s. s.code) (section_at ss o) → IsScene s ch.frame code → IsScene s ch.frame (Some (running_code ch))
scene_of_turn n ch ss o at l s code index some is scene =
    let there = has_section ss o at l some in
    let same : code ≡ Some (running_code ch) =
    is ∙ ap (option_map (λ (x : Source). x.code)) there.1 ∙ ap Some (scene_code n ch ss there.0 (sym (section_is n ch ss o index) ∙ there.1))
    in
    subst (λ (k : Option (List ℕ)). IsScene s ch.frame k) same scene

-- the operand of a full turn
pub operand_full : (n : ℕ) (ch : Chain) (operand : List ℕ) → NamesApart (ch.frame ∷ ch.below) → operand ≡ operand_after ch.frame (place_in ch.frame (span_in ch.frame (running_code ch))) (turn_of n ch).follows → operand ≡ (full_turn_of n ch).operand
operand_full n ch operand apart e = e ∙ sym (turn_shows n ch apart).operand

-- the stack of a full turn
pub stack_full : (n : ℕ) (ch : Chain) (turn : Turn) (stack : List ℕ) → NamesApart (ch.frame ∷ ch.below) → (turn_of n ch).turn ≡ turn_value turn (turn_of n ch).turn.wrote → stack ≡ stack_after ch.frame turn.dt (turn_of n ch).follows → stack ≡ stack_of (full_turn_of n ch).frame
stack_full n ch turn stack apart turned e =
    e ∙ ap (λ (u : ModelTurn). stack_after ch.frame u.dt (turn_of n ch).follows) (sym turned) ∙ sym (turn_shows n ch apart).stack
