-- Parts of a text without a line feed, and what a line of a draft becomes, have none either.
use Rattle.std.proofs.Common.{◌≡◌, ℕ, zero, suc, ◌-◌, Bool, true, false, cond, ◌&&◌, not, List, [], ◌∷◌, ◌++◌, length, take, drop, Option, Some, None, Result, Ok, Err, refl, subst}
use Rattle.std.specs.Prelude.{ℤ, pos, ◌+ℤ◌, nat_lt, nat_le, ◌==◌, bytes_eq, codes, decimal, filter, ok_or, slice_index, slice_index_or, unwrap_or, ⊤}
use Rattle.std.specs.Fmt.{signed_decimal}
use Rattle.std.specs.List.{AllByRecursion}
use Rattle.std.proofs.lemmas.Bool.{and_from, and_parts}
use Rattle.mc_text.specs.model_device.specs.Bytes.{has_name, lookup}
use Rattle.mc_text.specs.model_text.specs.Text.{◌>>=◌, ok_as, only_if, before_trimmed, decimal_number, every, fields, first_cut, halves_with_character, hex_bytes, is_blank, is_empty, pieces, pieces_with_character, trim, trim_end, trim_front}
use Rattle.mc_text.specs.model_text.specs.Listing.{address_text, hex_text, register_name, register_names}
use Rattle.mc_deck.specs.model_play.specs.declared.deck.DeckCause.{DeckCause}
use Rattle.mc_deck.specs.model_play.specs.declared.deck.DeckCause.TheVariants.{BadHex, OutOfRange, UnknownName}
use Rattle.mc_deck.specs.law_family.proofs.FlatTexts.{unfed, Flat, flat_append, flat_decimal, flat_hex}
use Rattle.desk_draft.specs.Parts.{part_in, part_of, with_core, before_rest, first_word, after_word, without_comment}
use Rattle.desk_draft.specs.Declarations.{NameMeaning, Bytes, Number}
use Rattle.desk_draft.specs.Operands.{after_text, body_text, bytes_text, instruction_text, jump_words, labelled_text, later_text, named_text, operand_by_parts, operand_text, operands_text, piece_text, pieces_text, plain_operand, shifted_text, size_text, sized_words}
use Rattle.desk_draft.specs.Statements.{Loadable, after_open, aid_or_name, aid_text, command_field, command_text, counted_hex, field_by, is_aid, load_text, naming_words, one_field_text, only_of, only_text, plain_hex, stated_text, statement_text, text_in_brackets}
use Rattle.desk_draft.specs.Rules.{after_two, brace_text, braces_of, braces_text, has_second, is_unknown, moved_text, opened_text, opened_texts, rule_text}
use Rattle.mc_deck.specs.law_family.proofs.FlatTexts.{flat_signed}

-- ---- parts of a text

flat_cons : (c : ℕ) (t : List ℕ) → Flat (c ∷ t) → (unfed c ≡ true) × Flat t
flat_cons c t h = and_parts (unfed c) (every unfed t) h

flat_more : (c : ℕ) (t : List ℕ) → unfed c ≡ true → Flat t → Flat (c ∷ t)
flat_more c t h k = and_from (unfed c) (every unfed t) h k

pub flat_take : (n : ℕ) (t : List ℕ) → Flat t → Flat (take n t)
flat_take zero t h = refl
flat_take (suc n) [] h = refl
flat_take (suc n) (c ∷ t) h = flat_more c (take n t) (flat_cons c t h).0 (flat_take n t (flat_cons c t h).1)

pub flat_drop : (n : ℕ) (t : List ℕ) → Flat t → Flat (drop n t)
flat_drop zero t h = h
flat_drop (suc n) [] h = refl
flat_drop (suc n) (c ∷ t) h = flat_drop n t (flat_cons c t h).1

front_by : (b : Bool) (c : ℕ) (t : List ℕ) → Flat (c ∷ t) → Flat (trim_front t) → Flat (cond b (trim_front t) (c ∷ t))
front_by true c t h k = k
front_by false c t h k = h

pub flat_front : (t : List ℕ) → Flat t → Flat (trim_front t)
flat_front [] h = refl
flat_front (c ∷ t) h = front_by (is_blank c) c t h (flat_front t (flat_cons c t h).1)

one_by : (b : Bool) (c : ℕ) → unfed c ≡ true → Flat (cond b [] (c ∷ []))
one_by true c h = refl
one_by false c h = flat_more c [] h refl

end_by : (c : ℕ) (t : List ℕ) → unfed c ≡ true → Flat t → Flat (before_trimmed c t)
end_by c [] h k = one_by (is_blank c) c h
end_by c (d ∷ t) h k = flat_more c (d ∷ t) h k

pub flat_end : (t : List ℕ) → Flat t → Flat (trim_end t)
flat_end [] h = refl
flat_end (c ∷ t) h = end_by c (trim_end t) (flat_cons c t h).0 (flat_end t (flat_cons c t h).1)

pub flat_trim : (t : List ℕ) → Flat t → Flat (trim t)
flat_trim t h = flat_end (trim_front t) (flat_front t h)

-- a text, if there is one
abbrev pub FlatMaybe : Option (List ℕ) → Type 0
FlatMaybe None = ⊤
FlatMaybe (Some t) = Flat t

cut_by : (f : ℕ → Bool) (b : Bool) (c : ℕ) (t : List ℕ) → Flat (c ∷ t) → Flat (first_cut f t).0 × FlatMaybe (first_cut f t).1 → Flat (halves_with_character b c t (first_cut f t)).0 × FlatMaybe (halves_with_character b c t (first_cut f t)).1
cut_by f true c t h k = (refl, (flat_cons c t h).1)
cut_by f false c t h k = (flat_more c (first_cut f t).0 (flat_cons c t h).0 k.0, k.1)

pub flat_cut : (f : ℕ → Bool) (t : List ℕ) → Flat t → Flat (first_cut f t).0 × FlatMaybe (first_cut f t).1
flat_cut f [] h = (refl, tt)
flat_cut f (c ∷ t) h = cut_by f (f c) c t h (flat_cut f t (flat_cons c t h).1)

-- all of some texts
abbrev pub AllFlat : List (List ℕ) → Type 0
AllFlat ts = AllByRecursion Flat ts

pieces_by : (b : Bool) (c : ℕ) (ps : List (List ℕ)) → unfed c ≡ true → AllFlat ps → AllFlat (pieces_with_character b c ps)
pieces_by true c ps h k = (refl, k)
pieces_by false c [] h k = (flat_more c [] h refl, tt)
pieces_by false c (p ∷ ps) h k = (flat_more c p h k.0, k.1)

pub flat_pieces : (f : ℕ → Bool) (t : List ℕ) → Flat t → AllFlat (pieces f t)
flat_pieces f [] h = (refl, tt)
flat_pieces f (c ∷ t) h = pieces_by (f c) c (pieces f t) (flat_cons c t h).0 (flat_pieces f t (flat_cons c t h).1)

filter_by : (b : Bool) (p : List ℕ) (ps : List (List ℕ)) → Flat p → AllFlat ps → AllFlat (cond b (p ∷ ps) ps)
filter_by true p ps h k = (h, k)
filter_by false p ps h k = k

flat_filter : (f : List ℕ → Bool) (ps : List (List ℕ)) → AllFlat ps → AllFlat (filter f ps)
flat_filter f [] h = tt
flat_filter f (p ∷ ps) h = filter_by (f p) p (filter f ps) h.0 (flat_filter f ps h.1)

pub flat_fields : (t : List ℕ) → Flat t → AllFlat (fields t)
flat_fields t h = flat_filter (λ p. not (is_empty p)) (pieces is_blank t) (flat_pieces is_blank t h)

pub flat_uncommented : (l : List ℕ) → Flat l → Flat (without_comment l)
flat_uncommented l h = (flat_cut (λ c. c == 59) l h).0

pub flat_after : (t : List ℕ) → Flat t → Flat (after_word t)
flat_after t h = flat_drop (length (first_word t)) (trim_front t) (flat_front t h)

flat_before : (t rest : List ℕ) → Flat t → Flat (before_rest t rest)
flat_before t rest h = flat_take (length t - length rest) t h

-- ---- results

-- a text that was made
abbrev pub FlatOk : Result (List ℕ) DeckCause → Type 0
FlatOk (Ok t) = Flat t
FlatOk (Err e) = ⊤

pub flat_ok : (r : Result (List ℕ) DeckCause) (t : List ℕ) → r ≡ Ok t → FlatOk r → Flat t
flat_ok r t e h = subst FlatOk e h

flat_ok_as : (f : List ℕ → List ℕ) (r : Result (List ℕ) DeckCause) → ((t : List ℕ) → Flat t → Flat (f t)) → FlatOk r → FlatOk (ok_as f r)
flat_ok_as f (Ok t) g h = g t h
flat_ok_as f (Err e) g h = tt

flat_bind : (r : Result (List ℕ) DeckCause) (f : List ℕ → Result (List ℕ) DeckCause) → FlatOk r → ((t : List ℕ) → Flat t → FlatOk (f t)) → FlatOk (r >>= f)
flat_bind (Ok t) f h g = g t h
flat_bind (Err e) f h g = tt

flat_only_if : (b : Bool) (c : DeckCause) (t : List ℕ) → Flat t → FlatOk (only_if b c t)
flat_only_if true c t h = h
flat_only_if false c t h = tt

flat_cond : (b : Bool) (r s : Result (List ℕ) DeckCause) → FlatOk r → FlatOk s → FlatOk (cond b r s)
flat_cond true r s h k = h
flat_cond false r s h k = k

flat_cond_text : (b : Bool) (s t : List ℕ) → Flat s → Flat t → Flat (cond b s t)
flat_cond_text true s t h k = h
flat_cond_text false s t h k = k

-- ---- operands

flat_index : (ts : List (List ℕ)) (i : ℕ) → AllFlat ts → Flat (slice_index_or ts i [])
flat_index [] i h = refl
flat_index (t ∷ ts) zero h = h.0
flat_index (t ∷ ts) (suc i) h = flat_index ts i h.1

flat_register : (tag : ℕ) → Flat (register_name tag)
flat_register tag = flat_index register_names (tag - 1) (refl, (refl, (refl, (refl, (refl, (refl, (refl, tt)))))))

flat_address : (tag : ℕ) (z : ℤ) → Flat (address_text tag z)
flat_address tag z =
    flat_append (register_name tag ++ codes "[" ++ signed_decimal z) (codes "]")
    (flat_append (register_name tag ++ codes "[") (signed_decimal z) (flat_append (register_name tag) (codes "[") (flat_register tag) refl) (flat_signed z)) refl

flat_bytes : (sized : Bool) (tag : ℕ) (z : ℤ) (n : ℕ) → Flat (bytes_text sized tag z n)
flat_bytes true tag z n = flat_append (address_text tag z ++ codes ",") (decimal n) (flat_append (address_text tag z) (codes ",") (flat_address tag z) refl) (flat_decimal n)
flat_bytes false tag z n = flat_address tag z

-- what a name stands for has no line feed
abbrev pub FlatMeaning : NameMeaning → Type 0
FlatMeaning (Bytes tag at size) = ⊤
FlatMeaning (Number t) = Flat t

-- the meaning of a name, if the section has it
abbrev pub FlatFound : Option NameMeaning → Type 0
FlatFound None = ⊤
FlatFound (Some m) = FlatMeaning m

-- all names of a section
abbrev pub FlatNames : List (List ℕ × NameMeaning) → Type 0
FlatNames ns = AllByRecursion (λ p. FlatMeaning p.1) ns

found_by : (b : Bool) (m : NameMeaning) (o : Option NameMeaning) → FlatMeaning m → FlatFound o → FlatFound (cond b (Some m) o)
found_by true m o h k = h
found_by false m o h k = k

flat_found : (ns : List (List ℕ × NameMeaning)) (n : List ℕ) → FlatNames ns → FlatFound (lookup ns n)
flat_found [] n h = tt
flat_found (p ∷ ns) n h = found_by (bytes_eq p.0 n) p.1 (lookup ns n) h.0 (flat_found ns n h.1)

flat_named : (sized : Bool) (t : List ℕ) (o : Option NameMeaning) → Flat t → FlatFound o → Flat (named_text sized t o)
flat_named sized t None h k = h
flat_named sized t (Some (Bytes tag at size)) h k = flat_bytes sized tag at size
flat_named sized t (Some (Number n)) h k = k

flat_size : (t : List ℕ) (o : Option NameMeaning) → Flat t → Flat (size_text t o)
flat_size t None h = h
flat_size t (Some (Bytes tag at size)) h = flat_decimal size
flat_size t (Some (Number n)) h = h

flat_shifted : (sized : Bool) (t : List ℕ) (o : Option NameMeaning) (k : Option ℕ) → Flat t → FlatOk (shifted_text sized t o k)
flat_shifted sized t None k h = h
flat_shifted sized t (Some (Bytes tag at size)) None h = h
flat_shifted sized t (Some (Bytes tag at size)) (Some k) h = flat_only_if (nat_lt k size) OutOfRange (bytes_text sized tag (at +ℤ pos k) (size - k)) (flat_bytes sized tag (at +ℤ pos k) (size - k))
flat_shifted sized t (Some (Number n)) k h = h

flat_plain : (ns : List (List ℕ × NameMeaning)) (sized : Bool) (t : List ℕ) (p : List ℕ × Option (List ℕ)) → FlatNames ns → Flat t → Flat (plain_operand ns sized t p)
flat_plain ns sized t (name, None) h k = flat_named sized t (lookup ns t) k (flat_found ns t h)
flat_plain ns sized t (name, Some part) h k = flat_cond_text (bytes_eq part (codes "size")) (size_text t (lookup ns name)) t (flat_size t (lookup ns name) k) k

flat_parts : (ns : List (List ℕ × NameMeaning)) (sized : Bool) (t : List ℕ) (p : List ℕ × Option (List ℕ)) → FlatNames ns → Flat t → FlatOk (operand_by_parts ns sized t p)
flat_parts ns sized t (name, None) h k = flat_plain ns sized t (first_cut (λ c. c == 46) t) h k
flat_parts ns sized t (name, Some n) h k = flat_shifted sized t (lookup ns name) (decimal_number n) k

flat_operand : (ns : List (List ℕ × NameMeaning)) (sized : Bool) (t : List ℕ) → FlatNames ns → Flat t → FlatOk (operand_text ns sized t)
flat_operand ns sized t h k = flat_parts ns sized t (first_cut (λ c. c == 43) t) h k

-- ---- instructions

flat_core : (t rest : List ℕ) → Flat t → Flat rest → (u : List ℕ) → Flat u → Flat (with_core (part_in t rest) u)
flat_core t rest h k u e =
    flat_append ((part_in t rest).before ++ u) (part_in t rest).after (flat_append (part_in t rest).before u (flat_before t (trim_front rest) h) e)
    (flat_drop (length (trim rest)) (trim_front rest) (flat_front rest k))

flat_piece : (ns : List (List ℕ × NameMeaning)) (sized : Bool) (p : List ℕ) → FlatNames ns → Flat p → FlatOk (piece_text ns sized p)
flat_piece ns sized p h k = flat_ok_as (with_core (part_of p)) (operand_text ns sized (trim p)) (flat_core p p k k) (flat_operand ns sized (trim p) h (flat_trim p k))

flat_later : (ns : List (List ℕ × NameMeaning)) (sized : Bool) (ps : List (List ℕ)) → FlatNames ns → AllFlat ps → FlatOk (later_text ns sized ps)
flat_later ns sized [] h k = refl
flat_later ns sized (p ∷ ps) h k =
    flat_bind (piece_text ns sized p) (λ t. ok_as (λ rest. 44 ∷ (t ++ rest)) (later_text ns sized ps)) (flat_piece ns sized p h k.0)
    (λ t e. flat_ok_as (λ rest. 44 ∷ (t ++ rest)) (later_text ns sized ps) (λ rest f. flat_more 44 (t ++ rest) refl (flat_append t rest e f)) (flat_later ns sized ps h k.1))

flat_pieces_text : (ns : List (List ℕ × NameMeaning)) (sized : Bool) (ps : List (List ℕ)) → FlatNames ns → AllFlat ps → FlatOk (pieces_text ns sized ps)
flat_pieces_text ns sized [] h k = refl
flat_pieces_text ns sized (p ∷ ps) h k =
    flat_bind (piece_text ns sized p) (λ t. ok_as (λ rest. t ++ rest) (later_text ns sized ps)) (flat_piece ns sized p h k.0)
    (λ t e. flat_ok_as (λ rest. t ++ rest) (later_text ns sized ps) (λ rest f. flat_append t rest e f) (flat_later ns sized ps h k.1))

flat_after_text : (ns : List (List ℕ × NameMeaning)) (word after : List ℕ) → FlatNames ns → Flat after → FlatOk (after_text ns word after)
flat_after_text ns word after h k =
    let ps = pieces (λ c. c == 44) after in
    flat_cond (has_name word jump_words) (Ok after) (operands_text ns word ps) k (flat_pieces_text ns (has_name word sized_words && (length ps == 1)) ps h (flat_pieces (λ c. c == 44) after k))

flat_body : (ns : List (List ℕ × NameMeaning)) (body : List ℕ) → FlatNames ns → Flat body → FlatOk (body_text ns body)
flat_body ns body h k =
    let after = after_word body in
    flat_ok_as (λ t. before_rest body after ++ t) (after_text ns (first_word body) after) (λ t e. flat_append (before_rest body after) t (flat_before body after k) e) (flat_after_text ns (first_word body) after h (flat_after body k))

flat_labelled : (ns : List (List ℕ × NameMeaning)) (p : List ℕ × Option (List ℕ)) → FlatNames ns → Flat p.0 → FlatMaybe p.1 → FlatOk (labelled_text ns p)
flat_labelled ns (body, None) h k e = flat_body ns body h k
flat_labelled ns (label, Some body) h k e =
    flat_ok_as (λ t. label ++ 58 ∷ t) (body_text ns body) (λ t f. flat_append label (58 ∷ t) k (flat_more 58 t refl f)) (flat_body ns body h e)

-- an instruction
pub flat_instruction : (ns : List (List ℕ × NameMeaning)) (l : List ℕ) → FlatNames ns → Flat l → FlatOk (instruction_text ns l)
unfolding instruction_text
flat_instruction ns l h k =
    let code = without_comment l in
    let cut = flat_cut (λ c. c == 58) code (flat_uncommented l k) in
    flat_ok_as (λ t. t ++ drop (length code) l) (labelled_text ns (first_cut (λ c. c == 58) code)) (λ t e. flat_append t (drop (length code) l) e (flat_drop (length code) l k))
    (flat_labelled ns (first_cut (λ c. c == 58) code) h cut.0 cut.1)

-- ---- statements

-- the AIDs of sections
abbrev pub FlatAids : List (List ℕ × Loadable) → Type 0
FlatAids ss = AllByRecursion (λ p. Flat (p.1).aid) ss

-- the AID of a section, if one has the name
abbrev FlatAid : Option Loadable → Type 0
FlatAid None = ⊤
FlatAid (Some s) = Flat s.aid

aid_by : (b : Bool) (s : Loadable) (o : Option Loadable) → Flat s.aid → FlatAid o → FlatAid (cond b (Some s) o)
aid_by true s o h k = h
aid_by false s o h k = k

flat_aid : (ss : List (List ℕ × Loadable)) (n : List ℕ) → FlatAids ss → FlatAid (lookup ss n)
flat_aid [] n h = tt
flat_aid (p ∷ ss) n h = aid_by (bytes_eq p.0 n) p.1 (lookup ss n) h.0 (flat_aid ss n h.1)

flat_open : (t : List ℕ) → Flat t → FlatMaybe (after_open t)
flat_open [] h = tt
flat_open (c ∷ t) h = open_by (c == 40) t (flat_cons c t h).1
  where
    open_by : (b : Bool) (t : List ℕ) → Flat t → FlatMaybe (cond b (Some t) None)
    open_by true t h = h
    open_by false t h = tt

flat_brackets : (t : List ℕ) → Flat t → FlatMaybe (text_in_brackets t)
flat_brackets t h = in_by (slice_index t (length t - 1) == 41) (after_open (take (length t - 1) t)) (flat_open (take (length t - 1) t) (flat_take (length t - 1) t h))
  where
    in_by : (b : Bool) (o : Option (List ℕ)) → FlatMaybe o → FlatMaybe (cond b o None)
    in_by true o h = h
    in_by false o h = tt

flat_plain_hex : (t : List ℕ) (o : Option (List ℕ)) → Flat t → FlatOk (plain_hex t o)
flat_plain_hex t None h = tt
flat_plain_hex t (Some bs) h = h

flat_counted : (t : List ℕ) (o : Option (List ℕ)) → Flat t → FlatOk (counted_hex t o)
flat_counted t None h = tt
flat_counted t (Some []) h = tt
flat_counted t (Some (b ∷ bs)) h =
    let n = length (b ∷ bs) in
    flat_only_if (nat_le n 255) OutOfRange (hex_text (n ∷ []) ++ t) (flat_append (hex_text (n ∷ [])) t (flat_hex (n ∷ [])) h)

flat_field : (t : List ℕ) (o : Option (List ℕ)) → Flat t → FlatMaybe o → FlatOk (field_by t o)
flat_field t None h k = flat_plain_hex t (hex_bytes t) h
flat_field t (Some inner) h k = flat_counted inner (hex_bytes inner) k

flat_command : (ts : List (List ℕ)) → AllFlat ts → FlatOk (command_text ts)
flat_command [] h = refl
flat_command (t ∷ ts) h =
    flat_bind (command_field t) (λ first. ok_as (λ rest. first ++ rest) (command_text ts)) (flat_field t (text_in_brackets t) h.0 (flat_brackets t h.0))
    (λ first e. flat_ok_as (λ rest. first ++ rest) (command_text ts) (λ rest f. flat_append first rest e f) (flat_command ts h.1))

flat_load : (t : List ℕ) (o : Option Loadable) → Flat t → FlatOk (ok_as (load_text t) (ok_or o UnknownName))
flat_load t None h = tt
flat_load t (Some s) h =
    flat_append (t ++ codes " " ++ decimal s.fixed ++ codes " ") (decimal s.session)
    (flat_append (t ++ codes " " ++ decimal s.fixed) (codes " ")
    (flat_append (t ++ codes " ") (decimal s.fixed) (flat_append t (codes " ") h refl) (flat_decimal s.fixed)) refl) (flat_decimal s.session)

flat_aid_text : (t : List ℕ) (o : Option Loadable) → Flat t → FlatAid o → Flat (aid_text t o)
flat_aid_text t None h k = h
flat_aid_text t (Some s) h k = k

flat_one : (ss : List (List ℕ × Loadable)) (word t : List ℕ) → FlatAids ss → Flat t → FlatOk (one_field_text ss word t)
flat_one ss word t h k =
    flat_cond (bytes_eq word (codes "load")) (ok_as (load_text t) (ok_or (lookup ss t) UnknownName)) (cond (has_name word naming_words) (Ok (aid_or_name ss t)) (Ok t)) (flat_load t (lookup ss t) k)
    (flat_cond (has_name word naming_words) (Ok (aid_or_name ss t)) (Ok t) (flat_cond_text (is_aid t) t (aid_text t (lookup ss t)) k (flat_aid_text t (lookup ss t) k (flat_aid ss t h))) k)

flat_only : (ss : List (List ℕ × Loadable)) (word rest : List ℕ) (ts : List (List ℕ)) → FlatAids ss → Flat rest → AllFlat ts → FlatOk (only_text ss word rest (only_of ts))
flat_only ss word rest [] h k e = k
flat_only ss word rest (t ∷ []) h k e = flat_one ss word t h e.0
flat_only ss word rest (t ∷ u ∷ ts) h k e = k

flat_stated : (ss : List (List ℕ × Loadable)) (ts : List (List ℕ)) (rest : List ℕ) → FlatAids ss → AllFlat ts → Flat rest → FlatOk (stated_text ss ts rest)
flat_stated ss [] rest h e k = k
flat_stated ss (word ∷ ts) rest h e k =
    flat_cond (bytes_eq word (codes "apdu")) (command_text (fields rest)) (only_text ss word rest (only_of ts)) (flat_command (fields rest) (flat_fields rest k)) (flat_only ss word rest ts h k e.1)

-- a statement
pub flat_statement : (ss : List (List ℕ × Loadable)) (l : List ℕ) → FlatAids ss → Flat l → FlatOk (statement_text ss l)
unfolding statement_text
flat_statement ss l h k =
    let after = after_word l in
    flat_ok_as (with_core (part_in l after)) (stated_text ss (fields l) (trim after)) (flat_core l after k (flat_after l k))
    (flat_stated ss (fields l) (trim after) h (flat_fields l k) (flat_trim after (flat_after l k)))

-- ---- rules

flat_made : (b : Bool) (t : List ℕ) → Flat t → FlatOk (only_if b UnknownName t)
flat_made true t h = h
flat_made false t h = tt

flat_brace : (ns : List (List ℕ × NameMeaning)) (t : List ℕ) → FlatNames ns → Flat t → FlatOk (brace_text ns t)
flat_brace ns t h k = flat_bind (operand_text ns false t) (λ made. only_if (not (bytes_eq made t)) UnknownName made) (flat_operand ns false t h k) (λ made e. flat_made (not (bytes_eq made t)) made e)

flat_opened : (ns : List (List ℕ × NameMeaning)) (p : List ℕ × Option (List ℕ)) → FlatNames ns → Flat p.0 → FlatMaybe p.1 → FlatOk (opened_text ns p)
flat_opened ns (t, None) h k e = tt
flat_opened ns (t, Some rest) h k e = flat_ok_as (λ made. made ++ rest) (brace_text ns t) (λ made f. flat_append made rest f e) (flat_brace ns t h k)

flat_opened_all : (ns : List (List ℕ × NameMeaning)) (ps : List (List ℕ)) → FlatNames ns → AllFlat ps → FlatOk (opened_texts ns ps)
flat_opened_all ns [] h k = refl
flat_opened_all ns (p ∷ ps) h k =
    let cut = flat_cut (λ c. c == 125) p k.0 in
    flat_bind (opened_text ns (first_cut (λ c. c == 125) p)) (λ t. ok_as (λ rest. t ++ rest) (opened_texts ns ps)) (flat_opened ns (first_cut (λ c. c == 125) p) h cut.0 cut.1)
    (λ t e. flat_ok_as (λ rest. t ++ rest) (opened_texts ns ps) (λ rest f. flat_append t rest e f) (flat_opened_all ns ps h k.1))

flat_braces_of : (ns : List (List ℕ × NameMeaning)) (ps : List (List ℕ)) → FlatNames ns → AllFlat ps → FlatOk (braces_of ns ps)
flat_braces_of ns [] h k = refl
flat_braces_of ns (p ∷ ps) h k = flat_ok_as (λ rest. p ++ rest) (opened_texts ns ps) (λ rest f. flat_append p rest k.0 f) (flat_opened_all ns ps h k.1)

flat_two : (l : List ℕ) → Flat l → Flat (after_two l)
flat_two l h = flat_after (after_word l) (flat_after l h)

flat_moved : (ss : List (List ℕ × Loadable)) (s : List ℕ) → FlatAids ss → Flat s → FlatOk (moved_text ss s)
flat_moved ss s h k = flat_cond (is_unknown ss (fields s)) (Err BadHex) (statement_text ss s) tt (flat_statement ss s h k)

-- a rule
pub flat_rule : (ss : List (List ℕ × Loadable)) (ns : List (List ℕ × NameMeaning)) (l : List ℕ) → FlatAids ss → FlatNames ns → Flat l → FlatOk (rule_text ss ns l)
flat_rule ss ns l h k e =
    let s = after_two l in
    flat_cond (has_second l (codes "move")) (ok_as (λ t. before_rest l s ++ t) (moved_text ss s)) (braces_text ns l)
    (flat_ok_as (λ t. before_rest l s ++ t) (moved_text ss s) (λ t f. flat_append (before_rest l s) t (flat_before l s e) f) (flat_moved ss s h (flat_two l e)))
    (flat_braces_of ns (pieces (λ c. c == 123) l) k (flat_pieces (λ c. c == 123) l e))

-- what sections declare
abbrev pub FlatScopes : List (List ℕ × List (List ℕ × NameMeaning)) → Type 0
FlatScopes rs = AllByRecursion (λ p. FlatNames p.1) rs

scope_by : (b : Bool) (ns : List (List ℕ × NameMeaning)) (o : Option (List (List ℕ × NameMeaning))) (d : List (List ℕ × NameMeaning)) → FlatNames ns → FlatNames (unwrap_or o d) → FlatNames (unwrap_or (cond b (Some ns) o) d)
scope_by true ns o d h k = h
scope_by false ns o d h k = k

-- what a section declares, or other names if it is not there
pub flat_scope_of : (rs : List (List ℕ × List (List ℕ × NameMeaning))) (n : List ℕ) (d : List (List ℕ × NameMeaning)) → FlatScopes rs → FlatNames d → FlatNames (unwrap_or (lookup rs n) d)
flat_scope_of [] n d h k = k
flat_scope_of (p ∷ rs) n d h k = scope_by (bytes_eq p.0 n) p.1 (lookup rs n) d h.0 (flat_scope_of rs n d h.1 k)

-- a rule or a statement
pub flat_spoken : (b : Bool) (ss : List (List ℕ × Loadable)) (ns : List (List ℕ × NameMeaning)) (l : List ℕ) → FlatAids ss → FlatNames ns → Flat l → FlatOk (cond b (rule_text ss ns l) (statement_text ss l))
flat_spoken b ss ns l h k e = flat_cond b (rule_text ss ns l) (statement_text ss l) (flat_rule ss ns l h k e) (flat_statement ss l h e)
