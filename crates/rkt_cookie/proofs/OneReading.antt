-- A text is read as one cookie, and its first piece as the same name and value.
use Rattle.std.proofs.Common.{◌≡◌, ℕ, ◌+◌, List, [], length, take, sym, ap, ◌∙◌, subst, arith, length-take-le, get_or-take, not}
use Rattle.std.proofs.lemmas.List.{take_all, drop_all}
use Rattle.std.proofs.lemmas.List.Sums.{fails_before_first, position_or_len_is, prefix_len-le-length}
use Rattle.std.specs.List.{cons_option, filter_map, position_or_len, slice_split}
use Rattle.std.specs.Prelude.{unwrap_or}
use Rattle.rkt_cookie.specs.Cookie.{Parts, bare}
use Rattle.rkt_cookie.specs.Reading.{IsPair, Reads, attribute_of, first_piece, is_semicolon, later_pieces, with_last_said}
use Rattle.rkt_cookie.proofs.ReadBackLemmas.{nothing_read}

-- a text is read as one cookie alone
pub reads_one : (text : List ℕ) (a b : Parts) → Reads text a → Reads text b → a ≡ b
reads_one text a b ha hb =
    let name : ha.name ≡ hb.name = ha.pair.name_read ∙ sym hb.pair.name_read in
    let value : ha.value ≡ hb.value = ap (λ o. unwrap_or o []) (sym ha.pair.value_read ∙ hb.pair.value_read) in
    ha.attributes
    ∙ ap (λ n. with_last_said n ha.value (filter_map attribute_of (later_pieces text))) name
    ∙ ap (λ v. with_last_said hb.name v (filter_map attribute_of (later_pieces text))) value
    ∙ sym hb.attributes

-- ---- the first piece alone

first_ends : (text : List ℕ) → position_or_len is_semicolon (first_piece text) ≡ length (first_piece text)
first_ends text =
    let n = position_or_len is_semicolon text in
    let short : length (take n text) ≡ n = length-take-le n text (prefix_len-le-length (λ b. not (is_semicolon b)) text) in
    position_or_len_is is_semicolon (take n text) (length (take n text)) 0 (omega arith)
    (λ k within. ap is_semicolon (get_or-take n text k 0 (omega arith)) ∙ fails_before_first is_semicolon text k 0 (omega arith))
    (λ past. absurd (omega arith))

first_again : (text : List ℕ) → first_piece (first_piece text) ≡ first_piece text
first_again text = take_all (position_or_len is_semicolon (first_piece text)) (first_piece text) (omega (arith, first_ends text))

none_later : (text : List ℕ) → filter_map attribute_of (later_pieces (first_piece text)) ≡ []
none_later text =
    let none = drop_all (position_or_len is_semicolon (first_piece text) + 1) (first_piece text) (omega (arith, first_ends text)) in
    ap (λ l. filter_map attribute_of (slice_split is_semicolon l)) none ∙ ap (λ said. cons_option said []) nothing_read

-- the first piece of a text is read as the same cookie without attributes
pub read_alone : (text : List ℕ) (cookie : Parts) → Reads text cookie → Reads (first_piece text) (bare cookie.name cookie.value)
read_alone text cookie h =
    let name : cookie.name ≡ h.name = ap (λ c. c.name) h.attributes in
    let value : cookie.value ≡ h.value = ap (λ c. c.value) h.attributes in
    record {
      name = h.name;
      value = h.value;
      pair = subst (λ p. IsPair p h.name h.value) (sym (first_again text)) h.pair;
      attributes = ap (λ n. bare n cookie.value) name ∙ ap (bare h.name) value ∙ ap (with_last_said h.name h.value) (sym (none_later text));
    }
