-- How the entries of a list of accepted media types are read, one after another.
use Rattle.std.proofs.Common.{◌≡◌, ℕ, ◌+◌, ◌-◌, ◌*◌, ◌/◌, ◌<◌, ◌≤◌, List, [], ◌∷◌, ◌++◌, Bool, true, false, ◌==◌, ◌||◌, if◌then◌else◌, Option, Some, None, not, map, filter, length, drop, get_or, unwrap_or, sym, ◌∙◌, ap, subst, inl, inr, refl, arith, append_assoc, append-nil, length-append, add_assoc}
use Rattle.std.specs.Char.{is_ascii_digit}
use Rattle.std.specs.Option.{option_or}
use Rattle.rkt_grammar.specs.ByteLaws.{differ}
use Rattle.rkt_media.specs.Runs.{behind_run}
use Rattle.rkt_media.specs.Media.{Media, Parameter}
use Rattle.rkt_grammar.specs.Grammar.{is_token_byte}
use Rattle.rkt_media.specs.MediaText.{is_blank, ValueThen, ParametersThen, MediaThen, Exactly, NoSemicolon, IsSpelled}
use Rattle.rkt_media.specs.MediaRestLaws.{along, head_same}
use Rattle.rkt_media.specs.Accept.{Weighed, is_weight, weight_said, weight_in, weighed, thousandths}
use Rattle.rkt_media.specs.AcceptText.{is_gap, CommaThen, ListsMedia}
use Rattle.rkt_media.specs.AcceptRestLaws.{lists_along}
use Rattle.rkt_media.proofs.MediaParts.{media_parts, media_same, some_parts}
use Rattle.rkt_media.proofs.MediaReads.{semicolon_more}
use Rattle.rkt_media.proofs.RunLemmas.{length-behind_run, drop_at}

-- blanks before a gap are of the gap
pub gap_behind_blanks : (text : List ℕ) → behind_run is_gap (behind_run is_blank text) ≡ behind_run is_gap text
gap_behind_blanks [] = refl
gap_behind_blanks (b ∷ bs) = by_test (is_blank b) refl (gap_behind_blanks bs)
  where
    by_test : (t : Bool) → is_blank b ≡ t → behind_run is_gap (behind_run is_blank bs) ≡ behind_run is_gap bs
        → behind_run is_gap (if t then behind_run is_blank bs else b ∷ bs) ≡ behind_run is_gap (b ∷ bs)
    by_test true is more = more ∙ sym (ap (λ (t : Bool). if t || (b == 44) then behind_run is_gap bs else b ∷ bs) is)
    by_test false is more = refl

-- behind a gap there is none
pub gap_again : (text : List ℕ) → behind_run is_gap (behind_run is_gap text) ≡ behind_run is_gap text
gap_again [] = refl
gap_again (b ∷ bs) = by_test (is_gap b) refl (gap_again bs)
  where
    by_test : (t : Bool) → is_gap b ≡ t → behind_run is_gap (behind_run is_gap bs) ≡ behind_run is_gap bs
        → behind_run is_gap (if t then behind_run is_gap bs else b ∷ bs) ≡ (if t then behind_run is_gap bs else b ∷ bs)
    by_test true is more = more
    by_test false is more = ap (λ (t : Bool). if t then behind_run is_gap bs else b ∷ bs) is

-- the digits of a weight, one more of which is read
pub weight_goes_on : (bytes : List ℕ) (i unit sum whole : ℕ) → i < length bytes → is_ascii_digit (get_or bytes i 0) ≡ true
    → sum + thousandths unit (filter is_ascii_digit (drop i bytes)) ≡ whole
    → (sum + unit * (get_or bytes i 0 - 48)) + thousandths (unit / 10) (filter is_ascii_digit (drop (i + 1) bytes)) ≡ whole
weight_goes_on bytes i unit sum whole within digit e =
    let b = get_or bytes i 0 in
    let ds = filter is_ascii_digit (drop (i + 1) bytes) in
    let here : filter is_ascii_digit (drop i bytes) ≡ b ∷ ds = ap (filter is_ascii_digit) (drop_at bytes i within) ∙ ap (λ (t : Bool). if t then b ∷ ds else ds) digit in
    add_assoc sum (unit * (b - 48)) (thousandths (unit / 10) ds) ∙ ap (λ (xs : List ℕ). sum + thousandths unit xs) (sym here) ∙ e

pub weight_skips : (bytes : List ℕ) (i unit sum whole : ℕ) → i < length bytes → is_ascii_digit (get_or bytes i 0) ≡ false
    → sum + thousandths unit (filter is_ascii_digit (drop i bytes)) ≡ whole → sum + thousandths unit (filter is_ascii_digit (drop (i + 1) bytes)) ≡ whole
weight_skips bytes i unit sum whole within digit e =
    let b = get_or bytes i 0 in
    let ds = filter is_ascii_digit (drop (i + 1) bytes) in
    let here : filter is_ascii_digit (drop i bytes) ≡ ds = ap (filter is_ascii_digit) (drop_at bytes i within) ∙ ap (λ (t : Bool). if t then b ∷ ds else ds) digit in
    ap (λ (xs : List ℕ). sum + thousandths unit xs) (sym here) ∙ e

-- one more parameter is kept, unless it is a weight
pub one_kept : (ps qs x items items' : List Parameter) (p : Parameter) → filter (λ p. not (is_weight p)) ps ≡ items ++ filter (λ p. not (is_weight p)) qs → qs ≡ p ∷ x
    → items' ≡ items ++ filter (λ p. not (is_weight p)) (p ∷ []) → filter (λ p. not (is_weight p)) ps ≡ items' ++ filter (λ p. not (is_weight p)) x
one_kept ps qs x items items' p e is kept =
    e ∙ ap (λ (qs : List Parameter). items ++ filter (λ p. not (is_weight p)) qs) is
    ∙ ap (λ (xs : List Parameter). items ++ xs) (by_test (not (is_weight p)))
    ∙ sym (append_assoc items (filter (λ p. not (is_weight p)) (p ∷ [])) (filter (λ p. not (is_weight p)) x))
    ∙ ap (λ (xs : List Parameter). xs ++ filter (λ p. not (is_weight p)) x) (sym kept)
  where
    by_test : (t : Bool) → (if t then p ∷ filter (λ p. not (is_weight p)) x else filter (λ p. not (is_weight p)) x) ≡ (if t then p ∷ [] else []) ++ filter (λ p. not (is_weight p)) x
    by_test true = refl
    by_test false = refl

pub all_weighed : (ps qs items : List Parameter) → filter (λ p. not (is_weight p)) ps ≡ items ++ filter (λ p. not (is_weight p)) qs → qs ≡ [] → items ≡ filter (λ p. not (is_weight p)) ps
all_weighed ps qs items e none = sym (e ∙ ap (λ (qs : List Parameter). items ++ filter (λ p. not (is_weight p)) qs) none ∙ append-nil items)

-- the first weight stays the first
pub first_weight : (whole : ℕ) (weight said weight' : Option ℕ) (qs x : List Parameter) (p : Parameter) → whole ≡ unwrap_or weight (weight_in qs) → qs ≡ p ∷ x → said ≡ weight_said p
    → weight' ≡ option_or weight said → whole ≡ unwrap_or weight' (weight_in x)
first_weight whole weight said weight' qs x p e is says or =
    e ∙ ap (λ (qs : List Parameter). unwrap_or weight (weight_in qs)) is
    ∙ ap (λ (s : Option ℕ). unwrap_or weight (unwrap_or s (weight_in x))) (sym says)
    ∙ by_case weight said
    ∙ ap (λ (w : Option ℕ). unwrap_or w (weight_in x)) (sym or)
  where
    by_case : (w s : Option ℕ) → unwrap_or w (unwrap_or s (weight_in x)) ≡ unwrap_or (option_or w s) (weight_in x)
    by_case (Some n) s = refl
    by_case None s = refl

-- an entry by its parts
pub entry_same : (media : Media) (weight : ℕ) (m : Media) → media ≡ (weighed m).media → weight ≡ weight_in m.parameters → record { media = media; weight = weight } ≡ weighed m
entry_same media weight m is_media is_weight =
    ap (λ (n : Media). let w : Weighed = record { media = n; weight = weight } in w) is_media ∙ ap (λ (k : ℕ). let w : Weighed = record { media = (weighed m).media; weight = k } in w) is_weight

-- a value, and just what follows it, which is no longer
value_no_longer : (text value more : List ℕ) → ValueThen text value (Exactly more) → length more ≤ length text
value_no_longer text value more (inl token) = let same : length (behind_run is_token_byte text) ≡ length more = ap length token.rest in omega (arith, length-behind_run is_token_byte text)
value_no_longer text value more (inr quoted) =
    let same : length quoted.more ≡ length more = ap length quoted.rest in
    let all : length text ≡ length (value ++ quoted.more) = ap length quoted.is in
    omega (arith, length-append value quoted.more)

parameters_no_longer : (ps : List Parameter) (text more : List ℕ) → ParametersThen ps (Exactly more) text → length more ≤ length text
parameters_no_longer [] text more h = let same : length text ≡ length more = ap length h in omega arith
parameters_no_longer (p ∷ ps) text more h =
    let m = semicolon_more text p (ParametersThen ps (Exactly more)) h in
    let last = parameters_no_longer ps m.0 more m.2 in
    let value = value_no_longer m.1.rest.rest.behind p.1 m.0 m.1.rest.rest.rest in
    let semicolon : length (behind_run is_blank text) ≡ length (59 ∷ m.1.behind) = ap length m.1.is in
    let equals : length (behind_run is_token_byte (behind_run is_blank m.1.behind)) ≡ length (61 ∷ m.1.rest.rest.behind) = ap length m.1.rest.rest.is in
    omega (arith, length-behind_run is_blank text, length-behind_run is_token_byte (behind_run is_blank m.1.behind), length-behind_run is_blank m.1.behind)

-- what follows a media type is shorter
pub media_shorter : (text : List ℕ) (m : Media) (more : List ℕ) → MediaThen text m (Exactly more) → length more < length text
media_shorter text m more h =
    let last = parameters_no_longer m.parameters (behind_run is_token_byte h.rest.behind) more h.rest.rest.rest in
    let slash : length (behind_run is_token_byte text) ≡ length (47 ∷ h.rest.behind) = ap length h.rest.is in
    omega (arith, length-behind_run is_token_byte text, length-behind_run is_token_byte h.rest.behind)

-- parameters, and just what follows them
parameters_more : (ps : List Parameter) (text : List ℕ) (R : List ℕ → Type 0) → ParametersThen ps R text → (more : List ℕ) × ParametersThen ps (Exactly more) text × R more
parameters_more [] text R h = (text, refl, h)
parameters_more (p ∷ ps) text R h =
    let m = semicolon_more text p (ParametersThen ps R) h in
    let left = parameters_more ps m.0 R m.2 in (
      left.0,
      record {
        behind = m.1.behind;
        is = m.1.is;
        rest = record {
          starts = m.1.rest.starts;
          is = m.1.rest.is;
          rest = record { behind = m.1.rest.rest.behind; is = m.1.rest.rest.is; rest = value_on m.1.rest.rest.behind p.1 m.0 (ParametersThen ps (Exactly left.0)) m.1.rest.rest.rest left.1 };
        };
      },
      left.2,
    )
  where
    value_on : (text value more : List ℕ) (R : List ℕ → Type 0) → ValueThen text value (Exactly more) → R more → ValueThen text value R
    value_on text value more R (inl token) r = inl record { starts = token.starts; is = token.is; rest = along R _ _ (sym token.rest) r }
    value_on text value more R (inr quoted) r =
        inr record { inside = quoted.inside; opened = quoted.opened; more = quoted.more; closed = quoted.closed; is = quoted.is; rest = along R _ _ (sym quoted.rest) r }

-- a media type, and just what follows it
pub media_more : (text : List ℕ) (m : Media) (R : List ℕ → Type 0) → MediaThen text m R → (more : List ℕ) × MediaThen text m (Exactly more) × R more
media_more text m R h = let left = parameters_more m.parameters (behind_run is_token_byte h.rest.behind) R h.rest.rest.rest in (
  left.0,
  record {
    starts = h.starts;
    is = h.is;
    rest = record { behind = h.rest.behind; is = h.rest.is; rest = record { starts = h.rest.rest.starts; is = h.rest.rest.is; rest = left.1 } };
  },
  left.2,
)

not_empty : (b : ℕ) (bs : List ℕ) → ¬ (b ∷ bs ≡ [])
not_empty b bs e = cc e

-- where the end or a comma comes, no parameter does
pub comma_stops : (ms : List Media) (more : List ℕ) → CommaThen (behind_run is_blank more) (ListsMedia ms) → NoSemicolon more
comma_stops ms more h = λ rest e. elim h [
  | inl end ↦ not_empty 59 rest (sym e ∙ end.0)
  | inr comma ↦ differ 59 44 refl (head_same 59 44 rest comma.behind (sym e ∙ comma.is))
]

-- behind an entry the list goes on where the gap ends
pub list_goes_on : (ms : List Media) (more : List ℕ) → CommaThen (behind_run is_blank more) (ListsMedia ms) → ListsMedia ms (behind_run is_gap more)
list_goes_on ms more (inl end) = lists_along ms (behind_run is_blank more) (behind_run is_gap more) (gap_behind_blanks more ∙ sym (gap_again more)) end.1
list_goes_on ms more (inr comma) =
    lists_along ms comma.behind (behind_run is_gap more) (sym (ap (behind_run is_gap) comma.is) ∙ gap_behind_blanks more ∙ sym (gap_again more)) comma.rest

-- the parts of an entry without its weights
pub weighed_parts : (text : List ℕ) (m : Media) (more top sub : List ℕ) (ps : List Parameter) → MediaThen text m (Exactly more) → top ≡ m.top → sub ≡ m.sub
    → ps ≡ filter (λ p. not (is_weight p)) m.parameters → IsSpelled (record { top = top; sub = sub; parameters = ps })
weighed_parts text m more top sub ps h is_top is_sub is_ps =
    let parts = media_parts text m (Exactly more) h in
    let kept : IsSpelled (record { top = m.top; sub = m.sub; parameters = filter (λ p. not (is_weight p)) m.parameters }) =
    record { top = parts.top; sub = parts.sub; parameters = some_parts (λ p. not (is_weight p)) m.parameters parts.parameters } in
    subst IsSpelled (sym (media_same top sub ps (weighed m).media is_top is_sub is_ps)) kept

-- the first entry of a list that does not begin with a gap
pub record First (types : List Media) (text : List ℕ) : Type 0 where
  pub media : Media
  pub left : List Media
  pub is : types ≡ media ∷ left
  pub more : List ℕ
  pub spelled : MediaThen text media (Exactly more)
  pub stops : NoSemicolon more
  pub goes_on : ListsMedia left (behind_run is_gap more)

pub first_of : (types : List Media) (text : List ℕ) → behind_run is_gap text ≡ text → ¬ (length text ≡ 0) → ListsMedia types text → First types text
first_of [] text gap some h = absurd (some (ap length (sym gap ∙ h)))
first_of (m ∷ ms) text gap some h =
    let Rest : List ℕ → Type 0 = λ t. CommaThen (behind_run is_blank t) (ListsMedia ms) in
    let first = media_more text m Rest (along (λ t. MediaThen t m Rest) _ _ gap h.1) in
    record { media = m; left = ms; is = refl; more = first.0; spelled = first.1; stops = comma_stops ms first.0 first.2; goes_on = list_goes_on ms first.0 first.2 }

-- no entry is left in an empty text
pub none_listed : (types : List Media) (text : List ℕ) → length text ≡ 0 → ListsMedia types text → types ≡ []
none_listed [] text none h = refl
none_listed (m ∷ ms) [] none h = absurd h.1.starts
none_listed (m ∷ ms) (b ∷ bs) none h = absurd (omega arith)

-- one more entry is read
pub one_listed : (types left : List Media) (entries entries' : List Weighed) (m : Media) (ms : List Media) (entry : Weighed) → map weighed types ≡ entries ++ map weighed left
    → left ≡ m ∷ ms → entry ≡ weighed m → entries' ≡ entries ++ entry ∷ [] → map weighed types ≡ entries' ++ map weighed ms
one_listed types left entries entries' m ms entry e is read pushed =
    e ∙ ap (λ (ms : List Media). entries ++ map weighed ms) is
    ∙ ap (λ (w : Weighed). entries ++ w ∷ map weighed ms) (sym read)
    ∙ sym (append_assoc entries (entry ∷ []) (map weighed ms))
    ∙ ap (λ (ws : List Weighed). ws ++ map weighed ms) (sym pushed)

pub all_listed : (types left : List Media) (entries : List Weighed) → map weighed types ≡ entries ++ map weighed left → left ≡ [] → entries ≡ map weighed types
all_listed types left entries e none = sym (e ∙ ap (λ (ms : List Media). entries ++ map weighed ms) none ∙ append-nil entries)
