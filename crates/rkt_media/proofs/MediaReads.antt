-- How the parts of a media type are read, one after another.
use Rattle.std.proofs.Common.{◌≡◌, ◌≢◌, ℕ, List, [], ◌∷◌, ◌++◌, length, ◌<◌, ◌≤◌, sym, ◌∙◌, ap, inl, inr, refl, arith, append_assoc, append-nil}
use Rattle.rkt_media.specs.Runs.{run, behind_run}
use Rattle.rkt_media.specs.Media.{Parameter}
use Rattle.rkt_grammar.specs.Grammar.{is_token_byte}
use Rattle.rkt_media.specs.MediaText.{is_blank, ValueThen, SemicolonThen, ParametersThen, Exactly, NoSemicolon}
use Rattle.rkt_media.specs.MediaRestLaws.{along, tail_same}
use Rattle.rkt_media.proofs.RunLemmas.{length-behind_run}

-- a value, and just what follows it
value_more : (text value : List ℕ) (R : List ℕ → Type 0) → ValueThen text value R → (more : List ℕ) × ValueThen text value (Exactly more) × R more
value_more text value R (inl token) = (behind_run is_token_byte text, inl record { starts = token.starts; is = token.is; rest = refl }, token.rest)
value_more text value R (inr quoted) = (
  quoted.more,
  inr record { inside = quoted.inside; opened = quoted.opened; more = quoted.more; closed = quoted.closed; is = quoted.is; rest = refl },
  quoted.rest,
)

-- a parameter, and just what follows it
pub semicolon_more : (text : List ℕ) (p : Parameter) (R : List ℕ → Type 0) → SemicolonThen text p R → (more : List ℕ) × SemicolonThen text p (Exactly more) × R more
semicolon_more text p R h = let m = value_more h.rest.rest.behind p.1 R h.rest.rest.rest in (
  m.0,
  record {
    behind = h.behind;
    is = h.is;
    rest = record { starts = h.rest.starts; is = h.rest.is; rest = record { behind = h.rest.rest.behind; is = h.rest.rest.is; rest = m.1 } };
  },
  m.2,
)

-- a parameter is read as it is spelled
pub parameter_read : (text behind name at value rest : List ℕ) → behind_run is_blank text ≡ 59 ∷ behind → name ≡ run is_token_byte (behind_run is_blank behind)
    → behind_run is_token_byte (behind_run is_blank behind) ≡ 61 ∷ at → ((v more : List ℕ) → ValueThen at v (Exactly more) → (value ≡ v) × (rest ≡ more))
    → (p : Parameter) (more : List ℕ) → SemicolonThen text p (Exactly more) → (name ≡ p.0) × (value ≡ p.1) × (rest ≡ more)
parameter_read text behind name at value rest semicolon is_name equals reads p more h =
    let here : behind ≡ h.behind = tail_same _ _ _ _ (sym semicolon ∙ h.is) in
    let there : at ≡ h.rest.rest.behind = tail_same _ _ _ _ (sym equals ∙ ap (λ (xs : List ℕ). behind_run is_token_byte (behind_run is_blank xs)) here ∙ h.rest.rest.is) in
    let r = reads p.1 more (along (λ t. ValueThen t p.1 (Exactly more)) _ _ (sym there) h.rest.rest.rest) in
    (is_name ∙ ap (λ (xs : List ℕ). run is_token_byte (behind_run is_blank xs)) here ∙ sym h.rest.is, r.0, r.1)

-- without an equals sign there is none
pub no_equals : (text behind : List ℕ) → behind_run is_blank text ≡ 59 ∷ behind → ((rest : List ℕ) → behind_run is_token_byte (behind_run is_blank behind) ≢ 61 ∷ rest)
    → (p : Parameter) (R : List ℕ → Type 0) → ¬ SemicolonThen text p R
no_equals text behind semicolon none p R h =
    let here : behind ≡ h.behind = tail_same _ _ _ _ (sym semicolon ∙ h.is) in
    none h.rest.rest.behind (ap (λ (xs : List ℕ). behind_run is_token_byte (behind_run is_blank xs)) here ∙ h.rest.rest.is)

-- what is left behind a parameter is shorter
pub shorter_behind : (text behind at rest : List ℕ) → behind_run is_blank text ≡ 59 ∷ behind → behind_run is_token_byte (behind_run is_blank behind) ≡ 61 ∷ at → length rest ≤ length at
    → length rest < length text
shorter_behind text behind at rest semicolon equals short =
    let one : length (behind_run is_blank text) ≡ length (59 ∷ behind) = ap length semicolon in
    let two : length (behind_run is_token_byte (behind_run is_blank behind)) ≡ length (61 ∷ at) = ap length equals in
    omega (arith, length-behind_run is_blank text, length-behind_run is_token_byte (behind_run is_blank behind), length-behind_run is_blank behind)

-- where a parameter comes, it is the first of those that are left
pub next_read : (more rest name value behind : List ℕ) → NoSemicolon more → ¬ NoSemicolon rest
    → ((p : Parameter) (m : List ℕ) → SemicolonThen rest p (Exactly m) → (name ≡ p.0) × (value ≡ p.1) × (behind ≡ m))
    → (qs : List Parameter) → ParametersThen qs (Exactly more) rest → (x : List Parameter) × (qs ≡ (name, value) ∷ x) × ParametersThen x (Exactly more) behind
next_read more rest name value behind stop some reads [] h = absurd (some (λ m e. stop m (sym (ap (behind_run is_blank) h) ∙ e)))
next_read more rest name value behind stop some reads (q ∷ qs) h =
    let m = semicolon_more rest q (ParametersThen qs (Exactly more)) h in
    let r = reads q m.0 m.1 in
    let pair : q ≡ (name, value) = sym (ap (λ (n : List ℕ). let p : Parameter = (n, value) in p) r.0 ∙ ap (λ (v : List ℕ). let p : Parameter = (q.0, v) in p) r.1) in
    (qs, ap (λ (p : Parameter). p ∷ qs) pair, along (ParametersThen qs (Exactly more)) _ _ (sym r.2) m.2)

-- where none comes, none is left
pub none_left : (more rest : List ℕ) → ((p : Parameter) (m : List ℕ) → ¬ SemicolonThen rest p (Exactly m)) → (qs : List Parameter) → ParametersThen qs (Exactly more) rest → (qs ≡ []) × (rest ≡ more)
none_left more rest none [] h = (refl, h)
none_left more rest none (q ∷ qs) h = let m = semicolon_more rest q (ParametersThen qs (Exactly more)) h in absurd (none q m.0 m.1)

-- no parameter comes in an empty text
pub nothing_more : NoSemicolon []
nothing_more m e = cc e

-- a parameter that is read and kept is the first of those that are left
pub kept_one : (items items' qs x : List Parameter) (name value name' value' : List ℕ) → name' ≡ name → value' ≡ value → items' ≡ items ++ (name', value') ∷ [] → qs ≡ (name, value) ∷ x
    → items ++ qs ≡ items' ++ x
kept_one items items' qs x name value name' value' is_name is_value pushed is =
    let pair : (name, value) ≡ (name', value') = ap (λ (n : List ℕ). let p : Parameter = (n, value) in p) (sym is_name) ∙ ap (λ (v : List ℕ). let p : Parameter = (name', v) in p) (sym is_value) in
    ap (λ (xs : List Parameter). items ++ xs) (is ∙ ap (λ (p : Parameter). p ∷ x) pair)
    ∙ sym (append_assoc items ((name', value') ∷ []) x)
    ∙ ap (λ (xs : List Parameter). xs ++ x) (sym pushed)

pub all_kept : (ps items qs : List Parameter) → ps ≡ items ++ qs → qs ≡ [] → items ≡ ps
all_kept ps items qs e none = sym (e ∙ ap (λ (xs : List Parameter). items ++ xs) none ∙ append-nil items)
