-- The parts of a media type, and the text that is printed of it.
use Rattle.std.proofs.Common.{◌≡◌, ℕ, List, [], ◌∷◌, ◌++◌, Bool, true, false, ◌==◌, if◌then◌else◌, Some, None, sym, ◌∙◌, ap, subst, inl, inr, refl, append_assoc, append-nil, flat_map, filter}
use Rattle.std.proofs.lemmas.Bool.{false≢true}
use Rattle.rkt_media.specs.Runs.{run, behind_run, Starts}
use Rattle.rkt_media.specs.Media.{Media, Parameter, parameter_text, media_text}
use Rattle.rkt_grammar.specs.Grammar.{is_token_byte, is_field_value_byte}
use Rattle.rkt_media.specs.MediaText.{is_blank, is_quoted_byte, behind_quoted, TokenThen, ByteThen, ValueThen, ParameterThen, ParametersThen, MediaThen, SpellsMedia, Exactly, AreSpelled, IsSpelled}
use Rattle.rkt_media.specs.MediaRestLaws.{along, quoted_front, blank_no_token}
use Rattle.rkt_media.proofs.RunLemmas.{cancel}

-- a run is all run
run_again : (text : List ℕ) → (run is_token_byte (run is_token_byte text) ≡ run is_token_byte text) × (behind_run is_token_byte (run is_token_byte text) ≡ [])
run_again [] = (refl, refl)
run_again (b ∷ bs) = by_test (is_token_byte b) refl (run_again bs)
  where
    by_test : (t : Bool) → is_token_byte b ≡ t → (run is_token_byte (run is_token_byte bs) ≡ run is_token_byte bs) × (behind_run is_token_byte (run is_token_byte bs) ≡ [])
        → (run is_token_byte (if t then b ∷ run is_token_byte bs else []) ≡ (if t then b ∷ run is_token_byte bs else [])) × (behind_run is_token_byte (if t then b ∷ run is_token_byte bs else []) ≡ [])
    by_test true is more = (
      ap (λ (t : Bool). if t then b ∷ run is_token_byte (run is_token_byte bs) else []) is ∙ ap (λ (xs : List ℕ). b ∷ xs) more.0,
      ap (λ (t : Bool). if t then behind_run is_token_byte (run is_token_byte bs) else b ∷ run is_token_byte bs) is ∙ more.1,
    )
    by_test false is more = (refl, refl)

run_starts : (text : List ℕ) → Starts is_token_byte text → Starts is_token_byte (run is_token_byte text)
run_starts [] h = h
run_starts (b ∷ bs) h = along (Starts is_token_byte) _ _ (sym (ap (λ (t : Bool). if t then b ∷ run is_token_byte bs else []) h)) h

-- a token that is read is spelled as it stands
pub token_part : (text token : List ℕ) (R : List ℕ → Type 0) → TokenThen text token R → TokenThen token token (Exactly [])
token_part text token R h =
    let P : List ℕ → Type 0 = λ t. TokenThen t t (Exactly []) in
    subst P (sym h.is) record { starts = run_starts text h.starts; is = sym (run_again text).0; rest = (run_again text).1 }

-- and so is a value
pub value_part : (text value : List ℕ) (R : List ℕ → Type 0) → ValueThen text value R → ValueThen value value (Exactly [])
value_part text value R (inl token) = inl (token_part text value R token)
value_part text value R (inr quoted) =
    let front = quoted_front false quoted.inside quoted.more quoted.closed in
    let whole : 34 ∷ front.0 ≡ value = cancel (34 ∷ front.0) value quoted.more (ap (λ (xs : List ℕ). 34 ∷ xs) (sym front.1) ∙ sym quoted.opened ∙ quoted.is) in
    inr record { inside = front.0; opened = sym whole; more = []; closed = front.2; is = sym (append-nil value); rest = refl }

-- what follows a value
value_rest : (text value : List ℕ) (R : List ℕ → Type 0) → ValueThen text value R → (more : List ℕ) × R more
value_rest text value R (inl token) = (behind_run is_token_byte text, token.rest)
value_rest text value R (inr quoted) = (quoted.more, quoted.rest)

pub parameters_part : (ps : List Parameter) (text : List ℕ) (R : List ℕ → Type 0) → ParametersThen ps R text → AreSpelled ps
parameters_part [] text R h = tt
parameters_part (p ∷ ps) text R h = let more = value_rest h.rest.rest.behind p.1 (ParametersThen ps R) h.rest.rest.rest in (
  (
    token_part (behind_run is_blank h.behind) p.0 (λ t. ByteThen 61 t (λ t. ValueThen t p.1 (ParametersThen ps R))) h.rest,
    value_part h.rest.rest.behind p.1 (ParametersThen ps R) h.rest.rest.rest,
  ),
  parameters_part ps more.0 R more.1,
)

-- the parts of what is read are spelled as they stand
pub media_parts : (text : List ℕ) (m : Media) (R : List ℕ → Type 0) → MediaThen text m R → IsSpelled m
media_parts text m R h = record {
  top = token_part text m.top (λ t. ByteThen 47 t (λ t. TokenThen t m.sub (ParametersThen m.parameters R))) h;
  sub = token_part h.rest.behind m.sub (ParametersThen m.parameters R) h.rest.rest;
  parameters = parameters_part m.parameters (behind_run is_token_byte h.rest.behind) R h.rest.rest.rest;
}

-- some of them are too
pub some_parts : (test : Parameter → Bool) (ps : List Parameter) → AreSpelled ps → AreSpelled (filter test ps)
some_parts test [] h = tt
some_parts test (p ∷ ps) h = by_test (test p) (some_parts test ps h.1)
  where
    by_test : (t : Bool) → AreSpelled (filter test ps) → AreSpelled (if t then p ∷ filter test ps else filter test ps)
    by_test true more = (h.0, more)
    by_test false more = more

-- a token ends where another byte comes
run_to : (token rest : List ℕ) → token ≡ run is_token_byte token → ¬ Starts is_token_byte rest → (token ≡ run is_token_byte (token ++ rest)) × (behind_run is_token_byte (token ++ rest) ≡ rest)
run_to [] [] e stop = (refl, refl)
run_to [] (r ∷ rs) e stop = by_test (is_token_byte r) refl
  where
    by_test : (t : Bool) → is_token_byte r ≡ t → ([] ≡ run is_token_byte (r ∷ rs)) × (behind_run is_token_byte (r ∷ rs) ≡ r ∷ rs)
    by_test true is = absurd (stop is)
    by_test false is = (sym (ap (λ (t : Bool). if t then r ∷ run is_token_byte rs else []) is), ap (λ (t : Bool). if t then behind_run is_token_byte rs else r ∷ rs) is)
run_to (b ∷ bs) rest e stop = by_test (is_token_byte b) refl e (λ e. run_to bs rest e stop)
  where
    by_test : (t : Bool) → is_token_byte b ≡ t → b ∷ bs ≡ (if t then b ∷ run is_token_byte bs else [])
        → (bs ≡ run is_token_byte bs → (bs ≡ run is_token_byte (bs ++ rest)) × (behind_run is_token_byte (bs ++ rest) ≡ rest))
        → (b ∷ bs ≡ run is_token_byte (b ∷ (bs ++ rest))) × (behind_run is_token_byte (b ∷ (bs ++ rest)) ≡ rest)
    by_test true is e more = let tail : bs ≡ run is_token_byte bs = cc e in let m = more tail in (
      ap (λ (xs : List ℕ). b ∷ xs) m.0 ∙ sym (ap (λ (t : Bool). if t then b ∷ run is_token_byte (bs ++ rest) else []) is),
      ap (λ (t : Bool). if t then behind_run is_token_byte (bs ++ rest) else b ∷ (bs ++ rest)) is ∙ m.1,
    )
    by_test false is e more = absurd (cc e)

starts_more : (token rest : List ℕ) → Starts is_token_byte token → Starts is_token_byte (token ++ rest)
starts_more [] rest h = absurd h
starts_more (b ∷ bs) rest h = h

token_printed : (token rest : List ℕ) (R : List ℕ → Type 0) → TokenThen token token (Exactly []) → ¬ Starts is_token_byte rest → R rest → TokenThen (token ++ rest) token R
token_printed token rest R h stop r = let to = run_to token rest h.is stop in
    record { starts = starts_more token rest h.starts; is = to.0; rest = along R _ _ (sym to.1) r }

-- a quoted string closes where it closes, whatever follows
quoted_longer : (escaped : Bool) (inside more rest : List ℕ) → behind_quoted escaped inside ≡ Some more → behind_quoted escaped (inside ++ rest) ≡ Some (more ++ rest)
quoted_longer true [] more rest e = absurd (cc e)
quoted_longer false [] more rest e = absurd (cc e)
quoted_longer true (b ∷ bs) more rest e = by_test (is_field_value_byte b) e (λ e. quoted_longer false bs more rest e)
  where
    by_test : (t : Bool) → (if t then behind_quoted false bs else None) ≡ Some more → (behind_quoted false bs ≡ Some more → behind_quoted false (bs ++ rest) ≡ Some (more ++ rest))
        → (if t then behind_quoted false (bs ++ rest) else None) ≡ Some (more ++ rest)
    by_test true e on = on e
    by_test false e on = absurd (cc e)
quoted_longer false (b ∷ bs) more rest e = by_test (b == 34) (b == 92) (is_quoted_byte b) e (λ e. quoted_longer true bs more rest e) (λ e. quoted_longer false bs more rest e)
  where
    by_test : (t u v : Bool) → (if t then Some bs else (if u then behind_quoted true bs else (if v then behind_quoted false bs else None))) ≡ Some more
        → (behind_quoted true bs ≡ Some more → behind_quoted true (bs ++ rest) ≡ Some (more ++ rest)) → (behind_quoted false bs ≡ Some more → behind_quoted false (bs ++ rest) ≡ Some (more ++ rest))
        → (if t then Some (bs ++ rest) else (if u then behind_quoted true (bs ++ rest) else (if v then behind_quoted false (bs ++ rest) else None))) ≡ Some (more ++ rest)
    by_test true u v e escaped on = let same : bs ≡ more = cc e in ap (λ (xs : List ℕ). Some (xs ++ rest)) same
    by_test false true v e escaped on = escaped e
    by_test false false true e escaped on = on e
    by_test false false false e escaped on = absurd (cc e)

value_printed : (value rest : List ℕ) (R : List ℕ → Type 0) → ValueThen value value (Exactly []) → ¬ Starts is_token_byte rest → R rest → ValueThen (value ++ rest) value R
value_printed value rest R (inl token) stop r = inl (token_printed value rest R token stop r)
value_printed value rest R (inr quoted) stop r = inr record {
  inside = quoted.inside ++ rest;
  opened = ap (λ (xs : List ℕ). xs ++ rest) quoted.opened;
  more = rest;
  closed = quoted_longer false quoted.inside quoted.more rest quoted.closed ∙ ap (λ (xs : List ℕ). Some (xs ++ rest)) quoted.rest;
  is = refl;
  rest = r;
}

-- behind a value no token goes on
no_token : (ps : List Parameter) → ¬ Starts is_token_byte (flat_map parameter_text ps)
no_token [] h = h
no_token (p ∷ ps) h = false≢true h

no_blank : (text : List ℕ) → Starts is_token_byte text → behind_run is_blank text ≡ text
no_blank [] h = refl
no_blank (b ∷ bs) h = by_test (is_blank b) refl
  where
    by_test : (t : Bool) → is_blank b ≡ t → (if t then behind_run is_blank bs else b ∷ bs) ≡ b ∷ bs
    by_test true is = absurd (false≢true (sym (blank_no_token b is) ∙ h))
    by_test false is = refl

parameters_printed : (ps : List Parameter) → AreSpelled ps → ParametersThen ps (Exactly []) (flat_map parameter_text ps)
parameters_printed [] h = refl
parameters_printed (p ∷ ps) h =
    let left : List ℕ = flat_map parameter_text ps in
    let Value : List ℕ → Type 0 = λ t. ValueThen t p.1 (ParametersThen ps (Exactly [])) in
    let value : Value (p.1 ++ left) = value_printed p.1 left (ParametersThen ps (Exactly [])) h.0.1 (no_token ps) (parameters_printed ps h.1) in
    let equals : ByteThen 61 (61 ∷ (p.1 ++ left)) Value = record { behind = p.1 ++ left; is = refl; rest = value } in
    let name : ParameterThen (p.0 ++ (61 ∷ (p.1 ++ left))) p (ParametersThen ps (Exactly [])) = token_printed p.0 (61 ∷ (p.1 ++ left)) (λ t. ByteThen 61 t Value) h.0.0 false≢true equals in
    let joined : ((p.0 ++ 61 ∷ []) ++ p.1) ++ left ≡ p.0 ++ (61 ∷ (p.1 ++ left)) = append_assoc (p.0 ++ 61 ∷ []) p.1 left ∙ append_assoc p.0 (61 ∷ []) (p.1 ++ left) in
    let Behind : List ℕ → Type 0 = λ t. ParameterThen t p (ParametersThen ps (Exactly [])) in
    record { behind = 32 ∷ (((p.0 ++ 61 ∷ []) ++ p.1) ++ left); is = refl; rest = along Behind _ _ (sym (ap (behind_run is_blank) joined ∙ no_blank (p.0 ++ (61 ∷ (p.1 ++ left))) name.starts)) name }

-- what is printed of a media type is read again as it
pub printed : (m : Media) → IsSpelled m → SpellsMedia (media_text m) m
printed m h =
    let left : List ℕ = flat_map parameter_text m.parameters in
    let Sub : List ℕ → Type 0 = λ t. TokenThen t m.sub (ParametersThen m.parameters (Exactly [])) in
    let sub : Sub (m.sub ++ left) = token_printed m.sub left (ParametersThen m.parameters (Exactly [])) h.sub (no_token m.parameters) (parameters_printed m.parameters h.parameters) in
    let slash : ByteThen 47 (47 ∷ (m.sub ++ left)) Sub = record { behind = m.sub ++ left; is = refl; rest = sub } in
    let joined : ((m.top ++ 47 ∷ []) ++ m.sub) ++ left ≡ m.top ++ (47 ∷ (m.sub ++ left)) = append_assoc (m.top ++ 47 ∷ []) m.sub left ∙ append_assoc m.top (47 ∷ []) (m.sub ++ left) in
    along (λ t. SpellsMedia t m) _ _ (sym joined) (token_printed m.top (47 ∷ (m.sub ++ left)) (λ t. ByteThen 47 t Sub) h.top false≢true slash)

-- a media type by its parts
pub media_same : (top sub : List ℕ) (ps : List Parameter) (m : Media) → top ≡ m.top → sub ≡ m.sub → ps ≡ m.parameters → record { top = top; sub = sub; parameters = ps } ≡ m
media_same top sub ps m is_top is_sub is_ps =
    ap (λ (t : List ℕ). let n : Media = record { top = t; sub = sub; parameters = ps } in n) is_top
    ∙ ap (λ (s : List ℕ). let n : Media = record { top = m.top; sub = s; parameters = ps } in n) is_sub
    ∙ ap (λ (qs : List Parameter). let n : Media = record { top = m.top; sub = m.sub; parameters = qs } in n) is_ps
