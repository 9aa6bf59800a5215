-- A text spells one media type and one list of accepted ones at most, and of such a list one is preferred.
use Rattle.std.proofs.Common.{◌≡◌, ℕ, ◌<◌, List, [], ◌∷◌, ◌++◌, false, Some, ◌⊎◌, inl, inr, refl, sym, ◌∙◌, ap, subst, arith, map}
use Rattle.std.specs.Prelude.{slice_get}
use Rattle.std.proofs.lemmas.Bool.{false≢true}
use Rattle.std.proofs.lemmas.List.{append_cancel_right}
use Rattle.rkt_media.specs.Accept.{Weighed, PrefersOne, weighed}
use Rattle.rkt_media.specs.AcceptText.{is_gap, ListsMedia, CommaThen, SpellsOneAccept}
use Rattle.rkt_media.specs.Media.{Media, Parameter}
use Rattle.rkt_media.specs.MediaRestLaws.{along, tail_same}
use Rattle.rkt_grammar.specs.Grammar.{is_token_byte}
use Rattle.rkt_media.specs.MediaText.{is_blank, behind_quoted, ValueThen, SemicolonThen, ParametersThen, MediaThen, Exactly, NoSemicolon, SpellsOneMedia}
use Rattle.rkt_media.specs.Runs.{run, behind_run, Starts}
use Rattle.rkt_media.proofs.AcceptReads.{media_more, comma_stops, list_goes_on}
use Rattle.rkt_media.proofs.MediaReads.{semicolon_more, parameter_read, nothing_more}
use Rattle.rkt_media.proofs.MediaParts.{media_same}

no_quote : (text inside : List ℕ) → Starts is_token_byte text → text ≡ 34 ∷ inside → ⊥
no_quote text inside starts opened = let first : Starts is_token_byte (34 ∷ inside) = subst (Starts is_token_byte) opened starts in false≢true first

closed_same : (text inside inside' more more' : List ℕ) → text ≡ 34 ∷ inside → text ≡ 34 ∷ inside' → behind_quoted false inside ≡ Some more → behind_quoted false inside' ≡ Some more'
    → more ≡ more'
closed_same text inside inside' more more' opened opened' closed closed' =
    let same : inside ≡ inside' = tail_same _ _ _ _ (sym opened ∙ opened') in
    let both : Some more ≡ Some more' = sym closed ∙ ap (behind_quoted false) same ∙ closed' in
    cc both

-- a value and what follows it are one each
value_same : (text a b more more' : List ℕ) → ValueThen text a (Exactly more) → ValueThen text b (Exactly more') → (a ≡ b) × (more ≡ more')
value_same text a b more more' (inl one) (inl other) = (one.is ∙ sym other.is, sym one.rest ∙ other.rest)
value_same text a b more more' (inl one) (inr other) = absurd (no_quote text other.inside one.starts other.opened)
value_same text a b more more' (inr one) (inl other) = absurd (no_quote text one.inside other.starts one.opened)
value_same text a b more more' (inr one) (inr other) =
    let behind : one.more ≡ other.more = closed_same text one.inside other.inside one.more other.more one.opened other.opened one.closed other.closed in
    (append_cancel_right a b one.more (sym one.is ∙ other.is ∙ ap (λ (xs : List ℕ). b ++ xs) (sym behind)), sym one.rest ∙ behind ∙ other.rest)

semicolon_same : (text : List ℕ) (p q : Parameter) (more more' : List ℕ) → SemicolonThen text p (Exactly more) → SemicolonThen text q (Exactly more') → (p ≡ q) × (more ≡ more')
semicolon_same text p q more more' one other =
    let same = parameter_read text one.behind p.0 one.rest.rest.behind p.1 more one.is one.rest.is one.rest.rest.is
    (λ v rest h. value_same one.rest.rest.behind p.1 v more rest one.rest.rest.rest h) q more' other in
    (ap (λ (n : List ℕ). let p' : Parameter = (n, p.1) in p') same.0 ∙ ap (λ (v : List ℕ). let p' : Parameter = (q.0, v) in p') same.1, same.2)

parameters_same : (ps qs : List Parameter) (text more more' : List ℕ) → NoSemicolon more → NoSemicolon more' → ParametersThen ps (Exactly more) text → ParametersThen qs (Exactly more') text
    → (ps ≡ qs) × (more ≡ more')
parameters_same [] [] text more more' stop stop' one other = (refl, sym one ∙ other)
parameters_same [] (q ∷ qs) text more more' stop stop' one other = absurd (stop other.behind (ap (behind_run is_blank) (sym one) ∙ other.is))
parameters_same (p ∷ ps) [] text more more' stop stop' one other = absurd (stop' one.behind (ap (behind_run is_blank) (sym other) ∙ one.is))
parameters_same (p ∷ ps) (q ∷ qs) text more more' stop stop' one other =
    let a = semicolon_more text p (ParametersThen ps (Exactly more)) one in
    let b = semicolon_more text q (ParametersThen qs (Exactly more')) other in
    let first = semicolon_same text p q a.0 b.0 a.1 b.1 in
    let rest = parameters_same ps qs a.0 more more' stop stop' a.2 (along (ParametersThen qs (Exactly more')) _ _ (sym first.1) b.2) in
    (ap (λ (x : Parameter). x ∷ ps) first.0 ∙ ap (λ (xs : List Parameter). q ∷ xs) rest.0, rest.1)

-- a media type and what follows it are one each, where no parameter follows
media_then_same : (text : List ℕ) (a b : Media) (more more' : List ℕ) → NoSemicolon more → NoSemicolon more' → MediaThen text a (Exactly more) → MediaThen text b (Exactly more')
    → (a ≡ b) × (more ≡ more')
media_then_same text a b more more' stop stop' one other =
    let behind : one.rest.behind ≡ other.rest.behind = tail_same _ _ _ _ (sym one.rest.is ∙ other.rest.is) in
    let sub : a.sub ≡ b.sub = one.rest.rest.is ∙ ap (run is_token_byte) behind ∙ sym other.rest.rest.is in
    let rest = parameters_same a.parameters b.parameters (behind_run is_token_byte one.rest.behind) more more' stop stop' one.rest.rest.rest
    (along (ParametersThen b.parameters (Exactly more')) _ _ (sym (ap (behind_run is_token_byte) behind)) other.rest.rest.rest) in
    (media_same a.top a.sub a.parameters b (one.is ∙ sym other.is) sub rest.0, rest.1)

pub spells_one_media : SpellsOneMedia
spells_one_media text a b one other = (media_then_same text a b [] [] nothing_more nothing_more one other).0

lists_same : (types others : List Media) (text : List ℕ) → ListsMedia types text → ListsMedia others text → types ≡ others
lists_same [] [] text one other = refl
lists_same [] (b ∷ bs) text one other = absurd (along (λ t. MediaThen t b (λ t. CommaThen (behind_run is_blank t) (ListsMedia bs))) _ _ one other.1).starts
lists_same (a ∷ types) [] text one other = absurd (along (λ t. MediaThen t a (λ t. CommaThen (behind_run is_blank t) (ListsMedia types))) _ _ other one.1).starts
lists_same (a ∷ types) (b ∷ bs) text one other =
    let x = media_more (behind_run is_gap text) a (λ t. CommaThen (behind_run is_blank t) (ListsMedia types)) one.1 in
    let y = media_more (behind_run is_gap text) b (λ t. CommaThen (behind_run is_blank t) (ListsMedia bs)) other.1 in
    let first = media_then_same (behind_run is_gap text) a b x.0 y.0 (comma_stops types x.0 x.2) (comma_stops bs y.0 y.2) x.1 y.1 in
    let rest = lists_same types bs (behind_run is_gap x.0) (list_goes_on types x.0 x.2)
    (along (ListsMedia bs) _ _ (sym (ap (behind_run is_gap) first.1)) (list_goes_on bs y.0 y.2)) in
    ap (λ (m : Media). m ∷ types) first.0 ∙ ap (λ (ms : List Media). b ∷ ms) rest

pub spells_one_accept : SpellsOneAccept
spells_one_accept text a b one other = one.2 ∙ ap (map weighed) (lists_same one.0 other.0 text one.1 other.1) ∙ sym other.2

pub prefers_one : PrefersOne
prefers_one entries a b one other = by_place (places one.0 other.0)
  where
    places : (m n : ℕ) → (m < n) ⊎ ((m ≡ n) ⊎ (n < m))
    places m n = grind arith

    by_place : (one.0 < other.0) ⊎ ((one.0 ≡ other.0) ⊎ (other.0 < one.0)) → a ≡ b
    by_place (inl below) = absurd (one.2.best other.0 other.1 other.2.there (other.2.first one.0 one.1 below one.2.there))
    by_place (inr (inr above)) = absurd (other.2.best one.0 one.1 one.2.there (one.2.first other.0 other.1 above other.2.there))
    by_place (inr (inl same)) =
        let entry : Some one.1 ≡ Some other.1 = sym one.2.there ∙ ap (slice_get entries) same ∙ other.2.there in
        let entry_same : one.1 ≡ other.1 = cc entry in
        one.3 ∙ ap (λ (w : Weighed). w.media) entry_same ∙ sym other.3
