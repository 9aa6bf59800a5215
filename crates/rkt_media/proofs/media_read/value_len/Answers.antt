use Rattle.std.proofs.Common.{◌≡◌, ◌∙◌, sym, ap, subst, List, ℕ, ◌∷◌, ◌+◌, take, drop}
use Rattle.std.specs.Str.{IsUtf8, IsCharBoundary}
use Rattle.rkt_grammar.specs.Grammar.{is_token_byte}
use Rattle.rkt_media.specs.MediaText.{ValueThen, Exactly}
use Rattle.rkt_media.proofs.RunLemmas.{boundary-run, token_ascii, boundary-quoted, value_token, value_quoted}
use Rattle.rkt_media.proofs.media_read.value_len.Goals as goal

pub returns-then-first-ne34-clause-boundary : goal.returns-then-first-ne34-clause-boundary
returns-then-first-ne34-clause-boundary c = λ utf8. boundary-run is_token_byte token_ascii c.args.bytes.now c.run_len.result utf8 c.run_len.ensures

pub returns-then-first-ne34-clause-value : goal.returns-then-first-ne34-clause-value
returns-then-first-ne34-clause-value c = λ value more h.
    value_token c.args.bytes.now value more c.in-Some.first.now c.in-Some.inside.now c.run_len.result c.in-Some.ensures.cases.0 c.if-first-ne34.true c.run_len.ensures h

pub returns-clause-boundary : goal.returns-clause-boundary
returns-clause-boundary c = λ utf8.
    let is : c.args.bytes.now ≡ 34 ∷ c.in-Some.inside.now = c.in-Some.ensures.cases.0 ∙ ap (λ (b : ℕ). b ∷ c.in-Some.inside.now) c.if-first-ne34.false in
    let P : List ℕ → Type 0 = λ xs. IsCharBoundary xs (c.quoted_len.result + 1) in
    subst P (sym is) (boundary-quoted c.in-Some.inside.now c.quoted_len.result c.quoted_len.ensures.within c.quoted_len.ensures.closes (subst IsUtf8 is utf8))

pub returns-clause-value : goal.returns-clause-value
returns-clause-value c = λ value more h.
    let is : c.args.bytes.now ≡ 34 ∷ c.in-Some.inside.now = c.in-Some.ensures.cases.0 ∙ ap (λ (b : ℕ). b ∷ c.in-Some.inside.now) c.if-first-ne34.false in
    let P : List ℕ → Type 0 = λ xs. (take (c.quoted_len.result + 1) xs ≡ value) × (drop (c.quoted_len.result + 1) xs ≡ more) in
    let Q : List ℕ → Type 0 = λ xs. ValueThen xs value (Exactly more) in
    subst P (sym is) (value_quoted c.in-Some.inside.now value more c.quoted_len.result c.quoted_len.ensures.rest (subst Q is h))
