use Rattle.std.proofs.Common.{◌≡◌, ℕ, ◌+◌, List, ◌++◌, ◌∷◌, [], take, ap, ◌∙◌, sym, subst}
use Rattle.std.specs.Prelude.{IsUtf8}
use Rattle.std.proofs.lemmas.List.{take_more}
use Rattle.rkt_http.specs.Headers.{Field, added}
use Rattle.rkt_request.specs.Incoming.{field_of, headers_of}
use Rattle.rkt_request.proofs.AskedLemmas.{headers_of-kept, headers_of-dropped}
use Rattle.rkt_request.proofs.asked.read_headers.Goals as goal
use Rattle.rkt_request.proofs.asked.read_headers.Goals.{in-Some+in_ok-new+in_ok-add, in_default}

pub loop-name-preserved : goal.loop-name-preserved
loop-name-preserved c =
    let headers = c.args.headers.now in
    let i = c.loop-name.name-index in
    let item = c.loop-name-item.result in
    let grown : take (i + 1) headers ≡ take i headers ++ item ∷ [] = take_more headers i item c.loop-name-test.true ∙ ap (λ x. take i headers ++ x ∷ []) (sym c.loop-name-item.is) in
    let field : List ℕ → List ℕ → Field = λ name value. record { name = name; value = value } in
    elim c.match-as_text.branch [
      | in-Some+in_ok-new+in_ok-add w ↦ w.map-is ∙ w.in_ok-add.ensures.ok
          ∙ ap (added c.loop-name.map) (w.in_ok-new.ensures ∙ ap (λ name. field name w.in-Some.value.now) w.as_str.ensures ∙ ap (field item.0) (w.in-Some.ensures.1 ∙ c.as_slice.ensures))
          ∙ ap (λ map. added map (field_of item)) c.loop-name.invariant
          ∙ sym (headers_of-kept (take i headers) item (subst (λ bytes. IsUtf8 bytes) c.as_slice.ensures w.in-Some.ensures.0)) ∙ ap headers_of (sym grown)
      | in_default w ↦ w.map-is ∙ c.loop-name.invariant ∙ sym (headers_of-dropped (take i headers) item (λ utf8. w.in_default.ensures (subst (λ bytes. IsUtf8 bytes) (sym c.as_slice.ensures) utf8))) ∙ ap headers_of (sym grown)
    ]
