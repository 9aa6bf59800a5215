use Rattle.std.proofs.Common.{◌∙◌, sym, ap, subst, List, ℕ, take, drop}
use Rattle.rkt_media.specs.MediaText.{ValueThen, Exactly}
use Rattle.rkt_media.proofs.media_read.value_cut.Goals as goal

pub returns-clause-value : goal.returns-clause-value
returns-clause-value c = λ value more h.
    let Q : List ℕ → Type 0 = λ xs. ValueThen xs value (Exactly more) in
    let cut = c.value_len.ensures.value value more (subst Q (sym c.as_bytes.ensures.value) h) in (
      c.split_at.ensures.front ∙ ap (take c.value_len.result) (sym c.as_bytes.ensures.value) ∙ cut.0,
      c.split_at.ensures.back ∙ ap (drop c.value_len.result) (sym c.as_bytes.ensures.value) ∙ cut.1,
    )
