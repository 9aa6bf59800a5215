use Rattle.std.proofs.Common.{◌∙◌, ap, take, drop, length, List, ℕ}
use Rattle.rkt_media.specs.Runs.{run}
use Rattle.rkt_media.specs.ByteClass.{is_of}
use Rattle.rkt_media.proofs.RunLemmas.{boundary-run, take-run, drop-run, class_ascii}
use Rattle.rkt_media.proofs.byte_run.run_cut.Goals as goal

pub split_at-requires : goal.split_at-requires
split_at-requires c =
    boundary-run (is_of c.args.class) (class_ascii c.args.class) c.args.text.now c.run_len.result c.utf8.text
    (c.run_len.ensures ∙ ap (λ (xs : List ℕ). length (run (is_of c.args.class) xs)) c.as_bytes.ensures.value)

pub returns-clause-run : goal.returns-clause-run
returns-clause-run c =
    c.split_at.ensures.front
    ∙ ap (λ (n : ℕ). take n c.args.text.now) (c.run_len.ensures ∙ ap (λ (xs : List ℕ). length (run (is_of c.args.class) xs)) c.as_bytes.ensures.value)
    ∙ take-run (is_of c.args.class) c.args.text.now

pub returns-clause-rest : goal.returns-clause-rest
returns-clause-rest c =
    c.split_at.ensures.back
    ∙ ap (λ (n : ℕ). drop n c.args.text.now) (c.run_len.ensures ∙ ap (λ (xs : List ℕ). length (run (is_of c.args.class) xs)) c.as_bytes.ensures.value)
    ∙ drop-run (is_of c.args.class) c.args.text.now
