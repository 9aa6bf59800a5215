use Rattle.std.proofs.Common.{◌∙◌, sym, ap}
use Rattle.rkt_media.specs.Runs.{run, behind_run}
use Rattle.rkt_grammar.specs.Grammar.{is_token_byte}
use Rattle.rkt_media.proofs.MediaReads.{parameter_read, shorter_behind}
use Rattle.rkt_media.proofs.media_read.parameter_cut.Goals as goal

pub returns-clause-reads : goal.returns-clause-reads
returns-clause-reads c =
    parameter_read c.args.text.now c.in_ok-behind.behind.now _ c.in_ok-behind_mark.field-0.now _ _ (sym c.skip_blanks.ensures ∙ c.in_ok-behind.ensures)
    (c.token_cut.ensures.token ∙ ap (run is_token_byte) c.skip_blanks-2.ensures)
    (ap (behind_run is_token_byte) (sym c.skip_blanks-2.ensures) ∙ sym c.token_cut.ensures.rest ∙ c.in_ok-behind_mark.ensures) c.value_cut.ensures.value

pub returns-clause-shorter : goal.returns-clause-shorter
returns-clause-shorter c =
    shorter_behind c.args.text.now c.in_ok-behind.behind.now c.in_ok-behind_mark.field-0.now _ (sym c.skip_blanks.ensures ∙ c.in_ok-behind.ensures)
    (ap (behind_run is_token_byte) (sym c.skip_blanks-2.ensures) ∙ sym c.token_cut.ensures.rest ∙ c.in_ok-behind_mark.ensures) c.value_cut.ensures.shorter
