use Rattle.std.proofs.lemmas.Str.Pattern.{strip_prefix_char}
use Rattle.rkt_media.proofs.media_read.behind_mark.Goals as goal

pub returns : goal.returns
returns c = strip_prefix_char _ _ _ c.strip_prefix.ensures.cases c.requires
