use Rattle.rkt_uri.proofs.Absolutes.{says_scheme, says_host, says_port}
use Rattle.rkt_shield.specs.Allow.{quoted_origin}
use Rattle.rkt_shield.proofs.origin_law.prints_what_it_spells.Goals as goal

pub returns : goal.returns
returns c = λ text uri spells i. quoted_origin (says_scheme text uri spells i) (says_host text uri spells i) (says_port text uri spells i)
