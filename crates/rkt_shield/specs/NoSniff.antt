-- What the header `X-Content-Type-Options` says.
use Rattle.std.specs.Prelude.{ℕ, List, codes}
use Rattle.rkt_shield.specs.declared.no_sniff.NoSniff.{NoSniff}
use Rattle.rkt_shield.specs.declared.no_sniff.NoSniff.TheVariants.{Enable}

abbrev pub no_sniff_text : NoSniff → List ℕ
no_sniff_text Enable = codes "nosniff"
