-- What the header `X-DNS-Prefetch-Control` says.
use Rattle.std.specs.Prelude.{ℕ, List, codes}
use Rattle.rkt_shield.specs.declared.prefetch.Prefetch.{Prefetch}
use Rattle.rkt_shield.specs.declared.prefetch.Prefetch.TheVariants.{Off, On}

abbrev pub prefetch_text : Prefetch → List ℕ
prefetch_text Off = codes "off"
prefetch_text On = codes "on"
