-- What the header `X-XSS-Protection` says.
use Rattle.std.specs.Prelude.{ℕ, List, codes}
use Rattle.rkt_shield.specs.declared.xss_filter.XssFilter.{XssFilter}
use Rattle.rkt_shield.specs.declared.xss_filter.XssFilter.TheVariants.{Enable, Disable, EnableBlock}

abbrev pub xss_filter_text : XssFilter → List ℕ
xss_filter_text Enable = codes "1"
xss_filter_text Disable = codes "0"
xss_filter_text EnableBlock = codes "1; mode=block"
