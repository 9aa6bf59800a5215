-- What the header `Strict-Transport-Security` says.
use Rattle.std.specs.Prelude.{ℕ, List, codes, max}
use Rattle.rkt_shield.specs.Age.{max_age}
use Rattle.rkt_shield.specs.declared.hsts.Hsts.{Hsts}
use Rattle.rkt_shield.specs.declared.hsts.Hsts.TheVariants.{Enable, IncludeSubDomains, Preload}

abbrev pub hsts_text : Hsts → List ℕ
hsts_text (Enable age) = max_age age (codes "")
hsts_text (IncludeSubDomains age) = max_age age (codes "; includeSubDomains")
hsts_text (Preload age) = max_age (max age 31536000) (codes "; includeSubDomains; preload")
