-- What the header `Referrer-Policy` says.
use Rattle.std.specs.Prelude.{ℕ, List, codes}
use Rattle.rkt_shield.specs.declared.referrer.Referrer.{Referrer}
use Rattle.rkt_shield.specs.declared.referrer.Referrer.TheVariants.{NoReferrer, NoReferrerWhenDowngrade, Origin, OriginWhenCrossOrigin, SameOrigin, StrictOrigin, StrictOriginWhenCrossOrigin, UnsafeUrl}

abbrev pub referrer_text : Referrer → List ℕ
referrer_text NoReferrer = codes "no-referrer"
referrer_text NoReferrerWhenDowngrade = codes "no-referrer-when-downgrade"
referrer_text Origin = codes "origin"
referrer_text OriginWhenCrossOrigin = codes "origin-when-cross-origin"
referrer_text SameOrigin = codes "same-origin"
referrer_text StrictOrigin = codes "strict-origin"
referrer_text StrictOriginWhenCrossOrigin = codes "strict-origin-when-cross-origin"
referrer_text UnsafeUrl = codes "unsafe-url"
