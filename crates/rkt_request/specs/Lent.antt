-- What a callback is lent beside the request: what it may change, and the Gate that its poll was given.
use Rattle.std.specs.Prelude.{◌≡◌, ◌⊎◌, ◌==◌, List, Option, find, option_map}
use Rattle.rkt_grammar.specs.Grammar.{IsFrontOf}
use Rattle.rkt_cookie.specs.Jar.{JarParts}
use Rattle.rkt_source.specs.declared.source.Gate.{Gate}
use Rattle.rkt_http.specs.declared.key.Key.{Key}
use Rattle.rkt_turn.specs.HandsBack.{HandsBack}
use Rattle.rkt_turn.specs.Shutdown.{Handle}

-- what a callback may change; C is the type of the cached values
pub record Kept (C : Type 0) : Type 0 where
  pub jar : JarParts
  -- in the order in which they came
  pub cache : List (Key × C)
  -- the wire's handle, with the word that it has seen
  pub shutdown : Handle

pub record Lent (C : Type 0) : Type 0 where
  pub kept : Kept C
  pub gate : Gate

-- what a callback may do to what it may change: originals and floor stay, the log and the cache grow, and the handle stays
-- one of its wire
pub record Grows {C : Type 0} (before after : Kept C) : Type 0 where
  pub originals : after.jar.originals ≡ before.jar.originals
  pub floor : after.jar.floor ≡ before.jar.floor
  pub log : IsFrontOf before.jar.log after.jar.log
  pub cache : IsFrontOf before.cache after.cache
  pub shutdown : HandsBack before.shutdown after.shutdown

-- what it is lent is as it was, or has grown under the same Gate
abbrev pub MayGrow : {C : Type 0} → Lent C → Lent C → Type 0
MayGrow before after = (after ≡ before) ⊎ (Grows before.kept after.kept × (after.gate ≡ before.gate))

-- the value that is cached under a key
abbrev pub cached_at : {C : Type 0} → Key → List (Key × C) → Option C
cached_at key cache = option_map (λ entry. entry.1) (find (λ entry. entry.0.0 == key.0) cache)

-- with another jar, and with another handle
abbrev pub with_jar : {C : Type 0} → Lent C → JarParts → Lent C
with_jar lent jar = record lent { kept = record lent.kept { jar = jar } }

abbrev pub with_shutdown : {C : Type 0} → Lent C → Handle → Lent C
with_shutdown lent shutdown = record lent { kept = record lent.kept { shutdown = shutdown } }

abbrev pub with_cache : {C : Type 0} → Lent C → List (Key × C) → Lent C
with_cache lent cache = record lent { kept = record lent.kept { cache = cache } }
