use Rattle.rkt_config.proofs.Fronts.{front_at_end, front_by_next}
use Rattle.rkt_config.proofs.joined.Joined.has_front.Goals as goal

pub returns-in_default : goal.returns-in_default
returns-in_default c =
    front_at_end c.args.front.now c.as_bytes-byte-items.result.now _ _ c.loop-byte.byte-index c.as_bytes-byte-items.ensures.value c.loop-byte.invariant c.in_default.ensures c.loop-byte-test.true

pub returns-in-Some-next_byte : goal.returns-in-Some-next_byte
returns-in-Some-next_byte c =
    front_by_next c.args.front.now c.as_bytes-byte-items.result.now _ _ _ c.loop-byte.byte-index c.in-Some-next_byte.other c.as_bytes-byte-items.ensures.value c.loop-byte.invariant c.in-Some-next_byte.ensures c.loop-byte-test.false
