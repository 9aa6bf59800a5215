use Rattle.rkt_response.proofs.FlashJar.{regrown}
use Rattle.rkt_response.proofs.flash.FlashResponder.respond_to.Goals as goal

pub returns-in-Err-NoMemory-clause-grows : goal.returns-in-Err-NoMemory-clause-grows
returns-in-Err-NoMemory-clause-grows g c =
    regrown _ c.args.ctx.now c.respond_to.new.ctx _ _ _ _ _ _ c.cookies_mut.ensures.value c.in_ok-add_to.ensures.ok c.respond_to.ensures.grows
    c.changes-changes.ensures.count c.cookies.ensures c.cookies_mut-in-Err-NoMemory.ensures.value c.take_back.ensures
