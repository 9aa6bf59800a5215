use Rattle.std.proofs.Common.{◌≡◌, ◌∙◌, Bor, Option, Some, None, is_some, ap, sym, refl}
use Rattle.std.specs.Option.{option_copied}
use Rattle.rkt_board.proofs.Core.{ended_once, closed_entry}
use Rattle.rkt_board.proofs.history.HistoryOf.entry.Goals as goal

pub returns-clause-once : goal.returns-clause-once
returns-clause-once g c = ended_once c.args.number c.args.self.now.events

some_copied : {E : Type 0} (found : Option (Bor E)) → is_some found ≡ is_some (option_copied found)
some_copied None = refl
some_copied (Some entry) = refl

pub returns-clause-closed : goal.returns-clause-closed
returns-clause-closed g c ordered closed =
    let there = closed_entry c.args.number c.args.self.now.events ordered closed in
    let same = some_copied c.find_entry.result ∙ ap is_some c.find_entry.ensures in
    (λ some. there.0 (sym same ∙ some), λ less. same ∙ there.1 less)
