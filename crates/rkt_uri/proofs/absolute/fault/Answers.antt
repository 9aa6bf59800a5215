use Rattle.std.proofs.Common.{ℕ, Option, Some, None, IfNone, IfSome, List}
use Rattle.rkt_grammar.specs.Grammar.{LeavesAt}
use Rattle.rkt_uri.specs.Absolute.{AbsoluteForm, IsAbsolute}
use Rattle.rkt_uri.proofs.Absolutes.{absolute_form, leaves_absolute}
use Rattle.rkt_uri.proofs.absolute.fault.Goals as goal

no_fault : (text : List ℕ) (found : Option ℕ) → IfNone found (AbsoluteForm text) → IfNone found (IsAbsolute text)
no_fault text None form = (absolute_form text).0 form
no_fault text (Some at) form = tt

a_fault : (text : List ℕ) (found : Option ℕ) → IfSome found (LeavesAt AbsoluteForm text) → IfSome found (LeavesAt IsAbsolute text)
a_fault text None leaves = tt
a_fault text (Some at) leaves = leaves_absolute text at leaves

pub returns-clause-none : goal.returns-clause-none
returns-clause-none c = no_fault c.args.text.now c.first_fault.result c.first_fault.ensures.none

pub returns-clause-some : goal.returns-clause-some
returns-clause-some c = a_fault c.args.text.now c.first_fault.result c.first_fault.ensures.some
