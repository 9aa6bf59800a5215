use Rattle.cases_exchange.proofs.page.acted.Goals as goal

pub returns-in-Echoes-clause-ends : goal.returns-in-Echoes-clause-ends
returns-in-Echoes-clause-ends c = c.spent.ensures c.args.body
