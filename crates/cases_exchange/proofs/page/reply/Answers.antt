use Rattle.cases_exchange.proofs.page.reply.Goals as goal

pub returns-in_default : goal.returns-in_default
returns-in_default c = c.spent.ensures c.args.body
