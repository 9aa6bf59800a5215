use Rattle.rkt_http.specs.DefaultPage.{descriptions}
use Rattle.rkt_http.proofs.default_page.own_description.Goals as goal

pub returns : goal.returns
unfolding descriptions
returns c = c.text_at.ensures
