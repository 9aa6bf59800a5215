use Rattle.std.proofs.Common.{◌∙◌, ap, length}
use Rattle.std.specs.Fmt.{decimal}
use Rattle.rkt_http.specs.DefaultPage.{Page, json_text, json_page}
use Rattle.rkt_http.proofs.Pages.{length-json_page}
use Rattle.rkt_http.proofs.default_page.json.Goals as goal

pub returns-clause-page : goal.returns-clause-page
unfolding json_page
returns-clause-page c =
    c.from_string.ensures ∙ c.in_ok-page.ensures ∙ ap (λ (page : Page). json_text (decimal c.args.status.code) page.reason page.description) c.text_of-text.ensures

pub returns-clause-size : goal.returns-clause-size
unfolding json_page
returns-clause-size c = λ low high. ap length (c.from_string.ensures ∙ c.in_ok-page.ensures ∙ ap (λ (page : Page). json_text (decimal c.args.status.code) page.reason page.description) c.text_of-text.ensures) ∙ length-json_page c.args.status.code low high
