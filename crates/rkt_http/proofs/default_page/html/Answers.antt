use Rattle.std.proofs.Common.{◌∙◌, ap, length}
use Rattle.std.specs.Fmt.{decimal}
use Rattle.rkt_http.specs.DefaultPage.{Page, html_text, html_page}
use Rattle.rkt_http.proofs.Pages.{length-html_page}
use Rattle.rkt_http.proofs.default_page.html.Goals as goal

pub returns-clause-page : goal.returns-clause-page
unfolding html_page
returns-clause-page c =
    c.from_string.ensures ∙ c.in_ok-page.ensures ∙ ap (λ (page : Page). html_text (decimal c.args.status.code) page.reason page.description) c.text_of-text.ensures

pub returns-clause-size : goal.returns-clause-size
unfolding html_page
returns-clause-size c = λ low high. ap length (c.from_string.ensures ∙ c.in_ok-page.ensures ∙ ap (λ (page : Page). html_text (decimal c.args.status.code) page.reason page.description) c.text_of-text.ensures) ∙ length-html_page c.args.status.code low high
