use Rattle.std.proofs.Common.{◌++◌, sym, ap, ◌∙◌, subst}
use Rattle.rkt_cookie.specs.Encoded.{encoded_text}
use Rattle.rkt_cookie.specs.ReadBack.{read_back}
use Rattle.rkt_cookie.specs.Reading.{Reads}
use Rattle.rkt_cookie.proofs.cookie.Cookie.encoded.Goals as goal

pub returns-clause-printed : goal.returns-clause-printed
returns-clause-printed c = c.in_ok-push_to.ensures.printed ∙ ap (λ before. before ++ encoded_text c.args.self.now) c.new-text.ensures.bytes

pub returns-clause-read_again : goal.returns-clause-read_again
returns-clause-read_again c = λ printable. subst (λ text. Reads text (read_back c.args.self.now)) (sym (returns-clause-printed c)) (c.in_ok-push_to.ensures.read_again printable)
