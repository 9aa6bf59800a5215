-- What the default pages say, and their sizes.
use Rattle.std.proofs.Common.{◌≡◌, ℕ, ◌+◌, ◌*◌, ◌/◌, ◌<◌, ◌≤◌, List, length, refl, sym, ◌∙◌, ap, arith, length-append, Option, Some, None}
use Rattle.std.specs.Fmt.{decimal}
use Rattle.std.proofs.lemmas.Fmt.{decimal_digit, decimal_step}
use Rattle.rkt_http.specs.Table.{row_at}
use Rattle.rkt_http.specs.Status.{reasons, reason_of}
use Rattle.rkt_http.specs.DefaultPage.{said, unknown, descriptions, page_with, page_of, html_text, json_text, html_page, json_page, page_reason_of, description_of}

page_is : (code : ℕ) (description reason : Option (List ℕ)) → row_at code descriptions ≡ description → reason_of code ≡ reason → page_of code ≡ page_with description reason
unfolding page_of
page_is code description reason d r =
    ap (λ (x : Option (List ℕ)). page_with x (reason_of code)) d ∙ ap (λ (x : Option (List ℕ)). page_with description x) r

-- a code with a description and a reason has a page of its own
pub page_of_both : (code : ℕ) (description reason : List ℕ) → Some description ≡ row_at code descriptions → Some reason ≡ row_at code reasons → said reason description ≡ page_of code
page_of_both code description reason d r = sym (page_is code (Some description) (Some reason) (sym d) (sym r))

-- and any other code has that of an unknown error
pub page_undescribed : (code : ℕ) → None ≡ row_at code descriptions → unknown ≡ page_of code
page_undescribed code d = sym (page_is code None (reason_of code) (sym d) refl)

pub page_without_reason : (code : ℕ) (description : List ℕ) → Some description ≡ row_at code descriptions → None ≡ row_at code reasons → unknown ≡ page_of code
page_without_reason code description d r = sym (page_is code (Some description) None (sym d) (sym r))

-- a code of three digits
pub three_digits : (code : ℕ) → 100 ≤ code → code < 1000 → length (decimal code) ≡ 3
three_digits code low high =
    let first : length (decimal (code / 10 / 10)) ≡ 1 = ap length (decimal_digit (code / 10 / 10) (omega arith)) in
    let second : length (decimal (code / 10)) ≡ 2 = ap length (decimal_step (code / 10) (omega arith) (omega arith)) ∙ simp length-append (omega arith) in
    ap length (decimal_step code (omega arith) (omega arith)) ∙ simp length-append (omega arith)

html_size : (code reason description : List ℕ) → length code ≡ 3 → length (html_text code reason description) ≡ 375 + 2 * length reason + length description
html_size code reason description three = simp length-append (omega arith)

json_size : (code reason description : List ℕ) → length code ≡ 3 → length (json_text code reason description) ≡ 77 + length reason + length description
json_size code reason description three = simp length-append (omega arith)

pub length-html_page : (code : ℕ) → 100 ≤ code → code < 1000 → length (html_page code) ≡ 375 + 2 * length (page_reason_of code) + length (description_of code)
unfolding html_page
length-html_page code low high = html_size (decimal code) (page_reason_of code) (description_of code) (three_digits code low high)

pub length-json_page : (code : ℕ) → 100 ≤ code → code < 1000 → length (json_page code) ≡ 77 + length (page_reason_of code) + length (description_of code)
unfolding json_page
length-json_page code low high = json_size (decimal code) (page_reason_of code) (description_of code) (three_digits code low high)
