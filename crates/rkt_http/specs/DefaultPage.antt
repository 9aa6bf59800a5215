-- The pages that a server sends by itself.
use Rattle.std.specs.Prelude.{ℕ, List, [], ◌∷◌, ◌++◌, Option, Some, None, codes}
use Rattle.std.specs.Fmt.{decimal}
use Rattle.rkt_http.specs.Table.{row_at}
use Rattle.rkt_http.specs.Status.{reason_of}
use Rattle.rkt_http.specs.declared.default_page.PageText.{PageText}

-- what a page says of a code
pub record Page : Type 0 where
  pub reason : List ℕ
  pub description : List ℕ

-- a page that says this
abbrev pub said : List ℕ → List ℕ → Page
said reason description = record { reason = reason; description = description }

-- what a page says, as lists
abbrev pub shown : PageText → Page
shown text = said text.reason.now text.description.now

-- each code that has a page of its own, with what the page describes
unfoldable pub descriptions : List (ℕ × List ℕ)
descriptions =
    (400, codes "The request could not be understood by the server due to malformed syntax.")
    ∷ (401, codes "The request requires user authentication.")
    ∷ (402, codes "The request could not be processed due to lack of payment.")
    ∷ (403, codes "The server refused to authorize the request.")
    ∷ (404, codes "The requested resource could not be found.")
    ∷ (405, codes "The request method is not supported for the requested resource.")
    ∷ (406, codes "The requested resource is capable of generating only content not acceptable according to the Accept headers sent in the request.")
    ∷ (407, codes "Authentication with the proxy is required.")
    ∷ (408, codes "The server timed out waiting for the request.")
    ∷ (409, codes "The request could not be processed because of a conflict in the request.")
    ∷ (410, codes "The resource requested is no longer available and will not be available again.")
    ∷ (411, codes "The request did not specify the length of its content, which is required by the requested resource.")
    ∷ (412, codes "The server does not meet one of the preconditions specified in the request.")
    ∷ (413, codes "The request is larger than the server is willing or able to process.")
    ∷ (414, codes "The URI provided was too long for the server to process.")
    ∷ (415, codes "The request entity has a media type which the server or resource does not support.")
    ∷ (416, codes "The portion of the requested file cannot be supplied by the server.")
    ∷ (417, codes "The server cannot meet the requirements of the Expect request-header field.")
    ∷ (418, codes "I was requested to brew coffee, and I am a teapot.")
    ∷ (421, codes "The server cannot produce a response for this request.")
    ∷ (422, codes "The request was well-formed but was unable to be followed due to semantic errors.")
    ∷ (426, codes "Switching to the protocol in the Upgrade header field is required.")
    ∷ (428, codes "The server requires the request to be conditional.")
    ∷ (429, codes "Too many requests have been received recently.")
    ∷ (431, codes "The server is unwilling to process the request because either an individual header field, or all the header fields collectively, are too large.")
    ∷ (451, codes "The requested resource is unavailable due to a legal demand to deny access to this resource.")
    ∷ (500, codes "The server encountered an internal error while processing this request.")
    ∷ (501, codes "The server either does not recognize the request method, or it lacks the ability to fulfill the request.")
    ∷ (503, codes "The server is currently unavailable.")
    ∷ (504, codes "The server did not receive a timely response from an upstream server.")
    ∷ (510, codes "Further extensions to the request are required for the server to fulfill it.")
    ∷ []

-- the page of a code that has none of its own
abbrev pub unknown : Page
unknown = said (codes "Unknown Error") (codes "An unknown error has occurred.")

-- the page with this description and this reason, where there are both
abbrev pub page_with : Option (List ℕ) → Option (List ℕ) → Page
page_with (Some description) (Some reason) = said reason description
page_with (Some description) None = unknown
page_with None reason = unknown

-- what the page of a code says
unfoldable pub page_of : ℕ → Page
page_of code = page_with (row_at code descriptions) (reason_of code)

abbrev pub page_reason_of : ℕ → List ℕ
page_reason_of code = (page_of code).reason

abbrev pub description_of : ℕ → List ℕ
description_of code = (page_of code).description

-- the HTML page with this code, reason and description
abbrev pub html_text : List ℕ → List ℕ → List ℕ → List ℕ
html_text code reason description =
    codes "<!DOCTYPE html>\n<html lang=\"en\">\n<head>\n    <meta charset=\"utf-8\">\n    <meta name=\"color-scheme\" content=\"light dark\">\n    <title>" ++ code ++ codes " " ++ reason ++ codes "</title>\n</head>\n<body align=\"center\">\n    <div role=\"main\" align=\"center\">\n        <h1>" ++ code ++ codes ": " ++ reason ++ codes "</h1>\n        <p>" ++ description ++ codes "</p>\n        <hr />\n    </div>\n    <div role=\"contentinfo\" align=\"center\">\n        <small>Rocket</small>\n    </div>\n</body>\n</html>"

-- the JSON page with this code, reason and description
abbrev pub json_text : List ℕ → List ℕ → List ℕ → List ℕ
json_text code reason description =
    codes "{\n  \"error\": {\n    \"code\": "
    ++ code
    ++ codes ",\n    \"reason\": \""
    ++ reason
    ++ codes "\",\n    \"description\": \""
    ++ description
    ++ codes "\"\n  }\n}"

-- the HTML page of a code
unfoldable pub html_page : ℕ → List ℕ
html_page code = html_text (decimal code) (page_reason_of code) (description_of code)

-- the JSON page of a code
unfoldable pub json_page : ℕ → List ℕ
json_page code = json_text (decimal code) (page_reason_of code) (description_of code)
