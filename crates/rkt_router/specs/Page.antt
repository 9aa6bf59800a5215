-- The page that answers for a status where no catcher of the application does. S is the type of streams.
use Rattle.std.specs.Prelude.{◌≡◌, ℕ, List, [], ◌∷◌, Bool, Option, Some, codes, length, if◌then◌else◌}
use Rattle.rkt_media.specs.Accept.{Weighed}
use Rattle.rkt_http.specs.DefaultPage.{html_page, json_page}
use Rattle.rkt_http.specs.Headers.{Group}
use Rattle.rkt_media.specs.Media.{Media, is_kind}
use Rattle.rkt_request.specs.Seen.{Seen, IsAccept, IsAccepted}
use Rattle.rkt_message.specs.Body.{body_of}
use Rattle.rkt_message.specs.Response.{ResponseOf}
use Rattle.rkt_message.specs.declared.content.Content.TheVariants.{Sized}

-- a body of one type, with its size
abbrev pub typed : {S : Type 0} → ℕ → List ℕ → List ℕ → ResponseOf S
typed code content_type body = record {
  status = Some code;
  headers = record { name = codes "Content-Type"; values = content_type ∷ [] } ∷ [];
  body = body_of (Sized body (Some (length body)));
}

-- whether the media type that these headers prefer is JSON; where they accept none, they prefer any
abbrev pub PrefersJson : List Group → Bool → Type 0
PrefersJson headers json =
    (accept : Option (List Weighed)) × (media : Media)
    × IsAccept headers accept
    × IsAccepted accept media
    × (json ≡ is_kind (codes "application") (codes "json") media)

-- the page of a status, as JSON or as HTML
abbrev pub page_of : {S : Type 0} → Bool → ℕ → ResponseOf S
page_of json code =
    if json
    then typed code (codes "application/json") (json_page code)
    else typed code (codes "text/html; charset=utf-8") (html_page code)

-- the default page of a status, for this request
abbrev pub IsDefaultPage : {S V : Type 0} → ℕ → Seen V → ResponseOf S → Type 0
IsDefaultPage code request response = (json : Bool) × PrefersJson request.headers json × (response ≡ page_of json code)
