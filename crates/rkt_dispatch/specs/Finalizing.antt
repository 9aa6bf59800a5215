-- What is done to a response before it is sent.
use Rattle.std.specs.Prelude.{ℕ, ◌==◌, ◌||◌, List, Bool, codes, fold, is_some, length, map, unwrap_or, if◌then◌else◌}
use Rattle.rkt_cookie.specs.Cookie.{Parts}
use Rattle.rkt_cookie.specs.Encoded.{encoded_text}
use Rattle.rkt_cookie.specs.Jar.{delta}
use Rattle.rkt_http.specs.Headers.{Field, added, group_of, removed}
use Rattle.rkt_message.specs.Body.{body_of, stripped}
use Rattle.rkt_message.specs.Response.{ResponseOf, with_body, with_headers}
use Rattle.rkt_message.specs.declared.content.Content.TheVariants as content
use Rattle.rkt_request.specs.Lent.{Kept}

-- the cookies that are pending, as they are sent at a moment
abbrev pub pending_cookies : {C : Type 0} → Kept C → ℕ → List Parts
pending_cookies kept moment = delta kept.jar.originals kept.jar.log kept.jar.floor moment

abbrev pub set_cookie : Parts → Field
set_cookie cookie = record { name = codes "Set-Cookie"; value = encoded_text cookie }

-- the floor at the end of the log: the changes so far are not pending any more
abbrev pub settled : {C : Type 0} → Kept C → Kept C
settled kept = record kept { jar = record kept.jar { floor = length kept.jar.log } }

-- a response with these cookies, each in a Set-Cookie header of its own
abbrev pub with_cookies : {S : Type 0} → ResponseOf S → List Parts → ResponseOf S
with_cookies response cookies = with_headers response (fold added response.headers (map set_cookie cookies))

-- a response with the server's name, unless this is empty or the response names a server itself
abbrev pub with_server : {S : Type 0} → List ℕ → ResponseOf S → ResponseOf S
with_server ident response =
    if (length ident == 0) || is_some (group_of response.headers (codes "Server")) then response
    else with_headers response (added response.headers (record { name = codes "Server"; value = ident }))

-- no content: without a length, and with no body of no size (RFC 9110, 15.3.5)
abbrev pub without_content : {S : Type 0} → ResponseOf S → ResponseOf S
without_content response = record response {
  headers = removed (removed response.headers (codes "Content-Length")) (codes "Transfer-Encoding");
  body = body_of content.UnsizedNone;
}

-- 204 has no content; an answer to HEAD, and 304, has no bytes, but the size that they would have (RFC 9110, 9.3.2 and
-- 15.4.5)
abbrev pub with_body_rule : {S : Type 0} → Bool → ResponseOf S → ResponseOf S
with_body_rule head response =
    if unwrap_or response.status 200 == 204 then without_content response
    else if head || (unwrap_or response.status 200 == 304) then with_body response (stripped response.body)
    else response
