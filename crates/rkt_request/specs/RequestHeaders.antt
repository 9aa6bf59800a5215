-- What is kept beside the headers of a request: what the first of a name spells, and the media type of anything.
use Rattle.std.specs.Prelude.{◌≡◌, List, Option}
use Rattle.rkt_media.specs.Accept.{Weighed}
use Rattle.rkt_http.specs.Headers.{Group}
use Rattle.rkt_media.specs.Media.{Media, known_media}
use Rattle.rkt_media.specs.declared.known.Known.TheVariants.{Any}
use Rattle.rkt_request.specs.Seen.{IsAccept, IsContentType}

pub record IsRead (headers : List Group) (content_type : Option Media) (accept : Option (List Weighed))
    (any : Media) : Type 0 where
  pub content_type_read : IsContentType headers content_type
  pub accept_read : IsAccept headers accept
  pub any_is : any ≡ known_media Any
