-- Where a reader stands in an absolute URI, and what may follow.
use Rattle.std.specs.Prelude.{ℕ, List, [], ◌∷◌, Bool, true, false, ◌==◌, if◌then◌else◌, ◌⊎◌, Option, Some, None}
use Rattle.std.specs.Option.{option_map}
use Rattle.std.specs.Char.{is_ascii_alphabetic}
use Rattle.rkt_grammar.specs.Bytes.{slash, question_mark, at_sign, colon}
use Rattle.rkt_grammar.specs.Grammar.{OnlyOf, IsFrontOf}
use Rattle.rkt_uri.specs.Words.{Then}
use Rattle.rkt_uri.specs.Origin.{is_path_byte}
use Rattle.rkt_uri.specs.OriginPlaces as origin
use Rattle.rkt_uri.specs.Host.{MaybeHost}
use Rattle.rkt_uri.specs.HostPlaces as host
use Rattle.rkt_uri.specs.HostPlaces.{rest_with}
use Rattle.rkt_uri.specs.Absolute.{is_scheme_byte, is_user_byte, UserThen, MaybeOrigin, Located, IsHierarchy, SchemeRest, AbsoluteForm}
use Rattle.rkt_uri.specs.declared.origin_place.Profile.TheVariants.{Request}
use Rattle.rkt_uri.specs.declared.origin_place.OriginPlace.TheVariants.{InPath, InQuery}
use Rattle.rkt_uri.specs.declared.host_place.HostPlace.{HostPlace}
use Rattle.rkt_uri.specs.declared.host_place.HostPlace.TheVariants.{MaybeEmpty}
use Rattle.rkt_uri.specs.declared.absolute_place.AbsolutePlace.{AbsolutePlace}
use Rattle.rkt_uri.specs.declared.absolute_place.AbsolutePlace.TheVariants.{Start, Scheme, Hierarchy, Slash, Path, Front, User, Host, Origin}

-- behind a host and its port
abbrev pub tail_after : ℕ → Option AbsolutePlace
tail_after b =
    if b == slash
    then Some (Origin (InPath Request))
    else (if b == question_mark then Some (Origin (InQuery Request)) else None)

-- in a host, which goes on at this place, or else may end
abbrev pub host_after : Option HostPlace → Bool → ℕ → Option AbsolutePlace
host_after (Some next) ends b = Some (Host next)
host_after None ends b = if ends then tail_after b else None

-- in what may be a host as well as a user part
abbrev pub front_after : Option HostPlace → Bool → ℕ → Option AbsolutePlace
front_after (Some next) ends b = if is_user_byte b then Some (Front next) else Some (Host next)
front_after None ends b =
    if is_user_byte b
    then Some User
    else (if b == at_sign then Some (Host MaybeEmpty) else (if ends then tail_after b else None))

abbrev pub place_after : AbsolutePlace → ℕ → Option AbsolutePlace
place_after Start b = if is_ascii_alphabetic b then Some Scheme else None
place_after Scheme b = if b == colon then Some Hierarchy else (if is_scheme_byte b then Some Scheme else None)
place_after Hierarchy b = if b == slash then Some Slash else (if is_path_byte Request b then Some Path else None)
place_after Slash b = if b == slash then Some (Front MaybeEmpty) else (if is_path_byte Request b then Some Path else None)
place_after Path b = if is_path_byte Request b then Some Path else None
place_after (Front place) b = front_after (host.place_after place b) (host.may_end place) b
place_after User b = if b == at_sign then Some (Host MaybeEmpty) else (if is_user_byte b then Some User else None)
place_after (Host place) b = host_after (host.place_after place b) (host.may_end place) b
place_after (Origin place) b = option_map Origin (origin.place_after place b)

abbrev pub may_end : AbsolutePlace → Bool
may_end Start = false
may_end Scheme = false
may_end Hierarchy = true
may_end Slash = true
may_end Path = true
may_end (Front place) = host.may_end place
may_end User = false
may_end (Host place) = host.may_end place
may_end (Origin place) = origin.may_end place

-- the rest of a user part, and what is behind it
abbrev pub UserRest : List ℕ → Type 0
UserRest text = UserThen (MaybeHost MaybeOrigin) text

abbrev pub rest_of : AbsolutePlace → List ℕ → Type 0
rest_of Start text = AbsoluteForm text
rest_of Scheme text = SchemeRest text
rest_of Hierarchy text = IsHierarchy text
rest_of Slash text = Then slash Located text ⊎ (OnlyOf (is_path_byte Request) text × ¬ IsFrontOf (slash ∷ []) text)
rest_of Path text = OnlyOf (is_path_byte Request) text
rest_of (Front place) text = rest_with MaybeOrigin place text ⊎ UserRest text
rest_of User text = UserRest text
rest_of (Host place) text = rest_with MaybeOrigin place text
rest_of (Origin place) text = origin.rest_of place text

-- what may follow at the next place, if there is one
abbrev pub next_of : Option AbsolutePlace → List ℕ → Type 0
next_of None text = ⊥
next_of (Some place) text = rest_of place text
