-- The URI of a route.
use Rattle.std.specs.Prelude.{◌≡◌, ◌⊎◌, ℕ, ◌+◌, ◌*◌, ℤ, pos, ◌-ℤ◌, List, [], ◌∷◌, ◌++◌, codes, not, None, filter, map, unwrap_or}
use Rattle.std.specs.List.{before_first, after_first}
use Rattle.rkt_grammar.specs.Grammar.{LeavesAt}
use Rattle.rkt_uri.specs.Origin.{Target, IsTarget, IsOrigin, Spells, is_equals, normalized, pieces, raw_segments_of}
use Rattle.rkt_uri.specs.declared.origin_place.Profile.TheVariants.{Request, Route}
use Rattle.rkt_route.specs.Segment.{segment_of, color_of, weight}
use Rattle.rkt_route.specs.declared.segment.Segment.{Segment}

-- where a route is mounted: its base, its path and query as they were written, and both together; each in normal form
pub record MountedUri : Type 0 where
  pub base : Target
  pub unmounted : Target
  pub origin : Target

-- the base `/`
abbrev pub root : Target
root = record { path = codes "/"; query = None }

-- a path alone
abbrev pub path_alone : Target → Target
path_alone target = record { path = target.path; query = None }

-- a base, without its query, and what is mounted there
abbrev pub mounted_at : Target → Target → MountedUri
mounted_at base uri = record {
  base = normalized (path_alone base);
  unmounted = normalized uri;
  origin = normalized (record { path = base.path ++ uri.path; query = uri.query });
}

-- the texts of a base and of what is mounted there spell this
pub record SpellsMounted (base uri : List ℕ) (mounted : MountedUri) : Type 0 where
  pub base_target : Target
  pub uri_target : Target
  pub base_spelled : Spells Request base base_target
  pub uri_spelled : Spells Route uri uri_target
  pub joined : mounted ≡ mounted_at base_target uri_target

-- the text of a base leaves its grammar at this place, or that of what is mounted there does and the base is one
abbrev pub LeavesMountedAt : List ℕ → List ℕ → ℕ → Type 0
LeavesMountedAt base uri at = LeavesAt (IsOrigin Request) base at ⊎ (IsOrigin Request base × LeavesAt (IsOrigin Route) uri at)

-- the same path, mounted at the base that a text spells
pub record IsRebased (uri : MountedUri) (text : List ℕ) (moved : MountedUri) : Type 0 where
  pub base : Target
  pub spelled : Spells Request text base
  pub joined : moved ≡ mounted_at base uri.unmounted

-- the segments of a path
abbrev pub path_segments : Target → List Segment
path_segments origin = map segment_of (raw_segments_of origin)

-- the segments of a query: its pieces that are not empty
abbrev pub query_segments : Target → List Segment
query_segments origin = map segment_of (pieces 38 (unwrap_or origin.query []))

-- a name and a value as they stand, cut at the first equals sign
abbrev pub raw_field : List ℕ → List ℕ × List ℕ
raw_field piece = (before_first is_equals piece, after_first is_equals piece)

-- the fields of a query that are not dynamic
abbrev pub static_fields : Target → List (List ℕ × List ℕ)
static_fields origin = map (λ s. raw_field s.value) (filter (λ s. not s.dynamic) (query_segments origin))

-- what the segments of a query weigh: nothing where there are none
abbrev pub query_weight : List Segment → ℕ
query_weight [] = 0
query_weight (segment ∷ segments) = weight (color_of (segment ∷ segments))

-- the rank of a route that is given none: the more static its path, and then its query, the lower
abbrev pub default_rank : Target → ℤ
default_rank origin = pos 3 -ℤ pos (4 * weight (color_of (path_segments origin)) + query_weight (query_segments origin))

-- the base and what is mounted there have spellings, and the parts that are kept beside the URI are those of it
pub record IsRead (uri : MountedUri) (segments : List Segment) (fields : List (List ℕ × List ℕ)) (rank : ℤ) : Type 0 where
  pub base_fits : IsTarget Request uri.base
  pub unmounted_fits : IsTarget Route uri.unmounted
  pub segments_are : segments ≡ path_segments uri.origin
  pub fields_are : fields ≡ static_fields uri.origin
  pub rank_is : rank ≡ default_rank uri.origin
