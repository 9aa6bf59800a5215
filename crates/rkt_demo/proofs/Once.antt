-- What is read of a request is one thing.
use Rattle.std.proofs.Common.{◌≡◌, ℕ, List, [], Bool, Option, Some, None, codes, unwrap_or, refl, ap, ◌∙◌, sym, subst}
use Rattle.std.proofs.lemmas.Option.{same_Some}
use Rattle.rkt_config.specs.Config.{IsConfig}
use Rattle.rkt_config.specs.declared.config.Config.{Config}
use Rattle.rkt_cookie.specs.Jar.{JarParts}
use Rattle.rkt_http.specs.Headers.{Group, first_value}
use Rattle.rkt_http.specs.Method.{method_of}
use Rattle.rkt_http.specs.Reading.{MaybeReadAs}
use Rattle.rkt_http.specs.declared.method.Method.TheVariants.{Get}
use Rattle.rkt_media.specs.Accept.{PrefersOne}
use Rattle.rkt_media.specs.AcceptText.{SpellsOneAccept}
use Rattle.rkt_media.specs.Media.{Media, is_kind}
use Rattle.rkt_media.specs.MediaText.{SpellsMedia, SpellsOneMedia}
use Rattle.rkt_message.specs.Response.{ResponseOf}
use Rattle.rkt_request.proofs.OneFormat.{one_format}
use Rattle.rkt_request.specs.Incoming.{IsIncoming, faults_of, root}
use Rattle.rkt_request.specs.Seen.{IsContentType, IsFormat, Seen}
use Rattle.rkt_request.specs.declared.bad.Bad.{Bad}
use Rattle.rkt_request.specs.declared.head.Head.{Head}
use Rattle.rkt_router.specs.Page.{IsDefaultPage, PrefersJson, page_of}
use Rattle.rkt_uri.specs.Host.{SpellsHost, SpellsOneHost}
use Rattle.rkt_uri.specs.Origin.{SaysWhatItSpells, Spells, Target}
use Rattle.rkt_uri.specs.declared.origin_place.Profile.TheVariants.{Request}
use Rattle.rkt_demo.specs.Sample.{IsSample, SampleTables}
use Rattle.rkt_script.specs.Words.{Table}

-- what a text is read as, where it spells one thing at most
read_once : {X : Type 0} (Spells : List ℕ → X → Type 0) → ((text : List ℕ) (a b : X) → Spells text a → Spells text b → a ≡ b)
    → (text : Option (List ℕ)) (a b : Option X) → MaybeReadAs Spells text a → MaybeReadAs Spells text b → a ≡ b
read_once Spells same None a b one other = one ∙ sym other
read_once Spells same (Some text) None None one other = refl
read_once Spells same (Some text) None (Some b) one other = absurd (one b other)
read_once Spells same (Some text) (Some a) None one other = absurd (other a one)
read_once Spells same (Some text) (Some a) (Some b) one other = ap Some (same text a b one other)

-- the laws of what texts spell
pub record Spelling : Type 0 where
  pub origins : SaysWhatItSpells
  pub hosts : SpellsOneHost
  pub media : SpellsOneMedia
  pub accept : SpellsOneAccept
  pub preferred : PrefersOne

spelled_once : Spelling → (text : List ℕ) (a b : Target) → Spells Request text a → Spells Request text b → a ≡ b
spelled_once laws text a b one other = sym (laws.origins Request text a one) ∙ laws.origins Request text b other

module _ {V : Type 0} (laws : Spelling) where
  -- what a request prefers is the format of the same request by GET
  format_of : (request : Seen V) (json : Bool) (prefers : PrefersJson request.headers json) → IsFormat (record request { method = Get }) (Some prefers.1)
  format_of request json prefers = (prefers.0, prefers.2, prefers.3)

  json_once : (request : Seen V) (json json' : Bool) → PrefersJson request.headers json → PrefersJson request.headers json' → json' ≡ json
  json_once request json json' prefers prefers' =
      let media : prefers'.1 ≡ prefers.1 = same_Some prefers'.1 prefers.1
      (one_format laws.media laws.accept laws.preferred (record request { method = Get }) (Some prefers'.1) (Some prefers.1) (format_of request json' prefers') (format_of request json prefers)) in
      prefers'.4 ∙ ap (is_kind (codes "application") (codes "json")) media ∙ sym prefers.4

  pub page_once : {S : Type 0} (code : ℕ) (request : Seen V) (page page' : ResponseOf S) → IsDefaultPage code request page → IsDefaultPage code request page' → page' ≡ page
  page_once code request page page' is is' = is'.2 ∙ ap (λ (json : Bool). page_of json code) (json_once request is.0 is'.0 is.1 is'.1) ∙ sym is.2

  -- the content type of a request
  pub content_type_once : (request : Seen V) (a b : Option Media) → IsContentType request.headers a → IsContentType request.headers b → a ≡ b
  content_type_once request a b = read_once SpellsMedia laws.media (first_value request.headers (codes "Content-Type")) a b

  seen_same : (one other : Seen V) → other.config ≡ one.config → other.managed ≡ one.managed → other.method ≡ one.method → other.uri ≡ one.uri → other.host ≡ one.host → other.remote ≡ one.remote → other.headers ≡ one.headers
      → other.route ≡ one.route → other ≡ one
  seen_same one other config managed method uri host remote headers route =
      let same : record { config = other.config; managed = other.managed; method = other.method; uri = other.uri; host = other.host; remote = other.remote; headers = other.headers; route = other.route } ≡ one =
      rw (config, managed, method, uri, host, remote, headers, route) refl in
      same

  -- what a head makes is one request with its faults, and no cookie was changed
  pub record IncomesAlike (request request' : Seen V) (faults faults' : List Bad) (jar jar' : JarParts) : Type 0 where
    pub request_is : request' ≡ request
    pub faults_are : faults' ≡ faults
    pub log : jar.log ≡ []
    pub log' : jar'.log ≡ []
    pub floor : jar.floor ≡ 0
    pub floor' : jar'.floor ≡ 0

  pub incomes_alike : (head : Head) (config : Config) (managed : List (ℕ × V)) (request request' : Seen V) (jar jar' : JarParts) (faults faults' : List Bad) → IsIncoming head config managed request jar faults
      → IsIncoming head config managed request' jar' faults' → IncomesAlike request request' faults faults' jar jar'
  incomes_alike head config managed request request' jar jar' faults faults' came came' =
      let target : came'.target ≡ came.target = read_once (Spells Request) (spelled_once laws) (Some head.target) came'.target came.target came'.target_read came.target_read in
      let headers : request'.headers ≡ request.headers = came'.headers ∙ sym came.headers in
      let host : request'.host ≡ request.host =
      read_once SpellsHost laws.hosts (first_value request.headers (codes "Host")) request'.host request.host
      (subst (λ (groups : List Group). MaybeReadAs SpellsHost (first_value groups (codes "Host")) request'.host) headers came'.host) came.host in
      record {
        request_is = seen_same request request' (came'.config_lent ∙ sym came.config_lent) (came'.managed_lent ∙ sym came.managed_lent) (came'.method ∙ sym came.method)
            (came'.uri ∙ ap (λ (t : Option Target). unwrap_or t root) target ∙ sym came.uri) host (came'.remote ∙ sym came.remote) headers (came'.route ∙ sym came.route);
        faults_are = came'.faults_are ∙ ap (faults_of (method_of head.method)) target ∙ sym came.faults_are;
        log = ap (λ (j : JarParts). j.log) came.cookies.added_are;
        log' = ap (λ (j : JarParts). j.log) came'.cookies.added_are;
        floor = ap (λ (j : JarParts). j.floor) came.cookies.added_are;
        floor' = ap (λ (j : JarParts). j.floor) came'.cookies.added_are;
      }

-- a table gives one configuration
config_once : (table : Table) (config config' : Config) → IsConfig table config → IsConfig table config' → config' ≡ config
config_once table config config' is is' =
    let same : record { ident = config'.ident; ip_header = config'.ip_header; limits = config'.limits; grace = config'.grace; mercy = config'.mercy; turns = config'.turns } ≡ config =
    rw (is'.ident ∙ sym is.ident, is'.ip_header ∙ sym is.ip_header, is'.limits ∙ sym is.limits, is'.grace ∙ sym is.grace, is'.mercy ∙ sym is.mercy, is'.turns ∙ sym is.turns) refl in
    same

-- the sample has one list of tables
pub tables_once : (table : Table) (tables tables' : SampleTables) → IsSample table tables → IsSample table tables' → tables' ≡ tables
tables_once table tables tables' is is' =
    let same : record { router = record { routes = tables'.router.routes; catchers = tables'.router.catchers }; fairings = tables'.fairings; config = tables'.config; managed = tables'.managed } ≡ tables =
    rw (is'.routes ∙ sym is.routes, is'.catchers ∙ sym is.catchers, is'.fairings ∙ sym is.fairings, config_once table tables.config tables'.config is.config is'.config, is'.managed ∙ sym is.managed) refl in
    same
