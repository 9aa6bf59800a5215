-- What the program writes of the requests that it served.
use Rattle.std.specs.Prelude.{◌≡◌, ◌≢◌, ◌<◌, ◌≤◌, ◌⊎◌, ℕ, ◌+◌, ◌++◌, List, [], ◌∷◌, Bool, true, MatchBool, Option, Some, take}
use Rattle.std.specs.Option.{ForSome}
use Rattle.rkt_config.specs.Config.{IsConfig}
use Rattle.rkt_config.specs.declared.config.Config.{Config}
use Rattle.rkt_fairing.specs.Callbacks.{quiet}
use Rattle.rkt_http.specs.declared.status.Status.{Status}
use Rattle.rkt_life.specs.declared.no_fairing.NoFairing.{NoFairing}
use Rattle.rkt_exchange.specs.declared.ended.RunOf.{RunOf}
use Rattle.rkt_message.specs.Response.{ResponseOf}
use Rattle.rkt_message.specs.Sent.{Sent, has_head}
use Rattle.rkt_message.specs.declared.piece.Piece.{Piece}
use Rattle.rkt_sample.specs.Bodies.{SampleBody}
use Rattle.rkt_sample.specs.Calm.{IsCalm, IsWithinGrace}
use Rattle.rkt_sample.specs.Catching.{catch_calling}
use Rattle.rkt_sample.specs.Routing.{route_calling}
use Rattle.rkt_sample.specs.declared.catcher.SampleCatcher.{SampleCatcher}
use Rattle.rkt_sample.specs.declared.route.SampleRoute.{SampleRoute}
use Rattle.rkt_link.specs.Asked.{Asked}
use Rattle.rkt_link.specs.Clock.{IsWithin}
use Rattle.rkt_worker.specs.Lifecycle.{Lifecycle}
use Rattle.rkt_link.specs.Memory.{LinkInMemory, link_meaning}
use Rattle.rkt_worker.specs.Serving.{Serving, callbacks_of, gates_of, serving}
use Rattle.rkt_source.specs.Memory.{SourceInMemory, source_meaning}
use Rattle.rkt_demo.specs.Output.{cut_section, failed_section, last_line, sent_section, starved_section}
use Rattle.rkt_demo.specs.Sample.{IsSample, SampleTables}
use Rattle.rkt_script.specs.Script.{Offers}
use Rattle.rkt_script.specs.Stopping.{FollowsWord, IsCount, MayServe, NoneStops, StandBefore}
use Rattle.rkt_script.specs.Words.{Table}
use Rattle.rkt_script.specs.declared.script.ScriptRequest.{ScriptRequest}

-- the sample, served over links in memory in this window of moments, where `/stop` tells this word
abbrev pub served_in : ℕ
    → Option (ℕ × ℕ)
    → Serving ℕ SourceInMemory ℕ SourceInMemory NoFairing (Unit {0}) (Unit {0}) SampleRoute
    (Option (SampleBody SourceInMemory)) SampleCatcher Status LinkInMemory
served_in word window =
    serving quiet quiet (route_calling source_meaning word) catch_calling source_meaning source_meaning link_meaning window

-- what a link asks that never fails, with the head and the body of a request
abbrev pub asked_for : ScriptRequest → Asked
asked_for request = record { head = request.head; body = Some request.body; body_never_faults = true; never_faults = true }

-- what is asked leads by this run to this response, under Gates that may show a trip or not
abbrev pub LeadsTo : ℕ → Option (ℕ × ℕ) → SampleTables → Bool → Asked → RunOf ℕ → ResponseOf SourceInMemory → Type 0
LeadsTo word window tables shown asked run response =
    Lifecycle (callbacks_of (served_in word window) tables shown) tables source_meaning asked run response

-- an exchange of the sample, configured by a table, made this response to a request, at a moment of the window, under
-- Gates that may show a trip or not; `/stop` told this word in it, if it was called
pub record IsMade (table : Table) (word : ℕ) (window : Option (ℕ × ℕ)) (shown : Bool) (request : ScriptRequest)
    (response : ResponseOf SourceInMemory) : Type 0 where
  pub tables : SampleTables
  pub sample : IsSample table tables
  pub run : RunOf ℕ
  pub timed : IsWithin window run.moment
  pub lifecycle : LeadsTo word window tables shown (asked_for request) run response

-- a section tells of a response that was sent
pub record IsAnswered (k : ℕ) (response : ResponseOf SourceInMemory) (section : List ℕ) : Type 0 where
  pub pieces : List Piece
  pub sent : Sent source_meaning response pieces
  pub text : section ≡ sent_section k pieces

-- the section of the request with this number: of a response that an exchange made under Gates by which nothing is cut
-- off, sent where a head of it can be formed
pub record IsServed (table : Table) (word : ℕ) (window : Option (ℕ × ℕ)) (k : ℕ) (request : ScriptRequest)
    (section : List ℕ) : Type 0 where
  pub shown : Bool
  pub response : ResponseOf SourceInMemory
  pub made : IsMade table word window shown request response
  pub calm : IsCalm (gates_of window made.tables shown)
  pub told : MatchBool (has_head response) (IsAnswered k response section) (section ≡ failed_section k)

-- the section of a request whose exchange may have been shown a trip, since `/stop` has told its word, over a window as
-- long as the grace, so that a read of its body may have been refused: of a response that an exchange made under such
-- Gates, which was sent where a head of it can be formed
pub record IsWarned (table : Table) (word : ℕ) (window : Option (ℕ × ℕ)) (k : ℕ) (request : ScriptRequest)
    (section : List ℕ) : Type 0 where
  pub told : 0 < word
  pub response : ResponseOf SourceInMemory
  pub made : IsMade table word window true request response
  pub long : ForSome window (λ w. w.0 + made.tables.config.grace ≤ w.1)
  pub text : MatchBool (has_head response) (IsAnswered k response section) (section ≡ failed_section k)

-- the section of a request whose link was cut off: `/stop` has told its word, and so long a grace has gone by since
pub record IsCutShort (table : Table) (word : ℕ) (window : Option (ℕ × ℕ)) (k : ℕ) (section : List ℕ) : Type 0 where
  pub told : 0 < word
  pub tables : SampleTables
  pub sample : IsSample table tables
  pub long : ForSome window (λ w. w.0 + tables.config.grace ≤ w.1)
  pub text : section ≡ cut_section k

-- what a section tells: that its request was served, and that nothing was cut off or that a read of its body may have
-- been refused, or that its link was cut off, or that there was no memory
pub data Told : Type 0 where
  Served : Told
  Warned : Told
  CutShort : Told
  NoMemory : Told

-- the section of a request of which this is told
abbrev pub IsSection : Told → Table → ℕ → Option (ℕ × ℕ) → ℕ → ScriptRequest → List ℕ → Type 0
IsSection Told.Served table word window k request section = IsServed table word window k request section
IsSection Told.Warned table word window k request section = IsWarned table word window k request section
IsSection Told.CutShort table word window k request section = IsCutShort table word window k section
IsSection Told.NoMemory table word window k request section = section ≡ starved_section k

-- The sections of requests, from the number k on, of which this is told, and the last line. In the exchange before the first of
-- them `/stop` would have told this word.
abbrev pub ShownFrom : Table → Option (ℕ × ℕ) → (ℕ → Told) → ℕ → ℕ → List ScriptRequest → List ℕ → Type 0
ShownFrom table window told word k [] text = text ≡ last_line k
ShownFrom table window told word k (request ∷ requests) text =
    (section : List ℕ) × (rest : List ℕ) × (next : ℕ)
    × FollowsWord word request next
    × IsSection (told k) table next window k request section
    × ShownFrom table window told next (k + 1) requests rest
    × (text ≡ section ++ rest)

-- the text tells this of the first n requests of a script, served with the configuration of this table in this window
-- of moments
abbrev pub Shown : Table → Option (ℕ × ℕ) → (ℕ → Told) → ℕ → List ℕ → List ℕ → Type 0
Shown table window told n script text =
    (requests : List ScriptRequest) × Offers script requests × ShownFrom table window told 0 0 (take n requests) text

-- the text tells of as many of these requests as may be served
abbrev pub ShowsRequests : Table → Option (ℕ × ℕ) → List ScriptRequest → List ℕ → Type 0
ShowsRequests table window requests text =
    (n : ℕ) × (told : ℕ → Told) × MayServe requests n × ShownFrom table window told 0 0 (take n requests) text

-- the text tells of as many requests of a script as may be served
abbrev pub ShowsScript : Table → Option (ℕ × ℕ) → List ℕ → List ℕ → Type 0
ShowsScript table window script text =
    (n : ℕ) × (told : ℕ → Told) × IsCount script n × Shown table window told n script text

-- so many requests of one script are shown as one text at most, whatever the moments, where the same is told of each,
-- and of none from the first one for `/stop` on that a read of its body may have been refused
abbrev pub ShownOnce : Type 0
ShownOnce = (table : Table) (window window' : Option (ℕ × ℕ)) (told : ℕ → Told) (n before : ℕ) (script text text' : List ℕ)
    (requests : List ScriptRequest) → Offers script requests → StandBefore requests before
    → ((k : ℕ) → before ≤ k → k < n → told k ≢ Told.Warned)
    → Shown table window told n script text → Shown table window' told n script text' → text' ≡ text

-- the moments of a window are all within the grace that a table configures
abbrev pub IsShort : Table → Option (ℕ × ℕ) → Type 0
IsShort table window = (config : Config) → IsConfig table config → IsWithinGrace window (Some (config.grace, config.mercy))

-- of none of the first n requests it is told that there was no memory
abbrev pub NoneStarved : ℕ → (ℕ → Told) → Type 0
NoneStarved n told = (k : ℕ) → k < n → told k ≢ Told.NoMemory

-- Over windows whose moments are all within the grace so many requests of one script are shown as one text at most,
-- where there was memory for all of them.
abbrev pub PrintedOnce : Type 0
PrintedOnce =
    (table : Table) (window window' : Option (ℕ × ℕ)) (told told' : ℕ → Told) (n : ℕ) (script text text' : List ℕ)
    → IsShort table window
    → IsShort table window'
    → NoneStarved n told
    → NoneStarved n told'
    → Shown table window told n script text
    → Shown table window' told' n script text'
    → text' ≡ text

-- Whatever the clocks, so many requests of one script are shown as one text at most where none of them is for `/stop`, and
-- there was memory for all of them.
abbrev pub PrintedAlone : Type 0
PrintedAlone = (table : Table) (window window' : Option (ℕ × ℕ)) (told told' : ℕ → Told) (n : ℕ) (script text text' : List ℕ)
    (requests : List ScriptRequest) → Offers script requests → NoneStops (take n requests)
    → NoneStarved n told → NoneStarved n told'
    → Shown table window told n script text → Shown table window' told' n script text' → text' ≡ text
