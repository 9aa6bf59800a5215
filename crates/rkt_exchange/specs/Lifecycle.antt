-- One exchange, from what came in to its response.
use Rattle.std.specs.Prelude.{◌≡◌, ◌++◌, ℕ, List, [], ◌∷◌}
use Rattle.rkt_router.specs.Callbacks.{RequestAt}
use Rattle.rkt_fairing.specs.Callbacks.{ResponseAt}
use Rattle.rkt_request.specs.declared.bad.Bad.{Bad}
use Rattle.rkt_routing.specs.Beginning.{Beginning}
use Rattle.rkt_routing.specs.Found.{Found}
use Rattle.rkt_routing.specs.Routed.{Finds, Routes, is_head}
use Rattle.rkt_routing.specs.declared.run.Call.{Call}
use Rattle.rkt_exchange.specs.Answers.{Leads as AnswersLead, Outgoing}
use Rattle.rkt_exchange.specs.Asks.{Leads as AsksLead}
use Rattle.rkt_exchange.specs.Beginning.{Over}
use Rattle.rkt_dispatch.specs.Finalizing.{with_body_rule}
use Rattle.rkt_exchange.specs.Finalized.{finalized}
use Rattle.rkt_dispatch.specs.Overridden.{Overridden}
use Rattle.rkt_exchange.specs.Relations.{Relations, callbacks}
use Rattle.rkt_exchange.specs.Tables.{SeenTables, table_of}

-- the body is peeked at, and a form's field may set the method
pub record Opens {V B C S F FTask GTask H HTask K KTask : Type 0} (rel : Relations V B C S F FTask GTask H HTask K KTask)
    (first opened : RequestAt V B C) : Type 0 where
  pub front : List ℕ
  pub peeks : rel.peeks first.body front opened.body
  pub request : Overridden first.request front opened.request
  pub kept : opened.kept ≡ first.kept

module _ {V B C S F FTask GTask H HTask K KTask N : Type 0} (rel : Relations V B C S F FTask GTask H HTask K KTask)
    (tables : SeenTables F H K N V) where
  -- the fairings are called for a request, in order
  abbrev pub Preprocessed : RequestAt V B C → List Call → RequestAt V B C → Type 0
  Preprocessed = AsksLead rel.requests rel.gates tables.fairings tables.config.turns

  -- a request is routed to a response
  abbrev pub Routed : List Bad → RequestAt V B C → List Call → Found V C S → Type 0
  Routed faults at calls found = Routes (callbacks rel) (table_of tables) faults at calls (Finds found)

  -- the fairings are called for a response, in order
  abbrev pub Finalized : Outgoing V C S → List Call → ResponseAt S C → Type 0
  Finalized = AnswersLead rel.responses rel.gates tables.fairings tables.config.turns

  -- a request that is not bad: it gets its method, fairings are called for it, it is routed, its response gets its
  -- cookies and the server's name, fairings are called for this, and the body rule is kept, as the method is before
  -- routing
  pub record Lives (first : RequestAt V B C) (calls : List Call) (over : Over C S) : Type 0 where
    pub opened : RequestAt V B C
    pub asked : RequestAt V B C
    pub found : Found V C S
    pub left : ResponseAt S C
    pub before : List Call
    pub between : List Call
    pub behind : List Call
    pub calls_are : calls ≡ before ++ between ++ behind
    pub opens : Opens rel first opened
    pub asks : Preprocessed opened before asked
    pub finds : Routed [] asked between found
    pub answers : Finalized (finalized tables.config.ident over.moment found) behind left
    pub kept : over.kept ≡ left.kept
    pub response : over.response ≡ with_body_rule (is_head asked.request.method) left.response

  -- a bad one: it is answered for its faults, and nothing is done to the response
  pub record Refuses (faults : List Bad) (first : RequestAt V B C) (calls : List Call) (over : Over C S) : Type 0 where
    pub found : Found V C S
    pub finds : Routed faults first calls found
    pub kept : over.kept ≡ found.kept
    pub response : over.response ≡ found.response

  -- from what came in, these calls lead to this end
  abbrev pub Ends : List Bad → RequestAt V B C → List Call → Over C S → Type 0
  Ends [] = Lives
  Ends (fault ∷ faults) = Refuses (fault ∷ faults)

  abbrev pub Lifecycle : Beginning V B C → List Call → Over C S → Type 0
  Lifecycle first = Ends first.faults first.at
