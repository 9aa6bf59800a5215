-- What may follow in a list of accepted media types.
use Rattle.std.specs.Prelude.{ℕ, ◌≡◌, ◌⊎◌, List, [], ◌∷◌, Bool, true, ◌==◌, ◌||◌, MatchBool}
use Rattle.rkt_grammar.specs.Bytes.{equals_sign}
use Rattle.rkt_grammar.specs.Grammar.{is_token_byte}
use Rattle.rkt_media.specs.Runs.{run, behind_run}
use Rattle.rkt_media.specs.Media.{Media, Parameter}
use Rattle.rkt_media.specs.MediaText.{is_blank, ByteThen, ParametersThen}
use Rattle.rkt_media.specs.MediaRests.{Any, WordOn, NameOn}
use Rattle.rkt_media.specs.AcceptText.{IsWeight, AreWeighed, CommaThen, ListsMedia}

-- the letter q, in any case
abbrev pub is_q : ℕ → Bool
is_q b = b == 113 || b == 81

-- the parameters of an entry that are still to come, and the media types behind it
abbrev pub Left : Type 0
Left = (ps : List Parameter) × List Media × AreWeighed ps

-- these parameters, and then these media types
abbrev pub Follow : List Parameter → List Media → List ℕ → Type 0
Follow ps ms text = ParametersThen ps (λ t. CommaThen (behind_run is_blank t) (ListsMedia ms)) text

abbrev pub Given : Left → List ℕ → Type 0
Given left text = Follow left.0 left.1 text

-- what may follow a value
abbrev pub Tail : List ℕ → Type 0
Tail = Any Left Given

-- a weight that goes on so
abbrev pub WeightOn : (List ℕ → Type 0) → List ℕ → Type 0
WeightOn L text = L (run is_token_byte text) × Tail (behind_run is_token_byte text)

-- a name that so far is q: it goes on, or a weight comes
abbrev pub WeightNameOn : List ℕ → Type 0
WeightNameOn text = WordOn (NameOn Tail) text ⊎ ByteThen equals_sign text (WeightOn IsWeight)

-- a parameter
abbrev pub ParameterOn : List ℕ → Type 0
ParameterOn [] = ⊥
ParameterOn (b ∷ bs) = MatchBool (is_q b) (WeightNameOn bs) ((is_token_byte b ≡ true) × NameOn Tail bs)
