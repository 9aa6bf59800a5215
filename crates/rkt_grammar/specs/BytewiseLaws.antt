-- What may follow, where each byte passes one test.
use Rattle.std.proofs.Common.{◌≡◌, ℕ, List, ◌∷◌, Bool, true, false, if◌then◌else◌, sym, ◌∙◌, ◌↔◌, Some, None, MatchOption}
use Rattle.std.proofs.lemmas.Bool.{false≢true}
use Rattle.rkt_grammar.specs.Grammar.{OnlyOf}

-- the law of a place that a byte leaves as it is
pub stays : {P : Type 0} (place : P) (test : ℕ → Bool) (b : ℕ) (rest : List ℕ) (t : Bool)
    → test b ≡ t
    → MatchOption (if t then Some place else None) (¬ OnlyOf test (b ∷ rest)) (λ next.
    OnlyOf test rest ↔ OnlyOf test (b ∷ rest))
stays place test b rest true is = (λ r. (is, r), λ r. r.1)
stays place test b rest false is = λ r. false≢true (sym is ∙ r.0)
