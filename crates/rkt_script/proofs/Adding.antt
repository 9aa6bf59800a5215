-- What each kind of line makes of the requests before it.
use Rattle.std.proofs.Common.{suc, ◌≡◌, ◌<◌, ◌-◌, ◌++◌, ℕ, List, [], ◌∷◌, true, length, ap, ◌∙◌, sym, subst, arith}
use Rattle.std.specs.Prelude.{slice_index_or, slice_set}
use Rattle.rkt_script.specs.Script.{Adds, IsHeader, IsPiece, IsRequest, asking, is_shutdown, is_skipped, with_header, with_piece}
use Rattle.rkt_script.specs.declared.script.ScriptRequest.{ScriptRequest}

-- a list that ends with this one, and ends with another where that is put in its place
record Ends (requests set : List ScriptRequest) (last new : ScriptRequest) : Type 0 where
  before : List ScriptRequest
  is : requests ≡ before ++ last ∷ []
  set_is : set ≡ before ++ new ∷ []

ends_so : (requests : List ScriptRequest) (last new : ScriptRequest) → 0 < length requests → last ≡ slice_index_or requests (length requests - 1) last → Ends requests (slice_set requests (length requests - 1) new) last new
ends_so [] last new some is = absurd (omega (arith, some))
ends_so (request ∷ []) last new some is =
    let none : length (request ∷ []) - 1 ≡ 0 = omega arith in
    let same : last ≡ request = subst (λ (n : ℕ). last ≡ slice_index_or (request ∷ []) n last) none is in
    record { before = []; is = ap (λ (r : ScriptRequest). r ∷ []) (sym same); set_is = ap (λ (n : ℕ). slice_set (request ∷ []) n new) none }
ends_so (request ∷ other ∷ others) last new some is =
    let step : length (request ∷ other ∷ others) - 1 ≡ suc (length (other ∷ others) - 1) = omega arith in
    let there = subst (λ (n : ℕ). last ≡ slice_index_or (request ∷ other ∷ others) n last) step is in
    let later = ends_so (other ∷ others) last new (omega arith) there in
    record {
      before = request ∷ later.before;
      is = ap (λ (rs : List ScriptRequest). request ∷ rs) later.is;
      set_is = ap (λ (n : ℕ). slice_set (request ∷ other ∷ others) n new) step ∙ ap (λ (rs : List ScriptRequest). request ∷ rs) later.set_is;
    }

module _ (requests : List ScriptRequest) (content : List ℕ) (count : ℕ) (last new : ScriptRequest) (same : count ≡ length requests) (some : 0 < count) (is : last ≡ slice_index_or requests (count - 1) last) where
  ends : Ends requests (slice_set requests (count - 1) new) last new
  ends = subst (λ (n : ℕ). Ends requests (slice_set requests (n - 1) new) last new) (sym same)
      (ends_so requests last new (omega (arith, same, some)) (subst (λ (n : ℕ). last ≡ slice_index_or requests (n - 1) last) same is))

  pub header_adds : (name value : List ℕ) → new ≡ with_header name value last → IsHeader content name value → Adds requests content (slice_set requests (count - 1) new)
  header_adds name value made header =
      subst (Adds requests content) (sym (ends.set_is ∙ ap (λ (r : ScriptRequest). ends.before ++ r ∷ []) made))
      (subst (λ (rs : List ScriptRequest). Adds rs content (ends.before ++ with_header name value last ∷ [])) (sym ends.is) (Adds.header ends.before last name value header))

  pub piece_adds : (bytes : List ℕ) → new ≡ with_piece bytes last → IsPiece content bytes → Adds requests content (slice_set requests (count - 1) new)
  piece_adds bytes made piece =
      subst (Adds requests content) (sym (ends.set_is ∙ ap (λ (r : ScriptRequest). ends.before ++ r ∷ []) made))
      (subst (λ (rs : List ScriptRequest). Adds rs content (ends.before ++ with_piece bytes last ∷ [])) (sym ends.is) (Adds.piece ends.before last bytes piece))

pub request_adds : (requests : List ScriptRequest) (content method target : List ℕ) (after : List ScriptRequest) → IsRequest content method target → after ≡ requests ++ asking method target ∷ [] → Adds requests content after
request_adds requests content method target after request is = subst (Adds requests content) (sym is) (Adds.request method target request)

pub shutdown_adds : (requests : List ScriptRequest) (content : List ℕ) (after : List ScriptRequest) → is_shutdown content ≡ true → after ≡ [] → Adds requests content after
shutdown_adds requests content after shutdown is = subst (Adds requests content) (sym is) (Adds.shutdown shutdown)

pub skipped_adds : (requests : List ScriptRequest) (content : List ℕ) → is_skipped content ≡ true → Adds requests content requests
skipped_adds requests content skipped = Adds.skipped skipped
