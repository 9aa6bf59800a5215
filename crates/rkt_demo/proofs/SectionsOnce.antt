-- So many requests of a script are shown as one text.
use Rattle.std.proofs.Common.{suc, ◌≡◌, ◌≢◌, ◌<◌, ◌≤◌, ◌++◌, ◌+◌, ◌⊎◌, inl, inr, ℕ, List, [], ◌∷◌, Bool, true, false, ltb, Option, Some, None, length, map, flat_map, min, slice_get, take, refl, ap, ◌∙◌, sym, subst, append-nil, arith}
use borrow.Author.Tests.{ltb-true, ltb-false}
use Rattle.std.proofs.lemmas.List.{length-take}
use Rattle.std.proofs.lemmas.Option.{slice_get_within}
use Rattle.std.specs.Prelude.{MatchBool}
use Rattle.std.specs.List.{concat}
use Rattle.std.specs.Option.{ForSome}
use Rattle.rkt_message.specs.Body.{left_of}
use Rattle.rkt_message.specs.Sent.{Sent, has_head, head_of}
use Rattle.rkt_message.specs.declared.content.Content.{Content}
use Rattle.rkt_message.specs.declared.content.Content.TheVariants as content
use Rattle.rkt_message.specs.declared.piece.Piece.{Piece}
use Rattle.rkt_message.specs.declared.piece.Piece.TheVariants.{Chunk, End}
use Rattle.rkt_sample.specs.Calm.{IsWithinGrace}
use Rattle.rkt_source.specs.Memory.{SourceInMemory, source_meaning}
use Rattle.rkt_demo.proofs.LivesOnce.{made_once}
use Rattle.rkt_demo.proofs.Once.{Spelling}
use Rattle.rkt_demo.proofs.Places.{front_at}
use Rattle.rkt_demo.proofs.Stops.{none_at}
use Rattle.rkt_demo.proofs.SampleCalls.{IsAtHand, Response}
use Rattle.rkt_demo.specs.Output.{answered_section, body_bytes, failed_section, head_text, sent_section}
use Rattle.rkt_script.proofs.Offered.{offers_one}
use Rattle.rkt_script.specs.Script.{Offers}
use Rattle.rkt_demo.specs.Shown.{IsAnswered, IsSection, IsServed, IsShort, NoneStarved, PrintedAlone, PrintedOnce, Shown, ShownFrom, ShownOnce, Told}
use Rattle.rkt_script.specs.Stopping.{FollowsWord, NoneStops, StandBefore}
use Rattle.rkt_script.specs.Words.{Table}
use Rattle.rkt_script.specs.declared.script.ScriptRequest.{ScriptRequest}

heads_of_chunks : (chunks : List (List ℕ)) → flat_map head_text (map Chunk chunks ++ End ∷ []) ≡ []
heads_of_chunks [] = refl
heads_of_chunks (c ∷ cs) = heads_of_chunks cs

bodies_of_chunks : (chunks : List (List ℕ)) → flat_map body_bytes (map Chunk chunks ++ End ∷ []) ≡ concat chunks
bodies_of_chunks [] = refl
bodies_of_chunks (c ∷ cs) = ap (λ (l : List ℕ). c ++ l) (bodies_of_chunks cs)

-- however a body is cut, its section is one text
section_of : (k : ℕ) (response : Response) (body : List ℕ) (pieces : List Piece) → left_of source_meaning response.body.content ≡ Some body → Sent source_meaning response pieces
    → sent_section k pieces ≡ answered_section k (head_text (head_of response)) body
section_of k response body pieces left sent =
    let head : Piece = head_of response in
    let chunks : List (List ℕ) = sent.2.0 in
    let is : pieces ≡ head ∷ (map Chunk chunks ++ End ∷ []) = sent.3 ∙ ap (λ (rest : List Piece). head ∷ rest) sent.2.3 in
    let heads : flat_map head_text pieces ≡ head_text head = ap (flat_map head_text) is ∙ ap (λ (l : List ℕ). head_text head ++ l) (heads_of_chunks chunks) ∙ append-nil (head_text head) in
    let bytes : flat_map body_bytes pieces ≡ body = ap (flat_map body_bytes) is ∙ bodies_of_chunks chunks ∙ sent.2.2 body left in
    rw (heads, bytes) refl

-- the bytes of what has no source
bytes_left : (of_ : Content SourceInMemory) → IsAtHand of_ → (body : List ℕ) × (left_of source_meaning of_ ≡ Some body)
bytes_left content.None here = ([], refl)
bytes_left content.UnsizedNone here = ([], refl)
bytes_left (content.Sized rest size) here = (rest, refl)
bytes_left (content.Phantom length size) here = ([], refl)
bytes_left (content.Streamed stream) here = absurd here

answered_once : (k : ℕ) (response : Response) (section section' : List ℕ) → IsAtHand response.body.content → IsAnswered k response section → IsAnswered k response section' → section' ≡ section
answered_once k response section section' here answered answered' =
    let left = bytes_left response.body.content here in
    answered'.text ∙ section_of k response left.0 answered'.pieces left.1 answered'.sent ∙ sym (section_of k response left.0 answered.pieces left.1 answered.sent) ∙ sym answered.text

told_once : (t : Bool) (k : ℕ) (response : Response) (section section' : List ℕ) → IsAtHand response.body.content → MatchBool t (IsAnswered k response section) (section ≡ failed_section k)
    → MatchBool t (IsAnswered k response section') (section' ≡ failed_section k) → section' ≡ section
told_once true k response section section' here told told' = answered_once k response section section' here told told'
told_once false k response section section' here told told' = told' ∙ sym told

-- moments within the grace are not as long as it
never_long : (window : Option (ℕ × ℕ)) (grace mercy : ℕ) → IsWithinGrace window (Some (grace, mercy)) → ForSome window (λ w. w.0 + grace ≤ w.1) → ⊥
never_long None grace mercy short long = short
never_long (Some w) grace mercy short long = let from = long w refl in absurd (omega (arith, short, from))

served_once : (laws : Spelling) (table : Table) (word word' : ℕ) (window window' : Option (ℕ × ℕ)) (k : ℕ) (request : ScriptRequest) (section section' : List ℕ) → IsServed table word window k request section
    → IsServed table word' window' k request section' → section' ≡ section
served_once laws table word word' window window' k request section section' served served' =
    let one = made_once laws table word word' window window' served.shown served'.shown request served.response served'.response served.made served'.made served.calm served'.calm in
    told_once (has_head served.response) k served.response section section' one.1 served.told
    (subst (λ (r : Response). MatchBool (has_head r) (IsAnswered k r section') (section' ≡ failed_section k)) one.0 served'.told)

section_once : (laws : Spelling) (table : Table) (word word' : ℕ) (window window' : Option (ℕ × ℕ)) (told : Told) (k : ℕ) (request : ScriptRequest) (section section' : List ℕ) → (told ≢ Told.Warned) ⊎ (word ≡ 0)
    → IsSection told table word window k request section → IsSection told table word' window' k request section' → section' ≡ section
section_once laws table word word' window window' Told.NoMemory k request section section' unwarned is is' = is' ∙ sym is
section_once laws table word word' window window' Told.CutShort k request section section' unwarned is is' = is'.text ∙ sym is.text
section_once laws table word word' window window' Told.Warned k request section section' (inl unwarned) is is' = absurd (unwarned refl)
section_once laws table word word' window window' Told.Warned k request section section' (inr none) is is' = absurd (omega (arith, is.told, none))
section_once laws table word word' window window' Told.Served k request section section' unwarned is is' = served_once laws table word word' window window' k request section section' is is'

module _ (laws : Spelling) (table : Table) (window window' : Option (ℕ × ℕ)) (told : ℕ → Told) (n before : ℕ) (all : List ScriptRequest) (stands : StandBefore all before) (unwarned : (i : ℕ) → before ≤ i → i < n → told i ≢ Told.Warned) where
  -- until the first request for `/stop` no word was told
  none_next : (k word next : ℕ) (request : ScriptRequest) → k < before → (k ≤ before → word ≡ 0) → slice_get all k ≡ Some request → FollowsWord word request next → next ≡ 0
  none_next k word next request until none there follows = follows.other (λ is. none_at all before k request stands.before until there is) ∙ none (omega (arith, until))

  from_once : (k word word' : ℕ) (requests : List ScriptRequest) (text text' : List ℕ) → k + length requests ≤ n → (k ≤ before → word ≡ 0) → ((i : ℕ) (r : ScriptRequest) → slice_get requests i ≡ Some r → slice_get all (k + i) ≡ Some r)
      → ShownFrom table window told word k requests text → ShownFrom table window' told word' k requests text' → text' ≡ text
  from_once k word word' [] text text' within none places is is' = is' ∙ sym is
  from_once k word word' (request ∷ requests) text text' within none places is is' =
      let number : k + 0 ≡ k = omega arith in
      let there : slice_get all k ≡ Some request = ap (slice_get all) (sym number) ∙ places 0 request refl in
      let first : is'.0 ≡ is.0 = section_once laws table is.2 is'.2 window window' (told k) k request is.0 is'.0 (by_order (ltb k before) refl there) is.4 is'.4 in
      let rest : is'.1 ≡ is.1 = from_once (k + 1) is.2 is'.2 requests is.1 is'.1 (omega (arith, within)) (λ until. none_next k word is.2 request (omega (arith, until)) none there is.3)
      (λ i r here. let next : k + suc i ≡ k + 1 + i = omega arith in ap (slice_get all) (sym next) ∙ places (suc i) r here) is.5 is'.5 in
      is'.6 ∙ rw (first, rest) (sym is.6)
    where
      by_order : (t : Bool) → ltb k before ≡ t → slice_get all k ≡ Some request → (told k ≢ Told.Warned) ⊎ (is.2 ≡ 0)
      by_order true until there = inr (none_next k word is.2 request (ltb-true k before until) none there is.3)
      by_order false until there = inl (unwarned k (ltb-false k before until) (omega (arith, within)))

-- a text that shows a script shows the requests that it offers
shown_of : (table : Table) (window : Option (ℕ × ℕ)) (told : ℕ → Told) (n : ℕ) (script text : List ℕ) (requests : List ScriptRequest) → Offers script requests → Shown table window told n script text
    → ShownFrom table window told 0 0 (take n requests) text
shown_of table window told n script text requests offers shown =
    subst (λ (rs : List ScriptRequest). ShownFrom table window told 0 0 (take n rs) text) (offers_one script requests shown.0 offers shown.1) shown.2

pub one_text : Spelling → ShownOnce
one_text laws table window window' told n before script text text' all offers stands unwarned shown shown' =
    let is = shown_of table window told n script text all offers shown in
    let is' = shown_of table window' told n script text' all offers shown' in
    let size : length (take n all) ≡ min n (length all) = length-take n all in
    from_once laws table window window' told n before all stands unwarned 0 0 0 (take n all) text text' (omega (arith, size)) (λ until. refl)
    (λ i r there. let same : 0 + i ≡ i = omega arith in
    ap (slice_get all) same ∙ sym (front_at all n i (omega (arith, size, slice_get_within (take n all) i r there))) ∙ there) is is'

-- over a window whose moments are all within the grace nothing else is told of a request than that it was served, or that there was
-- no memory
short_section : (table : Table) (word : ℕ) (window : Option (ℕ × ℕ)) (told : Told) (k : ℕ) (request : ScriptRequest) (section : List ℕ) → IsShort table window → told ≢ Told.NoMemory → IsSection told table word window k request section
    → IsServed table word window k request section
short_section table word window Told.NoMemory k request section short some is = absurd (some refl)
short_section table word window Told.Served k request section short some is = is
short_section table word window Told.Warned k request section short some is = absurd (never_long window is.made.tables.config.grace is.made.tables.config.mercy (short is.made.tables.config is.made.sample.config) is.long)
short_section table word window Told.CutShort k request section short some is = absurd (never_long window is.tables.config.grace is.tables.config.mercy (short is.tables.config is.sample.config) is.long)

module _ (laws : Spelling) (table : Table) (window window' : Option (ℕ × ℕ)) (told told' : ℕ → Told) (n : ℕ) (short : IsShort table window) (short' : IsShort table window') (some : NoneStarved n told) (some' : NoneStarved n told') where
  printed_from : (k word word' : ℕ) (requests : List ScriptRequest) (text text' : List ℕ) → k + length requests ≤ n → ShownFrom table window told word k requests text → ShownFrom table window' told' word' k requests text' → text' ≡ text
  printed_from k word word' [] text text' within is is' = is' ∙ sym is
  printed_from k word word' (request ∷ requests) text text' within is is' =
      let inside : k < n = omega (arith, within) in
      let first : is'.0 ≡ is.0 = served_once laws table is.2 is'.2 window window' k request is.0 is'.0
      (short_section table is.2 window (told k) k request is.0 short (some k inside) is.4)
      (short_section table is'.2 window' (told' k) k request is'.0 short' (some' k inside) is'.4) in
      let rest : is'.1 ≡ is.1 = printed_from (k + 1) is.2 is'.2 requests is.1 is'.1 (omega (arith, within)) is.5 is'.5 in
      is'.6 ∙ rw (first, rest) (sym is.6)

pub one_print : Spelling → PrintedOnce
one_print laws table window window' told told' n script text text' short short' some some' shown shown' =
    let all : List ScriptRequest = shown.0 in
    let size : length (take n all) ≡ min n (length all) = length-take n all in
    printed_from laws table window window' told told' n short short' some some' 0 0 0 (take n all) text text' (omega (arith, size)) shown.2 (shown_of table window' told' n script text' all shown.1 shown')

-- as long as `/stop` told no word nothing else is told of a request than that it was served, or that there was no memory
quiet_section : (table : Table) (word : ℕ) (window : Option (ℕ × ℕ)) (told : Told) (k : ℕ) (request : ScriptRequest) (section : List ℕ) → word ≡ 0 → told ≢ Told.NoMemory → IsSection told table word window k request section
    → IsServed table word window k request section
quiet_section table word window Told.NoMemory k request section none some is = absurd (some refl)
quiet_section table word window Told.Served k request section none some is = is
quiet_section table word window Told.Warned k request section none some is = absurd (omega (arith, is.told, none))
quiet_section table word window Told.CutShort k request section none some is = absurd (omega (arith, is.told, none))

module _ (laws : Spelling) (table : Table) (window window' : Option (ℕ × ℕ)) (told told' : ℕ → Told) (n : ℕ) (some : NoneStarved n told) (some' : NoneStarved n told') where
  alone_from : (k word word' : ℕ) (requests : List ScriptRequest) (text text' : List ℕ) → k + length requests ≤ n → word ≡ 0 → word' ≡ 0 → NoneStops requests → ShownFrom table window told word k requests text
      → ShownFrom table window' told' word' k requests text' → text' ≡ text
  alone_from k word word' [] text text' within none none' stops is is' = is' ∙ sym is
  alone_from k word word' (request ∷ requests) text text' within none none' stops is is' =
      let inside : k < n = omega (arith, within) in
      let next : is.2 ≡ 0 = is.3.other stops.0 ∙ none in
      let next' : is'.2 ≡ 0 = is'.3.other stops.0 ∙ none' in
      let first : is'.0 ≡ is.0 = served_once laws table is.2 is'.2 window window' k request is.0 is'.0
      (quiet_section table is.2 window (told k) k request is.0 next (some k inside) is.4)
      (quiet_section table is'.2 window' (told' k) k request is'.0 next' (some' k inside) is'.4) in
      let rest : is'.1 ≡ is.1 = alone_from (k + 1) is.2 is'.2 requests is.1 is'.1 (omega (arith, within)) next next' stops.1 is.5 is'.5 in
      is'.6 ∙ rw (first, rest) (sym is.6)

pub alone_print : Spelling → PrintedAlone
alone_print laws table window window' told told' n script text text' all offers stops some some' shown shown' =
    let size : length (take n all) ≡ min n (length all) = length-take n all in
    alone_from laws table window window' told told' n some some' 0 0 0 (take n all) text text' (omega (arith, size)) refl refl stops
    (shown_of table window told n script text all offers shown) (shown_of table window' told' n script text' all offers shown')
