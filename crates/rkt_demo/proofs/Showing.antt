-- The entries of two launches, one behind the other, show the requests that were offered to them.
use Rattle.std.proofs.Common.{zero, suc, ◌≡◌, ◌<◌, ◌≤◌, ◌+◌, ◌-◌, ◌++◌, ℕ, List, [], ◌∷◌, Bool, true, false, ltb, Option, Some, drop, length, slice_get, take, refl, ap, ◌∙◌, sym, subst, arith, append-nil, length-append}
use Rattle.std.proofs.Math.Seq.{drop-append_seam, take-append_seam, take-length}
use borrow.Author.Tests.{ltb-true, ltb-false}
use Rattle.std.proofs.lemmas.List.{length-drop, length-take-le}
use Rattle.std.proofs.lemmas.Option.{same_Some, slice_get_within}
use Rattle.rkt_source.specs.Memory.{SourceInMemory}
use Rattle.rkt_board.specs.Events.{admitted}
use Rattle.rkt_link.specs.Memory.{LinkInMemory}
use Rattle.rkt_board.specs.declared.history.EntryOf.{EntryOf}
use Rattle.rkt_board.specs.declared.history.EventOf.{EventOf}
use Rattle.rkt_demo.proofs.Places.{front_at, left_at, rest_at, right_at}
use Rattle.rkt_demo.proofs.Stops.{may_serve, none_at}
use Rattle.rkt_demo.specs.Entries.{ended_section, entry_section, entries_text, AreEntries}
use Rattle.rkt_demo.specs.Launched.{ServesFront, TellsOf, told_of}
use Rattle.rkt_demo.specs.Shown.{IsSection, ShownFrom, ShowsRequests, Told}
use Rattle.rkt_script.specs.Stopping.{FollowsWord, IsStop, StandBefore}
use Rattle.rkt_script.specs.Words.{Table}
use Rattle.rkt_script.specs.declared.script.ScriptRequest.{ScriptRequest}

abbrev Kept : Type 0
Kept = EntryOf ℕ SourceInMemory LinkInMemory

abbrev Event : Type 0
Event = EventOf ℕ SourceInMemory LinkInMemory

-- none, or that of the second launch
abbrev word_by : Bool → ℕ
word_by true = 2
word_by false = 0

-- the word before the exchange with this number, where so many requests stand before the first one for `/stop`
words : ℕ → ℕ → ℕ
words before j = word_by (ltb before j)

words_until : (before j : ℕ) → j ≤ before → words before j ≡ 0
unfolding words
words_until before j until = by_test (ltb before j) refl
  where
    by_test : (t : Bool) → ltb before j ≡ t → word_by t ≡ 0
    by_test true is = absurd (omega (arith, ltb-true before j is, until))
    by_test false is = refl

words_behind : (before j : ℕ) → before < j → words before j ≡ 2
unfolding words
words_behind before j behind = by_test (ltb before j) refl
  where
    by_test : (t : Bool) → ltb before j ≡ t → word_by t ≡ 2
    by_test true is = refl
    by_test false is = absurd (omega (arith, ltb-false before j is, behind))

module _ (table : Table) (window : Option (ℕ × ℕ)) where
  -- the entry of a place tells of a request
  abbrev TellsAt : List (Option Kept) → ℕ → ℕ → ScriptRequest → Type 0
  TellsAt entries word i request = (entry : Kept) × (slice_get entries i ≡ Some (Some entry)) × TellsOf table word window request entry

  -- each entry tells of its request, where these words are told
  abbrev AllTell : (ℕ → ℕ) → List (Option Kept) → List ScriptRequest → Type 0
  AllTell word entries requests = (i : ℕ) (request : ScriptRequest) → slice_get requests i ≡ Some request → FollowsWord (word i) request (word (suc i)) × TellsAt entries (word (suc i)) i request

  abbrev next_tell : (word : ℕ → ℕ) (entry : Option Kept) (entries : List (Option Kept)) (request : ScriptRequest) (requests : List ScriptRequest) → AllTell word (entry ∷ entries) (request ∷ requests) → AllTell (λ i. word (suc i)) entries requests
  next_tell word entry entries request requests tell i other there = tell (suc i) other there

  -- what is told of each place
  abbrev told_from : (word : ℕ → ℕ) (entries : List (Option Kept)) (requests : List ScriptRequest) → AllTell word entries requests → ℕ → Told
  told_from word [] requests tell i = Told.Served
  told_from word (entry ∷ entries) [] tell i = Told.Served
  told_from word (entry ∷ entries) (request ∷ requests) tell zero = told_of (tell 0 request refl).1.2.warned (tell 0 request refl).1.0.end
  told_from word (entry ∷ entries) (request ∷ requests) tell (suc i) = told_from (λ j. word (suc j)) entries requests (next_tell word entry entries request requests tell) i

  shown_from : (told : ℕ → Told) (word : ℕ → ℕ) (k : ℕ) (entries : List (Option Kept)) (requests : List ScriptRequest) (tell : AllTell word entries requests) → length entries ≡ length requests
      → ((i : ℕ) → told (k + i) ≡ told_from word entries requests tell i) → ShownFrom table window told (word 0) k requests (entries_text k entries)
  shown_from told word k [] [] tell same tells = refl
  shown_from told word k [] (request ∷ requests) tell same tells = absurd (omega (arith, same))
  shown_from told word k (entry ∷ entries) [] tell same tells = absurd (omega (arith, same))
  shown_from told word k (entry ∷ entries) (request ∷ requests) tell same tells =
      let here = tell 0 request refl in
      let is : entry ≡ Some here.1.0 = same_Some entry (Some here.1.0) here.1.1 in
      let number : k + 0 ≡ k = omega arith in
      let now : told k ≡ told_of here.1.2.warned here.1.0.end = ap told (sym number) ∙ tells 0 in
      let section : IsSection (told k) table (word 1) window k request (entry_section k entry) =
      subst (λ (e : Option Kept). IsSection (told k) table (word 1) window k request (entry_section k e)) (sym is)
      (subst (λ (t : Told). IsSection t table (word 1) window k request (ended_section k here.1.0.end here.1.0.link.io.held)) (sym now) (here.1.2.section k)) in (
        entry_section k entry,
        entries_text (k + 1) entries,
        word 1,
        here.0,
        section,
        shown_from told (λ i. word (suc i)) (k + 1) entries requests (next_tell word entry entries request requests tell) (omega (arith, same)) (λ i. let next : k + 1 + i ≡ k + suc i = omega arith in ap told next ∙ tells (suc i)),
        refl,
      )

  -- the entry of a number in a history that serves these requests
  tells_at : (word : ℕ) (requests : List ScriptRequest) (events : List Event) (entries : List (Option Kept)) → ServesFront table word window requests events → AreEntries events entries → (i : ℕ) (request : ScriptRequest)
      → i < length entries → slice_get requests i ≡ Some request → TellsAt entries word i request
  tells_at word requests events entries serves are i request within there =
      let inside : i < admitted events = omega (arith, within, are.count) in
      let entry = serves.each i request inside there in
      (entry.0, are.each i inside ∙ ap Some entry.1, entry.2)

  module _ (requests : List ScriptRequest) (before : ℕ) (stands : StandBefore requests before) (first second : List Event) (entries others : List (Option Kept)) (all_first : admitted first ≡ before)
      (serves : ServesFront table 0 window (take before requests) first) (serves' : ServesFront table 2 window (drop before requests) second) (are : AreEntries first entries) (are' : AreEntries second others) where
    abbrev TellsHere : ℕ → ScriptRequest → Type 0
    TellsHere i request = FollowsWord (words before i) request (words before (suc i)) × TellsAt (entries ++ others) (words before (suc i)) i request

    told_before : (i : ℕ) (request : ScriptRequest) → i < before → slice_get requests i ≡ Some request → TellsHere i request
    told_before i request until there =
        let within : i < length entries = omega (arith, until, are.count, all_first) in
        let here = tells_at 0 (take before requests) first entries serves are i request within (front_at requests before i until ∙ there) in
        let now : words before i ≡ 0 = words_until before i (omega (arith, until)) in
        let next : words before (suc i) ≡ 0 = words_until before (suc i) (omega (arith, until)) in (
          record { stop = λ is. absurd (none_at requests before i request stands.before until there is); other = λ _. next ∙ sym now },
          (here.0, left_at entries others i within ∙ here.1, subst (λ (w : ℕ). TellsOf table w window request here.0) (sym next) here.2),
        )

    told_behind : (i : ℕ) (request : ScriptRequest) → before ≤ i → i < length (entries ++ others) → slice_get requests i ≡ Some request → TellsHere i request
    told_behind i request from within there =
        let sum : length (entries ++ others) ≡ length entries + length others = length-append entries others in
        let place : i ≡ before + (i - before) = omega (arith, from) in
        let here = tells_at 2 (drop before requests) second others serves' are' (i - before) request (omega (arith, from, within, sum, are.count, all_first)) (rest_at requests before (i - before) i place ∙ there) in
        let next : words before (suc i) ≡ 2 = words_behind before (suc i) (omega (arith, from)) in (
          record { stop = λ _. next; other = λ not_stop. next ∙ sym (by_place (ltb before i) refl not_stop) },
          (here.0, right_at entries others (i - before) i (omega (arith, from, are.count, all_first)) ∙ here.1, subst (λ (w : ℕ). TellsOf table w window request here.0) (sym next) here.2),
        )
      where
        by_place : (t : Bool) → ltb before i ≡ t → ¬ IsStop request → words before i ≡ 2
        by_place true is not_stop = words_behind before i (ltb-true before i is)
        by_place false is not_stop =
            let at : before ≡ i = omega (arith, from, ltb-false before i is) in
            absurd (not_stop (stands.first request (ap (slice_get requests) at ∙ there)))

    told_at : (i : ℕ) (request : ScriptRequest) → i < length (entries ++ others) → slice_get requests i ≡ Some request → TellsHere i request
    told_at i request within there = by_order (ltb i before) refl
      where
        by_order : (t : Bool) → ltb i before ≡ t → TellsHere i request
        by_order true is = told_before i request (ltb-true i before is) there
        by_order false is = told_behind i request (ltb-false i before is) within there

    -- so their text shows as many requests as may be served
    pub histories_show : ShowsRequests table window requests (entries_text 0 (entries ++ others))
    histories_show =
        let sum : length (entries ++ others) ≡ length entries + length others = length-append entries others in
        let rest : length (drop before requests) ≡ length requests - before = length-drop before requests in
        let within : length (entries ++ others) ≤ length requests = omega (arith, sum, rest, are.count, are'.count, all_first, serves'.within, stands.within) in
        let more : before ≤ length (entries ++ others) = omega (arith, sum, are.count, all_first) in
        let count : length (entries ++ others) ≡ length (take (length (entries ++ others)) requests) = sym (length-take-le (length (entries ++ others)) requests within) in
        let tell : AllTell (words before) (entries ++ others) (take (length (entries ++ others)) requests) = λ i request there.
        let inside : i < length (entries ++ others) = omega (arith, slice_get_within (take (length (entries ++ others)) requests) i request there, count) in
        told_at i request inside (sym (front_at requests (length (entries ++ others)) i inside) ∙ there) in
        let told : ℕ → Told = told_from (words before) (entries ++ others) (take (length (entries ++ others)) requests) tell in
        let shown = shown_from told (words before) 0 (entries ++ others) (take (length (entries ++ others)) requests) tell count (λ i. let same : 0 + i ≡ i = omega arith in ap told same) in (
          length (entries ++ others),
          told,
          may_serve requests before (length (entries ++ others)) stands more within,
          subst (λ (w : ℕ). ShownFrom table window told w 0 (take (length (entries ++ others)) requests) (entries_text 0 (entries ++ others))) (words_until before 0 (omega arith)) shown,
        )

  -- nothing was served, and nothing is told
  none_serves : (requests : List ScriptRequest) → ServesFront table 2 window requests []
  none_serves requests = record { within = omega arith; each = λ k request within there. absurd (omega (arith, within)) }

  none_entries : AreEntries [] []
  none_entries = record { count = refl; each = λ k within. absurd (omega (arith, within)) }

  -- the text of one history, where no request is for `/stop`
  pub alone_shows : (requests : List ScriptRequest) (first : List Event) (text : List ℕ) → StandBefore requests (length requests) → admitted first ≡ length requests → ServesFront table 0 window requests first
      → ((entries : List (Option Kept)) × AreEntries first entries × (text ≡ entries_text 0 entries)) → ShowsRequests table window requests text
  alone_shows requests first text stands all serves printed =
      let front : take (length requests) requests ≡ requests = take-length requests in
      let shown = histories_show requests (length requests) stands first [] printed.0 [] all (subst (λ (rs : List ScriptRequest). ServesFront table 0 window rs first) (sym front) serves)
      (none_serves (drop (length requests) requests)) printed.1 none_entries in
      subst (ShowsRequests table window requests) (ap (entries_text 0) (append-nil printed.0) ∙ sym printed.2) shown

  -- the text of two, where the others begin with the first one for `/stop`
  pub both_show : (requests others : List ScriptRequest) (first second : List Event) (text : List ℕ) → StandBefore (requests ++ others) (length requests) → admitted first ≡ length requests → ServesFront table 0 window requests first
      → ServesFront table 2 window others second
      → ((entries : List (Option Kept)) × (entries' : List (Option Kept)) × AreEntries first entries × AreEntries second entries' × (text ≡ entries_text 0 (entries ++ entries'))) → ShowsRequests table window (requests ++ others) text
  both_show requests others first second text stands all serves serves' printed =
      let front : take (length requests) (requests ++ others) ≡ requests = take-append_seam requests others in
      let rest : drop (length requests) (requests ++ others) ≡ others = drop-append_seam requests others in
      let shown = histories_show (requests ++ others) (length requests) stands first second printed.0 printed.1 all (subst (λ (rs : List ScriptRequest). ServesFront table 0 window rs first) (sym front) serves)
      (subst (λ (rs : List ScriptRequest). ServesFront table 2 window rs second) (sym rest) serves') printed.2 printed.3 in
      subst (ShowsRequests table window (requests ++ others)) (sym printed.4) shown
