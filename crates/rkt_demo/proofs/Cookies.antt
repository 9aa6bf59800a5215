-- Which cookies are sent where none was removed: those that were added, at whatever moment.
use Rattle.std.proofs.Common.{◌≡◌, ◌++◌, ℕ, zero, suc, List, [], ◌∷◌, Bool, true, false, Option, Some, None, drop, if◌then◌else◌, length, map, refl, ap, ◌∙◌, sym}
use Rattle.std.specs.List.{flat_map, list_any}
use Rattle.rkt_cookie.specs.Cookie.{Parts}
use Rattle.rkt_cookie.specs.Jar.{addition, is_named, last_changes, sent}
use Rattle.rkt_cookie.specs.declared.change.Change.{Change}
use Rattle.rkt_dispatch.specs.Finalizing.{pending_cookies, settled}
use Rattle.rkt_request.specs.Lent.{Kept}
use Rattle.rkt_sample.specs.Added.{with_added}
use Rattle.rkt_sample.specs.Replies.{added_by, left_by, told_by}
use Rattle.rkt_sample.specs.Told.{with_word}
use Rattle.rkt_sample.specs.declared.route.SampleRoute.{SampleRoute}

-- each change adds a cookie
abbrev pub OnlyAdds : List Change → Type 0
OnlyAdds [] = Unit {0}
OnlyAdds (change ∷ changes) = (change.removal ≡ false) × OnlyAdds changes

adds_push : (changes : List Change) (cookie : Parts) → OnlyAdds changes → OnlyAdds (changes ++ addition cookie ∷ [])
adds_push [] cookie adds = (refl, tt)
adds_push (change ∷ changes) cookie adds = (adds.0, adds_push changes cookie adds.1)

adds_drop : (n : ℕ) (changes : List Change) → OnlyAdds changes → OnlyAdds (drop n changes)
adds_drop zero changes adds = adds
adds_drop (suc n) [] adds = tt
adds_drop (suc n) (change ∷ changes) adds = adds_drop n changes adds.1

adds_last : (changes : List Change) → OnlyAdds changes → OnlyAdds (last_changes changes)
adds_last [] adds = tt
adds_last (change ∷ changes) adds = by_test (list_any (λ later. is_named change.cookie.name later.cookie) changes) (adds_last changes adds.1)
  where
    by_test : (t : Bool) → OnlyAdds (last_changes changes) → OnlyAdds (if t then last_changes changes else change ∷ last_changes changes)
    by_test true rest = rest
    by_test false rest = (adds.0, rest)

sent_added : (originals : List Parts) (moment : ℕ) (change : Change) → change.removal ≡ false → sent originals moment change ≡ change.cookie ∷ []
sent_added originals moment change is = rw is refl

all_sent : (originals : List Parts) (moment : ℕ) (changes : List Change) → OnlyAdds changes → flat_map (sent originals moment) changes ≡ map (λ change. change.cookie) changes
all_sent originals moment [] adds = refl
all_sent originals moment (change ∷ changes) adds =
    ap (λ (cookies : List Parts). cookies ++ flat_map (sent originals moment) changes) (sent_added originals moment change adds.0)
    ∙ ap (λ (cookies : List Parts). change.cookie ∷ cookies) (all_sent originals moment changes adds.1)

-- the same changes may be pending, each of which adds a cookie
pub record AddedAlike {C : Type 0} (kept other : Kept C) : Type 0 where
  pub log : other.jar.log ≡ kept.jar.log
  pub floor : other.jar.floor ≡ kept.jar.floor
  pub adds : OnlyAdds kept.jar.log

abbrev of_changes : List Change → List Parts
of_changes changes = map (λ change. change.cookie) (last_changes changes)

pending_added : {C : Type 0} (kept : Kept C) (moment : ℕ) → OnlyAdds kept.jar.log → pending_cookies kept moment ≡ of_changes (drop kept.jar.floor kept.jar.log)
pending_added kept moment adds = all_sent kept.jar.originals moment (last_changes (drop kept.jar.floor kept.jar.log)) (adds_last (drop kept.jar.floor kept.jar.log) (adds_drop kept.jar.floor kept.jar.log adds))

pub pending_alike : {C : Type 0} (kept other : Kept C) (moment moment' : ℕ) → AddedAlike kept other → pending_cookies other moment' ≡ pending_cookies kept moment
pending_alike kept other moment moment' alike =
    let added : pending_cookies other moment' ≡ of_changes (drop other.jar.floor other.jar.log) = pending_added other moment' (rw alike.log alike.adds) in
    let same : of_changes (drop other.jar.floor other.jar.log) ≡ of_changes (drop kept.jar.floor kept.jar.log) = rw (alike.floor, alike.log) refl in
    added ∙ same ∙ sym (pending_added kept moment alike.adds)

pub added_alike : {C : Type 0} (cookie : Option Parts) (kept other : Kept C) → AddedAlike kept other → AddedAlike (with_added cookie kept) (with_added cookie other)
added_alike None kept other alike = alike
added_alike (Some cookie) kept other alike = record {
  log = ap (λ (log : List Change). log ++ addition cookie ∷ []) alike.log;
  floor = alike.floor;
  adds = adds_push kept.jar.log cookie alike.adds;
}

-- a word that is told is no cookie
word_alike : {C : Type 0} (word : Option ℕ) (kept other : Kept C) → AddedAlike kept other → AddedAlike (with_word word kept) other
word_alike None kept other alike = alike
word_alike (Some word) kept other alike = record { log = alike.log; floor = alike.floor; adds = alike.adds }

told_alike : {C : Type 0} (word word' : Option ℕ) (kept other : Kept C) → AddedAlike kept other → AddedAlike (with_word word kept) (with_word word' other)
told_alike word None kept other alike = word_alike word kept other alike
told_alike word (Some word') kept other alike =
    let told : AddedAlike (with_word word kept) other = word_alike word kept other alike in
    record { log = told.log; floor = told.floor; adds = told.adds }

-- whatever word `/stop` tells
pub left_alike : {C : Type 0} (word word' : ℕ) (route : SampleRoute) (kept other : Kept C) → AddedAlike kept other → AddedAlike (left_by word route kept) (left_by word' route other)
left_alike word word' route kept other alike =
    told_alike (told_by word route) (told_by word' route) (with_added (added_by route) kept) (with_added (added_by route) other) (added_alike (added_by route) kept other alike)

pub settled_alike : {C : Type 0} (kept other : Kept C) → AddedAlike kept other → AddedAlike (settled kept) (settled other)
settled_alike kept other alike = record { log = alike.log; floor = ap (λ (log : List Change). length log) alike.log; adds = alike.adds }
