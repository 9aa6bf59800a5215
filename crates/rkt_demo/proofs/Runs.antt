-- What the program knows of its script from the bytes that it has read.
use Rattle.std.proofs.Common.{suc, ◌≡◌, ◌+◌, ◌-◌, ℕ, inl, inr, List, [], ◌∷◌, Option, take, drop, length, add-one, ap, ◌∙◌, sym, subst}
use Rattle.std.specs.Option.{ForSome}
use Rattle.rkt_source.specs.Source.{Meaning}
use Rattle.rkt_demo.proofs.Cuts.{bad_front, good_front}
use Rattle.rkt_script.proofs.Reader.{adds_once}
use Rattle.rkt_demo.specs.Program.{IsScript, IsGoodScript}
use Rattle.rkt_script.specs.Script.{lines_of, content_of, AreGood, IsFirstBad, Lead, Offers}
use Rattle.rkt_demo.specs.Shown.{ShowsRequests, ShowsScript}
use Rattle.rkt_script.specs.Words.{Table}
use Rattle.rkt_script.specs.declared.script.ScriptRequest.{ScriptRequest}
use Rattle.rkt_script.specs.declared.script.TheConstants.{SCRIPT_LIMIT}

-- the front of a script that is read
abbrev pub IsRead : Option (List ℕ) → ℕ → ℕ → List ℕ → Type 0
IsRead whole taken room bytes = ForSome whole (λ w. bytes ≡ take (room + 1) (drop taken w))

pub first_bad_read : (whole : Option (List ℕ)) (taken room number : ℕ) (bytes : List ℕ) → IsRead whole taken room bytes → IsFirstBad 1 room [] (lines_of bytes) number
    → ForSome whole (λ w. IsFirstBad 1 room [] (lines_of (drop taken w)) number)
first_bad_read whole taken room number bytes read bad w is =
    let front : bytes ≡ take (suc room) (drop taken w) = read w is ∙ ap (λ (n : ℕ). take n (drop taken w)) (add-one room) in
    bad_front (drop taken w) 1 room number [] (subst (λ (t : List ℕ). IsFirstBad 1 room [] (lines_of t) number) front bad)

pub good_read : (whole : Option (List ℕ)) (taken room : ℕ) (bytes : List ℕ) → IsRead whole taken room bytes → AreGood room [] (lines_of bytes)
    → ForSome whole (λ w. bytes ≡ drop taken w)
good_read whole taken room bytes read good w is =
    let front : bytes ≡ take (suc room) (drop taken w) = read w is ∙ ap (λ (n : ℕ). take n (drop taken w)) (add-one room) in
    front ∙ good_front (drop taken w) room [] (subst (λ (t : List ℕ). AreGood room [] (lines_of t)) front good)

pub good_script : (whole : Option (List ℕ)) (taken room : ℕ) (bytes : List ℕ) → IsRead whole taken room bytes → AreGood room [] (lines_of bytes)
    → ForSome whole (λ w. AreGood room [] (lines_of (drop taken w)))
good_script whole taken room bytes read good w is = subst (λ (t : List ℕ). AreGood room [] (lines_of t)) (good_read whole taken room bytes read good w is) good

-- a text that shows what was read shows as many requests of the script
pub shown_script : (whole : Option (List ℕ)) (taken room : ℕ) (bytes : List ℕ) (table : Table) (window : Option (ℕ × ℕ)) (requests : List ScriptRequest) (text : List ℕ) → IsRead whole taken room bytes
    → AreGood room [] (lines_of bytes) → Offers bytes requests → ShowsRequests table window requests text
    → ForSome whole (λ w. ShowsScript table window (drop taken w) text)
shown_script whole taken room bytes table window requests text read good offers shown w is =
    let here : Offers (drop taken w) requests = subst (λ (t : List ℕ). Offers t requests) (good_read whole taken room bytes read good w is) offers in
    (shown.0, shown.1, (requests, here, shown.2), (requests, here, shown.3))

-- no line is bad of lines that are good
good_not_bad : (from room number : ℕ) (requests after : List ScriptRequest) (lines : List (List ℕ)) → Lead room requests lines after → IsFirstBad from room requests lines number → ⊥
good_not_bad from room number requests after [] good bad = bad
good_not_bad from room number requests after (line ∷ lines) good (inl here) = here.1 good.0 good.1
good_not_bad from room number requests after (line ∷ lines) good (inr later) =
    let same : later.0 ≡ good.0 = adds_once requests (content_of line) good.0 later.0 good.1.1 later.1.1 in
    good_not_bad (from + 1) (room - length line) number good.0 after lines good.2 (subst (λ (rs : List ScriptRequest). IsFirstBad (from + 1) (room - length line) rs lines number) same later.2)

pub not_bad : (source : Meaning) (script : List ℕ) (number : ℕ) → IsScript source script → IsGoodScript script
    → ForSome source.whole (λ w. IsFirstBad 1 SCRIPT_LIMIT [] (lines_of (drop source.taken w)) number) → ⊥
not_bad source script number is good bad =
    good_not_bad 1 SCRIPT_LIMIT number [] good.0 (lines_of script) good.1 (subst (λ (t : List ℕ). IsFirstBad 1 SCRIPT_LIMIT [] (lines_of t) number) (sym is.2) (bad is.0 is.1))
