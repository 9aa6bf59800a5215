-- Where a reader stands in a list of accepted media types, and what may follow.
use Rattle.std.specs.Prelude.{ℕ, ◌-◌, List, Bool, true, false, ◌==◌, ◌&&◌, nat_lt, if◌then◌else◌, Option, Some, None, option_map}
use Rattle.rkt_grammar.specs.Bytes.{comma, equals_sign, digit_zero, digit_nine, digit_one, dot}
use Rattle.rkt_grammar.specs.Grammar.{is_token_byte}
use Rattle.rkt_media.specs.MediaText.{is_blank}
use Rattle.rkt_media.specs.MediaRests.{RunOn, WordOn, SubOn, TopOn, QuotedOn, ValueOn, NameOn}
use Rattle.rkt_media.specs.MediaPlaces.{after_value, place_after as media_after}
use Rattle.rkt_media.specs.AcceptText.{is_gap, is_digit_to, DigitsTo, FractionTo, IsWeight, IsAccept}
use Rattle.rkt_media.specs.AcceptRests.{is_q, Tail, WeightOn, WeightNameOn, ParameterOn}
use Rattle.rkt_media.specs.declared.media_place.MediaPlace.{MediaPlace}
use Rattle.rkt_media.specs.declared.media_place.MediaPlace.TheVariants.{TopStart, Top, SubStart, LastWord, Blank, Semicolon, Name, ValueStart, Quoted, Escaped, Closed}
use Rattle.rkt_media.specs.declared.accept_place.AcceptPlace.{AcceptPlace}
use Rattle.rkt_media.specs.declared.accept_place.AcceptPlace.TheVariants.{Between, Inside, WeightName, WeightStart, Whole, Digits}

-- the place behind one more byte, where an entry may end
abbrev pub behind_entry : ℕ → Option AcceptPlace
behind_entry b = if b == comma then Some Between else option_map Inside (after_value b)

-- the place behind one more byte of a media type
abbrev pub after_inside : MediaPlace → ℕ → Option AcceptPlace
after_inside TopStart b = option_map Inside (media_after TopStart b)
after_inside Top b = option_map Inside (media_after Top b)
after_inside SubStart b = option_map Inside (media_after SubStart b)
after_inside LastWord b = if b == comma then Some Between else option_map Inside (media_after LastWord b)
after_inside Blank b = behind_entry b
after_inside Semicolon b = if is_q b then Some WeightName else option_map Inside (media_after Semicolon b)
after_inside Name b = option_map Inside (media_after Name b)
after_inside ValueStart b = option_map Inside (media_after ValueStart b)
after_inside Quoted b = option_map Inside (media_after Quoted b)
after_inside Escaped b = option_map Inside (media_after Escaped b)
after_inside Closed b = behind_entry b

abbrev pub place_after : AcceptPlace → ℕ → Option AcceptPlace
place_after Between b = if is_gap b then Some Between else (if is_token_byte b then Some (Inside Top) else None)
place_after (Inside place) b = after_inside place b
place_after WeightName b = if is_token_byte b then Some (Inside Name) else (if b == equals_sign then Some WeightStart else None)
place_after WeightStart b =
    if b == digit_zero then Some (Whole digit_nine) else (if b == digit_one then Some (Whole digit_zero) else None)
place_after (Whole most) b = if b == dot then Some (Digits most 3) else behind_entry b
place_after (Digits most left) b = if nat_lt 0 left && is_digit_to most b then Some (Digits most (left - 1)) else behind_entry b

abbrev pub may_end_inside : MediaPlace → Bool
may_end_inside TopStart = false
may_end_inside Top = false
may_end_inside SubStart = false
may_end_inside LastWord = true
may_end_inside Blank = true
may_end_inside Semicolon = false
may_end_inside Name = false
may_end_inside ValueStart = false
may_end_inside Quoted = false
may_end_inside Escaped = false
may_end_inside Closed = true

abbrev pub may_end : AcceptPlace → Bool
may_end Between = true
may_end (Inside place) = may_end_inside place
may_end WeightName = false
may_end WeightStart = false
may_end (Whole most) = true
may_end (Digits most left) = true

abbrev pub rest_inside : MediaPlace → List ℕ → Type 0
rest_inside TopStart text = WordOn (TopOn Tail) text
rest_inside Top text = TopOn Tail text
rest_inside SubStart text = SubOn Tail text
rest_inside LastWord text = RunOn is_token_byte Tail text
rest_inside Blank text = Tail text
rest_inside Semicolon text = RunOn is_blank ParameterOn text
rest_inside Name text = NameOn Tail text
rest_inside ValueStart text = ValueOn Tail text
rest_inside Quoted text = QuotedOn Tail false text
rest_inside Escaped text = QuotedOn Tail true text
rest_inside Closed text = Tail text

-- what may follow
abbrev pub rest_of : AcceptPlace → List ℕ → Type 0
rest_of Between text = IsAccept text
rest_of (Inside place) text = rest_inside place text
rest_of WeightName text = WeightNameOn text
rest_of WeightStart text = WeightOn IsWeight text
rest_of (Whole most) text = WeightOn (FractionTo most) text
rest_of (Digits most left) text = WeightOn (DigitsTo most left) text
