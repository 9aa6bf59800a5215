-- Where a reader stands in a media type, and what may follow.
use Rattle.std.specs.Prelude.{ℕ, List, [], Bool, true, false, ◌==◌, if◌then◌else◌, Option, Some, None}
use Rattle.rkt_grammar.specs.Bytes.{semicolon, slash, equals_sign, quotation_mark, backslash}
use Rattle.rkt_media.specs.Media.{Parameter}
use Rattle.rkt_grammar.specs.Grammar.{is_token_byte, is_field_value_byte}
use Rattle.rkt_media.specs.MediaText.{is_blank, is_quoted_byte, ParametersThen, Exactly, IsMedia}
use Rattle.rkt_media.specs.MediaRests.{Any, RunOn, MarkOn, WordOn, SubOn, TopOn, QuotedOn, ValueOn, NameOn}
use Rattle.rkt_media.specs.declared.media_place.MediaPlace.{MediaPlace}
use Rattle.rkt_media.specs.declared.media_place.MediaPlace.TheVariants.{TopStart, Top, SubStart, LastWord, Blank, Semicolon, Name, ValueStart, Quoted, Escaped, Closed}

-- the place behind one more byte, where a value has ended
abbrev pub after_value : ℕ → Option MediaPlace
after_value b = if is_blank b then Some Blank else (if b == semicolon then Some Semicolon else None)

abbrev pub place_after : MediaPlace → ℕ → Option MediaPlace
place_after TopStart b = if is_token_byte b then Some Top else None
place_after Top b = if is_token_byte b then Some Top else (if b == slash then Some SubStart else None)
place_after SubStart b = if is_token_byte b then Some LastWord else None
place_after LastWord b = if is_token_byte b then Some LastWord else after_value b
place_after Blank b = after_value b
place_after Semicolon b = if is_blank b then Some Semicolon else (if is_token_byte b then Some Name else None)
place_after Name b = if is_token_byte b then Some Name else (if b == equals_sign then Some ValueStart else None)
place_after ValueStart b = if is_token_byte b then Some LastWord else (if b == quotation_mark then Some Quoted else None)
place_after Quoted b =
    if b == quotation_mark
    then Some Closed
    else (if b == backslash then Some Escaped else (if is_quoted_byte b then Some Quoted else None))
place_after Escaped b = if is_field_value_byte b then Some Quoted else None
place_after Closed b = after_value b

abbrev pub may_end : MediaPlace → Bool
may_end TopStart = false
may_end Top = false
may_end SubStart = false
may_end LastWord = true
may_end Blank = false
may_end Semicolon = false
may_end Name = false
may_end ValueStart = false
may_end Quoted = false
may_end Escaped = false
may_end Closed = true

-- these parameters, and no more
abbrev pub Given : List Parameter → List ℕ → Type 0
Given ps text = ParametersThen ps (Exactly []) text

-- some parameters, and no more
abbrev pub AnyParameters : List ℕ → Type 0
AnyParameters = Any (List Parameter) Given

-- a parameter, and maybe more
abbrev pub ParameterOn : List ℕ → Type 0
ParameterOn = WordOn (NameOn AnyParameters)

-- what may follow
abbrev pub rest_of : MediaPlace → List ℕ → Type 0
rest_of TopStart text = IsMedia text
rest_of Top text = TopOn AnyParameters text
rest_of SubStart text = SubOn AnyParameters text
rest_of LastWord text = RunOn is_token_byte AnyParameters text
rest_of Blank text = MarkOn is_blank semicolon (RunOn is_blank ParameterOn) text
rest_of Semicolon text = RunOn is_blank ParameterOn text
rest_of Name text = NameOn AnyParameters text
rest_of ValueStart text = ValueOn AnyParameters text
rest_of Quoted text = QuotedOn AnyParameters false text
rest_of Escaped text = QuotedOn AnyParameters true text
rest_of Closed text = AnyParameters text
