use Rattle.std.proofs.Common.{ap, ◌∙◌, fold, subst}
use Rattle.std.specs.List.{slice_split}
use Rattle.rkt_cookie.specs.Cookie.{bare}
use Rattle.rkt_cookie.specs.Reading.{IsPair, is_semicolon, later_pieces, with_piece}
use Rattle.rkt_cookie.proofs.LastSaid.{last_said_is}
use Rattle.rkt_cookie.proofs.OneReading.{reads_one}
use Rattle.rkt_cookie.proofs.cookie.Cookie.parse_encoded.Goals as goal

pub returns-clause-accepted : goal.returns-clause-accepted
returns-clause-accepted c = record {
  name = c.in_ok-name.name;
  value = c.in_ok-name.value;
  pair = subst (λ piece. IsPair piece c.in_ok-name.name c.in_ok-name.value) c.before_semicolon.ensures c.in_ok-name.ensures.accepted;
  attributes = c.in_ok-set_pieces.ensures
      ∙ ap (λ first. fold with_piece first (slice_split is_semicolon c.behind_semicolon.result.now)) c.of_parts-cookie.ensures
      ∙ ap (λ rest. fold with_piece (bare c.in_ok-name.name c.in_ok-name.value) (slice_split is_semicolon rest)) c.behind_semicolon.ensures
      ∙ last_said_is c.in_ok-name.name c.in_ok-name.value (later_pieces c.args.text.now);
}

pub returns-clause-complete : goal.returns-clause-complete
returns-clause-complete c = λ cookie reads. reads_one c.args.text.now c.set_pieces.new.self cookie (returns-clause-accepted c) reads
