-- Media types that are the same in any case: this is an equivalence.
use Rattle.std.specs.Cmp.{IsEquivalence}
use Rattle.std.specs.Cmp.Lexicographic.{on_texts_equal, lists_equiv}
use Rattle.std.specs.Str.{str_to_ascii_lowercase, str_eq_ignore_ascii_case}
use Rattle.std.proofs.lemmas.Cmp.{and_equiv, on_equiv}
use Rattle.rkt_media.specs.Media.{Media, Parameter, same_parameter, same_media}

texts : IsEquivalence str_eq_ignore_ascii_case
texts = on_texts_equal str_to_ascii_lowercase

parameters : IsEquivalence same_parameter
parameters = and_equiv (on_equiv (λ (p : Parameter). p.0) texts) (on_equiv (λ (p : Parameter). p.1) texts)

pub same_media_equiv : IsEquivalence same_media
same_media_equiv =
    and_equiv (and_equiv (on_equiv (λ (m : Media). m.top) texts) (on_equiv (λ (m : Media). m.sub) texts))
    (on_equiv (λ (m : Media). m.parameters) (lists_equiv parameters))
