-- What a state that gathers text answers.
use Rattle.std.specs.Option.{ForSome}
use Rattle.std.proofs.Common.{◌≡◌, ℕ, ◌≤◌, ◌<◌, List, Option, None, Some, Err, Vec, Global, refl, ap, arith}
use Rattle.std.specs.Prelude.{IsUtf8}
use Rattle.rkt_base.specs.declared.poll.Poll.TheVariants.{Ready}
use Rattle.rkt_data.specs.Gathering.{Gathered, Draws, IsUsedUp, cause_of, data_error_of}
use Rattle.rkt_source.specs.Source.{Meaning, Polled}
use Rattle.rkt_data.specs.Stream.{Opened, Piped, Follows}
use Rattle.rkt_data.specs.CountedSource.{Ending, TapErrs}
use Rattle.rkt_data.specs.Text.{IsRead, TextFails, TextErr, found_bytes, found_so_far}
use Rattle.rkt_data.specs.declared.error.DataError.{DataError}
use Rattle.rkt_data.specs.declared.error.DataError.TheVariants as error
use Rattle.rkt_data.specs.declared.into_string.Found.{Found}
use Rattle.rkt_data.specs.declared.into_string.Found.TheVariants as found
use Rattle.rkt_source.specs.declared.source.Gate.{Gate}
use Rattle.rkt_source.specs.declared.source.SourceError.{SourceError}
use Rattle.rkt_source.specs.declared.source.SourceError.TheVariants as source_error
use Rattle.rkt_data.proofs.Drains.{Gathered-drawn, cut-gathered}

-- what is resumed holds the same bytes
pub resumed_bytes : (old : Option Found) (f : Found) → ForSome old (λ x. f ≡ x) → (old ≡ None → (room : Vec ℕ Global) × (f ≡ found.Bytes room 0)) → found_bytes f ≡ found_so_far old
resumed_bytes None f s n = let e = n refl in ap found_bytes e.1
resumed_bytes (Some x) f s n = ap found_bytes (s x refl)

pub resumed_read : {S : Type 0} (meaning : S → Meaning) (o : Opened S) (old : Option Found) (f : Found) → ForSome old (λ x. f ≡ x) → (old ≡ None → (room : Vec ℕ Global) × (f ≡ found.Bytes room 0)) → IsRead meaning o old → IsRead meaning o (Some f)
resumed_read meaning o None f s n r = let e = n refl in rw e.1 (omega arith)
resumed_read meaning o (Some x) f s n r = rw (s x refl) r

-- where no text was read
pub TextErr-failed : {S : Type 0} {meaning : S → Meaning} {polled : Polled S} {gate : Gate} {how : Ending} (o p : Piped S) (from : ℕ) (old got : List ℕ) (e : DataError) → Gathered meaning o.opened from old → Draws meaning polled gate how o p old got → p.opened.given ≤ p.opened.limit
    → TextFails meaning got o.opened p.opened e → TextErr meaning from o.opened p.opened e
TextErr-failed o p from old got error.SourceFault h d l f = (f.0, λ q. absurd (omega (arith, q, f.1)))
TextErr-failed o p from old got error.Gone h d l f = (f.0, λ q. absurd (omega (arith, q, f.1)))
TextErr-failed o p from old got error.TimedOut h d l f = (f.0, λ q. absurd (omega (arith, q, f.1)))
TextErr-failed o p from old got (error.NotUtf8 n) h d l f = (f.0, λ b t. let is = cut-gathered (Gathered-drawn h d) d.follows f.0 l b t in rw (← is) (f.1, f.2))
TextErr-failed o p from old got error.SinkFault h d l f = f
TextErr-failed o p from old got error.NoMemory h d l f = f

-- the source has refused a read
pub Texts-failed : {S : Type 0} (meaning : S → Meaning) (polled : Polled S) (gate : Gate) (e : SourceError) (d : DataError) (o p : Piped S) (old new : List ℕ) → d ≡ data_error_of e → Draws meaning polled gate (Ready (Err e)) o p old new
    → TapErrs meaning e o.opened.tap p.opened.tap × (p.opened.given < p.opened.limit) → (got : List ℕ) × Draws meaning polled gate (Ready (cause_of d)) o p old got × TextFails meaning got o.opened p.opened d
Texts-failed meaning polled gate source_error.SourceFault d o p old new is draws h = rw is (new, draws, h)
Texts-failed meaning polled gate source_error.Gone d o p old new is draws h = rw is (new, draws, h)
Texts-failed meaning polled gate source_error.TimedOut d o p old new is draws h = rw is (new, draws, h)

-- where the byte past the limit was refused
pub TextErr-closed : {S : Type 0} {meaning : S → Meaning} {trip : Option ℕ} (o p q : Opened S) (from : ℕ) (got : List ℕ) (e : SourceError) → Gathered meaning p from got → Follows meaning trip o p → IsUsedUp meaning p → p.given ≤ p.limit → IsUtf8 got
    → TapErrs meaning e o.tap q.tap → TextErr meaning from o q (data_error_of e)
TextErr-closed o p q from got source_error.SourceFault h f u l utf8 r = (r, λ z b t. rw (← cut-gathered h f u l b t) utf8)
TextErr-closed o p q from got source_error.Gone h f u l utf8 r = (r, λ z b t. rw (← cut-gathered h f u l b t) utf8)
TextErr-closed o p q from got source_error.TimedOut h f u l utf8 r = (r, λ z b t. rw (← cut-gathered h f u l b t) utf8)
