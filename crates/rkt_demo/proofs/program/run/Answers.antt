use Rattle.std.proofs.Common.{◌⊎◌, inl, inr, sym, subst, refl}
use Rattle.rkt_script.specs.Streams.{ReadsOn}
use Rattle.rkt_script.specs.declared.script.TheConstants.{SCRIPT_LIMIT}
use Rattle.rkt_demo.specs.Program.{IsAccepted, config_refusal}
use Rattle.rkt_demo.proofs.Runs.{IsRead, first_bad_read, not_bad, good_script, shown_script}
use Rattle.rkt_demo.proofs.Statuses.{wrote_status, wrote_not_1, wrote_not_2, wrote_not_3, wrote_not_4, wrote_unless}
use Rattle.rkt_demo.proofs.program.run.Goals as goal

either : {A B Goal : Type 0} → A ⊎ B → (A → Goal) → (B → Goal) → Goal
either (inl a) one other = one a
either (inr b) one other = other b

pub returns-in-Err-Refused-clause-memory_usage : goal.returns-in-Err-Refused-clause-memory_usage
returns-in-Err-Refused-clause-memory_usage g c six none = inr (c.refuse_words.ensures.starved six)

pub returns-in-Err-NoMemory-clause-memory_usage : goal.returns-in-Err-NoMemory-clause-memory_usage
returns-in-Err-NoMemory-clause-memory_usage g c six none = inl refl

pub returns-in-Err-Refused-clause-reads_on : goal.returns-in-Err-Refused-clause-reads_on
returns-in-Err-Refused-clause-reads_on g c other = inl ReadsOn.none

pub returns-in-Err-NoMemory-clause-reads_on : goal.returns-in-Err-NoMemory-clause-reads_on
returns-in-Err-NoMemory-clause-reads_on g c other = inl ReadsOn.none

pub returns-in-Err-NoMemory-clause-memory_text : goal.returns-in-Err-NoMemory-clause-memory_text
returns-in-Err-NoMemory-clause-memory_text g c six command = inl refl

pub returns-in-Err-NoMemory-parse_script-clause-memory_text : goal.returns-in-Err-NoMemory-parse_script-clause-memory_text
returns-in-Err-NoMemory-parse_script-clause-memory_text g c six command = inl refl

pub returns-clause-memory_text : goal.returns-clause-memory_text
returns-clause-memory_text g c six command = inl refl

pub returns-in-Err-Refused-parse_script-clause-script : goal.returns-in-Err-Refused-parse_script-clause-script
returns-in-Err-Refused-parse_script-clause-script g c three w is =
    let before = g.S.Source.meaning c.args.source.now in
    let read = subst (IsRead before.whole before.taken SCRIPT_LIMIT) (sym c.as_slice.ensures.value) c.in-Ok-read_all.ensures.bytes in
    let bad = rw c.in-Err-Refused-parse_script.field-0-is at c.in-Err-Refused-parse_script.ensures.line in
    (_, first_bad_read before.whole before.taken SCRIPT_LIMIT _ c.as_slice.result.now read bad w is, c.refuse_line.ensures.script three)

pub returns-in-Err-Refused-parse_script-clause-memory_text : goal.returns-in-Err-Refused-parse_script-clause-memory_text
returns-in-Err-Refused-parse_script-clause-memory_text g c six command = either (c.refuse_line.ensures.starved six) (λ same. inl same) (λ out. inr (
  c.in-Ok.table,
  c.in-Ok.ensures.read,
  λ w is.
      let before = g.S.Source.meaning c.args.source.now in
      let read = subst (IsRead before.whole before.taken SCRIPT_LIMIT) (sym c.as_slice.ensures.value) c.in-Ok-read_all.ensures.bytes in
      let bad = rw c.in-Err-Refused-parse_script.field-0-is at c.in-Err-Refused-parse_script.ensures.line in
      (_, inl (_, first_bad_read before.whole before.taken SCRIPT_LIMIT _ c.as_slice.result.now read bad w is, refl), out),
))

pub returns-in-Err-Refused-parse_script-clause-complete : goal.returns-in-Err-Refused-parse_script-clause-complete
returns-in-Err-Refused-parse_script-clause-complete g c table script command accepted is good unread unwritten =
    let before = g.S.Source.meaning c.args.source.now in
    let read = subst (IsRead before.whole before.taken SCRIPT_LIMIT) (sym c.as_slice.ensures.value) c.in-Ok-read_all.ensures.bytes in
    let bad = rw c.in-Err-Refused-parse_script.field-0-is at c.in-Err-Refused-parse_script.ensures.line in
    absurd (not_bad before script c.in-Err-Refused-parse_script.bad.number is good (first_bad_read before.whole before.taken SCRIPT_LIMIT _ c.as_slice.result.now read bad))

pub returns-in-Err-Refused-serve_with-clause-good : goal.returns-in-Err-Refused-serve_with-clause-good
returns-in-Err-Refused-serve_with-clause-good g c done w is =
    let before = g.S.Source.meaning c.args.source.now in
    let read = subst (IsRead before.whole before.taken SCRIPT_LIMIT) (sym c.as_slice.ensures.value) c.in-Ok-read_all.ensures.bytes in
    good_script before.whole before.taken SCRIPT_LIMIT c.as_slice.result.now read c.in-Ok-parse_script.ensures.good w is

pub returns-in-Err-Refused-serve_with-clause-memory_text : goal.returns-in-Err-Refused-serve_with-clause-memory_text
returns-in-Err-Refused-serve_with-clause-memory_text g c six command = inr (
  c.in-Ok.table,
  c.in-Ok.ensures.read,
  λ w is.
      let before = g.S.Source.meaning c.args.source.now in
      let read = subst (IsRead before.whole before.taken SCRIPT_LIMIT) (sym c.as_slice.ensures.value) c.in-Ok-read_all.ensures.bytes in
      let good = good_script before.whole before.taken SCRIPT_LIMIT c.as_slice.result.now read c.in-Ok-parse_script.ensures.good w is in
      (config_refusal, inr (inl (good, rw c.in-Err-Refused-serve_with.field-0-is at c.in-Err-Refused-serve_with.ensures.refused, refl)), c.refuse_config.ensures.starved six),
)

pub returns-in-Err-Refused-serve_with-clause-complete : goal.returns-in-Err-Refused-serve_with-clause-complete
returns-in-Err-Refused-serve_with-clause-complete g c table script command accepted is good unread unwritten =
    let refused : ¬ IsAccepted c.in-Ok.table = rw c.in-Err-Refused-serve_with.field-0-is at c.in-Err-Refused-serve_with.ensures.refused in
    absurd (refused (subst IsAccepted (c.sets_once.ensures _ c.in-Ok.table table c.in-Ok.ensures.read command) accepted))

pub returns-in-Ok-serve_with-clause-good : goal.returns-in-Ok-serve_with-clause-good
returns-in-Ok-serve_with-clause-good g c done w is =
    let before = g.S.Source.meaning c.args.source.now in
    let read = subst (IsRead before.whole before.taken SCRIPT_LIMIT) (sym c.as_slice.ensures.value) c.in-Ok-read_all.ensures.bytes in
    good_script before.whole before.taken SCRIPT_LIMIT c.as_slice.result.now read c.in-Ok-parse_script.ensures.good w is

pub returns-in-Ok-serve_with-clause-text : goal.returns-in-Ok-serve_with-clause-text
returns-in-Ok-serve_with-clause-text g c served = (
  c.in-Ok.table,
  c.in-Ok.ensures.read,
  (
    c.in-Ok-serve_with.ensures.accepted,
    λ w is.
        let before = g.S.Source.meaning c.args.source.now in
        let read = subst (IsRead before.whole before.taken SCRIPT_LIMIT) (sym c.as_slice.ensures.value) c.in-Ok-read_all.ensures.bytes in
        let window = (g.C.Clock.meaning c.args.clock).window in
        let text = c.in-Ok-serve_with.text.items in
        let shown = shown_script before.whole before.taken SCRIPT_LIMIT c.as_slice.result.now c.in-Ok.table window c.in-Ok-parse_script.requests.items text read c.in-Ok-parse_script.ensures.good c.in-Ok-parse_script.ensures.requests c.in-Ok-serve_with.ensures.served w is in
        (text, shown, rw c.as_slice-in-Ok-serve_with.ensures.value at (c.write_text.ensures.whole served)),
  ),
)

pub returns-in-Ok-serve_with-clause-write_text : goal.returns-in-Ok-serve_with-clause-write_text
returns-in-Ok-serve_with-clause-write_text g c refused = (
  c.in-Ok.table,
  c.in-Ok.ensures.read,
  (
    c.in-Ok-serve_with.ensures.accepted,
    λ w is.
        let before = g.S.Source.meaning c.args.source.now in
        let read = subst (IsRead before.whole before.taken SCRIPT_LIMIT) (sym c.as_slice.ensures.value) c.in-Ok-read_all.ensures.bytes in
        let window = (g.C.Clock.meaning c.args.clock).window in
        let text = c.in-Ok-serve_with.text.items in
        let shown = shown_script before.whole before.taken SCRIPT_LIMIT c.as_slice.result.now c.in-Ok.table window c.in-Ok-parse_script.requests.items text read c.in-Ok-parse_script.ensures.good c.in-Ok-parse_script.ensures.requests c.in-Ok-serve_with.ensures.served w is in
        (text, shown, rw c.as_slice-in-Ok-serve_with.ensures.value at (c.write_text.ensures.refused refused)),
  ),
)

pub returns-in-Ok-serve_with-clause-memory_text : goal.returns-in-Ok-serve_with-clause-memory_text
returns-in-Ok-serve_with-clause-memory_text g c six command = inr (
  c.in-Ok.table,
  c.in-Ok.ensures.read,
  λ w is.
      let before = g.S.Source.meaning c.args.source.now in
      let read = subst (IsRead before.whole before.taken SCRIPT_LIMIT) (sym c.as_slice.ensures.value) c.in-Ok-read_all.ensures.bytes in
      let window = (g.C.Clock.meaning c.args.clock).window in
      let text = c.in-Ok-serve_with.text.items in
      let shown = shown_script before.whole before.taken SCRIPT_LIMIT c.as_slice.result.now c.in-Ok.table window c.in-Ok-parse_script.requests.items text read c.in-Ok-parse_script.ensures.good c.in-Ok-parse_script.ensures.requests c.in-Ok-serve_with.ensures.served w is in
      let good = good_script before.whole before.taken SCRIPT_LIMIT c.as_slice.result.now read c.in-Ok-parse_script.ensures.good w is in
      (text, inr (inr (good, c.in-Ok-serve_with.ensures.accepted, shown)), rw c.as_slice-in-Ok-serve_with.ensures.value at (c.write_text.ensures.starved six)),
)

pub returns-in-Ok-serve_with-clause-known : goal.returns-in-Ok-serve_with-clause-known
returns-in-Ok-serve_with-clause-known g c = wrote_status _ c.write_text.ensures.known

pub returns-in-Ok-serve_with-clause-usage : goal.returns-in-Ok-serve_with-clause-usage
returns-in-Ok-serve_with-clause-usage g c is = absurd (wrote_not_2 _ c.write_text.ensures.known is)

pub returns-in-Ok-serve_with-clause-usage_text : goal.returns-in-Ok-serve_with-clause-usage_text
returns-in-Ok-serve_with-clause-usage_text g c is = absurd (wrote_not_2 _ c.write_text.ensures.known is)

pub returns-in-Ok-serve_with-clause-read : goal.returns-in-Ok-serve_with-clause-read
returns-in-Ok-serve_with-clause-read g c is = absurd (wrote_not_4 _ c.write_text.ensures.known is)

pub returns-in-Ok-serve_with-clause-read_text : goal.returns-in-Ok-serve_with-clause-read_text
returns-in-Ok-serve_with-clause-read_text g c is = absurd (wrote_not_4 _ c.write_text.ensures.known is)

pub returns-in-Ok-serve_with-clause-script : goal.returns-in-Ok-serve_with-clause-script
returns-in-Ok-serve_with-clause-script g c is = absurd (wrote_not_3 _ c.write_text.ensures.known is)

pub returns-in-Ok-serve_with-clause-config : goal.returns-in-Ok-serve_with-clause-config
returns-in-Ok-serve_with-clause-config g c is = absurd (wrote_not_1 _ c.write_text.ensures.known is)

pub returns-in-Ok-serve_with-clause-config_text : goal.returns-in-Ok-serve_with-clause-config_text
returns-in-Ok-serve_with-clause-config_text g c is = absurd (wrote_not_1 _ c.write_text.ensures.known is)

pub returns-in-Ok-serve_with-clause-no_command : goal.returns-in-Ok-serve_with-clause-no_command
returns-in-Ok-serve_with-clause-no_command g c none = absurd (none (c.in-Ok.table, c.in-Ok.ensures.read))

pub returns-in-Ok-serve_with-clause-unread : goal.returns-in-Ok-serve_with-clause-unread
returns-in-Ok-serve_with-clause-unread g c none = absurd (none (c.in-Ok.table, c.in-Ok.ensures.read))

pub returns-in-Ok-serve_with-clause-write : goal.returns-in-Ok-serve_with-clause-write
returns-in-Ok-serve_with-clause-write g c = c.write_text.ensures.cause

pub returns-in-Ok-serve_with-clause-memory_usage : goal.returns-in-Ok-serve_with-clause-memory_usage
returns-in-Ok-serve_with-clause-memory_usage g c six none = absurd (none (c.in-Ok.table, c.in-Ok.ensures.read))

pub returns-in-Ok-serve_with-clause-complete : goal.returns-in-Ok-serve_with-clause-complete
returns-in-Ok-serve_with-clause-complete g c table script command accepted is good unread unwritten = wrote_unless _ c.write_text.ensures.known c.write_text.ensures.cause unwritten
