-- What the header `Expect-CT` says.
use Rattle.std.specs.Prelude.{ℕ, List, ◌++◌, codes}
use Rattle.rkt_shield.specs.Age.{max_age}
use Rattle.rkt_shield.specs.declared.expect_ct.ExpectCt.{ExpectCt}
use Rattle.rkt_shield.specs.declared.expect_ct.ExpectCt.TheVariants.{Enforce, Report, ReportAndEnforce}

-- a text, and behind it where to report
abbrev pub with_report : List ℕ → List ℕ → List ℕ
with_report text uri = text ++ codes ", report-uri=\"" ++ uri ++ codes "\""

abbrev pub expect_ct_text : ExpectCt → List ℕ
expect_ct_text (Enforce age) = max_age age (codes ", enforce")
expect_ct_text (Report age uri) = max_age age (with_report (codes "") uri)
expect_ct_text (ReportAndEnforce age uri) = max_age age (with_report (codes ", enforce") uri)
