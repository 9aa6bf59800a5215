-- The date that contracts name is the one that `httpdate` gives.
use Rattle.std.proofs.Common.{◌≡◌, ℕ, zero, suc, ◌+◌, ◌-◌, ◌*◌, ◌<◌, ◌≤◌, refl, sym, ap, add-one, ◌∙◌, arith, ⊎_elim, leb}
use Rattle.std.proofs.lemmas.Bool.{cond_both, cases_lt, leb-true, leb-false}
use Rattle.httpdate.specs.declared.date.HttpDate.{HttpDate}
use Rattle.httpdate.specs.Calendar.{days_in_year, days_in_month, days_of_years, days_of_months, days_from_civil, weekday}
use Rattle.httpdate.specs.Valid.{IsValid, parts_secs}
use Rattle.httpdate.specs.Date.{unix_secs}
use Rattle.httpdate.proofs.CalendarLemmas.{days_of_years_closed, days_of_months_more, days_of_months_all}
use Rattle.httpdate.proofs.Theorems.{unix_secs_injective}
use Rattle.rkt_cookie.specs.Date.{last_within, years_within, months_within, date_at, date_of, last_second}

-- a last place that is reached, behind which x is passed
record Placed (f : ℕ → ℕ) (n x k : ℕ) : Type 0 where
  inside : k ≤ n
  reached : f k ≤ x
  passed : k < n → x < f (k + 1)

placed_more : (f : ℕ → ℕ) (n x k : ℕ) → x < f (suc n) → Placed f n x k → Placed f (suc n) x k
placed_more f n x k high p =
    record {
      inside = omega (arith, p.inside);
      reached = p.reached;
      passed = λ below. ⊎_elim p.passed (λ last. let e : k + 1 ≡ suc n = omega (arith, p.inside) in rw e high) (cases_lt k n);
    }

placed : (f : ℕ → ℕ) (n x : ℕ) → f 0 ≤ x → Placed f n x (last_within f n x)
unfolding last_within
placed f zero x low = record { inside = omega arith; reached = low; passed = λ h. absurd (omega arith) }
placed f (suc n) x low =
    let before = placed f n x low in
    cond_both (leb (f (suc n)) x) (suc n) (last_within f n x) (Placed f (suc n) x)
    (λ yes. record { inside = omega arith; reached = leb-true _ _ yes; passed = λ h. absurd (omega arith) })
    (λ no. placed_more f n x _ (leb-false _ _ no) before)

years_from_nothing : days_of_years 0 ≡ 0
unfolding days_of_years
years_from_nothing = refl

one_more_year : (n : ℕ) → days_of_years (n + 1) ≡ days_of_years n + days_in_year (1970 + n)
unfolding days_of_years
one_more_year n = rw add-one

months_from_nothing : (y : ℕ) → days_of_months y 0 ≡ 0
unfolding days_of_months
months_from_nothing y = refl

-- the day lies in the year that it is placed in
record InYear (days years : ℕ) : Type 0 where
  small : years < 8030
  from : days_of_years years ≤ days
  to : days < days_of_years years + days_in_year (1970 + years)

in_year : (days : ℕ) → days < 2932897 → InYear days (years_within days)
in_year days small =
    let p = placed days_of_years 8029 days (rw years_from_nothing (omega arith)) in
    let years = years_within days in
    record {
      small = omega (arith, p.inside);
      from = p.reached;
      to = ⊎_elim (λ below. omega (arith, p.passed below, one_more_year years))
          (λ (last : 8029 ≤ years_within days). let e : years ≡ 8029 = omega (arith, p.inside) in
          rw e (omega (arith, days_of_years_closed 8030, one_more_year 8029)))
          (cases_lt years 8029);
    }

record InMonth (year day months : ℕ) : Type 0 where
  small : months < 12
  from : days_of_months year months ≤ day
  to : day < days_of_months year months + days_in_month year (months + 1)

one_more_month : (y m : ℕ) → days_of_months y (m + 1) ≡ days_of_months y m + days_in_month y (m + 1)
one_more_month y m =
    let back : m + 1 - 1 ≡ m = omega arith in
    let h = days_of_months_more y (m + 1) (omega arith) in
    rw back at h

in_month : (year day : ℕ) → day < days_in_year year → InMonth year day (months_within year day)
in_month year day small =
    let p = placed (days_of_months year) 11 day (rw months_from_nothing (omega arith)) in
    let months = months_within year day in
    record {
      small = omega (arith, p.inside);
      from = p.reached;
      to = ⊎_elim (λ below. omega (arith, p.passed below, one_more_month year months))
          (λ (last : 11 ≤ months_within year day). let e : months ≡ 11 = omega (arith, p.inside) in
          rw e (omega (arith, days_of_months_all year, one_more_month year 11)))
          (cases_lt months 11);
    }

-- the calendar counts back to the day that a date was made of
days_of_date : (days : ℕ) → days < 2932897 → days_from_civil (date_at days 0).year (date_at days 0).mon (date_at days 0).day ≡ days
days_of_date days small =
    let years = years_within days in
    let year = 1970 + years in
    let day = days - days_of_years years in
    let months = months_within year day in
    let y = in_year days small in
    let m = in_month year day (omega (arith, y.from, y.to)) in
    let back_year : 1970 + years - 1970 ≡ years = omega arith in
    let back_month : months + 1 - 1 ≡ months = omega arith in
    rw (back_year, back_month) (omega (arith, y.from, m.from))

valid_date : (days second : ℕ) → days < 2932897 → second < 86400 → IsValid (date_at days second)
valid_date days second small late =
    let years = years_within days in
    let year = 1970 + years in
    let day = days - days_of_years years in
    let months = months_within year day in
    let y = in_year days small in
    let m = in_month year day (omega (arith, y.from, y.to)) in (
      ((omega arith, omega (arith, y.small)), (omega arith, omega (arith, m.small)), (omega arith, omega (arith, m.from, m.to))),
      (omega arith, omega arith, omega arith),
      ap weekday (sym (days_of_date days small)),
    )

secs_of_date : (days second : ℕ) → days < 2932897 → second < 86400 → parts_secs (date_at days second) ≡ days * 86400 + second
secs_of_date days second small late = omega (arith, days_of_date days small)

-- the date of a moment is valid, and counts back to it
pub date_of_valid : (moment : ℕ) → moment ≤ last_second → IsValid (date_of moment)
unfolding date_of
date_of_valid moment small = valid_date _ _ (omega arith) (omega arith)

pub date_of_secs : (moment : ℕ) → moment ≤ last_second → parts_secs (date_of moment) ≡ moment
unfolding date_of
date_of_secs moment small = secs_of_date _ _ (omega arith) (omega arith) ∙ omega arith

-- a date with that many seconds is the date of the moment
pub date_of_is : (moment : ℕ) (d : HttpDate) → moment ≤ last_second → unix_secs d ≡ moment → d.parts ≡ date_of moment
date_of_is moment d small same =
    let valid = date_of_valid moment small in
    unix_secs_injective d (record { parts = date_of moment; civil = valid.0; time = valid.1; right_day = valid.2 })
    (same ∙ sym (date_of_secs moment small))
