-- What is read as a time is spelled so, and what is spelled so is read.
use Rattle.std.proofs.Common.{◌≡◌, ℕ, ◌+◌, ◌*◌, ◌/◌, ◌%◌, ◌<◌, ◌≤◌, ◌≢◌, Bool, true, false, cond, List, length, Some, None, Ok, Err, refl, sym, ap, subst, ◌∙◌, arith}
use Rattle.std.specs.Prelude.{◌&&◌, nat_le, nat_lt, Result, IfOk, IsErr, IsOkAnd}
use Rattle.std.specs.Str.{bytes_eq}
use Rattle.std.proofs.lemmas.Bool.{leb-true, le-leb, ltb-true, lt-ltb}
use Rattle.std.proofs.lemmas.Option.{cond_some, same_Some}
use Rattle.std.proofs.lemmas.Slice.Eq.{bytes_eq-Decides}
use Rattle.zb_ids.specs.Calendar.{IsStampOf, days_in}
use Rattle.zb_ids.specs.declared.stamp.OutOfRange.{OutOfRange}
use Rattle.zb_ids.specs.declared.stamp.Stamp.{Stamp}
use Rattle.zb_ids.specs.Spelling.{Time, IsTextOf, ReadsTime, is_time, time_at, time_in, time_of, time_text}

-- the date and the time exist
abbrev pub IsTime : Time → Type 0
IsTime t = IsStampOf t.year t.month t.day t.hour t.minute (t.second * 1000000)

both : (a b : Bool) → a && b ≡ true → (a ≡ true) × (b ≡ true)
both true b e = (refl, e)
both false b e = absurd cc

pub time_is : (t : Time) → IsTime t → is_time t ≡ true
time_is t h =
    rw (
      le-leb 1900 t.year h.first_year,
      le-leb t.year 9916 h.last_year,
      le-leb 1 t.month h.first_month,
      le-leb t.month 12 h.last_month,
      le-leb 1 t.day h.first_day,
      le-leb t.day (days_in t.year t.month) h.last_day,
      lt-ltb t.hour 24 h.hours,
      lt-ltb t.minute 60 h.minutes,
      lt-ltb t.second 60 (omega (arith, h.seconds)),
    ) refl

pub is_time_is : (t : Time) → is_time t ≡ true → IsTime t
is_time_is t e =
    let a = both (nat_le 1900 t.year) _ e in
    let b = both (nat_le t.year 9916) _ a.1 in
    let c = both (nat_le 1 t.month) _ b.1 in
    let d = both (nat_le t.month 12) _ c.1 in
    let f = both (nat_le 1 t.day) _ d.1 in
    let g = both (nat_le t.day (days_in t.year t.month)) _ f.1 in
    let h = both (nat_lt t.hour 24) _ g.1 in
    let k = both (nat_lt t.minute 60) _ h.1 in
    record {
      first_year = leb-true 1900 t.year a.0;
      last_year = leb-true t.year 9916 b.0;
      first_month = leb-true 1 t.month c.0;
      last_month = leb-true t.month 12 d.0;
      first_day = leb-true 1 t.day f.0;
      last_day = leb-true t.day (days_in t.year t.month) g.0;
      hours = ltb-true t.hour 24 h.0;
      minutes = ltb-true t.minute 60 k.0;
      seconds = omega (arith, ltb-true t.second 60 k.1);
    }

neither : (b : Bool) (t : Time) → cond (b && false) (Some t) None ≡ None
neither true t = refl
neither false t = refl

-- a text of another length is none
pub too_long : (text : List ℕ) → length text ≢ 19 → time_at text ≡ None
unfolding time_at
too_long text h = by_test (bytes_eq text (time_text (time_in text))) refl
  where
    by_test : (b : Bool) → bytes_eq text (time_text (time_in text)) ≡ b → cond (is_time (time_in text) && bytes_eq text (time_text (time_in text))) (Some (time_in text)) None ≡ None
    by_test true e = absurd (h (ap length ((bytes_eq-Decides text (time_text (time_in text))).0 e)))
    by_test false e = rw e (neither (is_time (time_in text)) (time_in text))

-- nor is one of a time that doesn't exist
pub no_time : (text : List ℕ) → (IsTime (time_in text) → ⊥) → time_at text ≡ None
unfolding time_at
no_time text h = by_test (is_time (time_in text)) refl
  where
    by_test : (b : Bool) → is_time (time_in text) ≡ b → cond (is_time (time_in text) && bytes_eq text (time_text (time_in text))) (Some (time_in text)) None ≡ None
    by_test true e = absurd (h (is_time_is (time_in text) e))
    by_test false e = rw e refl

pub another_text : (text spelled : List ℕ) → spelled ≡ time_text (time_in text) → false ≡ bytes_eq spelled text → time_at text ≡ None
unfolding time_at
another_text text spelled is differs = by_test (bytes_eq text (time_text (time_in text))) refl
  where
    by_test : (b : Bool) → bytes_eq text (time_text (time_in text)) ≡ b → cond (is_time (time_in text) && bytes_eq text (time_text (time_in text))) (Some (time_in text)) None ≡ None
    by_test true e =
        let same : spelled ≡ text = is ∙ sym ((bytes_eq-Decides text (time_text (time_in text))).0 e) in
        let never : false ≡ true = differs ∙ (bytes_eq-Decides spelled text).1 same in
        absurd cc
    by_test false e = rw e (neither (is_time (time_in text)) (time_in text))

pub reads_none : (text : List ℕ) (r : Result Stamp OutOfRange) → IsErr r → time_at text ≡ None → ReadsTime r (time_at text)
reads_none text (Ok stamp) h e = absurd cc
reads_none text (Err error) h e = e

pub this_text : (text : List ℕ) → IsTime (time_in text) → text ≡ time_text (time_in text) → time_at text ≡ Some (time_in text)
unfolding time_at
this_text text h e = rw (time_is (time_in text) h, (bytes_eq-Decides text (time_text (time_in text))).1 e) refl

-- ---- what is read is spelled so, and what is spelled so is read

pub time_takes : (text : List ℕ) (t : Time) → time_at text ≡ Some t → text ≡ time_text t
unfolding time_at
time_takes text t e =
    let p = cond_some (is_time (time_in text) && bytes_eq text (time_text (time_in text))) (time_in text) t e in
    (bytes_eq-Decides text (time_text (time_in text))).0 (both (is_time (time_in text)) _ p.0).1 ∙ ap time_text p.1

-- the digit's value is found in its lower half
digit_back : (d : ℕ) → d < 10 → (48 + d) % 16 ≡ d
digit_back d h = omega (arith, h)

two_back : (n : ℕ) → n < 100 → 10 * ((48 + n / 10) % 16) + (48 + n % 10) % 16 ≡ n
two_back n h = rw (digit_back (n / 10) (omega (arith, h)), digit_back (n % 10) (omega arith)) (omega arith)

time_back : (t : Time) → IsTime t → time_in (time_text t) ≡ t
time_back t h =
    rw (
      two_back (t.year / 100) (omega (arith, h.last_year)),
      two_back (t.year % 100) (omega arith),
      two_back t.month (omega (arith, h.last_month)),
      two_back t.day (day_small t.year t.month t.day h.last_day),
      two_back t.hour (omega (arith, h.hours)),
      two_back t.minute (omega (arith, h.minutes)),
      two_back t.second (omega (arith, h.seconds)),
    )
    (ap (λ (y : ℕ). record { year = y; month = t.month; day = t.day; hour = t.hour; minute = t.minute; second = t.second }) (year_back t.year))
  where
    year_back : (y : ℕ) → y / 100 * 100 + y % 100 ≡ y
    year_back y = omega arith

    day_small : (year month day : ℕ) → day ≤ days_in year month → day < 100
    day_small year month day h = grind arith

pub time_again : (text : List ℕ) (t : Time) → IsTime t → text ≡ time_text t → time_at text ≡ Some t
time_again text t h is =
    let back : time_in text ≡ t = ap time_in is ∙ time_back t h in
    this_text text (subst IsTime (sym back) h) (is ∙ ap time_text (sym back)) ∙ ap (λ (x : Time). Some x) back

-- ---- stamps

stamp_time : (stamp : Stamp) → stamp.micros ≡ stamp.micros / 1000000 * 1000000 → IsTime (time_of stamp)
stamp_time stamp e = subst (λ (n : ℕ). IsStampOf stamp.year stamp.month stamp.day stamp.hour stamp.minute n) e stamp.exists

pub text_found : (text : List ℕ) (r : Result Stamp OutOfRange) → ReadsTime r (time_at text) → IfOk r (λ stamp. IsTextOf text stamp)
text_found text (Ok stamp) h = record { spelled = time_takes text (time_of stamp) h.0; whole = h.1 }
text_found text (Err e) h = tt

pub only_text : (text : List ℕ) (r : Result Stamp OutOfRange) (stamp : Stamp) → ReadsTime r (time_at text) → IsTextOf text stamp
    → IsOkAnd r (λ found. (time_of found ≡ time_of stamp) × (found.micros ≡ stamp.micros))
only_text text (Ok found) stamp h is =
    let again = time_again text (time_of stamp) (stamp_time stamp is.whole) is.spelled in
    let same : time_of found ≡ time_of stamp = same_Some _ _ (sym h.0 ∙ again) in
    (same, h.1 ∙ ap (λ (t : Time). t.second * 1000000) same ∙ sym is.whole)
only_text text (Err e) stamp h is =
    let again = time_again text (time_of stamp) (stamp_time stamp is.whole) is.spelled in
    absurd (none_some (time_of stamp) (sym h ∙ again))
  where
    none_some : (t : Time) → None ≡ Some t → ⊥
    none_some t e = absurd cc
