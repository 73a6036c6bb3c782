-- What an object has from the serial of a revision up to its next one. For the proofs of those who keep revisions.
use Rattle.std.proofs.Common.{◌≡◌, ℕ, ◌+◌, ◌<◌, ◌≤◌, ◌⊎◌, ⊎_elim, List, [], ◌∷◌, Option, Some, None, Bool, true, false, cond, filter, refl, ap, sym, ◌∙◌, subst, arith}
use Rattle.std.specs.List.{find, last_or}
use Rattle.std.specs.Option.{option_and_then, option_map}
use Rattle.std.proofs.lemmas.Bool.{cases_Bool, cases_lt, le-leb, le-ltb, lt-leb, lt-ltb}
use Rattle.std.proofs.lemmas.Option.{same_Some}
use Rattle.zb_model.specs.declared.data.Content.{Content}
use Rattle.zb_model.specs.declared.data.Content.TheVariants.{Held, Absent}
use Rattle.zb_model.specs.declared.data.Transaction.{Transaction}
use Rattle.zb_model.specs.declared.found.Found.TheVariants as found
use Rattle.zb_model.specs.Database.{IsDatabase, ObjectRevision, is_below, revision_below, revisions}
use Rattle.zb_model.specs.Queries.{end_of, found_as, found_below, found_of, is_from}
use Rattle.zb_model.specs.SerialLaws.{SerialsTo, database_serials}
use Rattle.connection_view.specs.Views.{read_as, read_below, read_from}
use Rattle.zeo_serving.specs.Entries.{IsUpTo}

-- ---- serials that rise

lower : (low low' high : ℕ) (rs : List ObjectRevision) → low ≤ low' → SerialsTo low' high rs → SerialsTo low high rs
lower low low' high [] l h = omega (arith, l, h)
lower low low' high (r ∷ rs) l h = (omega (arith, l, h.0), h.1)

-- nothing of what rises from a serial on is below a front up to it
none_below : (front low high : ℕ) (rs : List ObjectRevision) → front ≤ low + 1 → SerialsTo low high rs → filter (is_below front) rs ≡ []
none_below front low high [] l h = refl
none_below front low high (r ∷ rs) l h =
    let k : front ≤ r.serial = omega (arith, l, h.0) in
    rw (le-ltb r.serial front k) (none_below front r.serial high rs (omega (arith, k)) h.1)

same_some : (x y : ObjectRevision) → ◌≡◌ {A = Option ObjectRevision} (Some x) (Some y) → x ≡ y
same_some x y is = cc

-- the last of what rises from x on isn't before x
last_from : (p : ObjectRevision → Bool) (x : ObjectRevision) (high : ℕ) (rs : List ObjectRevision) (r : ObjectRevision) → SerialsTo x.serial high rs → last_or (Some x) (filter p rs) ≡ Some r → x.serial ≤ r.serial
last_from p x high [] r h e = let k : x.serial ≡ r.serial = ap (λ (y : ObjectRevision). y.serial) (same_some x r e) in omega (arith, k)
last_from p x high (y ∷ rs) r h e =
    let lt = h.0 in
    ⊎_elim (λ (t : p y ≡ true). let k : y.serial ≤ r.serial = last_from p y high rs r h.1 (subst (λ (b : Bool). last_or (Some x) (cond b (y ∷ filter p rs) (filter p rs)) ≡ Some r) t e) in omega (arith, k, lt))
    (λ (t : p y ≡ false). last_from p x high rs r (lower x.serial y.serial high rs (omega (arith, lt)) h.1) (subst (λ (b : Bool). last_or (Some x) (cond b (y ∷ filter p rs) (filter p rs)) ≡ Some r) t e))
    (cases_Bool (p y))

-- ---- from a serial up to the next

abbrev next_from : ℕ → List ObjectRevision → Option ℕ
next_from front rs = option_map (λ (r : ObjectRevision). r.serial) (find (is_from front) rs)

-- what is the last below f is the last below each front from its serial to its end
interval : (f g low high : ℕ) (o : Option ObjectRevision) (rs : List ObjectRevision) (r : ObjectRevision) → SerialsTo low high rs
    → last_or o (filter (is_below f) rs) ≡ Some r → r.serial < g → IsUpTo g (next_from f rs) → last_or o (filter (is_below g) rs) ≡ Some r
interval f g low high o [] r h e lt up = e
interval f g low high o (x ∷ rs) r h e lt up =
    ⊎_elim (λ (b : x.serial < f).
    let e' : last_or (Some x) (filter (is_below f) rs) ≡ Some r = rw (lt-ltb x.serial f b) at e in
    let up' : IsUpTo g (next_from f rs) = rw (lt-leb f x.serial b) at up in
    let early : x.serial ≤ r.serial = last_from (is_below f) x high rs r h.1 e' in
    let b' : x.serial < g = omega (arith, early, lt) in
    rw (lt-ltb x.serial g b') (interval f g x.serial high (Some x) rs r h.1 e' lt up'))
    (λ (b : f ≤ x.serial).
    let none : filter (is_below f) rs ≡ [] = none_below f x.serial high rs (omega (arith, b)) h.1 in
    let e' : last_or o (filter (is_below f) rs) ≡ Some r = rw (le-ltb x.serial f b) at e in
    let up' : g ≤ x.serial = rw (le-leb f x.serial b) at up in
    let is : o ≡ Some r = rw none at e' in
    rw (le-ltb x.serial g up') (ap (last_or o) (none_below g x.serial high rs (omega (arith, up')) h.1) ∙ is))
    (cases_lt x.serial f)

-- what is the last below a front has no next one below it
reaches : (g low high : ℕ) (o : Option ObjectRevision) (rs : List ObjectRevision) (r : ObjectRevision) (end : ℕ) → SerialsTo low high rs → ((x : ObjectRevision) → o ≡ Some x → x.serial ≤ low)
    → last_or o (filter (is_below g) rs) ≡ Some r → next_from (r.serial + 1) rs ≡ Some end → g ≤ end
reaches g low high o [] r end h before e next = absurd cc
reaches g low high o (x ∷ rs) r end h before e next =
    ⊎_elim (λ (b : x.serial < g).
    let e' : last_or (Some x) (filter (is_below g) rs) ≡ Some r = rw (lt-ltb x.serial g b) at e in
    let early : x.serial ≤ r.serial = last_from (is_below g) x high rs r h.1 e' in
    let next' : next_from (r.serial + 1) rs ≡ Some end = rw (lt-leb (r.serial + 1) x.serial (omega (arith, early))) at next in
    reaches g x.serial high (Some x) rs r end h.1 (λ y is. let k : x.serial ≡ y.serial = ap (λ (z : ObjectRevision). z.serial) (same_some x y is) in omega (arith, k)) e' next')
    (λ (b : g ≤ x.serial).
    let none : filter (is_below g) rs ≡ [] = none_below g x.serial high rs (omega (arith, b)) h.1 in
    let e' : last_or o (filter (is_below g) rs) ≡ Some r = rw (le-ltb x.serial g b) at e in
    let is : o ≡ Some r = rw none at e' in
    let low_r : r.serial ≤ low = before r is in
    let next' : ◌≡◌ {A = Option ℕ} (Some x.serial) (Some end) = rw (le-leb (r.serial + 1) x.serial (omega (arith, low_r, h.0))) at next in
    let k : x.serial ≡ end = cc in
    omega (arith, b, k))
    (cases_lt x.serial g)

-- ---- what an object has

-- the revision of what is read, with its serial
pub record IsReadFrom (o : Option ObjectRevision) (serial : ℕ) (bytes : List ℕ) : Type 0 where
  pub revision : ObjectRevision
  pub is : o ≡ Some revision
  pub serial_is : revision.serial ≡ serial
  pub content : revision.content ≡ Held bytes

content_of : (r : ObjectRevision) (c : Content) (serial : ℕ) (bytes : List ℕ) → r.content ≡ c → read_as r.serial c ≡ Some (serial, bytes) → IsReadFrom (Some r) serial bytes
content_of r Absent serial bytes e is = absurd cc
content_of r (Held b) serial bytes e is =
    let made : ℕ × List ℕ = (r.serial, b) in
    let want : ℕ × List ℕ = (serial, bytes) in
    let same : made ≡ want = same_Some made want is in
    let s : r.serial ≡ serial = ap (λ (d : ℕ × List ℕ). d.0) same in
    let w : b ≡ bytes = ap (λ (d : ℕ × List ℕ). d.1) same in
    record { revision = r; is = refl; serial_is = s; content = e ∙ ap Held w }

pub read_is : (o : Option ObjectRevision) (serial : ℕ) (bytes : List ℕ) → option_and_then read_from o ≡ Some (serial, bytes) → IsReadFrom o serial bytes
read_is None serial bytes is = absurd cc
read_is (Some r) serial bytes is = content_of r r.content serial bytes refl is

some_pair : (s t : ℕ) (v w : List ℕ) → s ≡ t → v ≡ w → ◌≡◌ {A = Option (ℕ × List ℕ)} (Some (s, v)) (Some (t, w))
some_pair s t v w a b = cc

reads_as : (r : ObjectRevision) (serial : ℕ) (bytes : List ℕ) → r.serial ≡ serial → r.content ≡ Held bytes → read_from r ≡ Some (serial, bytes)
reads_as r serial bytes s c = ap (read_as r.serial) c ∙ some_pair r.serial serial bytes bytes s refl

pub is_read : (o : Option ObjectRevision) (serial : ℕ) (bytes : List ℕ) → IsReadFrom o serial bytes → option_and_then read_from o ≡ Some (serial, bytes)
is_read o serial bytes x = ap (option_and_then read_from) x.is ∙ reads_as x.revision serial bytes x.serial_is x.content

-- what is read below a front is read below each front from its serial to its end
pub read_between : (oid f g serial : ℕ) (bytes : List ℕ) (list : List Transaction) → IsDatabase list → read_below oid f list ≡ Some (serial, bytes) → serial < g → IsUpTo g (end_of oid f list)
    → read_below oid g list ≡ Some (serial, bytes)
read_between oid f g serial bytes list is e lt up =
    let x = read_is (revision_below oid f list) serial bytes e in
    is_read (revision_below oid g list) serial bytes (record {
      revision = x.revision;
      is = interval f g 0 _ None (revisions oid list) x.revision (database_serials oid list is) x.is (omega (arith, lt, x.serial_is)) up;
      serial_is = x.serial_is;
      content = x.content;
    })

-- and no next one is below such a front
pub no_next_below : (oid g serial : ℕ) (bytes : List ℕ) (end : ℕ) (list : List Transaction) → IsDatabase list → read_below oid g list ≡ Some (serial, bytes) → end_of oid (serial + 1) list ≡ Some end → g ≤ end
no_next_below oid g serial bytes end list is e next =
    let x = read_is (revision_below oid g list) serial bytes e in
    reaches g 0 _ None (revisions oid list) x.revision end (database_serials oid list is) (λ y is. absurd (none_some y is)) x.is
    (ap (λ (k : ℕ). next_from (k + 1) (revisions oid list)) x.serial_is ∙ next)
  where
    none_some : (y : ObjectRevision) → ◌≡◌ {A = Option ObjectRevision} None (Some y) → ⊥
    none_some y is = absurd cc
