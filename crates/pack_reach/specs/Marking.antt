-- How far the marks of a pack have come. Own.
use Rattle.std.specs.Prelude.{◌≡◌, ℕ, ◌+◌, ◌^◌, ◌<◌, ◌≤◌, ◌⊎◌, List, [], ◌∷◌, ◌++◌, Option, Some, None, Bool, true, false, IsTrue, IfSome, is_some, if◌then◌else◌, fold, max, length, refl}
use Rattle.std.specs.Coded.{Coded, code_by, coded×, coded_list, coded_option, coded_ℕ}
use Rattle.std.specs.List.{AllByRecursion}
use Rattle.std.specs.Option.{option_map}
use Rattle.std.specs.Ordering.{nat_cmp}
use Rattle.std.specs.FinSet.{FinSet, code, contains, empty, insert, len}
use Rattle.zb_model.specs.declared.data.Change.{Change}
use Rattle.zb_model.specs.declared.data.Content.{Content}
use Rattle.zb_model.specs.declared.data.Content.TheVariants as content
use Rattle.zb_model.specs.declared.data.Transaction.{Transaction}
use Rattle.zb_model.specs.declared.found.Found.{Found}
use Rattle.zb_model.specs.declared.found.Found.TheVariants as found
use Rattle.zb_model.specs.Database.{newest_tid, revision_below}
use Rattle.zb_model.specs.Queries.{first_after}
use Rattle.pack_reach.specs.Reach.{IsReached, IsUnreadable, is_at_most, is_in, is_pair_in, references_of, unreadable_in}
use Rattle.pack_reach.specs.Reached.{lesser}

-- What contracts see of a marker.
pub record MarkerState : Type 0 where
  -- the tid of the pack
  pub tid : ℕ
  -- the transactions above the pack's tid are read up to this one
  pub seen : ℕ
  -- the objects that are marked
  pub set : FinSet nat_cmp
  -- those of them whose last revision up to the pack's tid isn't read yet, in the order in which it will be
  pub waiting : List ℕ
  -- of the records that were met and can't be read, the one of the least object, then of the least serial
  pub unreadable : Option (ℕ × ℕ)
  -- how many marked objects its turns have answered so far; more may be marked already
  pub counted : ℕ

-- it is stored as the tuple of its fields
abbrev pub marker_code : Coded MarkerState
marker_code =
    code_by (ℕ × (ℕ × (FinSet nat_cmp × (List ℕ × (Option (ℕ × ℕ) × ℕ)))))
    (coded× coded_ℕ (coded× coded_ℕ (coded× (code coded_ℕ) (coded× (coded_list coded_ℕ) (coded× (coded_option (coded× coded_ℕ coded_ℕ)) coded_ℕ)))))
    (λ m. (m.tid, (m.seen, (m.set, (m.waiting, (m.unreadable, m.counted))))))
    (λ p. record { tid = p.0; seen = p.1.0; set = p.1.1.0; waiting = p.1.1.1.0; unreadable = p.1.1.1.1.0; counted = p.1.1.1.1.1 }) (λ _. refl)

-- a marker that has marked nothing
abbrev pub new_marker : ℕ → MarkerState
new_marker t = record { tid = t; seen = t; set = empty; waiting = []; unreadable = None; counted = 0 }

-- ---- what a marker has read

-- a record that can't be read was met: the least that was isn't greater
abbrev pub IsNoted : Option (ℕ × ℕ) → ℕ × ℕ → Type 0
IsNoted None p = ⊥
IsNoted (Some q) p = IsTrue (is_at_most q p)

-- a content is read: the objects that it names are marked, and a record that can't be read is noted
pub record IsRead (named : List ℕ → Option (List ℕ)) (m : MarkerState) (oid serial : ℕ) (content : Content) : Type 0 where
  pub marked : (n : ℕ) → IsTrue (is_in n (references_of named content)) → IsTrue (contains m.set n)
  pub noted : (p : ℕ × ℕ) → IsTrue (is_pair_in p (unreadable_in named oid serial content)) → IsNoted m.unreadable p

-- a change is read: its object is marked, and its content is read
abbrev pub IsChangeRead : (List ℕ → Option (List ℕ)) → MarkerState → ℕ → Change → Type 0
IsChangeRead named m tid c = IsTrue (contains m.set c.oid) × IsRead named m c.oid tid c.content

abbrev pub IsTransactionRead : (List ℕ → Option (List ℕ)) → MarkerState → Transaction → Type 0
IsTransactionRead named m x = AllByRecursion (IsChangeRead named m x.tid) x.changes

-- an object is followed: its last revision up to the pack's tid is read
abbrev pub IsFollowed : (List ℕ → Option (List ℕ)) → List Transaction → MarkerState → ℕ → Type 0
IsFollowed named list m oid = IfSome (revision_below oid (m.tid + 1) list) (λ r. IsRead named m oid r.serial r.content)

-- A marker stands for marks made over a list: what is marked is reached, what is noted can't be read, the transactions
-- above the pack's tid are read as far as they were seen, and each marked object waits or is followed.
pub record IsMarking (named : List ℕ → Option (List ℕ)) (list : List Transaction) (m : MarkerState) : Type 0 where
  pub from : m.tid ≤ m.seen
  pub within : m.seen ≤ max m.tid (newest_tid list)
  pub reached : (oid : ℕ) → IsTrue (contains m.set oid) → IsReached named m.tid list oid
  pub noted : IfSome m.unreadable (IsUnreadable named m.tid list)
  pub read : AllByRecursion (λ x. m.tid < x.tid → x.tid ≤ m.seen → IsTransactionRead named m x) list
  pub followed : (oid : ℕ) → IsTrue (contains m.set oid) → IsTrue (is_in oid m.waiting) ⊎ IsFollowed named list m oid
  pub waiting : (oid : ℕ) → IsTrue (is_in oid m.waiting) → IsTrue (contains m.set oid)

-- a list has grown from a front: each transaction behind it is above t
pub record HasGrown (t : ℕ) (front later list : List Transaction) : Type 0 where
  pub split : list ≡ front ++ later
  pub above : AllByRecursion (λ x. t < x.tid) later

-- A marker may mark over a list: it stands for marks made over what the list begins with, and each transaction behind that
-- is above the pack's tid. A new marker may, over any list.
pub record MayMark (named : List ℕ → Option (List ℕ)) (list : List Transaction) (m : MarkerState) : Type 0 where
  pub front : List Transaction
  pub later : List Transaction
  pub split : list ≡ front ++ later
  pub above : AllByRecursion (λ x. m.tid < x.tid) later
  pub marks : IsMarking named front m

-- ---- steps of a marker

-- an object is marked, and waits, unless it was marked
abbrev pub with_mark : MarkerState → ℕ → MarkerState
with_mark m oid = if contains m.set oid then m else record m { set = insert m.set oid; waiting = m.waiting ++ oid ∷ [] }

abbrev pub with_marks : MarkerState → List ℕ → MarkerState
with_marks m oids = fold with_mark m oids

-- a record that can't be read is noted
abbrev pub with_note : MarkerState → ℕ × ℕ → MarkerState
with_note m p = record m { unreadable = lesser p m.unreadable }

-- a record is read, by what it names
abbrev pub with_record : Option (List ℕ) → MarkerState → ℕ → ℕ → MarkerState
with_record None m oid serial = with_note m (oid, serial)
with_record (Some oids) m oid serial = with_marks m oids

-- it is read in part: some of the objects that it names are marked, from the first on
abbrev pub IsPartlyRead : Option (List ℕ) → MarkerState → MarkerState → Type 0
IsPartlyRead None old new = new ≡ old
IsPartlyRead (Some oids) old new = (front : List ℕ) × (rest : List ℕ) × (oids ≡ front ++ rest) × (new ≡ with_marks old front)

-- the reach follows a content: what it names is reached, and a record that can't be read counts
pub record MayRead (named : List ℕ → Option (List ℕ)) (t : ℕ) (list : List Transaction) (oid serial : ℕ) (content : Content) : Type 0 where
  pub names : (n : ℕ) → IsTrue (is_in n (references_of named content)) → IsReached named t list n
  pub unreadable : (p : ℕ × ℕ) → IsTrue (is_pair_in p (unreadable_in named oid serial content)) → IsUnreadable named t list p

-- and so with a change and a transaction
abbrev pub MayReadChange : (List ℕ → Option (List ℕ)) → ℕ → List Transaction → ℕ → Change → Type 0
MayReadChange named t list tid c = IsReached named t list c.oid × MayRead named t list c.oid tid c.content

abbrev pub MayReadTransaction : (List ℕ → Option (List ℕ)) → ℕ → List Transaction → Transaction → Type 0
MayReadTransaction named t list x = AllByRecursion (MayReadChange named t list x.tid) x.changes

-- what is marked anew waits, and what waits anew is marked anew
pub record MarksFresh (old new : MarkerState) : Type 0 where
  pub fresh : (oid : ℕ) → IsTrue (contains new.set oid) → IsTrue (contains old.set oid) ⊎ IsTrue (is_in oid new.waiting)
  pub line : (oid : ℕ) → IsTrue (is_in oid new.waiting) → IsTrue (is_in oid old.waiting) ⊎ ((contains old.set oid ≡ false) × IsTrue (contains new.set oid))

-- A marker has come further: more is marked, and as many more wait, behind those that did; what was marked or noted still
-- is; the tid, how far transactions are read and what turns answered stay.
pub record OnlyMarks (old new : MarkerState) : Type 0 where
  pub tid : new.tid ≡ old.tid
  pub seen : new.seen ≡ old.seen
  pub counted : new.counted ≡ old.counted
  pub kept : (oid : ℕ) → IsTrue (contains old.set oid) → IsTrue (contains new.set oid)
  pub line : (more : List ℕ) × (new.waiting ≡ old.waiting ++ more)
  pub marks : MarksFresh old new
  pub noted : (p : ℕ × ℕ) → IsNoted old.unreadable p → IsNoted new.unreadable p
  pub balance : length new.waiting + len old.set ≡ length old.waiting + len new.set

-- what it marked more is reached and waits, and what it noted anew the reach follows
pub record IsSound (named : List ℕ → Option (List ℕ)) (list : List Transaction) (old new : MarkerState) : Type 0 where
  pub fresh : (oid : ℕ) → IsTrue (contains new.set oid) → IsTrue (contains old.set oid) ⊎ (IsTrue (is_in oid new.waiting) × IsReached named old.tid list oid)
  pub found : (new.unreadable ≡ old.unreadable) ⊎ IfSome new.unreadable (IsUnreadable named old.tid list)

-- ---- what a store finds of an object

-- what is found of an object's last revision up to the pack's tid may be read, and is read
abbrev pub MayReadFound : (List ℕ → Option (List ℕ)) → ℕ → List Transaction → ℕ → Found → Type 0
MayReadFound named t list oid (found.Held serial bytes end) = MayRead named t list oid serial (content.Held bytes)
MayReadFound named t list oid (found.Absent serial) = Unit {0}
MayReadFound named t list oid found.Nothing = Unit {0}

abbrev pub IsFoundRead : (List ℕ → Option (List ℕ)) → MarkerState → ℕ → Found → Type 0
IsFoundRead named m oid (found.Held serial bytes end) = IsRead named m oid serial (content.Held bytes)
IsFoundRead named m oid (found.Absent serial) = Unit {0}
IsFoundRead named m oid found.Nothing = Unit {0}

-- ---- steps over a store

-- the tid stays, and so does what is marked
pub record KeepsMarks (old new : MarkerState) : Type 0 where
  pub tid : new.tid ≡ old.tid
  pub kept : (oid : ℕ) → IsTrue (contains old.set oid) → IsTrue (contains new.set oid)

-- the next transaction is seen, or there is none
abbrev pub IsNextSeen : List Transaction → MarkerState → MarkerState → Bool → Type 0
IsNextSeen list old new true = (old.seen < new.seen) × (option_map (λ (x : Transaction). x.tid) (first_after old.seen list) ≡ Some new.seen)
IsNextSeen list old new false = (first_after old.seen list ≡ None) × (new ≡ old)

-- one that waited is followed
abbrev pub IsOneFollowed : MarkerState → MarkerState → Type 0
IsOneFollowed old new = 0 < length old.waiting → length new.waiting + 1 + len old.set ≡ length old.waiting + len new.set

-- an object, where it has a revision up to t
abbrev pub revised : ℕ → List Transaction → ℕ → Option ℕ
revised t list oid = if is_some (revision_below oid (t + 1) list) then Some oid else None

-- by what was found of it
abbrev pub revised_as : ℕ → Found → Option ℕ
revised_as oid (found.Held serial bytes end) = Some oid
revised_as oid (found.Absent serial) = Some oid
revised_as oid found.Nothing = None

-- What follows from one that was followed, and is this object where it has a revision up to the pack's tid: what is marked
-- anew waits, and what waited does, but for the followed one.
pub record FollowsOne (list : List Transaction) (old new : MarkerState) (followed : Option ℕ) : Type 0 where
  pub kept : (oid : ℕ) → IsTrue (contains old.set oid) → IsTrue (contains new.set oid)
  pub fresh : (oid : ℕ) → IsTrue (contains new.set oid) → (IsTrue (contains old.set oid) ⊎ IsTrue (is_in oid old.waiting)) ⊎ IsTrue (is_in oid new.waiting)
  pub line : (oid : ℕ) → IsTrue (is_in oid new.waiting) → IsTrue (is_in oid old.waiting) ⊎ ((contains old.set oid ≡ false) × IsTrue (contains new.set oid))
  pub gone : (oid : ℕ) → IsTrue (is_in oid old.waiting) → IsTrue (is_in oid new.waiting) ⊎ (followed ≡ revised old.tid list oid)
  pub one : IfSome followed (λ oid. IsTrue (is_in oid old.waiting) × IsTrue (is_some (revision_below oid (old.tid + 1) list)))

-- the least is there and isn't greater
abbrev pub IsLow : Option ℕ → ℕ → Type 0
IsLow None oid = ⊥
IsLow (Some n) oid = n ≤ oid

-- Of the objects that were marked beyond a set, and of these those that wait no more, this is the least that has a revision
-- up to the pack's tid, or none has.
pub record IsLeastFollowed (list : List Transaction) (before : FinSet nat_cmp) (m : MarkerState) (least : Option ℕ) : Type 0 where
  pub within : (oid : ℕ) → IsTrue (contains before oid) → IsTrue (contains m.set oid)
  pub apart : (oid : ℕ) → IsTrue (is_in oid m.waiting) → contains before oid ≡ false
  pub marked : (oid : ℕ) → IsTrue (is_in oid m.waiting) → IsTrue (contains m.set oid)
  pub one : IfSome least (λ oid. IsTrue (contains m.set oid) × (contains before oid ≡ false) × IsTrue (is_some (revision_below oid (m.tid + 1) list)))
  pub low : (oid : ℕ) → IsTrue (contains m.set oid) → contains before oid ≡ false → IsTrue (is_some (revision_below oid (m.tid + 1) list)) → IsTrue (is_in oid m.waiting) ⊎ IsLow least oid

-- the root is marked, no transaction is left to be read, and no object waits
pub record IsComplete (list : List Transaction) (m : MarkerState) : Type 0 where
  pub root : IsTrue (contains m.set 0)
  pub seen : first_after m.seen list ≡ None
  pub line : m.waiting ≡ []

-- more objects are marked than this
pub record IsPast (limit : ℕ) (m : MarkerState) : Type 0 where
  pub past : limit < len m.set
  pub bound : len m.set < 2 ^ 63

-- all that is reached over a list is marked, and each record that the reach follows could be read
pub record IsMarkedWhole (named : List ℕ → Option (List ℕ)) (list : List Transaction) (m : MarkerState) : Type 0 where
  pub marks : IsMarking named list m
  pub all : IsComplete list m
  pub readable : m.unreadable ≡ None
