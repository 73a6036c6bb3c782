-- What holds of every machine that sessions lead to, and how its list grows and is packed. Own.
use Rattle.std.specs.Prelude.{◌≡◌, ℕ, ◌<◌, ◌≤◌, ◌-◌, ◌^◌, ◌⊎◌, Bool, List, [], ◌∷◌, ◌++◌, Option, Some, None, All, false, length, map, nat_eq}
use Rattle.std.specs.List.{AllByRecursion, IsDistinct}
use Rattle.std.specs.Ordering.{nat_cmp}
use Rattle.std.specs.FinSet.{FinSet}
use Rattle.zb_model.specs.declared.data.Change.{Change}
use Rattle.zb_model.specs.declared.data.Transaction.{Transaction}
use Rattle.zb_model.specs.declared.pending.PendingStore.{PendingStore}
use Rattle.zb_model.specs.Database.{IsDatabase, IsRecord, newest_tid}
use Rattle.zb_model.specs.Packing.{packed_by}
use Rattle.zb_model.specs.Queries.{greatest_oid}
use Rattle.pack_reach.specs.Packed.{packed}
use Rattle.zodb_core.specs.declared.request.Request.{Request}
use Rattle.zodb_core.specs.declared.request.Request.TheVariants as request
use Rattle.zodb_core.specs.History.{Entry, Made, Opened}
use Rattle.zodb_core.specs.Machine.{Machine, MachineSession, MachineVote, OpenPack, switches_of}
use Rattle.zodb_core.specs.Outcomes.{is_pack}

-- changes that a transaction may make: of each object once, and none to an empty record
pub record AreSoundChanges (changes : List Change) : Type 0 where
  pub distinct : IsDistinct nat_eq (map (λ c. c.oid) changes)
  pub filled : All (λ c. IsRecord c.content) changes

-- a transaction may be the next of a list: it is later, its number has one after it, it may make its changes, and no pack went over it
pub record IsNextTransaction (list : List Transaction) (t : Transaction) : Type 0 where
  pub later : newest_tid list < t.tid
  pub bounded : t.tid < 2 ^ 64 - 1
  pub sound : AreSoundChanges t.changes
  pub unpacked : t.packed ≡ false

-- the same of what is to be written, if anything is
abbrev pub IsNextIfSome : List Transaction → Option Transaction → Type 0
IsNextIfSome list None = Unit {0}
IsNextIfSome list (Some t) = IsNextTransaction list t

-- and of what a vote will write, if one is held
abbrev pub IsSoundVote : List Transaction → Option MachineVote → Type 0
IsSoundVote list None = Unit {0}
IsSoundVote list (Some v) = IsNextIfSome list v.writes

-- a session was told no more than happened
abbrev pub IsToldWithin : ℕ → MachineSession → Type 0
IsToldWithin happened x = x.told ≤ happened

-- the open pack, if there is one, goes less far than the newest transaction
abbrev pub IsPackWithin : List Transaction → Option OpenPack → Type 0
IsPackWithin list None = Unit {0}
IsPackWithin list (Some p) = p.tid < newest_tid list

-- The list is a database, and stays one with what is voted behind it; each object that it changes has a number up to the greatest; no session was told more
-- than happened; and the open pack leaves the newest transaction whole.
pub record IsSoundMachine (m : Machine) : Type 0 where
  pub database : IsDatabase m.list
  pub next : IsSoundVote m.list m.vote
  pub numbered : greatest_oid m.list ≤ m.greatest
  pub told : AllByRecursion (IsToldWithin (length m.journal)) m.sessions
  pub within : IsPackWithin m.list m.pack

-- stores that wait for a vote, as their type has them: of each object once, and none of an empty record
pub record AreWellFormedStores (stores : List PendingStore) : Type 0 where
  pub distinct : IsDistinct nat_eq (map (λ p. p.oid) stores)
  pub filled : All (λ p. IsRecord p.content) stores

-- a request as its type has it
abbrev pub IsWellFormedRequest : Request → Type 0
IsWellFormedRequest (request.Vote user description extension pending) = AreWellFormedStores pending.stores
IsWellFormedRequest _ = Unit {0}

-- and so each request of a history
abbrev pub IsWellFormedEntry : Entry → Type 0
IsWellFormedEntry (Opened n) = Unit {0}
IsWellFormedEntry (Made e) = IsWellFormedRequest e.request

abbrev pub AreWellFormedRequests : List Entry → Type 0
AreWellFormedRequests entries = AllByRecursion IsWellFormedEntry entries

-- an entry that is no request to pack
abbrev pub IsNoPack : Entry → Type 0
IsNoPack (Opened n) = Unit {0}
IsNoPack (Made e) = is_pack e.request ≡ false

abbrev pub HasNoPack : List Entry → Type 0
HasNoPack entries = AllByRecursion IsNoPack entries

-- ---- how a list grows

-- a list with one transaction behind it, which is later
pub record HasOneMore (list grown : List Transaction) : Type 0 where
  pub newest : Transaction
  pub behind : grown ≡ list ++ newest ∷ []
  pub later : newest_tid list < newest.tid

-- a list as it was, or with one transaction more
abbrev pub GrowsByOne : List Transaction → List Transaction → Type 0
GrowsByOne list grown = (grown ≡ list) ⊎ HasOneMore list grown

-- a list that is packed, up to a tid below its newest transaction
pub record IsPackOf (list packed : List Transaction) : Type 0 where
  pub tid : ℕ
  pub keep : FinSet nat_cmp
  pub below : tid < newest_tid list
  pub is : packed ≡ packed_by tid keep list

-- what a step makes of a list: it is as it was, or has one transaction more, or is packed
abbrev pub Becomes : List Transaction → List Transaction → Type 0
Becomes list now = GrowsByOne list now ⊎ IsPackOf list now

-- a list that is packed as the machine packs it, by what the records name: just the objects that it marks keep theirs
pub record IsPackedAsMarked (named : List ℕ → Option (List ℕ)) (list now : List Transaction) : Type 0 where
  pub tid : ℕ
  pub collects : Bool
  pub below : tid < newest_tid list
  pub is : now ≡ packed collects named tid list

-- what a step makes of a list, and which objects a pack keeps
abbrev pub BecomesAsMarked : (List ℕ → Option (List ℕ)) → List Transaction → List Transaction → Type 0
BecomesAsMarked named list now = GrowsByOne list now ⊎ IsPackedAsMarked named list now

-- a list that steps made of another, which was a database at each of them
pub data ComesTo (list : List Transaction) : List Transaction → Type 0 where
  unmoved : ComesTo list list
  moved : (mid now : List Transaction) → ComesTo list mid → IsDatabase mid → Becomes mid now → ComesTo list now

-- a machine behind a step of another: the number of packs has not fallen, and where it is the same, the list has only grown
pub record GoesOnTo (m now : Machine) : Type 0 where
  pub becomes : Becomes m.list now.list
  pub switches : switches_of m.journal ≤ switches_of now.journal
  pub grows : switches_of now.journal ≡ switches_of m.journal → GrowsByOne m.list now.list

-- what is voted is later than the list
abbrev pub VotesLater : List Transaction → Option MachineVote → Type 0
VotesLater list vote = (v : MachineVote) (t : Transaction) → vote ≡ Some v → v.writes ≡ Some t → newest_tid list < t.tid

-- a list with transactions behind it, each of which is later than the newest
pub record GrowsTo (list grown : List Transaction) : Type 0 where
  pub more : List Transaction
  pub behind : grown ≡ list ++ more
  pub later : AllByRecursion (λ t. newest_tid list < t.tid) more
