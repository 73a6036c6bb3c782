-- What calls on a tree answer, draw and put, over the objects that a client sees. Own.
use Rattle.std.specs.Prelude.{◌≡◌, ◌⊎◌, ◌<◌, ℕ, Bool, true, false, List, [], ◌∷◌, map, length, All, Option, Some, None, Result, Ok, Err, is_some}
use Rattle.std.specs.Option.{ForSome, option_map, option_map_or}
use Rattle.tree_attempts.specs.declared.put.TreePut.{TreePut}
use Rattle.zb_model.specs.declared.refusal.Refusal.{Refusal}
use Rattle.zb_model.specs.declared.refusal.Refusal.TheVariants as refusal
use Rattle.btree_family.specs.declared.table.Kind.{Kind}
use Rattle.btree_family.specs.declared.table.Kind.TheVariants as kinds
use Rattle.btree_shapes.specs.declared.space.Call.{Call}
use Rattle.btree_shapes.specs.declared.space.Call.TheVariants.{Read, Drew, Wrote}
use Rattle.btree_shapes.specs.declared.error.TreeError.{TreeError}
use Rattle.btree_shapes.specs.declared.error.TreeError.TheVariants as error
use Rattle.btree_shapes.specs.Nodes.{class_held}
use Rattle.btree_shapes.specs.Spaces.{with_bytes}
use Rattle.btree_shapes.specs.Met.{ReadsFirst, met_for}
use Rattle.btree_shapes.specs.Ways.{stands_in, value_under}
use Rattle.btree_setting.specs.declared.preparing.Sizes.{Sizes}
use Rattle.btree_setting.specs.Ends.{Needs, Sets}
use Rattle.btree_setting.specs.Tasks as setting
use Rattle.btree_removing.specs.Ends.{Removes}
use Rattle.btree_removing.specs.Plans as removing
use Rattle.btree_maps.specs.Drawn.{drawn_in}
use Rattle.btree_maps.specs.Visits.{items_met, items_under, range_met, range_under}
use Rattle.tree_attempts.specs.declared.known.Seen.{Seen}
use Rattle.tree_attempts.specs.declared.attempt.Attempt.{Attempt}
use Rattle.tree_attempts.specs.declared.attempt.Attempt.TheVariants as attempt
use Rattle.tree_attempts.specs.Known.{known_at}
use Rattle.tree_attempts.specs.Puts.{based_on}
use Rattle.tree_attempts.specs.declared.operation.TreeOperation.{TreeOperation}
use Rattle.tree_attempts.specs.declared.operation.TreeOperation.TheVariants as operation
use Rattle.tree_attempts.specs.declared.operation.TreeAnswer.{TreeAnswer}
use Rattle.tree_attempts.specs.declared.operation.TreeAnswer.TheVariants as answer

-- the bytes of each object
abbrev pub contents_of : (ℕ → Option Seen) → ℕ → Option (List ℕ)
contents_of objects oid = option_map (λ seen. seen.bytes) (objects oid)

-- the contents behind these puts, one after another
abbrev pub contents_after : List TreePut → (ℕ → Option (List ℕ)) → ℕ → Option (List ℕ)
contents_after [] contents = contents
contents_after (p ∷ puts) contents = contents_after puts (with_bytes contents p.oid p.bytes)

abbrev pub oids_of : List TreePut → List ℕ
oids_of puts = map (λ p. p.oid) puts

abbrev pub bases_of : List TreePut → List ℕ
bases_of puts = map (λ p. p.base) puts

-- the objects that calls put, in their order
abbrev pub written_in : List Call → List ℕ
written_in [] = []
written_in (Read oid ∷ calls) = written_in calls
written_in (Drew oid ∷ calls) = written_in calls
written_in (Wrote oid ∷ calls) = oid ∷ written_in calls

-- how many items and objects below it an object of a tree has, at most
abbrev pub sizes : Sizes
sizes = record { leaf = 30; inner = 250 }

abbrev pub is_set_kind : Kind → Bool
is_set_kind kinds.Bucket = false
is_set_kind kinds.Set = true
is_set_kind kinds.Tree = false
is_set_kind kinds.TreeSet = true

-- whether what stands at the root of a tree has members, and no values
abbrev pub has_members : Option (List ℕ) → Bool
has_members content = option_map_or (λ class. is_set_kind class.kind) (class_held content) false

-- ---- the numbers that a call needs

-- A call makes so many new objects, and all that it puts can be written. Only calls that set a key make some.
abbrev pub NeedsNumbers : (ℕ → Option (List ℕ)) → ℕ → TreeOperation → ℕ → Type 0
NeedsNumbers contents root (operation.Get key) count = ⊥
NeedsNumbers contents root (operation.Set key value) count = Needs contents root sizes key value count
NeedsNumbers contents root (operation.Remove key) count = ⊥
NeedsNumbers contents root operation.Items count = ⊥
NeedsNumbers contents root (operation.Range from to) count = ⊥

-- so many numbers are fewer than a call needs
pub record LacksNumbers (contents : ℕ → Option (List ℕ)) (root : ℕ) (op : TreeOperation) (supply : ℕ) : Type 0 where
  pub count : ℕ
  pub needs : NeedsNumbers contents root op count
  pub more : supply < count

-- ---- a call that is answered

-- What a call answers, over the contents before it; with the contents that its puts leave, and its calls of the space. It reads
-- only objects on its way, each where it stands. Only set and remove put something.
abbrev pub CallAnswers : (ℕ → Option (List ℕ)) → (ℕ → Option (List ℕ)) → List Call → ℕ → TreeOperation → TreeAnswer → Type 0
CallAnswers before after calls root (operation.Get key) (answer.Value value) = (value_under before root key ≡ Ok value) × ReadsFirst (met_for before root key) [] calls
CallAnswers before after calls root (operation.Set key value) answer.Set = Sets (Unit {0}) before after [] calls root sizes key value (Ok _)
CallAnswers before after calls root (operation.Remove key) (answer.Removed was) = Removes (Unit {0}) before after [] calls root key (Ok was)
CallAnswers before after calls root operation.Items (answer.Items list is_set) =
    (items_under before root ≡ Ok list) × (is_set ≡ has_members (before root)) × ReadsFirst (items_met before root) [] calls
CallAnswers before after calls root (operation.Range from to) (answer.Items list is_set) =
    (range_under before root from to ≡ Ok list) × (is_set ≡ has_members (before root)) × ReadsFirst (range_met before root from to) [] calls
CallAnswers before after calls root _ _ = ⊥

-- A call over these objects, for which these numbers were drawn: it answers this, and puts this in this order, each made from
-- what the object had, or from nothing where it is new.
pub record IsMade (objects : ℕ → Option Seen) (root : ℕ) (op : TreeOperation) (numbers : List ℕ) (a : TreeAnswer) (puts : List TreePut) : Type 0 where
  pub calls : List Call
  pub answers : CallAnswers (contents_of objects) (contents_after puts (contents_of objects)) calls root op a
  pub drawn : drawn_in calls ≡ numbers
  pub written : written_in calls ≡ oids_of puts
  pub based : bases_of puts ≡ map (based_on numbers objects) (oids_of puts)

-- ---- a call that is refused

-- why a tree refuses a call: an object is missing or none of the tree, or the key or the value is refused
abbrev pub refusal_of : TreeError → Option Refusal
refusal_of (error.NotATree oid) = Some (refusal.NotATree oid)
refusal_of (error.NodeMissing oid) = Some (refusal.NodeMissing oid)
refusal_of error.BadKey = Some refusal.BadKey
refusal_of (error.Refused why) = None
refusal_of error.Memory = None

-- what a call is refused over the contents before it: it has read the first objects on its way, and nothing else
abbrev pub CallFails : (ℕ → Option (List ℕ)) → (ℕ → Option (List ℕ)) → List Call → ℕ → TreeOperation → TreeError → Type 0
CallFails before after calls root (operation.Get key) e = (value_under before root key ≡ Err e) × ReadsFirst (met_for before root key) [] calls
CallFails before after calls root (operation.Set key value) e = Sets (Unit {0}) before after [] calls root sizes key value (Err e)
CallFails before after calls root (operation.Remove key) e = Removes (Unit {0}) before after [] calls root key (Err e)
CallFails before after calls root operation.Items e = (items_under before root ≡ Err e) × ReadsFirst (items_met before root) [] calls
CallFails before after calls root (operation.Range from to) e = (range_under before root from to ≡ Err e) × ReadsFirst (range_met before root from to) [] calls

-- a call over these objects is refused so, and has drawn no number
pub record IsRefused (objects : ℕ → Option Seen) (root : ℕ) (op : TreeOperation) (why : Refusal) : Type 0 where
  pub e : TreeError
  pub told : refusal_of e ≡ Some why
  pub after : ℕ → Option (List ℕ)
  pub calls : List Call
  pub fails : CallFails (contents_of objects) after calls root op e
  pub undrawn : drawn_in calls ≡ []

-- ---- what a call may read

-- the objects that calls read, in their order
abbrev pub reads_in : List Call → List ℕ
reads_in [] = []
reads_in (Read oid ∷ calls) = oid ∷ reads_in calls
reads_in (Drew oid ∷ calls) = reads_in calls
reads_in (Wrote oid ∷ calls) = reads_in calls

-- an object that stands among these
abbrev pub IsAmong : List ℕ → ℕ → Type 0
IsAmong oids oid = stands_in oids oid ≡ true

-- what calls read was all known
abbrev pub is_read_known : List (ℕ × Option Seen) → Call → Bool
is_read_known known (Read oid) = is_some (known_at known oid)
is_read_known known (Drew oid) = true
is_read_known known (Wrote oid) = true

abbrev pub AreKnown : List (ℕ × Option Seen) → List Call → Type 0
AreKnown known calls = (oid : ℕ) → IsAmong (reads_in calls) oid → is_some (known_at known oid) ≡ true

-- The objects that a call may read, on every tree: those on the way for its key, as far as it goes, and for a change those besides the way; or those that a walk comes
-- to, of which one over a range goes only into children that may have a key of it.
abbrev pub MayRead : (ℕ → Option (List ℕ)) → ℕ → TreeOperation → ℕ → Type 0
MayRead contents root (operation.Get key) oid = IsAmong (met_for contents root key) oid
MayRead contents root (operation.Set key value) oid = IsAmong (setting.met_under contents root sizes key value) oid ⊎ IsAmong (reads_in (setting.reads_under contents root sizes key value)) oid
MayRead contents root (operation.Remove key) oid = IsAmong (removing.met_under contents root key) oid ⊎ IsAmong (reads_in (removing.reads_under contents root key)) oid
MayRead contents root operation.Items oid = IsAmong (items_met contents root) oid
MayRead contents root (operation.Range from to) oid = IsAmong (range_met contents root from to) oid

-- a walk: a call over all items, or over those of a range
abbrev pub is_walk : TreeOperation → Bool
is_walk operation.Items = true
is_walk (operation.Range from to) = true
is_walk _ = false

-- all that was read is of those
abbrev pub ReadsOnWay : (ℕ → Option (List ℕ)) → List Call → ℕ → TreeOperation → Type 0
ReadsOnWay contents calls root op = (oid : ℕ) → IsAmong (reads_in calls) oid → MayRead contents root op oid

-- ---- attempts

-- how a call ends for which so many numbers were drawn: it is answered, it needs more numbers, it is refused, or memory ran out
abbrev pub CallEnds : (ℕ → Option (List ℕ)) → (ℕ → Option (List ℕ)) → List Call → ℕ → TreeOperation → ℕ → Result (Option TreeAnswer) TreeError → Type 0
CallEnds before after calls root op supply (Ok (Some a)) = CallAnswers before after calls root op a
CallEnds before after calls root op supply (Ok None) = LacksNumbers before root op supply
CallEnds before after calls root op supply (Err (error.NotATree oid)) = CallFails before after calls root op (error.NotATree oid)
CallEnds before after calls root op supply (Err (error.NodeMissing oid)) = CallFails before after calls root op (error.NodeMissing oid)
CallEnds before after calls root op supply (Err error.BadKey) = CallFails before after calls root op error.BadKey
CallEnds before after calls root op supply (Err (error.Refused why)) = ReadsOnWay before calls root op
CallEnds before after calls root op supply (Err error.Memory) = ReadsOnWay before calls root op

-- How an attempt ends: the call is answered or refused, or something is wanted first. An object is wanted before any number is
-- drawn, and so a refusal comes, and only one that the call may read; a number only where the call needs more than there are.
abbrev pub IsAttempt : (ℕ → Option Seen) → ℕ → TreeOperation → List ℕ → Attempt → Type 0
IsAttempt objects root op numbers (attempt.Made made) = IsMade objects root op numbers made.answer made.puts × All (λ p. 0 < length p.bytes) made.puts
IsAttempt objects root op numbers (attempt.Refused why) = IsRefused objects root op why × (numbers ≡ [])
IsAttempt objects root op numbers (attempt.WantsObject oid) = (numbers ≡ []) × MayRead (contents_of objects) root op oid
IsAttempt objects root op numbers attempt.WantsNumber = LacksNumbers (contents_of objects) root op (length numbers)

-- a call that is answered or refused has read nothing but what is known
abbrev pub HasRead : List (ℕ × Option Seen) → (ℕ → Option Seen) → ℕ → TreeOperation → List ℕ → Attempt → Type 0
HasRead known objects root op numbers (attempt.Made made) = (m : IsMade objects root op numbers made.answer made.puts) × AreKnown known m.calls
HasRead known objects root op numbers (attempt.Refused why) = (r : IsRefused objects root op why) × AreKnown known r.calls
HasRead known objects root op numbers (attempt.WantsObject oid) = Unit {0}
HasRead known objects root op numbers attempt.WantsNumber = Unit {0}

-- an object is wanted first, which was lacked, and no number was drawn
abbrev pub IsWant : List ℕ → Option ℕ → Attempt → Type 0
IsWant numbers lacked (attempt.Made made) = ⊥
IsWant numbers lacked (attempt.Refused why) = ⊥
IsWant numbers lacked (attempt.WantsObject oid) = (numbers ≡ []) × (lacked ≡ Some oid)
IsWant numbers lacked attempt.WantsNumber = ⊥

-- what was lacked was to be read
abbrev pub IsLacked : List Call → Option ℕ → Type 0
IsLacked calls lacked = ForSome lacked (λ oid. stands_in (reads_in calls) oid ≡ true)

-- an object that is wanted first isn't known yet
abbrev pub IsWanted : List (ℕ × Option Seen) → Attempt → Type 0
IsWanted known (attempt.Made made) = Unit {0}
IsWanted known (attempt.Refused why) = Unit {0}
IsWanted known (attempt.WantsObject oid) = known_at known oid ≡ None
IsWanted known attempt.WantsNumber = Unit {0}
