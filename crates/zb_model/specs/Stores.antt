-- What contracts see of a store, and what they say of its outcomes. Own.
use Rattle.std.specs.Prelude.{◌≡◌, ℕ, ◌≤◌, ◌⊎◌, Bool, true, false, Option, None, List, [], ◌∷◌, ◌++◌, Result, Ok, Err, IfErr, OnOk, OnErr, IsErrOf}
use Rattle.std.specs.Option.{option_map}
use Rattle.zb_volume.specs.declared.areas.Area.TheVariants.{Side}
use Rattle.zb_volume.specs.Calls.{Event}
use Rattle.zb_volume.specs.Disk.{seen, IsSettled}
use Rattle.zb_base.specs.Counts.{HasCause, Rose}
use Rattle.zb_model.specs.declared.data.Transaction.{Transaction}
use Rattle.zb_model.specs.declared.store_error.StoreError.{StoreError}
use Rattle.zb_model.specs.declared.store_error.StoreError.TheVariants.{StoreFault, ReadFault, Memory}

-- A pack that is begun: the tid up to which it goes over the list, and the transactions of the packed list that are copied so far.
pub record BegunPack : Type 0 where
  pub tid : ℕ
  pub copied : List Transaction

-- What contracts see of a store. A call leaves each part as it was that its frame doesn't name.
pub record StoreState : Type 0 where
  -- its transactions, the oldest first
  pub list : List Transaction
  -- the one that is voted, if one is
  pub voted : Option Transaction
  -- the pack that is begun, if one is
  pub begun : Option BegunPack
  -- the number that `newest` answers, also where the list isn't told
  pub newest : ℕ
  -- whether a call has answered a store fault
  pub broken : Bool
  -- the calls that changed its volume, the newest first
  pub log : List Event
  -- how often a call that changes the store has failed
  pub faults : ℕ
  -- how often reading has failed
  pub read_faults : ℕ

-- ---- refusals and their causes

-- a fact, unless the call answered a store fault
abbrev pub UnlessFault : {T : Type 0} → Result T StoreError → Type 0 → Type 0
UnlessFault (Ok _) P = P
UnlessFault (Err StoreFault) P = Unit {0}
UnlessFault (Err ReadFault) P = P
UnlessFault (Err Memory) P = P

-- neither count of faults has moved
pub record CountsStand (old new : StoreState) : Type 0 where
  pub reads : new.read_faults ≡ old.read_faults
  pub faults : new.faults ≡ old.faults

-- a store fault comes only where the count of faults rose, a read fault where that of read faults did, and want of memory where neither moved
abbrev pub MayRefuse : StoreState → StoreState → StoreError → Type 0
MayRefuse old new StoreFault = Rose old.faults new.faults
MayRefuse old new ReadFault = Rose old.read_faults new.read_faults
MayRefuse old new Memory = CountsStand old new

-- a fault leaves the other count as it was
abbrev pub KeepsOtherCount : StoreState → StoreState → StoreError → Type 0
KeepsOtherCount old new StoreFault = new.read_faults ≡ old.read_faults
KeepsOtherCount old new ReadFault = new.faults ≡ old.faults
KeepsOtherCount old new Memory = Unit {0}

-- neither count of faults has fallen, each refusal has its cause and moves that count alone, and with an answer neither count has moved
pub record HasStoreCause {T : Type 0} (old new : StoreState) (result : Result T StoreError) : Type 0 where
  pub reads_later : old.read_faults ≤ new.read_faults
  pub faults_later : old.faults ≤ new.faults
  pub refused : IfErr result (MayRefuse old new)
  pub others : IfErr result (KeepsOtherCount old new)
  pub answered : OnOk result (CountsStand old new)

-- a call that only reads is refused for a read fault, where that count rose, or for want of memory, where it has not moved
abbrev pub MayRefuseReading : StoreState → StoreState → StoreError → Type 0
MayRefuseReading old new StoreFault = ⊥
MayRefuseReading old new ReadFault = Rose old.read_faults new.read_faults
MayRefuseReading old new Memory = new.read_faults ≡ old.read_faults

-- ---- frames: what a call leaves as it was. Over a volume that doesn't tell, a call that changes it leaves nothing known of what is read there: of what is voted
-- and of a begun pack the tid stays.

abbrev pub tid_of_voted : StoreState → Option ℕ
tid_of_voted s = option_map (λ (x : Transaction). x.tid) s.voted

abbrev pub tid_of_begun : StoreState → Option ℕ
tid_of_begun s = option_map (λ (pack : BegunPack). pack.tid) s.begun

-- the begun pack is as it was
pub record KeepsBegun (told : Type 0) (old new : StoreState) : Type 0 where
  pub tid : tid_of_begun new ≡ tid_of_begun old
  pub all : told → new.begun ≡ old.begun

-- what is voted is as it was
pub record KeepsVoted (told : Type 0) (old new : StoreState) : Type 0 where
  pub tid : tid_of_voted new ≡ tid_of_voted old
  pub all : told → new.voted ≡ old.voted

-- no part has changed but the count of read faults
abbrev pub ReadKeepsRest : StoreState → StoreState → Type 0
ReadKeepsRest old new = new ≡ record old { read_faults = new.read_faults }

-- a refused call that would write has changed no other part either, unless a call of the volume failed
abbrev pub RefusalKeepsRest : StoreState → StoreState → StoreError → Type 0
RefusalKeepsRest old new StoreFault = Unit {0}
RefusalKeepsRest old new ReadFault = ReadKeepsRest old new
RefusalKeepsRest old new Memory = ReadKeepsRest old new

-- a store was only read: the rest is as it was, the count of read faults has not fallen, each refusal has its cause, and with an answer that count has not moved
pub record IsOnlyRead {T : Type 0} (old new : StoreState) (result : Result T StoreError) : Type 0 where
  pub same : ReadKeepsRest old new
  pub later : old.read_faults ≤ new.read_faults
  pub refused : IfErr result (MayRefuseReading old new)
  pub answered : OnOk result (new.read_faults ≡ old.read_faults)

-- a vote may change any of these, and leaves the rest: the number of the newest
abbrev pub VoteKeepsRest : StoreState → StoreState → Type 0
VoteKeepsRest old new = new ≡ record old { list = new.list; voted = new.voted; begun = new.begun; broken = new.broken; log = new.log; faults = new.faults; read_faults = new.read_faults }

-- a finish leaves the count of read faults
abbrev pub FinishKeepsRest : StoreState → StoreState → Type 0
FinishKeepsRest old new = new ≡ record old { list = new.list; voted = new.voted; begun = new.begun; newest = new.newest; broken = new.broken; log = new.log; faults = new.faults }

-- an abort leaves both
abbrev pub AbortKeepsRest : StoreState → StoreState → Type 0
AbortKeepsRest old new = new ≡ record old { list = new.list; voted = new.voted; begun = new.begun; broken = new.broken; log = new.log; faults = new.faults }

-- bytes stand for a list, or for it with one transaction more
abbrev pub StandsForOneOf : (List ℕ → List Transaction → Type 0) → List Transaction → Transaction → List ℕ → Type 0
StandsForOneOf stands list t bytes = stands bytes list ⊎ stands bytes (list ++ t ∷ [])

-- beginning and copying a pack leave the number of the newest
abbrev pub CopyKeepsRest : StoreState → StoreState → Type 0
CopyKeepsRest old new = new ≡ record old { list = new.list; voted = new.voted; begun = new.begun; broken = new.broken; log = new.log; faults = new.faults; read_faults = new.read_faults }

-- a switch leaves what is voted: nothing
abbrev pub SwitchKeepsRest : StoreState → StoreState → Type 0
SwitchKeepsRest old new = new ≡ record old { list = new.list; begun = new.begun; newest = new.newest; broken = new.broken; log = new.log; faults = new.faults; read_faults = new.read_faults }

-- dropping a pack leaves all else
abbrev pub DropKeepsRest : StoreState → StoreState → Type 0
DropKeepsRest old new = new ≡ record old { begun = None }

-- ---- what a call leaves, in one word

-- a store is broken behind a call where that answers a store fault, and there alone
pub record BreaksByFault {T : Type 0} (new : StoreState) (result : Result T StoreError) : Type 0 where
  pub whole : UnlessFault result (new.broken ≡ false)
  pub breaks : IsErrOf result StoreFault → new.broken ≡ true

-- likewise of a call whose one error is a store fault, which takes no memory and reads nothing: such a fault is counted, and else no count has moved
pub record MayBreak {T E : Type 0} (old new : StoreState) (result : Result T E) : Type 0 where
  pub whole : OnOk result (new.broken ≡ false)
  pub breaks : OnErr result (new.broken ≡ true)
  pub cause : HasCause old.faults new.faults result
  pub uncounted : OnOk result (new.faults ≡ old.faults)

-- A vote leaves the begun pack and the number of the newest, the list too unless it answers a store fault, and all but the counts where it is refused otherwise.
pub record VoteLeaves {T : Type 0} (told : Type 0) (old new : StoreState) (result : Result T StoreError) : Type 0 where
  pub keeps : VoteKeepsRest old new
  pub begun : KeepsBegun told old new
  pub list : told → UnlessFault result (new.list ≡ old.list)
  pub refused : IfErr result (RefusalKeepsRest old new)

-- a finish leaves the begun pack and the count of read faults
pub record FinishLeaves (told : Type 0) (old new : StoreState) : Type 0 where
  pub keeps : FinishKeepsRest old new
  pub begun : KeepsBegun told old new

-- an abort leaves these and the number of the newest, and, unless it answers a store fault, the list
pub record AbortLeaves {T E : Type 0} (told : Type 0) (old new : StoreState) (result : Result T E) : Type 0 where
  pub keeps : AbortKeepsRest old new
  pub begun : KeepsBegun told old new
  pub list : told → OnOk result (new.list ≡ old.list)

-- Beginning and copying a pack leave what is voted and the number of the newest, and, unless they answer a store fault, the list. With an error no pack is begun.
pub record CopyLeaves {T : Type 0} (told : Type 0) (old new : StoreState) (result : Result T StoreError) : Type 0 where
  pub keeps : CopyKeepsRest old new
  pub voted : KeepsVoted told old new
  pub list : told → UnlessFault result (new.list ≡ old.list)
  pub none : OnErr result (new.begun ≡ None)

-- A switch leaves no pack begun. With an error the number of the newest is as before, and, unless that is a store fault, the list.
pub record SwitchLeaves {T : Type 0} (told : Type 0) (old new : StoreState) (result : Result T StoreError) : Type 0 where
  pub keeps : SwitchKeepsRest old new
  pub none : new.begun ≡ None
  pub unchanged : told → OnErr result (UnlessFault result (new.list ≡ old.list))
  pub unmoved : OnErr result (new.newest ≡ old.newest)

-- Side is empty, and a crash leaves it so
pub record SideIsEmpty (log : List Event) : Type 0 where
  pub empty : seen log Side ≡ []
  pub settled : IsSettled log Side
