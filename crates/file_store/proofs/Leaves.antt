-- What the calls of a store leave, in its words.
use Rattle.std.proofs.Common.{◌≡◌, ℕ, Option, Result, Ok, Err, OnErr, OnOk, ap, ◌∙◌, arith}
use Rattle.std.specs.Prelude.{IfErr, None}
use Rattle.zb_model.specs.declared.data.Transaction.{Transaction}
use Rattle.zb_model.specs.declared.store_error.StoreError.{StoreError}
use Rattle.zb_model.specs.declared.store_error.StoreError.TheVariants.{StoreFault, ReadFault, Memory}
use Rattle.zb_volume.specs.States.{VolumeState}
use Rattle.fs_index_file.specs.Writes.{WritesFor}
use Rattle.file_store.specs.Hinting.{KeepsStore}
use Rattle.zb_model.specs.Stores.{AbortLeaves, CopyLeaves, FinishLeaves, HasStoreCause, KeepsBegun, KeepsVoted, RefusalKeepsRest, StoreState, SwitchLeaves, UnlessFault, VoteKeepsRest, VoteLeaves}

-- a state with another number, count or voted transaction
abbrev with_newest : StoreState → ℕ → StoreState
with_newest s n = record s { newest = n }

abbrev with_reads : StoreState → ℕ → StoreState
with_reads s n = record s { read_faults = n }

abbrev with_voted : StoreState → Option Transaction → StoreState
with_voted s o = record s { voted = o }

newest_kept : (old new : StoreState) → new.newest ≡ old.newest → VoteKeepsRest old new
newest_kept old new is = ap (with_newest new) is

pub vote_leaves : {A : Type 0} (T : Type 0) (old new : StoreState) (r : Result A StoreError) → new.newest ≡ old.newest → KeepsBegun T old new → (T → UnlessFault r (new.list ≡ old.list)) → IfErr r (RefusalKeepsRest old new) → VoteLeaves T old new r
vote_leaves T old new r newest begun list refused = record { keeps = newest_kept old new newest; begun = begun; list = list; refused = refused }

pub finish_leaves : (T : Type 0) (old new : StoreState) → new.read_faults ≡ old.read_faults → KeepsBegun T old new → FinishLeaves T old new
finish_leaves T old new reads begun = record { keeps = ap (with_reads new) reads; begun = begun }

pub abort_leaves : {A E : Type 0} (T : Type 0) (old new : StoreState) (r : Result A E) → new.newest ≡ old.newest → new.read_faults ≡ old.read_faults → KeepsBegun T old new → (T → OnOk r (new.list ≡ old.list)) → AbortLeaves T old new r
abort_leaves T old new r newest reads begun list = record { keeps = ap (with_newest new) newest ∙ ap (with_reads (with_newest new old.newest)) reads; begun = begun; list = list }

pub copy_leaves : {A : Type 0} (T : Type 0) (old new : StoreState) (r : Result A StoreError) → new.newest ≡ old.newest → KeepsVoted T old new → (T → UnlessFault r (new.list ≡ old.list)) → OnErr r (new.begun ≡ None) → CopyLeaves T old new r
copy_leaves T old new r newest voted list none = record { keeps = newest_kept old new newest; voted = voted; list = list; none = none }

pub switch_leaves : {A : Type 0} (T : Type 0) (old new : StoreState) (r : Result A StoreError) → new.voted ≡ old.voted → new.begun ≡ None → (T → OnErr r (UnlessFault r (new.list ≡ old.list))) → OnErr r (new.newest ≡ old.newest) → SwitchLeaves T old new r
switch_leaves T old new r voted none unchanged unmoved = record { keeps = ap (with_voted new) voted; none = none; unchanged = unchanged; unmoved = unmoved }

-- a call that is refused isn't answered
pub not_answered : {A E : Type 0} (r : Result A E) (e : E) (P : Type 0) → r ≡ Err e → OnOk r P
not_answered (Ok x) e P is = absurd cc
not_answered (Err x) e P is = tt

-- what holds anyway holds unless a call of the volume failed
pub unless_any : (A : Type 0) (e : StoreError) (P : Type 0) → P → UnlessFault {T = A} (Err e) P
unless_any A StoreFault P is = tt
unless_any A ReadFault P is = is
unless_any A Memory P is = is

-- ---- a call that writes the index file

pub keeps_store : (T : Type 0) (old new : StoreState) → new.newest ≡ old.newest → new.read_faults ≡ old.read_faults → (T → new.list ≡ old.list) → KeepsVoted T old new → KeepsBegun T old new → KeepsStore T old new
keeps_store T old new newest reads list voted begun = record { keeps = ap (with_newest new) newest ∙ ap (with_reads (with_newest new old.newest)) reads; list = list; voted = voted; begun = begun }

-- what contracts see of its volume
abbrev pub volume_of : StoreState → VolumeState
volume_of s = record { log = s.log; read_faults = s.read_faults; write_faults = s.faults }

pub written_cause : (A : Type 0) (old new : StoreState) (e : StoreError) → WritesFor (volume_of old) (volume_of new) (Err e) → HasStoreCause {T = A} old new (Err e)
written_cause A old new StoreFault f = record { reads_later = omega (arith, f.2); faults_later = f.1; refused = f.0; others = f.2; answered = tt }
written_cause A old new ReadFault f = absurd f
written_cause A old new Memory f = record { reads_later = omega (arith, f.0.reads); faults_later = omega (arith, f.0.writes); refused = record { reads = f.0.reads; faults = f.0.writes }; others = tt; answered = tt }

pub written_reads : (old new : VolumeState) (e : StoreError) → WritesFor old new (Err e) → new.read_faults ≡ old.read_faults
written_reads old new StoreFault f = f.2
written_reads old new ReadFault f = absurd f
written_reads old new Memory f = f.0.reads

-- nothing was changed, unless a call of the volume failed
pub written_same : (old new : VolumeState) (e : StoreError) → WritesFor old new (Err e) → UnlessFault {T = ℕ} (Err e) (new.log ≡ old.log)
written_same old new StoreFault f = tt
written_same old new ReadFault f = absurd f
written_same old new Memory f = f.1
