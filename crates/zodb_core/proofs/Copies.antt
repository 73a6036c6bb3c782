-- How a hub's turns copy what a pack leaves.
use Rattle.std.proofs.Common.{◌≡◌, ℕ, ◌+◌, ◌-◌, ◌<◌, List, [], ◌∷◌, ◌++◌, append-nil, drop, length, take, Option, Some, None, Result, Err, Bool, true, false, refl, sym, ap, subst, ◌∙◌, arith}
use Rattle.std.specs.Prelude.{nat_le}
use Rattle.std.specs.Option.{ForSome, option_map, option_map_or}
use Rattle.std.specs.Ordering.{nat_cmp}
use Rattle.std.specs.FinSet.{FinSet}
use Rattle.std.proofs.Math.Seq.{drop-append_seam, take-append_seam}
use Rattle.std.proofs.lemmas.Bool.{le-leb, lt-leb}
use Rattle.std.proofs.lemmas.List.{length-append}
use Rattle.std.proofs.lemmas.Option.{same_Some}
use Rattle.zb_ids.specs.declared.stamp.Stamp.{Stamp}
use Rattle.zb_model.specs.declared.data.Transaction.{Transaction}
use Rattle.zb_model.specs.declared.packs.Copied.{Copied}
use Rattle.zb_model.specs.declared.store_error.StoreError.{StoreError}
use Rattle.zb_model.specs.declared.store_error.StoreError.TheVariants as store_error
use Rattle.zb_model.specs.Packing.{packed_by}
use Rattle.zb_model.specs.Packs.{IsAllCopied, IsCopyOf, IsCopyTurn, IsPrefixOf, change_count, turn_from}
use Rattle.zb_model.specs.Stores.{BegunPack, BreaksByFault, CopyLeaves, HasStoreCause, StoreState}
use Rattle.zb_model.specs.TurnLaws.{copied_is_front}
use Rattle.zodb_core.specs.declared.open_pack.HubCopying.{HubCopying}
use Rattle.zodb_core.specs.declared.open_pack.HubPack.{HubPack}
use Rattle.zodb_core.specs.declared.request.Request.TheVariants as request
use Rattle.zodb_core.specs.HubState.{HubState, IsCopied, IsPackAt, KeepsPack, MakesStep, StandsForMachine, copying_of_hub, counts_of, pack_of_hub, tid_begun}
use Rattle.zodb_core.specs.Machine.{Machine, OpenPack, PackCopying, Rules}
use Rattle.zodb_core.specs.Outcomes.{Answered, AreLaterCounts, is_pack_going, outcome_of}
use Rattle.zodb_core.specs.Packing.{TakesTurnOf, copied_reply}
use Rattle.zodb_core.specs.Replies.{fault_reply}
use Rattle.zodb_core.specs.Steps.{Stepped, copied_step, copy_step, copying_reply, replied, step_of, turn_of_copying, with_pack, without_pack}
use Rattle.zodb_core.proofs.Keeping.{tid_there}
use Rattle.zodb_core.proofs.Stepping.{answered, reading_failed, starved}
use Rattle.zodb_core.proofs.Votes.{dropped_failed, store_failed}
use Rattle.zodb_core.proofs.Turns.{none_open, one_open, stands_with, turn_gives}

-- ---- a turn that copied

-- what the store has copied behind a turn, of the list as it is packed
record IsCopiedTo (packed : List Transaction) (before : ℕ) (behind : List Transaction) (copied : Copied) : Type 0 where
  size : before + length (turn_from 0 (drop before packed)) ≡ length behind
  front : take (length behind) packed ≡ behind
  count : copied.count ≡ change_count behind
  whole : nat_le (length packed) (length behind) ≡ copied.whole

whole_is : (whole : Bool) (packed behind rest : List Transaction) → packed ≡ behind ++ rest → IsAllCopied packed behind whole → nat_le (length packed) (length behind) ≡ whole
whole_is true packed behind rest split all = le-leb (length packed) (length behind) (omega (arith, ap length all))
whole_is false packed behind [] split all = absurd (all (sym (split ∙ append-nil behind)))
whole_is false packed behind (x ∷ rest) split all = lt-leb (length packed) (length behind) (omega (arith, ap length split, length-append behind (x ∷ rest)))

copied_to : (packed : List Transaction) (old new : BegunPack) (copied : Copied) → IsCopyTurn packed old new copied → IsCopiedTo packed (length old.copied) new.copied copied
copied_to packed old new copied turn =
    let front = copied_is_front packed old new copied turn in
    record {
      size = ap (λ (l : List Transaction). length old.copied + length (turn_from 0 (drop (length old.copied) l))) turn.left
          ∙ ap (λ (l : List Transaction). length old.copied + length (turn_from 0 l)) (drop-append_seam old.copied turn.rest)
          ∙ sym (ap length turn.grown ∙ length-append old.copied (turn_from 0 turn.rest));
      front = ap (take (length new.copied)) front.1 ∙ take-append_seam new.copied front.0;
      count = turn.count;
      whole = whole_is copied.whole packed new.copied front.0 front.1 turn.whole;
    }

-- the machine's step, once it is known what is copied
abbrev copied_as : Machine → OpenPack → PackCopying → Bool → ℕ → ℕ → Stepped
copied_as m p k whole copied count = replied (with_pack m (record p { copying = Some (record k { copied = copied; is_whole = whole }) })) (copying_reply whole count)

copied_gives : (m : Machine) (p : OpenPack) (k : PackCopying) (packed : List Transaction) (before : ℕ) (behind : List Transaction) (copied : Copied) → k.copied ≡ before → IsCopiedTo packed before behind copied
    → copy_step m p k packed ≡ copied_as m p k copied.whole (length behind) copied.count
copied_gives m p k packed before behind copied same is =
    ap (λ (b : ℕ). copied_step m p k packed (b + length (turn_from 0 (drop b packed)))) same
    ∙ ap (copied_step m p k packed) is.size
    ∙ ap (λ (b : Bool). copied_as m p k b (length behind) (change_count (take (length behind) packed))) is.whole
    ∙ ap (copied_as m p k copied.whole (length behind)) (ap change_count is.front ∙ sym is.count)

-- the copying of a hub, and its pack with another
abbrev copying_at : ℕ → Bool → HubCopying
copying_at entries whole = record { entries = entries; is_whole = whole }

abbrev pub copied_pack : HubPack → ℕ → Bool → HubPack
copied_pack p entries whole = record { session = p.session; tid = p.tid; collects = p.collects; marker = p.marker; copying = Some (copying_at entries whole) }

copying_gives : {R F : Type 0} (rules : Rules) (m : Machine) (n stamp : ℕ) (p : HubPack) (entries : ℕ) (hub : HubState R F) → TakesTurnOf hub m n p → p.copying ≡ Some (copying_at entries false) → m.list ≡ hub.store.list
    → step_of rules m n request.PackTurn stamp
    ≡ copy_step m (pack_of_hub hub.store.list hub.store.begun (length hub.journal) p) (copying_of_hub hub.store.list hub.store.begun (length hub.journal) p.marker (copying_at entries false)) (packed_by p.tid p.marker.set hub.store.list)
copying_gives rules m n stamp p entries hub takes is list =
    let open_pack = pack_of_hub hub.store.list hub.store.begun (length hub.journal) p in
    let copying = copying_of_hub hub.store.list hub.store.begun (length hub.journal) p.marker in
    turn_gives rules m n stamp p hub takes
    ∙ ap (λ (c : Option HubCopying). turn_of_copying rules.named m open_pack (option_map copying c)) is
    ∙ ap (λ (l : List Transaction). copy_step m open_pack (copying (copying_at entries false)) (packed_by p.tid p.marker.set l)) list

copied_answered : (whole : Bool) (count : ℕ) → outcome_of (copying_reply whole count) ≡ Answered
copied_answered true count = refl
copied_answered false count = refl

copied_going : (whole : Bool) (count : ℕ) → is_pack_going (copying_reply whole count) ≡ true
copied_going true count = refl
copied_going false count = refl

copied_one : {R F : Type 0} (rules : Rules) (m : Machine) (n : ℕ) (p : HubPack) (entries : ℕ) (copied : Copied) (b c : BegunPack) (old new : HubState R F) (stamps : Option (List Stamp))
    → StandsForMachine old (without_pack m) → TakesTurnOf old m n p → p.copying ≡ Some (copying_at entries false) → old.store.begun ≡ Some b → new.store.begun ≡ Some c → IsCopyTurn (packed_by p.tid p.marker.set old.store.list) b c copied
    → AreLaterCounts (counts_of old.store) (counts_of new.store) → old.store.broken ≡ false → new.store.broken ≡ false → new.store.list ≡ old.store.list → new.store.voted ≡ old.store.voted
    → new.journal ≡ old.journal → new.greatest ≡ old.greatest → new.sessions ≡ old.sessions → new.vote ≡ old.vote → new.pack ≡ Some (copied_pack p entries copied.whole)
    → MakesStep rules m n request.PackTurn (copied_reply copied) old new stamps stamps
copied_one rules m n p entries copied b c old new stamps stands takes is begun begins turn later whole still list voted journal greatest sessions vote pack =
    let open_pack = pack_of_hub old.store.list old.store.begun (length old.journal) p in
    let copying = copying_of_hub old.store.list old.store.begun (length old.journal) p.marker (copying_at entries false) in
    let left : OpenPack = record open_pack { copying = Some (record copying { copied = length c.copied; is_whole = copied.whole }) } in
    let behind = copied_pack p entries copied.whole in
    answered rules m n request.PackTurn (copied_reply copied) (with_pack m left) old new stamps later (copied_answered copied.whole copied.count)
    (copying_gives rules m n 0 p entries old takes is (stands.list whole)
    ∙ copied_gives m open_pack copying (packed_by p.tid p.marker.set old.store.list) (length b.copied) c.copied copied (ap (λ (o : Option BegunPack). option_map_or (λ (x : BegunPack). length x.copied) o 0) begun)
    (copied_to (packed_by p.tid p.marker.set old.store.list) b c copied turn))
    (stands_with m (Some left) old new stands whole still list voted journal greatest sessions vote
    (one_open new.store (length new.journal) new.pack behind still pack
    ∙ ap (λ (l : List Transaction). Some (pack_of_hub l new.store.begun (length new.journal) behind)) list
    ∙ ap (λ (o : Option BegunPack). Some (pack_of_hub old.store.list o (length new.journal) behind)) begins
    ∙ ap (λ (k : ℕ). Some (pack_of_hub old.store.list (Some c) k behind)) (ap length journal)))

-- what the store says of both copies, where both are there
turn_there : (keep : FinSet nat_cmp) (list : List Transaction) (t : ℕ) (old new : Option BegunPack) (b c : BegunPack) (copied : Copied) → tid_begun old ≡ Some t → old ≡ Some b → new ≡ Some c
    → ForSome old (λ o. ForSome new (λ n. IsCopyTurn (packed_by o.tid keep list) o n copied)) → IsCopyTurn (packed_by t keep list) b c copied
turn_there keep list t old new b c copied started is there turn =
    subst (λ (k : ℕ). IsCopyTurn (packed_by k keep list) b c copied) (tid_there old t b started is) (turn b is c there)

pub turn_copied : {R F : Type 0} (rules : Rules) (m : Machine) (n : ℕ) (p : HubPack) (entries : ℕ) (copied : Copied) (old new : HubState R F) (stamps : Option (List Stamp))
    → StandsForMachine old (without_pack m) → TakesTurnOf old m n p → p.copying ≡ Some (copying_at entries false) → tid_begun old.store.begun ≡ Some p.tid → tid_begun new.store.begun ≡ tid_begun old.store.begun
    → ForSome old.store.begun (λ o. ForSome new.store.begun (λ n. IsCopyTurn (packed_by o.tid p.marker.set old.store.list) o n copied))
    → AreLaterCounts (counts_of old.store) (counts_of new.store) → old.store.broken ≡ false → new.store.broken ≡ false → new.store.list ≡ old.store.list → new.store.voted ≡ old.store.voted
    → new.journal ≡ old.journal → new.greatest ≡ old.greatest → new.sessions ≡ old.sessions → new.vote ≡ old.vote → new.pack ≡ Some (copied_pack p entries copied.whole)
    → MakesStep rules m n request.PackTurn (copied_reply copied) old new stamps stamps
turn_copied rules m n p entries copied old new stamps stands takes is started stays turn later whole still list voted journal greatest sessions vote pack =
    by_begun old.store.begun new.store.begun refl refl
  where
    by_begun : (x y : Option BegunPack) → old.store.begun ≡ x → new.store.begun ≡ y → MakesStep rules m n request.PackTurn (copied_reply copied) old new stamps stamps
    by_begun None y begun begins = let never = sym (ap tid_begun begun) ∙ started in absurd cc
    by_begun (Some b) None begun begins = let never = sym (ap tid_begun begins) ∙ stays ∙ started in absurd cc
    by_begun (Some b) (Some c) begun begins =
        copied_one rules m n p entries copied b c old new stamps stands takes is begun begins
        (turn_there p.marker.set old.store.list p.tid old.store.begun new.store.begun b c copied started begun begins turn)
        later whole still list voted journal greatest sessions vote pack

-- the store answered an error, and the pack is dropped
pub turn_uncopied : {R F : Type 0} (rules : Rules) (m : Machine) (n : ℕ) (p : HubPack) (entries : ℕ) (told : Type 0) (e : StoreError) (old new : HubState R F) (stamps : Option (List Stamp))
    → told → StandsForMachine old (without_pack m) → TakesTurnOf old m n p → p.copying ≡ Some (copying_at entries false)
    → HasStoreCause old.store new.store (let r : Result Copied StoreError = Err e in r) → BreaksByFault new.store (let r : Result Copied StoreError = Err e in r) → CopyLeaves told old.store new.store (let r : Result Copied StoreError = Err e in r)
    → old.store.broken ≡ false → new.journal ≡ old.journal → new.greatest ≡ old.greatest → new.sessions ≡ old.sessions → new.vote ≡ old.vote → new.pack ≡ None
    → MakesStep rules m n request.PackTurn (fault_reply e) old new stamps stamps
turn_uncopied rules m n p entries told e old new stamps tells stands takes is cause fault leaves whole journal greatest sessions vote pack = by_error e cause fault leaves
  where
    open_pack : OpenPack
    open_pack = pack_of_hub old.store.list old.store.begun (length old.journal) p

    copying : PackCopying
    copying = copying_of_hub old.store.list old.store.begun (length old.journal) p.marker (copying_at entries false)

    gives : step_of rules m n request.PackTurn 0 ≡ copy_step m open_pack copying (packed_by p.tid p.marker.set old.store.list)
    gives = copying_gives rules m n 0 p entries old takes is (stands.list whole)

    left : new.store.broken ≡ false → new.store.list ≡ old.store.list → new.store.voted ≡ old.store.voted → StandsForMachine new (without_pack m)
    left still list voted = stands_with m None old new stands whole still list voted journal greatest sessions vote (none_open new.store (length new.journal) new.pack still pack)

    going : is_pack_going (step_of rules m n request.PackTurn 0).reply ≡ true
    going = ap (λ (s : Stepped). is_pack_going s.reply) gives ∙ copied_going _ _

    by_error : (e : StoreError) → HasStoreCause old.store new.store (let r : Result Copied StoreError = Err e in r) → BreaksByFault new.store (let r : Result Copied StoreError = Err e in r)
        → CopyLeaves told old.store new.store (let r : Result Copied StoreError = Err e in r) → MakesStep rules m n request.PackTurn (fault_reply e) old new stamps stamps
    by_error store_error.StoreFault cause fault leaves =
        store_failed rules m n request.PackTurn old new stamps (record { reads = cause.reads_later; others = cause.faults_later }) takes.allowed going (ap (λ (s : Stepped). s.ticks) gives) cause.refused
        (dropped_failed (without_pack m) old new stands whole (fault.breaks refl) journal greatest sessions)
    by_error store_error.ReadFault cause fault leaves =
        reading_failed rules m n request.PackTurn old new stamps (record { reads = cause.reads_later; others = cause.faults_later }) (record { allowed = takes.allowed; one = refl }) cause.refused
        (left fault.whole (leaves.list tells) (leaves.voted.all tells))
    by_error store_error.Memory cause fault leaves =
        starved rules m n request.PackTurn old new stamps (record { reads = cause.reads_later; others = cause.faults_later }) (record { allowed = takes.allowed; one = refl })
        (left fault.whole (leaves.list tells) (leaves.voted.all tells))

copy_behind : (keep : FinSet nat_cmp) (list now : List Transaction) (t : ℕ) (old new : Option BegunPack) (copied : Copied) → now ≡ list → tid_begun old ≡ Some t → tid_begun new ≡ tid_begun old
    → ForSome old (λ o. ForSome new (λ n. IsCopyTurn (packed_by o.tid keep list) o n copied)) → ForSome new (IsCopyOf keep now)
copy_behind keep list now t None new copied same started stays turn = absurd cc
copy_behind keep list now t (Some b) new copied same started stays turn = λ c there.
    let is : IsCopyTurn (packed_by b.tid keep list) b c copied = turn b refl c there in
    subst (λ (l : List Transaction). IsCopyOf keep l c) (sym same)
    (subst (λ (k : ℕ). IsPrefixOf (packed_by k keep list) c.copied) (sym is.tid) (copied_is_front (packed_by b.tid keep list) b c copied is))

copied_at : (named : List ℕ → Option (List ℕ)) (list now : List Transaction) (old new : Option BegunPack) (j entries : ℕ) (p : HubPack) (c : Option HubCopying) (copied : Copied) → c ≡ Some (copying_at entries false)
    → IsPackAt named list old j p c → now ≡ list → tid_begun old ≡ Some p.tid → tid_begun new ≡ tid_begun old
    → ForSome old (λ o. ForSome new (λ n. IsCopyTurn (packed_by o.tid p.marker.set list) o n copied))
    → IsCopied named now new j (copied_pack p entries copied.whole) (copying_at entries copied.whole)
copied_at named list now old new j entries p None copied is at same started stays turn = absurd cc
copied_at named list now old new j entries p (Some k) copied is at same started stays turn = record {
  front = at.front;
  commits = at.commits;
  split = same ∙ at.split;
  counted = at.counted ∙ ap (λ (x : HubCopying). j - x.entries) (same_Some k (copying_at entries false) is);
  later = at.later;
  set = at.set;
  whole = at.whole;
  copied = copy_behind p.marker.set list now p.tid old new copied same started stays turn;
}

-- the pack behind a turn that copied
pub keeps_copied : (told : Type 0) (named : List ℕ → Option (List ℕ)) (s t : StoreState) (j entries : ℕ) (p : HubPack) (copied : Copied)
    → KeepsPack told named s.list s.begun s.newest j p → p.copying ≡ Some (copying_at entries false) → (told → t.list ≡ s.list) → tid_begun t.begun ≡ tid_begun s.begun → t.newest ≡ s.newest
    → (told → ForSome s.begun (λ o. ForSome t.begun (λ n. IsCopyTurn (packed_by o.tid p.marker.set s.list) o n copied)))
    → KeepsPack told named t.list t.begun t.newest j (copied_pack p entries copied.whole)
keeps_copied told named s t j entries p copied keeps is list stays newest turn = record {
  tid = keeps.tid;
  started = stays ∙ keeps.started;
  early = subst (λ (n : ℕ). p.tid < n) (sym newest) keeps.early;
  at = λ tells. copied_at named s.list t.list s.begun t.begun j entries p p.copying copied is (keeps.at tells) (list tells) keeps.started stays (turn tells);
}

-- what the store says of both copies, as contracts see them
pub turn_shown : (shown s t : StoreState) (keep set : FinSet nat_cmp) (copied : Copied) → shown ≡ s → keep ≡ set
    → ForSome s.begun (λ o. ForSome t.begun (λ n. IsCopyTurn (packed_by o.tid keep s.list) o n copied)) → ForSome shown.begun (λ o. ForSome t.begun (λ n. IsCopyTurn (packed_by o.tid set shown.list) o n copied))
turn_shown shown s t keep set copied is same turn =
    subst (λ (x : StoreState). ForSome x.begun (λ o. ForSome t.begun (λ n. IsCopyTurn (packed_by o.tid set x.list) o n copied))) (sym is)
    (subst (λ (k : FinSet nat_cmp). ForSome s.begun (λ o. ForSome t.begun (λ n. IsCopyTurn (packed_by o.tid k s.list) o n copied))) same turn)
