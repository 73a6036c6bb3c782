-- A pack of a store, and of the file in Main.
use Rattle.zb_volume.specs.Disk.{IsSettled}
use Rattle.std.proofs.Common.{◌≡◌, ℕ, Bool, true, false, List, [], ◌∷◌, ◌++◌, Option, Some, None, inl, inr, refl, sym, ap, subst, ◌∙◌}
use Rattle.std.specs.Prelude.{IsTrue, codes}
use Rattle.std.specs.Io.KnownBytes.{Appends}
use Rattle.file_store.specs.Kept.{StandsForList}
use Rattle.file_store.specs.Opening.{Harm, KeepsList, SomeRose, IsNoneOr}
use Rattle.fs_recovery.specs.Opens.{IsNoList}
use Rattle.fs_recovery.specs.declared.errors.OpenError.{OpenError}
use Rattle.fs_recovery.specs.declared.errors.OpenError.TheVariants as error
use Rattle.zb_base.specs.Counts.{Rose}
use Rattle.zb_ids.specs.declared.stamp.Stamp.{Stamp}
use Rattle.zb_model.specs.declared.data.Transaction.{Transaction}
use Rattle.zb_model.specs.declared.refusal.Refusal.{Refusal}
use Rattle.zb_model.specs.declared.refusal.Refusal.TheVariants as refusal
use Rattle.zb_model.specs.Stores.{StoreState}
use Rattle.zb_outside.specs.Written.{AppendsPrefix}
use Rattle.zb_answers.specs.declared.answer.Answer.{Answer}
use Rattle.zb_answers.specs.Answers.{answer_text}
use Rattle.zb_volume.specs.declared.areas.Area.TheVariants.{Main}
use Rattle.zb_volume.specs.Calls.{Event}
use Rattle.zb_volume.specs.Moments.{Along, Leaves, LeavesOnly, here, more}
use Rattle.zb_volume.specs.Runs.{joined as along_joined, leaves_less}
use Rattle.zodb_core.specs.declared.reply.Reply.{Reply}
use Rattle.zodb_core.specs.declared.reply.Reply.TheVariants as reply
use Rattle.zodb_core.specs.declared.request.Request.TheVariants as request
use Rattle.zodb_core.specs.HubState.{HasTicked, HubState, IsBeforeOrBehind, IsCauseOf, MakesStep, StepsSafely, counts_of, is_store_failed}
use Rattle.zodb_core.specs.Machine.{Machine, machine_over, with_session}
use Rattle.zodb_core.specs.Outcomes.{Answered, EndsFor, FaultCounts, NoMemory, ReadingFailed, StepOutcome, StoreFailed, machine_left, outcome_of}
use Rattle.zodb_core.specs.Steps.{Stepped, early_refusal, step_of, unless_early, unless_unread}
use Rattle.zodb_top.specs.declared.packing.Told.TheVariants as told
use Rattle.program_words.specs.declared.command.PackRequest.{PackRequest}
use Rattle.script_runs.specs.declared.status.Status.{Status}
use Rattle.script_runs.specs.declared.status.Status.TheVariants as status
use Rattle.side_by_side.specs.Runs.{stock}
use Rattle.zodb_top.specs.Came.{IsCalm}
use Rattle.zodb_top.specs.Opened.{IsLeft, OpensAs, made as opens_made, there as opens_there}
use Rattle.zodb_top.specs.Outside.{Outside, main_of}
use Rattle.zodb_top.specs.PackStores.{CountsPack, IsListBehind, IsStorePacked, IsToldAs, PacksStore}
use Rattle.zodb_top.specs.Packs.{IsLeftBy, IsListOrPacked, IsOfPack, IsPacked, IsReplyTo, PackSays, ReplySays, is_told, reply_line}
use Rattle.script_runs.specs.Outcomes.{IsUnlessMemory}
use Rattle.zodb_top.specs.Telling.{told_of}
use Rattle.script_runs.specs.Texts.{joined, line, store_fault_line}
use Rattle.zodb_top.specs.Unopened.{SaysUnopened}
use Rattle.script_runs.specs.Written.{IsWritten}
use Rattle.zodb_top.proofs.Files.{refused}
use Rattle.zodb_top.proofs.Volumes.{IsOpen, unfailed}

-- ---- one step

unless_ticks : (m : Machine) (w : Option (ℕ × ℕ)) (made : Stepped) → made.ticks ≡ false → (unless_unread m w made).ticks ≡ false
unless_ticks m None made is = is
unless_ticks m (Some w) made is = refl

early_ticks : (early : Option Refusal) (m : Machine) (made : Stepped) → made.ticks ≡ false → (unless_early early m made).ticks ≡ false
early_ticks None m made is = is
early_ticks (Some why) m made is = refl

pack_ticks : (pack : PackRequest) (stamp : ℕ) (m : Machine) → (step_of stock m 0 (request.Pack pack.tid pack.collect) stamp).ticks ≡ false
pack_ticks pack stamp m = early_ticks (early_refusal m 0 (request.Pack pack.tid pack.collect)) m _ (unless_ticks m _ _ refl)

unticked : (ticks : Bool) (stamp : ℕ) (before after : Option (List Stamp)) (step : Bool) → (IsTrue ticks → IsTrue step) → step ≡ false → HasTicked ticks stamp before after → after ≡ before
unticked false stamp before after step only none ticked = ticked
unticked true stamp before after false only none ticked = let never : IsTrue false = only refl in absurd cc
unticked true stamp before after true only none ticked = absurd cc

module _ {R F : Type 0} (pack : PackRequest) (r : Reply) (old new : HubState R F) (before after : Option (List Stamp)) where
  ends_so : (made : MakesStep stock (with_session (machine_over old.store.list)) 0 (request.Pack pack.tid pack.collect) r old new before after) → (o : StepOutcome) → outcome_of r ≡ o → is_store_failed o ≡ new.store.broken
      → IsReplyTo pack old.store.list r o × IsListBehind pack old.store.list new.store.list o
  ends_so made Answered is whole =
      let s : Stepped = record { reply = r; machine = made.left; ticks = made.ticks } in
      let m = with_session (machine_over old.store.list) in
      let cause : s ≡ step_of stock m 0 (request.Pack pack.tid pack.collect) made.stamp = subst (EndsFor stock m 0 (request.Pack pack.tid pack.collect) made.stamp s (counts_of old.store) (counts_of new.store)) is made.made.cause in
      (ap (λ (x : Stepped). x.reply) cause, sym (made.stands.list (sym whole)) ∙ ap (λ (x : Stepped). x.machine.list) cause)
  ends_so made ReadingFailed is whole =
      let m = with_session (machine_over old.store.list) in
      let left : made.left ≡ m = made.made.left ∙ ap (machine_left stock m 0 (request.Pack pack.tid pack.collect) made.stamp) is in
      (tt, sym (made.stands.list (sym whole)) ∙ ap (λ (x : Machine). x.list) left)
  ends_so made NoMemory is whole =
      let m = with_session (machine_over old.store.list) in
      let left : made.left ≡ m = made.made.left ∙ ap (machine_left stock m 0 (request.Pack pack.tid pack.collect) made.stamp) is in
      (tt, sym (made.stands.list (sym whole)) ∙ ap (λ (x : Machine). x.list) left)
  ends_so made StoreFailed is whole = (tt, tt)

  step_packs : MakesStep stock (with_session (machine_over old.store.list)) 0 (request.Pack pack.tid pack.collect) r old new before after → StepsSafely true r old new → old.store.broken ≡ false → IsStorePacked pack r old.store new.store before after
  step_packs made safe whole =
      let both = ends_so made (outcome_of r) refl (sym (safe.broken whole)) in record {
        made = both.0;
        list = both.1;
        whole = safe.broken whole;
        clock = unticked made.ticks made.stamp before after (step_of stock (with_session (machine_over old.store.list)) 0 (request.Pack pack.tid pack.collect) made.stamp).ticks made.made.ticks (pack_ticks pack made.stamp (with_session (machine_over old.store.list))) made.clock;
      }

-- over a store that a hub is made of and gives back
pub store_packs : {R F : Type 0} (pack : PackRequest) (r : Reply) (state state' : StoreState) (first old new : HubState R F) (n : ℕ) (before after : Option (List Stamp)) → first.store ≡ state → old.store ≡ first.store → state' ≡ new.store → n ≡ 0
    → (MakesStep stock (with_session (machine_over state.list)) n (request.Pack pack.tid pack.collect) r old new before after) → StepsSafely true r old new → state.broken ≡ false → IsStorePacked pack r state state' before after
store_packs pack r state state' first old new n before after is opened last zero made safe whole =
    let same : old.store ≡ state = opened ∙ is in
    let step : MakesStep stock (with_session (machine_over old.store.list)) 0 (request.Pack pack.tid pack.collect) r old new before after =
    subst (λ (k : ℕ). MakesStep stock (with_session (machine_over old.store.list)) k (request.Pack pack.tid pack.collect) r old new before after) zero
    (subst (λ (s : StoreState). MakesStep stock (with_session (machine_over s.list)) n (request.Pack pack.tid pack.collect) r old new before after) (sym same) made) in
    let packs = step_packs pack r old new before after step safe (ap (λ (s : StoreState). s.broken) same ∙ whole) in
    subst (λ (s : StoreState). IsStorePacked pack r s state' before after) same (subst (λ (s : StoreState). IsStorePacked pack r old.store s before after) (sym last) packs)

-- what a crash in it leaves
pub moments_packs : (stands : List ℕ → List Transaction → Type 0) (pack : PackRequest) (n : ℕ) (list : List Transaction) (first old new : List Event) → n ≡ 0 → old ≡ first
    → LeavesOnly Main (IsBeforeOrBehind stands stock (with_session (machine_over list)) n (request.Pack pack.tid pack.collect)) old new → LeavesOnly Main (IsListOrPacked stands pack list) first new
moments_packs stands pack n list first old new zero same moments =
    subst (λ (l : List Event). LeavesOnly Main (IsListOrPacked stands pack list) l new) same
    (leaves_less Main (IsBeforeOrBehind stands stock (with_session (machine_over list)) n (request.Pack pack.tid pack.collect)) (IsListOrPacked stands pack list) old new
    (λ bytes either. elim either [
      | inl is ↦ inl is
      | inr is ↦ inr (subst (λ (k : ℕ). stands bytes (step_of stock (with_session (machine_over list)) k (request.Pack pack.tid pack.collect) 0).machine.list) zero (is 0))
    ])
    moments)

pub moments_still : (stands : List ℕ → List Transaction → Type 0) (pack : PackRequest) (list : List Transaction) (old new : List Event) → new ≡ old → Leaves Main (λ bytes. stands bytes list) old → LeavesOnly Main (IsListOrPacked stands pack list) old new
moments_still stands pack list old new same lasting = subst (λ (l : List Event). LeavesOnly Main (IsListOrPacked stands pack list) old l) (sym same) (here (λ image left. inl (lasting image left)))

-- no session was opened for want of memory
pub unopened_packs : (pack : PackRequest) (state state' : StoreState) (stamps : Option (List Stamp)) → state' ≡ state → state.broken ≡ false → IsStorePacked pack (reply.Refused refusal.Memory) state state' stamps stamps
unopened_packs pack state state' stamps same whole = record { made = tt; list = ap (λ (s : StoreState). s.list) same; whole = ap (λ (s : StoreState). s.broken) same ∙ whole; clock = refl }

-- the counts over a store that a hub is made of and gives back
pub counts_store : (old new : StoreState) (r : Reply) (state state' : StoreState) → old ≡ state → state' ≡ new → CountsPack old new r → CountsPack state state' r
counts_store old new r state state' first last counts =
    subst (λ (s : StoreState). CountsPack s state' r) first (subst (λ (s : StoreState). CountsPack old s r) (sym last) counts)

-- no memory for the line of a tail
pub nothing_packs : (told lasts : Type 0) (stands : List ℕ → List Transaction → Type 0) (pack : PackRequest) (cut : Option ℕ) (taken : Option (List ℕ)) (before : ℕ) (state : StoreState) (stamps : Option (List Stamp)) → state.broken ≡ false
    → (lasts → Leaves Main (λ bytes. stands bytes state.list) state.log) → PacksStore status.NoMemory told lasts stands pack cut taken taken before before state state stamps stamps
nothing_packs told lasts stands pack cut taken before state stamps whole lasting = record {
  reply = reply.Refused refusal.Memory;
  says = (λ failed. absurd cc, refl);
  cause = refl;
  step = λ known. unopened_packs pack state state stamps refl whole;
  moments = λ known tells. moments_still stands pack state.list state.log state.log refl (lasting known);
  images = λ known sound. lasting known;
}

-- ---- a reply that is told

same_answer : (a b : Answer) → told.Line a ≡ told.Line b → a ≡ b
same_answer a b is = cc

refused_line : (why : Refusal) (a : Answer) → told_of (reply.Refused why) ≡ told.Line a → (is_told (outcome_of (reply.Refused why)) ≡ true) × (reply_line (reply.Refused why) ≡ line (answer_text a))
refused_line refusal.StoreFault a is = absurd cc
refused_line refusal.ReadFault a is = absurd cc
refused_line refusal.Memory a is = absurd cc
refused_line _ a is = (refl, ap (λ (x : Answer). line (answer_text x)) (same_answer _ a is))

told_line : (r : Reply) (a : Answer) → told_of r ≡ told.Line a → (is_told (outcome_of r) ≡ true) × (reply_line r ≡ line (answer_text a))
told_line (reply.Packed kept dropped) a is = (refl, ap (λ (x : Answer). line (answer_text x)) (same_answer _ a is))
told_line (reply.Refused why) a is = refused_line why a is
told_line _ a is = absurd cc

refused_read : (why : Refusal) → told_of (reply.Refused why) ≡ told.ReadFault → (is_told (outcome_of (reply.Refused why)) ≡ true) × (reply_line (reply.Refused why) ≡ line (codes "refused ReadFault"))
refused_read refusal.ReadFault is = (refl, refl)
refused_read refusal.StoreFault is = absurd cc
refused_read refusal.Memory is = absurd cc
refused_read _ is = absurd cc

told_read : (r : Reply) → told_of r ≡ told.ReadFault → (is_told (outcome_of r) ≡ true) × (reply_line r ≡ line (codes "refused ReadFault"))
told_read (reply.Packed kept dropped) is = absurd cc
told_read (reply.Refused why) is = refused_read why is
told_read _ is = absurd cc

refused_store : (why : Refusal) → told_of (reply.Refused why) ≡ told.StoreFault → outcome_of (reply.Refused why) ≡ StoreFailed
refused_store refusal.StoreFault is = refl
refused_store refusal.ReadFault is = absurd cc
refused_store refusal.Memory is = absurd cc
refused_store _ is = absurd cc

told_store : (r : Reply) → told_of r ≡ told.StoreFault → outcome_of r ≡ StoreFailed
told_store (reply.Packed kept dropped) is = absurd cc
told_store (reply.Refused why) is = refused_store why is
told_store _ is = absurd cc

refused_nothing : (why : Refusal) → told_of (reply.Refused why) ≡ told.Nothing → ¬ (outcome_of (reply.Refused why) ≡ StoreFailed)
refused_nothing refusal.Memory is = λ failed. absurd cc
refused_nothing refusal.StoreFault is = absurd cc
refused_nothing refusal.ReadFault is = absurd cc
refused_nothing _ is = absurd cc

pub told_nothing : (r : Reply) → told_of r ≡ told.Nothing → ¬ (outcome_of r ≡ StoreFailed)
told_nothing (reply.Refused why) is = refused_nothing why is
told_nothing (reply.Packed kept dropped) is = absurd cc
told_nothing _ is = λ failed. absurd cc

unfailed_told : (o : StepOutcome) → is_told o ≡ true → ¬ (o ≡ StoreFailed)
unfailed_told Answered is = λ failed. absurd cc
unfailed_told ReadingFailed is = λ failed. absurd cc
unfailed_told NoMemory is = absurd cc
unfailed_told StoreFailed is = absurd cc

-- no memory for the line
pub line_untold : (r : Reply) (a : Answer) → told_of r ≡ told.Line a → ¬ (outcome_of r ≡ StoreFailed)
line_untold r a is = let both = told_line r a is in unfailed_told (outcome_of r) both.0

says_text : (s : Status) (r : Reply) (lines : List (List ℕ)) (text : List ℕ) (old new : Option (List ℕ)) (before now : ℕ) → is_told (outcome_of r) ≡ true → reply_line r ≡ text → IsToldAs s old new before now (joined (lines ++ text ∷ []))
    → ReplySays s old new before now r lines
says_text status.Done r lines text old new before now told is wrote = (told, subst (λ (t : List ℕ). Appends old new (joined (lines ++ t ∷ []))) (sym is) wrote)
says_text status.SinkFault r lines text old new before now told is wrote = (wrote.0, told, subst (λ (t : List ℕ). AppendsPrefix old new (joined (lines ++ t ∷ []))) (sym is) wrote.1)
says_text _ r lines text old new before now told is wrote = absurd wrote

pub says_line : (s : Status) (r : Reply) (a : Answer) (lines : List (List ℕ)) (text : List ℕ) (old new : Option (List ℕ)) (before now : ℕ) → told_of r ≡ told.Line a → text ≡ line (answer_text a) → IsToldAs s old new before now (joined (lines ++ text ∷ []))
    → ReplySays s old new before now r lines
says_line s r a lines text old new before now is same wrote = let both = told_line r a is in says_text s r lines text old new before now both.0 (both.1 ∙ sym same) wrote

pub says_read : (s : Status) (r : Reply) (lines : List (List ℕ)) (old new : Option (List ℕ)) (before now : ℕ) → told_of r ≡ told.ReadFault → IsToldAs s old new before now (joined (lines ++ line (codes "refused ReadFault") ∷ []))
    → ReplySays s old new before now r lines
says_read s r lines old new before now is wrote = let both = told_read r is in says_text s r lines (line (codes "refused ReadFault")) old new before now both.0 both.1 wrote

pub says_store : (s : Status) (r : Reply) (lines : List (List ℕ)) (old new : Option (List ℕ)) (before now : ℕ) → told_of r ≡ told.StoreFault → s ≡ status.StoreFault → IsWritten old new before now (joined lines ++ store_fault_line)
    → ReplySays s old new before now r lines
says_store s r lines old new before now is same wrote = rw same (told_store r is, wrote)

-- ---- statuses

pub pack_done : (s : Status) (r : Reply) (lines : List (List ℕ)) (old new : Option (List ℕ)) (before now : ℕ) (counts counts' : FaultCounts) → ReplySays s old new before now r lines → IsCauseOf counts counts' (outcome_of r)
    → ¬ Rose counts.others counts'.others → ¬ Rose before now → IsUnlessMemory s status.Done
pack_done status.Done r lines old new before now counts counts' says cause still calm = inl refl
pack_done status.NoMemory r lines old new before now counts counts' says cause still calm = inr refl
pack_done status.SinkFault r lines old new before now counts counts' says cause still calm = absurd (calm says.0)
pack_done status.StoreFault r lines old new before now counts counts' says cause still calm = absurd (still (subst (IsCauseOf counts counts') says.0 cause))
pack_done _ r lines old new before now counts counts' says cause still calm = absurd says

pub pack_unfailed : (s : Status) (r : Reply) (lines : List (List ℕ)) (old new : Option (List ℕ)) (before now : ℕ) → ReplySays s old new before now r lines → ¬ (s ≡ status.StoreFault) → ¬ (outcome_of r ≡ StoreFailed)
pack_unfailed status.Done r lines old new before now says other = unfailed_told (outcome_of r) says.0
pack_unfailed status.NoMemory r lines old new before now says other = says.0
pack_unfailed status.SinkFault r lines old new before now says other = unfailed_told (outcome_of r) says.1
pack_unfailed status.StoreFault r lines old new before now says other = absurd (other refl)
pack_unfailed _ r lines old new before now says other = absurd says

-- ---- the file

pub unopened : (s : Status) (e : OpenError) (pack : PackRequest) (told : Type 0) (before after : Outside) → SaysUnopened s e before.taken after.taken before.sink_faults after.sink_faults
    → (told → Harm (main_of before) e) → (e ≡ error.StoreFault → SomeRose before.read_faults after.read_faults before.write_faults after.write_faults)
    → (told → IsNoList (main_of before) → after.log ≡ before.log) → (¬ (e ≡ error.StoreFault) → (after.read_faults ≡ before.read_faults) × (after.write_faults ≡ before.write_faults)) → IsLeft told before after
    → PackSays s pack told before after
unopened status.StoreFault e pack told before after said harm rose same calm left = inl (record { rose = rose said.0; written = said.1; left = left })
unopened status.Damaged e pack told before after (text, names, wrote) harm rose same calm left = refused e told before after text names wrote harm same left
unopened status.NoMemory e pack told before after said harm rose same calm left = (said.1, inl (left, unfailed e before after said.0 calm))
unopened _ e pack told before after said harm rose same calm left = absurd said

-- at the end of a call, as at each of its moments
pub last_left : (P : List Event → Type 0) (old new : List Event) → Along P old new → P new
last_left P old _ (here now) = now
last_left P old _ (more now before) = now

module _ (pack : PackRequest) (before : Outside) (state : StoreState) (left : Option (List Stamp)) (cut : Option ℕ) where
  opened_moments : OpensAs (main_of before) before.stamps left state.list cut → KeepsList before.log state.log → (main_of before ≡ [] → IsSettled before.log Main → LeavesOnly Main (IsNoneOr state.list) before.log state.log)
      → IsCalm before → LeavesOnly Main (IsOfPack (main_of before) pack state.list) before.log state.log
  opened_moments (opens_there some stands same) keeps makes calm =
      leaves_less Main (λ bytes. StandsForList bytes state.list) (IsOfPack (main_of before) pack state.list) before.log state.log (λ bytes is. inl (inl is)) (keeps state.list cut some stands calm)
  opened_moments (opens_made empty is given) keeps makes calm =
      leaves_less Main (IsNoneOr state.list) (IsOfPack (main_of before) pack state.list) before.log state.log
      (λ bytes either. elim either [
        | inl none ↦ inr (empty, none)
        | inr new ↦ inl (inl new)
      ])
      (makes empty calm)

  module _ (after : Outside) (state' : StoreState) (told : Type 0) (whole : state.faults ≡ before.write_faults) (first : state.read_faults ≡ before.read_faults)
      (log : after.log ≡ state'.log) (reads : after.read_faults ≡ state'.read_faults) (faults : after.write_faults ≡ state'.faults) where
    images_by : (o : StepOutcome) → IsListBehind pack state.list state'.list o → state'.broken ≡ is_store_failed o → (state'.broken ≡ false → Leaves Main (λ bytes. StandsForList bytes state'.list) state'.log)
        → LeavesOnly Main (IsListOrPacked StandsForList pack state.list) state.log state'.log → Leaves Main (IsLeftBy StandsForList pack state.list o) state'.log
    images_by Answered list sound images moments = subst (λ (l : List Transaction). Leaves Main (λ bytes. StandsForList bytes l) state'.log) list (images sound)
    images_by ReadingFailed list sound images moments = subst (λ (l : List Transaction). Leaves Main (λ bytes. StandsForList bytes l) state'.log) list (images sound)
    images_by NoMemory list sound images moments = subst (λ (l : List Transaction). Leaves Main (λ bytes. StandsForList bytes l) state'.log) list (images sound)
    images_by StoreFailed list sound images moments = last_left (Leaves Main (IsListOrPacked StandsForList pack state.list)) state.log state'.log moments

    counts_before : counts_of state ≡ (record { reads = before.read_faults; others = before.write_faults })
    counts_before = ap (λ (n : ℕ). let x : FaultCounts = record { reads = n; others = state.faults } in x) first ∙ ap (λ (n : ℕ). let x : FaultCounts = record { reads = before.read_faults; others = n } in x) whole

    counts_after : counts_of state' ≡ (record { reads = after.read_faults; others = after.write_faults })
    counts_after = ap (λ (n : ℕ). let x : FaultCounts = record { reads = n; others = state'.faults } in x) (sym reads) ∙ ap (λ (n : ℕ). let x : FaultCounts = record { reads = after.read_faults; others = n } in x) (sym faults)

    cause_so : (o : StepOutcome) → IsCauseOf (counts_of state) (counts_of state') o → IsCauseOf (record { reads = before.read_faults; others = before.write_faults }) (record { reads = after.read_faults; others = after.write_faults }) o
    cause_so o cause = subst (λ (x : FaultCounts). IsCauseOf x (record { reads = after.read_faults; others = after.write_faults }) o) counts_before (subst (λ (x : FaultCounts). IsCauseOf (counts_of state) x o) counts_after cause)

    packed_so : (s : Status) → told → IsOpen before after state left cut → PacksStore s told told StandsForList pack cut before.taken after.taken before.sink_faults after.sink_faults state state' left after.stamps
        → IsPacked pack (ReplySays s before.taken after.taken before.sink_faults after.sink_faults) before after
    packed_so s known is packs =
        let step = packs.step known in
        let images : Leaves Main (IsLeftBy StandsForList pack state.list (outcome_of packs.reply)) after.log =
        subst (λ (l : List Event). Leaves Main (IsLeftBy StandsForList pack state.list (outcome_of packs.reply)) l) (sym log) (images_by (outcome_of packs.reply) step.list step.whole (packs.images known) (packs.moments known known)) in record {
          list = state.list;
          cut = cut;
          opens = subst (λ (o : Option (List Stamp)). OpensAs (main_of before) before.stamps o state.list cut) (sym step.clock) is.opens;
          reply = packs.reply;
          made = step.made;
          cause = cause_so (outcome_of packs.reply) packs.cause;
          says_so = packs.says;
          main = images (main_of after) is.shown;
          images = images;
          moments = λ calm.
              subst (λ (l : List Event). LeavesOnly Main (IsOfPack (main_of before) pack state.list) before.log l) (sym log)
              (along_joined (Leaves Main (IsOfPack (main_of before) pack state.list)) before.log state.log state'.log (opened_moments is.opens is.keeps is.makes calm)
              (leaves_less Main (IsListOrPacked StandsForList pack state.list) (IsOfPack (main_of before) pack state.list) state.log state'.log (λ bytes either. inl either) (packs.moments known known)));
        }

    pub packs_file : (s : Status) → (told → IsOpen before after state left cut) → PacksStore s told told StandsForList pack cut before.taken after.taken before.sink_faults after.sink_faults state state' left after.stamps → PackSays s pack told before after
    packs_file status.Done is packs = λ known. packed_so status.Done known (is known) packs
    packs_file status.NoMemory is packs = let both = packs.says in (both.1, inr (λ known. packed_so status.NoMemory known (is known) packs))
    packs_file status.SinkFault is packs = let all = packs.says in (all.0, λ known. packed_so status.SinkFault known (is known) packs)
    packs_file status.StoreFault is packs =
        let both = packs.says in
        inr (subst (IsCauseOf (record { reads = before.read_faults; others = before.write_faults }) (record { reads = after.read_faults; others = after.write_faults })) both.0 (cause_so (outcome_of packs.reply) packs.cause), λ known. packed_so status.StoreFault known (is known) packs)
    packs_file _ is packs = absurd packs.says
