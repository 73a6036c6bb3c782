-- The index file of the file in Main is written.
use Rattle.std.proofs.Common.{◌≡◌, ◌≢◌, ℕ, List, [], ◌∷◌, ◌++◌, Option, inl, inr, refl, sym, ap, subst, ◌∙◌}
use Rattle.file_store.specs.Hinting.{IsHintedUpTo}
use Rattle.file_store.specs.Kept.{StandsForList}
use Rattle.file_store.specs.Opening.{GaveAtMostOne, Harm, IsNewOr, KeepsList, MakesFile, MakesList, SomeRose}
use Rattle.fs_records.specs.File.{StandsFor}
use Rattle.fs_recovery.specs.Opens.{IsNoList}
use Rattle.fs_recovery.specs.declared.errors.OpenError.{OpenError}
use Rattle.fs_recovery.specs.declared.errors.OpenError.TheVariants as open_error
use Rattle.zb_base.specs.Counts.{Rose}
use Rattle.zb_ids.specs.declared.stamp.Stamp.{Stamp}
use Rattle.zb_model.specs.declared.data.Transaction.{Transaction}
use Rattle.zb_model.specs.StayLaws.{stays_then}
use Rattle.zb_model.specs.Stores.{MayRefuse, StoreState}
use Rattle.zb_model.specs.declared.store_error.StoreError.{StoreError}
use Rattle.zb_model.specs.declared.store_error.StoreError.TheVariants.{ReadFault}
use Rattle.zb_volume.specs.declared.areas.Area.TheVariants.{Hint, Main, Side}
use Rattle.zb_volume.specs.Calls.{Event}
use Rattle.zb_volume.specs.Disk.{Disk, disk, seen}
use Rattle.zb_volume.specs.Images.{MayLeave}
use Rattle.zb_volume.specs.Moments.{Leaves, LeavesOnly, StaysAs}
use Rattle.zb_volume.specs.Runs.{along_now, joined as along_joined, weaker}
use Rattle.zb_volume.specs.States.{OthersStay}
use Rattle.zodb_core.specs.Outcomes.{FaultCounts}
use Rattle.script_runs.specs.declared.status.Status.{Status}
use Rattle.script_runs.specs.declared.status.Status.TheVariants as status
use Rattle.zodb_top.specs.Indexing.{IndexSays, IndexesStore, IsIndexSaid, IsIndexed}
use Rattle.zodb_top.specs.Opened.{IsLeft, OpensAs, made, there}
use Rattle.zodb_top.specs.Outside.{Outside, main_of}
use Rattle.zodb_top.specs.PackStores.{IsToldAs}
use Rattle.script_runs.specs.Outcomes.{IsUnlessMemory}
use Rattle.script_runs.specs.Texts.{cut_lines, joined, store_fault_line}
use Rattle.zodb_top.specs.Texts.{indexed_line, refused_line}
use Rattle.zodb_top.specs.Unopened.{SaysUnopened}
use Rattle.script_runs.specs.Written.{IsWritten}
use Rattle.zodb_top.proofs.Complete.{not_named, not_opened}
use Rattle.zodb_top.proofs.Files.{refused}
use Rattle.zodb_top.proofs.Untouched.{makes_at}
use Rattle.zodb_top.proofs.Volumes.{IsOpen, bytes_open, unfailed}

-- ---- Main stays

stays_leaves : (Q : List ℕ → Type 0) (old new : List Event) → StaysAs Main old new → Leaves Main Q old → LeavesOnly Main Q old new
stays_leaves Q old new stays holds =
    weaker (λ log. disk log Main ≡ disk old Main) (Leaves Main Q) old new (λ log is image left. holds image (subst (λ (d : Disk). MayLeave d.pending image) is left)) stays

-- what is known where the file was opened, whatever the volume tells
pub record IsHinting (told : Type 0) (before after : Outside) (state state' : StoreState) (left : Option (List Stamp)) (cut : Option ℕ) : Type 0 where
  pub file : told → IsOpen before after state left cut
  pub given : GaveAtMostOne before.stamps left
  pub kept : told → main_of before ≢ [] → left ≡ before.stamps
  pub side : told → main_of before ≢ [] → StaysAs Side before.log state.log
  pub others : told → OthersStay Hint state.log state'.log
  pub makes : told → main_of before ≡ [] → MakesFile before.stamps before.log state.log
  pub stamps : after.stamps ≡ left
  pub log : after.log ≡ state'.log
  pub first_reads : state.read_faults ≡ before.read_faults
  pub first_writes : state.faults ≡ before.write_faults
  pub reads : after.read_faults ≡ state'.read_faults
  pub writes : after.write_faults ≡ state'.faults

module _ (told : Type 0) (before after : Outside) (state state' : StoreState) (left : Option (List Stamp)) (cut : Option ℕ) (is : IsHinting told before after state state' left cut) where
  main_stays : told → StaysAs Main state.log state'.log
  main_stays known = is.others known Main refl

  main_same : told → main_of after ≡ seen state.log Main
  main_same known = ap (λ (l : List Event). seen l Main) is.log ∙ ap (λ (d : Disk). d.now) (along_now (λ l. disk l Main ≡ disk state.log Main) state.log state'.log (main_stays known))

  keeps_on : told → KeepsList before.log state'.log
  keeps_on known list at some stands settled =
      let first = (is.file known).keeps list at some stands settled in
      along_joined (Leaves Main (λ bytes. StandsForList bytes list)) before.log state.log state'.log first
      (stays_leaves (λ bytes. StandsForList bytes list) state.log state'.log (main_stays known) (along_now (Leaves Main (λ bytes. StandsForList bytes list)) before.log state.log first))

  makes_on : told → (stamp : Stamp) → MakesList stamp before.log state.log → MakesList stamp before.log state'.log
  makes_on known stamp makes empty settled =
      let first = makes empty settled in
      along_joined (Leaves Main (IsNewOr stamp)) before.log state.log state'.log first
      (stays_leaves (IsNewOr stamp) state.log state'.log (main_stays known) (along_now (Leaves Main (IsNewOr stamp)) before.log state.log first))

  -- a file that was made, by the stamp of its list where nothing was said of another
  made_by : told → main_of before ≡ [] → OpensAs (main_of before) before.stamps left state.list cut → state.log ≡ before.log → MakesFile before.stamps before.log state'.log
  made_by known empty (there some stands same) still = absurd (some empty)
  made_by known empty (made none new given) still =
      inr (new.stamp, new.first, makes_on known new.stamp (subst (λ (l : List Event). MakesList new.stamp before.log l) (sym still) (makes_at new.stamp before.log)))

  makes_file : told → main_of before ≡ [] → MakesFile before.stamps before.log state'.log
  makes_file known empty = elim (is.makes known empty) [
    | inl still ↦ made_by known empty (is.file known).opens still
    | inr (stamp, first, makes) ↦ inr (stamp, first, makes_on known stamp makes)
  ]

  pub index_left : IsLeft told before after
  index_left = record {
    stamps = subst (λ (o : Option (List Stamp)). GaveAtMostOne before.stamps o) (sym is.stamps) is.given;
    kept = λ known some. is.stamps ∙ is.kept known some;
    bytes = λ known some. let o = is.file known in bytes_open before after left state.list cut o.opens some (main_same known ∙ o.bytes some);
    side = λ known some. subst (λ (l : List Event). StaysAs Side before.log l) (sym is.log) (stays_then Side before.log state.log state'.log (is.side known some) (is.others known Side refl));
    keeps = λ known. subst (λ (l : List Event). KeepsList before.log l) (sym is.log) (keeps_on known);
    makes = λ known empty. subst (λ (l : List Event). MakesFile before.stamps before.log l) (sym is.log) (makes_file known empty);
  }

  opens_now : told → OpensAs (main_of before) before.stamps after.stamps state.list cut
  opens_now known = subst (λ (o : Option (List Stamp)). OpensAs (main_of before) before.stamps o state.list cut) (sym is.stamps) (is.file known).opens

  rose_reads : Rose state.read_faults state'.read_faults → Rose before.read_faults after.read_faults
  rose_reads rose = subst (λ (n : ℕ). Rose before.read_faults n) (sym is.reads) (subst (λ (n : ℕ). Rose n state'.read_faults) is.first_reads rose)

  said_now : (lines : List (List ℕ)) → told → IsIndexSaid told cut state'.log (Rose state.read_faults state'.read_faults) lines → IsIndexSaid (Unit {0}) cut after.log (Rose before.read_faults after.read_faults) lines
  said_now lines known (inl (end, hinted, said)) = inl (end, λ any. subst (λ (l : List Event). IsHintedUpTo l end) (sym is.log) (hinted known), said)
  said_now lines known (inr (rose, said)) = inr (rose_reads rose, said)

  indexed_now : (lines : List (List ℕ)) → (told → StandsForList (main_of after) state.list) → IsIndexSaid told cut state'.log (Rose state.read_faults state'.read_faults) lines → told → IsIndexed before after lines
  indexed_now lines main said known = record {
    list = state.list;
    cut = cut;
    opens = opens_now known;
    says = said_now lines known said;
    main = main known;
  }

  pub indexes_file : (s : Status) → (told → ¬ (s ≡ status.StoreFault) → StandsForList (main_of after) state.list) → IndexesStore s told cut before.taken after.taken before.sink_faults after.sink_faults state state' → IndexSays s told before after
  indexes_file status.Done main (lines, said, wrote) = (lines, indexed_now lines (λ known. main known (λ other. absurd cc)) said, wrote)
  indexes_file status.NoMemory main (silent, calm) =
      (silent, record { reads = is.reads ∙ ap (λ (c : FaultCounts). c.reads) calm ∙ is.first_reads; writes = is.writes ∙ ap (λ (c : FaultCounts). c.others) calm ∙ is.first_writes })
  indexes_file status.SinkFault main (failed, (lines, said, wrote)) = (failed, (lines, indexed_now lines (λ known. main known (λ other. absurd cc)) said, wrote))
  indexes_file status.StoreFault main (rose, wrote) = inr (record {
    cut = cut;
    rose = subst (λ (n : ℕ). Rose before.write_faults n) (sym is.writes) (subst (λ (n : ℕ). Rose n state'.faults) is.first_writes rose);
    written = wrote;
    opens = λ known. (state.list, opens_now known);
    left = index_left;
  })
  indexes_file _ main says = absurd says

-- ---- the store

told_lines : (s : Status) (told : Type 0) (cut : Option ℕ) (lines : List (List ℕ)) (taken taken' : Option (List ℕ)) (before now : ℕ) (old new : StoreState)
    → IsIndexSaid told cut new.log (Rose old.read_faults new.read_faults) lines → IsToldAs s taken taken' before now (joined lines) → IndexesStore s told cut taken taken' before now old new
told_lines status.Done told cut lines taken taken' before now old new said wrote = (lines, said, wrote)
told_lines status.SinkFault told cut lines taken taken' before now old new said wrote = (wrote.0, (lines, said, wrote.1))
told_lines _ told cut lines taken taken' before now old new said wrote = absurd wrote

-- the index file is written
pub tells_end : (s : Status) (told : Type 0) (cut : Option ℕ) (first : List (List ℕ)) (text : List ℕ) (end : ℕ) (taken taken' : Option (List ℕ)) (before now : ℕ) (old new : StoreState)
    → first ≡ cut_lines cut → text ≡ indexed_line end → (told → IsHintedUpTo new.log end) → IsToldAs s taken taken' before now (joined (first ++ text ∷ [])) → IndexesStore s told cut taken taken' before now old new
tells_end s told cut first text end taken taken' before now old new is same hinted wrote =
    told_lines s told cut (first ++ text ∷ []) taken taken' before now old new (inl (end, hinted, rw (is, same) refl)) wrote

-- a read failed
pub tells_unread : (s : Status) (told : Type 0) (cut : Option ℕ) (first : List (List ℕ)) (taken taken' : Option (List ℕ)) (before now : ℕ) (old new : StoreState)
    → first ≡ cut_lines cut → Rose old.read_faults new.read_faults → IsToldAs s taken taken' before now (joined (first ++ refused_line ∷ [])) → IndexesStore s told cut taken taken' before now old new
tells_unread s told cut first taken taken' before now old new is rose wrote =
    told_lines s told cut (first ++ refused_line ∷ []) taken taken' before now old new (inr (rose, rw is refl)) wrote

-- the cause of a failed read
pub unread_rose : (old new : StoreState) (e : StoreError) → e ≡ ReadFault → MayRefuse old new e → Rose old.read_faults new.read_faults
unread_rose old new e is cause = subst (λ (x : StoreError). MayRefuse old new x) is cause

-- a call failed that would have written it
pub tells_fault : (s : Status) (told : Type 0) (cut : Option ℕ) (first : List (List ℕ)) (taken taken' : Option (List ℕ)) (before now : ℕ) (old new : StoreState)
    → s ≡ status.StoreFault → first ≡ cut_lines cut → Rose old.faults new.faults → IsWritten taken taken' before now (joined first ++ store_fault_line) → IndexesStore s told cut taken taken' before now old new
tells_fault s told cut first taken taken' before now old new is same rose wrote =
    rw is (rose, subst (λ (ls : List (List ℕ)). IsWritten taken taken' before now (joined ls ++ store_fault_line)) same wrote)

-- ---- the file isn't open

pub unopened : (s : Status) (e : OpenError) (told : Type 0) (before after : Outside) → SaysUnopened s e before.taken after.taken before.sink_faults after.sink_faults
    → (told → Harm (main_of before) e) → (e ≡ open_error.StoreFault → SomeRose before.read_faults after.read_faults before.write_faults after.write_faults)
    → (told → IsNoList (main_of before) → after.log ≡ before.log) → (¬ (e ≡ open_error.StoreFault) → (after.read_faults ≡ before.read_faults) × (after.write_faults ≡ before.write_faults)) → IsLeft told before after
    → IndexSays s told before after
unopened status.StoreFault e told before after said harm rose same calm left = inl (record { rose = rose said.0; written = said.1; left = left })
unopened status.Damaged e told before after (text, names, wrote) harm rose same calm left = refused e told before after text names wrote harm same left
unopened status.NoMemory e told before after said harm rose same calm left = (said.1, unfailed e before after said.0 calm)
unopened _ e told before after said harm rose same calm left = absurd said

-- ---- which status it has

pub index_done : (s : Status) (told : Type 0) (before after : Outside) → IndexSays s told before after
    → told → ¬ Rose before.read_faults after.read_faults → ¬ Rose before.write_faults after.write_faults → ¬ Rose before.sink_faults after.sink_faults
    → (list : List Transaction) (cut : Option ℕ) → StandsFor (main_of before) list cut → IsUnlessMemory s status.Done
index_done status.Done told before after o here reads writes sinks list cut stands = inl refl
index_done status.NoMemory told before after o here reads writes sinks list cut stands = inr refl
index_done status.SinkFault told before after o here reads writes sinks list cut stands = absurd (sinks o.0)
index_done status.StoreFault told before after (inl o) here reads writes sinks list cut stands = absurd (elim o.rose [ inl e ↦ reads e | inr e ↦ writes e ])
index_done status.StoreFault told before after (inr o) here reads writes sinks list cut stands = absurd (writes o.rose)
index_done status.Damaged told before after o here reads writes sinks list cut stands = absurd (not_named told (main_of before) o.text list cut here stands o.names)
index_done _ told before after o here reads writes sinks list cut stands = absurd o

pub index_damaged : (s : Status) (told : Type 0) (before after : Outside) → IndexSays s told before after
    → told → ¬ Rose before.read_faults after.read_faults → ¬ Rose before.write_faults after.write_faults → IsNoList (main_of before) → IsUnlessMemory s status.Damaged
index_damaged status.Done told before after (lines, is, wrote) here reads writes harm = absurd (not_opened (main_of before) before.stamps after.stamps (is here).list (is here).cut harm (is here).opens)
index_damaged status.NoMemory told before after o here reads writes harm = inr refl
index_damaged status.SinkFault told before after (rose, (lines, is, wrote)) here reads writes harm = absurd (not_opened (main_of before) before.stamps after.stamps (is here).list (is here).cut harm (is here).opens)
index_damaged status.StoreFault told before after (inl o) here reads writes harm = absurd (elim o.rose [ inl e ↦ reads e | inr e ↦ writes e ])
index_damaged status.StoreFault told before after (inr o) here reads writes harm = absurd (writes o.rose)
index_damaged status.Damaged told before after o here reads writes harm = inl refl
index_damaged _ told before after o here reads writes harm = absurd o
