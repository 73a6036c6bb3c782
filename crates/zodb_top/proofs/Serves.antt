-- Links that are served over a store, and over the file in Main.
use Rattle.std.proofs.Common.{◌≡◌, ◌⊎◌, ℕ, Bool, true, false, List, [], ◌∷◌, ◌++◌, Option, inl, inr, refl, sym, ap, subst, arith, ◌∙◌}
use Rattle.std.specs.Io.KnownBytes.{Appends}
use Rattle.file_store.specs.Kept.{StandsForList}
use Rattle.file_store.specs.Opening.{Harm, IsNoneOr, KeepsList, SomeRose}
use Rattle.fs_recovery.specs.Opens.{IsNoList}
use Rattle.fs_recovery.specs.declared.errors.OpenError.{OpenError}
use Rattle.fs_recovery.specs.declared.errors.OpenError.TheVariants as error
use Rattle.hub_shared.specs.Seats.{IsOfHistory}
use Rattle.zb_base.specs.Counts.{Rose}
use Rattle.zb_ids.specs.declared.stamp.Stamp.{Stamp}
use Rattle.zb_model.specs.declared.data.Transaction.{Transaction}
use Rattle.zb_model.specs.Stores.{StoreState}
use Rattle.zb_outside.specs.Written.{AppendsPrefix}
use Rattle.zb_volume.specs.declared.areas.Area.TheVariants.{Main}
use Rattle.zb_volume.specs.Calls.{Event}
use Rattle.zb_volume.specs.Disk.{IsSettled}
use Rattle.zb_volume.specs.Moments.{Leaves, LeavesOnly}
use Rattle.zb_volume.specs.Runs.{joined as along_joined, leaves_less}
use Rattle.zeo_serving_links.specs.declared.ending.Served.{Served}
use Rattle.zeo_serving_links.specs.declared.ending.ServingEnd.{ServingEnd}
use Rattle.zeo_serving_links.specs.declared.ending.ServingEnd.TheVariants as serving_end
use Rattle.zeo_serving_links.specs.Serving.{HasServedLinks, IsEndFor, OutsideSeen, ServesLinks}
use Rattle.zodb_core.specs.History.{Entry, IsLegalOver, counts_after}
use Rattle.zodb_core.specs.HubState.{HubState, counts_of}
use Rattle.zodb_core.specs.Outcomes.{AreLaterCounts, FaultCounts}
use Rattle.program_words.specs.declared.command.ServeRequest.{ServeRequest}
use Rattle.script_runs.specs.declared.status.Status.{Status}
use Rattle.script_runs.specs.declared.status.Status.TheVariants as status
use Rattle.script_runs.specs.Texts.{joined, store_fault_line}
use Rattle.script_runs.specs.Written.{IsWritten}
use Rattle.side_by_side.specs.Runs.{stock}
use Rattle.zodb_top.specs.Came.{IsCalm}
use Rattle.zodb_top.specs.Opened.{IsLeft, OpensAs, made as opens_made, there as opens_there}
use Rattle.zodb_top.specs.Outside.{Outside, main_of}
use Rattle.zodb_top.specs.PackStores.{IsToldAs}
use Rattle.zodb_top.specs.Serves.{EndSays, EndsWell, IsLeftBehind, IsOfServing, ServeSays, ServesAs, ServesNone, ServesOver, ServesStore, counts_in, no_link_line, no_workers_line, served_line, steps_spent_line}
use Rattle.zodb_top.specs.Unopened.{SaysUnopened}
use Rattle.zodb_top.proofs.Files.{refused}
use Rattle.zodb_top.proofs.Packs.{last_left}
use Rattle.zodb_top.proofs.Volumes.{IsOpen, unfailed}

-- ---- a store

-- over a store that a hub is made of and gives back
pub links_served : {R F : Type 0} (told lasts : Type 0) (stands : List ℕ → List Transaction → Type 0) (request : ServeRequest) (served : Served) (count : ℕ) (hub hub' : HubState R F) (old new : StoreState) (before after : OutsideSeen)
    → hub.store ≡ old → new ≡ hub'.store → old.broken ≡ false → count ≡ request.count → ServesLinks lasts told stands stock request.port count hub hub' served before after → ServesStore told lasts stands request served old new before after
links_served told lasts stands request served count hub hub' old new before after first last whole many is =
    let was : hub.store.broken ≡ false = ap (λ (s : StoreState). s.broken) first ∙ whole in
    let history = is.serves.history in
    subst (λ (s : StoreState). ServesStore told lasts stands request served s new before after) first
    (subst (λ (s : StoreState). ServesStore told lasts stands request served hub.store s before after) (sym last) (record {
      bound = is.bound;
      port_is = is.port_is;
      all = is.serves.all;
      legal = history.legal;
      counted = history.counted;
      list = λ known now. (history.behind known).list now;
      later = history.lasted.later;
      same = λ now. history.lasted.same was now;
      rose = λ broke. history.lasted.broken was broke;
      moments = λ l known. history.lasted.moments l known was;
      links = subst (λ (n : ℕ). HasServedLinks told stock hub.store.list (counts_of hub.store) n is.serves.all served (record before { told = is.bound }) after) many is.serves.links;
    }))

-- ---- statuses

module _ (told lasts : Type 0) (stands : List ℕ → List Transaction → Type 0) (request : ServeRequest) (cut : Option ℕ) (taken taken' : Option (List ℕ)) (faults faults' : ℕ) (old new : StoreState) (before after : OutsideSeen) where
  abbrev Over : Status → Type 0
  Over s = ServesOver s told lasts stands request cut taken taken' faults faults' old new before after

  -- what the end of the serving says of the doors and of the spawner
  cause_of : (s : Status) (o : Over s) (end : ServingEnd) → o.served.end ≡ end → IsEndFor end request.count o.serves.all o.serves.links.opened (record before { told = o.serves.bound }) after
  cause_of s o end is = subst (λ (e : ServingEnd). IsEndFor e request.count o.serves.all o.serves.links.opened (record before { told = o.serves.bound }) after) is o.serves.links.cause

  pub over_done : (s : Status) → Over s → ¬ Rose old.faults new.faults → ¬ Rose faults faults' → EndsWell s before after
  over_done status.Done o still calm = λ doors spawner. inl (inl refl)
  over_done status.NoMemory o still calm = λ doors spawner. inl (inr refl)
  over_done status.SinkFault o still calm = let says = o.says in absurd (calm says.1)
  over_done status.StoreFault o still calm = let says = o.says in absurd (still (o.serves.rose says.0))
  over_done status.NoWorkers o still calm = λ doors spawner. let says = o.says in absurd (spawner (cause_of status.NoWorkers o serving_end.NoWorkers says.1))
  over_done status.NoLink o still calm = λ doors spawner. let says = o.says in absurd (doors ((cause_of status.NoLink o serving_end.NoLink says.1).0))
  over_done status.StepsSpent o still calm = λ doors spawner. inr refl
  over_done status.Usage o still calm = absurd o.says
  over_done status.SourceFault o still calm = absurd o.says
  over_done status.Damaged o still calm = absurd o.says
  over_done status.BadLine o still calm = absurd o.says
  over_done status.Limit o still calm = absurd o.says

  pub over_unfailed : (s : Status) → Over s → ¬ (s ≡ status.StoreFault) → new.faults ≡ old.faults
  over_unfailed status.Done o other = let says = o.says in o.serves.same says.0
  over_unfailed status.NoMemory o other = let says = o.says in o.serves.same says.0
  over_unfailed status.SinkFault o other = let says = o.says in o.serves.same says.0
  over_unfailed status.StoreFault o other = absurd (other refl)
  over_unfailed status.NoWorkers o other = let says = o.says in o.serves.same says.0
  over_unfailed status.NoLink o other = let says = o.says in o.serves.same says.0
  over_unfailed status.StepsSpent o other = let says = o.says in o.serves.same says.0
  over_unfailed status.Usage o other = absurd o.says
  over_unfailed status.SourceFault o other = absurd o.says
  over_unfailed status.Damaged o other = absurd o.says
  over_unfailed status.BadLine o other = absurd o.says
  over_unfailed status.Limit o other = absurd o.says

-- ---- the file

pub unopened_serves : (s : Status) (e : OpenError) (request : ServeRequest) (told : Type 0) (links links' : OutsideSeen) (before after : Outside) → SaysUnopened s e before.taken after.taken before.sink_faults after.sink_faults
    → (told → Harm (main_of before) e) → (e ≡ error.StoreFault → SomeRose before.read_faults after.read_faults before.write_faults after.write_faults)
    → (told → IsNoList (main_of before) → after.log ≡ before.log) → (¬ (e ≡ error.StoreFault) → (after.read_faults ≡ before.read_faults) × (after.write_faults ≡ before.write_faults)) → IsLeft told before after
    → ServeSays s request told links links' before after
unopened_serves status.StoreFault e request told links links' before after said harm rose same calm left = inl (record { rose = rose said.0; written = said.1; left = left })
unopened_serves status.Damaged e request told links links' before after (text, names, wrote) harm rose same calm left = refused e told before after text names wrote harm same left
unopened_serves status.NoMemory e request told links links' before after said harm rose same calm left = (said.1, inl (λ known. left, unfailed e before after said.0 calm))
unopened_serves _ e request told links links' before after said harm rose same calm left = absurd said

-- bytes stand for a list before the first entry of a history over it
of_front : (main : List ℕ) (list : List Transaction) (all : List Entry) (bytes : List ℕ) → StandsForList bytes list → IsOfServing main list all bytes
of_front main list all bytes is = inl (record { front = []; begins = (all, refl); is = inl is })

module _ (request : ServeRequest) (before : Outside) (state : StoreState) (left : Option (List Stamp)) (cut : Option ℕ) where
  opened_moments : (all : List Entry) → OpensAs (main_of before) before.stamps left state.list cut → KeepsList before.log state.log
      → (main_of before ≡ [] → IsSettled before.log Main → LeavesOnly Main (IsNoneOr state.list) before.log state.log)
      → IsCalm before → LeavesOnly Main (IsOfServing (main_of before) state.list all) before.log state.log
  opened_moments all (opens_there some stands same) keeps makes calm =
      leaves_less Main (λ bytes. StandsForList bytes state.list) (IsOfServing (main_of before) state.list all) before.log state.log (of_front (main_of before) state.list all) (keeps state.list cut some stands calm)
  opened_moments all (opens_made empty is given) keeps makes calm =
      leaves_less Main (IsNoneOr state.list) (IsOfServing (main_of before) state.list all) before.log state.log
      (λ bytes either. elim either [
        | inl none ↦ inr (empty, none)
        | inr new ↦ of_front (main_of before) state.list all bytes new
      ])
      (makes empty calm)

  module _ (after : Outside) (state' : StoreState) (links links' : OutsideSeen) (told : Type 0) (whole : state.faults ≡ before.write_faults) (first : state.read_faults ≡ before.read_faults)
      (log : after.log ≡ state'.log) (reads : after.read_faults ≡ state'.read_faults) (faults : after.write_faults ≡ state'.faults) where
    counts_before : counts_of state ≡ counts_in before
    counts_before = ap (λ (n : ℕ). let x : FaultCounts = record { reads = n; others = state.faults } in x) first ∙ ap (λ (n : ℕ). let x : FaultCounts = record { reads = before.read_faults; others = n } in x) whole

    counts_now : counts_of state' ≡ counts_in after
    counts_now = ap (λ (n : ℕ). let x : FaultCounts = record { reads = n; others = state'.faults } in x) (sym reads) ∙ ap (λ (n : ℕ). let x : FaultCounts = record { reads = after.read_faults; others = n } in x) (sym faults)

    module _ (s : Status) (o : ServesOver s told told StandsForList request cut before.taken after.taken before.sink_faults after.sink_faults state state' links links') where
      images_by : told → (b : Bool) → state'.broken ≡ b → Leaves Main (IsLeftBehind b state.list o.serves.all) state'.log
      images_by known false now = subst (λ (l : List Transaction). Leaves Main (λ bytes. StandsForList bytes l) state'.log) (sym (o.serves.list known now)) (o.images known now)
      images_by known true now = last_left (Leaves Main (IsOfHistory StandsForList stock state.list o.serves.all)) state.log state'.log (o.serves.moments known known)

      served_so : told → IsOpen before after state left cut → ServesAs s told request links links' before after
      served_so known is =
          let images : Leaves Main (IsLeftBehind state'.broken state.list o.serves.all) after.log =
          subst (λ (l : List Event). Leaves Main (IsLeftBehind state'.broken state.list o.serves.all) l) (sym log) (images_by known state'.broken refl) in record {
            list = state.list;
            cut = cut;
            stamps = left;
            opens = is.opens;
            served = o.served;
            failed = state'.broken;
            bound = o.serves.bound;
            port_is = o.serves.port_is;
            all = o.serves.all;
            legal = subst (λ (c : FaultCounts). IsLegalOver stock state.list c o.serves.all) counts_before (o.serves.legal known);
            counted = ap (λ (c : FaultCounts). counts_after c o.serves.all) (sym counts_before) ∙ o.serves.counted ∙ counts_now;
            are_served = subst (λ (c : FaultCounts). HasServedLinks told stock state.list c request.count o.serves.all o.served (record links { told = o.serves.bound }) links') counts_before o.serves.links;
            says_so = o.says;
            main = images (main_of after) is.shown;
            images = images;
            moments = λ calm.
                subst (λ (l : List Event). LeavesOnly Main (IsOfServing (main_of before) state.list o.serves.all) before.log l) (sym log)
                (along_joined (Leaves Main (IsOfServing (main_of before) state.list o.serves.all)) before.log state.log state'.log (opened_moments o.serves.all is.opens is.keeps is.makes calm)
                (leaves_less Main (IsOfHistory StandsForList stock state.list o.serves.all) (IsOfServing (main_of before) state.list o.serves.all) state.log state'.log (λ bytes of. inl of) (o.serves.moments known known)));
          }

    rose_so : Rose state.faults state'.faults → Rose before.write_faults after.write_faults
    rose_so rose = subst (λ (n : ℕ). Rose n after.write_faults) whole (subst (λ (n : ℕ). Rose state.faults n) (sym faults) rose)

    pub serves_file : (s : Status) → (told → IsOpen before after state left cut) → ServesOver s told told StandsForList request cut before.taken after.taken before.sink_faults after.sink_faults state state' links links'
        → ServeSays s request told links links' before after
    serves_file status.Done is o = λ known. served_so status.Done o known (is known)
    serves_file status.NoMemory is o = let says = o.says in (says.1, inr (λ known. served_so status.NoMemory o known (is known)))
    serves_file status.SinkFault is o = let says = o.says in (says.1, λ known. served_so status.SinkFault o known (is known))
    serves_file status.StoreFault is o = let says = o.says in inr (rose_so (o.serves.rose says.0), λ known. served_so status.StoreFault o known (is known))
    serves_file status.NoWorkers is o =
        let says = o.says in
        (cause_of told told StandsForList request cut before.taken after.taken before.sink_faults after.sink_faults state state' links links' status.NoWorkers o serving_end.NoWorkers says.1, λ known. served_so status.NoWorkers o known (is known))
    serves_file status.NoLink is o =
        let says = o.says in
        ((cause_of told told StandsForList request cut before.taken after.taken before.sink_faults after.sink_faults state state' links links' status.NoLink o serving_end.NoLink says.1).0, λ known. served_so status.NoLink o known (is known))
    serves_file status.StepsSpent is o = λ known. served_so status.StepsSpent o known (is known)
    serves_file status.Usage is o = absurd o.says
    serves_file status.SourceFault is o = absurd o.says
    serves_file status.Damaged is o = absurd o.says
    serves_file status.BadLine is o = absurd o.says
    serves_file status.Limit is o = absurd o.says

    -- no memory for the line of a tail
    pub stays_file : (s : Status) (stamps stamps' : Option (List Stamp)) → (told → IsLeft told before after) → ServesNone s before.taken after.taken state state' stamps stamps' links links' → ServeSays s request told links links' before after
    stays_file s stamps stamps' is none = subst (λ (x : Status). ServeSays x request told links links' before after) (sym none.is) (
      none.silent,
      inl (
        is,
        record {
          reads = reads ∙ ap (λ (x : StoreState). x.read_faults) none.store ∙ first;
          writes = faults ∙ ap (λ (x : StoreState). x.faults) none.store ∙ whole;
        },
      ),
    )

-- ---- what is written

-- all links were served, and that was told
pub says_all : (s : Status) (served : Served) (count : ℕ) (lines : List (List ℕ)) (text : List ℕ) (old new : Option (List ℕ)) (before now : ℕ) → served.end ≡ serving_end.All → text ≡ served_line count served.faulty
    → IsToldAs s old new before now (joined (lines ++ text ∷ [])) → EndSays s old new before now false served count lines
says_all status.Done served count lines text old new before now is same wrote = (refl, is, subst (λ (t : List ℕ). Appends old new (joined (lines ++ t ∷ []))) same wrote)
says_all status.SinkFault served count lines text old new before now is same wrote = (refl, wrote.0, is, subst (λ (t : List ℕ). AppendsPrefix old new (joined (lines ++ t ∷ []))) same wrote.1)
says_all _ served count lines text old new before now is same wrote = absurd wrote

pub says_workers : (s : Status) (served : Served) (count : ℕ) (lines : List (List ℕ)) (old new : Option (List ℕ)) (before now : ℕ) → s ≡ status.NoWorkers → served.end ≡ serving_end.NoWorkers
    → IsWritten old new before now (joined lines ++ no_workers_line) → EndSays s old new before now false served count lines
says_workers s served count lines old new before now same is wrote = rw same (refl, is, wrote)

pub says_link : (s : Status) (served : Served) (count : ℕ) (lines : List (List ℕ)) (old new : Option (List ℕ)) (before now : ℕ) → s ≡ status.NoLink → served.end ≡ serving_end.NoLink
    → IsWritten old new before now (joined lines ++ no_link_line) → EndSays s old new before now false served count lines
says_link s served count lines old new before now same is wrote = rw same (refl, is, wrote)

pub says_spent : (s : Status) (served : Served) (count : ℕ) (lines : List (List ℕ)) (old new : Option (List ℕ)) (before now : ℕ) → s ≡ status.StepsSpent → served.end ≡ serving_end.StepsSpent
    → IsWritten old new before now (joined lines ++ steps_spent_line) → EndSays s old new before now false served count lines
says_spent s served count lines old new before now same is wrote = rw same (refl, is, wrote)

pub says_failed : (s : Status) (failed : Bool) (served : Served) (count : ℕ) (lines : List (List ℕ)) (old new : Option (List ℕ)) (before now : ℕ) → s ≡ status.StoreFault → failed ≡ true
    → IsWritten old new before now (joined lines ++ store_fault_line) → EndSays s old new before now failed served count lines
says_failed s failed served count lines old new before now same is wrote = rw same (is, wrote)

pub says_other : (s : Status) (failed : Bool) (served : Served) (count : ℕ) (lines : List (List ℕ)) (old new : Option (List ℕ)) (before now : ℕ) → failed ≡ false
    → EndSays s old new before now false served count lines → EndSays s old new before now failed served count lines
says_other s failed served count lines old new before now is says = subst (λ (b : Bool). EndSays s old new before now b served count lines) (sym is) says

-- ---- both ends of a call over a store

pub rose_over : (before after old new : ℕ) → old ≡ before → after ≡ new → Rose old new → Rose before after
rose_over before after old new whole faults rose = subst (λ (n : ℕ). Rose n after) whole (subst (λ (n : ℕ). Rose old n) (sym faults) rose)

module _ (s : Status) (told lasts : Type 0) (stands : List ℕ → List Transaction → Type 0) (request : ServeRequest) (cut : Option ℕ) (taken taken' : Option (List ℕ)) (faults faults' : ℕ) (old new : StoreState) (stamps stamps' : Option (List Stamp)) (before after : OutsideSeen) where
  abbrev Either : Type 0
  Either = ServesNone s taken taken' old new stamps stamps' before after ⊎ ServesOver s told lasts stands request cut taken taken' faults faults' old new before after

  pub over_complete : ¬ Rose old.faults new.faults → ¬ Rose faults faults' → Either → EndsWell s before after
  over_complete still calm (inl none) = λ doors spawner. inl (inr none.is)
  over_complete still calm (inr over) = over_done told lasts stands request cut taken taken' faults faults' old new before after s over still calm

  pub over_others : Either → ¬ (s ≡ status.StoreFault) → new.faults ≡ old.faults
  over_others (inl none) other = ap (λ (x : StoreState). x.faults) none.store
  over_others (inr over) other = over_unfailed told lasts stands request cut taken taken' faults faults' old new before after s over other

  same_counts : new ≡ old → AreLaterCounts (counts_of old) (counts_of new)
  same_counts same = subst (λ (x : StoreState). AreLaterCounts (counts_of old) (counts_of x)) (sym same) (record { reads = omega arith; others = omega arith })

  pub over_later : Either → AreLaterCounts (counts_of old) (counts_of new)
  over_later (inl none) = same_counts none.store
  over_later (inr over) = over.serves.later
