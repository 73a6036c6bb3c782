-- How a hub's turns mark what a pack keeps, and what is tested of the marks at its switch.
use Rattle.std.proofs.Common.{◌≡◌, ℕ, ◌+◌, ◌-◌, ◌<◌, ◌≤◌, if◌then◌else◌, List, [], ◌++◌, append-nil, drop, length, Option, Some, None, Bool, true, false, refl, sym, ap, subst, ◌∙◌, arith}
use Rattle.std.specs.Prelude.{IfSome}
use Rattle.std.specs.List.{AllByRecursion}
use Rattle.std.specs.Option.{option_map, option_map_or}
use Rattle.std.specs.Ordering.{nat_cmp}
use Rattle.std.specs.FinSet.{FinSet, len}
use Rattle.zb_base.specs.Counts.{Rose}
use Rattle.zb_ids.specs.declared.stamp.Stamp.{Stamp}
use Rattle.zb_model.specs.declared.data.Transaction.{Transaction}
use Rattle.zb_model.specs.declared.refusal.Refusal.TheVariants as refusal
use Rattle.zb_model.specs.Packing.{packed_by}
use Rattle.zb_model.specs.Packs.{new_pack}
use Rattle.zb_model.specs.Stores.{BegunPack, DropKeepsRest, ReadKeepsRest, StoreState}
use Rattle.pack_reach.specs.declared.marker.Marked.{Marked}
use Rattle.pack_reach.specs.declared.refusal.PackRefusal.{PackRefusal}
use Rattle.pack_reach.specs.declared.refusal.PackRefusal.TheVariants as pack_refusal
use Rattle.pack_reach.specs.Late.{overtaken}
use Rattle.pack_reach.specs.LateLaws.{packed_late}
use Rattle.pack_reach.specs.Marking.{HasGrown, MarkerState}
use Rattle.pack_reach.specs.Outcomes.{HasMarkCause, IsLateFound}
use Rattle.pack_reach.specs.Packed.{kept, marks_a_turn, packed, unread}
use Rattle.zodb_core.specs.declared.open_pack.HubCopying.{HubCopying}
use Rattle.zodb_core.specs.declared.open_pack.HubPack.{HubPack}
use Rattle.zodb_core.specs.declared.reply.Reply.TheVariants as reply
use Rattle.zodb_core.specs.declared.request.Request.TheVariants as request
use Rattle.zodb_core.specs.HubState.{HubState, IsPackAt, IsWithin, KeepsPack, MakesStep, StandsForMachine, copying_of_hub, counts_of, pack_of_hub}
use Rattle.zodb_core.specs.Machine.{Machine, OpenPack, PackCopying, Rules}
use Rattle.zodb_core.specs.Outcomes.{AreLaterCounts}
use Rattle.zodb_core.specs.Packing.{AreLastMarked, AreMoreMarked, IsFrontOf, IsMarkedTo, PassesTest, RefusesMarks, TakesTurnOf, marked_as, marked_reply}
use Rattle.zodb_core.specs.PacksGoOn.{new_copy}
use Rattle.zodb_core.specs.Replies.{pack_reply}
use Rattle.zodb_core.specs.Steps.{Stepped, marks_on, replied, step_of, turn_of_copying, unless_unread, with_pack, without_pack}
use Rattle.zodb_core.proofs.Stepping.{answered, pack_same, pack_whole, reading_failed, starved}
use Rattle.zodb_core.proofs.Turns.{none_open, stands_with, turn_gives}

-- ---- what is marked

-- of a pack that doesn't collect, all at once
pub marks_uncollected : (collects : Bool) (named : List ℕ → Option (List ℕ)) (t : ℕ) (list : List Transaction) (before : ℕ) (m : MarkerState) (count : ℕ) → collects ≡ false
    → ((names : List ℕ → Option (List ℕ)) → m.set ≡ kept false names t list) → count ≡ len m.set → AreLastMarked collects named t list before m count
marks_uncollected true named t list before m count not set counted = absurd cc
marks_uncollected false named t list before m count not set counted = record { last = refl; all = record { set = set named; readable = refl }; counted = counted; whole = λ never. absurd cc }

-- ---- what is tested at the switch

-- where no commit overtakes a pack, what a marker has that was made over the front leaves of the grown list what a pack of that list leaves
packed_front : (collects : Bool) (named : List ℕ → Option (List ℕ)) (t : ℕ) (set : FinSet nat_cmp) (front commits : List Transaction) → set ≡ kept collects named t front → AllByRecursion (λ (x : Transaction). t < x.tid) commits
    → overtaken collects named set t front commits ≡ None → packed_by t set (front ++ commits) ≡ packed collects named t (front ++ commits)
packed_front collects named t set front commits is later none =
    ap (λ (s : FinSet nat_cmp). packed_by t s (front ++ commits)) is
    ∙ packed_late collects named t front commits later (subst (λ (s : FinSet nat_cmp). overtaken collects named s t front commits ≡ None) is none)

pub has_grown : (collects : Bool) (named : List ℕ → Option (List ℕ)) (list front commits : List Transaction) (m : MarkerState) → IsFrontOf collects named list front commits m → HasGrown m.tid front commits list
has_grown collects named list front commits m is = record { split = is.split; above = is.later }

pub passes_uncollected : (collects : Bool) (named : List ℕ → Option (List ℕ)) (list front commits : List Transaction) (m : MarkerState) → collects ≡ false → IsFrontOf collects named list front commits m
    → PassesTest collects named front commits m m
passes_uncollected true named list front commits m not is = absurd cc
passes_uncollected false named list front commits m not is =
    let same = packed_front false named m.tid m.set front commits is.set is.later refl in
    record { readable = refl; not_late = refl; before = same; now = same }

pub passes_collected : (collects : Bool) (named : List ℕ → Option (List ℕ)) (list front commits : List Transaction) (old new : MarkerState) (late : Option (ℕ × ℕ)) → collects ≡ true → IsFrontOf collects named list front commits old
    → late ≡ None → IsLateFound named front commits old new late → PassesTest collects named front commits old new
passes_collected false named list front commits old new late collects is none found = absurd cc
passes_collected true named list front commits old new late collects is none found = record {
  readable = found.readable;
  not_late = sym found.late ∙ none;
  before = packed_front true named old.tid old.set front commits is.set is.later (sym found.late ∙ none);
  now = ap (λ (s : FinSet nat_cmp). packed_by old.tid s (front ++ commits)) found.set;
}

-- ---- a turn that marked

-- marking, over a list
abbrev all_marked : (List ℕ → Option (List ℕ)) → Machine → OpenPack → List Transaction → Stepped
all_marked named m p list = replied
    (with_pack m (record p { marked = len (kept p.collects named p.tid list); copying = Some (record { kept = kept p.collects named p.tid list; began = length list; copied = 0; is_whole = false }) }))
    (reply.Marked (len (kept p.collects named p.tid list)))

abbrev more_marked : Machine → OpenPack → Stepped
more_marked m p = replied (with_pack m (record p { marked = p.marked + marks_a_turn })) (reply.Marking (p.marked + marks_a_turn))

abbrev marked_over : (List ℕ → Option (List ℕ)) → Machine → OpenPack → List Transaction → Stepped
marked_over named m p list =
    if marks_on p.collects named p.tid list p.marked
    then more_marked m p
    else unless_unread m (unread p.collects named p.tid list) (all_marked named m p list)

marking_gives : {R F : Type 0} (rules : Rules) (m : Machine) (n stamp : ℕ) (p : HubPack) (hub : HubState R F) → TakesTurnOf hub m n p → p.copying ≡ None → m.list ≡ hub.store.list
    → step_of rules m n request.PackTurn stamp ≡ marked_over rules.named m (pack_of_hub hub.store.list hub.store.begun (length hub.journal) p) hub.store.list
marking_gives rules m n stamp p hub takes none list =
    let open_pack = pack_of_hub hub.store.list hub.store.begun (length hub.journal) p in
    turn_gives rules m n stamp p hub takes
    ∙ ap (λ (c : Option HubCopying). turn_of_copying rules.named m open_pack (option_map (copying_of_hub hub.store.list hub.store.begun (length hub.journal) p.marker) c)) none
    ∙ ap (marked_over rules.named m open_pack) list

-- the open pack with so many marks and this copying
abbrev open_with : HubPack → ℕ → Option PackCopying → OpenPack
open_with p marked copying = record { session = p.session; tid = p.tid; collects = p.collects; marked = marked; copying = copying }

-- behind a turn the hub has the same pack, with other marks
abbrev pub marked_pack : HubPack → MarkerState → Option HubCopying → HubPack
marked_pack p marker copying = record { session = p.session; tid = p.tid; collects = p.collects; marker = marker; copying = copying }

record IsMarkTurnMade {R F : Type 0} (old new : HubState R F) (p : HubPack) (marker : MarkerState) (copying : Option HubCopying) : Type 0 where
  read : ReadKeepsRest old.store new.store
  answered : new.store.read_faults ≡ old.store.read_faults
  whole : old.store.broken ≡ false
  entries : new.journal ≡ old.journal
  greatest : new.greatest ≡ old.greatest
  sessions : new.sessions ≡ old.sessions
  vote : new.vote ≡ old.vote
  pack : new.pack ≡ Some (marked_pack p marker copying)

made_later : {R F : Type 0} (old new : HubState R F) (p : HubPack) (marker : MarkerState) (copying : Option HubCopying) → IsMarkTurnMade old new p marker copying → AreLaterCounts (counts_of old.store) (counts_of new.store)
made_later old new p marker copying made = record { reads = omega (arith, made.answered); others = omega (arith, ap (λ (s : StoreState). s.faults) made.read) }

made_stands : {R F : Type 0} (m : Machine) (o : OpenPack) (old new : HubState R F) (p : HubPack) (marker : MarkerState) (copying : Option HubCopying) → IsMarkTurnMade old new p marker copying → StandsForMachine old (without_pack m)
    → pack_of_hub old.store.list old.store.begun (length old.journal) (marked_pack p marker copying) ≡ o → StandsForMachine new (with_pack m o)
made_stands m o old new p marker copying made stands same =
    stands_with m (Some o) old new stands made.whole (ap (λ (s : StoreState). s.broken) made.read ∙ made.whole) (ap (λ (s : StoreState). s.list) made.read) (ap (λ (s : StoreState). s.voted) made.read)
    made.entries made.greatest made.sessions made.vote
    (sym (pack_same old.store new.store (length old.journal) (length new.journal) (Some (marked_pack p marker copying)) new.pack (ap (λ (s : StoreState). s.broken) made.read)
    (ap (λ (s : StoreState). s.list) made.read) (ap (λ (s : StoreState). s.begun) made.read) (ap length made.entries) made.pack)
    ∙ pack_whole old.store (length old.journal) (Some (marked_pack p marker copying)) made.whole
    ∙ ap (λ (x : OpenPack). Some x) same)

marked_more : {R F : Type 0} (rules : Rules) (m : Machine) (n : ℕ) (p : HubPack) (marker : MarkerState) (count : ℕ) (copying : Option HubCopying) (old new : HubState R F) (stamps : Option (List Stamp))
    → StandsForMachine old (without_pack m) → TakesTurnOf old m n p → p.copying ≡ None → AreMoreMarked p.collects rules.named p.tid old.store.list p.marker.counted marker count
    → marker.counted ≡ count → copying ≡ None → IsMarkTurnMade old new p marker copying → MakesStep rules m n request.PackTurn (reply.Marking count) old new stamps stamps
marked_more rules m n p marker count copying old new stamps stands takes none more counted is made =
    let open_pack = pack_of_hub old.store.list old.store.begun (length old.journal) p in
    answered rules m n request.PackTurn (reply.Marking count) (with_pack m (record open_pack { marked = p.marker.counted + marks_a_turn })) old new stamps
    (made_later old new p marker copying made) refl
    (marking_gives rules m n 0 p old takes none (stands.list made.whole)
    ∙ ap (λ (b : Bool). if b then more_marked m open_pack else unless_unread m (unread p.collects rules.named p.tid old.store.list) (all_marked rules.named m open_pack old.store.list)) more.more
    ∙ ap (λ (k : ℕ). replied (with_pack m (record open_pack { marked = p.marker.counted + marks_a_turn })) (reply.Marking k)) (sym more.counted))
    (made_stands m (record open_pack { marked = p.marker.counted + marks_a_turn }) old new p marker copying made stands
    (ap (λ (k : ℕ). open_with p k (option_map (copying_of_hub old.store.list old.store.begun (length old.journal) marker) copying)) (counted ∙ more.counted)
    ∙ ap (λ (c : Option HubCopying). open_with p (p.marker.counted + marks_a_turn) (option_map (copying_of_hub old.store.list old.store.begun (length old.journal) marker) c)) is
    ∙ sym (ap (λ (c : Option HubCopying). open_with p (p.marker.counted + marks_a_turn) (option_map (copying_of_hub old.store.list old.store.begun (length old.journal) p.marker) c)) none)))

-- the copying that begins behind it
abbrev copying_with : FinSet nat_cmp → ℕ → ℕ → PackCopying
copying_with set began copied = record { kept = set; began = began; copied = copied; is_whole = false }

marked_last : {R F : Type 0} (rules : Rules) (m : Machine) (n : ℕ) (p : HubPack) (marker : MarkerState) (count : ℕ) (copying : Option HubCopying) (old new : HubState R F) (stamps : Option (List Stamp))
    → StandsForMachine old (without_pack m) → TakesTurnOf old m n p → p.copying ≡ None → old.store.begun ≡ Some (new_pack p.tid) → AreLastMarked p.collects rules.named p.tid old.store.list p.marker.counted marker count
    → marker.counted ≡ count → copying ≡ Some (record { entries = length old.journal; is_whole = false }) → IsMarkTurnMade old new p marker copying
    → MakesStep rules m n request.PackTurn (reply.Marked count) old new stamps stamps
marked_last rules m n p marker count copying old new stamps stands takes none begun last counted is made =
    let open_pack = pack_of_hub old.store.list old.store.begun (length old.journal) p in
    let keep : FinSet nat_cmp = kept p.collects rules.named p.tid old.store.list in
    let left = open_with p (len keep) (Some (copying_with keep (length old.store.list) 0)) in
    let sized : count ≡ len keep = last.counted ∙ ap (λ (s : FinSet nat_cmp). len s) last.all.set in
    answered rules m n request.PackTurn (reply.Marked count) (with_pack m left) old new stamps
    (made_later old new p marker copying made) refl
    (marking_gives rules m n 0 p old takes none (stands.list made.whole)
    ∙ ap (λ (b : Bool). if b then more_marked m open_pack else unless_unread m (unread p.collects rules.named p.tid old.store.list) (all_marked rules.named m open_pack old.store.list)) last.last
    ∙ ap (λ (o : Option (ℕ × ℕ)). unless_unread m o (all_marked rules.named m open_pack old.store.list)) last.all.readable
    ∙ ap (λ (k : ℕ). replied (with_pack m left) (reply.Marked k)) (sym sized))
    (made_stands m left old new p marker copying made stands
    (ap (λ (k : ℕ). open_with p k (option_map (copying_of_hub old.store.list old.store.begun (length old.journal) marker) copying)) (counted ∙ sized)
    ∙ ap (λ (c : Option HubCopying). open_with p (len keep) (option_map (copying_of_hub old.store.list old.store.begun (length old.journal) marker) c)) is
    ∙ ap (λ (b : Option BegunPack). open_with p (len keep) (Some (copying_with marker.set (length old.store.list - (length old.journal - length old.journal)) (option_map_or (λ (x : BegunPack). length x.copied) b 0)))) begun
    ∙ ap (λ (k : ℕ). open_with p (len keep) (Some (copying_with marker.set k 0))) (omega arith)
    ∙ ap (λ (s : FinSet nat_cmp). open_with p (len keep) (Some (copying_with s (length old.store.list) 0))) last.all.set))

marked_by : {R F : Type 0} (whole : Bool) (rules : Rules) (m : Machine) (n : ℕ) (p : HubPack) (marker : MarkerState) (count : ℕ) (copying : Option HubCopying) (old new : HubState R F) (stamps : Option (List Stamp))
    → StandsForMachine old (without_pack m) → TakesTurnOf old m n p → p.copying ≡ None → old.store.begun ≡ Some (new_pack p.tid) → IsMarkedTo p.collects rules.named p.tid old.store.list p.marker.counted marker count whole
    → marker.counted ≡ count → (whole ≡ true → copying ≡ Some (record { entries = length old.journal; is_whole = false })) → (whole ≡ false → copying ≡ None) → IsMarkTurnMade old new p marker copying
    → MakesStep rules m n request.PackTurn (marked_as whole count) old new stamps stamps
marked_by true rules m n p marker count copying old new stamps stands takes none begun marked counted some more made =
    marked_last rules m n p marker count copying old new stamps stands takes none begun marked counted (some refl) made
marked_by false rules m n p marker count copying old new stamps stands takes none begun marked counted some more made =
    marked_more rules m n p marker count copying old new stamps stands takes none marked counted (more refl) made

-- what a hub keeps of a pack that is being marked
fresh_at : (named : List ℕ → Option (List ℕ)) (list : List Transaction) (begun : Option BegunPack) (entries : ℕ) (p : HubPack) (c : Option HubCopying) → c ≡ None → IsPackAt named list begun entries p c → begun ≡ Some (new_pack p.tid)
fresh_at named list begun entries p None none at = at.fresh
fresh_at named list begun entries p (Some k) none at = absurd cc

pub turn_marked : {R F : Type 0} (rules : Rules) (m : Machine) (n : ℕ) (p : HubPack) (marker : MarkerState) (marked : Marked) (copying : Option HubCopying) (old new : HubState R F) (stamps : Option (List Stamp))
    → StandsForMachine old (without_pack m) → TakesTurnOf old m n p → p.copying ≡ None → IsPackAt rules.named old.store.list old.store.begun (length old.journal) p p.copying
    → IsMarkedTo p.collects rules.named p.tid old.store.list p.marker.counted marker marked.count marked.whole
    → marker.counted ≡ marked.count → (marked.whole ≡ true → copying ≡ Some (record { entries = length old.journal; is_whole = false })) → (marked.whole ≡ false → copying ≡ None)
    → ReadKeepsRest old.store new.store → new.store.read_faults ≡ old.store.read_faults → old.store.broken ≡ false
    → new.journal ≡ old.journal → new.greatest ≡ old.greatest → new.sessions ≡ old.sessions → new.vote ≡ old.vote → new.pack ≡ Some (marked_pack p marker copying)
    → MakesStep rules m n request.PackTurn (marked_reply marked) old new stamps stamps
turn_marked rules m n p marker marked copying old new stamps stands takes none at is counted some more read answered whole entries greatest sessions vote pack =
    marked_by marked.whole rules m n p marker marked.count copying old new stamps stands takes none (fresh_at rules.named old.store.list old.store.begun (length old.journal) p p.copying none at) is counted some more
    (record { read = read; answered = answered; whole = whole; entries = entries; greatest = greatest; sessions = sessions; vote = vote; pack = pack })

-- the marks were refused, and the pack is dropped
pub turn_unmarked : {R F : Type 0} (rules : Rules) (m : Machine) (n : ℕ) (p : HubPack) (why : PackRefusal) (mid : StoreState) (old new : HubState R F) (stamps : Option (List Stamp))
    → StandsForMachine old (without_pack m) → TakesTurnOf old m n p → p.copying ≡ None
    → RefusesMarks p.collects rules.named p.tid old.store.list p.marker.counted why → HasMarkCause old.store.read_faults mid.read_faults why → old.store.read_faults ≤ mid.read_faults
    → ReadKeepsRest old.store mid → DropKeepsRest mid new.store → old.store.broken ≡ false
    → new.journal ≡ old.journal → new.greatest ≡ old.greatest → new.sessions ≡ old.sessions → new.vote ≡ old.vote → new.pack ≡ None
    → MakesStep rules m n request.PackTurn (pack_reply why) old new stamps stamps
turn_unmarked rules m n p why mid old new stamps stands takes none refuses cause reads read drop whole entries greatest sessions vote pack = by_cause why refuses cause
  where
    later : AreLaterCounts (counts_of old.store) (counts_of new.store)
    later = record {
      reads = omega (arith, reads, ap (λ (s : StoreState). s.read_faults) drop);
      others = omega (arith, ap (λ (s : StoreState). s.faults) drop, ap (λ (s : StoreState). s.faults) read);
    }

    still : new.store.broken ≡ false
    still = ap (λ (s : StoreState). s.broken) drop ∙ ap (λ (s : StoreState). s.broken) read ∙ whole

    left : StandsForMachine new (without_pack m)
    left =
        stands_with m None old new stands whole still (ap (λ (s : StoreState). s.list) drop ∙ ap (λ (s : StoreState). s.list) read) (ap (λ (s : StoreState). s.voted) drop ∙ ap (λ (s : StoreState). s.voted) read)
        entries greatest sessions vote (none_open new.store (length new.journal) new.pack still pack)

    rose : Rose old.store.read_faults mid.read_faults → Rose old.store.read_faults new.store.read_faults
    rose up = subst (λ (k : ℕ). Rose old.store.read_faults k) (sym (ap (λ (s : StoreState). s.read_faults) drop)) up

    by_cause : (r : PackRefusal) → RefusesMarks p.collects rules.named p.tid old.store.list p.marker.counted r → HasMarkCause old.store.read_faults mid.read_faults r
        → MakesStep rules m n request.PackTurn (pack_reply r) old new stamps stamps
    by_cause (pack_refusal.Unreadable oid tid) refuses cause =
        let open_pack = pack_of_hub old.store.list old.store.begun (length old.journal) p in
        answered rules m n request.PackTurn (reply.Refused (refusal.Unreadable oid tid)) (without_pack m) old new stamps later refl
        (marking_gives rules m n 0 p old takes none (stands.list whole)
        ∙ ap (λ (b : Bool). if b then more_marked m open_pack else unless_unread m (unread p.collects rules.named p.tid old.store.list) (all_marked rules.named m open_pack old.store.list)) refuses.0
        ∙ ap (λ (o : Option (ℕ × ℕ)). unless_unread m o (all_marked rules.named m open_pack old.store.list)) refuses.1)
        left
    by_cause pack_refusal.ReadFault refuses cause = reading_failed rules m n request.PackTurn old new stamps later (record { allowed = takes.allowed; one = refl }) (rose cause) left
    by_cause pack_refusal.Memory refuses cause = starved rules m n request.PackTurn old new stamps later (record { allowed = takes.allowed; one = refl }) left

-- ---- what a hub keeps behind it

marked_at : (whole : Bool) (named : List ℕ → Option (List ℕ)) (list : List Transaction) (begun : Option BegunPack) (entries before count : ℕ) (p : HubPack) (marker : MarkerState) (copying : Option HubCopying)
    → begun ≡ Some (new_pack p.tid) → IsMarkedTo p.collects named p.tid list before marker count whole
    → (whole ≡ true → copying ≡ Some (record { entries = entries; is_whole = false })) → (whole ≡ false → copying ≡ None)
    → IsPackAt named list begun entries (marked_pack p marker copying) copying
marked_at true named list begun entries before count p marker copying fresh marked some more =
    subst (IsPackAt named list begun entries (marked_pack p marker copying)) (sym (some refl))
    (record {
      front = list;
      commits = [];
      split = sym (append-nil list);
      counted = omega arith;
      later = tt;
      set = marked.all.set;
      whole = marked.whole;
      copied = new_copy marker.set list begun p.tid fresh;
    })
marked_at false named list begun entries before count p marker copying fresh marked some more =
    subst (IsPackAt named list begun entries (marked_pack p marker copying)) (sym (more refl)) (record { marks = marked.goes_on; fresh = fresh })

-- the pack behind a turn that marked
pub keeps_marked : (told : Type 0) (named : List ℕ → Option (List ℕ)) (s t : StoreState) (entries : ℕ) (p : HubPack) (marker : MarkerState) (marked : Marked) (copying : Option HubCopying)
    → KeepsPack told named s.list s.begun s.newest entries p → p.copying ≡ None → ReadKeepsRest s t → marker.tid ≡ p.tid
    → (told → IsMarkedTo p.collects named p.tid s.list p.marker.counted marker marked.count marked.whole)
    → (marked.whole ≡ true → copying ≡ Some (record { entries = entries; is_whole = false })) → (marked.whole ≡ false → copying ≡ None)
    → KeepsPack told named t.list t.begun t.newest entries (marked_pack p marker copying)
keeps_marked told named s t entries p marker marked copying keeps none read tid is some more =
    subst (λ (x : StoreState). KeepsPack told named x.list x.begun x.newest entries (marked_pack p marker copying)) (sym read)
    (record {
      tid = tid;
      started = keeps.started;
      early = keeps.early;
      at = λ tells. marked_at marked.whole named s.list s.begun entries p.marker.counted marked.count p marker copying (fresh_at named s.list s.begun entries p p.copying none (keeps.at tells)) (is tells) some more;
    })

pub within_marked : (whole : Bool) (entries : ℕ) (p : HubPack) (marker : MarkerState) (copying : Option HubCopying)
    → (whole ≡ true → copying ≡ Some (record { entries = entries; is_whole = false })) → (whole ≡ false → copying ≡ None) → IsWithin (Some (marked_pack p marker copying)) entries
within_marked true entries p marker copying some more = subst (λ (c : Option HubCopying). IfSome c (λ k. k.entries ≤ entries)) (sym (some refl)) (omega arith)
within_marked false entries p marker copying some more = subst (λ (c : Option HubCopying). IfSome c (λ k. k.entries ≤ entries)) (sym (more refl)) tt
