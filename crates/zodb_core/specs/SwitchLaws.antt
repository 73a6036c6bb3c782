-- What a pack keeps: what views above its tid see, the front, and no record that wasn't there. For the proofs of those who follow the machine.
use Rattle.std.proofs.Common.{◌≡◌, ℕ, ◌+◌, ◌-◌, ◌<◌, ◌≤◌, inl, inr, ⊎_elim, Bool, true, false, not, min, List, Option, Some, None, refl, sym, ap, subst, ◌∙◌, arith}
use Rattle.std.specs.Prelude.{IsTrue}
use Rattle.std.specs.Option.{ForSome}
use Rattle.std.specs.Ordering.{nat_cmp}
use Rattle.std.specs.FinSet.{FinSet, contains}
use Rattle.std.proofs.lemmas.Bool.{cases_Bool, true≢false}
use Rattle.std.proofs.lemmas.Option.{same_Some}
use Rattle.zb_model.specs.declared.data.Content.{Content}
use Rattle.zb_model.specs.declared.data.Content.TheVariants.{Held, Absent}
use Rattle.zb_model.specs.declared.data.Transaction.{Transaction}
use Rattle.zb_model.specs.declared.found.Found.TheVariants as found
use Rattle.zb_model.specs.declared.refusal.Refusal.{Refusal}
use Rattle.zb_model.specs.Database.{IsDatabase, ObjectRevision, newest_tid, revision_below}
use Rattle.zb_model.specs.Packing.{packed_by}
use Rattle.zb_model.specs.Queries.{end_of, found_as, found_below, found_of}
use Rattle.pack_reach.specs.KeepingLaws.{packs_keep, records_stand}
use Rattle.pack_reach.specs.LeadingLaws.{led_to_is_kept}
use Rattle.pack_reach.specs.Packed.{kept, packed, unread}
use Rattle.zodb_core.specs.declared.reply.Reply.{Reply}
use Rattle.zodb_core.specs.declared.request.Request.{Request}
use Rattle.zodb_core.specs.declared.request.Request.TheVariants as request
use Rattle.zodb_core.specs.Laws.{IsPackedTo}
use Rattle.zodb_core.specs.Machine.{Machine, Rules, front_of, is_open_in}
use Rattle.zodb_core.specs.Outcomes.{Answered, NoMemory, ReadingFailed, StepOutcome, StoreFailed, is_pack, is_packed, machine_left}
use Rattle.zodb_core.specs.PackLaws.{newest_packed}
use Rattle.zodb_core.specs.Seen.{KeepsSeen, KeepsViews, PackGoal, goal_of_open, pack_goal}
use Rattle.zodb_core.specs.Sound.{Becomes, BecomesAsMarked, GrowsByOne, IsPackOf, IsPackWithin, IsSoundMachine, ComesTo, moved, unmoved}
use Rattle.zodb_core.specs.SoundLaws.{front_come, grows_to, left_grows, revision_grown}
use Rattle.zodb_core.specs.StepCases.{PackCases, allowed_request, by_pack_step, by_unanswered, pack_free}
use Rattle.zodb_core.specs.StepLaws.{step_unpacked}
use Rattle.zodb_core.specs.Steps.{Stepped, begin_step, early_refusal, pack_refusal, pack_step, pack_tid, step_of, switched, unless_early, unless_unread}

-- ---- what views see

pub packed_keeps : (collects : Bool) (named : List ℕ → Option (List ℕ)) (t : ℕ) (list : List Transaction) → IsDatabase list → KeepsViews collects named t list (packed collects named t list)
packed_keeps collects named t list is = record {
  contents = λ front oid above there. packs_keep collects named t front oid list is above there;
  reached = λ collected front oid above led. subst (λ (c : Bool). IsTrue (contains (kept c named t list) oid)) (sym collected) (led_to_is_kept named t front oid list above led);
}

-- a step that didn't pack keeps what it didn't change
pub unpacked_keeps : (named : List ℕ → Option (List ℕ)) (goal : Option PackGoal) (q : Request) (r : Reply) (list now : List Transaction) → is_packed r ≡ false → KeepsSeen named goal q r list now
unpacked_keeps named goal q r list now not = λ packed. absurd (true≢false (sym packed ∙ not))

-- one that packed as was asked keeps what views see
pub asked_keeps_seen : (named : List ℕ → Option (List ℕ)) (goal : Option PackGoal) (q : Request) (r : Reply) (list now : List Transaction) → IsDatabase list
    → (is_packed r ≡ true → ForSome (pack_goal q list goal) (λ g. now ≡ packed g.collects named g.tid list)) → KeepsSeen named goal q r list now
asked_keeps_seen named goal q r list now is gives = λ packed g asked.
    subst (λ (l : List Transaction). KeepsViews g.collects named g.tid list l) (sym (gives packed g asked)) (packed_keeps g.collects named g.tid list is)

-- so in one step
pub pack_keeps_seen : (collects : Bool) (named : List ℕ → Option (List ℕ)) (goal : Option PackGoal) (tid newest t : ℕ) (keep : FinSet nat_cmp) (r : Reply) (list now : List Transaction) → IsDatabase list
    → newest ≡ newest_tid list → t ≡ min tid (newest - 1) → keep ≡ kept collects named t list → (is_packed r ≡ true → now ≡ packed_by t keep list) → KeepsSeen named goal (request.Pack tid collects) r list now
pack_keeps_seen collects named goal tid newest t keep r list now is last up_to marked gives =
    asked_keeps_seen named goal (request.Pack tid collects) r list now is (λ done g asked.
    let here : now ≡ packed collects named t list = gives done ∙ ap (λ (k : FinSet nat_cmp). packed_by t k list) marked in
    let there : now ≡ packed collects named (pack_tid tid list) list = here ∙ ap (λ (k : ℕ). packed collects named k list) (up_to ∙ ap (λ (k : ℕ). min tid (k - 1)) last) in
    let own : PackGoal = record { tid = pack_tid tid list; collects = collects } in
    subst (λ (x : PackGoal). now ≡ packed x.collects named x.tid list) (same_Some own g asked) there)

-- and by a turn of the pack that is open
pub turn_keeps_seen : (named : List ℕ → Option (List ℕ)) (own : PackGoal) (r : Reply) (list now : List Transaction) → IsDatabase list → (is_packed r ≡ true → now ≡ packed own.collects named own.tid list)
    → KeepsSeen named (Some own) request.PackTurn r list now
turn_keeps_seen named own r list now is gives =
    asked_keeps_seen named (Some own) request.PackTurn r list now is (λ done g asked. subst (λ (x : PackGoal). now ≡ packed x.collects named x.tid list) (same_Some own g asked) (gives done))

-- ---- steps that pack

abbrev PacksAsAsked : (List ℕ → Option (List ℕ)) → Machine → Request → Stepped → Type 0
PacksAsAsked named m q s = is_packed s.reply ≡ true → IsPackedTo named (pack_goal q m.list (goal_of_open m.pack)) m.list s.machine.list

asked_cases : (named : List ℕ → Option (List ℕ)) (m : Machine) (n : ℕ) (q : Request) → PackCases (PacksAsAsked named m q) named m n q
asked_cases named m n q = record {
  refused = λ r answers is. absurd cc;
  begun = λ t collects none below is. absurd cc;
  marking = λ p count there is. absurd cc;
  marked = λ p there none is. absurd cc;
  copying = λ p k copied count there copying is. absurd cc;
  copied = λ p k copied count there copying is. absurd cc;
  lost = λ r answers is. absurd cc;
  packed = λ g goal free below is. record { to = g; asked = goal; is = refl };
}

-- ---- and what they keep

-- a list that only grew, or was packed as the machine packs it
marked_cases : (named : List ℕ → Option (List ℕ)) (m : Machine) (n : ℕ) (q : Request) → IsSoundMachine m → PackCases (λ s. BecomesAsMarked named m.list s.machine.list) named m n q
marked_cases named m n q sound = record {
  refused = λ r answers. inl (inl refl);
  begun = λ t collects none below. inl (inl refl);
  marking = λ p count there. inl (inl refl);
  marked = λ p there none. inl (inl refl);
  copying = λ p k copied count there copying. inl (inl refl);
  copied = λ p k copied count there copying. inl (inl refl);
  lost = λ r answers. inl (inl refl);
  packed = λ g goal free below. inr (record { tid = g.tid; collects = g.collects; below = below sound.within; is = refl });
}

step_as_marked : (rules : Rules) (m : Machine) (n : ℕ) (q : Request) (stamp : ℕ) → IsSoundMachine m → BecomesAsMarked rules.named m.list (step_of rules m n q stamp).machine.list
step_as_marked rules m n q stamp sound =
    ⊎_elim (λ (pack : is_pack q ≡ true). by_pack_step (λ s. BecomesAsMarked rules.named m.list s.machine.list) rules m n q stamp pack (marked_cases rules.named m n q sound))
    (λ (not : is_pack q ≡ false). inl (left_grows rules m n q stamp Answered not sound))
    (cases_Bool (is_pack q))

-- however it ends
pub left_as_marked : (rules : Rules) (m : Machine) (n : ℕ) (q : Request) (stamp : ℕ) (outcome : StepOutcome) → IsSoundMachine m
    → BecomesAsMarked rules.named m.list (machine_left rules m n q stamp outcome).list
left_as_marked rules m n q stamp Answered sound = step_as_marked rules m n q stamp sound
left_as_marked rules m n q stamp ReadingFailed sound = by_unanswered (λ x. BecomesAsMarked rules.named m.list x.list) q m (inl (inl refl)) (inl (inl refl))
left_as_marked rules m n q stamp NoMemory sound = by_unanswered (λ x. BecomesAsMarked rules.named m.list x.list) q m (inl (inl refl)) (inl (inl refl))
left_as_marked rules m n q stamp StoreFailed sound = inl (inl refl)

pub packed_as_asked : (rules : Rules) (m : Machine) (n : ℕ) (q : Request) (stamp : ℕ) → is_packed (step_of rules m n q stamp).reply ≡ true
    → IsPackedTo rules.named (pack_goal q m.list (goal_of_open m.pack)) m.list (step_of rules m n q stamp).machine.list
packed_as_asked rules m n q stamp is =
    ⊎_elim (λ (pack : is_pack q ≡ true). by_pack_step (PacksAsAsked rules.named m q) rules m n q stamp pack (asked_cases rules.named m n q) is)
    (λ (not : is_pack q ≡ false). absurd (true≢false (sym is ∙ step_unpacked rules m n q stamp not)))
    (cases_Bool (is_pack q))

goal_now : (named : List ℕ → Option (List ℕ)) (goal : Option PackGoal) (list now : List Transaction) → IsPackedTo named goal list now → ForSome goal (λ g. now ≡ packed g.collects named g.tid list)
goal_now named goal list now is = λ g asked.
    subst (λ (x : PackGoal). now ≡ packed x.collects named x.tid list) (same_Some is.to g (sym is.asked ∙ asked)) is.is

pub packed_is : (rules : Rules) (m : Machine) (n tid : ℕ) (collects : Bool) (stamp : ℕ) → is_packed (step_of rules m n (request.Pack tid collects) stamp).reply ≡ true
    → (step_of rules m n (request.Pack tid collects) stamp).machine.list ≡ packed collects rules.named (pack_tid tid m.list) m.list
packed_is rules m n tid collects stamp is =
    let q = request.Pack tid collects in
    goal_now rules.named (pack_goal q m.list (goal_of_open m.pack)) m.list (step_of rules m n q stamp).machine.list (packed_as_asked rules m n q stamp is) (record { tid = pack_tid tid m.list; collects = collects }) refl

pub pack_keeps : (rules : Rules) (m : Machine) (n : ℕ) (q : Request) (stamp : ℕ) → IsDatabase m.list
    → KeepsSeen rules.named (goal_of_open m.pack) q (step_of rules m n q stamp).reply m.list (step_of rules m n q stamp).machine.list
pack_keeps rules m n q stamp is =
    let now = (step_of rules m n q stamp).machine.list in
    asked_keeps_seen rules.named (goal_of_open m.pack) q (step_of rules m n q stamp).reply m.list now is
    (λ done. goal_now rules.named (pack_goal q m.list (goal_of_open m.pack)) m.list now (packed_as_asked rules m n q stamp done))

-- ---- and those that don't

abbrev KeepsUnpacked : Machine → Stepped → Type 0
KeepsUnpacked m s = is_packed s.reply ≡ false → s.machine.list ≡ m.list

kept_cases : (named : List ℕ → Option (List ℕ)) (m : Machine) (n : ℕ) (q : Request) → PackCases (KeepsUnpacked m) named m n q
kept_cases named m n q = record {
  refused = λ r answers not. refl;
  begun = λ t collects none below not. refl;
  marking = λ p count there not. refl;
  marked = λ p there none not. refl;
  copying = λ p k copied count there copying not. refl;
  copied = λ p k copied count there copying not. refl;
  lost = λ r answers not. refl;
  packed = λ g goal free below not. absurd cc;
}

pub turn_keeps_list : (rules : Rules) (m : Machine) (n : ℕ) (q : Request) (stamp : ℕ) → is_pack q ≡ true → is_packed (step_of rules m n q stamp).reply ≡ false → (step_of rules m n q stamp).machine.list ≡ m.list
turn_keeps_list rules m n q stamp is not = by_pack_step (KeepsUnpacked m) rules m n q stamp is (kept_cases rules.named m n q) not

-- ---- the front

unless_front : (m : Machine) (t : ℕ) (keep : FinSet nat_cmp) (w : Option (ℕ × ℕ)) → t < newest_tid m.list → front_of (unless_unread m w (switched m t (packed_by t keep m.list))).machine.list ≡ front_of m.list
unless_front m t keep (Some w) below = refl
unless_front m t keep None below = ap (λ (k : ℕ). k + 1) (newest_packed t keep m.list below)

early_front : (early : Option Refusal) (named : List ℕ → Option (List ℕ)) (m : Machine) (t : ℕ) (collects : Bool) → (early ≡ None → t < newest_tid m.list) → front_of (unless_early early m (pack_step named m t collects)).machine.list ≡ front_of m.list
early_front (Some r) named m t collects below = refl
early_front None named m t collects below = unless_front m t (kept collects named t m.list) (unread collects named t m.list) (below refl)

front_cases : (named : List ℕ → Option (List ℕ)) (m : Machine) (n : ℕ) (q : Request) → IsPackWithin m.list m.pack → PackCases (λ s. front_of s.machine.list ≡ front_of m.list) named m n q
front_cases named m n q within = record {
  refused = λ r answers. refl;
  begun = λ t collects none below. refl;
  marking = λ p count there. refl;
  marked = λ p there none. refl;
  copying = λ p k copied count there copying. refl;
  copied = λ p k copied count there copying. refl;
  lost = λ r answers. refl;
  packed = λ g goal free below. ap (λ (k : ℕ). k + 1) (newest_packed g.tid (kept g.collects named g.tid m.list) m.list (below within));
}

-- a pack that is begun packs nothing yet
begin_front : (early : Option Refusal) (m : Machine) (n t : ℕ) (collects : Bool) → front_of (unless_early early m (begin_step m n t collects)).machine.list ≡ front_of m.list
begin_front (Some r) m n t collects = refl
begin_front None m n t collects = refl

pub front_packed : (rules : Rules) (m : Machine) (n : ℕ) (q : Request) (stamp : ℕ) → is_pack q ≡ true → (q ≡ request.PackTurn → IsPackWithin m.list m.pack)
    → front_of (step_of rules m n q stamp).machine.list ≡ front_of m.list
front_packed rules m n (request.Pack tid collects) stamp is within =
    early_front (early_refusal m n (request.Pack tid collects)) rules.named m (pack_tid tid m.list) collects
    (λ early. (pack_free m tid (allowed_request (not (is_open_in m.sessions n)) (pack_refusal m tid) early)).1)
front_packed rules m n (request.PackBegin tid collects) stamp is within = begin_front (early_refusal m n (request.PackBegin tid collects)) m n (pack_tid tid m.list) collects
front_packed rules m n request.PackTurn stamp is within =
    by_pack_step (λ s. front_of s.machine.list ≡ front_of m.list) rules m n request.PackTurn stamp refl (front_cases rules.named m n request.PackTurn (within refl))
front_packed rules m n request.Front stamp is within = absurd cc
front_packed rules m n (request.LoadBefore oid front) stamp is within = absurd cc
front_packed rules m n (request.NewOids count) stamp is within = absurd cc
front_packed rules m n (request.Vote user description extension pending) stamp is within = absurd cc
front_packed rules m n (request.Undo user description tids) stamp is within = absurd cc
front_packed rules m n request.Finish stamp is within = absurd cc
front_packed rules m n request.Abort stamp is within = absurd cc
front_packed rules m n (request.History oid) stamp is within = absurd cc
front_packed rules m n request.UndoLog stamp is within = absurd cc
front_packed rules m n request.Last stamp is within = absurd cc
front_packed rules m n (request.Since tid changes) stamp is within = absurd cc
front_packed rules m n request.Close stamp is within = absurd cc

-- ---- records below a front

abbrev HasRecord : ℕ → ℕ → ℕ → List ℕ → List Transaction → Type 0
HasRecord oid front serial bytes list = revision_below oid front list ≡ Some (record { serial = serial; content = Held bytes })

-- what is found is the last revision
same_revision : (r : ObjectRevision) (b bytes : List ℕ) (serial : ℕ) → r.content ≡ Held b → r.serial ≡ serial → b ≡ bytes → Some r ≡ Some (record { serial = serial; content = Held bytes })
same_revision r b bytes serial e s w =
    let made : ObjectRevision = record { serial = serial; content = Held bytes } in
    let one : r ≡ made = ap (λ (c : Content). let x : ObjectRevision = record { serial = r.serial; content = c } in x) (e ∙ ap Held w) ∙ ap (λ (k : ℕ). let x : ObjectRevision = record { serial = k; content = Held bytes } in x) s in
    ap (λ (x : ObjectRevision). Some x) one

held_serial : (a b : ℕ) (v w : List ℕ) (e f : Option ℕ) → found.Held a v e ≡ found.Held b w f → a ≡ b
held_serial a b v w e f is = cc

held_bytes : (a b : ℕ) (v w : List ℕ) (e f : Option ℕ) → found.Held a v e ≡ found.Held b w f → v ≡ w
held_bytes a b v w e f is = cc

held_content : (r : ObjectRevision) (end after : Option ℕ) (serial : ℕ) (bytes : List ℕ) (content : Content) → r.content ≡ content → found_as content r.serial end ≡ found.Held serial bytes after
    → Some r ≡ Some (record { serial = serial; content = Held bytes })
held_content r end after serial bytes Absent e f = absurd cc
held_content r end after serial bytes (Held b) e f =
    same_revision r b bytes serial e (held_serial r.serial serial b bytes end after f) (held_bytes r.serial serial b bytes end after f)

found_held : (o : Option ObjectRevision) (end after : Option ℕ) (serial : ℕ) (bytes : List ℕ) → found_of o end ≡ found.Held serial bytes after → o ≡ Some (record { serial = serial; content = Held bytes })
found_held None end after serial bytes is = absurd cc
found_held (Some r) end after serial bytes is = held_content r end after serial bytes r.content refl is

record_packed : (oid front serial : ℕ) (bytes : List ℕ) (list now : List Transaction) → IsDatabase list → IsPackOf list now → HasRecord oid front serial bytes now → HasRecord oid front serial bytes list
record_packed oid front serial bytes list now is pack has =
    let here : HasRecord oid front serial bytes (packed_by pack.tid pack.keep list) = sym (ap (revision_below oid front) pack.is) ∙ has in
    let end = end_of oid front (packed_by pack.tid pack.keep list) in
    let found_now : found_below oid front (packed_by pack.tid pack.keep list) ≡ found.Held serial bytes end = ap (λ (o : Option ObjectRevision). found_of o end) here in
    found_held (revision_below oid front list) (end_of oid front list) end serial bytes (records_stand pack.keep pack.tid oid front serial bytes end list is found_now)

record_grown : (oid front serial : ℕ) (bytes : List ℕ) (list now : List Transaction) → GrowsByOne list now → front ≤ front_of list → HasRecord oid front serial bytes now → HasRecord oid front serial bytes list
record_grown oid front serial bytes list now grows up has = sym (revision_grown oid front list now (grows_to list now grows) up) ∙ has

pub record_becomes : (oid front serial : ℕ) (bytes : List ℕ) (list now : List Transaction) → IsDatabase list → Becomes list now → front ≤ front_of list → HasRecord oid front serial bytes now → HasRecord oid front serial bytes list
record_becomes oid front serial bytes list now is (inl grows) up has = record_grown oid front serial bytes list now grows up has
record_becomes oid front serial bytes list now is (inr pack) up has = record_packed oid front serial bytes list now is pack has

-- a record that a list has below a front that the one before had reached stood there
pub record_come : (oid front serial : ℕ) (bytes : List ℕ) (list now : List Transaction) → ComesTo list now → front ≤ front_of list → HasRecord oid front serial bytes now → HasRecord oid front serial bytes list
record_come oid front serial bytes list _ unmoved up has = has
record_come oid front serial bytes list _ (moved mid now before is becomes) up has =
    record_come oid front serial bytes list mid before up
    (record_becomes oid front serial bytes mid now is becomes (omega (arith, up, front_come list mid before)) has)
