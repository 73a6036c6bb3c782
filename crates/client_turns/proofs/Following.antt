-- Turns keep a moment sound, and its list only grows and is packed.
use Rattle.std.proofs.Common.{Bool, Err, List, None, Ok, Option, Result, Some, [], ap, arith, false, if◌then◌else◌, inl, inr, length, nat_lt, refl, subst, suc, sym, true, zero, ℕ, ◌+◌, ◌<◌, ◌∙◌, ◌∷◌, ◌≡◌, ◌≤◌}
use Rattle.std.specs.Prelude.{All, IfSome, nat_eq, slice_get, slice_set, take}
use Rattle.std.specs.List.{AllByRecursion, IsDistinct}
use Rattle.std.specs.Option.{option_map}
use Rattle.std.proofs.lemmas.List.Elements.{All-from_recursion, recursion_from_All}
use Rattle.zb_base.specs.Lists.{each_more}
use Rattle.zb_model.specs.declared.data.Content.TheVariants.{Held, Absent}
use Rattle.zb_model.specs.declared.pending.PendingStore.{PendingStore}
use Rattle.zb_model.specs.Database.{IsRecord}
use Rattle.zb_model.specs.declared.refusal.Refusal.{Refusal}
use Rattle.zb_model.specs.declared.refusal.Refusal.TheVariants as refusal
use Rattle.zb_answers.specs.declared.answer.Answer.{Answer}
use Rattle.zb_answers.specs.declared.answer.Answer.TheVariants as answer
use Rattle.zb_script.specs.declared.line.Line.{Line}
use Rattle.zb_script.specs.declared.line.Line.TheVariants as line
use Rattle.zb_script.specs.declared.line.Turn.{Turn}
use Rattle.zb_script.specs.declared.tree_call.TreeCall.{TreeCall}
use Rattle.commit_phases.specs.Pending.{PendingChanges, behind_stored, excess_with, pending_of, stored_on, stores_after, with_pending}
use Rattle.tree_attempts.specs.declared.attempt.Made.{Made}
use Rattle.tree_attempts.specs.declared.operation.TreeOperation.{TreeOperation}
use Rattle.tree_attempts.specs.declared.put.TreePut.{TreePut}
use Rattle.zodb_core.specs.declared.reply.Reply.{Reply}
use Rattle.zodb_core.specs.declared.reply.Reply.TheVariants as reply
use Rattle.zodb_core.specs.declared.request.Request.{Request}
use Rattle.zodb_core.specs.declared.request.Request.TheVariants as request
use Rattle.zodb_core.specs.DecisionLaws.{pending_formed}
use Rattle.zodb_core.specs.HistoryLaws.{left_greatest}
use Rattle.zodb_core.specs.Machine.{Machine, Rules, front_of, session_limit, with_session}
use Rattle.zodb_core.specs.Outcomes.{machine_left, outcome_of}
use Rattle.zodb_core.specs.Sound.{AreWellFormedStores, GoesOnTo, IsWellFormedRequest, IsSoundMachine, moved, unmoved}
use Rattle.zodb_core.specs.SoundLaws.{comes_twice, front_come, grows_not, grows_to, grows_twice, left_goes_on, left_sound, opened_sound, sound_later}
use Rattle.client_turns.specs.Clients.{Changes, Client, Linked, Local, Moment, OpenTransaction, Standing, begun_far, changes_of, place_of_client, with_transaction}
use Rattle.client_turns.specs.Laws.{AreFormed, Follows, IsFormedPending, IsFormedClient, IsSoundMoment}
use Rattle.client_turns.specs.Lines.{Changed, asking_excess, checked, client_left, client_told, deleted, is_committed, is_delivery, outcome_of_result, pending_in, put, request_of, rolled_back, rolled_to, saved, store_unless, stored, transaction_left, with_changes}
use Rattle.client_turns.specs.Refusing.{IsFittingLine, connection_refusal}
use Rattle.client_turns.specs.DrawLaws.{LeavesCall, call_leaves}
use Rattle.client_turns.specs.Trees.{CallEnds, IsRaised, IsTreeEnd, IsTreeLine, all_stored, answer_told, operation_of, puts_stored, stores_put}
use Rattle.client_turns.specs.TurnLaws.{Opens, by_name, own_raised, request_cases}
use Rattle.client_turns.proofs.Standings.{AllKnow, all_later, closing_clients, go_knows, line_clients, told_clients}
use Rattle.client_turns.specs.Steps.{IsChange, IsStepAt}
use Rattle.client_turns.specs.Turns.{IsAnswered, IsClosed, IsClosing, IsGet, IsLine, IsLineOf, IsLineTaken, IsLineUnless, IsOutside, IsOwnLine, IsPut, IsStepLine, IsStepUnless, IsTold, IsWithin, fronts_behind, opened, opened_if}

-- ---- machines that steps lead to

pub follows_same : (m : Machine) → IsSoundMachine m → Follows m m
follows_same m sound = record { sound = sound; comes = unmoved; switches = omega arith; grows = λ _. grows_not m.list; greatest = omega arith }

follows_as : (m now : Machine) → IsSoundMachine m → now ≡ m → Follows m now
follows_as m now sound is = subst (Follows m) (sym is) (follows_same m sound)

pub follows_twice : (m b now : Machine) → Follows m b → Follows b now → Follows m now
follows_twice m b now one two = record {
  sound = two.sound;
  comes = comes_twice m.list b.list now.list one.comes two.comes;
  switches = omega (arith, one.switches, two.switches);
  grows = λ still. grows_twice m.list b.list now.list (one.grows (omega (arith, still, one.switches, two.switches))) (two.grows (omega (arith, still, one.switches, two.switches)));
  greatest = omega (arith, one.greatest, two.greatest);
}

pub step_follows : (rules : Rules) (m : Moment) (n : ℕ) (q : Request) (r : Reply) (now : Moment) → IsSoundMachine m.machine → IsWellFormedRequest q → IsStepAt rules m n q r now → Follows m.machine now.machine
step_follows rules m n q r now sound formed step =
    let left : Machine = machine_left rules m.machine n q step.stamp (outcome_of r) in
    let goes : GoesOnTo m.machine left = left_goes_on rules m.machine n q step.stamp (outcome_of r) (sound_later m.machine sound) sound.within in
    subst (Follows m.machine) (sym step.made.left) (record {
      sound = left_sound rules m.machine n q step.stamp (outcome_of r) sound formed;
      comes = moved m.machine.list left.list unmoved sound.database goes.becomes;
      switches = goes.switches;
      grows = λ still. grows_to m.machine.list left.list (goes.grows still);
      greatest = left_greatest rules m.machine n q step.stamp (outcome_of r);
    })

pub told_follows : (rules : Rules) (b t : Moment) (n count : ℕ) → IsSoundMachine b.machine → IsTold rules count b n t → Follows b.machine t.machine
told_follows rules b t n zero sound told = follows_as b.machine t.machine sound (ap (λ (x : Moment). x.machine) told)
told_follows rules b t n (suc count) sound (r, next, step, rest) =
    let first : Follows b.machine next.machine = step_follows rules b n request.Front r next sound tt step in
    follows_twice b.machine next.machine t.machine first (told_follows rules next t n count first.sound rest)

pub opened_follows : (m : Machine) → IsSoundMachine m → Follows m (with_session m)
opened_follows m sound = record { sound = opened_sound m sound; comes = unmoved; switches = omega arith; grows = λ _. grows_not m.list; greatest = omega arith }

-- ---- what waits is well formed

abbrev FormedIfSome : Option OpenTransaction → Type 0
FormedIfSome t = IfSome (option_map (λ (o : OpenTransaction). o.changes) t) AreFormed

none_distinct : IsDistinct nat_eq []
unfolding IsDistinct
none_distinct = tt

none_formed : AreWellFormedStores []
none_formed = record { distinct = none_distinct; filled = All-from_recursion (λ (p : PendingStore). IsRecord p.content) [] tt }

left_formed : (m : Machine) (t : Option OpenTransaction) (r : Reply) → FormedIfSome t → FormedIfSome (transaction_left m t r)
left_formed m t (reply.Front front news switches) formed = (none_formed, tt)
left_formed m None reply.Voted formed = tt
left_formed m (Some t) reply.Voted formed = formed
left_formed m t (reply.Committed tid) formed = tt
left_formed m t reply.Empty formed = tt
left_formed m t reply.Aborted formed = tt
left_formed m t reply.Closed formed = tt
left_formed m t _ formed = formed

stored_formed : (t : Changes) (p : PendingStore) (o : Option ℕ) → IsRecord p.content → AreFormed t → AreFormed (store_unless t p o).changes
stored_formed t p None some formed = (pending_formed t.pending.stores p formed.0 some, formed.1)
stored_formed t p (Some n) some formed = formed

put_formed : (t : Changes) (oid : ℕ) (bytes : List ℕ) (read : Result (ℕ × List ℕ) Refusal) → 0 < length bytes → AreFormed t → AreFormed (put t oid bytes read).changes
put_formed t oid bytes (Ok got) some formed = stored_formed t (record { oid = oid; base = got.0; content = Held bytes }) (excess_with t.pending.stores (record { oid = oid; base = got.0; content = Held bytes })) some formed
put_formed t oid bytes (Err (refusal.Missing a0 false)) some formed = stored_formed t (record { oid = oid; base = 0; content = Held bytes }) (excess_with t.pending.stores (record { oid = oid; base = 0; content = Held bytes })) some formed
put_formed t oid bytes (Err _) some formed = formed

-- what waited at savepoints
saved_formed : (t : Changes) → AreFormed t → AreFormed (saved t).changes
saved_formed t formed = (formed.0, each_more IsFormedPending t.savepoints t.pending formed.1 formed.0)

take_formed : (n : ℕ) (ps : List PendingChanges) → AllByRecursion IsFormedPending ps → AllByRecursion IsFormedPending (take n ps)
take_formed zero ps all = tt
take_formed (suc n) [] all = tt
take_formed (suc n) (p ∷ ps) all = (all.0, take_formed n ps all.1)

there_formed : (n : ℕ) (ps : List PendingChanges) (p : PendingChanges) → AllByRecursion IsFormedPending ps → slice_get ps n ≡ Some p → IsFormedPending p
there_formed n [] p all there = absurd cc
there_formed zero (q ∷ ps) p all there = subst IsFormedPending (same_pending q p there) all.0
  where
    same_pending : (a b : PendingChanges) → Some a ≡ Some b → a ≡ b
    same_pending a b e = cc
there_formed (suc n) (q ∷ ps) p all there = there_formed n ps p all.1 there

rolled_formed : (t : Changes) (number : ℕ) → AreFormed t → AreFormed (rolled_back t number).changes
rolled_formed t number formed = by_saved (slice_get t.savepoints number) refl
  where
    by_saved : (o : Option PendingChanges) → slice_get t.savepoints number ≡ o → AreFormed (rolled_to t number o).changes
    by_saved None is = formed
    by_saved (Some p) is = (there_formed number t.savepoints p formed.1 is, take_formed (number + 1) t.savepoints formed.1)

-- what a call puts
after_formed : (stores puts : List PendingStore) → AreWellFormedStores stores → AllByRecursion (λ p. IsRecord p.content) puts → (left : List PendingStore) → stores_after stores puts ≡ Ok left → AreWellFormedStores left
after_formed stores [] formed some left is = subst AreWellFormedStores (same_ok stores left is) formed
  where
    same_ok : (a b : List PendingStore) → (let x : Result (List PendingStore) ℕ = Ok a in x) ≡ Ok b → a ≡ b
    same_ok a b e = cc
after_formed stores (p ∷ puts) formed some left is = by_excess (excess_with stores p) (after_formed (with_pending stores p) puts (pending_formed stores p formed some.0) some.1 left) is
  where
    by_excess : (e : Option ℕ) → (stores_after (with_pending stores p) puts ≡ Ok left → AreWellFormedStores left) → behind_stored (stored_on stores p e) (λ more. stores_after more puts) ≡ Ok left → AreWellFormedStores left
    by_excess None rest there = rest there
    by_excess (Some n) rest there = absurd cc

all_formed : (t : Changes) (a : Answer) (puts : List PendingStore) → AllByRecursion (λ p. IsRecord p.content) puts → AreFormed t → AreFormed (all_stored t a puts).changes
all_formed t a [] some formed = formed
all_formed t a (p ∷ puts) some formed = by_vote t.is_voted (stores_after t.pending.stores (p ∷ puts)) refl
  where
    by_length : (r : Result (List PendingStore) ℕ) → stores_after t.pending.stores (p ∷ puts) ≡ r → AreFormed (puts_stored t a r).changes
    by_length (Ok stores) is = (after_formed t.pending.stores (p ∷ puts) formed.0 some stores is, formed.1)
    by_length (Err n) is = formed

    by_vote : (b : Bool) (r : Result (List PendingStore) ℕ) → stores_after t.pending.stores (p ∷ puts) ≡ r → AreFormed (if b then (let w : Changed = record { answer = answer.Refused refusal.Voted; changes = t } in w) else puts_stored t a r).changes
    by_vote true r is = formed
    by_vote false r is = by_length r is

records_put : (puts : List TreePut) → AllByRecursion (λ p. 0 < length p.bytes) puts → AllByRecursion (λ q. IsRecord q.content) (stores_put puts)
records_put [] some = tt
records_put (p ∷ puts) some = (some.0, records_put puts some.1)

-- what a call puts that is answered has bytes
abbrev pub HasPutBytes : Result Made Refusal → Type 0
HasPutBytes (Ok made) = All (λ p. 0 < length p.bytes) made.puts
HasPutBytes (Err why) = Unit {0}

put_bytes : (m : Moment) (n : ℕ) (t : OpenTransaction) (root : ℕ) (op : TreeOperation) (result : Result Made Refusal) (now : Moment) → CallEnds m n t root op result now → HasPutBytes result
put_bytes m n t root op (Ok made) now ends = ends.filled
put_bytes m n t root op (Err why) now ends = tt

set_formed : (cs : List Client) (at : ℕ) (c : Client) → AllByRecursion IsFormedClient cs → IsFormedClient c → AllByRecursion IsFormedClient (slice_set cs at c)
set_formed [] at c all formed = tt
set_formed (d ∷ cs) zero c all formed = (formed, all.1)
set_formed (d ∷ cs) (suc at) c all formed = (all.0, set_formed cs at c all.1 formed)

pub at_formed : (cs : List Client) (at : ℕ) (c : Client) → AllByRecursion IsFormedClient cs → slice_get cs at ≡ Some c → IsFormedClient c
at_formed [] at c all there = absurd cc
at_formed (d ∷ cs) zero c all there = subst IsFormedClient (same_client d c there) all.0
  where
    same_client : (a b : Client) → Some a ≡ Some b → a ≡ b
    same_client a b e = cc
at_formed (d ∷ cs) (suc at) c all there = at_formed cs at c all.1 there

same_request : (a b : Request) → Some a ≡ Some b → a ≡ b
same_request a b e = cc

-- the request of a line
pub asked_formed : (s : Standing) (ch : Option Changes) (l : Line) (q : Request) → IfSome ch AreFormed → request_of s ch l ≡ Some q → IsWellFormedRequest q
asked_formed s ch l q formed is =
    request_cases IsWellFormedRequest s ch l q tt tt (λ user description. waiting_formed ch formed) (λ user description tids. tt) tt tt (λ oid. tt) tt (λ tid collect. tt) (λ tid collect. tt) tt tt is
  where
    waiting_formed : (ch : Option Changes) → IfSome ch AreFormed → AreWellFormedStores (pending_in ch).stores
    waiting_formed None formed = none_formed
    waiting_formed (Some t) formed = formed.0

-- ---- lines

-- a moment that a sound one led to
pub record FollowsLine (m now : Moment) : Type 0 where
  pub machine : Follows m.machine now.machine
  pub formed : AllByRecursion IsFormedClient now.clients

unmoved_follows : (m now : Moment) → IsSoundMoment m → now ≡ m → FollowsLine m now
unmoved_follows m now sound is = subst (FollowsLine m) (sym is) (record { machine = follows_same m.machine sound.machine; formed = sound.formed })

-- the clients stay, or the one at a place has other changes
same_clients : (m now : Moment) → Follows m.machine now.machine → AllByRecursion IsFormedClient now.clients → FollowsLine m now
same_clients m now follows formed = record { machine = follows; formed = formed }

-- a machine with a greatest number that isn't lower
pub raised_follows : (m now : Machine) → IsSoundMachine m → IsRaised m now → Follows m now
raised_follows m now sound raised = subst (Follows m) (sym raised.is) (record {
  sound = record { database = sound.database; next = sound.next; numbered = omega (arith, sound.numbered, raised.up); told = sound.told; within = sound.within };
  comes = unmoved;
  switches = omega arith;
  grows = λ _. grows_not m.list;
  greatest = raised.up;
})

change_formed : (m now : Moment) (at : ℕ) (c : Client) (t : OpenTransaction) (w : Changed) (a : Answer) → AllByRecursion IsFormedClient m.clients → AreFormed w.changes → IsChange m at c t w a now → AllByRecursion IsFormedClient now.clients
change_formed m now at c t w a all formed is =
    subst (AllByRecursion IsFormedClient) (sym (ap (λ (x : Moment). x.clients) is.1)) (set_formed m.clients at (with_changes c t w.changes) all formed)

get_formed : (m now : Moment) (v : OpenTransaction) (oid : ℕ) (o : Option PendingStore) (a : Answer) → AllByRecursion IsFormedClient m.clients → IsGet m v oid o a now → AllByRecursion IsFormedClient now.clients
get_formed m now v oid None a all is = subst (AllByRecursion IsFormedClient) (sym (ap (λ (x : Moment). x.clients) is.1.rest)) all
get_formed m now v oid (Some p) a all is = subst (AllByRecursion IsFormedClient) (sym (ap (λ (x : Moment). x.clients) is.1)) all

putting_formed : (m now : Moment) (at : ℕ) (c : Client) (t : OpenTransaction) (oid : ℕ) (bytes : List ℕ) (o : Option PendingStore) (a : Answer) → AllByRecursion IsFormedClient m.clients → AreFormed t.changes
    → 0 < length bytes → IsPut m at c t oid bytes o a now → AllByRecursion IsFormedClient now.clients
putting_formed m now at c t oid bytes None a all formed some is =
    change_formed is.1 now at c t (put t.changes oid bytes is.0) a (subst (AllByRecursion IsFormedClient) (sym (ap (λ (x : Moment). x.clients) is.2.rest)) all) (put_formed t.changes oid bytes is.0 some formed) is.3
putting_formed m now at c t oid bytes (Some p) a all formed some is =
    change_formed m now at c t (stored t.changes (record { oid = oid; base = p.base; content = Held bytes })) a all
    (stored_formed t.changes (record { oid = oid; base = p.base; content = Held bytes }) (excess_with t.changes.pending.stores (record { oid = oid; base = p.base; content = Held bytes })) some formed) is

pub tree_end_formed : (b now : Moment) (at : ℕ) (c : Client) (t : OpenTransaction) (result : Result Made Refusal) (a : Answer) → AllByRecursion IsFormedClient b.clients → AreFormed t.changes → HasPutBytes result → IsTreeEnd b at c t result a now
    → AllByRecursion IsFormedClient now.clients
tree_end_formed b now at c t (Ok made) a all formed some (inl change) =
    change_formed b now at c t (all_stored t.changes (answer_told made.answer) (stores_put made.puts)) a all
    (all_formed t.changes (answer_told made.answer) (stores_put made.puts) (records_put made.puts (recursion_from_All (λ (p : TreePut). 0 < length p.bytes) made.puts some)) formed) change
tree_end_formed b now at c t (Ok made) a all formed some (inr starved) = subst (AllByRecursion IsFormedClient) (sym (ap (λ (x : Moment). x.clients) starved.1)) all
tree_end_formed b now at c t (Err why) a all formed some refused = subst (AllByRecursion IsFormedClient) (sym (ap (λ (x : Moment). x.clients) refused.1)) all

tree_formed : (m now : Moment) (at : ℕ) (c : Client) (t : OpenTransaction) (root : ℕ) (call : TreeCall) (a : Answer) → AllByRecursion IsFormedClient m.clients → AreFormed t.changes → IsTreeLine m at c t root call a now
    → AllByRecursion IsFormedClient now.clients
tree_formed m now at c t root call a all formed is =
    let leaves : LeavesCall m (outcome_of_result is.result) is.behind = call_leaves m c.session t root (operation_of call) is.result is.behind is.ends in
    tree_end_formed is.behind now at c t is.result a (subst (AllByRecursion IsFormedClient) (sym leaves.clients) all) formed (put_bytes m c.session t root (operation_of call) is.result is.behind is.ends) is.end

within_formed : (m now : Moment) (at : ℕ) (c : Client) (t : OpenTransaction) (l : Line) (a : Answer) → AllByRecursion IsFormedClient m.clients → AreFormed t.changes → IsFittingLine l → IsWithin m at c t l a now → AllByRecursion IsFormedClient now.clients
within_formed m now at c t (line.Load oid) a all formed fits is = subst (AllByRecursion IsFormedClient) (sym (ap (λ (x : Moment). x.clients) is.1.rest)) all
within_formed m now at c t (line.Get oid) a all formed fits is = get_formed m now t oid (pending_of t.changes.pending.stores oid) a all is
within_formed m now at c t (line.Store oid base bytes) a all formed fits is =
    change_formed m now at c t (stored t.changes (record { oid = oid; base = base; content = Held bytes })) a all
    (stored_formed t.changes (record { oid = oid; base = base; content = Held bytes }) (excess_with t.changes.pending.stores (record { oid = oid; base = base; content = Held bytes })) fits formed) is
within_formed m now at c t (line.Put oid bytes) a all formed fits is = putting_formed m now at c t oid bytes (pending_of t.changes.pending.stores oid) a all formed fits is
within_formed m now at c t (line.Check oid serial) a all formed fits is = change_formed m now at c t (checked t.changes (record { oid = oid; serial = serial })) a all formed is
within_formed m now at c t (line.Delete oid base) a all formed fits is = change_formed m now at c t (deleted t.changes oid base) a all (pending_formed t.changes.pending.stores (record { oid = oid; base = base; content = Absent }) formed.0 tt, formed.1) is
within_formed m now at c t line.Savepoint a all formed fits is = change_formed m now at c t (saved t.changes) a all (saved_formed t.changes formed) is
within_formed m now at c t (line.Rollback number) a all formed fits is = change_formed m now at c t (rolled_back t.changes number) a all (rolled_formed t.changes number formed) is
within_formed m now at c t (line.Tree root call) a all formed fits is = tree_formed m now at c t root call a all formed is
within_formed m now at c t _ a all formed fits is = subst (AllByRecursion IsFormedClient) (sym (ap (λ (x : Moment). x.clients) is.1)) all

outside_formed : (m now : Moment) (at : ℕ) (c : Client) (s : Standing) (a : Answer) → AllByRecursion IsFormedClient m.clients → IsOutside m at c s a now → AllByRecursion IsFormedClient now.clients
outside_formed m now at c Local a all is = subst (AllByRecursion IsFormedClient) (sym (ap (λ (x : Moment). x.clients) is.1)) all
outside_formed m now at c (Linked known) a all is =
    subst (AllByRecursion IsFormedClient) (sym (ap (λ (x : Moment). x.clients) is.1)) (set_formed m.clients at (with_transaction c (begun_far known)) all (none_formed, tt))

pub own_formed : (m now : Moment) (at : ℕ) (c : Client) (t : Option OpenTransaction) (l : Line) (a : Answer) → AllByRecursion IsFormedClient m.clients → FormedIfSome t → IsFittingLine l → IsOwnLine m at c t l a now → AllByRecursion IsFormedClient now.clients
own_formed m now at c None l a all formed fits is = outside_formed m now at c c.standing a all is
own_formed m now at c (Some t) l a all formed fits is = within_formed m now at c t l a all formed fits is

client_formed : (d : Bool) (m : Machine) (c : Client) (r : Reply) → IsFormedClient c → IsFormedClient (client_told m r (client_left d m c r))
client_formed false m c r formed = left_formed m c.transaction r formed
client_formed true m c r formed = formed

pub step_line_follows : (rules : Rules) (m now : Moment) (at : ℕ) (c : Client) (d : Bool) (q : Request) (a : Answer) → IsSoundMoment m → slice_get m.clients at ≡ Some c → IsWellFormedRequest q → IsStepLine rules m at c d q a now → FollowsLine m now
step_line_follows rules m now at c d q a sound there formed is =
    let first : Follows m.machine is.behind.machine = step_follows rules m c.session q is.reply is.behind sound.machine formed is.step in
    let second : Follows is.behind.machine is.told.machine = told_follows rules is.behind is.told c.session (fronts_behind (is_committed is.reply) c.standing) first.sound is.front in
    let clients : is.told.clients ≡ m.clients = told_clients rules is.behind is.told c.session (fronts_behind (is_committed is.reply) c.standing) is.front ∙ is.step.clients in
    record {
      machine = subst (Follows m.machine) (sym (ap (λ (x : Moment). x.machine) is.left)) (follows_twice m.machine is.behind.machine is.told.machine first second);
      formed = subst (AllByRecursion IsFormedClient) (sym (ap (λ (x : Moment). x.clients) is.left))
          (set_formed is.told.clients at (client_told is.told.machine is.reply (client_left d is.told.machine c is.reply)) (subst (AllByRecursion IsFormedClient) (sym clients) sound.formed)
          (client_formed d is.told.machine c is.reply (at_formed m.clients at c sound.formed there)));
    }

long_follows : (rules : Rules) (m now : Moment) (at : ℕ) (c : Client) (d : Bool) (q : Request) (e : Option ℕ) (a : Answer) → IsSoundMoment m → slice_get m.clients at ≡ Some c → IsWellFormedRequest q → IsStepUnless rules m at c d q e a now → FollowsLine m now
long_follows rules m now at c d q None a sound there formed is = step_line_follows rules m now at c d q a sound there formed is
long_follows rules m now at c d q (Some n) a sound there formed is = unmoved_follows m now sound is.1

taken_follows : (rules : Rules) (m now : Moment) (at : ℕ) (c : Client) (l : Line) (q : Option Request) (a : Answer) → IsSoundMoment m → slice_get m.clients at ≡ Some c → request_of c.standing (changes_of c) l ≡ q
    → IsFittingLine l → IsLineTaken rules m at c l q a now → FollowsLine m now
taken_follows rules m now at c l (Some q) a sound there asks fits is = long_follows rules m now at c (is_delivery l) q (asking_excess c.standing q) a sound there (asked_formed c.standing (changes_of c) l q (at_formed m.clients at c sound.formed there) asks) is
taken_follows rules m now at c l None a sound there asks fits is =
    same_clients m now (raised_follows m.machine now.machine sound.machine (own_raised m now at c c.transaction l a is)) (own_formed m now at c c.transaction l a sound.formed (at_formed m.clients at c sound.formed there) fits is)

pub unless_follows : (rules : Rules) (m now : Moment) (at : ℕ) (c : Client) (l : Line) (r : Option Refusal) (a : Answer) → IsSoundMoment m → slice_get m.clients at ≡ Some c → IsFittingLine l → IsLineUnless rules m at c l r a now → FollowsLine m now
unless_follows rules m now at c l (Some why) a sound there fits is = unmoved_follows m now sound is.1
unless_follows rules m now at c l None a sound there fits is = taken_follows rules m now at c l (request_of c.standing (changes_of c) l) a sound there refl fits is

line_of_follows : (rules : Rules) (m now : Moment) (at : Option ℕ) (l : Line) (a : Answer) → IsSoundMoment m → IsFittingLine l → IsLineOf rules m at l a now → FollowsLine m now
line_of_follows rules m now None l a sound fits is = unmoved_follows m now sound is.1
line_of_follows rules m now (Some at) l a sound fits is = unless_follows rules m now at is.0 l (connection_refusal m.machine is.0 l) a sound is.1 fits is.2

pub opened_moment : (m : Moment) (name : List ℕ) (s : Standing) (b : Bool) → IsSoundMoment m → FollowsLine m (opened_if b m name s).moment
opened_moment m name s true sound = record {
  machine = opened_follows m.machine sound.machine;
  formed = each_more IsFormedClient m.clients (record { name = name; session = length m.machine.sessions; transaction = None; standing = s }) sound.formed tt;
}
opened_moment m name s false sound = record { machine = follows_same m.machine sound.machine; formed = sound.formed }

opening_follows : (rules : Rules) (m now : Moment) (name : List ℕ) (a : Answer) → IsSoundMoment m → Opens rules m name a now → FollowsLine m now
opening_follows rules m now name a sound is =
    let n : ℕ = length m.machine.sessions in
    let begun : Moment = (opened m name is.standing).moment in
    let first : FollowsLine m begun = opened_moment m name is.standing (nat_lt n session_limit) sound in
    record {
      machine = follows_twice m.machine begun.machine now.machine first.machine (told_follows rules begun now n is.count first.machine.sound is.fronts);
      formed = subst (AllByRecursion IsFormedClient) (sym (told_clients rules begun now n is.count is.fronts)) first.formed;
    }

line_formed : (rules : Rules) (m now : Moment) (name : List ℕ) (l : Line) (a : Answer) → IsSoundMoment m → IsFittingLine l → IsLine rules m name l a now → FollowsLine m now
line_formed rules m now name l a sound fits is = by_name rules m now name l a (FollowsLine m now) (opening_follows rules m now name a sound) (line_of_follows rules m now (place_of_client name m.clients) l a sound fits) is

-- ---- what is known

-- a moment that a sound one led to, at which no client with a link knows what is newer than the list
pub record FollowsMoment (m now : Moment) : Type 0 where
  pub machine : Follows m.machine now.machine
  pub formed : AllByRecursion IsFormedClient now.clients
  pub known : AllKnow (front_of now.machine.list) now.clients

pub moment_follows : (m now : Moment) → IsSoundMoment m → now ≡ m → FollowsMoment m now
moment_follows m now sound is = subst (FollowsMoment m) (sym is) (record { machine = follows_same m.machine sound.machine; formed = sound.formed; known = sound.known })

pub front_up : (m now : Machine) → Follows m now → front_of m.list ≤ front_of now.list
front_up m now follows = front_come m.list now.list follows.comes

pub line_follows : (rules : Rules) (m now : Moment) (name : List ℕ) (l : Line) (a : Answer) → IsSoundMoment m → IsFittingLine l → IsLine rules m name l a now → FollowsMoment m now
line_follows rules m now name l a sound fits is =
    let line : FollowsLine m now = line_formed rules m now name l a sound fits is in
    record {
      machine = line.machine;
      formed = line.formed;
      known = go_knows (front_of m.machine.list) (front_of now.machine.list) m.clients now.clients (front_up m.machine now.machine line.machine) (line_clients rules m now name l a is) sound.known;
    }

-- ---- turns

closed_follows : (rules : Rules) (m now : Moment) (at : Option ℕ) → IsSoundMachine m.machine → IsClosed rules m at now → Follows m.machine now.machine
closed_follows rules m now None sound is = follows_as m.machine now.machine sound (ap (λ (x : Moment). x.machine) is)
closed_follows rules m now (Some at) sound is = step_follows rules m is.1.0.session request.Close is.0 now sound tt is.1.2

closing_machine : (rules : Rules) (m now : Moment) (name : List ℕ) (last : Bool) → IsSoundMachine m.machine → IsClosing rules m name last now → Follows m.machine now.machine
closing_machine rules m now name false sound is = follows_as m.machine now.machine sound (ap (λ (x : Moment). x.machine) is)
closing_machine rules m now name true sound is = closed_follows rules m now (place_of_client name m.clients) sound is

pub closing_follows : (rules : Rules) (m now : Moment) (name : List ℕ) (last : Bool) → IsSoundMoment m → IsClosing rules m name last now → FollowsMoment m now
closing_follows rules m now name last sound is =
    let machine : Follows m.machine now.machine = closing_machine rules m now name last sound.machine is in
    let clients : now.clients ≡ m.clients = closing_clients rules m now name last is in
    record {
      machine = machine;
      formed = subst (AllByRecursion IsFormedClient) (sym clients) sound.formed;
      known = subst (AllKnow (front_of now.machine.list)) (sym clients) (all_later (front_of m.machine.list) (front_of now.machine.list) m.clients (front_up m.machine now.machine machine) sound.known);
    }

pub sound_of : (m now : Moment) → FollowsMoment m now → IsSoundMoment now
sound_of m now follows = record { machine = follows.machine.sound; formed = follows.formed; known = follows.known }

pub turn_follows : (rules : Rules) (m now : Moment) (t : Turn) (last : Bool) (a : Answer) → IsSoundMoment m → IsAnswered rules m t last a now → FollowsMoment m now
turn_follows rules m now t last a sound is =
    let line : FollowsMoment m is.behind = line_follows rules m is.behind t.client t.line a sound is.fits is.line in
    let closing : FollowsMoment is.behind now = closing_follows rules is.behind now t.client last (sound_of m is.behind line) is.closing in
    record { machine = follows_twice m.machine is.behind.machine now.machine line.machine closing.machine; formed = closing.formed; known = closing.known }
