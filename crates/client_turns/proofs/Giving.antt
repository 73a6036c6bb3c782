-- What answers give: fronts of the list, and numbers behind the greatest.
use Rattle.std.proofs.Common.{Bool, Err, List, None, Ok, Option, Result, Some, [], ap, arith, cond, false, inl, inr, length, nat_lt, refl, subst, suc, sym, true, zero, ℕ, ⊎_elim, ◌+◌, ◌-◌, ◌^◌, ◌∙◌, ◌∷◌, ◌≡◌, ◌≤◌, ◌⊎◌}
use Rattle.std.specs.Prelude.{not, slice_get, slice_set}
use Rattle.std.specs.Option.{option_map, option_or}
use Rattle.std.proofs.lemmas.Bool.{cases_Bool}
use Rattle.std.proofs.lemmas.Option.{same_Some}
use Rattle.zb_ids.specs.Tids.{tid_after}
use Rattle.zb_model.specs.declared.data.Content.TheVariants.{Held}
use Rattle.zb_model.specs.declared.data.Change.{Change}
use Rattle.zb_model.specs.declared.data.Transaction.{Transaction}
use Rattle.zb_model.specs.declared.found.Found.{Found}
use Rattle.zb_model.specs.declared.found.Found.TheVariants as found
use Rattle.zb_model.specs.declared.pending.PendingStore.{PendingStore}
use Rattle.zb_model.specs.declared.refusal.Refusal.{Refusal}
use Rattle.zb_model.specs.declared.refusal.Refusal.TheVariants as refusal
use Rattle.zb_model.specs.Database.{newest_tid}
use Rattle.zb_model.specs.Queries.{found_below}
use Rattle.zb_model.specs.VotingLaws.{newest-push}
use Rattle.zb_answers.specs.declared.answer.Answer.{Answer}
use Rattle.zb_answers.specs.declared.answer.Answer.TheVariants as answer
use Rattle.zb_script.specs.declared.line.Line.{Line}
use Rattle.zb_script.specs.declared.line.Line.TheVariants as line
use Rattle.commit_phases.specs.Decision.{vote_decision}
use Rattle.commit_phases.specs.Pending.{PendingChanges, excess_with, pending_of}
use Rattle.tree_attempts.specs.declared.operation.TreeAnswer.{TreeAnswer}
use Rattle.tree_attempts.specs.declared.operation.TreeAnswer.TheVariants as answered
use Rattle.zodb_core.specs.declared.reply.Reply.{Reply}
use Rattle.zodb_core.specs.declared.reply.Reply.TheVariants as reply
use Rattle.zodb_core.specs.declared.request.Request.{Request}
use Rattle.zodb_core.specs.declared.request.Request.TheVariants as request
use Rattle.zodb_core.specs.declared.texts.Texts.{Texts}
use Rattle.zodb_core.specs.Handed.{NumberRange, front_in, numbers_in}
use Rattle.zodb_core.specs.HistoryLaws.{left_greatest, step_front, step_numbers}
use Rattle.zodb_core.specs.Machine.{Machine, MachineVote, Rules, front_of, is_open_in, session_limit}
use Rattle.zodb_core.specs.Outcomes.{EndsFor, FaultCounts, is_pack, outcome_of}
use Rattle.zodb_core.specs.StepCases.{PackCases, StepCases, by_pack_step, by_step}
use Rattle.zodb_core.specs.Steps.{Stepped, changes_in_journal, early_refusal, finish_gives, finish_step, journal_limit, loaded, refuse_if, replied, replied_refusal, request_step, step_of, transaction_with, unless_early, vote_at, vote_counted, vote_step, with_vote}
use Rattle.connection_view.specs.Connections.{waiting_read}
use Rattle.client_turns.specs.Clients.{Changes, Client, Linked, Local, Moment, OpenTransaction, Standing, changes_of, client_named, place_of_client}
use Rattle.client_turns.specs.Fronts.{begins_known, front_given, is_linked}
use Rattle.client_turns.specs.Numbers.{number_given}
use Rattle.client_turns.specs.Lines.{answer_of, answer_to, asking_excess, begin_request, client_left, client_told, data_of, is_committed, is_delivery, object_of, put, request_of, rolled_back, rolled_to, saved, standing_behind, step_answer, store_unless, stored}
use Rattle.client_turns.specs.Refusing.{connection_refusal, line_refusal, opening_in}
use Rattle.client_turns.specs.DrawLaws.{tree_answer}
use Rattle.client_turns.specs.Trees.{answer_told}
use Rattle.client_turns.specs.TurnLaws.{IsOpeningAnswer, Opens, as_opened, as_refused, far_opens, near_opens, request_cases, step_cases, told_list}
use Rattle.client_turns.specs.Views.{server_of}
use Rattle.client_turns.proofs.Standings.{KnowsFrom, named_at, named_set, same_view, told_clients}
use Rattle.connection_view.specs.Views.{View, view_of}
use Rattle.client_turns.specs.Turns.{IsGet, IsLine, IsLineOf, IsLineNamed, IsLineTaken, IsLineUnless, IsOutside, IsOwnLine, IsPut, IsStepLine, IsStepUnless, IsTold, IsWithin, fronts_behind, opened, opened_if}

-- ---- one number at a time

abbrev Single : Stepped → Type 0
Single s = (range : NumberRange) → numbers_in s.reply ≡ Some range → range.count ≡ 1

at_single : (m : Machine) (n : ℕ) (texts : Texts) (changes : List Change) (tid : ℕ) → Single (vote_at m n texts changes tid)
at_single m n texts changes tid = by_cases (nat_lt tid (2 ^ 64 - 1))
  where
    by_cases : (b : Bool) → Single (cond b (record { reply = reply.Voted; machine = with_vote m n (Some (transaction_with tid texts changes)); ticks = true }) (record { reply = reply.Refused refusal.TidsSpent; machine = m; ticks = true }))
    by_cases true = λ range e. absurd cc
    by_cases false = λ range e. absurd cc

counted_single : (m : Machine) (n : ℕ) (texts : Texts) (changes : List Change) (stamp count : ℕ) → Single (vote_counted m n texts changes stamp count)
counted_single m n texts changes stamp count = by_cases (nat_lt journal_limit count) (at_single m n texts changes (tid_after (newest_tid m.list) stamp))
  where
    by_cases : (b : Bool) → Single (vote_at m n texts changes (tid_after (newest_tid m.list) stamp))
        → Single (cond b (replied_refusal m (refusal.JournalFull count)) (vote_at m n texts changes (tid_after (newest_tid m.list) stamp)))
    by_cases true rest = λ range e. absurd cc
    by_cases false rest = rest

vote_single : (m : Machine) (n : ℕ) (texts : Texts) (stamp : ℕ) (decided : Result (List Change) Refusal) → Single (vote_step m n texts stamp decided)
vote_single m n texts stamp (Err r) = λ range e. absurd cc
vote_single m n texts stamp (Ok []) = λ range e. absurd cc
vote_single m n texts stamp (Ok (c ∷ changes)) = counted_single m n texts (c ∷ changes) stamp (changes_in_journal m.journal + length (c ∷ changes))

finish_single : (m : Machine) (n : ℕ) (vote : Option MachineVote) → Single (finish_step m n vote)
finish_single m n None = λ range e. absurd cc
finish_single m n (Some v) = by_writes v.writes
  where
    by_writes : (w : Option Transaction) → Single (finish_gives m n w)
    by_writes None = λ range e. absurd cc
    by_writes (Some t) = λ range e. absurd cc

found_single : (m : Machine) (oid : ℕ) (f : Found) (range : NumberRange) → numbers_in (loaded m oid f) ≡ Some range → range.count ≡ 1
found_single m oid (found.Held serial bytes end) range e = absurd cc
found_single m oid (found.Absent serial) range e = absurd cc
found_single m oid found.Nothing range e = absurd cc

-- a request that a line asks
abbrev AsksOne : Request → Type 0
AsksOne (request.NewOids count) = count ≡ 1
AsksOne _ = Unit {0}

new_single : (m : Machine) (count : ℕ) (range : NumberRange) → count ≡ 1 → Some (record { first = m.greatest + 1; count = count }) ≡ Some range → range.count ≡ 1
new_single m count range one e =
    let given : NumberRange = record { first = m.greatest + 1; count = count } in
    let is : given ≡ range = same_Some given range e in
    sym (ap (λ (r : NumberRange). r.count) is) ∙ one

pack_single : (named : List ℕ → Option (List ℕ)) (m : Machine) (n : ℕ) (q : Request) → PackCases Single named m n q
pack_single named m n q = record {
  refused = λ r answers range e. absurd cc;
  begun = λ t collects none below range e. absurd cc;
  marking = λ p count there range e. absurd cc;
  marked = λ p there none range e. absurd cc;
  copying = λ p k copied count there copying range e. absurd cc;
  copied = λ p k copied count there copying range e. absurd cc;
  lost = λ r answers range e. absurd cc;
  packed = λ g goal free below range e. absurd cc;
}

request_single : (rules : Rules) (m : Machine) (n : ℕ) (q : Request) (stamp : ℕ) → AsksOne q → is_pack q ≡ false → Single (request_step rules m n q stamp)
request_single rules m n (request.LoadBefore oid front) stamp one not = found_single m oid (found_below oid front m.list)
request_single rules m n (request.NewOids count) stamp one not = λ range e. new_single m count range one e
request_single rules m n (request.Vote user description extension pending) stamp one not =
    vote_single m n (record { user = user; description = description; extension = extension }) stamp (vote_decision rules.merging m.list pending)
request_single rules m n (request.Undo user description tids) stamp one not =
    vote_single m n (record { user = user; description = description; extension = [] }) stamp _
request_single rules m n request.Finish stamp one not = finish_single m n m.vote
request_single rules m n (request.Pack tid collects) stamp one not = absurd cc
request_single rules m n (request.PackBegin tid collects) stamp one not = absurd cc
request_single rules m n request.PackTurn stamp one not = absurd cc
request_single rules m n _ stamp one not = λ range e. absurd cc

unless_single : (early : Option Refusal) (m : Machine) (made : Stepped) → Single made → Single (unless_early early m made)
unless_single None m made single = single
unless_single (Some r) m made single = λ range e. absurd cc

step_single : (rules : Rules) (m : Machine) (n : ℕ) (q : Request) (stamp : ℕ) → AsksOne q → Single (step_of rules m n q stamp)
step_single rules m n q stamp one =
    ⊎_elim (λ (pack : is_pack q ≡ true). by_pack_step Single rules m n q stamp pack (pack_single rules.named m n q))
    (λ (not : is_pack q ≡ false). unless_single (early_refusal m n q) m (request_step rules m n q stamp) (request_single rules m n q stamp one not))
    (cases_Bool (is_pack q))

-- ---- steps

-- what an answer gives: a front of which this holds, and the number behind the greatest
pub record Gives (F : ℕ → Type 0) (m now : Machine) (a : Answer) : Type 0 where
  pub front : (f : ℕ) → front_given a ≡ Some f → F f
  pub number : (n : ℕ) → number_given a ≡ Some n → (n ≡ m.greatest + 1) × (n ≤ now.greatest)

abbrev MadeFor : Rules → Machine → ℕ → Request → ℕ → Reply → Machine → Bool → FaultCounts → FaultCounts → Type 0
MadeFor rules m n q stamp r left ticks a b = EndsFor rules m n q stamp (record { reply = r; machine = left; ticks = ticks }) a b (outcome_of r)

-- the front behind a commit
abbrev IsFrontBehind : Stepped → Type 0
IsFrontBehind s = (tid : ℕ) → s.reply ≡ reply.Committed tid → front_of s.machine.list ≡ tid + 1

commit_cases : (m : Machine) (n : ℕ) (q : Request) → StepCases IsFrontBehind m n q
commit_cases m n q = record {
  refused = λ r answers tid is. absurd cc;
  full = λ count tid is. absurd cc;
  spent = λ tid is. absurd cc;
  told = λ tid is. absurd cc;
  found = λ oid f. loaded_none oid f;
  numbers = λ count tid is. absurd cc;
  nothing = λ tid is. absurd cc;
  written = λ texts changes tid each later bounded t is. absurd cc;
  emptied = λ tid is. absurd cc;
  committed = λ v t is writes tid same. ap (λ (k : ℕ). k + 1) (newest-push m.list t ∙ same_tid t.tid tid same);
  dropped = λ tid is. absurd cc;
  listed = λ revisions tid is. absurd cc;
  logged = λ lines tid is. absurd cc;
  begun = λ is t collects none below tid same. absurd cc;
  marking = λ is p count there tid same. absurd cc;
  marked = λ is p keep there tid same. absurd cc;
  copying = λ is p k copied count there copying tid same. absurd cc;
  copied = λ is p k copied count there copying tid same. absurd cc;
  lost = λ is r answers tid same. absurd cc;
  packed = λ is t keep free below tid same. absurd cc;
  last = λ tid is. absurd cc;
  since = λ told changes tid is. absurd cc;
  closed = λ tid is. absurd cc;
}
  where
    same_tid : (a b : ℕ) → reply.Committed a ≡ reply.Committed b → a ≡ b
    same_tid a b e = cc

    loaded_none : (oid : ℕ) (f : Found) → IsFrontBehind (replied m (loaded m oid f))
    loaded_none oid (found.Held serial bytes end) tid is = absurd cc
    loaded_none oid (found.Absent serial) tid is = absurd cc
    loaded_none oid found.Nothing tid is = absurd cc

-- the front that a reply gives is that of the list before the step, or, behind a commit, that of the list behind it
reply_front : (rules : Rules) (m : Machine) (n : ℕ) (q : Request) (stamp : ℕ) (r : Reply) (left : Machine) (ticks : Bool) (a b : FaultCounts) (f : ℕ) → MadeFor rules m n q stamp r left ticks a b
    → front_given (answer_of r) ≡ Some f → (f ≡ front_of m.list) ⊎ (f ≡ front_of left.list)
reply_front rules m n q stamp (reply.Front front news switches) left ticks a b f made is = inl (step_front rules m n q stamp f (sym (ap (λ (s : Stepped). front_in s.reply) made) ∙ is))
reply_front rules m n q stamp (reply.Committed tid) left ticks a b f made is =
    let behind : front_of (step_of rules m n q stamp).machine.list ≡ tid + 1 = by_step IsFrontBehind rules m n q stamp (commit_cases m n q) tid (sym (ap (λ (s : Stepped). s.reply) made)) in
    inr (given_is (tid + 1) f is ∙ (sym behind ∙ ap (λ (s : Stepped). front_of s.machine.list) (sym made)))
  where
    given_is : (x y : ℕ) → Some x ≡ Some y → y ≡ x
    given_is x y e = cc
reply_front rules m n q stamp _ left ticks a b f made is = absurd cc

pub oids_given : (rules : Rules) (m : Machine) (n : ℕ) (q : Request) (stamp : ℕ) (first count : ℕ) (left : Machine) (ticks : Bool) (x : ℕ) → AsksOne q
    → record { reply = reply.Oids first count; machine = left; ticks = ticks } ≡ step_of rules m n q stamp → Some first ≡ Some x → (x ≡ m.greatest + 1) × (x ≤ left.greatest)
oids_given rules m n q stamp first count left ticks x one made is =
    let range : NumberRange = record { first = first; count = count } in
    let said : numbers_in (step_of rules m n q stamp).reply ≡ Some range = sym (ap (λ (s : Stepped). numbers_in s.reply) made) in
    let both : (first ≡ m.greatest + 1) × ((step_of rules m n q stamp).machine.greatest + 1 ≡ first + count) = step_numbers rules m n q stamp range said in
    let single : count ≡ 1 = step_single rules m n q stamp one range said in
    let same : first ≡ x = same_Some first x is in
    (omega (arith, both.0, same), omega (arith, both.1, single, same, ap (λ (s : Stepped). s.machine.greatest) made))

reply_number : (rules : Rules) (m : Machine) (n : ℕ) (q : Request) (stamp : ℕ) (r : Reply) (left : Machine) (ticks : Bool) (a b : FaultCounts) (x : ℕ) → AsksOne q → MadeFor rules m n q stamp r left ticks a b
    → number_given (answer_of r) ≡ Some x → (x ≡ m.greatest + 1) × (x ≤ left.greatest)
reply_number rules m n q stamp (reply.Oids first count) left ticks a b x one made is = oids_given rules m n q stamp first count left ticks x one made is
reply_number rules m n q stamp _ left ticks a b x one made is = absurd cc

-- a delivery gives the same
delivered_front : (d : Bool) (r : Reply) → front_given (answer_to d r) ≡ front_given (answer_of r)
delivered_front false r = refl
delivered_front true (reply.Front front news switches) = refl
delivered_front true _ = refl

delivered_number : (d : Bool) (r : Reply) → number_given (answer_to d r) ≡ number_given (answer_of r)
delivered_number false r = refl
delivered_number true (reply.Front front news switches) = refl
delivered_number true _ = refl

-- and one that is too long gives nothing
told_front : (s : Standing) (d : Bool) (r : Reply) (f : ℕ) → front_given (step_answer s d r) ≡ Some f → front_given (answer_of r) ≡ Some f
told_front s d r f = step_cases (λ a. front_given a ≡ Some f → front_given (answer_of r) ≡ Some f) s d r (λ n long is. absurd cc) (λ is. sym (delivered_front d r) ∙ is)

told_number : (s : Standing) (d : Bool) (r : Reply) (x : ℕ) → number_given (step_answer s d r) ≡ Some x → number_given (answer_of r) ≡ Some x
told_number s d r x = step_cases (λ a. number_given a ≡ Some x → number_given (answer_of r) ≡ Some x) s d r (λ n long is. absurd cc) (λ is. sym (delivered_number d r) ∙ is)

-- ---- lines that are no step

module _ (F : ℕ → Type 0) where
  quiet : (m now : Machine) (a : Answer) → front_given a ≡ None → number_given a ≡ None → Gives F m now a
  quiet m now a front number = record { front = λ f is. absurd cc; number = λ n is. absurd cc }

  refused_gives : (m now : Machine) (a : Answer) (why : Refusal) → a ≡ answer.Refused why → Gives F m now a
  refused_gives m now a why is = quiet m now a (ap front_given is) (ap number_given is)

  store_quiet : (m now : Machine) (t : Changes) (p : PendingStore) (o : Option ℕ) → Gives F m now (store_unless t p o).answer
  store_quiet m now t p None = quiet m now answer.Stored refl refl
  store_quiet m now t p (Some n) = quiet m now (answer.Refused (refusal.TooLong n)) refl refl

  as_quiet : (m now : Machine) (a b : Answer) → a ≡ b → Gives F m now b → Gives F m now a
  as_quiet m now a b is gives = subst (Gives F m now) (sym is) gives

  data_quiet : (m now : Machine) (r : Result (ℕ × List ℕ) Refusal) → Gives F m now (data_of r)
  data_quiet m now (Ok got) = quiet m now (answer.Data got.0 got.1) refl refl
  data_quiet m now (Err why) = quiet m now (answer.Refused why) refl refl

  object_quiet : (m now : Machine) (r : Result (ℕ × List ℕ) Refusal) → Gives F m now (object_of r)
  object_quiet m now (Ok got) = quiet m now (answer.Object got.0 got.1) refl refl
  object_quiet m now (Err why) = quiet m now (answer.Refused why) refl refl

  get_gives : (m now : Moment) (v : OpenTransaction) (oid : ℕ) (o : Option PendingStore) (a : Answer) → IsGet m v oid o a now → Gives F m.machine now.machine a
  get_gives m now v oid None a is = as_quiet m.machine now.machine a (object_of is.0) is.2 (object_quiet m.machine now.machine is.0)
  get_gives m now v oid (Some p) a is = as_quiet m.machine now.machine a (object_of (waiting_read oid p)) is.0 (object_quiet m.machine now.machine (waiting_read oid p))

  put_quiet : (m now : Machine) (t : Changes) (oid : ℕ) (bytes : List ℕ) (read : Result (ℕ × List ℕ) Refusal) → Gives F m now (put t oid bytes read).answer
  put_quiet m now t oid bytes (Ok got) = store_quiet m now t (record { oid = oid; base = got.0; content = Held bytes }) (excess_with t.pending.stores (record { oid = oid; base = got.0; content = Held bytes }))
  put_quiet m now t oid bytes (Err (refusal.Missing a0 false)) = store_quiet m now t (record { oid = oid; base = 0; content = Held bytes }) (excess_with t.pending.stores (record { oid = oid; base = 0; content = Held bytes }))
  put_quiet m now t oid bytes (Err w) = refused_gives m now (answer.Refused w) w refl

  put_gives : (m now : Moment) (at : ℕ) (c : Client) (t : OpenTransaction) (oid : ℕ) (bytes : List ℕ) (o : Option PendingStore) (a : Answer) → IsPut m at c t oid bytes o a now → Gives F m.machine now.machine a
  put_gives m now at c t oid bytes None a is = as_quiet m.machine now.machine a (put t.changes oid bytes is.0).answer is.3.0 (put_quiet m.machine now.machine t.changes oid bytes is.0)
  put_gives m now at c t oid bytes (Some p) a is =
      as_quiet m.machine now.machine a (stored t.changes (record { oid = oid; base = p.base; content = Held bytes })).answer is.0
      (store_quiet m.machine now.machine t.changes (record { oid = oid; base = p.base; content = Held bytes }) (excess_with t.changes.pending.stores (record { oid = oid; base = p.base; content = Held bytes })))

  rolled_quiet : (m now : Machine) (t : Changes) (number : ℕ) (o : Option PendingChanges) → Gives F m now (rolled_to t number o).answer
  rolled_quiet m now t number None = refused_gives m now (answer.Refused (refusal.NoSavepoint number)) (refusal.NoSavepoint number) refl
  rolled_quiet m now t number (Some pending) = quiet m now (answer.Rolled number) refl refl

  tree_quiet : (m now : Machine) (x : TreeAnswer) → Gives F m now (answer_told x)
  tree_quiet m now (answered.Value None) = quiet m now answer.Absent refl refl
  tree_quiet m now (answered.Value (Some value)) = quiet m now (answer.Found value) refl refl
  tree_quiet m now answered.Set = quiet m now answer.Done refl refl
  tree_quiet m now (answered.Removed true) = quiet m now answer.Done refl refl
  tree_quiet m now (answered.Removed false) = quiet m now answer.Absent refl refl
  tree_quiet m now (answered.Items list is_set) = quiet m now (answer.Items list is_set) refl refl

  within_gives : (m now : Moment) (at : ℕ) (c : Client) (t : OpenTransaction) (l : Line) (a : Answer) → IsWithin m at c t l a now → Gives F m.machine now.machine a
  within_gives m now at c t (line.Load oid) a is = as_quiet m.machine now.machine a (data_of is.0) is.2 (data_quiet m.machine now.machine is.0)
  within_gives m now at c t (line.Get oid) a is = get_gives m now t oid (pending_of t.changes.pending.stores oid) a is
  within_gives m now at c t (line.Store oid base bytes) a is =
      as_quiet m.machine now.machine a (stored t.changes (record { oid = oid; base = base; content = Held bytes })).answer is.0
      (store_quiet m.machine now.machine t.changes (record { oid = oid; base = base; content = Held bytes }) (excess_with t.changes.pending.stores (record { oid = oid; base = base; content = Held bytes })))
  within_gives m now at c t (line.Put oid bytes) a is = put_gives m now at c t oid bytes (pending_of t.changes.pending.stores oid) a is
  within_gives m now at c t (line.Check oid serial) a is = as_quiet m.machine now.machine a answer.Checked is.0 (quiet m.machine now.machine answer.Checked refl refl)
  within_gives m now at c t (line.Delete oid base) a is = as_quiet m.machine now.machine a answer.Deleted is.0 (quiet m.machine now.machine answer.Deleted refl refl)
  within_gives m now at c t line.Savepoint a is = as_quiet m.machine now.machine a (saved t.changes).answer is.0 (quiet m.machine now.machine (saved t.changes).answer refl refl)
  within_gives m now at c t (line.Rollback number) a is =
      as_quiet m.machine now.machine a (rolled_back t.changes number).answer is.0 (rolled_quiet m.machine now.machine t.changes number (slice_get t.changes.savepoints number))
  within_gives m now at c t (line.Tree root call) a is =
      tree_answer (Gives F m.machine now.machine) m at c t root call a now (tree_quiet m.machine now.machine) (λ why. refused_gives m.machine now.machine (answer.Refused why) why refl) is
  within_gives m now at c t _ a is = refused_gives m.machine now.machine a refusal.NoTransaction is.0

-- ---- what a client knows

abbrev pub StandsAs : ℕ → Standing → Type 0
StandsAs f Local = ⊥
StandsAs f (Linked known) = f ≡ known.front

-- what the client knows behind its link has this front
abbrev pub KnowsAs : ℕ → Option Client → Type 0
KnowsAs f None = ⊥
KnowsAs f (Some c) = StandsAs f c.standing

-- A front that a line of a client gives: what the client knew, where it begins with that; else it isn't below the list's front before the line, and not above the one
-- behind it, and what the client then knows isn't below it.
pub record IsFrontOf (m now : Moment) (name : List ℕ) (l : Line) (f : ℕ) : Type 0 where
  pub known : begins_known (client_named name m.clients) l ≡ true → KnowsAs f (client_named name m.clients)
  pub low : begins_known (client_named name m.clients) l ≡ false → front_of m.machine.list ≤ f
  pub high : begins_known (client_named name m.clients) l ≡ false → f ≤ front_of now.machine.list
  pub told : begins_known (client_named name m.clients) l ≡ false → KnowsFrom f (client_named name now.clients)

-- ---- lines

-- the request of a line asks for one number at most
asks_one : (s : Standing) (ch : Option Changes) (l : Line) (q : Request) → request_of s ch l ≡ Some q → AsksOne q
asks_one s ch l q is = request_cases AsksOne s ch l q tt refl (λ user description. tt) (λ user description tids. tt) tt tt (λ oid. tt) tt (λ tid collect. tt) (λ tid collect. tt) tt tt is

told_up : (rules : Rules) (b t : Moment) (n count : ℕ) → IsTold rules count b n t → b.machine.greatest ≤ t.machine.greatest
told_up rules b t n zero told = omega (arith, ap (λ (x : Moment). x.machine.greatest) told)
told_up rules b t n (suc count) (r, next, step, rest) =
    omega (arith, told_up rules next t n count rest, ap (λ (x : Machine). x.greatest) step.made.left, left_greatest rules b.machine n request.Front step.stamp (outcome_of r))

-- what a client knows behind a front, or behind a commit, is the list as it stands
knows_behind : (m : Machine) (c d : Client) (r : Reply) (f : ℕ) → front_given (answer_of r) ≡ Some f → d.standing ≡ standing_behind m c.standing r → f ≤ front_of m.list → KnowsFrom f (Some d)
knows_behind m c d (reply.Front front news switches) f given is up v linked = by_standing c.standing (sym is ∙ linked)
  where
    by_standing : (s : Standing) → standing_behind m s (reply.Front front news switches) ≡ Linked v → f ≤ v.front
    by_standing Local e = absurd cc
    by_standing (Linked known) e = omega (arith, up, ap (λ (x : View). x.front) (same_view (view_of (server_of m)) v e))
knows_behind m c d (reply.Committed tid) f given is up v linked = by_standing c.standing (sym is ∙ linked)
  where
    by_standing : (s : Standing) → standing_behind m s (reply.Committed tid) ≡ Linked v → f ≤ v.front
    by_standing Local e = absurd cc
    by_standing (Linked known) e = omega (arith, up, ap (λ (x : View). x.front) (same_view (view_of (server_of m)) v e))
knows_behind m c d _ f given is up v linked = absurd cc

-- the client that a step leaves
left_name : (d : Bool) (m : Machine) (c : Client) (r : Reply) → (client_told m r (client_left d m c r)).name ≡ c.name
left_name false m c r = refl
left_name true m c r = refl

left_stands : (d : Bool) (m : Machine) (c : Client) (r : Reply) → (client_told m r (client_left d m c r)).standing ≡ standing_behind m c.standing r
left_stands false m c r = refl
left_stands true m c r = refl

-- a step begins no transaction with what was known
step_begins : (c : Client) (l : Line) (q : Request) → request_of c.standing (changes_of c) l ≡ Some q → begins_known (Some c) l ≡ false
step_begins c line.Begin q asks = by_standing c.standing asks
  where
    by_standing : (s : Standing) → begin_request s ≡ Some q → is_linked s ≡ false
    by_standing Local is = refl
    by_standing (Linked known) is = absurd cc
step_begins c _ q asks = refl

-- and a client with a link asks for no step, and for no transaction, by its begin alone
outside_begins : (b : Bool) (l : Line) (known : View) → opening_in l ≡ None → request_of (Linked known) None l ≡ None → option_or (refuse_if (not b) refusal.NotOpen) (line_refusal None l) ≡ None → (c : Client) → c.standing ≡ Linked known → begins_known (Some c) l ≡ true
outside_begins true line.Begin known opens asks passes c is = ap is_linked is
outside_begins true (line.Open remote) known opens asks passes c is = absurd cc
outside_begins true _ known opens asks passes c is = absurd cc
outside_begins false line.Begin known opens asks passes c is = absurd cc
outside_begins false (line.Open remote) known opens asks passes c is = absurd cc
outside_begins false _ known opens asks passes c is = absurd cc

never_both : (b : Bool) → b ≡ true → b ≡ false → ⊥
never_both true t f = absurd cc
never_both false t f = absurd cc

module _ (rules : Rules) (m now : Moment) (name : List ℕ) (l : Line) (a : Answer) (up : front_of m.machine.list ≤ front_of now.machine.list) where
  abbrev IsFront : ℕ → Type 0
  IsFront f = IsFrontOf m now name l f

  abbrev GivesHere : Type 0
  GivesHere = Gives IsFront m.machine now.machine a

  -- a front of the list, before the line or behind it
  front_here : (at : ℕ) (c : Client) (q : Request) (d : Bool) (r : Reply) (told : Machine) (f : ℕ) → place_of_client name m.clients ≡ Some at → slice_get m.clients at ≡ Some c → request_of c.standing (changes_of c) l ≡ Some q
      → now.machine ≡ told → now.clients ≡ slice_set m.clients at (client_told told r (client_left d told c r)) → front_given (answer_of r) ≡ Some f → (f ≡ front_of m.machine.list) ⊎ (f ≡ front_of now.machine.list) → IsFront f
  front_here at c q d r told f place there asks machine clients given is =
      let before : client_named name m.clients ≡ Some c = named_at name m.clients at c place there in
      let left : Client = client_told told r (client_left d told c r) in
      let unknown : begins_known (client_named name m.clients) l ≡ false = ap (λ (o : Option Client). begins_known o l) before ∙ step_begins c l q asks in
      let behind : client_named name now.clients ≡ Some left = ap (client_named name) clients ∙ named_set name m.clients at c left place there (left_name d told c r) in
      record {
        known = λ known. absurd (never_both (begins_known (client_named name m.clients) l) known unknown);
        low = λ _. low is;
        high = λ _. high is;
        told = λ _. subst (KnowsFrom f) (sym behind) (knows_behind told c left r f given (left_stands d told c r) (subst (λ (x : Machine). f ≤ front_of x.list) machine (high is)));
      }
    where
      low : (f ≡ front_of m.machine.list) ⊎ (f ≡ front_of now.machine.list) → front_of m.machine.list ≤ f
      low (inl same) = omega (arith, same)
      low (inr same) = omega (arith, same, up)

      high : (f ≡ front_of m.machine.list) ⊎ (f ≡ front_of now.machine.list) → f ≤ front_of now.machine.list
      high (inl same) = omega (arith, same, up)
      high (inr same) = omega (arith, same)

  -- the told steps behind a commit don't lower the greatest number
  step_line_gives : (at : ℕ) (c : Client) (d : Bool) (q : Request) → AsksOne q → place_of_client name m.clients ≡ Some at → slice_get m.clients at ≡ Some c → request_of c.standing (changes_of c) l ≡ Some q → IsStepLine rules m at c d q a now → GivesHere
  step_line_gives at c d q one place there asks is =
      let count : ℕ = fronts_behind (is_committed is.reply) c.standing in
      let machine : now.machine ≡ is.told.machine = ap (λ (x : Moment). x.machine) is.left in
      let list : now.machine.list ≡ is.behind.machine.list = ap (λ (x : Machine). x.list) machine ∙ told_list rules is.behind is.told c.session count is.front in
      let left : Client = client_told is.told.machine is.reply (client_left d is.told.machine c is.reply) in
      let clients : now.clients ≡ slice_set m.clients at left =
      ap (λ (x : Moment). x.clients) is.left ∙ ap (λ (cs : List Client). slice_set cs at left) (told_clients rules is.behind is.told c.session count is.front ∙ is.step.clients) in
      record {
        front = λ f given.
            let told : front_given (answer_of is.reply) ≡ Some f = told_front c.standing d is.reply f (sym (ap front_given is.answer) ∙ given) in
            front_here at c q d is.reply is.told.machine f place there asks machine clients told
            (by_list f list (reply_front rules m.machine c.session q is.step.stamp is.reply is.behind.machine is.step.ticks m.counts is.behind.counts f is.step.made.cause told));
        number = λ n given.
            let both : (n ≡ m.machine.greatest + 1) × (n ≤ is.behind.machine.greatest) =
            reply_number rules m.machine c.session q is.step.stamp is.reply is.behind.machine is.step.ticks m.counts is.behind.counts n one is.step.made.cause (told_number c.standing d is.reply n (sym (ap number_given is.answer) ∙ given)) in
            (both.0, omega (arith, both.1, told_up rules is.behind is.told c.session count is.front, ap (λ (x : Machine). x.greatest) machine));
      }
    where
      by_list : (f : ℕ) {behind : List Transaction} → now.machine.list ≡ behind → (f ≡ front_of m.machine.list) ⊎ (f ≡ front_of behind) → (f ≡ front_of m.machine.list) ⊎ (f ≡ front_of now.machine.list)
      by_list f same (inl is) = inl is
      by_list f same (inr is) = inr (is ∙ ap front_of (sym same))

  long_gives : (at : ℕ) (c : Client) (d : Bool) (q : Request) (e : Option ℕ) → AsksOne q → place_of_client name m.clients ≡ Some at → slice_get m.clients at ≡ Some c → request_of c.standing (changes_of c) l ≡ Some q → IsStepUnless rules m at c d q e a now → GivesHere
  long_gives at c d q None one place there asks is = step_line_gives at c d q one place there asks is
  long_gives at c d q (Some n) one place there asks is = refused_gives IsFront m.machine now.machine a (refusal.TooLong n) is.0

  outside_gives : (at : ℕ) (c : Client) (s : Standing) → c.standing ≡ s → place_of_client name m.clients ≡ Some at → slice_get m.clients at ≡ Some c → opening_in l ≡ None → request_of s None l ≡ None
      → option_or (refuse_if (not (is_open_in m.machine.sessions c.session)) refusal.NotOpen) (line_refusal None l) ≡ None → IsOutside m at c s a now → GivesHere
  outside_gives at c Local stands place there opens asks passes is = refused_gives IsFront m.machine now.machine a refusal.NoTransaction is.0
  outside_gives at c (Linked known) stands place there opens asks passes is =
      let before : client_named name m.clients ≡ Some c = named_at name m.clients at c place there in
      let begins : begins_known (client_named name m.clients) l ≡ true = ap (λ (o : Option Client). begins_known o l) before ∙ outside_begins (is_open_in m.machine.sessions c.session) l known opens asks passes c stands in
      record {
        front = λ f given.
            let same : f ≡ known.front = front_is known.front f (sym (ap front_given is.0) ∙ given) in
            record {
              known = λ _. subst (KnowsAs f) (sym before) (subst (StandsAs f) (sym stands) same);
              low = λ unknown. absurd (never_both (begins_known (client_named name m.clients) l) begins unknown);
              high = λ unknown. absurd (never_both (begins_known (client_named name m.clients) l) begins unknown);
              told = λ unknown. absurd (never_both (begins_known (client_named name m.clients) l) begins unknown);
            };
        number = λ n given. absurd (no_number n known.front (sym (ap number_given is.0) ∙ given));
      }
    where
      front_is : (x y : ℕ) → Some x ≡ Some y → y ≡ x
      front_is x y e = cc

      no_number : (n front : ℕ) → number_given (answer.Begun front) ≡ Some n → ⊥
      no_number n front e = absurd cc

  own_gives : (at : ℕ) (c : Client) (t : Option OpenTransaction) → c.transaction ≡ t → place_of_client name m.clients ≡ Some at → slice_get m.clients at ≡ Some c → opening_in l ≡ None → request_of c.standing (option_map (λ (x : OpenTransaction). x.changes) t) l ≡ None
      → option_or (refuse_if (not (is_open_in m.machine.sessions c.session)) refusal.NotOpen) (line_refusal (option_map (λ (x : OpenTransaction). x.changes) t) l) ≡ None → IsOwnLine m at c t l a now → GivesHere
  own_gives at c None begun place there opens asks passes is = outside_gives at c c.standing refl place there opens asks passes is
  own_gives at c (Some t) begun place there opens asks passes is = within_gives IsFront m now at c t l a is

  taken_gives : (at : ℕ) (c : Client) (q : Option Request) → place_of_client name m.clients ≡ Some at → slice_get m.clients at ≡ Some c → opening_in l ≡ None → request_of c.standing (changes_of c) l ≡ q → connection_refusal m.machine c l ≡ None
      → IsLineTaken rules m at c l q a now → GivesHere
  taken_gives at c (Some q) place there opens asks passes is = long_gives at c (is_delivery l) q (asking_excess c.standing q) (asks_one c.standing (changes_of c) l q asks) place there asks is
  taken_gives at c None place there opens asks passes is = own_gives at c c.transaction refl place there opens asks passes is

  unless_gives : (at : ℕ) (c : Client) (r : Option Refusal) → place_of_client name m.clients ≡ Some at → slice_get m.clients at ≡ Some c → opening_in l ≡ None → connection_refusal m.machine c l ≡ r → IsLineUnless rules m at c l r a now → GivesHere
  unless_gives at c (Some why) place there opens passes is = refused_gives IsFront m.machine now.machine a why is.0
  unless_gives at c None place there opens passes is = taken_gives at c (request_of c.standing (changes_of c) l) place there opens refl passes is

  line_of_gives : (at : Option ℕ) → place_of_client name m.clients ≡ at → opening_in l ≡ None → IsLineOf rules m at l a now → GivesHere
  line_of_gives None place opens is = refused_gives IsFront m.machine now.machine a refusal.NotOpen is.0
  line_of_gives (Some at) place opens is = unless_gives at is.0 (connection_refusal m.machine is.0 l) place is.1 opens refl is.2

  opened_gives : (s : Standing) (b : Bool) → Gives IsFront m.machine now.machine (opened_if b m name s).answer
  opened_gives s true = quiet IsFront m.machine now.machine (answer.Opened (length m.machine.sessions)) refl refl
  opened_gives s false = quiet IsFront m.machine now.machine (answer.Refused (refusal.TooManySessions (length m.machine.sessions))) refl refl

  opening_gives : Opens rules m name a now → GivesHere
  opening_gives is = by_answer is.answer
    where
      by_answer : IsOpeningAnswer rules (opened m name is.standing) (length m.machine.sessions) a now → GivesHere
      by_answer (as_opened same) = subst (Gives IsFront m.machine now.machine) (sym same) (opened_gives is.standing (nat_lt (length m.machine.sessions) session_limit))
      by_answer (as_refused why same refused) = refused_gives IsFront m.machine now.machine a why same

  named_gives : (o : Option Bool) → opening_in l ≡ o → IsLineNamed o rules m name l a now → GivesHere
  named_gives (Some false) opens is = opening_gives (near_opens rules m name a now is)
  named_gives (Some true) opens is = opening_gives (far_opens rules m name (nat_lt (length m.machine.sessions) session_limit) a now is)
  named_gives None opens is = line_of_gives (place_of_client name m.clients) refl opens is

  pub line_gives : IsLine rules m name l a now → GivesHere
  line_gives is = named_gives (opening_in l) refl is
