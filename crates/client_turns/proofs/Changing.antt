-- What lines change that waits in a client's transaction.
use Rattle.std.proofs.Common.{◌≡◌, ◌⊎◌, ℕ, Bool, true, false, List, ◌∷◌, Option, Some, None, Result, Ok, Err, if◌then◌else◌, refl, sym, ap, subst, ◌∙◌, inl, inr}
use Rattle.std.specs.Prelude.{IsOk, slice_get}
use Rattle.std.specs.Option.{option_map}
use Rattle.zb_ids.specs.declared.stamp.Stamp.{Stamp}
use Rattle.zb_model.specs.declared.data.Content.TheVariants.{Held}
use Rattle.zb_model.specs.declared.pending.PendingCheck.{PendingCheck}
use Rattle.zb_model.specs.declared.pending.PendingStore.{PendingStore}
use Rattle.zb_model.specs.declared.refusal.Refusal.{Refusal}
use Rattle.zb_model.specs.declared.refusal.Refusal.TheVariants as refusal
use Rattle.zb_answers.specs.declared.answer.Answer.{Answer}
use Rattle.zb_answers.specs.declared.answer.Answer.TheVariants as answer
use Rattle.zb_script.specs.declared.line.Line.{Line}
use Rattle.zb_script.specs.declared.line.Line.TheVariants as line
use Rattle.commit_phases.specs.Pending.{PendingChanges, excess_with, stores_after}
use Rattle.zodb_core.specs.HubState.{HubState}
use Rattle.zodb_core.specs.Machine.{Rules}
use Rattle.zodb_core.specs.Steps.{refuse_if}
use Rattle.connection_view.specs.declared.connection.Connection.{Connection}
use Rattle.connection_view.specs.Works.{Work}
use Rattle.connection_view.specs.Connections.{Between, InView, LeavesWork, base_read, changeable, checked_in_work, deleted_in_work, followed_by, rolled_back_to, rolled_back, saved, stored_all, stored_all_as, stored_in_work, stored_unless, work_of}
use Rattle.connection_view.specs.Views.{View}
use Rattle.connection_view.specs.Views as views
use Rattle.local_loads.specs.Local.{MayBeTold}
use Rattle.client_turns.specs.declared.client.Client.{Client}
use Rattle.client_turns.specs.Asking.{IsPutAll, IsPutAs, IsSameBut, answered}
use Rattle.client_turns.specs.Clients.{Changes, Moment, OpenTransaction, changes_of, with_client}
use Rattle.client_turns.specs.Clients as seen
use Rattle.client_turns.specs.Lines as lines
use Rattle.client_turns.specs.Lines.{Changed, request_of, with_changes}
use Rattle.client_turns.specs.Refusing.{line_refusal}
use Rattle.client_turns.specs.Standing.{IsClientOf, IsLineOpen, IsOpenAs, IsWorkOf, MayTakeAt, OneLeadsTo, changes_kept, with_kept}
use Rattle.client_turns.specs.Steps.{IsChange}
use Rattle.client_turns.specs.Trees.{all_stored, puts_stored}
use Rattle.client_turns.specs.Turns.{IsWithin}
use Rattle.client_turns.proofs.Asked.{IsOpened, none_of, opened_of}
use Rattle.client_turns.proofs.One.{changes_to, client_kept, own_open, refused_open, starved_open, stays}

-- ---- what a connection makes of a transaction, and what a line does

-- they agree: the transaction becomes the one with the line's changes, or both refuse, and it stays
abbrev pub AgreesAs : Work → Result Work Refusal → Changed → Type 0
AgreesAs w (Ok v) changed = v ≡ with_kept w changed.changes
AgreesAs w (Err r) changed = (changed.answer ≡ answer.Refused r) × (changed.changes ≡ changes_kept w)

stored_so : (w : Work) (p : PendingStore) (e : Option ℕ) → AgreesAs w (stored_unless w p e) (lines.store_unless (changes_kept w) p e)
stored_so w p None = refl
stored_so w p (Some n) = (refl, refl)

pub stored_agrees : (p : PendingStore) (w : Work) → AgreesAs w (stored_in_work p w) (lines.stored (changes_kept w) p)
stored_agrees p w = stored_so w p (excess_with w.pending.stores p)

pub deleted_agrees : (oid base : ℕ) (w : Work) → AgreesAs w (deleted_in_work oid base w) (lines.deleted (changes_kept w) oid base)
deleted_agrees oid base w = refl

pub checked_agrees : (k : PendingCheck) (w : Work) → AgreesAs w (checked_in_work k w) (lines.checked (changes_kept w) k)
checked_agrees k w = refl

pub saved_agrees : (w : Work) → AgreesAs w (saved w) (lines.saved (changes_kept w))
saved_agrees w = refl

rolled_so : (w : Work) (number : ℕ) (o : Option PendingChanges) → AgreesAs w (rolled_back_to w number o) (lines.rolled_to (changes_kept w) number o)
rolled_so w number None = (refl, refl)
rolled_so w number (Some pending) = refl

pub rolled_agrees : (number : ℕ) (w : Work) → AgreesAs w (rolled_back number w) (lines.rolled_back (changes_kept w) number)
rolled_agrees number w = rolled_so w number (slice_get w.savepoints number)

-- ---- a line that changes what waits

-- a line of an open transaction that isn't voted, and no step
pub record TakesUnvoted (l : Line) : Type 0 where
  pub closed : line_refusal None l ≡ Some refusal.NoTransaction
  pub voted : (t : Changes) → line_refusal (Some t) l ≡ refuse_if t.is_voted refusal.Voted
  pub asks : (s : seen.Standing) (t : Changes) → request_of s (Some t) l ≡ None

-- which makes this change
pub record IsChanging (l : Line) (change : Changes → Changed) : Type 0 where
  pub unvoted : TakesUnvoted l
  pub within : (m : Moment) (at : ℕ) (c : seen.Client) (t : OpenTransaction) (a : Answer) (now : Moment) → IsChange m at c t (change t.changes) a now → IsWithin m at c t l a now

module _ {R F : Type 0} (rules : Rules) (m : Moment) (at : ℕ) (x y : Client) (c : seen.Client) (h g : HubState R F) (before after : Option (List Stamp)) (takes : MayTakeAt h before m at x c) (same : g ≡ h) (ticks : after ≡ before) (but : IsSameBut x y) (view : (u : View) → InView x.connection u takes.stands.client.told → InView y.connection u takes.stands.client.told) (between : Between x.connection takes.stands.client.told → Between y.connection takes.stands.client.told) where
  abbrev pub mine : IsClientOf h x c
  mine = takes.stands.client

  kept : work_of y.connection ≡ work_of x.connection → IsClientOf h y c
  kept work = client_kept h h x y c mine but mine.may work view between

  -- the client with its transaction changed
  changed : (t : OpenTransaction) (ch : Changes) (w : Work) → t.framed ≡ false → InView x.connection t.view mine.told → work_of y.connection ≡ Ok w → ch ≡ changes_kept w → IsClientOf h y (with_changes c t ch)
  changed t ch w near sees works is = record {
    name = mine.name ∙ sym but.name;
    session = mine.session ∙ sym but.session;
    local = mine.local;
    told = mine.told;
    may = subst (λ l. MayBeTold l h mine.told.told mine.told.known) (sym but.told) mine.may;
    transaction = subst (λ (wr : Result Work Refusal). IsOpenAs y.connection mine.told wr (Some (record { framed = t.framed; view = t.view; changes = ch }))) (sym works)
        (let z : IsWorkOf y.connection mine.told w (record { framed = t.framed; view = t.view; changes = ch }) = record { changes = is; near = near; view = view t.view sees } in z);
  }

  -- where none is open
  pub closed_change : (l : Line) (reply : Answer) (r : Refusal) → TakesUnvoted l → work_of x.connection ≡ Err r → work_of y.connection ≡ work_of x.connection → reply ≡ answer.Refused r → OneLeadsTo (IsLineOpen rules m at c l reply) m at h g y after
  closed_change l reply r is works work answers =
      let none = none_of x.connection mine.told (work_of x.connection) r c mine.transaction works in
      stays _ m at h g x y c before after takes same ticks (kept work)
      (refused_open rules m at c l reply m refusal.NoTransaction (ap (λ (o : Option OpenTransaction). line_refusal (option_map (λ (t : OpenTransaction). t.changes) o) l) none.1 ∙ is.closed) (answers ∙ ap (λ (z : Refusal). answer.Refused z) none.0) refl)

  -- where it is voted
  pub voted_change : (l : Line) (reply : Answer) (w : Work) → TakesUnvoted l → (o : IsOpened x.connection mine.told w c) → w.is_voted ≡ true → work_of y.connection ≡ work_of x.connection → reply ≡ answer.Refused refusal.Voted
      → OneLeadsTo (IsLineOpen rules m at c l reply) m at h g y after
  voted_change l reply w is o voted work answers =
      stays _ m at h g x y c before after takes same ticks (kept work)
      (refused_open rules m at c l reply m refusal.Voted
      (ap (λ (z : Option OpenTransaction). line_refusal (option_map (λ (t : OpenTransaction). t.changes) z) l) o.begun ∙ is.voted o.transaction.changes ∙ ap (λ (ch : Changes). refuse_if ch.is_voted refusal.Voted) o.is.changes ∙ ap (λ (b : Bool). refuse_if b refusal.Voted) voted)
      answers refl)

  pub starved_change : (l : Line) (reply : Answer) → work_of y.connection ≡ work_of x.connection → reply ≡ answer.Refused refusal.Memory → OneLeadsTo (IsLineOpen rules m at c l reply) m at h g y after
  starved_change l reply work answers = stays _ m at h g x y c before after takes same ticks (kept work) (starved_open rules m at c l reply m answers refl)

  pub unvoted_free : (l : Line) (w : Work) → TakesUnvoted l → (o : IsOpened x.connection mine.told w c) → w.is_voted ≡ false → line_refusal (changes_of c) l ≡ None
  unvoted_free l w is o unvoted =
      ap (λ (z : Option OpenTransaction). line_refusal (option_map (λ (t : OpenTransaction). t.changes) z) l) o.begun ∙ is.voted o.transaction.changes ∙ ap (λ (ch : Changes). refuse_if ch.is_voted refusal.Voted) o.is.changes ∙ ap (λ (b : Bool). refuse_if b refusal.Voted) unvoted

  -- where the change is made, or refused
  pub made_to : (Q : Moment → Type 0) (change : Changes → Changed) (reply : Answer) (w : Work) (next : Result Work Refusal) → (o : IsOpened x.connection mine.told w c) → AgreesAs w next (change (changes_kept w))
      → ((v : Work) × (next ≡ Ok v) × (work_of y.connection ≡ Ok v) × (reply ≡ (change (changes_kept w)).answer)) ⊎ ((r : Refusal) × (next ≡ Err r) × (work_of y.connection ≡ Ok w) × (reply ≡ answer.Refused r))
      → ((now : Moment) → IsChange m at c o.transaction (change o.transaction.changes) reply now → Q now) → OneLeadsTo Q m at h g y after
  made_to Q change reply w next o agrees (inl (v, ok, works, answers)) made =
      let to : v ≡ with_kept w (change (changes_kept w)).changes = subst (λ (z : Result Work Refusal). AgreesAs w z (change (changes_kept w))) ok agrees in
      let left : (change o.transaction.changes).changes ≡ changes_kept v = ap (λ (ch : Changes). (change ch).changes) o.is.changes ∙ ap changes_kept (sym to) in
      changes_to Q m at h g x y c (with_changes c o.transaction (change o.transaction.changes).changes) before after takes same ticks (changed o.transaction (change o.transaction.changes).changes v o.is.near o.is.view works left)
      (made (with_client m at (with_changes c o.transaction (change o.transaction.changes).changes)) (answers ∙ ap (λ (ch : Changes). (change ch).answer) (sym o.is.changes), refl))
  made_to Q change reply w next o agrees (inr (r, err, works, answers)) made =
      let so = subst (λ (z : Result Work Refusal). AgreesAs w z (change (changes_kept w))) err agrees in
      let left : (change o.transaction.changes).changes ≡ changes_kept w = ap (λ (ch : Changes). (change ch).changes) o.is.changes ∙ so.1 in
      changes_to Q m at h g x y c (with_changes c o.transaction (change o.transaction.changes).changes) before after takes same ticks (changed o.transaction (change o.transaction.changes).changes w o.is.near o.is.view works left)
      (made (with_client m at (with_changes c o.transaction (change o.transaction.changes).changes)) (answers ∙ sym so.0 ∙ ap (λ (ch : Changes). (change ch).answer) (sym o.is.changes), refl))

  same_refusal : {r s : Refusal} → (let z : Result Work Refusal = Err r in z) ≡ Err s → r ≡ s
  same_refusal e = cc

  -- by what the connection says, of an open transaction that isn't voted
  pub next_to : {T : Type 0} → (Q : Moment → Type 0) (change : Changes → Changed) (reply : Answer) (w : Work) (next : Result Work Refusal) (result : Result T Refusal) → (o : IsOpened x.connection mine.told w c) → work_of x.connection ≡ Ok w
      → AgreesAs w next (change (changes_kept w)) → LeavesWork next (work_of x.connection) (work_of y.connection) result
      → ((z : T) (v : Work) → result ≡ Ok z → next ≡ Ok v → reply ≡ (change (changes_kept w)).answer) → ((r : Refusal) → result ≡ Err r → reply ≡ answer.Refused r)
      → ((now : Moment) → IsChange m at c o.transaction (change o.transaction.changes) reply now → Q now) → (result ≡ Err refusal.Memory → reply ≡ answer.Refused refusal.Memory → Q m) → OneLeadsTo Q m at h g y after
  next_to {T} Q change reply w next (Ok z) o works agrees leaves done refused made starves = by_next next refl
    where
      by_next : (n : Result Work Refusal) → next ≡ n → OneLeadsTo Q m at h g y after
      by_next (Ok v) ok = made_to Q change reply w next o agrees (inl (v, ok, leaves.0 ∙ ok, done z v refl ok)) made
      by_next (Err r) err = absurd (not_ok (subst IsOk err leaves.1))
        where
          not_ok : IsOk (let e : Result Work Refusal = Err r in e) → ⊥
          not_ok e = absurd cc
  next_to {T} Q change reply w next (Err r) o works agrees (inl err, stayed) done refused made starves = made_to Q change reply w next o agrees (inr (r, err, stayed ∙ works, refused r refl)) made
  next_to {T} Q change reply w next (Err r) o works agrees (inr starved, stayed) done refused made starves =
      stays Q m at h g x y c before after takes same ticks (kept stayed)
      (starves (ap (λ (z : Refusal). let e : Result T Refusal = Err z in e) starved) (refused r refl ∙ ap (λ (z : Refusal). answer.Refused z) starved))

  -- and of a connection, whatever is open
  pub change_leads : {T : Type 0} → (l : Line) (change : Changes → Changed) (f : Work → Result Work Refusal) (reply : Answer) (result : Result T Refusal) → IsChanging l change → ((w : Work) → AgreesAs w (f w) (change (changes_kept w)))
      → LeavesWork (followed_by (changeable (work_of x.connection)) f) (work_of x.connection) (work_of y.connection) result
      → ((w v : Work) (z : T) → work_of x.connection ≡ Ok w → result ≡ Ok z → f w ≡ Ok v → reply ≡ (change (changes_kept w)).answer) → ((r : Refusal) → result ≡ Err r → reply ≡ answer.Refused r) → OneLeadsTo (IsLineOpen rules m at c l reply) m at h g y after
  change_leads {T} l change f reply result is agrees leaves done refused = by_work (work_of x.connection) refl
    where
      not_done : (next : Result Work Refusal) (r : Refusal) (z : Result T Refusal) → next ≡ Err r → LeavesWork next (work_of x.connection) (work_of y.connection) z → (s : Refusal) × (z ≡ Err s) × ((s ≡ r) ⊎ (s ≡ refusal.Memory)) × (work_of y.connection ≡ work_of x.connection)
      not_done next r (Ok z) err leaves = absurd (not_ok (subst IsOk err leaves.1))
        where
          not_ok : IsOk (let e : Result Work Refusal = Err r in e) → ⊥
          not_ok e = absurd cc
      not_done next r (Err s) err (inl so, stayed) = (s, refl, inl (same_refusal (sym so ∙ err)), stayed)
      not_done next r (Err s) err (inr starved, stayed) = (s, refl, inr starved, stayed)

      by_work : (wr : Result Work Refusal) → work_of x.connection ≡ wr → OneLeadsTo (IsLineOpen rules m at c l reply) m at h g y after
      by_work (Err r) works = by_refusal (not_done _ r result (ap (λ (z : Result Work Refusal). followed_by (changeable z) f) works) leaves)
        where
          by_refusal : (s : Refusal) × (result ≡ Err s) × ((s ≡ r) ⊎ (s ≡ refusal.Memory)) × (work_of y.connection ≡ work_of x.connection) → OneLeadsTo (IsLineOpen rules m at c l reply) m at h g y after
          by_refusal (s, said, inl so, stayed) = closed_change l reply r is.unvoted works stayed (refused s said ∙ ap (λ (z : Refusal). answer.Refused z) so)
          by_refusal (s, said, inr starved, stayed) = starved_change l reply stayed (refused s said ∙ ap (λ (z : Refusal). answer.Refused z) starved)
      by_work (Ok w) works = by_voted w.is_voted refl
        where
          o : IsOpened x.connection mine.told w c
          o = opened_of x.connection mine.told (work_of x.connection) w c mine.transaction works

          next : (b : Bool) → w.is_voted ≡ b → followed_by (changeable (work_of x.connection)) f ≡ followed_by (if b then (let e : Result Work Refusal = Err refusal.Voted in e) else Ok w) f
          next b voted = ap (λ (z : Result Work Refusal). followed_by (changeable z) f) works ∙ ap (λ (b : Bool). followed_by (if b then (let e : Result Work Refusal = Err refusal.Voted in e) else Ok w) f) voted

          by_voted : (b : Bool) → w.is_voted ≡ b → OneLeadsTo (IsLineOpen rules m at c l reply) m at h g y after
          by_voted true voted = by_refusal (not_done _ refusal.Voted result (next true voted) leaves)
            where
              by_refusal : (s : Refusal) × (result ≡ Err s) × ((s ≡ refusal.Voted) ⊎ (s ≡ refusal.Memory)) × (work_of y.connection ≡ work_of x.connection) → OneLeadsTo (IsLineOpen rules m at c l reply) m at h g y after
              by_refusal (s, said, inl so, stayed) = voted_change l reply w is.unvoted o voted stayed (refused s said ∙ ap (λ (z : Refusal). answer.Refused z) so)
              by_refusal (s, said, inr starved, stayed) = starved_change l reply stayed (refused s said ∙ ap (λ (z : Refusal). answer.Refused z) starved)
          by_voted false unvoted =
              next_to (IsLineOpen rules m at c l reply) change reply w (f w) result o works (agrees w) (subst (λ (z : Result Work Refusal). LeavesWork z (work_of x.connection) (work_of y.connection) result) (next false unvoted) leaves)
              (λ z v said ok. done w v z works said ok) refused
              (λ now change_is. own_open rules m at c l reply now o.transaction o.begun (unvoted_free l w is.unvoted o unvoted) (ap (λ (z : Option OpenTransaction). request_of c.standing (option_map (λ (t : OpenTransaction). t.changes) z) l) o.begun ∙ is.unvoted.asks c.standing o.transaction.changes)
              (is.within m at c o.transaction reply now change_is))
              (λ said starved. starved_open rules m at c l reply m starved refl)

-- ---- the lines

pub store_changes : (oid base : ℕ) (bytes : List ℕ) → IsChanging (line.Store oid base bytes) (λ t. lines.stored t (record { oid = oid; base = base; content = Held bytes }))
store_changes oid base bytes = record { unvoted = record { closed = refl; voted = λ t. refl; asks = λ s t. refl }; within = λ m at c t a now change. change }

pub delete_changes : (oid base : ℕ) → IsChanging (line.Delete oid base) (λ t. lines.deleted t oid base)
delete_changes oid base = record { unvoted = record { closed = refl; voted = λ t. refl; asks = λ s t. refl }; within = λ m at c t a now change. change }

pub check_changes : (oid serial : ℕ) → IsChanging (line.Check oid serial) (λ t. lines.checked t (record { oid = oid; serial = serial }))
check_changes oid serial = record { unvoted = record { closed = refl; voted = λ t. refl; asks = λ s t. refl }; within = λ m at c t a now change. change }

pub save_changes : IsChanging line.Savepoint lines.saved
save_changes = record { unvoted = record { closed = refl; voted = λ t. refl; asks = λ s t. refl }; within = λ m at c t a now change. change }

pub roll_changes : (number : ℕ) → IsChanging (line.Rollback number) (λ t. lines.rolled_back t number)
roll_changes number = record { unvoted = record { closed = refl; voted = λ t. refl; asks = λ s t. refl }; within = λ m at c t a now change. change }

store_done : (t : Changes) (p : PendingStore) (w v : Work) (e : Option ℕ) → stored_unless w p e ≡ Ok v → (lines.store_unless t p e).answer ≡ answer.Stored
store_done t p w v None ok = refl
store_done t p w v (Some n) ok = absurd cc

pub stored_done : (p : PendingStore) (w v : Work) → stored_in_work p w ≡ Ok v → answer.Stored ≡ (lines.stored (changes_kept w) p).answer
stored_done p w v ok = sym (store_done (changes_kept w) p w v (excess_with w.pending.stores p) ok)

roll_done : (t : Changes) (number : ℕ) (w v : Work) (o : Option PendingChanges) → rolled_back_to w number o ≡ Ok v → (lines.rolled_to t number o).answer ≡ answer.Rolled number
roll_done t number w v None ok = absurd cc
roll_done t number w v (Some pending) ok = refl

pub rolled_done : (number : ℕ) (w v : Work) → rolled_back number w ≡ Ok v → answer.Rolled number ≡ (lines.rolled_back (changes_kept w) number).answer
rolled_done number w v ok = sym (roll_done (changes_kept w) number w v (slice_get w.savepoints number) ok)

-- ---- a put, by what is read

pub put_agrees : (oid : ℕ) (bytes : List ℕ) (read : Result (ℕ × List ℕ) Refusal) (w : Work) → AgreesAs w (followed_by (base_read read) (λ base. stored_in_work (record { oid = oid; base = base; content = Held bytes }) w)) (lines.put (changes_kept w) oid bytes read)
put_agrees oid bytes (Ok d) w = stored_agrees (record { oid = oid; base = d.0; content = Held bytes }) w
put_agrees oid bytes (Err (refusal.Missing o false)) w = stored_agrees (record { oid = oid; base = 0; content = Held bytes }) w
put_agrees oid bytes (Err (refusal.Missing o true)) w = (refl, refl)
put_agrees oid bytes (Err _) w = (refl, refl)

pub put_done : (oid : ℕ) (bytes : List ℕ) (read : Result (ℕ × List ℕ) Refusal) (w v : Work) → followed_by (base_read read) (λ base. stored_in_work (record { oid = oid; base = base; content = Held bytes }) w) ≡ Ok v → answer.Stored ≡ (lines.put (changes_kept w) oid bytes read).answer
put_done oid bytes (Ok d) w v ok = stored_done (record { oid = oid; base = d.0; content = Held bytes }) w v ok
put_done oid bytes (Err (refusal.Missing o false)) w v ok = stored_done (record { oid = oid; base = 0; content = Held bytes }) w v ok
put_done oid bytes (Err (refusal.Missing o true)) w v ok = absurd cc
put_done oid bytes (Err _) w v ok = absurd cc

-- ---- what a call on a tree puts

all_so : (w : Work) (a : Answer) (r : Result (List PendingStore) ℕ) → AgreesAs w (stored_all_as w r) (puts_stored (changes_kept w) a r)
all_so w a (Ok stores) = refl
all_so w a (Err n) = (refl, refl)

-- a transaction that became another one, or was refused, as a line says
pub changed_as : (k l : Connection) (told : views.Client) (w : Work) (t : OpenTransaction) (next : Result Work Refusal) (change : Changes → Changed) → IsWorkOf k told w t → InView l t.view told → AgreesAs w next (change (changes_kept w))
    → ((v : Work) × (next ≡ Ok v) × (work_of l ≡ Ok v)) ⊎ ((r : Refusal) × (next ≡ Err r) × (work_of l ≡ Ok w)) → IsOpenAs l told (work_of l) (Some (record { framed = t.framed; view = t.view; changes = (change t.changes).changes }))
changed_as k l told w t next change is view agrees (inl (v, ok, works)) =
    let to : v ≡ with_kept w (change (changes_kept w)).changes = subst (λ (z : Result Work Refusal). AgreesAs w z (change (changes_kept w))) ok agrees in
    subst (λ (wr : Result Work Refusal). IsOpenAs l told wr (Some (record { framed = t.framed; view = t.view; changes = (change t.changes).changes }))) (sym works)
    (let z : IsWorkOf l told v (record { framed = t.framed; view = t.view; changes = (change t.changes).changes }) = record { changes = ap (λ (ch : Changes). (change ch).changes) is.changes ∙ ap changes_kept (sym to); near = is.near; view = view } in z)
changed_as k l told w t next change is view agrees (inr (r, err, works)) =
    let so = subst (λ (z : Result Work Refusal). AgreesAs w z (change (changes_kept w))) err agrees in
    subst (λ (wr : Result Work Refusal). IsOpenAs l told wr (Some (record { framed = t.framed; view = t.view; changes = (change t.changes).changes }))) (sym works)
    (let z : IsWorkOf l told w (record { framed = t.framed; view = t.view; changes = (change t.changes).changes }) = record { changes = ap (λ (ch : Changes). (change ch).changes) is.changes ∙ so.1; near = is.near; view = view } in z)

-- a connection that has a transaction
pub opened_work : (k : Connection) (told : views.Client) (wr : Result Work Refusal) (t : OpenTransaction) → IsOpenAs k told wr (Some t) → (w : Work) × (wr ≡ Ok w) × IsWorkOf k told w t
opened_work k told (Ok w) t is = (w, refl, is)
opened_work k told (Err r) t is = absurd is

kept_as : (k l : Connection) (told : views.Client) (w : Work) (t : OpenTransaction) → IsWorkOf k told w t → InView l t.view told → work_of l ≡ Ok w → IsOpenAs l told (work_of l) (Some t)
kept_as k l told w t is view works = subst (λ (wr : Result Work Refusal). IsOpenAs l told wr (Some t)) (sym works) (let z : IsWorkOf l told w t = record { changes = is.changes; near = is.near; view = view } in z)

module _ (x y : Client) (a : Answer) (p : PendingStore) (ps : List PendingStore) (but : IsSameBut x y) (view : (u : View) (v : views.Client) → InView x.connection u v → InView y.connection u v) where
  puts_in : (told : views.Client) (t : OpenTransaction) (w : Work) (reply : Answer) (result : Result (Unit {0}) Refusal) (b : Bool) → IsWorkOf x.connection told w t → work_of x.connection ≡ Ok w → w.is_voted ≡ b
      → LeavesWork (followed_by (if b then (let e : Result Work Refusal = Err refusal.Voted in e) else Ok w) (stored_all (p ∷ ps))) (work_of x.connection) (work_of y.connection) result → reply ≡ answered result a → IsPutAs x y a (p ∷ ps) reply told t
  puts_in told t w reply (Ok z) true is works voted leaves answers = absurd (not_ok leaves.1)
    where
      not_ok : IsOk (let e : Result Work Refusal = Err refusal.Voted in e) → ⊥
      not_ok e = absurd cc
  puts_in told t w reply (Err r) true is works voted (inl so, stayed) answers =
      let refused : all_stored t.changes a (p ∷ ps) ≡ (let ch : Changed = record { answer = answer.Refused refusal.Voted; changes = t.changes } in ch) =
      ap (λ (b : Bool). if b then (let ch : Changed = record { answer = answer.Refused refusal.Voted; changes = t.changes } in ch) else puts_stored t.changes a (stores_after t.changes.pending.stores (p ∷ ps))) (ap (λ (ch : Changes). ch.is_voted) is.changes ∙ voted) in
      record {
        same = but;
        put = inl (
          answers ∙ ap (λ (z : Result Work Refusal). refused_in z) (sym so) ∙ ap (λ (ch : Changed). ch.answer) (sym refused),
          subst (λ (ch : Changed). IsOpenAs y.connection told (work_of y.connection) (Some (record { framed = t.framed; view = t.view; changes = ch.changes }))) (sym refused) (kept_as x.connection y.connection told w t is (view t.view told is.view) (stayed ∙ works)),
        );
      }
    where
      refused_in : Result Work Refusal → Answer
      refused_in (Ok w) = a
      refused_in (Err r) = answer.Refused r
  puts_in told t w reply (Err r) true is works voted (inr starved, stayed) answers =
      record { same = but; put = inr (answers ∙ ap (λ (z : Refusal). answer.Refused z) starved, kept_as x.connection y.connection told w t is (view t.view told is.view) (stayed ∙ works)) }
  puts_in told t w reply result false is works unvoted leaves answers = by_next (stored_all (p ∷ ps) w) refl result leaves answers
    where
      change : Changes → Changed
      change ch = puts_stored ch a (stores_after ch.pending.stores (p ∷ ps))

      free : all_stored t.changes a (p ∷ ps) ≡ change t.changes
      free = ap (λ (b : Bool). if b then (let ch : Changed = record { answer = answer.Refused refusal.Voted; changes = t.changes } in ch) else change t.changes) (ap (λ (ch : Changes). ch.is_voted) is.changes ∙ unvoted)

      agrees : AgreesAs w (stored_all (p ∷ ps) w) (change (changes_kept w))
      agrees = all_so w a (stores_after w.pending.stores (p ∷ ps))

      put_so : (reply : Answer) → reply ≡ (change (changes_kept w)).answer → IsOpenAs y.connection told (work_of y.connection) (Some (record { framed = t.framed; view = t.view; changes = (change t.changes).changes })) → IsPutAs x y a (p ∷ ps) reply told t
      put_so reply answers open_as = record {
        same = but;
        put = inl (
          answers ∙ ap (λ (ch : Changes). (change ch).answer) (sym is.changes) ∙ ap (λ (ch : Changed). ch.answer) (sym free),
          subst (λ (ch : Changed). IsOpenAs y.connection told (work_of y.connection) (Some (record { framed = t.framed; view = t.view; changes = ch.changes }))) (sym free) open_as,
        );
      }

      done_answer : (r : Result (List PendingStore) ℕ) (v : Work) → stored_all_as w r ≡ Ok v → (puts_stored (changes_kept w) a r).answer ≡ a
      done_answer (Ok stores) v ok = refl
      done_answer (Err n) v ok = absurd cc

      by_next : (n : Result Work Refusal) → stored_all (p ∷ ps) w ≡ n → (result : Result (Unit {0}) Refusal) → LeavesWork (stored_all (p ∷ ps) w) (work_of x.connection) (work_of y.connection) result → reply ≡ answered result a → IsPutAs x y a (p ∷ ps) reply told t
      by_next (Ok v) ok (Ok z) leaves answers =
          put_so reply (answers ∙ sym (done_answer (stores_after w.pending.stores (p ∷ ps)) v ok))
          (changed_as x.connection y.connection told w t (stored_all (p ∷ ps) w) change is (view t.view told is.view) agrees (inl (v, ok, leaves.0 ∙ ok)))
      by_next (Err r) err (Ok z) leaves answers = absurd (not_ok (subst IsOk err leaves.1))
        where
          not_ok : IsOk (let e : Result Work Refusal = Err r in e) → ⊥
          not_ok e = absurd cc
      by_next n is_n (Err r) (inl so, stayed) answers =
          put_so reply (answers ∙ sym (subst (λ (z : Result Work Refusal). AgreesAs w z (change (changes_kept w))) so agrees).0)
          (changed_as x.connection y.connection told w t (stored_all (p ∷ ps) w) change is (view t.view told is.view) agrees (inr (r, so, stayed ∙ works)))
      by_next n is_n (Err r) (inr starved, stayed) answers =
          record { same = but; put = inr (answers ∙ ap (λ (z : Refusal). answer.Refused z) starved, kept_as x.connection y.connection told w t is (view t.view told is.view) (stayed ∙ works)) }

  pub puts_leave : (reply : Answer) (result : Result (Unit {0}) Refusal) → LeavesWork (followed_by (changeable (work_of x.connection)) (stored_all (p ∷ ps))) (work_of x.connection) (work_of y.connection) result → reply ≡ answered result a → IsPutAll x y a (p ∷ ps) reply
  puts_leave reply result leaves answers told t is =
      let w = opened_work x.connection told (work_of x.connection) t is in
      puts_in told t w.0 reply result w.0.is_voted w.2 w.1 refl (subst (λ (z : Result Work Refusal). LeavesWork (followed_by (changeable z) (stored_all (p ∷ ps))) (work_of x.connection) (work_of y.connection) result) w.1 leaves) answers
