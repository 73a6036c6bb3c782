-- What lines read is below their view's front.
use Rattle.std.proofs.Common.{Bool, Err, List, None, Ok, Option, Result, Some, [], ap, false, inl, inr, not, refl, subst, suc, sym, true, zero, ℕ, ◌∙◌, ◌∷◌, ◌≡◌}
use Rattle.std.specs.Prelude.{slice_get, slice_set}
use Rattle.zb_model.specs.declared.data.Content.{Content}
use Rattle.zb_model.specs.declared.data.Content.TheVariants.{Absent, Held}
use Rattle.zb_model.specs.declared.pending.PendingStore.{PendingStore}
use Rattle.zb_model.specs.declared.refusal.Refusal.{Refusal}
use Rattle.zb_model.specs.declared.refusal.Refusal.TheVariants as refusal
use Rattle.zb_model.specs.Database.{revision_below}
use Rattle.zb_answers.specs.declared.answer.Answer.{Answer}
use Rattle.zb_answers.specs.declared.answer.Answer.TheVariants as answer
use Rattle.zb_script.specs.declared.line.Line.{Line}
use Rattle.zb_script.specs.declared.line.Line.TheVariants as line
use Rattle.zb_script.specs.declared.line.Turn.{Turn}
use Rattle.zb_script.specs.declared.tree_call.TreeCall.{TreeCall}
use Rattle.commit_phases.specs.Pending.{excess_with, pending_of}
use Rattle.tree_attempts.specs.declared.attempt.Made.{Made}
use Rattle.tree_attempts.specs.declared.known.Seen.{Seen}
use Rattle.zodb_core.specs.declared.request.Request.{Request}
use Rattle.zodb_core.specs.Machine.{Machine, Rules, is_open_in}
use Rattle.zodb_core.specs.Outcomes.{FaultCounts}
use Rattle.connection_view.specs.Connections.{waiting_as}
use Rattle.connection_view.specs.Views.{View, current}
use Rattle.client_turns.specs.Clients.{Changes, Client, Moment, OpenTransaction, changes_of, place_of_client}
use Rattle.client_turns.specs.DrawLaws.{stored_answer}
use Rattle.client_turns.specs.Laws.{HasOpen, IsBaseFrom, IsCalledBelow, IsGotBelow, IsGotFrom, IsInViewBelow, IsPutBelow, IsSeenFrom, ReadsStayBelowTheFront}
use Rattle.client_turns.specs.Lines.{Changed, object_of, put, request_of, store_unless, stored, waiting, with_changes}
use Rattle.client_turns.specs.Reads.{EndsReading}
use Rattle.client_turns.specs.Refusing.{connection_refusal, refusal_within}
use Rattle.client_turns.specs.Steps.{IsChange, IsReadAt}
use Rattle.client_turns.specs.Trees.{CallEnds, IsSeen, IsTreeEnd, IsTreeLine, answer_told, operation_of, stores_put}
use Rattle.client_turns.specs.Turns.{IsClosed, IsClosing, IsGet, IsLine, IsLineOf, IsLineTaken, IsLineUnless, IsOwnLine, IsPut, IsTurn, IsWithin}
use Rattle.client_turns.proofs.Data.{held_is, loads_below}
use Rattle.client_turns.specs.TurnLaws.{read_current, read_missing}
use Rattle.zodb_core.specs.Steps.{refuse_if}
use Rattle.std.specs.Option.{option_map, option_or}

-- what a view has is below its front
current_below : (v : View) (oid : ℕ) (got : ℕ × List ℕ) → current v oid ≡ Some got → IsInViewBelow v oid got.0 got.1
current_below v oid got is = held_is oid v.front v.list (revision_below oid v.front v.list) got refl is

-- ---- a line that is no step

-- a connection without a transaction refuses what needs one
none_within : (b : Bool) (l : Line) (o : Option OpenTransaction) → o ≡ None → option_or (refuse_if b refusal.NotOpen) (refusal_within (option_map (λ (t : OpenTransaction). t.changes) o) l) ≡ None → ⊥
none_within true l o none free = absurd cc
none_within false l None none free = absurd cc
none_within false l (Some t) none free = absurd cc

module _ (rules : Rules) (m : Moment) (l : Line) (a : Answer) (now : Moment) (P : Type 0) (refused : (why : Refusal) → a ≡ answer.Refused why → P) (needs : (c : Client) → c.transaction ≡ None → connection_refusal m.machine c l ≡ None → ⊥) where
  own_cases : (at : ℕ) (c : Client) (t : Option OpenTransaction) → c.transaction ≡ t → connection_refusal m.machine c l ≡ None → ((u : OpenTransaction) → c.transaction ≡ Some u → IsWithin m at c u l a now → P) → IsOwnLine m at c t l a now → P
  own_cases at c None is free within own = absurd (needs c is free)
  own_cases at c (Some u) is free within own = within u is own

  unless_cases : (at : ℕ) (c : Client) (why : Option Refusal) → connection_refusal m.machine c l ≡ why → request_of c.standing (changes_of c) l ≡ None → ((u : OpenTransaction) → c.transaction ≡ Some u → IsWithin m at c u l a now → P) → IsLineUnless rules m at c l why a now → P
  unless_cases at c (Some why) is none within taken = refused why taken.0
  unless_cases at c None is none within taken = own_cases at c c.transaction refl is within (subst (λ (q : Option Request). IsLineTaken rules m at c l q a now) none taken)

  of_cases : (at : Option ℕ) → ((c : Client) → request_of c.standing (changes_of c) l ≡ None) → ((n : ℕ) (c : Client) (u : OpenTransaction) → at ≡ Some n → slice_get m.clients n ≡ Some c → c.transaction ≡ Some u → IsWithin m n c u l a now → P)
      → IsLineOf rules m at l a now → P
  of_cases None none within taken = refused refusal.NotOpen taken.0
  of_cases (Some n) none within taken = unless_cases n taken.0 (connection_refusal m.machine taken.0 l) refl (none taken.0) (λ u is. within n taken.0 u refl taken.1 is) taken.2

abbrev open_at : (m : Moment) (name : List ℕ) (n : ℕ) (c : Client) (u : OpenTransaction) → place_of_client name m.clients ≡ Some n → slice_get m.clients n ≡ Some c → c.transaction ≡ Some u → HasOpen m name u
open_at m name n c u place there begun = record { at = n; client = c; place = place; there = there; begun = begun }

-- ---- get

abbrev serial_in : Answer → ℕ
serial_in (answer.Object s b) = s
serial_in _ = 0

abbrev bytes_in : Answer → List ℕ
bytes_in (answer.Object s b) = b
bytes_in _ = []

got_waiting : (v : View) (oid : ℕ) (p : PendingStore) (content : Content) (serial : ℕ) (bytes : List ℕ) → p.content ≡ content → answer.Object serial bytes ≡ object_of (waiting_as oid p.base content) → IsGotFrom v oid (Some p) serial bytes
got_waiting v oid p (Held b) serial bytes holds is = (sym (ap serial_in is), holds ∙ ap (λ (x : List ℕ). Held x) (sym (ap bytes_in is)))
got_waiting v oid p Absent serial bytes holds is = absurd cc

got_read : (far : Bool) (m : Machine) (v : View) (oid serial : ℕ) (bytes : List ℕ) (before now : FaultCounts) (result : Result (ℕ × List ℕ) Refusal) → EndsReading far m v oid before now result → answer.Object serial bytes ≡ object_of result → IsInViewBelow v oid serial bytes
got_read far m v oid serial bytes before now (Ok got) ends is =
    subst (λ (x : ℕ). IsInViewBelow v oid x bytes) (sym (ap serial_in is)) (subst (λ (x : List ℕ). IsInViewBelow v oid got.0 x) (sym (ap bytes_in is)) (current_below v oid got (read_current far m v oid before now got ends)))
got_read far m v oid serial bytes before now (Err why) ends is = absurd cc

got_from : (m : Moment) (t : OpenTransaction) (oid : ℕ) (o : Option PendingStore) (serial : ℕ) (bytes : List ℕ) (now : Moment) → IsGet m t oid o (answer.Object serial bytes) now → IsGotFrom t.view oid o serial bytes
got_from m t oid (Some p) serial bytes now is = got_waiting t.view oid p p.content serial bytes refl is.0
got_from m t oid None serial bytes now is = got_read t.framed m.machine t.view oid serial bytes m.counts now.counts is.0 is.1.ends is.2

pub gets_below : (rules : Rules) (m : Moment) (t : Turn) (last : Bool) (oid serial : ℕ) (bytes : List ℕ) (now : Moment) → t.line ≡ line.Get oid → IsTurn rules m t last (Ok (answer.Object serial bytes)) now → IsGotBelow m t oid serial bytes
gets_below rules m t last oid serial bytes now asks is =
    of_cases rules m (line.Get oid) (answer.Object serial bytes) is.behind (IsGotBelow m t oid serial bytes) (λ why refused. absurd cc) (λ c none free. none_within (not (is_open_in m.machine.sessions c.session)) (line.Get oid) c.transaction none free) (place_of_client t.client m.clients) (λ c. refl)
    (λ n c u place there begun within. record { transaction = u; has = open_at m t.client n c u place there begun; got = got_from m u oid (pending_of u.changes.pending.stores oid) serial bytes is.behind within })
    (subst (λ (l : Line). IsLine rules m t.client l (answer.Object serial bytes) is.behind) asks is.line)

-- ---- put

-- the client in a place is the one that was put there
placed : (cs : List Client) (at : ℕ) (c d : Client) → slice_get cs at ≡ Some c → slice_get (slice_set cs at d) at ≡ Some d
placed [] at c d there = absurd cc
placed (x ∷ cs) zero c d there = refl
placed (x ∷ cs) (suc at) c d there = placed cs at c d there

closed_clients : (rules : Rules) (m now : Moment) (at : Option ℕ) → IsClosed rules m at now → now.clients ≡ m.clients
closed_clients rules m now None is = ap (λ (x : Moment). x.clients) is
closed_clients rules m now (Some at) is = is.1.2.clients

closing_clients : (rules : Rules) (m now : Moment) (name : List ℕ) (last : Bool) → IsClosing rules m name last now → now.clients ≡ m.clients
closing_clients rules m now name false is = ap (λ (x : Moment). x.clients) is
closing_clients rules m now name true is = closed_clients rules m now (place_of_client name m.clients) is

-- what is stored waits
stored_waits : (t : Changes) (p : PendingStore) (o : Option ℕ) → answer.Stored ≡ (store_unless t p o).answer → (store_unless t p o).changes ≡ waiting t p
stored_waits t p None is = refl
stored_waits t p (Some length) is = absurd cc

-- what a put that is answered so was made from
pub record IsPutFrom (m : Machine) (v : View) (t : Changes) (oid : ℕ) (bytes : List ℕ) (o : Option PendingStore) (changes : Changes) : Type 0 where
  pub base : ℕ
  pub from : IsBaseFrom m v oid o base
  pub left : changes ≡ waiting t (record { oid = oid; base = base; content = Held bytes })

abbrev store_at : ℕ → ℕ → List ℕ → PendingStore
store_at oid base bytes = record { oid = oid; base = base; content = Held bytes }

put_from : (far : Bool) (m : Machine) (v : View) (t : Changes) (oid : ℕ) (bytes : List ℕ) (before now : FaultCounts) (result : Result (ℕ × List ℕ) Refusal) → EndsReading far m v oid before now result → answer.Stored ≡ (put t oid bytes result).answer
    → IsPutFrom m v t oid bytes None (put t oid bytes result).changes
put_from far m v t oid bytes before now (Ok got) ends is =
    record { base = got.0; from = inl (got.1, current_below v oid got (read_current far m v oid before now got ends)); left = stored_waits t (store_at oid got.0 bytes) (excess_with t.pending.stores (store_at oid got.0 bytes)) is }
put_from far m v t oid bytes before now (Err (refusal.Missing o false)) ends is =
    record { base = 0; from = inr (refl, (read_missing far m v oid before now o false ends).1); left = stored_waits t (store_at oid 0 bytes) (excess_with t.pending.stores (store_at oid 0 bytes)) is }
put_from far m v t oid bytes before now (Err (refusal.Missing o true)) ends is = absurd cc
put_from far m v t oid bytes before now (Err _) ends is = absurd cc

module _ (m : Moment) (at : ℕ) (c : Client) (t : OpenTransaction) (there : slice_get m.clients at ≡ Some c) (oid : ℕ) (bytes : List ℕ) (now : Moment) where
  -- the changes that a put leaves, and what they are made from
  abbrev Puts : Option PendingStore → Type 0
  Puts o = (changes : Changes) × (slice_get now.clients at ≡ Some (with_changes c t changes)) × IsPutFrom m.machine t.view t.changes oid bytes o changes

  changed_at : (b : Moment) (w : Changed) (a : Answer) → b.clients ≡ m.clients → IsChange b at c t w a now → slice_get now.clients at ≡ Some (with_changes c t w.changes)
  changed_at b w a same change =
      ap (λ (x : Moment). slice_get x.clients at) change.1 ∙ ap (λ (cs : List Client). slice_get (slice_set cs at (with_changes c t w.changes)) at) same ∙ placed m.clients at c (with_changes c t w.changes) there

  put_within : (o : Option PendingStore) → IsPut m at c t oid bytes o answer.Stored now → Puts o
  put_within (Some p) is =
      let w : Changed = stored t.changes (store_at oid p.base bytes) in (
        w.changes,
        changed_at m w answer.Stored refl is,
        record { base = p.base; from = refl; left = stored_waits t.changes (store_at oid p.base bytes) (excess_with t.changes.pending.stores (store_at oid p.base bytes)) is.0 },
      )
  put_within None is =
      let read : IsReadAt m t oid is.0 is.1 = is.2 in
      let w : Changed = put t.changes oid bytes is.0 in
      (w.changes, changed_at is.1 w answer.Stored (ap (λ (x : Moment). x.clients) read.rest) is.3, put_from t.framed m.machine t.view t.changes oid bytes m.counts is.1.counts is.0 read.ends is.3.0)

pub puts_below : (rules : Rules) (m : Moment) (t : Turn) (last : Bool) (oid : ℕ) (bytes : List ℕ) (now : Moment) → t.line ≡ line.Put oid bytes → IsTurn rules m t last (Ok answer.Stored) now → IsPutBelow m t oid bytes now
puts_below rules m t last oid bytes now asks is =
    of_cases rules m (line.Put oid bytes) answer.Stored is.behind (IsPutBelow m t oid bytes now) (λ why refused. absurd cc) (λ c none free. none_within (not (is_open_in m.machine.sessions c.session)) (line.Put oid bytes) c.transaction none free) (place_of_client t.client m.clients) (λ c. refl)
    (λ n c u place there begun within.
    let puts : Puts m n c u there oid bytes is.behind (pending_of u.changes.pending.stores oid) = put_within m n c u there oid bytes is.behind (pending_of u.changes.pending.stores oid) within in
    record {
      transaction = u;
      has = open_at m t.client n c u place there begun;
      base = puts.2.base;
      from = puts.2.from;
      left = ap (λ (cs : List Client). slice_get cs n) (closing_clients rules is.behind now t.client last is.closing) ∙ puts.1 ∙ ap (λ (ch : Changes). Some (with_changes c u ch)) puts.2.left;
    })
    (subst (λ (l : Line). IsLine rules m t.client l answer.Stored is.behind) asks is.line)

-- ---- a line of a tree

seen_from : (m : Machine) (v : View) (oid : ℕ) (o : Option PendingStore) (x : Option Seen) → IsSeen m v oid o x → IsSeenFrom m v oid o x
seen_from m v oid (Some p) x is = is
seen_from m v oid None (Some x) is = current_below v oid (x.serial, x.bytes) is
seen_from m v oid None None is = is

-- what a call is answered, if it isn't refused
answered_as : (m b now : Moment) (at : ℕ) (c : Client) (t : OpenTransaction) (made : Made) (a : Answer) → ((why : Refusal) → ¬ (a ≡ answer.Refused why)) → IsTreeEnd b at c t (Ok made) a now → a ≡ answer_told made.answer
answered_as m b now at c t made a given (inl change) =
    stored_answer (λ (z : Answer). a ≡ z → a ≡ answer_told made.answer) t.changes (answer_told made.answer) (stores_put made.puts) (λ is. is) (λ is. absurd (given refusal.Voted is)) (λ n is. absurd (given (refusal.TooLong n) is)) change.0
answered_as m b now at c t made a given (inr starved) = absurd (given refusal.Memory starved.0)

module _ (m : Moment) (t : Turn) (root : ℕ) (call : TreeCall) (a : Answer) (given : (why : Refusal) → ¬ (a ≡ answer.Refused why)) where
  called_below : (at : ℕ) (c : Client) (u : OpenTransaction) (has : HasOpen m t.client u) (now : Moment) → IsTreeLine m at c u root call a now → IsCalledBelow m t root call a
  called_below at c u has now is = by_result is.result is.ends is.end
    where
      by_result : (r : Result Made Refusal) → CallEnds m c.session u root (operation_of call) r is.behind → IsTreeEnd is.behind at c u r a now → IsCalledBelow m t root call a
      by_result (Ok made) ends end = record {
        transaction = u;
        has = has;
        objects = ends.objects;
        seen = λ oid. seen_from m.machine u.view oid (pending_of u.changes.pending.stores oid) (ends.objects oid) (ends.sees oid);
        numbers = ends.numbers;
        told = made.answer;
        puts = made.puts;
        made = ends.made;
        whole = ends.whole;
        answer = answered_as m is.behind now at c u made a given end;
      }
      by_result (Err why) ends end = absurd (given why end.0)

pub calls_below : (rules : Rules) (m : Moment) (t : Turn) (last : Bool) (root : ℕ) (call : TreeCall) (a : Answer) (now : Moment) → t.line ≡ line.Tree root call → ((why : Refusal) → ¬ (a ≡ answer.Refused why)) → IsTurn rules m t last (Ok a) now
    → IsCalledBelow m t root call a
calls_below rules m t last root call a now asks given is =
    of_cases rules m (line.Tree root call) a is.behind (IsCalledBelow m t root call a) (λ why refused. absurd (given why refused)) (λ c none free. none_within (not (is_open_in m.machine.sessions c.session)) (line.Tree root call) c.transaction none free) (place_of_client t.client m.clients) (λ c. refl)
    (λ n c u place there begun within. called_below m t root call a given n c u (open_at m t.client n c u place there begun) is.behind within)
    (subst (λ (l : Line). IsLine rules m t.client l a is.behind) asks is.line)

pub reads_below : ReadsStayBelowTheFront
reads_below = record { loads = loads_below; gets = gets_below; puts = puts_below; calls = calls_below }
