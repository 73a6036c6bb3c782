-- What a line of a client with a link leaves over a carrier to a hub is a line of its turn.
use Rattle.std.proofs.Common.{◌≡◌, ℕ, Bool, false, List, Option, Some, None, Result, Ok, Err, refl, sym, ap, subst, ◌∙◌, inl}
use Rattle.std.specs.Prelude.{◌⊎◌, IfOk, IsOk, length, slice_get}
use Rattle.zb_ids.specs.declared.stamp.Stamp.{Stamp}
use Rattle.zb_model.specs.declared.data.Content.TheVariants.{Held}
use Rattle.zb_model.specs.declared.data.Transaction.{Transaction}
use Rattle.zb_model.specs.declared.pending.PendingCheck.{PendingCheck}
use Rattle.zb_model.specs.declared.pending.PendingStore.{PendingStore}
use Rattle.zb_model.specs.declared.refusal.Refusal.{Refusal}
use Rattle.zb_model.specs.declared.refusal.Refusal.TheVariants as refusal
use Rattle.zb_model.specs.Rules.{MergeRules}
use Rattle.zb_answers.specs.declared.answer.Answer.{Answer}
use Rattle.zb_answers.specs.declared.answer.Answer.TheVariants as answer
use Rattle.zb_script.specs.declared.line.Line.{Line}
use Rattle.zb_script.specs.declared.line.Line.TheVariants as line
use Rattle.commit_phases.specs.Pending.{PendingChanges, excess_with}
use Rattle.zodb_core.specs.declared.reply.Reply.{Reply}
use Rattle.zodb_core.specs.declared.request.Request.{Request}
use Rattle.zodb_core.specs.HubState.{HubState, rules_of}
use Rattle.zodb_core.specs.Machine.{Machine, Rules}
use Rattle.connection_view.specs.Works.{Work}
use Rattle.connection_view.specs.Connections.{checked_in_work, deleted_in_work, front_answer, rolled_back, saved, stored_in_work, work_of}
use Rattle.connection_view.specs.Loading.{Front}
use Rattle.connection_view.specs.declared.loads.FrontView.{FrontView}
use Rattle.hub_carrier.specs.declared.trouble.Trouble.{Trouble}
use Rattle.hub_carrier.specs.declared.trouble.Trouble.TheVariants as trouble
use Rattle.hub_carrier.specs.Ends.{HubEnd, StepsThere, end_at, machine_at}
use Rattle.client_turns.specs.declared.linked.LinkedClient.{LinkedClient}
use Rattle.client_turns.specs.Asking.{answered, saved_as}
use Rattle.client_turns.specs.Lines as lines
use Rattle.client_turns.specs.Lines.{Changed, end_of}
use Rattle.client_turns.specs.Linked.{LinkLeadsTo, LinkedEnds, TakesLinked}
use Rattle.client_turns.specs.Calls.{done_as}
use Rattle.client_turns.specs.OverCarrier.{AbortOver, BeginOver, ChangeOver, DeliverOver, FinishOver, HearsAt, MakesAt, SaveOver, ToldOver, heard, unheard}
use Rattle.client_turns.specs.Clients.{Changes}
use Rattle.client_turns.specs.Settling.{settled}
use Rattle.client_turns.specs.Standing.{IsLineOpen, changes_kept}
use Rattle.client_turns.specs.Turns.{IsCutAt}
use Rattle.client_turns.proofs.Changing.{AgreesAs, IsChanging, check_changes, checked_agrees, delete_changes, deleted_agrees, roll_changes, rolled_agrees, rolled_done, save_changes, saved_agrees, store_changes, stored_agrees, stored_done}
use Rattle.client_turns.proofs.LinkBegins as begins
use Rattle.client_turns.proofs.LinkChanges.{IsGiven, change_over}
use Rattle.client_turns.proofs.LinkDelivers as delivers
use Rattle.client_turns.proofs.LinkEnds.{LinkEnd, abort_over, link_end}
use Rattle.client_turns.proofs.LinkFinishes.{finish_over}
use Rattle.client_turns.proofs.One.{starved_open}
use Rattle.client_turns.proofs.Others.{others_same}

-- ---- answers of changes

store_given : (ch : Changes) (p : PendingStore) (e : Option ℕ) → IsGiven (lines.store_unless ch p e).answer
store_given ch p None = record { goes_on = refl; calm = refl }
store_given ch p (Some n) = record { goes_on = refl; calm = refl }

stored_given : (p : PendingStore) (ch : Changes) → IsGiven (lines.stored ch p).answer
stored_given p ch = store_given ch p (excess_with ch.pending.stores p)

roll_given : (number : ℕ) (ch : Changes) (o : Option PendingChanges) → IsGiven (lines.rolled_to ch number o).answer
roll_given number ch None = record { goes_on = refl; calm = refl }
roll_given number ch (Some pending) = record { goes_on = refl; calm = refl }

rolled_given : (number : ℕ) (ch : Changes) → IsGiven (lines.rolled_back ch number).answer
rolled_given number ch = roll_given number ch (slice_get ch.savepoints number)

module _ {R F : Type 0} (told lasts : Type 0) (stands : List ℕ → List Transaction → Type 0) (rules_in : R → MergeRules) (named_in : F → List ℕ → Option (List ℕ)) (x y : LinkedClient) (h g : HubState R F) (before after : Option (List Stamp)) (packs : Bool) (t : Trouble) (name : y.name ≡ x.name) (number : y.session ≡ x.session) where
  abbrev pub Steps : ℕ → Request → Reply → HubEnd R F → HubEnd R F → Type 0
  Steps n q r s u = StepsThere told lasts stands rules_in named_in n q r s u

  abbrev pub machine : HubEnd R F → Machine
  machine e = machine_at e.hub

  abbrev pub a : LinkEnd R F
  a = link_end (end_at h before false trouble.NoFault) x

  abbrev pub b : LinkEnd R F
  b = link_end (end_at g after packs t) y

  abbrev pub Takes : Line → Answer → Type 0
  Takes l given = TakesLinked told (rules_of rules_in named_in h) l given h g x y before after

  pub begin_law : (raw given : Answer) → BeginOver told Steps machine x.connection a raw y.connection b → given ≡ settled raw t → Takes line.Begin given
  begin_law raw given o is =
      begins.begin_over told lasts stands rules_in named_in x y h g before after packs t (λ l. l) a b refl refl name number o.result o.front o.begun o.view o.stands o.refused o.makes o.err given (is ∙ ap (λ (z : Answer). settled z t) o.answer)

  pub abort_law : (raw given : Answer) → AbortOver told Steps machine x.connection a raw y.connection b → given ≡ settled raw t → Takes line.Abort given
  abort_law raw given o is =
      abort_over told lasts stands rules_in named_in x y h g before after packs t (λ l. l) a b refl refl name o.result o.ended o.dropped o.refused o.makes o.err o.same number given (is ∙ ap (λ (z : Answer). settled z t) o.answer)

  pub finish_law : (raw given : Answer) → FinishOver told Steps machine x.connection a raw y.connection b → given ≡ settled raw t → Takes line.Finish given
  finish_law raw given o is =
      finish_over told lasts stands rules_in named_in x y h g before after packs t (λ l. l) a b refl refl name number o.result o.ended o.left o.refused o.makes o.err o.same given (is ∙ ap (λ (z : Answer). settled z t) o.answer)

  -- a change, by what it makes of what waits
  change_law : (l : Line) (change : Changes → Changed) (f : Work → Result Work Refusal) (a_done : Answer) (raw given : Answer) → IsChanging l change → ((w : Work) → AgreesAs w (f w) (change (changes_kept w))) → ((ch : Changes) → IsGiven (change ch).answer)
      → ((w v : Work) → f w ≡ Ok v → a_done ≡ (change (changes_kept w)).answer) → ChangeOver told Steps machine x.connection a f (done_as a_done) raw y.connection b → given ≡ settled raw t → Takes l given
  change_law l change f a_done raw given is agrees gives done o answers =
      change_over told lasts stands rules_in named_in x y h g before after packs t (λ l. l) a b refl refl name number l change f o.result is agrees gives o.leaves o.kept o.view o.between raw
      (λ w v z works said ok. o.answer ∙ ap (λ (e : Result (Unit {0}) Refusal). answered e a_done) said ∙ done w v ok) (λ r said. o.answer ∙ ap (λ (e : Result (Unit {0}) Refusal). answered e a_done) said) given answers

  pub store_law : (oid base : ℕ) (bytes : List ℕ) (raw given : Answer) → ChangeOver told Steps machine x.connection a (stored_in_work (record { oid = oid; base = base; content = Held bytes })) (done_as answer.Stored) raw y.connection b → given ≡ settled raw t
      → Takes (line.Store oid base bytes) given
  store_law oid base bytes raw given o answers =
      let p : PendingStore = record { oid = oid; base = base; content = Held bytes } in
      change_law (line.Store oid base bytes) _ (stored_in_work p) answer.Stored raw given (store_changes oid base bytes) (stored_agrees p) (stored_given p) (stored_done p) o answers

  pub delete_law : (oid base : ℕ) (raw given : Answer) → ChangeOver told Steps machine x.connection a (deleted_in_work oid base) (done_as answer.Deleted) raw y.connection b → given ≡ settled raw t → Takes (line.Delete oid base) given
  delete_law oid base raw given o answers =
      change_law (line.Delete oid base) _ (deleted_in_work oid base) answer.Deleted raw given (delete_changes oid base) (deleted_agrees oid base) (λ ch. record { goes_on = refl; calm = refl }) (λ w v ok. refl) o answers

  pub check_law : (oid serial : ℕ) (raw given : Answer) → ChangeOver told Steps machine x.connection a (checked_in_work (record { oid = oid; serial = serial })) (done_as answer.Checked) raw y.connection b → given ≡ settled raw t → Takes (line.Check oid serial) given
  check_law oid serial raw given o answers =
      let k : PendingCheck = record { oid = oid; serial = serial } in
      change_law (line.Check oid serial) _ (checked_in_work k) answer.Checked raw given (check_changes oid serial) (checked_agrees k) (λ ch. record { goes_on = refl; calm = refl }) (λ w v ok. refl) o answers

  pub rollback_law : (n : ℕ) (raw given : Answer) → ChangeOver told Steps machine x.connection a (rolled_back n) (done_as (answer.Rolled n)) raw y.connection b → given ≡ settled raw t → Takes (line.Rollback n) given
  rollback_law n raw given o answers =
      change_law (line.Rollback n) _ (rolled_back n) (answer.Rolled n) raw given (roll_changes n) (rolled_agrees n) (rolled_given n) (rolled_done n) o answers

  pub savepoint_law : (raw given : Answer) → SaveOver told Steps machine x.connection a raw y.connection b → given ≡ settled raw t → Takes line.Savepoint given
  savepoint_law raw given s answers =
      let o = s.change in
      change_over told lasts stands rules_in named_in x y h g before after packs t (λ l. l) a b refl refl name number line.Savepoint lines.saved saved o.result save_changes saved_agrees (λ ch. record { goes_on = refl; calm = refl }) o.leaves o.kept o.view o.between raw
      (λ w v z works said ok. o.answer ∙ ap saved_as said ∙ ap (λ (n : ℕ). answer.Savepoint n) (subst (λ (r : Result ℕ Refusal). IfOk r (λ number. (w : Work) → work_of x.connection ≡ Ok w → number ≡ length w.savepoints)) said s.number w works))
      (λ r said. o.answer ∙ ap saved_as said) given answers

  -- nothing was called, for want of memory
  pub uncalled_law : (l : Line) (raw given : Answer) → raw ≡ answer.Refused refusal.Memory → b ≡ a → given ≡ settled raw t → Takes l given
  uncalled_law l raw given starved is answers tells m at c takes =
      let rules : Rules = rules_of rules_in named_in h in
      let quiet : t ≡ trouble.NoFault = ap (λ (z : LinkEnd R F). z.there.trouble) is in
      let said : given ≡ answer.Refused refusal.Memory = answers ∙ ap (λ (z : Answer). settled z t) starved ∙ ap (λ (z : Trouble). settled (answer.Refused refusal.Memory) z) quiet in
      subst (λ (z : LinkEnd R F). LinkedEnds (end_of given) rules m at c l given h z.there.hub y z.there.stamps) (sym is)
      (subst (λ (z : Answer). LinkedEnds (end_of z) rules m at c l z h h y before) (sym said)
      (let leads : LinkLeadsTo (λ now. IsLineOpen rules m at c l (answer.Refused refusal.Memory) now ⊎ IsCutAt rules m c l now) m c.session h h before = record {
        now = m;
        holds = inl (starved_open rules m at c l (answer.Refused refusal.Memory) m refl refl);
        stands = takes.stands;
        clients = refl;
        others = others_same c.session h;
      } in
      leads))

  -- a delivery
  told_law : (front : ℕ) (mid : LinkEnd R F) (raw given : Answer) → HearsAt told Steps machine a (Ok front) mid → mid.session ≡ x.session → ToldOver told Steps machine x.connection mid raw y.connection b → given ≡ settled raw t → Takes line.Deliver given
  told_law front mid raw given hears session o answers tells m at c takes =
      let made : (f : Result FrontView Refusal) × MakesAt told Steps machine mid (Front f) b × (o.result ≡ front_answer f) =
      o.makes (delivers.not_closed x.connection takes.client.told (work_of x.connection) c.transaction takes.client.transaction) in
      let j = delivers.heard_stood told lasts stands rules_in named_in x y h g before after packs t (λ l. l) a mid refl name number (Ok front) hears given tells m at c takes b refl front refl session in
      let done : ((b.there) ≡ mid.there) × IsOk made.0 = made.1 tells _ j.1 in
      delivers.delivers told lasts stands rules_in named_in x y h g before after packs t (λ l. l) a mid refl name number (Ok front) hears given tells m at c takes b refl front refl o.result o.front (subst (λ (z : Result ℕ Refusal). IsOk z) (sym made.2) (front_ok made.0 done.1)) done.0 session
      o.view o.between o.stands o.work (answers ∙ ap (λ (z : Answer). settled z t) o.answer)
    where
      front_ok : (f : Result FrontView Refusal) → IsOk f → IsOk (front_answer f)
      front_ok (Ok v) is = refl
      front_ok (Err r) is = absurd cc

  pub deliver_law : (raw given : Answer) → DeliverOver told Steps machine x.connection a raw y.connection b → given ≡ settled raw t → Takes line.Deliver given
  deliver_law raw given (unheard r hears is kept) answers tells m at c takes =
      delivers.unheard told lasts stands rules_in named_in x y h g before after packs t (λ l. l) a b refl name number (Err r) hears given tells m at c takes r refl (answers ∙ ap (λ (z : Answer). settled z t) is)
  deliver_law raw given (heard front mid hears session o) answers tells m at c takes = told_law front mid raw given hears session o answers tells m at c takes
