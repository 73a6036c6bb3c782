-- What reads over links do to the hub, by what is told of them.
use Rattle.std.proofs.Common.{◌≡◌, ◌<◌, ℕ, Bool, true, false, List, length, Option, Some, None, Result, Ok, Err, refl, sym, subst, ◌∙◌, arith, inl, inr}
use Rattle.std.specs.Prelude.{IsSome, is_some, slice_get}
use Rattle.zb_ids.specs.declared.stamp.Stamp.{Stamp}
use Rattle.zb_model.specs.declared.data.Transaction.{Transaction}
use Rattle.zb_model.specs.declared.refusal.Refusal.{Refusal}
use Rattle.zb_model.specs.declared.refusal.Refusal.TheVariants as refusal
use Rattle.zodb_core.specs.HubState.{HubState}
use Rattle.zodb_core.specs.Outcomes.{Answered, StepOutcome}
use Rattle.client_turns.specs.declared.client.Client.{Client}
use Rattle.client_turns.specs.declared.errors.TurnError.{TurnError}
use Rattle.client_turns.specs.declared.linked.LinkedClient.{LinkedClient}
use Rattle.client_turns.specs.declared.member.FarClient.{FarClient}
use Rattle.client_turns.specs.declared.member.Member.{Member}
use Rattle.client_turns.specs.declared.member.Member.TheVariants.{Near, Far}
use Rattle.client_turns.specs.Asking.{IsCalm, TakesRead}
use Rattle.client_turns.specs.Clients.{Moment, OpenTransaction}
use Rattle.client_turns.specs.Clients as seen
use Rattle.client_turns.specs.Gathering.{IsDrawIn, TakesMemberDraw}
use Rattle.client_turns.specs.Linked.{IsLinkedDraw, LinkedGives, MayStand, MayTakeLinked, TakesLinkedDraw, TakesLinkedRead, end_of_result}
use Rattle.client_turns.specs.Members.{IsFarOf, IsLinkedOf}
use Rattle.client_turns.specs.Reads.{EndsReading}
use Rattle.client_turns.specs.OverQuestions.{ReadsLinked}
use Rattle.client_turns.specs.Standing.{ClientsState, IsGotAs, IsGotWhere, MayBeThere, MayReadFor, MayTakeMember, MemberLeadsTo, ReadsHub, TakesMemberRead}
use Rattle.commit_phases.specs.Pending.{pending_of}
use Rattle.zb_model.specs.declared.pending.PendingStore.{PendingStore}
use Rattle.client_turns.proofs.Advancing.{calm_reads, still_reads}
use Rattle.client_turns.proofs.Framing.{keeps_then}
use Rattle.client_turns.proofs.Handing.{keeps_told}
use Rattle.client_turns.proofs.Others.{others_same}
use Rattle.client_turns.proofs.One.{near_leads, set_there}
use Rattle.client_turns.proofs.Placing.{IsClientAt, client_at, there_at}
use Rattle.client_turns.proofs.Stepping.{cut_leads}

-- ---- what is done to the hub

module _ {R F : Type 0} (told lasts : Type 0) (stands : List ℕ → List Transaction → Type 0) where
  -- what holds where less is told holds where more is
  pub retold : (more : Type 0) → (more → told) → (o : StepOutcome) (h g : HubState R F) → ReadsLinked told lasts stands o h g → ReadsLinked more lasts stands o h g
  retold more less o h g reads = record {
    keeps = keeps_told told more lasts stands _ _ o h g less reads.keeps;
    list = λ tells whole. reads.list (less tells) whole;
    whole = λ tells. reads.whole (less tells);
  }

  -- what is read without a link
  pub linked_reads : (o : StepOutcome) (h g : HubState R F) → ReadsHub told lasts stands o h g → ReadsLinked told lasts stands o h g
  linked_reads o h g reads = record { keeps = reads.keeps; list = reads.list; whole = λ tells. reads.whole }

  -- nothing was done
  pub still_linked : (o : StepOutcome) → IsCalm o → (h : HubState R F) → ReadsLinked told lasts stands o h h
  still_linked o calm h = linked_reads o h h (still_reads told lasts stands o calm h)

  quiet_reads : (h g : HubState R F) → ReadsLinked told lasts stands Answered h g → ReadsHub told lasts stands Answered h g
  quiet_reads h g reads = record { keeps = reads.keeps; list = reads.list; whole = refl }

  -- what was answered, and then ended otherwise
  pub calm_linked : (o : StepOutcome) → IsCalm o → (h g : HubState R F) → ReadsLinked told lasts stands Answered h g → ReadsLinked told lasts stands o h g
  calm_linked o calm h g reads = linked_reads o h g (calm_reads told lasts stands o calm h g (quiet_reads h g reads))

  -- one part behind another
  pub then_linked : (o : StepOutcome) (h g k : HubState R F) → ReadsLinked told lasts stands Answered h g → ReadsLinked told lasts stands o g k → ReadsLinked told lasts stands o h k
  then_linked o h g k one two = record {
    keeps = keeps_then told lasts stands h g k o one.keeps one.list two.keeps;
    list = λ tells whole. two.list tells (one.keeps.broken whole) ∙ one.list tells whole;
    whole = two.whole;
  }

  -- a local client's read needs nothing at a link
  pub near_told : (o : StepOutcome) (h g : HubState R F) (x : Member) → ReadsHub told lasts stands o h g → ReadsLinked (told × MayBeThere h x) lasts stands o h g
  near_told o h g x reads = record {
    keeps = keeps_told told (told × MayBeThere h x) lasts stands _ _ o h g (λ both. both.0) reads.keeps;
    list = λ both whole. reads.list both.0 whole;
    whole = λ both. reads.whole;
  }

  pub lost_told : (o : StepOutcome) → IsCalm o → (h : HubState R F) (x : Member) → ReadsLinked (told × MayBeThere h x) lasts stands o h h
  lost_told o calm h x = near_told o h h x (still_reads told lasts stands o calm h)

  -- where some client is there, one may be at its link
  there_linked : (h : HubState R F) (x : FarClient) → x.is_lost ≡ false → MayBeThere h (Far x) → MayStand h x.client
  there_linked h x held there = let is : IsLinkedOf h x.client there.0 = subst (λ (b : Bool). IsFarOf h b x.client there.0) held there.1 in (is.told, is.stands)

-- that of one with a link needs that some client may be there
pub far_told : {R F : Type 0} (told lasts : Type 0) (stands : List ℕ → List Transaction → Type 0) (o : StepOutcome) (h g : HubState R F) (x : FarClient) → x.is_lost ≡ false → ReadsLinked (told × MayStand h x.client) lasts stands o h g
    → ReadsLinked (told × MayBeThere h (Far x)) lasts stands o h g
far_told told lasts stands o h g x held reads = retold (told × MayStand h x.client) lasts stands (told × MayBeThere h (Far x)) (λ both. (both.0, there_linked told lasts stands h x held both.1)) o h g reads

-- of the client at a place, where the clients stand for a moment at which it may read
pub placed_reads : {R F : Type 0} (told lasts : Type 0) (stands : List ℕ → List Transaction → Type 0) (o : StepOutcome) (old : ClientsState R F) (left : Option (List Stamp)) (new : HubState R F) (at : ℕ) → at < length old.clients
    → ((x : Member) → slice_get old.clients at ≡ Some x → ReadsLinked (told × MayBeThere old.hub x) lasts stands o old.hub new) → ReadsLinked (told × MayReadFor old left at) lasts stands o old.hub new
placed_reads told lasts stands o old left new at within reads =
    let x : (y : Member) × (slice_get old.clients at ≡ Some y) = there_at old.clients at within in
    retold (told × MayBeThere old.hub x.0) lasts stands (told × MayReadFor old left at)
    (λ both. let c : IsClientAt old.hub both.1.0.clients at x.0 = client_at old.hub old.clients both.1.0.clients at x.0 both.1.1.clients x.1 in (both.0, (c.client, c.is))) o old.hub new (reads x.0 x.1)

-- ---- reads and draws of a client

-- a local one
pub near_reads : {R F : Type 0} (told : Type 0) (oid : ℕ) (result : Result (ℕ × List ℕ) Refusal) (old new : HubState R F) (x y : Client) (before after : Option (List Stamp)) → TakesRead told IsGotWhere oid result old new x y before after
    → TakesMemberRead told oid result old new (Near x) (Near y) before after
near_reads told oid result old new x y before after takes tells m at c may some =
    near_leads c may.there (takes tells m at c (record {
      stands = record { hub = may.stands.hub; vote = may.stands.vote; within = may.stands.within; counts = may.stands.counts; stamps = may.stands.stamps; client = may.client };
      formed = may.formed;
      there = may.there;
      may = may.may;
    }))

-- nothing was done
still_leads : {R F : Type 0} (Q : Moment → Type 0) (h : HubState R F) (x : Member) (stamps : Option (List Stamp)) (m : Moment) (at : ℕ) (c : seen.Client) → MayTakeMember h stamps m at x c → Q m → MemberLeadsTo Q m at c.session h h x stamps
still_leads Q h x stamps m at c may holds = record {
  now = m;
  holds = holds;
  stands = may.stands;
  client = c;
  placed = set_there m.clients at c may.there;
  is = may.client;
  others = others_same c.session h;
}

starved_ends : (far : Bool) (m : Moment) (t : OpenTransaction) (oid : ℕ) → EndsReading far m.machine t.view oid m.counts m.counts (Err refusal.Memory)
starved_ends true m t oid = refl
starved_ends false m t oid = refl

starved_got : (m : Moment) (o : Option OpenTransaction) (oid : ℕ) → IsSome o → IsGotWhere m o oid (Err refusal.Memory) m
starved_got m None oid some = absurd cc
starved_got m (Some t) oid some = by_pending (pending_of t.changes.pending.stores oid)
  where
    by_pending : (p : Option PendingStore) → IsGotAs m t oid p (Err refusal.Memory) m
    by_pending None = record { later = record { reads = omega arith; others = omega arith }; ends = starved_ends t.framed m t oid; counts = refl; rest = refl }
    by_pending (Some p) = (inr refl, refl)

pub starved_read : {R F : Type 0} (told : Type 0) (oid : ℕ) (h : HubState R F) (x : Member) (stamps : Option (List Stamp)) → TakesMemberRead told oid (Err refusal.Memory) h h x x stamps stamps
starved_read told oid h x stamps tells m at c may some = still_leads (IsGotWhere m c.transaction oid (Err refusal.Memory)) h x stamps m at c may (starved_got m c.transaction oid some)

pub starved_draw : {R F : Type 0} (told : Type 0) (h : HubState R F) (x : Member) (stamps : Option (List Stamp)) → TakesMemberDraw told (Err refusal.Memory) h h x x stamps stamps
starved_draw told h x stamps tells m at c may = still_leads (IsDrawIn m c.session (Err refusal.Memory)) h x stamps m at c may (inr (refl, inl refl))

-- one with a link, of which nothing is known any more where the run ends
gives_by : {R F : Type 0} (P Q : Moment → Type 0) (e : Option TurnError) (m : Moment) (at : ℕ) (c : seen.Client) (old new : HubState R F) (x y : LinkedClient) (after : Option (List Stamp)) → slice_get m.clients at ≡ Some c → IsLinkedOf old x c → y.name ≡ x.name → y.session ≡ x.session
    → ((now : Moment) → P now → Q now) → LinkedGives e P m at c.session old new y after → MemberLeadsTo Q m at c.session old new (Far (record { client = y; is_lost = is_some e })) after
gives_by P Q None m at c old new x y after there is name session less leads = record {
  now = leads.now;
  holds = less leads.now leads.holds;
  stands = leads.stands;
  client = leads.client;
  placed = leads.placed;
  is = leads.is;
  others = leads.others;
}
gives_by P Q (Some why) m at c old new x y after there is name session less leads = cut_leads P Q m at c.session c old new x y after there is name session leads less

far_gives : {R F : Type 0} (P Q : Moment → Type 0) (e : Option TurnError) (m : Moment) (at : ℕ) (c : seen.Client) (old new : HubState R F) (x : FarClient) (y : LinkedClient) (lost : Bool) (before after : Option (List Stamp)) → x.is_lost ≡ false → lost ≡ is_some e → y.name ≡ x.client.name → y.session ≡ x.client.session
    → MayTakeMember old before m at (Far x) c → ((now : Moment) → P now → Q now) → (MayTakeLinked old before m at x.client c → LinkedGives e P m at c.session old new y after) → MemberLeadsTo Q m at c.session old new (Far (record { client = y; is_lost = lost })) after
far_gives P Q e m at c old new x y lost before after held is name session may less gives =
    let mine : IsLinkedOf old x.client c = subst (λ (b : Bool). IsFarOf old b x.client c) held may.client in
    subst (λ (b : Bool). MemberLeadsTo Q m at c.session old new (Far (record { client = y; is_lost = b })) after) (sym is)
    (gives_by P Q e m at c old new x.client y after may.there mine name session less (gives (record { stands = may.stands; client = mine; formed = may.formed; there = may.there; may = may.may })))

pub far_reads : {R F : Type 0} (told : Type 0) (oid : ℕ) (result : Result (ℕ × List ℕ) Refusal) (old new : HubState R F) (x : FarClient) (y : LinkedClient) (lost : Bool) (before after : Option (List Stamp)) → x.is_lost ≡ false → lost ≡ is_some (end_of_result result) → TakesLinkedRead told IsGotWhere oid result old new x.client y before after
    → y.name ≡ x.client.name → y.session ≡ x.client.session → TakesMemberRead told oid result old new (Far x) (Far (record { client = y; is_lost = lost })) before after
far_reads told oid result old new x y lost before after held is takes name session tells m at c may some =
    far_gives (IsGotWhere m c.transaction oid result) (IsGotWhere m c.transaction oid result) (end_of_result result) m at c old new x y lost before after held is name session may (λ now got. got) (λ ready. takes tells m at c ready)

drawn_as : (m : Moment) (n : ℕ) (result : Result ℕ Refusal) (now : Moment) → IsLinkedDraw m n result now → IsDrawIn m n result now
drawn_as m n (Ok oid) now drawn = drawn
drawn_as m n (Err refusal.Memory) now drawn = inr (refl, drawn)
drawn_as m n (Err _) now drawn = inl drawn

pub far_draws : {R F : Type 0} (told : Type 0) (result : Result ℕ Refusal) (old new : HubState R F) (x : FarClient) (y : LinkedClient) (lost : Bool) (before after : Option (List Stamp)) → x.is_lost ≡ false → lost ≡ is_some (end_of_result result) → TakesLinkedDraw told result old new x.client y before after
    → y.name ≡ x.client.name → y.session ≡ x.client.session → TakesMemberDraw told result old new (Far x) (Far (record { client = y; is_lost = lost })) before after
far_draws told result old new x y lost before after held is takes name session tells m at c may =
    far_gives (IsLinkedDraw m c.session result) (IsDrawIn m c.session result) (end_of_result result) m at c old new x y lost before after held is name session may (drawn_as m c.session result) (λ ready. takes tells m at c ready)
