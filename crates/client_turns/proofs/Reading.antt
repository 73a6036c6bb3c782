-- What a client has of an object is read in its moment, and its numbers are drawn there.
use Rattle.std.proofs.Common.{◌≡◌, ℕ, List, Option, Some, None, Result, Ok, Err, sym, subst, ◌∙◌, inl, inr}
use Rattle.std.specs.Prelude.{IsSome, slice_get, slice_set}
use Rattle.zb_ids.specs.declared.stamp.Stamp.{Stamp}
use Rattle.zb_model.specs.declared.pending.PendingStore.{PendingStore}
use Rattle.zb_model.specs.declared.refusal.Refusal.{Refusal}
use Rattle.commit_phases.specs.Pending.{pending_of}
use Rattle.zodb_core.specs.declared.reply.Reply.TheVariants as reply
use Rattle.zodb_core.specs.declared.request.Request.TheVariants as request
use Rattle.client_turns.specs.declared.member.Member.{Member}
use Rattle.client_turns.specs.Clients.{Moment, OpenTransaction}
use Rattle.client_turns.specs.Clients as seen
use Rattle.client_turns.specs.Laws.{IsSoundMoment}
use Rattle.client_turns.specs.Standing.{ClientsState, IsGotAs, IsGotOf, IsGotWhere, LeadsTo, MayReadAt, MayTakeMember, MemberLeadsTo, StandsForMoment}
use Rattle.client_turns.specs.Gathering.{IsDrawIn, IsDrawOf}
use Rattle.client_turns.specs.Trees.{IsDrawn}
use Rattle.client_turns.proofs.Sounding.{MovesOn, read_moves, same_moves, step_moves}
use Rattle.client_turns.proofs.Stepping.{all_lead}

got_as : (m : Moment) (t : OpenTransaction) (oid : ℕ) (p : Option PendingStore) (result : Result (ℕ × List ℕ) Refusal) (now : Moment) → IsSoundMoment m → IsGotAs m t oid p result now → MovesOn m now
got_as m t oid None result now sound read = read_moves m t oid result now sound read
got_as m t oid (Some p) result now sound got = same_moves m now sound got.1

pub got_moves : (m : Moment) (o : Option OpenTransaction) (oid : ℕ) (result : Result (ℕ × List ℕ) Refusal) (now : Moment) → IsSoundMoment m → IsGotWhere m o oid result now → MovesOn m now
got_moves m None oid result now sound got = same_moves m now sound got.1
got_moves m (Some t) oid result now sound got = got_as m t oid (pending_of t.changes.pending.stores oid) result now sound got

pub got_leads : {R F : Type 0} (m : Moment) (at oid : ℕ) (result : Result (ℕ × List ℕ) Refusal) (old new : ClientsState R F) (before after : Option (List Stamp)) → StandsForMoment old before m → MayReadAt m at
    → ((x : Member) → slice_get old.clients at ≡ Some x → (y : Member) × (new.clients ≡ slice_set old.clients at y) × ((c : seen.Client) → MayTakeMember old.hub before m at x c → IsSome c.transaction → MemberLeadsTo (IsGotWhere m c.transaction oid result) m at c.session old.hub new.hub y after))
    → LeadsTo (IsGotOf m at oid result) new after
got_leads m at oid result old new before after stood may takes =
    all_lead (λ c. IsGotWhere m c.transaction oid result) m at old new before after stood (may.0, may.1, may.2) (λ c there now got. got_moves m c.transaction oid result now stood.sound got)
    (λ x there.
    let y = takes x there in
    (y.0, y.1, λ c ready. y.2 c ready (subst (λ (d : seen.Client). IsSome d.transaction) (same_client may.0 c (sym may.1 ∙ ready.there)) may.3)))
  where
    same_client : (a b : seen.Client) → Some a ≡ Some b → a ≡ b
    same_client a b e = cc

-- ---- a number

drawn_moves : (m : Moment) (n oid : ℕ) (now : Moment) → IsSoundMoment m → IsDrawn m n oid now → MovesOn m now
drawn_moves m n oid now sound drawn = step_moves drawn.0 m n (request.NewOids 1) (reply.Oids oid 1) now sound tt drawn.1

draw_moves : (m : Moment) (n : ℕ) (result : Result ℕ Refusal) (now : Moment) → IsSoundMoment m → IsDrawIn m n result now → MovesOn m now
draw_moves m n (Ok oid) now sound drawn = drawn_moves m n oid now sound drawn
draw_moves m n (Err why) now sound (inl refused) = step_moves refused.0 m n (request.NewOids 1) (reply.Refused why) now sound tt refused.1
draw_moves m n (Err why) now sound (inr (starved, inl same)) = same_moves m now sound same
draw_moves m n (Err why) now sound (inr (starved, inr (oid, drawn))) = drawn_moves m n oid now sound drawn

pub draw_leads : {R F : Type 0} (m : Moment) (at : ℕ) (result : Result ℕ Refusal) (old new : ClientsState R F) (before after : Option (List Stamp)) → StandsForMoment old before m → MayReadAt m at
    → ((x : Member) → slice_get old.clients at ≡ Some x → (y : Member) × (new.clients ≡ slice_set old.clients at y) × ((c : seen.Client) → MayTakeMember old.hub before m at x c → MemberLeadsTo (IsDrawIn m c.session result) m at c.session old.hub new.hub y after))
    → LeadsTo (IsDrawOf m at result) new after
draw_leads m at result old new before after stood may takes =
    all_lead (λ c. IsDrawIn m c.session result) m at old new before after stood (may.0, may.1, may.2) (λ c there now drawn. draw_moves m c.session result now stood.sound drawn) takes
