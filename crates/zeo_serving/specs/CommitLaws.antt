-- What a commit of its own and the front behind it keep of a remote client, proved.
use Rattle.std.proofs.Common.{◌≡◌, ℕ, ◌+◌, ◌<◌, ◌≤◌, inl, inr, List, [], ◌∷◌, ◌++◌, Option, Some, None, Bool, true, false, cond, refl, ap, sym, ◌∙◌, subst, arith}
use Rattle.std.specs.Prelude.{◌||◌, ◌==◌, not}
use Rattle.std.specs.Option.{option_or}
use Rattle.std.proofs.lemmas.Bool.{eqb-true}
use Rattle.zb_model.specs.declared.data.Transaction.{Transaction}
use Rattle.zb_model.specs.declared.news.News.{News}
use Rattle.zb_model.specs.declared.refusal.Refusal.{Refusal}
use Rattle.zb_model.specs.declared.refusal.Refusal.TheVariants as refusal
use Rattle.zb_model.specs.Database.{newest_tid}
use Rattle.zb_model.specs.Queries.{oids_of}
use Rattle.zodb_core.specs.declared.journal.JournalEntry.TheVariants as journal
use Rattle.zodb_core.specs.declared.reply.Reply.{Reply}
use Rattle.zodb_core.specs.declared.reply.Reply.TheVariants as reply
use Rattle.zodb_core.specs.declared.request.Request.TheVariants as request
use Rattle.zodb_core.specs.Machine.{Machine, MachineVote, Rules, holds_vote, is_open_in, switches_of, told_of}
use Rattle.zodb_core.specs.Sound.{IsSoundMachine}
use Rattle.zodb_core.specs.Steps.{Stepped, early_refusal, entry_of, finish_gives, finish_step, refuse_if, step_of, unless_early, with_commit}
use Rattle.connection_view.specs.Views.{Client, committed, either, is_one_of, no_object}
use Rattle.zeo_cache.specs.declared.interval.Interval.{Interval}
use Rattle.zeo_cache.specs.Intervals.{Intervals, interval_of}
use Rattle.zeo_serving.specs.declared.standing.Standing.{Standing}
use Rattle.zeo_serving.specs.FrontLaws.{front_answered, front_open, left_false, right_false}
use Rattle.zeo_serving.specs.HoldLaws.{holds_on}
use Rattle.zeo_serving.specs.KnowLaws.{know_own}
use Rattle.zeo_serving.specs.Laws.{AreDropped, CommitsDeliver, CommitsServe, nothing_asked}
use Rattle.zeo_serving.specs.Serving.{IsDelivered, IsServed, IsServedBehind, told_client, view_at}
use Rattle.zeo_serving.specs.ServingLaws.{vote_later}

-- what a finish that committed did: the session held the vote, and what it was to write is appended
pub record IsCommitted (m now : Machine) (n : ℕ) : Type 0 where
  pub vote : MachineVote
  pub written : Transaction
  pub held : m.vote ≡ Some vote
  pub session : vote.session ≡ n
  pub writes : vote.writes ≡ Some written
  pub left : now ≡ with_commit m n written

second_none : (a b : Option Refusal) → option_or a b ≡ None → b ≡ None
second_none None b e = e
second_none (Some r) b e = absurd cc

held_by : (b : Bool) → refuse_if (not b) refusal.NotVoted ≡ None → b ≡ true
held_by true e = refl
held_by false e = absurd cc

gives_commit : (m : Machine) (n tid : ℕ) (v : MachineVote) → m.vote ≡ Some v → v.session ≡ n → (writes : Option Transaction) → v.writes ≡ writes → (finish_gives m n writes).reply ≡ reply.Committed tid → IsCommitted m (finish_gives m n writes).machine n
gives_commit m n tid v held session None is answer = absurd cc
gives_commit m n tid v held session (Some t) is answer = record { vote = v; written = t; held = held; session = session; writes = is; left = refl }

finish_commit : (m : Machine) (n tid : ℕ) (vote : Option MachineVote) → m.vote ≡ vote → holds_vote n vote ≡ true → (finish_step m n vote).reply ≡ reply.Committed tid → IsCommitted m (finish_step m n vote).machine n
finish_commit m n tid None held holds answer = absurd cc
finish_commit m n tid (Some v) held holds answer = gives_commit m n tid v held (eqb-true v.session n holds) v.writes refl answer

early_commit : (m : Machine) (n tid : ℕ) (early : Option Refusal) → (early ≡ None → holds_vote n m.vote ≡ true) → (unless_early early m (finish_step m n m.vote)).reply ≡ reply.Committed tid
    → IsCommitted m (unless_early early m (finish_step m n m.vote)).machine n
early_commit m n tid (Some r) holds answer = absurd cc
early_commit m n tid None holds answer = finish_commit m n tid m.vote refl (holds refl) answer

pub commit_is : (rules : Rules) (m : Machine) (n tid stamp : ℕ) → (step_of rules m n request.Finish stamp).reply ≡ reply.Committed tid → IsCommitted m (step_of rules m n request.Finish stamp).machine n
commit_is rules m n tid stamp answer =
    early_commit m n tid (early_refusal m n request.Finish)
    (λ none. held_by (holds_vote n m.vote) (second_none (refuse_if (not (is_open_in m.sessions n)) refusal.NotOpen) (refuse_if (not (holds_vote n m.vote)) refusal.NotVoted) none)) answer

abbrev no_vote : Option MachineVote
no_vote = None

none_held : (v : MachineVote) → no_vote ≡ Some v → ⊥
none_held v e = absurd cc

served_behind : (m now : Machine) (n : ℕ) → IsSoundMachine m → IsCommitted m now n → (z : Standing) (entries : Intervals) (c : Client) → IsServed m n z entries c → IsServedBehind now n z entries c
served_behind m now n sound did z entries c x =
    let t : Transaction = did.written in
    let above : newest_tid m.list < t.tid = vote_later m.list m.vote sound.next did.vote t did.held did.writes in
    let list : now.list ≡ m.list ++ t ∷ [] = ap (λ (k : Machine). k.list) did.left in
    let entries_are : now.journal ≡ m.journal ++ journal.Commit n t.tid (oids_of t) ∷ [] = ap (λ (k : Machine). k.journal) did.left in
    let told : told_of n now.sessions ≡ told_of n m.sessions = ap (λ (k : Machine). told_of n k.sessions) did.left in
    record {
      knows = know_own m now n c.voted c.known t told x.knows above list entries_are (x.votes did.vote t did.held did.session did.writes);
      told = x.told;
      quiet = x.quiet;
      free = λ v e s. none_held v (sym (ap (λ (k : Machine). k.vote) did.left) ∙ e);
      asked = x.asked;
      each = λ oid e there. holds_on c.known m.list now.list (switches_of m.journal) (switches_of now.journal) oid e sound.database x.knows.later (inl (inr (record { newest = t; behind = list; later = above }))) (x.each oid e there);
    }

pub commits_serve : CommitsServe
commits_serve rules m n tid stamp sound answer z entries c x = served_behind m (step_of rules m n request.Finish stamp).machine n sound (commit_is rules m n tid stamp answer) z entries c x

pub commits_deliver : CommitsDeliver
commits_deliver rules m n front switches stamp news sound answer z before kept entries c x dropped delivered =
    front_answered m n front switches news (nothing_asked z) kept entries c c.voted (either c.own c.voted) no_object sound.database x.knows x.told x.quiet
    (λ oid e there. x.each oid e (dropped oid e there).0)
    (λ oid e there. x.asked oid (dropped oid e there).1) delivered
    (λ oid free. (left_false (c.own oid) (c.voted oid) free, right_false (c.own oid) (c.voted oid) free))
    (λ v u e s w oid h. absurd (x.free v e s))
    (λ oid free. refl)
    (early_refusal m n request.Front) (front_open m n) answer
