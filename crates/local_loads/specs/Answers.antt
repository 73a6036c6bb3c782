-- What a reply of the hub says to a client. Own.
use Rattle.std.specs.Prelude.{ℕ, [], Option, Some, None, Result, Ok, Err, Bool, true, false, ◌==◌, ◌&&◌, if◌then◌else◌}
use Rattle.zb_model.specs.declared.news.News.{News}
use Rattle.zb_model.specs.declared.refusal.Refusal.{Refusal}
use Rattle.zb_model.specs.declared.refusal.Refusal.TheVariants as refusal
use Rattle.zodb_core.specs.declared.reply.Reply.{Reply}
use Rattle.zodb_core.specs.declared.reply.Reply.TheVariants as reply
use Rattle.connection_view.specs.declared.loads.FrontView.{FrontView}
use Rattle.connection_view.specs.declared.loads.Loaded.{Loaded}
use Rattle.connection_view.specs.declared.loads.Loaded.TheVariants as loaded
use Rattle.local_loads.specs.declared.told.Told.{Told}

-- ---- refusals

-- a refusal that a connection has of its own is none of a hub's: where one came, it would be answered as of a session that isn't open
abbrev pub server_refusal : Refusal → Refusal
server_refusal (refusal.Missing oid packed) = refusal.NotOpen
server_refusal refusal.NoTransaction = refusal.NotOpen
server_refusal refusal.InTransaction = refusal.NotOpen
server_refusal (refusal.NoSavepoint number) = refusal.NotOpen
server_refusal (refusal.Mixed stores) = refusal.NotOpen
server_refusal (refusal.NotATree oid) = refusal.NotOpen
server_refusal (refusal.NodeMissing oid) = refusal.NotOpen
server_refusal refusal.BadKey = refusal.NotOpen
server_refusal r = r

-- why a call is refused by a reply that doesn't answer it
abbrev pub refusal_in : Reply → Refusal
refusal_in (reply.Refused r) = server_refusal r
refusal_in _ = refusal.NotOpen

-- ---- fronts

abbrev pub no_news : News
no_news = record { forget = false; packed = false; commits = [] }

-- more happened than is told of
abbrev pub all_news : News
all_news = record { forget = true; packed = false; commits = [] }

-- nothing happened since the last front where it was the same, of a list that was packed as often
abbrev pub news_since : Option Told → ℕ → ℕ → News
news_since None front switches = all_news
news_since (Some t) front switches = if (t.front == front) && (t.switches == switches) then no_news else all_news

abbrev pub front_answer : Option Told → Reply → Result FrontView Refusal
front_answer told (reply.Front front news switches) = Ok (record { front = front; news = news_since told front switches; switches = switches })
front_answer told r = Err (refusal_in r)

-- what the client was told last, behind a reply
abbrev pub told_after : Option Told → Reply → Option Told
told_after told (reply.Front front news switches) = Some (record { front = front; switches = switches })
told_after told r = told

-- ---- the other calls

abbrev pub load_answer : Reply → Result Loaded Refusal
load_answer (reply.Loaded serial bytes end upto) = Ok (loaded.Held serial bytes)
load_answer (reply.Nothing oid switches) = Ok (loaded.Nothing switches)
load_answer r = Err (refusal_in r)

abbrev pub oid_answer : Reply → Result ℕ Refusal
oid_answer (reply.Oids first count) = Ok first
oid_answer r = Err (refusal_in r)

-- a vote, or an undo
abbrev pub vote_answer : Reply → Result (Unit {0}) Refusal
vote_answer reply.Voted = Ok tt
vote_answer r = Err (refusal_in r)

abbrev pub finish_answer : Reply → Result (Option ℕ) Refusal
finish_answer (reply.Committed tid) = Ok (Some tid)
finish_answer reply.Empty = Ok None
finish_answer r = Err (refusal_in r)

abbrev pub abort_answer : Reply → Result (Unit {0}) Refusal
abort_answer reply.Aborted = Ok tt
abort_answer r = Err (refusal_in r)

-- the reply says that a transaction was committed
abbrev pub is_committed : Reply → Bool
is_committed (reply.Committed tid) = true
is_committed _ = false
