-- What steps keep of remote clients, as laws own.
use Rattle.std.specs.Prelude.{◌≡◌, ◌≢◌, ◌⊎◌, ℕ, ◌+◌, ◌<◌, ◌≤◌, List, [], ◌∷◌, ◌++◌, Option, Some, None, Bool, true, false, ◌||◌, length, filter, map}
use Rattle.zb_model.specs.declared.data.Transaction.{Transaction}
use Rattle.zb_model.specs.declared.news.News.{News}
use Rattle.zb_model.specs.declared.news.NewsCommit.{NewsCommit}
use Rattle.zb_model.specs.declared.pending.PendingStore.{PendingStore}
use Rattle.zb_model.specs.Database.{newest_tid}
use Rattle.zodb_core.specs.declared.reply.Reply.{Reply}
use Rattle.zodb_core.specs.declared.reply.Reply.TheVariants as reply
use Rattle.zodb_core.specs.declared.request.Request.{Request}
use Rattle.zodb_core.specs.declared.request.Request.TheVariants as request
use Rattle.zodb_core.specs.Machine.{Machine, MachineVote, Rules, switches_of, told_of}
use Rattle.zodb_core.specs.Outcomes.{StepOutcome, machine_left}
use Rattle.zodb_core.specs.Sound.{IsSoundMachine}
use Rattle.zodb_core.specs.Steps.{Stepped, step_of}
use Rattle.zodb_core.specs.Laws.{left_by_refusal}
use Rattle.commit_phases.specs.Pending.{PendingChanges}
use Rattle.zb_model.specs.declared.refusal.Refusal.{Refusal}
use Rattle.connection_view.specs.Views.{Client, View, committed, each_object, is_news_of, read_below, stored_in, unvoted, voting}
use Rattle.zeo_cache.specs.Intervals.{Intervals, closed_at, found_in, interval_of, kept_end}
use Rattle.zeo_serving.specs.Entries.{AreAmong, AreAmongOr, Changes}
use Rattle.zeo_cache.specs.declared.interval.Interval.{Interval}
use Rattle.zeo_serving.specs.declared.standing.Standing.{Standing}
use Rattle.zeo_serving.specs.Serving.{EachHolds, IsDelivered, IsServed, IsServedBehind, Knows, asks_for, closed_by, synced, told_client, view_at}

-- Each step of another session, however it ends, keeps a client at its session. The law of packing is in it: behind a switch each entry holds as before.
abbrev pub OthersKeep : Type 0
OthersKeep =
    (rules : Rules) (m : Machine) (n other : ℕ) (q : Request) (stamp : ℕ) (o : StepOutcome) → IsSoundMachine m → other ≢ n
    → (z : Standing) (entries : Intervals) (c : Client) → IsServed m n z entries c → IsServed (machine_left rules m other q stamp o) n z entries c

-- A step of the session itself that is no front, vote, undo, finish, abort or close.
abbrev pub is_plain : Request → Bool
is_plain (request.LoadBefore oid front) = true
is_plain (request.NewOids count) = true
is_plain (request.History oid) = true
is_plain request.UndoLog = true
is_plain (request.Pack tid collect) = true
is_plain (request.PackBegin tid collect) = true
is_plain request.PackTurn = true
is_plain request.Last = true
is_plain (request.Since tid changes) = true
is_plain _ = false

abbrev pub OwnKeep : Type 0
OwnKeep =
    (rules : Rules) (m : Machine) (n : ℕ) (q : Request) (stamp : ℕ) (o : StepOutcome) → IsSoundMachine m → is_plain q ≡ true
    → (z : Standing) (entries : Intervals) (c : Client) → IsServed m n z entries c → IsServed (machine_left rules m n q stamp o) n z entries c

-- A front of the session: the entries that the news closes hold in the list as it stands, which the client knows from then on.
abbrev pub FrontsDeliver : Type 0
FrontsDeliver =
    (rules : Rules) (m : Machine) (n front switches stamp : ℕ) (news : News) → IsSoundMachine m → (step_of rules m n request.Front stamp).reply ≡ reply.Front front news switches
    → (z : Standing) (before entries : Intervals) (c : Client) → IsServed m n z before c → IsDelivered news entries before
    → IsServed (step_of rules m n request.Front stamp).machine n (told_client z front switches news) entries (synced (view_at m) c)

-- the entries of what the client asked for are dropped
abbrev pub AreDropped : Standing → Intervals → Intervals → Type 0
AreDropped z now before = (oid : ℕ) (e : Interval) → interval_of now oid ≡ Some e → (interval_of before oid ≡ Some e) × (asks_for z.asked oid ≡ false)

abbrev pub nothing_asked : Standing → Standing
nothing_asked z = record z { asked = record { all = false; oids = [] } }

-- A commit of the session's own: the client knows the list as before but for what it voted on.
abbrev pub CommitsServe : Type 0
CommitsServe =
    (rules : Rules) (m : Machine) (n tid stamp : ℕ) → IsSoundMachine m → (step_of rules m n request.Finish stamp).reply ≡ reply.Committed tid
    → (z : Standing) (entries : Intervals) (c : Client) → IsServed m n z entries c → IsServedBehind (step_of rules m n request.Finish stamp).machine n z entries c

-- And a front behind it: the entries of what was asked for are dropped, and the news of others closes theirs.
abbrev pub CommitsDeliver : Type 0
CommitsDeliver =
    (rules : Rules) (m : Machine) (n front switches stamp : ℕ) (news : News) → IsSoundMachine m
    → (step_of rules m n request.Front stamp).reply ≡ reply.Front front news switches
    → (z : Standing) (before kept entries : Intervals) (c : Client) → IsServedBehind m n z before c → AreDropped z kept before → IsDelivered news entries kept
    → IsServed (step_of rules m n request.Front stamp).machine n (told_client (nothing_asked z) front switches news) entries (committed (view_at m) c)

-- What the cache answers below a known front is what the client's list has.
abbrev pub EntriesAnswer : Type 0
EntriesAnswer =
    (m : Machine) (n : ℕ) (z : Standing) (entries : Intervals) (c : Client) (oid front : ℕ) (d : ℕ × List ℕ) → IsServed m n z entries c → front ≤ z.known
    → found_in (interval_of entries oid) front ≡ Some d → read_below oid front c.known.list ≡ Some d

-- And what the hub answers may be kept.
abbrev pub AnswersAreKept : Type 0
AnswersAreKept =
    (rules : Rules) (m : Machine) (n oid front stamp serial upto : ℕ) (bytes : List ℕ) (end : Option ℕ) → IsSoundMachine m
    → (step_of rules m n (request.LoadBefore oid front) stamp).reply ≡ reply.Loaded serial bytes end upto
    → (z : Standing) (entries before : Intervals) (c : Client) → IsServed m n z before c → front ≤ z.known
    → AreAmongOr oid (record { serial = serial; bytes = bytes; end = kept_end end upto z.known }) entries before → IsServed m n z entries c

-- ---- votes, and what ends them

-- what a client asks to be voted on may be changed by its next commit
abbrev pub asked_also : List PendingStore → Standing → Standing
asked_also stores z = record z { asked = record { all = z.asked.all; oids = z.asked.oids ++ map (λ p. p.oid) stores } }

abbrev pub asked_all : Standing → Standing
asked_all z = record z { asked = record { all = true; oids = z.asked.oids } }

-- A vote, however it ends: a session may hold it though it was refused, where the way back failed.
abbrev pub VotesServe : Type 0
VotesServe =
    (rules : Rules) (m : Machine) (n : ℕ) (user description extension : List ℕ) (pending : PendingChanges) (stamp : ℕ) (o : StepOutcome) → IsSoundMachine m
    → (z : Standing) (entries : Intervals) (c : Client) → IsServed m n z entries c
    → IsServed (machine_left rules m n (request.Vote user description extension pending) stamp o) n (asked_also pending.stores z) entries (voting (stored_in pending.stores) c)

-- So an undo, of which no client knows what it changes.
abbrev pub UndosServe : Type 0
UndosServe =
    (rules : Rules) (m : Machine) (n : ℕ) (user description tids : List ℕ) (stamp : ℕ) (o : StepOutcome) → IsSoundMachine m
    → (z : Standing) (entries : Intervals) (c : Client) → IsServed m n z entries c
    → IsServed (machine_left rules m n (request.Undo user description tids) stamp o) n (asked_all z) entries (voting each_object c)

-- an abort was answered, or a finish that had nothing to write
abbrev pub EndsVote : Request → Reply → Type 0
EndsVote request.Abort r = r ≡ reply.Aborted
EndsVote request.Finish r = r ≡ reply.Empty
EndsVote q r = ⊥

-- Behind either the session holds no vote.
abbrev pub VotesEnd : Type 0
VotesEnd =
    (rules : Rules) (m : Machine) (n : ℕ) (q : Request) (stamp : ℕ) → IsSoundMachine m → EndsVote q (step_of rules m n q stamp).reply
    → (z : Standing) (entries : Intervals) (c : Client) → IsServed m n z entries c → IsServed (step_of rules m n q stamp).machine n (nothing_asked z) entries (unvoted c)

-- Whatever is refused, and however that leaves the machine, the client is the one that it was.
abbrev pub RefusalsServe : Type 0
RefusalsServe =
    (m : Machine) (n : ℕ) (q : Request) (r : Refusal) → IsSoundMachine m → (z : Standing) (entries : Intervals) (c : Client) → IsServed m n z entries c → IsServed (left_by_refusal q r m) n z entries c

-- ---- less

-- this news names each object that the other one names
abbrev pub TellsAll : News → News → Type 0
TellsAll more news = (oid : ℕ) → is_news_of more oid ≡ false → is_news_of news oid ≡ false

-- A client may lose entries, take more for news, and take more objects for ones that its commit may change.
pub record IsLess (z y : Standing) (left before : Intervals) : Type 0 where
  pub known : z.known ≡ y.known
  pub switches : z.switches ≡ y.switches
  pub news : TellsAll z.news y.news
  pub asked : (oid : ℕ) → asks_for z.asked oid ≡ false → asks_for y.asked oid ≡ false
  pub entries : AreAmong left before

abbrev pub LessServes : Type 0
LessServes =
    (m : Machine) (n : ℕ) (z y : Standing) (entries before : Intervals) (c : Client) → IsLess z y entries before → IsServed m n y before c → IsServed m n z entries c

-- ---- openings

-- the client of a session that was told all, and holds no vote: it knows the list as it stands
abbrev pub fresh_client : Machine → Client
fresh_client m = record { told = view_at m; own = λ oid. false; voted = λ oid. false; known = view_at m }

-- A session that was told all that happened, whose client has nothing cached and holds no vote: it was just opened, and has taken a front.
abbrev pub OpeningsServe : Type 0
OpeningsServe =
    (m : Machine) (n : ℕ) (z : Standing) → IsSoundMachine m → told_of n m.sessions ≡ length m.journal → z.known ≡ newest_tid m.list + 1 → z.switches ≡ switches_of m.journal
    → ((v : MachineVote) → m.vote ≡ Some v → v.session ≡ n → ⊥) → IsServed m n z [] (fresh_client m)
