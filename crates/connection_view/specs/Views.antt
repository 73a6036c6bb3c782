-- What a client sees of a database. Source: MVCC of ZODB, where a connection reads the state just before one transaction; what packing does to a view is own.
use Rattle.std.specs.Prelude.{◌≡◌, ℕ, ◌+◌, ◌≤◌, List, Option, Some, None, Bool, ◌==◌, ◌||◌, true, false}
use Rattle.std.specs.List.{list_any}
use Rattle.std.specs.Option.{option_and_then}
use Rattle.zb_model.specs.declared.data.Content.{Content}
use Rattle.zb_model.specs.declared.data.Content.TheVariants.{Held, Absent}
use Rattle.zb_model.specs.declared.data.Transaction.{Transaction}
use Rattle.zb_model.specs.declared.news.News.{News}
use Rattle.zb_model.specs.declared.news.NewsCommit.{NewsCommit}
use Rattle.zb_model.specs.declared.pending.PendingStore.{PendingStore}
use Rattle.zb_model.specs.Database.{ObjectRevision, newest_tid, revision_below}

-- ---- what is read

-- the serial and the bytes of a revision, where it has bytes
abbrev pub read_as : ℕ → Content → Option (ℕ × List ℕ)
read_as serial (Held bytes) = Some (serial, bytes)
read_as serial Absent = None

abbrev pub read_from : ObjectRevision → Option (ℕ × List ℕ)
read_from r = read_as r.serial r.content

-- the serial and the bytes that an object has below a front, if it has some
abbrev pub read_below : ℕ → ℕ → List Transaction → Option (ℕ × List ℕ)
read_below oid front list = option_and_then read_from (revision_below oid front list)

-- ---- views

-- a front, the list that it was taken of, and how often that had been packed by then
pub record View : Type 0 where
  pub front : ℕ
  pub list : List Transaction
  pub switches : ℕ

-- what an object has in a view
abbrev pub current : View → ℕ → Option (ℕ × List ℕ)
current v oid = read_below oid v.front v.list

-- A view, and one of the same list as it became by commits and packs: below the first one's front the later list has nothing that the earlier one
-- hasn't, and where it wasn't packed since it has the same.
pub record Later (v w : View) : Type 0 where
  pub front : v.front ≤ w.front
  pub switches : v.switches ≤ w.switches
  pub held : (oid front : ℕ) (d : ℕ × List ℕ) → front ≤ v.front → read_below oid front w.list ≡ Some d → read_below oid front v.list ≡ Some d
  pub same : v.switches ≡ w.switches → (oid front : ℕ) → front ≤ v.front → read_below oid front w.list ≡ read_below oid front v.list

-- what stands at the other end of a connection: the list, how often it was packed, and the greatest number of an object that stood in it or was
-- handed out
pub record Server : Type 0 where
  pub list : List Transaction
  pub switches : ℕ
  pub greatest : ℕ

-- the view of the list as it stands
abbrev pub view_of : Server → View
view_of s = record { front = newest_tid s.list + 1; list = s.list; switches = s.switches }

-- ---- news

abbrev pub is_one : ℕ → ℕ → Bool
is_one this oid = oid == this

abbrev pub is_one_of : List ℕ → ℕ → Bool
is_one_of oids oid = list_any (λ o. oid == o) oids

-- one of these commits changed the object
abbrev pub are_changed : List NewsCommit → ℕ → Bool
are_changed commits oid = list_any (λ commit. is_one_of commit.oids oid) commits

-- the news names the object: as one that a commit changed, or as all objects, where more happened than is told of or a pack went over the list
abbrev pub is_news_of : News → ℕ → Bool
is_news_of news oid = news.forget || news.packed || are_changed news.commits oid

-- an object that the news doesn't name, and that the client hasn't changed itself, is in the later view as in the earlier one
abbrev pub Quiet : View → View → News → (ℕ → Bool) → Type 0
Quiet v w news own = (oid : ℕ) → is_news_of news oid ≡ false → own oid ≡ false → current w oid ≡ current v oid

-- ---- clients

abbrev pub no_object : ℕ → Bool
no_object oid = false

abbrev pub each_object : ℕ → Bool
each_object oid = true

abbrev pub either : (ℕ → Bool) → (ℕ → Bool) → ℕ → Bool
either these those oid = these oid || those oid

-- the objects of some stores
abbrev pub stored_in : List PendingStore → ℕ → Bool
stored_in stores oid = list_any (λ p. oid == p.oid) stores

-- A client of a server: the view that its last front told it of, the objects that commits of its own may have changed since, those that a vote of
-- its session may change, if it holds one, and the known front and list of its session.
pub record Client : Type 0 where
  pub told : View
  pub own : ℕ → Bool
  pub voted : ℕ → Bool
  pub known : View

-- just after a front that told it of this
abbrev pub renewed : View → Client → Client
renewed w c = record { told = w; own = no_object; voted = c.voted; known = w }

-- a vote was asked for that may change these objects
abbrev pub voting : (ℕ → Bool) → Client → Client
voting objects c = record c { voted = either c.voted objects }

-- the vote was dropped, or had nothing to write
abbrev pub unvoted : Client → Client
unvoted c = record c { voted = no_object }

-- just after a commit of its own that left this
abbrev pub committed : View → Client → Client
committed w c = record { told = c.told; own = either c.own c.voted; voted = no_object; known = w }
