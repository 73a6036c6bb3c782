-- What a read in a view answers, by what was loaded or cached.
use Rattle.std.proofs.Common.{◌≡◌, ℕ, Bool, true, false, not, List, Some, None, refl, sym, ◌∙◌, subst, arith, nat_eq}
use Rattle.std.specs.Prelude.{◌==◌}
use Rattle.std.proofs.lemmas.Bool.{eqb-true, eqb-false}
use Rattle.zb_model.specs.declared.refusal.Refusal.{Refusal}
use Rattle.zb_model.specs.declared.refusal.Refusal.TheVariants as refusal
use Rattle.object_cache.specs.Cached.{CachedObjects, CachesAlso, CachesSame, found_at}
use Rattle.object_cache.specs.declared.cache.CachedRevision.{CachedRevision}
use Rattle.object_cache.specs.CachedLaws.{each_of_same, each_with, found_has}
use Rattle.connection_view.specs.declared.loads.Loaded.TheVariants as loaded
use Rattle.connection_view.specs.Views.{View, Server, Later, current, read_below}
use Rattle.connection_view.specs.Loading.{IsLoaded, IsServerRefusal, IsReadRefused}
use Rattle.connection_view.specs.Connections.{CachesView}

-- a refusal of the server is one that a read may be answered
pub server_unread : (v : View) (s : Server) (oid : ℕ) (r : Refusal) → IsServerRefusal r → IsReadRefused v s oid r
server_unread v s oid refusal.TidsSpent h = tt
server_unread v s oid refusal.StoreFault h = tt
server_unread v s oid (refusal.Conflict a b c d) h = tt
server_unread v s oid (refusal.ReadConflict a b c) h = tt
server_unread v s oid (refusal.TooLong a) h = tt
server_unread v s oid (refusal.UndoUnknown a) h = tt
server_unread v s oid (refusal.UndoPacked a) h = tt
server_unread v s oid (refusal.UndoConflict a b) h = tt
server_unread v s oid (refusal.Overtaken a b) h = tt
server_unread v s oid (refusal.Unreadable a b) h = tt
server_unread v s oid (refusal.PackedAlready a) h = tt
server_unread v s oid (refusal.Missing a b) h = absurd h
server_unread v s oid refusal.NoTransaction h = absurd h
server_unread v s oid refusal.InTransaction h = absurd h
server_unread v s oid refusal.NotVoted h = tt
server_unread v s oid refusal.Voted h = tt
server_unread v s oid (refusal.Busy a) h = tt
server_unread v s oid (refusal.PackRunning a) h = tt
server_unread v s oid refusal.OidsSpent h = tt
server_unread v s oid (refusal.JournalFull a) h = tt
server_unread v s oid (refusal.TooManySessions a) h = tt
server_unread v s oid refusal.NotOpen h = tt
server_unread v s oid (refusal.NoSavepoint a) h = absurd h
server_unread v s oid (refusal.FrameTooLong a) h = tt
server_unread v s oid refusal.BadMessage h = tt
server_unread v s oid refusal.LinkFault h = tt
server_unread v s oid refusal.Closed h = tt
server_unread v s oid (refusal.Mixed a) h = absurd h
server_unread v s oid refusal.NoPack h = tt
server_unread v s oid (refusal.NotATree a) h = absurd h
server_unread v s oid (refusal.NodeMissing a) h = absurd h
server_unread v s oid refusal.BadKey h = absurd h
server_unread v s oid refusal.ReadFault h = tt
server_unread v s oid (refusal.NothingToDelete a b) h = tt
server_unread v s oid (refusal.Connected a) h = tt
server_unread v s oid refusal.StepsSpent h = tt
server_unread v s oid refusal.Memory h = tt

-- what a later view has below the front of the view, the view has
pub held_read : (u v : View) (oid front serial : ℕ) (bytes : List ℕ) → Later u v → u.front ≡ front → read_below oid front v.list ≡ Some (serial, bytes) → current u oid ≡ Some (serial, bytes)
held_read u v oid front serial bytes later e h =
    subst (λ (f : ℕ). read_below oid f u.list ≡ Some (serial, bytes)) (sym e) (later.held oid front (serial, bytes) (omega arith) h)

missing_at : (u v : View) (s : Server) (oid front switches now : ℕ) (same : Bool) → nat_eq now switches ≡ same → Later u v → u.front ≡ front → u.switches ≡ switches → IsLoaded oid front v s (loaded.Nothing now)
    → IsReadRefused u s oid (refusal.Missing oid (not same))
missing_at u v s oid front switches now true t later f e h =
    let k : now ≡ switches = eqb-true now switches t in
    let low = later.switches in
    let a = h.0 in
    let b = h.1 in
    let none : read_below oid front v.list ≡ None = h.3 (omega arith) in
    let same : read_below oid front v.list ≡ read_below oid front u.list = later.same (omega arith) oid front (omega arith) in
    (refl, (omega arith, subst (λ (g : ℕ). read_below oid g u.list ≡ None) (sym f) (sym same ∙ none)))
missing_at u v s oid front switches now false t later f e h =
    let k : now ≡ switches → ⊥ = eqb-false now switches t in
    let low = later.switches in
    let a = h.0 in
    let b = h.1 in
    (refl, (omega (arith, k), subst (λ (g : ℕ). read_below oid g s.list ≡ None) (sym f) h.2))

-- where nothing was loaded, the object is missing
pub missing_read : (u v : View) (s : Server) (oid front switches now : ℕ) → Later u v → u.front ≡ front → u.switches ≡ switches → IsLoaded oid front v s (loaded.Nothing now)
    → IsReadRefused u s oid (refusal.Missing oid (not (now == switches)))
missing_read u v s oid front switches now later f e h = missing_at u v s oid front switches now (nat_eq now switches) refl later f e h

-- what is found in the cache is what the view has
pub found_read : (u : View) (objects : List (ℕ × CachedRevision)) (oid front : ℕ) (d : ℕ × List ℕ) → found_at objects oid front ≡ Some d → CachesView u objects → current u oid ≡ Some d
found_read u objects oid front d found cached = (found_has (λ o serial bytes. current u o ≡ Some (serial, bytes)) objects oid front d.0 d.1 found cached).0

pub same_cached : (u : View) (old new : List (ℕ × CachedRevision)) → CachesSame old new → CachesView u old → CachesView u new
same_cached u old new same cached = each_of_same (λ o serial bytes. current u o ≡ Some (serial, bytes)) old new same cached

pub also_cached : (u : View) (old : CachedObjects) (oid serial : ℕ) (bytes : List ℕ) (new : CachedObjects) → CachesAlso old oid (record { serial = serial; bytes = bytes }) new
    → current u oid ≡ Some (serial, bytes) → CachesView u old.objects → CachesView u new.objects
also_cached u old oid serial bytes new also one cached =
    each_with (λ o serial bytes. current u o ≡ Some (serial, bytes)) old oid (record { serial = serial; bytes = bytes }) new also cached one
