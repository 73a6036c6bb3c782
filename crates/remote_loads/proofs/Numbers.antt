-- The numbers in calls of which some more are made.
use Rattle.std.proofs.Common.{ℕ, ◌+◌, ◌<◌, List, [], ◌∷◌, ◌++◌, map, take, length, get_or, sym, subst}
use Rattle.std.proofs.lemmas.List.{take_more}
use Rattle.zb_model.specs.declared.data.Content.{Content}
use Rattle.zb_model.specs.declared.data.Content.TheVariants.{Held, Absent}
use Rattle.zb_model.specs.declared.pending.PendingCheck.{PendingCheck}
use Rattle.zb_model.specs.declared.pending.PendingStore.{PendingStore}
use Rattle.zeo_messages.specs.declared.call.Call.{Call}
use Rattle.zeo_messages.specs.declared.call.Call.TheVariants as calls
use Rattle.zeo_messages.specs.Calls.{HoldsCall}
use Rattle.zeo_values.specs.Values.{AreIds, IsId}
use Rattle.zeo_client.specs.Asking.{check_call, content_call, store_call, vote_calls}
use Rattle.remote_loads.specs.Making.{AreHeld}

-- those of a store
store_numbers : (oid base : ℕ) (content : Content) → IsId oid → IsId base → HoldsCall (content_call oid base content)
store_numbers oid base (Held bytes) low below = (low, below)
store_numbers oid base Absent low below = (low, below)

module _ {X : Type 0} (call_of : X → Call) where
  pushed : (xs : List X) (x : X) → AreHeld (map call_of xs) → HoldsCall (call_of x) → AreHeld (map call_of (xs ++ x ∷ []))
  pushed [] x held one = (one, tt)
  pushed (y ∷ xs) x held one = (held.0, pushed xs x held.1 one)

  one_more_held : (xs : List X) (i : ℕ) (d : X) → i < length xs → AreHeld (map call_of (take i xs)) → HoldsCall (call_of (get_or xs i d)) → AreHeld (map call_of (take (i + 1) xs))
  one_more_held xs i d lt held one = subst (λ (ys : List X). AreHeld (map call_of ys)) (sym (take_more xs i d lt)) (pushed (take i xs) (get_or xs i d) held one)

pub one_more_store : (stores : List PendingStore) (i : ℕ) (d : PendingStore) → i < length stores → AreHeld (map store_call (take i stores)) → IsId (get_or stores i d).oid → IsId (get_or stores i d).base
    → AreHeld (map store_call (take (i + 1) stores))
one_more_store stores i d lt held oid base =
    let p = get_or stores i d in
    one_more_held store_call stores i d lt held (store_numbers p.oid p.base p.content oid base)

pub one_more_check : (checks : List PendingCheck) (i : ℕ) (d : PendingCheck) → i < length checks → AreHeld (map check_call (take i checks)) → IsId (get_or checks i d).oid → IsId (get_or checks i d).serial
    → AreHeld (map check_call (take (i + 1) checks))
one_more_check checks i d lt held oid serial = one_more_held check_call checks i d lt held (oid, serial)

-- of tids
pushed_id : (tids : List ℕ) (tid : ℕ) → AreIds tids → IsId tid → AreIds (tids ++ tid ∷ [])
pushed_id [] tid held one = (one, tt)
pushed_id (first ∷ tids) tid held one = (held.0, pushed_id tids tid held.1 one)

pub one_more_id : (tids : List ℕ) (i d : ℕ) → i < length tids → AreIds (take i tids) → IsId (get_or tids i d) → AreIds (take (i + 1) tids)
one_more_id tids i d lt held one = subst (λ (ys : List ℕ). AreIds ys) (sym (take_more tids i d lt)) (pushed_id (take i tids) (get_or tids i d) held one)

-- of a vote
all_held : (first last : List Call) → AreHeld first → AreHeld last → AreHeld (first ++ last)
all_held [] last one two = two
all_held (call ∷ first) last one two = (one.0, all_held first last one.1 two)

pub vote_held : (user description : List ℕ) (stores : List PendingStore) (checks : List PendingCheck) → AreHeld (map store_call stores) → AreHeld (map check_call checks) → AreHeld (vote_calls user description stores checks)
vote_held user description stores checks one two =
    (tt, all_held (map store_call stores ++ map check_call checks) (calls.Vote ∷ []) (all_held (map store_call stores) (map check_call checks) one two) (tt, tt))
