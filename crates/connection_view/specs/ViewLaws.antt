-- Which views come of which, and what a connection in a view says of it. For the proofs of those who hold connections.
use Rattle.std.proofs.Common.{◌≡◌, true, false, Bool, Option, Some, None, Result, Ok, Err, refl, sym, ap, ◌∙◌, ◌⊎◌, arith, inl, inr}
use Rattle.zb_model.specs.declared.refusal.Refusal.{Refusal}
use Rattle.zb_model.specs.declared.refusal.Refusal.TheVariants as refusal
use Rattle.connection_view.specs.declared.connection.Connection.{Connection}
use Rattle.connection_view.specs.Works.{Work}
use Rattle.connection_view.specs.Connections.{InView, IsInView, SeesView, open_work, work_of}
use Rattle.connection_view.specs.Views.{Client, Later, View}

pub later_same : (v : View) → Later v v
later_same v = record { front = omega arith; switches = omega arith; held = λ oid front d low h. h; same = λ e oid front low. refl }

pub later_later : (u v w : View) → Later u v → Later v w → Later u w
later_later u v w a b =
    let af = a.front in let bf = b.front in let asw = a.switches in let bsw = b.switches in
    record {
      front = omega arith;
      switches = omega arith;
      held = λ oid front d low h. a.held oid front d low (b.held oid front d (omega arith) h);
      same = λ e oid front low.
          let e1 : u.switches ≡ v.switches = omega arith in
          let e2 : v.switches ≡ w.switches = omega arith in
          b.same e2 oid front (omega arith) ∙ a.same e1 oid front low;
    }

-- where an open transaction sees from, and that its client was told of a view that came of it
pub record IsSeenFrom (w : Work) (u : View) (c : Client) : Type 0 where
  pub front : w.front ≡ u.front
  pub switches : w.switches ≡ u.switches
  pub later : Later u c.told

pub seen_from : (k : Connection) (u : View) (c : Client) (w : Work) → InView k u c → work_of k ≡ Ok w → IsSeenFrom w u c
seen_from k u c w view is = by_work k.is_open k.work view is
  where
    same_work : (a b : Work) → (let r : Result Work Refusal = Ok a in r) ≡ Ok b → a ≡ b
    same_work a b e = cc

    by_open : (b : Bool) (x : Work) → SeesView x.front x.switches k.asked k.stale k.cache.objects u c → open_work b (Some x) ≡ Ok w → IsSeenFrom w u c
    by_open true x sees is = record { front = ap (λ (y : Work). y.front) (sym (same_work x w is)) ∙ sees.front_is; switches = ap (λ (y : Work). y.switches) (sym (same_work x w is)) ∙ sees.switches_are; later = sees.later }
    by_open false x sees is = absurd cc

    by_work : (b : Bool) (o : Option Work) → IsInView o k.asked k.stale k.cache.objects u c → open_work b o ≡ Ok w → IsSeenFrom w u c
    by_work b None view is = absurd view
    by_work b (Some x) view is = by_open b x view is

-- why a connection has no transaction: it is closed, or none is open
pub unopened : (k : Connection) (r : Refusal) → work_of k ≡ Err r → (r ≡ refusal.NotOpen) ⊎ (r ≡ refusal.NoTransaction)
unopened k r is = by_work k.is_open k.work is
  where
    same_refusal : (a b : Refusal) → (let e : Result Work Refusal = Err a in e) ≡ Err b → b ≡ a
    same_refusal a b e = cc

    by_work : (b : Bool) (o : Option Work) → open_work b o ≡ Err r → (r ≡ refusal.NotOpen) ⊎ (r ≡ refusal.NoTransaction)
    by_work false o is = inl (same_refusal refusal.NotOpen r is)
    by_work true None is = inr (same_refusal refusal.NoTransaction r is)
    by_work true (Some w) is = absurd cc
