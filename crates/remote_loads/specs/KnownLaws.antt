-- What holds of a client at a machine holds where that is known as another one.
use Rattle.std.proofs.Common.{◌≡◌, ℕ, Bool, false, List, Option, sym, ap, subst, ◌∙◌}
use Rattle.zb_model.specs.declared.data.Transaction.{Transaction}
use Rattle.zodb_core.specs.declared.journal.JournalEntry.{JournalEntry}
use Rattle.zodb_core.specs.Machine.{Machine, MachineSession, MachineVote, OpenPack, is_open_in}
use Rattle.connection_view.specs.Views.{Client}
use Rattle.zeo_cache.specs.Intervals.{Intervals}
use Rattle.zeo_serving.specs.declared.standing.Standing.{Standing}
use Rattle.zeo_serving.specs.Serving.{MayBeServed}
use Rattle.remote_loads.specs.Carrying.{IsKnownAs}

-- one that is whole is that one
pub whole_same : (m now : Machine) → IsKnownAs m now → m.failed ≡ false → now ≡ m
whole_same m now known whole =
    ap (λ (xs : List Transaction). record now { list = xs }) (known.list whole)
    ∙ ap (λ (xs : List JournalEntry). record now { list = m.list; journal = xs }) known.journal
    ∙ ap (λ (k : ℕ). record now { list = m.list; journal = m.journal; greatest = k }) known.greatest
    ∙ ap (λ (xs : List MachineSession). record now { list = m.list; journal = m.journal; greatest = m.greatest; sessions = xs }) known.sessions
    ∙ ap (λ (v : Option MachineVote). record now { list = m.list; journal = m.journal; greatest = m.greatest; sessions = m.sessions; vote = v }) (known.vote whole)
    ∙ ap (λ (p : Option OpenPack). record now { list = m.list; journal = m.journal; greatest = m.greatest; sessions = m.sessions; vote = m.vote; pack = p }) known.pack
    ∙ ap (λ (b : Bool). record m { failed = b }) known.failed

pub known_may : (m now : Machine) (n : ℕ) (z : Standing) (entries : Intervals) (c : Client) → IsKnownAs m now → MayBeServed m n z entries c → MayBeServed now n z entries c
known_may m now n z entries c known may = record {
  at = may.at;
  sound = may.sound;
  served = may.served;
  whole = λ is. let whole : m.failed ≡ false = sym known.failed ∙ is in may.whole whole ∙ sym (whole_same m now known whole);
  shut = λ broke. subst (λ (xs : List MachineSession). is_open_in xs n ≡ false) (sym known.sessions) (may.shut (sym known.failed ∙ broke));
  front = may.front;
  switches = may.switches;
}
